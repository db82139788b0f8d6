-- How an end of a path comes to know where its peer's stream ends, or that positions are places from somewhere on: by a segment of the peer alone
-- that says so. And an end that has the peer's key keeps it.
use Rattle.std.proofs.Common.{◌≡◌, refl, sym, ap, ◌∙◌, subst, ℕ, zero, suc, ◌&&◌, nat_lt, not, Bool, true, false, if◌then◌else◌, Option, Some, None, option_map, is_some, List, [], ◌∷◌, ◌++◌, length, map}
use Rattle.std.specs.List.{flat_map, list_any, slice_get}
use Rattle.std.specs.Option.{IfSome}
use Rattle.std.proofs.lemmas.Bool.{and_parts, false≢true, or_left, or_right}
use Rattle.actor_desk.specs.declared.ask.Reply.{Reply}
use Rattle.control_book.specs.declared.call.ControlReply.{ControlReply}
use Rattle.dss_mapping.specs.Learning.{first_held, first_of, learn_of, learned_if, others_of}
use Rattle.dss_mapping.specs.Mappings.{Mappings, after_learn}
use Rattle.dss_mapping.specs.declared.kept.KeptMapping.{KeptMapping}
use Rattle.dss_mapping.specs.declared.learn.Learn.{Learn}
use Rattle.fallback_state.specs.declared.fall.Event.{Event as FallEvent}
use Rattle.join_handshake.specs.declared.hearing.JoinAnswer.{JoinAnswer}
use Rattle.join_handshake.specs.declared.hearing.JoinSyn.{JoinSyn}
use Rattle.mptcp_options.specs.declared.capable.CapableKeys.{CapableKeys}
use Rattle.mptcp_options.specs.declared.capable.CapableKeys.TheVariants.{Both, NoKey, Sender, WithData}
use Rattle.mptcp_options.specs.declared.join.JoinForm.{JoinForm}
use Rattle.mptcp_options.specs.declared.join.JoinForm.TheVariants.{Answer, Syn, Third}
use Rattle.path_agenda.specs.declared.heard.Heard.{Heard}
use Rattle.path_agenda.specs.declared.keys.KeyPair.{KeyPair}
use Rattle.path_core.specs.Addresses.{item_removed}
use Rattle.path_core.specs.Arrival.{after_judged, asked_in, judged_in, with_payload}
use Rattle.path_core.specs.Breaking.{died_unless_dead}
use Rattle.path_core.specs.Choices.{item_at}
use Rattle.path_core.specs.Deliver.{fins_and, after_pieces}
use Rattle.path_core.specs.DssIn.{HeardOption, ack_items, counts, held_if, held_in, is_mapping, key_held, map_held, map_items, with_data_fin, with_learned, with_skipped}
use Rattle.path_core.specs.End.{PathEnd, died}
use Rattle.path_core.specs.Fallback.{after_fell, after_infinite}
use Rattle.path_core.specs.Judged.{answered_in, cleared_in, taken_as, with_answer}
use Rattle.path_core.specs.MpCapable.{after_keys, key_items, with_peer_key}
use Rattle.path_core.specs.MpJoin.{is_joined, join_answer, join_items, joined_by, never_joined, opened_by}
use Rattle.path_core.specs.OptionsIn.{items_in, items_of, options_heard}
use Rattle.path_core.specs.OptionsOut.{broken_options, reset_said}
use Rattle.path_core.specs.Profile.{Profile}
use Rattle.path_core.specs.Treating.{item_of, item_passed}
use Rattle.path_core.specs.Values.{Carried, as_arrived}
use Rattle.path_core.specs.declared.modes.Modes.{Modes}
use Rattle.path_segments.specs.Heard.{HeardSegment}
use Rattle.path_segments.specs.Laws.{meant, meant_mapping, meant_option}
use Rattle.path_segments.specs.Options.{PlainOption}
use Rattle.path_segments.specs.declared.segment.PathMapping.{PathMapping}
use Rattle.path_segments.specs.declared.segment.PathMapping.TheVariants.{Bytes, End, Infinite}
use Rattle.path_segments.specs.declared.segment.PathOption.TheVariants.{AddAddr, Capable, Dss, Fail, FastClose, Join, Prio, Remove, Reset}
use Rattle.path_store.specs.Receiving.{data_fin_behind, data_fin_reached}
use Rattle.path_store.specs.declared.infinite_mapping.InfiniteMapping.{InfiniteMapping}
use Rattle.path_store.specs.declared.mapped_data_fin.MappedDataFin.{MappedDataFin}
use Rattle.sides.specs.declared.side.Side.TheVariants.{A, B}
use Rattle.sides.specs.declared.side.Side.{Side}
use Rattle.stream_lanes.proofs.Lists.{Every-append, Every-nil, Every-push}
use Rattle.stream_lanes.specs.Words.{Every}
use Rattle.subflow_tcp.specs.States.{is_dead}
use Rattle.subflow_tcp.specs.declared.handshake.State.{State as EndPhase}
use Rattle.subflow_tcp.specs.declared.verdicts.Meaning.{Meaning}
use Rattle.world_laws.proofs.Falls.FailedChecks.{infinite_came_so}
use Rattle.world_laws.proofs.Lanes.Records.{every_cons, every_first, every_rest}
use Rattle.world_laws.proofs.Lanes.Replying.{every_item}
use Rattle.world_laws.proofs.Writes.Ends.{fell_so, mode_so, window_so}
use Rattle.world_laws.proofs.Writes.Steps.{unwritten}
use Rattle.world_laws.specs.Writes.{EndView, EndWrites, Only, copy_said}
use Rattle.path_core.specs.Standing.{after_ack_out}
use Rattle.path_core.specs.Treated.{Treated}

-- an option that ends its side's stream, or gives all its later positions their places
abbrev pub ends_stream : PlainOption → Bool
ends_stream (Dss next (Some (Bytes place position len fin checksum))) = fin
ends_stream (Dss next (Some (End place checksum))) = true
ends_stream (Dss next (Some (Infinite place position))) = true
ends_stream _ = false

-- where an end keeps that
pub record Marks : Type 0 where
  pub items : List Heard
  pub fins : List ℕ
  pub waits : Option MappedDataFin
  pub held : List KeptMapping
  pub infinite : Option InfiniteMapping
  pub key : Option ℕ

abbrev pub marks_of : PathEnd → Marks
marks_of e = record {
  items = e.treated.items;
  fins = e.treated.fins;
  waits = e.receiving.mapped_data_fin;
  held = e.receiving.mappings.held;
  infinite = e.modes.peer_infinite;
  key = e.modes.peer_key;
}

-- no part of it is written
abbrev pub spares : EndWrites → Bool
spares w = not w.copy && (not w.fins && (not w.mapped_data_fin && (not w.mappings && (not w.peer_infinite && not w.peer_key))))

un : (b : Bool) → not b ≡ true → b ≡ false
un true is = absurd (false≢true is)
un false is = refl

same_marks : (a a2 : List Heard) (b b2 : List ℕ) (c c2 : Option MappedDataFin) (d d2 : List KeptMapping) (e e2 : Option InfiniteMapping) (f f2 : Option ℕ)
    → a2 ≡ a → b2 ≡ b → c2 ≡ c → d2 ≡ d → e2 ≡ e → f2 ≡ f
    → (let one : Marks = record { items = a2; fins = b2; waits = c2; held = d2; infinite = e2; key = f2 } in one) ≡ record { items = a; fins = b; waits = c; held = d; infinite = e; key = f }
same_marks a a2 b b2 c c2 d d2 e e2 f f2 o p q r s t = rw (o, p, q, r, s, t) refl

pub spared_marks : (w : EndWrites) → spares w ≡ true → (e f : PathEnd) → Only w e f → marks_of f ≡ marks_of e
spared_marks w is e f x =
    let a = and_parts (not w.copy) _ is in
    let b = and_parts (not w.fins) _ a.1 in
    let c = and_parts (not w.mapped_data_fin) _ b.1 in
    let d = and_parts (not w.mappings) _ c.1 in
    let g = and_parts (not w.peer_infinite) (not w.peer_key) d.1 in
    same_marks e.treated.items f.treated.items e.treated.fins f.treated.fins e.receiving.mapped_data_fin f.receiving.mapped_data_fin e.receiving.mappings.held f.receiving.mappings.held
    e.modes.peer_infinite f.modes.peer_infinite e.modes.peer_key f.modes.peer_key
    (ap (λ (t : Treated). t.items) (unwritten w.copy (copy_said e.treated) (copy_said f.treated) (un w.copy a.0) (ap (λ (v : EndView). v.copy) x.same)))
    (unwritten w.fins e.treated.fins f.treated.fins (un w.fins b.0) (ap (λ (v : EndView). v.fins) x.same))
    (unwritten w.mapped_data_fin e.receiving.mapped_data_fin f.receiving.mapped_data_fin (un w.mapped_data_fin c.0) (ap (λ (v : EndView). v.mapped_data_fin) x.same))
    (ap (λ (v : Mappings). v.held) (unwritten w.mappings e.receiving.mappings f.receiving.mappings (un w.mappings d.0) (ap (λ (v : EndView). v.mappings) x.same)))
    (unwritten w.peer_infinite e.modes.peer_infinite f.modes.peer_infinite (un w.peer_infinite g.0) (ap (λ (v : EndView). v.peer_infinite) x.same))
    (unwritten w.peer_key e.modes.peer_key f.modes.peer_key (un w.peer_key g.1) (ap (λ (v : EndView). v.peer_key) x.same))

-- a reset says no such thing
failing_none : (failed : Option ℕ) (reason : Option ℕ) → list_any ends_stream (broken_options failed reason) ≡ false
failing_none failed None = refl
failing_none None (Some reason) = refl
failing_none (Some place) (Some reason) = refl

pub reset_none : (c : Profile) (reason : Option ℕ) (e : PathEnd) → list_any ends_stream (reset_said c reason e).options ≡ false
reset_none c reason e = by e.modes.identity
  where
    by : (b : Bool) → list_any ends_stream (if b then [] else broken_options e.treated.failed_mapping reason) ≡ false
    by true = refl
    by false = failing_none e.treated.failed_mapping reason

-- ---- lists

module _ {X : Type 0} {P : X → Type 0} where
  one_if : (b : Bool) (x : X) → P x → Every P (if b then x ∷ [] else [])
  one_if true x h = every_cons x [] h (Every-nil P)
  one_if false x h = Every-nil P

  flat_every : {Y : Type 0} (f : Y → List X) (ys : List Y) → ((y : Y) (i : ℕ) → slice_get ys i ≡ Some y → Every P (f y)) → Every P (flat_map f ys)
  flat_every f [] each = Every-nil P
  flat_every f (y ∷ ys) each = Every-append (each y 0 refl) (flat_every f ys (λ z i at. each z (suc i) at))

  rest_of : (xs : List X) (first : List X → List X) → first [] ≡ [] → ((x : X) (ys : List X) → first (x ∷ ys) ≡ ys) → Every P xs → Every P (first xs)
  rest_of [] first none some h = subst (Every P) (sym none) h
  rest_of (x ∷ xs) first none some h = subst (Every P) (sym (some x xs)) (every_rest x xs h)

any_at : (os : List PlainOption) (i : ℕ) (o : PlainOption) → slice_get os i ≡ Some o → ends_stream o ≡ true → list_any ends_stream os ≡ true
any_at [] i o at is = cc
any_at (x ∷ os) zero o at is = let same : x ≡ o = cc in or_left (ends_stream x) (list_any ends_stream os) (ap ends_stream same ∙ is)
any_at (x ∷ os) (suc i) o at is = or_right (ends_stream x) (list_any ends_stream os) (any_at os i o at is)

-- ---- what follows of it

-- of what the end was told follows the one; of the other follows that it has the key
module _ (W K : Type 0) where
  abbrev pub ItemTells : Heard → Type 0
  ItemTells (Heard.DataFin place) = W
  ItemTells (Heard.InfiniteMapping place position) = W
  ItemTells _ = Unit {0}

  abbrev pub KeptTells : KeptMapping → Type 0
  KeptTells kept = kept.fin ≡ true → W

  pub record MarksTell (m : Marks) : Type 0 where
    pub items : Every ItemTells m.items
    pub fins : Every (λ (n : ℕ). W) m.fins
    pub waits : IfSome m.waits (λ w. W)
    pub held : Every KeptTells m.held
    pub infinite : IfSome m.infinite (λ n. W)
    pub key : K → is_some m.key ≡ true

  abbrev pub EndTells : PathEnd → Type 0
  EndTells e = MarksTell (marks_of e)

  abbrev pub EndKeeps : PathEnd → PathEnd → Type 0
  EndKeeps e f = EndTells e → EndTells f

  pub same_tells : (e f : PathEnd) → marks_of f ≡ marks_of e → EndKeeps e f
  same_tells e f same h = subst MarksTell (sym same) h

  pub opening_tells : (e : PathEnd) → marks_of e ≡ record { items = []; fins = []; waits = None; held = []; infinite = None; key = None } → (K → ⊥) → EndTells e
  opening_tells e is none = subst MarksTell (sym is) (record { items = Every-nil ItemTells; fins = Every-nil _; waits = tt; held = Every-nil KeptTells; infinite = tt; key = λ k. absurd (none k) })

  -- one whose treated copy is let go
  pub died_tells : (e : PathEnd) → EndKeeps e (died e)
  died_tells e h = record { items = Every-nil ItemTells; fins = Every-nil _; waits = h.waits; held = h.held; infinite = h.infinite; key = h.key }

  either_tells : (b : Bool) (e f : PathEnd) → EndTells e → EndTells f → EndTells (if b then e else f)
  either_tells true e f x y = x
  either_tells false e f x y = y

  pub unless_tells : (e : PathEnd) → EndKeeps e (died_unless_dead e)
  unless_tells e h = either_tells (is_dead e.tcp.state) e (died e) h (died_tells e h)

  -- a verdict
  pub fell_tells : (event : FallEvent) (r : Reply) (e : PathEnd) → EndKeeps e (after_fell event r e)
  fell_tells event r e h = fell_so (λ n. EndTells (record e { modes = n })) event r e.modes (λ mode owes. same_tells e (record e { modes = record e.modes { mode = mode; owes_mapping = owes } }) refl h)

  -- an end that has a key now
  keyed_tells : (e f : PathEnd) → marks_of f ≡ record (marks_of e) { key = f.modes.peer_key } → is_some f.modes.peer_key ≡ true → EndKeeps e f
  keyed_tells e f same has h =
      subst MarksTell (sym same) (record { items = h.items; fins = h.fins; waits = h.waits; held = h.held; infinite = h.infinite; key = λ k. has })

  pub ack_out_tells : (r : Reply) (e : PathEnd) → EndKeeps e (after_ack_out r e)
  ack_out_tells r e h =
      window_so (λ v. EndTells (record e { receiving = v; treated = record e.treated { asked = false } })) r e.receiving
      (λ next window. same_tells e (record e { receiving = record e.receiving { next = next; window = window }; treated = record e.treated { asked = false } }) refl h)

  pub keys_tell : (r : Reply) (keys : KeyPair) (e : PathEnd) → EndKeeps e (after_keys r (Some keys) e)
  keys_tell (Reply.Control ControlReply.Noted) keys e = keyed_tells e (after_keys (Reply.Control ControlReply.Noted) (Some keys) e) refl refl
  keys_tell (Reply.Control reply) keys e = same_tells e (after_keys (Reply.Control reply) (Some keys) e) refl
  keys_tell r keys e = same_tells e (after_keys r (Some keys) e) refl

  pub peer_key_tells : (key : ℕ) (e : PathEnd) → EndKeeps e (with_peer_key (Some key) e)
  peer_key_tells key e = keyed_tells e (with_peer_key (Some key) e) refl refl

  pub joined_tells : (keys : KeyPair) (asked : JoinSyn) (e : PathEnd) → EndKeeps e (joined_by keys asked e)
  joined_tells keys asked e = keyed_tells e (joined_by keys asked e) refl refl

  -- an end of the stream that is to be told
  fins_tell : (o : Option ℕ) (fins : List ℕ) → IfSome o (λ n. W) → Every (λ (n : ℕ). W) fins → Every (λ (n : ℕ). W) (fins_and o fins)
  fins_tell None fins is h = h
  fins_tell (Some place) fins is h = by (nat_lt (length fins) 3)
    where
      by : (b : Bool) → Every (λ (n : ℕ). W) (if b then fins ++ place ∷ [] else fins)
      by true = Every-push place h is
      by false = h

  pub fin_tells : (place : ℕ) (e : PathEnd) → W → EndKeeps e (with_data_fin place e)
  fin_tells place e is h = record { items = h.items; fins = fins_tell (Some place) e.treated.fins is h.fins; waits = h.waits; held = h.held; infinite = h.infinite; key = h.key }

  -- a mapping that is learned, or not
  learned_held : (o : Option KeptMapping) (v : Mappings) → (learned_if o v).held ≡ v.held
  learned_held None v = refl
  learned_held (Some kept) v = by (learn_of kept v)
    where
      by : (learn : Learn) → (after_learn kept learn v).held ≡ v.held
      by Learn.New = refl
      by Learn.Same = refl
      by (Learn.Clash pos place here) = refl

  others_tell : (held : List KeptMapping) → Every KeptTells held → Every KeptTells (others_of held)
  others_tell [] h = h
  others_tell (kept ∷ held) h = every_rest kept held h

  behind_tells : (held : List KeptMapping) (waits : Option MappedDataFin) → Every KeptTells held → IfSome waits (λ w. W) → IfSome (data_fin_behind (first_of held) waits) (λ w. W)
  behind_tells [] waits h was = was
  behind_tells (kept ∷ held) waits h was = by kept.fin _ refl
    where
      by : (b : Bool) (fin : MappedDataFin) → kept.fin ≡ b → IfSome (if b then Some fin else waits) (λ w. W)
      by true fin is = every_first kept held h is
      by false fin is = was

  pub learned_tells : (e : PathEnd) → EndKeeps e (with_learned e)
  learned_tells e h = record {
    items = h.items;
    fins = h.fins;
    waits = behind_tells e.receiving.mappings.held e.receiving.mapped_data_fin h.held h.waits;
    held = subst (λ (ks : List KeptMapping). Every KeptTells (others_of ks)) (sym (learned_held (first_held e.receiving.mappings) e.receiving.mappings)) (others_tell e.receiving.mappings.held h.held);
    infinite = h.infinite;
    key = h.key;
  }

  pub skipped_tells : (e : PathEnd) → EndKeeps e (with_skipped e)
  skipped_tells e h = record { items = h.items; fins = h.fins; waits = h.waits; held = others_tell e.receiving.mappings.held h.held; infinite = h.infinite; key = h.key }

  -- the edge reaches a DATA_FIN that waits
  reached_tells : (o : Option MappedDataFin) (edge : ℕ) → IfSome o (λ w. W) → IfSome (data_fin_reached o edge) (λ n. W)
  reached_tells None edge h = tt
  reached_tells (Some fin) edge h = by _
    where
      by : (b : Bool) → IfSome (if b then Some fin.place else None) (λ n. W)
      by true = h
      by false = tt

  pub pieces_tell : (e : PathEnd) → EndKeeps e (after_pieces e)
  pieces_tell e h = record {
    items = h.items;
    fins = fins_tell (data_fin_reached e.receiving.mapped_data_fin e.tcp.recv.edge) e.treated.fins (reached_tells e.receiving.mapped_data_fin e.tcp.recv.edge h.waits) h.fins;
    waits = by (is_some (data_fin_reached e.receiving.mapped_data_fin e.tcp.recv.edge));
    held = h.held;
    infinite = h.infinite;
    key = h.key;
  }
    where
      by : (b : Bool) → IfSome (if b then None else e.receiving.mapped_data_fin) (λ w. W)
      by true = tt
      by false = h.waits

  -- a thing that was heard
  pub item_tells : (index : ℕ) (e : PathEnd) (item : Heard) → EndTells e → item_of index e ≡ Some item → ItemTells item
  item_tells index e item h is = by e.modes.identity is
    where
      by : (b : Bool) → (if b then None else item_at index e.treated.items) ≡ Some item → ItemTells item
      by true none = cc
      by false found = subst (λ (o : Option Heard). IfSome o ItemTells) found (every_item index e.treated.items h.items)

  pub infinite_tells : (place : ℕ) (position : Option ℕ) (r : Reply) (e : PathEnd) → W → EndKeeps e (after_infinite place position r e)
  infinite_tells place position r e is h = infinite_came_so EndTells place position r e
      (λ other. mode_so (λ n. EndTells (record e { modes = record n { peer_infinite = other } })) r e.modes
      (λ mode. record { items = h.items; fins = h.fins; waits = h.waits; held = h.held; infinite = any other; key = h.key }))
    where
      any : (o : Option InfiniteMapping) → IfSome o (λ n. W)
      any None = tt
      any (Some mapping) = is

  pub passed_tells : (s : Side) (index : ℕ) (o : Option Heard) (e : PathEnd) → item_of index e ≡ o → EndKeeps e (item_passed s o e)
  passed_tells s index None e is h = h
  passed_tells s index (Some (Heard.Mapping fin)) e is h = either_tells (counts e) (with_learned e) (with_skipped e) (learned_tells e h) (skipped_tells e h)
  passed_tells s index (Some (Heard.DataFin place)) e is h = either_tells (counts e) (with_data_fin place e) e (fin_tells place e (item_tells index e (Heard.DataFin place) h is) h) h
  passed_tells s index (Some _) e is h = h

  -- A's end on a path that joins
  pub begun_tells : (r : Reply) (e : PathEnd) → EndKeeps e (never_joined r e)
  begun_tells r e h = same_tells (died e) (never_joined r e) refl (died_tells e h)

  pub opened_tells : (o : Option KeyPair) (e : PathEnd) → EndKeeps e (opened_by o e)
  opened_tells None e h = h
  opened_tells (Some keys) e h = keyed_tells e (opened_by (Some keys) e) refl refl h

  -- ---- a copy

  -- its options, which say it to an end alone
  abbrev OptionsTell : List PlainOption → Type 0
  OptionsTell os = list_any ends_stream os ≡ true → W

  ack_tells : (next : Option ℕ) (window : ℕ) → Every ItemTells (ack_items (option_map (λ n. Some n) next) window)
  ack_tells None window = Every-nil ItemTells
  ack_tells (Some next) window = one_if _ (Heard.DataAck next window) tt

  map_tells : (next : Option ℕ) (mapping : Option (PathMapping ℕ)) → (ends_stream (Dss next mapping) ≡ true → W) → Every ItemTells (map_items (option_map meant_mapping mapping))
  map_tells next None tells = Every-nil ItemTells
  map_tells next (Some (Bytes place position len fin checksum)) tells = one_if _ (Heard.Mapping fin) tt
  map_tells next (Some (End place checksum)) tells = one_if _ (Heard.DataFin place) (tells refl)
  map_tells next (Some (Infinite place position)) tells = one_if _ (Heard.InfiniteMapping place (Some position)) (tells refl)

  joins_tell : (s : Side) (form : JoinForm) → Every ItemTells (join_items s form)
  joins_tell A (Answer backup id hmac nonce) = one_if true _ tt
  joins_tell A (Syn backup id token nonce) = Every-nil ItemTells
  joins_tell A (Third hmac) = Every-nil ItemTells
  joins_tell B (Answer backup id hmac nonce) = Every-nil ItemTells
  joins_tell B (Syn backup id token nonce) = one_if true _ tt
  joins_tell B (Third hmac) = one_if true _ tt

  capable_tells : (s : Side) (keys : CapableKeys) → Every ItemTells (key_items s keys)
  capable_tells A NoKey = Every-nil ItemTells
  capable_tells A (Sender sender) = one_if true _ tt
  capable_tells A (Both sender receiver) = Every-nil ItemTells
  capable_tells A (WithData sender receiver len checksum) = Every-nil ItemTells
  capable_tells B NoKey = Every-nil ItemTells
  capable_tells B (Sender sender) = Every-nil ItemTells
  capable_tells B (Both sender receiver) = one_if true _ tt
  capable_tells B (WithData sender receiver len checksum) = every_cons _ _ tt (by (nat_lt 0 len) (is_mapping 0 1 len))
    where
      by : (some maps : Bool) → Every ItemTells (if some then (if maps then Heard.Mapping false ∷ [] else []) else [])
      by true maps = one_if maps _ tt
      by false maps = Every-nil ItemTells

  removed_tells : (ids : List ℕ) → Every ItemTells (map item_removed ids)
  removed_tells [] = Every-nil ItemTells
  removed_tells (id ∷ ids) = every_cons (item_removed id) (map item_removed ids) tt (removed_tells ids)

  option_tells : (joined : Bool) (s : Side) (window : ℕ) (o : PlainOption) → (ends_stream o ≡ true → W) → Every ItemTells (items_in joined s window (meant_option o))
  option_tells true s window (Capable flag_a flag_c keys) tells = Every-nil ItemTells
  option_tells false s window (Capable flag_a flag_c keys) tells = capable_tells s keys
  option_tells joined s window (Dss next mapping) tells = every_cons Heard.Dss _ tt (Every-append (ack_tells next window) (map_tells next mapping tells))
  option_tells joined s window (Join form) tells = joins_tell s form
  option_tells joined s window (AddAddr true id address port hmac) tells = one_if true _ tt
  option_tells joined s window (AddAddr false id address port (Some hmac)) tells = one_if true _ tt
  option_tells joined s window (AddAddr false id address port None) tells = Every-nil ItemTells
  option_tells joined s window (Remove ids) tells = removed_tells ids
  option_tells joined s window (Prio backup) tells = one_if true _ tt
  option_tells joined s window (Fail place) tells = one_if true _ tt
  option_tells joined s window (FastClose key) tells = one_if true _ tt
  option_tells joined s window (Reset transient reason) tells = Every-nil ItemTells

  -- the mappings that an end holds of them
  held_tells : (c : Profile) (s : Side) (next : Option ℕ) (mapping : Option (PathMapping ℕ)) → (ends_stream (Dss next mapping) ≡ true → W) → Every KeptTells (map_held c s (option_map meant_mapping mapping))
  held_tells c s next None tells = Every-nil KeptTells
  held_tells c s next (Some (Bytes place position len fin checksum)) tells = one_if _ _ tells
  held_tells c s next (Some (End place checksum)) tells = Every-nil KeptTells
  held_tells c s next (Some (Infinite place position)) tells = Every-nil KeptTells

  first_tells : (c : Profile) (s : Side) (keys : CapableKeys) → Every KeptTells (key_held c s keys)
  first_tells c A keys = Every-nil KeptTells
  first_tells c B NoKey = Every-nil KeptTells
  first_tells c B (Sender sender) = Every-nil KeptTells
  first_tells c B (Both sender receiver) = Every-nil KeptTells
  first_tells c B (WithData sender receiver len checksum) = by (nat_lt 0 len)
    where
      by : (b : Bool) → Every KeptTells (if b then held_if c B 0 1 len false checksum else [])
      by true = one_if _ _ (λ is. absurd (false≢true is))
      by false = Every-nil KeptTells

  keeps_tell : (c : Profile) (s : Side) (o : PlainOption) → (ends_stream o ≡ true → W) → Every KeptTells (held_in c s (meant_option o))
  keeps_tell c s (Capable flag_a flag_c keys) tells = by (is_joined c)
    where
      by : (b : Bool) → Every KeptTells (if b then [] else key_held c s keys)
      by true = Every-nil KeptTells
      by false = first_tells c s keys
  keeps_tell c s (Dss next mapping) tells = held_tells c s next mapping tells
  keeps_tell c s (Join form) tells = Every-nil KeptTells
  keeps_tell c s (AddAddr echo id address port hmac) tells = Every-nil KeptTells
  keeps_tell c s (Remove ids) tells = Every-nil KeptTells
  keeps_tell c s (Prio backup) tells = Every-nil KeptTells
  keeps_tell c s (Fail place) tells = Every-nil KeptTells
  keeps_tell c s (FastClose key) tells = Every-nil KeptTells
  keeps_tell c s (Reset transient reason) tells = Every-nil KeptTells

  -- as an end hears them that fell back, or where they were taken away
  all_tell : {X : Type 0} {P : X → Type 0} (f : HeardOption → List X) → ((o : PlainOption) → (ends_stream o ≡ true → W) → Every P (f (meant_option o)))
      → (fell stripped : Bool) (os : List PlainOption) → OptionsTell os → Every P (flat_map f (if fell then [] else map meant_option (if stripped then [] else os)))
  all_tell {X} {P} f each true stripped os tells = Every-nil P
  all_tell {X} {P} f each false true os tells = Every-nil P
  all_tell {X} {P} f each false false os tells = by os tells
    where
      by : (os : List PlainOption) → OptionsTell os → Every P (flat_map f (map meant_option os))
      by [] tells = Every-nil P
      by (o ∷ os) tells =
          Every-append (each o (λ is. tells (or_left (ends_stream o) (list_any ends_stream os) is))) (by os (λ is. tells (or_right (ends_stream o) (list_any ends_stream os) is)))

  -- what else a copy changes leaves the peer's infinite mapping, and its key
  abbrev Left : Type 0
  Left = Option InfiniteMapping × Option ℕ

  abbrev left_in : Modes → Left
  left_in m = (m.peer_infinite, m.peer_key)

  asked_left : (m : Meaning) (options : List HeardOption) (modes : Modes) → left_in (asked_in m options modes) ≡ left_in modes
  asked_left Meaning.Opens options modes = refl
  asked_left Meaning.Ignored options modes = refl
  asked_left _ options modes = refl

  cleared_left : (m : Meaning) (state : EndPhase) (modes : Modes) → left_in (cleared_in m state modes) ≡ left_in modes
  cleared_left (Meaning.Taken position acknowledged) state modes = refl
  cleared_left Meaning.Ignored state modes = refl
  cleared_left _ state modes = refl

  answered_left : (m : Meaning) (items : List Heard) (modes : Modes) → left_in (answered_in m items modes) ≡ left_in modes
  answered_left (Meaning.Accepts acknowledged) items modes = by (join_answer items modes)
    where
      by : (o : Option JoinAnswer) → left_in (with_answer o modes) ≡ left_in modes
      by None = refl
      by (Some answer) = refl
  answered_left Meaning.Ignored items modes = refl
  answered_left _ items modes = refl

  joined_left : (joined : Bool) (items : List Heard) (m : Meaning) (state : EndPhase) (modes : Modes)
      → left_in (if joined then cleared_in m state (answered_in m items modes) else modes) ≡ left_in modes
  joined_left true items m state modes = cleared_left m state (answered_in m items modes) ∙ answered_left m items modes
  joined_left false items m state modes = refl

  -- an end behind a copy
  pub copy_tells : (c : Profile) (s : Side) (now : ℕ) (carried : Carried) (e : PathEnd) → OptionsTell carried.segment.options
      → let h = options_heard e (meant (as_arrived carried)) in EndKeeps e (after_judged c s now h (judged_in (is_joined c) s h e) e)
  copy_tells c s now carried e tells was = record {
    items = all_tell (items_in (is_joined c) s heard.window) (λ o says. option_tells (is_joined c) s heard.window o says) e.modes.identity carried.stripped carried.segment.options tells;
    fins = Every-nil _;
    waits = was.waits;
    held = all_tell (held_in c s) (λ o says. keeps_tell c s o says) e.modes.identity carried.stripped carried.segment.options tells;
    infinite = subst (λ (o : Option InfiniteMapping). IfSome o (λ n. W)) (sym (ap (λ (x : Left). x.0) same)) was.infinite;
    key = λ k. ap (λ (x : Left). is_some x.1) same ∙ was.key k;
  }
    where
      heard : HeardSegment
      heard = options_heard e (meant (as_arrived carried))

      m : Meaning
      m = taken_as (judged_in (is_joined c) s heard e)

      state : EndPhase
      state = (with_payload m heard.payload e.tcp).state

      same : left_in (asked_in m heard.options (if is_joined c then cleared_in m state (answered_in m (items_of (is_joined c) s heard) e.modes) else e.modes)) ≡ left_in e.modes
      same = asked_left m heard.options _ ∙ joined_left (is_joined c) (items_of (is_joined c) s heard) m state e.modes
