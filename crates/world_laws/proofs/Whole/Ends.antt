-- What the ends of path 0 keep as long as no options are taken away: an end that may send no DSS learned no mapping, and no byte of the
-- other side lies below its edge; no acknowledgement that it heard lacks a Data ACK, and no payload an option.
use Rattle.world_laws.proofs.Words.{◌≡◌, refl, sym, ◌∙◌, ap, subst, ℕ, ◌+◌, ◌&&◌, ◌||◌, ◌==◌, not, nat_lt, nat_le, inl, inr, ◌⊎◌, ⊎_elim, Bool, true, false}
use Rattle.world_laws.proofs.Words.{if◌then◌else◌, Option, Some, None, List, [], ◌∷◌, ◌++◌, length, map, arith, is_some, ◌^◌, ltb-true, or_parts, and_parts}
use Rattle.world_laws.proofs.Words.{both_ways, false≢true, leb-true, or_from, list_any, flat_map, IfSome, Side, A, B, peer, JoinForm, CapableKeys, NoKey}
use Rattle.world_laws.proofs.Words.{WithData, KeptMapping, Mappings, Receiving, SendState, AckKind, after_acknowledge, ack_kind, sample_of, newly_acknowledged}
use Rattle.world_laws.proofs.Words.{is_closed_to_segments, is_opening, is_half_open, after_handshake, Meaning, is_syn, EndState, EndPhase, Outgoing}
use Rattle.world_laws.proofs.Words.{after_holding, after_ack_kind, after_acknowledgement, is_duplicate, after_duplicate, after_interruption, told_by}
use Rattle.world_laws.proofs.Words.{after_payload, after_hearing, after_established, after_taken, after_arrival, arrival_of, kept_new, first_fin, meaning_of}
use Rattle.world_laws.proofs.Words.{Copy, Hint, HeardSegment, PathMapping, InfiniteMapping, Heard, key_heard, is_nil, PathEnd, hint_of, items_in, items_of}
use Rattle.world_laws.proofs.Words.{has_data_ack, octets_acked, is_plain_ack, edge_in_payload, owes_by, asks_capable, copy_judged, copy_of, owing_if, with_payload}
use Rattle.world_laws.proofs.Words.{join_items, ack_items, map_items, HeardOption, key_items, item_removed, Treated, Every, if_so, EndWrites, Only, EndView}
use Rattle.world_laws.proofs.Words.{copy_said}
use Rattle.loss_recovery.specs.declared.timers.Timing.{Timing}
use Rattle.path_segments.specs.declared.segment.PathOption.{PathOption}
use Rattle.subflow_tcp.specs.declared.verdicts.Arrival.TheVariants.{Opened, Took}
use Rattle.path_core.specs.Arrival.{position_in}
use Rattle.world_laws.proofs.Keys.AreDrawn.{is_past}
use Rattle.world_laws.proofs.Keys.Meanings.{Means, means}
use Rattle.world_laws.proofs.Keys.AnswerHeardFirst.{is_accepts, is_apart, ack_apart, handshake_apart}
use Rattle.world_laws.proofs.Whole.Bytes.{EndsWell, Grows, NoneAt, NoneBelow, Remains, acknowledged_remains, at_later, below_later, none_acknowledged, remains_grows, remains_self, remains_well}
use Rattle.world_laws.proofs.Whole.Copies.{HeardIs, Knows, OptionIs, SynIs, is_infinite_option}
use Rattle.world_laws.proofs.Writes.Steps.{unwritten}

-- ---- the parts of an end that are spoken of

pub record Parts : Type 0 where
  pub send : SendState
  pub recv : Receiving
  pub fin_at : Option ℕ
  pub state : EndPhase
  pub timing : Timing
  pub mappings : Mappings
  pub clear : Bool
  pub peer_key : Option ℕ
  pub asked : Bool
  pub peer_infinite : Option InfiniteMapping
  pub copy : Treated
  pub held_edge : Option ℕ

abbrev pub parts_of : PathEnd → Parts
parts_of e = record {
  send = e.tcp.send;
  recv = e.tcp.recv;
  fin_at = e.tcp.fin_at;
  state = e.tcp.state;
  timing = e.tcp.timing;
  mappings = e.receiving.mappings;
  clear = e.modes.clear;
  peer_key = e.modes.peer_key;
  asked = e.modes.capable_asked;
  peer_infinite = e.modes.peer_infinite;
  copy = copy_said e.treated;
  held_edge = e.treated.held_edge;
}

abbrev the_parts : SendState → Receiving → Option ℕ → EndPhase → Timing → Mappings → Bool → Option ℕ → Bool → Option InfiniteMapping → Treated → Option ℕ → Parts
the_parts a b c d e f g h i j k l =
    record { send = a; recv = b; fin_at = c; state = d; timing = e; mappings = f; clear = g; peer_key = h; asked = i; peer_infinite = j; copy = k; held_edge = l }

-- what a duty writes is none of them
abbrev pub is_spared : EndWrites → Bool
is_spared w =
    not w.send && (not w.recv && (not w.fin_at && (not w.phase && (not w.timing && (not w.mappings && (not w.clear && (not w.peer_key && (not w.capable_asked
    && (not w.peer_infinite && (not w.copy && not w.held_edge))))))))))

un : (b : Bool) → not b ≡ true → b ≡ false
un = elim [ false ↦ λ is. refl | true ↦ λ is. absurd (false≢true is) ]

same_parts : (a a2 : SendState) (b b2 : Receiving) (c c2 : Option ℕ) (d d2 : EndPhase) (e e2 : Timing) (f f2 : Mappings) (g g2 : Bool) (h h2 : Option ℕ) (i i2 : Bool) (j j2 : Option InfiniteMapping) (k k2 : Treated) (l l2 : Option ℕ)
    → a2 ≡ a → b2 ≡ b → c2 ≡ c → d2 ≡ d → e2 ≡ e → f2 ≡ f → g2 ≡ g → h2 ≡ h → i2 ≡ i → j2 ≡ j → k2 ≡ k → l2 ≡ l
    → the_parts a2 b2 c2 d2 e2 f2 g2 h2 i2 j2 k2 l2 ≡ the_parts a b c d e f g h i j k l
same_parts a a2 b b2 c c2 d d2 e e2 f f2 g g2 h h2 i i2 j j2 k k2 l l2 o p q r s t u v w x y z = rw (o, p, q, r, s, t, u, v, w, x, y, z) refl

pub parts_spared : (w : EndWrites) → is_spared w ≡ true → (e f : PathEnd) → Only w e f → parts_of f ≡ parts_of e
parts_spared w is e f x =
    let a = and_parts (not w.send) _ is in
    let b = and_parts (not w.recv) _ a.1 in
    let c = and_parts (not w.fin_at) _ b.1 in
    let d = and_parts (not w.phase) _ c.1 in
    let g = and_parts (not w.timing) _ d.1 in
    let h = and_parts (not w.mappings) _ g.1 in
    let i = and_parts (not w.clear) _ h.1 in
    let j = and_parts (not w.peer_key) _ i.1 in
    let k = and_parts (not w.capable_asked) _ j.1 in
    let l = and_parts (not w.peer_infinite) _ k.1 in
    let m = and_parts (not w.copy) (not w.held_edge) l.1 in
    same_parts e.tcp.send f.tcp.send e.tcp.recv f.tcp.recv e.tcp.fin_at f.tcp.fin_at e.tcp.state f.tcp.state e.tcp.timing f.tcp.timing e.receiving.mappings f.receiving.mappings e.modes.clear f.modes.clear e.modes.peer_key f.modes.peer_key e.modes.capable_asked f.modes.capable_asked e.modes.peer_infinite f.modes.peer_infinite (copy_said e.treated) (copy_said f.treated) e.treated.held_edge f.treated.held_edge
    (unwritten w.send e.tcp.send f.tcp.send (un w.send a.0) (ap (λ (v : EndView). v.send) x.same))
    (unwritten w.recv e.tcp.recv f.tcp.recv (un w.recv b.0) (ap (λ (v : EndView). v.recv) x.same))
    (unwritten w.fin_at e.tcp.fin_at f.tcp.fin_at (un w.fin_at c.0) (ap (λ (v : EndView). v.fin_at) x.same))
    (unwritten w.phase e.tcp.state f.tcp.state (un w.phase d.0) (ap (λ (v : EndView). v.phase) x.same))
    (unwritten w.timing e.tcp.timing f.tcp.timing (un w.timing g.0) (ap (λ (v : EndView). v.timing) x.same))
    (unwritten w.mappings e.receiving.mappings f.receiving.mappings (un w.mappings h.0) (ap (λ (v : EndView). v.mappings) x.same))
    (unwritten w.clear e.modes.clear f.modes.clear (un w.clear i.0) (ap (λ (v : EndView). v.clear) x.same))
    (unwritten w.peer_key e.modes.peer_key f.modes.peer_key (un w.peer_key j.0) (ap (λ (v : EndView). v.peer_key) x.same))
    (unwritten w.capable_asked e.modes.capable_asked f.modes.capable_asked (un w.capable_asked k.0) (ap (λ (v : EndView). v.capable_asked) x.same))
    (unwritten w.peer_infinite e.modes.peer_infinite f.modes.peer_infinite (un w.peer_infinite l.0) (ap (λ (v : EndView). v.peer_infinite) x.same))
    (unwritten w.copy (copy_said e.treated) (copy_said f.treated) (un w.copy m.0) (ap (λ (v : EndView). v.copy) x.same))
    (unwritten w.held_edge e.treated.held_edge f.treated.held_edge (un w.held_edge m.1) (ap (λ (v : EndView). v.held_edge) x.same))

-- ---- what an end keeps

abbrev pub is_infinite_item : Heard → Bool
is_infinite_item (Heard.InfiniteMapping place position) = true
is_infinite_item _ = false

-- A SYN that opened the end, and a payload at the edge, came with an option; no acknowledgement of new bytes lacked a Data ACK.
pub record TreatedIs (t : Treated) (held : Option ℕ) : Type 0 where
  pub plain : t.plain_ack ≡ false
  pub opens : t.opened ≡ true → t.has_option ≡ true
  pub holds : IfSome held (λ edge. t.has_option ≡ true)
  pub finite : list_any is_infinite_item t.items ≡ false
  pub answer : IfSome t.answer (λ o. o.rst ≡ true)

-- the end of a side, where the other side sent this
pub record Base (s : Side) (vs : SendState) (x : Parts) : Type 0 where
  pub sends : EndsWell x.send
  -- as long as it may send no DSS
  pub low : (x.clear ≡ true) ⊎ (NoneBelow x.recv.edge vs × (x.mappings.live ≡ []))
  pub fin_at : IfSome x.fin_at (λ n. NoneAt n vs)
  pub finite : x.peer_infinite ≡ None
  pub apart : is_apart s x.state ≡ false
  -- B may send one as soon as it has A's key
  pub keyed : s ≡ B → is_some x.peer_key ≡ true → x.clear ≡ true
  pub treated : TreatedIs x.copy x.held_edge

-- an end that opens: its SYN is all that it sent
pub record Opens (x : Parts) : Type 0 where
  pub state : is_opening x.state ≡ true
  pub syns : Every (λ r. is_syn r.kind ≡ true) x.send.records
  pub some : is_nil x.send.records ≡ false

-- an end before the peer's SYN, or a dead one: it opens, or is closed, and no timer runs
pub record Unmet (x : Parts) : Type 0 where
  pub past : is_past x.state ≡ false
  pub still : (not (is_closed_to_segments x.state) || is_some x.timing.timer ≡ false) ⊎ Opens x

abbrev pub SaysOr : Side → Parts → Type 0
SaysOr s x = Knows s x.peer_key x.asked ⊎ Unmet x

pub record EndIs (s : Side) (vs : SendState) (x : Parts) : Type 0 where
  pub base : Base s vs x
  pub says : SaysOr s x

pub same_unmet : (x y : Parts) → y.state ≡ x.state → y.timing ≡ x.timing → y.send ≡ x.send → Unmet x → Unmet y
same_unmet x y state timing send h = record {
  past = ap is_past state ∙ h.past;
  still = ⊎_elim
      (λ closed. inl (ap (λ z. not (is_closed_to_segments z) || is_some y.timing.timer) state ∙ ap (λ (z : Timing). not (is_closed_to_segments x.state) || is_some z.timer) timing ∙ closed))
      (λ (opens : Opens x). inr (record {
        state = ap is_opening state ∙ opens.state;
        syns = subst (λ (v : SendState). Every (λ r. is_syn r.kind ≡ true) v.records) (sym send) opens.syns;
        some = ap (λ (v : SendState). is_nil v.records) send ∙ opens.some;
      }))
      h.still;
}

some_later : (P Q : ℕ → Type 0) (o : Option ℕ) → ((n : ℕ) → P n → Q n) → IfSome o P → IfSome o Q
some_later P Q None more h = tt
some_later P Q (Some n) more h = more n h

pub base_later : (s : Side) (vs ws : SendState) (x : Parts) → Grows vs ws → Base s vs x → Base s ws x
base_later s vs ws x g h = record {
  sends = h.sends;
  low = ⊎_elim (λ clear. inl clear) (λ (both : NoneBelow x.recv.edge vs × (x.mappings.live ≡ [])). inr (below_later x.recv.edge vs ws g both.0, both.1)) h.low;
  fin_at = some_later _ _ x.fin_at (λ n at. at_later n vs ws g at) h.fin_at;
  finite = h.finite;
  apart = h.apart;
  keyed = h.keyed;
  treated = h.treated;
}

pub end_later : (s : Side) (vs ws : SendState) (x : Parts) → Grows vs ws → EndIs s vs x → EndIs s ws x
end_later s vs ws x g h = record { base = base_later s vs ws x g h.base; says = h.says }

-- ---- what a copy means

-- what it takes for a copy to mean this
abbrev pub MeansIs : Copy → EndState → Meaning → Type 0
MeansIs c s Meaning.Opens = (s.state ≡ EndPhase.Listen) × ((c.syn ≡ true) × ((c.rst ≡ false) × (c.fin ≡ false)))
MeansIs c s (Meaning.Accepts acknowledged) = (s.state ≡ EndPhase.SynSent) × ((c.syn ≡ true) × (c.rst ≡ false))
MeansIs c s (Meaning.Taken pos acknowledged) =
    (is_past s.state ≡ true) × ((c.syn ≡ false) × ((c.rst ≡ false) × ((c.position ≡ Some pos) × (c.acknowledged ≡ Some acknowledged))))
MeansIs c s Meaning.Kills = Unit {0}
MeansIs c s Meaning.Ignored = Unit {0}
MeansIs c s Meaning.Unwanted = Unit {0}
MeansIs c s _ = is_past s.state ≡ true

-- the copy is answered or taken, or opens B's end
abbrev pub is_heeded : Meaning → Bool
is_heeded Meaning.Ignored = false
is_heeded Meaning.Unwanted = false
is_heeded Meaning.Kills = false
is_heeded (Meaning.Accepts acknowledged) = false
is_heeded _ = true

pub means_so : (c : Copy) (s : EndState) → MeansIs c s (meaning_of c s)
means_so c s = (elim (meaning_of c s) as (λ m. Means c s m → MeansIs c s m)
    [ Meaning.Accepts acknowledged ↦ λ is. (is.0, (is.1.0, is.1.1.0)) | Meaning.Taken pos acknowledged ↦ λ is. (is.0, (is.1.0, (is.1.1.0, (is.1.1.1.0, is.1.1.1.1.0)))) | _ ↦ λ is. is ]) (means c s)

-- ---- an end of which little changes

pub rebuild : (s : Side) (vs : SendState) (x y : Parts) → EndsWell y.send → y.recv.edge ≡ x.recv.edge → y.mappings.live ≡ x.mappings.live → y.clear ≡ x.clear → y.peer_key ≡ x.peer_key
    → y.peer_infinite ≡ x.peer_infinite → IfSome y.fin_at (λ n. NoneAt n vs) → is_apart s y.state ≡ false → TreatedIs y.copy y.held_edge → Base s vs x → Base s vs y
rebuild s vs x y sends edge live clear key infinite fin apart treated h = record {
  sends = sends;
  low = ⊎_elim (λ is. inl (clear ∙ is))
      (λ (both : NoneBelow x.recv.edge vs × (x.mappings.live ≡ [])). inr (subst (λ n. NoneBelow n vs) (sym edge) both.0, live ∙ both.1)) h.low;
  fin_at = fin;
  finite = infinite ∙ h.finite;
  apart = apart;
  keyed = λ same has. clear ∙ h.keyed same (ap is_some (sym key) ∙ has);
  treated = treated;
}

-- ---- a copy

any_append : {X : Type 0} (test : X → Bool) (xs ys : List X) → list_any test xs ≡ false → list_any test ys ≡ false → list_any test (xs ++ ys) ≡ false
any_append test [] ys none rest = rest
any_append test (x ∷ xs) ys none rest =
    let parts = or_parts (test x) (list_any test xs) none in or_from (test x) (list_any test (xs ++ ys)) parts.0 (any_append test xs ys parts.1 rest)

ack_finite : (next : Option (Option ℕ)) (window : ℕ) → list_any is_infinite_item (ack_items next window) ≡ false
ack_finite None window = refl
ack_finite (Some None) window = refl
ack_finite (Some (Some next)) window = if_so (λ z. list_any is_infinite_item z ≡ false) (nat_lt next (2 ^ 62)) (Heard.DataAck next window ∷ []) [] refl refl

if_finite : (b : Bool) (item : Heard) → is_infinite_item item ≡ false → list_any is_infinite_item (if b then item ∷ [] else []) ≡ false
if_finite = elim [ true ↦ λ item none. ap (λ x. x || false) none | false ↦ λ item none. refl ]

map_finite : (next : Option (Option ℕ)) (mapping : Option (PathMapping (Option ℕ))) → is_infinite_option (PathOption.Dss next mapping) ≡ false → list_any is_infinite_item (map_items mapping) ≡ false
map_finite next None none = refl
map_finite next (Some (PathMapping.Bytes (Some place) (Some position) len fin checksum)) none = if_finite _ (Heard.Mapping fin) refl
map_finite next (Some (PathMapping.Bytes (Some place) None len fin checksum)) none = refl
map_finite next (Some (PathMapping.Bytes None position len fin checksum)) none = refl
map_finite next (Some (PathMapping.End (Some place) checksum)) none = if_finite _ (Heard.DataFin place) refl
map_finite next (Some (PathMapping.End None checksum)) none = refl
map_finite next (Some (PathMapping.Infinite place position)) none = absurd (false≢true (sym none))

keys_finite : (s : Side) (keys : CapableKeys) → list_any is_infinite_item (key_items s keys) ≡ false
keys_finite A NoKey = refl
keys_finite B (WithData sender receiver len checksum) =
    if_so (λ z. list_any is_infinite_item z ≡ false) (nat_lt 0 len) (if nat_lt 0 1 && nat_le (0 + len) (2 ^ 62) then Heard.Mapping false ∷ [] else []) []
    (if_finite _ (Heard.Mapping false) refl) refl
keys_finite s keys = refl

joins_finite : (s : Side) (form : JoinForm) → list_any is_infinite_item (join_items s form) ≡ false
joins_finite A (JoinForm.Answer backup id hmac nonce) = refl
joins_finite B (JoinForm.Answer backup id hmac nonce) = refl
joins_finite s form = refl

removed_finite : (ids : List ℕ) → list_any is_infinite_item (map item_removed ids) ≡ false
removed_finite [] = refl
removed_finite (id ∷ ids) = removed_finite ids

option_finite : (s : Side) (window : ℕ) (o : HeardOption) → is_infinite_option o ≡ false → list_any is_infinite_item (items_in false s window o) ≡ false
option_finite s window (PathOption.Capable flag_a flag_c keys) none = keys_finite s keys
option_finite s window (PathOption.Dss next mapping) none = any_append is_infinite_item (ack_items next window) (map_items mapping) (ack_finite next window) (map_finite next mapping none)
option_finite s window (PathOption.Join form) none = joins_finite s form
option_finite s window (PathOption.AddAddr true id address port hmac) none = refl
option_finite s window (PathOption.AddAddr false id address port (Some hmac)) none = refl
option_finite s window (PathOption.AddAddr false id address port None) none = refl
option_finite s window (PathOption.Remove ids) none = removed_finite ids
option_finite s window _ none = refl

items_finite : (s : Side) (window : ℕ) (os : List HeardOption) → list_any is_infinite_option os ≡ false → list_any is_infinite_item (flat_map (items_in false s window) os) ≡ false
items_finite s window [] none = refl
items_finite s window (o ∷ os) none =
    let parts = or_parts (is_infinite_option o) (list_any is_infinite_option os) none in
    any_append is_infinite_item (items_in false s window o) (flat_map (items_in false s window) os) (option_finite s window o parts.0) (items_finite s window os parts.1)

-- a SYN of B's that shows a key has an option
key_has_option : (h : HeardSegment) → SynIs B h → is_nil h.options ≡ false
key_has_option h is = (elim h.options as (λ os. SynIs B (record h { options = os }) → is_nil os ≡ false) [ [] ↦ λ is. absurd (false≢true is) | o ∷ os ↦ λ is. refl ]) is

asks_has_option : (h : HeardSegment) → SynIs A h → is_nil h.options ≡ false
asks_has_option h is = (elim h.options as (λ os. SynIs A (record h { options = os }) → is_nil os ≡ false) [ [] ↦ λ is. absurd (false≢true is) | o ∷ os ↦ λ is. refl ]) is

-- the copy `h` comes to this end, whose side `s` is, from the other one, which sent `vs`
module _ (s : Side) (vs : SendState) (h : HeardSegment) (e : PathEnd) (told : List KeptMapping) (answer : Outgoing) (now : ℕ) (resets : answer.rst ≡ true)
    (said : HeardIs (peer s) e.tcp.send vs h) (was : Base s vs (parts_of e)) where
  abbrev c : Copy
  c = copy_of h

  abbrev pub after : Meaning → PathEnd
  after m = copy_judged false told answer s now h m e

  -- ---- what the subflow makes of it

  first_fin_at : (o : Option ℕ) (fin : Bool) (n : ℕ) → IfSome o (λ k. NoneAt k vs) → (fin ≡ true → NoneAt n vs) → IfSome (first_fin o fin n) (λ k. NoneAt k vs)
  first_fin_at None true n old new = new refl
  first_fin_at None false n old new = tt
  first_fin_at (Some k) fin n old new = old

  -- a subflow that became another one by a copy
  record Moved (x y : EndState) : Type 0 where
    sends : Remains x.send y.send
    edge : y.recv.edge ≡ x.recv.edge
    fin : IfSome y.fin_at (λ n. NoneAt n vs)
    apart : is_apart s y.state ≡ false

  acked_sends : (n : ℕ) (x : EndState) → Remains x.send (after_acknowledgement n now x).send
  acked_sends n x = elim (ack_kind n x.send) as (λ kind. Remains x.send (after_ack_kind kind (sample_of n x.send) now (record x { send = after_acknowledge n x.send })).send)
      [ AckKind.New octets ↦ acknowledged_remains x.send n | _ ↦ acknowledged_remains x.send n ]

  acked_recv : (n : ℕ) (x : EndState) → ((after_acknowledgement n now x).recv ≡ x.recv) × ((after_acknowledgement n now x).fin_at ≡ x.fin_at)
  acked_recv n x =
      elim (ack_kind n x.send) as (λ kind. let y = after_ack_kind kind (sample_of n x.send) now (record x { send = after_acknowledge n x.send }) in (y.recv ≡ x.recv) × (y.fin_at ≡ x.fin_at))
      [ AckKind.New octets ↦ (refl, refl) | _ ↦ (refl, refl) ]

  not_apart : (x y : EndPhase) → (is_apart s y ≡ true → is_apart s x ≡ true) → is_apart s x ≡ false → is_apart s y ≡ false
  not_apart x y back none = (elim (is_apart s y) as (λ b. is_apart s y ≡ b → b ≡ false)
      [ true ↦ λ is. absurd (both_ways (is_apart s x) none (back is)) | false ↦ λ is. refl ]) refl

  abbrev hint : Hint
  hint = hint_of (items_of false s h)

  owing_moves : (b : Bool) (y : EndState) → Moved e.tcp y → Moved e.tcp (owing_if b y)
  owing_moves true y moved = record { sends = moved.sends; edge = moved.edge; fin = moved.fin; apart = moved.apart }
  owing_moves false y moved = moved

  taken_moves : (pos n : ℕ) (x : EndState) → (h.fin ≡ true → NoneAt (pos + length h.payload) vs) → IfSome x.fin_at (λ k. NoneAt k vs) → is_apart s x.state ≡ false
      → Moved x (after_taken pos n hint now c x)
  taken_moves pos n x new old apart =
      let row = by (is_duplicate (ack_kind n opened.send) (told_by hint c) c (after_acknowledgement n now opened)) in
      record { sends = row.sends; edge = row.edge; fin = row.fin; apart = row.apart }
    where
      opened : EndState
      opened = after_established (after_hearing (after_payload pos hint c x))

      kept : ((after_acknowledgement n now opened).recv ≡ opened.recv) × ((after_acknowledgement n now opened).fin_at ≡ opened.fin_at)
      kept = acked_recv n opened

      moved : Moved x (after_acknowledgement n now opened)
      moved = record {
        sends = acked_sends n opened;
        edge = ap (λ (r : Receiving). r.edge) kept.0;
        fin = subst (λ (o : Option ℕ). IfSome o (λ k. NoneAt k vs)) (sym kept.1) (first_fin_at x.fin_at h.fin (pos + length h.payload) old new);
        apart = ack_apart s n now opened ∙ not_apart x.state (after_handshake x.state) (handshake_apart s x.state) apart;
      }

      by : (b : Bool) → Moved x (if b then after_duplicate (after_acknowledgement n now opened) else after_interruption (after_acknowledgement n now opened))
      by true = record { sends = moved.sends; edge = moved.edge; fin = moved.fin; apart = moved.apart }
      by false = record { sends = moved.sends; edge = moved.edge; fin = moved.fin; apart = moved.apart }

  -- as the copy means this to the end
  abbrev Fits : Meaning → Type 0
  Fits m = MeansIs c e.tcp m

  fin_then : (pos : ℕ) → h.rst ≡ false → position_in h.position ≡ Some pos → h.fin ≡ true → NoneAt (pos + length h.payload) vs
  fin_then pos rst at is = subst (λ (o : Option ℕ). IfSome o (λ n. NoneAt (n + length h.payload) vs)) at (said.fin rst is).1

  no_fin : h.rst ≡ false → h.syn ≡ true → h.fin ≡ true → NoneAt (1 + length h.payload) vs
  no_fin rst syn is = absurd (both_ways h.syn (said.fin rst is).0 syn)

  still_moved : Moved e.tcp e.tcp
  still_moved = record { sends = remains_self e.tcp.send; edge = refl; fin = was.fin_at; apart = was.apart }

  taken_held : (pos n : ℕ) (b : Bool) → Fits (Meaning.Taken pos n) → let x : EndState = if b then e.tcp else after_holding pos h.payload e.tcp in Moved e.tcp (after_taken pos n hint now c x)
  taken_held pos n true fits = taken_moves pos n e.tcp (fin_then pos fits.1.1.0 fits.1.1.1.0) was.fin_at was.apart
  taken_held pos n false fits =
      let x : EndState = after_holding pos h.payload e.tcp in
      let moved = taken_moves pos n x (fin_then pos fits.1.1.0 fits.1.1.1.0) was.fin_at was.apart in
      record { sends = moved.sends; edge = moved.edge; fin = moved.fin; apart = moved.apart }

  arrival_moves : (m : Meaning) → Fits m → Moved e.tcp (after_arrival m hint now c (with_payload m h.payload e.tcp))
  arrival_moves Meaning.Ignored fits = still_moved
  arrival_moves Meaning.Unwanted fits = still_moved
  arrival_moves Meaning.Opens fits = record {
    sends = remains_self e.tcp.send;
    edge = refl;
    fin = first_fin_at e.tcp.fin_at h.fin (1 + length h.payload) was.fin_at (no_fin fits.1.1.0 fits.1.0);
    apart = ap (is_apart s) (sym fits.0) ∙ was.apart;
  }
  arrival_moves (Meaning.Accepts n) fits =
      let opened : EndState = record (after_hearing (after_payload 1 hint c e.tcp)) { state = EndPhase.Established } in
      let same = acked_recv n opened in
      record {
        sends = acked_sends n opened;
        edge = ap (λ (r : Receiving). r.edge) same.0;
        fin = subst (λ (o : Option ℕ). IfSome o (λ k. NoneAt k vs)) (sym same.1) (first_fin_at e.tcp.fin_at h.fin (1 + length h.payload) was.fin_at (no_fin fits.1.1 fits.1.0));
        apart = ack_apart s n now opened;
      }
  arrival_moves Meaning.Kills fits = record { sends = acknowledged_remains e.tcp.send e.tcp.send.nxt; edge = refl; fin = was.fin_at; apart = refl }
  arrival_moves (Meaning.Taken pos n) fits = taken_held pos n (is_nil h.payload) fits
  arrival_moves _ fits = record { sends = remains_self e.tcp.send; edge = refl; fin = was.fin_at; apart = was.apart }

  -- ---- what is still to be treated of it

  and_never : (b : Bool) → b && false ≡ false
  and_never = elim [ true ↦ refl | false ↦ refl ]

  no_octets : (n : ℕ) (x : SendState) → NoneBelow n x → (b : Bool) (new : ℕ) → octets_acked (if b then Opened else Took (ack_kind n x) new h.fin) ≡ 0
  no_octets n x low true new = refl
  no_octets n x low false new = by (nat_lt x.nxt n) (nat_lt x.una n) (n == x.una)
    where
      by : (ahead more again : Bool) → octets_acked (Took (if ahead then AckKind.Future else (if more then AckKind.New (newly_acknowledged n x) else (if again then AckKind.Duplicate else AckKind.Old))) new h.fin) ≡ 0
      by true more again = refl
      by false true again = none_acknowledged n x low
      by false false true = refl
      by false false false = refl

  -- with a Data ACK nothing is acknowledged without one, and without it no byte
  acks_plainly : (pos n : ℕ) (x : EndState) → x.send ≡ e.tcp.send → Fits (Meaning.Taken pos n) → is_plain_ack (arrival_of (Meaning.Taken pos n) hint c x) h ≡ false
  acks_plainly pos n x same fits = (elim (list_any has_data_ack h.options) as (λ b. list_any has_data_ack h.options ≡ b → nat_lt 0 octets && not b ≡ false)
      [ true ↦ λ is. and_never (nat_lt 0 octets) | false ↦ λ is. ap (λ k. nat_lt 0 k && true) (no_octets n x.send (low is) (is_half_open x.state) (kept_new false pos h.payload x)) ]) refl
    where
      octets : ℕ
      octets = octets_acked (arrival_of (Meaning.Taken pos n) hint c x)

      low : list_any has_data_ack h.options ≡ false → NoneBelow n x.send
      low none = subst (λ v. NoneBelow n v) (sym same) (subst (λ (o : Option ℕ). IfSome o (λ k. NoneBelow k e.tcp.send)) fits.1.1.1.1 (said.acks fits.1.1.0 fits.1.0 none))

  plainly_held : (pos n : ℕ) (b : Bool) → Fits (Meaning.Taken pos n) → is_plain_ack (arrival_of (Meaning.Taken pos n) hint c (if b then e.tcp else after_holding pos h.payload e.tcp)) h ≡ false
  plainly_held pos n true fits = acks_plainly pos n e.tcp refl fits
  plainly_held pos n false fits = acks_plainly pos n (after_holding pos h.payload e.tcp) refl fits

  -- a copy opens A's end by its SYN, and B's by an option
  opened_optional : (t : Side) → s ≡ t → (state : EndPhase) → is_apart t state ≡ false → is_half_open state ≡ true → h.syn ≡ false → h.rst ≡ false → is_nil h.options ≡ false
  opened_optional A same EndPhase.SynReceived apart half syn rst = absurd (false≢true (sym apart))
  opened_optional A same _ apart half syn rst = absurd (false≢true half)
  opened_optional B same state apart half syn rst = subst (λ t. OptionIs (peer t) h) same (said.option rst syn)

  syn_optional : (t : Side) → SynIs t h → is_nil h.options ≡ false
  syn_optional = elim [ A ↦ λ is. asks_has_option h is | B ↦ λ is. key_has_option h is ]

  -- a payload at the edge
  edge_optional : (t : Side) → s ≡ t → (pos edge : ℕ) → h.syn ≡ false → h.rst ≡ false → IfSome (edge_in_payload (Meaning.Taken pos 0) h.payload edge) (λ k. not (is_nil h.options) ≡ true)
  edge_optional B same pos edge syn rst = some_later (λ k. Unit {0}) _ (edge_in_payload (Meaning.Taken pos 0) h.payload edge) (λ k any. ap not (subst (λ t. OptionIs (peer t) h) same (said.option rst syn))) (any_some (edge_in_payload (Meaning.Taken pos 0) h.payload edge))
    where
      any_some : (o : Option ℕ) → IfSome o (λ k. Unit {0})
      any_some = elim [ None ↦ tt | Some k ↦ tt ]
  edge_optional A same pos edge syn rst = elim (subst (λ t. OptionIs (peer t) h) same (said.option rst syn))
      [ inl nil ↦ at (nat_le pos edge && nat_lt edge (pos + length h.payload)) refl nil | inr some ↦ optional (nat_le pos edge && nat_lt edge (pos + length h.payload)) some ]
    where
      at : (b : Bool) → (nat_le pos edge && nat_lt edge (pos + length h.payload)) ≡ b → is_nil h.payload ≡ true → IfSome (if b then Some edge else None) (λ k. not (is_nil h.options) ≡ true)
      at false is nil = tt
      at true is nil =
          let both = and_parts (nat_le pos edge) (nat_lt edge (pos + length h.payload)) is in
          let low = leb-true pos edge both.0 in let high = ltb-true edge (pos + length h.payload) both.1 in let none = nil_length h.payload nil in absurd (omega (arith, low, high, none))
        where
          nil_length : (xs : List ℕ) → is_nil xs ≡ true → length xs ≡ 0
          nil_length = elim [ [] ↦ λ nil. refl | x ∷ xs ↦ λ nil. absurd (false≢true nil) ]

      optional : (b : Bool) → is_nil h.options ≡ false → IfSome (if b then Some edge else None) (λ k. not (is_nil h.options) ≡ true)
      optional = elim [ true ↦ λ some. ap not some | false ↦ λ some. tt ]

  treated_so : (t : Treated) (held : Option ℕ) → t.items ≡ items_of false s h → t.answer ≡ Some answer → t.plain_ack ≡ false → (t.opened ≡ true → t.has_option ≡ true)
      → IfSome held (λ edge. t.has_option ≡ true) → TreatedIs t held
  treated_so t held items answers plain opens holds = record {
    plain = plain;
    opens = opens;
    holds = holds;
    finite = ap (list_any is_infinite_item) items ∙ items_finite s h.window h.options said.finite;
    answer = subst (λ o. IfSome o (λ (o : Outgoing). o.rst ≡ true)) (sym answers) resets;
  }

  copy_treated : (m : Meaning) → Fits m → TreatedIs (parts_of (after m)).copy (parts_of (after m)).held_edge
  copy_treated (Meaning.Taken pos n) fits =
      treated_so (copy_said (after (Meaning.Taken pos n)).treated) _ refl refl (plainly_held pos n (is_nil h.payload) fits)
      (held_opens (is_nil h.payload)) (held_edge_is (is_nil h.payload))
    where
      held_opens : (b : Bool) → is_half_open (if b then e.tcp else after_holding pos h.payload e.tcp).state ≡ true → not (is_nil h.options) ≡ true
      held_opens true half = ap not (opened_optional s refl e.tcp.state was.apart half fits.1.0 fits.1.1.0)
      held_opens false half = ap not (opened_optional s refl e.tcp.state was.apart half fits.1.0 fits.1.1.0)

      held_edge_is : (b : Bool) → IfSome (edge_in_payload (Meaning.Taken pos n) h.payload (if b then e.tcp else after_holding pos h.payload e.tcp).recv.edge) (λ k. not (is_nil h.options) ≡ true)
      held_edge_is true = edge_optional s refl pos e.tcp.recv.edge fits.1.0 fits.1.1.0
      held_edge_is false = edge_optional s refl pos e.tcp.recv.edge fits.1.0 fits.1.1.0
  copy_treated (Meaning.Accepts n) fits = treated_so _ _ refl refl refl (λ is. ap not (syn_optional (peer s) (said.syn fits.1.1 fits.1.0))) tt
  copy_treated m fits = treated_so _ _ refl refl refl (λ is. absurd (false≢true is)) tt

  -- ---- the end

  copy_moves : (m : Meaning) → Fits m → Moved e.tcp (after m).tcp
  copy_moves m fits = owing_moves (owes_by m (items_of false s h)) _ (arrival_moves m fits)

  based : (m : Meaning) → Fits m → (parts_of (after m)).clear ≡ e.modes.clear → (parts_of (after m)).peer_key ≡ e.modes.peer_key → (parts_of (after m)).peer_infinite ≡ e.modes.peer_infinite
      → Base s vs (parts_of (after m))
  based m fits clear key infinite =
      let moved = copy_moves m fits in
      rebuild s vs (parts_of e) (parts_of (after m)) (remains_well e.tcp.send (after m).tcp.send moved.sends was.sends) moved.edge refl clear key infinite moved.fin moved.apart (copy_treated m fits) was

  pub copy_base : (m : Meaning) → Fits m → Base s vs (parts_of (after m))
  copy_base Meaning.Opens fits = based Meaning.Opens fits refl refl refl
  copy_base Meaning.Ignored fits = based Meaning.Ignored fits refl refl refl
  copy_base m fits = based m fits refl refl refl

  pub copy_grows : (m : Meaning) → Fits m → Grows e.tcp.send (after m).tcp.send
  copy_grows m fits = remains_grows e.tcp.send (after m).tcp.send (copy_moves m fits).sends

  known_past : is_past e.tcp.state ≡ true → SaysOr s (parts_of e) → Knows s e.modes.peer_key e.modes.capable_asked
  known_past past (inl knows) = knows
  known_past past (inr unmet) = absurd (both_ways (is_past e.tcp.state) unmet.past past)

  opens_known : (t : Side) → s ≡ t → e.tcp.state ≡ EndPhase.Listen → h.rst ≡ false → h.syn ≡ true → Knows t e.modes.peer_key (list_any asks_capable h.options)
  opens_known A same listens rst syn = absurd (both_ways (is_apart A EndPhase.Listen) (subst (λ x. is_apart A x ≡ false) listens (subst (λ t. is_apart t e.tcp.state ≡ false) same was.apart)) refl)
  opens_known B same listens rst syn = subst (λ t. SynIs (peer t) h) same (said.syn rst syn)

  -- after a copy that is answered or taken it may say all
  pub copy_speaks : (m : Meaning) → Fits m → is_heeded m ≡ true → SaysOr s (parts_of e) → Knows s (parts_of (after m)).peer_key (parts_of (after m)).asked
  copy_speaks Meaning.Opens fits heeds says = opens_known s refl fits.0 fits.1.1.0 fits.1.0
  copy_speaks (Meaning.Accepts n) fits heeds says = absurd (false≢true heeds)
  copy_speaks Meaning.Ignored fits heeds says = absurd (false≢true heeds)
  copy_speaks Meaning.Unwanted fits heeds says = absurd (false≢true heeds)
  copy_speaks Meaning.Kills fits heeds says = absurd (false≢true heeds)
  copy_speaks (Meaning.Taken pos n) fits heeds says = known_past fits.0 says
  copy_speaks m fits heeds says = known_past fits says

  pub copy_knows : (m : Meaning) → Fits m → Knows s e.modes.peer_key e.modes.capable_asked → Knows s (parts_of (after m)).peer_key (parts_of (after m)).asked
  copy_knows Meaning.Opens fits knows = opens_known s refl fits.0 fits.1.1.0 fits.1.0
  copy_knows Meaning.Ignored fits knows = knows
  copy_knows m fits knows = knows

  -- a copy that A's end accepts shows B's key, which is told next
  pub copy_says : (m : Meaning) → Fits m → is_accepts m ≡ false → SaysOr s (parts_of e) → SaysOr s (parts_of (after m))
  copy_says (Meaning.Accepts n) fits other says = absurd (false≢true (sym other))
  copy_says Meaning.Ignored fits other (inl knows) = inl knows
  copy_says Meaning.Ignored fits other (inr unmet) = inr (same_unmet (parts_of e) (parts_of (after Meaning.Ignored)) refl refl refl unmet)
  copy_says Meaning.Unwanted fits other (inl knows) = inl knows
  copy_says Meaning.Unwanted fits other (inr unmet) = inr (same_unmet (parts_of e) (parts_of (after Meaning.Unwanted)) refl refl refl unmet)
  copy_says Meaning.Kills fits other (inl knows) = inl knows
  copy_says Meaning.Kills fits other (inr unmet) = inr (record { past = refl; still = inl refl })
  copy_says m fits other says = inl (copy_speaks m fits refl says)

  pub accepted_key : (n : ℕ) → Fits (Meaning.Accepts n) → s ≡ A → is_some (key_heard (items_of false A h)) ≡ true
  accepted_key n fits same = subst (λ t. SynIs (peer t) h) same (said.syn fits.1.1 fits.1.0)

  pub accepts_a : (n : ℕ) → Fits (Meaning.Accepts n) → s ≡ A
  accepts_a n fits = (elim s as (λ t. s ≡ t → s ≡ A) [
    | A ↦ λ same. same
    | B ↦ λ same. absurd (both_ways (is_apart B EndPhase.SynSent) (subst (λ x. is_apart B x ≡ false) fits.0 (subst (λ t. is_apart t e.tcp.state ≡ false) same was.apart)) refl)
  ]) refl
