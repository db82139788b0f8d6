-- What an end of a path that joins treats of a copy: an acknowledgement of bytes has a Data ACK, and what opens the end or brings the next byte has an
-- option; no infinite mapping is heard (RFC 8684, sections 3.2, 3.3 and 3.7).
use Rattle.std.proofs.Common.{◌≡◌, refl, sym, subst, ap, ◌∙◌, inl, inr, ⊎_elim, ℕ, ◌+◌, ◌^◌, ◌≤◌, arith, nat_lt, nat_le, ◌==◌, Bool, true, false, true≢false, not, ◌&&◌, if◌then◌else◌, Option, Some, None, is_some, is_none, IfSome, List, [], ◌∷◌, ◌++◌, length, map}
use Rattle.std.specs.List.{flat_map, list_any, position, slice_get}
use Rattle.std.specs.Prelude.{sum_by}
use Rattle.std.specs.Option.{option_map}
use Rattle.std.proofs.lemmas.Bool.{and_parts, both_ways, leb-true, ltb-true, or_from, or_parts}
use Rattle.std.proofs.lemmas.List.Sums.{sum_by-cons}
use Rattle.std.proofs.lemmas.Option.{same_Some}
use Rattle.key_material.specs.declared.address.Address.{Address}
use Rattle.mptcp_options.specs.declared.join.JoinForm.{JoinForm}
use Rattle.mptcp_options.specs.declared.join.JoinForm.TheVariants as forms
use Rattle.path_segments.specs.Heard.{HeardSegment}
use Rattle.path_segments.specs.Laws.{meant, meant_option}
use Rattle.path_segments.specs.Options.{PlainOption}
use Rattle.path_segments.specs.Spelled.{PlainSegment}
use Rattle.path_segments.specs.declared.position.HeardPosition.TheVariants.{At}
use Rattle.path_segments.specs.declared.segment.PathMapping.TheVariants.{Bytes, End, Infinite}
use Rattle.path_segments.specs.declared.segment.PathOption.TheVariants as options
use Rattle.sides.specs.declared.side.Side.{Side}
use Rattle.sides.specs.declared.side.Side.TheVariants.{A, B}
use Rattle.sides.specs.Side.{peer}
use Rattle.link_script.specs.Places.{same_side}
use Rattle.link_model.specs.Steps.{after_delivery, arriving, is_due, without}
use Rattle.link_model.specs.declared.flight.Flight.{Flight}
use Rattle.stream_lanes.specs.Words.{Every}
use Rattle.subflow_send.specs.Records.{Record, SendState}
use Rattle.subflow_send.specs.Rules.{ack_kind, newly_acknowledged, octets_between}
use Rattle.subflow_send.specs.declared.record.AckKind.TheVariants.{New, Duplicate, Old, Future}
use Rattle.subflow_send.specs.declared.record.RecordKind.{RecordKind}
use Rattle.subflow_send.specs.declared.record.RecordKind.TheVariants.{Data, Fin, Syn}
use Rattle.subflow_tcp.specs.Judging.{meaning_of}
use Rattle.subflow_tcp.specs.State.{EndState}
use Rattle.subflow_tcp.specs.States.{is_closed_to_segments, is_half_open}
use Rattle.subflow_tcp.specs.declared.handshake.State.{State}
use Rattle.subflow_tcp.specs.declared.handshake.State.TheVariants as phase
use Rattle.subflow_tcp.specs.Taking.{arrival_of, kept_new}
use Rattle.subflow_tcp.specs.declared.verdicts.Arrival.TheVariants.{Opened, Took}
use Rattle.subflow_tcp.specs.declared.verdicts.Meaning.{Meaning}
use Rattle.subflow_tcp.specs.declared.verdicts.Meaning.TheVariants as means
use Rattle.actor_desk.specs.Words.{is_nil, tail_of}
use Rattle.actor_desk.specs.declared.ask.Reply.{Reply}
use Rattle.path_agenda.specs.Agenda.{emission, leaves}
use Rattle.path_agenda.specs.declared.duty.Duty.{Duty}
use Rattle.path_agenda.specs.declared.duty.Duty.TheVariants as duties
use Rattle.path_agenda.specs.declared.duty.StepDuty.TheVariants as step_duties
use Rattle.path_agenda.specs.declared.heard.Heard.{Heard}
use Rattle.path_agenda.specs.declared.heard.Heard.TheVariants as says
use Rattle.path_store.specs.declared.lines.LineAction.{LineAction}
use Rattle.path_store.specs.declared.lines.LineAction.TheVariants as actions
use Rattle.path_core.specs.Addresses.{address_items, item_removed, with_priority}
use Rattle.path_core.specs.Arrival.{acknowledged_in, copy_heard, copy_judged, copy_of, heard_in, judged_in, reset_for, template_judged, with_payload}
use Rattle.path_core.specs.DssIn.{HeardOption, ack_items, held_of, is_mapping, map_items}
use Rattle.path_core.specs.Duties.{answered, passed}
use Rattle.path_core.specs.End.{PathEnd}
use Rattle.path_core.specs.Events.{after_line, happens_if, next_event}
use Rattle.path_core.specs.Judged.{is_forged, is_passed_over, join_judged, taken_as}
use Rattle.path_core.specs.MpJoin.{is_joined, join_answer, join_asked, join_items, third_in}
use Rattle.path_core.specs.OptionsIn.{edge_in_payload, has_data_ack, hint_of, items_in, items_of, octets_acked, options_heard}
use Rattle.path_core.specs.Start.{waiting_path}
use Rattle.path_core.specs.State.{PathState, at_tick, end_at, goes_on, with_agenda}
use Rattle.path_core.specs.Steps.{begins_turn, next_round, takes}
use Rattle.path_core.specs.Timer.{after_firing}
use Rattle.path_core.specs.Treated.{Treated}
use Rattle.path_core.specs.Values.{Carried, as_arrived, values}
use Rattle.path_core.specs.declared.events.Event.{Event}
use Rattle.path_core.specs.declared.events.Event.TheVariants as happenings
use Rattle.path_core.specs.declared.judged.Judged.TheVariants as judged
use Rattle.world_laws.specs.Openings.{PathPlan, Start, path_begins}
use Rattle.world_laws.proofs.Keys.AreDrawn.{is_past}
use Rattle.world_laws.proofs.Keys.Held.{in_removed}
use Rattle.world_laws.proofs.Lanes.Records.{every_first, every_rest}
use Rattle.world_laws.proofs.Numbers.TellSmall.{RecordKindTells}
use Rattle.world_laws.proofs.Whole.Ends.{MeansIs, is_infinite_item, means_so}
use Rattle.world_laws.proofs.Worlds.Finding.{find_every, one_side}
use Rattle.world_laws.proofs.Writes.Steps.{Lasts, begins_lasts, settled_lasts}
use Rattle.whole_paths.specs.LastFin.{FinIsLast}
use Rattle.whole_paths.proofs.Came.{AllRest, Recalls, answered_rest, at_end, begun_rests, calm, died_rests, fired_rests, held_send, passed_rest, side, stay}
use Rattle.whole_paths.proofs.Exchanges.{Shown}
use Rattle.whole_paths.proofs.JoinedCopies.{CopySays, IsLowAt, SaysEnough}
use Rattle.whole_paths.proofs.JoinedCopies.{SaysEnough as enough}
use Rattle.whole_paths.proofs.KeysStay.{KeysStay, answered_keyed, passed_keyed}
use Rattle.whole_paths.proofs.MappedCopies.{CopyMaps, EndBehind, KindBehind, MapsAll, MapsNone, maps_bytes}
use Rattle.whole_paths.proofs.MappedCopies.{MapsAll as maps}
use Rattle.whole_paths.proofs.Opening.{held_state}

-- ---- what is treated

pub record TreatsWell (e : PathEnd) : Type 0 where
  pub plain : e.treated.plain_ack ≡ false
  pub opens : e.treated.opened ≡ true → e.treated.has_option ≡ true
  pub holds : (n : ℕ) → e.treated.held_edge ≡ Some n → (e.treated.has_option ≡ true) × (is_some e.modes.peer_key ≡ true)
  pub finite : list_any is_infinite_item e.treated.items ≡ false

treats_on : (e f : PathEnd) → Recalls e.treated f.treated → (is_some e.modes.peer_key ≡ true → is_some f.modes.peer_key ≡ true) → TreatsWell e → TreatsWell f
treats_on e f (inl none) keyed h = record {
  plain = ap (λ (t : Treated). t.plain_ack) none;
  opens = λ is. absurd (true≢false (sym is ∙ ap (λ (t : Treated). t.opened) none));
  holds = λ n is. absurd (true≢false (sym (ap is_some is) ∙ ap (λ (t : Treated). is_some t.held_edge) none));
  finite = ap (λ (t : Treated). list_any is_infinite_item t.items) none;
}
treats_on e f (inr same) keyed h = record {
  plain = ap (λ (t : Treated). t.plain_ack) same.0 ∙ h.plain;
  opens = λ is. option ∙ h.opens (sym (ap (λ (t : Treated). t.opened) same.0) ∙ is);
  holds = λ n is. ⊎_elim (λ none. absurd (true≢false (sym (ap is_some is) ∙ ap is_some none))) (λ held. let was = h.holds n (sym held ∙ is) in (option ∙ was.0, keyed was.1)) same.1;
  finite = ap (λ (t : Treated). list_any is_infinite_item t.items) same.0 ∙ h.finite;
}
  where
    option : f.treated.has_option ≡ e.treated.has_option
    option = ap (λ (t : Treated). t.has_option) same.0

-- ---- no infinite mapping is heard

abbrev Finite : List Heard → Type 0
Finite items = list_any is_infinite_item items ≡ false

both_finite : (xs ys : List Heard) → Finite xs → Finite ys → Finite (xs ++ ys)
both_finite [] ys x y = y
both_finite (item ∷ xs) ys x y = let parts = or_parts (is_infinite_item item) (list_any is_infinite_item xs) x in or_from (is_infinite_item item) (list_any is_infinite_item (xs ++ ys)) parts.0 (both_finite xs ys parts.1 y)

if_finite : (b : Bool) (item : Heard) → is_infinite_item item ≡ false → Finite (if b then item ∷ [] else [])
if_finite true item none = or_from (is_infinite_item item) false none refl
if_finite false item none = refl

ack_finite : (next : Option ℕ) (window : ℕ) → Finite (ack_items (option_map (λ n. Some n) next) window)
ack_finite None window = refl
ack_finite (Some n) window = if_finite (nat_lt n (2 ^ 62)) (says.DataAck n window) refl

removed_finite : (ids : List ℕ) → Finite (map item_removed ids)
removed_finite [] = refl
removed_finite (id ∷ ids) = removed_finite ids

joins_finite : (s : Side) (form : JoinForm) → Finite (join_items s form)
joins_finite A (forms.Answer backup id hmac nonce) = refl
joins_finite A _ = refl
joins_finite B (forms.Syn backup id token nonce) = refl
joins_finite B (forms.Third hmac) = refl
joins_finite B (forms.Answer backup id hmac nonce) = refl

address_finite : (echo : Bool) (id : ℕ) (address : Address) (port hmac : Option ℕ) → Finite (address_items echo id address port hmac)
address_finite true id address port hmac = refl
address_finite false id address port (Some hmac) = refl
address_finite false id address port None = refl

option_finite : (s : Side) (window : ℕ) (o : PlainOption) → maps_bytes o ≡ false → Finite (items_in true s window (meant_option o))
option_finite s window (options.Capable flag_a flag_c keys) none = refl
option_finite s window (options.Dss next None) none = both_finite (ack_items (option_map (λ n. Some n) next) window) [] (ack_finite next window) refl
option_finite s window (options.Dss next (Some (Bytes place position len fin checksum))) none = absurd (true≢false none)
option_finite s window (options.Dss next (Some (Infinite place position))) none = absurd (true≢false none)
option_finite s window (options.Dss next (Some (End place checksum))) none =
    both_finite (ack_items (option_map (λ n. Some n) next) window) (if nat_le place (2 ^ 62) then says.DataFin place ∷ [] else []) (ack_finite next window) (if_finite (nat_le place (2 ^ 62)) (says.DataFin place) refl)
option_finite s window (options.Join form) none = joins_finite s form
option_finite s window (options.AddAddr echo id address port hmac) none = address_finite echo id address port hmac
option_finite s window (options.Remove ids) none = removed_finite ids
option_finite s window (options.Prio backup) none = refl
option_finite s window (options.Fail place) none = refl
option_finite s window (options.FastClose key) none = refl
option_finite s window (options.Reset transient reason) none = refl

options_finite : (s : Side) (window : ℕ) (os : List PlainOption) → MapsNone os → Finite (flat_map (items_in true s window) (map meant_option os))
options_finite s window [] none = refl
options_finite s window (o ∷ os) none =
    let parts = or_parts (maps_bytes o) (list_any maps_bytes os) none in
    both_finite (items_in true s window (meant_option o)) (flat_map (items_in true s window) (map meant_option os)) (option_finite s window o parts.0) (options_finite s window os parts.1)

said_finite : (from s : Side) (window : ℕ) (y : PlainSegment) → MapsAll from y → Finite (flat_map (items_in true s window) (map meant_option y.options))
said_finite from s window y (maps.none empty none) = options_finite s window y.options none
said_finite from s window y (maps.bare none) = ap (λ os. list_any is_infinite_item (flat_map (items_in true s window) (map meant_option os))) none
said_finite from s window y (maps.first of_a x) = ap (λ os. list_any is_infinite_item (flat_map (items_in true s window) (map meant_option os))) x.options
said_finite from s window y (maps.piece x) = ap (λ os. list_any is_infinite_item (flat_map (items_in true s window) (map meant_option os))) x.options ∙ both_finite (acks ++ bytes) [] (both_finite acks bytes acks_finite bytes_finite) refl
  where
    acks : List Heard
    acks = ack_items (Some (Some x.next)) window

    bytes : List Heard
    bytes = map_items (Some (Bytes (Some x.place) (Some y.position) (length y.payload) false x.checksum))

    acks_finite : Finite acks
    acks_finite = if_finite (nat_lt x.next (2 ^ 62)) (says.DataAck x.next window) refl

    bytes_finite : Finite bytes
    bytes_finite = if_finite (is_mapping x.place y.position (length y.payload)) (says.Mapping false) refl

-- ---- no byte is acknowledged by a bare copy

zero_octets : (n : ℕ) (v : SendState) → Every (λ (r : Record). octets_between v.una n r ≡ 0) v.records → newly_acknowledged n v ≡ 0
zero_octets n v h = by v.records h
  where
    by : (rs : List Record) → Every (λ (r : Record). octets_between v.una n r ≡ 0) rs → sum_by (octets_between v.una n) rs ≡ 0
    by [] each = refl
    by (r ∷ rs) each = rw (sum_by-cons (octets_between v.una n) r rs, every_first r rs each, by rs (every_rest r rs each)) refl

none_kind : (n : ℕ) (v : SendState) (new : ℕ) (fin : Bool) → Every (λ (r : Record). octets_between v.una n r ≡ 0) v.records → octets_acked (Took (ack_kind n v) new fin) ≡ 0
none_kind n v new fin h = by (nat_lt v.nxt n) (nat_lt v.una n) (n == v.una)
  where
    by : (ahead more again : Bool) → octets_acked (Took (if ahead then Future else (if more then New (newly_acknowledged n v) else (if again then Duplicate else Old))) new fin) ≡ 0
    by true more again = refl
    by false true again = zero_octets n v h
    by false false true = refl
    by false false false = refl

-- what is known of the path
pub record TreatsKnown (p : PathState Carried) : Type 0 where
  pub joins : is_joined p.profile ≡ true
  pub mapped : (s : Side) → (end_at s p).modes.identity ≡ false
  pub shown : Shown p
  pub behind : EndBehind p
  pub fins : FinIsLast p
  pub maps_all : Every CopyMaps p.link.under_way
  pub says : Every (CopySays p) p.link.under_way
  pub keyed : (s : Side) → is_closed_to_segments (end_at s p).tcp.state ≡ false → is_some (end_at s p).modes.peer_key ≡ true

module _ (p : PathState Carried) (k : TreatsKnown p) (s : Side) where
  none_between : (n : ℕ) → IsLowAt (end_at (peer s) p) n → (una : ℕ) → Every (λ (r : Record). octets_between una n r ≡ 0) (end_at s p).tcp.send.records
  none_between n low una = record { each = λ i r there. by i r there r.kind refl }
    where
      empty : (r : Record) → r.piece ≡ [] → octets_between una n r ≡ 0
      empty r is = let none = ap (λ (octets : List ℕ). length octets) is in omega (arith, none)

      by : (i : ℕ) (r : Record) → slice_get (end_at s p).tcp.send.records i ≡ Some r → (kind : RecordKind) → r.kind ≡ kind → octets_between una n r ≡ 0
      by i r there Syn is = empty r (subst (λ kind. KindBehind kind r) is ((k.behind s).each i r there))
      by i r there Fin is = empty r (subst (λ kind. KindBehind kind r) is ((k.behind s).each i r there))
      by i r there Data is = ⊎_elim
          (λ few. let behind = subst (λ kind. KindBehind kind r) is ((k.behind s).each i r there) in omega (arith, few, behind))
          (λ x. absurd (never x.0))
          low
        where
          never : (end_at (peer s) p).tcp.fin_at ≡ Some 1 → ⊥
          never fin =
              let told = subst (λ kind. RecordKindTells p.profile s kind r) is ((k.shown.tells s).sender.records.each i r there).mapped in
              let some = told.0 in let behind = subst (λ kind. KindBehind kind r) is ((k.behind s).each i r there) in
              let before = (subst (λ (o : Option ℕ). IfSome o (λ position. Every (λ (r : Record). r.kind ≡ Data → r.pos + r.mapping.length ≤ position) (end_at s p).tcp.send.records)) fin (k.fins.behind s)).each i r there is in
              omega (arith, some, behind, before)

past_open : (state : State) → is_past state ≡ true → is_closed_to_segments state ≡ false
past_open phase.Waiting is = absurd (true≢false (sym is))
past_open phase.Listen is = absurd (true≢false (sym is))
past_open phase.Dead is = absurd (true≢false (sym is))
past_open phase.SynSent is = refl
past_open _ is = refl

-- ---- a copy that comes to this end

some_option : (os : List HeardOption) → list_any has_data_ack os ≡ true → is_nil os ≡ false
some_option [] is = absurd (true≢false (sym is))
some_option (o ∷ os) is = refl

module _ (p : PathState Carried) (k : TreatsKnown p) (s : Side) (y : PlainSegment) (maps_all : MapsAll (peer s) y) (said : SaysEnough (end_at (peer s) p) y) where
  abbrev e : PathEnd
  e = end_at s p

  abbrev h : HeardSegment
  h = options_heard (end_at s p) (meant y)

  abbrev items : List Heard
  items = items_of true s h

  abbrev judged_end : Meaning → PathEnd
  judged_end m = copy_judged true (held_of p.profile s h) (reset_for p.profile s h) s p.clock h m (end_at s p)

  options_are : h.options ≡ map meant_option y.options
  options_are = ap (λ b. if b then [] else map meant_option y.options) (k.mapped s)

  items_finite : Finite items
  items_finite = ap (λ os. list_any is_infinite_item (flat_map (items_in true s h.window) os)) options_are ∙ said_finite (peer s) s h.window y maps_all

  has_third : is_some (third_in items) ≡ true → is_nil h.options ≡ false
  has_third = elim h.options as (λ os. is_some (third_in (flat_map (items_in true s h.window) os)) ≡ true → is_nil os ≡ false) [ [] ↦ λ is. absurd (true≢false (sym is)) | o ∷ os ↦ λ is. refl ]

  has_answer : is_some (join_answer items e.modes) ≡ true → is_nil h.options ≡ false
  has_answer = elim h.options as (λ os. is_some (join_answer (flat_map (items_in true s h.window) os) (end_at s p).modes) ≡ true → is_nil os ≡ false) [ [] ↦ λ is. absurd (true≢false (sym is)) | o ∷ os ↦ λ is. refl ]

  -- a copy that says nothing of what is treated here
  dull : (m : Meaning) → (judged_end m).treated.plain_ack ≡ false → (judged_end m).treated.opened ≡ false → (judged_end m).treated.held_edge ≡ None → TreatsWell (judged_end m)
  dull m plain opened held = record {
    plain = plain;
    opens = λ is. absurd (both_ways (judged_end m).treated.opened opened is);
    holds = λ n is. absurd (true≢false (sym (ap is_some is) ∙ ap is_some held));
    finite = items_finite;
  }

  module _ (pos n : ℕ) (fits : MeansIs (copy_of h) e.tcp (means.Taken pos n)) (open_or : is_half_open e.tcp.state ≡ true → is_some (third_in items) ≡ true) where
    abbrev held : EndState
    held = with_payload (means.Taken pos n) h.payload (end_at s p).tcp

    abbrev acked : ℕ
    acked = octets_acked (arrival_of (means.Taken pos n) (hint_of items) (copy_of h) held)

    with_ack : list_any has_data_ack (map meant_option y.options) ≡ true → (list_any has_data_ack h.options ≡ true) × (is_nil h.options ≡ false)
    with_ack is = let tells = ap (λ os. list_any has_data_ack os) options_are ∙ is in (tells, some_option h.options tells)

    and_never : (b : Bool) → b && false ≡ false
    and_never true = refl
    and_never false = refl

    number_is : (o : Option ℕ) → IfSome o (IsLowAt (end_at (peer s) p)) → acknowledged_in (option_map (λ n. At n) o) ≡ Some n → IsLowAt (end_at (peer s) p) n
    number_is None low is = cc
    number_is (Some a) low is = subst (IsLowAt (end_at (peer s) p)) (same_Some a n is) low

    none_acked : IsLowAt (end_at (peer s) p) n → acked ≡ 0
    none_acked low = by (is_half_open held.state)
      where
        send : held.send ≡ e.tcp.send
        send = held_send (means.Taken pos n) h.payload e.tcp

        by : (b : Bool) → octets_acked (if b then Opened else Took (ack_kind n held.send) (kept_new false pos h.payload held) h.fin) ≡ 0
        by true = refl
        by false = ap (λ v. octets_acked (Took (ack_kind n v) (kept_new false pos h.payload held) h.fin)) send ∙ none_kind n e.tcp.send (kept_new false pos h.payload held) h.fin (none_between p k s n low e.tcp.send.una)

    plain_ack : (nat_lt 0 acked && not (list_any has_data_ack h.options)) ≡ false
    plain_ack = by said
      where
        by : SaysEnough (end_at (peer s) p) y → (nat_lt 0 acked && not (list_any has_data_ack h.options)) ≡ false
        by (enough.resets is) = absurd (true≢false (sym is ∙ fits.1.1.0))
        by (enough.opens is) = absurd (true≢false (sym is ∙ fits.1.0))
        by (enough.tells is) = ap (λ b. nat_lt 0 acked && not b) (with_ack is).0 ∙ and_never (nat_lt 0 acked)
        by (enough.bare empty low) = ap (λ k. nat_lt 0 k && not (list_any has_data_ack h.options)) (none_acked (number_is y.acknowledged low fits.1.1.1.1))

    some_held : (at : ℕ) → edge_in_payload (means.Taken pos n) h.payload held.recv.edge ≡ Some at → not (is_nil h.options) ≡ true
    some_held at is = by said
      where
        by : SaysEnough (end_at (peer s) p) y → not (is_nil h.options) ≡ true
        by (enough.resets is) = absurd (true≢false (sym is ∙ fits.1.1.0))
        by (enough.opens is) = absurd (true≢false (sym is ∙ fits.1.0))
        by (enough.tells is) = ap not (with_ack is).1
        by (enough.bare empty low) = absurd (inside (nat_le pos held.recv.edge && nat_lt held.recv.edge (pos + length y.payload)) refl is)
          where
            inside : (b : Bool) → (nat_le pos held.recv.edge && nat_lt held.recv.edge (pos + length y.payload)) ≡ b → (if b then Some held.recv.edge else None) ≡ Some at → ⊥
            inside false is none = true≢false (sym (ap is_some none))
            inside true is some =
                let parts = and_parts (nat_le pos held.recv.edge) (nat_lt held.recv.edge (pos + length y.payload)) is in
                let low = leb-true pos held.recv.edge parts.0 in let high = ltb-true held.recv.edge (pos + length y.payload) parts.1 in
                let none = ap (λ (octets : List ℕ). length octets) empty in omega (arith, low, high, none)

    same_key : is_some e.modes.peer_key ≡ true → is_some (judged_end (means.Taken pos n)).modes.peer_key ≡ true
    same_key is = is

    taken_treats : TreatsWell (judged_end (means.Taken pos n))
    taken_treats = record {
      plain = plain_ack;
      opens = λ is. ap not (has_third (open_or (sym (ap is_half_open (held_state (means.Taken pos n) h.payload e.tcp)) ∙ is)));
      holds = λ at is. (some_held at is, same_key (k.keyed s (past_open e.tcp.state fits.0)));
      finite = items_finite;
    }

  judged_treats : (m : Meaning) → MeansIs (copy_of h) e.tcp m → TreatsWell (judged_end (taken_as (join_judged h.rst items m e)))
  judged_treats means.Opens fits = elim (is_some (join_asked items)) as (λ b. TreatsWell (judged_end (taken_as (if b then judged.Asks else judged.Lacks)))) [ true ↦ dull means.Ignored refl refl refl | false ↦ dull means.Ignored refl refl refl ]
  judged_treats means.RepeatedSyn fits = dull means.RepeatedSyn refl refl refl
  judged_treats (means.Accepts n) fits = (elim (is_some (join_answer items e.modes)) as
      (λ b. is_some (join_answer items e.modes) ≡ b → TreatsWell (judged_end (taken_as (if b then judged.As (means.Accepts n) else judged.Forged)))) [
        | true ↦ λ is. record { plain = refl; opens = λ opened. ap not (has_answer is); holds = λ m held. absurd (true≢false (sym (ap is_some held))); finite = items_finite }
        | false ↦ λ is. dull means.Ignored refl refl refl
      ]) refl
  judged_treats (means.Taken pos n) fits = by (is_passed_over h.rst items e) refl (is_forged items e)
    where
      third : (half none : Bool) → half && (not h.rst && none) ≡ false → h.rst ≡ false → half ≡ true → none ≡ false
      third true none is rst half = subst (λ b. (not b && none) ≡ false) rst is
      third false none is rst half = absurd (true≢false (sym half))

      some_of : (o : Option (List ℕ)) → is_none o ≡ false → is_some o ≡ true
      some_of None is = absurd (true≢false is)
      some_of (Some x) is = refl

      by : (over : Bool) → is_passed_over h.rst items e ≡ over → (forged : Bool) → TreatsWell (judged_end (taken_as (if over then judged.As means.Ignored else (if forged then judged.Forged else judged.As (means.Taken pos n)))))
      by true is forged = dull means.Ignored refl refl refl
      by false is true = dull means.Ignored refl refl refl
      by false is false = taken_treats pos n fits (λ half. some_of (third_in items) (third (is_half_open e.tcp.state) (is_none (third_in items)) is fits.1.1.0 half))
  judged_treats m fits = elim (is_passed_over h.rst items e) as (λ b. TreatsWell (judged_end (taken_as (if b then judged.As means.Ignored else judged.As m)))) [ true ↦ dull means.Ignored refl refl refl | false ↦ dull m refl refl refl ]

-- ---- a path

abbrev pub AllTreat : PathState Carried → Type 0
AllTreat p = (s : Side) → TreatsWell (end_at s p)

key_at : (p q : PathState Carried) → KeysStay p q → (s : Side) → is_some (end_at s p).modes.peer_key ≡ true → is_some (end_at s q).modes.peer_key ≡ true
key_at p q x A = x.a
key_at p q x B = x.b

rest_treats : (p q : PathState Carried) → AllRest p q → KeysStay p q → AllTreat p → AllTreat q
rest_treats p q x keys h s = treats_on (end_at s p) (end_at s q) (at_end x s).said (key_at p q keys s) (h s)

line_treats : (action : LineAction) (p : PathState Carried) → KeysStay p (after_line action p) → AllTreat p → AllTreat (after_line action p)
line_treats actions.Die p keys = rest_treats p (after_line actions.Die p) (record { a = died_rests p.a; b = died_rests p.b }) keys
line_treats (actions.Prio s backup) p keys = rest_treats p (after_line (actions.Prio s backup) p) (calm s (with_priority backup (end_at s p)) p _ refl refl refl refl) keys
line_treats (actions.Announce s id) p keys = rest_treats p (after_line (actions.Announce s id) p) (stay p _ refl refl) keys
line_treats (actions.Withdraw s id) p keys = rest_treats p (after_line (actions.Withdraw s id) p) (stay p _ refl refl) keys

-- a copy comes
heard_treats : (s : Side) (y : PlainSegment) (p : PathState Carried) → TreatsKnown p → MapsAll (peer s) y → SaysEnough (end_at (peer s) p) y → AllTreat p → AllTreat (copy_heard s (Some (meant y)) p)
heard_treats s y p k maps_all said h = by s (is_joined p.profile) k.joins maps_all said
  where
    by : (s : Side) (joined : Bool) → joined ≡ true → MapsAll (peer s) y → SaysEnough (end_at (peer s) p) y
        → let e = end_at s p in let x = options_heard e (meant y) in let v = judged_in joined s x e in
        AllTreat (goes_on s (copy_judged joined (held_of p.profile s x) (reset_for p.profile s x) s p.clock x (taken_as v) e) (template_judged joined s (length (items_of joined s x)) v) p)
    by s false joins maps_all said t = absurd (true≢false (sym joins))
    by A true joins maps_all said A = let x = options_heard p.a (meant y) in judged_treats p k A y maps_all said (meaning_of (copy_of x) p.a.tcp) (means_so (copy_of x) p.a.tcp)
    by A true joins maps_all said B = h B
    by B true joins maps_all said A = h A
    by B true joins maps_all said B = let x = options_heard p.b (meant y) in judged_treats p k B y maps_all said (meaning_of (copy_of x) p.b.tcp) (means_so (copy_of x) p.b.tcp)

event_treats : (o : Option Event) (r : Reply) (p : PathState Carried) → TreatsKnown p → KeysStay p (happens_if values o r p) → AllTreat p → AllTreat (happens_if values o r p)
event_treats None r p k keys h = rest_treats p (happens_if values None r p) (stay p _ refl refl) keys h
event_treats (Some (happenings.Joins tick)) r p k keys h =
    let begun = begun_rests r (leaves A) (emission A) (record (at_tick tick p) { joined_at = None }) in rest_treats p (happens_if values (Some (happenings.Joins tick)) r p) (record { a = begun.a; b = begun.b }) keys h
event_treats (Some (happenings.Takes line)) r p k keys h = line_treats line.action (record (at_tick line.tick p) { lines = tail_of p.lines }) (record { a = keys.a; b = keys.b }) (λ s. there s (h s))
  where
    there : (s : Side) → TreatsWell (end_at s p) → TreatsWell (end_at s (record (at_tick line.tick p) { lines = tail_of p.lines }))
    there A h = h
    there B h = h
event_treats (Some (happenings.Arrives due)) r p k keys h = by (arriving due p.link) refl
  where
    x : PathState Carried
    x = record (at_tick due.tick p) { link = after_delivery due p.link }

    same : AllTreat x
    same A = h A
    same B = h B

    known : Every CopyMaps x.link.under_way → Every (CopySays x) x.link.under_way → TreatsKnown x
    known maps_all says = record { joins = k.joins; mapped = λ s. by_side s; shown = shown; behind = behind; fins = fins; maps_all = maps_all; says = says; keyed = keyed }
      where
        keyed : (s : Side) → is_closed_to_segments (end_at s x).tcp.state ≡ false → is_some (end_at s x).modes.peer_key ≡ true
        keyed A = k.keyed A
        keyed B = k.keyed B

        by_side : (s : Side) → (end_at s x).modes.identity ≡ false
        by_side A = k.mapped A
        by_side B = k.mapped B

        shown : Shown x
        shown = record { tells = elim [ A ↦ k.shown.tells A | B ↦ k.shown.tells B ]; behind = elim [ A ↦ k.shown.behind A | B ↦ k.shown.behind B ]; edge = elim [ A ↦ k.shown.edge A | B ↦ k.shown.edge B ] }

        behind : EndBehind x
        behind A = k.behind A
        behind B = k.behind B

        fins : FinIsLast x
        fins = record { sent = elim [ A ↦ k.fins.sent A | B ↦ k.fins.sent B ]; heard = elim [ A ↦ k.fins.heard A | B ↦ k.fins.heard B ]; behind = elim [ A ↦ k.fins.behind A | B ↦ k.fins.behind B ] }

    fewer : (P : Flight Carried → Type 0) → Every P p.link.under_way → Every P x.link.under_way
    fewer P all = rest (position (is_due due) p.link.under_way)
      where
        rest : (o : Option ℕ) → Every P (without o p.link.under_way)
        rest None = all
        rest (Some place) = record { each = λ i f at. let there = in_removed p.link.under_way place i f at in all.each there.0 f there.1 }

    said_in : Every (CopySays x) x.link.under_way
    said_in = fewer (CopySays x) (record { each = λ i f there. at f (k.says.each i f there) })
      where
        at : (f : Flight Carried) → CopySays p f → CopySays x f
        at f = by f.to
          where
            by : (to : Side) → SaysEnough (end_at (peer to) p) (as_arrived f.carried) → SaysEnough (end_at (peer to) x) (as_arrived f.carried)
            by A h = h
            by B h = h

    by : (o : Option (Flight Carried)) → arriving due p.link ≡ o → AllTreat (copy_heard due.to (heard_in values due.to o p) x)
    by None is = λ s. there s
      where
        there : (s : Side) → TreatsWell (end_at s (copy_heard due.to None x))
        there A = h A
        there B = h B
    by (Some f) is =
        let found = find_every CopyMaps (is_due due) p.link.under_way f k.maps_all is in
        let said = find_every (CopySays p) (is_due due) p.link.under_way f k.says is in
        let parts = and_parts (f.tick == due.tick) (same_side f.to due.to && f.number == due.copy) found.1 in
        let to = one_side f.to due.to (and_parts (same_side f.to due.to) (f.number == due.copy) parts.1).0 in
        heard_treats due.to (as_arrived f.carried) x (known (fewer CopyMaps k.maps_all) said_in) (subst (λ s. MapsAll (peer s) (as_arrived f.carried)) to found.0)
        (there due.to (subst (λ s. SaysEnough (end_at (peer s) p) (as_arrived f.carried)) to said.0)) same
      where
        there : (s : Side) → SaysEnough (end_at (peer s) p) (as_arrived f.carried) → SaysEnough (end_at (peer s) x) (as_arrived f.carried)
        there A h = h
        there B h = h
event_treats (Some (happenings.Fires s tick)) r p k keys h =
    rest_treats p (happens_if values (Some (happenings.Fires s tick)) r p) (side s (after_firing (at_tick tick p).clock (end_at s p)) p _ (fired_rests (at_tick tick p).clock (end_at s p)) refl refl) keys h

treats_last : Lasts {C = Carried} (λ p q. AllTreat p → AllTreat q)
treats_last = record { agenda = λ ds p h s. there ds p h s; chains = λ p q r x y h. y (x h); passes = λ d p. rest_treats p (passed d p) (passed_rest d p) (passed_keyed d p) }
  where
    there : (ds : List Duty) (p : PathState Carried) → AllTreat p → (s : Side) → TreatsWell (end_at s (with_agenda ds p))
    there ds p h A = h A
    there ds p h B = h B

answered_treats : (d : Duty) (r : Reply) (p : PathState Carried) → TreatsKnown p → AllTreat p → AllTreat (answered values d r p)
answered_treats (duties.Step step_duties.Events) r p k h = event_treats (next_event p) r p k (answered_keyed values (duties.Step step_duties.Events) r p) h
answered_treats d r p k h = rest_treats p (answered values d r p) (answered_rest values d r p refl) (answered_keyed values d r p) h

pub takes_treats : (r : Reply) (p : PathState Carried) → TreatsKnown p → AllTreat p → AllTreat (takes values r p)
takes_treats r p = by p.agenda
  where
    by : (ds : List Duty) → TreatsKnown (with_agenda ds p) → AllTreat (with_agenda ds p) → AllTreat (takes values r (with_agenda ds p))
    by [] k h = h
    by (d ∷ ds) k h =
        let q : PathState Carried = answered values d r (with_agenda (d ∷ ds) p) in settled_lasts (λ p q. AllTreat p → AllTreat q) treats_last q.agenda q (answered_treats d r (with_agenda (d ∷ ds) p) k h)

pub next_treats : (p : PathState Carried) → AllTreat p → AllTreat (next_round p)
next_treats p h = begins_lasts (λ p q. AllTreat p → AllTreat q) treats_last n (λ s. there s)
  where
    n : PathState Carried
    n = record p { clock = p.until; until = p.until + 100 }

    there : (s : Side) → TreatsWell (end_at s n)
    there A = h A
    there B = h B

pub opened_treats : (start : Start) (number : ℕ) (plan : PathPlan) → AllTreat (begins_turn (waiting_path (path_begins start number plan) start.lines))
opened_treats start number plan = begins_lasts (λ p q. AllTreat p → AllTreat q) treats_last (waiting_path (path_begins start number plan) start.lines) none
  where
    none : (s : Side) → TreatsWell (end_at s (waiting_path {C = Carried} (path_begins start number plan) start.lines))
    none A = record { plain = refl; opens = λ is. absurd (true≢false (sym is)); holds = λ n is. absurd (true≢false (sym (ap is_some is))); finite = refl }
    none B = record { plain = refl; opens = λ is. absurd (true≢false (sym is)); holds = λ n is. absurd (true≢false (sym (ap is_some is))); finite = refl }
