-- In a mild connection no copy comes to path 0 whose byte at RCV.NXT lacks a mapping and is kept, so that no end breaks for it (RFC 8684,
-- sections 3.3.1 and 3.6).
use Rattle.std.proofs.Common.{◌≡◌, refl, sym, subst, ap, ◌∙◌, inl, inr, ⊎_elim, ℕ, zero, suc, ◌+◌, ◌-◌, ◌^◌, ◌<◌, ◌≤◌, arith, min, nat_lt, nat_le, ◌==◌, Bool, true, false, true≢false, not, ◌&&◌, ◌||◌, if◌then◌else◌, Option, Some, None, is_some, is_none, IfSome, List, [], ◌∷◌, ◌++◌, length, map}
use Rattle.std.specs.Prelude.{IsSome}
use Rattle.std.specs.List.{flat_map, list_any}
use Rattle.std.proofs.lemmas.Bool.{and_parts, both_ways, eqb-true, le-leb, leb-true, lt-ltb, ltb-true, not-true, or_parts}
use Rattle.std.proofs.lemmas.Option.{same_Some}
use Rattle.mptcp_options.specs.declared.capable.CapableKeys.TheVariants.{WithData}
use Rattle.path_segments.specs.Heard.{HeardSegment}
use Rattle.path_segments.specs.Laws.{meant, meant_option}
use Rattle.path_segments.specs.Spelled.{PlainSegment}
use Rattle.path_segments.specs.declared.segment.PathMapping.TheVariants.{Bytes}
use Rattle.path_segments.specs.declared.segment.PathOption.TheVariants.{Capable, Dss}
use Rattle.sides.specs.declared.side.Side.{Side}
use Rattle.sides.specs.declared.side.Side.TheVariants.{A, B}
use Rattle.sides.specs.Side.{peer}
use Rattle.link_script.specs.Places.{same_side}
use Rattle.link_model.specs.Steps.{after_delivery, arriving, is_due}
use Rattle.link_model.specs.declared.flight.Flight.{Flight}
use Rattle.dss_mapping.specs.Learning.{first_of}
use Rattle.dss_mapping.specs.Mappings.{mapping_at, run_of}
use Rattle.dss_mapping.specs.Runs.{covers}
use Rattle.dss_mapping.specs.declared.kept.KeptMapping.{KeptMapping}
use Rattle.control_book.specs.Replies.{is_sure}
use Rattle.stream_lanes.specs.Words.{Every}
use Rattle.subflow_send.specs.Records.{SendState}
use Rattle.subflow_send.specs.Rules.{ack_kind, after_acknowledge, sample_of}
use Rattle.subflow_send.specs.declared.record.AckKind.TheVariants.{New, Duplicate, Old, Future}
use Rattle.subflow_tcp.specs.Expiring.{is_sixth}
use Rattle.subflow_tcp.specs.Judging.{is_at, meaning_of}
use Rattle.subflow_tcp.specs.State.{EndState}
use Rattle.subflow_tcp.specs.States.{after_fin_acked, after_handshake, is_dead}
use Rattle.subflow_tcp.specs.Taking.{after_ack_kind, after_acknowledgement, after_established, after_hearing, after_payload, after_taken, is_fin_acked}
use Rattle.subflow_tcp.specs.declared.handshake.State.{State}
use Rattle.subflow_tcp.specs.declared.handshake.State.TheVariants as phase
use Rattle.subflow_tcp.specs.declared.segments.Outgoing.{Outgoing}
use Rattle.subflow_tcp.specs.declared.verdicts.Meaning.{Meaning}
use Rattle.subflow_tcp.specs.declared.verdicts.Meaning.TheVariants as means
use Rattle.actor_desk.specs.Words.{is_nil}
use Rattle.actor_desk.specs.declared.ask.Reply.{Reply}
use Rattle.path_agenda.specs.Agenda.{copy_came, emission, heard_and, leaves, payload_came, rest_of_turn, start_of_turn}
use Rattle.path_agenda.specs.declared.duty.Duty.{Duty}
use Rattle.path_agenda.specs.declared.duty.Duty.TheVariants as duties
use Rattle.path_agenda.specs.declared.duty.AskDuty.TheVariants as ask_duties
use Rattle.path_agenda.specs.declared.duty.StepDuty.TheVariants as step_duties
use Rattle.path_agenda.specs.declared.heard.Heard.{Heard}
use Rattle.path_agenda.specs.declared.heard.Heard.TheVariants as says
use Rattle.path_store.specs.declared.lines.LineAction.{LineAction}
use Rattle.path_store.specs.declared.lines.LineAction.TheVariants as actions
use Rattle.path_core.specs.Arrival.{copy_heard, copy_judged, copy_of, heard_in, judged_in, reset_for, template_by, template_of, with_payload}
use Rattle.path_core.specs.Deliver.{breaks_by_unmapped, is_dropped, mapping_here, times_unmapped}
use Rattle.path_core.specs.DssIn.{HeardOption, checksum_heard, held_if, held_in, held_of, is_mapping, kept_of}
use Rattle.path_core.specs.Duties.{answered, passed, stands}
use Rattle.path_core.specs.End.{PathEnd}
use Rattle.path_core.specs.Events.{after_line, happens_if, next_event}
use Rattle.path_core.specs.Judged.{taken_as}
use Rattle.path_core.specs.Modes.{receives_plainly}
use Rattle.path_core.specs.MpJoin.{is_joined, is_never, keys_begun, never_joined, opened_by}
use Rattle.path_core.specs.OptionsIn.{hint_of, items_in, items_of, options_heard, owes_by}
use Rattle.path_core.specs.Profile.{Profile}
use Rattle.path_core.specs.State.{PathState, at_tick, end_at, goes_on, with_agenda}
use Rattle.path_core.specs.Steps.{begins_turn, settled, takes}
use Rattle.path_core.specs.Timer.{template_fired}
use Rattle.path_core.specs.Values.{Carried, as_arrived, values}
use Rattle.path_core.specs.declared.events.Event.{Event}
use Rattle.path_core.specs.declared.events.Event.TheVariants as happenings
use Rattle.world_laws.proofs.Keys.AreDrawn.{is_past}
use Rattle.world_laws.proofs.Keys.WhatWakes.{itself}
use Rattle.world_laws.proofs.Whole.Copies.{OptionIs}
use Rattle.world_laws.proofs.Whole.Ends.{MeansIs, means_so}
use Rattle.world_laws.proofs.Whole.Happening.{Holds, Now, Next, is_between}
use Rattle.world_laws.proofs.Whole.Paths.{CopyTo, Mark, marks}
use Rattle.world_laws.proofs.Worlds.Finding.{find_every, one_side}
use Rattle.whole_paths.specs.AgendaSteps.{is_gone}
use Rattle.whole_paths.specs.Arrivals.{IsFirstPiece, IsPiece}
use Rattle.whole_paths.specs.Mild.{EndsHaveKeys}
use Rattle.whole_paths.proofs.Agendas.{own_end}
use Rattle.whole_paths.proofs.Arrivals.{fits, held_one}
use Rattle.whole_paths.proofs.Knowing.{Live, answered_live}
use Rattle.whole_paths.proofs.MappedCopies.{CopyMaps, MapsAll}
use Rattle.whole_paths.proofs.MappedCopies.{MapsAll as maps}
use Rattle.whole_paths.proofs.Opening.{held_state, heard_state, owing_state}
use Rattle.whole_paths.proofs.Settling.{sides}
use Rattle.whole_paths.proofs.Unbroken.{FirstKnown, Known, no_plain_ack}
use Rattle.whole_paths.proofs.Unmapped.{At, AtIf, Learns, Loose, Stage, acks_behind, answered_at, has_unmapped, is_foreign, keeps_first, settled_at, unmapped_at}
use Rattle.whole_paths.proofs.Unmapped.{Stage as stage_is}

-- ---- what a copy maps

-- the first mapping that it tells names each position of its bytes, and is learned last of what it says
pub record Maps (joined : Bool) (c : Profile) (s : Side) (h : HeardSegment) (pos : ℕ) : Type 0 where
  mapping : KeptMapping
  held : held_of c s h ≡ mapping ∷ []
  names : (n : ℕ) → pos ≤ n → n < pos + length h.payload → covers n (run_of mapping) ≡ true
  learns : Learns s (items_of joined s h) (heard_and s 0 (length (items_of joined s h)) (payload_came s))

abbrev LearnsAll : Side → List Heard → Type 0
LearnsAll s items = Learns s items (heard_and s 0 (length items) (payload_came s))

run_names : (n pos len : ℕ) → pos ≤ n → n < pos + len → pos + len ≤ 2 ^ 64 - 1 → (nat_le pos n && nat_lt n (min (pos + len) (2 ^ 64 - 1))) ≡ true
run_names n pos len from below short =
    ap (λ b. b && nat_lt n (min (pos + len) (2 ^ 64 - 1))) (le-leb pos n from) ∙ lt-ltb n (min (pos + len) (2 ^ 64 - 1)) (omega (arith, below, short))

piece_learns : (s : Side) (next window : ℕ) (acks maps : Bool) → maps ≡ true
    → LearnsAll s ((says.Dss ∷ ((if acks then says.DataAck next window ∷ [] else []) ++ (if maps then says.Mapping false ∷ [] else []))) ++ [])
piece_learns s next window acks false is = absurd (true≢false (sym is))
piece_learns s next window true true is = (refl, inr (refl, (refl, inr (refl, (refl, inl (refl, refl))))))
piece_learns s next window false true is = (refl, inr (refl, (refl, inl (refl, refl))))

pub piece_maps : (joined : Bool) (c : Profile) (s : Side) (h : HeardSegment) (y : PlainSegment) → h.payload ≡ y.payload → h.options ≡ map meant_option y.options → IsPiece y → Maps joined c s h y.position
piece_maps joined c s h y payload options x = record {
  mapping = kept_of c s x.place y.position (length y.payload) false (checksum_heard x.checksum);
  held = ap (λ (os : List HeardOption). flat_map (held_in c s) os) said ∙ held_one c s x.next x.place y.position (length y.payload) x.checksum x.behind_syn x.low;
  names = λ n from below. run_names n y.position (length y.payload) from (subst (λ (octets : List ℕ). n < y.position + length octets) payload below) (let short = x.short in omega (arith, short));
  learns = subst (λ (os : List HeardOption). LearnsAll s (flat_map (items_in joined s h.window) os)) (sym said)
      (piece_learns s x.next h.window (nat_lt x.next (2 ^ 62)) (is_mapping x.place y.position (length y.payload)) (fits c s x.next x.place y.position (length y.payload) x.checksum x.behind_syn x.low));
}
  where
    said : h.options ≡ Dss (Some (Some x.next)) (Some (Bytes (Some x.place) (Some y.position) (length y.payload) false x.checksum)) ∷ []
    said = options ∙ ap (λ os. map meant_option os) x.options

first_learns : (own other : ℕ) (some whole : Bool) → some ≡ true → whole ≡ true
    → LearnsAll B ((says.Keys other own ∷ (if some then (if whole then says.Mapping false ∷ [] else []) else [])) ++ [])
first_learns own other true true more is = (refl, inr (refl, (refl, inl (refl, refl))))
first_learns own other false whole more is = absurd (true≢false (sym more))
first_learns own other true false more is = absurd (true≢false (sym is))

first_maps : (c : Profile) (h : HeardSegment) (y : PlainSegment) → is_joined c ≡ false → h.payload ≡ y.payload → h.options ≡ map meant_option y.options → IsFirstPiece y → Maps false c B h y.position
first_maps c h y joined payload options x = record {
  mapping = kept_of c B 0 1 len false (checksum_heard x.checksum);
  held = ap (λ (os : List HeardOption). flat_map (held_in c B) os) said
      ∙ ap (λ b. (if b then [] else (if nat_lt 0 len then held_if c B 0 1 len false x.checksum else [])) ++ []) joined
      ∙ ap (λ b. (if b then held_if c B 0 1 len false x.checksum else []) ++ []) some
      ∙ ap (λ b. (if b then kept_of c B 0 1 len false (checksum_heard x.checksum) ∷ [] else []) ++ []) fit;
  names = λ n from below. run_names n 1 len (subst (λ k. k ≤ n) x.position from)
      (subst (λ k. n < k + len) x.position (subst (λ (octets : List ℕ). n < y.position + length octets) payload below)) (let few = x.few in omega (arith, few));
  learns = subst (λ (os : List HeardOption). LearnsAll B (flat_map (items_in false B h.window) os)) (sym said) (first_learns x.own x.other (nat_lt 0 len) (is_mapping 0 1 len) some fit);
}
  where
    len : ℕ
    len = length y.payload

    said : h.options ≡ Capable x.sums false (WithData x.own x.other (length y.payload) x.checksum) ∷ []
    said = options ∙ ap (λ os. map meant_option os) x.options

    some : nat_lt 0 (length y.payload) ≡ true
    some = lt-ltb 0 (length y.payload) x.some

    fit : is_mapping 0 1 (length y.payload) ≡ true
    fit = le-leb (0 + length y.payload) (2 ^ 62) (let few = x.few in omega (arith, few))

-- ---- a copy that is taken

fin_acked_living : (state : State) → is_dead (after_fin_acked state) ≡ is_dead state
fin_acked_living phase.FinWait1 = refl
fin_acked_living phase.Closing = refl
fin_acked_living _ = refl

handshake_living : (state : State) → is_dead (after_handshake state) ≡ is_dead state
handshake_living phase.SynReceived = refl
handshake_living _ = refl

past_living : (state : State) → is_past state ≡ true → is_dead state ≡ false
past_living phase.Dead past = absurd (true≢false (sym past))
past_living _ past = refl

ack_living : (n now : ℕ) (s : EndState) → is_dead (after_acknowledgement n now s).state ≡ is_dead s.state
ack_living n now s = elim (ack_kind n s.send) as (λ kind. is_dead (after_ack_kind kind (sample_of n s.send) now (record s { send = after_acknowledge n s.send })).state ≡ is_dead s.state) [
  | New octets ↦ (elim (is_fin_acked (after_acknowledge n s.send)) as (λ b. is_dead (if b then after_fin_acked s.state else s.state) ≡ is_dead s.state) [ true ↦ fin_acked_living s.state | false ↦ refl ])
  | Duplicate ↦ refl
  | Old ↦ refl
  | Future ↦ refl
]

taken_living : (joined : Bool) (told : List KeptMapping) (answer : Outgoing) (s : Side) (now pos n : ℕ) (h : HeardSegment) (e : PathEnd) → is_past e.tcp.state ≡ true → is_gone (copy_judged joined told answer s now h (means.Taken pos n) e) ≡ false
taken_living joined told answer s now pos n h e past =
    let items : List Heard = items_of joined s h in let hint = hint_of items in let m = means.Taken pos n in
    let held = with_payload m h.payload e.tcp in let ready = after_established (after_hearing (after_payload pos hint (copy_of h) held)) in
    ap is_dead (owing_state (owes_by m items) (after_taken pos n hint now (copy_of h) held) ∙ heard_state n hint now (copy_of h) ready)
    ∙ ack_living n now ready ∙ handshake_living held.state ∙ ap is_dead (held_state m h.payload e.tcp) ∙ past_living e.tcp.state past

-- an agenda of such a copy
none_foreign : (s : Side) (from count : ℕ) (ds : List Duty) → list_any is_foreign ds ≡ false → list_any is_foreign (heard_and s from count ds) ≡ false
none_foreign s from zero ds none = none
none_foreign s from (suc count) ds none = none_foreign s (from + 1) count ds none

acks_heard : (t s : Side) (from count : ℕ) (ds : List Duty) → acks_behind t ds ≡ true → acks_behind t (heard_and s from count ds) ≡ true
acks_heard t s from zero ds acks = acks
acks_heard t s from (suc count) ds acks = acks_heard t s (from + 1) count ds acks

keeps_heard : (t s : Side) (from count : ℕ) (ds : List Duty) → keeps_first t ds ≡ true → keeps_first t (heard_and s from count ds) ≡ true
keeps_heard t s from zero ds keeps = keeps
keeps_heard t s from (suc count) ds keeps = keeps_heard t s (from + 1) count ds keeps

none_unmapped : (t s : Side) (from count : ℕ) (ds : List Duty) → has_unmapped t ds ≡ false → has_unmapped t (heard_and s from count ds) ≡ false
none_unmapped t s from zero ds none = none
none_unmapped t s from (suc count) ds none = none_unmapped t s (from + 1) count ds none

payload_acks : (s : Side) → acks_behind s (payload_came s) ≡ true
payload_acks A = refl
payload_acks B = refl

payload_keeps : (s : Side) → keeps_first s (payload_came s) ≡ true
payload_keeps A = refl
payload_keeps B = refl

-- none counts at the other end
pub other_unmapped : (s : Side) (count : ℕ) → has_unmapped (peer s) (copy_came s count) ≡ false
other_unmapped A count = none_unmapped B A 0 count (payload_came A) refl
other_unmapped B count = none_unmapped A B 0 count (payload_came B) refl

held_in_payload : (pos n edge len : ℕ) → (if nat_le pos edge && nat_lt edge (pos + len) then Some edge else None) ≡ Some n → (pos ≤ n) × (n < pos + len)
held_in_payload pos n edge len = by (nat_le pos edge && nat_lt edge (pos + len)) refl
  where
    by : (b : Bool) → (nat_le pos edge && nat_lt edge (pos + len)) ≡ b → (if b then Some edge else None) ≡ Some n → (pos ≤ n) × (n < pos + len)
    by false inside is = absurd (true≢false (sym (ap is_some is)))
    by true inside is =
        let same = same_Some edge n is in let parts = and_parts (nat_le pos edge) (nat_lt edge (pos + len)) inside in
        let low = leb-true pos edge parts.0 in let below = ltb-true edge (pos + len) parts.1 in (omega (arith, low, same), omega (arith, below, same))

module _ (joined : Bool) (c : Profile) (s : Side) (now : ℕ) (answer : Outgoing) (h : HeardSegment) (e : PathEnd) (pos n : ℕ) where
  abbrev taken : PathEnd
  taken = copy_judged joined (held_of c s h) answer s now h (means.Taken pos n) e

  pub taken_at : is_past e.tcp.state ≡ true → ((at : ℕ) → pos ≤ at → at < pos + length h.payload → Maps joined c s h pos) → At s (copy_came s (length (items_of joined s h))) taken
  taken_at past maps = record {
    native = none_foreign s 0 (length (items_of joined s h)) (payload_came s) refl;
    acks = acks_heard s s 0 (length (items_of joined s h)) (payload_came s) (payload_acks s);
    held = λ at is. let inside = held_in_payload pos at _ (length h.payload) is in let x = maps at inside.0 inside.1 in stage_is.told (record {
      mapping = x.mapping;
      first = ap (λ told. first_of told) x.held;
      names = x.names at inside.0 inside.1;
      living = taken_living joined (held_of c s h) answer s now pos n h e past;
      learns = (refl, (refl, (refl, (refl, x.learns))));
      keeps = keeps_heard s s 0 (length (items_of joined s h)) (payload_came s) (payload_keeps s);
    });
  }

-- ---- a copy

pub none_at : (t : Side) (es : List Duty) (e : PathEnd) → has_unmapped t es ≡ false → AtIf t es e
none_at t es e none some = absurd (true≢false (sym some ∙ none))

-- what its sender says of it, where it is neither a SYN nor a reset
abbrev HasOption : Side → PlainSegment → Type 0
HasOption s y = y.rst ≡ false → y.syn ≡ false → OptionIs s (meant y)

abbrev pub AllAt : PathState Carried → Type 0
AllAt p = (t : Side) → AtIf t p.agenda (end_at t p)

module _ (s : Side) (y : PlainSegment) (p : PathState Carried) (first : is_joined p.profile ≡ false) (plain : (end_at s p).modes.identity ≡ false) (maps_all : MapsAll (peer s) y) (spoken : HasOption (peer s) y) where
  abbrev e : PathEnd
  e = end_at s p

  abbrev h : HeardSegment
  h = options_heard e (meant y)

  options : h.options ≡ map meant_option y.options
  options = ap (λ b. if b then [] else map meant_option y.options) plain

  some_so : (len : ℕ) (at pos : ℕ) → pos ≤ at → at < pos + len → 0 < len
  some_so len at pos from below = omega (arith, from, below)

  bare_never : y.options ≡ [] → 0 < length y.payload → OptionIs (peer s) (meant y) → ⊥
  bare_never none some is = by (peer s) is
    where
      by : (t : Side) → OptionIs t (meant y) → ⊥
      by A is = both_ways _ is (ap (λ os. is_nil (map meant_option os)) none)
      by B (inl empty) = never y.payload empty some
        where
          never : (octets : List ℕ) → is_nil octets ≡ true → 0 < length octets → ⊥
          never [] empty some = omega (arith, some)
          never (octet ∷ octets) empty some = true≢false (sym empty)
      by B (inr is) = both_ways _ is (ap (λ os. is_nil (map meant_option os)) none)

  sender_a : (s : Side) → peer s ≡ A → s ≡ B
  sender_a A is = cc
  sender_a B is = refl

  maps_so : (pos at : ℕ) → y.position ≡ pos → y.rst ≡ false → y.syn ≡ false → pos ≤ at → at < pos + length y.payload → MapsAll (peer s) y → Maps false p.profile s h pos
  maps_so pos at is rst syn from below (maps.none empty unmapped) = absurd (let none = ap (λ (octets : List ℕ). length octets) empty in omega (arith, from, below, none))
  maps_so pos at is rst syn from below (maps.piece x) = subst (Maps false p.profile s h) is (piece_maps false p.profile s h y refl options x)
  maps_so pos at is rst syn from below (maps.first of_a x) =
      subst (Maps false p.profile s h) is (subst (λ t. Maps false p.profile t h y.position) (sym (sender_a s of_a)) (first_maps p.profile h y first refl options x))
  maps_so pos at is rst syn from below (maps.bare none) = absurd (bare_never none (some_so (length y.payload) at pos from below) (spoken rst syn))

  judged_at : (m : Meaning) → MeansIs (copy_of h) e.tcp m
      → AllAt (goes_on s (copy_judged false (held_of p.profile s h) (reset_for p.profile s h) s p.clock h m e) (template_by false s (length (items_of false s h)) m) p)
  judged_at (means.Taken pos n) is t = ⊎_elim
      (λ own. subst (λ u. AtIf u (copy_came s count) (end_at u q)) own
      (λ some. subst (λ f. At s (copy_came s count) f) (sym (own_end s f p.a p.b))
      (taken_at false p.profile s p.clock (reset_for p.profile s h) h e pos n is.0
      (λ at from below. maps_so pos at (same_Some y.position pos is.1.1.1.0) is.1.1.0 is.1.0 from below maps_all))))
      (λ away. subst (λ u. AtIf u (copy_came s count) (end_at u q)) away (none_at (peer s) (copy_came s count) (end_at (peer s) q) (other_unmapped s count)))
      (sides t s)
    where
      count : ℕ
      count = length (items_of false s h)

      f : PathEnd
      f = copy_judged false (held_of p.profile s h) (reset_for p.profile s h) s p.clock h (means.Taken pos n) e

      q : PathState Carried
      q = goes_on s f (copy_came s count) p
  judged_at (means.Accepts n) is t = none_at t _ _ refl
  judged_at means.Ignored is t = none_at t _ _ refl
  judged_at means.Unwanted is t = none_at t _ _ refl
  judged_at _ is t = none_at t _ _ refl

  copy_at : AllAt (copy_heard s (Some (meant y)) p)
  copy_at = by (is_joined p.profile) first
    where
      by : (joined : Bool) → joined ≡ false
          → AllAt (goes_on s (copy_judged joined (held_of p.profile s h) (reset_for p.profile s h) s p.clock h (taken_as (judged_in joined s h e)) e) (template_of joined s (items_of joined s h) (judged_in joined s h e)) p)
      by true is = absurd (true≢false is)
      by false is = judged_at (meaning_of (copy_of h) e.tcp) (means_so (copy_of h) e.tcp)

-- ---- an event

pub line_at : (action : LineAction) (p : PathState Carried) → AllAt (after_line action p)
line_at actions.Die p t = none_at t _ _ (by (is_dead p.a.tcp.state) (is_dead p.b.tcp.state))
  where
    by : (a b : Bool) → has_unmapped t ((if a then [] else duties.Ask (ask_duties.Leave A) ∷ []) ++ ((if b then [] else duties.Ask (ask_duties.Leave B) ∷ []) ++ rest_of_turn)) ≡ false
    by true true = refl
    by true false = refl
    by false true = refl
    by false false = refl
line_at (actions.Prio s backup) p t = none_at t _ _ refl
line_at (actions.Announce s id) p t = none_at t _ _ refl
line_at (actions.Withdraw s id) p t = none_at t _ _ refl

abbrev CopySpeaks : Flight Carried → Type 0
CopySpeaks f = HasOption (peer f.to) (as_arrived f.carried)

pub fired_unmapped : (t s : Side) (b : Bool) → has_unmapped t (template_fired b s) ≡ false
fired_unmapped t s true = refl
fired_unmapped t s false = refl

pub event_at : (o : Option Event) (r : Reply) (p : PathState Carried) → is_joined p.profile ≡ false → ((s : Side) → (end_at s p).modes.identity ≡ false) → Every CopyMaps p.link.under_way → Every CopySpeaks p.link.under_way
    → AllAt (happens_if values o r p)
event_at None r p first plain copies spoken t = none_at t _ _ refl
event_at (Some (happenings.Joins tick)) r p first plain copies spoken t =
    let x = record (at_tick tick p) { joined_at = None } in
    (elim (is_never r) as (λ b. let q = (if b then goes_on A (never_joined r x.a) (leaves A) x else goes_on A (opened_by (keys_begun r) x.a) (emission A) x) in AtIf t q.agenda (end_at t q))
    [ true ↦ none_at t _ _ refl | false ↦ none_at t _ _ refl ])
event_at (Some (happenings.Takes line)) r p first plain copies spoken t = line_at line.action _ t
event_at (Some (happenings.Arrives due)) r p first plain copies spoken t = by (arriving due p.link) refl t
  where
    x : PathState Carried
    x = record (at_tick due.tick p) { link = after_delivery due p.link }

    by : (o : Option (Flight Carried)) → arriving due p.link ≡ o → AllAt (copy_heard due.to (heard_in values due.to o p) x)
    by None is t = none_at t _ _ refl
    by (Some f) is t =
        let found = find_every CopyMaps (is_due due) p.link.under_way f copies is in
        let said = find_every CopySpeaks (is_due due) p.link.under_way f spoken is in
        let parts = and_parts (f.tick == due.tick) (same_side f.to due.to && f.number == due.copy) found.1 in
        let to = one_side f.to due.to (and_parts (same_side f.to due.to) (f.number == due.copy) parts.1).0 in
        copy_at due.to (as_arrived f.carried) x first (plain due.to) (subst (λ s. MapsAll (peer s) (as_arrived f.carried)) to found.0) (subst (λ s. HasOption (peer s) (as_arrived f.carried)) to said.0) t
event_at (Some (happenings.Fires s tick)) r p first plain copies spoken t = none_at t _ _ (fired_unmapped t s (is_sixth (end_at s p).tcp))

pub first_same : (d e : Duty) (ds es : List Duty) → d ∷ ds ≡ e ∷ es → d ≡ e
first_same d e ds es same = cc

-- each copy under way says so, as events come next
pub copies_speak : (ds : List Duty) (p : PathState Carried) → p.agenda ≡ duties.Step step_duties.Events ∷ ds → Holds p → Every CopySpeaks p.link.under_way
copies_speak ds p is (Now q h) = record { each = λ i f there. by q.a.tcp.send q.b.tcp.send f f.to (h.copies.each i f there) }
  where
    by : (va vb : SendState) (f : Flight Carried) (t : Side) → CopyTo va vb t f → HasOption (peer t) (as_arrived f.carried)
    by va vb f A says rst syn = says.option rst syn
    by va vb f B says rst syn = says.option rst syn
copies_speak ds p is (Next d others q between now calm does passes) =
    let same : d ≡ duties.Step step_duties.Events = first_same d (duties.Step step_duties.Events) others ds (sym now ∙ is) in absurd (true≢false (sym between.duty ∙ ap is_between same))

-- ---- a missing mapping never counts

at_edge : (edge : ℕ) (o : Option ℕ) → is_at edge o ≡ true → o ≡ Some edge
at_edge edge None is = absurd (true≢false (sym is))
at_edge edge (Some n) is = ap (λ k. Some k) (by n edge is)
  where
    by : (n edge : ℕ) → is_at edge (Some n) ≡ true → n ≡ edge
    by n edge is = eqb-true n edge is

none_some : (o : Option KeptMapping) → is_none o ≡ true → is_some o ≡ true → ⊥
none_some None none some = true≢false (sym some)
none_some (Some x) none some = true≢false (sym none)

-- what is known of an end whose missing mapping may count now
pub record Knows (t : Side) (ds : List Duty) (e : PathEnd) : Type 0 where
  pub plain : e.modes.identity ≡ false
  pub option : (n : ℕ) → e.treated.held_edge ≡ Some n → e.treated.has_option ≡ true
  pub keyed_a : t ≡ A → marks (Mark.SaidBy A) (duties.Step (step_duties.Unmapped t) ∷ ds) ≡ true → is_some e.modes.peer_key ≡ true
  pub keyed_b : t ≡ B → e.modes.clear ≡ true → is_some e.modes.peer_key ≡ true

pub never_at : (t : Side) (ds : List Duty) (e : PathEnd) → Knows t ds e → AtIf t (duties.Step (step_duties.Unmapped t) ∷ ds) e → breaks_by_unmapped e ≡ true → ⊥
never_at t ds e knows h is = by (at.held e.tcp.recv.edge held)
  where
    at : At t (duties.Step (step_duties.Unmapped t) ∷ ds) e
    at = h (ap (λ b. b || has_unmapped t ds) (itself t))

    parts : (is_at e.tcp.recv.edge e.treated.held_edge ≡ true) × ((not (receives_plainly e.modes e.tcp.recv.edge) && is_none (mapping_here e)) ≡ true)
    parts = and_parts (is_at e.tcp.recv.edge e.treated.held_edge) (not (receives_plainly e.modes e.tcp.recv.edge) && is_none (mapping_here e))
        (and_parts (is_at e.tcp.recv.edge e.treated.held_edge && (not (receives_plainly e.modes e.tcp.recv.edge) && is_none (mapping_here e))) (is_sure e.modes.mode && nat_le 3 (times_unmapped e)) is).0

    held : e.treated.held_edge ≡ Some e.tcp.recv.edge
    held = at_edge e.tcp.recv.edge e.treated.held_edge parts.0

    mapped : IsSome (mapping_at e.receiving.mappings e.tcp.recv.edge) → ⊥
    mapped some =
        let both = and_parts (not (receives_plainly e.modes e.tcp.recv.edge)) (is_none (mapping_here e)) parts.1 in
        none_some (mapping_at e.receiving.mappings e.tcp.recv.edge)
        (ap (λ b. is_none (if b then None else mapping_at e.receiving.mappings e.tcp.recv.edge)) (sym (not-true (receives_plainly e.modes e.tcp.recv.edge) both.0)) ∙ both.1) some

    no_key : (s : Side) → t ≡ s → Loose t (duties.Step (step_duties.Unmapped t) ∷ ds) e → ⊥
    no_key A is x = both_ways (is_some e.modes.peer_key) (ap is_some x.key)
        (knows.keyed_a is (subst (λ u. acks_behind u (duties.Step (step_duties.Unmapped u) ∷ ds) ≡ true → marks (Mark.SaidBy A) (duties.Step (step_duties.Unmapped u) ∷ ds) ≡ true) (sym is)
        (λ acks. (and_parts (marks (Mark.SaidBy A) ds) (acks_behind A ds) acks).0) at.acks))
    no_key B is x = ⊎_elim
        (λ keeps. true≢false (sym (subst (λ u. keeps_first u (duties.Step (step_duties.Unmapped u) ∷ ds) ≡ true) is keeps)))
        (λ kept. both_ways (is_dropped B e) (subst (λ u. is_dropped u e ≡ false) is kept) drops)
        x.drops
      where
        unclear : (b : Bool) → e.modes.clear ≡ b → b ≡ false
        unclear true clear = absurd (both_ways (is_some e.modes.peer_key) (ap is_some x.key) (knows.keyed_b is clear))
        unclear false clear = refl

        drops : is_dropped B e ≡ true
        drops = rw (unclear e.modes.clear refl, knows.plain, knows.option e.tcp.recv.edge held) refl

    by : Stage t e.tcp.recv.edge (duties.Step (step_duties.Unmapped t) ∷ ds) e → ⊥
    by (stage_is.below low) = omega (arith, low)
    by (stage_is.known some) = mapped some
    by (stage_is.told x) = true≢false (sym x.learns.1.0)
    by (stage_is.loose x) = no_key t refl x
    by (stage_is.fallen is) = both_ways e.modes.identity knows.plain is

-- what is known as it comes first
knows_option : (p : PathState Carried) (t : Side) (ds : List Duty) → p.agenda ≡ duties.Step (step_duties.Unmapped t) ∷ ds → Holds p → (s : Side) (n : ℕ) → (end_at s p).treated.held_edge ≡ Some n → (end_at s p).treated.has_option ≡ true
knows_option p t ds is (Now q h) A n held = subst (λ o. IfSome o (λ edge. q.a.treated.has_option ≡ true)) held h.a.base.treated.holds
knows_option p t ds is (Now q h) B n held = subst (λ o. IfSome o (λ edge. q.b.treated.has_option ≡ true)) held h.b.base.treated.holds
knows_option p t ds is (Next d others q between now calm does passes) s n held =
    absurd (true≢false (sym between.duty ∙ ap is_between (first_same d (duties.Step (step_duties.Unmapped t)) others ds (sym now ∙ is))))

knows_key : (p : PathState Carried) (t : Side) (ds : List Duty) → p.agenda ≡ duties.Step (step_duties.Unmapped t) ∷ ds → Holds p → marks (Mark.SaidBy A) p.agenda ≡ true → is_some p.a.modes.peer_key ≡ true
knows_key p t ds is (Now q h) said = h.marked (Mark.SaidBy A) said
knows_key p t ds is (Next d others q between now calm does passes) said =
    absurd (true≢false (sym between.duty ∙ ap is_between (first_same d (duties.Step (step_duties.Unmapped t)) others ds (sym now ∙ is))))

pub knows_so : (p : PathState Carried) (t : Side) (ds : List Duty) → p.agenda ≡ duties.Step (step_duties.Unmapped t) ∷ ds → ((s : Side) → (end_at s p).modes.identity ≡ false) → Holds p → EndsHaveKeys p → Knows t ds (end_at t p)
knows_so p t ds is plain holds keys = record {
  plain = plain t;
  option = knows_option p t ds is holds t;
  keyed_a = λ of_a said. subst (λ u. is_some (end_at u p).modes.peer_key ≡ true) (sym of_a) (knows_key p t ds is holds (ap (marks (Mark.SaidBy A)) is ∙ said));
  keyed_b = λ of_b. subst (λ u. (end_at u p).modes.clear ≡ true → is_some (end_at u p).modes.peer_key ≡ true) (sym of_b) keys.b;
}

-- ---- a step

duty_at : (d : Duty) (ds : List Duty) (r : Reply) (p : PathState Carried) → let x = with_agenda (d ∷ ds) p in Known d x → ((s : Side) → (end_at s p).modes.identity ≡ false) → ((s : Side) → Live (end_at s p)) → Every CopyMaps p.link.under_way
    → Holds x → AllAt x → AllAt (answered values d r x)
duty_at (duties.Step step_duties.Events) ds r p known plain live copies holds h =
    let x : PathState Carried = with_agenda (duties.Step step_duties.Events ∷ ds) p in event_at (next_event x) r x (known.first refl) plain copies (copies_speak ds x refl holds)
duty_at (duties.Step (step_duties.PlainAck s)) ds r p known plain live copies holds h = absurd (both_ways _ (no_plain_ack p.profile (end_at s p) (known.acked refl s)) known.stood)
duty_at (duties.Step (step_duties.Unmapped s)) ds r p known plain live copies holds h = absurd (known.mapped s refl)
duty_at (duties.Silent d) ds r p known plain live copies holds h = absurd (true≢false (sym known.stood))
duty_at d ds r p known plain live copies holds h = λ t. answered_at t d ds r p refl live known.agrees plain (h t)

pub takes_at : (r : Reply) (p : PathState Carried) → FirstKnown p.agenda p → ((s : Side) → (end_at s p).modes.identity ≡ false) → ((s : Side) → Live (end_at s p)) → Every CopyMaps p.link.under_way → Holds p → AllAt p → AllAt (takes values r p)
takes_at r p = by p.agenda
  where
    by : (ds : List Duty) → let x = with_agenda ds p in FirstKnown ds x → ((s : Side) → (end_at s p).modes.identity ≡ false) → ((s : Side) → Live (end_at s p)) → Every CopyMaps p.link.under_way → Holds x → AllAt x → AllAt (takes values r x)
    by [] known plain live copies holds h = h
    by (d ∷ ds) known plain live copies holds h =
        let q : PathState Carried = answered values d r (with_agenda (d ∷ ds) p) in settled_at q.agenda q (λ t. answered_live values t d ds r p (live t)) (duty_at d ds r p known plain live copies holds h)

-- none is to be done as a turn begins
settled_none : (t : Side) (ds : List Duty) (p : PathState Carried) → has_unmapped t ds ≡ false → has_unmapped t (settled ds p).agenda ≡ false
settled_none t [] p none = refl
settled_none t (d ∷ ds) p none = elim (stands d p) as (λ b. has_unmapped t (if b then with_agenda (d ∷ ds) p else settled ds (passed d p)).agenda ≡ false)
    [ true ↦ none | false ↦ settled_none t ds (passed d p) (or_parts (unmapped_at t d) (has_unmapped t ds) none).1 ]

pub begins_at : (p : PathState Carried) → AllAt (begins_turn p)
begins_at p t = none_at t (begins_turn p).agenda (end_at t (begins_turn p)) (settled_none t start_of_turn (with_agenda start_of_turn p) refl)
