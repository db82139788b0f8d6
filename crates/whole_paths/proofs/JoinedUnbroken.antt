-- No end of a path that joins breaks, once both are past the handshake: what a duty makes of the agenda is the table that path 0 has, and the handshake
-- alone resets an end for a reason, or refuses one (RFC 8684, sections 3.2 and 3.6).
use Rattle.std.proofs.Common.{◌≡◌, refl, sym, subst, ap, ◌∙◌, ⊎_elim, ℕ, zero, suc, ◌+◌, ◌<◌, ◌≤◌, arith, ◌==◌, Bool, true, false, true≢false, not, ◌&&◌, ◌||◌, if◌then◌else◌, Option, Some, None, is_some, List, [], ◌∷◌, ◌++◌, length, map}
use Rattle.std.specs.List.{list_any}
use Rattle.std.proofs.lemmas.Bool.{and_parts, both_ways, or_cases, or_from, or_parts}
use Rattle.std.proofs.lemmas.Option.{same_Some}
use Rattle.path_segments.specs.Heard.{HeardSegment}
use Rattle.path_segments.specs.Laws.{meant, meant_option}
use Rattle.path_segments.specs.Spelled.{PlainSegment}
use Rattle.sides.specs.declared.side.Side.{Side}
use Rattle.sides.specs.declared.side.Side.TheVariants.{A, B}
use Rattle.sides.specs.Side.{peer}
use Rattle.control_book.specs.declared.call.ControlCall.TheVariants as control_calls
use Rattle.fallback_state.specs.declared.fall.Event.TheVariants as events
use Rattle.fallback_state.specs.Modes.{is_starting}
use Rattle.link_script.specs.Places.{same_side}
use Rattle.link_model.specs.Steps.{after_delivery, arriving, is_due}
use Rattle.link_model.specs.declared.flight.Flight.{Flight}
use Rattle.join_handshake.specs.declared.hearing.JoinSyn.{JoinSyn}
use Rattle.dss_mapping.specs.declared.kept.KeptMapping.{KeptMapping}
use Rattle.stream_lanes.specs.Words.{Every}
use Rattle.subflow_tcp.specs.Expiring.{is_sixth}
use Rattle.subflow_tcp.specs.Judging.{is_at, meaning_of}
use Rattle.subflow_tcp.specs.States.{is_dead, is_half_open}
use Rattle.subflow_tcp.specs.declared.handshake.State.{State}
use Rattle.subflow_tcp.specs.declared.handshake.State.TheVariants as phase
use Rattle.subflow_tcp.specs.declared.segments.Outgoing.{Outgoing}
use Rattle.subflow_tcp.specs.declared.verdicts.Meaning.{Meaning}
use Rattle.subflow_tcp.specs.declared.verdicts.Meaning.TheVariants as means
use Rattle.actor_desk.specs.Books.{StampedBooks, books_in}
use Rattle.actor_desk.specs.Desk.{SixBooks, reply_of}
use Rattle.actor_desk.specs.Words.{tail_of}
use Rattle.actor_desk.specs.declared.ask.Ask.{Ask}
use Rattle.actor_desk.specs.declared.ask.Ask.TheVariants as asks
use Rattle.actor_desk.specs.declared.ask.Reply.{Reply}
use Rattle.path_agenda.specs.Agenda.{emission, heard_and, leaves, payload_came, rest_of_turn, start_of_turn}
use Rattle.path_agenda.specs.Items.{keys_heard}
use Rattle.path_agenda.specs.declared.duty.Duty.{Duty}
use Rattle.path_agenda.specs.declared.duty.Duty.TheVariants as duties
use Rattle.path_agenda.specs.declared.duty.AskDuty.TheVariants as ask_duties
use Rattle.path_agenda.specs.declared.duty.SendDuty.TheVariants as send_duties
use Rattle.path_agenda.specs.declared.duty.StepDuty.TheVariants as step_duties
use Rattle.path_agenda.specs.declared.heard.Heard.{Heard}
use Rattle.path_agenda.specs.declared.heard.Heard.TheVariants as says
use Rattle.path_agenda.specs.declared.keys.KeyPair.{KeyPair}
use Rattle.path_agenda.specs.declared.notice.PeerNotice.TheVariants as notes
use Rattle.path_store.specs.declared.lines.LineAction.{LineAction}
use Rattle.path_store.specs.declared.lines.LineAction.TheVariants as actions
use Rattle.path_core.specs.Arrival.{copy_heard, copy_judged, copy_of, heard_in, judged_in, reset_for, template_by, template_judged}
use Rattle.path_core.specs.Breaking.{break_ask}
use Rattle.path_core.specs.Choices.{item_at}
use Rattle.path_core.specs.Deliver.{breaks_by_unmapped, is_unmapped}
use Rattle.path_core.specs.DssIn.{held_of, is_clash}
use Rattle.path_core.specs.Duties.{answered, ask_for, passed, stands}
use Rattle.path_core.specs.End.{PathEnd}
use Rattle.path_core.specs.Events.{after_line, happens_if, next_event}
use Rattle.path_core.specs.Fallback.{fell_ask}
use Rattle.path_core.specs.Judged.{is_forged, is_passed_over, join_judged, taken_as}
use Rattle.path_core.specs.MpCapable.{is_opened_by_keys, is_opened_plainly, opened_ask}
use Rattle.path_core.specs.MpJoin.{asked_at, is_joined, is_never, join_answer, join_asked, join_taken, keys_begun, never_joined, opened_by, with_mode_refused}
use Rattle.path_core.specs.OptionsIn.{has_data_ack, items_of, options_heard}
use Rattle.path_core.specs.Standing.{ack_out_ask}
use Rattle.path_core.specs.State.{PathState, at_tick, end_at, goes_on, with_agenda}
use Rattle.path_core.specs.Steps.{asks_first, begins_turn, settled, takes}
use Rattle.path_core.specs.Timer.{template_fired}
use Rattle.path_core.specs.Treating.{item_ask, item_of}
use Rattle.path_core.specs.Turns.{FirstStands}
use Rattle.path_core.specs.Values.{Carried, as_arrived, values}
use Rattle.path_core.specs.declared.events.Event.{Event}
use Rattle.path_core.specs.declared.events.Event.TheVariants as happenings
use Rattle.path_core.specs.declared.judged.Judged.{Judged}
use Rattle.path_core.specs.declared.judged.Judged.TheVariants as judged
use Rattle.world_laws.specs.declared.member.Member.TheVariants.{Path}
use Rattle.world_laws.specs.Agreement.{EndsAgree}
use Rattle.world_laws.specs.Asking.{May, asking, may}
use Rattle.world_laws.specs.Promises.{tells_refusal}
use Rattle.world_laws.specs.StampedBooks.{answer_to}
use Rattle.world_laws.specs.Worlds.{asked}
use Rattle.world_laws.specs.Writes.{side_of}
use Rattle.world_laws.proofs.Falls.FailedChecks.{fail_asks_so}
use Rattle.world_laws.proofs.Whole.Ends.{MeansIs, is_infinite_item, means_so}
use Rattle.world_laws.proofs.Whole.Falls.{PathUpright}
use Rattle.world_laws.proofs.Whole.Happening.{IsCalm}
use Rattle.world_laws.proofs.Worlds.Finding.{find_every, one_side}
use Rattle.world_laws.proofs.Writes.Asks.{asks_no_more}
use Rattle.whole_paths.specs.AgendaSteps.{is_told}
use Rattle.whole_paths.specs.AsFar.{stage}
use Rattle.whole_paths.specs.Mapped.{EndsAreLive}
use Rattle.whole_paths.specs.Mild.{is_harsh}
use Rattle.whole_paths.proofs.Agendas.{answered_follows, own_end}
use Rattle.whole_paths.proofs.Breaking.{no_clash}
use Rattle.whole_paths.proofs.InTime.{is_event}
use Rattle.whole_paths.proofs.JoinedCopies.{CopySays, SaysEnough}
use Rattle.whole_paths.proofs.JoinedCopies.{SaysEnough as enough}
use Rattle.whole_paths.proofs.JoinedTreated.{AllTreat}
use Rattle.whole_paths.proofs.Knowing.{answered_live}
use Rattle.whole_paths.proofs.MappedCopies.{CopyMaps, MapsAll, PathMaps}
use Rattle.whole_paths.proofs.MappedCopies.{MapsAll as maps}
use Rattle.whole_paths.proofs.NeverUnmapped.{AllAt, Knows, Maps, begins_at, fired_unmapped, line_at, never_at, none_at, other_unmapped, piece_maps, taken_at}
use Rattle.whole_paths.proofs.OnlyEvents.{follow_none}
use Rattle.whole_paths.proofs.Settling.{sides}
use Rattle.whole_paths.proofs.Unbroken.{Calm, Known, begun_calm, behind_calm, duty_calm, heard_calm, line_calm, no_plain_ack, settled_calm}
use Rattle.whole_paths.proofs.Unmapped.{At, AtIf, answered_at, settled_at}

-- ---- duties

-- in the handshake a path is asked for, refused, or an end is reset for a reason
abbrev pub opens_join : Duty → Bool
opens_join (duties.Ask (ask_duties.JoinHeard s)) = true
opens_join (duties.Send (send_duties.Refuse s)) = true
opens_join (duties.Send (send_duties.BreakReset s reason)) = true
opens_join _ = false

-- such a duty of an end that isn't past it
pub record IsOpening (d : Duty) (p : PathState Carried) : Type 0 where
  kind : opens_join d ≡ true
  early : stage (end_at (side_of d) p).tcp.state ≤ 2

-- none but that is harsh, and it comes first
abbrev pub OpensCalmly : List Duty → PathState Carried → Type 0
OpensCalmly [] p = Unit {0}
OpensCalmly (d ∷ ds) p = Calm ds × (is_harsh d ≡ true → IsOpening d p)

-- the handshake of path 0 is treated
abbrev pub tells_plain : Duty → Bool
tells_plain (duties.Ask (ask_duties.PlainHandshake s)) = true
tells_plain (duties.Ask (ask_duties.PeerKey s)) = true
tells_plain _ = false

abbrev pub NonePlain : List Duty → Type 0
NonePlain ds = list_any tells_plain ds ≡ false

pub record Opens (ds : List Duty) (p : PathState Carried) : Type 0 where
  calm : OpensCalmly ds p
  plain : NonePlain ds

calm_opens : (ds : List Duty) (p : PathState Carried) → Calm ds → OpensCalmly ds p
calm_opens [] p calm = tt
calm_opens (d ∷ ds) p calm = (behind_calm d ds calm, λ is. absurd (both_ways (is_harsh d) (or_parts (is_harsh d) (list_any is_harsh ds) calm).0 is))

told_plain : (e : Duty) → is_told e ≡ true → tells_plain e ≡ false
told_plain (duties.Ask (ask_duties.GoIdentity s)) told = refl
told_plain (duties.Ask (ask_duties.AckHeard s)) told = refl
told_plain (duties.Ask (ask_duties.FailHeard s)) told = refl
told_plain (duties.Send (send_duties.SynAck s)) told = refl
told_plain (duties.Send (send_duties.Refuse s)) told = refl
told_plain _ told = absurd (true≢false (sym told))

heard_plain : (s : Side) (from count : ℕ) (ds : List Duty) → NonePlain ds → NonePlain (heard_and s from count ds)
heard_plain s from zero ds none = none
heard_plain s from (suc count) ds none = heard_plain s (from + 1) count ds none

-- ---- a copy that comes

half_stage : (state : State) → is_half_open state ≡ true → stage state ≤ 2
half_stage phase.SynReceived is = omega arith
half_stage _ is = absurd (true≢false (sym is))

module _ (s : Side) (told : List KeptMapping) (answer : Outgoing) (h : HeardSegment) (p : PathState Carried) where
  abbrev e : PathEnd
  e = end_at s p

  abbrev items : List Heard
  items = items_of true s h

  abbrev then_path : Judged → PathState Carried
  then_path v = goes_on s (copy_judged true told answer s p.clock h (taken_as v) (end_at s p)) (template_judged true s (length items) v) p

  abbrev OpensSo : Judged → Type 0
  OpensSo v = Opens (template_judged true s (length items) v) (then_path v)

  meant_opens : (m : Meaning) → NonePlain (template_by true s (length items) m) → Calm (template_by true s (length items) m) → OpensSo (judged.As m)
  meant_opens m plain calm = record { calm = calm_opens (template_by true s (length items) m) (then_path (judged.As m)) calm; plain = plain }

  -- the end stays as it is
  still : (ds : List Duty) → stage e.tcp.state ≤ 2 → stage (end_at s (goes_on s (copy_judged true told answer s p.clock h means.Ignored (end_at s p)) ds p)).tcp.state ≤ 2
  still ds low = subst (λ (f : PathEnd). stage f.tcp.state ≤ 2) (sym (own_end s (copy_judged true told answer s p.clock h means.Ignored (end_at s p)) p.a p.b)) low

  asks_opens : stage e.tcp.state ≤ 2 → OpensSo judged.Asks
  asks_opens low = record { calm = (refl, λ is. record { kind = refl; early = still (template_judged true s (length items) judged.Asks) low }); plain = refl }

  lacks_opens : stage e.tcp.state ≤ 2 → OpensSo judged.Lacks
  lacks_opens low = record { calm = (refl, λ is. record { kind = refl; early = still (template_judged true s (length items) judged.Lacks) low }); plain = refl }

  forged_opens : stage e.tcp.state ≤ 2 → OpensSo judged.Forged
  forged_opens low = record { calm = (refl, λ is. record { kind = refl; early = still (template_judged true s (length items) judged.Forged) low }); plain = refl }

  judged_opens : (m : Meaning) → MeansIs (copy_of h) e.tcp m → OpensSo (join_judged h.rst items m e)
  judged_opens means.Opens fits =
      let low : stage e.tcp.state ≤ 2 = subst (λ state. stage state ≤ 2) (sym fits.0) (omega arith) in
      elim (is_some (join_asked items)) as (λ b. OpensSo (if b then judged.Asks else judged.Lacks)) [ true ↦ asks_opens low | false ↦ lacks_opens low ]
  judged_opens (means.Accepts n) fits =
      let low : stage e.tcp.state ≤ 2 = subst (λ state. stage state ≤ 2) (sym fits.0) (omega arith) in
      elim (is_some (join_answer items e.modes)) as (λ b. OpensSo (if b then judged.As (means.Accepts n) else judged.Forged)) [ true ↦ meant_opens (means.Accepts n) refl refl | false ↦ forged_opens low ]
  judged_opens means.RepeatedSyn fits = meant_opens means.RepeatedSyn refl refl
  judged_opens (means.Taken pos n) fits = by (is_passed_over h.rst items e) (is_forged items e) refl
    where
      by : (over forged : Bool) → is_forged items e ≡ forged → OpensSo (if over then judged.As means.Ignored else (if forged then judged.Forged else judged.As (means.Taken pos n)))
      by true forged is = meant_opens means.Ignored refl refl
      by false true is = forged_opens (half_stage e.tcp.state (and_parts (is_half_open e.tcp.state) _ is).0)
      by false false is = meant_opens (means.Taken pos n) (heard_plain s 0 (length items) (payload_came s) refl) (heard_calm s 0 (length items) (payload_came s) refl)
  judged_opens m fits = elim (is_passed_over h.rst items e) as (λ b. OpensSo (if b then judged.As means.Ignored else judged.As m)) [ true ↦ meant_opens means.Ignored refl refl | false ↦ meant_opens m refl refl ]

heard_opens : (s : Side) (o : Option HeardSegment) (p : PathState Carried) → is_joined p.profile ≡ true → let q = copy_heard s o p in Opens q.agenda q
heard_opens s None p joins = record { calm = calm_opens (emission s) _ refl; plain = refl }
heard_opens s (Some segment) p joins = by (is_joined p.profile) joins
  where
    x : HeardSegment
    x = options_heard (end_at s p) segment

    by : (joined : Bool) → joined ≡ true → let v = judged_in joined s x (end_at s p) in
        let q = goes_on s (copy_judged joined (held_of p.profile s x) (reset_for p.profile s x) s p.clock x (taken_as v) (end_at s p)) (template_judged joined s (length (items_of joined s x)) v) p in Opens q.agenda q
    by false joins = absurd (true≢false (sym joins))
    by true joins = judged_opens s (held_of p.profile s x) (reset_for p.profile s x) x p (meaning_of (copy_of x) (end_at s p).tcp) (means_so (copy_of x) (end_at s p).tcp)

died_plain : (a b : Bool) → NonePlain ((if a then [] else duties.Ask (ask_duties.Leave A) ∷ []) ++ ((if b then [] else duties.Ask (ask_duties.Leave B) ∷ []) ++ rest_of_turn))
died_plain true true = refl
died_plain true false = refl
died_plain false true = refl
died_plain false false = refl

line_plain : (action : LineAction) (p : PathState Carried) → NonePlain (after_line action p).agenda
line_plain actions.Die p = died_plain (is_dead p.a.tcp.state) (is_dead p.b.tcp.state)
line_plain (actions.Prio s backup) p = refl
line_plain (actions.Announce s id) p = refl
line_plain (actions.Withdraw s id) p = refl

event_opens : (o : Option Event) (r : Reply) (p : PathState Carried) → is_joined p.profile ≡ true → let q = happens_if values o r p in Opens q.agenda q
event_opens None r p joins = record { calm = calm_opens rest_of_turn _ refl; plain = refl }
event_opens (Some (happenings.Joins tick)) r p joins =
    let x : PathState Carried = record (at_tick tick p) { joined_at = None } in record {
      calm = calm_opens _ _ (begun_calm r (leaves A) (emission A) x refl refl);
      plain = elim (is_never r) as (λ b. NonePlain (if b then goes_on A (never_joined r x.a) (leaves A) x else goes_on A (opened_by (keys_begun r) x.a) (emission A) x).agenda) [ true ↦ refl | false ↦ refl ];
    }
event_opens (Some (happenings.Takes line)) r p joins =
    let x : PathState Carried = record (at_tick line.tick p) { lines = tail_of p.lines } in record { calm = calm_opens (after_line line.action x).agenda (after_line line.action x) (line_calm line.action x); plain = line_plain line.action x }
event_opens (Some (happenings.Arrives due)) r p joins = heard_opens due.to (heard_in values due.to (arriving due p.link) p) (record (at_tick due.tick p) { link = after_delivery due p.link }) joins
event_opens (Some (happenings.Fires s tick)) r p joins = record {
  calm = calm_opens (template_fired (is_sixth (end_at s p).tcp) s) _ (elim (is_sixth (end_at s p).tcp) as (λ b. Calm (template_fired b s)) [ true ↦ refl | false ↦ refl ]);
  plain = elim (is_sixth (end_at s p).tcp) as (λ b. NonePlain (template_fired b s)) [ true ↦ refl | false ↦ refl ];
}

-- ---- what is asked

none_infinite : (items : List Heard) (index place : ℕ) (position : Option ℕ) → list_any is_infinite_item items ≡ false → item_at index items ≡ Some (says.InfiniteMapping place position) → ⊥
none_infinite [] index place position none is = cc
none_infinite (item ∷ items) zero place position none is =
    let same : item ≡ says.InfiniteMapping place position = cc in true≢false (sym (ap is_infinite_item same) ∙ (or_parts (is_infinite_item item) (list_any is_infinite_item items) none).0)
none_infinite (item ∷ items) (suc index) place position none is = none_infinite items index place position (or_parts (is_infinite_item item) (list_any is_infinite_item items) none).1 is

either_calm : (b : Bool) (x y : Ask) → IsCalm x → IsCalm y → IsCalm (if b then x else y)
either_calm true x y one other = one
either_calm false x y one other = other

other_calm : (m : May) (x : Ask) → m.fell ≡ false → may m x ≡ true → IsCalm x
other_calm m (asks.Control s (control_calls.Fell path event)) none is = absurd (both_ways m.fell none is)
other_calm m (asks.Control s (control_calls.Look path)) none is = tt
other_calm m _ none is = tt

module _ (p : PathState Carried) (treats : AllTreat p) where
  break_calm : (s : Side) (reason : ℕ) → IsCalm (break_ask values s reason p)
  break_calm s reason = either_calm (end_at s p).treated.asked (ack_out_ask s) _ tt tt

  thing_calm : (s : Side) (index : ℕ) (o : Option Heard) → item_of index (end_at s p) ≡ o → IsCalm (item_ask values s o p)
  thing_calm s index (Some (says.Mapping fin)) is = elim (is_clash (end_at s p)) as (λ b. IsCalm (if b then break_ask values s 1 p else fell_ask s events.MappingHeard p)) [ true ↦ break_calm s 1 | false ↦ tt ]
  thing_calm s index (Some (says.InfiniteMapping place position)) is = absurd (by (end_at s p).modes.identity is)
    where
      by : (b : Bool) → (if b then None else item_at index (end_at s p).treated.items) ≡ Some (says.InfiniteMapping place position) → ⊥
      by true is = cc
      by false is = none_infinite (end_at s p).treated.items index place position (treats s).finite is
  thing_calm s index (Some (says.Notice (notes.Prio backup))) is = tt
  thing_calm s index (Some says.Fail) is = fail_asks_so IsCalm s p tt tt
  thing_calm s index _ is = tt

  opened_calm : (s : Side) → (is_opened_by_keys (end_at s p) || is_opened_plainly (end_at s p)) ≡ true → (o : Option KeyPair) → keys_heard (end_at s p).treated.items ≡ o → IsCalm (opened_ask s o p)
  opened_calm s stood (Some keys) is = tt
  opened_calm s stood None is = absurd (⊎_elim
      (λ keys. both_ways _ (ap is_some is) (and_parts (end_at s p).treated.opened (is_some (keys_heard (end_at s p).treated.items)) keys).1)
      (λ plainly. let both = and_parts (end_at s p).treated.opened _ plainly in
      true≢false (sym (and_parts (not (end_at s p).treated.has_option) _ both.1).0 ∙ ap not ((treats s).opens both.0)))
      (or_cases (is_opened_by_keys (end_at s p)) (is_opened_plainly (end_at s p)) stood))

  data_calm : (s : Side) → (is_some (end_at s p).treated.held_edge && (not (end_at s p).treated.has_option && is_starting (end_at s p).modes.mode)) ≡ true → ⊥
  data_calm s stood = by (end_at s p).treated.held_edge refl (and_parts (is_some (end_at s p).treated.held_edge) _ stood).0
    where
      by : (o : Option ℕ) → (end_at s p).treated.held_edge ≡ o → is_some o ≡ true → ⊥
      by None held some = true≢false (sym some)
      by (Some n) held some = true≢false (sym (and_parts (not (end_at s p).treated.has_option) _ (and_parts (is_some (end_at s p).treated.held_edge) _ stood).1).0 ∙ ap not ((treats s).holds n held).0)

  asks_calm : (d : Duty) → stands d p ≡ true → tells_plain d ≡ false → IsCalm (ask_for values d p)
  asks_calm (duties.Ask (ask_duties.PlainHandshake s)) stood plain = absurd (true≢false plain)
  asks_calm (duties.Ask (ask_duties.PeerKey s)) stood plain = absurd (true≢false plain)
  asks_calm (duties.Ask (ask_duties.Opened s)) stood plain = opened_calm s stood (keys_heard (end_at s p).treated.items) refl
  asks_calm (duties.Ask (ask_duties.AckHeard s)) stood plain = tt
  asks_calm (duties.Ask (ask_duties.FailHeard s)) stood plain = tt
  asks_calm (duties.Ask (ask_duties.CheckFailed s)) stood plain = tt
  asks_calm (duties.Ask (ask_duties.PlainData s)) stood plain = absurd (data_calm s stood)
  asks_calm (duties.Step (step_duties.Heard s index)) stood plain = thing_calm s index (item_of index (end_at s p)) refl
  asks_calm (duties.Step (step_duties.PlainAck s)) stood plain = absurd (both_ways _ (no_plain_ack p.profile (end_at s p) (treats s).plain) stood)
  asks_calm (duties.Step (step_duties.Look s)) stood plain = tt
  asks_calm (duties.Send (send_duties.Update s)) stood plain = tt
  asks_calm d stood plain = other_calm (asking d) (ask_for values d p) refl (asks_no_more values p d).kind

-- ---- what is known of the path

pub record JoinKnown (p : PathState Carried) : Type 0 where
  pub joins : is_joined p.profile ≡ true
  pub upright : PathUpright p
  pub agree : EndsAgree (Path p)
  pub live : EndsAreLive p
  pub maps_all : PathMaps p
  pub says : Every (CopySays p) p.link.under_way
  pub treats : AllTreat p

-- as this duty comes first
first_known : (d : Duty) (ds : List Duty) (p : PathState Carried) → JoinKnown p → is_event d ≡ false → stands d p ≡ true → tells_plain d ≡ false → ((t : Side) → AtIf t (d ∷ ds) (end_at t p)) → Known d p
first_known d ds p k other stood plain at = record {
  first = λ event. absurd (true≢false (sym (ap is_event event) ∙ other));
  stood = stood;
  asks = asks_calm p k.treats d stood plain;
  agrees = λ s. no_clash (end_at s p).receiving.mappings (k.agree s);
  sound = k.upright.passes.sound;
  heard = k.upright.passes.heard_none;
  acked = λ between s. (k.treats s).plain;
  mapped = λ s same. mapped s same;
}
  where
    mapped : (s : Side) → d ≡ duties.Step (step_duties.Unmapped s) → ⊥
    mapped s same = never_at s ds e knows (subst (λ d. AtIf s (d ∷ ds) e) same (at s)) breaks
      where
        e : PathEnd
        e = end_at s p

        breaks : breaks_by_unmapped e ≡ true
        breaks = subst (λ d. stands d p ≡ true) same stood

        held : (o : Option ℕ) → is_at e.tcp.recv.edge o ≡ true → is_some o ≡ true
        held None is = is
        held (Some n) is = refl

        key : is_some e.modes.peer_key ≡ true
        key = by e.treated.held_edge refl (held e.treated.held_edge (and_parts (is_at e.tcp.recv.edge e.treated.held_edge) _ (and_parts (is_unmapped e) _ breaks).0).0)
          where
            by : (o : Option ℕ) → e.treated.held_edge ≡ o → is_some o ≡ true → is_some e.modes.peer_key ≡ true
            by None is some = absurd (true≢false (sym some))
            by (Some n) is some = ((k.treats s).holds n is).1

        knows : Knows s ds e
        knows = record { plain = k.upright.identity s; option = λ n is. ((k.treats s).holds n is).0; keyed_a = λ of_a said. key; keyed_b = λ of_b clear. key }

-- ---- a duty

join_opens : (s : Side) (keys : Option KeyPair) (asked : Option JoinSyn) (r : Reply) (ds : List Duty) (p : PathState Carried) → let d = duties.Ask (ask_duties.JoinHeard s) in let x = with_agenda (d ∷ ds) p in
    Calm ds → IsOpening d x → let q = join_taken s keys asked r x in OpensCalmly q.agenda q
join_opens s (Some keys) (Some asked) r ds p calm opening = (calm, λ is. absurd (true≢false (sym is)))
join_opens s None (Some asked) r ds p calm opening =
    (calm, λ is. record { kind = refl; early = subst (λ (f : PathEnd). stage f.tcp.state ≤ 2) (sym (own_end s (with_mode_refused r (end_at s p)) p.a p.b)) opening.early })
join_opens s (Some keys) None r ds p calm opening = (calm, λ is. record { kind = refl; early = opening.early })
join_opens s None None r ds p calm opening = (calm, λ is. record { kind = refl; early = opening.early })

duty_opens : (six : SixBooks) (d : Duty) (ds : List Duty) (p : PathState Carried) → let x = with_agenda (d ∷ ds) p in let r = reply_of six (ask_for values d x) in
    JoinKnown x → stands d x ≡ true → tells_refusal r ≡ false → ((t : Side) → AtIf t (d ∷ ds) (end_at t x)) → Opens (d ∷ ds) x → OpensCalmly (answered values d r x).agenda (answered values d r x)
duty_opens six (duties.Step step_duties.Events) ds p k stood fine at h =
    let x = with_agenda (duties.Step step_duties.Events ∷ ds) p in (event_opens (next_event x) (reply_of six (ask_for values (duties.Step step_duties.Events) x)) x k.joins).calm
duty_opens six (duties.Ask (ask_duties.JoinHeard s)) ds p k stood fine at h =
    let d = duties.Ask (ask_duties.JoinHeard s) in let x = with_agenda (d ∷ ds) p in let r = reply_of six (ask_for values d x) in join_opens s (keys_begun r) (asked_at s x) r ds p h.calm.0 (h.calm.1 refl)
duty_opens six (duties.Send (send_duties.Refuse s)) ds p k stood fine at h = calm_opens ds _ h.calm.0
duty_opens six (duties.Send (send_duties.BreakReset s reason)) ds p k stood fine at h = calm_opens (leaves s) _ refl
duty_opens six d ds p k stood fine at h = by (is_harsh d) refl
  where
    x : PathState Carried
    x = with_agenda (d ∷ ds) p

    q : PathState Carried
    q = answered values d (reply_of six (ask_for values d x)) x

    by : (b : Bool) → is_harsh d ≡ b → OpensCalmly q.agenda q
    by true is = absurd (true≢false (sym (h.calm.1 is).kind))
    by false is = calm_opens q.agenda q (duty_calm six d ds p
        (first_known d ds x k refl stood (or_parts (tells_plain d) (list_any tells_plain ds) h.plain).0 at) fine (or_from (is_harsh d) (list_any is_harsh ds) is h.calm.0))

duty_plain : (d : Duty) (ds : List Duty) (r : Reply) (p : PathState Carried) → is_joined p.profile ≡ true → let x = with_agenda (d ∷ ds) p in NonePlain (d ∷ ds) → NonePlain (answered values d r x).agenda
duty_plain (duties.Step step_duties.Events) ds r p joins none = let x = with_agenda (duties.Step step_duties.Events ∷ ds) p in (event_opens (next_event x) r x joins).plain
duty_plain d ds r p joins none =
    follow_none tells_plain told_plain (λ s. refl) (λ s. refl) (λ s reason. refl) (λ s reason. refl) (λ s. refl) (λ s. refl) (side_of d) _ d ds (answered values d r (with_agenda (d ∷ ds) p)).agenda (answered_follows values d ds r p) none

settled_opens : (ds : List Duty) (p : PathState Carried) → Opens ds p → Opens (settled ds p).agenda (settled ds p)
settled_opens [] p h = record { calm = tt; plain = refl }
settled_opens (d ∷ ds) p h = by (stands d p)
  where
    early : IsOpening d p → IsOpening d (with_agenda (d ∷ ds) p)
    early x = record { kind = x.kind; early = x.early }

    plain_so : (ds : List Duty) (p : PathState Carried) → NonePlain ds → NonePlain (settled ds p).agenda
    plain_so [] p none = refl
    plain_so (d ∷ ds) p none = elim (stands d p) as (λ b. NonePlain (if b then with_agenda (d ∷ ds) p else settled ds (passed d p)).agenda)
        [ true ↦ none | false ↦ plain_so ds (passed d p) (or_parts (tells_plain d) (list_any tells_plain ds) none).1 ]

    by : (b : Bool) → let q = (if b then with_agenda (d ∷ ds) p else settled ds (passed d p)) in Opens q.agenda q
    by true = record { calm = (h.calm.0, λ is. early (h.calm.1 is)); plain = h.plain }
    by false = let q = settled ds (passed d p) in record { calm = calm_opens q.agenda q (settled_calm ds (passed d p) h.calm.0); plain = plain_so ds (passed d p) (or_parts (tells_plain d) (list_any tells_plain ds) h.plain).1 }

-- ---- the byte at RCV.NXT

module _ (s : Side) (y : PlainSegment) (p : PathState Carried) (mapped : (end_at s p).modes.identity ≡ false) (maps_all : MapsAll (peer s) y) (said : SaysEnough (end_at (peer s) p) y) where
  abbrev heard : HeardSegment
  heard = options_heard (end_at s p) (meant y)

  abbrev end_then : Meaning → PathEnd
  end_then m = copy_judged true (held_of p.profile s heard) (reset_for p.profile s heard) s p.clock heard m (end_at s p)

  abbrev AtAll : Judged → Type 0
  AtAll v = AllAt (goes_on s (end_then (taken_as v)) (template_judged true s (length (items_of true s heard)) v) p)

  some_payload : (len at pos : ℕ) → pos ≤ at → at < pos + len → len ≡ 0 → ⊥
  some_payload len at pos from below none = omega (arith, from, below, none)

  maps_so : (pos at : ℕ) → y.position ≡ pos → y.rst ≡ false → y.syn ≡ false → pos ≤ at → at < pos + length y.payload → Maps true p.profile s heard pos
  maps_so pos at is rst syn from below = by maps_all said
    where
      never : y.payload ≡ [] → ⊥
      never empty = some_payload (length y.payload) at pos from below (ap (λ (octets : List ℕ). length octets) empty)

      by : MapsAll (peer s) y → SaysEnough (end_at (peer s) p) y → Maps true p.profile s heard pos
      by (maps.none empty unmapped) said = absurd (never empty)
      by (maps.piece x) said = subst (Maps true p.profile s heard) is (piece_maps true p.profile s heard y refl (ap (λ b. if b then [] else map meant_option y.options) mapped) x)
      by m (enough.resets is) = absurd (true≢false (sym is ∙ rst))
      by m (enough.opens is) = absurd (true≢false (sym is ∙ syn))
      by m (enough.bare empty low) = absurd (never empty)
      by (maps.first of_a x) (enough.tells is) = absurd (true≢false (sym is ∙ ap (λ os. list_any has_data_ack (map meant_option os)) x.options))
      by (maps.bare none) (enough.tells is) = absurd (true≢false (sym is ∙ ap (λ os. list_any has_data_ack (map meant_option os)) none))

  taken_all : (pos n : ℕ) → MeansIs (copy_of heard) (end_at s p).tcp (means.Taken pos n) → AtAll (judged.As (means.Taken pos n))
  taken_all pos n is t = ⊎_elim
      (λ own. subst (λ u. AtIf u ds (end_at u q)) own (λ some. subst (λ f. At s ds f) (sym (own_end s (end_then (means.Taken pos n)) p.a p.b))
      (taken_at true p.profile s p.clock (reset_for p.profile s heard) heard (end_at s p) pos n is.0
      (λ at from below. maps_so pos at (same_Some y.position pos is.1.1.1.0) is.1.1.0 is.1.0 from below))))
      (λ away. subst (λ u. AtIf u ds (end_at u q)) away (none_at (peer s) ds (end_at (peer s) q) (other_unmapped s (length (items_of true s heard)))))
      (sides t s)
    where
      ds : List Duty
      ds = template_judged true s (length (items_of true s heard)) (judged.As (means.Taken pos n))

      q : PathState Carried
      q = goes_on s (end_then (means.Taken pos n)) ds p

  judged_all : (m : Meaning) → MeansIs (copy_of heard) (end_at s p).tcp m → AtAll (join_judged heard.rst (items_of true s heard) m (end_at s p))
  judged_all means.Opens is = elim (is_some (join_asked (items_of true s heard))) as (λ b. AtAll (if b then judged.Asks else judged.Lacks)) [ true ↦ λ t. none_at t _ _ refl | false ↦ λ t. none_at t _ _ refl ]
  judged_all (means.Accepts n) is = elim (is_some (join_answer (items_of true s heard) (end_at s p).modes)) as (λ b. AtAll (if b then judged.As (means.Accepts n) else judged.Forged)) [ true ↦ λ t. none_at t _ _ refl | false ↦ λ t. none_at t _ _ refl ]
  judged_all means.RepeatedSyn is = λ t. none_at t _ _ refl
  judged_all (means.Taken pos n) is = by (is_passed_over heard.rst (items_of true s heard) (end_at s p)) (is_forged (items_of true s heard) (end_at s p))
    where
      by : (over forged : Bool) → AtAll (if over then judged.As means.Ignored else (if forged then judged.Forged else judged.As (means.Taken pos n)))
      by true forged t = none_at t _ _ refl
      by false true t = none_at t _ _ refl
      by false false t = taken_all pos n is t
  judged_all m is = elim (is_passed_over heard.rst (items_of true s heard) (end_at s p)) as (λ b. AtAll (if b then judged.As means.Ignored else judged.As m)) [ true ↦ λ t. none_at t _ _ refl | false ↦ λ t. none_at t _ _ refl ]

copy_at : (s : Side) (y : PlainSegment) (p : PathState Carried) → is_joined p.profile ≡ true → ((s : Side) → (end_at s p).modes.identity ≡ false) → MapsAll (peer s) y → SaysEnough (end_at (peer s) p) y → AllAt (copy_heard s (Some (meant y)) p)
copy_at s y p joins mapped maps_all said = by (is_joined p.profile) joins
  where
    x : HeardSegment
    x = options_heard (end_at s p) (meant y)

    by : (joined : Bool) → joined ≡ true → let v = judged_in joined s x (end_at s p) in
        AllAt (goes_on s (copy_judged joined (held_of p.profile s x) (reset_for p.profile s x) s p.clock x (taken_as v) (end_at s p)) (template_judged joined s (length (items_of joined s x)) v) p)
    by false joins = absurd (true≢false (sym joins))
    by true joins = judged_all s y p (mapped s) maps_all said (meaning_of (copy_of x) (end_at s p).tcp) (means_so (copy_of x) (end_at s p).tcp)

event_at : (o : Option Event) (r : Reply) (p : PathState Carried) → is_joined p.profile ≡ true → ((s : Side) → (end_at s p).modes.identity ≡ false) → Every CopyMaps p.link.under_way → Every (CopySays p) p.link.under_way → AllAt (happens_if values o r p)
event_at None r p joins mapped copies said t = none_at t _ _ refl
event_at (Some (happenings.Joins tick)) r p joins mapped copies said t =
    let x = record (at_tick tick p) { joined_at = None } in
    (elim (is_never r) as (λ b. let q = (if b then goes_on A (never_joined r x.a) (leaves A) x else goes_on A (opened_by (keys_begun r) x.a) (emission A) x) in AtIf t q.agenda (end_at t q))
    [ true ↦ none_at t _ _ refl | false ↦ none_at t _ _ refl ])
event_at (Some (happenings.Takes line)) r p joins mapped copies said t = line_at line.action _ t
event_at (Some (happenings.Arrives due)) r p joins mapped copies said t = by (arriving due p.link) refl t
  where
    x : PathState Carried
    x = record (at_tick due.tick p) { link = after_delivery due p.link }

    there : (s : Side) (y : PlainSegment) → SaysEnough (end_at (peer s) p) y → SaysEnough (end_at (peer s) x) y
    there A y h = h
    there B y h = h

    mapped_there : (s : Side) → (end_at s x).modes.identity ≡ false
    mapped_there A = mapped A
    mapped_there B = mapped B

    by : (o : Option (Flight Carried)) → arriving due p.link ≡ o → AllAt (copy_heard due.to (heard_in values due.to o p) x)
    by None is t = none_at t _ _ refl
    by (Some f) is t =
        let found = find_every CopyMaps (is_due due) p.link.under_way f copies is in
        let told = find_every (CopySays p) (is_due due) p.link.under_way f said is in
        let parts = and_parts (f.tick == due.tick) (same_side f.to due.to && f.number == due.copy) found.1 in
        let to = one_side f.to due.to (and_parts (same_side f.to due.to) (f.number == due.copy) parts.1).0 in
        copy_at due.to (as_arrived f.carried) x joins mapped_there (subst (λ s. MapsAll (peer s) (as_arrived f.carried)) to found.0)
        (there due.to (as_arrived f.carried) (subst (λ s. SaysEnough (end_at (peer s) p) (as_arrived f.carried)) to told.0)) t
event_at (Some (happenings.Fires s tick)) r p joins mapped copies said t = none_at t _ _ (fired_unmapped t s (is_sixth (end_at s p).tcp))

duty_at : (d : Duty) (ds : List Duty) (r : Reply) (p : PathState Carried) → let x = with_agenda (d ∷ ds) p in JoinKnown x → stands d x ≡ true → Opens (d ∷ ds) x → AllAt x → AllAt (answered values d r x)
duty_at (duties.Step step_duties.Events) ds r p k stood h at =
    let x : PathState Carried = with_agenda (duties.Step step_duties.Events ∷ ds) p in event_at (next_event x) r x k.joins k.upright.identity k.maps_all k.says
duty_at (duties.Step (step_duties.PlainAck s)) ds r p k stood h at = absurd (both_ways _ (no_plain_ack p.profile (end_at s p) (k.treats s).plain) stood)
duty_at (duties.Step (step_duties.Unmapped s)) ds r p k stood h at =
    let d = duties.Step (step_duties.Unmapped s) in absurd ((first_known d ds (with_agenda (d ∷ ds) p) k refl stood refl at).mapped s refl)
duty_at (duties.Silent d) ds r p k stood h at = absurd (true≢false (sym stood))
duty_at d ds r p k stood h at = λ t. answered_at t d ds r p refl k.live (λ s. no_clash (end_at s p).receiving.mappings (k.agree s)) k.upright.identity (at t)

-- ---- a step

pub record IsWell (p : PathState Carried) : Type 0 where
  pub opens : Opens p.agenda p
  pub at : AllAt p

pub takes_well : (books : StampedBooks) (x : Ask) (p : PathState Carried) → asks_first values p.agenda p ≡ Some x → tells_refusal (answer_to books x) ≡ false → JoinKnown p → IsWell p → IsWell (takes values (answer_to books x) p)
takes_well books asked p is fine k h = by p.agenda is k k.upright.passes.settled h.opens h.at
  where
    by : (ds : List Duty) → let x = with_agenda ds p in asks_first values ds x ≡ Some asked → JoinKnown x → FirstStands ds x → Opens ds x → AllAt x → IsWell (takes values (answer_to books asked) x)
    by [] is k stood opens at = cc
    by (d ∷ ds) is k stood opens at =
        let x : PathState Carried = with_agenda (d ∷ ds) p in
        let six : SixBooks = books_in books in
        let same : ask_for values d x ≡ asked = same_Some _ asked is in
        let r : Reply = reply_of six (ask_for values d x) in
        let q : PathState Carried = answered values d r x in
        subst (λ (y : Ask). IsWell (takes values (reply_of six y) x)) same (record {
          opens = settled_opens q.agenda q (record { calm = duty_opens six d ds p k stood (subst (λ y. tells_refusal (reply_of six y) ≡ false) (sym same) fine) at opens; plain = duty_plain d ds r p k.joins opens.plain });
          at = settled_at q.agenda q (λ t. answered_live values t d ds r p (k.live t)) (duty_at d ds r p k stood opens at);
        })

pub begins_well : (p : PathState Carried) → IsWell (begins_turn p)
begins_well p = record { opens = settled_opens start_of_turn (with_agenda start_of_turn p) (record { calm = calm_opens start_of_turn (with_agenda start_of_turn p) refl; plain = refl }); at = begins_at p }

-- past the handshake nothing harsh is to be done
pub past_calm : (p : PathState Carried) → IsWell p → ((s : Side) → 3 ≤ stage (end_at s p).tcp.state) → Calm p.agenda
past_calm p h past = (elim p.agenda as (λ ds. OpensCalmly ds p → Calm ds) [
  | [] ↦ λ calm. refl
  | d ∷ ds ↦ λ calm. or_from (is_harsh d) (list_any is_harsh ds) (by d (is_harsh d) (λ is. calm.1 is)) calm.0
]) h.opens.calm
  where
    by : (d : Duty) (b : Bool) → (b ≡ true → IsOpening d p) → b ≡ false
    by d true opening = absurd (let early = (opening refl).early in let late = past (side_of d) in omega (arith, early, late))
    by d false opening = refl
