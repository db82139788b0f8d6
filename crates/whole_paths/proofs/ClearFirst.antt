-- A's end may send a DSS only where B's may: it may by a DSS that it heard, and B's end sends none before.
use Rattle.std.proofs.Common.{◌≡◌, refl, sym, subst, ap, ◌∙◌, ◌⊎◌, inl, inr, ⊎_elim, ℕ, zero, suc, ◌+◌, ◌≤◌, ◌&&◌, ◌==◌, arith, nat_le, Bool, true, false, true≢false, if◌then◌else◌, Option, Some, None, List, [], ◌∷◌, ◌++◌, map, length}
use Rattle.std.specs.List.{flat_map, list_any, slice_get}
use Rattle.std.proofs.lemmas.Bool.{and_parts, both_ways, or_from, or_left, or_parts, or_right}
use Rattle.std.proofs.lemmas.Option.{same_Some}
use Rattle.mptcp_options.specs.declared.capable.CapableKeys.{CapableKeys}
use Rattle.mptcp_options.specs.declared.capable.CapableKeys.TheVariants as keys
use Rattle.mptcp_options.specs.declared.join.JoinForm.{JoinForm}
use Rattle.mptcp_options.specs.declared.join.JoinForm.TheVariants as forms
use Rattle.key_material.specs.declared.address.Address.{Address}
use Rattle.path_segments.specs.Heard.{HeardSegment}
use Rattle.path_segments.specs.Laws.{meant, meant_option}
use Rattle.path_segments.specs.Options.{PlainOption}
use Rattle.path_segments.specs.Spelled.{PlainSegment}
use Rattle.path_segments.specs.declared.segment.PathOption.TheVariants as options
use Rattle.sides.specs.declared.side.Side.{Side}
use Rattle.sides.specs.declared.side.Side.TheVariants.{A, B}
use Rattle.sides.specs.Side.{peer}
use Rattle.link_script.specs.Places.{same_side}
use Rattle.link_model.specs.Steps.{after_delivery, arriving, is_due}
use Rattle.link_model.specs.declared.flight.Due.{Due}
use Rattle.link_model.specs.declared.flight.Flight.{Flight}
use Rattle.stream_lanes.specs.Words.{Every}
use Rattle.subflow_send.specs.Records.{Record, end_of, occupied, span_of}
use Rattle.subflow_send.specs.declared.record.RecordKind.{RecordKind}
use Rattle.subflow_send.specs.declared.record.RecordKind.TheVariants.{Data, Fin, Syn}
use Rattle.subflow_tcp.specs.States.{is_dead, may_finish}
use Rattle.subflow_tcp.specs.Sizes.{room}
use Rattle.actor_desk.specs.Words.{tail_of}
use Rattle.actor_desk.specs.declared.ask.Reply.{Reply}
use Rattle.path_agenda.specs.Agenda.{emission, leaves, resets}
use Rattle.path_agenda.specs.Items.{keys_heard}
use Rattle.path_agenda.specs.declared.duty.Duty.{Duty}
use Rattle.path_agenda.specs.declared.duty.Duty.TheVariants as duties
use Rattle.path_agenda.specs.declared.duty.AskDuty.TheVariants as ask_duties
use Rattle.path_agenda.specs.declared.duty.SendDuty.TheVariants as send_duties
use Rattle.path_agenda.specs.declared.duty.StepDuty.TheVariants as step_duties
use Rattle.path_agenda.specs.declared.heard.Heard.{Heard}
use Rattle.path_agenda.specs.declared.heard.Heard.TheVariants as says
use Rattle.path_agenda.specs.declared.keys.KeyPair.{KeyPair}
use Rattle.path_store.specs.declared.lines.LineAction.{LineAction}
use Rattle.path_store.specs.declared.lines.LineAction.TheVariants as actions
use Rattle.fallback_state.specs.declared.fall.Event.{Event as FallEvent}
use Rattle.fallback_state.specs.declared.fall.Event.TheVariants as fell
use Rattle.path_core.specs.Addresses.{address_items, item_removed}
use Rattle.path_core.specs.Arrival.{copy_heard, copy_judged, heard_in, judged_in, reset_for}
use Rattle.path_core.specs.Breaking.{answered_break, reset_on}
use Rattle.path_core.specs.Choices.{item_at}
use Rattle.path_core.specs.DataFin.{is_all_granted, is_fin_due}
use Rattle.path_core.specs.DssIn.{counts, held_of, is_clash, with_data_fin, with_learned, with_skipped}
use Rattle.path_core.specs.Duties.{answered, passed, stands}
use Rattle.path_core.specs.Emission.{answered_data, answered_grant, data_stands, first_unsent, grant_in, may_ask, may_send_data, payload_size}
use Rattle.path_core.specs.End.{PathEnd}
use Rattle.path_core.specs.Events.{after_line, happens_if, next_event}
use Rattle.path_core.specs.Fallback.{after_fell, breaks_by_ack, fell_duties, fell_in, with_plain_ack}
use Rattle.path_core.specs.Judged.{taken_as}
use Rattle.path_core.specs.Looking.{first_sends, segment_sent}
use Rattle.path_core.specs.MpCapable.{answered_opened, key_items}
use Rattle.path_core.specs.MpJoin.{is_joined, is_never, join_items, keys_begun, never_joined, opened_by}
use Rattle.path_core.specs.OptionsIn.{items_in, options_heard}
use Rattle.path_core.specs.Standing.{answered_ack_out}
use Rattle.path_core.specs.Start.{waiting_path}
use Rattle.path_core.specs.State.{PathState, at_tick, end_at, goes_on, with_agenda}
use Rattle.path_core.specs.Steps.{begins_turn, next_round, takes}
use Rattle.path_core.specs.Treating.{answered_heard, answered_item, item_of, item_passed}
use Rattle.path_core.specs.Turns.{FirstStands}
use Rattle.path_core.specs.Values.{Carried, as_arrived, values}
use Rattle.path_core.specs.declared.events.Event.{Event}
use Rattle.path_core.specs.declared.events.Event.TheVariants as happenings
use Rattle.path_core.specs.declared.modes.Modes.{Modes}
use Rattle.world_laws.specs.declared.member.Member.TheVariants.{App, Path}
use Rattle.world_laws.specs.Actors.{Actor, ActorCrew}
use Rattle.world_laws.specs.Openings.{PathPlan, Start, opened_world, path_begins}
use Rattle.world_laws.specs.RoundDone.{reached}
use Rattle.world_laws.specs.Worlds.{Turn}
use Rattle.world_laws.proofs.Falls.ClearStays.{answered_clear, next_clear, passed_clear, takes_clear, unclear_before}
use Rattle.world_laws.proofs.Falls.FailedChecks.{fail_answered_so, infinite_came_so}
use Rattle.world_laws.proofs.Rounds.Lifting.{opened_lifted}
use Rattle.world_laws.proofs.Whole.Falls.{MemberUpright, each_upright}
use Rattle.world_laws.proofs.Worlds.Finding.{find_every, one_side}
use Rattle.world_laws.proofs.Writes.Ends.{fell_so}
use Rattle.world_laws.proofs.Writes.Paths.{writes_no_more}
use Rattle.world_laws.proofs.Writes.Steps.{Lasts, begins_lasts, settled_lasts}
use Rattle.whole_paths.specs.Clear.{BIsClearFirst, BSendsNothingBefore}
use Rattle.whole_paths.specs.Delivery.{FinishedIsThere, HasFinished}
use Rattle.whole_paths.specs.EndSteps.{SubflowSteps}
use Rattle.whole_paths.specs.Finish.{IsPathAt}
use Rattle.whole_paths.specs.Mild.{EndsGoByMappings, IsMildStart, LinkIsMild}
use Rattle.whole_paths.proofs.ByTurns.{Becomes, Of, OfFirst, each_first_moment, then_path}
use Rattle.whole_paths.proofs.Clearing.{died_clear, judged_clear, opened_clear, passed_same, same_clear}
use Rattle.whole_paths.proofs.Duties.{answered_steps, passed_steps}
use Rattle.whole_paths.proofs.EndsUntold.{a_is_told_no_end_before}
use Rattle.whole_paths.proofs.Exchanges.{Shown, each_shown}
use Rattle.whole_paths.proofs.Finishing.{steps_push}
use Rattle.whole_paths.proofs.FinishedThere.{each_finished_is_there}
use Rattle.whole_paths.proofs.FirstSigns.{asks_for_its_end}
use Rattle.whole_paths.proofs.GoingOn.{plain_none}
use Rattle.whole_paths.proofs.HeardItems.{answered_sheds, comes_sheds, passed_sheds}
use Rattle.whole_paths.proofs.InTime.{is_event}
use Rattle.whole_paths.proofs.MappedCopies.{EndBehind, KindBehind, each_behind}
use Rattle.whole_paths.proofs.Mild.{links_are_mild, mapping_is_kept}
use Rattle.whole_paths.proofs.OpenCourses.{IsFirstPath, each_first}
use Rattle.whole_paths.proofs.Pushing.{NextStays, answered_next, event_next, passed_next, unsent_next}
use Rattle.whole_paths.proofs.DataLeft.{joined_up}
use Rattle.whole_paths.proofs.Reached.{EndsAreReached, Line, each_is_reached}
use Rattle.whole_paths.proofs.Saying.{ToSend}
use Rattle.whole_paths.proofs.RecordWaits.{path_is}
use Rattle.whole_paths.proofs.Signless.{AllMute, IsSyn, SaysNone, first_mute, is_dss_option}
use Rattle.whole_paths.proofs.UnderWay.{OfSent, next_all, none_begins, takes_all}
use Rattle.whole_paths.proofs.WellOctets.{ends_before}
use Rattle.world_laws.proofs.Numbers.TellSmall.{RecordKindTells}

-- ---- what a copy says by which an end may send a DSS

abbrev is_sign : Heard → Bool
is_sign says.Dss = true
is_sign (says.Keys own other) = true
is_sign _ = false

abbrev Signed : PathState Carried → Type 0
Signed p = list_any is_sign p.a.treated.items ≡ true

any_at : (index : ℕ) (items : List Heard) (item : Heard) → item_at index items ≡ Some item → is_sign item ≡ true → list_any is_sign items ≡ true
any_at index [] item is said = cc
any_at zero (x ∷ xs) item is said = or_left (is_sign x) (list_any is_sign xs) (ap is_sign (same_Some x item is) ∙ said)
any_at (suc n) (x ∷ xs) item is said = or_right (is_sign x) (list_any is_sign xs) (any_at n xs item is said)

keys_any : (items : List Heard) (pair : KeyPair) → keys_heard items ≡ Some pair → list_any is_sign items ≡ true
keys_any [] pair is = cc
keys_any (says.Keys own other ∷ items) pair is = refl
keys_any (item ∷ items) pair is = or_right (is_sign item) (list_any is_sign items) (keys_any items pair is)

item_found : (index : ℕ) (e : PathEnd) (item : Heard) → item_of index e ≡ Some item → is_sign item ≡ true → list_any is_sign e.treated.items ≡ true
item_found index e item = elim e.modes.identity as (λ b. (if b then None else item_at index e.treated.items) ≡ Some item → is_sign item ≡ true → list_any is_sign e.treated.items ≡ true)
    [ true ↦ λ is said. cc | false ↦ λ is said. any_at index e.treated.items item is said ]

-- options without a DSS say none to A

abbrev NoSign : List Heard → Type 0
NoSign items = list_any is_sign items ≡ false

both_none : (xs ys : List Heard) → NoSign xs → NoSign ys → NoSign (xs ++ ys)
both_none [] ys x y = y
both_none (item ∷ xs) ys x y = let parts = or_parts (is_sign item) (list_any is_sign xs) x in or_from (is_sign item) (list_any is_sign (xs ++ ys)) parts.0 (both_none xs ys parts.1 y)

removed_none : (ids : List ℕ) → NoSign (map item_removed ids)
removed_none [] = refl
removed_none (id ∷ ids) = removed_none ids

address_none : (echo : Bool) (id : ℕ) (address : Address) (port hmac : Option ℕ) → NoSign (address_items echo id address port hmac)
address_none true id address port hmac = refl
address_none false id address port (Some hmac) = refl
address_none false id address port None = refl

key_none : (form : CapableKeys) → NoSign (key_items A form)
key_none (keys.Sender sender) = refl
key_none _ = refl

join_none : (form : JoinForm) → NoSign (join_items A form)
join_none (forms.Answer backup id hmac nonce) = refl
join_none _ = refl

option_none : (joined : Bool) (window : ℕ) (x : PlainOption) → is_dss_option x ≡ false → NoSign (items_in joined A window (meant_option x))
option_none joined window (options.Dss next mapping) none = absurd (true≢false none)
option_none joined window (options.Remove ids) none = removed_none ids
option_none joined window (options.Capable flag_a flag_c form) none = elim joined as (λ b. NoSign (if b then [] else key_items A form)) [ true ↦ refl | false ↦ key_none form ]
option_none joined window (options.Join form) none = join_none form
option_none joined window (options.AddAddr echo id address port hmac) none = address_none echo id address port hmac
option_none joined window (options.Prio backup) none = refl
option_none joined window (options.Fail place) none = refl
option_none joined window (options.FastClose key) none = refl
option_none joined window (options.Reset transient reason) none = refl

options_none : (joined : Bool) (window : ℕ) (xs : List PlainOption) → SaysNone xs → NoSign (flat_map (items_in joined A window) (map meant_option xs))
options_none joined window [] none = refl
options_none joined window (x ∷ xs) none =
    let parts = or_parts (is_dss_option x) (list_any is_dss_option xs) none in
    both_none (items_in joined A window (meant_option x)) (flat_map (items_in joined A window) (map meant_option xs)) (option_none joined window x parts.0) (options_none joined window xs parts.1)

heard_says : (x : PlainSegment) (p : PathState Carried) → Signed (copy_heard A (Some (meant x)) p) → list_any is_dss_option x.options ≡ true
heard_says x p is = by (list_any is_dss_option x.options) refl
  where
    none_said : SaysNone x.options → NoSign (copy_heard A (Some (meant x)) p).a.treated.items
    none_said none = elim p.a.modes.identity as (λ b. NoSign (flat_map (items_in (is_joined p.profile) A (meant x).window) (if b then [] else (meant x).options)))
        [ true ↦ refl | false ↦ options_none (is_joined p.profile) (meant x).window x.options none ]

    by : (b : Bool) → list_any is_dss_option x.options ≡ b → b ≡ true
    by true says = refl
    by false none = absurd (both_ways (list_any is_sign (copy_heard A (Some (meant x)) p).a.treated.items) (none_said none) is)

-- ---- copies to A

abbrev CopySure : PathState Carried → Flight Carried → Type 0
CopySure p f = f.to ≡ A → list_any is_dss_option f.carried.segment.options ≡ true → p.b.modes.clear ≡ true

all_later : (p q : PathState Carried) → (p.b.modes.clear ≡ true → q.b.modes.clear ≡ true) → (fs : List (Flight Carried)) → Every (CopySure p) fs → Every (CopySure q) fs
all_later p q on fs h = record { each = λ i f there to says. on (h.each i f there to says) }

arrived_says : (c : Carried) → list_any is_dss_option (as_arrived c).options ≡ true → list_any is_dss_option c.segment.options ≡ true
arrived_says c = elim c.stripped as (λ b. list_any is_dss_option (if b then [] else c.segment.options) ≡ true → list_any is_dss_option c.segment.options ≡ true) [ true ↦ λ is. absurd (true≢false (sym is)) | false ↦ λ is. is ]

-- ---- A's end may send one only where it could, or by such a thing

abbrev Was : PathState Carried → Type 0
Was p = (p.a.modes.clear ≡ true) ⊎ Signed p

fell_back : (event : FallEvent) (r : Reply) (m : Modes) → (fell_in event r m).clear ≡ true → m.clear ≡ true
fell_back event r m = fell_so (λ (n : Modes). n.clear ≡ true → m.clear ≡ true) event r m (λ mode owes is. is)

passed_item : (o : Option Heard) (e : PathEnd) → ((item : Heard) → o ≡ Some item → is_sign item ≡ true → list_any is_sign e.treated.items ≡ true) → (item_passed A o e).modes.clear ≡ true
    → (e.modes.clear ≡ true) ⊎ (list_any is_sign e.treated.items ≡ true)
passed_item None e found is = inl is
passed_item (Some says.Dss) e found is = inr (found says.Dss refl refl)
passed_item (Some (says.Mapping fin)) e found is = inl ((elim (counts e) as (λ b. (if b then with_learned e else with_skipped e).modes.clear ≡ true → e.modes.clear ≡ true) [ true ↦ λ is. is | false ↦ λ is. is ]) is)
passed_item (Some (says.DataFin place)) e found is = inl ((elim (counts e) as (λ b. (if b then with_data_fin place e else e).modes.clear ≡ true → e.modes.clear ≡ true) [ true ↦ λ is. is | false ↦ λ is. is ]) is)
passed_item (Some _) e found is = inl is

passed_back : (d : Duty) (p : PathState Carried) → (passed d p).a.modes.clear ≡ true → Was p
passed_back (duties.Step (step_duties.Heard A index)) p is = passed_item (item_of index p.a) p.a (item_found index p.a) is
passed_back (duties.Step (step_duties.Heard B index)) p is = inl is
passed_back (duties.Ask (ask_duties.Opened s)) p is = inl is
passed_back d p is = inl (sym (passed_same A d p refl) ∙ is)

break_back : (reason : ℕ) (r : Reply) (p : PathState Carried) → (answered_break values A reason r p).a.modes.clear ≡ true → p.a.modes.clear ≡ true
break_back reason r p = elim p.a.treated.asked as (λ b. (if b then answered_ack_out A r (resets A reason) p else reset_on values A (Some reason) (leaves A) p).a.modes.clear ≡ true → p.a.modes.clear ≡ true)
    [ true ↦ λ is. is | false ↦ λ is. is ]

thing_back : (item : Heard) (r : Reply) (p : PathState Carried) → (is_sign item ≡ true → Signed p) → (answered_heard values A item r p).a.modes.clear ≡ true → Was p
thing_back (says.DataAck next window) r p found is = inl is
thing_back (says.Mapping fin) r p found is = inl ((elim (is_clash p.a) as (λ b. (if b then answered_break values A 1 r p else goes_on A (with_learned (after_fell fell.MappingHeard r p.a)) (fell_duties A r p) p).a.modes.clear ≡ true → p.a.modes.clear ≡ true)
    [ true ↦ break_back 1 r p | false ↦ fell_back fell.MappingHeard r p.a.modes ]) is)
thing_back (says.DataFin place) r p found is = inl (fell_back fell.MappingHeard r p.a.modes is)
thing_back (says.InfiniteMapping place position) r p found is =
    inl (infinite_came_so (λ f. f.modes.clear ≡ true → p.a.modes.clear ≡ true) place position r p.a (λ other. fell_back fell.InfiniteHeard r p.a.modes) is)
thing_back (says.Keys own other) r p found is = inr (found refl)
thing_back (says.Notice notice) r p found is = inl is
thing_back says.Fail r p found is =
    inl (fail_answered_so (λ q. q.a.modes.clear ≡ true → p.a.modes.clear ≡ true) A r p (λ is. is) (fell_back (fell.FailHeard false) r p.a.modes) is)
thing_back _ r p found is = inl is

things_back : (o : Option Heard) (r : Reply) (p : PathState Carried) → ((item : Heard) → o ≡ Some item → is_sign item ≡ true → Signed p) → (answered_item values A o r p).a.modes.clear ≡ true → Was p
things_back None r p found is = inl is
things_back (Some item) r p found is = thing_back item r p (found item refl) is

opened_back : (o : Option KeyPair) (r : Reply) (p : PathState Carried) → keys_heard p.a.treated.items ≡ o → (answered_opened A o r p).a.modes.clear ≡ true → Was p
opened_back None r p heard is = inl (fell_back fell.PlainHandshake r p.a.modes is)
opened_back (Some pair) r p heard is = inr (keys_any p.a.treated.items pair heard)

plain_back : (r : Reply) (p : PathState Carried) → (answered values (duties.Step (step_duties.PlainAck A)) r p).a.modes.clear ≡ true → p.a.modes.clear ≡ true
plain_back r p = elim (breaks_by_ack p.profile p.a) as (λ b. (if b then answered_break values A 6 r p else goes_on A (with_plain_ack (after_fell fell.PlainAck r p.a)) (fell_duties A r p) p).a.modes.clear ≡ true → p.a.modes.clear ≡ true)
    [ true ↦ break_back 6 r p | false ↦ fell_back fell.PlainAck r p.a.modes ]

answered_back : (d : Duty) (r : Reply) (p : PathState Carried) → is_event d ≡ false → (answered values d r p).a.modes.clear ≡ true → Was p
answered_back (duties.Step step_duties.Events) r p other is = absurd (true≢false other)
answered_back (duties.Step (step_duties.Heard A index)) r p other is = things_back (item_of index p.a) r p (item_found index p.a) is
answered_back (duties.Step (step_duties.Heard B index)) r p other is =
    let d : Duty = duties.Step (step_duties.Heard B index) in inl (sym (same_clear A d p (answered values d r p) refl (writes_no_more values d r p) refl) ∙ is)
answered_back (duties.Ask (ask_duties.Opened A)) r p other is = opened_back (keys_heard p.a.treated.items) r p refl is
answered_back (duties.Ask (ask_duties.Opened B)) r p other is =
    let d : Duty = duties.Ask (ask_duties.Opened B) in inl (sym (same_clear A d p (answered values d r p) refl (writes_no_more values d r p) refl) ∙ is)
answered_back d r p other is = inl (sym (same_clear A d p (answered values d r p) refl (writes_no_more values d r p) refl) ∙ is)

heard_back : (s : Side) (o : Option HeardSegment) (p : PathState Carried) → is_joined p.profile ≡ false → (copy_heard s o p).a.modes.clear ≡ true → p.a.modes.clear ≡ true
heard_back A None p first is = is
heard_back A (Some heard) p first is = by is
  where
    x : HeardSegment
    x = options_heard p.a heard

    by : (copy_judged (is_joined p.profile) (held_of p.profile A x) (reset_for p.profile A x) A p.clock x (taken_as (judged_in (is_joined p.profile) A x p.a)) p.a).modes.clear ≡ true → p.a.modes.clear ≡ true
    by is =
        let m = taken_as (judged_in (is_joined p.profile) A x p.a) in
        sym (judged_clear (held_of p.profile A x) (reset_for p.profile A x) A p.clock x m p.a)
        ∙ subst (λ joined. (copy_judged joined (held_of p.profile A x) (reset_for p.profile A x) A p.clock x m p.a).modes.clear ≡ true) first is
heard_back B None p first is = is
heard_back B (Some heard) p first is = is

line_back : (action : LineAction) (p : PathState Carried) → (after_line action p).a.modes.clear ≡ true → p.a.modes.clear ≡ true
line_back actions.Die p is = sym (died_clear (is_dead p.a.tcp.state) p.a) ∙ is
line_back (actions.Prio A backup) p is = is
line_back (actions.Prio B backup) p is = is
line_back (actions.Announce s id) p is = is
line_back (actions.Withdraw s id) p is = is

event_back : (o : Option Event) (r : Reply) (p : PathState Carried) → is_joined p.profile ≡ false → (happens_if values o r p).a.modes.clear ≡ true → p.a.modes.clear ≡ true
event_back None r p first is = is
event_back (Some (happenings.Joins tick)) r p first is =
    let x : PathState Carried = record (at_tick tick p) { joined_at = None } in
    (elim (is_never r) as (λ b. (if b then goes_on A (never_joined r x.a) (leaves A) x else goes_on A (opened_by (keys_begun r) x.a) (emission A) x).a.modes.clear ≡ true → p.a.modes.clear ≡ true)
    [ true ↦ λ is. is | false ↦ λ is. sym (opened_clear (keys_begun r) p.a) ∙ is ]) is
event_back (Some (happenings.Takes line)) r p first is = line_back line.action (record (at_tick line.tick p) { lines = tail_of p.lines }) is
event_back (Some (happenings.Arrives due)) r p first is = heard_back due.to (heard_in values due.to (arriving due p.link) p) (record (at_tick due.tick p) { link = after_delivery due p.link }) first is
event_back (Some (happenings.Fires A tick)) r p first is = is
event_back (Some (happenings.Fires B tick)) r p first is = is

-- ---- what A's end has to treat after an event

arrival_says : (due : Due) (p q : PathState Carried) → q.a ≡ p.a → Every (CopySure p) p.link.under_way → (s : Side) → due.to ≡ s → (o : Option (Flight Carried)) → arriving due p.link ≡ o
    → Signed (copy_heard s (heard_in values s o p) q) → Signed p ⊎ (p.b.modes.clear ≡ true)
arrival_says due p q same copies B to o there is = inl (ap (λ (e : PathEnd). list_any is_sign e.treated.items) (sym same) ∙ by o is)
  where
    by : (o : Option (Flight Carried)) → Signed (copy_heard B (heard_in values B o p) q) → Signed q
    by None is = is
    by (Some f) is = is
arrival_says due p q same copies A to None there is = inl (ap (λ (e : PathEnd). list_any is_sign e.treated.items) (sym same) ∙ is)
arrival_says due p q same copies A to (Some f) there is =
    let found = find_every (CopySure p) (is_due due) p.link.under_way f copies there in
    let parts = and_parts (f.tick == due.tick) (same_side f.to due.to && f.number == due.copy) found.1 in
    inr (found.0 (one_side f.to due.to (and_parts (same_side f.to due.to) (f.number == due.copy) parts.1).0 ∙ to) (arrived_says f.carried (heard_says (as_arrived f.carried) q is)))

event_says : (o : Option Event) (r : Reply) (p : PathState Carried) → Every (CopySure p) p.link.under_way → Signed (happens_if values o r p) → Signed p ⊎ (p.b.modes.clear ≡ true)
event_says None r p copies is = inl ((comes_sheds values None r p refl).a is_sign is)
event_says (Some (happenings.Joins tick)) r p copies is = inl ((comes_sheds values (Some (happenings.Joins tick)) r p refl).a is_sign is)
event_says (Some (happenings.Takes line)) r p copies is = inl ((comes_sheds values (Some (happenings.Takes line)) r p refl).a is_sign is)
event_says (Some (happenings.Arrives due)) r p copies is =
    arrival_says due p (record (at_tick due.tick p) { link = after_delivery due p.link }) refl copies due.to refl (arriving due p.link) refl is
event_says (Some (happenings.Fires s tick)) r p copies is = inl ((comes_sheds values (Some (happenings.Fires s tick)) r p refl).a is_sign is)

-- ---- B's end sent nothing behind its SYN

abbrev pub Quiet : PathEnd → Type 0
Quiet e = (e.tcp.send.nxt ≤ 1) × (e.tcp.send.finished ≡ false)

pub quiet_on : (now : ℕ) (e f : PathEnd) → SubflowSteps now e.tcp f.tcp → NextStays e f → Quiet e → Quiet f
quiet_on now e f steps same h = (
  let low = h.0 in omega (arith, same, low),
  ⊎_elim (λ still. still ∙ h.1) (λ rises. absurd (omega (arith, same, rises))) (steps_push now e.tcp f.tcp steps).goes,
)

never_asks : (p : PathState Carried) → p.b.modes.clear ≡ false → p.b.modes.identity ≡ false → may_ask p.profile B p.b ≡ true → ⊥
never_asks p unclear mapped may =
    let within = (and_parts (may_finish p.b.tcp.state) _ may).1 in
    let sends = (and_parts (nat_le (payload_size p.profile) (room p.b.tcp)) _ within).1 in
    both_ways (may_send_data p.profile B p.b) (or_from p.b.modes.clear _ unclear (or_from p.b.modes.identity false mapped refl)) (and_parts _ (may_send_data p.profile B p.b) sends).1

data_next : (o : Option Record) (r : Reply) (p : PathState Carried) → p.b.modes.clear ≡ false → p.b.modes.identity ≡ false → data_stands p.profile B p.b o ≡ true → NextStays p.b (answered_data values B o r p).b
data_next (Some u) r p unclear mapped due = (unsent_next values B u r p).b
data_next None r p unclear mapped due = absurd (never_asks p unclear mapped due)

others_next : (o : Option Record) (r : Reply) (p : PathState Carried) → NextStays p.b (answered_data values A o r p).b
others_next (Some u) r p = refl
others_next None r p = elim (grant_in r) as (λ o. NextStays p.b (answered_grant A o r p).b) [ None ↦ refl | Some grant ↦ refl ]

b_next : (d : Duty) (r : Reply) (p : PathState Carried) → p.b.modes.clear ≡ false → p.b.modes.identity ≡ false → (is_fin_due p.b ≡ true → ⊥) → stands d p ≡ true → NextStays p.b (answered values d r p).b
b_next (duties.Step (step_duties.Data A)) r p unclear mapped still due = others_next (first_unsent p.a) r p
b_next (duties.Step (step_duties.Data B)) r p unclear mapped still due = data_next (first_unsent p.b) r p unclear mapped due
b_next (duties.Send (send_duties.Fin A)) r p unclear mapped still due = refl
b_next (duties.Send (send_duties.Fin B)) r p unclear mapped still due = absurd (still due)
b_next (duties.Step step_duties.Events) r p unclear mapped still due = (event_next values (next_event p) r p).b
b_next d r p unclear mapped still due = (answered_next values d r p refl refl).b

-- ---- a step

record Signs (p : PathState Carried) : Type 0 where
  items : Signed p → p.b.modes.clear ≡ true
  sure : p.a.modes.clear ≡ true → p.b.modes.clear ≡ true
  quiet : p.b.modes.clear ≡ false → Quiet p.b

signs_then : (p q : PathState Carried) → (p.b.modes.clear ≡ true → q.b.modes.clear ≡ true) → (Signed q → Signed p ⊎ (p.b.modes.clear ≡ true)) → (q.a.modes.clear ≡ true → Was p)
    → (p.b.modes.clear ≡ false → Quiet p.b → Quiet q.b) → Signs p → Signs q
signs_then p q on said back still h = record {
  items = λ is. ⊎_elim (λ was. on (h.items was)) on (said is);
  sure = λ is. ⊎_elim (λ was. on (h.sure was)) (λ was. on (h.items was)) (back is);
  quiet = λ unclear. let before = unclear_before p.b.modes.clear q.b.modes.clear on unclear in still before (h.quiet before);
}

signs_last : Lasts {C = Carried} (λ p q. Signs p → Signs q)
signs_last = record {
  agenda = λ ds p h. record { items = h.items; sure = h.sure; quiet = h.quiet };
  chains = λ p q r x y h. y (x h);
  passes = λ d p. signs_then p (passed d p) (passed_clear d p).b.0 (λ is. inl ((passed_sheds d p).a is_sign is)) (passed_back d p)
      (λ unclear. quiet_on (passed d p).clock p.b (passed d p).b (passed_steps d p).b.subflow (passed_next d p).b);
}

abbrev QuietStays : PathState Carried → PathState Carried → Type 0
QuietStays p q = Quiet p.b → Quiet q.b

quiet_last : Lasts {C = Carried} QuietStays
quiet_last = record {
  agenda = λ ds p h. h;
  chains = λ p q r x y h. y (x h);
  passes = λ d p h. quiet_on (passed d p).clock p.b (passed d p).b (passed_steps d p).b.subflow (passed_next d p).b h;
}

answered_signs : (d : Duty) (r : Reply) (p : PathState Carried) → is_joined p.profile ≡ false → p.b.modes.identity ≡ false → (p.b.modes.clear ≡ false → is_fin_due p.b ≡ true → ⊥) → Every (CopySure p) p.link.under_way
    → stands d p ≡ true → Signs p → Signs (answered values d r p)
answered_signs d r p first mapped still copies due h = by (is_event d) refl
  where
    q : PathState Carried
    q = answered values d r p

    goes : (Signed q → Signed p ⊎ (p.b.modes.clear ≡ true)) → (q.a.modes.clear ≡ true → Was p) → Signs q
    goes said back = signs_then p q (answered_clear values d r p).b.0 said back
        (λ unclear. quiet_on q.clock p.b q.b (answered_steps values d r p).b.subflow (b_next d r p unclear mapped (still unclear) due)) h

    event : (e : Duty) → is_event e ≡ true → e ≡ duties.Step step_duties.Events
    event (duties.Step step_duties.Events) is = refl
    event _ is = absurd (true≢false (sym is))

    by : (b : Bool) → is_event d ≡ b → Signs q
    by true is = goes
        (λ said. event_says (next_event p) r p copies (subst (λ e. Signed (answered values e r p)) (event d is) said))
        (λ now. inl (event_back (next_event p) r p first (subst (λ e. (answered values e r p).a.modes.clear ≡ true) (event d is) now)))
    by false other = goes (λ said. inl ((answered_sheds values d other r p).a is_sign said)) (answered_back d r p other)

-- ---- a turn

record IsSure (p : PathState Carried) : Type 0 where
  copies : Every (CopySure p) p.link.under_way
  signs : Signs p

module _ (start : Start) where
  -- what is known of the path at a moment
  record Known (p : PathState Carried) : Type 0 where
    first : is_joined p.profile ≡ false
    maps : EndsGoByMappings p
    link : LinkIsMild start.lines p
    stood : FirstStands p.agenda p
    close : p.b.notices.fast_closed ≡ false
    told : p.b.sending.close.own_acked ≡ true → p.a.modes.clear ≡ true
    syns : Quiet p.b → Every IsSyn p.b.tcp.send.records

  module _ (p : PathState Carried) (k : Known p) (h : IsSure p) where
    -- the FIN goes where the DATA_FIN is acknowledged, whose end A's side was told
    open_still : p.b.modes.clear ≡ false → is_fin_due p.b ≡ true → ⊥
    open_still unclear due =
        let goes = (and_parts (may_finish p.b.tcp.state) _ due).1 in
        let maps_so = plain_none p.b (k.maps B).identity (k.maps B).own in
        let acked = (and_parts p.b.sending.close.own_acked p.b.sending.close.peer_came
        (subst (λ b. (if b then is_all_granted p.b.sending.known_end p.b.sending else (p.b.sending.close.own_acked && p.b.sending.close.peer_came)) ≡ true) maps_so goes)).0 in
        both_ways p.b.modes.clear unclear (h.signs.sure (k.told acked))

    sent_sure : (q : PathState Carried) → (p.b.modes.clear ≡ true → q.b.modes.clear ≡ true) → OfSent (CopySure q) (first_sends p.agenda p) p
    sent_sure q on = by p.b.modes.clear refl
      where
        from_b : (s : Side) → peer s ≡ A → s ≡ B
        from_b A is = cc
        from_b B is = refl

        clears : q.b.modes.clear ≡ true → (o : Option ToSend) → OfSent (CopySure q) o p
        clears clear None = tt
        clears clear (Some t) = λ f to carried own said. clear

        mutes : (o : Option ToSend) → AllMute B o p → OfSent (CopySure q) o p
        mutes None none = tt
        mutes (Some t) none = λ f to carried own said.
            absurd (both_ways (list_any is_dss_option (segment_sent p t).options) (none (from_b t.from (sym to ∙ own))) (ap (λ (c : Carried). list_any is_dss_option c.segment.options) (sym carried) ∙ said))

        by : (b : Bool) → p.b.modes.clear ≡ b → OfSent (CopySure q) (first_sends p.agenda p) p
        by true clear = clears (on clear) (first_sends p.agenda p)
        by false unclear = mutes (first_sends p.agenda p)
            (first_mute B p (record { maps = k.maps; close = k.close; unclear = unclear; syns = k.syns (h.signs.quiet unclear); open_still = open_still unclear }) k.stood)

    takes_signs : (r : Reply) → Signs (takes values r p)
    takes_signs r = by p.agenda k.stood (record { items = h.signs.items; sure = h.signs.sure; quiet = h.signs.quiet })
      where
        by : (ds : List Duty) → FirstStands ds (with_agenda ds p) → Signs (with_agenda ds p) → Signs (takes values r (with_agenda ds p))
        by [] due x = record { items = x.items; sure = x.sure; quiet = x.quiet }
        by (d ∷ ds) due x =
            let y : PathState Carried = with_agenda (d ∷ ds) p in let q : PathState Carried = answered values d r y in
            settled_lasts (λ p q. Signs p → Signs q) signs_last q.agenda q (answered_signs d r y k.first (k.maps B).identity open_still (record { each = λ i f there. h.copies.each i f there }) due x)

    -- so it is by the turn by which B's may send one, too
    takes_quiet : (r : Reply) → p.b.modes.clear ≡ false → Quiet (takes values r p).b
    takes_quiet r unclear = by p.agenda k.stood (h.signs.quiet unclear)
      where
        by : (ds : List Duty) → FirstStands ds (with_agenda ds p) → Quiet p.b → Quiet (takes values r (with_agenda ds p)).b
        by [] due x = x
        by (d ∷ ds) due x =
            let y : PathState Carried = with_agenda (d ∷ ds) p in let q : PathState Carried = answered values d r y in
            settled_lasts QuietStays quiet_last q.agenda q (quiet_on q.clock y.b q.b (answered_steps values d r y).b.subflow (b_next d r y unclear (k.maps B).identity (open_still unclear) due) x)

    takes_sure : (r : Reply) → IsSure (takes values r p)
    takes_sure r =
        let q : PathState Carried = takes values r p in let on = (takes_clear values r p).b.0 in
        record { copies = takes_all (CopySure q) r p k.link.strips k.link.alters (sent_sure q on) (all_later p q on p.link.under_way h.copies); signs = takes_signs r }

  next_sure : (p : PathState Carried) → IsSure p → IsSure (next_round p)
  next_sure p h =
      let q : PathState Carried = next_round p in
      record {
        copies = next_all (CopySure q) p (all_later p q (next_clear p).b.0 p.link.under_way h.copies);
        signs = begins_lasts (λ p q. Signs p → Signs q) signs_last (record p { clock = p.until; until = p.until + 100 }) (record { items = h.signs.items; sure = h.signs.sure; quiet = h.signs.quiet });
      }

  next_quiet : (p : PathState Carried) → Quiet p.b → Quiet (next_round p).b
  next_quiet p h = begins_lasts QuietStays quiet_last (record p { clock = p.until; until = p.until + 100 }) h

-- ---- the opening

opened_sure : (start : Start) (number : ℕ) (plan : PathPlan) → IsSure (begins_turn (waiting_path (path_begins start number plan) start.lines))
opened_sure start number plan = record {
  copies = none_begins (CopySure (begins_turn (waiting_path (path_begins start number plan) start.lines))) start number plan;
  signs = begins_lasts (λ p q. Signs p → Signs q) signs_last (waiting_path (path_begins start number plan) start.lines)
      (record { items = λ is. absurd (true≢false (sym is)); sure = λ is. absurd (true≢false (sym is)); quiet = λ unclear. (omega arith, refl) });
}

-- ---- the world

-- an end that sent nothing behind its SYN has no other record
pub syns_alone : (s : Side) (p : PathState Carried) → Shown p → EndBehind p → EndsAreReached p → (((end_at s p).tcp.send.finished ≡ false) → Every (λ (r : Record). r.kind ≡ Fin → ⊥) (end_at s p).tcp.send.records) → Quiet (end_at s p) → Every IsSyn (end_at s p).tcp.send.records
syns_alone s p shown behind reached kinds quiet = record { each = λ i r there. by i r there r.kind refl }
  where
    within : (i : ℕ) (r : Record) → slice_get (end_at s p).tcp.send.records i ≡ Some r → end_of r ≤ (end_at s p).tcp.send.nxt
    within i r there = go (end_at s p).tcp.send.records refl i there
      where
        line : (x : Record) (xs : List Record) → (end_at s p).tcp.send.records ≡ x ∷ xs → Line (end_at s p).tcp.send.una (end_at s p).tcp.send.nxt (map span_of (x ∷ xs))
        line x xs is = subst (λ rs. Line (end_at s p).tcp.send.una (end_at s p).tcp.send.nxt (map span_of rs)) is (reached s).lined.line

        go : (rs : List Record) → (end_at s p).tcp.send.records ≡ rs → (i : ℕ) → slice_get rs i ≡ Some r → end_of r ≤ (end_at s p).tcp.send.nxt
        go [] is i there = cc
        go (x ∷ xs) is zero there = subst (λ t. end_of t ≤ (end_at s p).tcp.send.nxt) (same_Some x r there) (joined_up xs (end_of x) (end_at s p).tcp.send.nxt (line x xs is).2)
        go (x ∷ xs) is (suc j) there = (ends_before (end_at s p).tcp.send.nxt xs (end_of x) (line x xs is).2 j r there).1

    by : (i : ℕ) (r : Record) → slice_get (end_at s p).tcp.send.records i ≡ Some r → (kind : RecordKind) → r.kind ≡ kind → kind ≡ Syn
    by i r there Syn is = refl
    by i r there Fin is = absurd ((kinds quiet.1).each i r there is)
    by i r there Data is = absurd
        (let told = subst (λ kind. RecordKindTells p.profile s kind r) is ((shown.tells s).sender.records.each i r there).mapped in
        let some = told.0 in let whole = told.4 in
        let low = subst (λ kind. KindBehind kind r) is ((behind s).each i r there) in
        let end : end_of r ≡ r.pos + length r.piece = ap (λ kind. r.pos + occupied kind r.piece) is in
        let high = within i r there in let few = quiet.0 in omega (arith, some, whole, low, end, high, few))

module _ (start : Start) (mild : IsMildStart start) where
  known_at : (turns : List Turn) (c : ActorCrew Carried) → slice_get (reached values start turns).crew 2 ≡ Some c → (m : Actor Carried) → c.member ≡ m → Of (Known start) m
  known_at turns c there (App a) is = tt
  known_at turns c there (Path p) is = record {
    first = first.first;
    maps = subst (Of EndsGoByMappings) is ((mapping_is_kept start turns mild).each 2 c there);
    link = subst (Of (LinkIsMild start.lines)) is ((links_are_mild values start turns mild).each 2 c there);
    stood = (subst MemberUpright is ((each_upright start turns mild.plain mild.strips).each 2 c there)).passes.settled;
    close = (asks_for_its_end start turns mild p here).1;
    told = λ acked. by acked p.a.modes.clear refl;
    syns = syns_alone B p (subst (Of Shown) is (each_shown start turns mild.plain.size mild.fit 2 c there)) (subst (Of EndBehind) is (each_behind start turns mild.plain.size 2 c there))
        (subst (Of EndsAreReached) is ((each_is_reached values start turns).each 2 c there)) (first.kinds B);
  }
    where
      here : IsPathAt 0 (reached values start turns) p
      here = record { crew = c; there = there; is = is }

      first : IsFirstPath start p
      first = subst (Of (IsFirstPath start)) is (each_first start turns mild.plain.size c there)

      by : p.b.sending.close.own_acked ≡ true → (b : Bool) → p.a.modes.clear ≡ b → b ≡ true
      by acked true clear = refl
      by acked false unclear = absurd
          (let all = subst (Of (FinishedIsThere (reached values start turns))) is (each_finished_is_there start turns mild 2 c there) B (HasFinished.acknowledged acked) in
          let none = a_is_told_no_end_before start turns mild p here unclear in let some = all.known in cc)

  known : (turns : List Turn) → OfFirst (Known start) (reached values start turns)
  known turns = record { each = λ c there. known_at turns c there c.member refl }

  opened_first : OfFirst IsSure (opened_world start)
  opened_first = record { each = λ c there. (opened_lifted (λ c. Of IsSure c.member) start tt tt (λ number plan at. opened_sure start number plan)).each 2 c there }

  each_sure : (turns : List Turn) → OfFirst IsSure (reached values start turns)
  each_sure = each_first_moment values start (Known start) IsSure known opened_first (λ r p k h. takes_sure start p k h r) (λ p k h. next_sure start p h)

  sure_at : (turns : List Turn) (p : PathState Carried) → IsPathAt 0 (reached values start turns) p → Signs p
  sure_at turns p here = (subst (Of IsSure) here.is ((each_sure turns).each here.crew here.there)).signs

  -- as B's end may send a DSS first nothing behind its SYN was sent
  pub quiet_then : (turns : List Turn) (turn : Turn) (p q : PathState Carried) → IsPathAt 0 (reached values start turns) p → IsPathAt 0 (reached values start (turns ++ turn ∷ [])) q → p.b.modes.clear ≡ false → Quiet q.b
  quiet_then turns turn p q here there unclear =
      let now = then_path values start turns turn p here in
      subst (λ (z : PathState Carried). Quiet z.b) (path_is (reached values start (turns ++ turn ∷ [])) now.path q now.here there) (by now.path now.becomes)
    where
      known_p : Known start p
      known_p = subst (Of (Known start)) here.is ((known turns).each here.crew here.there)

      sure_p : IsSure p
      sure_p = subst (Of IsSure) here.is ((each_sure turns).each here.crew here.there)

      by : (z : PathState Carried) → Becomes values p z → Quiet z.b
      by z Becomes.stays = sure_p.signs.quiet unclear
      by z (Becomes.takes_a_reply r) = takes_quiet start p known_p sure_p r unclear
      by z Becomes.begins_anew = next_quiet start p (sure_p.signs.quiet unclear)

pub b_is_clear_first : BIsClearFirst
b_is_clear_first start turns mild p here = (sure_at start mild turns p here).sure

pub b_sends_nothing_before : BSendsNothingBefore
b_sends_nothing_before start turns mild p here unclear = ((sure_at start mild turns p here).quiet unclear).0
