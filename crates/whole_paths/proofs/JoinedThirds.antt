-- An end of a path that joined owes no third MP_JOIN once it may send a DSS (RFC 8684, section 3.2).
use Rattle.std.proofs.Common.{◌≡◌, refl, sym, subst, ap, ◌∙◌, ◌⊎◌, inl, inr, ⊎_elim, ℕ, ◌+◌, ◌≤◌, arith, Bool, true, false, true≢false, if◌then◌else◌, Option, Some, None, IfSome, List, [], ◌∷◌, ◌++◌}
use Rattle.std.specs.List.{slice_get}
use Rattle.std.proofs.lemmas.Bool.{both_ways, or_cases}
use Rattle.std.proofs.lemmas.List.{append-nil, append_assoc}
use Rattle.std.proofs.lemmas.Option.{same_Some}
use Rattle.path_segments.specs.Heard.{HeardSegment}
use Rattle.sides.specs.declared.side.Side.{Side}
use Rattle.sides.specs.declared.side.Side.TheVariants.{A, B}
use Rattle.fallback_state.specs.declared.fall.Event.{Event as Fall}
use Rattle.fallback_state.specs.declared.fall.Event.TheVariants as falls
use Rattle.fallback_state.specs.declared.fall.Verdict.TheVariants as verdicts
use Rattle.control_book.specs.declared.call.ControlReply.TheVariants as control_replies
use Rattle.link_model.specs.Steps.{arriving, after_delivery}
use Rattle.subflow_tcp.specs.declared.handshake.State.{State}
use Rattle.subflow_tcp.specs.declared.handshake.State.TheVariants as phase
use Rattle.subflow_tcp.specs.declared.verdicts.Meaning.{Meaning}
use Rattle.subflow_tcp.specs.declared.verdicts.Meaning.TheVariants as means
use Rattle.subflow_tcp.specs.State.{EndState}
use Rattle.subflow_tcp.specs.States.{is_dead, is_half_open}
use Rattle.actor_desk.specs.Words.{tail_of}
use Rattle.actor_desk.specs.declared.ask.Reply.{Reply}
use Rattle.actor_desk.specs.declared.ask.Reply.TheVariants as replies
use Rattle.dss_mapping.specs.declared.kept.KeptMapping.{KeptMapping}
use Rattle.subflow_tcp.specs.declared.segments.Outgoing.{Outgoing}
use Rattle.path_agenda.specs.Agenda.{emission, leaves}
use Rattle.path_agenda.specs.declared.duty.Duty.{Duty}
use Rattle.path_agenda.specs.declared.duty.Duty.TheVariants as duties
use Rattle.path_agenda.specs.declared.duty.AskDuty.TheVariants as ask_duties
use Rattle.path_agenda.specs.declared.duty.SendDuty.TheVariants as send_duties
use Rattle.path_agenda.specs.declared.duty.SilentDuty.TheVariants as silent_duties
use Rattle.path_agenda.specs.declared.duty.StepDuty.TheVariants as step_duties
use Rattle.path_agenda.specs.Items.{keys_heard}
use Rattle.path_agenda.specs.declared.heard.Heard.{Heard}
use Rattle.path_agenda.specs.declared.heard.Heard.TheVariants as says
use Rattle.path_agenda.specs.declared.keys.KeyPair.{KeyPair}
use Rattle.path_store.specs.declared.lines.LineAction.{LineAction}
use Rattle.path_store.specs.declared.lines.LineAction.TheVariants as actions
use Rattle.path_core.specs.Arrival.{copy_heard, copy_judged, heard_in, judged_in, reset_for, template_of, with_payload}
use Rattle.path_core.specs.Breaking.{answered_break}
use Rattle.path_core.specs.DssIn.{held_of, is_clash}
use Rattle.path_core.specs.Duties.{answered, passed}
use Rattle.path_core.specs.End.{PathEnd}
use Rattle.path_core.specs.Events.{after_line, happens_if, next_event}
use Rattle.path_core.specs.Fallback.{fell_in, mode_in}
use Rattle.path_core.specs.Judged.{taken_as}
use Rattle.path_core.specs.MpCapable.{answered_opened}
use Rattle.path_core.specs.MpJoin.{is_joined, is_never, join_begun, keys_begun, never_joined, opened_by}
use Rattle.path_core.specs.OptionsIn.{items_of, options_heard}
use Rattle.path_core.specs.Start.{waiting_path}
use Rattle.path_core.specs.State.{PathState, at_tick, end_at, goes_on, with_agenda}
use Rattle.path_core.specs.Steps.{next_round, takes}
use Rattle.path_core.specs.Treating.{answered_heard, answered_item, item_of, item_passed}
use Rattle.path_core.specs.Values.{Carried, values}
use Rattle.path_core.specs.declared.events.Event.{Event}
use Rattle.path_core.specs.declared.events.Event.TheVariants as happenings
use Rattle.path_core.specs.declared.modes.Modes.{Modes}
use Rattle.world_laws.specs.declared.member.Member.TheVariants.{App, Path}
use Rattle.world_laws.specs.Actors.{Actor, ActorCrew, is_over, member_next, member_takes}
use Rattle.world_laws.specs.Members.{HoldsOfKind}
use Rattle.world_laws.specs.Openings.{PathPlan, Start, opened_world, path_begins}
use Rattle.world_laws.specs.RoundDone.{reached}
use Rattle.world_laws.specs.StampedBooks.{answer_to}
use Rattle.world_laws.specs.Worlds.{Turn, WorldState, after_turn}
use Rattle.world_laws.specs.Writes.{EndView, EndWrites, Only, OnlyAt, Writes, side_of, writes}
use Rattle.world_laws.proofs.Falls.FailedChecks.{fail_answered_so, infinite_came_so}
use Rattle.world_laws.proofs.Rounds.Lifting.{opened_lifted}
use Rattle.world_laws.proofs.Weaving.WholeRounds.{run_append}
use Rattle.world_laws.proofs.Writes.Ends.{item_so}
use Rattle.world_laws.proofs.Writes.Paths.{passes_no_more, writes_no_more}
use Rattle.world_laws.proofs.Writes.Steps.{Lasts, begins_lasts, both_ends, settled_lasts, unwritten}
use Rattle.whole_paths.specs.AsFar.{stage}
use Rattle.whole_paths.proofs.Clearing.{AllClear, always_clears, died_clear, joined_clear, opened_clear, passed_same, same_clear}
use Rattle.whole_paths.proofs.Duties.{answered_steps, passed_steps}
use Rattle.whole_paths.proofs.Flying.{next_frames, takes_frames}
use Rattle.whole_paths.proofs.Harmed.{none_stays}
use Rattle.whole_paths.proofs.JoinedKeys.{HasJoinedKeys, TellsNoKeys, joined_ends_have_keys}
use Rattle.whole_paths.proofs.Thirds.{Third, answered_third}
use Rattle.whole_paths.proofs.Turns.{turn_by}
use Rattle.whole_paths.proofs.Waiting.{path_far}

-- ---- an end

-- It may send a DSS anew only as it owes no third MP_JOIN, or as the third segment comes to B.
record StaysUnclear (e f : PathEnd) : Type 0 where
  clear : f.modes.clear ≡ true → (e.modes.clear ≡ true) ⊎ ((f.modes.owes_third ≡ false) ⊎ (stage e.tcp.state ≡ 2))

same_unclear : (e f : PathEnd) → f.modes.clear ≡ e.modes.clear → StaysUnclear e f
same_unclear e f same = record { clear = λ is. inl (sym same ∙ is) }

half_stage : (state : State) → is_half_open state ≡ true → stage state ≡ 2
half_stage phase.SynReceived is = refl
half_stage _ is = absurd (true≢false (sym is))

payload_state : (pos n : ℕ) (octets : List ℕ) (tcp : EndState) → (with_payload (means.Taken pos n) octets tcp).state ≡ tcp.state
payload_state pos n [] tcp = refl
payload_state pos n (x ∷ octets) tcp = refl

copy_unclear : (joined : Bool) (told : List KeptMapping) (answer : Outgoing) (s : Side) (now : ℕ) (h : HeardSegment) (m : Meaning) (e : PathEnd) → StaysUnclear e (copy_judged joined told answer s now h m e)
copy_unclear true told answer s now h (means.Taken pos n) e = record {
  clear = λ is. ⊎_elim (λ was. inl was)
      (λ half. inr (inr (half_stage e.tcp.state (ap is_half_open (sym (payload_state pos n h.payload e.tcp)) ∙ half))))
      (or_cases e.modes.clear (is_half_open (with_payload (means.Taken pos n) h.payload e.tcp).state) is);
}
copy_unclear false told answer s now h (means.Taken pos n) e = same_unclear e _ refl
copy_unclear joined told answer s now h m e = same_unclear e (copy_judged joined told answer s now h m e) (joined_clear joined told answer s now h m e refl)

mode_clear : (r : Reply) (m : Modes) → (mode_in r m).clear ≡ m.clear
mode_clear (replies.Control (control_replies.Verdict (verdicts.Went mode))) m = refl
mode_clear _ m = refl

fell_clear : (event : Fall) (r : Reply) (m : Modes) → (fell_in event r m).clear ≡ m.clear
fell_clear falls.PlainData r m = mode_clear r m
fell_clear falls.PlainAck r m = mode_clear r m
fell_clear _ r m = mode_clear r m

-- ---- a path

module _ {C : Type 0} where
  abbrev Unclear : PathState C → PathState C → Type 0
  Unclear p q = (t : Side) → StaysUnclear (end_at t p) (end_at t q)

  record SameClear (p q : PathState C) : Type 0 where
    same : (t : Side) → (end_at t q).modes.clear ≡ (end_at t p).modes.clear

  all_same : (p q : PathState C) → SameClear p q → Unclear p q
  all_same p q h t = same_unclear (end_at t p) (end_at t q) (h.same t)

  rest : (p q : PathState C) → q.a ≡ p.a → q.b ≡ p.b → SameClear p q
  rest p q a b = record { same = elim [ A ↦ ap (λ (f : PathEnd). f.modes.clear) a | B ↦ ap (λ (f : PathEnd). f.modes.clear) b ] }

  -- where one end changes
  side_same : (s : Side) (e : PathEnd) (p q : PathState C) → q.a ≡ (goes_on s e [] p).a → q.b ≡ (goes_on s e [] p).b → e.modes.clear ≡ (end_at s p).modes.clear → SameClear p q
  side_same A e p q a b same = record { same = elim [ A ↦ ap (λ (f : PathEnd). f.modes.clear) a ∙ same | B ↦ ap (λ (f : PathEnd). f.modes.clear) b ] }
  side_same B e p q a b same = record { same = elim [ A ↦ ap (λ (f : PathEnd). f.modes.clear) a | B ↦ ap (λ (f : PathEnd). f.modes.clear) b ∙ same ] }

  either : (b : Bool) (q r p : PathState C) → SameClear p q → SameClear p r → SameClear p (if b then q else r)
  either true q r p x y = x
  either false q r p x y = y

  -- ---- events

  begun_same : (r : Reply) (dead living : List Duty) (p : PathState C) → SameClear p (join_begun r dead living p)
  begun_same r dead living p =
      either (is_never r) (goes_on A (never_joined r (end_at A p)) dead p) (goes_on A (opened_by (keys_begun r) (end_at A p)) living p) p
      (side_same A (never_joined r (end_at A p)) p _ refl refl refl) (side_same A (opened_by (keys_begun r) (end_at A p)) p _ refl refl (opened_clear (keys_begun r) (end_at A p)))

  line_same : (action : LineAction) (p : PathState C) → SameClear p (after_line action p)
  line_same actions.Die p = record { same = elim [ A ↦ died_clear (is_dead p.a.tcp.state) p.a | B ↦ died_clear (is_dead p.b.tcp.state) p.b ] }
  line_same (actions.Prio s backup) p = side_same s _ p _ refl refl refl
  line_same (actions.Announce s id) p = rest p _ refl refl
  line_same (actions.Withdraw s id) p = rest p _ refl refl

  from_there : (p q r : PathState C) → q.a ≡ p.a → q.b ≡ p.b → SameClear q r → SameClear p r
  from_there p q r a b h = record { same = elim [ A ↦ h.same A ∙ ap (λ (f : PathEnd). f.modes.clear) a | B ↦ h.same B ∙ ap (λ (f : PathEnd). f.modes.clear) b ] }

  goes_unclear : (s : Side) (f : PathEnd) (ds : List Duty) (p : PathState C) → StaysUnclear (end_at s p) f → Unclear p (goes_on s f ds p)
  goes_unclear A f ds p x A = x
  goes_unclear A f ds p x B = same_unclear p.b p.b refl
  goes_unclear B f ds p x A = same_unclear p.a p.a refl
  goes_unclear B f ds p x B = x

  heard_unclear : (s : Side) (o : Option HeardSegment) (p : PathState C) → Unclear p (copy_heard s o p)
  heard_unclear s None p = all_same p (copy_heard s None p) (rest p _ refl refl)
  heard_unclear s (Some heard) p =
      let e : PathEnd = end_at s p in let h : HeardSegment = options_heard e heard in let joined : Bool = is_joined p.profile in
      goes_unclear s (copy_judged joined (held_of p.profile s h) (reset_for p.profile s h) s p.clock h (taken_as (judged_in joined s h e)) e)
      (template_of joined s (items_of joined s h) (judged_in joined s h e)) p
      (copy_unclear joined (held_of p.profile s h) (reset_for p.profile s h) s p.clock h (taken_as (judged_in joined s h e)) e)

-- ---- a path's duties

happens_unclear : (o : Option Event) (r : Reply) (p : PathState Carried) → Unclear p (happens_if values o r p)
happens_unclear None r p = all_same p (happens_if values None r p) (rest p _ refl refl)
happens_unclear (Some (happenings.Joins tick)) r p =
    let q : PathState Carried = record (at_tick tick p) { joined_at = None } in all_same p (happens_if values (Some (happenings.Joins tick)) r p) (from_there p q _ refl refl (begun_same r (leaves A) (emission A) q))
happens_unclear (Some (happenings.Takes line)) r p =
    let q : PathState Carried = record (at_tick line.tick p) { lines = tail_of p.lines } in all_same p (happens_if values (Some (happenings.Takes line)) r p) (from_there p q _ refl refl (line_same line.action q))
happens_unclear (Some (happenings.Arrives due)) r p = heard_unclear due.to (heard_in values due.to (arriving due p.link) p) (record (at_tick due.tick p) { link = after_delivery due p.link })
happens_unclear (Some (happenings.Fires s tick)) r p = all_same p (happens_if values (Some (happenings.Fires s tick)) r p) (side_same s _ p _ refl refl refl)

break_same : (s : Side) (reason : ℕ) (r : Reply) (p : PathState Carried) → SameClear p (answered_break values s reason r p)
break_same s reason r p = either (end_at s p).treated.asked _ _ p (side_same s _ p _ refl refl refl) (side_same s _ p _ refl refl refl)

thing_same : (s : Side) (item : Heard) (r : Reply) (p : PathState Carried) → TellsNoKeys item → SameClear p (answered_heard values s item r p)
thing_same s (says.DataAck next window) r p none = side_same s _ p _ refl refl refl
thing_same s (says.Mapping fin) r p none = either (is_clash (end_at s p)) _ _ p (break_same s 1 r p) (side_same s _ p _ refl refl (fell_clear falls.MappingHeard r (end_at s p).modes))
thing_same s (says.DataFin place) r p none = side_same s _ p _ refl refl (fell_clear falls.MappingHeard r (end_at s p).modes)
thing_same s (says.InfiniteMapping place position) r p none =
    let e = end_at s p in side_same s _ p _ refl refl (infinite_came_so (λ f. f.modes.clear ≡ e.modes.clear) place position r e (λ other. mode_clear r e.modes))
thing_same s (says.Keys own peer) r p none = absurd none
thing_same s (says.Notice notice) r p none = side_same s _ p _ refl refl refl
thing_same s says.Fail r p none =
    fail_answered_so (SameClear p) s r p (side_same s _ p _ refl refl refl) (side_same s _ p _ refl refl (fell_clear (falls.FailHeard false) r (end_at s p).modes))
thing_same s _ r p none = rest p _ refl refl

item_same : (s : Side) (o : Option Heard) (r : Reply) (p : PathState Carried) → IfSome o TellsNoKeys → SameClear p (answered_item values s o r p)
item_same s None r p none = rest p _ refl refl
item_same s (Some item) r p none = thing_same s item r p none

opened_same : (s : Side) (o : Option KeyPair) (r : Reply) (p : PathState Carried) → o ≡ None → SameClear p (answered_opened s o r p)
opened_same s None r p none = side_same s _ p _ refl refl (fell_clear falls.PlainHandshake r (end_at s p).modes)
opened_same s (Some keys) r p none = cc

answered_unclear : (d : Duty) (r : Reply) (p : PathState Carried) → HasJoinedKeys p → Unclear p (answered values d r p)
answered_unclear (duties.Step step_duties.Events) r p keys = happens_unclear (next_event p) r p
answered_unclear (duties.Step (step_duties.Heard s index)) r p keys =
    all_same p (answered values (duties.Step (step_duties.Heard s index)) r p) (item_same s (item_of index (end_at s p)) r p (keys.items s index))
answered_unclear (duties.Ask (ask_duties.Opened s)) r p keys =
    all_same p (answered values (duties.Ask (ask_duties.Opened s)) r p) (opened_same s (keys_heard (end_at s p).treated.items) r p (keys.pair s))
answered_unclear d r p keys = all_same p (answered values d r p) (record { same = λ t. same_clear t d p (answered values d r p) refl (writes_no_more values d r p) refl })

item_unclear : (s : Side) (o : Option Heard) (e : PathEnd) → StaysUnclear e (item_passed s o e)
item_unclear s o e = item_so (StaysUnclear e) s o e (same_unclear e e refl) (record { clear = λ is. inr (inl refl) }) (λ next. same_unclear e _ refl) (same_unclear e _ refl) (same_unclear e _ refl) (λ place. same_unclear e _ refl)

passed_unclear : (d : Duty) (p : PathState Carried) → Unclear p (passed d p)
passed_unclear (duties.Step (step_duties.Heard s index)) p = goes_unclear s (item_passed s (item_of index (end_at s p)) (end_at s p)) p.agenda p (item_unclear s (item_of index (end_at s p)) (end_at s p))
passed_unclear (duties.Ask (ask_duties.Opened s)) p = all_same p p (rest p p refl refl)
passed_unclear d p = all_same p (passed d p) (record { same = λ t. passed_same t d p refl })

-- ---- what is passed lets no end owe it anew

abbrev OwesNoMore : PathEnd → PathEnd → Type 0
OwesNoMore e f = f.modes.owes_third ≡ true → e.modes.owes_third ≡ true

abbrev NoneOwesMore : PathState Carried → PathState Carried → Type 0
NoneOwesMore p q = (t : Side) → OwesNoMore (end_at t p) (end_at t q)

only_owes : (w : EndWrites) (e f : PathEnd) → w.owes_third ≡ false → Only w e f → OwesNoMore e f
only_owes w e f owes x is = sym (unwritten w.owes_third e.modes.owes_third f.modes.owes_third owes (ap (λ (v : EndView). v.owes_third) x.same)) ∙ is

plain_owes : (s : Side) (w : Writes) (p q : PathState Carried) → w.own.owes_third ≡ false → w.other.owes_third ≡ false → OnlyAt s w p q → NoneOwesMore p q
plain_owes s w p q own other x =
    let both = both_ends (λ e f. OwesNoMore e f) s w p q (λ e f only. only_owes w.own e f own only) (λ e f only. only_owes w.other e f other only) x in elim [ A ↦ both.0 | B ↦ both.1 ]

goes_owes : (s : Side) (f : PathEnd) (ds : List Duty) (p : PathState Carried) → OwesNoMore (end_at s p) f → NoneOwesMore p (goes_on s f ds p)
goes_owes A f ds p x A = x
goes_owes A f ds p x B = λ is. is
goes_owes B f ds p x A = λ is. is
goes_owes B f ds p x B = x

passed_owes : (d : Duty) (p : PathState Carried) → NoneOwesMore p (passed d p)
passed_owes (duties.Step step_duties.Events) p = λ t is. is
passed_owes (duties.Step (step_duties.Heard s index)) p =
    let e : PathEnd = end_at s p in
    goes_owes s (item_passed s (item_of index e) e) p.agenda p (item_so (λ f. OwesNoMore e f) s (item_of index e) e (λ is. is) (λ is. absurd (true≢false (sym is))) (λ next is. is) (λ is. is) (λ is. is) (λ place is. is))
passed_owes (duties.Ask ask_duties.JoinAgain) p = λ t is. is
passed_owes (duties.Send (send_duties.Update s)) p = λ t is. is
passed_owes (duties.Silent (silent_duties.Timer s)) p = plain_owes s (writes (duties.Silent (silent_duties.Timer s))) p _ refl refl (passes_no_more (duties.Silent (silent_duties.Timer s)) p)
passed_owes d p = plain_owes (side_of d) (writes d) p (passed d p) refl refl (passes_no_more d p)

-- ---- what holds

-- an end that owes the third MP_JOIN is past the handshake, and may send no DSS
pub record OwesUnclear (e : PathEnd) : Type 0 where
  pub owes : e.modes.owes_third ≡ true → (3 ≤ stage e.tcp.state) × (e.modes.clear ≡ false)

abbrev pub BothOweUnclear : PathState Carried → Type 0
BothOweUnclear p = (t : Side) → OwesUnclear (end_at t p)

still_unclear : (e f : PathEnd) → StaysUnclear e f → f.modes.owes_third ≡ true → e.modes.clear ≡ false → (stage e.tcp.state ≡ 2 → ⊥) → f.modes.clear ≡ false
still_unclear e f stays owes was apart = by f.modes.clear refl
  where
    by : (b : Bool) → f.modes.clear ≡ b → b ≡ false
    by false is = refl
    by true is = absurd (⊎_elim (λ clear. both_ways e.modes.clear was clear) (λ rest. ⊎_elim (λ none. both_ways f.modes.owes_third none owes) apart rest) (stays.clear is))

owed_on : (e f : PathEnd) → stage e.tcp.state ≤ stage f.tcp.state → StaysUnclear e f → OwesUnclear e → f.modes.owes_third ≡ true → e.modes.owes_third ≡ true → (3 ≤ stage f.tcp.state) × (f.modes.clear ≡ false)
owed_on e f far stays h owes owed = let was = h.owes owed in let past = was.0 in (omega (arith, far, past), still_unclear e f stays owes was.1 (λ two. omega (arith, past, two)))

-- a duty that is answered
answered_on : (d : Duty) (r : Reply) (p : PathState Carried) → HasJoinedKeys p → ((t : Side) → stage (end_at t p).tcp.state ≤ 2 → (end_at t p).modes.clear ≡ false) → BothOweUnclear p → BothOweUnclear (answered values d r p)
answered_on d r p keys early h t = record {
  owes = λ owes. ⊎_elim
      (λ owed. owed_on e f far (answered_unclear d r p keys t) (h t) owes owed)
      (λ opens. (opens.1, still_unclear e f (answered_unclear d r p keys t) owes (early t (let low = opens.0 in omega (arith, low))) (λ two. let low = opens.0 in omega (arith, low, two))))
      (third.owed owes);
}
  where
    e : PathEnd
    e = end_at t p

    f : PathEnd
    f = end_at t (answered values d r p)

    far : stage e.tcp.state ≤ stage f.tcp.state
    far = (path_far p (answered values d r p) (answered_steps values d r p) t).subflow.state

    thirds : (t : Side) → Third (end_at t p) (end_at t (answered values d r p))
    thirds = elim [ A ↦ (answered_third values d r p).a | B ↦ (answered_third values d r p).b ]

    third : Third e f
    third = thirds t

abbrev Lasting : PathState Carried → PathState Carried → Type 0
Lasting p q = BothOweUnclear p → BothOweUnclear q

lasts : Lasts Lasting
lasts = record {
  agenda = λ ds p h t. record { owes = (h t).owes };
  chains = λ p q r x y h. y (x h);
  passes = λ d p h t. record {
    owes = λ owes. owed_on (end_at t p) (end_at t (passed d p)) (path_far p (passed d p) (passed_steps d p) t).subflow.state (passed_unclear d p t) (h t) owes (passed_owes d p t owes);
  };
}

takes_on : (r : Reply) (p : PathState Carried) → HasJoinedKeys p → ((t : Side) → stage (end_at t p).tcp.state ≤ 2 → (end_at t p).modes.clear ≡ false) → BothOweUnclear p → BothOweUnclear (takes values r p)
takes_on r p keys early h = by p.agenda
  where
    by : (ds : List Duty) → BothOweUnclear (takes values r (with_agenda ds p))
    by [] = settled_lasts Lasting lasts [] (with_agenda [] p) h
    by (d ∷ ds) =
        let x : PathState Carried = with_agenda (d ∷ ds) p in let q : PathState Carried = answered values d r x in
        settled_lasts Lasting lasts q.agenda q (answered_on d r x (record { keyed = keys.keyed; items = keys.items; pair = keys.pair }) early h)

next_on : (p : PathState Carried) → BothOweUnclear p → BothOweUnclear (next_round p)
next_on p h = begins_lasts Lasting lasts (record p { clock = p.until; until = p.until + 100 }) h

-- ---- each path that joined, at every moment

abbrev OfPaths : (PathState Carried → Type 0) → Actor Carried → Type 0
OfPaths P = HoldsOfKind (λ app. Unit {0}) P

abbrev JoinedOwes : Actor Carried → Type 0
JoinedOwes = OfPaths (λ p. is_joined p.profile ≡ true → BothOweUnclear p)

-- what is known of it
record Facts (p : PathState Carried) : Type 0 where
  keys : is_joined p.profile ≡ true → HasJoinedKeys p
  clears : AllClear p.agenda p

module _ (start : Start) (actor : ℕ) where
  actor_takes : (r : Reply) (m : Actor Carried) → OfPaths Facts m → JoinedOwes m → JoinedOwes (member_takes values r m)
  actor_takes r (App a) facts h = tt
  actor_takes r (Path p) facts h = λ later. let joined : is_joined p.profile ≡ true = ap is_joined (sym (takes_frames values r p).profile) ∙ later in
      takes_on r p (facts.keys joined) (λ t. (facts.clears t).early) (h joined)

  actor_next : (m : Actor Carried) → is_over m ≡ true → JoinedOwes m → JoinedOwes (member_next m)
  actor_next (App a) over h = tt
  actor_next (Path p) over h = λ later. next_on p (h (ap is_joined (sym (next_frames p over).profile) ∙ later))

  facts_at : (turns : List Turn) (c : ActorCrew Carried) → slice_get (reached values start turns).crew actor ≡ Some c → OfPaths Facts c.member
  facts_at turns c there = by c.member (joined_ends_have_keys start turns actor c there) ((always_clears values start turns).each actor c there)
    where
      by : (m : Actor Carried) → OfPaths (λ p. is_joined p.profile ≡ true → HasJoinedKeys p) m → OfPaths (λ p. AllClear p.agenda p) m → OfPaths Facts m
      by (App a) keys clears = tt
      by (Path p) keys clears = record { keys = keys; clears = clears }

  abbrev AtActor : WorldState Carried → Type 0
  AtActor w = (c : ActorCrew Carried) → slice_get w.crew actor ≡ Some c → JoinedOwes c.member

  turn_on : (turn : Turn) (w : WorldState Carried) (c : ActorCrew Carried) → slice_get w.crew actor ≡ Some c → OfPaths Facts c.member → JoinedOwes c.member
      → (d : ActorCrew Carried) × (slice_get (after_turn values turn w).crew actor ≡ Some d) × JoinedOwes d.member
  turn_on turn w c there facts h =
      let found = turn_by values (λ books c d. OfPaths Facts c.member → JoinedOwes c.member → JoinedOwes d.member) (λ books c facts h. h)
      (λ books ask c asks facts h. actor_takes (answer_to books ask) c.member facts h) (λ books stamp c over facts h. actor_next c.member over h) turn w actor c there in
      (found.0, found.1, found.2 facts h)

  step_on : (turns : List Turn) (turn : Turn) → AtActor (reached values start turns) → AtActor (after_turn values turn (reached values start turns))
  step_on turns turn h d there = by (slice_get (reached values start turns).crew actor) refl
    where
      by : (o : Option (ActorCrew Carried)) → slice_get (reached values start turns).crew actor ≡ o → JoinedOwes d.member
      by None was = absurd (let none = none_stays values turn (reached values start turns) actor was in let found : None ≡ Some d = sym none ∙ there in cc)
      by (Some c) was =
          let next = turn_on turn (reached values start turns) c was (facts_at turns c was) (h c was) in
          subst (λ (y : ActorCrew Carried). JoinedOwes y.member) (same_Some next.0 d (sym next.1 ∙ there)) next.2

  run_on : (before more : List Turn) → AtActor (reached values start before) → AtActor (reached values start (before ++ more))
  run_on before [] h = subst (λ ts. AtActor (reached values start ts)) (sym (append-nil before)) h
  run_on before (turn ∷ more) h = subst (λ ts. AtActor (reached values start ts)) (append_assoc before (turn ∷ []) more)
      (run_on (before ++ turn ∷ []) more (subst AtActor (sym (run_append values before (turn ∷ []) (opened_world start))) (step_on before turn h)))

  opened_on : AtActor (opened_world start)
  opened_on c there = (opened_lifted (λ c. JoinedOwes c.member) start tt tt
      (λ number plan there joined. begins_lasts Lasting lasts (waiting_path (path_begins start number plan) start.lines) (first number plan))).each actor c there
    where
      first : (number : ℕ) (plan : PathPlan) → BothOweUnclear (waiting_path (path_begins start number plan) start.lines)
      first number plan A = record { owes = λ is. absurd (true≢false (sym is)) }
      first number plan B = record { owes = λ is. absurd (true≢false (sym is)) }

pub joined_ends_owe_unclear : (start : Start) (turns : List Turn) (actor : ℕ) (c : ActorCrew Carried) → slice_get (reached values start turns).crew actor ≡ Some c
    → OfPaths (λ p. is_joined p.profile ≡ true → BothOweUnclear p) c.member
joined_ends_owe_unclear start turns actor c there = run_on start actor [] turns (opened_on start actor) c there
