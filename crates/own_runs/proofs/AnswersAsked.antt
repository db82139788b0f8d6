-- On path 0 of a run that never falls back B heard that A asks for Multipath TCP before it sends a SYN, so its SYN shows its key.
use Rattle.std.proofs.Common.{◌≡◌, refl, sym, ap, ◌∙◌, subst, ℕ, suc, zero, ◌+◌, inl, inr, ◌⊎◌, ⊎_elim, Bool, true, false, if◌then◌else◌, Option, Some, None, List, [], ◌∷◌, ◌++◌, length}
use Rattle.std.specs.List.{slice_get}
use Rattle.std.proofs.lemmas.Bool.{both_ways, false≢true}
use Rattle.actor_desk.specs.declared.ask.Reply.{Reply}
use Rattle.link_model.specs.Steps.{after_delivery, arriving}
use Rattle.path_agenda.specs.Agenda.{emission, heard_and, leaves, payload_came, rest_of_turn, start_of_turn}
use Rattle.path_agenda.specs.declared.duty.AskDuty.{AskDuty}
use Rattle.path_agenda.specs.declared.duty.Duty.{Duty}
use Rattle.path_agenda.specs.declared.duty.SendDuty.{SendDuty}
use Rattle.path_agenda.specs.declared.duty.StepDuty.{StepDuty}
use Rattle.path_core.specs.Arrival.{copy_heard, heard_in, judged_in, template_judged}
use Rattle.path_core.specs.OptionsIn.{items_of, options_heard}
use Rattle.path_core.specs.Duties.{answered, stands}
use Rattle.path_core.specs.Events.{after_line, happens_if, next_event}
use Rattle.path_core.specs.MpJoin.{is_joined, is_never, join_begun}
use Rattle.path_core.specs.Start.{waiting_path}
use Rattle.actor_desk.specs.Words.{tail_of}
use Rattle.path_core.specs.State.{PathState, at_tick, end_at, with_agenda}
use Rattle.path_core.specs.Steps.{answers, begins_turn, settled, takes}
use Rattle.path_core.specs.Timer.{template_fired, timer_fired}
use Rattle.path_core.specs.Values.{Carried, values}
use Rattle.path_core.specs.declared.events.Event.{Event}
use Rattle.path_core.specs.declared.judged.Judged.{Judged}
use Rattle.path_segments.specs.Heard.{HeardSegment}
use Rattle.path_store.specs.declared.lines.LineAction.{LineAction}
use Rattle.sides.specs.declared.side.Side.TheVariants.{A, B}
use Rattle.sides.specs.declared.side.Side.{Side}
use Rattle.stream_lanes.proofs.Lists.{in_map, in_set}
use Rattle.subflow_tcp.specs.Expiring.{is_sixth}
use Rattle.subflow_tcp.specs.States.{is_dead, is_opening}
use Rattle.subflow_tcp.specs.declared.handshake.State.{State as EndPhase}
use Rattle.subflow_tcp.specs.declared.verdicts.Meaning.{Meaning}
use Rattle.world_laws.proofs.Keys.AnswerHeardFirst.{is_apart}
use Rattle.world_laws.proofs.Keys.WhatWakes.{is_up, next_happens}
use Rattle.world_laws.proofs.Whole.Ends.{Unmet, parts_of}
use Rattle.world_laws.proofs.Whole.Falls.{EachUpright, MemberUpright, each_upright}
use Rattle.world_laws.proofs.Whole.Happening.{Holds, Next, Now, is_between}
use Rattle.world_laws.proofs.Rounds.Frame.{takes_keeps}
use Rattle.world_laws.proofs.Whole.Paths.{PathIs, path_alike}
use Rattle.world_laws.proofs.Worlds.Opened.{opened_actors}
use Rattle.world_laws.proofs.Worlds.Turns.{turn_so}
use Rattle.world_laws.specs.Actors.{Actor, ActorCrew, member_next, member_takes}
use Rattle.world_laws.specs.NeverFalls.{IsWhole}
use Rattle.world_laws.specs.Openings.{Start, opened_world, path_begins}
use Rattle.world_laws.specs.Promises.{IsPlain}
use Rattle.world_laws.specs.StampedBooks.{answer_to}
use Rattle.world_laws.specs.Worlds.{Turn, WorldState, after_turn, begins, crew_after, greatest, world_run}
use Rattle.world_laws.specs.declared.member.Member.TheVariants.{App, Path}
use Rattle.own_runs.proofs.DutiesFew.{IsNoEvent, duty_free, is_free, is_rare, joins_none, settled_free}

-- B sends once more what isn't acknowledged
abbrev pub is_again : Duty → Bool
is_again (Duty.Send (SendDuty.Resend B)) = true
is_again _ = false

pub rare : (x : Duty) → is_rare x ≡ false → is_again x ≡ false
rare (Duty.Send (SendDuty.Resend s)) is = absurd (false≢true (sym is))
rare _ is = refl

-- B heard that A asks
abbrev pub IsAsked : PathState Carried → Type 0
IsAsked p = p.b.modes.capable_asked ≡ true

abbrev pub none_again : List Duty → Type 0
none_again ds = is_free is_again rare ds ≡ true

abbrev pub again : List Duty
again = Duty.Send (SendDuty.Resend B) ∷ emission B

-- B sends once more only what it may
abbrev pub Again : PathState Carried → Type 0
Again p = none_again p.agenda ⊎ (IsAsked p × ((p.agenda ≡ Duty.Ask (AskDuty.Return B) ∷ again) ⊎ (p.agenda ≡ again)))

again_stays : (q : PathState Carried) → IsAsked q → Again (settled again q)
again_stays q asked = inr (asked, inr refl)

return_stays : (q : PathState Carried) → IsAsked q → Again (settled (Duty.Ask (AskDuty.Return B) ∷ again) q)
return_stays q asked = by (stands (Duty.Ask (AskDuty.Return B)) q)
  where
    by : (b : Bool) → Again (if b then with_agenda (Duty.Ask (AskDuty.Return B) ∷ again) q else settled again q)
    by true = inr (asked, inl refl)
    by false = inr (asked, inr refl)

settles : (q : PathState Carried) → Again q → Again (settled q.agenda q)
settles q (inl free) = inl (settled_free is_again rare q free q.agenda q free)
settles q (inr asked) =
    ⊎_elim
    (λ same. subst (λ (ds : List Duty). Again (settled ds q)) (sym same) (return_stays q asked.0))
    (λ same. subst (λ (ds : List Duty). Again (settled ds q)) (sym same) (again_stays q asked.0)) asked.1

-- ---- what happens

came_none : (s : Side) (from count : ℕ) (ds : List Duty) → none_again ds → none_again (heard_and s from count ds)
came_none s from zero ds h = h
came_none s from (suc count) ds h = came_none s (from + 1) count ds h

payload_none : (s : Side) → none_again (payload_came s)
payload_none A = refl
payload_none B = refl

template_none : (joined : Bool) (s : Side) (count : ℕ) (v : Judged) → none_again (template_judged joined s count v)
template_none true A count (Judged.As (Meaning.Accepts acknowledged)) = refl
template_none false A count (Judged.As (Meaning.Accepts acknowledged)) = refl
template_none true B count (Judged.As (Meaning.Accepts acknowledged)) = refl
template_none false B count (Judged.As (Meaning.Accepts acknowledged)) = refl
template_none joined s count (Judged.As (Meaning.Taken pos acknowledged)) = came_none s 0 count (payload_came s) (payload_none s)
template_none joined A count _ = refl
template_none joined B count _ = refl

emission_none : (s : Side) → none_again (emission s)
emission_none A = refl
emission_none B = refl

line_none : (action : LineAction) (p : PathState Carried) → none_again (after_line action p).agenda
line_none LineAction.Die p = by (is_dead p.a.tcp.state) (is_dead p.b.tcp.state)
  where
    by : (x y : Bool) → none_again ((if x then [] else Duty.Ask (AskDuty.Leave A) ∷ []) ++ ((if y then [] else Duty.Ask (AskDuty.Leave B) ∷ []) ++ rest_of_turn))
    by true true = refl
    by true false = refl
    by false true = refl
    by false false = refl
line_none (LineAction.Prio s backup) p = emission_none s
line_none (LineAction.Announce A id) p = refl
line_none (LineAction.Announce B id) p = refl
line_none (LineAction.Withdraw A id) p = refl
line_none (LineAction.Withdraw B id) p = refl

copy_none : (s : Side) (o : Option HeardSegment) (p : PathState Carried) → none_again (copy_heard s o p).agenda
copy_none s None p = emission_none s
copy_none s (Some heard) p =
    let told : HeardSegment = options_heard (end_at s p) heard in
    template_none (is_joined p.profile) s (length (items_of (is_joined p.profile) s told)) (judged_in (is_joined p.profile) s told (end_at s p))

either_none : (b : Bool) (q r : PathState Carried) → none_again q.agenda → none_again r.agenda → none_again (if b then q else r).agenda
either_none true q r x y = x
either_none false q r x y = y

begun_none : (r : Reply) (p : PathState Carried) → none_again (join_begun r (leaves A) (emission A) p).agenda
begun_none r p = either_none (is_never r) _ _ refl refl

-- an end that isn't up sends nothing again
up_asked : (p : PathState Carried) (ds : List Duty) → PathIs ds p → is_up p.b.tcp ≡ true → IsAsked p
up_asked p ds h up = ⊎_elim (λ asked. asked) (λ (unmet : Unmet (parts_of p.b)). ⊎_elim (λ closed. absurd (both_ways (is_up p.b.tcp) closed up)) (λ opens. absurd (never p.b.tcp.state opens.state h.b.base.apart)) unmet.still) h.b.says
  where
    never : (state : EndPhase) → is_opening state ≡ true → is_apart B state ≡ false → ⊥
    never EndPhase.SynSent opens apart = false≢true (sym apart)
    never EndPhase.Waiting opens apart = false≢true opens
    never _ opens apart = false≢true opens

fired_again : (s : Side) (p : PathState Carried) (ds : List Duty) → PathIs ds p → is_up (end_at s p).tcp ≡ true → Again (timer_fired s p)
fired_again A p ds h up = inl (by (is_sixth p.a.tcp))
  where
    by : (b : Bool) → none_again (template_fired b A)
    by true = refl
    by false = refl
fired_again B p ds h up = by (is_sixth p.b.tcp)
  where
    by : (b : Bool) → none_again (template_fired b B) ⊎ (IsAsked (timer_fired B p) × ((template_fired b B ≡ Duty.Ask (AskDuty.Return B) ∷ again) ⊎ (template_fired b B ≡ again)))
    by true = inl refl
    by false = inr (up_asked p ds h up, inl refl)

happens_again : (p : PathState Carried) (ds : List Duty) → PathIs ds p → (o : Option Event) → next_event p ≡ o → (r : Reply) → Again (happens_if values o r p)
happens_again p ds h None next r = inl refl
happens_again p ds h (Some (Event.Joins tick)) next r = inl (begun_none r (record (at_tick tick p) { joined_at = None }))
happens_again p ds h (Some (Event.Takes line)) next r = inl (line_none line.action _)
happens_again p ds h (Some (Event.Arrives due)) next r =
    inl (copy_none due.to (heard_in values due.to (arriving due p.link) p) (record (at_tick due.tick p) { link = after_delivery due p.link }))
happens_again p ds h (Some (Event.Fires s tick)) next r = fires s (next_happens p (Event.Fires s tick) next)
  where
    fires : (s : Side) → is_up (end_at s p).tcp ≡ true → Again (timer_fired s (at_tick tick p))
    fires A up = fired_again A (at_tick tick p) ds (path_alike ds p (at_tick tick p) refl refl refl refl refl h.copies h) up
    fires B up = fired_again B (at_tick tick p) ds (path_alike ds p (at_tick tick p) refl refl refl refl refl h.copies h) up

-- ---- a path

-- where another duty is next
pub now_is : (x : Duty) (ds : List Duty) (p : PathState Carried) → is_between x ≡ false → Holds p → p.agenda ≡ x ∷ ds → PathIs p.agenda p
now_is x ds p other (Now q h) same = h
now_is x ds p other (Next d es q between now calm does passes) same = absurd (both_ways _ other (ap is_between (sym (first_is (sym now ∙ same))) ∙ between.duty))
  where
    first_is : d ∷ es ≡ x ∷ ds → d ≡ x
    first_is is = cc

takes_again : (r : Reply) (p : PathState Carried) → Holds p → Again p → Again (takes values r p)
takes_again r p holds (inl free) = by p.agenda refl
  where
    other : (d : Duty) → IsNoEvent d → Again (settled (answered values d r p).agenda (answered values d r p))
    other d none = settles (answered values d r p) (inl (duty_free is_again rare p free d r none (joins_none is_again rare (λ s. (refl, refl)) d)))

    by : (ds : List Duty) → p.agenda ≡ ds → Again (settled (answers values ds r p).agenda (answers values ds r p))
    by [] same = settles p (inl free)
    by (Duty.Step StepDuty.Events ∷ ds) same = settles (happens_if values (next_event p) r p) (happens_again p p.agenda (now_is (Duty.Step StepDuty.Events) ds p refl holds same) (next_event p) refl r)
    by (Duty.Step (StepDuty.Look s) ∷ ds) same = other (Duty.Step (StepDuty.Look s)) refl
    by (Duty.Step (StepDuty.Data s) ∷ ds) same = other (Duty.Step (StepDuty.Data s)) refl
    by (Duty.Step (StepDuty.Heard s index) ∷ ds) same = other (Duty.Step (StepDuty.Heard s index)) refl
    by (Duty.Step (StepDuty.PlainAck s) ∷ ds) same = other (Duty.Step (StepDuty.PlainAck s)) refl
    by (Duty.Step (StepDuty.Unmapped s) ∷ ds) same = other (Duty.Step (StepDuty.Unmapped s)) refl
    by (Duty.Ask d ∷ ds) same = other (Duty.Ask d) tt
    by (Duty.Send d ∷ ds) same = other (Duty.Send d) tt
    by (Duty.Silent d ∷ ds) same = other (Duty.Silent d) tt
    by (Duty.End ∷ ds) same = other Duty.End tt
takes_again r p holds (inr (asked, inl same)) =
    subst (λ (ds : List Duty). Again (settled (answers values ds r p).agenda (answers values ds r p))) (sym same)
    (subst (λ (ds : List Duty). Again (settled (tail_of ds) (with_agenda (tail_of ds) p))) (sym same) (again_stays (with_agenda again p) asked))
takes_again r p holds (inr (asked, inr same)) =
    subst (λ (ds : List Duty). Again (settled (answers values ds r p).agenda (answers values ds r p))) (sym same)
    (settles (answered values (Duty.Send (SendDuty.Resend B)) r p) (inl (subst (λ (ds : List Duty). none_again (tail_of ds)) (sym same) refl)))

begins_again : (p : PathState Carried) → Again (begins_turn p)
begins_again p = settles (with_agenda start_of_turn p) (inl refl)

-- ---- worlds

abbrev pub MemberAgain : Actor Carried → Type 0
MemberAgain (App a) = Unit {0}
MemberAgain (Path p) = is_joined p.profile ≡ false → Again p

abbrev pub WorldAgain : WorldState Carried → Type 0
WorldAgain w = (actor : ℕ) (c : ActorCrew Carried) → slice_get w.crew actor ≡ Some c → MemberAgain c.member

takes_so : (r : Reply) (m : Actor Carried) → MemberUpright m → MemberAgain m → MemberAgain (member_takes values r m)
takes_so r (App a) upright h = tt
takes_so r (Path p) upright h = λ first. let was = ap is_joined (sym (takes_keeps values r p).1) ∙ first in takes_again r p (upright.holds was) (h was)

next_so : (m : Actor Carried) → MemberAgain (member_next m)
next_so (App a) = tt
next_so (Path p) = λ first. begins_again (record p { clock = p.until; until = p.until + 100 })

turn_again : (turn : Turn) (w : WorldState Carried) → EachUpright w → WorldAgain w → WorldAgain (after_turn values turn w)
turn_again turn w upright h =
    turn_so values WorldAgain turn w h
    (λ actor c x there is i d at.
    ⊎_elim
    (λ here. subst (λ (y : ActorCrew Carried). MemberAgain y.member) here.1 (takes_so (answer_to w.books x) c.member (upright.each actor c there) (h actor c there)))
    (λ other. h i d other.1)
    (in_set w.crew actor (crew_after values x w.books c) i d at))
    (λ over i d at.
    let found = in_map (begins (greatest 0 w.crew)) w.crew i d at in
    subst (λ (y : ActorCrew Carried). MemberAgain y.member) found.2 (next_so found.0.member))

run_again : (turns : List Turn) (w : WorldState Carried) → ((more : List Turn) → EachUpright (world_run values more w)) → WorldAgain w → WorldAgain (world_run values turns w)
run_again [] w upright h = h
run_again (turn ∷ turns) w upright h = run_again turns (after_turn values turn w) (λ more. upright (turn ∷ more)) (turn_again turn w (upright []) h)

pub always_again : (start : Start) → IsPlain start → IsWhole start → (turns : List Turn) → WorldAgain (world_run values turns (opened_world start))
always_again start plain whole turns =
    run_again turns (opened_world start) (λ more. each_upright start more plain whole)
    (opened_actors (λ actor c. MemberAgain c.member) start tt tt (λ number plan there. λ first. begins_again (waiting_path (path_begins start number plan) start.lines)))
