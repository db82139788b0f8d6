-- What an end of path 0 is to say only once both SYNs came: its SYN/ACK, an answer, an acknowledgement, and at B what an expiry sends again.
use Rattle.std.proofs.Common.{◌≡◌, refl, sym, subst, ap, ◌∙◌, ◌⊎◌, inl, inr, ⊎_elim, ℕ, zero, suc, ◌+◌, ◌≤◌, ◌&&◌, ◌||◌, arith, Bool, true, false, true≢false, not, if◌then◌else◌, Option, Some, None, List, [], ◌∷◌, ◌++◌, length}
use Rattle.std.specs.List.{list_any}
use Rattle.std.proofs.lemmas.Bool.{both_ways, or_cases, or_from, or_parts, or_right}
use Rattle.path_segments.specs.Heard.{HeardSegment}
use Rattle.dss_mapping.specs.declared.kept.KeptMapping.{KeptMapping}
use Rattle.sides.specs.declared.side.Side.{Side}
use Rattle.sides.specs.declared.side.Side.TheVariants.{A, B}
use Rattle.link_model.specs.Steps.{after_delivery, arriving}
use Rattle.link_script.specs.Places.{same_side}
use Rattle.subflow_tcp.specs.Expiring.{is_sixth}
use Rattle.subflow_tcp.specs.Judging.{meaning_of}
use Rattle.subflow_tcp.specs.Taking.{after_hearing, after_payload}
use Rattle.subflow_tcp.specs.declared.handshake.State.{State}
use Rattle.subflow_tcp.specs.declared.handshake.State.TheVariants as phase
use Rattle.subflow_tcp.specs.declared.segments.Outgoing.{Outgoing}
use Rattle.subflow_tcp.specs.declared.verdicts.Meaning.{Meaning}
use Rattle.subflow_tcp.specs.declared.verdicts.Meaning.TheVariants as means
use Rattle.actor_desk.specs.Words.{tail_of}
use Rattle.actor_desk.specs.declared.ask.Reply.{Reply}
use Rattle.path_agenda.specs.Agenda.{emission, heard_and, leaves, payload_came, rest_of_turn, start_of_turn}
use Rattle.path_agenda.specs.declared.duty.Duty.{Duty}
use Rattle.path_agenda.specs.declared.duty.Duty.TheVariants as duties
use Rattle.path_agenda.specs.declared.duty.AskDuty.TheVariants as ask_duties
use Rattle.path_agenda.specs.declared.duty.SendDuty.TheVariants as send_duties
use Rattle.path_agenda.specs.declared.duty.StepDuty.TheVariants as step_duties
use Rattle.path_store.specs.declared.lines.LineAction.{LineAction}
use Rattle.path_store.specs.declared.lines.LineAction.TheVariants as actions
use Rattle.path_core.specs.Arrival.{copy_heard, copy_judged, copy_of, heard_in, judged_in, reset_for, template_by, template_of, told_at}
use Rattle.path_core.specs.Choices.{is_side_a}
use Rattle.path_core.specs.DssIn.{held_of}
use Rattle.path_core.specs.Duties.{answered, passed, stands}
use Rattle.path_core.specs.Events.{after_line, happens_if, next_event}
use Rattle.path_core.specs.Judged.{taken_as}
use Rattle.path_core.specs.MpJoin.{is_joined, is_never, join_begun, keys_begun, never_joined, opened_by}
use Rattle.path_core.specs.OptionsIn.{hint_of, items_of, options_heard}
use Rattle.path_core.specs.State.{PathState, at_tick, end_at, goes_on, with_agenda}
use Rattle.path_core.specs.Steps.{settled, takes}
use Rattle.path_core.specs.Timer.{after_firing, template_fired}
use Rattle.path_core.specs.Values.{Carried, values}
use Rattle.path_core.specs.declared.events.Event.{Event}
use Rattle.path_core.specs.declared.events.Event.TheVariants as happenings
use Rattle.whole_paths.specs.AgendaSteps.{Follows, hears_join, is_silent, is_told}
use Rattle.whole_paths.specs.AgendaSteps.{Follows as follows}
use Rattle.whole_paths.specs.AsFar.{stage}
use Rattle.whole_paths.specs.OpeningStates.{IsOfB}
use Rattle.whole_paths.specs.OpeningStates.{IsOfB as of_b}
use Rattle.whole_paths.proofs.Agendas.{answered_follows}
use Rattle.world_laws.proofs.Keys.WhatWakes.{is_up, next_happens}
use Rattle.path_agenda.specs.declared.duty.SilentDuty.TheVariants as silent_duties
use Rattle.path_core.specs.Addresses.{with_priority}
use Rattle.path_core.specs.End.{PathEnd, died}
use Rattle.sides.specs.Side.{peer}
use Rattle.subflow_tcp.specs.States.{is_dead, is_opening}
use Rattle.world_laws.specs.Writes.{EndView, Only, OnlyAt, PathView, Writes, nothing, side_of, writes}
use Rattle.world_laws.proofs.Whole.Ends.{MeansIs, Opens, Unmet, means_so, parts_of}
use Rattle.world_laws.proofs.Whole.Happening.{Holds, is_between}
use Rattle.world_laws.proofs.Whole.Paths.{PathIs}
use Rattle.world_laws.proofs.Writes.Paths.{passes_no_more, writes_no_more}
use Rattle.world_laws.proofs.Writes.Steps.{unwritten}
use Rattle.whole_paths.proofs.InTime.{is_event}
use Rattle.whole_paths.proofs.Pieces.{own_only}
use Rattle.whole_paths.proofs.Settling.{sides}
use Rattle.whole_paths.proofs.Clearing.{none_other, past_met}
use Rattle.whole_paths.proofs.Duties.{answered_steps, passed_steps}
use Rattle.whole_paths.proofs.Subflows.{ack_up}
use Rattle.whole_paths.proofs.Waiting.{path_far}

-- ---- duties

-- this side's end says it once both SYNs came
abbrev pub late_at : Side → Duty → Bool
late_at t (duties.Send (send_duties.SynAck s)) = same_side s t
late_at t (duties.Send (send_duties.Answer s)) = same_side s t
late_at t (duties.Send (send_duties.Again s)) = same_side s t
late_at t (duties.Send (send_duties.Acknowledge s)) = same_side s t
late_at t (duties.Send (send_duties.Resend s)) = same_side s t && not (is_side_a t)
late_at t _ = false

told_late : (t : Side) (d e : Duty) → is_told e ≡ true → (is_silent e ≡ true) ⊎ (hears_join d ≡ true) → late_at t e ≡ true → hears_join d ≡ true
told_late t d (duties.Send (send_duties.SynAck s)) told (inl silent) is = absurd (true≢false (sym silent))
told_late t d (duties.Send (send_duties.SynAck s)) told (inr joins) is = joins
told_late t d (duties.Send (send_duties.Refuse s)) told why is = absurd (true≢false (sym is))
told_late t d (duties.Ask (ask_duties.GoIdentity s)) told why is = absurd (true≢false (sym is))
told_late t d (duties.Ask (ask_duties.AckHeard s)) told why is = absurd (true≢false (sym is))
told_late t d (duties.Ask (ask_duties.FailHeard s)) told why is = absurd (true≢false (sym is))
told_late t d _ told why is = absurd (true≢false (sym told))

told_unjoined : (e : Duty) → is_told e ≡ true → hears_join e ≡ false
told_unjoined (duties.Send (send_duties.SynAck s)) told = refl
told_unjoined (duties.Send (send_duties.Refuse s)) told = refl
told_unjoined (duties.Ask (ask_duties.GoIdentity s)) told = refl
told_unjoined (duties.Ask (ask_duties.AckHeard s)) told = refl
told_unjoined (duties.Ask (ask_duties.FailHeard s)) told = refl
told_unjoined _ told = absurd (true≢false (sym told))

-- what is to be done was so before
late_back : (t s : Side) (gone : Bool) (d : Duty) (ds es : List Duty) → hears_join d ≡ false → Follows s gone d ds es → list_any (late_at t) es ≡ true → list_any (late_at t) (d ∷ ds) ≡ true
late_back t s gone d ds es none follows.goes_on is = or_right (late_at t d) (list_any (late_at t) ds) is
late_back t s gone d ds es none follows.again is = is
late_back t s gone d ds es none (follows.told treats e own other named silent) is = ⊎_elim
    (λ here. absurd (both_ways (hears_join d) none (told_late t d e named silent here)))
    (λ there. or_right (late_at t d) (list_any (late_at t) ds) there)
    (or_cases (late_at t e) (list_any (late_at t) ds) is)
late_back t s gone d ds es none (follows.left dead) is = or_right (late_at t d) (list_any (late_at t) ds) is
late_back t s gone d ds es none follows.noted is = or_right (late_at t d) (list_any (late_at t) ds) is
late_back t s gone d ds es none (follows.broken may reason) is = absurd (true≢false (sym is))
late_back t s gone d ds es none (follows.is_reset may reason) is = absurd (true≢false (sym is))
late_back t s gone d ds es none (follows.dead may dead) is = absurd (true≢false (sym is))
late_back t s gone d ds es none (follows.stopped may) is = absurd (true≢false (sym is))
late_back t s gone d ds es none (follows.over both) is = absurd (true≢false (sym is))

joins_back : (s : Side) (gone : Bool) (d : Duty) (ds es : List Duty) → Follows s gone d ds es → list_any hears_join (d ∷ ds) ≡ false → list_any hears_join es ≡ false
joins_back s gone d ds es follows.goes_on none = (or_parts (hears_join d) (list_any hears_join ds) none).1
joins_back s gone d ds es follows.again none = none
joins_back s gone d ds es (follows.told treats e own other named silent) none = or_from (hears_join e) (list_any hears_join ds) (told_unjoined e named) (or_parts (hears_join d) (list_any hears_join ds) none).1
joins_back s gone d ds es (follows.left dead) none = (or_parts (hears_join d) (list_any hears_join ds) none).1
joins_back s gone d ds es follows.noted none = (or_parts (hears_join d) (list_any hears_join ds) none).1
joins_back s gone d ds es (follows.broken may reason) none = refl
joins_back s gone d ds es (follows.is_reset may reason) none = refl
joins_back s gone d ds es (follows.dead may dead) none = refl
joins_back s gone d ds es (follows.stopped may) none = refl
joins_back s gone d ds es (follows.over both) none = refl

-- ---- what follows a copy

-- an end that has both SYNs, or opens, answers the copy or takes it
abbrev IsHeeded : Meaning → Type 0
IsHeeded means.Ignored = ⊥
IsHeeded means.Unwanted = ⊥
IsHeeded means.Kills = ⊥
IsHeeded means.Unacknowledging = ⊥
IsHeeded _ = Unit {0}

late_heard : (t s : Side) (from count : ℕ) (ds : List Duty) → list_any (late_at t) (heard_and s from count ds) ≡ list_any (late_at t) ds
late_heard t s from zero ds = refl
late_heard t s from (suc count) ds = late_heard t s (from + 1) count ds

joins_heard : (s : Side) (from count : ℕ) (ds : List Duty) → list_any hears_join (heard_and s from count ds) ≡ list_any hears_join ds
joins_heard s from zero ds = refl
joins_heard s from (suc count) ds = joins_heard s (from + 1) count ds

late_template : (t s : Side) (count : ℕ) (m : Meaning) → list_any (late_at t) (template_by false s count m) ≡ true → (same_side s t ≡ true) × IsHeeded m
late_template t s count (means.Taken position acknowledged) is = (
  ⊎_elim (λ here. here) (λ there. ⊎_elim (λ here. here) (λ none. absurd (true≢false (sym none))) (or_cases (same_side s t) false there))
      (or_cases (same_side s t) (same_side s t || false) (sym (late_heard t s 0 count (payload_came s)) ∙ is)),
  tt,
)
late_template t s count (means.Accepts acknowledged) is = (⊎_elim (λ here. here) (λ none. absurd (true≢false (sym none))) (or_cases (same_side s t) false is), tt)
late_template t s count means.Opens is = (⊎_elim (λ here. here) (λ none. absurd (true≢false (sym none))) (or_cases (same_side s t) false is), tt)
late_template t s count means.RepeatedSyn is = (⊎_elim (λ here. here) (λ none. absurd (true≢false (sym none))) (or_cases (same_side s t) false is), tt)
late_template t s count means.Outside is = (⊎_elim (λ here. here) (λ none. absurd (true≢false (sym none))) (or_cases (same_side s t) false is), tt)
late_template t s count means.Challenged is = (⊎_elim (λ here. here) (λ none. absurd (true≢false (sym none))) (or_cases (same_side s t) false is), tt)
late_template t s count means.Ahead is = (⊎_elim (λ here. here) (λ none. absurd (true≢false (sym none))) (or_cases (same_side s t) false is), tt)
late_template t s count means.Ignored is = absurd (true≢false (sym is))
late_template t s count means.Unwanted is = absurd (true≢false (sym is))
late_template t s count means.Kills is = absurd (true≢false (sym is))
late_template t s count means.Unacknowledging is = absurd (true≢false (sym is))

joins_template : (s : Side) (count : ℕ) (m : Meaning) → list_any hears_join (template_by false s count m) ≡ false
joins_template s count (means.Taken position acknowledged) = joins_heard s 0 count (payload_came s)
joins_template s count (means.Accepts acknowledged) = refl
joins_template s count means.Ignored = refl
joins_template s count _ = refl

abbrev IsFar : PathEnd → PathEnd → Type 0
IsFar e f = stage e.tcp.state ≤ stage f.tcp.state

-- where both SYNs are there then
heeded_up : (told : List KeptMapping) (answer : Outgoing) (s : Side) (now : ℕ) (h : HeardSegment) (m : Meaning) (e : PathEnd) → MeansIs (copy_of h) e.tcp m → IsHeeded m
    → IsFar e (copy_judged false told answer s now h m e) → 2 ≤ stage (copy_judged false told answer s now h m e).tcp.state
heeded_up told answer s now h means.Opens e fits heeded far = omega arith
heeded_up told answer s now h (means.Accepts n) e fits heeded far =
    let up = (ack_up n now (record (after_hearing (after_payload 1 (hint_of (items_of false s h)) (copy_of h) e.tcp)) { state = phase.Established })).state in omega (arith, up)
heeded_up told answer s now h (means.Taken pos n) e fits heeded far = let two = past_met e.tcp.state fits.0 in omega (arith, two, far)
heeded_up told answer s now h means.RepeatedSyn e fits heeded far = let two = past_met e.tcp.state fits in omega (arith, two, far)
heeded_up told answer s now h means.Outside e fits heeded far = let two = past_met e.tcp.state fits in omega (arith, two, far)
heeded_up told answer s now h means.Challenged e fits heeded far = let two = past_met e.tcp.state fits in omega (arith, two, far)
heeded_up told answer s now h means.Ahead e fits heeded far = let two = past_met e.tcp.state fits in omega (arith, two, far)
heeded_up told answer s now h means.Ignored e fits heeded far = absurd heeded
heeded_up told answer s now h means.Unwanted e fits heeded far = absurd heeded
heeded_up told answer s now h means.Kills e fits heeded far = absurd heeded
heeded_up told answer s now h means.Unacknowledging e fits heeded far = absurd heeded

-- B heard that A asks for Multipath TCP by its SYN alone
abbrev StaysAsked : PathState Carried → PathState Carried → Type 0
StaysAsked p q = (q.b.modes.capable_asked ≡ p.b.modes.capable_asked) ⊎ (2 ≤ stage q.b.tcp.state)

own_asked : (d : Duty) → side_of d ≡ B → is_event d ≡ false → hears_join d ≡ false → (writes d).own.capable_asked ≡ false
own_asked (duties.Step step_duties.Events) own other none = absurd (true≢false other)
own_asked (duties.Ask ask_duties.JoinAgain) own other none = cc
own_asked (duties.Ask (ask_duties.JoinHeard s)) own other none = absurd (true≢false none)
own_asked (duties.Send (send_duties.Update s)) own other none = refl
own_asked (duties.Silent (silent_duties.Timer s)) own other none = refl
own_asked _ own other none = refl

other_asked : (s : Side) (w : Writes) (p q : PathState Carried) → w.other ≡ nothing → OnlyAt s w p q → (end_at (peer s) q).modes.capable_asked ≡ (end_at (peer s) p).modes.capable_asked
other_asked s w p q none x =
    let only : Only nothing (end_at (peer s) p) (end_at (peer s) q) = subst (λ v. Only v (end_at (peer s) p) (end_at (peer s) q)) none (record { same = ap (λ (v : PathView Carried). v.other) x.same }) in
    unwritten false (end_at (peer s) p).modes.capable_asked (end_at (peer s) q).modes.capable_asked refl (ap (λ (v : EndView). v.capable_asked) only.same)

same_asked : (d : Duty) (p q : PathState Carried) → is_event d ≡ false → hears_join d ≡ false → OnlyAt (side_of d) (writes d) p q → q.b.modes.capable_asked ≡ p.b.modes.capable_asked
same_asked d p q other none x = ⊎_elim
    (λ own. subst (λ u. (end_at u q).modes.capable_asked ≡ (end_at u p).modes.capable_asked) own
    (unwritten (writes d).own.capable_asked (end_at (side_of d) p).modes.capable_asked (end_at (side_of d) q).modes.capable_asked (own_asked d own other none)
    (ap (λ (v : EndView). v.capable_asked) (own_only (side_of d) (writes d) p q x).same)))
    (λ away. subst (λ u. (end_at u q).modes.capable_asked ≡ (end_at u p).modes.capable_asked) away (other_asked (side_of d) (writes d) p q (none_other d other) x))
    (sides B (side_of d))

passed_asked : (d : Duty) (p : PathState Carried) → hears_join d ≡ false → (passed d p).b.modes.capable_asked ≡ p.b.modes.capable_asked
passed_asked (duties.Step step_duties.Events) p none = refl
passed_asked d p none = same_asked d p (passed d p) refl none (passes_no_more d p)

-- ---- a path

pub record PathEarly (ds : List Duty) (p : PathState Carried) : Type 0 where
  pub late : (t : Side) → list_any (late_at t) ds ≡ true → 2 ≤ stage (end_at t p).tcp.state
  pub joins : list_any hears_join ds ≡ false
  -- B heard that A asks for Multipath TCP by its SYN
  pub asked : p.b.modes.capable_asked ≡ true → 2 ≤ stage p.b.tcp.state

asked_then : (p q : PathState Carried) → IsFar p.b q.b → StaysAsked p q → (p.b.modes.capable_asked ≡ true → 2 ≤ stage p.b.tcp.state) → q.b.modes.capable_asked ≡ true → 2 ≤ stage q.b.tcp.state
asked_then p q far (inl same) low is = let two = low (sym same ∙ is) in omega (arith, two, far)
asked_then p q far (inr two) low is = two

abbrev AllFar : PathState Carried → PathState Carried → Type 0
AllFar p q = (t : Side) → IsFar (end_at t p) (end_at t q)

kept : (ds es : List Duty) (p q : PathState Carried) → AllFar p q → ((t : Side) → list_any (late_at t) es ≡ true → list_any (late_at t) ds ≡ true) → list_any hears_join es ≡ false → StaysAsked p q → PathEarly ds p → PathEarly es q
kept ds es p q far back joins asked h = record {
  late = λ t is. let low = h.late t (back t is) in let up = far t in omega (arith, low, up);
  joins = joins;
  asked = asked_then p q (far B) asked h.asked;
}

-- of what is to be done
record Agenda (es : List Duty) (q : PathState Carried) : Type 0 where
  late : (t : Side) → list_any (late_at t) es ≡ true → 2 ≤ stage (end_at t q).tcp.state
  joins : list_any hears_join es ≡ false

fresh : (es : List Duty) (q : PathState Carried) → ((t : Side) → list_any (late_at t) es ≡ false) → list_any hears_join es ≡ false → Agenda es q
fresh es q none joins = record { late = λ t is. absurd (both_ways (list_any (late_at t) es) (none t) is); joins = joins }

passed_early : (d : Duty) (ds : List Duty) (p : PathState Carried) → PathEarly (d ∷ ds) p → PathEarly ds (passed d p)
passed_early d ds p h = kept (d ∷ ds) ds p (passed d p) (λ t. (path_far p (passed d p) (passed_steps d p) t).subflow.state) (λ t is. or_right (late_at t d) (list_any (late_at t) ds) is)
    (or_parts (hears_join d) (list_any hears_join ds) h.joins).1 (inl (passed_asked d p (or_parts (hears_join d) (list_any hears_join ds) h.joins).0)) h

settled_early : (ds : List Duty) (p : PathState Carried) → PathEarly ds p → PathEarly (settled ds p).agenda (settled ds p)
settled_early [] p h = record { late = λ t is. absurd (true≢false (sym is)); joins = refl; asked = h.asked }
settled_early (d ∷ ds) p h = elim (stands d p) as (λ b. let q = (if b then with_agenda (d ∷ ds) p else settled ds (passed d p)) in PathEarly q.agenda q)
    [ true ↦ record { late = elim [ A ↦ h.late A | B ↦ h.late B ]; joins = h.joins; asked = h.asked } | false ↦ settled_early ds (passed d p) (passed_early d ds p h) ]

-- ---- events

line_early : (action : LineAction) (p : PathState Carried) → Agenda (after_line action p).agenda (after_line action p)
line_early actions.Die p = fresh _ (after_line actions.Die p) (λ t. (none t (is_dead p.a.tcp.state) (is_dead p.b.tcp.state)).0) (none A (is_dead p.a.tcp.state) (is_dead p.b.tcp.state)).1
  where
    none : (t : Side) (a b : Bool) → let es = (if a then [] else duties.Ask (ask_duties.Leave A) ∷ []) ++ ((if b then [] else duties.Ask (ask_duties.Leave B) ∷ []) ++ rest_of_turn) in
        (list_any (late_at t) es ≡ false) × (list_any hears_join es ≡ false)
    none t true true = (refl, refl)
    none t true false = (refl, refl)
    none t false true = (refl, refl)
    none t false false = (refl, refl)
line_early (actions.Prio s backup) p = fresh (emission s) (after_line (actions.Prio s backup) p) (λ t. refl) refl
line_early (actions.Announce s id) p = fresh _ (after_line (actions.Announce s id) p) (λ t. refl) refl
line_early (actions.Withdraw s id) p = fresh _ (after_line (actions.Withdraw s id) p) (λ t. refl) refl

begun_early : (r : Reply) (p : PathState Carried) → let q = join_begun r (leaves A) (emission A) p in Agenda q.agenda q
begun_early r p = elim (is_never r) as (λ b. let q = (if b then goes_on A (never_joined r p.a) (leaves A) p else goes_on A (opened_by (keys_begun r) p.a) (emission A) p) in Agenda q.agenda q)
    [ true ↦ fresh (leaves A) (goes_on A (never_joined r p.a) (leaves A) p) (λ t. refl) refl | false ↦ fresh (emission A) (goes_on A (opened_by (keys_begun r) p.a) (emission A) p) (λ t. refl) refl ]

own_late : (s t : Side) → same_side s t ≡ true → (f : PathEnd) (es : List Duty) (p : PathState Carried) → 2 ≤ stage f.tcp.state → 2 ≤ stage (end_at t (goes_on s f es p)).tcp.state
own_late A A is f es p h = h
own_late B B is f es p h = h
own_late A B is f es p h = absurd (true≢false (sym is))
own_late B A is f es p h = absurd (true≢false (sym is))

far_own : (s : Side) (f : PathEnd) (es : List Duty) (p : PathState Carried) → AllFar p (goes_on s f es p) → IsFar (end_at s p) f
far_own A f es p far = far A
far_own B f es p far = far B

told_early : (now : ℕ) (s : Side) (h : HeardSegment) (p : PathState Carried) → is_joined p.profile ≡ false → AllFar p (told_at now s h p) → Agenda (told_at now s h p).agenda (told_at now s h p)
told_early now s h p = by (is_joined p.profile)
  where
    e : PathEnd
    e = end_at s p

    by : (joined : Bool) → joined ≡ false
        → let q = goes_on s (copy_judged joined (held_of p.profile s h) (reset_for p.profile s h) s now h (taken_as (judged_in joined s h (end_at s p))) (end_at s p))
        (template_of joined s (items_of joined s h) (judged_in joined s h (end_at s p))) p in
        AllFar p q → Agenda q.agenda q
    by true is = absurd (true≢false is)
    by false is = λ far.
        let m : Meaning = meaning_of (copy_of h) (end_at s p).tcp in
        let f : PathEnd = copy_judged false (held_of p.profile s h) (reset_for p.profile s h) s now h m (end_at s p) in
        let es : List Duty = template_by false s (length (items_of false s h)) m in
        record {
          late = λ t marked.
              let row = late_template t s (length (items_of false s h)) m marked in
              own_late s t row.0 f es p (heeded_up (held_of p.profile s h) (reset_for p.profile s h) s now h m (end_at s p) (means_so (copy_of h) (end_at s p).tcp) row.1 (far_own s f es p far));
          joins = joins_template s (length (items_of false s h)) m;
        }

copy_early : (s : Side) (o : Option HeardSegment) (p : PathState Carried) → is_joined p.profile ≡ false → AllFar p (copy_heard s o p) → Agenda (copy_heard s o p).agenda (copy_heard s o p)
copy_early s None p first far = fresh (emission s) (copy_heard s None p) (λ t. refl) refl
copy_early s (Some x) p first far = told_early p.clock s (options_heard (end_at s p) x) p first far

fired_early : (s : Side) (p : PathState Carried) (b : Bool) → (s ≡ B → 2 ≤ stage p.b.tcp.state) → (q : PathState Carried) → AllFar p q → Agenda (template_fired b s) q
fired_early s p true up q far = fresh (template_fired true s) q (λ t. refl) refl
fired_early s p false up q far = record { late = λ t marked. by s t up (⊎_elim (λ here. here) (λ none. absurd (true≢false (sym none))) (or_cases (same_side s t && not (is_side_a t)) false marked)); joins = refl }
  where
    by : (s t : Side) → (s ≡ B → 2 ≤ stage p.b.tcp.state) → (same_side s t && not (is_side_a t)) ≡ true → 2 ≤ stage (end_at t q).tcp.state
    by A A up is = absurd (true≢false (sym is))
    by A B up is = absurd (true≢false (sym is))
    by B A up is = absurd (true≢false (sym is))
    by B B up is = let low = up refl in let more = far B in omega (arith, low, more)

-- an end of B's on which a timer runs out has both SYNs
timed_up : (p : PathState Carried) {ds : List Duty} → IsOfB p.b.tcp.state → (p.b.modes.capable_asked ≡ true → 2 ≤ stage p.b.tcp.state) → PathIs ds p → is_up p.b.tcp ≡ true → 2 ≤ stage p.b.tcp.state
timed_up p b asked h up = ⊎_elim asked unmet h.b.says
  where
    unmet : Unmet (parts_of p.b) → 2 ≤ stage p.b.tcp.state
    unmet none = ⊎_elim (λ still. absurd (both_ways (is_up p.b.tcp) still up)) (λ (opens : Opens (parts_of p.b)). by p.b.tcp.state b opens.state) none.still
      where
        by : (x : State) → IsOfB x → is_opening x ≡ true → 2 ≤ stage x
        by x (of_b.listening is) opens = absurd (true≢false (sym opens ∙ ap is_opening is))
        by x (of_b.half_open is) opens = absurd (true≢false (sym opens ∙ ap is_opening is))
        by x (of_b.past high) opens = omega (arith, high)

event_early : (o : Option Event) (r : Reply) (p : PathState Carried) → is_joined p.profile ≡ false → (is_up p.b.tcp ≡ true → 2 ≤ stage p.b.tcp.state) → next_event p ≡ o → AllFar p (happens_if values o r p)
    → Agenda (happens_if values o r p).agenda (happens_if values o r p)
event_early None r p first b next far = fresh rest_of_turn (happens_if values None r p) (λ t. refl) refl
event_early (Some (happenings.Joins tick)) r p first b next far = begun_early r (record (at_tick tick p) { joined_at = None })
event_early (Some (happenings.Takes line)) r p first b next far = line_early line.action (record (at_tick line.tick p) { lines = tail_of p.lines })
event_early (Some (happenings.Arrives due)) r p first b next far =
    copy_early due.to (heard_in values due.to (arriving due p.link) p) (record (at_tick due.tick p) { link = after_delivery due p.link }) first far
event_early (Some (happenings.Fires s tick)) r p first b next far =
    fired_early s p (is_sixth (end_at s p).tcp) (λ own. b (subst (λ u. is_up (end_at u p).tcp ≡ true) own (next_happens p (happenings.Fires s tick) next))) (happens_if values (Some (happenings.Fires s tick)) r p) far

-- ---- what an event tells B

died_asked : (b : Bool) (e : PathEnd) → (if b then e else died e).modes.capable_asked ≡ e.modes.capable_asked
died_asked true e = refl
died_asked false e = refl

goes_asked : (s : Side) (f : PathEnd) (ds : List Duty) (p : PathState Carried) → f.modes.capable_asked ≡ (end_at s p).modes.capable_asked → (goes_on s f ds p).b.modes.capable_asked ≡ p.b.modes.capable_asked
goes_asked A f ds p is = refl
goes_asked B f ds p is = is

line_asked : (action : LineAction) (p : PathState Carried) → (after_line action p).b.modes.capable_asked ≡ p.b.modes.capable_asked
line_asked actions.Die p = died_asked (is_dead p.b.tcp.state) p.b
line_asked (actions.Prio s backup) p = goes_asked s (with_priority backup (end_at s p)) (emission s) p refl
line_asked (actions.Announce s id) p = refl
line_asked (actions.Withdraw s id) p = refl

-- a copy that isn't the SYN tells nothing of it
judged_asked : (told : List KeptMapping) (answer : Outgoing) (s : Side) (now : ℕ) (h : HeardSegment) (m : Meaning) (e : PathEnd)
    → ((copy_judged false told answer s now h m e).modes.capable_asked ≡ e.modes.capable_asked) ⊎ (2 ≤ stage (copy_judged false told answer s now h m e).tcp.state)
judged_asked told answer s now h means.Opens e = inr (omega arith)
judged_asked told answer s now h _ e = inl refl

told_asked : (now : ℕ) (s : Side) (h : HeardSegment) (p : PathState Carried) → is_joined p.profile ≡ false → StaysAsked p (told_at now s h p)
told_asked now s h p = by (is_joined p.profile)
  where
    by : (joined : Bool) → joined ≡ false
        → StaysAsked p (goes_on s (copy_judged joined (held_of p.profile s h) (reset_for p.profile s h) s now h (taken_as (judged_in joined s h (end_at s p))) (end_at s p))
        (template_of joined s (items_of joined s h) (judged_in joined s h (end_at s p))) p)
    by true is = absurd (true≢false is)
    by false is = at s (template_by false s (length (items_of false s h)) (meaning_of (copy_of h) (end_at s p).tcp))
        (copy_judged false (held_of p.profile s h) (reset_for p.profile s h) s now h (meaning_of (copy_of h) (end_at s p).tcp) (end_at s p))
        (judged_asked (held_of p.profile s h) (reset_for p.profile s h) s now h (meaning_of (copy_of h) (end_at s p).tcp) (end_at s p))
      where
        at : (s : Side) (ds : List Duty) (f : PathEnd) → (f.modes.capable_asked ≡ (end_at s p).modes.capable_asked) ⊎ (2 ≤ stage f.tcp.state) → StaysAsked p (goes_on s f ds p)
        at A ds f x = inl refl
        at B ds f x = x

event_asked : (o : Option Event) (r : Reply) (p : PathState Carried) → is_joined p.profile ≡ false → StaysAsked p (happens_if values o r p)
event_asked None r p first = inl refl
event_asked (Some (happenings.Joins tick)) r p first = by (is_never r)
  where
    x : PathState Carried
    x = record (at_tick tick p) { joined_at = None }

    by : (b : Bool) → StaysAsked p (if b then goes_on A (never_joined r x.a) (leaves A) x else goes_on A (opened_by (keys_begun r) x.a) (emission A) x)
    by true = inl refl
    by false = inl refl
event_asked (Some (happenings.Takes line)) r p first = inl (line_asked line.action (record (at_tick line.tick p) { lines = tail_of p.lines }))
event_asked (Some (happenings.Arrives due)) r p first = by (heard_in values due.to (arriving due p.link) p)
  where
    q : PathState Carried
    q = record (at_tick due.tick p) { link = after_delivery due p.link }

    by : (o : Option HeardSegment) → StaysAsked p (copy_heard due.to o q)
    by None = inl refl
    by (Some x) = told_asked q.clock due.to (options_heard (end_at due.to q) x) q first
event_asked (Some (happenings.Fires s tick)) r p first = let q : PathState Carried = at_tick tick p in inl (goes_asked s (after_firing q.clock (end_at s q)) (template_fired (is_sixth (end_at s q).tcp) s) q refl)

-- ---- a step

answered_early : (d : Duty) (ds : List Duty) (r : Reply) (p : PathState Carried) → is_joined p.profile ≡ false → (is_event d ≡ true → is_up p.b.tcp ≡ true → 2 ≤ stage p.b.tcp.state) → let x : PathState Carried = with_agenda (d ∷ ds) p in
    let q : PathState Carried = answered values d r x in AllFar x q → PathEarly (d ∷ ds) x → PathEarly q.agenda q
answered_early (duties.Step step_duties.Events) ds r p first b far h =
    let x : PathState Carried = with_agenda (duties.Step step_duties.Events ∷ ds) p in let q : PathState Carried = happens_if values (next_event x) r x in
    let agenda = event_early (next_event x) r x first (b refl) refl far in
    record { late = agenda.late; joins = agenda.joins; asked = asked_then x q (far B) (event_asked (next_event x) r x first) h.asked }
answered_early d ds r p first b far h =
    let x : PathState Carried = with_agenda (d ∷ ds) p in let q : PathState Carried = answered values d r x in
    let follow = answered_follows values d ds r p in
    kept (d ∷ ds) q.agenda x q far (λ t is. late_back t (side_of d) _ d ds q.agenda (or_parts (hears_join d) (list_any hears_join ds) h.joins).0 follow is) (joins_back (side_of d) _ d ds q.agenda follow h.joins)
    (inl (same_asked d x q refl (or_parts (hears_join d) (list_any hears_join ds) h.joins).0 (writes_no_more values d r x))) h

-- an event comes to no end that treats the SYN/ACK, nor sends its SYN again
events_now : (p : PathState Carried) → IsOfB p.b.tcp.state → (p.b.modes.capable_asked ≡ true → 2 ≤ stage p.b.tcp.state) → Holds p → (d : Duty) (ds : List Duty) → p.agenda ≡ d ∷ ds → is_event d ≡ true
    → is_up p.b.tcp ≡ true → 2 ≤ stage p.b.tcp.state
events_now p b asked (Holds.Now q h) d ds is event up = timed_up p b asked h up
events_now p b asked (Holds.Next e es q between now calm does passes) d ds is event up =
    absurd (never e between.duty (subst (λ (x : Duty). is_event x ≡ true) (same_head d e ds es (sym is ∙ now)) event))
  where
    same_head : (d e : Duty) (ds es : List Duty) → d ∷ ds ≡ e ∷ es → d ≡ e
    same_head d e ds es equal = cc

    never : (e : Duty) → is_between e ≡ true → is_event e ≡ true → ⊥
    never (duties.Step step_duties.Events) between event = true≢false (sym between)
    never _ between event = true≢false (sym event)

-- ---- a turn

pub takes_early : (r : Reply) (p : PathState Carried) → is_joined p.profile ≡ false → IsOfB p.b.tcp.state → Holds p → PathEarly p.agenda p → PathEarly (takes values r p).agenda (takes values r p)
takes_early r p first b holds h = by p.agenda refl h
  where
    by : (ds : List Duty) → p.agenda ≡ ds → PathEarly ds (with_agenda ds p) → PathEarly (takes values r (with_agenda ds p)).agenda (takes values r (with_agenda ds p))
    by [] is h = h
    by (d ∷ ds) is h =
        let x : PathState Carried = with_agenda (d ∷ ds) p in let q : PathState Carried = answered values d r x in
        settled_early q.agenda q (answered_early d ds r p first (events_now p b h.asked holds d ds is) (λ t. (path_far x q (answered_steps values d r x) t).subflow.state) h)

pub begins_early : (p : PathState Carried) → (p.b.modes.capable_asked ≡ true → 2 ≤ stage p.b.tcp.state) → PathEarly (settled start_of_turn (with_agenda start_of_turn p)).agenda (settled start_of_turn (with_agenda start_of_turn p))
begins_early p asked = let x : PathState Carried = with_agenda start_of_turn p in settled_early start_of_turn x (record { late = λ t is. absurd (true≢false (sym is)); joins = refl; asked = asked })
