-- RCV.NXT of an end rises only behind a copy that the end took: what holds of the agenda by each duty.
use Rattle.std.proofs.Common.{◌≡◌, refl, sym, subst, ap, ◌∙◌, ◌⊎◌, inl, inr, ⊎_elim, ℕ, zero, suc, ◌+◌, ◌≤◌, ◌||◌, arith, Bool, true, false, true≢false, if◌then◌else◌, Option, Some, None, List, [], ◌∷◌, ◌++◌, length}
use Rattle.std.specs.List.{list_any, slice_get}
use Rattle.std.proofs.lemmas.Bool.{both_ways, or_cases, or_left, or_right}
use Rattle.std.proofs.lemmas.Option.{same_Some}
use Rattle.path_segments.specs.Heard.{HeardSegment}
use Rattle.sides.specs.declared.side.Side.{Side}
use Rattle.sides.specs.declared.side.Side.TheVariants.{A, B}
use Rattle.link_script.specs.Places.{same_side}
use Rattle.link_model.specs.Steps.{after_delivery, arriving}
use Rattle.subflow_tcp.specs.Expiring.{is_sixth}
use Rattle.subflow_tcp.specs.Judging.{meaning_of}
use Rattle.subflow_tcp.specs.States.{is_dead}
use Rattle.subflow_tcp.specs.declared.verdicts.Meaning.{Meaning}
use Rattle.subflow_tcp.specs.declared.verdicts.Meaning.TheVariants as means
use Rattle.subflow_recv.specs.Receiving.{Receiving}
use Rattle.actor_desk.specs.declared.ask.Reply.{Reply}
use Rattle.actor_desk.specs.Words.{tail_of}
use Rattle.path_agenda.specs.Agenda.{emission, heard_and, leaves, rest_of_turn, start_of_turn}
use Rattle.path_agenda.specs.declared.duty.Duty.{Duty}
use Rattle.path_agenda.specs.declared.duty.Duty.TheVariants as duties
use Rattle.path_agenda.specs.declared.duty.AskDuty.TheVariants as ask_duties
use Rattle.path_agenda.specs.declared.duty.SilentDuty.TheVariants as silent_duties
use Rattle.path_agenda.specs.declared.duty.StepDuty.TheVariants as step_duties
use Rattle.path_store.specs.declared.lines.LineAction.{LineAction}
use Rattle.path_store.specs.declared.lines.LineAction.TheVariants as actions
use Rattle.path_core.specs.Arrival.{after_judged, copy_heard, copy_of, heard_in, judged_in, template_judged}
use Rattle.path_core.specs.Deliver.{after_keep}
use Rattle.path_core.specs.Duties.{answered, passed, stands}
use Rattle.path_core.specs.End.{PathEnd}
use Rattle.path_core.specs.Events.{after_line, happens_if, next_event}
use Rattle.path_core.specs.Judged.{taken_as}
use Rattle.path_core.specs.MpJoin.{is_joined, is_never, keys_begun, never_joined, opened_by}
use Rattle.path_core.specs.OptionsIn.{items_of, options_heard}
use Rattle.path_core.specs.Start.{waiting_path}
use Rattle.path_core.specs.State.{PathState, at_tick, end_at, goes_on, with_agenda}
use Rattle.path_core.specs.Steps.{begins_turn, next_round, settled, takes}
use Rattle.path_core.specs.Timer.{template_fired}
use Rattle.path_core.specs.Values.{Carried, values}
use Rattle.path_core.specs.declared.events.Event.{Event}
use Rattle.path_core.specs.declared.events.Event.TheVariants as happenings
use Rattle.path_core.specs.declared.judged.Judged.{Judged}
use Rattle.path_core.specs.declared.judged.Judged.TheVariants as judged
use Rattle.path_core.proofs.Judgements.{judged_taken}
use Rattle.world_laws.specs.declared.member.Member.TheVariants.{App, Path}
use Rattle.world_laws.specs.Actors.{Actor, ActorCrew, member_next, member_takes}
use Rattle.world_laws.specs.Members.{HoldsOfKind}
use Rattle.world_laws.specs.Openings.{PathPlan, Start, opened_world, path_begins}
use Rattle.world_laws.specs.RoundDone.{reached}
use Rattle.world_laws.specs.StampedBooks.{answer_to}
use Rattle.world_laws.specs.Worlds.{Turn, WorldState, after_turn}
use Rattle.world_laws.specs.Writes.{side_of}
use Rattle.world_laws.proofs.Rounds.Lifting.{opened_lifted}
use Rattle.world_laws.proofs.Writes.Steps.{settled_lasts}
use Rattle.whole_paths.specs.AgendaSteps.{Follows, is_gone, is_told}
use Rattle.whole_paths.specs.AgendaSteps.{Follows as follows}
use Rattle.whole_paths.specs.AsFar.{stage}
use Rattle.whole_paths.specs.EdgeRises.{EachRiseEndsTheRow, IsHeardNow, EdgesWaitForTheHandshake}
use Rattle.whole_paths.specs.ExpiriesInARow.{RowGoesOn, in_a_row}
use Rattle.whole_paths.specs.ExpiriesInARow.{RowGoesOn as row}
use Rattle.whole_paths.proofs.Agendas.{answered_follows, own_end}
use Rattle.whole_paths.proofs.ByTurns.{Of, OfFirst, each_first_moment}
use Rattle.whole_paths.proofs.ComingCopies.{as_ends}
use Rattle.whole_paths.proofs.Duties.{answered_steps, passed_steps}
use Rattle.whole_paths.proofs.ExpiriesInARow.{BothSame, same_lasts, takes_row}
use Rattle.whole_paths.proofs.MoreOwed.{answered_edge, away_edge, event_lives, kept_edge}
use Rattle.whole_paths.proofs.Moving.{passed_other_recv}
use Rattle.whole_paths.proofs.Opening.{HasSyn, meaning_has, means_up}
use Rattle.whole_paths.proofs.Passing.{IsReady, Ready, each_is_ready}
use Rattle.whole_paths.proofs.Passing.{Ready as ready}
use Rattle.whole_paths.proofs.Pieces.{is_event}
use Rattle.whole_paths.proofs.Handshaking.{begins_far, next_far, takes_far}
use Rattle.whole_paths.proofs.Settling.{sides}
use Rattle.whole_paths.proofs.ThereInTime.{dead_stage}
use Rattle.whole_paths.proofs.Turns.{turn_each}
use Rattle.whole_paths.proofs.Unpassed.{passed_holds}
use Rattle.whole_paths.proofs.Waiting.{Far, gone_stays, path_far}

-- ---- duties

-- the duty moves RCV.NXT of this side's end, over octets or past its peer's FIN
abbrev passes_at : Side → Duty → Bool
passes_at t (duties.Ask (ask_duties.Edge s)) = same_side s t
passes_at t (duties.Silent (silent_duties.PassFin s)) = same_side s t
passes_at t _ = false

abbrev passes_in : Side → List Duty → Bool
passes_in t ds = list_any (passes_at t) ds

itself : (s : Side) → same_side s s ≡ true
itself A = refl
itself B = refl

same_so : (s t : Side) → same_side s t ≡ true → s ≡ t
same_so A A is = refl
same_so B B is = refl
same_so A B is = absurd (true≢false (sym is))
same_so B A is = absurd (true≢false (sym is))

told_none : (t : Side) (e : Duty) → is_told e ≡ true → passes_at t e ≡ true → ⊥
told_none t (duties.Ask (ask_duties.Edge s)) told is = true≢false (sym told)
told_none t (duties.Silent (silent_duties.PassFin s)) told is = true≢false (sym told)
told_none t _ told is = true≢false (sym is)

-- what is to be done was so before
back : (t s : Side) (gone : Bool) (d : Duty) (ds es : List Duty) → Follows s gone d ds es → passes_in t es ≡ true → passes_in t (d ∷ ds) ≡ true
back t s gone d ds es follows.goes_on is = or_right (passes_at t d) (passes_in t ds) is
back t s gone d ds es follows.again is = is
back t s gone d ds es (follows.told treats e own other named silent) is = ⊎_elim
    (λ here. absurd (told_none t e named here))
    (λ there. or_right (passes_at t d) (passes_in t ds) there)
    (or_cases (passes_at t e) (passes_in t ds) is)
back t s gone d ds es (follows.left dead) is = or_right (passes_at t d) (passes_in t ds) is
back t s gone d ds es follows.noted is = or_right (passes_at t d) (passes_in t ds) is
back t s gone d ds es (follows.broken may reason) is = absurd (true≢false (sym is))
back t s gone d ds es (follows.is_reset may reason) is = absurd (true≢false (sym is))
back t s gone d ds es (follows.dead may dead) is = absurd (true≢false (sym is))
back t s gone d ds es (follows.stopped may) is = absurd (true≢false (sym is))
back t s gone d ds es (follows.over both) is = absurd (true≢false (sym is))

-- ---- an end

-- dead, or heard
abbrev IsOver : PathEnd → Type 0
IsOver e = (is_gone e ≡ true) ⊎ IsHeardNow e

pub record Goes (e f : PathEnd) : Type 0 where
  pub stays : (f.tcp.recv.edge ≡ e.tcp.recv.edge) ⊎ IsOver f
  pub over : IsOver e → IsOver f

over_on : (e f : PathEnd) → Far e f → (in_a_row e ≡ 0 → in_a_row f ≡ 0) → IsOver e → IsOver f
over_on e f far row (inl dead) = inl (gone_stays e f far dead)
over_on e f far row (inr h) = inr (record { past = let high = h.past in let up = far.subflow.state in omega (arith, high, up); none = row h.none })

same_goes : (e : PathEnd) → Goes e e
same_goes e = record { stays = inl refl; over = λ h. h }

goes_then : (e f g : PathEnd) → Goes e f → Goes f g → Goes e g
goes_then e f g x y = record {
  stays = ⊎_elim
      (λ same. ⊎_elim (λ first. inl (same ∙ first)) (λ over. inr (y.over over)) x.stays)
      (λ over. inr over)
      y.stays;
  over = λ h. y.over (x.over h);
}

-- ---- duties that are passed

-- RCV.NXT of the end of this duty's side
own_stays : (d : Duty) (p : PathState Carried) → passes_at (side_of d) d ≡ false → (end_at (side_of d) (passed d p)).tcp.recv.edge ≡ (end_at (side_of d) p).tcp.recv.edge
own_stays (duties.Silent (silent_duties.Keep s)) p none = ap (λ (f : PathEnd). f.tcp.recv.edge) (own_end s (after_keep s (end_at s p)) p.a p.b) ∙ kept_edge s (end_at s p)
own_stays (duties.Silent (silent_duties.PassFin s)) p none = absurd (true≢false (sym (itself s) ∙ none))
own_stays d p none = passed_holds (λ v. v.edge ≡ (end_at (side_of d) p).tcp.recv.edge) (λ n v h. h) ⊥ (λ may to v h. absurd may) d p refl refl

passed_stays : (t : Side) (d : Duty) (p : PathState Carried) → passes_at t d ≡ false → (end_at t (passed d p)).tcp.recv.edge ≡ (end_at t p).tcp.recv.edge
passed_stays t d p = ⊎_elim
    (λ own. subst (λ u. passes_at u d ≡ false → (end_at u (passed d p)).tcp.recv.edge ≡ (end_at u p).tcp.recv.edge) own (own_stays d p))
    (λ away. subst (λ u. passes_at u d ≡ false → (end_at u (passed d p)).tcp.recv.edge ≡ (end_at u p).tcp.recv.edge) away (λ none. ap (λ (v : Receiving). v.edge) (passed_other_recv d p)))
    (sides t (side_of d))

passed_goes : (t : Side) (d : Duty) (p : PathState Carried) → (passes_at t d ≡ true → IsOver (end_at t p)) → Goes (end_at t p) (end_at t (passed d p))
passed_goes t d p h = record { stays = by (passes_at t d) refl; over = on }
  where
    on : IsOver (end_at t p) → IsOver (end_at t (passed d p))
    on = over_on (end_at t p) (end_at t (passed d p)) (path_far p (passed d p) (passed_steps d p) t) (λ none. same_lasts.passes d p t ∙ none)

    by : (b : Bool) → passes_at t d ≡ b → ((end_at t (passed d p)).tcp.recv.edge ≡ (end_at t p).tcp.recv.edge) ⊎ IsOver (end_at t (passed d p))
    by true is = inr (on (h is))
    by false none = inl (passed_stays t d p none)

-- what is known of the duties that are left
abbrev Left : Side → List Duty → PathState Carried → Type 0
Left t ds p = passes_in t ds ≡ true → IsOver (end_at t p)

record Settled (t : Side) (p q : PathState Carried) : Type 0 where
  goes : Goes (end_at t p) (end_at t q)
  left : Left t q.agenda q

settled_goes : (t : Side) (ds : List Duty) (p : PathState Carried) → Left t ds p → Settled t p (settled ds p)
settled_goes t [] p h = record { goes = same_goes (end_at t p); left = λ is. absurd (true≢false (sym is)) }
settled_goes t (d ∷ ds) p h = by (stands d p)
    (settled_goes t ds (passed d p) (λ is. first.over (h (or_right (passes_at t d) (passes_in t ds) is))))
  where
    first : Goes (end_at t p) (end_at t (passed d p))
    first = passed_goes t d p (λ is. h (or_left (passes_at t d) (passes_in t ds) is))

    by : (b : Bool) → Settled t (passed d p) (settled ds (passed d p)) → Settled t p (if b then with_agenda (d ∷ ds) p else settled ds (passed d p))
    by true rest = record { goes = same_goes (end_at t p); left = h }
    by false rest = record { goes = goes_then (end_at t p) (end_at t (passed d p)) (end_at t (settled ds (passed d p))) first rest.goes; left = rest.left }

-- ---- duties that are answered

head_so : (d e : Duty) (ds es : List Duty) → d ∷ ds ≡ e ∷ es → d ≡ e
head_so d e ds es is = cc

module _ (t : Side) (d : Duty) (ds : List Duty) (r : Reply) (p : PathState Carried) where
  abbrev x : PathState Carried
  x = with_agenda (d ∷ ds) p

  abbrev q : PathState Carried
  q = answered values d r x

  -- the row doesn't begin anew
  row_stays : is_event d ≡ false → in_a_row (end_at t x) ≡ 0 → in_a_row (end_at t q) ≡ 0
  row_stays other none = by (takes_row values r x t)
    where
      same : in_a_row (end_at t (settled q.agenda q)) ≡ in_a_row (end_at t q)
      same = settled_lasts BothSame same_lasts q.agenda q t

      by : RowGoesOn t x (takes values r x) → in_a_row (end_at t q) ≡ 0
      by (row.no_more few) = omega (arith, few, same, none)
      by (row.one_more tick out less one) = absurd (true≢false (sym (ap is_event (head_so d (duties.Step step_duties.Events) ds out.others out.first)) ∙ other))

  answered_over : is_event d ≡ false → IsOver (end_at t x) → IsOver (end_at t q)
  answered_over other = over_on (end_at t x) (end_at t q) (path_far x q (answered_steps values d r x) t) (row_stays other)

answered_stays : (t : Side) (d : Duty) (ds : List Duty) (r : Reply) (p : PathState Carried) → is_event d ≡ false → passes_at t d ≡ false
    → (end_at t (answered values d r (with_agenda (d ∷ ds) p))).tcp.recv.edge ≡ (end_at t p).tcp.recv.edge
answered_stays t (duties.Ask (ask_duties.Edge s)) ds r p other none =
    let d : Duty = duties.Ask (ask_duties.Edge s) in let q : PathState Carried = answered values d r (with_agenda (d ∷ ds) p) in ⊎_elim
    (λ own. absurd (true≢false (sym (subst (λ u. same_side s u ≡ true) own (itself s)) ∙ none)))
    (λ away. subst (λ u. (end_at u q).tcp.recv.edge ≡ (end_at u p).tcp.recv.edge) away (away_edge d r (with_agenda (d ∷ ds) p) refl).same)
    (sides t s)
answered_stays t d ds r p other none = (answered_edge t d r (with_agenda (d ∷ ds) p) other refl).same

answered_goes : (t : Side) (d : Duty) (ds : List Duty) (r : Reply) (p : PathState Carried) → is_event d ≡ false → Left t (d ∷ ds) p → let q = answered values d r (with_agenda (d ∷ ds) p) in Settled t p q
answered_goes t d ds r p other h = record {
  goes = record { stays = by (passes_at t d) refl; over = on };
  left = λ is. on (h (back t (side_of d) _ d ds (answered values d r (with_agenda (d ∷ ds) p)).agenda (follow d other) is));
}
  where
    on : IsOver (end_at t p) → IsOver (end_at t (answered values d r (with_agenda (d ∷ ds) p)))
    on = answered_over t d ds r p other

    by : (b : Bool) → passes_at t d ≡ b → let q = answered values d r (with_agenda (d ∷ ds) p) in ((end_at t q).tcp.recv.edge ≡ (end_at t p).tcp.recv.edge) ⊎ IsOver (end_at t q)
    by true is = inr (on (h (or_left (passes_at t d) (passes_in t ds) is)))
    by false none = inl (answered_stays t d ds r p other none)

    follow : (d : Duty) → is_event d ≡ false → let q = answered values d r (with_agenda (d ∷ ds) p) in Follows (side_of d) (is_gone (end_at (side_of d) q)) d ds q.agenda
    follow (duties.Step step_duties.Events) other = absurd (true≢false other)
    follow d other = answered_follows values d ds r p

-- ---- an event

none_heard : (t s : Side) (from count : ℕ) (ds : List Duty) → passes_in t (heard_and s from count ds) ≡ passes_in t ds
none_heard t s from zero ds = refl
none_heard t s from (suc count) ds = none_heard t s (from + 1) count ds

-- the copy that passes is taken
data IsTaken (v : Judged) : Type 0 where
  taken : (pos n : ℕ) → v ≡ judged.As (means.Taken pos n) → IsTaken v

payload_own : (t s : Side) → (same_side s t || (same_side s t || false)) ≡ true → same_side s t ≡ true
payload_own t s is = ⊎_elim (λ own. own) (λ rest. ⊎_elim (λ own. own) (λ none. absurd (true≢false (sym none))) (or_cases (same_side s t) false rest)) (or_cases (same_side s t) (same_side s t || false) is)

template_passes : (t s : Side) (joined : Bool) (count : ℕ) (v : Judged) → passes_in t (template_judged joined s count v) ≡ true → (same_side s t ≡ true) × IsTaken v
template_passes t s joined count (judged.As (means.Taken pos n)) is = (payload_own t s (sym (none_heard t s 0 count _) ∙ is), taken pos n refl)
template_passes t s true count (judged.As (means.Accepts n)) is = absurd (true≢false (sym is))
template_passes t s false count (judged.As (means.Accepts n)) is = absurd (true≢false (sym is))
template_passes t s joined count (judged.As means.Ignored) is = absurd (true≢false (sym is))
template_passes t s joined count (judged.As means.Unwanted) is = absurd (true≢false (sym is))
template_passes t s joined count (judged.As means.Opens) is = absurd (true≢false (sym is))
template_passes t s joined count (judged.As means.RepeatedSyn) is = absurd (true≢false (sym is))
template_passes t s joined count (judged.As means.Outside) is = absurd (true≢false (sym is))
template_passes t s joined count (judged.As means.Kills) is = absurd (true≢false (sym is))
template_passes t s joined count (judged.As means.Challenged) is = absurd (true≢false (sym is))
template_passes t s joined count (judged.As means.Unacknowledging) is = absurd (true≢false (sym is))
template_passes t s joined count (judged.As means.Ahead) is = absurd (true≢false (sym is))
template_passes t s joined count judged.Asks is = absurd (true≢false (sym is))
template_passes t s joined count judged.Lacks is = absurd (true≢false (sym is))
template_passes t s joined count judged.Forged is = absurd (true≢false (sym is))

copy_left : (t s : Side) (o : Option HeardSegment) (p : PathState Carried) → Left t (copy_heard s o p).agenda (copy_heard s o p)
copy_left t s None p is = absurd (true≢false (sym is))
copy_left t s (Some segment) p is =
    let row = template_passes t s (is_joined p.profile) (length (items_of (is_joined p.profile) s h)) v is in
    subst (λ u. IsOver (end_at u (copy_heard s (Some segment) p))) (same_so s t row.0) (subst IsOver (sym (own_end s (after_judged p.profile s p.clock h v e) p.a p.b)) (by v refl row.1))
  where
    e : PathEnd
    e = end_at s p

    h : HeardSegment
    h = options_heard e segment

    v : Judged
    v = judged_in (is_joined p.profile) s h e

    has : HasSyn e.tcp.state (taken_as v)
    has = judged_taken h.rst (items_of (is_joined p.profile) s h) e (λ m. HasSyn e.tcp.state m) tt (is_joined p.profile) (meaning_of (copy_of h) e.tcp) (meaning_has e.tcp.state (copy_of h) e.tcp)

    by : (w : Judged) → v ≡ w → IsTaken w → IsOver (after_judged p.profile s p.clock h v e)
    by w same (taken pos n so) =
        let m : Meaning = means.Taken pos n in
        subst (λ (j : Judged). IsOver (after_judged p.profile s p.clock h j e)) (sym (same ∙ so))
        (inr (record { past = means_up p.profile s p.clock h e m (subst (λ (j : Judged). HasSyn e.tcp.state (taken_as j)) (same ∙ so) has); none = as_ends p.profile s p.clock h e m refl }))

line_left : (t : Side) (action : LineAction) (p : PathState Carried) → passes_in t (after_line action p).agenda ≡ false
line_left t actions.Die p = none (is_dead p.a.tcp.state) (is_dead p.b.tcp.state)
  where
    none : (a b : Bool) → passes_in t ((if a then [] else duties.Ask (ask_duties.Leave A) ∷ []) ++ ((if b then [] else duties.Ask (ask_duties.Leave B) ∷ []) ++ rest_of_turn)) ≡ false
    none true true = refl
    none true false = refl
    none false true = refl
    none false false = refl
line_left t (actions.Prio s backup) p = refl
line_left t (actions.Announce s id) p = refl
line_left t (actions.Withdraw s id) p = refl

event_left : (t : Side) (o : Option Event) (r : Reply) (p : PathState Carried) → Left t (happens_if values o r p).agenda (happens_if values o r p)
event_left t None r p = λ is. absurd (true≢false (sym is))
event_left t (Some (happenings.Joins tick)) r p = by (is_never r)
  where
    y : PathState Carried
    y = record (at_tick tick p) { joined_at = None }

    by : (b : Bool) → let q = (if b then goes_on A (never_joined r y.a) (leaves A) y else goes_on A (opened_by (keys_begun r) y.a) (emission A) y) in Left t q.agenda q
    by true is = absurd (true≢false (sym is))
    by false is = absurd (true≢false (sym is))
event_left t (Some (happenings.Takes line)) r p = λ is. absurd (both_ways _ (line_left t line.action (record (at_tick line.tick p) { lines = tail_of p.lines })) is)
event_left t (Some (happenings.Arrives due)) r p =
    copy_left t due.to (heard_in values due.to (arriving due p.link) p) (record (at_tick due.tick p) { link = after_delivery due p.link })
event_left t (Some (happenings.Fires s tick)) r p = λ is. absurd (fired (is_sixth (end_at s p).tcp) is)
  where
    fired : (b : Bool) → passes_in t (template_fired b s) ≡ true → ⊥
    fired true is = true≢false (sym is)
    fired false is = true≢false (sym is)

-- RCV.NXT stays, or the end is dead
event_stays : (t : Side) (ds : List Duty) (r : Reply) (p : PathState Carried) → Ready t (duties.Step step_duties.Events ∷ ds) p.profile (end_at t p)
    → let q = answered values (duties.Step step_duties.Events) r (with_agenda (duties.Step step_duties.Events ∷ ds) p) in ((end_at t q).tcp.recv.edge ≡ (end_at t p).tcp.recv.edge) ⊎ (is_gone (end_at t q) ≡ true)
event_stays t ds r p (ready.is_dead_now dead) =
    let d : Duty = duties.Step step_duties.Events in let x : PathState Carried = with_agenda (d ∷ ds) p in let q : PathState Carried = answered values d r x in
    inr (gone_stays (end_at t x) (end_at t q) (path_far x q (answered_steps values d r x) t) dead)
event_stays t ds r p (ready.is_quiet quiet lets) =
    let x : PathState Carried = with_agenda (duties.Step step_duties.Events ∷ ds) p in event_lives r x t quiet (next_event x)
event_stays t ds r p (ready.passes low ahead) = absurd (⊎_elim (λ lead. lead) (λ rest. true≢false (sym rest.1.0)) ahead)

-- ---- a step

record Stepped (t : Side) (p q : PathState Carried) : Type 0 where
  stays : ((end_at t q).tcp.recv.edge ≡ (end_at t p).tcp.recv.edge) ⊎ IsOver (end_at t q)
  left : Left t q.agenda q

settled_steps : (t : Side) (p q : PathState Carried) → ((end_at t q).tcp.recv.edge ≡ (end_at t p).tcp.recv.edge) ⊎ IsOver (end_at t q) → Left t q.agenda q → Stepped t p (settled q.agenda q)
settled_steps t p q stays left =
    let rest = settled_goes t q.agenda q left in record {
      stays = ⊎_elim
          (λ same. ⊎_elim (λ first. inl (same ∙ first)) (λ over. inr (rest.goes.over over)) stays)
          (λ over. inr over)
          rest.goes.stays;
      left = rest.left;
    }

takes_step : (r : Reply) (p : PathState Carried) (t : Side) → Ready t p.agenda p.profile (end_at t p) → Left t p.agenda p → Stepped t p (takes values r p)
takes_step r p t is_ready h = by p.agenda is_ready h
  where
    duty : (d : Duty) (ds : List Duty) → Ready t (d ∷ ds) p.profile (end_at t p) → Left t (d ∷ ds) p → Stepped t p (takes values r (with_agenda (d ∷ ds) p))
    duty (duties.Step step_duties.Events) ds is_ready h =
        let x : PathState Carried = with_agenda (duties.Step step_duties.Events ∷ ds) p in
        settled_steps t p (answered values (duties.Step step_duties.Events) r x) (⊎_elim (λ same. inl same) (λ dead. inr (inl dead)) (event_stays t ds r p is_ready)) (event_left t (next_event x) r x)
    duty d ds is_ready h =
        let first = answered_goes t d ds r p refl h in settled_steps t p (answered values d r (with_agenda (d ∷ ds) p)) first.goes.stays first.left

    by : (ds : List Duty) → Ready t ds p.profile (end_at t p) → Left t ds p → Stepped t p (takes values r (with_agenda ds p))
    by [] is_ready h = record { stays = inl refl; left = λ is. absurd (true≢false (sym is)) }
    by (d ∷ ds) is_ready h = duty d ds is_ready h

begins_step : (p : PathState Carried) (t : Side) → Stepped t p (begins_turn p)
begins_step p t = let rest = settled_goes t start_of_turn (with_agenda start_of_turn p) (λ is. absurd (true≢false (sym is))) in record { stays = rest.goes.stays; left = rest.left }

next_step : (p : PathState Carried) (t : Side) → Stepped t p (next_round p)
next_step p t = let begun = begins_step (record p { clock = p.until; until = p.until + 100 }) t in record { stays = begun.stays; left = begun.left }

-- ---- path 0

-- an end that is to move RCV.NXT is heard, and nothing came before the handshake is done
pub record PathHeard (p : PathState Carried) : Type 0 where
  left : (t : Side) → Left t p.agenda p
  pub early : (t : Side) → stage (end_at t p).tcp.state ≤ 2 → (end_at t p).tcp.recv.edge ≡ 1

gone_high : (e : PathEnd) → is_gone e ≡ true → stage e.tcp.state ≤ 2 → ⊥
gone_high e dead low = let up = dead_stage e.tcp.state dead in omega (arith, up, low)

early_on : (t : Side) (p q : PathState Carried) → stage (end_at t p).tcp.state ≤ stage (end_at t q).tcp.state → Stepped t p q → (stage (end_at t p).tcp.state ≤ 2 → (end_at t p).tcp.recv.edge ≡ 1)
    → stage (end_at t q).tcp.state ≤ 2 → (end_at t q).tcp.recv.edge ≡ 1
early_on t p q up step h low = ⊎_elim
    (λ same. same ∙ h (omega (arith, up, low)))
    (λ over. absurd (⊎_elim (λ dead. gone_high (end_at t q) dead low) (λ (heard : IsHeardNow (end_at t q)). let high = heard.past in omega (arith, high, low)) over))
    step.stays

takes_heard : (r : Reply) (p : PathState Carried) → IsReady p → PathHeard p → PathHeard (takes values r p)
takes_heard r p is_ready h = record {
  left = λ t. (takes_step r p t (is_ready.ends t) (h.left t)).left;
  early = λ t. early_on t p (takes values r p) ((takes_far r p).at t).subflow.state (takes_step r p t (is_ready.ends t) (h.left t)) (h.early t);
}

next_heard : (p : PathState Carried) → PathHeard p → PathHeard (next_round p)
next_heard p h = record { left = λ t. (next_step p t).left; early = λ t. early_on t p (next_round p) ((next_far p).at t).subflow.state (next_step p t) (h.early t) }

opened_heard : (start : Start) (number : ℕ) (plan : PathPlan) → PathHeard (begins_turn (waiting_path (path_begins start number plan) start.lines))
opened_heard start number plan = record {
  left = λ t. (begins_step p t).left;
  early = λ t. early_on t p (begins_turn p) ((begins_far p).at t).subflow.state (begins_step p t) (λ low. first t);
}
  where
    p : PathState Carried
    p = waiting_path (path_begins start number plan) start.lines

    first : (t : Side) → (end_at t p).tcp.recv.edge ≡ 1
    first A = refl
    first B = refl

module _ (start : Start) where
  known : (turns : List Turn) → OfFirst IsReady (reached values start turns)
  known turns = record { each = λ c there. (each_is_ready values start turns).each 2 c there }

  opened_first : OfFirst PathHeard (opened_world start)
  opened_first = record { each = λ c there. (opened_lifted (λ c. Of PathHeard c.member) start tt tt (λ number plan at. opened_heard start number plan)).each 2 c there }

  pub each_heard : (turns : List Turn) → OfFirst PathHeard (reached values start turns)
  each_heard = each_first_moment values start IsReady PathHeard known opened_first (λ r p is_ready h. takes_heard r p is_ready h) (λ p is_ready h. next_heard p h)

-- ---- the laws

abbrev Rises : Actor Carried → Actor Carried → Type 0
Rises (Path p) (Path q) = IsReady p → PathHeard p → (t : Side) → Stepped t p q
Rises (App a) (App b) = Unit {0}
Rises _ _ = ⊥

member_stays : (m : Actor Carried) → Rises m m
member_stays (App a) = tt
member_stays (Path p) = λ is_ready h t. record { stays = inl refl; left = h.left t }

member_takes_it : (r : Reply) (m : Actor Carried) → Rises m (member_takes values r m)
member_takes_it r (App a) = tt
member_takes_it r (Path p) = λ is_ready h t. takes_step r p t (is_ready.ends t) (h.left t)

member_begins : (m : Actor Carried) → Rises m (member_next m)
member_begins (App a) = tt
member_begins (Path p) = λ is_ready h t. next_step p t

pub each_rise_ends_the_row : EachRiseEndsTheRow
each_rise_ends_the_row start turns turn p q here there s living rises = by (path
    (subst (HoldsOfKind (λ app. Unit {0}) IsReady) here.is ((each_is_ready values start turns).each 2 here.crew here.there))
    (subst (Of PathHeard) here.is ((each_heard start turns).each here.crew here.there)) s)
  where
    w : WorldState Carried
    w = reached values start turns

    found : (d : ActorCrew Carried) × (slice_get (after_turn values turn w).crew 2 ≡ Some d) × Rises here.crew.member d.member
    found = turn_each values (λ c d. Rises c.member d.member) (λ c. member_stays c.member) (λ ask books c. member_takes_it (answer_to books ask) c.member) (λ stamp c over. member_begins c.member) turn w 2 here.crew here.there

    path : Rises (Path p) (Path q)
    path = subst (λ m. Rises (Path p) m) there.is (subst (λ m. Rises m there.crew.member) here.is
        (subst (λ (d : ActorCrew Carried). Rises here.crew.member d.member) (same_Some found.0 there.crew (sym found.1 ∙ there.there)) found.2))

    by : Stepped s p q → IsHeardNow (end_at s q)
    by step = ⊎_elim
        (λ same. absurd (omega (arith, same, rises)))
        (λ over. ⊎_elim (λ dead. absurd (true≢false (sym dead ∙ living))) (λ heard. heard) over)
        step.stays

pub edges_wait_for_the_handshake : EdgesWaitForTheHandshake
edges_wait_for_the_handshake start turns p here s = (subst (Of PathHeard) here.is ((each_heard start turns).each here.crew here.there)).early s
