-- What rises is owed, by each turn of a mild connection.
use Rattle.std.proofs.Common.{◌≡◌, refl, sym, subst, ap, ◌∙◌, ◌⊎◌, inl, inr, ⊎_elim, ℕ, ◌+◌, ◌<◌, arith, Bool, true, false, true≢false, if◌then◌else◌, Option, Some, None, is_some, List, [], ◌∷◌, ◌++◌, length}
use Rattle.std.specs.Prelude.{IsSome}
use Rattle.std.specs.List.{list_any, slice_get}
use Rattle.std.proofs.lemmas.Bool.{or_parts}
use Rattle.std.proofs.lemmas.List.{append-nil, append_assoc}
use Rattle.std.proofs.lemmas.Option.{same_Some}
use Rattle.path_segments.specs.Heard.{HeardSegment}
use Rattle.sides.specs.declared.side.Side.{Side}
use Rattle.sides.specs.declared.side.Side.TheVariants.{A, B}
use Rattle.sides.specs.Side.{peer}
use Rattle.link_model.specs.declared.flight.Due.{Due as Arriving}
use Rattle.link_model.specs.Steps.{after_delivery, arriving}
use Rattle.subflow_recv.specs.Receiving.{Receiving, after_keep_held}
use Rattle.subflow_tcp.specs.declared.dues.Due.{Due}
use Rattle.subflow_tcp.specs.declared.verdicts.Meaning.{Meaning}
use Rattle.subflow_tcp.specs.declared.verdicts.Meaning.TheVariants as means
use Rattle.subflow_tcp.specs.Closing.{after_passing_fin, is_fin_next}
use Rattle.subflow_tcp.specs.Expiring.{after_expiry, is_sixth}
use Rattle.subflow_tcp.specs.State.{is_fin_passed}
use Rattle.subflow_tcp.specs.Taking.{after_death}
use Rattle.actor_desk.specs.declared.ask.Reply.{Reply}
use Rattle.actor_desk.specs.Words.{is_nil, pick, tail_of}
use Rattle.path_agenda.specs.Agenda.{emission, leaves, start_of_turn}
use Rattle.path_agenda.specs.declared.duty.Duty.{Duty}
use Rattle.path_agenda.specs.declared.duty.Duty.TheVariants as duties
use Rattle.path_agenda.specs.declared.duty.AskDuty.TheVariants as ask_duties
use Rattle.path_agenda.specs.declared.duty.SilentDuty.TheVariants as silent_duties
use Rattle.path_agenda.specs.declared.duty.StepDuty.TheVariants as step_duties
use Rattle.path_agenda.specs.declared.keys.KeyPair.{KeyPair}
use Rattle.path_store.specs.Passing.{Piece}
use Rattle.path_store.specs.declared.lines.LineAction.{LineAction}
use Rattle.path_store.specs.declared.lines.LineAction.TheVariants as actions
use Rattle.path_core.specs.Addresses.{with_priority}
use Rattle.path_core.specs.Arrival.{after_judged, copy_heard, copy_judged, heard_in, judged_in, reset_for, with_payload}
use Rattle.path_core.specs.DataFin.{after_pass_fin}
use Rattle.path_core.specs.Deliver.{after_keep, answered_piece, having_asked, is_dropped, is_placed, next_piece}
use Rattle.path_core.specs.DssIn.{held_of}
use Rattle.path_core.specs.Duties.{answered, passed, stands}
use Rattle.path_core.specs.End.{PathEnd}
use Rattle.path_core.specs.Events.{after_line, happens_if, next_event}
use Rattle.path_core.specs.Judged.{taken_as}
use Rattle.path_core.specs.Looking.{duty_sends}
use Rattle.path_core.specs.MpJoin.{is_joined, is_never, joins_at_tick, keys_begun, never_joined, opened_by}
use Rattle.path_core.specs.OptionsIn.{items_of, options_heard}
use Rattle.path_core.specs.Profile.{Profile}
use Rattle.path_core.specs.Start.{waiting_path}
use Rattle.path_core.specs.State.{PathState, at_tick, end_at, goes_on, with_agenda}
use Rattle.path_core.specs.Steps.{begins_turn, settled, takes}
use Rattle.path_core.specs.Timer.{after_firing, timer_fired}
use Rattle.path_core.specs.Values.{Carried, values}
use Rattle.path_core.specs.declared.events.Event.{Event}
use Rattle.path_core.specs.declared.events.Event.TheVariants as happenings
use Rattle.path_core.specs.declared.judged.Judged.{Judged}
use Rattle.path_core.specs.declared.judged.Judged.TheVariants as judged
use Rattle.world_laws.specs.declared.member.Member.TheVariants.{App, Path}
use Rattle.world_laws.specs.Actors.{Actor, ActorCrew, is_over, member_next, member_takes}
use Rattle.world_laws.specs.Members.{HoldsOfKind}
use Rattle.world_laws.specs.Openings.{PathPlan, Start, opened_world, path_begins}
use Rattle.world_laws.specs.RoundDone.{reached}
use Rattle.world_laws.specs.StampedBooks.{answer_to}
use Rattle.world_laws.specs.Worlds.{Turn, WorldState, after_turn}
use Rattle.world_laws.specs.Writes.{PathView, side_of}
use Rattle.world_laws.proofs.Rounds.Lifting.{opened_lifted}
use Rattle.world_laws.proofs.Weaving.WholeRounds.{run_append}
use Rattle.world_laws.proofs.Writes.Paths.{writes_no_more}
use Rattle.whole_paths.specs.AgendaSteps.{is_gone}
use Rattle.whole_paths.specs.Brought.{IsToReset, KeepsNext}
use Rattle.whole_paths.specs.Brought.{IsToReset as resetting}
use Rattle.whole_paths.specs.Mild.{EndsGoByMappings, IsMildStart, IsNeverBroken, is_harsh}
use Rattle.whole_paths.specs.RisesOwed.{WhatRisesIsOwed}
use Rattle.whole_paths.proofs.Agendas.{answered_follows, own_end}
use Rattle.whole_paths.proofs.BareCopies.{bare_says_nothing}
use Rattle.whole_paths.proofs.Breaking.{never_breaks}
use Rattle.whole_paths.proofs.Duties.{answered_steps, passed_steps}
use Rattle.whole_paths.proofs.Harmed.{none_stays}
use Rattle.whole_paths.proofs.MappedCopies.{PathMaps, each_maps}
use Rattle.whole_paths.proofs.Mild.{mapping_is_kept}
use Rattle.whole_paths.proofs.Moving.{answered_other_recv, fin_over, passed_other_recv, taken_recv}
use Rattle.whole_paths.proofs.OpenCourses.{IsFirstPath, each_first}
use Rattle.whole_paths.proofs.Passing.{IsReady, Quiet, Ready, died_now, each_is_ready, heard_recv}
use Rattle.whole_paths.proofs.Passing.{Ready as ready}
use Rattle.whole_paths.proofs.Paying.{Pays, answered_pays, settled_due}
use Rattle.whole_paths.proofs.Paying.{Owed as owes_on}
use Rattle.whole_paths.proofs.Paying.{Pays as pay}
use Rattle.whole_paths.proofs.Pieces.{is_event}
use Rattle.whole_paths.proofs.RisesOwed.{BareSaysNothing, IsMildAt, Settled, Treats, answered_treats, event_treats, settled_treats}
use Rattle.whole_paths.proofs.RisesOwed.{Treats as treat}
use Rattle.whole_paths.proofs.Settling.{sides}
use Rattle.whole_paths.proofs.Staying.{fin_stays, passed_rests}
use Rattle.whole_paths.proofs.Turns.{turn_by, turn_each}
use Rattle.whole_paths.proofs.Unpassed.{Idle, is_edge, opened_holds, own_holds, passed_holds}
use Rattle.whole_paths.proofs.Waiting.{gone_stays, path_far}

abbrev pub OfPaths : (PathState Carried → Type 0) → Actor Carried → Type 0
OfPaths P = HoldsOfKind (λ app. Unit {0}) P

-- ---- what is known of a path 0 of a mild connection, with these duties

pub record Facts (ds : List Duty) (p : PathState Carried) : Type 0 where
  pub ready : (t : Side) → Ready t ds p.profile (end_at t p)
  pub harsh : list_any is_harsh ds ≡ false
  pub whole : (t : Side) → IsToReset t ds → ⊥
  pub finite : (t : Side) → IsSome (end_at t p).modes.peer_infinite → ⊥
  pub says : BareSaysNothing values (with_agenda ds p)

-- nothing is held as an event comes, and nothing is to be passed
pub events_idle : (t : Side) (c : Profile) (ds : List Duty) (e : PathEnd) → (IsSome e.modes.peer_infinite → ⊥) → (IsToReset t (duties.Step step_duties.Events ∷ ds) → ⊥) → Treats t c (duties.Step step_duties.Events ∷ ds) e
    → (is_gone e ≡ true) ⊎ Idle e
events_idle t c ds e finite whole (treat.over dead) = inl dead
events_idle t c ds e finite whole (treat.rests idle none) = inr idle
events_idle t c ds e finite whole (treat.owes due (inl idle)) = inr idle
events_idle t c ds e finite whole (treat.owes due (inr (inl next))) = absurd next
events_idle t c ds e finite whole (treat.owes due (inr (inr soon))) = absurd (true≢false (sym soon.1.0))
events_idle t c ds e finite whole (treat.bare h (inl next)) = absurd next
events_idle t c ds e finite whole (treat.bare h (inr soon)) = absurd (true≢false (sym soon.1.0))
events_idle t c ds e finite whole (treat.infinite some) = absurd (finite some)
events_idle t c ds e finite whole (treat.broken is) = absurd (whole is)

over_idle : (t : Side) (c : Profile) (e : PathEnd) → (IsSome e.modes.peer_infinite → ⊥) → (IsToReset t [] → ⊥) → Treats t c [] e → (is_gone e ≡ true) ⊎ Idle e
over_idle t c e finite whole (treat.over dead) = inl dead
over_idle t c e finite whole (treat.rests idle none) = inr idle
over_idle t c e finite whole (treat.owes due (inl idle)) = inr idle
over_idle t c e finite whole (treat.owes due (inr (inl next))) = absurd next
over_idle t c e finite whole (treat.owes due (inr (inr soon))) = absurd soon
over_idle t c e finite whole (treat.bare h soon) = absurd soon
over_idle t c e finite whole (treat.infinite some) = absurd (finite some)
over_idle t c e finite whole (treat.broken is) = absurd (whole is)

-- ---- a step

module _ (t : Side) (ds : List Duty) (r : Reply) (p : PathState Carried) where
  abbrev from : Duty → PathState Carried
  from d = with_agenda (d ∷ ds) p

  abbrev to : Duty → PathState Carried
  to d = answered values d r (from d)

  abbrev Next : Duty → Type 0
  Next d = Treats t p.profile (to d).agenda (end_at t (to d))

  gone_then : (d : Duty) → is_gone (end_at t p) ≡ true → Next d
  gone_then d dead = treat.over (gone_stays (end_at t (from d)) (end_at t (to d)) (path_far (from d) (to d) (answered_steps values d r (from d)) t) dead)

  happens_next : Facts (duties.Step step_duties.Events ∷ ds) p → Treats t p.profile (duties.Step step_duties.Events ∷ ds) (end_at t p) → Next (duties.Step step_duties.Events)
  happens_next facts h = by (facts.ready t)
    where
      d : Duty
      d = duties.Step step_duties.Events

      by : Ready t (duties.Step step_duties.Events ∷ ds) p.profile (end_at t p) → Next (duties.Step step_duties.Events)
      by (ready.is_dead_now dead) = gone_then (duties.Step step_duties.Events) dead
      by (ready.is_quiet quiet lets) = ⊎_elim
          (λ dead. gone_then (duties.Step step_duties.Events) dead)
          (λ idle. event_treats values r (from (duties.Step step_duties.Events)) t (next_event (from (duties.Step step_duties.Events))) refl facts.says quiet idle)
          (events_idle t p.profile ds (end_at t p) (facts.finite t) (facts.whole t) h)
      by (ready.passes low ahead) = absurd (⊎_elim (λ lead. lead) (λ rest. true≢false (sym rest.1.0)) ahead)

  mild_at : (d : Duty) → Facts (d ∷ ds) p → IsMildAt t d ds (end_at t p)
  mild_at d facts = record { harsh = (or_parts (is_harsh d) (list_any is_harsh ds) facts.harsh).0; finite = facts.finite t; whole = facts.whole t }

  duty_next : (d : Duty) → Facts (d ∷ ds) p → (KeepsNext t (d ∷ ds) → ⊥) → Treats t p.profile (d ∷ ds) (end_at t p) → Next d
  duty_next (duties.Step step_duties.Events) facts first h = happens_next facts h
  duty_next d facts first h = answered_treats values t d ds r p refl (answered_follows values d ds r p) (facts.ready t) (mild_at d facts) first h

-- on a path
abbrev pub AllSettled : PathState Carried → Type 0
AllSettled p = (t : Side) → Settled t p

same_profile : (d : Duty) (ds : List Duty) (r : Reply) (p : PathState Carried) → (answered values d r (with_agenda (d ∷ ds) p)).profile ≡ p.profile
same_profile d ds r p = ap (λ (v : PathView Carried). v.profile) (writes_no_more values d r (with_agenda (d ∷ ds) p)).same

takes_settled : (r : Reply) (p : PathState Carried) → Facts p.agenda p → AllSettled p → AllSettled (takes values r p)
takes_settled r p facts h t = by p.agenda facts (h t).treats (h t).first
  where
    by : (ds : List Duty) → Facts ds p → Treats t p.profile ds (end_at t p) → (KeepsNext t ds → ⊥) → Settled t (takes values r (with_agenda ds p))
    by [] facts treats first = record { treats = treats; first = first }
    by (d ∷ ds) facts treats first =
        let q : PathState Carried = answered values d r (with_agenda (d ∷ ds) p) in
        settled_treats t q.agenda q (subst (λ c. Treats t c q.agenda (end_at t q)) (sym (same_profile d ds r p)) (duty_next t ds r p d facts first treats))

begins_settled : (p : PathState Carried) → Facts [] p → AllSettled (with_agenda [] p) → AllSettled (begins_turn (record p { clock = p.until; until = p.until + 100 }))
begins_settled p facts h t =
    let q : PathState Carried = record p { clock = p.until; until = p.until + 100 } in
    settled_treats t start_of_turn (with_agenda start_of_turn q)
    (⊎_elim (λ dead. treat.over dead) (λ idle. treat.rests idle tt) (over_idle t p.profile (end_at t p) (facts.finite t) (facts.whole t) (h t).treats))

-- ---- RCV.NXT

pub record StaysEdge (e f : PathEnd) : Type 0 where
  pub same : f.tcp.recv.edge ≡ e.tcp.recv.edge

pub kept_edge : (s : Side) (e : PathEnd) → (after_keep s e).tcp.recv.edge ≡ e.tcp.recv.edge
kept_edge s e = by (is_dropped s e) (is_fin_passed e.tcp)
  where
    by : (b over : Bool) → (if b then record e.tcp { recv = record e.tcp.recv { incoming = None } } else record e.tcp { recv = if over then record e.tcp.recv { incoming = None } else after_keep_held e.tcp.recv }).recv.edge ≡ e.tcp.recv.edge
    by true over = refl
    by false true = refl
    by false false = refl

-- it stays, or is past the peer's FIN, or the end is dead
abbrev Lifts : PathEnd → PathEnd → Type 0
Lifts e f = (f.tcp.recv.edge ≡ e.tcp.recv.edge) ⊎ ((is_fin_passed f.tcp ≡ true) ⊎ (is_gone f ≡ true))

pass_fin_lifts : (e : PathEnd) → Lifts e (after_pass_fin e)
pass_fin_lifts e = (elim (is_fin_next e.tcp) as (λ b. is_fin_next e.tcp ≡ b → Lifts e (record e { tcp = if b then after_passing_fin e.tcp else e.tcp })) [ true ↦ λ is. inr (inl (fin_over e.tcp is)) | false ↦ λ is. inl refl ]) refl

at_own : (s : Side) (e f a b : PathEnd) → Lifts e f → Lifts e (pick s (pick s f a) (pick s b f))
at_own s e f a b h = subst (Lifts e) (sym (own_end s f a b)) h

passed_own_lifts : (d : Duty) (p : PathState Carried) → Lifts (end_at (side_of d) p) (end_at (side_of d) (passed d p))
passed_own_lifts (duties.Silent (silent_duties.Keep s)) p = at_own s (end_at s p) (after_keep s (end_at s p)) p.a p.b (inl (kept_edge s (end_at s p)))
passed_own_lifts (duties.Silent (silent_duties.PassFin s)) p = at_own s (end_at s p) (after_pass_fin (end_at s p)) p.a p.b (pass_fin_lifts (end_at s p))
passed_own_lifts d p = inl (passed_holds (λ v. v.edge ≡ (end_at (side_of d) p).tcp.recv.edge) (λ n v h. h) ⊥ (λ may to v h. absurd may) d p refl refl)

passed_lifts : (t : Side) (d : Duty) (p : PathState Carried) → Lifts (end_at t p) (end_at t (passed d p))
passed_lifts t d p = ⊎_elim
    (λ own. subst (λ u. Lifts (end_at u p) (end_at u (passed d p))) own (passed_own_lifts d p))
    (λ away. subst (λ u. Lifts (end_at u p) (end_at u (passed d p))) away (inl (ap (λ (v : Receiving). v.edge) (passed_other_recv d p))))
    (sides t (side_of d))

-- all of them go on like that
record GoesUp (e f : PathEnd) : Type 0 where
  lifts : Lifts e f
  passed_stays : is_fin_passed e.tcp ≡ true → is_fin_passed f.tcp ≡ true
  dead_stays : is_gone e ≡ true → is_gone f ≡ true

then_up : (e f g : PathEnd) → GoesUp e f → GoesUp f g → GoesUp e g
then_up e f g x y = record {
  lifts = ⊎_elim (λ same. ⊎_elim (λ first. inl (same ∙ first)) (λ other. inr (⊎_elim (λ over. inl (y.passed_stays over)) (λ dead. inr (y.dead_stays dead)) other)) x.lifts) (λ other. inr other) y.lifts;
  passed_stays = λ over. y.passed_stays (x.passed_stays over);
  dead_stays = λ dead. y.dead_stays (x.dead_stays dead);
}

passed_up : (t : Side) (d : Duty) (p : PathState Carried) → GoesUp (end_at t p) (end_at t (passed d p))
passed_up t d p =
    let far = path_far p (passed d p) (passed_steps d p) t in record {
      lifts = passed_lifts t d p;
      passed_stays = fin_stays t (end_at t p) (end_at t (passed d p)) (passed_rests t d p) far.subflow.received;
      dead_stays = gone_stays (end_at t p) (end_at t (passed d p)) far;
    }

same_up : (e : PathEnd) → GoesUp e e
same_up e = record { lifts = inl refl; passed_stays = λ over. over; dead_stays = λ dead. dead }

settled_up : (t : Side) (ds : List Duty) (p : PathState Carried) → GoesUp (end_at t p) (end_at t (settled ds p))
settled_up t [] p = same_up (end_at t p)
settled_up t (d ∷ ds) p = by (stands d p) (then_up (end_at t p) (end_at t (passed d p)) (end_at t (settled ds (passed d p))) (passed_up t d p) (settled_up t ds (passed d p)))
  where
    by : (b : Bool) → GoesUp (end_at t p) (end_at t (settled ds (passed d p))) → GoesUp (end_at t p) (end_at t (if b then with_agenda (d ∷ ds) p else settled ds (passed d p)))
    by true rest = same_up (end_at t p)
    by false rest = rest

-- ---- a duty that is answered, but one that asks for the edge

own_edge : (d : Duty) (r : Reply) (p : PathState Carried) → is_event d ≡ false → is_edge d ≡ false → StaysEdge (end_at (side_of d) p) (end_at (side_of d) (answered values d r p))
own_edge d r p other none = record {
  same = own_holds (λ v. v.edge ≡ (end_at (side_of d) p).tcp.recv.edge) (λ n v h. h) ⊥ (λ may to v h. absurd may) values d r p other (λ edge. absurd (true≢false (sym edge ∙ none))) refl;
}

pub away_edge : (d : Duty) (r : Reply) (p : PathState Carried) → is_event d ≡ false → StaysEdge (end_at (peer (side_of d)) p) (end_at (peer (side_of d)) (answered values d r p))
away_edge d r p other = record { same = ap (λ (v : Receiving). v.edge) (answered_other_recv values d r p other) }

pub answered_edge : (t : Side) (d : Duty) (r : Reply) (p : PathState Carried) → is_event d ≡ false → is_edge d ≡ false → StaysEdge (end_at t p) (end_at t (answered values d r p))
answered_edge t d r p other none =
    let q : PathState Carried = answered values d r p in
    ⊎_elim
    (λ own. subst (λ u. StaysEdge (end_at u p) (end_at u q)) own (own_edge d r p other none))
    (λ away. subst (λ u. StaysEdge (end_at u p) (end_at u q)) away (away_edge d r p other))
    (sides t (side_of d))

-- ---- an event

module _ (c : Profile) (s : Side) (now : ℕ) (x : HeardSegment) (count : ℕ) (e : PathEnd) (h : Quiet c e) where
  abbrev heard_as : Meaning → PathEnd
  heard_as m = copy_judged (is_joined c) (held_of c s x) (reset_for c s x) s now x m e

  payload_edge : (pos a : ℕ) (octets : List ℕ) → (with_payload (means.Taken pos a) octets e.tcp).recv.edge ≡ e.tcp.recv.edge
  payload_edge pos a [] = refl
  payload_edge pos a (octet ∷ octets) = refl

  meant_edge : (m : Meaning) → (heard_as m).tcp.recv.edge ≡ e.tcp.recv.edge
  meant_edge (means.Taken pos a) = ap (λ (v : Receiving). v.edge) (taken_recv c s now x e pos a) ∙ payload_edge pos a x.payload
  meant_edge means.Kills = refl
  meant_edge m = ap (λ (v : Receiving). v.edge) (heard_recv c s now x count e h m refl)

  judged_edge : (verdict : Judged) → (heard_as (taken_as verdict)).tcp.recv.edge ≡ e.tcp.recv.edge
  judged_edge (judged.As m) = meant_edge m
  judged_edge verdict = meant_edge means.Ignored

-- it stays, or the end is dead
abbrev pub Lives : PathEnd → PathEnd → Type 0
Lives e f = (f.tcp.recv.edge ≡ e.tcp.recv.edge) ⊎ (is_gone f ≡ true)

side_lives : (s t : Side) (f : PathEnd) (p q : PathState Carried) → q.a ≡ pick s f p.a → q.b ≡ pick s p.b f → Lives (end_at s p) f → Lives (end_at t p) (end_at t q)
side_lives A A f p q a b x = subst (Lives p.a) (sym a) x
side_lives A B f p q a b x = subst (Lives p.b) (sym b) (inl refl)
side_lives B A f p q a b x = subst (Lives p.a) (sym a) (inl refl)
side_lives B B f p q a b x = subst (Lives p.b) (sym b) x

away_lives : (s : Side) (f : PathEnd) (p q : PathState Carried) → q.a ≡ pick s f p.a → q.b ≡ pick s p.b f → Lives (end_at (peer s) p) (end_at (peer s) q)
away_lives A f p q a b = subst (Lives p.b) (sym b) (inl refl)
away_lives B f p q a b = subst (Lives p.a) (sym a) (inl refl)

opened_lives : (keys : Option KeyPair) (e : PathEnd) → Lives e (opened_by keys e)
opened_lives keys e = inl (opened_holds (λ v. v.edge ≡ e.tcp.recv.edge) (λ n v h. h) ⊥ (λ may to v h. absurd may) keys e refl)

fired_lives : (now : ℕ) (e : PathEnd) → Lives e (after_firing now e)
fired_lives now e = inl (elim (is_sixth e.tcp) as (λ b. (if b then after_death true e.tcp else after_expiry now e.tcp).recv.edge ≡ e.tcp.recv.edge) [ true ↦ refl | false ↦ refl ])

record IsLifted (e f : PathEnd) : Type 0 where
  lives : Lives e f

module _ (p : PathState Carried) (due : Arriving) (segment : HeardSegment) where
  abbrev before_it : PathState Carried
  before_it = record (at_tick due.tick p) { link = after_delivery due p.link }

  abbrev heard_it : PathEnd
  heard_it =
      let e : PathEnd = end_at due.to p in let x : HeardSegment = options_heard e segment in
      after_judged p.profile due.to before_it.clock x (judged_in (is_joined p.profile) due.to x e) e

  own_lifted : Quiet p.profile (end_at due.to p) → IsLifted (end_at due.to p) (end_at due.to (copy_heard due.to (Some segment) before_it))
  own_lifted quiet =
      let e : PathEnd = end_at due.to p in let x : HeardSegment = options_heard e segment in
      record {
        lives = side_lives due.to due.to heard_it p (copy_heard due.to (Some segment) before_it) refl refl
            (inl (judged_edge p.profile due.to before_it.clock x (length (items_of (is_joined p.profile) due.to x)) e quiet (judged_in (is_joined p.profile) due.to x e)));
      }

  away_lifted : IsLifted (end_at (peer due.to) p) (end_at (peer due.to) (copy_heard due.to (Some segment) before_it))
  away_lifted = record { lives = away_lives due.to heard_it p (copy_heard due.to (Some segment) before_it) refl refl }

module _ (r : Reply) (p : PathState Carried) (t : Side) (quiet : Quiet p.profile (end_at t p)) where
  line_lives : (t : Side) (action : LineAction) (tick : ℕ) → Lives (end_at t p) (end_at t (after_line action (record (at_tick tick p) { lines = tail_of p.lines })))
  line_lives A actions.Die tick = inr (died_now p.a)
  line_lives B actions.Die tick = inr (died_now p.b)
  line_lives t (actions.Prio s backup) tick =
      let x : PathState Carried = record (at_tick tick p) { lines = tail_of p.lines } in side_lives s t (with_priority backup (end_at s p)) p (after_line (actions.Prio s backup) x) refl refl (inl refl)
  line_lives t (actions.Announce s id) tick = inl refl
  line_lives t (actions.Withdraw s id) tick = inl refl

  joins_live : (tick : ℕ) → Lives (end_at t p) (end_at t (joins_at_tick r (at_tick tick p)))
  joins_live tick = by (is_never r)
    where
      x : PathState Carried
      x = record (at_tick tick p) { joined_at = None }

      by : (b : Bool) → Lives (end_at t p) (end_at t (if b then goes_on A (never_joined r x.a) (leaves A) x else goes_on A (opened_by (keys_begun r) x.a) (emission A) x))
      by true = side_lives A t (never_joined r p.a) p (goes_on A (never_joined r x.a) (leaves A) x) refl refl (inl refl)
      by false = side_lives A t (opened_by (keys_begun r) p.a) p (goes_on A (opened_by (keys_begun r) x.a) (emission A) x) refl refl (opened_lives (keys_begun r) p.a)

  abbrev came : Arriving → PathState Carried
  came due = record (at_tick due.tick p) { link = after_delivery due p.link }

  copy_lives : (due : Arriving) (o : Option HeardSegment) → Lives (end_at t p) (end_at t (copy_heard due.to o (came due)))
  copy_lives due None = inl refl
  copy_lives due (Some segment) = (⊎_elim
      (λ own. subst (λ u. Quiet p.profile (end_at u p) → IsLifted (end_at u p) (end_at u (copy_heard due.to (Some segment) (came due)))) own (own_lifted p due segment) quiet)
      (λ away. subst (λ u. IsLifted (end_at u p) (end_at u (copy_heard due.to (Some segment) (came due)))) away (away_lifted p due segment))
      (sides t due.to)).lives

  pub event_lives : (o : Option Event) → Lives (end_at t p) (end_at t (happens_if values o r p))
  event_lives None = inl refl
  event_lives (Some (happenings.Joins tick)) = joins_live tick
  event_lives (Some (happenings.Takes line)) = line_lives t line.action line.tick
  event_lives (Some (happenings.Arrives due)) = copy_lives due (heard_in values due.to (arriving due p.link) p)
  event_lives (Some (happenings.Fires s tick)) = let x : PathState Carried = at_tick tick p in side_lives s t (after_firing x.clock (end_at s x)) x (timer_fired s x) refl refl (fired_lives x.clock (end_at s x))

-- ---- a step

-- RCV.NXT rises, and an acknowledgement is due, or it is past the peer's FIN, or the end is dead
abbrev RisesOwing : PathEnd → PathEnd → Type 0
RisesOwing e f = e.tcp.recv.edge < f.tcp.recv.edge → (f.tcp.due.ack ≡ true) ⊎ ((is_fin_passed f.tcp ≡ true) ⊎ (is_gone f ≡ true))

from_up : (e f g : PathEnd) → Lives e f → GoesUp f g → RisesOwing e g
from_up e f g lives up rises = ⊎_elim
    (λ same. ⊎_elim (λ stays. absurd (omega (arith, same, stays, rises))) (λ other. inr other) up.lifts)
    (λ dead. inr (inr (up.dead_stays dead)))
    lives

-- where the edge is asked for
module _ (t : Side) (ds : List Duty) (r : Reply) (p : PathState Carried) where
  abbrev edge_duty : Duty
  edge_duty = duties.Ask (ask_duties.Edge t)

  abbrev asked : PathState Carried
  asked = answered values (duties.Ask (ask_duties.Edge t)) r (with_agenda (duties.Ask (ask_duties.Edge t) ∷ ds) p)

  none_lives : next_piece p.profile (end_at t p) ≡ None → Lives (end_at t p) (end_at t asked)
  none_lives none = subst (λ (o : Option Piece). Lives (end_at t p) (end_at t (answered_piece t o (is_placed r) (with_agenda (duties.Ask (ask_duties.Edge t) ∷ ds) p)))) (sym none)
      (subst (Lives (end_at t p)) (sym (own_end t (having_asked (end_at t p)) p.a p.b)) (inl refl))

  edge_owes : Facts (duties.Ask (ask_duties.Edge t) ∷ ds) p → Treats t p.profile (duties.Ask (ask_duties.Edge t) ∷ ds) (end_at t p) → ((end_at t asked).tcp.due.ack ≡ true) ⊎ Lives (end_at t p) (end_at t asked)
  edge_owes facts h = by h
    where
      paid : (end_at t p).tcp.due.ack ≡ true → Pays (duties.Ask (ask_duties.Edge t)) (duty_sends (duties.Ask (ask_duties.Edge t)) p) t (end_at t p) (end_at t asked) → ((end_at t asked).tcp.due.ack ≡ true) ⊎ Lives (end_at t p) (end_at t asked)
      paid due (pay.owed (owes_on.still still)) = inl (still due)
      paid due (pay.owed (owes_on.dies_now dead)) = inr (inr dead)
      paid due (pay.paid y sends own on side) = absurd (true≢false (sym on))

      by : Treats t p.profile (duties.Ask (ask_duties.Edge t) ∷ ds) (end_at t p) → ((end_at t asked).tcp.due.ack ≡ true) ⊎ Lives (end_at t p) (end_at t asked)
      by (treat.over dead) = inr (inr (let x : PathState Carried = with_agenda (duties.Ask (ask_duties.Edge t) ∷ ds) p in
          gone_stays (end_at t x) (end_at t asked) (path_far x asked (answered_steps values (duties.Ask (ask_duties.Edge t)) r x) t) dead))
      by (treat.rests idle none) = absurd (none.0 refl)
      by (treat.owes due soon) = paid due (answered_pays values t (duties.Ask (ask_duties.Edge t)) r (with_agenda (duties.Ask (ask_duties.Edge t) ∷ ds) p) refl)
      by (treat.bare h soon) = inr (none_lives h.none)
      by (treat.infinite some) = absurd (facts.finite t some)
      by (treat.broken is) = absurd (facts.whole t is)

  edge_rises : Facts (duties.Ask (ask_duties.Edge t) ∷ ds) p → Treats t p.profile (duties.Ask (ask_duties.Edge t) ∷ ds) (end_at t p) → RisesOwing (end_at t p) (end_at t (settled asked.agenda asked))
  edge_rises facts h rises = ⊎_elim
      (λ due. inl (ap (λ (x : Due). x.ack) (settled_due asked.agenda asked t) ∙ due))
      (λ lives. from_up (end_at t p) (end_at t asked) (end_at t (settled asked.agenda asked)) lives (settled_up t asked.agenda asked) rises)
      (edge_owes facts h)

module _ (t : Side) (d : Duty) (ds : List Duty) (r : Reply) (p : PathState Carried) where
  abbrev to_q : PathState Carried
  to_q = answered values d r (with_agenda (d ∷ ds) p)

  lives_rises : Lives (end_at t p) (end_at t to_q) → RisesOwing (end_at t p) (end_at t (settled to_q.agenda to_q))
  lives_rises lives = from_up (end_at t p) (end_at t to_q) (end_at t (settled to_q.agenda to_q)) lives (settled_up t to_q.agenda to_q)

  other_rises : is_event d ≡ false → is_edge d ≡ false → RisesOwing (end_at t p) (end_at t (settled to_q.agenda to_q))
  other_rises other none = lives_rises (inl (answered_edge t d r (with_agenda (d ∷ ds) p) other none).same)

-- as a copy comes the end was quiet, or it is dead
event_rises : (t : Side) (ds : List Duty) (r : Reply) (p : PathState Carried) → Ready t (duties.Step step_duties.Events ∷ ds) p.profile (end_at t p)
    → let q : PathState Carried = answered values (duties.Step step_duties.Events) r (with_agenda (duties.Step step_duties.Events ∷ ds) p) in RisesOwing (end_at t p) (end_at t (settled q.agenda q))
event_rises t ds r p (ready.is_dead_now dead) =
    let d : Duty = duties.Step step_duties.Events in let x : PathState Carried = with_agenda (d ∷ ds) p in let q : PathState Carried = answered values d r x in
    lives_rises t d ds r p (inr (gone_stays (end_at t x) (end_at t q) (path_far x q (answered_steps values d r x) t) dead))
event_rises t ds r p (ready.is_quiet quiet lets) =
    let x : PathState Carried = with_agenda (duties.Step step_duties.Events ∷ ds) p in lives_rises t (duties.Step step_duties.Events) ds r p (event_lives r x t quiet (next_event x))
event_rises t ds r p (ready.passes low ahead) = absurd (⊎_elim (λ lead. lead) (λ rest. true≢false (sym rest.1.0)) ahead)

own_or_away : (t : Side) (u : Side) (ds : List Duty) (r : Reply) (p : PathState Carried) → Facts (duties.Ask (ask_duties.Edge u) ∷ ds) p → Treats t p.profile (duties.Ask (ask_duties.Edge u) ∷ ds) (end_at t p)
    → let q : PathState Carried = answered values (duties.Ask (ask_duties.Edge u)) r (with_agenda (duties.Ask (ask_duties.Edge u) ∷ ds) p) in RisesOwing (end_at t p) (end_at t (settled q.agenda q))
own_or_away t u ds r p facts h =
    let d : Duty = duties.Ask (ask_duties.Edge u) in let q : PathState Carried = answered values d r (with_agenda (d ∷ ds) p) in
    ⊎_elim
    (λ own. subst (λ s. Treats s p.profile (d ∷ ds) (end_at s p) → RisesOwing (end_at s p) (end_at s (settled q.agenda q))) own (λ h. edge_rises u ds r p facts h) h)
    (λ away. subst (λ s. RisesOwing (end_at s p) (end_at s (settled q.agenda q))) away (lives_rises (peer u) d ds r p (inl (away_edge d r (with_agenda (d ∷ ds) p) refl).same)))
    (sides t u)

duty_rises : (t : Side) (d : Duty) (ds : List Duty) (r : Reply) (p : PathState Carried) → Facts (d ∷ ds) p → Treats t p.profile (d ∷ ds) (end_at t p)
    → let q : PathState Carried = answered values d r (with_agenda (d ∷ ds) p) in RisesOwing (end_at t p) (end_at t (settled q.agenda q))
duty_rises t (duties.Step step_duties.Events) ds r p facts h = event_rises t ds r p (facts.ready t)
duty_rises t (duties.Ask (ask_duties.Edge u)) ds r p facts h = own_or_away t u ds r p facts h
duty_rises t d ds r p facts h = other_rises t d ds r p refl refl

takes_rises : (r : Reply) (p : PathState Carried) → Facts p.agenda p → AllSettled p → (t : Side) → RisesOwing (end_at t p) (end_at t (takes values r p))
takes_rises r p facts h t = by p.agenda facts (h t).treats
  where
    by : (ds : List Duty) → Facts ds p → Treats t p.profile ds (end_at t p) → RisesOwing (end_at t p) (end_at t (takes values r (with_agenda ds p)))
    by [] facts h = λ rises. absurd (omega (arith, rises))
    by (d ∷ ds) facts h = duty_rises t d ds r p facts h

begins_rises : (p : PathState Carried) (t : Side) → RisesOwing (end_at t p) (end_at t (begins_turn (record p { clock = p.until; until = p.until + 100 })))
begins_rises p t =
    let q : PathState Carried = record p { clock = p.until; until = p.until + 100 } in
    from_up (end_at t p) (end_at t p) (end_at t (begins_turn q)) (inl refl) (settled_up t start_of_turn (with_agenda start_of_turn q))

-- ---- the world

abbrev pub Known : PathState Carried → Type 0
Known p = Facts p.agenda p

nil_so : (ds : List Duty) → is_nil ds ≡ true → ds ≡ []
nil_so [] is = refl
nil_so (d ∷ ds) is = absurd (true≢false (sym is))

takes_on : (r : Reply) (m : Actor Carried) → OfPaths Known m → OfPaths AllSettled m → OfPaths AllSettled (member_takes values r m)
takes_on r (App a) facts h = tt
takes_on r (Path p) facts h = takes_settled r p facts h

next_on : (m : Actor Carried) → is_over m ≡ true → OfPaths Known m → OfPaths AllSettled m → OfPaths AllSettled (member_next m)
next_on (App a) over facts h = tt
next_on (Path p) over facts h =
    let nil = nil_so p.agenda over in begins_settled p (subst (λ ds. Facts ds p) nil facts) (subst (λ ds. AllSettled (with_agenda ds p)) nil h)

facts_so : (start : Start) (m : Actor Carried) → OfPaths IsReady m → OfPaths EndsGoByMappings m → OfPaths (IsFirstPath start) m → OfPaths IsNeverBroken m → OfPaths PathMaps m → OfPaths Known m
facts_so start (App a) ready goes first unbroken maps = tt
facts_so start (Path p) ready goes first unbroken maps = record {
  ready = ready.ends;
  harsh = (unbroken first.first).duties;
  whole = λ t is. whole t is;
  finite = λ t some. true≢false (sym some ∙ ap is_some ((goes t).peer first.first));
  says = bare_says_nothing p maps;
}
  where
    whole : (t : Side) → IsToReset t p.agenda → ⊥
    whole t (resetting.broken reason is) = (unbroken first.first).broken t reason is
    whole t (resetting.is_reset reason is) = (unbroken first.first).is_reset t reason is
    whole t (resetting.stopped is) = (unbroken first.first).stopped t is

abbrev AtTwo : WorldState Carried → Type 0
AtTwo w = (c : ActorCrew Carried) → slice_get w.crew 2 ≡ Some c → OfPaths AllSettled c.member

module _ (start : Start) (mild : IsMildStart start) where
  pub facts_at : (turns : List Turn) (c : ActorCrew Carried) → slice_get (reached values start turns).crew 2 ≡ Some c → OfPaths Known c.member
  facts_at turns c there = facts_so start c.member ((each_is_ready values start turns).each 2 c there) ((mapping_is_kept start turns mild).each 2 c there) (each_first start turns mild.plain.size c there)
      ((never_breaks start turns mild).each 2 c there) ((each_maps start turns mild).each 2 c there)

  turn_on : (turn : Turn) (w : WorldState Carried) (c : ActorCrew Carried) → slice_get w.crew 2 ≡ Some c → OfPaths Known c.member → OfPaths AllSettled c.member
      → (d : ActorCrew Carried) × (slice_get (after_turn values turn w).crew 2 ≡ Some d) × OfPaths AllSettled d.member
  turn_on turn w c there facts h =
      let found = turn_by values (λ books c d. OfPaths Known c.member → OfPaths AllSettled c.member → OfPaths AllSettled d.member) (λ books c facts h. h)
      (λ books ask c asks facts h. takes_on (answer_to books ask) c.member facts h) (λ books stamp c over facts h. next_on c.member over facts h) turn w 2 c there in
      (found.0, found.1, found.2 facts h)

  step_on : (turns : List Turn) (turn : Turn) → AtTwo (reached values start turns) → AtTwo (after_turn values turn (reached values start turns))
  step_on turns turn h d there = by (slice_get (reached values start turns).crew 2) refl
    where
      by : (o : Option (ActorCrew Carried)) → slice_get (reached values start turns).crew 2 ≡ o → OfPaths AllSettled d.member
      by None was = absurd (let none = none_stays values turn (reached values start turns) 2 was in let found : None ≡ Some d = sym none ∙ there in cc)
      by (Some c) was =
          let next = turn_on turn (reached values start turns) c was (facts_at turns c was) (h c was) in
          subst (λ (y : ActorCrew Carried). OfPaths AllSettled y.member) (same_Some next.0 d (sym next.1 ∙ there)) next.2

  run_on : (before more : List Turn) → AtTwo (reached values start before) → AtTwo (reached values start (before ++ more))
  run_on before [] h = subst (λ ts. AtTwo (reached values start ts)) (sym (append-nil before)) h
  run_on before (turn ∷ more) h = subst (λ ts. AtTwo (reached values start ts)) (append_assoc before (turn ∷ []) more)
      (run_on (before ++ turn ∷ []) more (subst AtTwo (sym (run_append values before (turn ∷ []) (opened_world start))) (step_on before turn h)))

  opened_on : AtTwo (opened_world start)
  opened_on c there = (opened_lifted (λ c. OfPaths AllSettled c.member) start tt tt
      (λ number plan there t. settled_treats t start_of_turn (with_agenda start_of_turn (waiting_path (path_begins start number plan) start.lines)) (first number plan t))).each 2 c there
    where
      first : (number : ℕ) (plan : PathPlan) (t : Side) → let p : PathState Carried = waiting_path (path_begins start number plan) start.lines in Treats t p.profile start_of_turn (end_at t p)
      first number plan A = treat.rests refl tt
      first number plan B = treat.rests refl tt

  pub settled_at : (turns : List Turn) → AtTwo (reached values start turns)
  settled_at turns = run_on [] turns opened_on

-- ---- a turn

abbrev RisesTo : Actor Carried → Actor Carried → Type 0
RisesTo (Path p) (Path q) = Facts p.agenda p → AllSettled p → (t : Side) → RisesOwing (end_at t p) (end_at t q)
RisesTo (App a) (App b) = Unit {0}
RisesTo _ _ = ⊥

same_rises : (m : Actor Carried) → RisesTo m m
same_rises (App a) = tt
same_rises (Path p) = λ facts h t rises. absurd (omega (arith, rises))

member_rises : (r : Reply) (m : Actor Carried) → RisesTo m (member_takes values r m)
member_rises r (App a) = tt
member_rises r (Path p) = λ facts h. takes_rises r p facts h

member_begins : (m : Actor Carried) → RisesTo m (member_next m)
member_begins (App a) = tt
member_begins (Path p) = λ facts h t. begins_rises p t

pub what_rises_is_owed : WhatRisesIsOwed
what_rises_is_owed start turns turn mild p q here there s living rises =
    let w : WorldState Carried = reached values start turns in
    let found = turn_each values (λ c d. RisesTo c.member d.member) (λ c. same_rises c.member) (λ ask books c. member_rises (answer_to books ask) c.member) (λ stamp c over. member_begins c.member) turn w 2 here.crew here.there in
    let to : RisesTo here.crew.member there.crew.member = subst (λ (y : ActorCrew Carried). RisesTo here.crew.member y.member) (same_Some found.0 there.crew (sym found.1 ∙ there.there)) found.2 in
    let path : RisesTo (Path p) (Path q) = subst (λ m. RisesTo m (Path q)) here.is (subst (λ m. RisesTo here.crew.member m) there.is to) in
    ⊎_elim (λ due. inl due) (λ other. inr (⊎_elim (λ over. over) (λ dead. absurd (true≢false (sym dead ∙ living))) other))
    (path (subst (OfPaths Known) here.is (facts_at start mild turns here.crew here.there)) (subst (OfPaths AllSettled) here.is (settled_at start mild turns here.crew here.there)) s rises)
