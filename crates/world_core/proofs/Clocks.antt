-- The tick of a path: behind a step it is the one at which the step stands, and it doesn't fall, nor come behind the round's end.
use Rattle.std.proofs.Common.{◌≡◌, refl, ap, ◌∙◌, ℕ, ◌<◌, ◌≤◌, Bool, true, false, if◌then◌else◌, nat_lt, Option, Some, None, option_and_then, IfSome, List, [], ◌∷◌, arith}
use Rattle.std.proofs.lemmas.Bool.{ltb-true}
use Rattle.path_segments.specs.Heard.{HeardSegment}
use Rattle.sides.specs.declared.side.Side.{Side}
use Rattle.sides.specs.declared.side.Side.TheVariants.{A}
use Rattle.actor_desk.specs.declared.ask.Reply.{Reply}
use Rattle.actor_desk.specs.Words.{is_nil, tail_of}
use Rattle.path_agenda.specs.Agenda.{emission, leaves}
use Rattle.path_agenda.specs.declared.duty.Duty.{Duty}
use Rattle.path_agenda.specs.declared.duty.AskDuty.{AskDuty}
use Rattle.path_agenda.specs.declared.duty.SilentDuty.{SilentDuty}
use Rattle.path_agenda.specs.declared.duty.StepDuty.{StepDuty}
use Rattle.path_agenda.specs.declared.heard.Heard.{Heard}
use Rattle.path_core.specs.Codec.{Codec}
use Rattle.path_core.specs.Duties.{passed, answered}
use Rattle.path_core.specs.Events.{tick_of, earliest, before, next_event, after_line, happens_if}
use Rattle.path_core.specs.MpJoin.{join_begun, is_never}
use Rattle.path_core.specs.Looking.{first_tick, next_tick, tick_with}
use Rattle.path_core.specs.State.{at_tick, has_ended, PathState}
use Rattle.path_core.specs.Arrival.{copy_heard, heard_in}
use Rattle.path_store.specs.declared.lines.LineAction.{LineAction}
use Rattle.path_core.specs.declared.events.Event.{Event}
use Rattle.path_core.specs.Steps.{answers, takes, begins_turn}
use Rattle.link_model.specs.Steps.{arriving, after_delivery}
use Rattle.world_laws.specs.Writes.{Writes, OnlyAt, PathView, writes, side_of}
use Rattle.world_laws.proofs.Writes.Paths.{writes_no_more}
use Rattle.world_laws.proofs.Writes.Steps.{Lasts, unwritten, settled_lasts, begins_lasts}

-- ---- what happens next happens before the round's end

soon : {C : Type 0} (p : PathState C) (o : Option Event) → IfSome (option_and_then (before p.until) o) (λ e. tick_of e < p.until)
soon p None = tt
soon p (Some x) = (elim (nat_lt (tick_of x) p.until) as (λ b. nat_lt (tick_of x) p.until ≡ b → IfSome (if b then Some x else None) (λ e. tick_of e < p.until))
    [ true ↦ λ is. ltb-true (tick_of x) p.until is | false ↦ λ is. tt ]) refl

next_is_soon : {C : Type 0} (p : PathState C) → IfSome (next_event p) (λ e. tick_of e < p.until)
next_is_soon p = soon p (earliest p)

module _ {C : Type 0} where
  -- ---- the tick of the next step

  -- the tick of the next step isn't past
  event_later : (event : Option Event) (p : PathState C) → p.clock ≤ tick_with event p
  event_later = elim [ None ↦ λ p. omega arith | Some event ↦ λ p. omega arith ]

  pub next_later : (p : PathState C) → p.clock ≤ next_tick p
  next_later p = by p.agenda
    where
      by : (ds : List Duty) → p.clock ≤ first_tick ds p
      by [] = omega arith
      by (Duty.Step StepDuty.Events ∷ ds) = event_later (next_event p) p
      by (d ∷ ds) = omega arith

  -- nor behind the round's end
  event_within : (event : Option Event) (p : PathState C) → IfSome event (λ e. tick_of e < p.until) → p.clock ≤ p.until → tick_with event p ≤ p.until
  event_within = elim [ None ↦ λ p soon before. before | Some event ↦ λ p soon before. omega (arith, soon, before) ]

  next_within : (p : PathState C) → p.clock ≤ p.until → next_tick p ≤ p.until
  next_within p before = by p.agenda
    where
      by : (ds : List Duty) → first_tick ds p ≤ p.until
      by [] = before
      by (Duty.Step StepDuty.Events ∷ ds) = event_within (next_event p) p (next_is_soon p) before
      by (d ∷ ds) = before

  -- ---- what is written

  -- the clock of what is written stands at the same tick
  abbrev Keeps : PathState C → PathState C → Type 0
  Keeps p q = q.clock ≡ p.clock

  either_keeps : (b : Bool) (q r p : PathState C) → Keeps p q → Keeps p r → Keeps p (if b then q else r)
  either_keeps = elim [ true ↦ λ q r p x y. x | false ↦ λ q r p x y. y ]

  passed_keeps : (d : Duty) (p : PathState C) → Keeps p (passed d p)
  passed_keeps (Duty.Silent (SilentDuty.Timer s)) p = refl
  passed_keeps (Duty.Step (StepDuty.Heard s index)) p = refl
  passed_keeps (Duty.Silent (SilentDuty.Keep s)) p = refl
  passed_keeps (Duty.Ask (AskDuty.CheckFailed s)) p = refl
  passed_keeps (Duty.Silent (SilentDuty.PassFin s)) p = refl
  passed_keeps _ p = refl

  -- where the tick may not be written
  kept_by : (s : Side) (w : Writes) (p q : PathState C) → w.events ≡ false → OnlyAt s w p q → Keeps p q
  kept_by s w p q events x = unwritten w.events p.clock q.clock events (ap (λ (v : PathView C). v.clock) x.same)

  keeps_last : Lasts (λ (p q : PathState C). Keeps p q)
  keeps_last = record { agenda = λ ds p. refl; chains = λ p q r x y. y ∙ x; passes = λ d p. passed_keeps d p }

  line_keeps : (action : LineAction) (p : PathState C) → Keeps p (after_line action p)
  line_keeps LineAction.Die p = refl
  line_keeps (LineAction.Prio s backup) p = refl
  line_keeps (LineAction.Announce s id) p = refl
  line_keeps (LineAction.Withdraw s id) p = refl

  copy_keeps : (s : Side) (heard : Option HeardSegment) (p : PathState C) → Keeps p (copy_heard s heard p)
  copy_keeps s None p = refl
  copy_keeps s (Some h) p = refl

  begun_keeps : (r : Reply) (dead living : List Duty) (p : PathState C) → Keeps p (join_begun r dead living p)
  begun_keeps r dead living p = either_keeps (is_never r) _ _ p refl refl

  event_comes : (k : Codec C) (event : Option Event) (r : Reply) (p : PathState C) → (happens_if k event r p).clock ≡ tick_with event p
  event_comes k None r p = refl
  event_comes k (Some (Event.Joins tick)) r p = begun_keeps r (leaves A) (emission A) (record (at_tick tick p) { joined_at = None })
  event_comes k (Some (Event.Takes line)) r p = line_keeps line.action (record (at_tick line.tick p) { lines = tail_of p.lines })
  event_comes k (Some (Event.Arrives due)) r p =
      copy_keeps due.to (heard_in k due.to (arriving due p.link) p) (record (at_tick due.tick p) { link = after_delivery due p.link })
  event_comes k (Some (Event.Fires s tick)) r p = refl

  answered_comes : (k : Codec C) (d : Duty) (ds : List Duty) (r : Reply) (p : PathState C) → (answered k d r p).clock ≡ first_tick (d ∷ ds) p
  answered_comes k (Duty.Step StepDuty.Events) ds r p = event_comes k (next_event p) r p
  answered_comes k d ds r p = kept_by (side_of d) (writes d) p _ refl (writes_no_more k d r p)

  answers_comes : (k : Codec C) (ds : List Duty) (r : Reply) (p : PathState C) → is_nil ds ≡ false → (answers k ds r p).clock ≡ first_tick ds p
  answers_comes k [] r p going = cc
  answers_comes k (d ∷ ds) r p going = answered_comes k d ds r p

  -- ---- behind a step

  settled_keeps : (k : Codec C) (r : Reply) (p : PathState C) → (takes k r p).clock ≡ (answers k p.agenda r p).clock
  settled_keeps k r p = let q : PathState C = answers k p.agenda r p in settled_lasts (λ p q. Keeps p q) keeps_last q.agenda q

  -- after a step the clock is at the tick at which the step stood
  pub takes_clock : (k : Codec C) (r : Reply) (p : PathState C) → has_ended p ≡ false → (takes k r p).clock ≡ next_tick p
  takes_clock k r p going = settled_keeps k r p ∙ answers_comes k p.agenda r p going

  -- the tick doesn't fall, nor comes behind the round's end
  pub record Climbs (p q : PathState C) : Type 0 where
    pub rises : p.clock ≤ q.clock
    pub within : p.clock ≤ p.until → q.clock ≤ p.until

  -- by a reply
  pub takes_climbs : (k : Codec C) (r : Reply) (p : PathState C) → Climbs p (takes k r p)
  takes_climbs k r p = (elim p.agenda as (λ ds. p.agenda ≡ ds → Climbs p (takes k r p)) [
    | [] ↦ λ none. comes_to p.clock (omega arith) (λ before. before) (settled_keeps k r p ∙ ap (λ ds. (answers k ds r p).clock) none)
    | d ∷ ds ↦ λ some. comes_to (next_tick p) (next_later p) (next_within p) (takes_clock k r p (ap is_nil some))
  ]) refl
    where
      comes_to : (tick : ℕ) → p.clock ≤ tick → (p.clock ≤ p.until → tick ≤ p.until) → (takes k r p).clock ≡ tick → Climbs p (takes k r p)
      comes_to tick later within is = record { rises = omega (arith, later, is); within = λ before. let most = within before in omega (arith, most, is) }

  pub begun_clock : (p : PathState C) → (begins_turn p).clock ≡ p.clock
  begun_clock p = begins_lasts (λ p q. Keeps p q) keeps_last p
