-- What is true of no line that a path has left: it comes by none, and has none left later.
use Rattle.std.proofs.Common.{◌≡◌, refl, sym, subst, ⊎_elim, ℕ, ◌+◌, nat_le, nat_lt, ◌==◌, Bool, true, false, if◌then◌else◌, Option, Some, None, List, [], ◌∷◌}
use Rattle.std.specs.List.{AllByRecursion, list_all}
use Rattle.std.specs.Option.{option_and_then}
use Rattle.std.proofs.lemmas.Bool.{and_parts}
use Rattle.sides.specs.declared.side.Side.{Side}
use Rattle.sides.specs.declared.side.Side.TheVariants.{A, B}
use Rattle.link_model.specs.Steps.{next_due}
use Rattle.link_model.specs.declared.flight.Due.{Due}
use Rattle.link_script.specs.declared.script.ScriptLine.{ScriptLine}
use Rattle.actor_desk.specs.Words.{tail_of}
use Rattle.actor_desk.specs.declared.ask.Reply.{Reply}
use Rattle.path_agenda.specs.declared.duty.Duty.{Duty}
use Rattle.path_agenda.specs.declared.duty.Duty.TheVariants as duties
use Rattle.path_agenda.specs.declared.duty.StepDuty.TheVariants as step_duties
use Rattle.path_store.specs.Lines.{events_from, is_later, only_at, with_event, with_line, with_some}
use Rattle.path_store.specs.declared.lines.LineAction.{LineAction}
use Rattle.path_store.specs.declared.lines.LineLeft.{LineLeft}
use Rattle.path_core.specs.Codec.{Codec}
use Rattle.path_core.specs.Duties.{answered}
use Rattle.path_core.specs.Events.{before, earlier, earliest, happens_if, next_copy, next_event, next_join, next_line, tick_of}
use Rattle.path_core.specs.State.{PathState}
use Rattle.path_core.specs.Steps.{begins_turn, takes}
use Rattle.path_core.specs.Timer.{next_fire}
use Rattle.path_core.specs.declared.events.Event.{Event}
use Rattle.path_core.specs.declared.events.Event.TheVariants as happenings
use Rattle.subflow_tcp.specs.declared.handshake.State.{State as EndPhase}
use Rattle.subflow_tcp.specs.States.{is_waiting}
use Rattle.world_laws.proofs.Writes.Steps.{Lasts, begins_lasts, takes_lasts}
use Rattle.whole_paths.proofs.InTime.{answered_same, happens_fewer, passed_same}

module _ (test : LineAction → Bool) where
  -- none of them is one of those
  abbrev pub Spares : List LineLeft → Type 0
  Spares lines = AllByRecursion (λ (line : LineLeft). test line.action ≡ false) lines

  tail_spares : (lines : List LineLeft) → Spares lines → Spares (tail_of lines)
  tail_spares [] h = tt
  tail_spares (line ∷ lines) h = h.1

  pub line_spares : (line : LineLeft) (lines : List LineLeft) → test line.action ≡ false → Spares lines → Spares (with_line line lines)
  line_spares line [] spares h = (spares, tt)
  line_spares line (first ∷ lines) spares h = by (is_later line first) (line_spares line lines spares h.1)
    where
      by : (b : Bool) → Spares (with_line line lines) → Spares (if b then line ∷ first ∷ lines else first ∷ with_line line lines)
      by true rest = (spares, h)
      by false rest = (h.0, rest)

  -- of this path alone
  pub only_spares : (named path : ℕ) (line : LineLeft) (lines : List LineLeft) → ((named == path) ≡ true → test line.action ≡ false) → Spares lines → Spares (with_some (only_at named path line) lines)
  only_spares named path line lines spares h = (elim (named == path) as (λ b. (b ≡ true → test line.action ≡ false) → Spares (with_some (if b then Some line else None) lines)) [ true ↦ λ spares. line_spares line lines (spares refl) h | false ↦ λ spares. h ]) spares

  -- of all lines of a script that pass a test
  pub events_spare : (path : ℕ) (passes : ScriptLine → Bool) → ((number : ℕ) (line : ScriptLine) (lines : List LineLeft) → passes line ≡ true → Spares lines → Spares (with_event path number line lines))
      → (number : ℕ) (script : List ScriptLine) (lines : List LineLeft) → list_all passes script ≡ true → Spares lines → Spares (events_from path number script lines)
  events_spare path passes each number [] lines all h = h
  events_spare path passes each number (line ∷ script) lines all h =
      let parts = and_parts (passes line) (list_all passes script) all in
      events_spare path passes each (number + 1) script (with_event path number line lines) parts.1 (each number line lines parts.0 h)

  -- a line that comes next is the first one
  abbrev IsSpared : Option Event → Type 0
  IsSpared (Some (happenings.Takes line)) = test line.action ≡ false
  IsSpared _ = Unit {0}

  earlier_spared : (x y : Option Event) → IsSpared x → IsSpared y → IsSpared (earlier x y)
  earlier_spared None y one other = other
  earlier_spared (Some x) None one other = one
  earlier_spared (Some x) (Some y) one other = elim (nat_le (tick_of x) (tick_of y)) as (λ b. IsSpared (if b then Some x else Some y)) [ true ↦ one | false ↦ other ]

  join_spared : (state : EndPhase) (o : Option ℕ) → IsSpared (next_join state o)
  join_spared state None = tt
  join_spared state (Some tick) = elim (is_waiting state) as (λ b. IsSpared (if b then Some (happenings.Joins tick) else None)) [ true ↦ tt | false ↦ tt ]

  line_spared : (lines : List LineLeft) → Spares lines → IsSpared (next_line lines)
  line_spared [] h = tt
  line_spared (line ∷ lines) h = h.0

  copy_spared : (o : Option Due) → IsSpared (next_copy o)
  copy_spared None = tt
  copy_spared (Some due) = tt

  fire_spared : (s : Side) (o : Option ℕ) → IsSpared (next_fire s o)
  fire_spared s None = tt
  fire_spared s (Some tick) = tt

  in_round : (until : ℕ) (o : Option Event) → IsSpared o → IsSpared (option_and_then (before until) o)
  in_round until None h = tt
  in_round until (Some event) h = elim (nat_lt (tick_of event) until) as (λ b. IsSpared (if b then Some event else None)) [ true ↦ h | false ↦ tt ]

module _ (test : LineAction → Bool) {C : Type 0} where
  -- what comes next is none of those
  pub no_harm_comes : (p : PathState C) → Spares test p.lines → (line : LineLeft) → next_event p ≡ Some (happenings.Takes line) → test line.action ≡ false
  no_harm_comes p spares line next =
      subst (IsSpared test) next (in_round test p.until (earliest p)
      (earlier_spared test (next_join p.a.tcp.state p.joined_at) _ (join_spared test p.a.tcp.state p.joined_at)
      (earlier_spared test (next_line p.lines) _ (line_spared test p.lines spares)
      (earlier_spared test (next_copy (next_due p.link.under_way)) _ (copy_spared test (next_due p.link.under_way))
      (earlier_spared test (next_fire A p.a.tcp.timing.timer) (next_fire B p.b.tcp.timing.timer) (fire_spared test A p.a.tcp.timing.timer) (fire_spared test B p.b.tcp.timing.timer))))))

  abbrev StaysSpared : PathState C → PathState C → Type 0
  StaysSpared p q = Spares test p.lines → Spares test q.lines

  event_stays : (k : Codec C) (o : Option Event) (r : Reply) (p : PathState C) → StaysSpared p (happens_if k o r p)
  event_stays k None r p h = h
  event_stays k (Some event) r p h = ⊎_elim (λ is. subst (Spares test) (sym is) h) (λ is. subst (Spares test) (sym is) (tail_spares test p.lines h)) (happens_fewer k event r p).lines

  answered_stays : (k : Codec C) (d : Duty) (r : Reply) (p : PathState C) → StaysSpared p (answered k d r p)
  answered_stays k (duties.Step step_duties.Events) r p h = event_stays k (next_event p) r p h
  answered_stays k d r p h = subst (Spares test) (sym (answered_same k d r p refl).lines) h

  spares_last : Lasts StaysSpared
  spares_last = record { agenda = λ ds p h. h; chains = λ p q r x y h. y (x h); passes = λ d p h. subst (Spares test) (sym (passed_same d p).lines) h }

  -- by each step, and as a path begins a turn
  pub takes_spares : (k : Codec C) (r : Reply) (p : PathState C) → Spares test p.lines → Spares test (takes k r p).lines
  takes_spares k r p h = takes_lasts StaysSpared spares_last k r p (λ d. answered_stays k d r p) h

  pub begins_spares : (p : PathState C) → Spares test p.lines → Spares test (begins_turn p).lines
  begins_spares p h = begins_lasts StaysSpared spares_last p h
