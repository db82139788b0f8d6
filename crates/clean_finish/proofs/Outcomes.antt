-- The outcome of a world that keeps the relation: delivered once both applications were told the end, and else it goes on.
use Rattle.clean_finish.proofs.Words.{◌≡◌, refl, sym, ap, ◌∙◌, ℕ, ◌≤◌, Bool, true, false, ◌&&◌, if◌then◌else◌, List, map, arith, both_ways, Side, A, State}
use Rattle.clean_finish.proofs.Words.{is_closed_to_segments, is_dead, Dead, one_if, Carried, is_dead_or_listening, Setting, Lane, PathPlan, Start, Walker, Cast}
use Rattle.clean_finish.proofs.Words.{world_of, walking, are_all_dead, outcome_by, outcome_of, tells_abort, tells_end, was_told, IsPhase, Running, Opening}
use Rattle.clean_finish.proofs.Words.{Listening, HalfOpen, Open}
use Rattle.world_laws.specs.declared.outcome.Outcome.TheVariants.{Going, Delivered}
use Rattle.clean_finish.proofs.ReadersTold.{TellsAs}

open_alive : (state : State) → is_closed_to_segments state ≡ false → is_dead state ≡ false
open_alive Dead e = absurd (both_ways _ e refl)
open_alive state e = refl

-- no end dies
alive : (s : Side) (came una : ℕ) (finished : Bool) (state : State) → IsPhase s came una finished state → is_dead state ≡ false
alive s came una finished state (Opening side none first is) = ap is_dead is
alive s came una finished state (Listening side none first is) = ap is_dead is
alive s came una finished state (HalfOpen side one first is) = ap is_dead is
alive s came una finished state (Open one some is) = open_alive state is.closed

dead_by : (a b c : Bool) → a ≡ false → ((a && b) && c) ≡ false
dead_by a b c is = rw is refl

outcome_is : (aborted_a aborted_b told dead : Bool) → aborted_a ≡ false → aborted_b ≡ false → dead ≡ false
    → outcome_by aborted_a aborted_b told dead ≡ (if told then Delivered else Going)
outcome_is aborted_a aborted_b told dead is_a is_b is = rw (is_a, is_b, is) refl

pub told_by : (told : ℕ) (b : Bool) → told ≡ one_if b → 1 ≤ told → b ≡ true
told_by told true is some = refl
told_by told false is some = absurd (omega (arith, is, some))

module _ (start : Start) (plan : PathPlan) (k j : Setting) (s v : Lane) (t : Cast Carried) (h : Running start plan k j s v t)
    (told_a : TellsAs t.a t.at_a.list) (told_b : TellsAs t.b t.at_b.list)
  where
    none_dead : are_all_dead (world_of t).crew ≡ false
    none_dead = ap (λ (paths : List (Walker Carried)). are_all_dead (map walking paths)) h.alone
        ∙ dead_by (is_dead h.walker.path.a.tcp.state) (is_dead_or_listening h.walker.path.b.tcp.state) true
        (alive A h.back.control_came h.walker.path.a.tcp.send.una h.walker.path.a.tcp.send.finished h.walker.path.a.tcp.state h.own.subflow.phase)

    pub outcome : outcome_of (world_of t).crew ≡ (if t.a.told && t.b.told then Delivered else Going)
    outcome = outcome_is (was_told tells_abort t.at_a.list) (was_told tells_abort t.at_b.list)
        (was_told tells_end t.at_a.list && was_told tells_end t.at_b.list) (are_all_dead (world_of t).crew)
        told_a.unaborted told_b.unaborted none_dead
        ∙ ap (λ (b : Bool). if b && was_told tells_end t.at_b.list then Delivered else Going) (sym told_a.told)
        ∙ ap (λ (b : Bool). if t.a.told && b then Delivered else Going) (sym told_b.told)
