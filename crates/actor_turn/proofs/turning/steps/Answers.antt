use Rattle.std.proofs.Common.{◌≡◌, ◌∙◌, Option, Some, subst}
use Rattle.std.specs.Prelude.{IfSome}
use Rattle.actor_turn.proofs.Steps.{goes_on}
use Rattle.actor_turn.proofs.turning.steps.Goals as goal

-- where something is there, it is what is said of it
of_some : {X : Type 0} (P : X → Type 0) (o : Option X) (x : X) → o ≡ Some x → IfSome o P → P x
of_some P o x is h = subst (λ o. IfSome o P) is h

pub loop-refusal-preserved : goal.loop-refusal-preserved
loop-refusal-preserved g c = (
  goes_on g.A.Actor.asks g.A.Actor.takes c.args.crew.now c.loop-refusal.crew c.step.new.crew (g.D.Desk.notes c.args.desk.now)
      (g.D.Desk.notes c.loop-refusal.desk) (g.D.Desk.notes c.step.new.desk) c.loop-refusal.invariant.0 _ (λ note made. made.noted)
      (of_some _ _ _ c.in-Ok-Some.field-0-is c.in-Ok-Some.ensures.made),
  λ few. c.step.ensures.few (c.loop-refusal.invariant.1 few),
  c.step.ensures.origin ∙ c.loop-refusal.invariant.2,
  c.step.ensures.root ∙ c.loop-refusal.invariant.3,
  λ actor serves. c.step.ensures.serving actor (c.loop-refusal.invariant.4 actor serves),
)
