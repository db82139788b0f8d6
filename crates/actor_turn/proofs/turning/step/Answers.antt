use Rattle.std.proofs.Common.{◌≡◌, ◌∙◌, ◌-◌, ◌^◌, ◌≤◌, ◌⊎◌, Err, inl, inr, Option, Some, ap, subst, sym, arith}
use Rattle.stamped_book.specs.declared.stamped.Pass.{Pass}
use Rattle.stamped_book.specs.declared.stamped.Refusal.{Refusal}
use Rattle.actor_desk.specs.declared.actor.Crew.{Crew}
use Rattle.actor_desk.specs.declared.ask.Ask.{Ask}
use Rattle.actor_turn.specs.Turns.{IsUsedUp}
use Rattle.actor_turn.proofs.turning.step.Goals as goal

used_up : {A : Type 0} (asks : A → Option Ask) (is_full : Ask → Pass → Type 0) (crew : Crew A) (ask : Ask)
    → asks crew.member ≡ Some ask → (2 ^ 62 - 1 ≤ crew.pass.stamp) ⊎ is_full ask crew.pass → IsUsedUp asks is_full crew
used_up asks is_full crew ask is (inl late) = inl late
used_up asks is_full crew ask is (inr full) = inr (ask, is, full)

pub returns-in-Err-clause-full : goal.returns-in-Err-clause-full
returns-in-Err-clause-full g c = λ stamps.
    let it : c.in-Err.refusal ≡ Refusal.Stamps = grind (arith, stamps) in
    let asked : c.in_ok-ask.field-0 ≡ g.A.Actor.asks c.args.crew.now.member = c.in_ok-ask.ensures.ask in
    let stays : c.answered.new.pass ≡ c.args.crew.now.pass = c.in-Err.ensures.pass_err in
    let full : (2 ^ 62 - 1 ≤ c.args.crew.now.pass.stamp) ⊎ g.D.Desk.is_full c.answered.new.desk c.in-Some.ask c.args.crew.now.pass
    = c.in-Err.ensures.full (ap Err it) in
    used_up g.A.Actor.asks (g.D.Desk.is_full c.answered.new.desk)
    (record { member = c.args.crew.now.member; pass = c.answered.new.pass; list = c.args.crew.now.list; refused = c.args.crew.now.refused })
    c.in-Some.ask (sym asked ∙ c.in-Some.is)
    (subst (λ (pass : Pass). (2 ^ 62 - 1 ≤ pass.stamp) ⊎ g.D.Desk.is_full c.answered.new.desk c.in-Some.ask pass) (sym stays) full)
