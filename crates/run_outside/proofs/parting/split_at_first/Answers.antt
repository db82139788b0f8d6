use Rattle.std.proofs.Common.{ℕ, List, sym, ◌∙◌, ap, arith}
use Rattle.std.proofs.lemmas.Grind.{common_steps}
use Rattle.run_outside.proofs.PartingLemmas.{parted_at-found, parted_at-whole}
use Rattle.run_outside.proofs.parting.split_at_first.Goals as goal

abbrev Parts : Type 0
Parts = List ℕ × List ℕ

pub returns-in-Some-clause-before : goal.returns-in-Some-clause-before
returns-in-Some-clause-before c =
    let parted = ap (λ (parts : Parts). parts.0) (parted_at-found c.args.separator c.args.text.now c.in-Some.at (sym c.first_place.ensures ∙ c.in-Some.is)) in cc (parted)

pub returns-in-Some-clause-after : goal.returns-in-Some-clause-after
returns-in-Some-clause-after c =
    let parted = ap (λ (parts : Parts). parts.1) (parted_at-found c.args.separator c.args.text.now c.in-Some.at (sym c.first_place.ensures ∙ c.in-Some.is)) in grind (arith, common_steps, parted)

pub returns-in-None-clause-before : goal.returns-in-None-clause-before
returns-in-None-clause-before c = sym (ap (λ (parts : Parts). parts.0) (parted_at-whole c.args.separator c.args.text.now (sym c.first_place.ensures ∙ c.in-None.is)))

pub returns-in-None-clause-after : goal.returns-in-None-clause-after
returns-in-None-clause-after c = sym (ap (λ (parts : Parts). parts.1) (parted_at-whole c.args.separator c.args.text.now (sym c.first_place.ensures ∙ c.in-None.is)))
