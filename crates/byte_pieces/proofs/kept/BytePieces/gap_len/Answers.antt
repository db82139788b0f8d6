use Rattle.std.proofs.Common.{◌+◌, ◌-◌, ◌^◌, ◌≤◌, ap, ◌∙◌, arith}
use Rattle.byte_pieces.specs.Places.{gap_len}
use Rattle.byte_pieces.proofs.Gap.{gap-first, gap-bound, gap-none}
use Rattle.byte_pieces.proofs.kept.BytePieces.gap_len.Goals as goal

pub returns-in-Some-clause-value : goal.returns-in-Some-clause-value
returns-in-Some-clause-value c =
    gap-first c.self.inside.from (2 ^ 62) c.self.inside.pieces.items c.in-Some.first.now c.self.invariant.0 c.in-Some.ensures.item.3.0 c.in-Some.ensures.lookup
    ∙ ap (λ v. gap_len v.places) c.self.view_is

pub returns-in-Some-clause-bound : goal.returns-in-Some-clause-bound
returns-in-Some-clause-bound c =
    let bound : c.self.inside.from + (c.in-Some.first.now.at - c.self.inside.from) ≤ 2 ^ 62 =
    gap-bound c.self.inside.from (2 ^ 62) c.self.inside.pieces.items c.in-Some.first.now c.self.invariant.0 c.in-Some.ensures.item.3.0 c.in-Some.ensures.lookup in
    omega (arith, bound, ap (λ v. v.from) c.self.view_is)

pub returns-in-None-clause-value : goal.returns-in-None-clause-value
returns-in-None-clause-value c =
    gap-none c.self.inside.from c.self.inside.pieces.items c.in-None.ensures.item.3 ∙ ap (λ v. gap_len v.places) c.self.view_is
