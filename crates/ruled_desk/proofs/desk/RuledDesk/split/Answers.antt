use Rattle.ruled_desk.proofs.Words.{sym, ◌∙◌, ap, subst, true, arith, slice_set, is_out, AreLeft}
use Rattle.ruled_desk.proofs.Outs.{some_left, left_split}
use Rattle.ruled_desk.proofs.desk.RuledDesk.split.Goals as goal

pub split_seats-seats-requires-clause-parts : goal.split_seats-seats-requires-clause-parts
split_seats-seats-requires-clause-parts c =
    some_left c.root.inside.out c.args.actor c.root.inside.seats c.root.told (omega (arith, c.ranges.actor.fits)) (ap (λ r. is_out r.out c.args.actor) c.root.view_is ∙ c.requires.home) c.root.invariant

pub invariant_of-root : goal.invariant_of-root
invariant_of-root c =
    subst (AreLeft (slice_set c.root.inside.out c.args.actor true)) (sym c.split_seats-seats.ensures.left)
    (left_split c.root.inside.out c.args.actor c.root.inside.seats c.root.told (omega (arith, c.ranges.actor.fits)) (ap (λ r. is_out r.out c.args.actor) c.root.view_is ∙ c.requires.home) c.root.invariant)
