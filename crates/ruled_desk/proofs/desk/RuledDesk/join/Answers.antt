use Rattle.ruled_desk.proofs.Words.{sym, subst, false, slice_set, AreLeft}
use Rattle.ruled_desk.proofs.Outs.{one_left, left_join}
use Rattle.ruled_desk.proofs.desk.RuledDesk.join.Goals as goal

pub join_seats-requires-clause-parts : goal.join_seats-requires-clause-parts
join_seats-requires-clause-parts c = one_left c.root.inside.out c.root.inside.seats c.root.told c.root.invariant

pub invariant_of-root : goal.invariant_of-root
invariant_of-root c =
    subst (AreLeft (slice_set c.root.inside.out c.pass.inside.actor false)) (sym c.join_seats.ensures)
    (left_join c.root.inside.out c.pass.inside.actor c.root.inside.seats c.pass.inside.seats c.root.invariant c.pass.invariant)
