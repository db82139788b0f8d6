use Rattle.std.proofs.Common.{ℕ, ◌^◌, ◌≤◌, sym, subst}
use Rattle.seen_octets.specs.Places.{is_seen}
use Rattle.seen_octets.proofs.Whole.{whole_few}
use Rattle.seen_octets.proofs.places.SeenPlaces.whole.Goals as goal

pub returns-then-self-from-clause-few : goal.returns-then-self-from-clause-few
returns-then-self-from-clause-few c =
    subst (λ (n : ℕ). n ≤ 2 ^ 62) (sym c.self.invariant.1) (whole_few (is_seen c.self.inside.runs) c.self.inside.from c.self.invariant.0)

pub returns-else-self-from-clause-few : goal.returns-else-self-from-clause-few
returns-else-self-from-clause-few c =
    subst (λ (n : ℕ). n ≤ 2 ^ 62) (sym c.end_from.ensures) (whole_few (is_seen c.self.inside.runs) c.args.from c.requires)
