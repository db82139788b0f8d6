use Rattle.std.proofs.Common.{◌≡◌, ℕ, ◌-◌, ◌<◌, ◌≤◌, true, false, Some}
use Rattle.dss_mapping.specs.Runs.{place_in}
use Rattle.dss_mapping.specs.Mappings.{place_at, Agree, HasNew}
use Rattle.dss_mapping.proofs.mappings.Mappings.first_answer.Given as goal

abbrev pub invariant-loop-at : goal.invariant-loop-at
invariant-loop-at l = record {
  onward : l.told.pos ≤ l.at;
  agree : Agree l.told l.at l.self.mappings;
  new : l.is_new ≡ true → HasNew l.told l.self.mappings;
  all : l.is_new ≡ false → (p : ℕ) → l.told.pos ≤ p → p < l.at → place_at l.self.mappings p ≡ Some (place_in p l.told);
}

abbrev pub decreases-loop-at : goal.decreases-loop-at
decreases-loop-at l = l.told.to - l.at
