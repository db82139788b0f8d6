-- The places of positions: a partial function from positions to places, as a finite map.
use Rattle.std.specs.Prelude.{ℕ, ◌+◌, ◌-◌}
use Rattle.std.specs.Ordering.{nat_cmp}
use Rattle.std.specs.FinMap.{FinMap, insert}
use Rattle.std.proofs.Common.{zero, suc}
use Rattle.dss_mapping.specs.declared.run.Run.{Run}

abbrev pub Places : Type 0
Places = FinMap nat_cmp ℕ

-- the places where so many positions from pos on have those from place on, whatever they had
unfoldable pub placed : ℕ → ℕ → ℕ → Places → Places
placed pos place zero places = places
placed pos place (suc count) places = insert (placed (pos + 1) (place + 1) count places) pos place

-- the positions of the run have its places, and all others what they had
unfoldable pub with_run : Run → Places → Places
with_run run places = placed run.pos run.place (run.to - run.pos) places
