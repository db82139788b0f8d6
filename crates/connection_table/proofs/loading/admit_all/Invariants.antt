use Rattle.std.proofs.Common.{◌≡◌, ℕ, List, length, map, take}
use Rattle.connection_table.specs.Lists.{as_names}
use Rattle.run_outside.specs.Plan.{AddsAll}
use Rattle.connection_table.specs.Causes.{OnlyLoads}
use Rattle.connection_table.specs.Loads.{joined, loads_of}
use Rattle.connection_table.specs.ManyEnds.{AreAdmitted}
use Rattle.connection_table.proofs.loading.admit_all.Given as goal

-- the first connections were loaded and admitted
abbrev pub invariant-loop-entry : goal.invariant-loop-entry
invariant-loop-entry g l = record {
  count : length l.table ≡ l.entry-index;
  admitted : AreAdmitted (g.O.Outside.told l.initial.outside).content (map as_names (take l.entry-index l.listed)) l.table;
  only : OnlyLoads (g.O.Outside.told l.initial.outside) (g.O.Outside.told l.outside);
  calls : AddsAll (joined (map loads_of (map as_names (take l.entry-index l.listed)))) (g.O.Outside.told l.initial.outside).calls (g.O.Outside.told l.outside).calls;
  same_contents : (other : List ℕ) → (g.O.Outside.told l.outside).content other ≡ (g.O.Outside.told l.initial.outside).content other;
}
