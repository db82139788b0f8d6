use Rattle.std.proofs.Common.{◌≡◌, ◌≤◌, ◌++◌, length}
use Rattle.world_core.proofs.Opening.{paths_left}
use Rattle.world_core.proofs.input.put_paths.Given as goal

-- the actors so far and the paths left are all of them
abbrev pub invariant-loop-path : goal.invariant-loop-path
invariant-loop-path l = record {
  crew : l.crew.items ++ paths_left l.input.script l.input.file_a l.input.file_b l.path
      ≡ l.fn.crew.items ++ paths_left l.input.script l.input.file_a l.input.file_b 0;
  few : l.path ≤ length l.input.script.paths;
}
