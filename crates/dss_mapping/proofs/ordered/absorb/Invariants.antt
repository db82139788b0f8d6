use Rattle.std.proofs.Common.{◌≡◌, ◌+◌, drop}
use Rattle.dss_mapping.specs.Runs.{IsSound}
use Rattle.dss_mapping.specs.Kept.{absorbed, count_joined}
use Rattle.dss_mapping.proofs.ordered.absorb.Given as goal

abbrev pub invariant-loop-index : goal.invariant-loop-index
invariant-loop-index l = record {
  sound : IsSound l.joined;
  run : absorbed l.joined (drop l.index l.runs) ≡ absorbed l.fn.told l.runs;
  count : l.index + count_joined l.joined (drop l.index l.runs) ≡ count_joined l.fn.told l.runs;
}
