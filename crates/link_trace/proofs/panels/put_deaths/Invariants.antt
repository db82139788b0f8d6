use Rattle.std.proofs.Common.{◌≡◌, ◌++◌, drop, string_bytes}
use Rattle.std.specs.List.{flat_map}
use Rattle.link_trace.specs.Panels.{death_of}
use Rattle.link_trace.proofs.panels.put_deaths.Given as goal

abbrev pub invariant-loop-death : goal.invariant-loop-death
invariant-loop-death l =
    string_bytes l.text ++ flat_map (death_of l.scale) (drop l.death-index l.deaths) ≡ string_bytes l.initial.text ++ flat_map (death_of l.scale) l.deaths
