use Rattle.std.proofs.Common.{◌≡◌, ◌-◌, ◌*◌, ◌++◌, string_bytes}
use Rattle.std.specs.List.{flat_map, range_with_len}
use Rattle.link_trace.specs.Panels.{at_each, tick_of}
use Rattle.link_trace.specs.Rows.{capped}
use Rattle.link_trace.proofs.panels.put_each_tick.Given as goal

abbrev pub invariant-loop-n : goal.invariant-loop-n
invariant-loop-n l =
    string_bytes l.text ++ flat_map (λ n. tick_of l.scale (capped (l.step * n))) (range_with_len l.n (l.count - l.n))
    ≡ string_bytes l.initial.text ++ at_each (tick_of l.scale) l.step l.count
