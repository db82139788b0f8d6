use Rattle.std.proofs.Common.{◌≡◌, ◌-◌, ◌++◌, string_bytes}
use Rattle.std.specs.List.{flat_map, range_with_len}
use Rattle.link_trace.specs.Panels.{key_of, keys_of}
use Rattle.link_trace.proofs.panels.put_keys.Given as goal

abbrev pub invariant-loop-path : goal.invariant-loop-path
invariant-loop-path l =
    string_bytes l.text ++ flat_map (key_of l.block l.strokes) (range_with_len l.path (l.block.paths - l.path))
    ≡ string_bytes l.initial.text ++ keys_of l.block l.strokes
