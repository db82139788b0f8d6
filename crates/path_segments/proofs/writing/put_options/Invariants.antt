use Rattle.std.proofs.Common.{◌≡◌, ◌++◌, take}
use Rattle.std.specs.List.{flat_map}
use Rattle.path_segments.proofs.SaidOptions.{said_text}
use Rattle.path_segments.proofs.writing.put_options.Given as goal

-- the options so far, behind what stood there
abbrev pub invariant-loop-option : goal.invariant-loop-option
invariant-loop-option l =
    l.octets.items ≡ l.fn.octets.items ++ flat_map (said_text l.spelling l.from) (take l.option-index l.options)
