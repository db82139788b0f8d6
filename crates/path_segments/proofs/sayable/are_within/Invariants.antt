use Rattle.std.specs.Prelude.{◌≡◌, ◌+◌, length, take}
use Rattle.std.specs.List.{flat_map}
use Rattle.path_segments.proofs.SaidOptions.{said_text}
use Rattle.path_segments.proofs.sayable.are_within.Given as goal

-- what is left, and the octets of the options so far
abbrev pub invariant-loop-option : goal.invariant-loop-option
invariant-loop-option l =
    l.left + length (flat_map (said_text l.spelling l.from) (take l.option-index l.options)) ≡ l.fn.room
