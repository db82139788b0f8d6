use Rattle.std.specs.Prelude.{All, take}
use Rattle.path_segments.specs.Spelled.{CanSayOption}
use Rattle.path_segments.proofs.sayable.can_say_each.Given as goal

-- each so far can be said
abbrev pub invariant-loop-option : goal.invariant-loop-option
invariant-loop-option l = All (CanSayOption l.spelling l.from) (take l.option-index l.options)
