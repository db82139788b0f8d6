use Rattle.std.proofs.Common.{◌≡◌, Some, drop, map, option_map}
use Rattle.std.specs.Prelude.{string_bytes}
use Rattle.judge_call.specs.Words.{all_asked, as_asked, nothing_asked}
use Rattle.judge_call.proofs.line.asked_of.Given as goal

abbrev pub invariant-loop-word : goal.invariant-loop-word
invariant-loop-word l =
    all_asked (option_map as_asked l.asked) (map string_bytes (drop l.word-index l.words)) ≡ all_asked (Some nothing_asked) (map string_bytes l.words)
