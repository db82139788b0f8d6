use Rattle.std.proofs.Common.{◌≡◌, ◌++◌, string_bytes, drop}
use Rattle.link_script.specs.Writing.{behind}
use Rattle.link_script.proofs.writing.put_words.Given as goal

abbrev pub invariant-loop-word : goal.invariant-loop-word
invariant-loop-word l = string_bytes l.text ++ behind (drop l.word-index l.words) ≡ string_bytes l.fn.text ++ behind l.words
