use Rattle.std.proofs.Common.{◌≡◌, drop, map}
use Rattle.outside_kit.specs.Memory.{content_named, stored}
use Rattle.outside_kit.proofs.memory.content_of.Given as goal

abbrev pub invariant-loop-file : goal.invariant-loop-file
invariant-loop-file l = content_named (map stored (drop l.file-index l.files)) l.name ≡ content_named (map stored l.files) l.name
