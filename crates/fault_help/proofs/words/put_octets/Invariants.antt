use Rattle.std.proofs.Common.{◌≡◌, ◌++◌, drop, map}
use Rattle.std.specs.Prelude.{string_bytes}
use Rattle.fault_help.specs.Words.{shown_octet}
use Rattle.fault_help.proofs.words.put_octets.Given as goal

abbrev pub invariant-loop-octet : goal.invariant-loop-octet
invariant-loop-octet l = string_bytes l.text ++ map shown_octet (drop l.octet-index l.octets) ≡ string_bytes l.fn.text ++ map shown_octet l.octets
