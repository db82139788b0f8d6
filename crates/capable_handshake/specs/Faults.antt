-- The words of the faults of a handshake's step.
use Rattle.std.specs.Prelude.{ℕ, List, ◌++◌, codes}
use Rattle.std.specs.Fmt.{decimal}
use Rattle.capable_handshake.specs.declared.fault.CapableFault.{CapableFault}
use Rattle.capable_handshake.specs.declared.fault.CapableFault.TheVariants.{NoOption, KeysDiffer}

abbrev pub fault_words : CapableFault → List ℕ
fault_words NoOption = codes "no MP_CAPABLE of this step"
fault_words (KeysDiffer own) = codes "the receiver's key is not " ++ decimal own
