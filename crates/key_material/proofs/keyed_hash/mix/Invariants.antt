use Rattle.std.proofs.Common.{◌≡◌, ◌++◌, map, take, drop, bit_xor}
use Rattle.key_material.proofs.keyed_hash.mix.Given as goal

-- the octets so far are mixed, and the rest are as they were
abbrev pub invariant-loop-octet : goal.invariant-loop-octet
invariant-loop-octet l =
    l.octets
    ≡ map (λ octet. bit_xor octet l.pad) (take l.octet-index l.initial.octets) ++ drop l.octet-index l.initial.octets
