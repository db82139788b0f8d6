use Rattle.std.proofs.Common.{◌<◌, length, bit_xor, arith}
use Rattle.std.proofs.lemmas.List.{get_or_default}
use Rattle.std.proofs.lemmas.List.Edits.{map_over_more}
use Rattle.key_material.proofs.keyed_hash.mix.Goals as goal

pub loop-octet-preserved : goal.loop-octet-preserved
loop-octet-preserved c =
    let inside : c.loop-octet.octet-index < length c.loop-octet.octets = omega arith in
    map_over_more (λ octet. bit_xor octet c.args.pad) c.args.octets.now c.loop-octet.octets c.loop-octet.octet-index _
    (omega arith) c.loop-octet.invariant (get_or_default c.loop-octet.octets c.loop-octet.octet-index 0 _ inside)
