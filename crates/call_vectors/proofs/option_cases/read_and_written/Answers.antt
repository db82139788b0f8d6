use Rattle.std.proofs.Common.{◌<◌, sym, arith}
use Rattle.std.proofs.lemmas.List.Elements.{All-from_get_or}
use Rattle.mptcp_options.specs.Value.{value_of}
use Rattle.mptcp_options.proofs.OptionLaws.{may_be_written}
use Rattle.call_vectors.proofs.option_cases.read_and_written.Goals as goal

pub write-requires : goal.write-requires
write-requires c =
    (may_be_written c.args.octets.now c.args.checksum (value_of c.in-Known.option)
    (All-from_get_or (λ x. x < 256) c.args.octets.now 0 (λ i within. omega (arith, c.type_inv.octets i)))
    c.requires (sym c.in-Known.ensures.meaning)).0
