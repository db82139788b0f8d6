use Rattle.std.proofs.Common.{◌≡◌, ◌∙◌, ap, subst, IfOk, List, ℕ, length, arith}
use Rattle.pcap_text.specs.Blocks.{block_with}
use Rattle.pcap_text.proofs.Lengths.{length-packet_body}
use Rattle.pcap_text.proofs.blocks.packet.Goals as goal

pub block_with-requires : goal.block_with-requires
block_with-requires c =
    omega (arith, ap length (c.deref.ensures.value ∙ c.in_ok-body.ensures), length-packet_body c.args.seen.now c.args.octets.now c.args.comment.now, c.requires.octets, c.requires.comment)
