use Rattle.std.proofs.Common.{arith}
use Rattle.dss_checksum.proofs.Joining.{word_sum-append_part}
use Rattle.dss_checksum.proofs.mapping_sum.added.Goals as goal

pub returns-in-len1-up-clause-adds : goal.returns-in-len1-up-clause-adds
returns-in-len1-up-clause-adds c = λ before parity so_far.
    let joined = word_sum-append_part before c.args.part.now c.in-len1-up.len_at_least (omega arith) in omega (arith, joined)
