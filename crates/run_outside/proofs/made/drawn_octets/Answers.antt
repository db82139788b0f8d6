use Rattle.std.proofs.Common.{arith}
use Rattle.run_outside.proofs.Drawing.{octets_drawn}
use Rattle.run_outside.proofs.made.drawn_octets.Goals as goal

pub returns : goal.returns
returns c =
    octets_drawn c.args.seed c.args.stream c.args.count _ _ c.fill_bytes_via_u32.new.dst _ c.words_of-words.result _ c.requires
    (omega (arith, c.as_mut_slice.ensures.len, c.in_ok-octets.ensures.len)) (omega (arith, c.in_ok-octets.ensures.len)) c.words_of-words.ensures c.fill_bytes_via_u32.ensures
