-- A number, read beside an expected position or number near the one that it was made of, gives that one back.
use Rattle.std.proofs.Common.{◌^◌, arith}
use Rattle.std.proofs.lemmas.Int.{ints}
use Rattle.seq_units.specs.Number.{position_near}
use Rattle.seq_units.specs.Widening.{widened}
use Rattle.seq_units.specs.Laws.{NumberIsReadBack, LowHalfIsWidenedBack}

pub position_near-number_of_32 : NumberIsReadBack (2 ^ 32)
unfolding position_near
position_near-number_of_32 base expected p near = grind (arith, ints)

pub position_near-number_of_64 : NumberIsReadBack (2 ^ 64)
unfolding position_near
position_near-number_of_64 base expected p near = grind (arith, ints)

pub widened-low_half : LowHalfIsWidenedBack
unfolding widened
widened-low_half expected wide distance near numbered = grind (arith, ints)
