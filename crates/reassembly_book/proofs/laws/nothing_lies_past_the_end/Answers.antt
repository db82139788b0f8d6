use Rattle.reassembly_book.proofs.Bounds.{sound-after_calls, sound-opened, read_below_the_end}
use Rattle.reassembly_book.proofs.laws.nothing_lies_past_the_end.Goals as goal

pub returns : goal.returns
returns c = record { sound = λ calls capacity. sound-after_calls calls _ (sound-opened capacity); read = read_below_the_end }
