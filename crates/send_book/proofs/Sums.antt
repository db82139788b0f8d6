-- The acknowledged, held and free bytes are all.
use Rattle.std.proofs.Common.{◌≡◌, refl, ◌+◌, cond, List, [], ◌∷◌, length, count_by, arith}
use Rattle.send_book.specs.declared.mark.ByteMark.{ByteMark}
use Rattle.send_book.specs.declared.mark.ByteMark.TheVariants.{Acked, Held, Free}
use Rattle.send_book.specs.Marks.{is_acked, is_held, is_free}
use Rattle.send_book.proofs.RunMarks.{count_by-cons}

one_of_three : (m : ByteMark) → cond (is_acked m) 1 0 + cond (is_held m) 1 0 + cond (is_free m) 1 0 ≡ 1
one_of_three Acked = refl
one_of_three (Held path tried) = refl
one_of_three (Free tried) = refl

pub marks_add_up : (ms : List ByteMark) → count_by is_acked ms + count_by is_held ms + count_by is_free ms ≡ length ms
marks_add_up [] = refl
marks_add_up (m ∷ ms) =
    omega (arith, count_by-cons is_acked m ms, count_by-cons is_held m ms, count_by-cons is_free m ms, one_of_three m, marks_add_up ms)
