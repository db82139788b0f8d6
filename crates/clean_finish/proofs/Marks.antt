-- The marks of a send book.
use Rattle.clean_finish.proofs.Words.{◌≡◌, ℕ, ◌+◌, ◌-◌, min, List, ◌++◌, length, arith, drop, replicate, length-replicate, Acked, ByteMark}
use Rattle.std.proofs.lemmas.List.{length-append, length-drop}

-- acknowledging marks leaves their number
pub ack_length : (n : ℕ) (marks : List ByteMark) → length (replicate (min n (length marks)) Acked ++ drop n marks) ≡ length marks
ack_length n marks =
    sum (length-append (replicate (min n (length marks)) Acked) (drop n marks)) (length-replicate (min n (length marks)) Acked) (length-drop n marks)
  where
    sum : {x y z l : ℕ} → x ≡ y + z → y ≡ min n l → z ≡ l - n → x ≡ l
    sum is a b = omega (arith, is, a, b)
