-- What is done stands in front of what is still to be done.
--
-- A list that only loses its first element is an `ArrayVec` that stays, and the number of those that are done: the view
-- is `drop done items`, and of four calls `pop` and `replace_first` have an answer of one line (`proofs/Done` of
-- `path_agenda`). Parts are put together before the struct is made, since its value doesn't tell how much room those
-- that are done take.
use Rattle.std.proofs.Common.{◌≡◌, sym, ◌∙◌, ap, ℕ, ◌+◌, ◌<◌, length, drop, List}
use Rattle.std.proofs.Math.ListN.{set}
use Rattle.std.specs.List.{refill}
use Rattle.std.proofs.lemmas.List.{drop-drop, drop_more, drop-set, length-set, take_at}
use Rattle.path_agenda.specs.Words.{replaced}

module _ {X : Type 0} where
  pub one_more : (xs : List X) (n : ℕ) → drop (n + 1) xs ≡ drop 1 (drop n xs)
  one_more xs n = sym (drop-drop 1 n xs)

  pub in_place : (xs : List X) (n : ℕ) (x : X) → n < length xs → drop n (refill (length xs) xs (set xs n x)) ≡ replaced x (drop n xs)
  in_place xs n x within =
      ap (drop n) (take_at (set xs n x) _ (length xs) (length-set xs n x)) ∙ drop-set xs n x within ∙ sym (ap (replaced x) (drop_more xs n x within))
