-- A list without an item shows none.
use Rattle.std.proofs.Common.{◌≡◌, refl, nat_eq, List, [], ◌∷◌, length, map}
use Rattle.std.proofs.Math.Dec.{eqb-suc-zero}
use Rattle.judge_rules.specs.declared.broken.Broken.{Broken}
use Rattle.rule_book.specs.State.{book_of}
use Rattle.rule_book.specs.declared.book.Book.{Book}
use Rattle.seen_streams.specs.Shows.{as_broken}
use Rattle.capture_verdict.specs.Ending.{has_none}

pub none_broken : (broken : List Broken) → nat_eq (length broken) 0 ≡ has_none (map as_broken broken)
none_broken [] = refl
none_broken (one ∷ others) = eqb-suc-zero (length others)

pub no_book : (books : List Book) → nat_eq (length books) 0 ≡ has_none (map book_of books)
no_book [] = refl
no_book (book ∷ books) = eqb-suc-zero (length books)
