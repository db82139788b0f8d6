-- The books of connections go on, and the streams in them.
use Rattle.std.proofs.Common.{◌≡◌, refl, ap, ◌∙◌, sym, subst, ℕ, zero, suc, Bool, true, false, ◌⊎◌, inl, inr, if◌then◌else◌, nat_lt, Option, Some, None, option_map, List, [], ◌∷◌, ◌++◌, length}
use Rattle.std.proofs.Math.ListN.{set}
use Rattle.std.specs.List.{slice_get}
use Rattle.sides.specs.declared.side.Side.{Side}
use Rattle.sides.specs.declared.side.Side.TheVariants.{A, B}
use Rattle.sides.specs.Side.{peer}
use Rattle.seen_streams.specs.State.{StreamValue}
use Rattle.rule_book.specs.Judged.{grown_to}
use Rattle.rule_book.specs.State.{BookValue, JudgedValue, stream_at, with_stream}
use Rattle.judge_laws.specs.GoesOn.{GoesOn, StreamsGoOn, stream_in}
use Rattle.judge_laws.proofs.GoesOn.{goes_same, goes_then}

-- ---- a book

abbrev pub BookGoes : BookValue → BookValue → Type 0
BookGoes old new = (side : Side) → GoesOn (stream_at side old) (stream_at side new)

pub book_same : (book : BookValue) → BookGoes book book
book_same book side = goes_same (stream_at side book)

pub book_then : (a b c : BookValue) → BookGoes a b → BookGoes b c → BookGoes a c
book_then a b c first next side = goes_then (stream_at side a) (stream_at side b) (stream_at side c) (first side) (next side)

pub own_stream : (side : Side) (stream : StreamValue) (book : BookValue) → stream_at side (with_stream side stream book) ≡ stream
own_stream A stream book = refl
own_stream B stream book = refl

pub peers_stream : (side : Side) (stream : StreamValue) (book : BookValue) → stream_at (peer side) (with_stream side stream book) ≡ stream_at (peer side) book
peers_stream A stream book = refl
peers_stream B stream book = refl

pub stream_goes : (side : Side) (stream : StreamValue) (book : BookValue) → GoesOn (stream_at side book) stream → BookGoes book (with_stream side stream book)
stream_goes A stream book goes A = goes
stream_goes A stream book goes B = goes_same book.b
stream_goes B stream book goes A = goes_same book.a
stream_goes B stream book goes B = goes

-- also where gaps are counted
pub counted_goes : (side : Side) (stream : StreamValue) (gaps : ℕ) (book : BookValue) → GoesOn (stream_at side book) stream
    → BookGoes book (with_stream side stream (record book { gaps = gaps }))
counted_goes A stream gaps book goes A = goes
counted_goes A stream gaps book goes B = goes_same book.b
counted_goes B stream gaps book goes A = goes_same book.a
counted_goes B stream gaps book goes B = goes

-- ---- lists

pub set_there : {X : Type 0} → (xs : List X) (i : ℕ) (x y : X) → slice_get xs i ≡ Some y → slice_get (set xs i x) i ≡ Some x
set_there [] i x y h = cc
set_there (z ∷ xs) zero x y h = refl
set_there (z ∷ xs) (suc i) x y h = set_there xs i x y h

-- an item of a list one of whose items was set: the one that was set, or another, which stays
pub set_either : {X : Type 0} → (xs : List X) (i j : ℕ) (x y : X) → slice_get xs j ≡ Some y
    → ((i ≡ j) × (slice_get (set xs i x) j ≡ Some x)) ⊎ (slice_get (set xs i x) j ≡ Some y)
set_either [] i j x y h = cc
set_either (z ∷ xs) zero zero x y h = inl (refl, refl)
set_either (z ∷ xs) zero (suc j) x y h = inr h
set_either (z ∷ xs) (suc i) zero x y h = inr h
set_either (z ∷ xs) (suc i) (suc j) x y h = by (set_either xs i j x y h)
  where
    by : ((i ≡ j) × (slice_get (set xs i x) j ≡ Some x)) ⊎ (slice_get (set xs i x) j ≡ Some y)
        → ((suc i ≡ suc j) × (slice_get (set xs i x) j ≡ Some x)) ⊎ (slice_get (set xs i x) j ≡ Some y)
    by (inl both) = inl (ap suc both.0, both.1)
    by (inr stays) = inr stays

pub before_end : {X : Type 0} → (xs ys : List X) (i : ℕ) (x : X) → slice_get xs i ≡ Some x → slice_get (xs ++ ys) i ≡ Some x
before_end [] ys i x h = cc
before_end (z ∷ xs) ys zero x h = h
before_end (z ∷ xs) ys (suc i) x h = before_end xs ys i x h

pub grown_stays : {X : Type 0} → (count : ℕ) (one : X) (xs : List X) (i : ℕ) (x : X) → slice_get xs i ≡ Some x → slice_get (grown_to count one xs) i ≡ Some x
grown_stays count one xs i x h = by (nat_lt (length xs) count)
  where
    by : (b : Bool) → slice_get (if b then xs ++ one ∷ [] else xs) i ≡ Some x
    by true = before_end xs (one ∷ []) i x h
    by false = h

-- ---- all books

abbrev pub BooksGo : List BookValue → List BookValue → Type 0
BooksGo old new = (i : ℕ) (book : BookValue) → slice_get old i ≡ Some book → (later : BookValue) × (slice_get new i ≡ Some later) × BookGoes book later

pub books_same : (books : List BookValue) → BooksGo books books
books_same books i book h = (book, h, book_same book)

pub books_then : (a b c : List BookValue) → BooksGo a b → BooksGo b c → BooksGo a c
books_then a b c first next i book h =
    let mid = first i book h in
    let last = next i mid.0 mid.1 in
    (last.0, last.1, book_then book mid.0 last.0 mid.2 last.2)

pub books_grown : (count : ℕ) (one : BookValue) (books : List BookValue) → BooksGo books (grown_to count one books)
books_grown count one books i book h = (book, grown_stays count one books i book h, book_same book)

pub books_set : (books : List BookValue) (c : ℕ) (old new : BookValue) → slice_get books c ≡ Some old → BookGoes old new → BooksGo books (set books c new)
books_set books c old new there goes i book h = by (set_either books c i new book h)
  where
    some : (x y : BookValue) → Some x ≡ Some y → x ≡ y
    some x y e = cc

    by : ((c ≡ i) × (slice_get (set books c new) i ≡ Some new)) ⊎ (slice_get (set books c new) i ≡ Some book)
        → (later : BookValue) × (slice_get (set books c new) i ≡ Some later) × BookGoes book later
    by (inl both) =
        let same : old ≡ book = some old book (sym there ∙ ap (slice_get books) both.0 ∙ h) in
        (new, both.1, subst (λ (b : BookValue). BookGoes b new) same goes)
    by (inr stays) = (book, stays, book_same book)

-- ---- streams in them

pub streams_go : (old new : JudgedValue) → BooksGo old.books new.books → StreamsGoOn old new
streams_go old new books connection side stream h = by (slice_get old.books connection) refl h
  where
    some : (x y : StreamValue) → Some x ≡ Some y → x ≡ y
    some x y e = cc

    by : (o : Option BookValue) → slice_get old.books connection ≡ o → option_map (stream_at side) o ≡ Some stream
        → (later : StreamValue) × (stream_in new connection side ≡ Some later) × GoesOn stream later
    by None e h = cc
    by (Some book) e h =
        let next = books connection book e in (
          stream_at side next.0,
          ap (option_map (stream_at side)) next.1,
          subst (λ (s : StreamValue). GoesOn s (stream_at side next.0)) (some (stream_at side book) stream h) (next.2 side),
        )
