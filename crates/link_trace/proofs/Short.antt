-- The words of a fate are few, and so is the name of a path.
use Rattle.std.proofs.Common.{◌≡◌, ℕ, ◌+◌, ◌^◌, ◌<◌, ◌≤◌, ◌==◌, Bool, true, false, if◌then◌else◌, List, ◌++◌, length, length-append, codes, arith}
use Rattle.std.proofs.lemmas.Fmt.{length-decimal-le}
use Rattle.std.specs.Fmt.{decimal}
use Rattle.link_trace.specs.Multipath.{word_if}
use Rattle.link_model.specs.declared.fate.Fate.{Fate}
use Rattle.link_model.specs.declared.fate.Fate.TheVariants.{OnTime, Lost, Full, Late, Twice}
use Rattle.link_model.specs.declared.fate.SegmentFate.{SegmentFate}
use Rattle.link_model.specs.Fate.{ticks_of}
use Rattle.link_trace.specs.Fates.{arrival_words, fate_words}

decimal_short : (n : ℕ) → n < 2 ^ 33 → length (decimal n) ≤ 10
decimal_short n small = length-decimal-le 10 n (omega arith) (omega arith) (omega arith)

if_short : (b : Bool) (xs ys : List ℕ) → length xs ≤ 50 → length ys ≤ 50 → length (if b then xs else ys) ≤ 50
if_short true xs ys one other = one
if_short false xs ys one other = other

late_short : (ticks : ℕ) → ticks < 2 ^ 33 → length (codes "late by " ++ decimal ticks) ≤ 50
late_short ticks small = omega (arith, length-append (codes "late by ") (decimal ticks), decimal_short ticks small)

again_short : (ticks : ℕ) → ticks < 2 ^ 32 → length (codes "repeated after " ++ decimal ticks) ≤ 50
again_short ticks small = omega (arith, length-append (codes "repeated after ") (decimal ticks), decimal_short ticks (omega (arith, small)))

both_short : (waited ticks : ℕ) → waited < 2 ^ 32 → ticks < 2 ^ 32
    → length (codes "late by " ++ (decimal waited ++ (codes ", repeated after " ++ decimal ticks))) ≤ 50
both_short waited ticks early small =
    omega (
      arith,
      length-append (codes "late by ") (decimal waited ++ (codes ", repeated after " ++ decimal ticks)),
      length-append (decimal waited) (codes ", repeated after " ++ decimal ticks),
      length-append (codes ", repeated after ") (decimal ticks),
      decimal_short waited (omega (arith, early)),
      decimal_short ticks (omega (arith, small)),
    )

arrival_short : (waited : ℕ) (f : Fate) → waited < 2 ^ 32 → ticks_of f < 2 ^ 32 → length (arrival_words waited f) ≤ 50
arrival_short waited OnTime early small = if_short (waited == 0) (codes "on time") (codes "late by " ++ decimal waited) (omega arith) (late_short waited (omega (arith, early)))
arrival_short waited Lost early small = omega arith
arrival_short waited Full early small = omega arith
arrival_short waited (Late ticks) early small = late_short (waited + ticks) (omega (arith, early, small))
arrival_short waited (Twice ticks) early small =
    if_short
    (waited == 0)
    (codes "repeated after " ++ decimal ticks)
    (codes "late by " ++ (decimal waited ++ (codes ", repeated after " ++ decimal ticks)))
    (again_short ticks small)
    (both_short waited ticks early small)

word_short : (flag : Bool) (word : List ℕ) → length (word_if flag word) ≤ length word
word_short true word = omega arith
word_short false word = omega arith

pub fate_short : (f : SegmentFate) → f.waited < 2 ^ 32 → ticks_of f.arrival < 2 ^ 32 → length (fate_words f) < 2 ^ 16
fate_short f early small =
    let stripped = word_if f.stripped (codes ", stripped") in let altered = word_if f.altered (codes ", altered") in
    omega (
      arith,
      arrival_short f.waited f.arrival early small,
      length-append (arrival_words f.waited f.arrival) (stripped ++ altered),
      length-append stripped altered,
      word_short f.stripped (codes ", stripped"),
      word_short f.altered (codes ", altered"),
    )

pub name_short : (n : ℕ) → n < 2 ^ 64 → length (codes "path " ++ decimal n) < 2 ^ 16
name_short n small =
    omega (arith, length-append (codes "path ") (decimal n), length-decimal-le 20 n (omega arith) (omega arith) small)
