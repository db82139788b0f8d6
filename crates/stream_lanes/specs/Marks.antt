-- What has become of the written bytes, as far as a path's record depends on it.
use Rattle.std.specs.Prelude.{ℕ, zero, suc, ◌≡◌, ◌≤◌, Bool, true, false, Option, Some, None, List, [], ◌∷◌, count_by, slice_get}
use Rattle.send_book.specs.declared.mark.ByteMark.{ByteMark}
use Rattle.send_book.specs.declared.mark.ByteMark.TheVariants.{Acked, Held, Free}
use Rattle.send_book.specs.Tried.{contains}
use Rattle.send_book.specs.Marks.{is_acked, has_tried, is_untouched, is_held_rightly}

-- the byte is acknowledged, or this path has tried it: it is granted to the path no more
abbrev pub spent : ℕ → Option ByteMark → Bool
spent path None = false
spent path (Some Acked) = true
spent path (Some (Held holder tried)) = contains path tried
spent path (Some (Free tried)) = contains path tried

-- how many of the written bytes are granted to the path no more
abbrev pub spent_count : ℕ → List ByteMark → ℕ
spent_count path marks = count_by (λ m. spent path (Some m)) marks

-- the byte isn't acknowledged, and this path has tried it
abbrev pub tried : ℕ → Option ByteMark → Bool
tried path None = false
tried path (Some mark) = has_tried path mark

-- the path that holds the byte is among those that tried it
abbrev pub IsHeldRightly : ByteMark → Type 0
IsHeldRightly mark = is_held_rightly mark ≡ true

-- the first n bytes are acknowledged, and no other
abbrev pub AreAcked : ℕ → List ByteMark → Type 0
AreAcked n [] = n ≡ 0
AreAcked zero (m ∷ marks) = (is_acked m ≡ false) × AreAcked zero marks
AreAcked (suc n) (m ∷ marks) = (is_acked m ≡ true) × AreAcked n marks

-- byte n and those after it are as they were written: no path has tried one, and none is acknowledged
abbrev pub AreNew : ℕ → List ByteMark → Type 0
AreNew n marks = (place : ℕ) (mark : ByteMark) → n ≤ place → slice_get marks place ≡ Some mark → is_untouched mark ≡ true
