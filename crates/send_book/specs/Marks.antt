-- The marks of single bytes, and what a grant and a return make of them.
use Rattle.std.specs.Prelude.{ℕ, Bool, true, false, not, ◌==◌, if◌then◌else◌}
use Rattle.send_book.specs.declared.mark.ByteMark.{ByteMark}
use Rattle.send_book.specs.declared.mark.ByteMark.TheVariants.{Acked, Held, Free}
use Rattle.send_book.specs.Tried.{contains, has_none, insert}

abbrev pub is_acked : ByteMark → Bool
is_acked Acked = true
is_acked (Held path tried) = false
is_acked (Free tried) = false

abbrev pub is_held : ByteMark → Bool
is_held Acked = false
is_held (Held path tried) = true
is_held (Free tried) = false

abbrev pub is_free : ByteMark → Bool
is_free Acked = false
is_free (Held path tried) = false
is_free (Free tried) = true

-- the byte is held by this path
abbrev pub is_held_by : ℕ → ByteMark → Bool
is_held_by path Acked = false
is_held_by path (Held holder tried) = holder == path
is_held_by path (Free tried) = false

-- the byte is free, and this path has not tried it
abbrev pub is_free_for : ℕ → ByteMark → Bool
is_free_for path Acked = false
is_free_for path (Held holder tried) = false
is_free_for path (Free tried) = not (contains path tried)

-- the byte is not acknowledged, and this path has tried it
abbrev pub has_tried : ℕ → ByteMark → Bool
has_tried path Acked = false
has_tried path (Held holder tried) = contains path tried
has_tried path (Free tried) = contains path tried

-- the byte is as it was written: not acknowledged, and no path has tried it
abbrev pub is_untouched : ByteMark → Bool
is_untouched Acked = false
is_untouched (Held holder tried) = false
is_untouched (Free tried) = has_none tried

-- a free byte that is given to this path
abbrev pub given : ℕ → ByteMark → ByteMark
given path Acked = Acked
given path (Held holder tried) = Held holder tried
given path (Free tried) = Held path (insert path tried)

-- a byte that this path gives back, if it holds it
abbrev pub returned : ℕ → ByteMark → ByteMark
returned path Acked = Acked
returned path (Held holder tried) = if holder == path then Free tried else Held holder tried
returned path (Free tried) = Free tried

-- each holder is among those that have tried the byte
abbrev pub is_held_rightly : ByteMark → Bool
is_held_rightly Acked = true
is_held_rightly (Held path tried) = contains path tried
is_held_rightly (Free tried) = true
