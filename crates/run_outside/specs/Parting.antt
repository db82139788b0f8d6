-- Parting a text at an octet.
use Rattle.std.specs.Prelude.{ℕ, ◌==◌, List}
use Rattle.std.specs.List.{before_first, after_first}

-- what stands before the first such octet, and what stands after it
abbrev pub parted_at : ℕ → List ℕ → List ℕ × List ℕ
parted_at separator text = (before_first (λ octet. octet == separator) text, after_first (λ octet. octet == separator) text)
