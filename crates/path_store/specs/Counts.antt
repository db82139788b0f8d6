-- Counts that end at three.
use Rattle.std.specs.Prelude.{ℕ, ◌+◌, nat_lt, if◌then◌else◌}

-- one more, up to three
abbrev pub one_more : ℕ → ℕ
one_more n = if nat_lt n 3 then n + 1 else n
