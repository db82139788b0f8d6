-- The rows of several paths, and which of them leads.
use Rattle.std.specs.Prelude.{ℕ, ◌*◌, ◌<◌, ◌≤◌, Bool, nat_lt, ◌||◌, ◌&&◌, if◌then◌else◌, List, sum_by, All, Contains, Option}
use Rattle.std.specs.List.{reduce}
use Rattle.linked_increase.specs.declared.rows.Row.{Row}
use Rattle.linked_increase.specs.Fraction.{Fraction, ratio, IsAtMost, is_below, is_level}

-- the row of these numbers
abbrev pub row_of : ℕ → ℕ → ℕ → Row
row_of path window rtt = record { path = path; window = window; rtt = rtt }

-- a row that can be linked: a window of at most 2^20 octets, a round-trip time of at most a minute
pub record IsInRange (row : Row) : Type 0 where
  pub some_window : 0 < row.window
  pub window : row.window ≤ 1048576
  pub some_rtt : 0 < row.rtt
  pub rtt : row.rtt ≤ 60000

-- cwnd_total, the windows of all paths together
abbrev pub total : List Row → ℕ
total rows = sum_by (λ row. row.window) rows

-- cwnd_i / rtt_i
abbrev pub rate : Row → Fraction
rate row = ratio row.window row.rtt

-- cwnd_i / rtt_i^2
abbrev pub weight : Row → Fraction
weight row = ratio row.window (row.rtt * row.rtt)

-- row a goes before row b: its weight is greater, or as great and its path is lower
abbrev pub leads : Row → Row → Bool
leads a b = is_below (weight b) (weight a) || (is_level (weight a) (weight b) && nat_lt a.path b.path)

-- the one of two rows that goes before the other
abbrev pub leading : Row → Row → Row
leading a b = if leads b a then b else a

-- the one of these rows that goes before all others
abbrev pub leader : List Row → Option Row
leader rows = reduce leading rows

-- m is one of the rows, none has a greater weight, and none of as great a weight a lower path
pub record IsLeader (m : Row) (rows : List Row) : Type 0 where
  pub among : Contains rows m
  pub greatest : All (λ row. IsAtMost (weight row) (weight m)) rows
  pub lowest : All (λ row. IsAtMost (weight m) (weight row) → m.path ≤ row.path) rows
