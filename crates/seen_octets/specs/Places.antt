-- Which places were seen.
use Rattle.std.specs.Prelude.{ℕ, zero, suc, ◌≡◌, ◌+◌, ◌-◌, ◌^◌, ◌<◌, ◌≤◌, Bool, is_some, if◌then◌else◌, List}
use Rattle.first_runs.specs.declared.run.Run.{Run}
use Rattle.first_runs.specs.Runs.{told_at}
use Rattle.seen_octets.specs.declared.places.Stretch.{Stretch}

-- runs of places tell that it was seen
abbrev pub is_seen : List Run → ℕ → Bool
is_seen runs place = is_some (told_at runs place)

-- the first of so many places from one on that wasn't seen, the one behind them where all were
abbrev pub lowest_unseen : (ℕ → Bool) → ℕ → ℕ → ℕ
lowest_unseen seen from zero = from
lowest_unseen seen from (suc count) = if seen from then lowest_unseen seen (from + 1) count else from

-- The end of what was seen without a hole from a place on. Places are below 2^62.
unfoldable pub whole : (ℕ → Bool) → ℕ → ℕ
whole seen from = lowest_unseen seen from (2 ^ 62 - from)

-- places from one on, below another, as far as all are marked or none is
pub record IsStretch (marked : ℕ → Bool) (from to : ℕ) (stretch : Stretch) : Type 0 where
  pub some : from < stretch.end
  pub within : stretch.end ≤ to
  pub alike : (p : ℕ) → from ≤ p → p < stretch.end → marked p ≡ stretch.marked
