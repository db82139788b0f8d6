-- Mappings that wait for octets. Each that was tried has a gap, a position that had no octet then; where no gap has got its octet there
-- is nothing to try.
use Rattle.std.specs.Prelude.{ℕ, zero, suc, ◌≡◌, ◌+◌, ◌<◌, ◌≤◌, Bool, true, false, ◌&&◌, ◌||◌, not, nat_le, nat_lt, is_none, Option, None, List, All, ◌++◌, filter}
use Rattle.seen_octets.specs.declared.octet.Octet.{Octet}
use Rattle.seen_octets.specs.Places.{is_seen}
use Rattle.judge_rules.specs.Mappings.{natural}
use Rattle.seen_streams.specs.declared.told.Waiting.{Waiting}
use Rattle.seen_streams.specs.declared.waits.Waits.{Waits}
use Rattle.seen_streams.specs.Mapped.{octets_of}
use Rattle.seen_streams.specs.Sums.{is_whole}

-- in the order in which they were told
abbrev pub all_waiting : Waits → List Waiting
all_waiting waits = waits.tried.items ++ waits.fresh.items

-- positions from one on, below another, may have got octets
abbrev pub is_reached : ℕ → ℕ → ℕ → Bool
is_reached from to position = nat_le from position && nat_lt position to

-- a gap that has no octet still, or may have got it
abbrev pub is_gap : Waits → (ℕ → Option Octet) → ℕ → Bool
is_gap waits octet position = is_seen waits.gaps position && (is_reached waits.from waits.to position || is_none (octet position))

-- one of so many positions from one on
abbrev pub any_of : (ℕ → Bool) → ℕ → ℕ → Bool
any_of is from zero = false
any_of is from (suc count) = is from || any_of is (from + 1) count

abbrev pub has_gap : Waits → (ℕ → Option Octet) → Waiting → Bool
has_gap waits octet one = any_of (is_gap waits octet) (natural one.mapping.position) (octets_of one.mapping)

abbrev pub HaveGaps : (ℕ → Option Octet) → Waits → Type 0
HaveGaps octet waits = All (λ one. has_gap waits octet one ≡ true) waits.tried.items

abbrev pub AreOpen : (ℕ → Option Octet) → List Waiting → Type 0
AreOpen octet waiting = All (λ one. is_whole octet one ≡ false) waiting

abbrev pub still_open : (ℕ → Option Octet) → List Waiting → List Waiting
still_open octet waiting = filter (λ one. not (is_whole octet one)) waiting

-- one of so many positions from one on that has no octet
pub record IsFree (octet : ℕ → Option Octet) (from count position : ℕ) : Type 0 where
  pub begun : from ≤ position
  pub within : position < from + count
  pub free : octet position ≡ None
