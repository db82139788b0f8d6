-- What is promised of lanes that lose segments.
use Rattle.std.specs.Prelude.{ℕ, ◌+◌, ◌*◌, ◌<◌, ◌≤◌, ◌⊎◌}
use Rattle.whole_paths.specs.Lanes.Lane.{Setting, Lane, first_lane}
use Rattle.whole_paths.specs.Lanes.Moves.{IsTimeout, Run}
use Rattle.whole_paths.specs.Lanes.Going.{deadline}

-- a segment and its answer come before a timer that starts with the segment runs out
pub record HasRanges (k : Setting) : Type 0 where
  pub delay : k.delay ≤ 200

-- Rounds that are enough where so many lines harm: five or so for each segment and acknowledgement, and two greatest timeouts for each
-- line.
abbrev pub Enough : Setting → ℕ → ℕ → Type 0
Enough k harms n = deadline k (k.total + k.total + harms + 1) (2 * harms) < 100 * n

-- after these all is acknowledged, or the end gave up, whatever is lost
abbrev pub LossyLanesEnd : Type 0
LossyLanesEnd = (k : Setting) (timeout harms n : ℕ) (u : Lane) → IsTimeout k timeout → Run k (first_lane timeout harms) n u → Enough k harms n
    → (k.total ≤ u.acked) ⊎ (1 ≤ u.dead)

-- with four lines at most no end gives up, and all is acknowledged
abbrev pub LossyLanesFinish : Type 0
LossyLanesFinish = (k : Setting) → HasRanges k → (timeout harms n : ℕ) (u : Lane) → IsTimeout k timeout → harms ≤ 4
    → Run k (first_lane timeout harms) n u → Enough k harms n → k.total ≤ u.acked
