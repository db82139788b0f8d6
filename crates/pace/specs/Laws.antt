-- What is promised of lanes.
use Rattle.std.specs.Prelude.{ℕ, ◌+◌, ◌*◌, ◌<◌, ◌≤◌, ◌⊎◌, min, IfSome}
use Rattle.pace.specs.Lane.{Setting, Lane, Stage, all_left}
use Rattle.pace.specs.Rules.{opens_round, first_lane}
use Rattle.pace.specs.Going.{Going, Reason}
use Rattle.pace.specs.Moves.{Move}
use Rattle.pace.specs.Rounds.{Round, Course}
use Rattle.pace.specs.Ends.{Ended, Passed, Trail, Calm, calm_tick}

-- What is assumed of the numbers: the delay is at most two rounds; a payload, the least growth of a window
-- that is told and 31 octets fit into the window of a SYN; and nine rounds pass before a timer runs out.
pub record HasRanges (k : Setting) : Type 0 where
  pub delay : k.delay ≤ 200
  pub payload : 1 ≤ k.payload
  pub fits : k.payload + k.threshold + 31 ≤ k.least
  pub least : k.least ≤ k.buffer
  pub rto : 900 ≤ k.rto

-- P holds of each lane at every moment of a round
abbrev pub Always : ((k : Setting) (s : Lane) (t : ℕ) (p : Stage) (w : Lane) → Type 0) → Type 0
Always P = (k : Setting) → HasRanges k → (s : Lane) (t : ℕ) (p : Stage) (w : Lane) → Going k s t p w → P k s t p w

-- ---- what holds

-- what holds within a round holds as the first one begins, where the congestion window takes two payloads or more
abbrev pub LanesBegin : Type 0
LanesBegin = (k : Setting) → HasRanges k → (window : ℕ) → k.payload + k.payload ≤ window
    → Going k (first_lane window) k.rto all_left (first_lane window)

-- each move keeps it
abbrev pub MovesKeepIt : Type 0
MovesKeepIt = Always (λ k s t p w. (q : Stage) (u : Lane) → Move k s p w q u → Going k s t q u)

-- what holds within a round holds as one begins where the one before left the lane calm
abbrev pub CalmRoundsBegin : Type 0
CalmRoundsBegin = (k : Setting) → HasRanges k → (w : Lane) (c : Calm k w)
    → Going k (opens_round w) (calm_tick k w c) all_left (opens_round w)

-- no timer runs out in the round
abbrev pub NoTimerRunsOut : Type 0
NoTimerRunsOut = Always (λ k s t p w. IfSome w.timer (λ x. w.until ≤ x))

-- There is no third duplicate in a row, which the sending end would take for a loss (RFC 5681, section 3.2);
-- its receiving end sends one DATA_FIN at most.
abbrev pub NoThirdDuplicate : Type 0
NoThirdDuplicate = Always (λ k s t p w. w.said ≤ 1 → w.row ≤ 2)

-- ---- rounds

-- the first round leaves the lane calm
abbrev pub FirstRoundsEndCalm : Type 0
FirstRoundsEndCalm = (k : Setting) → HasRanges k → (window : ℕ) (u : Lane) → k.payload + k.payload ≤ window
    → Round k (first_lane window) u → Calm k u

-- each round from a calm lane leaves it calm, with the turns of both applications and the path over
abbrev pub LaterRoundsEndCalm : Type 0
LaterRoundsEndCalm = (k : Setting) → HasRanges k → (w u : Lane) → Calm k w → Round k (opens_round w) u
    → Passed k w u × Calm k u

-- in seven rounds the reader has read one payload more, or all that is left, once bytes may be sent
abbrev pub SevenRoundsBringAPayload : Type 0
SevenRoundsBringAPayload = (k : Setting) → HasRanges k → (w u : Lane) → Ended k w → 1 ≤ w.ready → Trail k 7 w u
    → min k.total (w.read + k.payload) ≤ u.read

-- in eight rounds something more is acknowledged, where a timer has a reason to run
abbrev pub EightRoundsBringNews : Type 0
EightRoundsBringNews = (k : Setting) → HasRanges k → (w u : Lane) → Ended k w → Reason k w → Trail k 8 w u
    → (w.acked < u.acked) ⊎ (w.control_acked < u.control_acked)

-- once all is read, the reader is told the end in six rounds
abbrev pub SixRoundsTellTheEnd : Type 0
SixRoundsTellTheEnd = (k : Setting) → HasRanges k → (w u : Lane) → Ended k w
    → 1 ≤ w.ready → 1 ≤ w.clear → k.total ≤ w.read → Trail k 6 w u → 1 ≤ u.told_end

-- Both readers are told the end after the first round, 14 more, and 7 for each payload of the longer file, in
-- whatever order the moves of a round come.
abbrev pub BothEndsAreTold : Type 0
BothEndsAreTold = (k j : Setting) → HasRanges k → HasRanges j → (a b : ℕ)
    → k.payload + k.payload ≤ a → j.payload + j.payload ≤ b → (n m : ℕ)
    → k.total ≤ n * k.payload → j.total ≤ n * j.payload → 7 * n + 14 ≤ m
    → (u x : Lane) → Course k j a b m u x → (1 ≤ u.told_end) × (1 ≤ x.told_end)
