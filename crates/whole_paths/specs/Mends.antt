-- What an expiry mends of what a side sent: as the first record goes again, each other one is to be sent.
use Rattle.std.specs.Prelude.{ℕ, ◌≡◌, ◌<◌, ◌⊎◌, true, List, [], ◌∷◌}
use Rattle.sides.specs.declared.side.Side.{Side}
use Rattle.subflow_send.specs.Records.{Record}
use Rattle.path_core.specs.State.{PathState, end_at}
use Rattle.path_core.specs.Values.{Carried}
use Rattle.world_laws.specs.Openings.{Start}
use Rattle.world_laws.specs.Worlds.{Turn}
use Rattle.whole_paths.specs.Expiries.{IsToSendAgain, RunsOut}
use Rattle.whole_paths.specs.Finish.{is_harmed}
use Rattle.whole_paths.specs.Mending.{IsOpenTurn}
use Rattle.whole_paths.specs.SentAgain.{OthersAreUnsent}
use Rattle.whole_paths.specs.Unmended.{AreWellBut}

-- The end is to send its first record again, and each other one is to be sent: of all its records that one alone may be lost.
pub record MendsSoon (s : Side) (p : PathState Carried) : Type 0 where
  pub again : IsToSendAgain s p
  pub others : OthersAreUnsent (end_at s p)
  pub well : (first : Record) (others : List Record) → (end_at s p).tcp.send.records ≡ first ∷ others → AreWellBut s (first.pos ∷ []) p

-- As the path becomes another one, unless it stays as it is: so it is once the timer ran out, as long as the first record doesn't go; and as that
-- goes it is harmed once more, or each record is well.
pub record MendsByExpiry (s : Side) (p q : PathState Carried) : Type 0 where
  pub fires : (tick : ℕ) → RunsOut s tick p → (end_at s p).tcp.timing.expiries < 5 → (q ≡ p) ⊎ MendsSoon s q
  pub waits : MendsSoon s p → (q ≡ p) ⊎ (MendsSoon s q ⊎ ((is_harmed s p q ≡ true) ⊎ AreWellBut s [] q))

-- by a turn of a mild connection between open ends
abbrev pub WhatRunsOutIsMended : Type 0
WhatRunsOutIsMended = (start : Start) (turns : List Turn) (turn : Turn) (h : IsOpenTurn start turns turn) (s : Side)
    → MendsByExpiry s h.before.path h.after.path
