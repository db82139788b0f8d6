-- Rounds in which a direction of path 0 owes nothing, over any number of paths: all that had been sent is acknowledged.
use Rattle.std.specs.Prelude.{◌≤◌, ◌⊎◌, List}
use Rattle.sides.specs.declared.side.Side.{Side}
use Rattle.path_core.specs.State.{PathState, end_at}
use Rattle.path_core.specs.Values.{Carried, values}
use Rattle.world_laws.specs.Openings.{Start}
use Rattle.world_laws.specs.RoundDone.{reached}
use Rattle.world_laws.specs.Worlds.{Turn}
use Rattle.whole_paths.specs.Delivery.{IsAllThere}
use Rattle.whole_paths.specs.Directions.{OwesAlong}
use Rattle.whole_paths.specs.Finish.{IsPathAt}
use Rattle.whole_paths.specs.Mild.{IsMildStart}
use Rattle.whole_paths.specs.SegmentRounds.{Rounds}
use Rattle.whole_paths.specs.SentInOrder.{sent_up_to}

-- After eight rounds, as they begin and after the first four of which nothing is owed, SND.UNA has reached all that the side's end had sent, or all of its
-- stream is there.
abbrev pub WhatOwesNoneIsAcknowledged : Type 0
WhatOwesNoneIsAcknowledged = (start : Start) (v a u : List Turn) → IsMildStart start → Rounds start 4 v a → Rounds start 4 a u → (s : Side)
    → OwesAlong start s 0 v → OwesAlong start s 0 a → (p q : PathState Carried) → IsPathAt 0 (reached values start v) p → IsPathAt 0 (reached values start u) q
    → IsAllThere s (reached values start u) ⊎ (sent_up_to (end_at s p).tcp.send ≤ (end_at s q).tcp.send.una)
