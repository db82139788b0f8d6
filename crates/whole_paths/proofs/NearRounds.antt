-- Where a direction owes nothing each record is well, and its end is told soon.
use Rattle.std.proofs.Common.{◌⊎◌, inl, ⊎_elim, ◌≤◌, List}
use Rattle.sides.specs.declared.side.Side.{Side}
use Rattle.path_core.specs.State.{PathState, end_at}
use Rattle.path_core.specs.Values.{Carried, values}
use Rattle.world_laws.specs.Openings.{Start}
use Rattle.world_laws.specs.RoundDone.{reached}
use Rattle.world_laws.specs.Worlds.{Turn}
use Rattle.whole_paths.specs.Delivery.{IsAllThere}
use Rattle.whole_paths.specs.Directions.{OwesAlong}
use Rattle.whole_paths.specs.Finish.{IsPathAt}
use Rattle.whole_paths.specs.Mild.{IsMildStart}
use Rattle.whole_paths.specs.NearRounds.{WhatOwesNoneIsAcknowledged}
use Rattle.whole_paths.specs.OpenCourses.{IsOpenAfter}
use Rattle.whole_paths.specs.SegmentRounds.{Rounds}
use Rattle.whole_paths.specs.SentInOrder.{sent_up_to}
use Rattle.whole_paths.proofs.ClearRounds.{eight_rounds_acknowledge}
use Rattle.whole_paths.proofs.Directions.{none_is_owed}
use Rattle.whole_paths.proofs.RoundSteps.{Between, between, open_first}
use Rattle.whole_paths.proofs.SegmentRounds.{stays_there}

module _ (start : Start) (v a u : List Turn) (mild : IsMildStart start) (first : Rounds start 4 v a) (second : Rounds start 4 a u) (s : Side) (p q : PathState Carried)
    (here : IsPathAt 0 (reached values start v) p) (there : IsPathAt 0 (reached values start u) q) where
  abbrev Done : Type 0
  Done = IsAllThere s (reached values start u) ⊎ (sent_up_to (end_at s p).tcp.send ≤ (end_at s q).tcp.send.una)

  to_end : Between start a u
  to_end = between start 3 a u second

  middle : IsOpenAfter start a
  middle = open_first start a to_end.more to_end.stays_open

  from_a : IsAllThere s (reached values start a) → Done
  from_a all = inl (stays_there start mild a u s to_end all)

  acknowledged : OwesAlong start s 0 v → OwesAlong start s 0 a → Done
  acknowledged none_first none_then = ⊎_elim
      (λ all. from_a (stays_there start mild v a s (between start 3 v a first) all))
      (λ well. ⊎_elim (λ all. from_a all) (λ then_well. eight_rounds_acknowledge start v a u mild first second s p middle.path q here middle.here there well.0 then_well.1)
      (none_is_owed start a s middle.path middle.here none_then))
      (none_is_owed start v s p here none_first)

pub what_owes_none_is_acknowledged : WhatOwesNoneIsAcknowledged
what_owes_none_is_acknowledged start v a u mild first second s none_first none_then p q here there = acknowledged start v a u mild first second s p q here there none_first none_then
