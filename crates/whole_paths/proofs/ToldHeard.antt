-- What is told is heard, where the windows are and each DATA_FIN comes: what the peer's side received is acknowledged in four rounds.
use Rattle.std.proofs.Common.{refl, ◌⊎◌, inl, inr, ⊎_elim, ◌≤◌, arith, List}
use Rattle.sides.specs.declared.side.Side.{Side}
use Rattle.sides.specs.Side.{peer}
use Rattle.send_book.specs.State.{acked_len}
use Rattle.reassembly_book.specs.State.{received}
use Rattle.path_core.specs.Values.{Carried, values}
use Rattle.world_laws.specs.Openings.{PathPlan, Start}
use Rattle.world_laws.specs.Promises.{arrived_at, written_by}
use Rattle.world_laws.specs.RoundDone.{reached}
use Rattle.world_laws.specs.Worlds.{Turn, WorldState}
use Rattle.whole_paths.specs.Delivery.{IsAllThere}
use Rattle.whole_paths.specs.OnePathScripts.{BeginsWithOnePath}
use Rattle.whole_paths.specs.SegmentRounds.{IsHeard}
use Rattle.whole_paths.specs.UnitRounds.{AreToldSoon, WellRounds, WhatIsToldIsHeardSo, WindowsAndEndsAreHeard}
use Rattle.whole_paths.proofs.AckedData.{four_rounds_acknowledge}
use Rattle.whole_paths.proofs.RoundSteps.{between, far}
use Rattle.whole_paths.proofs.SegmentRounds.{stays_there}
use Rattle.whole_paths.proofs.UnitRounds.{Parted, parted, rounds_of, well_after}

module _ (start : Start) (plan : PathPlan) (Well : List Turn → Type 0) (x : BeginsWithOnePath start plan) (tells : (turns : List Turn) → Well turns → (s : Side) → AreToldSoon start s turns)
    (left : WindowsAndEndsAreHeard start plan Well) (s : Side) (v u : List Turn) (rounds : WellRounds start Well 6 v u) where
  abbrev at : List Turn → WorldState Carried
  at turns = reached values start turns

  part : Parted start Well 2 4 v u
  part = parted start Well 2 4 6 v u refl rounds

  -- after the first two rounds
  abbrev m : List Turn
  m = part.between_them

  soon : AreToldSoon start s m
  soon = tells m (well_after start Well 2 v m part.first) s

  received_up : received (arrived_at (peer s) (at v)) ≤ received (arrived_at (peer s) (at m))
  received_up = ((far start v m (between start 1 v m (rounds_of start Well 2 v m part.first))).sides (peer s)).arrival.received

  acked : IsAllThere s (at u) ⊎ (received (arrived_at (peer s) (at v)) ≤ acked_len (written_by s (at u)).marks)
  acked = ⊎_elim
      (λ told. ⊎_elim (λ all. inl all) (λ low. inr (let up = received_up in omega (arith, low, up))) (four_rounds_acknowledge start plan m u x (rounds_of start Well 4 m u part.rest) s soon.path soon.here told))
      (λ all. inl (stays_there start x.mild m u s (between start 3 m u (rounds_of start Well 4 m u part.rest)) all))
      soon.told

  is_heard : IsAllThere s (at u) ⊎ IsHeard start plan s v u
  is_heard = ⊎_elim (λ all. inl all) (λ bytes. ⊎_elim (λ all. inl all) (λ window. inr (record { acked = bytes; window = window })) (left.windows s v u rounds)) acked

pub what_is_told_is_heard_so : WhatIsToldIsHeardSo
what_is_told_is_heard_so start plan Well x tells left = record { heard = λ s v u rounds. is_heard start plan Well x tells left s v u rounds; fins = left.fins }
