-- What is to be mended in one direction of path 0: records of a side that may be lost, and what its end may not be told of them.
use Rattle.std.specs.Prelude.{ℕ, ◌+◌, ◌≡◌, ◌≤◌, ◌⊎◌, false, if◌then◌else◌, Some, List, ◌∷◌, length}
use Rattle.sides.specs.declared.side.Side.{Side}
use Rattle.sides.specs.Side.{peer}
use Rattle.link_model.specs.declared.flight.Flight.{Flight}
use Rattle.stream_lanes.specs.Words.{Every, Has}
use Rattle.subflow_tcp.specs.State.{is_fin_passed}
use Rattle.path_core.specs.State.{PathState, end_at}
use Rattle.path_core.specs.Values.{Carried, values}
use Rattle.world_laws.specs.Openings.{PathPlan, Start}
use Rattle.world_laws.specs.RoundDone.{reached}
use Rattle.world_laws.specs.Worlds.{Turn, WorldState}
use Rattle.whole_paths.specs.Copies.{IsUnderWay}
use Rattle.whole_paths.specs.Debts.{Beginning, OwesOn, Stepping}
use Rattle.whole_paths.specs.Delivery.{IsAllThere}
use Rattle.whole_paths.specs.Finish.{IsPathAt, is_harmed}
use Rattle.whole_paths.specs.Mending.{IsToldBy, IsToldSoon, IsWell, IsBegunTurn}
use Rattle.whole_paths.specs.OnePathScripts.{BeginsWithOnePath}
use Rattle.whole_paths.specs.Unmended.{AreWellBut}
use Rattle.whole_paths.specs.WindowRoom.{IsRoomy}

-- ---- what an end is told

-- Each segment under way to the side, no reset, acknowledges no more than its end is told by the tick, or what stands in the list.
abbrev pub AreHeardBut : Side → List ℕ → ℕ → PathState Carried → Type 0
AreHeardBut s unheard by p = (f : Flight Carried) (n : ℕ) → IsUnderWay f p → f.to ≡ s → f.carried.segment.rst ≡ false
    → f.carried.segment.acknowledged ≡ Some n → IsToldBy s n by p ⊎ Has (λ m. m ≡ n) unheard

-- The end is told soon how far its peer is, and by no segment anything later, but for what stands in the list: what harmed segments of the peer
-- acknowledged.
pub record IsToldBut (s : Side) (unheard : List ℕ) (p : PathState Carried) : Type 0 where
  pub told : IsToldSoon s p ⊎ Has (λ n. n ≡ (end_at (peer s) p).tcp.recv.edge) unheard
  pub heard : AreHeardBut s unheard (p.clock + 400) p
  pub low : Every (λ n. n ≤ (end_at (peer s) p).tcp.recv.edge) unheard

-- as the path becomes another one, before the peer is past the side's FIN: what is acknowledged by a segment that is harmed comes to it
abbrev pub ToldButStays : Side → PathState Carried → PathState Carried → Type 0
ToldButStays s p q = is_fin_passed (end_at (peer s) p).tcp ≡ false → (unheard : List ℕ) → IsToldBut s unheard p
    → IsToldBut s (if is_harmed (peer s) p q then (end_at (peer s) p).tcp.recv.edge ∷ unheard else unheard) q

-- by each turn of a mild connection, where windows have room, between open ends
abbrev pub WhoIsToldButStaysSo : Type 0
WhoIsToldButStaysSo = (start : Start) (turns : List Turn) (turn : Turn) → IsRoomy start
    → (h : IsBegunTurn start turns turn) (s : Side) → ToldButStays s h.before.path h.after.path

-- ---- debts

-- these records may be lost, and these acknowledgements
pub record OwesThese (s : Side) (lost unheard : List ℕ) (p : PathState Carried) : Type 0 where
  pub well : AreWellBut s lost p
  pub told : IsToldBut s unheard p

-- all of the side's stream is with the peer; or there are so many at most
pub data Owing (s : Side) (debts : ℕ) (p : PathState Carried) (w : WorldState Carried) : Type 0 where
  all_there : IsAllThere s w → Owing s debts p w
  these : (lost unheard : List ℕ) → OwesThese s lost unheard p → length lost + length unheard ≤ debts → Owing s debts p w

-- after these turns, on path 0
pub record OwesAlong (start : Start) (s : Side) (debts : ℕ) (turns : List Turn) : Type 0 where
  pub path : PathState Carried
  pub here : IsPathAt 0 (reached values start turns) path
  pub owing : Owing s debts path (reached values start turns)

-- by each step, and as a round begins, a harm makes one more at most
abbrev pub DirectionsGoOn : Type 0
DirectionsGoOn = (start : Start) (plan : PathPlan) (most : ℕ) (s : Side) (debts : ℕ) (turns later : List Turn) → IsRoomy start
    → Stepping start plan most (OwesAlong start s) turns later ⊎ Beginning start plan most (OwesAlong start s) turns later
    → OwesAlong start s debts turns → OwesOn start plan most (OwesAlong start s) debts turns later

-- ---- without debts

-- each record of the side is well, and its end is told soon how far the peer is, or all of its stream is with the peer
pub record DirectionIsWell (s : Side) (w : WorldState Carried) : Type 0 where
  pub path : PathState Carried
  pub here : IsPathAt 0 w path
  pub records : Every (IsWell s path) (end_at s path).tcp.send.records
  pub told : IsToldSoon s path ⊎ IsAllThere s w

abbrev pub WhatOwesNoneIsWell : Type 0
WhatOwesNoneIsWell = (start : Start) (plan : PathPlan) (turns : List Turn) (s : Side) → BeginsWithOnePath start plan → OwesAlong start s 0 turns
    → DirectionIsWell s (reached values start turns)
