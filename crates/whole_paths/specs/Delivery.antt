-- What is left of a stream once its DATA_FIN is acknowledged: its reader reads it and is told its end.
use Rattle.std.specs.Prelude.{ℕ, ◌≡◌, ◌≤◌, true, false, Some, List, ◌++◌, length, slice_get}
use Rattle.sides.specs.declared.side.Side.{Side}
use Rattle.sides.specs.Side.{peer}
use Rattle.reassembly_book.specs.State.{received}
use Rattle.subflow_tcp.specs.States.{is_behind_fin, is_dead}
use Rattle.path_core.specs.End.{PathEnd}
use Rattle.path_core.specs.State.{PathState, end_at}
use Rattle.path_core.specs.Values.{Carried, values}
use Rattle.world_laws.specs.declared.outcome.Outcome.TheVariants.{Delivered}
use Rattle.world_laws.specs.Actors.{ActorCrew}
use Rattle.world_laws.specs.Members.{HoldsOfKind}
use Rattle.world_laws.specs.Openings.{Start}
use Rattle.world_laws.specs.Outcomes.{outcome_of}
use Rattle.world_laws.specs.Promises.{arrived_at, written_by}
use Rattle.world_laws.specs.RoundDone.{reached}
use Rattle.world_laws.specs.Worlds.{AreLawful, Turn, WorldState}
use Rattle.whole_paths.specs.Finish.{rounds_in}
use Rattle.whole_paths.specs.Mild.{IsMildStart}

-- ---- all of a stream

-- The stream that a side writes is closed; its peer's side received all of it without a gap, and knows where it ends.
pub record IsAllThere {C : Type 0} (s : Side) (w : WorldState C) : Type 0 where
  pub closed : (written_by s w).closed ≡ true
  pub received : received (arrived_at (peer s) w) ≡ length (written_by s w).written
  pub known : (arrived_at (peer s) w).known_end ≡ Some (length (written_by s w).written)

-- an end that heard that its DATA_FIN is acknowledged, or that sent its FIN and isn't dead (RFC 8684, section 3.3.3)
pub data HasFinished (e : PathEnd) : Type 0 where
  acknowledged : e.sending.close.own_acked ≡ true → HasFinished e
  sent_fin : is_behind_fin e.tcp.state ≡ true → is_dead e.tcp.state ≡ false → HasFinished e

module _ {C : Type 0} where
  -- then all of its side's stream is there
  abbrev pub FinishedIsThere : WorldState C → PathState C → Type 0
  FinishedIsThere w p = (s : Side) → HasFinished (end_at s p) → IsAllThere s w

-- at every moment of a mild connection
abbrev pub WhatIsFinishedIsThere : Type 0
WhatIsFinishedIsThere = (start : Start) (turns : List Turn) → IsMildStart start → let w = reached values start turns in
    (actor : ℕ) (c : ActorCrew Carried) → slice_get w.crew actor ≡ Some c → HoldsOfKind (λ app. Unit {0}) (FinishedIsThere w) c.member

-- ---- both streams

pub record AllIsThere {C : Type 0} (w : WorldState C) : Type 0 where
  pub of : (s : Side) → IsAllThere s w

-- all of a stream that is there stays there
abbrev pub WhatIsThereStays : Type 0
WhatIsThereStays = (start : Start) (turns more : List Turn) → IsMildStart start → (s : Side) → IsAllThere s (reached values start turns)
    → IsAllThere s (reached values start (turns ++ more))

-- once all of both streams is there, and three more rounds have ended, both files are delivered, and it stays so
abbrev pub WhatIsThereIsDelivered : Type 0
WhatIsThereIsDelivered = (start : Start) (turns more : List Turn) → IsMildStart start
    → AllIsThere (reached values start turns)
    → AreLawful values more (reached values start turns) → 3 ≤ rounds_in more → outcome_of (reached values start (turns ++ more)).crew ≡ Delivered
