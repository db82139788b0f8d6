-- What an end of path 0 waits for as a round is over, of which something is outstanding: for a record, an answer or a window.
use Rattle.std.specs.Prelude.{ℕ, ◌+◌, ◌≡◌, ◌<◌, ◌≤◌, ◌⊎◌, true, List, [], ◌∷◌, ◌++◌}
use Rattle.sides.specs.declared.side.Side.{Side}
use Rattle.sides.specs.Side.{peer}
use Rattle.subflow_send.specs.Records.{Record}
use Rattle.path_core.specs.State.{PathState, end_at}
use Rattle.path_core.specs.Values.{Carried, values}
use Rattle.world_laws.specs.Openings.{PathPlan, Start}
use Rattle.world_laws.specs.RoundDone.{reached}
use Rattle.world_laws.specs.RoundNumbers.{BeginsRound}
use Rattle.world_laws.specs.Worlds.{Turn, all_over}
use Rattle.whole_paths.specs.AnswerWaits.{HasAnAsk}
use Rattle.whole_paths.specs.Courses.{counted}
use Rattle.whole_paths.specs.Finish.{IsPathAt}
use Rattle.whole_paths.specs.GoingOn.{steps_of}
use Rattle.whole_paths.specs.Mild.{IsMildStart}
use Rattle.whole_paths.specs.Reasons.{IsOutstanding}
use Rattle.whole_paths.specs.Straying.{IsOpen}

module _ (start : Start) (turns : List Turn) where
  -- Path 0 is open, and something of one of its ends is outstanding, whose peer sent no more than the end's window has room for; and over the path
  -- a segment goes for so long at most, there and back.
  pub record HasOutstanding : Type 0 where
    pub path : PathState Carried
    pub here : IsPathAt 0 (reached values start turns) path
    pub is_open : IsOpen path
    pub side : Side
    pub outstanding : IsOutstanding (end_at side path)
    pub room : (end_at (peer side) path).tcp.send.nxt ≤ (end_at side path).tcp.recv.edge + 1048576

  pub data WaitsForOne (h : HasOutstanding) : Type 0 where
    -- a record isn't acknowledged
    piece : (first : Record) (others : List Record) → (end_at h.side h.path).tcp.send.records ≡ first ∷ others → WaitsForOne h
    -- what it asks for is received
    answer : HasAnAsk start turns → WaitsForOne h
    -- all bytes are acknowledged that it was granted, and the peer's window is shut
    window : (end_at h.side h.path).tcp.send.records ≡ [] → (end_at h.side h.path).sending.granted ≡ [] → (end_at h.side h.path).sending.shut ≡ true → WaitsForOne h

-- after a round of a mild connection over one path, or something was counted in it
abbrev pub WhatIsOutstandingIsAwaited : Type 0
WhatIsOutstandingIsAwaited = (start : Start) (plan : PathPlan) (since : List Turn) (order : List ℕ) → start.paths ≡ plan ∷ []
    → IsMildStart start → BeginsRound values start (reached values start since)
    → all_over (reached values start (since ++ steps_of order)).crew ≡ true → (h : HasOutstanding start (since ++ steps_of order))
    → (counted values start since < counted values start (since ++ steps_of order)) ⊎ WaitsForOne start (since ++ steps_of order) h
