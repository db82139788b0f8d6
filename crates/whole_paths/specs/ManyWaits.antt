-- What an end of a path waits for as a round is over, of a connection over any number of paths (RFC 8684, section 3.3.2).
use Rattle.std.specs.Prelude.{ℕ, ◌+◌, ◌≡◌, ◌<◌, ◌≤◌, ◌⊎◌, true, false, List, ◌++◌, length}
use Rattle.sides.specs.declared.side.Side.{Side}
use Rattle.send_book.specs.State.{acked_len}
use Rattle.subflow_tcp.specs.States.{may_finish}
use Rattle.path_core.specs.State.{PathState, end_at}
use Rattle.path_core.specs.Values.{Carried, values}
use Rattle.world_laws.specs.Openings.{Start}
use Rattle.world_laws.specs.Promises.{written_by}
use Rattle.world_laws.specs.RoundDone.{reached}
use Rattle.world_laws.specs.RoundNumbers.{BeginsRound, last_on_standby, steps_since}
use Rattle.world_laws.specs.Worlds.{Turn}
use Rattle.whole_paths.specs.AnswerWaits.{AwaitsAnAnswerAt}
use Rattle.whole_paths.specs.CountedCourses.{counted_with}
use Rattle.whole_paths.specs.Courses.{round_end}
use Rattle.whole_paths.specs.EdgeStands.{IsShutOutAt}
use Rattle.whole_paths.specs.GoingOn.{steps_of}
use Rattle.whole_paths.specs.Mild.{IsMildStart}
use Rattle.whole_paths.specs.RecordWaits.{AwaitsARecordAt, OpensAt}
use Rattle.whole_paths.specs.ReturnWaits.{AwaitsAReturn}
use Rattle.whole_paths.specs.Serving.{ServesAt}
use Rattle.whole_paths.specs.Straying.{IsOpen}
use Rattle.whole_paths.specs.WindowWaits.{AwaitsAWindowAt}

-- by this tick, on the path of this number: a record is acknowledged, an answer comes, a window opens, or another path gives back a byte
pub data WaitsForAByte (number : ℕ) (start : Start) (x : ℕ) (turns : List Turn) : Type 0 where
  piece : AwaitsARecordAt number start x turns → WaitsForAByte number start x turns
  answer : AwaitsAnAnswerAt number start x turns → WaitsForAByte number start x turns
  window : AwaitsAWindowAt IsShutOutAt number start x turns → WaitsForAByte number start x turns
  lent : AwaitsAReturn start x turns → WaitsForAByte number start x turns

-- Where not all bytes are acknowledged as a round is over that a side had written as it began, and the side's end of the path of this number may still send
-- its FIN, and didn't stand by: something was counted in the round, or such a wait begins with the next one, for a minute and 800 ticks. Of each moment
-- Holds is known of the path.
abbrev pub EachMissingByteIsWaitedForAt : ℕ → (PathState Carried → Type 0) → Start → Type 0
EachMissingByteIsWaitedForAt number Holds start = (most : ℕ) (since : List Turn) (order : List ℕ) (u : List Turn) → IsMildStart start → 32 ≤ start.buffer
    → BeginsRound values start (reached values start since) → let v = since ++ steps_of order in (step : OpensAt number Holds start most v u) → ServesAt number (reached values start v)
    → (s : Side) → last_on_standby s false (steps_since (2 + number) (reached values start since) (reached values start v)) ≡ false
    → may_finish (end_at s step.before.path).tcp.state ≡ true
    → acked_len (written_by s (reached values start v)).marks < length (written_by s (reached values start since)).written
    → (counted_with start number since < counted_with start number u) ⊎ WaitsForAByte number start (round_end values start v + 60800) u

-- where path 0 is open
abbrev pub EachMissingByteIsWaitedFor : Type 0
EachMissingByteIsWaitedFor = (start : Start) → EachMissingByteIsWaitedForAt 0 IsOpen start
