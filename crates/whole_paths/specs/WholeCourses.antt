-- What a mild connection over one path waits for while the path is whole.
use Rattle.std.specs.Prelude.{ℕ, ◌+◌, ◌*◌, ◌≡◌, ◌<◌, ◌≤◌, ◌⊎◌, true, List, [], ◌++◌, length}
use Rattle.send_book.specs.State.{acked_len}
use Rattle.subflow_tcp.specs.States.{may_finish}
use Rattle.path_core.specs.State.{end_at}
use Rattle.path_core.specs.Values.{values}
use Rattle.world_laws.specs.Openings.{Start}
use Rattle.world_laws.specs.Promises.{written_by}
use Rattle.world_laws.specs.RoundDone.{reached}
use Rattle.world_laws.specs.RoundNumbers.{BeginsRound}
use Rattle.world_laws.specs.Worlds.{Turn}
use Rattle.whole_paths.specs.AnswerWaits.{AwaitsAnAnswer}
use Rattle.whole_paths.specs.Courses.{counted, round_end}
use Rattle.whole_paths.specs.GoingOn.{IsAboutToGoOn, steps_of}
use Rattle.whole_paths.specs.RecordWaits.{AwaitsARecord, LeavesRoom, Opens, SentNoFin, Steps}

-- An end of path 0 that may still send its FIN has no record, all bytes are acknowledged that it was granted, and the peer's window is shut, while
-- bytes of its side aren't acknowledged; and the peer sent no more than the end's own window has room for.
pub record HasAShutEnd (start : Start) (turns : List Turn) : Type 0 where
  pub sender : SentNoFin start turns
  pub may : may_finish (end_at sender.side sender.path).tcp.state ≡ true
  pub none : (end_at sender.side sender.path).tcp.send.records ≡ []
  pub empty : (end_at sender.side sender.path).sending.granted ≡ []
  pub shut : (end_at sender.side sender.path).sending.shut ≡ true
  pub left : acked_len (written_by sender.side (reached values start turns)).marks < length (written_by sender.side (reached values start turns)).written
  pub room : LeavesRoom sender

module _ (start : Start) (most within : ℕ) where
  -- As a round is over, and the next one begins, a wait begins at such an end, for so long, or something was counted in that round. The wait goes on
  -- by each step, and as the next round begins, or something is counted; and no round begins past it, unless something is counted.
  pub record ShutWindowsOpen (Waits : ℕ → ℕ → List Turn → Type 0) : Type 0 where
    pub begins : (since : List Turn) (order : List ℕ) (v u : List Turn) → v ≡ since ++ steps_of order
        → BeginsRound values start (reached values start since) → Opens start most v u
        → HasAShutEnd start v → (counted values start since < counted values start u) ⊎ Waits (counted values start v) (round_end values start v + within) u
    pub on : (n x : ℕ) (v u : List Turn) → Steps start most v u → n ≤ counted values start v → Waits n x v → (n < counted values start u) ⊎ Waits n x u
    pub next : (n x : ℕ) (v u : List Turn) → Opens start most v u → n ≤ counted values start v → Waits n x v → (n < counted values start u) ⊎ Waits n x u
    pub due : (n x : ℕ) (v u : List Turn) → Opens start most v u → n ≤ counted values start v → Waits n x v → x < round_end values start v
        → n < counted values start u

-- What is waited for by this tick, since so much was counted: that the connection goes on in one of the next rounds, and then a wait of so long, or a
-- record, an answer, or a window.
pub data IsAwaited (start : Start) (within : ℕ) (Waits : ℕ → ℕ → List Turn → Type 0) (n x : ℕ) (turns : List Turn) : Type 0 where
  turn : (rounds : ℕ) → IsAboutToGoOn start n rounds turns → round_end values start turns + 100 * rounds + within ≤ x → IsAwaited start within Waits n x turns
  piece : (by : ℕ) → by ≤ x → AwaitsARecord start by turns → IsAwaited start within Waits n x turns
  answer : (by : ℕ) → by ≤ x → AwaitsAnAnswer start by turns → IsAwaited start within Waits n x turns
  window : (by : ℕ) → by ≤ x → Waits n by turns → IsAwaited start within Waits n x turns
