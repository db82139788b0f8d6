-- How a mild connection over any number of paths goes on where all bytes are acknowledged that were written: its application writes and closes, and an
-- end says where its stream ends.
use Rattle.std.specs.Prelude.{ℕ, ◌≡◌, ◌<◌, ◌≤◌, ◌⊎◌, true, false, List, [], ◌∷◌, ◌++◌, length}
use Rattle.sides.specs.declared.side.Side.{Side}
use Rattle.send_book.specs.State.{acked_len}
use Rattle.subflow_tcp.specs.States.{may_finish}
use Rattle.path_core.specs.State.{PathState, end_at}
use Rattle.path_core.specs.Values.{Carried, values}
use Rattle.world_laws.specs.Openings.{Start}
use Rattle.world_laws.specs.Promises.{written_by}
use Rattle.world_laws.specs.RoundDone.{reached}
use Rattle.world_laws.specs.RoundNumbers.{BeginsRound}
use Rattle.world_laws.specs.Worlds.{Turn, WorldState, all_over}
use Rattle.whole_paths.specs.CountedCourses.{counted_with}
use Rattle.whole_paths.specs.Delivery.{AllIsThere, IsAllThere}
use Rattle.whole_paths.specs.Finish.{IsPathAt}
use Rattle.whole_paths.specs.GoingOn.{IsEndOpen, steps_of}
use Rattle.whole_paths.specs.Mild.{IsMildStart}

-- Of one side's stream it is known that not all of it is there. Since so much was counted, as a round began, the side goes on within so many
-- rounds, of which one goes on.
pub data IsAboutToGoOnBy (start : Start) (count : List Turn → ℕ) (n rounds : ℕ) (turns : List Turn) : Type 0 where
  -- the round goes on that began then
  this_round : (s : Side) (since : List Turn) (order : List ℕ) → rounds ≡ 2 → turns ≡ since ++ steps_of order → count since ≡ n
      → BeginsRound values start (reached values start since)
      → (IsAllThere s (reached values start since) → ⊥) → IsAboutToGoOnBy start count n rounds turns
  -- the next one does: the stream wasn't closed then, and all that was written is acknowledged
  next_round : (s : Side) (since more : List Turn) (order : List ℕ) → rounds ≡ 1 → turns ≡ (since ++ more) ++ steps_of order
      → count since ≡ n → BeginsRound values start (reached values start (since ++ more))
      → (written_by s (reached values start since)).closed ≡ false
      → length (written_by s (reached values start since)).written ≤ acked_len (written_by s (reached values start (since ++ more))).marks
      → IsAboutToGoOnBy start count n rounds turns

-- The stream of this side was closed, and all its bytes are acknowledged. Its end sent its DATA_FIN, which isn't.
pub record AwaitsItsEnd (s : Side) (begun w : WorldState Carried) (p : PathState Carried) : Type 0 where
  pub closed : (written_by s begun).closed ≡ true
  pub all : length (written_by s w).written ≤ acked_len (written_by s w).marks
  pub sent : (end_at s p).sending.fin_sent ≡ true
  pub unacked : (end_at s p).sending.close.own_acked ≡ false

-- of the path of this number
module _ (start : Start) (number : ℕ) where
  abbrev pub is_about_to : ℕ → ℕ → List Turn → Type 0
  is_about_to n rounds turns = IsAboutToGoOnBy start (counted_with start number) n rounds turns

  -- in the round that began after these turns, of this side, whose end is open: not all of the stream was there
  pub record HasMore (since : List Turn) (order : List ℕ) (s : Side) (p : PathState Carried) : Type 0 where
    pub begin : BeginsRound values start (reached values start since)
    pub over : all_over (reached values start (since ++ steps_of order)).crew ≡ true
    pub here : IsPathAt number (reached values start (since ++ steps_of order)) p
    pub opened : IsEndOpen s p
    pub missing : IsAllThere s (reached values start since) → ⊥

  -- As a round begins, all of both streams is there, or the connection is about to go on; a step leaves that so. As the round is over, more is counted
  -- where an end sent its FIN; and where all that was written as it began is acknowledged, and an end has no record left, more is counted, or its DATA_FIN
  -- isn't acknowledged, or more is counted as the next round is over.
  pub record PathGoesOn : Type 0 where
    pub begins : (turns : List Turn) → BeginsRound values start (reached values start turns)
        → AllIsThere (reached values start turns) ⊎ is_about_to (counted_with start number turns) 2 turns
    pub on : (n rounds : ℕ) (turns : List Turn) (actor : ℕ) → is_about_to n rounds turns → is_about_to n rounds (turns ++ Turn.Step actor ∷ [])
    pub behind : (since : List Turn) (order : List ℕ) (s : Side) (p : PathState Carried) → HasMore since order s p → may_finish (end_at s p).tcp.state ≡ false
        → counted_with start number since < counted_with start number (since ++ steps_of order)
    pub acknowledged : (since : List Turn) (order : List ℕ) (s : Side) (p : PathState Carried) → HasMore since order s p → let turns = since ++ steps_of order in
        may_finish (end_at s p).tcp.state ≡ true → (end_at s p).tcp.send.records ≡ []
        → length (written_by s (reached values start since)).written ≤ acked_len (written_by s (reached values start turns)).marks
        → (counted_with start number since < counted_with start number turns)
        ⊎ (AwaitsItsEnd s (reached values start since) (reached values start turns) p ⊎ is_about_to (counted_with start number since) 1 (turns ++ Turn.Round ∷ []))
    pub next : (n : ℕ) (turns : List Turn) → all_over (reached values start turns).crew ≡ true → is_about_to n 1 turns → n < counted_with start number turns

abbrev pub PathsGoOn : Type 0
PathsGoOn = (start : Start) (number : ℕ) → IsMildStart start → 1 ≤ start.buffer → PathGoesOn start number
