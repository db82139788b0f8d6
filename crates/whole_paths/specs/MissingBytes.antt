-- What keeps a byte from being acknowledged, as a round is over: what its stream waits for, whichever path is asked.
use Rattle.std.specs.Prelude.{ℕ, ◌+◌, ◌≡◌, ◌<◌, ◌≤◌, true, false, Some, List, length, slice_get}
use Rattle.sides.specs.declared.side.Side.{Side}
use Rattle.send_book.specs.declared.mark.ByteMark.{ByteMark}
use Rattle.send_book.specs.Marks.{is_acked}
use Rattle.path_core.specs.Emission.{may_ask}
use Rattle.path_core.specs.State.{PathState, end_at}
use Rattle.path_core.specs.Values.{Carried, values}
use Rattle.world_laws.specs.Openings.{Start}
use Rattle.world_laws.specs.Promises.{written_by}
use Rattle.world_laws.specs.RoundDone.{reached}
use Rattle.world_laws.specs.RoundNumbers.{BeginsRound, after_steps, last_on_standby, steps_since}
use Rattle.world_laws.specs.Worlds.{Turn, WorldState, all_over}
use Rattle.whole_paths.specs.BookNews.{book_news}
use Rattle.whole_paths.specs.Finish.{IsPathAt}
use Rattle.whole_paths.specs.HolderWaits.{IsLent}
use Rattle.whole_paths.specs.Holders.{IsAwaitedAt}
use Rattle.whole_paths.specs.Mild.{IsMildStart}

-- of the byte at this place, for the path of this number, since the round began
pub data IsMissing (start : Start) (s : Side) (number place : ℕ) (begun w : WorldState Carried) (p : PathState Carried) : Type 0 where
  -- something became of a byte of the stream in the round
  counts : book_news start s begun < book_news start s w → IsMissing start s number place begun w p
  -- a piece that its end waits for has it
  own : IsAwaitedAt place (end_at s p).sending → IsMissing start s number place begun w p
  -- another path holds it, and gives it back within a minute
  lent : (other : ℕ) (q : PathState Carried) → (other ≡ number → ⊥) → IsPathAt other w q → IsLent s other place (q.clock + 60000) w → IsMissing start s number place begun w p
  -- the end knows that the window is shut, which didn't reach past the byte as the round began
  shut : (end_at s p).sending.shut ≡ true → (written_by s begun).edge ≤ place → IsMissing start s number place begun w p
  -- the path was on standby when it asked last
  standby : last_on_standby s false (steps_since (2 + number) begun w) ≡ true → IsMissing start s number place begun w p

-- As a round of a mild connection is over, at an end that may ask for bytes, of each byte that was written as it began and isn't acknowledged.
abbrev pub WhatIsMissingIsAwaited : Type 0
WhatIsMissingIsAwaited = (start : Start) (since : List Turn) (order : List ℕ) → IsMildStart start → let begun = reached values start since in BeginsRound values start begun
    → let w = after_steps values order begun in all_over w.crew ≡ true → (number : ℕ) (p : PathState Carried) → IsPathAt number w p → (s : Side) → may_ask p.profile s (end_at s p) ≡ true
    → (place : ℕ) → place < length (written_by s begun).written → (mark : ByteMark) → slice_get (written_by s w).marks place ≡ Some mark → is_acked mark ≡ false → IsMissing start s number place begun w p
