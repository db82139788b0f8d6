-- Who has a byte that isn't acknowledged, as all turns of a round are over: the path that is asked, another one, or nobody.
use Rattle.std.specs.Prelude.{ℕ, ◌+◌, ◌≡◌, true, false, Some, List, slice_get}
use Rattle.sides.specs.declared.side.Side.{Side}
use Rattle.send_book.specs.declared.mark.ByteMark.{ByteMark}
use Rattle.send_book.specs.Marks.{is_acked}
use Rattle.path_core.specs.State.{PathState, end_at}
use Rattle.path_core.specs.Values.{Carried, values}
use Rattle.world_laws.specs.Openings.{Start}
use Rattle.world_laws.specs.Promises.{HasRoom, written_by}
use Rattle.world_laws.specs.RoundDone.{reached}
use Rattle.world_laws.specs.Worlds.{Turn, WorldState, all_over}
use Rattle.whole_paths.specs.BookNews.{is_free}
use Rattle.whole_paths.specs.Finish.{IsPathAt}
use Rattle.whole_paths.specs.HolderWaits.{IsLent}
use Rattle.whole_paths.specs.Holders.{IsAwaitedAt}

-- of the byte at this place of a side's stream, for the path of this number
pub data HasAHolder (s : Side) (number place : ℕ) (w : WorldState Carried) (p : PathState Carried) : Type 0 where
  -- a piece that its end waits for has it
  own : IsAwaitedAt place (end_at s p).sending → HasAHolder s number place w p
  -- another path holds it, and gives it back within a minute
  lent : (other : ℕ) (q : PathState Carried) → (other ≡ number → ⊥) → IsPathAt other w q → IsLent s other place (q.clock + 60000) w → HasAHolder s number place w p
  -- the path may take it
  free : is_free number (slice_get (written_by s w).marks place) ≡ true → HasAHolder s number place w p

abbrev pub EachMissingByteIsHeld : Type 0
EachMissingByteIsHeld = (start : Start) (turns : List Turn) → HasRoom start → let w = reached values start turns in all_over w.crew ≡ true → (number : ℕ) (p : PathState Carried) → IsPathAt number w p
    → (s : Side) (place : ℕ) (mark : ByteMark) → slice_get (written_by s w).marks place ≡ Some mark → is_acked mark ≡ false → HasAHolder s number place w p
