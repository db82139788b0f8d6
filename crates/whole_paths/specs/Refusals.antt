-- Why a byte is left that a path might have taken, as its turn is over (RFC 8684, sections 3.3.5 and 3.3.8).
use Rattle.std.specs.Prelude.{ℕ, ◌+◌, ◌≡◌, ◌<◌, ◌≤◌, true, false, None, List, [], length, slice_get}
use Rattle.sides.specs.declared.side.Side.{Side}
use Rattle.stream_lanes.specs.Marks.{spent}
use Rattle.actor_desk.specs.declared.ask.Note.{Note}
use Rattle.path_core.specs.Codec.{Codec}
use Rattle.path_core.specs.Emission.{may_ask}
use Rattle.path_core.specs.End.{PathEnd}
use Rattle.path_core.specs.State.{PathState, end_at}
use Rattle.world_laws.specs.Openings.{Start}
use Rattle.world_laws.specs.Promises.{written_by}
use Rattle.world_laws.specs.RoundDone.{reached}
use Rattle.world_laws.specs.RoundNumbers.{BeginsRound, after_steps, last_on_standby, steps_since}
use Rattle.world_laws.specs.Worlds.{WorldState, Turn}
use Rattle.whole_paths.specs.BookNews.{is_free}
use Rattle.whole_paths.specs.Finish.{IsPathAt}

-- From one moment to another one a path of the connection was granted the byte, or it was acknowledged.
pub record IsTaken {C : Type 0} (start : Start) (s : Side) (place : ℕ) (w v : WorldState C) : Type 0 where
  pub other : ℕ
  pub low : other < length start.paths
  pub was : spent other (slice_get (written_by s w).marks place) ≡ false
  pub now : spent other (slice_get (written_by s v).marks place) ≡ true

-- A byte at this place was free for a path as the round began, and these are the path's steps since. The path was on standby when it asked for bytes
-- last; or the byte is taken; or the end knows that the window is shut, and the byte isn't before its edge.
pub data IsLeft {C : Type 0} (start : Start) (s : Side) (place : ℕ) (steps : List Note) (begun w : WorldState C) (e : PathEnd) : Type 0 where
  standby : last_on_standby s false steps ≡ true → IsLeft start s place steps begun w e
  taken : IsTaken start s place begun w → IsLeft start s place steps begun w e
  shut : e.sending.shut ≡ true → (written_by s begun).edge ≤ place → IsLeft start s place steps begun w e

-- Where a path's turn is over in a round, at an end that may ask for bytes, with room in its window for a full segment. The side isn't stopped, and its
-- stream isn't given to one path alone.
abbrev pub WhoAsksIsRefused : {C : Type 0} → Codec C → Type 0
WhoAsksIsRefused {C} k = (start : Start) (since : List Turn) (order : List ℕ) → let begun = reached k start since in BeginsRound k start begun → let w = after_steps k order begun in
    (number : ℕ) (p : PathState C) → IsPathAt number w p → p.agenda ≡ [] → (s : Side) → may_ask p.profile s (end_at s p) ≡ true
    → (written_by s w).aborted ≡ false → (written_by s w).owner ≡ None
    → (place : ℕ) → is_free number (slice_get (written_by s begun).marks place) ≡ true → IsLeft start s place (steps_since (2 + number) begun w) begun w (end_at s p)
