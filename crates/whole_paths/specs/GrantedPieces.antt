-- In how many pieces a path is granted bytes of a side's stream (RFC 8684, section 3.3.8): what a path is given back is free for others in as many
-- pieces as it was granted in.
use Rattle.std.specs.Prelude.{ℕ, ◌+◌, ◌≡◌, ◌<◌, ◌≤◌, ◌/◌, min, nat_lt, true, false, Some, List, [], ◌∷◌, count_by, length, slice_get, sum_by}
use Rattle.sides.specs.declared.side.Side.{Side}
use Rattle.send_book.specs.declared.mark.ByteMark.{ByteMark}
use Rattle.send_book.specs.Marks.{is_acked, is_held_by}
use Rattle.send_book.specs.State.{Sending}
use Rattle.actor_desk.specs.Words.{pick}
use Rattle.path_core.specs.Codec.{Codec}
use Rattle.path_core.specs.Emission.{may_ask}
use Rattle.path_core.specs.State.{PathState, end_at}
use Rattle.path_core.specs.Values.{Carried, values}
use Rattle.world_laws.specs.Openings.{Start, opened_world}
use Rattle.world_laws.specs.Promises.{HasRoom, written_by}
use Rattle.world_laws.specs.RoundDone.{reached}
use Rattle.world_laws.specs.RoundNumbers.{BeginsRound, after_steps, last_on_standby, steps_since}
use Rattle.world_laws.specs.Worlds.{Turn, WorldState, after_turn, world_run}
use Rattle.whole_paths.specs.BookNews.{is_free}
use Rattle.whole_paths.specs.Finish.{IsPathAt, payload_of}
use Rattle.whole_paths.specs.GoingOn.{steps_of}
use Rattle.whole_paths.specs.Mild.{IsMildStart}
use Rattle.whole_paths.specs.News.{one_if}
use Rattle.whole_paths.specs.Refusals.{IsTaken}

-- how many bytes the path holds
abbrev pub held : ℕ → Sending → ℕ
held path b = count_by (is_held_by path) b.marks

-- how many bytes may be granted, or were: those that are written and lie before the edge of the peer's window
abbrev pub open_len : Sending → ℕ
open_len b = min b.edge (length b.written)

module _ {C : Type 0} (k : Codec C) (s : Side) where
  -- how many pieces of the side's stream the path is granted by these turns: by how many of them it comes to hold more bytes
  abbrev pub pieces_of : ℕ → List Turn → WorldState C → ℕ
  pieces_of path [] w = 0
  pieces_of path (turn ∷ turns) w = one_if (nat_lt (held path (written_by s w)) (held path (written_by s (after_turn k turn w)))) + pieces_of path turns (after_turn k turn w)

  -- by how many of these turns more may be granted than before: the application writes, or the window opens
  abbrev pub openings_of : List Turn → WorldState C → ℕ
  openings_of [] w = 0
  openings_of (turn ∷ turns) w = one_if (nat_lt (open_len (written_by s w)) (open_len (written_by s (after_turn k turn w)))) + openings_of turns (after_turn k turn w)

-- A piece that isn't a full segment, and reaches neither the end of what is written nor the edge, ends where another one begins. So over any number
-- of paths a path is granted no more pieces than all paths together are granted full segments, and one for each path as often as more may be granted.
abbrev pub PiecesAreFew : Type 0
PiecesAreFew = (start : Start) (turns : List Turn) (s : Side) (path : ℕ) → HasRoom start
    → pieces_of values s path turns (opened_world start)
    ≤ sum_by (λ plan. length (pick s start.file_a start.file_b) / payload_of plan.mss + openings_of values s turns (opened_world start)) start.paths

-- A byte that is taken since a moment, and isn't acknowledged, was granted in a piece to that path.
abbrev pub WhatIsTakenIsGranted : Type 0
WhatIsTakenIsGranted = (start : Start) (before more : List Turn) (s : Side) (place : ℕ) → let w = reached values start before in let v = world_run values more w in
    (t : IsTaken start s place w v) (mark : ByteMark) → slice_get (written_by s v).marks place ≡ Some mark → is_acked mark ≡ false → 0 < pieces_of values s t.other more w

-- In a round, made of these steps, a path of the connection is granted a piece; or the end of a path knows that the window is shut, which didn't reach past
-- the place as the round began; or that path was on standby when it asked last.
pub data IsServed (start : Start) (s : Side) (number place : ℕ) (steps : List Turn) (begun w : WorldState Carried) (p : PathState Carried) : Type 0 where
  granted : (other : ℕ) → other < length start.paths → 0 < pieces_of values s other steps begun → IsServed start s number place steps begun w p
  shut : (end_at s p).sending.shut ≡ true → (written_by s begun).edge ≤ place → IsServed start s number place steps begun w p
  standby : last_on_standby s false (steps_since (2 + number) begun w) ≡ true → IsServed start s number place steps begun w p

-- So it is on each path of a mild connection whose turn is over, at an end that may ask for bytes, where a byte was free for it as the round began, and isn't
-- acknowledged now.
abbrev pub WhoMayAskIsServed : Type 0
WhoMayAskIsServed = (start : Start) (since : List Turn) (order : List ℕ) → IsMildStart start → let begun = reached values start since in BeginsRound values start begun
    → let w = after_steps values order begun in (number : ℕ) (p : PathState Carried) → IsPathAt number w p → p.agenda ≡ [] → (s : Side) → may_ask p.profile s (end_at s p) ≡ true
    → (place : ℕ) → is_free number (slice_get (written_by s begun).marks place) ≡ true → (mark : ByteMark) → slice_get (written_by s w).marks place ≡ Some mark → is_acked mark ≡ false
    → IsServed start s number place (steps_of order) begun w p
