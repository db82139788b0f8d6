-- How a mild connection over one path goes on where nothing is outstanding at an end: its application writes and closes, the end asks for
-- bytes, and says where its stream ends.
use Rattle.std.specs.Prelude.{ℕ, suc, ◌≡◌, ◌<◌, ◌≤◌, ◌⊎◌, true, false, Some, List, [], ◌∷◌, ◌++◌, length, map, slice_get}
use Rattle.sides.specs.declared.side.Side.{Side}
use Rattle.send_book.specs.State.{acked_len}
use Rattle.subflow_tcp.specs.States.{is_dead, may_finish}
use Rattle.path_core.specs.State.{PathState, end_at}
use Rattle.path_core.specs.Values.{Carried, values}
use Rattle.world_laws.specs.declared.member.Member.TheVariants.{Path}
use Rattle.world_laws.specs.Actors.{ActorCrew}
use Rattle.world_laws.specs.Members.{HoldsOfKind}
use Rattle.world_laws.specs.Openings.{PathPlan, Start}
use Rattle.world_laws.specs.Promises.{written_by}
use Rattle.world_laws.specs.RoundDone.{reached}
use Rattle.world_laws.specs.RoundNumbers.{BeginsRound}
use Rattle.world_laws.specs.Worlds.{Turn, WorldState, all_over}
use Rattle.whole_paths.specs.AsFar.{stage}
use Rattle.whole_paths.specs.Courses.{counted}
use Rattle.whole_paths.specs.Delivery.{AllIsThere, IsAllThere}
use Rattle.whole_paths.specs.KnownEnds.{WaitsForNoEnd}
use Rattle.whole_paths.specs.Mild.{IsMildStart}
use Rattle.whole_paths.specs.Reasons.{IsOutstanding}
use Rattle.whole_paths.specs.Straying.{IsOpen}

-- Something is outstanding at an end of path 0 that may still send its FIN. If that is a window, bytes of its side aren't acknowledged.
pub record IsWaiting (w : WorldState Carried) : Type 0 where
  pub path : PathState Carried
  pub crew : ActorCrew Carried
  pub there : slice_get w.crew 2 ≡ Some crew
  pub is : crew.member ≡ Path path
  pub side : Side
  pub may : may_finish (end_at side path).tcp.state ≡ true
  pub outstanding : IsOutstanding (end_at side path)
  pub left : (end_at side path).tcp.send.records ≡ [] → (end_at side path).sending.granted ≡ [] → WaitsForNoEnd (end_at side path)
      → acked_len (written_by side w).marks < length (written_by side w).written

-- a step of each of these actors, in this order
abbrev pub steps_of : List ℕ → List Turn
steps_of order = map (λ actor. Turn.Step actor) order

-- Of one side's stream it is known that not all of it is there. Since so much was counted, as a round began, the side goes on within so many
-- rounds, of which one goes on.
pub data IsAboutToGoOn (start : Start) (n rounds : ℕ) (turns : List Turn) : Type 0 where
  -- the round goes on that began then
  this_round : (s : Side) (since : List Turn) (order : List ℕ) → rounds ≡ 2 → turns ≡ since ++ steps_of order → counted values start since ≡ n
      → BeginsRound values start (reached values start since)
      → (IsAllThere s (reached values start since) → ⊥) → IsAboutToGoOn start n rounds turns
  -- the next one does: the stream wasn't closed then, and all that was written is acknowledged
  next_round : (s : Side) (since more : List Turn) (order : List ℕ) → rounds ≡ 1 → turns ≡ (since ++ more) ++ steps_of order
      → counted values start since ≡ n → BeginsRound values start (reached values start (since ++ more))
      → (written_by s (reached values start since)).closed ≡ false
      → length (written_by s (reached values start since)).written ≤ acked_len (written_by s (reached values start (since ++ more))).marks
      → IsAboutToGoOn start n rounds turns

-- the side that goes on
abbrev pub going_side : {start : Start} {n rounds : ℕ} {turns : List Turn} → IsAboutToGoOn start n rounds turns → Side
going_side (this_round s since order two is count begin none) = s
going_side (next_round s since more order one is count begin unclosed all) = s

-- this side's end of path 0 is past the handshake, may send a DSS and isn't dead
pub record IsEndOpen (s : Side) (p : PathState Carried) : Type 0 where
  pub past : 3 ≤ stage (end_at s p).tcp.state
  pub living : is_dead (end_at s p).tcp.state ≡ false
  pub clear : (end_at s p).modes.clear ≡ true

abbrev pub IsEndOpenHere : Side → WorldState Carried → Type 0
IsEndOpenHere s w = (c : ActorCrew Carried) → slice_get w.crew 2 ≡ Some c → HoldsOfKind (λ app. Unit {0}) (IsEndOpen s) c.member

-- path 0 is open
abbrev pub IsOpenHere : WorldState Carried → Type 0
IsOpenHere w = (c : ActorCrew Carried) → slice_get w.crew 2 ≡ Some c → HoldsOfKind (λ app. Unit {0}) IsOpen c.member

-- As a round begins, all of both streams is there, or the connection is about to go on.
abbrev pub RoundsBeginToGoOn : Type 0
RoundsBeginToGoOn = (start : Start) (turns : List Turn) → BeginsRound values start (reached values start turns)
    → AllIsThere (reached values start turns) ⊎ IsAboutToGoOn start (counted values start turns) 2 turns

-- a step leaves that so
abbrev pub StepsLetItGoOn : Type 0
StepsLetItGoOn = (start : Start) (n rounds : ℕ) (turns : List Turn) (actor : ℕ) → IsAboutToGoOn start n rounds turns
    → IsAboutToGoOn start n rounds (turns ++ Turn.Step actor ∷ [])

-- As a round ends at which the end of that side is open: more is counted, or something is outstanding at it, or there is one round less until more is.
abbrev pub EndsGoOn : Type 0
EndsGoOn = (start : Start) (plan : PathPlan) (n rounds : ℕ) (turns : List Turn) → start.paths ≡ plan ∷ [] → IsMildStart start → 1 ≤ start.buffer
    → all_over (reached values start turns).crew ≡ true → (h : IsAboutToGoOn start n (suc rounds) turns) → IsEndOpenHere (going_side h) (reached values start turns)
    → (n < counted values start turns) ⊎ (((x : IsWaiting (reached values start turns)) × (x.side ≡ going_side h))
    ⊎ ((g : IsAboutToGoOn start n rounds (turns ++ Turn.Round ∷ [])) × (going_side g ≡ going_side h)))

-- As a round ends at which path 0 is open: more is counted, or something is outstanding at one of its ends, or there is one round less until
-- more is.
abbrev pub RoundsGoOn : Type 0
RoundsGoOn = (start : Start) (plan : PathPlan) (n rounds : ℕ) (turns : List Turn) → start.paths ≡ plan ∷ [] → IsMildStart start → 1 ≤ start.buffer
    → all_over (reached values start turns).crew ≡ true → IsOpenHere (reached values start turns) → IsAboutToGoOn start n (suc rounds) turns
    → (n < counted values start turns) ⊎ (IsWaiting (reached values start turns) ⊎ IsAboutToGoOn start n rounds (turns ++ Turn.Round ∷ []))
