-- What may come between in the exchange of an ask of a mild connection, where both ends of path 0 are open and may send a DSS.
use Rattle.std.specs.Prelude.{ℕ, ◌+◌, ◌-◌, ◌^◌, ◌≡◌, ◌<◌, ◌≤◌, Bool, true, false, Some, List, [], length, slice_get}
use Rattle.sides.specs.declared.side.Side.{Side}
use Rattle.sides.specs.Side.{peer}
use Rattle.link_model.specs.Steps.{segments_sent}
use Rattle.stream_lanes.specs.Words.{Has}
use Rattle.subflow_tcp.specs.States.{is_dead}
use Rattle.actor_desk.specs.Books.{books_in}
use Rattle.actor_desk.specs.Desk.{SixBooks, send_of}
use Rattle.actor_desk.specs.declared.ask.Note.{Note}
use Rattle.path_core.specs.Sending.{Sending}
use Rattle.path_core.specs.State.{PathState, end_at}
use Rattle.path_core.specs.Values.{Carried, values}
use Rattle.world_laws.specs.declared.member.Member.TheVariants.{Path}
use Rattle.world_laws.specs.Actors.{Actor, ActorCrew}
use Rattle.world_laws.specs.Members.{HoldsOfKind}
use Rattle.world_laws.specs.Openings.{Start, opened_world}
use Rattle.world_laws.specs.Worlds.{WorldState, Turn, after_turn, world_run}
use Rattle.whole_paths.specs.DataAcksExchanged.{IsAwry, IsInquired}
use Rattle.whole_paths.specs.DataAcksOwed.{KnowsWhereItSends}
use Rattle.whole_paths.specs.Exchanges.{IsHeldUp}
use Rattle.whole_paths.specs.Mild.{IsMildStart}
use Rattle.whole_paths.specs.Reasons.{IsOutstanding}
use Rattle.whole_paths.specs.Straying.{IsOpen}

-- ---- what is asked for

-- The end's DATA_FIN isn't acknowledged, which this place is behind, where so much was written; or a piece that it was granted isn't, which
-- ends at this place or behind it, nor is all before the place.
pub data IsUnanswered (place : ℕ) (fin : Bool) (written : ℕ) (v : Sending) : Type 0 where
  data_fin : fin ≡ true → written < place → v.fin_sent ≡ true → v.close.own_acked ≡ false → IsUnanswered place fin written v
  bytes : fin ≡ false → Has (λ piece. place ≤ piece.to) v.granted → v.heard < place → IsUnanswered place fin written v

-- at an open end without a record: the peer's window is shut, or something isn't answered
pub data WaitsForAnswer (written : ℕ) (v : Sending) : Type 0 where
  shut : v.shut ≡ true → WaitsForAnswer written v
  asks : (place : ℕ) (fin : Bool) → IsUnanswered place fin written v → WaitsForAnswer written v

-- ---- what leads it awry

-- of all that does this is left
pub data IsHardlyAwry (s : Side) (p q : PathState Carried) : Type 0 where
  -- the peer sent more than the end's window has room for
  past_window : (end_at s p).tcp.recv.edge + 1048576 < (end_at (peer s) p).tcp.send.nxt → IsHardlyAwry s p q

-- of paths of which this holds
module _ (Holds : PathState Carried → Type 0) where
  -- as the path becomes this actor by these steps, and it still holds
  abbrev pub HardlyGoesAwry : List Note → Actor Carried → Actor Carried → Type 0
  HardlyGoesAwry steps (Path p) (Path q) = Holds p → Holds q → (s : Side) → IsAwry s steps p q → IsHardlyAwry s p q
  HardlyGoesAwry steps _ _ = Unit {0}

  -- by any turn of a mild connection
  abbrev pub EndsHardlyGoAwry : Type 0
  EndsHardlyGoAwry = (start : Start) (turns : List Turn) (turn : Turn) → IsMildStart start → let w = world_run values turns (opened_world start) in
      (actor : ℕ) (c d : ActorCrew Carried) → slice_get w.crew actor ≡ Some c → slice_get (after_turn values turn w).crew actor ≡ Some d
      → HardlyGoesAwry d.list c.member d.member

abbrev pub OpenEndsHardlyGoAwry : Type 0
OpenEndsHardlyGoAwry = EndsHardlyGoAwry IsOpen

-- ---- what becomes of it

-- as the path becomes another one, and so much is written
pub data AskGoesOn (s : Side) (place : ℕ) (fin : Bool) (by written : ℕ) (p q : PathState Carried) : Type 0 where
  on : IsInquired s place fin by q → IsUnanswered place fin written (end_at s q).sending → AskGoesOn s place fin by written p q
  -- the end, which had no record, has one again: SND.NXT rose
  sends : (end_at s p).tcp.send.nxt < (end_at s q).tcp.send.nxt → AskGoesOn s place fin by written p q
  -- there is news, as where the end was answered, or a segment is harmed, or an end dies
  held_up : IsHeldUp s p q → AskGoesOn s place fin by written p q
  awry : IsHardlyAwry s p q → AskGoesOn s place fin by written p q

-- as the path becomes this actor, and is still open, with fewer than 2^64 - 1 segments sent from each side
abbrev pub AskGoesOnBy : SixBooks → SixBooks → Actor Carried → Actor Carried → Type 0
AskGoesOnBy six later (Path p) (Path q) =
    IsOpen p → IsOpen q → ((t : Side) → segments_sent t p.link < 2 ^ 64 - 1)
    → (s : Side) (place : ℕ) (fin : Bool) (by : ℕ) → KnowsWhereItSends (peer s) place p
    → IsInquired s place fin by p → IsUnanswered place fin (length (send_of s six).written) (end_at s p).sending
    → AskGoesOn s place fin by (length (send_of s later).written) p q
AskGoesOnBy six later _ _ = Unit {0}

-- by any turn of a mild connection
abbrev pub OpenAsksGoOn : Type 0
OpenAsksGoOn = (start : Start) (turns : List Turn) (turn : Turn) → IsMildStart start
    → let w = world_run values turns (opened_world start) in let v = after_turn values turn w in
    (actor : ℕ) (c d : ActorCrew Carried) → slice_get w.crew actor ≡ Some c → slice_get v.crew actor ≡ Some d
    → AskGoesOnBy (books_in w.books) (books_in v.books) c.member d.member

-- ---- how it begins, and that it is answered in time

-- at a moment at which the books are so
module _ (six : SixBooks) where
  abbrev pub IsUnansweredAt : Side → ℕ → Bool → PathState Carried → Type 0
  IsUnansweredAt s place fin p = IsUnanswered place fin (length (send_of s six).written) (end_at s p).sending

  -- an end of an open path without a record waits for an answer, or a window, if something of it is outstanding
  abbrev pub AskWaits : PathState Carried → Type 0
  AskWaits p = IsOpen p → (s : Side) → (end_at s p).tcp.send.records ≡ [] → IsOutstanding (end_at s p)
      → WaitsForAnswer (length (send_of s six).written) (end_at s p).sending

  -- where the path's turn is over it asks for the answer, within a minute and 400 ticks there and back
  abbrev pub AskBegins : PathState Carried → Type 0
  AskBegins p = IsOpen p → p.agenda ≡ [] → (s : Side) → (end_at s p).tcp.send.records ≡ [] → (place : ℕ) (fin : Bool) → IsUnansweredAt s place fin p
      → IsInquired s place fin (p.clock + 60000 + 400 + 400) p

  -- in a round that ends past its tick it was answered, where neither end is dead
  abbrev pub AskIsDue : PathState Carried → Type 0
  AskIsDue p = ((s : Side) → is_dead (end_at s p).tcp.state ≡ false) → p.agenda ≡ [] → (s : Side) (place : ℕ) (fin : Bool) (by : ℕ) → by < p.until → IsInquired s place fin by p
      → IsUnansweredAt s place fin p → ⊥

-- on each path
pub record OpenAsksAreInTime (w : WorldState Carried) : Type 0 where
  pub waits : (actor : ℕ) (c : ActorCrew Carried) → slice_get w.crew actor ≡ Some c → HoldsOfKind (λ app. Unit {0}) (AskWaits (books_in w.books)) c.member
  pub begin : (actor : ℕ) (c : ActorCrew Carried) → slice_get w.crew actor ≡ Some c → HoldsOfKind (λ app. Unit {0}) (AskBegins (books_in w.books)) c.member
  pub due : (actor : ℕ) (c : ActorCrew Carried) → slice_get w.crew actor ≡ Some c → HoldsOfKind (λ app. Unit {0}) (AskIsDue (books_in w.books)) c.member
