-- How a window comes that an end waits for, past the edge at which its side stopped (RFC 9293, section 3.8.6.1; RFC 8684, section 3.3.5).
use Rattle.std.specs.Prelude.{ℕ, ◌+◌, ◌-◌, ◌^◌, ◌≡◌, ◌<◌, ◌≤◌, ◌⊎◌, false, Some, List, [], slice_get}
use Rattle.sides.specs.declared.side.Side.{Side}
use Rattle.sides.specs.Side.{peer}
use Rattle.link_model.specs.Steps.{segments_sent}
use Rattle.reassembly_book.specs.Steps as arriving
use Rattle.subflow_tcp.specs.States.{is_closed_to_segments, is_dead}
use Rattle.actor_desk.specs.declared.ask.Note.{Note}
use Rattle.actor_desk.specs.Books.{books_in}
use Rattle.actor_desk.specs.Desk.{SixBooks, reassembly_of, send_of}
use Rattle.path_core.specs.State.{PathState, end_at}
use Rattle.path_core.specs.Values.{Carried, values}
use Rattle.world_laws.specs.Actors.{ActorCrew}
use Rattle.world_laws.specs.Laws.{Always}
use Rattle.world_laws.specs.Members.{HoldsOfKind}
use Rattle.world_laws.specs.Openings.{Start, opened_world}
use Rattle.world_laws.specs.Promises.{HasRoom, NumbersFit}
use Rattle.world_laws.specs.Worlds.{WorldState, Turn, after_turn, world_run}
use Rattle.whole_paths.specs.Between.{PathsBetween}
use Rattle.whole_paths.specs.Exchanges.{LetsThrough}
use Rattle.whole_paths.specs.Offered.{OffersUpTo}
use Rattle.whole_paths.specs.Probes.{AskTurns, IsProbed}
use Rattle.whole_paths.specs.Reasons.{IsOutstanding}

-- The side may not send up to this place yet, and its end asks to hear so by this tick. The peer's book takes bytes up to there, and 31 more,
-- since the octets tell a window in steps of 32.
pub record IsAwaited (six : SixBooks) (s : Side) (at by : ℕ) (p : PathState Carried) : Type 0 where
  pub below : (send_of s six).edge < at
  pub probed : IsProbed six s at by p
  pub offered : OffersUpTo six (peer s) (at + 31) p

-- As the path becomes another one, with fewer than 2^64 - 1 segments sent from each side: it is awaited still, or the edge rose, or one of the
-- things came between that may in the exchange of any ask.
abbrev pub AwaitedGoesOn : SixBooks → SixBooks → List Note → PathState Carried → PathState Carried → Type 0
AwaitedGoesOn six after steps p q = LetsThrough p → (s : Side) (at by : ℕ) → ((t : Side) → segments_sent t p.link < 2 ^ 64 - 1) → IsAwaited six s at by p
    → AskTurns (IsAwaited after s at by q ⊎ ((send_of s six).edge < (send_of s after).edge)) s by steps p q

-- Where a turn is over, of each end that opens, is open or closes, without a record, and of each place past the edge, where the peer's book takes
-- so much: within a minute and 400 ticks there and back.
abbrev pub AwaitingBegins : SixBooks → PathState Carried → Type 0
AwaitingBegins six p = p.agenda ≡ [] → (s : Side) → is_closed_to_segments (end_at s p).tcp.state ≡ false → (end_at s p).tcp.send.records ≡ []
    → IsOutstanding (end_at s p)
    → (at : ℕ) → (send_of s six).edge < at → at + 31 ≤ arriving.edge (reassembly_of (peer s) six)
    → IsAwaited six s at (p.clock + 60000 + 400 + 400) p

-- where a turn is over in a round that ends past its tick, and the peer isn't dead, none is awaited
abbrev pub AwaitingIsDue : SixBooks → PathState Carried → Type 0
AwaitingIsDue six p = p.agenda ≡ [] → (s : Side) → is_dead (end_at (peer s) p).tcp.state ≡ false → (at by : ℕ) → by < p.until → IsAwaited six s at by p → ⊥

-- on each path
pub record WindowsAreInTime (w : WorldState Carried) : Type 0 where
  pub begin : (actor : ℕ) (c : ActorCrew Carried) → slice_get w.crew actor ≡ Some c → HoldsOfKind (λ app. Unit {0}) (AwaitingBegins (books_in w.books)) c.member
  pub due : (actor : ℕ) (c : ActorCrew Carried) → slice_get w.crew actor ≡ Some c → HoldsOfKind (λ app. Unit {0}) (AwaitingIsDue (books_in w.books)) c.member

-- at any moment, and by any turn
pub record EachWindowComes : Type 0 where
  pub in_time : Always values (λ start w. WindowsAreInTime w)
  pub goes_on : (start : Start) (turns : List Turn) → HasRoom start → NumbersFit start → let w = world_run values turns (opened_world start) in
      (turn : Turn) (actor : ℕ) (c : ActorCrew Carried) → slice_get w.crew actor ≡ Some c → let v = after_turn values turn w in
      (d : ActorCrew Carried) × (slice_get v.crew actor ≡ Some d) × PathsBetween AwaitedGoesOn w.books v.books d.list c.member d.member
