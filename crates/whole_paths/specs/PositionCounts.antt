-- On the only path of a connection positions count the bytes of the streams (RFC 8684, section 3.3.1): SND.NXT those that the path took, and
-- RCV.NXT those that the peer's side received.
use Rattle.std.specs.Prelude.{ℕ, suc, ◌≡◌, ◌<◌, ◌≤◌, true, false, Some, length, slice_get}
use Rattle.sides.specs.declared.side.Side.{Side}
use Rattle.sides.specs.Side.{peer}
use Rattle.send_book.specs.declared.mark.ByteMark.{ByteMark}
use Rattle.send_book.specs.Marks.{is_free_for}
use Rattle.reassembly_book.specs.State.{received}
use Rattle.path_core.specs.State.{PathState, end_at}
use Rattle.world_laws.specs.Actors.{ActorCrew}
use Rattle.world_laws.specs.Members.{HoldsOfKind}
use Rattle.world_laws.specs.Promises.{arrived_at, written_by}
use Rattle.world_laws.specs.RoundNumbers.{taken_len}
use Rattle.world_laws.specs.Worlds.{WorldState}

module _ {C : Type 0} where
  -- Of this side's stream: SND.NXT lies behind all bytes that the path took, and as long as no FIN was sent no further than behind all that were
  -- written, then one position further. RCV.NXT of the peer's end lies behind all that the peer's side received, and then just behind them; position 0 is that of the SYN.
  pub record CountsBytes (w : WorldState C) (p : PathState C) (s : Side) : Type 0 where
    pub taken : taken_len 0 (written_by s w).marks < (end_at s p).tcp.send.nxt
    pub within : (end_at s p).tcp.send.finished ≡ false → (end_at s p).tcp.send.nxt ≤ suc (length (written_by s w).written)
    pub most : (end_at s p).tcp.send.nxt ≤ suc (suc (length (written_by s w).written))
    pub came : received (arrived_at (peer s) w) < (end_at (peer s) p).tcp.recv.edge
    pub exact : (end_at s p).tcp.send.finished ≡ false → (end_at (peer s) p).tcp.recv.edge ≡ suc (received (arrived_at (peer s) w))
    -- each byte that was written has its mark, and all behind those that the path took are there for it
    pub marked : length (written_by s w).marks ≡ length (written_by s w).written
    pub free : (place : ℕ) (mark : ByteMark) → taken_len 0 (written_by s w).marks ≤ place → slice_get (written_by s w).marks place ≡ Some mark
        → is_free_for 0 mark ≡ true

  -- of both streams, on each path
  pub record PositionsCountBytes (w : WorldState C) : Type 0 where
    pub each : (actor : ℕ) (c : ActorCrew C) → slice_get w.crew actor ≡ Some c
        → HoldsOfKind (λ app. Unit {0}) (λ (p : PathState C). (s : Side) → CountsBytes w p s) c.member

  -- and as long as no FIN was sent SND.NXT lies just behind the bytes that the path took
  pub record TookWhatItSent (w : WorldState C) (p : PathState C) (s : Side) : Type 0 where
    pub all : (end_at s p).tcp.send.finished ≡ false → (end_at s p).tcp.send.nxt ≤ suc (taken_len 0 (written_by s w).marks)

  pub record PathsTookWhatTheySent (w : WorldState C) : Type 0 where
    pub each : (actor : ℕ) (c : ActorCrew C) → slice_get w.crew actor ≡ Some c
        → HoldsOfKind (λ app. Unit {0}) (λ (p : PathState C). (s : Side) → TookWhatItSent w p s) c.member
