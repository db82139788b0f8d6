-- What a subflow acknowledges of a stream stands in the peer's reassembly book (RFC 8684, section 3.3.2).
use Rattle.std.specs.Prelude.{ℕ, ◌+◌, ◌-◌, ◌≡◌, ◌<◌, ◌≤◌, false, Some, List, [], ◌∷◌, slice_get}
use Rattle.sides.specs.declared.side.Side.{Side}
use Rattle.sides.specs.Side.{peer}
use Rattle.reassembly_book.specs.State.{Arriving, received}
use Rattle.stream_lanes.specs.View.{IsPlaced}
use Rattle.stream_lanes.specs.Words.{Every}
use Rattle.subflow_tcp.specs.States.{is_dead}
use Rattle.path_store.specs.declared.granted_piece.GrantedPiece.{GrantedPiece}
use Rattle.path_core.specs.Codec.{Codec}
use Rattle.path_core.specs.End.{PathEnd}
use Rattle.path_core.specs.State.{PathState, end_at}
use Rattle.world_laws.specs.Actors.{ActorCrew}
use Rattle.world_laws.specs.Members.{HoldsOfKind}
use Rattle.world_laws.specs.Openings.{PathPlan, Start, opened_world}
use Rattle.world_laws.specs.Promises.{arrived_at}
use Rattle.world_laws.specs.Worlds.{WorldState, Turn, world_run}
use Rattle.whole_paths.specs.Mild.{IsMildStart}

-- RCV.NXT of the receiving end is past all positions of a piece that the sending end was granted and waits for
pub record HasPassed (piece : GrantedPiece) (sender receiver : PathEnd) : Type 0 where
  pub number : ℕ
  pub there : slice_get sender.sending.granted number ≡ Some piece
  pub passed : piece.position + (piece.to - piece.from) ≤ receiver.tcp.recv.edge

-- each byte of the piece was read from the book, or stands there
abbrev pub IsPlacedWhole : Arriving → GrantedPiece → Type 0
IsPlacedWhole b piece = (place : ℕ) → piece.from ≤ place → place < piece.to → IsPlaced b.read b.places place

module _ {C : Type 0} where
  -- what each end of a path passed stands in its side's book
  abbrev pub PassedIsPlaced : WorldState C → PathState C → Type 0
  PassedIsPlaced w p = (s : Side) (piece : GrantedPiece) → HasPassed piece (end_at s p) (end_at (peer s) p) → IsPlacedWhole (arrived_at (peer s) w) piece

  -- on each path
  pub record WhatIsPassedIsPlaced (w : WorldState C) : Type 0 where
    pub each : (actor : ℕ) (c : ActorCrew C) → slice_get w.crew actor ≡ Some c → HoldsOfKind (λ app. Unit {0}) (PassedIsPlaced w) c.member

  -- and no byte before it is missing there
  abbrev pub PassedIsReceived : WorldState C → PathState C → Type 0
  PassedIsReceived w p = (s : Side) (piece : GrantedPiece) → HasPassed piece (end_at s p) (end_at (peer s) p) → piece.to ≤ received (arrived_at (peer s) w)

  pub record WhatIsPassedIsReceived (w : WorldState C) : Type 0 where
    pub each : (actor : ℕ) (c : ActorCrew C) → slice_get w.crew actor ≡ Some c → HoldsOfKind (λ app. Unit {0}) (PassedIsReceived w) c.member

  -- an end that lives and has no record left waits for no Data ACK but of what is received
  abbrev pub GrantedIsReceived : WorldState C → PathState C → Type 0
  GrantedIsReceived w p = (s : Side) → is_dead (end_at s p).tcp.state ≡ false → (end_at s p).tcp.send.records ≡ []
      → Every (λ piece. piece.to ≤ received (arrived_at (peer s) w)) (end_at s p).sending.granted

  pub record WhatIsGrantedIsReceived (w : WorldState C) : Type 0 where
    pub each : (actor : ℕ) (c : ActorCrew C) → slice_get w.crew actor ≡ Some c → HoldsOfKind (λ app. Unit {0}) (GrantedIsReceived w) c.member

  -- an end that lives and has no record left waits for no Data ACK but of what stands there
  abbrev pub GrantedIsPlaced : WorldState C → PathState C → Type 0
  GrantedIsPlaced w p = (s : Side) → is_dead (end_at s p).tcp.state ≡ false → (end_at s p).tcp.send.records ≡ []
      → Every (λ piece. IsPlacedWhole (arrived_at (peer s) w) piece) (end_at s p).sending.granted

  -- on each path
  pub record WhatIsGrantedIsPlaced (w : WorldState C) : Type 0 where
    pub each : (actor : ℕ) (c : ActorCrew C) → slice_get w.crew actor ≡ Some c → HoldsOfKind (λ app. Unit {0}) (GrantedIsPlaced w) c.member

  -- in a mild connection of one path, always
  abbrev pub HoldsOfOnlyPaths : Codec C → (WorldState C → Type 0) → Type 0
  HoldsOfOnlyPaths k P = (start : Start) (turns : List Turn) (plan : PathPlan) → start.paths ≡ plan ∷ [] → IsMildStart start
      → P (world_run k turns (opened_world start))
