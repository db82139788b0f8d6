-- How A's first piece comes to B with both keys, whatever is lost, by which B may send a DSS (RFC 8684, section 3.1).
use Rattle.std.specs.Prelude.{ℕ, ◌+◌, ◌-◌, ◌^◌, ◌≡◌, ◌<◌, ◌≤◌, Bool, true, false, Option, Some, is_some, List, [], ◌∷◌, slice_get}
use Rattle.mptcp_options.specs.declared.capable.CapableKeys.TheVariants.{WithData}
use Rattle.sides.specs.declared.side.Side.{Side}
use Rattle.sides.specs.declared.side.Side.TheVariants.{A, B}
use Rattle.path_segments.specs.declared.segment.PathOption.TheVariants.{Capable}
use Rattle.link_model.specs.Steps.{segments_sent}
use Rattle.subflow_send.specs.Records.{Record}
use Rattle.subflow_send.specs.declared.record.RecordKind.TheVariants.{Data}
use Rattle.subflow_tcp.specs.Emitting.{acknowledged_in}
use Rattle.subflow_tcp.specs.States.{is_dead}
use Rattle.path_core.specs.End.{PathEnd}
use Rattle.path_core.specs.MpJoin.{is_joined}
use Rattle.path_core.specs.OptionsOut.{record_options}
use Rattle.path_core.specs.Profile.{Profile}
use Rattle.path_core.specs.State.{PathState}
use Rattle.path_core.specs.Values.{Carried, values}
use Rattle.world_laws.specs.declared.member.Member.TheVariants.{App, Path}
use Rattle.world_laws.specs.Actors.{Actor, ActorCrew}
use Rattle.world_laws.specs.Members.{HoldsOfKind}
use Rattle.world_laws.specs.Openings.{Start}
use Rattle.world_laws.specs.RoundDone.{reached}
use Rattle.world_laws.specs.Worlds.{Turn, after_turn}
use Rattle.whole_paths.specs.AsFar.{stage}
use Rattle.whole_paths.specs.Exchanges.{IsFaithful}
use Rattle.whole_paths.specs.Flights.{IsOnItsWay, IsSentSo}
use Rattle.whole_paths.specs.Mild.{IsMildStart}
use Rattle.whole_paths.specs.Opened.{OpensOn}
use Rattle.whole_paths.specs.OpeningConfirmed.{IsConfirmed}

-- A's end sends the record with both keys, and the link leaves the copy as it is
pub record ShowsBothKeys (c : Profile) (r : Record) (e : PathEnd) (stripped altered : Bool) : Type 0 where
  pub sums : Bool
  pub key : ℕ
  pub len : ℕ
  pub checksum : Option ℕ
  pub options : record_options r.kind c A r e ≡ Capable sums false (WithData e.modes.own_key key len checksum) ∷ []
  pub acknowledges : acknowledged_in e.tcp ≡ Some e.tcp.recv.edge
  pub edge : 0 < e.tcp.recv.edge
  pub unstripped : stripped ≡ false
  pub unaltered : altered ≡ false

-- B's end may send no DSS yet. A's first piece is to come to it by this tick, before which nothing came behind the SYN; or it hears both keys in its
-- turn.
pub data IsFirstPieceAwaited (x : ℕ) (p : PathState Carried) : Type 0 where
  comes : (r : Record) → r.kind ≡ Data → r.pos ≡ 1 → 2 ≤ stage p.a.tcp.state → p.a.modes.clear ≡ false → is_some p.a.modes.peer_key ≡ true
      → p.b.modes.clear ≡ false → 2 ≤ stage p.b.tcp.state → p.b.tcp.recv.edge ≡ 1 → (way : IsOnItsWay values A r x p)
      → IsSentSo (ShowsBothKeys p.profile r) way → IsFirstPieceAwaited x p
  hears : p.b.modes.clear ≡ false → IsConfirmed B p → IsFirstPieceAwaited x p

-- as the path becomes another one: it is awaited still, or the path is a step further, or a segment is harmed, or an end is dead
pub data FirstPieceGoesOn (x : ℕ) (p q : PathState Carried) : Type 0 where
  on : IsFirstPieceAwaited x q → FirstPieceGoesOn x p q
  opens : OpensOn p q → FirstPieceGoesOn x p q

-- as the path becomes this actor, with fewer than 2^64 - 1 segments sent from each side
abbrev pub FirstPiecesGoOn : Actor Carried → Actor Carried → Type 0
FirstPiecesGoOn (Path p) (Path q) = IsFaithful p → ((t : Side) → segments_sent t p.link < 2 ^ 64 - 1) → (x : ℕ) → IsFirstPieceAwaited x p → FirstPieceGoesOn x p q
FirstPiecesGoOn (App a) (App b) = Unit {0}
FirstPiecesGoOn _ _ = ⊥

-- where a turn is over, within a minute and 400 ticks
abbrev pub FirstPiecesBegin : PathState Carried → Type 0
FirstPiecesBegin p = p.agenda ≡ [] → is_joined p.profile ≡ false → is_dead p.a.tcp.state ≡ false → (r : Record) (others : List Record)
    → p.a.tcp.send.records ≡ r ∷ others → r.kind ≡ Data → r.pos ≡ 1 → 2 ≤ stage p.a.tcp.state → p.a.modes.clear ≡ false
    → p.b.modes.clear ≡ false → 2 ≤ stage p.b.tcp.state → p.b.tcp.recv.edge ≡ 1 → IsFirstPieceAwaited (p.clock + 60000 + 400) p

-- where a turn is over the clock isn't past its tick
abbrev pub FirstPiecesEnd : PathState Carried → Type 0
FirstPiecesEnd p = p.agenda ≡ [] → (x : ℕ) → IsFirstPieceAwaited x p → p.clock ≤ x

-- on path 0 of mild connections, at any moment, and by any turn
pub record EachFirstPieceComes : Type 0 where
  pub begin : (start : Start) (turns : List Turn) → IsMildStart start → (actor : ℕ) (c : ActorCrew Carried)
      → slice_get (reached values start turns).crew actor ≡ Some c → HoldsOfKind (λ app. Unit {0}) FirstPiecesBegin c.member
  pub end : (start : Start) (turns : List Turn) → (actor : ℕ) (c : ActorCrew Carried) → slice_get (reached values start turns).crew actor ≡ Some c
      → HoldsOfKind (λ app. Unit {0}) FirstPiecesEnd c.member
  pub goes_on : (start : Start) (turns : List Turn) → IsMildStart start
      → let w = reached values start turns in (turn : Turn) (actor : ℕ) (c : ActorCrew Carried) → slice_get w.crew actor ≡ Some c
      → (d : ActorCrew Carried) × (slice_get (after_turn values turn w).crew actor ≡ Some d) × FirstPiecesGoOn c.member d.member
