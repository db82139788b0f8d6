-- How A hears its first DSS where B has a record: B's first piece goes with one, whatever is lost (RFC 8684, sections 3.1 and 3.3).
use Rattle.std.specs.Prelude.{ℕ, ◌+◌, ◌-◌, ◌^◌, ◌≡◌, ◌<◌, ◌≤◌, Bool, true, false, Option, Some, List, [], ◌∷◌, slice_get}
use Rattle.sides.specs.declared.side.Side.{Side}
use Rattle.sides.specs.declared.side.Side.TheVariants.{A, B}
use Rattle.path_segments.specs.declared.segment.PathMapping.{PathMapping}
use Rattle.path_segments.specs.declared.segment.PathOption.TheVariants.{Dss}
use Rattle.link_model.specs.Steps.{segments_sent}
use Rattle.subflow_send.specs.Records.{Record}
use Rattle.subflow_send.specs.declared.record.RecordKind.TheVariants.{Data}
use Rattle.subflow_tcp.specs.Emitting.{acknowledged_in}
use Rattle.subflow_tcp.specs.States.{is_dead}
use Rattle.path_core.specs.End.{PathEnd}
use Rattle.path_core.specs.OptionsOut.{record_options}
use Rattle.path_core.specs.Profile.{Profile}
use Rattle.path_core.specs.State.{PathState}
use Rattle.path_core.specs.Values.{Carried, values}
use Rattle.world_laws.specs.declared.member.Member.TheVariants.{App, Path}
use Rattle.world_laws.specs.Actors.{Actor, ActorCrew}
use Rattle.world_laws.specs.Members.{HoldsOfKind}
use Rattle.world_laws.specs.Openings.{Start}
use Rattle.world_laws.specs.RoundDone.{reached}
use Rattle.world_laws.specs.Worlds.{Turn, after_turn}
use Rattle.whole_paths.specs.AsFar.{stage}
use Rattle.whole_paths.specs.Exchanges.{IsFaithful}
use Rattle.whole_paths.specs.Flights.{IsOnItsWay, IsSentSo}
use Rattle.whole_paths.specs.Mild.{IsMildStart}
use Rattle.whole_paths.specs.Opened.{OpensOn}
use Rattle.whole_paths.specs.OpeningConfirmed.{IsConfirmed}

-- B's end sends the record with a DSS, and the link leaves the copy as it is
pub record ShowsADss (c : Profile) (r : Record) (e : PathEnd) (stripped altered : Bool) : Type 0 where
  pub mapping : Option (PathMapping ℕ)
  pub options : record_options r.kind c B r e ≡ Dss (Some e.receiving.next) mapping ∷ []
  pub acknowledges : acknowledged_in e.tcp ≡ Some e.tcp.recv.edge
  pub edge : 0 < e.tcp.recv.edge
  pub unstripped : stripped ≡ false
  pub unaltered : altered ≡ false

-- where B's end may send a DSS, A's none yet, and nothing came to A behind the SYN
pub record WantsASign (p : PathState Carried) : Type 0 where
  pub unclear : p.a.modes.clear ≡ false
  pub high : 2 ≤ stage p.a.tcp.state
  pub clear : p.b.modes.clear ≡ true
  pub met : 2 ≤ stage p.b.tcp.state
  pub edge : p.a.tcp.recv.edge ≡ 1

-- B's first piece is to come by this tick; or A hears a DSS in its turn.
pub data IsSignPieceAwaited (x : ℕ) (p : PathState Carried) : Type 0 where
  comes : WantsASign p → (r : Record) → r.kind ≡ Data → r.pos ≡ 1 → (way : IsOnItsWay values B r x p) → IsSentSo (ShowsADss p.profile r) way
      → IsSignPieceAwaited x p
  hears : p.a.modes.clear ≡ false → IsConfirmed A p → IsSignPieceAwaited x p

-- as the path becomes another one: it is awaited still, or the path is a step further, or a segment is harmed, or an end is dead
pub data SignPieceGoesOn (x : ℕ) (p q : PathState Carried) : Type 0 where
  on : IsSignPieceAwaited x q → SignPieceGoesOn x p q
  opens : OpensOn p q → SignPieceGoesOn x p q

-- as the path becomes this actor, with fewer than 2^64 - 1 segments sent from each side
abbrev pub SignPiecesGoOn : Actor Carried → Actor Carried → Type 0
SignPiecesGoOn (Path p) (Path q) = IsFaithful p → ((t : Side) → segments_sent t p.link < 2 ^ 64 - 1) → (x : ℕ) → IsSignPieceAwaited x p → SignPieceGoesOn x p q
SignPiecesGoOn (App a) (App b) = Unit {0}
SignPiecesGoOn _ _ = ⊥

-- where a turn is over, within a minute and 400 ticks
abbrev pub SignPiecesBegin : PathState Carried → Type 0
SignPiecesBegin p = p.agenda ≡ [] → is_dead p.b.tcp.state ≡ false → WantsASign p → (r : Record) (others : List Record)
    → p.b.tcp.send.records ≡ r ∷ others → r.kind ≡ Data → r.pos ≡ 1 → IsSignPieceAwaited (p.clock + 60000 + 400) p

-- on path 0 of mild connections, at any moment, and by any turn
pub record EachSignPieceComes : Type 0 where
  pub begin : (start : Start) (turns : List Turn) → IsMildStart start → (actor : ℕ) (c : ActorCrew Carried)
      → slice_get (reached values start turns).crew actor ≡ Some c → HoldsOfKind (λ app. Unit {0}) SignPiecesBegin c.member
  pub goes_on : (start : Start) (turns : List Turn) → IsMildStart start
      → let w = reached values start turns in (turn : Turn) (actor : ℕ) (c : ActorCrew Carried) → slice_get w.crew actor ≡ Some c
      → (d : ActorCrew Carried) × (slice_get (after_turn values turn w).crew actor ≡ Some d) × SignPiecesGoOn c.member d.member
