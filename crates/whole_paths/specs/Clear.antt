-- An end of a path that doesn't join may send a DSS only past the handshake: it may from the first copy on that it takes.
use Rattle.std.specs.Prelude.{◌≡◌, ◌≤◌, ℕ, None, Some, is_some, List, [], ◌∷◌, false, true}
use Rattle.std.specs.List.{slice_get}
use Rattle.sides.specs.declared.side.Side.{Side}
use Rattle.sides.specs.declared.side.Side.TheVariants.{A}
use Rattle.subflow_send.specs.Records.{Record}
use Rattle.subflow_send.specs.declared.record.RecordKind.TheVariants.{Data}
use Rattle.path_core.specs.Codec.{Codec}
use Rattle.path_core.specs.MpJoin.{is_joined}
use Rattle.path_core.specs.End.{PathEnd}
use Rattle.path_core.specs.State.{PathState, end_at}
use Rattle.path_core.specs.Values.{Carried, values}
use Rattle.world_laws.specs.Actors.{ActorCrew}
use Rattle.world_laws.specs.Members.{HoldsOfKind}
use Rattle.world_laws.specs.Openings.{Start}
use Rattle.world_laws.specs.Promises.{arrived_at}
use Rattle.world_laws.specs.RoundDone.{reached}
use Rattle.world_laws.specs.Worlds.{Turn}
use Rattle.whole_paths.specs.AsFar.{stage}
use Rattle.whole_paths.specs.Delivery.{HasFinished}
use Rattle.whole_paths.specs.Finish.{IsPathAt}
use Rattle.whole_paths.specs.Mild.{IsMildStart}
use Rattle.whole_paths.specs.OpeningWaits.{IsAlive}

-- On path 0 of a mild connection A's end has finished, its DATA_FIN acknowledged or its FIN sent, only where it may send a DSS.
abbrev pub WhoIsDoneIsClear : Type 0
WhoIsDoneIsClear = (start : Start) (turns : List Turn) → IsMildStart start → (p : PathState Carried) → IsPathAt 0 (reached values start turns) p → HasFinished p.a
    → p.a.modes.clear ≡ true

-- no end of the peer's stream is to be told at the end: none that a DATA_FIN said, alone or behind bytes
pub record HearsNoEnd (e : PathEnd) : Type 0 where
  pub fins : e.treated.fins ≡ []
  pub mapped : e.receiving.mapped_data_fin ≡ None

-- on path 0 of a mild connection none is at A's end, as long as it may send no DSS
abbrev pub AHearsNoEndBefore : Type 0
AHearsNoEndBefore = (start : Start) (turns : List Turn) → IsMildStart start → (p : PathState Carried) → IsPathAt 0 (reached values start turns) p → p.a.modes.clear ≡ false
    → HearsNoEnd p.a

-- nor does A's side know the end of B's stream, over any number of paths: until then no other path does anything
abbrev pub AIsToldNoEndBefore : Type 0
AIsToldNoEndBefore = (start : Start) (turns : List Turn) → IsMildStart start → (p : PathState Carried) → IsPathAt 0 (reached values start turns) p
    → p.a.modes.clear ≡ false → (arrived_at A (reached values start turns)).known_end ≡ None

-- Over any number of paths A's end of path 0 may send a DSS only where B's may (RFC 8684, section 3.1).
abbrev pub BIsClearFirst : Type 0
BIsClearFirst = (start : Start) (turns : List Turn) → IsMildStart start → (p : PathState Carried) → IsPathAt 0 (reached values start turns) p
    → p.a.modes.clear ≡ true → p.b.modes.clear ≡ true

-- And where B's may A's is past the handshake, and knows B's key, as long as no end is dead, on path 0 of a mild connection.
abbrev pub AHasTheKeyFirst : Type 0
AHasTheKeyFirst = (start : Start) (turns : List Turn) → IsMildStart start → (p : PathState Carried) → IsPathAt 0 (reached values start turns) p
    → IsAlive p → p.b.modes.clear ≡ true → (3 ≤ stage p.a.tcp.state) × (is_some p.a.modes.peer_key ≡ true)

-- and until B's may it sent nothing behind its SYN
abbrev pub BSendsNothingBefore : Type 0
BSendsNothingBefore = (start : Start) (turns : List Turn) → IsMildStart start → (p : PathState Carried) → IsPathAt 0 (reached values start turns) p
    → p.b.modes.clear ≡ false → p.b.tcp.send.nxt ≤ 1

-- and until an end may send one nothing came to it behind its peer's SYN, as long as no end is dead
abbrev pub NothingComesBefore : Type 0
NothingComesBefore = (start : Start) (turns : List Turn) → IsMildStart start → (p : PathState Carried) → IsPathAt 0 (reached values start turns) p
    → IsAlive p → (s : Side) → (end_at s p).modes.clear ≡ false → (end_at s p).tcp.recv.edge ≡ 1

-- A's first piece isn't acknowledged, before which nothing came to B behind the SYN.
pub record HasFirstPiece (p : PathState Carried) : Type 0 where
  pub first : Record
  pub others : List Record
  pub records : p.a.tcp.send.records ≡ first ∷ others
  pub kind : first.kind ≡ Data
  pub position : first.pos ≡ 1
  pub edge : p.b.tcp.recv.edge ≡ 1

-- So it is where a turn is over, B may send none, and both ends are past the handshake.
abbrev pub TheFirstPieceWaits : Type 0
TheFirstPieceWaits = (start : Start) (turns : List Turn) → IsMildStart start → (p : PathState Carried) → IsPathAt 0 (reached values start turns) p
    → IsAlive p → p.agenda ≡ [] → ((s : Side) → 3 ≤ stage (end_at s p).tcp.state) → p.b.modes.clear ≡ false → HasFirstPiece p

-- And where A's end may send none yet, at the end of a turn an end of B's without a record was granted nothing, and knows of no window that is shut.
abbrev pub BIsIdleBefore : Type 0
BIsIdleBefore = (start : Start) (turns : List Turn) → IsMildStart start → 1 ≤ start.buffer → (p : PathState Carried) → IsPathAt 0 (reached values start turns) p
    → IsAlive p → p.agenda ≡ [] → p.a.modes.clear ≡ false → p.b.modes.clear ≡ true → p.b.tcp.send.records ≡ [] → (p.b.sending.granted ≡ []) × (p.b.sending.shut ≡ false)

module _ {C : Type 0} where
  abbrev pub IsPastIfClear : PathState C → Type 0
  IsPastIfClear p = is_joined p.profile ≡ false → (s : Side) → (end_at s p).modes.clear ≡ true → 3 ≤ stage (end_at s p).tcp.state

  -- at every moment of a connection
  abbrev pub ClearEndsArePast : Codec C → Type 0
  ClearEndsArePast k = (start : Start) (turns : List Turn) (actor : ℕ) (c : ActorCrew C) → slice_get (reached k start turns).crew actor ≡ Some c
      → HoldsOfKind (λ app. Unit {0}) IsPastIfClear c.member
