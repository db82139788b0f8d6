-- How A hears its first DSS where B has no record: B asks for the Data ACK of its DATA_FIN, whatever is lost (RFC 8684, sections 3.1 and 3.3.3).
use Rattle.std.specs.Prelude.{ℕ, ◌+◌, ◌-◌, ◌^◌, ◌≡◌, ◌<◌, ◌≤◌, Bool, true, false, Some, List, [], slice_get}
use Rattle.sides.specs.declared.side.Side.{Side}
use Rattle.sides.specs.declared.side.Side.TheVariants.{A, B}
use Rattle.link_model.specs.Steps.{segments_sent}
use Rattle.subflow_send.specs.Records.{Record}
use Rattle.subflow_tcp.specs.States.{is_closed_to_segments}
use Rattle.path_core.specs.DataFin.{is_data_fin_owed}
use Rattle.path_core.specs.End.{PathEnd}
use Rattle.path_core.specs.State.{PathState}
use Rattle.path_core.specs.Values.{Carried, values}
use Rattle.world_laws.specs.declared.member.Member.TheVariants.{App, Path}
use Rattle.world_laws.specs.Actors.{Actor, ActorCrew}
use Rattle.world_laws.specs.Members.{HoldsOfKind}
use Rattle.world_laws.specs.Openings.{Start}
use Rattle.world_laws.specs.RoundDone.{reached}
use Rattle.world_laws.specs.Worlds.{Turn, after_turn}
use Rattle.whole_paths.specs.AsFar.{stage}
use Rattle.whole_paths.specs.DataAcksAsked.{IsAskedAgain, IsAskedSo}
use Rattle.whole_paths.specs.Exchanges.{IsFaithful}
use Rattle.whole_paths.specs.Mild.{IsMildStart}
use Rattle.whole_paths.specs.Flights.{IsFirst, IsOnItsWay, IsSentSo}
use Rattle.whole_paths.specs.Opened.{OpensOn}
use Rattle.whole_paths.specs.OpeningConfirmed.{IsConfirmed}

-- An end that may send a DSS asks for the Data ACK of its DATA_FIN, at this position, behind all that it sent; and the link leaves the copy as it
-- is.
pub record AsksByItsEnd (position : ℕ) (e : PathEnd) (stripped altered : Bool) : Type 0 where
  pub nxt : e.tcp.send.nxt ≡ position
  pub third : e.modes.owes_third ≡ false
  pub close : e.notices.fast_closed ≡ false
  pub owed : is_data_fin_owed e ≡ true
  pub clear : e.modes.clear ≡ true
  pub mapped : e.modes.identity ≡ false
  pub edge : 0 < e.tcp.recv.edge
  pub unstripped : stripped ≡ false
  pub unaltered : altered ≡ false

-- an end may send a DSS, and its DATA_FIN isn't acknowledged
pub record WaitsAtItsEnd (e : PathEnd) : Type 0 where
  pub clear : e.modes.clear ≡ true
  pub sent : e.sending.fin_sent ≡ true
  pub unacked : e.sending.close.own_acked ≡ false

-- A's end may send no DSS yet. What B asks is to come to it by this tick, at its RCV.NXT; or it hears a DSS in its turn.
pub data IsSignAwaited (x : ℕ) (p : PathState Carried) : Type 0 where
  comes : p.a.modes.clear ≡ false → 2 ≤ stage p.a.tcp.state → WaitsAtItsEnd p.b → (h : IsAskedAgain values B x p) → IsAskedSo (AsksByItsEnd p.a.tcp.recv.edge) h → IsSignAwaited x p
  hears : p.a.modes.clear ≡ false → IsConfirmed A p → IsSignAwaited x p

-- as the path becomes another one: it is awaited still, or the path is a step further, or a segment is harmed, or an end is dead
pub data SignGoesOn (x : ℕ) (p q : PathState Carried) : Type 0 where
  on : IsSignAwaited x q → SignGoesOn x p q
  opens : OpensOn p q → SignGoesOn x p q
  -- B has a record again, which comes by the same tick
  record_waits : q.b.modes.clear ≡ true → 2 ≤ stage q.a.tcp.state → (r : Record) → IsFirst r q.b → (way : IsOnItsWay values B r x q) → IsSentSo (λ sender stripped altered. ⊥) way → SignGoesOn x p q

-- as the path becomes this actor, with fewer than 2^64 - 1 segments sent from each side
abbrev pub SignsGoOn : Actor Carried → Actor Carried → Type 0
SignsGoOn (Path p) (Path q) = IsFaithful p → ((t : Side) → segments_sent t p.link < 2 ^ 64 - 1) → (x : ℕ) → IsSignAwaited x p → SignGoesOn x p q
SignsGoOn (App a) (App b) = Unit {0}
SignsGoOn _ _ = ⊥

-- where a turn is over, within a minute and 400 ticks
abbrev pub SignsBegin : PathState Carried → Type 0
SignsBegin p = p.agenda ≡ [] → is_closed_to_segments p.b.tcp.state ≡ false → p.b.tcp.send.records ≡ [] → p.a.modes.clear ≡ false
    → 2 ≤ stage p.a.tcp.state → WaitsAtItsEnd p.b → IsSignAwaited (p.clock + 60000 + 400) p

-- where a turn is over in a round that ends past its tick none is awaited
abbrev pub SignsAreDue : PathState Carried → Type 0
SignsAreDue p = p.agenda ≡ [] → (x : ℕ) → x < p.until → IsSignAwaited x p → ⊥

-- on path 0 of mild connections, at any moment, and by any turn
pub record EachFirstSignComes : Type 0 where
  pub begin : (start : Start) (turns : List Turn) → IsMildStart start → (actor : ℕ) (c : ActorCrew Carried)
      → slice_get (reached values start turns).crew actor ≡ Some c → HoldsOfKind (λ app. Unit {0}) SignsBegin c.member
  pub due : (start : Start) (turns : List Turn) → (actor : ℕ) (c : ActorCrew Carried) → slice_get (reached values start turns).crew actor ≡ Some c
      → HoldsOfKind (λ app. Unit {0}) SignsAreDue c.member
  pub goes_on : (start : Start) (turns : List Turn) → IsMildStart start
      → let w = reached values start turns in (turn : Turn) (actor : ℕ) (c : ActorCrew Carried) → slice_get w.crew actor ≡ Some c
      → (d : ActorCrew Carried) × (slice_get (after_turn values turn w).crew actor ≡ Some d) × SignsGoOn c.member d.member
