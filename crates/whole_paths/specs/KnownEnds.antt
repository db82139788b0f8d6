-- Where the stream of a side ends, as the ends of its paths know it, and how that is told and acknowledged (RFC 8684, section 3.3.3).
use Rattle.std.specs.Prelude.{ℕ, ◌≡◌, ◌⊎◌, true, false, Some, List, [], length, slice_get}
use Rattle.sides.specs.declared.side.Side.{Side}
use Rattle.send_book.specs.State.{Sending}
use Rattle.subflow_tcp.specs.States.{may_finish}
use Rattle.path_core.specs.Codec.{Codec}
use Rattle.path_core.specs.Emission.{may_ask}
use Rattle.path_core.specs.End.{PathEnd}
use Rattle.path_core.specs.Modes.{sends_plainly}
use Rattle.path_core.specs.State.{PathState, end_at}
use Rattle.world_laws.specs.Actors.{ActorCrew}
use Rattle.world_laws.specs.Members.{HoldsOfKind}
use Rattle.world_laws.specs.Openings.{Start}
use Rattle.world_laws.specs.Promises.{HasRoom, NumbersFit, written_by}
use Rattle.world_laws.specs.RoundNumbers.{BeginsRound, after_steps}
use Rattle.world_laws.specs.Worlds.{WorldState}

-- the end knows how many bytes there are in all; or the connection was stopped there
abbrev pub KnowsTheEnd : Sending → PathEnd → Type 0
KnowsTheEnd b e = (e.sending.known_end ≡ Some (length b.written)) ⊎ (b.aborted ≡ true)

-- the DATA_FIN is acknowledged; or the connection was stopped there
abbrev pub EndIsAcknowledged : Sending → PathEnd → Type 0
EndIsAcknowledged b e = (e.sending.close.own_acked ≡ true) ⊎ (b.aborted ≡ true)

-- no DATA_FIN was sent that isn't acknowledged
abbrev pub WaitsForNoEnd : PathEnd → Type 0
WaitsForNoEnd e = e.sending.fin_sent ≡ true → e.sending.close.own_acked ≡ false → ⊥

module _ {C : Type 0} where
  -- as the turn of a path is over, of a side whose stream was closed as the round began: an end that may ask for bytes knows the end
  abbrev pub EndIsKnown : WorldState C → WorldState C → PathState C → Type 0
  EndIsKnown begun w p = p.agenda ≡ [] → (s : Side) → (written_by s begun).closed ≡ true → may_ask p.profile s (end_at s p) ≡ true
      → KnowsTheEnd (written_by s w) (end_at s p)

  -- in each round, on each path
  abbrev pub EndsAreKnown : Codec C → Type 0
  EndsAreKnown k = (start : Start) (begun : WorldState C) (order : List ℕ) → BeginsRound k start begun → let w = after_steps k order begun in
      (actor : ℕ) (c : ActorCrew C) → slice_get w.crew actor ≡ Some c → HoldsOfKind (λ app. Unit {0}) (EndIsKnown begun w) c.member

  -- there an end that is open and may send a DSS, that sends with mappings and has no record left, doesn't wait for more than its DATA_FIN
  abbrev pub ClosedIsAcknowledged : WorldState C → WorldState C → PathState C → Type 0
  ClosedIsAcknowledged begun w p = p.agenda ≡ [] → (s : Side) → (written_by s begun).closed ≡ true → may_finish (end_at s p).tcp.state ≡ true
      → (end_at s p).modes.clear ≡ true
      → sends_plainly (end_at s p).modes ≡ false → (end_at s p).tcp.send.records ≡ [] → WaitsForNoEnd (end_at s p) → EndIsAcknowledged (written_by s w) (end_at s p)

  -- in each round, on each path
  abbrev pub WhatIsClosedIsAcknowledged : Codec C → Type 0
  WhatIsClosedIsAcknowledged k = (start : Start) (begun : WorldState C) (order : List ℕ) → HasRoom start → NumbersFit start
      → BeginsRound k start begun → let w = after_steps k order begun in
      (actor : ℕ) (c : ActorCrew C) → slice_get w.crew actor ≡ Some c → HoldsOfKind (λ app. Unit {0}) (ClosedIsAcknowledged begun w) c.member
