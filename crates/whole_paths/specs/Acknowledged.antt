-- Where an end waits for no Data ACK, all bytes that its path was granted are acknowledged (RFC 8684, section 3.3.2).
use Rattle.std.specs.Prelude.{ℕ, ◌≡◌, ◌≤◌, true, false, Some, List, [], ◌∷◌, length, slice_get}
use Rattle.sides.specs.declared.side.Side.{Side}
use Rattle.send_book.specs.State.{Sending, acked_len}
use Rattle.stream_lanes.specs.Marks.{tried}
use Rattle.subflow_tcp.specs.States.{may_finish}
use Rattle.actor_desk.specs.declared.ask.Note.{Note}
use Rattle.path_core.specs.Codec.{Codec}
use Rattle.path_core.specs.End.{PathEnd}
use Rattle.path_core.specs.State.{PathState, end_at, path_of}
use Rattle.world_laws.specs.Actors.{ActorCrew}
use Rattle.world_laws.specs.Members.{HoldsOfKind}
use Rattle.world_laws.specs.Openings.{PathPlan, Start}
use Rattle.world_laws.specs.Promises.{HasRoom, NumbersFit, written_by}
use Rattle.world_laws.specs.RoundNumbers.{BeginsRound, after_steps, last_on_standby, steps_since}
use Rattle.world_laws.specs.Worlds.{WorldState}
use Rattle.whole_paths.specs.Reasons.{IsOutstanding}

-- the path tried no byte that isn't acknowledged
abbrev pub AllIsAcknowledged : ℕ → Sending → Type 0
AllIsAcknowledged path b = (place : ℕ) → tried path (slice_get b.marks place) ≡ false

module _ {C : Type 0} where
  -- where an end has no granted piece left, its path tried no byte that isn't acknowledged
  abbrev pub GrantedIsAcknowledged : WorldState C → PathState C → Type 0
  GrantedIsAcknowledged w p = (s : Side) → (end_at s p).sending.granted ≡ [] → AllIsAcknowledged (path_of p) (written_by s w)

  -- on each path
  pub record WhatWasGrantedIsAcknowledged (w : WorldState C) : Type 0 where
    pub each : (actor : ℕ) (c : ActorCrew C) → slice_get w.crew actor ≡ Some c → HoldsOfKind (λ app. Unit {0}) (GrantedIsAcknowledged w) c.member

-- The end has no record left and waits for no Data ACK of bytes, and its peer's window isn't shut. That its DATA_FIN is acknowledged isn't
-- said.
pub record IsIdle (e : PathEnd) : Type 0 where
  pub records : e.tcp.send.records ≡ []
  pub pieces : e.sending.granted ≡ []
  pub open_window : e.sending.shut ≡ false

-- So many bytes are acknowledged; or the path was on standby when it asked for bytes last, in these steps; or the connection was stopped
-- there.
pub data IsAllAcknowledged (s : Side) (steps : List Note) (written : ℕ) (book : Sending) : Type 0 where
  acknowledged : written ≤ acked_len book.marks → IsAllAcknowledged s steps written book
  standby : last_on_standby s false steps ≡ true → IsAllAcknowledged s steps written book
  stopped : book.aborted ≡ true → IsAllAcknowledged s steps written book

module _ {C : Type 0} where
  -- as the turn of a path is over, all that was written as the round began, at an open end that may send a DSS and has no bytes under way
  abbrev pub IdleIsAcknowledged : WorldState C → WorldState C → PathState C → Type 0
  IdleIsAcknowledged begun w p = p.agenda ≡ [] → (s : Side) → may_finish (end_at s p).tcp.state ≡ true → (end_at s p).modes.clear ≡ true → IsIdle (end_at s p)
      → IsAllAcknowledged s (steps_since 2 begun w) (length (written_by s begun).written) (written_by s w)

  -- as much is acknowledged where an end has nothing outstanding
  abbrev pub WrittenIsAcknowledged : WorldState C → WorldState C → PathState C → Type 0
  WrittenIsAcknowledged begun w p = p.agenda ≡ [] → (s : Side) → may_finish (end_at s p).tcp.state ≡ true → (end_at s p).modes.clear ≡ true
      → (IsOutstanding (end_at s p) → ⊥)
      → IsAllAcknowledged s (steps_since 2 begun w) (length (written_by s begun).written) (written_by s w)

  -- in each round of a connection over one path, which is the actor 2
  abbrev pub HoldsInEachRound : Codec C → (WorldState C → WorldState C → PathState C → Type 0) → Type 0
  HoldsInEachRound k P = (start : Start) (plan : PathPlan) (begun : WorldState C) (order : List ℕ) → start.paths ≡ plan ∷ [] → HasRoom start → NumbersFit start
      → BeginsRound k start begun → let w = after_steps k order begun in
      (c : ActorCrew C) → slice_get w.crew 2 ≡ Some c → HoldsOfKind (λ app. Unit {0}) (P begun w) c.member

  abbrev pub WhatIdleEndsWroteIsAcknowledged : Codec C → Type 0
  WhatIdleEndsWroteIsAcknowledged k = HoldsInEachRound k IdleIsAcknowledged

  abbrev pub WhatWasWrittenIsAcknowledged : Codec C → Type 0
  WhatWasWrittenIsAcknowledged k = HoldsInEachRound k WrittenIsAcknowledged
