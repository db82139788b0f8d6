-- What an open end has sent as the turn of its path is over: all that it has room for in its congestion window (RFC 5681, section 2) and in the
-- window of its peer (RFC 9293, section 3.8.6).
use Rattle.std.specs.Prelude.{ℕ, ◌+◌, ◌≡◌, ◌<◌, true, Some, List, [], ◌∷◌, length, slice_get}
use Rattle.sides.specs.declared.side.Side.{Side}
use Rattle.send_book.specs.State.{Sending}
use Rattle.subflow_send.specs.Records.{Record}
use Rattle.subflow_tcp.specs.Sizes.{room}
use Rattle.subflow_tcp.specs.States.{may_finish}
use Rattle.path_core.specs.Codec.{Codec}
use Rattle.path_core.specs.Emission.{first_unsent, payload_size}
use Rattle.path_core.specs.End.{PathEnd}
use Rattle.path_core.specs.Profile.{Profile}
use Rattle.path_core.specs.State.{PathState, end_at}
use Rattle.path_core.specs.Values.{Carried, values}
use Rattle.world_laws.specs.Actors.{ActorCrew}
use Rattle.world_laws.specs.Laws.{Always}
use Rattle.world_laws.specs.Members.{HoldsOfKind}
use Rattle.world_laws.specs.Openings.{PathPlan, Start}
use Rattle.world_laws.specs.Promises.{written_by}
use Rattle.world_laws.specs.RoundNumbers.{BeginsRound, after_steps}
use Rattle.world_laws.specs.Worlds.{WorldState}
use Rattle.whole_paths.specs.Mild.{IsMildStart}
use Rattle.whole_paths.specs.SentInOrder.{sent_up_to}
use Rattle.whole_paths.specs.Straying.{IsOpen}

module _ {C : Type 0} where
  -- where the turn of a path is over, the first record that is to be sent of an end that sent no FIN is longer than there is room in the congestion
  -- window
  abbrev pub WaitsForRoom : PathState C → Type 0
  WaitsForRoom p = p.agenda ≡ [] → (s : Side) → may_finish (end_at s p).tcp.state ≡ true → (r : Record) → first_unsent (end_at s p) ≡ Some r
      → room (end_at s p).tcp < length r.piece

  -- on each path
  pub record UnsentWaitsForRoom (w : WorldState C) : Type 0 where
    pub each : (actor : ℕ) (c : ActorCrew C) → slice_get w.crew actor ≡ Some c → HoldsOfKind (λ app. Unit {0}) WaitsForRoom c.member

  -- always
  abbrev pub WhatIsUnsentWaitsForRoom : Codec C → Type 0
  WhatIsUnsentWaitsForRoom k = Always k (λ start w. UnsentWaitsForRoom w)

-- There is no room for another full segment in the congestion window, counted from SND.UNA up to which all is sent; or all that was written of this
-- stream is sent; or the end knows that the peer's window is shut, and all bytes are sent that lie before its edge as it was.
pub data IsPushed (c : Profile) (e : PathEnd) (was : Sending) : Type 0 where
  full : e.tcp.send.una + e.tcp.congestion.reno.window < sent_up_to e.tcp.send + payload_size c → IsPushed c e was
  all : length was.written < sent_up_to e.tcp.send → IsPushed c e was
  shut : e.sending.shut ≡ true → was.edge < sent_up_to e.tcp.send → IsPushed c e was

-- So it is at an open end that sent no FIN, by the stream as the round began, as the turn of the only path of a mild connection is over.
abbrev pub WhatHasRoomIsSent : Type 0
WhatHasRoomIsSent = (start : Start) (plan : PathPlan) (begun : WorldState Carried) (order : List ℕ) → start.paths ≡ plan ∷ [] → IsMildStart start
    → BeginsRound values start begun → (c : ActorCrew Carried) → slice_get (after_steps values order begun).crew 2 ≡ Some c
    → HoldsOfKind (λ app. Unit {0}) (λ (p : PathState Carried). IsOpen p → p.agenda ≡ [] → (s : Side) → may_finish (end_at s p).tcp.state ≡ true
    → IsPushed p.profile (end_at s p) (written_by s begun)) c.member
