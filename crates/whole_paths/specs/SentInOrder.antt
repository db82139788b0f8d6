-- Records are sent in order: behind the first one that is to be sent no octets are under way, so that all octets that are lie before it.
use Rattle.std.specs.Prelude.{ℕ, ◌-◌, ◌≡◌, ◌<◌, ◌≤◌, ◌⊎◌, true, if◌then◌else◌, Some, List, [], ◌∷◌, slice_get}
use Rattle.sides.specs.declared.side.Side.{Side}
use Rattle.stream_lanes.specs.Words.{Every}
use Rattle.subflow_send.specs.Records.{Record, SendState, end_of}
use Rattle.subflow_send.specs.Rules.{flight, is_unsent}
use Rattle.path_core.specs.Codec.{Codec}
use Rattle.path_core.specs.State.{PathState, end_at}
use Rattle.world_laws.specs.Actors.{ActorCrew}
use Rattle.world_laws.specs.Laws.{Always}
use Rattle.world_laws.specs.Members.{HoldsOfKind}
use Rattle.world_laws.specs.Worlds.{WorldState}

-- the position up to which all is sent: that of the first record that is to be sent, for the first time or again; or else this one
abbrev pub sent_before : ℕ → List Record → ℕ
sent_before nxt [] = nxt
sent_before nxt (r ∷ rs) = if is_unsent r then r.pos else sent_before nxt rs

abbrev pub sent_up_to : SendState → ℕ
sent_up_to v = sent_before v.nxt v.records

-- the record is to be sent, or has no octets, as a FIN hasn't
abbrev pub WaitsToBeSent : Record → Type 0
WaitsToBeSent r = (is_unsent r ≡ true) ⊎ (r.piece ≡ [])

-- and so does each behind one that is to be sent
abbrev pub AreSentInOrder : List Record → Type 0
AreSentInOrder [] = Unit {0}
AreSentInOrder (r ∷ rs) = (is_unsent r ≡ true → Every WaitsToBeSent rs) × AreSentInOrder rs

-- No more octets are under way than lie between SND.UNA and that position, where SND.UNA lies before the end of the first record.
pub record SendsInOrder (v : SendState) : Type 0 where
  pub in_order : AreSentInOrder v.records
  pub under_way : (r : Record) (others : List Record) → v.records ≡ r ∷ others → v.una < end_of r → flight v ≤ sent_up_to v - v.una

module _ {C : Type 0} where
  -- each end, on each path
  pub record RecordsAreSentInOrder (w : WorldState C) : Type 0 where
    pub each : (actor : ℕ) (c : ActorCrew C) → slice_get w.crew actor ≡ Some c
        → HoldsOfKind (λ app. Unit {0}) (λ (p : PathState C). (s : Side) → SendsInOrder (end_at s p).tcp.send) c.member

  -- always
  abbrev pub EachIsSentInOrder : Codec C → Type 0
  EachIsSentInOrder k = Always k (λ start w. RecordsAreSentInOrder w)
