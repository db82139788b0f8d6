-- Which records of data an end sends in a turn: the one alone whose segment goes (RFC 9293, section 3.10.7.4).
use Rattle.std.specs.Prelude.{ℕ, ◌≡◌, ◌<◌, ◌⊎◌, false, Option, None, Some, slice_get}
use Rattle.sides.specs.declared.side.Side.{Side}
use Rattle.subflow_send.specs.Records.{Record}
use Rattle.subflow_send.specs.declared.record.RecordKind.TheVariants.{Data}
use Rattle.path_core.specs.Codec.{Codec}
use Rattle.path_core.specs.Looking.{first_sends, segment_sent}
use Rattle.path_core.specs.State.{PathState, end_at}
use Rattle.world_laws.specs.declared.member.Member.TheVariants.{App, Path}
use Rattle.world_laws.specs.Actors.{Actor, ActorCrew}
use Rattle.world_laws.specs.Worlds.{WorldState, Turn, after_turn}
use Rattle.whole_paths.specs.Expiries.{IsSaidAt, IsSegmentOf}
use Rattle.whole_paths.specs.Mending.{IsRecordOf, WasSent}

-- there is one, and this holds of it
abbrev pub IsOneSo : {X : Type 0} → Option X → (X → Type 0) → Type 0
IsOneSo None P = ⊥
IsOneSo (Some x) P = P x

module _ {C : Type 0} where
  -- the segment that goes next is the record's, from this side, with its options
  abbrev pub GoesNext : Side → Record → PathState C → Type 0
  GoesNext s r p = IsOneSo (first_sends p.agenda p) (λ t. let x = segment_sent p t in
      (t.from ≡ s) × IsSegmentOf r x × IsSaidAt p.profile s r (end_at s p) x)

  -- As the path becomes another one: each record of data that an end sent it had sent before, or it is that of the segment which went. So it is once
  -- the end's SYN is acknowledged.
  abbrev pub RecordsGoAlone : PathState C → PathState C → Type 0
  RecordsGoAlone p q = (s : Side) → 0 < (end_at s p).tcp.send.una → (t : Record) → IsRecordOf (end_at s q) t → t.kind ≡ Data
      → t.sending.unsent ≡ false → WasSent (end_at s p) t ⊎ GoesNext s t p

  -- as the path becomes this actor
  abbrev pub PathsGoAlone : Actor C → Actor C → Type 0
  PathsGoAlone (Path p) (Path q) = RecordsGoAlone p q
  PathsGoAlone (App a) (App b) = Unit {0}
  PathsGoAlone _ _ = ⊥

  -- by any turn
  abbrev pub EachRecordGoesAlone : Codec C → Type 0
  EachRecordGoesAlone k = (w : WorldState C) (turn : Turn) (actor : ℕ) (c : ActorCrew C) → slice_get w.crew actor ≡ Some c
      → (d : ActorCrew C) × (slice_get (after_turn k turn w).crew actor ≡ Some d) × PathsGoAlone c.member d.member
