-- What an expiry makes of the records behind the first one: each is to be sent again (RFC 6298, section 5, rule 5.4).
use Rattle.std.specs.Prelude.{ℕ, suc, ◌≡◌, ◌<◌, ◌⊎◌, true, Some, slice_get}
use Rattle.sides.specs.declared.side.Side.{Side}
use Rattle.subflow_send.specs.Records.{Record}
use Rattle.path_agenda.specs.Agenda.{expired}
use Rattle.path_core.specs.Codec.{Codec}
use Rattle.path_core.specs.End.{PathEnd}
use Rattle.path_core.specs.State.{PathState, end_at}
use Rattle.world_laws.specs.declared.member.Member.TheVariants.{App, Path}
use Rattle.world_laws.specs.Actors.{Actor, ActorCrew}
use Rattle.world_laws.specs.Worlds.{WorldState, Turn, after_turn}
use Rattle.whole_paths.specs.Expiries.{IsToSend, RunsOut}
use Rattle.whole_paths.specs.Kept.{IsSameRecord}

-- each record of the end's is to be sent, but for the first
pub record OthersAreUnsent (e : PathEnd) : Type 0 where
  pub each : (place : ℕ) (r : Record) → slice_get e.tcp.send.records (suc place) ≡ Some r → r.sending.unsent ≡ true

-- each record of the end's stood at its place before, but for how often it was sent
pub record HasTheSameRecords (e f : PathEnd) : Type 0 where
  pub each : (place : ℕ) (r : Record) → slice_get f.tcp.send.records place ≡ Some r
      → (t : Record) × (slice_get e.tcp.send.records place ≡ Some t) × IsSameRecord t r

module _ {C : Type 0} where
  -- So it is once the timer ran out, unless that was the sixth time in a row, and stays so as the first record goes again; or the path stays as it
  -- is.
  pub record SendsAllAgain (p q : PathState C) : Type 0 where
    pub fires : (s : Side) (tick : ℕ) → RunsOut s tick p → (end_at s p).tcp.timing.expiries < 5 → (q ≡ p) ⊎ OthersAreUnsent (end_at s q)
    pub gives_back : (s : Side) → p.agenda ≡ expired s → OthersAreUnsent (end_at s p) → OthersAreUnsent (end_at s q)
    pub sends : (s : Side) → IsToSend s p → OthersAreUnsent (end_at s p) → OthersAreUnsent (end_at s q)
    -- and it is the same record that goes
    pub no_other : (s : Side) → IsToSend s p → HasTheSameRecords (end_at s p) (end_at s q)

  -- as the path becomes this actor
  abbrev pub PathsSendAllAgain : Actor C → Actor C → Type 0
  PathsSendAllAgain (Path p) (Path q) = SendsAllAgain p q
  PathsSendAllAgain (App a) (App b) = Unit {0}
  PathsSendAllAgain _ _ = ⊥

  -- by any turn
  abbrev pub EachExpirySendsAllAgain : Codec C → Type 0
  EachExpirySendsAllAgain k = (w : WorldState C) (turn : Turn) (actor : ℕ) (c : ActorCrew C) → slice_get w.crew actor ≡ Some c
      → (d : ActorCrew C) × (slice_get (after_turn k turn w).crew actor ≡ Some d) × PathsSendAllAgain c.member d.member
