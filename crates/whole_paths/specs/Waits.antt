-- How long the timer runs of an end with a record that isn't acknowledged (RFC 6298, section 5).
use Rattle.std.specs.Prelude.{ℕ, ◌≡◌, ◌<◌, ◌≤◌, true, false, Some, List, [], ◌∷◌, slice_get}
use Rattle.sides.specs.declared.side.Side.{Side}
use Rattle.subflow_send.specs.Records.{Record}
use Rattle.subflow_tcp.specs.States.{is_closed_to_segments, is_dead}
use Rattle.path_core.specs.Codec.{Codec}
use Rattle.path_core.specs.End.{PathEnd}
use Rattle.path_core.specs.State.{PathState, end_at}
use Rattle.world_laws.specs.declared.member.Member.TheVariants.{App, Path}
use Rattle.world_laws.specs.Actors.{Actor, ActorCrew}
use Rattle.world_laws.specs.Laws.{Always}
use Rattle.world_laws.specs.Members.{HoldsOfKind}
use Rattle.world_laws.specs.Worlds.{WorldState, Turn, after_turn}
use Rattle.whole_paths.specs.AsFar.{stage}
use Rattle.whole_paths.specs.Expiries.{RunsOut}

-- nothing was acknowledged since the end's timer was settled last
pub record IsSettled (e : PathEnd) : Type 0 where
  pub subflow : e.tcp.timing.news ≡ false
  pub stream : e.sending.news ≡ false

-- the timer runs to this tick, and there is a record that isn't acknowledged
pub record RunsTo (tick : ℕ) (e : PathEnd) : Type 0 where
  pub timer : e.tcp.timing.timer ≡ Some tick
  pub settled : IsSettled e
  pub first : Record
  pub others : List Record
  pub records : e.tcp.send.records ≡ first ∷ others
  pub living : is_closed_to_segments e.tcp.state ≡ false

-- what starts the timer anew, as the end becomes another one
pub data IsNews (e f : PathEnd) : Type 0 where
  -- SND.UNA rises (RFC 6298, section 5, rule 5.3), or what the Data ACKs that it heard acknowledge; the DATA_FIN is acknowledged
  on_subflow : e.tcp.send.una < f.tcp.send.una → IsNews e f
  on_stream : e.sending.heard < f.sending.heard → IsNews e f
  data_fin : e.sending.close.own_acked ≡ false → f.sending.close.own_acked ≡ true → IsNews e f
  -- the SYN is answered by a SYN/ACK, and the third MP_JOIN by a DSS
  opened : stage e.tcp.state ≤ 1 → 3 ≤ stage f.tcp.state → IsNews e f
  third : e.modes.owes_third ≡ true → f.modes.owes_third ≡ false → IsNews e f

module _ {C : Type 0} where
  -- what becomes of the timer, as the path becomes another one
  pub data WaitsOn (s : Side) (tick : ℕ) (p q : PathState C) : Type 0 where
    -- the timer runs on, to the same tick
    runs : RunsTo tick (end_at s q) → WaitsOn s tick p q
    -- the timer ran out, which was what came next on the path
    runs_out : (at : ℕ) → RunsOut s at p → WaitsOn s tick p q
    -- there is news, or the end is dead
    news : IsNews (end_at s p) (end_at s q) → WaitsOn s tick p q
    gone : is_dead (end_at s q).tcp.state ≡ true → WaitsOn s tick p q

  -- at both ends of a path, as it becomes this actor
  abbrev pub TimersWaitOn : Actor C → Actor C → Type 0
  TimersWaitOn (Path p) (Path q) = (s : Side) (tick : ℕ) → RunsTo tick (end_at s p) → WaitsOn s tick p q
  TimersWaitOn (App a) (App b) = Unit {0}
  TimersWaitOn _ _ = ⊥

  -- at the end of a turn the timer of each end that isn't dead is settled
  abbrev pub IsSettledAtTheEnd : PathState C → Type 0
  IsSettledAtTheEnd p = p.agenda ≡ [] → (s : Side) → is_dead (end_at s p).tcp.state ≡ false → IsSettled (end_at s p)

  -- on each path
  pub record TimersAreSettled (w : WorldState C) : Type 0 where
    pub each : (actor : ℕ) (c : ActorCrew C) → slice_get w.crew actor ≡ Some c → HoldsOfKind (λ app. Unit {0}) IsSettledAtTheEnd c.member

  -- at each moment, and by any turn
  pub record NoTimerIsPutOff (k : Codec C) : Type 0 where
    pub settled : Always k (λ start w. TimersAreSettled w)
    pub waits : (w : WorldState C) (turn : Turn) (actor : ℕ) (c : ActorCrew C) → slice_get w.crew actor ≡ Some c
        → (d : ActorCrew C) × (slice_get (after_turn k turn w).crew actor ≡ Some d) × TimersWaitOn c.member d.member
