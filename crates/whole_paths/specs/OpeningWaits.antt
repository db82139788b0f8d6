-- What path 0 of a mild connection waits for until both of its ends are past the handshake, while none of them is dead.
use Rattle.std.specs.Prelude.{ℕ, ◌+◌, ◌≡◌, ◌<◌, ◌≤◌, ◌⊎◌, false, Some, List, slice_get}
use Rattle.sides.specs.declared.side.Side.{Side}
use Rattle.subflow_tcp.specs.States.{is_dead}
use Rattle.subflow_tcp.specs.declared.handshake.State.TheVariants.{SynReceived, Waiting}
use Rattle.path_core.specs.State.{PathState, end_at}
use Rattle.path_core.specs.Values.{Carried, values}
use Rattle.sides.specs.Side.{peer}
use Rattle.world_laws.specs.Actors.{ActorCrew}
use Rattle.world_laws.specs.Members.{HoldsOfKind}
use Rattle.world_laws.specs.Openings.{Start}
use Rattle.world_laws.specs.RoundDone.{reached}
use Rattle.world_laws.specs.Worlds.{Turn}
use Rattle.whole_paths.specs.AsFar.{stage}
use Rattle.whole_paths.specs.Courses.{BeginsARound, TakesAStep, round_end}
use Rattle.whole_paths.specs.Delivery.{HasFinished}
use Rattle.whole_paths.specs.Finish.{IsPathAt}
use Rattle.whole_paths.specs.Mild.{IsMildStart}
use Rattle.whole_paths.specs.OpenCourses.{IsNow}
use Rattle.whole_paths.specs.Opened.{opened_or_harmed}
use Rattle.whole_paths.specs.SynAcks.{IsToBeAnswered}
use Rattle.whole_paths.specs.Syns.{IsSynAwaited, IsToOpen}

-- none of its ends is dead
pub record IsAlive (p : PathState Carried) : Type 0 where
  pub living : (s : Side) → is_dead (end_at s p).tcp.state ≡ false

-- ---- waits

-- a SYN is to come, or B's SYN/ACK again, and its answer
pub data IsOpeningAwaited (x : ℕ) (p : PathState Carried) : Type 0 where
  syn : (s : Side) → IsSynAwaited s x p → IsOpeningAwaited x p
  answer : IsToBeAnswered x p → IsOpeningAwaited x p

-- by this tick, after these turns
pub record AwaitsOpening (start : Start) (x : ℕ) (turns : List Turn) : Type 0 where
  pub path : PathState Carried
  pub here : IsPathAt 0 (reached values start turns) path
  pub by : ℕ
  pub soon : by ≤ x
  pub waits : IsOpeningAwaited by path

-- an end opens, or B is half-open and A past the handshake
pub data IsOpening (p : PathState Carried) : Type 0 where
  syn : (s : Side) → IsToOpen s p → IsOpening p
  answer : 3 ≤ stage p.a.tcp.state → p.b.tcp.state ≡ SynReceived → IsOpening p

-- An end opens so, or both are past the handshake; or A's waits for its tick. Or one is past it whose peer hasn't its SYN.
pub data IsOpeningOrPast (p : PathState Carried) : Type 0 where
  opening : IsOpening p → IsOpeningOrPast p
  past : ((s : Side) → 3 ≤ stage (end_at s p).tcp.state) → IsOpeningOrPast p
  waiting : p.a.tcp.state ≡ Waiting → IsOpeningOrPast p
  torn : (s : Side) → 3 ≤ stage (end_at s p).tcp.state → stage (end_at (peer s) p).tcp.state ≤ 1 → IsOpeningOrPast p

-- on each path, at every moment
abbrev pub EndsOpenOrArePast : Type 0
EndsOpenOrArePast = (start : Start) (turns : List Turn) (actor : ℕ) (c : ActorCrew Carried)
    → slice_get (reached values start turns).crew actor ≡ Some c → HoldsOfKind (λ app. Unit {0}) IsOpeningOrPast c.member

-- On path 0, while neither of its ends is dead, an end opens, or both are past the handshake.
abbrev pub LivingEndsOpenOrArePast : Type 0
LivingEndsOpenOrArePast = (start : Start) (turns : List Turn) → IsMildStart start → (p : PathState Carried) → IsPathAt 0 (reached values start turns) p → IsAlive p
    → IsOpening p ⊎ ((s : Side) → 3 ≤ stage (end_at s p).tcp.state)

-- so it is after these turns
pub record OpensStill (start : Start) (turns : List Turn) : Type 0 where
  pub path : PathState Carried
  pub here : IsPathAt 0 (reached values start turns) path
  pub opening : IsOpening path

-- A's end has finished, so that all of its side's stream is with the peer
pub record AHasFinished (start : Start) (turns : List Turn) : Type 0 where
  pub path : PathState Carried
  pub here : IsPathAt 0 (reached values start turns) path
  pub finished : HasFinished path.a

-- ---- a course of moments at which none of its ends is dead

module _ (start : Start) (most : ℕ) where
  abbrev pub IsAliveAfter : List Turn → Type 0
  IsAliveAfter turns = IsNow IsAlive (reached values start turns)

  abbrev pub AliveSteps : List Turn → List Turn → Type 0
  AliveSteps = TakesAStep values start IsAliveAfter most

  abbrev pub AliveOpens : List Turn → List Turn → Type 0
  AliveOpens = BeginsARound values start IsAliveAfter most

  -- the path is a step further, or a segment was harmed, or A has finished, or the wait goes on
  abbrev pub OpeningGoesOn : ℕ → List Turn → List Turn → Type 0
  OpeningGoesOn x v u = (opened_or_harmed start v < opened_or_harmed start u) ⊎ (AHasFinished start v ⊎ AwaitsOpening start x u)

  -- As a round begins a wait begins, for a minute and 400 ticks there and back; it goes on by each step, and as the next round begins; and no round
  -- begins past it, unless the path is a step further, or a segment was harmed, or A has finished.
  pub record OpeningIsAwaited : Type 0 where
    pub begins : (v u : List Turn) → AliveOpens v u → OpensStill start v → AHasFinished start v
        ⊎ AwaitsOpening start (round_end values start v + 60800) u
    pub on : (x : ℕ) (v u : List Turn) → AliveSteps v u → AwaitsOpening start x v → OpeningGoesOn x v u
    pub next : (x : ℕ) (v u : List Turn) → AliveOpens v u → AwaitsOpening start x v → OpeningGoesOn x v u
    pub due : (x : ℕ) (v u : List Turn) → AliveOpens v u → AwaitsOpening start x v → x < round_end values start v
        → (opened_or_harmed start v < opened_or_harmed start u) ⊎ AHasFinished start v

-- in each mild connection, over any number of paths
abbrev pub OpeningsAreAwaited : Type 0
OpeningsAreAwaited = (start : Start) (most : ℕ) → IsMildStart start → OpeningIsAwaited start most
