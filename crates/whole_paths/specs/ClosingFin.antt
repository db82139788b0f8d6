-- What becomes of a FIN that came to an end: RCV.NXT is past it in its turn, unless bytes before it are missing (RFC 9293, section
-- 3.10.7.4).
use Rattle.std.specs.Prelude.{ℕ, ◌+◌, ◌^◌, ◌≡◌, ◌<◌, ◌⊎◌, Bool, true, Some, List, [], ◌∷◌, length, slice_get}
use Rattle.sides.specs.declared.side.Side.{Side}
use Rattle.subflow_tcp.specs.States.{is_dead}
use Rattle.subflow_tcp.specs.Taking.{first_fin}
use Rattle.path_agenda.specs.declared.duty.Duty.{Duty}
use Rattle.path_agenda.specs.declared.duty.Duty.TheVariants as duties
use Rattle.path_agenda.specs.declared.duty.AskDuty.TheVariants as ask_duties
use Rattle.path_agenda.specs.declared.duty.SilentDuty.TheVariants as silent_duties
use Rattle.path_core.specs.Codec.{Codec}
use Rattle.path_core.specs.State.{PathState, end_at}
use Rattle.world_laws.specs.declared.member.Member.TheVariants.{App, Path}
use Rattle.world_laws.specs.Actors.{Actor, ActorCrew}
use Rattle.world_laws.specs.Worlds.{WorldState, Turn, after_turn}
use Rattle.world_laws.specs.Writes.{side_of}
use Rattle.whole_paths.specs.Brought.{Brings, IsToReset}
use Rattle.whole_paths.specs.Closing.{comes_before_fins}

-- the duty treats what a copy says or carried, before the FIN behind it
abbrev pub comes_before_pass : Duty → Bool
comes_before_pass (duties.Ask (ask_duties.HeardFin s index)) = true
comes_before_pass d = comes_before_fins d

-- RCV.NXT moves over the FIN that is next
abbrev pub PassesFin : Side → Duty → Type 0
PassesFin s (duties.Silent (silent_duties.PassFin t)) = t ≡ s
PassesFin s _ = ⊥

-- RCV.NXT moves over the FIN next, or once all is treated that comes before
abbrev pub IsToPass : Side → List Duty → Type 0
IsToPass s [] = ⊥
IsToPass s (d ∷ ds) = PassesFin s d ⊎ ((side_of d ≡ s) × ((comes_before_pass d ≡ true) × IsToPass s ds))

-- behind the first duty, which treats what comes before
abbrev pub IsToPassBehind : Side → List Duty → Type 0
IsToPassBehind s [] = ⊥
IsToPassBehind s (d ∷ ds) = (side_of d ≡ s) × ((comes_before_pass d ≡ true) × IsToPass s ds)

module _ {C : Type 0} where
  -- RCV.NXT is past the position; or the FIN that came first stands there, and is passed in its turn, once it is next
  pub data IsFinPassed (s : Side) (pos : ℕ) (p : PathState C) : Type 0 where
    passed : pos < (end_at s p).tcp.recv.edge → IsFinPassed s pos p
    waits : (end_at s p).tcp.fin_at ≡ Some pos → IsToPassBehind s p.agenda → IsFinPassed s pos p

  -- what becomes of it, as the path becomes another one
  pub data FinPasses (s : Side) (pos : ℕ) (q : PathState C) : Type 0 where
    on : IsFinPassed s pos q → FinPasses s pos q
    -- bytes before it are missing, or can't be placed
    gap : (end_at s q).tcp.recv.edge < pos → FinPasses s pos q
    -- the end is dead, or reset next
    gone : is_dead (end_at s q).tcp.state ≡ true → FinPasses s pos q
    reset : IsToReset s q.agenda → FinPasses s pos q

  -- of any path, as it becomes another one
  pub record PassesFins (k : Codec C) (p q : PathState C) : Type 0 where
    -- by a copy that the end takes, with the first FIN or behind it, unless the path stays as it is
    pub comes : (b : Brings k p) (pos : ℕ) → first_fin (end_at b.copy.due.to p).tcp.fin_at b.copy.segment.fin (b.position + length b.copy.segment.payload) ≡ Some pos → pos < 2 ^ 62
        → (q ≡ p) ⊎ FinPasses b.copy.due.to pos q
    -- and then by each turn
    pub stays : (s : Side) (pos : ℕ) → pos < 2 ^ 62 → IsFinPassed s pos p → FinPasses s pos q

  -- as the path becomes this actor
  abbrev pub PathsPassFins : Codec C → Actor C → Actor C → Type 0
  PathsPassFins k (Path p) (Path q) = PassesFins k p q
  PathsPassFins k (App a) (App b) = Unit {0}
  PathsPassFins k _ _ = ⊥

  -- by any turn
  abbrev pub EachFinIsPassed : Codec C → Type 0
  EachFinIsPassed k = (w : WorldState C) (turn : Turn) (actor : ℕ) (c : ActorCrew C) → slice_get w.crew actor ≡ Some c
      → (d : ActorCrew C) × (slice_get (after_turn k turn w).crew actor ≡ Some d) × PathsPassFins k c.member d.member
