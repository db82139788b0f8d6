-- By what an end goes further in the handshake: by a copy that comes to it (RFC 9293, section 3.10.7).
use Rattle.std.specs.Prelude.{ℕ, ◌≡◌, ◌<◌, ◌≤◌, ◌⊎◌, Bool, true, false, Some, List, ◌∷◌, slice_get}
use Rattle.sides.specs.declared.side.Side.{Side}
use Rattle.subflow_tcp.specs.declared.verdicts.Meaning.{Meaning}
use Rattle.subflow_tcp.specs.States.{is_dead}
use Rattle.path_agenda.specs.declared.duty.Duty.{Duty}
use Rattle.path_agenda.specs.declared.duty.Duty.TheVariants as duties
use Rattle.path_agenda.specs.declared.duty.AskDuty.TheVariants as ask_duties
use Rattle.path_core.specs.Codec.{Codec}
use Rattle.path_core.specs.Events.{next_event}
use Rattle.path_core.specs.State.{PathState, end_at}
use Rattle.path_core.specs.declared.events.Event.TheVariants as happenings
use Rattle.path_core.specs.declared.judged.Judged.TheVariants as judged
use Rattle.world_laws.specs.declared.member.Member.TheVariants.{App, Path}
use Rattle.world_laws.specs.Actors.{Actor, ActorCrew}
use Rattle.world_laws.specs.Worlds.{WorldState, Turn, after_turn}
use Rattle.whole_paths.specs.AsFar.{stage}
use Rattle.whole_paths.specs.Brought.{Comes, IsTo}
use Rattle.whole_paths.specs.Opening.{opens_to}

-- by the duty a path joins a connection, or a join of its peer is answered (RFC 8684, section 3.2)
abbrev pub is_joining : Duty → Bool
is_joining (duties.Ask ask_duties.JoinAgain) = true
is_joining (duties.Ask (ask_duties.JoinHeard s)) = true
is_joining _ = false

module _ {C : Type 0} where
  -- by what comes next on a path the end of this side goes so far
  pub data OpensBy (k : Codec C) (n : ℕ) (s : Side) (p : PathState C) : Type 0 where
    -- a copy comes to it that takes it there: its SYN, its SYN/ACK, or one that is taken
    copy : (c : Comes k p) → c.due.to ≡ s → (m : Meaning) → IsTo k p c (judged.As m) → n ≤ opens_to m → OpensBy k n s p
    -- a path joins the connection
    joins : (tick : ℕ) → next_event p ≡ Some (happenings.Joins tick) → OpensBy k n s p
    duty : (d : Duty) (others : List Duty) → p.agenda ≡ d ∷ others → is_joining d ≡ true → OpensBy k n s p

  -- As the path becomes this actor: an end that wasn't so far in the handshake, whose last stage is 3, and is then, is dead, or went so.
  abbrev pub EndsOpen : Codec C → Actor C → Actor C → Type 0
  EndsOpen k (Path p) (Path q) = (n : ℕ) → 0 < n → n ≤ 3 → (s : Side) → stage (end_at s p).tcp.state < n → n ≤ stage (end_at s q).tcp.state
      → (is_dead (end_at s q).tcp.state ≡ true) ⊎ OpensBy k n s p
  EndsOpen k (App a) (App b) = Unit {0}
  EndsOpen k _ _ = ⊥

  -- by any turn
  abbrev pub EndsOpenByCopies : Codec C → Type 0
  EndsOpenByCopies k = (w : WorldState C) (turn : Turn) (actor : ℕ) (c : ActorCrew C) → slice_get w.crew actor ≡ Some c
      → (d : ActorCrew C) × (slice_get (after_turn k turn w).crew actor ≡ Some d) × EndsOpen k c.member d.member
