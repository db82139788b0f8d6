-- Who lives by a side's control book is a path of the connection whose end lives, or tells its side next that it doesn't (RFC 8684, section 3.3.8).
use Rattle.std.specs.Prelude.{ℕ, ◌≡◌, ◌≤◌, ◌⊎◌, true, false, List, ◌∷◌}
use Rattle.sides.specs.declared.side.Side.{Side}
use Rattle.control_book.specs.Registry.{lives}
use Rattle.subflow_tcp.specs.States.{is_dead}
use Rattle.actor_desk.specs.Books.{books_in}
use Rattle.actor_desk.specs.Desk.{control_of}
use Rattle.path_agenda.specs.declared.duty.Duty.{Duty}
use Rattle.path_agenda.specs.declared.duty.Duty.TheVariants as duties
use Rattle.path_agenda.specs.declared.duty.AskDuty.TheVariants as ask_duties
use Rattle.path_agenda.specs.declared.duty.SendDuty.TheVariants as send_duties
use Rattle.path_core.specs.State.{PathState, end_at}
use Rattle.world_laws.specs.Worlds.{WorldState}
use Rattle.whole_paths.specs.AsFar.{stage}
use Rattle.whole_paths.specs.Finish.{IsPathAt}

-- what is to be done next: the side is told that its end is dead, and nothing but a death of the other end comes before
pub data IsToTell (s : Side) : List Duty → Type 0 where
  dies : (ds : List Duty) → IsToTell s (duties.Ask (ask_duties.Dead s) ∷ ds)
  leaves : (ds : List Duty) → IsToTell s (duties.Ask (ask_duties.Leave s) ∷ ds)
  resets : (ds : List Duty) → IsToTell s (duties.Send (send_duties.Reset s) ∷ ds)
  behind : (t : Side) (ds : List Duty) → IsToTell s ds → IsToTell s (duties.Ask (ask_duties.Leave t) ∷ ds)
  behind_dead : (t : Side) (ds : List Duty) → IsToTell s ds → IsToTell s (duties.Ask (ask_duties.Dead t) ∷ ds)

-- the end of this side is past the handshake, and lives, or its side is told next that it doesn't
pub record MayLive {C : Type 0} (s : Side) (p : PathState C) : Type 0 where
  pub past : 3 ≤ stage (end_at s p).tcp.state
  pub lives : (is_dead (end_at s p).tcp.state ≡ false) ⊎ IsToTell s p.agenda

-- who lives by the book of this side is such a path
pub record LivingPathsLive {C : Type 0} (w : WorldState C) : Type 0 where
  pub each : (s : Side) (number : ℕ) → lives (control_of s (books_in w.books)).paths number ≡ true → (p : PathState C) × IsPathAt number w p × MayLive s p
