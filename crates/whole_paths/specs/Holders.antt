-- Who holds a byte that isn't acknowledged: the path that sends it, until it gives the byte back, or dies (RFC 8684, section 3.3.6).
use Rattle.std.specs.Prelude.{ℕ, ◌≡◌, ◌≤◌, ◌⊎◌, Bool, true, false, not, ◌&&◌, ◌==◌, Option, Some, None, List, ◌∷◌, slice_get}
use Rattle.sides.specs.declared.side.Side.{Side}
use Rattle.stream_lanes.specs.Marks.{tried}
use Rattle.stream_lanes.specs.Words.{Has}
use Rattle.send_book.specs.declared.mark.ByteMark.{ByteMark}
use Rattle.send_book.specs.declared.mark.ByteMark.TheVariants.{Acked, Held, Free}
use Rattle.send_book.specs.Marks.{is_held_by}
use Rattle.send_book.specs.Tried.{contains}
use Rattle.subflow_tcp.specs.States.{is_dead}
use Rattle.path_agenda.specs.declared.duty.Duty.{Duty}
use Rattle.path_agenda.specs.declared.duty.Duty.TheVariants as duties
use Rattle.path_agenda.specs.declared.duty.AskDuty.TheVariants as ask_duties
use Rattle.path_agenda.specs.declared.duty.SendDuty.TheVariants as send_duties
use Rattle.path_store.specs.Granted.{has_place}
use Rattle.path_core.specs.Sending.{Sending as OwnStream}
use Rattle.path_core.specs.State.{PathState, end_at, path_of}
use Rattle.world_laws.specs.Actors.{ActorCrew}
use Rattle.world_laws.specs.Members.{HoldsOfKind}
use Rattle.world_laws.specs.Promises.{written_by}
use Rattle.world_laws.specs.Worlds.{WorldState}
use Rattle.whole_paths.specs.AsFar.{stage}
use Rattle.whole_paths.specs.Finish.{IsPathAt}

-- ---- marks

-- the path holds the byte
abbrev pub holds : ℕ → Option ByteMark → Bool
holds path None = false
holds path (Some mark) = is_held_by path mark

-- the byte is acknowledged, or the path tried it and doesn't hold it any longer
abbrev pub let_go : ℕ → Option ByteMark → Bool
let_go path None = false
let_go path (Some Acked) = true
let_go path (Some (Held holder among)) = contains path among && not (holder == path)
let_go path (Some (Free among)) = contains path among

-- ---- who waits for it

-- a piece that was granted to the end has the byte, which the end didn't hear acknowledged
pub record IsAwaitedAt (place : ℕ) (v : OwnStream) : Type 0 where
  pub piece : Has (λ piece. has_place place piece ≡ true) v.granted
  pub unheard : v.heard ≤ place

module _ {C : Type 0} where
  -- each byte that the path tried and that isn't acknowledged
  abbrev pub TriedIsAwaited : WorldState C → PathState C → Type 0
  TriedIsAwaited w p = (s : Side) (place : ℕ) → tried (path_of p) (slice_get (written_by s w).marks place) ≡ true → IsAwaitedAt place (end_at s p).sending

  -- on each path
  pub record WhatIsTriedIsAwaited (w : WorldState C) : Type 0 where
    pub each : (actor : ℕ) (c : ActorCrew C) → slice_get w.crew actor ≡ Some c → HoldsOfKind (λ app. Unit {0}) (TriedIsAwaited w) c.member

-- ---- who holds it

-- what is to be done next: the end of this side gives back what its path holds, and nothing but that of the other end comes before
pub data IsToLeave (s : Side) : List Duty → Type 0 where
  leaves : (ds : List Duty) → IsToLeave s (duties.Ask (ask_duties.Leave s) ∷ ds)
  resets : (ds : List Duty) → IsToLeave s (duties.Send (send_duties.Reset s) ∷ ds)
  behind : (t : Side) (ds : List Duty) → IsToLeave s ds → IsToLeave s (duties.Ask (ask_duties.Leave t) ∷ ds)
  behind_dead : (t : Side) (ds : List Duty) → IsToLeave s ds → IsToLeave s (duties.Ask (ask_duties.Dead t) ∷ ds)

-- the end of this side is past the handshake, and lives, or gives back what its path holds before anything else
pub record MayHold {C : Type 0} (s : Side) (p : PathState C) : Type 0 where
  pub past : 3 ≤ stage (end_at s p).tcp.state
  pub lives : (is_dead (end_at s p).tcp.state ≡ false) ⊎ IsToLeave s p.agenda

-- who holds a byte is such a path of the connection
pub record HoldersLive {C : Type 0} (w : WorldState C) : Type 0 where
  pub each : (s : Side) (number place : ℕ) → holds number (slice_get (written_by s w).marks place) ≡ true
      → (p : PathState C) × IsPathAt number w p × MayHold s p
