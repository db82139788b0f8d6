-- What a copy makes of the end that it comes to: an acceptable one ends the end's expiries in a row, and one that lies outside the window, or
-- is to be answered at once, is owed an acknowledgement or the SYN/ACK (RFC 6298, section 5; RFC 9293, section 3.10.7.4).
use Rattle.std.specs.Prelude.{ℕ, ◌≡◌, ◌⊎◌, Bool, true, false, Some, slice_get}
use Rattle.subflow_tcp.specs.declared.verdicts.Meaning.{Meaning}
use Rattle.subflow_tcp.specs.declared.verdicts.Meaning.TheVariants.{Accepts, Ahead, Challenged, Outside, RepeatedSyn, Taken, Unacknowledging}
use Rattle.subflow_tcp.specs.States.{is_half_open}
use Rattle.path_core.specs.State.{PathState, end_at}
use Rattle.path_core.specs.Values.{Carried, values}
use Rattle.path_core.specs.declared.judged.Judged.TheVariants as judged
use Rattle.world_laws.specs.declared.member.Member.TheVariants.{App, Path}
use Rattle.world_laws.specs.Actors.{Actor, ActorCrew}
use Rattle.world_laws.specs.Worlds.{WorldState, Turn, after_turn}
use Rattle.whole_paths.specs.Brought.{Comes, IsTo}
use Rattle.whole_paths.specs.ExpiriesInARow.{in_a_row}
use Rattle.whole_paths.specs.OwedGoes.{Owes}

-- what is acceptable ends the row
abbrev pub ends_row : Meaning → Bool
ends_row (Accepts acknowledged) = true
ends_row (Taken position acknowledged) = true
ends_row Challenged = true
ends_row Unacknowledging = true
ends_row Ahead = true
ends_row _ = false

-- what isn't in the window, or acknowledges what wasn't sent, or is a SYN, is answered
abbrev pub is_answered : Meaning → Bool
is_answered (Accepts acknowledged) = true
is_answered RepeatedSyn = true
is_answered Outside = true
is_answered Challenged = true
is_answered Ahead = true
is_answered _ = false

-- As a copy comes next that means this to its end, unless the path stays as it is. Of what is answered an end whose SYN is acknowledged owes an
-- acknowledgement, but of a SYN that comes again, and a half-open end its SYN/ACK.
pub record CopiesCount (p q : PathState Carried) : Type 0 where
  pub ends : (c : Comes values p) (m : Meaning) → IsTo values p c (judged.As m) → ends_row m ≡ true → (q ≡ p) ⊎ (in_a_row (end_at c.due.to q) ≡ 0)
  pub owes : (c : Comes values p) (m : Meaning) → IsTo values p c (judged.As m) → is_answered m ≡ true → (q ≡ p) ⊎ Owes (end_at c.due.to q)
  pub acks : (c : Comes values p) (m : Meaning) → IsTo values p c (judged.As m) → is_answered m ≡ true → (m ≡ RepeatedSyn → ⊥)
      → is_half_open (end_at c.due.to p).tcp.state ≡ false → (q ≡ p) ⊎ ((end_at c.due.to q).tcp.due.ack ≡ true)
  pub syn_acks : (c : Comes values p) (m : Meaning) → IsTo values p c (judged.As m) → is_answered m ≡ true
      → is_half_open (end_at c.due.to p).tcp.state ≡ true → (q ≡ p) ⊎ ((end_at c.due.to q).tcp.due.syn_ack ≡ true)

-- as the path becomes this actor
abbrev pub PathsHear : Actor Carried → Actor Carried → Type 0
PathsHear (Path p) (Path q) = CopiesCount p q
PathsHear (App a) (App b) = Unit {0}
PathsHear _ _ = ⊥

-- by any turn
abbrev pub EachCopyThatComesCounts : Type 0
EachCopyThatComesCounts = (w : WorldState Carried) (turn : Turn) (actor : ℕ) (c : ActorCrew Carried) → slice_get w.crew actor ≡ Some c
    → (d : ActorCrew Carried) × (slice_get (after_turn values turn w).crew actor ≡ Some d) × PathsHear c.member d.member
