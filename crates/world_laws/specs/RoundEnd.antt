-- What is done where turns are over: readers have read what they could. And whether the last grant that was asked was refused.
use Rattle.std.specs.Prelude.{ℕ, ◌≡◌, ◌≤◌, Bool, true, false, if◌then◌else◌, Some, List, [], ◌∷◌, ◌++◌, slice_get}
use Rattle.sides.specs.declared.side.Side.{Side}
use Rattle.sides.specs.declared.side.Side.TheVariants.{A, B}
use Rattle.send_book.specs.declared.call.SendCall.TheVariants as send_calls
use Rattle.send_book.specs.declared.call.SendReply.TheVariants as send_replies
use Rattle.reassembly_book.specs.declared.call.ReassemblyReply.TheVariants as reassembly_replies
use Rattle.actor_desk.specs.declared.ask.Ask.{Ask}
use Rattle.actor_desk.specs.declared.ask.Ask.TheVariants as asks
use Rattle.actor_desk.specs.declared.ask.Note.{Note}
use Rattle.actor_desk.specs.declared.ask.Reply.{Reply}
use Rattle.actor_desk.specs.declared.ask.Reply.TheVariants as replies
use Rattle.stream_apps.specs.Apps.{AppState}
use Rattle.world_laws.specs.declared.member.Member.TheVariants.{App, Path}
use Rattle.world_laws.specs.Actors.{Actor, ActorCrew}
use Rattle.world_laws.specs.Worlds.{WorldState}

-- ---- readers

-- the last step ended the turn, and the one before it was a read that found nothing
pub record EndsWithNone (notes : List Note) : Type 0 where
  pub earlier : List Note
  pub read : Note
  pub end : Note
  pub parts : notes ≡ earlier ++ read ∷ end ∷ []
  pub none : read.reply ≡ replies.Reassembly reassembly_replies.NoneYet

-- The reader was told that the stream ended or was aborted; or it read, in this turn, at least as many octets as a side
-- buffers; or its last read found nothing.
pub data IsReaderDone (a : AppState) (notes : List Note) : Type 0 where
  Told : a.told ≡ true → IsReaderDone a notes
  Enough : a.buffer ≤ a.count → IsReaderDone a notes
  Nothing : EndsWithNone notes → IsReaderDone a notes

-- ---- grants

-- bytes are asked of this side's send book
abbrev pub asks_grant : Side → Ask → Bool
asks_grant A (asks.Send A (send_calls.Grant path max standby)) = true
asks_grant B (asks.Send B (send_calls.Grant path max standby)) = true
asks_grant _ _ = false

abbrev pub is_no_grant : Reply → Bool
is_no_grant (replies.Send (send_replies.NoGrant why known_end)) = true
is_no_grant _ = false

-- after a step: whether the last grant that was asked was refused
abbrev pub refused_after : Side → Note → Bool → Bool
refused_after s note before = if asks_grant s note.ask then is_no_grant note.reply else before

-- of these steps, where this was so before
abbrev pub last_refused : Side → Bool → List Note → Bool
last_refused s before [] = before
last_refused s before (note ∷ notes) = last_refused s (refused_after s note before) notes

module _ {C : Type 0} where
  abbrev pub IsDoneReading : Actor C → List Note → Type 0
  IsDoneReading (App a) notes = a.agenda ≡ [] → IsReaderDone a notes
  IsDoneReading (Path p) notes = Unit {0}

  -- each reader whose turn is over
  pub record ReadersAreDone (w : WorldState C) : Type 0 where
    pub each : (actor : ℕ) (c : ActorCrew C) → slice_get w.crew actor ≡ Some c → IsDoneReading c.member c.list
