-- An announcement goes out in no turn after its echo or its removal was heard (RFC 8684, section 3.4.1). The path that sends it was told
-- so in the same turn, as its side looked; and of the calls that the side's control book had taken before that look, the last one that
-- names the id was to announce it.
use Rattle.std.specs.Prelude.{ℕ, ◌≡◌, ◌==◌, not, ◌&&◌, Bool, true, false, if◌then◌else◌, Option, Some, None, IfSome, List, [], ◌∷◌, ◌++◌, slice_get}
use Rattle.std.specs.List.{list_any}
use Rattle.sides.specs.declared.side.Side.{Side}
use Rattle.stamped_book.specs.declared.stamped.Entry.{Entry}
use Rattle.path_segments.specs.declared.segment.PathOption.TheVariants.{AddAddr}
use Rattle.path_segments.specs.Options.{PlainOption}
use Rattle.path_segments.specs.Spelled.{PlainSegment}
use Rattle.control_book.specs.declared.call.ControlCall.{ControlCall}
use Rattle.control_book.specs.declared.call.ControlCall.TheVariants as control_calls
use Rattle.control_book.specs.declared.call.ControlReply.{ControlReply}
use Rattle.control_book.specs.declared.call.ControlReply.TheVariants as control_replies
use Rattle.control_book.specs.declared.call.Notice.TheVariants as notices
use Rattle.actor_desk.specs.declared.ask.Ask.{Ask}
use Rattle.actor_desk.specs.declared.ask.Ask.TheVariants as asks
use Rattle.actor_desk.specs.declared.ask.LocalStep.TheVariants as steps
use Rattle.actor_desk.specs.declared.ask.Note.{Note}
use Rattle.actor_desk.specs.declared.ask.Reply.{Reply}
use Rattle.actor_desk.specs.declared.ask.Reply.TheVariants as replies
use Rattle.actor_desk.specs.Books.{StampedBooks}
use Rattle.actor_desk.specs.Journals.{control_note}
use Rattle.path_core.specs.Looking.{first_sends, segment_sent}
use Rattle.world_laws.specs.declared.member.Member.TheVariants.{App, Path}
use Rattle.world_laws.specs.AbortCause.{control_journal}
use Rattle.world_laws.specs.Actors.{Actor, ActorCrew}
use Rattle.world_laws.specs.Standbys.{looks}
use Rattle.world_laws.specs.Worlds.{WorldState}

-- ---- what is sent

-- an ADD_ADDR of this id that is no echo
abbrev pub announces : ℕ → PlainOption → Bool
announces id (AddAddr echo other address port hmac) = not echo && other == id
announces id _ = false

-- one of the segment's options is one
abbrev pub is_announcement : ℕ → PlainSegment → Bool
is_announcement id segment = list_any (announces id) segment.options

-- ---- what the path was told

-- the id that a look tells to announce
abbrev pub told_to_announce : Reply → Option ℕ
told_to_announce (replies.Control (control_replies.Standing mode standby sole (notices.Announce id))) = Some id
told_to_announce _ = None

-- the last step of a turn
abbrev pub ends_turn : Ask → Bool
ends_turn (asks.Local steps.End) = true
ends_turn _ = false

-- the look of a side in the turn that goes on, after a step
abbrev pub look_after : Side → Note → Option Note → Option Note
look_after s note before = if looks s note.ask then Some note else (if ends_turn note.ask then None else before)

-- after these steps, where this one was it before
abbrev pub look_of_turn : Side → Option Note → List Note → Option Note
look_of_turn s before [] = before
look_of_turn s before (note ∷ notes) = look_of_turn s (look_after s note before) notes

-- ---- what the book was asked

-- whether the id is to be announced after a call: the script's line says so, and its echo or its removal ends that
abbrev pub wanted_after : ℕ → ControlCall → Bool → Bool
wanted_after id (control_calls.Announce other) before = if other == id then true else before
wanted_after id (control_calls.Echoed other) before = if other == id then false else before
wanted_after id (control_calls.Removed other) before = if other == id then false else before
wanted_after id _ before = before

-- after the calls of these entries
abbrev pub is_wanted : ℕ → Bool → List (Entry ControlCall ControlReply) → Bool
is_wanted id before [] = before
is_wanted id before (entry ∷ entries) = is_wanted id (wanted_after id entry.call before) entries

-- ---- the law

-- In its turn the path looked, and was told to announce the id. This look is an entry of the control book's journal, and by those before
-- it the id was to be announced.
pub record WasTold (s : Side) (id : ℕ) (notes : List Note) (journal : List (Entry ControlCall ControlReply)) : Type 0 where
  pub look : Note
  pub in_turn : look_of_turn s None notes ≡ Some look
  pub told : told_to_announce look.reply ≡ Some id
  pub earlier : List (Entry ControlCall ControlReply)
  pub entry : Entry ControlCall ControlReply
  pub later : List (Entry ControlCall ControlReply)
  pub parts : journal ≡ earlier ++ entry ∷ later
  pub entered : control_note s entry ≡ look
  pub wanted : is_wanted id false earlier ≡ true

module _ {C : Type 0} where
  -- where the next step of a path sends an announcement, it is so
  abbrev pub AnnouncesAsTold : StampedBooks → List Note → Actor C → Type 0
  AnnouncesAsTold books notes (App a) = Unit {0}
  AnnouncesAsTold books notes (Path p) =
      IfSome (first_sends p.agenda p)
      (λ t. (id : ℕ) → is_announcement id (segment_sent p t) ≡ true → WasTold t.from id notes (control_journal t.from books).journal)

  -- every path announces as it was told
  pub record AnnouncementsEnd (w : WorldState C) : Type 0 where
    pub each : (actor : ℕ) (c : ActorCrew C) → slice_get w.crew actor ≡ Some c → AnnouncesAsTold w.books c.list c.member
