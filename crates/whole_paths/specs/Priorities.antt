-- A segment says a priority only where its end has it to note (RFC 8684, section 3.3.8).
use Rattle.std.specs.Prelude.{◌≡◌, Bool, true, false, Option, Some, List, ℕ, map}
use Rattle.std.specs.List.{flat_map, list_any}
use Rattle.std.specs.Option.{IfSome}
use Rattle.path_segments.specs.Options.{PlainOption}
use Rattle.path_segments.specs.Spelled.{PlainSegment}
use Rattle.path_segments.specs.declared.segment.PathOption.TheVariants.{Prio}
use Rattle.path_agenda.specs.declared.duty.Duty.{Duty}
use Rattle.path_agenda.specs.declared.notice.OwnNotice.{OwnNotice}
use Rattle.path_store.specs.declared.lines.LineAction.{LineAction}
use Rattle.path_store.specs.declared.lines.LineLeft.{LineLeft}
use Rattle.sides.specs.declared.side.Side.{Side}
use Rattle.actor_desk.specs.declared.ask.Reply.{Reply}
use Rattle.path_core.specs.Codec.{Codec}
use Rattle.path_core.specs.Events.{next_event}
use Rattle.path_core.specs.Steps.{takes}
use Rattle.path_core.specs.declared.events.Event.{Event}
use Rattle.path_segments.specs.Laws.{meant_option}
use Rattle.path_core.specs.OptionsIn.{items_in}
use Rattle.whole_paths.specs.BackupAsks.{notes_backup}
use Rattle.path_core.specs.End.{PathEnd}
use Rattle.path_core.specs.Looking.{first_sends, segment_sent}
use Rattle.path_core.specs.State.{PathState, end_at}

-- an own notice of a priority, and what an end has to note
abbrev pub is_priority_note : OwnNotice → Bool
is_priority_note (OwnNotice.Prio backup) = true
is_priority_note _ = false

abbrev pub has_priority : PathEnd → Bool
has_priority e = list_any is_priority_note e.notices.queue

-- an option that says a priority, and a segment with one
abbrev pub says_priority : PlainOption → Bool
says_priority (Prio backup) = true
says_priority _ = false

abbrev pub says_priority_in : PlainSegment → Bool
says_priority_in segment = list_any says_priority segment.options

-- by each duty that sends, whatever state the path is in
abbrev pub PrioritiesAreNoted : {C : Type 0} → PathState C → Type 0
PrioritiesAreNoted p = (ds : List Duty) → IfSome (first_sends ds p) (λ t. says_priority_in (segment_sent p t) ≡ true → has_priority (end_at t.from p) ≡ true)

abbrev pub WhoSaysAPriorityNotesIt : Type 0 → Type 0
WhoSaysAPriorityNotesIt C = (p : PathState C) → PrioritiesAreNoted p

-- by the line a priority is to be told
abbrev pub is_priority_line : LineAction → Bool
is_priority_line (LineAction.Prio s backup) = true
is_priority_line _ = false

-- no such line comes next
abbrev pub SparesEvent : Option Event → Type 0
SparesEvent o = (line : LineLeft) → o ≡ Some (Event.Takes line) → is_priority_line line.action ≡ false

-- what an end has to note by a step that takes no such line it had to note before
abbrev pub PrioritiesComeByLines : {C : Type 0} → Codec C → Type 0
PrioritiesComeByLines {C} k = (p : PathState C) (r : Reply) (s : Side) → SparesEvent (next_event p) → has_priority (end_at s (takes k r p)) ≡ true → has_priority (end_at s p) ≡ true

-- what an end hears of a segment tells of no backup where the segment says no priority
abbrev pub BackupsAreSaid : Type 0
BackupsAreSaid = (joined : Bool) (s : Side) (window : ℕ) (xs : List PlainOption) → list_any says_priority xs ≡ false → list_any notes_backup (flat_map (items_in joined s window) (map meant_option xs)) ≡ false
