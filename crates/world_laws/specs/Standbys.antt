-- A path that stands by is granted nothing (RFC 8684, section 3.3.8): it is a backup, and another path of its side lives and is none, as
-- its side's control book told in the last Look.
use Rattle.std.specs.Prelude.{ℕ, ◌≡◌, ◌&&◌, Bool, true, false, if◌then◌else◌, List, [], ◌∷◌}
use Rattle.sides.specs.declared.side.Side.{Side}
use Rattle.sides.specs.declared.side.Side.TheVariants.{A, B}
use Rattle.send_book.specs.declared.call.SendReply.TheVariants as send_replies
use Rattle.control_book.specs.declared.call.ControlCall.TheVariants as control_calls
use Rattle.control_book.specs.declared.call.ControlReply.TheVariants as control_replies
use Rattle.actor_desk.specs.declared.ask.Ask.{Ask}
use Rattle.actor_desk.specs.declared.ask.Ask.TheVariants as asks
use Rattle.actor_desk.specs.declared.ask.Note.{Note}
use Rattle.actor_desk.specs.declared.ask.Reply.{Reply}
use Rattle.actor_desk.specs.declared.ask.Reply.TheVariants as replies
use Rattle.world_laws.specs.Outcomes.{notes_at}
use Rattle.world_laws.specs.RoundEnd.{asks_grant}
use Rattle.world_laws.specs.Worlds.{WorldState}

-- a side looks how the path stands
abbrev pub looks : Side → Ask → Bool
looks A (asks.Control A (control_calls.Look path)) = true
looks B (asks.Control B (control_calls.Look path)) = true
looks _ _ = false

-- whether the path stands by, as it is told
abbrev pub standby_told : Bool → Reply → Bool
standby_told before (replies.Control (control_replies.Standing mode standby sole notice)) = standby
standby_told before _ = before

-- after a step
abbrev pub standby_after : Side → Note → Bool → Bool
standby_after s note before = if looks s note.ask then standby_told before note.reply else before

-- after these steps, where this was so before
abbrev pub standby_last : Side → Bool → List Note → Bool
standby_last s before [] = before
standby_last s before (note ∷ notes) = standby_last s (standby_after s note before) notes

-- bytes are granted
abbrev pub is_grant : Reply → Bool
is_grant (replies.Send (send_replies.Granted span bytes)) = true
is_grant _ = false

-- the step grants bytes of the side's stream
abbrev pub grants_bytes : Side → Note → Bool
grants_bytes s note = asks_grant s note.ask && is_grant note.reply

-- each of these steps that grants bytes is one of a path that doesn't stand by
abbrev pub GrantsAreFree : Side → Bool → List Note → Type 0
GrantsAreFree s before [] = Unit {0}
GrantsAreFree s before (note ∷ notes) = (grants_bytes s note ≡ true → before ≡ false) × GrantsAreFree s (standby_after s note before) notes

-- each step that grants bytes, of whatever actor, is one of a path that doesn't stand by
abbrev pub BackupsGetNothing : {C : Type 0} → WorldState C → Type 0
BackupsGetNothing w = (s : Side) (actor : ℕ) → GrantsAreFree s false (notes_at actor w.crew)
