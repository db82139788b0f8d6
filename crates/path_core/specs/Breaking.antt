-- How an end dies: by a break, by its sixth expiry, by a line of the script; and the reset that refuses a path (RFC 8684, section
-- 3.6).
use Rattle.std.specs.Prelude.{ℕ, if◌then◌else◌, List, ◌++◌, Option, [], Some, ◌∷◌}
use Rattle.sides.specs.declared.side.Side.{Side}
use Rattle.path_segments.specs.Spelled.{PlainSegment}
use Rattle.path_agenda.specs.declared.duty.Duty.{Duty}
use Rattle.actor_desk.specs.declared.ask.Ask.{Ask}
use Rattle.actor_desk.specs.declared.ask.Reply.{Reply}
use Rattle.path_agenda.specs.Agenda.{leaves, resets, rest_of_turn}
use Rattle.send_book.specs.declared.call.SendCall.TheVariants as send_calls
use Rattle.actor_desk.specs.declared.ask.Ask.TheVariants as asks
use Rattle.control_book.specs.declared.call.ControlCall.TheVariants as control_calls
use Rattle.subflow_tcp.specs.States.{is_dead}
use Rattle.path_agenda.specs.declared.duty.Duty.TheVariants as duties
use Rattle.path_agenda.specs.declared.duty.AskDuty.TheVariants as ask_duties
use Rattle.sides.specs.declared.side.Side.TheVariants.{A, B}
use Rattle.link_model.specs.Steps.{after_cut}
use Rattle.subflow_tcp.specs.Emitting.{reset_segment}
use Rattle.path_core.specs.OptionsOut.{reset_said, segment_of, reset_options}
use Rattle.path_core.specs.State.{PathState, end_at, path_of, left}
use Rattle.path_core.specs.Codec.{Codec}
use Rattle.path_core.specs.End.{died, PathEnd}
use Rattle.path_core.specs.Handover.{sent_on, sends}
use Rattle.path_core.specs.Standing.{ack_out_ask, answered_ack_out}
use Rattle.path_core.specs.Emission.{outgoing_or}

-- ---- the reset

-- for this reason, where there is one
abbrev pub reset_of : {C : Type 0} → Side → Option ℕ → PathState C → PlainSegment
reset_of s reason p = reset_said p.profile reason (end_at s p)

-- the end is dead, and these are to be done
abbrev pub reset_on : {C : Type 0} → Codec C → Side → Option ℕ → List Duty → PathState C → PathState C
reset_on k s reason ds p = sent_on k s (reset_of s reason p) (died (end_at s p)) ds p

-- ---- a break

-- a break's first step asks once more what is to be acknowledged, where bytes or an end were told, or else resets
abbrev pub break_ask : {C : Type 0} → Codec C → Side → ℕ → PathState C → Ask
break_ask k s reason p = if (end_at s p).treated.asked then ack_out_ask s else sends k s (reset_of s (Some reason) p) p

-- after a break's first step the end is reset; where nothing was told it was at once, and gives back what it holds
abbrev pub answered_break : {C : Type 0} → Codec C → Side → ℕ → Reply → PathState C → PathState C
answered_break k s reason r p =
    if (end_at s p).treated.asked then answered_ack_out s r (resets s reason) p
    else reset_on k s (Some reason) (leaves s) p

-- ---- after a death

-- what the end holds is given back
abbrev pub return_ask : {C : Type 0} → Side → PathState C → Ask
return_ask s p = asks.Send s (send_calls.Return (path_of p))

-- the control book is told that the path neither lives nor opens at its side
abbrev pub dead_ask : {C : Type 0} → Side → PathState C → Ask
dead_ask s p = asks.Control s (control_calls.Dead (path_of p))

-- ---- the path dies

abbrev pub died_unless_dead : PathEnd → PathEnd
died_unless_dead e = if is_dead e.tcp.state then e else died e

-- an end that dies gives back its bytes and tells it
abbrev pub leaves_unless_dead : Side → PathEnd → List Duty
leaves_unless_dead s e = if is_dead e.tcp.state then [] else duties.Ask (ask_duties.Leave s) ∷ []

-- the path dies: what is under way is lost, and both ends die, A's first
abbrev pub path_died : {C : Type 0} → PathState C → PathState C
path_died p = record p {
  link = after_cut p.link;
  a = died_unless_dead p.a;
  b = died_unless_dead p.b;
  agenda = leaves_unless_dead A p.a ++ (leaves_unless_dead B p.b ++ rest_of_turn);
}

-- ---- a refusal

-- a reset that answers the SYN, with the reason 1; the end listens on
abbrev pub refusal_of : {C : Type 0} → Side → PathState C → PlainSegment
refusal_of s p =
    let e = end_at s p in segment_of p.profile (outgoing_or e.treated.answer (reset_segment e.tcp)) (reset_options (Some 1)) [] e

-- the end itself doesn't change
abbrev pub answered_refusal : {C : Type 0} → Codec C → Side → PathState C → PathState C
answered_refusal k s p = sent_on k s (refusal_of s p) (end_at s p) (left p) p
