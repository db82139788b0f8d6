-- Handing a segment to the link: the step that tells it, and what it makes of the end and of the link.
use Rattle.std.specs.Prelude.{ℕ, ◌+◌, ◌-◌, ◌^◌, min, ◌&&◌, ◌||◌, nat_lt, Bool, if◌then◌else◌, Option, Some, None, List, length}
use Rattle.sides.specs.declared.side.Side.{Side}
use Rattle.link_model.specs.State.{LinkState}
use Rattle.link_model.specs.Steps.{after_send, next_number}
use Rattle.path_segments.specs.Spelled.{PlainSegment}
use Rattle.path_segments.specs.Laws.{window_told}
use Rattle.subflow_tcp.specs.declared.segments.Occasion.{Occasion}
use Rattle.subflow_tcp.specs.Emitting.{after_sending}
use Rattle.actor_desk.specs.declared.ask.Ask.{Ask}
use Rattle.actor_desk.specs.declared.ask.Ask.TheVariants as asks
use Rattle.actor_desk.specs.declared.ask.LocalStep.TheVariants as steps
use Rattle.path_agenda.specs.declared.duty.Duty.{Duty}
use Rattle.path_core.specs.Codec.{Codec}
use Rattle.path_core.specs.End.{PathEnd}
use Rattle.path_core.specs.Octets.{made}
use Rattle.path_core.specs.Modes.{sends_plainly}
use Rattle.path_core.specs.DssOut.{owes_mapping}
use Rattle.path_core.specs.State.{PathState, goes_on}

-- the step of a segment that is sent
abbrev pub sends : {C : Type 0} → Codec C → Side → PlainSegment → PathState C → Ask
sends k s segment p =
    asks.Local (steps.Sent s (next_number s p.link) (length segment.payload) (k.sum p.profile.spelling s segment))

-- the link takes it
abbrev pub handed : {C : Type 0} → Codec C → Side → PlainSegment → PathState C → LinkState C
handed k s segment p =
    after_send (k.strips p.profile.spelling) (k.alters p.profile.spelling) s (k.makes p.profile.spelling s segment) (length (made p.profile.spelling s segment)) p.clock p.link

-- the edge of the window that a segment tells; a reset tells none
abbrev pub edge_told : PlainSegment → PathEnd → ℕ
edge_told segment e =
    if segment.rst then e.receiving.told_edge else e.receiving.next + window_told segment.syn segment.window

abbrev pub with_edge_told : PlainSegment → PathEnd → PathEnd
with_edge_told segment e = record e { receiving = record e.receiving { told_edge = edge_told segment e } }

-- a segment with data or FIN has an infinite mapping, as long as that is owed
abbrev pub has_mapping : PlainSegment → PathEnd → Bool
has_mapping segment e = sends_plainly e.modes && (owes_mapping e && (segment.fin || nat_lt 0 (length segment.payload)))

-- the position behind a segment of data or FIN; those from 2 ^ 64 - 1 on count as one
abbrev pub end_of : PlainSegment → ℕ
end_of segment = min (segment.position + (length segment.payload + (if segment.fin then 1 else 0))) (2 ^ 64 - 1)

-- the lesser one, where there are two
abbrev pub least : Option ℕ → ℕ → Option ℕ
least None n = Some n
least (Some m) n = Some (min m n)

-- of the segments that had the owed mapping, the least end is kept
abbrev pub with_mapping_told : PlainSegment → PathEnd → PathEnd
with_mapping_told segment e = record e {
  modes = record e.modes {
    mapped_to = (if has_mapping segment e then least e.modes.mapped_to (end_of segment) else e.modes.mapped_to);
  };
}

-- what a segment told
abbrev pub with_told : PlainSegment → PathEnd → PathEnd
with_told segment e = with_mapping_told segment (with_edge_told segment e)

-- the end after the segment, which it sent on this occasion
abbrev pub having_sent : Occasion → ℕ → PlainSegment → PathEnd → PathEnd
having_sent occasion now segment e = record (with_told segment e) { tcp = after_sending occasion now e.tcp }

-- the segment is handed over, the end becomes this, and these are to be done
abbrev pub sent_on : {C : Type 0} → Codec C → Side → PlainSegment → PathEnd → List Duty → PathState C → PathState C
sent_on k s segment e ds p = record (goes_on s e ds p) { link = handed k s segment p }
