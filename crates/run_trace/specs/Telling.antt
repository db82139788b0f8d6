-- What the steps of the paths tell of the segments of a trace.
use Rattle.std.specs.Prelude.{◌≡◌, ℕ, suc, ◌==◌, ◌≤◌, Option, Some, None, List, [], ◌∷◌, map, filter, flat_map, length, drop}
use Rattle.std.specs.Int.{w16}
use Rattle.std.specs.Option.{option_to_list}
use Rattle.sides.specs.declared.side.Side.{Side}
use Rattle.octet_text.specs.Octets.{number_at}
use Rattle.segment_wire.specs.Reading.{header_len}
use Rattle.actor_desk.specs.declared.ask.Ask.{Ask}
use Rattle.actor_desk.specs.declared.ask.Ask.TheVariants as asks
use Rattle.actor_desk.specs.declared.ask.LocalStep.TheVariants as steps
use Rattle.actor_desk.specs.declared.ask.Note.{Note}
use Rattle.link_trace.specs.declared.sent.Sent.{Sent}
use Rattle.path_core.specs.Octets.{octets}
use Rattle.world_laws.specs.Openings.{Start, opened_world}
use Rattle.world_laws.specs.Outcomes.{notes_at}
use Rattle.world_laws.specs.Worlds.{Turn, world_run}
use Rattle.run_trace.specs.Trace.{trace_of}

-- what a `sent` line of a log tells: the side, the segment's number in its direction, the octets of its payload, its checksum field
pub record SentLine : Type 0 where
  pub from : Side
  pub number : ℕ
  pub payload : ℕ
  pub checksum : ℕ

-- what a step tells of the segment that it hands to the link
abbrev pub line_in : Ask → Option SentLine
line_in (asks.Local (steps.Sent from number payload checksum)) =
    Some (record { from = from; number = number; payload = payload; checksum = checksum })
line_in _ = None

-- what these steps tell of segments that they hand to the links
abbrev pub lines_in : List Note → List SentLine
lines_in notes = flat_map (λ note. option_to_list (line_in note.ask)) notes

-- what a step tells of a segment that it hands to the link (RFC 9293, section 3.1)
abbrev pub line_of : Sent → SentLine
line_of s = record {
  from = s.from;
  number = s.number;
  payload = length (drop (header_len s.octets) s.octets);
  checksum = number_at w16 s.octets 16;
}

-- the segments on the path of this number
abbrev pub on_path : ℕ → List Sent → List Sent
on_path path trace = filter (λ s. s.path == path) trace

-- The steps of each path, the actor two behind its number, tell just the segments of the trace on that path, in their order.
abbrev pub SentLinesTellTheTrace : Type 0
SentLinesTellTheTrace =
    (start : Start) (turns : List Turn) (path : ℕ)
    → lines_in (notes_at (suc (suc path)) (world_run octets turns (opened_world start)).crew)
    ≡ map line_of (on_path path (trace_of turns (opened_world start)))

-- none has a tick below this one, or below that of a segment before it
abbrev pub RiseFrom : ℕ → List Sent → Type 0
RiseFrom tick [] = Unit {0}
RiseFrom tick (s ∷ trace) = (tick ≤ s.tick) × RiseFrom s.tick trace

-- On each path ticks don't fall.
abbrev pub TicksRiseByPath : Type 0
TicksRiseByPath =
    (start : Start) (turns : List Turn) (path : ℕ) → RiseFrom 0 (on_path path (trace_of turns (opened_world start)))
