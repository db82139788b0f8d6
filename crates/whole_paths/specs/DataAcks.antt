-- The Data ACKs that the segments of an end tell (RFC 8684, section 3.3.2).
use Rattle.std.specs.Prelude.{ℕ, ◌≡◌, true, false, Option, Some, IfSome, List, ◌∷◌, map}
use Rattle.std.specs.List.{list_any}
use Rattle.path_segments.specs.Laws.{meant_option}
use Rattle.path_segments.specs.Options.{PlainOption}
use Rattle.path_segments.specs.Spelled.{PlainSegment}
use Rattle.path_segments.specs.declared.segment.PathMapping.{PathMapping}
use Rattle.path_segments.specs.declared.segment.PathOption.TheVariants.{Dss}
use Rattle.subflow_tcp.specs.declared.segments.Outgoing.{Outgoing}
use Rattle.path_core.specs.End.{PathEnd}
use Rattle.path_core.specs.Looking.{first_sends, segment_sent}
use Rattle.path_core.specs.OptionsIn.{has_data_ack}
use Rattle.path_core.specs.State.{PathState, end_at}

-- what a segment of this end says of the peer's stream
pub data TellsWhatCame (e : PathEnd) (x : PlainSegment) : Type 0 where
  -- a DSS acknowledges all bytes before the place that the side wants next, as its reassembly book told the end; no other option has a Data ACK
  acknowledges : (mapping : Option (PathMapping ℕ)) (others : List PlainOption) → x.options ≡ Dss (Some e.receiving.next) mapping ∷ others
      → list_any has_data_ack (map meant_option others) ≡ false → TellsWhatCame e x
  -- the end may send no DSS yet, and no option has a Data ACK
  silent : e.modes.clear ≡ false → list_any has_data_ack (map meant_option x.options) ≡ false → TellsWhatCame e x
  -- the segment has a SYN
  opens : x.syn ≡ true → TellsWhatCame e x
  -- the segment is a reset, or the one by which a dead end answers a copy, or refuses it
  resets : x.rst ≡ true → TellsWhatCame e x
  refuses : (answer : Outgoing) → e.treated.answer ≡ Some answer → x.rst ≡ answer.rst → TellsWhatCame e x

-- of the segment that a path is to send next, from an end that didn't fall back to plain TCP
abbrev pub EachSegmentHasADataAck : Type 0 → Type 0
EachSegmentHasADataAck C = (p : PathState C) → IfSome (first_sends p.agenda p) (λ t. (end_at t.from p).modes.identity ≡ false → TellsWhatCame (end_at t.from p) (segment_sent p t))
