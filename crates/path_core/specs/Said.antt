-- A segment that an end is to send, with what it lends of the end, and which kinds there are.
use Rattle.std.specs.Prelude.{ℕ, Option, Some, None, List, [], ◌∷◌}
use Rattle.sides.specs.declared.side.Side.{Side}
use Rattle.path_segments.specs.declared.spelling.Spelling.{Spelling}
use Rattle.path_segments.specs.Options.{PlainOption}
use Rattle.path_segments.specs.Spelled.{PlainSegment, CanSay}
use Rattle.subflow_tcp.specs.declared.segments.Occasion.{Occasion}
use Rattle.subflow_tcp.specs.Emitting.{reset_segment}
use Rattle.path_core.specs.declared.said.Said.{Said}
use Rattle.path_core.specs.declared.said.SegmentKind.{SegmentKind}
use Rattle.path_core.specs.declared.said.SegmentKind.TheVariants as to_say
use Rattle.path_core.specs.Emission.{first_unsent, outgoing_or, first_record, answer_said, resend_said}
use Rattle.path_core.specs.End.{PathEnd}
use Rattle.path_core.specs.OptionsOut.{reset_options, segment_of, ack_said, noted_said, carried_said, fin_said, syn_ack_said, reset_said, record_or_ack}
use Rattle.path_core.specs.Octets.{octets}
use Rattle.path_core.specs.Handover.{having_sent, sent_on}
use Rattle.path_core.specs.State.{PathState, end_at}
use Rattle.path_core.specs.Profile.{Profile}
use Rattle.path_agenda.specs.Words.{first_of}

-- an option that may be there
abbrev pub options_by : Option PlainOption → List PlainOption
options_by None = []
options_by (Some option) = option ∷ []

-- the segment of the code by its value
abbrev pub plain_said : Said → PlainSegment
plain_said s = record {
  position = s.outgoing.position;
  acknowledged = s.outgoing.acknowledged;
  syn = s.outgoing.syn;
  fin = s.outgoing.fin;
  rst = s.outgoing.rst;
  window = s.window;
  mss = s.mss;
  options = s.options.items;
  payload = s.payload.now;
}

-- a segment of a side can be said
abbrev pub CanBeSaid : Spelling → Side → PlainSegment → Type 0
CanBeSaid spelling s segment = CanSay spelling s segment

-- the segment of each kind
abbrev pub said_by : SegmentKind → Profile → Side → PathEnd → PlainSegment
said_by to_say.Ack c s e = ack_said c s e.tcp.send.nxt None e
said_by to_say.DataFin c s e = ack_said c s e.tcp.send.nxt e.sending.known_end e
said_by to_say.Fin c s e = fin_said c e
said_by to_say.Unsent c s e = record_or_ack c s (first_unsent e) e
said_by to_say.First c s e = record_or_ack c s (first_record e) e
said_by to_say.SynAck c s e = syn_ack_said c s e
said_by to_say.Answer c s e = answer_said c s e
said_by to_say.DeadAnswer c s e = segment_of c (outgoing_or e.treated.answer (reset_segment e.tcp)) [] [] e
said_by to_say.Resend c s e = resend_said c s e
said_by to_say.Refusal c s e = segment_of c (outgoing_or e.treated.answer (reset_segment e.tcp)) (reset_options (Some 1)) [] e
said_by (to_say.Reset reason) c s e = reset_said c reason e
said_by to_say.Notice c s e = noted_said c s (first_of e.notices.queue) e
said_by to_say.FastClose c s e = carried_said c s e.notices.carrier e

-- the segment of a kind is sent on an occasion
abbrev pub sent_kind : Occasion → SegmentKind → Side → PathState (List ℕ) → PathState (List ℕ)
sent_kind occasion kind s p =
    let segment = said_by kind p.profile s (end_at s p) in
    sent_on octets s segment (having_sent occasion p.clock segment (end_at s p)) p.agenda p
