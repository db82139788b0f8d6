-- The octets of a segment of a path (RFC 9293, section 3.1; RFC 8684, section 3).
use Rattle.std.specs.Prelude.{ℕ, ◌-◌, ◌/◌, ◌%◌, ◌^◌, ◌≤◌, min, Bool, is_some, if◌then◌else◌, Option, Some, None, unwrap_or, option_map, List, [], ◌∷◌, ◌++◌, length, replicate, All}
use Rattle.std.specs.Borrow.{Bor}
use Rattle.std.specs.Int.{w16, to_be_bytes}
use Rattle.std.specs.List.{flat_map}
use Rattle.sides.specs.declared.side.Side.{Side}
use Rattle.sides.specs.Side.{peer}
use Rattle.segment_wire.specs.declared.head.Head.{Head}
use Rattle.segment_wire.specs.Segment.{Segment, segment_text, checksum_field}
use Rattle.segment_wire.specs.Paths.{addresses_from, port_of}
use Rattle.mptcp_options.specs.Text.{HasForm, option_text}
use Rattle.path_segments.specs.declared.segment.PathSegment.{PathSegment}
use Rattle.path_segments.specs.declared.spelling.Spelling.{Spelling}
use Rattle.path_segments.specs.Spelling.{subflow_number}
use Rattle.path_segments.specs.Options.{PlainOption, said_option}

-- a segment whose options and payload are lists
abbrev pub PlainSegment : Type 0
PlainSegment = PathSegment ℕ (List PlainOption) (List ℕ)

-- the segment of the code by its value
abbrev pub plain : PathSegment ℕ (Bor (List PlainOption)) (Bor (List ℕ)) → PlainSegment
plain s = record {
  position = s.position;
  acknowledged = s.acknowledged;
  syn = s.syn;
  fin = s.fin;
  rst = s.rst;
  window = s.window;
  mss = s.mss;
  options = s.options.now;
  payload = s.payload.now;
}

-- A SYN tells its window as it is, up to 65,535; all others by a shift of 5 (RFC 7323, section 2.2).
abbrev pub window_field : Bool → ℕ → ℕ
window_field syn window = if syn then min 65535 window else window / 32

-- the fields of its header; the number of an acknowledgement is 0 where there is none
abbrev pub spelled_head : Spelling → Side → PlainSegment → Head
spelled_head spelling from s = record {
  source_port = port_of spelling.path from;
  destination_port = port_of spelling.path (peer from);
  seq = subflow_number spelling from s.position;
  ack = unwrap_or (option_map (subflow_number spelling (peer from)) s.acknowledged) 0;
  syn = s.syn;
  fin = s.fin;
  rst = s.rst;
  ack_set = is_some s.acknowledged;
  window = window_field s.syn s.window;
}

-- MSS, a window scale of 5 and one octet of padding, where there is a maximum segment size
abbrev pub syn_text : Option ℕ → List ℕ
syn_text None = []
syn_text (Some mss) = 2 ∷ 4 ∷ to_be_bytes w16 mss ++ (3 ∷ 3 ∷ 5 ∷ 1 ∷ [])

-- the options of Multipath TCP, one after the other
abbrev pub options_text : Spelling → Side → List PlainOption → List ℕ
options_text spelling from options = flat_map (λ (o : PlainOption). option_text (said_option spelling from o)) options

-- how many zeros bring so many octets to a multiple of four
abbrev pub padding : ℕ → ℕ
padding len = (4 - len % 4) % 4

-- the octets, and zeros up to a multiple of four
abbrev pub padded : List ℕ → List ℕ
padded octets = octets ++ replicate (padding (length octets)) 0

-- the options of a SYN, and then those of Multipath TCP
abbrev pub unpadded_options : Spelling → Side → PlainSegment → List ℕ
unpadded_options spelling from s = syn_text s.mss ++ options_text spelling from s.options

-- the segment of the octets
unfoldable pub spelled : Spelling → Side → PlainSegment → Segment
spelled spelling from s = record {
  head = spelled_head spelling from s;
  options = padded (unpadded_options spelling from s);
  payload = s.payload;
}

-- the octets on the link
abbrev pub spelled_text : Spelling → Side → PlainSegment → List ℕ
spelled_text spelling from s = segment_text (addresses_from spelling.path from) (spelled spelling from s)

-- the checksum field of the octets on the link
abbrev pub spelled_sum : Spelling → Side → PlainSegment → ℕ
spelled_sum spelling from s = checksum_field (addresses_from spelling.path from) (spelled spelling from s)

-- ---- which can be said

-- an option has a form of its subtype, and a checksum exactly where checksums are used
pub record CanSayOption (spelling : Spelling) (from : Side) (o : PlainOption) : Type 0 where
  pub form : HasForm spelling.checksums (said_option spelling from o)

-- Each option can be said, all of them have at most 40 octets, and the payload fits beside them.
pub record CanSay (spelling : Spelling) (from : Side) (s : PlainSegment) : Type 0 where
  pub path : spelling.path ≤ 15
  pub window : s.window ≤ 2 ^ 20
  pub options : All (CanSayOption spelling from) s.options
  pub room : length (unpadded_options spelling from s) ≤ 40
  pub fits : length s.payload ≤ 65475
