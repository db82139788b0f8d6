-- What octets mean as a segment, or the first fault in them (RFC 9293, section 3.1).
use Rattle.std.specs.Prelude.{ℕ, ◌*◌, ◌/◌, List, length, drop, slice_index, slice_range, Bool, not, ◌||◌, nat_lt, if◌then◌else◌, Result, Ok, Err, ◌≡◌}
use Rattle.std.specs.Int.{w16, w32}
use Rattle.std.specs.Borrow.{Bor, u8 as octet}
use Rattle.std.specs.Ptr.{Ptr, as_ptr, ptr_add}
use Rattle.octet_text.specs.Octets.{number_at, is_set}
use Rattle.segment_wire.specs.declared.head.Head.{Head}
use Rattle.segment_wire.specs.declared.head.Addresses.{Addresses}
use Rattle.segment_wire.specs.declared.reading.SegmentFault.{SegmentFault}
use Rattle.segment_wire.specs.declared.reading.SegmentFault.TheVariants.{Short, DataOffset, OptionLength, Checksum}
use Rattle.segment_wire.specs.declared.reading.SegmentRef.{SegmentRef}
use Rattle.segment_wire.specs.Options.{are_whole}
use Rattle.segment_wire.specs.Checksum.{is_checksum_right}
use Rattle.segment_wire.specs.Segment.{Segment}

-- one of the control bits: FIN 0x01, SYN 0x02, RST 0x04, ACK 0x10
abbrev pub has_control_bit : List ℕ → ℕ → Bool
has_control_bit octets bit = is_set (slice_index octets 13) bit

-- The fields that are read. Reserved bits, CWR, ECE, URG, PSH and the urgent pointer are ignored.
unfoldable pub head_in : List ℕ → Head
head_in octets = record {
  source_port = number_at w16 octets 0;
  destination_port = number_at w16 octets 2;
  seq = number_at w32 octets 4;
  ack = number_at w32 octets 8;
  syn = has_control_bit octets 0x02;
  fin = has_control_bit octets 0x01;
  rst = has_control_bit octets 0x04;
  ack_set = has_control_bit octets 0x10;
  window = number_at w16 octets 14;
}

-- how many octets the header has: the data offset counts words of four
abbrev pub header_len : List ℕ → ℕ
header_len octets = 4 * (slice_index octets 12 / 16)

-- the octets behind the fixed header, up to where the header ends
abbrev pub options_in : List ℕ → List ℕ
options_in octets = slice_range octets 20 (header_len octets)

-- the fields, the options, and behind the header the payload
abbrev pub segment_in : List ℕ → Segment
segment_in octets = record { head = head_in octets; options = options_in octets; payload = drop (header_len octets) octets }

-- ---- the faults

-- no room for the fixed header
abbrev pub is_short : List ℕ → Bool
is_short octets = nat_lt (length octets) 20

-- a header shorter than the fixed one, or past the end
abbrev pub has_wrong_offset : List ℕ → Bool
has_wrong_offset octets = nat_lt (header_len octets) 20 || nat_lt (length octets) (header_len octets)

-- an option whose length is below 2 or that runs past the header
abbrev pub has_broken_option : List ℕ → Bool
has_broken_option octets = not (are_whole (options_in octets))

-- a length that the pseudo-header can't tell, or a sum that isn't ffff
abbrev pub has_wrong_checksum : Addresses → List ℕ → Bool
has_wrong_checksum addresses octets = nat_lt 65535 (length octets) || not (is_checksum_right addresses octets)

-- what the octets mean, or the first fault in this order
unfoldable pub segment_meaning : Addresses → List ℕ → Result Segment SegmentFault
segment_meaning addresses octets =
    if is_short octets then Err Short
    else (if has_wrong_offset octets then Err DataOffset
    else (if has_broken_option octets then Err OptionLength
    else (if has_wrong_checksum addresses octets then Err Checksum
    else Ok (segment_in octets))))

-- ---- what is lent

-- the segment that is lent
abbrev pub segment_of : SegmentRef → Segment
segment_of lent = record { head = lent.head; options = lent.options.now; payload = lent.payload.now }

-- the segment that is lent, or the fault
abbrev pub as_segment : Result SegmentRef SegmentFault → Result Segment SegmentFault
as_segment (Ok lent) = Ok (segment_of lent)
as_segment (Err fault) = Err fault

-- where the options begin
abbrev pub options_place : SegmentRef → Ptr
options_place lent = as_ptr lent.options

-- where the payload begins
abbrev pub payload_place : SegmentRef → Ptr
payload_place lent = as_ptr lent.payload

-- Both are parts of the input: the options begin at octet 20, and the payload begins right after them.
pub record StandsIn (input : Bor (List ℕ)) (lent : SegmentRef) : Type 0 where
  pub options : options_place lent ≡ ptr_add octet 20 (as_ptr input)
  pub payload : payload_place lent ≡ ptr_add octet (header_len input.now) (as_ptr input)
