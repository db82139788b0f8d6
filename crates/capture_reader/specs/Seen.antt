-- The TCP segment of a captured packet.
use Rattle.std.specs.Prelude.{ℕ, ◌-◌, ◌^◌, Bool, ◌&&◌, ◌||◌, ◌==◌, nat_lt, Option, option_map, option_and_then, length}
use Rattle.std.specs.Result.{result_ok}
use Rattle.std.specs.Int.{w16}
use Rattle.octet_text.specs.Octets.{number_at}
use Rattle.key_material.specs.Address.{octets_of}
use Rattle.segment_wire.specs.Between.{covered_sum_between, pseudo_sum_between}
use Rattle.segment_wire.specs.Parts.{parts_meaning}
use Rattle.segment_wire.specs.Reading.{segment_of, header_len}
use Rattle.segment_wire.specs.Segment.{Segment}
use Rattle.capture_reader.specs.declared.seen.End.{End}
use Rattle.capture_reader.specs.declared.seen.SeenSegment.{SeenSegment}
use Rattle.capture_reader.specs.Captured.{Captured}
use Rattle.capture_reader.specs.Link.{internet_packet}
use Rattle.capture_reader.specs.Internet.{CarriedValue, carried_by}

pub record Seen : Type 0 where
  pub source : End
  pub destination : End
  -- the fields, the options and the payload that is held
  pub segment : Segment
  -- how many octets the payload had
  pub payload_len : ℕ
  -- fewer octets are held than the segment had
  pub is_cut : Bool
  pub has_good_sum : Bool

-- fewer octets are held than the segment had
abbrev pub is_cut : CarriedValue → Bool
is_cut carried = nat_lt (length carried.octets) carried.size

-- The sum over pseudo-header and segment is ffff, or the field holds the sum of the pseudo-header alone, as where a device adds the
-- rest. A segment of 2^32 octets or more has no sum.
unfoldable pub is_sum_right : CarriedValue → Bool
is_sum_right carried =
    nat_lt (length carried.octets) (2 ^ 32)
    && (covered_sum_between (octets_of carried.source) (octets_of carried.destination) carried.octets == 65535
    || number_at w16 carried.octets 16 == pseudo_sum_between (octets_of carried.source) (octets_of carried.destination) (length carried.octets))

-- that of a cut segment isn't looked at
unfoldable pub has_good_sum : CarriedValue → Bool
has_good_sum carried = is_cut carried || is_sum_right carried

-- a segment between these ends
unfoldable pub seen_of : CarriedValue → Segment → Seen
seen_of carried segment = record {
  source = record { address = carried.source; port = segment.head.source_port };
  destination = record { address = carried.destination; port = segment.head.destination_port };
  segment = segment;
  payload_len = carried.size - header_len carried.octets;
  is_cut = is_cut carried;
  has_good_sum = has_good_sum carried;
}

-- The segment in what is carried: at least 20 octets, whose header is held whole.
unfoldable pub segment_in : CarriedValue → Option Seen
segment_in carried = option_map (seen_of carried) (result_ok (parts_meaning carried.octets))

-- the segment of a packet
unfoldable pub segment_in_packet : Captured → Option Seen
segment_in_packet packet =
    option_and_then segment_in (option_and_then carried_by (internet_packet packet.link packet.octets))

-- the segment that is lent
abbrev pub as_seen : SeenSegment → Seen
as_seen seen = record {
  source = seen.source;
  destination = seen.destination;
  segment = segment_of seen.segment;
  payload_len = seen.payload_len;
  is_cut = seen.is_cut;
  has_good_sum = seen.has_good_sum;
}
