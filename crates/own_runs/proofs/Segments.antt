-- The segment that a packet of ours carries is found in it.
use Rattle.std.proofs.Common.{◌≡◌, refl, ◌∙◌, sym, ap, ℕ, ◌-◌, ◌^◌, ◌≤◌, Bool, true, false, cond, Some, Result, Ok, Err, List, length, length-drop, arith}
use Rattle.std.specs.Prelude.{nat_lt, not, ◌==◌, ◌||◌, if◌then◌else◌, option_and_then, option_map}
use Rattle.std.specs.Result.{result_ok}
use Rattle.std.proofs.lemmas.Bool.{eqb-true, eq-eqb, le-ltb, lt-ltb, not-false}
use Rattle.ones_sum.specs.Words.{word_sum, folded, complement}
use Rattle.pcap_text.specs.Ipv4.{header_with}
use Rattle.segment_wire.specs.declared.head.Addresses.{Addresses}
use Rattle.segment_wire.specs.declared.reading.SegmentFault.{SegmentFault}
use Rattle.segment_wire.specs.declared.reading.SegmentFault.TheVariants.{Short, DataOffset, OptionLength, Checksum}
use Rattle.segment_wire.specs.Between.{covered_sum_between}
use Rattle.segment_wire.specs.Checksum.{covered_sum}
use Rattle.segment_wire.specs.Laws.{AreAddresses}
use Rattle.segment_wire.specs.Parts.{parts_meaning}
use Rattle.segment_wire.specs.Reading.{has_broken_option, has_wrong_checksum, has_wrong_offset, header_len, is_short, segment_in, segment_meaning}
use Rattle.segment_wire.specs.Segment.{Segment, checksum_field, segment_text}
use Rattle.segment_wire.proofs.Again.{segment_meaning-written}
use Rattle.segment_wire.proofs.Text.{length-octets_with}
use Rattle.segment_wire.proofs.Sums.{sums_of_ipv4_are_alike}
use Rattle.capture_reader.specs.Internet.{CarriedValue}
use Rattle.capture_reader.specs.Link.{internet_packet}
use Rattle.capture_reader.specs.Seen as seen
use Rattle.own_runs.specs.Packets.{raw_packet}
use Rattle.own_runs.specs.Segments.{WrittenSegmentsAreFound, packet_text, seen_between}
use Rattle.own_runs.proofs.Ipv4.{carried_is, carried_whole}

-- ---- what the receiver read

unless : (b : Bool) (fault : SegmentFault) (r : Result Segment SegmentFault) (s : Segment) → cond b (Err fault) r ≡ Ok s → (b ≡ false) × (r ≡ Ok s)
unless true fault r s e = absurd cc
unless false fault r s e = (refl, e)

-- the parts are read, too, and the sum is right
record IsGood (addresses : Addresses) (octets : List ℕ) (segment : Segment) : Type 0 where
  parts : parts_meaning octets ≡ Ok segment
  sum : covered_sum addresses octets ≡ 65535
  payload : length octets - header_len octets ≡ length segment.payload

right_sum : (long : Bool) (sum : ℕ) → (long || not (sum == 65535)) ≡ false → sum ≡ 65535
right_sum true sum e = absurd cc
right_sum false sum e = eqb-true sum 65535 (not-false (sum == 65535) e)

abbrev meant : Segment → Result Segment SegmentFault
meant segment = Ok segment

same_payload : (s t : Segment) → meant s ≡ meant t → s.payload ≡ t.payload
same_payload s t e = cc

is_good : (addresses : Addresses) (octets : List ℕ) (segment : Segment) → segment_meaning addresses octets ≡ Ok segment → IsGood addresses octets segment
unfolding segment_meaning parts_meaning
is_good addresses octets segment read =
    let last : Result Segment SegmentFault = Ok (segment_in octets) in
    let checked = if has_wrong_checksum addresses octets then Err Checksum else last in
    let optioned = if has_broken_option octets then Err OptionLength else checked in
    let a = unless (is_short octets) Short (if has_wrong_offset octets then Err DataOffset else optioned) segment read in
    let b = unless (has_wrong_offset octets) DataOffset optioned segment a.1 in
    let c = unless (has_broken_option octets) OptionLength checked segment b.1 in
    let d = unless (has_wrong_checksum addresses octets) Checksum last segment c.1 in
    record {
      parts = ap (λ (x : Bool). if x then Err Short else (if has_wrong_offset octets then Err DataOffset else last)) a.0
          ∙ (ap (λ (x : Bool). if x then Err DataOffset else last) b.0 ∙ d.1);
      sum = right_sum (nat_lt 65535 (length octets)) (covered_sum addresses octets) d.0;
      payload = sym (length-drop (header_len octets) octets) ∙ ap length (same_payload (segment_in octets) segment d.1);
    }

-- ---- what a reader of captures finds

abbrev seen_with : Addresses → Segment → ℕ → Bool → Bool → seen.Seen
seen_with addresses segment payload_len is_cut has_good_sum = record { source = (seen_between addresses segment).source; destination = (seen_between addresses segment).destination; segment = segment; payload_len = payload_len; is_cut = is_cut; has_good_sum = has_good_sum }

module _ (addresses : Addresses) (octets : List ℕ) (segment : Segment) (are : AreAddresses addresses) (fits : length octets ≤ 65515) (good : IsGood addresses octets segment) where
  abbrev it : CarriedValue
  it = carried_whole addresses.source addresses.destination octets

  uncut : nat_lt (length octets) (length octets) ≡ false
  uncut = le-ltb (length octets) (length octets) (omega arith)

  good_sum : seen.has_good_sum it ≡ true
  unfolding seen.has_good_sum seen.is_sum_right
  good_sum =
      let alike : covered_sum_between addresses.source addresses.destination octets ≡ 65535 =
      sums_of_ipv4_are_alike addresses octets are.source are.destination (omega (arith, fits)) ∙ good.sum in
      rw (uncut, lt-ltb (length octets) (2 ^ 32) (omega (arith, fits)), eq-eqb (covered_sum_between addresses.source addresses.destination octets) 65535 alike) refl

  found : seen.segment_in it ≡ Some (seen_between addresses segment)
  unfolding seen.segment_in seen.seen_of
  found =
      ap (λ (r : Result Segment SegmentFault). option_map (seen.seen_of it) (result_ok r)) good.parts
      ∙ ap (λ (n : ℕ). Some (seen_with addresses segment n (nat_lt (length octets) (length octets)) (seen.has_good_sum it))) good.payload
      ∙ ap (λ (b : Bool). Some (seen_with addresses segment (length segment.payload) b (seen.has_good_sum it))) uncut
      ∙ ap (λ (b : Bool). Some (seen_with addresses segment (length segment.payload) false b)) good_sum

pub are_found : (addresses : Addresses) (octets : List ℕ) (segment : Segment) → AreAddresses addresses → length octets ≤ 65515
    → segment_meaning addresses octets ≡ Ok segment → seen.segment_in_packet (raw_packet (packet_text addresses octets)) ≡ Some (seen_between addresses segment)
unfolding seen.segment_in_packet internet_packet
are_found addresses octets segment are fits read =
    let checksum = complement (folded (word_sum (header_with 0 addresses.source addresses.destination (length octets)))) in
    ap (option_and_then seen.segment_in) (carried_is checksum addresses.source addresses.destination octets are.source are.destination fits)
    ∙ found addresses octets segment are fits (is_good addresses octets segment read)

pub written_are_found : WrittenSegmentsAreFound
unfolding segment_text
written_are_found addresses segment are can short =
    are_found addresses (segment_text addresses segment) segment are (omega (arith, length-octets_with (checksum_field addresses segment) segment, short))
    (segment_meaning-written addresses segment are.source are.destination can)
