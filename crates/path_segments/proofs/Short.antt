-- Octets that are a segment have a payload that fits behind the fixed header.
use Rattle.std.proofs.Common.{◌≡◌, refl, sym, ap, subst, ℕ, ◌-◌, ◌<◌, ◌≤◌, Bool, true, false, not, ◌||◌, if◌then◌else◌, nat_lt, Ok, Err, Result, List, length, drop, length-drop, arith}
use Rattle.segment_wire.specs.declared.head.Addresses.{Addresses}
use Rattle.segment_wire.specs.declared.reading.SegmentFault.{SegmentFault}
use Rattle.segment_wire.specs.declared.reading.SegmentFault.TheVariants.{Short, DataOffset, OptionLength, Checksum}
use Rattle.segment_wire.specs.Checksum.{is_checksum_right}
use Rattle.segment_wire.specs.Reading.{header_len, segment_in, is_short, has_wrong_offset, has_broken_option, segment_meaning}
use Rattle.segment_wire.specs.Segment.{Segment}

module _ (octets : List ℕ) (s : Segment) where
  abbrev meaning_by : Bool → Bool → Bool → Bool → Bool → Result Segment SegmentFault
  meaning_by short wrong broken long sum =
      if short then Err Short
      else (if wrong then Err DataOffset else (if broken then Err OptionLength else (if long || sum then Err Checksum else Ok (segment_in octets))))

  by : (short wrong broken long sum : Bool) → has_wrong_offset octets ≡ wrong → nat_lt 65535 (length octets) ≡ long
      → meaning_by short wrong broken long sum ≡ Ok s → length s.payload ≤ 65515
  by true wrong broken long sum w l e = absurd cc
  by false true broken long sum w l e = absurd cc
  by false false true long sum w l e = absurd cc
  by false false false true sum w l e = absurd cc
  by false false false false true w l e = absurd cc
  by false false false false false w l e =
      let is : s ≡ segment_in octets = cc in
      let least : 20 ≤ header_len octets = grind (arith, w) in
      let most : length octets ≤ 65535 = grind (arith, l) in
      rw (is, length-drop (header_len octets) octets) (omega (arith, least, most))

  pub payload_is_short : (addresses : Addresses) → segment_meaning addresses octets ≡ Ok s → length s.payload ≤ 65515
  unfolding segment_meaning
  payload_is_short addresses e =
      by (is_short octets) (has_wrong_offset octets) (has_broken_option octets) (nat_lt 65535 (length octets)) (not (is_checksum_right addresses octets)) refl refl e
