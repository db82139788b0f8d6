-- What is told of a side, over the segments of a capture.
use Rattle.std.specs.Prelude.{ℕ, ◌≡◌, ◌+◌, ◌<◌, ◌||◌, Bool, true, false, Option, Some, None, option_map, List, ◌∷◌, ◌++◌, length, get_or}
use Rattle.sides.specs.declared.side.Side.{Side}
use Rattle.sides.specs.Side.{peer}
use Rattle.mptcp_options.specs.declared.dss.DataNumber.{DataNumber}
use Rattle.mptcp_options.specs.declared.dss.DssMap.{DssMap}
use Rattle.capture_reader.specs.Captured.{Captured}
use Rattle.capture_reader.specs.Seen.{Seen, segment_in_packet}
use Rattle.ones_sum.specs.Words.{with_bit_turned}
use Rattle.judge_rules.specs.declared.acks.ToldPlace.{ToldPlace}
use Rattle.judge_rules.specs.declared.finding.Rule.TheVariants as rule
use Rattle.seen_streams.specs.declared.told.ToldMapping.{ToldMapping}
use Rattle.seen_streams.specs.State.{StreamValue}
use Rattle.rule_book.specs.Judged.{judged}
use Rattle.rule_book.specs.Facts.{peers_lane}
use Rattle.rule_book.specs.State.{JudgedValue, stream_at}
use Rattle.capture_verdict.specs.Sent.{IsSent}
use Rattle.judge_laws.specs.Acknowledges.{Acknowledges, WasSeen, plain_for}
use Rattle.judge_laws.specs.Behind.{judged_first}
use Rattle.judge_laws.specs.Brings.{Brings, IsOf}
use Rattle.judge_laws.specs.Ends.{EndsAt}
use Rattle.judge_laws.specs.GoesOn.{broke, stream_in, StreamsGoOn}
use Rattle.judge_laws.specs.Summed.{HasItsSum, IsTold, IsWhole, ShowsMapping}
use Rattle.judge_laws.specs.Tells.{IsMeant, KeepsMappings, Tells}

-- a place has this octet
abbrev pub has_octet : StreamValue → ℕ → ℕ → Type 0
has_octet stream place octet = option_map (λ held. held.octet) (stream.octet place) ≡ Some octet

-- ---- a segment

abbrev pub SegmentsTakeNothingBack : Type 0
SegmentsTakeNothingBack = (at : Option Side) (check_sums : Bool) (state : JudgedValue) (packet : ℕ) (seen : Seen)
    → StreamsGoOn state (judged at check_sums state packet seen)

abbrev pub PayloadIsTheStreams : Type 0
PayloadIsTheStreams = (at : Option Side) (check_sums : Bool) (state : JudgedValue) (packet : ℕ) (seen : Seen) (connection : ℕ) (side : Side)
    (it : IsOf at check_sums state packet seen connection side) (place octet : ℕ) (stream : StreamValue)
    → stream_in (judged at check_sums state packet seen) connection side ≡ Some stream → broke rule.PlaceContent stream ≡ false
    → Brings at check_sums state packet seen connection side it place octet → has_octet stream place octet

-- ---- a capture

abbrev pub PacketsTakeNothingBack : Type 0
PacketsTakeNothingBack = (at : Option Side) (check_sums : Bool) (before after : List Captured)
    → StreamsGoOn (judged_first at check_sums before) (judged_first at check_sums (before ++ after))

-- a packet among others brings this octet to a place of what a side of a connection sends
pub record IsBrought (at : Option Side) (check_sums : Bool) (packets : List Captured) (connection : ℕ) (side : Side) (place octet : ℕ) : Type 0 where
  pub before : List Captured
  pub packet : Captured
  pub after : List Captured
  pub seen : Seen
  pub among : packets ≡ before ++ packet ∷ after
  pub has_segment : segment_in_packet packet ≡ Some seen
  pub it : IsOf at check_sums (judged_first at check_sums before) (1 + length before) seen connection side
  pub brings : Brings at check_sums (judged_first at check_sums before) (1 + length before) seen connection side it place octet

abbrev pub KeptSidesSentOneStream : Type 0
KeptSidesSentOneStream = (at : Option Side) (check_sums : Bool) (packets : List Captured) (connection : ℕ) (side : Side) (stream : StreamValue)
    → stream_in (judged_first at check_sums packets) connection side ≡ Some stream → broke rule.PlaceContent stream ≡ false
    → (place octet : ℕ) → IsBrought at check_sums packets connection side place octet → has_octet stream place octet

-- each octet that a kept side brought stands at its place in what is written of its stream
abbrev pub WrittenStreamsAreTheirs : Type 0
WrittenStreamsAreTheirs = (at : Option Side) (check_sums : Bool) (packets : List Captured) (connection : ℕ) (side : Side) (stream : StreamValue)
    → stream_in (judged_first at check_sums packets) connection side ≡ Some stream → broke rule.PlaceContent stream ≡ false
    → (octets : List ℕ) → IsSent stream.octet octets → (place octet : ℕ) → IsBrought at check_sums packets connection side place octet
    → place < length octets → get_or octets place 0 ≡ octet

-- where no infinite mapping was told
abbrev pub DataFinsEndStreams : Type 0
DataFinsEndStreams = (at : Option Side) (check_sums : Bool) (packets : List Captured) (connection : ℕ) (side : Side) (stream : StreamValue)
    → stream_in (judged_first at check_sums packets) connection side ≡ Some stream → stream.infinite ≡ None
    → (fin : ToldPlace) → stream.fin ≡ Some fin → EndsAt stream fin.place

-- nor was an octet brought to a place at or behind it
abbrev pub OctetsStandBeforeDataFins : Type 0
OctetsStandBeforeDataFins = (at : Option Side) (check_sums : Bool) (packets : List Captured) (connection : ℕ) (side : Side) (stream : StreamValue)
    → stream_in (judged_first at check_sums packets) connection side ≡ Some stream → stream.infinite ≡ None
    → (fin : ToldPlace) → stream.fin ≡ Some fin → broke rule.PlaceContent stream ≡ false
    → (place octet : ℕ) → IsBrought at check_sums packets connection side place octet → place < fin.place

-- each mapping with a checksum that is whole has the right one
abbrev pub KeptSidesSumRight : Type 0
KeptSidesSumRight = (at : Option Side) (check_sums : Bool) (packets : List Captured) (connection : ℕ) (side : Side) (stream : StreamValue)
    → stream_in (judged_first at check_sums packets) connection side ≡ Some stream → broke rule.DssSum stream ≡ false
    → (mapping : ToldMapping) (octets : List ℕ) → IsWhole (judged_first at check_sums packets) connection side mapping octets
    → HasItsSum (judged_first at check_sums packets) connection side mapping octets

-- a packet among others tells this mapping
pub record IsTelling (at : Option Side) (check_sums : Bool) (packets : List Captured) (connection : ℕ) (side : Side) (mapping : DssMap) (fin : Bool) : Type 0 where
  pub before : List Captured
  pub packet : Captured
  pub after : List Captured
  pub seen : Seen
  pub among : packets ≡ before ++ packet ∷ after
  pub has_segment : segment_in_packet packet ≡ Some seen
  pub it : IsOf at check_sums (judged_first at check_sums before) (1 + length before) seen connection side
  pub tells : Tells at check_sums (judged_first at check_sums before) (1 + length before) seen connection side it mapping fin

-- each mapping with a checksum is learnt as it is meant
abbrev pub KeptMappingsAreTold : Type 0
KeptMappingsAreTold = (at : Option Side) (check_sums : Bool) (packets : List Captured) (connection : ℕ) (side : Side) (stream : StreamValue)
    → stream_in (judged_first at check_sums packets) connection side ≡ Some stream → KeepsMappings stream
    → (mapping : DssMap) (fin : Bool) (t : IsTelling at check_sums packets connection side mapping fin)
    → (m : ToldMapping) × IsMeant t.tells.first t.it.position mapping fin m × IsTold (judged_first at check_sums packets) connection side m

-- of two captures that show other octets of one mapping, by one bit
abbrev pub OneTurnedBitIsNeverKept : Type 0
OneTurnedBitIsNeverKept = (packets others : List Captured) (stream other : StreamValue) (first : ℕ) (mapping : ToldMapping) (octets : List ℕ) (i k : ℕ)
    → i < length octets → k < 8 → ShowsMapping packets stream first mapping octets
    → ShowsMapping others other first mapping (with_bit_turned octets i k) → (broke rule.DssSum stream || broke rule.DssSum other) ≡ true

-- a packet among others has this Data ACK
pub record IsAcknowledged (at : Option Side) (check_sums : Bool) (packets : List Captured) (connection : ℕ) (side : Side) (number : DataNumber) : Type 0 where
  pub before : List Captured
  pub packet : Captured
  pub after : List Captured
  pub seen : Seen
  pub among : packets ≡ before ++ packet ∷ after
  pub has_segment : segment_in_packet packet ≡ Some seen
  pub it : IsOf at check_sums (judged_first at check_sums before) (1 + length before) seen connection side
  pub acknowledges : Acknowledges at check_sums (judged_first at check_sums before) (1 + length before) seen connection side it number

-- what the other side had sent by then, with mappings or in plain TCP
abbrev pub KeptSidesAcknowledgeWhatWasSeen : Type 0
KeptSidesAcknowledgeWhatWasSeen = (at : Option Side) (check_sums : Bool) (packets : List Captured) (connection : ℕ) (side : Side) (stream : StreamValue)
    → stream_in (judged_first at check_sums packets) connection side ≡ Some stream → broke rule.DataAck stream ≡ false
    → (number : DataNumber) (a : IsAcknowledged at check_sums packets connection side number)
    → WasSeen (stream_at (peer side) a.it.book)
    (plain_for a.it.keys.checksums a.seen a.it.flow.opening (stream_at (peer side) a.it.book) (peers_lane a.it.facts a.it.lanes))
    a.acknowledges.first number
