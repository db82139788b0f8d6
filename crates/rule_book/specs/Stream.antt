-- The rules on positions and places, of a segment that isn't a SYN.
use Rattle.std.specs.Prelude.{ℕ, ◌+◌, ◌^◌, Bool, true, false, not, ◌&&◌, ◌||◌, ◌==◌, nat_lt, if◌then◌else◌, Option, Some, None, List, [], ◌∷◌}
use Rattle.std.specs.List.{list_any}
use Rattle.sides.specs.Side.{peer}
use Rattle.mptcp_options.specs.Value.{OptionValue, Dss, Fail, FastClose}
use Rattle.seq_units.specs.Number.{position_near}
use Rattle.judge_rules.specs.declared.finding.Finding.{Finding}
use Rattle.judge_rules.specs.declared.finding.Rule.TheVariants as rule
use Rattle.judge_rules.specs.declared.mappings.Offer.{Offer}
use Rattle.judge_rules.specs.Mappings.{natural, offer_of, within_fault}
use Rattle.seen_connections.specs.declared.connections.Keys.{Keys}
use Rattle.seen_streams.specs.declared.told.Teller.{Teller}
use Rattle.seen_streams.specs.declared.told.ToldMapping.{ToldMapping}
use Rattle.seen_streams.specs.State.{LaneValue, StreamValue, counted, tell_found}
use Rattle.seen_streams.specs.Mapped.{Mapped, mapped_by, octets_of}
use Rattle.seen_streams.specs.Content.{shown_all, with_payload}
use Rattle.seen_streams.specs.Positions.{position_of, with_fin}
use Rattle.seen_streams.specs.Sums.{still_waiting, tried_sums, with_sums}
use Rattle.seen_connections.specs.declared.flow.Opening.{Opening}
use Rattle.seen_connections.specs.declared.flow.Opening.TheVariants as opening
use Rattle.seen_streams.specs.Acks.{Acked, acked_with, behind_positions, ended_by_fin, failed_with, plain_end}
use Rattle.rule_book.specs.Facts.{Facts, first_of, own_base, own_lane, payload_at, payload_len, peers_base, peers_lane, with_own_lane}
use Rattle.rule_book.specs.State.{BookValue, LanesValue, stream_at, with_stream}

-- ---- TCP's acknowledgement: of positions beyond those that were seen without a hole

abbrev pub is_above : Option ℕ → ℕ → Bool
is_above None behind = false
is_above (Some position) behind = nat_lt behind position

abbrev pub acknowledges_more : Facts → LaneValue → Bool
acknowledges_more facts lane =
    facts.seen.segment.head.ack_set
    && (not facts.seen.segment.head.rst
    && is_above (position_near (2 ^ 32) (peers_base facts) (behind_positions lane) facts.seen.segment.head.ack) (behind_positions lane))

-- ---- mappings

abbrev pub told_in : Facts → ℕ → Teller
told_in facts first = record { packet = facts.packet; flow = facts.index; first = first }

abbrev pub mapped_one : Teller → ℕ → Option Offer → Mapped → Mapped
mapped_one teller position None state = state
mapped_one teller position (Some offer) state = mapped_by teller position offer state

abbrev pub mapped_each : Teller → ℕ → List OptionValue → Mapped → Mapped
mapped_each teller position [] state = state
mapped_each teller position (option ∷ options) state =
    mapped_each teller position options (mapped_one teller position (offer_of teller.first option) state)

-- where the sender's key is known
abbrev pub mapped_with : Facts → Option ℕ → ℕ → List OptionValue → Mapped → Mapped
mapped_with facts None position options state = state
mapped_with facts (Some first) position options state = mapped_each (told_in facts first) position options state

-- ---- `within`

abbrev pub within_found : Facts → ℕ → ToldMapping → Option Finding
within_found facts position mapping =
    if payload_len facts == 0 || octets_of mapping == 0 then None
    else within_fault position (payload_len facts) (natural mapping.position) (octets_of mapping)

abbrev pub within_one : Facts → ℕ → ToldMapping → StreamValue → StreamValue
within_one facts position mapping stream = tell_found rule.Within facts.packet (within_found facts position mapping) stream

abbrev pub within_each : Facts → ℕ → List ToldMapping → StreamValue → StreamValue
within_each facts position [] stream = stream
within_each facts position (mapping ∷ mappings) stream = within_each facts position mappings (within_one facts position mapping stream)

-- ---- Data ACKs and MP_FAIL, where the peers' key is known

abbrev pub acked_one : Facts → ℕ → StreamValue → OptionValue → Acked → Acked
acked_one facts first peers (Dss (Some number) mapping fin) acked = acked_with facts.at_sender facts.plain facts.packet first peers number acked
acked_one _ _ _ _ acked = acked

abbrev pub acked_each : Facts → ℕ → StreamValue → List OptionValue → Acked → Acked
acked_each facts first peers [] acked = acked
acked_each facts first peers (option ∷ options) acked = acked_each facts first peers options (acked_one facts first peers option acked)

abbrev pub failed_one : ℕ → ℕ → StreamValue → OptionValue → StreamValue → StreamValue
failed_one packet first peers (Fail number) stream = failed_with packet first peers number stream
failed_one _ _ _ _ stream = stream

abbrev pub failed_each : ℕ → ℕ → StreamValue → List OptionValue → StreamValue → StreamValue
failed_each packet first peers [] stream = stream
failed_each packet first peers (option ∷ options) stream = failed_each packet first peers options (failed_one packet first peers option stream)

abbrev pub behind_acks : Facts → Option ℕ → StreamValue → List OptionValue → Acked → Acked
behind_acks facts None peers options acked = acked
behind_acks facts (Some first) peers options acked = by (acked_each facts first peers options acked)
  where
    by : Acked → Acked
    by acked = record acked { stream = failed_each facts.packet first peers options acked.stream }

-- ---- the sender's stream and lane, rule after rule

abbrev pub summed : Facts → Option ℕ → List ToldMapping → Acked → Acked
summed facts None learnt acked = acked
summed facts (Some first) learnt acked = by (with_sums facts.packet learnt acked.lane)
  where
    by : LaneValue → Acked
    by lane = record { stream = tried_sums facts.packet first lane.octet lane.waiting acked.stream; lane = still_waiting lane }

-- behind the payload, and what had come before of what is mapped
abbrev pub behind_payload : Facts → ℕ → ℕ → Mapped → Acked
behind_payload facts position acknowledged mapped =
    by (record mapped { stream = ended_by_fin mapped.lane facts.packet (within_each facts position mapped.learnt mapped.stream) })
    (with_payload (payload_at facts position) facts.packet mapped.lane)
  where
    by : Mapped → LaneValue → Acked
    by mapped lane = record {
      stream = shown_all (payload_at facts position) acknowledged facts.packet mapped lane;
      lane = lane;
    }

abbrev pub fin_taken : Facts → ℕ → LaneValue → LaneValue
fin_taken facts position lane = if facts.seen.segment.head.fin then with_fin (position + facts.seen.payload_len) lane else lane

abbrev pub judged_at : Facts → ℕ → List OptionValue → Keys → StreamValue → StreamValue → LaneValue → Acked
judged_at facts position options keys peers stream lane =
    behind_acks facts (first_of (peer facts.side) keys) peers options
    (behind_mapped (mapped_with facts (first_of facts.side keys) position options
    (record { stream = stream; lane = fin_taken facts position lane; learnt = []; has_line = false })))
  where
    behind_mapped : Mapped → Acked
    behind_mapped mapped =
        summed facts (first_of facts.side keys) mapped.learnt (behind_payload facts position peers.acknowledged mapped)

-- ---- a book and lanes

-- what a segment leaves of the book of its connection and of the lanes of its flow
pub record Left : Type 0 where
  pub book : BookValue
  pub lanes : LanesValue

abbrev pub gap_counted : Facts → Left → Left
gap_counted facts left = record left {
  book = record left.book {
    gaps = if acknowledges_more facts (peers_lane facts left.lanes) then counted left.book.gaps else left.book.gaps;
  };
}

abbrev pub with_judged : Facts → Acked → Left → Left
with_judged facts judged left = record {
  book = with_stream facts.side judged.stream left.book;
  lanes = with_own_lane facts judged.lane left.lanes;
}

-- ---- plain TCP, on the connection's first subflow alone: a side that fell back without an infinite mapping sends no DSS but beside
-- MP_FASTCLOSE, and its Data ACK counts all octets (sections 3.5 and 3.7)

abbrev pub closes_fast : OptionValue → Bool
closes_fast (FastClose key) = true
closes_fast _ = false

abbrev pub plain_on : Opening → StreamValue → LaneValue → ℕ
plain_on (opening.Join token nonce) peers lane = 0
plain_on (opening.Capable checksums) peers lane = plain_end peers lane

abbrev pub plain_beside : List OptionValue → Opening → StreamValue → LaneValue → ℕ
plain_beside options opening peers lane = if list_any closes_fast options then plain_on opening peers lane else 0

abbrev pub with_plain : List OptionValue → Left → Facts → Facts
with_plain options left facts = record facts {
  plain = plain_beside options facts.flow.opening (stream_at (peer facts.side) left.book) (peers_lane facts left.lanes);
}

abbrev pub judged_by : Facts → ℕ → List OptionValue → Keys → Left → Left
judged_by facts position options keys left =
    with_judged facts
    (judged_at (with_plain options left facts) position options keys (stream_at (peer facts.side) left.book) (stream_at facts.side left.book)
    (own_lane facts left.lanes))
    (gap_counted facts left)

abbrev pub judged_from : Facts → Option ℕ → List OptionValue → Keys → Left → Left
judged_from facts None options keys left = left
judged_from facts (Some position) options keys left = judged_by facts position options keys left

-- a SYN is judged by its options alone
abbrev pub judged_positions : Facts → List OptionValue → Keys → Left → Left
judged_positions facts options keys left =
    if facts.seen.segment.head.syn then left
    else judged_from facts
    (position_of (own_base facts) (own_lane facts left.lanes) facts.seen.segment.head.seq facts.seen.payload_len) options keys left
