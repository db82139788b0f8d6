-- What holds of a side's stream, and of what it sent on a subflow, stays behind each option of a segment, where each step of a rule keeps it.
use Rattle.std.proofs.Common.{◌≡◌, refl, ℕ, ℤ, zero, suc, ◌+◌, Bool, true, false, ◌==◌, if◌then◌else◌, is_some, max, Option, Some, None, Result, Ok, Err, List, [], ◌∷◌}
use Rattle.sides.specs.Side.{peer}
use Rattle.mptcp_options.specs.declared.capable.CapableKeys.{CapableKeys}
use Rattle.mptcp_options.specs.Value.{OptionValue, Capable, Dss, Fail}
use Rattle.judge_rules.specs.declared.finding.Finding.{Finding}
use Rattle.judge_rules.specs.declared.finding.Finding.TheVariants.{NoMapping, NoPlace}
use Rattle.judge_rules.specs.declared.finding.Rule.{Rule}
use Rattle.judge_rules.specs.declared.finding.Rule.TheVariants as rule
use Rattle.judge_rules.specs.declared.finding.Verdict.{Verdict}
use Rattle.judge_rules.specs.declared.finding.Verdict.TheVariants as verdict
use Rattle.judge_rules.specs.declared.mappings.Line.{Line}
use Rattle.judge_rules.specs.declared.mappings.Offer.{Offer}
use Rattle.judge_rules.specs.Acks.{ack_place}
use Rattle.judge_rules.specs.Keys.{judged_address, judged_fast_close}
use Rattle.judge_rules.specs.Mappings.{mapped_place, offer_of, position_near}
use Rattle.judge_rules.specs.Numbers.{place_near, told_number}
use Rattle.seen_connections.specs.declared.connections.Keys.{Keys}
use Rattle.seen_connections.specs.Connections.{key_of}
use Rattle.seen_connections.specs.SeenOptions.{SeenValue, Readable, Formless}
use Rattle.seen_octets.specs.declared.octet.Octet.{Octet}
use Rattle.seen_streams.specs.declared.told.Broke.{Broke}
use Rattle.seen_streams.specs.declared.told.Teller.{Teller}
use Rattle.seen_streams.specs.declared.told.ToldMapping.{ToldMapping}
use Rattle.seen_streams.specs.declared.told.Waiting.{Waiting}
use Rattle.seen_streams.specs.State.{FaultValue, Found, LaneValue, NoOption, StreamValue, counted, place_of, tell, tell_found}
use Rattle.seen_streams.specs.Acks.{Acked, ack_counted, ack_facts, acked_by, ended_by_fin, named_place}
use Rattle.seen_streams.specs.Content.{PayloadValue, as_part, at_place, shown, shown_from, with_payload}
use Rattle.seen_streams.specs.Mapped.{Mapped, finite, finite_at, finite_by, finite_fault, infinite_after, infinite_at, infinite_by, line_fault, lowest_line, mapped_at, one_more, run_of, started, told_mapping, with_mapping, with_places}
use Rattle.seen_streams.specs.Positions.{with_fin}
use Rattle.seen_streams.specs.Sums.{is_whole, still_waiting, sum_fault, summed_by, tried_if_whole, tried_sum, tried_sums, with_sum, with_sums}
use Rattle.rule_book.specs.Facts.{Facts}
use Rattle.rule_book.specs.Signals.{KeyedValue, by_both, by_mine, by_peers, formless_one, join_in, joined_by, joins_counted, judged_in, judged_options, keyed_by, keyed_each, keyed_one, keyed_seen, signalled, signalled_one, told_formless, told_verdict}
use Rattle.rule_book.specs.Stream.{acked_each, acked_one, behind_acks, failed_each, failed_one, fin_taken, mapped_each, mapped_one, mapped_with, summed, told_in, within_each, within_found, within_one}

-- ---- each step keeps it

-- of a stream: rules that are told broken, and counts
pub record TellingKeeps (P : StreamValue → Type 0) : Type 0 where
  pub tells : (rule : Rule) (packet : ℕ) (fault : FaultValue) (s : StreamValue) → P s → P (tell rule packet fault s)
  pub counts : (s : StreamValue) (keys joins mappings sums data_acks : ℕ) → P s
      → P (record s { keys = keys; joins = joins; mappings = mappings; sums = sums; data_acks = data_acks })

-- of a stream and a lane: Data ACKs
pub record AcksKeep (Q : StreamValue → LaneValue → Type 0) : Type 0 where
  pub telling : (l : LaneValue) → TellingKeeps (λ (s : StreamValue). Q s l)
  pub acks : (place : ℕ) (s : StreamValue) (l : LaneValue) → Q s l
      → Q (record s { acknowledged = max s.acknowledged place }) (record l { acknowledged = max l.acknowledged place })

-- all, where place 0 has the number `first`
pub record StepsKeep (first : Option ℕ) (Q : StreamValue → LaneValue → Type 0) : Type 0 where
  pub acks : AcksKeep Q
  pub ends : (position : ℕ) (s : StreamValue) (l : LaneValue) → Q s l → Q s (with_fin position l)
  pub maps : (teller : Teller) (offer : Offer) (position : ℤ) (place : ℕ) (s : StreamValue) (l : LaneValue)
      → finite_fault teller s l offer position place ≡ None → Q s l
      → Q (with_mapping teller.packet (told_mapping offer position place) s) (with_places (run_of teller.packet (told_mapping offer position place)) l)
  pub lines : (teller : Teller) (place : ℕ) (line : Line) (s : StreamValue) (l : LaneValue) → Q s l
      → Q (record (started place s) { infinite = Some (infinite_after s.infinite teller line.place) }) (record l { line = Some line })
  pub fins : (packet : ℕ) (s : StreamValue) (l : LaneValue) → Q s l → Q (ended_by_fin l packet s) l
  pub pays : (payload : PayloadValue) (packet : ℕ) (s : StreamValue) (l : LaneValue) → Q s l → Q s (with_payload payload packet l)
  pub shows : (acknowledged packet p place : ℕ) (octet : Option ℕ) (s : StreamValue) (l : LaneValue) → place_of l p ≡ Some place → Q s l
      → Q (shown acknowledged packet place 1 (as_part octet) s) l
  pub sums : (packet known : ℕ) (mapping : ToldMapping) (s : StreamValue) (l : LaneValue) → first ≡ Some known → is_some mapping.checksum ≡ true → Q s l
      → Q s (with_sum packet mapping l)
  pub tries : (packet known : ℕ) (s : StreamValue) (l : LaneValue) → first ≡ Some known → Q s l
      → Q (tried_sums packet known l.octet l.waiting s) (still_waiting l)

-- ---- options that tell of the stream alone

module _ {P : StreamValue → Type 0} (keep : TellingKeeps P) where
  formless_one_so : (packet : ℕ) (option : SeenValue) (s : StreamValue) → P s → P (formless_one packet option s)
  formless_one_so packet (Formless octets) s h = keep.tells rule.Form packet (NoOption octets) s h
  formless_one_so packet (Readable option) s h = h

  pub formless_so : (packet : ℕ) (options : List SeenValue) (s : StreamValue) → P s → P (told_formless packet options s)
  formless_so packet [] s h = h
  formless_so packet (option ∷ options) s h = formless_so packet options (formless_one packet option s) (formless_one_so packet option s h)

  keyed_by_so : (v : Verdict) (facts : Facts) (option : OptionValue) (told : CapableKeys) (state : KeyedValue)
      → P state.stream → P (keyed_by v facts option told state).stream
  keyed_by_so verdict.PassedOver facts option told state h = h
  keyed_by_so verdict.Kept facts option told state h =
      let s = state.stream in keep.counts s (counted s.keys) s.joins s.mappings s.sums s.data_acks h
  keyed_by_so (verdict.Broke finding) facts option told state h =
      let s = state.stream in
      keep.tells rule.Keys facts.packet (Found finding) (record s { keys = counted s.keys })
      (keep.counts s (counted s.keys) s.joins s.mappings s.sums s.data_acks h)

  keyed_one_so : (facts : Facts) (option : OptionValue) (state : KeyedValue) → P state.stream → P (keyed_one facts option state).stream
  keyed_one_so facts (Capable flag_a flag_c told) state h =
      keyed_by_so (judged_in facts.flow.opening facts.side state.keys told) facts (Capable flag_a flag_c told) told state h
  keyed_one_so facts option state h = h

  keyed_seen_so : (facts : Facts) (option : SeenValue) (state : KeyedValue) → P state.stream → P (keyed_seen facts option state).stream
  keyed_seen_so facts (Readable option) state h = keyed_one_so facts option state h
  keyed_seen_so facts (Formless octets) state h = h

  keyed_so : (facts : Facts) (options : List SeenValue) (state : KeyedValue) → P state.stream → P (keyed_each facts options state).stream
  keyed_so facts [] state h = h
  keyed_so facts (option ∷ options) state h = keyed_so facts options (keyed_seen facts option state) (keyed_seen_so facts option state h)

  verdict_so : (which : Rule) (packet : ℕ) (v : Verdict) (s : StreamValue) → P s → P (told_verdict which packet v s)
  verdict_so which packet (verdict.Broke finding) s h = keep.tells which packet (Found finding) s h
  verdict_so which packet verdict.PassedOver s h = h
  verdict_so which packet verdict.Kept s h = h

  joins_counted_so : (v : Verdict) (s : StreamValue) → P s → P (joins_counted v s)
  joins_counted_so verdict.PassedOver s h = h
  joins_counted_so v s h = keep.counts s s.keys (counted s.joins) s.mappings s.sums s.data_acks h

  both_so : (mine peers : ℕ) (facts : Facts) (option : OptionValue) (s : StreamValue) → P s → P (by_both mine peers facts option s)
  both_so mine peers facts option s h =
      let v = join_in facts.flow.opening facts mine peers option in
      verdict_so rule.AddressHmac facts.packet (judged_address mine peers option) (joined_by v facts.packet s)
      (verdict_so rule.JoinHmac facts.packet v (joins_counted v s) (joins_counted_so v s h))

  mine_so : (mine : Option ℕ) (peers : ℕ) (facts : Facts) (option : OptionValue) (s : StreamValue) → P s → P (by_mine mine peers facts option s)
  mine_so None peers facts option s h = h
  mine_so (Some mine) peers facts option s h = both_so mine peers facts option s h

  peers_so : (peers mine : Option ℕ) (facts : Facts) (option : OptionValue) (s : StreamValue) → P s → P (by_peers peers mine facts option s)
  peers_so None mine facts option s h = h
  peers_so (Some peers) mine facts option s h =
      verdict_so rule.FastCloseKey facts.packet (judged_fast_close peers option) (by_mine mine peers facts option s) (mine_so mine peers facts option s h)

  signalled_so : (facts : Facts) (known : Keys) (options : List OptionValue) (s : StreamValue) → P s → P (signalled facts known options s)
  signalled_so facts known [] s h = h
  signalled_so facts known (option ∷ options) s h =
      signalled_so facts known options (signalled_one facts known option s)
      (peers_so (key_of (peer facts.side) known) (key_of facts.side known) facts option s h)

  pub options_so : (facts : Facts) (options : List SeenValue) (state : KeyedValue) → P state.stream → P (judged_options facts options state).stream
  options_so facts options state h =
      let made = keyed_each facts options state in
      signalled_so facts made.keys made.options made.stream (keyed_so facts options state h)

  found_so : (which : Rule) (packet : ℕ) (finding : Option Finding) (s : StreamValue) → P s → P (tell_found which packet finding s)
  found_so which packet None s h = h
  found_so which packet (Some finding) s h = keep.tells which packet (Found finding) s h

  pub within_so : (facts : Facts) (position : ℕ) (mappings : List ToldMapping) (s : StreamValue) → P s → P (within_each facts position mappings s)
  within_so facts position [] s h = h
  within_so facts position (mapping ∷ mappings) s h =
      within_so facts position mappings (within_one facts position mapping s) (found_so rule.Within facts.packet (within_found facts position mapping) s h)

  tried_if_so : (b : Bool) (packet first : ℕ) (octet : ℕ → Option Octet) (waiting : Waiting) (s : StreamValue) → P s
      → P (if b then tried_sum packet first octet waiting s else s)
  tried_if_so true packet first octet waiting s h =
      found_so rule.DssSum packet (sum_fault first octet waiting) (record s { sums = counted s.sums })
      (keep.counts s s.keys s.joins s.mappings (counted s.sums) s.data_acks h)
  tried_if_so false packet first octet waiting s h = h

  pub tried_so : (packet first : ℕ) (octet : ℕ → Option Octet) (waiting : List Waiting) (s : StreamValue) → P s → P (tried_sums packet first octet waiting s)
  tried_so packet first octet [] s h = h
  tried_so packet first octet (one ∷ waiting) s h =
      tried_so packet first octet waiting (tried_if_whole packet first octet one s) (tried_if_so (is_whole octet one) packet first octet one s h)

  failed_with_so : (b : Bool) (packet number : ℕ) (s : StreamValue) → P s → P (if b then s else tell rule.Fail packet (Found (NoMapping number)) s)
  failed_with_so true packet number s h = h
  failed_with_so false packet number s h = keep.tells rule.Fail packet (Found (NoMapping number)) s h

  failed_one_so : (packet first : ℕ) (peers : StreamValue) (option : OptionValue) (s : StreamValue) → P s → P (failed_one packet first peers option s)
  failed_one_so packet first peers (Fail number) s h = failed_with_so (peers.starts (named_place first number)) packet number s h
  failed_one_so packet first peers option s h = h

  pub failed_so : (packet first : ℕ) (peers : StreamValue) (options : List OptionValue) (s : StreamValue) → P s → P (failed_each packet first peers options s)
  failed_so packet first peers [] s h = h
  failed_so packet first peers (option ∷ options) s h =
      failed_so packet first peers options (failed_one packet first peers option s) (failed_one_so packet first peers option s h)

-- ---- what tells of positions

module _ {first : Option ℕ} {Q : StreamValue → LaneValue → Type 0} (keep : StepsKeep first Q) where
  abbrev Holds : Mapped → Type 0
  Holds state = Q state.stream state.lane

  finite_by_so : (fault : Option Broke) (teller : Teller) (offer : Offer) (position : ℤ) (place : ℕ) (state : Mapped)
      → finite_fault teller state.stream state.lane offer position place ≡ fault → Holds state
      → Holds (finite_by fault teller.packet (told_mapping offer position place) state)
  finite_by_so (Some broke) teller offer position place state e h =
      (keep.acks.telling state.lane).tells broke.rule teller.packet (Found broke.finding) state.stream h
  finite_by_so None teller offer position place state e h = keep.maps teller offer position place state.stream state.lane e h

  without_so : (teller : Teller) (offer : Offer) (s : StreamValue) (l : LaneValue) → Q s l
      → Q (tell rule.Mapping teller.packet (Found (NoPlace (told_number offer.number))) s) l
  without_so teller offer s l h = (keep.acks.telling l).tells rule.Mapping teller.packet (Found (NoPlace (told_number offer.number))) s h

  finite_at_so : (place : Option ℕ) (teller : Teller) (offer : Offer) (position : ℤ) (state : Mapped) → Holds state
      → Holds (finite_at place teller offer position state)
  finite_at_so None teller offer position state h = without_so teller offer state.stream state.lane h
  finite_at_so (Some place) teller offer position state h =
      finite_by_so (finite_fault teller state.stream state.lane offer position place) teller offer position place state refl h

  infinite_by_so : (fault : Option Finding) (teller : Teller) (position : ℤ) (place : ℕ) (state : Mapped) → Holds state
      → Holds (infinite_by fault teller position place state)
  infinite_by_so (Some finding) teller position place state h =
      (keep.acks.telling state.lane).tells rule.Infinite teller.packet (Found finding) state.stream h
  infinite_by_so None teller position place state h = keep.lines teller place (lowest_line state.lane.line position place) state.stream state.lane h

  infinite_at_so : (place : Option ℕ) (teller : Teller) (offer : Offer) (position : ℤ) (state : Mapped) → Holds state
      → Holds (infinite_at place teller offer position state)
  infinite_at_so None teller offer position state h = without_so teller offer state.stream state.lane h
  infinite_at_so (Some place) teller offer position state h =
      infinite_by_so (line_fault state.stream.infinite teller.flow state.lane.line position place) teller position place state h

  mapped_at_so : (teller : Teller) (offer : Offer) (position : ℤ) (state : Mapped) → Holds state → Holds (mapped_at teller offer position state)
  mapped_at_so teller offer position state h = by (offer.length == 0)
    where
      s : StreamValue
      s = state.stream

      by : (b : Bool) → Holds (if b then infinite_at (place_near teller.first s.top offer.number) teller offer position state
          else finite teller offer position state)
      by true = infinite_at_so (place_near teller.first s.top offer.number) teller offer position state h
      by false =
          finite_at_so (mapped_place teller.first s.top offer) teller offer position (one_more state)
          ((keep.acks.telling state.lane).counts s s.keys s.joins (counted s.mappings) s.sums s.data_acks h)

  mapped_one_so : (teller : Teller) (position : ℕ) (offer : Option Offer) (state : Mapped) → Holds state → Holds (mapped_one teller position offer state)
  mapped_one_so teller position None state h = h
  mapped_one_so teller position (Some offer) state h = mapped_at_so teller offer (position_near position offer.relative) state h

  pub mapped_each_so : (teller : Teller) (position : ℕ) (options : List OptionValue) (state : Mapped) → Holds state
      → Holds (mapped_each teller position options state)
  mapped_each_so teller position [] state h = h
  mapped_each_so teller position (option ∷ options) state h =
      mapped_each_so teller position options (mapped_one teller position (offer_of teller.first option) state)
      (mapped_one_so teller position (offer_of teller.first option) state h)

  pub mapped_so : (facts : Facts) (known : Option ℕ) (position : ℕ) (options : List OptionValue) (state : Mapped) → Holds state
      → Holds (mapped_with facts known position options state)
  mapped_so facts None position options state h = h
  mapped_so facts (Some known) position options state h = mapped_each_so (told_in facts known) position options state h

  pub taken_so : (facts : Facts) (position : ℕ) (s : StreamValue) (l : LaneValue) → Q s l → Q s (fin_taken facts position l)
  taken_so facts position s l h = by facts.seen.segment.head.fin
    where
      by : (b : Bool) → Q s (if b then with_fin (position + facts.seen.payload_len) l else l)
      by true = keep.ends (position + facts.seen.payload_len) s l h
      by false = h

  at_place_so : (acknowledged packet p : ℕ) (comes : Option (Option ℕ)) (place : Option ℕ) (s : StreamValue) (l : LaneValue) → place_of l p ≡ place → Q s l
      → Q (at_place acknowledged packet comes place s) l
  at_place_so acknowledged packet p None place s l e h = h
  at_place_so acknowledged packet p (Some octet) None s l e h = h
  at_place_so acknowledged packet p (Some octet) (Some place) s l e h = keep.shows acknowledged packet p place octet s l e h

  pub shown_so : (comes : ℕ → Option (Option ℕ)) (acknowledged packet p n : ℕ) (s : StreamValue) (l : LaneValue) → Q s l
      → Q (shown_from (place_of l) comes acknowledged packet p n s) l
  shown_so comes acknowledged packet p zero s l h = h
  shown_so comes acknowledged packet p (suc n) s l h =
      shown_so comes acknowledged packet (p + 1) n (at_place acknowledged packet (comes p) (place_of l p) s) l
      (at_place_so acknowledged packet p (comes p) (place_of l p) s l refl h)

  summed_by_so : (packet known : ℕ) (mapping : ToldMapping) (s : StreamValue) (l : LaneValue) → first ≡ Some known → Q s l → Q s (summed_by packet mapping l)
  summed_by_so packet known mapping s l is h = by (is_some mapping.checksum) refl
    where
      by : (b : Bool) → is_some mapping.checksum ≡ b → Q s (if b then with_sum packet mapping l else l)
      by true e = keep.sums packet known mapping s l is e h
      by false e = h

  with_sums_so : (packet known : ℕ) (mappings : List ToldMapping) (s : StreamValue) (l : LaneValue) → first ≡ Some known → Q s l → Q s (with_sums packet mappings l)
  with_sums_so packet known [] s l is h = h
  with_sums_so packet known (mapping ∷ mappings) s l is h =
      with_sums_so packet known mappings s (summed_by packet mapping l) is (summed_by_so packet known mapping s l is h)

  pub summed_so : (facts : Facts) (known : Option ℕ) (learnt : List ToldMapping) (acked : Acked) → first ≡ known → Q acked.stream acked.lane
      → Q (summed facts known learnt acked).stream (summed facts known learnt acked).lane
  summed_so facts None learnt acked e h = h
  summed_so facts (Some known) learnt acked e h =
      keep.tries facts.packet known acked.stream (with_sums facts.packet learnt acked.lane) e
      (with_sums_so facts.packet known learnt acked.stream acked.lane e h)

-- ---- Data ACKs

module _ {Q : StreamValue → LaneValue → Type 0} (keep : AcksKeep Q) where
  acked_by_so : (place : Result ℕ Finding) (packet : ℕ) (acked : Acked) → Q acked.stream acked.lane
      → Q (acked_by place packet acked).stream (acked_by place packet acked).lane
  acked_by_so (Err finding) packet acked h = (keep.telling acked.lane).tells rule.DataAck packet (Found finding) acked.stream h
  acked_by_so (Ok place) packet acked h = keep.acks place acked.stream acked.lane h

  acked_one_so : (facts : Facts) (known : ℕ) (peers : StreamValue) (option : OptionValue) (acked : Acked) → Q acked.stream acked.lane
      → Q (acked_one facts known peers option acked).stream (acked_one facts known peers option acked).lane
  acked_one_so facts known peers (Dss (Some number) mapping fin) acked h =
      let s = acked.stream in
      acked_by_so (ack_place (ack_facts facts.at_sender facts.plain known peers acked.lane) number) facts.packet (ack_counted acked)
      ((keep.telling acked.lane).counts s s.keys s.joins s.mappings s.sums (counted s.data_acks) h)
  acked_one_so facts known peers option acked h = h

  pub acked_so : (facts : Facts) (known : ℕ) (peers : StreamValue) (options : List OptionValue) (acked : Acked) → Q acked.stream acked.lane
      → Q (acked_each facts known peers options acked).stream (acked_each facts known peers options acked).lane
  acked_so facts known peers [] acked h = h
  acked_so facts known peers (option ∷ options) acked h =
      acked_so facts known peers options (acked_one facts known peers option acked) (acked_one_so facts known peers option acked h)

  pub acks_so : (facts : Facts) (known : Option ℕ) (peers : StreamValue) (options : List OptionValue) (acked : Acked) → Q acked.stream acked.lane
      → Q (behind_acks facts known peers options acked).stream (behind_acks facts known peers options acked).lane
  acks_so facts None peers options acked h = h
  acks_so facts (Some known) peers options acked h =
      let behind = acked_each facts known peers options acked in
      failed_so (keep.telling behind.lane) facts.packet known peers options behind.stream (acked_so facts known peers options acked h)
