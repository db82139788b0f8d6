-- What a segment leaves at its position: its sender's stream goes on, and its octets come to their places.
use Rattle.std.proofs.Common.{◌≡◌, refl, ap, ◌∙◌, sym, subst, ℕ, ◌-◌, ◌<◌, ◌≤◌, Bool, true, false, ◌&&◌, ◌||◌, ◌==◌, nat_le, nat_lt, is_some, if◌then◌else◌, Option, Some, None, option_map, Result, Ok, Err, List, [], ◌∷◌, ◌++◌, arith, true≢false}
use Rattle.std.specs.List.{slice_get}
use Rattle.std.proofs.lemmas.Bool.Decides.{nat_tests}
use Rattle.sides.specs.Side.{peer}
use Rattle.mptcp_options.specs.declared.dss.DataNumber.{DataNumber}
use Rattle.mptcp_options.specs.declared.dss.DssMap.{DssMap}
use Rattle.mptcp_options.specs.Value.{OptionValue, Dss}
use Rattle.judge_rules.specs.declared.finding.Finding.{Finding}
use Rattle.judge_rules.specs.declared.finding.Rule.TheVariants as rule
use Rattle.judge_rules.specs.Acks.{ack_place}
use Rattle.seen_connections.specs.declared.connections.Keys.{Keys}
use Rattle.seen_streams.specs.declared.told.ToldMapping.{ToldMapping}
use Rattle.seen_streams.specs.State.{LaneValue, StreamValue, place_of}
use Rattle.seen_streams.specs.Acks.{Acked, ack_counted, ack_facts, acked_by, ended_by_fin}
use Rattle.seen_streams.specs.Content.{PayloadValue, comes, earlier, in_payload, is_between, with_payload}
use Rattle.seen_streams.specs.Mapped.{Mapped}
use Rattle.seen_streams.specs.Same.{same_mapping}
use Rattle.seen_streams.specs.Sums.{summed_by, with_sum, with_sums}
use Rattle.rule_book.specs.Facts.{Facts, first_of, payload_at}
use Rattle.rule_book.specs.Stream.{acked_each, acked_one, behind_acks, behind_payload, fin_taken, judged_at, mapped_each, mapped_with, summed, told_in, within_each}
use Rattle.judge_laws.specs.Acknowledges.{WasSeen}
use Rattle.judge_laws.specs.GoesOn.{GoesOn, broke}
use Rattle.judge_laws.specs.Tells.{IsMeant, KeepsMappings}
use Rattle.judge_laws.proofs.GoesOn.{goes_same}
use Rattle.judge_laws.proofs.Acknowledged.{acks_seen}
use Rattle.judge_laws.proofs.Folds.{AcksKeep, StepsKeep, acks_so, mapped_so, shown_so, summed_so, taken_so, within_so}
use Rattle.judge_laws.proofs.Going.{acking, steps}
use Rattle.judge_laws.proofs.Learnt.{each_learns, is_among, summed_has}
use Rattle.judge_laws.proofs.Shown.{kept_before, known_later, octet_shown}

and_first : (a b : Bool) → (a && b) ≡ true → a ≡ true
and_first true b h = refl
and_first false b h = h

and_second : (a b : Bool) → (a && b) ≡ true → b ≡ true
and_second true b h = h
and_second false b h = absurd (true≢false (sym h))

-- ---- positions keep their places behind sums and Data ACKs

once_places : (packet : ℕ) (mapping : ToldMapping) (lane : LaneValue) (p : ℕ) → place_of (with_sum packet mapping lane) p ≡ place_of lane p
once_places packet mapping lane p = by (lane.summed mapping)
  where
    by : (b : Bool) → place_of (if b then lane else record lane {
      summed = λ other. lane.summed other || same_mapping other mapping;
      waiting = lane.waiting ++ record { mapping = mapping; packet = packet } ∷ [];
    }) p ≡ place_of lane p
    by true = refl
    by false = refl

sum_places : (packet : ℕ) (mapping : ToldMapping) (lane : LaneValue) (p : ℕ) → place_of (summed_by packet mapping lane) p ≡ place_of lane p
sum_places packet mapping lane p = by (is_some mapping.checksum)
  where
    by : (b : Bool) → place_of (if b then with_sum packet mapping lane else lane) p ≡ place_of lane p
    by true = once_places packet mapping lane p
    by false = refl

sums_places : (packet : ℕ) (mappings : List ToldMapping) (lane : LaneValue) (p : ℕ) → place_of (with_sums packet mappings lane) p ≡ place_of lane p
sums_places packet [] lane p = refl
sums_places packet (mapping ∷ mappings) lane p =
    sums_places packet mappings (summed_by packet mapping lane) p ∙ sum_places packet mapping lane p

summed_places : (facts : Facts) (first : Option ℕ) (learnt : List ToldMapping) (acked : Acked) (p : ℕ)
    → place_of (summed facts first learnt acked).lane p ≡ place_of acked.lane p
summed_places facts None learnt acked p = refl
summed_places facts (Some first) learnt acked p = sums_places facts.packet learnt acked.lane p

acked_by_places : (place : Result ℕ Finding) (packet : ℕ) (acked : Acked) (p : ℕ) → place_of (acked_by place packet acked).lane p ≡ place_of acked.lane p
acked_by_places (Err finding) packet acked p = refl
acked_by_places (Ok place) packet acked p = refl

acked_one_places : (facts : Facts) (first : ℕ) (peers : StreamValue) (option : OptionValue) (acked : Acked) (p : ℕ)
    → place_of (acked_one facts first peers option acked).lane p ≡ place_of acked.lane p
acked_one_places facts first peers (Dss (Some number) mapping fin) acked p =
    acked_by_places (ack_place (ack_facts facts.at_sender facts.plain first peers acked.lane) number) facts.packet (ack_counted acked) p
acked_one_places facts first peers option acked p = refl

acked_places : (facts : Facts) (first : ℕ) (peers : StreamValue) (options : List OptionValue) (acked : Acked) (p : ℕ)
    → place_of (acked_each facts first peers options acked).lane p ≡ place_of acked.lane p
acked_places facts first peers [] acked p = refl
acked_places facts first peers (option ∷ options) acked p =
    acked_places facts first peers options (acked_one facts first peers option acked) p ∙ acked_one_places facts first peers option acked p

acks_places : (facts : Facts) (first : Option ℕ) (peers : StreamValue) (options : List OptionValue) (acked : Acked) (p : ℕ)
    → place_of (behind_acks facts first peers options acked).lane p ≡ place_of acked.lane p
acks_places facts None peers options acked p = refl
acks_places facts (Some first) peers options acked p = acked_places facts first peers options acked p

-- ---- a segment at a position

-- a mapping that was told stays
summing : (m : ToldMapping) → AcksKeep (λ (s : StreamValue) (l : LaneValue). l.summed m ≡ true)
summing m = record {
  telling = λ l. record { tells = λ rule packet fault s h. h; counts = λ s keys joins mappings sums data_acks h. h };
  acks = λ place s l h. h;
}

module _ (facts : Facts) (position : ℕ) (options : List OptionValue) (keys : Keys) (peers stream : StreamValue) (lane : LaneValue) where
  abbrev pub mapped : Mapped
  mapped = mapped_with facts (first_of facts.side keys) position options
      (record { stream = stream; lane = fin_taken facts position lane; learnt = []; has_line = false })

  abbrev ended : StreamValue
  ended = ended_by_fin mapped.lane facts.packet (within_each facts position mapped.learnt mapped.stream)

  abbrev payload : PayloadValue
  payload = payload_at facts position

  abbrev filled : LaneValue
  filled = with_payload payload facts.packet mapped.lane

  abbrev comings : ℕ → Option (Option ℕ)
  comings = comes payload (record mapped { stream = ended }) filled

  abbrev pub behind : Acked
  behind = behind_payload facts position peers.acknowledged mapped

  abbrev pub tried : Acked
  tried = summed facts (first_of facts.side keys) mapped.learnt behind

  abbrev last : Acked
  last = judged_at facts position options keys peers stream lane

  -- what each step of a rule keeps holds behind the payload, and behind the segment
  rest_so : {Q : StreamValue → LaneValue → Type 0} → StepsKeep (first_of facts.side keys) Q → Q mapped.stream mapped.lane → Q behind.stream behind.lane
  rest_so keep h =
      let within = within_each facts position mapped.learnt mapped.stream in
      let told = within_so (keep.acks.telling mapped.lane) facts position mapped.learnt mapped.stream h in
      let paid = keep.pays payload facts.packet ended mapped.lane (keep.fins facts.packet within mapped.lane told) in
      shown_so keep comings peers.acknowledged facts.packet 1 (filled.top - 1) ended filled paid

  pub tail_so : {Q : StreamValue → LaneValue → Type 0} → StepsKeep (first_of facts.side keys) Q → Q mapped.stream mapped.lane → Q last.stream last.lane
  tail_so keep h =
      acks_so keep.acks facts (first_of (peer facts.side) keys) peers options tried
      (summed_so keep facts (first_of facts.side keys) mapped.learnt behind refl (rest_so keep h))

  mapping_so : {Q : StreamValue → LaneValue → Type 0} → StepsKeep (first_of facts.side keys) Q → Q stream lane → Q mapped.stream mapped.lane
  mapping_so keep h =
      let start : Mapped = record { stream = stream; lane = fin_taken facts position lane; learnt = []; has_line = false } in
      mapped_so keep facts (first_of facts.side keys) position options start (taken_so keep facts position stream lane h)

  pub behind_so : {Q : StreamValue → LaneValue → Type 0} → StepsKeep (first_of facts.side keys) Q → Q stream lane → Q behind.stream behind.lane
  behind_so keep h = rest_so keep (mapping_so keep h)

  pub at_so : {Q : StreamValue → LaneValue → Type 0} → StepsKeep (first_of facts.side keys) Q → Q stream lane → Q last.stream last.lane
  at_so keep h = tail_so keep (mapping_so keep h)

  sums_go : GoesOn behind.stream last.stream
  sums_go =
      let first = first_of facts.side keys in
      acks_so (acking behind.stream) facts (first_of (peer facts.side) keys) peers options tried
      (summed_so (steps first behind.stream) facts first mapped.learnt behind refl (goes_same behind.stream))

  pub at_goes : GoesOn stream last.stream
  at_goes = at_so (steps (first_of facts.side keys) stream) (goes_same stream)

  last_places : (p : ℕ) → place_of last.lane p ≡ place_of filled p
  last_places p =
      acks_places facts (first_of (peer facts.side) keys) peers options tried p
      ∙ summed_places facts (first_of facts.side keys) mapped.learnt behind p

  pub at_shows : (p place octet : ℕ) → broke rule.PlaceContent last.stream ≡ false → is_between payload.from payload.to p ≡ true
      → slice_get payload.held (p - payload.from) ≡ Some octet → place_of last.lane p ≡ Some place → peers.acknowledged ≤ place
      → option_map (λ o. o.octet) (last.stream.octet place) ≡ Some octet
  at_shows p place octet kept within held placed few =
      known_later behind.stream last.stream place octet sums_go
      (octet_shown (place_of filled) comings peers.acknowledged facts.packet 1 (filled.top - 1) p place octet ended
      (omega (arith, begun)) (omega (arith, ends)) come (sym (last_places p) ∙ placed) few
      (kept_before behind.stream last.stream rule.PlaceContent sums_go kept))
    where
      begun : payload.from ≤ p
      begun = let lo : nat_le payload.from p ≡ true = and_first (nat_le payload.from p) (nat_lt p payload.to) within in grind (arith, nat_tests, lo)

      ends : p < payload.to
      ends = let hi : nat_lt p payload.to ≡ true = and_second (nat_le payload.from p) (nat_lt p payload.to) within in grind (arith, nat_tests, hi)

      come : comings p ≡ Some (Some octet)
      come =
          ap (λ b. if b then in_payload payload p else earlier mapped.learnt mapped.has_line filled p) within
          ∙ ap (λ (o : Option ℕ). Some o) held

  -- a Data ACK among the options
  pub at_acks : (first : ℕ) (number : DataNumber) (mapping : Option DssMap) (fin : Bool) (front back : List OptionValue)
      → first_of (peer facts.side) keys ≡ Some first → options ≡ front ++ Dss (Some number) mapping fin ∷ back → broke rule.DataAck last.stream ≡ false
      → WasSeen peers facts.plain first number
  at_acks first number mapping fin front back known among kept =
      acks_seen facts first peers number mapping fin front back tried
      (ap (broke rule.DataAck) (sym (ap (λ (f : Option ℕ). (behind_acks facts f peers options tried).stream) known
      ∙ ap (λ (os : List OptionValue). (behind_acks facts (Some first) peers os tried).stream) among)) ∙ kept)

  -- a mapping among the options
  pub at_tells : (first : ℕ) (ack : Option DataNumber) (mapping : DssMap) (fin : Bool) (front back : List OptionValue) → first_of facts.side keys ≡ Some first
      → options ≡ front ++ Dss ack (Some mapping) fin ∷ back → (mapping.length == 0) ≡ false → is_some mapping.checksum ≡ true → KeepsMappings last.stream
      → (m : ToldMapping) × IsMeant first position mapping fin m × (last.lane.summed m ≡ true)
  at_tells first ack mapping fin front back known among finite checksum kept =
      let start : Mapped = record { stream = stream; lane = fin_taken facts position lane; learnt = []; has_line = false } in
      let each = mapped_each (told_in facts first) position (front ++ Dss ack (Some mapping) fin ∷ back) start in
      let same : mapped ≡ each =
      ap (λ (f : Option ℕ). mapped_with facts f position options start) known ∙ ap (λ (os : List OptionValue). mapped_each (told_in facts first) position os start) among in
      let goes = tail_so (steps (first_of facts.side keys) mapped.stream) (goes_same mapped.stream) in
      let kept_then : KeepsMappings mapped.stream = record {
        mapping = kept_before mapped.stream last.stream rule.Mapping goes kept.mapping;
        infinite = kept_before mapped.stream last.stream rule.Infinite goes kept.infinite;
        data_fin = kept_before mapped.stream last.stream rule.DataFin goes kept.data_fin;
      } in
      let learnt = each_learns (told_in facts first) position front ack mapping fin back start finite
      (subst (λ (state : Mapped). KeepsMappings state.stream) same kept_then) in
      let among_them = subst (λ (state : Mapped). is_among learnt.0 state.learnt ≡ true) (sym same) learnt.2 in
      let summed_then = summed_has facts (first_of facts.side keys) first mapped.learnt behind learnt.0 known (ap is_some learnt.1.checksum ∙ checksum) among_them in
      (learnt.0, learnt.1, acks_so (summing learnt.0) facts (first_of (peer facts.side) keys) peers options tried summed_then)
