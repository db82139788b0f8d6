-- Data ACKs of a segment, one after the other.
use Rattle.std.proofs.Common.{◌≡◌, refl, ap, ◌∙◌, sym, ℕ, ◌≤◌, Bool, true, false, ◌||◌, nat_lt, if◌then◌else◌, Option, Some, None, Result, Ok, Err, List, [], ◌∷◌, ◌++◌, arith, true≢false}
use Rattle.std.proofs.lemmas.Bool.Decides.{nat_tests}
use Rattle.std.proofs.lemmas.List.{append-nil, append_assoc}
use Rattle.std.proofs.lemmas.List.Folds.{list_any-append}
use Rattle.std.specs.List.{list_any}
use Rattle.sides.specs.declared.side.Side.{Side}
use Rattle.sides.specs.declared.side.Side.TheVariants.{A, B}
use Rattle.sides.specs.Side.{peer}
use Rattle.mptcp_options.specs.declared.capable.CapableKeys.{CapableKeys}
use Rattle.mptcp_options.specs.declared.capable.CapableKeys.TheVariants as told
use Rattle.mptcp_options.specs.declared.dss.DataNumber.{DataNumber}
use Rattle.mptcp_options.specs.declared.dss.DssMap.{DssMap}
use Rattle.mptcp_options.specs.Value.{OptionValue, Capable, Dss}
use Rattle.judge_rules.specs.declared.acks.AckFacts.{AckFacts}
use Rattle.judge_rules.specs.declared.finding.Finding.{Finding}
use Rattle.judge_rules.specs.declared.finding.Finding.TheVariants.{Falls, NotSeen}
use Rattle.judge_rules.specs.declared.finding.Rule.TheVariants as rule
use Rattle.judge_rules.specs.declared.finding.Verdict.{Verdict}
use Rattle.judge_rules.specs.declared.finding.Verdict.TheVariants as verdict
use Rattle.judge_rules.specs.Acks.{ack_by, ack_place, judged_ack, most_seen, not_below}
use Rattle.judge_rules.specs.Numbers.{place_near}
use Rattle.seen_connections.specs.declared.connections.Keys.{Keys}
use Rattle.seen_connections.specs.Connections.{key_of}
use Rattle.seen_connections.specs.SeenOptions.{SeenValue, Readable, Formless}
use Rattle.seen_streams.specs.State.{Found, StreamValue}
use Rattle.seen_streams.specs.Acks.{Acked, ack_counted, ack_facts, acked_by, acked_with}
use Rattle.rule_book.specs.Facts.{Facts}
use Rattle.rule_book.specs.Signals.{KeyedValue, judged_in, kept_option, keyed_by, keyed_each, keyed_one, keyed_seen, with_a}
use Rattle.rule_book.specs.Stream.{acked_each, acked_one, behind_acks, closes_fast, failed_each}
use Rattle.judge_laws.specs.Acknowledges.{WasSeen, shows_fast_close}
use Rattle.judge_laws.specs.GoesOn.{broke}
use Rattle.judge_laws.proofs.Going.{acked_each_goes, failed_each_goes}
use Rattle.judge_laws.proofs.Shown.{kept_before, told_there}

-- ---- one that keeps the rule

not_below_is : (highest : Option ℕ) (place r : ℕ) → not_below highest place ≡ Ok r → place ≡ r
not_below_is None place r h = cc
not_below_is (Some after) place r h = by (nat_lt place after) h
  where
    by : (b : Bool) → (if b then Err (Falls place after) else Ok place) ≡ Ok r → place ≡ r
    by true e = cc
    by false e = cc

ack_is : (facts : AckFacts) (place r : ℕ) → judged_ack facts place ≡ Ok r → (place ≡ r) × (place ≤ most_seen facts)
ack_is facts place r h = by (nat_lt (most_seen facts) place) refl h
  where
    by : (b : Bool) → nat_lt (most_seen facts) place ≡ b
        → (if b then Err (NotSeen place (most_seen facts)) else not_below facts.highest place) ≡ Ok r
        → (place ≡ r) × (place ≤ most_seen facts)
    by true e k = cc
    by false e k = (not_below_is facts.highest place r k, grind (arith, nat_tests, e))

ack_seen : (facts : AckFacts) (number : DataNumber) (near : Option ℕ) (r : ℕ) → ack_by facts number near ≡ Ok r
    → (place : ℕ) × (near ≡ Some place) × (place ≤ most_seen facts)
ack_seen facts number None r h = cc
ack_seen facts number (Some place) r h = (place, refl, (ack_is facts place r h).1)

kept_ok : (result : Result ℕ Finding) (packet : ℕ) (acked : Acked) → broke rule.DataAck (acked_by result packet acked).stream ≡ false
    → (r : ℕ) × (result ≡ Ok r)
kept_ok (Ok r) packet acked kept = (r, refl)
kept_ok (Err finding) packet acked kept =
    absurd (true≢false (sym (told_there (record { rule = rule.DataAck; packet = packet; fault = Found finding }) acked.stream.broken) ∙ kept))

seen_by : (facts : Facts) (first : ℕ) (peers : StreamValue) (number : DataNumber) (acked : Acked)
    → broke rule.DataAck (acked_with facts.at_sender facts.plain facts.packet first peers number acked).stream ≡ false → WasSeen peers facts.plain first number
seen_by facts first peers number acked kept =
    let ok = kept_ok (ack_place (ack_facts facts.at_sender facts.plain first peers acked.lane) number) facts.packet (ack_counted acked) kept in
    let is = ack_seen (ack_facts facts.at_sender facts.plain first peers acked.lane) number (place_near first peers.top number) ok.0 ok.1 in
    record { place = is.0; means = is.1; seen = is.2 }

each_seen : (facts : Facts) (first : ℕ) (peers : StreamValue) (number : DataNumber) (mapping : Option DssMap) (fin : Bool) (before after : List OptionValue) (acked : Acked)
    → broke rule.DataAck (acked_each facts first peers (before ++ Dss (Some number) mapping fin ∷ after) acked).stream ≡ false → WasSeen peers facts.plain first number
each_seen facts first peers number mapping fin [] after acked kept =
    let next = acked_with facts.at_sender facts.plain facts.packet first peers number acked in
    seen_by facts first peers number acked
    (kept_before next.stream (acked_each facts first peers after next).stream rule.DataAck (acked_each_goes facts first peers after next) kept)
each_seen facts first peers number mapping fin (option ∷ before) after acked kept =
    each_seen facts first peers number mapping fin before after (acked_one facts first peers option acked) kept

pub acks_seen : (facts : Facts) (first : ℕ) (peers : StreamValue) (number : DataNumber) (mapping : Option DssMap) (fin : Bool) (before after : List OptionValue) (acked : Acked)
    → broke rule.DataAck (behind_acks facts (Some first) peers (before ++ Dss (Some number) mapping fin ∷ after) acked).stream ≡ false → WasSeen peers facts.plain first number
acks_seen facts first peers number mapping fin before after acked kept =
    let options = before ++ Dss (Some number) mapping fin ∷ after in
    let all = acked_each facts first peers options acked in
    each_seen facts first peers number mapping fin before after acked
    (kept_before all.stream (failed_each facts.packet first peers options all.stream) rule.DataAck (failed_each_goes facts.packet first peers options all.stream) kept)

-- ---- options behind the rule `keys`

-- those that are kept stand behind those that were
by_more : (v : Verdict) (facts : Facts) (option : OptionValue) (keys : CapableKeys) (state : KeyedValue)
    → (more : List OptionValue) × ((keyed_by v facts option keys state).options ≡ state.options ++ more)
by_more verdict.PassedOver facts option keys state = ([], sym (append-nil state.options))
by_more verdict.Kept facts option keys state = (option ∷ [], refl)
by_more (verdict.Broke finding) facts option keys state = ([], sym (append-nil state.options))

one_more : (facts : Facts) (option : OptionValue) (state : KeyedValue) → (more : List OptionValue) × ((keyed_one facts option state).options ≡ state.options ++ more)
one_more facts (Capable flag_a flag_c keys) state = by_more (judged_in facts.flow.opening facts.side state.keys keys) facts (Capable flag_a flag_c keys) keys state
one_more facts option state = (option ∷ [], refl)

seen_more : (facts : Facts) (option : SeenValue) (state : KeyedValue) → (more : List OptionValue) × ((keyed_seen facts option state).options ≡ state.options ++ more)
seen_more facts (Readable option) state = one_more facts option state
seen_more facts (Formless octets) state = ([], sym (append-nil state.options))

each_more : (facts : Facts) (options : List SeenValue) (state : KeyedValue) → (more : List OptionValue) × ((keyed_each facts options state).options ≡ state.options ++ more)
each_more facts [] state = ([], sym (append-nil state.options))
each_more facts (option ∷ options) state =
    let one = seen_more facts option state in
    let rest = each_more facts options (keyed_seen facts option state) in
    (one.0 ++ rest.0, rest.1 ∙ ap (λ (xs : List OptionValue). xs ++ rest.0) one.1 ∙ append_assoc state.options one.0 rest.0)

pub option_stays : (facts : Facts) (before : List SeenValue) (ack : Option DataNumber) (mapping : Option DssMap) (fin : Bool) (after : List SeenValue) (state : KeyedValue)
    → (front : List OptionValue) × (back : List OptionValue)
    × ((keyed_each facts (before ++ Readable (Dss ack mapping fin) ∷ after) state).options ≡ front ++ Dss ack mapping fin ∷ back)
option_stays facts [] ack mapping fin after state =
    let option = Dss ack mapping fin in
    let rest = each_more facts after (kept_option option state) in
    (state.options, rest.0, rest.1 ∙ append_assoc state.options (option ∷ []) rest.0)
option_stays facts (one ∷ before) ack mapping fin after state = option_stays facts before ack mapping fin after (keyed_seen facts one state)

-- the other side's key stays
key_stays : (side : Side) (keys : CapableKeys) (known : Keys) → key_of (peer side) (with_a side keys known) ≡ key_of (peer side) known
key_stays A (told.Both sender receiver) known = refl
key_stays A (told.WithData sender receiver data_length checksum) known = refl
key_stays A keys known = refl
key_stays B keys known = refl

by_key : (v : Verdict) (facts : Facts) (option : OptionValue) (keys : CapableKeys) (state : KeyedValue)
    → key_of (peer facts.side) (keyed_by v facts option keys state).keys ≡ key_of (peer facts.side) state.keys
by_key verdict.PassedOver facts option keys state = refl
by_key verdict.Kept facts option keys state = key_stays facts.side keys state.keys
by_key (verdict.Broke finding) facts option keys state = refl

one_key : (facts : Facts) (option : OptionValue) (state : KeyedValue) → key_of (peer facts.side) (keyed_one facts option state).keys ≡ key_of (peer facts.side) state.keys
one_key facts (Capable flag_a flag_c keys) state = by_key (judged_in facts.flow.opening facts.side state.keys keys) facts (Capable flag_a flag_c keys) keys state
one_key facts option state = refl

seen_key : (facts : Facts) (option : SeenValue) (state : KeyedValue) → key_of (peer facts.side) (keyed_seen facts option state).keys ≡ key_of (peer facts.side) state.keys
seen_key facts (Readable option) state = one_key facts option state
seen_key facts (Formless octets) state = refl

pub each_key : (facts : Facts) (options : List SeenValue) (state : KeyedValue) → key_of (peer facts.side) (keyed_each facts options state).keys ≡ key_of (peer facts.side) state.keys
each_key facts [] state = refl
each_key facts (option ∷ options) state = each_key facts options (keyed_seen facts option state) ∙ seen_key facts option state

-- ---- an MP_FASTCLOSE stays

or_false : (b : Bool) → (b || false) ≡ b
or_false true = refl
or_false false = refl

or_again : (a b c : Bool) → ((a || b) || c) ≡ (a || (b || c))
or_again true b c = refl
or_again false b c = refl

by_fast : (v : Verdict) (facts : Facts) (flag_a flag_c : Bool) (keys : CapableKeys) (state : KeyedValue)
    → list_any closes_fast (keyed_by v facts (Capable flag_a flag_c keys) keys state).options ≡ list_any closes_fast state.options
by_fast verdict.PassedOver facts flag_a flag_c keys state = refl
by_fast verdict.Kept facts flag_a flag_c keys state =
    list_any-append closes_fast state.options (Capable flag_a flag_c keys ∷ []) ∙ or_false (list_any closes_fast state.options)
by_fast (verdict.Broke finding) facts flag_a flag_c keys state = refl

one_fast : (facts : Facts) (option : OptionValue) (state : KeyedValue)
    → list_any closes_fast (keyed_one facts option state).options ≡ (list_any closes_fast state.options || closes_fast option)
one_fast facts (Capable flag_a flag_c keys) state =
    by_fast (judged_in facts.flow.opening facts.side state.keys keys) facts flag_a flag_c keys state ∙ sym (or_false (list_any closes_fast state.options))
one_fast facts option state =
    list_any-append closes_fast state.options (option ∷ []) ∙ ap (λ (b : Bool). list_any closes_fast state.options || b) (or_false (closes_fast option))

seen_fast : (facts : Facts) (option : SeenValue) (state : KeyedValue)
    → list_any closes_fast (keyed_seen facts option state).options ≡ (list_any closes_fast state.options || shows_fast_close option)
seen_fast facts (Readable option) state = one_fast facts option state
seen_fast facts (Formless octets) state = sym (or_false (list_any closes_fast state.options))

pub each_fast : (facts : Facts) (options : List SeenValue) (state : KeyedValue)
    → list_any closes_fast (keyed_each facts options state).options ≡ (list_any closes_fast state.options || list_any shows_fast_close options)
each_fast facts [] state = sym (or_false (list_any closes_fast state.options))
each_fast facts (option ∷ options) state =
    each_fast facts options (keyed_seen facts option state)
    ∙ ap (λ (b : Bool). b || list_any shows_fast_close options) (seen_fast facts option state)
    ∙ or_again (list_any closes_fast state.options) (shows_fast_close option) (list_any shows_fast_close options)
