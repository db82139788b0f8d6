-- The packets of a capture, one after the other.
use Rattle.std.proofs.Common.{◌≡◌, refl, ap, ◌∙◌, sym, subst, ℕ, ◌+◌, ◌<◌, Bool, false, Option, Some, None, option_map, List, [], ◌∷◌, ◌++◌, length, get_or, arith}
use Rattle.sides.specs.declared.side.Side.{Side}
use Rattle.sides.specs.Side.{peer}
use Rattle.mptcp_options.specs.declared.dss.DataNumber.{DataNumber}
use Rattle.capture_reader.specs.Captured.{Captured}
use Rattle.capture_reader.specs.Seen.{Seen, segment_in_packet}
use Rattle.judge_rules.specs.declared.finding.Rule.TheVariants as rule
use Rattle.seen_streams.specs.State.{StreamValue}
use Rattle.rule_book.specs.Judged.{judged, nothing_judged}
use Rattle.rule_book.specs.Facts.{peers_lane}
use Rattle.rule_book.specs.State.{JudgedValue, stream_at}
use Rattle.capture_verdict.specs.Judging.{judged_if_seen, judged_packets}
use Rattle.capture_verdict.specs.Sent.{IsSent}
use Rattle.judge_laws.specs.Acknowledges.{WasSeen, plain_for}
use Rattle.judge_laws.specs.Brings.{IsOf}
use Rattle.judge_laws.specs.GoesOn.{GoesOn, StreamsGoOn, broke, stream_in}
use Rattle.judge_laws.specs.Behind.{judged_first}
use Rattle.judge_laws.specs.Laws.{IsAcknowledged, IsBrought, has_octet}
use Rattle.judge_laws.proofs.Books.{BooksGo, books_same, books_then, streams_go}
use Rattle.judge_laws.proofs.Brought.{segment_acks, segment_brought, some_same, stream_there}
use Rattle.judge_laws.proofs.Shown.{kept_before, known_later}
use Rattle.judge_laws.proofs.Steps.{books_go}

if_seen_goes : (at : Option Side) (check_sums : Bool) (state : JudgedValue) (n : ℕ) (seen : Option Seen)
    → BooksGo state.books (judged_if_seen at check_sums state n seen).books
if_seen_goes at check_sums state n None = books_same state.books
if_seen_goes at check_sums state n (Some seen) = books_go at check_sums state n seen

packets_go : (at : Option Side) (check_sums : Bool) (state : JudgedValue) (n : ℕ) (packets : List Captured)
    → BooksGo state.books (judged_packets at check_sums state n packets).books
packets_go at check_sums state n [] = books_same state.books
packets_go at check_sums state n (packet ∷ packets) =
    let next = judged_if_seen at check_sums state n (segment_in_packet packet) in
    books_then state.books next.books (judged_packets at check_sums next (n + 1) packets).books
    (if_seen_goes at check_sums state n (segment_in_packet packet)) (packets_go at check_sums next (n + 1) packets)

-- those behind others
parts : (at : Option Side) (check_sums : Bool) (state : JudgedValue) (n m : ℕ) (before after : List Captured) → m ≡ n + length before
    → judged_packets at check_sums state n (before ++ after) ≡ judged_packets at check_sums (judged_packets at check_sums state n before) m after
parts at check_sums state n m [] after e = ap (λ (x : ℕ). judged_packets at check_sums state x after) (let same : n ≡ m = omega (arith, e) in same)
parts at check_sums state n m (packet ∷ before) after e =
    parts at check_sums (judged_if_seen at check_sums state n (segment_in_packet packet)) (n + 1) m before after (omega (arith, e))

pub first_go : (at : Option Side) (check_sums : Bool) (before after : List Captured)
    → StreamsGoOn (judged_first at check_sums before) (judged_first at check_sums (before ++ after))
first_go at check_sums before after =
    let start = judged_first at check_sums before in
    streams_go start (judged_first at check_sums (before ++ after))
    (subst (λ (s : JudgedValue). BooksGo start.books s.books) (sym (parts at check_sums nothing_judged 1 (1 + length before) before after refl))
    (packets_go at check_sums start (1 + length before) after))

-- ---- a packet among others

module _ (at : Option Side) (check_sums : Bool) (packets : List Captured) (connection : ℕ) (side : Side) (before : List Captured) (packet : Captured)
    (after : List Captured) (seen : Seen) (among : packets ≡ before ++ packet ∷ after) (has_segment : segment_in_packet packet ≡ Some seen)
    (it : IsOf at check_sums (judged_first at check_sums before) (1 + length before) seen connection side) where
  abbrev start : JudgedValue
  start = judged_first at check_sums before

  abbrev next : JudgedValue
  next = judged at check_sums start (1 + length before) seen

  abbrev last : JudgedValue
  last = judged_packets at check_sums next (1 + length before + 1) after

  pub last_is : judged_first at check_sums packets ≡ last
  last_is =
      ap (judged_first at check_sums) among
      ∙ parts at check_sums nothing_judged 1 (1 + length before) before (packet ∷ after) refl
      ∙ ap (λ (s : Option Seen). judged_packets at check_sums (judged_if_seen at check_sums start (1 + length before) s) (1 + length before + 1) after) has_segment

  -- its side's stream behind it goes on to the end
  pub stream_behind : (stream : StreamValue) → stream_in (judged_first at check_sums packets) connection side ≡ Some stream
      → (s : StreamValue) × (stream_in next connection side ≡ Some s) × GoesOn s stream
  stream_behind stream there =
      let first = stream_there at check_sums start (1 + length before) seen connection side it in
      let later = streams_go next last (packets_go at check_sums next (1 + length before + 1) after) connection side first.0 first.1 in
      let same : later.0 ≡ stream = some_same later.0 stream (sym later.1 ∙ ap (λ (j : JudgedValue). stream_in j connection side) (sym last_is) ∙ there) in
      (first.0, first.1, subst (λ (s : StreamValue). GoesOn first.0 s) same later.2)

-- an octet that it brought is there at the end
pub brought_stays : (at : Option Side) (check_sums : Bool) (packets : List Captured) (connection : ℕ) (side : Side) (place octet : ℕ)
    → IsBrought at check_sums packets connection side place octet → (stream : StreamValue)
    → stream_in (judged_first at check_sums packets) connection side ≡ Some stream → broke rule.PlaceContent stream ≡ false → has_octet stream place octet
brought_stays at check_sums packets connection side place octet b stream there kept =
    let s = stream_behind at check_sums packets connection side b.before b.packet b.after b.seen b.among b.has_segment b.it stream there in
    known_later s.0 stream place octet s.2
    (segment_brought at check_sums (judged_first at check_sums b.before) (1 + length b.before) b.seen connection side b.it place octet s.0 s.1
    (kept_before s.0 stream rule.PlaceContent s.2 kept) b.brings)

-- what it acknowledged was seen
pub acked_was_seen : (at : Option Side) (check_sums : Bool) (packets : List Captured) (connection : ℕ) (side : Side) (number : DataNumber)
    (a : IsAcknowledged at check_sums packets connection side number) (stream : StreamValue)
    → stream_in (judged_first at check_sums packets) connection side ≡ Some stream → broke rule.DataAck stream ≡ false
    → WasSeen (stream_at (peer side) a.it.book) (plain_for a.it.keys.checksums a.seen a.it.flow.opening (stream_at (peer side) a.it.book) (peers_lane a.it.facts a.it.lanes)) a.acknowledges.first number
acked_was_seen at check_sums packets connection side number a stream there kept =
    let s = stream_behind at check_sums packets connection side a.before a.packet a.after a.seen a.among a.has_segment a.it stream there in
    segment_acks at check_sums (judged_first at check_sums a.before) (1 + length a.before) a.seen connection side a.it number s.0 s.1
    (kept_before s.0 stream rule.DataAck s.2 kept) a.acknowledges

pub written_has : (stream : StreamValue) (octets : List ℕ) (place octet : ℕ) → IsSent stream.octet octets → place < length octets
    → has_octet stream place octet → get_or octets place 0 ≡ octet
written_has stream octets place octet sent within has =
    let here : place ≡ 0 + place = omega arith in
    some_same (get_or octets place 0) octet
    (sym (sent.held place within) ∙ ap (λ (q : ℕ). option_map (λ o. o.octet) (stream.octet q)) (sym here) ∙ has)
