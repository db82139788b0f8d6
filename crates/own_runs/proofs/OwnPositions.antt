-- The rules on positions and places tell none of the rules on options, nor that on payload outside of its mappings.
use Rattle.std.proofs.Common.{◌≡◌, refl, sym, ap, ◌∙◌, subst, ℕ, zero, suc, ◌+◌, ◌-◌, ◌%◌, ◌^◌, nat_le, ℤ, pos, ◌==◌, ◌&&◌, ◌||◌, ◌⊎◌, inl, inr, arith, Bool, true, false, if◌then◌else◌, Option, Some, None, Result, Ok, Err, List, [], ◌∷◌}
use Rattle.std.specs.Prelude.{All, IfSome, int_lt, ◌+ℤ◌}
use Rattle.std.specs.Int.{cast_signed, w32}
use Rattle.std.proofs.lemmas.Bool.{eq-eqb, le-leb}
use Rattle.std.proofs.lemmas.Int.{ints}
use Rattle.std.proofs.lemmas.List.Elements.{All-append, All-cons, All-head, All-nil, All-tail}
use Rattle.std.specs.Option.{option_or}
use Rattle.sides.specs.Side.{peer}
use Rattle.mptcp_options.specs.Value.{OptionValue, Dss, Fail}
use Rattle.judge_rules.specs.declared.finding.Finding.{Finding}
use Rattle.judge_rules.specs.declared.finding.Finding.TheVariants.{NoMapping, NoPlace, NoPosition, Outside}
use Rattle.judge_rules.specs.declared.finding.Rule.{Rule}
use Rattle.judge_rules.specs.declared.finding.Rule.TheVariants as rule
use Rattle.judge_rules.specs.declared.mappings.Offer.{Offer}
use Rattle.judge_rules.specs.Acks.{ack_place}
use Rattle.judge_rules.specs.Clashes.{first_clash}
use Rattle.judge_rules.specs.Mappings.{fin_fault, mapped_octets, mapped_place, natural, offer_of, position_near, within_fault}
use Rattle.judge_rules.specs.Numbers.{place_near, told_number}
use Rattle.seen_connections.specs.declared.connections.Keys.{Keys}
use Rattle.seen_octets.specs.declared.octet.Octet.{Octet}
use Rattle.seen_streams.specs.declared.told.Broke.{Broke}
use Rattle.seen_streams.specs.declared.told.Teller.{Teller}
use Rattle.seen_streams.specs.declared.told.ToldMapping.{ToldMapping}
use Rattle.seen_streams.specs.declared.told.Waiting.{Waiting}
use Rattle.seen_streams.specs.State.{BrokenValue, FaultValue, Found, LaneValue, StreamValue, counted, place_of, with_broken, with_found}
use Rattle.seen_streams.specs.Acks.{Acked, ack_counted, ack_facts, acked_by, ended_by_fin, named_place}
use Rattle.seen_streams.specs.Content.{as_part, at_place, comes, content_fault, shown_from, with_payload}
use Rattle.seen_streams.specs.Mapped.{Mapped, against_infinite, by_rule, finite, finite_at, finite_by, finite_fault, infinite_at, infinite_by, line_fault, mapped_at, octets_fault, one_more, placed_fault, told_mapping}
use Rattle.seen_streams.specs.Sums.{is_whole, sum_fault, tried_if_whole, tried_sums, with_sums}
use Rattle.rule_book.specs.Facts.{Facts, first_of, payload_at, payload_len}
use Rattle.rule_book.specs.Stream.{acked_each, acked_one, behind_acks, behind_payload, failed_each, failed_one, fin_taken, judged_at, mapped_each, mapped_one, mapped_with, summed, told_in, within_each, within_found, within_one}

-- the rules on options whose values are drawn, and that on payload and mappings of one segment
abbrev pub is_option : Rule → Bool
is_option rule.Form = true
is_option rule.Keys = true
is_option rule.Token = true
is_option rule.JoinHmac = true
is_option rule.AddressHmac = true
is_option rule.FastCloseKey = true
is_option rule.Within = true
is_option _ = false

-- ---- payload within its mappings

-- a mapping of octets stands at the segment's position, with the length of its payload
abbrev pub OfferFits : Facts → ℕ → Offer → Type 0
OfferFits facts position offer = (mapped_octets offer ≡ 0) ⊎ ((offer.relative % 2 ^ 32 ≡ position % 2 ^ 32) × (mapped_octets offer ≡ facts.seen.payload_len))

abbrev pub OptionFits : Facts → ℕ → OptionValue → Type 0
OptionFits facts position option = (first : ℕ) → IfSome (offer_of first option) (OfferFits facts position)

abbrev IsWithin : Facts → ℕ → ToldMapping → Type 0
IsWithin facts position mapping = within_found facts position mapping ≡ None

pub same_position : (position relative : ℕ) → relative % 2 ^ 32 ≡ position % 2 ^ 32 → position_near position relative ≡ pos position
same_position position relative same =
    ap (λ (n : ℕ). pos position +ℤ cast_signed w32 n) (let none : (relative + (2 ^ 32 - position % 2 ^ 32)) % 2 ^ 32 ≡ 0 = omega (arith, same) in none) ∙ omega (arith, ints)

same_span : (position len : ℕ) → within_fault position len position len ≡ None
same_span position len =
    ap (λ (b : Bool). if b && nat_le (position + len) (position + len) then None else Some (Outside position (position + len - 1) position (position + len - 1)))
    (le-leb position position (omega arith))
    ∙ ap (λ (b : Bool). if b then None else Some (Outside position (position + len - 1) position (position + len - 1))) (le-leb (position + len) (position + len) (omega arith))

either_none : (b : Bool) (o : Option Finding) → o ≡ None → (if b then None else o) ≡ None
either_none true o none = refl
either_none false o none = none

no_octets : (b : Bool) (n : ℕ) (o : Option Finding) → n ≡ 0 → (if b || n == 0 then None else o) ≡ None
no_octets true n o none = refl
no_octets false n o none = ap (λ (b : Bool). if b then None else o) (eq-eqb n 0 none)

offer_within : (facts : Facts) (position : ℕ) (offer : Offer) (place : ℕ) → OfferFits facts position offer
    → IsWithin facts position (told_mapping offer (position_near position offer.relative) place)
offer_within facts position offer place (inl none) = no_octets (payload_len facts == 0) (mapped_octets offer) _ none
offer_within facts position offer place (inr is) = by facts.seen.segment.head.rst
  where
    len : ℕ
    len = facts.seen.payload_len

    found : ℕ → ℤ → ℕ → Option Finding
    found n at octets = if n == 0 || octets == 0 then None else within_fault position n (natural at) octets

    by : (rst : Bool) → found (if rst then 0 else len) (position_near position offer.relative) (mapped_octets offer) ≡ None
    by true = refl
    by false =
        ap (λ (at : ℤ). found len at (mapped_octets offer)) (same_position position offer.relative is.0)
        ∙ ap (λ (n : ℕ). found len (pos position) n) is.1 ∙ either_none (len == 0 || len == 0) (within_fault position len position len) (same_span position len)

-- ---- of those that are learnt

module _ (facts : Facts) (position : ℕ) where
  abbrev Learnt : Mapped → Type 0
  Learnt state = All (IsWithin facts position) state.learnt

  finite_by_learnt : (fault : Option Broke) (packet : ℕ) (mapping : ToldMapping) (state : Mapped) → IsWithin facts position mapping → Learnt state
      → Learnt (finite_by fault packet mapping state)
  finite_by_learnt (Some broke) packet mapping state is h = h
  finite_by_learnt None packet mapping state is h =
      All-append (IsWithin facts position) state.learnt (mapping ∷ []) h (All-cons (IsWithin facts position) mapping [] is (All-nil (IsWithin facts position)))

  finite_at_learnt : (place : Option ℕ) (teller : Teller) (offer : Offer) (state : Mapped) → OfferFits facts position offer → Learnt state
      → Learnt (finite_at place teller offer (position_near position offer.relative) state)
  finite_at_learnt None teller offer state fit h = h
  finite_at_learnt (Some place) teller offer state fit h =
      finite_by_learnt (finite_fault teller state.stream state.lane offer (position_near position offer.relative) place) teller.packet
      (told_mapping offer (position_near position offer.relative) place) state (offer_within facts position offer place fit) h

  infinite_by_learnt : (fault : Option Finding) (teller : Teller) (at : ℤ) (place : ℕ) (state : Mapped) → Learnt state → Learnt (infinite_by fault teller at place state)
  infinite_by_learnt (Some finding) teller at place state h = h
  infinite_by_learnt None teller at place state h = h

  infinite_at_learnt : (place : Option ℕ) (teller : Teller) (offer : Offer) (at : ℤ) (state : Mapped) → Learnt state → Learnt (infinite_at place teller offer at state)
  infinite_at_learnt None teller offer at state h = h
  infinite_at_learnt (Some place) teller offer at state h = infinite_by_learnt (line_fault state.stream.infinite teller.flow state.lane.line at place) teller at place state h

  mapped_one_learnt : (teller : Teller) (offer : Option Offer) (state : Mapped) → IfSome offer (OfferFits facts position) → Learnt state
      → Learnt (mapped_one teller position offer state)
  mapped_one_learnt teller None state fit h = h
  mapped_one_learnt teller (Some offer) state fit h = by (offer.length == 0)
    where
      by : (b : Bool) → Learnt (if b then infinite_at (place_near teller.first state.stream.top offer.number) teller offer (position_near position offer.relative) state
          else finite teller offer (position_near position offer.relative) state)
      by true = infinite_at_learnt (place_near teller.first state.stream.top offer.number) teller offer (position_near position offer.relative) state h
      by false = finite_at_learnt (mapped_place teller.first state.stream.top offer) teller offer (one_more state) fit h

  mapped_each_learnt : (teller : Teller) (options : List OptionValue) (state : Mapped) → All (OptionFits facts position) options → Learnt state
      → Learnt (mapped_each teller position options state)
  mapped_each_learnt teller [] state fit h = h
  mapped_each_learnt teller (option ∷ options) state fit h =
      mapped_each_learnt teller options (mapped_one teller position (offer_of teller.first option) state) (All-tail (OptionFits facts position) option options fit)
      (mapped_one_learnt teller (offer_of teller.first option) state (All-head (OptionFits facts position) option options fit teller.first) h)

  mapped_learnt : (known : Option ℕ) (options : List OptionValue) (state : Mapped) → All (OptionFits facts position) options → Learnt state
      → Learnt (mapped_with facts known position options state)
  mapped_learnt None options state fit h = h
  mapped_learnt (Some known) options state fit h = mapped_each_learnt (told_in facts known) options state fit h

-- of a list of what was broken: all other rules that are told keep it
abbrev pub OthersKeep : (List BrokenValue → Type 0) → Type 0
OthersKeep H = (r : Rule) (packet : ℕ) (fault : FaultValue) (broken : List BrokenValue) → is_option r ≡ false → H broken
    → H (with_broken (record { rule = r; packet = packet; fault = fault }) broken)

-- ---- a mapping breaks no rule on options

abbrev IsOther : Broke → Type 0
IsOther b = is_option b.rule ≡ false

either_so : (o p : Option Broke) → IfSome o IsOther → IfSome p IsOther → IfSome (option_or o p) IsOther
either_so (Some b) p first next = first
either_so None p first next = next

by_so : (which : Rule) (o : Option Finding) → is_option which ≡ false → IfSome (by_rule which o) IsOther
by_so which None never = tt
by_so which (Some finding) never = never

octets_so : (teller : Teller) (s : StreamValue) (l : LaneValue) (offer : Offer) (position : ℤ) (place : ℕ) → IfSome (octets_fault teller s l offer position place) IsOther
octets_so teller s l offer position place = by (mapped_octets offer == 0) (int_lt position (pos 0))
  where
    placed : IfSome (placed_fault teller s l (natural position) place (mapped_octets offer)) IsOther
    placed =
        either_so (by_rule rule.Mapping (first_clash l.placed (natural position) place (mapped_octets offer)))
        (by_rule rule.Infinite (against_infinite s.infinite teller.flow s.top l.line (pos (natural position)) place (mapped_octets offer)))
        (by_so rule.Mapping _ refl) (by_so rule.Infinite _ refl)

    by : (none low : Bool) → IfSome (if none then None else (if low then Some (record { rule = rule.Mapping; finding = NoPosition offer.relative })
        else placed_fault teller s l (natural position) place (mapped_octets offer))) IsOther
    by true low = tt
    by false true = refl
    by false false = placed

fault_so : (teller : Teller) (s : StreamValue) (l : LaneValue) (offer : Offer) (position : ℤ) (place : ℕ) → IfSome (finite_fault teller s l offer position place) IsOther
fault_so teller s l offer position place =
    either_so (octets_fault teller s l offer position place) (by_rule rule.DataFin (fin_fault s.fin s.top (place + mapped_octets offer) offer.fin))
    (octets_so teller s l offer position place) (by_so rule.DataFin _ refl)

module _ {H : List BrokenValue → Type 0} (keep : OthersKeep H) where
  found_so : (which : Rule) (packet : ℕ) (finding : Option Finding) (broken : List BrokenValue) → is_option which ≡ false → H broken
      → H (with_found which packet finding broken)
  found_so which packet None broken never h = h
  found_so which packet (Some finding) broken never h = keep which packet (Found finding) broken never h

  -- ---- mappings

  finite_by_so : (fault : Option Broke) (packet : ℕ) (mapping : ToldMapping) (state : Mapped) → IfSome fault IsOther → H state.stream.broken
      → H (finite_by fault packet mapping state).stream.broken
  finite_by_so (Some broke) packet mapping state never h = keep broke.rule packet (Found broke.finding) state.stream.broken never h
  finite_by_so None packet mapping state never h = h

  finite_at_so : (place : Option ℕ) (teller : Teller) (offer : Offer) (position : ℤ) (state : Mapped) → H state.stream.broken
      → H (finite_at place teller offer position state).stream.broken
  finite_at_so None teller offer position state h = keep rule.Mapping teller.packet (Found (NoPlace (told_number offer.number))) state.stream.broken refl h
  finite_at_so (Some place) teller offer position state h =
      finite_by_so (finite_fault teller state.stream state.lane offer position place) teller.packet (told_mapping offer position place) state
      (fault_so teller state.stream state.lane offer position place) h

  infinite_by_so : (fault : Option Finding) (teller : Teller) (position : ℤ) (place : ℕ) (state : Mapped) → H state.stream.broken
      → H (infinite_by fault teller position place state).stream.broken
  infinite_by_so (Some finding) teller position place state h = keep rule.Infinite teller.packet (Found finding) state.stream.broken refl h
  infinite_by_so None teller position place state h = h

  infinite_at_so : (place : Option ℕ) (teller : Teller) (offer : Offer) (position : ℤ) (state : Mapped) → H state.stream.broken
      → H (infinite_at place teller offer position state).stream.broken
  infinite_at_so None teller offer position state h = keep rule.Mapping teller.packet (Found (NoPlace (told_number offer.number))) state.stream.broken refl h
  infinite_at_so (Some place) teller offer position state h =
      infinite_by_so (line_fault state.stream.infinite teller.flow state.lane.line position place) teller position place state h

  mapped_at_so : (teller : Teller) (offer : Offer) (position : ℤ) (state : Mapped) → H state.stream.broken → H (mapped_at teller offer position state).stream.broken
  mapped_at_so teller offer position state h = by (offer.length == 0)
    where
      by : (b : Bool) → H (if b then infinite_at (place_near teller.first state.stream.top offer.number) teller offer position state
          else finite teller offer position state).stream.broken
      by true = infinite_at_so (place_near teller.first state.stream.top offer.number) teller offer position state h
      by false = finite_at_so (mapped_place teller.first state.stream.top offer) teller offer position (one_more state) h

  mapped_one_so : (teller : Teller) (position : ℕ) (offer : Option Offer) (state : Mapped) → H state.stream.broken → H (mapped_one teller position offer state).stream.broken
  mapped_one_so teller position None state h = h
  mapped_one_so teller position (Some offer) state h = mapped_at_so teller offer (position_near position offer.relative) state h

  mapped_each_so : (teller : Teller) (position : ℕ) (options : List OptionValue) (state : Mapped) → H state.stream.broken
      → H (mapped_each teller position options state).stream.broken
  mapped_each_so teller position [] state h = h
  mapped_each_so teller position (option ∷ options) state h =
      mapped_each_so teller position options (mapped_one teller position (offer_of teller.first option) state)
      (mapped_one_so teller position (offer_of teller.first option) state h)

  mapped_so : (facts : Facts) (known : Option ℕ) (position : ℕ) (options : List OptionValue) (state : Mapped) → H state.stream.broken
      → H (mapped_with facts known position options state).stream.broken
  mapped_so facts None position options state h = h
  mapped_so facts (Some known) position options state h = mapped_each_so (told_in facts known) position options state h

  -- ---- payload

  within_so : (facts : Facts) (position : ℕ) (mappings : List ToldMapping) (s : StreamValue) → All (IsWithin facts position) mappings → H s.broken
      → H (within_each facts position mappings s).broken
  within_so facts position [] s each h = h
  within_so facts position (mapping ∷ mappings) s each h =
      within_so facts position mappings (within_one facts position mapping s) (All-tail (IsWithin facts position) mapping mappings each)
      (subst (λ (o : Option Finding). H (with_found rule.Within facts.packet o s.broken)) (sym (All-head (IsWithin facts position) mapping mappings each)) h)

  at_place_so : (acknowledged packet : ℕ) (comes : Option (Option ℕ)) (place : Option ℕ) (s : StreamValue) → H s.broken
      → H (at_place acknowledged packet comes place s).broken
  at_place_so acknowledged packet None place s h = h
  at_place_so acknowledged packet (Some octet) None s h = h
  at_place_so acknowledged packet (Some octet) (Some place) s h =
      found_so rule.PlaceContent packet (content_fault acknowledged s.octet place (as_part octet)) s.broken refl h

  shown_so : (place : ℕ → Option ℕ) (comes : ℕ → Option (Option ℕ)) (acknowledged packet p n : ℕ) (s : StreamValue) → H s.broken
      → H (shown_from place comes acknowledged packet p n s).broken
  shown_so place comes acknowledged packet p zero s h = h
  shown_so place comes acknowledged packet p (suc n) s h =
      shown_so place comes acknowledged packet (p + 1) n (at_place acknowledged packet (comes p) (place p) s)
      (at_place_so acknowledged packet (comes p) (place p) s h)

  tried_if_so : (b : Bool) (packet first : ℕ) (octet : ℕ → Option Octet) (waiting : Waiting) (s : StreamValue) → H s.broken
      → H (if b then (record s { sums = counted s.sums; broken = with_found rule.DssSum packet (sum_fault first octet waiting) s.broken }) else s).broken
  tried_if_so true packet first octet waiting s h = found_so rule.DssSum packet (sum_fault first octet waiting) s.broken refl h
  tried_if_so false packet first octet waiting s h = h

  tried_so : (packet first : ℕ) (octet : ℕ → Option Octet) (waiting : List Waiting) (s : StreamValue) → H s.broken → H (tried_sums packet first octet waiting s).broken
  tried_so packet first octet [] s h = h
  tried_so packet first octet (one ∷ waiting) s h =
      tried_so packet first octet waiting (tried_if_whole packet first octet one s) (tried_if_so (is_whole octet one) packet first octet one s h)

  summed_so : (facts : Facts) (known : Option ℕ) (learnt : List ToldMapping) (acked : Acked) → H acked.stream.broken → H (summed facts known learnt acked).stream.broken
  summed_so facts None learnt acked h = h
  summed_so facts (Some known) learnt acked h =
      let lane = with_sums facts.packet learnt acked.lane in tried_so facts.packet known lane.octet lane.waiting acked.stream h

  -- ---- Data ACKs and MP_FAIL

  acked_by_so : (place : Result ℕ Finding) (packet : ℕ) (acked : Acked) → H acked.stream.broken → H (acked_by place packet acked).stream.broken
  acked_by_so (Err finding) packet acked h = keep rule.DataAck packet (Found finding) acked.stream.broken refl h
  acked_by_so (Ok place) packet acked h = h

  acked_one_so : (facts : Facts) (known : ℕ) (peers : StreamValue) (option : OptionValue) (acked : Acked) → H acked.stream.broken
      → H (acked_one facts known peers option acked).stream.broken
  acked_one_so facts known peers (Dss (Some number) mapping fin) acked h =
      acked_by_so (ack_place (ack_facts facts.at_sender facts.plain known peers acked.lane) number) facts.packet (ack_counted acked) h
  acked_one_so facts known peers option acked h = h

  acked_so : (facts : Facts) (known : ℕ) (peers : StreamValue) (options : List OptionValue) (acked : Acked) → H acked.stream.broken
      → H (acked_each facts known peers options acked).stream.broken
  acked_so facts known peers [] acked h = h
  acked_so facts known peers (option ∷ options) acked h =
      acked_so facts known peers options (acked_one facts known peers option acked) (acked_one_so facts known peers option acked h)

  failed_if_so : (b : Bool) (packet number : ℕ) (s : StreamValue) → H s.broken
      → H (if b then s else record s { broken = with_broken (record { rule = rule.Fail; packet = packet; fault = Found (NoMapping number) }) s.broken }).broken
  failed_if_so true packet number s h = h
  failed_if_so false packet number s h = keep rule.Fail packet (Found (NoMapping number)) s.broken refl h

  failed_one_so : (packet first : ℕ) (peers : StreamValue) (option : OptionValue) (s : StreamValue) → H s.broken → H (failed_one packet first peers option s).broken
  failed_one_so packet first peers (Fail number) s h = failed_if_so (peers.starts (named_place first number)) packet number s h
  failed_one_so packet first peers option s h = h

  failed_so : (packet first : ℕ) (peers : StreamValue) (options : List OptionValue) (s : StreamValue) → H s.broken → H (failed_each packet first peers options s).broken
  failed_so packet first peers [] s h = h
  failed_so packet first peers (option ∷ options) s h =
      failed_so packet first peers options (failed_one packet first peers option s) (failed_one_so packet first peers option s h)

  acks_so : (facts : Facts) (known : Option ℕ) (peers : StreamValue) (options : List OptionValue) (acked : Acked) → H acked.stream.broken
      → H (behind_acks facts known peers options acked).stream.broken
  acks_so facts None peers options acked h = h
  acks_so facts (Some known) peers options acked h =
      failed_so facts.packet known peers options (acked_each facts known peers options acked).stream (acked_so facts known peers options acked h)

  -- ---- all of a segment

  payload_so : (facts : Facts) (position acknowledged : ℕ) (mapped : Mapped) → All (IsWithin facts position) mapped.learnt → H mapped.stream.broken
      → H (behind_payload facts position acknowledged mapped).stream.broken
  payload_so facts position acknowledged mapped each h =
      let payload = payload_at facts position in
      let lane = with_payload payload facts.packet mapped.lane in
      let s = within_each facts position mapped.learnt mapped.stream in
      shown_so (place_of lane) (comes payload mapped lane) acknowledged facts.packet 1 (lane.top - 1) (ended_by_fin mapped.lane facts.packet s)
      (within_so facts position mapped.learnt mapped.stream each h)

  pub at_so : (facts : Facts) (position : ℕ) (options : List OptionValue) (keys : Keys) (peers s : StreamValue) (l : LaneValue)
      → All (OptionFits facts position) options → H s.broken → H (judged_at facts position options keys peers s l).stream.broken
  at_so facts position options keys peers s l fit h =
      let first : Mapped = record { stream = s; lane = fin_taken facts position l; learnt = []; has_line = false } in
      let mapped = mapped_with facts (first_of facts.side keys) position options first in
      let paid = behind_payload facts position peers.acknowledged mapped in
      acks_so facts (first_of (peer facts.side) keys) peers options (summed facts (first_of facts.side keys) mapped.learnt paid)
      (summed_so facts (first_of facts.side keys) mapped.learnt paid
      (payload_so facts position peers.acknowledged mapped (mapped_learnt facts position (first_of facts.side keys) options first fit (All-nil (IsWithin facts position)))
      (mapped_so facts (first_of facts.side keys) position options first h)))
