-- Where each mapping of a side's segments gives its positions the places that they have, each payload the octets of these places, and each checksum is
-- theirs, none of them breaks `mapping` or `dss-sum`, whatever else the segments tell: infinite mappings, failed checks, Data ACKs of what wasn't seen.
use Rattle.std.proofs.Common.{◌≡◌, refl, sym, ap, ◌∙◌, subst, ℕ, ℤ, zero, suc, ◌⊎◌, inl, inr, ◌+◌, ◌-◌, ◌%◌, ◌^◌, ◌<◌, ◌≤◌, ◌==◌, nat_le, nat_lt, ◌&&◌, ◌||◌, not, max, pos, Bool, true, false, if◌then◌else◌, Option, Some, None, is_some, Result, Ok, Err, List, [], ◌∷◌, ◌++◌, length, arith}
use Rattle.std.specs.Prelude.{All, IfSome, get_or, int_lt, option_and_then, unwrap_or}
use Rattle.std.specs.Int.{from_bool}
use Rattle.std.specs.Option.{option_or}
use Rattle.std.proofs.lemmas.Bool.{and_parts, eq-eqb, false≢true, le-ltb, leb-true, lt-ltb, ltb-true, ne_eqb}
use Rattle.std.proofs.lemmas.List.Elements.{All-append, All-cons, All-filter, All-head, All-nil, All-tail}
use Rattle.dss_checksum.specs.Checksum.{dss_checksum}
use Rattle.first_runs.specs.Runs.{Told, image_in, told_by}
use Rattle.judge_rules.specs.declared.finding.Finding.{Finding}
use Rattle.judge_rules.specs.declared.finding.Finding.TheVariants.{NoMapping, NoPosition, OtherPlace, WrongSum}
use Rattle.judge_rules.specs.declared.finding.Rule.{Rule}
use Rattle.judge_rules.specs.declared.finding.Rule.TheVariants as rule
use Rattle.judge_rules.specs.declared.mappings.Offer.{Offer}
use Rattle.judge_rules.specs.Acks.{ack_place}
use Rattle.judge_rules.specs.Clashes.{clash_by, first_clash}
use Rattle.judge_rules.specs.Mappings as mapping
use Rattle.judge_rules.specs.Mappings.{fin_fault, mapped_octets, mapped_place, natural, offer_of}
use Rattle.judge_rules.specs.Numbers.{place_near}
use Rattle.mptcp_options.specs.Value.{OptionValue, Dss, Fail}
use Rattle.rule_book.specs.Facts.{Facts, first_of, payload_at, payload_len}
use Rattle.rule_book.specs.Stream.{acked_each, acked_one, behind_acks, behind_payload, failed_each, failed_one, fin_taken, judged_at, mapped_each, mapped_one, mapped_with, summed, told_in, within_each, within_found, within_one}
use Rattle.seen_connections.specs.declared.connections.Keys.{Keys}
use Rattle.seen_octets.specs.Octets.{all_held, octet_by}
use Rattle.seen_octets.specs.declared.octet.Octet.{Octet}
use Rattle.seen_streams.specs.Acks.{Acked, ack_counted, ack_facts, acked_by, ended_by_fin, named_place}
use Rattle.seen_streams.specs.Content.{PayloadValue, as_part, at_place, comes, content_fault, shown_from, with_payload}
use Rattle.seen_streams.specs.Mapped as mapped
use Rattle.seen_streams.specs.Mapped.{Mapped, against_infinite, by_rule, finite, finite_at, finite_by, finite_fault, infinite_by, infinite_learnt, line_fault, mapped_at, octets_fault, octets_of, one_more, placed_fault, run_of, told_mapping, with_places}
use Rattle.seen_streams.specs.Positions.{with_fin}
use Rattle.seen_streams.specs.Same.{same_mapping}
use Rattle.seen_streams.specs.State.{FaultValue, Found, LaneValue, StreamValue, counted, place_of, with_broken, with_found}
use Rattle.seen_streams.specs.Sums.{expected_sum, header_of, held_octets, is_whole, octet_or_0, still_waiting, sum_fault, summed_by, tried_if_whole, tried_sum, tried_sums, with_sums}
use Rattle.seen_streams.specs.declared.told.Broke.{Broke}
use Rattle.seen_streams.specs.declared.told.Teller.{Teller}
use Rattle.seen_streams.specs.declared.told.ToldMapping.{ToldMapping}
use Rattle.seen_streams.specs.declared.told.Waiting.{Waiting}
use Rattle.sides.specs.Side.{peer}
use Rattle.own_runs.proofs.FinePositions.{EndsAt, NumberIs, TellsNoFail, near_so}
use Rattle.own_runs.proofs.MapPositions.{Bears, OfferIs, Sit, contents, contents_none, header, relative_so}
use Rattle.own_runs.proofs.OwnPositions.{same_position}
use Rattle.own_runs.proofs.PayloadHeld.{part_is}
use Rattle.own_runs.proofs.Telling.{Untold, others_keep}

-- and that on MP_FAIL, where none is told
abbrev pub is_place : Bool → Rule → Bool
is_place calm rule.Mapping = true
is_place calm rule.DssSum = true
is_place calm rule.Fail = calm
is_place calm _ = false

-- an infinite mapping
pub record InfiniteIs (first : ℕ) (offer : Offer) : Type 0 where
  pub place : ℕ
  pub number : NumberIs first offer.number place
  pub small : place < 2 ^ 31
  pub none : offer.length ≡ 0

-- an option tells a finite mapping, in a segment at this position, or an infinite one, or none
abbrev pub OptionTells : ℕ → ℕ → (ℕ → ℕ) → (ℕ → ℕ) → ℕ → OptionValue → Type 0
OptionTells first limit content where_at position option = IfSome (offer_of first option) (λ offer. OfferIs first limit content where_at position offer ⊎ InfiniteIs first offer)

-- nothing is mapped beyond the end of a stream of so many octets, and the rules weren't broken
pub record StreamPlaced (calm : Bool) (limit : ℕ) (s : StreamValue) : Type 0 where
  pub top : s.top ≤ limit
  pub untold : Untold (is_place calm) s.broken

-- `content` is the octet of each place
module _ (calm : Bool) (limit : ℕ) (few : limit < 2 ^ 31) (content : ℕ → ℕ) where
  tell_so : (r : Rule) (packet : ℕ) (fault : FaultValue) (s : StreamValue) → is_place calm r ≡ false → StreamPlaced calm limit s
      → StreamPlaced calm limit (record s { broken = with_broken (record { rule = r; packet = packet; fault = fault }) s.broken })
  tell_so r packet fault s other h = record { top = h.top; untold = others_keep (is_place calm) r packet fault s.broken other h.untold }

  found_so : (r : Rule) (packet : ℕ) (finding : Option Finding) (s : StreamValue) → is_place calm r ≡ false → StreamPlaced calm limit s
      → StreamPlaced calm limit (record s { broken = with_found r packet finding s.broken })
  found_so r packet None s other h = record { top = h.top; untold = h.untold }
  found_so r packet (Some finding) s other h = tell_so r packet (Found finding) s other h

  -- where the positions of a lane have these places, and place 0 this number
  module _ (first : ℕ) (where_at : ℕ → ℕ) where
    abbrev pub at : ℕ → ℕ
    at p = content (where_at p)

    abbrev sum_of : ToldMapping → ℕ
    sum_of m = dss_checksum (header_of first m) (contents at (natural m.position) (octets_of m))

    abbrev IsSummed : ToldMapping → Type 0
    IsSummed m = IfSome m.checksum (λ sum. sum ≡ sum_of m)

    abbrev pub IsWaiting : Waiting → Type 0
    IsWaiting w = unwrap_or w.mapping.checksum 0 ≡ sum_of w.mapping

    abbrev AreAt : (ℕ → Option Octet) → Type 0
    AreAt octet = (p : ℕ) → IfSome (octet p) (λ o. o.octet ≡ at p)

    -- each position has its place and its octet, and the mappings that wait for their octets have their checksums
    pub record LanePlaced (l : LaneValue) : Type 0 where
      pub placed : (p : ℕ) → IfSome (l.placed p) (λ told. told.image ≡ where_at p)
      pub octets : AreAt l.octet
      pub waiting : All IsWaiting l.waiting

    abbrev pub Placed : StreamValue → LaneValue → Type 0
    Placed s l = StreamPlaced calm limit s × LanePlaced l

    abbrev pub Holds : Mapped → Type 0
    Holds x = Placed x.stream x.lane × All IsSummed x.learnt

    -- ---- a finite mapping

    -- another rule may be broken
    abbrev Other : Option Broke → Type 0
    Other o = IfSome o (λ broke. is_place calm broke.rule ≡ false)

    clash_none : (told : Option Told) (position place : ℕ) → IfSome told (λ t. t.image ≡ place) → clash_by told position place ≡ None
    clash_none None position place is = refl
    clash_none (Some told) position place is =
        ap (λ (b : Bool). if b then None else Some (OtherPlace position told.image told.teller place)) (eq-eqb told.image place is)

    first_none : (l : LaneValue) → LanePlaced l → (position place octets : ℕ) → Sit where_at position place octets → first_clash l.placed position place octets ≡ None
    first_none l h position place zero sit = refl
    first_none l h position place (suc octets) sit =
        ap (λ (o : Option Finding). option_or o (first_clash l.placed (position + 1) (place + 1) octets))
        (clash_none (l.placed position) position place (told_at (l.placed position) (h.placed position)))
        ∙ first_none l h (position + 1) (place + 1) octets
        (λ j below. let at = sit (suc j) (omega (arith, below)) in ap where_at (omega arith) ∙ at ∙ omega arith)
      where
        told_at : (o : Option Told) → IfSome o (λ told. told.image ≡ where_at position) → IfSome o (λ told. told.image ≡ place)
        told_at None is = tt
        told_at (Some told) is = is ∙ (let at = sit 0 (omega arith) in ap where_at (omega arith) ∙ at ∙ omega arith)

    -- no position is below 0
    natural_so : (n : ℕ) → int_lt (pos n) (pos 0) ≡ false
    natural_so n = le-ltb n 0 (omega arith)

    -- a mapping that sits there, or has no octets
    abbrev Sits : ℕ → ℤ → ℕ → Type 0
    Sits octets position place = (octets ≡ 0) ⊎ ((p : ℕ) × (position ≡ pos p) × Sit where_at p place octets)

    infinite_other : (o : Option Finding) → Other (by_rule rule.Infinite o)
    infinite_other None = tt
    infinite_other (Some finding) = refl

    fault_so : (teller : Teller) (s : StreamValue) (l : LaneValue) → LanePlaced l → (offer : Offer) (position : ℤ) (place : ℕ) → Sits (mapped_octets offer) position place
        → Other (finite_fault teller s l offer position place)
    fault_so teller s l h offer position place sits = by (octets_fault teller s l offer position place) (octets_so sits) (fin_fault s.fin s.top (place + mapped_octets offer) offer.fin)
      where
        by : (o : Option Broke) → Other o → (fin : Option Finding) → Other (option_or o (by_rule rule.DataFin fin))
        by (Some broke) is fin = is
        by None is None = tt
        by None is (Some finding) = refl

        placed : (p : ℕ) → Sit where_at p place (mapped_octets offer) → Other (placed_fault teller s l p place (mapped_octets offer))
        placed p sit =
            subst (λ (o : Option Finding). Other (option_or (by_rule rule.Mapping o) (by_rule rule.Infinite (against_infinite s.infinite teller.flow s.top l.line (pos p) place (mapped_octets offer)))))
            (sym (first_none l h p place (mapped_octets offer) sit)) (infinite_other (against_infinite s.infinite teller.flow s.top l.line (pos p) place (mapped_octets offer)))

        low : Broke
        low = record { rule = rule.Mapping; finding = NoPosition offer.relative }

        octets_so : Sits (mapped_octets offer) position place → Other (octets_fault teller s l offer position place)
        octets_so (inl none) =
            subst (λ (b : Bool). Other (if b then None else (if int_lt position (pos 0) then Some low else placed_fault teller s l (natural position) place (mapped_octets offer))))
            (sym (eq-eqb (mapped_octets offer) 0 none)) tt
        octets_so (inr sit) = subst (λ (x : ℤ). Other (octets_fault teller s l offer x place)) (sym sit.1) (some (mapped_octets offer == 0))
          where
            some : (b : Bool) → Other (if b then None else (if int_lt (pos sit.0) (pos 0) then Some low else placed_fault teller s l sit.0 place (mapped_octets offer)))
            some true = tt
            some false =
                subst (λ (b : Bool). Other (if b then Some low else placed_fault teller s l sit.0 place (mapped_octets offer))) (sym (natural_so sit.0)) (placed sit.0 sit.2)

    -- the places that are learnt
    places_so : (l : LaneValue) (packet : ℕ) (m : ToldMapping) → Sits (octets_of m) m.position m.place → LanePlaced l → LanePlaced (with_places (run_of packet m) l)
    places_so l packet m sits h = record { placed = λ p. either p (l.placed p) (h.placed p) (told_by (run_of packet m) p) (told p); octets = h.octets; waiting = h.waiting }
      where
        Is : ℕ → Told → Type 0
        Is = λ p t. t.image ≡ where_at p

        either : (p : ℕ) (one : Option Told) → IfSome one (Is p) → (other : Option Told) → IfSome other (Is p) → IfSome (option_or one other) (Is p)
        either p (Some one) is other more = is
        either p None is other more = more

        within : (p from : ℕ) → natural m.position ≡ from → from ≤ p → p < from + octets_of m → m.place + (p - natural m.position) ≡ where_at p
        within p from same low high = by sits
          where
            by : Sits (octets_of m) m.position m.place → m.place + (p - natural m.position) ≡ where_at p
            by (inl none) = absurd (omega (arith, none, low, high))
            by (inr sit) =
                let start : natural m.position ≡ sit.0 = ap natural sit.1 in
                let at = sit.2 (p - from) (omega (arith, low, high)) in
                sym (ap where_at (let same_start : p ≡ sit.0 + (p - from) = omega (arith, same, start, low) in same_start) ∙ at ∙ omega (arith, same))

        told : (p : ℕ) → IfSome (told_by (run_of packet m) p) (Is p)
        told p = by (nat_le (natural m.position) p) (nat_lt p (natural m.position + octets_of m)) refl refl
          where
            by : (low high : Bool) → nat_le (natural m.position) p ≡ low → nat_lt p (natural m.position + octets_of m) ≡ high
                → IfSome (if low && high then Some (image_in (run_of packet m) p) else None) (Is p)
            by true true is less = within p (natural m.position) refl (leb-true (natural m.position) p is) (ltb-true p (natural m.position + octets_of m) less)
            by true false is less = tt
            by false high is less = tt

    finite_by_so : (fault : Option Broke) → Other fault → (packet : ℕ) (m : ToldMapping) (state : Mapped) → m.place + octets_of m ≤ limit → Sits (octets_of m) m.position m.place → IsSummed m
        → Holds state → Holds (finite_by fault packet m state)
    finite_by_so (Some broke) other packet m state upto sits summed h = ((tell_so broke.rule packet (Found broke.finding) state.stream other h.0.0, h.0.1), h.1)
    finite_by_so None other packet m state upto sits summed h = (
      (record { top = (let top = h.0.0.top in omega (arith, top, upto)); untold = h.0.0.untold }, places_so state.lane packet m sits h.0.1),
      All-append IsSummed state.learnt (m ∷ []) h.1 (All-cons IsSummed m [] summed (All-nil IsSummed)),
    )

    ends_so : (offer : Offer) (place : ℕ) → EndsAt limit offer.fin place offer.length → place + mapped_octets offer ≤ limit
    ends_so offer place = by offer.fin
      where
        by : (fin : Bool) → EndsAt limit fin place offer.length → place + (offer.length - from_bool fin) ≤ limit
        by true is = omega (arith, is)
        by false is = omega (arith, is)

    -- its place, where no more was mapped
    pub mapped_place_is : (teller : Teller) → teller.first ≡ first → (near : ℕ) (offer : Offer) (top : ℕ) (o : OfferIs first limit content where_at near offer) → top ≤ limit
        → mapped_place teller.first top offer ≡ Some o.place
    mapped_place_is teller is near offer top o low =
        let within = ends_so offer o.place o.ends in
        ap (option_and_then (λ place. if nat_lt (place + mapped_octets offer) (2 ^ 62) then Some place else None))
        (ap (λ (n : ℕ). place_near n top offer.number) is ∙ near_so first top o.place offer.number o.number (omega (arith, low, few)) (omega (arith, within, few)))
        ∙ ap (λ (b : Bool). if b then Some o.place else None) (lt-ltb (o.place + mapped_octets offer) (2 ^ 62) (omega (arith, within, few)))

    finite_so : (teller : Teller) → teller.first ≡ first → (near : ℕ) (offer : Offer) (state : Mapped) → OfferIs first limit content where_at near offer → Holds state
        → Holds (finite teller offer (mapping.position_near near offer.relative) state)
    finite_so teller is near offer state o h =
        let position = mapping.position_near near offer.relative in
        let more = one_more state in
        let held : Holds more = ((record { top = h.0.0.top; untold = h.0.0.untold }, h.0.1), h.1) in
        subst (λ (p : Option ℕ). Holds (finite_at p teller offer position more)) (sym place_is)
        (finite_by_so (finite_fault teller more.stream more.lane offer position o.place) (fault_so teller more.stream more.lane h.0.1 offer position o.place (sits o.sits))
        teller.packet (told_mapping offer position o.place) more upto (sits o.sits) (summed offer.checksum o.sum) held)
      where
        upto : o.place + mapped_octets offer ≤ limit
        upto = ends_so offer o.place o.ends

        sits : (mapped_octets offer ≡ 0) ⊎ ((offer.relative % 2 ^ 32 ≡ near % 2 ^ 32) × Sit where_at near o.place (mapped_octets offer))
            → Sits (mapped_octets offer) (mapping.position_near near offer.relative) o.place
        sits (inl none) = inl none
        sits (inr both) = inr (near, same_position near offer.relative both.0, both.1)

        octets_same : (mapped_octets offer ≡ 0) ⊎ ((offer.relative % 2 ^ 32 ≡ near % 2 ^ 32) × Sit where_at near o.place (mapped_octets offer))
            → contents at near (mapped_octets offer) ≡ contents at (natural (mapping.position_near near offer.relative)) (mapped_octets offer)
        octets_same (inl none) = contents_none at (mapped_octets offer) near (natural (mapping.position_near near offer.relative)) none
        octets_same (inr both) = ap (λ (z : ℤ). contents at (natural z) (mapped_octets offer)) (sym (same_position near offer.relative both.0))

        summed : (sum : Option ℕ) → IfSome sum (λ x. x ≡ dss_checksum (header first o.place offer.relative offer.length) (contents at near (mapped_octets offer)))
            → IfSome sum (λ x. x ≡ sum_of (told_mapping offer (mapping.position_near near offer.relative) o.place))
        summed None right = tt
        summed (Some sum) right =
            right ∙ ap (λ (octets : List ℕ). dss_checksum (header first o.place offer.relative offer.length) octets) (octets_same o.sits)
            ∙ ap (λ (r : ℕ). dss_checksum (header first o.place r offer.length) (contents at (natural (mapping.position_near near offer.relative)) (mapped_octets offer)))
            (sym (relative_so near offer.relative o.low))

        place_is : mapped_place teller.first state.stream.top offer ≡ Some o.place
        place_is = mapped_place_is teller is near offer state.stream.top o h.0.0.top

    -- an infinite one changes neither the end of what is mapped nor what a position's mapping gave it
    infinite_so : (teller : Teller) → teller.first ≡ first → (position : ℤ) (offer : Offer) (state : Mapped) → InfiniteIs first offer → Holds state
        → Holds (mapped.infinite_at (place_near teller.first state.stream.top offer.number) teller offer position state)
    infinite_so teller is position offer state o h =
        subst (λ (p : Option ℕ). Holds (mapped.infinite_at p teller offer position state)) (sym place_is)
        (by (line_fault state.stream.infinite teller.flow state.lane.line position o.place))
      where
        place_is : place_near teller.first state.stream.top offer.number ≡ Some o.place
        place_is =
            let top = h.0.0.top in
            ap (λ (n : ℕ). place_near n state.stream.top offer.number) is ∙ near_so first state.stream.top o.place offer.number o.number (omega (arith, top, few)) o.small

        lined : LanePlaced state.lane → LanePlaced (infinite_learnt teller position o.place state).lane
        lined l = record { placed = l.placed; octets = l.octets; waiting = l.waiting }

        by : (fault : Option Finding) → Holds (infinite_by fault teller position o.place state)
        by (Some finding) = ((tell_so rule.Infinite teller.packet (Found finding) state.stream refl h.0.0, h.0.1), h.1)
        by None = ((record { top = h.0.0.top; untold = h.0.0.untold }, lined h.0.1), h.1)

    pub one_so : (teller : Teller) → teller.first ≡ first → (near : ℕ) (offer : Offer) (state : Mapped) → OfferIs first limit content where_at near offer ⊎ InfiniteIs first offer → Holds state
        → Holds (mapped_at teller offer (mapping.position_near near offer.relative) state)
    one_so teller is near offer state (inl o) h =
        let position = mapping.position_near near offer.relative in
        subst (λ (b : Bool). Holds (if b then mapped.infinite_at (place_near teller.first state.stream.top offer.number) teller offer position state else finite teller offer position state))
        (sym (ne_eqb offer.length 0 (λ none. let some = o.some in omega (arith, some, none)))) (finite_so teller is near offer state o h)
    one_so teller is near offer state (inr o) h =
        let position = mapping.position_near near offer.relative in
        subst (λ (b : Bool). Holds (if b then mapped.infinite_at (place_near teller.first state.stream.top offer.number) teller offer position state else finite teller offer position state))
        (sym (eq-eqb offer.length 0 o.none)) (infinite_so teller is position offer state o h)

    offer_so : (teller : Teller) → teller.first ≡ first → (near : ℕ) (offer : Option Offer) (state : Mapped) → IfSome offer (λ o. OfferIs first limit content where_at near o ⊎ InfiniteIs first o)
        → Holds state → Holds (mapped_one teller near offer state)
    offer_so teller is near None state o h = h
    offer_so teller is near (Some offer) state o h = one_so teller is near offer state o h

    offers_so : (teller : Teller) → teller.first ≡ first → (near : ℕ) (options : List OptionValue) (state : Mapped) → All (OptionTells first limit content where_at near) options → Holds state
        → Holds (mapped_each teller near options state)
    offers_so teller is near [] state all h = h
    offers_so teller is near (option ∷ options) state all h =
        offers_so teller is near options (mapped_one teller near (offer_of teller.first option) state) (All-tail (OptionTells first limit content where_at near) option options all)
        (offer_so teller is near (offer_of teller.first option) state
        (subst (λ (n : ℕ). IfSome (offer_of n option) (λ o. OfferIs first limit content where_at near o ⊎ InfiniteIs first o)) (sym is) (All-head (OptionTells first limit content where_at near) option options all)) h)

    mapped_so : (facts : Facts) (known : Option ℕ) → IfSome known (λ n. n ≡ first) → (near : ℕ) (options : List OptionValue) (state : Mapped)
        → All (OptionTells first limit content where_at near) options → Holds state → Holds (mapped_with facts known near options state)
    mapped_so facts None is near options state all h = h
    mapped_so facts (Some known) is near options state all h = offers_so (told_in facts known) is near options state all h

    -- ---- payload, checksums, Data ACKs and MP_FAIL

    within_so : (facts : Facts) (position : ℕ) (mappings : List ToldMapping) (s : StreamValue) → StreamPlaced calm limit s → StreamPlaced calm limit (within_each facts position mappings s)
    within_so facts position [] s h = h
    within_so facts position (m ∷ mappings) s h =
        within_so facts position mappings (within_one facts position m s) (found_so rule.Within facts.packet (within_found facts position m) s refl h)

    place_so : (acknowledged packet : ℕ) (come : Option (Option ℕ)) (place : Option ℕ) (s : StreamValue) → StreamPlaced calm limit s → StreamPlaced calm limit (at_place acknowledged packet come place s)
    place_so acknowledged packet None place s h = h
    place_so acknowledged packet (Some octet) None s h = h
    place_so acknowledged packet (Some octet) (Some place) s h =
        let it = found_so rule.PlaceContent packet (content_fault acknowledged s.octet place (as_part octet)) s refl h in record { top = it.top; untold = it.untold }

    shown_so : (place : ℕ → Option ℕ) (come : ℕ → Option (Option ℕ)) (acknowledged packet p n : ℕ) (s : StreamValue) → StreamPlaced calm limit s
        → StreamPlaced calm limit (shown_from place come acknowledged packet p n s)
    shown_so place come acknowledged packet p zero s h = h
    shown_so place come acknowledged packet p (suc n) s h =
        shown_so place come acknowledged packet (p + 1) n (at_place acknowledged packet (come p) (place p) s) (place_so acknowledged packet (come p) (place p) s h)

    -- each held octet of a payload is its position's
    module _ (facts : Facts) (position : ℕ) (bears : Bears at position facts.seen.segment.payload) where
      abbrev payload : PayloadValue
      payload = payload_at facts position

      pub held_is : Bears at payload.from payload.held
      held_is j below =
          let it = part_is (max position 1 - position) (payload_len facts) facts.seen.segment.payload j below in
          it.1 ∙ bears (max position 1 - position + j) it.0 ∙ ap at (let same : position + (max position 1 - position + j) ≡ max position 1 + j = omega arith in same)

      by_payload : (packet p : ℕ) → IfSome (octet_by payload.from payload.held packet p) (λ o. o.octet ≡ at p)
      by_payload packet p = by (nat_le payload.from p) (nat_lt p (payload.from + length payload.held)) refl refl
        where
          by : (low high : Bool) → nat_le payload.from p ≡ low → nat_lt p (payload.from + length payload.held) ≡ high
              → IfSome {T = Octet} (if low && high then Some (record { octet = get_or payload.held (p - payload.from) 0; teller = packet }) else None) (λ o. o.octet ≡ at p)
          by false high l m = tt
          by true false l m = tt
          by true true l m =
              let from = leb-true payload.from p l in let to = ltb-true p (payload.from + length payload.held) m in
              held_is (p - payload.from) (omega (arith, from, to)) ∙ ap at (let same : payload.from + (p - payload.from) ≡ p = omega (arith, from) in same)

      pub with_octets : (packet : ℕ) (l : LaneValue) → AreAt l.octet → AreAt (with_payload payload packet l).octet
      with_octets packet l h p = by (l.octet p) (h p)
        where
          by : (o : Option Octet) → IfSome o (λ o. o.octet ≡ at p) → IfSome (option_or o (octet_by payload.from payload.held packet p)) (λ o. o.octet ≡ at p)
          by (Some o) is = is
          by None is = by_payload packet p

    payload_so : (facts : Facts) (position acknowledged : ℕ) (x : Mapped) → Bears at position facts.seen.segment.payload → Placed x.stream x.lane
        → Placed (behind_payload facts position acknowledged x).stream (behind_payload facts position acknowledged x).lane
    payload_so facts position acknowledged x bears h =
        let lane = with_payload (payload_at facts position) facts.packet x.lane in
        let s = within_each facts position x.learnt x.stream in
        let it = within_so facts position x.learnt x.stream h.0 in (
          shown_so (place_of lane) (comes (payload_at facts position) x lane) acknowledged facts.packet 1 (lane.top - 1) (ended_by_fin x.lane facts.packet s)
              (record { top = it.top; untold = it.untold }),
          record { placed = h.1.placed; octets = with_octets facts position bears facts.packet x.lane h.1.octets; waiting = h.1.waiting },
        )

    -- where each position has its octet
    held_so : (octet : ℕ → Option Octet) → AreAt octet → (position n : ℕ) → all_held octet position n ≡ true → held_octets octet position n ≡ contents at position n
    held_so octet is position zero whole = refl
    held_so octet is position (suc n) whole =
        let both = and_parts (is_some (octet position)) (all_held octet (position + 1) n) whole in
        ap (λ (x : ℕ). x ∷ held_octets octet (position + 1) n) (one (octet position) (is position) both.0)
        ∙ ap (λ (xs : List ℕ). at position ∷ xs) (held_so octet is (position + 1) n both.1)
      where
        one : (o : Option Octet) → IfSome o (λ o. o.octet ≡ at position) → is_some o ≡ true → octet_or_0 o ≡ at position
        one None is some = absurd (false≢true some)
        one (Some o) is some = is

    tried_if_so : (b : Bool) (packet : ℕ) (octet : ℕ → Option Octet) → AreAt octet → (waiting : Waiting) (s : StreamValue) → is_whole octet waiting ≡ b → IsWaiting waiting → StreamPlaced calm limit s
        → StreamPlaced calm limit (if b then tried_sum packet first octet waiting s else s)
    tried_if_so true packet octet is waiting s whole waits h =
        let m = waiting.mapping in
        let expected : expected_sum first octet m ≡ unwrap_or m.checksum 0 =
        ap (λ (octets : List ℕ). dss_checksum (header_of first m) octets) (held_so octet is (natural m.position) (octets_of m) whole) ∙ sym waits in
        let none : sum_fault first octet waiting ≡ None =
        ap (λ (b : Bool). if b || (expected_sum first octet m % 65535 == 0 && unwrap_or m.checksum 0 % 65535 == 0) then None
        else Some (WrongSum m.place m.length waiting.packet (expected_sum first octet m) (unwrap_or m.checksum 0)))
        (eq-eqb (expected_sum first octet m) (unwrap_or m.checksum 0) expected) in
        subst (λ (o : Option Finding). StreamPlaced calm limit (record s { sums = counted s.sums; broken = with_found rule.DssSum packet o s.broken })) (sym none)
        (record { top = h.top; untold = h.untold })
    tried_if_so false packet octet is waiting s whole waits h = h

    tried_so : (packet : ℕ) (octet : ℕ → Option Octet) → AreAt octet → (waiting : List Waiting) (s : StreamValue) → All IsWaiting waiting → StreamPlaced calm limit s
        → StreamPlaced calm limit (tried_sums packet first octet waiting s)
    tried_so packet octet is [] s waits h = h
    tried_so packet octet is (one ∷ waiting) s waits h =
        tried_so packet octet is waiting (tried_if_whole packet first octet one s) (All-tail IsWaiting one waiting waits)
        (tried_if_so (is_whole octet one) packet octet is one s refl (All-head IsWaiting one waiting waits) h)

    sum_lane : (packet : ℕ) (m : ToldMapping) (l : LaneValue) → IsSummed m → LanePlaced l → LanePlaced (summed_by packet m l)
    sum_lane packet m l summed h = by m.checksum refl summed (l.summed m)
      where
        one : Waiting
        one = record { mapping = m; packet = packet }

        told : (known : Bool) → unwrap_or m.checksum 0 ≡ sum_of m → LanePlaced (if known then l else record l {
          summed = λ other. l.summed other || same_mapping other m;
          waiting = l.waiting ++ one ∷ [];
        })
        told true right = h
        told false right = record {
          placed = h.placed;
          octets = h.octets;
          waiting = All-append IsWaiting l.waiting (one ∷ []) h.waiting (All-cons IsWaiting one [] right (All-nil IsWaiting));
        }

        by : (sum : Option ℕ) → m.checksum ≡ sum → IfSome sum (λ x. x ≡ sum_of m) → (known : Bool) → LanePlaced (if is_some sum then (if known then l else record l {
          summed = λ other. l.summed other || same_mapping other m;
          waiting = l.waiting ++ one ∷ [];
        }) else l)
        by None is right known = h
        by (Some sum) is right known = told known (ap (λ (o : Option ℕ). unwrap_or o 0) is ∙ right)

    sums_lane : (packet : ℕ) (mappings : List ToldMapping) (l : LaneValue) → All IsSummed mappings → LanePlaced l → LanePlaced (with_sums packet mappings l)
    sums_lane packet [] l each h = h
    sums_lane packet (m ∷ mappings) l each h =
        sums_lane packet mappings (summed_by packet m l) (All-tail IsSummed m mappings each) (sum_lane packet m l (All-head IsSummed m mappings each) h)

    summed_so : (facts : Facts) (known : Option ℕ) → IfSome known (λ n. n ≡ first) → (learnt : List ToldMapping) (acked : Acked) → All IsSummed learnt → Placed acked.stream acked.lane
        → Placed (summed facts known learnt acked).stream (summed facts known learnt acked).lane
    summed_so facts None is learnt acked each h = h
    summed_so facts (Some known) is learnt acked each h =
        let lane = with_sums facts.packet learnt acked.lane in
        let placed = sums_lane facts.packet learnt acked.lane each h.1 in (
          subst (λ (n : ℕ). StreamPlaced calm limit (tried_sums facts.packet n lane.octet lane.waiting acked.stream)) (sym is)
              (tried_so facts.packet lane.octet placed.octets lane.waiting acked.stream placed.waiting h.0),
          waits placed,
        )
      where
        waits : {l : LaneValue} → LanePlaced l → LanePlaced (still_waiting l)
        waits {l} placed = record {
          placed = placed.placed;
          octets = placed.octets;
          waiting = All-filter (λ waiting. not (is_whole l.octet waiting)) IsWaiting l.waiting placed.waiting;
        }

    acked_one_so : (facts : Facts) (known : ℕ) (peers : StreamValue) (option : OptionValue) (acked : Acked) → Placed acked.stream acked.lane
        → Placed (acked_one facts known peers option acked).stream (acked_one facts known peers option acked).lane
    acked_one_so facts known peers (Dss (Some number) told fin) acked h = by (ack_place (ack_facts facts.at_sender facts.plain known peers acked.lane) number)
      where
        by : (place : Result ℕ Finding) → Placed (acked_by place facts.packet (ack_counted acked)).stream (acked_by place facts.packet (ack_counted acked)).lane
        by (Err finding) = let it = tell_so rule.DataAck facts.packet (Found finding) acked.stream refl h.0 in (record { top = it.top; untold = it.untold }, h.1)
        by (Ok place) = (record { top = h.0.top; untold = h.0.untold }, record { placed = h.1.placed; octets = h.1.octets; waiting = h.1.waiting })
    acked_one_so facts known peers option acked h = h

    acked_so : (facts : Facts) (known : ℕ) (peers : StreamValue) (options : List OptionValue) (acked : Acked) → Placed acked.stream acked.lane
        → Placed (acked_each facts known peers options acked).stream (acked_each facts known peers options acked).lane
    acked_so facts known peers [] acked h = h
    acked_so facts known peers (option ∷ options) acked h = acked_so facts known peers options (acked_one facts known peers option acked) (acked_one_so facts known peers option acked h)

    -- MP_FAIL is told only where the rule isn't looked at
    abbrev pub IsCalm : OptionValue → Type 0
    IsCalm option = calm ≡ true → TellsNoFail option

    failed_one_so : (packet known : ℕ) (peers : StreamValue) (option : OptionValue) (s : StreamValue) → IsCalm option → StreamPlaced calm limit s
        → StreamPlaced calm limit (failed_one packet known peers option s)
    failed_one_so packet known peers (Fail number) s none h = by (peers.starts (named_place known number))
      where
        other : (b : Bool) → (b ≡ true → ⊥) → b ≡ false
        other true never = absurd (never refl)
        other false never = refl

        by : (b : Bool) → StreamPlaced calm limit (if b then s else record s { broken = with_broken (record { rule = rule.Fail; packet = packet; fault = Found (NoMapping number) }) s.broken })
        by true = h
        by false = tell_so rule.Fail packet (Found (NoMapping number)) s (other calm none) h
    failed_one_so packet known peers option s none h = h

    failed_so : (packet known : ℕ) (peers : StreamValue) (options : List OptionValue) (s : StreamValue) → All IsCalm options → StreamPlaced calm limit s
        → StreamPlaced calm limit (failed_each packet known peers options s)
    failed_so packet known peers [] s none h = h
    failed_so packet known peers (option ∷ options) s none h =
        failed_so packet known peers options (failed_one packet known peers option s) (All-tail IsCalm option options none)
        (failed_one_so packet known peers option s (All-head IsCalm option options none) h)

    acks_so : (facts : Facts) (known : Option ℕ) (peers : StreamValue) (options : List OptionValue) (acked : Acked) → All IsCalm options → Placed acked.stream acked.lane
        → Placed (behind_acks facts known peers options acked).stream (behind_acks facts known peers options acked).lane
    acks_so facts None peers options acked none h = h
    acks_so facts (Some known) peers options acked none h =
        let it = acked_so facts known peers options acked h in
        (failed_so facts.packet known peers options (acked_each facts known peers options acked).stream none it.0, it.1)

    -- ---- all of a segment

    -- before its mappings
    pub fin_lane : (facts : Facts) (position : ℕ) (l : LaneValue) → LanePlaced l → LanePlaced (fin_taken facts position l)
    fin_lane facts position l h = by facts.seen.segment.head.fin
      where
        by : (b : Bool) → LanePlaced (if b then with_fin (position + facts.seen.payload_len) l else l)
        by true = record { placed = h.placed; octets = h.octets; waiting = h.waiting }
        by false = h

    pub none_learnt : All IsSummed []
    none_learnt = All-nil IsSummed

    pub at_so : (facts : Facts) (position : ℕ) (options : List OptionValue) (keys : Keys) (peers s : StreamValue) (l : LaneValue) → IfSome (first_of facts.side keys) (λ n. n ≡ first)
        → All (OptionTells first limit content where_at position) options → All IsCalm options → Bears at position facts.seen.segment.payload → Placed s l
        → Placed (judged_at facts position options keys peers s l).stream (judged_at facts position options keys peers s l).lane
    at_so facts position options keys peers s l is all none bears h =
        let before : Mapped = record { stream = s; lane = fin_taken facts position l; learnt = []; has_line = false } in
        let told = mapped_with facts (first_of facts.side keys) position options before in
        let held = mapped_so facts (first_of facts.side keys) is position options before all ((h.0, fin_lane facts position l h.1), none_learnt) in
        let paid = behind_payload facts position peers.acknowledged told in
        acks_so facts (first_of (peer facts.side) keys) peers options (summed facts (first_of facts.side keys) told.learnt paid) none
        (summed_so facts (first_of facts.side keys) is told.learnt paid held.1 (payload_so facts position peers.acknowledged told bears held.0))
