-- What a stream of the judge has seen behind a segment with mappings: the place of each position of its payload that is mapped there. And a Data ACK
-- of places that were seen is no fault.
use Rattle.std.proofs.Common.{◌≡◌, refl, sym, ap, ◌∙◌, subst, ℕ, zero, suc, ◌⊎◌, inl, inr, ⊎_elim, ◌&&◌, ◌+◌, ◌-◌, ◌%◌, ◌^◌, ◌<◌, ◌≤◌, ◌==◌, nat_lt, Bool, true, false, if◌then◌else◌, Option, Some, None, option_map, List, [], ◌∷◌, arith}
use Rattle.std.specs.Prelude.{All, is_some, option_and_then, slice_get}
use Rattle.std.specs.Option.{IfSome, option_or}
use Rattle.std.proofs.lemmas.Bool.{cases_lt, eq-eqb, false≢true, le-leb, lt-ltb, ne_eqb, or_right}
use Rattle.std.proofs.lemmas.List.Elements.{All-head, All-nil, All-tail}
use Rattle.sides.specs.Side.{peer}
use Rattle.mptcp_options.specs.Value.{OptionValue}
use Rattle.judge_rules.specs.Acks.{behind_fin}
use Rattle.judge_rules.specs.Mappings as mapping
use Rattle.judge_rules.specs.Mappings.{mapped_octets, mapped_place, natural, offer_of}
use Rattle.judge_rules.specs.Numbers.{place_near}
use Rattle.judge_rules.specs.declared.acks.ToldPlace.{ToldPlace}
use Rattle.judge_rules.specs.declared.mappings.Offer.{Offer}
use Rattle.first_runs.specs.Runs.{Told, image_in, told_by}
use Rattle.judge_laws.proofs.Going.{acked_each_goes, failed_each_goes, steps}
use Rattle.judge_laws.proofs.GoesOn.{goes_same}
use Rattle.judge_laws.proofs.Positions.{tail_so}
use Rattle.judge_laws.specs.GoesOn.{GoesOn}
use Rattle.judge_laws.proofs.Shown.{from_goes}
use Rattle.seen_connections.specs.declared.connections.Keys.{Keys}
use Rattle.seen_octets.specs.declared.octet.Octet.{Octet}
use Rattle.seen_octets.specs.Places.{lowest_unseen, whole}
use Rattle.seen_streams.specs.Acks.{Acked, ended_by_fin}
use Rattle.seen_streams.specs.Content.{as_part, at_place, comes, earlier, is_between, shown, shown_from, with_payload}
use Rattle.seen_streams.specs.Mapped as mapped
use Rattle.seen_streams.specs.Mapped.{Mapped, fin_after, finite, finite_at, finite_by, finite_fault, finite_learnt, mapped_at, octets_of, one_more, run_of, told_mapping, with_places}
use Rattle.seen_streams.specs.State.{LaneValue, StreamValue, is_of, line_place, place_of}
use Rattle.seen_streams.specs.Sums.{is_whole, tried_if_whole, tried_sum, tried_sums, with_sums}
use Rattle.seen_streams.specs.declared.told.Teller.{Teller}
use Rattle.seen_streams.specs.declared.told.ToldMapping.{ToldMapping}
use Rattle.seen_streams.specs.declared.told.Waiting.{Waiting}
use Rattle.rule_book.specs.Facts.{Facts, first_of, payload_at}
use Rattle.rule_book.specs.Stream.{acked_each, behind_acks, behind_payload, fin_taken, judged_at, mapped_each, mapped_one, mapped_with, summed, told_in, within_each}
use Rattle.own_runs.proofs.FinePositions.{near_so}
use Rattle.own_runs.proofs.OwnPositions.{same_position}
use Rattle.own_runs.proofs.MapPositions.{Fine, StreamFine, Holds, LaneFine, OfferIs, OffersWell, Sit, Sits, Summed, fault_so, mapped_so, offer_so, within}
use Rattle.first_runs.specs.declared.run.Run.{Run}
use Rattle.seen_streams.specs.declared.told.Broke.{Broke}
use Rattle.seen_streams.specs.Positions.{with_fin}

-- ---- places that were seen without a hole

-- where all below one are seen, no lower one is the first that isn't
all_seen : (seen : ℕ → Bool) (from n place : ℕ) → ((q : ℕ) → from ≤ q → q < place → seen q ≡ true) → place ≤ from + n → place ≤ lowest_unseen seen from n
all_seen seen from zero place each upto = omega (arith, upto)
all_seen seen from (suc n) place each upto =
    by (seen from) refl (cases_lt from place) (all_seen seen (from + 1) n place (λ q low high. each q (omega (arith, low)) high) (omega (arith, upto)))
  where
    by : (b : Bool) → seen from ≡ b → (from < place) ⊎ (place ≤ from) → place ≤ lowest_unseen seen (from + 1) n → place ≤ (if b then lowest_unseen seen (from + 1) n else from)
    by true here at rest = rest
    by false here (inl below) rest = absurd (false≢true (sym here ∙ each from (omega arith) below))
    by false here (inr low) rest = low

-- where none is seen from one on, it is no higher
no_higher : (seen : ℕ → Bool) (from n limit : ℕ) → ((q : ℕ) → seen q ≡ true → q < limit) → from ≤ limit → lowest_unseen seen from n ≤ limit
no_higher seen from zero limit within low = low
no_higher seen from (suc n) limit within low = by (seen from) refl (λ below. no_higher seen (from + 1) n limit within (omega (arith, below)))
  where
    by : (b : Bool) → seen from ≡ b → (from < limit → lowest_unseen seen (from + 1) n ≤ limit) → (if b then lowest_unseen seen (from + 1) n else from) ≤ limit
    by true here rest = rest (within from here)
    by false here rest = low

whole_from : (seen : ℕ → Bool) (place : ℕ) → ((q : ℕ) → q < place → seen q ≡ true) → place ≤ 2 ^ 62 → place ≤ whole seen 0
unfolding whole
whole_from seen place each few = all_seen seen 0 (2 ^ 62 - 0) place (λ q low high. each q high) (omega (arith, few))

whole_upto : (seen : ℕ → Bool) (limit : ℕ) → ((q : ℕ) → seen q ≡ true → q < limit) → whole seen 0 ≤ limit
unfolding whole
whole_upto seen limit within = no_higher seen 0 (2 ^ 62 - 0) limit within (omega arith)

-- ---- a Data ACK

-- a stream of so many octets, all of which below a place were seen; the place behind the DATA_FIN, where that was told
pub record IsSeen (limit place : ℕ) (s : StreamValue) : Type 0 where
  pub below : (q : ℕ) → q < place → q < limit → s.seen q ≡ true
  pub within : (q : ℕ) → s.seen q ≡ true → q < limit
  pub upto : place ≤ limit + 1
  pub fin : limit < place → (told : ToldPlace) × (s.fin ≡ Some told) × (told.place ≡ limit)

more_behind : (fin : Option ToldPlace) (n : ℕ) → n ≤ behind_fin fin n
more_behind None n = omega arith
more_behind (Some told) n = by (told.place == n)
  where
    by : (b : Bool) → n ≤ (if b then n + 1 else n)
    by true = omega arith
    by false = omega arith

pub behind_all : (limit place : ℕ) (s : StreamValue) → limit < 2 ^ 31 → IsSeen limit place s → place ≤ behind_fin s.fin (whole s.seen 0)
behind_all limit place s few h = by (cases_lt limit place)
  where
    by : (limit < place) ⊎ (place ≤ limit) → place ≤ behind_fin s.fin (whole s.seen 0)
    by (inr low) =
        let all = whole_from s.seen place (λ q below. h.below q below (omega (arith, below, low))) (omega (arith, low, few)) in
        let more = more_behind s.fin (whole s.seen 0) in
        omega (arith, all, more)
    by (inl high) =
        let upto = h.upto in
        let fin = h.fin high in
        let all = whole_from s.seen limit (λ q below. h.below q (omega (arith, below, high)) below) (omega (arith, few)) in
        let most = whole_upto s.seen limit h.within in
        let same : fin.0.place ≡ whole s.seen 0 = omega (arith, fin.2, all, most) in
        let end : behind_fin s.fin (whole s.seen 0) ≡ whole s.seen 0 + 1 =
        ap (λ (o : Option ToldPlace). behind_fin o (whole s.seen 0)) fin.1 ∙ ap (λ (b : Bool). if b then whole s.seen 0 + 1 else whole s.seen 0) (eq-eqb fin.0.place (whole s.seen 0) same) in
        omega (arith, end, all, upto)

-- ---- payload

here : (q : ℕ) → is_of q 1 q ≡ true
here q = ap (λ (b : Bool). b && nat_lt q (q + 1)) (le-leb q q (omega arith)) ∙ lt-ltb q (q + 1) (omega arith)

-- a position that comes to a place makes it seen
shown_seen : (place : ℕ → Option ℕ) (comes : ℕ → Option (Option ℕ)) (acknowledged packet p n at q : ℕ) (octet : Option ℕ) (s : StreamValue)
    → p ≤ at → at < p + n → comes at ≡ Some octet → place at ≡ Some q → (shown_from place comes acknowledged packet p n s).seen q ≡ true
shown_seen place comes acknowledged packet p zero at q octet s low high come there = absurd (omega (arith, low, high))
shown_seen place comes acknowledged packet p (suc n) at q octet s low high come there =
    by (cases_lt p at)
    (λ after. shown_seen place comes acknowledged packet (p + 1) n at q octet (at_place acknowledged packet (comes p) (place p) s) (omega (arith, after)) (omega (arith, high)) come there)
  where
    next : StreamValue
    next = at_place acknowledged packet (comes p) (place p) s

    now : p ≡ at → at_place acknowledged packet (comes p) (place p) s ≡ shown acknowledged packet q 1 (as_part octet) s
    now same =
        ap (λ (x : ℕ). at_place acknowledged packet (comes x) (place x) s) same
        ∙ ap (λ (c : Option (Option ℕ)). at_place acknowledged packet c (place at) s) come
        ∙ ap (λ (r : Option ℕ). at_place acknowledged packet (Some octet) r s) there

    by : (p < at) ⊎ (at ≤ p) → (p < at → (shown_from place comes acknowledged packet (p + 1) n next).seen q ≡ true) → (shown_from place comes acknowledged packet (p + 1) n next).seen q ≡ true
    by (inl after) later = later after
    by (inr until) later =
        (from_goes place comes acknowledged packet (p + 1) n next).seen q
        (subst (λ (x : StreamValue). x.seen q ≡ true) (sym (now (omega (arith, low, until)))) (or_right (s.seen q) (is_of q 1 q) (here q)))

between : (from to p : ℕ) → from ≤ p → p < to → is_between from to p ≡ true
between from to p low high = ap (λ (b : Bool). b && nat_lt p to) (le-leb from p low) ∙ lt-ltb p to high

-- a position of the payload whose place is known
pub payload_seen : (facts : Facts) (position acknowledged : ℕ) (x : Mapped) (at q : ℕ) → 1 ≤ at → position ≤ at → at < (payload_at facts position).to → place_of x.lane at ≡ Some q
    → (behind_payload facts position acknowledged x).stream.seen q ≡ true
payload_seen facts position acknowledged x at q some low high there =
    let payload = payload_at facts position in
    let lane = with_payload payload facts.packet x.lane in
    shown_seen (place_of lane) (comes payload x lane) acknowledged facts.packet 1 (lane.top - 1) at q (slice_get payload.held (at - payload.from))
    (ended_by_fin x.lane facts.packet (within_each facts position x.learnt x.stream)) some (omega (arith, high))
    (ap (λ (b : Bool). if b then Some (slice_get payload.held (at - payload.from)) else earlier x.learnt x.has_line lane at) (between payload.from payload.to at (omega (arith, some, low)) high))
    there

-- ---- what stays behind it

tried_seen : (q packet first : ℕ) (octet : ℕ → Option Octet) (waiting : List Waiting) (s : StreamValue) → s.seen q ≡ true → (tried_sums packet first octet waiting s).seen q ≡ true
tried_seen q packet first octet [] s h = h
tried_seen q packet first octet (one ∷ waiting) s h = tried_seen q packet first octet waiting (tried_if_whole packet first octet one s) (by (is_whole octet one))
  where
    by : (b : Bool) → (if b then tried_sum packet first octet one s else s).seen q ≡ true
    by true = h
    by false = h

summed_seen : (facts : Facts) (known : Option ℕ) (learnt : List ToldMapping) (q : ℕ) (acked : Acked) → acked.stream.seen q ≡ true → (summed facts known learnt acked).stream.seen q ≡ true
summed_seen facts None learnt q acked h = h
summed_seen facts (Some first) learnt q acked h = let lane = with_sums facts.packet learnt acked.lane in tried_seen q facts.packet first lane.octet lane.waiting acked.stream h

acks_seen : (facts : Facts) (known : Option ℕ) (peers : StreamValue) (options : List OptionValue) (q : ℕ) (acked : Acked) → acked.stream.seen q ≡ true
    → (behind_acks facts known peers options acked).stream.seen q ≡ true
acks_seen facts None peers options q acked h = h
acks_seen facts (Some first) peers options q acked h =
    (failed_each_goes facts.packet first peers options (acked_each facts first peers options acked).stream).seen q ((acked_each_goes facts first peers options acked).seen q h)

-- ---- mappings

-- a position is mapped by an offer of a segment at another one
abbrev pub IsCover : ℕ → ℕ → Option Offer → Type 0
IsCover position p None = ⊥
IsCover position p (Some offer) = (position ≤ p) × (p < position + mapped_octets offer)

-- of one of the options
abbrev pub AnyOf : (OptionValue → Type 0) → List OptionValue → Type 0
AnyOf R [] = ⊥
AnyOf R (option ∷ options) = R option ⊎ AnyOf R options

abbrev pub IsCovered : ℕ → ℕ → ℕ → List OptionValue → Type 0
IsCovered first position p options = AnyOf (λ option. IsCover position p (offer_of first option)) options

-- an offer with the DATA_FIN
abbrev pub EndsOffer : Option Offer → Type 0
EndsOffer None = ⊥
EndsOffer (Some offer) = offer.fin ≡ true

abbrev pub EndsIn : ℕ → List OptionValue → Type 0
EndsIn first options = AnyOf (λ option. EndsOffer (offer_of first option)) options

abbrev IsEnded : Mapped → Type 0
IsEnded x = is_some x.stream.fin ≡ true

still_ended : (fin : Option ToldPlace) (told : Bool) (end packet : ℕ) → is_some fin ≡ true → is_some (fin_after fin told end packet) ≡ true
still_ended (Some place) told end packet some = refl
still_ended None told end packet some = absurd (false≢true some)

now_ended : (fin : Option ToldPlace) (told : Bool) (end packet : ℕ) → told ≡ true → is_some (fin_after fin told end packet) ≡ true
now_ended (Some place) told end packet is = refl
now_ended None true end packet is = refl
now_ended None false end packet is = absurd (false≢true is)

abbrev IsPlaced : ℕ → LaneValue → Type 0
IsPlaced p lane = is_some (lane.placed p) ≡ true

-- what was placed stays so
still_placed : (p : ℕ) (run : Run) (lane : LaneValue) → IsPlaced p lane → IsPlaced p (with_places run lane)
still_placed p run lane h = by (lane.placed p) h
  where
    by : (o : Option Told) → is_some o ≡ true → is_some (option_or o (told_by run p)) ≡ true
    by None h = absurd (false≢true h)
    by (Some told) h = refl

now_placed : (p : ℕ) (run : Run) (lane : LaneValue) → run.from ≤ p → p < run.to → IsPlaced p (with_places run lane)
now_placed p run lane low high =
    ap (λ (o : Option Told). is_some (option_or (lane.placed p) o)) (ap (λ (b : Bool). if b then Some (image_in run p) else None) (between run.from run.to p low high)) ∙ by (lane.placed p)
  where
    by : (o : Option Told) → is_some (option_or o (Some (image_in run p))) ≡ true
    by None = refl
    by (Some told) = refl

module _ (limit : ℕ) (few : limit < 2 ^ 31) (content : ℕ → ℕ) (first : ℕ) (where_at : ℕ → ℕ) (most high : ℕ) where
  abbrev AllHold : Mapped → Type 0
  AllHold x = Holds limit few content first where_at most high x

  -- all below a place was seen, and the DATA_FIN was told where the place is behind it
  pub seen_so : (s : StreamValue) → StreamFine limit few content s → (place : ℕ) → ((q : ℕ) → q < place → q < limit → s.seen q ≡ true) → place ≤ limit + 1
      → (limit < place → is_some s.fin ≡ true) → IsSeen limit place s
  seen_so s h place each upto told = record { below = each; within = h.below; upto = upto; fin = λ behind. by s.fin refl (told behind) h.fin }
    where
      by : (o : Option ToldPlace) → s.fin ≡ o → is_some o ≡ true → IfSome o (λ t. t.place ≡ limit) → (t : ToldPlace) × (s.fin ≡ Some t) × (t.place ≡ limit)
      by None e some is = absurd (false≢true some)
      by (Some t) e some is = (t, e, is)

  -- an offer that is such is learnt
  mapped_is : (teller : Teller) → teller.first ≡ first → (offer : Offer) (near : ℕ) (state : Mapped) (o : OfferIs first limit content where_at near offer) → AllHold state
      → mapped_at teller offer (mapping.position_near near offer.relative) state
      ≡ finite_learnt teller.packet (told_mapping offer (mapping.position_near near offer.relative) o.place) (one_more state)
  mapped_is teller is offer near state o all =
      let position = mapping.position_near near offer.relative in
      ap (λ (b : Bool). if b then mapped.infinite_at (place_near teller.first state.stream.top offer.number) teller offer position state else finite teller offer position state)
      (ne_eqb offer.length 0 (λ none. let some = o.some in omega (arith, some, none)))
      ∙ ap (λ (p : Option ℕ). finite_at p teller offer position (one_more state)) place
      ∙ ap (λ (f : Option Broke). finite_by f teller.packet (told_mapping offer position o.place) (one_more state))
      (fault_so limit few content first where_at most high teller (one_more state).stream state.lane fine offer o.place o.ends position (sits o.sits))
    where
      h : Fine limit few content first where_at most high state.stream state.lane
      h = all.0

      fine : Fine limit few content first where_at most high (one_more state).stream state.lane
      fine = (record { infinite = h.0.infinite; fin = h.0.fin; top = h.0.top; octets = h.0.octets; below = h.0.below; there = h.0.there; untold = h.0.untold }, h.1)

      sits : (mapped_octets offer ≡ 0) ⊎ ((offer.relative % 2 ^ 32 ≡ near % 2 ^ 32) × Sit where_at near o.place (mapped_octets offer))
          → Sits limit few content first where_at most high offer (mapping.position_near near offer.relative) o.place
      sits (inl none) = inl none
      sits (inr both) = inr (near, same_position near offer.relative both.0, both.1)

      place : mapped_place teller.first state.stream.top offer ≡ Some o.place
      place =
          let top = h.0.top in let upto = within limit few content first where_at most high teller state.stream state.lane h offer o.place o.ends in
          ap (option_and_then (λ place. if nat_lt (place + mapped_octets offer) (2 ^ 62) then Some place else None))
          (ap (λ (n : ℕ). place_near n state.stream.top offer.number) is ∙ near_so first state.stream.top o.place offer.number o.number (omega (arith, top, few)) (omega (arith, upto, few)))
          ∙ ap (λ (b : Bool). if b then Some o.place else None) (lt-ltb (o.place + mapped_octets offer) (2 ^ 62) (omega (arith, upto, few)))

  module _ (teller : Teller) (is : teller.first ≡ first) (near p : ℕ) where
    one_kept : (offer : Option Offer) (state : Mapped) → IfSome offer (OfferIs first limit content where_at near) → AllHold state → IsPlaced p state.lane
        → IsPlaced p (mapped_one teller near offer state).lane
    one_kept None state o all h = h
    one_kept (Some offer) state o all h =
        let position = mapping.position_near near offer.relative in
        subst (λ (x : Mapped). IsPlaced p x.lane) (sym (mapped_is teller is offer near state o all)) (still_placed p (run_of teller.packet (told_mapping offer position o.place)) state.lane h)

    one_placed : (offer : Option Offer) (state : Mapped) → IfSome offer (OfferIs first limit content where_at near) → AllHold state → IsCover near p offer
        → IsPlaced p (mapped_one teller near offer state).lane
    one_placed None state o all covers = absurd covers
    one_placed (Some offer) state o all covers =
        let position = mapping.position_near near offer.relative in
        let from = begins o.sits in
        subst (λ (x : Mapped). IsPlaced p x.lane) (sym (mapped_is teller is offer near state o all))
        (now_placed p (run_of teller.packet (told_mapping offer position o.place)) state.lane (omega (arith, from, covers.0)) (omega (arith, from, covers.1)))
      where
        begins : (mapped_octets offer ≡ 0) ⊎ ((offer.relative % 2 ^ 32 ≡ near % 2 ^ 32) × Sit where_at near o.place (mapped_octets offer)) → natural (mapping.position_near near offer.relative) ≡ near
        begins (inl none) = absurd (omega (arith, none, covers.0, covers.1))
        begins (inr both) = ap natural (same_position near offer.relative both.0)

    -- the offer of an option by the teller's number
    own_offer : (option : OptionValue) → IfSome (offer_of first option) (OfferIs first limit content where_at near) → IfSome (offer_of teller.first option) (OfferIs first limit content where_at near)
    own_offer option o = subst (λ (n : ℕ). IfSome (offer_of n option) (OfferIs first limit content where_at near)) (sym is) o

    each_kept : (options : List OptionValue) (state : Mapped) → All (OffersWell first limit content where_at near) options → AllHold state → IsPlaced p state.lane
        → IsPlaced p (mapped_each teller near options state).lane
    each_kept [] state all holds h = h
    each_kept (option ∷ options) state all holds h =
        let o = own_offer option (All-head (OffersWell first limit content where_at near) option options all) in
        each_kept options (mapped_one teller near (offer_of teller.first option) state) (All-tail (OffersWell first limit content where_at near) option options all)
        (offer_so limit few content first where_at most high teller is near (offer_of teller.first option) state o holds) (one_kept (offer_of teller.first option) state o holds h)

    each_placed : (options : List OptionValue) (state : Mapped) → All (OffersWell first limit content where_at near) options → AllHold state → IsCovered first near p options
        → IsPlaced p (mapped_each teller near options state).lane
    each_placed [] state all holds covered = absurd covered
    each_placed (option ∷ options) state all holds covered =
        let o = own_offer option (All-head (OffersWell first limit content where_at near) option options all) in
        let next = mapped_one teller near (offer_of teller.first option) state in
        let rest = All-tail (OffersWell first limit content where_at near) option options all in
        let held = offer_so limit few content first where_at most high teller is near (offer_of teller.first option) state o holds in
        ⊎_elim
        (λ here. each_kept options next rest held (one_placed (offer_of teller.first option) state o holds (subst (λ (n : ℕ). IsCover near p (offer_of n option)) (sym is) here)))
        (λ later. each_placed options next rest held later) covered

    -- ---- the DATA_FIN

    one_still : (offer : Option Offer) (state : Mapped) → IfSome offer (OfferIs first limit content where_at near) → AllHold state → IsEnded state → IsEnded (mapped_one teller near offer state)
    one_still None state o all h = h
    one_still (Some offer) state o all h =
        subst (λ (x : Mapped). IsEnded x) (sym (mapped_is teller is offer near state o all)) (still_ended state.stream.fin offer.fin (o.place + mapped_octets offer) teller.packet h)

    one_ended : (offer : Option Offer) (state : Mapped) → IfSome offer (OfferIs first limit content where_at near) → AllHold state → EndsOffer offer → IsEnded (mapped_one teller near offer state)
    one_ended None state o all ends = absurd ends
    one_ended (Some offer) state o all ends =
        subst (λ (x : Mapped). IsEnded x) (sym (mapped_is teller is offer near state o all)) (now_ended state.stream.fin offer.fin (o.place + mapped_octets offer) teller.packet ends)

    each_still : (options : List OptionValue) (state : Mapped) → All (OffersWell first limit content where_at near) options → AllHold state → IsEnded state → IsEnded (mapped_each teller near options state)
    each_still [] state all holds h = h
    each_still (option ∷ options) state all holds h =
        let o = own_offer option (All-head (OffersWell first limit content where_at near) option options all) in
        each_still options (mapped_one teller near (offer_of teller.first option) state) (All-tail (OffersWell first limit content where_at near) option options all)
        (offer_so limit few content first where_at most high teller is near (offer_of teller.first option) state o holds) (one_still (offer_of teller.first option) state o holds h)

    each_ended : (options : List OptionValue) (state : Mapped) → All (OffersWell first limit content where_at near) options → AllHold state → EndsIn first options → IsEnded (mapped_each teller near options state)
    each_ended [] state all holds ends = absurd ends
    each_ended (option ∷ options) state all holds ends =
        let o = own_offer option (All-head (OffersWell first limit content where_at near) option options all) in
        let next = mapped_one teller near (offer_of teller.first option) state in
        let rest = All-tail (OffersWell first limit content where_at near) option options all in
        let held = offer_so limit few content first where_at most high teller is near (offer_of teller.first option) state o holds in
        ⊎_elim
        (λ here. each_still options next rest held (one_ended (offer_of teller.first option) state o holds (subst (λ (n : ℕ). EndsOffer (offer_of n option)) (sym is) here)))
        (λ later. each_ended options next rest held later) ends

  -- ---- all of a segment

  -- behind one that tells the DATA_FIN the stream has it
  pub judged_ended : (facts : Facts) (position : ℕ) (options : List OptionValue) (keys : Keys) (peers s : StreamValue) (lane : LaneValue) → first_of facts.side keys ≡ Some first
      → All (OffersWell first limit content where_at position) options → Fine limit few content first where_at most high s lane → EndsIn first options
      → is_some (judged_at facts position options keys peers s lane).stream.fin ≡ true
  judged_ended facts position options keys peers s lane known all fine ends = by told.stream.fin refl ended
    where
      before : Mapped
      before = record { stream = s; lane = fin_taken facts position lane; learnt = []; has_line = false }

      told : Mapped
      told = mapped_with facts (first_of facts.side keys) position options before

      lane_fine : (b : Bool) → LaneFine limit few content first where_at most high (if b then with_fin (position + facts.seen.payload_len) lane else lane)
      lane_fine true = record { line = fine.1.line; placed = fine.1.placed; octets = fine.1.octets; there = fine.1.there; waiting = fine.1.waiting; acked = fine.1.acked; top = fine.1.top }
      lane_fine false = fine.1

      ended : IsEnded told
      ended =
          subst (λ (x : Mapped). IsEnded x) (sym (ap (λ (f : Option ℕ). mapped_with facts f position options before) known))
          (each_ended (told_in facts first) refl position 0 options before all ((fine.0, lane_fine facts.seen.segment.head.fin), All-nil (Summed limit few content first where_at most high)) ends)

      goes : GoesOn told.stream (judged_at facts position options keys peers s lane).stream
      goes = tail_so facts position options keys peers s lane (steps (first_of facts.side keys) told.stream) (goes_same told.stream)

      by : (o : Option ToldPlace) → told.stream.fin ≡ o → is_some o ≡ true → is_some (judged_at facts position options keys peers s lane).stream.fin ≡ true
      by None e some = absurd (false≢true some)
      by (Some fin) e some = ap is_some (goes.fin fin e)

  -- a position of its payload that one of its options maps
  pub judged_seen : (facts : Facts) (position : ℕ) (options : List OptionValue) (keys : Keys) (peers s : StreamValue) (lane : LaneValue) (p : ℕ) → first_of facts.side keys ≡ Some first
      → All (OffersWell first limit content where_at position) options → Fine limit few content first where_at most high s lane → IsCovered first position p options
      → 1 ≤ p → position ≤ p → p < (payload_at facts position).to → (judged_at facts position options keys peers s lane).stream.seen (where_at p) ≡ true
  judged_seen facts position options keys peers s lane p known all fine covered some low under =
      acks_seen facts (first_of (peer facts.side) keys) peers options (where_at p) (summed facts (first_of facts.side keys) told.learnt (behind_payload facts position peers.acknowledged told))
      (summed_seen facts (first_of facts.side keys) told.learnt (where_at p) (behind_payload facts position peers.acknowledged told)
      (payload_seen facts position peers.acknowledged told p (where_at p) some low under place))
    where
      before : Mapped
      before = record { stream = s; lane = fin_taken facts position lane; learnt = []; has_line = false }

      told : Mapped
      told = mapped_with facts (first_of facts.side keys) position options before

      lane_fine : (b : Bool) → LaneFine limit few content first where_at most high (if b then with_fin (position + facts.seen.payload_len) lane else lane)
      lane_fine true = record { line = fine.1.line; placed = fine.1.placed; octets = fine.1.octets; there = fine.1.there; waiting = fine.1.waiting; acked = fine.1.acked; top = fine.1.top }
      lane_fine false = fine.1

      begun : AllHold before
      begun = ((fine.0, lane_fine facts.seen.segment.head.fin), All-nil (Summed limit few content first where_at most high))

      each : told ≡ mapped_each (told_in facts first) position options before
      each = ap (λ (f : Option ℕ). mapped_with facts f position options before) known

      placed : IsPlaced p told.lane
      placed = subst (λ (x : Mapped). IsPlaced p x.lane) (sym each) (each_placed (told_in facts first) refl position p options before all begun covered)

      held : AllHold told
      held = mapped_so limit few content first where_at most high facts (first_of facts.side keys) (subst (λ (o : Option ℕ). IfSome o (λ n. n ≡ first)) (sym known) refl) position options before all begun

      image : (o : Option Told) → is_some o ≡ true → IfSome o (λ told. (told.image ≡ where_at p) × (told.image < limit))
          → option_or (option_map (λ (told : Told). told.image) o) (line_place told.lane.line p) ≡ Some (where_at p)
      image None none is = absurd (false≢true none)
      image (Some one) some is = ap (λ (n : ℕ). Some n) is.0

      place : place_of told.lane p ≡ Some (where_at p)
      place = image (told.lane.placed p) placed (held.0.1.placed p)
