-- Mappings that give each position its place, and payload that gives each place its octet: what a side's stream and lane are where each of its
-- segments is such, ends within the stream, and tells right checksums. Then none of them breaks a rule on mappings and what they map.
use Rattle.std.proofs.Common.{◌≡◌, refl, sym, ap, ◌∙◌, subst, ℕ, ℤ, zero, suc, ltb, ◌⊎◌, inl, inr, ⊎_elim, nat_le, ◌&&◌, ◌+◌, ◌-◌, ◌%◌, ◌^◌, ◌<◌, ◌≤◌, ◌==◌, nat_lt, max, pos, negsuc, not, Bool, true, false, if◌then◌else◌, Option, Some, None, option_map, Result, Ok, Err, List, [], ◌∷◌, length, drop, arith}
use mir.Val.{sel}
use Rattle.std.specs.Prelude.{All, IfSome, IsSomeAnd, int_lt, is_some, option_and_then, unwrap_or, get_or, ◌||◌, ◌++◌, ◌+ℤ◌}
use Rattle.std.specs.List.{slice_get}
use Rattle.std.specs.Int.{from_bool, int_rem_euclid}
use Rattle.std.specs.Option.{option_or}
use Rattle.std.proofs.lemmas.Bool.{and_parts, eq-eqb, false≢true, le-ltb, leb-true, lt-ltb, ltb-true, ne_eqb, or_cases, or_left, or_right}
use Rattle.std.proofs.lemmas.Int.{int_rem_euclid_is, ints}
use Rattle.std.proofs.lemmas.List.Elements.{All-append, All-cons, All-filter, All-head, All-nil, All-tail}
use Rattle.std.proofs.lemmas.Option.{slice_get-get_or}
use Rattle.sides.specs.Side.{peer}
use Rattle.dss_checksum.specs.Checksum.{dss_checksum}
use Rattle.mptcp_options.specs.Value.{OptionValue, Dss, Fail}
use Rattle.mptcp_options.specs.declared.dss.DataNumber.{DataNumber}
use Rattle.judge_rules.specs.declared.acks.ToldPlace.{ToldPlace}
use Rattle.judge_rules.specs.declared.finding.Finding.{Finding}
use Rattle.judge_rules.specs.declared.finding.Finding.TheVariants.{BeyondFin, Falls, MappedBeyond, NoPosition, NotSeen, OtherFin, OtherPlace, WrongSum}
use Rattle.judge_rules.specs.declared.finding.Rule.{Rule}
use Rattle.judge_rules.specs.declared.finding.Rule.TheVariants as rule
use Rattle.judge_rules.specs.declared.mappings.Line.{Line}
use Rattle.judge_rules.specs.declared.mappings.Offer.{Offer}
use Rattle.judge_rules.specs.Acks.{ack_by, ack_place, behind_fin, most_seen, not_below}
use Rattle.judge_rules.specs.declared.acks.AckFacts.{AckFacts}
use Rattle.judge_rules.specs.Clashes.{clash_by, first_clash}
use Rattle.judge_rules.specs.Mappings.{fin_fault, fin_told, is_too_early, mapped_octets, mapped_place, natural, offer_of}
use Rattle.judge_rules.specs.Mappings as mapping
use Rattle.judge_rules.specs.Numbers.{place_near}
use Rattle.seq_units.specs.declared.mapping.Mapping.{Mapping}
use Rattle.seen_connections.specs.declared.connections.Keys.{Keys}
use Rattle.seen_octets.specs.declared.octet.Octet.{Octet}
use Rattle.seen_octets.specs.declared.octet.OtherOctet.{OtherOctet}
use Rattle.seen_octets.specs.Octets.{all_held, has_place, octet_by}
use Rattle.seen_octets.specs.Others.{first_other, other_by}
use Rattle.seen_octets.specs.Places.{whole}
use Rattle.seen_streams.specs.declared.told.Broke.{Broke}
use Rattle.seen_streams.specs.declared.told.Infinite.{Infinite}
use Rattle.seen_streams.specs.declared.told.Teller.{Teller}
use Rattle.seen_streams.specs.declared.told.ToldMapping.{ToldMapping}
use Rattle.seen_streams.specs.declared.told.Waiting.{Waiting}
use Rattle.seen_streams.specs.State.{FaultValue, Found, LaneValue, StreamValue, counted, is_of, line_place, place_of, with_broken, with_found}
use Rattle.seen_streams.specs.Acks.{Acked, ack_counted, ack_facts, acked_by, ended_by_fin, fin_told as line_fin}
use Rattle.seen_streams.specs.Content.{PayloadValue, as_part, at_place, comes, content_fault, is_mapped_by, octet_of, other_octet, shown_from, with_payload}
use Rattle.seen_streams.specs.Mapped.{Mapped, against_infinite, by_rule, fin_after, finite, finite_at, finite_by, finite_fault, mapped_at, octets_fault, one_more, placed_fault, told_mapping}
use Rattle.seen_streams.specs.Sums.{expected_sum, header_of, held_octets, is_whole, octet_or_0, sum_fault, summed_by, tried_if_whole, tried_sums, with_sums}
use Rattle.seen_streams.specs.Positions.{with_fin}
use Rattle.seen_streams.specs.Same.{same_mapping}
use Rattle.seen_streams.specs.Mapped as mapped
use Rattle.rule_book.specs.Facts.{Facts, first_of, payload_at, payload_len}
use Rattle.rule_book.specs.Stream.{acked_each, acked_one, behind_acks, behind_payload, failed_each, failed_one, fin_taken, judged_at, mapped_each, mapped_one, mapped_with, summed, told_in, within_each, within_found, within_one}
use Rattle.first_runs.specs.Runs.{Told, image_in, told_by}
use Rattle.seen_streams.specs.Mapped.{octets_of, run_of, with_places}
use Rattle.seen_streams.specs.Sums.{still_waiting}
use Rattle.own_runs.proofs.OwnPositions.{same_position}
use Rattle.own_runs.proofs.PayloadHeld.{has_all, held_all, none_left, part_is, stays_held}
use Rattle.own_runs.proofs.FinePositions.{EndsAt, NumberIs, TellsNoFail, near_so}
use Rattle.own_runs.proofs.Telling.{Untold, others_keep}

-- the rules on mappings and what they map, on the end of a stream, on Data ACKs, and that on MP_FAIL
abbrev pub is_mapping : Rule → Bool
is_mapping rule.Mapping = true
is_mapping rule.PlaceContent = true
is_mapping rule.DssSum = true
is_mapping rule.DataFin = true
is_mapping rule.Infinite = true
is_mapping rule.Fail = true
is_mapping rule.DataAck = true
is_mapping _ = false

-- the positions from one on have the places from another one on
abbrev pub Sit : (ℕ → ℕ) → ℕ → ℕ → ℕ → Type 0
Sit where_at position place octets = (j : ℕ) → j < octets → where_at (position + j) ≡ place + j

-- what a checksum counts beside the octets (RFC 8684, section 3.3.1)
abbrev pub header : ℕ → ℕ → ℕ → ℕ → Mapping
header first place relative length = record { number = (first + place) % 2 ^ 64; relative = relative; length = length; checksum = 0 }

-- the octets of so many positions from one on
abbrev pub contents : (ℕ → ℕ) → ℕ → ℕ → List ℕ
contents at position zero = []
contents at position (suc count) = at position ∷ contents at (position + 1) count

-- a payload from a position on has their octets
abbrev pub Bears : (ℕ → ℕ) → ℕ → List ℕ → Type 0
Bears at position payload = (j : ℕ) → j < length payload → get_or payload j 0 ≡ at (position + j)

-- in a segment at this position
pub record OfferIs (first limit : ℕ) (content where_at : ℕ → ℕ) (position : ℕ) (offer : Offer) : Type 0 where
  pub place : ℕ
  pub number : NumberIs first offer.number place
  pub some : 1 ≤ offer.length
  pub ends : EndsAt limit offer.fin place offer.length
  pub sits : (mapped_octets offer ≡ 0) ⊎ ((offer.relative % 2 ^ 32 ≡ position % 2 ^ 32) × Sit where_at position place (mapped_octets offer))
  pub low : offer.relative < 2 ^ 32
  pub sum : IfSome offer.checksum (λ sum. sum ≡ dss_checksum (header first place offer.relative offer.length)
      (contents (λ p. content (where_at p)) position (mapped_octets offer)))

-- of an option
abbrev pub OffersWell : ℕ → ℕ → (ℕ → ℕ) → (ℕ → ℕ) → ℕ → OptionValue → Type 0
OffersWell first limit content where_at position option = IfSome (offer_of first option) (OfferIs first limit content where_at position)

-- the relative number of the position that it means
pub relative_so : (at relative : ℕ) → relative < 2 ^ 32 → natural (int_rem_euclid (mapping.position_near at relative) (pos (2 ^ 32))) ≡ relative
relative_so at relative low = by ((relative + (2 ^ 32 - at % 2 ^ 32)) % 2 ^ 32) refl (ltb ((relative + (2 ^ 32 - at % 2 ^ 32)) % 2 ^ 32) (2 ^ 31))
  where
    by : (n : ℕ) → n ≡ (relative + (2 ^ 32 - at % 2 ^ 32)) % 2 ^ 32 → (b : Bool)
        → natural (int_rem_euclid (pos at +ℤ sel b (pos n) (negsuc (2 ^ 32 - suc n))) (pos (2 ^ 32))) ≡ relative
    by n is true =
        ap natural (int_rem_euclid_is (pos at +ℤ pos n) (pos (2 ^ 32)) (2 ^ 32) 0 (at + n) (omega arith) refl (omega (arith, ints))) ∙ omega (arith, low, is)
    by n is false =
        ap natural (int_rem_euclid_is (pos at +ℤ negsuc (2 ^ 32 - suc n)) (pos (2 ^ 32)) (2 ^ 32) 1 (at + n) (omega arith) refl (omega (arith, ints, is)))
        ∙ omega (arith, low, is)

pub contents_none : (at : ℕ → ℕ) (n p q : ℕ) → n ≡ 0 → contents at p n ≡ contents at q n
contents_none at zero p q none = refl
contents_none at (suc n) p q none = absurd (omega (arith, none))

-- `content` is the octet of each place
module _ (limit : ℕ) (few : limit < 2 ^ 31) (content : ℕ → ℕ) where
  -- no infinite mapping was told, nothing is mapped or seen beyond the end, where the DATA_FIN stands, each place that was seen has its octet, and no
  -- such rule was broken
  pub record StreamFine (s : StreamValue) : Type 0 where
    pub infinite : s.infinite ≡ None
    pub fin : IfSome s.fin (λ told. told.place ≡ limit)
    pub top : s.top ≤ limit
    pub octets : (q : ℕ) → IfSome (s.octet q) (λ o. (q < limit) × (o.octet ≡ content q))
    pub below : (q : ℕ) → s.seen q ≡ true → q < limit
    pub there : (q : ℕ) → s.seen q ≡ true → is_some (s.octet q) ≡ true
    pub untold : Untold is_mapping s.broken

  tell_so : (r : Rule) (packet : ℕ) (fault : FaultValue) (s : StreamValue) → is_mapping r ≡ false → StreamFine s
      → StreamFine (record s { broken = with_broken (record { rule = r; packet = packet; fault = fault }) s.broken })
  tell_so r packet fault s other h =
      record { infinite = h.infinite; fin = h.fin; top = h.top; octets = h.octets; below = h.below; there = h.there; untold = others_keep is_mapping r packet fault s.broken other h.untold }

  found_so : (r : Rule) (packet : ℕ) (finding : Option Finding) (s : StreamValue) → is_mapping r ≡ false → StreamFine s
      → StreamFine (record s { broken = with_found r packet finding s.broken })
  found_so r packet None s other h = record { infinite = h.infinite; fin = h.fin; top = h.top; octets = h.octets; below = h.below; there = h.there; untold = h.untold }
  found_so r packet (Some finding) s other h = tell_so r packet (Found finding) s other h

  -- where the positions of a lane have these places, and place 0 this number: no infinite mapping was told on it, its positions that were seen
  -- have their octets, and the mappings that wait for them have their checksums; of the other stream no more was acknowledged on it than up
  -- to a place, and what was sent on it ends up to a position
  module _ (first : ℕ) (where_at : ℕ → ℕ) (most high : ℕ) where
    -- the octet of a position
    abbrev pub at : ℕ → ℕ
    at p = content (where_at p)

    abbrev pub sum_of : ToldMapping → ℕ
    sum_of m = dss_checksum (header_of first m) (contents at (natural m.position) (octets_of m))

    abbrev pub Summed : ToldMapping → Type 0
    Summed m = IfSome m.checksum (λ sum. sum ≡ sum_of m)

    abbrev pub Waits : Waiting → Type 0
    Waits w = unwrap_or w.mapping.checksum 0 ≡ sum_of w.mapping

    pub record LaneFine (l : LaneValue) : Type 0 where
      pub line : l.line ≡ None
      pub placed : (p : ℕ) → IfSome (l.placed p) (λ told. (told.image ≡ where_at p) × (told.image < limit))
      pub octets : (p : ℕ) → IfSome (l.octet p) (λ o. o.octet ≡ at p)
      pub there : (p : ℕ) → l.seen p ≡ true → is_some (l.octet p) ≡ true
      pub waiting : All Waits l.waiting
      pub acked : l.acknowledged ≤ most
      pub top : l.top ≤ high

    abbrev pub Fine : StreamValue → LaneValue → Type 0
    Fine s l = StreamFine s × LaneFine l

    -- ---- a finite mapping

    -- the place of each of these positions is that which was told
    clash_none : (told : Option Told) (position place : ℕ) → IfSome told (λ t. t.image ≡ place) → clash_by told position place ≡ None
    clash_none None position place is = refl
    clash_none (Some told) position place is =
        ap (λ (b : Bool). if b then None else Some (OtherPlace position told.image told.teller place)) (eq-eqb told.image place is)

    first_none : (l : LaneValue) → LaneFine l → (position place octets : ℕ) → Sit where_at position place octets → first_clash l.placed position place octets ≡ None
    first_none l h position place zero sit = refl
    first_none l h position place (suc octets) sit =
        ap (λ (o : Option Finding). option_or o (first_clash l.placed (position + 1) (place + 1) octets))
        (clash_none (l.placed position) position place (told_at (l.placed position) (h.placed position)))
        ∙ first_none l h (position + 1) (place + 1) octets
        (λ j below. let at = sit (suc j) (omega (arith, below)) in ap where_at (omega arith) ∙ at ∙ omega arith)
      where
        told_at : (o : Option Told) → IfSome o (λ told. (told.image ≡ where_at position) × (told.image < limit)) → IfSome o (λ told. told.image ≡ place)
        told_at None is = tt
        told_at (Some told) is = is.0 ∙ (let at = sit 0 (omega arith) in ap where_at (omega arith) ∙ at ∙ omega arith)

    -- no position is below 0
    natural_so : (n : ℕ) → int_lt (pos n) (pos 0) ≡ false
    natural_so n = le-ltb n 0 (omega arith)

    -- a mapping that sits there, or has no octets
    abbrev pub Sits : Offer → ℤ → ℕ → Type 0
    Sits offer position place = (mapped_octets offer ≡ 0) ⊎ ((p : ℕ) × (position ≡ pos p) × Sit where_at p place (mapped_octets offer))

    module _ (teller : Teller) (s : StreamValue) (l : LaneValue) (h : Fine s l) (offer : Offer) (place : ℕ) (ends : EndsAt limit offer.fin place offer.length) where
      abbrev end : ℕ
      end = place + mapped_octets offer

      ends_so : (fin : Bool) (length : ℕ) → EndsAt limit fin place length → place + (length - from_bool fin) ≤ limit
      ends_so true length is = omega (arith, is)
      ends_so false length is = omega (arith, is)

      pub within : end ≤ limit
      within = ends_so offer.fin offer.length ends

      at_end : offer.fin ≡ true → end ≡ limit
      at_end is = by offer.fin is ends
        where
          by : (fin : Bool) → fin ≡ true → EndsAt limit fin place offer.length → place + (offer.length - from_bool fin) ≡ limit
          by true is e = e
          by false is e = cc

      octets_so : (position : ℤ) → Sits offer position place → octets_fault teller s l offer position place ≡ None
      octets_so position (inl none) =
          ap (λ (b : Bool). if b then None else (if int_lt position (pos 0) then Some (record { rule = rule.Mapping; finding = NoPosition offer.relative })
          else placed_fault teller s l (natural position) place (mapped_octets offer))) (eq-eqb (mapped_octets offer) 0 none)
      octets_so position (inr sits) = ap (λ (x : ℤ). octets_fault teller s l offer x place) sits.1 ∙ by (mapped_octets offer == 0)
        where
          placed : placed_fault teller s l sits.0 place (mapped_octets offer) ≡ None
          placed =
              ap (λ (o : Option Finding). option_or (by_rule rule.Mapping o) (by_rule rule.Infinite (against_infinite s.infinite teller.flow s.top l.line (pos sits.0) place (mapped_octets offer))))
              (first_none l h.1 sits.0 place (mapped_octets offer) sits.2)
              ∙ ap (λ (o : Option Infinite). by_rule rule.Infinite (against_infinite o teller.flow s.top l.line (pos sits.0) place (mapped_octets offer))) h.0.infinite

          by : (none : Bool) → (if none then None else (if int_lt (pos sits.0) (pos 0) then Some (record { rule = rule.Mapping; finding = NoPosition offer.relative })
              else placed_fault teller s l sits.0 place (mapped_octets offer))) ≡ None
          by true = refl
          by false =
              ap (λ (b : Bool). if b then Some (record { rule = rule.Mapping; finding = NoPosition offer.relative }) else placed_fault teller s l sits.0 place (mapped_octets offer))
              (natural_so sits.0) ∙ placed

      -- nor against a DATA_FIN
      fin_so : fin_fault s.fin s.top end offer.fin ≡ None
      fin_so = by s.fin h.0.fin offer.fin refl
        where
          early : (fin : Bool) → offer.fin ≡ fin → is_too_early s.top end fin ≡ None
          early false same = refl
          early true same =
              let top = h.0.top in let at = at_end same in
              ap (λ (b : Bool). if b then Some (MappedBeyond end s.top) else None) (le-ltb end s.top (omega (arith, top, at)))

          by : (told : Option ToldPlace) → IfSome told (λ t. t.place ≡ limit) → (fin : Bool) → offer.fin ≡ fin → option_or (fin_told told end fin) (is_too_early s.top end fin) ≡ None
          by None is fin same = early fin same
          by (Some told) is true same =
              let at = at_end same in
              ap (λ (b : Bool). option_or (if b then None else Some (OtherFin end told.place told.packet)) (is_too_early s.top end true)) (eq-eqb told.place end (omega (arith, is, at)))
              ∙ early true same
          by (Some told) is false same =
              let upto = within in
              ap (λ (b : Bool). option_or (if b then Some (BeyondFin end told.place told.packet) else None) (is_too_early s.top end false)) (le-ltb told.place end (omega (arith, is, upto)))

      pub fault_so : (position : ℤ) → Sits offer position place → finite_fault teller s l offer position place ≡ None
      fault_so position sits =
          ap (λ (o : Option Finding). option_or (octets_fault teller s l offer position place) (by_rule rule.DataFin o)) fin_so
          ∙ ap (λ (o : Option Broke). option_or o None) (octets_so position sits)

      -- where it is learnt
      fin_learnt : (position : ℤ) (packet : ℕ) → IfSome (fin_after s.fin (told_mapping offer position place).fin end packet) (λ t. t.place ≡ limit)
      fin_learnt position packet = by s.fin h.0.fin offer.fin refl
        where
          by : (told : Option ToldPlace) → IfSome told (λ t. t.place ≡ limit) → (fin : Bool) → offer.fin ≡ fin → IfSome (fin_after told fin end packet) (λ t. t.place ≡ limit)
          by (Some told) is fin same = is
          by None is true same = at_end same
          by None is false same = tt

      top_learnt : max s.top end ≤ limit
      top_learnt = let top = h.0.top in let upto = within in omega (arith, top, upto)

    -- the places that are learnt
    places_so : (l : LaneValue) (packet : ℕ) (mapping : ToldMapping) → mapping.place + octets_of mapping ≤ limit
        → ((octets_of mapping ≡ 0) ⊎ ((p : ℕ) × (mapping.position ≡ pos p) × Sit where_at p mapping.place (octets_of mapping)))
        → LaneFine l → LaneFine (with_places (run_of packet mapping) l)
    places_so l packet mapping upto sits h = record {
      line = h.line;
      octets = h.octets;
      there = h.there;
      waiting = h.waiting;
      acked = h.acked;
      top = h.top;
      placed = λ p. either p (l.placed p) (h.placed p) (told_by (run_of packet mapping) p) (told p);
    }
      where
        Is : ℕ → Told → Type 0
        Is = λ p t. (t.image ≡ where_at p) × (t.image < limit)

        either : (p : ℕ) (one : Option Told) → IfSome one (Is p) → (other : Option Told) → IfSome other (Is p) → IfSome (option_or one other) (Is p)
        either p (Some one) is other more = is
        either p None is other more = more

        within : (p from : ℕ) → natural mapping.position ≡ from → from ≤ p → p < from + octets_of mapping → mapping.place + (p - natural mapping.position) ≡ where_at p
        within p from same low high = by sits
          where
            by : (octets_of mapping ≡ 0) ⊎ ((q : ℕ) × (mapping.position ≡ pos q) × Sit where_at q mapping.place (octets_of mapping))
                → mapping.place + (p - natural mapping.position) ≡ where_at p
            by (inl none) = absurd (omega (arith, none, low, high))
            by (inr sit) =
                let start : natural mapping.position ≡ sit.0 = ap natural sit.1 in
                let at = sit.2 (p - from) (omega (arith, low, high)) in
                sym (ap where_at (let same_start : p ≡ sit.0 + (p - from) = omega (arith, same, start, low) in same_start) ∙ at ∙ omega (arith, same))

        told : (p : ℕ) → IfSome (told_by (run_of packet mapping) p) (Is p)
        told p = by (nat_le (natural mapping.position) p) (nat_lt p (natural mapping.position + octets_of mapping)) refl refl
          where
            by : (low high : Bool) → nat_le (natural mapping.position) p ≡ low → nat_lt p (natural mapping.position + octets_of mapping) ≡ high
                → IfSome (if low && high then Some (image_in (run_of packet mapping) p) else None) (Is p)
            by true true is less =
                let from = leb-true (natural mapping.position) p is in let to = ltb-true p (natural mapping.position + octets_of mapping) less in
                (within p (natural mapping.position) refl from to, omega (arith, from, to, upto))
            by true false is less = tt
            by false high is less = tt

    abbrev pub Holds : Mapped → Type 0
    Holds x = Fine x.stream x.lane × All Summed x.learnt

    finite_by_so : (teller : Teller) (offer : Offer) (position : ℤ) (place : ℕ) (state : Mapped) → EndsAt limit offer.fin place offer.length → Sits offer position place
        → Summed (told_mapping offer position place) → Holds state
        → Holds (finite_by (finite_fault teller state.stream state.lane offer position place) teller.packet (told_mapping offer position place) state)
    finite_by_so teller offer position place state ends sits summed all =
        let h = all.0 in
        subst (λ (o : Option Broke). Holds (finite_by o teller.packet (told_mapping offer position place) state))
        (sym (fault_so teller state.stream state.lane h offer place ends position sits)) (
          (
            record {
              infinite = h.0.infinite;
              fin = fin_learnt teller state.stream state.lane h offer place ends position teller.packet;
              top = top_learnt teller state.stream state.lane h offer place ends;
              octets = h.0.octets;
              below = h.0.below;
              there = h.0.there;
              untold = h.0.untold;
            },
            places_so state.lane teller.packet (told_mapping offer position place) (within teller state.stream state.lane h offer place ends) sits h.1,
          ),
          All-append Summed state.learnt (told_mapping offer position place ∷ []) all.1 (All-cons Summed (told_mapping offer position place) [] summed (All-nil Summed)),
        )

    pub one_so : (teller : Teller) (is : teller.first ≡ first) (offer : Offer) (position : ℕ) (state : Mapped) → OfferIs first limit content where_at position offer → Holds state
        → Holds (mapped_at teller offer (mapping.position_near position offer.relative) state)
    one_so teller is offer near state o all =
        let position = mapping.position_near near offer.relative in
        let more = one_more state in
        subst (λ (b : Bool). Holds (if b then mapped.infinite_at (place_near teller.first state.stream.top offer.number) teller offer position state else finite teller offer position state))
        (sym (ne_eqb offer.length 0 (λ none. let some = o.some in omega (arith, some, none))))
        (subst (λ (p : Option ℕ). Holds (finite_at p teller offer position more)) (sym (place_is o.ends))
        (finite_by_so teller offer position o.place more o.ends (sits o.sits) (summed offer.checksum o.sum) fine))
      where
        h : Fine state.stream state.lane
        h = all.0

        sits : (mapped_octets offer ≡ 0) ⊎ ((offer.relative % 2 ^ 32 ≡ near % 2 ^ 32) × Sit where_at near o.place (mapped_octets offer)) → Sits offer (mapping.position_near near offer.relative) o.place
        sits (inl none) = inl none
        sits (inr both) = inr (near, same_position near offer.relative both.0, both.1)

        fine : Holds (one_more state)
        fine = ((record { infinite = h.0.infinite; fin = h.0.fin; top = h.0.top; octets = h.0.octets; below = h.0.below; there = h.0.there; untold = h.0.untold }, h.1), all.1)

        octets_same : (mapped_octets offer ≡ 0) ⊎ ((offer.relative % 2 ^ 32 ≡ near % 2 ^ 32) × Sit where_at near o.place (mapped_octets offer))
            → contents at near (mapped_octets offer) ≡ contents at (natural (mapping.position_near near offer.relative)) (mapped_octets offer)
        octets_same (inl none) = contents_none at (mapped_octets offer) near (natural (mapping.position_near near offer.relative)) none
        octets_same (inr both) = ap (λ (z : ℤ). contents at (natural z) (mapped_octets offer)) (sym (same_position near offer.relative both.0))

        summed : (sum : Option ℕ) → IfSome sum (λ x. x ≡ dss_checksum (header first o.place offer.relative offer.length) (contents at near (mapped_octets offer)))
            → IfSome sum (λ x. x ≡ sum_of (told_mapping offer (mapping.position_near near offer.relative) o.place))
        summed None right = tt
        summed (Some sum) right =
            right ∙ ap (λ (octets : List ℕ). dss_checksum (header first o.place offer.relative offer.length) octets) (octets_same o.sits)
            ∙ ap (λ (r : ℕ). dss_checksum (header first o.place r offer.length) (contents at (natural (mapping.position_near near offer.relative)) (mapped_octets offer)))
            (sym (relative_so near offer.relative o.low))

        place_is : EndsAt limit offer.fin o.place offer.length → mapped_place teller.first state.stream.top offer ≡ Some o.place
        place_is ends =
            let top = h.0.top in let upto = within teller state.stream state.lane h offer o.place ends in
            ap (option_and_then (λ place. if nat_lt (place + mapped_octets offer) (2 ^ 62) then Some place else None))
            (ap (λ (n : ℕ). place_near n state.stream.top offer.number) is ∙ near_so first state.stream.top o.place offer.number o.number (omega (arith, top, few)) (omega (arith, upto, few)))
            ∙ ap (λ (b : Bool). if b then Some o.place else None) (lt-ltb (o.place + mapped_octets offer) (2 ^ 62) (omega (arith, upto, few)))

    pub offer_so : (teller : Teller) → teller.first ≡ first → (position : ℕ) (offer : Option Offer) (state : Mapped) → IfSome offer (OfferIs first limit content where_at position) → Holds state
        → Holds (mapped_one teller position offer state)
    offer_so teller is position None state o h = h
    offer_so teller is position (Some offer) state o h = one_so teller is offer position state o h

    offers_so : (teller : Teller) → teller.first ≡ first → (position : ℕ) (options : List OptionValue) (state : Mapped) → All (OffersWell first limit content where_at position) options
        → Holds state → Holds (mapped_each teller position options state)
    offers_so teller is position [] state all h = h
    offers_so teller is position (option ∷ options) state all h =
        offers_so teller is position options (mapped_one teller position (offer_of teller.first option) state) (All-tail (OffersWell first limit content where_at position) option options all)
        (offer_so teller is position (offer_of teller.first option) state
        (subst (λ (n : ℕ). IfSome (offer_of n option) (OfferIs first limit content where_at position)) (sym is) (All-head (OffersWell first limit content where_at position) option options all)) h)

    pub mapped_so : (facts : Facts) (known : Option ℕ) → IfSome known (λ n. n ≡ first) → (position : ℕ) (options : List OptionValue) (state : Mapped)
        → All (OffersWell first limit content where_at position) options → Holds state → Holds (mapped_with facts known position options state)
    mapped_so facts None is position options state all h = h
    mapped_so facts (Some known) is position options state all h = offers_so (told_in facts known) is position options state all h

    -- ---- payload

    within_so : (facts : Facts) (position : ℕ) (mappings : List ToldMapping) (s : StreamValue) → StreamFine s → StreamFine (within_each facts position mappings s)
    within_so facts position [] s h = h
    within_so facts position (mapping ∷ mappings) s h =
        within_so facts position mappings (within_one facts position mapping s) (found_so rule.Within facts.packet (within_found facts position mapping) s refl h)

    same_fin : (fin : Option ToldPlace) (at : Option ℕ) (packet : ℕ) → line_fin fin None at packet ≡ fin
    same_fin (Some told) at packet = refl
    same_fin None at packet = refl

    ended_so : (packet : ℕ) (s : StreamValue) (l : LaneValue) → Fine s l → StreamFine (ended_by_fin l packet s)
    ended_so packet s l h = record {
      infinite = h.0.infinite;
      fin = subst (λ (line : Option Line). IfSome (line_fin s.fin line l.fin packet) (λ t. t.place ≡ limit)) (sym h.1.line)
          (subst (λ (o : Option ToldPlace). IfSome o (λ t. t.place ≡ limit)) (sym (same_fin s.fin l.fin packet)) h.0.fin);
      top = h.0.top;
      octets = h.0.octets;
      below = h.0.below;
      there = h.0.there;
      untold = h.0.untold;
    }

    -- an octet that is the place's is no other one
    content_none : (acknowledged place : ℕ) (octet : Option ℕ) (s : StreamValue) → StreamFine s → IfSome octet (λ x. x ≡ content place)
        → content_fault acknowledged s.octet place (as_part octet) ≡ None
    content_none acknowledged place None s h is = ap (λ (part : List ℕ). other_octet (first_other s.octet (max place acknowledged) part)) (none_left (acknowledged - place))
    content_none acknowledged place (Some x) s h is = by (acknowledged - place) refl
      where
        no_other : (was : Option Octet) → IfSome was (λ o. (place < limit) × (o.octet ≡ content place)) → other_by was place x ≡ None
        no_other None has = refl
        no_other (Some was) has =
            ap (λ (b : Bool). if b then None else Some (record { place = place; was = was.octet; teller = was.teller; is = x })) (eq-eqb was.octet x (has.1 ∙ sym is))

        by : (n : ℕ) → acknowledged - place ≡ n → other_octet (first_other s.octet (max place acknowledged) (drop n (x ∷ []))) ≡ None
        by zero none =
            ap (λ (q : ℕ). other_octet (option_or (other_by (s.octet q) q x) None)) (let same : max place acknowledged ≡ place = omega (arith, none) in same)
            ∙ ap (λ (o : Option OtherOctet). other_octet (option_or o None)) (no_other (s.octet place) (h.octets place))
        by (suc n) none = ap (λ (part : List ℕ). other_octet (first_other s.octet (max place acknowledged) part)) (none_left n)

    -- it stays there
    shown_octet : (packet place : ℕ) (octet : Option ℕ) (s : StreamValue) → place < limit → StreamFine s → IfSome octet (λ x. x ≡ content place)
        → (q : ℕ) → IfSome (option_or (s.octet q) (octet_by place (as_part octet) packet q)) (λ o. (q < limit) × (o.octet ≡ content q))
    shown_octet packet place octet s few_one h is q = by (s.octet q) (h.octets q)
      where
        Has : ℕ → Octet → Type 0
        Has = λ q o. (q < limit) × (o.octet ≡ content q)

        new : (octet : Option ℕ) → IfSome octet (λ x. x ≡ content place) → IfSome (octet_by place (as_part octet) packet q) (Has q)
        new None is = none (nat_le place q) (nat_lt q (place + 0)) refl refl
          where
            none : (low high : Bool) → nat_le place q ≡ low → nat_lt q (place + 0) ≡ high → IfSome {T = Octet} (if low && high then Some (record { octet = get_or [] (q - place) 0; teller = packet }) else None) (Has q)
            none false high l m = tt
            none true false l m = tt
            none true true l m = absurd (let from = leb-true place q l in let to = ltb-true q (place + 0) m in omega (arith, from, to))
        new (Some x) is = some (nat_le place q) (nat_lt q (place + 1)) refl refl
          where
            some : (low high : Bool) → nat_le place q ≡ low → nat_lt q (place + 1) ≡ high
                → IfSome {T = Octet} (if low && high then Some (record { octet = get_or (x ∷ []) (q - place) 0; teller = packet }) else None) (Has q)
            some false high l m = tt
            some true false l m = tt
            some true true l m =
                let from = leb-true place q l in let to = ltb-true q (place + 1) m in
                let same : place ≡ q = omega (arith, from, to) in (
                  omega (arith, same, few_one),
                  ap (λ (i : ℕ). get_or (x ∷ []) i 0) (let none : q - place ≡ 0 = omega (arith, same) in none) ∙ is ∙ ap content same,
                )

        by : (was : Option Octet) → IfSome was (Has q) → IfSome (option_or was (octet_by place (as_part octet) packet q)) (Has q)
        by (Some was) has = has
        by None has = new octet is

    shown_below : (place : ℕ) (s : StreamValue) → place < limit → StreamFine s → (q : ℕ) → s.seen q || is_of place 1 q ≡ true → q < limit
    shown_below place s low h q is = by (s.seen q) refl (is_of place 1 q) refl is
      where
        by : (was : Bool) → s.seen q ≡ was → (now : Bool) → is_of place 1 q ≡ now → was || now ≡ true → q < limit
        by true seen now new either = h.below q seen
        by false seen true new either =
            let both = and_parts (nat_le place q) (nat_lt q (place + 1)) new in
            let from = leb-true place q both.0 in let to = ltb-true q (place + 1) both.1 in
            omega (arith, from, to, low)
        by false seen false new either = absurd (false≢true either)

    -- and what is seen is there
    shown_there : (packet place : ℕ) (octet : Option ℕ) (s : StreamValue) → is_some octet ≡ true → StreamFine s → (q : ℕ) → s.seen q || is_of place 1 q ≡ true
        → is_some (option_or (s.octet q) (octet_by place (as_part octet) packet q)) ≡ true
    shown_there packet place None s some h q is = absurd (false≢true some)
    shown_there packet place (Some x) s some h q is =
        stays_held (s.octet q) (s.seen q) (is_of place 1 q) (record { octet = get_or (x ∷ []) (q - place) 0; teller = packet }) (h.there q) is

    -- what comes to a position is its octet, and its place is that which it has
    abbrev Comes : ℕ → Option (Option ℕ) → Type 0
    Comes p come = IfSome come (λ octet. IsSomeAnd octet (λ x. x ≡ at p))

    place_so : (acknowledged packet p : ℕ) (comes : Option (Option ℕ)) (place : Option ℕ) (s : StreamValue) → Comes p comes → IfSome place (λ q. (q ≡ where_at p) × (q < limit))
        → StreamFine s → StreamFine (at_place acknowledged packet comes place s)
    place_so acknowledged packet p None place s come sits h = h
    place_so acknowledged packet p (Some octet) None s come sits h = h
    place_so acknowledged packet p (Some octet) (Some place) s come sits h =
        let is = right octet come in
        let some = comes_some octet come in
        let it : StreamFine (record s { broken = with_found rule.PlaceContent packet (content_fault acknowledged s.octet place (as_part octet)) s.broken }) =
        subst (λ (o : Option Finding). StreamFine (record s { broken = with_found rule.PlaceContent packet o s.broken })) (sym (content_none acknowledged place octet s h is)) (same s h) in
        record { infinite = it.infinite; fin = it.fin; top = it.top; octets = shown_octet packet place octet s sits.1 h is; below = shown_below place s sits.1 h; there = shown_there packet place octet s some h; untold = it.untold }
      where
        same : (s : StreamValue) → StreamFine s → StreamFine (record s { broken = s.broken })
        same s h = record { infinite = h.infinite; fin = h.fin; top = h.top; octets = h.octets; below = h.below; there = h.there; untold = h.untold }

        comes_some : (octet : Option ℕ) → IsSomeAnd octet (λ x. x ≡ at p) → is_some octet ≡ true
        comes_some None is = absurd is
        comes_some (Some x) is = refl

        right : (octet : Option ℕ) → IsSomeAnd octet (λ x. x ≡ at p) → IfSome octet (λ x. x ≡ content place)
        right None is = absurd is
        right (Some x) is = is ∙ ap content (sym sits.0)

    shown_so : (place : ℕ → Option ℕ) (comes : ℕ → Option (Option ℕ)) (acknowledged packet p n : ℕ) (s : StreamValue) → ((q : ℕ) → Comes q (comes q))
        → ((q : ℕ) → IfSome (place q) (λ x. (x ≡ where_at q) × (x < limit))) → StreamFine s → StreamFine (shown_from place comes acknowledged packet p n s)
    shown_so place comes acknowledged packet p zero s come sits h = h
    shown_so place comes acknowledged packet p (suc n) s come sits h =
        shown_so place comes acknowledged packet (p + 1) n (at_place acknowledged packet (comes p) (place p) s) come sits
        (place_so acknowledged packet p (comes p) (place p) s (come p) (sits p) h)

    -- the places of a lane
    pub place_is : (l : LaneValue) → LaneFine l → (p : ℕ) → IfSome (place_of l p) (λ x. (x ≡ where_at p) × (x < limit))
    place_is l h p =
        subst (λ (line : Option Line). IfSome (option_or (option_map (λ told. told.image) (l.placed p)) (line_place line p)) (λ x. (x ≡ where_at p) × (x < limit))) (sym h.line)
        (by (l.placed p) (h.placed p))
      where
        by : (o : Option Told) → IfSome o (λ told. (told.image ≡ where_at p) × (told.image < limit))
            → IfSome (option_or (option_map (λ told. told.image) o) None) (λ x. (x ≡ where_at p) × (x < limit))
        by None is = tt
        by (Some told) is = is

    -- ---- checksums

    -- where each position has its octet
    held_so : (octet : ℕ → Option Octet) → ((p : ℕ) → IfSome (octet p) (λ o. o.octet ≡ at p)) → (position n : ℕ) → all_held octet position n ≡ true
        → held_octets octet position n ≡ contents at position n
    held_so octet is position zero whole = refl
    held_so octet is position (suc n) whole =
        let both = and_parts (is_some (octet position)) (all_held octet (position + 1) n) whole in
        ap (λ (x : ℕ). x ∷ held_octets octet (position + 1) n) (one (octet position) (is position) both.0)
        ∙ ap (λ (xs : List ℕ). at position ∷ xs) (held_so octet is (position + 1) n both.1)
      where
        one : (o : Option Octet) → IfSome o (λ o. o.octet ≡ at position) → is_some o ≡ true → octet_or_0 o ≡ at position
        one None is some = cc
        one (Some o) is some = is

    tried_if_so : (b : Bool) (packet : ℕ) (octet : ℕ → Option Octet) → ((p : ℕ) → IfSome (octet p) (λ o. o.octet ≡ at p)) → (waiting : Waiting) (s : StreamValue)
        → is_whole octet waiting ≡ b → Waits waiting → StreamFine s
        → StreamFine (if b then (record s { sums = counted s.sums; broken = with_found rule.DssSum packet (sum_fault first octet waiting) s.broken }) else s)
    tried_if_so true packet octet is waiting s whole waits h =
        let m = waiting.mapping in
        let expected : expected_sum first octet m ≡ unwrap_or m.checksum 0 =
        ap (λ (octets : List ℕ). dss_checksum (header_of first m) octets) (held_so octet is (natural m.position) (octets_of m) whole) ∙ sym waits in
        let none : sum_fault first octet waiting ≡ None =
        ap (λ (b : Bool). if b || (expected_sum first octet m % 65535 == 0 && unwrap_or m.checksum 0 % 65535 == 0) then None
        else Some (WrongSum m.place m.length waiting.packet (expected_sum first octet m) (unwrap_or m.checksum 0)))
        (eq-eqb (expected_sum first octet m) (unwrap_or m.checksum 0) expected) in
        subst (λ (o : Option Finding). StreamFine (record s { sums = counted s.sums; broken = with_found rule.DssSum packet o s.broken })) (sym none)
        (record { infinite = h.infinite; fin = h.fin; top = h.top; octets = h.octets; below = h.below; there = h.there; untold = h.untold })
    tried_if_so false packet octet is waiting s whole waits h = h

    tried_so : (packet : ℕ) (octet : ℕ → Option Octet) → ((p : ℕ) → IfSome (octet p) (λ o. o.octet ≡ at p)) → (waiting : List Waiting) (s : StreamValue) → All Waits waiting → StreamFine s
        → StreamFine (tried_sums packet first octet waiting s)
    tried_so packet octet is [] s waits h = h
    tried_so packet octet is (one ∷ waiting) s waits h =
        tried_so packet octet is waiting (tried_if_whole packet first octet one s) (All-tail Waits one waiting waits)
        (tried_if_so (is_whole octet one) packet octet is one s refl (All-head Waits one waiting waits) h)

    -- the lane stays, but for those that wait
    sum_lane : (packet : ℕ) (m : ToldMapping) (l : LaneValue) → Summed m → LaneFine l → LaneFine (summed_by packet m l)
    sum_lane packet m l summed h = by m.checksum refl summed (l.summed m)
      where
        one : Waiting
        one = record { mapping = m; packet = packet }

        waits : unwrap_or m.checksum 0 ≡ sum_of m → LaneFine (record l { summed = λ other. l.summed other || same_mapping other m; waiting = l.waiting ++ one ∷ [] })
        waits right = record {
          line = h.line;
          placed = h.placed;
          octets = h.octets;
          there = h.there;
          waiting = All-append Waits l.waiting (one ∷ []) h.waiting (All-cons Waits one [] right (All-nil Waits));
          acked = h.acked;
          top = h.top;
        }

        told : (known : Bool) → unwrap_or m.checksum 0 ≡ sum_of m → LaneFine (if known then l else record l {
          summed = λ other. l.summed other || same_mapping other m;
          waiting = l.waiting ++ one ∷ [];
        })
        told true right = h
        told false right = waits right

        by : (sum : Option ℕ) → m.checksum ≡ sum → IfSome sum (λ x. x ≡ sum_of m) → (known : Bool) → LaneFine (if is_some sum then (if known then l else record l {
          summed = λ other. l.summed other || same_mapping other m;
          waiting = l.waiting ++ one ∷ [];
        }) else l)
        by None is right known = h
        by (Some sum) is right known = told known (ap (λ (o : Option ℕ). unwrap_or o 0) is ∙ right)

    sums_lane : (packet : ℕ) (mappings : List ToldMapping) (l : LaneValue) → All Summed mappings → LaneFine l → LaneFine (with_sums packet mappings l)
    sums_lane packet [] l each h = h
    sums_lane packet (m ∷ mappings) l each h =
        sums_lane packet mappings (summed_by packet m l) (All-tail Summed m mappings each) (sum_lane packet m l (All-head Summed m mappings each) h)

    summed_so : (facts : Facts) (known : Option ℕ) → IfSome known (λ n. n ≡ first) → (learnt : List ToldMapping) (acked : Acked) → All Summed learnt → Fine acked.stream acked.lane
        → Fine (summed facts known learnt acked).stream (summed facts known learnt acked).lane
    summed_so facts None is learnt acked each h = h
    summed_so facts (Some known) is learnt acked each h =
        let lane = with_sums facts.packet learnt acked.lane in
        let fine = sums_lane facts.packet learnt acked.lane each h.1 in (
          subst (λ (n : ℕ). StreamFine (tried_sums facts.packet n lane.octet lane.waiting acked.stream)) (sym is)
              (tried_so facts.packet lane.octet fine.octets lane.waiting acked.stream fine.waiting h.0),
          waits fine,
        )
      where
        waits : {l : LaneValue} → LaneFine l → LaneFine (still_waiting l)
        waits {l} fine = record {
          line = fine.line;
          placed = fine.placed;
          octets = fine.octets;
          there = fine.there;
          waiting = All-filter (λ waiting. not (is_whole l.octet waiting)) Waits l.waiting fine.waiting;
          acked = fine.acked;
          top = fine.top;
        }

    -- ---- Data ACKs and MP_FAIL

    -- a Data ACK up to that place, which was seen
    abbrev pub AckIs : ℕ → StreamValue → OptionValue → Type 0
    AckIs known peers (Dss (Some number) mapping fin) =
        NumberIs known number most × (peers.top < 2 ^ 31) × (most < 2 ^ 31) × (most ≤ behind_fin peers.fin (whole peers.seen 0))
    AckIs known peers _ = Unit {0}

    -- it isn't below the highest one before
    ack_so : (facts : AckFacts) (number : DataNumber) → NumberIs facts.first number most → facts.top < 2 ^ 31 → most < 2 ^ 31
        → most ≤ behind_fin facts.fin facts.whole → IfSome facts.highest (λ highest. highest ≤ most) → ack_place facts number ≡ Ok most
    ack_so facts number is few small behind on =
        ap (ack_by facts number) (near_so facts.first facts.top most number is few small)
        ∙ ap (λ (b : Bool). if b then Err (NotSeen most (most_seen facts)) else not_below facts.highest most) (le-ltb (most_seen facts) most (omega (arith, behind)))
        ∙ highest facts.highest on
      where
        highest : (o : Option ℕ) → IfSome o (λ highest. highest ≤ most) → not_below o most ≡ Ok most
        highest None on = refl
        highest (Some after) on = ap (λ (b : Bool). if b then Err (Falls most after) else Ok most) (le-ltb most after on)

    acked_one_so : (facts : Facts) (known : ℕ) (peers : StreamValue) (option : OptionValue) (acked : Acked) → AckIs known peers option → Fine acked.stream acked.lane
        → Fine (acked_one facts known peers option acked).stream (acked_one facts known peers option acked).lane
    acked_one_so facts known peers (Dss (Some number) mapping fin) acked is h =
        subst (λ (r : Result ℕ Finding). Fine (acked_by r facts.packet (ack_counted acked)).stream (acked_by r facts.packet (ack_counted acked)).lane)
        (sym (ack_so (ack_facts facts.at_sender facts.plain known peers acked.lane) number is.0 is.1 is.2 is.3 (on facts.at_sender))) (
          record { infinite = h.0.infinite; fin = h.0.fin; top = h.0.top; octets = h.0.octets; below = h.0.below; there = h.0.there; untold = h.0.untold },
          record { line = h.1.line; placed = h.1.placed; octets = h.1.octets; there = h.1.there; waiting = h.1.waiting; acked = (let low = h.1.acked in omega (arith, low)); top = h.1.top },
        )
      where
        on : (b : Bool) → IfSome (if b then Some acked.lane.acknowledged else None) (λ highest. highest ≤ most)
        on true = h.1.acked
        on false = tt
    acked_one_so facts known peers option acked is h = h

    acked_so : (facts : Facts) (known : ℕ) (peers : StreamValue) (options : List OptionValue) (acked : Acked) → All (AckIs known peers) options → Fine acked.stream acked.lane
        → Fine (acked_each facts known peers options acked).stream (acked_each facts known peers options acked).lane
    acked_so facts known peers [] acked all h = h
    acked_so facts known peers (option ∷ options) acked all h =
        acked_so facts known peers options (acked_one facts known peers option acked) (All-tail (AckIs known peers) option options all)
        (acked_one_so facts known peers option acked (All-head (AckIs known peers) option options all) h)

    failed_one_so : (packet first : ℕ) (peers : StreamValue) (option : OptionValue) (s : StreamValue) → TellsNoFail option → StreamFine s
        → StreamFine (failed_one packet first peers option s)
    failed_one_so packet first peers (Fail number) s calm h = absurd calm
    failed_one_so packet first peers _ s calm h = h

    failed_so : (packet first : ℕ) (peers : StreamValue) (options : List OptionValue) (s : StreamValue) → All TellsNoFail options → StreamFine s
        → StreamFine (failed_each packet first peers options s)
    failed_so packet first peers [] s calm h = h
    failed_so packet first peers (option ∷ options) s calm h =
        failed_so packet first peers options (failed_one packet first peers option s) (All-tail TellsNoFail option options calm)
        (failed_one_so packet first peers option s (All-head TellsNoFail option options calm) h)

    acks_so : (facts : Facts) (known : Option ℕ) (peers : StreamValue) (options : List OptionValue) (acked : Acked) → All TellsNoFail options
        → IfSome known (λ n. All (AckIs n peers) options) → Fine acked.stream acked.lane
        → Fine (behind_acks facts known peers options acked).stream (behind_acks facts known peers options acked).lane
    acks_so facts None peers options acked calm acks h = h
    acks_so facts (Some known) peers options acked calm acks h =
        let it = acked_so facts known peers options acked acks h in
        (failed_so facts.packet known peers options (acked_each facts known peers options acked).stream calm it.0, it.1)

    -- ---- all of a segment

    -- the octets of a payload, and those that came before
    module _ (facts : Facts) (position : ℕ) (bears : Bears at position facts.seen.segment.payload) (whole : facts.seen.payload_len ≡ length facts.seen.segment.payload) where
      abbrev payload : PayloadValue
      payload = payload_at facts position

      -- each held octet is its position's
      held_is : Bears at payload.from payload.held
      held_is j below =
          let it = part_is (max position 1 - position) (payload_len facts) facts.seen.segment.payload j below in
          it.1 ∙ bears (max position 1 - position + j) it.0 ∙ ap at (let same : position + (max position 1 - position + j) ≡ max position 1 + j = omega arith in same)

      by_payload : (packet p : ℕ) → IfSome (octet_by payload.from payload.held packet p) (λ o. o.octet ≡ at p)
      by_payload packet p = by (nat_le payload.from p) (nat_lt p (payload.from + length payload.held)) refl refl
        where
          by : (low high : Bool) → nat_le payload.from p ≡ low → nat_lt p (payload.from + length payload.held) ≡ high
              → IfSome {T = Octet} (if low && high then Some (record { octet = get_or payload.held (p - payload.from) 0; teller = packet }) else None) (λ o. o.octet ≡ at p)
          by false high l m = tt
          by true false l m = tt
          by true true l m =
              let from = leb-true payload.from p l in let to = ltb-true p (payload.from + length payload.held) m in
              held_is (p - payload.from) (omega (arith, from, to)) ∙ ap at (let same : payload.from + (p - payload.from) ≡ p = omega (arith, from) in same)

      with_octets : (packet : ℕ) (l : LaneValue) → LaneFine l → (p : ℕ) → IfSome ((with_payload payload packet l).octet p) (λ o. o.octet ≡ at p)
      with_octets packet l h p = by (l.octet p) (h.octets p)
        where
          by : (o : Option Octet) → IfSome o (λ o. o.octet ≡ at p) → IfSome (option_or o (octet_by payload.from payload.held packet p)) (λ o. o.octet ≡ at p)
          by (Some o) is = is
          by None is = by_payload packet p

      with_there : (packet : ℕ) (l : LaneValue) → LaneFine l → (p : ℕ) → (with_payload payload packet l).seen p ≡ true → is_some ((with_payload payload packet l).octet p) ≡ true
      with_there packet l h p is =
          stays_held (l.octet p) (l.seen p) (has_place payload.from payload.held p) (record { octet = get_or payload.held (p - payload.from) 0; teller = packet }) (h.there p)
          (⊎_elim (or_left (l.seen p) (has_place payload.from payload.held p))
          (λ now. or_right (l.seen p) (has_place payload.from payload.held p) (has_all facts.seen.segment.head.rst facts.seen.payload_len position facts.seen.segment.payload whole p now))
          (or_cases (l.seen p) (nat_le payload.from p && nat_lt p payload.to) is))

      comes_so : (mapped : Mapped) (l : LaneValue) → ((p : ℕ) → IfSome (l.octet p) (λ o. o.octet ≡ at p)) → ((p : ℕ) → l.seen p ≡ true → is_some (l.octet p) ≡ true)
          → (p : ℕ) → Comes p (comes payload mapped l p)
      comes_so mapped l octets there p =
          by (nat_le payload.from p) (nat_lt p payload.to) (is_mapped_by mapped.learnt mapped.has_line l.line p && l.seen p) refl refl refl
        where
          now : nat_le payload.from p ≡ true → nat_lt p payload.to ≡ true → IsSomeAnd (slice_get payload.held (p - payload.from)) (λ x. x ≡ at p)
          now is less =
              let low = leb-true payload.from p is in
              let all = held_all facts.seen.segment.head.rst facts.seen.payload_len position facts.seen.segment.payload whole p low (ltb-true p payload.to less) in
              subst (λ (o : Option ℕ). IsSomeAnd o (λ x. x ≡ at p)) (sym (slice_get-get_or payload.held (p - payload.from) 0 all))
              (held_is (p - payload.from) all ∙ ap at (let same : payload.from + (p - payload.from) ≡ p = omega (arith, low) in same))

          before : (o : Option Octet) → IfSome o (λ o. o.octet ≡ at p) → is_some o ≡ true → IsSomeAnd (option_map (λ (octet : Octet). octet.octet) o) (λ x. x ≡ at p)
          before None is some = absurd (false≢true some)
          before (Some o) is some = is

          was : is_mapped_by mapped.learnt mapped.has_line l.line p && l.seen p ≡ true → IsSomeAnd (octet_of l p) (λ x. x ≡ at p)
          was m = before (l.octet p) (octets p) (there p (and_parts (is_mapped_by mapped.learnt mapped.has_line l.line p) (l.seen p) m).1)

          by : (low high m : Bool) → nat_le payload.from p ≡ low → nat_lt p payload.to ≡ high → is_mapped_by mapped.learnt mapped.has_line l.line p && l.seen p ≡ m
              → Comes p (if low && high then Some (slice_get payload.held (p - payload.from)) else (if m then Some (octet_of l p) else None))
          by true true m is less told = now is less
          by true false true is less told = was told
          by true false false is less told = tt
          by false high true is less told = was told
          by false high false is less told = tt

    payload_so : (facts : Facts) (position acknowledged : ℕ) (mapped : Mapped) → Bears at position facts.seen.segment.payload
        → facts.seen.payload_len ≡ length facts.seen.segment.payload → (payload_at facts position).to ≤ high
        → Fine mapped.stream mapped.lane
        → Fine (behind_payload facts position acknowledged mapped).stream (behind_payload facts position acknowledged mapped).lane
    payload_so facts position acknowledged mapped bears whole ends h =
        let payload = payload_at facts position in
        let lane = with_payload payload facts.packet mapped.lane in
        let octets = with_octets facts position bears whole facts.packet mapped.lane h.1 in
        let there = with_there facts position bears whole facts.packet mapped.lane h.1 in
        let fine : LaneFine lane = record {
          line = h.1.line;
          placed = h.1.placed;
          octets = octets;
          there = there;
          waiting = h.1.waiting;
          acked = h.1.acked;
          top = let low = h.1.top in omega (arith, low, ends);
        } in
        let s = within_each facts position mapped.learnt mapped.stream in (
          shown_so (place_of lane) (comes payload mapped lane) acknowledged facts.packet 1 (lane.top - 1) (ended_by_fin mapped.lane facts.packet s)
              (comes_so facts position bears whole mapped lane octets there) (place_is lane fine)
              (ended_so facts.packet s mapped.lane (within_so facts position mapped.learnt mapped.stream h.0, h.1)),
          fine,
        )

    pub at_so : (facts : Facts) (position : ℕ) (options : List OptionValue) (keys : Keys) (peers s : StreamValue) (l : LaneValue) → IfSome (first_of facts.side keys) (λ n. n ≡ first)
        → All (OffersWell first limit content where_at position) options → All TellsNoFail options → IfSome (first_of (peer facts.side) keys) (λ n. All (AckIs n peers) options)
        → Bears at position facts.seen.segment.payload → facts.seen.payload_len ≡ length facts.seen.segment.payload → (payload_at facts position).to ≤ high → Fine s l
        → Fine (judged_at facts position options keys peers s l).stream (judged_at facts position options keys peers s l).lane
    at_so facts position options keys peers s l is all calm acks bears whole ends h =
        let before : Mapped = record { stream = s; lane = fin_taken facts position l; learnt = []; has_line = false } in
        let mapped = mapped_with facts (first_of facts.side keys) position options before in
        let held = mapped_so facts (first_of facts.side keys) is position options before all ((h.0, fin_lane facts.seen.segment.head.fin), All-nil Summed) in
        let paid = behind_payload facts position peers.acknowledged mapped in
        acks_so facts (first_of (peer facts.side) keys) peers options (summed facts (first_of facts.side keys) mapped.learnt paid) calm acks
        (summed_so facts (first_of facts.side keys) is mapped.learnt paid held.1 (payload_so facts position peers.acknowledged mapped bears whole ends held.0))
      where
        fin_lane : (b : Bool) → LaneFine (if b then with_fin (position + facts.seen.payload_len) l else l)
        fin_lane true = record { line = h.1.line; placed = h.1.placed; octets = h.1.octets; there = h.1.there; waiting = h.1.waiting; acked = h.1.acked; top = h.1.top }
        fin_lane false = h.1
