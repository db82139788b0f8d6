-- Where each infinite mapping of a side's segments gives the positions behind it the places that they have (RFC 8684, section 3.7), and all payload stands
-- among the positions of its lane, what comes to a place is its octet: none of them breaks `place-content`. Where a FIN stands so that the infinite
-- mapping gives it the end of the stream, none breaks `data-fin`. And where all infinite mappings of a side are told on one path, with one place less
-- position, and nothing is mapped on other paths behind them, none breaks `infinite`.
use Rattle.std.proofs.Common.{◌≡◌, refl, sym, ap, ◌∙◌, subst, ℕ, ℤ, zero, suc, ◌⊎◌, inl, inr, ⊎_elim, ◌+◌, ◌-◌, ◌%◌, ◌<◌, ◌≤◌, ◌^◌, ◌==◌, ◌&&◌, ◌||◌, not, max, pos, negsuc, nat_le, nat_lt, Bool, true, false, if◌then◌else◌, Option, Some, None, is_some, Result, Ok, Err, List, [], ◌∷◌, ◌++◌, drop, length, arith}
use Rattle.std.specs.Prelude.{All, IfSome, IsSomeAnd, get_or, int_lt, slice_get, ◌-ℤ◌}
use Rattle.std.specs.Int.{from_bool}
use Rattle.std.specs.Option.{option_map, option_or}
use Rattle.std.specs.Ordering.{int_eq}
use Rattle.std.proofs.lemmas.Bool.Decides.{Decides-int_eq}
use Rattle.std.proofs.lemmas.Int.{ints}
use Rattle.std.proofs.lemmas.Bool.{and_parts, eq-eqb, false≢true, le-ltb, leb-true, ltb-true, ne_eqb, or_cases, or_left, or_right}
use Rattle.std.proofs.lemmas.List.Elements.{All-head, All-tail}
use Rattle.std.proofs.lemmas.Option.{slice_get-get_or}
use Rattle.first_runs.specs.Runs.{Told}
use Rattle.judge_rules.specs.Acks.{ack_place}
use Rattle.judge_rules.specs.Clashes.{first_clash}
use Rattle.judge_rules.specs.Mappings as mapping
use Rattle.judge_rules.specs.Mappings.{after_line, elsewhere, fin_fault, fin_told, is_too_early, mapped_octets, mapped_place, natural, offer_of, place_on_line, reaches_past, shift_of}
use Rattle.judge_rules.specs.Numbers.{place_near}
use Rattle.judge_rules.specs.declared.acks.ToldPlace.{ToldPlace}
use Rattle.judge_rules.specs.declared.finding.Finding.{Finding}
use Rattle.judge_rules.specs.declared.finding.Finding.TheVariants.{AfterInfinite, BeyondFin, MappedBeyond, NoMapping, NoPosition, OtherFin}
use Rattle.judge_rules.specs.declared.finding.Rule.{Rule}
use Rattle.judge_rules.specs.declared.finding.Rule.TheVariants as rule
use Rattle.judge_rules.specs.declared.mappings.Line.{Line}
use Rattle.judge_rules.specs.declared.mappings.Offer.{Offer}
use Rattle.mptcp_options.specs.Value.{OptionValue, Dss, Fail}
use Rattle.rule_book.specs.Facts.{Facts, first_of, payload_at, payload_len}
use Rattle.rule_book.specs.Stream.{acked_each, acked_one, behind_acks, behind_payload, failed_each, failed_one, fin_taken, judged_at, mapped_each, mapped_one, mapped_with, summed, told_in, within_each, within_found, within_one}
use Rattle.seen_connections.specs.declared.connections.Keys.{Keys}
use Rattle.seen_octets.specs.Octets.{has_place, octet_by}
use Rattle.seen_octets.specs.Others.{first_other, other_by}
use Rattle.seen_octets.specs.declared.octet.Octet.{Octet}
use Rattle.seen_octets.specs.declared.octet.OtherOctet.{OtherOctet}
use Rattle.seen_streams.specs.Acks.{Acked, ack_counted, ack_facts, acked_by, ended_by_fin, fin_place, fin_told as line_fin, named_place}
use Rattle.seen_streams.specs.Content.{PayloadValue, as_part, at_place, comes, content_fault, is_mapped_by, octet_of, other_octet, shown_from, with_payload}
use Rattle.seen_streams.specs.Mapped as mapped
use Rattle.seen_streams.specs.Mapped.{Mapped, against_infinite, by_rule, fin_after, finite, finite_at, finite_by, finite_fault, infinite_after, infinite_by, line_fault, lowest_line, mapped_at, octets_fault, one_more, placed_fault, told_mapping}
use Rattle.seen_streams.specs.Positions.{with_fin}
use Rattle.seen_streams.specs.Same.{same_mapping}
use Rattle.seen_streams.specs.State.{FaultValue, Found, is_of, LaneValue, StreamValue, line_place, place_of, with_broken, with_found}
use Rattle.seen_streams.specs.Sums.{is_whole, sum_fault, summed_by, tried_if_whole, tried_sum, tried_sums, with_sums}
use Rattle.seen_streams.specs.declared.told.Broke.{Broke}
use Rattle.seen_streams.specs.declared.told.Infinite.{Infinite}
use Rattle.seen_streams.specs.declared.told.Teller.{Teller}
use Rattle.seen_streams.specs.declared.told.ToldMapping.{ToldMapping}
use Rattle.seen_streams.specs.declared.told.Waiting.{Waiting}
use Rattle.sides.specs.Side.{peer}
use Rattle.sides.specs.declared.side.Side.{Side}
use Rattle.own_runs.proofs.FinePositions.{EndsAt, NumberIs, near_so}
use Rattle.own_runs.proofs.LanePlaces as lane
use Rattle.own_runs.proofs.LanePlaces.{LanePlaced, StreamPlaced}
use Rattle.own_runs.proofs.MapPositions.{Bears, OfferIs, Sit}
use Rattle.own_runs.proofs.OwnPositions.{same_position}
use Rattle.own_runs.proofs.PayloadHeld.{has_all, held_all, none_left, stays_held}
use Rattle.own_runs.proofs.Telling.{Untold, others_keep}

-- those on octets, on the end of a stream and on infinite mappings
abbrev pub is_line : Rule → Bool
is_line rule.PlaceContent = true
is_line rule.DataFin = true
is_line rule.Infinite = true
is_line _ = false

-- the last of some octets that reach past a line's position, and have the place that it gives them: place less position is the line's
line_shift : (line : Line) (near place octets last : ℕ) → 1 ≤ octets → reaches_past line.position (pos near) octets ≡ true → IfSome (place_on_line line (near + (octets - 1))) (λ q. q ≡ last)
    → last ≡ place + (octets - 1) → shift_of place (pos near) ≡ shift_of line.place line.position
line_shift line near place octets last some past on is = by line.position past on
  where
    behind : (k : ℕ) → k ≤ near + (octets - 1) → line.place + natural (pos (near + (octets - 1)) -ℤ pos k) ≡ last → shift_of place (pos near) ≡ shift_of line.place (pos k)
    behind k low at = behind_by (near + (octets - 1)) refl low at
      where
        behind_by : (q : ℕ) → q ≡ near + (octets - 1) → k ≤ q → line.place + natural (pos q -ℤ pos k) ≡ last → shift_of place (pos near) ≡ shift_of line.place (pos k)
        behind_by q of low at =
            let less : natural (pos q -ℤ pos k) ≡ q - k = ap natural (let same : pos q -ℤ pos k ≡ pos (q - k) = omega (arith, ints, low) in same) in
            omega (arith, ints, of, low, at, less, is, some)

    by : (z : ℤ) → reaches_past z (pos near) octets ≡ true → IfSome (place_on_line (record { position = z; place = line.place }) (near + (octets - 1))) (λ q. q ≡ last)
        → shift_of place (pos near) ≡ shift_of line.place z
    by (pos k) past on =
        let reach = ltb-true k (near + octets) past in
        let low : k ≤ near + (octets - 1) = omega (arith, reach, some) in
        behind k low (subst (λ (b : Bool). IfSome (if b then None else Some (line.place + natural (pos (near + (octets - 1)) -ℤ pos k))) (λ q. q ≡ last)) (le-ltb (near + (octets - 1)) k low) on)
    by (negsuc k) past on =
        let more : natural (pos (near + (octets - 1)) -ℤ negsuc k) ≡ near + (octets - 1) + suc k =
        ap natural (let same : pos (near + (octets - 1)) -ℤ negsuc k ≡ pos (near + (octets - 1) + suc k) = omega (arith, ints) in same) in
        omega (arith, ints, on, more, is, some)

-- lines of a path have one place less position, and there is none where one of another path is known
pub record LinesAgree (IsLine : Line → Type 0) (Away : Type 0) : Type 0 where
  pub one : (l m : Line) → IsLine l → IsLine m → shift_of l.place l.position ≡ shift_of m.place m.position
  pub never : (l : Line) → IsLine l → Away → ⊥

-- such a line of a side on another path
abbrev pub IsAway : (ℕ → Side → Line → Type 0) → ℕ → Side → Type 0
IsAway IsLine path s = (q : ℕ) × (m : Line) × (q ≡ path → ⊥) × IsLine q s m

-- an infinite mapping that was learnt is of this flow, whose lane has its line, or of another path
abbrev pub LinkedTo : Type 0 → ℕ → Option Infinite → Option Line → Type 0
LinkedTo Away index infinite line = IfSome infinite (λ i. ((i.flow ≡ index) × (is_some line ≡ true)) ⊎ Away)

module _ (limit : ℕ) (few : limit < 2 ^ 31) (content : ℕ → ℕ) where
  -- each place that was seen has its octet, and is one of the stream's, the DATA_FIN stands at the end, and the rules weren't broken
  pub record StreamLined (s : StreamValue) : Type 0 where
    pub octets : (q : ℕ) → IfSome (s.octet q) (λ o. (q < limit) × (o.octet ≡ content q))
    pub there : (q : ℕ) → s.seen q ≡ true → is_some (s.octet q) ≡ true
    pub fin : IfSome s.fin (λ told. told.place ≡ limit)
    pub untold : Untold is_line s.broken

  tell_so : (r : Rule) (packet : ℕ) (fault : FaultValue) (s : StreamValue) → is_line r ≡ false → StreamLined s
      → StreamLined (record s { broken = with_broken (record { rule = r; packet = packet; fault = fault }) s.broken })
  tell_so r packet fault s other h = record { octets = h.octets; there = h.there; fin = h.fin; untold = others_keep is_line r packet fault s.broken other h.untold }

  found_so : (r : Rule) (packet : ℕ) (finding : Option Finding) (s : StreamValue) → is_line r ≡ false → StreamLined s
      → StreamLined (record s { broken = with_found r packet finding s.broken })
  found_so r packet None s other h = record { octets = h.octets; there = h.there; fin = h.fin; untold = h.untold }
  found_so r packet (Some finding) s other h = tell_so r packet (Found finding) s other h

  -- where the positions of a lane up to one have these places, and its FIN stands at such a position
  module _ (first : ℕ) (where_at : ℕ → ℕ) (upto : ℕ) (IsEnd : ℕ → Type 0) (IsLine : Line → Type 0) (Away : Type 0) where
    abbrev at : ℕ → ℕ
    at p = content (where_at p)

    -- a line gives each of them its place, and the FIN the end of the stream
    pub record LineIs (line : Line) : Type 0 where
      pub places : (p : ℕ) → p ≤ upto → IfSome (place_on_line line p) (λ q. q ≡ where_at p)
      pub end : (p : ℕ) → IsEnd p → IfSome (place_on_line line p) (λ q. q ≡ limit)
      pub is : IsLine line

    -- what maps octets maps those of the lane, and no line of another path is known
    abbrev pub Fits : ℕ → Offer → Type 0
    Fits near offer = (mapped_octets offer ≡ 0) ⊎ ((near + mapped_octets offer ≤ suc upto) × (Away → ⊥))

    -- an infinite mapping in a segment at a position
    pub record InfiniteLined (near : ℕ) (offer : Offer) : Type 0 where
      pub place : ℕ
      pub number : NumberIs first offer.number place
      pub small : place < 2 ^ 31
      pub none : offer.length ≡ 0
      pub line : LineIs (record { position = mapping.position_near near offer.relative; place = place })

    abbrev pub OptionLined : ℕ → OptionValue → Type 0
    OptionLined near option = IfSome (offer_of first option) (λ offer. (OfferIs first limit content where_at near offer × Fits near offer) ⊎ InfiniteLined near offer)

    -- and what was seen on it ends so
    module _ (high : ℕ) where
      pub record LaneLined (l : LaneValue) : Type 0 where
        pub line : IfSome l.line LineIs
        pub seen : (p : ℕ) → l.seen p ≡ true → p ≤ upto
        pub there : (p : ℕ) → l.seen p ≡ true → is_some (l.octet p) ≡ true
        pub fin : IfSome l.fin IsEnd
        pub top : l.top ≤ high

      abbrev pub Lined : StreamValue → LaneValue → Type 0
      Lined s l = StreamLined s × LaneLined l

      abbrev pub Placed : StreamValue → LaneValue → Type 0
      Placed s l = StreamPlaced false limit s × LanePlaced false limit few content first where_at l

      abbrev Holds : Mapped → Type 0
      Holds x = Lined x.stream x.lane

      -- ---- a finite mapping

      abbrev Other : Option Broke → Type 0
      Other o = IfSome o (λ broke. is_line broke.rule ≡ false)

      infinite_other : (o : Option Finding) → o ≡ None → Other (by_rule rule.Infinite o)
      infinite_other None none = tt
      infinite_other (Some finding) none = cc

      abbrev Linked : Teller → StreamValue → LaneValue → Type 0
      Linked teller s l = LinkedTo Away teller.flow s.infinite l.line

      -- what maps octets of the lane goes on as the line says
      goes_on_so : (line : Line) → LineIs line → (near place octets : ℕ) → 1 ≤ octets → near + octets ≤ suc upto → Sit where_at near place octets → after_line line (pos near) place octets ≡ false
      goes_on_so line is near place octets some within sit = by (reaches_past line.position (pos near) octets) refl
        where
          by : (b : Bool) → reaches_past line.position (pos near) octets ≡ b → b && not (int_eq (shift_of place (pos near)) (shift_of line.place line.position)) ≡ false
          by false e = refl
          by true e =
              let at : where_at (near + (octets - 1)) ≡ place + (octets - 1) = sit (octets - 1) (omega (arith, some)) in
              let on : IfSome (place_on_line line (near + (octets - 1))) (λ q. q ≡ where_at (near + (octets - 1))) = is.places (near + (octets - 1)) (omega (arith, some, within)) in
              let same = line_shift line near place octets (where_at (near + (octets - 1))) some e on at in
              ap not ((Decides-int_eq (shift_of place (pos near)) (shift_of line.place line.position)).1 same)

      against_none : (teller : Teller) (s : StreamValue) (l : LaneValue) → Linked teller s l → IfSome l.line LineIs → (Away → ⊥) → (near place octets : ℕ) → 1 ≤ octets
          → near + octets ≤ suc upto → Sit where_at near place octets → against_infinite s.infinite teller.flow s.top l.line (pos near) place octets ≡ None
      against_none teller s l linked lined away near place octets some within sit = by s.infinite l.line linked lined
        where
          by : (infinite : Option Infinite) (line : Option Line) → LinkedTo Away teller.flow infinite line → IfSome line LineIs → against_infinite infinite teller.flow s.top line (pos near) place octets ≡ None
          by None line linked lined = refl
          by (Some i) line (inr other) lined = absurd (away other)
          by (Some i) None (inl here) lined = absurd (false≢true here.1)
          by (Some i) (Some line) (inl here) lined =
              ap (λ (b : Bool). if (if b then after_line line (pos near) place octets else elsewhere s.top i.place (place + octets)) then Some (AfterInfinite (pos near) place i.packet) else None)
              (eq-eqb i.flow teller.flow here.0)
              ∙ ap (λ (b : Bool). if b then Some (AfterInfinite (pos near) place i.packet) else None) (goes_on_so line lined near place octets some within sit)

      octets_other : (teller : Teller) (s : StreamValue) (l : LaneValue) → Linked teller s l → IfSome l.line LineIs → (near : ℕ) (offer : Offer)
          → (o : OfferIs first limit content where_at near offer) → Fits near offer → Other (octets_fault teller s l offer (mapping.position_near near offer.relative) o.place)
      octets_other teller s l linked lined near offer o fits = by (mapped_octets offer == 0) refl o.sits fits
        where
          fault_at : ℤ → Bool → Bool → Option Broke
          fault_at position none low =
              if none then None else (if low then Some (record { rule = rule.Mapping; finding = NoPosition offer.relative })
              else placed_fault teller s l (natural position) o.place (mapped_octets offer))

          some : (mapped_octets offer == 0) ≡ false → 1 ≤ mapped_octets offer
          some e = by (mapped_octets offer) e
            where
              by : (n : ℕ) → (n == 0) ≡ false → 1 ≤ n
              by zero e = absurd (false≢true (sym e))
              by (suc n) e = omega arith

          clash_or : (clash against : Option Finding) → (against ≡ None) → Other (option_or (by_rule rule.Mapping clash) (by_rule rule.Infinite against))
          clash_or (Some finding) against none = refl
          clash_or None against none = infinite_other against none

          low_or : (low : Bool) → Other (placed_fault teller s l near o.place (mapped_octets offer)) → Other (fault_at (pos near) false low)
          low_or true other = refl
          low_or false other = other

          by : (b : Bool) → (mapped_octets offer == 0) ≡ b → (mapped_octets offer ≡ 0) ⊎ ((offer.relative % 2 ^ 32 ≡ near % 2 ^ 32) × Sit where_at near o.place (mapped_octets offer)) → Fits near offer
              → Other (fault_at (mapping.position_near near offer.relative) b (int_lt (mapping.position_near near offer.relative) (pos 0)))
          by true e sits fits = tt
          by false e (inl none) fits = absurd (let least = some e in omega (arith, least, none))
          by false e (inr sits) (inl none) = absurd (let least = some e in omega (arith, least, none))
          by false e (inr sits) (inr fit) =
              subst (λ (z : ℤ). Other (fault_at z false (int_lt z (pos 0)))) (sym (same_position near offer.relative sits.0))
              (low_or (int_lt (pos near) (pos 0))
              (clash_or (first_clash l.placed near o.place (mapped_octets offer)) (against_infinite s.infinite teller.flow s.top l.line (pos near) o.place (mapped_octets offer))
              (against_none teller s l linked lined fit.1 near o.place (mapped_octets offer) (some e) fit.0 sits.1)))

      -- nothing is mapped behind the end
      module _ (s : StreamValue) (top : s.top ≤ limit) (fin : IfSome s.fin (λ told. told.place ≡ limit)) (offer : Offer) (place : ℕ) (is : EndsAt limit offer.fin place offer.length) where
        abbrev end : ℕ
        end = place + mapped_octets offer

        within_so : (fin : Bool) → EndsAt limit fin place offer.length → place + (offer.length - from_bool fin) ≤ limit
        within_so true is = omega (arith, is)
        within_so false is = omega (arith, is)

        at_end : (fin : Bool) → fin ≡ true → EndsAt limit fin place offer.length → place + (offer.length - from_bool fin) ≡ limit
        at_end true same is = is
        at_end false same is = cc

        fin_so : fin_fault s.fin s.top end offer.fin ≡ None
        fin_so = by s.fin fin offer.fin refl
          where
            early : (told : Bool) → offer.fin ≡ told → is_too_early s.top end told ≡ None
            early false same = refl
            early true same =
                let last = at_end offer.fin same is in
                ap (λ (b : Bool). if b then Some (MappedBeyond end s.top) else None) (le-ltb end s.top (omega (arith, top, last)))

            by : (o : Option ToldPlace) → IfSome o (λ t. t.place ≡ limit) → (told : Bool) → offer.fin ≡ told → option_or (fin_told o end told) (is_too_early s.top end told) ≡ None
            by None at told same = early told same
            by (Some t) at true same =
                let last = at_end offer.fin same is in
                ap (λ (b : Bool). option_or (if b then None else Some (OtherFin end t.place t.packet)) (is_too_early s.top end true)) (eq-eqb t.place end (omega (arith, at, last)))
                ∙ early true same
            by (Some t) at false same =
                let most = within_so offer.fin is in
                ap (λ (b : Bool). option_or (if b then Some (BeyondFin end t.place t.packet) else None) (is_too_early s.top end false)) (le-ltb t.place end (omega (arith, at, most)))

        fin_learnt : (position : ℤ) (packet : ℕ) → IfSome (fin_after s.fin (told_mapping offer position place).fin end packet) (λ t. t.place ≡ limit)
        fin_learnt position packet = by s.fin fin offer.fin refl
          where
            by : (o : Option ToldPlace) → IfSome o (λ t. t.place ≡ limit) → (told : Bool) → offer.fin ≡ told → IfSome (fin_after o told end packet) (λ t. t.place ≡ limit)
            by (Some t) at told same = at
            by None at true same = at_end offer.fin same is
            by None at false same = tt

      fault_so : (teller : Teller) (s : StreamValue) (l : LaneValue) → s.top ≤ limit → StreamLined s → (offer : Offer) (position : ℤ) (place : ℕ) → EndsAt limit offer.fin place offer.length
          → Other (octets_fault teller s l offer position place) → Other (finite_fault teller s l offer position place)
      fault_so teller s l top h offer position place is octets =
          by (octets_fault teller s l offer position place) octets (fin_fault s.fin s.top (place + mapped_octets offer) offer.fin) (fin_so s top h.fin offer place is)
        where
          by : (o : Option Broke) → Other o → (fin : Option Finding) → fin ≡ None → Other (option_or o (by_rule rule.DataFin fin))
          by (Some broke) is fin none = is
          by None is None none = tt
          by None is (Some finding) none = cc

      finite_by_so : (fault : Option Broke) → Other fault → (packet : ℕ) (offer : Offer) (position : ℤ) (place : ℕ) (state : Mapped) → state.stream.top ≤ limit → EndsAt limit offer.fin place offer.length → Holds state
          → Holds (finite_by fault packet (told_mapping offer position place) state)
      finite_by_so (Some broke) other packet offer position place state top is h = (tell_so broke.rule packet (Found broke.finding) state.stream other h.0, h.1)
      finite_by_so None other packet offer position place state top is h = (
        record { octets = h.0.octets; there = h.0.there; fin = fin_learnt state.stream top h.0.fin offer place is position packet; untold = h.0.untold },
        record { line = h.1.line; seen = h.1.seen; there = h.1.there; fin = h.1.fin; top = h.1.top },
      )

      finite_so : (teller : Teller) → teller.first ≡ first → (near : ℕ) (offer : Offer) (state : Mapped) → OfferIs first limit content where_at near offer × Fits near offer → state.stream.top ≤ limit
          → Holds state → Linked teller state.stream state.lane → Holds (finite teller offer (mapping.position_near near offer.relative) state)
      finite_so teller is near offer state both top h linked =
          let position = mapping.position_near near offer.relative in
          let more = one_more state in
          let held : Holds more = (record { octets = h.0.octets; there = h.0.there; fin = h.0.fin; untold = h.0.untold }, h.1) in
          subst (λ (p : Option ℕ). Holds (finite_at p teller offer position more)) (sym (lane.mapped_place_is false limit few content first where_at teller is near offer state.stream.top both.0 top))
          (finite_by_so (finite_fault teller more.stream more.lane offer position both.0.place)
          (fault_so teller more.stream more.lane top held.0 offer position both.0.place both.0.ends (octets_other teller more.stream more.lane linked h.1.line near offer both.0 both.1))
          teller.packet offer position both.0.place more top both.0.ends held)

      -- ---- an infinite one

      lowest_so : (old : Option Line) (position : ℤ) (place : ℕ) → IfSome old LineIs → LineIs (record { position = position; place = place }) → LineIs (lowest_line old position place)
      lowest_so None position place was new = new
      lowest_so (Some line) position place was new = by (int_lt position line.position)
        where
          by : (b : Bool) → LineIs (if b then record { position = position; place = place } else line)
          by true = new
          by false = was

      agrees_so : LinesAgree IsLine Away → (teller : Teller) (infinite : Option Infinite) (old : Option Line) (line : Line) → LinkedTo Away teller.flow infinite old → IfSome old LineIs → LineIs line
          → line_fault infinite teller.flow old line.position line.place ≡ None
      agrees_so agree teller None old line linked lined new = refl
      agrees_so agree teller (Some i) old line (inr other) lined new = absurd (agree.never line new.is other)
      agrees_so agree teller (Some i) None line (inl here) lined new = absurd (false≢true here.1)
      agrees_so agree teller (Some i) (Some old) line (inl here) lined new =
          ap (λ (b : Bool). if b && int_eq (shift_of line.place line.position) (shift_of old.place old.position) then None else Some (AfterInfinite line.position line.place i.packet))
          (eq-eqb i.flow teller.flow here.0)
          ∙ ap (λ (b : Bool). if b then None else Some (AfterInfinite line.position line.place i.packet))
          ((Decides-int_eq (shift_of line.place line.position) (shift_of old.place old.position)).1 (agree.one line old new.is lined.is))

      infinite_so : LinesAgree IsLine Away → (teller : Teller) → teller.first ≡ first → (near : ℕ) (offer : Offer) (state : Mapped) → InfiniteLined near offer → state.stream.top ≤ limit → Holds state
          → Linked teller state.stream state.lane → Holds (mapped.infinite_at (place_near teller.first state.stream.top offer.number) teller offer (mapping.position_near near offer.relative) state)
      infinite_so agree teller is near offer state o top h linked =
          subst (λ (p : Option ℕ). Holds (mapped.infinite_at p teller offer position state)) (sym place_is)
          (by (line_fault state.stream.infinite teller.flow state.lane.line position o.place)
          (agrees_so agree teller state.stream.infinite state.lane.line (record { position = position; place = o.place }) linked h.1.line o.line))
        where
          position : ℤ
          position = mapping.position_near near offer.relative

          place_is : place_near teller.first state.stream.top offer.number ≡ Some o.place
          place_is = ap (λ (n : ℕ). place_near n state.stream.top offer.number) is ∙ near_so first state.stream.top o.place offer.number o.number (omega (arith, top, few)) o.small

          by : (fault : Option Finding) → fault ≡ None → Holds (infinite_by fault teller position o.place state)
          by (Some finding) none = cc
          by None none = (
            record { octets = h.0.octets; there = h.0.there; fin = h.0.fin; untold = h.0.untold },
            record { line = lowest_so state.lane.line position o.place h.1.line o.line; seen = h.1.seen; there = h.1.there; fin = h.1.fin; top = h.1.top },
          )

      -- the flow of what was learnt, and its line, stay known
      linked_finite : (place : Option ℕ) (teller : Teller) (offer : Offer) (position : ℤ) (state : Mapped) → Linked teller state.stream state.lane
          → Linked teller (finite_at place teller offer position state).stream (finite_at place teller offer position state).lane
      linked_finite None teller offer position state h = h
      linked_finite (Some place) teller offer position state h = by (finite_fault teller state.stream state.lane offer position place)
        where
          by : (fault : Option Broke) → Linked teller (finite_by fault teller.packet (told_mapping offer position place) state).stream (finite_by fault teller.packet (told_mapping offer position place) state).lane
          by (Some broke) = h
          by None = h

      linked_infinite : (place : Option ℕ) (teller : Teller) (offer : Offer) (position : ℤ) (state : Mapped) → Linked teller state.stream state.lane
          → Linked teller (mapped.infinite_at place teller offer position state).stream (mapped.infinite_at place teller offer position state).lane
      linked_infinite None teller offer position state h = h
      linked_infinite (Some place) teller offer position state h = by (line_fault state.stream.infinite teller.flow state.lane.line position place)
        where
          line : Line
          line = lowest_line state.lane.line position place

          after : (old : Option Infinite) (was : Option Line) → LinkedTo Away teller.flow old was → LinkedTo Away teller.flow (Some (infinite_after old teller line.place)) (Some line)
          after None was h = inl (refl, refl)
          after (Some i) was (inl here) = inl (here.0, refl)
          after (Some i) was (inr other) = inr other

          by : (fault : Option Finding) → Linked teller (infinite_by fault teller position place state).stream (infinite_by fault teller position place state).lane
          by (Some finding) = h
          by None = after state.stream.infinite state.lane.line h

      linked_one : (teller : Teller) (near : ℕ) (offer : Option Offer) (state : Mapped) → Linked teller state.stream state.lane
          → Linked teller (mapped_one teller near offer state).stream (mapped_one teller near offer state).lane
      linked_one teller near None state h = h
      linked_one teller near (Some offer) state h = by (offer.length == 0)
        where
          position : ℤ
          position = mapping.position_near near offer.relative

          Is : Mapped → Type 0
          Is = λ x. Linked teller x.stream x.lane

          by : (b : Bool) → Is (if b then mapped.infinite_at (place_near teller.first state.stream.top offer.number) teller offer position state else finite teller offer position state)
          by true = linked_infinite (place_near teller.first state.stream.top offer.number) teller offer position state h
          by false = linked_finite (mapped_place teller.first state.stream.top offer) teller offer position (one_more state) h

      one_so : LinesAgree IsLine Away → (teller : Teller) → teller.first ≡ first → (near : ℕ) (offer : Offer) (state : Mapped) → (OfferIs first limit content where_at near offer × Fits near offer) ⊎ InfiniteLined near offer
          → state.stream.top ≤ limit → Holds state → Linked teller state.stream state.lane → Holds (mapped_at teller offer (mapping.position_near near offer.relative) state)
      one_so agree teller is near offer state (inl o) top h linked =
          let position = mapping.position_near near offer.relative in
          subst (λ (b : Bool). Holds (if b then mapped.infinite_at (place_near teller.first state.stream.top offer.number) teller offer position state else finite teller offer position state))
          (sym (ne_eqb offer.length 0 (λ none. let some = o.0.some in omega (arith, some, none)))) (finite_so teller is near offer state o top h linked)
      one_so agree teller is near offer state (inr o) top h linked =
          let position = mapping.position_near near offer.relative in
          subst (λ (b : Bool). Holds (if b then mapped.infinite_at (place_near teller.first state.stream.top offer.number) teller offer position state else finite teller offer position state))
          (sym (eq-eqb offer.length 0 o.none)) (infinite_so agree teller is near offer state o top h linked)

      -- ---- all mappings of a segment

      abbrev Both : Mapped → Type 0
      Both x = lane.Holds false limit few content first where_at x × Holds x

      as_told : (near : ℕ) (offer : Offer) → (OfferIs first limit content where_at near offer × Fits near offer) ⊎ InfiniteLined near offer → OfferIs first limit content where_at near offer ⊎ lane.InfiniteIs first offer
      as_told near offer (inl o) = inl o.0
      as_told near offer (inr o) = inr (record { place = o.place; number = o.number; small = o.small; none = o.none })

      offer_so : LinesAgree IsLine Away → (teller : Teller) → teller.first ≡ first → (near : ℕ) (offer : Option Offer) (state : Mapped)
          → IfSome offer (λ o. (OfferIs first limit content where_at near o × Fits near o) ⊎ InfiniteLined near o) → Both state → Linked teller state.stream state.lane → Both (mapped_one teller near offer state)
      offer_so agree teller is near None state o h linked = h
      offer_so agree teller is near (Some offer) state o h linked = (
        lane.one_so false limit few content first where_at teller is near offer state (as_told near offer o) h.0,
        one_so agree teller is near offer state o h.0.0.0.top h.1 linked,
      )

      offers_so : LinesAgree IsLine Away → (teller : Teller) → teller.first ≡ first → (near : ℕ) (options : List OptionValue) (state : Mapped) → All (OptionLined near) options → Both state
          → Linked teller state.stream state.lane → Both (mapped_each teller near options state)
      offers_so agree teller is near [] state all h linked = h
      offers_so agree teller is near (option ∷ options) state all h linked =
          offers_so agree teller is near options (mapped_one teller near (offer_of teller.first option) state) (All-tail (OptionLined near) option options all)
          (offer_so agree teller is near (offer_of teller.first option) state
          (subst (λ (n : ℕ). IfSome (offer_of n option) (λ o. (OfferIs first limit content where_at near o × Fits near o) ⊎ InfiniteLined near o)) (sym is) (All-head (OptionLined near) option options all)) h linked)
          (linked_one teller near (offer_of teller.first option) state linked)

      mapped_so : LinesAgree IsLine Away → (facts : Facts) (known : Option ℕ) → IfSome known (λ n. n ≡ first) → (near : ℕ) (options : List OptionValue) (state : Mapped)
          → All (OptionLined near) options → Both state → LinkedTo Away facts.index state.stream.infinite state.lane.line → Both (mapped_with facts known near options state)
      mapped_so agree facts None is near options state all h linked = h
      mapped_so agree facts (Some known) is near options state all h linked = offers_so agree (told_in facts known) is near options state all h linked

      -- ---- payload

      within_each_so : (facts : Facts) (position : ℕ) (mappings : List ToldMapping) (s : StreamValue) → StreamLined s → StreamLined (within_each facts position mappings s)
      within_each_so facts position [] s h = h
      within_each_so facts position (m ∷ mappings) s h =
          within_each_so facts position mappings (within_one facts position m s) (found_so rule.Within facts.packet (within_found facts position m) s refl h)

      ended_so : (packet : ℕ) (s : StreamValue) (l : LaneValue) → Lined s l → StreamLined (ended_by_fin l packet s)
      ended_so packet s l h = record { octets = h.0.octets; there = h.0.there; fin = by s.fin l.line l.fin h.0.fin h.1.line h.1.fin; untold = h.0.untold }
        where
          on_line : (line : Line) (fin : ℕ) → IfSome (place_on_line line fin) (λ q. q ≡ limit) → IfSome (line_fin None (Some line) (Some fin) packet) (λ t. t.place ≡ limit)
          on_line line fin is = placed (place_on_line line fin) is
            where
              placed : (place : Option ℕ) → IfSome place (λ q. q ≡ limit) → IfSome (fin_place place packet) (λ t. t.place ≡ limit)
              placed None is = tt
              placed (Some q) is = is

          by : (fin : Option ToldPlace) (line : Option Line) (at : Option ℕ) → IfSome fin (λ t. t.place ≡ limit) → IfSome line LineIs → IfSome at IsEnd
              → IfSome (line_fin fin line at packet) (λ t. t.place ≡ limit)
          by (Some t) line at is lined last = is
          by None None at is lined last = tt
          by None (Some line) None is lined last = tt
          by None (Some line) (Some p) is lined last = on_line line p (lined.end p last)

      -- an octet that is the place's is no other one
      content_none : (acknowledged place : ℕ) (octet : Option ℕ) (s : StreamValue) → StreamLined s → IfSome octet (λ x. x ≡ content place)
          → content_fault acknowledged s.octet place (as_part octet) ≡ None
      content_none acknowledged place None s h is = ap (λ (part : List ℕ). other_octet (first_other s.octet (max place acknowledged) part)) (none_left (acknowledged - place))
      content_none acknowledged place (Some x) s h is = by (acknowledged - place) refl
        where
          no_other : (was : Option Octet) → IfSome was (λ o. (place < limit) × (o.octet ≡ content place)) → other_by was place x ≡ None
          no_other None has = refl
          no_other (Some was) has =
              ap (λ (b : Bool). if b then None else Some (record { place = place; was = was.octet; teller = was.teller; is = x })) (eq-eqb was.octet x (has.1 ∙ sym is))

          by : (n : ℕ) → acknowledged - place ≡ n → other_octet (first_other s.octet (max place acknowledged) (drop n (x ∷ []))) ≡ None
          by zero none =
              ap (λ (q : ℕ). other_octet (option_or (other_by (s.octet q) q x) None)) (let same : max place acknowledged ≡ place = omega (arith, none) in same)
              ∙ ap (λ (o : Option OtherOctet). other_octet (option_or o None)) (no_other (s.octet place) (h.octets place))
          by (suc n) none = ap (λ (part : List ℕ). other_octet (first_other s.octet (max place acknowledged) part)) (none_left n)

      -- it stays there
      shown_octet : (packet place : ℕ) (octet : Option ℕ) (s : StreamValue) → place < limit → StreamLined s → IfSome octet (λ x. x ≡ content place)
          → (q : ℕ) → IfSome (option_or (s.octet q) (octet_by place (as_part octet) packet q)) (λ o. (q < limit) × (o.octet ≡ content q))
      shown_octet packet place octet s below h is q = by (s.octet q) (h.octets q)
        where
          Has : Octet → Type 0
          Has = λ o. (q < limit) × (o.octet ≡ content q)

          new : (octet : Option ℕ) → IfSome octet (λ x. x ≡ content place) → IfSome (octet_by place (as_part octet) packet q) Has
          new None is = none (nat_le place q) (nat_lt q (place + 0)) refl refl
            where
              none : (low over : Bool) → nat_le place q ≡ low → nat_lt q (place + 0) ≡ over
                  → IfSome {T = Octet} (if low && over then Some (record { octet = get_or [] (q - place) 0; teller = packet }) else None) Has
              none false over l m = tt
              none true false l m = tt
              none true true l m = absurd (let from = leb-true place q l in let to = ltb-true q (place + 0) m in omega (arith, from, to))
          new (Some x) is = some (nat_le place q) (nat_lt q (place + 1)) refl refl
            where
              some : (low over : Bool) → nat_le place q ≡ low → nat_lt q (place + 1) ≡ over
                  → IfSome {T = Octet} (if low && over then Some (record { octet = get_or (x ∷ []) (q - place) 0; teller = packet }) else None) Has
              some false over l m = tt
              some true false l m = tt
              some true true l m =
                  let from = leb-true place q l in let to = ltb-true q (place + 1) m in
                  let same : place ≡ q = omega (arith, from, to) in (
                    omega (arith, same, below),
                    ap (λ (i : ℕ). get_or (x ∷ []) i 0) (let none : q - place ≡ 0 = omega (arith, same) in none) ∙ is ∙ ap content same,
                  )

          by : (was : Option Octet) → IfSome was Has → IfSome (option_or was (octet_by place (as_part octet) packet q)) Has
          by (Some was) has = has
          by None has = new octet is

      -- and what is seen is there
      shown_there : (packet place : ℕ) (octet : Option ℕ) (s : StreamValue) → is_some octet ≡ true → StreamLined s → (q : ℕ) → s.seen q || is_of place 1 q ≡ true
          → is_some (option_or (s.octet q) (octet_by place (as_part octet) packet q)) ≡ true
      shown_there packet place None s some h q is = absurd (false≢true some)
      shown_there packet place (Some x) s some h q is =
          stays_held (s.octet q) (s.seen q) (is_of place 1 q) (record { octet = get_or (x ∷ []) (q - place) 0; teller = packet }) (h.there q) is

      -- what comes to a position is its octet, at one of the lane's, and its place is that which it has
      abbrev Comes : ℕ → Option (Option ℕ) → Type 0
      Comes p come = IfSome come (λ octet. (p ≤ upto) × IsSomeAnd octet (λ x. x ≡ at p))

      abbrev Sits : ℕ → Option ℕ → Type 0
      Sits p place = IfSome place (λ q. p ≤ upto → q ≡ where_at p)

      -- the places of its positions are the stream's
      abbrev pub AreInside : Type 0
      AreInside = (p : ℕ) → 1 ≤ p → p ≤ upto → where_at p < limit

      place_so : AreInside → (acknowledged packet p : ℕ) (come : Option (Option ℕ)) (place : Option ℕ) (s : StreamValue) → 1 ≤ p → Comes p come → Sits p place → StreamLined s
          → StreamLined (at_place acknowledged packet come place s)
      place_so inside acknowledged packet p None place s low came sits h = h
      place_so inside acknowledged packet p (Some octet) None s low came sits h = h
      place_so inside acknowledged packet p (Some octet) (Some place) s low came sits h =
          let is = right octet came.1 in
          let it : StreamLined (record s { broken = with_found rule.PlaceContent packet (content_fault acknowledged s.octet place (as_part octet)) s.broken }) =
          subst (λ (o : Option Finding). StreamLined (record s { broken = with_found rule.PlaceContent packet o s.broken })) (sym (content_none acknowledged place octet s h is))
          (record { octets = h.octets; there = h.there; fin = h.fin; untold = h.untold }) in
          let within = inside p low came.0 in let same = sits came.0 in
          record { octets = shown_octet packet place octet s (omega (arith, within, same)) h is; there = shown_there packet place octet s (some octet came.1) h; fin = it.fin; untold = it.untold }
        where
          some : (octet : Option ℕ) → IsSomeAnd octet (λ x. x ≡ at p) → is_some octet ≡ true
          some None is = absurd is
          some (Some x) is = refl

          right : (octet : Option ℕ) → IsSomeAnd octet (λ x. x ≡ at p) → IfSome octet (λ x. x ≡ content place)
          right None is = absurd is
          right (Some x) is = is ∙ ap content (sym (sits came.0))

      shown_so : AreInside → (place : ℕ → Option ℕ) (come : ℕ → Option (Option ℕ)) (acknowledged packet p n : ℕ) (s : StreamValue) → 1 ≤ p → ((q : ℕ) → Comes q (come q)) → ((q : ℕ) → Sits q (place q)) → StreamLined s
          → StreamLined (shown_from place come acknowledged packet p n s)
      shown_so inside place come acknowledged packet p zero s low came sits h = h
      shown_so inside place come acknowledged packet p (suc n) s low came sits h =
          shown_so inside place come acknowledged packet (p + 1) n (at_place acknowledged packet (come p) (place p) s) (omega arith) came sits
          (place_so inside acknowledged packet p (come p) (place p) s low (came p) (sits p) h)

      -- the places of a lane
      place_is : (l : LaneValue) → LanePlaced false limit few content first where_at l → LaneLined l → (p : ℕ) → Sits p (place_of l p)
      place_is l h lined p = by (l.placed p) (h.placed p) l.line lined.line
        where
          on_line : (line : Option Line) → IfSome line LineIs → Sits p (line_place line p)
          on_line None is = tt
          on_line (Some line) is = placed (place_on_line line p) (is.places p)
            where
              placed : (place : Option ℕ) → (p ≤ upto → IfSome place (λ q. q ≡ where_at p)) → Sits p place
              placed None is = tt
              placed (Some q) is = is

          by : (o : Option Told) → IfSome o (λ told. told.image ≡ where_at p) → (line : Option Line) → IfSome line LineIs
              → Sits p (option_or (option_map (λ (told : Told). told.image) o) (line_place line p))
          by None is line lined = on_line line lined
          by (Some told) is line lined = λ within. is

      module _ (facts : Facts) (position : ℕ) (bears : Bears at position facts.seen.segment.payload) (whole : facts.seen.payload_len ≡ length facts.seen.segment.payload)
          (within : (payload_len facts ≡ 0) ⊎ (position + payload_len facts ≤ suc upto)) where
        abbrev payload : PayloadValue
        payload = payload_at facts position

        payload_within : (p : ℕ) → payload.from ≤ p → p < payload.to → p ≤ upto
        payload_within p low below = ⊎_elim (λ none. absurd (omega (arith, none, low, below))) (λ most. omega (arith, most, low, below)) within

        with_seen : (packet : ℕ) (l : LaneValue) → LaneLined l → (p : ℕ) → (with_payload payload packet l).seen p ≡ true → p ≤ upto
        with_seen packet l h p is =
            ⊎_elim (h.seen p)
            (λ now. let both = and_parts (nat_le payload.from p) (nat_lt p payload.to) now in payload_within p (leb-true payload.from p both.0) (ltb-true p payload.to both.1))
            (or_cases (l.seen p) (nat_le payload.from p && nat_lt p payload.to) is)

        with_there : (packet : ℕ) (l : LaneValue) → LaneLined l → (p : ℕ) → (with_payload payload packet l).seen p ≡ true → is_some ((with_payload payload packet l).octet p) ≡ true
        with_there packet l h p is =
            stays_held (l.octet p) (l.seen p) (has_place payload.from payload.held p) (record { octet = get_or payload.held (p - payload.from) 0; teller = packet }) (h.there p)
            (⊎_elim (or_left (l.seen p) (has_place payload.from payload.held p))
            (λ now. or_right (l.seen p) (has_place payload.from payload.held p) (has_all facts.seen.segment.head.rst facts.seen.payload_len position facts.seen.segment.payload whole p now))
            (or_cases (l.seen p) (nat_le payload.from p && nat_lt p payload.to) is))

        comes_so : (x : Mapped) (l : LaneValue) → ((p : ℕ) → IfSome (l.octet p) (λ o. o.octet ≡ at p)) → ((p : ℕ) → l.seen p ≡ true → p ≤ upto)
            → ((p : ℕ) → l.seen p ≡ true → is_some (l.octet p) ≡ true) → (p : ℕ) → Comes p (comes payload x l p)
        comes_so x l octets seen there p =
            by (nat_le payload.from p) (nat_lt p payload.to) (is_mapped_by x.learnt x.has_line l.line p && l.seen p) refl refl refl
          where
            now : nat_le payload.from p ≡ true → nat_lt p payload.to ≡ true → IsSomeAnd (slice_get payload.held (p - payload.from)) (λ x. x ≡ at p)
            now is less =
                let low = leb-true payload.from p is in
                let all = held_all facts.seen.segment.head.rst facts.seen.payload_len position facts.seen.segment.payload whole p low (ltb-true p payload.to less) in
                subst (λ (o : Option ℕ). IsSomeAnd o (λ x. x ≡ at p)) (sym (slice_get-get_or payload.held (p - payload.from) 0 all))
                (lane.held_is false limit few content first where_at facts position bears (p - payload.from) all ∙ ap at (let same : payload.from + (p - payload.from) ≡ p = omega (arith, low) in same))

            was : (o : Option Octet) → IfSome o (λ o. o.octet ≡ at p) → is_some o ≡ true → IsSomeAnd (option_map (λ (octet : Octet). octet.octet) o) (λ x. x ≡ at p)
            was None is some = absurd (false≢true some)
            was (Some o) is some = is

            earlier : is_mapped_by x.learnt x.has_line l.line p && l.seen p ≡ true → (p ≤ upto) × IsSomeAnd (octet_of l p) (λ x. x ≡ at p)
            earlier m =
                let is = (and_parts (is_mapped_by x.learnt x.has_line l.line p) (l.seen p) m).1 in
                (seen p is, was (l.octet p) (octets p) (there p is))

            by : (low over m : Bool) → nat_le payload.from p ≡ low → nat_lt p payload.to ≡ over → is_mapped_by x.learnt x.has_line l.line p && l.seen p ≡ m
                → Comes p (if low && over then Some (slice_get payload.held (p - payload.from)) else (if m then Some (octet_of l p) else None))
            by true true m is less told = (payload_within p (leb-true payload.from p is) (ltb-true p payload.to less), now is less)
            by true false true is less told = earlier told
            by true false false is less told = tt
            by false over true is less told = earlier told
            by false over false is less told = tt

      payload_so : AreInside → (facts : Facts) (position acknowledged : ℕ) (x : Mapped) → Bears at position facts.seen.segment.payload → facts.seen.payload_len ≡ length facts.seen.segment.payload → (payload_len facts ≡ 0) ⊎ (position + payload_len facts ≤ suc upto)
          → (payload_at facts position).to ≤ high → Placed x.stream x.lane → Holds x
          → Lined (behind_payload facts position acknowledged x).stream (behind_payload facts position acknowledged x).lane
      payload_so inside facts position acknowledged x bears whole within to h lined =
          let payload = payload_at facts position in
          let behind = with_payload payload facts.packet x.lane in
          let octets = lane.with_octets false limit few content first where_at facts position bears facts.packet x.lane h.1.octets in
          let new : LaneLined behind = record {
            line = lined.1.line;
            seen = with_seen facts position bears whole within facts.packet x.lane lined.1;
            there = with_there facts position bears whole within facts.packet x.lane lined.1;
            fin = lined.1.fin;
            top = let low = lined.1.top in omega (arith, low, to);
          } in
          let s = within_each facts position x.learnt x.stream in (
            shown_so inside (place_of behind) (comes payload x behind) acknowledged facts.packet 1 (behind.top - 1) (ended_by_fin x.lane facts.packet s) (omega arith)
                (comes_so facts position bears whole within x behind octets new.seen new.there) (place_is behind (record { placed = h.1.placed; octets = octets; waiting = h.1.waiting }) new)
                (ended_so facts.packet s x.lane (within_each_so facts position x.learnt x.stream lined.0, lined.1)),
            new,
          )

      -- ---- checksums, Data ACKs and MP_FAIL tell of none of these

      tried_so : (packet known : ℕ) (octet : ℕ → Option Octet) (waiting : List Waiting) (s : StreamValue) → StreamLined s → StreamLined (tried_sums packet known octet waiting s)
      tried_so packet known octet [] s h = h
      tried_so packet known octet (one ∷ waiting) s h = tried_so packet known octet waiting (tried_if_whole packet known octet one s) (by (is_whole octet one))
        where
          by : (b : Bool) → StreamLined (if b then tried_sum packet known octet one s else s)
          by true = let it = found_so rule.DssSum packet (sum_fault known octet one) s refl h in record { octets = it.octets; there = it.there; fin = it.fin; untold = it.untold }
          by false = h

      sum_lane : (packet : ℕ) (m : ToldMapping) (l : LaneValue) → LaneLined l → LaneLined (summed_by packet m l)
      sum_lane packet m l h = by (is_some m.checksum) (l.summed m)
        where
          by : (some known : Bool) → LaneLined (if some then (if known then l else record l {
            summed = λ other. l.summed other || same_mapping other m;
            waiting = l.waiting ++ record { mapping = m; packet = packet } ∷ [];
          }) else l)
          by true true = h
          by true false = record { line = h.line; seen = h.seen; there = h.there; fin = h.fin; top = h.top }
          by false known = h

      sums_lane : (packet : ℕ) (mappings : List ToldMapping) (l : LaneValue) → LaneLined l → LaneLined (with_sums packet mappings l)
      sums_lane packet [] l h = h
      sums_lane packet (m ∷ mappings) l h = sums_lane packet mappings (summed_by packet m l) (sum_lane packet m l h)

      summed_so : (facts : Facts) (known : Option ℕ) (learnt : List ToldMapping) (acked : Acked) → Lined acked.stream acked.lane
          → Lined (summed facts known learnt acked).stream (summed facts known learnt acked).lane
      summed_so facts None learnt acked h = h
      summed_so facts (Some known) learnt acked h =
          let behind = with_sums facts.packet learnt acked.lane in
          let it = sums_lane facts.packet learnt acked.lane h.1 in
          (tried_so facts.packet known behind.octet behind.waiting acked.stream h.0, record { line = it.line; seen = it.seen; there = it.there; fin = it.fin; top = it.top })

      acked_one_so : (facts : Facts) (known : ℕ) (peers : StreamValue) (option : OptionValue) (acked : Acked) → Lined acked.stream acked.lane
          → Lined (acked_one facts known peers option acked).stream (acked_one facts known peers option acked).lane
      acked_one_so facts known peers (Dss (Some number) told fin) acked h = by (ack_place (ack_facts facts.at_sender facts.plain known peers acked.lane) number)
        where
          by : (place : Result ℕ Finding) → Lined (acked_by place facts.packet (ack_counted acked)).stream (acked_by place facts.packet (ack_counted acked)).lane
          by (Err finding) = let it = tell_so rule.DataAck facts.packet (Found finding) acked.stream refl h.0 in (record { octets = it.octets; there = it.there; fin = it.fin; untold = it.untold }, h.1)
          by (Ok place) = (record { octets = h.0.octets; there = h.0.there; fin = h.0.fin; untold = h.0.untold }, record { line = h.1.line; seen = h.1.seen; there = h.1.there; fin = h.1.fin; top = h.1.top })
      acked_one_so facts known peers option acked h = h

      acked_so : (facts : Facts) (known : ℕ) (peers : StreamValue) (options : List OptionValue) (acked : Acked) → Lined acked.stream acked.lane
          → Lined (acked_each facts known peers options acked).stream (acked_each facts known peers options acked).lane
      acked_so facts known peers [] acked h = h
      acked_so facts known peers (option ∷ options) acked h = acked_so facts known peers options (acked_one facts known peers option acked) (acked_one_so facts known peers option acked h)

      failed_one_so : (packet known : ℕ) (peers : StreamValue) (option : OptionValue) (s : StreamValue) → StreamLined s → StreamLined (failed_one packet known peers option s)
      failed_one_so packet known peers (Fail number) s h = by (peers.starts (named_place known number))
        where
          by : (b : Bool) → StreamLined (if b then s else record s { broken = with_broken (record { rule = rule.Fail; packet = packet; fault = Found (NoMapping number) }) s.broken })
          by true = h
          by false = tell_so rule.Fail packet (Found (NoMapping number)) s refl h
      failed_one_so packet known peers option s h = h

      failed_so : (packet known : ℕ) (peers : StreamValue) (options : List OptionValue) (s : StreamValue) → StreamLined s → StreamLined (failed_each packet known peers options s)
      failed_so packet known peers [] s h = h
      failed_so packet known peers (option ∷ options) s h = failed_so packet known peers options (failed_one packet known peers option s) (failed_one_so packet known peers option s h)

      acks_so : (facts : Facts) (known : Option ℕ) (peers : StreamValue) (options : List OptionValue) (acked : Acked) → Lined acked.stream acked.lane
          → Lined (behind_acks facts known peers options acked).stream (behind_acks facts known peers options acked).lane
      acks_so facts None peers options acked h = h
      acks_so facts (Some known) peers options acked h =
          let it = acked_so facts known peers options acked h in (failed_so facts.packet known peers options (acked_each facts known peers options acked).stream it.0, it.1)

      -- ---- all of a segment

      pub at_so : AreInside → LinesAgree IsLine Away → (facts : Facts) (position : ℕ) (options : List OptionValue) (keys : Keys) (peers s : StreamValue) (l : LaneValue) → IfSome (first_of facts.side keys) (λ n. n ≡ first)
          → All (OptionLined position) options → Bears at position facts.seen.segment.payload → facts.seen.payload_len ≡ length facts.seen.segment.payload → (payload_len facts ≡ 0) ⊎ (position + payload_len facts ≤ suc upto)
          → (facts.seen.segment.head.fin ≡ true → IsEnd (position + facts.seen.payload_len)) → (payload_at facts position).to ≤ high → Placed s l → Lined s l → LinkedTo Away facts.index s.infinite l.line
          → Lined (judged_at facts position options keys peers s l).stream (judged_at facts position options keys peers s l).lane
      at_so inside agree facts position options keys peers s l is all bears whole within end to h lined linked =
          let before : Mapped = record { stream = s; lane = fin_taken facts position l; learnt = []; has_line = false } in
          let told = mapped_with facts (first_of facts.side keys) position options before in
          let held = mapped_so agree facts (first_of facts.side keys) is position options before all (((h.0, lane.fin_lane false limit few content first where_at facts position l h.1), lane.none_learnt false limit few content first where_at), (lined.0, fin_so facts.seen.segment.head.fin refl))
          (still_linked facts.seen.segment.head.fin) in
          let paid = behind_payload facts position peers.acknowledged told in
          acks_so facts (first_of (peer facts.side) keys) peers options (summed facts (first_of facts.side keys) told.learnt paid)
          (summed_so facts (first_of facts.side keys) told.learnt paid (payload_so inside facts position peers.acknowledged told bears whole within to held.0.0 held.1))
        where
          taken : (o : Option ℕ) → IfSome o IsEnd → IsEnd (position + facts.seen.payload_len) → IfSome (option_or o (Some (position + facts.seen.payload_len))) IsEnd
          taken None was now = now
          taken (Some p) was now = was

          still_linked : (b : Bool) → LinkedTo Away facts.index s.infinite (if b then with_fin (position + facts.seen.payload_len) l else l).line
          still_linked true = linked
          still_linked false = linked

          fin_so : (b : Bool) → facts.seen.segment.head.fin ≡ b → LaneLined (if b then with_fin (position + facts.seen.payload_len) l else l)
          fin_so true e = record { line = lined.1.line; seen = lined.1.seen; there = lined.1.there; fin = taken l.fin lined.1.fin (end e); top = lined.1.top }
          fin_so false e = lined.1
