-- A finite mapping that a segment tells is learnt, where its side breaks no rule on mappings.
use Rattle.std.proofs.Common.{◌≡◌, refl, ap, ◌∙◌, sym, subst, ℕ, ℤ, ◌⊎◌, inl, inr, pos, ◌+◌, int_lt, IfSome, Bool, true, false, ◌&&◌, ◌||◌, ◌==◌, if◌then◌else◌, is_some, Option, Some, None, List, [], ◌∷◌, ◌++◌, true≢false}
use Rattle.std.specs.Bool.{beq}
use Rattle.std.specs.Cmp.{booleans_Decides}
use Rattle.std.specs.List.{list_any}
use Rattle.std.specs.Option.{option_or}
use Rattle.std.specs.Ordering.{int_eq}
use Rattle.std.proofs.lemmas.Bool.{or_left, or_right}
use Rattle.std.proofs.lemmas.Bool.Decides.{Decides-eqb, Decides-int_eq}
use Rattle.std.proofs.lemmas.List.Folds.{list_any-append}
use Rattle.mptcp_options.specs.declared.dss.DataNumber.{DataNumber}
use Rattle.mptcp_options.specs.declared.dss.DssMap.{DssMap}
use Rattle.mptcp_options.specs.Value.{OptionValue, Dss}
use Rattle.judge_rules.specs.declared.finding.Finding.{Finding}
use Rattle.judge_rules.specs.declared.finding.Finding.TheVariants.{NoPlace, NoPosition}
use Rattle.judge_rules.specs.declared.finding.Rule.{Rule}
use Rattle.judge_rules.specs.declared.finding.Rule.TheVariants as rule
use Rattle.judge_rules.specs.declared.mappings.Offer.{Offer}
use Rattle.judge_rules.specs.Clashes.{first_clash}
use Rattle.judge_rules.specs.Mappings.{fin_fault, mapped_octets, mapped_place, natural, offer_of, position_near}
use Rattle.judge_rules.specs.Numbers.{place_near, told_number}
use Rattle.seen_streams.specs.declared.told.Broke.{Broke}
use Rattle.seen_streams.specs.declared.told.Teller.{Teller}
use Rattle.seen_streams.specs.declared.told.ToldMapping.{ToldMapping}
use Rattle.seen_streams.specs.Acks.{Acked}
use Rattle.seen_streams.specs.Mapped.{Mapped, against_infinite, by_rule, finite_at, finite_by, finite_fault, infinite_at, infinite_by, line_fault, mapped_at, octets_fault, one_more, placed_fault, told_mapping}
use Rattle.seen_streams.specs.Same.{same_mapping, same_sum}
use Rattle.seen_streams.specs.State.{Found, LaneValue, StreamValue, tell}
use Rattle.seen_streams.specs.Sums.{summed_by, with_sum, with_sums}
use Rattle.rule_book.specs.Facts.{Facts}
use Rattle.rule_book.specs.Stream.{mapped_each, mapped_one, summed}
use Rattle.judge_laws.specs.GoesOn.{GoesOn, broke}
use Rattle.judge_laws.specs.Tells.{IsMeant, KeepsMappings, offer_by}
use Rattle.judge_laws.proofs.Folds.{mapped_each_so}
use Rattle.judge_laws.proofs.Going as going
use Rattle.judge_laws.proofs.GoesOn.{goes_same}
use Rattle.judge_laws.proofs.Shown.{kept_before, told_there}
use Rattle.judge_laws.proofs.Trying.{either, mappings_are}

-- ---- a mapping is itself

both_true : (a b : Bool) → a ≡ true → b ≡ true → (a && b) ≡ true
both_true true b e f = f
both_true false b e f = e

sum_itself : (sum : Option ℕ) → same_sum sum sum ≡ true
sum_itself (Some x) = (Decides-eqb x x).1 refl
sum_itself None = refl

same_itself : (m : ToldMapping) → same_mapping m m ≡ true
same_itself m =
    both_true (m.place == m.place) _ ((Decides-eqb m.place m.place).1 refl)
    (both_true (int_eq m.position m.position) _ ((Decides-int_eq m.position m.position).1 refl)
    (both_true (m.length == m.length) _ ((Decides-eqb m.length m.length).1 refl)
    (both_true (same_sum m.checksum m.checksum) (beq m.fin m.fin) (sum_itself m.checksum) ((booleans_Decides m.fin m.fin).1 refl))))

-- ---- what is learnt stays

abbrev pub is_among : ToldMapping → List ToldMapping → Bool
is_among m learnt = list_any (same_mapping m) learnt

module _ (m : ToldMapping) where
  by_stays : (fault : Option Broke) (packet : ℕ) (mapping : ToldMapping) (state : Mapped) → is_among m state.learnt ≡ true
      → is_among m (finite_by fault packet mapping state).learnt ≡ true
  by_stays (Some broke) packet mapping state h = h
  by_stays None packet mapping state h =
      list_any-append (same_mapping m) state.learnt (mapping ∷ []) ∙ or_left (is_among m state.learnt) (is_among m (mapping ∷ [])) h

  finite_stays : (place : Option ℕ) (teller : Teller) (offer : Offer) (position : ℤ) (state : Mapped) → is_among m state.learnt ≡ true
      → is_among m (finite_at place teller offer position state).learnt ≡ true
  finite_stays None teller offer position state h = h
  finite_stays (Some place) teller offer position state h =
      by_stays (finite_fault teller state.stream state.lane offer position place) teller.packet (told_mapping offer position place) state h

  infinite_by_stays : (fault : Option Finding) (teller : Teller) (position : ℤ) (place : ℕ) (state : Mapped) → is_among m state.learnt ≡ true
      → is_among m (infinite_by fault teller position place state).learnt ≡ true
  infinite_by_stays (Some finding) teller position place state h = h
  infinite_by_stays None teller position place state h = h

  infinite_stays : (place : Option ℕ) (teller : Teller) (offer : Offer) (position : ℤ) (state : Mapped) → is_among m state.learnt ≡ true
      → is_among m (infinite_at place teller offer position state).learnt ≡ true
  infinite_stays None teller offer position state h = h
  infinite_stays (Some place) teller offer position state h =
      infinite_by_stays (line_fault state.stream.infinite teller.flow state.lane.line position place) teller position place state h

  at_stays : (teller : Teller) (offer : Offer) (position : ℤ) (state : Mapped) → is_among m state.learnt ≡ true
      → is_among m (mapped_at teller offer position state).learnt ≡ true
  at_stays teller offer position state h = by (offer.length == 0)
    where
      by : (b : Bool) → is_among m (if b then infinite_at (place_near teller.first state.stream.top offer.number) teller offer position state
          else finite_at (mapped_place teller.first state.stream.top offer) teller offer position (one_more state)).learnt ≡ true
      by true = infinite_stays (place_near teller.first state.stream.top offer.number) teller offer position state h
      by false = finite_stays (mapped_place teller.first state.stream.top offer) teller offer position (one_more state) h

  one_stays : (teller : Teller) (position : ℕ) (offer : Option Offer) (state : Mapped) → is_among m state.learnt ≡ true
      → is_among m (mapped_one teller position offer state).learnt ≡ true
  one_stays teller position None state h = h
  one_stays teller position (Some offer) state h = at_stays teller offer (position_near position offer.relative) state h

  each_stays : (teller : Teller) (position : ℕ) (options : List OptionValue) (state : Mapped) → is_among m state.learnt ≡ true
      → is_among m (mapped_each teller position options state).learnt ≡ true
  each_stays teller position [] state h = h
  each_stays teller position (option ∷ options) state h =
      each_stays teller position options (mapped_one teller position (offer_of teller.first option) state)
      (one_stays teller position (offer_of teller.first option) state h)

-- ---- which rules a mapping breaks

or_either : {X : Type 0} → (x y : Option X) (z : X) → option_or x y ≡ Some z → (x ≡ Some z) ⊎ (y ≡ Some z)
or_either (Some x) y z e = inl e
or_either None y z e = inr e

-- what holds of the three rules on mappings holds of the one that is broken
module _ (K : Rule → Type 0) (of_mapping : K rule.Mapping) (of_infinite : K rule.Infinite) (of_fin : K rule.DataFin) where
  of_rule : (which : Rule) (finding : Option Finding) (b : Broke) → K which → by_rule which finding ≡ Some b → K b.rule
  of_rule which None b k e = cc
  of_rule which (Some finding) b k e = subst (λ (x : Option Broke). IfSome x (λ y. K y.rule)) e k

  of_placed : (teller : Teller) (s : StreamValue) (l : LaneValue) (position place octets : ℕ) (b : Broke) → placed_fault teller s l position place octets ≡ Some b → K b.rule
  of_placed teller s l position place octets b e =
      by (or_either (by_rule rule.Mapping (first_clash l.placed position place octets))
      (by_rule rule.Infinite (against_infinite s.infinite teller.flow s.top l.line (pos position) place octets)) b e)
    where
      by : (by_rule rule.Mapping (first_clash l.placed position place octets) ≡ Some b)
          ⊎ (by_rule rule.Infinite (against_infinite s.infinite teller.flow s.top l.line (pos position) place octets) ≡ Some b) → K b.rule
      by (inl mapping) = of_rule rule.Mapping (first_clash l.placed position place octets) b of_mapping mapping
      by (inr infinite) = of_rule rule.Infinite (against_infinite s.infinite teller.flow s.top l.line (pos position) place octets) b of_infinite infinite

  of_octets : (teller : Teller) (s : StreamValue) (l : LaneValue) (offer : Offer) (position : ℤ) (place : ℕ) (b : Broke)
      → octets_fault teller s l offer position place ≡ Some b → K b.rule
  of_octets teller s l offer position place b e = by (mapped_octets offer == 0) (int_lt position (pos 0)) e
    where
      by : (none before : Bool)
          → (if none then None else (if before then Some (let x : Broke = record { rule = rule.Mapping; finding = NoPosition offer.relative } in x)
          else placed_fault teller s l (natural position) place (mapped_octets offer))) ≡ Some b → K b.rule
      by true before e = cc
      by false true e = subst (λ (x : Option Broke). IfSome x (λ y. K y.rule)) e of_mapping
      by false false e = of_placed teller s l (natural position) place (mapped_octets offer) b e

  of_finite : (teller : Teller) (s : StreamValue) (l : LaneValue) (offer : Offer) (position : ℤ) (place : ℕ) (b : Broke)
      → finite_fault teller s l offer position place ≡ Some b → K b.rule
  of_finite teller s l offer position place b e =
      by (or_either (octets_fault teller s l offer position place) (by_rule rule.DataFin (fin_fault s.fin s.top (place + mapped_octets offer) offer.fin)) b e)
    where
      by : (octets_fault teller s l offer position place ≡ Some b) ⊎ (by_rule rule.DataFin (fin_fault s.fin s.top (place + mapped_octets offer) offer.fin) ≡ Some b) → K b.rule
      by (inl octets) = of_octets teller s l offer position place b octets
      by (inr fin) = of_rule rule.DataFin (fin_fault s.fin s.top (place + mapped_octets offer) offer.fin) b of_fin fin

-- ---- a mapping that is told

told_no : (which : Rule) (packet : ℕ) (finding : Finding) (s last : StreamValue) → GoesOn (tell which packet (Found finding) s) last → broke which last ≡ false → ⊥
told_no which packet finding s last goes kept =
    true≢false (sym (told_there (record { rule = which; packet = packet; fault = Found finding }) s.broken)
    ∙ kept_before (tell which packet (Found finding) s) last which goes kept)

by_learns : (fault : Option Broke) (teller : Teller) (offer : Offer) (position : ℤ) (place : ℕ) (state : Mapped) (last : StreamValue)
    → finite_fault teller state.stream state.lane offer position place ≡ fault
    → GoesOn (finite_by fault teller.packet (told_mapping offer position place) state).stream last → KeepsMappings last
    → is_among (told_mapping offer position place) (finite_by fault teller.packet (told_mapping offer position place) state).learnt ≡ true
by_learns (Some b) teller offer position place state last e goes kept =
    absurd (told_no b.rule teller.packet b.finding state.stream last goes
    (of_finite (λ (r : Rule). broke r last ≡ false) kept.mapping kept.infinite kept.data_fin teller state.stream state.lane offer position place b e))
by_learns None teller offer position place state last e goes kept =
    let m = told_mapping offer position place in
    list_any-append (same_mapping m) state.learnt (m ∷ []) ∙ or_right (is_among m state.learnt) (is_among m (m ∷ [])) (or_left (same_mapping m m) false (same_itself m))

finite_learns : (place : Option ℕ) (teller : Teller) (offer : Offer) (position : ℤ) (state : Mapped) (last : StreamValue)
    → GoesOn (finite_at place teller offer position state).stream last → KeepsMappings last
    → (q : ℕ) × (place ≡ Some q) × (is_among (told_mapping offer position q) (finite_at place teller offer position state).learnt ≡ true)
finite_learns None teller offer position state last goes kept =
    absurd (told_no rule.Mapping teller.packet (NoPlace (told_number offer.number)) state.stream last goes kept.mapping)
finite_learns (Some q) teller offer position state last goes kept =
    (q, refl, by_learns (finite_fault teller state.stream state.lane offer position q) teller offer position q state last refl goes kept)

-- one that was learnt of an option
abbrev pub IsLearnt : ℕ → ℕ → DssMap → Bool → List ToldMapping → Type 0
IsLearnt first position mapping fin learnt = (m : ToldMapping) × IsMeant first position mapping fin m × (is_among m learnt ≡ true)

at_learns : (b : Bool) (teller : Teller) (position : ℕ) (mapping : DssMap) (fin : Bool) (state : Mapped) (last : StreamValue) → b ≡ false
    → let offer = offer_by mapping fin in let at = position_near position mapping.relative in
    GoesOn (if b then infinite_at (place_near teller.first state.stream.top offer.number) teller offer at state
    else finite_at (mapped_place teller.first state.stream.top offer) teller offer at (one_more state)).stream last
    → KeepsMappings last
    → IsLearnt teller.first position mapping fin (if b then infinite_at (place_near teller.first state.stream.top offer.number) teller offer at state
    else finite_at (mapped_place teller.first state.stream.top offer) teller offer at (one_more state)).learnt
at_learns true teller position mapping fin state last e goes kept = absurd (true≢false e)
at_learns false teller position mapping fin state last e goes kept =
    let offer = offer_by mapping fin in
    let at = position_near position mapping.relative in
    let is = finite_learns (mapped_place teller.first state.stream.top offer) teller offer at (one_more state) last goes kept in (
      told_mapping offer at is.0,
      record { top = state.stream.top; place = is.1; position = refl; length = refl; checksum = refl; fin = refl },
      is.2,
    )

pub each_learns : (teller : Teller) (position : ℕ) (front : List OptionValue) (ack : Option DataNumber) (mapping : DssMap) (fin : Bool) (back : List OptionValue)
    (state : Mapped) → (mapping.length == 0) ≡ false → KeepsMappings (mapped_each teller position (front ++ Dss ack (Some mapping) fin ∷ back) state).stream
    → IsLearnt teller.first position mapping fin (mapped_each teller position (front ++ Dss ack (Some mapping) fin ∷ back) state).learnt
each_learns teller position [] ack mapping fin back state finite kept =
    let next = mapped_one teller position (offer_of teller.first (Dss ack (Some mapping) fin)) state in
    let last = mapped_each teller position back next in
    let goes = mapped_each_so (going.steps None next.stream) teller position back next (goes_same next.stream) in
    let is = at_learns (mapping.length == 0) teller position mapping fin state last.stream finite goes kept in
    (is.0, is.1, each_stays is.0 teller position back next is.2)
each_learns teller position (option ∷ front) ack mapping fin back state finite kept =
    each_learns teller position front ack mapping fin back (mapped_one teller position (offer_of teller.first option) state) finite kept

-- ---- and its checksum is to be tried

with_sum_stays : (packet : ℕ) (mapping m : ToldMapping) (l : LaneValue) → l.summed m ≡ true → (with_sum packet mapping l).summed m ≡ true
with_sum_stays packet mapping m l h = elim (l.summed mapping) as (λ b. (if b then l else record l {
  summed = λ other. l.summed other || same_mapping other mapping;
  waiting = l.waiting ++ record { mapping = mapping; packet = packet } ∷ [];
}).summed m ≡ true) [ true ↦ h | false ↦ or_left (l.summed m) (same_mapping m mapping) h ]

by_sum_stays : (packet : ℕ) (mapping m : ToldMapping) (l : LaneValue) → l.summed m ≡ true → (summed_by packet mapping l).summed m ≡ true
by_sum_stays packet mapping m l h =
    elim (is_some mapping.checksum) as (λ b. (if b then with_sum packet mapping l else l).summed m ≡ true) [ true ↦ with_sum_stays packet mapping m l h | false ↦ h ]

sums_stay : (packet : ℕ) (mappings : List ToldMapping) (m : ToldMapping) (l : LaneValue) → l.summed m ≡ true → (with_sums packet mappings l).summed m ≡ true
sums_stay packet [] m l h = h
sums_stay packet (mapping ∷ mappings) m l h = sums_stay packet mappings m (summed_by packet mapping l) (by_sum_stays packet mapping m l h)

with_sum_has : (packet : ℕ) (m : ToldMapping) (l : LaneValue) → (with_sum packet m l).summed m ≡ true
with_sum_has packet m l = by (l.summed m) refl
  where
    by : (b : Bool) → l.summed m ≡ b → (if b then l else (let x : LaneValue = record l {
      summed = λ other. l.summed other || same_mapping other m;
      waiting = l.waiting ++ record { mapping = m; packet = packet } ∷ [];
    } in x)).summed m ≡ true
    by true e = e
    by false e = or_right (l.summed m) (same_mapping m m) (same_itself m)

by_sum_has : (packet : ℕ) (m : ToldMapping) (l : LaneValue) → is_some m.checksum ≡ true → (summed_by packet m l).summed m ≡ true
by_sum_has packet m l checksum = ap (λ b. (if b then with_sum packet m l else l).summed m) checksum ∙ with_sum_has packet m l

sums_have : (packet : ℕ) (mappings : List ToldMapping) (m : ToldMapping) (l : LaneValue) → is_some m.checksum ≡ true → is_among m mappings ≡ true
    → (with_sums packet mappings l).summed m ≡ true
sums_have packet [] m l checksum among = absurd (true≢false (sym among))
sums_have packet (mapping ∷ mappings) m l checksum among = by (either (same_mapping m mapping) (is_among m mappings) among) (λ later. sums_have packet mappings m (summed_by packet mapping l) checksum later)
  where
    by : (same_mapping m mapping ≡ true) ⊎ (is_among m mappings ≡ true) → (is_among m mappings ≡ true → (with_sums packet (mapping ∷ mappings) l).summed m ≡ true)
        → (with_sums packet (mapping ∷ mappings) l).summed m ≡ true
    by (inl same) rest =
        sums_stay packet mappings m (summed_by packet mapping l)
        (subst (λ (x : ToldMapping). (summed_by packet x l).summed m ≡ true) (mappings_are m mapping same) (by_sum_has packet m l checksum))
    by (inr later) rest = rest later

pub summed_has : (facts : Facts) (first : Option ℕ) (known : ℕ) (learnt : List ToldMapping) (acked : Acked) (m : ToldMapping) → first ≡ Some known → is_some m.checksum ≡ true
    → is_among m learnt ≡ true → (summed facts first learnt acked).lane.summed m ≡ true
summed_has facts None known learnt acked m e checksum among = cc
summed_has facts (Some first) known learnt acked m e checksum among = sums_have facts.packet learnt m acked.lane checksum among
