-- Positions of a subflow, as far as they are alike.
use Rattle.std.proofs.Common.{◌≡◌, ◌≢◌, ◌⊎◌, inl, inr, refl, ap, ◌∙◌, sym, ℕ, zero, suc, ◌+◌, ◌-◌, ◌<◌, ◌≤◌, Bool, true, false, ◌&&◌, nat_le, nat_lt, if◌then◌else◌, Option, Some, None, option_map, Result, Ok, Err, IfOk, List, [], ◌∷◌, length, take, drop, get_or, arith}
use Rattle.std.proofs.lemmas.Bool.{cases_lt}
use Rattle.std.proofs.lemmas.Bool.Decides.{nat_tests}
use Rattle.std.specs.List.{slice_get}
use Rattle.seen_octets.specs.declared.octet.Octet.{Octet}
use Rattle.seen_octets.specs.declared.places.Stretch.{Stretch}
use Rattle.seen_octets.specs.Octets.{IsPiece}
use Rattle.seen_octets.specs.Places.{IsStretch}
use Rattle.seen_streams.specs.declared.places.PlacedStretch.{PlacedStretch}
use Rattle.seen_streams.specs.declared.told.ToldMapping.{ToldMapping}
use Rattle.seen_streams.specs.State.{LaneValue, StreamValue}
use Rattle.seen_streams.specs.Content.{PayloadValue, comes, earlier, in_payload, is_between, is_mapped_by, octet_of, shown, shown_from}
use Rattle.seen_streams.specs.Held.{IsHeldPart}
use Rattle.seen_streams.specs.Mapped.{Mapped}
use Rattle.seen_streams.specs.Placing.{IsPlaced}
use Rattle.seen_streams.proofs.Parts.{at_once, in_parts, none_comes, none_placed, same_comes}

-- ---- octets of a list

pub get_some : (part : List ℕ) (i : ℕ) → i < length part → slice_get part i ≡ Some (get_or part i 0)
get_some [] i h = absurd (omega (arith, h))
get_some (octet ∷ part) zero h = refl
get_some (octet ∷ part) (suc i) h = get_some part i (omega (arith, h))

get_none : (part : List ℕ) (i : ℕ) → length part ≤ i → slice_get part i ≡ None
get_none [] i h = refl
get_none (octet ∷ part) zero h = absurd (omega (arith, h))
get_none (octet ∷ part) (suc i) h = get_none part i (omega (arith, h))

get_take : (part : List ℕ) (n i : ℕ) → i < n → slice_get (take n part) i ≡ slice_get part i
get_take [] zero i h = refl
get_take [] (suc n) i h = refl
get_take (octet ∷ part) zero i h = absurd (omega (arith, h))
get_take (octet ∷ part) (suc n) zero h = refl
get_take (octet ∷ part) (suc n) (suc i) h = get_take part n i (omega (arith, h))

get_drop : (part : List ℕ) (n i all : ℕ) → all ≡ n + i → slice_get (drop n part) i ≡ slice_get part all
get_drop [] zero i all e = refl
get_drop [] (suc n) i all e = refl
get_drop (octet ∷ part) zero i all e = ap (slice_get (octet ∷ part)) (let same : i ≡ all = omega (arith, e) in same)
get_drop (octet ∷ part) (suc n) i all e =
    get_drop part n i (n + i) refl ∙ ap (slice_get (octet ∷ part)) (let same : suc (n + i) ≡ all = omega (arith, e) in same)

pub get_between : (part : List ℕ) (skipped n i : ℕ) → i < n → slice_get (take n (drop skipped part)) i ≡ slice_get part (skipped + i)
get_between part skipped n i h = get_take (drop skipped part) n i h ∙ get_drop part skipped i (skipped + i) refl

-- ---- what was seen before

module _ (learnt : List ToldMapping) (has_line : Bool) (lane : LaneValue) (place : ℕ → Option ℕ) (acknowledged packet from to : ℕ) (stream : StreamValue) where
  -- positions that aren't mapped now
  pub not_mapped : (stretch : Stretch) → IsStretch (is_mapped_by learnt has_line lane.line) from to stretch → stretch.marked ≡ false
      → stream ≡ shown_from place (earlier learnt has_line lane) acknowledged packet from (stretch.end - from) stream
  not_mapped stretch is none =
      none_comes place (earlier learnt has_line lane) acknowledged packet from (stretch.end - from) stream
      (λ i h. ap (λ b. if b && lane.seen (from + i) then Some (octet_of lane (from + i)) else None)
      (is.alike (from + i) (omega arith) (omega (arith, h)) ∙ none))

  and_false : (b : Bool) → (b && false) ≡ false
  and_false true = refl
  and_false false = refl

  -- or weren't seen
  pub not_seen : (stretch : Stretch) → IsStretch lane.seen from to stretch → stretch.marked ≡ false
      → stream ≡ shown_from place (earlier learnt has_line lane) acknowledged packet from (stretch.end - from) stream
  not_seen stretch is none =
      none_comes place (earlier learnt has_line lane) acknowledged packet from (stretch.end - from) stream
      (λ i h. ap (λ b. if is_mapped_by learnt has_line lane.line (from + i) && b then Some (octet_of lane (from + i)) else None)
      (is.alike (from + i) (omega arith) (omega (arith, h)) ∙ none)
      ∙ ap (λ b. if b then Some (octet_of lane (from + i)) else None) (and_false (is_mapped_by learnt has_line lane.line (from + i))))

  -- those that are mapped now and were seen come with their octets
  pub all_seen : (mapped seen : Stretch) (end : ℕ) → IsStretch (is_mapped_by learnt has_line lane.line) from to mapped → mapped.marked ≡ true
      → IsStretch lane.seen from mapped.end seen → seen.marked ≡ true → end ≤ seen.end
      → shown_from place (λ p. Some (octet_of lane p)) acknowledged packet from (end - from) stream
      ≡ shown_from place (earlier learnt has_line lane) acknowledged packet from (end - from) stream
  all_seen mapped seen end is_mapped mapped_true is_seen seen_true within =
      same_comes place (λ p. Some (octet_of lane p)) (earlier learnt has_line lane) acknowledged packet from (end - from) stream
      (λ q lo hi. (let below : q < seen.end = omega (arith, lo, hi, within) in
      let further : q < mapped.end = omega (arith, below, is_seen.within) in
      sym (ap (λ b. if b && lane.seen q then Some (octet_of lane q) else None) (is_mapped.alike q lo further ∙ mapped_true)
      ∙ ap (λ b. if b then Some (octet_of lane q) else None) (is_seen.alike q lo below ∙ seen_true))))

-- ---- positions whose places follow one another

module _ (place : ℕ → Option ℕ) (comes : ℕ → Option (Option ℕ)) (acknowledged packet from to : ℕ) (stream : StreamValue) (placed : PlacedStretch) (is : IsPlaced place from to placed) where
  pub nowhere : placed.place ≡ None → stream ≡ shown_from place comes acknowledged packet from (placed.end - from) stream
  nowhere none =
      none_placed place comes acknowledged packet from (placed.end - from) stream
      (λ i h. is.alike (from + i) (omega arith) (omega (arith, h)) ∙ ap (option_map (λ q. q + (from + i - from))) none)

  pub somewhere : (q n : ℕ) (part : List ℕ) → placed.place ≡ Some q → length part ≤ n → from + n ≤ placed.end
      → ((i : ℕ) → i < n → comes (from + i) ≡ Some (slice_get part i))
      → shown acknowledged packet q n part stream ≡ shown_from place comes acknowledged packet from n stream
  somewhere q n part there few within octets =
      at_once place comes acknowledged packet from q n part stream few
      (λ i h. (let same : q + (from + i - from) ≡ q + i = omega arith in
      is.alike (from + i) (omega arith) (omega (arith, h, within)) ∙ ap (option_map (λ x. x + (from + i - from))) there ∙ ap Some same))
      octets

-- the octets of a payload
pub payload_comes : (payload : PayloadValue) (from n : ℕ) (part : List ℕ) → payload.from ≤ from → part ≡ take n (drop (from - payload.from) payload.held)
    → (i : ℕ) → i < n → in_payload payload (from + i) ≡ Some (slice_get part i)
payload_comes payload from n part begun is i h =
    let same : from + i - payload.from ≡ from - payload.from + i = omega (arith, begun) in
    ap (λ (x : ℕ). Some (slice_get payload.held x)) same
    ∙ sym (ap (λ (xs : List ℕ). Some (slice_get xs i)) is ∙ ap Some (get_between payload.held (from - payload.from) n i h))

pub take_few : (n : ℕ) (part : List ℕ) → length (take n part) ≤ n
take_few zero [] = omega arith
take_few zero (octet ∷ part) = omega arith
take_few (suc n) [] = omega arith
take_few (suc n) (octet ∷ part) = (let few = take_few n part in omega (arith, few))

-- ---- octets that are held, or aren't

pub held_gap : (octet : ℕ → Option Octet) (from to end : ℕ) (part : List ℕ) → from < to → length part ≡ 0 → octet from ≡ None → from ≤ end → end ≤ to
    → ((p : ℕ) → from ≤ p → p < end → octet p ≡ None) → (end < to → octet end ≢ None)
    → IsHeldPart (λ p. option_map (λ o. o.octet) (octet p)) from to end part
held_gap octet from to end part some empty none begun within free most = record {
  some = by (cases_lt from end);
  within = within;
  few = omega (arith, empty);
  held = λ i h.
      ap (λ (o : Option Octet). option_map (λ o. o.octet) o) (free (from + i) (omega arith) (omega (arith, h)))
      ∙ sym (get_none part i (omega (arith, empty)));
}
  where
    by : (from < end) ⊎ (end ≤ from) → from < end
    by (inl h) = h
    by (inr h) =
        let same : end ≡ from = omega (arith, h, begun) in
        absurd (most (omega (arith, same, some)) (ap octet same ∙ none))

pub held_piece : (octet : ℕ → Option Octet) (from to end : ℕ) (part : List ℕ) → from < to → 0 < length part → end ≡ from + length part → length part ≤ to - from
    → IsPiece octet from part → IsHeldPart (λ p. option_map (λ o. o.octet) (octet p)) from to end part
held_piece octet from to end part some full is few piece = record {
  some = omega (arith, full, is);
  within = omega (arith, is, few, some);
  few = omega (arith, is);
  held = λ i h. (let there : i < length part = omega (arith, h, is) in piece i there ∙ sym (get_some part i there));
}

-- ---- before the payload, in it, and behind it

module _ (payload : PayloadValue) (mapped : Mapped) (lane : LaneValue) (acknowledged packet : ℕ) (place : ℕ → Option ℕ)
    (begun : 1 ≤ payload.from) (order : payload.from ≤ payload.to) (top : payload.to ≤ lane.top) where
  outside : (q : ℕ) → is_between payload.from payload.to q ≡ false → comes payload mapped lane q ≡ earlier mapped.learnt mapped.has_line lane q
  outside q e = ap (λ b. if b then in_payload payload q else earlier mapped.learnt mapped.has_line lane q) e

  inside : (q : ℕ) → is_between payload.from payload.to q ≡ true → comes payload mapped lane q ≡ in_payload payload q
  inside q e = ap (λ b. if b then in_payload payload q else earlier mapped.learnt mapped.has_line lane q) e

  pub three_parts : (stream first second third : StreamValue)
      → first ≡ shown_from place (earlier mapped.learnt mapped.has_line lane) acknowledged packet 1 (payload.from - 1) stream
      → second ≡ shown_from place (in_payload payload) acknowledged packet payload.from (payload.to - payload.from) first
      → third ≡ shown_from place (earlier mapped.learnt mapped.has_line lane) acknowledged packet payload.to (lane.top - payload.to) second
      → third ≡ shown_from place (comes payload mapped lane) acknowledged packet 1 (lane.top - 1) stream
  three_parts stream first second third a b c =
      let before : first ≡ shown_from place (comes payload mapped lane) acknowledged packet 1 (payload.from - 1) stream =
      a ∙ same_comes place (earlier mapped.learnt mapped.has_line lane) (comes payload mapped lane) acknowledged packet 1 (payload.from - 1) stream
      (λ q lo hi. sym (outside q (let e : (nat_le payload.from q && nat_lt q payload.to) ≡ false = grind (arith, nat_tests, hi, begun) in e))) in
      let within : second ≡ shown_from place (comes payload mapped lane) acknowledged packet payload.from (payload.to - payload.from) first =
      b ∙ same_comes place (in_payload payload) (comes payload mapped lane) acknowledged packet payload.from (payload.to - payload.from) first
      (λ q lo hi. sym (inside q (let e : (nat_le payload.from q && nat_lt q payload.to) ≡ true = grind (arith, nat_tests, lo, hi, order) in e))) in
      let behind : third ≡ shown_from place (comes payload mapped lane) acknowledged packet payload.to (lane.top - payload.to) second =
      c ∙ same_comes place (earlier mapped.learnt mapped.has_line lane) (comes payload mapped lane) acknowledged packet payload.to (lane.top - payload.to) second
      (λ q lo hi. sym (outside q (let e : (nat_le payload.from q && nat_lt q payload.to) ≡ false = grind (arith, nat_tests, lo) in e))) in
      behind
      ∙ ap (shown_from place (comes payload mapped lane) acknowledged packet payload.to (lane.top - payload.to))
      (within ∙ ap (shown_from place (comes payload mapped lane) acknowledged packet payload.from (payload.to - payload.from)) before)
      ∙ sym (in_parts place (comes payload mapped lane) acknowledged packet 1 (payload.from - 1) (lane.top - payload.from) (lane.top - 1) payload.from stream
      (omega (arith, begun, order, top)) (omega (arith, begun))
      ∙ in_parts place (comes payload mapped lane) acknowledged packet payload.from (payload.to - payload.from) (lane.top - payload.to) (lane.top - payload.from) payload.to
      (shown_from place (comes payload mapped lane) acknowledged packet 1 (payload.from - 1) stream)
      (omega (arith, order, top)) (omega (arith, order)))

-- ---- stretch after stretch
pub nothing_yet : (place : ℕ → Option ℕ) (comes : ℕ → Option (Option ℕ)) (acknowledged packet from : ℕ) (stream : StreamValue)
    → stream ≡ shown_from place comes acknowledged packet from (from - from) stream
nothing_yet place comes acknowledged packet from stream =
    let none : 0 ≡ from - from = omega arith in ap (λ (n : ℕ). shown_from place comes acknowledged packet from n stream) none

-- what two clauses on a result say
pub both_ok : {X E : Type 0} → (r : Result X E) (P Q R : X → Type 0) → ((x : X) → P x → Q x → R x) → IfOk r P → IfOk r Q → IfOk r R
both_ok (Ok x) P Q R f p q = f x p q
both_ok (Err e) P Q R f p q = tt

pub shown_on : (place : ℕ → Option ℕ) (comes : ℕ → Option (Option ℕ)) (acknowledged packet from position end : ℕ) (stream so_far now : StreamValue)
    → from ≤ position → position ≤ end
    → so_far ≡ shown_from place comes acknowledged packet from (position - from) stream
    → now ≡ shown_from place comes acknowledged packet position (end - position) so_far
    → now ≡ shown_from place comes acknowledged packet from (end - from) stream
shown_on place comes acknowledged packet from position end stream so_far now lo hi before is =
    is ∙ ap (shown_from place comes acknowledged packet position (end - position)) before
    ∙ sym (in_parts place comes acknowledged packet from (position - from) (end - position) (end - from) position stream
    (omega (arith, lo, hi)) (omega (arith, lo)))
