-- What holds of each kind of copy as it arrives in order.
use Rattle.clean_finish.proofs.Words.{◌≡◌, refl, sym, subst, ap, ◌∙◌, ℕ, ◌+◌, ◌-◌, ◌<◌, ◌≤◌, nat_lt, Bool, true, false, not, ◌&&◌, if◌then◌else◌, Option, None}
use Rattle.clean_finish.proofs.Words.{List, [], ◌∷◌, length, map, arith, Some, suc, zero, nat_le, drop, take, both_ways, lt-ltb, le-ltb, le-leb, list_any, Side}
use Rattle.clean_finish.proofs.Words.{B, Receiving, after_hold, State, is_half_open, first_fin, Meaning, meant, is_nil, Profile, is_connected, edge_in_payload}
use Rattle.clean_finish.proofs.Words.{has_data_ack, IsPhase, Sent, Keys, Brings, shows_keys, is_third, is_subflow_end, octets_of, CountsAs, said, is_piece}
use Rattle.clean_finish.proofs.Words.{OpensSubflow, ShowsKeys, FirstPiece, Piece, Acknowledges, EndsStream, EndsSubflow, count_in, heard_by, Opening, Listening}
use Rattle.clean_finish.proofs.Words.{HalfOpen, Open}
use Rattle.subflow_recv.specs.Receiving.{by_place, merged}
use Rattle.clean_finish.specs.Segments.{is_opening}
use Rattle.clean_finish.proofs.CopySays.{drop_place}

-- ---- keys

one_of : {x : ℕ} → x ≡ 1 → 1 ≤ x
one_of is = omega (arith, is)

none_some : {x : ℕ} → x ≡ 0 → 1 ≤ x → ⊥
none_some is some = absurd (omega (arith, is, some))

-- what shows the keys was sent with them
pub keys_shown_by : (control keys control_then keys_then : ℕ) (b : Brings) → shows_keys b ≡ true → CountsAs control keys control_then keys_then b → 1 ≤ keys_then
keys_shown_by control keys control_then keys_then ShowsKeys e is = one_of is.3
keys_shown_by control keys control_then keys_then (FirstPiece octets) e is = one_of is.2
keys_shown_by control keys control_then keys_then _ e is = absurd (both_ways false refl e)

-- where no keys came before, what comes with them is the third segment
pub first_keys : (control keys control_then keys_then : ℕ) (b : Brings) → is_opening b ≡ false → CountsAs control keys control_then keys_then b
    → keys ≡ 0 → 1 ≤ keys_then → is_third b ≡ true
first_keys control keys control_then keys_then OpensSubflow e is none some = absurd (both_ways _ e refl)
first_keys control keys control_then keys_then ShowsKeys e is none some = refl
first_keys control keys control_then keys_then (FirstPiece octets) e is none some = absurd (none_some none (one_of is.4))
first_keys control keys control_then keys_then _ e is none some = absurd (none_some (is.2 ∙ none) some)

pub third_first : (control keys control_then keys_then : ℕ) (b : Brings) → is_third b ≡ true → CountsAs control keys control_then keys_then b → keys ≡ 0
third_first control keys control_then keys_then ShowsKeys e is = is.2
third_first control keys control_then keys_then _ e is = absurd (both_ways false refl e)

-- the others come behind it
pub later_keys : (control keys control_then keys_then : ℕ) (b : Brings) → is_opening b ≡ false → is_third b ≡ false → CountsAs control keys control_then keys_then b
    → 1 ≤ keys_then → 1 ≤ keys
later_keys control keys control_then keys_then OpensSubflow e f is some = absurd (both_ways _ e refl)
later_keys control keys control_then keys_then ShowsKeys e f is some = absurd (both_ways _ f refl)
later_keys control keys control_then keys_then (FirstPiece octets) e f is some = one_of is.4
later_keys control keys control_then keys_then _ e f is some = subst (λ (n : ℕ). 1 ≤ n) is.2 some

pub third_shows : (b : Brings) → is_third b ≡ true → shows_keys b ≡ true
third_shows ShowsKeys e = refl
third_shows _ e = absurd (both_ways false refl e)

-- bytes are some
pub some_bytes : (control keys control_then keys_then : ℕ) (b : Brings) → is_piece b ≡ true → CountsAs control keys control_then keys_then b → 1 ≤ length (octets_of b)
some_bytes control keys control_then keys_then (FirstPiece octets) e is = is.3
some_bytes control keys control_then keys_then (Piece octets) e is = is.3
some_bytes control keys control_then keys_then _ e is = absurd (both_ways false refl e)

-- a FIN comes behind no other
pub fin_once : (control keys control_then keys_then : ℕ) (b : Brings) → is_subflow_end b ≡ true → CountsAs control keys control_then keys_then b → control ≡ 1
fin_once control keys control_then keys_then EndsSubflow e is = is.0
fin_once control keys control_then keys_then _ e is = absurd (both_ways false refl e)

-- ---- the end that it opens

pub not_true : (b : Bool) → (b ≡ true → ⊥) → b ≡ false
not_true true f = absurd (f refl)
not_true false f = refl

pub opens_third : (s : Side) (came una : ℕ) (finished : Bool) (state : State) (third : Bool) → IsPhase s came una finished state → 1 ≤ came
    → (s ≡ B → is_connected state ≡ false → third ≡ true) → (1 ≤ una → third ≡ false) → is_half_open state ≡ third
opens_third s came una finished state third (Opening side none low is) some half whole = absurd (none_some none some)
opens_third s came una finished state third (Listening side none low is) some half whole = absurd (none_some none some)
opens_third s came una finished state third (HalfOpen side one low is) some half whole = ap is_half_open is ∙ sym (half side (ap is_connected is))
opens_third s came una finished state third (Open one high is) some half whole = is.half ∙ sym (whole high)

pub third_opens : (s : Side) (came una : ℕ) (finished : Bool) (state : State) → IsPhase s came una finished state → 1 ≤ came
    → is_half_open state ≡ true → is_connected state ≡ false
third_opens s came una finished state (Opening side none low is) some half = absurd (none_some none some)
third_opens s came una finished state (Listening side none low is) some half = absurd (none_some none some)
third_opens s came una finished state (HalfOpen side one low is) some half = ap is_connected is
third_opens s came una finished state (Open one high is) some half = absurd (both_ways _ is.half half)

pub open_una : (s : Side) (came una : ℕ) (finished : Bool) (state : State) → IsPhase s came una finished state → 1 ≤ came
    → is_half_open state ≡ false → 1 ≤ una
open_una s came una finished state (Opening side none low is) some half = absurd (none_some none some)
open_una s came una finished state (Listening side none low is) some half = absurd (none_some none some)
open_una s came una finished state (HalfOpen side one low is) some half = absurd (both_ways _ half (ap is_half_open is))
open_una s came una finished state (Open one high is) some half = high

-- ---- options

pub has_options : (c : Profile) (keys : Keys) (s : Side) (x : Sent) (b : Brings) → is_opening b ≡ false
    → not (is_nil (meant (said c keys s (record x { brings = b }))).options) ≡ true
has_options c keys s x OpensSubflow e = absurd (both_ways _ e refl)
has_options c keys s x _ e = refl

-- all but those with keys have a Data ACK
pub acks_data : (c : Profile) (keys : Keys) (s : Side) (x : Sent) (b : Brings) → is_opening b ≡ false → shows_keys b ≡ false
    → list_any has_data_ack (meant (said c keys s (record x { brings = b }))).options ≡ true
acks_data c keys s x OpensSubflow e f = absurd (both_ways _ e refl)
acks_data c keys s x ShowsKeys e f = absurd (both_ways _ f refl)
acks_data c keys s x (FirstPiece octets) e f = absurd (both_ways _ f refl)
acks_data c keys s x _ e f = refl

-- how many things are heard
pub length_heard : (keys : Keys) (next window : ℕ) (b : Brings) → length (heard_by keys next window b) ≡ count_in b
length_heard keys next window OpensSubflow = refl
length_heard keys next window _ = refl

-- ---- the payload

pub held_at : (pos edge acknowledged : ℕ) (octets : List ℕ) → pos ≡ edge
    → edge_in_payload (Meaning.Taken pos acknowledged) octets edge ≡ (if is_nil octets then None else Some edge)
held_at pos edge acknowledged [] at =
    ap (λ (b : Bool). if nat_le pos edge && b then Some edge else None) (le-ltb edge (pos + 0) (low at)) ∙ none (nat_le pos edge)
  where
    low : pos ≡ edge → pos + 0 ≤ edge
    low same = omega (arith, same)

    none : (b : Bool) → (if b && false then Some edge else None) ≡ None
    none true = refl
    none false = refl
held_at pos edge acknowledged (x ∷ octets) at =
    ap (λ (b : Bool). if b && nat_lt edge (pos + length (x ∷ octets)) then Some edge else None) (le-leb pos edge (low at))
    ∙ ap (λ (b : Bool). if true && b then Some edge else None) (lt-ltb edge (pos + length (x ∷ octets)) (more at))
  where
    low : pos ≡ edge → pos ≤ edge
    low same = omega (arith, same)

    more : pos ≡ edge → edge < pos + length (x ∷ octets)
    more same = omega (arith, same)

pub take_long : (n : ℕ) (xs : List ℕ) → length xs ≤ n → take n xs ≡ xs
take_long zero [] less = refl
take_long zero (x ∷ xs) less = absurd (omega (arith, less))
take_long (suc n) [] less = refl
take_long (suc n) (x ∷ xs) less = ap (λ (ys : List ℕ). x ∷ ys) (take_long n xs (omega (arith, less)))

-- held where nothing was kept before, all of it is in the window
pub incoming_is : (pos : ℕ) (octets : List ℕ) (r : Receiving) → pos ≡ r.edge → r.places ≡ [] → r.incoming ≡ None → r.window ≡ 1048576
    → length octets ≤ 1048576 → (if is_nil octets then r else after_hold pos octets r).incoming ≡ (if is_nil octets then None else Some (map Some octets))
incoming_is pos [] r at places incoming window few = incoming
incoming_is pos (x ∷ octets) r at places incoming window few =
    ap (λ (xs : List ℕ). Some (merged r.places (drop r.edge (by_place pos xs)))) (take_long (r.edge + r.window - pos) (x ∷ octets) (fits r.edge at window few))
    ∙ (ap (λ (ps : List (Option ℕ)). Some (merged ps (drop r.edge (by_place pos (x ∷ octets))))) places
    ∙ (ap (λ (n : ℕ). Some (drop r.edge (by_place n (x ∷ octets)))) at
    ∙ ap (λ (ps : List (Option ℕ)). Some ps) (drop_place r.edge (x ∷ octets))))
  where
    fits : {w n : ℕ} (edge : ℕ) → pos ≡ edge → w ≡ 1048576 → n ≤ 1048576 → n ≤ edge + w - pos
    fits edge same is less = omega (arith, same, is, less)

pub places_kept : (pos : ℕ) (octets : List ℕ) (r : Receiving) → (if is_nil octets then r else after_hold pos octets r).places ≡ r.places
places_kept pos [] r = refl
places_kept pos (x ∷ octets) r = refl

-- ---- the FIN

pub fin_is : (b : Brings) (at : Option ℕ) (came received pos edge : ℕ) → at ≡ (if nat_lt 1 came then Some (received + 1) else None)
    → (is_subflow_end b ≡ true → came ≡ 1) → pos ≡ edge
    → first_fin at (is_subflow_end b) (pos + length (octets_of b)) ≡ (if is_subflow_end b then Some edge else (if nat_lt 1 came then Some (received + 1) else None))
fin_is OpensSubflow at came received pos edge is once same = other at (pos + 0) ∙ is
  where
    other : (o : Option ℕ) (p : ℕ) → first_fin o false p ≡ o
    other None p = refl
    other (Some n) p = refl
fin_is ShowsKeys at came received pos edge is once same = other at (pos + 0) ∙ is
  where
    other : (o : Option ℕ) (p : ℕ) → first_fin o false p ≡ o
    other None p = refl
    other (Some n) p = refl
fin_is (FirstPiece octets) at came received pos edge is once same = other at (pos + length octets) ∙ is
  where
    other : (o : Option ℕ) (p : ℕ) → first_fin o false p ≡ o
    other None p = refl
    other (Some n) p = refl
fin_is (Piece octets) at came received pos edge is once same = other at (pos + length octets) ∙ is
  where
    other : (o : Option ℕ) (p : ℕ) → first_fin o false p ≡ o
    other None p = refl
    other (Some n) p = refl
fin_is Acknowledges at came received pos edge is once same = other at (pos + 0) ∙ is
  where
    other : (o : Option ℕ) (p : ℕ) → first_fin o false p ≡ o
    other None p = refl
    other (Some n) p = refl
fin_is (EndsStream place) at came received pos edge is once same = other at (pos + 0) ∙ is
  where
    other : (o : Option ℕ) (p : ℕ) → first_fin o false p ≡ o
    other None p = refl
    other (Some n) p = refl
fin_is EndsSubflow at came received pos edge is once same =
    ap (λ (o : Option ℕ). first_fin o true (pos + 0)) (is ∙ ap (λ (n : ℕ). if nat_lt 1 n then Some (received + 1) else None) (once refl))
    ∙ ap (λ (n : ℕ). Some n) (plus same)
  where
    plus : pos ≡ edge → pos + 0 ≡ edge
    plus e = omega (arith, e)
