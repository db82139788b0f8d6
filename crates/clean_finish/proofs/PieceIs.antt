-- The bytes of a copy, once its mapping is learned and its payload is kept: they are the next ones to be placed.
use Rattle.clean_finish.proofs.Words.{◌≡◌, refl, sym, ap, ◌∙◌, ℕ, ◌+◌, ◌-◌, ◌<◌, ◌≤◌, min, nat_lt, Bool, true, false, ◌&&◌, if◌then◌else◌, Option, None, List}
use Rattle.clean_finish.proofs.Words.{[], ◌∷◌, length, map, filter, arith, Some, drop, ◌^◌, take, find, lt-ltb, le-ltb, le-leb, eq-eqb, Side, peer, KeptMapping}
use Rattle.clean_finish.proofs.Words.{Mappings, run_of, mapping_at, after_forget, EndState, some_piece, is_nil, Profile, bare_mapping, piece_by, piece_in}
use Rattle.clean_finish.proofs.Words.{is_right, checked_piece, Sent, kept_piece}
use Rattle.dss_mapping.specs.Runs.{covers}
use Rattle.dss_checksum.specs.Checksum.{dss_checksum}
use Rattle.subflow_recv.specs.Receiving.{filled}
use Rattle.path_store.specs.Passing.{Piece, count_in}
use Rattle.path_core.specs.Deliver.{is_whole}
use Rattle.clean_finish.proofs.Whole.{filled_some}

pub some_nil : (octets : List ℕ) → 1 ≤ length octets → is_nil octets ≡ false
some_nil [] one = absurd (omega (arith, one))
some_nil (x ∷ octets) one = refl

take_all : (xs : List ℕ) → take (length xs) xs ≡ xs
take_all [] = refl
take_all (x ∷ xs) = ap (λ (ys : List ℕ). x ∷ ys) (take_all xs)

drop_all : (octets : List ℕ) → drop (length octets) (map Some octets) ≡ []
drop_all [] = refl
drop_all (x ∷ octets) = drop_all octets

-- nothing is left of them behind the edge
pub none_left : (edge : ℕ) (octets : List ℕ) → drop (edge + length octets - edge) (map Some octets) ≡ []
none_left edge octets = ap (λ (n : ℕ). drop n (map Some octets)) (less edge (length octets)) ∙ drop_all octets
  where
    less : (a b : ℕ) → a + b - a ≡ b
    less a b = omega arith

module _ (c : Profile) (q : Side) (x : Sent) (octets : List ℕ) (s : EndState) (some : 1 ≤ length octets) (at : x.low + x.control ≡ s.recv.edge)
    (places : s.recv.places ≡ map Some octets) (few : x.low + length octets ≤ 16777216) (near : x.low + x.control ≤ 16777218)
  where
    abbrev kept : KeptMapping
    kept = kept_piece c q x octets

    abbrev pub piece : Piece
    piece = record { place = x.low; octets = octets }

    all_in : filled s.recv.places ≡ octets
    all_in = ap (λ (ps : List (Option ℕ)). filled ps) places ∙ filled_some octets

    covers_edge : covers s.recv.edge (run_of kept) ≡ true
    covers_edge = rw (le-leb (x.low + x.control) s.recv.edge (low at), lt-ltb s.recv.edge (min (x.low + x.control + length octets) (2 ^ 64 - 1)) (high at some few near)) refl
      where
        low : {e : ℕ} → x.low + x.control ≡ e → x.low + x.control ≤ e
        low is = omega (arith, is)

        high : {e n : ℕ} → x.low + x.control ≡ e → 1 ≤ n → x.low + n ≤ 16777216 → x.low + x.control ≤ 16777218 → e < min (x.low + x.control + n) (2 ^ 64 - 1)
        high is one p r = omega (arith, is, one, p, r)

    place_is : x.low + (s.recv.edge - (x.low + x.control)) ≡ x.low
    place_is = none at
      where
        none : {e : ℕ} → x.low + x.control ≡ e → x.low + (e - (x.low + x.control)) ≡ x.low
        none is = omega (arith, is)

    count_is : count_in s.recv.edge kept ≡ length octets
    count_is = all at few
      where
        all : {e n : ℕ} → x.low + x.control ≡ e → x.low + n ≤ 16777216 → min (x.low + x.control + n - e) (2 ^ 62 - (x.low + (e - (x.low + x.control)))) ≡ n
        all is p = omega (arith, is, p)

    piece_is : piece_in kept s ≡ piece
    piece_is = ap (λ (p : ℕ). record { place = p; octets = take (count_in s.recv.edge kept) (filled s.recv.places) }) place_is
        ∙ (ap (λ (n : ℕ). record { place = x.low; octets = take n (filled s.recv.places) }) count_is
        ∙ (ap (λ (os : List ℕ). record { place = x.low; octets = take (length octets) os }) all_in
        ∙ ap (λ (os : List ℕ). record { place = x.low; octets = os }) (take_all octets)))

    some_is : some_piece piece ≡ Some piece
    some_is = ap (λ (b : Bool). if b then Some piece else None) (lt-ltb 0 (length octets) (more some))
      where
        more : {n : ℕ} → 1 ≤ n → 0 < n
        more one = omega (arith, one)

    whole_is : is_whole kept s ≡ true
    whole_is = rw (
      eq-eqb (x.low + x.control) s.recv.edge at,
      lt-ltb 0 (length octets) (more some),
      le-leb (length octets) (length (filled s.recv.places)) (same (ap (λ (os : List ℕ). length os) all_in)),
      le-leb (x.low + length octets) (2 ^ 62) (up few),
    ) refl
      where
        more : {n : ℕ} → 1 ≤ n → 0 < n
        more one = omega (arith, one)

        same : {a b : ℕ} → b ≡ a → a ≤ b
        same is = omega (arith, is)

        up : {a : ℕ} → a ≤ 16777216 → a ≤ 2 ^ 62
        up less = omega (arith, less)

    -- with checksums the sum is right
    right_is : c.spelling.checksums ≡ true → is_right kept s ≡ true
    right_is checked = eq-eqb (dss_checksum kept.mapping (take (length octets) (filled s.recv.places))) kept.mapping.checksum
        (ap (λ (os : List ℕ). dss_checksum kept.mapping (take (length octets) os)) all_in
        ∙ (ap (λ (os : List ℕ). dss_checksum kept.mapping os) (take_all octets)
        ∙ sym (ap (λ (b : Bool). if b then dss_checksum (bare_mapping c (peer q) x.low (x.low + x.control) (length octets)) octets else 0) checked)))

    checked_is : (b : Bool) → c.spelling.checksums ≡ b → checked_piece b kept s ≡ Some piece
    checked_is false e = ap some_piece piece_is ∙ some_is
    checked_is true e = ap (λ (b : Bool). if b && is_right kept s then some_piece (piece_in kept s) else None) whole_is
        ∙ (ap (λ (b : Bool). if true && b then some_piece (piece_in kept s) else None) (right_is e) ∙ (ap some_piece piece_is ∙ some_is))

    -- the kept mapping is the one at the edge
    pub here_is : (v : Mappings) → v.forgotten ≤ s.recv.edge → v.live ≡ kept ∷ [] → mapping_at v s.recv.edge ≡ Some kept
    here_is v low live = ap (λ (b : Bool). if b then None else find (λ (y : KeptMapping). covers s.recv.edge (run_of y)) v.live) (le-ltb s.recv.edge v.forgotten low)
        ∙ (ap (λ (ys : List KeptMapping). find (λ (y : KeptMapping). covers s.recv.edge (run_of y)) ys) live
        ∙ ap (λ (b : Bool). if b then Some kept else None) covers_edge)

    pub next_by : (o : Option KeptMapping) → o ≡ Some kept → piece_by c.spelling.checksums o s ≡ Some piece
    next_by o is = ap (λ (y : Option KeptMapping). piece_by c.spelling.checksums y s) is ∙ checked_is c.spelling.checksums refl

    -- what was placed isn't told any more
    pub gone : (v : Mappings) → v.live ≡ kept ∷ [] → (after_forget (s.recv.edge + length octets) v).live ≡ []
    gone v live = ap (λ (ys : List KeptMapping). filter (λ (y : KeptMapping). nat_lt (s.recv.edge + length octets) (run_of y).to) ys) live
        ∙ ap (λ (b : Bool). if b then kept ∷ [] else []) (le-ltb (s.recv.edge + length octets) (min (x.low + x.control + length octets) (2 ^ 64 - 1)) (low (length octets) at))
      where
        low : {e : ℕ} (n : ℕ) → x.low + x.control ≡ e → min (x.low + x.control + n) (2 ^ 64 - 1) ≤ e + n
        low n is = omega (arith, is)

-- where no mapping is known no bytes are placed
pub none_here : (v : Mappings) (edge : ℕ) → v.live ≡ [] → mapping_at v edge ≡ None
none_here v edge live = ap (λ (ys : List KeptMapping). if nat_lt edge v.forgotten then None else find (λ (y : KeptMapping). covers edge (run_of y)) ys) live
    ∙ by (nat_lt edge v.forgotten)
  where
    by : (b : Bool) → ◌≡◌ {A = Option KeptMapping} (if b then None else None) None
    by true = refl
    by false = refl
