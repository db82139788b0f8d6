-- The reassembly book takes the bytes that come next.
use Rattle.clean_finish.proofs.Words.{◌≡◌, refl, ap, ◌∙◌, ℕ, ◌+◌, ◌≤◌, nat_lt, Bool, true, false, ◌&&◌, if◌then◌else◌, Option, None, List, [], ◌∷◌, ◌++◌}
use Rattle.clean_finish.proofs.Words.{length, map, arith, Some, suc, zero, is_some, drop, replicate, le-ltb, Arriving, filled, received, clash, reaches_past}
use Rattle.clean_finish.proofs.Words.{edge, is_taken, places_after, after_place, end_known}
use Rattle.std.proofs.lemmas.List.{length-append}
use Rattle.reassembly_book.specs.Steps.{by_place, merged}
use Rattle.clean_finish.proofs.Whole.{filled_some}

-- behind what is there
merged_behind : (xs bytes : List ℕ) → merged (map Some xs) (replicate (length xs) None ++ map Some bytes) ≡ map Some (xs ++ bytes)
merged_behind [] bytes = refl
merged_behind (x ∷ xs) bytes = ap (λ (ys : List (Option ℕ)). Some x ∷ ys) (merged_behind xs bytes)

dropped : (read lead : ℕ) (others : List (Option ℕ)) → drop read (replicate (read + lead) None ++ others) ≡ replicate lead None ++ others
dropped zero lead others = ap (λ (n : ℕ). replicate n None ++ others) (same lead)
  where
    same : (n : ℕ) → 0 + n ≡ n
    same n = omega arith
dropped (suc read) lead others = ap (λ (n : ℕ). drop (suc read) (replicate n None ++ others)) (more read lead) ∙ dropped read lead others
  where
    more : (a b : ℕ) → suc a + b ≡ suc (a + b)
    more a b = omega arith

module _ (b : Arriving) (bytes : List ℕ) (whole : b.places ≡ map Some (filled b.places)) (some : 1 ≤ length bytes) where
  some_of : (ys : List ℕ) → 1 ≤ length ys → by_place (received b) ys ≡ replicate (received b) None ++ map Some ys
  some_of [] one = absurd (omega (arith, one))
  some_of (y ∷ ys) one = refl

  pub places_are : places_after (received b) bytes b ≡ map Some (filled b.places ++ bytes)
  places_are = ap (λ (ps : List (Option ℕ)). merged b.places (drop b.read ps)) (some_of bytes some)
      ∙ (ap (λ (ps : List (Option ℕ)). merged b.places ps) (dropped b.read (length (filled b.places)) (map Some bytes))
      ∙ (ap (λ (ps : List (Option ℕ)). merged ps (replicate (length (filled b.places)) None ++ map Some bytes)) whole
      ∙ merged_behind (filled b.places) bytes))

  -- within what is taken
  module _ (came total : ℕ) (known : b.known_end ≡ end_known came total) (room : received b + length bytes ≤ edge b) (under : received b + length bytes ≤ total) where
    not_past : (e : ℕ) → received b + length bytes ≤ e → reaches_past e (received b) bytes ≡ false
    not_past e less = ap (λ (y : Bool). nat_lt 0 (length bytes) && y) (le-ltb e (received b + length bytes) less) ∙ by (nat_lt 0 (length bytes))
      where
        by : (y : Bool) → (y && false) ≡ false
        by true = refl
        by false = refl

    no_clash : clash b.known_end (received b) bytes ≡ None
    no_clash = ap (λ (o : Option ℕ). clash o (received b) bytes) known ∙ by came
      where
        by : (n : ℕ) → clash (end_known n total) (received b) bytes ≡ None
        by zero = refl
        by (suc n) = ap (λ (y : Bool). if y then Some total else None) (not_past total under)

    pub none_past : reaches_past (edge b) (received b) bytes ≡ false
    none_past = not_past (edge b) room

    pub none_clashes : clash b.known_end (received b) bytes ≡ None
    none_clashes = no_clash

    pub taken_is : is_taken (received b) bytes b ≡ true
    taken_is = ap (λ (y : Bool). if y then false else (if is_some (clash b.known_end (received b) bytes) then false else true)) none_past
        ∙ ap (λ (o : Option ℕ). if is_some o then false else true) no_clash

    pub placed_is : after_place (received b) bytes b ≡ record b { places = map Some (filled b.places ++ bytes) }
    placed_is = ap (λ (y : Bool). if y then record b { places = places_after (received b) bytes b } else b) taken_is
        ∙ ap (λ (ps : List (Option ℕ)). record b { places = ps }) places_are

  pub more_filled : length (filled (map Some (filled b.places ++ bytes))) ≡ length (filled b.places) + length bytes
  more_filled = ap (λ (xs : List ℕ). length xs) (filled_some (filled b.places ++ bytes)) ∙ length-append (filled b.places) bytes
