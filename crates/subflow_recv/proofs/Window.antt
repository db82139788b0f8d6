-- The octets of a payload that are in the window.
use Rattle.std.proofs.Common.{◌≡◌, ℕ, zero, suc, ◌+◌, ◌-◌, ◌<◌, ◌≤◌, ◌⊎◌, inl, inr, true≢false, true, Option, Some, None, List, [], ◌∷◌, length, take, drop, map, refl, sym, ap, ◌∙◌, arith, ⊎_elim}
use Rattle.std.proofs.lemmas.Bool.{cases_lt}
use Rattle.std.proofs.lemmas.List.{drop_all, length-drop, length-take}
use Rattle.std.proofs.Math.Seq.{drop-nil}
use Rattle.byte_pieces.proofs.Ordered.{le_true, le_false}
use Rattle.byte_pieces.proofs.Filling.{merged-nil}
use Rattle.subflow_recv.specs.Receiving.{Receiving, by_place, merged, filled, cut, window_end, is_outside, after_accept, without_held}

-- ---- how many places there are
length-some : (bytes : List ℕ) → length (map Some bytes) ≡ length bytes
length-some [] = refl
length-some (byte ∷ bytes) = ap suc (length-some bytes)

by_place-le : (at : ℕ) (bytes : List ℕ) → length (by_place at bytes) ≤ at + length bytes
by_place-le at [] = omega arith
by_place-le zero (byte ∷ bytes) = omega (arith, length-some bytes)
by_place-le (suc at) (byte ∷ bytes) = omega (arith, by_place-le at (byte ∷ bytes))

merged-le : (n : ℕ) (places others : List (Option ℕ)) → length places ≤ n → length others ≤ n → length (merged places others) ≤ n
merged-le n [] others h g = g
merged-le n (place ∷ places) [] h g = h
merged-le zero (place ∷ places) (other ∷ others) h g = absurd (omega arith)
merged-le (suc n) (Some byte ∷ places) (other ∷ others) h g = omega (arith, merged-le n places others (omega arith) (omega arith))
merged-le (suc n) (None ∷ places) (other ∷ others) h g = omega (arith, merged-le n places others (omega arith) (omega arith))

pub fits-put : (edge window pos : ℕ) (octets : List ℕ) (places : List (Option ℕ)) → length places ≤ window → pos + length octets ≤ edge + window
    → length (merged places (drop edge (by_place pos octets))) ≤ window
fits-put edge window pos octets places h g =
    merged-le window places (drop edge (by_place pos octets)) h (omega (arith, length-drop edge (by_place pos octets), by_place-le pos octets))

-- what lies past the window is left out
pub fits-held : (edge window pos : ℕ) (payload : List ℕ) (places : List (Option ℕ)) → length places ≤ window
    → length (merged places (drop edge (by_place pos (take (edge + window - pos) payload)))) ≤ window
fits-held edge window pos payload places h =
    ⊎_elim
    (λ (before : pos < edge + window).
    fits-put edge window pos (take (edge + window - pos) payload) places h (omega (arith, length-take (edge + window - pos) payload)))
    (λ (past : edge + window ≤ pos). fits-none (edge + window - pos) (omega arith))
    (cases_lt pos (edge + window))
  where
    fits-none : (n : ℕ) → n ≡ 0 → length (merged places (drop edge (by_place pos (take n payload)))) ≤ window
    fits-none n e = rw (e, drop-nil {A = Option ℕ} edge, merged-nil places) h

cut-le : (n : ℕ) (places : List (Option ℕ)) → length (cut n places) ≤ length places
cut-le zero places = omega arith
cut-le (suc n) [] = omega arith
cut-le (suc n) (Some byte ∷ places) = omega (arith, cut-le n places)
cut-le (suc n) (None ∷ places) = shorter (cut n places) (cut-le n places)
  where
    shorter : (rest : List (Option ℕ)) → length rest ≤ length places → length (Rattle.byte_pieces.specs.Places.gap_before rest) ≤ suc (length places)
    shorter [] h = omega arith
    shorter (place ∷ rest) h = omega arith

pub fits-cut : (window n : ℕ) (places : List (Option ℕ)) → length places ≤ window → length (cut n places) ≤ window
fits-cut window n places h = omega (arith, cut-le n places)

-- ---- a payload that is outside
take-none : (n : ℕ) (bytes : List ℕ) → n ≡ 0 → take n bytes ≡ []
take-none n bytes e = rw e refl

pub take-empty : (n : ℕ) (bytes : List ℕ) → length bytes ≡ 0 → take n bytes ≡ []
take-empty zero [] e = refl
take-empty (suc n) [] e = refl
take-empty n (byte ∷ bytes) e = absurd (omega arith)

pub outside_kinds : (pos : ℕ) (payload : List ℕ) (v : Receiving) → is_outside pos payload v ≡ true
    → (length payload ≡ 0) ⊎ ((pos + length payload ≤ v.edge) ⊎ (window_end v ≤ pos))
outside_kinds pos payload v e =
    ⊎_elim
    (λ (some : 0 < length payload). ⊎_elim
    (λ (past : v.edge < pos + length payload). ⊎_elim
    (λ (before : pos < window_end v). let f = rw (le_false (length payload) 0 some, le_false (pos + length payload) v.edge past, le_false (window_end v) pos before) at e in absurd (true≢false (sym f)))
    (λ beyond. inr (inr beyond))
    (cases_lt pos (window_end v)))
    (λ below. inr (inl below))
    (cases_lt v.edge (pos + length payload)))
    (λ (none : length payload ≤ 0). inl (omega arith))
    (cases_lt 0 (length payload))

pub outside_changes_nothing : (pos : ℕ) (payload : List ℕ) (v : Receiving) → is_outside pos payload v ≡ true → after_accept pos payload v ≡ without_held v
outside_changes_nothing pos payload v e =
    ap (λ others. record v { places = merged v.places others; incoming = None })
    (⊎_elim
    (λ none. ap (λ octets. drop v.edge (by_place pos octets)) (take-empty (window_end v - pos) payload none) ∙ drop-nil {A = Option ℕ} v.edge)
    (λ rest. ⊎_elim
    (λ below. drop_all v.edge (by_place pos (take (window_end v - pos) payload)) (omega (arith, by_place-le pos (take (window_end v - pos) payload), length-take (window_end v - pos) payload)))
    (λ past. ap (λ octets. drop v.edge (by_place pos octets)) (take-none (window_end v - pos) payload (omega arith)) ∙ drop-nil {A = Option ℕ} v.edge)
    rest)
    (outside_kinds pos payload v e))
    ∙ ap (λ places. record v { places = places; incoming = None }) (merged-nil v.places)

pub outside_law : (pos : ℕ) (payload : List ℕ) (v : Receiving) → 0 < v.window
    → (is_outside pos payload v ≡ true → (k : ℕ) → k < length payload → (pos + k < v.edge) ⊎ (window_end v ≤ pos + k))
    × (((k : ℕ) → k < length payload → (pos + k < v.edge) ⊎ (window_end v ≤ pos + k)) → is_outside pos payload v ≡ true)
outside_law pos payload v some = (there, back)
  where
    there : is_outside pos payload v ≡ true → (k : ℕ) → k < length payload → (pos + k < v.edge) ⊎ (window_end v ≤ pos + k)
    there e k lt =
        ⊎_elim
        (λ (none : length payload ≡ 0). absurd (omega arith))
        (λ rest. ⊎_elim
        (λ (below : pos + length payload ≤ v.edge). inl (omega arith))
        (λ (beyond : window_end v ≤ pos). inr (omega arith))
        rest)
        (outside_kinds pos payload v e)

    inside : 0 < length payload → pos < window_end v → v.edge < pos + length payload → ((k : ℕ) → k < length payload → (pos + k < v.edge) ⊎ (window_end v ≤ pos + k)) → is_outside pos payload v ≡ true
    inside more before past each =
        ⊎_elim
        (λ (low : pos + (v.edge - pos) < v.edge). absurd (omega arith))
        (λ (high : window_end v ≤ pos + (v.edge - pos)). absurd (omega arith))
        (each (v.edge - pos) (omega arith))

    back : ((k : ℕ) → k < length payload → (pos + k < v.edge) ⊎ (window_end v ≤ pos + k)) → is_outside pos payload v ≡ true
    back each =
        ⊎_elim
        (λ (more : 0 < length payload). ⊎_elim
        (λ (past : v.edge < pos + length payload). ⊎_elim
        (λ (before : pos < window_end v). inside more before past each)
        (λ (beyond : window_end v ≤ pos). rw (le_false (length payload) 0 more, le_false (pos + length payload) v.edge past) (le_true (window_end v) pos beyond))
        (cases_lt pos (window_end v)))
        (λ (below : pos + length payload ≤ v.edge). rw (le_false (length payload) 0 more, le_true (pos + length payload) v.edge below) refl)
        (cases_lt v.edge (pos + length payload)))
        (λ (none : length payload ≤ 0). rw (le_true (length payload) 0 none) refl)
        (cases_lt 0 (length payload))

pub filled-le : (places : List (Option ℕ)) → length (filled places) ≤ length places
filled-le [] = omega arith
filled-le (None ∷ places) = omega arith
filled-le (Some octet ∷ places) = omega (arith, filled-le places)
