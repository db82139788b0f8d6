-- Mappings whose positions have places among the runs.
use Rattle.std.proofs.Common.{◌≡◌, refl, sym, ◌∙◌, ap, ℕ, Bool, true, false, nat_lt, cond, Option, Some, None, List, [], ◌∷◌, ◌++◌}
use Rattle.std.specs.List.{filter, find}
use Rattle.std.specs.FinMap.{get}
use Rattle.std.proofs.lemmas.List.Folds.{find-append}
use Rattle.dss_mapping.specs.declared.kept.KeptMapping.{KeptMapping}
use Rattle.dss_mapping.specs.declared.run.Run.{Run}
use Rattle.dss_mapping.specs.Runs.{covers, place_in}
use Rattle.dss_mapping.specs.Places.{with_run}
use Rattle.dss_mapping.specs.Mappings.{run_of}
use Rattle.dss_mapping.specs.Kept.{ArePlaced, places_of, place_among}
use Rattle.dss_mapping.proofs.PlacesOf.{get-places_of, get-with_run}

module _ {X : Type 0} where
  both_none : (b : Bool) (x : X) (found : Option X) → cond b (Some x) found ≡ None → (b ≡ false) × (found ≡ None)
  both_none true x found none = cc
  both_none false x found none = (refl, none)

  still_none : (b : Bool) (x : X) (found left : Option X) → cond b (Some x) found ≡ None → (found ≡ None → left ≡ None) → cond b (Some x) left ≡ None
  still_none true x found left none rest = none
  still_none false x found left none rest = rest none

  none_filtered : (test keeps : X → Bool) (xs : List X) → find test xs ≡ None → find test (filter keeps xs) ≡ None
  none_filtered test keeps [] none = refl
  none_filtered test keeps (x ∷ xs) none = by (keeps x) (none_filtered test keeps xs)
    where
      by : (b : Bool) → (find test xs ≡ None → find test (filter keeps xs) ≡ None) → find test (cond b (x ∷ filter keeps xs) (filter keeps xs)) ≡ None
      by true rest = still_none (test x) x (find test xs) (find test (filter keeps xs)) none rest
      by false rest = rest (both_none (test x) x (find test xs) none).1

  none_last : (test : X → Bool) (x : X) (xs : List X) → find test xs ≡ None → test x ≡ false → find test (xs ++ x ∷ []) ≡ None
  none_last test x xs none not = find-append test xs (x ∷ []) ∙ rw (none, not) refl

-- one more, whose positions got their places
pub placed_more : (kept : KeptMapping) (told : Run) (runs more : List Run) (live : List KeptMapping) → told ≡ run_of kept → places_of more ≡ with_run told (places_of runs)
    → ArePlaced runs live → ArePlaced more (live ++ kept ∷ [])
placed_more kept told runs more live is are placed p none =
    let was : cond (covers p told) (Some (place_in p told)) (place_among p runs) ≡ None =
    sym (sym (get-places_of more p) ∙ ap (λ places. get places p) are ∙ get-with_run told (places_of runs) p
    ∙ ap (cond (covers p told) (Some (place_in p told))) (get-places_of runs p)) ∙ none in
    let none = both_none (covers p told) (place_in p told) (place_among p runs) was in
    none_last (λ kept. covers p (run_of kept)) kept live (placed p none.1) (ap (covers p) (sym is) ∙ none.0)

-- and those that are left
pub placed_left : (pos : ℕ) (runs : List Run) (live : List KeptMapping) → ArePlaced runs live → ArePlaced runs (filter (λ kept. nat_lt pos (run_of kept).to) live)
placed_left pos runs live placed p none = none_filtered (λ kept. covers p (run_of kept)) (λ kept. nat_lt pos (run_of kept).to) live (placed p none)
