-- What the runs that are kept tell of the places that contracts see.
use Rattle.std.proofs.Common.{◌≡◌, ℕ, Bool, true, false, nat_lt, if◌then◌else◌, Option, Some, None, List, refl, sym, ap, ◌∙◌, subst}
use Rattle.std.specs.Prelude.{IfSome, find}
use Rattle.std.specs.Option.{option_or}
use Rattle.dss_mapping.specs.declared.kept.KeptMapping.{KeptMapping}
use Rattle.dss_mapping.specs.declared.run.Run.{Run}
use Rattle.dss_mapping.specs.declared.stretch.Stretch.{Stretch}
use Rattle.dss_mapping.specs.Runs.{covers, place_in}
use Rattle.dss_mapping.specs.Mappings.{Mappings, mapping_at, place_at, run_of, tail_at, Agree}
use Rattle.dss_mapping.specs.Kept.{ArePlaced, places_of, place_among, place_by, AgreeAmong, IsStretch}
use Rattle.dss_mapping.proofs.PlacesOf.{get-places_of}

module _ (runs : List Run) (tail : Option Run) (live : List KeptMapping) (forgotten : ℕ) (held : List KeptMapping) where
  abbrev shown : Mappings
  shown = record { places = places_of runs; tail = tail; live = live; forgotten = forgotten; held = held }

  at-shown : (p : ℕ) → place_at shown p ≡ place_by runs tail p
  at-shown p = ap (λ o. option_or o (tail_at tail p)) (get-places_of runs p)

  pub stretch-shown : (v : Mappings) (at : ℕ) (stretch : Stretch) → shown ≡ v → IsStretch (place_by runs tail) at stretch → IsStretch (place_at v) at stretch
  stretch-shown v at stretch e s = subst (λ v. IsStretch (place_at v) at stretch) e (record {
    onward = s.onward;
    each = λ p from to. at-shown p ∙ s.each p from to;
  })

  first_holds : (P : ℕ → Type 0) (first second : Option ℕ) → IfSome (option_or first second) P → IfSome first P
  first_holds P None second h = tt
  first_holds P (Some q) second h = h

  pub agree-shown : (v : Mappings) (told : Run) → shown ≡ v → Agree told told.to v → AgreeAmong told runs
  agree-shown v told e a = record {
    each = λ p from to.
        let here : IfSome (place_at shown p) (λ place. place ≡ place_in p told) =
        subst (λ v. IfSome (place_at v p) (λ place. place ≡ place_in p told)) (sym e) (a.each p from to) in
        first_holds (λ place. place ≡ place_in p told) (place_among p runs) (tail_at tail p)
        (subst (λ o. IfSome o (λ place. place ≡ place_in p told)) (at-shown p) here);
  }

  first_none : (first second : Option ℕ) → option_or first second ≡ None → first ≡ None
  first_none None second h = refl
  first_none (Some q) second h = h

  none-shown : (v : Mappings) (p : ℕ) → shown ≡ v → ArePlaced runs live → place_at v p ≡ None → find (λ kept. covers p (run_of kept)) v.live ≡ None
  none-shown v p e placed none =
      subst (λ v. find (λ kept. covers p (run_of kept)) v.live ≡ None) e
      (placed p (first_none (place_among p runs) (tail_at tail p) (sym (at-shown p) ∙ ap (λ v. place_at v p) e ∙ none)))

  pub not-told : (v : Mappings) (p : ℕ) → shown ≡ v → ArePlaced runs live → place_at v p ≡ None → None ≡ mapping_at v p
  not-told v p e placed none = by (nat_lt p v.forgotten) (find (λ kept. covers p (run_of kept)) v.live) (none-shown v p e placed none)
    where
      by : (b : Bool) (found : Option KeptMapping) → found ≡ None → None ≡ (if b then None else found)
      by true found is = refl
      by false found is = sym is

  pub place-shown : (v : Mappings) (p : ℕ) → shown ≡ v → place_by runs tail p ≡ place_at v p
  place-shown v p e = sym (at-shown p) ∙ ap (λ v. place_at v p) e
