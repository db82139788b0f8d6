-- The first mapping that an end holds is learned: it begins at the receive edge, from which on none was known.
use Rattle.clean_finish.proofs.Words.{◌≡◌, refl, ap, ◌∙◌, ℕ, ◌+◌, ◌-◌, ◌≤◌, Bool, false, ◌&&◌, if◌then◌else◌, Option, None, List, [], ◌∷◌, ◌++◌, arith, Some}
use Rattle.clean_finish.proofs.Words.{suc, zero, is_some, option_or, KeptMapping, after_learn_held, all_covered, answer_by, clash_from, clash_of, clash_or}
use Rattle.clean_finish.proofs.Words.{clashes_if, first_held, first_of, held_clashes, learn_of, learned_if, others_of, Mappings, after_learn, place_at, run_of}
use Rattle.clean_finish.proofs.Words.{tail_at, data_fin_behind, MappedDataFin, PathEnd, with_learned}
use Rattle.std.specs.FinMap.{get as place_of}
use Rattle.dss_mapping.specs.declared.learn.Learn.{Learn}
use Rattle.dss_mapping.specs.declared.learn.Learn.TheVariants.{New, Same}
use Rattle.dss_mapping.specs.declared.run.Run.{Run}
use Rattle.dss_mapping.specs.Mappings.{octets_of}
use Rattle.dss_mapping.specs.Places.{with_run}
use Rattle.dss_mapping.specs.Runs.{place_in}
use Rattle.dss_mapping.proofs.PlacesOf.{get-with_run, behind}

module _ (v : Mappings) (edge : ℕ) (beyond : (p : ℕ) → edge ≤ p → place_of v.places p ≡ None) (tail : v.tail ≡ None) where
  none_at : (p : ℕ) → edge ≤ p → place_at v p ≡ None
  none_at p less = ap (λ (o : Option ℕ). option_or o (tail_at v.tail p)) (beyond p less) ∙ ap (λ (o : Option Run). tail_at o p) tail

  no_clash_from : (count at : ℕ) (told : Run) → edge ≤ at → clash_from count at told v ≡ None
  no_clash_from zero at told less = refl
  no_clash_from (suc count) at told less =
      ap (λ (o : Option ℕ). clash_or o at told (clash_from count (suc at) told v)) (none_at at less) ∙ no_clash_from count (suc at) told (up less)
    where
      up : {a b : ℕ} → a ≤ b → a ≤ suc b
      up p = omega (arith, p)

  none_covered : (count at : ℕ) → edge ≤ at → 1 ≤ count → all_covered count at v ≡ false
  none_covered zero at less some = absurd (omega (arith, some))
  none_covered (suc count) at less some = ap (λ (o : Option ℕ). is_some o && all_covered count (suc at) v) (none_at at less)

  module _ (kept : KeptMapping) (held : v.held ≡ kept ∷ []) (live : v.live ≡ []) (from : edge ≤ (run_of kept).pos) (some : 1 ≤ (run_of kept).to - (run_of kept).pos) where
    clash_is : clash_of (run_of kept) v ≡ None
    clash_is = no_clash_from ((run_of kept).to - (run_of kept).pos) (run_of kept).pos (run_of kept) from

    -- the mapping is at odds with none
    pub agrees : held_clashes v ≡ false
    agrees = ap (λ (ms : List KeptMapping). clashes_if (first_of ms) v) held ∙ ap (λ (o : Option Learn). is_some o) clash_is

    learn_is : learn_of kept v ≡ New
    learn_is = ap (λ (o : Option Learn). answer_by o (run_of kept) v) clash_is
        ∙ ap (λ (b : Bool). if b then Same else New) (none_covered ((run_of kept).to - (run_of kept).pos) (run_of kept).pos from some)

    abbrev pub with_kept : Mappings
    with_kept = record v { places = with_run (run_of kept) v.places; live = kept ∷ []; held = [] }

    pub learned_is : after_learn_held v ≡ with_kept
    learned_is =
        ap (λ (ms : List KeptMapping). record (learned_if (first_of ms) v) { held = others_of (learned_if (first_of ms) v).held }) held
        ∙ (ap (λ (l : Learn). record (after_learn kept l v) { held = others_of (after_learn kept l v).held }) learn_is
        ∙ (ap (λ (ms : List KeptMapping). record v { places = with_run (run_of kept) v.places; live = ms ++ kept ∷ []; held = others_of v.held }) live
        ∙ ap (λ (ms : List KeptMapping). record v { places = with_run (run_of kept) v.places; live = kept ∷ []; held = others_of ms }) held))

    pub behind_it : (p : ℕ) → edge ≤ p → (run_of kept).to ≤ p → place_of with_kept.places p ≡ None
    behind_it p less past = get-with_run (run_of kept) v.places p
        ∙ (ap (λ (b : Bool). if b then Some (place_in p (run_of kept)) else place_of v.places p) (behind (run_of kept).pos p (run_of kept).to past) ∙ beyond p less)

-- with it no DATA_FIN waits
pub with_learned_is : (e : PathEnd) (v : Mappings) (kept : KeptMapping) → after_learn_held e.receiving.mappings ≡ v → e.receiving.mappings.held ≡ kept ∷ [] → kept.fin ≡ false
    → with_learned e ≡ record e { receiving = record e.receiving { mappings = v } }
with_learned_is e v kept learned_now held fin =
    ap (λ (m : Mappings). record e { receiving = record e.receiving { mappings = m; mapped_data_fin = data_fin_behind (first_held e.receiving.mappings) e.receiving.mapped_data_fin } }) learned_now
    ∙ ap (λ (o : Option MappedDataFin). record e { receiving = record e.receiving { mappings = v; mapped_data_fin = o } })
    (ap (λ (ms : List KeptMapping). data_fin_behind (first_of ms) e.receiving.mapped_data_fin) held
    ∙ ap (λ (b : Bool). if b then Some (record { position = (run_of kept).to; place = kept.place + octets_of kept }) else e.receiving.mapped_data_fin) fin)
