-- The laws, proved.
use Rattle.std.proofs.Common.{◌≡◌, ℕ, ◌<◌, ◌≤◌, Bool, true, false, max, nat_lt, cond, Option, Some, None, List, [], ◌∷◌, find, filter, refl, sym, ap, ◌∙◌, ⊎_elim, subst, arith}
use Rattle.std.specs.Prelude.{IfSome}
use Rattle.std.specs.Option.{option_or}
use Rattle.std.specs.FinMap.{get, get-empty}
use Rattle.std.specs.Ordering.{nat_cmp}
use Rattle.std.proofs.lemmas.Bool.Decides.{nat_tests}
use Rattle.std.proofs.lemmas.Bool.{cases_lt}
use Rattle.dss_mapping.specs.declared.kept.KeptMapping.{KeptMapping}
use Rattle.dss_mapping.specs.declared.learn.Learn.TheVariants.{New, Same, Clash}
use Rattle.dss_mapping.specs.declared.run.Run.{Run}
use Rattle.dss_mapping.specs.Runs.{covers, place_in, infinite_run}
use Rattle.dss_mapping.specs.Mappings.{run_of, place_at, tail_at}
use Rattle.dss_mapping.specs.Laws.{Agrees, NoClashByOneRecord, OpeningAgrees, LearningAgrees, InfiniteAgrees, ForgettingAgrees, LearnedPlaces, ForgottenAreNotTold, OthersAreTold, PlacesStay}
use Rattle.dss_mapping.proofs.PlacesOf.{within, below, behind, get-with_run}

pub no_clash : NoClashByOneRecord
no_clash places v told pos kept here all a answer =
    let stands : IfSome (Some kept) (λ place. place ≡ places pos) = subst (λ o. IfSome o (λ place. place ≡ places pos)) answer.kept_is (all.each pos) in
    answer.differ (stands ∙ sym (answer.here_is ∙ a.each pos answer.first answer.last))

pub opening_agrees : OpeningAgrees
opening_agrees places = record { each = λ p. rw (get-empty nat_cmp p) tt }

or_told : (b : Bool) (place : ℕ) (first second : Option ℕ) → option_or (cond b (Some place) first) second ≡ cond b (Some place) (option_or first second)
or_told true place first second = refl
or_told false place first second = refl

pub learned_places : LearnedPlaces
learned_places v kept p =
    ap (λ o. option_or o (tail_at v.tail p)) (get-with_run (run_of kept) v.places p)
    ∙ or_told (covers p (run_of kept)) (place_in p (run_of kept)) (get v.places p) (tail_at v.tail p)

-- what a run tells agrees, where the run does
told_agrees : (places : ℕ → ℕ) (run : Run) (p : ℕ) (o : Option ℕ) → Agrees places run → IfSome o (λ place. place ≡ places p)
    → IfSome (cond (covers p run) (Some (place_in p run)) o) (λ place. place ≡ places p)
told_agrees places run p o a rest = ⊎_elim
    (λ h. rw (below run.pos p run.to h) rest)
    (λ h. ⊎_elim (λ k. rw (within run.pos p run.to h k) (a.each p h k)) (λ k. rw (behind run.pos p run.to k) rest) (cases_lt p run.to))
    (cases_lt p run.pos)

pub learning_agrees : LearningAgrees
learning_agrees places v kept New all own = record {
  each = λ p. subst (λ o. IfSome o (λ place. place ≡ places p)) (sym (learned_places v kept p))
      (told_agrees places (run_of kept) p (place_at v p) own (all.each p));
}
learning_agrees places v kept Same all own = all
learning_agrees places v kept (Clash pos place told) all own = all

-- what holds by the mappings and by the infinite one holds by both
or_agrees : (place : ℕ) (first former next : Option ℕ) → IfSome (option_or first former) (λ q. q ≡ place) → IfSome next (λ q. q ≡ place)
    → IfSome (option_or first next) (λ q. q ≡ place)
or_agrees place None former next all own = own
or_agrees place (Some q) former next all own = all

pub infinite_agrees : InfiniteAgrees
infinite_agrees places v pos place New all own = record {
  each = λ p. or_agrees (places p) (get v.places p) (tail_at v.tail p) (tail_at (Some (infinite_run pos place)) p) (all.each p)
      (told_agrees places (infinite_run pos place) p None own tt);
}
infinite_agrees places v pos place Same all own = all
infinite_agrees places v pos place (Clash at kept told) all own = all

pub forgetting_agrees : ForgettingAgrees
forgetting_agrees places v pos all = record { each = all.each }

pub places_stay : PlacesStay
places_stay v pos p = refl

below_is : (a b : ℕ) → a < b → nat_lt a b ≡ true
below_is a b h = grind (arith, nat_tests)

not_below_is : (a b : ℕ) → b ≤ a → nat_lt a b ≡ false
not_below_is a b h = grind (arith, nat_tests)

pub forgotten_are_not_told : ForgottenAreNotTold
forgotten_are_not_told v pos p h = rw (below_is p (max v.forgotten pos) (omega arith)) refl

-- what covers a position at or past pos is not let go
kept_covers : (pos p : ℕ) (run : Run) → pos ≤ p → nat_lt pos run.to ≡ false → covers p run ≡ false
kept_covers pos p run h e = grind (arith, nat_tests)

same_found : (pos p : ℕ) (live : List KeptMapping) → pos ≤ p
    → find (λ kept. covers p (run_of kept)) (filter (λ kept. nat_lt pos (run_of kept).to) live) ≡ find (λ kept. covers p (run_of kept)) live
same_found pos p [] h = refl
same_found pos p (kept ∷ live) h = by (nat_lt pos (run_of kept).to) refl (same_found pos p live h)
  where
    by : (b : Bool) → nat_lt pos (run_of kept).to ≡ b
        → find (λ kept. covers p (run_of kept)) (filter (λ kept. nat_lt pos (run_of kept).to) live) ≡ find (λ kept. covers p (run_of kept)) live
        → find (λ kept. covers p (run_of kept)) (cond b (kept ∷ filter (λ kept. nat_lt pos (run_of kept).to) live) (filter (λ kept. nat_lt pos (run_of kept).to) live))
        ≡ find (λ kept. covers p (run_of kept)) (kept ∷ live)
    by true e rest = ap (cond (covers p (run_of kept)) (Some kept)) rest
    by false e rest = rest ∙ sym (ap (λ b. cond b (Some kept) (find (λ kept. covers p (run_of kept)) live)) (kept_covers pos p (run_of kept) h e))

pub others_are_told : OthersAreTold
others_are_told v pos p h = ⊎_elim
    (λ low. rw (below_is p v.forgotten low, below_is p (max v.forgotten pos) (omega arith)) refl)
    (λ high. rw (not_below_is p v.forgotten high, not_below_is p (max v.forgotten pos) (omega arith)) (same_found pos p v.live h))
    (cases_lt p v.forgotten)
