-- What holds of mappings whatever was learned.
use Rattle.std.specs.Prelude.{ℕ, ◌≡◌, ◌<◌, ◌≤◌, if◌then◌else◌, IfSome, None, Some}
use Rattle.dss_mapping.specs.declared.kept.KeptMapping.{KeptMapping}
use Rattle.dss_mapping.specs.declared.learn.Learn.{Learn}
use Rattle.dss_mapping.specs.declared.learn.Learn.TheVariants.{New, Clash}
use Rattle.dss_mapping.specs.declared.run.Run.{Run}
use Rattle.dss_mapping.specs.Runs.{covers, place_in, infinite_run}
use Rattle.dss_mapping.specs.Mappings.{Mappings, no_mappings, run_of, place_at, IsAnswer, mapping_at, after_learn, after_infinite, after_forget}

-- each position of the run has the place that the record gives it
pub record Agrees (places : ℕ → ℕ) (run : Run) : Type 0 where
  pub each : (p : ℕ) → run.pos ≤ p → p < run.to → place_in p run ≡ places p

-- each position that has a place has the one that the record gives it
pub record AllAgree (places : ℕ → ℕ) (v : Mappings) : Type 0 where
  pub each : (p : ℕ) → IfSome (place_at v p) (λ place. place ≡ places p)

-- where all places that were learned and the told ones are those of one record, no clash is answered
abbrev pub NoClashByOneRecord : Type 0
NoClashByOneRecord = (places : ℕ → ℕ) (v : Mappings) (told : Run) (pos kept here : ℕ) → AllAgree places v → Agrees places told
    → IsAnswer told v (Clash pos kept here) → ⊥

-- where nothing was learned, every record agrees
abbrev pub OpeningAgrees : Type 0
OpeningAgrees = (places : ℕ → ℕ) → AllAgree places no_mappings

-- to learn a mapping whose places are the record's keeps it so, whatever is answered
abbrev pub LearningAgrees : Type 0
LearningAgrees = (places : ℕ → ℕ) (v : Mappings) (kept : KeptMapping) (answer : Learn) → AllAgree places v
    → Agrees places (run_of kept) → AllAgree places (after_learn kept answer v)

-- an infinite mapping whose places are the record's keeps all in agreement, whatever is answered
abbrev pub InfiniteAgrees : Type 0
InfiniteAgrees = (places : ℕ → ℕ) (v : Mappings) (pos place : ℕ) (answer : Learn) → AllAgree places v
    → Agrees places (infinite_run pos place) → AllAgree places (after_infinite pos place answer v)

-- mappings that are let go leave the others in agreement
abbrev pub ForgettingAgrees : Type 0
ForgettingAgrees = (places : ℕ → ℕ) (v : Mappings) (pos : ℕ) → AllAgree places v → AllAgree places (after_forget pos v)

-- a new mapping gives its positions their places, and all others keep what they had
abbrev pub LearnedPlaces : Type 0
LearnedPlaces = (v : Mappings) (kept : KeptMapping) (p : ℕ)
    → place_at (after_learn kept New v) p ≡ if covers p (run_of kept) then Some (place_in p (run_of kept)) else place_at v p

-- below the position up to which mappings were let go none is told
abbrev pub ForgottenAreNotTold : Type 0
ForgottenAreNotTold = (v : Mappings) (pos p : ℕ) → p < pos → mapping_at (after_forget pos v) p ≡ None

-- from the position up to which mappings were let go, the same are told as before
abbrev pub OthersAreTold : Type 0
OthersAreTold = (v : Mappings) (pos p : ℕ) → pos ≤ p → mapping_at (after_forget pos v) p ≡ mapping_at v p

-- letting mappings go changes no place
abbrev pub PlacesStay : Type 0
PlacesStay = (v : Mappings) (pos p : ℕ) → place_at (after_forget pos v) p ≡ place_at v p
