-- A step of an actor leaves a world in its round, and the end of a round begins the next, above the greatest stamp.
use Rattle.std.proofs.Common.{◌≡◌, refl, sym, ◌∙◌, ap, subst, ℕ, Bool, true, false, if◌then◌else◌, List, [], ◌∷◌, ◌++◌, map}
use Rattle.path_core.specs.Octets.{octets}
use Rattle.world_laws.specs.Fine.{top_after}
use Rattle.world_laws.specs.Weaving.{steps_by}
use Rattle.world_laws.specs.Worlds.{WorldState, Turn, all_over, greatest, begins, world_step, end_round, world_run}
use Rattle.world_core.specs.Kept.{BeginsAbove, IsInRoundAbove}

abbrev Connection : Type 0
Connection = WorldState (List ℕ)

-- steps after steps
steps_append : (xs ys : List ℕ) (w : Connection) → world_run octets (steps_by (xs ++ ys)) w ≡ world_run octets (steps_by ys) (world_run octets (steps_by xs) w)
steps_append [] ys w = refl
steps_append (actor ∷ xs) ys w = steps_append xs ys (world_step octets actor w)

pub steps_in_round : (actors : List ℕ) (top : ℕ) (w : Connection) → IsInRoundAbove top w → IsInRoundAbove top (world_run octets (steps_by actors) w)
steps_in_round actors top w r = record {
  begun = r.begun;
  begins = r.begins;
  order = r.order ++ actors;
  steps = steps_append r.order actors r.begun ∙ ap (world_run octets (steps_by actors)) r.steps;
}

pub step_in_round : (actor top : ℕ) (w : Connection) → IsInRoundAbove top w → IsInRoundAbove top (world_step octets actor w)
step_in_round actor top w r = steps_in_round (actor ∷ []) top w r

pub ended_in_round : (top : ℕ) (w : Connection) → IsInRoundAbove top w → IsInRoundAbove (top_after Turn.Round w top) (end_round w)
ended_in_round top w r = by (all_over w.crew) refl
  where
    by : (b : Bool) → all_over w.crew ≡ b → IsInRoundAbove (if b then greatest 0 w.crew else top) (if b then record w { crew = map (begins (greatest 0 w.crew)) w.crew } else w)
    by true over = record {
      begun = record w { crew = map (begins (greatest 0 w.crew)) w.crew };
      begins = BeginsAbove.Next w over refl (sym (ap (λ (b : Bool). if b then record w { crew = map (begins (greatest 0 w.crew)) w.crew } else w) over));
      order = [];
      steps = refl;
    }
    by false going = r
