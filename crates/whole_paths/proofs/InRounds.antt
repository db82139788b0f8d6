-- Each moment is one of a round: it is what some steps of actors made of the world in which the round began.
use Rattle.std.proofs.Common.{◌≡◌, refl, sym, subst, ap, ◌∙◌, ℕ, Bool, true, false, if◌then◌else◌, List, [], ◌∷◌, ◌++◌, map}
use Rattle.path_core.specs.Codec.{Codec}
use Rattle.world_laws.specs.Openings.{Start, opened_world}
use Rattle.world_laws.specs.RoundNumbers.{BeginsRound, after_steps}
use Rattle.world_laws.specs.Worlds.{WorldState, Turn, all_over, after_turn, begins, greatest, world_run}
use Rattle.world_laws.proofs.Weaving.WholeRounds.{run_append}

module _ {C : Type 0} (k : Codec C) (start : Start) where
  pub record InARound (w : WorldState C) : Type 0 where
    pub begun : WorldState C
    pub order : List ℕ
    pub begins : BeginsRound k start begun
    pub is : w ≡ after_steps k order begun

  abbrev at : List Turn → WorldState C
  at turns = world_run k turns (opened_world start)

  step_more : (order : List ℕ) (actor : ℕ) (w : WorldState C) → after_turn k (Turn.Step actor) (after_steps k order w) ≡ after_steps k (order ++ actor ∷ []) w
  step_more [] actor w = refl
  step_more (other ∷ order) actor w = step_more order actor (after_turn k (Turn.Step other) w)

  turn_in : (before : List Turn) (turn : Turn) → InARound (at before) → InARound (after_turn k turn (at before))
  turn_in before (Turn.Step actor) h = record {
    begun = h.begun;
    order = h.order ++ actor ∷ [];
    begins = h.begins;
    is = ap (λ (w : WorldState C). after_turn k (Turn.Step actor) w) h.is ∙ step_more h.order actor h.begun;
  }
  turn_in before Turn.Round h = by (all_over (at before).crew) refl
    where
      w : WorldState C
      w = at before

      by : (b : Bool) → all_over w.crew ≡ b → InARound (after_turn k Turn.Round w)
      by true is = record { begun = after_turn k Turn.Round w; order = []; begins = BeginsRound.Next before is refl; is = refl }
      by false is = record {
        begun = h.begun;
        order = h.order;
        begins = h.begins;
        is = ap (λ (b : Bool). if b then record w { crew = map (begins (greatest 0 w.crew)) w.crew } else w) is ∙ h.is;
      }

  run_in : (before more : List Turn) → InARound (at before) → InARound (world_run k more (at before))
  run_in before [] h = h
  run_in before (turn ∷ more) h =
      let same : at (before ++ turn ∷ []) ≡ after_turn k turn (at before) = run_append k before (turn ∷ []) (opened_world start) in
      subst (λ (w : WorldState C). InARound (world_run k more w)) same (run_in (before ++ turn ∷ []) more (subst InARound (sym same) (turn_in before turn h)))

  pub in_a_round : (turns : List Turn) → InARound (world_run k turns (opened_world start))
  in_a_round turns = run_in [] turns (record { begun = opened_world start; order = []; begins = BeginsRound.First refl; is = refl })
