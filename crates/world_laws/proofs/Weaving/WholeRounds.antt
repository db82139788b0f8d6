-- Whole rounds, woven one by one: lawful, and ending as the serial turns do.
use Rattle.world_laws.proofs.Words.{◌≡◌, refl, sym, ◌∙◌, ap, subst, ℕ, zero, suc, max, Bool, true, false, if◌then◌else◌, Some, List, [], ◌∷◌, ◌++◌, map, arith}
use Rattle.world_laws.proofs.Words.{slice_get, Codec, in_map, ActorCrew, Start, opened_world, WorldState, Turn, world_step, all_over, greatest, begins}
use Rattle.world_laws.proofs.Words.{end_round, after_turn, world_run, AreLawful, outcome_of, IsFine, OneOf, steps_and, round_and, spelled, after_turns}
use Rattle.world_laws.proofs.Words.{after_round, AreRounds, Begins, Worked, steps_by, woven, woven_rounds, WovenDoes, StepsWeave, RoundsWeave}
use Rattle.world_laws.specs.Serial.{goes_on, after_steps}
use Rattle.world_laws.proofs.Worlds.Opened.{opened_actors}
use Rattle.world_laws.proofs.Weaving.Paired.{ended_fine, greatest_above, same_greatest, greatest_begun, opened_fine}
use Rattle.world_laws.proofs.Rounds.SerialIsLawful.{all_turns_over}
use Rattle.world_laws.proofs.Weaving.FitsTheOrder.{woven_runs}
use Rattle.world_laws.proofs.Weaving.WorldSteps.{Working, begins_working, worked, steps_working, turns_working}

module _ {C : Type 0} where
  -- ---- runs one after the other

  pub run_append : (k : Codec C) (ts us : List Turn) (w : WorldState C) → world_run k (ts ++ us) w ≡ world_run k us (world_run k ts w)
  run_append k [] us w = refl
  run_append k (t ∷ ts) us w = run_append k ts us (after_turn k t w)

  pub lawful_append : (k : Codec C) (ts us : List Turn) (w : WorldState C) → AreLawful k ts w → AreLawful k us (world_run k ts w) → AreLawful k (ts ++ us) w
  lawful_append k [] us w first later = later
  lawful_append k (t ∷ ts) us w first later = (first.0, lawful_append k ts us (after_turn k t w) first.1 later)

  run_steps : (k : Codec C) (actor n : ℕ) (rest : List Turn) (w : WorldState C) → world_run k (steps_and actor n rest) w ≡ world_run k rest (after_steps k actor n w)
  run_steps k actor zero rest w = refl
  run_steps k actor (suc n) rest w = run_steps k actor n rest (world_step k actor w)

  run_round : (k : Codec C) (actor : ℕ) (counts : List ℕ) (rest : List Turn) (w : WorldState C)
      → world_run k (round_and actor counts rest) w ≡ world_run k rest (end_round (after_turns k actor counts w))
  run_round k actor [] rest w = refl
  run_round k actor (n ∷ counts) rest w = run_steps k actor n (round_and (suc actor) counts rest) w ∙ run_round k (suc actor) counts rest (after_steps k actor n w)

  -- ---- one round

  pub woven_does : (k : Codec C) → WovenDoes k
  woven_does k top w v begins made = let runs = woven_runs k top w v begins made in (runs.lawful, runs.ends)

  pub steps_weave : (k : Codec C) → StepsWeave k
  steps_weave k top w begins actors =
      let v : WorldState C = world_run k (steps_by actors) w in
      let made : Worked k top w v = worked k top w v (steps_working k top actors w w (begins_working k top w begins)) in
      (made, woven_does k top w v begins made)

  -- ---- the next round

  next_begins : (top : ℕ) (w : WorldState C) → IsFine top w → all_over w.crew ≡ true → Begins (greatest 0 (end_round w).crew) (end_round w)
  next_begins top w fine over = subst (λ v. Begins (greatest 0 v.crew) v) (sym round) (record {
    fine = subst (λ n. IsFine n next) (sym (greatest_begun w.crew)) (subst (IsFine (greatest 0 w.crew)) round (ended_fine top w over fine));
    known = record { each = λ i c there. let g = each i c there in g ∙ sym (same_greatest (greatest 0 w.crew) 0 next.crew each (omega arith) i c there) };
  })
    where
      next : WorldState C
      next = record w { crew = map (begins (greatest 0 w.crew)) w.crew }

      round : end_round w ≡ next
      round = ap (λ (b : Bool). if b then next else w) over

      each : (i : ℕ) (c : ActorCrew C) → slice_get next.crew i ≡ Some c → c.pass.stamp ≡ greatest 0 w.crew
      each i c there =
          let found = in_map (begins (greatest 0 w.crew)) w.crew i c there in
          let most = greatest_above 0 w.crew i found.0 found.1 in
          let own : max found.0.pass.stamp (greatest 0 w.crew) ≡ c.pass.stamp = ap (λ x. x.pass.stamp) found.2 in
          omega (arith, own, most)

  pub opened_begins : (k : Codec C) (start : Start) → Begins {C = C} (greatest 0 (opened_world {C = C} start).crew) (opened_world start)
  opened_begins k start =
      let each = opened_actors {C = C} (λ actor c. c.pass.stamp ≡ 0) start refl refl (λ number plan there. refl) in
      let none = same_greatest 0 0 (opened_world {C = C} start).crew each (omega arith) 0 _ refl in
      record { fine = subst (λ n. IsFine {C = C} n (opened_world start)) (sym none) (opened_fine start); known = record { each = λ i c there. each i c there ∙ sym none } }

  -- ---- all rounds

  pub record RoundsRun (k : Codec C) (rounds : List (List ℕ)) (w : WorldState C) : Type 0 where
    pub lawful : AreLawful k (woven_rounds k rounds w) w
    pub ends : world_run k (woven_rounds k rounds w) w ≡ world_run k (spelled rounds) w

  rounds_run : (k : Codec C) (most : ℕ) (rounds : List (List ℕ)) (w : WorldState C) → Begins (greatest 0 w.crew) w → AreRounds k most rounds w → RoundsRun k rounds w
  rounds_run k zero [] w begins h = record { lawful = tt; ends = refl }
  rounds_run k zero (counts ∷ rounds) w begins h = cc
  rounds_run k (suc most) [] w begins h = absurd h
  rounds_run k (suc most) (counts ∷ rounds) w begins h =
      by (goes_on (outcome_of (after_round k counts w).crew)) (rounds_run k most rounds (after_round k counts w) (next_begins (greatest 0 w.crew) v working.fine over)) h.1
    where
      v : WorldState C
      v = after_turns k 0 counts w

      working : Working k (greatest 0 w.crew) w v
      working = turns_working k (greatest 0 w.crew) 0 counts w w (begins_working k (greatest 0 w.crew) w begins)

      over : all_over v.crew ≡ true
      over = all_turns_over k counts w h.0

      first : AreLawful k (woven (greatest 0 w.crew) v) w × (world_run k (woven (greatest 0 w.crew) v) w ≡ v)
      first = woven_does k (greatest 0 w.crew) w v begins (worked k (greatest 0 w.crew) w v working)

      rest_of : List Turn
      rest_of = woven_rounds k rounds (after_round k counts w)

      whole : RoundsRun k rounds (after_round k counts w) → RoundsRun k (counts ∷ rounds) w
      whole rest = record {
        lawful = lawful_append k (woven (greatest 0 w.crew) v) (Turn.Round ∷ rest_of) w first.0
            (subst (AreLawful k (Turn.Round ∷ rest_of)) (sym first.1) (over, rest.lawful));
        ends = run_append k (woven (greatest 0 w.crew) v) (Turn.Round ∷ rest_of) w ∙ ap (world_run k (Turn.Round ∷ rest_of)) first.1
            ∙ rest.ends ∙ sym (run_round k 0 counts (spelled rounds) w);
      }

      by : (b : Bool) → (AreRounds k most rounds (after_round k counts w) → RoundsRun k rounds (after_round k counts w))
          → OneOf b (AreRounds k most rounds (after_round k counts w)) (rounds ≡ []) → RoundsRun k (counts ∷ rounds) w
      by true more rest = whole (more rest)
      by false more none = whole (subst (λ rs. RoundsRun k rs (after_round k counts w)) (sym none) (record { lawful = tt; ends = refl }))

  pub rounds_weave : (k : Codec C) → RoundsWeave k
  rounds_weave k start most rounds h =
      let runs = rounds_run k most rounds (opened_world start) (opened_begins k start) h in (runs.lawful, runs.ends)
