-- Where memory is wanting amid steps in a given order, a turn or a round.
use Rattle.std.proofs.Common.{◌≡◌, refl, sym, subst, ℕ, suc, ◌+◌, ◌<◌, true, List, [], ◌∷◌, take, replicate, Result, Ok, Err, OnErr, arith}
use Rattle.path_core.specs.Codec.{Codec}
use Rattle.world_laws.specs.Serial.{TurnTo}
use Rattle.world_laws.specs.Worlds.{WorldState, is_going, world_step, RunTo}
use Rattle.world_core.specs.Cuts.{ShowsAs, RunCut, TurnCut, TurnsCut}
use Rattle.world_core.proofs.RoundsMade.{turns_more}

pub at_err : {T E P : Type 0} (r : Result T E) → P → OnErr r P
at_err (Ok x) p = tt
at_err (Err e) p = p

module _ {C : Type 0} where
  pub shows_itself : (w v : WorldState C) → v ≡ w → ShowsAs w v
  shows_itself w v is = subst (λ x. ShowsAs w x) (sym is) (record { outcome = refl; lists = refl })

module _ {C : Type 0} (k : Codec C) where
  -- ---- steps in a given order

  -- at the first step
  run_cut_now : (order : List ℕ) (w v : WorldState C) → ShowsAs w v → RunCut k order w v
  run_cut_now order w v shows = record { count = 0; reached = w; made = (refl, refl); shows = shows }

  -- a step more in front
  run_cut_first : (actor : ℕ) (order : List ℕ) (w x v : WorldState C) → is_going actor w ≡ true → x ≡ world_step k actor w → RunCut k order x v
      → RunCut k (actor ∷ order) w v
  run_cut_first actor order w x v going is h = record {
    count = suc h.count;
    reached = h.reached;
    made = (going, subst (λ y. RunTo k (take h.count order) h.count y h.reached) is h.made);
    shows = h.shows;
  }

  -- ---- a turn

  pub turn_cut_now : (actor : ℕ) (w v : WorldState C) → ShowsAs w v → TurnCut k actor w v
  turn_cut_now actor w v shows = (0, run_cut_now [] w v shows)

  pub turn_cut_more : (actor : ℕ) (w x v : WorldState C) → is_going actor w ≡ true → x ≡ world_step k actor w → TurnCut k actor x v → TurnCut k actor w v
  turn_cut_more actor w x v going is h = (suc h.0, run_cut_first actor (replicate h.0 actor) w x v going is h.1)

  -- ---- the turns of a round

  -- in the turn of the first actor
  pub turns_cut_now : (more actor : ℕ) (w v : WorldState C) → 0 < more → TurnCut k actor w v → TurnsCut k more actor w v
  turns_cut_now more actor w v some h =
      let here : actor ≡ actor + 0 = omega arith in
      record { done = 0; few = some; reached = w; turns = ([], refl, refl); turn = subst (λ n. TurnCut k n w v) here h }

  -- a whole turn more in front
  pub turns_cut_more : (more left actor next : ℕ) (w x v : WorldState C) → more ≡ suc left → next ≡ suc actor → TurnTo k actor w x
      → TurnsCut k left next x v → TurnsCut k more actor w v
  turns_cut_more more left actor next w x v e f t h =
      let here : next + h.done ≡ actor + suc h.done = omega (arith, f) in
      let few : suc h.done < more = let few = h.few in omega (arith, e, few) in
      record {
        done = suc h.done;
        few = few;
        reached = h.reached;
        turns = turns_more k (suc h.done) h.done actor next w x h.reached refl f t h.turns;
        turn = subst (λ n. TurnCut k n h.reached v) here h.turn;
      }
