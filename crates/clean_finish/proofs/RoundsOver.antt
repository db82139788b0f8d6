-- Where each turn is over, both lanes have gone through a whole round.
use Rattle.clean_finish.proofs.Words.{◌≡◌, subst, ap, ◌∙◌, Bool, false, not, ◌⊎◌, ⊎_elim, List, [], Side, A, B, Duty, AppDuty, Carried, Setting, Lane, Stage}
use Rattle.clean_finish.proofs.Words.{all_left, Moves, Round, PathPlan, Start, Cast, StageIs, Running, is_writing, is_reading}
use Rattle.pace.specs.Lane.{none_left}

done : {X : Type 0} {b : Bool} → (X → ⊥) → (b ≡ false) ⊎ X → b ≡ false
done none h = ⊎_elim (λ e. e) (λ x. absurd (none x)) h

no_two : {X : Type 0} → ⊥ ⊎ (⊥ × X) → ⊥
no_two h = ⊎_elim (λ x. x) (λ x. x.0) h

stage_from : (a b c d e f g : Bool) → a ≡ false → b ≡ false → c ≡ false → d ≡ false → e ≡ false → f ≡ false → g ≡ false
    → record { ask = a; tell = b; window = c; update = d; emit = e; finish = f; wait = g } ≡ none_left
stage_from a b c d e f g ea eb ec ed ee ef eg = cc

pub stage_over : (s r : Side) (asked owes : Bool) (p : Stage) → StageIs s r [] asked owes p → p ≡ none_left
stage_over s r asked owes p is =
    stage_from p.ask p.tell p.window p.update p.emit p.finish p.wait (done no_two is.ask) (done no_two is.tell)
    (done (λ x. x) is.window) (done (λ x. x) is.update) (done (λ x. x) is.emit) (done (λ x. x) is.finish) (done (λ x. x) is.wait)

module _ (start : Start) (plan : PathPlan) (k j : Setting) (s v : Lane) (t : Cast Carried) (h : Running start plan k j s v t)
    (over : h.walker.path.agenda ≡ []) (over_a : t.a.agenda ≡ []) (over_b : t.b.agenda ≡ [])
  where
    pub round_there : Round k s h.out
    round_there = record {
      count = h.going.count;
      moves = subst (λ (p : Stage). Moves k s h.going.count all_left s p h.out)
          (stage_over A B h.walker.path.b.treated.asked h.owes_back h.stage
          (subst (λ (ds : List Duty). StageIs A B ds h.walker.path.b.treated.asked h.owes_back h.stage) over h.stages)) h.going.moves;
      writer = h.apps.writes.over ∙ ap (λ (ds : List AppDuty). not (is_writing ds)) over_a;
      reader = h.apps.reads.over ∙ ap (λ (ds : List AppDuty). not (is_reading ds)) over_b;
    }

    pub round_back : Round j v h.back
    round_back = record {
      count = h.going_back.count;
      moves = subst (λ (p : Stage). Moves j v h.going_back.count all_left v p h.back)
          (stage_over B A h.walker.path.a.treated.asked h.owes h.stage_back
          (subst (λ (ds : List Duty). StageIs B A ds h.walker.path.a.treated.asked h.owes h.stage_back) over h.stages_back))
          h.going_back.moves;
      writer = h.apps_back.writes.over ∙ ap (λ (ds : List AppDuty). not (is_writing ds)) over_b;
      reader = h.apps_back.reads.over ∙ ap (λ (ds : List AppDuty). not (is_reading ds)) over_a;
    }
