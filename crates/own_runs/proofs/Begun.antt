-- Where the state of an end lets a FIN be sent its SYN is acknowledged, at each moment of a run.
use Rattle.std.proofs.Common.{◌≡◌, refl, sym, ap, ◌∙◌, subst, ℕ, Bool, true, false, if◌then◌else◌, List, [], ◌∷◌, ◌++◌, map}
use Rattle.path_core.specs.Values.{Carried, values}
use Rattle.stream_lanes.specs.Words.{Every}
use Rattle.world_laws.proofs.Rounds.PiecesFit.{CrewFits, round_fits}
use Rattle.world_laws.proofs.Weaving.WholeRounds.{run_append}
use Rattle.world_laws.specs.Openings.{Start, opened_world}
use Rattle.world_laws.specs.RoundNumbers.{BeginsRound, after_steps}
use Rattle.world_laws.specs.Worlds.{Turn, WorldState, all_over, begins, end_round, greatest, world_run, world_step}

-- a round began, and these steps were made in it
record InRound (start : Start) (w : WorldState Carried) : Type 0 where
  begun : WorldState Carried
  order : List ℕ
  begins_so : BeginsRound values start begun
  is : w ≡ after_steps values order begun

one_more : (order : List ℕ) (i : ℕ) (w : WorldState Carried) → after_steps values (order ++ i ∷ []) w ≡ world_step values i (after_steps values order w)
one_more [] i w = refl
one_more (x ∷ order) i w = one_more order i (world_step values x w)

module _ (start : Start) where
  step_in : (w : WorldState Carried) (i : ℕ) → InRound start w → InRound start (world_step values i w)
  step_in w i h = record { begun = h.begun; order = h.order ++ i ∷ []; begins_so = h.begins_so; is = ap (world_step values i) h.is ∙ sym (one_more h.order i h.begun) }

  round_in : (before : List Turn) (w : WorldState Carried) → w ≡ world_run values before (opened_world start) → InRound start w → InRound start (end_round w)
  round_in before w is h = by (all_over w.crew) refl
    where
      by : (b : Bool) → all_over w.crew ≡ b → InRound start (if b then record w { crew = map (begins (greatest 0 w.crew)) w.crew } else w)
      by false over = h
      by true over = record {
        begun = record w { crew = map (begins (greatest 0 w.crew)) w.crew };
        order = [];
        begins_so = BeginsRound.Next before (ap (λ (v : WorldState Carried). all_over v.crew) (sym is) ∙ over)
            (sym (ap (λ (b : Bool). if b then record w { crew = map (begins (greatest 0 w.crew)) w.crew } else w) over) ∙ ap end_round is);
        is = refl;
      }

  run_in : (before turns : List Turn) (w : WorldState Carried) → w ≡ world_run values before (opened_world start) → InRound start w → InRound start (world_run values turns w)
  run_in before [] w is h = h
  run_in before (Turn.Step i ∷ turns) w is h =
      run_in (before ++ Turn.Step i ∷ []) turns (world_step values i w) (ap (world_step values i) is ∙ sym (run_append values before (Turn.Step i ∷ []) (opened_world start))) (step_in w i h)
  run_in before (Turn.Round ∷ turns) w is h =
      run_in (before ++ Turn.Round ∷ []) turns (end_round w) (ap end_round is ∙ sym (run_append values before (Turn.Round ∷ []) (opened_world start))) (round_in before w is h)

pub always_begun : (start : Start) (turns : List Turn) → Every CrewFits (world_run values turns (opened_world start)).crew
always_begun start turns =
    let h = run_in start [] turns (opened_world start) refl (record { begun = opened_world start; order = []; begins_so = BeginsRound.First refl; is = refl }) in
    subst (λ (w : WorldState Carried). Every CrewFits w.crew) (sym h.is) (round_fits values start h.begun h.order h.begins_so)
