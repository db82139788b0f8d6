-- Each round leaves a path a step at least: something is to be done when it begins, and only a step ends its turn.
use Rattle.world_laws.proofs.Words.{◌≡◌, ℕ, ◌+◌, ◌≤◌, true, [], ◌∷◌, ◌++◌, length, arith, ◌*◌, both_ways, Ask, Reply, StampedBooks, is_nil, Codec, waiting_path}
use Rattle.world_laws.proofs.Words.{PathState, begins_turn, Every, App, Path, Actor, ActorCrew, member_takes, member_next, is_over, Always, Start, path_begins}
use Rattle.world_laws.proofs.Words.{opened_world, crew_after, note_of, answer_to}
use Rattle.std.proofs.Common.{length-append}
use Rattle.world_laws.specs.Timely.{IsTimely, IsTimelyMember, EachRoundHasAStep}
use Rattle.world_laws.proofs.Rounds.Frame.{takes_keeps, first_keeps, first_stands}
use Rattle.world_laws.proofs.Rounds.Lifting.{run_lifted, opened_lifted}

module _ {C : Type 0} where
  takes_timely : (k : Codec C) (r : Reply) (m : Actor C) (steps more : ℕ) → more ≡ steps + 1 → IsTimelyMember steps m → IsTimelyMember more (member_takes k r m)
  takes_timely k r (App a) steps more is h = tt
  takes_timely k r (Path p) steps more is h =
      let kept = takes_keeps k r p in
      record { begun = omega (arith, kept.0, is, h.begun); over = λ over. omega (arith, kept.0, is, h.begun) }

  -- a path that begins a turn has something to do
  begun_timely : (p : PathState C) (steps : ℕ) → p.until ≤ 100 * steps + 100 → IsTimely steps (begins_turn p)
  begun_timely p steps most =
      let kept = first_keeps p in
      record { begun = omega (arith, kept.0, most); over = λ over. absurd (both_ways (is_nil (begins_turn p).agenda) (first_stands p) over) }

  begins_timely : (m : Actor C) (steps : ℕ) → is_over m ≡ true → IsTimelyMember steps m → IsTimelyMember steps (member_next m)
  begins_timely (App a) steps over h = tt
  begins_timely (Path p) steps over h =
      let most = h.over over in begun_timely (record p { clock = p.until; until = p.until + 100 }) steps (omega (arith, most))

  abbrev pub IsTimelyCrew : ActorCrew C → Type 0
  IsTimelyCrew c = IsTimelyMember (length c.list) c.member

  step_timely : (k : Codec C) (books : StampedBooks) (c : ActorCrew C) (x : Ask) → IsTimelyCrew c → IsTimelyCrew (crew_after k x books c)
  step_timely k books c x h =
      takes_timely k (answer_to books x) c.member (length c.list) (length (c.list ++ note_of books c.pass x ∷ [])) (length-append c.list (note_of books c.pass x ∷ [])) h

  opened_timely : (start : Start) → Every IsTimelyCrew (opened_world {C = C} start).crew
  opened_timely start = opened_lifted IsTimelyCrew start tt tt (λ number plan there. begun_timely (waiting_path (path_begins start number plan) start.lines) 0 (omega arith))

  pub each_round_has_a_step : (k : Codec C) → Always k (λ start w. EachRoundHasAStep w)
  each_round_has_a_step k start turns = record {
    each = (run_lifted k IsTimelyCrew (λ books c x asks h. step_timely k books c x h) (λ stamp c over h. begins_timely c.member (length c.list) over h)
        turns (opened_world start) (opened_timely start)).each;
  }
