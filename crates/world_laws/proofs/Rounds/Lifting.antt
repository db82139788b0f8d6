-- What each actor keeps with its steps, the world keeps over every list of turns.
--
-- What each actor keeps with its steps is lifted to the world once (`proofs/Rounds/Lifting`); an answer that no step is
-- given is in no note (`proofs/Promises/NoSuchNote`).
use Rattle.world_laws.proofs.Words.{◌≡◌, refl, subst, ℕ, zero, suc, ⊎_elim, Bool, true, false, if◌then◌else◌, Option, Some, None, List, [], ◌∷◌, map, and_parts}
use Rattle.world_laws.proofs.Words.{same_Some, slice_get, A, B, Ask, StampedBooks, first_app_turn, Codec, in_map, in_set, Every, App, ActorCrew, member_asks}
use Rattle.world_laws.proofs.Words.{is_over, PathPlan, Start, new_crew, new_path, opened_world, WorldState, Turn, crew_after, asked, stepped, world_step}
use Rattle.world_laws.proofs.Words.{all_over, greatest, begins, end_round, after_turn, world_run}
use Rattle.stream_apps.specs.Starts.{fast_close_of}
use Rattle.world_laws.proofs.Worlds.Opened.{opened_actors}

module _ {C : Type 0} where
  pub all_over_each : (crew : List (ActorCrew C)) (i : ℕ) (c : ActorCrew C) → all_over crew ≡ true → slice_get crew i ≡ Some c → is_over c.member ≡ true
  all_over_each [] i c over there = cc
  all_over_each (d ∷ crew) zero c over there =
      let parts = and_parts (is_over d.member) (all_over crew) over in subst (λ x. is_over x.member ≡ true) (same_Some d c there) parts.0
  all_over_each (d ∷ crew) (suc i) c over there = all_over_each crew i c (and_parts (is_over d.member) (all_over crew) over).1 there

-- a step of the actor keeps it, and so does the beginning of a round
module _ {C : Type 0} (k : Codec C) (P : ActorCrew C → Type 0)
    (step : (books : StampedBooks) (c : ActorCrew C) (x : Ask) → member_asks k c.member ≡ Some x → P c → P (crew_after k x books c))
    (next : (stamp : ℕ) (c : ActorCrew C) → is_over c.member ≡ true → P c → P (begins stamp c)) where
  pub step_lifted : (actor : ℕ) (w : WorldState C) → Every P w.crew → Every P (world_step k actor w).crew
  step_lifted actor w h = by (slice_get w.crew actor) refl
    where
      asks : (c : ActorCrew C) → slice_get w.crew actor ≡ Some c → (o : Option Ask) → member_asks k c.member ≡ o → Every P (asked k actor o c w).crew
      asks c there None is = h
      asks c there (Some x) is = record {
        each = λ i d at. ⊎_elim
            (λ here. subst P here.1 (step w.books c x is (h.each actor c there)))
            (λ other. h.each i d other.1)
            (in_set w.crew actor (crew_after k x w.books c) i d at);
      }

      by : (o : Option (ActorCrew C)) → slice_get w.crew actor ≡ o → Every P (stepped k actor o w).crew
      by None there = h
      by (Some c) there = asks c there (member_asks k c.member) refl

  pub round_lifted : (w : WorldState C) → Every P w.crew → Every P (end_round w).crew
  round_lifted w h = by (all_over w.crew) refl
    where
      by : (b : Bool) → all_over w.crew ≡ b → Every P (if b then record w { crew = map (begins (greatest 0 w.crew)) w.crew } else w).crew
      by true over = record {
        each = λ i d at.
            let found = in_map (begins (greatest 0 w.crew)) w.crew i d at in
            subst P found.2 (next (greatest 0 w.crew) found.0 (all_over_each w.crew i found.0 over found.1) (h.each i found.0 found.1));
      }
      by false over = h

  turn_lifted : (turn : Turn) (w : WorldState C) → Every P w.crew → Every P (after_turn k turn w).crew
  turn_lifted = elim [ Turn.Step actor ↦ λ w h. step_lifted actor w h | Turn.Round ↦ λ w h. round_lifted w h ]

  pub run_lifted : (turns : List Turn) (w : WorldState C) → Every P w.crew → Every P (world_run k turns w).crew
  run_lifted [] w h = h
  run_lifted (turn ∷ turns) w h = run_lifted turns (after_turn k turn w) (turn_lifted turn w h)

module _ {C : Type 0} (P : ActorCrew C → Type 0) where
  -- what the applications and the paths have at the opening
  pub opened_lifted : (start : Start) → P (new_crew 0 (App (first_app_turn A start.buffer start.file_a (fast_close_of A start.lines)))) → P (new_crew 1 (App (first_app_turn B start.buffer start.file_b (fast_close_of B start.lines))))
      → ((number : ℕ) (plan : PathPlan) → slice_get start.paths number ≡ Some plan → P (new_path start number plan)) → Every P (opened_world {C = C} start).crew
  opened_lifted start a b paths = record { each = opened_actors (λ actor c. P c) start a b paths }
