-- What each turn keeps of a path holds of each path at every moment, where all that is known of the moment before may be used.
use Rattle.std.proofs.Common.{◌≡◌, subst, ⊎_elim, ℕ, Some, List}
use Rattle.std.specs.List.{slice_get}
use Rattle.stream_lanes.proofs.Lists.{in_map, in_set}
use Rattle.actor_desk.specs.declared.ask.Reply.{Reply}
use Rattle.path_core.specs.Codec.{Codec}
use Rattle.path_core.specs.Start.{waiting_path}
use Rattle.path_core.specs.State.{PathState}
use Rattle.path_core.specs.Steps.{begins_turn, next_round, takes}
use Rattle.world_laws.specs.declared.member.Member.TheVariants.{App, Path}
use Rattle.world_laws.specs.Actors.{Actor, ActorCrew, member_next, member_takes}
use Rattle.world_laws.specs.Openings.{PathPlan, Start, path_begins}
use Rattle.world_laws.specs.RoundDone.{reached}
use Rattle.world_laws.specs.StampedBooks.{answer_to}
use Rattle.world_laws.specs.Worlds.{Turn, WorldState, begins, crew_after, greatest}
use Rattle.world_laws.proofs.Rounds.Lifting.{opened_lifted}
use Rattle.whole_paths.proofs.ByTurns.{Of, each_moment}

module _ {C : Type 0} where
  pub record OfEach (P : PathState C → Type 0) (w : WorldState C) : Type 0 where
    pub each : (actor : ℕ) (c : ActorCrew C) → slice_get w.crew actor ≡ Some c → Of P c.member

module _ {C : Type 0} (k : Codec C) (start : Start) (Facts P : PathState C → Type 0)
    (known : (turns : List Turn) → OfEach Facts (reached k start turns))
    (opened : (number : ℕ) (plan : PathPlan) → P (begins_turn (waiting_path (path_begins start number plan) start.lines)))
    (answers : (r : Reply) (p : PathState C) → Facts p → P p → P (takes k r p))
    (goes_on : (p : PathState C) → Facts p → P p → P (next_round p)) where
  member_takes_on : (r : Reply) (m : Actor C) → Of Facts m → Of P m → Of P (member_takes k r m)
  member_takes_on r (App a) facts h = tt
  member_takes_on r (Path p) facts h = answers r p facts h

  member_next_on : (m : Actor C) → Of Facts m → Of P m → Of P (member_next m)
  member_next_on (App a) facts h = tt
  member_next_on (Path p) facts h = goes_on p facts h

  pub each_path : (turns : List Turn) → OfEach P (reached k start turns)
  each_path = each_moment k start (OfEach P) (record { each = (opened_lifted (λ c. Of P c.member) start tt tt (λ number plan there. opened number plan)).each })
      (λ turns actor c x there is h. let w : WorldState C = reached k start turns in record {
        each = λ i d at. ⊎_elim
            (λ here. subst (λ (y : ActorCrew C). Of P y.member) here.1 (member_takes_on (answer_to w.books x) c.member ((known turns).each actor c there) (h.each actor c there)))
            (λ other. h.each i d other.1)
            (in_set w.crew actor (crew_after k x w.books c) i d at);
      })
      (λ turns over h. let w : WorldState C = reached k start turns in record {
        each = λ i d at.
            let found = in_map (begins (greatest 0 w.crew)) w.crew i d at in
            subst (λ (y : ActorCrew C). Of P y.member) found.2 (member_next_on found.0.member ((known turns).each i found.0 found.1) (h.each i found.0 found.1));
      })
