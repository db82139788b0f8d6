-- What laws of one turn, and of one moment, say of path 0 where its ends are open before the turn and after it.
use Rattle.std.proofs.Common.{◌≡◌, sym, subst, ap, ◌∙◌, Some, List, [], ◌∷◌, ◌++◌}
use Rattle.std.specs.List.{slice_get}
use Rattle.std.proofs.lemmas.Option.{same_Some}
use Rattle.sides.specs.declared.side.Side.TheVariants.{B}
use Rattle.path_core.specs.State.{PathState}
use Rattle.path_core.specs.Values.{Carried, values}
use Rattle.world_laws.proofs.Weaving.WholeRounds.{run_append}
use Rattle.world_laws.specs.declared.member.Member.TheVariants.{Path}
use Rattle.world_laws.specs.Actors.{Actor, ActorCrew}
use Rattle.world_laws.specs.Members.{HoldsOfKind}
use Rattle.world_laws.specs.Openings.{Start, opened_world}
use Rattle.world_laws.specs.RoundDone.{reached}
use Rattle.world_laws.specs.Worlds.{Turn, WorldState, after_turn}
use Rattle.whole_paths.specs.Mild.{IsMildStart}
use Rattle.whole_paths.specs.Mending.{IsBegunTurn, IsOpenTurn, IsTurnWhere}
use Rattle.whole_paths.specs.OpenCourses.{IsNow, IsOpenNow}
use Rattle.whole_paths.specs.Straying.{IsOpenFrom}
use Rattle.whole_paths.proofs.Straying.{open_from}

module _ (start : Start) (turns : List Turn) (turn : Turn) {Holds : PathState Carried → Type 0} (h : IsTurnWhere start turns turn Holds) where
  abbrev pub w : WorldState Carried
  w = reached values start turns

  abbrev pub p : PathState Carried
  p = h.before.path

  abbrev pub q : PathState Carried
  q = h.after.path

  abbrev pub crew : ActorCrew Carried
  crew = h.before.here.crew

  abbrev pub crew_after : ActorCrew Carried
  crew_after = h.after.here.crew

  pub there : slice_get w.crew 2 ≡ Some crew
  there = h.before.here.there

  pub now : slice_get (after_turn values turn w).crew 2 ≡ Some crew_after
  now = subst (λ (x : WorldState Carried). slice_get x.crew 2 ≡ Some crew_after) (run_append values turns (turn ∷ []) (opened_world start)) h.after.here.there

  -- what holds of both actors
  pub with_both : (R : Actor Carried → Actor Carried → Type 0) → ((d : ActorCrew Carried) × (slice_get (after_turn values turn w).crew 2 ≡ Some d) × R crew.member d.member) → R (Path p) (Path q)
  with_both R found =
      subst (λ m. R m (Path q)) h.before.here.is
      (subst (λ m. R crew.member m) (ap (λ (c : ActorCrew Carried). c.member) (same_Some found.0 crew_after (sym found.1 ∙ now)) ∙ h.after.here.is) found.2)

  -- of the actor before, and of that after
  pub of_before : (P : PathState Carried → Type 0) → HoldsOfKind (λ app. Unit {0}) P crew.member → P p
  of_before P held = subst (HoldsOfKind (λ app. Unit {0}) P) h.before.here.is held

  pub of_after : (P : PathState Carried → Type 0) → HoldsOfKind (λ app. Unit {0}) P crew_after.member → P q
  of_after P held = subst (HoldsOfKind (λ app. Unit {0}) P) h.after.here.is held

-- a moment at which both ends are open, as one at which B's may send a DSS; and a turn
abbrev pub begun_now : (start : Start) (turns : List Turn) → IsMildStart start → IsOpenNow (reached values start turns) → IsNow (IsOpenFrom B) (reached values start turns)
begun_now start turns mild h = record { path = h.path; here = h.here; is_open = open_from start turns mild h.path h.here h.is_open B; faithful = h.faithful; few = h.few }

abbrev pub begun : (start : Start) (turns : List Turn) (turn : Turn) → IsOpenTurn start turns turn → IsBegunTurn start turns turn
begun start turns turn h = record { mild = h.mild; before = begun_now start turns h.mild h.before; after = begun_now start (turns ++ turn ∷ []) h.mild h.after }
