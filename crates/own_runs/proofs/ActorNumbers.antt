-- At each moment of a run a path is the actor of its number.
use Rattle.std.proofs.Common.{◌≡◌, sym, ap, ◌∙◌, ℕ, suc, Some, List, arith}
use Rattle.std.specs.List.{slice_get}
use Rattle.path_core.specs.State.{PathState, path_of}
use Rattle.path_core.specs.Values.{Carried, values}
use Rattle.stream_lanes.specs.Duo.{Duo, after_events}
use Rattle.world_laws.proofs.Lanes.Beginning.{each_run_shows}
use Rattle.world_laws.proofs.Lanes.OfAWorld.{WorldShows, anyhow, anyhow_free, first_duo, free_run}
use Rattle.world_laws.proofs.Worlds.CastLifting.{each_actor}
use Rattle.world_laws.specs.Actors.{Actor, ActorCrew}
use Rattle.world_laws.specs.Openings.{Start, opened_world}
use Rattle.world_laws.specs.Promises.{HasRoom}
use Rattle.world_laws.specs.Worlds.{Turn, WorldState, world_run}
use Rattle.world_laws.specs.declared.member.Member.TheVariants.{Path}

module _ (start : Start) (size : HasRoom start) (turns : List Turn) where
  abbrev v : WorldState Carried
  v = world_run values turns (opened_world start)

  all : (d : Duo) × WorldShows (anyhow start size).links start d v
  all =
      let can = anyhow start size in let r = each_run_shows start can turns (free_run can.links (anyhow_free start size) turns (opened_world start)) in
      (after_events r.events (first_duo can.links start), r.shows)

  pub actor_is : (i : ℕ) (c : ActorCrew Carried) → slice_get v.crew i ≡ Some c → (q : PathState Carried) → c.member ≡ Path q → i ≡ suc (suc (path_of q))
  actor_is i c there = each_actor (λ i c. (q : PathState Carried) → c.member ≡ Path q → i ≡ suc (suc (path_of q))) all.1.cast (λ q is. cc) (λ q is. cc)
      (λ n x at q is. let path = all.1.paths.each n n x (omega arith) at in
      ap (λ (m : ℕ). suc (suc m)) (sym path.numbered ∙ ap (λ (o : PathState Carried). path_of o) (path_same is)))
      i c (ap (λ (w : WorldState Carried). slice_get w.crew i) (sym all.1.is) ∙ there)
    where
      path_same : {x y : PathState Carried} → (let one : Actor Carried = Path x in one) ≡ Path y → x ≡ y
      path_same e = cc
