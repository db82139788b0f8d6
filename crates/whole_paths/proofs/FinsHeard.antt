-- A DATA_FIN that isn't owed is heard in four rounds, once all bytes before it are acknowledged.
use Rattle.std.proofs.Common.{◌≡◌, sym, subst, ap, ◌∙◌, ⊎_elim, ℕ, ◌+◌, ◌<◌, ◌≤◌, arith, false, true≢false, Option, is_some, List}
use Rattle.sides.specs.declared.side.Side.{Side}
use Rattle.sides.specs.Side.{peer}
use Rattle.subflow_tcp.specs.States.{is_dead}
use Rattle.path_core.specs.State.{PathState, end_at}
use Rattle.path_core.specs.Values.{Carried, values}
use Rattle.world_laws.specs.Openings.{PathPlan, Start}
use Rattle.world_laws.specs.RoundDone.{reached}
use Rattle.world_laws.specs.Worlds.{Turn}
use Rattle.whole_paths.specs.Came.{HasCome}
use Rattle.whole_paths.specs.Delivery.{IsAllThere}
use Rattle.whole_paths.specs.EndRounds.{EndIsKnown, FinIsSent}
use Rattle.whole_paths.specs.FinDebts.{FinStands, FinStandsAfter, FinsAreHeard}
use Rattle.whole_paths.specs.FinDebts.{FinStands as stands}
use Rattle.whole_paths.specs.FinsComing.{FinIsTold}
use Rattle.whole_paths.specs.FinsComing.{FinIsTold as told}
use Rattle.whole_paths.specs.OnePathScripts.{BeginsWithOnePath}
use Rattle.whole_paths.specs.OpenCourses.{IsOpenAfter}
use Rattle.whole_paths.specs.SegmentRounds.{Rounds}
use Rattle.whole_paths.specs.UnitRounds.{WellRounds}
use Rattle.whole_paths.proofs.Came.{what_is_acknowledged_came}
use Rattle.whole_paths.proofs.FinDebts.{sent_past}
use Rattle.whole_paths.proofs.FinRounds.{four_rounds_end}
use Rattle.whole_paths.proofs.RecordWaits.{path_is}
use Rattle.whole_paths.proofs.RoundSteps.{Between, IsPathThere, between, open_first, path_there}
use Rattle.whole_paths.proofs.SegmentRounds.{of_path, stays_there}
use Rattle.whole_paths.proofs.UnitRounds.{rounds_of, well_before}

module _ (start : Start) (plan : PathPlan) (s : Side) (v u : List Turn) (one : BeginsWithOnePath start plan) (rounds : Rounds start 4 v u) (x : FinStandsAfter start s v) (sent : FinIsSent start s v) where
  on_the_way : Between start v u
  on_the_way = between start 3 v u rounds

  first_open : IsOpenAfter start v
  first_open = open_first start v on_the_way.more on_the_way.stays_open

  last_path : IsPathThere start u
  last_path = path_there start v u on_the_way

  abbrev p0 : PathState Carried
  p0 = x.path

  abbrev p4 : PathState Carried
  p4 = last_path.path

  known_where : IsAllThere s (reached values start u) → EndIsKnown start s u
  known_where all = ap (λ (o : Option ℕ). is_some o) all.known

  came_there : (end_at s p0).tcp.send.una ≤ (end_at (peer s) p0).tcp.recv.edge
  came_there = (of_path start one.mild v p0 HasCome x.here ((what_is_acknowledged_came start v).each 2 x.here.crew x.here.there)).una s
      (subst (λ (z : PathState Carried). is_dead (end_at s z).tcp.state ≡ false) (path_is (reached values start v) first_open.path p0 first_open.here x.here) (first_open.is_open.living s))

  heard_in_four : (position : ℕ) → FinIsTold s position (p0.clock + 400) p0 → (position < (end_at s p4).tcp.send.nxt → EndIsKnown start s u) → EndIsKnown start s u
  heard_in_four position is behind = ⊎_elim (λ known. known) behind (four_rounds_end start v u one.mild rounds s p0 p4 x.here last_path.here position is)

  known_so : FinStands start s p0 (reached values start v) → EndIsKnown start s u
  known_so (stands.bytes few) = absurd (let all = (sent p0 x.here).1 in omega (arith, few, all))
  known_so (stands.unsent none) = absurd (true≢false (sym (sent p0 x.here).0 ∙ none))
  known_so (stands.heard is) = heard_in_four (end_at s p4).tcp.send.nxt (told.heard is) (λ more. absurd (omega (arith, more)))
  known_so (stands.comes position c) = heard_in_four position (told.comes c) (λ more. known_where (sent_past start plan one s u p4 last_path.here (last_path.is_open.past s) (last_path.is_open.living s)
      (let all = (sent p0 x.here).1 in let low = came_there in let from = c.bare.from in let at = c.at in omega (arith, all, low, from, at, more))))
  known_so (stands.all_there all) = known_where (stays_there start one.mild v u s on_the_way all)

pub fins_are_heard : FinsAreHeard
fins_are_heard start plan s v u one rounds x sent = known_so start plan s v u one rounds x sent x.stands

-- and where it isn't owed whenever all is well
pub ends_are_heard : (start : Start) (plan : PathPlan) (Well : List Turn → Type 0) → BeginsWithOnePath start plan → ((turns : List Turn) → Well turns → (s : Side) → FinStandsAfter start s turns)
    → (s : Side) (v u : List Turn) → WellRounds start Well 4 v u → FinIsSent start s v → EndIsKnown start s u
ends_are_heard start plan Well one stand s v u rounds sent = fins_are_heard start plan s v u one (rounds_of start Well 4 v u rounds) (stand v (well_before start Well 4 v u rounds) s) sent
