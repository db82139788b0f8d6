-- Where what holds of a window goes on, and each stall ends in it, windows are mended.
use Rattle.std.proofs.Common.{subst, inr, arith, true, List, [], ◌∷◌}
use Rattle.sides.specs.declared.side.Side.{Side}
use Rattle.sides.specs.declared.side.Side.TheVariants.{A, B}
use Rattle.path_core.specs.Values.{values}
use Rattle.world_laws.specs.Openings.{PathPlan, Start}
use Rattle.world_laws.specs.RoundDone.{reached}
use Rattle.world_laws.specs.Worlds.{Turn}
use Rattle.whole_paths.specs.Counts.{CountsAsMuch, with_events}
use Rattle.whole_paths.specs.Courses.{harmed_so_far}
use Rattle.whole_paths.specs.Directions.{DirectionIsWell, OwesAlong}
use Rattle.whole_paths.specs.OnePathScripts.{BeginsWithOnePath}
use Rattle.whole_paths.specs.WindowKinds.{OwesDirections}
use Rattle.whole_paths.specs.WindowStalls.{StallsAreWaitedFor}
use Rattle.whole_paths.specs.WindowsHeld.{WindowsAreMendedSo}
use Rattle.whole_paths.proofs.Counts.{counts_through}
use Rattle.whole_paths.proofs.Directions.{what_owes_none_is_well}
use Rattle.whole_paths.proofs.WindowStalls.{stalls_are_mended}

-- nothing is owed along both directions
both_well : (start : Start) (plan : PathPlan) → BeginsWithOnePath start plan → (turns : List Turn) → OwesDirections start 0 turns → (s : Side) → DirectionIsWell s (reached values start turns)
both_well start plan one turns h A = what_owes_none_is_well start plan turns A one (subst (λ d. OwesAlong start A d turns) (let low = h.few_one in omega (arith, low)) h.owes_one)
both_well start plan one turns h B = what_owes_none_is_well start plan turns B one (subst (λ d. OwesAlong start B d turns) (let low = h.few_other in omega (arith, low)) h.owes_other)

pub windows_are_mended_so : (Also : Start → PathPlan → Type 0) (Holds : Start → Side → List Turn → Type 0) → WindowsAreMendedSo Also Holds
windows_are_mended_so Also Holds hold = record {
  mended = λ start plan most s count one also counts.
      (let harms : CountsAsMuch start (harmed_so_far values start) count = counts_through start (harmed_so_far values start) (with_events start ((λ turns. true) ∷ [])) count
      (record { covers = λ turns. omega arith; rises = λ turns turn h. omega arith }) counts in
      let stalls : StallsAreWaitedFor start plan most s count (OwesDirections start) (Holds start s) =
      stalls_are_mended start plan most s count (OwesDirections start) (Holds start s) one harms (both_well start plan one) (hold.meets start plan s one also) in
      record {
        opens = λ turns h. inr (let some = counts.covers turns in omega (arith, some));
        stays = hold.stays start plan s count one also counts;
        waits_on = stalls.waits_on;
        waits_next = stalls.waits_next;
        in_time = stalls.in_time;
        begins = stalls.begins;
      });
  heard = hold.heard;
}
