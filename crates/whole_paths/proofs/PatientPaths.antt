-- Records, acknowledgements, DATA_FINs and windows are mended; so whole paths end in time, and both files are delivered.
use Rattle.std.proofs.Common.{◌≡◌, ap, ℕ, ◌+◌, arith, List, length}
use Rattle.std.proofs.lemmas.List.{length-append}
use Rattle.path_core.specs.Octets.{octets}
use Rattle.path_core.specs.Values.{values}
use Rattle.world_laws.specs.Openings.{PathPlan, Start, opened_world, plan_of, plans_from, start_of}
use Rattle.world_laws.specs.Worlds.{Turn}
use Rattle.whole_paths.specs.CalmWindows.{WindowIsKept}
use Rattle.whole_paths.specs.Counts.{spare}
use Rattle.whole_paths.specs.Finish.{patience}
use Rattle.whole_paths.specs.Mild.{IsMildStart}
use Rattle.whole_paths.specs.OnePathScripts.{BeginsWithOnePath, BriefPathsEndBy, EndsBy, harms_alone}
use Rattle.whole_paths.specs.OpeningCourses.{opening_allowance}
use Rattle.whole_paths.specs.PaidEnds.{OnePathEndsBy}
use Rattle.whole_paths.specs.PatientPaths.{FewLossesFinishPatiently, PatientPathEnds, PatientPathsEnd, harms_and_early}
use Rattle.whole_paths.specs.SharpCourses.{most_units, price, price_by, sharp_allowance}
use Rattle.whole_paths.specs.WindowsHeld.{StallsOf}
use Rattle.whole_paths.proofs.CalmWindows.{windows_hold_so}
use Rattle.whole_paths.proofs.Courses.{harmed_append}
use Rattle.whole_paths.proofs.FewLossesDeliver.{few_losses_end_none, few_losses_end_none_in_octets}
use Rattle.whole_paths.proofs.OnePathScripts.{mild_scripts_begin_with_one_path}
use Rattle.whole_paths.proofs.OpeningEnds.{delivers_from, opens_within}
use Rattle.whole_paths.proofs.OverOctets.{harms_as_over_values}
use Rattle.whole_paths.proofs.PaidEnds.{few_losses_finish_by, one_path_ends_by_in_octets}
use Rattle.whole_paths.proofs.SharpCourses.{sharp_ends_by_scripts}
use Rattle.whole_paths.proofs.ToldSince.{what_is_owed_is_told}
use Rattle.whole_paths.proofs.WindowKinds.{paths_end_by_windows}
use Rattle.whole_paths.proofs.WindowsHeld.{windows_are_mended_so}

-- nothing more is asked of how a connection begins
abbrev Anyhow : Start → PathPlan → Type 0
Anyhow start plan = Unit {0}

-- all is there in time, and delivered, or an end died early
pub ends_in_time : EndsBy Anyhow (harms_and_early values) sharp_allowance
ends_in_time = paths_end_by_windows Anyhow WindowIsKept StallsOf (windows_are_mended_so Anyhow WindowIsKept (windows_hold_so Anyhow what_is_owed_is_told))

as_many : (start : Start) → IsMildStart start → (turns : List Turn) → harms_and_early octets start turns ≡ harms_and_early values start turns
as_many start mild turns =
    let harms = harms_as_over_values start mild turns in omega (arith, harms)

by_scripts : BriefPathsEndBy values Anyhow (harms_and_early values) patience × BriefPathsEndBy octets Anyhow (harms_and_early octets) patience
by_scripts = sharp_ends_by_scripts Anyhow (harms_and_early values) (harms_and_early octets) as_many ends_in_time

pub patient_paths_end : PatientPathsEnd values × PatientPathsEnd octets
patient_paths_end = (
  λ script path file_a file_b before more mild brief lawful whole enough. by_scripts.0 script path file_a file_b before more mild tt brief lawful whole enough,
  λ script path file_a file_b before more mild brief lawful whole enough. by_scripts.1 script path file_a file_b before more mild tt brief lawful whole enough,
)

-- ---- from the beginning

path_ends : OnePathEndsBy values Anyhow (harms_and_early values) patience
path_ends script path file_a file_b turns mild also brief lawful rounds =
    delivers_from start one.mild turns lawful (opening_allowance start most) (sharp_allowance start most)
    (λ first more is going many. opens_within start plan first most one going
    (let sum = length-append first more in let all = ap length is in let few = brief.few in omega (arith, few, sum, all))
    (let up = harmed_append values 0 first more (opened_world start) in let all = ap (λ ts. harms_alone values start ts) is in omega (arith, up, all)) many)
    (λ first more is going whole many. ends_in_time start plan first more most one also going (let all = ap length is in let few = brief.few in omega (arith, few, all)) whole
    (let all = ap (λ ts. harms_and_early values start ts) is in omega (arith, all)) many)
    (omega (arith, rounds, bound))
  where
    start : Start
    start = start_of script file_a file_b

    plan : PathPlan
    plan = plan_of script 0 path

    one : BeginsWithOnePath start plan
    one = mild_scripts_begin_with_one_path script path file_a file_b mild

    most : ℕ
    most = harms_and_early values start turns

    bound : sharp_allowance start most ≡ price (most_units start plan) (most + spare)
    bound = ap (λ lines. price_by start (plans_from script 0 lines) most) mild.one

path_ends_in_octets : OnePathEndsBy octets Anyhow (harms_and_early octets) patience
path_ends_in_octets = one_path_ends_by_in_octets Anyhow (harms_and_early values) (harms_and_early octets) patience as_many path_ends

pub patient_path_ends : PatientPathEnds values
patient_path_ends script path file_a file_b turns mild brief lawful enough = path_ends script path file_a file_b turns mild tt brief lawful enough

pub patient_path_ends_in_octets : PatientPathEnds octets
patient_path_ends_in_octets script path file_a file_b turns mild brief lawful enough = path_ends_in_octets script path file_a file_b turns mild tt brief lawful enough

pub few_losses_finish_patiently : FewLossesFinishPatiently values
few_losses_finish_patiently script path file_a file_b turns mild brief harmless few lawful enough =
    few_losses_finish_by values Anyhow (harms_and_early values) patience path_ends few_losses_end_none script path file_a file_b turns mild tt brief harmless few lawful enough

pub few_losses_finish_patiently_in_octets : FewLossesFinishPatiently octets
few_losses_finish_patiently_in_octets script path file_a file_b turns mild brief harmless few lawful enough =
    few_losses_finish_by octets Anyhow (harms_and_early octets) patience path_ends_in_octets few_losses_end_none_in_octets script path file_a file_b turns mild tt brief harmless few lawful enough
