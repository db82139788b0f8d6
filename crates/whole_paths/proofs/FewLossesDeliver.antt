-- Each expiry is answered but for harmed segments, so both files are delivered over one path with four harmed segments at most.
use Rattle.std.proofs.Common.{ap, ◌≤◌, arith, List}
use Rattle.std.specs.List.{slice_get}
use Rattle.path_core.specs.Octets.{octets}
use Rattle.path_core.specs.Values.{values}
use Rattle.world_laws.specs.Openings.{PathPlan, Start, plan_of, start_of}
use Rattle.whole_paths.specs.AnsweredExpiries.{IsAnsweredAt}
use Rattle.whole_paths.specs.ExpiriesInARow.{ExpiriesAreAnswered}
use Rattle.whole_paths.specs.ExpiryMeanings.{EndsTheRow, IsOpenedFor, IsWanted}
use Rattle.whole_paths.specs.FewLossesEnd.{FewLossesEndNoFirst, RunsAlive}
use Rattle.whole_paths.specs.Finish.{BriefLossesEndNone, BriefLossesFinish, IsBrief}
use Rattle.whole_paths.specs.OnePathScripts.{BeginsWithOnePath}
use Rattle.whole_paths.specs.OpeningCourses.{opening_patience}
use Rattle.whole_paths.specs.WindowRoom.{IsRoomy}
use Rattle.whole_paths.proofs.AnsweredExpiries.{expiries_are_answered_so}
use Rattle.whole_paths.proofs.ExpiryAnswers.{segments_mean_so}
use Rattle.whole_paths.proofs.FewLosses.{few_losses_finish_so}
use Rattle.whole_paths.proofs.FewLossesEnd.{few_losses_end_none_so}
use Rattle.whole_paths.proofs.HarmlessLines.{spare_first}
use Rattle.whole_paths.proofs.OnePathScripts.{mild_scripts_begin_with_one_path}
use Rattle.whole_paths.proofs.OpeningEnds.{one_path_ends}
use Rattle.whole_paths.proofs.OverOctets.{end_none_where, finish_where}
use Rattle.whole_paths.proofs.WindowRoom.{one_path_is_roomy}

-- the exchange of each expiry
answers : (start : Start) → 2 ≤ start.buffer → IsRoomy start → ExpiriesAreAnswered values (RunsAlive start) (IsAnsweredAt IsWanted EndsTheRow IsOpenedFor)
answers start room roomy = expiries_are_answered_so IsWanted EndsTheRow IsOpenedFor start roomy.mild (segments_mean_so start roomy.mild room roomy)

pub few_losses_end_no_first : FewLossesEndNoFirst
few_losses_end_no_first start turns h room roomy short few died =
    few_losses_end_none_so start (IsAnsweredAt IsWanted EndsTheRow IsOpenedFor) (answers start room roomy) h turns short few died

pub few_losses_end_none : BriefLossesEndNone values
few_losses_end_none script path file_a file_b turns mild brief harmless few died = few_losses_end_no_first start turns
    (record { mild = begins.mild; plan = plan; there = ap (λ (plans : List PathPlan). slice_get plans 0) begins.one; harmless = spare_first script.lines harmless })
    (let room = begins.buffer in omega (arith, room)) (one_path_is_roomy start plan begins) brief.few few died
  where
    start : Start
    start = start_of script file_a file_b

    plan : PathPlan
    plan = plan_of script 0 path

    begins : BeginsWithOnePath start plan
    begins = mild_scripts_begin_with_one_path script path file_a file_b mild

pub few_losses_finish : BriefLossesFinish values opening_patience
few_losses_finish = few_losses_finish_so values IsBrief opening_patience one_path_ends few_losses_end_none

pub few_losses_end_none_in_octets : BriefLossesEndNone octets
few_losses_end_none_in_octets = end_none_where IsBrief few_losses_end_none

pub few_losses_finish_in_octets : BriefLossesFinish octets opening_patience
few_losses_finish_in_octets = finish_where IsBrief opening_patience few_losses_finish
