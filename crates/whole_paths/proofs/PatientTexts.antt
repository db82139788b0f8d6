-- No more copies count that come early than A's file has full segments; so by the text of a script as many rounds are enough.
use Rattle.std.proofs.Common.{◌≡◌, ap, ℕ, ◌≤◌, arith, List, ◌∷◌, ◌++◌, length}
use Rattle.link_script.specs.declared.script.PathLine.{PathLine}
use Rattle.link_script.specs.declared.script.Script.{Script}
use Rattle.path_core.specs.Codec.{Codec}
use Rattle.path_core.specs.Octets.{octets}
use Rattle.path_core.specs.Values.{values}
use Rattle.world_laws.specs.Openings.{plan_of, plans_from, start_of}
use Rattle.world_laws.specs.Worlds.{Turn}
use Rattle.whole_paths.specs.Finish.{IsMild, patience, rounds_in, segments}
use Rattle.whole_paths.specs.OnePathScripts.{harms_alone}
use Rattle.whole_paths.specs.PatientPaths.{PatientPathEnds, PatientPathsEnd, harms_and_early}
use Rattle.whole_paths.specs.PatientTexts.{FewLossesFinishByText, FileFits, PatientTextEnds, PatientTextsEnd, patience_by_text}
use Rattle.whole_paths.specs.QuietOpenings.{segments_on}
use Rattle.whole_paths.proofs.FewLossesDeliver.{few_losses_end_none, few_losses_end_none_in_octets}
use Rattle.whole_paths.proofs.PaidEnds.{few_losses_finish_by}
use Rattle.whole_paths.proofs.PatientPaths.{patient_path_ends, patient_path_ends_in_octets, patient_paths_end}
use Rattle.whole_paths.proofs.QuietOpenings.{lost_early_fits}

module _ {C : Type 0} (k : Codec C) where
  -- what is counted of a run costs no more than its text says
  enough_so : (script : Script) (path : PathLine) (file_a file_b : List ℕ) (turns : List Turn) (rounds : ℕ) → IsMild script path file_a file_b → FileFits (start_of script file_a file_b) (plan_of script 0 path)
      → patience_by_text script path file_a file_b (harms_alone k (start_of script file_a file_b) turns) ≤ rounds
      → patience script path file_a file_b (harms_and_early k (start_of script file_a file_b) turns) ≤ rounds
  enough_so script path file_a file_b turns rounds mild fits enough =
      let few = lost_early_fits (start_of script file_a file_b) turns fits in
      let same : segments_on (start_of script file_a file_b).paths file_a ≡ segments path.mss (length file_a) = ap (λ lines. segments_on (plans_from script 0 lines) file_a) mild.one in omega (arith, few, same, enough)

  paths_by_text : PatientPathsEnd k → PatientTextsEnd k
  paths_by_text ends script path file_a file_b before more mild fits brief lawful whole enough = ends script path file_a file_b before more mild brief lawful whole
      (enough_so script path file_a file_b (before ++ Turn.Round ∷ more) (rounds_in more) mild fits enough)

  path_by_text : PatientPathEnds k → PatientTextEnds k
  path_by_text ends script path file_a file_b turns mild fits brief lawful enough = ends script path file_a file_b turns mild brief lawful (enough_so script path file_a file_b turns (rounds_in turns) mild fits enough)

pub patient_texts_end : PatientTextsEnd values × PatientTextsEnd octets
patient_texts_end = (paths_by_text values patient_paths_end.0, paths_by_text octets patient_paths_end.1)

pub patient_text_ends : PatientTextEnds values
patient_text_ends = path_by_text values patient_path_ends

pub patient_text_ends_in_octets : PatientTextEnds octets
patient_text_ends_in_octets = path_by_text octets patient_path_ends_in_octets

pub few_losses_finish_by_text : FewLossesFinishByText values
few_losses_finish_by_text = few_losses_finish_by values FileFits (harms_alone values) patience_by_text patient_text_ends few_losses_end_none

pub few_losses_finish_by_text_in_octets : FewLossesFinishByText octets
few_losses_finish_by_text_in_octets = few_losses_finish_by octets FileFits (harms_alone octets) patience_by_text patient_text_ends_in_octets few_losses_end_none_in_octets
