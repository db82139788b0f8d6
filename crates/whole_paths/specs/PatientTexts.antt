-- How many rounds are enough by the text of a script and its files, whatever comes early: each full segment of A's file may count as a harm.
use Rattle.std.specs.Prelude.{◌+◌, length}
use Rattle.sides.specs.declared.side.Side.TheVariants.{A}
use Rattle.path_core.specs.Codec.{Codec}
use Rattle.world_laws.specs.Openings.{PathPlan, Start}
use Rattle.whole_paths.specs.FilesFit.{FitsFirstWindow}
use Rattle.whole_paths.specs.Finish.{Patience, patience, segments}
use Rattle.whole_paths.specs.OnePathScripts.{BriefPathsEndBy, harms_alone}
use Rattle.whole_paths.specs.PaidEnds.{FewLossesFinishBy, OnePathEndsBy}

-- `patience`, where each full segment of A's file counts as a harm besides
abbrev pub patience_by_text : Patience
patience_by_text script path file_a file_b harmed = patience script path file_a file_b (harmed + segments path.mss (length file_a))

-- of scripts whose file of A's fits the first window
abbrev pub FileFits : Start → PathPlan → Type 0
FileFits start plan = FitsFirstWindow start A

module _ {C : Type 0} (k : Codec C) where
  -- from where the path is whole
  abbrev pub PatientTextsEnd : Type 0
  PatientTextsEnd = BriefPathsEndBy k FileFits (harms_alone k) patience_by_text

  -- from the beginning
  abbrev pub PatientTextEnds : Type 0
  PatientTextEnds = OnePathEndsBy k FileFits (harms_alone k) patience_by_text

  -- with four harmed segments at most
  abbrev pub FewLossesFinishByText : Type 0
  FewLossesFinishByText = FewLossesFinishBy k FileFits (harms_alone k) patience_by_text
