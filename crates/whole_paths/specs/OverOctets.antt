-- A connection over octets is as far as the same one over segments as values: what is read off the segments on the wire is what they say.
use Rattle.std.specs.Prelude.{ℕ, ◌≡◌, ◌↔◌, List}
use Rattle.path_core.specs.Octets.{octets}
use Rattle.path_core.specs.Values.{values}
use Rattle.world_laws.specs.Openings.{Start, opened_world}
use Rattle.world_laws.specs.Outcomes.{outcome_of}
use Rattle.world_laws.specs.Promises.{HasRoom, NumbersFit}
use Rattle.world_laws.specs.RoundDone.{reached}
use Rattle.world_laws.specs.Worlds.{Turn, AreLawful}
use Rattle.whole_paths.specs.Finish.{AnEndDied, FewLossesFinish, IsWhole, OnePathEnds, Patience, BriefPathsDeliver, WholePathsDeliver, harmed}
use Rattle.whole_paths.specs.News.{news}

-- after the same turns
pub record IsAsFarAsOverValues (start : Start) (turns : List Turn) : Type 0 where
  pub lawful : AreLawful octets turns (opened_world start) ↔ AreLawful values turns (opened_world start)
  pub outcome : outcome_of (reached octets start turns).crew ≡ outcome_of (reached values start turns).crew
  pub whole : (number : ℕ) → IsWhole number (reached octets start turns) ↔ IsWhole number (reached values start turns)
  pub died : (number : ℕ) → AnEndDied number (reached octets start turns) ↔ AnEndDied number (reached values start turns)
  pub harms : (number : ℕ) → harmed octets number turns (opened_world start) ≡ harmed values number turns (opened_world start)
  pub books : (reached octets start turns).books ≡ (reached values start turns).books
  pub as_far : news start (reached octets start turns) ≡ news start (reached values start turns)

-- where a full segment has room beside its options, and the numbers of the start fit
abbrev pub OctetsAreAsFarAsValues : Type 0
OctetsAreAsFarAsValues = (start : Start) (turns : List Turn) → HasRoom start → NumbersFit start → IsAsFarAsOverValues start turns

-- ---- scripts of one path

-- what holds over segments as values of connections by such scripts holds of them over octets, by as many rounds
abbrev pub WholePathsDeliverAsOverValues : Type 0
WholePathsDeliverAsOverValues = (enough : Patience) → WholePathsDeliver values enough → WholePathsDeliver octets enough

abbrev pub BriefPathsDeliverAsOverValues : Type 0
BriefPathsDeliverAsOverValues = (enough : Patience) → BriefPathsDeliver values enough → BriefPathsDeliver octets enough

abbrev pub OnePathEndsAsOverValues : Type 0
OnePathEndsAsOverValues = (enough : Patience) → OnePathEnds values enough → OnePathEnds octets enough

abbrev pub FewLossesFinishAsOverValues : Type 0
FewLossesFinishAsOverValues = (enough : Patience) → FewLossesFinish values enough → FewLossesFinish octets enough
