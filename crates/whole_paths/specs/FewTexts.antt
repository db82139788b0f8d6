-- What is promised of the text of a script of one path by which few segments are lost or late, for runs that carry octets.
use Rattle.std.specs.Prelude.{◌&&◌, ℕ, ◌+◌, ◌≡◌, ◌<◌, ◌≤◌, ◌^◌, ◌⊎◌, not, if◌then◌else◌, true, List, [], ◌∷◌, length}
use Rattle.std.specs.List.{list_all}
use Rattle.sides.specs.declared.side.Side.TheVariants.{A}
use Rattle.link_script.specs.declared.script.PathLine.{PathLine}
use Rattle.link_script.specs.declared.script.Script.{Script}
use Rattle.link_model.specs.Laws.{moves}
use Rattle.stream_lanes.specs.Words.{Every}
use Rattle.path_core.specs.Octets.{octets}
use Rattle.world_laws.specs.declared.outcome.Outcome.{Outcome}
use Rattle.world_laws.specs.declared.outcome.Outcome.TheVariants.{Delivered, Going}
use Rattle.world_laws.specs.Openings.{start_of}
use Rattle.world_laws.specs.Outcomes.{outcome_of}
use Rattle.world_laws.specs.Worlds.{Turn, AreLawful}
use Rattle.whole_paths.specs.FilesFit.{FitsFirstWindow}
use Rattle.whole_paths.specs.Finish.{IsBrief, IsMild, harms_to, is_harmless_to_ends, is_on_direction, opened, patience, rounds_in, run_of, segments}
use Rattle.whole_paths.specs.QuietTexts.{MovesNoneOfFirst, is_first}

-- how many of A's records may be lost as they come to B's end too early, by the text: none where no line moves one of A's first eight segments, or else as
-- many as A's file has full segments
abbrev pub early_by_text : Script → PathLine → List ℕ → ℕ
early_by_text script path file_a = if list_all (λ line. not (moves A line && is_first 8 line)) script.lines then 0 else segments path.mss (length file_a)

-- The script is mild, and has one path. No line lets that die, takes back its address, or speaks of a whole direction; by four lines at most a segment
-- is lost or late; and none moves one of A's first eight, or A's file fits the first window.
pub record LosesFew (script : Script) (path : PathLine) (file_a file_b : List ℕ) : Type 0 where
  pub mild : IsMild script path file_a file_b
  pub harmless : list_all is_harmless_to_ends script.lines ≡ true
  pub directions : list_all (λ line. not (is_on_direction line)) script.lines ≡ true
  pub few : harms_to 0 script ≤ 4
  pub early : MovesNoneOfFirst 8 script.lines ⊎ FitsFirstWindow (start_of script file_a file_b) A

-- P holds of the outcome of each lawful list of fewer than 2^64 - 1 turns of such a connection
abbrev pub OfFewLosses : ((enough : ℕ) (turns : List Turn) (outcome : Outcome) → Type 0) → Type 0
OfFewLosses P = (script : Script) (path : PathLine) (file_a file_b : List ℕ) (turns : List Turn) → LosesFew script path file_a file_b → IsBrief script turns
    → AreLawful octets turns (opened script file_a file_b)
    → P (patience script path file_a file_b (harms_to 0 script + early_by_text script path file_a)) turns (outcome_of (run_of octets script file_a file_b turns).crew)

-- once so many rounds have ended both files are delivered
abbrev pub FewTextsFinish : Type 0
FewTextsFinish = OfFewLosses (λ enough turns outcome. enough ≤ rounds_in turns → outcome ≡ Delivered)

-- until then it goes on: no reader is told of an abort, and the path lives
abbrev pub FewTextsGoOn : Type 0
FewTextsGoOn = OfFewLosses (λ enough turns outcome. (outcome ≡ Going) ⊎ (outcome ≡ Delivered))

-- Fewer than 2^57 steps of each actor of a connection over one path are fewer than 2^64 - 1 turns: a round has a step of the path.
abbrev pub FewStepsAreBrief : Type 0
FewStepsAreBrief = (script : Script) (path : PathLine) (file_a file_b : List ℕ) (turns : List Turn) → script.paths ≡ path ∷ []
    → AreLawful octets turns (opened script file_a file_b) → Every (λ c. length c.list < 2 ^ 57) (run_of octets script file_a file_b turns).crew
    → IsBrief script turns
