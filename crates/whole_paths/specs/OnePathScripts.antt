-- Connections over one path by mild scripts: how they begin, how long a segment is under way, and what is said of them by how they begin.
use Rattle.std.specs.Prelude.{ℕ, suc, ◌+◌, ◌-◌, ◌*◌, ◌/◌, ◌^◌, ◌≡◌, ◌<◌, ◌≤◌, ◌⊎◌, Some, List, [], ◌∷◌, ◌++◌, length, slice_get}
use Rattle.sides.specs.declared.side.Side.{Side}
use Rattle.sides.specs.declared.side.Side.TheVariants.{A, B}
use Rattle.sides.specs.Side.{peer}
use Rattle.link_script.specs.declared.script.PathLine.{PathLine}
use Rattle.link_script.specs.declared.script.Script.{Script}
use Rattle.link_script.specs.declared.script.ScriptLine.{ScriptLine}
use Rattle.link_model.specs.Passage.{shape_of}
use Rattle.link_model.specs.Steps.{lines_of}
use Rattle.path_core.specs.Codec.{Codec}
use Rattle.path_core.specs.State.{PathState}
use Rattle.path_core.specs.Values.{values}
use Rattle.world_laws.specs.declared.outcome.Outcome.TheVariants.{Delivered}
use Rattle.world_laws.specs.Actors.{ActorCrew}
use Rattle.world_laws.specs.Members.{HoldsOfKind}
use Rattle.world_laws.specs.Openings.{PathPlan, Start, opened_world, plan_of, start_of}
use Rattle.world_laws.specs.Outcomes.{outcome_of}
use Rattle.world_laws.specs.RoundDone.{reached}
use Rattle.world_laws.specs.Worlds.{Turn, AreLawful}
use Rattle.whole_paths.specs.Delivery.{AllIsThere}
use Rattle.whole_paths.specs.Finish.{AnEndDied, IsEnough, IsMild, IsPathAt, IsBrief, IsWhole, Patience, harmed, opened, rounds_in, run_of}
use Rattle.whole_paths.specs.Harms.{full_queue_waits, longest_way}
use Rattle.whole_paths.specs.Mild.{IsMildStart}
use Rattle.whole_paths.specs.News.{most_news}
use Rattle.whole_paths.specs.Rounds.{ticks_for}

-- ---- how they begin

-- It begins mildly, with one path, whose segments carry 1,460 octets at most, and each side buffers 4,096 octets at least.
pub record BeginsWithOnePath (start : Start) (plan : PathPlan) : Type 0 where
  pub mild : IsMildStart start
  pub one : start.paths ≡ plan ∷ []
  pub size : plan.mss ≤ 1460
  pub buffer : 4096 ≤ start.buffer

-- the connection of a mild script of one path begins like that
abbrev pub MildScriptsBeginWithOnePath : Type 0
MildScriptsBeginWithOnePath = (script : Script) (path : PathLine) (file_a file_b : List ℕ) → IsMild script path file_a file_b
    → BeginsWithOnePath (start_of script file_a file_b) (plan_of script 0 path)

-- ---- how long a segment is under way

-- the ticks for a segment from a side, of a link with this delay and these lines: the delay, those of a full queue, and the greatest jitter
abbrev pub way_by : Side → ℕ → List ScriptLine → ℕ
way_by from delay lines = let shape = shape_of from lines in delay + full_queue_waits shape.rate + shape.jitter

-- on each path as it was planned, always
abbrev pub WaysStay : {C : Type 0} → Codec C → Type 0
WaysStay {C} k = (start : Start) (turns : List Turn) (number : ℕ) (plan : PathPlan) → slice_get start.paths number ≡ Some plan
    → (c : ActorCrew C) → slice_get (reached k start turns).crew (2 + number) ≡ Some c
    → HoldsOfKind (λ app. Unit {0}) (λ (p : PathState C). (s : Side) → longest_way s p.link ≡ way_by s plan.delay (lines_of number start.lines)) c.member

-- there and back, over the first of these paths
abbrev pub way_there_and_back : List PathPlan → List ScriptLine → ℕ
way_there_and_back [] lines = 0
way_there_and_back (plan ∷ plans) lines = way_by A plan.delay (lines_of 0 lines) + way_by B plan.delay (lines_of 0 lines)

-- over the only path that is the longest time there and back, from either side, always
abbrev pub OnlyWaysStay : {C : Type 0} → Codec C → Type 0
OnlyWaysStay {C} k = (start : Start) (turns : List Turn) (plan : PathPlan) → start.paths ≡ plan ∷ [] → (p : PathState C) → IsPathAt 0 (reached k start turns) p
    → (s : Side) → longest_way s p.link + longest_way (peer s) p.link ≡ way_there_and_back start.paths start.lines

-- ---- what is said of a connection by how it begins

-- how many ticks are enough, by how a connection begins, and how many segments of path 0 are harmed
abbrev pub Allowance : Type 0
Allowance = Start → ℕ → ℕ

-- those for all news that there can be and for each segment that is harmed, if each comes within so many ticks
abbrev pub for_all_news : (Start → ℕ) → Allowance
for_all_news within start harms = ticks_for (within start) (suc (most_news start + harms))

-- In fewer than 2^64 - 1 turns: where path 0 is whole, and still is after rounds enough, all of both streams is with the peers.
abbrev pub AllIsThereWithin : Allowance → Type 0
AllIsThereWithin enough = (start : Start) (plan : PathPlan) (before more : List Turn) (most : ℕ) → BeginsWithOnePath start plan
    → AreLawful values more (reached values start before) → length (before ++ more) < 2 ^ 64 - 1 → IsWhole 0 (reached values start before)
    → IsWhole 0 (reached values start (before ++ more)) → harmed values 0 (before ++ more) (opened_world start) ≤ most
    → enough start most < 100 * rounds_in more → AllIsThere (reached values start (before ++ more))

-- after some of these turns an end of the path of this number was dead, and not all of both streams was with the peers
pub record AnEndDiedEarlyAt (number : ℕ) {C : Type 0} (k : Codec C) (start : Start) (turns : List Turn) : Type 0 where
  pub first : List Turn
  pub rest : List Turn
  pub is : turns ≡ first ++ rest
  pub died : AnEndDied number (reached k start first)
  pub missing : AllIsThere (reached k start first) → ⊥

-- of path 0
abbrev pub AnEndDiedEarly : {C : Type 0} → Codec C → Start → List Turn → Type 0
AnEndDiedEarly k start turns = AnEndDiedEarlyAt 0 k start turns

-- three rounds later both files are delivered; or an end died early
abbrev pub EndsWithin : Allowance → Type 0
EndsWithin enough = (start : Start) (plan : PathPlan) (before more : List Turn) (most : ℕ) → BeginsWithOnePath start plan
    → AreLawful values more (reached values start before) → length (before ++ more) < 2 ^ 64 - 1 → IsWhole 0 (reached values start before)
    → harmed values 0 (before ++ more) (opened_world start) ≤ most
    → enough start most + 300 < 100 * rounds_in more
    → (outcome_of (reached values start (before ++ more)).crew ≡ Delivered) ⊎ AnEndDiedEarly values start (before ++ more)

abbrev pub WhatIsThereInTimeIsDelivered : Type 0
WhatIsThereInTimeIsDelivered = (enough : Allowance) → AllIsThereWithin enough → EndsWithin enough

-- ---- by any count

-- what is counted of a run, by how it begins and by its turns
abbrev pub Count : Type 0
Count = Start → List Turn → ℕ

-- it never falls
abbrev pub NeverFalls : Count → Type 0
NeverFalls count = (start : Start) (turns more : List Turn) → count start turns ≤ count start (turns ++ more)

-- the segments of path 0 that are harmed
abbrev pub harms_alone : {C : Type 0} → Codec C → Count
harms_alone k start turns = harmed k 0 turns (opened_world start)

-- The same of connections that are so besides, and of rounds enough for all that is counted.
module _ (Also : Start → PathPlan → Type 0) (count : Count) (enough : Allowance) where
  abbrev pub AllIsThereBy : Type 0
  AllIsThereBy = (start : Start) (plan : PathPlan) (before more : List Turn) (most : ℕ) → BeginsWithOnePath start plan → Also start plan
      → AreLawful values more (reached values start before) → length (before ++ more) < 2 ^ 64 - 1 → IsWhole 0 (reached values start before)
      → IsWhole 0 (reached values start (before ++ more)) → count start (before ++ more) ≤ most
      → enough start most < 100 * rounds_in more → AllIsThere (reached values start (before ++ more))

  abbrev pub EndsBy : Type 0
  EndsBy = (start : Start) (plan : PathPlan) (before more : List Turn) (most : ℕ) → BeginsWithOnePath start plan → Also start plan
      → AreLawful values more (reached values start before) → length (before ++ more) < 2 ^ 64 - 1 → IsWhole 0 (reached values start before)
      → count start (before ++ more) ≤ most → enough start most + 300 < 100 * rounds_in more
      → (outcome_of (reached values start (before ++ more)).crew ≡ Delivered) ⊎ AnEndDiedEarly values start (before ++ more)

  abbrev pub WhatIsThereInTimeIsDeliveredBy : Type 0
  WhatIsThereInTimeIsDeliveredBy = NeverFalls count → AllIsThereBy → EndsBy

-- ---- what is said of mild scripts of one path

-- so many rounds are enough
abbrev pub rounds_within : Allowance → Patience
rounds_within enough script path file_a file_b harms = enough (start_of script file_a file_b) harms / 100 + 4

module _ {C : Type 0} (k : Codec C) where
  -- Once the path is whole at the end of a round, both files are delivered when so many more have ended; or an end died early.
  abbrev pub BriefPathsEnd : Patience → Type 0
  BriefPathsEnd enough = (script : Script) (path : PathLine) (file_a file_b : List ℕ) (before more : List Turn) → IsMild script path file_a file_b
      → let turns = before ++ Turn.Round ∷ more in IsBrief script turns → AreLawful k turns (opened script file_a file_b)
      → IsWhole 0 (run_of k script file_a file_b (before ++ Turn.Round ∷ [])) → IsEnough k enough script path file_a file_b turns (rounds_in more)
      → (outcome_of (run_of k script file_a file_b turns).crew ≡ Delivered) ⊎ AnEndDiedEarly k (start_of script file_a file_b) turns

  -- what is said of each start holds of such scripts
  abbrev pub EndsAsItBegins : Type 0
  EndsAsItBegins = (enough : Allowance) → EndsWithin enough → BriefPathsEnd (rounds_within enough)

  -- by any count, of scripts that are so besides
  abbrev pub BriefPathsEndBy : (Start → PathPlan → Type 0) → Count → Patience → Type 0
  BriefPathsEndBy Also count enough = (script : Script) (path : PathLine) (file_a file_b : List ℕ) (before more : List Turn)
      → IsMild script path file_a file_b → Also (start_of script file_a file_b) (plan_of script 0 path)
      → let turns = before ++ Turn.Round ∷ more in IsBrief script turns → AreLawful k turns (opened script file_a file_b)
      → IsWhole 0 (run_of k script file_a file_b (before ++ Turn.Round ∷ []))
      → enough script path file_a file_b (count (start_of script file_a file_b) turns) ≤ rounds_in more
      → (outcome_of (run_of k script file_a file_b turns).crew ≡ Delivered) ⊎ AnEndDiedEarly k (start_of script file_a file_b) turns

  -- where as much is counted as over segments as values
  abbrev pub EndsAsItBeginsBy : Type 1
  EndsAsItBeginsBy = (Also : Start → PathPlan → Type 0) (count counted : Count) (enough : Allowance)
      → ((start : Start) → IsMildStart start → (turns : List Turn) → counted start turns ≡ count start turns)
      → EndsBy Also count enough → BriefPathsEndBy Also counted (rounds_within enough)
