-- A connection from its beginning on: after rounds enough path 0 is whole, or all of both streams is with the peers, or an end of it died.
use Rattle.std.specs.Prelude.{ℕ, ◌+◌, ◌-◌, ◌*◌, ◌^◌, ◌≡◌, ◌<◌, ◌≤◌, ◌⊎◌, true, false, Some, List, ◌++◌, length}
use Rattle.std.specs.List.{slice_get}
use Rattle.sides.specs.declared.side.Side.TheVariants.{B}
use Rattle.path_core.specs.State.{PathState}
use Rattle.path_core.specs.Values.{Carried, values}
use Rattle.world_laws.specs.declared.outcome.Outcome.TheVariants.{Delivered}
use Rattle.world_laws.specs.Openings.{PathPlan, Start, opened_world}
use Rattle.world_laws.specs.Outcomes.{outcome_of}
use Rattle.world_laws.specs.Promises.{written_by}
use Rattle.world_laws.specs.RoundDone.{reached}
use Rattle.world_laws.specs.RoundNumbers.{BeginsRound}
use Rattle.world_laws.specs.Worlds.{Turn, WorldState, AreLawful}
use Rattle.whole_paths.specs.Courses.{round_end}
use Rattle.whole_paths.specs.Delivery.{AllIsThere}
use Rattle.whole_paths.specs.Finish.{AnEndDied, IsPathAt, IsWhole, Patience, harmed, rounds_in}
use Rattle.whole_paths.specs.GoingOn.{steps_of}
use Rattle.whole_paths.specs.Mild.{IsMildStart}
use Rattle.whole_paths.specs.OnePathScripts.{Allowance, BeginsWithOnePath, for_all_news, rounds_within}
use Rattle.whole_paths.specs.OnlyPaths.{news_within}
use Rattle.whole_paths.specs.OpeningWaits.{AwaitsOpening}
use Rattle.whole_paths.specs.Opened.{opened_or_harmed}
use Rattle.whole_paths.specs.Serving.{ServesAt}
use Rattle.whole_paths.specs.SignWaits.{AwaitsFirstSign}
use Rattle.whole_paths.specs.Straying.{IsOpenFrom}

-- ---- waits

-- on path 0 B's end is open, and A's may send no DSS yet
pub record IsFromB (start : Start) (turns : List Turn) : Type 0 where
  pub path : PathState Carried
  pub here : IsPathAt 0 (reached values start turns) path
  pub from : IsOpenFrom B path
  pub unclear : path.a.modes.clear ≡ false

-- the round goes on that began after the first turns
pub record IsInRound (start : Start) (since turns : List Turn) : Type 0 where
  pub order : List ℕ
  pub is : turns ≡ since ++ steps_of order
  pub begin : BeginsRound values start (reached values start since)

-- B's application wrote, or closed its stream
abbrev pub HasBegun : WorldState Carried → Type 0
HasBegun w = ((written_by B w).closed ≡ true) ⊎ (1 ≤ length (written_by B w).written)

-- What is waited for by this tick: that an end goes further in the handshake, or a first sign of Multipath TCP; or B's application writes in this round,
-- and then B's end sends, or B's end does.
pub data IsOpeningStill (start : Start) (x : ℕ) (turns : List Turn) : Type 0 where
  opening : (by : ℕ) → by ≤ x → AwaitsOpening start by turns → IsOpeningStill start x turns
  sign : (by : ℕ) → by ≤ x → AwaitsFirstSign start by turns → IsOpeningStill start x turns
  writes : (since : List Turn) → IsFromB start turns → IsInRound start since turns → round_end values start turns + 60900 ≤ x → IsOpeningStill start x turns
  sends : (since : List Turn) → IsFromB start turns → IsInRound start since turns → HasBegun (reached values start since) → round_end values start turns + 60800 ≤ x
      → IsOpeningStill start x turns

-- So much is paid by this tick, and by five steps and so many harms at most: a step further, or the next harm, pays 61,100 ticks.
pub record AwaitsAStep (start : Start) (most n x : ℕ) (turns : List Turn) : Type 0 where
  pub enough : n ≤ 61100 * (opened_or_harmed start turns + 1)
  pub payable : n ≤ 61100 * (5 + most)
  pub still : IsOpeningStill start x turns

-- ---- what it comes to

-- the path is whole, or all of both streams is with the peers
abbrev pub IsOpenOrDone : WorldState Carried → Type 0
IsOpenOrDone w = IsWhole 0 w ⊎ AllIsThere w

-- a mild connection that has a path 0, no end of which ever stands by
pub record BeginsServing (start : Start) : Type 0 where
  pub mild : IsMildStart start
  pub plan : PathPlan
  pub there : slice_get start.paths 0 ≡ Some plan
  pub buffer : 1 ≤ start.buffer
  pub serves : (turns : List Turn) → ServesAt 0 (reached values start turns)

-- that path, in fewer than 2^64 - 1 turns, whatever becomes of the others
abbrev pub FirstPathsOpenWithin : Allowance → Type 0
FirstPathsOpenWithin enough = (start : Start) (turns : List Turn) (most : ℕ) → BeginsServing start
    → AreLawful values turns (opened_world start) → length turns < 2 ^ 64 - 1 → harmed values 0 turns (opened_world start) ≤ most
    → enough start most < 100 * rounds_in turns → IsOpenOrDone (reached values start turns) ⊎ AnEndDied 0 (reached values start turns)

-- the only one
abbrev pub OpensWithin : Allowance → Type 0
OpensWithin enough = (start : Start) (plan : PathPlan) (turns : List Turn) (most : ℕ) → BeginsWithOnePath start plan
    → AreLawful values turns (opened_world start) → length turns < 2 ^ 64 - 1 → harmed values 0 turns (opened_world start) ≤ most
    → enough start most < 100 * rounds_in turns → IsOpenOrDone (reached values start turns) ⊎ AnEndDied 0 (reached values start turns)

-- for five steps, and each segment that is harmed
abbrev pub opening_allowance : Allowance
opening_allowance start harms = 61100 * (5 + harms)

-- Both files are delivered, or an end died, after rounds enough: until the path is whole, and from then on.
abbrev pub DeliversWithin : Allowance → Allowance → Type 0
DeliversWithin first rest = (start : Start) (plan : PathPlan) (turns : List Turn) (most : ℕ) → BeginsWithOnePath start plan
    → AreLawful values turns (opened_world start) → length turns < 2 ^ 64 - 1 → harmed values 0 turns (opened_world start) ≤ most
    → first start most + rest start most + 400 < 100 * rounds_in turns → (outcome_of (reached values start turns).crew ≡ Delivered) ⊎ AnEndDied 0 (reached values start turns)

-- ---- by scripts

-- rounds enough for both, and the last of them
abbrev pub with_opening : Allowance → Allowance
with_opening rest start harms = opening_allowance start harms + rest start harms + 100

-- Enough rounds from the beginning on: those for the opening, and for all news that there can be, and for each segment that is harmed.
abbrev pub opening_patience : Patience
opening_patience = rounds_within (with_opening (for_all_news news_within))
