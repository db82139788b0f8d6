-- What is counted along the turns of a connection as a harm: each segment of path 0 that is harmed, and besides events of which each comes once.
use Rattle.std.specs.Prelude.{ℕ, ◌+◌, ◌≡◌, ◌≤◌, Bool, true, List, [], ◌∷◌, ◌++◌}
use Rattle.path_core.specs.Values.{values}
use Rattle.world_laws.specs.Openings.{Start}
use Rattle.world_laws.specs.Worlds.{Turn}
use Rattle.whole_paths.specs.Courses.{harmed_so_far}
use Rattle.whole_paths.specs.Mending.{IsBegunTurn}
use Rattle.whole_paths.specs.News.{one_if}

-- for so many events there are rounds
abbrev pub spare : ℕ
spare = 3

module _ (start : Start) where
  -- Of two counts the second is never less, and by each turn it rises by as much at least, from when B's end may send a DSS.
  pub record CountsAsMuch (count more : List Turn → ℕ) : Type 0 where
    pub covers : (turns : List Turn) → count turns ≤ more turns
    pub rises : (turns : List Turn) (turn : Turn) → IsBegunTurn start turns turn
        → more turns + count (turns ++ turn ∷ []) ≤ more (turns ++ turn ∷ []) + count turns

  -- It counts each segment that is harmed, and of all that is paid for with these no more than so few events.
  pub record Counts (paid count : List Turn → ℕ) : Type 0 where
    pub harms : CountsAsMuch (harmed_so_far values start) count
    pub few : (turns : List Turn) → count turns ≤ paid turns + spare

  -- ---- events

  -- what has come stays so
  abbrev pub Lasts : (List Turn → Bool) → Type 0
  Lasts event = (turns : List Turn) (turn : Turn) → IsBegunTurn start turns turn → event turns ≡ true → event (turns ++ turn ∷ []) ≡ true

  -- the segments that were harmed, and which of these events have come
  abbrev pub with_events : List (List Turn → Bool) → List Turn → ℕ
  with_events [] turns = harmed_so_far values start turns
  with_events (event ∷ events) turns = one_if (event turns) + with_events events turns
