-- How far a connection over any number of paths is, as one number; and a wait for what another path holds.
use Rattle.std.specs.Prelude.{ℕ, ◌+◌, ◌*◌, ◌≡◌, ◌<◌, ◌≤◌, ◌⊎◌, true, List, [], ◌∷◌, ◌++◌, length}
use Rattle.sides.specs.declared.side.Side.{Side}
use Rattle.sides.specs.declared.side.Side.TheVariants.{A, B}
use Rattle.path_core.specs.State.{PathState}
use Rattle.path_core.specs.Values.{Carried, values}
use Rattle.world_laws.specs.Openings.{Start}
use Rattle.world_laws.specs.Promises.{HasRoom, IsPlain, NumbersFit}
use Rattle.world_laws.specs.RoundDone.{reached}
use Rattle.world_laws.specs.Worlds.{WorldState, Turn, all_over, world_run}
use Rattle.whole_paths.specs.BookNews.{book_news}
use Rattle.whole_paths.specs.Courses.{round_end}
use Rattle.whole_paths.specs.Finish.{IsPathAt}
use Rattle.whole_paths.specs.HolderWaits.{IsLent}
use Rattle.whole_paths.specs.News.{most_news, news}

-- its news, and what became of the bytes of both streams
abbrev pub all_news : {C : Type 0} → Start → WorldState C → ℕ
all_news start w = news start w + book_news start A w + book_news start B w

-- the greatest number that there can be
abbrev pub most_of_all : Start → ℕ
most_of_all start =
    let a = length start.file_a in let b = length start.file_b in let paths = length start.paths in most_news start + (a + 2 * (paths * a)) + (b + 2 * (paths * b))

-- it never falls, and is never greater
pub record AllNewsIsBounded : Type 0 where
  pub never_falls : (start : Start) (before more : List Turn) → let w = reached values start before in all_news start w ≤ all_news start (world_run values more w)
  pub bounded : (start : Start) (turns : List Turn) → IsPlain start → NumbersFit start → all_news start (reached values start turns) ≤ most_of_all start

-- a path holds a byte, and gives it back by this tick
pub record AwaitsAReturn (start : Start) (x : ℕ) (turns : List Turn) : Type 0 where
  pub side : Side
  pub number : ℕ
  pub place : ℕ
  pub lent : IsLent side number place x (reached values start turns)

-- What is held is waited for, for a minute from the round's end on. By any turn the wait goes on, or there is news. And where all turns of a round are
-- over, the round doesn't end past the tick.
pub record ReturnsAreAwaited (start : Start) : Type 0 where
  pub begins : (turns : List Turn) → let w = reached values start turns in (s : Side) (number place : ℕ) (q : PathState Carried) → IsPathAt number w q
      → IsLent s number place (q.clock + 60000) w → AwaitsAReturn start (round_end values start turns + 60000) turns
  pub on : (turns : List Turn) (turn : Turn) (x : ℕ) → AwaitsAReturn start x turns
      → (all_news start (reached values start turns) < all_news start (reached values start (turns ++ turn ∷ []))) ⊎ AwaitsAReturn start x (turns ++ turn ∷ [])
  pub due : (turns : List Turn) (x : ℕ) → all_over (reached values start turns).crew ≡ true → AwaitsAReturn start x turns → round_end values start turns ≤ x

abbrev pub ReturnsAreAwaitedAlways : Type 0
ReturnsAreAwaitedAlways = (start : Start) → HasRoom start → ReturnsAreAwaited start
