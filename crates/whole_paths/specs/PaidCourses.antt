-- A connection as it goes on by turns, where waits are paid: what brings a stream on pays for short waits, and each segment of path 0 that is harmed
-- for long ones.
use Rattle.std.specs.Prelude.{ℕ, ◌*◌, ◌≡◌, ◌<◌, ◌≤◌, ◌⊎◌, List, ◌++◌}
use Rattle.path_core.specs.Codec.{Codec}
use Rattle.world_laws.specs.Openings.{Start}
use Rattle.world_laws.specs.RoundDone.{reached}
use Rattle.world_laws.specs.Worlds.{Turn, AreLawful}
use Rattle.whole_paths.specs.Courses.{BeginsARound, TakesAStep, course_of, harmed_so_far, round_end}
use Rattle.whole_paths.specs.Finish.{rounds_in}
use Rattle.whole_paths.specs.PaidRounds.{AWaitBegins, AWaitGoesOn}

module _ {C : Type 0} (k : Codec C) (start : Start) (Holds : List Turn → Type 0) (most : ℕ) where
  -- What is left to be shown: what is over stays so, and what is paid, of which there is so much at most; a wait goes on, is put off, or is paid; no round
  -- begins past a wait that isn't paid; and as a round begins something is waited for.
  pub record PaidExchanges (most_paid : ℕ) (Over : List Turn → Type 0) (Pays : ℕ → List Turn → Type 0) (Waits : ℕ → ℕ → List Turn → Type 0) : Type 0 where
    pub over_on : (v u : List Turn) → TakesAStep k start Holds most v u → Over v → Over u
    pub over_next : (v u : List Turn) → BeginsARound k start Holds most v u → Over v → Over u
    pub pays_on : (n : ℕ) (v u : List Turn) → TakesAStep k start Holds most v u → Pays n v → Pays n u
    pub pays_next : (n : ℕ) (v u : List Turn) → BeginsARound k start Holds most v u → Pays n v → Pays n u
    pub few : (n : ℕ) (v : List Turn) → harmed_so_far k start v ≤ most → Pays n v → n ≤ most_paid
    pub waits_on : (n x : ℕ) (v u : List Turn) → TakesAStep k start Holds most v u → Waits n x v → Pays n u
        ⊎ AWaitGoesOn (course_of k start Holds most Over Waits) most_paid n x u
    pub waits_next : (n x : ℕ) (v u : List Turn) → BeginsARound k start Holds most v u → Waits n x v → Pays n u
        ⊎ AWaitGoesOn (course_of k start Holds most Over Waits) most_paid n x u
    pub due : (n x : ℕ) (v u : List Turn) → BeginsARound k start Holds most v u → Waits n x v → x < round_end k start v → Pays n u
    pub begins : (n : ℕ) (v u : List Turn) → BeginsARound k start Holds most v u → Pays n u → Over u
        ⊎ AWaitBegins (course_of k start Holds most Over Waits) most_paid n v u

  -- Where exchanges go on so, it is over after lawful turns in which rounds enough begin for all that can be paid.
  abbrev pub PaidExchangesEnd : Type 1
  PaidExchangesEnd = (most_paid : ℕ) (Over : List Turn → Type 0) (Pays : ℕ → List Turn → Type 0) (Waits : ℕ → ℕ → List Turn → Type 0)
      → PaidExchanges most_paid Over Pays Waits → (before more : List Turn) → Pays 0 before → AreLawful k more (reached k start before)
      → ((ts us : List Turn) → ts ++ us ≡ more → Holds (before ++ ts)) → harmed_so_far k start (before ++ more) ≤ most
      → most_paid < 100 * rounds_in more → Over (before ++ more)
