-- A connection as it goes on by turns, round by round, where any number is counted that never falls, and any harms.
use Rattle.std.specs.Prelude.{ℕ, suc, ◌+◌, ◌*◌, ◌≡◌, ◌<◌, ◌≤◌, ◌⊎◌, true, List, [], ◌∷◌, ◌++◌}
use Rattle.path_core.specs.Codec.{Codec}
use Rattle.path_core.specs.Values.{values}
use Rattle.world_laws.specs.Openings.{Start, opened_world}
use Rattle.world_laws.specs.Promises.{IsPlain, NumbersFit}
use Rattle.world_laws.specs.RoundDone.{reached}
use Rattle.world_laws.specs.Worlds.{Turn, AreLawful, all_over}
use Rattle.whole_paths.specs.Courses.{round_end}
use Rattle.whole_paths.specs.Finish.{harmed, rounds_in}
use Rattle.whole_paths.specs.ReturnWaits.{all_news, most_of_all}
use Rattle.whole_paths.specs.Rounds.{System, ticks_for}

-- Holds is what is known of each moment of it.
module _ {C : Type 0} (k : Codec C) (start : Start) (harms count : List Turn → ℕ) (Holds : List Turn → Type 0) (most : ℕ) where
  -- after these turns an actor makes a step, and no more than so much was harmed
  pub record StepsOn (turns later : List Turn) : Type 0 where
    pub actor : ℕ
    pub is : later ≡ turns ++ Turn.Step actor ∷ []
    pub few : harms later ≤ most
    pub before : Holds turns
    pub after : Holds later

  -- each turn is over, and the next round begins
  pub record RoundsOn (turns later : List Turn) : Type 0 where
    pub over : all_over (reached k start turns).crew ≡ true
    pub is : later ≡ turns ++ Turn.Round ∷ []
    pub few : harms later ≤ most
    pub before : Holds turns
    pub after : Holds later

  -- its states are the turns so far
  abbrev pub counted_course : (List Turn → Type 0) → (ℕ → ℕ → List Turn → Type 0) → System
  counted_course Over Waits = record {
    State = List Turn;
    Steps = StepsOn;
    Opens = RoundsOn;
    Sound = λ turns. harms turns ≤ most;
    until = round_end k start;
    news = count;
    Over = Over;
    Waits = Waits;
  }

  -- What is left to be shown: what is over stays so; a wait goes on, unless something is counted; no round begins past a wait, unless something is
  -- counted; and as a round begins something is waited for.
  pub record WaitsByCount (within : ℕ) (Over : List Turn → Type 0) (Waits : ℕ → ℕ → List Turn → Type 0) : Type 0 where
    pub over_on : (v u : List Turn) → StepsOn v u → Over v → Over u
    pub over_next : (v u : List Turn) → RoundsOn v u → Over v → Over u
    pub waits_on : (n x : ℕ) (v u : List Turn) → StepsOn v u → n ≤ count v → Waits n x v → (n < count u) ⊎ Waits n x u
    pub waits_next : (n x : ℕ) (v u : List Turn) → RoundsOn v u → n ≤ count v → Waits n x v → (n < count u) ⊎ Waits n x u
    pub due : (n x : ℕ) (v u : List Turn) → RoundsOn v u → n ≤ count v → Waits n x v → x < round_end k start v → n < count u
    pub begins : (v u : List Turn) → RoundsOn v u → Over u ⊎ Waits (count u) (round_end k start v + within) u

-- it never falls
abbrev pub NeverFalls : (List Turn → ℕ) → Type 0
NeverFalls count = (turns more : List Turn) → count turns ≤ count (turns ++ more)

-- Where waits go on so, it is over after lawful turns in which rounds enough begin for all that can be counted.
abbrev pub CountedCoursesEnd : {C : Type 0} → Codec C → Type 1
CountedCoursesEnd k = (start : Start) (harms count : List Turn → ℕ) (Holds : List Turn → Type 0) (most within bound : ℕ) (Over : List Turn → Type 0) (Waits : ℕ → ℕ → List Turn → Type 0)
    → WaitsByCount k start harms count Holds most within Over Waits → NeverFalls harms → NeverFalls count
    → ((turns : List Turn) → harms turns ≤ most → count turns ≤ bound)
    → (before more : List Turn) → AreLawful k more (reached k start before) → ((ts us : List Turn) → ts ++ us ≡ more → Holds (before ++ ts))
    → harms (before ++ more) ≤ most → ticks_for within (suc bound) < 100 * rounds_in more → Over (before ++ more)

-- ---- over any number of paths

-- how many segments of the path of this number were harmed by these turns
abbrev pub harms_at : Start → ℕ → List Turn → ℕ
harms_at start number turns = harmed values number turns (opened_world start)

-- these, and how far the connection is
abbrev pub counted_with : Start → ℕ → List Turn → ℕ
counted_with start number turns = all_news start (reached values start turns) + harms_at start number turns

-- both never fall, and as much is counted at most as there can be of all news, and was harmed
pub record CountsOfPaths (start : Start) (number : ℕ) : Type 0 where
  pub harms : NeverFalls (harms_at start number)
  pub counts : NeverFalls (counted_with start number)
  pub few : (most : ℕ) (turns : List Turn) → harms_at start number turns ≤ most → counted_with start number turns ≤ most_of_all start + most

abbrev pub PathsAreCounted : Type 0
PathsAreCounted = (start : Start) (number : ℕ) → IsPlain start → NumbersFit start → CountsOfPaths start number
