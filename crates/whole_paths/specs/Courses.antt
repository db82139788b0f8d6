-- A connection as it goes on by turns, round by round, from any moment on: its news, and the segments of path 0 that are harmed, are counted.
use Rattle.std.specs.Prelude.{ℕ, suc, ◌+◌, ◌*◌, ◌≡◌, ◌<◌, ◌≤◌, ◌⊎◌, true, List, [], ◌∷◌, ◌++◌}
use Rattle.path_core.specs.Codec.{Codec}
use Rattle.world_laws.specs.Openings.{Start, opened_world}
use Rattle.world_laws.specs.RoundDone.{reached, round_of}
use Rattle.world_laws.specs.Worlds.{Turn, AreLawful, all_over}
use Rattle.whole_paths.specs.Finish.{harmed, rounds_in}
use Rattle.whole_paths.specs.News.{most_news, news}
use Rattle.whole_paths.specs.Rounds.{System, ticks_for}

module _ {C : Type 0} (k : Codec C) (start : Start) where
  -- how many segments of the path of this number were harmed by these turns
  abbrev pub harmed_at : ℕ → List Turn → ℕ
  harmed_at number turns = harmed k number turns (opened_world start)

  -- what was counted: how far the connection is, and these segments
  abbrev pub counted_at : ℕ → List Turn → ℕ
  counted_at number turns = news start (reached k start turns) + harmed_at number turns

  -- of path 0
  abbrev pub harmed_so_far : List Turn → ℕ
  harmed_so_far turns = harmed_at 0 turns

  abbrev pub counted : List Turn → ℕ
  counted turns = counted_at 0 turns

  -- the tick at which the round ends that goes on
  abbrev pub round_end : List Turn → ℕ
  round_end turns = 100 * ((round_of k start turns).number + 1)

  -- Holds is what is known of each moment of it
  module _ (number : ℕ) (Holds : List Turn → Type 0) (most : ℕ) where
    -- after these turns an actor makes a step, and no more than so many segments of the path were harmed
    pub record TakesAStepAt (turns later : List Turn) : Type 0 where
      pub actor : ℕ
      pub is : later ≡ turns ++ Turn.Step actor ∷ []
      pub few : harmed_at number later ≤ most
      pub before : Holds turns
      pub after : Holds later

    -- each turn is over, and the next round begins
    pub record BeginsARoundAt (turns later : List Turn) : Type 0 where
      pub over : all_over (reached k start turns).crew ≡ true
      pub is : later ≡ turns ++ Turn.Round ∷ []
      pub few : harmed_at number later ≤ most
      pub before : Holds turns
      pub after : Holds later

  -- where segments of path 0 are counted
  module _ (Holds : List Turn → Type 0) (most : ℕ) where
    abbrev pub TakesAStep : List Turn → List Turn → Type 0
    TakesAStep = TakesAStepAt 0 Holds most

    abbrev pub BeginsARound : List Turn → List Turn → Type 0
    BeginsARound = BeginsARoundAt 0 Holds most

    -- its states are the turns so far
    abbrev pub course_of : (List Turn → Type 0) → (ℕ → ℕ → List Turn → Type 0) → System
    course_of Over Waits = record {
      State = List Turn;
      Steps = TakesAStep;
      Opens = BeginsARound;
      Sound = λ turns. harmed_so_far turns ≤ most;
      until = round_end;
      news = counted;
      Over = Over;
      Waits = Waits;
    }

    -- What is left to be shown of an exchange: what is over stays so; a wait goes on, unless something is counted; no round begins past a
    -- wait, unless something is counted; and as a round begins something is waited for.
    pub record Exchanges (within : ℕ) (Over : List Turn → Type 0) (Waits : ℕ → ℕ → List Turn → Type 0) : Type 0 where
      pub over_on : (v u : List Turn) → TakesAStep v u → Over v → Over u
      pub over_next : (v u : List Turn) → BeginsARound v u → Over v → Over u
      pub waits_on : (n x : ℕ) (v u : List Turn) → TakesAStep v u → n ≤ counted v → Waits n x v → (n < counted u) ⊎ Waits n x u
      pub waits_next : (n x : ℕ) (v u : List Turn) → BeginsARound v u → n ≤ counted v → Waits n x v → (n < counted u) ⊎ Waits n x u
      pub due : (n x : ℕ) (v u : List Turn) → BeginsARound v u → n ≤ counted v → Waits n x v → x < round_end v → n < counted u
      pub begins : (v u : List Turn) → BeginsARound v u → Over u ⊎ Waits (counted u) (round_end v + within) u

  -- Where exchanges go on, it is over after lawful turns in which rounds enough begin for all news there can be and for each segment that is
  -- harmed.
  abbrev pub ExchangesEnd : Type 1
  ExchangesEnd = (Holds : List Turn → Type 0) (most within : ℕ) (Over : List Turn → Type 0) (Waits : ℕ → ℕ → List Turn → Type 0)
      → Exchanges Holds most within Over Waits
      → ((turns : List Turn) → news start (reached k start turns) ≤ most_news start)
      → (before more : List Turn) → AreLawful k more (reached k start before) → ((ts us : List Turn) → ts ++ us ≡ more → Holds (before ++ ts))
      → harmed_so_far (before ++ more) ≤ most → ticks_for within (suc (most_news start + most)) < 100 * rounds_in more → Over (before ++ more)
