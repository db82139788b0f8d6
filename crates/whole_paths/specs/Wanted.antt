-- What a reassembly book wants next its ends tell from their next turn on, over any number of paths: each turn asks the book before a segment goes
-- (RFC 8684, section 3.3.2).
use Rattle.std.specs.Prelude.{ℕ, ◌≤◌, ◌⊎◌, List}
use Rattle.sides.specs.declared.side.Side.{Side}
use Rattle.reassembly_book.specs.Steps.{next_wanted}
use Rattle.actor_desk.specs.declared.ask.Note.{Note}
use Rattle.actor_desk.specs.Desk.{SixBooks, reassembly_of}
use Rattle.path_core.specs.Codec.{Codec}
use Rattle.path_core.specs.State.{PathState, end_at}
use Rattle.path_core.specs.Steps.{next_round}
use Rattle.whole_paths.specs.Between.{EachPathBetween}
use Rattle.whole_paths.specs.DataAcksOwed.{KnowsWhereItSends}
use Rattle.whole_paths.specs.Offered.{AsksFirst}

module _ {C : Type 0} where
  -- the side's reassembly book wants this place next, or one past it, and its end was told so, or asks before it sends
  pub record WantsUpTo (six : SixBooks) (s : Side) (place : ℕ) (p : PathState C) : Type 0 where
    pub wanted : place ≤ next_wanted (reassembly_of s six)
    pub known : (place ≤ (end_at s p).receiving.next) ⊎ AsksFirst s p.agenda

  -- and so it is as the path becomes another one
  abbrev pub WantsOn : SixBooks → SixBooks → List Note → PathState C → PathState C → Type 0
  WantsOn six after steps p q = (s : Side) (place : ℕ) → WantsUpTo six s place p → WantsUpTo after s place q

  -- by any turn of any path, as its end sends, and as a round begins
  pub record WhatIsWantedIsTold (k : Codec C) : Type 0 where
    pub goes_on : EachPathBetween k WantsOn
    pub sends : (six : SixBooks) (s : Side) (place : ℕ) (p : PathState C) → WantsUpTo six s place p → KnowsWhereItSends s place p
    pub begins : (six : SixBooks) (s : Side) (place : ℕ) (p : PathState C) → place ≤ next_wanted (reassembly_of s six) → WantsUpTo six s place (next_round p)
