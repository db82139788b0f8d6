-- What the readers of both sides were told, as far as the outcome asks for it.
use Rattle.std.specs.Prelude.{ℕ, zero, suc, ◌≡◌, ◌||◌, Option, Some, None, List, length, take}
use Rattle.sides.specs.declared.side.Side.TheVariants.{A, B}
use Rattle.actor_desk.specs.declared.ask.Note.{Note}
use Rattle.actor_desk.specs.declared.ask.Reply.{Reply}
use Rattle.world_laws.specs.Actors.{ActorCrew}
use Rattle.world_laws.specs.Fine.{lists_of}
use Rattle.world_laws.specs.Outcomes.{tells_end, tells_abort, was_told, notes_of, are_all_dead}
use Rattle.world_core.specs.declared.hearing.Told.{Told}
use Rattle.world_core.specs.declared.hearing.Heard.{Heard}
use Rattle.world_core.specs.declared.hearing.Hearing.{Hearing}

-- what these steps tell
abbrev pub told_by : List Note → Told
told_by notes = record { end = was_told tells_end notes; abort = was_told tells_abort notes }

-- what one reply tells
abbrev pub told_of : Reply → Told
told_of reply = record { end = tells_end reply; abort = tells_abort reply }

-- what was told before, or by more
abbrev pub with_told : Told → Told → Told
with_told more told = record { end = told.end || more.end; abort = told.abort || more.abort }

abbrev pub told_more : Reply → Told → Told
told_more reply told = with_told (told_of reply) told

-- the readers are the actors 0 and 1
abbrev pub heard_told : ℕ → Told → Hearing → Hearing
heard_told zero told h = record h { a = with_told told h.a }
heard_told (suc zero) told h = record h { b = with_told told h.b }
heard_told (suc (suc other)) told h = h

abbrev pub heard_more : ℕ → Reply → Hearing → Hearing
heard_more actor reply h = heard_told actor (told_of reply) h

-- by the step that was made, if one was
abbrev pub heard_with : Option Note → ℕ → Hearing → Hearing
heard_with None actor h = h
heard_with (Some note) actor h = heard_more actor note.reply h

module _ {C : Type 0} where
  -- by all steps of both readers
  abbrev pub heard_by : List (ActorCrew C) → Hearing
  heard_by crew = record { a = told_by (notes_of A crew); b = told_by (notes_of B crew) }

  -- by so many steps of A's reader, its first ones, and so many of B's
  abbrev pub heard_first : ℕ → ℕ → List (ActorCrew C) → Hearing
  heard_first a b crew = record { a = told_by (take a (notes_of A crew)); b = told_by (take b (notes_of B crew)) }

  -- the first steps of these actors' readers, so many of each, told them that
  abbrev pub WasHeard : Heard → List (ActorCrew C) → Type 0
  WasHeard heard crew = heard.told ≡ heard_first heard.steps_a heard.steps_b crew

  -- the outcome is the same, what the readers were told, and every list of steps
  pub record ShowsTheSame (before after : List (ActorCrew C)) : Type 0 where
    pub lists : lists_of after ≡ lists_of before
    pub a : notes_of A after ≡ notes_of A before
    pub b : notes_of B after ≡ notes_of B before
    pub dead : are_all_dead after ≡ are_all_dead before
    pub many : length after ≡ length before
