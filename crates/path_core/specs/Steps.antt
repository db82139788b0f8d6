-- The steps of a path: what it asks, what it takes, and how a round begins.
use Rattle.std.specs.Prelude.{◌+◌, if◌then◌else◌, Option, Some, None, List, [], ◌∷◌}
use Rattle.actor_desk.specs.declared.ask.Ask.{Ask}
use Rattle.actor_desk.specs.declared.ask.Reply.{Reply}
use Rattle.path_agenda.specs.declared.duty.Duty.{Duty}
use Rattle.path_agenda.specs.Agenda.{start_of_turn}
use Rattle.path_core.specs.Codec.{Codec}
use Rattle.path_core.specs.Duties.{stands, ask_for, passed, answered}
use Rattle.path_core.specs.State.{PathState, with_agenda}

-- the duties that come to nothing are passed, up to the first that comes to something
abbrev pub settled : {C : Type 0} → List Duty → PathState C → PathState C
settled [] p = with_agenda [] p
settled (d ∷ ds) p = if stands d p then with_agenda (d ∷ ds) p else settled ds (passed d p)

-- the first duty, where it comes to nothing
abbrev pub passable_of : {C : Type 0} → List Duty → PathState C → Option Duty
passable_of [] p = None
passable_of (d ∷ ds) p = if stands d p then None else Some d

abbrev pub passable : {C : Type 0} → PathState C → Option Duty
passable p = passable_of p.agenda p

abbrev pub settles_down : {C : Type 0} → PathState C → PathState C
settles_down p = settled p.agenda p

abbrev pub asks_first : {C : Type 0} → Codec C → List Duty → PathState C → Option Ask
asks_first k [] p = None
asks_first k (d ∷ ds) p = Some (ask_for k d p)

-- what the path asks: nothing where its turn ended
abbrev pub asks_of : {C : Type 0} → Codec C → PathState C → Option Ask
asks_of k p = asks_first k p.agenda p

abbrev pub answers : {C : Type 0} → Codec C → List Duty → Reply → PathState C → PathState C
answers k [] r p = p
answers k (d ∷ ds) r p = answered k d r p

-- the reply answers the first duty
abbrev pub takes : {C : Type 0} → Codec C → Reply → PathState C → PathState C
takes k r p = settles_down (answers k p.agenda r p)

-- the duties of a whole turn are laid out, and settled
abbrev pub begins_turn : {C : Type 0} → PathState C → PathState C
begins_turn p = settles_down (with_agenda start_of_turn p)

-- the next 100 ticks
abbrev pub next_round : {C : Type 0} → PathState C → PathState C
next_round p = begins_turn (record p { clock = p.until; until = p.until + 100 })
