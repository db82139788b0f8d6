-- When an application stops the connection: as the round begins that holds its tick, and at no other time.
use Rattle.std.specs.Prelude.{ℕ, ◌≡◌, ◌+◌, ◌*◌, ◌<◌, ◌≤◌, ◌↔◌, Some, None, List, [], ◌∷◌, length}
use Rattle.sides.specs.declared.side.Side.{Side}
use Rattle.control_book.specs.declared.call.ControlCall.TheVariants as control_calls
use Rattle.actor_desk.specs.declared.ask.Ask.TheVariants as asks
use Rattle.actor_desk.specs.declared.ask.Reply.{Reply}
use Rattle.stream_apps.specs.Apps.{AppState}
use Rattle.stream_apps.specs.AppSteps.{app_asks_of, app_takes, app_next_round}
use Rattle.stream_apps.specs.Starts.{first_app_turn}

-- the application took these replies, whatever they are
abbrev pub after_replies : List Reply → AppState → AppState
after_replies [] a = a
after_replies (r ∷ rs) a = after_replies rs (app_takes r a)

-- the application began a round after each list of replies
abbrev pub after_rounds : List (List Reply) → AppState → AppState
after_rounds [] a = a
after_rounds (rs ∷ rounds) a = after_rounds rounds (app_next_round (after_replies rs a))

-- a round has 100 ticks, the first one from tick 0 on
abbrev pub HoldsTick : ℕ → ℕ → Type 0
HoldsTick round tick = (100 * round ≤ tick) × (tick < 100 * round + 100)

-- a fast close is what it asks for next
abbrev pub AsksFastClose : AppState → Type 0
AsksFastClose a = app_asks_of a ≡ Some (asks.Control a.side control_calls.FastClose)

pub record StopsOnTime : Type 0 where
  -- as a round begins an application asks for a fast close, exactly where that is the round of its tick
  pub due : (s : Side) (buffer : ℕ) (file : List ℕ) (tick : ℕ) (rounds : List (List Reply))
      → AsksFastClose (after_rounds rounds (first_app_turn s buffer file (Some tick))) ↔ HoldsTick (length rounds) tick
  -- an application without a tick never begins a round with a fast close
  pub never : (s : Side) (buffer : ℕ) (file : List ℕ) (rounds : List (List Reply))
      → AsksFastClose (after_rounds rounds (first_app_turn s buffer file None)) → ⊥
