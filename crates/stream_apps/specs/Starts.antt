-- An application at the start of its first round.
use Rattle.std.specs.Prelude.{ℕ, ◌/◌, Bool, false, Option, None, Some, List, find, option_map, option_and_then}
use Rattle.sides.specs.declared.side.Side.{Side}
use Rattle.link_script.specs.declared.script.ScriptLine.{ScriptLine}
use Rattle.link_script.specs.declared.script.ScriptLine.TheVariants as line
use Rattle.link_script.specs.Places.{same_side}
use Rattle.stream_apps.specs.AppSteps.{start_of_app, app_settles_down}
use Rattle.stream_apps.specs.Apps.{AppState}

-- ---- when it stops the connection

-- a line by which this side stops the connection
abbrev pub is_fast_close : Side → ScriptLine → Bool
is_fast_close s (line.FastClose side tick) = same_side s side
is_fast_close s _ = false

-- the tick at which a line stops the connection
abbrev pub tick_of : ScriptLine → Option ℕ
tick_of (line.FastClose side tick) = Some tick
tick_of _ = None

-- the tick at which it does, by the first such line
abbrev pub fast_close_of : Side → List ScriptLine → Option ℕ
fast_close_of s lines = option_and_then tick_of (find (is_fast_close s) lines)

-- a round has 100 ticks: so many rounds end before the one that holds a tick
abbrev pub rounds_before : ℕ → ℕ
rounds_before tick = tick / 100

-- ---- before it has done anything

-- with the size of a side's buffer, the file that it writes, and the tick at which it stops the connection, where it does
abbrev pub untouched : Side → ℕ → List ℕ → Option ℕ → AppState
untouched s buffer file tick = record {
  side = s;
  buffer = buffer;
  rest = file;
  closed = false;
  told = false;
  count = 0;
  stops_in = option_map rounds_before tick;
  agenda = start_of_app;
}

-- at the first duty of its first turn that comes to something
abbrev pub first_app_turn : Side → ℕ → List ℕ → Option ℕ → AppState
first_app_turn s buffer file tick = app_settles_down (untouched s buffer file tick)
