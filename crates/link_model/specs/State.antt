-- A link by what it means: what it took from each side, and the copies under way. What a segment carries is a type of its
-- own.
use Rattle.std.specs.Prelude.{◌≡◌, ℕ, ◌≤◌, All, List, Option, Some, None}
use Rattle.sides.specs.declared.side.Side.TheVariants.{A, B}
use Rattle.link_script.specs.declared.script.Happens.TheVariants.{Late, Again}
use Rattle.link_script.specs.declared.script.ScriptLine.{ScriptLine}
use Rattle.link_script.specs.declared.script.ScriptLine.TheVariants.{OnSegment}
use Rattle.link_model.specs.declared.flight.Flight.{Flight}
use Rattle.link_model.specs.declared.passage.Rate.{Rate}
use Rattle.link_model.specs.declared.passage.Shape.{Shape}
use Rattle.link_model.specs.declared.passage.Waiting.{Waiting}
use Rattle.link_model.specs.Bounds.{IsShape}
use Rattle.link_model.specs.Passage.{shape_of}

pub record LinkState (C : Type 0) : Type 0 where
  -- the number of the path
  pub path : ℕ
  -- ticks from one end to the other
  pub delay : ℕ
  -- the lines of the script that name the path
  pub lines : List ScriptLine
  -- the seed of the words drawn
  pub seed : ℕ
  -- how many segments the link took from each side
  pub from_a : ℕ
  pub from_b : ℕ
  -- what waits before each direction
  pub waits_a : Waiting
  pub waits_b : Waiting
  -- the copies under way, in the order in which they arrive
  pub under_way : List (Flight C)

-- the ticks that a line tells of a segment
abbrev pub ticks_told : ScriptLine → ℕ
ticks_told (OnSegment segment (Late ticks)) = ticks
ticks_told (OnSegment segment (Again ticks)) = ticks
ticks_told line = 0

-- what waits before a direction has room in its queue
abbrev pub HasRoom : Option Rate → Waiting → Type 0
HasRoom None waiting = waiting.left ≡ 0
HasRoom (Some rate) waiting = waiting.left ≤ rate.queue

-- numbers that a script can say; what each direction does is what its lines say, and what waits before it has room
pub record IsLink (delay : ℕ) (lines : List ScriptLine) (a b : Shape) (waits_a waits_b : Waiting) : Type 0 where
  pub some_delay : 1 ≤ delay
  pub short_delay : delay ≤ 200
  pub short_ticks : All (λ line. ticks_told line ≤ 100000) lines
  pub by_lines_a : a ≡ shape_of A lines
  pub by_lines_b : b ≡ shape_of B lines
  pub shape_a : IsShape a
  pub shape_b : IsShape b
  pub room_a : HasRoom a.rate waits_a
  pub room_b : HasRoom b.rate waits_b
