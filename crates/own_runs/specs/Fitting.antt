-- Which runs fit a capture.
use Rattle.std.specs.Prelude.{◌<◌, ◌≤◌, ◌^◌, List, length, All}
use Rattle.link_script.specs.declared.script.Happens.TheVariants.{Late, Again}
use Rattle.link_script.specs.declared.script.Impairment.TheVariants.{Rate, Jitter}
use Rattle.link_script.specs.declared.script.ScriptLine.{ScriptLine}
use Rattle.link_script.specs.declared.script.ScriptLine.TheVariants.{OnSegment, OnDirection}
use Rattle.stream_lanes.specs.Words.{Every}
use Rattle.run_trace.specs.Trace.{trace_of}
use Rattle.world_laws.specs.Openings.{Start, opened_world}
use Rattle.world_laws.specs.Promises.{HasRoom, NumbersFit}
use Rattle.world_laws.specs.Worlds.{Turn}
use Rattle.own_runs.specs.Traces.{FitsCapture}

-- the ticks of a line, and the octets of its queue, have 64 bits
abbrev pub LineIsShort : ScriptLine → Type 0
LineIsShort (OnSegment segment (Late ticks)) = ticks < 2 ^ 64
LineIsShort (OnSegment segment (Again ticks)) = ticks < 2 ^ 64
LineIsShort (OnDirection direction (Rate octets queue)) = queue < 2 ^ 64
LineIsShort (OnDirection direction (Jitter ticks)) = ticks < 2 ^ 64
LineIsShort line = Unit {0}

-- A run fits a capture: a full segment with its header has 65,515 octets at most with 28 octets of options, which is so up to a maximum
-- segment size of 65,495; the numbers of the lines have 64 bits, which is so by each script; and with so many turns no tick has more.
pub record RunFits (start : Start) (turns : List Turn) : Type 0 where
  pub size : Every (λ plan. plan.mss ≤ 65495) start.paths
  pub lines : Every LineIsShort start.lines
  pub few : length turns < 2 ^ 57

-- Each segment of a run that fits a capture fits it.
abbrev pub TracesFit : Type 0
TracesFit = (start : Start) (turns : List Turn) → HasRoom start → NumbersFit start → RunFits start turns → All FitsCapture (trace_of turns (opened_world start))
