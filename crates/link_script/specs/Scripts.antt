-- What every script keeps to, whatever its text is.
use Rattle.std.specs.Prelude.{◌≡◌, ℕ, ◌+◌, ◌<◌, ◌≤◌, false, List, [], ◌∷◌, length, Ok, All}
use Rattle.std.specs.List.{AllPairs}
use Rattle.link_script.specs.declared.limits.Limits.{Limits}
use Rattle.link_script.specs.Ranges.{most_lines, seeds, buffers, path_numbers, segment_sizes, delays, segment_numbers, latenesses, rates, queues, loss_parts, jitters, run_ticks, address_ids}
use Rattle.link_script.specs.declared.line.Line.TheVariants.{Event}
use Rattle.link_script.specs.declared.script.PathLine.{PathLine}
use Rattle.link_script.specs.declared.script.Script.{Script}
use Rattle.link_script.specs.declared.script.Happens.{Happens}
use Rattle.link_script.specs.declared.script.Happens.TheVariants.{Lost, Late, Again, Stripped, Altered}
use Rattle.link_script.specs.declared.script.Impairment.{Impairment}
use Rattle.link_script.specs.declared.script.Impairment.TheVariants.{Rate, Loss, Jitter}
use Rattle.link_script.specs.declared.script.ScriptLine.{ScriptLine}
use Rattle.link_script.specs.declared.script.ScriptLine.TheVariants.{OnSegment, OnDirection, StripAll, Die, Prio, Add, Remove, FastClose}
use Rattle.link_script.specs.Places.{settle_one}
use Rattle.link_script.specs.Reading.{reading}
use Rattle.link_script.specs.Writing.{lines_of}

-- some text says it
abbrev pub IsScript : Script → Type 0
IsScript script = (text : List ℕ) × (reading text ≡ Ok script)

pub record IsInRange (limits : Limits) (n : ℕ) : Type 0 where
  pub least : limits.least ≤ n
  pub most : n ≤ limits.most

-- each number of a path is within its limits
pub record IsPath (path : PathLine) : Type 0 where
  pub mss : IsInRange segment_sizes path.mss
  pub delay : IsInRange delays path.delay
  pub join : IsInRange run_ticks path.join

-- the path that opens the connection joins nothing, and is no backup
abbrev pub OpensPlainly : List PathLine → Type 0
OpensPlainly [] = Unit {0}
OpensPlainly (path ∷ paths) = (path.join ≡ 0) × (path.backup ≡ false)

-- the ticks by which a segment is late, or comes again, are in range
abbrev pub IsHappening : Happens → Type 0
IsHappening (Late ticks) = IsInRange latenesses ticks
IsHappening (Again ticks) = IsInRange latenesses ticks
IsHappening Lost = Unit {0}
IsHappening Stripped = Unit {0}
IsHappening Altered = Unit {0}

-- the numbers of what a direction does to its segments are in range
abbrev pub IsImpairment : Impairment → Type 0
IsImpairment (Rate octets queue) = IsInRange rates octets × IsInRange queues queue
IsImpairment (Loss parts) = IsInRange loss_parts parts
IsImpairment (Jitter ticks) = IsInRange jitters ticks

-- a line of what happens: its numbers are in range, and a path that it names is one of so many
abbrev pub IsEvent : ℕ → ScriptLine → Type 0
IsEvent paths (OnSegment segment happens) = (segment.path < paths) × IsInRange segment_numbers segment.number × IsHappening happens
IsEvent paths (OnDirection direction impairment) = (direction.path < paths) × IsImpairment impairment
IsEvent paths (StripAll path from tick) = (path < paths) × IsInRange run_ticks tick
IsEvent paths (Die path tick) = (path < paths) × IsInRange run_ticks tick
IsEvent paths (Prio path side tick on) = (path < paths) × IsInRange run_ticks tick
IsEvent paths (Add id tick) = IsInRange address_ids id × IsInRange run_ticks tick
IsEvent paths (Remove side id tick) = IsInRange address_ids id × IsInRange run_ticks tick
IsEvent paths (FastClose side tick) = IsInRange run_ticks tick

-- no two lines settle one thing
abbrev pub SettleApart : ScriptLine → ScriptLine → Type 0
SettleApart a b = settle_one (Event a) (Event b) ≡ false

-- the limits of a script: its numbers, 1 to 16 paths, no two lines that settle one thing, and how many lines its own text has
pub record HasRanges (script : Script) : Type 0 where
  pub seed : IsInRange seeds script.seed
  pub buffer : IsInRange buffers script.buffer
  pub some_path : 0 < length script.paths
  pub few_paths : length script.paths ≤ path_numbers.most + 1
  pub paths : All IsPath script.paths
  pub first_path : OpensPlainly script.paths
  pub lines : All (IsEvent (length script.paths)) script.lines
  pub apart : AllPairs SettleApart script.lines
  pub few_lines : length (lines_of script) ≤ most_lines
