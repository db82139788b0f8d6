-- Where a line may stand, and what no second line may settle.
use Rattle.std.specs.Prelude.{ℕ, Bool, true, false, not, ◌&&◌, ◌||◌, List, Option, Some, None, nat_lt, nat_le, ◌==◌, count_by}
use Rattle.std.specs.List.{list_any}
use Rattle.sides.specs.declared.side.Side.{Side}
use Rattle.sides.specs.declared.side.Side.TheVariants.{A, B}
use Rattle.link_script.specs.declared.line.Line.{Line}
use Rattle.link_script.specs.declared.line.Line.TheVariants.{Header, Seed, Checksum, Short, Buffer, Path, Event, End}
use Rattle.link_script.specs.declared.place.Subject.{Subject}
use Rattle.link_script.specs.declared.place.Subject.TheVariants as settles
use Rattle.link_script.specs.declared.script.Direction.{Direction}
use Rattle.link_script.specs.declared.script.Happens.{Happens}
use Rattle.link_script.specs.declared.script.Happens.TheVariants.{Lost, Late, Again, Stripped, Altered}
use Rattle.link_script.specs.declared.script.Impairment.{Impairment}
use Rattle.link_script.specs.declared.script.Impairment.TheVariants.{Rate, Loss, Jitter}
use Rattle.link_script.specs.declared.script.ScriptLine.{ScriptLine}
use Rattle.link_script.specs.declared.script.ScriptLine.TheVariants.{OnSegment, OnDirection, StripAll, Die, Prio, Add, Remove, FastClose}
use Rattle.link_script.specs.declared.script.Segment.{Segment}

abbrev pub is_path : Line → Bool
is_path (Path index path) = true
is_path line = false

abbrev pub is_end : Line → Bool
is_end End = true
is_end line = false

-- the path that a line names
abbrev pub path_named : ScriptLine → Option ℕ
path_named (OnSegment segment happens) = Some segment.path
path_named (OnDirection direction impairment) = Some direction.path
path_named (StripAll path from tick) = Some path
path_named (Die path tick) = Some path
path_named (Prio path side tick on) = Some path
path_named (Add id tick) = None
path_named (Remove side id tick) = None
path_named (FastClose side tick) = None

-- there is no path, or not the one that is named
abbrev pub lacks : ℕ → Option ℕ → Bool
lacks paths (Some path) = nat_le paths path
lacks paths None = paths == 0

-- a line that can't stand after so many paths: settings stand before path 0, the paths come in their order, and all else comes
-- after the path that it speaks of
abbrev pub is_misplaced : ℕ → Line → Bool
is_misplaced paths (Header version) = true
is_misplaced paths (Seed n) = nat_lt 0 paths
is_misplaced paths (Checksum on) = nat_lt 0 paths
is_misplaced paths (Short on) = nat_lt 0 paths
is_misplaced paths (Buffer octets) = nat_lt 0 paths
is_misplaced paths (Path index path) = not (index == paths)
is_misplaced paths (Event event) = lacks paths (path_named event)
is_misplaced paths End = paths == 0

-- nothing stands after the end
abbrev pub is_out_of_order : List Line → Line → Bool
is_out_of_order seen line = list_any is_end seen || is_misplaced (count_by is_path seen) line

-- what of a segment this settles
abbrev pub settled_of : Segment → Happens → Subject
settled_of segment Lost = settles.Arrival segment
settled_of segment (Late ticks) = settles.Arrival segment
settled_of segment (Again ticks) = settles.Arrival segment
settled_of segment Stripped = settles.Options segment
settled_of segment Altered = settles.Payload segment

-- what of a direction this settles
abbrev pub settled_of_direction : Direction → Impairment → Subject
settled_of_direction direction (Rate octets queue) = settles.Rate direction
settled_of_direction direction (Loss parts) = settles.Loss direction
settled_of_direction direction (Jitter ticks) = settles.Jitter direction

-- what a line settles, so that no second line may settle it again
abbrev pub settled_by_event : ScriptLine → Option Subject
settled_by_event (OnSegment segment happens) = Some (settled_of segment happens)
settled_by_event (OnDirection direction impairment) = Some (settled_of_direction direction impairment)
settled_by_event (StripAll path from tick) = Some (settles.AllOptions path from)
settled_by_event (Die path tick) = Some (settles.Death path)
settled_by_event (FastClose side tick) = Some (settles.FastClose side)
settled_by_event (Prio path side tick on) = None
settled_by_event (Add id tick) = None
settled_by_event (Remove side id tick) = None

-- the subject that a line settles; the header, a path and the end settle nothing
abbrev pub settled_by : Line → Option Subject
settled_by (Seed n) = Some settles.Seed
settled_by (Checksum on) = Some settles.Checksum
settled_by (Short on) = Some settles.Short
settled_by (Buffer octets) = Some settles.Buffer
settled_by (Event event) = settled_by_event event
settled_by line = None

abbrev pub same_side : Side → Side → Bool
same_side A A = true
same_side B B = true
same_side a b = false

abbrev pub same_segment : Segment → Segment → Bool
same_segment a b = a.path == b.path && same_side a.from b.from && a.number == b.number

abbrev pub same_direction : Direction → Direction → Bool
same_direction a b = a.path == b.path && same_side a.from b.from

abbrev pub is_same : Subject → Subject → Bool
is_same settles.Seed settles.Seed = true
is_same settles.Checksum settles.Checksum = true
is_same settles.Short settles.Short = true
is_same settles.Buffer settles.Buffer = true
is_same (settles.Arrival a) (settles.Arrival b) = same_segment a b
is_same (settles.Options a) (settles.Options b) = same_segment a b
is_same (settles.Payload a) (settles.Payload b) = same_segment a b
is_same (settles.AllOptions p a) (settles.AllOptions q b) = p == q && same_side a b
is_same (settles.Death p) (settles.Death q) = p == q
is_same (settles.FastClose a) (settles.FastClose b) = same_side a b
is_same (settles.Rate a) (settles.Rate b) = same_direction a b
is_same (settles.Loss a) (settles.Loss b) = same_direction a b
is_same (settles.Jitter a) (settles.Jitter b) = same_direction a b
is_same a b = false

-- both lines settle something, and it is the same
abbrev pub are_same : Option Subject → Option Subject → Bool
are_same (Some a) (Some b) = is_same a b
are_same a b = false

-- two lines settle the same thing
abbrev pub settle_one : Line → Line → Bool
settle_one a b = are_same (settled_by a) (settled_by b)

-- an earlier line settles what this one does
abbrev pub is_repeated : List Line → Line → Bool
is_repeated seen line = list_any (λ earlier. settle_one earlier line) seen
