-- One line of a script by its words. What is wrong with the words comes before what is wrong with a number.
use Rattle.std.specs.Prelude.{ℕ, Bool, true, false, not, List, [], ◌∷◌, Result, Ok, Err, is_ok, if◌then◌else◌, codes}
use Rattle.link_script.specs.declared.fault.ScriptKind.{ScriptKind}
use Rattle.link_script.specs.declared.fault.ScriptKind.TheVariants.{Word}
use Rattle.link_script.specs.Ranges.{seeds, buffers, path_numbers, first_path_number, segment_sizes, delays, segment_numbers, latenesses, rates, queues, loss_parts, jitters, run_ticks, address_ids}
use Rattle.link_script.specs.declared.line.Line.{Line}
use Rattle.link_script.specs.declared.line.Line.TheVariants as line
use Rattle.link_script.specs.declared.script.ScriptLine.TheVariants.{OnSegment, OnDirection, StripAll, Die, Prio, Add, Remove, FastClose}
use Rattle.link_script.specs.declared.script.Direction.{Direction}
use Rattle.link_script.specs.declared.script.Happens.{Happens}
use Rattle.link_script.specs.declared.script.Happens.TheVariants.{Lost, Late, Again, Stripped, Altered}
use Rattle.link_script.specs.declared.script.Impairment.TheVariants.{Rate, Loss, Jitter}
use Rattle.link_script.specs.declared.script.Segment.{Segment}
use Rattle.sides.specs.declared.side.Side.{Side}
use Rattle.link_script.specs.declared.version.Version.{Version}
use Rattle.link_script.specs.declared.word.Keyword.{Keyword}
use Rattle.link_script.specs.declared.word.Keyword.TheVariants as first
use Rattle.link_script.specs.Numbers.{within}
use Rattle.link_script.specs.Steps.{◌>>=◌}
use Rattle.link_script.specs.Versions.{is_known}
use Rattle.link_script.specs.Words.{fixed, keyword, direction, side, switch}

-- seed N
unfoldable pub seed_line : List (List ℕ) → Result Line ScriptKind
seed_line (seed ∷ []) = do
  n ← within seeds seed
  Ok (line.Seed n)
seed_line words = Err Word

-- checksum on | off
unfoldable pub checksum_line : List (List ℕ) → Result Line ScriptKind
checksum_line (word ∷ []) = do
  on ← switch word
  Ok (line.Checksum on)
checksum_line words = Err Word

-- short on | off
unfoldable pub short_line : List (List ℕ) → Result Line ScriptKind
short_line (word ∷ []) = do
  on ← switch word
  Ok (line.Short on)
short_line words = Err Word

-- buffer N
unfoldable pub buffer_line : List (List ℕ) → Result Line ScriptKind
buffer_line (octets ∷ []) = do
  n ← within buffers octets
  Ok (line.Buffer n)
buffer_line words = Err Word

-- [join TICK] [backup], as the word of the tick, and whether the path is a backup
unfoldable pub path_options : List (List ℕ) → Result (List ℕ × Bool) ScriptKind
path_options [] = Ok (codes "0", false)
path_options (a ∷ []) = do
  _ ← fixed (codes "backup") a
  Ok (codes "0", true)
path_options (a ∷ tick ∷ []) = do
  _ ← fixed (codes "join") a
  Ok (tick, false)
path_options (a ∷ tick ∷ b ∷ []) = do
  _ ← fixed (codes "join") a
  _ ← fixed (codes "backup") b
  Ok (tick, true)
path_options words = Err Word

-- path 0 has no options
abbrev pub may_have : List ℕ → List (List ℕ) → Bool
may_have path [] = true
may_have path (option ∷ options) = not (is_ok (within first_path_number path))

-- the numbers of a path
unfoldable pub path_of : List ℕ → List ℕ → List ℕ → List ℕ → Bool → Result Line ScriptKind
path_of path mss delay join backup = do
  index ← within path_numbers path
  octets ← within segment_sizes mss
  ticks ← within delays delay
  tick ← within run_ticks join
  Ok (line.Path index (record { mss = octets; delay = ticks; join = tick; backup = backup }))

-- path I mss N delay N, and the options
unfoldable pub path_line : List (List ℕ) → Result Line ScriptKind
path_line (path ∷ a ∷ mss ∷ b ∷ delay ∷ options) = do
  _ ← fixed (codes "mss") a
  _ ← fixed (codes "delay") b
  option ← path_options options
  if may_have path options then path_of path mss delay option.0 option.1 else Err Word
path_line words = Err Word

-- I N of a segment from this side
unfoldable pub segment : List ℕ → Side → List ℕ → Result Segment ScriptKind
segment path from number = do
  index ← within path_numbers path
  n ← within segment_numbers number
  Ok (record { path = index; from = from; number = n })

-- the word of the ticks, which are told where a segment comes late or again; else they are 0
unfoldable pub ticks_word : Happens → List (List ℕ) → Result (List ℕ) ScriptKind
ticks_word (Late _) (ticks ∷ []) = Ok ticks
ticks_word (Again _) (ticks ∷ []) = Ok ticks
ticks_word Lost [] = Ok (codes "0")
ticks_word Stripped [] = Ok (codes "0")
ticks_word Altered [] = Ok (codes "0")
ticks_word happens words = Err Word

-- late by so many ticks, or again after so many
abbrev pub with_ticks : ℕ → Happens → Happens
with_ticks ticks (Late _) = Late ticks
with_ticks ticks (Again _) = Again ticks
with_ticks ticks Lost = Lost
with_ticks ticks Stripped = Stripped
with_ticks ticks Altered = Altered

-- I DIR N of a segment to which this happens, and TICKS in the place of its own where it comes late or again
unfoldable pub on_segment_line : Happens → List (List ℕ) → Result Line ScriptKind
on_segment_line happens (path ∷ from ∷ number ∷ more) = do
  side ← direction from
  ticks ← ticks_word happens more
  s ← segment path side number
  t ← within latenesses ticks
  Ok (line.Event (OnSegment s (with_ticks t happens)))
on_segment_line happens words = Err Word

-- I DIR
unfoldable pub direction_of : List ℕ → List ℕ → Result Direction ScriptKind
direction_of path from = do
  side ← direction from
  index ← within path_numbers path
  Ok (record { path = index; from = side })

-- rate I DIR N QUEUE
unfoldable pub rate_line : List (List ℕ) → Result Line ScriptKind
rate_line (path ∷ from ∷ octets ∷ queue ∷ []) = do
  d ← direction_of path from
  n ← within rates octets
  q ← within queues queue
  Ok (line.Event (OnDirection d (Rate n q)))
rate_line words = Err Word

-- loss I DIR PARTS
unfoldable pub loss_line : List (List ℕ) → Result Line ScriptKind
loss_line (path ∷ from ∷ parts ∷ []) = do
  d ← direction_of path from
  n ← within loss_parts parts
  Ok (line.Event (OnDirection d (Loss n)))
loss_line words = Err Word

-- jitter I DIR TICKS
unfoldable pub jitter_line : List (List ℕ) → Result Line ScriptKind
jitter_line (path ∷ from ∷ ticks ∷ []) = do
  d ← direction_of path from
  t ← within jitters ticks
  Ok (line.Event (OnDirection d (Jitter t)))
jitter_line words = Err Word

-- strip-all I DIR TICK
unfoldable pub strip_all_line : List (List ℕ) → Result Line ScriptKind
strip_all_line (path ∷ from ∷ tick ∷ []) = do
  d ← direction from
  index ← within path_numbers path
  t ← within run_ticks tick
  Ok (line.Event (StripAll index d t))
strip_all_line words = Err Word

-- die I TICK
unfoldable pub die_line : List (List ℕ) → Result Line ScriptKind
die_line (path ∷ tick ∷ []) = do
  index ← within path_numbers path
  t ← within run_ticks tick
  Ok (line.Event (Die index t))
die_line words = Err Word

-- prio I SIDE TICK on | off
unfoldable pub prio_line : List (List ℕ) → Result Line ScriptKind
prio_line (path ∷ which ∷ tick ∷ word ∷ []) = do
  s ← side which
  on ← switch word
  index ← within path_numbers path
  t ← within run_ticks tick
  Ok (line.Event (Prio index s t on))
prio_line words = Err Word

-- add b ID TICK
unfoldable pub add_line : List (List ℕ) → Result Line ScriptKind
add_line (which ∷ id ∷ tick ∷ []) = do
  _ ← fixed (codes "b") which
  n ← within address_ids id
  t ← within run_ticks tick
  Ok (line.Event (Add n t))
add_line words = Err Word

-- remove SIDE ID TICK
unfoldable pub remove_line : List (List ℕ) → Result Line ScriptKind
remove_line (which ∷ id ∷ tick ∷ []) = do
  s ← side which
  n ← within address_ids id
  t ← within run_ticks tick
  Ok (line.Event (Remove s n t))
remove_line words = Err Word

-- fastclose SIDE TICK
unfoldable pub fast_close_line : List (List ℕ) → Result Line ScriptKind
fast_close_line (which ∷ tick ∷ []) = do
  s ← side which
  t ← within run_ticks tick
  Ok (line.Event (FastClose s t))
fast_close_line words = Err Word

-- end
unfoldable pub end_line : List (List ℕ) → Result Line ScriptKind
end_line [] = Ok line.End
end_line words = Err Word

-- the words after the first
abbrev pub line_after : Keyword → List (List ℕ) → Result Line ScriptKind
line_after first.Seed words = seed_line words
line_after first.Checksum words = checksum_line words
line_after first.Short words = short_line words
line_after first.Buffer words = buffer_line words
line_after first.Path words = path_line words
line_after first.Drop words = on_segment_line Lost words
line_after first.Strip words = on_segment_line Stripped words
line_after first.Alter words = on_segment_line Altered words
line_after first.Dup words = on_segment_line (Again 0) words
line_after first.Late words = on_segment_line (Late 0) words
line_after first.StripAll words = strip_all_line words
line_after first.Die words = die_line words
line_after first.Prio words = prio_line words
line_after first.Add words = add_line words
line_after first.Remove words = remove_line words
line_after first.FastClose words = fast_close_line words
line_after first.Rate words = rate_line words
line_after first.Loss words = loss_line words
line_after first.Jitter words = jitter_line words
line_after first.End words = end_line words

-- any line but the first of a script of this version
unfoldable pub line_of : Version → List (List ℕ) → Result Line ScriptKind
line_of version [] = Err Word
line_of version (word ∷ words) = keyword word >>= λ which. if is_known version which then line_after which words else Err Word
