-- The one text of a script: its lines, of which those that say a default are left out.
use Rattle.std.specs.Prelude.{ℕ, suc, Bool, true, List, [], ◌∷◌, ◌++◌, map, ◌==◌, if◌then◌else◌, codes}
use Rattle.std.specs.Fmt.{decimal}
use Rattle.std.specs.List.{flat_map, join_with_byte}
use Rattle.sides.specs.Side.{side_word}
use Rattle.link_script.specs.Ranges.{default_seed, default_buffer}
use Rattle.link_script.specs.declared.line.Line.{Line}
use Rattle.link_script.specs.declared.line.Line.TheVariants.{Header, Seed, Checksum, Short, Buffer, Path, Event, End}
use Rattle.link_script.specs.declared.script.PathLine.{PathLine}
use Rattle.link_script.specs.declared.script.Script.{Script}
use Rattle.link_script.specs.declared.script.Happens.{Happens}
use Rattle.link_script.specs.declared.script.Happens.TheVariants.{Lost, Late, Again, Stripped, Altered}
use Rattle.link_script.specs.declared.script.Direction.{Direction}
use Rattle.link_script.specs.declared.script.Impairment.{Impairment}
use Rattle.link_script.specs.declared.script.Impairment.TheVariants.{Rate, Loss, Jitter}
use Rattle.link_script.specs.declared.script.ScriptLine.{ScriptLine}
use Rattle.link_script.specs.declared.script.ScriptLine.TheVariants.{OnSegment, OnDirection, StripAll, Die, Prio, Add, Remove, FastClose}
use Rattle.link_script.specs.declared.script.Segment.{Segment}
use Rattle.link_script.specs.declared.version.Version.{Version}
use Rattle.link_script.specs.declared.version.Version.TheVariants.{First, Second}
use Rattle.link_script.specs.declared.writing.Word.{Word}
use Rattle.link_script.specs.declared.writing.Word.TheVariants.{Text, Number}
use Rattle.link_script.specs.Versions.{version_of}
use Rattle.link_script.specs.Words.{direction_word, switch_word}

-- words with a space between each two
abbrev pub spaced : List (List ℕ) → List ℕ
spaced words = join_with_byte 32 words

-- the octets of a word
abbrev pub shown : Word → List ℕ
shown (Text word) = word.now
shown (Number n) = decimal n

-- words, each behind a space
abbrev pub behind : List Word → List ℕ
behind words = flat_map (λ word. 32 ∷ shown word) words

-- `join TICK`, left out for tick 0
abbrev pub join_words : ℕ → List (List ℕ)
join_words tick = if tick == 0 then [] else codes "join" ∷ decimal tick ∷ []

-- `backup`, where the path is one
abbrev pub backup_words : Bool → List (List ℕ)
backup_words backup = if backup then codes "backup" ∷ [] else []

-- what stands after the number of a path
abbrev pub path_words : PathLine → List (List ℕ)
path_words path = codes "mss" ∷ decimal path.mss ∷ codes "delay" ∷ decimal path.delay ∷ (join_words path.join ++ backup_words path.backup)

-- I DIR N
abbrev pub segment_words : Segment → List (List ℕ)
segment_words s = decimal s.path ∷ direction_word s.from ∷ decimal s.number ∷ []

-- what happens to the segment of these words, its keyword first
abbrev pub happens_words : Happens → List (List ℕ) → List (List ℕ)
happens_words Lost segment = codes "drop" ∷ segment
happens_words (Late ticks) segment = codes "late" ∷ (segment ++ decimal ticks ∷ [])
happens_words (Again ticks) segment = codes "dup" ∷ (segment ++ decimal ticks ∷ [])
happens_words Stripped segment = codes "strip" ∷ segment
happens_words Altered segment = codes "alter" ∷ segment

-- I DIR
abbrev pub direction_words : Direction → List (List ℕ) → List (List ℕ)
direction_words d more = decimal d.path ∷ direction_word d.from ∷ more

-- what a direction does to its segments, the keyword first
abbrev pub impairment_words : Direction → Impairment → List (List ℕ)
impairment_words d (Rate octets queue) = codes "rate" ∷ direction_words d (decimal octets ∷ decimal queue ∷ [])
impairment_words d (Loss parts) = codes "loss" ∷ direction_words d (decimal parts ∷ [])
impairment_words d (Jitter ticks) = codes "jitter" ∷ direction_words d (decimal ticks ∷ [])

-- a line of what happens, its keyword first
abbrev pub event_words : ScriptLine → List (List ℕ)
event_words (OnSegment segment happens) = happens_words happens (segment_words segment)
event_words (OnDirection direction impairment) = impairment_words direction impairment
event_words (StripAll path from tick) = codes "strip-all" ∷ decimal path ∷ direction_word from ∷ decimal tick ∷ []
event_words (Die path tick) = codes "die" ∷ decimal path ∷ decimal tick ∷ []
event_words (Prio path side tick on) = codes "prio" ∷ decimal path ∷ side_word side ∷ decimal tick ∷ switch_word on ∷ []
event_words (Add id tick) = codes "add" ∷ codes "b" ∷ decimal id ∷ decimal tick ∷ []
event_words (Remove side id tick) = codes "remove" ∷ side_word side ∷ decimal id ∷ decimal tick ∷ []
event_words (FastClose side tick) = codes "fastclose" ∷ side_word side ∷ decimal tick ∷ []

abbrev pub version_word : Version → List ℕ
version_word First = codes "1"
version_word Second = codes "2"

-- any line; that of a path has its number behind the keyword
abbrev pub line_words : Line → List (List ℕ)
line_words (Header version) = codes "mptcp-script" ∷ version_word version ∷ []
line_words (Seed n) = codes "seed" ∷ decimal n ∷ []
line_words (Checksum on) = codes "checksum" ∷ switch_word on ∷ []
line_words (Short on) = codes "short" ∷ switch_word on ∷ []
line_words (Buffer octets) = codes "buffer" ∷ decimal octets ∷ []
line_words (Path index path) = codes "path" ∷ decimal index ∷ path_words path
line_words (Event event) = event_words event
line_words End = codes "end" ∷ []

-- any line as text, without its LF
abbrev pub line_text : Line → List ℕ
line_text line = spaced (line_words line)

-- a line with its LF
abbrev pub ended : Line → List ℕ
ended line = line_text line ++ 10 ∷ []

-- none for the default seed
abbrev pub seed_lines : ℕ → List Line
seed_lines n = if n == default_seed then [] else Seed n ∷ []

-- none where checksums are off
abbrev pub checksum_lines : Bool → List Line
checksum_lines on = if on then Checksum true ∷ [] else []

-- none where data numbers have eight octets
abbrev pub short_lines : Bool → List Line
short_lines on = if on then Short true ∷ [] else []

-- none for buffers of the default size
abbrev pub buffer_lines : ℕ → List Line
buffer_lines octets = if octets == default_buffer then [] else Buffer octets ∷ []

-- the paths, of which the first has this number
abbrev pub path_lines : ℕ → List PathLine → List Line
path_lines index [] = []
path_lines index (path ∷ paths) = Path index path ∷ path_lines (suc index) paths

abbrev pub event_lines : List ScriptLine → List Line
event_lines events = map (λ event. Event event) events

-- the header with the first version that has all lines, the settings, the paths, what happens, the end
abbrev pub lines_of : Script → List Line
lines_of script = Header (version_of script.lines) ∷ (seed_lines script.seed ++ (checksum_lines script.checksum ++ (short_lines script.short ++ (buffer_lines script.buffer ++ (path_lines 0 script.paths ++ (event_lines script.lines ++ End ∷ []))))))

-- the text: every line with its LF
unfoldable pub text_of : Script → List ℕ
text_of script = flat_map ended (lines_of script)
