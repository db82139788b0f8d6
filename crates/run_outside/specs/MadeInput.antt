-- The made input of `bench`.
use Rattle.std.specs.Prelude.{ℕ, zero, suc, ◌*◌, true, false, List, [], ◌∷◌, ◌++◌}
use Rattle.std.specs.Int.{w32, to_le_bytes}
use Rattle.key_material.specs.Drawing.{cipher_key, drawn_word}
use Rattle.rand_chacha.specs.ChaCha.{ChaCha, key_of}
use Rattle.link_script.specs.declared.script.PathLine.{PathLine}
use Rattle.link_script.specs.declared.script.Script.{Script}
use Rattle.link_script.specs.declared.script.Happens.TheVariants.{Lost}
use Rattle.link_script.specs.declared.script.ScriptLine.{ScriptLine}
use Rattle.link_script.specs.declared.script.ScriptLine.TheVariants.{OnSegment, Die}
use Rattle.link_script.specs.declared.script.Segment.{Segment}
use Rattle.sides.specs.declared.side.Side.TheVariants.{A, B}
use Rattle.sides.specs.declared.side.Side.{Side}

-- a path that is no backup
abbrev pub path_line : ℕ → ℕ → ℕ → PathLine
path_line mss delay join = record { mss = mss; delay = delay; join = join; backup = false }

-- four paths, ever slower; the later ones join at 100, 200 and 300
abbrev pub made_paths : List PathLine
made_paths = path_line 1400 10 0 ∷ path_line 1200 20 100 ∷ path_line 1000 30 200 ∷ path_line 800 40 300 ∷ []

abbrev pub segment : ℕ → Side → ℕ → Segment
segment path from number = record { path = path; from = from; number = number }

-- two segments are lost, and path 3 dies
abbrev pub made_lines : List ScriptLine
made_lines = OnSegment (segment 0 A 50) Lost ∷ OnSegment (segment 1 B 20) Lost ∷ Die 3 2000 ∷ []

-- the script of a number
abbrev pub made_script : ℕ → Script
made_script number = record { seed = number; checksum = true; short = false; buffer = 262144; paths = made_paths; lines = made_lines }

-- a stream of words of which so many were drawn
abbrev pub words_at : ℕ → ℕ → ℕ → ChaCha
words_at seed stream drawn = record { key = key_of (cipher_key seed); stream = stream; word_pos = drawn }

-- the octets of the first words of a stream, each word least octet first
unfoldable pub drawn_octets : ℕ → ℕ → ℕ → List ℕ
drawn_octets seed stream zero = []
drawn_octets seed stream (suc words) = drawn_octets seed stream words ++ to_le_bytes w32 (drawn_word seed stream words)

-- a file of a number has 65,536 octets times the number
abbrev pub made_file : ℕ → ℕ → List ℕ
made_file number stream = drawn_octets number stream (16384 * number)
