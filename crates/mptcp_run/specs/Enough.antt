-- How many rounds are enough for both files to be delivered, by the text of the script and the lengths of the files.
use Rattle.std.specs.Prelude.{ℕ, ◌+◌, nat_le, Bool, not, ◌&&◌, ◌||◌, if◌then◌else◌, List, [], ◌∷◌, Option, Some, None}
use Rattle.std.specs.List.{list_all}
use Rattle.sides.specs.declared.side.Side.TheVariants.{A}
use Rattle.link_script.specs.declared.script.PathLine.{PathLine}
use Rattle.link_script.specs.declared.script.Script.{Script}
use Rattle.link_script.specs.declared.script.ScriptLine.{ScriptLine}
use Rattle.link_model.specs.Laws.{moves}
use Rattle.clean_finish.specs.Bound.{enough}
use Rattle.whole_paths.specs.QuietTexts.{is_first}
use Rattle.whole_paths.specs.Finish.{harms_to, is_harmless_to_ends, is_on_direction, patient_rounds, segments}

-- By the line no option is taken away, no payload altered, no side closes at once, no path dies, and the address of path 0 isn't taken back. It speaks
-- of no whole direction.
abbrev pub is_gentle : ScriptLine → Bool
is_gentle line = is_harmless_to_ends line && not (is_on_direction line)

-- a file of so many octets fits into the window that its side is told first (RFC 9293, section 3.8.6)
abbrev pub fits_first : ℕ → ℕ → Bool
fits_first buffer length = nat_le (length + 3) buffer && nat_le (length + 1) 65535

-- by none of these lines one of A's first eight segments is lost, late or repeated
abbrev pub moves_none_of_a : List ScriptLine → Bool
moves_none_of_a lines = list_all (λ line. not (moves A line && is_first 8 line)) lines

-- each line is gentle, by four of them at most a segment is lost or late, and where one moves one of A's first eight segments, A's
-- file fits
abbrev pub loses_few : Script → ℕ → Bool
loses_few script length_a =
    list_all is_gentle script.lines && (nat_le (harms_to 0 script) 4 && (moves_none_of_a script.lines || fits_first script.buffer length_a))

-- how many lines by which a segment is lost or late are allowed for: those of the script, and where one moves one of A's first eight segments, as many
-- besides as A's file has full segments
abbrev pub harms_allowed : PathLine → Script → ℕ → ℕ
harms_allowed path script length_a = harms_to 0 script + (if moves_none_of_a script.lines then 0 else segments path.mss length_a)

-- with one path: 10,800 rounds, 23 for each full segment of either file, and 3,150 for each line that is allowed for
abbrev pub few_on : List PathLine → Script → ℕ → ℕ → Option ℕ
few_on (path ∷ []) script length_a length_b =
    if loses_few script length_a then Some (patient_rounds path.mss length_a length_b (harms_allowed path script length_a)) else None
few_on _ script length_a length_b = None

abbrev pub few_enough : Script → ℕ → ℕ → Option ℕ
few_enough script length_a length_b = few_on script.paths script length_a length_b

abbrev pub or_else : Option ℕ → Option ℕ → Option ℕ
or_else (Some rounds) other = Some rounds
or_else None other = other

-- those for a clean script, or else those for one that loses few
abbrev pub rounds_enough : Script → ℕ → ℕ → Option ℕ
rounds_enough script length_a length_b = or_else (enough script length_a length_b) (few_enough script length_a length_b)
