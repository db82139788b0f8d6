-- The lines of a log as they are written.
use Rattle.std.specs.Prelude.{ℕ, suc, List, [], ◌∷◌, ◌++◌, map, codes}
use Rattle.std.specs.Fmt.{decimal}
use Rattle.std.specs.Int.{w64, to_be_bytes}
use Rattle.link_script.specs.Writing.{spaced}
use Rattle.hex.specs.Hex.{encode_lower}
use Rattle.sides.specs.declared.object.Object.{Object}
use Rattle.sides.specs.declared.object.Object.TheVariants as objects
use Rattle.actor_desk.specs.declared.ask.Ask.{Ask}
use Rattle.actor_desk.specs.declared.ask.Ask.TheVariants as asks
use Rattle.actor_desk.specs.declared.ask.Note.{Note}
use Rattle.run_log.specs.declared.outcome.Outcome.{Outcome}
use Rattle.run_log.specs.declared.outcome.Outcome.TheVariants as outcomes
use Rattle.run_log.specs.Words.{object_word}
use Rattle.run_log.specs.Calls.{ask_words}
use Rattle.run_log.specs.Replies.{reply_text}

-- on which object a step is made
abbrev pub object_of : Ask → Object
object_of (asks.Send side call) = objects.Send side
object_of (asks.Reassembly side call) = objects.Reassembly side
object_of (asks.Control side call) = objects.Control side
object_of (asks.Local step) = objects.Me

-- the line of a step: its stamp, its actor, the object, what is asked, and what a book answers
abbrev pub step_text : Note → List ℕ
step_text note = spaced (decimal note.stamp ∷ decimal note.actor ∷ object_word (object_of note.ask) ∷ spaced (ask_words note.ask) ∷ []) ++ reply_text note.reply

-- the line that ends a round
abbrev pub round_text : ℕ → List ℕ
round_text number = codes "round " ++ decimal number

-- the octets of a data number
abbrev pub width_text : ℕ → List ℕ
width_text width = codes "width " ++ decimal width

-- a key is its eight octets in lower-case hexadecimal, the most significant first
abbrev pub key_word : ℕ → List ℕ
key_word key = encode_lower (to_be_bytes w64 key)

-- A's key and B's
abbrev pub keys_text : ℕ → ℕ → List ℕ
keys_text key_a key_b = codes "keys " ++ (key_word key_a ++ 32 ∷ key_word key_b)

abbrev pub outcome_word : Outcome → List ℕ
outcome_word outcomes.Delivered = codes "delivered"
outcome_word outcomes.Rounds = codes "rounds"
outcome_word outcomes.NoPath = codes "no-path"
outcome_word outcomes.Aborted = codes "aborted"

-- the last line
abbrev pub outcome_text : Outcome → List ℕ
outcome_text outcome = codes "outcome " ++ outcome_word outcome

-- a line ends with LF
abbrev pub ended : List ℕ → List ℕ
ended line = line ++ 10 ∷ []

-- the lines with which a log opens
abbrev pub opening_lines : ℕ → ℕ → ℕ → List (List ℕ)
opening_lines width key_a key_b = codes "mptcp-log 2" ∷ width_text width ∷ keys_text key_a key_b ∷ []

-- the lines with which a log of format 1 opens, which names no width
abbrev pub old_opening_lines : ℕ → ℕ → List (List ℕ)
old_opening_lines key_a key_b = codes "mptcp-log 1" ∷ keys_text key_a key_b ∷ []

-- the steps of a round in their order, and its end
abbrev pub round_lines : ℕ → List Note → List (List ℕ)
round_lines number notes = map step_text notes ++ round_text number ∷ []

-- rounds, of which the first has this number
abbrev pub rounds_lines : ℕ → List (List Note) → List (List ℕ)
rounds_lines number [] = []
rounds_lines number (notes ∷ rounds) = round_lines number notes ++ rounds_lines (suc number) rounds
