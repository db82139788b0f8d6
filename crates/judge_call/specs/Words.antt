-- The words of the command line: the name of a capture, and each option at most once.
use Rattle.std.specs.Prelude.{ℕ, ◌==◌, Bool, true, false, not, ◌&&◌, is_none, if◌then◌else◌, Option, Some, None, option_map, List, [], ◌∷◌, codes}
use Rattle.std.specs.Str.{bytes_eq}
use Rattle.sides.specs.declared.side.Side.{Side}
use Rattle.sides.specs.declared.side.Side.TheVariants.{A, B}
use Rattle.judge_call.specs.declared.line.Asked.{Asked}
use Rattle.judge_call.specs.declared.line.CommandLine.{CommandLine}
use Rattle.judge_call.specs.declared.line.Next.{Next}
use Rattle.judge_call.specs.declared.line.Next.TheVariants as next

-- what is asked for: the name of a capture, at which side it was taken, whether TCP sums are looked at, and how the names of the streams begin
pub record Line : Type 0 where
  pub capture : List ℕ
  pub at : Option Side
  pub check_sums : Bool
  pub streams : Option (List ℕ)

-- what the words so far ask for, and what the next word is
pub record AskedValue : Type 0 where
  pub capture : Option (List ℕ)
  pub at : Option Side
  pub check_sums : Bool
  pub streams : Option (List ℕ)
  pub next : Next

abbrev pub nothing_asked : AskedValue
nothing_asked = record { capture = None; at = None; check_sums = true; streams = None; next = next.Alone }

-- a word that begins with two hyphens
abbrev pub is_option : List ℕ → Bool
is_option (first ∷ second ∷ rest) = first == 45 && second == 45
is_option word = false

abbrev pub side_named : List ℕ → Option Side
side_named word = if bytes_eq word (codes "a") then Some A else (if bytes_eq word (codes "b") then Some B else None)

-- a word by itself
abbrev pub with_word : AskedValue → List ℕ → Option AskedValue
with_word asked word =
    if bytes_eq word (codes "--at") && is_none asked.at then Some (record asked { next = next.Side })
    else (if bytes_eq word (codes "--streams") && is_none asked.streams then Some (record asked { next = next.Prefix })
    else (if bytes_eq word (codes "--no-tcp-sum") && asked.check_sums then Some (record asked { check_sums = false })
    else (if is_none asked.capture && not (is_option word) then Some (record asked { capture = Some word }) else None)))

abbrev pub with_side : AskedValue → Option Side → Option AskedValue
with_side asked None = None
with_side asked (Some side) = Some (record asked { at = Some side; next = next.Alone })

abbrev pub with_prefix : AskedValue → List ℕ → AskedValue
with_prefix asked word = record asked { streams = Some word; next = next.Alone }

abbrev pub asked_by : Next → AskedValue → List ℕ → Option AskedValue
asked_by next.Alone asked word = with_word asked word
asked_by next.Side asked word = with_side asked (side_named word)
asked_by next.Prefix asked word = Some (with_prefix asked word)

abbrev pub then_asked : Option AskedValue → List ℕ → Option AskedValue
then_asked None word = None
then_asked (Some asked) word = asked_by asked.next asked word

abbrev pub all_asked : Option AskedValue → List (List ℕ) → Option AskedValue
all_asked asked [] = asked
all_asked asked (word ∷ words) = all_asked (then_asked asked word) words

-- no word is missing
abbrev pub line_by : Next → Option (List ℕ) → AskedValue → Option Line
line_by next.Alone (Some capture) asked =
    Some (record { capture = capture; at = asked.at; check_sums = asked.check_sums; streams = asked.streams })
line_by what capture asked = None

abbrev pub line_asked : AskedValue → Option Line
line_asked asked = line_by asked.next asked.capture asked

abbrev pub line_if : Option AskedValue → Option Line
line_if None = None
line_if (Some asked) = line_asked asked

-- what the words behind the program's name ask for, or None where they break the form
abbrev pub line_of : List (List ℕ) → Option Line
line_of words = line_if (all_asked (Some nothing_asked) words)

-- ---- as the code has it

abbrev pub as_asked : Asked → AskedValue
as_asked asked = record {
  capture = option_map (λ word. word.now) asked.capture;
  at = asked.judging.at;
  check_sums = asked.judging.check_sums;
  streams = option_map (λ word. word.now) asked.streams;
  next = asked.next;
}

abbrev pub as_line : CommandLine → Line
as_line line = record {
  capture = line.capture.now;
  at = line.judging.at;
  check_sums = line.judging.check_sums;
  streams = option_map (λ word. word.now) line.streams;
}
