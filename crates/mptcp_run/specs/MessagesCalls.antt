-- The calls that a run of messages makes on its outside, where it comes to its own end.
use Rattle.std.specs.Prelude.{◌≡◌, ℕ, List, [], ◌∷◌, ◌++◌, map, Option, IfSome}
use Rattle.outside_kit.specs.declared.port.Port.TheVariants as port
use Rattle.outside_kit.specs.Calls.{Call, Made}
use Rattle.outside_kit.specs.Calls as call
use Rattle.octet_text.specs.Lines.{text_lines}
use Rattle.message_pipe.specs.Lines.{line_of}
use Rattle.message_pipe.specs.OnePut.{pieces_in}
use Rattle.message_pipe.specs.Uses.{AreFirst}
use Rattle.run_words.specs.Lines.{Line}
use Rattle.run_outside.specs.declared.status.Status.{Status}
use Rattle.run_outside.specs.declared.status.Status.TheVariants.{Delivered}
use Rattle.mptcp_run.specs.Task.{Task}
use Rattle.run_outside.specs.Plan.{AddsAll, loads_of, plan_of, succeeded}

-- the last put is one to the log
pub record EndsWithLine (puts : List Call) : Type 0 where
  pub before : List Call
  pub text : List ℕ
  pub puts_are : puts ≡ before ++ call.Put port.Log text ∷ []

-- the pieces that were put for a reader are first lines of the other side's file, each whole in one put
pub record AreFirstLines (file : List ℕ) (pieces : List (List ℕ)) : Type 0 where
  pub messages : List (List ℕ)
  pub are : AreFirst messages (text_lines file)
  pub pieces_are : pieces ≡ map line_of messages

-- by the end that the run came to: all of them where it delivered, or else first ones
abbrev pub AreLines : Status → List ℕ → List (List ℕ) → Type 0
AreLines Delivered file pieces = pieces ≡ map line_of (text_lines file)
AreLines _ file pieces = AreFirstLines file pieces

-- The loads in their order, the binds, and puts: for each reader one put for each line, and, where the contents are told that make the
-- task, the last line at last. These are the files that A and B write, as far as they are told.
pub record CalledToEnd (status : Status) (file_a file_b : Option (List ℕ)) (task : Option Task) (line : Line) (told tells : Option (List Made)) : Type 0 where
  pub puts : List Call
  pub calls : AddsAll (plan_of (loads_of line) line puts) told tells
  pub last : IfSome task (λ _. EndsWithLine puts)
  pub for_b : IfSome file_a (λ file. AreLines status file (pieces_in (map succeeded puts)).for_b)
  pub for_a : IfSome file_b (λ file. AreLines status file (pieces_in (map succeeded puts)).for_a)
