-- A run whose files go as messages, each line as one: what is asked, what the readers' ports show, and how it ends.
use Rattle.std.specs.Prelude.{◌≡◌, ℕ, ◌⊎◌, Bool, false, ◌&&◌, not, List, [], Option, Some, None, option_and_then, IfSome, if◌then◌else◌}
use Rattle.std.specs.Str.{bytes_eq}
use Rattle.outside_kit.specs.declared.port.Port.TheVariants.{ReadByA, ReadByB}
use Rattle.outside_kit.specs.Calls.{Made}
use Rattle.outside_kit.specs.Outside.{Told, HoldsAfter}
use Rattle.octet_text.specs.Lines.{text_lines}
use Rattle.message_pipe.specs.Lines.{message_lines}
use Rattle.message_pipe.specs.LinesShown.{ShowsFirstLines}
use Rattle.message_pipe.specs.Showing.{Counted}
use Rattle.message_pipe.specs.Below.{CallsStand}
use Rattle.message_pipe.specs.Lined.{lined_content, lined_holds, PortsStand}
use Rattle.run_words.specs.Lines.{Line, line_of}
use Rattle.run_outside.specs.declared.status.Status.{Status}
use Rattle.run_outside.specs.declared.status.Status.TheVariants.{Delivered, Rounds, NoPath, Aborted, Usage, Script, Load, Put, TooLong, Memory, Log}
use Rattle.mptcp_run.specs.Answers.{IsAnswer}
use Rattle.mptcp_run.specs.Asked.{is_run}
use Rattle.run_outside.specs.Inputs.{order_of}
use Rattle.run_outside.specs.Plan.{AddsAll}
use Rattle.run_outside.specs.Ports.{IsUntouched, Ports}
use Rattle.mptcp_run.specs.Promised.{HoldsPrefixOf}

-- ---- what is asked

-- the name is that of the log of `replay`
abbrev pub is_order : Option (List ℕ) → List ℕ → Bool
is_order None name = false
is_order (Some log) name = bytes_eq name log

-- not the name of the script, nor of the log of `replay`: these are read as they stand
abbrev pub is_apart : Line → List ℕ → Bool
is_apart line name = not (bytes_eq name line.names.script) && not (is_order (order_of line.work) name)

-- the lines of both files can be messages: in `run`, `serial` and `replay`, of files that are neither the script nor the log
abbrev pub takes_messages : Line → Bool
takes_messages line = is_run line.work && (is_apart line line.names.file_a && is_apart line line.names.file_b)

abbrev pub if_messages : Line → Option Line
if_messages line = if takes_messages line then Some line else None

-- what the words ask for, where the lines of its files can be messages
unfoldable pub messages_in : List (List ℕ) → Option Line
messages_in words = option_and_then if_messages (line_of words)

-- ---- what the readers' ports show

-- where these are the files that A and B write, as far as they are told
module _ (file_a file_b : Option (List ℕ)) (old new : Ports) where
  -- exactly the lines of the other side's file
  pub record ReadersShowLines : Type 0 where
    pub read_by_b : IfSome file_a (λ file. HoldsAfter (old ReadByB) (new ReadByB) (λ _. message_lines (text_lines file)))
    pub read_by_a : IfSome file_b (λ file. HoldsAfter (old ReadByA) (new ReadByA) (λ _. message_lines (text_lines file)))

  -- the first lines of the other side's file, each whole
  pub record ReadersShowFirstLines : Type 0 where
    pub read_by_b : IfSome file_a (λ file. ShowsFirstLines file (old ReadByB) (new ReadByB))
    pub read_by_a : IfSome file_b (λ file. ShowsFirstLines file (old ReadByA) (new ReadByA))

  -- a prefix of its lines, whose last one may be cut
  pub record ReadersShowPrefixes : Type 0 where
    pub read_by_b : IfSome file_a (λ file. HoldsPrefixOf (old ReadByB) (new ReadByB) (message_lines (text_lines file)))
    pub read_by_a : IfSome file_b (λ file. HoldsPrefixOf (old ReadByA) (new ReadByA) (message_lines (text_lines file)))

  -- nothing
  pub record ReadersShowNothing : Type 0 where
    pub read_by_b : HoldsAfter (old ReadByB) (new ReadByB) (λ _. [])
    pub read_by_a : HoldsAfter (old ReadByA) (new ReadByA) (λ _. [])

  -- by the status that is answered
  abbrev pub ReadersShow : Status → Type 0
  ReadersShow Delivered = ReadersShowLines
  ReadersShow Rounds = ReadersShowFirstLines
  ReadersShow NoPath = ReadersShowFirstLines
  ReadersShow (Aborted reader) = ReadersShowFirstLines
  ReadersShow (Put port) = ReadersShowPrefixes
  ReadersShow Memory = ReadersShowPrefixes
  ReadersShow (Log at) = ReadersShowPrefixes
  ReadersShow (Script at kind) = ReadersShowNothing
  ReadersShow (Load named) = ReadersShowNothing
  ReadersShow (TooLong named) = ReadersShowNothing
  ReadersShow Usage = ReadersShowNothing

-- ---- how it ends

-- an outside of whose files both hold the frames of their lines
abbrev pub as_framed : Line → Told → Told
as_framed line t = record t { content = lined_content line.names.file_a line.names.file_b t.content }

-- what the run over them is told of it, by what was put for the readers and the calls that were made
abbrev pub as_run : Line → List ℕ → List ℕ → List Made → Told → Told
as_run line for_a for_b made t = record (as_framed line t) { holds = lined_holds for_a for_b t.holds; calls = Some made }

module _ (line : Line) (old new : Told) where
  -- A run whose two files hold the frames of their lines. What it put for the readers' ports was
  -- counted, and the messages in it were shown.
  pub record IsRunOverFrames (status : Status) : Type 0 where
    pub read_by_a : Counted
    pub read_by_b : Counted
    -- the calls of that run: its loads, binds and puts, of which each piece for a reader is frames
    pub made : List Made
    -- the contents as the run is told them at last, of which nothing is said
    pub contents : List ℕ → Option (List ℕ)
    pub answer : IsAnswer line (as_run line [] [] [] old)
        (record (as_run line read_by_a.octets read_by_b.octets made new) { content = contents }) status
    pub stand : PortsStand read_by_a read_by_b old.holds new.holds old.port_faults new.port_faults
    -- what they came to on the outside: a piece for a reader to one put for each message that it
    -- completes, and every other call to that call
    pub calls : CallsStand made read_by_a read_by_b old.calls new.calls

  -- nothing was begun for want of memory
  pub record IsUnbegun (status : Status) : Type 0 where
    pub status_is : status ≡ Memory
    pub untouched : IsUntouched old new
    pub unloaded : new.load_faults ≡ old.load_faults
    pub calls : AddsAll [] old.calls new.calls

  abbrev pub IsMessagesAnswer : Status → Type 0
  IsMessagesAnswer status = IsUnbegun status ⊎ IsRunOverFrames status
