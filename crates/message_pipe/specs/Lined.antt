-- An outside whose files and readers' ports have lines that are messages.
use Rattle.std.specs.Prelude.{ℕ, ◌||◌, if◌then◌else◌, List, Option, Some, None, option_map}
use Rattle.std.specs.Str.{bytes_eq}
use Rattle.outside_kit.specs.declared.port.Port.{Port}
use Rattle.outside_kit.specs.declared.port.Port.TheVariants.{ReadByA, ReadByB, Log}
use Rattle.outside_kit.specs.Calls.{Made}
use Rattle.outside_kit.specs.Outside.{Told}
use Rattle.message_pipe.specs.Lines.{framed}
use Rattle.message_pipe.specs.Showing.{Counted, PortStands}

-- the outside that lies below, the names whose contents are lines, what was put for the readers' ports, and the calls that were made
pub record Lined (O : Type 0) : Type 0 where
  pub inner : O
  pub file_a : List ℕ
  pub file_b : List ℕ
  pub read_by_a : Counted
  pub read_by_b : Counted
  pub calls : List Made

-- of these two names the content is the frames of the lines of what lies below; of others it is that itself
abbrev pub lined_content : List ℕ → List ℕ → (List ℕ → Option (List ℕ)) → List ℕ → Option (List ℕ)
lined_content file_a file_b content name = if bytes_eq name file_a || bytes_eq name file_b then option_map framed (content name) else content name

-- what an outside tells of which that is so, and whose calls aren't told
abbrev pub framed_told : List ℕ → List ℕ → Told → Told
framed_told file_a file_b t = record t { content = lined_content file_a file_b t.content; calls = None }

-- a reader's port holds what was put for it
abbrev pub lined_holds : List ℕ → List ℕ → (Port → Option (List ℕ)) → Port → Option (List ℕ)
lined_holds read_by_a read_by_b holds ReadByA = Some read_by_a
lined_holds read_by_a read_by_b holds ReadByB = Some read_by_b
lined_holds read_by_a read_by_b holds Log = holds Log

-- both readers' ports show the messages of what was put for them
pub record PortsStand (a b : Counted) (first holds : Port → Option (List ℕ)) (faults_first faults : Port → ℕ) : Type 0 where
  pub read_by_a : PortStands a (first ReadByA) (holds ReadByA) (faults_first ReadByA) (faults ReadByA)
  pub read_by_b : PortStands b (first ReadByB) (holds ReadByB) (faults_first ReadByB) (faults ReadByB)
