-- Why a run of many connections ends before any line is put.
use Rattle.std.specs.Prelude.{ℕ, ◌≡◌, ◌+◌, ◌<◌, ◌≤◌, List, length, Option, Err, IfSome}
use Rattle.link_script.specs.declared.fault.ScriptFault.TheVariants.{Line}
use Rattle.outside_kit.specs.declared.port.Port.{Port}
use Rattle.outside_kit.specs.Outside.{Told, HasRisen}
use Rattle.connection_table.specs.Lists.{Names, list_reading}
use Rattle.connection_table.specs.declared.many.Many.{Many}
use Rattle.connection_table.specs.declared.many.Many.TheVariants as ends
use Rattle.connection_table.specs.Inputs.{AreWithin, Contents, IsLong}
use Rattle.connection_table.specs.Scripts.{listed_reading}

-- loads alone were made: what ports hold and their counts are as they were, and the count of loads doesn't fall
pub record OnlyLoads (old new : Told) : Type 0 where
  pub counted : old.load_faults ≤ new.load_faults
  pub counts : (port : Port) → new.port_faults port ≡ old.port_faults port
  pub held : (port : Port) → new.holds port ≡ old.holds port

-- a load of what this line names, whose content may be told
abbrev pub IsLoadFault : ℕ → Option (List ℕ) → ℕ → ℕ → Many → Type 0
IsLoadFault line content old new (ends.Load named) = (named ≡ line) × HasRisen old new
IsLoadFault line content old new (ends.TooLong named) = (named ≡ line) × IfSome content (λ told. 65536 < length told)
IsLoadFault line content old new ends.Memory = Unit {0}
IsLoadFault line content old new _ = ⊥

-- the form of the list
abbrev pub IsListFault : List ℕ → Many → Type 0
IsListFault list (ends.List line) = list_reading list ≡ Err line
IsListFault list ends.Memory = Unit {0}
IsListFault list _ = ⊥

-- the script of this connection
abbrev pub IsScriptFault : ℕ → List ℕ → Many → Type 0
IsScriptFault entry text (ends.Script named line kind) = (named ≡ entry) × (listed_reading text ≡ Err (Line line kind))
IsScriptFault entry text ends.Memory = Unit {0}
IsScriptFault entry text _ = ⊥

-- what this connection begins with: its loads, and then its script, all contents being within their limit
abbrev pub IsInputFault : ℕ → Contents → Names → ℕ → ℕ → Many → Type 0
IsInputFault entry content names old new (ends.Load line) = (line ≡ entry + 1) × HasRisen old new
IsInputFault entry content names old new (ends.TooLong line) = (line ≡ entry + 1) × IsLong content names
IsInputFault entry content names old new (ends.Script named line kind) =
    (named ≡ entry) × (AreWithin content names × IfSome (content names.script) (λ told. listed_reading told ≡ Err (Line line kind)))
IsInputFault entry content names old new ends.Memory = Unit {0}
IsInputFault entry content names old new _ = ⊥
