-- The calls that the loads of a run make.
use Rattle.std.specs.Prelude.{List, Option}
use Rattle.outside_kit.specs.Calls.{Call, Made}
use Rattle.run_words.specs.Lines.{Line}
use Rattle.run_outside.specs.declared.status.Status.{Status}
use Rattle.run_outside.specs.declared.status.Status.TheVariants.{Script, Load, TooLong, Memory, Log}
use Rattle.run_outside.specs.Plan.{AddsAll, AddsCut, AddsLoadsTo}

-- the loads of this plan end a run with this status
abbrev pub LoadsAdd : Line → List Call → Option (List Made) → Option (List Made) → Status → Type 0
LoadsAdd line plan old new (Load named) = AddsLoadsTo named line old new
LoadsAdd line plan old new (TooLong named) = AddsLoadsTo named line old new
LoadsAdd line plan old new Memory = AddsCut plan Memory old new
LoadsAdd line plan old new status = ⊥

-- the loads of this plan, or what they gave when all were made, end a run with this status
abbrev pub InputAdds : Line → List Call → Option (List Made) → Option (List Made) → Status → Type 0
InputAdds line plan old new (Script at kind) = AddsAll plan old new
InputAdds line plan old new (Log at) = AddsAll plan old new
InputAdds line plan old new status = LoadsAdd line plan old new status
