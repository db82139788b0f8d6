-- The loads that a run of many connections makes, line by line.
use Rattle.std.specs.Prelude.{ℕ, ◌≡◌, ◌⊎◌, ◌+◌, List, [], ◌∷◌, ◌++◌, map, flat_map, take, slice_get, Option, Some, IfOk, IfSome}
use Rattle.outside_kit.specs.Calls.{Call, Made}
use Rattle.outside_kit.specs.Calls as call
use Rattle.run_outside.specs.Plan.{succeeded, failed, Adds, AddsAll}
use Rattle.connection_table.specs.Lists.{Names, list_reading}
use Rattle.connection_table.specs.ListWords.{NamedList}
use Rattle.connection_table.specs.declared.many.Many.{Many}
use Rattle.connection_table.specs.declared.many.Many.TheVariants as ends
use Rattle.connection_table.specs.Inputs.{Contents}

-- ---- a connection

-- the loads of a connection: its script and both files
abbrev pub loads_of : Names → List Call
loads_of names = call.Load names.script ∷ call.Load names.file_a ∷ call.Load names.file_b ∷ []

-- behind these calls, which succeeded, those of this plan were made up to one that failed
pub record AddsToFailed (first plan : List Call) (old new : Option (List Made)) : Type 0 where
  pub made : List Call
  pub failing : Call
  pub behind : List Call
  pub plan_is : plan ≡ made ++ failing ∷ behind
  pub adds : Adds (map succeeded (first ++ made) ++ failed failing ∷ []) old new

-- the first calls of a plan were made, and succeeded
pub record AddsFirst (plan : List Call) (old new : Option (List Made)) : Type 0 where
  pub made : List Call
  pub behind : List Call
  pub plan_is : plan ≡ made ++ behind
  pub adds : AddsAll made old new

-- the first calls of a plan were made, and at most the last of them failed
abbrev pub AddsCut : List Call → Option (List Made) → Option (List Made) → Type 0
AddsCut plan old new = AddsFirst plan old new ⊎ AddsToFailed [] plan old new

-- a connection's loads where they end a run: up to one that failed, or all, and for want of memory anywhere between
abbrev pub InputAdds : List Call → Option (List Made) → Option (List Made) → Many → Type 0
InputAdds plan old new (ends.Load line) = AddsToFailed [] plan old new
InputAdds plan old new (ends.TooLong line) = AddsToFailed [] plan old new
InputAdds plan old new (ends.Script entry line kind) = AddsAll plan old new
InputAdds plan old new ends.Memory = AddsCut plan old new
InputAdds plan old new many = Unit {0}

-- ---- the lines

-- the loads of each line in order: line 0 is the list itself
abbrev pub loads_by_line : List ℕ → List Names → List (List Call)
loads_by_line list names = (call.Load list ∷ []) ∷ map loads_of names

-- one after the other
abbrev pub joined : List (List Call) → List Call
joined lines = flat_map (λ (loads : List Call). loads) lines

-- the loads of the lines before this one succeeded, and of its own those up to one that failed
pub record AddsLoadsTo (lines : List (List Call)) (line : ℕ) (old new : Option (List Made)) : Type 0 where
  pub own : List Call
  pub there : slice_get lines line ≡ Some own
  pub cut : AddsToFailed (joined (take line lines)) own old new

-- the loads of this line and of those before it succeeded, and none followed
abbrev pub AddsLoadsThrough : List (List Call) → ℕ → Option (List Made) → Option (List Made) → Type 0
AddsLoadsThrough lines line old new = AddsAll (joined (take (line + 1) lines)) old new

-- a run with this answer made these loads
abbrev pub LinesAdd : List (List Call) → Option (List Made) → Option (List Made) → Many → Type 0
LinesAdd lines old new (ends.Load line) = AddsLoadsTo lines line old new
LinesAdd lines old new (ends.TooLong line) = AddsLoadsTo lines line old new
LinesAdd lines old new (ends.List line) = AddsLoadsThrough lines 0 old new
LinesAdd lines old new (ends.Script entry line kind) = AddsLoadsThrough lines (entry + 1) old new
LinesAdd lines old new (ends.SameToken line holder) = AddsLoadsThrough lines line old new
LinesAdd lines old new ends.Memory = AddsCut (joined lines) old new
LinesAdd lines old new many = Unit {0}

-- ---- the list

-- the loads of a run of this list that ends with this answer: its lines are those of the list, where that is told and in form
pub record ListAdds (content : Contents) (words : NamedList) (old new : Option (List Made)) (many : Many) : Type 0 where
  pub names : List Names
  pub said : IfSome (content words.list) (λ list. IfOk (list_reading list) (λ read. names ≡ read))
  pub adds : LinesAdd (loads_by_line words.list names) old new many
