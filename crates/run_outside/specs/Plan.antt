-- The order of work: the loads and binds of a run, and what it means that the calls of a plan were made.
use Rattle.std.specs.Prelude.{◌≡◌, ℕ, List, [], ◌∷◌, ◌++◌, map, Bool, true, false, Option, Some, None, IfSome, IsSomeAnd}
use Rattle.outside_kit.specs.declared.port.Port.{Port}
use Rattle.outside_kit.specs.declared.port.Port.TheVariants as port
use Rattle.outside_kit.specs.Calls.{Call, Made}
use Rattle.outside_kit.specs.Calls as call
use Rattle.run_words.specs.Lines.{Line}
use Rattle.run_outside.specs.declared.status.Named.{Named}
use Rattle.run_outside.specs.declared.status.Named.TheVariants as input
use Rattle.run_outside.specs.declared.status.Status.{Status}
use Rattle.run_outside.specs.declared.status.Status.TheVariants.{Load, Put, TooLong, Memory}
use Rattle.run_outside.specs.Inputs.{order_of, name_of}

-- ---- calls that were made

abbrev pub succeeded : Call → Made
succeeded call = record { call = call; ok = true }

abbrev pub failed : Call → Made
failed call = record { call = call; ok = false }

-- where the calls are told afterwards, they were told before, and these were added
abbrev pub Adds : List Made → Option (List Made) → Option (List Made) → Type 0
Adds made old new = IfSome new (λ after. IsSomeAnd old (λ before. after ≡ before ++ made))

-- all calls of a plan were made, in its order, and succeeded
abbrev pub AddsAll : List Call → Option (List Made) → Option (List Made) → Type 0
AddsAll plan old new = Adds (map succeeded plan) old new

-- a call that fails ends a run with this status
abbrev pub Ends : Call → Status → Type 0
Ends (call.Load name) (Load input) = Unit {0}
Ends (call.Load name) (TooLong input) = Unit {0}
Ends (call.Bind port name) (Put named) = named ≡ port
Ends (call.Put port piece) (Put named) = named ≡ port
Ends call Memory = Unit {0}
Ends call status = ⊥

-- the first of two properties where a call succeeded, or else the second
abbrev pub IfSucceeded : Bool → Type 0 → Type 0 → Type 0
IfSucceeded true this that = this
IfSucceeded false this that = that

-- The first calls of a plan were made, in its order: up to one that failed and ended the run with this status, or to the want of
-- memory between two.
abbrev pub AreCutAt : List Call → Status → List Made → Type 0
AreCutAt plan status [] = status ≡ Memory
AreCutAt [] status (made ∷ more) = ⊥
AreCutAt (call ∷ plan) status (made ∷ more) = (made.call ≡ call) × IfSucceeded made.ok (AreCutAt plan status more) ((more ≡ []) × Ends call status)

-- the first calls of a plan were added, up to one that failed, or to the want of memory
abbrev pub AddsCut : List Call → Status → Option (List Made) → Option (List Made) → Type 0
AddsCut plan status old new = (made : List Made) × (AreCutAt plan status made × Adds made old new)

-- Some call of a plan failed, or wasn't made for want of memory; the calls before it were made, in their order.
abbrev pub AreShortOf : List Call → Status → List Made → Type 0
AreShortOf [] status made = ⊥
AreShortOf (call ∷ plan) status [] = status ≡ Memory
AreShortOf (call ∷ plan) status (made ∷ more) =
    (made.call ≡ call) × IfSucceeded made.ok (AreShortOf plan status more) ((more ≡ []) × Ends call status)

-- the first calls of a plan were added, of which one failed, or wasn't made for want of memory
abbrev pub AddsShort : List Call → Status → Option (List Made) → Option (List Made) → Type 0
AddsShort plan status old new =
    (made : List Made) × (AreShortOf plan status made × Adds made old new)

-- ---- the plan: loads

abbrev pub load_of : Option (List ℕ) → List Call
load_of None = []
load_of (Some name) = call.Load name ∷ []

-- the script and both files
abbrev pub first_loads : Line → List Call
first_loads line = call.Load line.names.script ∷ call.Load line.names.file_a ∷ call.Load line.names.file_b ∷ []

-- the loads of a run: the script, both files, and in `replay` the log
abbrev pub loads_of : Line → List Call
loads_of line = first_loads line ++ load_of (order_of line.work)

-- the loads before that of an input
abbrev pub loads_before : Named → Line → List Call
loads_before input.Script line = []
loads_before input.FileA line = call.Load line.names.script ∷ []
loads_before input.FileB line = call.Load line.names.script ∷ call.Load line.names.file_a ∷ []
loads_before input.Order line = first_loads line

-- the load of an input failed, and those before it succeeded
abbrev pub AddsLoadsTo : Named → Line → Option (List Made) → Option (List Made) → Type 0
AddsLoadsTo named line old new =
    IsSomeAnd (name_of named line) (λ name. Adds (map succeeded (loads_before named line) ++ failed (call.Load name) ∷ []) old new)

-- ---- binds

-- the readers' ports, B's first
abbrev pub binds_of : Line → List Call
binds_of line = call.Bind port.ReadByB line.names.read_by_b ∷ call.Bind port.ReadByA line.names.read_by_a ∷ []

-- ---- puts

-- a text is put, if it is anything
abbrev pub put_of : Port → List ℕ → List Call
put_of port [] = []
put_of port (octet ∷ more) = call.Put port (octet ∷ more) ∷ []

-- the puts of a round's end, where these are what B's reader has read, what A's has, and the lines
abbrev pub puts_of : List ℕ → List ℕ → List ℕ → List Call
puts_of read_by_b read_by_a lines = put_of port.ReadByB read_by_b ++ (put_of port.ReadByA read_by_a ++ put_of port.Log lines)

-- ---- all calls of a run

-- all calls of a run: its loads, the binds of both readers, and its puts
abbrev pub plan_of : List Call → Line → List Call → List Call
plan_of loads line puts = loads ++ (binds_of line ++ puts)
