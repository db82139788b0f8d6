-- Loads, one after the other, up to one that failed.
use Rattle.std.proofs.Common.{◌≡◌, refl, sym, ap, subst, ℕ, ◌<◌, ◌≤◌, List, [], ◌∷◌, ◌++◌, length, map, Option, Some, Result, Ok, Err, IfOk, IfSome, None}
use Rattle.std.specs.Prelude.{IsSome, IsSomeAnd, option_and_then}
use Rattle.outside_kit.specs.Calls.{Call}
use Rattle.outside_kit.specs.Calls as call
use Rattle.outside_kit.specs.Outside.{HasRisen}
use Rattle.link_script.specs.declared.script.Script as link
use Rattle.link_script.specs.Scripts.{HasRanges}
use Rattle.run_outside.specs.declared.input.Input.{Input}
use Rattle.run_outside.specs.Loaded.{IsLoaded}
use Rattle.link_script.specs.Reading.{reading}
use Rattle.run_words.specs.Lines.{Line, replay}
use Rattle.run_outside.specs.declared.status.Named.{Named}
use Rattle.run_outside.specs.declared.status.Status.{Status}
use Rattle.run_outside.specs.declared.status.Status.TheVariants.{Delivered, Script, Load, TooLong, Memory, Log}
use Rattle.run_outside.specs.Loading.{LoadsAdd, InputAdds}
use Rattle.run_outside.specs.Causes.{limit_of, IsLoadFault, IsScriptFault, IsFormFault}
use Rattle.run_outside.specs.Inputs.{name_of, order_of, content_of, AreWithinLimitsBefore, IsLoadsFault, IsInputFault, IsLoggedFault, IsReplayInputFault}
use Rattle.run_outside.specs.Plan.{succeeded, failed, Adds, AddsAll, AddsCut, load_of, first_loads, loads_of, loads_before, AddsLoadsTo}
use Rattle.run_outside.proofs.Calls.{ToldCalls, adds_then, cut_then, cut_longer, cut_first, cut_over}
use Rattle.run_outside.proofs.PortsLemmas.{risen_later}

-- the load of an input failed
module _ (line : Line) (named : Named) (name : List ℕ) (is : name_of named line ≡ Some name) (a b c : ToldCalls) (before : AddsAll (loads_before named line) a b)
    (one : Adds (failed (call.Load name) ∷ []) b c) where
  to_it : AddsLoadsTo named line a c
  to_it = subst (λ o. IsSomeAnd o (λ (n : List ℕ). Adds (map succeeded (loads_before named line) ++ failed (call.Load n) ∷ []) a c)) (sym is)
      (adds_then (map succeeded (loads_before named line)) (failed (call.Load name) ∷ []) a b c before one)

  pub load_cut : (plan more : List Call) (content : Option (List ℕ)) (old new : ℕ) (status : Status) → plan ≡ loads_before named line ++ call.Load name ∷ more
      → IsLoadFault named content old new status → LoadsAdd line plan a c status
  load_cut plan more content old new (Load other) plan_is fault = subst (λ n. AddsLoadsTo n line a c) (sym fault.0) to_it
  load_cut plan more content old new (TooLong other) plan_is fault = subst (λ n. AddsLoadsTo n line a c) (sym fault.0) to_it
  load_cut plan more content old new Memory plan_is fault = subst (λ xs. AddsCut xs Memory a c) (sym plan_is)
      (cut_then (loads_before named line) (call.Load name ∷ more) Memory a b c before (cut_first (call.Load name) more Memory b c tt one))
  load_cut plan more content old new Delivered plan_is fault = absurd fault
  load_cut plan more content old new _ plan_is fault = absurd fault

-- such a load, behind others, ends a run
pub load_fault : (now content : List ℕ → Option (List ℕ)) (line : Line) (named : Named) (name : List ℕ) (a b c : ℕ) (status : Status) → name_of named line ≡ Some name
    → AreWithinLimitsBefore content line named → ((other : List ℕ) → now other ≡ content other) → a ≤ b → IsLoadFault named (now name) b c status
    → IsLoadsFault content line a c status
load_fault now content line named name a b c (Load other) is before same few fault =
    subst (λ n. IsSome (name_of n line) × (HasRisen a c × AreWithinLimitsBefore content line n)) (sym fault.0)
    (subst (λ (o : Option (List ℕ)). IsSome o) (sym is) refl, (risen_later a b c few fault.1, before))
load_fault now content line named name a b c (TooLong other) is before same few fault =
    subst (λ n. IsSome (name_of n line) × (IfSome (content_of content line n) (λ told. limit_of n < length told) × AreWithinLimitsBefore content line n)) (sym fault.0) (
      subst (λ (o : Option (List ℕ)). IsSome o) (sym is) refl,
      (
        subst (λ (o : Option (List ℕ)). IfSome (option_and_then content o) (λ told. limit_of named < length told)) (sym is)
            (subst (λ (o : Option (List ℕ)). IfSome o (λ told. limit_of named < length told)) (same name) fault.1),
        before,
      ),
    )
load_fault now content line named name a b c Memory is before same few fault = tt
load_fault now content line named name a b c _ is before same few fault = absurd fault

-- among what a run reads
pub input_fault : (content : List ℕ → Option (List ℕ)) (line : Line) (a b : ℕ) (status : Status) → IsLoadsFault content line a b status → IsInputFault content line a b status
input_fault content line a b (Load named) fault = fault
input_fault content line a b (TooLong named) fault = fault
input_fault content line a b Memory fault = tt
input_fault content line a b _ fault = absurd fault

pub logged_fault : (content : List ℕ → Option (List ℕ)) (line : Line) (a b : ℕ) (status : Status) → IsLoadsFault content line a b status → IsLoggedFault content line a b status
logged_fault content line a b (Load named) fault = fault
logged_fault content line a b (TooLong named) fault = fault
logged_fault content line a b Memory fault = tt
logged_fault content line a b _ fault = absurd fault

-- what is loaded, among what is read
pub logged_is_replay : (content : List ℕ → Option (List ℕ)) (line : Line) (a b : ℕ) (status : Status) → IsLoggedFault content line a b status → IsReplayInputFault content line a b status
logged_is_replay content line a b (Script at kind) fault = fault
logged_is_replay content line a b (Load named) fault = fault
logged_is_replay content line a b (TooLong named) fault = fault
logged_is_replay content line a b Memory fault = tt
logged_is_replay content line a b _ fault = absurd fault

-- in a longer plan
pub loads_longer : (line : Line) (plan more : List Call) (a b : ToldCalls) (status : Status) → LoadsAdd line plan a b status → LoadsAdd line (plan ++ more) a b status
loads_longer line plan more a b Memory h = cut_longer plan more Memory a b h
loads_longer line plan more a b (Load named) h = h
loads_longer line plan more a b (TooLong named) h = h
loads_longer line plan more a b _ h = absurd h

pub input_adds : (line : Line) (plan : List Call) (a b : ToldCalls) (status : Status) → LoadsAdd line plan a b status → InputAdds line plan a b status
input_adds line plan a b Memory h = h
input_adds line plan a b (Load named) h = h
input_adds line plan a b (TooLong named) h = h
input_adds line plan a b _ h = absurd h

-- ---- what the loads gave

-- a script that is refused
pub script_adds : (line : Line) (plan : List Call) (a b : ToldCalls) (script : List ℕ) (status : Status) → AddsAll plan a b → IsScriptFault script status → InputAdds line plan a b status
script_adds line plan a b script (Script at kind) h fault = h
script_adds line plan a b script Memory h fault = cut_over plan a b h
script_adds line plan a b script _ h fault = absurd fault

-- a log that is
pub form_adds : (line : Line) (plan : List Call) (a b : ToldCalls) (script : link.Script) (log : List ℕ) (status : Status) → AddsAll plan a b → IsFormFault script log status → InputAdds line plan a b status
form_adds line plan a b script log (Log at) h fault = h
form_adds line plan a b script log Memory h fault = cut_over plan a b h
form_adds line plan a b script log _ h fault = absurd fault

-- ---- all loads

-- of a run that reads no log
pub unordered_loads : (line : Line) → order_of line.work ≡ None → first_loads line ≡ loads_of line
unordered_loads line none = ap (λ (o : Option (List ℕ)). first_loads line ++ load_of o) (sym none)

pub replay_loads : (line : Line) (log : List ℕ) → line.work ≡ replay log → first_loads line ++ call.Load log ∷ [] ≡ loads_of line
replay_loads line log is = ap (λ w. first_loads line ++ load_of (order_of w)) (sym is)

-- ---- what was read

-- a script that is run, and two files within their limit
pub loaded_of : (input : Input) (text a b : List ℕ) → reading text ≡ Ok input.script → HasRanges input.script
    → input.file_a ≡ a → input.file_b ≡ b → length a ≤ 16777216 → length b ≤ 16777216 → IsLoaded input
loaded_of input text a b script ranges a_is b_is few_a few_b = record {
  text = text;
  script = script;
  ranges = ranges;
  few_a = subst (λ xs. length xs ≤ 16777216) (sym a_is) few_a;
  few_b = subst (λ xs. length xs ≤ 16777216) (sym b_is) few_b;
}

pub loaded : {E : Type 0} (r : Result Input E) (text a b : List ℕ) → IfOk r (λ input. reading text ≡ Ok input.script) → IfOk r (λ input. HasRanges input.script)
    → IfOk r (λ input. input.file_a ≡ a) → IfOk r (λ input. input.file_b ≡ b) → length a ≤ 16777216 → length b ≤ 16777216 → IfOk r IsLoaded
loaded (Ok input) text a b script ranges a_is b_is few_a few_b = loaded_of input text a b script ranges a_is b_is few_a few_b
loaded (Err e) text a b script ranges a_is b_is few_a few_b = tt
