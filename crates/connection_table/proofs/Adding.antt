-- The loads of a connection, up to one that failed.
use Rattle.std.proofs.Common.{refl, sym, inl, inr, ℕ, List, [], ◌∷◌, ◌++◌, Option, map}
use Rattle.std.proofs.lemmas.List.{append-nil}
use Rattle.outside_kit.specs.Calls.{Call}
use Rattle.run_outside.specs.Plan.{succeeded, failed, Adds, AddsAll}
use Rattle.run_outside.proofs.Calls.{ToldCalls, adds_then, all_then}
use Rattle.connection_table.specs.declared.many.Many.{Many}
use Rattle.connection_table.specs.declared.many.Many.TheVariants.{Done, Usage, Load, TooLong, List as Listing, Script, SameToken, Put, Memory}
use Rattle.connection_table.specs.Causes.{IsLoadFault, IsScriptFault}
use Rattle.connection_table.specs.Loads.{AddsCut, AddsToFailed, InputAdds}

-- this load failed, behind those of a plan before it
module _ (made behind : List Call) (failing : Call) (a b c : ToldCalls) (before : AddsAll made a b) (one : Adds (failed failing ∷ []) b c) where
  to_failed : AddsToFailed [] (made ++ failing ∷ behind) a c
  to_failed = record {
    made = made;
    failing = failing;
    behind = behind;
    plan_is = refl;
    adds = adds_then (map succeeded made) (failed failing ∷ []) a b c before one;
  }

  pub load_adds : (line : ℕ) (content : Option (List ℕ)) (old new : ℕ) (many : Many) → IsLoadFault line content old new many → InputAdds (made ++ failing ∷ behind) a c many
  load_adds line content old new (Load named) fault = to_failed
  load_adds line content old new (TooLong named) fault = to_failed
  load_adds line content old new Memory fault = inr to_failed
  load_adds line content old new Done fault = tt
  load_adds line content old new Usage fault = tt
  load_adds line content old new (Listing at) fault = tt
  load_adds line content old new (Script entry at kind) fault = absurd fault
  load_adds line content old new (SameToken at holder) fault = tt
  load_adds line content old new Put fault = tt

-- three of them, one after the other
pub all_made : (x y z : Call) (a b c d : ToldCalls) → AddsAll (x ∷ []) a b → AddsAll (y ∷ []) b c → AddsAll (z ∷ []) c d → AddsAll (x ∷ y ∷ z ∷ []) a d
all_made x y z a b c d first second third = all_then (x ∷ []) (y ∷ z ∷ []) a b d first (all_then (y ∷ []) (z ∷ []) b c d second third)

-- all calls of a plan were made
pub all_cut : (plan : List Call) (a b : ToldCalls) → AddsAll plan a b → AddsCut plan a b
all_cut plan a b all = inl (record { made = plan; behind = []; plan_is = sym (append-nil plan); adds = all })

-- all of them succeeded
pub script_adds : (plan : List Call) (a b : ToldCalls) (entry : ℕ) (text : List ℕ) (many : Many) → AddsAll plan a b → IsScriptFault entry text many → InputAdds plan a b many
script_adds plan a b entry text (Script named line kind) all fault = all
script_adds plan a b entry text (Load line) all fault = absurd fault
script_adds plan a b entry text (TooLong line) all fault = absurd fault
script_adds plan a b entry text Memory all fault = all_cut plan a b all
script_adds plan a b entry text Done all fault = tt
script_adds plan a b entry text Usage all fault = tt
script_adds plan a b entry text (Listing line) all fault = tt
script_adds plan a b entry text (SameToken line holder) all fault = tt
script_adds plan a b entry text Put all fault = tt
