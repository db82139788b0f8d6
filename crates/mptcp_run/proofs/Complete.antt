-- Words whose inputs are told, within their limits and valid are run.
use Rattle.std.proofs.Common.{◌≡◌, refl, ℕ, ◌<◌, ◌≤◌, inl, inr, ◌⊎◌, List, Option, Some, None, Result, Ok, Err, IfSome, IsSome, length, arith}
use Rattle.std.specs.Prelude.{option_and_then, IsOk, IsSomeAnd}
use Rattle.link_script.specs.declared.fault.ScriptKind.{ScriptKind}
use Rattle.link_script.specs.declared.fault.ScriptFault.TheVariants as script_fault
use Rattle.run_words.specs.Lines.{Line}
use Rattle.run_outside.specs.declared.status.Named.{Named}
use Rattle.run_outside.specs.declared.status.Named.TheVariants as input
use Rattle.run_outside.specs.declared.status.Status.{Status}
use Rattle.run_outside.specs.declared.status.Status.TheVariants.{Delivered, Rounds, NoPath, Aborted, Usage, Script, Load, Put, TooLong, Memory, Log}
use Rattle.mptcp_run.specs.Answers.{IsAnswer, FormRow, TurnRow, ValidInputsAreRun}
use Rattle.run_outside.specs.Causes.{limit_of}
use Rattle.mptcp_run.specs.Ends.{HasEnded}
use Rattle.run_outside.specs.Inputs.{name_of, order_of, content_of, IsValid}
use Rattle.link_script.specs.Reading.{reading}

not_ok : {X E : Type 0} (r : Result X E) (e : E) → r ≡ Err e → IsOk r → ⊥
not_ok (Ok x) e is ok = cc (is)
not_ok (Err f) e is ok = cc (ok)

no_such_script : (o : Option (List ℕ)) (at : ℕ) (kind : ScriptKind) → IsSomeAnd o (λ text. IsOk (reading text))
    → IfSome o (λ text. reading text ≡ Err (script_fault.Line at kind)) → ⊥
no_such_script None at kind valid cause = valid
no_such_script (Some text) at kind valid cause = not_ok (reading text) _ cause valid

told_script : (o : Option (List ℕ)) (P : List ℕ → Type 0) → IsSomeAnd o P → IsSome o
told_script None P h = absurd h
told_script (Some text) P h = refl

not_too_long : (o : Option (List ℕ)) (limit : ℕ) → IsSome o → IfSome o (λ text. length text ≤ limit) → IfSome o (λ text. limit < length text) → ⊥
not_too_long None limit known within beyond = let no : IsSome {T = List ℕ} None = known in cc (no)
not_too_long (Some text) limit known within beyond = omega (arith, within, beyond)

module _ (content : List ℕ → Option (List ℕ)) where
  told_order : (o : Option (List ℕ)) (P : List ℕ → Type 0) → IsSome o → IfSome o (λ log. IsSomeAnd (content log) P) → IsSome (option_and_then content o)
  told_order None P known valid = known
  told_order (Some log) P known valid = told_script (content log) P valid

  told_input : (line : Line) (named : Named) → IsValid content line → IsSome (name_of named line) → IsSome (content_of content line named)
  told_input line input.Script valid named = told_script (content line.names.script) _ valid.script
  told_input line input.FileA valid named = valid.file_a
  told_input line input.FileB valid named = valid.file_b
  told_input line input.Order valid named = told_order (order_of line.work) _ named valid.order

pub valid_inputs_are_run : ValidInputsAreRun
valid_inputs_are_run line old new status answer valid loads_fine ports_fine = by status answer
  where
    by_log : (at : ℕ) → FormRow line old new at
        ⊎ TurnRow line old new at → IsSome (order_of line.work)
    by_log at (inl form) = form.replay
    by_log at (inr turn) = turn.replay

    by : (status : Status) → IsAnswer line old new status
        → HasEnded status ⊎ ((status ≡ Memory) ⊎ ((at : ℕ) × ((status ≡ Log at) × IsSome (order_of line.work))))
    by Delivered a = inl tt
    by Rounds a = inl tt
    by NoPath a = inl tt
    by (Aborted reader) a = inl tt
    by Memory a = inr (inl refl)
    by (Log at) a = inr (inr (at, (refl, by_log at a)))
    by Usage a = absurd a
    by (Load named) a = absurd (loads_fine a.cause.1.0)
    by (TooLong named) a = absurd (not_too_long (content_of old.content line named) (limit_of named) (told_input old.content line named valid a.cause.0) (valid.within named) a.cause.1.0)
    by (Script at kind) a = absurd (no_such_script (old.content line.names.script) at kind valid.script a.cause)
    by (Put port) a = absurd (ports_fine port a.0)
