-- A path of which the script's text says that it is no backup never stands by; so both files are delivered once it is whole, whichever path it is.
use Rattle.std.proofs.Common.{◌≡◌, sym, subst, ap, ◌∙◌, refl, ⊎_elim, inl, inr, ◌≤◌, ℕ, zero, suc, Some, List, [], ◌∷◌, ◌++◌}
use Rattle.std.specs.List.{slice_get}
use Rattle.std.proofs.lemmas.Option.{same_Some}
use Rattle.link_script.specs.declared.script.PathLine.{PathLine}
use Rattle.link_script.specs.declared.script.Script.{Script}
use Rattle.path_core.specs.Octets.{octets}
use Rattle.path_core.specs.Values.{values}
use Rattle.world_laws.specs.Openings.{PathPlan, plan_of, plans_from, start_of}
use Rattle.world_laws.specs.RoundDone.{reached}
use Rattle.world_laws.specs.Worlds.{Turn}
use Rattle.whole_paths.specs.EachText.{EachTextDelivers, EachTextEnds, IsPathText}
use Rattle.whole_paths.specs.Finish.{rounds_in}
use Rattle.whole_paths.specs.FirstTexts.{JoinsAsNoBackup}
use Rattle.whole_paths.specs.ManyPaths.{patience_of_all}
use Rattle.whole_paths.specs.OverOctets.{IsAsFarAsOverValues}
use Rattle.whole_paths.specs.Serving.{ServesAt}
use Rattle.whole_paths.proofs.Backups.{who_is_no_backup_serves}
use Rattle.whole_paths.proofs.EachPath.{each_path_brings_all, each_whole_path_delivers, each_whole_path_ends}
use Rattle.whole_paths.proofs.ManyEnds.{ended_at}
use Rattle.whole_paths.proofs.ManyPaths.{starts_mildly}
use Rattle.whole_paths.proofs.NoPriorities.{regular_paths_tell_none}
use Rattle.whole_paths.proofs.OverOctets.{octets_are_as_far_as_values}

-- a path as it was planned says what its line says
line_of_plan : (script : Script) (first i : ℕ) (lines : List PathLine) (plan : PathPlan) → slice_get (plans_from script first lines) i ≡ Some plan
    → (line : PathLine) × (slice_get lines i ≡ Some line) × (plan.backup ≡ line.backup)
line_of_plan script first i [] plan there = cc
line_of_plan script first zero (line ∷ lines) plan there = (line, refl, ap (λ (p : PathPlan). p.backup) (sym (same_Some (plan_of script first line) plan there)))
line_of_plan script first (suc i) (line ∷ lines) plan there = line_of_plan script (suc first) i lines plan there

joins_so : (script : Script) (number : ℕ) (file_a file_b : List ℕ) → IsPathText script number file_a file_b → JoinsAsNoBackup number (start_of script file_a file_b)
joins_so script number file_a file_b text plan there =
    let line = line_of_plan script 0 number script.paths plan there in ⊎_elim (λ zeroth. inl zeroth) (λ none. inr (line.2 ∙ none)) (text.joins line.0 line.1)

pub serves_so : (script : Script) (number : ℕ) (file_a file_b : List ℕ) → IsPathText script number file_a file_b → (turns ts us : List Turn) → ts ++ us ≡ turns → ServesAt number (reached values (start_of script file_a file_b) ts)
serves_so script number file_a file_b text turns =
    let start = start_of script file_a file_b in
    who_is_no_backup_serves start number turns (regular_paths_tell_none start turns number (joins_so script number file_a file_b text) text.ranks)

pub each_text_delivers : EachTextDelivers values
each_text_delivers script number file_a file_b before more text brief lawful first last many =
    each_whole_path_delivers number script file_a file_b before more text.mild brief lawful first last (serves_so script number file_a file_b text (before ++ Turn.Round ∷ more)) many

pub each_text_ends : EachTextEnds values
each_text_ends script number file_a file_b before more text brief lawful first many =
    each_whole_path_ends number script file_a file_b before more text.mild brief lawful first (serves_so script number file_a file_b text (before ++ Turn.Round ∷ more)) many

-- ---- over octets

far : (script : Script) (number : ℕ) (file_a file_b : List ℕ) → IsPathText script number file_a file_b → (turns : List Turn) → IsAsFarAsOverValues (start_of script file_a file_b) turns
far script number file_a file_b text turns =
    let starts = starts_mildly script file_a file_b text.mild in octets_are_as_far_as_values (start_of script file_a file_b) turns starts.plain.size starts.fit

pub each_text_delivers_in_octets : EachTextDelivers octets
each_text_delivers_in_octets script number file_a file_b before more text brief lawful first last many =
    let whole = far script number file_a file_b text (before ++ Turn.Round ∷ more) in let begun = far script number file_a file_b text (before ++ Turn.Round ∷ []) in
    whole.outcome ∙ each_text_delivers script number file_a file_b before more text brief (whole.lawful.0 lawful) ((begun.whole number).0 first) ((whole.whole number).0 last)
    (subst (λ n. patience_of_all script file_a file_b n ≤ rounds_in more) (whole.harms number) many)

pub each_text_ends_in_octets : EachTextEnds octets
each_text_ends_in_octets script number file_a file_b before more text brief lawful first many =
    let whole = far script number file_a file_b text (before ++ Turn.Round ∷ more) in let begun = far script number file_a file_b text (before ++ Turn.Round ∷ []) in
    ended_at number (each_path_brings_all number) (start_of script file_a file_b) (starts_mildly script file_a file_b text.mild) (before ++ Turn.Round ∷ more)
    (each_text_ends script number file_a file_b before more text brief (whole.lawful.0 lawful) ((begun.whole number).0 first)
    (subst (λ n. patience_of_all script file_a file_b n ≤ rounds_in more) (whole.harms number) many))
