-- The initial numbers of paths, row by row.
use Rattle.std.proofs.Common.{◌≡◌, sym, ap, subst, ◌∙◌, ℕ, suc, ◌+◌, ◌<◌, false, List, [], ◌∷◌, ◌++◌, drop, length, get_or, append_assoc, arith}
use Rattle.std.proofs.lemmas.List.{at_drop_more}
use Rattle.link_script.specs.declared.script.PathLine.{PathLine}
use Rattle.link_script.specs.declared.script.Script.{Script}
use Rattle.link_trace.specs.declared.carried.PathInitials.{PathInitials}
use Rattle.world_laws.specs.Openings.{plan_of, plans_from}
use Rattle.run_trace.specs.Initials.{initials_of, plan_initials}

abbrev any_line : PathLine
any_line = record { mss = 0; delay = 0; join = 0; backup = false }

-- a path more
pub initials_more : (script : Script) (lines : List PathLine) (path : ℕ) (old new whole : List PathInitials) (r : PathInitials) → path < length lines
    → old ++ initials_of (plans_from script path (drop path lines)) ≡ whole → new ≡ old ++ r ∷ [] → ((line : PathLine) → r ≡ plan_initials (plan_of script path line))
    → new ++ initials_of (plans_from script (path + 1) (drop (path + 1) lines)) ≡ whole
initials_more script lines path old new whole r within before new_is r_is =
    let line : PathLine = get_or lines path any_line in
    let rest : List PathInitials = initials_of (plans_from script (path + 1) (drop (path + 1) lines)) in
    let next : suc path ≡ path + 1 = omega arith in
    subst (λ (xs : List PathInitials). xs ++ rest ≡ whole) (sym new_is)
    (append_assoc old (r ∷ []) rest
    ∙ ap (λ (x : PathInitials). old ++ x ∷ rest) (r_is line)
    ∙ ap (λ (n : ℕ). old ++ plan_initials (plan_of script path line) ∷ initials_of (plans_from script n (drop (path + 1) lines))) (sym next)
    ∙ ap (λ (xs : List PathInitials). old ++ xs) (sym (at_drop_more (λ (ls : List PathLine). initials_of (plans_from script path ls)) lines path any_line within))
    ∙ before)
