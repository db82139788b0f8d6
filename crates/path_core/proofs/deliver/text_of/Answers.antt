use Rattle.path_core.proofs.Words.{refl, sym, ap, ◌∙◌, ℕ, ◌-◌, List, ◌++◌, take, arith, concat}
use Rattle.path_store.proofs.Parts.{part-taken}
use Rattle.path_core.proofs.deliver.text_of.Goals as goal

pub loop-part-preserved : goal.loop-part-preserved
loop-part-preserved c =
    let text = c.loop-part.text in
    let left = c.loop-part.left in
    let taken = c.min-taken.result in
    rw c.in_ok-put_part.ensures
    (part-taken text left taken (left - taken) c.in-Some.part.now (concat c.next.new.self) (omega (arith, c.min-taken.ensures)) refl
    ∙ ap (λ (parts : List (List ℕ)). text ++ take left (concat parts)) (sym c.in-Some.ensures.steps)
    ∙ c.loop-part.invariant)
