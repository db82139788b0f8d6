use Rattle.std.proofs.Common.{◌≡◌, sym, ap, ◌∙◌, ℕ, ◌-◌, List, ◌++◌, take, arith}
use Rattle.std.specs.List.{concat}
use Rattle.byte_pieces.proofs.Taken.{part-taken}
use Rattle.reassembly_book.proofs.book.first_of.Goals as goal

pub loop-part-preserved : goal.loop-part-preserved
loop-part-preserved c =
    let text = c.loop-part.text in
    let left = c.loop-part.left in
    let taken = c.min-taken.result in
    let all : taken - 0 ≡ taken = omega arith in
    let pushed = c.in_ok-push.ensures.ok ∙ ap (λ (own : List ℕ). text ++ own) (c.in_ok-slice.ensures.ok ∙ ap (λ n. take n c.in-Some.part.now) all) in
    rw pushed
    (part-taken text left taken (left - taken) c.in-Some.part.now (concat c.next.new.self) (omega (arith, c.min-taken.ensures, c.len.ensures.value)) (omega arith)
    ∙ ap (λ (parts : List (List ℕ)). text ++ take left (concat parts)) (sym c.in-Some.ensures.steps)
    ∙ c.loop-part.invariant)
