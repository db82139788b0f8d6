use Rattle.std.proofs.Common.{◌∙◌, sym, ap}
use Rattle.std.specs.List.{concat}
use Rattle.reassembly_book.specs.State.{filled}
use Rattle.reassembly_book.proofs.Kept.{none-first, some-first}
use Rattle.reassembly_book.proofs.book.ReassemblyBook.front.Goals as goal

pub returns-in-Some-clause-none : goal.returns-in-Some-clause-none
returns-in-Some-clause-none c =
    let parts = c.in-Some.ensures.steps in
    let whole = sym c.in_order.ensures.bytes ∙ ap concat parts in (
      λ e. some-first c.in_order.result c.in-Some.first.now c.next.new.self c.in_order.ensures.some parts (sym c.as_slice.ensures ∙ e),
      λ e. c.as_slice.ensures ∙ none-first c.in-Some.first.now (concat c.next.new.self) (sym whole ∙ ap (λ b. filled b.places) c.self.view_is ∙ e),
    )
