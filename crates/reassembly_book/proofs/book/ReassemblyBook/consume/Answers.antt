use Rattle.std.proofs.Common.{◌∙◌, sym, ap, subst, ◌+◌}
use Rattle.byte_pieces.specs.Places.{after_drop_front}
use Rattle.reassembly_book.specs.State.{IsSound}
use Rattle.reassembly_book.specs.Kept.{as_arriving}
use Rattle.reassembly_book.proofs.Bounds.{sound-reading}
use Rattle.reassembly_book.proofs.Kept.{consumed}
use Rattle.reassembly_book.proofs.book.ReassemblyBook.consume.Goals as goal

pub invariant_of-self : goal.invariant_of-self
invariant_of-self c =
    let kept = c.self.inside.kept in
    let within = rw (← c.self.view_is) at c.requires in
    let after = c.drop_front.ensures ∙ ap (λ n. after_drop_front (n + c.args.n) kept) c.start.ensures.value in
    let shown = ap (λ kept. as_arriving kept c.self.inside.capacity c.self.inside.known_end c.self.inside.aborted) after
    ∙ consumed c.args.n kept c.self.inside.capacity c.self.inside.known_end c.self.inside.aborted within in
    (subst IsSound (sym shown) (sound-reading c.args.n _ c.self.invariant.0), c.self.invariant.1)
