use Rattle.std.proofs.Common.{◌≡◌, ◌∙◌, sym, ap, subst, true, ℕ, List, arith}
use Rattle.byte_pieces.specs.Places.{PlacedBytes, after_put}
use Rattle.reassembly_book.specs.State.{IsSound}
use Rattle.reassembly_book.specs.Steps.{is_taken}
use Rattle.reassembly_book.specs.Kept.{as_arriving}
use Rattle.reassembly_book.proofs.Kept.{sound-put}
use Rattle.reassembly_book.proofs.book.ReassemblyBook.place.Goals as goal

pub invariant_of-self-2 : goal.invariant_of-self-2
invariant_of-self-2 c =
    let kept = c.self.inside.kept in
    let taken : is_taken c.args.at c.args.bytes.now c.args.self.now ≡ true = grind (arith, c.is_taken.ensures, c.if-not-is_taken.false) in
    let after = c.in_ok-put_shared.ensures.ok ∙ ap (λ (octets : List ℕ). after_put c.args.at octets kept) c.in_ok-shared.ensures in
    let shown = ap (λ (kept : PlacedBytes). as_arriving kept c.self.inside.capacity c.self.inside.known_end c.self.inside.aborted) after in (
      subst IsSound (sym shown)
          (sound-put c.args.at c.args.bytes.now kept c.self.inside.capacity c.self.inside.known_end c.self.inside.aborted (rw (← c.self.view_is) at taken) c.self.invariant.0),
      c.self.invariant.1,
    )
