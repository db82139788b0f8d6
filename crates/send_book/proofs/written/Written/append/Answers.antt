use Rattle.std.proofs.Common.{◌≡◌, ◌∙◌, sym, ap, subst, ℕ, ◌+◌, List, [], ◌∷◌, ◌++◌, arith}
use Rattle.send_book.specs.declared.written.Part.{Part}
use Rattle.send_book.specs.Written.{joined, Follow}
use Rattle.send_book.proofs.Parts.{joined-push, follow-push}
use Rattle.send_book.proofs.written.Written.append.Goals as goal

pub invariant_of-self-then-not-is_empty : goal.invariant_of-self-then-not-is_empty
invariant_of-self-then-not-is_empty c =
    let p : Part = record { end = c.len.result + c.len-2.result; octets = c.args.octets } in
    let pushed : c.push_reserved.new.parts.items ≡ c.reserve.new.self.items ++ p ∷ [] = c.push_reserved.ensures in
    let same : c.reserve.new.self.items ≡ c.self.inside.parts.items = c.reserve.ensures.items in
    let whole = rw (← c.self.view_is) at c.requires.whole in
    subst (λ (ps : List Part). Follow 0 ps) (sym (pushed ∙ ap (λ (ps : List Part). ps ++ p ∷ []) same))
    (follow-push 0 c.self.inside.parts.items p c.self.invariant (omega (arith, c.len.ensures.value, c.len-2.ensures, whole)))

pub returns-then-not-is_empty-clause-written : goal.returns-then-not-is_empty-clause-written
returns-then-not-is_empty-clause-written c =
    let p : Part = record { end = c.len.result + c.len-2.result; octets = c.args.octets } in
    let pushed : c.push_reserved.new.parts.items ≡ c.reserve.new.self.items ++ p ∷ [] = c.push_reserved.ensures in
    let same : c.reserve.new.self.items ≡ c.self.inside.parts.items = c.reserve.ensures.items in
    ap joined (pushed ∙ ap (λ (ps : List Part). ps ++ p ∷ []) same)
    ∙ joined-push c.self.inside.parts.items p
    ∙ ap (λ (xs : List ℕ). xs ++ c.args.octets) c.self.view_is
