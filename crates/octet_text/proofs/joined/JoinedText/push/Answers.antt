use Rattle.std.proofs.Common.{◌∙◌, ap, ◌++◌, length, length-append, arith}
use Rattle.std.specs.List.{concat}
use Rattle.bytes.proofs.Chunks.{concat_push}
use Rattle.octet_text.proofs.joined.JoinedText.push.Goals as goal

pub invariant_of-self-2 : goal.invariant_of-self-2
invariant_of-self-2 c =
    let old = c.self.inside.parts.items in
    let sizes = ap (λ l. length (concat l)) c.in_ok-push.ensures.items ∙ ap length (concat_push old c.args.part) ∙ length-append (concat old) c.args.part in
    omega (arith, sizes, c.in-Some.ensures, c.len.ensures.value, c.self.invariant)

pub returns-clause-ok : goal.returns-clause-ok
returns-clause-ok c =
    ap concat c.in_ok-push.ensures.items ∙ concat_push c.self.inside.parts.items c.args.part ∙ ap (λ l. l ++ c.args.part) c.self.view_is
