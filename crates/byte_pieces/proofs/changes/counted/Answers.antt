use Rattle.std.proofs.Common.{◌≡◌, ◌-◌, ◌∙◌, ap, subst, ℕ, List, IfOk, take, drop, length, refl, arith}
use Rattle.byte_pieces.proofs.Filling.{drop-min, take-rest}
use Rattle.byte_pieces.proofs.changes.counted.Goals as goal

pub returns : goal.returns
returns c =
    let P : List ℕ → Type 0 = λ octets. IfOk c.slice.result (λ rest. rest ≡ octets) in
    subst P
    (ap (λ n. take (n - c.min-passed.result) (drop c.min-passed.result c.args.bytes.now)) c.len-len.ensures.value
    ∙ take-rest c.min-passed.result (length c.args.bytes.now - c.min-passed.result) c.args.bytes.now refl
    ∙ drop-min (c.args.from - c.args.at) c.min-passed.result c.args.bytes.now (omega (arith, c.min-passed.ensures, c.saturating_sub.ensures, c.len-len.ensures.value)))
    c.slice.ensures.ok
