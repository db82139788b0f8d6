use Rattle.std.proofs.Common.{◌≡◌, ◌∙◌, refl, ap, ℕ, ◌+◌, ◌-◌, min, List, ◌++◌, length, take, drop, arith}
use Rattle.send_book.specs.Written.{joined}
use Rattle.send_book.proofs.Parts.{gathered}
use Rattle.send_book.proofs.written.gather.Goals as goal

pub loop-part-preserved : goal.loop-part-preserved
loop-part-preserved c =
    let ps = c.args.parts.now in
    let i = c.loop-part.part-index in
    let from = c.min-from.result in
    let taken = c.min-taken.result in
    let same : c.as_bytes-octets.result.now ≡ c.part-item.result.octets = c.as_bytes-octets.ensures in
    let part : List ℕ = take (from + taken - from) (drop from c.as_bytes-octets.result.now) in
    let cut : part ≡ take taken (drop from c.part-item.result.octets) =
    ap (λ (n : ℕ). take n (drop from c.as_bytes-octets.result.now)) (omega arith) ∙ ap (λ (xs : List ℕ). take taken (drop from xs)) same in
    let first : from ≡ min c.loop-part.passed (length c.part-item.result.octets) = c.min-from.ensures ∙ ap (λ (xs : List ℕ). min c.loop-part.passed (length xs)) same in
    let most : taken ≡ min c.loop-part.left (length c.part-item.result.octets - from) =
    c.min-taken.ensures ∙ ap (λ (xs : List ℕ). min c.loop-part.left (length xs - from)) same in
    ap (λ (xs : List ℕ). xs ++ take (c.loop-part.left - taken) (drop (c.loop-part.passed - from) (joined (drop (i + 1) ps)))) c.in_ok-append.ensures.ok
    ∙ gathered ps i c.part-item.result c.loop-part.text part c.loop-part.passed c.loop-part.left from taken (c.loop-part.passed - from) (c.loop-part.left - taken) _
    (omega arith) c.part-item.is c.loop-part.invariant first most refl refl cut
