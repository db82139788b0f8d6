use Rattle.std.proofs.Common.{◌≡◌, ◌≤◌, ◌-◌, ℕ, ap, subst, ◌∙◌, length, get_or, arith}
use Rattle.std.specs.VecDeque.{deque_len}
use Rattle.std.proofs.lemmas.Bool.{leb-true}
use Rattle.std.proofs.lemmas.List.{get_or_read_under}
use Rattle.std.proofs.lemmas.List.Sorted.{IsNonDecreasingBy-push}
use Rattle.dss_mapping.specs.declared.kept.KeptMapping.{KeptMapping}
use Rattle.dss_mapping.specs.declared.run.Run.{Run}
use Rattle.dss_mapping.specs.Live.{end_of}
use Rattle.dss_mapping.proofs.live.ends_last.Goals as goal

pub returns-in-Some : goal.returns-in-Some
returns-in-Some c = λ is.
    let items = c.args.rising.now.items in
    let count : deque_len c.args.rising.now ≡ length items = omega arith in
    let le = leb-true _ _ is in
    let last = ap (λ (run : Run). run.to) c.run.ensures.value in
    let next = ap (λ (run : Run). run.to) c.run-in-Some.ensures.value in
    IsNonDecreasingBy-push end_of items c.args.kept c.requires
    (λ d some.
    subst (λ (kept : KeptMapping). end_of kept ≤ end_of c.args.kept)
    (get_or_read_under items (deque_len c.args.rising.now - 1) (deque_len c.args.rising.now) c.in-Some.last.now d c.in-Some.ensures.lookup (omega (arith, some, count)) count
    ∙ ap (λ (n : ℕ). get_or items (n - 1) d) count)
    (omega (arith, le, last, next)))
