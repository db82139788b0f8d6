use Rattle.std.proofs.Common.{◌≡◌, ◌+◌, ◌-◌, ◌≤◌, drop, subst, refl, sym, arith, ℕ}
use Rattle.std.specs.List.{prefix_len}
use Rattle.send_book.specs.Marks.{is_free_for}
use Rattle.send_book.specs.State.{acked_len}
use Rattle.send_book.specs.Kept.{all_marks}
use Rattle.send_book.proofs.KeptMarks.{run_len-value}
use Rattle.send_book.proofs.book.SendBook.run_len.Goals as goal

pub overflow_sub-free : goal.overflow_sub-free
overflow_sub-free c =
    let after : acked_len (all_marks c.self.inside.marks) ≤ c.args.from =
    subst (λ b. acked_len b.marks ≤ c.args.from) (sym c.self.view_is) c.requires.from in
    let up_to : c.free_up_to.result ≡ c.args.from + prefix_len (is_free_for c.args.path) (drop c.args.from (all_marks c.self.inside.marks)) =
    run_len-value c.args.path c.args.from _ c.self.inside.marks c.runs.result c.runs.ensures c.self.invariant.unacked after c.free_up_to.ensures in
    omega (arith, up_to)

pub returns : goal.returns
returns c =
    let after : acked_len (all_marks c.self.inside.marks) ≤ c.args.from =
    subst (λ b. acked_len b.marks ≤ c.args.from) (sym c.self.view_is) c.requires.from in
    let count : ℕ = prefix_len (is_free_for c.args.path) (drop c.args.from (all_marks c.self.inside.marks)) in
    let up_to : c.free_up_to.result ≡ c.args.from + count =
    run_len-value c.args.path c.args.from _ c.self.inside.marks c.runs.result c.runs.ensures c.self.invariant.unacked after c.free_up_to.ensures in
    let left : c.free_up_to.result - c.args.from ≡ count = omega (arith, up_to) in
    rw (← c.self.view_is, c.min-2.ensures, c.from.ensures, c.min.ensures, c.saturating_sub.ensures, left) refl
