use Rattle.std.proofs.Common.{[], ap, ◌∙◌, arith}
use Rattle.range_marks.specs.Marks.{marks_len, part, followed_by}
use Rattle.range_marks.proofs.SideBySide.{length-marks_of}
use Rattle.range_marks.proofs.Parts.{kept_len, marked_is}
use Rattle.range_marks.proofs.marks.RangeMarks.marked.Goals as goal

pub all_forgotten-requires : goal.all_forgotten-requires
all_forgotten-requires g c =
    let whole = length-marks_of c.self.inside.runs.items c.self.inside.forgotten c.self.inside.len c.self.invariant.places in
    let own = rw (← c.self.view_is) at c.forgotten.ensures.value in
    omega (arith, whole, own, c.self.invariant.bound)

pub extend-requires : goal.extend-requires
extend-requires g c =
    let whole = length-marks_of c.self.inside.runs.items c.self.inside.forgotten c.self.inside.len c.self.invariant.places in
    let within = rw (← c.self.view_is) at c.requires.within in
    let begun = c.in_ok-marked.ensures ∙ ap (λ n. record { forgotten = n; marks = [] }) c.forgotten.ensures.value in
    let kept = kept_len c.args.self.now c.in_ok-marked.marked c.extend_from.new.self c.args.from c.requires.kept (omega (arith, c.requires.order, c.requires.within)) begun c.in_ok-extend_from.ensures in
    omega (arith, whole, within, kept.1, c.self.invariant.bound)

pub returns : goal.returns
returns g c =
    marked_is c.args.self.now c.in_ok-marked.marked c.extend_from.new.self c.extend.new.self c.extend_from-2.new.self c.args.from c.args.to c.args.mark
    c.requires.kept c.requires.order c.requires.within
    (c.in_ok-marked.ensures ∙ ap (λ n. record { forgotten = n; marks = [] }) c.forgotten.ensures.value)
    c.in_ok-extend_from.ensures c.in_ok-extend.ensures.ok
    (c.in_ok-extend_from-2.ensures ∙ ap (λ n. followed_by (part (marks_len c.extend.new.self) n c.args.self.now) c.extend.new.self) c.len-2.ensures.value)
