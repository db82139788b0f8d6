use Rattle.std.proofs.Common.{◌-◌, List, take, ◌∙◌, ap, subst, arith}
use Rattle.range_marks.specs.declared.run.Run.{Run}
use Rattle.range_marks.specs.Marks.{after_extend}
use Rattle.range_marks.specs.Runs.{marks_of}
use Rattle.std.proofs.lemmas.List.{take_all}
use Rattle.range_marks.proofs.SideBySide.{length-marks_of}
use Rattle.range_marks.proofs.Parts.{Copied, copied-none, copied-more, copied-all}
use Rattle.range_marks.proofs.marks.RangeMarks.extend_from.Goals as goal

pub extend-requires : goal.extend-requires
extend-requires g c =
    let whole = length-marks_of c.other.inside.runs.items c.other.inside.forgotten c.other.inside.len c.other.invariant.places in
    let within = rw (← c.other.view_is) at c.requires.within in
    omega (arith, whole, within, c.loop-run.invariant.within, c.len-in-loop-run.ensures.value)

pub loop-run-init : goal.loop-run-init
loop-run-init g c = copied-none c.args.other.now c.args.self.now c.args.to c.requires.begins c.requires.order

pub loop-run-preserved : goal.loop-run-preserved
loop-run-preserved g c =
    let P : List (Run g.row.M.Denot) → Type 0 = λ runs. Copied (record { forgotten = c.other.inside.forgotten; marks = marks_of c.other.inside.runs.items }) c.args.self.now c.loop-run.self c.other.inside.forgotten c.args.to (take c.loop-run.run-index runs) in
    let so = rw (← c.other.view_is) at c.loop-run.invariant in
    let begins = rw (← c.other.view_is) at c.requires.begins in
    let read = rw c.deref-run-items.ensures.value at c.run-item.is in
    rw (← c.other.view_is, c.deref-run-items.ensures.value)
    (copied-more c.other.inside.runs.items c.other.inside.forgotten c.other.inside.len c.loop-run.run-index c.run-item.result c.args.self.now c.loop-run.self c.extend.new.self c.max-end.result c.args.to
    c.other.invariant.places (omega arith) read begins (subst P c.deref-run-items.ensures.value so) (omega arith)
    (c.in_ok-extend.ensures.ok ∙ ap (λ n. after_extend (c.max-end.result - n) c.run-item.result.mark c.loop-run.self) c.len-in-loop-run.ensures.value))

pub returns : goal.returns
returns g c =
    let whole = length-marks_of c.other.inside.runs.items c.other.inside.forgotten c.other.inside.len c.other.invariant.places in
    let within = rw (← c.other.view_is) at c.requires.within in
    let P : List (Run g.row.M.Denot) → Type 0 = λ runs. Copied (record { forgotten = c.other.inside.forgotten; marks = marks_of c.other.inside.runs.items }) c.args.self.now c.loop-run.self c.other.inside.forgotten c.args.to runs in
    let so = rw (← c.other.view_is) at c.loop-run.invariant in
    let all = take_all c.loop-run.run-index c.deref-run-items.result.now (omega arith) ∙ c.deref-run-items.ensures.value in
    rw (← c.other.view_is)
    (copied-all c.other.inside.runs.items c.other.inside.forgotten c.other.inside.len c.args.to c.args.self.now c.loop-run.self c.other.invariant.places (omega (arith, within, whole)) (subst P all so))
