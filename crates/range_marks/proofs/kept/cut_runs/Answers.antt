use Rattle.std.proofs.Common.{ap, ◌∙◌, refl, sym, true≢false, arith}
use Rattle.range_marks.specs.Runs.{begun_before}
use Rattle.range_marks.proofs.Cutting.{runs_below-set, runs_below-empty}
use Rattle.range_marks.proofs.kept.cut_runs.Goals as goal

pub returns-in-Some : goal.returns-in-Some
returns-in-Some g c = λ from to side.
    rw c.min-last.ensures (runs_below-set c.args.runs.now.items c.truncate.new.self.items from to c.args.place c.begun_before-begun.result _ c.in-Some.last.now
    side (c.begun_before-begun.ensures.value ∙ ap (begun_before c.args.place) c.deref.ensures.value) c.truncate.ensures.items (omega (arith, c.in-Some.ensures.variant.0 refl, c.truncate.ensures.len)) c.in-Some.ensures.value)

pub returns-in_default : goal.returns-in_default
returns-in_default g c = λ from to side.
    runs_below-empty c.args.runs.now.items c.truncate.new.self.items c.args.place c.begun_before-begun.result
    (c.begun_before-begun.ensures.value ∙ ap (begun_before c.args.place) c.deref.ensures.value) c.truncate.ensures.items (omega (arith, c.truncate.ensures.len)) (λ some. true≢false (sym (c.in_default.ensures.variant.1 (omega arith))))
