use Rattle.std.proofs.Common.{ap, ◌∙◌, refl, sym, true≢false, arith}
use Rattle.range_marks.specs.Runs.{ended_by}
use Rattle.range_marks.proofs.Cutting.{runs_from-set, runs_from-empty}
use Rattle.range_marks.proofs.kept.drop_runs.Goals as goal

pub returns-in-Some : goal.returns-in-Some
returns-in-Some g c =
    rw c.max-first.ensures (runs_from-set c.args.runs.now.items c.remove_first.new.runs.items c.args.place c.ended_by-ended.result c.in-Some.first.now
    (c.ended_by-ended.ensures.value ∙ ap (ended_by c.args.place) c.deref.ensures.value) c.remove_first.ensures (omega (arith, c.in-Some.ensures.variant.0 refl)) c.in-Some.ensures.value)

pub returns-in_default : goal.returns-in_default
returns-in_default g c =
    runs_from-empty c.args.runs.now.items c.remove_first.new.runs.items c.args.place c.ended_by-ended.result
    (c.ended_by-ended.ensures.value ∙ ap (ended_by c.args.place) c.deref.ensures.value) c.remove_first.ensures (λ some. true≢false (sym (c.in_default.ensures.variant.1 (omega arith))))
