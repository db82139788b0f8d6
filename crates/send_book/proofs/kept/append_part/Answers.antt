use Rattle.std.proofs.Common.{◌∙◌, ap, refl}
use Rattle.range_marks.specs.Marks.{marks_len}
use Rattle.send_book.proofs.KeptMarks.{part-appended, part-len}
use Rattle.send_book.proofs.kept.append_part.Goals as goal

pub returns-clause-marks : goal.returns-clause-marks
returns-clause-marks c =
    part-appended c.args.change c.args.to c.args.marks.now c.args.new.now _ c.runs.result c.runs.ensures c.requires.kept c.requires.order
    c.in_ok-append_moved.ensures

pub returns-clause-len : goal.returns-clause-len
returns-clause-len c =
    ap marks_len
    (part-appended c.args.change c.args.to c.args.marks.now c.args.new.now _ c.runs.result c.runs.ensures c.requires.kept c.requires.order
    c.in_ok-append_moved.ensures)
    ∙ part-len c.args.change _ c.args.to c.args.marks.now c.args.new.now c.requires.kept c.requires.order c.requires.within refl
