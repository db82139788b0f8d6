use Rattle.world_core.proofs.AtBooks.{reported, crew_is, books_is, rises}
use Rattle.world_core.proofs.crew.step.Goals as goal

pub returns-clause-report : goal.returns-clause-report
returns-clause-report g c =
    reported g.R.Report.of c.args.crew.now c.step.new.crew c.args.books.now c.step.new.desk c.step.result c.step.ensures.made c.step.ensures.over

pub returns-clause-crew : goal.returns-clause-crew
returns-clause-crew g c =
    crew_is g.R.Report.of c.args.crew.now c.step.new.crew c.args.books.now c.step.new.desk c.step.result c.step.ensures.refused
    c.step.ensures.made c.step.ensures.over c.step.ensures.rests

pub returns-clause-books : goal.returns-clause-books
returns-clause-books g c =
    books_is g.R.Report.of c.args.crew.now c.step.new.crew c.args.books.now c.step.new.desk c.step.result
    c.step.ensures.made c.step.ensures.over c.step.ensures.quiet

pub returns-clause-rises : goal.returns-clause-rises
returns-clause-rises g c =
    rises g.R.Report.of c.args.crew.now c.step.new.crew c.args.books.now c.step.new.desk c.step.result c.step.ensures.made c.step.ensures.over
