use Rattle.std.proofs.Common.{ap, option_map}
use Rattle.world_core.proofs.Lists.{beyond}
use Rattle.world_core.proofs.StepMade.{none_is, none_goes, none_rises, none_notes, advance_is, advance_rises, advance_hears, advance_sound, advance_shows}
use Rattle.world_core.proofs.stepping.advance.Goals as goal

pub returns-in-Some-clause-ok : goal.returns-in-Some-clause-ok
returns-in-Some-clause-ok g c =
    advance_is c.args.crew.now.items c.args.books.now c.step.new.books c.args.actor c.from.result c.in-Some.actor.now c.step.new.crew
    c.from.ensures c.in-Some.ensures.item.3.0 c.in-Some.ensures.value c.step.result c.step.ensures.crew c.step.ensures.books

pub returns-in-Some-clause-rises : goal.returns-in-Some-clause-rises
returns-in-Some-clause-rises g c =
    advance_rises c.args.crew.now.items c.args.books.now c.step.new.books c.args.actor c.from.result c.in-Some.actor.now c.step.new.crew
    c.from.ensures c.in-Some.ensures.item.3.0 c.in-Some.ensures.value c.step.result c.step.ensures.crew c.step.ensures.books c.step.ensures.rises

pub returns-in-Some-clause-hears : goal.returns-in-Some-clause-hears
returns-in-Some-clause-hears g c =
    advance_hears c.args.crew.now.items c.args.books.now c.step.new.books c.args.actor c.from.result c.in-Some.actor.now c.step.new.crew
    c.from.ensures c.in-Some.ensures.item.3.0 c.in-Some.ensures.value c.step.result c.step.ensures.crew c.step.ensures.books

pub returns-in-Some-clause-sound : goal.returns-in-Some-clause-sound
returns-in-Some-clause-sound g c =
    advance_sound c.args.crew.now.items c.args.books.now c.step.new.books c.args.actor c.from.result c.in-Some.actor.now c.step.new.crew
    c.from.ensures c.in-Some.ensures.item.3.0 c.in-Some.ensures.value c.step.result c.step.ensures.crew c.step.ensures.books c.step.ensures.few

pub returns-in-Some-clause-err : goal.returns-in-Some-clause-err
returns-in-Some-clause-err g c =
    advance_shows c.args.crew.now.items c.args.books.now c.step.new.books c.args.actor c.from.result c.in-Some.actor.now c.step.new.crew
    c.from.ensures c.in-Some.ensures.item.3.0 c.in-Some.ensures.value c.step.result c.step.ensures.member_err c.step.ensures.list_err

pub returns-in-None-clause-report : goal.returns-in-None-clause-report
returns-in-None-clause-report g c =
    ap (option_map g.R.Report.of) (none_notes c.args.crew.now.items c.args.books.now c.args.actor (beyond c.args.crew.now.items c.args.actor c.from.result c.from.ensures c.in-None.ensures.item.3))

pub returns-in-None-clause-going : goal.returns-in-None-clause-going
returns-in-None-clause-going g c =
    none_goes c.args.crew.now.items c.args.books.now c.args.actor (beyond c.args.crew.now.items c.args.actor c.from.result c.from.ensures c.in-None.ensures.item.3)

pub returns-in-None-clause-ok : goal.returns-in-None-clause-ok
returns-in-None-clause-ok g c =
    none_is c.args.crew.now.items c.args.books.now c.args.actor (beyond c.args.crew.now.items c.args.actor c.from.result c.from.ensures c.in-None.ensures.item.3)

pub returns-in-None-clause-rises : goal.returns-in-None-clause-rises
returns-in-None-clause-rises g c =
    none_rises c.args.crew.now.items c.args.books.now c.args.actor (beyond c.args.crew.now.items c.args.actor c.from.result c.from.ensures c.in-None.ensures.item.3)
