use Rattle.std.proofs.Common.{◌∙◌, sym, ap, ◌+◌, drop, get_or}
use Rattle.std.proofs.lemmas.List.{at_drop_more, drop_all}
use Rattle.path_agenda.specs.Items.{place_in_first}
use Rattle.path_agenda.proofs.FirstDss.{dss_later}
use Rattle.path_agenda.proofs.items.place_in_first.Goals as goal

pub loop-index-preserved : goal.loop-index-preserved
loop-index-preserved c =
    let items = c.args.items.now in
    let index = c.loop-index.index in
    sym (at_drop_more place_in_first items index _ c.loop-index-test.true
    ∙ dss_later (get_or items index _) (drop (index + 1) items) (sym c.is_dss.ensures ∙ c.if-is_dss.false))
    ∙ c.loop-index.invariant

pub returns : goal.returns
returns c = sym (ap place_in_first (drop_all c.loop-index.index c.args.items.now c.loop-index-test.false)) ∙ c.loop-index.invariant
