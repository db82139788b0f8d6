use Rattle.std.proofs.Common.{◌∙◌}
use Rattle.mptcp_view.proofs.Answering.{table_shown}
use Rattle.mptcp_view.proofs.showing.shown.Goals as goal

pub returns-in_ok-rates_of-in-Summary : goal.returns-in_ok-rates_of-in-Summary
returns-in_ok-rates_of-in-Summary c =
    table_shown (λ v. v.items) c.args.view c.args.script.now c.args.world.now.state c.args.measured.now c.args.told.now c.deref-in-Summary.result.now c.deref-in-Summary-2.result.now c.in-Summary.is
    (c.deref-in-Summary.ensures.value ∙ c.in_ok-rates_of-in-Summary.ensures)
    (c.deref-in-Summary-2.ensures.value ∙ c.in_ok-carried-in-Summary.ensures) c.summary.result c.summary.ensures
