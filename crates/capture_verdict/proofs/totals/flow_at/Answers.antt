use Rattle.std.proofs.Common.{◌∙◌}
use Rattle.seen_connections.proofs.Items.{lent-is}
use Rattle.capture_verdict.proofs.totals.flow_at.Goals as goal

pub returns : goal.returns
returns c = c.copied.ensures ∙ lent-is c.args.flows.now c.args.index c.get.result c.get.ensures.lookup
