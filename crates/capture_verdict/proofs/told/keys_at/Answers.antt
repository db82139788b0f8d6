use Rattle.std.proofs.Common.{◌∙◌}
use Rattle.seen_connections.proofs.Items.{lent-is}
use Rattle.capture_verdict.proofs.told.keys_at.Goals as goal

pub returns : goal.returns
returns c = c.copied.ensures ∙ lent-is c.args.connections.now c.args.number c.get.result c.get.ensures.lookup
