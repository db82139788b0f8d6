use Rattle.dss_mapping.proofs.RunsInOrder.{sound_at}
use Rattle.dss_mapping.proofs.ordered.absorb.Goals as goal

pub joins-requires-clause-other : goal.joins-requires-clause-other
joins-requires-clause-other c =
    sound_at 0 c.loop-index.index c.args.runs.now (record { pos = 0; place = 0; to = 0 }) c.requires.ordered c.loop-index-test.true

pub joined-joined-requires-clause-other : goal.joined-joined-requires-clause-other
joined-joined-requires-clause-other c =
    sound_at 0 c.loop-index.index c.args.runs.now (record { pos = 0; place = 0; to = 0 }) c.requires.ordered c.loop-index-test.true
