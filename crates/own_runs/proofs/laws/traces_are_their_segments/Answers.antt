use Rattle.own_runs.proofs.Fitting.{traces_fit}
use Rattle.own_runs.proofs.Traces.{segments_are, traces_are}
use Rattle.own_runs.proofs.laws.traces_are_their_segments.Goals as goal

pub returns-clause-packets : goal.returns-clause-packets
returns-clause-packets c = traces_are

pub returns-clause-segments : goal.returns-clause-segments
returns-clause-segments c = segments_are

pub returns-clause-runs : goal.returns-clause-runs
returns-clause-runs c = traces_fit
