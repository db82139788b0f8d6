use Rattle.fallback_state.proofs.AfterAll.{aborted_all}
use Rattle.fallback_state.proofs.laws.aborted_sides_stay_aborted.Goals as goal

pub returns : goal.returns
returns c = aborted_all
