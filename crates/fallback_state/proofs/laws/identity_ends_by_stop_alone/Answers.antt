use Rattle.fallback_state.proofs.AfterAll.{identity_all, identity_stopped}
use Rattle.fallback_state.proofs.laws.identity_ends_by_stop_alone.Goals as goal

pub returns-clause-stays : goal.returns-clause-stays
returns-clause-stays c = identity_all

pub returns-clause-stops : goal.returns-clause-stops
returns-clause-stops c = identity_stopped
