use Rattle.fallback_state.proofs.AfterAll.{confirmed_all, joined_all_same}
use Rattle.fallback_state.proofs.laws.flags_never_fall_back.Goals as goal

pub returns-clause-confirmed : goal.returns-clause-confirmed
returns-clause-confirmed c = confirmed_all

pub returns-clause-joined : goal.returns-clause-joined
returns-clause-joined c = joined_all_same
