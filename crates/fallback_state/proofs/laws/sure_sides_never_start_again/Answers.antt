use Rattle.fallback_state.proofs.AfterAll.{started_all}
use Rattle.fallback_state.proofs.laws.sure_sides_never_start_again.Goals as goal

pub returns : goal.returns
returns c = started_all
