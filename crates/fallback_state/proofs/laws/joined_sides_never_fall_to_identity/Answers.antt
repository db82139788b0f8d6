use Rattle.fallback_state.proofs.AfterAll.{joined_all}
use Rattle.fallback_state.proofs.laws.joined_sides_never_fall_to_identity.Goals as goal

pub returns : goal.returns
returns c = joined_all
