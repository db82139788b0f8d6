use Rattle.whole_paths.proofs.FirstWindows.{b_is_idle_before}
use Rattle.whole_paths.proofs.delivery_laws.b_is_idle_before.Goals as goal

pub returns : goal.returns
returns c = b_is_idle_before
