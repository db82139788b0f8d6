use Rattle.link_model.proofs.Waits.{rate_is_kept}
use Rattle.link_model.proofs.laws.rates_are_kept.Goals as goal

pub returns : goal.returns
returns c = λ rate waiting segments some later. rate_is_kept rate some waiting segments later
