use Rattle.link_model.proofs.Shown.{sent_shown}
use Rattle.link_model.proofs.laws.sending_commutes_with_showing.Goals as goal

pub returns : goal.returns
returns c = λ show strip alter strip' alter' s a from carried length now link. sent_shown show strip alter strip' alter' s a from carried length now link
