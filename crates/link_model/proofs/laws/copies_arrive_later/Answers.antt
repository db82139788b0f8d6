use Rattle.std.proofs.Common.{◌≡◌, true}
use Rattle.link_model.proofs.Later.{sent_later}
use Rattle.link_model.proofs.laws.copies_arrive_later.Goals as goal

pub returns : goal.returns
returns c = λ true_of strip alter from octets length now link some all later. sent_later (λ f. true_of f ≡ true) strip alter from octets length now link some all later
