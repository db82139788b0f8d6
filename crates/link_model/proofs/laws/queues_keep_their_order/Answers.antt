use Rattle.link_model.proofs.Queued.{sent_behind, sent_after}
use Rattle.link_model.proofs.laws.queues_keep_their_order.Goals as goal

pub returns-clause-behind : goal.returns-clause-behind
returns-clause-behind c = λ strip alter from octets length now link is plain order before. sent_behind strip alter from octets length now link is plain order before

pub returns-clause-next : goal.returns-clause-next
returns-clause-next c = λ strip alter from octets length now later link is plain order le before. sent_after strip alter from octets length now later link is plain order le before
