use Rattle.link_model.proofs.Plain.{sent_last, sent_before_next}
use Rattle.link_model.proofs.laws.plain_links_keep_their_order.Goals as goal

pub returns-clause-last : goal.returns-clause-last
returns-clause-last c = λ strip alter from octets length now link plain order sent. sent_last strip alter from octets length now link plain order sent

pub returns-clause-next : goal.returns-clause-next
returns-clause-next c = λ strip alter from octets length now later link plain order low sent. sent_before_next strip alter from octets length now later link plain order low sent
