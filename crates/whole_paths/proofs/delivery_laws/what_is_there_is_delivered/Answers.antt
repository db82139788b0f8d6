use Rattle.whole_paths.proofs.Delivery as delivery
use Rattle.whole_paths.proofs.delivery_laws.what_is_there_is_delivered.Goals as goal

pub returns-clause-stays : goal.returns-clause-stays
returns-clause-stays c = delivery.what_is_there_stays

pub returns-clause-delivers : goal.returns-clause-delivers
returns-clause-delivers c = delivery.all_there_is_delivered
