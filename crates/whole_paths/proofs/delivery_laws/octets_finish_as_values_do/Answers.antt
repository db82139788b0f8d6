use Rattle.whole_paths.proofs.OverOctets as over_octets
use Rattle.whole_paths.proofs.delivery_laws.octets_finish_as_values_do.Goals as goal

pub returns-clause-as_far : goal.returns-clause-as_far
returns-clause-as_far c = over_octets.octets_are_as_far_as_values

pub returns-clause-deliver : goal.returns-clause-deliver
returns-clause-deliver c = over_octets.whole_paths_deliver_as_over_values

pub returns-clause-end : goal.returns-clause-end
returns-clause-end c = over_octets.one_path_ends_as_over_values

pub returns-clause-finish : goal.returns-clause-finish
returns-clause-finish c = over_octets.few_losses_finish_as_over_values

pub returns-clause-brief : goal.returns-clause-brief
returns-clause-brief c = over_octets.brief_paths_deliver_as_over_values
