use Rattle.whole_paths.proofs.FewLines as few_lines
use Rattle.whole_paths.proofs.FewLossesDeliver as losses
use Rattle.whole_paths.proofs.expiry_laws.few_losses_finish.Goals as goal

pub returns-clause-none_octets : goal.returns-clause-none_octets
returns-clause-none_octets c = losses.few_losses_end_none_in_octets

pub returns-clause-none_values : goal.returns-clause-none_values
returns-clause-none_values c = losses.few_losses_end_none

pub returns-clause-octets : goal.returns-clause-octets
returns-clause-octets c = losses.few_losses_finish_in_octets

pub returns-clause-values : goal.returns-clause-values
returns-clause-values c = losses.few_losses_finish

pub returns-clause-lines_octets : goal.returns-clause-lines_octets
returns-clause-lines_octets c = few_lines.few_lines_finish_in_octets

pub returns-clause-lines_values : goal.returns-clause-lines_values
returns-clause-lines_values c = few_lines.few_lines_finish
