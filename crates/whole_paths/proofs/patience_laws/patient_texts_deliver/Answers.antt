use Rattle.whole_paths.proofs.PatientTexts.{few_losses_finish_by_text, few_losses_finish_by_text_in_octets, patient_text_ends, patient_text_ends_in_octets, patient_texts_end}
use Rattle.whole_paths.proofs.patience_laws.patient_texts_deliver.Goals as goal

pub returns-clause-ends_octets : goal.returns-clause-ends_octets
returns-clause-ends_octets c = patient_texts_end.1

pub returns-clause-ends_values : goal.returns-clause-ends_values
returns-clause-ends_values c = patient_texts_end.0

pub returns-clause-few_octets : goal.returns-clause-few_octets
returns-clause-few_octets c = few_losses_finish_by_text_in_octets

pub returns-clause-few_values : goal.returns-clause-few_values
returns-clause-few_values c = few_losses_finish_by_text

pub returns-clause-octets : goal.returns-clause-octets
returns-clause-octets c = patient_text_ends_in_octets

pub returns-clause-values : goal.returns-clause-values
returns-clause-values c = patient_text_ends
