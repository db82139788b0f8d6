use Rattle.whole_paths.proofs.PatientPaths as patient
use Rattle.whole_paths.proofs.patience_laws.patient_paths_deliver.Goals as goal

pub returns-clause-ends_octets : goal.returns-clause-ends_octets
returns-clause-ends_octets c = patient.patient_paths_end.1

pub returns-clause-ends_values : goal.returns-clause-ends_values
returns-clause-ends_values c = patient.patient_paths_end.0

pub returns-clause-few_octets : goal.returns-clause-few_octets
returns-clause-few_octets c = patient.few_losses_finish_patiently_in_octets

pub returns-clause-few_values : goal.returns-clause-few_values
returns-clause-few_values c = patient.few_losses_finish_patiently

pub returns-clause-octets : goal.returns-clause-octets
returns-clause-octets c = patient.patient_path_ends_in_octets

pub returns-clause-values : goal.returns-clause-values
returns-clause-values c = patient.patient_path_ends
