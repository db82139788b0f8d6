use Rattle.dss_mapping.proofs.LawsProved.{no_clash, opening_agrees, learning_agrees, infinite_agrees, forgetting_agrees}
use Rattle.dss_mapping.proofs.laws.one_record_never_clashes.Goals as goal

pub returns-clause-clash : goal.returns-clause-clash
returns-clause-clash c = no_clash

pub returns-clause-opening : goal.returns-clause-opening
returns-clause-opening c = opening_agrees

pub returns-clause-learned : goal.returns-clause-learned
returns-clause-learned c = learning_agrees

pub returns-clause-infinite : goal.returns-clause-infinite
returns-clause-infinite c = infinite_agrees

pub returns-clause-forgotten : goal.returns-clause-forgotten
returns-clause-forgotten c = forgetting_agrees
