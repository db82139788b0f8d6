use Rattle.whole_paths.proofs.FullGrants as grants
use Rattle.whole_paths.proofs.debt_laws.each_grant_is_full.Goals as goal

pub returns : goal.returns
returns c = grants.each_grant_is_full
