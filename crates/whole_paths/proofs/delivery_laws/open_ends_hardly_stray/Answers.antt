use Rattle.whole_paths.proofs.Straying as straying
use Rattle.whole_paths.proofs.delivery_laws.open_ends_hardly_stray.Goals as goal

pub returns-clause-stray : goal.returns-clause-stray
returns-clause-stray c = straying.open_ends_hardly_stray

pub returns-clause-senders : goal.returns-clause-senders
returns-clause-senders c = straying.senders_hardly_stray

pub returns-clause-between : goal.returns-clause-between
returns-clause-between c = straying.whole_paths_are_open
