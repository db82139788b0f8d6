use Rattle.whole_paths.proofs.RoundBegins as rounds
use Rattle.whole_paths.proofs.delivery_laws.no_round_counts.Goals as goal

pub returns : goal.returns
returns c = rounds.no_round_counts
