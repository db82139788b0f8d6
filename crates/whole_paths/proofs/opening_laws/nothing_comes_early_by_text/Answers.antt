use Rattle.whole_paths.proofs.QuietTexts.{nothing_comes_early_by_text}
use Rattle.whole_paths.proofs.opening_laws.nothing_comes_early_by_text.Goals as goal

pub returns : goal.returns
returns c = nothing_comes_early_by_text
