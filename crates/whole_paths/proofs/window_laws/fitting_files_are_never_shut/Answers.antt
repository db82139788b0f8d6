use Rattle.whole_paths.proofs.FilesFit.{fitting_files_are_never_shut}
use Rattle.whole_paths.proofs.window_laws.fitting_files_are_never_shut.Goals as goal

pub returns : goal.returns
returns c = fitting_files_are_never_shut
