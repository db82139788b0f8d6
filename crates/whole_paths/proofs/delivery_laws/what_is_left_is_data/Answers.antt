use Rattle.whole_paths.proofs.DataLeft as left
use Rattle.whole_paths.proofs.delivery_laws.what_is_left_is_data.Goals as goal

pub returns : goal.returns
returns c = left.each_path_has_data_left
