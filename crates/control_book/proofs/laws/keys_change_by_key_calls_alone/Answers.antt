use Rattle.control_book.proofs.Kept.{keys_all}
use Rattle.control_book.proofs.laws.keys_change_by_key_calls_alone.Goals as goal

pub returns : goal.returns
returns c = keys_all
