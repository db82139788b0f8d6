use Rattle.whole_paths.proofs.ShutWaits as waits
use Rattle.whole_paths.proofs.delivery_laws.shut_windows_open_in_time.Goals as goal

pub returns : goal.returns
returns c = waits.shut_windows_open_in_time
