use Rattle.whole_paths.proofs.ShutWindows as windows
use Rattle.whole_paths.proofs.delivery_laws.shut_windows_have_room.Goals as goal

pub returns : goal.returns
returns c = windows.shut_windows_have_room
