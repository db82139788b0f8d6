use Rattle.whole_paths.proofs.AnsweredWindows as answered
use Rattle.whole_paths.proofs.WindowRoom as room
use Rattle.whole_paths.proofs.delivery_laws.each_window_has_room.Goals as goal

pub returns-clause-living : goal.returns-clause-living
returns-clause-living c = room.living_windows_have_room

pub returns-clause-opened : goal.returns-clause-opened
returns-clause-opened c = room.each_window_has_room

pub returns-clause-unshut : goal.returns-clause-unshut
returns-clause-unshut c = answered.no_window_is_shut_before
