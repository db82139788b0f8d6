use Rattle.whole_paths.proofs.WindowRoom as room
use Rattle.whole_paths.proofs.near_laws.windows_have_room.Goals as goal

pub returns-clause-one : goal.returns-clause-one
returns-clause-one c = room.one_path_is_roomy

pub returns-clause-short : goal.returns-clause-short
returns-clause-short c = room.short_files_are_roomy

pub returns-clause-unfinished : goal.returns-clause-unfinished
returns-clause-unfinished c = room.unfinished_windows_have_room
