use Rattle.whole_paths.proofs.Handshaking as handshaking
use Rattle.whole_paths.proofs.OpeningWaits as waits
use Rattle.whole_paths.proofs.delivery_laws.openings_are_awaited.Goals as goal

pub returns-clause-waits : goal.returns-clause-waits
returns-clause-waits c = waits.openings_are_awaited

pub returns-clause-which : goal.returns-clause-which
returns-clause-which c = waits.ends_open_or_are_past

pub returns-clause-living : goal.returns-clause-living
returns-clause-living c = handshaking.living_ends_open_or_are_past
