use Rattle.whole_paths.proofs.EdgeRises as rises
use Rattle.whole_paths.proofs.expiry_laws.each_rise_ends_the_row.Goals as goal

pub returns-clause-row : goal.returns-clause-row
returns-clause-row c = rises.each_rise_ends_the_row

pub returns-clause-early : goal.returns-clause-early
returns-clause-early c = rises.edges_wait_for_the_handshake
