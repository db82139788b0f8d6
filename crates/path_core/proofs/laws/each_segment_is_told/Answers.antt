use Rattle.path_core.proofs.Words.{octets, values}
use Rattle.path_core.proofs.SegmentsTold.{each_segment_is_told}
use Rattle.path_core.proofs.laws.each_segment_is_told.Goals as goal

pub returns-clause-octets : goal.returns-clause-octets
returns-clause-octets c = each_segment_is_told octets

pub returns-clause-values : goal.returns-clause-values
returns-clause-values c = each_segment_is_told values
