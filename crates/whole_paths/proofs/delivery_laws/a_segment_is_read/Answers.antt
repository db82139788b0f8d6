use Rattle.whole_paths.proofs.ReadSegments as reading
use Rattle.whole_paths.proofs.SegmentRounds as segments
use Rattle.whole_paths.proofs.delivery_laws.a_segment_is_read.Goals as goal

pub returns-clause-brought : goal.returns-clause-brought
returns-clause-brought c = segments.four_rounds_bring

pub returns-clause-told : goal.returns-clause-told
returns-clause-told c = segments.four_rounds_tell

pub returns-clause-read : goal.returns-clause-read
returns-clause-read c = reading.a_segment_is_read
