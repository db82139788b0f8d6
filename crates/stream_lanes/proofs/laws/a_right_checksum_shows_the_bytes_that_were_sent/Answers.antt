use Rattle.stream_lanes.proofs.Promises.{checksums_show}
use Rattle.stream_lanes.proofs.laws.a_right_checksum_shows_the_bytes_that_were_sent.Goals as goal

pub returns : goal.returns
returns c = checksums_show
