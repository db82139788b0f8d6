use Rattle.stream_apps.proofs.OnTime.{stops_on_time}
use Rattle.stream_apps.proofs.laws.fast_closes_are_on_time.Goals as goal

pub returns : goal.returns
returns c = stops_on_time
