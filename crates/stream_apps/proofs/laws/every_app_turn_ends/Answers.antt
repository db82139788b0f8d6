use Rattle.stream_apps.proofs.AppEnds.{app_turn_ends}
use Rattle.stream_apps.proofs.laws.every_app_turn_ends.Goals as goal

pub returns : goal.returns
returns c = app_turn_ends
