use Rattle.stream_apps.proofs.Asking.{app_asks_can}
use Rattle.stream_apps.proofs.laws.applications_ask_what_can_be_asked.Goals as goal

pub returns : goal.returns
returns c = app_asks_can
