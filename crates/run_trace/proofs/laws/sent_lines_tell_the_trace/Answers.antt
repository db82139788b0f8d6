use Rattle.run_trace.proofs.Telling.{sent_lines_tell}
use Rattle.run_trace.proofs.laws.sent_lines_tell_the_trace.Goals as goal

pub returns : goal.returns
returns c = sent_lines_tell
