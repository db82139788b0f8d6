use Rattle.mptcp_view.specs.Asking.{as_asked}
use Rattle.mptcp_view.proofs.Refusing.{unbegun}
use Rattle.mptcp_view.proofs.messages.show_messages.Goals as goal

pub returns-in-Err : goal.returns-in-Err
returns-in-Err g c = unbegun (as_asked c.args.asked.now) _
