use Rattle.subflow_recv.proofs.Window.{outside_law}
use Rattle.subflow_recv.proofs.laws.outside_is_no_octet_in_the_window.Goals as goal

pub returns : goal.returns
returns c = outside_law
