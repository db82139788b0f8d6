use Rattle.std.proofs.Common.{refl, []}
use Rattle.outside_kit.specs.Calls as call
use Rattle.outside_kit.specs.declared.port.Port.TheVariants.{ReadByB}
use Rattle.run_outside.proofs.Calls.{cut_first}
use Rattle.mptcp_view.proofs.showing.put_out.Goals as goal

pub returns-in-Err-Failed-clause-cut : goal.returns-in-Err-Failed-clause-cut
returns-in-Err-Failed-clause-cut g c = cut_first (call.Put ReadByB c.args.shown.now) [] _ _ _ refl c.in-Err-Failed.ensures.recorded

pub returns-in-Err-Memory-clause-cut : goal.returns-in-Err-Memory-clause-cut
returns-in-Err-Memory-clause-cut g c = cut_first (call.Put ReadByB c.args.shown.now) [] _ _ _ tt c.in-Err-Memory.ensures.recorded
