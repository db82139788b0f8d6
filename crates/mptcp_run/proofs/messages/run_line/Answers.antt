use Rattle.std.proofs.Common.{refl, inl}
use Rattle.message_pipe.proofs.CallsBelow.{none_added}
use Rattle.mptcp_run.proofs.messages.run_line.Goals as goal

pub returns-in-Err : goal.returns-in-Err
returns-in-Err g c = inl (record { status_is = refl; untouched = λ port. (refl, refl); unloaded = refl; calls = none_added (g.O.Outside.told c.args.outside).calls })
