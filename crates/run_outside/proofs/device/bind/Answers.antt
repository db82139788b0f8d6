use Rattle.std.proofs.Common.{refl, ap, Err}
use Rattle.outside_kit.specs.Calls as call
use Rattle.run_outside.proofs.Calling.{puts_first}
use Rattle.run_outside.proofs.PortsLemmas.{never_falls}
use Rattle.run_outside.proofs.device.bind.Goals as goal

pub returns-in-Err-Failed-clause-puts : goal.returns-in-Err-Failed-clause-puts
returns-in-Err-Failed-clause-puts g c =
    let failed = c.in-Err-Failed.ensures in
    puts_first (call.Bind c.args.port c.args.name.now) _ _ _ refl (failed.failed (ap (λ f. Err f) c.in-Err-Failed.field-0-is)) (never_falls c.args.port _ _ c.bind.ensures.counted c.bind.ensures.other_counts) c.bind.ensures.load_counts failed.recorded

pub returns-in-Err-Memory-clause-puts : goal.returns-in-Err-Memory-clause-puts
returns-in-Err-Memory-clause-puts g c =
    puts_first (call.Bind c.args.port c.args.name.now) _ _ _ tt tt (never_falls c.args.port _ _ c.bind.ensures.counted c.bind.ensures.other_counts) c.bind.ensures.load_counts c.in-Err-Memory.ensures.recorded
