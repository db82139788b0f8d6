use Rattle.std.proofs.Common.{refl, ap, Err}
use Rattle.outside_kit.specs.Calls as call
use Rattle.run_outside.proofs.Calls.{short_first}
use Rattle.run_outside.proofs.Calling.{puts_first}
use Rattle.run_outside.proofs.PortsLemmas.{never_falls}
use Rattle.run_outside.proofs.device.put.Goals as goal

pub returns-in-Err-Failed-clause-puts : goal.returns-in-Err-Failed-clause-puts
returns-in-Err-Failed-clause-puts g c =
    let failed = c.in-Err-Failed.ensures in
    puts_first (call.Put c.args.port c.args.piece.now) _ _ _ refl (failed.failed (ap (λ f. Err f) c.in-Err-Failed.field-0-is)) (never_falls c.args.port _ _ c.put.ensures.counted c.put.ensures.other_counts) c.put.ensures.load_counts failed.recorded

pub returns-in-Err-Memory-clause-puts : goal.returns-in-Err-Memory-clause-puts
returns-in-Err-Memory-clause-puts g c =
    puts_first (call.Put c.args.port c.args.piece.now) _ _ _ tt tt (never_falls c.args.port _ _ c.put.ensures.counted c.put.ensures.other_counts) c.put.ensures.load_counts c.in-Err-Memory.ensures.recorded

pub returns-in-Err-Failed-clause-short : goal.returns-in-Err-Failed-clause-short
returns-in-Err-Failed-clause-short g c = short_first (call.Put c.args.port c.args.piece.now) _ _ _ refl c.in-Err-Failed.ensures.recorded

pub returns-in-Err-Memory-clause-short : goal.returns-in-Err-Memory-clause-short
returns-in-Err-Memory-clause-short g c = short_first (call.Put c.args.port c.args.piece.now) _ _ _ tt c.in-Err-Memory.ensures.recorded
