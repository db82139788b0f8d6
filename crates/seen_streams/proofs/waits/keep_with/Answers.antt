use Rattle.std.proofs.Common.{refl}
use Rattle.seen_octets.specs.Octets.{octet_at}
use Rattle.seen_octets.specs.Places.{is_seen}
use Rattle.seen_streams.specs.declared.waits.Waits.{Waits}
use Rattle.seen_streams.proofs.Gaps.{gaps_more, gaps_with, seen_there}
use Rattle.seen_streams.proofs.waits.keep_with.Goals as goal

pub returns-in_err-add-clause-gaps : goal.returns-in_err-add-clause-gaps
returns-in_err-add-clause-gaps c =
    let waits : Waits = record c.args.waits.now { gaps = c.add.new.self } in
    gaps_more c.args.waits.now waits (octet_at c.args.octets.now) refl refl c.add.ensures.stays refl c.requires.gaps

pub returns-in_err-push-clause-gaps : goal.returns-in_err-push-clause-gaps
returns-in_err-push-clause-gaps c =
    let waits : Waits = record c.args.waits.now { gaps = c.add.new.self; tried = c.push.new.self } in
    gaps_more c.args.waits.now waits (octet_at c.args.octets.now) refl refl c.add.ensures.stays c.in_err-push.ensures.items c.requires.gaps

pub returns-clause-gaps : goal.returns-clause-gaps
returns-clause-gaps c =
    let waits : Waits = record c.args.waits.now { gaps = c.add.new.self; tried = c.push.new.self } in
    gaps_with c.args.waits.now waits (octet_at c.args.octets.now) c.args.one.now c.args.gap refl refl c.add.ensures.stays
    (seen_there (is_seen c.args.waits.now.gaps) (is_seen c.add.new.self) c.args.gap c.in_ok-add.ensures.ok) c.requires.free c.in_ok-push.ensures.items c.requires.gaps
