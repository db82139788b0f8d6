use Rattle.std.proofs.Common.{sym, arith}
use Rattle.mptcp_options.proofs.CapableMeaning.{capable_known}
use Rattle.mptcp_options.proofs.capable.read_capable.Goals as goal

pub returns-in-Some-clause-meaning : goal.returns-in-Some-clause-meaning
returns-in-Some-clause-meaning c =
    sym (capable_known c.args.option.now c.requires.framed c.requires.subtype (omega arith) (omega arith) c.args.checksum
    c.in-Some.keys c.if-flags-eq0.false (omega arith) c.in-Some.ensures)
