use Rattle.run_log.proofs.Words.{append_assoc, octets_of}
use Rattle.run_log.proofs.Spacing.{heard_is}
use Rattle.run_log.proofs.control_call.put_heard.Goals as goal

pub returns-clause-text : goal.returns-clause-text
returns-clause-text c = rw (heard_is c.args.id (octets_of c.args.address) c.args.port c.args.hmac, c.in_ok-write-2.ensures.bytes, c.in_ok-put_address.ensures.text, c.in_ok-write.ensures.bytes) (simp append_assoc)
