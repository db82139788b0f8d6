use Rattle.run_log.proofs.Words.{append_assoc}
use Rattle.run_log.proofs.Spacing.{rows_is}
use Rattle.run_log.proofs.control_reply.put_rows.Goals as goal

pub returns-clause-text : goal.returns-clause-text
returns-clause-text c = rw (rows_is c.args.rows.now, c.in_ok-put_each_row.ensures.text, c.in_ok-push_str.ensures.bytes) (simp append_assoc)
