use Rattle.judge_laws.proofs.Packets.{acked_was_seen}
use Rattle.judge_laws.proofs.laws.kept_sides_acknowledge_what_was_seen.Goals as goal

pub returns : goal.returns
returns c = λ at check_sums packets connection side stream there kept number a.
    acked_was_seen at check_sums packets connection side number a stream there kept
