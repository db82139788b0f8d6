use Rattle.judge_laws.proofs.Packets.{brought_stays, written_has}
use Rattle.judge_laws.proofs.laws.kept_sides_sent_one_stream.Goals as goal

pub returns-clause-stream : goal.returns-clause-stream
returns-clause-stream c = λ at check_sums packets connection side stream there kept place octet brought.
    brought_stays at check_sums packets connection side place octet brought stream there kept

pub returns-clause-written : goal.returns-clause-written
returns-clause-written c = λ at check_sums packets connection side stream there kept octets sent place octet brought within.
    written_has stream octets place octet sent within (brought_stays at check_sums packets connection side place octet brought stream there kept)
