use Rattle.rule_book.specs.Judged.{judged}
use Rattle.judge_laws.proofs.Books.{streams_go}
use Rattle.judge_laws.proofs.Packets.{first_go}
use Rattle.judge_laws.proofs.Steps.{books_go}
use Rattle.judge_laws.proofs.laws.nothing_is_taken_back.Goals as goal

pub returns-clause-segment : goal.returns-clause-segment
returns-clause-segment c = λ at check_sums state packet seen.
    streams_go state (judged at check_sums state packet seen) (books_go at check_sums state packet seen)

pub returns-clause-packets : goal.returns-clause-packets
returns-clause-packets c = first_go
