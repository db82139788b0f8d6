use Rattle.capture_reader.specs.Seen.{as_seen}
use Rattle.rule_book.specs.State.{judged_of}
use Rattle.rule_book.proofs.Last.{last_at_most}
use Rattle.rule_book.proofs.Steps.{taken_by_steps}
use Rattle.rule_book.proofs.judged.Judged.judge.Goals as goal

pub returns-clause-judged : goal.returns-clause-judged
returns-clause-judged c =
    taken_by_steps c.args.words.now.at c.args.words.now.check_sums (judged_of c.args.self.now) c.args.packet (as_seen c.args.seen.now)
    c.take.new.self c.in_ok-place.place c.is_good.result (judged_of c.grow.new.self) (judged_of c.judge_place.new.self) c.in_ok-place.ensures.ok c.is_good.ensures
    c.in_ok-grow.ensures c.in_ok-judge_place.ensures

pub returns-clause-last : goal.returns-clause-last
returns-clause-last c =
    last_at_most c.args.words.now.at c.args.words.now.check_sums (judged_of c.args.self.now) (judged_of c.judge_place.new.self) c.args.packet (as_seen c.args.seen.now)
    (taken_by_steps c.args.words.now.at c.args.words.now.check_sums (judged_of c.args.self.now) c.args.packet (as_seen c.args.seen.now)
    c.take.new.self c.in_ok-place.place c.is_good.result (judged_of c.grow.new.self) (judged_of c.judge_place.new.self) c.in_ok-place.ensures.ok c.is_good.ensures
    c.in_ok-grow.ensures c.in_ok-judge_place.ensures)
