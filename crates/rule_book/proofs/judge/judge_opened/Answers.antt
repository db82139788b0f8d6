use Rattle.std.proofs.Common.{ap, map}
use Rattle.mptcp_options.specs.Value.{value_of}
use Rattle.seen_connections.specs.SeenOptions.{as_value}
use Rattle.rule_book.specs.Facts.{facts_of}
use Rattle.rule_book.specs.Keyed.{keyed_of}
use Rattle.rule_book.specs.State.{book_of, lanes_of, stream_at}
use Rattle.rule_book.proofs.Steps.{opened_by_steps}
use Rattle.rule_book.proofs.judge.judge_opened.Goals as goal

pub returns : goal.returns
returns c =
    let side = c.args.judging.now.side in
    opened_by_steps (facts_of c.args.judging.now) (map as_value c.args.options.now) c.args.known.now
    (record { book = book_of c.args.book.now; lanes = lanes_of c.args.lanes.now })
    (record { book = book_of c.judge_positions.new.book; lanes = lanes_of c.judge_positions.new.lanes }) _ _
    (keyed_of c.judge_options.new.keyed (stream_at side (book_of c.judge_options.new.book))) (book_of c.judge_options.new.book)
    (ap (map value_of) c.new-keyed.ensures.options) c.new-keyed.ensures.keys c.in_ok-judge_options.ensures.made c.in_ok-judge_options.ensures.others
    c.in_ok-judge_positions.ensures
