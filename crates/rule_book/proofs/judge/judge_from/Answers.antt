use Rattle.std.proofs.Common.{map}
use Rattle.mptcp_options.specs.Value.{value_of}
use Rattle.rule_book.specs.Facts.{facts_of, own_lane}
use Rattle.rule_book.specs.State.{book_of, lanes_of}
use Rattle.rule_book.proofs.Steps.{from_by_steps}
use Rattle.rule_book.proofs.judge.judge_from.Goals as goal

pub returns : goal.returns
returns c =
    let facts = facts_of c.args.judging.now in
    let lanes = lanes_of c.judge_lanes.new.lanes in
    from_by_steps facts c.args.position (map value_of c.args.keyed.now.options.items) c.args.keyed.now.keys
    (record { book = book_of c.args.book.now; lanes = lanes_of c.args.lanes.now }) c.plain_beside.result (book_of c.count_gap.new.book) (book_of c.judge_lanes.new.book)
    (own_lane facts lanes) lanes c.count_gap.ensures c.plain_beside.ensures c.in_ok-judge_lanes.ensures.judged c.in_ok-judge_lanes.ensures.book c.in_ok-judge_lanes.ensures.lanes
