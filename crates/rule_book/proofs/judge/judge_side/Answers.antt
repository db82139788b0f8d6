use Rattle.std.proofs.Common.{◌∙◌, ap, map, refl}
use Rattle.capture_reader.specs.Seen.{as_seen}
use Rattle.seen_connections.specs.SeenOptions.{as_value}
use Rattle.rule_book.specs.Facts.{Facts}
use Rattle.rule_book.specs.Judged.{judged_opened}
use Rattle.rule_book.specs.State.{book_of, lanes_of}
use Rattle.rule_book.specs.Stream.{Left}
use Rattle.rule_book.proofs.Steps.{side_closed, side_opened}
use Rattle.rule_book.proofs.judge.judge_side.Goals as goal

pub returns-in_default : goal.returns-in_default
returns-in_default c =
    let left : Left = record { book = book_of c.args.book.now; lanes = lanes_of c.args.lanes.now } in
    side_closed c.args.at c.args.packet (as_seen c.args.seen.now) c.args.index c.args.flow.now c.args.side c.args.known.now left
    (map as_value c.deref-options.result.now) (book_of c.judge_form.new.book) (ap (map as_value) c.deref-options.ensures.value ∙ c.in_ok-read.ensures)
    c.in_ok-judge_form.ensures _ c.in_default.is refl

pub returns : goal.returns
returns c =
    let left : Left = record { book = book_of c.args.book.now; lanes = lanes_of c.args.lanes.now } in
    let options = map as_value c.deref-options.result.now in
    let book = book_of c.judge_form.new.book in
    side_opened c.args.at c.args.packet (as_seen c.args.seen.now) c.args.index c.args.flow.now c.args.side c.args.known.now left
    options book (ap (map as_value) c.deref-options.ensures.value ∙ c.in_ok-read.ensures) c.in_ok-judge_form.ensures _ c.in-Some.opened c.in-Some.is
    (c.in_ok-keys.ensures ∙ ap (λ (facts : Facts). judged_opened facts options c.args.known.now (record left { book = book })) c.judging_of-judging.ensures)
