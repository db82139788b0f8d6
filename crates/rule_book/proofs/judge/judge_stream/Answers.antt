use Rattle.std.proofs.Common.{◌∙◌, ap, List, map}
use Rattle.mptcp_options.specs.declared.option.MpOption.{MpOption}
use Rattle.mptcp_options.specs.Value.{value_of}
use Rattle.seen_connections.specs.SeenOptions.{as_value}
use Rattle.seen_streams.specs.Shows.{stream_of}
use Rattle.rule_book.specs.Facts.{facts_of}
use Rattle.rule_book.specs.Keyed.{keyed_of}
use Rattle.rule_book.specs.Signals.{signalled}
use Rattle.rule_book.proofs.Steps.{stream_by_steps}
use Rattle.rule_book.proofs.judge.judge_stream.Goals as goal

pub returns : goal.returns
returns c =
    stream_by_steps (facts_of c.args.judging.now) (map as_value c.args.options.now) (keyed_of c.args.keyed.now (stream_of c.args.stream.now))
    (keyed_of c.take_keys.new.keyed (stream_of c.take_keys.new.stream)) (stream_of c.judge_signals.new.stream) c.in_ok-take_keys.ensures
    (c.in_ok-judge_signals.ensures
    ∙ ap (λ (options : List MpOption). signalled (facts_of c.args.judging.now) c.take_keys.new.keyed.keys (map value_of options) (stream_of c.take_keys.new.stream))
    c.deref.ensures.value)
