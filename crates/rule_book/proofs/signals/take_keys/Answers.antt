use Rattle.std.proofs.Common.{◌∙◌, ◌+◌, sym, ap, List, drop, map}
use Rattle.std.proofs.lemmas.List.{at_drop_more}
use Rattle.seen_connections.specs.declared.options.SeenOption.{SeenOption}
use Rattle.seen_connections.specs.SeenOptions.{as_value}
use Rattle.seen_streams.specs.Shows.{stream_of}
use Rattle.rule_book.specs.Facts.{facts_of}
use Rattle.rule_book.specs.Keyed.{keyed_of}
use Rattle.rule_book.specs.Signals.{keyed_each}
use Rattle.rule_book.proofs.signals.take_keys.Goals as goal

pub loop-option-preserved : goal.loop-option-preserved
loop-option-preserved c =
    let facts = facts_of c.args.judging.now in
    let later = map as_value (drop (c.loop-option.option-index + 1) c.args.options.now) in
    let state = keyed_of c.loop-option.keyed (stream_of c.loop-option.stream) in
    ap (keyed_each facts later) c.in_ok-take_seen.ensures
    ∙ sym (at_drop_more (λ (all : List SeenOption). keyed_each facts (map as_value all) state) c.args.options.now c.loop-option.option-index _ c.loop-option-test.true)
    ∙ c.loop-option.invariant
