use Rattle.std.proofs.Common.{◌∙◌, ◌+◌, sym, ap, List, drop, map}
use Rattle.std.proofs.lemmas.List.{at_drop_more}
use Rattle.seen_connections.specs.declared.options.SeenOption.{SeenOption}
use Rattle.seen_connections.specs.SeenOptions.{as_value}
use Rattle.seen_streams.specs.Shows.{stream_of}
use Rattle.rule_book.specs.Signals.{told_formless}
use Rattle.rule_book.proofs.signals.tell_formless.Goals as goal

pub loop-option-preserved : goal.loop-option-preserved
loop-option-preserved c =
    let later = map as_value (drop (c.loop-option.option-index + 1) c.args.options.now) in
    let state = stream_of c.loop-option.stream in
    ap (told_formless c.args.packet later) c.in_ok-tell_one.ensures
    ∙ sym (at_drop_more (λ (all : List SeenOption). told_formless c.args.packet (map as_value all) state) c.args.options.now c.loop-option.option-index _ c.loop-option-test.true)
    ∙ c.loop-option.invariant
