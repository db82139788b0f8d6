use Rattle.std.proofs.Common.{ap, ◌∙◌, List, map}
use Rattle.mptcp_options.specs.declared.option.MpOption.{MpOption}
use Rattle.mptcp_options.specs.Value.{value_of}
use Rattle.std.specs.List.{list_any}
use Rattle.rule_book.specs.Stream.{closes_fast}
use Rattle.rule_book.proofs.Growing.{any_value}
use Rattle.rule_book.proofs.positions.closes_fast.Goals as goal

pub returns : goal.returns
returns c =
    c.has_fast_close.ensures ∙ any_value closes_fast c.deref.result.now
    ∙ ap (λ (options : List MpOption). list_any closes_fast (map value_of options)) c.deref.ensures.value
