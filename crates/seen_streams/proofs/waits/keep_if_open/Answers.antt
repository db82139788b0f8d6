use Rattle.std.proofs.Common.{◌∙◌, ◌++◌, List, ap, rules}
use Rattle.std.proofs.lemmas.Result.{on_ok_weaker}
use Rattle.seen_octets.specs.Octets.{octet_at}
use Rattle.judge_rules.specs.Mappings.{natural}
use Rattle.seen_streams.specs.declared.told.Waiting.{Waiting}
use Rattle.seen_streams.specs.Mapped.{octets_of}
use Rattle.seen_streams.specs.Waits.{IsFree}
use Rattle.seen_streams.proofs.Gaps.{open_one}
use Rattle.seen_streams.proofs.waits.keep_if_open.Goals as goal

pub returns-in-Some-clause-tried : goal.returns-in-Some-clause-tried
returns-in-Some-clause-tried c =
    let octet = octet_at c.args.octets.now in
    let one = c.args.one.now in
    let free : IsFree octet (natural one.mapping.position) (octets_of one.mapping) c.in-Some.gap = search rules in
    on_ok_weaker c.keep_with.result
    (λ is. is ∙ ap (λ (xs : List Waiting). c.args.waits.now.tried.items ++ xs) (open_one octet one c.in-Some.gap free))
    c.keep_with.ensures.tried
