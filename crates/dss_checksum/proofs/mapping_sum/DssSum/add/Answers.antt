use Rattle.std.proofs.Common.{◌∙◌}
use Rattle.dss_checksum.proofs.Joining.{sum_of-append}
use Rattle.dss_checksum.proofs.mapping_sum.DssSum.add.Goals as goal

pub returns : goal.returns
returns c = λ mapping octets before.
    sum_of-append _ mapping octets c.args.part.now _ (c.self.view_is ∙ before) c.added-self-inside.ensures.adds
