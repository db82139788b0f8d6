use Rattle.std.proofs.Common.{refl, ◌∙◌}
use Rattle.path_segments.specs.Spelled.{plain}
use Rattle.path_segments.proofs.Carried.{carried}
use Rattle.path_segments.proofs.writing.sum.Goals as goal

pub checksum_field-requires : goal.checksum_field-requires
checksum_field-requires c =
    carried c.args.spelling.now c.args.from (plain c.args.segment.now) c.requires c.as_slice.result.now c.args.segment.now.payload.now
    (c.as_slice.ensures.value ∙ c.spelled_options.ensures) refl
