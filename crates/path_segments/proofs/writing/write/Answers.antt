use Rattle.std.proofs.Common.{refl, ◌∙◌}
use Rattle.path_segments.specs.Spelled.{plain}
use Rattle.path_segments.proofs.Carried.{carried}
use Rattle.path_segments.proofs.writing.write.Goals as goal

pub write-requires : goal.write-requires
write-requires c =
    carried c.args.spelling.now c.args.from (plain c.args.segment.now) c.requires c.as_slice.result.now c.args.segment.now.payload.now
    (c.as_slice.ensures.value ∙ c.spelled_options.ensures) refl
