use Rattle.std.proofs.Common.{◌+◌, ap, refl, List, length, arith}
use Rattle.link_script.specs.declared.script.PathLine.{PathLine}
use Rattle.world_core.proofs.Opening.{put_more}
use Rattle.world_core.proofs.input.put_paths.Goals as goal

pub loop-path-preserved : goal.loop-path-preserved
loop-path-preserved c =
    let within = c.loop-path-test.true in
    let many = ap (λ (xs : List PathLine). length xs) c.as_slice.ensures in
    let few = c.requires.few_paths in
    record {
      crew = put_more c.args.input.now.script c.args.input.now.file_a c.args.input.now.file_b _ c.loop-path.path c.loop-path.crew.items c.put_path.new.crew.items _
          (omega (arith, within, many, few)) refl c.in_ok-put_path.ensures c.loop-path.invariant.crew;
      few = omega (arith, within, many, few);
    }
