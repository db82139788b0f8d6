use Rattle.std.proofs.Common.{refl, false}
use Rattle.link_script.specs.declared.script.PathLine.{PathLine}
use Rattle.link_model.proofs.Ranges.{delay_at, limits_of}
use Rattle.link_model.proofs.link.Link.new.Goals as goal

pub invariant_of-result : goal.invariant_of-result
invariant_of-result c =
    let blank : PathLine = record { mss = 0; delay = 0; join = 0; backup = false } in
    rw (c.shape_of-shape_a.ensures, c.shape_of-shape_b.ensures, c.as_slice-3.ensures, c.as_slice-4.ensures, c.in_ok-lines.ensures, c.as_slice.ensures, c.as_slice-2.ensures, c.from.ensures) (limits_of c.args.script.now c.args.path blank c.requires.ranges c.requires.path)

pub returns : goal.returns
returns c =
    let blank : PathLine = record { mss = 0; delay = 0; join = 0; backup = false } in
    rw (c.in_ok-lines.ensures, c.as_slice.ensures, c.as_slice-2.ensures, c.from.ensures, c.new.ensures, delay_at c.args.path c.args.script.now.paths blank c.requires.path) refl
