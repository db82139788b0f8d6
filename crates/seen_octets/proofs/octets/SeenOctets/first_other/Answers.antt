use Rattle.std.proofs.Common.{refl, arith, ◌-◌}
use Rattle.seen_octets.specs.Octets.{octet_at}
use Rattle.seen_octets.proofs.Differing.{found_in, goes_past, take_rest}
use Rattle.seen_octets.proofs.octets.SeenOctets.first_other.Goals as goal

pub returns-in-Some : goal.returns-in-Some
returns-in-Some c =
    found_in (octet_at c.args.self.now) c.args.from c.loop-place.place c.args.part.now _ c.piece-piece.result.now c.loop-place.invariant.begun
    c.loop-place.invariant.within (take_rest c.args.part.now (c.loop-place.place - c.args.from)) c.piece-piece.ensures.held c.piece-piece.ensures.within
    c.loop-place.invariant.left c.in-Some.index _ c.other.result c.in-Some.ensures.some refl c.other.ensures

pub loop-place-preserved : goal.loop-place-preserved
loop-place-preserved c = record {
  begun = omega (arith, c.loop-place.invariant.begun, c.gap_end-place.ensures.begun);
  within = c.gap_end-place.ensures.within;
  left = goes_past (octet_at c.args.self.now) c.args.from c.loop-place.place c.args.part.now _ c.piece-piece.result.now c.loop-place.invariant.begun
      c.loop-place.invariant.within (take_rest c.args.part.now (c.loop-place.place - c.args.from)) c.piece-piece.ensures.held c.piece-piece.ensures.within
      c.loop-place.invariant.left c.gap_end-place.result c.in_default.ensures.none c.gap_end-place.ensures.begun c.gap_end-place.ensures.within
      c.gap_end-place.ensures.free;
}
