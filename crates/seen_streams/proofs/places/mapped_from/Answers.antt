use Rattle.std.proofs.Common.{List, subst}
use Rattle.std.specs.List.{list_any}
use Rattle.seen_octets.specs.Places.{IsStretch}
use Rattle.seen_streams.specs.declared.told.ToldMapping.{ToldMapping}
use Rattle.seen_streams.specs.Content.{is_on_line, maps}
use Rattle.seen_streams.specs.Shows.{lane_of}
use Rattle.seen_streams.proofs.places.mapped_from.Goals as goal

pub returns : goal.returns
returns c =
    let learnt = c.args.learnt.now in
    c.either.ensures (λ p. list_any (maps p) learnt.mappings.items) (is_on_line learnt.has_line (lane_of c.args.lane.now).line) c.args.from c.args.to
    (subst (λ (mappings : List ToldMapping). IsStretch (λ p. list_any (maps p) mappings) c.args.from c.args.to c.by_mappings-one.result)
    c.deref.ensures.value c.by_mappings-one.ensures) (rw c.line.ensures.value at c.by_line-other.ensures)
