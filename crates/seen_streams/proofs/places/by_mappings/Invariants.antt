use Rattle.std.proofs.Common.{take}
use Rattle.std.specs.List.{list_any}
use Rattle.seen_octets.specs.Places.{IsStretch}
use Rattle.seen_streams.specs.Content.{maps}
use Rattle.seen_streams.proofs.places.by_mappings.Given as goal

abbrev pub invariant-loop-mapping : goal.invariant-loop-mapping
invariant-loop-mapping l = IsStretch (λ p. list_any (maps p) (take l.mapping-index l.mappings)) l.from l.to l.stretch
