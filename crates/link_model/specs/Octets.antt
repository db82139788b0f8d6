-- The two changes on the octets of a path.
use Rattle.std.specs.Prelude.{ℕ, List, length}
use Rattle.sides.specs.declared.side.Side.{Side}
use Rattle.segment_wire.specs.Changes.{text_stripped, text_altered}
use Rattle.segment_wire.specs.Paths.{addresses_from}
use Rattle.link_model.specs.State.{LinkState}
use Rattle.link_model.specs.Steps.{changed, after_send}
use Rattle.link_model.specs.Fate.{is_stripped, is_altered}

-- what this side sends on a path, without its Multipath TCP options
abbrev pub octets_stripped : ℕ → Side → List ℕ → List ℕ
octets_stripped path from octets = text_stripped (addresses_from path from) octets

-- what this side sends on a path, with the lowest bit of its first payload octet turned
abbrev pub octets_altered : ℕ → Side → List ℕ → List ℕ
octets_altered path from octets = text_altered (addresses_from path from) octets

-- the octets of the segment of this number as they arrive
abbrev pub arriving_octets : Side → ℕ → List ℕ → ℕ → LinkState (List ℕ) → List ℕ
arriving_octets from number octets now link =
    changed (octets_stripped link.path from) (octets_altered link.path from) (is_stripped from number now link.lines) (is_altered from number link.lines) octets

-- the link takes the octets of a segment
abbrev pub after_octets : Side → List ℕ → ℕ → LinkState (List ℕ) → LinkState (List ℕ)
after_octets from octets now link = after_send (octets_stripped link.path) (octets_altered link.path) from octets (length octets) now link
