-- What the octets of a copy say, be its options still there or taken away.
use Rattle.path_core.proofs.Words.{◌≡◌, refl, ◌∙◌, ℕ, Bool, true, false, if◌then◌else◌, Some, List, [], Side, addresses_from, Spelling, PlainSegment, CanSay}
use Rattle.path_core.proofs.Words.{spelled_text, stripped_is_heard, heard_as_meant, Expected, IsFresh, meant, made, octets, octets_of, IsFarReset, Carried}
use Rattle.path_core.proofs.Words.{as_arrived}
use Rattle.segment_wire.specs.Changes.{text_stripped}
use Rattle.link_model.specs.Octets as link_octets
use Rattle.path_segments.specs.Spelling as spelling_words
use Rattle.path_segments.specs.Heard as hearing
use Rattle.path_segments.specs.HeardLent.{IsExpected}
use Rattle.path_core.proofs.FarResets.{unplaced, far_heard, far_stripped_heard}

module _ (spelling : Spelling) (side : Side) (expected : Expected) (s : PlainSegment) where
  same_stripped : octets.reads spelling side expected (link_octets.octets_stripped spelling.path side (made spelling side s))
      ≡ hearing.heard_in spelling side expected
      (text_stripped (addresses_from spelling.path side) (spelled_text spelling side s))
  same_stripped = refl

  -- octets without their options, where these were taken away
  abbrev octets_with : Bool → List ℕ
  octets_with stripped = if stripped then link_octets.octets_stripped spelling.path side (made spelling side s) else made spelling side s

  abbrev arrived_with : Bool → PlainSegment
  arrived_with stripped = record s { options = (if stripped then [] else s.options) }

  near_with : CanSay spelling side s → IsExpected expected → IsFresh spelling side expected s
      → (stripped : Bool) → octets.reads spelling side expected (octets_with stripped) ≡ Some (meant (arrived_with stripped))
  near_with can is near true = same_stripped ∙ stripped_is_heard spelling side expected s can is near
  near_with can is near false = heard_as_meant spelling side expected s can is near

  far_with : CanSay spelling side s → IsExpected expected → IsFarReset spelling side expected s
      → (stripped : Bool) → octets.reads spelling side expected (octets_with stripped) ≡ Some (unplaced (spelling_words.subflow_number spelling side s.position) (meant (arrived_with stripped)))
  far_with can is far true = same_stripped ∙ far_stripped_heard spelling side expected s can far is
  far_with can is far false = far_heard spelling side expected s can far is

module _ (spelling : Spelling) (side : Side) (expected : Expected) (carried : Carried) (from : carried.from ≡ side)
    (can : CanSay spelling side carried.segment) (is : IsExpected expected) where
  -- a copy whose numbers are near is heard as it was meant
  pub near_read : IsFresh spelling side expected carried.segment
      → octets.reads spelling side expected (octets_of spelling carried) ≡ Some (meant (as_arrived carried))
  near_read near = rw from (near_with spelling side expected carried.segment can is near carried.stripped)

  -- a reset far ahead is heard without its position
  pub far_read : IsFarReset spelling side expected carried.segment
      → octets.reads spelling side expected (octets_of spelling carried) ≡ Some (unplaced (spelling_words.subflow_number spelling side carried.segment.position) (meant (as_arrived carried)))
  far_read far = rw from (far_with spelling side expected carried.segment can is far carried.stripped)
