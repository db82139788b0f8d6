-- What a link makes of the octets of a segment are the octets of what it makes of the segment.
use Rattle.path_core.proofs.Words.{◌≡◌, refl, sym, ap, subst, ◌∙◌, ℕ, ◌≤◌, Bool, true, false, List, [], ◌∷◌, length, Ok, Side, peer, segment_meaning, Segment}
use Rattle.path_core.proofs.Words.{segment_text, CanWrite, segment_meaning-written, addresses_from, changed, Spelling, PlainSegment, spelled, CanSay}
use Rattle.path_core.proofs.Words.{spelled_text, altered_is_said, four, written, octets, CanBeSaid, octets_of, values}
use Rattle.link_model.specs.Octets.{octets_stripped, octets_altered}
use Rattle.segment_wire.specs.declared.head.Addresses.{Addresses}
use Rattle.segment_wire.specs.Changes as changes
use Rattle.segment_wire.proofs.Changed.{others_can_be_carried}

module _ (spelling : Spelling) (from : Side) where
  abbrev between : Addresses
  between = addresses_from spelling.path from

  means : (segment : Segment) → CanWrite segment → segment_meaning between (segment_text between segment) ≡ Ok segment
  means segment can = segment_meaning-written between segment (four spelling.path from) (four spelling.path (peer from)) can

  stripped_text : (segment : Segment) → CanWrite segment → changes.text_stripped between (segment_text between segment) ≡ segment_text between (changes.stripped segment)
  unfolding changes.text_stripped
  stripped_text segment can = ap (changes.changed_text changes.stripped between (segment_text between segment)) (means segment can)

  altered_text : (segment : Segment) → CanWrite segment → changes.text_altered between (segment_text between segment) ≡ segment_text between (changes.altered segment)
  unfolding changes.text_altered
  altered_text segment can = ap (changes.changed_text changes.altered between (segment_text between segment)) (means segment can)

  stripped_written : (segment : Segment) → CanWrite segment → CanWrite (changes.stripped segment)
  stripped_written segment can = record { head = can.head; carried = others_can_be_carried segment.options segment.payload can.carried }

  -- a segment, a bit of whose payload is turned
  abbrev with_bit : PlainSegment → PlainSegment
  with_bit s = record s { payload = changes.with_turned_bit s.payload }

  length_turned : (bytes : List ℕ) → length (changes.with_turned_bit bytes) ≡ length bytes
  length_turned = elim [ [] ↦ refl | first ∷ rest ↦ refl ]

  bit_said : (s : PlainSegment) → CanSay spelling from s → CanSay spelling from (with_bit s)
  bit_said s can = record {
    path = can.path;
    window = can.window;
    options = can.options;
    room = can.room;
    fits = subst (λ n. n ≤ 65475) (sym (length_turned s.payload)) can.fits;
  }

  altered_spelled : (s : PlainSegment) → spelled spelling from (with_bit s) ≡ changes.altered (spelled spelling from s)
  unfolding spelled
  altered_spelled s = refl

  -- a bit is turned after the options were taken away, or before it
  stripped_and_altered : (s : PlainSegment) → CanSay spelling from s
      → changes.text_stripped between (spelled_text spelling from (with_bit s)) ≡ changes.text_altered between (changes.text_stripped between (spelled_text spelling from s))
  stripped_and_altered s can =
      let whole = spelled spelling from s in
      let can_write = written spelling from s can in
      stripped_text (spelled spelling from (with_bit s)) (written spelling from (with_bit s) (bit_said s can))
      ∙ ap (λ t. segment_text between (changes.stripped t)) (altered_spelled s)
      ∙ sym (altered_text (changes.stripped whole) (stripped_written whole can_write))
      ∙ sym (ap (changes.text_altered between) (stripped_text whole can_write))

module _ (spelling : Spelling) (s : Side) (segment : PlainSegment) where
  altered_alone : CanBeSaid spelling s segment
      → spelled_text spelling s (with_bit spelling s segment) ≡ octets_altered spelling.path s (spelled_text spelling s segment)
  altered_alone can =
      sym (altered_is_said spelling s segment can)

  altered_stripped : CanBeSaid spelling s segment
      → octets_stripped spelling.path s (spelled_text spelling s (with_bit spelling s segment))
      ≡ octets_altered spelling.path s (octets_stripped spelling.path s (spelled_text spelling s segment))
  altered_stripped can =
      stripped_and_altered spelling s segment can

  -- the octets of what arrives, where it can be said if a bit of it is turned
  pub octets_changed : (stripped altered : Bool) → (altered ≡ true → CanBeSaid spelling s segment)
      → octets_of spelling (changed (values.strips spelling s) (values.alters spelling s) stripped altered (values.makes spelling s segment))
      ≡ changed (octets.strips spelling s) (octets.alters spelling s) stripped altered (octets.makes spelling s segment)
  octets_changed true true said = altered_stripped (said refl)
  octets_changed false true said = altered_alone (said refl)
  octets_changed true false said = refl
  octets_changed false false said = refl
