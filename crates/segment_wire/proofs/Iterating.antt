-- The options that an iterator gives, as a list of octets, for callers that go over them.
--
-- Options without fuel: recursion on the list with the number of octets still to pass over; lemmas named `..-skip` lead
-- from there to `drop`. One function that says what stands at the front, whose clause says what that means for all
-- (`IsFront`), serves an iterator and a test with an invariant of two lines.
--
-- A `for` over `options()` has the invariant `F (octets_alone (options_left l.option-iterator)) ≡ F (option_octets ..)`
-- and no answer. After `parse` of what was written use its clause `written` with `readable` of `write`.
use Rattle.std.proofs.Common.{◌≡◌, ℕ, List, [], ◌∷◌, map, refl, ap}
use Rattle.std.specs.Borrow.{u8 as octet}
use Rattle.std.specs.Ptr.{Ptr, ptr_add}
use Rattle.segment_wire.specs.Options.{plain_options, placed_options, option_octets}
use Rattle.segment_wire.specs.OptionFront.{octets_alone}

octets_alone-placed : (start : Ptr) (options : List (ℕ × List ℕ)) → octets_alone (map (λ o. (ptr_add octet o.0 start, o.1)) options) ≡ map (λ (o : ℕ × List ℕ). o.1) options
octets_alone-placed start [] = refl
octets_alone-placed start (o ∷ options) = ap (λ (t : List (List ℕ)). o.1 ∷ t) (octets_alone-placed start options)

-- the octets of the options, wherever they lie
pub octets_alone-placed_options : (start : Ptr) (options : List ℕ) → octets_alone (placed_options start options) ≡ option_octets options
unfolding placed_options
octets_alone-placed_options start options = octets_alone-placed start (plain_options options)
