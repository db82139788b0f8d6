-- What stands at the front of option octets, and what it says of all of them.
use Rattle.std.specs.Prelude.{◌≡◌, ℕ, ◌<◌, true, false, List, [], ◌∷◌, length, map}
use Rattle.std.specs.Borrow.{Bor}
use Rattle.std.specs.Ptr.{Ptr, as_ptr}
use Rattle.segment_wire.specs.declared.options.Front.{Front}
use Rattle.segment_wire.specs.declared.options.Front.TheVariants.{End, Padding, Whole, Broken}
use Rattle.segment_wire.specs.declared.options.PlainOptions.{PlainOptions}
use Rattle.segment_wire.specs.Options.{are_whole, broken_part, placed_options}

-- what an iterator has still to give: the options with the addresses where they lie
abbrev pub options_left : PlainOptions → List (Ptr × List ℕ)
options_left options = placed_options (as_ptr options.rest) options.rest.now

-- the octets of options, wherever they lie
abbrev pub octets_alone : List (Ptr × List ℕ) → List (List ℕ)
octets_alone options = map (λ (o : Ptr × List ℕ). o.1) options

-- what follows a front is shorter, whole where all are, and has what isn't whole of all
pub record Follows (options rest : Bor (List ℕ)) : Type 0 where
  pub shorter : length rest.now < length options.now
  pub whole : are_whole options.now ≡ are_whole rest.now
  pub broken : broken_part options.now ≡ broken_part rest.now

-- the options with the addresses where they lie
abbrev placed : Bor (List ℕ) → List (Ptr × List ℕ)
placed options = placed_options (as_ptr options) options.now

-- the options end, go on behind padding or behind a whole option, or are broken
abbrev pub IsFront : Bor (List ℕ) → Front → Type 0
IsFront options End = (are_whole options.now ≡ true) × (broken_part options.now ≡ []) × (placed options ≡ [])
IsFront options (Padding rest) = Follows options rest × (placed options ≡ placed rest)
IsFront options (Whole option rest) = Follows options rest × (placed options ≡ (as_ptr option, option.now) ∷ placed rest)
IsFront options Broken = (are_whole options.now ≡ false) × (broken_part options.now ≡ options.now) × (placed options ≡ [])
