-- The options of a TCP header (RFC 9293, section 3.2): kind 0 ends them, kind 1 is one octet of padding, and every
-- other kind has a length octet that counts kind and length.
use Rattle.std.specs.Prelude.{ℕ, zero, suc, ◌+◌, ◌-◌, ◌*◌, Bool, true, false, ◌&&◌, nat_le, if◌then◌else◌, ◌==◌, min, Option, Some, None, List, [], ◌∷◌, length, take, map, slice_index}
use Rattle.std.specs.Borrow.{u8 as octet}
use Rattle.std.specs.Ptr.{Ptr, ptr_add}

-- Whether no option has a length below 2 or runs past the end, where as many octets as `left` are still of the option
-- before.
abbrev pub are_whole_after : ℕ → List ℕ → Bool
are_whole_after zero [] = true
are_whole_after (suc left) [] = false
are_whole_after (suc left) (x ∷ rest) = are_whole_after left rest
are_whole_after zero (zero ∷ rest) = true
are_whole_after zero (suc zero ∷ rest) = are_whole_after zero rest
are_whole_after zero (suc (suc kind) ∷ []) = false
are_whole_after zero (suc (suc kind) ∷ len ∷ rest) = nat_le 2 len && are_whole_after (len - 2) rest

-- no option has a length below 2 or runs past the end
abbrev pub are_whole : List ℕ → Bool
are_whole options = are_whole_after 0 options

-- The octets from the first option on that isn't whole, none where all are, where as many octets as `left` are still of
-- the option before.
abbrev pub broken_after : ℕ → List ℕ → List ℕ
broken_after left [] = []
broken_after (suc left) (x ∷ rest) = broken_after left rest
broken_after zero (zero ∷ rest) = []
broken_after zero (suc zero ∷ rest) = broken_after zero rest
broken_after zero (suc (suc kind) ∷ []) = suc (suc kind) ∷ []
broken_after zero (suc (suc kind) ∷ len ∷ rest) =
    if nat_le 2 len && nat_le (len - 2) (length rest) then broken_after (len - 2) rest else suc (suc kind) ∷ len ∷ rest

-- the octets from the first option on that isn't whole
abbrev pub broken_part : List ℕ → List ℕ
broken_part options = broken_after 0 options

-- The options, kinds 0 and 1 left out, each with its place: how many octets stand before it. As many octets as `left`
-- are still of the option before, and `place` octets stand before these. An option that isn't whole ends them.
abbrev pub options_after : ℕ → ℕ → List ℕ → List (ℕ × List ℕ)
options_after place left [] = []
options_after place (suc left) (x ∷ rest) = options_after (place + 1) left rest
options_after place zero (zero ∷ rest) = []
options_after place zero (suc zero ∷ rest) = options_after (place + 1) zero rest
options_after place zero (suc (suc kind) ∷ []) = []
options_after place zero (suc (suc kind) ∷ len ∷ rest) =
    if nat_le 2 len && nat_le (len - 2) (length rest)
    then (place, suc (suc kind) ∷ len ∷ take (len - 2) rest) ∷ options_after (place + 2) (len - 2) rest
    else []

-- the options with their places
abbrev pub plain_options : List ℕ → List (ℕ × List ℕ)
plain_options options = options_after 0 0 options

-- the options with their addresses, where the first octet lies at this one
unfoldable pub placed_options : Ptr → List ℕ → List (Ptr × List ℕ)
placed_options start options = map (λ o. (ptr_add octet o.0 start, o.1)) (plain_options options)

-- the octets of each option
abbrev pub option_octets : List ℕ → List (List ℕ)
option_octets options = map (λ o. o.1) (plain_options options)

-- ---- the two options that are read

-- kind and length are these, and there are as many octets
abbrev pub is_option : ℕ → ℕ → List ℕ → Bool
is_option kind len option = length option == len && (slice_index option 0 == kind && slice_index option 1 == len)

-- the maximum segment size: kind 2, length 4
abbrev pub mss_of : List ℕ → Option ℕ
mss_of option = if is_option 2 4 option then Some (256 * slice_index option 2 + slice_index option 3) else None

-- the window scale: kind 3, length 3, and a shift above 14 is read as 14
abbrev pub window_scale_of : List ℕ → Option ℕ
window_scale_of option = if is_option 3 3 option then Some (min (slice_index option 2) 14) else None
