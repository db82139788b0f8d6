-- The options of a segment in words.
use Rattle.std.specs.Prelude.{ℕ, Bool, true, false, Option, Some, None, List, [], ◌∷◌, ◌++◌, codes}
use Rattle.std.specs.Fmt.{decimal}
use Rattle.mptcp_options.specs.Meaning.{option_meaning}
use Rattle.mptcp_options.specs.Value as wire
use Rattle.segment_wire.specs.Options.{mss_of, window_scale_of}
use Rattle.link_trace.specs.declared.multipath.DataInitials.{DataInitials}
use Rattle.link_trace.specs.Multipath.{value_words}

-- of an option of another kind
abbrev pub kind_words : List ℕ → List ℕ
kind_words [] = codes "unknown"
kind_words (kind ∷ rest) = codes "unknown-" ++ decimal kind

-- of an option by what it means
abbrev pub meaning_words : DataInitials → List ℕ → wire.Meaning → List ℕ
meaning_words initials option (wire.Known value) = codes "mptcp " ++ value_words initials value
meaning_words initials option wire.Malformed = codes "mptcp malformed"
meaning_words initials option wire.Unknown = kind_words option

-- of one of Multipath TCP, where checksums of data are used or aren't
abbrev pub multipath_words : DataInitials → List ℕ → Bool → List ℕ
multipath_words initials option checksums = meaning_words initials option (option_meaning option checksums)

-- of a window scale, or else of one of Multipath TCP
abbrev pub scale_words : DataInitials → Option ℕ → Bool → List ℕ → List ℕ
scale_words initials (Some shift) checksums option = codes "wscale " ++ decimal shift
scale_words initials None checksums option = multipath_words initials option checksums

-- of a maximum segment size, or else of another one
abbrev pub mss_words : DataInitials → Option ℕ → Bool → List ℕ → List ℕ
mss_words initials (Some size) checksums option = codes "mss " ++ decimal size
mss_words initials None checksums option = scale_words initials (window_scale_of option) checksums option

-- of any option
abbrev pub option_words : DataInitials → Bool → List ℕ → List ℕ
option_words initials checksums option = mss_words initials (mss_of option) checksums option

-- what stands before an option: a bracket opens before the first
abbrev pub before_words : Bool → List ℕ
before_words true = codes ", options ["
before_words false = codes ","

-- the first of these is the first of all, or isn't
abbrev pub list_words : DataInitials → Bool → Bool → List (List ℕ) → List ℕ
list_words initials checksums true [] = []
list_words initials checksums false [] = codes "]"
list_words initials checksums is_first (option ∷ options) =
    before_words is_first ++ (option_words initials checksums option ++ list_words initials checksums false options)
