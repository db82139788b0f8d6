-- The options of a segment as objects.
use Rattle.std.specs.Prelude.{ℕ, Bool, Option, Some, None, List, [], ◌∷◌, codes, map}
use Rattle.mptcp_options.specs.Meaning.{option_meaning}
use Rattle.mptcp_options.specs.Value as wire
use Rattle.segment_wire.specs.Options.{mss_of, window_scale_of}
use Rattle.serde_json.specs.Data.{Data, number, unsigned, string, object, member, no_members}
use Rattle.trace_json.specs.Multipath.{value_data}

-- no more than a name
abbrev pub named_data : List ℕ → Data
named_data name = object (member (codes "name") (string name) no_members)

-- of an option of another kind
abbrev pub kind_data : List ℕ → Data
kind_data [] = named_data (codes "unknown")
kind_data (kind ∷ rest) = object (member (codes "kind") (number (unsigned kind)) (member (codes "name") (string (codes "unknown")) no_members))

-- the maximum segment size, in octets (RFC 9293, section 3.7.1)
abbrev pub size_data : ℕ → Data
size_data size = object (member (codes "name") (string (codes "MSS")) (member (codes "size") (number (unsigned size)) no_members))

-- by how many bits windows are shifted (RFC 7323, section 2.2)
abbrev pub scale_data : ℕ → Data
scale_data shift = object (member (codes "name") (string (codes "WSCALE")) (member (codes "shift") (number (unsigned shift)) no_members))

-- of an option by what it means
abbrev pub meaning_data : List ℕ → wire.Meaning → Data
meaning_data option (wire.Known value) = value_data value
meaning_data option wire.Malformed = named_data (codes "malformed")
meaning_data option wire.Unknown = kind_data option

-- of one of Multipath TCP, where checksums of data are used or aren't
abbrev pub multipath_data : List ℕ → Bool → Data
multipath_data option checksums = meaning_data option (option_meaning option checksums)

-- of a window scale, or else of one of Multipath TCP
abbrev pub scaled_data : Option ℕ → Bool → List ℕ → Data
scaled_data (Some shift) checksums option = scale_data shift
scaled_data None checksums option = multipath_data option checksums

-- of a maximum segment size, or else of another one
abbrev pub sized_data : Option ℕ → Bool → List ℕ → Data
sized_data (Some size) checksums option = size_data size
sized_data None checksums option = scaled_data (window_scale_of option) checksums option

-- of any option
abbrev pub option_data : Bool → List ℕ → Data
option_data checksums option = sized_data (mss_of option) checksums option

abbrev pub options_data : Bool → List (List ℕ) → List Data
options_data checksums options = map (option_data checksums) options
