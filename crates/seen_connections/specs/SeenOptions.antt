-- The options of Multipath TCP of a captured segment, in their order, and those that have no form.
use Rattle.std.specs.Prelude.{Bool, List, [], ◌∷◌, ◌++◌, ℕ}
use Rattle.mptcp_options.specs.Value.{OptionValue, value_of, Meaning, Known, Unknown, Malformed}
use Rattle.mptcp_options.specs.Meaning.{option_meaning}
use Rattle.segment_wire.specs.Options.{option_octets, broken_part}
use Rattle.seen_connections.specs.declared.options.SeenOption.{SeenOption}
use Rattle.seen_connections.specs.declared.options.SeenOption.TheVariants as code

pub data SeenValue : Type 0 where
  -- an option of Multipath TCP
  Readable : OptionValue → SeenValue
  -- one of kind 30 that has no form of its subtype, or all octets from an option on that isn't whole
  Formless : List ℕ → SeenValue

-- the option that is lent
abbrev pub as_value : SeenOption → SeenValue
as_value (code.Known option) = Readable (value_of option)
as_value (code.Broken octets) = Formless octets.now

-- what an option means, where it isn't passed over
abbrev pub seen_as : Meaning → List ℕ → List SeenValue
seen_as (Known option) octets = Readable option ∷ []
seen_as Malformed octets = Formless octets ∷ []
seen_as Unknown octets = []

abbrev pub each_seen : Bool → List (List ℕ) → List SeenValue
each_seen checksums [] = []
each_seen checksums (option ∷ options) = seen_as (option_meaning option checksums) option ++ each_seen checksums options

-- what isn't whole at the end
abbrev pub seen_broken : List ℕ → List SeenValue
seen_broken [] = []
seen_broken (octet ∷ octets) = Formless (octet ∷ octets) ∷ []

-- all of them, where the connection uses checksums or not
abbrev pub seen_options : Bool → List ℕ → List SeenValue
seen_options checksums options = each_seen checksums (option_octets options) ++ seen_broken (broken_part options)
