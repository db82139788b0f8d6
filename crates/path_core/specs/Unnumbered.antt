-- The options that the handshakes and the close say, as a path's segments have them (RFC 8684, section 3).
use Rattle.std.specs.Prelude.{List, [], ◌∷◌}
use Rattle.mptcp_options.specs.declared.option.MpOption.{MpOption}
use Rattle.mptcp_options.specs.declared.option.MpOption.TheVariants as wire
use Rattle.path_segments.specs.Options.{PlainOption}
use Rattle.path_segments.specs.declared.segment.PathOption.TheVariants.{Capable, Join, FastClose, Reset}

-- an option that has no number of a place: as it is; one that may have such a number: nothing
abbrev pub unnumbered : MpOption → List PlainOption
unnumbered (wire.Capable flag_a flag_c keys) = Capable flag_a flag_c keys ∷ []
unnumbered (wire.Join form) = Join form ∷ []
unnumbered (wire.FastClose key) = FastClose key ∷ []
unnumbered (wire.Reset transient reason) = Reset transient reason ∷ []
unnumbered _ = []
