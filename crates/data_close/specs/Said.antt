-- The options that end the connection or a path (RFC 8684, sections 3.5 and 3.6).
use Rattle.std.specs.Prelude.{ℕ, false}
use Rattle.mptcp_options.specs.declared.option.MpOption.{MpOption}
use Rattle.mptcp_options.specs.declared.option.MpOption.TheVariants.{FastClose, Reset}

-- the fast close, which shows the receiver's key
abbrev pub fast_close_option : ℕ → MpOption
fast_close_option key = FastClose key

-- why a path is reset; the fault doesn't pass
abbrev pub reset_option : ℕ → MpOption
reset_option reason = Reset false reason
