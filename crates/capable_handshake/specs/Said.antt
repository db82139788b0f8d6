-- The MP_CAPABLE that a side says at each step of the handshake (RFC 8684, section 3.1): flag A, flag C, which is never
-- set here, and the keys, that of the segment's sender first.
use Rattle.std.specs.Prelude.{ℕ, Bool, false, Option, is_some}
use Rattle.mptcp_options.specs.declared.option.MpOption.{MpOption}
use Rattle.mptcp_options.specs.declared.option.MpOption.TheVariants.{Capable}
use Rattle.mptcp_options.specs.declared.capable.CapableKeys.TheVariants.{NoKey, Sender, Both, WithData}

-- on the client's SYN: whether the client requires checksums
abbrev pub syn_option : Bool → MpOption
syn_option checksum = Capable checksum false NoKey

-- on the server's SYN/ACK: whether the server requires checksums, and its key
abbrev pub syn_ack_option : Bool → ℕ → MpOption
syn_ack_option checksum sender = Capable checksum false (Sender sender)

-- on the client's ACK: whether the connection uses checksums, and both keys
abbrev pub ack_option : Bool → ℕ → ℕ → MpOption
ack_option checksum sender receiver = Capable checksum false (Both sender receiver)

-- on the client's first segment with data: the same, and the mapping's length and checksum
abbrev pub first_data_option : ℕ → ℕ → ℕ → Option ℕ → MpOption
first_data_option sender receiver length checksum = Capable (is_some checksum) false (WithData sender receiver length checksum)
