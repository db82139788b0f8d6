-- What a step of the handshake hears in the option of a segment, if there is one (RFC 8684, section 3.1). The keys of
-- an MP_CAPABLE tell the step that it belongs to; at the other steps it is as good as none, as are the other options.
use Rattle.std.specs.Prelude.{ℕ, Bool, ◌||◌, Option, Some, None}
use Rattle.mptcp_options.specs.declared.capable.CapableKeys.TheVariants.{NoKey, Sender, Both, WithData}
use Rattle.mptcp_options.specs.Value.{OptionValue, Capable}

-- on a SYN, without a key: flag A
abbrev pub flag_on_syn : Option OptionValue → Option Bool
flag_on_syn (Some (Capable flag_a flag_c NoKey)) = Some flag_a
flag_on_syn heard = None

-- on a SYN/ACK, with the sender's key alone: that key and flag A
abbrev pub key_and_flag_on_syn_ack : Option OptionValue → Option (ℕ × Bool)
key_and_flag_on_syn_ack (Some (Capable flag_a flag_c (Sender sender))) = Some (sender, flag_a)
key_and_flag_on_syn_ack heard = None

-- on the ACK that ends the handshake, and on the first segment with data: the sender's key and the receiver's
abbrev pub keys_on_ack : Option OptionValue → Option (ℕ × ℕ)
keys_on_ack (Some (Capable flag_a flag_c (Both sender receiver))) = Some (sender, receiver)
keys_on_ack (Some (Capable flag_a flag_c (WithData sender receiver length checksum))) = Some (sender, receiver)
keys_on_ack heard = None

-- checksums are used where either side requires them
abbrev pub checksums_used : Bool → Bool → Bool
checksums_used own peer = own || peer
