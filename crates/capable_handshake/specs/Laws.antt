-- The laws of the handshake: what one side says, the other hears.
use Rattle.std.specs.Prelude.{◌≡◌, ℕ, Bool, Option, Some, option_map}
use Rattle.mptcp_options.specs.Value.{value_of}
use Rattle.capable_handshake.specs.Heard.{flag_on_syn, key_and_flag_on_syn_ack, keys_on_ack, checksums_used}
use Rattle.capable_handshake.specs.Said.{syn_option, syn_ack_option, ack_option, first_data_option}

-- the server's answer about checksums at the client's SYN is the client's at the server's SYN/ACK
abbrev pub ChecksumsAgree : Type 0
ChecksumsAgree = (client server : Bool) (key : ℕ)
    → option_map (checksums_used server) (flag_on_syn (Some (value_of (syn_option client))))
    ≡ option_map (λ (peer, flag_a). checksums_used client flag_a) (key_and_flag_on_syn_ack (Some (value_of (syn_ack_option server key))))

-- what the client hears is the server's key, and what the server hears is the client's key and its own
abbrev pub BothKeysArrive : Type 0
BothKeysArrive = (checksum : Bool) (client server length : ℕ) (sum : Option ℕ)
    → (option_map (λ (peer, flag_a). peer) (key_and_flag_on_syn_ack (Some (value_of (syn_ack_option checksum server)))) ≡ Some server)
    × (keys_on_ack (Some (value_of (ack_option checksum client server))) ≡ Some (client, server))
    × (keys_on_ack (Some (value_of (first_data_option client server length sum))) ≡ Some (client, server))
