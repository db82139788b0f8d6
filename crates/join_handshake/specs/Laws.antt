-- The law of a join: what one side says, the other takes.
use Rattle.std.specs.Prelude.{◌≡◌, ℕ, Bool, Some, Ok}
use Rattle.key_material.specs.JoinHmac.{join_a160_of}
use Rattle.mptcp_options.specs.Value.{value_of}
use Rattle.join_handshake.specs.Heard.{syn_heard, answer_heard, answer_taken, third_heard}
use Rattle.join_handshake.specs.Said.{syn_option, answer_option, third_option}

-- B hears in A's SYN what A asked for; A takes from B's SYN/ACK its flag, id and nonce; B hears
-- in A's third ACK the HMAC that it demands
abbrev pub HonestSidesAgree : Type 0
HonestSidesAgree = (key_a key_b nonce_a nonce_b token id : ℕ) (backup : Bool)
    → (syn_heard (Some (value_of (syn_option backup id token nonce_a)))
    ≡ Some (record { backup = backup; id = id; token = token; nonce = nonce_a }))
    × (answer_taken key_a key_b nonce_a (answer_heard (Some (value_of (answer_option key_a key_b nonce_a nonce_b backup id))))
    ≡ Ok (record { backup = backup; id = id; nonce = nonce_b }))
    × (third_heard (Some (value_of (third_option key_a key_b nonce_a nonce_b))) ≡ Some (join_a160_of key_a key_b nonce_a nonce_b))
