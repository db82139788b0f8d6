-- The MP_JOIN that a side says at each step of a join (RFC 8684, section 3.2).
use Rattle.std.specs.Prelude.{ℕ, Bool}
use Rattle.key_material.specs.JoinHmac.{join_b64_of, join_a160_of}
use Rattle.mptcp_options.specs.declared.option.MpOption.{MpOption}
use Rattle.mptcp_options.specs.declared.option.MpOption.TheVariants.{Join}
use Rattle.mptcp_options.specs.declared.join.JoinForm.TheVariants.{Syn, Answer, Third}

-- on A's SYN: whether the path is a backup, A's address id, B's token, A's nonce
abbrev pub syn_option : Bool → ℕ → ℕ → ℕ → MpOption
syn_option backup id token nonce = Join (Syn backup id token nonce)

-- on B's SYN/ACK: the same flag and B's address id, 64 bits of B's HMAC, B's nonce
abbrev pub answer_option : ℕ → ℕ → ℕ → ℕ → Bool → ℕ → MpOption
answer_option key_a key_b nonce_a nonce_b backup id = Join (Answer backup id (join_b64_of key_a key_b nonce_a nonce_b) nonce_b)

-- on A's third ACK: 160 bits of A's HMAC
abbrev pub third_option : ℕ → ℕ → ℕ → ℕ → MpOption
third_option key_a key_b nonce_a nonce_b = Join (Third (join_a160_of key_a key_b nonce_a nonce_b))
