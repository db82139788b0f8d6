-- What a step of a join hears in the option of a segment, if there is one (RFC 8684, section 3.2). The form of an
-- MP_JOIN tells the step that it belongs to; at the other steps it is as good as none, as are the other options.
use Rattle.std.specs.Prelude.{ℕ, List, Option, Some, None, ◌==◌, if◌then◌else◌, Result, Ok, Err}
use Rattle.key_material.specs.JoinHmac.{join_b64_of}
use Rattle.mptcp_options.specs.declared.join.JoinForm.TheVariants.{Syn, Answer, Third}
use Rattle.mptcp_options.specs.Value.{OptionValue, Join}
use Rattle.join_handshake.specs.declared.fault.JoinFault.{JoinFault}
use Rattle.join_handshake.specs.declared.fault.JoinFault.TheVariants.{NoOption, BadHmac}
use Rattle.join_handshake.specs.declared.hearing.JoinSyn.{JoinSyn}
use Rattle.join_handshake.specs.declared.hearing.JoinAnswer.{JoinAnswer}

-- on a SYN: what A asks for
abbrev pub syn_heard : Option OptionValue → Option JoinSyn
syn_heard (Some (Join (Syn backup id token nonce))) = Some (record { backup = backup; id = id; token = token; nonce = nonce })
syn_heard heard = None

-- on a SYN/ACK: 64 bits of an HMAC, and what B answers
abbrev pub answer_heard : Option OptionValue → Option (ℕ × JoinAnswer)
answer_heard (Some (Join (Answer backup id hmac nonce))) = Some (hmac, record { backup = backup; id = id; nonce = nonce })
answer_heard heard = None

-- what A takes from it: the answer, where the HMAC is B's
abbrev pub answer_taken : ℕ → ℕ → ℕ → Option (ℕ × JoinAnswer) → Result JoinAnswer JoinFault
answer_taken key_a key_b nonce_a None = Err NoOption
answer_taken key_a key_b nonce_a (Some heard) =
    if heard.0 == join_b64_of key_a key_b nonce_a heard.1.nonce then Ok heard.1 else Err BadHmac

-- on the third ACK: 160 bits of an HMAC
abbrev pub third_heard : Option OptionValue → Option (List ℕ)
third_heard (Some (Join (Third hmac))) = Some hmac
third_heard heard = None
