-- What a SYN asks for, and what a SYN/ACK answers: by the first option that has the form for it (RFC 8684, sections 3.1 and 3.2).
use Rattle.std.specs.Prelude.{ℕ, false, ◌||◌, Option, Some, None, List, [], ◌∷◌}
use Rattle.std.specs.Option.{option_or}
use Rattle.mptcp_options.specs.declared.capable.CapableKeys.TheVariants.{NoKey, Sender}
use Rattle.mptcp_options.specs.declared.join.JoinForm.TheVariants as form
use Rattle.mptcp_options.specs.Meaning.{option_meaning}
use Rattle.mptcp_options.specs.Value.{Meaning, Known}
use Rattle.mptcp_options.specs.Value as wire
use Rattle.seen_connections.specs.declared.flow.Opening.{Opening}
use Rattle.seen_connections.specs.declared.flow.Opening.TheVariants as opening
use Rattle.seen_connections.specs.declared.asked.Answer.{Answer}
use Rattle.seen_connections.specs.declared.asked.Answer.TheVariants as answer

-- MP_CAPABLE of 4 octets asks for a connection, MP_JOIN of 12 for a subflow of one
abbrev pub asked_by : Meaning → Option Opening
asked_by (Known (wire.Capable flag_a flag_c NoKey)) = Some (opening.Capable flag_a)
asked_by (Known (wire.Join (form.Syn backup id token nonce))) = Some (opening.Join token nonce)
asked_by _ = None

abbrev pub first_asked : List (List ℕ) → Option Opening
first_asked [] = None
first_asked (option ∷ options) = option_or (asked_by (option_meaning option false)) (first_asked options)

-- MP_CAPABLE of 12 octets answers MP_CAPABLE, MP_JOIN of 16 answers MP_JOIN
abbrev pub answered_by : Opening → Meaning → Option Answer
answered_by (opening.Capable checksums) (Known (wire.Capable flag_a flag_c (Sender key))) = Some (answer.Key key (checksums || flag_a))
answered_by (opening.Join token nonce) (Known (wire.Join (form.Answer backup id hmac own))) =
    Some (answer.Join (record { token = token; nonce = nonce; answer = own; hmac = hmac }))
answered_by _ _ = None

abbrev pub first_answer : Opening → List (List ℕ) → Option Answer
first_answer opening [] = None
first_answer opening (option ∷ options) = option_or (answered_by opening (option_meaning option false)) (first_answer opening options)
