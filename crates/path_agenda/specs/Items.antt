-- The things that a copy says, one after the other.
use Rattle.std.specs.Prelude.{ℕ, ◌^◌, ◌<◌, ◌≤◌, if◌then◌else◌, Bool, true, false, Option, Some, None, List, [], ◌∷◌}
use Rattle.std.specs.Option.{option_or}
use Rattle.mptcp_options.specs.declared.join.JoinForm.{JoinForm}
use Rattle.mptcp_options.specs.declared.join.JoinForm.TheVariants.{Syn, Answer, Third}
use Rattle.path_agenda.specs.declared.heard.Heard.{Heard}
use Rattle.path_agenda.specs.declared.heard.Heard.TheVariants as says
use Rattle.path_agenda.specs.declared.heard.JoinStep.{JoinStep}
use Rattle.path_agenda.specs.declared.heard.JoinStep.TheVariants as step
use Rattle.path_agenda.specs.declared.keys.KeyPair.{KeyPair}

abbrev pub is_dss : Heard → Bool
is_dss says.Dss = true
is_dss _ = false

-- the place of a Data ACK is below 2^62, and that of a DATA_FIN at most that
abbrev pub IsFair : Heard → Type 0
IsFair (says.DataAck next window) = next < 2 ^ 62
IsFair (says.DataFin place) = place ≤ 2 ^ 62
IsFair _ = Unit {0}

-- the place that the Data ACK of the first DSS names
abbrev pub place_in_first : List Heard → Option ℕ
place_in_first [] = None
place_in_first (says.Dss ∷ says.DataAck next window ∷ items) = Some next
place_in_first (says.Dss ∷ items) = None
place_in_first (item ∷ items) = place_in_first items

-- what wants an acknowledgement though it occupies no position
abbrev pub wants_ack : Heard → Bool
wants_ack (says.DataFin place) = true
wants_ack (says.Mapping fin) = fin
wants_ack (says.Keys own peer) = true
wants_ack (says.Join (Third hmac)) = true
wants_ack _ = false

-- ---- keys

-- the peer's key, as B's SYN/ACK shows it
abbrev pub key_in : Heard → Option ℕ
key_in (says.PeerKey key) = Some key
key_in _ = None

-- the first one
abbrev pub key_heard : List Heard → Option ℕ
key_heard [] = None
key_heard (item ∷ items) = option_or (key_in item) (key_heard items)

-- both keys, as A shows them to B
abbrev pub pair_in : Heard → Option KeyPair
pair_in (says.Keys own peer) = Some (record { own = own; peer = peer })
pair_in _ = None

-- the first pair
abbrev pub keys_heard : List Heard → Option KeyPair
keys_heard [] = None
keys_heard (item ∷ items) = option_or (pair_in item) (keys_heard items)

-- ---- joins

-- the form is that of the segment
abbrev pub is_of_step : JoinStep → JoinForm → Bool
is_of_step step.Syn (Syn backup id token nonce) = true
is_of_step step.Answer (Answer backup id hmac nonce) = true
is_of_step step.Third (Third hmac) = true
is_of_step _ _ = false

-- an MP_JOIN of this form
abbrev pub join_in : JoinStep → Heard → Option JoinForm
join_in step (says.Join form) = if is_of_step step form then Some form else None
join_in step _ = None

-- the first MP_JOIN of the form
abbrev pub join_heard : JoinStep → List Heard → Option JoinForm
join_heard step [] = None
join_heard step (item ∷ items) = option_or (join_in step item) (join_heard step items)
