-- The rules on keys and HMACs (RFC 8684, sections 3.1, 3.2, 3.4.1 and 3.5).
use Rattle.std.specs.Prelude.{ℕ, Bool, true, false, ◌==◌, if◌then◌else◌, Option, Some, None, unwrap_or, List}
use Rattle.std.specs.Cmp.Lexicographic.{pointwise}
use Rattle.sides.specs.declared.side.Side.{Side}
use Rattle.sides.specs.declared.side.Side.TheVariants.{A, B}
use Rattle.key_material.specs.declared.address.Address.{Address}
use Rattle.key_material.specs.AddressHmac.{add_addr64_of}
use Rattle.key_material.specs.JoinHmac.{join_b64_of, join_a160_of}
use Rattle.mptcp_options.specs.declared.capable.CapableKeys.{CapableKeys}
use Rattle.mptcp_options.specs.declared.capable.CapableKeys.TheVariants.{Both, WithData, Sender}
use Rattle.mptcp_options.specs.declared.join.JoinForm.{JoinForm}
use Rattle.mptcp_options.specs.declared.join.JoinForm.TheVariants.{Answer, Third}
use Rattle.mptcp_options.specs.Value.{OptionValue, AddAddr, FastClose}
use Rattle.judge_rules.specs.declared.finding.Finding.TheVariants.{Number64, Hmac160}
use Rattle.judge_rules.specs.declared.finding.Verdict.{Verdict}
use Rattle.judge_rules.specs.declared.finding.Verdict.TheVariants.{PassedOver, Kept, Broke}
use Rattle.judge_rules.specs.declared.keys.ToldKeys.{ToldKeys}

-- two numbers that are to be one, and two HMACs
abbrev pub differ64 : ℕ → ℕ → Verdict
differ64 expected was = if expected == was then Kept else Broke (Number64 expected was)

abbrev pub differ160 : List ℕ → List ℕ → Verdict
differ160 expected was = if pointwise ◌==◌ expected was then Kept else Broke (Hmac160 expected was)

-- ---- `keys` (section 3.1)

-- in the first subflow side A tells two keys, side B one; others are passed over
abbrev pub told_keys : Side → CapableKeys → Option ToldKeys
told_keys A (Both sender receiver) = Some (record { sender = sender; receiver = Some receiver })
told_keys A (WithData sender receiver data_length checksum) = Some (record { sender = sender; receiver = Some receiver })
told_keys B (Sender sender) = Some (record { sender = sender; receiver = None })
told_keys _ _ = None

-- a key that is told, beside the known one
abbrev pub other_key : Option ℕ → Option ℕ → Verdict
other_key (Some known) (Some told) = differ64 known told
other_key _ _ = Kept

-- the first of two that breaks the rule
abbrev pub first_other : Verdict → Verdict → Verdict
first_other (Broke finding) second = Broke finding
first_other _ second = second

-- the receiver's key is tried first
abbrev pub judged_told : Option ℕ → Option ℕ → Option ToldKeys → Verdict
judged_told mine peers (Some told) = first_other (other_key peers told.receiver) (other_key mine (Some told.sender))
judged_told mine peers None = PassedOver

abbrev pub judged_keys : Side → Option ℕ → Option ℕ → CapableKeys → Verdict
judged_keys side mine peers keys = judged_told mine peers (told_keys side keys)

-- ---- `join-hmac` (section 3.2): of the other end's SYN/ACK, and of the opener's third segment

abbrev pub judged_join : Bool → ℕ → ℕ → ℕ → ℕ → JoinForm → Verdict
judged_join false mine peers nonce answer (Answer backup id hmac own) = differ64 (join_b64_of peers mine nonce own) hmac
judged_join true mine peers nonce answer (Third hmac) = differ160 (join_a160_of mine peers nonce answer) hmac
judged_join _ _ _ _ _ _ = PassedOver

-- ---- `address-hmac` (section 3.4.1): of an ADD_ADDR that is no echo, port 0 where none is told

unfoldable pub announced_hmac : ℕ → ℕ → ℕ → Address → Option ℕ → ℕ
announced_hmac mine peers id address port = add_addr64_of mine peers id address (unwrap_or port 0)

abbrev pub judged_announced : ℕ → ℕ → Bool → ℕ → Address → Option ℕ → Option ℕ → Verdict
judged_announced mine peers false id address port (Some hmac) = differ64 (announced_hmac mine peers id address port) hmac
judged_announced _ _ _ _ _ _ _ = PassedOver

abbrev pub judged_address : ℕ → ℕ → OptionValue → Verdict
judged_address mine peers (AddAddr echo id address port hmac) = judged_announced mine peers echo id address port hmac
judged_address _ _ _ = PassedOver

-- ---- `fast-close-key` (section 3.5): the receiver's

abbrev pub judged_fast_close : ℕ → OptionValue → Verdict
judged_fast_close peers (FastClose key) = differ64 peers key
judged_fast_close _ _ = PassedOver
