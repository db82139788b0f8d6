-- The rules `form`, `keys`, `join-hmac`, `address-hmac` and `fast-close-key`, on the options of a segment in their order.
use Rattle.std.specs.Prelude.{ℕ, Option, Some, None, List, [], ◌∷◌, ◌++◌}
use Rattle.sides.specs.declared.side.Side.{Side}
use Rattle.sides.specs.declared.side.Side.TheVariants.{A}
use Rattle.sides.specs.Side.{peer}
use Rattle.mptcp_options.specs.declared.capable.CapableKeys.{CapableKeys}
use Rattle.mptcp_options.specs.declared.capable.CapableKeys.TheVariants as keys
use Rattle.mptcp_options.specs.Value.{OptionValue, Capable, Join}
use Rattle.seen_connections.specs.declared.flow.Opening.{Opening}
use Rattle.seen_connections.specs.declared.flow.Opening.TheVariants as opening
use Rattle.seen_connections.specs.declared.connections.Keys.{Keys}
use Rattle.seen_connections.specs.Connections.{key_of}
use Rattle.seen_connections.specs.SeenOptions.{SeenValue, Readable, Formless}
use Rattle.judge_rules.specs.declared.finding.Rule.{Rule}
use Rattle.judge_rules.specs.declared.finding.Rule.TheVariants as rule
use Rattle.judge_rules.specs.declared.finding.Verdict.{Verdict}
use Rattle.judge_rules.specs.declared.finding.Verdict.TheVariants.{PassedOver, Kept, Broke}
use Rattle.judge_rules.specs.Keys.{judged_address, judged_fast_close, judged_join, judged_keys}
use Rattle.seen_streams.specs.State.{StreamValue, NoOption, Found, counted, tell}
use Rattle.rule_book.specs.Facts.{Facts}

-- what a verdict leaves of a stream
abbrev pub told_verdict : Rule → ℕ → Verdict → StreamValue → StreamValue
told_verdict which packet (Broke finding) stream = tell which packet (Found finding) stream
told_verdict which packet PassedOver stream = stream
told_verdict which packet Kept stream = stream

-- ---- `form`

-- each that reads as no option is told
abbrev pub formless_one : ℕ → SeenValue → StreamValue → StreamValue
formless_one packet (Formless octets) stream = tell rule.Form packet (NoOption octets) stream
formless_one packet (Readable option) stream = stream

abbrev pub told_formless : ℕ → List SeenValue → StreamValue → StreamValue
told_formless packet [] stream = stream
told_formless packet (option ∷ options) stream = told_formless packet options (formless_one packet option stream)

-- ---- `keys`: of the MP_CAPABLEs in a connection's first subflow; A's first one makes its key known

-- the options that are judged on, what is known of the keys, and the sender's stream
pub record KeyedValue : Type 0 where
  pub options : List OptionValue
  pub keys : Keys
  pub stream : StreamValue

-- A's key, from its first MP_CAPABLE on that keeps the rule
abbrev pub with_key : Option ℕ → ℕ → Option ℕ
with_key (Some known) sender = Some known
with_key None sender = Some sender

abbrev pub with_a : Side → CapableKeys → Keys → Keys
with_a A (keys.Both sender receiver) known = record known { a = with_key known.a sender }
with_a A (keys.WithData sender receiver data_length checksum) known = record known { a = with_key known.a sender }
with_a _ _ known = known

-- keys are judged in a flow of MP_CAPABLE alone
abbrev pub judged_in : Opening → Side → Keys → CapableKeys → Verdict
judged_in (opening.Join token nonce) side known told = PassedOver
judged_in (opening.Capable checksums) side known told = judged_keys side (key_of side known) (key_of (peer side) known) told

abbrev pub keys_counted : StreamValue → StreamValue
keys_counted stream = record stream { keys = counted stream.keys }

abbrev pub kept_option : OptionValue → KeyedValue → KeyedValue
kept_option option state = record state { options = state.options ++ option ∷ [] }

-- one that keeps the rule stays, others are passed over
abbrev pub keyed_by : Verdict → Facts → OptionValue → CapableKeys → KeyedValue → KeyedValue
keyed_by PassedOver facts option told state = state
keyed_by Kept facts option told state = record (kept_option option state) {
  keys = with_a facts.side told state.keys;
  stream = keys_counted state.stream;
}
keyed_by (Broke finding) facts option told state =
    record state { stream = tell rule.Keys facts.packet (Found finding) (keys_counted state.stream) }

abbrev pub keyed_one : Facts → OptionValue → KeyedValue → KeyedValue
keyed_one facts (Capable flag_a flag_c told) state =
    keyed_by (judged_in facts.flow.opening facts.side state.keys told) facts (Capable flag_a flag_c told) told state
keyed_one facts option state = kept_option option state

abbrev pub keyed_seen : Facts → SeenValue → KeyedValue → KeyedValue
keyed_seen facts (Readable option) state = keyed_one facts option state
keyed_seen facts (Formless octets) state = state

abbrev pub keyed_each : Facts → List SeenValue → KeyedValue → KeyedValue
keyed_each facts [] state = state
keyed_each facts (option ∷ options) state = keyed_each facts options (keyed_seen facts option state)

-- ---- HMACs and the key of MP_FASTCLOSE

-- a join's HMAC, which is counted where it is tried
abbrev pub joins_counted : Verdict → StreamValue → StreamValue
joins_counted PassedOver stream = stream
joins_counted _ stream = record stream { joins = counted stream.joins }

abbrev pub join_in : Opening → Facts → ℕ → ℕ → OptionValue → Verdict
join_in (opening.Join token nonce) facts mine peers (Join form) = judged_join facts.is_opener mine peers nonce facts.opened.nonce form
join_in _ _ _ _ _ = PassedOver

abbrev pub joined_by : Verdict → ℕ → StreamValue → StreamValue
joined_by verdict packet stream = told_verdict rule.JoinHmac packet verdict (joins_counted verdict stream)

-- where both keys are known
abbrev pub by_both : ℕ → ℕ → Facts → OptionValue → StreamValue → StreamValue
by_both mine peers facts option stream =
    told_verdict rule.AddressHmac facts.packet (judged_address mine peers option)
    (joined_by (join_in facts.flow.opening facts mine peers option) facts.packet stream)

abbrev pub by_mine : Option ℕ → ℕ → Facts → OptionValue → StreamValue → StreamValue
by_mine None peers facts option stream = stream
by_mine (Some mine) peers facts option stream = by_both mine peers facts option stream

-- where the receiver's is
abbrev pub by_peers : Option ℕ → Option ℕ → Facts → OptionValue → StreamValue → StreamValue
by_peers None mine facts option stream = stream
by_peers (Some peers) mine facts option stream =
    told_verdict rule.FastCloseKey facts.packet (judged_fast_close peers option) (by_mine mine peers facts option stream)

abbrev pub signalled_one : Facts → Keys → OptionValue → StreamValue → StreamValue
signalled_one facts known option stream =
    by_peers (key_of (peer facts.side) known) (key_of facts.side known) facts option stream

abbrev pub signalled : Facts → Keys → List OptionValue → StreamValue → StreamValue
signalled facts known [] stream = stream
signalled facts known (option ∷ options) stream = signalled facts known options (signalled_one facts known option stream)

-- behind the rule `keys`
abbrev pub signalled_keyed : Facts → KeyedValue → KeyedValue
signalled_keyed facts made = record made { stream = signalled facts made.keys made.options made.stream }

abbrev pub judged_options : Facts → List SeenValue → KeyedValue → KeyedValue
judged_options facts options state = signalled_keyed facts (keyed_each facts options state)
