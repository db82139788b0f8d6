-- The keys behind the options of a segment: those that were known stay.
use Rattle.std.proofs.Common.{◌≡◌, refl, ◌∙◌, ℕ, Option, Some, None, List, [], ◌∷◌}
use Rattle.sides.specs.declared.side.Side.{Side}
use Rattle.sides.specs.declared.side.Side.TheVariants.{A, B}
use Rattle.mptcp_options.specs.declared.capable.CapableKeys.{CapableKeys}
use Rattle.mptcp_options.specs.declared.capable.CapableKeys.TheVariants as told
use Rattle.mptcp_options.specs.Value.{OptionValue, Capable}
use Rattle.judge_rules.specs.declared.finding.Verdict.{Verdict}
use Rattle.judge_rules.specs.declared.finding.Verdict.TheVariants as verdict
use Rattle.seen_connections.specs.declared.connections.Keys.{Keys}
use Rattle.seen_connections.specs.SeenOptions.{SeenValue, Readable, Formless}
use Rattle.rule_book.specs.Facts.{Facts}
use Rattle.rule_book.specs.Signals.{KeyedValue, judged_in, keyed_by, keyed_each, keyed_one, keyed_seen, with_a, with_key}
use Rattle.judge_laws.proofs.Flows.{AreTold}

pub same_told : (keys : Keys) → AreTold keys keys
same_told keys = record { a = λ key is. is; b = refl }

then_told : (x y z : Keys) → AreTold x y → AreTold y z → AreTold x z
then_told x y z first next = record { a = λ key is. next.a key (first.a key is); b = next.b ∙ first.b }

key_kept : (known : Option ℕ) (sender key : ℕ) → known ≡ Some key → with_key known sender ≡ Some key
key_kept (Some k) sender key is = is
key_kept None sender key is = cc

with_a_told : (side : Side) (keys : CapableKeys) (known : Keys) → AreTold known (with_a side keys known)
with_a_told A (told.Both sender receiver) known = record { a = λ key is. key_kept known.a sender key is; b = refl }
with_a_told A (told.WithData sender receiver data_length checksum) known = record { a = λ key is. key_kept known.a sender key is; b = refl }
with_a_told A keys known = same_told known
with_a_told B keys known = same_told known

by_told : (v : Verdict) (facts : Facts) (option : OptionValue) (keys : CapableKeys) (state : KeyedValue) → AreTold state.keys (keyed_by v facts option keys state).keys
by_told verdict.PassedOver facts option keys state = same_told state.keys
by_told verdict.Kept facts option keys state = with_a_told facts.side keys state.keys
by_told (verdict.Broke finding) facts option keys state = same_told state.keys

one_told : (facts : Facts) (option : OptionValue) (state : KeyedValue) → AreTold state.keys (keyed_one facts option state).keys
one_told facts (Capable flag_a flag_c keys) state = by_told (judged_in facts.flow.opening facts.side state.keys keys) facts (Capable flag_a flag_c keys) keys state
one_told facts option state = same_told state.keys

seen_told : (facts : Facts) (option : SeenValue) (state : KeyedValue) → AreTold state.keys (keyed_seen facts option state).keys
seen_told facts (Readable option) state = one_told facts option state
seen_told facts (Formless octets) state = same_told state.keys

pub keys_told : (facts : Facts) (options : List SeenValue) (state : KeyedValue) → AreTold state.keys (keyed_each facts options state).keys
keys_told facts [] state = same_told state.keys
keys_told facts (option ∷ options) state =
    then_told state.keys (keyed_seen facts option state).keys (keyed_each facts options (keyed_seen facts option state)).keys
    (seen_told facts option state) (keys_told facts options (keyed_seen facts option state))
