-- What holds of each option that is judged on, where it holds of each that reads.
use Rattle.std.proofs.Common.{List, [], ◌∷◌, ◌++◌, map}
use Rattle.std.specs.Prelude.{All}
use Rattle.std.proofs.lemmas.List.Elements.{All-append, All-cons, All-head, All-nil, All-tail}
use Rattle.mptcp_options.specs.declared.capable.CapableKeys.{CapableKeys}
use Rattle.mptcp_options.specs.Value.{OptionValue, Capable}
use Rattle.judge_rules.specs.declared.finding.Verdict.{Verdict}
use Rattle.judge_rules.specs.declared.finding.Verdict.TheVariants.{Broke, Kept, PassedOver}
use Rattle.rule_book.specs.Facts.{Facts}
use Rattle.rule_book.specs.Signals.{KeyedValue, judged_in, keyed_by, keyed_each, keyed_one}
use Rattle.seen_connections.specs.SeenOptions.{Readable}

module _ (P : OptionValue → Type 0) (facts : Facts) where
  last_so : (option : OptionValue) (options : List OptionValue) → P option → All P options → All P (options ++ option ∷ [])
  last_so option options is each = All-append P options (option ∷ []) each (All-cons P option [] is (All-nil P))

  by_so : (v : Verdict) (option : OptionValue) (keys : CapableKeys) (state : KeyedValue) → P option → All P state.options → All P (keyed_by v facts option keys state).options
  by_so (Broke finding) option keys state is each = each
  by_so PassedOver option keys state is each = each
  by_so Kept option keys state is each = last_so option state.options is each

  one_so : (option : OptionValue) (state : KeyedValue) → P option → All P state.options → All P (keyed_one facts option state).options
  one_so (Capable flag_a flag_c keys) state is each = by_so (judged_in facts.flow.opening facts.side state.keys keys) (Capable flag_a flag_c keys) keys state is each
  one_so option state is each = last_so option state.options is each

  pub kept_so : (values : List OptionValue) (state : KeyedValue) → All P values → All P state.options → All P (keyed_each facts (map Readable values) state).options
  kept_so [] state all each = each
  kept_so (value ∷ values) state all each =
      kept_so values (keyed_one facts value state) (All-tail P value values all) (one_so value state (All-head P value values all) each)
