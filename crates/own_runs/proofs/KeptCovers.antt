-- What an option of a segment offers is offered by an option that is judged on, and A's key is known behind a segment that shows it.
use Rattle.std.proofs.Common.{◌≡◌, refl, sym, ap, subst, ℕ, inl, inr, ⊎_elim, ◌||◌, ◌==◌, Bool, true, false, if◌then◌else◌, Option, Some, None, is_some, List, [], ◌∷◌, ◌++◌, map}
use Rattle.std.specs.Prelude.{All}
use Rattle.std.specs.List.{list_any}
use Rattle.std.proofs.lemmas.Bool.{false≢true}
use Rattle.std.proofs.lemmas.List.Elements.{All-head, All-tail}
use Rattle.judge_laws.proofs.Keyed.{keys_told}
use Rattle.judge_rules.specs.Keys.{first_other, other_key}
use Rattle.judge_rules.specs.declared.finding.Finding.TheVariants.{Number64}
use Rattle.judge_rules.specs.declared.finding.Rule.{Rule}
use Rattle.judge_rules.specs.declared.finding.Verdict.TheVariants.{Broke, Kept, PassedOver}
use Rattle.judge_rules.specs.declared.finding.Verdict.{Verdict}
use Rattle.mptcp_options.specs.Value.{OptionValue, Capable}
use Rattle.mptcp_options.specs.declared.capable.CapableKeys.TheVariants.{Both, NoKey, Sender, WithData}
use Rattle.mptcp_options.specs.declared.capable.CapableKeys.{CapableKeys}
use Rattle.rule_book.specs.Facts.{Facts}
use Rattle.rule_book.specs.Signals.{KeyedValue, judged_in, keyed_by, keyed_each, keyed_one, with_a, with_key}
use Rattle.seen_connections.specs.SeenOptions.{Readable}
use Rattle.seen_connections.specs.declared.connections.Keys.{Keys}
use Rattle.seen_connections.specs.declared.flow.Opening.TheVariants as opening
use Rattle.seen_connections.specs.declared.flow.Opening.{Opening}
use Rattle.sides.specs.declared.side.Side.TheVariants.{A, B}
use Rattle.sides.specs.declared.side.Side.{Side}
use Rattle.own_runs.proofs.AckPositions.{AnyOf}
use Rattle.own_runs.proofs.Own.{Drawn, ValueIs}
use Rattle.own_runs.proofs.OwnOptions.{IsKeyed, IsOf, NoBreak, one_so, verdict_so}
use Rattle.own_runs.proofs.TokenSegments.{IsCapable}

-- MP_CAPABLE with both keys, and perhaps with data
abbrev pub shows_both : OptionValue → Bool
shows_both (Capable flag_a flag_c (Both sender receiver)) = true
shows_both (Capable flag_a flag_c (WithData sender receiver len checksum)) = true
shows_both _ = false

abbrev pub maps_first : OptionValue → Bool
maps_first (Capable flag_a flag_c (WithData sender receiver len checksum)) = true
maps_first _ = false

-- ---- what keeps the rule on keys

keeps : (expected was : Option ℕ) → NoBreak (other_key expected was) → other_key expected was ≡ Kept
keeps (Some known) (Some told) none = by (known == told) none
  where
    by : (b : Bool) → NoBreak (if b then Kept else Broke (Number64 known told)) → (if b then Kept else Broke (Number64 known told)) ≡ Kept
    by true none = refl
    by false none = absurd none
keeps None (Some told) none = refl
keeps (Some known) None none = refl
keeps None None none = refl

second_kept : (one other : Verdict) → (NoBreak other → other ≡ Kept) → NoBreak (first_other one other) → first_other one other ≡ Kept
second_kept (Broke finding) other keep none = absurd none
second_kept Kept other keep none = keep none
second_kept PassedOver other keep none = keep none

in_first : (o : Opening) (t : Side) (known : Keys) (flag_a flag_c : Bool) (keys : CapableKeys) → IsCapable o → t ≡ A → shows_both (Capable flag_a flag_c keys) ≡ true
    → NoBreak (judged_in o t known keys) → judged_in o t known keys ≡ Kept
in_first (opening.Join token nonce) t known flag_a flag_c keys capable of_a shows none = absurd capable
in_first (opening.Capable checksums) B known flag_a flag_c keys capable of_a shows none = cc
in_first (opening.Capable checksums) A known flag_a flag_c (Both sender receiver) capable of_a shows none =
    second_kept (other_key (Some known.b) (Some receiver)) (other_key known.a (Some sender)) (keeps known.a (Some sender)) none
in_first (opening.Capable checksums) A known flag_a flag_c (WithData sender receiver len checksum) capable of_a shows none =
    second_kept (other_key (Some known.b) (Some receiver)) (other_key known.a (Some sender)) (keeps known.a (Some sender)) none
in_first (opening.Capable checksums) A known flag_a flag_c NoKey capable of_a shows none = absurd (false≢true shows)
in_first (opening.Capable checksums) A known flag_a flag_c (Sender sender) capable of_a shows none = absurd (false≢true shows)

-- ---- one of some options

module _ (R : OptionValue → Type 0) where
  any_more : (xs ys : List OptionValue) → AnyOf R xs → AnyOf R (xs ++ ys)
  any_more [] ys any = absurd any
  any_more (x ∷ xs) ys any = ⊎_elim (λ here. inl here) (λ later. inr (any_more xs ys later)) any

  any_last : (xs : List OptionValue) (x : OptionValue) → R x → AnyOf R (xs ++ x ∷ [])
  any_last [] x is = inl is
  any_last (y ∷ xs) x is = inr (any_last xs x is)

  module _ (facts : Facts) where
    by_stays : (v : Verdict) (option : OptionValue) (keys : CapableKeys) (state : KeyedValue) → AnyOf R state.options → AnyOf R (keyed_by v facts option keys state).options
    by_stays (Broke finding) option keys state any = any
    by_stays PassedOver option keys state any = any
    by_stays Kept option keys state any = any_more state.options (option ∷ []) any

    one_stays : (option : OptionValue) (state : KeyedValue) → AnyOf R state.options → AnyOf R (keyed_one facts option state).options
    one_stays (Capable flag_a flag_c keys) state any = by_stays (judged_in facts.flow.opening facts.side state.keys keys) (Capable flag_a flag_c keys) keys state any
    one_stays option state any = any_more state.options (option ∷ []) any

    each_stays : (values : List OptionValue) (state : KeyedValue) → AnyOf R state.options → AnyOf R (keyed_each facts (map Readable values) state).options
    each_stays [] state any = any
    each_stays (value ∷ values) state any = each_stays values (keyed_one facts value state) (one_stays value state any)

-- ---- of a segment

-- MP_CAPABLE with data is A's, in a flow that such a SYN began
abbrev pub IsFirst : Facts → OptionValue → Type 0
IsFirst facts option = maps_first option ≡ true → IsCapable facts.flow.opening × (facts.side ≡ A)

module _ (d : Drawn) (which : Rule → Bool) (path : ℕ) (facts : Facts) (it : IsOf d which path facts) where
  abbrev Keyed : KeyedValue → Type 0
  Keyed state = IsKeyed d which path facts.side state

  next : (value : OptionValue) (state : KeyedValue) → ValueIs d path facts.side value → Keyed state → Keyed (keyed_one facts value state)
  next value state is k = one_so d which path facts it value state is k

  is_kept : (flag_a flag_c : Bool) (keys : CapableKeys) (state : KeyedValue) → ValueIs d path facts.side (Capable flag_a flag_c keys) → Keyed state → IsCapable facts.flow.opening → facts.side ≡ A
      → shows_both (Capable flag_a flag_c keys) ≡ true → judged_in facts.flow.opening facts.side state.keys keys ≡ Kept
  is_kept flag_a flag_c keys state is k capable of_a shows =
      in_first facts.flow.opening facts.side state.keys flag_a flag_c keys capable of_a shows (verdict_so d which path facts it facts.flow.opening keys state.keys is k.keys)

  -- an option that offers something is judged on
  module _ (R : OptionValue → Type 0) (offers : (flag_a flag_c : Bool) (keys : CapableKeys) → R (Capable flag_a flag_c keys) → maps_first (Capable flag_a flag_c keys) ≡ true) where
    both_so : (flag_a flag_c : Bool) (keys : CapableKeys) → maps_first (Capable flag_a flag_c keys) ≡ true → shows_both (Capable flag_a flag_c keys) ≡ true
    both_so flag_a flag_c (WithData sender receiver len checksum) is = refl
    both_so flag_a flag_c (Both sender receiver) is = refl
    both_so flag_a flag_c NoKey is = absurd (false≢true is)
    both_so flag_a flag_c (Sender sender) is = absurd (false≢true is)

    now : (value : OptionValue) (state : KeyedValue) → ValueIs d path facts.side value → Keyed state → IsFirst facts value → R value → AnyOf R (keyed_one facts value state).options
    now (Capable flag_a flag_c keys) state is k first r =
        let maps = offers flag_a flag_c keys r in
        let at = first maps in
        subst (λ (v : Verdict). AnyOf R (keyed_by v facts (Capable flag_a flag_c keys) keys state).options)
        (sym (is_kept flag_a flag_c keys state is k at.0 at.1 (both_so flag_a flag_c keys maps))) (any_last R state.options (Capable flag_a flag_c keys) r)
    now value state is k first r = any_last R state.options value r

    pub kept_any : (values : List OptionValue) (state : KeyedValue) → All (ValueIs d path facts.side) values → Keyed state → All (IsFirst facts) values → AnyOf R values
        → AnyOf R (keyed_each facts (map Readable values) state).options
    kept_any [] state each k first any = absurd any
    kept_any (value ∷ values) state each k first any =
        let is = All-head (ValueIs d path facts.side) value values each in
        ⊎_elim
        (λ here. each_stays R facts values (keyed_one facts value state) (now value state is k (All-head (IsFirst facts) value values first) here))
        (λ later. kept_any values (keyed_one facts value state) (All-tail (ValueIs d path facts.side) value values each) (next value state is k) (All-tail (IsFirst facts) value values first) later)
        any

  -- A's key
  some_key : (known : Option ℕ) (sender : ℕ) → is_some (with_key known sender) ≡ true
  some_key (Some known) sender = refl
  some_key None sender = refl

  told_key : (t : Side) (flag_a flag_c : Bool) (keys : CapableKeys) (known : Keys) → t ≡ A → shows_both (Capable flag_a flag_c keys) ≡ true → is_some (with_a t keys known).a ≡ true
  told_key A flag_a flag_c (Both sender receiver) known of_a shows = some_key known.a sender
  told_key A flag_a flag_c (WithData sender receiver len checksum) known of_a shows = some_key known.a sender
  told_key A flag_a flag_c NoKey known of_a shows = absurd (false≢true shows)
  told_key A flag_a flag_c (Sender sender) known of_a shows = absurd (false≢true shows)
  told_key B flag_a flag_c keys known of_a shows = cc

  pub key_stays : (values : List OptionValue) (state : KeyedValue) → is_some state.keys.a ≡ true → is_some (keyed_each facts (map Readable values) state).keys.a ≡ true
  key_stays values state some = by state.keys.a refl some
    where
      by : (o : Option ℕ) → state.keys.a ≡ o → is_some o ≡ true → is_some (keyed_each facts (map Readable values) state).keys.a ≡ true
      by None e some = absurd (false≢true some)
      by (Some key) e some = ap is_some ((keys_told facts (map Readable values) state).a key e)

  key_now : (value : OptionValue) (state : KeyedValue) → ValueIs d path facts.side value → Keyed state → IsCapable facts.flow.opening → facts.side ≡ A → shows_both value ≡ true
      → is_some (keyed_one facts value state).keys.a ≡ true
  key_now (Capable flag_a flag_c keys) state is k capable of_a shows =
      subst (λ (v : Verdict). is_some (keyed_by v facts (Capable flag_a flag_c keys) keys state).keys.a ≡ true) (sym (is_kept flag_a flag_c keys state is k capable of_a shows))
      (told_key facts.side flag_a flag_c keys state.keys of_a shows)
  key_now _ state is k capable of_a shows = absurd (false≢true shows)

  pub key_shown : (values : List OptionValue) (state : KeyedValue) → All (ValueIs d path facts.side) values → Keyed state → IsCapable facts.flow.opening → facts.side ≡ A → list_any shows_both values ≡ true
      → is_some (keyed_each facts (map Readable values) state).keys.a ≡ true
  key_shown [] state each k capable of_a shows = absurd (false≢true shows)
  key_shown (value ∷ values) state each k capable of_a shows =
      by (shows_both value) refl shows
      (λ any. key_shown values (keyed_one facts value state) (All-tail (ValueIs d path facts.side) value values each)
      (next value state (All-head (ValueIs d path facts.side) value values each) k) capable of_a any)
    where
      by : (b : Bool) → shows_both value ≡ b → b || list_any shows_both values ≡ true
          → (list_any shows_both values ≡ true → is_some (keyed_each facts (map Readable values) (keyed_one facts value state)).keys.a ≡ true)
          → is_some (keyed_each facts (map Readable values) (keyed_one facts value state)).keys.a ≡ true
      by true here any later =
          key_stays values (keyed_one facts value state) (key_now value state (All-head (ValueIs d path facts.side) value values each) k capable of_a here)
      by false here any later = later any
