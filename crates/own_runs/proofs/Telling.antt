-- Rules that were told of a side, and rules that weren't.
use Rattle.std.proofs.Common.{◌≡◌, refl, sym, ap, ◌∙◌, ℕ, ◌==◌, ◌||◌, Bool, true, false, if◌then◌else◌, List, [], ◌∷◌, ◌++◌}
use Rattle.std.specs.Prelude.{unwrap_or}
use Rattle.std.specs.List.{list_any, slice_get}
use Rattle.std.proofs.lemmas.Bool.{eqb-true, false≢true}
use Rattle.std.proofs.lemmas.List.Folds.{list_any-append}
use Rattle.judge_rules.specs.declared.finding.Rule.{Rule}
use Rattle.judge_rules.specs.declared.finding.Rule.TheVariants as rule
use Rattle.judge_rules.specs.Rules.{rule_number}
use Rattle.seen_streams.specs.State.{BrokenValue, FaultValue, same_rule, with_broken}

-- ---- a rule has a number of its own

abbrev rules : List Rule
rules =
    rule.Form ∷ rule.Keys ∷ rule.Token ∷ rule.JoinHmac ∷ rule.AddressHmac ∷ rule.FastCloseKey ∷ rule.Mapping ∷ rule.Within ∷ rule.PlaceContent ∷ rule.DssSum ∷ rule.DataAck
    ∷ rule.DataFin ∷ rule.Infinite ∷ rule.Fail ∷ []

abbrev rule_of : ℕ → Rule
rule_of n = unwrap_or (slice_get rules n) rule.Fail

rule_back : (r : Rule) → rule_of (rule_number r) ≡ r
rule_back rule.Form = refl
rule_back rule.Keys = refl
rule_back rule.Token = refl
rule_back rule.JoinHmac = refl
rule_back rule.AddressHmac = refl
rule_back rule.FastCloseKey = refl
rule_back rule.Mapping = refl
rule_back rule.Within = refl
rule_back rule.PlaceContent = refl
rule_back rule.DssSum = refl
rule_back rule.DataAck = refl
rule_back rule.DataFin = refl
rule_back rule.Infinite = refl
rule_back rule.Fail = refl

-- ---- none of some rules was told

module _ (which : Rule → Bool) where
  abbrev pub Untold : List BrokenValue → Type 0
  Untold broken = (r : Rule) → which r ≡ true → list_any (same_rule r) broken ≡ false

  differ : (r q : Rule) → which r ≡ false → which q ≡ true → (rule_number r == rule_number q) ≡ false
  differ r q other is = by (rule_number r == rule_number q) refl
    where
      by : (b : Bool) → (rule_number r == rule_number q) ≡ b → b ≡ false
      by false e = refl
      by true e =
          let same : r ≡ q = sym (rule_back r) ∙ ap rule_of (eqb-true (rule_number r) (rule_number q) e) ∙ rule_back q in
          absurd (false≢true (sym other ∙ ap which same ∙ is))

  -- another one may be told
  pub others_keep : (r : Rule) (packet : ℕ) (fault : FaultValue) (broken : List BrokenValue) → which r ≡ false → Untold broken
      → Untold (with_broken (record { rule = r; packet = packet; fault = fault }) broken)
  others_keep r packet fault broken other h q is = by (list_any (same_rule r) broken)
    where
      new : BrokenValue
      new = record { rule = r; packet = packet; fault = fault }

      by : (b : Bool) → list_any (same_rule q) (if b then broken else broken ++ new ∷ []) ≡ false
      by true = h q is
      by false =
          list_any-append (same_rule q) broken (new ∷ []) ∙ ap (λ (b : Bool). b || list_any (same_rule q) (new ∷ [])) (h q is)
          ∙ ap (λ (b : Bool). b || false) (differ r q other is)
