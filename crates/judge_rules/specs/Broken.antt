-- The rules that a side broke, each where it broke it first.
use Rattle.std.specs.Prelude.{Bool, ◌==◌, if◌then◌else◌, List, [], ◌∷◌, ◌++◌}
use Rattle.std.specs.List.{list_any}
use Rattle.judge_rules.specs.declared.broken.Broken.{Broken}
use Rattle.judge_rules.specs.declared.finding.Rule.{Rule}
use Rattle.judge_rules.specs.Rules.{rule_number}

abbrev pub is_of_rule : Rule → Broken → Bool
is_of_rule rule broken = rule_number broken.rule == rule_number rule

-- the first one stays
abbrev pub told_first : Broken → List Broken → List Broken
told_first fault broken = if list_any (is_of_rule fault.rule) broken then broken else broken ++ fault ∷ []
