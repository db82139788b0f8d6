-- The order in which the lines of one packet are told.
use Rattle.std.specs.Prelude.{ℕ}
use Rattle.judge_rules.specs.declared.finding.Rule.{Rule}
use Rattle.judge_rules.specs.declared.finding.Rule.TheVariants.{Form, Keys, Token, JoinHmac, AddressHmac, FastCloseKey, Mapping, Within, PlaceContent, DssSum, DataAck, DataFin, Infinite, Fail}

abbrev pub rule_number : Rule → ℕ
rule_number Form = 0
rule_number Keys = 1
rule_number Token = 2
rule_number JoinHmac = 3
rule_number AddressHmac = 4
rule_number FastCloseKey = 5
rule_number Mapping = 6
rule_number Within = 7
rule_number PlaceContent = 8
rule_number DssSum = 9
rule_number DataAck = 10
rule_number DataFin = 11
rule_number Infinite = 12
rule_number Fail = 13
