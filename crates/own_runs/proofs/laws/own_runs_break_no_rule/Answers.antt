use Rattle.std.proofs.Common.{refl}
use Rattle.judge_rules.specs.declared.finding.Rule.TheVariants.{AddressHmac, DataFin, DssSum, Fail, FastCloseKey, Form, Infinite, JoinHmac, Keys, Mapping, PlaceContent, Token, Within}
use Rattle.own_runs.proofs.Kept.{no_run_breaks}
use Rattle.own_runs.proofs.OtherPaths as lines
use Rattle.own_runs.proofs.PlacesTrace as places
use Rattle.own_runs.proofs.laws.own_runs_break_no_rule.Goals as goal

pub returns-clause-form : goal.returns-clause-form
returns-clause-form c = no_run_breaks Form refl

pub returns-clause-keys : goal.returns-clause-keys
returns-clause-keys c = no_run_breaks Keys refl

pub returns-clause-token : goal.returns-clause-token
returns-clause-token c = no_run_breaks Token refl

pub returns-clause-join_hmac : goal.returns-clause-join_hmac
returns-clause-join_hmac c = no_run_breaks JoinHmac refl

pub returns-clause-address_hmac : goal.returns-clause-address_hmac
returns-clause-address_hmac c = no_run_breaks AddressHmac refl

pub returns-clause-fast_close_key : goal.returns-clause-fast_close_key
returns-clause-fast_close_key c = no_run_breaks FastCloseKey refl

pub returns-clause-within : goal.returns-clause-within
returns-clause-within c = no_run_breaks Within refl

pub returns-clause-mapping : goal.returns-clause-mapping
returns-clause-mapping c = places.no_run_breaks Mapping refl

pub returns-clause-dss_sum : goal.returns-clause-dss_sum
returns-clause-dss_sum c = places.no_run_breaks DssSum refl

pub returns-clause-place_content : goal.returns-clause-place_content
returns-clause-place_content c = lines.no_run_breaks PlaceContent refl

pub returns-clause-data_fin : goal.returns-clause-data_fin
returns-clause-data_fin c = lines.no_run_breaks DataFin refl

pub returns-clause-fail : goal.returns-clause-fail
returns-clause-fail c = places.no_plain_run_breaks Fail refl

pub returns-clause-infinite : goal.returns-clause-infinite
returns-clause-infinite c = lines.no_run_breaks Infinite refl
