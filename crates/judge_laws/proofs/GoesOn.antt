-- What was known of a stream stays, rule after rule.
use Rattle.std.proofs.Common.{◌≡◌, ◌∙◌, ℕ, Bool, true, false, if◌then◌else◌, Option, Some, None, List, [], ◌∷◌, ◌++◌, arith}
use Rattle.std.specs.List.{list_any}
use Rattle.std.proofs.lemmas.Bool.{or_left}
use Rattle.std.proofs.lemmas.List.Folds.{list_any-append}
use Rattle.judge_rules.specs.declared.finding.Finding.{Finding}
use Rattle.judge_rules.specs.declared.finding.Rule.{Rule}
use Rattle.seen_streams.specs.State.{BrokenValue, FaultValue, Found, StreamValue, same_rule, tell, tell_found, with_broken, with_found}
use Rattle.judge_laws.specs.GoesOn.{GoesOn}

-- ---- one after the other

pub goes_same : (s : StreamValue) → GoesOn s s
goes_same s = record {
  octets = λ p o h. h;
  seen = λ p h. h;
  starts = λ p h. h;
  mapped = omega arith;
  fin = λ t h. h;
  infinite = λ h. h;
  acknowledged = omega arith;
  broken = λ r h. h;
}

pub goes_then : (a b c : StreamValue) → GoesOn a b → GoesOn b c → GoesOn a c
goes_then a b c first next = record {
  octets = λ p o h. next.octets p o (first.octets p o h);
  seen = λ p h. next.seen p (first.seen p h);
  starts = λ p h. next.starts p (first.starts p h);
  mapped = omega (arith, first.mapped, next.mapped);
  fin = λ t h. next.fin t (first.fin t h);
  infinite = λ h. next.infinite (first.infinite h);
  acknowledged = omega (arith, first.acknowledged, next.acknowledged);
  broken = λ r h. next.broken r (first.broken r h);
}

-- ---- rules that are broken

pub still_broke : (rule : Rule) (fault : BrokenValue) (broken : List BrokenValue) → list_any (same_rule rule) broken ≡ true
    → list_any (same_rule rule) (with_broken fault broken) ≡ true
still_broke rule fault broken h = by (list_any (same_rule fault.rule) broken)
  where
    by : (b : Bool) → list_any (same_rule rule) (if b then broken else broken ++ fault ∷ []) ≡ true
    by true = h
    by false = list_any-append (same_rule rule) broken (fault ∷ [])
        ∙ or_left (list_any (same_rule rule) broken) (list_any (same_rule rule) (fault ∷ [])) h

pub goes_tell : (rule : Rule) (packet : ℕ) (fault : FaultValue) (s : StreamValue) → GoesOn s (tell rule packet fault s)
goes_tell rule packet fault s = record {
  octets = λ p o h. h;
  seen = λ p h. h;
  starts = λ p h. h;
  mapped = omega arith;
  fin = λ t h. h;
  infinite = λ h. h;
  acknowledged = omega arith;
  broken = λ r h. still_broke r (record { rule = rule; packet = packet; fault = fault }) s.broken h;
}

pub still_found : (which rule : Rule) (packet : ℕ) (finding : Option Finding) (broken : List BrokenValue) → list_any (same_rule which) broken ≡ true
    → list_any (same_rule which) (with_found rule packet finding broken) ≡ true
still_found which rule packet None broken h = h
still_found which rule packet (Some finding) broken h = still_broke which (record { rule = rule; packet = packet; fault = Found finding }) broken h

pub goes_found : (rule : Rule) (packet : ℕ) (finding : Option Finding) (s : StreamValue) → GoesOn s (tell_found rule packet finding s)
goes_found rule packet finding s = record {
  octets = λ p o h. h;
  seen = λ p h. h;
  starts = λ p h. h;
  mapped = omega arith;
  fin = λ t h. h;
  infinite = λ h. h;
  acknowledged = omega arith;
  broken = λ r h. still_found r rule packet finding s.broken h;
}

-- ---- counts

pub goes_counted : (s : StreamValue) (keys joins mappings sums data_acks : ℕ)
    → GoesOn s (record s { keys = keys; joins = joins; mappings = mappings; sums = sums; data_acks = data_acks })
goes_counted s keys joins mappings sums data_acks = record {
  octets = λ p o h. h;
  seen = λ p h. h;
  starts = λ p h. h;
  mapped = omega arith;
  fin = λ t h. h;
  infinite = λ h. h;
  acknowledged = omega arith;
  broken = λ r h. h;
}
