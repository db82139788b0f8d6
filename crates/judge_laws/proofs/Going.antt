-- What was known of a stream stays, behind each step of a rule.
use Rattle.std.proofs.Common.{◌≡◌, refl, ℕ, ◌+◌, Bool, max, Option, Some, None, List, arith}
use Rattle.std.proofs.lemmas.Bool.{or_left}
use Rattle.mptcp_options.specs.Value.{OptionValue}
use Rattle.judge_rules.specs.declared.acks.ToldPlace.{ToldPlace}
use Rattle.judge_rules.specs.declared.mappings.Line.{Line}
use Rattle.seen_connections.specs.SeenOptions.{SeenValue}
use Rattle.seen_streams.specs.declared.told.Teller.{Teller}
use Rattle.seen_streams.specs.declared.told.ToldMapping.{ToldMapping}
use Rattle.seen_streams.specs.State.{LaneValue, StreamValue, is_of, tell}
use Rattle.seen_streams.specs.Acks.{Acked, ended_by_fin, fin_told}
use Rattle.seen_streams.specs.Content.{as_part, shown}
use Rattle.seen_streams.specs.Mapped.{fin_after, infinite_after, octets_of, started, told_mapping, with_mapping}
use Rattle.rule_book.specs.Facts.{Facts}
use Rattle.rule_book.specs.Signals.{KeyedValue, judged_options, told_formless}
use Rattle.rule_book.specs.Stream.{acked_each, failed_each}
use Rattle.judge_laws.specs.GoesOn.{GoesOn}
use Rattle.judge_laws.proofs.Folds.{AcksKeep, StepsKeep, TellingKeeps, acked_so, failed_so, formless_so, options_so, tried_so}
use Rattle.judge_laws.proofs.GoesOn.{goes_counted, goes_same, goes_tell, goes_then}
use Rattle.judge_laws.proofs.Shown.{shown_goes}

fin_stays : (old : Option ToldPlace) (fin : Bool) (end packet : ℕ) (t : ToldPlace) → old ≡ Some t → fin_after old fin end packet ≡ Some t
fin_stays (Some told) fin end packet t h = h
fin_stays None fin end packet t h = cc

mapping_goes : (packet : ℕ) (mapping : ToldMapping) (s : StreamValue) → GoesOn s (with_mapping packet mapping s)
mapping_goes packet mapping s = record {
  octets = λ p o h. h;
  seen = λ p h. h;
  starts = λ p h. or_left (s.starts p) (is_of mapping.place 1 p) h;
  mapped = omega arith;
  fin = λ t h. fin_stays s.fin mapping.fin (mapping.place + octets_of mapping) packet t h;
  infinite = λ h. h;
  acknowledged = omega arith;
  broken = λ r h. h;
}

line_goes : (teller : Teller) (place : ℕ) (line : Line) (s : StreamValue)
    → GoesOn s (record (started place s) { infinite = Some (infinite_after s.infinite teller line.place) })
line_goes teller place line s = record {
  octets = λ p o h. h;
  seen = λ p h. h;
  starts = λ p h. or_left (s.starts p) (is_of place 1 p) h;
  mapped = omega arith;
  fin = λ t h. h;
  infinite = λ h. refl;
  acknowledged = omega arith;
  broken = λ r h. h;
}

told_stays : (old : Option ToldPlace) (line : Option Line) (fin : Option ℕ) (packet : ℕ) (t : ToldPlace) → old ≡ Some t → fin_told old line fin packet ≡ Some t
told_stays (Some told) line fin packet t h = h
told_stays None line fin packet t h = cc

ended_goes : (lane : LaneValue) (packet : ℕ) (s : StreamValue) → GoesOn s (ended_by_fin lane packet s)
ended_goes lane packet s = record {
  octets = λ p o h. h;
  seen = λ p h. h;
  starts = λ p h. h;
  mapped = omega arith;
  fin = λ t h. told_stays s.fin lane.line lane.fin packet t h;
  infinite = λ h. h;
  acknowledged = omega arith;
  broken = λ r h. h;
}

acked_goes : (place : ℕ) (s : StreamValue) → GoesOn s (record s { acknowledged = max s.acknowledged place })
acked_goes place s = record {
  octets = λ p o h. h;
  seen = λ p h. h;
  starts = λ p h. h;
  mapped = omega arith;
  fin = λ t h. h;
  infinite = λ h. h;
  acknowledged = omega arith;
  broken = λ r h. h;
}

-- ---- each step

pub telling : (was : StreamValue) → TellingKeeps (λ (s : StreamValue). GoesOn was s)
telling was = record {
  tells = λ rule packet fault s h. goes_then was s (tell rule packet fault s) h (goes_tell rule packet fault s);
  counts = λ s keys joins mappings sums data_acks h.
      goes_then was s (record s { keys = keys; joins = joins; mappings = mappings; sums = sums; data_acks = data_acks }) h
      (goes_counted s keys joins mappings sums data_acks);
}

pub acking : (was : StreamValue) → AcksKeep (λ (s : StreamValue) (l : LaneValue). GoesOn was s)
acking was = record {
  telling = λ l. telling was;
  acks = λ place s l h.
      let next : StreamValue = record s { acknowledged = max s.acknowledged place } in
      goes_then was s next h (acked_goes place s);
}

pub steps : (first : Option ℕ) (was : StreamValue) → StepsKeep first (λ (s : StreamValue) (l : LaneValue). GoesOn was s)
steps first was = record {
  acks = acking was;
  ends = λ position s l h. h;
  maps = λ teller offer position place s l e h.
      let next = with_mapping teller.packet (told_mapping offer position place) s in
      goes_then was s next h (mapping_goes teller.packet (told_mapping offer position place) s);
  lines = λ teller place line s l h.
      let next : StreamValue = record (started place s) { infinite = Some (infinite_after s.infinite teller line.place) } in
      goes_then was s next h (line_goes teller place line s);
  fins = λ packet s l h. goes_then was s (ended_by_fin l packet s) h (ended_goes l packet s);
  pays = λ payload packet s l h. h;
  shows = λ acknowledged packet p place octet s l e h.
      goes_then was s (shown acknowledged packet place 1 (as_part octet) s) h (shown_goes acknowledged packet place 1 (as_part octet) s);
  sums = λ packet known mapping s l is e h. h;
  tries = λ packet known s l e h. tried_so (telling was) packet known l.octet l.waiting s h;
}

-- ---- options of a segment

pub told_formless_goes : (packet : ℕ) (options : List SeenValue) (s : StreamValue) → GoesOn s (told_formless packet options s)
told_formless_goes packet options s = formless_so (telling s) packet options s (goes_same s)

pub options_go : (facts : Facts) (options : List SeenValue) (state : KeyedValue) → GoesOn state.stream (judged_options facts options state).stream
options_go facts options state = options_so (telling state.stream) facts options state (goes_same state.stream)

pub acked_each_goes : (facts : Facts) (first : ℕ) (peers : StreamValue) (options : List OptionValue) (acked : Acked)
    → GoesOn acked.stream (acked_each facts first peers options acked).stream
acked_each_goes facts first peers options acked = acked_so (acking acked.stream) facts first peers options acked (goes_same acked.stream)

pub failed_each_goes : (packet first : ℕ) (peers : StreamValue) (options : List OptionValue) (s : StreamValue) → GoesOn s (failed_each packet first peers options s)
failed_each_goes packet first peers options s = failed_so (telling s) packet first peers options s (goes_same s)
