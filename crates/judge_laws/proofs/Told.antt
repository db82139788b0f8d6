-- A mapping that a packet tells is one of those whose sums are tried.
use Rattle.std.proofs.Common.{◌≡◌, refl, ap, ◌∙◌, sym, subst, ℕ, ◌+◌, Bool, true, false, if◌then◌else◌, Option, Some, List, length}
use Rattle.sides.specs.declared.side.Side.{Side}
use Rattle.sides.specs.declared.side.Side.TheVariants.{A, B}
use Rattle.sides.specs.Side.{peer}
use Rattle.capture_reader.specs.Captured.{Captured}
use Rattle.mptcp_options.specs.declared.dss.DssMap.{DssMap}
use Rattle.judge_rules.specs.declared.finding.Rule.TheVariants as rule
use Rattle.seen_connections.specs.SameEnds.{same_end}
use Rattle.seen_streams.specs.declared.told.ToldMapping.{ToldMapping}
use Rattle.seen_streams.specs.State.{LaneValue, StreamValue}
use Rattle.rule_book.specs.Judged.{judged}
use Rattle.rule_book.specs.State.{JudgedValue, LanesValue}
use Rattle.judge_laws.specs.Behind.{judged_first}
use Rattle.judge_laws.specs.GoesOn.{GoesOn, stream_in}
use Rattle.judge_laws.specs.Laws.{IsTelling}
use Rattle.judge_laws.specs.Summed.{IsTold, lane_at}
use Rattle.judge_laws.specs.Tells.{IsMeant, KeepsMappings}
use Rattle.judge_laws.proofs.Brought.{flow_there, lanes_there, segment_tells}
use Rattle.judge_laws.proofs.Lanes.{BothGo, packets_goes}
use Rattle.judge_laws.proofs.Packets.{last_is, stream_behind}
use Rattle.judge_laws.proofs.Shown.{kept_before}

keeps_before : (old new : StreamValue) → GoesOn old new → KeepsMappings new → KeepsMappings old
keeps_before old new goes kept = record {
  mapping = kept_before old new rule.Mapping goes kept.mapping;
  infinite = kept_before old new rule.Infinite goes kept.infinite;
  data_fin = kept_before old new rule.DataFin goes kept.data_fin;
}

lane_side : (is : Bool) (opener : Side) (lanes : LanesValue) → lane_at opener (if is then opener else peer opener) lanes ≡ (if is then lanes.opener else lanes.other)
lane_side true A lanes = refl
lane_side true B lanes = refl
lane_side false A lanes = refl
lane_side false B lanes = refl

own_stays : (is : Bool) (old new : LanesValue) (m : ToldMapping) → BothGo old new → (if is then old.opener else old.other).summed m ≡ true
    → (if is then new.opener else new.other).summed m ≡ true
own_stays true old new m goes h = goes.0.1 m h
own_stays false old new m goes h = goes.1.1 m h

pub mappings_told : (at : Option Side) (check_sums : Bool) (packets : List Captured) (connection : ℕ) (side : Side) (stream : StreamValue)
    → stream_in (judged_first at check_sums packets) connection side ≡ Some stream → KeepsMappings stream
    → (mapping : DssMap) (fin : Bool) (t : IsTelling at check_sums packets connection side mapping fin)
    → (m : ToldMapping) × IsMeant t.tells.first t.it.position mapping fin m × IsTold (judged_first at check_sums packets) connection side m
mappings_told at check_sums packets connection side stream there kept mapping fin t =
    let start = judged_first at check_sums t.before in
    let n = 1 + length t.before in
    let next = judged at check_sums start n t.seen in
    let behind = stream_behind at check_sums packets connection side t.before t.packet t.after t.seen t.among t.has_segment t.it stream there in
    let is = segment_tells at check_sums start n t.seen connection side t.it mapping fin behind.0 behind.1 (keeps_before behind.0 stream behind.2 kept) t.tells in
    let goes = packets_goes at check_sums next (n + 1) t.after in
    let flow = goes.flows t.it.place.flow t.it.flow t.it.belongs t.it.opened (flow_there at check_sums start n t.seen connection side t.it) t.it.has_belongs t.it.has_opened in
    let lanes = goes.lanes t.it.place.flow _ (lanes_there at check_sums start n t.seen connection side t.it) in
    let is_opener = same_end t.seen.source t.it.flow.opener in
    let last = last_is at check_sums packets connection side t.before t.packet t.after t.seen t.among t.has_segment t.it in (
      is.0,
      is.1,
      subst (λ (j : JudgedValue). IsTold j connection side is.0) (sym last)
          (record {
            index = t.it.place.flow;
            flow = flow.0;
            belongs = t.it.belongs;
            lanes = lanes.0;
            has_flow = flow.1;
            has_belongs = flow.2;
            of_connection = t.it.of_connection;
            has_lanes = lanes.1;
            was_told =
                ap (λ (s : Side). (lane_at t.it.belongs.opener s lanes.0).summed is.0) (sym t.it.of_side)
                ∙ ap (λ (l : LaneValue). l.summed is.0) (lane_side is_opener t.it.belongs.opener lanes.0)
                ∙ own_stays is_opener _ lanes.0 is.0 lanes.2 is.2;
          }),
    )
