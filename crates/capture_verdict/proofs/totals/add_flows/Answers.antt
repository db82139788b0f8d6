use Rattle.std.proofs.Common.{◌∙◌, ◌+◌, List, ap, sym, drop, map, arith}
use Rattle.std.specs.List.{slice_get}
use Rattle.std.proofs.lemmas.List.{at_drop_more}
use Rattle.rule_book.specs.declared.book.Lanes.{Lanes}
use Rattle.rule_book.specs.State.{lanes_of}
use Rattle.capture_verdict.specs.declared.totals.Totals.{Totals}
use Rattle.capture_verdict.specs.Totals.{added, added_all}
use Rattle.capture_verdict.proofs.totals.add_flows.Goals as goal

pub loop-lanes-preserved : goal.loop-lanes-preserved
loop-lanes-preserved c =
    let flows = c.args.flows.now in
    let index = c.loop-lanes.index in
    let later = map lanes_of (drop (c.loop-lanes.lanes-index + 1) c.args.lanes.now) in
    let before = c.loop-lanes.all.items in
    record {
      index = omega (arith, c.loop-lanes.invariant.index);
      added = ap (λ (all : List Totals). added_all flows (index + 1) later all)
          (c.add.ensures ∙ ap (λ flow. added flow (lanes_of c.lanes-item.result) before) c.flow_at.ensures
          ∙ ap (λ (lanes : Lanes). added (slice_get flows index) (lanes_of lanes) before) c.lanes-item.is)
          ∙ sym (at_drop_more (λ (lanes : List Lanes). added_all flows index (map lanes_of lanes) before) c.args.lanes.now c.loop-lanes.lanes-index _ c.loop-lanes-test.true)
          ∙ c.loop-lanes.invariant.added;
    }
