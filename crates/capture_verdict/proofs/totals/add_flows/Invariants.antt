use Rattle.std.proofs.Common.{◌≡◌, drop, map}
use Rattle.rule_book.specs.State.{lanes_of}
use Rattle.capture_verdict.specs.Totals.{added_all}
use Rattle.capture_verdict.proofs.totals.add_flows.Given as goal

abbrev pub invariant-loop-lanes : goal.invariant-loop-lanes
invariant-loop-lanes l = record {
  index : l.index ≡ l.lanes-index;
  added : added_all l.flows l.index (map lanes_of (drop l.lanes-index l.fn.lanes)) l.all.items
      ≡ added_all l.flows 0 (map lanes_of l.fn.lanes) l.fn.all.items;
}
