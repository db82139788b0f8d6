use Rattle.std.proofs.Common.{◌∙◌, sym, ap, arith}
use Rattle.link_model.specs.Steps.{comes_before}
use Rattle.link_model.proofs.Placing.{behind_last, not_true}
use Rattle.link_model.proofs.flights.arrives_last.Goals as goal

pub returns-in-Some : goal.returns-in-Some
returns-in-Some c = record {
  last = λ is. behind_last c.args.flight.now c.args.flights.now.items _ c.in-Some.last.now c.requires (omega arith)
      (ap (comes_before c.args.flight.now) (sym c.in-Some.ensures.lookup) ∙ sym c.comes_before.ensures ∙ not_true _ is);
}
