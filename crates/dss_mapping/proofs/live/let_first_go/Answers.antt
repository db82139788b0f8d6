use Rattle.std.proofs.Common.{List, sym, ap, subst, ◌∙◌, arith}
use Rattle.std.specs.List.{filter}
use Rattle.std.specs.List.Sorted.{IsNonDecreasingBy}
use Rattle.std.proofs.lemmas.List.Sorted.{IsNonDecreasingBy-drop}
use Rattle.dss_mapping.specs.declared.kept.KeptMapping.{KeptMapping}
use Rattle.dss_mapping.specs.Live.{end_of, ends_after}
use Rattle.dss_mapping.proofs.Rising.{left_from, first_gone}
use Rattle.dss_mapping.proofs.live.let_first_go.Goals as goal

pub returns-then-ends_after-clause-items : goal.returns-then-ends_after-clause-items
returns-then-ends_after-clause-items c =
    sym (left_from c.args.pos c.loop-first.rising.items c.in-Some.first.now c.loop-first.invariant.sorted c.in-Some.ensures.lookup (sym c.ends_after.ensures ∙ c.if-ends_after.true))
    ∙ c.loop-first.invariant.items

pub loop-first-preserved : goal.loop-first-preserved
loop-first-preserved c = record {
  items = ap (filter (ends_after c.args.pos)) c.pop_front.ensures.rest
      ∙ first_gone c.args.pos c.loop-first.rising.items c.in-Some.first.now c.in-Some.ensures.lookup (sym c.ends_after.ensures ∙ c.if-ends_after.false)
      ∙ c.loop-first.invariant.items;
  sorted = subst (λ (live : List KeptMapping). IsNonDecreasingBy end_of live) (sym c.pop_front.ensures.rest) (IsNonDecreasingBy-drop end_of 1 c.loop-first.rising.items c.loop-first.invariant.sorted);
  len = omega (arith, c.pop_front.ensures.len, c.loop-first.invariant.len);
  capacity = c.pop_front.ensures.capacity ∙ c.loop-first.invariant.capacity;
}
