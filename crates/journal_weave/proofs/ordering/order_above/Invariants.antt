use Rattle.std.proofs.Common.{◌≡◌, ◌≤◌, drop, length, map}
use Rattle.actor_desk.specs.Journals.{in_order}
use Rattle.actor_desk.specs.Order.{AreInOrder}
use Rattle.journal_weave.specs.Weaving.{lists_in}
use Rattle.journal_weave.proofs.ordering.order_above.Given as goal

-- the actors from this one on
abbrev pub invariant-loop-left : goal.invariant-loop-left
invariant-loop-left g l = record {
  few : l.left ≤ length l.crew;
  order : map (λ note. note.now) l.order.items ≡ in_order l.after (drop l.left (lists_in l.crew));
  sorted : AreInOrder (map (λ note. note.now) l.order.items);
}

abbrev pub decreases-loop-left : goal.decreases-loop-left
decreases-loop-left g l = l.left
