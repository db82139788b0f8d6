use Rattle.actor_desk.proofs.Small.{opened_small}
use Rattle.actor_desk.proofs.books.Books.open.Goals as goal

pub invariant_of-result : goal.invariant_of-result
invariant_of-result c =
    rw (
      c.new-2.ensures,
      c.new-4.ensures,
      c.new-6.ensures,
      c.new-8.ensures,
      c.new-9.ensures,
      c.new-10.ensures,
      c.new.ensures,
      c.new-3.ensures,
      c.new-5.ensures,
      c.new-7.ensures,
      c.in_ok-control_a.ensures.a,
      c.in_ok-control_a.ensures.b,
    ) (opened_small c.args.buffer c.args.key_a c.args.key_b c.requires.most)
