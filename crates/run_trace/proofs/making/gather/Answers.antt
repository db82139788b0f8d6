use Rattle.std.proofs.Common.{◌∙◌, sym, ap, map, drop, ◌+◌, arith}
use Rattle.std.proofs.lemmas.List.{drop_more}
use Rattle.world_core.specs.Kept.{Kept}
use Rattle.world_core.specs.Logged.{turn_of, all_turns}
use Rattle.run_trace.proofs.Gathering.{gathers_more, stands_cut, stands_still, stops_here}
use Rattle.run_trace.proofs.making.gather.Goals as goal

pub returns-then-not-made-clause-fault : goal.returns-then-not-made-clause-fault
returns-then-not-made-clause-fault g c =
    let i = c.loop-turn.turn-index in let within = c.loop-turn-test.true in
    stops_here (all_turns c.args.order.now) (all_turns (drop (i + 1) c.args.order.now)) c.args.world.now.state c.loop-turn.world.state
    c.loop-turn.gathered.trace.items c.loop-turn.gathered.measured.items c.loop-turn.place _ (all_turns (drop i c.args.order.now)) (ap (map turn_of) (drop_more c.args.order.now i _ within))
    c.loop-turn.invariant.gathers (sym c.in-Ok.ensures.made ∙ c.if-not-made.true)

pub returns-then-not-made-clause-stopped : goal.returns-then-not-made-clause-stopped
returns-then-not-made-clause-stopped g c =
    let made = c.in-Ok.ensures in
    stands_still (all_turns c.args.order.now) _ c.args.world.now.state c.loop-turn.world c.loop-turn.gathered.trace.items c.loop-turn.gathered.measured.items c.loop-turn.place c.make_turn.new.world
    c.loop-turn.invariant.gathers (ap (λ (k : Kept). k.failed) made.world) (made.still c.if-not-made.true)

pub returns-in_default-clause-stopped : goal.returns-in_default-clause-stopped
returns-in_default-clause-stopped g c =
    stands_cut (all_turns c.args.order.now) _ c.args.world.now.state c.loop-turn.world c.loop-turn.gathered.trace.items c.loop-turn.gathered.measured.items c.loop-turn.place c.make_turn.new.world
    c.loop-turn.invariant.gathers c.loop-turn.invariant.stands c.in_default.ensures.err

pub loop-turn-preserved : goal.loop-turn-preserved
loop-turn-preserved g c =
    let i = c.loop-turn.turn-index in let within = c.loop-turn-test.true in let inv = c.loop-turn.invariant in
    let made = c.in-Ok.ensures in let same = inv.place in
    record {
      stands = ap (λ (k : Kept). k.failed) made.world;
      place = omega (arith, same);
      gathers = gathers_more (all_turns c.args.order.now) (all_turns (drop (i + 1) c.args.order.now)) c.args.world.now.state c.loop-turn.world.state
          c.loop-turn.gathered.trace.items c.loop-turn.gathered.measured.items c.loop-turn.place _ (all_turns (drop i c.args.order.now)) c.make_turn.new.world.state c.make_turn.new.gathered.trace.items c.make_turn.new.gathered.measured.items
          (ap (map turn_of) (drop_more c.args.order.now i _ within)) (ap (λ (k : Kept). k.state) made.world) made.trace made.measured
          inv.gathers (sym made.made ∙ c.if-not-made.false) made.whole;
    }
