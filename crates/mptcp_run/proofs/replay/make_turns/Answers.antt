use Rattle.std.proofs.Common.{refl, sym, subst, ap, arith, map, drop, ◌+◌}
use Rattle.std.proofs.lemmas.List.{drop_more, at_drop_all}
use Rattle.std.proofs.lemmas.Result.{err_from_is_err_and}
use Rattle.world_core.specs.Logged.{turn_of, all_turns}
use Rattle.mptcp_run.proofs.Turning.{under_length, under_begins}
use Rattle.mptcp_run.proofs.TurnsMade.{put_turn, turns_over, fault_later, fault_now, rounds_few}
use Rattle.run_outside.proofs.Calling.{only_none, only_then}
use Rattle.mptcp_run.proofs.Courses.{turns_made, turns_stop}
use Rattle.mptcp_run.proofs.Starting.{cause_after}
use Rattle.mptcp_run.proofs.replay.make_turns.Goals as goal
use Rattle.mptcp_run.proofs.Folding.{TurnsPut, TurnsFault}

pub loop-turn-init : goal.loop-turn-init
loop-turn-init g c = (
  c.args.run.now.world.state,
  record {
    under = under_begins c.args.run.now c.requires.begins;
    put = λ v new h. subst (λ n. TurnsPut c.args.run.now.opening n (all_turns c.args.order.now) c.args.run.now.world.state c.args.run.now.world.state v
        (g.O.Outside.told c.args.outside.now) new) c.requires.none h;
    fault = λ status new h. subst (λ n. TurnsFault c.args.run.now.opening n (all_turns c.args.order.now) c.args.run.now.world.state c.args.run.now.world.state c.args.lines
        (g.O.Outside.told c.args.outside.now) new status) c.requires.none h;
    rounds = let none = c.requires.none in omega (arith, none);
    line = omega arith;
    few = omega arith;
    only = only_none _;
  },
)

pub make_turn-requires-clause-made : goal.make_turn-requires-clause-made
make_turn-requires-clause-made g c = under_length c.loop-turn.invariant.0 c.loop-turn.run c.loop-turn.invariant.1.under

pub loop-turn-preserved : goal.loop-turn-preserved
loop-turn-preserved g c =
    let inv = c.loop-turn.invariant.1 in let made = c.in_ok-make_turn.ensures in let last = c.loop-turn.invariant.0 in
    let turn = made.turn last inv.under in let within = c.loop-turn-test.true in
    let order_is = ap (map turn_of) (drop_more c.args.order.now c.loop-turn.turn-index _ within) in (
      _,
      record {
        under = turn.under;
        put = λ v new rest. inv.put v new (put_turn c.loop-turn.run.opening c.make_turn.new.run.opening c.loop-turn.run.rounds c.make_turn.new.run.rounds _ _
            (all_turns (drop c.loop-turn.turn-index c.args.order.now)) last c.loop-turn.run.world.state c.make_turn.new.run.world _ _ new
            made.opening made.rounds order_is made.ok made.lawful turn.whole turn.made v rest);
        fault = λ status new rest. inv.fault status new (fault_later c.loop-turn.run.opening c.make_turn.new.run.opening c.loop-turn.run.rounds c.make_turn.new.run.rounds _ _
            (all_turns (drop c.loop-turn.turn-index c.args.order.now)) last c.loop-turn.run.world.state c.make_turn.new.run.world _ _ new
            made.opening made.rounds order_is made.ok made.lawful turn.whole turn.made c.loop-turn.line (c.loop-turn.line + 1) status refl rest);
        rounds = rounds_few _ c.loop-turn.run.rounds c.loop-turn.turn-index c.make_turn.new.run.rounds inv.rounds made.rounds;
        line = let line = inv.line in omega (arith, line);
        few = omega (arith, within);
        only = only_then _ _ _ inv.only turn.only;
      },
    )

pub returns-in_err-make_turn-clause-stop : goal.returns-in_err-make_turn-clause-stop
returns-in_err-make_turn-clause-stop g c =
    let inv = c.loop-turn.invariant.1 in let turn = c.in_err-make_turn.ensures.turn c.loop-turn.invariant.0 inv.under in
    let p = err_from_is_err_and c.from_residual.result c.from_residual.ensures.1 in
    rw (p.1, p.2) (turns_stop c.args.run.now.opening (all_turns c.args.order.now) c.args.run.now.world.state _ _ c.args.lines c.in_err-make_turn.field-0.0
    (inv.fault c.in_err-make_turn.field-0.0 _
    (fault_now c.loop-turn.run.opening c.loop-turn.run.rounds c.loop-turn.line (c.loop-turn.line + 1) _ _ (all_turns (drop c.loop-turn.turn-index c.args.order.now)) c.loop-turn.invariant.0
    c.loop-turn.run.world.state _ _ c.in_err-make_turn.field-0.0 refl (ap (map turn_of) (drop_more c.args.order.now c.loop-turn.turn-index _ c.loop-turn-test.true)) turn.stops)))

pub returns-clause-ok : goal.returns-clause-ok
returns-clause-ok g c =
    turns_made c.args.run.now.opening (all_turns c.args.order.now) c.args.run.now.world.state _ _ c.loop-turn.run.world.state
    (c.loop-turn.invariant.1.put _ _
    (subst (λ ts. TurnsPut c.loop-turn.run.opening c.loop-turn.run.rounds (all_turns ts) c.loop-turn.invariant.0 c.loop-turn.run.world.state c.loop-turn.run.world.state
    (g.O.Outside.told c.loop-turn.outside) (g.O.Outside.told c.loop-turn.outside))
    (sym (at_drop_all (λ ts. ts) c.args.order.now c.loop-turn.turn-index (let over = c.loop-turn-test.false in omega (arith, over))))
    (turns_over c.loop-turn.run.opening c.loop-turn.run.rounds c.loop-turn.invariant.0 c.loop-turn.run.world.state (g.O.Outside.told c.loop-turn.outside))))

pub returns-clause-stands : goal.returns-clause-stands
returns-clause-stands g c = c.loop-turn.invariant.1.under.stands

pub returns-in_err-make_turn-clause-cause : goal.returns-in_err-make_turn-clause-cause
returns-in_err-make_turn-clause-cause g c =
    let inv = c.loop-turn.invariant.1 in let turn = c.in_err-make_turn.ensures.turn c.loop-turn.invariant.0 inv.under in
    let p = err_from_is_err_and c.from_residual.result c.from_residual.ensures.1 in
    rw (p.1, p.2) (cause_after _ _ _ c.in_err-make_turn.field-0.0 inv.only.counted turn.fault)

pub returns-in_err-make_turn-clause-only : goal.returns-in_err-make_turn-clause-only
returns-in_err-make_turn-clause-only g c =
    let inv = c.loop-turn.invariant.1 in let turn = c.in_err-make_turn.ensures.turn c.loop-turn.invariant.0 inv.under in
    only_then _ _ _ inv.only turn.only

pub returns-clause-only : goal.returns-clause-only
returns-clause-only g c = c.loop-turn.invariant.1.only
