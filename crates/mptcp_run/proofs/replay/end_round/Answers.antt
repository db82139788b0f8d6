use Rattle.std.proofs.Common.{◌∙◌, refl, sym, ap, subst, map, length, ◌∷◌, []}
use Rattle.std.proofs.lemmas.Result.{on_ok_weaker, on_err_weaker}
use Rattle.world_core.specs.Kept.{Kept}
use Rattle.world_laws.specs.Fine.{lists_of}
use Rattle.run_outside.specs.Plan.{AddsAll, AddsCut}
use Rattle.mptcp_run.specs.Plan.{round_puts}
use Rattle.mptcp_run.specs.Rounds.{HoldsRound, HoldsPart}
use Rattle.world_core.specs.Weaving.{IsSince}
use Rattle.run_outside.proofs.Calling.{only_none}
use Rattle.run_outside.proofs.Calls.{adds_none}
use Rattle.mptcp_run.proofs.Turning.{end_since, end_length, under_end, round_stops, ended_parts, not_over}
use Rattle.run_outside.proofs.PortsLemmas.{IfErr-map}
use Rattle.mptcp_run.proofs.Starting.{replay_cause}
use Rattle.mptcp_run.proofs.replay.end_round.Goals as goal

pub put_round-requires-clause-made : goal.put_round-requires-clause-made
put_round-requires-clause-made g c =
    let ended = ended_parts _ _ _ c.end_round.ensures.over c.if-not-end_round.false in
    c.requires.made ∙ sym (end_length c.args.run.now.world.state) ∙ ap (λ (k : Kept). length k.state.crew) (sym (c.end_round.ensures.next ended.0))

-- a turn isn't over
pub returns-then-not-end_round-clause-turn : goal.returns-then-not-end_round-clause-turn
returns-then-not-end_round-clause-turn g c last under =
    let refused = not_over _ _ _ c.end_round.ensures.over under.stands c.if-not-end_round.true in
    record {
      under = tt;
      whole = tt;
      made = tt;
      stops = (refl, (refused, ((λ port. refl), adds_none _)));
      fault = tt;
      only = only_none _;
    }

pub returns-clause-turn : goal.returns-clause-turn
returns-clause-turn g c last under =
    let ended = ended_parts _ _ _ c.end_round.ensures.over c.if-not-end_round.false in
    let is = c.end_round.ensures.next ended.0 in
    let put = c.put_round.ensures.put last (subst (λ (k : Kept). IsSince last c.args.run.now.made.items k.state) (sym is) (end_since last c.args.run.now under)) in
    record {
      under = on_ok_weaker c.put_round.result
          (λ made. under_end last c.args.run.now c.put_round.new.self under ended.1 (c.put_round.ensures.world ∙ is) (made ∙ ap (λ (k : Kept). map length (lists_of k.state.crew)) is))
          c.put_round.ensures.made;
      whole = on_ok_weaker c.put_round.result
          (λ held. subst (λ (k : Kept). HoldsRound c.args.run.now.opening c.args.run.now.rounds last k.state (g.O.Outside.told c.args.outside.now).holds (g.O.Outside.told c.put_round.new.outside).holds) is held)
          put.whole;
      made = on_ok_weaker c.put_round.result
          (λ all. subst (λ (k : Kept). AddsAll (round_puts c.args.run.now.opening c.args.run.now.rounds last k.state) (g.O.Outside.told c.args.outside.now).calls (g.O.Outside.told c.put_round.new.outside).calls) is all)
          put.puts.made;
      stops = round_stops c.args.run.now.opening c.args.run.now.rounds last c.args.run.now.world.state c.args.line (g.O.Outside.told c.args.outside.now) (g.O.Outside.told c.put_round.new.outside) c.put_round.result ended.1 put.puts.fault
          (on_err_weaker c.put_round.result
          (λ part. subst (λ (k : Kept). HoldsPart c.args.run.now.opening c.args.run.now.rounds last [] (k.state ∷ []) (g.O.Outside.told c.args.outside.now).holds (g.O.Outside.told c.put_round.new.outside).holds) is part)
          put.part)
          (IfErr-map c.put_round.result
          (λ status cut. subst (λ (k : Kept). AddsCut (round_puts c.args.run.now.opening c.args.run.now.rounds last k.state) status (g.O.Outside.told c.args.outside.now).calls (g.O.Outside.told c.put_round.new.outside).calls) is cut)
          put.puts.cut);
      fault = IfErr-map c.put_round.result (λ status fault. replay_cause _ _ status fault) put.puts.fault;
      only = put.puts.only;
    }
