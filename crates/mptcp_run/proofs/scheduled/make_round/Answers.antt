use Rattle.std.proofs.Common.{◌∙◌, refl, sym, ap, subst, map, length, inl, inr}
use Rattle.std.proofs.lemmas.Result.{on_ok_weaker}
use Rattle.world_laws.specs.Fine.{lists_of}
use Rattle.world_core.specs.Kept.{Kept}
use Rattle.mptcp_run.specs.Making.{RoundMade}
use Rattle.mptcp_run.specs.Rounds.{Begins}
use Rattle.mptcp_run.specs.Schedules.{RoundBy}
use Rattle.mptcp_run.proofs.AllTurns.{since_length}
use Rattle.mptcp_run.proofs.BySchedule.{begins_by, since_by}
use Rattle.run_outside.proofs.Calling.{only_none}
use Rattle.run_outside.proofs.Calls.{adds_none}
use Rattle.run_outside.proofs.PortsLemmas.{OnOk-both, IfErr-both}
use Rattle.mptcp_run.proofs.scheduled.make_round.Goals as goal

pub put_round-requires-clause-made : goal.put_round-requires-clause-made
put_round-requires-clause-made g c =
    since_length c.args.run.now.made.items c.args.run.now.world.state c.round_by.new.world.state
    (since_by c.args.schedule c.args.run.now.made.items c.args.run.now.world.state c.round_by.new.world.state c.requires.begins.made_is c.requires.begins.begins c.in-Ok.ensures.ok)

pub returns-in-Ok-clause-begins : goal.returns-in-Ok-clause-begins
returns-in-Ok-clause-begins g c =
    on_ok_weaker c.put_round.result
    (λ made. record {
      stands = ap (λ (k : Kept). k.failed) c.put_round.ensures.world ∙ c.in-Ok.ensures.stands;
      begins = subst (λ (k : Kept). Begins k.state) (sym c.put_round.ensures.world)
          (begins_by c.args.schedule c.args.run.now.world.state c.round_by.new.world.state c.requires.begins.begins c.in-Ok.ensures.ok);
      made_is = made ∙ ap (λ (k : Kept). map length (lists_of k.state.crew)) (sym c.put_round.ensures.world);
    })
    c.put_round.ensures.made

pub returns-in-Ok-clause-made : goal.returns-in-Ok-clause-made
returns-in-Ok-clause-made g c =
    let put = c.put_round.ensures.put c.args.run.now.world.state
    (since_by c.args.schedule c.args.run.now.made.items c.args.run.now.world.state c.round_by.new.world.state c.requires.begins.made_is c.requires.begins.begins c.in-Ok.ensures.ok) in
    OnOk-both c.put_round.result
    (λ held calls. subst (λ (k : Kept). RoundMade (RoundBy c.args.schedule) c.args.run.now.opening c.args.run.now.rounds c.args.run.now.world.state k.state
    (g.O.Outside.told c.args.outside.now) (g.O.Outside.told c.put_round.new.outside))
    (sym c.put_round.ensures.world) (record { round = c.in-Ok.ensures.ok; ports = held; calls = calls }))
    put.whole put.puts.made

pub returns-in-Ok-clause-stops : goal.returns-in-Ok-clause-stops
returns-in-Ok-clause-stops g c =
    let put = c.put_round.ensures.put c.args.run.now.world.state
    (since_by c.args.schedule c.args.run.now.made.items c.args.run.now.world.state c.round_by.new.world.state c.requires.begins.made_is c.requires.begins.begins c.in-Ok.ensures.ok) in
    IfErr-both c.put_round.result
    (λ status cut part. inr (record { end = c.round_by.new.world.state; round = c.in-Ok.ensures.ok; ports = part; calls = cut })) put.puts.cut put.part

pub returns-in-Ok-clause-fault : goal.returns-in-Ok-clause-fault
returns-in-Ok-clause-fault g c =
    let put = c.put_round.ensures.put c.args.run.now.world.state
    (since_by c.args.schedule c.args.run.now.made.items c.args.run.now.world.state c.round_by.new.world.state c.requires.begins.made_is c.requires.begins.begins c.in-Ok.ensures.ok) in
    put.puts.fault

pub returns-in-Ok-clause-only : goal.returns-in-Ok-clause-only
returns-in-Ok-clause-only g c =
    let put = c.put_round.ensures.put c.args.run.now.world.state
    (since_by c.args.schedule c.args.run.now.made.items c.args.run.now.world.state c.round_by.new.world.state c.requires.begins.made_is c.requires.begins.begins c.in-Ok.ensures.ok) in
    put.puts.only

pub returns-in-Err-clause-stops : goal.returns-in-Err-clause-stops
returns-in-Err-clause-stops g c = inl (refl, ((λ port. refl), adds_none _))

pub returns-in-Err-clause-only : goal.returns-in-Err-clause-only
returns-in-Err-clause-only g c = only_none _
