use Rattle.std.proofs.Common.{refl, sym, subst, inl, inr}
use Rattle.std.proofs.lemmas.Result.{on_ok_weaker}
use Rattle.world_core.specs.Kept.{Kept}
use Rattle.mptcp_run.specs.Making.{RoundMade}
use Rattle.mptcp_run.specs.WovenRounds.{WovenTo}
use Rattle.mptcp_run.proofs.AllTurns.{since_length}
use Rattle.mptcp_run.proofs.RoundsWoven.{woven_since, woven_next}
use Rattle.mptcp_run.proofs.ThreadsMade.{when_ok}
use Rattle.run_outside.proofs.Calling.{only_none}
use Rattle.run_outside.proofs.Calls.{adds_none}
use Rattle.run_outside.proofs.PortsLemmas.{OnOk-both, IfErr-both}
use Rattle.mptcp_run.proofs.threads.make_round.Goals as goal

-- the round that was made is the one that is put
pub put_round-told-requires-clause-made : goal.put_round-told-requires-clause-made
put_round-told-requires-clause-made g c =
    let made = when_ok c.next_world-world.result.1 c.in-Ok.field-0 c.in-Ok.is c.next_world-world.ensures.goes in
    since_length c.args.run.made.items c.args.run.world.state c.next_world-world.result.0.state
    (woven_since c.args.run c.next_world-world.result.0.state c.requires.begins made.round)

pub returns-in-Ok-clause-begins : goal.returns-in-Ok-clause-begins
returns-in-Ok-clause-begins g c =
    let made = when_ok c.next_world-world.result.1 c.in-Ok.field-0 c.in-Ok.is c.next_world-world.ensures.goes in
    on_ok_weaker c.put_round-told.result
    (woven_next c.args.run c.put_round-told.new.self c.next_world-world.result.0 c.requires.begins made.round made.stands c.put_round-told.ensures.world)
    c.put_round-told.ensures.made

pub returns-in-Ok-clause-made : goal.returns-in-Ok-clause-made
returns-in-Ok-clause-made g c =
    let made = when_ok c.next_world-world.result.1 c.in-Ok.field-0 c.in-Ok.is c.next_world-world.ensures.goes in
    let put = c.put_round-told.ensures.put c.args.run.world.state (woven_since c.args.run c.next_world-world.result.0.state c.requires.begins made.round) in
    OnOk-both c.put_round-told.result
    (λ held calls. subst (λ (k : Kept). RoundMade WovenTo c.args.run.opening c.args.run.rounds c.args.run.world.state k.state
    (g.O.Outside.told c.args.outside.now) (g.O.Outside.told c.put_round-told.new.outside))
    (sym c.put_round-told.ensures.world) (record { round = made.round; ports = held; calls = calls }))
    put.whole put.puts.made

pub returns-in-Ok-clause-stops : goal.returns-in-Ok-clause-stops
returns-in-Ok-clause-stops g c =
    let made = when_ok c.next_world-world.result.1 c.in-Ok.field-0 c.in-Ok.is c.next_world-world.ensures.goes in
    let put = c.put_round-told.ensures.put c.args.run.world.state (woven_since c.args.run c.next_world-world.result.0.state c.requires.begins made.round) in
    IfErr-both c.put_round-told.result
    (λ status cut part. inr (record { end = c.next_world-world.result.0.state; round = made.round; ports = part; calls = cut })) put.puts.cut put.part

pub returns-in-Ok-clause-fault : goal.returns-in-Ok-clause-fault
returns-in-Ok-clause-fault g c =
    let made = when_ok c.next_world-world.result.1 c.in-Ok.field-0 c.in-Ok.is c.next_world-world.ensures.goes in
    let put = c.put_round-told.ensures.put c.args.run.world.state (woven_since c.args.run c.next_world-world.result.0.state c.requires.begins made.round) in
    put.puts.fault

pub returns-in-Ok-clause-only : goal.returns-in-Ok-clause-only
returns-in-Ok-clause-only g c =
    let made = when_ok c.next_world-world.result.1 c.in-Ok.field-0 c.in-Ok.is c.next_world-world.ensures.goes in
    let put = c.put_round-told.ensures.put c.args.run.world.state (woven_since c.args.run c.next_world-world.result.0.state c.requires.begins made.round) in
    put.puts.only

pub returns-in-Err-clause-stops : goal.returns-in-Err-clause-stops
returns-in-Err-clause-stops g c = inl (refl, ((λ port. refl), adds_none _))

pub returns-in-Err-clause-only : goal.returns-in-Err-clause-only
returns-in-Err-clause-only g c = only_none _
