use Rattle.std.proofs.Common.{◌+◌, ◌≤◌, subst, sym, arith}
use Rattle.dss_mapping.specs.declared.run.Run.{Run}
use Rattle.dss_mapping.specs.Runs.{IsSound}
use Rattle.dss_mapping.proofs.RunsInOrder.{reached, sound_at, inside, before, behind_all}
use Rattle.dss_mapping.proofs.ordered.stretch_at.Goals as goal

pub place_of-requires-clause-covered : goal.place_of-requires-clause-covered
place_of-requires-clause-covered c =
    let found = c.in-Some.ensures.lookup in
    let reach : c.args.at + 1 ≤ c.in-Some.run'.now.to =
    reached c.in-Some.run'.now (c.args.at + 1) c.ended_before-index.result c.args.runs.now c.ended_before-index.ensures.value found.3.0 found.1 in
    omega (arith, reach)

pub place_of-requires-clause-sound : goal.place_of-requires-clause-sound
place_of-requires-clause-sound c =
    let found = c.in-Some.ensures.lookup in
    subst (λ (run : Run). IsSound run) (sym found.1) (sound_at 0 c.ended_before-index.result c.args.runs.now c.in-Some.run'.now c.requires.ordered found.3.0)

pub returns-in-Some : goal.returns-in-Some
returns-in-Some c =
    let found = c.in-Some.ensures.lookup in
    inside c.args.at c.args.runs.now c.args.tail c.ended_before-index.result c.in-Some.run'.now c.place_of.result c.ended_before-index.ensures.value
    found.3.0 found.1 c.if-run-at.true c.place_of.ensures

pub returns-in-Some-2 : goal.returns-in-Some-2
returns-in-Some-2 c =
    let found = c.in-Some.ensures.lookup in
    before c.args.at c.args.runs.now c.args.tail c.ended_before-index.result c.in-Some.run'.now c.stretch_of_tail.result c.requires.ordered
    c.ended_before-index.ensures.value found.3.0 found.1 c.stretch_of_tail.ensures.within c.stretch_of_tail.ensures.stretch

pub returns-in-None : goal.returns-in-None
returns-in-None c =
    behind_all c.args.at c.args.runs.now c.args.tail c.ended_before-index.result c.stretch_of_tail-in-None.result
    c.ended_before-index.ensures.value c.in-None.ensures.lookup.3 c.stretch_of_tail-in-None.ensures.stretch
