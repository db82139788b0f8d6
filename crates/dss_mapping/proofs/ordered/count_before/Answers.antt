use Rattle.std.proofs.Common.{subst, sym}
use Rattle.dss_mapping.specs.declared.run.Run.{Run}
use Rattle.dss_mapping.specs.Runs.{IsSound}
use Rattle.dss_mapping.proofs.RunsInOrder.{sound_at, one_more_before, this_not_before, none_before}
use Rattle.dss_mapping.proofs.ordered.count_before.Goals as goal

pub lies_before-requires-clause-sound : goal.lies_before-requires-clause-sound
lies_before-requires-clause-sound c =
    let found = c.in-Some.ensures.lookup in
    subst (λ (run : Run). IsSound run) (sym found.1) (sound_at 0 c.ended_before-ended.result c.args.runs.now c.in-Some.run'.now c.requires.ordered found.3.0)

pub returns-in_default-clause-value : goal.returns-in_default-clause-value
returns-in_default-clause-value c =
    none_before c.args.told c.ended_before-ended.result c.args.runs.now c.requires.ordered c.ended_before-ended.ensures.value c.in_default.ensures.lookup.3

pub returns-then-lies_before-clause-value : goal.returns-then-lies_before-clause-value
returns-then-lies_before-clause-value c =
    let found = c.in-Some.ensures.lookup in
    one_more_before c.args.told c.in-Some.run'.now c.ended_before-ended.result c.args.runs.now c.requires.ordered c.ended_before-ended.ensures.value
    found.3.0 found.1 (sym c.if-lies_before.ensures)

pub returns-else-lies_before-clause-value : goal.returns-else-lies_before-clause-value
returns-else-lies_before-clause-value c =
    let found = c.in-Some.ensures.lookup in
    this_not_before c.args.told c.in-Some.run'.now c.ended_before-ended.result c.args.runs.now c.requires.ordered c.ended_before-ended.ensures.value
    found.3.0 found.1 (sym c.if-lies_before.ensures)
