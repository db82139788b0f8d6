use Rattle.std.proofs.Common.{◌≡◌, ◌≤◌, ◌<◌, ◌∙◌, refl, length, arith}
use Rattle.path_core.specs.Octets.{octets}
use Rattle.world_core.specs.Rounds.{RoundTo}
use Rattle.connection_table.specs.ManyRounds.{Made, RoundIfGoing, RoundMade, Runs}
use Rattle.connection_table.proofs.Changes.{all_changed, changed_many, made_runs, so_far_all, so_far_more}
use Rattle.connection_table.proofs.rounds.go_on_each.Goals as goal

pub loop-connection-init : goal.loop-connection-init
loop-connection-init c = record { run = c.requires; many = refl; within = omega arith; so_far = refl }

pub go_on-requires-clause-there : goal.go_on-requires-clause-there
go_on-requires-clause-there c =
    let many = c.loop-connection.invariant.many in
    omega (arith, many, c.loop-connection-test.true, c.len-connection-end.ensures.count)

pub loop-connection-preserved : goal.loop-connection-preserved
loop-connection-preserved c =
    let many = c.loop-connection.invariant.many in
    let within : c.loop-connection.connection < length c.loop-connection.table = omega (arith, many, c.loop-connection-test.true, c.len-connection-end.ensures.count) in
    let made = c.in_ok-go_on.ensures.made in
    let next = changed_many (Made RoundIfGoing) c.loop-connection.connection c.loop-connection.table c.go_on.new.table made in
    record {
      run = all_changed Runs (Made RoundIfGoing) (made_runs (RoundIfGoing)) c.loop-connection.connection c.loop-connection.table c.go_on.new.table c.loop-connection.invariant.run made;
      many = next ∙ c.loop-connection.invariant.many;
      within = omega (arith, within, next);
      so_far = so_far_more (RoundIfGoing) c.loop-connection.connection _ c.loop-connection.table c.go_on.new.table c.loop-connection.invariant.so_far made;
    }

pub returns-clause-made : goal.returns-clause-made
returns-clause-made c =
    let many = c.loop-connection.invariant.many in
    let past : length c.loop-connection.table ≤ c.loop-connection.connection = omega (arith, many, c.loop-connection-test.false, c.len-connection-end.ensures.count) in
    so_far_all (RoundIfGoing) c.loop-connection.connection _ c.loop-connection.table past c.loop-connection.invariant.so_far
