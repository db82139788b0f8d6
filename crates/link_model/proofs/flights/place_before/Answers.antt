use Rattle.std.proofs.Common.{rules, arith, not}
use Rattle.std.proofs.lemmas.List.Sorted.{IsPartitionPoint-from_clause}
use Rattle.link_model.specs.Steps.{comes_before}
use Rattle.link_model.proofs.Placing.{parted, put_at_point}
use Rattle.link_model.proofs.flights.place_before.Goals as goal

pub returns-clause-place : goal.returns-clause-place
returns-clause-place c =
    put_at_point c.args.flight.now c.args.flights.now.items c.partition_point.result (omega (arith, c.partition_point.ensures.bound))
    (IsPartitionPoint-from_clause (λ other. not (comes_before c.args.flight.now other)) c.args.flights.now.items c.partition_point.result c.partition_point.ensures.partitioned
    (parted c.args.flight.now c.args.flights.now.items c.requires) (λ a r q k. search rules))
