use Rattle.std.proofs.Common.{ltb, rules}
use Rattle.std.proofs.lemmas.List.Sorted.{IsPartitionPoint-from_clause, IsPartitionedBy-ltb}
use Rattle.subflow_send.proofs.AtPosition.{start_of, point-before, point-behind}
use Rattle.subflow_send.proofs.pieces.begun_before.Goals as goal

pub returns-clause-before : goal.returns-clause-before
returns-clause-before c =
    let parted = IsPartitionedBy-ltb start_of c.args.pieces.now.items c.args.pos c.requires in
    point-before c.args.pos c.args.pieces.now.items c.partition_point.result
    (IsPartitionPoint-from_clause (λ p. ltb p.pos c.args.pos) c.args.pieces.now.items c.partition_point.result c.partition_point.ensures.partitioned parted (λ a r q k. search rules))

pub returns-clause-behind : goal.returns-clause-behind
returns-clause-behind c =
    let parted = IsPartitionedBy-ltb start_of c.args.pieces.now.items c.args.pos c.requires in
    point-behind c.args.pos c.args.pieces.now.items c.partition_point.result
    (IsPartitionPoint-from_clause (λ p. ltb p.pos c.args.pos) c.args.pieces.now.items c.partition_point.result c.partition_point.ensures.partitioned parted (λ a r q k. search rules))
