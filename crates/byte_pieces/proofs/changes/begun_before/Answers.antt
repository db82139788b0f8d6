use Rattle.std.proofs.Common.{ltb, rules, arith}
use Rattle.std.proofs.lemmas.List.Sorted.{IsPartitionPoint-from_clause, IsPartitionedBy-ltb}
use Rattle.byte_pieces.proofs.Loops.{start_of, begun_before-point}
use Rattle.byte_pieces.proofs.changes.begun_before.Goals as goal

pub returns-clause-value : goal.returns-clause-value
returns-clause-value c =
    let parted = IsPartitionedBy-ltb start_of c.args.pieces.now.items c.args.at c.requires in
    begun_before-point c.args.at c.args.pieces.now.items c.partition_point.result (omega arith)
    (IsPartitionPoint-from_clause (λ p. ltb p.at c.args.at) c.args.pieces.now.items c.partition_point.result c.partition_point.ensures.partitioned parted (λ a r q k. search rules))
