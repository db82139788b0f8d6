use Rattle.std.proofs.Common.{leb, rules, arith}
use Rattle.std.proofs.lemmas.List.Sorted.{IsPartitionPoint-from_clause, IsPartitionedBy-leb}
use Rattle.std.proofs.lemmas.Bool.{leb-true}
use Rattle.send_book.proofs.Parts.{end_of}
use Rattle.send_book.proofs.written.ended_by.Goals as goal

pub returns-clause-ended : goal.returns-clause-ended
returns-clause-ended c =
    let parted = IsPartitionedBy-leb end_of c.args.parts.now c.args.place c.requires in
    let point =
    IsPartitionPoint-from_clause (λ p. leb p.end c.args.place) c.args.parts.now c.partition_point.result c.partition_point.ensures.partitioned parted (λ a r q k. search rules) in
    λ k d lt. leb-true _ _ (point.0 k d (omega arith) lt)
