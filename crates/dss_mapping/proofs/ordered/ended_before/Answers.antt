use Rattle.std.proofs.Common.{nat_lt, sym, arith, rules}
use Rattle.std.proofs.lemmas.List.Sums.{prefix_len_is}
use Rattle.std.proofs.lemmas.List.Sorted.{IsPartitionPoint-from_clause, IsPartitionedBy-ltb}
use Rattle.dss_mapping.specs.declared.run.Run.{Run}
use Rattle.dss_mapping.proofs.RunsInOrder.{ends_never_fall}
use Rattle.dss_mapping.proofs.ordered.ended_before.Goals as goal

pub returns-clause-value : goal.returns-clause-value
returns-clause-value c =
    let none : Run = record { pos = 0; place = 0; to = 0 } in
    let point = IsPartitionPoint-from_clause (λ (run : Run). nat_lt run.to c.args.pos) c.args.runs.now c.partition_point.result
    c.partition_point.ensures.partitioned (IsPartitionedBy-ltb (λ run. run.to) c.args.runs.now c.args.pos (ends_never_fall 0 c.args.runs.now c.requires)) (λ a r f' k. search rules) in
    sym (prefix_len_is (λ run. nat_lt run.to c.args.pos) c.args.runs.now c.partition_point.result none c.partition_point.ensures.bound
    (λ k h. point.0 k none (omega arith) h) (λ h. point.1 c.partition_point.result none (omega arith) h))
