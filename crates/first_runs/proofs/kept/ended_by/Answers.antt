use Rattle.std.proofs.Common.{nat_le, sym, arith, rules}
use Rattle.std.proofs.lemmas.List.Sums.{prefix_len_is}
use Rattle.std.proofs.lemmas.List.Sorted.{IsPartitionPoint-from_clause, IsPartitionedBy-leb}
use Rattle.first_runs.specs.declared.run.Run.{Run}
use Rattle.first_runs.proofs.InOrder.{ends_never_fall}
use Rattle.first_runs.proofs.kept.ended_by.Goals as goal

pub returns-clause-value : goal.returns-clause-value
returns-clause-value c =
    let none : Run = record { from = 0; to = 0; image = 0; teller = 0 } in
    let point = IsPartitionPoint-from_clause (λ (run : Run). nat_le run.to c.args.place) c.args.runs.now c.partition_point.result
    c.partition_point.ensures.partitioned (IsPartitionedBy-leb (λ run. run.to) c.args.runs.now c.args.place (ends_never_fall 0 c.args.runs.now c.requires)) (λ a r f' k. search rules) in
    sym (prefix_len_is (λ run. nat_le run.to c.args.place) c.args.runs.now c.partition_point.result none c.partition_point.ensures.bound
    (λ k h. point.0 k none (omega arith) h) (λ h. point.1 c.partition_point.result none (omega arith) h))
