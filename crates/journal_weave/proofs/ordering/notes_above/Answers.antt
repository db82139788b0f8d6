use Rattle.std.proofs.Common.{rules, ◌∙◌, sym, nat_le}
use Rattle.std.proofs.lemmas.List.{take_rest}
use Rattle.std.proofs.lemmas.List.Sorted.{IsPartitionPoint-from_clause}
use Rattle.journal_weave.proofs.Above.{parted, above_is, notes_rising}
use Rattle.journal_weave.proofs.ordering.notes_above.Goals as goal

pub returns : goal.returns
returns c =
    take_rest c.args.notes.now c.partition_point-from.result
    ∙ sym (above_is (λ note. note.stamp) c.args.after c.args.notes.now c.partition_point-from.result c.partition_point-from.ensures.bound
    (IsPartitionPoint-from_clause (λ note. nat_le note.stamp c.args.after) c.args.notes.now c.partition_point-from.result c.partition_point-from.ensures.partitioned
    (parted (λ note. note.stamp) c.args.after 0 c.args.notes.now (notes_rising 0 c.args.notes.now c.requires)) (λ a r q k. search rules)))
