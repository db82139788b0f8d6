use Rattle.std.proofs.Common.{◌≡◌, ◌++◌, string_bytes, drop}
use Rattle.link_trace.specs.Multipath.{ids_words}
use Rattle.link_trace.proofs.multipath.put_ids.Given as goal

abbrev pub invariant-loop-id : goal.invariant-loop-id
invariant-loop-id l =
    string_bytes l.text ++ ids_words (drop l.id-index l.ids) ≡ string_bytes l.initial.text ++ ids_words l.ids
