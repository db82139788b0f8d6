use Rattle.std.proofs.Common.{◌≡◌, ◌≤◌, length}
use Rattle.std.specs.List.{filter}
use Rattle.std.specs.List.Sorted.{IsNonDecreasingBy}
use Rattle.std.specs.VecDeque.{deque_len, deque_capacity}
use Rattle.dss_mapping.specs.Live.{end_of, ends_after}
use Rattle.dss_mapping.proofs.live.let_first_go.Given as goal

abbrev pub invariant-loop-first : goal.invariant-loop-first
invariant-loop-first l = record {
  items : filter (ends_after l.pos) l.rising.items ≡ filter (ends_after l.pos) l.initial.rising.items;
  sorted : IsNonDecreasingBy end_of l.rising.items;
  len : deque_len l.rising ≤ deque_len l.initial.rising;
  capacity : deque_capacity l.rising ≡ deque_capacity l.initial.rising;
}

abbrev pub decreases-loop-first : goal.decreases-loop-first
decreases-loop-first l = length l.rising.items
