-- What a copy says changes nothing at the end of a turn.
use Rattle.std.proofs.Common.{◌≡◌, refl, ℕ, zero, suc, ◌+◌, List, arith}
use Rattle.sides.specs.declared.side.Side.{Side}
use Rattle.path_agenda.specs.declared.duty.Duty.{Duty}
use Rattle.path_agenda.specs.Agenda.{heard_and, payload_came}
use Rattle.path_agenda.specs.Laws.{ends_once, EveryTemplateEnds, EveryChainEnds}

heard_ends : (s : Side) (from count : ℕ) (ds : List Duty) → ends_once (heard_and s from count ds) ≡ ends_once ds
heard_ends s from zero ds = refl
heard_ends s from (suc count) ds = heard_ends s (from + 1) count ds

pub templates_end : EveryTemplateEnds
templates_end s count reason id = rw (heard_ends s 0 count (payload_came s)) refl

pub chains_end : EveryChainEnds
chains_end s index reason = record {
  heard = omega arith;
  edge = omega arith;
  check_failed = omega arith;
  unmapped = omega arith;
  heard_fin = omega arith;
  subflow_fin = omega arith;
  ack_told = omega arith;
  fail_told = omega arith;
  plain_handshake = omega arith;
  peer_key = omega arith;
  opened = omega arith;
  plain_ack = omega arith;
  plain_data = omega arith;
  heard_falls = omega arith;
  ack_falls = omega arith;
  fail_falls = omega arith;
  handshake_falls = omega arith;
  key_falls = omega arith;
  opened_falls = omega arith;
  plain_ack_falls = omega arith;
  plain_data_falls = omega arith;
  check_falls = omega arith;
  join_taken = omega arith;
  join_refused = omega arith;
  join_ended = omega arith;
  ack_heard = omega arith;
  fail_heard = omega arith;
  stopped = omega arith;
  leave_noted = omega arith;
  reset_noted = omega arith;
  break_ack = omega arith;
  break_reset = omega arith;
  reset = omega arith;
  leave = omega arith;
}
