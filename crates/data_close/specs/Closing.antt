-- When the two directions of the data stream are closed, as one end of a path sees it (RFC 8684, section 3.3.3).
use Rattle.std.specs.Prelude.{Bool, ◌&&◌}
use Rattle.data_close.specs.declared.close_state.CloseState.{CloseState}

-- the subflow's FIN may go out once the own DATA_FIN is acknowledged and the peer's came
abbrev pub may_finish : CloseState → Bool
may_finish state = state.own_acked && state.peer_came
