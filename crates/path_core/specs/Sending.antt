-- What an end keeps of its side's own stream (RFC 8684, sections 3.3.2 and 3.3.3).
use Rattle.std.specs.Prelude.{ℕ, Bool, false, List, Option, [], None}
use Rattle.data_close.specs.declared.close_state.CloseState.{CloseState}
use Rattle.path_store.specs.declared.granted_piece.GrantedPiece.{GrantedPiece}

-- the side's own stream
pub record Sending : Type 0 where
  -- how many bytes there are in all, once a refused grant told it
  pub known_end : Option ℕ
  -- DATA_FIN was sent by this end
  pub fin_sent : Bool
  -- the own DATA_FIN is acknowledged, and the peer's came, by what this end heard
  pub close : CloseState
  -- the last grant was refused as the peer's window is shut
  pub shut : Bool
  -- how many bytes of the stream, the DATA_FIN among them, the peer acknowledged to this end
  pub heard : ℕ
  -- the pieces that were granted to this end and aren't below all that it heard, by position and places
  pub granted : List GrantedPiece
  -- a granted piece, or the DATA_FIN, was acknowledged since the timer was settled last
  pub news : Bool

-- nothing was granted, sent or acknowledged yet
abbrev pub no_sending : Sending
no_sending = record {
  known_end = None;
  fin_sent = false;
  close = record { peer_came = false; own_acked = false };
  shut = false;
  heard = 0;
  granted = [];
  news = false;
}
