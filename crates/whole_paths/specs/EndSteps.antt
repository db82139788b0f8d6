-- What the duties of a path may make of an end: each is one of these steps of its subflow, or a few, and one of its side's stream.
use Rattle.std.specs.Prelude.{ℕ, ◌+◌, ◌≡◌, Bool, true, false, Option, None, List}
use Rattle.seq_units.specs.declared.mapping.Mapping.{Mapping}
use Rattle.loss_recovery.specs.Windows.{after_growth}
use Rattle.subflow_recv.specs.Receiving.{after_advance, after_forget_from}
use Rattle.subflow_send.specs.Rules.{after_push}
use Rattle.subflow_tcp.specs.declared.handshake.State.TheVariants.{Waiting, Listen}
use Rattle.subflow_tcp.specs.declared.segments.Hint.{Hint}
use Rattle.subflow_tcp.specs.declared.segments.Occasion.{Occasion}
use Rattle.subflow_tcp.specs.declared.verdicts.Meaning.{Meaning}
use Rattle.subflow_tcp.specs.Closing.{is_fin_next, after_finishing, after_passing_fin, after_owing}
use Rattle.subflow_tcp.specs.Emitting.{after_sending}
use Rattle.subflow_tcp.specs.Expiring.{after_fire, after_settling}
use Rattle.subflow_tcp.specs.Judging.{meaning_of}
use Rattle.subflow_tcp.specs.Opening.{after_begin}
use Rattle.subflow_tcp.specs.Segments.{Copy}
use Rattle.subflow_tcp.specs.State.{EndState}
use Rattle.subflow_tcp.specs.Taking.{after_death, after_arrival, after_syn, unkept, after_holding, after_keeping_held, after_dropping_held}
use Rattle.path_store.specs.declared.granted_piece.GrantedPiece.{GrantedPiece}
use Rattle.path_core.specs.DataFin.{after_acked, after_peer_data_fin, after_granted, with_data_fin_sent}
use Rattle.path_core.specs.End.{PathEnd}
use Rattle.path_core.specs.MpJoin.{syn_of_window}
use Rattle.path_core.specs.Sending.{Sending}
use Rattle.path_core.specs.State.{PathState}

-- ---- the subflow

-- what one rule makes of it at this tick
pub data SubflowStep (now : ℕ) (s : EndState) : EndState → Type 0 where
  -- a segment arrives, and what it means is taken; its payload may be held first; an acknowledgement may be owed besides
  arrives : (meaning : Meaning) (hint : Hint) (c : Copy) → meaning ≡ meaning_of c s → SubflowStep now s (after_arrival meaning hint now c s)
  holds : (pos : ℕ) (octets : List ℕ) → SubflowStep now s (after_holding pos octets s)
  owes : SubflowStep now s (after_owing false s)
  -- the payload that is held is kept or dropped
  keeps : SubflowStep now s (after_keeping_held s)
  drops : SubflowStep now s (after_dropping_held s)
  -- the receive edge moves over so many octets, or over the peer's FIN; what came from a position on is forgotten
  advances : (count : ℕ) → SubflowStep now s (record s { recv = after_advance (s.recv.edge + count) s.recv })
  passes : is_fin_next s ≡ true → SubflowStep now s (after_passing_fin s)
  forgets : (pos : ℕ) → SubflowStep now s (record s { recv = after_forget_from pos s.recv })
  -- a piece, or the FIN, is to be sent
  pushes : (piece : List ℕ) (mapping : Mapping) → SubflowStep now s (record s { send = after_push piece mapping s.send })
  finishes : SubflowStep now s (after_finishing s)
  -- a segment is sent
  sends : (occasion : Occasion) → SubflowStep now s (after_sending occasion now s)
  -- the timer is settled, or runs out
  settles : (on restart : Bool) → SubflowStep now s (after_settling on restart now s)
  fires : SubflowStep now s (after_fire now s)
  -- the window grows as all paths' rows say
  grows : (growth : ℕ) → SubflowStep now s (record s { congestion = after_growth growth s.congestion })
  -- A's end of a path that joins opens, and B's takes the SYN
  begins : s.state ≡ Waiting → SubflowStep now s (after_begin s)
  joins : (window : ℕ) → s.state ≡ Listen → SubflowStep now s (after_syn (unkept None) (syn_of_window window) s)
  -- the end dies
  dies : SubflowStep now s (after_death false s)

-- one after the other
pub data SubflowSteps (now : ℕ) (s : EndState) : EndState → Type 0 where
  none : SubflowSteps now s s
  more : (t u : EndState) → SubflowSteps now s t → SubflowStep now t u → SubflowSteps now s u

-- ---- the side's stream, as the end knows it

pub data StreamStep (v : Sending) : Sending → Type 0 where
  stays : StreamStep v v
  -- bytes up to a place are acknowledged, with the DATA_FIN or without
  hears : (next : ℕ) (fin : Bool) → StreamStep v (after_acked next fin v)
  -- the peer's DATA_FIN came
  closes : StreamStep v (after_peer_data_fin v)
  -- the own one is sent
  ends : StreamStep v (with_data_fin_sent v)
  -- a piece is granted, or none is
  takes : (piece : GrantedPiece) → StreamStep v (after_granted piece v)
  is_refused : (shut : Bool) (known_end : Option ℕ) → StreamStep v (record v { shut = shut; known_end = known_end })
  -- there is news for the timer, or no more
  tells : (news : Bool) → StreamStep v (record v { news = news })

-- ---- the end, and both of a path

pub record EndStep (now : ℕ) (e f : PathEnd) : Type 0 where
  pub subflow : SubflowSteps now e.tcp f.tcp
  pub stream : StreamStep e.sending f.sending

-- at the tick that it is afterwards
pub record PathStep {C : Type 0} (p q : PathState C) : Type 0 where
  pub a : EndStep q.clock p.a q.a
  pub b : EndStep q.clock p.b q.b
