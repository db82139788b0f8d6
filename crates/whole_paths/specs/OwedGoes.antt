-- What an end of path 0 of a mild connection owes its peer goes, as long as both live (RFC 9293, section 3.10.7.4).
use Rattle.std.specs.Prelude.{◌≡◌, ◌⊎◌, true, false, None, List}
use Rattle.sides.specs.declared.side.Side.{Side}
use Rattle.path_segments.specs.Spelled.{PlainSegment}
use Rattle.subflow_tcp.specs.States.{is_dead}
use Rattle.path_core.specs.End.{PathEnd}
use Rattle.path_core.specs.Handover.{handed}
use Rattle.path_core.specs.OptionsOut.{ack_said, syn_ack_said}
use Rattle.path_core.specs.Profile.{Profile}
use Rattle.path_core.specs.State.{PathState, end_at}
use Rattle.path_core.specs.Values.{Carried, values}
use Rattle.world_laws.specs.Openings.{Start}
use Rattle.world_laws.specs.RoundDone.{reached}
use Rattle.world_laws.specs.Worlds.{Turn, after_turn}
use Rattle.whole_paths.specs.Finish.{IsPathAt}
use Rattle.whole_paths.specs.Mild.{IsMildStart}

-- an acknowledgement is due, or the SYN/ACK
abbrev pub Owes : PathEnd → Type 0
Owes e = (e.tcp.due.ack ≡ true) ⊎ (e.tcp.due.syn_ack ≡ true)

-- the segment acknowledges at SND.NXT and nothing more, where no SYN/ACK is due, or is the SYN/ACK, where no acknowledgement is
pub data IsReply (c : Profile) (s : Side) (e : PathEnd) (x : PlainSegment) : Type 0 where
  acks : e.tcp.due.syn_ack ≡ false → x ≡ ack_said c s e.tcp.send.nxt None e → IsReply c s e x
  opens : e.tcp.due.ack ≡ false → x ≡ syn_ack_said c s e → IsReply c s e x

-- as the path becomes another one, whose ends both live
pub data OwedGoes (s : Side) (p q : PathState Carried) : Type 0 where
  -- as much is owed still
  owes : (end_at s q).tcp.due ≡ (end_at s p).tcp.due → OwedGoes s p q
  -- the link takes it, at the same tick
  goes : (x : PlainSegment) → IsReply p.profile s (end_at s p) x → q.link ≡ handed values s x p → q.clock ≡ p.clock → OwedGoes s p q
  -- an end is dead
  gone : (t : Side) → is_dead (end_at t q).tcp.state ≡ true → OwedGoes s p q

-- by each turn, where both live before
abbrev pub WhatIsOwedGoes : Type 0
WhatIsOwedGoes = (start : Start) (turns : List Turn) (turn : Turn) → IsMildStart start → let w = reached values start turns in (p q : PathState Carried)
    → IsPathAt 0 w p → IsPathAt 0 (after_turn values turn w) q → ((s : Side) → is_dead (end_at s p).tcp.state ≡ false)
    → (s : Side) → Owes (end_at s p) → OwedGoes s p q
