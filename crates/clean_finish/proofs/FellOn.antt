-- A mapping or a Data ACK is told to the control book, which may be sure of Multipath TCP from then on.
use Rattle.clean_finish.proofs.Words.{◌≡◌, refl, Bool, true, false, if◌then◌else◌, is_starting, after_sure_sign, stays, Side, Control, ControlReply, Reply}
use Rattle.clean_finish.proofs.Words.{Carried, Modes, PathState, left, mode_in, fell_duties, Sender, Receiver, ControlIs, ModesAre, Keys, IsSure}
use Rattle.fallback_state.specs.declared.fall.Fall.{Fall}
use Rattle.fallback_state.specs.declared.fall.Mode.TheVariants.{Sure}
use Rattle.fallback_state.specs.declared.fall.Verdict.{Verdict}
use Rattle.fallback_state.specs.Table.{goes}

abbrev by_sign : Bool → Fall → Fall × Verdict
by_sign b fall = if b then goes Sure fall else stays fall

-- what it answers
abbrev pub sign_reply : Fall → Reply
sign_reply fall = Reply.Control (ControlReply.Verdict (after_sure_sign fall).1)

pub fell_control : (s : Side) (keys : Keys) (c : Control) → ControlIs s keys c → ControlIs s keys (record c { fall = (after_sure_sign c.fall).0 })
fell_control s keys c is = by (is_starting c.fall.mode)
  where
    by : (b : Bool) → ControlIs s keys (record c { fall = (by_sign b c.fall).0 })
    by true = record {
      mode = IsSure refl;
      joined = is.joined;
      own_key = is.own_key;
      first = is.first;
      alone = is.alone;
      carrier = is.carrier;
      stays = is.stays;
      announces = is.announces;
      withdraws = is.withdraws;
    }
    by false = is

pub fell_modes : (s : Side) (keys : Keys) (out : Sender) (back : Receiver) (fall : Fall) (m : Modes) → ModesAre s keys out back m
    → ModesAre s keys out back (mode_in (sign_reply fall) m)
fell_modes s keys out back fall m is = by (is_starting fall.mode)
  where
    by : (b : Bool) → ModesAre s keys out back (mode_in (Reply.Control (ControlReply.Verdict (by_sign b fall).1)) m)
    by true = record {
      mode = IsSure refl;
      standby = is.standby;
      mapping = is.mapping;
      owes_third = is.owes_third;
      owes_mapping = is.owes_mapping;
      mapped_to = is.mapped_to;
      plain_acks = is.plain_acks;
      own_key = is.own_key;
      peer_key = is.peer_key;
      clear = is.clear;
      capable = is.capable;
      ready = is.ready;
      cleared = is.cleared;
      both = is.both;
      shown = is.shown;
    }
    by false = is

-- the duty is done then
pub fell_done : (s : Side) (fall : Fall) (p : PathState Carried) → fell_duties s (sign_reply fall) p ≡ left p
fell_done s fall p = by (is_starting fall.mode)
  where
    by : (b : Bool) → fell_duties s (Reply.Control (ControlReply.Verdict (by_sign b fall).1)) p ≡ left p
    by true = refl
    by false = refl
