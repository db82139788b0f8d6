-- A stage goes back to all that follows an event: bytes and a DATA_FIN may be sent, and segments may arrive.
use Rattle.clean_finish.proofs.Words.{refl, Bool, true, inr, List, both_ways, Side, Duty, SendDuty, StepDuty, SilentDuty, Stage, IsBefore, Has, StageIs}

abbrev pub raised : Stage → Stage
raised p = record p { emit = true; finish = true; wait = true }

pub before_raised : (p : Stage) → IsBefore (raised p) p
before_raised p = record {
  ask = λ e. e;
  tell = refl;
  window = λ e. e;
  update = λ e. e;
  emit = λ e. absurd (both_ways _ e refl);
  finish = λ e. absurd (both_ways _ e refl);
  wait = λ e. absurd (both_ways _ e refl);
}

-- the duties of an emission are ahead
pub record Emits (s : Side) (ds : List Duty) : Type 0 where
  pub bytes : Has (Duty.Step (StepDuty.Data s)) ds
  pub end : Has (Duty.Send (SendDuty.DataFin s)) ds
  pub timer : Has (Duty.Silent (SilentDuty.Timer s)) ds
  pub events : Has (Duty.Step StepDuty.Events) ds

pub stage_raised : (s r : Side) (ds : List Duty) (asked owes : Bool) (p : Stage) → Emits s ds → StageIs s r ds asked owes p
    → StageIs s r ds asked owes (raised p)
stage_raised s r ds asked owes p there is = record {
  window = is.window;
  update = is.update;
  emit = inr there.bytes;
  finish = inr there.end;
  wait = inr there.events;
  tell = is.tell;
  ask = is.ask;
}
