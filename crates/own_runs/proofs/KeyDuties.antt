-- What is to be done on path 0 of a duty that asks whether A heard a key: none comes by a duty that isn't such a one itself.
use Rattle.std.proofs.Common.{◌≡◌, refl, sym, ℕ, Bool, true, false, if◌then◌else◌}
use Rattle.std.proofs.lemmas.Bool.{false≢true}
use Rattle.actor_desk.specs.declared.ask.Reply.{Reply}
use Rattle.path_agenda.specs.Agenda.{leaves, resets, stops}
use Rattle.path_agenda.specs.Words.{replaced}
use Rattle.path_agenda.specs.declared.duty.AskDuty.{AskDuty}
use Rattle.path_agenda.specs.declared.duty.Duty.{Duty}
use Rattle.path_agenda.specs.declared.duty.SendDuty.{SendDuty}
use Rattle.path_core.specs.Duties.{answered}
use Rattle.path_core.specs.Fallback.{fell_duties}
use Rattle.path_core.specs.State.{PathState, left}
use Rattle.path_core.specs.Values.{Carried, values}
use Rattle.sides.specs.declared.side.Side.{Side}
use Rattle.world_laws.proofs.Keys.AnswerHeardFirst.{is_calm, is_key_duty}
use Rattle.own_runs.proofs.DutiesFew.{answer_free, ask_free, dead_free, failing_free, fell_free, is_rare, joins_none, leave_free, leaves_free, left_free, refuse_free, resets_free, stopped_free, told_free}

pub rare : (x : Duty) → is_rare x ≡ false → is_key_duty x ≡ false
rare (Duty.Ask (AskDuty.SynAnswered s)) is = absurd (false≢true (sym is))
rare (Duty.Ask (AskDuty.PeerKey s)) is = absurd (false≢true (sym is))
rare _ is = refl

module _ (p : PathState Carried) (h : is_calm p.agenda ≡ true) where
  pub left_calm : is_calm (left p) ≡ true
  left_calm = left_free is_key_duty rare p h

  pub leaves_calm : (s : Side) → is_calm (leaves s) ≡ true
  leaves_calm s = leaves_free is_key_duty rare p h s

  pub resets_calm : (s : Side) (reason : ℕ) → is_calm (resets s reason) ≡ true
  resets_calm s reason = resets_free is_key_duty rare p h s reason

  pub fell_calm : (s : Side) (r : Reply) → is_calm (fell_duties s r p) ≡ true
  fell_calm s r = fell_free is_key_duty rare p h s r

  pub dead_calm : (s : Side) → is_calm (replaced (Duty.Ask (AskDuty.Dead s)) p.agenda) ≡ true
  dead_calm s = dead_free is_key_duty rare p h s

  pub leave_calm : (s : Side) → is_calm (replaced (Duty.Ask (AskDuty.Leave s)) p.agenda) ≡ true
  leave_calm s = leave_free is_key_duty rare p h s

  pub refuse_calm : (s : Side) → is_calm (replaced (Duty.Send (SendDuty.Refuse s)) p.agenda) ≡ true
  refuse_calm s = refuse_free is_key_duty rare p h s refl

  pub answer_calm : (s : Side) → is_calm (replaced (Duty.Send (SendDuty.SynAck s)) p.agenda) ≡ true
  answer_calm s = answer_free is_key_duty rare p h s refl

  pub told_calm : (s : Side) (acked : Bool) → is_calm (if acked then replaced (Duty.Ask (AskDuty.AckHeard s)) p.agenda else left p) ≡ true
  told_calm s acked = told_free is_key_duty rare p h s acked

  pub failing_calm : (s : Side) → is_calm (replaced (Duty.Ask (AskDuty.FailHeard s)) p.agenda) ≡ true
  failing_calm s = failing_free is_key_duty rare p h s

  pub stopped_calm : (s : Side) (b : Bool) → is_calm (if b then stops s else left p) ≡ true
  stopped_calm s b = stopped_free is_key_duty rare p h s b

  pub ask_calm : (d : AskDuty) (r : Reply) → is_calm (answered values (Duty.Ask d) r p).agenda ≡ true
  ask_calm d r = ask_free is_key_duty rare p h d r (joins_none is_key_duty rare (λ s. (refl, refl)) (Duty.Ask d))
