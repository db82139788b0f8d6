-- A duty that nothing waits for is left behind: all stays as it is.
use Rattle.clean_finish.proofs.Words.{◌≡◌, refl, sym, ap, ◌∙◌, ℕ, ◌≤◌, Bool, true, false, ◌⊎◌, inl, inr, ⊎_elim, List, ◌∷◌, ◌==◌, both_ways, Side, A, Duty}
use Rattle.clean_finish.proofs.Words.{SendDuty, StepDuty, AskDuty, SilentDuty, PathEnd, Setting, Stage, Sender, Receiver, Has, StageIs, HasNotBegun}
use Rattle.clean_finish.proofs.Words.{IsSettledSoon}
use Rattle.std.proofs.Common.{eq-eqb}

-- something waits for these
abbrev pub is_waited : Duty → Bool
is_waited (Duty.Ask (AskDuty.Window s)) = true
is_waited (Duty.Send (SendDuty.Update s)) = true
is_waited (Duty.Send (SendDuty.Syn s)) = true
is_waited (Duty.Step (StepDuty.Data s)) = true
is_waited (Duty.Send (SendDuty.DataFin s)) = true
is_waited (Duty.Silent (SilentDuty.Timer s)) = true
is_waited (Duty.Step StepDuty.Events) = true
is_waited (Duty.Send (SendDuty.SynAck s)) = true
is_waited (Duty.Send (SendDuty.Acknowledge s)) = true
is_waited (Duty.Ask (AskDuty.AckOut s)) = true
is_waited _ = false

pub apart : {x d : Duty} → is_waited x ≡ true → is_waited d ≡ false → x ≡ d → ⊥
apart waited free same = both_ways _ (sym waited ∙ ap is_waited same ∙ free) refl

-- the kinds of duties that are waited for
abbrev pub kind : Duty → ℕ
kind (Duty.Ask (AskDuty.Window s)) = 1
kind (Duty.Send (SendDuty.Update s)) = 2
kind (Duty.Send (SendDuty.Syn s)) = 3
kind (Duty.Step (StepDuty.Data s)) = 4
kind (Duty.Send (SendDuty.DataFin s)) = 5
kind (Duty.Silent (SilentDuty.Timer s)) = 6
kind (Duty.Step StepDuty.Events) = 7
kind (Duty.Send (SendDuty.SynAck s)) = 8
kind (Duty.Send (SendDuty.Acknowledge s)) = 9
kind (Duty.Ask (AskDuty.AckOut s)) = 10
kind _ = 0

pub differ : {x d : Duty} → (kind x == kind d) ≡ false → x ≡ d → ⊥
differ {x} {d} other same = both_ways (kind x == kind d) other (eq-eqb (kind x) (kind d) (ap kind same))

pub behind : {x d : Duty} (ds : List Duty) → (x ≡ d → ⊥) → Has x (d ∷ ds) → Has x ds
behind ds apart h = ⊎_elim (λ e. absurd (apart e)) (λ i. i) h

pub behind_or : {x d : Duty} {b : Bool} (ds : List Duty) → (x ≡ d → ⊥) → (b ≡ false) ⊎ Has x (d ∷ ds) → (b ≡ false) ⊎ Has x ds
behind_or ds apart h = ⊎_elim (λ e. inl e) (λ i. inr (behind ds apart i)) h

-- none of the duties that a stage waits for
pub record IsApart (s r : Side) (d : Duty) : Type 0 where
  pub window : Duty.Ask (AskDuty.Window r) ≡ d → ⊥
  pub update : Duty.Send (SendDuty.Update r) ≡ d → ⊥
  pub emit : Duty.Step (StepDuty.Data s) ≡ d → ⊥
  pub finish : Duty.Send (SendDuty.DataFin s) ≡ d → ⊥
  pub wait : (Duty.Step StepDuty.Events) ≡ d → ⊥
  pub syn_ack : Duty.Send (SendDuty.SynAck r) ≡ d → ⊥
  pub acknowledge : Duty.Send (SendDuty.Acknowledge r) ≡ d → ⊥
  pub ask : Duty.Ask (AskDuty.AckOut r) ≡ d → ⊥

pub is_apart : (s r : Side) (d : Duty) → is_waited d ≡ false → IsApart s r d
is_apart s r d free = record {
  window = apart refl free;
  update = apart refl free;
  emit = apart refl free;
  finish = apart refl free;
  wait = apart refl free;
  syn_ack = apart refl free;
  acknowledge = apart refl free;
  ask = apart refl free;
}

pub stage_drops : (s r : Side) (d : Duty) (ds : List Duty) (asked owes : Bool) (p : Stage) → IsApart s r d
    → StageIs s r (d ∷ ds) asked owes p → StageIs s r ds asked owes p
stage_drops s r d ds asked owes p apart is = record {
  window = behind_or ds apart.window is.window;
  update = behind_or ds apart.update is.update;
  emit = behind_or ds apart.emit is.emit;
  finish = behind_or ds apart.finish is.finish;
  wait = behind_or ds apart.wait is.wait;
  tell = ⊎_elim (λ e. inl e) (λ a. inr (⊎_elim (λ i. inl (behind ds apart.syn_ack i))
      (λ i. inr (behind ds apart.acknowledge i.0, i.1)) a)) is.tell;
  ask = ⊎_elim (λ e. inl e) (λ a. inr (⊎_elim (λ i. inl (behind ds apart.window i))
      (λ i. inr (behind ds apart.ask i.0, i.1)) a)) is.ask;
}

-- a stage without the flag of the duty
pub window_drops : (s r : Side) (d : Duty) (ds : List Duty) (asked owes : Bool) (p : Stage) → d ≡ Duty.Ask (AskDuty.Window r)
    → StageIs s r (d ∷ ds) asked owes p → StageIs s r ds false owes (record p { ask = false; window = false })
window_drops s r d ds asked owes p at is = record {
  window = inl refl;
  update = behind_or ds (λ e. cc) is.update;
  emit = behind_or ds (λ e. cc) is.emit;
  finish = behind_or ds (λ e. cc) is.finish;
  wait = behind_or ds (λ e. cc) is.wait;
  tell = ⊎_elim (λ e. inl e) (λ a. inr (⊎_elim (λ i. inl (behind ds (λ e. cc) i)) (λ i. inr (behind ds (λ e. cc) i.0, i.1)) a)) is.tell;
  ask = inl refl;
}

pub update_drops : (s r : Side) (d : Duty) (ds : List Duty) (asked owes : Bool) (p : Stage) → d ≡ Duty.Send (SendDuty.Update r)
    → StageIs s r (d ∷ ds) asked owes p → StageIs s r ds asked owes (record p { update = false })
update_drops s r d ds asked owes p at is = record {
  window = behind_or ds (λ e. cc) is.window;
  update = inl refl;
  emit = behind_or ds (λ e. cc) is.emit;
  finish = behind_or ds (λ e. cc) is.finish;
  wait = behind_or ds (λ e. cc) is.wait;
  tell = ⊎_elim (λ e. inl e) (λ a. inr (⊎_elim (λ i. inl (behind ds (λ e. cc) i)) (λ i. inr (behind ds (λ e. cc) i.0, i.1)) a)) is.tell;
  ask = ⊎_elim (λ e. inl e) (λ a. inr (⊎_elim (λ i. inl (behind ds (λ e. cc) i)) (λ i. inr (behind ds (λ e. cc) i.0, i.1)) a)) is.ask;
}

pub emit_drops : (s r : Side) (d : Duty) (ds : List Duty) (asked owes : Bool) (p : Stage) → d ≡ Duty.Step (StepDuty.Data s)
    → StageIs s r (d ∷ ds) asked owes p → StageIs s r ds asked owes (record p { emit = false })
emit_drops s r d ds asked owes p at is = record {
  window = behind_or ds (λ e. cc) is.window;
  update = behind_or ds (λ e. cc) is.update;
  emit = inl refl;
  finish = behind_or ds (λ e. cc) is.finish;
  wait = behind_or ds (λ e. cc) is.wait;
  tell = ⊎_elim (λ e. inl e) (λ a. inr (⊎_elim (λ i. inl (behind ds (λ e. cc) i)) (λ i. inr (behind ds (λ e. cc) i.0, i.1)) a)) is.tell;
  ask = ⊎_elim (λ e. inl e) (λ a. inr (⊎_elim (λ i. inl (behind ds (λ e. cc) i)) (λ i. inr (behind ds (λ e. cc) i.0, i.1)) a)) is.ask;
}

pub finish_drops : (s r : Side) (d : Duty) (ds : List Duty) (asked owes : Bool) (p : Stage) → d ≡ Duty.Send (SendDuty.DataFin s)
    → StageIs s r (d ∷ ds) asked owes p → StageIs s r ds asked owes (record p { finish = false })
finish_drops s r d ds asked owes p at is = record {
  window = behind_or ds (λ e. cc) is.window;
  update = behind_or ds (λ e. cc) is.update;
  emit = behind_or ds (λ e. cc) is.emit;
  finish = inl refl;
  wait = behind_or ds (λ e. cc) is.wait;
  tell = ⊎_elim (λ e. inl e) (λ a. inr (⊎_elim (λ i. inl (behind ds (λ e. cc) i)) (λ i. inr (behind ds (λ e. cc) i.0, i.1)) a)) is.tell;
  ask = ⊎_elim (λ e. inl e) (λ a. inr (⊎_elim (λ i. inl (behind ds (λ e. cc) i)) (λ i. inr (behind ds (λ e. cc) i.0, i.1)) a)) is.ask;
}

-- ---- what else waits

pub settles_drop : (s : Side) (d : Duty) (ds : List Duty) (e : PathEnd) → (Duty.Silent (SilentDuty.Timer s) ≡ d → ⊥) → IsSettledSoon s (d ∷ ds) e → IsSettledSoon s ds e
settles_drop s d ds e apart h = ⊎_elim (λ is. inl is) (λ i. inr (behind ds apart i)) h

pub begun_drops : {n : ℕ} (s : Side) (j : Setting) (out : Sender) (back : Receiver) (e : PathEnd) (d : Duty) (ds : List Duty)
    → (Duty.Ask (AskDuty.Window s) ≡ d → ⊥) → (s ≡ A → Duty.Send (SendDuty.Syn A) ≡ d → ⊥)
    → (1 ≤ n) ⊎ HasNotBegun s j out back e (d ∷ ds) → (1 ≤ n) ⊎ HasNotBegun s j out back e ds
begun_drops s j out back e d ds window syn (inl sent) = inl sent
begun_drops s j out back e d ds window syn (inr h) = inr (record {
  ready = h.ready;
  received = h.received;
  data_fin = h.data_fin;
  keys = h.keys;
  told = h.told;
  next = h.next;
  window = ⊎_elim (λ is. inl is) (λ i. inr (behind ds window i)) h.window;
  syn = λ is. ((h.syn is).0, behind ds (syn is) (h.syn is).1);
})
