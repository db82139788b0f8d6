-- Duties that are passed: the first two numbers don't rise, and the third falls.
--
-- What no end of ours sends is heard by one more field of an end, which laws of worlds say is `None`: bundled with
-- another field of the invariant's record (`HoldsShow` with the mappings that are held), it passes through every rule
-- that touches neither. A silent change that writes its `if`s inside the fields keeps all else by `refl`.
use Rattle.path_core.proofs.Words.{◌≡◌, ◌⊎◌, inl, inr, refl, ap, ◌<◌, ◌≤◌, ◌||◌, Bool, true, false, if◌then◌else◌, List, [], ◌∷◌, arith, Side, A, B, Duty}
use Rattle.path_core.proofs.Words.{AskDuty, StepDuty, SendDuty, SilentDuty, weights, with_plain_ack, PathState, end_at, with_agenda, with_end, PathEnd, stands}
use Rattle.path_core.proofs.Words.{passed, settled, after_pass_fin, TakesTime, mapping_here, after_keep, after_check, after_pieces, item_of, item_passed}
use Rattle.subflow_tcp.specs.Closing.{is_fin_next}
use Rattle.subflow_tcp.specs.Expiring.{is_timed}
use Rattle.path_core.specs.DataFin.{is_waiting}
use Rattle.path_core.specs.Timer.{with_timer_settled}
use Rattle.path_core.proofs.Ranking.{Rests, same_rests, Calm}
use Rattle.path_core.proofs.Resting.{to_rests, item_same, keep_same, check_same, pass_fin_same, settled_settles}

module _ {C : Type 0} where
  end_calm : (s : Side) (e : PathEnd) (p : PathState C) → TakesTime p → Rests p.clock (end_at s p) e → Calm p (with_end s e p)
  end_calm A e p t rests = record {
    ticks = omega arith;
    due = omega (arith, rests.due);
    time = record { delay = t.delay; timer_a = rests.timeout t.timer_a; timer_b = t.timer_b };
  }
  end_calm B e p t rests = record {
    ticks = omega arith;
    due = omega (arith, rests.due);
    time = record { delay = t.delay; timer_a = t.timer_a; timer_b = rests.timeout t.timer_b };
  }

  timeout_at : (s : Side) (p : PathState C) → TakesTime p → 1 ≤ (end_at s p).tcp.timing.rtt.rto
  timeout_at = elim [ A ↦ λ p t. t.timer_a | B ↦ λ p t. t.timer_b ]

  unchanged : (p : PathState C) → TakesTime p → Calm p p
  unchanged p t = record { ticks = omega arith; due = omega arith; time = t }

  pub then_calm : (p q r : PathState C) → Calm p q → Calm q r → Calm p r
  then_calm p q r x y = record { ticks = omega (arith, x.ticks, y.ticks); due = omega (arith, x.due, y.due); time = y.time }

  passed_calm : (d : Duty) (p : PathState C) → TakesTime p → Calm p (passed d p)
  passed_calm (Duty.Silent (SilentDuty.Timer s)) p t =
      let e = end_at s p in
      end_calm s (with_timer_settled p.clock e) p t
      (to_rests p.clock e (with_timer_settled p.clock e)
      (settled_settles p.clock (is_timed (is_waiting e || (e.modes.owes_third || e.notices.fast_closed)) e.tcp) e.sending.news e.tcp.timing (timeout_at s p t)))
  passed_calm (Duty.Step (StepDuty.Heard s index)) p t =
      let e = end_at s p in
      let f : PathEnd = item_passed s (item_of index e) e in
      end_calm s f p t (same_rests p.clock e f (ap (λ tcp. tcp.timing) (item_same s (item_of index e) e)))
  passed_calm (Duty.Step (StepDuty.PlainAck s)) p t =
      let e = end_at s p in end_calm s (with_plain_ack e) p t (same_rests p.clock e (with_plain_ack e) refl)
  passed_calm (Duty.Step (StepDuty.Unmapped s)) p t =
      let e = end_at s p in end_calm s (after_pieces e) p t (same_rests p.clock e (after_pieces e) refl)
  passed_calm (Duty.Silent (SilentDuty.Keep s)) p t =
      let e = end_at s p in end_calm s (after_keep s e) p t (same_rests p.clock e (after_keep s e) (keep_same s e))
  passed_calm (Duty.Ask (AskDuty.CheckFailed s)) p t =
      let e = end_at s p in
      end_calm s (after_check p.profile e) p t
      (same_rests p.clock e (after_check p.profile e) (check_same p.profile.spelling.checksums (mapping_here e) e))
  passed_calm (Duty.Silent (SilentDuty.PassFin s)) p t =
      let e = end_at s p in
      end_calm s (after_pass_fin e) p t (same_rests p.clock e (after_pass_fin e) (pass_fin_same (is_fin_next e.tcp) e.tcp))
  passed_calm (Duty.Ask AskDuty.JoinAgain) p t = unchanged p t
  passed_calm (Duty.Step (StepDuty.Look s)) p t = unchanged p t
  passed_calm (Duty.Send (SendDuty.ResetNoted s)) p t = unchanged p t
  passed_calm _ p t = unchanged p t

  -- ---- settling

  -- either nothing was passed, or the weight fell
  pub settled_lower : (ds : List Duty) (p : PathState C) → TakesTime p
      → ((weights (settled ds p).agenda < weights ds) × Calm p (settled ds p)) ⊎ (settled ds p ≡ with_agenda ds p)
  settled_lower [] p t = inr refl
  settled_lower (d ∷ ds) p t = by (stands d p) (settled_lower ds (passed d p) (passed_calm d p t).time)
    where
      calm : Calm p (passed d p)
      calm = passed_calm d p t

      more : ((weights (settled ds (passed d p)).agenda < weights ds) × Calm (passed d p) (settled ds (passed d p)))
          ⊎ (settled ds (passed d p) ≡ with_agenda ds (passed d p))
          → (weights (settled ds (passed d p)).agenda < weights (d ∷ ds)) × Calm p (settled ds (passed d p))
      more (inl rest) = (omega (arith, rest.0), then_calm p (passed d p) (settled ds (passed d p)) calm rest.1)
      more (inr same) = rw same (omega arith, record { ticks = calm.ticks; due = calm.due; time = record { delay = calm.time.delay; timer_a = calm.time.timer_a; timer_b = calm.time.timer_b } })

      by : (b : Bool)
          → ((weights (settled ds (passed d p)).agenda < weights ds) × Calm (passed d p) (settled ds (passed d p)))
          ⊎ (settled ds (passed d p) ≡ with_agenda ds (passed d p))
          → ((weights (if b then with_agenda (d ∷ ds) p else settled ds (passed d p)).agenda < weights (d ∷ ds))
          × Calm p (if b then with_agenda (d ∷ ds) p else settled ds (passed d p)))
          ⊎ ((if b then with_agenda (d ∷ ds) p else settled ds (passed d p)) ≡ with_agenda (d ∷ ds) p)
      by = elim [ true ↦ λ rest. inr refl | false ↦ λ rest. inl (more rest) ]
