-- What follows from a verdict of the control book: the side falls back, the path is broken, or nothing is left of the duty.
use Rattle.world_laws.proofs.Words.{◌≡◌, refl, ℕ, Bool, true, false, List, Verdict, Side, ControlReply, resets, Duty, AskDuty, replaced, Reply, PathState}
use Rattle.world_laws.proofs.Words.{end_at, left, fell_duties, is_fall, breaks_by}
use Rattle.fallback_state.specs.declared.fall.Mode.TheVariants.{Starting, Sure, Identity, InfiniteSend, InfiniteReceive, InfiniteBoth, Aborted}
use Rattle.path_agenda.specs.Agenda.{breaks}

breaks_so : (P : List Duty → Type 0) (s : Side) (reason : ℕ) (asked : Bool) → P (breaks s reason) → P (resets s reason) → P (breaks_by asked s reason)
breaks_so P s reason true broken reset = broken
breaks_so P s reason false broken reset = reset

module _ {C : Type 0} (P : List Duty → Type 0) (s : Side) (p : PathState C) where
  verdict_cases : (v : Verdict) → (is_fall (Reply.Control (ControlReply.Verdict v)) ≡ true → P (replaced (Duty.Ask (AskDuty.GoIdentity s)) p.agenda)) → ((reason : ℕ) → P (breaks s reason))
      → ((reason : ℕ) → P (resets s reason)) → P (left p) → P (fell_duties s (Reply.Control (ControlReply.Verdict v)) p)
  verdict_cases (Verdict.Went Identity) falls broken reset done = falls refl
  verdict_cases (Verdict.Went Starting) falls broken reset done = done
  verdict_cases (Verdict.Went Sure) falls broken reset done = done
  verdict_cases (Verdict.Went InfiniteSend) falls broken reset done = done
  verdict_cases (Verdict.Went InfiniteReceive) falls broken reset done = done
  verdict_cases (Verdict.Went InfiniteBoth) falls broken reset done = done
  verdict_cases (Verdict.Went Aborted) falls broken reset done = done
  verdict_cases (Verdict.BreakPath reason) falls broken reset done = breaks_so P s reason (end_at s p).treated.asked (broken reason) (reset reason)
  verdict_cases Verdict.Stay falls broken reset done = done
  verdict_cases Verdict.SendFail falls broken reset done = done

  control_cases : (reply : ControlReply) → (is_fall (Reply.Control reply) ≡ true → P (replaced (Duty.Ask (AskDuty.GoIdentity s)) p.agenda)) → ((reason : ℕ) → P (breaks s reason))
      → ((reason : ℕ) → P (resets s reason)) → P (left p) → P (fell_duties s (Reply.Control reply) p)
  control_cases (ControlReply.Verdict v) falls broken reset done = verdict_cases v falls broken reset done
  control_cases ControlReply.Noted falls broken reset done = done
  control_cases _ falls broken reset done = done

  -- what holds of each agenda that may follow holds of that which follows, where it is known whether bytes or an end were told
  pub told_cases : (r : Reply) → (is_fall r ≡ true → P (replaced (Duty.Ask (AskDuty.GoIdentity s)) p.agenda)) → ((reason : ℕ) → P (breaks_by (end_at s p).treated.asked s reason)) → P (left p) → P (fell_duties s r p)
  told_cases (Reply.Control (ControlReply.Verdict (Verdict.Went Identity))) falls broken done = falls refl
  told_cases (Reply.Control (ControlReply.Verdict (Verdict.BreakPath reason))) falls broken done = broken reason
  told_cases _ falls broken done = done

  -- what holds of each agenda that may follow holds of that which follows
  pub fell_cases : (r : Reply) → (is_fall r ≡ true → P (replaced (Duty.Ask (AskDuty.GoIdentity s)) p.agenda)) → ((reason : ℕ) → P (breaks s reason)) → ((reason : ℕ) → P (resets s reason)) → P (left p)
      → P (fell_duties s r p)
  fell_cases (Reply.Control reply) falls broken reset done = control_cases reply falls broken reset done
  fell_cases _ falls broken reset done = done
