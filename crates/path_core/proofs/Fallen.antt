-- What is to be done after a verdict: the send book is told of a fall, a path is broken, or the duty is done.
--
-- What follows a verdict is one function of the reply (`fell_duties`), and `proofs/Fallen` (`after_a_verdict`) says
-- what holds of each agenda that may follow. What a reply changes in an end stays apart (`after_fell`), so an end's
-- other changes stand around it.
--
-- A mode in which options don't count empties the segment's list of options before anything reads it (`options_heard`),
-- so no rule on options has a case for it.
use Rattle.path_core.proofs.Words.{ℕ, Bool, true, false, List, Verdict, Side, ControlReply, resets, breaks, replaced, Duty, AskDuty, Reply, fell_duties}
use Rattle.path_core.proofs.Words.{breaks_by, PathState, end_at, left}
use Rattle.fallback_state.specs.declared.fall.Mode.TheVariants.{Starting, Sure, Identity, InfiniteSend, InfiniteReceive, InfiniteBoth, Aborted}

broken_so : (P : List Duty → Type 0) (asked : Bool) (s : Side) (reason : ℕ) → P (breaks s reason) → P (resets s reason)
    → P (breaks_by asked s reason)
broken_so P true s reason broken reset = broken
broken_so P false s reason broken reset = reset

module _ {C : Type 0} (P : List Duty → Type 0) (s : Side) (p : PathState C) (falls : P (replaced (Duty.Ask (AskDuty.GoIdentity s)) p.agenda))
    (broken : (reason : ℕ) → P (breaks s reason)) (reset : (reason : ℕ) → P (resets s reason)) (done : P (left p)) where
  by_verdict : (v : Verdict) → P (fell_duties s (Reply.Control (ControlReply.Verdict v)) p)
  by_verdict (Verdict.Went Identity) = falls
  by_verdict (Verdict.Went Starting) = done
  by_verdict (Verdict.Went Sure) = done
  by_verdict (Verdict.Went InfiniteSend) = done
  by_verdict (Verdict.Went InfiniteReceive) = done
  by_verdict (Verdict.Went InfiniteBoth) = done
  by_verdict (Verdict.Went Aborted) = done
  by_verdict (Verdict.BreakPath reason) = broken_so P (end_at s p).treated.asked s reason (broken reason) (reset reason)
  by_verdict Verdict.Stay = done
  by_verdict Verdict.SendFail = done

  by_control : (reply : ControlReply) → P (fell_duties s (Reply.Control reply) p)
  by_control = elim [ ControlReply.Verdict v ↦ by_verdict v | ControlReply.Noted ↦ done | _ ↦ done ]

  -- what holds of each of these agendas holds of that which follows
  pub after_a_verdict : (r : Reply) → P (fell_duties s r p)
  after_a_verdict = elim [ Reply.Control reply ↦ by_control reply | _ ↦ done ]
