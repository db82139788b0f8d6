-- What a path asks: of the reassembly books neither to read nor to abort; of the send books grants at one duty, acknowledgements where
-- it heard something, and else returns alone.
use Rattle.world_laws.proofs.Words.{◌≡◌, refl, sym, ◌∙◌, ℕ, true, false, Option, false≢true, Side, ReassemblyCall, SendCall, Duty, StepDuty, AskDuty, Heard}
use Rattle.world_laws.proofs.Words.{Ask, Codec, ask_for, PathState, end_at, path_of, item_ask, subflow_ack_ask, side_of, May, may, may_reassemble, asking}
use Rattle.world_laws.proofs.Words.{IsAsked, asks_of_steps}
use Rattle.world_laws.proofs.Asks.SendBooks.{IsQuiet}
use Rattle.world_laws.proofs.Falls.FailedChecks.{subflow_acks_so}
use Rattle.world_laws.proofs.Writes.Asks.{asks_no_more, item_asked}

-- not a read
abbrev pub IsArrival : ReassemblyCall → Type 0
IsArrival (ReassemblyCall.Read max) = ⊥
IsArrival _ = Unit {0}

abbrev pub IsPathAsk : Ask → Type 0
IsPathAsk (Ask.Reassembly s call) = IsArrival call
IsPathAsk _ = Unit {0}

arrival_called : (m : May) (call : ReassemblyCall) → may_reassemble m call ≡ true → IsArrival call
arrival_called m (ReassemblyCall.Read max) is = absurd (false≢true is)
arrival_called m _ is = tt

path_asked : (m : May) (x : Ask) → may m x ≡ true → IsPathAsk x
path_asked m (Ask.Reassembly s call) is = arrival_called m call is
path_asked m _ is = tt

module _ {C : Type 0} (k : Codec C) (p : PathState C) where
  pub path_asks : (d : Duty) → IsPathAsk (ask_for k d p)
  path_asks d = path_asked (asking d) (ask_for k d p) (asks_no_more k p d).kind

-- ---- of the send books

-- a step at no send book, or a return
abbrev pub IsQuietAsk : ℕ → Ask → Type 0
IsQuietAsk path (Ask.Send s SendCall.GoIdentity) = ⊥
IsQuietAsk path (Ask.Send s call) = IsQuiet path call
IsQuietAsk path _ = Unit {0}

-- at a send book of this side alone, and there an acknowledgement, or whether this path goes on alone
abbrev pub IsHeardAsk : ℕ → Side → Ask → Type 0
IsHeardAsk path s (Ask.Send t (SendCall.AckIn next window)) = t ≡ s
IsHeardAsk path s (Ask.Send t (SendCall.GoInfinite asker)) = (t ≡ s) × (asker ≡ path)
IsHeardAsk path s (Ask.Send t call) = ⊥
IsHeardAsk path s _ = Unit {0}

-- a grant for this path, an acknowledgement, this path's return, a fallback, or whether a path goes on alone
abbrev pub IsCallOf : ℕ → Ask → Type 0
IsCallOf path (Ask.Send s (SendCall.Grant asker max standby)) = asker ≡ path
IsCallOf path (Ask.Send s (SendCall.AckIn next window)) = Unit {0}
IsCallOf path (Ask.Send s (SendCall.Return asker)) = asker ≡ path
IsCallOf path (Ask.Send s SendCall.GoIdentity) = Unit {0}
IsCallOf path (Ask.Send s (SendCall.GoInfinite asker)) = Unit {0}
IsCallOf path (Ask.Send s SendCall.Abort) = Unit {0}
IsCallOf path (Ask.Send s call) = ⊥
IsCallOf path _ = Unit {0}

-- neither asks for bytes nor hears nor falls back
abbrev pub IsQuietDuty : Duty → Type 0
IsQuietDuty (Duty.Ask (AskDuty.GoIdentity s)) = ⊥
IsQuietDuty (Duty.Step (StepDuty.Data s)) = ⊥
IsQuietDuty (Duty.Step (StepDuty.Heard s index)) = ⊥
IsQuietDuty (Duty.Ask (AskDuty.SynHeard s)) = ⊥
IsQuietDuty (Duty.Ask (AskDuty.SynAnswered s)) = ⊥
IsQuietDuty (Duty.Ask (AskDuty.SubflowAck s)) = ⊥
IsQuietDuty _ = Unit {0}

-- what neither asks for bytes nor acknowledges, falls back or goes on alone
pub record IsQuietKind (m : May) : Type 0 where
  pub grant : m.grant ≡ false
  pub ack_in : m.ack_in ≡ false
  pub falls : m.falls ≡ false
  pub alone : m.alone ≡ false

module _ {C : Type 0} (k : Codec C) (p : PathState C) where
  quiet_asked : (s : Side) (m : May) → IsQuietKind m → (x : Ask) → IsAsked p s m x → IsQuietAsk (path_of p) x
  quiet_asked s m off (Ask.Send t (SendCall.Write bytes)) h = tt
  quiet_asked s m off (Ask.Send t SendCall.Close) h = tt
  quiet_asked s m off (Ask.Send t (SendCall.Grant path max standby)) h = absurd (false≢true (sym off.grant ∙ h.kind))
  quiet_asked s m off (Ask.Send t (SendCall.AckIn next window)) h = absurd (false≢true (sym off.ack_in ∙ h.kind))
  quiet_asked s m off (Ask.Send t (SendCall.Return path)) h = h.own
  quiet_asked s m off (Ask.Send t SendCall.GoIdentity) h = absurd (false≢true (sym off.falls ∙ h.kind))
  quiet_asked s m off (Ask.Send t (SendCall.GoInfinite path)) h = absurd (false≢true (sym off.alone ∙ h.kind))
  quiet_asked s m off (Ask.Send t SendCall.Abort) h = tt
  quiet_asked s m off _ h = tt

  pub quiet_asks : (d : Duty) → IsQuietDuty d → IsQuietAsk (path_of p) (ask_for k d p)
  quiet_asks (Duty.Step (StepDuty.Data s)) q = absurd q
  quiet_asks (Duty.Step (StepDuty.Heard s index)) q = absurd q
  quiet_asks (Duty.Ask (AskDuty.SynHeard s)) q = absurd q
  quiet_asks (Duty.Ask (AskDuty.SynAnswered s)) q = absurd q
  quiet_asks (Duty.Ask (AskDuty.SubflowAck s)) q = absurd q
  quiet_asks (Duty.Ask (AskDuty.GoIdentity s)) q = absurd q
  quiet_asks d q = quiet_asked (side_of d) (asking d) (record { grant = refl; ack_in = refl; falls = refl; alone = refl }) (ask_for k d p) (asks_no_more k p d)

  heard_asked : (s : Side) (x : Ask) → IsAsked p s (asks_of_steps (StepDuty.Heard s 0)) x → IsHeardAsk (path_of p) s x
  heard_asked s (Ask.Send t (SendCall.Write bytes)) h = absurd (false≢true h.kind)
  heard_asked s (Ask.Send t SendCall.Close) h = absurd (false≢true h.kind)
  heard_asked s (Ask.Send t (SendCall.Grant path max standby)) h = absurd (false≢true h.kind)
  heard_asked s (Ask.Send t (SendCall.AckIn next window)) h = h.side
  heard_asked s (Ask.Send t (SendCall.Return path)) h = absurd (false≢true h.kind)
  heard_asked s (Ask.Send t SendCall.GoIdentity) h = absurd (false≢true h.kind)
  heard_asked s (Ask.Send t (SendCall.GoInfinite path)) h = (h.side, h.own)
  heard_asked s (Ask.Send t SendCall.Abort) h = absurd (false≢true h.kind)
  heard_asked s _ h = tt

  pub heard_asks : (s : Side) (o : Option Heard) → IsHeardAsk (path_of p) s (item_ask k s o p)
  heard_asks s o = heard_asked s (item_ask k s o p) (item_asked k p s 0 o)

  -- what an acknowledgement of the subflow asks is such an ask
  pub subflow_asks : (s : Side) → IsHeardAsk (path_of p) s (subflow_ack_ask s (end_at s p))
  subflow_asks s = subflow_acks_so (IsHeardAsk (path_of p) s) s (end_at s p) tt (λ next. refl)

  -- ---- what a path asks of a send book: bytes for itself, an acknowledgement, or it gives its own bytes back

  own_asked : (s : Side) (m : May) (x : Ask) → IsAsked p s m x → IsCallOf (path_of p) x
  own_asked s m (Ask.Send t (SendCall.Write bytes)) h = absurd (false≢true h.kind)
  own_asked s m (Ask.Send t SendCall.Close) h = absurd (false≢true h.kind)
  own_asked s m (Ask.Send t (SendCall.Grant path max standby)) h = h.own.0
  own_asked s m (Ask.Send t (SendCall.Return path)) h = h.own
  own_asked s m (Ask.Send t (SendCall.AckIn next window)) h = tt
  own_asked s m (Ask.Send t SendCall.GoIdentity) h = tt
  own_asked s m (Ask.Send t (SendCall.GoInfinite path)) h = tt
  own_asked s m (Ask.Send t SendCall.Abort) h = tt
  own_asked s m _ h = tt

  pub own_calls : (d : Duty) → IsCallOf (path_of p) (ask_for k d p)
  own_calls d = own_asked (side_of d) (asking d) (ask_for k d p) (asks_no_more k p d)
