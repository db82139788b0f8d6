-- A path never writes to a send book and never closes one.
use Rattle.world_laws.proofs.Words.{◌≡◌, refl, sym, ◌∙◌, ap, ℕ, Bool, true, false, if◌then◌else◌, Some, Result, Ok, Err, List, ◌++◌, false≢true, Span, Why}
use Rattle.world_laws.proofs.Words.{SendCall, Sending, decision, given_by, is_future, is_gathered, Duty, Ask, Codec, ask_for, PathState, May, may, asking}
use Rattle.world_laws.proofs.Words.{may_send}
use Rattle.send_book.specs.Steps.{after_call}
use Rattle.world_laws.proofs.Lanes.Applying.{Writes}
use Rattle.world_laws.proofs.Writes.Asks.{asks_no_more}

-- neither writes nor closes
abbrev pub LeavesFile : SendCall → Type 0
LeavesFile (SendCall.Write bytes) = ⊥
LeavesFile SendCall.Close = ⊥
LeavesFile _ = Unit {0}

abbrev pub AskLeavesFile : Ask → Type 0
AskLeavesFile (Ask.Send s call) = LeavesFile call
AskLeavesFile _ = Unit {0}

none_called : (m : May) (call : SendCall) → may_send m call ≡ true → LeavesFile call
none_called m (SendCall.Write bytes) is = absurd (false≢true is)
none_called m SendCall.Close is = absurd (false≢true is)
none_called m _ is = tt

none_asked : (m : May) (x : Ask) → may m x ≡ true → AskLeavesFile x
none_asked m (Ask.Send s call) is = none_called m call is
none_asked m _ is = tt

module _ {C : Type 0} (k : Codec C) (p : PathState C) where
  pub asks_leave : (d : Duty) → AskLeavesFile (ask_for k d p)
  asks_leave d = none_asked (asking d) (ask_for k d p) (asks_no_more k p d).kind

-- such a call leaves what was written, and whether it is closed
module _ (file rest : List ℕ) (b : Sending) (h : Writes file rest b) where
  grant_keeps : (path : ℕ) (r : Result Span Why) → Writes file rest (given_by path r b)
  grant_keeps path (Ok span) = record { prefix = h.prefix; whole = h.whole }
  grant_keeps path (Err why) = h

  ack_keeps : (c : Bool) (c_after : Sending) → c_after.written ≡ b.written → c_after.closed ≡ b.closed → Writes file rest (if c then b else c_after)
  ack_keeps true c_after written closed = h
  ack_keeps false c_after written closed = record { prefix = h.prefix ∙ ap (λ xs. xs ++ rest) (sym written); whole = λ is. h.whole (sym closed ∙ is) }

  pub call_keeps : (call : SendCall) → LeavesFile call → Writes file rest (after_call b call)
  call_keeps (SendCall.Write bytes) leaves = absurd leaves
  call_keeps SendCall.Close leaves = absurd leaves
  call_keeps (SendCall.Grant path max standby) leaves = grant_keeps path (decision path max standby b)
  call_keeps (SendCall.AckIn next window) leaves = ack_keeps (is_future next b) _ refl refl
  call_keeps (SendCall.Return path) leaves = record { prefix = h.prefix; whole = h.whole }
  call_keeps SendCall.GoIdentity leaves = record { prefix = h.prefix; whole = h.whole }
  call_keeps (SendCall.GoInfinite path) leaves = elim (is_gathered path b) as (λ c. Writes file rest (if c then record b { owner = Some path } else b))
      [ true ↦ record { prefix = h.prefix; whole = h.whole } | false ↦ h ]
  call_keeps SendCall.Abort leaves = record { prefix = h.prefix; whole = h.whole }
