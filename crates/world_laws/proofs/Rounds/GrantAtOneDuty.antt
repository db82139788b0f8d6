-- What a path asks is a grant at one duty alone.
use Rattle.world_laws.proofs.Words.{◌≡◌, refl, sym, ◌∙◌, true, false, false≢true, Side, A, B, SendCall, Duty, StepDuty, AskDuty, Ask, Codec, ask_for, PathState}
use Rattle.world_laws.proofs.Words.{May, may, asking, may_send, asks_grant}
use Rattle.world_laws.proofs.Writes.Asks.{asks_no_more}

-- no grant
abbrev pub CallsNone : SendCall → Type 0
CallsNone (SendCall.Grant path max standby) = ⊥
CallsNone _ = Unit {0}

abbrev pub AsksNone : Ask → Type 0
AsksNone (Ask.Send s call) = CallsNone call
AsksNone _ = Unit {0}

call_isn't : (t s : Side) (call : SendCall) → CallsNone call → asks_grant t (Ask.Send s call) ≡ false
call_isn't t s (SendCall.Grant path max standby) none = absurd none
call_isn't A A SendCall.Close none = refl
call_isn't A B call none = refl
call_isn't B A call none = refl
call_isn't A A _ none = refl
call_isn't B B SendCall.Close none = refl
call_isn't B B _ none = refl

pub ask_isn't : (t : Side) (x : Ask) → AsksNone x → asks_grant t x ≡ false
ask_isn't t (Ask.Send s call) none = call_isn't t s call none
ask_isn't A (Ask.Reassembly s call) none = refl
ask_isn't B (Ask.Reassembly s call) none = refl
ask_isn't A (Ask.Control s call) none = refl
ask_isn't B (Ask.Control s call) none = refl
ask_isn't A (Ask.Local step) none = refl
ask_isn't B (Ask.Local step) none = refl

-- only one duty asks for bytes
abbrev pub MayNotAsk : Duty → Type 0
MayNotAsk (Duty.Step (StepDuty.Data s)) = ⊥
MayNotAsk _ = Unit {0}

none_called : (m : May) → m.grant ≡ false → (call : SendCall) → may_send m call ≡ true → CallsNone call
none_called m off (SendCall.Grant path max standby) is = absurd (false≢true (sym off ∙ is))
none_called m off _ is = tt

none_asked : (m : May) → m.grant ≡ false → (x : Ask) → may m x ≡ true → AsksNone x
none_asked m off (Ask.Send s call) is = none_called m off call is
none_asked m off _ is = tt

module _ {C : Type 0} (k : Codec C) (p : PathState C) where
  pub asks_none : (d : Duty) → MayNotAsk d → AsksNone (ask_for k d p)
  asks_none (Duty.Step (StepDuty.Data s)) other = absurd other
  asks_none (Duty.Ask (AskDuty.Window s)) other = tt
  asks_none d other = none_asked (asking d) refl (ask_for k d p) (asks_no_more k p d).kind
