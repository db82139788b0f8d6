-- A path looks how it stands at one duty alone.
use Rattle.world_laws.proofs.Words.{◌≡◌, refl, sym, ◌∙◌, true, false, false≢true, Side, A, B, ControlCall, Duty, StepDuty, AskDuty, Ask, Codec, ask_for}
use Rattle.world_laws.proofs.Words.{PathState, looks, May, may, asking, may_tell}
use Rattle.world_laws.proofs.Writes.Asks.{asks_no_more}

-- no look
abbrev pub CallsNoLook : ControlCall → Type 0
CallsNoLook (ControlCall.Look path) = ⊥
CallsNoLook _ = Unit {0}

abbrev pub LooksNot : Ask → Type 0
LooksNot (Ask.Control s call) = CallsNoLook call
LooksNot _ = Unit {0}

call_isn't : (t s : Side) (call : ControlCall) → CallsNoLook call → looks t (Ask.Control s call) ≡ false
call_isn't t s (ControlCall.Look path) none = absurd none
call_isn't A A _ none = refl
call_isn't B B _ none = refl
call_isn't A B call none = refl
call_isn't B A call none = refl

pub look_isn't : (t : Side) (x : Ask) → LooksNot x → looks t x ≡ false
look_isn't t (Ask.Control s call) none = call_isn't t s call none
look_isn't A (Ask.Send s call) none = refl
look_isn't B (Ask.Send s call) none = refl
look_isn't A (Ask.Reassembly s call) none = refl
look_isn't B (Ask.Reassembly s call) none = refl
look_isn't A (Ask.Local step) none = refl
look_isn't B (Ask.Local step) none = refl

-- only one duty looks
abbrev pub MayNotLook : Duty → Type 0
MayNotLook (Duty.Step (StepDuty.Look s)) = ⊥
MayNotLook _ = Unit {0}

none_called : (m : May) → m.look ≡ false → (call : ControlCall) → may_tell m call ≡ true → CallsNoLook call
none_called m off (ControlCall.Look path) is = absurd (false≢true (sym off ∙ is))
none_called m off _ is = tt

none_asked : (m : May) → m.look ≡ false → (x : Ask) → may m x ≡ true → LooksNot x
none_asked m off (Ask.Control s call) is = none_called m off call is
none_asked m off _ is = tt

module _ {C : Type 0} (k : Codec C) (p : PathState C) where
  pub looks_none : (d : Duty) → MayNotLook d → LooksNot (ask_for k d p)
  looks_none (Duty.Step (StepDuty.Look s)) other = absurd other
  looks_none (Duty.Ask (AskDuty.SynHeard s)) other = tt
  looks_none d other = none_asked (asking d) refl (ask_for k d p) (asks_no_more k p d).kind
