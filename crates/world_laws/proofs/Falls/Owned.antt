-- A send book is given to a path that joins only where its side joined, and no side that joined falls back: so where a side falls
-- back, its book wasn't given to another path than path 0.
use Rattle.world_laws.proofs.Words.{◌≡◌, refl, sym, ◌∙◌, ap, subst, ℕ, zero, suc, ◌||◌, ◌==◌, nat_lt, inl, inr, ◌⊎◌, ⊎_elim, Bool, true, false, if◌then◌else◌}
use Rattle.world_laws.proofs.Words.{Option, Some, None, Result, Ok, Err, List, ◌∷◌, arith, both_ways, Side, A, B, Span, Why, SendCall, Sending, is_for}
use Rattle.world_laws.proofs.Words.{decision, given_by, is_future, is_gathered, Record, Duty, StepDuty, AskDuty, Ask, SixBooks, send_of, control_of, after_ask}
use Rattle.world_laws.proofs.Words.{AppDuty, AppState, app_ask, Codec, ask_for, PathState, end_at, path_of, first_unsent, data_ask, is_joined, item_of}
use Rattle.send_book.specs.Steps.{after_call}
use Rattle.world_laws.proofs.Joins.AwakeAfterBegun.{Awake}
use Rattle.world_laws.proofs.Falls.FailedChecks.{subflow_acks_so}
use Rattle.world_laws.proofs.Falls.WhereASideStands.{fell_unjoined}
use Rattle.world_laws.proofs.Keys.ToldAreOwn.{FellBack}
use Rattle.world_laws.proofs.Keys.WhatWakes.{Voice, itself, is_said_by, first_speaks, speaks}
use Rattle.world_laws.proofs.Asks.OfPaths.{IsQuietAsk, IsHeardAsk, IsQuietDuty, quiet_asks, heard_asks}
use Rattle.world_laws.proofs.Rounds.RefusedOverAll.{FallsAsk}
use Rattle.world_laws.proofs.Joins.NoBytesBeforeClear.{HasJoined, still_joined}
use Rattle.byte_pieces.proofs.Ordered.{lt_true}

-- ---- the books

-- the book wasn't given to another path than path 0, or the side joined
abbrev pub OwnerSo : SixBooks → Side → Type 0
OwnerSo six s = (is_for 0 (send_of s six).owner ≡ true) ⊎ HasJoined six s

-- a path that asks for a book alone is path 0, or its side joined
abbrev pub GoesSo : SixBooks → Ask → Type 0
GoesSo six (Ask.Send s (SendCall.GoInfinite path)) = (path ≡ 0) ⊎ HasJoined six s
GoesSo six _ = Unit {0}

-- a call that gives the book to no path
abbrev GivesNone : SendCall → Type 0
GivesNone (SendCall.GoInfinite path) = ⊥
GivesNone _ = Unit {0}

abbrev IsOwned : Sending → Type 0
IsOwned b = is_for 0 b.owner ≡ true

either_owned : (c : Bool) (b d : Sending) → IsOwned b → IsOwned d → IsOwned (if c then b else d)
either_owned = elim [ true ↦ λ b d x y. x | false ↦ λ b d x y. y ]

given_owned : (path : ℕ) (o : Result Span Why) (b : Sending) → IsOwned b → IsOwned (given_by path o b)
given_owned path (Ok span) b h = h
given_owned path (Err why) b h = h

call_owned : (b : Sending) (call : SendCall) → GivesNone call → IsOwned b → IsOwned (after_call b call)
call_owned b (SendCall.Write bytes) none h = either_owned (b.closed || b.aborted) b _ h h
call_owned b SendCall.Close none h = either_owned b.aborted b _ h h
call_owned b (SendCall.Grant path max standby) none h = given_owned path (decision path max standby b) b h
call_owned b (SendCall.AckIn next window) none h = either_owned (is_future next b) b _ h h
call_owned b (SendCall.Return path) none h = h
call_owned b SendCall.GoIdentity none h = refl
call_owned b (SendCall.GoInfinite path) none h = absurd none
call_owned b SendCall.Abort none h = h

infinite_owned : (b : Sending) (path : ℕ) → path ≡ 0 → IsOwned b → IsOwned (after_call b (SendCall.GoInfinite path))
infinite_owned b path same h = either_owned (is_gathered path b) _ b (ap (λ n. n == 0) same) h

-- of the side whose book is asked
own_after : (b : Sending) (J : Type 0) (call : SendCall) → ((path : ℕ) → call ≡ SendCall.GoInfinite path → (path ≡ 0) ⊎ J) → IsOwned b ⊎ J → IsOwned (after_call b call) ⊎ J
own_after b J call goes (inr joined) = inr joined
own_after b J (SendCall.GoInfinite path) goes (inl h) = ⊎_elim (λ same. inl (infinite_owned b path same h)) (λ joined. inr joined) (goes path refl)
own_after b J (SendCall.Write bytes) goes (inl h) = inl (call_owned b (SendCall.Write bytes) tt h)
own_after b J SendCall.Close goes (inl h) = inl (call_owned b SendCall.Close tt h)
own_after b J (SendCall.Grant path max standby) goes (inl h) = inl (call_owned b (SendCall.Grant path max standby) tt h)
own_after b J (SendCall.AckIn next window) goes (inl h) = inl (call_owned b (SendCall.AckIn next window) tt h)
own_after b J (SendCall.Return path) goes (inl h) = inl h
own_after b J SendCall.GoIdentity goes (inl h) = inl refl
own_after b J SendCall.Abort goes (inl h) = inl h

goes_call : (six : SixBooks) (s : Side) (call : SendCall) → GoesSo six (Ask.Send s call) → (path : ℕ) → call ≡ SendCall.GoInfinite path → (path ≡ 0) ⊎ HasJoined six s
goes_call six s call goes path is = subst (λ (x : SendCall). GoesSo six (Ask.Send s x)) is goes

pub ask_owned : (six : SixBooks) (x : Ask) → GoesSo six x → (s : Side) → OwnerSo six s → OwnerSo (after_ask x six) s
ask_owned six (Ask.Send A call) goes A h = own_after six.send_a (HasJoined six A) call (goes_call six A call goes) h
ask_owned six (Ask.Send B call) goes B h = own_after six.send_b (HasJoined six B) call (goes_call six B call goes) h
ask_owned six (Ask.Send A call) goes B h = h
ask_owned six (Ask.Send B call) goes A h = h
ask_owned six (Ask.Control t call) goes s h = control s h
  where
    owner : (t s : Side) → send_of s (after_ask (Ask.Control t call) six) ≡ send_of s six
    owner A A = refl
    owner A B = refl
    owner B A = refl
    owner B B = refl

    control : (s : Side) → OwnerSo six s → OwnerSo (after_ask (Ask.Control t call) six) s
    control s h = ⊎_elim (λ own. inl (ap (λ (b : Sending). is_for 0 b.owner) (owner t s) ∙ own)) (λ joined. inr (still_joined six (Ask.Control t call) s joined)) h
ask_owned six (Ask.Reassembly t call) goes s h = at t s h
  where
    at : (t s : Side) → OwnerSo six s → OwnerSo (after_ask (Ask.Reassembly t call) six) s
    at A A h = h
    at A B h = h
    at B A h = h
    at B B h = h
ask_owned six (Ask.Local step) goes s h = h

-- an application asks for no book alone
pub app_goes : (six : SixBooks) (d : AppDuty) (a : AppState) → GoesSo six (app_ask d a)
app_goes six AppDuty.FastClose a = tt
app_goes six _ a = tt

-- ---- a path

module _ {C : Type 0} (k : Codec C) (six : SixBooks) (p : PathState C) (awake : Awake k (HasJoined six) (FellBack six) p) (numbered : is_joined p.profile ≡ nat_lt 0 (path_of p)) where
  quiet_goes : (ask : Ask) → IsQuietAsk (path_of p) ask → GoesSo six ask
  quiet_goes (Ask.Send s (SendCall.GoInfinite path)) quiet = absurd quiet
  quiet_goes _ quiet = tt

  heard_goes : (s : Side) (ask : Ask) → IsHeardAsk (path_of p) s ask → (path_of p ≡ 0) ⊎ HasJoined six s → GoesSo six ask
  heard_goes s (Ask.Send t (SendCall.GoInfinite path)) heard so =
      ⊎_elim (λ first. inl (heard.1 ∙ first)) (λ joined. inr (subst (HasJoined six) (sym heard.0) joined)) so
  heard_goes s (Ask.Send t call) heard so = tt
  heard_goes s _ heard so = tt

  -- path 0, or a side that said something, and joined
  number_so : (s : Side) → speaks (Voice.Says s) p.agenda ≡ true → (path_of p ≡ 0) ⊎ HasJoined six s
  number_so s said = (elim (path_of p) as (λ n. is_joined p.profile ≡ nat_lt 0 n → (n ≡ 0) ⊎ HasJoined six s)
      [ zero ↦ λ is. inl refl | suc n ↦ λ is. inr (awake.known s (is ∙ lt_true 0 (suc n) (omega arith)) said) ]) numbered

  data_goes : (s : Side) (o : Option Record) → GoesSo six (data_ask k s o p)
  data_goes s None = tt
  data_goes s (Some r) = tt

  duty_goes : (d : Duty) → ((t : Side) → is_said_by (Voice.Says t) d ≡ true → speaks (Voice.Says t) p.agenda ≡ true) → (IsQuietDuty d → GoesSo six (ask_for k d p)) → GoesSo six (ask_for k d p)
  duty_goes (Duty.Step (StepDuty.Data s)) said quiet = data_goes s (first_unsent (end_at s p))
  duty_goes (Duty.Step (StepDuty.Heard s index)) said quiet =
      heard_goes s (ask_for k (Duty.Step (StepDuty.Heard s index)) p) (heard_asks k p s (item_of index (end_at s p))) (number_so s (said s (itself s)))
  duty_goes (Duty.Ask (AskDuty.GoIdentity s)) said quiet = tt
  duty_goes (Duty.Ask (AskDuty.SynHeard s)) said quiet = tt
  duty_goes (Duty.Ask (AskDuty.SynAnswered s)) said quiet = tt
  duty_goes (Duty.Ask (AskDuty.SubflowAck s)) said quiet = subflow_acks_so (GoesSo six) s (end_at s p) tt (λ next. tt)
  duty_goes _ said quiet = quiet tt

  pub path_goes : (d : Duty) (ds : List Duty) → p.agenda ≡ d ∷ ds → GoesSo six (ask_for k d p)
  path_goes d ds is =
      duty_goes d (λ t said. subst (λ xs. speaks (Voice.Says t) xs ≡ true) (sym is) (first_speaks (Voice.Says t) d ds said))
      (λ quiet. quiet_goes (ask_for k d p) (quiet_asks k p d quiet))

  -- where a side falls back it joined nothing
  fell_owned : (s : Side) → FellBack six s → OwnerSo six s → is_for 0 (send_of s six).owner ≡ true
  fell_owned s fell own = ⊎_elim (λ is. is) (λ joined. absurd (both_ways _ (unjoined s fell) joined)) own
    where
      unjoined : (s : Side) → FellBack six s → (control_of s six).fall.joined ≡ false
      unjoined = elim [ A ↦ λ is. fell_unjoined six.control_a.fall is | B ↦ λ is. fell_unjoined six.control_b.fall is ]

  quiet_falls : (ask : Ask) → IsQuietAsk (path_of p) ask → FallsAsk six ask
  quiet_falls (Ask.Send s SendCall.GoIdentity) quiet = absurd quiet
  quiet_falls _ quiet = tt

  heard_falls : (s : Side) (ask : Ask) → IsHeardAsk (path_of p) s ask → FallsAsk six ask
  heard_falls s (Ask.Send t SendCall.GoIdentity) heard = absurd heard
  heard_falls s _ heard = tt

  data_falls : (s : Side) (o : Option Record) → FallsAsk six (data_ask k s o p)
  data_falls s None = tt
  data_falls s (Some r) = tt

  duty_falls : (d : Duty) → ((t : Side) → is_said_by (Voice.Falls t) d ≡ true → speaks (Voice.Falls t) p.agenda ≡ true) → ((t : Side) → OwnerSo six t)
      → (IsQuietDuty d → FallsAsk six (ask_for k d p)) → FallsAsk six (ask_for k d p)
  duty_falls (Duty.Ask (AskDuty.GoIdentity s)) falls own quiet = fell_owned s (awake.falls s (falls s (itself s))).1 (own s)
  duty_falls (Duty.Step (StepDuty.Data s)) falls own quiet = data_falls s (first_unsent (end_at s p))
  duty_falls (Duty.Step (StepDuty.Heard s index)) falls own quiet =
      heard_falls s (ask_for k (Duty.Step (StepDuty.Heard s index)) p) (heard_asks k p s (item_of index (end_at s p)))
  duty_falls (Duty.Ask (AskDuty.SynHeard s)) falls own quiet = tt
  duty_falls (Duty.Ask (AskDuty.SynAnswered s)) falls own quiet = tt
  duty_falls (Duty.Ask (AskDuty.SubflowAck s)) falls own quiet = subflow_acks_so (FallsAsk six) s (end_at s p) tt (λ next. tt)
  duty_falls _ falls own quiet = quiet tt

  pub path_falls : (d : Duty) (ds : List Duty) → p.agenda ≡ d ∷ ds → ((t : Side) → OwnerSo six t) → FallsAsk six (ask_for k d p)
  path_falls d ds is own =
      duty_falls d (λ t falls. subst (λ xs. speaks (Voice.Falls t) xs ≡ true) (sym is) (first_speaks (Voice.Falls t) d ds falls)) own
      (λ quiet. quiet_falls (ask_for k d p) (quiet_asks k p d quiet))
