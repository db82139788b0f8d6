-- A path lives by a control book only where it was told so, and no longer once it was told dead.
use Rattle.std.proofs.Common.{◌≡◌, refl, sym, subst, ap, ◌∙◌, ◌⊎◌, inl, inr, ⊎_elim, ℕ, zero, suc, Bool, true, false, true≢false, List, [], ◌∷◌, replicate}
use Rattle.std.specs.Prelude.{slice_set}
use Rattle.sides.specs.declared.side.Side.{Side}
use Rattle.sides.specs.declared.side.Side.TheVariants.{A, B}
use Rattle.control_book.specs.declared.call.ControlCall.{ControlCall}
use Rattle.control_book.specs.declared.call.ControlCall.TheVariants as calls
use Rattle.control_book.specs.declared.registry.PathState.{PathState}
use Rattle.control_book.specs.Control.{Control}
use Rattle.control_book.specs.Registry.{idle, is_living, lives, opening_paths, state_of}
use Rattle.control_book.specs.Replies.{notice_on}
use Rattle.control_book.specs.Steps.{after}
use Rattle.control_book.proofs.Kept as kept
use Rattle.actor_desk.specs.Desk.{SixBooks, after_ask, control_of}
use Rattle.actor_desk.specs.declared.ask.Ask.{Ask}
use Rattle.actor_desk.specs.declared.ask.Ask.TheVariants as asks

-- ---- a registry

-- a path that lives once one is set lived before, or is the one that is set
set_lives : (paths : List PathState) (at : ℕ) (state : PathState) (number : ℕ) → lives (slice_set paths at state) number ≡ true → (lives paths number ≡ true) ⊎ ((at ≡ number) × (is_living state.phase ≡ true))
set_lives [] at state number is = inl is
set_lives (first ∷ paths) zero state zero is = inr (refl, is)
set_lives (first ∷ paths) zero state (suc number) is = inl is
set_lives (first ∷ paths) (suc at) state zero is = inl is
set_lives (first ∷ paths) (suc at) state (suc number) is = ⊎_elim (λ was. inl was) (λ here. inr (ap suc here.0, here.1)) (set_lives paths at state number is)

-- one that is set not to live doesn't
set_dead : (paths : List PathState) (at : ℕ) (state : PathState) → is_living state.phase ≡ false → lives (slice_set paths at state) at ≡ false
set_dead [] zero state dead = refl
set_dead [] (suc at) state dead = refl
set_dead (first ∷ paths) zero state dead = dead
set_dead (first ∷ paths) (suc at) state dead = set_dead paths at state dead

-- one whose phase stays lived before
same_lives : (paths : List PathState) (at : ℕ) (state : PathState) (number : ℕ) → is_living state.phase ≡ is_living (state_of paths at).phase → lives (slice_set paths at state) number ≡ true → lives paths number ≡ true
same_lives paths at state number same is = ⊎_elim (λ was. was) (λ here. ap (λ n. lives paths n) (sym here.0) ∙ (sym same ∙ here.1)) (set_lives paths at state number is)

-- ---- a book

-- the call tells that this path lives
pub record SaysLive (number : ℕ) (call : ControlCall) : Type 0 where
  pub backup : Bool
  pub is : call ≡ calls.Live number backup

abbrev Lived : ℕ → Control → ControlCall → Control → Type 0
Lived number c call d = lives d.paths number ≡ true → (lives c.paths number ≡ true) ⊎ SaysLive number call

same_lived : (number : ℕ) (c : Control) (call : ControlCall) → Lived number c call c
same_lived number c call is = inl is

call_lived : (number : ℕ) (c : Control) (call : ControlCall) → Lived number c call (after c call)
call_lived number c (calls.Look at) = kept.told (Lived number c (calls.Look at)) (notice_on c at) at c (λ id is. inl is) (same_lived number c (calls.Look at))
call_lived number c (calls.Keys own peer) = kept.either (Lived number c (calls.Keys own peer)) _ _ c (λ is. inl is) (λ is. inl is)
call_lived number c (calls.JoinBegin at) = kept.either (Lived number c (calls.JoinBegin at)) _ _ c (λ is. ⊎_elim (λ was. inl was) (λ here. absurd (true≢false (sym here.1))) (set_lives c.paths at _ number is)) (λ is. inl is)
call_lived number c (calls.JoinHeard at token) = kept.either (Lived number c (calls.JoinHeard at token)) _ _ c (λ is. inl is) (λ is. inl is)
call_lived number c (calls.Live at backup) = λ is. ⊎_elim (λ was. inl was) (λ here. inr (record { backup = backup; is = ap (λ n. calls.Live n backup) here.0 })) (set_lives c.paths at _ number is)
call_lived number c (calls.Dead at) = λ is. ⊎_elim (λ was. inl was) (λ here. absurd (true≢false (sym here.1))) (set_lives c.paths at _ number is)
call_lived number c (calls.Rate at window rtt) = λ is. inl (same_lives c.paths at _ number refl is)
call_lived number c (calls.Withdraw id) = kept.either (Lived number c (calls.Withdraw id)) _ _ c (λ is. inl (same_lives c.paths id _ number refl is)) (λ is. inl is)
call_lived number c (calls.Echoed id) = kept.either (Lived number c (calls.Echoed id)) _ _ c (λ is. inl is) (λ is. inl is)
call_lived number c (calls.Removed id) = kept.either (Lived number c (calls.Removed id)) _ _ c (λ is. inl (same_lives c.paths id _ number refl is)) (λ is. inl is)
call_lived number c (calls.FastHeard key) = kept.either (Lived number c (calls.FastHeard key)) _ _ c (λ is. inl is) (λ is. inl is)
call_lived number c call = λ is. inl is

dead_lives : (number : ℕ) (c : Control) → lives (after c (calls.Dead number)).paths number ≡ false
dead_lives number c = set_dead c.paths number _ refl

-- ---- the six books

-- the ask tells this side that the path lives
pub record TellsLive (s : Side) (number : ℕ) (x : Ask) : Type 0 where
  pub backup : Bool
  pub is : x ≡ asks.Control s (calls.Live number backup)

tells_live : (s : Side) (number : ℕ) (call : ControlCall) → SaysLive number call → TellsLive s number (asks.Control s call)
tells_live s number call h = record { backup = h.backup; is = ap (asks.Control s) h.is }

-- a path that lives after an ask lived before it, or this is told
pub book_lived : (s : Side) (number : ℕ) (x : Ask) (six : SixBooks) → lives (control_of s (after_ask x six)).paths number ≡ true → (lives (control_of s six).paths number ≡ true) ⊎ TellsLive s number x
book_lived A number (asks.Control A call) six is = ⊎_elim (λ was. inl was) (λ h. inr (tells_live A number call h)) (call_lived number six.control_a call is)
book_lived B number (asks.Control B call) six is = ⊎_elim (λ was. inl was) (λ h. inr (tells_live B number call h)) (call_lived number six.control_b call is)
book_lived A number (asks.Control B call) six is = inl is
book_lived B number (asks.Control A call) six is = inl is
book_lived A number (asks.Send A call) six is = inl is
book_lived A number (asks.Send B call) six is = inl is
book_lived B number (asks.Send A call) six is = inl is
book_lived B number (asks.Send B call) six is = inl is
book_lived A number (asks.Reassembly A call) six is = inl is
book_lived A number (asks.Reassembly B call) six is = inl is
book_lived B number (asks.Reassembly A call) six is = inl is
book_lived B number (asks.Reassembly B call) six is = inl is
book_lived A number (asks.Local step) six is = inl is
book_lived B number (asks.Local step) six is = inl is

-- none lives that is told dead
pub told_dead : (s : Side) (number : ℕ) (x : Ask) (six : SixBooks) → x ≡ asks.Control s (calls.Dead number) → lives (control_of s (after_ask x six)).paths number ≡ false
told_dead A number x six is = subst (λ (y : Ask). lives (control_of A (after_ask y six)).paths number ≡ false) (sym is) (dead_lives number six.control_a)
told_dead B number x six is = subst (λ (y : Ask). lives (control_of B (after_ask y six)).paths number ≡ false) (sym is) (dead_lives number six.control_b)

-- as a connection opens no path lives
idles_live : (count n : ℕ) → lives (replicate count idle) n ≡ false
idles_live zero zero = refl
idles_live zero (suc n) = refl
idles_live (suc count) zero = refl
idles_live (suc count) (suc n) = idles_live count n

pub none_lives : (number : ℕ) → lives opening_paths number ≡ false
unfolding opening_paths
none_lives zero = refl
none_lives (suc number) = idles_live 15 number
