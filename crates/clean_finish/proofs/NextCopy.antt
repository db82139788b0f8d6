-- What happens next on a path of which no line speaks is the arrival of the copy that stands first, where no timer runs out
-- in the round.
use Rattle.clean_finish.proofs.Words.{◌≡◌, refl, sym, subst, ℕ, ◌<◌, ◌≤◌, nat_lt, Bool, true, false, if◌then◌else◌, Option, None, List, [], ◌∷◌, arith, Some}
use Rattle.clean_finish.proofs.Words.{nat_le, IfSome, ltb-true, same_Some, option_and_then, Side, A, B, Flight, due_of, next_due, Carried, PathState, tick_of}
use Rattle.clean_finish.proofs.Words.{earlier, before, next_join, next_line, next_copy, next_event, next_fire}
use Rattle.path_core.specs.declared.events.Event.{Event}
use Rattle.path_core.specs.declared.events.Event.TheVariants.{Arrives}

-- the copy that arrives, and those behind it
pub record IsCopy (p : PathState Carried) (event : Event) : Type 0 where
  pub first : Flight Carried
  pub others : List (Flight Carried)
  pub under_way : p.link.under_way ≡ first ∷ others
  pub is : event ≡ Arrives (due_of first)
  pub early : first.tick < p.until

-- the event is no later than that
within : (until : ℕ) (x event : Event) → before until x ≡ Some event → (x ≡ event) × (tick_of x < until)
within until x event is = by (nat_lt (tick_of x) until) refl is
  where
    by : (b : Bool) → nat_lt (tick_of x) until ≡ b → (if b then Some x else None) ≡ Some event → (x ≡ event) × (tick_of x < until)
    by true less e = (same_Some x event e, ltb-true (tick_of x) until less)
    by false less e = cc

not_within : (until : ℕ) (x event : Event) → until ≤ tick_of x → before until x ≡ Some event → ⊥
not_within until x event late is = let early = (within until x event is).1 in absurd (omega (arith, late, early))

fires_late : (until : ℕ) (s : Side) (timer : Option ℕ) → IfSome timer (λ x. until ≤ x) → IfSome (next_fire s timer) (λ x. until ≤ tick_of x)
fires_late until s None late = tt
fires_late until s (Some tick) late = late

both_late : (until : ℕ) (x y : Option Event) → IfSome x (λ z. until ≤ tick_of z) → IfSome y (λ z. until ≤ tick_of z)
    → IfSome (earlier x y) (λ z. until ≤ tick_of z)
both_late until None y late late_y = late_y
both_late until (Some x) None late late_y = late
both_late until (Some x) (Some y) late late_y = by (nat_le (tick_of x) (tick_of y))
  where
    by : (b : Bool) → IfSome (if b then Some x else Some y) (λ z. until ≤ tick_of z)
    by true = late
    by false = late_y

module _ (p : PathState Carried) (event : Event) (joined : p.joined_at ≡ None) (lines : p.lines ≡ [])
    (late_a : IfSome p.a.tcp.timing.timer (λ x. p.until ≤ x)) (late_b : IfSome p.b.tcp.timing.timer (λ x. p.until ≤ x))
  where
    abbrev timers : Option Event
    timers = earlier (next_fire A p.a.tcp.timing.timer) (next_fire B p.b.tcp.timing.timer)

    late : IfSome timers (λ x. p.until ≤ tick_of x)
    late = both_late p.until (next_fire A p.a.tcp.timing.timer) (next_fire B p.b.tcp.timing.timer)
        (fires_late p.until A p.a.tcp.timing.timer late_a) (fires_late p.until B p.b.tcp.timing.timer late_b)

    no_timer : (o : Option Event) → IfSome o (λ x. p.until ≤ tick_of x) → option_and_then (before p.until) o ≡ Some event → ⊥
    no_timer None low is = cc
    no_timer (Some x) low is = not_within p.until x event low is

    copy_first : (f : Flight Carried) (o : Option Event) → IfSome o (λ x. p.until ≤ tick_of x)
        → option_and_then (before p.until) (earlier (Some (Arrives (due_of f))) o) ≡ Some event
        → (Arrives (due_of f) ≡ event) × (f.tick < p.until)
    copy_first f None low is = within p.until (Arrives (due_of f)) event is
    copy_first f (Some y) low is = by (nat_le f.tick (tick_of y)) is
      where
        by : (b : Bool) → option_and_then (before p.until) (if b then Some (Arrives (due_of f)) else Some y) ≡ Some event
            → (Arrives (due_of f) ≡ event) × (f.tick < p.until)
        by true e = within p.until (Arrives (due_of f)) event e
        by false e = absurd (not_within p.until y event low e)

    by_flights : (flights : List (Flight Carried)) → p.link.under_way ≡ flights
        → option_and_then (before p.until) (earlier (next_copy (next_due flights)) timers) ≡ Some event → IsCopy p event
    by_flights [] under_way is = absurd (no_timer timers late is)
    by_flights (f ∷ others) under_way is =
        let found = copy_first f timers late is in
        record { first = f; others = others; under_way = under_way; is = sym found.0; early = found.1 }

    pub next_is_copy : next_event p ≡ Some event → IsCopy p event
    next_is_copy is = by_flights p.link.under_way refl
        (subst (λ (o : Option ℕ). option_and_then (before p.until)
        (earlier (next_join p.a.tcp.state o) (earlier (next_copy (next_due p.link.under_way)) timers)) ≡ Some event) joined
        (subst (λ (ls : List _). option_and_then (before p.until) (earlier (next_join p.a.tcp.state p.joined_at)
        (earlier (next_line ls) (earlier (next_copy (next_due p.link.under_way)) timers))) ≡ Some event) lines is))
