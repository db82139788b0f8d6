-- What lowers the numbers of a turn, and what doesn't raise the first two.
use Rattle.path_core.proofs.Words.{◌≡◌, refl, ◌∙◌, ℕ, ◌<◌, ◌≤◌, nat_le, true, false, if◌then◌else◌, List, [], ◌∷◌, length, arith, cond, leb-true, Side, A, B}
use Rattle.path_core.proofs.Words.{after_send, arrivals, with_flights, comes_before, with_flight, next_number, Flight, PlainSegment, Duty, weights, Then, Less, PathState}
use Rattle.path_core.proofs.Words.{end_at, with_agenda, goes_on, PathEnd, Codec, TakesTime, ticks_left, one_if_due, due_copies, due_timer, due_by_now}
use Rattle.path_core.proofs.Words.{bytes_left, sendings_left, sent_on, made}
use Rattle.link_model.specs.declared.fate.Fate.{Fate}
use Rattle.link_model.specs.declared.fate.Fate.TheVariants.{OnTime, Lost, Full, Late, Twice}
use Rattle.link_model.specs.State.{LinkState}
use Rattle.link_model.specs.Steps.{first_arrival}

-- ---- copies

pub late_isn't : (clock tick : ℕ) → clock < tick → one_if_due clock tick ≡ 0
late_isn't clock tick later = (elim (nat_le tick clock) as (λ b. nat_le tick clock ≡ b → ◌≡◌ {A = ℕ} (if b then 1 else 0) 0)
    [ true ↦ λ is. absurd (omega (arith, leb-true _ _ is, later)) | false ↦ λ is. refl ]) refl

module _ {C : Type 0} where
  one_later : (clock : ℕ) (f : Flight C) (flights : List (Flight C)) → clock < f.tick → due_copies clock (with_flight f flights) ≡ due_copies clock flights
  one_later clock f [] later = omega (arith, late_isn't clock f.tick later)
  one_later clock f (g ∷ flights) later =
      (elim (comes_before f g) as (λ b. due_copies clock (with_flight f flights) ≡ due_copies clock flights → due_copies clock (cond b (f ∷ g ∷ flights) (g ∷ with_flight f flights)) ≡ due_copies clock (g ∷ flights)) [
        | true ↦ λ more. omega (arith, late_isn't clock f.tick later)
        | false ↦ λ more. omega (arith, more)
      ]) (one_later clock f flights later)

  some_later : (clock : ℕ) (to : Side) (number : ℕ) (carried : C) (fate : Fate) (tick : ℕ) (flights : List (Flight C)) → clock < tick
      → due_copies clock (with_flights to number carried (arrivals fate tick) flights) ≡ due_copies clock flights
  some_later clock to number carried OnTime tick flights later = one_later clock _ flights later
  some_later clock to number carried Lost tick flights later = refl
  some_later clock to number carried Full tick flights later = refl
  some_later clock to number carried (Late ticks) tick flights later = one_later clock _ flights (omega (arith, later))
  some_later clock to number carried (Twice ticks) tick flights later =
      one_later clock _ _ (omega (arith, later)) ∙ one_later clock _ flights later

  sent_isn't_due : (strip alter : Side → C → C) (from : Side) (carried : C) (length now : ℕ) (link : LinkState C) → 1 ≤ link.delay
      → due_copies now (after_send strip alter from carried length now link).under_way ≡ due_copies now link.under_way
  sent_isn't_due strip alter A carried length now link some = some_later now B _ _ _ (first_arrival A (next_number A link) length now link) link.under_way (omega (arith, some))
  sent_isn't_due strip alter B carried length now link some = some_later now A _ _ _ (first_arrival B (next_number B link) length now link) link.under_way (omega (arith, some))

  sent_keeps_delay : (strip alter : Side → C → C) (from : Side) (carried : C) (length now : ℕ) (link : LinkState C)
      → (after_send strip alter from carried length now link).delay ≡ link.delay
  sent_keeps_delay strip alter A carried length now link = refl
  sent_keeps_delay strip alter B carried length now link = refl

-- ---- ends

-- no timer that is due was set, and the timeout still takes time
pub record Rests (clock : ℕ) (e f : PathEnd) : Type 0 where
  pub due : due_timer clock f.tcp.timing.timer ≤ due_timer clock e.tcp.timing.timer
  pub timeout : 1 ≤ e.tcp.timing.rtt.rto → 1 ≤ f.tcp.timing.rtt.rto

pub same_rests : (clock : ℕ) (e f : PathEnd) → f.tcp.timing ≡ e.tcp.timing → Rests clock e f
same_rests clock e f same = record { due = rw same (omega arith); timeout = λ some. rw same some }

-- ---- paths

-- the first two numbers don't rise
pub record Calm {C : Type 0} (p q : PathState C) : Type 0 where
  pub ticks : ticks_left q ≤ ticks_left p
  pub due : due_by_now q ≤ due_by_now p
  pub time : TakesTime q

module _ {C : Type 0} where
  pub goes_calm : (s : Side) (e : PathEnd) (ds : List Duty) (p : PathState C) → TakesTime p → Rests p.clock (end_at s p) e → Calm p (goes_on s e ds p)
  goes_calm A e ds p t rests = record {
    ticks = omega arith;
    due = omega (arith, rests.due);
    time = record { delay = t.delay; timer_a = rests.timeout t.timer_a; timer_b = t.timer_b };
  }
  goes_calm B e ds p t rests = record {
    ticks = omega arith;
    due = omega (arith, rests.due);
    time = record { delay = t.delay; timer_a = t.timer_a; timer_b = rests.timeout t.timer_b };
  }

  pub sent_calm : (k : Codec C) (s : Side) (segment : PlainSegment) (e : PathEnd) (ds : List Duty) (p : PathState C) → TakesTime p
      → Rests p.clock (end_at s p) e → Calm p (sent_on k s segment e ds p)
  sent_calm k A segment e ds p t rests = record {
    ticks = omega arith;
    due = omega (arith, rests.due, sent_isn't_due (k.strips p.profile.spelling) (k.alters p.profile.spelling) A (k.makes p.profile.spelling A segment) (length (made p.profile.spelling A segment)) p.clock p.link t.delay);
    time = record { delay = t.delay; timer_a = rests.timeout t.timer_a; timer_b = t.timer_b };
  }
  sent_calm k B segment e ds p t rests = record {
    ticks = omega arith;
    due = omega (arith, rests.due, sent_isn't_due (k.strips p.profile.spelling) (k.alters p.profile.spelling) B (k.makes p.profile.spelling B segment) (length (made p.profile.spelling B segment)) p.clock p.link t.delay);
    time = record { delay = t.delay; timer_a = t.timer_a; timer_b = rests.timeout t.timer_b };
  }

  pub agenda_calm : (ds : List Duty) (p : PathState C) → TakesTime p → Calm p (with_agenda ds p)
  agenda_calm ds p t = record { ticks = omega arith; due = omega arith; time = record { delay = t.delay; timer_a = t.timer_a; timer_b = t.timer_b } }

  -- ---- lower

  abbrev pub Rest : PathState C → PathState C → Type 0
  Rest = Then (λ p. weights p.agenda) (Then bytes_left (Less sendings_left))

  abbrev pub Lower : PathState C → PathState C → Type 0
  Lower = Then ticks_left (Then due_by_now Rest)

  -- lower, and time still passes
  pub record Lowers (p q : PathState C) : Type 0 where
    pub lower : Lower q p
    pub time : TakesTime q

  pub lowers : (p q : PathState C) → Calm p q → Rest q p → Lowers p q
  lowers p q calm rest = record { lower = Then.Stays calm.ticks (Then.Stays calm.due rest); time = calm.time }
