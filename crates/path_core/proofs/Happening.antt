-- Events: ticks pass, or one event less is due.
use Rattle.path_core.proofs.Words.{◌≡◌, ◌⊎◌, inl, inr, refl, subst, ℕ, ◌+◌, ◌<◌, ◌≤◌, nat_le, nat_lt, Bool, true, false, if◌then◌else◌, Option, Some, None}
use Rattle.path_core.proofs.Words.{List, [], ◌∷◌, length, arith, is_some, ⊎_elim, position, max, option_and_then, cases_lt, ltb-true, leb-false, eq-eqb, lt-ltb}
use Rattle.path_core.proofs.Words.{Side, A, B, EndPhase, is_dead, after_arrival, is_due, next_due, arriving, after_delivery, without, due_of, Flight}
use Rattle.path_core.proofs.Words.{HeardSegment, emission, announces, withdraws, leaves, Reply, tail_of, Then, Less, copy_of, judged_in, after_judged}
use Rattle.path_core.proofs.Words.{template_of, told_at, copy_heard, with_payload, copy_taken, never_joined, is_never, keys_begun, opened_by, is_joined}
use Rattle.path_core.proofs.Words.{joins_at_tick, with_priority, options_heard, hint_of, items_of, owes_by, at_tick, PathState, end_at, goes_on, taken_as}
use Rattle.path_core.proofs.Words.{PathEnd, died, Codec, TakesTime, tick_of, next_join, next_line, next_copy, earlier, earliest, before, next_event, after_line}
use Rattle.path_core.proofs.Words.{line_taken, happens, happens_if, CanHappen, died_unless_dead, ticks_left, one_if_due, due_copies, due_timer, due_by_now}
use Rattle.path_core.proofs.Words.{due_lines}
use Rattle.link_script.specs.Places.{same_side}
use Rattle.subflow_tcp.specs.States.{is_waiting}
use Rattle.path_core.specs.Arrival.{heard_in}
use Rattle.path_core.proofs.Joined.{never_rests, opened_rests}
use Rattle.path_core.specs.Timer.{next_fire, timer_fired}
use Rattle.path_core.specs.declared.events.Event.{Event}
use Rattle.path_store.specs.declared.lines.LineLeft.{LineLeft}
use Rattle.path_store.specs.declared.lines.LineAction.{LineAction}
use Rattle.path_core.proofs.Ranking.{Rests, same_rests, Calm, goes_calm, agenda_calm, Lower, Lowers}
use Rattle.path_core.proofs.Resting.{to_rests, held_settles, owing_settles, fired_rests}

-- ---- lists

due_now : (clock tick : ℕ) → tick ≤ clock → one_if_due clock tick ≡ 1
due_now clock tick now = (elim (nat_le tick clock) as (λ b. nat_le tick clock ≡ b → ◌≡◌ {A = ℕ} (if b then 1 else 0) 1)
    [ true ↦ λ is. refl | false ↦ λ is. absurd (omega (arith, leb-false _ _ is, now)) ]) refl

same_itself : (s : Side) → same_side s s ≡ true
same_itself = elim [ A ↦ refl | B ↦ refl ]

-- ---- a death

dead_rests : (clock : ℕ) (e : PathEnd) → Rests clock e (died_unless_dead e)
dead_rests clock e = elim (is_dead e.tcp.state) as (λ b. Rests clock e (if b then e else died e))
    [ true ↦ same_rests clock e e refl | false ↦ record { due = omega arith; timeout = λ some. some } ]

-- ---- the earliest event

one_of_both : (x y : Option Event) (event : Event) → earlier x y ≡ Some event → (x ≡ Some event) ⊎ (y ≡ Some event)
one_of_both None y event e = inr e
one_of_both (Some x) None event e = inl e
one_of_both (Some x) (Some y) event e = (elim (nat_le (tick_of x) (tick_of y)) as (λ b. (if b then Some x else Some y) ≡ Some event → (Some x ≡ Some event) ⊎ (Some y ≡ Some event))
    [ true ↦ λ e. inl e | false ↦ λ e. inr e ]) e

soon_enough : (until : ℕ) (x : Option Event) (event : Event) → option_and_then (before until) x ≡ Some event → (x ≡ Some event) × (tick_of event < until)
soon_enough until None event e = cc
soon_enough until (Some x) event e =
    (elim (nat_lt (tick_of x) until) as (λ b. nat_lt (tick_of x) until ≡ b → (if b then Some x else None) ≡ Some event → (Some x ≡ Some event) × (tick_of event < until))
    [ true ↦ λ is e. let same : x ≡ event = cc in (e, subst (λ y. tick_of y < until) same (ltb-true _ _ is)) | false ↦ λ is e. cc ]) refl e

module _ {C : Type 0} where
  head_is_due : (f : Flight C) → is_due (due_of f) f ≡ true
  head_is_due f = rw (eq-eqb f.tick f.tick refl, same_itself f.to, eq-eqb f.number f.number refl) refl

  without_head : (p : Flight C → Bool) (f : Flight C) (flights : List (Flight C)) → p f ≡ true → without (position p (f ∷ flights)) (f ∷ flights) ≡ flights
  without_head p f flights is =
      let below : nat_lt 0 (length (f ∷ flights)) ≡ true = lt-ltb 0 (length (f ∷ flights)) (omega arith) in rw (is, below) refl

  -- ---- ticks pass, or one event less is due

  pub record Passes (p q : PathState C) : Type 0 where
    pub fewer : Then ticks_left (Less due_by_now) q p
    pub time : TakesTime q

  passes_by : (p q : PathState C) (tick : ℕ) → tick < p.until → q.until ≡ p.until → q.clock ≡ max p.clock tick
      → (q.clock ≡ p.clock → tick ≤ p.clock → due_by_now q < due_by_now p) → TakesTime q → Passes p q
  passes_by p q tick soon until clock fewer time = ⊎_elim
      (λ later. record { fewer = Then.Falls (omega (arith, later, soon, until, clock)); time = time })
      (λ now. record { fewer = Then.Stays (omega (arith, now, until, clock)) (fewer (omega (arith, now, clock)) now); time = time })
      (cases_lt p.clock tick)

  -- what follows raises none of the two
  pub passes_on : (p m q : PathState C) → Passes p m → Calm m q → Lowers p q
  passes_on p m q passes calm = record { lower = by passes.fewer; time = calm.time }
    where
      by : Then ticks_left (Less due_by_now) m p → Lower q p
      by (Then.Falls less) = Then.Falls (omega (arith, less, calm.ticks))
      by (Then.Stays most less) = Then.Stays (omega (arith, most, calm.ticks)) (Then.Falls (omega (arith, less, calm.due)))

  -- ---- the join

  join_passes : (tick : ℕ) (p : PathState C) → TakesTime p → p.joined_at ≡ Some tick → tick < p.until
      → Passes p (record (at_tick tick p) { joined_at = None })
  join_passes tick p t is soon =
      let was : due_timer p.clock p.joined_at ≡ one_if_due p.clock tick = rw is refl in
      passes_by p (record (at_tick tick p) { joined_at = None }) tick soon refl refl
      (λ same now. rw same (omega (arith, was, due_now p.clock tick now)))
      (record { delay = t.delay; timer_a = t.timer_a; timer_b = t.timer_b })

  join_calm : (r : Reply) (p : PathState C) → TakesTime p → Calm p (joins_at_tick r p)
  join_calm r p t = elim (is_never r) as (λ b. Calm p (if b then goes_on A (never_joined r p.a) (leaves A) after else goes_on A (opened_by (keys_begun r) p.a) (emission A) after)) [
    | true ↦ both _ (goes_calm A (never_joined r p.a) (leaves A) after first.time (never_rests p.clock r p.a))
    | false ↦ both _ (goes_calm A (opened_by (keys_begun r) p.a) (emission A) after first.time (opened_rests p.clock (keys_begun r) p.a))
  ]
    where
      after : PathState C
      after = record p { joined_at = None }

      first : Calm p after
      first = record { ticks = omega arith; due = omega arith; time = record { delay = t.delay; timer_a = t.timer_a; timer_b = t.timer_b } }

      both : (q : PathState C) → Calm after q → Calm p q
      both q next = record { ticks = omega (arith, first.ticks, next.ticks); due = omega (arith, first.due, next.due); time = next.time }

  join_lowers : (r : Reply) (tick : ℕ) (p : PathState C) → TakesTime p → p.joined_at ≡ Some tick → tick < p.until
      → Lowers p (joins_at_tick r (at_tick tick p))
  join_lowers r tick p t is soon =
      let first = join_passes tick p t is soon in
      passes_on p (record (at_tick tick p) { joined_at = None }) (joins_at_tick r (at_tick tick p)) first
      (join_calm r (record (at_tick tick p) { joined_at = None }) first.time)

  -- ---- a line

  line_passes : (line : LineLeft) (lines : List LineLeft) (p : PathState C) → TakesTime p → p.lines ≡ line ∷ lines → line.tick < p.until
      → Passes p (record (at_tick line.tick p) { lines = tail_of p.lines })
  line_passes line lines p t is soon =
      passes_by p (record (at_tick line.tick p) { lines = tail_of p.lines }) line.tick soon refl refl
      (λ same now. rw same (omega (arith, one_less, due_now p.clock line.tick now)))
      (record { delay = t.delay; timer_a = t.timer_a; timer_b = t.timer_b })
    where
      one_less : due_lines p.clock p.lines ≡ one_if_due p.clock line.tick + due_lines p.clock (tail_of p.lines)
      one_less = rw is refl

  line_calm : (action : LineAction) (p : PathState C) → TakesTime p → Calm p (after_line action p)
  line_calm LineAction.Die p t =
      let a = dead_rests p.clock p.a in let b = dead_rests p.clock p.b in
      record { ticks = omega arith; due = omega (arith, a.due, b.due); time = record { delay = t.delay; timer_a = a.timeout t.timer_a; timer_b = b.timeout t.timer_b } }
  line_calm (LineAction.Prio s backup) p t =
      goes_calm s (with_priority backup (end_at s p)) (emission s) p t (same_rests p.clock (end_at s p) (with_priority backup (end_at s p)) refl)
  line_calm (LineAction.Announce s id) p t = agenda_calm (announces s id) p t
  line_calm (LineAction.Withdraw s id) p t = agenda_calm (withdraws s id) p t

  line_lowers : (line : LineLeft) (lines : List LineLeft) (p : PathState C) → TakesTime p → p.lines ≡ line ∷ lines → line.tick < p.until
      → Lowers p (line_taken line p)
  line_lowers line lines p t is soon =
      let first = line_passes line lines p t is soon in
      passes_on p (record (at_tick line.tick p) { lines = tail_of p.lines }) (line_taken line p) first
      (line_calm line.action (record (at_tick line.tick p) { lines = tail_of p.lines }) first.time)

  -- ---- a copy

  copy_passes : (f : Flight C) (flights : List (Flight C)) (p : PathState C) → TakesTime p → p.link.under_way ≡ f ∷ flights → f.tick < p.until
      → Passes p (record (at_tick f.tick p) { link = after_delivery (due_of f) p.link })
  copy_passes f flights p t is soon =
      passes_by p (record (at_tick f.tick p) { link = after_delivery (due_of f) p.link }) f.tick soon refl refl
      (λ same now. rw same (omega (arith, one_less, due_now p.clock f.tick now)))
      (record { delay = t.delay; timer_a = t.timer_a; timer_b = t.timer_b })
    where
      one_less : due_copies p.clock p.link.under_way
          ≡ one_if_due p.clock f.tick + due_copies p.clock (without (position (is_due (due_of f)) p.link.under_way) p.link.under_way)
      one_less = rw (is, without_head (is_due (due_of f)) f flights (head_is_due f)) refl

  told_calm : (s : Side) (h : HeardSegment) (p : PathState C) → TakesTime p → Calm p (told_at p.clock s h p)
  told_calm s h p t =
      let e = end_at s p in let joined = is_joined p.profile in let items = items_of joined s h in let verdict = judged_in joined s h e in
      let meaning = taken_as verdict in
      goes_calm s (after_judged p.profile s p.clock h verdict e) (template_of joined s items verdict) p t
      (to_rests p.clock e (after_judged p.profile s p.clock h verdict e)
      (owing_settles p.clock (owes_by meaning items) e.tcp.timing (after_arrival meaning (hint_of items) p.clock (copy_of h) (with_payload meaning h.payload e.tcp))
      (held_settles p.clock meaning h.payload (hint_of items) p.clock (copy_of h) e.tcp)))

  copy_calm : (s : Side) (heard : Option HeardSegment) (p : PathState C) → TakesTime p → Calm p (copy_heard s heard p)
  copy_calm s None p t = agenda_calm (emission s) p t
  copy_calm s (Some h) p t = told_calm s (options_heard (end_at s p) h) p t

  copy_lowers : (k : Codec C) (f : Flight C) (flights : List (Flight C)) (p : PathState C) → TakesTime p → p.link.under_way ≡ f ∷ flights → f.tick < p.until
      → Lowers p (copy_taken k (due_of f) p)
  copy_lowers k f flights p t is soon =
      let first = copy_passes f flights p t is soon in
      passes_on p (record (at_tick f.tick p) { link = after_delivery (due_of f) p.link }) (copy_taken k (due_of f) p) first
      (copy_calm f.to (heard_in k f.to (arriving (due_of f) p.link) p) (record (at_tick f.tick p) { link = after_delivery (due_of f) p.link }) first.time)

  -- ---- a timer

  fire_passes : (s : Side) (tick : ℕ) (p : PathState C) → TakesTime p → (end_at s p).tcp.timing.timer ≡ Some tick → tick < p.until
      → Passes p (timer_fired s (at_tick tick p))
  fire_passes A tick p t is soon =
      let was : due_timer p.clock p.a.tcp.timing.timer ≡ one_if_due p.clock tick = rw is refl in
      passes_by p (timer_fired A (at_tick tick p)) tick soon refl refl
      (λ same now. rw same (omega (arith, (fired_rests p.clock p.a.tcp t.timer_a).0, was, due_now p.clock tick now)))
      (record { delay = t.delay; timer_a = (fired_rests (max p.clock tick) p.a.tcp t.timer_a).1; timer_b = t.timer_b })
  fire_passes B tick p t is soon =
      let was : due_timer p.clock p.b.tcp.timing.timer ≡ one_if_due p.clock tick = rw is refl in
      passes_by p (timer_fired B (at_tick tick p)) tick soon refl refl
      (λ same now. rw same (omega (arith, (fired_rests p.clock p.b.tcp t.timer_b).0, was, due_now p.clock tick now)))
      (record { delay = t.delay; timer_a = t.timer_a; timer_b = (fired_rests (max p.clock tick) p.b.tcp t.timer_b).1 })

  fire_lowers : (s : Side) (tick : ℕ) (p : PathState C) → TakesTime p → (end_at s p).tcp.timing.timer ≡ Some tick → tick < p.until
      → Lowers p (timer_fired s (at_tick tick p))
  fire_lowers s tick p t is soon =
      let first = fire_passes s tick p t is soon in
      passes_on p (timer_fired s (at_tick tick p)) (timer_fired s (at_tick tick p)) first
      (record { ticks = omega arith; due = omega arith; time = first.time })

  -- ---- the earliest

  by_join : (k : Codec C) (r : Reply) (p : PathState C) (state : EndPhase) (joined_at : Option ℕ) (event : Event) → TakesTime p → p.joined_at ≡ joined_at
      → next_join state joined_at ≡ Some event → tick_of event < p.until → Lowers p (happens k event r p)
  by_join k r p state None event t is e soon = cc
  by_join k r p state (Some tick) event t is e soon = (elim (is_waiting state) as (λ b. (if b then Some (Event.Joins tick) else None) ≡ Some event → Lowers p (happens k event r p))
      [ true ↦ λ e. let same : Event.Joins tick ≡ event = cc in subst (λ x. tick_of x < p.until → Lowers p (happens k x r p)) same (λ soon. join_lowers r tick p t is soon) soon | false ↦ λ e. cc ]) e

  by_line : (k : Codec C) (r : Reply) (p : PathState C) (lines : List LineLeft) (event : Event) → TakesTime p → p.lines ≡ lines → next_line lines ≡ Some event
      → tick_of event < p.until → Lowers p (happens k event r p)
  by_line k r p [] event t is e soon = cc
  by_line k r p (line ∷ lines) event t is e soon =
      let same : Event.Takes line ≡ event = cc in
      subst (λ x. tick_of x < p.until → Lowers p (happens k x r p)) same (λ soon. line_lowers line lines p t is soon) soon

  by_copy : (k : Codec C) (r : Reply) (p : PathState C) (flights : List (Flight C)) (event : Event) → TakesTime p → p.link.under_way ≡ flights
      → next_copy (next_due flights) ≡ Some event → tick_of event < p.until → Lowers p (happens k event r p)
  by_copy k r p [] event t is e soon = cc
  by_copy k r p (f ∷ flights) event t is e soon =
      let same : Event.Arrives (due_of f) ≡ event = cc in
      subst (λ x. tick_of x < p.until → Lowers p (happens k x r p)) same (λ soon. copy_lowers k f flights p t is soon) soon

  by_timer : (k : Codec C) (s : Side) (r : Reply) (p : PathState C) (timer : Option ℕ) (event : Event) → TakesTime p → (end_at s p).tcp.timing.timer ≡ timer
      → next_fire s timer ≡ Some event → tick_of event < p.until → Lowers p (happens k event r p)
  by_timer k s r p None event t is e soon = cc
  by_timer k s r p (Some tick) event t is e soon =
      let same : Event.Fires s tick ≡ event = cc in
      subst (λ x. tick_of x < p.until → Lowers p (happens k x r p)) same (λ soon. fire_lowers s tick p t is soon) soon

  pub event_lowers : (k : Codec C) (r : Reply) (p : PathState C) → TakesTime p → is_some (next_event p) ≡ true → Lowers p (happens_if k (next_event p) r p)
  event_lowers k r p t some = (elim (next_event p) as (λ x. next_event p ≡ x → is_some x ≡ true → Lowers p (happens_if k x r p))
      [ None ↦ λ is some. cc | Some event ↦ λ is some. let found = soon_enough p.until (earliest p) event is in chosen event found.0 found.1 ]) refl some
    where
      chosen : (event : Event) → earliest p ≡ Some event → tick_of event < p.until → Lowers p (happens k event r p)
      chosen event e soon = ⊎_elim
          (λ join. by_join k r p p.a.tcp.state p.joined_at event t refl join soon)
          (λ later. ⊎_elim
          (λ line. by_line k r p p.lines event t refl line soon)
          (λ others. ⊎_elim
          (λ copy. by_copy k r p p.link.under_way event t refl copy soon)
          (λ timers. ⊎_elim
          (λ a. by_timer k A r p p.a.tcp.timing.timer event t refl a soon)
          (λ b. by_timer k B r p p.b.tcp.timing.timer event t refl b soon)
          (one_of_both _ _ event timers))
          (one_of_both _ _ event others))
          (one_of_both _ _ event later))
          (one_of_both _ _ event e)

  -- ---- what can happen

  can_join : (p : PathState C) (state : EndPhase) (joined_at : Option ℕ) (event : Event) → next_join state joined_at ≡ Some event
      → tick_of event < p.until → CanHappen event p
  can_join p state None event e soon = cc
  can_join p state (Some tick) event e soon = (elim (is_waiting state) as (λ b. (if b then Some (Event.Joins tick) else None) ≡ Some event → CanHappen event p)
      [ true ↦ λ e. let same : Event.Joins tick ≡ event = cc in subst (λ x. tick_of x < p.until → CanHappen x p) same (λ soon. soon) soon | false ↦ λ e. cc ]) e

  can_take : (p : PathState C) (lines : List LineLeft) (event : Event) → next_line lines ≡ Some event → tick_of event < p.until → CanHappen event p
  can_take p [] event e soon = cc
  can_take p (line ∷ lines) event e soon =
      let same : Event.Takes line ≡ event = cc in subst (λ x. tick_of x < p.until → CanHappen x p) same (λ soon. soon) soon

  can_arrive : (p : PathState C) (flights : List (Flight C)) (event : Event) → p.link.under_way ≡ flights → next_copy (next_due flights) ≡ Some event
      → tick_of event < p.until → CanHappen event p
  can_arrive p [] event is e soon = cc
  can_arrive p (f ∷ flights) event is e soon =
      let same : Event.Arrives (due_of f) ≡ event = cc in subst (λ x. tick_of x < p.until → CanHappen x p) same (λ soon. (soon, there)) soon
    where
      there : is_some (arriving (due_of f) p.link) ≡ true
      there = rw (is, head_is_due f) refl

  can_fire : (s : Side) (p : PathState C) (timer : Option ℕ) (event : Event) → (end_at s p).tcp.timing.timer ≡ timer → next_fire s timer ≡ Some event
      → tick_of event < p.until → CanHappen event p
  can_fire s p None event is e soon = cc
  can_fire s p (Some tick) event is e soon =
      let same : Event.Fires s tick ≡ event = cc in
      subst (λ x. tick_of x < p.until → CanHappen x p) same (λ soon. (soon, rw is refl)) soon

  -- the earliest event can happen where it comes before the round's end
  pub can_happen : (p : PathState C) (event : Event) → earliest p ≡ Some event → tick_of event < p.until → CanHappen event p
  can_happen p event e soon = ⊎_elim
      (λ join. can_join p p.a.tcp.state p.joined_at event join soon)
      (λ later. ⊎_elim
      (λ line. can_take p p.lines event line soon)
      (λ others. ⊎_elim
      (λ copy. can_arrive p p.link.under_way event refl copy soon)
      (λ timers. ⊎_elim
      (λ a. can_fire A p p.a.tcp.timing.timer event refl a soon)
      (λ b. can_fire B p p.b.tcp.timing.timer event refl b soon)
      (one_of_both _ _ event timers))
      (one_of_both _ _ event others))
      (one_of_both _ _ event later))
      (one_of_both _ _ event e)
