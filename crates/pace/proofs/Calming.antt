-- Rounds follow one another, and no timer runs out: each of them has waited for at most seven rounds, since
-- the eighth brings news.
--
-- Why no timer runs out: the eighth round after the last news brings news, and nine pass before a timer does. So
-- `HasWaited` counts the rounds of a timer from the end of the round of the last news, and at the eighth there is a
-- contradiction, not a new case.
use Rattle.std.proofs.Common.{◌≡◌, refl, sym, subst, ℕ, suc, ◌+◌, ◌<◌, ◌≤◌, true, ◌⊎◌, inl, inr, ⊎_elim, Option, Some, None, IfSome, le_refl, arith}
use Rattle.std.proofs.lemmas.Bool.{cases_lt}
use Rattle.pace.specs.Lane.{Setting, Lane, all_left, none_left}
use Rattle.pace.specs.Rules.{first_lane, opens_round}
use Rattle.pace.specs.Going.{Going, Reason, IsOld, IsSet}
use Rattle.pace.specs.Ends.{Ended, Passed, Trail, HasWaited, IsStill, Calm, tick_by, calm_tick}
use Rattle.pace.specs.Ends.IsStill.{rests, waits}
use Rattle.pace.specs.Laws.{HasRanges}
use Rattle.pace.specs.Rounds.{Round}
use Rattle.pace.proofs.Beginning.{first_going, begins}
use Rattle.pace.proofs.Moving.{all_moves_going}
use Rattle.pace.proofs.Passing.{eight}

module _ (k : Setting) (ranges : HasRanges k) where
  pub calm_begins : (w : Lane) (c : Calm k w) → Going k (opens_round w) (calm_tick k w c) all_left (opens_round w)
  calm_begins w c = by c.still
    where
      by : (still : IsStill k w) → Going k (opens_round w) (tick_by k w still) all_left (opens_round w)
      by (rests none) = begins k ranges w c.ended (w.until + k.rto) (omega (arith, ranges)) (le_refl _)
          (subst (λ (o : Option ℕ). IfSome o (λ x. Reason k w × (w.until + k.rto ≤ x))) (sym none) tt)
      by (waits h) =
          begins k ranges w c.ended (h.base.until + 800) (omega (arith, h.ticks, h.few)) (omega (arith, h.ticks, ranges)) h.timer

  -- a timer that began in the round that ends
  begun_now : (u : Lane) → Ended k u → (x : ℕ) → u.timer ≡ Some x → Reason k u → u.until + 800 ≤ x → HasWaited k u
  begun_now u ended x is reason late = record {
    base = u;
    count = 0;
    few = omega arith;
    ended = ended;
    reason = reason;
    trail = refl;
    same = le_refl _;
    same_control = le_refl _;
    ticks = omega arith;
    timer = subst (λ (o : Option ℕ). IfSome o (λ y. Reason k u × (u.until + 800 ≤ y))) (sym is) (reason, late);
  }

  -- one that has waited longer: after the eighth round there would be news
  waits_on : (w u : Lane) → Passed k w u → (x : ℕ) → u.timer ≡ Some x → Reason k u → u.acked ≤ w.acked
      → u.control_acked ≤ w.control_acked
      → (b : HasWaited k w) → b.base.until + 800 ≤ x → HasWaited k u
  waits_on w u passed x is reason same same_control b late = ⊎_elim
      (λ more. record {
        base = b.base;
        count = suc b.count;
        few = more;
        ended = b.ended;
        reason = b.reason;
        trail = (w, b.trail, passed);
        same = omega (arith, same, b.same);
        same_control = omega (arith, same_control, b.same_control);
        ticks = omega (arith, b.ticks, passed.going.round.same);
        timer = subst (λ (o : Option ℕ). IfSome o (λ y. Reason k u × (b.base.until + 800 ≤ y))) (sym is) (reason, late);
      })
      (λ over.
      let trail = subst (λ (n : ℕ). Trail k n b.base w) (seventh over) b.trail in
      absurd (news (eight k ranges b.base u b.ended b.reason (w, trail, passed))))
      (cases_lt b.count 7)
    where
      seventh : 7 ≤ b.count → b.count ≡ 7
      seventh over = omega (arith, over, b.few)

      news : (b.base.acked < u.acked) ⊎ (b.base.control_acked < u.control_acked) → ⊥
      news (inl more) = omega (arith, more, same, b.same)
      news (inr more) = omega (arith, more, same_control, b.same_control)

  pub calm_ends : (w u : Lane) (c : Calm k w) → Going k (opens_round w) (calm_tick k w c) none_left u
      → u.writer_over ≡ true → u.reader_over ≡ true
      → Passed k w u × Calm k u
  calm_ends w u c h writer reader =
      (passed, record { ended = ended; still = by c.still u.timer refl h.timer.late h.timer.anew })
    where
      passed : Passed k w u
      passed = record { tick = calm_tick k w c; going = h; writer = writer; reader = reader }

      ended : Ended k u
      ended = record { begun = opens_round w; tick = calm_tick k w c; going = h }

      by : (still : IsStill k w) (o : Option ℕ) → u.timer ≡ o → IfSome o (λ x. Reason k u × (tick_by k w still ≤ x))
          → IsOld (opens_round w) u ⊎ IfSome o (λ x. w.until + k.rto ≤ x) → IsStill k u
      by still None is late anew = rests is
      by still (Some x) is late (inr new) =
          waits (begun_now u ended x is late.0 (omega (arith, new, h.round.same, ranges.rto)))
      by (rests none) (Some x) is late (inl old) = absurd (subst IsSet none old.0)
      by (waits b) (Some x) is late (inl old) = waits (waits_on w u passed x is late.0 old.1 old.2 b late.1)

  -- the first round, in which a timer runs only if it began in it
  pub calm_at_first : (window t : ℕ) (u : Lane) → Going k (first_lane window) t none_left u → Calm k u
  calm_at_first window t u h = record { ended = ended; still = by u.timer refl h.timer.late h.timer.anew }
    where
      ended : Ended k u
      ended = record { begun = first_lane window; tick = t; going = h }

      by : (o : Option ℕ) → u.timer ≡ o → IfSome o (λ x. Reason k u × (t ≤ x))
          → IsOld (first_lane window) u ⊎ IfSome o (λ x. 0 + k.rto ≤ x) → IsStill k u
      by None is late anew = rests is
      by (Some x) is late (inl old) = absurd old.0
      by (Some x) is late (inr new) = waits (begun_now u ended x is late.0 (omega (arith, new, h.round.same, ranges.rto)))

  pub first_rounds : (window : ℕ) (u : Lane) → k.payload + k.payload ≤ window → Round k (first_lane window) u → Calm k u
  first_rounds window u wide r =
      let h = first_going k ranges window wide in
      calm_at_first window k.rto u (all_moves_going k (first_lane window) k.rto r.count _ _ none_left u r.moves h)

  pub later_rounds : (w u : Lane) → Calm k w → Round k (opens_round w) u → Passed k w u × Calm k u
  later_rounds w u c r =
      let h = calm_begins w c in
      calm_ends w u c (all_moves_going k (opens_round w) (calm_tick k w c) r.count _ _ none_left u r.moves h) r.writer r.reader
