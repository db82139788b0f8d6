-- Refusals, flags, the timer, the clock and the stages of a turn keep what holds of a lane.
use Rattle.std.proofs.Common.{◌≡◌, refl, sym, subst, ℕ, ◌+◌, ◌≤◌, Bool, true, false, cond, ◌⊎◌, inl, inr, ⊎_elim, Option, Some, None, IfSome, arith}
use Rattle.std.proofs.lemmas.Bool.{both_ways}
use Rattle.pace.specs.Lane.{Setting, Lane, Stage}
use Rattle.pace.specs.Rules.{refused_by, tick_or, settled_by, rested, flagged, grown, moved_to}
use Rattle.pace.specs.Lists.{first_at, repeated}
use Rattle.pace.specs.Going.{Going, Reason, IsOld, Covers, all_heard, pending}
use Rattle.pace.specs.Moves.{HasEmitted, MayRefuse, MayFlag, MayMove, IsBefore}
use Rattle.pace.proofs.Lists.{stays_done, timed_moved, if_some_map}
use Rattle.pace.proofs.Parts.{parts, whole, new_counts, new_under_way, new_asked, new_answered, new_emitted, new_none_due, new_timer, new_repeats, new_shut}

module _ (k : Setting) (s : Lane) (t : ℕ) (p : Stage) where
  pub back_going : (q : Stage) (w : Lane) → IsBefore q p → Going k s t p w → Going k s t q w
  back_going q w may h = whole (new_repeats (record {
    last = h.repeats.last;
    few = subst (λ (b : Bool). w.row + repeated w.heard w.acks + pending k (record p { tell = b }) w ≤ w.said + w.data_fin_came)
        may.tell h.repeats.few;
  })
      (new_asked (record { next = λ e. h.asked.next (may.ask e); limit = λ e. h.asked.limit (may.window e) })
      (new_answered (record { all = λ e. h.answered.all (subst (λ (b : Bool). b ≡ false) (sym may.tell) e); window = λ e. h.answered.window (may.update e) })
      (new_emitted (record { bytes = λ e. h.emitted.bytes (may.emit e); known = λ e. h.emitted.known (may.emit e); data_fin = λ e. h.emitted.data_fin (may.finish e) })
      (new_none_due (λ e. h.none_due (may.wait e)) (parts h))))))

  pub refused_going : (shut : Bool) (known : ℕ) (w : Lane) → MayRefuse k s p shut known w → Going k s t p w
      → Going k s t (record p { emit = false }) (refused_by shut known w)
  refused_going shut known w may h = whole (new_counts (omega (arith, may.more, may.closed, h.numbers)) (omega (arith, h.since)) (omega (arith, h.round))
      (new_shut may.waits
      (new_emitted (record {
        bytes = λ _. may.emitted.bytes;
        known = λ _. may.emitted.end;
        data_fin = λ over clear. ⊎_elim (λ sent. sent) (λ left. absurd (both_ways _ over left)) may.finish;
      }) (parts h))))

  pub emitted_going : (w : Lane) → HasEmitted k s w.known w → Going k s t p w
      → Going k s t (record p { emit = false }) w
  emitted_going w may h = whole (new_emitted (record { bytes = λ _. may.bytes; known = λ _. may.end; data_fin = h.emitted.data_fin }) (parts h))

  pub finished_going : (w : Lane) → (1 ≤ w.clear → w.known ≤ w.data_fin_sent) → Going k s t p w
      → Going k s t (record p { finish = false }) w
  finished_going w may h = whole (new_emitted (record { bytes = h.emitted.bytes; known = h.emitted.known; data_fin = λ _. may }) (parts h))

  pub over_going : (w : Lane) → w.until ≤ first_at w.until w.datas → w.until ≤ first_at w.until w.acks → Going k s t p w
      → Going k s t (record p { wait = false }) w
  over_going w datas acks h = whole (new_none_due (λ _. (datas, acks)) (parts h))

  pub settled_going : (runs : Bool) (rto : ℕ) (w : Lane) → k.rto ≤ rto → (runs ≡ true → Reason k w) → Going k s t p w
      → Going k s t p (settled_by runs rto w)
  settled_going runs rto w long reason h = whole (new_counts (omega (arith, h.numbers)) (omega (arith, h.since)) (omega (arith, h.round))
      (new_timer (record { late = late runs w.timer reason h.timer.late; anew = anew runs w.timer h.timer.anew }) (parts h)))
    where
      from_now : s.clock + k.rto ≤ w.clock + rto
      from_now = omega (arith, long, h.since.clock)

      late : (b : Bool) (o : Option ℕ) → (b ≡ true → Reason k w) → IfSome o (λ x. Reason k w × (t ≤ x))
          → IfSome (cond b (Some (tick_or (w.clock + rto) o)) None) (λ x. Reason k w × (t ≤ x))
      late false o why old = tt
      late true None why old = (why refl, omega (arith, from_now, h.round.fresh))
      late true (Some x) why old = old

      anew : (b : Bool) (o : Option ℕ) → IsOld s w ⊎ IfSome o (λ x. s.clock + k.rto ≤ x)
          → IsOld s w ⊎ IfSome (cond b (Some (tick_or (w.clock + rto) o)) None) (λ x. s.clock + k.rto ≤ x)
      anew false o old = inr tt
      anew true None old = inr from_now
      anew true (Some x) old = old

  pub rested_going : (w : Lane) → Going k s t p w → Going k s t p (rested w)
  rested_going w h = whole (new_counts (omega (arith, h.numbers)) (omega (arith, h.since)) (omega (arith, h.round))
      (new_timer (record { late = tt; anew = inr tt }) (parts h)))

  pub flagged_going : (ready clear : ℕ) (w : Lane) → MayFlag k s p ready clear w → Going k s t p w
      → Going k s t p (flagged ready clear w)
  flagged_going ready clear w may h = record {
    numbers = omega (arith, h.numbers);
    since = omega (arith, may.ready, may.clear, h.since);
    round = omega (arith, h.round);
    under_way = h.under_way;
    told_soon = ⊎_elim (λ all. inl (all.0, all.1, all.2, omega (arith, all.3, may.clear))) (λ one. inr one) h.told_soon;
    none_lost = record {
      datas = h.none_lost.datas;
      acks = stays_done (λ c. Covers (all_heard w) c.telling) (λ c. Covers (all_heard (flagged ready clear w)) c.telling)
          s.acks w.acks (λ c all. (all.0, all.1, all.2, omega (arith, all.3, may.clear))) h.none_lost.acks;
    };
    flags = h.flags;
    timer = record {
      late = if_some_map (λ x. Reason k w × (t ≤ x)) (λ x. Reason k (flagged ready clear w) × (t ≤ x)) w.timer
          (λ x old. (still old.0, old.1)) h.timer.late;
      anew = h.timer.anew;
    };
    shut = λ is. let old = h.shut is in (old.0, omega (arith, old.1, may.ready));
    turns = h.turns;
    repeats = h.repeats;
    asked = h.asked;
    answered = record { all = h.answered.all; window = λ over _. may.window over };
    emitted = record {
      bytes = λ over. absurd (both_ways _ over may.emit);
      known = λ over. absurd (both_ways _ over may.emit);
      data_fin = λ over. absurd (both_ways _ over may.finish);
    };
    none_due = h.none_due;
  }
    where
      still : Reason k w → Reason k (flagged ready clear w)
      still (inl control) = inl control
      still (inr bytes) = inr (bytes.0, omega (arith, bytes.1, may.ready), omega (arith, bytes.2, may.clear))

  pub grown_going : (n : ℕ) (w : Lane) → p.emit ≡ true → w.window ≤ n → Going k s t p w → Going k s t p (grown n w)
  grown_going n w emit more h = whole (new_counts (omega (arith, more, h.numbers)) (omega (arith, h.since)) (omega (arith, h.round))
      (new_emitted (record { bytes = λ over. absurd (both_ways _ over emit); known = λ over. absurd (both_ways _ over emit); data_fin = h.emitted.data_fin }) (parts h)))

  pub moved_going : (tick : ℕ) (w : Lane) → MayMove p tick w → Going k s t p w → Going k s t p (moved_to tick w)
  moved_going tick w may h = whole (new_counts (omega (arith, h.numbers)) (omega (arith, may.later, h.since)) (omega (arith, may.later, may.early, h.round))
      (new_under_way (record {
        chain = h.under_way.chain;
        datas_at = timed_moved w.clock (w.clock + k.delay) tick w.until (tick + k.delay) w.datas
            may.datas (omega arith) (omega (arith, may.later)) h.under_way.datas_at;
        acks_at = timed_moved w.clock (w.clock + k.delay) tick w.until (tick + k.delay) w.acks
            may.acks (omega arith) (omega (arith, may.later)) h.under_way.acks_at;
        datas_are = h.under_way.datas_are;
        acks_are = h.under_way.acks_are;
      })
      (new_none_due (λ over. absurd (both_ways _ over may.turn)) (parts h))))
