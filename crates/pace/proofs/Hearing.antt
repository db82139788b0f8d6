-- Segments that arrive keep what holds of a lane.
--
-- What stands first on its way: a lemma over the lane with `c ∷ rest` in place of its list, where all computes, and one
-- `subst` of the whole invariant along `w.datas ≡ c ∷ rest` (`with_datas` of `proofs/Hearing`), in place of one in each
-- field.
use Rattle.std.proofs.Common.{◌≡◌, refl, subst, ℕ, ◌+◌, ◌-◌, ◌≤◌, max, nat_lt, Bool, true, false, cond, ◌⊎◌, inl, inr, ⊎_elim, List, ◌∷◌, Option, Some, None, IfSome, arith}
use Rattle.std.proofs.lemmas.Bool.{both_ways, cases_lt, ltb-false}
use Rattle.pace.specs.Lane.{Setting, Copy, Lane, Stage, data_ack}
use Rattle.pace.specs.Rules.{hears_data, skipped, hears_ack, repeats}
use Rattle.pace.specs.Lists.{OneHas, Chain, repeated, data_fins}
use Rattle.pace.specs.Going.{Going, Reason, IsOld, IsToldSoon, IsDone, Covers, may_tell, all_heard, pending}
use Rattle.pace.specs.Moves.{MayHearData, MaySkip, MayHearAck}
use Rattle.pace.proofs.Lists.{stays_taken, timed_from, chain_le, row_within}

-- what the first segment brings came with it, or is on its way still
flag_taken : (n m : ℕ) (f : Copy → ℕ) (c : Copy) (cs : List Copy) → (n ≤ m) ⊎ OneHas (λ x. n ≤ f x) (c ∷ cs)
    → (n ≤ max m (f c)) ⊎ OneHas (λ x. n ≤ f x) cs
flag_taken n m f c cs (inl came) = inl (omega (arith, came))
flag_taken n m f c cs (inr one) = ⊎_elim
    (λ here. inl (let has = subst (λ (x : Copy). n ≤ f x) here one.has in omega (arith, has)))
    (λ rest. inr (record { copy = one.copy; among = rest; has = one.has }))
    one.among

-- the first segment has nothing that hadn't come
flag_passed : (n m : ℕ) (f : Copy → ℕ) (c : Copy) (cs : List Copy) → f c ≤ m → (n ≤ m) ⊎ OneHas (λ x. n ≤ f x) (c ∷ cs)
    → (n ≤ m) ⊎ OneHas (λ x. n ≤ f x) cs
flag_passed n m f c cs old (inl came) = inl came
flag_passed n m f c cs old (inr one) = ⊎_elim
    (λ here. inl (let has = subst (λ (x : Copy). n ≤ f x) here one.has in omega (arith, has, old)))
    (λ rest. inr (record { copy = one.copy; among = rest; has = one.has }))
    one.among

-- a lane with other segments on their way, or other acknowledgements
abbrev with_datas : List Copy → Lane → Lane
with_datas cs w = record w { way = record w.way { datas = cs } }

abbrev with_acks : List Copy → Lane → Lane
with_acks cs w = record w { way = record w.way { acks = cs } }

module _ (k : Setting) (s : Lane) (t : ℕ) (p : Stage) where
  takes_data : (ask : Bool) (c : Copy) (cs : List Copy) (w : Lane) → MayHearData p ask c cs w
      → Going k s t p (with_datas (c ∷ cs) w) → Going k s t (record p { ask = ask; tell = true }) (hears_data c cs w)
  takes_data ask c cs w may h = record {
    numbers = omega (arith, up, chain_le _ _ _ chain.2, are, h.numbers);
    since = omega (arith, up, h.since);
    round = omega (arith, h.round);
    under_way = record {
      chain = chain.2;
      datas_at = timed_from c.at w.clock (w.clock + k.delay) cs h.under_way.datas_at.0 h.under_way.datas_at.1;
      acks_at = h.under_way.acks_at;
      datas_are = λ x i. h.under_way.datas_are x (inr i);
      acks_are = λ x i. let old = h.under_way.acks_are x i in omega (arith, old, up);
    };
    told_soon = h.told_soon;
    none_lost = record {
      datas = stays_taken (IsDone w) (IsDone (hears_data c cs w)) s.datas c cs
          (λ x done. omega (arith, done, up)) (omega arith) h.none_lost.datas;
      acks = h.none_lost.acks;
    };
    flags = record {
      data_fin = flag_taken w.data_fin_sent w.data_fin_came (λ x. x.data_fin) c cs h.flags.data_fin;
      control = flag_taken w.control_sent w.control_came (λ x. x.control) c cs h.flags.control;
      keys = flag_taken w.keys_sent w.keys_came (λ x. x.keys) c cs h.flags.keys;
      once = omega (arith, once);
    };
    timer = h.timer;
    shut = h.shut;
    turns = h.turns;
    repeats = record { last = h.repeats.last; few = few };
    asked = record {
      next = λ e. let old = may.asked e in let next = h.asked.next old.0 in omega (arith, old.1, next, chain.0, up);
      limit = h.asked.limit;
    };
    answered = record { all = λ e. absurd (both_ways _ e refl); window = h.answered.window };
    emitted = h.emitted;
    none_due = λ over. absurd (both_ways _ over may.turn);
  }
    where
      chain : Chain w.received (c ∷ cs) w.granted
      chain = h.under_way.chain

      up : w.received ≤ c.high
      up = chain.1

      are : (c.data_fin ≤ w.data_fin_sent) × (c.control ≤ w.control_sent) × (c.keys ≤ w.keys_sent)
      are = h.under_way.datas_are c (inl refl)

      once : data_fins (c ∷ cs) + w.data_fin_came ≤ w.data_fin_sent
      once = h.flags.once

      before : (b : Bool) → w.row + repeated w.heard w.acks
          + cond b (((1 - (data_ack k w - w.told.next)) - (w.control_came - w.told.seen)) - (w.keys_came - w.told.dss)) 0
          ≤ w.said + w.data_fin_came
          → w.row + repeated w.heard w.acks ≤ w.said + w.data_fin_came
      before true e = omega (arith, e)
      before false e = omega (arith, e)

      -- what is new is something to tell, so that the answer is no duplicate; or it is the DATA_FIN, which
      -- pays for one
      few : w.row + repeated w.heard w.acks + pending k (record p { ask = ask; tell = true }) (hears_data c cs w)
          ≤ w.said + max w.data_fin_came c.data_fin
      few = let old = before p.tell h.repeats.few in omega (arith, old, once, may.news, chain.0, up, h.numbers.told)

  pub heard_going : (ask : Bool) (c : Copy) (cs : List Copy) (w : Lane) → MayHearData p ask c cs w → Going k s t p w
      → Going k s t (record p { ask = ask; tell = true }) (hears_data c cs w)
  heard_going ask c cs w may h =
      takes_data ask c cs w may (subst (λ (ds : List Copy). Going k s t p (with_datas ds w)) may.first h)

  passes_data : (c : Copy) (cs : List Copy) (w : Lane) → MaySkip p c cs w → Going k s t p (with_datas (c ∷ cs) w)
      → Going k s t p (skipped cs w)
  passes_data c cs w may h = record {
    numbers = omega (arith, h.numbers);
    since = omega (arith, h.since);
    round = omega (arith, h.round);
    under_way = record {
      chain = subst (λ (n : ℕ). Chain n cs w.granted) same chain.2;
      datas_at = timed_from c.at w.clock (w.clock + k.delay) cs h.under_way.datas_at.0 h.under_way.datas_at.1;
      acks_at = h.under_way.acks_at;
      datas_are = λ x i. h.under_way.datas_are x (inr i);
      acks_are = h.under_way.acks_are;
    };
    told_soon = h.told_soon;
    none_lost = record { datas = stays_taken (IsDone w) (IsDone w) s.datas c cs (λ x done. done) (omega (arith, same, may)) h.none_lost.datas; acks = h.none_lost.acks };
    flags = record {
      data_fin = flag_passed w.data_fin_sent w.data_fin_came (λ x. x.data_fin) c cs
          (omega (arith, may.data_fin)) h.flags.data_fin;
      control = flag_passed w.control_sent w.control_came (λ x. x.control) c cs may.control h.flags.control;
      keys = flag_passed w.keys_sent w.keys_came (λ x. x.keys) c cs may.keys h.flags.keys;
      once = omega (arith, once);
    };
    timer = h.timer;
    shut = h.shut;
    turns = h.turns;
    repeats = h.repeats;
    asked = h.asked;
    answered = h.answered;
    emitted = h.emitted;
    none_due = λ over. absurd (both_ways _ over may.turn);
  }
    where
      chain : Chain w.received (c ∷ cs) w.granted
      chain = h.under_way.chain

      same : c.high ≡ w.received
      same = omega (arith, chain.0, chain.1, may.bytes)

      once : data_fins (c ∷ cs) + w.data_fin_came ≤ w.data_fin_sent
      once = h.flags.once

  pub skipped_going : (c : Copy) (cs : List Copy) (w : Lane) → MaySkip p c cs w → Going k s t p w
      → Going k s t p (skipped cs w)
  skipped_going c cs w may h =
      passes_data c cs w may (subst (λ (ds : List Copy). Going k s t p (with_datas ds w)) may.first h)

  takes_ack : (c : Copy) (cs : List Copy) (w : Lane) → MayHearAck p c cs w → Going k s t p (with_acks (c ∷ cs) w)
      → Going k s t p (hears_ack c cs w)
  takes_ack c cs w may h = record {
    numbers = omega (arith, here, h.numbers);
    since = omega (arith, h.since);
    round = omega (arith, h.round);
    under_way = record {
      chain = h.under_way.chain;
      datas_at = h.under_way.datas_at;
      acks_at = timed_from c.at w.clock (w.clock + k.delay) cs h.under_way.acks_at.0 h.under_way.acks_at.1;
      datas_are = h.under_way.datas_are;
      acks_are = λ x i. h.under_way.acks_are x (inr i);
    };
    told_soon = told h.told_soon;
    none_lost = record {
      datas = h.none_lost.datas;
      acks = stays_taken (λ x. Covers (all_heard w) x.telling) (λ x. Covers (all_heard (hears_ack c cs w)) x.telling)
          s.acks c cs (λ x all. omega (arith, all)) (omega arith) h.none_lost.acks;
    };
    flags = h.flags;
    timer = record {
      late = late (nat_lt w.acked c.telling.next) refl w.timer refl h.timer.late;
      anew = anew (nat_lt w.acked c.telling.next) refl w.timer refl h.timer.anew;
    };
    shut = h.shut;
    turns = h.turns;
    repeats = record {
      last = h.repeats.last;
      few = let row = row_within (repeats w.heard c) w.row in omega (arith, row, few);
    };
    asked = h.asked;
    answered = h.answered;
    emitted = record {
      bytes = λ over. absurd (both_ways _ over may.emit);
      known = λ over. absurd (both_ways _ over may.emit);
      data_fin = λ over. absurd (both_ways _ over may.finish);
    };
    none_due = λ over. absurd (both_ways _ over may.turn);
  }
    where
      here : Covers (may_tell k w) c.telling
      here = h.under_way.acks_are c (inl refl)

      few : w.row + repeated w.heard (c ∷ cs) + pending k p w ≤ w.said + w.data_fin_came
      few = h.repeats.few

      told : IsToldSoon (with_acks (c ∷ cs) w) → IsToldSoon (hears_ack c cs w)
      told (inl all) = inl (omega (arith, all))
      told (inr one) = ⊎_elim
          (λ same. inl (let has = subst (λ (x : Copy). Covers x.telling w.told) same one.has in omega (arith, has)))
          (λ rest. inr (record { copy = one.copy; among = rest; has = one.has }))
          one.among

      -- where a timer runs, neither SYN nor FIN is acknowledged by it
      seen : (x : ℕ) → w.timer ≡ Some x → c.telling.seen ≤ w.control_acked
      seen x runs = ⊎_elim (λ more. absurd (unset (may.rests more))) (λ old. old) (cases_lt w.control_acked c.telling.seen)
        where
          unset : w.timer ≡ None → ⊥
          unset none = cc

      still : c.telling.next ≤ w.acked → c.telling.seen ≤ w.control_acked → Reason k w → Reason k (hears_ack c cs w)
      still next seen (inl control) = inl (omega (arith, control, seen))
      still next seen (inr bytes) = inr (omega (arith, bytes, next))

      late : (b : Bool) → nat_lt w.acked c.telling.next ≡ b → (o : Option ℕ) → w.timer ≡ o
          → IfSome o (λ x. Reason k w × (t ≤ x))
          → IfSome (cond b None o) (λ x. Reason k (hears_ack c cs w) × (t ≤ x))
      late true e o is old = tt
      late false e None is old = tt
      late false e (Some x) is old = (still (ltb-false _ _ e) (seen x is) old.0, old.1)

      anew : (b : Bool) → nat_lt w.acked c.telling.next ≡ b → (o : Option ℕ) → w.timer ≡ o
          → IsOld s w ⊎ IfSome o (λ x. s.clock + k.rto ≤ x)
          → IsOld s (hears_ack c cs w) ⊎ IfSome (cond b None o) (λ x. s.clock + k.rto ≤ x)
      anew true e o is old = inr tt
      anew false e None is old = inr tt
      anew false e (Some x) is (inr new) = inr new
      anew false e (Some x) is (inl kept) =
          let next = ltb-false _ _ e in
          let control = seen x is in
          inl (kept.0, omega (arith, kept.1, next), omega (arith, kept.2, control))

  pub acknowledged_going : (c : Copy) (cs : List Copy) (w : Lane) → MayHearAck p c cs w → Going k s t p w
      → Going k s t p (hears_ack c cs w)
  acknowledged_going c cs w may h =
      takes_ack c cs w may (subst (λ (xs : List Copy). Going k s t p (with_acks xs w)) may.first h)
