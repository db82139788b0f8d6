-- What holds as the first round and each later one begins.
use Rattle.std.proofs.Common.{◌≡◌, refl, sym, subst, ℕ, ◌+◌, ◌≤◌, ◌⊎◌, inl, inr, Option, Some, None, IfSome, le_refl, arith}
use Rattle.std.proofs.lemmas.Bool.{both_ways}
use Rattle.pace.specs.Lane.{Setting, Lane, all_left, none_left}
use Rattle.pace.specs.Rules.{first_lane, opens_round}
use Rattle.pace.specs.Going.{Going, Reason, IsSet, IsOld}
use Rattle.pace.specs.Ends.{Ended}
use Rattle.pace.specs.Laws.{HasRanges}
use Rattle.pace.proofs.Lists.{timed_moved}

module _ (k : Setting) (ranges : HasRanges k) where
  pub first_going : (window : ℕ) → k.payload + k.payload ≤ window
      → Going k (first_lane window) k.rto all_left (first_lane window)
  first_going window wide = record {
    numbers = omega (arith, wide);
    since = omega arith;
    round = omega (arith, ranges);
    under_way = record { chain = refl; datas_at = omega arith; acks_at = omega arith; datas_are = λ c i. absurd i; acks_are = λ c i. absurd i };
    told_soon = inl (le_refl _, le_refl _, le_refl _, le_refl _);
    none_lost = record { datas = λ c i. inl i; acks = λ c i. inl i };
    flags = record { data_fin = inl (le_refl _); control = inl (le_refl _); keys = inl (le_refl _); once = omega arith };
    timer = record { late = tt; anew = inr tt };
    shut = λ is. absurd (both_ways _ refl is);
    turns = record {
      wrote = λ over. absurd (both_ways _ refl over);
      closed = λ over. absurd (both_ways _ refl over);
      read = λ over. absurd (both_ways _ refl over);
      told = λ over. absurd (both_ways _ refl over);
    };
    repeats = record { last = refl; few = omega arith };
    asked = record { next = λ done. absurd (both_ways _ done refl); limit = λ done. absurd (both_ways _ done refl) };
    answered = record { all = λ done. omega arith; window = λ done. absurd (both_ways _ done refl) };
    emitted = record {
      bytes = λ done. absurd (both_ways _ done refl);
      known = λ done. absurd (both_ways _ done refl);
      data_fin = λ done. absurd (both_ways _ done refl);
    };
    none_due = λ done. absurd (both_ways _ done refl);
  }

  -- a round begins where one ended
  pub begins : (w : Lane) → Ended k w → (t : ℕ) → w.until + 100 ≤ t → t ≤ w.until + k.rto
      → IfSome w.timer (λ x. Reason k w × (t ≤ x))
      → Going k (opens_round w) t all_left (opens_round w)
  begins w ended t late fresh timer = record {
    numbers = omega (arith, h.numbers);
    since = omega arith;
    round = omega (arith, late, fresh, h.numbers);
    under_way = record {
      chain = h.under_way.chain;
      datas_at = timed_moved w.clock (w.clock + k.delay) w.until w.until (w.until + k.delay) w.datas
          (h.none_due refl).0 (omega arith) (omega (arith, h.round.early)) h.under_way.datas_at;
      acks_at = timed_moved w.clock (w.clock + k.delay) w.until w.until (w.until + k.delay) w.acks
          (h.none_due refl).1 (omega arith) (omega (arith, h.round.early)) h.under_way.acks_at;
      datas_are = h.under_way.datas_are;
      acks_are = h.under_way.acks_are;
    };
    told_soon = h.told_soon;
    none_lost = record { datas = λ c i. inl i; acks = λ c i. inl i };
    flags = h.flags;
    timer = record { late = timer; anew = anew w.timer refl };
    shut = h.shut;
    turns = record {
      wrote = λ over. absurd (both_ways _ refl over);
      closed = λ over. absurd (both_ways _ refl over);
      read = λ over. absurd (both_ways _ refl over);
      told = λ over. absurd (both_ways _ refl over);
    };
    repeats = h.repeats;
    asked = record { next = λ done. absurd (both_ways _ done refl); limit = λ done. absurd (both_ways _ done refl) };
    answered = record { all = h.answered.all; window = λ done. absurd (both_ways _ done refl) };
    emitted = record {
      bytes = λ done. absurd (both_ways _ done refl);
      known = λ done. absurd (both_ways _ done refl);
      data_fin = λ done. absurd (both_ways _ done refl);
    };
    none_due = λ done. absurd (both_ways _ done refl);
  }
    where
      h : Going k ended.begun ended.tick none_left w
      h = ended.going

      anew : (o : Option ℕ) → w.timer ≡ o → IsOld (opens_round w) (opens_round w) ⊎ IfSome o (λ x. w.until + k.rto ≤ x)
      anew None is = inr tt
      anew (Some x) is = inl (subst IsSet (sym is) tt, le_refl _, le_refl _)
