-- What the sending end sends keeps what holds of a lane.
use Rattle.std.proofs.Common.{◌≡◌, refl, ℕ, ◌+◌, ◌<◌, ◌≤◌, max, Bool, true, false, ◌⊎◌, inl, inr, ⊎_elim, List, [], ◌∷◌, ◌++◌, arith}
use Rattle.std.proofs.lemmas.Bool.{both_ways, cases_lt}
use Rattle.pace.specs.Lane.{Setting, Copy, Lane, Stage}
use Rattle.pace.specs.Rules.{sends, sent_by, granted_by}
use Rattle.pace.specs.Lists.{OneHas}
use Rattle.pace.specs.Going.{Going, Reason, IsDone}
use Rattle.pace.specs.Moves.{MaySend}
use Rattle.pace.proofs.Lists.{in_last, each_more, one_more, stays_more, timed_more, chain_more, data_fins_more, if_some_map}

-- A flag that came where it was sent, or is on its way, where one more segment has the flag or not.
flag_more : (n m : ℕ) (f : Copy → ℕ) (x : Copy) (cs : List Copy) → (n ≤ m) ⊎ OneHas (λ c. n ≤ f c) cs
    → (max n (f x) ≤ m) ⊎ OneHas (λ c. max n (f x) ≤ f c) (cs ++ x ∷ [])
flag_more n m f x cs h = ⊎_elim
    (λ new. inr (record { copy = x; among = in_last x cs; has = omega (arith, new) }))
    (λ old. ⊎_elim
    (λ came. inl (omega (arith, old, came)))
    (λ one.
    let has = one.has in
    let more : max n (f x) ≤ f one.copy = omega (arith, old, has) in
    inr (one_more (λ c. max n (f x) ≤ f c) cs (x ∷ []) (record { copy = one.copy; among = one.among; has = more })))
    h)
    (cases_lt n (f x))

module _ (k : Setting) (s : Lane) (t : ℕ) (p : Stage) where
  sends_going : (shut : Bool) (x : Copy) (w : Lane) → MaySend k p x w
      → (shut ≡ true → (x.high < w.written) × (1 ≤ w.ready))
      → Going k s t p w → Going k s t p (sends shut x w)
  sends_going shut x w may waits h = record {
    numbers = omega (arith, may, h.numbers);
    since = omega (arith, may, h.since);
    round = omega (arith, h.round);
    under_way = record {
      chain = chain_more w.received w.granted x w.datas may.low may.high h.under_way.chain;
      datas_at = timed_more w.clock (w.clock + k.delay) x w.datas may.at h.under_way.datas_at;
      acks_at = h.under_way.acks_at;
      datas_are = each_more
          (λ c. (c.data_fin ≤ max w.data_fin_sent x.data_fin) × (c.control ≤ max w.control_sent x.control)
          × (c.keys ≤ max w.keys_sent x.keys))
          x w.datas (omega arith)
          (λ c i. let old = h.under_way.datas_are c i in omega (arith, old));
      acks_are = h.under_way.acks_are;
    };
    told_soon = h.told_soon;
    none_lost = record { datas = stays_more (IsDone w) s.datas w.datas (x ∷ []) h.none_lost.datas; acks = h.none_lost.acks };
    flags = record {
      data_fin = flag_more w.data_fin_sent w.data_fin_came (λ c. c.data_fin) x w.datas h.flags.data_fin;
      control = flag_more w.control_sent w.control_came (λ c. c.control) x w.datas h.flags.control;
      keys = flag_more w.keys_sent w.keys_came (λ c. c.keys) x w.datas h.flags.keys;
      once = let more = data_fins_more x w.datas in omega (arith, more, may.data_fin, h.flags.once, h.numbers);
    };
    timer = record {
      late = if_some_map (λ y. Reason k w × (t ≤ y)) (λ y. Reason k (sends shut x w) × (t ≤ y)) w.timer
          (λ y old. (still old.0, old.1)) h.timer.late;
      anew = h.timer.anew;
    };
    shut = waits;
    turns = h.turns;
    repeats = h.repeats;
    asked = h.asked;
    answered = h.answered;
    emitted = record {
      bytes = λ over ready. let old = h.emitted.bytes over ready in omega (arith, old, may.high);
      known = λ over ready room. h.emitted.known over ready (omega (arith, room, may.high));
      data_fin = λ over clear. let old = h.emitted.data_fin over clear in omega (arith, old);
    };
    none_due = λ over. absurd (both_ways _ over may.turn);
  }
    where
      still : Reason k w → Reason k (sends shut x w)
      still (inl control) = inl (omega (arith, control))
      still (inr bytes) = inr bytes

  pub sent_going : (x : Copy) (w : Lane) → x.high ≡ w.granted → MaySend k p x w → Going k s t p w
      → Going k s t p (sent_by x w)
  sent_going x w none may h = sends_going w.shut x w may waits h
    where
      waits : w.shut ≡ true → (x.high < w.written) × (1 ≤ w.ready)
      waits is = let old = h.shut is in omega (arith, old, none)

  pub granted_going : (x : Copy) (w : Lane) → MaySend k p x w → Going k s t p w → Going k s t p (granted_by x w)
  granted_going x w may h = sends_going false x w may (λ is. absurd (both_ways _ refl is)) h
