-- What holds of a lane at each moment is kept by each move, and as a round ends.
use Rattle.std.proofs.Common.{◌≡◌, subst, sym, ℕ, ◌+◌, ◌<◌, ◌≤◌, max, nat_lt, cond, Bool, true, false, ⊎_elim, List, ◌∷◌, ◌++◌, Option, Some, None, IfSome, arith}
use Rattle.whole_paths.specs.Lanes.Lane.{Setting, Copy, Lane, In, NoneBefore, first_lane, copy_of}
use Rattle.whole_paths.specs.Lanes.Moves.{Fate, AckFate, IsTimeout, MayHearData, MayOpen, Move, sends, hears_data, hears_ack, fires, opens_round}
use Rattle.whole_paths.specs.Lanes.Moves.Move.{sent_by, heard_by, acked_by, fired, gave_up, started, rested, measured, moved}
use Rattle.whole_paths.specs.Lanes.Going.{Fine}
use Rattle.whole_paths.proofs.Lanes.Lists.{in_either, taken_is, left_is, fate_after, ack_fate_are, none_of_both, none_of_left, if_some_both}

abbrev pub InTime : Setting → ℕ → ℕ → Type 0
InTime k now t = (now ≤ t) × (t ≤ now + k.most)

module _ (k : Setting) (w : Lane) (h : Fine k w) where
  sent_fine : (left : ℕ) (copies : List Copy) → w.gone < k.total → Fate k w.clock w.gone w.harms left copies → Fine k (sends left copies w)
  sent_fine left copies more fate = record {
    acked = h.acked;
    received = omega (arith, h.received);
    sent = omega (arith, h.sent, more);
    gone = omega arith;
    behind = omega (arith, h.behind);
    early = h.early;
    timeout = h.timeout;
    datas_at = none_of_both w.clock copies w.datas (fate_after k w.clock w.gone w.harms left copies fate) h.datas_at;
    acks_at = h.acks_at;
    acks_soon = h.acks_soon;
    timer = h.timer;
  }

  heard_fine : (c : Copy) (front back : List Copy) (received : ℕ) (kept : List ℕ) (left : ℕ) (copies : List Copy) → MayHearData c front back received kept w
      → AckFate k w.clock received w.harms left copies → Fine k (hears_data received kept (front ++ back) left copies w)
  heard_fine c front back received kept left copies may fate = record {
    acked = omega (arith, h.acked, may.more);
    received = may.within;
    sent = h.sent;
    gone = h.gone;
    behind = h.behind;
    early = h.early;
    timeout = h.timeout;
    datas_at = none_of_left w.clock c front back w.datas may.among h.datas_at;
    acks_at = none_of_both w.clock copies w.acks (λ x i. subst (λ (y : Copy). w.clock ≤ y.at) (sym (are x i)) (omega arith)) h.acks_at;
    acks_soon = λ x i. ⊎_elim
        (λ new. subst (λ (y : Copy). (y.number ≤ received) × (y.at ≤ w.clock + k.delay)) (sym (are x new)) (omega arith, omega arith))
        (λ old. let soon = h.acks_soon x old in (omega (arith, soon.0, may.more), soon.1))
        (in_either x copies w.acks i);
    timer = h.timer;
  }
    where
      are : (x : Copy) → In x copies → x ≡ copy_of k w.clock received
      are = ack_fate_are k w.clock received w.harms left copies fate

  acked_fine : (c : Copy) (front back : List Copy) → w.acks ≡ front ++ c ∷ back → Fine k (hears_ack c (front ++ back) w)
  acked_fine c front back among = record {
    acked = omega (arith, h.acked, soon.0);
    received = h.received;
    sent = h.sent;
    gone = omega (arith, h.gone, soon.0, h.received);
    behind = omega (arith, h.behind);
    early = h.early;
    timeout = h.timeout;
    datas_at = h.datas_at;
    acks_at = none_of_left w.clock c front back w.acks among h.acks_at;
    acks_soon = λ x i. h.acks_soon x (left_is c x front back w.acks among i);
    timer = either (nat_lt w.acked c.number);
  }
    where
      soon : (c.number ≤ w.received) × (c.at ≤ w.clock + k.delay)
      soon = h.acks_soon c (taken_is c front back w.acks among)

      either : (b : Bool) → IfSome (cond b None w.timer) (λ t. InTime k w.clock t)
      either true = tt
      either false = h.timer

  fired_fine : (timeout left : ℕ) (copies : List Copy) → w.acked < w.sent → IsTimeout k timeout → Fate k w.clock w.acked w.harms left copies
      → Fine k (fires timeout left copies w)
  fired_fine timeout left copies more is fate = record {
    acked = h.acked;
    received = h.received;
    sent = h.sent;
    gone = more;
    behind = omega arith;
    early = h.early;
    timeout = is;
    datas_at = none_of_both w.clock copies w.datas (fate_after k w.clock w.acked w.harms left copies fate) h.datas_at;
    acks_at = h.acks_at;
    acks_soon = h.acks_soon;
    timer = (omega arith, omega (arith, is.1));
  }

  timed_fine : (o : Option ℕ) (timeout dead : ℕ) → IfSome o (λ t. InTime k w.clock t) → IsTimeout k timeout
      → Fine k (record w { timer = o; timeout = timeout; dead = dead })
  timed_fine o timeout dead is long = record {
    acked = h.acked;
    received = h.received;
    sent = h.sent;
    gone = h.gone;
    behind = h.behind;
    early = h.early;
    timeout = long;
    datas_at = h.datas_at;
    acks_at = h.acks_at;
    acks_soon = h.acks_soon;
    timer = is;
  }

  clocked_fine : (tick until : ℕ) → w.clock ≤ tick → tick < until → NoneBefore tick w.datas → NoneBefore tick w.acks
      → IfSome w.timer (λ t. tick ≤ t) → Fine k (record w { clock = tick; until = until })
  clocked_fine tick until later early datas acks timer = record {
    acked = h.acked;
    received = h.received;
    sent = h.sent;
    gone = h.gone;
    behind = h.behind;
    early = early;
    timeout = h.timeout;
    datas_at = datas;
    acks_at = acks;
    acks_soon = λ x i. let soon = h.acks_soon x i in (soon.0, omega (arith, soon.1, later));
    timer = if_some_both (λ t. tick ≤ t) (λ t. InTime k w.clock t) (λ t. InTime k tick t) w.timer (λ t low in_time. (low, omega (arith, later, in_time.1))) timer h.timer;
  }

  pub opened_fine : MayOpen k w → Fine k (opens_round w)
  opened_fine may = clocked_fine w.until (w.until + 100) (let early = h.early in omega (arith, early)) (omega arith) may.datas may.acks may.timer

  pub move_fine : (u : Lane) → Move k w u → Fine k u
  move_fine u (sent_by left copies more fate) = sent_fine left copies more fate
  move_fine u (heard_by c front back received kept left copies may fate) = heard_fine c front back received kept left copies may fate
  move_fine u (acked_by c front back among) = acked_fine c front back among
  move_fine u (fired t timeout left copies is due few more long fate) = fired_fine timeout left copies more long fate
  move_fine u (gave_up t is due many) = timed_fine None w.timeout (max w.dead 1) tt h.timeout
  move_fine u (started none) = timed_fine (Some (w.clock + w.timeout)) w.timeout w.dead (omega arith, omega (arith, h.timeout.1)) h.timeout
  move_fine u (rested all) = timed_fine None w.timeout w.dead tt h.timeout
  move_fine u (measured timeout is) = timed_fine w.timer timeout w.dead h.timer is
  move_fine u (moved tick may) = clocked_fine tick w.until may.later may.early may.datas may.acks may.timer

pub first_fine : (k : Setting) (timeout harms : ℕ) → IsTimeout k timeout → Fine k (first_lane timeout harms)
first_fine k timeout harms is = record {
  acked = omega arith;
  received = omega arith;
  sent = omega arith;
  gone = omega arith;
  behind = omega arith;
  early = omega arith;
  timeout = is;
  datas_at = λ c i. absurd i;
  acks_at = λ c i. absurd i;
  acks_soon = λ c i. absurd i;
  timer = tt;
}
