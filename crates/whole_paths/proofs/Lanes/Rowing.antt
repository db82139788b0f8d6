-- Of the expiries in a row each has used a line, but for the last one; so no end gives up where there are four lines at most.
use Rattle.std.proofs.Common.{◌≡◌, refl, sym, ◌∙◌, subst, ℕ, ◌+◌, ◌<◌, ◌≤◌, ◌⊎◌, inl, inr, ⊎_elim, List, ◌++◌, Some, IfSome, arith}
use Rattle.whole_paths.specs.Lanes.Lane.{Setting, Copy, Lane, copy_of}
use Rattle.whole_paths.specs.Lanes.Moves.{Fate, AckFate, IsTimeout, MayHearData, Move, sends, hears_data, fires, opens_round}
use Rattle.whole_paths.specs.Lanes.Moves.Move.{sent_by, heard_by, acked_by, fired, gave_up, started, rested, measured, moved}
use Rattle.whole_paths.specs.Lanes.Going.{Fine, OneHas, RowIs}
use Rattle.whole_paths.specs.Lanes.Going.RowIs.{quiet, paid, comes}
use Rattle.whole_paths.specs.Lanes.Laws.{HasRanges}
use Rattle.whole_paths.proofs.Lanes.Lists.{in_left, one_more, one_taken, taken_is, fate_left, fate_sent, ack_fate_left, ack_fate_sent, at_some}

module _ (k : Setting) (ranges : HasRanges k) (harms : ℕ) (w : Lane) (fine : Fine k w) (few : w.harms ≤ harms) where
  abbrev Coming : ℕ → Copy → Type 0
  Coming x c = c.at + k.delay ≤ x

  abbrev Answers : ℕ → Copy → Type 0
  Answers x c = c.at ≤ x

  sent_row : (left : ℕ) (copies : List Copy) → Fate k w.clock w.gone w.harms left copies → RowIs k harms w → RowIs k harms (sends left copies w)
  sent_row left copies fate (quiet none) = quiet none
  sent_row left copies fate (paid enough) = paid (let down = fate_left k w.clock w.gone w.harms left copies fate in omega (arith, enough, down))
  sent_row left copies fate (comes x counted soon timer one) =
      comes x (let down = fate_left k w.clock w.gone w.harms left copies fate in omega (arith, counted, down)) soon timer
      (⊎_elim (λ bytes. inl (one_more (Coming x) copies w.datas bytes)) (λ ack. inr ack) one)

  heard_row : (c : Copy) (front back : List Copy) (received : ℕ) (kept : List ℕ) (left : ℕ) (copies : List Copy) → MayHearData c front back received kept w
      → AckFate k w.clock received w.harms left copies → RowIs k harms w → RowIs k harms (hears_data received kept (front ++ back) left copies w)
  heard_row c front back received kept left copies may fate (quiet none) = quiet none
  heard_row c front back received kept left copies may fate (paid enough) =
      paid (let down = ack_fate_left k w.clock received w.harms left copies fate in omega (arith, enough, down))
  heard_row c front back received kept left copies may fate (comes x counted soon timer one) = ⊎_elim
      (λ bytes. ⊎_elim here (λ left_one. still (inl left_one)) (one_taken (Coming x) c front back w.datas may.among bytes))
      (λ ack. still (inr (one_more (Answers x) copies w.acks ack)))
      one
    where
      down : left ≤ w.harms
      down = ack_fate_left k w.clock received w.harms left copies fate

      now : w.clock ≤ c.at
      now = fine.datas_at c (taken_is c front back w.datas may.among)

      still : OneHas (Coming x) (front ++ back) ⊎ OneHas (Answers x) (copies ++ w.acks) → RowIs k harms (hears_data received kept (front ++ back) left copies w)
      still o = comes x (omega (arith, counted, down)) soon timer o

      here : Coming x c → RowIs k harms (hears_data received kept (front ++ back) left copies w)
      here coming = ⊎_elim
          (λ used. paid (omega (arith, counted, used)))
          (λ there. still (inr (record { copy = copy_of k w.clock received; among = in_left _ copies w.acks there.1; has = omega (arith, now, coming) })))
          (ack_fate_sent k w.clock received w.harms left copies fate)

  -- the timer doesn't run out while something comes
  not_yet : (t x : ℕ) → w.timer ≡ Some t → t ≤ w.clock → IfSome w.timer (λ y. x < y) → OneHas (Coming x) w.datas ⊎ OneHas (Answers x) w.acks → ⊥
  not_yet t x is due timer one =
      let late : x < t = at_some (λ y. x < y) w.timer t is timer in
      ⊎_elim (λ bytes. let now = fine.datas_at bytes.copy bytes.among in absurd (omega (arith, late, due, now, bytes.has)))
      (λ ack. let now = fine.acks_at ack.copy ack.among in absurd (omega (arith, late, due, now, ack.has))) one

  -- all expiries up to now are paid for
  all_paid : (t : ℕ) → w.timer ≡ Some t → t ≤ w.clock → RowIs k harms w → w.expiries + w.harms ≤ harms
  all_paid t is due (quiet none) = omega (arith, none, few)
  all_paid t is due (paid enough) = enough
  all_paid t is due (comes x counted soon timer one) = absurd (not_yet t x is due timer one)

  fired_row : (t timeout left : ℕ) (copies : List Copy) → w.timer ≡ Some t → t ≤ w.clock → IsTimeout k timeout
      → Fate k w.clock w.acked w.harms left copies → RowIs k harms w → RowIs k harms (fires timeout left copies w)
  fired_row t timeout left copies is due long fate row =
      let all = all_paid t is due row in
      ⊎_elim (λ used. paid (omega (arith, all, used)))
      (λ there. comes (w.clock + k.delay + k.delay) (omega (arith, all, there.0)) (omega arith) (omega (arith, long.0, ranges.delay))
      (inl (record { copy = copy_of k w.clock w.acked; among = in_left _ copies w.datas there.1; has = omega arith })))
      (fate_sent k w.clock w.acked w.harms left copies fate)

  -- only clock and timer change
  timed_row : (u : Lane) → w.clock ≤ u.clock → u.expiries ≡ w.expiries → u.harms ≡ w.harms → u.datas ≡ w.datas → u.acks ≡ w.acks
      → ((x : ℕ) → x ≤ w.clock + k.delay + k.delay → IfSome w.timer (λ t. x < t) → IfSome u.timer (λ t. x < t)) → RowIs k harms w → RowIs k harms u
  timed_row u later row left datas acks timer (quiet none) = quiet (row ∙ none)
  timed_row u later row left datas acks timer (paid enough) = paid (omega (arith, row, left, enough))
  timed_row u later row left datas acks timer (comes x counted soon late one) =
      comes x (omega (arith, row, left, counted)) (omega (arith, soon, later)) (timer x soon late)
      (⊎_elim (λ bytes. inl (subst (OneHas (Coming x)) (sym datas) bytes)) (λ ack. inr (subst (OneHas (Answers x)) (sym acks) ack)) one)

  -- six expiries in a row take five lines
  never : harms ≤ 4 → (t : ℕ) → w.timer ≡ Some t → t ≤ w.clock → 5 ≤ w.expiries → RowIs k harms w → ⊥
  never fewer t is due many row = let all = all_paid t is due row in absurd (omega (arith, all, many, fewer))

  pub move_row : harms ≤ 4 → (u : Lane) → Move k w u → RowIs k harms w → RowIs k harms u
  move_row fewer u (sent_by left copies more fate) row = sent_row left copies fate row
  move_row fewer u (heard_by c front back received kept left copies may fate) row = heard_row c front back received kept left copies may fate row
  move_row fewer u (acked_by c front back among) row = quiet refl
  move_row fewer u (fired t timeout left copies is due some more long fate) row = fired_row t timeout left copies is due long fate row
  move_row fewer u (gave_up t is due many) row = absurd (never fewer t is due many row)
  move_row fewer u (started none) row =
      timed_row _ (omega arith) refl refl refl refl (λ x soon timer. omega (arith, soon, ranges.delay, fine.timeout.0)) row
  move_row fewer u (rested all) row = timed_row _ (omega arith) refl refl refl refl (λ x soon timer. tt) row
  move_row fewer u (measured timeout is) row = timed_row _ (omega arith) refl refl refl refl (λ x soon timer. timer) row
  move_row fewer u (moved tick may) row = timed_row _ may.later refl refl refl refl (λ x soon timer. timer) row

  pub opened_row : RowIs k harms w → RowIs k harms (opens_round w)
  opened_row row = timed_row _ (let early = fine.early in omega (arith, early)) refl refl refl refl (λ x soon timer. timer) row

  -- no end gives up
  pub move_alive : harms ≤ 4 → (u : Lane) → Move k w u → RowIs k harms w → w.dead ≡ 0 → u.dead ≡ 0
  move_alive fewer u (sent_by left copies more fate) row alive = alive
  move_alive fewer u (heard_by c front back received kept left copies may fate) row alive = alive
  move_alive fewer u (acked_by c front back among) row alive = alive
  move_alive fewer u (fired t timeout left copies is due some more long fate) row alive = alive
  move_alive fewer u (gave_up t is due many) row alive = absurd (never fewer t is due many row)
  move_alive fewer u (started none) row alive = alive
  move_alive fewer u (rested all) row alive = alive
  move_alive fewer u (measured timeout is) row alive = alive
  move_alive fewer u (moved tick may) row alive = alive
