-- What is awaited is still awaited after each move, or there is news.
use Rattle.std.proofs.Common.{◌≡◌, refl, sym, ◌∙◌, subst, ℕ, ◌+◌, ◌<◌, ◌≤◌, nat_lt, cond, Bool, true, false, ◌⊎◌, inl, inr, ⊎_elim, List, ◌∷◌, ◌++◌, Some, None, arith}
use Rattle.std.proofs.lemmas.Bool.{cases_lt, ltb-true}
use Rattle.whole_paths.specs.Lanes.Lane.{Setting, Copy, Lane, Mem, copy_of}
use Rattle.whole_paths.specs.Lanes.Moves.{Fate, AckFate, MayHearData, MayOpen, Move, sends, hears_data, hears_ack, fires, starts, rests}
use Rattle.whole_paths.specs.Lanes.Moves.Move.{sent_by, heard_by, acked_by, fired, gave_up, started, rested, measured, moved}
use Rattle.whole_paths.specs.Lanes.Going.{Fine, OneHas, News, Awaits}
use Rattle.whole_paths.specs.Lanes.Going.News.{more_acked, more_received, line_used, died}
use Rattle.whole_paths.specs.Lanes.Going.Awaits.{news, waits, flies, answered}
use Rattle.whole_paths.proofs.Lanes.Lists.{in_left, one_more, one_taken, taken_is, fate_left, fate_sent, ack_fate_left, ack_fate_sent, at_some}

pub record Grows (w u : Lane) : Type 0 where
  pub acked : w.acked ≤ u.acked
  pub received : w.received ≤ u.received
  pub left : u.harms ≤ w.harms
  pub dead : w.dead ≤ u.dead
  pub until : u.until ≡ w.until

pub news_on : (a r h : ℕ) (w u : Lane) → Grows w u → News a r h w → News a r h u
news_on a r h w u g (more_acked more) = more_acked (omega (arith, more, g.acked))
news_on a r h w u g (more_received more) = more_received (omega (arith, more, g.received))
news_on a r h w u g (line_used fewer) = line_used (omega (arith, fewer, g.left))
news_on a r h w u g (died dead) = died (omega (arith, dead, g.dead))

grows : (w u : Lane) → w.acked ≤ u.acked → w.received ≤ u.received → u.harms ≤ w.harms → w.dead ≤ u.dead → u.until ≡ w.until → Grows w u
grows w u acked received left dead until = record { acked = acked; received = received; left = left; dead = dead; until = until }

pub move_grows : (k : Setting) (w u : Lane) → Move k w u → Grows w u
move_grows k w u (sent_by left copies more fate) =
    grows w _ (omega arith) (omega arith) (fate_left k w.clock w.gone w.harms left copies fate) (omega arith) refl
move_grows k w u (heard_by c front back received kept left copies may fate) =
    grows w _ (omega arith) may.more (ack_fate_left k w.clock received w.harms left copies fate) (omega arith) refl
move_grows k w u (acked_by c front back among) = grows w _ (omega arith) (omega arith) (omega arith) (omega arith) refl
move_grows k w u (fired t timeout left copies is due few more long fate) =
    grows w _ (omega arith) (omega arith) (fate_left k w.clock w.acked w.harms left copies fate) (omega arith) refl
move_grows k w u (gave_up t is due many) = grows w _ (omega arith) (omega arith) (omega arith) (omega arith) refl
move_grows k w u (started none) = grows w _ (omega arith) (omega arith) (omega arith) (omega arith) refl
move_grows k w u (rested all) = grows w _ (omega arith) (omega arith) (omega arith) (omega arith) refl
move_grows k w u (measured timeout is) = grows w _ (omega arith) (omega arith) (omega arith) (omega arith) refl
move_grows k w u (moved tick may) = grows w _ (omega arith) (omega arith) (omega arith) (omega arith) refl

pub record Since (a r h : ℕ) (w : Lane) : Type 0 where
  pub acked : a ≤ w.acked
  pub received : r ≤ w.received
  pub left : w.harms ≤ h

module _ (k : Setting) (a r h x : ℕ) (w : Lane) (fine : Fine k w) (since : Since a r h w) where
  abbrev Coming : Copy → Type 0
  Coming c = (c.number ≡ a) × (c.at + k.delay ≤ x)

  abbrev Answers : Copy → Type 0
  Answers c = (a < c.number) × (c.at ≤ x)

  -- What is awaited came, or it came before and is acknowledged again; or a line was used.
  awaited_came : (c : Copy) (front back : List Copy) (received : ℕ) (kept : List ℕ) (left : ℕ) (copies : List Copy) → MayHearData c front back received kept w
      → AckFate k w.clock received w.harms left copies → Coming c → Awaits k a r h x (hears_data received kept (front ++ back) left copies w)
  awaited_came c front back received kept left copies may fate coming = ⊎_elim
      (λ used. news (line_used (omega (arith, used, since.left))))
      (λ there. answered (record { copy = copy_of k w.clock received; among = in_left _ copies w.acks there.1; has = (above, omega (arith, now, coming.1)) }))
      (ack_fate_sent k w.clock received w.harms left copies fate)
    where
      now : w.clock ≤ c.at
      now = fine.datas_at c (taken_is c front back w.datas may.among)

      never : received ≤ a → (c.number < received) ⊎ Mem c.number kept → ⊥
      never high takes =
          let same : c.number ≡ received = omega (arith, coming.0, high, since.acked, fine.acked, may.more) in
          ⊎_elim (λ low. absurd (omega (arith, low, same))) (λ there. may.stops (subst (λ n. Mem n kept) same there)) takes

      above : a < received
      above = ⊎_elim (λ low. low) (λ high. absurd (never high may.takes)) (cases_lt a received)

  heard_awaits : (c : Copy) (front back : List Copy) (received : ℕ) (kept : List ℕ) (left : ℕ) (copies : List Copy) → MayHearData c front back received kept w
      → AckFate k w.clock received w.harms left copies → Awaits k a r h x w → News a r h w ⊎ Awaits k a r h x (hears_data received kept (front ++ back) left copies w)
  heard_awaits c front back received kept left copies may fate (news n) = inl n
  heard_awaits c front back received kept left copies may fate (waits t is in_time more) = inr (waits t is in_time more)
  heard_awaits c front back received kept left copies may fate (flies one) = inr (⊎_elim
      (λ coming. awaited_came c front back received kept left copies may fate coming)
      (λ left_one. flies left_one)
      (one_taken Coming c front back w.datas may.among one))
  heard_awaits c front back received kept left copies may fate (answered one) = inr (answered (one_more Answers copies w.acks one))

  acked_awaits : (c : Copy) (front back : List Copy) → w.acks ≡ front ++ c ∷ back → Awaits k a r h x w → News a r h w ⊎ Awaits k a r h x (hears_ack c (front ++ back) w)
  acked_awaits c front back among (news n) = inl n
  acked_awaits c front back among (waits t is in_time more) = inr (either (nat_lt w.acked c.number) refl)
    where
      either : (b : Bool) → nat_lt w.acked c.number ≡ b → Awaits k a r h x (record (hears_ack c (front ++ back) w) { timer = cond b None w.timer })
      either true up = news (more_acked (let high = ltb-true w.acked c.number up in omega (arith, high, since.acked)))
      either false up = waits t is in_time more
  acked_awaits c front back among (flies one) = inr (flies one)
  acked_awaits c front back among (answered one) = inr (⊎_elim
      (λ here. news (more_acked (omega (arith, here.0))))
      (λ left_one. answered left_one)
      (one_taken Answers c front back w.acks among one))

  fired_awaits : (timeout left : ℕ) (copies : List Copy) → Fate k w.clock w.acked w.harms left copies → Awaits k a r h x w
      → News a r h w ⊎ Awaits k a r h x (fires timeout left copies w)
  fired_awaits timeout left copies fate (news n) = inl n
  fired_awaits timeout left copies fate (waits s is_s in_time more) = ⊎_elim
      (λ low. inl (more_acked low))
      (λ high. inr (⊎_elim
      (λ used. news (line_used (omega (arith, used, since.left))))
      (λ there. flies (record { copy = copy_of k w.clock w.acked; among = in_left _ copies w.datas there.1; has = (omega (arith, high, since.acked), omega (arith, in_time, now)) }))
      (fate_sent k w.clock w.acked w.harms left copies fate)))
      (cases_lt a w.acked)
    where
      now : w.clock ≤ s
      now = (at_some (λ y. (w.clock ≤ y) × (y ≤ w.clock + k.most)) w.timer s is_s fine.timer).0
  fired_awaits timeout left copies fate (flies one) = inr (flies (one_more Coming copies w.datas one))
  fired_awaits timeout left copies fate (answered one) = inr (answered one)

  -- lists and timer are the same
  same_awaits : (u : Lane) → u.timer ≡ w.timer → u.datas ≡ w.datas → u.acks ≡ w.acks → w.sent ≤ u.sent → Awaits k a r h x w → News a r h w ⊎ Awaits k a r h x u
  same_awaits u timer datas acks sent (news n) = inl n
  same_awaits u timer datas acks sent (waits t is in_time more) = inr (waits t (timer ∙ is) in_time (omega (arith, more, sent)))
  same_awaits u timer datas acks sent (flies one) = inr (flies (subst (OneHas Coming) (sym datas) one))
  same_awaits u timer datas acks sent (answered one) = inr (answered (subst (OneHas Answers) (sym acks) one))

  -- the timer changes, which didn't run, or had no reason to
  timer_awaits : (u : Lane) → ((t : ℕ) → w.timer ≡ Some t → a < w.sent → News a r h u) → u.datas ≡ w.datas → u.acks ≡ w.acks → Awaits k a r h x w → News a r h w ⊎ Awaits k a r h x u
  timer_awaits u none datas acks (news n) = inl n
  timer_awaits u none datas acks (waits t is in_time more) = inr (news (none t is more))
  timer_awaits u none datas acks (flies one) = inr (flies (subst (OneHas Coming) (sym datas) one))
  timer_awaits u none datas acks (answered one) = inr (answered (subst (OneHas Answers) (sym acks) one))

  sent_awaits : (left : ℕ) (copies : List Copy) → Awaits k a r h x w → News a r h w ⊎ Awaits k a r h x (sends left copies w)
  sent_awaits left copies (news n) = inl n
  sent_awaits left copies (waits t is in_time more) = inr (waits t is in_time (omega (arith, more)))
  sent_awaits left copies (flies one) = inr (flies (one_more Coming copies w.datas one))
  sent_awaits left copies (answered one) = inr (answered one)

  by_move : (u : Lane) → Move k w u → Awaits k a r h x w → News a r h w ⊎ Awaits k a r h x u
  by_move u (sent_by left copies more fate) b = sent_awaits left copies b
  by_move u (heard_by c front back received kept left copies may fate) b = heard_awaits c front back received kept left copies may fate b
  by_move u (acked_by c front back among) b = acked_awaits c front back among b
  by_move u (fired t timeout left copies is due few more long fate) b = fired_awaits timeout left copies fate b
  by_move u (gave_up t is due many) b = inr (news (died (omega arith)))
  by_move u (started none) b = timer_awaits (starts w) (λ t is most. absurd (let wrong : None ≡ Some t = sym none ∙ is in cc)) refl refl b
  by_move u (rested all) b = timer_awaits (rests w) (λ t is most. more_acked (omega (arith, most, all))) refl refl b
  by_move u (measured timeout is) b = same_awaits _ refl refl refl (omega arith) b
  by_move u (moved tick may) b = same_awaits _ refl refl refl (omega arith) b

  pub move_awaits : (u : Lane) → Move k w u → Awaits k a r h x w → Awaits k a r h x u
  move_awaits u move b = ⊎_elim (λ n. news (news_on a r h w u (move_grows k w u move) n)) (λ y. y) (by_move u move b)

-- as a round ends that reaches past the tick there is news
pub news_due : (k : Setting) (a r h x : ℕ) (w : Lane) → MayOpen k w → x < w.until → Awaits k a r h x w → News a r h w
news_due k a r h x w may past (news n) = n
news_due k a r h x w may past (waits t is in_time more) = let late = at_some (λ y. w.until ≤ y) w.timer t is may.timer in absurd (omega (arith, late, in_time, past))
news_due k a r h x w may past (flies one) = let late = may.datas one.copy one.among in absurd (omega (arith, late, one.has.1, past))
news_due k a r h x w may past (answered one) = let late = may.acks one.copy one.among in absurd (omega (arith, late, one.has.1, past))
