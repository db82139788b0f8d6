-- What is known of the segments, and what is owed for long waits, is kept by each move.
use Rattle.std.proofs.Common.{◌≡◌, refl, sym, ◌∙◌, subst, ℕ, suc, ◌+◌, ◌<◌, ◌≤◌, ◌⊎◌, inl, inr, ⊎_elim, List, ◌∷◌, ◌++◌, length, arith}
use Rattle.std.proofs.lemmas.Bool.{cases_lt}
use Rattle.whole_paths.specs.Lanes.Lane.{Setting, Copy, Lane, In, Mem, copy_of}
use Rattle.whole_paths.specs.Lanes.Moves.{Fate, AckFate, MayHearData, Move, sends, hears_data, hears_ack, fires}
use Rattle.whole_paths.specs.Lanes.Moves.Move.{sent_by, heard_by, acked_by, fired, gave_up, started, rested, measured, moved}
use Rattle.whole_paths.specs.Lanes.Going.{Fine, OneHas, Soon, Debt, Books}
use Rattle.whole_paths.specs.Lanes.Going.Debt.{paid, spoilt, unheard}
use Rattle.whole_paths.proofs.Lanes.Lists.{in_left, left_is, taken_is, one_more, one_taken, fate_sent, ack_fate_sent, without}

-- where a segment is
abbrev pub Place : Setting → List ℕ → Lane → ℕ → Type 0
Place k spoiled w p = (p < w.received) ⊎ (OneHas (Soon k w p) w.datas ⊎ (Mem p w.kept ⊎ Mem p spoiled))

one_later : (k : Setting) (w u : Lane) (n : ℕ) (cs : List Copy) → w.clock ≤ u.clock → OneHas (Soon k w n) cs → OneHas (Soon k u n) cs
one_later k w u n cs later one = record { copy = one.copy; among = one.among; has = (one.has.0, omega (arith, one.has.1, later)) }

module _ (k : Setting) (harms longs a r h : ℕ) (w : Lane) (fine : Fine k w) (b : Books k harms longs a r h w) where
  -- a line is used, and pays
  pays : (left : ℕ) (spoiled : List ℕ) (gap : ℕ) (u : Lane) → w.harms ≡ suc left → u.harms ≡ left
      → length spoiled + gap ≤ length b.spoiled + b.gap + 1 → Debt harms longs a r h b.spoiled b.gap w → Debt harms longs a r h spoiled gap u
  pays left spoiled gap u used is more (paid enough) = paid (omega (arith, used, is, more, enough))
  pays left spoiled gap u used is more (spoilt enough line there low high) = paid (omega (arith, used, is, more, enough))
  pays left spoiled gap u used is more (unheard enough line some all low high) = paid (omega (arith, used, is, more, enough))

  -- nothing is used, acknowledged or received
  keeps : (u : Lane) → u.harms ≡ w.harms → u.received ≡ w.received → (w.acked ≤ a → ((c : Copy) → In c w.acks → c.number ≤ a) → u.acked ≤ a)
      → ((c : Copy) → In c u.acks → In c w.acks) → Debt harms longs a r h b.spoiled b.gap w → Debt harms longs a r h b.spoiled b.gap u
  keeps u left received acked among (paid enough) = paid (omega (arith, left, enough))
  keeps u left received acked among (spoilt enough line there low high) =
      spoilt (omega (arith, left, enough)) (omega (arith, left, line)) there (omega (arith, received, low)) high
  keeps u left received acked among (unheard enough line some all low high) =
      unheard (omega (arith, left, enough)) (omega (arith, left, line)) some (λ c i. all c (among c i)) (acked low all) (omega (arith, received, high))

  -- more was sent, with these copies
  sent_place : (u : Lane) (copies : List Copy) (spoiled : List ℕ) → u.clock ≡ w.clock → u.received ≡ w.received → u.kept ≡ w.kept → u.datas ≡ copies ++ w.datas
      → ((p : ℕ) → Mem p b.spoiled → Mem p spoiled) → (p : ℕ) → Place k b.spoiled w p → Place k spoiled u p
  sent_place u copies spoiled clock received kept datas more p (inl low) = inl (omega (arith, received, low))
  sent_place u copies spoiled clock received kept datas more p (inr (inl one)) =
      inr (inl (subst (OneHas (Soon k u p)) (sym datas) (one_more (Soon k u p) copies w.datas (one_later k w u p w.datas (omega (arith, clock)) one))))
  sent_place u copies spoiled clock received kept datas more p (inr (inr (inl there))) = inr (inr (inl (subst (Mem p) (sym kept) there)))
  sent_place u copies spoiled clock received kept datas more p (inr (inr (inr there))) = inr (inr (inr (more p there)))

  -- the segment of this number is sent, after which so many are gone
  sent_books : (number left : ℕ) (copies : List Copy) (u : Lane) → Fate k w.clock number w.harms left copies → u.harms ≡ left → u.clock ≡ w.clock
      → u.received ≡ w.received → u.acked ≡ w.acked → u.kept ≡ w.kept → u.acks ≡ w.acks → u.datas ≡ copies ++ w.datas
      → ((p : ℕ) → w.acked ≤ p → p < u.gone → (p ≡ number) ⊎ (p < w.gone)) → Books k harms longs a r h u
  sent_books number left copies u fate left_is clock received acked kept acks datas gone = ⊎_elim used sent (fate_sent k w.clock number w.harms left copies fate)
    where
      newest : (w.received ≤ w.acked) ⊎ (OneHas (Soon k w w.received) w.acks ⊎ (1 ≤ b.gap)) → (u.received ≤ u.acked) ⊎ (OneHas (Soon k u u.received) u.acks ⊎ (1 ≤ b.gap))
      newest (inl all) = inl (omega (arith, received, acked, all))
      newest (inr (inl one)) =
          inr (inl (subst (λ n. OneHas (Soon k u n) u.acks) (sym received) (subst (OneHas (Soon k u w.received)) (sym acks) (one_later k w u w.received w.acks (omega (arith, clock)) one))))
      newest (inr (inr some)) = inr (inr some)

      edge : Mem u.received u.kept → ⊥
      edge there = b.sound.edge (subst (λ n. Mem n w.kept) received (subst (Mem u.received) kept there))

      used : w.harms ≡ suc left → Books k harms longs a r h u
      used one = record {
        spoiled = number ∷ b.spoiled;
        gap = b.gap;
        sound = record {
          places = λ p low high. ⊎_elim (λ same. inr (inr (inr (inl same))))
              (λ old. sent_place u copies (number ∷ b.spoiled) clock received kept datas (λ q i. inr i) p (b.sound.places p (omega (arith, acked, low)) old))
              (gone p (omega (arith, acked, low)) high);
          edge = edge;
          newest = newest b.sound.newest;
        };
        debt = pays left (number ∷ b.spoiled) b.gap u one left_is (omega arith) b.debt;
      }

      sent : (left ≡ w.harms) × In (copy_of k w.clock number) copies → Books k harms longs a r h u
      sent there = record {
        spoiled = b.spoiled;
        gap = b.gap;
        sound = record {
          places = λ p low high. ⊎_elim
              (λ same. inr (inl (record {
                copy = copy_of k w.clock number;
                among = subst (In (copy_of k w.clock number)) (sym datas) (in_left (copy_of k w.clock number) copies w.datas there.1);
                has = (sym same, omega (arith, clock));
              })))
              (λ old. sent_place u copies b.spoiled clock received kept datas (λ q i. i) p (b.sound.places p (omega (arith, acked, low)) old))
              (gone p (omega (arith, acked, low)) high);
          edge = edge;
          newest = newest b.sound.newest;
        };
        debt = keeps u (left_is ∙ there.0) received (λ low all. omega (arith, acked, low)) (λ c i. subst (In c) acks i) b.debt;
      }

  module _ (c : Copy) (front back : List Copy) (received : ℕ) (kept : List ℕ) (left : ℕ) (copies : List Copy) (may : MayHearData c front back received kept w) where
    abbrev heard : Lane
    heard = hears_data received kept (front ++ back) left copies w

    -- what isn't spoiled any more has come
    heard_place : (spoiled : List ℕ) → ((p : ℕ) → Mem p b.spoiled → (p < received) ⊎ Mem p spoiled) → (p : ℕ) → Place k b.spoiled w p → Place k spoiled heard p
    heard_place spoiled come p (inl low) = inl (omega (arith, low, may.more))
    heard_place spoiled come p (inr (inl one)) = ⊎_elim
        (λ here. ⊎_elim (λ low. inl (omega (arith, low, here.0))) (λ there. inr (inr (inl (subst (λ n. Mem n kept) here.0 there)))) may.takes)
        (λ left_one. inr (inl (one_later k w heard p (front ++ back) (omega arith) left_one)))
        (one_taken (Soon k w p) c front back w.datas may.among one)
    heard_place spoiled come p (inr (inr (inl there))) = ⊎_elim (λ low. inl low) (λ still. inr (inr (inl still))) (may.keeps p there)
    heard_place spoiled come p (inr (inr (inr there))) = ⊎_elim (λ low. inl low) (λ still. inr (inr (inr still))) (come p there)

    -- the answer is lost
    unanswered : w.harms ≡ suc left → Books k harms longs a r h heard
    unanswered used = record {
      spoiled = b.spoiled;
      gap = suc b.gap;
      sound = record {
        places = λ p low high. heard_place b.spoiled (λ q i. inr i) p (b.sound.places p low high);
        edge = may.stops;
        newest = inr (inr (omega arith));
      };
      debt = pays left b.spoiled (suc b.gap) heard used refl (omega arith) b.debt;
    }

    -- the answer is under way
    answered_books : (spoiled : List ℕ) → ((p : ℕ) → Mem p b.spoiled → (p < received) ⊎ Mem p spoiled)
        → In (copy_of k w.clock received) copies → Debt harms longs a r h spoiled 0 heard → Books k harms longs a r h heard
    answered_books spoiled come there debt = record {
      spoiled = spoiled;
      gap = 0;
      sound = record {
        places = λ p low high. heard_place spoiled come p (b.sound.places p low high);
        edge = may.stops;
        newest = inr (inl (record { copy = copy_of k w.clock received; among = in_left _ copies w.acks there; has = (refl, omega arith) }));
      };
      debt = debt;
    }

    answered_by : (left ≡ w.harms) × In (copy_of k w.clock received) copies → Debt harms longs a r h b.spoiled b.gap w → Books k harms longs a r h heard
    answered_by there (paid enough) = answered_books b.spoiled (λ p i. inr i) there.1 (paid (omega (arith, there.0, enough)))
    answered_by there (unheard enough line some all low high) = answered_books b.spoiled (λ p i. inr i) there.1 (paid (omega (arith, there.0, enough, some)))
    answered_by there (spoilt enough line among low high) = ⊎_elim
        (λ come.
        let rest = without a b.spoiled among in
        answered_books rest.0 (λ p i. ⊎_elim (λ same. inl (omega (arith, same, come))) (λ still. inr still) (rest.2 p i)) there.1 (paid (omega (arith, there.0, enough, rest.1))))
        (λ still. answered_books b.spoiled (λ p i. inr i) there.1 (spoilt (omega (arith, there.0, enough)) (omega (arith, there.0, line)) among still high))
        (cases_lt a received)

    heard_books : AckFate k w.clock received w.harms left copies → Books k harms longs a r h heard
    heard_books fate = ⊎_elim unanswered (λ there. answered_by there b.debt) (ack_fate_sent k w.clock received w.harms left copies fate)

  acked_books : (c : Copy) (front back : List Copy) → w.acks ≡ front ++ c ∷ back → Books k harms longs a r h (hears_ack c (front ++ back) w)
  acked_books c front back among = record {
    spoiled = b.spoiled;
    gap = b.gap;
    sound = record { places = places; edge = b.sound.edge; newest = newest b.sound.newest };
    debt = keeps u refl refl (λ low all. let one = all c (taken_is c front back w.acks among) in omega (arith, low, one)) (λ x i. left_is c x front back w.acks among i) b.debt;
  }
    where
      u : Lane
      u = hears_ack c (front ++ back) w

      places : (p : ℕ) → u.acked ≤ p → p < u.gone → Place k b.spoiled u p
      places p low high = at_once (b.sound.places p (omega (arith, low)) (omega (arith, low, high)))
        where
          at_once : Place k b.spoiled w p → Place k b.spoiled u p
          at_once (inl come) = inl come
          at_once (inr (inl one)) = inr (inl (one_later k w u p w.datas (omega arith) one))
          at_once (inr (inr there)) = inr (inr there)

      newest : (w.received ≤ w.acked) ⊎ (OneHas (Soon k w w.received) w.acks ⊎ (1 ≤ b.gap)) → (u.received ≤ u.acked) ⊎ (OneHas (Soon k u u.received) u.acks ⊎ (1 ≤ b.gap))
      newest (inl all) = inl (omega (arith, all))
      newest (inr (inl one)) = ⊎_elim (λ here. inl (omega (arith, here.0))) (λ left_one. inr (inl (one_later k w u w.received (front ++ back) (omega arith) left_one)))
          (one_taken (Soon k w w.received) c front back w.acks among one)
      newest (inr (inr some)) = inr (inr some)

  -- timer and timeout change, and the clock goes on
  pub later_books : (u : Lane) → w.clock ≤ u.clock → u.acked ≡ w.acked → u.gone ≡ w.gone → u.received ≡ w.received → u.kept ≡ w.kept → u.harms ≡ w.harms
      → u.datas ≡ w.datas → u.acks ≡ w.acks → Books k harms longs a r h u
  later_books u later acked gone received kept left datas acks = record {
    spoiled = b.spoiled;
    gap = b.gap;
    sound = record {
      places = λ p low high. place p (b.sound.places p (omega (arith, acked, low)) (omega (arith, gone, high)));
      edge = λ there. b.sound.edge (subst (λ n. Mem n w.kept) received (subst (Mem u.received) kept there));
      newest = newest b.sound.newest;
    };
    debt = keeps u left received (λ low all. omega (arith, acked, low)) (λ x i. subst (In x) acks i) b.debt;
  }
    where
      place : (p : ℕ) → Place k b.spoiled w p → Place k b.spoiled u p
      place p (inl low) = inl (omega (arith, received, low))
      place p (inr (inl one)) = inr (inl (subst (OneHas (Soon k u p)) (sym datas) (one_later k w u p w.datas later one)))
      place p (inr (inr (inl there))) = inr (inr (inl (subst (Mem p) (sym kept) there)))
      place p (inr (inr (inr there))) = inr (inr (inr there))

      newest : (w.received ≤ w.acked) ⊎ (OneHas (Soon k w w.received) w.acks ⊎ (1 ≤ b.gap)) → (u.received ≤ u.acked) ⊎ (OneHas (Soon k u u.received) u.acks ⊎ (1 ≤ b.gap))
      newest (inl all) = inl (omega (arith, received, acked, all))
      newest (inr (inl one)) =
          inr (inl (subst (λ n. OneHas (Soon k u n) u.acks) (sym received) (subst (OneHas (Soon k u w.received)) (sym acks) (one_later k w u w.received w.acks later one))))
      newest (inr (inr some)) = inr (inr some)

  pub move_books : (u : Lane) → Move k w u → Books k harms longs a r h u
  move_books u (sent_by left copies more fate) =
      sent_books w.gone left copies (sends left copies w) fate refl refl refl refl refl refl refl
      (λ p low high. ⊎_elim (λ below. inr below) (λ above. inl (omega (arith, high, above))) (cases_lt p w.gone))
  move_books u (heard_by c front back received kept left copies may fate) = heard_books c front back received kept left copies may fate
  move_books u (acked_by c front back among) = acked_books c front back among
  move_books u (fired t timeout left copies is due few more long fate) =
      sent_books w.acked left copies (fires timeout left copies w) fate refl refl refl refl refl refl refl (λ p low high. inl (omega (arith, low, high)))
  move_books u (gave_up t is due many) = later_books _ (omega arith) refl refl refl refl refl refl refl
  move_books u (started none) = later_books _ (omega arith) refl refl refl refl refl refl refl
  move_books u (rested all) = later_books _ (omega arith) refl refl refl refl refl refl refl
  move_books u (measured timeout is) = later_books _ (omega arith) refl refl refl refl refl refl refl
  move_books u (moved tick may) = later_books _ may.later refl refl refl refl refl refl refl
