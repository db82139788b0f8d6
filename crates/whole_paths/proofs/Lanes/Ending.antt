-- News come in time, each long wait is paid for, and so all is acknowledged.
use Rattle.std.proofs.Common.{◌≡◌, refl, sym, ◌∙◌, subst, ℕ, zero, suc, ◌+◌, ◌*◌, ◌<◌, ◌≤◌, ◌⊎◌, inl, inr, ⊎_elim, [], length, arith}
use Rattle.std.proofs.lemmas.Bool.{cases_lt}
use Rattle.whole_paths.specs.Lanes.Lane.{Setting, Copy, Lane, In, Mem, first_lane}
use Rattle.whole_paths.specs.Lanes.Moves.{IsTimeout, MayOpen, Move, Run, opens_round}
use Rattle.whole_paths.specs.Lanes.Moves.Run.{stays, goes, opens}
use Rattle.whole_paths.specs.Lanes.Going.{Fine, OneHas, Soon, News, Awaits, Debt, Books, IsOver, Lives, Paced, short, long, deadline}
use Rattle.whole_paths.specs.Lanes.Going.News.{more_acked, more_received, line_used, died}
use Rattle.whole_paths.specs.Lanes.Going.Awaits.{news, waits, flies, answered}
use Rattle.whole_paths.specs.Lanes.Going.Debt.{paid, spoilt, unheard}
use Rattle.whole_paths.specs.Lanes.Going.RowIs.{quiet}
use Rattle.whole_paths.specs.Lanes.Laws.{HasRanges, Enough, LossyLanesEnd, LossyLanesFinish}
use Rattle.whole_paths.proofs.Lanes.Lists.{at_some, some_above, some_length}
use Rattle.whole_paths.proofs.Lanes.Fining.{InTime, move_fine, opened_fine, first_fine}
use Rattle.whole_paths.proofs.Lanes.Awaiting.{Grows, move_grows, move_awaits, news_due}
use Rattle.whole_paths.proofs.Lanes.Rowing.{move_row, opened_row, move_alive}
use Rattle.whole_paths.proofs.Lanes.Sounding.{Place, move_books, later_books}

-- a function that only rises rises over many steps
rises : (f : ℕ → ℕ) → ((n : ℕ) → f n ≤ f (suc n)) → (n m : ℕ) → n ≤ m → f n ≤ f m
rises f up n zero below = let none : n ≡ 0 = omega (arith, below) in subst (λ x. f x ≤ f 0) (sym none) (omega arith)
rises f up n (suc m) below = ⊎_elim
    (λ low. let rest = rises f up n m (omega (arith, low)) in let last = up m in omega (arith, rest, last))
    (λ high. let is : suc m ≡ n = omega (arith, below, high) in subst (λ x. f x ≤ f (suc m)) is (omega arith))
    (cases_lt n (suc m))

short_up : (k : Setting) (n m : ℕ) → n ≤ m → short k n ≤ short k m
short_up k = rises (short k) (λ n. omega arith)

long_up : (k : Setting) (n m : ℕ) → n ≤ m → long k n ≤ long k m
long_up k = rises (long k) (λ n. omega arith)

-- where a run is as so many rounds have ended
record Stands (k : Setting) (harms n : ℕ) (w : Lane) : Type 0 where
  fine : Fine k w
  few : w.harms ≤ harms
  until : w.until ≡ 100 * n + 100
  goes_on : IsOver k w ⊎ Paced k harms w

module _ (k : Setting) (harms n : ℕ) (w : Lane) (s : Stands k harms n w) where
  paced_on : (u : Lane) → Move k w u → Grows w u → Paced k harms w → Paced k harms u
  paced_on u move g p = record {
    acked = p.acked;
    received = p.received;
    left = p.left;
    tick = p.tick;
    count = p.count;
    longs = p.longs;
    books = move_books k harms p.longs p.acked p.received p.left w s.fine p.books u move;
    since_acked = omega (arith, p.since_acked, g.acked);
    since_received = omega (arith, p.since_received, g.received);
    since_left = omega (arith, p.since_left, g.left);
    awaits = move_awaits k p.acked p.received p.left p.tick w s.fine (record { acked = p.since_acked; received = p.since_received; left = p.since_left }) u move p.awaits;
    counted = p.counted;
    in_time = p.in_time;
    now = omega (arith, p.now, g.until);
  }

  over_on : (u : Lane) → Grows w u → IsOver k w → IsOver k u
  over_on u g (inl all) = inl (omega (arith, all, g.acked))
  over_on u g (inr dead) = inr (omega (arith, dead, g.dead))

  move_stands : (u : Lane) → Move k w u → Stands k harms n u
  move_stands u move =
      let g = move_grows k w u move in
      record {
        fine = move_fine k w s.fine u move;
        few = omega (arith, s.few, g.left);
        until = g.until ∙ s.until;
        goes_on = ⊎_elim (λ over. inl (over_on u g over)) (λ p. inr (paced_on u move g p)) s.goes_on;
      }

  module _ (may : MayOpen k w) (p : Paced k harms w) where
    -- while the wait goes on
    waits_on : w.until ≤ p.tick → Paced k harms (opens_round w)
    waits_on still_waits = record {
      acked = p.acked;
      received = p.received;
      left = p.left;
      tick = p.tick;
      count = p.count;
      longs = p.longs;
      books = later_books k harms p.longs p.acked p.received p.left w s.fine p.books (opens_round w) (let early = s.fine.early in omega (arith, early)) refl refl refl refl refl refl refl;
      since_acked = p.since_acked;
      since_received = p.since_received;
      since_left = p.since_left;
      awaits = still p.awaits;
      counted = p.counted;
      in_time = p.in_time;
      now = omega (arith, still_waits, p.in_time);
    }
      where
        same : News p.acked p.received p.left w → News p.acked p.received p.left (opens_round w)
        same (more_acked more) = more_acked more
        same (more_received more) = more_received more
        same (line_used fewer) = line_used fewer
        same (died dead) = died dead

        still : Awaits k p.acked p.received p.left p.tick w → Awaits k p.acked p.received p.left p.tick (opens_round w)
        still (news m) = news (same m)
        still (waits t is in_time more) = waits t is in_time more
        still (flies one) = flies one
        still (answered one) = answered one

    -- after news nothing is owed, where the end lives
    owes_none : w.dead ≡ 0 → News p.acked p.received p.left w → Debt harms p.longs p.acked p.received p.left p.books.spoiled p.books.gap w
        → p.longs + (length p.books.spoiled + p.books.gap) + 2 * w.harms ≤ 2 * harms
    owes_none alive m (paid enough) = enough
    owes_none alive (more_acked more) (spoilt enough line there low high) = let order = s.fine.acked in absurd (omega (arith, more, low, order))
    owes_none alive (more_received more) (spoilt enough line there low high) = absurd (omega (arith, more, low, high))
    owes_none alive (line_used fewer) (spoilt enough line there low high) = absurd (omega (arith, fewer, line))
    owes_none alive (more_acked more) (unheard enough line some all low high) = absurd (omega (arith, more, low))
    owes_none alive (more_received more) (unheard enough line some all low high) = absurd (omega (arith, more, high))
    owes_none alive (line_used fewer) (unheard enough line some all low high) = absurd (omega (arith, fewer, line))
    owes_none alive (died dead) (spoilt enough line there low high) = absurd (omega (arith, dead, alive))
    owes_none alive (died dead) (unheard enough line some all low high) = absurd (omega (arith, dead, alive))

    counted_more : w.dead ≡ 0 → News p.acked p.received p.left w → suc p.count + w.harms ≤ w.acked + w.received + harms + 1
    counted_more alive (more_acked more) = omega (arith, p.counted, more, p.since_received, p.since_left)
    counted_more alive (more_received more) = omega (arith, p.counted, more, p.since_acked, p.since_left)
    counted_more alive (line_used fewer) = omega (arith, p.counted, fewer, p.since_acked, p.since_received)
    counted_more alive (died dead) = absurd (omega (arith, dead, alive))

    module _ (alive : w.dead ≡ 0) (m : News p.acked p.received p.left w) where
      enough : p.longs + (length p.books.spoiled + p.books.gap) + 2 * w.harms ≤ 2 * harms
      enough = owes_none alive m p.books.debt

      -- the books as the next round begins, with this debt
      books_with : (longs : ℕ) → Debt harms longs w.acked w.received w.harms p.books.spoiled p.books.gap w → Books k harms longs w.acked w.received w.harms (opens_round w)
      books_with longs debt =
          later_books k harms longs w.acked w.received w.harms w s.fine (record { spoiled = p.books.spoiled; gap = p.books.gap; sound = p.books.sound; debt = debt }) (opens_round w)
          (let early = s.fine.early in omega (arith, early)) refl refl refl refl refl refl refl

      paced : (longs tick : ℕ) → Debt harms longs w.acked w.received w.harms p.books.spoiled p.books.gap w → Awaits k w.acked w.received w.harms tick (opens_round w)
          → tick ≤ deadline k (suc p.count) longs → w.until ≤ deadline k (suc p.count) longs → Paced k harms (opens_round w)
      paced longs tick debt awaits in_time now = record {
        acked = w.acked;
        received = w.received;
        left = w.harms;
        tick = tick;
        count = suc p.count;
        longs = longs;
        books = books_with longs debt;
        since_acked = omega arith;
        since_received = omega arith;
        since_left = omega arith;
        awaits = awaits;
        counted = counted_more alive m;
        in_time = in_time;
        now = omega (arith, now);
      }

      soon : Awaits k w.acked w.received w.harms (w.until + k.delay + k.delay) (opens_round w) → Paced k harms (opens_round w)
      soon awaits = paced p.longs (w.until + k.delay + k.delay) (paid enough) awaits (omega (arith, p.now)) (omega (arith, p.now))

      at_length : w.acked < w.sent → Debt harms (suc p.longs) w.acked w.received w.harms p.books.spoiled p.books.gap w → Paced k harms (opens_round w)
      at_length more debt =
          let runs = may.timed alive more in
          let late = at_some (λ t. InTime k w.clock t) w.timer runs.0 runs.1 s.fine.timer in
          paced (suc p.longs) (runs.0 + k.delay + k.delay) debt (waits runs.0 runs.1 (omega arith) more)
          (omega (arith, late.1, s.fine.early, p.now)) (omega (arith, p.now))

      -- what came isn't all acknowledged
      unacked : w.acked < w.received → Paced k harms (opens_round w)
      unacked more = ⊎_elim
          (λ (one : OneHas (λ c. w.acked < c.number) w.acks).
          let due = s.fine.acks_soon one.copy one.among in
          soon (answered (record { copy = one.copy; among = one.among; has = (one.has, omega (arith, due.1, s.fine.early)) })))
          (λ none. by none p.books.sound.newest)
          (some_above w.acked w.acks)
        where
          by : ((c : Copy) → In c w.acks → c.number ≤ w.acked)
              → (w.received ≤ w.acked) ⊎ (OneHas (Soon k w w.received) w.acks ⊎ (1 ≤ p.books.gap)) → Paced k harms (opens_round w)
          by none (inl all) = absurd (omega (arith, all, more))
          by none (inr (inl one)) = let low = none one.copy one.among in absurd (omega (arith, low, more, one.has.0))
          by none (inr (inr some)) =
              let order = s.fine.received in
              at_length (omega (arith, more, order)) (unheard (omega (arith, enough)) (omega arith) some none (omega arith) (omega arith))

      -- all that came is acknowledged, and more was sent
      unreceived : w.received ≤ w.acked → w.acked < w.gone → Paced k harms (opens_round w)
      unreceived all more = by (p.books.sound.places w.acked (omega arith) more)
        where
          same : w.acked ≡ w.received
          same = let order = s.fine.acked in omega (arith, order, all)

          sent : w.acked < w.sent
          sent = let order = s.fine.gone in omega (arith, more, order)

          by : Place k p.books.spoiled w w.acked → Paced k harms (opens_round w)
          by (inl low) = absurd (omega (arith, low, all))
          by (inr (inl one)) = soon (flies (record { copy = one.copy; among = one.among; has = (one.has.0, omega (arith, one.has.1, s.fine.early)) }))
          by (inr (inr (inl there))) = absurd (p.books.sound.edge (subst (λ x. Mem x w.kept) same there))
          by (inr (inr (inr there))) = at_length sent (spoilt (omega (arith, enough)) (omega arith) there all (omega (arith, same)))

      anew : w.acked < k.total → Paced k harms (opens_round w)
      anew more = ⊎_elim unacked (λ all. unreceived all (may.gone alive more)) (cases_lt w.acked w.received)

  opened : MayOpen k w → IsOver k w ⊎ Paced k harms (opens_round w)
  opened may = ⊎_elim (λ over. inl over) by s.goes_on
    where
      anew_or_over : (p : Paced k harms w) → News p.acked p.received p.left w → IsOver k w ⊎ Paced k harms (opens_round w)
      anew_or_over p m = ⊎_elim
          (λ dead. inl (inr dead))
          (λ alive. ⊎_elim (λ more. inr (anew may p (omega (arith, alive)) m more)) (λ all. inl (inl all)) (cases_lt w.acked k.total))
          (cases_lt 0 w.dead)

      by : Paced k harms w → IsOver k w ⊎ Paced k harms (opens_round w)
      by p = ⊎_elim
          (λ past. anew_or_over p (news_due k p.acked p.received p.left p.tick w may past p.awaits))
          (λ still_waits. inr (waits_on may p still_waits))
          (cases_lt p.tick w.until)

  open_stands : MayOpen k w → Stands k harms (suc n) (opens_round w)
  open_stands may = record { fine = opened_fine k w s.fine may; few = s.few; until = omega (arith, s.until); goes_on = ⊎_elim (λ over. inl (⊎_elim (λ all. inl all) (λ dead. inr dead) over)) (λ p. inr p) (opened may) }

  few_longs : (p : Paced k harms w) → Debt harms p.longs p.acked p.received p.left p.books.spoiled p.books.gap w → p.longs ≤ 2 * harms
  few_longs p (paid enough) = omega (arith, enough)
  few_longs p (spoilt enough line there low high) = let some = some_length p.acked p.books.spoiled there in omega (arith, enough, some)
  few_longs p (unheard enough line some all low high) = omega (arith, enough, some)

  -- enough rounds
  ended : Enough k harms n → IsOver k w
  ended enough = ⊎_elim (λ over. over) by s.goes_on
    where
      by : Paced k harms w → IsOver k w
      by p =
          let counts = short_up k p.count (k.total + k.total + harms + 1) (omega (arith, p.counted, p.since_acked, p.since_received, s.fine.acked, s.fine.received, s.fine.sent)) in
          let waited = long_up k p.longs (2 * harms) (few_longs p p.books.debt) in
          absurd (omega (arith, counts, waited, enough, p.now, s.until))

module _ (k : Setting) (timeout harms : ℕ) (is : IsTimeout k timeout) where
  -- before the first move a line more counts as used
  first_paced : Paced k harms (first_lane timeout harms)
  first_paced = record {
    acked = 0;
    received = 0;
    left = suc harms;
    tick = 0;
    count = 0;
    longs = 0;
    books = record {
      spoiled = [];
      gap = 0;
      sound = record { places = λ p low high. absurd (omega (arith, high)); edge = λ there. there; newest = inl (omega arith) };
      debt = paid (omega arith);
    };
    since_acked = omega arith;
    since_received = omega arith;
    since_left = omega arith;
    awaits = news (line_used (omega arith));
    counted = omega arith;
    in_time = omega arith;
    now = omega arith;
  }

  run_stands : (n : ℕ) (u : Lane) → Run k (first_lane timeout harms) n u → Stands k harms n u
  run_stands n u stays = record { fine = first_fine k timeout harms is; few = omega arith; until = refl; goes_on = inr first_paced }
  run_stands n u (goes m v x run move) = move_stands k harms n v (run_stands n v run) u move
  run_stands n u (opens m v run may) = open_stands k harms m v (run_stands m v run) may

  -- with four lines at most the end lives
  run_lives : HasRanges k → harms ≤ 4 → (n : ℕ) (u : Lane) → Run k (first_lane timeout harms) n u → Lives k harms u
  run_lives ranges fewer n u stays = record { row = quiet refl; few = omega arith; alive = refl }
  run_lives ranges fewer n u (goes m v x run move) =
      let before = run_lives ranges fewer n v run in
      let stood = run_stands n v run in
      let g = move_grows k v u move in
      record {
        row = move_row k ranges harms v stood.fine before.few fewer u move before.row;
        few = omega (arith, before.few, g.left);
        alive = move_alive k ranges harms v stood.fine before.few fewer u move before.row before.alive;
      }
  run_lives ranges fewer n u (opens m v run may) =
      let before = run_lives ranges fewer m v run in
      let stood = run_stands m v run in
      record { row = opened_row k ranges harms v stood.fine before.few before.row; few = before.few; alive = before.alive }

pub lanes_end : LossyLanesEnd
lanes_end k timeout harms n u is run enough = ended k harms n u (run_stands k timeout harms is n u run) enough

pub lanes_finish : LossyLanesFinish
lanes_finish k ranges timeout harms n u is fewer run enough = ⊎_elim (λ all. all)
    (λ dead. let alive = (run_lives k timeout harms is ranges fewer n u run).alive in absurd (omega (arith, dead, alive)))
    (lanes_end k timeout harms n u is run enough)
