-- Where debts are mended by long waits, and short waits bring the streams on, exchanges go on as `patience` asks.
use Rattle.std.proofs.Common.{◌≡◌, refl, sym, subst, ◌∙◌, ap, ◌⊎◌, inl, inr, ⊎_elim, ℕ, zero, suc, ◌+◌, ◌-◌, ◌*◌, ◌<◌, ◌≤◌, arith, le_refl, List, [], ◌∷◌}
use Rattle.path_core.specs.Values.{values}
use Rattle.world_laws.specs.Openings.{PathPlan, Start}
use Rattle.world_laws.specs.RoundDone.{reached}
use Rattle.world_laws.specs.Worlds.{Turn}
use Rattle.whole_paths.specs.Counts.{Counts}
use Rattle.whole_paths.specs.Courses.{round_end}
use Rattle.whole_paths.specs.Debts.{AreMended, AwaitsEither, AwaitsEvent, AwaitsPayment, Beginning, DebtsAreMendedBy, Goes, MendsOnBy, OwesOnBy, Paid, ShortWaits, half_price, long_wait, put_off_by}
use Rattle.whole_paths.specs.Debts.AwaitsEither.{short, long}
use Rattle.whole_paths.specs.Debts.{AwaitsEvent as awaits}
use Rattle.whole_paths.specs.Debts.MendsOnBy.{quiet, fewer, harmed}
use Rattle.whole_paths.specs.Delivery.{AllIsThere}
use Rattle.whole_paths.specs.Mild.{IsMildStart}
use Rattle.whole_paths.specs.PaidRounds.{AWaitBegins}
use Rattle.whole_paths.specs.SharpCourses as sharp
use Rattle.whole_paths.specs.SharpCourses.{SharpExchanges, price, the_course, top, units}
use Rattle.whole_paths.proofs.Counts.{NextTurn, by_round, by_step, plain_round, plain_step}
use Rattle.whole_paths.proofs.Courses.{round_next, round_step}
use Rattle.whole_paths.proofs.SegmentsRead.{few_units, units_up}

module _ (start : Start) (plan : PathPlan) (most : ℕ) (paid count : List Turn → ℕ) (Owes : ℕ → List Turn → Type 0) (Mends : ℕ → ℕ → List Turn → Type 0) (Short : ℕ → ℕ → List Turn → Type 0)
    (mild : IsMildStart start) (counts : Counts start paid count) (debts : DebtsAreMendedBy start plan most count Owes Mends long_wait) (shorts : ShortWaits start plan most count Owes Mends Short paid) where
  abbrev read : List Turn → ℕ
  read turns = units start plan (reached values start turns)

  abbrev until : List Turn → ℕ
  until turns = round_end values start turns

  abbrev Mended : ℕ → List Turn → Type 0
  Mended = AreMended start plan most count Owes

  abbrev Waits : ℕ → ℕ → List Turn → Type 0
  Waits = AwaitsEither start plan most count Owes Mends Short

  abbrev Long : ℕ → ℕ → List Turn → Type 0
  Long = AwaitsPayment start plan most count Owes Mends Short

  abbrev Event : ℕ → ℕ → List Turn → Type 0
  Event = AwaitsEvent start plan most count Owes Mends

  abbrev IsPaidSo : ℕ → List Turn → Type 0
  IsPaidSo = Paid start plan most count Owes Mends Short paid

  abbrev GoesSo : ℕ → ℕ → List Turn → Type 0
  GoesSo = Goes start plan most count Owes Mends Short paid

  abbrev Begins : ℕ → List Turn → List Turn → Type 0
  Begins n v u = AllIsThere (reached values start u) ⊎ AWaitBegins (the_course start plan paid most Mended Waits) (top start plan paid most) n v u

  -- by one more turn
  module _ (v u : List Turn) (t : NextTurn count most v u) where
    harms_up : count v ≤ count u
    harms_up = t.up

    more_read : read v ≤ read u
    more_read = subst (λ ts. read v ≤ read ts) (sym t.is) (units_up start plan v (t.turn ∷ []))

    mended_so : (m : ℕ) → ((d : ℕ) → Owes d v → OwesOnBy start plan most count Owes d v u) → Mended m v → Mended m u
    mended_so m on h = let now = on h.debts h.owes in record { debts = now.now; owes = now.owes; few = (let few = h.few in let fewer = now.few in omega (arith, few, fewer)) }

    -- a long wait with so many debts left, put off by so many ticks: for these there is a debt less, or another harm
    module _ (n x : ℕ) (h : Long n x v) (later : ℕ) (off : ℕ) (owes : Owes later u) (few : later + count v ≤ h.debts + count u)
        (room : off + half_price * (later + count v) ≤ half_price * (h.debts + count u) + half_price * (count u - count v)) where
      abbrev mended_now : ℕ
      mended_now = h.harms + h.debts + (count u - count v) - later

      in_all : mended_now + later ≡ h.harms + h.debts + (count u - count v)
      in_all = omega (arith, few, harms_up)

      left : mended_now + later ≤ count u
      left = let all = h.few in omega (arith, few, all, harms_up, in_all)

      enough_now : n + off + half_price * later ≤ price (read u) (mended_now + later) + half_price
      enough_now = let enough = h.enough in omega (arith, enough, in_all, more_read, room, harms_up)

      goes_to : (0 < later → Event later (x + off) u) → until u ≤ x + off + 100 → GoesSo n x u
      goes_to event early = by later refl owes event left enough_now
        where
          by : (d : ℕ) → later ≡ d → Owes d u → (0 < d → Event d (x + off) u) → mended_now + d ≤ count u → n + off + half_price * d ≤ price (read u) (mended_now + d) + half_price → GoesSo n x u
          by zero none_left owes event left enough = inl (record { harms = mended_now; mended = record { debts = 0; owes = owes; few = left }; enough = paid_all })
            where
              -- all debts are paid
              paid_all : n ≤ price (read u) mended_now
              paid_all = let first = h.enough in let some = h.some in omega (arith, first, some, few, harms_up, more_read, none_left)
          by (suc d) some_left owes event left enough =
              let bound = few_units start plan (reached values start u) in let low = t.low in
              inr (record {
                put_off = off;
                payable = omega (arith, enough, left, low, bound);
                waits = long (record {
                  harms = mended_now;
                  debts = suc d;
                  owes = owes;
                  some = omega arith;
                  few = left;
                  event = event (omega arith);
                  early = early;
                  enough = enough;
                });
              })

    -- nothing happened, or what happened isn't waited for
    module _ (n x : ℕ) (h : Long n x v) where
      -- the same wait, with so many debts now
      stays : (later : ℕ) → Owes later u → later + count v ≤ h.debts + count u → Event later x u → until u ≤ x + 100 → GoesSo n x u
      stays later owes few event early = goes_to n x h later 0 owes few (omega (arith, few, harms_up)) (λ some. subst (λ y. Event later y u) (omega arith) event) (omega (arith, early))

      -- the wait for the next event, from the end of the round on
      anew : (later : ℕ) → Owes later u → later + count v ≤ h.debts + count u → (later + count v < h.debts + count u) ⊎ (count v < count u) → until u ≤ x + 200 → GoesSo n x u
      anew later owes few happened early = goes_to n x h later put_off_by owes few room (λ some. awaits.later (omega (arith, early))) (omega (arith, early))
        where
          room : put_off_by + half_price * (later + count v) ≤ half_price * (h.debts + count u) + half_price * (count u - count v)
          room = ⊎_elim (λ fewer. omega (arith, fewer, harms_up)) (λ more. omega (arith, more, few)) happened

      by_event : (by_then : ℕ) → by_then ≤ x → until u ≤ x + 100 → MendsOnBy start plan most count Owes Mends h.debts by_then v u → GoesSo n x u
      by_event by_then low early (quiet mends) = stays h.debts (debts.owing h.debts by_then u mends) (omega (arith, harms_up)) (awaits.now by_then low mends) early
      by_event by_then low early (fewer now owes less) = anew now owes (omega (arith, less)) (inl less) (omega (arith, early))
      by_event by_then low early (harmed owing more) = anew owing.now owing.owes owing.few (inr more) (omega (arith, early))

  -- ---- steps

  steps : (n x : ℕ) (v u : List Turn) → sharp.Stepping start plan paid most v u → Long n x v → GoesSo n x u
  steps n x v u step h = by h.event
    where
      turn : NextTurn count most v u
      turn = by_step start plan mild paid count counts most v u step

      same : until u ≡ until v
      same = ap until step.is ∙ round_step values start v step.actor

      early : until u ≤ x + 100
      early = let first = h.early in omega (arith, first, same)

      by : Event h.debts x v → GoesSo n x u
      by (awaits.now by_then low mends) = by_event v u turn n x h by_then low early (debts.mends_on h.debts by_then v u (plain_step start plan paid most Owes v u step) mends)
      by (awaits.later soon) = let owing = debts.on h.debts v u (plain_step start plan paid most Owes v u step) h.owes in
          stays v u turn n x h owing.now owing.owes owing.few (awaits.later (omega (arith, soon, same))) early

  -- ---- as a round begins

  module _ (v u : List Turn) (step : sharp.Beginning start plan paid most v u) where
    plain : Beginning start plan most Owes v u
    plain = plain_round start plan paid most Owes v u step

    turn : NextTurn count most v u
    turn = by_round start plan mild paid count counts most v u step

    next_until : until u ≡ until v + 100
    next_until = ap until step.is ∙ round_next values start v step.over

    opens : (n x : ℕ) → Long n x v → GoesSo n x u
    opens n x h = by h.event
      where
        first : until v ≤ x + 100
        first = h.early

        by : Event h.debts x v → GoesSo n x u
        by (awaits.now by_then low mends) =
            let in_time = debts.in_time h.debts by_then v u plain mends in
            by_event v u turn n x h by_then low (omega (arith, in_time, low, next_until)) (debts.mends_next h.debts by_then v u plain mends)
        by (awaits.later soon) = let owing = debts.next h.debts v u plain h.owes in begin_at owing.now owing.owes owing.few
          where
            early : until u ≤ x + 100
            early = omega (arith, soon, next_until)

            begin_at : (later : ℕ) → Owes later u → later + count v ≤ h.debts + count u → GoesSo n x u
            begin_at zero owes few = goes_to v u turn n x h 0 0 owes few (let up = harms_up v u turn in omega (arith, few, up)) (λ some. absurd (omega (arith, some))) (omega (arith, early))
            begin_at (suc d) owes few = ⊎_elim
                (λ less. begin_at d less (omega (arith, few)))
                (λ mends. stays v u turn n x h (suc d) owes few (awaits.now (until v + long_wait) (omega (arith, soon)) mends) early)
                (debts.begins d v u plain owes)

    not_late : (n x : ℕ) → Long n x v → x < until v → IsPaidSo n u
    not_late n x h late = by h.event
      where
        by : Event h.debts x v → IsPaidSo n u
        by (awaits.now by_then low mends) = absurd (let in_time = debts.in_time h.debts by_then v u plain mends in omega (arith, in_time, low, late))
        by (awaits.later soon) = absurd (omega (arith, soon, late))

    module _ (n : ℕ) where
      begin_with : (m d : ℕ) → Owes d u → m + d ≤ count u → n ≤ price (read u) m → Begins n v u
      begin_with m zero owes few enough = shorts.begins n v u step owes (record { harms = m; mended = record { debts = 0; owes = owes; few = few }; enough = enough })
      begin_with m (suc d) owes few enough = ⊎_elim
          (λ less. begin_with (suc m) d less (omega (arith, few)) (omega (arith, enough)))
          (λ mends. (let bound = few_units start plan (reached values start u) in let low = turn.low in inr (record {
            within = long_wait;
            payable = omega (arith, few, enough, low, bound);
            waits = long (record {
              harms = m;
              debts = suc d;
              owes = owes;
              some = omega arith;
              few = few;
              event = awaits.now (until v + long_wait) (le_refl (until v + long_wait)) mends;
              early = omega (arith, next_until);
              enough = omega (arith, enough);
            });
          })))
          (debts.begins d v u plain owes)

  pub sharp_by_debts : SharpExchanges start plan paid most Mended Waits
  sharp_by_debts = record {
    mended_on = λ m v u step h. mended_so v u (by_step start plan mild paid count counts most v u step) m (λ d owes. debts.on d v u (plain_step start plan paid most Owes v u step) owes) h;
    mended_next = λ m v u step h. mended_so v u (by_round start plan mild paid count counts most v u step) m (λ d owes. debts.next d v u (plain_round start plan paid most Owes v u step) owes) h;
    few_mended = λ m v h. (let low = h.few in let few = counts.few v in omega (arith, low, few));
    waits_on = λ n x v u step h. on n x v u step h;
    waits_next = λ n x v u step h. next n x v u step h;
    due = λ n x v u step h late. due n x v u step h late;
    begins = λ n v u step h. begin_with v u step n h.harms h.mended.debts h.mended.owes h.mended.few h.enough;
  }
    where
      on : (n x : ℕ) (v u : List Turn) → sharp.Stepping start plan paid most v u → Waits n x v → GoesSo n x u
      on n x v u step (short h) = shorts.on n x v u step h
      on n x v u step (long h) = steps n x v u step h

      next : (n x : ℕ) (v u : List Turn) → sharp.Beginning start plan paid most v u → Waits n x v → GoesSo n x u
      next n x v u step (short h) = shorts.next n x v u step h
      next n x v u step (long h) = opens v u step n x h

      due : (n x : ℕ) (v u : List Turn) → sharp.Beginning start plan paid most v u → Waits n x v → x < until v → IsPaidSo n u
      due n x v u step (short h) late = shorts.due n x v u step h late
      due n x v u step (long h) late = not_late v u step n x h late
