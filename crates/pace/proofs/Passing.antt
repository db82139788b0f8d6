-- What some rounds, one after the other, have brought: segments arrive, a payload more is read, something is
-- acknowledged, the end is told.
--
-- No ranking, and nothing of each step: numbers that only grow, and inequalities between their values at the ends of
-- rounds. Seven rounds are one lemma, with the lanes between as names and one `omega` at its end; what is sent arrives
-- within two (`arrives` of `proofs/Passing`).
use Rattle.std.proofs.Common.{refl, sym, subst, ℕ, ◌+◌, ◌<◌, ◌≤◌, min, ◌⊎◌, inl, inr, ⊎_elim, List, [], ◌∷◌, arith}
use Rattle.std.proofs.lemmas.Bool.{cases_lt}
use Rattle.pace.specs.Lane.{Setting, Copy, Lane, none_left}
use Rattle.pace.specs.Rules.{opens_round}
use Rattle.pace.specs.Lists.{In, Timed, first_at}
use Rattle.pace.specs.Going.{Going, Reason, Covers, all_heard, IsDone}
use Rattle.pace.specs.Ends.{Ended, Passed, Trail}
use Rattle.pace.specs.Laws.{HasRanges}
use Rattle.pace.proofs.Lists.{timed_within, chain_has}

-- where the first is late, each is
each_late : (t from to : ℕ) (cs : List Copy) (c : Copy) → t ≤ first_at t cs → Timed from cs to → In c cs → t ≤ c.at
each_late t from to [] c first times i = absurd i
each_late t from to (x ∷ xs) c first times (inl here) = subst (λ (y : Copy). t ≤ y.at) (sym here) first
each_late t from to (x ∷ xs) c first times (inr rest) =
    let late = (timed_within x.at to xs c times.1 rest).0 in
    omega (arith, first, late)

-- what was sent or told by w was heard by u
pub record HasArrived (w u : Lane) : Type 0 where
  pub bytes : w.granted ≤ u.received
  pub data_fin : w.data_fin_sent ≤ u.data_fin_came
  pub control : w.control_sent ≤ u.control_came
  pub keys : w.keys_sent ≤ u.keys_came
  pub told : Covers (all_heard u) w.told

module _ (k : Setting) (ranges : HasRanges k) where
  pub end_of : (w u : Lane) → Passed k w u → Ended k u
  end_of w u passed = record { begun = opens_round w; tick = passed.tick; going = passed.going }

  -- segments arrive within two rounds
  pub arrives : (w v u : Lane) → Ended k w → Passed k w v → Passed k v u → HasArrived w u
  arrives w v u ended first second = record {
    bytes = ⊎_elim
        (λ none. omega (arith, none, h.since.received, g.since.received))
        (λ one. let done = data_done one.copy one.among in let has = one.has in omega (arith, has, done))
        (chain_has w.received w.granted w.datas e.under_way.chain);
    data_fin = ⊎_elim
        (λ came. omega (arith, came, h.since.data_fin_came, g.since.data_fin_came))
        (λ one. let done = data_done one.copy one.among in let has = one.has in omega (arith, has, done))
        e.flags.data_fin;
    control = ⊎_elim
        (λ came. omega (arith, came, h.since.control_came, g.since.control_came))
        (λ one. let done = data_done one.copy one.among in let has = one.has in omega (arith, has, done))
        e.flags.control;
    keys = ⊎_elim
        (λ came. omega (arith, came, h.since.keys_came, g.since.keys_came))
        (λ one. let done = data_done one.copy one.among in let has = one.has in omega (arith, has, done))
        e.flags.keys;
    told = ⊎_elim
        (λ all. omega (arith, all, h.since, g.since))
        (λ one. let done = ack_done one.copy one.among in let has = one.has in omega (arith, has, done))
        e.told_soon;
  }
    where
      e : Going k ended.begun ended.tick none_left w
      e = ended.going

      h : Going k (opens_round w) first.tick none_left v
      h = first.going

      g : Going k (opens_round v) second.tick none_left u
      g = second.going

      soon : (c : Copy) → c.at ≤ w.clock + k.delay → u.until ≤ c.at → ⊥
      soon c at late = omega (arith, at, late, e.round.early, h.round.same, g.round.same, ranges.delay)

      data_done : (c : Copy) → In c w.datas → IsDone u c
      data_done c i = ⊎_elim
          (λ still. ⊎_elim
          (λ left. absurd (soon c (timed_within w.clock (w.clock + k.delay) w.datas c e.under_way.datas_at i).1
          (each_late u.until u.clock (u.clock + k.delay) u.datas c (g.none_due refl).0 g.under_way.datas_at left)))
          (λ done. done)
          (g.none_lost.datas c still))
          (λ done. omega (arith, done, g.since))
          (h.none_lost.datas c i)

      ack_done : (c : Copy) → In c w.acks → Covers (all_heard u) c.telling
      ack_done c i = ⊎_elim
          (λ still. ⊎_elim
          (λ left. absurd (soon c (timed_within w.clock (w.clock + k.delay) w.acks c e.under_way.acks_at i).1
          (each_late u.until u.clock (u.clock + k.delay) u.acks c (g.none_due refl).1 g.under_way.acks_at left)))
          (λ done. done)
          (g.none_lost.acks c still))
          (λ done. omega (arith, done, g.since))
          (h.none_lost.acks c i)

  -- what had room for a payload, was acknowledged and was written is sent
  granted_at : (m : ℕ) (w v u : Lane) → Passed k w v → Passed k v u → 1 ≤ u.ready
      → min k.total (m + k.buffer) ≤ v.written
      → m + k.payload ≤ u.edge → m ≤ u.acked → min k.total (m + k.payload) ≤ u.granted
  granted_at m w v u first second ready written edge acked =
      let bytes = second.going.emitted.bytes refl ready in
      let window = second.going.numbers.window in
      omega (arith, bytes, window, written, edge, acked, ranges)

  one_round : (w u : Lane) → Trail k 1 w u → Passed k w u
  one_round w u trail = subst (λ (v : Lane). Passed k v u) (sym trail.1) trail.2

  -- in seven rounds a payload more is read, or all that is left
  pub seven : (w0 w7 : Lane) → Ended k w0 → 1 ≤ w0.ready → Trail k 7 w0 w7 → min k.total (w0.read + k.payload) ≤ w7.read
  seven w0 w7 ended ready t7 =
      let t6 = t7.1 in
      let t5 = t6.1 in
      let t4 = t5.1 in
      let t3 = t4.1 in
      let t2 = t3.1 in
      go t7.0 t7.2 t6.0 t6.2 t5.0 t5.2 t4.0 t4.2 t3.0 t3.2 t2.0 t2.2 (one_round w0 t2.0 t2.1)
    where
      go : (w6 : Lane) → Passed k w6 w7 → (w5 : Lane) → Passed k w5 w6 → (w4 : Lane) → Passed k w4 w5 → (w3 : Lane)
          → Passed k w3 w4
          → (w2 : Lane) → Passed k w2 w3 → (w1 : Lane) → Passed k w1 w2 → Passed k w0 w1
          → min k.total (w0.read + k.payload) ≤ w7.read
      go w6 p7 w5 p6 w4 p5 w3 p4 w2 p3 w1 p2 p1 =
          let told = ended.going.answered.all refl in
          let counts = ended.going.numbers.read in
          let heard = (arrives w0 w1 w2 ended p1 p2).told in
          let up1 = p1.going.since in
          let ready1 : 1 ≤ w1.ready = omega (arith, ready, up1.ready) in
          let window = p1.going.answered.window refl ready1 in
          let opened = (arrives w1 w2 w3 (end_of w0 w1 p1) p2 p3).told in
          let wrote = p3.going.turns.wrote p3.writer in
          let ready4 : 1 ≤ w4.ready =
          omega (arith, ready1, p2.going.since.ready, p3.going.since.ready, p4.going.since.ready) in
          let granted = granted_at w0.read w2 w3 w4 p3 p4 ready4 (omega (arith, wrote, told.0, counts, heard.0))
          (omega (arith, window, opened.1, p4.going.since.edge, ranges))
          (omega (arith, told.0, counts, heard.0, p3.going.since.acked, p4.going.since.acked)) in
          let came = (arrives w4 w5 w6 (end_of w3 w4 p4) p5 p6).bytes in
          let read = p7.going.turns.read p7.reader in
          omega (arith, granted, came, read)

  -- what has a reason to be waited for has news in eight rounds
  pub eight : (w0 w8 : Lane) → Ended k w0 → Reason k w0 → Trail k 8 w0 w8
      → (w0.acked < w8.acked) ⊎ (w0.control_acked < w8.control_acked)
  eight w0 w8 ended reason t8 =
      let t7 = t8.1 in
      let t6 = t7.1 in
      let t5 = t6.1 in
      let t4 = t5.1 in
      let t3 = t4.1 in
      let t2 = t3.1 in
      go t8.0 t8.2 t7.0 t7.2 t6.0 t6.2 t5.0 t5.2 t4.0 t4.2 t3.0 t3.2 t2.0 t2.2 (one_round w0 t2.0 t2.1)
    where
      go : (w7 : Lane) → Passed k w7 w8 → (w6 : Lane) → Passed k w6 w7 → (w5 : Lane) → Passed k w5 w6 → (w4 : Lane)
          → Passed k w4 w5
          → (w3 : Lane) → Passed k w3 w4 → (w2 : Lane) → Passed k w2 w3 → (w1 : Lane) → Passed k w1 w2 → Passed k w0 w1
          → (w0.acked < w8.acked) ⊎ (w0.control_acked < w8.control_acked)
      go w7 p8 w6 p7 w5 p6 w4 p5 w3 p4 w2 p3 w1 p2 p1 = elim reason
          [ inl waits ↦ inr (control waits) | inr waits ↦ inl (⊎_elim (λ some. bytes waits.1 some) (λ all. fin waits.1 (omega (arith, waits.2, all)) all waits.0) (cases_lt w0.acked k.total)) ]
        where
          control : w0.control_acked < w0.control_sent → w0.control_acked < w8.control_acked
          control waits =
              let came = (arrives w0 w1 w2 ended p1 p2).control in
              let told = p2.going.answered.all refl in
              let heard = (arrives w2 w3 w4 (end_of w1 w2 p2) p3 p4).told in
              omega (
                arith,
                waits,
                came,
                told.1,
                heard.2,
                p5.going.since.control_acked,
                p6.going.since.control_acked,
                p7.going.since.control_acked,
                p8.going.since.control_acked,
              )

          bytes : 1 ≤ w0.ready → w0.acked < k.total → w0.acked < w8.acked
          bytes ready waits =
              let told0 = ended.going.answered.all refl in
              let heard0 = (arrives w0 w1 w2 ended p1 p2).told in
              let counts = ended.going.numbers in
              let read = p1.going.turns.read p1.reader in
              let ready2 : 1 ≤ w2.ready = omega (arith, ready, p1.going.since.ready, p2.going.since.ready) in
              let window = p2.going.answered.window refl ready2 in
              let opened = (arrives w2 w3 w4 (end_of w1 w2 p2) p3 p4).told in
              let wrote = p1.going.turns.wrote p1.writer in
              let ready4 : 1 ≤ w4.ready = omega (arith, ready2, p3.going.since.ready, p4.going.since.ready) in
              let granted = granted_at w0.acked w2 w3 w4 p3 p4 ready4
              (omega (arith, wrote, p2.going.since.written, p3.going.since.written))
              (omega (arith, window, read, counts.acked, waits, opened.1, ranges))
              (omega (arith, p1.going.since.acked, p2.going.since.acked, p3.going.since.acked, p4.going.since.acked)) in
              let came = (arrives w4 w5 w6 (end_of w3 w4 p4) p5 p6).bytes in
              let told = p6.going.answered.all refl in
              let heard = (arrives w6 w7 w8 (end_of w5 w6 p6) p7 p8).told in
              omega (arith, waits, granted, came, told.0, heard.0, ranges)

          fin : 1 ≤ w0.ready → 1 ≤ w0.clear → k.total ≤ w0.acked → w0.acked < k.total + 1 → w0.acked < w8.acked
          fin ready clear all waits =
              let counts = ended.going.numbers in
              let closed = p1.going.turns.closed p1.writer in
              let ready2 : 1 ≤ w2.ready = omega (arith, ready, p1.going.since.ready, p2.going.since.ready) in
              let clear2 : 1 ≤ w2.clear = omega (arith, clear, p1.going.since.clear, p2.going.since.clear) in
              let room : w2.granted + k.payload ≤ w2.acked + w2.window =
              omega (arith, all, p1.going.since.acked, p2.going.since.acked, p2.going.numbers) in
              let known = p2.going.emitted.known refl ready2 room in
              let sent = p2.going.emitted.data_fin refl clear2 in
              let came = (arrives w2 w3 w4 (end_of w1 w2 p2) p3 p4).data_fin in
              let told = p4.going.answered.all refl in
              let heard = (arrives w4 w5 w6 (end_of w3 w4 p4) p5 p6).told in
              omega (
                arith,
                all,
                waits,
                counts.acked,
                counts.received,
                counts.granted,
                p1.going.since.written,
                closed,
                known,
                sent,
                came,
                told.0,
                heard.0,
                p1.going.since.received,
                p2.going.since.received,
                p3.going.since.received,
                p4.going.since.received,
                p7.going.since.acked,
                p8.going.since.acked,
              )

  -- once all bytes are read, the end is told in six rounds
  pub six : (w0 w6 : Lane) → Ended k w0 → 1 ≤ w0.ready → 1 ≤ w0.clear → k.total ≤ w0.read → Trail k 6 w0 w6
      → 1 ≤ w6.told_end
  six w0 w6 ended ready clear all t6 =
      let t5 = t6.1 in
      let t4 = t5.1 in
      let t3 = t4.1 in
      let t2 = t3.1 in
      go t6.0 t6.2 t5.0 t5.2 t4.0 t4.2 t3.0 t3.2 t2.0 t2.2 (one_round w0 t2.0 t2.1)
    where
      go : (w5 : Lane) → Passed k w5 w6 → (w4 : Lane) → Passed k w4 w5 → (w3 : Lane) → Passed k w3 w4 → (w2 : Lane)
          → Passed k w2 w3
          → (w1 : Lane) → Passed k w1 w2 → Passed k w0 w1 → 1 ≤ w6.told_end
      go w5 p6 w4 p5 w3 p4 w2 p3 w1 p2 p1 =
          let counts = ended.going.numbers in
          let closed = p1.going.turns.closed p1.writer in
          let told = ended.going.answered.all refl in
          let heard = (arrives w0 w1 w2 ended p1 p2).told in
          let ready2 : 1 ≤ w2.ready = omega (arith, ready, p1.going.since.ready, p2.going.since.ready) in
          let clear2 : 1 ≤ w2.clear = omega (arith, clear, p1.going.since.clear, p2.going.since.clear) in
          let room : w2.granted + k.payload ≤ w2.acked + w2.window =
          omega (arith, all, counts.read, told.0, heard.0, p2.going.numbers) in
          let known = p2.going.emitted.known refl ready2 room in
          let sent = p2.going.emitted.data_fin refl clear2 in
          let came = (arrives w2 w3 w4 (end_of w1 w2 p2) p3 p4).data_fin in
          let end = p5.going.turns.told p5.reader in
          omega (
            arith,
            all,
            counts.read,
            counts.received,
            counts.granted,
            p1.going.since.written,
            closed,
            known,
            sent,
            came,
            end,
            p1.going.since.read,
            p2.going.since.read,
            p3.going.since.read,
            p4.going.since.read,
            p6.going.since.told_end,
          )
