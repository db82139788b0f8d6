-- Both ends are told: the opening takes eight rounds, each payload seven, and the end six.
use Rattle.std.proofs.Common.{◌≡◌, refl, sym, subst, ℕ, zero, suc, ◌+◌, ◌*◌, ◌<◌, ◌≤◌, min, ◌⊎◌, inl, inr, suc-mul, arith}
use Rattle.std.proofs.lemmas.Bool.{cases_lt}
use Rattle.pace.specs.Lane.{Setting, Lane}
use Rattle.pace.specs.Rounds.{Linked, Course}
use Rattle.pace.specs.Ends.{Ended, Passed, Trail, LinkedTrail, Calm}
use Rattle.pace.specs.Laws.{HasRanges}
use Rattle.pace.proofs.Calming.{first_rounds, later_rounds}
use Rattle.pace.proofs.Passing.{end_of, arrives, seven, six}

-- the first a of m rounds, and the rest
record Parts (k : Setting) (a m : ℕ) (w u : Lane) : Type 0 where
  between : Lane
  rest : ℕ
  sum : a + rest ≡ m
  first : Trail k a w between
  last : Trail k rest between u

parts : (k : Setting) (a m : ℕ) (w u : Lane) → a ≤ m → Trail k m w u → Parts k a m w u
parts k zero zero w u within t = record { between = w; rest = 0; sum = refl; first = refl; last = t }
parts k (suc a) zero w u within t = absurd (omega (arith, within))
parts k a (suc m) w u within t = go (λ inner. parts k a m w t.0 inner t.1) (cases_lt m a)
  where
    go : (a ≤ m → Parts k a m w t.0) → (m < a) ⊎ (a ≤ m) → Parts k a (suc m) w u
    go split (inl all) =
        let same : suc m ≡ a = omega (arith, within, all) in
        record { between = u; rest = 0; sum = omega (arith, same); first = subst (λ (n : ℕ). Trail k n w u) same t; last = refl }
    go split (inr inner) =
        let p = split inner in
        record { between = p.between; rest = suc p.rest; sum = omega (arith, p.sum); first = p.first; last = (t.0, p.last, t.2) }

module _ (k : Setting) (ranges : HasRanges k) where
  ended_after : (n : ℕ) (w u : Lane) → Ended k w → Trail k n w u → Ended k u
  ended_after zero w u ended t = subst (Ended k) t ended
  ended_after (suc n) w u ended t = end_of k ranges t.0 u t.2

  told_after : (n : ℕ) (w u : Lane) → 1 ≤ w.told_end → Trail k n w u → 1 ≤ u.told_end
  told_after zero w u told t = subst (λ (x : Lane). 1 ≤ x.told_end) t told
  told_after (suc n) w u told t =
      let before = told_after n w t.0 told t.1 in
      omega (arith, before, t.2.going.since.told_end)

  flags_after : (n : ℕ) (w u : Lane) → (1 ≤ w.ready) × (1 ≤ w.clear) → Trail k n w u → (1 ≤ u.ready) × (1 ≤ u.clear)
  flags_after zero w u flags t = subst (λ (x : Lane). (1 ≤ x.ready) × (1 ≤ x.clear)) t flags
  flags_after (suc n) w u flags t =
      let before = flags_after n w t.0 flags t.1 in
      (omega (arith, before.0, t.2.going.since.ready), omega (arith, before.1, t.2.going.since.clear))

  -- one payload less is left to read
  one_less : (n read later : ℕ) → k.total ≤ read + suc n * k.payload → min k.total (read + k.payload) ≤ later
      → k.total ≤ later + n * k.payload
  one_less n read later enough more = let product = suc-mul n k.payload in omega (arith, enough, more, product)

  pub delivers : (n m : ℕ) (w u : Lane) → Ended k w → (1 ≤ w.ready) × (1 ≤ w.clear)
      → k.total ≤ w.read + n * k.payload → 7 * n + 6 ≤ m
      → Trail k m w u → 1 ≤ u.told_end
  delivers zero m w u ended flags enough long t =
      let p = parts k 6 m w u (omega (arith, long)) t in
      told_after p.rest p.between u (six k ranges w p.between ended flags.0 flags.1 (omega (arith, enough)) p.first) p.last
  delivers (suc n) m w u ended flags enough long t =
      let p = parts k 7 m w u (omega (arith, long)) t in
      delivers n p.rest p.between u (ended_after 7 w p.between ended p.first) (flags_after 7 w p.between flags p.first)
      (one_less n w.read p.between.read enough (seven k ranges w p.between ended flags.0 p.first))
      (omega (arith, long, p.sum)) p.last

module _ (k j : Setting) (ranges : HasRanges k) (others : HasRanges j) where
  forth : (n : ℕ) (w v u x : Lane) → LinkedTrail k j n w v u x → Trail k n w u
  forth zero w v u x t = t.0
  forth (suc n) w v u x t = (t.0, forth n w v t.0 t.1 t.2, t.3)

  back : (n : ℕ) (w v u x : Lane) → LinkedTrail k j n w v u x → Trail j n v x
  back zero w v u x t = t.1
  back (suc n) w v u x t = (t.1, back n w v t.0 t.1 t.2, t.4)

  record Halves (a m : ℕ) (w v u x : Lane) : Type 0 where
    here : Lane
    there : Lane
    rest : ℕ
    sum : a + rest ≡ m
    first : LinkedTrail k j a w v here there
    last : LinkedTrail k j rest here there u x

  halves : (a m : ℕ) (w v u x : Lane) → a ≤ m → LinkedTrail k j m w v u x → Halves a m w v u x
  halves zero zero w v u x within t = record { here = w; there = v; rest = 0; sum = refl; first = (refl, refl); last = t }
  halves (suc a) zero w v u x within t = absurd (omega (arith, within))
  halves a (suc m) w v u x within t = go (λ inner. halves a m w v t.0 t.1 inner t.2) (cases_lt m a)
    where
      go : (a ≤ m → Halves a m w v t.0 t.1) → (m < a) ⊎ (a ≤ m) → Halves a (suc m) w v u x
      go split (inl all) =
          let same : suc m ≡ a = omega (arith, within, all) in
          record { here = u; there = x; rest = 0; sum = omega (arith, same); first = subst (λ (n : ℕ). LinkedTrail k j n w v u x) same t; last = (refl, refl) }
      go split (inr inner) =
          let p = split inner in
          record { here = p.here; there = p.there; rest = suc p.rest; sum = omega (arith, p.sum); first = p.first; last = (t.0, t.1, p.last, t.3, t.4, t.5) }

  -- what two rounds of both lanes bring
  record Two (w v u x : Lane) : Type 0 where
    ended : Ended k u
    ended_back : Ended j x
    came : w.control_sent ≤ u.control_came
    came_back : v.control_sent ≤ x.control_came
    keys : w.keys_sent ≤ u.keys_came
    heard : w.told.dss ≤ u.clear
    flags : (w.ready ≤ u.ready) × (w.clear ≤ u.clear) × (v.ready ≤ x.ready) × (v.clear ≤ x.clear)
    linked : Linked u x

  two : (w v y z u x : Lane) → Ended k w → Ended j v → Passed k w y → Passed j v z → Passed k y u → Passed j z x
      → Linked u x → Two w v u x
  two w v y z u x ended ended_back first first_back second second_back linked = record {
    ended = end_of k ranges y u second;
    ended_back = end_of j others z x second_back;
    came = (arrives k ranges w y u ended first second).control;
    came_back = (arrives j others v z x ended_back first_back second_back).control;
    keys = (arrives k ranges w y u ended first second).keys;
    heard = (arrives k ranges w y u ended first second).told.3;
    flags = omega (arith, first.going.since, second.going.since, first_back.going.since, second_back.going.since);
    linked = linked;
  }

  -- SYN, SYN/ACK, the keys and the first DSS came, each within two rounds
  record IsOpen (u x : Lane) : Type 0 where
    ended : Ended k u
    ended_back : Ended j x
    flags : (1 ≤ u.ready) × (1 ≤ u.clear)
    flags_back : (1 ≤ x.ready) × (1 ≤ x.clear)

  opens : (w v u x : Lane) → Ended k w → Ended j v → 1 ≤ w.control_sent → LinkedTrail k j 8 w v u x → IsOpen u x
  opens w v u x ended ended_back syn t8 =
      let t7 = t8.2 in
      let t6 = t7.2 in
      let t5 = t6.2 in
      let t4 = t5.2 in
      let t3 = t4.2 in
      let t2 = t3.2 in
      let t1 = t2.2 in
      let first : Passed k w t2.0 = subst (λ (y : Lane). Passed k y t2.0) (sym t1.2.0) t1.3 in
      let first_back : Passed j v t2.1 = subst (λ (y : Lane). Passed j y t2.1) (sym t1.2.1) t1.4 in
      let a = two w v t2.0 t2.1 t3.0 t3.1 ended ended_back first first_back t2.3 t2.4 t2.5 in
      let b = two t3.0 t3.1 t4.0 t4.1 t5.0 t5.1 a.ended a.ended_back t3.3 t3.4 t4.3 t4.4 t4.5 in
      let c = two t5.0 t5.1 t6.0 t6.1 t7.0 t7.1 b.ended b.ended_back t5.3 t5.4 t6.3 t6.4 t6.5 in
      let d = two t7.0 t7.1 t8.0 t8.1 u x c.ended c.ended_back t7.3 t7.4 t8.3 t8.4 t8.5 in
      let answered = a.linked.answered in
      let ready = b.linked.ready in
      let keys = b.linked.keys in
      let told = (c.ended.going.answered.all refl).2 in
      let back_ready = c.linked.ready_back in
      let back_clear = c.linked.clear_back in
      record {
        ended = d.ended;
        ended_back = d.ended_back;
        flags = omega (arith, syn, a.came, answered, b.came_back, ready, keys, c.keys, told, d.heard, c.flags, d.flags);
        flags_back = omega (arith, syn, a.came, answered, b.came_back, keys, c.keys, back_ready, back_clear, d.flags);
      }

  -- a course is rounds from the end of the first one on, and ends calm
  record IsRounds (m : ℕ) (u x : Lane) : Type 0 where
    from : Lane
    from_back : Lane
    ended : Ended k from
    ended_back : Ended j from_back
    syn : 1 ≤ from.control_sent
    trail : LinkedTrail k j m from from_back u x
    calm : Calm k u
    calm_back : Calm j x

  rounds_of : (a b : ℕ) → k.payload + k.payload ≤ a → j.payload + j.payload ≤ b → (m : ℕ) (u x : Lane)
      → Course k j a b m u x → IsRounds m u x
  rounds_of a b wide wide_back zero u x course =
      let calm = first_rounds k ranges a u wide course.0 in
      let calm_back = first_rounds j others b x wide_back course.1 in
      record { from = u; from_back = x; ended = calm.ended; ended_back = calm_back.ended; syn = course.3; trail = (refl, refl); calm = calm; calm_back = calm_back }
  rounds_of a b wide wide_back (suc m) u x course =
      let before = rounds_of a b wide wide_back m course.0 course.1 course.2 in
      let next = later_rounds k ranges course.0 u before.calm course.3 in
      let next_back = later_rounds j others course.1 x before.calm_back course.4 in
      record {
        from = before.from;
        from_back = before.from_back;
        ended = before.ended;
        ended_back = before.ended_back;
        syn = before.syn;
        trail = (course.0, course.1, before.trail, next.0, next_back.0, course.5);
        calm = next.1;
        calm_back = next_back.1;
      }

  pub both_told : (n m : ℕ) (w v u x : Lane) → Ended k w → Ended j v → 1 ≤ w.control_sent → k.total ≤ n * k.payload
      → j.total ≤ n * j.payload
      → 7 * n + 14 ≤ m → LinkedTrail k j m w v u x → (1 ≤ u.told_end) × (1 ≤ x.told_end)
  both_told n m w v u x ended ended_back syn enough enough_back long t =
      let p = halves 8 m w v u x (omega (arith, long)) t in
      let o = opens w v p.here p.there ended ended_back syn p.first in
      let later : 7 * n + 6 ≤ p.rest = omega (arith, long, p.sum) in let trail = forth p.rest p.here p.there u x p.last in
      let trail_back = back p.rest p.here p.there u x p.last in (
        delivers k ranges n p.rest p.here u o.ended o.flags (omega (arith, enough)) later trail,
        delivers j others n p.rest p.there x o.ended_back o.flags_back (omega (arith, enough_back)) later trail_back,
      )

  pub courses_told : (a b : ℕ) → k.payload + k.payload ≤ a → j.payload + j.payload ≤ b → (n m : ℕ)
      → k.total ≤ n * k.payload
      → j.total ≤ n * j.payload → 7 * n + 14 ≤ m → (u x : Lane) → Course k j a b m u x
      → (1 ≤ u.told_end) × (1 ≤ x.told_end)
  courses_told a b wide wide_back n m enough enough_back long u x course =
      let r = rounds_of a b wide wide_back m u x course in
      both_told n m r.from r.from_back u x r.ended r.ended_back r.syn enough enough_back long r.trail
