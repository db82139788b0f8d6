-- News come in time, so that it is over before there is more of it than there can be: each piece of news pays for its wait, and for a round more.
use Rattle.std.proofs.Common.{◌≡◌, sym, subst, ℕ, zero, suc, ◌+◌, ◌<◌, ◌≤◌, ◌⊎◌, inl, inr, ⊎_elim, arith}
use Rattle.std.proofs.lemmas.Bool.{cases_lt}
use Rattle.whole_paths.specs.PaidRounds.{AWaitBegins, AWaitGoesOn, PaysItsWay}
use Rattle.whole_paths.specs.Rounds.{System, Course, Drives, ticks_for, WhatIsAwaitedComes}
use Rattle.whole_paths.specs.Rounds.Course.{stays, steps, opens}
use Rattle.whole_paths.proofs.PaidRounds.{what_is_paid_comes}

pub ticks_up : (within n m : ℕ) → n ≤ m → ticks_for within n ≤ ticks_for within m
ticks_up within n zero below = let none : n ≡ 0 = omega (arith, below) in subst (λ x. ticks_for within x ≤ ticks_for within 0) (sym none) (omega arith)
ticks_up within n (suc m) below = ⊎_elim
    (λ low. let rest = ticks_up within n m (omega (arith, low)) in omega (arith, rest))
    (λ high. let is : suc m ≡ n = omega (arith, below, high) in subst (λ x. ticks_for within x ≤ ticks_for within (suc m)) is (omega arith))
    (cases_lt n (suc m))

module _ (s : System) (most within base : ℕ) (d : Drives s most within) where
  -- so much was counted, and once there is more so many ticks are paid
  record Awaits (n x : ℕ) (v : s.State) : Type 0 where
    count : ℕ
    since : count ≤ s.news v
    price : n ≤ ticks_for within (suc count)
    waits : s.Waits count x v

  abbrev paying : System
  paying = record {
    State = s.State;
    Steps = s.Steps;
    Opens = s.Opens;
    Sound = s.Sound;
    until = s.until;
    news = s.news;
    Over = s.Over;
    Waits = Awaits;
  }

  abbrev Pays : ℕ → s.State → Type 0
  Pays n v = n ≤ ticks_for within (s.news v)

  pays : (n x : ℕ) (v u : s.State) (a : Awaits n x v) → a.count < s.news u → Pays n u
  pays n x v u a more = let price = a.price in let up = ticks_up within (suc a.count) (s.news u) more in omega (arith, price, up)

  abbrev top : ℕ
  top = ticks_for within (suc most)

  goes : (n x : ℕ) (v u : s.State) → s.news v ≤ s.news u → s.news u ≤ most → (a : Awaits n x v) → (a.count < s.news u) ⊎ s.Waits a.count x u → Pays n u ⊎ AWaitGoesOn paying top n x u
  goes n x v u up low a (inl more) = inl (pays n x v u a more)
  goes n x v u up low a (inr still) =
      let since = a.since in
      let price = a.price in
      let high = ticks_up within (suc a.count) (suc most) (omega (arith, since, up, low)) in
      inr (record {
        put_off = 0;
        payable = omega (arith, price, high);
        waits = subst (λ m. Awaits m (x + 0) u) (omega arith) (subst (λ y. Awaits n y u) (omega arith) (record { count = a.count; since = omega (arith, since, up); price = price; waits = still }));
      })

  begun : (n : ℕ) (v u : s.State) → s.news u ≤ most → Pays n u → s.Over u ⊎ s.Waits (s.news u) (s.until v + within) u → s.Over u ⊎ AWaitBegins paying top n v u
  begun n v u low paid (inl is) = inl is
  begun n v u low paid (inr waits) = inr (record {
    within = within;
    payable = (let up = ticks_up within (s.news u) most low in omega (arith, paid, up));
    waits = record { count = s.news u; since = omega arith; price = omega (arith, paid); waits = waits };
  })

  pays_its_way : PaysItsWay paying Pays top
  pays_its_way = record {
    sound_on = d.sound_on;
    sound_next = d.sound_next;
    until_on = d.until_on;
    until_next = d.until_next;
    pays_on = λ n v u sound step paid. let up = ticks_up within (s.news v) (s.news u) (d.news_on v u sound step) in omega (arith, paid, up);
    pays_next = λ n v u sound opening paid. let up = ticks_up within (s.news v) (s.news u) (d.news_next v u sound opening) in omega (arith, paid, up);
    over_on = d.over_on;
    over_next = d.over_next;
    few = λ n v sound paid. let up = ticks_up within (s.news v) most (d.few v sound) in omega (arith, paid, up);
    waits_on = λ n x v u sound step a. goes n x v u (d.news_on v u sound step) (d.few u (d.sound_on v u sound step)) a (d.waits_on a.count x v u sound step a.since a.waits);
    waits_next = λ n x v u sound opening a. goes n x v u (d.news_next v u sound opening) (d.few u (d.sound_next v u sound opening)) a (d.waits_next a.count x v u sound opening a.since a.waits);
    due = λ n x v u sound opening a past. pays n x v u a (d.due a.count x v u sound opening a.since a.waits past);
    begins = λ n v u sound opening paid. begun n v u (d.few u (d.sound_next v u sound opening)) paid (d.begins v u sound opening);
  }

  -- its rounds are those of what pays
  course_pays : (w : s.State) (n : ℕ) (u : s.State) → Course s w n u → Course paying w n u
  course_pays w n u stays = stays
  course_pays w n u (steps m v x course step) = steps m v x (course_pays w m v course) step
  course_pays w n u (opens m v x course opening) = opens m v x (course_pays w m v course) opening

pub what_is_awaited_comes : WhatIsAwaitedComes
what_is_awaited_comes s most within base d w sound is n u course enough =
    what_is_paid_comes (paying s most within base d) (Pays s most within base d) (ticks_for within (suc most)) (pays_its_way s most within base d) w sound (omega arith) n u (course_pays s most within base d w n u course) enough
