-- What is waited for is paid, so that it is over before more is paid than there can be.
use Rattle.std.proofs.Common.{◌≡◌, ◌∙◌, ℕ, suc, ◌+◌, ◌*◌, ◌<◌, ◌≤◌, ⊎_elim, arith}
use Rattle.std.proofs.lemmas.Bool.{cases_lt}
use Rattle.whole_paths.specs.Rounds.{System, Course}
use Rattle.whole_paths.specs.Rounds.Course.{stays, steps, opens}
use Rattle.whole_paths.specs.PaidRounds.{AWaitBegins, AWaitGoesOn, PaysItsWay, WhatIsPaidComes}

module _ (s : System) (Pays : ℕ → s.State → Type 0) (most base : ℕ) (d : PaysItsWay s Pays most) where
  -- where it is: over, paid until its round's end, or it waits, and once that is over all is paid until then
  data Where (v : s.State) : Type 0 where
    over : s.Over v → Where v
    paid : (n : ℕ) → Pays n v → s.until v ≤ base + n → Where v
    waits : (n x : ℕ) → s.Waits n x v → x + 100 ≤ base + n → s.until v ≤ base + n → n ≤ most → Where v

  record Stands (n : ℕ) (v : s.State) : Type 0 where
    sound : s.Sound v
    until : s.until v ≡ base + 100 * n
    where_is : Where v

  step_stands : (n : ℕ) (v u : s.State) → Stands n v → s.Steps v u → Stands n u
  step_stands n v u h step = record { sound = d.sound_on v u h.sound step; until = same ∙ h.until; where_is = by h.where_is }
    where
      same : s.until u ≡ s.until v
      same = d.until_on v u h.sound step

      on : (m x : ℕ) → x + 100 ≤ base + m → s.until v ≤ base + m → AWaitGoesOn s most m x u → Where u
      on m x soon now h = let later = h.put_off in waits (m + later) (x + later) h.waits (omega (arith, soon)) (omega (arith, now, same)) h.payable

      by : Where v → Where u
      by (over is) = over (d.over_on v u h.sound step is)
      by (paid m pays now) = paid m (d.pays_on m v u h.sound step pays) (omega (arith, now, same))
      by (waits m x still soon now low) = ⊎_elim (λ pays. paid m pays (omega (arith, now, same))) (λ goes. on m x soon now goes) (d.waits_on m x v u h.sound step still)

  -- ---- a round begins

  module _ (n : ℕ) (v u : s.State) (h : Stands n v) (opening : s.Opens v u) where
    later : s.until u ≡ s.until v + 100
    later = d.until_next v u h.sound opening

    anew : (m : ℕ) → Pays m u → s.until v ≤ base + m → Where u
    anew m pays now = ⊎_elim (λ is. over is) begun (d.begins m v u h.sound opening pays)
      where
        begun : AWaitBegins s most m v u → Where u
        begun b = let within = b.within in waits (m + (within + 100)) (s.until v + within) b.waits (omega (arith, now)) (omega (arith, now, later)) b.payable

    on : (m x : ℕ) → s.until v ≤ x → x + 100 ≤ base + m → AWaitGoesOn s most m x u → Where u
    on m x early soon h = let more = h.put_off in waits (m + more) (x + more) h.waits (omega (arith, soon)) (omega (arith, early, soon, later)) h.payable

    opened_by : Where v → Where u
    opened_by (over is) = over (d.over_next v u h.sound opening is)
    opened_by (paid m pays now) = anew m (d.pays_next m v u h.sound opening pays) now
    opened_by (waits m x still soon now low) = ⊎_elim
        (λ past. anew m (d.due m x v u h.sound opening still past) now)
        (λ early. ⊎_elim (λ pays. anew m pays now) (λ goes. on m x early soon goes) (d.waits_next m x v u h.sound opening still))
        (cases_lt x (s.until v))

    open_stands : Stands (suc n) u
    open_stands = record { sound = d.sound_next v u h.sound opening; until = (let is = h.until in omega (arith, is, later)); where_is = opened_by h.where_is }

  course_stands : (w : s.State) → Stands 0 w → (n : ℕ) (u : s.State) → Course s w n u → Stands n u
  course_stands w first n u stays = first
  course_stands w first n u (steps m v x course step) = step_stands n v u (course_stands w first n v course) step
  course_stands w first n u (opens m v x course opening) = open_stands m v u (course_stands w first m v course) opening

  ended : (n : ℕ) (u : s.State) → Stands n u → most < 100 * n → s.Over u
  ended n u h enough = by h.where_is
    where
      by : Where u → s.Over u
      by (over is) = is
      by (paid m pays now) = let few = d.few m u h.sound pays in absurd (let is = h.until in omega (arith, is, now, few, enough))
      by (waits m x still soon now low) = absurd (let is = h.until in omega (arith, is, now, low, enough))

pub what_is_paid_comes : WhatIsPaidComes
what_is_paid_comes s Pays most d w sound none n u course enough =
    ended s Pays most (s.until w) d n u (course_stands s Pays most (s.until w) d w (record { sound = sound; until = omega arith; where_is = paid 0 none (omega arith) }) n u course) enough
