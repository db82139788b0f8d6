-- Whatever goes on by steps within rounds of 100 ticks, and pays for the ticks that it waits: a short wait by what it brings, a long one by what
-- put it off.
use Rattle.std.specs.Prelude.{ℕ, ◌+◌, ◌*◌, ◌≡◌, ◌<◌, ◌≤◌, ◌⊎◌}
use Rattle.whole_paths.specs.Rounds.{System, Course}

-- A wait for so many ticks from the end of a round on, in the round that begins. Once it is over they are paid, and the 100 of a round with them:
-- no more than can be.
pub record AWaitBegins (s : System) (most paid : ℕ) (v u : s.State) : Type 0 where
  pub within : ℕ
  pub payable : paid + (within + 100) ≤ most
  pub waits : s.Waits (paid + (within + 100)) (s.until v + within) u

-- A wait goes on, or is put off by so many ticks, which are paid with the others once it is over.
pub record AWaitGoesOn (s : System) (most n x : ℕ) (u : s.State) : Type 0 where
  pub put_off : ℕ
  pub payable : n + put_off ≤ most
  pub waits : s.Waits (n + put_off) (x + put_off) u

-- What each step, and each beginning of a round, owes. `Pays ticks state` says that so many ticks are paid by what came until then; what is paid
-- stays so, and there is so much at most. `Waits ticks tick state` says that so many are paid by this tick: a wait goes on, is put off, or they are paid; and a
-- round begins past no wait whose ticks aren't paid. As a round begins in what isn't over, a wait begins.
pub record PaysItsWay (s : System) (Pays : ℕ → s.State → Type 0) (most : ℕ) : Type 0 where
  pub sound_on : (v u : s.State) → s.Sound v → s.Steps v u → s.Sound u
  pub sound_next : (v u : s.State) → s.Sound v → s.Opens v u → s.Sound u
  pub until_on : (v u : s.State) → s.Sound v → s.Steps v u → s.until u ≡ s.until v
  pub until_next : (v u : s.State) → s.Sound v → s.Opens v u → s.until u ≡ s.until v + 100
  pub pays_on : (n : ℕ) (v u : s.State) → s.Sound v → s.Steps v u → Pays n v → Pays n u
  pub pays_next : (n : ℕ) (v u : s.State) → s.Sound v → s.Opens v u → Pays n v → Pays n u
  pub over_on : (v u : s.State) → s.Sound v → s.Steps v u → s.Over v → s.Over u
  pub over_next : (v u : s.State) → s.Sound v → s.Opens v u → s.Over v → s.Over u
  pub few : (n : ℕ) (v : s.State) → s.Sound v → Pays n v → n ≤ most
  pub waits_on : (n x : ℕ) (v u : s.State) → s.Sound v → s.Steps v u → s.Waits n x v → Pays n u ⊎ AWaitGoesOn s most n x u
  pub waits_next : (n x : ℕ) (v u : s.State) → s.Sound v → s.Opens v u → s.Waits n x v → Pays n u ⊎ AWaitGoesOn s most n x u
  pub due : (n x : ℕ) (v u : s.State) → s.Sound v → s.Opens v u → s.Waits n x v → x < s.until v → Pays n u
  pub begins : (n : ℕ) (v u : s.State) → s.Sound v → s.Opens v u → Pays n u → s.Over u ⊎ AWaitBegins s most n v u

-- from whatever round on, it is over once the rounds have passed for all that can be paid
abbrev pub WhatIsPaidComes : Type 1
WhatIsPaidComes = (s : System) (Pays : ℕ → s.State → Type 0) (most : ℕ) → PaysItsWay s Pays most → (w : s.State) → s.Sound w → Pays 0 w
    → (n : ℕ) (u : s.State) → Course s w n u → most < 100 * n → s.Over u
