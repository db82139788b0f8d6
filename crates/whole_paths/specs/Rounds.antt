-- Whatever goes on by steps within rounds of 100 ticks, and has news to be counted.
use Rattle.std.specs.Prelude.{ℕ, zero, suc, ◌+◌, ◌*◌, ◌≡◌, ◌<◌, ◌≤◌, ◌⊎◌}

-- The states, the steps within a round, and how the next round begins. Of a state there is the tick at which its round ends, how much
-- news there was so far, and whether it is over. `Waits count tick state` says that after so much news more comes by this tick.
pub record System : Type 1 where
  pub State : Type 0
  pub Steps : State → State → Type 0
  pub Opens : State → State → Type 0
  pub Sound : State → Type 0
  pub until : State → ℕ
  pub news : State → ℕ
  pub Over : State → Type 0
  pub Waits : ℕ → ℕ → State → Type 0

-- after so many rounds it has come from one state to another
pub data Course (s : System) (w : s.State) : ℕ → s.State → Type 0 where
  stays : Course s w 0 w
  steps : (n : ℕ) (v u : s.State) → Course s w n v → s.Steps v u → Course s w n u
  opens : (n : ℕ) (v u : s.State) → Course s w n v → s.Opens v u → Course s w (suc n) u

-- What each step, and each beginning of a round, owes. News grows, and there is so much at most; a wait goes on, or there is news; a round
-- begins past no wait that has no news; and as a round begins that isn't over, news comes within so many ticks.
pub record Drives (s : System) (most within : ℕ) : Type 0 where
  pub sound_on : (v u : s.State) → s.Sound v → s.Steps v u → s.Sound u
  pub sound_next : (v u : s.State) → s.Sound v → s.Opens v u → s.Sound u
  pub until_on : (v u : s.State) → s.Sound v → s.Steps v u → s.until u ≡ s.until v
  pub until_next : (v u : s.State) → s.Sound v → s.Opens v u → s.until u ≡ s.until v + 100
  pub news_on : (v u : s.State) → s.Sound v → s.Steps v u → s.news v ≤ s.news u
  pub news_next : (v u : s.State) → s.Sound v → s.Opens v u → s.news v ≤ s.news u
  pub over_on : (v u : s.State) → s.Sound v → s.Steps v u → s.Over v → s.Over u
  pub over_next : (v u : s.State) → s.Sound v → s.Opens v u → s.Over v → s.Over u
  pub few : (v : s.State) → s.Sound v → s.news v ≤ most
  pub waits_on : (n x : ℕ) (v u : s.State) → s.Sound v → s.Steps v u → n ≤ s.news v → s.Waits n x v → (n < s.news u) ⊎ s.Waits n x u
  pub waits_next : (n x : ℕ) (v u : s.State) → s.Sound v → s.Opens v u → n ≤ s.news v → s.Waits n x v → (n < s.news u) ⊎ s.Waits n x u
  pub due : (n x : ℕ) (v u : s.State) → s.Sound v → s.Opens v u → n ≤ s.news v → s.Waits n x v → x < s.until v → n < s.news u
  pub begins : (v u : s.State) → s.Sound v → s.Opens v u → s.Over u ⊎ s.Waits (s.news u) (s.until v + within) u

-- the ticks by which so much news has come, the first round aside
abbrev pub ticks_for : ℕ → ℕ → ℕ
ticks_for within zero = 0
ticks_for within (suc n) = ticks_for within n + (within + 100)

-- from whatever round on, it is over once the rounds for one piece of news more than there can be have passed
abbrev pub WhatIsAwaitedComes : Type 1
WhatIsAwaitedComes = (s : System) (most within base : ℕ) → Drives s most within → (w : s.State) → s.Sound w → s.until w ≡ base + 100
    → (n : ℕ) (u : s.State) → Course s w n u → ticks_for within (suc most) < 100 * n → s.Over u
