-- Words on the segments that are on their way.
use Rattle.std.specs.Prelude.{ℕ, ◌≡◌, ◌+◌, ◌≤◌, ◌⊎◌, List, [], ◌∷◌}
use Rattle.pace.specs.Lane.{Telling, Copy}
use Rattle.pace.specs.Rules.{repeats}

-- the segment is one of these
abbrev pub In : Copy → List Copy → Type 0
In c [] = ⊥
In c (x ∷ xs) = (c ≡ x) ⊎ In c xs

-- one of the copies has P
pub record OneHas (P : Copy → Type 0) (cs : List Copy) : Type 0 where
  pub copy : Copy
  pub among : In copy cs
  pub has : P copy

-- the copies arrive in their order, from one tick on and no later than another
abbrev pub Timed : ℕ → List Copy → ℕ → Type 0
Timed from [] to = from ≤ to
Timed from (c ∷ cs) to = (from ≤ c.at) × Timed c.at cs to

-- the copies' bytes are those from one place up to another, in order
abbrev pub Chain : ℕ → List Copy → ℕ → Type 0
Chain low [] high = low ≡ high
Chain low (c ∷ cs) high = (c.low ≡ low) × (low ≤ c.high) × Chain c.high cs high

-- each of some segments is still on its way, or is done with
abbrev pub Stays : (Copy → Type 0) → List Copy → List Copy → Type 0
Stays Done before now = (c : Copy) → In c before → In c now ⊎ Done c

-- the tick of the first arrival, or another where there is none
abbrev pub first_at : ℕ → List Copy → ℕ
first_at t [] = t
first_at t (c ∷ cs) = c.at

-- how many of them tell what the one before told, the first after this
abbrev pub repeated : Telling → List Copy → ℕ
repeated before [] = 0
repeated before (c ∷ cs) = repeats before c + repeated c.telling cs

-- what the last of them tells, or this
abbrev pub LastIs : Telling → List Copy → Telling → Type 0
LastIs before [] last = before ≡ last
LastIs before (c ∷ cs) last = LastIs c.telling cs last

-- how many DATA_FINs they carry
abbrev pub data_fins : List Copy → ℕ
data_fins [] = 0
data_fins (c ∷ cs) = c.data_fin + data_fins cs
