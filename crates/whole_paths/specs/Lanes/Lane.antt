-- One direction of a connection over one path that loses segments, with what is known of each of them: which were sent since the last
-- expiry, which are kept out of order, which copies are under way.
use Rattle.std.specs.Prelude.{ℕ, ◌+◌, ◌≡◌, ◌≤◌, Option, None, List, [], ◌∷◌, ◌⊎◌}

pub record Setting : Type 0 where
  pub delay : ℕ
  pub most : ℕ
  pub total : ℕ

pub record Copy : Type 0 where
  pub at : ℕ
  pub number : ℕ

pub record Lane : Type 0 where
  -- segments that were acknowledged, that were sent since the last expiry, and that were sent at all
  pub acked : ℕ
  pub gone : ℕ
  pub sent : ℕ
  -- segments that came without a gap, and those behind a gap that are kept
  pub received : ℕ
  pub kept : List ℕ
  pub timer : Option ℕ
  pub timeout : ℕ
  -- how often the timer ran out in a row, and 1 once the end gave up
  pub expiries : ℕ
  pub dead : ℕ
  -- lines of the script that have still to harm a segment
  pub harms : ℕ
  pub datas : List Copy
  pub acks : List Copy
  pub clock : ℕ
  pub until : ℕ

abbrev pub first_lane : ℕ → ℕ → Lane
first_lane timeout harms = record {
  acked = 0;
  gone = 0;
  sent = 0;
  received = 0;
  kept = [];
  timer = None;
  timeout = timeout;
  expiries = 0;
  dead = 0;
  harms = harms;
  datas = [];
  acks = [];
  clock = 0;
  until = 100;
}

abbrev pub In : Copy → List Copy → Type 0
In c [] = ⊥
In c (x ∷ xs) = (c ≡ x) ⊎ In c xs

-- the number is one of these
abbrev pub Mem : ℕ → List ℕ → Type 0
Mem n [] = ⊥
Mem n (x ∷ xs) = (n ≡ x) ⊎ Mem n xs

abbrev pub NoneBefore : ℕ → List Copy → Type 0
NoneBefore tick cs = (c : Copy) → In c cs → tick ≤ c.at

abbrev pub copy_of : Setting → ℕ → ℕ → Copy
copy_of k now number = record { at = now + k.delay; number = number }
