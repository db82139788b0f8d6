-- What holds of a lane at each moment.
use Rattle.std.specs.Prelude.{ℕ, zero, suc, ◌≡◌, ◌+◌, ◌*◌, ◌<◌, ◌≤◌, ◌⊎◌, Some, IfSome, List, length}
use Rattle.whole_paths.specs.Lanes.Lane.{Setting, Copy, Lane, In, Mem, NoneBefore}
use Rattle.whole_paths.specs.Lanes.Moves.{IsTimeout}

pub record OneHas (P : Copy → Type 0) (cs : List Copy) : Type 0 where
  pub copy : Copy
  pub among : In copy cs
  pub has : P copy

-- a copy of this number comes within a delay
abbrev pub Soon : Setting → Lane → ℕ → Copy → Type 0
Soon k w number c = (c.number ≡ number) × (c.at ≤ w.clock + k.delay)

pub record Fine (k : Setting) (w : Lane) : Type 0 where
  pub acked : w.acked ≤ w.received
  pub received : w.received ≤ w.sent
  pub sent : w.sent ≤ k.total
  pub gone : w.gone ≤ w.sent
  pub behind : w.acked ≤ w.gone
  pub early : w.clock < w.until
  pub timeout : IsTimeout k w.timeout
  pub datas_at : NoneBefore w.clock w.datas
  pub acks_at : NoneBefore w.clock w.acks
  pub acks_soon : (c : Copy) → In c w.acks → (c.number ≤ w.received) × (c.at ≤ w.clock + k.delay)
  pub timer : IfSome w.timer (λ t. (w.clock ≤ t) × (t ≤ w.clock + k.most))

-- Where each segment is that was sent since the last expiry: it came, it comes within a delay, it is kept, or its last copy was harmed. What
-- came is acknowledged, or the newest acknowledgement comes, or it was lost.
pub record Sound (k : Setting) (spoiled : List ℕ) (gap : ℕ) (w : Lane) : Type 0 where
  pub places : (p : ℕ) → w.acked ≤ p → p < w.gone → (p < w.received) ⊎ (OneHas (Soon k w p) w.datas ⊎ (Mem p w.kept ⊎ Mem p spoiled))
  pub edge : Mem w.received w.kept → ⊥
  pub newest : (w.received ≤ w.acked) ⊎ (OneHas (Soon k w w.received) w.acks ⊎ (1 ≤ gap))

-- since there were so many acknowledged, received and lines left there is news: more is acknowledged or received, a line was used, or the end gave up
pub data News (a r h : ℕ) (w : Lane) : Type 0 where
  more_acked : a < w.acked → News a r h w
  more_received : r < w.received → News a r h w
  line_used : w.harms < h → News a r h w
  died : 1 ≤ w.dead → News a r h w

pub data Awaits (k : Setting) (a r h x : ℕ) (w : Lane) : Type 0 where
  news : News a r h w → Awaits k a r h x w
  waits : (t : ℕ) → w.timer ≡ Some t → t + k.delay + k.delay ≤ x → a < w.sent → Awaits k a r h x w
  flies : OneHas (λ c. (c.number ≡ a) × (c.at + k.delay ≤ x)) w.datas → Awaits k a r h x w
  answered : OneHas (λ c. (a < c.number) × (c.at ≤ x)) w.acks → Awaits k a r h x w

-- Long waits are paid by lines, two for each line. One that goes on since so many were acknowledged, received and left is paid once it is
-- over: by a harmed segment that comes then, or by a lost acknowledgement that another one follows.
pub data Debt (harms longs a r h : ℕ) (spoiled : List ℕ) (gap : ℕ) (w : Lane) : Type 0 where
  paid : longs + (length spoiled + gap) + 2 * w.harms ≤ 2 * harms → Debt harms longs a r h spoiled gap w
  spoilt : longs + (length spoiled + gap) + 2 * w.harms ≤ 2 * harms + 1 → h ≤ w.harms → Mem a spoiled → w.received ≤ a → a ≤ r
      → Debt harms longs a r h spoiled gap w
  unheard : longs + (length spoiled + gap) + 2 * w.harms ≤ 2 * harms + 1 → h ≤ w.harms → 1 ≤ gap → ((c : Copy) → In c w.acks → c.number ≤ a)
      → w.acked ≤ a → w.received ≤ r → Debt harms longs a r h spoiled gap w

-- what is known of the segments, and what is owed for long waits
pub record Books (k : Setting) (harms longs a r h : ℕ) (w : Lane) : Type 0 where
  pub spoiled : List ℕ
  pub gap : ℕ
  pub sound : Sound k spoiled gap w
  pub debt : Debt harms longs a r h spoiled gap w

-- a short wait, and a long one
abbrev pub short : Setting → ℕ → ℕ
short k zero = 0
short k (suc n) = short k n + (k.delay + k.delay + 100)

abbrev pub long : Setting → ℕ → ℕ
long k zero = 0
long k (suc n) = long k n + k.most

-- the tick by which so many news have come after so many long waits
abbrev pub deadline : Setting → ℕ → ℕ → ℕ
deadline k count longs = short k count + long k longs

pub record Paced (k : Setting) (harms : ℕ) (w : Lane) : Type 0 where
  pub acked : ℕ
  pub received : ℕ
  pub left : ℕ
  pub tick : ℕ
  pub count : ℕ
  pub longs : ℕ
  pub books : Books k harms longs acked received left w
  pub since_acked : acked ≤ w.acked
  pub since_received : received ≤ w.received
  pub since_left : w.harms ≤ left
  pub awaits : Awaits k acked received left tick w
  pub counted : count + left ≤ acked + received + harms + 1
  pub in_time : tick ≤ deadline k count longs
  pub now : w.until ≤ deadline k count longs + 100

-- all is acknowledged, or the end gave up
abbrev pub IsOver : Setting → Lane → Type 0
IsOver k w = (k.total ≤ w.acked) ⊎ (1 ≤ w.dead)

-- Of the expiries in a row each has used a line, but for the last one, whose segment or its answer is on its way and comes before the
-- timer runs out again.
pub data RowIs (k : Setting) (harms : ℕ) (w : Lane) : Type 0 where
  quiet : w.expiries ≡ 0 → RowIs k harms w
  paid : w.expiries + w.harms ≤ harms → RowIs k harms w
  comes : (x : ℕ) → w.expiries + w.harms ≤ harms + 1 → x ≤ w.clock + k.delay + k.delay → IfSome w.timer (λ t. x < t)
      → OneHas (λ c. c.at + k.delay ≤ x) w.datas ⊎ OneHas (λ c. c.at ≤ x) w.acks → RowIs k harms w

pub record Lives (k : Setting) (harms : ℕ) (w : Lane) : Type 0 where
  pub row : RowIs k harms w
  pub few : w.harms ≤ harms
  pub alive : w.dead ≡ 0
