-- What a lane may do: each move with its conditions.
use Rattle.std.specs.Prelude.{ℕ, suc, ◌≡◌, ◌+◌, ◌<◌, ◌≤◌, ◌⊎◌, max, nat_lt, cond, Some, None, IfSome, List, [], ◌∷◌, ◌++◌}
use Rattle.whole_paths.specs.Lanes.Lane.{Setting, Copy, Lane, Mem, NoneBefore, copy_of}

-- A data segment arrives a delay later, and in copies at any ticks; or a line harms it, and only such copies arrive, or none.
pub data Fate (k : Setting) (now number harms : ℕ) : ℕ → List Copy → Type 0 where
  arrives : (more : List Copy) → NoneBefore now more → Fate k now number harms harms (copy_of k now number ∷ more)
  harmed : (left : ℕ) → harms ≡ suc left → (more : List Copy) → NoneBefore now more → Fate k now number harms left more

-- an acknowledgement arrives a delay later, or is lost
pub data AckFate (k : Setting) (now number harms : ℕ) : ℕ → List Copy → Type 0 where
  comes : AckFate k now number harms harms (copy_of k now number ∷ [])
  lost : (left : ℕ) → harms ≡ suc left → AckFate k now number harms left []

-- ---- rules

-- the next segment is sent, for the first time or again
abbrev pub sends : ℕ → List Copy → Lane → Lane
sends left copies w = record w { gone = suc w.gone; sent = max w.sent (suc w.gone); harms = left; datas = copies ++ w.datas }

abbrev pub hears_data : ℕ → List ℕ → List Copy → ℕ → List Copy → Lane → Lane
hears_data received kept rest left copies w =
    record w { received = received; kept = kept; datas = rest; harms = left; acks = copies ++ w.acks }

abbrev pub hears_ack : Copy → List Copy → Lane → Lane
hears_ack c rest w = record w {
  acked = max w.acked c.number;
  gone = max w.gone c.number;
  expiries = 0;
  timer = cond (nat_lt w.acked c.number) None w.timer;
  acks = rest;
}

-- an expiry: the first segment goes again, and every other one is to be sent again
abbrev pub fires : ℕ → ℕ → List Copy → Lane → Lane
fires timeout left copies w = record w {
  gone = suc w.acked;
  expiries = suc w.expiries;
  timer = Some (w.clock + timeout);
  timeout = timeout;
  harms = left;
  datas = copies ++ w.datas;
}

abbrev pub gives_up : Lane → Lane
gives_up w = record w { dead = max w.dead 1; timer = None }

abbrev pub starts : Lane → Lane
starts w = record w { timer = Some (w.clock + w.timeout) }

abbrev pub rests : Lane → Lane
rests w = record w { timer = None }

abbrev pub measures : ℕ → Lane → Lane
measures timeout w = record w { timeout = timeout }

abbrev pub moved_to : ℕ → Lane → Lane
moved_to tick w = record w { clock = tick }

abbrev pub opens_round : Lane → Lane
opens_round w = record w { clock = w.until; until = w.until + 100 }

-- ---- conditions

-- One copy is taken: its segment is kept, or came without a gap, and so does all that was kept; the first gap is where nothing is kept.
pub record MayHearData (c : Copy) (front back : List Copy) (received : ℕ) (kept : List ℕ) (w : Lane) : Type 0 where
  pub among : w.datas ≡ front ++ c ∷ back
  pub more : w.received ≤ received
  pub within : received ≤ w.sent
  pub takes : (c.number < received) ⊎ Mem c.number kept
  pub keeps : (p : ℕ) → Mem p w.kept → (p < received) ⊎ Mem p kept
  pub stops : Mem received kept → ⊥

abbrev pub IsTimeout : Setting → ℕ → Type 0
IsTimeout k timeout = (1000 ≤ timeout) × (timeout ≤ k.most)

pub record MayMove (tick : ℕ) (w : Lane) : Type 0 where
  pub later : w.clock ≤ tick
  pub early : tick < w.until
  pub datas : NoneBefore tick w.datas
  pub acks : NoneBefore tick w.acks
  pub timer : IfSome w.timer (λ t. tick ≤ t)

-- A round ends: nothing that was due is left; as long as not all is acknowledged a segment was sent since the last expiry, and the timer
-- runs.
pub record MayOpen (k : Setting) (w : Lane) : Type 0 where
  pub datas : NoneBefore w.until w.datas
  pub acks : NoneBefore w.until w.acks
  pub timer : IfSome w.timer (λ t. w.until ≤ t)
  pub gone : w.dead ≡ 0 → w.acked < k.total → w.acked < w.gone
  pub timed : w.dead ≡ 0 → w.acked < w.sent → (t : ℕ) × (w.timer ≡ Some t)

pub data Move (k : Setting) (w : Lane) : Lane → Type 0 where
  sent_by : (left : ℕ) (copies : List Copy) → w.gone < k.total → Fate k w.clock w.gone w.harms left copies → Move k w (sends left copies w)
  heard_by : (c : Copy) (front back : List Copy) (received : ℕ) (kept : List ℕ) (left : ℕ) (copies : List Copy)
      → MayHearData c front back received kept w → AckFate k w.clock received w.harms left copies
      → Move k w (hears_data received kept (front ++ back) left copies w)
  acked_by : (c : Copy) (front back : List Copy) → w.acks ≡ front ++ c ∷ back → Move k w (hears_ack c (front ++ back) w)
  fired : (t timeout left : ℕ) (copies : List Copy) → w.timer ≡ Some t → t ≤ w.clock → w.expiries ≤ 4 → w.acked < w.sent → IsTimeout k timeout
      → Fate k w.clock w.acked w.harms left copies → Move k w (fires timeout left copies w)
  gave_up : (t : ℕ) → w.timer ≡ Some t → t ≤ w.clock → 5 ≤ w.expiries → Move k w (gives_up w)
  started : w.timer ≡ None → Move k w (starts w)
  rested : w.sent ≤ w.acked → Move k w (rests w)
  measured : (timeout : ℕ) → IsTimeout k timeout → Move k w (measures timeout w)
  moved : (tick : ℕ) → MayMove tick w → Move k w (moved_to tick w)

pub data Run (k : Setting) (w : Lane) : ℕ → Lane → Type 0 where
  stays : Run k w 0 w
  goes : (n : ℕ) (v u : Lane) → Run k w n v → Move k v u → Run k w n u
  opens : (n : ℕ) (v : Lane) → Run k w n v → MayOpen k v → Run k w (suc n) (opens_round v)
