-- Rounds of moves, one after the other, from the opening of a connection on.
use Rattle.std.specs.Prelude.{ℕ, zero, suc, ◌≡◌, ◌≤◌, min, true}
use Rattle.pace.specs.Lane.{Setting, Lane, Stage, all_left, none_left}
use Rattle.pace.specs.Rules.{opens_round, first_lane}
use Rattle.pace.specs.Moves.{Move}

-- a number of moves within a round that began at s, from one stage and lane to another
abbrev pub Moves : Setting → Lane → ℕ → Stage → Lane → Stage → Lane → Type 0
Moves k s zero p w q u = (p ≡ q) × (w ≡ u)
Moves k s (suc n) p w q u = (r : Stage) × (v : Lane) × Moves k s n p w r v × Move k s r v q u

-- A whole round: it begins at s with everything still to be done, and ends once the path and both
-- applications are at the end of their turns.
pub record Round (k : Setting) (s u : Lane) : Type 0 where
  pub count : ℕ
  pub moves : Moves k s count all_left s none_left u
  pub writer : u.writer_over ≡ true
  pub reader : u.reader_over ≡ true

-- How the two lanes of a connection hang together at the ends of rounds: w is sent by the end that opens the
-- connection, v by the other one.
pub record Linked (w v : Lane) : Type 0 where
  -- a SYN that came was answered
  pub answered : min 1 w.control_came ≤ v.control_sent
  -- where the SYN/ACK came the opening end may send bytes, and has shown its keys
  pub ready : min 1 v.control_came ≤ w.ready
  pub keys : min 1 v.control_came ≤ w.keys_sent
  -- where the keys came the other end may send bytes, with a DSS on each segment
  pub ready_back : min 1 w.keys_came ≤ v.ready
  pub clear_back : min 1 w.keys_came ≤ v.clear

-- The first round and so many more lead both lanes to u and x, each lane by moves of its own. The SYN is sent
-- in the first round.
abbrev pub Course : Setting → Setting → ℕ → ℕ → ℕ → Lane → Lane → Type 0
Course k j a b zero u x = Round k (first_lane a) u × Round j (first_lane b) x × Linked u x × (1 ≤ u.control_sent)
Course k j a b (suc n) u x = (w : Lane) × (v : Lane) × Course k j a b n w v
    × Round k (opens_round w) u × Round j (opens_round v) x × Linked u x
