-- What holds of a lane at each moment of a round, whatever the order of steps: `s` is the lane as the round
-- began, `t` a tick before which no timer runs out, and the stage says what the path's turn has still to do.
use Rattle.std.specs.Prelude.{ℕ, ◌≡◌, ◌+◌, ◌-◌, ◌<◌, ◌≤◌, ◌⊎◌, min, true, false, cond, Option, Some, None, IfSome}
use Rattle.pace.specs.Lane.{Setting, Telling, Copy, Lane, Stage, data_ack, window_edge}
use Rattle.pace.specs.Lists.{In, OneHas, Timed, Chain, Stays, first_at, repeated, LastIs, data_fins}

-- the first tells at least what the second does
abbrev pub Covers : Telling → Telling → Type 0
Covers t u = (u.next ≤ t.next) × (u.edge ≤ t.edge) × (u.seen ≤ t.seen) × (u.dss ≤ t.dss)

-- what may be told of the receiving side, and what is to be told
abbrev pub may_tell : Setting → Lane → Telling
may_tell k w = record { next = data_ack k w; edge = window_edge k w; seen = w.control_came; dss = w.keys_came }

-- what the sending end heard
abbrev pub all_heard : Lane → Telling
all_heard w = record { next = w.acked; edge = w.edge; seen = w.control_acked; dss = w.clear }

-- How the numbers stand to one another.
pub record Numbers (k : Setting) (w : Lane) : Type 0 where
  pub read : w.read ≤ w.received
  pub received : w.received ≤ w.granted
  pub granted : w.granted ≤ w.written
  pub written : w.written ≤ k.total
  -- no byte is sent for which there is no room
  pub fits : w.granted ≤ w.read + k.buffer
  pub edge : w.granted ≤ w.edge
  pub room : w.edge ≤ window_edge k w
  pub acked : min w.acked k.total ≤ w.received
  pub next : w.next ≤ data_ack k w
  pub limit : w.limit ≤ window_edge k w
  pub told : Covers (may_tell k w) w.told
  pub keys : w.keys_came ≤ w.keys_sent
  pub control : w.control_came ≤ w.control_sent
  pub control_acked : w.control_acked ≤ w.control_came
  pub window : k.payload + k.payload ≤ w.window
  pub closed : w.closed ≤ 1
  pub known : w.known ≤ w.closed
  pub data_fin_sent : w.data_fin_sent ≤ w.known
  pub data_fin_came : w.data_fin_came ≤ w.data_fin_sent
  -- a closed stream has the whole file
  pub whole : w.closed ≤ (w.written + 1) - k.total

-- What only grows has grown since s.
pub record Since (s w : Lane) : Type 0 where
  pub clock : s.clock ≤ w.clock
  pub written : s.written ≤ w.written
  pub closed : s.closed ≤ w.closed
  pub read : s.read ≤ w.read
  pub told_end : s.told_end ≤ w.told_end
  pub granted : s.granted ≤ w.granted
  pub acked : s.acked ≤ w.acked
  pub edge : s.edge ≤ w.edge
  pub ready : s.ready ≤ w.ready
  pub clear : s.clear ≤ w.clear
  pub data_fin_sent : s.data_fin_sent ≤ w.data_fin_sent
  pub control_sent : s.control_sent ≤ w.control_sent
  pub control_acked : s.control_acked ≤ w.control_acked
  pub keys_sent : s.keys_sent ≤ w.keys_sent
  pub received : s.received ≤ w.received
  pub data_fin_came : s.data_fin_came ≤ w.data_fin_came
  pub control_came : s.control_came ≤ w.control_came
  pub keys_came : s.keys_came ≤ w.keys_came

-- The round's time, and what the reader got in it.
pub record InRound (k : Setting) (s : Lane) (t : ℕ) (w : Lane) : Type 0 where
  pub early : w.clock < w.until
  pub long : w.until ≤ w.clock + 100
  pub same : w.until ≡ s.until
  pub timers : w.until ≤ t
  pub fresh : t ≤ s.clock + k.rto
  pub got : s.received + w.got ≤ w.read + k.buffer
  pub got_since : s.read + w.got ≤ w.read

-- The segments on the way: none is lost, they come in order, and they tell nothing that isn't so.
abbrev pub UnderWay : Setting → Lane → Type 0
UnderWay k w = record {
  chain : Chain w.received w.datas w.granted;
  datas_at : Timed w.clock w.datas (w.clock + k.delay);
  acks_at : Timed w.clock w.acks (w.clock + k.delay);
  datas_are : (c : Copy) → In c w.datas
      → (c.data_fin ≤ w.data_fin_sent) × (c.control ≤ w.control_sent) × (c.keys ≤ w.keys_sent);
  acks_are : (c : Copy) → In c w.acks → Covers (may_tell k w) c.telling;
}

-- what was told last was heard, or is on its way
abbrev pub IsToldSoon : Lane → Type 0
IsToldSoon w = Covers (all_heard w) w.told ⊎ OneHas (λ c. Covers c.telling w.told) w.acks

-- what a segment carries came
abbrev pub IsDone : Lane → Copy → Type 0
IsDone w c = (c.high ≤ w.received) × (c.data_fin ≤ w.data_fin_came) × (c.control ≤ w.control_came) × (c.keys ≤ w.keys_came)

-- what was on its way as the round began still is, or came
abbrev pub NoneIsLost : Lane → Lane → Type 0
NoneIsLost s w = record {
  datas : Stays (IsDone w) s.datas w.datas;
  acks : Stays (λ c. Covers (all_heard w) c.telling) s.acks w.acks;
}

-- DATA_FIN, SYN and FIN, and the keys came where they were sent, or are on their way; and no DATA_FIN is sent
-- twice
abbrev pub FlagsCome : Lane → Type 0
FlagsCome w = record {
  data_fin : (w.data_fin_sent ≤ w.data_fin_came) ⊎ OneHas (λ c. w.data_fin_sent ≤ c.data_fin) w.datas;
  control : (w.control_sent ≤ w.control_came) ⊎ OneHas (λ c. w.control_sent ≤ c.control) w.datas;
  keys : (w.keys_sent ≤ w.keys_came) ⊎ OneHas (λ c. w.keys_sent ≤ c.keys) w.datas;
  once : data_fins w.datas + w.data_fin_came ≤ w.data_fin_sent;
}

-- why a timer may run: SYN or FIN isn't acknowledged, or not all of the bytes and the DATA_FIN is
abbrev pub Reason : Setting → Lane → Type 0
Reason k w = (w.control_acked < w.control_sent)
    ⊎ ((w.acked < k.total + 1) × (1 ≤ w.ready) × (min 1 ((w.acked + 1) - k.total) ≤ w.clear))

abbrev pub IsSet : Option ℕ → Type 0
IsSet None = ⊥
IsSet (Some x) = Unit {0}

-- the timer ran as the round began, and nothing was acknowledged since
abbrev pub IsOld : Lane → Lane → Type 0
IsOld s w = IsSet s.timer × (w.acked ≤ s.acked) × (w.control_acked ≤ s.control_acked)

-- A timer that runs does so for a reason and runs out no earlier than t; it is an old one, or began in this round.
abbrev pub TimerIs : Setting → Lane → ℕ → Lane → Type 0
TimerIs k s t w = record {
  late : IfSome w.timer (λ x. Reason k w × (t ≤ x));
  anew : IsOld s w ⊎ IfSome w.timer (λ x. s.clock + k.rto ≤ x);
}

-- What the applications have done once their turns are over.
abbrev pub TurnsDone : Setting → Lane → Lane → Type 0
TurnsDone k s w = record {
  wrote : w.writer_over ≡ true → min k.total (s.acked + k.buffer) ≤ w.written;
  closed : w.writer_over ≡ true → (w.written + 1) - k.total ≤ w.closed;
  read : w.reader_over ≡ true → s.received ≤ w.read;
  told : w.reader_over ≡ true → min s.data_fin_came ((s.read + 1) - k.total) ≤ w.told_end;
}

-- a duplicate that may still be sent as an answer: one is owed, though nothing is new
abbrev pub pending : Setting → Stage → Lane → ℕ
pending k p w = cond p.tell
    (((1 - (data_ack k w - w.told.next)) - (w.control_came - w.told.seen)) - (w.keys_came - w.told.dss))
    0

-- Duplicates in a row, heard and on the way, are no more than the DATA_FINs of both directions.
abbrev pub RepeatsAreFew : Setting → Stage → Lane → Type 0
RepeatsAreFew k p w = record {
  last : LastIs w.heard w.acks w.told;
  few : w.row + repeated w.heard w.acks + pending k p w ≤ w.said + w.data_fin_came;
}

-- What was asked of the reassembly book in this turn.
abbrev pub Asked : Setting → Lane → Stage → Lane → Type 0
Asked k s p w = record {
  next : p.ask ≡ false → data_ack k w ≤ w.next;
  limit : p.window ≡ false → s.read + k.buffer ≤ w.limit + 31;
}

-- What was told: all that came, and a window that is nearly open.
abbrev pub Answered : Setting → Lane → Stage → Lane → Type 0
Answered k s p w = record {
  all : p.tell ≡ false → (data_ack k w ≤ w.told.next) × (w.control_came ≤ w.told.seen) × (w.keys_came ≤ w.told.dss);
  window : p.update ≡ false → 1 ≤ w.ready → s.read + k.least < w.told.edge + 31 + k.threshold;
}

-- What was sent: all that was written as the round began and has room in the windows; and once there was room
-- for more, the end is known.
abbrev pub Emitted : Setting → Lane → Stage → Lane → Type 0
Emitted k s p w = record {
  bytes : p.emit ≡ false → 1 ≤ w.ready → min (min s.written w.edge) ((w.acked + w.window + 1) - k.payload) ≤ w.granted;
  known : p.emit ≡ false → 1 ≤ w.ready → w.granted + k.payload ≤ w.acked + w.window → s.closed ≤ w.known;
  data_fin : p.finish ≡ false → 1 ≤ w.clear → w.known ≤ w.data_fin_sent;
}

-- nothing is left that arrives in this round
abbrev pub NoneIsDue : Stage → Lane → Type 0
NoneIsDue p w = p.wait ≡ false → (w.until ≤ first_at w.until w.datas) × (w.until ≤ first_at w.until w.acks)

pub record Going (k : Setting) (s : Lane) (t : ℕ) (p : Stage) (w : Lane) : Type 0 where
  pub numbers : Numbers k w
  pub since : Since s w
  pub round : InRound k s t w
  pub under_way : UnderWay k w
  pub told_soon : IsToldSoon w
  pub none_lost : NoneIsLost s w
  pub flags : FlagsCome w
  pub timer : TimerIs k s t w
  -- a grant is refused for a shut window only where bytes wait
  pub shut : w.shut ≡ true → (w.granted < w.written) × (1 ≤ w.ready)
  pub turns : TurnsDone k s w
  pub repeats : RepeatsAreFew k p w
  pub asked : Asked k s p w
  pub answered : Answered k s p w
  pub emitted : Emitted k s p w
  pub none_due : NoneIsDue p w
