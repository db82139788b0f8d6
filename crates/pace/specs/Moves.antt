-- What a lane may do within a round that began at s: each move with its conditions.
use Rattle.std.specs.Prelude.{ℕ, ◌≡◌, ◌+◌, ◌-◌, ◌<◌, ◌≤◌, ◌⊎◌, min, Bool, true, false, None, List, ◌∷◌}
use Rattle.pace.specs.Lane.{Setting, Copy, Lane, Stage, data_ack, window_edge}
use Rattle.pace.specs.Rules.{wrote, closed_by, writer_ended, has_read, reader_ended, asked_out, said_by, sent_by, granted_by, refused_by, settled_by, rested, flagged, grown, moved_to, hears_data, skipped, repeats, hears_ack}
use Rattle.pace.specs.Lists.{first_at}
use Rattle.pace.specs.Going.{Covers, may_tell, Reason, pending}

-- the writer's book takes more of the file, in the writer's turn
pub record MayWrite (k : Setting) (n : ℕ) (w : Lane) : Type 0 where
  pub turn : w.writer_over ≡ false
  pub more : w.written ≤ n
  pub within : n ≤ k.total

-- the stream is closed once the whole file is written
pub record MayClose (k : Setting) (n : ℕ) (w : Lane) : Type 0 where
  pub more : w.closed ≤ n
  pub whole : n ≤ (w.written + 1) - k.total

-- the writer ends its turn with a full buffer, or with the whole file written and closed
pub record MayEndWriting (k : Setting) (s w : Lane) : Type 0 where
  pub wrote : min k.total (s.acked + k.buffer) ≤ w.written
  pub closed : (w.written + 1) - k.total ≤ w.closed

-- the reader ends its turn once it has read what had come, and was told the end where it had come
pub record MayEndReading (k : Setting) (s : Lane) (n : ℕ) (w : Lane) : Type 0 where
  pub more : w.told_end ≤ n
  pub read : s.received ≤ w.read
  pub told : min s.data_fin_came ((s.read + 1) - k.total) ≤ n

-- the book tells its window in steps of 32 octets
pub record MayAsk (k : Setting) (limit : ℕ) (w : Lane) : Type 0 where
  pub least : w.read + k.buffer ≤ limit + 31
  pub most : limit ≤ window_edge k w

-- The receiving end sends a segment: what it tells is so; where no answer is owed any more it tells all, and
-- where no update is due any more the window is nearly open. A duplicate is paid by the DATA_FIN that it
-- carries, or by an answer that was owed.
pub record MaySay (k : Setting) (s : Lane) (p : Stage) (tell update : Bool) (x : Copy) (w : Lane) : Type 0 where
  pub turn : p.wait ≡ true
  pub at : x.at ≡ w.clock + k.delay
  pub so : Covers (may_tell k w) x.telling
  pub all : tell ≡ false
      → (data_ack k w ≤ x.telling.next) × (w.control_came ≤ x.telling.seen) × (w.keys_came ≤ x.telling.dss)
  pub window : update ≡ false → 1 ≤ w.ready → s.read + k.least < x.telling.edge + 31 + k.threshold
  pub paid : repeats w.told x + w.said + pending k (record p { tell = tell }) (said_by x w)
      ≤ (said_by x w).said + pending k p w

-- the sending end sends a segment: the next bytes that were written, within the window that it heard; or
-- none, and a DATA_FIN at most once
pub record MaySend (k : Setting) (p : Stage) (x : Copy) (w : Lane) : Type 0 where
  pub turn : p.wait ≡ true
  pub at : x.at ≡ w.clock + k.delay
  pub low : x.low ≡ w.granted
  pub high : w.granted ≤ x.high
  pub written : x.high ≤ w.written
  pub edge : x.high ≤ w.edge
  pub data_fin : x.data_fin + w.data_fin_sent ≤ w.known

-- nothing that was written as the round began has room in the windows; where there is room for more, the end
-- is known
pub record HasEmitted (k : Setting) (s : Lane) (known : ℕ) (w : Lane) : Type 0 where
  pub bytes : 1 ≤ w.ready → min (min s.written w.edge) ((w.acked + w.window + 1) - k.payload) ≤ w.granted
  pub end : 1 ≤ w.ready → w.granted + k.payload ≤ w.acked + w.window → s.closed ≤ known

-- the book refuses a grant
pub record MayRefuse (k : Setting) (s : Lane) (p : Stage) (shut : Bool) (known : ℕ) (w : Lane) : Type 0 where
  pub more : w.known ≤ known
  pub closed : known ≤ w.closed
  pub finish : (known ≤ w.data_fin_sent) ⊎ (p.finish ≡ true)
  pub waits : shut ≡ true → (w.granted < w.written) × (1 ≤ w.ready)
  pub emitted : HasEmitted k s known w

-- the sending end may do more than before, and the turn has still to use that
pub record MayFlag (k : Setting) (s : Lane) (p : Stage) (can_send can_map : ℕ) (w : Lane) : Type 0 where
  pub emit : p.emit ≡ true
  pub finish : p.finish ≡ true
  pub ready : w.ready ≤ can_send
  pub clear : w.clear ≤ can_map
  pub window : p.update ≡ false → s.read + k.least < w.told.edge + 31 + k.threshold

-- the clock goes on, within the round and not past an arrival
pub record MayMove (p : Stage) (tick : ℕ) (w : Lane) : Type 0 where
  pub turn : p.wait ≡ true
  pub later : w.clock ≤ tick
  pub early : tick < w.until
  pub datas : tick ≤ first_at w.until w.datas
  pub acks : tick ≤ first_at w.until w.acks

-- The receiving end takes the segment that is first on its way: it brings bytes, a DATA_FIN, SYN or FIN, or
-- the keys. The book has to be asked again what is acknowledged, unless it brings neither bytes nor a DATA_FIN.
pub record MayHearData (p : Stage) (ask : Bool) (c : Copy) (rest : List Copy) (w : Lane) : Type 0 where
  pub first : w.datas ≡ c ∷ rest
  pub turn : p.wait ≡ true
  pub news : (c.low < c.high) ⊎ ((0 < c.data_fin) ⊎ ((w.control_came < c.control) ⊎ (w.keys_came < c.keys)))
  pub asked : ask ≡ false → (p.ask ≡ false) × (c.high ≤ c.low) × (c.data_fin ≤ 0)

-- The segment that is first on its way brings nothing new, and only acknowledges.
pub record MaySkip (p : Stage) (c : Copy) (rest : List Copy) (w : Lane) : Type 0 where
  pub first : w.datas ≡ c ∷ rest
  pub turn : p.wait ≡ true
  pub bytes : c.high ≤ c.low
  pub data_fin : c.data_fin ≤ 0
  pub control : c.control ≤ w.control_came
  pub keys : c.keys ≤ w.keys_came

-- the sending end takes the segment that is first on its way; a timer doesn't run where SYN or FIN is
-- acknowledged by it
pub record MayHearAck (p : Stage) (c : Copy) (rest : List Copy) (w : Lane) : Type 0 where
  pub first : w.acks ≡ c ∷ rest
  pub turn : p.wait ≡ true
  pub emit : p.emit ≡ true
  pub finish : p.finish ≡ true
  pub rests : w.control_acked < c.telling.seen → w.timer ≡ None

-- a stage with at least as much still to be done, and the same answer owed
pub record IsBefore (q p : Stage) : Type 0 where
  pub ask : q.ask ≡ false → p.ask ≡ false
  pub tell : p.tell ≡ q.tell
  pub window : q.window ≡ false → p.window ≡ false
  pub update : q.update ≡ false → p.update ≡ false
  pub emit : q.emit ≡ false → p.emit ≡ false
  pub finish : q.finish ≡ false → p.finish ≡ false
  pub wait : q.wait ≡ false → p.wait ≡ false

-- From stage p and lane w one move leads to another stage and lane.
pub data Move (k : Setting) (s : Lane) (p : Stage) (w : Lane) : Stage → Lane → Type 0 where
  writes : (n : ℕ) → MayWrite k n w → Move k s p w p (wrote n w)
  closes : (n : ℕ) → MayClose k n w → Move k s p w p (closed_by n w)
  ends_writing : MayEndWriting k s w → Move k s p w p (writer_ended w)
  reads : (n : ℕ) → w.read + n ≤ w.received → Move k s p w p (has_read n w)
  ends_reading : (n : ℕ) → MayEndReading k s n w → Move k s p w p (reader_ended n w)
  asks : (limit : ℕ) → MayAsk k limit w → Move k s p w (record p { ask = false; window = false }) (asked_out k limit w)
  says : (tell update : Bool) (x : Copy) → MaySay k s p tell update x w
      → Move k s p w (record p { tell = tell; update = update }) (said_by x w)
  -- no update is due
  keeps_quiet : (1 ≤ w.ready → s.read + k.least < w.told.edge + 31 + k.threshold)
      → Move k s p w (record p { update = false }) w
  sends_none : (x : Copy) → x.high ≡ w.granted → MaySend k p x w → Move k s p w p (sent_by x w)
  sends_bytes : (x : Copy) → MaySend k p x w → Move k s p w p (granted_by x w)
  is_refused : (shut : Bool) (known : ℕ) → MayRefuse k s p shut known w
      → Move k s p w (record p { emit = false }) (refused_by shut known w)
  -- nothing more is asked for
  has_emitted : HasEmitted k s w.known w → Move k s p w (record p { emit = false }) w
  -- no DATA_FIN is due
  has_finished : (1 ≤ w.clear → w.known ≤ w.data_fin_sent) → Move k s p w (record p { finish = false }) w
  -- nothing more arrives in this round
  waits_no_more : w.until ≤ first_at w.until w.datas → w.until ≤ first_at w.until w.acks
      → Move k s p w (record p { wait = false }) w
  settles : (runs : Bool) (rto : ℕ) → k.rto ≤ rto → (runs ≡ true → Reason k w) → Move k s p w p (settled_by runs rto w)
  rests : Move k s p w p (rested w)
  flags : (ready clear : ℕ) → MayFlag k s p ready clear w → Move k s p w p (flagged ready clear w)
  grows : (n : ℕ) → p.emit ≡ true → w.window ≤ n → Move k s p w p (grown n w)
  moves : (tick : ℕ) → MayMove p tick w → Move k s p w p (moved_to tick w)
  hears : (ask : Bool) (c : Copy) (rest : List Copy) → MayHearData p ask c rest w
      → Move k s p w (record p { ask = ask; tell = true }) (hears_data c rest w)
  skips : (c : Copy) (rest : List Copy) → MaySkip p c rest w → Move k s p w p (skipped rest w)
  is_acknowledged : (c : Copy) (rest : List Copy) → MayHearAck p c rest w → Move k s p w p (hears_ack c rest w)
  -- the turn goes back to an earlier stage
  goes_back : (q : Stage) → IsBefore q p → Move k s p w q w
