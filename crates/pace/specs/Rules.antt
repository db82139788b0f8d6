-- The rules of a lane: one definition for each thing that may happen to it.
use Rattle.std.specs.Prelude.{ℕ, zero, suc, ◌+◌, ◌==◌, max, nat_lt, Bool, true, false, cond, ◌&&◌, List, [], ◌∷◌, ◌++◌, Option, Some, None}
use Rattle.pace.specs.Lane.{Setting, Telling, Copy, Lane, data_ack}

-- ---- the applications

-- the writer's book has taken so many octets
abbrev pub wrote : ℕ → Lane → Lane
wrote n w = record w { writer = record w.writer { written = n } }

-- the stream is closed (1) or not (0)
abbrev pub closed_by : ℕ → Lane → Lane
closed_by n w = record w { writer = record w.writer { closed = n } }

abbrev pub writer_ended : Lane → Lane
writer_ended w = record w { writer = record w.writer { writer_over = true } }

-- the reader has read this many octets more
abbrev pub has_read : ℕ → Lane → Lane
has_read n w = record w { reader = record w.reader { read = w.read + n; got = w.got + n } }

-- the reader's turn is over, and 1 says that it was told the end
abbrev pub reader_ended : ℕ → Lane → Lane
reader_ended n w = record w { reader = record w.reader { reader_over = true; told_end = n } }

-- ---- what the receiving end sends

-- the reassembly book answers what is acknowledged, with this edge of the window
abbrev pub asked_out : Setting → ℕ → Lane → Lane
asked_out k limit w = record w { receiver = record w.receiver { next = data_ack k w; limit = limit } }

-- the receiving end sends a segment
abbrev pub said_by : Copy → Lane → Lane
said_by x w = record w {
  receiver = record w.receiver { told = x.telling; said = max w.said x.data_fin };
  way = record w.way { acks = w.acks ++ x ∷ [] };
}

-- ---- what the sending end sends

-- The sending end sends a segment, and a Bool says whether the last grant stands as refused for a shut window.
abbrev pub sends : Bool → Copy → Lane → Lane
sends shut x w = record w {
  sender = record w.sender {
    granted = x.high;
    shut = shut;
    data_fin_sent = max w.data_fin_sent x.data_fin;
    control_sent = max w.control_sent x.control;
    keys_sent = max w.keys_sent x.keys;
  };
  way = record w.way { datas = w.datas ++ x ∷ [] };
}

-- a segment without bytes of a grant: an acknowledgement, SYN, FIN or DATA_FIN
abbrev pub sent_by : Copy → Lane → Lane
sent_by x w = sends w.shut x w

-- the bytes of a grant
abbrev pub granted_by : Copy → Lane → Lane
granted_by x w = sends false x w

-- a grant is refused: whether for a shut window, and whether the end of the stream is known
abbrev pub refused_by : Bool → ℕ → Lane → Lane
refused_by shut known w = record w { sender = record w.sender { shut = shut; known = known } }

abbrev pub tick_or : ℕ → Option ℕ → ℕ
tick_or t None = t
tick_or t (Some x) = x

-- the timer is settled: with a reason to run it runs on, or begins with this timeout, and else it stops (RFC
-- 6298, section 5)
abbrev pub settled_by : Bool → ℕ → Lane → Lane
settled_by runs rto w = record w {
  sender = record w.sender { timer = cond runs (Some (tick_or (w.clock + rto) w.timer)) None };
}

-- the timer stops, since something was acknowledged
abbrev pub rested : Lane → Lane
rested w = record w { sender = record w.sender { timer = None } }

-- the sending end may send bytes, and may use the DSS
abbrev pub flagged : ℕ → ℕ → Lane → Lane
flagged ready clear w = record w { sender = record w.sender { ready = ready; clear = clear } }

-- the congestion window grew
abbrev pub grown : ℕ → Lane → Lane
grown n w = record w { sender = record w.sender { window = n } }

-- ---- arrivals

-- the clock goes on
abbrev pub moved_to : ℕ → Lane → Lane
moved_to t w = record w { clock = t }

-- the receiving end takes the first segment on its way, and `rest` is what stays
abbrev pub hears_data : Copy → List Copy → Lane → Lane
hears_data c rest w = record w {
  receiver = record w.receiver {
    received = c.high;
    data_fin_came = max w.data_fin_came c.data_fin;
    control_came = max w.control_came c.control;
    keys_came = max w.keys_came c.keys;
  };
  way = record w.way { datas = rest };
}

-- the receiving end took a segment that brings nothing new
abbrev pub skipped : List Copy → Lane → Lane
skipped rest w = record w { way = record w.way { datas = rest } }

abbrev pub is_same : Telling → Telling → Bool
is_same t u = (t.next == u.next) && ((t.edge == u.edge) && ((t.seen == u.seen) && (t.dss == u.dss)))

-- 1 for a segment with no bytes and no FIN that tells what the one before it told
abbrev pub repeats : Telling → Copy → ℕ
repeats before c = cond c.solid 0 (cond (is_same before c.telling) 1 0)

-- duplicates in a row: one more, or none
abbrev pub next_row : ℕ → ℕ → ℕ
next_row zero row = 0
next_row (suc n) row = row + 1

-- the sending end takes the first segment on its way
abbrev pub hears_ack : Copy → List Copy → Lane → Lane
hears_ack c rest w = record w {
  sender = record w.sender {
    acked = max w.acked c.telling.next;
    edge = max w.edge c.telling.edge;
    control_acked = max w.control_acked c.telling.seen;
    clear = max w.clear c.telling.dss;
    row = next_row (repeats w.heard c) w.row;
    heard = c.telling;
    timer = cond (nat_lt w.acked c.telling.next) None w.timer;
  };
  way = record w.way { acks = rest };
}

-- ---- rounds

-- the next round begins: it takes 100 ticks
abbrev pub opens_round : Lane → Lane
opens_round w = record w {
  writer = record w.writer { writer_over = false };
  reader = record w.reader { reader_over = false; got = 0 };
  clock = w.until;
  until = w.until + 100;
}

-- before the first round, with this congestion window less a payload
abbrev pub first_lane : ℕ → Lane
first_lane window = record {
  writer = record { written = 0; closed = 0; writer_over = false };
  reader = record { read = 0; got = 0; told_end = 0; reader_over = false };
  sender = record {
    granted = 0;
    acked = 0;
    edge = 0;
    window = window;
    ready = 0;
    clear = 0;
    shut = false;
    known = 0;
    data_fin_sent = 0;
    control_sent = 0;
    control_acked = 0;
    keys_sent = 0;
    timer = None;
    row = 0;
    heard = record { next = 0; edge = 0; seen = 0; dss = 0 };
  };
  receiver = record {
    received = 0;
    data_fin_came = 0;
    control_came = 0;
    keys_came = 0;
    next = 0;
    limit = 0;
    told = record { next = 0; edge = 0; seen = 0; dss = 0 };
    said = 0;
  };
  way = record { datas = []; acks = [] };
  clock = 0;
  until = 100;
}
