-- A connection of empty files goes on as lanes: all that happens comes in the first round, and the others bring
-- nothing.
--
-- A long run by given numbers (`clean_finish`, `proofs/Example`): each state is the one before with a move made, as
-- `abbrev`s, and each comparison is `leb-true _ _ refl`, which computes. `omega` reads all states in reach at each of
-- them, and gives up after ten.
use Rattle.clean_finish.proofs.Words.{◌≡◌, refl, ℕ, ◌+◌, ◌-◌, ◌<◌, ◌≤◌, min, nat_lt, true, false, inl, inr, None, List, [], ◌∷◌, arith, suc, le_refl, zero}
use Rattle.clean_finish.proofs.Words.{nat_le, both_ways, ltb-true, leb-true, Setting, Copy, Lane, Stage, all_left, data_ack, window_edge, pending, Move, MaySay}
use Rattle.clean_finish.proofs.Words.{MaySend, MayMove, MayHearAck, MayRefuse, MaySkip, HasEmitted, IsBefore, closes, ends_writing, ends_reading, asks, says}
use Rattle.clean_finish.proofs.Words.{keeps_quiet, sends_none, is_refused, has_emitted, has_finished, waits_no_more, flags, hears, skips, is_acknowledged}
use Rattle.clean_finish.proofs.Words.{goes_back, opens_round, first_lane, said_by, repeats, first_at, Moves, Round, Linked, Course, setting_of, a_path}
use Rattle.pace.specs.Moves.Move.{moves}
use Rattle.clean_finish.proofs.Moving.{more_than, moves_then}

abbrev k : Setting
k = setting_of a_path 65536 0

abbrev window : ℕ
window = 2828

-- how far a round came by moves, from a stage and a lane of it on
record Here (s : Lane) (p : Stage) (w : Lane) : Type 0 where
  stage : Stage
  lane : Lane
  count : ℕ
  made : Moves k s count p w stage lane

abbrev begun : (s : Lane) (p : Stage) (w : Lane) → Here s p w
begun s p w = record { stage = p; lane = w; count = 0; made = (refl, refl) }

abbrev then : {s : Lane} {p : Stage} {w : Lane} (h : Here s p w) (q : Stage) (u : Lane) → Move k s h.stage h.lane q u → Here s p w
then h q u move = record { stage = q; lane = u; count = suc h.count; made = (h.stage, h.lane, h.made, move) }

abbrev then_all : {s : Lane} {p : Stage} {w : Lane} (h : Here s p w) (more : Here s h.stage h.lane) → Here s p w
then_all {s} {p} {w} h more = record {
  stage = more.stage;
  lane = more.lane;
  count = more_than more.count h.count;
  made = moves_then k s h.count more.count p w h.stage h.lane more.stage more.lane h.made more.made;
}

-- ---- the segments, each of which stands in both lanes

abbrev segment : (at data_fin keys next edge seen dss : ℕ) → Copy
segment at data_fin keys next edge seen dss = record {
  at = at;
  low = 0;
  high = 0;
  data_fin = data_fin;
  control = 1;
  keys = keys;
  solid = false;
  telling = record { next = next; edge = edge; seen = seen; dss = dss };
}

abbrev syn : Copy
syn = segment 10 0 0 0 65535 0 0

abbrev syn_ack : Copy
syn_ack = segment 20 0 0 0 65535 1 0

-- A shows its keys
abbrev third : Copy
third = segment 30 0 1 0 65535 1 0

-- B's DATA_FIN, A's, and the acknowledgement of it
abbrev end_b : Copy
end_b = segment 40 1 0 0 65536 1 1

abbrev end_a : Copy
end_a = segment 50 1 1 1 65537 1 0

abbrev last : Copy
last = segment 60 0 0 1 65537 1 1

abbrev first : Lane
first = first_lane window

-- ---- how a lane stands at the end of a round that began at tick t; its sender showed keys or not

abbrev pub still : (keys t : ℕ) → Lane
still keys t = record {
  writer = record { written = 0; closed = 1; writer_over = true };
  reader = record { read = 0; got = 0; told_end = 1; reader_over = true };
  sender = record {
    granted = 0;
    acked = 1;
    edge = 65537;
    window = window;
    ready = 1;
    clear = 1;
    shut = false;
    known = 1;
    data_fin_sent = 1;
    control_sent = 1;
    control_acked = 1;
    keys_sent = keys;
    timer = None;
    row = 0;
    heard = record { next = 1; edge = 65537; seen = 1; dss = keys };
  };
  receiver = record {
    received = 0;
    data_fin_came = 1;
    control_came = 1;
    keys_came = keys;
    next = 1;
    limit = 65537;
    told = record { next = 1; edge = 65537; seen = 1; dss = keys };
    said = 1;
  };
  way = record { datas = []; acks = [] };
  clock = t + 60;
  until = t + 100;
}

le : {a b : ℕ} → nat_le a b ≡ true → a ≤ b
le = leb-true _ _

lt : {a b : ℕ} → nat_lt a b ≡ true → a < b
lt = ltb-true _ _

later : (t : ℕ) → t + 100 ≤ t + 100 + 60
later t = omega arith

early : (t : ℕ) → t + 100 + 60 < t + 100 + 100
early t = omega arith

within : (t : ℕ) → t + 100 + 60 ≤ t + 100 + 100
within t = omega arith

no : {A : Type 0} → true ≡ false → A
no is = absurd (both_ways _ is refl)

-- ---- conditions of moves, where all is known, so that they compute

may_say : {s : Lane} {p : Stage} {x : Copy} {w : Lane} → p.wait ≡ true → x.at ≡ w.clock + k.delay
    → nat_le x.telling.next (data_ack k w) ≡ true → nat_le x.telling.edge (window_edge k w) ≡ true
    → nat_le x.telling.seen w.control_came ≡ true → nat_le x.telling.dss w.keys_came ≡ true
    → nat_le (data_ack k w) x.telling.next ≡ true → nat_le w.control_came x.telling.seen ≡ true
    → nat_le w.keys_came x.telling.dss ≡ true
    → nat_le (repeats w.told x + w.said + 0) ((said_by x w).said + pending k p w) ≡ true → MaySay k s p false true x w
may_say turn at next edge seen dss all all_seen all_dss paid = record {
  turn = turn;
  at = at;
  so = (le next, le edge, le seen, le dss);
  all = λ e. (le all, le all_seen, le all_dss);
  window = no;
  paid = le paid;
}

may_send : {p : Stage} {x : Copy} {w : Lane} → p.wait ≡ true → x.at ≡ w.clock + k.delay → x.low ≡ w.granted
    → nat_le w.granted x.high ≡ true → nat_le x.high w.written ≡ true → nat_le x.high w.edge ≡ true
    → nat_le (x.data_fin + w.data_fin_sent) w.known ≡ true → MaySend k p x w
may_send turn at low high written edge data_fin = record {
  turn = turn;
  at = at;
  low = low;
  high = le high;
  written = le written;
  edge = le edge;
  data_fin = le data_fin;
}

may_move : {p : Stage} {tick : ℕ} {w : Lane} → p.wait ≡ true → nat_le w.clock tick ≡ true → nat_lt tick w.until ≡ true
    → nat_le tick (first_at w.until w.datas) ≡ true → nat_le tick (first_at w.until w.acks) ≡ true → MayMove p tick w
may_move turn later early datas acks =
    record { turn = turn; later = le later; early = lt early; datas = le datas; acks = le acks }

may_hear : {p : Stage} {c : Copy} {rest : List Copy} {w : Lane} → w.acks ≡ c ∷ rest → p.wait ≡ true → p.emit ≡ true
    → p.finish ≡ true → (w.control_acked < c.telling.seen → w.timer ≡ None) → MayHearAck p c rest w
may_hear first turn emit finish rests = record { first = first; turn = turn; emit = emit; finish = finish; rests = rests }

all_sent : {s : Lane} {known : ℕ} {w : Lane}
    → nat_le (min (min s.written w.edge) ((w.acked + w.window + 1) - k.payload)) w.granted ≡ true → nat_le s.closed known ≡ true
    → HasEmitted k s known w
all_sent bytes end = record { bytes = λ e. le bytes; end = λ e f. le end }

may_refuse : {s : Lane} {p : Stage} {known : ℕ} {w : Lane} → nat_le w.known known ≡ true → nat_le known w.closed ≡ true
    → p.finish ≡ true → nat_le (min (min s.written w.edge) ((w.acked + w.window + 1) - k.payload)) w.granted ≡ true
    → nat_le s.closed known ≡ true → MayRefuse k s p false known w
may_refuse more closed finish bytes end = record {
  more = le more;
  closed = le closed;
  finish = inr finish;
  waits = λ e. absurd (both_ways _ refl e);
  emitted = all_sent bytes end;
}

may_skip : {p : Stage} {c : Copy} {rest : List Copy} {w : Lane} → w.datas ≡ c ∷ rest → p.wait ≡ true
    → nat_le c.high c.low ≡ true → nat_le c.data_fin 0 ≡ true → nat_le c.control w.control_came ≡ true
    → nat_le c.keys w.keys_came ≡ true → MaySkip p c rest w
may_skip first turn bytes data_fin control keys = record {
  first = first;
  turn = turn;
  bytes = le bytes;
  data_fin = le data_fin;
  control = le control;
  keys = le keys;
}

goes_on : {p : Stage} → IsBefore (record p { emit = true }) p
goes_on = record { ask = λ e. e; tell = refl; window = λ e. e; update = λ e. e; emit = no; finish = λ e. e; wait = λ e. e }

-- ---- the first round

abbrev there_stage_1 : Stage
there_stage_1 = record { ask = true; tell = true; window = true; update = true; emit = true; finish = true; wait = true }

abbrev there_lane_1 : Lane
there_lane_1 = record first {
  writer = record first.writer { closed = 1; writer_over = true };
  sender = record first.sender { control_sent = 1 };
  receiver = record first.receiver { control_came = 1 };
  clock = 10;
}

abbrev there_1 : Here first all_left first
there_1 =
    let h = begun first all_left first in
    let h = then h _ _ (closes 1 (record { more = le refl; whole = le refl })) in
    let h = then h _ _ (ends_writing (record { wrote = le refl; closed = le refl })) in
    let h = then h _ _ (sends_none syn refl (may_send refl refl refl refl refl refl refl)) in
    let h = then h _ _ (moves 10 (may_move refl refl refl refl refl)) in
    then h _ _ (hears true syn [] (record { first = refl; turn = refl; news = inr (inr (inl (lt refl))); asked = λ e. no e }))

abbrev there_stage_2 : Stage
there_stage_2 = record { ask = true; tell = false; window = true; update = true; emit = true; finish = true; wait = true }

abbrev there_lane_2 : Lane
there_lane_2 = record first {
  writer = record first.writer { closed = 1; writer_over = true };
  sender = record first.sender { edge = 65535; ready = 1; control_sent = 1; control_acked = 1; keys_sent = 1; heard = record { next = 0; edge = 65535; seen = 1; dss = 0 } };
  receiver = record first.receiver { control_came = 1; told = record { next = 0; edge = 65535; seen = 1; dss = 0 } };
  way = record first.way { datas = third ∷ [] };
  clock = 20;
}

abbrev there_2 : Here first there_stage_1 there_lane_1
there_2 =
    let h = begun first there_stage_1 there_lane_1 in
    let h = then h _ _ (says false true syn_ack (may_say refl refl refl refl refl refl refl refl refl refl)) in
    let h = then h _ _ (moves 20 (may_move refl refl refl refl refl)) in
    let h = then h _ _ (is_acknowledged syn_ack [] (may_hear refl refl refl refl (λ e. refl))) in
    let h = then h _ _ (flags 1 0 (record { emit = refl; finish = refl; ready = le refl; clear = le refl; window = no })) in
    then h _ _ (sends_none third refl (may_send refl refl refl refl refl refl refl))

abbrev there_stage_3 : Stage
there_stage_3 = record { ask = false; tell = false; window = false; update = true; emit = true; finish = true; wait = true }

abbrev there_lane_3 : Lane
there_lane_3 = record first {
  writer = record first.writer { closed = 1; writer_over = true };
  sender = record first.sender { edge = 65535; ready = 1; control_sent = 1; control_acked = 1; keys_sent = 1; heard = record { next = 0; edge = 65535; seen = 1; dss = 0 } };
  receiver = record first.receiver { control_came = 1; keys_came = 1; limit = 65536; told = record { next = 0; edge = 65536; seen = 1; dss = 1 }; said = 1 };
  way = record first.way { acks = end_b ∷ [] };
  clock = 40;
}

abbrev there_3 : Here first there_stage_2 there_lane_2
there_3 =
    let h = begun first there_stage_2 there_lane_2 in
    let h = then h _ _ (moves 30 (may_move refl refl refl refl refl)) in
    let h = then h _ _ (hears true third [] (record { first = refl; turn = refl; news = inr (inr (inr (lt refl))); asked = λ e. no e })) in
    let h = then h _ _ (asks 65536 (record { least = le refl; most = le refl })) in
    let h = then h _ _ (says false true end_b (may_say refl refl refl refl refl refl refl refl refl refl)) in
    then h _ _ (moves 40 (may_move refl refl refl refl refl))

abbrev there_stage_4 : Stage
there_stage_4 = record { ask = true; tell = true; window = false; update = true; emit = false; finish = true; wait = true }

abbrev there_lane_4 : Lane
there_lane_4 = record first {
  writer = record first.writer { closed = 1; writer_over = true };
  sender = record first.sender { edge = 65536; ready = 1; clear = 1; known = 1; data_fin_sent = 1; control_sent = 1; control_acked = 1; keys_sent = 1; heard = record { next = 0; edge = 65536; seen = 1; dss = 1 } };
  receiver = record first.receiver { data_fin_came = 1; control_came = 1; keys_came = 1; limit = 65536; told = record { next = 0; edge = 65536; seen = 1; dss = 1 }; said = 1 };
  clock = 50;
}

abbrev there_4 : Here first there_stage_3 there_lane_3
there_4 =
    let h = begun first there_stage_3 there_lane_3 in
    let h = then h _ _ (is_acknowledged end_b [] (may_hear refl refl refl refl (λ e. refl))) in
    let h = then h _ _ (is_refused false 1 (may_refuse refl refl refl refl refl)) in
    let h = then h _ _ (sends_none end_a refl (may_send refl refl refl refl refl refl refl)) in
    let h = then h _ _ (moves 50 (may_move refl refl refl refl refl)) in
    then h _ _ (hears true end_a [] (record { first = refl; turn = refl; news = inr (inl (lt refl)); asked = λ e. no e }))

abbrev there_stage_5 : Stage
there_stage_5 = record { ask = false; tell = false; window = false; update = true; emit = true; finish = true; wait = true }

abbrev there_lane_5 : Lane
there_lane_5 = record first {
  writer = record first.writer { closed = 1; writer_over = true };
  reader = record first.reader { told_end = 1; reader_over = true };
  sender = record first.sender { edge = 65536; ready = 1; clear = 1; known = 1; data_fin_sent = 1; control_sent = 1; control_acked = 1; keys_sent = 1; heard = record { next = 0; edge = 65536; seen = 1; dss = 1 } };
  receiver = record first.receiver { data_fin_came = 1; control_came = 1; keys_came = 1; next = 1; limit = 65537; told = record { next = 1; edge = 65537; seen = 1; dss = 1 }; said = 1 };
  way = record first.way { acks = last ∷ [] };
  clock = 60;
}

abbrev there_5 : Here first there_stage_4 there_lane_4
there_5 =
    let h = begun first there_stage_4 there_lane_4 in
    let h = then h _ _ (asks 65537 (record { least = le refl; most = le refl })) in
    let h = then h _ _ (says false true last (may_say refl refl refl refl refl refl refl refl refl refl)) in
    let h = then h _ _ (ends_reading 1 (record { more = le refl; read = le refl; told = le refl })) in
    let h = then h _ _ (moves 60 (may_move refl refl refl refl refl)) in
    then h _ _ (goes_back (record h.stage { emit = true }) goes_on)

abbrev there_6 : Here first there_stage_5 there_lane_5
there_6 =
    let h = begun first there_stage_5 there_lane_5 in
    let h = then h _ _ (is_acknowledged last [] (may_hear refl refl refl refl (λ e. refl))) in
    let h = then h _ _ (has_emitted (all_sent refl refl)) in
    let h = then h _ _ (has_finished (λ e. le refl)) in
    let h = then h _ _ (keeps_quiet (λ e. lt refl)) in
    then h _ _ (waits_no_more (le refl) (le refl))

-- the lane from A to B
there_round : Round k first (still 1 0)
there_round =
    let all = then_all (then_all (then_all (then_all (then_all there_1 there_2) there_3) there_4) there_5) there_6 in record { count = all.count; moves = all.made; writer = refl; reader = refl }

abbrev back_stage_1 : Stage
back_stage_1 = record { ask = true; tell = false; window = true; update = true; emit = true; finish = true; wait = true }

abbrev back_lane_1 : Lane
back_lane_1 = record first {
  writer = record first.writer { closed = 1; writer_over = true };
  sender = record first.sender { edge = 65535; heard = record { next = 0; edge = 65535; seen = 0; dss = 0 } };
  receiver = record first.receiver { told = record { next = 0; edge = 65535; seen = 0; dss = 0 } };
  clock = 10;
}

abbrev back_1 : Here first all_left first
back_1 =
    let h = begun first all_left first in
    let h = then h _ _ (closes 1 (record { more = le refl; whole = le refl })) in
    let h = then h _ _ (ends_writing (record { wrote = le refl; closed = le refl })) in
    let h = then h _ _ (says false true syn (may_say refl refl refl refl refl refl refl refl refl refl)) in
    let h = then h _ _ (moves 10 (may_move refl refl refl refl refl)) in
    then h _ _ (is_acknowledged syn [] (may_hear refl refl refl refl (λ e. refl)))

abbrev back_stage_2 : Stage
back_stage_2 = record { ask = true; tell = false; window = true; update = true; emit = true; finish = true; wait = true }

abbrev back_lane_2 : Lane
back_lane_2 = record first {
  writer = record first.writer { closed = 1; writer_over = true };
  sender = record first.sender { edge = 65535; control_sent = 1; heard = record { next = 0; edge = 65535; seen = 0; dss = 0 } };
  receiver = record first.receiver { control_came = 1; told = record { next = 0; edge = 65535; seen = 1; dss = 0 } };
  way = record first.way { acks = third ∷ [] };
  clock = 30;
}

abbrev back_2 : Here first back_stage_1 back_lane_1
back_2 =
    let h = begun first back_stage_1 back_lane_1 in
    let h = then h _ _ (sends_none syn_ack refl (may_send refl refl refl refl refl refl refl)) in
    let h = then h _ _ (moves 20 (may_move refl refl refl refl refl)) in
    let h = then h _ _ (hears true syn_ack [] (record { first = refl; turn = refl; news = inr (inr (inl (lt refl))); asked = λ e. no e })) in
    let h = then h _ _ (says false true third (may_say refl refl refl refl refl refl refl refl refl refl)) in
    then h _ _ (moves 30 (may_move refl refl refl refl refl))

abbrev back_stage_3 : Stage
back_stage_3 = record { ask = true; tell = false; window = true; update = true; emit = false; finish = true; wait = true }

abbrev back_lane_3 : Lane
back_lane_3 = record first {
  writer = record first.writer { closed = 1; writer_over = true };
  sender = record first.sender { edge = 65535; ready = 1; clear = 1; known = 1; data_fin_sent = 1; control_sent = 1; control_acked = 1; heard = record { next = 0; edge = 65535; seen = 1; dss = 0 } };
  receiver = record first.receiver { control_came = 1; told = record { next = 0; edge = 65535; seen = 1; dss = 0 } };
  way = record first.way { datas = end_b ∷ [] };
  clock = 40;
}

abbrev back_3 : Here first back_stage_2 back_lane_2
back_3 =
    let h = begun first back_stage_2 back_lane_2 in
    let h = then h _ _ (is_acknowledged third [] (may_hear refl refl refl refl (λ e. refl))) in
    let h = then h _ _ (flags 1 1 (record { emit = refl; finish = refl; ready = le refl; clear = le refl; window = no })) in
    let h = then h _ _ (is_refused false 1 (may_refuse refl refl refl refl refl)) in
    let h = then h _ _ (sends_none end_b refl (may_send refl refl refl refl refl refl refl)) in
    then h _ _ (moves 40 (may_move refl refl refl refl refl))

abbrev back_stage_4 : Stage
back_stage_4 = record { ask = false; tell = false; window = false; update = true; emit = false; finish = true; wait = true }

abbrev back_lane_4 : Lane
back_lane_4 = record first {
  writer = record first.writer { closed = 1; writer_over = true };
  reader = record first.reader { told_end = 1; reader_over = true };
  sender = record first.sender { edge = 65535; ready = 1; clear = 1; known = 1; data_fin_sent = 1; control_sent = 1; control_acked = 1; heard = record { next = 0; edge = 65535; seen = 1; dss = 0 } };
  receiver = record first.receiver { data_fin_came = 1; control_came = 1; next = 1; limit = 65537; told = record { next = 1; edge = 65537; seen = 1; dss = 0 }; said = 1 };
  way = record first.way { acks = end_a ∷ [] };
  clock = 50;
}

abbrev back_4 : Here first back_stage_3 back_lane_3
back_4 =
    let h = begun first back_stage_3 back_lane_3 in
    let h = then h _ _ (hears true end_b [] (record { first = refl; turn = refl; news = inr (inl (lt refl)); asked = λ e. no e })) in
    let h = then h _ _ (asks 65537 (record { least = le refl; most = le refl })) in
    let h = then h _ _ (says false true end_a (may_say refl refl refl refl refl refl refl refl refl refl)) in
    let h = then h _ _ (ends_reading 1 (record { more = le refl; read = le refl; told = le refl })) in
    then h _ _ (moves 50 (may_move refl refl refl refl refl))

abbrev back_stage_5 : Stage
back_stage_5 = record { ask = false; tell = false; window = false; update = true; emit = true; finish = true; wait = true }

abbrev back_lane_5 : Lane
back_lane_5 = record first {
  writer = record first.writer { closed = 1; writer_over = true };
  reader = record first.reader { told_end = 1; reader_over = true };
  sender = record first.sender { acked = 1; edge = 65537; ready = 1; clear = 1; known = 1; data_fin_sent = 1; control_sent = 1; control_acked = 1; heard = record { next = 1; edge = 65537; seen = 1; dss = 0 } };
  receiver = record first.receiver { data_fin_came = 1; control_came = 1; next = 1; limit = 65537; told = record { next = 1; edge = 65537; seen = 1; dss = 0 }; said = 1 };
  clock = 60;
}

abbrev back_5 : Here first back_stage_4 back_lane_4
back_5 =
    let h = begun first back_stage_4 back_lane_4 in
    let h = then h _ _ (goes_back (record h.stage { emit = true }) goes_on) in
    let h = then h _ _ (is_acknowledged end_a [] (may_hear refl refl refl refl (λ e. refl))) in
    let h = then h _ _ (sends_none last refl (may_send refl refl refl refl refl refl refl)) in
    let h = then h _ _ (moves 60 (may_move refl refl refl refl refl)) in
    then h _ _ (skips last [] (may_skip refl refl refl refl refl refl))

abbrev back_6 : Here first back_stage_5 back_lane_5
back_6 =
    let h = begun first back_stage_5 back_lane_5 in
    let h = then h _ _ (has_emitted (all_sent refl refl)) in
    let h = then h _ _ (has_finished (λ e. le refl)) in
    let h = then h _ _ (keeps_quiet (λ e. lt refl)) in
    then h _ _ (waits_no_more (le refl) (le refl))

-- the lane from B to A
back_round : Round k first (still 0 0)
back_round =
    let all = then_all (then_all (then_all (then_all (then_all back_1 back_2) back_3) back_4) back_5) back_6 in record { count = all.count; moves = all.made; writer = refl; reader = refl }

-- ---- the other rounds

-- nothing is left to be done
abbrev quiet : (keys t : ℕ) → Here (opens_round (still keys t)) all_left (opens_round (still keys t))
quiet keys t =
    let h = begun (opens_round (still keys t)) all_left (opens_round (still keys t)) in
    let h = then h _ _ (ends_writing (record { wrote = le refl; closed = le refl })) in
    let h = then h _ _ (ends_reading 1 (record { more = le refl; read = le refl; told = le refl })) in
    let h = then h _ _ (asks 65537 (record { least = le refl; most = le refl })) in
    let h = then h _ _ (keeps_quiet (λ e. lt refl)) in
    let h = then h _ _ (has_emitted (all_sent refl refl)) in
    let h = then h _ _ (has_finished (λ e. le refl)) in
    let h = then h _ _ (moves (t + 100 + 60) (record { turn = refl; later = later t; early = early t; datas = within t; acks = within t })) in
    then h _ _ (waits_no_more (le_refl _) (le_refl _))

-- ---- all rounds

one_more : (keys t : ℕ) → Round k (opens_round (still keys t)) (still keys (t + 100))
one_more keys t = record { count = (quiet keys t).count; moves = (quiet keys t).made; writer = refl; reader = refl }

-- the tick at which the last of them begins
abbrev pub ticks : ℕ → ℕ
ticks zero = 0
ticks (suc more) = ticks more + 100

linked : (t : ℕ) → Linked (still 1 t) (still 0 t)
linked t = record { answered = le refl; ready = le refl; keys = le refl; ready_back = le refl; clear_back = le refl }

pub courses : (more : ℕ) → Course k k window window more (still 1 (ticks more)) (still 0 (ticks more))
courses zero = (there_round, back_round, linked 0, le refl)
courses (suc more) = (
  still 1 (ticks more),
  still 0 (ticks more),
  courses more,
  one_more 1 (ticks more),
  one_more 0 (ticks more),
  linked (ticks more + 100),
)
