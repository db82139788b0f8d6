-- A grant: the bytes wait to be sent.
use Rattle.clean_finish.proofs.Words.{◌≡◌, refl, sym, subst, ap, ◌∙◌, ℕ, ◌+◌, ◌-◌, ◌<◌, ◌≤◌, min, Bool, true, if◌then◌else◌, inl, List, [], ◌∷◌, ◌++◌, length}
use Rattle.clean_finish.proofs.Words.{map, arith, Some, le_refl, drop, take, sum_by, All-push, All-weaker, same_Some, Side, part_of, change_part, acked_len}
use Rattle.clean_finish.proofs.Words.{SendBook, ByteMark, given, Record, Tile, span_of, is_unsent, acknowledged_in, octets_under_way, never_sent, Data, Duty}
use Rattle.clean_finish.proofs.Words.{Profile, PathEnd, first_unsent, granted_at, with_piece, mapping_of, Setting, Lane, IsPiece, AreTaken, EndIs, IsGranted}
use Rattle.clean_finish.proofs.Words.{RecordsAre, Waits, AreSpans, WaitsBytes, Keys, Facing, Half}
use Rattle.std.proofs.lemmas.List.Sums.{sum_by-append}
use Rattle.std.proofs.lemmas.List.{length-take, length-drop}
use Rattle.send_book.specs.declared.call.Span.{Span}
use Rattle.subflow_send.proofs.Whole.{Tile-push}
use Rattle.subflow_tcp.specs.Sizes.{room}
use Rattle.clean_finish.proofs.AckNew.{records_sent}
use Rattle.clean_finish.proofs.Emitted.{first_waits}
use Rattle.clean_finish.proofs.TakenMarks.{granted_marks, taken_granted, granted_acked, granted_length}
use Rattle.clean_finish.proofs.Ways.{map_end}
use Rattle.clean_finish.proofs.Spans.{spans_more}

-- what isn't sent isn't under way
flight_same : (una : ℕ) (rs : List Record) (r : Record) → is_unsent r ≡ true → sum_by (octets_under_way una) (rs ++ r ∷ []) ≡ sum_by (octets_under_way una) rs
flight_same una rs r unsent =
    sum_by-append (octets_under_way una) rs (r ∷ [])
    ∙ (ap (λ (b : Bool). sum_by (octets_under_way una) rs + (0 + (if b then 0 else length r.piece - acknowledged_in una r))) unsent
    ∙ none (sum_by (octets_under_way una) rs))
  where
    none : (x : ℕ) → x + (0 + 0) ≡ x
    none x = omega arith

module _ {s : Side} {keys : Keys} {k j : Setting} {c : Profile} {begun begun_back : Lane} {m n : Half} {clock until : ℕ} {es : List Duty}
    (h : Facing s keys k j c begun begun_back m n clock until es) (count : ℕ)
  where
    abbrev pub span : Span
    span = record { from = h.out.granted; to = h.out.granted + count }

    abbrev pub piece : List ℕ
    piece = part_of span m.send.written

    abbrev pub waits : Record
    waits = record { pos = m.end.tcp.send.nxt; kind = Data; piece = piece; mapping = mapping_of c s h.out.granted m.end.tcp.send.nxt piece; sending = never_sent }

    abbrev pub end_after : PathEnd
    end_after = with_piece span piece (mapping_of c s h.out.granted m.end.tcp.send.nxt piece) m.end

    abbrev pub send_after : SendBook
    send_after = record m.send { marks = change_part (given 0) span m.send.marks }

    -- they have their mapping
    pub mapped : h.waiting ≡ 0 → h.out.control_sent ≡ 1 → (r : Record) → first_unsent end_after ≡ Some r
        → r.mapping ≡ mapping_of c s h.out.granted r.pos r.piece
    mapped nothing_waits one r found = subst (λ (y : Record). y.mapping ≡ mapping_of c s h.out.granted y.pos y.piece)
        (same_Some waits r (sym (first_waits m.end.tcp.send.records (waits ∷ [])
        (records_sent k h.out.sender h.waiting m.end.tcp h.own.subflow.records nothing_waits (some_of one))) ∙ found)) refl
      where
        some_of : {x : ℕ} → x ≡ 1 → 1 ≤ x
        some_of is = omega (arith, is)

    module _ (nothing_waits : h.waiting ≡ 0) (one : h.out.control_sent ≡ 1) (ready : 1 ≤ h.out.ready) (some : 1 ≤ count) (few : count ≤ k.payload)
        (inside : h.out.granted + count ≤ length m.send.marks) (below : h.out.granted + count ≤ m.send.edge) (fits : count ≤ room m.end.tcp)
        (ahead : h.out.acked < h.out.granted + count) (unacked : h.out.control_acked ≤ 1)
      where
        pub some_sent : 1 ≤ h.out.control_sent
        some_sent = up one
          where
            up : {x : ℕ} → x ≡ 1 → 1 ≤ x
            up is = omega (arith, is)

        pub not_two : {x : ℕ} → x ≤ 1 → x ≡ 2 → ⊥
        not_two p q = absurd (omega (arith, p, q))

        pub some_none : {x : ℕ} → 1 ≤ x → x ≡ 0 → ⊥
        some_none p q = absurd (omega (arith, p, q))

        pub within_more : {to waiting : ℕ} (granted : ℕ) → waiting ≡ 0 → to ≤ granted + waiting → to ≤ granted + count
        within_more granted none less = omega (arith, none, less)

        -- ---- the bytes

        pub span_long : h.out.granted + count - h.out.granted ≡ count
        span_long = plus h.out.granted count
          where
            plus : (x y : ℕ) → x + y - x ≡ y
            plus x y = omega arith

        pub piece_long : length piece ≡ count
        piece_long = long (length-take (h.out.granted + count - h.out.granted) (drop h.out.granted m.send.written)) (length-drop h.out.granted m.send.written)
            span_long h.apps.book.marks inside
          where
            long : {l r w d marks : ℕ} → l ≡ min d r → r ≡ w - h.out.granted → d ≡ count → marks ≡ w → h.out.granted + count ≤ marks → l ≡ count
            long a b e f g = omega (arith, a, b, e, f, g)

        -- ---- the marks

        pub marks_are : send_after.marks ≡ granted_marks h.out.granted count (h.out.granted + count) m.send.marks
        marks_are = ap (λ (x : ℕ). take h.out.granted m.send.marks ++ (map (given 0) (take x (drop h.out.granted m.send.marks))
            ++ drop (h.out.granted + count) m.send.marks)) span_long

        pub acked_same : acked_len send_after.marks ≡ acked_len m.send.marks
        acked_same = ap (λ (ms : List ByteMark). acked_len ms) marks_are
            ∙ granted_acked h.out.granted count (h.out.granted + count) m.send.marks refl inside

        pub length_same : length send_after.marks ≡ length m.send.marks
        length_same = ap (λ (ms : List ByteMark). length ms) marks_are
            ∙ granted_length h.out.granted count (h.out.granted + count) m.send.marks refl inside

        pub none_more : h.out.granted + h.waiting ≡ h.out.granted
        none_more = plus h.out.granted nothing_waits
          where
            plus : {w : ℕ} (x : ℕ) → w ≡ 0 → x + w ≡ x
            plus x is = omega (arith, is)

        pub taken_same : AreTaken (h.out.granted + count) send_after.marks
        taken_same = subst (λ (ms : List ByteMark). AreTaken (h.out.granted + count) ms) (sym marks_are)
            (taken_granted h.out.granted count (h.out.granted + count) m.send.marks refl inside
            (subst (λ (x : ℕ). AreTaken x m.send.marks) none_more h.apps.book.taken))

        pub room_after : h.out.granted + count ≤ h.out.written
        room_after = up inside h.apps.book.marks h.apps.writes.numbers.bytes
          where
            up : {x a b d : ℕ} → x ≤ a → a ≡ b → d ≡ b → x ≤ d
            up p q r = omega (arith, p, q, r)

        -- ---- the records

        pub records_after : RecordsAre k h.out.sender count end_after.tcp
        records_after = record {
          sent = m.end.tcp.send.records;
          rest = waits ∷ [];
          all = refl;
          gone = records_sent k h.out.sender h.waiting m.end.tcp h.own.subflow.records nothing_waits some_sent;
          waits = subst (λ (l : ℕ). Waits k h.out.sender (waits ∷ []) l) piece_long
              (WaitsBytes one waits refl (position h.own.subflow.records.next nothing_waits one) refl (low piece_long some) (high piece_long few)
              (under piece_long below h.apps.book.edge));
          pieces = All-push (IsPiece k.payload) m.end.tcp.send.records waits h.own.subflow.records.pieces (high piece_long few, le_refl (length piece));
          tile = subst (λ (ss : List _). Tile m.end.tcp.send.una (m.end.tcp.send.nxt + length piece) ss) (sym (map_end span_of m.end.tcp.send.records waits))
              (Tile-push (map span_of m.end.tcp.send.records) m.end.tcp.send.una m.end.tcp.send.nxt (m.end.tcp.send.nxt + length piece)
              h.own.subflow.records.tile (longer m.end.tcp.send.nxt piece_long some));
          next = next h.out.granted h.out.control_sent h.own.subflow.records.next nothing_waits piece_long;
          finished = h.own.subflow.records.finished;
          control = h.own.subflow.records.control;
          fits = subst (λ (x : ℕ). count ≤ m.end.tcp.congestion.reno.window - x) (sym (flight_same m.end.tcp.send.una m.end.tcp.send.records waits refl)) fits;
        }
          where
            position : {nxt w d : ℕ} → nxt ≡ 1 + h.out.granted + w + (d - 1) → w ≡ 0 → d ≡ 1 → nxt ≡ h.out.granted + 1
            position a b e = omega (arith, a, b, e)

            low : {l : ℕ} → l ≡ count → 1 ≤ count → 1 ≤ l
            low a b = omega (arith, a, b)

            high : {l : ℕ} → l ≡ count → count ≤ k.payload → l ≤ k.payload
            high a b = omega (arith, a, b)

            under : {l edge other : ℕ} → l ≡ count → h.out.granted + count ≤ edge → edge ≡ other → h.out.granted + l ≤ other
            under a b e = omega (arith, a, b, e)

            longer : {l : ℕ} (x : ℕ) → l ≡ count → 1 ≤ count → x < x + l
            longer x a b = omega (arith, a, b)

            next : {nxt w l : ℕ} (g d : ℕ) → nxt ≡ 1 + g + w + (d - 1) → w ≡ 0 → l ≡ count → nxt + l ≡ 1 + g + count + (d - 1)
            next g d a b e = omega (arith, a, b, e)

        pub own_after : EndIs s keys k j h.out.sender h.back.receiver h.hand h.owes count end_after
        own_after = record {
          subflow = record {
            phase = h.own.subflow.phase;
            opens = h.own.subflow.opens;
            records = records_after;
            ahead = record {
              bytes = h.own.subflow.ahead.bytes;
              opened = h.own.subflow.ahead.opened;
              finished = λ two. absurd (not_two unacked two);
              seen = h.own.subflow.ahead.seen;
            };
            congestion = record {
              window = h.own.subflow.congestion.window;
              most = h.own.subflow.congestion.most;
              steady = h.own.subflow.congestion.steady;
              row = h.own.subflow.congestion.row;
            };
            come = record { edge = h.own.subflow.come.edge; window = h.own.subflow.come.window };
            heard = record {
              told = h.own.subflow.heard.told;
              most = h.own.subflow.heard.most;
              end = h.own.subflow.heard.end;
              few = h.own.subflow.heard.few;
              some = h.own.subflow.heard.some;
            };
            quiet = h.own.subflow.quiet;
            begun = h.own.subflow.begun;
            keyed = h.own.subflow.keyed;
            long = h.own.subflow.long;
            due = h.own.subflow.due;
          };
          sending = record {
            heard = h.own.sending.heard;
            known = h.own.sending.known;
            data_fin = h.own.sending.data_fin;
            acked = h.own.sending.acked;
            came = h.own.sending.came;
            shut = (λ e. absurd (some_none some e), λ e. refl);
            granted = All-push (IsGranted h.out.sender count) m.end.sending.granted (granted_at m.end.tcp.send.nxt span)
                (All-weaker (IsGranted h.out.sender h.waiting) (IsGranted h.out.sender count)
                (λ piece is. record { waits = is.waits; within = within_more h.out.granted nothing_waits is.within }) m.end.sending.granted h.own.sending.granted)
                (record { waits = ahead; within = le_refl (h.out.granted + count) });
            spans = spans_more m.end.sending.granted h.out.acked h.out.granted (granted_at m.end.tcp.send.nxt span) refl (subst (λ (n : ℕ). AreSpans h.out.acked n m.end.sending.granted) none_more h.own.sending.spans);
            bytes = λ one_byte. ready;
            end = h.own.sending.end;
            acked_end = h.own.sending.acked_end;
            finish = h.own.sending.finish;
          };
          receiving = record {
            next = h.own.receiving.next;
            limit = h.own.receiving.limit;
            told = h.own.receiving.told;
            least = h.own.receiving.least;
            unmapped = h.own.receiving.unmapped;
            fin_told = h.own.receiving.fin_told;
            said = h.own.receiving.said;
            unended = h.own.receiving.unended;
            unheard = h.own.receiving.unheard;
          };
          modes = record {
            mode = h.own.modes.mode;
            standby = h.own.modes.standby;
            mapping = h.own.modes.mapping;
            owes_third = h.own.modes.owes_third;
            owes_mapping = h.own.modes.owes_mapping;
            mapped_to = h.own.modes.mapped_to;
            plain_acks = h.own.modes.plain_acks;
            own_key = h.own.modes.own_key;
            peer_key = h.own.modes.peer_key;
            clear = h.own.modes.clear;
            capable = h.own.modes.capable;
            ready = h.own.modes.ready;
            cleared = h.own.modes.cleared;
            both = h.own.modes.both;
            shown = h.own.modes.shown;
          };
          timer = h.own.timer;
          notices = h.own.notices;
        }

        abbrev pub granted_on : Facing s keys k j c begun begun_back (record m { end = end_after; send = send_after }) n clock until es
        granted_on = record {
          out = h.out;
          back = h.back;
          stage = h.stage;
          stage_back = h.stage_back;
          going = h.going;
          going_back = h.going_back;
          now = h.now;
          now_back = h.now_back;
          hand = h.hand;
          hand_back = h.hand_back;
          owes = h.owes;
          owes_back = h.owes_back;
          waiting = count;
          waiting_back = h.waiting_back;
          own = own_after;
          other = h.other;
          way = record {
            sent = h.way.sent;
            flights = h.way.flights;
            datas_are = h.way.datas_are;
            acks_are = h.way.acks_are;
            follow = h.way.follow;
            low = h.way.low;
            control = h.way.control;
            keys_shown = h.way.keys_shown;
            rise = h.way.rise;
            passed = h.way.passed;
          };
          way_back = record {
            sent = h.way_back.sent;
            flights = h.way_back.flights;
            datas_are = h.way_back.datas_are;
            acks_are = h.way_back.acks_are;
            follow = h.way_back.follow;
            low = h.way_back.low;
            control = h.way_back.control;
            keys_shown = h.way_back.keys_shown;
            rise = h.way_back.rise;
            passed = h.way_back.passed;
          };
          apps = record {
            writes = record {
              numbers = record {
                file = h.apps.writes.numbers.file;
                bytes = h.apps.writes.numbers.bytes;
                shut = h.apps.writes.numbers.shut;
                told = h.apps.writes.numbers.told;
                whole = h.apps.writes.numbers.whole;
                heard = subst (λ (n : ℕ). min h.out.acked (length m.send.written) ≤ n) (sym acked_same) h.apps.writes.numbers.heard;
                offers = h.apps.writes.numbers.offers;
                buffer = h.apps.writes.numbers.buffer;
                unaborted = h.apps.writes.numbers.unaborted;
                stays = h.apps.writes.numbers.stays;
              };
              over = h.apps.writes.over;
            };
            reads = record { numbers = h.apps.reads.numbers; received = h.apps.reads.received; over = h.apps.reads.over };
            receives = record {
              read = h.apps.receives.read;
              received = h.apps.receives.received;
              known = h.apps.receives.known;
              capacity = h.apps.receives.capacity;
            };
            book = record {
              edge = h.apps.book.edge;
              owner = h.apps.book.owner;
              marks = length_same ∙ h.apps.book.marks;
              taken = taken_same;
            };
            room = room_after;
            whole = h.apps.whole;
            fin = h.apps.fin;
          };
          apps_back = h.apps_back;
          stages = h.stages;
          stages_back = h.stages_back;
          control = h.control;
          control_back = h.control_back;
          turn = h.turn;
          turn_back = h.turn_back;
          settles = h.settles;
          settles_back = h.settles_back;
          begins = inl some_sent;
          begins_back = h.begins_back;
          owed = h.owed;
          owed_back = h.owed_back;
        }
