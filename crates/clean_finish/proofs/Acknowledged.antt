-- What a segment in hand acknowledges is told to the send book, and heard by the lane.
use Rattle.clean_finish.proofs.Words.{◌≡◌, refl, sym, subst, ap, ◌∙◌, ℕ, ◌+◌, ◌<◌, ◌≤◌, min, max, nat_lt, Bool, true, false, ◌||◌, if◌then◌else◌, ◌⊎◌, inl, inr}
use Rattle.clean_finish.proofs.Words.{⊎_elim, Option, None, List, ◌∷◌, ◌++◌, length, map, arith, drop, replicate, both_ways, cases_lt, le-ltb, ltb-false, Side}
use Rattle.clean_finish.proofs.Words.{peer, fin_after, after_ack, is_future, SendBook, Acked, Duty, Profile, PathEnd, Modes, Treated, Setting, Copy, Lane}
use Rattle.clean_finish.proofs.Words.{Sender, MayHearAck, is_acknowledged, goes_back, hears_ack, AreTaken, Hand, EndIs, WayIs, brings_still, brings_in}
use Rattle.clean_finish.proofs.Words.{tells_in, BookIs, Sent, Keys, copy_in, Follow, low_after, control_after, keys_after, Facing, Half, StageIs, HasNotBegun}
use Rattle.clean_finish.proofs.Words.{WriterIs}
use Rattle.path_core.specs.Sending.{Sending}
use Rattle.clean_finish.proofs.Books.{hears_as_lanes}
use Rattle.clean_finish.proofs.Dropping.{is_waited, apart, behind, is_apart, stage_drops, settles_drop}
use Rattle.clean_finish.proofs.Hands.{in_hand}
use Rattle.clean_finish.proofs.Marks.{ack_length}
use Rattle.clean_finish.proofs.Passing.{stands_then}
use Rattle.clean_finish.proofs.TakenMarks.{taken_acked}
use Rattle.clean_finish.proofs.Raised.{raised, before_raised, Emits, stage_raised}

-- a Data ACK is told to the book
pub book_hears : (next window edge waiting : ℕ) (out later : Sender) (b : SendBook) → is_future next b ≡ false → BookIs out waiting b
    → later.edge ≡ max out.edge edge → later.granted ≡ out.granted → edge ≡ next + window → min next (length b.marks) ≤ out.granted + waiting
    → BookIs later waiting (after_ack next window b)
book_hears next window edge waiting out later b now is at granted same few =
    subst (λ (f : Bool). BookIs later waiting (if f then b else heard_by)) (sym now) (record {
      edge = ap (λ (n : ℕ). max n (next + window)) is.edge ∙ (ap (λ (n : ℕ). max out.edge n) (sym same) ∙ sym at);
      owner = is.owner;
      marks = ack_length next b.marks ∙ is.marks;
      taken = subst (λ (n : ℕ). AreTaken (n + waiting) heard_by.marks) (sym granted) (taken_acked (out.granted + waiting) next b.marks few is.taken);
    })
  where
    heard_by : SendBook
    heard_by = record b {
      marks = replicate (min next (length b.marks)) Acked ++ drop next b.marks;
      edge = max b.edge (next + window);
      fin = fin_after next b;
    }

module _ {s : Side} {keys : Keys} {k j : Setting} {c : Profile} {begun begun_back : Lane} {m n : Half} {clock until : ℕ} {d : Duty} {ds : List Duty}
    (h : Facing s keys k j c begun begun_back m n clock until (d ∷ ds)) (free : is_waited d ≡ false) (there : Emits s ds)
    (x : Sent) (brings : Bool) (hand : h.hand ≡ in_hand x brings true)
  where
    -- the other copies
    abbrev pub rest : List Copy
    rest = map copy_in h.way_back.sent

    abbrev pub out_after : Lane
    out_after = hears_ack (copy_in x) rest h.out

    module _ (next window : ℕ) (now : is_future next m.send ≡ false) (few : min next (length m.send.marks) ≤ h.out.granted + h.waiting) (next_is : x.telling.next ≡ next) (edge_is : x.telling.edge ≡ next + window)
        (rests : h.out.control_acked < x.telling.seen → h.out.timer ≡ None)
        (v : Sending) (mo : Modes) (tr : Treated) (same : tr.asked ≡ m.end.treated.asked)
        (own : EndIs s keys k j out_after.sender h.back.receiver (in_hand x brings false) h.owes h.waiting
        (record m.end { sending = v; modes = mo; treated = tr }))
      where
        abbrev pub end_after : PathEnd
        end_after = record m.end { sending = v; modes = mo; treated = tr }

        pub may_hear : MayHearAck (raised h.stage) (copy_in x) rest h.out
        may_hear = record {
          first = h.way_back.acks_are ∙ ap (λ (o : Option Hand). map copy_in (tells_in o ++ h.way_back.sent)) hand;
          turn = refl;
          emit = refl;
          finish = refl;
          rests = rests;
        }

        pub way_back_after : WayIs c keys k j (peer s) h.back.sender h.back.receiver h.back.datas rest (in_hand x brings false) m.end.tcp.send.una
            n.end.tcp.recv.edge n.flying
        way_back_after = record {
          sent = h.way_back.sent;
          flights = h.way_back.flights;
          datas_are = h.way_back.datas_are ∙ ap (λ (o : Option Hand). map copy_in (brings_in o ++ h.way_back.sent)) hand;
          acks_are = refl;
          follow = subst (λ (o : Option Hand). Follow k.least k.total j.total (peer s) h.back.received h.back.control_came h.back.keys_came
              (brings_in o ++ h.way_back.sent)) hand h.way_back.follow;
          low = ap (λ (o : Option Hand). low_after h.back.received (brings_in o ++ h.way_back.sent)) (sym hand) ∙ h.way_back.low;
          control = ap (λ (o : Option Hand). control_after h.back.control_came (brings_in o ++ h.way_back.sent)) (sym hand) ∙ h.way_back.control;
          keys_shown = ap (λ (o : Option Hand). keys_after h.back.keys_came (brings_in o ++ h.way_back.sent)) (sym hand) ∙ h.way_back.keys_shown;
          rise = h.way_back.rise;
          passed = h.way_back.passed;
        }

        pub writes_after : WriterIs k h.out.written h.out.closed out_after.acked m.app (after_ack next window m.send)
        writes_after = subst (λ (n : ℕ). WriterIs k h.out.written h.out.closed (max h.out.acked n) m.app (after_ack next window m.send)) (sym next_is)
            (hears_as_lanes k h.out.written h.out.closed h.out.acked next window m.app m.send now h.apps.book.marks h.apps.writes.numbers)

        pub fin_heard : (after_ack next window m.send).fin ≡ true → k.total < out_after.acked
        fin_heard = subst (λ (b : Bool). (if b then m.send else heard_book).fin ≡ true → k.total < out_after.acked) (sym now)
            (subst (λ (n : ℕ). (m.send.fin || nat_lt (length m.send.written) next) ≡ true → k.total < max h.out.acked n) (sym next_is)
            (fin_is (cases_lt (length m.send.written) next)))
          where
            heard_book : SendBook
            heard_book = record m.send {
              marks = replicate (min next (length m.send.marks)) Acked ++ drop next m.send.marks;
              edge = max m.send.edge (next + window);
              fin = fin_after next m.send;
            }

            up : {a : ℕ} (b : ℕ) → k.total < a → k.total < max a b
            up b less = omega (arith, less)

            -- the stream is closed, so that all of it was written
            beyond : length m.send.written < next → k.total < max h.out.acked next
            beyond less = more h.out.acked less (closed_is m.send.closed refl)
              where
                more : {w n : ℕ} (a : ℕ) → w < n → k.total ≤ w → k.total < max a n
                more a p q = omega (arith, p, q)

                late : {w n : ℕ} → n ≤ w + 0 → w < n → ⊥
                late p q = absurd (omega (arith, p, q))

                whole_of : {w r total : ℕ} → w + r ≡ total → r ≡ 0 → total ≤ w
                whole_of p q = omega (arith, p, q)

                closed_is : (b : Bool) → m.send.closed ≡ b → k.total ≤ length m.send.written
                closed_is true is = whole_of h.apps.writes.numbers.file (ap (λ (xs : List ℕ). length xs) (h.apps.writes.numbers.whole is))
                closed_is false is = absurd (late (ltb-false (length m.send.written + 0) next
                    (subst (λ (b : Bool). nat_lt (length m.send.written + (if b then 1 else 0)) next ≡ false) is now)) less)

            fin_is : (length m.send.written < next) ⊎ (next ≤ length m.send.written) → (m.send.fin || nat_lt (length m.send.written) next) ≡ true
                → k.total < max h.out.acked next
            fin_is (inl less) e = beyond less
            fin_is (inr low) e = by m.send.fin refl (subst (λ (b : Bool). (m.send.fin || b) ≡ true) (le-ltb (length m.send.written) next low) e)
              where
                by : (b : Bool) → m.send.fin ≡ b → (b || false) ≡ true → k.total < max h.out.acked next
                by true is e = up next (h.apps.fin is)
                by false is e = absurd (both_ways false refl e)

        pub book_after : BookIs out_after.sender h.waiting (after_ack next window m.send)
        book_after = book_hears next window x.telling.edge h.waiting h.out.sender out_after.sender m.send now h.apps.book refl refl edge_is few

        pub begun_after : (1 ≤ h.out.control_sent) ⊎ HasNotBegun s j h.out.sender h.back.receiver m.end (d ∷ ds)
            → (1 ≤ h.out.control_sent) ⊎ HasNotBegun s j out_after.sender h.back.receiver end_after ds
        begun_after (inl sent) = inl sent
        begun_after (inr none) = inr (record {
          ready = none.ready;
          received = none.received;
          data_fin = none.data_fin;
          keys = none.keys;
          told = none.told;
          next = none.next;
          window = ⊎_elim (λ is. inl is) (λ i. inr (behind ds (apart refl free) i)) none.window;
          syn = λ is. ((none.syn is).0, behind ds (apart refl free) (none.syn is).1);
        })

        pub begun_back_after : (1 ≤ h.back.control_sent) ⊎ HasNotBegun (peer s) k h.back.sender h.out.receiver n.end (d ∷ ds)
            → (1 ≤ h.back.control_sent) ⊎ HasNotBegun (peer s) k h.back.sender out_after.receiver n.end ds
        begun_back_after (inl sent) = inl sent
        begun_back_after (inr none) = inr (record {
          ready = none.ready;
          received = none.received;
          data_fin = none.data_fin;
          keys = none.keys;
          told = none.told;
          next = none.next;
          window = ⊎_elim (λ is. inl is) (λ i. inr (behind ds (apart refl free) i)) none.window;
          syn = λ is. ((none.syn is).0, behind ds (apart refl free) (none.syn is).1);
        })

        abbrev pub hears_on : Facing s keys k j c begun begun_back (record m { end = end_after; send = after_ack next window m.send }) n clock until ds
        hears_on = record {
          out = out_after;
          back = h.back;
          stage = raised h.stage;
          stage_back = h.stage_back;
          going = stands_then (stands_then h.going (raised h.stage) h.out (goes_back (raised h.stage) (before_raised h.stage)))
              (raised h.stage) out_after (is_acknowledged (copy_in x) rest may_hear);
          going_back = h.going_back;
          now = h.now;
          now_back = h.now_back;
          hand = in_hand x brings false;
          hand_back = h.hand_back;
          owes = h.owes;
          owes_back = h.owes_back;
          waiting = h.waiting;
          waiting_back = h.waiting_back;
          own = own;
          other = h.other;
          way = record {
            sent = h.way.sent;
            flights = h.way.flights;
            datas_are = h.way.datas_are;
            acks_are = h.way.acks_are;
            follow = h.way.follow;
            low = h.way.low;
            control = h.way.control;
            keys_shown = h.way.keys_shown;
            rise = h.way.rise;
            passed = h.way.passed;
          };
          way_back = way_back_after;
          apps = record {
            writes = record { numbers = writes_after; over = h.apps.writes.over };
            reads = record { numbers = h.apps.reads.numbers; received = h.apps.reads.received; over = h.apps.reads.over };
            receives = record {
              read = h.apps.receives.read;
              received = h.apps.receives.received;
              known = h.apps.receives.known;
              capacity = h.apps.receives.capacity;
            };
            book = record { edge = book_after.edge; owner = book_after.owner; marks = book_after.marks; taken = book_after.taken };
            room = h.apps.room;
            whole = h.apps.whole;
            fin = fin_heard;
          };
          apps_back = record {
            writes = record { numbers = h.apps_back.writes.numbers; over = h.apps_back.writes.over };
            reads = record { numbers = h.apps_back.reads.numbers; received = h.apps_back.reads.received; over = h.apps_back.reads.over };
            receives = record {
              read = h.apps_back.receives.read;
              received = h.apps_back.receives.received;
              known = h.apps_back.receives.known;
              capacity = h.apps_back.receives.capacity;
            };
            book = record {
              edge = h.apps_back.book.edge;
              owner = h.apps_back.book.owner;
              marks = h.apps_back.book.marks;
              taken = h.apps_back.book.taken;
            };
            room = h.apps_back.room;
            whole = h.apps_back.whole;
            fin = h.apps_back.fin;
          };
          stages = stage_raised s (peer s) ds n.end.treated.asked h.owes_back h.stage there
              (stage_drops s (peer s) d ds n.end.treated.asked h.owes_back h.stage (is_apart s (peer s) d free) h.stages);
          stages_back = subst (λ (asked : Bool). StageIs (peer s) s ds asked h.owes h.stage_back) (sym same)
              (stage_drops (peer s) s d ds m.end.treated.asked h.owes h.stage_back (is_apart (peer s) s d free) h.stages_back);
          control = h.control;
          control_back = h.control_back;
          turn = h.turn;
          turn_back = h.turn_back;
          settles = inr there.timer;
          settles_back = settles_drop (peer s) d ds n.end (apart refl free) h.settles_back;
          begins = begun_after h.begins;
          begins_back = begun_back_after h.begins_back;
          owed = λ e b. h.owed e (ap brings_still hand ∙ b);
          owed_back = h.owed_back;
        }
