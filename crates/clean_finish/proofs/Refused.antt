-- A refusal of a grant: nothing more is asked for.
use Rattle.clean_finish.proofs.Words.{◌≡◌, refl, sym, ap, ◌∙◌, ℕ, ◌+◌, ◌≤◌, Bool, true, false, not, ◌&&◌, if◌then◌else◌, inl, inr, Option, None, List, ◌∷◌}
use Rattle.clean_finish.proofs.Words.{length, arith, Some, both_ways, All-weaker, Side, peer, Why, Record, one_if, Duty, SendDuty, StepDuty, Profile, PathEnd}
use Rattle.clean_finish.proofs.Words.{is_shut, after_refusal, told_last, Setting, Lane, Stage, MayRefuse, IsBefore, is_refused, goes_back, refused_by, EndIs}
use Rattle.clean_finish.proofs.Words.{IsGranted, Waits, WaitsSyn, WaitsNone, WaitsBytes, Keys, Facing, Half, Has, StageIs, end_known}
use Rattle.send_book.specs.Steps.{end_of}
use Rattle.clean_finish.proofs.Dropping.{differ, IsApart, stage_drops, emit_drops, settles_drop, begun_drops}
use Rattle.clean_finish.proofs.Passing.{stands_then, peer_is_other, same_data}

pub before_finishing : (p : Stage) → IsBefore (record p { finish = true }) p
before_finishing p = record {
  ask = λ e. e;
  tell = refl;
  window = λ e. e;
  update = λ e. e;
  emit = λ e. e;
  finish = λ e. absurd (both_ways _ e refl);
  wait = λ e. e;
}

stage_finishes : (s r : Side) (ds : List Duty) (asked owes : Bool) (p : Stage) → Has (Duty.Send (SendDuty.DataFin s)) ds
    → StageIs s r ds asked owes p → StageIs s r ds asked owes (record p { finish = true })
stage_finishes s r ds asked owes p there is = record {
  window = is.window;
  update = is.update;
  emit = is.emit;
  finish = inr there;
  wait = is.wait;
  tell = is.tell;
  ask = is.ask;
}

module _ {s : Side} {keys : Keys} {k j : Setting} {c : Profile} {begun begun_back : Lane} {m n : Half} {clock until : ℕ} {ds : List Duty}
    (h : Facing s keys k j c begun begun_back m n clock until (Duty.Step (StepDuty.Data s) ∷ ds))
  where
    abbrev pub finishing : Stage
    finishing = record h.stage { finish = true }

    module _ (why : Why) where
      abbrev pub shut : Bool
      shut = is_shut why

      abbrev pub end_after : PathEnd
      end_after = record m.end { sending = after_refusal why (end_of m.send) m.end.sending }

      abbrev pub out_after : Lane
      out_after = refused_by shut h.out.closed h.out

      module _ (nothing_waits : h.waiting ≡ 0) (some_sent : 1 ≤ h.out.control_sent) (more : h.out.known ≤ h.out.closed)
          (may : MayRefuse k begun finishing shut h.out.closed h.out) (there : Has (Duty.Send (SendDuty.DataFin s)) ds)
        where
          pub not_both : {x : ℕ} → x ≡ 0 → 1 ≤ x → ⊥
          not_both p q = absurd (omega (arith, p, q))

          -- the end is told where the stream is closed
          pub known_now : told_last (end_of m.send) m.end.sending.known_end ≡ end_known h.out.closed k.total
          known_now = by m.send.closed refl
            where
              whole : {l r t : ℕ} → l + r ≡ t → r ≡ 0 → l ≡ t
              whole p q = omega (arith, p, q)

              none : {x y : ℕ} → x ≤ y → y ≡ 0 → x ≡ 0
              none p q = omega (arith, p, q)

              open_is : end_of m.send ≡ (if m.send.closed && true then Some (length m.send.written) else None)
              open_is = ap (λ (b : Bool). if m.send.closed && not b then Some (length m.send.written) else None) h.apps.writes.numbers.unaborted

              closed_is : h.out.closed ≡ one_if m.send.closed
              closed_is = h.apps.writes.numbers.shut

              by : (b : Bool) → m.send.closed ≡ b → told_last (end_of m.send) m.end.sending.known_end ≡ end_known h.out.closed k.total
              by true is =
                  ap (λ (o : Option ℕ). told_last o m.end.sending.known_end)
                  (open_is ∙ ap (λ (b : Bool). if b && true then Some (length m.send.written) else None) is)
                  ∙ (ap (λ (x : ℕ). Some x) (whole h.apps.writes.numbers.file (ap (λ (xs : List ℕ). length xs) (h.apps.writes.numbers.whole is)))
                  ∙ ap (λ (x : ℕ). end_known x k.total) (sym (closed_is ∙ ap one_if is)))
              by false is =
                  ap (λ (o : Option ℕ). told_last o m.end.sending.known_end)
                  (open_is ∙ ap (λ (b : Bool). if b && true then Some (length m.send.written) else None) is)
                  ∙ (h.own.sending.known
                  ∙ ap (λ (x : ℕ). end_known x k.total) (none more (closed_is ∙ ap one_if is) ∙ sym (closed_is ∙ ap one_if is)))

          pub own_after : EndIs s keys k j out_after.sender h.back.receiver h.hand h.owes h.waiting end_after
          own_after = record {
            subflow = record {
              phase = h.own.subflow.phase;
              opens = h.own.subflow.opens;
              records = record {
                sent = h.own.subflow.records.sent;
                rest = h.own.subflow.records.rest;
                all = h.own.subflow.records.all;
                gone = h.own.subflow.records.gone;
                waits = waits_on h.own.subflow.records.waits;
                pieces = h.own.subflow.records.pieces;
                tile = h.own.subflow.records.tile;
                next = h.own.subflow.records.next;
                finished = h.own.subflow.records.finished;
                control = h.own.subflow.records.control;
                fits = h.own.subflow.records.fits;
              };
              ahead = record {
                bytes = h.own.subflow.ahead.bytes;
                opened = h.own.subflow.ahead.opened;
                finished = h.own.subflow.ahead.finished;
                seen = h.own.subflow.ahead.seen;
              };
              congestion = record {
                window = h.own.subflow.congestion.window;
                most = h.own.subflow.congestion.most;
                steady = h.own.subflow.congestion.steady;
                row = h.own.subflow.congestion.row;
              };
              come = record { edge = h.own.subflow.come.edge; window = h.own.subflow.come.window };
              heard = record {
                told = h.own.subflow.heard.told;
                most = h.own.subflow.heard.most;
                end = h.own.subflow.heard.end;
                few = h.own.subflow.heard.few;
                some = h.own.subflow.heard.some;
              };
              quiet = h.own.subflow.quiet;
              begun = h.own.subflow.begun;
              keyed = h.own.subflow.keyed;
              long = h.own.subflow.long;
              due = h.own.subflow.due;
            };
            sending = record {
              heard = h.own.sending.heard;
              known = known_now;
              data_fin = h.own.sending.data_fin;
              acked = h.own.sending.acked;
              came = h.own.sending.came;
              shut = (λ e. refl, λ some. absurd (not_both nothing_waits some));
              granted = All-weaker (IsGranted h.out.sender h.waiting) (IsGranted out_after.sender h.waiting)
                  (λ piece is. record { waits = is.waits; within = is.within }) m.end.sending.granted h.own.sending.granted;
              spans = h.own.sending.spans;
              bytes = h.own.sending.bytes;
              end = h.own.sending.end;
              acked_end = h.own.sending.acked_end;
              finish = h.own.sending.finish;
            };
            receiving = record {
              next = h.own.receiving.next;
              limit = h.own.receiving.limit;
              told = h.own.receiving.told;
              least = h.own.receiving.least;
              unmapped = h.own.receiving.unmapped;
              fin_told = h.own.receiving.fin_told;
              said = h.own.receiving.said;
              unended = h.own.receiving.unended;
              unheard = h.own.receiving.unheard;
            };
            modes = record {
              mode = h.own.modes.mode;
              standby = h.own.modes.standby;
              mapping = h.own.modes.mapping;
              owes_third = h.own.modes.owes_third;
              owes_mapping = h.own.modes.owes_mapping;
              mapped_to = h.own.modes.mapped_to;
              plain_acks = h.own.modes.plain_acks;
              own_key = h.own.modes.own_key;
              peer_key = h.own.modes.peer_key;
              clear = h.own.modes.clear;
              capable = h.own.modes.capable;
              ready = h.own.modes.ready;
              cleared = h.own.modes.cleared;
              both = h.own.modes.both;
              shown = h.own.modes.shown;
            };
            timer = h.own.timer;
            notices = h.own.notices;
          }
            where
              waits_on : {rest : List Record} {l : ℕ} → Waits k h.out.sender rest l → Waits k out_after.sender rest l
              waits_on (WaitsSyn unsent) = WaitsSyn unsent
              waits_on (WaitsNone some) = WaitsNone some
              waits_on (WaitsBytes one r kind pos unsent some most edge) = WaitsBytes one r kind pos unsent some most edge

          pub others : IsApart (peer s) s (Duty.Step (StepDuty.Data s))
          others = record {
            window = differ refl;
            update = differ refl;
            emit = λ e. absurd (peer_is_other s (same_data e));
            finish = differ refl;
            wait = differ refl;
            syn_ack = differ refl;
            acknowledge = differ refl;
            ask = differ refl;
          }

          pub stage_after : StageIs s (peer s) ds n.end.treated.asked h.owes_back (record finishing { emit = false })
          stage_after = stage_finishes s (peer s) ds n.end.treated.asked h.owes_back (record h.stage { emit = false }) there
              (emit_drops s (peer s) (Duty.Step (StepDuty.Data s)) ds n.end.treated.asked h.owes_back h.stage refl h.stages)

          abbrev pub refused_on : Facing s keys k j c begun begun_back (record m { end = end_after }) n clock until ds
          refused_on = record {
            out = out_after;
            back = h.back;
            stage = record finishing { emit = false };
            stage_back = h.stage_back;
            going = stands_then (stands_then h.going finishing h.out (goes_back finishing (before_finishing h.stage))) (record finishing { emit = false })
                out_after (is_refused shut h.out.closed may);
            going_back = h.going_back;
            now = h.now;
            now_back = h.now_back;
            hand = h.hand;
            hand_back = h.hand_back;
            owes = h.owes;
            owes_back = h.owes_back;
            waiting = h.waiting;
            waiting_back = h.waiting_back;
            own = own_after;
            other = h.other;
            way = record {
              sent = h.way.sent;
              flights = h.way.flights;
              datas_are = h.way.datas_are;
              acks_are = h.way.acks_are;
              follow = h.way.follow;
              low = h.way.low;
              control = h.way.control;
              keys_shown = h.way.keys_shown;
              rise = h.way.rise;
              passed = h.way.passed;
            };
            way_back = record {
              sent = h.way_back.sent;
              flights = h.way_back.flights;
              datas_are = h.way_back.datas_are;
              acks_are = h.way_back.acks_are;
              follow = h.way_back.follow;
              low = h.way_back.low;
              control = h.way_back.control;
              keys_shown = h.way_back.keys_shown;
              rise = h.way_back.rise;
              passed = h.way_back.passed;
            };
            apps = record {
              writes = record { numbers = h.apps.writes.numbers; over = h.apps.writes.over };
              reads = record { numbers = h.apps.reads.numbers; received = h.apps.reads.received; over = h.apps.reads.over };
              receives = record {
                read = h.apps.receives.read;
                received = h.apps.receives.received;
                known = h.apps.receives.known;
                capacity = h.apps.receives.capacity;
              };
              book = record { edge = h.apps.book.edge; owner = h.apps.book.owner; marks = h.apps.book.marks; taken = h.apps.book.taken };
              room = h.apps.room;
              whole = h.apps.whole;
              fin = h.apps.fin;
            };
            apps_back = h.apps_back;
            stages = stage_after;
            stages_back = stage_drops (peer s) s (Duty.Step (StepDuty.Data s)) ds m.end.treated.asked h.owes h.stage_back others h.stages_back;
            control = h.control;
            control_back = h.control_back;
            turn = h.turn;
            turn_back = h.turn_back;
            settles = settles_drop s (Duty.Step (StepDuty.Data s)) ds end_after (differ refl) h.settles;
            settles_back = settles_drop (peer s) (Duty.Step (StepDuty.Data s)) ds n.end (differ refl) h.settles_back;
            begins = inl some_sent;
            begins_back = begun_drops (peer s) k h.back.sender h.out.receiver n.end (Duty.Step (StepDuty.Data s)) ds (differ refl) (λ is. differ refl) h.begins_back;
            owed = h.owed;
            owed_back = h.owed_back;
          }
