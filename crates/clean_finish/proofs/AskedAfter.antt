-- The book is asked what is acknowledged, after what a copy brought.
use Rattle.clean_finish.proofs.Words.{◌≡◌, refl, ap, ℕ, ◌+◌, ◌≤◌, Bool, false, inl, inr, ⊎_elim, List, ◌∷◌, both_ways, Side, A, peer, next_wanted, window}
use Rattle.clean_finish.proofs.Words.{window_told, Duty, AskDuty, Reply, Profile, PathEnd, after_ack_out, Setting, Lane, Stage, all_left, Going, lane_asks}
use Rattle.clean_finish.proofs.Words.{asked_out, EndIs, IsToldEdge, Keys, Same, Before, IsSetting, Facing, Half, StageIs, AsksAsALane}
use Rattle.reassembly_book.specs.declared.call.ReassemblyReply.{ReassemblyReply}
use Rattle.clean_finish.proofs.Books.{asks_as_lanes}
use Rattle.clean_finish.proofs.Dropping.{differ, behind, behind_or, IsApart, stage_drops, settles_drop, begun_drops}
use Rattle.clean_finish.proofs.Passing.{stands_then, peer_is_other}
use Rattle.clean_finish.proofs.Quiet.{now_back}

-- the side of the question
abbrev asks_for : Duty → Side
asks_for (Duty.Ask (AskDuty.AckOut q)) = q
asks_for _ = A

same_question : {p q : Side} → Duty.Ask (AskDuty.AckOut p) ≡ Duty.Ask (AskDuty.AckOut q) → p ≡ q
same_question e = ap asks_for e

-- AckOut was asked
pub out_drops : (s r : Side) (d : Duty) (ds : List Duty) (asked owes : Bool) (p : Stage) → d ≡ Duty.Ask (AskDuty.AckOut r)
    → StageIs s r (d ∷ ds) asked owes p → StageIs s r ds false owes (record p { ask = false; window = false })
out_drops s r d ds asked owes p at is = record {
  window = inl refl;
  update = behind_or ds (λ e. cc) is.update;
  emit = behind_or ds (λ e. cc) is.emit;
  finish = behind_or ds (λ e. cc) is.finish;
  wait = behind_or ds (λ e. cc) is.wait;
  tell = ⊎_elim (λ e. inl e) (λ a. inr (⊎_elim (λ i. inl (behind ds (λ e. cc) i)) (λ i. inr (behind ds (λ e. cc) i.0, i.1)) a)) is.tell;
  ask = inl refl;
}

-- nothing is to be asked
pub unasked_drops : (s r : Side) (ds : List Duty) (asked owes : Bool) (p : Stage) → asked ≡ false
    → StageIs s r (Duty.Ask (AskDuty.AckOut r) ∷ ds) asked owes p → StageIs s r ds asked owes p
unasked_drops s r ds asked owes p none is = record {
  window = behind_or ds (differ refl) is.window;
  update = behind_or ds (differ refl) is.update;
  emit = behind_or ds (differ refl) is.emit;
  finish = behind_or ds (differ refl) is.finish;
  wait = behind_or ds (differ refl) is.wait;
  tell = ⊎_elim (λ e. inl e) (λ a. inr (⊎_elim (λ i. inl (behind ds (differ refl) i)) (λ i. inr (behind ds (differ refl) i.0, i.1)) a)) is.tell;
  ask = ⊎_elim (λ e. inl e) (λ a. ⊎_elim (λ i. inr (inl (behind ds (differ refl) i))) (λ i. absurd (both_ways asked none i.1)) a) is.ask;
}

module _ {s : Side} {keys : Keys} {k j : Setting} {c : Profile} {begun begun_back : Lane} {m n : Half} {clock until : ℕ} (ticks t u : ℕ)
    (k_is : IsSetting c ticks k) (j_is : IsSetting c ticks j)
    (going : Going k begun t all_left begun) (going_back : Going j begun_back u all_left begun_back)
    {ds : List Duty} (h : Facing s keys k j c begun begun_back m n clock until (Duty.Ask (AskDuty.AckOut s) ∷ ds))
  where
    back_now : Going j begun_back u h.stage_back h.back
    back_now = now_back ticks t u k_is j_is going going_back h

    pub asks : AsksAsALane j h.back m.arrived
    asks = asks_as_lanes j h.back m.arrived back_now.numbers h.apps_back.receives

    abbrev pub limit : ℕ
    limit = next_wanted m.arrived + window_told false (window m.arrived)

    abbrev pub back_after : Lane
    back_after = asked_out j limit h.back

    abbrev pub end_after : PathEnd
    end_after = after_ack_out (Reply.Reassembly (ReassemblyReply.Ack (next_wanted m.arrived) (window m.arrived))) m.end

    module _ (some_sent : 1 ≤ h.out.control_sent) where
      told_after : IsToldEdge s j h.owes h.back.receiver m.end.receiving.told_edge
          → IsToldEdge s j h.owes back_after.receiver m.end.receiving.told_edge
      told_after (Same same) = Same same
      told_after (Before side none least full) = Before side none least full

      pub others : IsApart s (peer s) (Duty.Ask (AskDuty.AckOut s))
      others = record {
        window = differ refl;
        update = differ refl;
        emit = differ refl;
        finish = differ refl;
        wait = differ refl;
        syn_ack = differ refl;
        acknowledge = differ refl;
        ask = λ e. peer_is_other s (same_question e);
      }

      pub own_after : EndIs s keys k j h.out.sender back_after.receiver h.hand h.owes h.waiting end_after
      own_after = record {
        subflow = record {
          phase = h.own.subflow.phase;
          opens = h.own.subflow.opens;
          records = record {
            sent = h.own.subflow.records.sent;
            rest = h.own.subflow.records.rest;
            all = h.own.subflow.records.all;
            gone = h.own.subflow.records.gone;
            waits = h.own.subflow.records.waits;
            pieces = h.own.subflow.records.pieces;
            tile = h.own.subflow.records.tile;
            next = h.own.subflow.records.next;
            finished = h.own.subflow.records.finished;
            control = h.own.subflow.records.control;
            fits = h.own.subflow.records.fits;
          };
          ahead = record {
            bytes = h.own.subflow.ahead.bytes;
            opened = h.own.subflow.ahead.opened;
            finished = h.own.subflow.ahead.finished;
            seen = h.own.subflow.ahead.seen;
          };
          congestion = record {
            window = h.own.subflow.congestion.window;
            most = h.own.subflow.congestion.most;
            steady = h.own.subflow.congestion.steady;
            row = h.own.subflow.congestion.row;
          };
          come = record { edge = h.own.subflow.come.edge; window = h.own.subflow.come.window };
          heard = record {
            told = h.own.subflow.heard.told;
            most = h.own.subflow.heard.most;
            end = h.own.subflow.heard.end;
            few = h.own.subflow.heard.few;
            some = h.own.subflow.heard.some;
          };
          quiet = h.own.subflow.quiet;
          begun = h.own.subflow.begun;
          keyed = h.own.subflow.keyed;
          long = h.own.subflow.long;
          due = h.own.subflow.due;
        };
        sending = record {
          heard = h.own.sending.heard;
          known = h.own.sending.known;
          data_fin = h.own.sending.data_fin;
          acked = h.own.sending.acked;
          came = h.own.sending.came;
          shut = h.own.sending.shut;
          granted = h.own.sending.granted;
          spans = h.own.sending.spans;
          bytes = h.own.sending.bytes;
          end = h.own.sending.end;
          acked_end = h.own.sending.acked_end;
          finish = h.own.sending.finish;
        };
        receiving = record {
          next = asks.next;
          limit = refl;
          told = told_after h.own.receiving.told;
          least = h.own.receiving.least;
          unmapped = h.own.receiving.unmapped;
          fin_told = h.own.receiving.fin_told;
          said = h.own.receiving.said;
          unended = h.own.receiving.unended;
          unheard = h.own.receiving.unheard;
        };
        modes = record {
          mode = h.own.modes.mode;
          standby = h.own.modes.standby;
          mapping = h.own.modes.mapping;
          owes_third = h.own.modes.owes_third;
          owes_mapping = h.own.modes.owes_mapping;
          mapped_to = h.own.modes.mapped_to;
          plain_acks = h.own.modes.plain_acks;
          own_key = h.own.modes.own_key;
          peer_key = h.own.modes.peer_key;
          clear = h.own.modes.clear;
          capable = h.own.modes.capable;
          ready = h.own.modes.ready;
          cleared = h.own.modes.cleared;
          both = h.own.modes.both;
          shown = h.own.modes.shown;
        };
        timer = h.own.timer;
        notices = h.own.notices;
      }

      abbrev pub asked_after : Facing s keys k j c begun begun_back (record m { end = end_after }) n clock until ds
      asked_after = record {
        out = h.out;
        back = back_after;
        stage = h.stage;
        stage_back = record h.stage_back { ask = false; window = false };
        going = h.going;
        going_back = stands_then h.going_back (record h.stage_back { ask = false; window = false }) back_after (lane_asks limit asks.edge);
        now = h.now;
        now_back = h.now_back;
        hand = h.hand;
        hand_back = h.hand_back;
        owes = h.owes;
        owes_back = h.owes_back;
        waiting = h.waiting;
        waiting_back = h.waiting_back;
        own = own_after;
        other = h.other;
        way = record {
          sent = h.way.sent;
          flights = h.way.flights;
          datas_are = h.way.datas_are;
          acks_are = h.way.acks_are;
          follow = h.way.follow;
          low = h.way.low;
          control = h.way.control;
          keys_shown = h.way.keys_shown;
          rise = h.way.rise;
          passed = h.way.passed;
        };
        way_back = record {
          sent = h.way_back.sent;
          flights = h.way_back.flights;
          datas_are = h.way_back.datas_are;
          acks_are = h.way_back.acks_are;
          follow = h.way_back.follow;
          low = h.way_back.low;
          control = h.way_back.control;
          keys_shown = h.way_back.keys_shown;
          rise = h.way_back.rise;
          passed = h.way_back.passed;
        };
        apps = record {
          writes = record { numbers = h.apps.writes.numbers; over = h.apps.writes.over };
          reads = record { numbers = h.apps.reads.numbers; received = h.apps.reads.received; over = h.apps.reads.over };
          receives = record {
            read = h.apps.receives.read;
            received = h.apps.receives.received;
            known = h.apps.receives.known;
            capacity = h.apps.receives.capacity;
          };
          book = record { edge = h.apps.book.edge; owner = h.apps.book.owner; marks = h.apps.book.marks; taken = h.apps.book.taken };
          room = h.apps.room;
          whole = h.apps.whole;
          fin = h.apps.fin;
        };
        apps_back = record {
          writes = record { numbers = h.apps_back.writes.numbers; over = h.apps_back.writes.over };
          reads = record { numbers = h.apps_back.reads.numbers; received = h.apps_back.reads.received; over = h.apps_back.reads.over };
          receives = record {
            read = h.apps_back.receives.read;
            received = h.apps_back.receives.received;
            known = h.apps_back.receives.known;
            capacity = h.apps_back.receives.capacity;
          };
          book = record {
            edge = h.apps_back.book.edge;
            owner = h.apps_back.book.owner;
            marks = h.apps_back.book.marks;
            taken = h.apps_back.book.taken;
          };
          room = h.apps_back.room;
          whole = h.apps_back.whole;
          fin = h.apps_back.fin;
        };
        stages = stage_drops s (peer s) (Duty.Ask (AskDuty.AckOut s)) ds n.end.treated.asked h.owes_back h.stage others h.stages;
        stages_back = out_drops (peer s) s (Duty.Ask (AskDuty.AckOut s)) ds m.end.treated.asked h.owes h.stage_back refl h.stages_back;
        control = h.control;
        control_back = h.control_back;
        turn = h.turn;
        turn_back = h.turn_back;
        settles = settles_drop s (Duty.Ask (AskDuty.AckOut s)) ds m.end (differ refl) h.settles;
        settles_back = settles_drop (peer s) (Duty.Ask (AskDuty.AckOut s)) ds n.end (differ refl) h.settles_back;
        begins = inl some_sent;
        begins_back = begun_drops (peer s) k h.back.sender h.out.receiver n.end (Duty.Ask (AskDuty.AckOut s)) ds (differ refl) (λ is. differ refl) h.begins_back;
        owed = h.owed;
        owed_back = h.owed_back;
      }

      -- AckOut isn't asked again
      abbrev pub out_passes : m.end.treated.asked ≡ false → Facing s keys k j c begun begun_back m n clock until ds
      out_passes unasked = record {
        out = h.out;
        back = h.back;
        stage = h.stage;
        stage_back = h.stage_back;
        going = h.going;
        going_back = h.going_back;
        now = h.now;
        now_back = h.now_back;
        hand = h.hand;
        hand_back = h.hand_back;
        owes = h.owes;
        owes_back = h.owes_back;
        waiting = h.waiting;
        waiting_back = h.waiting_back;
        own = h.own;
        other = h.other;
        way = h.way;
        way_back = h.way_back;
        apps = h.apps;
        apps_back = h.apps_back;
        stages = stage_drops s (peer s) (Duty.Ask (AskDuty.AckOut s)) ds n.end.treated.asked h.owes_back h.stage others h.stages;
        stages_back = unasked_drops (peer s) s ds m.end.treated.asked h.owes h.stage_back unasked h.stages_back;
        control = h.control;
        control_back = h.control_back;
        turn = h.turn;
        turn_back = h.turn_back;
        settles = settles_drop s (Duty.Ask (AskDuty.AckOut s)) ds m.end (differ refl) h.settles;
        settles_back = settles_drop (peer s) (Duty.Ask (AskDuty.AckOut s)) ds n.end (differ refl) h.settles_back;
        begins = inl some_sent;
        begins_back = begun_drops (peer s) k h.back.sender h.out.receiver n.end (Duty.Ask (AskDuty.AckOut s)) ds (differ refl) (λ is. differ refl) h.begins_back;
        owed = h.owed;
        owed_back = h.owed_back;
      }
