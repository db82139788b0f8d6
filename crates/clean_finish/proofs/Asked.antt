-- The book is asked what is acknowledged, and for the window, as a turn begins.
use Rattle.clean_finish.proofs.Words.{◌≡◌, refl, ap, ℕ, ◌+◌, ◌-◌, ◌≤◌, min, false, ◌⊎◌, inl, inr, List, ◌∷◌, arith, Side, peer, next_wanted, window}
use Rattle.clean_finish.proofs.Words.{window_told, Duty, AskDuty, Reply, Profile, PathEnd, after_ack_out, Setting, Lane, all_left, Going, lane_asks, asked_out}
use Rattle.clean_finish.proofs.Words.{EndIs, IsToldEdge, Keys, Same, Before, IsSetting, Facing, Half, HasNotBegun, AsksAsALane}
use Rattle.reassembly_book.specs.declared.call.ReassemblyReply.{ReassemblyReply}
use Rattle.clean_finish.proofs.Books.{asks_as_lanes}
use Rattle.clean_finish.proofs.Dropping.{differ, behind, IsApart, stage_drops, window_drops, settles_drop, begun_drops}
use Rattle.clean_finish.proofs.Passing.{side_of, stands_then, peer_is_other}
use Rattle.clean_finish.proofs.Quiet.{now_back}

pub same_window : {p q : Side} → Duty.Ask (AskDuty.Window p) ≡ Duty.Ask (AskDuty.Window q) → p ≡ q
same_window e = ap side_of e

module _ {s : Side} {keys : Keys} {k j : Setting} {c : Profile} {begun begun_back : Lane} {m n : Half} {clock until : ℕ} (ticks t u : ℕ)
    (k_is : IsSetting c ticks k) (j_is : IsSetting c ticks j)
    (going : Going k begun t all_left begun) (going_back : Going j begun_back u all_left begun_back)
  where
    module _ {ds : List Duty} (h : Facing s keys k j c begun begun_back m n clock until (Duty.Ask (AskDuty.Window s) ∷ ds)) where
      back_now : Going j begun_back u h.stage_back h.back
      back_now = now_back ticks t u k_is j_is going going_back h

      pub asks : AsksAsALane j h.back m.arrived
      asks = asks_as_lanes j h.back m.arrived back_now.numbers h.apps_back.receives

      abbrev pub limit : ℕ
      limit = next_wanted m.arrived + window_told false (window m.arrived)

      abbrev pub back_after : Lane
      back_after = asked_out j limit h.back

      abbrev pub end_after : PathEnd
      end_after = after_ack_out (Reply.Reassembly (ReassemblyReply.Ack (next_wanted m.arrived) (window m.arrived))) m.end

      told_after : IsToldEdge s j h.owes h.back.receiver m.end.receiving.told_edge
          → IsToldEdge s j h.owes back_after.receiver m.end.receiving.told_edge
      told_after (Same same) = Same same
      told_after (Before side none least full) = Before side none least full

      pub others : IsApart s (peer s) (Duty.Ask (AskDuty.Window s))
      others = record {
        window = λ e. peer_is_other s (same_window e);
        update = differ refl;
        emit = differ refl;
        finish = differ refl;
        wait = differ refl;
        syn_ack = differ refl;
        acknowledge = differ refl;
        ask = differ refl;
      }

      nothing : {received came next : ℕ} (total : ℕ) → next ≡ received + min came ((received + 1) - total) → received ≡ 0 → came ≡ 0 → next ≡ 0
      nothing total is none none_came = omega (arith, is, none, none_came)

      whole : {capacity buffer came read now lane_read : ℕ} → capacity ≡ buffer → now ≡ came → now ≡ 0 → lane_read ≡ read → lane_read ≤ now
          → read + capacity - came ≡ buffer
      whole fits is none same low = omega (arith, fits, is, none, same, low)

      pub begun_after : (1 ≤ h.out.control_sent) ⊎ HasNotBegun s j h.out.sender h.back.receiver m.end (Duty.Ask (AskDuty.Window s) ∷ ds)
          → (1 ≤ h.out.control_sent) ⊎ HasNotBegun s j h.out.sender back_after.receiver end_after ds
      begun_after (inl sent) = inl sent
      begun_after (inr none) = inr (record {
        ready = none.ready;
        received = none.received;
        data_fin = none.data_fin;
        keys = none.keys;
        told = none.told;
        next = nothing j.total asks.next none.received none.data_fin;
        window = inl (whole h.apps_back.receives.capacity h.apps_back.receives.received none.received h.apps_back.receives.read back_now.numbers.read);
        syn = λ is. ((none.syn is).0, behind ds (differ refl) (none.syn is).1);
      })

      pub own_after : EndIs s keys k j h.out.sender back_after.receiver h.hand h.owes h.waiting end_after
      own_after = record {
        subflow = record {
          phase = h.own.subflow.phase;
          opens = h.own.subflow.opens;
          records = h.own.subflow.records;
          ahead = h.own.subflow.ahead;
          congestion = h.own.subflow.congestion;
          come = record { edge = h.own.subflow.come.edge; window = h.own.subflow.come.window };
          heard = h.own.subflow.heard;
          quiet = h.own.subflow.quiet;
          begun = h.own.subflow.begun;
          keyed = h.own.subflow.keyed;
          long = h.own.subflow.long;
          due = h.own.subflow.due;
        };
        sending = record {
          heard = h.own.sending.heard;
          known = h.own.sending.known;
          data_fin = h.own.sending.data_fin;
          acked = h.own.sending.acked;
          came = h.own.sending.came;
          shut = h.own.sending.shut;
          granted = h.own.sending.granted;
          spans = h.own.sending.spans;
          bytes = h.own.sending.bytes;
          end = h.own.sending.end;
          acked_end = h.own.sending.acked_end;
          finish = h.own.sending.finish;
        };
        receiving = record {
          next = asks.next;
          limit = refl;
          told = told_after h.own.receiving.told;
          least = h.own.receiving.least;
          unmapped = h.own.receiving.unmapped;
          fin_told = h.own.receiving.fin_told;
          said = h.own.receiving.said;
          unended = h.own.receiving.unended;
          unheard = h.own.receiving.unheard;
        };
        modes = record {
          mode = h.own.modes.mode;
          standby = h.own.modes.standby;
          mapping = h.own.modes.mapping;
          owes_third = h.own.modes.owes_third;
          owes_mapping = h.own.modes.owes_mapping;
          mapped_to = h.own.modes.mapped_to;
          plain_acks = h.own.modes.plain_acks;
          own_key = h.own.modes.own_key;
          peer_key = h.own.modes.peer_key;
          clear = h.own.modes.clear;
          capable = h.own.modes.capable;
          ready = h.own.modes.ready;
          cleared = h.own.modes.cleared;
          both = h.own.modes.both;
          shown = h.own.modes.shown;
        };
        timer = h.own.timer;
        notices = h.own.notices;
      }

      abbrev pub window_asked : Facing s keys k j c begun begun_back (record m { end = end_after }) n clock until ds
      window_asked = record {
        out = h.out;
        back = back_after;
        stage = h.stage;
        stage_back = record h.stage_back { ask = false; window = false };
        going = h.going;
        going_back = stands_then h.going_back (record h.stage_back { ask = false; window = false }) back_after (lane_asks limit asks.edge);
        now = h.now;
        now_back = h.now_back;
        hand = h.hand;
        hand_back = h.hand_back;
        owes = h.owes;
        owes_back = h.owes_back;
        waiting = h.waiting;
        waiting_back = h.waiting_back;
        own = own_after;
        other = h.other;
        way = h.way;
        way_back = record {
          sent = h.way_back.sent;
          flights = h.way_back.flights;
          datas_are = h.way_back.datas_are;
          acks_are = h.way_back.acks_are;
          follow = h.way_back.follow;
          low = h.way_back.low;
          control = h.way_back.control;
          keys_shown = h.way_back.keys_shown;
          rise = h.way_back.rise;
          passed = h.way_back.passed;
        };
        apps = h.apps;
        apps_back = record {
          writes = record { numbers = h.apps_back.writes.numbers; over = h.apps_back.writes.over };
          reads = record { numbers = h.apps_back.reads.numbers; received = h.apps_back.reads.received; over = h.apps_back.reads.over };
          receives = record {
            read = h.apps_back.receives.read;
            received = h.apps_back.receives.received;
            known = h.apps_back.receives.known;
            capacity = h.apps_back.receives.capacity;
          };
          book = record {
            edge = h.apps_back.book.edge;
            owner = h.apps_back.book.owner;
            marks = h.apps_back.book.marks;
            taken = h.apps_back.book.taken;
          };
          room = h.apps_back.room;
          whole = h.apps_back.whole;
          fin = h.apps_back.fin;
        };
        stages = stage_drops s (peer s) (Duty.Ask (AskDuty.Window s)) ds n.end.treated.asked h.owes_back h.stage others h.stages;
        stages_back = window_drops (peer s) s (Duty.Ask (AskDuty.Window s)) ds m.end.treated.asked h.owes h.stage_back refl h.stages_back;
        control = h.control;
        control_back = h.control_back;
        turn = h.turn;
        turn_back = h.turn_back;
        settles = settles_drop s (Duty.Ask (AskDuty.Window s)) ds m.end (differ refl) h.settles;
        settles_back = settles_drop (peer s) (Duty.Ask (AskDuty.Window s)) ds n.end (differ refl) h.settles_back;
        begins = begun_after h.begins;
        begins_back = begun_drops (peer s) k h.back.sender h.out.receiver n.end (Duty.Ask (AskDuty.Window s)) ds (λ e. peer_is_other s (same_window e)) (λ is. differ refl) h.begins_back;
        owed = h.owed;
        owed_back = h.owed_back;
      }
