-- A copy that needs no acknowledgement is done with.
use Rattle.clean_finish.proofs.Words.{◌≡◌, refl, subst, ap, ℕ, ◌≤◌, Bool, false, inl, inr, ⊎_elim, Option, None, List, ◌∷◌, both_ways, Side, peer, Duty}
use Rattle.clean_finish.proofs.Words.{SendDuty, Profile, Setting, Lane, Stage, Hand, EndIs, HeardIs, WayIs, last_told, row_seen, brings_still, Sent, Keys}
use Rattle.clean_finish.proofs.Words.{Facing, Half, StageIs}
use Rattle.clean_finish.proofs.AckSent.{same_acknowledge}
use Rattle.clean_finish.proofs.Dropping.{differ, behind, behind_or, stage_drops, settles_drop, begun_drops}
use Rattle.clean_finish.proofs.Hands.{in_hand, way_done}
use Rattle.clean_finish.proofs.Passing.{peer_is_other}

-- nothing is owed
pub unowed_drops : (s r : Side) (ds : List Duty) (asked owes : Bool) (p : Stage) → owes ≡ false
    → StageIs s r (Duty.Send (SendDuty.Acknowledge r) ∷ ds) asked owes p → StageIs s r ds asked owes p
unowed_drops s r ds asked owes p none is = record {
  window = behind_or ds (differ refl) is.window;
  update = behind_or ds (differ refl) is.update;
  emit = behind_or ds (differ refl) is.emit;
  finish = behind_or ds (differ refl) is.finish;
  wait = behind_or ds (differ refl) is.wait;
  tell = ⊎_elim (λ e. inl e) (λ a. ⊎_elim (λ i. inr (inl (behind ds (differ refl) i))) (λ i. absurd (both_ways owes none i.1)) a) is.tell;
  ask = ⊎_elim (λ e. inl e) (λ a. inr (⊎_elim (λ i. inl (behind ds (differ refl) i)) (λ i. inr (behind ds (differ refl) i.0, i.1)) a)) is.ask;
}

module _ {s : Side} {keys : Keys} {k j : Setting} {c : Profile} {begun begun_back : Lane} {m n : Half} {clock until : ℕ} {ds : List Duty}
    (h : Facing s keys k j c begun begun_back m n clock until (Duty.Send (SendDuty.Acknowledge s) ∷ ds)) (x : Sent)
    (hand : h.hand ≡ in_hand x false false) (unowed : h.owes ≡ false)
  where
    pub own_done : EndIs s keys k j h.out.sender h.back.receiver None h.owes h.waiting m.end
    own_done = record {
      subflow = record {
        phase = h.own.subflow.phase;
        opens = h.own.subflow.opens;
        records = record {
          sent = h.own.subflow.records.sent;
          rest = h.own.subflow.records.rest;
          all = h.own.subflow.records.all;
          gone = h.own.subflow.records.gone;
          waits = h.own.subflow.records.waits;
          pieces = h.own.subflow.records.pieces;
          tile = h.own.subflow.records.tile;
          next = h.own.subflow.records.next;
          finished = h.own.subflow.records.finished;
          control = h.own.subflow.records.control;
          fits = h.own.subflow.records.fits;
        };
        ahead = record {
          bytes = h.own.subflow.ahead.bytes;
          opened = h.own.subflow.ahead.opened;
          finished = h.own.subflow.ahead.finished;
          seen = h.own.subflow.ahead.seen;
        };
        congestion = record {
          window = h.own.subflow.congestion.window;
          most = h.own.subflow.congestion.most;
          steady = h.own.subflow.congestion.steady;
          row = subst (λ (o : Option Hand). m.end.tcp.congestion.duplicates ≤ row_seen h.out.sender o) hand h.own.subflow.congestion.row;
        };
        come = record { edge = h.own.subflow.come.edge; window = h.own.subflow.come.window };
        heard = subst (λ (o : Option Hand). HeardIs s k.total (last_told h.out.heard o) m.end.tcp) hand h.own.subflow.heard;
        quiet = h.own.subflow.quiet;
        begun = h.own.subflow.begun;
        keyed = λ is one b. h.own.subflow.keyed is one (ap brings_still hand);
        long = h.own.subflow.long;
        due = h.own.subflow.due;
      };
      sending = record {
        heard = h.own.sending.heard;
        known = h.own.sending.known;
        data_fin = h.own.sending.data_fin;
        acked = h.own.sending.acked;
        came = h.own.sending.came;
        shut = h.own.sending.shut;
        granted = h.own.sending.granted;
        spans = h.own.sending.spans;
        bytes = h.own.sending.bytes;
        end = h.own.sending.end;
        acked_end = h.own.sending.acked_end;
        finish = h.own.sending.finish;
      };
      receiving = record {
        next = h.own.receiving.next;
        limit = h.own.receiving.limit;
        told = h.own.receiving.told;
        least = h.own.receiving.least;
        unmapped = h.own.receiving.unmapped;
        fin_told = h.own.receiving.fin_told;
        said = h.own.receiving.said;
        unended = h.own.receiving.unended;
        unheard = h.own.receiving.unheard;
      };
      modes = record {
        mode = h.own.modes.mode;
        standby = h.own.modes.standby;
        mapping = h.own.modes.mapping;
        owes_third = h.own.modes.owes_third;
        owes_mapping = h.own.modes.owes_mapping;
        mapped_to = h.own.modes.mapped_to;
        plain_acks = h.own.modes.plain_acks;
        own_key = h.own.modes.own_key;
        peer_key = h.own.modes.peer_key;
        clear = h.own.modes.clear;
        capable = h.own.modes.capable;
        ready = h.own.modes.ready;
        cleared = h.own.modes.cleared;
        both = h.own.modes.both;
        shown = h.own.modes.shown;
      };
      timer = h.own.timer;
      notices = h.own.notices;
    }

    abbrev pub copy_done : Facing s keys k j c begun begun_back m n clock until ds
    copy_done = record {
      out = h.out;
      back = h.back;
      stage = h.stage;
      stage_back = h.stage_back;
      going = h.going;
      going_back = h.going_back;
      now = h.now;
      now_back = h.now_back;
      hand = None;
      hand_back = h.hand_back;
      owes = h.owes;
      owes_back = h.owes_back;
      waiting = h.waiting;
      waiting_back = h.waiting_back;
      own = own_done;
      other = h.other;
      way = h.way;
      way_back = way_done c keys k j (peer s) h.back.sender h.back.receiver h.back.datas h.out.acks m.end.tcp.send.una n.end.tcp.recv.edge n.flying x
          (subst (λ (o : Option Hand). WayIs c keys k j (peer s) h.back.sender h.back.receiver h.back.datas h.out.acks o m.end.tcp.send.una
          n.end.tcp.recv.edge n.flying) hand h.way_back);
      apps = h.apps;
      apps_back = h.apps_back;
      stages = stage_drops s (peer s) (Duty.Send (SendDuty.Acknowledge s)) ds n.end.treated.asked h.owes_back h.stage (record { window = differ refl; update = differ refl; emit = differ refl; finish = differ refl; wait = differ refl; syn_ack = differ refl; acknowledge = λ e. peer_is_other s (same_acknowledge e); ask = differ refl }) h.stages;
      stages_back = unowed_drops (peer s) s ds m.end.treated.asked h.owes h.stage_back unowed h.stages_back;
      control = h.control;
      control_back = h.control_back;
      turn = h.turn;
      turn_back = h.turn_back;
      settles = settles_drop s (Duty.Send (SendDuty.Acknowledge s)) ds m.end (differ refl) h.settles;
      settles_back = settles_drop (peer s) (Duty.Send (SendDuty.Acknowledge s)) ds n.end (differ refl) h.settles_back;
      begins = begun_drops s j h.out.sender h.back.receiver m.end (Duty.Send (SendDuty.Acknowledge s)) ds (differ refl) (λ is. differ refl) h.begins;
      begins_back = begun_drops (peer s) k h.back.sender h.out.receiver n.end (Duty.Send (SendDuty.Acknowledge s)) ds (differ refl) (λ is. differ refl) h.begins_back;
      owed = λ e b. absurd (both_ways h.owes unowed e);
      owed_back = h.owed_back;
    }
