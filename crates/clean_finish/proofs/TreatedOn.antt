-- A duty of a copy that its lanes don't see: the payload is kept, a mapping is learned, the control book is told.
use Rattle.clean_finish.proofs.Words.{◌≡◌, refl, sym, subst, ◌∙◌, ℕ, ◌≤◌, Bool, false, inl, Option, List, ◌∷◌, Side, peer, Control, Mappings, SubflowReceiving}
use Rattle.clean_finish.proofs.Words.{MappedDataFin, Duty, Profile, PathEnd, Modes, Treated, Setting, Lane, EndIs, ControlIs, ModesAre, Keys, edge_after}
use Rattle.clean_finish.proofs.Words.{Facing, Half, StageIs}
use Rattle.clean_finish.proofs.Dropping.{is_waited, apart, is_apart, stage_drops, settles_drop, begun_drops}

module _ {s : Side} {keys : Keys} {k j : Setting} {c : Profile} {begun begun_back : Lane} {m n : Half} {clock until : ℕ} {d : Duty} {ds : List Duty}
    (h : Facing s keys k j c begun begun_back m n clock until (d ∷ ds)) (free : is_waited d ≡ false) (some_sent : 1 ≤ h.out.control_sent)
    (r : SubflowReceiving) (v : Mappings) (fin : Option MappedDataFin) (mo : Modes) (tr : Treated) (book : Control)
    (same_edge : r.edge ≡ m.end.tcp.recv.edge) (same_window : r.window ≡ m.end.tcp.recv.window) (same_asked : tr.asked ≡ m.end.treated.asked)
    (modes : ModesAre s keys h.out.sender h.back.receiver mo) (control : ControlIs s keys book)
  where
    abbrev pub end_on : PathEnd
    end_on = record m.end {
      tcp = record m.end.tcp { recv = r };
      receiving = record m.end.receiving { mappings = v; mapped_data_fin = fin };
      modes = mo;
      treated = tr;
    }

    pub own_on : EndIs s keys k j h.out.sender h.back.receiver h.hand h.owes h.waiting end_on
    own_on = record {
      subflow = record {
        phase = h.own.subflow.phase;
        opens = h.own.subflow.opens;
        records = record {
          sent = h.own.subflow.records.sent;
          rest = h.own.subflow.records.rest;
          all = h.own.subflow.records.all;
          gone = h.own.subflow.records.gone;
          waits = h.own.subflow.records.waits;
          pieces = h.own.subflow.records.pieces;
          tile = h.own.subflow.records.tile;
          next = h.own.subflow.records.next;
          finished = h.own.subflow.records.finished;
          control = h.own.subflow.records.control;
          fits = h.own.subflow.records.fits;
        };
        ahead = record {
          bytes = h.own.subflow.ahead.bytes;
          opened = h.own.subflow.ahead.opened;
          finished = h.own.subflow.ahead.finished;
          seen = h.own.subflow.ahead.seen;
        };
        congestion = record {
          window = h.own.subflow.congestion.window;
          most = h.own.subflow.congestion.most;
          steady = h.own.subflow.congestion.steady;
          row = h.own.subflow.congestion.row;
        };
        come = record { edge = same_edge ∙ h.own.subflow.come.edge; window = same_window ∙ h.own.subflow.come.window };
        heard = record {
          told = h.own.subflow.heard.told;
          most = h.own.subflow.heard.most;
          end = h.own.subflow.heard.end;
          few = h.own.subflow.heard.few;
          some = h.own.subflow.heard.some;
        };
        quiet = h.own.subflow.quiet;
        begun = h.own.subflow.begun;
        keyed = h.own.subflow.keyed;
        long = h.own.subflow.long;
        due = h.own.subflow.due;
      };
      sending = record {
        heard = h.own.sending.heard;
        known = h.own.sending.known;
        data_fin = h.own.sending.data_fin;
        acked = h.own.sending.acked;
        came = h.own.sending.came;
        shut = h.own.sending.shut;
        granted = h.own.sending.granted;
        spans = h.own.sending.spans;
        bytes = h.own.sending.bytes;
        end = h.own.sending.end;
        acked_end = h.own.sending.acked_end;
        finish = h.own.sending.finish;
      };
      receiving = record {
        next = h.own.receiving.next;
        limit = h.own.receiving.limit;
        told = h.own.receiving.told;
        least = h.own.receiving.least;
        unmapped = h.own.receiving.unmapped;
        fin_told = h.own.receiving.fin_told;
        said = h.own.receiving.said;
        unended = h.own.receiving.unended;
        unheard = h.own.receiving.unheard;
      };
      modes = modes;
      timer = h.own.timer;
      notices = h.own.notices;
    }

    abbrev pub treated_on : Facing s keys k j c begun begun_back (record m { end = end_on; control = book }) n clock until ds
    treated_on = record {
      out = h.out;
      back = h.back;
      stage = h.stage;
      stage_back = h.stage_back;
      going = h.going;
      going_back = h.going_back;
      now = h.now;
      now_back = h.now_back;
      hand = h.hand;
      hand_back = h.hand_back;
      owes = h.owes;
      owes_back = h.owes_back;
      waiting = h.waiting;
      waiting_back = h.waiting_back;
      own = own_on;
      other = h.other;
      way = record {
        sent = h.way.sent;
        flights = h.way.flights;
        datas_are = h.way.datas_are;
        acks_are = h.way.acks_are;
        follow = h.way.follow;
        low = h.way.low;
        control = h.way.control;
        keys_shown = h.way.keys_shown;
        rise = h.way.rise;
        passed = subst (λ (e : ℕ). edge_after n.end.tcp.send.una h.way.sent ≤ e) (sym same_edge) h.way.passed;
      };
      way_back = h.way_back;
      apps = h.apps;
      apps_back = h.apps_back;
      stages = stage_drops s (peer s) d ds n.end.treated.asked h.owes_back h.stage (is_apart s (peer s) d free) h.stages;
      stages_back = subst (λ (b : Bool). StageIs (peer s) s ds b h.owes h.stage_back) (sym same_asked) (stage_drops (peer s) s d ds m.end.treated.asked h.owes h.stage_back (is_apart (peer s) s d free) h.stages_back);
      control = control;
      control_back = h.control_back;
      turn = h.turn;
      turn_back = h.turn_back;
      settles = settles_drop s d ds end_on (apart refl free) h.settles;
      settles_back = settles_drop (peer s) d ds n.end (apart refl free) h.settles_back;
      begins = inl some_sent;
      begins_back = begun_drops (peer s) k h.back.sender h.out.receiver n.end d ds (apart refl free) (λ is. apart refl free) h.begins_back;
      owed = h.owed;
      owed_back = h.owed_back;
    }
