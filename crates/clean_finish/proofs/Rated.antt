-- The congestion window grows by what the control book answers of all paths.
use Rattle.clean_finish.proofs.Words.{◌≡◌, refl, sym, subst, ap, ◌∙◌, ℕ, ◌+◌, ◌≤◌, false, inl, Option, None, List, ◌∷◌, arith, Some, IfSome, Side, peer}
use Rattle.clean_finish.proofs.Words.{Control, after_rate, RegistryPath, with_row, Congestion, grown_by, after_growth, Told, Grows, same_grows, ack_grows, Duty}
use Rattle.clean_finish.proofs.Words.{AskDuty, Profile, PathEnd, Setting, Lane, EndIs, last_told, row_seen, ControlIs, Keys, dss_from, Facing, Half}
use Rattle.linked_increase.specs.Paths.{row_of}
use Rattle.loss_recovery.specs.declared.windows.Pending.{Pending}
use Rattle.clean_finish.proofs.Passing.{free_drops}

pub rated_on : (s : Side) (keys : Keys) (path window rtt : ℕ) (c : Control) → path ≡ 0 → ControlIs s keys c → ControlIs s keys (after_rate path window rtt c)
rated_on s keys path window rtt c first is = record {
  mode = is.mode;
  joined = is.joined;
  own_key = is.own_key;
  first = record is.first { row = Some (row_of path window rtt) };
  alone = ap (λ (n : ℕ). with_row n (row_of path window rtt) c.paths) first
      ∙ ap (λ (ps : List RegistryPath). with_row 0 (row_of path window rtt) ps) is.alone;
  carrier = is.carrier;
  stays = is.stays;
  announces = is.announces;
  withdraws = is.withdraws;
}

-- a growth leaves the row and what was told
pub record IsGrown (before after : Congestion) : Type 0 where
  pub grows : Grows before.reno after.reno
  pub duplicates : after.duplicates ≡ before.duplicates
  pub told : after.told ≡ before.told

pub is_grown : (growth : ℕ) (p : Option Pending) (c : Congestion) → c.reno.window ≤ 1048576 → c.reno.in_fast_recovery ≡ false → IsGrown c (grown_by growth p c)
is_grown growth None c within calm = record { grows = same_grows c.reno within calm; duplicates = refl; told = refl }
is_grown growth (Some p) c within calm = record { grows = ack_grows p.acked growth c.reno within calm; duplicates = refl; told = refl }

module _ {s : Side} {keys : Keys} {k j : Setting} {c : Profile} {begun begun_back : Lane} {m n : Half} {clock until : ℕ} {ds : List Duty}
    (g : Facing s keys k j c begun begun_back m n clock until (Duty.Ask (AskDuty.Rate s) ∷ ds)) (growth : ℕ)
  where
    abbrev pub h : Facing s keys k j c begun begun_back m n clock until ds
    h = free_drops (Duty.Ask (AskDuty.Rate s)) ds refl g

    abbrev pub end_after : PathEnd
    end_after = record m.end { tcp = record m.end.tcp { congestion = after_growth growth m.end.tcp.congestion } }

    module _ (nothing_waits : g.waiting ≡ 0) (some_sent : 1 ≤ g.out.control_sent) (path window rtt : ℕ) (first : path ≡ 0) where
      pub up : {x y z : ℕ} → x ≤ y → y ≤ z → x ≤ z
      up p q = omega (arith, p, q)

      pub none_waits : {x : ℕ} {y : ℕ} → x ≡ 0 → x ≤ y
      none_waits is = omega (arith, is)

      pub grows : IsGrown m.end.tcp.congestion end_after.tcp.congestion
      grows = is_grown growth m.end.tcp.congestion.pending m.end.tcp.congestion h.own.subflow.congestion.most h.own.subflow.congestion.steady

      pub own_rated : EndIs s keys k j h.out.sender h.back.receiver h.hand h.owes h.waiting end_after
      own_rated = record {
        subflow = record {
          phase = h.own.subflow.phase;
          opens = h.own.subflow.opens;
          records = record {
            sent = h.own.subflow.records.sent;
            rest = h.own.subflow.records.rest;
            all = h.own.subflow.records.all;
            gone = h.own.subflow.records.gone;
            waits = h.own.subflow.records.waits;
            pieces = h.own.subflow.records.pieces;
            tile = h.own.subflow.records.tile;
            next = h.own.subflow.records.next;
            finished = h.own.subflow.records.finished;
            control = h.own.subflow.records.control;
            fits = none_waits nothing_waits;
          };
          ahead = record {
            bytes = h.own.subflow.ahead.bytes;
            opened = h.own.subflow.ahead.opened;
            finished = h.own.subflow.ahead.finished;
            seen = h.own.subflow.ahead.seen;
          };
          congestion = record {
            window = up h.own.subflow.congestion.window grows.grows.window;
            most = grows.grows.cap;
            steady = grows.grows.calm;
            row = subst (λ (x : ℕ). x ≤ row_seen h.out.sender h.hand) (sym grows.duplicates) h.own.subflow.congestion.row;
          };
          come = record { edge = h.own.subflow.come.edge; window = h.own.subflow.come.window };
          heard = record {
            told = subst (λ (t : Told). IfSome t.place
                (λ n. ((last_told h.out.heard h.hand).next ≡ n) × ((last_told h.out.heard h.hand).edge ≡ n + t.window) × (1 ≤ (last_told h.out.heard h.hand).seen)
                × ((last_told h.out.heard h.hand).dss ≡ dss_from (peer s)))) (sym grows.told) h.own.subflow.heard.told;
            most = h.own.subflow.heard.most;
            end = h.own.subflow.heard.end;
            few = h.own.subflow.heard.few;
            some = h.own.subflow.heard.some;
          };
          quiet = h.own.subflow.quiet;
          begun = h.own.subflow.begun;
          keyed = h.own.subflow.keyed;
          long = h.own.subflow.long;
          due = h.own.subflow.due;
        };
        sending = record {
          heard = h.own.sending.heard;
          known = h.own.sending.known;
          data_fin = h.own.sending.data_fin;
          acked = h.own.sending.acked;
          came = h.own.sending.came;
          shut = h.own.sending.shut;
          granted = h.own.sending.granted;
          spans = h.own.sending.spans;
          bytes = h.own.sending.bytes;
          end = h.own.sending.end;
          acked_end = h.own.sending.acked_end;
          finish = h.own.sending.finish;
        };
        receiving = record {
          next = h.own.receiving.next;
          limit = h.own.receiving.limit;
          told = h.own.receiving.told;
          least = h.own.receiving.least;
          unmapped = h.own.receiving.unmapped;
          fin_told = h.own.receiving.fin_told;
          said = h.own.receiving.said;
          unended = h.own.receiving.unended;
          unheard = h.own.receiving.unheard;
        };
        modes = record {
          mode = h.own.modes.mode;
          standby = h.own.modes.standby;
          mapping = h.own.modes.mapping;
          owes_third = h.own.modes.owes_third;
          owes_mapping = h.own.modes.owes_mapping;
          mapped_to = h.own.modes.mapped_to;
          plain_acks = h.own.modes.plain_acks;
          own_key = h.own.modes.own_key;
          peer_key = h.own.modes.peer_key;
          clear = h.own.modes.clear;
          capable = h.own.modes.capable;
          ready = h.own.modes.ready;
          cleared = h.own.modes.cleared;
          both = h.own.modes.both;
          shown = h.own.modes.shown;
        };
        timer = h.own.timer;
        notices = h.own.notices;
      }

      abbrev pub rated : Facing s keys k j c begun begun_back (record m { end = end_after; control = after_rate path window rtt m.control }) n clock until ds
      rated = record {
        out = h.out;
        back = h.back;
        stage = h.stage;
        stage_back = h.stage_back;
        going = h.going;
        going_back = h.going_back;
        now = h.now;
        now_back = h.now_back;
        hand = h.hand;
        hand_back = h.hand_back;
        owes = h.owes;
        owes_back = h.owes_back;
        waiting = h.waiting;
        waiting_back = h.waiting_back;
        own = own_rated;
        other = h.other;
        way = h.way;
        way_back = h.way_back;
        apps = h.apps;
        apps_back = h.apps_back;
        stages = h.stages;
        stages_back = h.stages_back;
        control = rated_on s keys path window rtt m.control first g.control;
        control_back = h.control_back;
        turn = h.turn;
        turn_back = h.turn_back;
        settles = h.settles;
        settles_back = h.settles_back;
        begins = inl some_sent;
        begins_back = h.begins_back;
        owed = h.owed;
        owed_back = h.owed_back;
      }
