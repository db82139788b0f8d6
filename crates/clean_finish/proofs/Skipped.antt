-- A copy that only acknowledges brings its lane nothing.
use Rattle.clean_finish.proofs.Words.{◌≡◌, refl, sym, subst, ap, ◌∙◌, ℕ, ◌+◌, ◌≤◌, Bool, true, false, inl, Option, List, ◌∷◌, ◌++◌, length, map, arith}
use Rattle.clean_finish.proofs.Words.{both_ways, Side, B, peer, Duty, StepDuty, Profile, Setting, Copy, Lane, MaySkip, skips, goes_back, lane_skipped, Hand}
use Rattle.clean_finish.proofs.Words.{EndIs, HeardIs, last_told, row_seen, brings_in, tells_in, Sent, Keys, Brings, copy_in, octets_of, CountsAs, Follow}
use Rattle.clean_finish.proofs.Words.{data_fin_of, low_after, control_after, keys_after, Acknowledges, Facing, Half, Has}
use Rattle.clean_finish.specs.Segments.{is_opening}
use Rattle.clean_finish.proofs.Hands.{in_hand}
use Rattle.clean_finish.proofs.Opened.{waiting_on, before_waiting, stage_waits}
use Rattle.clean_finish.proofs.Passing.{stands_then}

module _ {s : Side} {keys : Keys} {k j : Setting} {c : Profile} {begun begun_back : Lane} {m n : Half} {clock until : ℕ} {ds : List Duty}
    (h : Facing s keys k j c begun begun_back m n clock until ds) (events : Has (Duty.Step StepDuty.Events) ds) (some_sent : 1 ≤ h.out.control_sent)
    (x : Sent) (tells : Bool) (hand : h.hand ≡ in_hand x true tells) (brings : x.brings ≡ Acknowledges) (unowed : h.owes ≡ false)
  where
    abbrev pub rest : List Copy
    rest = map copy_in h.way_back.sent

    abbrev pub back_after : Lane
    back_after = lane_skipped rest h.back

    pub follow : Follow k.least k.total j.total (peer s) h.back.received h.back.control_came h.back.keys_came (x ∷ h.way_back.sent)
    follow = subst (λ (o : Option Hand). Follow k.least k.total j.total (peer s) h.back.received h.back.control_came h.back.keys_came (brings_in o ++ h.way_back.sent))
        hand h.way_back.follow

    pub counts : (1 ≤ h.back.control_came) × (x.control ≡ h.back.control_came) × (x.keys ≡ h.back.keys_came)
    counts = subst (λ (b : Brings). CountsAs h.back.control_came h.back.keys_came x.control x.keys b) brings follow.1

    pub none : length (octets_of x.brings) ≡ 0
    none = ap (λ (b : Brings). length (octets_of b)) brings

    pub plus : {b : ℕ} (a : ℕ) → b ≡ 0 → a ≡ a + b
    plus a is = omega (arith, is)

    pub low : {b a : ℕ} → b ≡ a → b ≤ a
    low is = omega (arith, is)

    pub may_skip : MaySkip (waiting_on h.stage_back) (copy_in x) rest h.back
    may_skip = record {
      first = h.way_back.datas_are ∙ ap (λ (o : Option Hand). map copy_in (brings_in o ++ h.way_back.sent)) hand;
      turn = refl;
      bytes = low (sym (plus x.low none));
      data_fin = low (ap data_fin_of brings);
      control = low counts.1;
      keys = low counts.2;
    }

    pub follow_on : Follow k.least k.total j.total (peer s) h.back.received h.back.control_came h.back.keys_came h.way_back.sent
    follow_on = subst (λ (a : ℕ). Follow k.least k.total j.total (peer s) a h.back.control_came h.back.keys_came h.way_back.sent) (sym (plus h.back.received none))
        (subst (λ (a : ℕ). Follow k.least k.total j.total (peer s) (h.back.received + length (octets_of x.brings)) a h.back.keys_came h.way_back.sent) counts.1
        (subst (λ (a : ℕ). Follow k.least k.total j.total (peer s) (h.back.received + length (octets_of x.brings)) x.control a h.way_back.sent) counts.2 follow.4))

    pub shows : s ≡ B → 1 ≤ h.back.keys_came
    shows is = subst (λ (a : ℕ). 1 ≤ a) counts.2 (follow.3.1 (ap peer is) (ap is_opening brings))

    pub own_skipped : EndIs s keys k j h.out.sender h.back.receiver (in_hand x false tells) h.owes h.waiting m.end
    own_skipped = record {
      subflow = record {
        phase = h.own.subflow.phase;
        opens = h.own.subflow.opens;
        records = record {
          sent = h.own.subflow.records.sent;
          rest = h.own.subflow.records.rest;
          all = h.own.subflow.records.all;
          gone = h.own.subflow.records.gone;
          waits = h.own.subflow.records.waits;
          pieces = h.own.subflow.records.pieces;
          tile = h.own.subflow.records.tile;
          next = h.own.subflow.records.next;
          finished = h.own.subflow.records.finished;
          control = h.own.subflow.records.control;
          fits = h.own.subflow.records.fits;
        };
        ahead = record {
          bytes = h.own.subflow.ahead.bytes;
          opened = h.own.subflow.ahead.opened;
          finished = h.own.subflow.ahead.finished;
          seen = h.own.subflow.ahead.seen;
        };
        congestion = record {
          window = h.own.subflow.congestion.window;
          most = h.own.subflow.congestion.most;
          steady = h.own.subflow.congestion.steady;
          row = subst (λ (o : Option Hand). m.end.tcp.congestion.duplicates ≤ row_seen h.out.sender o) hand h.own.subflow.congestion.row;
        };
        come = record { edge = h.own.subflow.come.edge; window = h.own.subflow.come.window };
        heard = subst (λ (o : Option Hand). HeardIs s k.total (last_told h.out.heard o) m.end.tcp) hand h.own.subflow.heard;
        quiet = h.own.subflow.quiet;
        begun = h.own.subflow.begun;
        keyed = λ is some b. shows is;
        long = h.own.subflow.long;
        due = h.own.subflow.due;
      };
      sending = record {
        heard = h.own.sending.heard;
        known = h.own.sending.known;
        data_fin = h.own.sending.data_fin;
        acked = h.own.sending.acked;
        came = h.own.sending.came;
        shut = h.own.sending.shut;
        granted = h.own.sending.granted;
        spans = h.own.sending.spans;
        bytes = h.own.sending.bytes;
        end = h.own.sending.end;
        acked_end = h.own.sending.acked_end;
        finish = h.own.sending.finish;
      };
      receiving = record {
        next = h.own.receiving.next;
        limit = h.own.receiving.limit;
        told = h.own.receiving.told;
        least = h.own.receiving.least;
        unmapped = h.own.receiving.unmapped;
        fin_told = h.own.receiving.fin_told;
        said = h.own.receiving.said;
        unended = h.own.receiving.unended;
        unheard = h.own.receiving.unheard;
      };
      modes = record {
        mode = h.own.modes.mode;
        standby = h.own.modes.standby;
        mapping = h.own.modes.mapping;
        owes_third = h.own.modes.owes_third;
        owes_mapping = h.own.modes.owes_mapping;
        mapped_to = h.own.modes.mapped_to;
        plain_acks = h.own.modes.plain_acks;
        own_key = h.own.modes.own_key;
        peer_key = h.own.modes.peer_key;
        clear = h.own.modes.clear;
        capable = h.own.modes.capable;
        ready = h.own.modes.ready;
        cleared = h.own.modes.cleared;
        both = h.own.modes.both;
        shown = h.own.modes.shown;
      };
      timer = h.own.timer;
      notices = h.own.notices;
    }

    abbrev pub skipped : Facing s keys k j c begun begun_back m n clock until ds
    skipped = record {
      out = h.out;
      back = back_after;
      stage = h.stage;
      stage_back = waiting_on h.stage_back;
      going = h.going;
      going_back = stands_then (stands_then h.going_back (waiting_on h.stage_back) h.back (goes_back (waiting_on h.stage_back) (before_waiting h.stage_back)))
          (waiting_on h.stage_back) back_after (skips (copy_in x) rest may_skip);
      now = h.now;
      now_back = h.now_back;
      hand = in_hand x false tells;
      hand_back = h.hand_back;
      owes = h.owes;
      owes_back = h.owes_back;
      waiting = h.waiting;
      waiting_back = h.waiting_back;
      own = own_skipped;
      other = h.other;
      way = record {
        sent = h.way.sent;
        flights = h.way.flights;
        datas_are = h.way.datas_are;
        acks_are = h.way.acks_are;
        follow = h.way.follow;
        low = h.way.low;
        control = h.way.control;
        keys_shown = h.way.keys_shown;
        rise = h.way.rise;
        passed = h.way.passed;
      };
      way_back = record {
        sent = h.way_back.sent;
        flights = h.way_back.flights;
        datas_are = refl;
        acks_are = h.way_back.acks_are ∙ ap (λ (o : Option Hand). map copy_in (tells_in o ++ h.way_back.sent)) hand;
        follow = follow_on;
        low = ap (λ (n : ℕ). low_after n h.way_back.sent) (plus h.back.received none) ∙ (ap (λ (o : Option Hand). low_after h.back.received (brings_in o ++ h.way_back.sent)) (sym hand) ∙ h.way_back.low);
        control = ap (λ (n : ℕ). control_after n h.way_back.sent) (sym counts.1) ∙ (ap (λ (o : Option Hand). control_after h.back.control_came (brings_in o ++ h.way_back.sent)) (sym hand) ∙ h.way_back.control);
        keys_shown = ap (λ (n : ℕ). keys_after n h.way_back.sent) (sym counts.2) ∙ (ap (λ (o : Option Hand). keys_after h.back.keys_came (brings_in o ++ h.way_back.sent)) (sym hand) ∙ h.way_back.keys_shown);
        rise = h.way_back.rise;
        passed = h.way_back.passed;
      };
      apps = record {
        writes = record { numbers = h.apps.writes.numbers; over = h.apps.writes.over };
        reads = record { numbers = h.apps.reads.numbers; received = h.apps.reads.received; over = h.apps.reads.over };
        receives = record {
          read = h.apps.receives.read;
          received = h.apps.receives.received;
          known = h.apps.receives.known;
          capacity = h.apps.receives.capacity;
        };
        book = record { edge = h.apps.book.edge; owner = h.apps.book.owner; marks = h.apps.book.marks; taken = h.apps.book.taken };
        room = h.apps.room;
        whole = h.apps.whole;
        fin = h.apps.fin;
      };
      apps_back = record {
        writes = record { numbers = h.apps_back.writes.numbers; over = h.apps_back.writes.over };
        reads = record { numbers = h.apps_back.reads.numbers; received = h.apps_back.reads.received; over = h.apps_back.reads.over };
        receives = record {
          read = h.apps_back.receives.read;
          received = h.apps_back.receives.received;
          known = h.apps_back.receives.known;
          capacity = h.apps_back.receives.capacity;
        };
        book = record {
          edge = h.apps_back.book.edge;
          owner = h.apps_back.book.owner;
          marks = h.apps_back.book.marks;
          taken = h.apps_back.book.taken;
        };
        room = h.apps_back.room;
        whole = h.apps_back.whole;
        fin = h.apps_back.fin;
      };
      stages = h.stages;
      stages_back = stage_waits (peer s) s ds m.end.treated.asked h.owes h.stage_back events h.stages_back;
      control = h.control;
      control_back = h.control_back;
      turn = h.turn;
      turn_back = h.turn_back;
      settles = h.settles;
      settles_back = h.settles_back;
      begins = inl some_sent;
      begins_back = h.begins_back;
      owed = λ e b. absurd (both_ways h.owes unowed e);
      owed_back = h.owed_back;
    }
