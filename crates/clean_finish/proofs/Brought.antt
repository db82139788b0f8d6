-- What a segment in hand brings is taken by its lane: keys, bytes, a DATA_FIN or a FIN.
use Rattle.clean_finish.proofs.Words.{◌≡◌, refl, sym, subst, ap, ◌∙◌, ℕ, ◌+◌, ◌<◌, ◌≤◌, Bool, true, false, ◌||◌, ◌⊎◌, inl, inr, Option, List, ◌∷◌, ◌++◌, length}
use Rattle.clean_finish.proofs.Words.{map, arith, Some, Side, peer, Arriving, filled, SubflowReceiving, State, Duty, SendDuty, StepDuty, AskDuty, SilentDuty}
use Rattle.clean_finish.proofs.Words.{Profile, PathEnd, Modes, Treated, Setting, Copy, Lane, Stage, MayHearData, hears, goes_back, hears_data, Hand, EndIs}
use Rattle.clean_finish.proofs.Words.{brings_in, tells_in, Sent, Keys, copy_in, octets_of, Follow, data_fin_of, low_after, control_after, keys_after, Facing}
use Rattle.clean_finish.proofs.Words.{Half, Has, StageIs, ReaderShows, ReceiverIs}
use Rattle.path_core.specs.Sending.{Sending}
use Rattle.path_store.specs.Receiving.{Receiving}
use Rattle.clean_finish.proofs.Dropping.{is_waited, apart, is_apart, stage_drops, settles_drop, begun_drops}
use Rattle.clean_finish.proofs.Hands.{in_hand}
use Rattle.clean_finish.proofs.Opened.{waiting_on, before_waiting}
use Rattle.clean_finish.proofs.Passing.{stands_then}

module _ {s : Side} {keys : Keys} {k j : Setting} {c : Profile} {begun begun_back : Lane} {m n : Half} {clock until : ℕ} {d : Duty} {ds : List Duty}
    (h : Facing s keys k j c begun begun_back m n clock until (d ∷ ds)) (free : is_waited d ≡ false)
    (x : Sent) (tells : Bool) (hand : h.hand ≡ in_hand x true tells)
  where
    -- the other copies
    abbrev pub rest : List Copy
    rest = map copy_in h.way_back.sent

    abbrev pub back_after : Lane
    back_after = hears_data (copy_in x) rest h.back

    -- the parts of the end that change
    module _ (r : SubflowReceiving) (state : State) (v : Sending) (w : Receiving) (mo : Modes) (tr : Treated) (b : Arriving) where
      abbrev pub end_after : PathEnd
      end_after = record m.end { tcp = record m.end.tcp { recv = r; state = state }; sending = v; receiving = w; modes = mo; treated = tr }

      module _ (ask : Bool) (some_sent : 1 ≤ h.out.control_sent) (owes : h.owes ≡ true) (acknowledges : Has (Duty.Send (SendDuty.Acknowledge s)) ds)
          (events : Has (Duty.Step StepDuty.Events) ds)
          (news : (x.low < x.low + length (octets_of x.brings)) ⊎ ((0 < data_fin_of x.brings) ⊎ ((h.back.control_came < x.control) ⊎ (h.back.keys_came < x.keys))))
          (asked : ask ≡ false → (h.stage_back.ask ≡ false) × (x.low + length (octets_of x.brings) ≤ x.low) × (data_fin_of x.brings ≤ 0))
          (asks : (ask ≡ false) ⊎ (Has (Duty.Ask (AskDuty.Window s)) ds ⊎ (Has (Duty.Ask (AskDuty.AckOut s)) ds × (tr.asked ≡ true))))
          (received : back_after.received ≡ h.back.received + length (octets_of x.brings)) (control_is : back_after.control_came ≡ x.control)
          (shown_is : back_after.keys_came ≡ x.keys) (further : m.end.tcp.recv.edge ≤ r.edge)
          (own : EndIs s keys k j h.out.sender back_after.receiver (in_hand x false tells) h.owes h.waiting end_after)
          (reads : ReaderShows j back_after m.app b) (receives : ReceiverIs j back_after b) (whole : b.places ≡ map Some (filled b.places))
          (settles : v.news ≡ m.end.sending.news)
        where
          pub up : {y z t : ℕ} → y ≤ z → z ≤ t → y ≤ t
          up p q = omega (arith, p, q)

          abbrev pub stage_after : Stage
          stage_after = record (waiting_on h.stage_back) { ask = ask; tell = true }

          pub may_hear : MayHearData (waiting_on h.stage_back) ask (copy_in x) rest h.back
          may_hear = record {
            first = h.way_back.datas_are ∙ ap (λ (o : Option Hand). map copy_in (brings_in o ++ h.way_back.sent)) hand;
            turn = refl;
            news = news;
            asked = asked;
          }

          pub follow_on : Follow k.least k.total j.total (peer s) back_after.received back_after.control_came back_after.keys_came h.way_back.sent
          follow_on = subst (λ (n : ℕ). Follow k.least k.total j.total (peer s) n back_after.control_came back_after.keys_came h.way_back.sent) (sym received)
              (subst (λ (n : ℕ). Follow k.least k.total j.total (peer s) (h.back.received + length (octets_of x.brings)) n back_after.keys_came h.way_back.sent) (sym control_is)
              (subst (λ (n : ℕ). Follow k.least k.total j.total (peer s) (h.back.received + length (octets_of x.brings)) x.control n h.way_back.sent) (sym shown_is)
              (subst (λ (o : Option Hand). Follow k.least k.total j.total (peer s) h.back.received h.back.control_came h.back.keys_came (brings_in o ++ h.way_back.sent))
              hand h.way_back.follow).4))

          pub stages_after : StageIs (peer s) s ds tr.asked h.owes stage_after
          stages_after =
              let is = stage_drops (peer s) s d ds m.end.treated.asked h.owes h.stage_back (is_apart (peer s) s d free) h.stages_back in
              record {
                window = is.window;
                update = is.update;
                emit = is.emit;
                finish = is.finish;
                wait = inr events;
                tell = inr (inr (acknowledges, owes));
                ask = asks;
              }

          abbrev pub brought : Facing s keys k j c begun begun_back (record m { end = end_after; arrived = b }) n clock until ds
          brought = record {
            out = h.out;
            back = back_after;
            stage = h.stage;
            stage_back = stage_after;
            going = h.going;
            going_back = stands_then (stands_then h.going_back (waiting_on h.stage_back) h.back (goes_back (waiting_on h.stage_back) (before_waiting h.stage_back)))
                stage_after back_after (hears ask (copy_in x) rest may_hear);
            now = h.now;
            now_back = h.now_back;
            hand = in_hand x false tells;
            hand_back = h.hand_back;
            owes = h.owes;
            owes_back = h.owes_back;
            waiting = h.waiting;
            waiting_back = h.waiting_back;
            own = own;
            other = h.other;
            way = record {
              sent = h.way.sent;
              flights = h.way.flights;
              datas_are = h.way.datas_are;
              acks_are = h.way.acks_are;
              follow = h.way.follow;
              low = h.way.low;
              control = h.way.control;
              keys_shown = h.way.keys_shown;
              rise = h.way.rise;
              passed = up h.way.passed further;
            };
            way_back = record {
              sent = h.way_back.sent;
              flights = h.way_back.flights;
              datas_are = refl;
              acks_are = h.way_back.acks_are ∙ ap (λ (o : Option Hand). map copy_in (tells_in o ++ h.way_back.sent)) hand;
              follow = follow_on;
              low = ap (λ (n : ℕ). low_after n h.way_back.sent) received
                  ∙ (ap (λ (o : Option Hand). low_after h.back.received (brings_in o ++ h.way_back.sent)) (sym hand) ∙ h.way_back.low);
              control = ap (λ (n : ℕ). control_after n h.way_back.sent) control_is
                  ∙ (ap (λ (o : Option Hand). control_after h.back.control_came (brings_in o ++ h.way_back.sent)) (sym hand) ∙ h.way_back.control);
              keys_shown = ap (λ (n : ℕ). keys_after n h.way_back.sent) shown_is
                  ∙ (ap (λ (o : Option Hand). keys_after h.back.keys_came (brings_in o ++ h.way_back.sent)) (sym hand) ∙ h.way_back.keys_shown);
              rise = h.way_back.rise;
              passed = h.way_back.passed;
            };
            apps = record {
              writes = record { numbers = h.apps.writes.numbers; over = h.apps.writes.over };
              reads = record { numbers = h.apps.reads.numbers; received = h.apps.reads.received; over = h.apps.reads.over };
              receives = record {
                read = h.apps.receives.read;
                received = h.apps.receives.received;
                known = h.apps.receives.known;
                capacity = h.apps.receives.capacity;
              };
              book = record { edge = h.apps.book.edge; owner = h.apps.book.owner; marks = h.apps.book.marks; taken = h.apps.book.taken };
              room = h.apps.room;
              whole = h.apps.whole;
              fin = h.apps.fin;
            };
            apps_back = record {
              writes = record { numbers = h.apps_back.writes.numbers; over = h.apps_back.writes.over };
              reads = reads;
              receives = receives;
              book = record {
                edge = h.apps_back.book.edge;
                owner = h.apps_back.book.owner;
                marks = h.apps_back.book.marks;
                taken = h.apps_back.book.taken;
              };
              room = h.apps_back.room;
              whole = whole;
              fin = h.apps_back.fin;
            };
            stages = stage_drops s (peer s) d ds n.end.treated.asked h.owes_back h.stage (is_apart s (peer s) d free) h.stages;
            stages_back = stages_after;
            control = h.control;
            control_back = h.control_back;
            turn = h.turn;
            turn_back = h.turn_back;
            settles = settles_drop s d ds end_after (apart refl free) (subst (λ (y : Bool). ((m.end.tcp.timing.news || y) ≡ false) ⊎ Has (Duty.Silent (SilentDuty.Timer s)) (d ∷ ds)) (sym settles) h.settles);
            settles_back = settles_drop (peer s) d ds n.end (apart refl free) h.settles_back;
            begins = inl some_sent;
            begins_back = begun_drops (peer s) k h.back.sender h.out.receiver n.end d ds (apart refl free) (λ is. apart refl free) h.begins_back;
            owed = λ e b. refl;
            owed_back = h.owed_back;
          }
