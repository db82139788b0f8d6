-- A sends its SYN.
use Rattle.clean_finish.proofs.Words.{◌≡◌, refl, sym, subst, ◌∙◌, ℕ, ◌+◌, ◌-◌, ◌≤◌, min, max, nat_lt, Bool, true, false, cond, ◌&&◌, inl, inr, List, [], ◌∷◌}
use Rattle.clean_finish.proofs.Words.{◌++◌, arith, Some, ◌==◌, both_ways, ne_eqb, All-weaker, Side, A, B, syn_record, never_sent, SynSent, Occasion, Flight}
use Rattle.clean_finish.proofs.Words.{Duty, SendDuty, StepDuty, Profile, Carried, PathEnd, record_or_ack, having_sent, first_unsent, Setting, Telling, Copy}
use Rattle.clean_finish.proofs.Words.{Lane, Stage, is_whole, all_left, Going, pending, MaySay, MaySend, IsBefore, says, sends_none, goes_back, said_by, repeats}
use Rattle.clean_finish.proofs.Words.{sent_by, AreTaken, EndIs, IsGranted, WayIs, Sent, Keys, copy_in, said, FliesAs, OpensSubflow, Same, IsSetting, Facing}
use Rattle.clean_finish.proofs.Words.{Half, Has, StageIs, HasNotBegun}
use Rattle.clean_finish.proofs.Dropping.{differ, IsApart, stage_drops, settles_drop, begun_drops}
use Rattle.clean_finish.proofs.Passing.{stands_then}
use Rattle.clean_finish.proofs.Quiet.{now_out, now_back}
use Rattle.clean_finish.proofs.Sent.{sent_all}
use Rattle.clean_finish.proofs.Ways.{way_more}
use Rattle.clean_finish.proofs.Spans.{spans_for}

-- as a lane counts it, from a tick on, with this window
abbrev pub syn_of : Setting → ℕ → ℕ → Sent
syn_of j at window = record {
  at = at;
  brings = OpensSubflow;
  low = 0;
  control = 1;
  keys = 0;
  telling = record { next = 0; edge = j.least; seen = 0; dss = 0 };
  window = window;
  edge = 1;
}

-- this SYN is the segment that A sends
pub syn_is : (c : Profile) (keys : Keys) (j : Setting) (at : ℕ) (e : PathEnd) → c.spelling.path ≡ 0 → e.tcp.state ≡ SynSent
    → first_unsent e ≡ Some (syn_record never_sent)
    → record_or_ack c A (first_unsent e) e ≡ said c keys A (syn_of j at e.receiving.window)
syn_is c keys j at e first state unsent = rw unsent (rw state (rw first refl))

-- what tells another edge is no duplicate
pub no_repeat : (t : Telling) (x : Copy) → (t.edge ≡ x.telling.edge → ⊥) → repeats t x ≡ 0
no_repeat t x apart = by x.solid (t.next == x.telling.next) (t.edge == x.telling.edge)
    ((t.seen == x.telling.seen) && (t.dss == x.telling.dss)) (ne_eqb t.edge x.telling.edge apart)
  where
    by : (solid a b d : Bool) → b ≡ false → ◌≡◌ {A = ℕ} (cond solid 0 (cond (a && (b && d)) 1 0)) 0
    by true a b d e = refl
    by false true b d e = rw e refl
    by false false b d e = refl

-- a stage in which more events come
abbrev pub waiting_on : Stage → Stage
waiting_on p = record p { wait = true }

pub before_waiting : (p : Stage) → IsBefore (waiting_on p) p
before_waiting p = record {
  ask = λ e. e;
  tell = refl;
  window = λ e. e;
  update = λ e. e;
  emit = λ e. e;
  finish = λ e. e;
  wait = λ e. absurd (both_ways _ e refl);
}

pub stage_waits : (s r : Side) (ds : List Duty) (asked owes : Bool) (p : Stage) → Has (Duty.Step StepDuty.Events) ds → StageIs s r ds asked owes p
    → StageIs s r ds asked owes (waiting_on p)
stage_waits s r ds asked owes p events is = record {
  window = is.window;
  update = is.update;
  emit = is.emit;
  finish = is.finish;
  wait = inr events;
  tell = is.tell;
  ask = is.ask;
}

module _ {keys : Keys} {k j : Setting} {c : Profile} {begun begun_back : Lane} {m n : Half} {clock until : ℕ} (ticks t u : ℕ)
    (k_is : IsSetting c ticks k) (j_is : IsSetting c ticks j)
    (going : Going k begun t all_left begun) (going_back : Going j begun_back u all_left begun_back)
  where
    module _ {ds : List Duty} (h : Facing A keys k j c begun begun_back m n clock until (Duty.Send (SendDuty.Syn A) ∷ ds))
        (unsent : h.out.control_sent ≡ 0) (none : HasNotBegun A j h.out.sender h.back.receiver m.end (Duty.Send (SendDuty.Syn A) ∷ ds))
      where
        now : Going k begun t h.stage h.out
        now = now_out ticks t u k_is j_is going going_back h

        back_now : Going j begun_back u h.stage_back h.back
        back_now = now_back ticks t u k_is j_is going going_back h

        abbrev pub syn : Sent
        syn = syn_of j (clock + ticks) m.end.receiving.window

        pub none_granted : h.out.granted ≡ 0
        none_granted = zero_is h.out.granted (λ some. not_both (h.own.sending.bytes (omega (arith, some))) none.ready)
          where
            zero_is : (x : ℕ) → (1 ≤ x → ⊥) → x ≡ 0
            zero_is x low = omega (arith, low)

            not_both : {x : ℕ} → 1 ≤ x → x ≡ 0 → ⊥
            not_both one is = absurd (omega (arith, one, is))

        pub may_send : MaySend k (waiting_on h.stage) (copy_in syn) h.out
        may_send = record {
          turn = refl;
          at = at_is h.now.0 k_is.delay;
          low = sym none_granted;
          high = most none_granted;
          written = omega arith;
          edge = omega arith;
          data_fin = few now.numbers.data_fin_sent;
        }
          where
            at_is : {x y d e : ℕ} → x ≡ y → d ≡ e → y + d ≡ x + e
            at_is same ticks_are = omega (arith, same, ticks_are)

            most : {x : ℕ} → x ≡ 0 → x ≤ 0
            most is = omega (arith, is)

            few : {x y : ℕ} → x ≤ y → 0 + x ≤ y
            few low = omega (arith, low)

        pub may_say : MaySay j begun_back (waiting_on h.stage_back) h.stage_back.tell h.stage_back.update (copy_in syn) h.back
        may_say = record {
          turn = refl;
          at = at_is h.now_back.0 j_is.delay;
          so = (omega arith, least h.back.read (is_whole j h.back) j_is.ranges.least, omega arith, omega arith);
          all = λ e. (nothing j.total none.received none.data_fin, same (none.syn refl).0, same none.keys);
          window = λ e ready. absurd (never ready h.other.modes.ready now.numbers.control unsent);
          paid = paid h.stage_back.tell;
        }
          where
            at_is : {x y d e : ℕ} → x ≡ y → d ≡ e → y + d ≡ x + e
            at_is same ticks_are = omega (arith, same, ticks_are)

            least : {buffer low : ℕ} (read whole : ℕ) → low ≤ buffer → low ≤ read + buffer + whole
            least read whole fits = omega (arith, fits)

            nothing : {received came : ℕ} (total : ℕ) → received ≡ 0 → came ≡ 0 → received + min came ((received + 1) - total) ≤ 0
            nothing total one two = omega (arith, one, two)

            same : {x : ℕ} → x ≡ 0 → x ≤ 0
            same is = omega (arith, is)

            never : {ready came sent : ℕ} → 1 ≤ ready → ready ≤ min 1 came → came ≤ sent → sent ≡ 0 → ⊥
            never one few low is = absurd (omega (arith, one, few, low, is))

            few : {came keys_came ack more : ℕ} (seen dss next said : ℕ) → more ≡ 0 → ack ≤ 0 → came ≡ 0 → keys_came ≡ 0
                → more + said + (((1 - (ack - 0)) - (came - 0)) - (keys_came - 0)) ≤ max said 0 + (((1 - (ack - next)) - (came - seen)) - (keys_came - dss))
            few seen dss next said none_more low a b = omega (arith, none_more, low, a, b)

            paid : (tell : Bool) → repeats h.back.told (copy_in syn) + h.back.said
                + pending j (record (waiting_on h.stage_back) { tell = tell }) (said_by (copy_in syn) h.back)
                ≤ (said_by (copy_in syn) h.back).said + pending j (record (waiting_on h.stage_back) { tell = tell }) h.back
            paid true = few h.back.told.seen h.back.told.dss h.back.told.next h.back.said (no_repeat h.back.told (copy_in syn) other) (nothing j.total none.received none.data_fin) (none.syn refl).0 none.keys
              where
                other : h.back.told.edge ≡ j.least → ⊥
                other e = absurd (omega (arith, e, none.told, j_is.ranges.fits, j_is.some))
            paid false = no_more h.back.said (no_repeat h.back.told (copy_in syn) other)
              where
                other : h.back.told.edge ≡ j.least → ⊥
                other e = absurd (omega (arith, e, none.told, j_is.ranges.fits, j_is.some))

                no_more : {x : ℕ} (y : ℕ) → x ≡ 0 → x + y + 0 ≤ max y 0 + 0
                no_more y is = omega (arith, is)

        -- ---- what it leaves

        abbrev pub out_after : Lane
        out_after = sent_by (copy_in syn) h.out

        abbrev pub back_after : Lane
        back_after = said_by (copy_in syn) h.back

        -- the end after it
        abbrev pub end_after : PathEnd
        end_after = having_sent Occasion.Unsent clock (said c keys A syn) m.end

        pub one_more : (x : ℕ) → 1 ≤ max x 1
        one_more x = omega arith

        no_keys : {x r : ℕ} → 1 ≤ max x 0 → x ≤ r → r ≡ 0 → ⊥
        no_keys one less is = absurd (omega (arith, one, less, is))

        said_on : {x y : ℕ} → x ≤ y → max x 0 ≤ max y 0
        said_on low = omega (arith, low)

        two_most : {x : ℕ} → x ≡ 0 → max x 1 ≤ 2
        two_most is = omega (arith, is)

        not_two : {x : ℕ} → x ≡ 0 → 2 ≤ max x 1 → ⊥
        not_two is two = absurd (omega (arith, is, two))

        none_low : {x : ℕ} → x ≡ 0 → x ≤ 1
        none_low is = omega (arith, is)

        pub none_yet : {g w : ℕ} → g ≡ 0 → w ≡ 0 → g + w ≡ 0
        none_yet p q = omega (arith, p, q)

        max_none : (x : ℕ) → max x 0 ≡ x
        max_none x = omega arith

        pub sym_zero : {x : ℕ} → x ≡ 0 → 0 ≡ x
        sym_zero is = sym is

        pub not_b : B ≡ A → ⊥
        not_b e = cc

        not_a_b : A ≡ B → ⊥
        not_a_b e = cc

        few_are : {x : ℕ} → x ≡ 0 → nat_lt 1 x ≡ nat_lt 1 (max x 1)
        few_are is = rw is refl

        next_is : {next granted waiting control : ℕ} → next ≡ 1 + granted + waiting + (control - 1) → granted ≡ 0 → waiting ≡ 0 → control ≡ 0
            → next ≡ 1 + 0 + 0 + (max control 1 - 1)
        next_is is a b d = omega (arith, is, a, b, d)

        within : {to granted waiting : ℕ} → granted ≡ 0 → waiting ≡ 0 → to ≤ granted + waiting → to ≤ 0 + 0
        within a b few = omega (arith, a, b, few)

        told_is : {next window buffer least : ℕ} → next ≡ 0 → window ≡ buffer → least ≡ min 65535 buffer → least ≡ next + min 65535 window
        told_is a b d = omega (arith, a, b, d)

        least_told : {window buffer least : ℕ} → window ≡ buffer → least ≡ min 65535 buffer → min 65535 window ≡ least
        least_told a b = omega (arith, a, b)

        edge_low : {edge received came : ℕ} → edge ≡ 1 + received + (came - 1) → received ≡ 0 → came ≡ 0 → edge ≤ 1
        edge_low a b d = omega (arith, a, b, d)

        edge_high : {edge : ℕ} (received came : ℕ) → edge ≡ 1 + received + (came - 1) → 1 ≤ edge
        edge_high received came a = omega (arith, a)

        control_is : {x : ℕ} → x ≡ 0 → 1 ≡ max x 1
        control_is is = omega (arith, is)

        keys_are : {x ready : ℕ} → x ≤ ready → ready ≡ 0 → 0 ≡ max x 0
        keys_are few is = omega (arith, few, is)

        pub others : IsApart A B (Duty.Send (SendDuty.Syn A))
        others = record {
          window = differ refl;
          update = differ refl;
          emit = differ refl;
          finish = differ refl;
          wait = differ refl;
          syn_ack = differ refl;
          acknowledge = differ refl;
          ask = differ refl;
        }

        pub others_back : IsApart B A (Duty.Send (SendDuty.Syn A))
        others_back = record {
          window = differ refl;
          update = differ refl;
          emit = differ refl;
          finish = differ refl;
          wait = differ refl;
          syn_ack = differ refl;
          acknowledge = differ refl;
          ask = differ refl;
        }

        module _ (rest : h.own.subflow.records.rest ≡ syn_record never_sent ∷ []) (nothing_waits : h.waiting ≡ 0)
            (buffer_is : m.end.receiving.window ≡ j.buffer) (events : Has (Duty.Step StepDuty.Events) ds)
            (fs gs : List (Flight Carried)) (f : Flight Carried) (flies : FliesAs c keys A f syn)
            (more : fs ≡ m.flying ++ f ∷ []) (same : gs ≡ n.flying)
          where
            pub own_after : EndIs A keys k j out_after.sender back_after.receiver h.hand h.owes 0 end_after
            own_after = record {
              subflow = record {
                phase = h.own.subflow.phase;
                opens = h.own.subflow.opens;
                records = sent_all k h.out.sender out_after.sender h.waiting clock m.end.tcp h.own.subflow.records (syn_record never_sent) rest refl
                    (one_more h.out.control_sent) (two_most unsent) (next_is h.own.subflow.records.next none_granted nothing_waits unsent)
                    (h.own.subflow.records.finished ∙ few_are unsent);
                ahead = record {
                  bytes = h.own.subflow.ahead.bytes;
                  opened = h.own.subflow.ahead.opened;
                  finished = h.own.subflow.ahead.finished;
                  seen = h.own.subflow.ahead.seen;
                };
                congestion = record {
                  window = h.own.subflow.congestion.window;
                  most = h.own.subflow.congestion.most;
                  steady = h.own.subflow.congestion.steady;
                  row = h.own.subflow.congestion.row;
                };
                come = record { edge = h.own.subflow.come.edge; window = h.own.subflow.come.window };
                heard = record { told = h.own.subflow.heard.told; most = h.own.subflow.heard.most; end = h.own.subflow.heard.end; few = h.own.subflow.heard.few; some = h.own.subflow.heard.some };
                quiet = h.own.subflow.quiet;
                begun = λ is. absurd (not_a_b is);
                keyed = λ is. absurd (not_a_b is);
                long = h.own.subflow.long;
                due = h.own.subflow.due;
              };
              sending = record {
                heard = h.own.sending.heard;
                known = h.own.sending.known;
                data_fin = max_none h.out.data_fin_sent ∙ h.own.sending.data_fin;
                acked = h.own.sending.acked;
                came = h.own.sending.came;
                shut = (λ e. h.own.sending.shut.0 nothing_waits, λ some. absurd (omega (arith, some)));
                granted = All-weaker (IsGranted h.out.sender h.waiting) (IsGranted out_after.sender 0)
                    (λ span is. record { waits = is.waits; within = within none_granted nothing_waits is.within }) m.end.sending.granted
                    h.own.sending.granted;
                spans = spans_for m.end.sending.granted h.out.acked h.out.granted h.waiting 0 (sym none_granted) nothing_waits h.own.sending.spans;
                bytes = λ some. absurd (omega (arith, some));
                end = subst (λ (x : ℕ). x ≤ h.out.clear) (sym (max_none h.out.data_fin_sent)) h.own.sending.end;
                acked_end = λ more. subst (λ (x : ℕ). 1 ≤ x) (sym (max_none h.out.data_fin_sent)) (h.own.sending.acked_end more);
                finish = λ two. absurd (not_two unsent two);
              };
              receiving = record {
                next = h.own.receiving.next;
                limit = h.own.receiving.limit;
                told = Same (told_is none.next buffer_is j_is.least);
                least = λ sent. omega arith;
                unmapped = h.own.receiving.unmapped;
                fin_told = h.own.receiving.fin_told;
                said = said_on h.own.receiving.said;
                unended = λ is clear. none_low (none.syn refl).0;
                unheard = λ is clear. (none.received, none.data_fin, λ one. absurd (no_keys one h.own.modes.shown none.ready));
              };
              modes = record {
                mode = h.own.modes.mode;
                standby = h.own.modes.standby;
                mapping = h.own.modes.mapping;
                owes_third = h.own.modes.owes_third;
                owes_mapping = h.own.modes.owes_mapping;
                mapped_to = rw (h.own.modes.mapping.0, h.own.modes.mapping.1) h.own.modes.mapped_to;
                plain_acks = h.own.modes.plain_acks;
                own_key = h.own.modes.own_key;
                peer_key = h.own.modes.peer_key;
                clear = h.own.modes.clear;
                capable = h.own.modes.capable;
                ready = h.own.modes.ready;
                cleared = h.own.modes.cleared;
                both = h.own.modes.both;
                shown = subst (λ (x : ℕ). x ≤ h.out.ready) (sym (max_none h.out.keys_sent)) h.own.modes.shown;
              };
              timer = h.own.timer;
              notices = h.own.notices;
            }

            pub way_after : WayIs c keys j k A out_after.sender out_after.receiver out_after.datas back_after.acks h.hand_back n.end.tcp.send.una
                end_after.tcp.recv.edge fs
            way_after = subst (λ (flying : List (Flight Carried)). WayIs c keys j k A out_after.sender out_after.receiver out_after.datas
                back_after.acks h.hand_back n.end.tcp.send.una end_after.tcp.recv.edge flying) (sym more)
                (way_more c keys j k A h.out.sender out_after.sender h.out.receiver h.hand_back n.end.tcp.send.una m.end.tcp.recv.edge
                m.end.tcp.recv.edge f syn h.out.datas h.back.acks m.flying h.way flies
                (record { some = omega arith; bytes = omega arith; most = omega arith; end = λ e. absurd (omega (arith, e)) }, λ is e. absurd (both_ways true e refl), tt)
                (refl, refl, refl, refl, least_told buffer_is j_is.least) (sym none_granted) (unsent, refl, refl)
                (edge_low h.own.subflow.come.edge none.received (none.syn refl).0) (edge_high h.back.received h.back.control_came h.own.subflow.come.edge) refl
                (control_is unsent) (keys_are h.own.modes.shown none.ready))

            abbrev pub syn_sent : Facing A keys k j c begun begun_back (record m { end = end_after; flying = fs }) (record n { flying = gs }) clock until ds
            syn_sent = record {
              out = out_after;
              back = back_after;
              stage = waiting_on h.stage;
              stage_back = waiting_on h.stage_back;
              going = stands_then (stands_then h.going (waiting_on h.stage) h.out (goes_back (waiting_on h.stage) (before_waiting h.stage)))
                  (waiting_on h.stage) out_after (sends_none (copy_in syn) (sym_zero none_granted) may_send);
              going_back = stands_then (stands_then h.going_back (waiting_on h.stage_back) h.back
                  (goes_back (waiting_on h.stage_back) (before_waiting h.stage_back))) (waiting_on h.stage_back) back_after
                  (says h.stage_back.tell h.stage_back.update (copy_in syn) may_say);
              now = h.now;
              now_back = h.now_back;
              hand = h.hand;
              hand_back = h.hand_back;
              owes = h.owes;
              owes_back = h.owes_back;
              waiting = 0;
              waiting_back = h.waiting_back;
              own = own_after;
              other = h.other;
              way = way_after;
              way_back = subst (λ (flying : List (Flight Carried)). WayIs c keys k j B back_after.sender back_after.receiver back_after.datas out_after.acks h.hand
                  m.end.tcp.send.una n.end.tcp.recv.edge flying) (sym same) (record {
                    sent = h.way_back.sent;
                    flights = h.way_back.flights;
                    datas_are = h.way_back.datas_are;
                    acks_are = h.way_back.acks_are;
                    follow = h.way_back.follow;
                    low = h.way_back.low;
                    control = h.way_back.control;
                    keys_shown = h.way_back.keys_shown;
                    rise = h.way_back.rise;
                    passed = h.way_back.passed;
                  });
              apps = record {
                writes = record { numbers = h.apps.writes.numbers; over = h.apps.writes.over };
                reads = record { numbers = h.apps.reads.numbers; received = h.apps.reads.received; over = h.apps.reads.over };
                receives = record {
                  read = h.apps.receives.read;
                  received = h.apps.receives.received;
                  known = h.apps.receives.known;
                  capacity = h.apps.receives.capacity;
                };
                book = record { edge = h.apps.book.edge; owner = h.apps.book.owner; marks = h.apps.book.marks; taken = subst (λ (n : ℕ). AreTaken n m.send.marks) (none_yet none_granted nothing_waits) h.apps.book.taken };
                room = omega arith;
                whole = h.apps.whole;
                fin = h.apps.fin;
              };
              apps_back = record {
                writes = record { numbers = h.apps_back.writes.numbers; over = h.apps_back.writes.over };
                reads = record { numbers = h.apps_back.reads.numbers; received = h.apps_back.reads.received; over = h.apps_back.reads.over };
                receives = record {
                  read = h.apps_back.receives.read;
                  received = h.apps_back.receives.received;
                  known = h.apps_back.receives.known;
                  capacity = h.apps_back.receives.capacity;
                };
                book = record { edge = h.apps_back.book.edge; owner = h.apps_back.book.owner; marks = h.apps_back.book.marks; taken = h.apps_back.book.taken };
                room = h.apps_back.room;
                whole = h.apps_back.whole;
                fin = h.apps_back.fin;
              };
              stages = stage_waits A B ds n.end.treated.asked h.owes_back h.stage events
                  (stage_drops A B (Duty.Send (SendDuty.Syn A)) ds n.end.treated.asked h.owes_back h.stage others h.stages);
              stages_back = stage_waits B A ds m.end.treated.asked h.owes h.stage_back events
                  (stage_drops B A (Duty.Send (SendDuty.Syn A)) ds m.end.treated.asked h.owes h.stage_back others_back h.stages_back);
              control = h.control;
              control_back = h.control_back;
              turn = h.turn;
              turn_back = h.turn_back;
              settles = settles_drop A (Duty.Send (SendDuty.Syn A)) ds m.end (differ refl) h.settles;
              settles_back = settles_drop B (Duty.Send (SendDuty.Syn A)) ds n.end (differ refl) h.settles_back;
              begins = inl (one_more h.out.control_sent);
              begins_back = begun_drops B k h.back.sender h.out.receiver n.end (Duty.Send (SendDuty.Syn A)) ds (differ refl) (λ is. absurd (not_b is)) h.begins_back;
              owed = h.owed;
              owed_back = h.owed_back;
            }
