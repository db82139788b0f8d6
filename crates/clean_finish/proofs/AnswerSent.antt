-- B sends the SYN/ACK.
use Rattle.clean_finish.proofs.Words.{◌≡◌, refl, sym, subst, ap, ◌∙◌, ℕ, ◌+◌, ◌-◌, ◌<◌, ◌≤◌, min, max, nat_lt, Bool, true, false, if◌then◌else◌, inl, inr}
use Rattle.clean_finish.proofs.Words.{⊎_elim, Option, None, List, [], ◌∷◌, ◌++◌, map, arith, le_refl, ◌==◌, both_ways, All-weaker, A, B, Record, Tile, span_of}
use Rattle.clean_finish.proofs.Words.{syn_record, after_resent, never_sent, Due, Flight, Duty, SendDuty, StepDuty, Profile, Carried, PathEnd, syn_ack_said}
use Rattle.clean_finish.proofs.Words.{with_told, Setting, Lane, Stage, is_whole, all_left, Going, pending, MaySay, MaySend, says, sends_none, goes_back}
use Rattle.clean_finish.proofs.Words.{said_by, sent_by, AreTaken, Hand, EndIs, HeardIs, IsGranted, RecordsAre, WayIs, last_told, row_seen, brings_still, Sent}
use Rattle.clean_finish.proofs.Words.{Keys, copy_in, said, FliesAs, OpensSubflow, Same, IsSetting, Facing, Half, Has, StageIs, HasNotBegun}
use Rattle.subflow_send.specs.Records.{Follow}
use Rattle.clean_finish.proofs.Dropping.{differ, behind, behind_or, IsApart, stage_drops, settles_drop, begun_drops}
use Rattle.clean_finish.proofs.Hands.{in_hand, way_done}
use Rattle.clean_finish.proofs.Opened.{no_repeat, waiting_on, before_waiting, stage_waits}
use Rattle.clean_finish.proofs.Passing.{stands_then}
use Rattle.clean_finish.proofs.Quiet.{now_out, now_back}
use Rattle.clean_finish.proofs.Sent.{resent_alone}
use Rattle.clean_finish.proofs.Ways.{way_more}
use Rattle.clean_finish.proofs.Spans.{spans_for}

-- as a lane counts it, from a tick on, with this window
abbrev pub syn_ack_at : Setting → ℕ → ℕ → ℕ → Sent
syn_ack_at j at window edge = record {
  at = at;
  brings = OpensSubflow;
  low = 0;
  control = 1;
  keys = 0;
  telling = record { next = 0; edge = j.least; seen = 1; dss = 0 };
  window = window;
  edge = edge;
}

-- this SYN/ACK is the segment that B sends
pub syn_ack_is : (c : Profile) (keys : Keys) (j : Setting) (at : ℕ) (e : PathEnd) → c.spelling.path ≡ 0 → e.modes.capable_asked ≡ true
    → e.modes.identity ≡ false → e.modes.own_key ≡ keys.b
    → syn_ack_said c B e ≡ said c keys B (syn_ack_at j at e.receiving.window e.tcp.recv.edge)
syn_ack_is c keys j at e first asked mptcp key = rw (first, asked, mptcp, key) refl

-- the SYN stands alone as long as it waits
pub syn_alone : (una nxt : ℕ) (sent : List Record) → Tile una nxt (map span_of (sent ++ syn_record never_sent ∷ [])) → (sent ≡ []) × (una ≡ 0)
syn_alone una nxt [] tile = (refl, zero_is tile.1)
  where
    zero_is : {x : ℕ} → x < 1 → x ≡ 0
    zero_is low = omega (arith, low)
syn_alone una nxt (r ∷ sent) tile = absurd (never tile.1 (low sent (span_of r).1 tile.2))
  where
    never : {x y : ℕ} → x < y → y ≤ 0 → ⊥
    never less none = absurd (omega (arith, less, none))

    low : (rs : List Record) (from : ℕ) → Follow from nxt (map span_of (rs ++ syn_record never_sent ∷ [])) → from ≤ 0
    low [] from follow = same follow.0
      where
        same : {x : ℕ} → 0 ≡ x → x ≤ 0
        same is = omega (arith, is)
    low (x ∷ rs) from follow = under follow.1 (low rs (span_of x).1 follow.2)
      where
        under : {x y : ℕ} → x < y → y ≤ 0 → x ≤ 0
        under less none = omega (arith, less, none)

pub answered_drops : {ds : List Duty} {asked owes : Bool} {p : Stage} → StageIs A B (Duty.Send (SendDuty.SynAck B) ∷ ds) asked owes p
    → StageIs A B ds asked owes (record p { tell = false })
answered_drops {ds} is = record {
  window = behind_or ds (differ refl) is.window;
  update = behind_or ds (differ refl) is.update;
  emit = behind_or ds (differ refl) is.emit;
  finish = behind_or ds (differ refl) is.finish;
  wait = behind_or ds (differ refl) is.wait;
  tell = inl refl;
  ask = ⊎_elim (λ e. inl e) (λ a. inr (⊎_elim (λ i. inl (behind ds (differ refl) i)) (λ i. inr (behind ds (differ refl) i.0, i.1)) a)) is.ask;
}

module _ {keys : Keys} {k j : Setting} {c : Profile} {begun begun_back : Lane} {m n : Half} {clock until : ℕ} (ticks t u : ℕ)
    (k_is : IsSetting c ticks k) (j_is : IsSetting c ticks j)
    (going : Going k begun t all_left begun) (going_back : Going j begun_back u all_left begun_back)
  where
    module _ {ds : List Duty} (h : Facing B keys k j c begun begun_back m n clock until (Duty.Send (SendDuty.SynAck B) ∷ ds))
        (unsent : h.out.control_sent ≡ 0) (came : h.back.control_came ≡ 1)
        (none : HasNotBegun B j h.out.sender h.back.receiver m.end (Duty.Send (SendDuty.SynAck B) ∷ ds))
      where
        pub now : Going k begun t h.stage h.out
        now = now_out ticks t u k_is j_is going going_back h

        pub back_now : Going j begun_back u h.stage_back h.back
        back_now = now_back ticks t u k_is j_is going going_back h

        abbrev pub answer : Sent
        answer = syn_ack_at j (clock + ticks) m.end.receiving.window m.end.tcp.recv.edge

        pub none_granted : h.out.granted ≡ 0
        none_granted = zero_is h.out.granted (λ some. not_both (h.own.sending.bytes (more h.waiting some)) none.ready)
          where
            zero_is : (x : ℕ) → (1 ≤ x → ⊥) → x ≡ 0
            zero_is x low = omega (arith, low)

            more : {x : ℕ} (y : ℕ) → 1 ≤ x → 1 ≤ x + y
            more y some = omega (arith, some)

            not_both : {x : ℕ} → 1 ≤ x → x ≡ 0 → ⊥
            not_both one is = absurd (omega (arith, one, is))

        pub at_is : {x y d e : ℕ} → x ≡ y → d ≡ e → y + d ≡ x + e
        at_is same ticks_are = omega (arith, same, ticks_are)

        pub may_send : MaySend k (waiting_on h.stage) (copy_in answer) h.out
        may_send = record {
          turn = refl;
          at = at_is h.now.0 k_is.delay;
          low = sym none_granted;
          high = most none_granted;
          written = omega arith;
          edge = omega arith;
          data_fin = few now.numbers.data_fin_sent;
        }
          where
            most : {x : ℕ} → x ≡ 0 → x ≤ 0
            most is = omega (arith, is)

            few : {x y : ℕ} → x ≤ y → 0 + x ≤ y
            few low = omega (arith, low)

        pub may_say : MaySay j begun_back (waiting_on h.stage_back) false h.stage_back.update (copy_in answer) h.back
        may_say = record {
          turn = refl;
          at = at_is h.now_back.0 j_is.delay;
          so = (omega arith, least h.back.read (is_whole j h.back) j_is.ranges.least, one came, omega arith);
          all = λ e. (nothing j.total none.received none.data_fin, most came, same none.keys);
          window = λ e ready. near j.least j.threshold back_now.since.read back_now.numbers.read none.received;
          paid = no_more h.back.said (pending j (waiting_on h.stage_back) h.back) (no_repeat h.back.told (copy_in answer) other);
        }
          where
            least : {buffer low : ℕ} (read whole : ℕ) → low ≤ buffer → low ≤ read + buffer + whole
            least read whole fits = omega (arith, fits)

            one : {x : ℕ} → x ≡ 1 → 1 ≤ x
            one is = omega (arith, is)

            most : {x : ℕ} → x ≡ 1 → x ≤ 1
            most is = omega (arith, is)

            nothing : {received came : ℕ} (total : ℕ) → received ≡ 0 → came ≡ 0 → received + min came ((received + 1) - total) ≤ 0
            nothing total one two = omega (arith, one, two)

            same : {x : ℕ} → x ≡ 0 → x ≤ 0
            same is = omega (arith, is)

            near : {x y z : ℕ} (least threshold : ℕ) → x ≤ y → y ≤ z → z ≡ 0 → x + least < least + 31 + threshold
            near least threshold a b is = omega (arith, a, b, is)

            other : h.back.told.edge ≡ j.least → ⊥
            other e = absurd (omega (arith, e, none.told, j_is.ranges.fits, j_is.some))

            no_more : {x : ℕ} (y z : ℕ) → x ≡ 0 → x + y + 0 ≤ max y 0 + z
            no_more y z is = omega (arith, is)

        -- ---- what it leaves

        abbrev pub out_after : Lane
        out_after = sent_by (copy_in answer) h.out

        abbrev pub back_after : Lane
        back_after = said_by (copy_in answer) h.back

        -- the SYN's record is sent, while that isn't acknowledged
        abbrev pub end_by : Bool → PathEnd
        end_by first = record (with_told (said c keys B answer) m.end) {
          tcp = record m.end.tcp {
            due = record m.end.tcp.due { syn_ack = false };
            send = (if first then after_resent clock m.end.tcp.send else m.end.tcp.send);
          };
        }

        pub one_more : (x : ℕ) → 1 ≤ max x 1
        one_more x = omega arith

        pub two_most : {x : ℕ} → x ≡ 0 → max x 1 ≤ 2
        two_most is = omega (arith, is)

        pub not_two : {x : ℕ} → x ≡ 0 → 2 ≤ max x 1 → ⊥
        not_two is two = absurd (omega (arith, is, two))

        pub max_none : (x : ℕ) → max x 0 ≡ x
        max_none x = omega arith

        pub not_a : B ≡ A → ⊥
        not_a e = cc

        pub said_on : {x y : ℕ} → x ≤ y → max x 0 ≤ max y 0
        said_on low = omega (arith, low)

        pub one_low : {y : ℕ} (x : ℕ) → y ≡ 1 → min 1 (max x 1) ≤ y
        one_low x is = omega (arith, is)

        pub few_are : {x : ℕ} → x ≡ 0 → nat_lt 1 x ≡ nat_lt 1 (max x 1)
        few_are is = rw is refl

        pub next_is : {next granted waiting control : ℕ} → next ≡ 1 + granted + waiting + (control - 1) → granted ≡ 0 → waiting ≡ 0 → control ≡ 0
            → next ≡ 1 + 0 + 0 + (max control 1 - 1)
        next_is is a b d = omega (arith, is, a, b, d)

        pub within : {to granted waiting : ℕ} → granted ≡ 0 → waiting ≡ 0 → to ≤ granted + waiting → to ≤ 0 + 0
        within a b few = omega (arith, a, b, few)

        pub told_is : {next window buffer least : ℕ} → next ≡ 0 → window ≡ buffer → least ≡ min 65535 buffer → least ≡ next + min 65535 window
        told_is a b d = omega (arith, a, b, d)

        pub least_told : {window buffer least : ℕ} → window ≡ buffer → least ≡ min 65535 buffer → min 65535 window ≡ least
        least_told a b = omega (arith, a, b)

        pub edge_is : {edge received came : ℕ} → edge ≡ 1 + received + (came - 1) → received ≡ 0 → came ≡ 1 → edge ≡ 1
        edge_is a b d = omega (arith, a, b, d)

        pub edge_one : m.end.tcp.recv.edge ≡ 1
        edge_one = edge_is h.own.subflow.come.edge none.received came

        pub control_is : {x : ℕ} → x ≡ 0 → 1 ≡ max x 1
        control_is is = omega (arith, is)

        pub keys_are : {x : ℕ} → x ≤ 0 → 0 ≡ max x 0
        keys_are few = omega (arith, few)

        pub some_edge : {x : ℕ} → x ≡ 1 → 1 ≤ x
        some_edge is = omega (arith, is)

        pub most_edge : {x : ℕ} (total : ℕ) → x ≡ 1 → x ≤ 1 + total + 0
        most_edge total is = omega (arith, is)

        pub others : IsApart B A (Duty.Send (SendDuty.SynAck B))
        others = record {
          window = differ refl;
          update = differ refl;
          emit = differ refl;
          finish = differ refl;
          wait = differ refl;
          syn_ack = λ e. cc;
          acknowledge = differ refl;
          ask = differ refl;
        }

        module _ (x : Sent) (hand : h.hand ≡ in_hand x false false) (rest : h.own.subflow.records.rest ≡ syn_record never_sent ∷ [])
            (nothing_waits : h.waiting ≡ 0) (unowed : h.owes ≡ false) (buffer_is : m.end.receiving.window ≡ j.buffer) (events : Has (Duty.Step StepDuty.Events) ds)
            (fs gs : List (Flight Carried)) (f : Flight Carried) (flies : FliesAs c keys B f answer)
            (more : fs ≡ m.flying ++ f ∷ []) (same : gs ≡ n.flying)
          where
            pub none_yet : {g w : ℕ} → g ≡ 0 → w ≡ 0 → g + w ≡ 0
            none_yet p q = omega (arith, p, q)

            pub all : m.end.tcp.send.records ≡ h.own.subflow.records.sent ++ syn_record never_sent ∷ []
            all = h.own.subflow.records.all ∙ ap (λ (rs : List Record). h.own.subflow.records.sent ++ rs) rest

            pub alone : (h.own.subflow.records.sent ≡ []) × (m.end.tcp.send.una ≡ 0)
            alone = syn_alone m.end.tcp.send.una m.end.tcp.send.nxt h.own.subflow.records.sent
                (subst (λ (rs : List Record). Tile m.end.tcp.send.una m.end.tcp.send.nxt (map span_of rs)) all h.own.subflow.records.tile)

            pub first_test : (m.end.tcp.send.una == 0) ≡ true
            first_test = rw alone.1 refl

            pub resent : RecordsAre k out_after.sender 0 (record m.end.tcp { send = after_resent clock m.end.tcp.send })
            resent = resent_alone k h.out.sender out_after.sender h.waiting clock m.end.tcp h.own.subflow.records (syn_record never_sent)
                (all ∙ ap (λ (rs : List Record). rs ++ syn_record never_sent ∷ []) alone.0)
                (one_more h.out.control_sent) (two_most unsent) (next_is h.own.subflow.records.next none_granted nothing_waits unsent)
                (h.own.subflow.records.finished ∙ few_are unsent)

            pub heard : HeardIs B k.total h.out.heard m.end.tcp
            heard = subst (λ (o : Option Hand). HeardIs B k.total (last_told h.out.heard o) m.end.tcp) hand h.own.subflow.heard

            pub own_after : EndIs B keys k j out_after.sender back_after.receiver None h.owes 0 (end_by true)
            own_after = record {
              subflow = record {
                phase = h.own.subflow.phase;
                opens = h.own.subflow.opens;
                records = record {
                  sent = resent.sent;
                  rest = resent.rest;
                  all = resent.all;
                  gone = resent.gone;
                  waits = resent.waits;
                  pieces = resent.pieces;
                  tile = resent.tile;
                  next = resent.next;
                  finished = resent.finished;
                  control = resent.control;
                  fits = resent.fits;
                };
                ahead = record {
                  bytes = h.own.subflow.ahead.bytes;
                  opened = h.own.subflow.ahead.opened;
                  finished = h.own.subflow.ahead.finished;
                  seen = h.own.subflow.ahead.seen;
                };
                congestion = record {
                  window = h.own.subflow.congestion.window;
                  most = h.own.subflow.congestion.most;
                  steady = h.own.subflow.congestion.steady;
                  row = subst (λ (o : Option Hand). m.end.tcp.congestion.duplicates ≤ row_seen h.out.sender o) hand h.own.subflow.congestion.row;
                };
                come = record { edge = h.own.subflow.come.edge; window = h.own.subflow.come.window };
                heard = record { told = heard.told; most = heard.most; end = heard.end; few = heard.few; some = heard.some };
                quiet = h.own.subflow.quiet;
                begun = λ is. one_low h.out.control_sent came;
                keyed = λ is one still. h.own.subflow.keyed is one (ap brings_still hand);
                long = h.own.subflow.long;
                due = ap (λ (d : Due). record d { syn_ack = false }) h.own.subflow.due;
              };
              sending = record {
                heard = h.own.sending.heard;
                known = h.own.sending.known;
                data_fin = max_none h.out.data_fin_sent ∙ h.own.sending.data_fin;
                acked = h.own.sending.acked;
                came = h.own.sending.came;
                shut = (λ e. h.own.sending.shut.0 nothing_waits, λ some. absurd (omega (arith, some)));
                granted = All-weaker (IsGranted h.out.sender h.waiting) (IsGranted out_after.sender 0)
                    (λ span is. record { waits = is.waits; within = within none_granted nothing_waits is.within }) m.end.sending.granted
                    h.own.sending.granted;
                spans = spans_for m.end.sending.granted h.out.acked h.out.granted h.waiting 0 (sym none_granted) nothing_waits h.own.sending.spans;
                bytes = λ some. absurd (omega (arith, some));
                end = subst (λ (x : ℕ). x ≤ h.out.clear) (sym (max_none h.out.data_fin_sent)) h.own.sending.end;
                acked_end = λ more. subst (λ (x : ℕ). 1 ≤ x) (sym (max_none h.out.data_fin_sent)) (h.own.sending.acked_end more);
                finish = λ two. absurd (not_two unsent two);
              };
              receiving = record {
                next = h.own.receiving.next;
                limit = h.own.receiving.limit;
                told = Same (told_is none.next buffer_is j_is.least);
                least = λ sent. omega arith;
                unmapped = h.own.receiving.unmapped;
                fin_told = h.own.receiving.fin_told;
                said = said_on h.own.receiving.said;
                unended = λ is. absurd (not_a is);
                unheard = λ is. absurd (not_a is);
              };
              modes = record {
                mode = h.own.modes.mode;
                standby = h.own.modes.standby;
                mapping = h.own.modes.mapping;
                owes_third = h.own.modes.owes_third;
                owes_mapping = h.own.modes.owes_mapping;
                mapped_to = rw (h.own.modes.mapping.0, h.own.modes.mapping.1) h.own.modes.mapped_to;
                plain_acks = h.own.modes.plain_acks;
                own_key = h.own.modes.own_key;
                peer_key = h.own.modes.peer_key;
                clear = h.own.modes.clear;
                capable = h.own.modes.capable;
                ready = h.own.modes.ready;
                cleared = h.own.modes.cleared;
                both = h.own.modes.both;
                shown = subst (λ (x : ℕ). x ≤ 0) (sym (max_none h.out.keys_sent)) h.own.modes.shown;
              };
              timer = h.own.timer;
              notices = h.own.notices;
            }

            pub way_after : WayIs c keys j k B out_after.sender out_after.receiver out_after.datas back_after.acks h.hand_back n.end.tcp.send.una
                m.end.tcp.recv.edge fs
            way_after = subst (λ (flying : List (Flight Carried)). WayIs c keys j k B out_after.sender out_after.receiver out_after.datas
                back_after.acks h.hand_back n.end.tcp.send.una m.end.tcp.recv.edge flying) (sym more)
                (way_more c keys j k B h.out.sender out_after.sender h.out.receiver h.hand_back n.end.tcp.send.una m.end.tcp.recv.edge
                m.end.tcp.recv.edge f answer h.out.datas h.back.acks m.flying h.way flies (
                  record { some = some_edge edge_one; bytes = omega arith; most = most_edge j.total edge_one; end = λ e. absurd (omega (arith, e)) },
                  λ is e. absurd (both_ways true e refl),
                  tt,
                )
                (refl, refl, refl, refl, least_told buffer_is j_is.least) (sym none_granted) (unsent, refl, refl)
                (le_refl m.end.tcp.recv.edge) (le_refl m.end.tcp.recv.edge) refl (control_is unsent) (keys_are h.own.modes.shown))

            pub way_back_after : WayIs c keys k j A h.back.sender back_after.receiver h.back.datas out_after.acks None m.end.tcp.send.una
                n.end.tcp.recv.edge gs
            way_back_after = subst (λ (flying : List (Flight Carried)). WayIs c keys k j A h.back.sender back_after.receiver h.back.datas out_after.acks
                None m.end.tcp.send.una n.end.tcp.recv.edge flying) (sym same) record {
                  sent = done.sent;
                  flights = done.flights;
                  datas_are = done.datas_are;
                  acks_are = done.acks_are;
                  follow = done.follow;
                  low = done.low;
                  control = done.control;
                  keys_shown = done.keys_shown;
                  rise = done.rise;
                  passed = done.passed;
                }
              where
                done : WayIs c keys k j A h.back.sender h.back.receiver h.back.datas h.out.acks None m.end.tcp.send.una n.end.tcp.recv.edge n.flying
                done = way_done c keys k j A h.back.sender h.back.receiver h.back.datas h.out.acks m.end.tcp.send.una n.end.tcp.recv.edge n.flying x
                    (subst (λ (o : Option Hand). WayIs c keys k j A h.back.sender h.back.receiver h.back.datas h.out.acks o m.end.tcp.send.una
                    n.end.tcp.recv.edge n.flying) hand h.way_back)

            abbrev pub syn_ack_sent : Facing B keys k j c begun begun_back (record m { end = end_by true; flying = fs }) (record n { flying = gs })
                clock until ds
            syn_ack_sent = record {
              out = out_after;
              back = back_after;
              stage = waiting_on h.stage;
              stage_back = record (waiting_on h.stage_back) { tell = false };
              going = stands_then (stands_then h.going (waiting_on h.stage) h.out (goes_back (waiting_on h.stage) (before_waiting h.stage)))
                  (waiting_on h.stage) out_after (sends_none (copy_in answer) (sym none_granted) may_send);
              going_back = stands_then (stands_then h.going_back (waiting_on h.stage_back) h.back
                  (goes_back (waiting_on h.stage_back) (before_waiting h.stage_back))) (record (waiting_on h.stage_back) { tell = false }) back_after
                  (says false h.stage_back.update (copy_in answer) may_say);
              now = h.now;
              now_back = h.now_back;
              hand = None;
              hand_back = h.hand_back;
              owes = h.owes;
              owes_back = h.owes_back;
              waiting = 0;
              waiting_back = h.waiting_back;
              own = own_after;
              other = h.other;
              way = way_after;
              way_back = way_back_after;
              apps = record {
                writes = record { numbers = h.apps.writes.numbers; over = h.apps.writes.over };
                reads = record { numbers = h.apps.reads.numbers; received = h.apps.reads.received; over = h.apps.reads.over };
                receives = record {
                  read = h.apps.receives.read;
                  received = h.apps.receives.received;
                  known = h.apps.receives.known;
                  capacity = h.apps.receives.capacity;
                };
                book = record {
                  edge = h.apps.book.edge;
                  owner = h.apps.book.owner;
                  marks = h.apps.book.marks;
                  taken = subst (λ (n : ℕ). AreTaken n m.send.marks) (none_yet none_granted nothing_waits) h.apps.book.taken;
                };
                room = omega arith;
                whole = h.apps.whole;
                fin = h.apps.fin;
              };
              apps_back = record {
                writes = record { numbers = h.apps_back.writes.numbers; over = h.apps_back.writes.over };
                reads = record {
                  numbers = h.apps_back.reads.numbers;
                  received = h.apps_back.reads.received;
                  over = h.apps_back.reads.over;
                };
                receives = record {
                  read = h.apps_back.receives.read;
                  received = h.apps_back.receives.received;
                  known = h.apps_back.receives.known;
                  capacity = h.apps_back.receives.capacity;
                };
                book = record {
                  edge = h.apps_back.book.edge;
                  owner = h.apps_back.book.owner;
                  marks = h.apps_back.book.marks;
                  taken = h.apps_back.book.taken;
                };
                room = h.apps_back.room;
                whole = h.apps_back.whole;
                fin = h.apps_back.fin;
              };
              stages = stage_waits B A ds n.end.treated.asked h.owes_back h.stage events
                  (stage_drops B A (Duty.Send (SendDuty.SynAck B)) ds n.end.treated.asked h.owes_back h.stage others h.stages);
              stages_back = answered_drops (stage_waits A B (Duty.Send (SendDuty.SynAck B) ∷ ds) m.end.treated.asked h.owes h.stage_back (inr events) h.stages_back);
              control = h.control;
              control_back = h.control_back;
              turn = h.turn;
              turn_back = h.turn_back;
              settles = settles_drop B (Duty.Send (SendDuty.SynAck B)) ds m.end (differ refl) h.settles;
              settles_back = settles_drop A (Duty.Send (SendDuty.SynAck B)) ds n.end (differ refl) h.settles_back;
              begins = inl (one_more h.out.control_sent);
              begins_back = begun_drops A k h.back.sender h.out.receiver n.end (Duty.Send (SendDuty.SynAck B)) ds (differ refl) (λ is. differ refl) h.begins_back;
              owed = λ e b. absurd (both_ways _ unowed e);
              owed_back = h.owed_back;
            }
