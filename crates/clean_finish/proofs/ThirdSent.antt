-- A answers the SYN/ACK: its third segment shows both keys (RFC 8684, section 3.1).
use Rattle.clean_finish.proofs.Words.{◌≡◌, refl, sym, subst, ap, ◌∙◌, ℕ, ◌+◌, ◌-◌, ◌<◌, ◌≤◌, min, max, nat_lt, Bool, true, false, cond, ◌&&◌, if◌then◌else◌, length, made}
use Rattle.clean_finish.proofs.Words.{inl, inr, ⊎_elim, Option, None, List, [], ◌∷◌, ◌++◌, arith, Some, le_refl, ◌==◌, both_ways, and_parts, eqb-true, Side, A}
use Rattle.clean_finish.proofs.Words.{B, Occasion, Flight, going_to, plain_flight, after_send, PlainSegment, Duty, SendDuty, StepDuty, AskDuty, emission}
use Rattle.clean_finish.proofs.Words.{SilentDuty, SixBooks, AppState, Profile, Carried, carried_by, stripped, altered, values, PathEnd, acknowledges, PathState}
use Rattle.clean_finish.proofs.Words.{with_agenda, ack_said, having_sent, sent_on, Setting, Copy, Lane, Stage, is_whole, all_left, data_ack, Going, pending}
use Rattle.clean_finish.proofs.Words.{MaySay, MaySend, sends_none, repeats, is_same, PathPlan, Start, Hand, HeardIs, WayIs, last_told, row_seen, brings_still}
use Rattle.clean_finish.proofs.Words.{Sent, Keys, copy_in, said, FliesAs, ShowsKeys, Before, own_bench, other_bench, IsSetting, Runs, keys_in, Facing, Half}
use Rattle.clean_finish.proofs.Words.{Has, StageIs, TreatsThird}
use Rattle.clean_finish.proofs.Dropping.{differ, behind, behind_or, IsApart, stage_drops, settles_drop, begun_drops}
use Rattle.clean_finish.proofs.Hands.{in_hand, way_done}
use Rattle.clean_finish.proofs.Linking.{carried_is, last_from_a, others_of_a, link_after_a}
use Rattle.clean_finish.proofs.Opened.{waiting_on}
use Rattle.clean_finish.proofs.Plainly.{plain_on}
use Rattle.clean_finish.proofs.Quiet.{now_out, now_back}
use Rattle.clean_finish.proofs.Saying.{end_after, own_said}
use Rattle.clean_finish.proofs.Sendings.{same_bytes, sent_off}
use Rattle.clean_finish.proofs.Templates.{emission_plain, emission_emits}

-- as a lane counts it
abbrev pub third_at : (at low window edge least : ℕ) → Sent
third_at at low window edge least = record {
  at = at;
  brings = ShowsKeys;
  low = low;
  control = 1;
  keys = 1;
  telling = record { next = 0; edge = least; seen = 1; dss = 0 };
  window = window;
  edge = edge;
}

-- this third ACK is the acknowledgement that A sends before it heard a DSS
pub third_is : (c : Profile) (keys : Keys) (at low least : ℕ) (e : PathEnd) → e.modes.identity ≡ false → e.modes.clear ≡ false → e.modes.owes_third ≡ false
    → e.modes.peer_key ≡ Some keys.b → e.modes.own_key ≡ keys.a → e.tcp.send.nxt ≡ low + 1
    → ack_said c A e.tcp.send.nxt None e ≡ said c keys A (third_at at low e.receiving.window e.tcp.recv.edge least)
third_is c keys at low least e mptcp unclear third key own next = rw (mptcp, unclear, third, key, own, next) refl

-- what an acknowledgement tells again was owed, or isn't all
pub paid_by : (k : Setting) (p : Stage) (x : Copy) (w : Lane) → p.tell ≡ true → data_ack k w ≤ x.telling.next → w.control_came ≤ x.telling.seen
    → w.keys_came ≤ x.telling.dss → repeats w.told x + w.said + 0 ≤ max w.said x.data_fin + pending k p w
paid_by k p x w tell all seen dss =
    subst (λ (b : Bool). repeats w.told x + w.said + 0 ≤ max w.said x.data_fin + cond b owed 0) (sym tell) (by x.solid (is_same w.told x.telling) refl)
  where
    owed : ℕ
    owed = ((1 - (data_ack k w - w.told.next)) - (w.control_came - w.told.seen)) - (w.keys_came - w.told.dss)

    few : (y z d : ℕ) → y + 0 ≤ max y d + z
    few y z d = omega arith

    same : {a c d n s f : ℕ} (y m : ℕ) → a ≤ n → c ≤ s → d ≤ f → {n' s' f' : ℕ} → n' ≡ n → s' ≡ s → f' ≡ f → 1 + y + 0 ≤ max y m + (((1 - (a - n')) - (c - s')) - (d - f'))
    same y m a b c x z e = omega (arith, a, b, c, x, z, e)

    by : (solid again : Bool) → is_same w.told x.telling ≡ again → cond solid 0 (cond again 1 0) + w.said + 0 ≤ max w.said x.data_fin + owed
    by true again e = zero_plus w.said owed x.data_fin
      where
        zero_plus : (y z d : ℕ) → 0 + y + 0 ≤ max y d + z
        zero_plus y z d = omega arith
    by false false e = zero_plus w.said owed x.data_fin
      where
        zero_plus : (y z d : ℕ) → 0 + y + 0 ≤ max y d + z
        zero_plus y z d = omega arith
    by false true e =
        let first = and_parts (w.told.next == x.telling.next) ((w.told.edge == x.telling.edge) && ((w.told.seen == x.telling.seen) && (w.told.dss == x.telling.dss))) e in
        let second = and_parts (w.told.edge == x.telling.edge) ((w.told.seen == x.telling.seen) && (w.told.dss == x.telling.dss)) first.1 in
        let third = and_parts (w.told.seen == x.telling.seen) (w.told.dss == x.telling.dss) second.1 in
        same w.said x.data_fin all seen dss (eqb-true _ _ first.0) (eqb-true _ _ third.0) (eqb-true _ _ third.1)

-- the answer isn't owed any more
pub answered_drops : {ds : List Duty} {asked owes : Bool} (u : Bool) {p : Stage} → (p.update ≡ u) → StageIs B A (Duty.Send (SendDuty.Acknowledge A) ∷ ds) asked owes p
    → Has (Duty.Step StepDuty.Events) ds → StageIs B A ds asked false (record (waiting_on p) { tell = false; update = u })
answered_drops {ds} u at is events = record {
  window = behind_or ds (differ refl) is.window;
  update = ⊎_elim (λ none. inl (sym at ∙ none)) (λ i. inr (behind ds (differ refl) i)) is.update;
  emit = behind_or ds (differ refl) is.emit;
  finish = behind_or ds (differ refl) is.finish;
  wait = inr events;
  tell = inl refl;
  ask = ⊎_elim (λ e. inl e) (λ a. inr (⊎_elim (λ i. inl (behind ds (differ refl) i)) (λ i. inr (behind ds (differ refl) i.0, i.1)) a)) is.ask;
}

module _ {keys : Keys} {k j : Setting} {c : Profile} {begun begun_back : Lane} {m n : Half} {clock until : ℕ} (ticks t u : ℕ)
    (k_is : IsSetting c ticks k) (j_is : IsSetting c ticks j)
    (going : Going k begun t all_left begun) (going_back : Going j begun_back u all_left begun_back)
    {ds : List Duty} (h : Facing A keys k j c begun begun_back m n clock until (Duty.Send (SendDuty.Acknowledge A) ∷ ds))
  where
    pub lane : Going k begun t h.stage h.out
    lane = now_out ticks t u k_is j_is going going_back h

    lane_back : Going j begun_back u h.stage_back h.back
    lane_back = now_back ticks t u k_is j_is going going_back h

    abbrev pub third : Sent
    third = third_at (clock + ticks) h.out.granted m.end.receiving.window m.end.tcp.recv.edge j.least

    module _ (sent_one : h.out.control_sent ≡ 1) (came : h.back.control_came ≡ 1) (received : h.back.received ≡ 0) (data_fin : h.back.data_fin_came ≡ 0)
        (unshown : h.out.keys_sent ≡ 0) (asked : h.stage_back.window ≡ false) (ready : h.out.ready ≡ 1) (owes : h.owes ≡ true) (nothing_waits : h.waiting ≡ 0)
        (x : Sent) (hand : h.hand ≡ in_hand x false false) (events : Has (Duty.Step StepDuty.Events) ds) (timer : Has (Duty.Silent (SilentDuty.Timer A)) ds)
        (fs gs : List (Flight Carried)) (f : Flight Carried) (flies : FliesAs c keys A f third)
        (more : fs ≡ m.flying ++ f ∷ []) (same : gs ≡ n.flying)
      where
        at_is : {x y d e : ℕ} → x ≡ y → d ≡ e → y + d ≡ x + e
        at_is is ticks_are = omega (arith, is, ticks_are)

        pub may_send : MaySend k (waiting_on h.stage) (copy_in third) h.out
        may_send = record {
          turn = refl;
          at = at_is h.now.0 k_is.delay;
          low = refl;
          high = plus h.out.granted;
          written = none_more lane.numbers.granted;
          edge = none_more lane.numbers.edge;
          data_fin = few lane.numbers.data_fin_sent;
        }
          where
            plus : (x : ℕ) → x ≤ x + 0
            plus x = omega arith

            none_more : {x y : ℕ} → x ≤ y → x + 0 ≤ y
            none_more less = omega (arith, less)

            few : {x y : ℕ} → x ≤ y → 0 + x ≤ y
            few less = omega (arith, less)

        nothing : data_ack j h.back ≤ 0
        nothing = none j.total received data_fin
          where
            none : {received came : ℕ} (total : ℕ) → received ≡ 0 → came ≡ 0 → received + min came ((received + 1) - total) ≤ 0
            none total a b = omega (arith, a, b)

        most : h.back.control_came ≤ 1
        most = one came
          where
            one : {x : ℕ} → x ≡ 1 → x ≤ 1
            one is = omega (arith, is)

        no_keys : h.back.keys_came ≤ 0
        no_keys = up lane_back.numbers.keys h.other.modes.shown
          where
            up : {x y : ℕ} → x ≤ y → y ≤ 0 → x ≤ 0
            up a b = omega (arith, a, b)

        pub may_say : MaySay j begun_back (waiting_on h.stage_back) false h.stage_back.update (copy_in third) h.back
        may_say = record {
          turn = refl;
          at = at_is h.now_back.0 j_is.delay;
          so = (omega arith, least h.back.read (is_whole j h.back) j_is.ranges.least, some came, omega arith);
          all = λ e. (nothing, most, no_keys);
          window = λ e one. near j.least j.threshold lane_back.since.read lane_back.numbers.read received;
          paid = paid_by j (waiting_on h.stage_back) (copy_in third) h.back (h.owed owes (ap brings_still hand)) nothing most no_keys;
        }
          where
            least : {buffer low : ℕ} (read whole : ℕ) → low ≤ buffer → low ≤ read + buffer + whole
            least read whole fits = omega (arith, fits)

            some : {x : ℕ} → x ≡ 1 → 1 ≤ x
            some is = omega (arith, is)

            near : {x y z : ℕ} (least threshold : ℕ) → x ≤ y → y ≤ z → z ≡ 0 → x + least < least + 31 + threshold
            near least threshold a b is = omega (arith, a, b, is)

        pub some_sent : {x : ℕ} → x ≡ 1 → 1 ≤ x
        some_sent is = omega (arith, is)

        pub one_control : {x : ℕ} → x ≡ 1 → max x 1 ≡ x
        one_control is = omega (arith, is)

        pub one_again : {x : ℕ} → x ≡ 1 → 1 ≡ max x 1
        one_again is = omega (arith, is)

        pub one_key : {x r : ℕ} → x ≡ 0 → r ≡ 1 → max x 1 ≤ r
        one_key a b = omega (arith, a, b)

        pub key_is : {x : ℕ} → x ≡ 0 → 1 ≡ max x 1
        key_is is = omega (arith, is)

        edge_is : {edge received came : ℕ} → edge ≡ 1 + received + (came - 1) → received ≡ 0 → came ≡ 1 → edge ≡ 1
        edge_is a b d = omega (arith, a, b, d)

        pub edge_one : m.end.tcp.recv.edge ≡ 1
        edge_one = edge_is h.own.subflow.come.edge received came

        pub some_edge : {x : ℕ} → x ≡ 1 → 1 ≤ x
        some_edge is = omega (arith, is)

        pub most_edge : {x : ℕ} (total : ℕ) → x ≡ 1 → x ≤ 1 + total + 0
        most_edge total is = omega (arith, is)

        pub under : (x : ℕ) → x ≤ x + 31
        under x = omega arith

        pub full_told : j.buffer ≤ (end_after h third h.out.shut).receiving.told_edge + 31
        full_told = full (lane_back.asked.limit asked) h.own.receiving.limit
          where
            full : {buffer limit edge : ℕ} → begun_back.read + buffer ≤ limit + 31 → limit ≡ edge → buffer ≤ edge + 31
            full less is = omega (arith, less, is)

        pub room : {g w : ℕ} → g ≤ w → g + 0 + 0 ≤ w
        room less = omega (arith, less)

        pub row : m.end.tcp.congestion.duplicates ≤ row_seen h.out.sender None
        row = subst (λ (o : Option Hand). m.end.tcp.congestion.duplicates ≤ row_seen h.out.sender o) hand h.own.subflow.congestion.row

        pub heard : HeardIs A k.total (last_told h.out.heard None) m.end.tcp
        heard = subst (λ (o : Option Hand). HeardIs A k.total (last_told h.out.heard o) m.end.tcp) hand h.own.subflow.heard

        pub done : WayIs c keys k j B h.back.sender h.back.receiver h.back.datas h.out.acks None m.end.tcp.send.una n.end.tcp.recv.edge n.flying
        done = way_done c keys k j B h.back.sender h.back.receiver h.back.datas h.out.acks m.end.tcp.send.una n.end.tcp.recv.edge n.flying x
            (subst (λ (o : Option Hand). WayIs c keys k j B h.back.sender h.back.receiver h.back.datas h.out.acks o m.end.tcp.send.una
            n.end.tcp.recv.edge n.flying) hand h.way_back)

        pub others : IsApart A B (Duty.Send (SendDuty.Acknowledge A))
        others = record {
          window = differ refl;
          update = differ refl;
          emit = differ refl;
          finish = differ refl;
          wait = differ refl;
          syn_ack = differ refl;
          acknowledge = λ e. cc;
          ask = differ refl;
        }

        abbrev pub third_sent : Facing A keys k j c begun begun_back (record m { end = end_after h third h.out.shut; flying = fs }) (record n { flying = gs })
            clock until ds
        third_sent = sent_off h third h.out.shut ds (sends_none (copy_in third) (plus_none h.out.granted) may_send) false h.stage_back.update may_say
            (end_after h third h.out.shut) None false 0
            (own_said h third h.out.shut None (ap brings_still hand) nothing_waits (some_sent sent_one) refl refl refl refl (one_control sent_one) (one_key unshown ready)
            (Before refl (inl received) refl full_told) (under j.least) (λ is clear. (received, data_fin, λ one. full_told)) row heard)
            fs gs f flies more same
            (record { some = some_edge edge_one; bytes = omega arith; most = most_edge j.total edge_one; end = λ e. absurd (omega (arith, e)) }, λ is e. omega arith, edge_one)
            (refl, refl, refl, refl) refl (sent_one, refl, unshown, refl) (le_refl m.end.tcp.recv.edge) (le_refl m.end.tcp.recv.edge)
            (one_again sent_one) (key_is unshown) done (room lane.numbers.granted) (same_bytes h.out.granted nothing_waits) events
            (stage_drops A B (Duty.Send (SendDuty.Acknowledge A)) ds n.end.treated.asked h.owes_back h.stage others h.stages)
            (answered_drops h.stage_back.update refl h.stages_back events)
            (inr timer) (settles_drop B (Duty.Send (SendDuty.Acknowledge A)) ds n.end (differ refl) h.settles_back) (some_max sent_one)
            (begun_drops B k h.back.sender h.out.receiver n.end (Duty.Send (SendDuty.Acknowledge A)) ds (differ refl) (λ is. differ refl) h.begins_back)
            (λ e b. absurd (both_ways false refl e))
          where
            plus_none : (x : ℕ) → x + 0 ≡ x
            plus_none x = omega arith

            some_max : {x : ℕ} → x ≡ 1 → 1 ≤ max x 1
            some_max is = omega (arith, is)

module _ (start : Start) (plan : PathPlan) (k j : Setting) (s v : Lane) (t0 u0 : ℕ)
    (going : Going k s t0 all_left s) (going_back : Going j v u0 all_left v)
  where
    abbrev keys : Keys
    keys = keys_in start

    module _ (a b : AppState) (books : SixBooks) (p : PathState Carried) (ds : List Duty)
        (k_is : IsSetting p.profile plan.delay k) (j_is : IsSetting p.profile plan.delay j)
      where
        abbrev Relation : PathState Carried → Type 0
        Relation q = Runs start plan k j s v a b books q

        abbrev sends_off : PlainSegment → PathState Carried
        sends_off segment = sent_on values A segment (having_sent Occasion.Ack p.clock segment p.a) (emission A) (with_agenda (Duty.Send (SendDuty.Acknowledge A) ∷ emission A) p)

        third_goes : (h : Relation (with_agenda (Duty.Send (SendDuty.Acknowledge A) ∷ emission A) p)) → TreatsThird A keys (own_bench h.faces) (other_bench h.faces) (emission A)
            → Relation (acknowledges values A (with_agenda (Duty.Send (SendDuty.Acknowledge A) ∷ emission A) p))
        third_goes h t =
            let x = third plan.delay t0 u0 k_is j_is going going_back h.faces in
            let segment = said p.profile keys A x in
            let carried = carried_by p.profile.spelling A segment in
            let size = length (made p.profile.spelling A segment) in
            let strip : Side → Carried → Carried = λ side sent. stripped sent in
            let alter : Side → Carried → Carried = λ side sent. altered sent in
            let there = emission_emits A in
            let faces = third_sent plan.delay t0 u0 k_is j_is going going_back h.faces t.0.sent_one t.0.came t.0.received t.0.data_fin t.0.unshown (⊎_elim (λ is. is) (λ there. absurd (no_window there)) h.stages_back.window) t.0.ready
            t.0.owes t.0.waiting t.0.sent t.0.hand there.events there.timer
            (going_to B (after_send strip alter A carried size p.clock p.link).under_way)
            (going_to A (after_send strip alter A carried size p.clock p.link).under_way)
            (plain_flight strip alter A carried p.clock p.link)
            (record { tick = ap (λ (n : ℕ). p.clock + n) h.path.delay; to = refl; carried = carried_is strip alter carried size p.clock p.link h.path.unspoken h.link A })
            (last_from_a strip alter carried size p.clock p.link h.path.unspoken h.link)
            (others_of_a strip alter carried size p.clock p.link h.path.unspoken h.link) in
            subst (λ (sg : PlainSegment). Relation (sends_off sg))
            (sym (third_is p.profile keys (p.clock + plan.delay) h.out.granted j.least p.a h.own.modes.mapping.0 (unclear p.a.modes.clear (h.own.modes.clear) t.0.unclear)
            h.own.modes.owes_third (h.own.modes.peer_key ∙ key_by t.0.ready) h.own.modes.own_key (next_is h.out.granted h.own.subflow.records.next t.0.waiting t.0.sent_one)))
            (record {
              path = record {
                profile = h.path.profile;
                delay = h.path.delay;
                number = h.path.number;
                unspoken = h.path.unspoken;
                lines = h.path.lines;
                joined = h.path.joined;
              };
              link = link_after_a strip alter carried size p.clock p.link h.path.unspoken h.link;
              faces = faces;
              treats = plain_on keys (own_bench faces) (other_bench faces) (emission A) (
                record {
                  none = refl;
                  idle = record { places = t.0.idle.places; incoming = t.0.idle.incoming; fin = t.0.idle.fin };
                  mapped = t.0.mapped;
                  least = λ is. cc;
                  owes = refl;
                  answered = answered h.out.control_sent t.0.came;
                  ready = λ is. one_ready h.back.control_came t.0.ready;
                  shown = λ is. shown h.out.keys_sent t.0.ready;
                },
                t.1,
              ) refl t.2 (emission_plain A);
            })
          where
            no_window : Has (Duty.Ask (AskDuty.Window A)) (Duty.Send (SendDuty.Acknowledge A) ∷ emission A) → ⊥
            no_window (inl same) = differ refl same
            no_window (inr (inl same)) = differ refl same
            no_window (inr (inr (inl same))) = differ refl same
            no_window (inr (inr (inr (inl same)))) = differ refl same
            no_window (inr (inr (inr (inr (inl same))))) = differ refl same
            no_window (inr (inr (inr (inr (inr (inl same)))))) = differ refl same
            no_window (inr (inr (inr (inr (inr (inr (inl same))))))) = differ refl same
            no_window (inr (inr (inr (inr (inr (inr (inr (inl same)))))))) = differ refl same
            no_window (inr (inr (inr (inr (inr (inr (inr (inr (inl same))))))))) = differ refl same
            no_window (inr (inr (inr (inr (inr (inr (inr (inr (inr (inl same)))))))))) = differ refl same
            no_window (inr (inr (inr (inr (inr (inr (inr (inr (inr (inr never)))))))))) = never

            unclear : (b : Bool) {x : ℕ} → x ≡ (if b then 1 else 0) → x ≡ 0 → b ≡ false
            unclear true is none = absurd (omega (arith, is, none))
            unclear false is none = refl

            key_by : {x : ℕ} → x ≡ 1 → (if nat_lt 0 x then Some keys.b else None) ≡ Some keys.b
            key_by is = rw is refl

            next_is : {nxt w c : ℕ} (g : ℕ) → nxt ≡ 1 + g + w + (c - 1) → w ≡ 0 → c ≡ 1 → nxt ≡ g + 1
            next_is g is a b = omega (arith, is, a, b)

            answered : {y : ℕ} (x : ℕ) → y ≡ 1 → min 1 y ≤ max x 1
            answered x is = omega (arith, is)

            one_ready : {r : ℕ} (y : ℕ) → r ≡ 1 → min 1 y ≤ r
            one_ready y is = omega (arith, is)

            shown : {r : ℕ} (y : ℕ) → r ≡ 1 → r ≤ max y 1
            shown y is = omega (arith, is)

        pub third_answered : (h : Relation (with_agenda (Duty.Send (SendDuty.Acknowledge A) ∷ ds) p)) → TreatsThird A keys (own_bench h.faces) (other_bench h.faces) ds
            → Relation (acknowledges values A (with_agenda (Duty.Send (SendDuty.Acknowledge A) ∷ ds) p))
        third_answered h t =
            subst (λ (es : List Duty). (g : Relation (with_agenda (Duty.Send (SendDuty.Acknowledge A) ∷ es) p))
            → TreatsThird A keys (own_bench g.faces) (other_bench g.faces) es → Relation (acknowledges values A (with_agenda (Duty.Send (SendDuty.Acknowledge A) ∷ es) p)))
            (sym t.3) third_goes h t
