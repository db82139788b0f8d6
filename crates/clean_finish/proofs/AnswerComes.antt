-- The step in which the SYN/ACK arrives at A.
use Rattle.clean_finish.proofs.Words.{◌≡◌, refl, sym, subst, ap, ◌∙◌, ℕ, ◌+◌, ◌-◌, ◌<◌, ◌≤◌, max, nat_lt, Bool, true, false, inl, ⊎_elim, Option, None, List}
use Rattle.clean_finish.proofs.Words.{[], ◌∷◌, ◌++◌, map, arith, Some, nat_le, ◌^◌, cases_lt, lt-ltb, le-leb, A, B, State, EndState, SynSent, Meaning}
use Rattle.clean_finish.proofs.Words.{meaning_of, SubflowCopy, Flight, going_to, due_of, meant, HeardSegment, Duty, StepDuty, syn_ack_came, SixBooks, AppState}
use Rattle.clean_finish.proofs.Words.{Carried, values, PathEnd, held_of, copy_of, reset_for, copy_taken, is_connected, PathState, goes_on, Setting, Copy, Lane}
use Rattle.clean_finish.proofs.Words.{all_left, Going, In, PathPlan, Start, Hand, WayIs, IsPhase, tells_in, Sent, Keys, Brings, copy_in, CountsAs, TellsAs}
use Rattle.clean_finish.proofs.Words.{Rise, edge_after, said, OpensSubflow, IsSetting, Runs, keys_in, Facing, half, Opening, Listening, HalfOpen, Open}
use Rattle.clean_finish.proofs.AnswerArrived.{answer_arrived}
use Rattle.clean_finish.proofs.AnswerHeard.{answer_at, acked, end_by, acked_is}
use Rattle.clean_finish.proofs.ArrivesAtA.{copy, q, tick, moment, first, moved, link, Follows, follows, comes_as}
use Rattle.clean_finish.proofs.CopyTaken.{heard_as}
use Rattle.clean_finish.proofs.Hands.{way_none}
use Rattle.clean_finish.proofs.Quiet.{now_out, now_back}
use Rattle.clean_finish.proofs.SynComes.{idle_on}

-- before its SYN is answered A waits for that
waits : (came una : ℕ) (finished : Bool) (state : State) → IsPhase A came una finished state → came ≡ 0 → (una ≡ 0) × (state ≡ SynSent)
waits came una finished state (Opening side none low is) zero_came = (low, is)
waits came una finished state (Listening side none low is) zero_came = absurd (not_b side)
  where
    not_b : A ≡ B → ⊥
    not_b e = cc
waits came una finished state (HalfOpen side one low is) zero_came = absurd (omega (arith, one, zero_came))
waits came una finished state (Open some high is) zero_came = absurd (omega (arith, some, zero_came))

-- the SYN/ACK by what varies of it
answer_shape : (x : Sent) (came keys_came least received : ℕ) → x.brings ≡ OpensSubflow → x.low ≡ received
    → CountsAs came keys_came x.control x.keys x.brings → TellsAs least B x.window x.telling x.brings
    → x ≡ answer_at x.at received x.window x.edge least
answer_shape x came keys_came least received brings low counts tells =
    let c = subst (λ (y : Brings). CountsAs came keys_came x.control x.keys y) brings counts in
    let t = subst (λ (y : Brings). TellsAs least B x.window x.telling y) brings tells in
    by x.brings x.low x.control x.keys x.telling.next x.telling.edge x.telling.seen x.telling.dss brings low c.1 c.2 t.0 t.1 t.2 t.3
  where
    by : (y : Brings) (low' control keys next edge seen dss : ℕ) → y ≡ OpensSubflow → low' ≡ received → control ≡ 1 → keys ≡ 0 → next ≡ 0
        → edge ≡ least → seen ≡ 1 → dss ≡ 0
        → record x { brings = y; low = low'; control = control; keys = keys; telling = record { next = next; edge = edge; seen = seen; dss = dss } }
        ≡ answer_at x.at received x.window x.edge least
    by y low' control keys next edge seen dss a b e f g i l o = rw (a, b, e, f, g, i, l, o) refl

-- an opening end accepts what acknowledges its SYN
accepts : (c : SubflowCopy) (s : EndState) (acknowledged : ℕ) → s.state ≡ SynSent → nat_le (2 ^ 61) s.send.nxt ≡ false → nat_le (2 ^ 61) s.recv.edge ≡ false
    → c.acknowledged ≡ Some acknowledged → nat_lt 0 acknowledged ≡ true → nat_le acknowledged s.send.nxt ≡ true → c.rst ≡ false → c.syn ≡ true
    → meaning_of c s ≡ Meaning.Accepts acknowledged
accepts c s acknowledged state far far_edge is some most reset syn = rw (state, far, far_edge, is, some, most, reset, syn) refl

-- the first of them isn't ahead of the last
pub edge_first : (edge : ℕ) (xs : List Sent) → Rise edge xs → edge ≤ edge_after edge xs
edge_first edge [] rise = omega arith
edge_first edge (x ∷ xs) rise = up rise.0 (edge_first x.edge xs rise.1)
  where
    up : {x y z : ℕ} → x ≤ y → y ≤ z → x ≤ z
    up a b = omega (arith, a, b)

module _ (start : Start) (plan : PathPlan) (k j : Setting) (s v : Lane) (t0 u0 : ℕ)
    (going : Going k s t0 all_left s) (going_back : Going j v u0 all_left v)
  where
    abbrev keys : Keys
    keys = keys_in start

    module _ (a b : AppState) (books : SixBooks) (p : PathState Carried) (f : Flight Carried) (others : List (Flight Carried))
        (k_is : IsSetting p.profile plan.delay k) (j_is : IsSetting p.profile plan.delay j)
        (h : Runs start plan k j s v a b books (q start plan k j s v t0 u0 going going_back a b books p f others k_is j_is)) (early : f.tick < p.until)
      where
        abbrev x : Sent
        x = (first start plan k j s v t0 u0 going going_back a b books p f others k_is j_is h early).x

        abbrev now_before : PathState Carried
        now_before = q start plan k j s v t0 u0 going going_back a b books p f others k_is j_is

        abbrev now : PathState Carried
        now = moment start plan k j s v t0 u0 going going_back a b books p f others k_is j_is

        abbrev Relation : PathState Carried → Type 0
        Relation r = Runs start plan k j s v a b books r

        module _ (brings : x.brings ≡ OpensSubflow) where
          follow : Follows start plan k j s v t0 u0 going going_back a b books p f others k_is j_is h early
          follow = follows start plan k j s v t0 u0 going going_back a b books p f others k_is j_is h early

          abbrev face : Facing A keys k j p.profile s v (half A a books now_before) (half B b books now_before) (tick start plan k j s v t0 u0 going going_back a b books p f others k_is j_is) p.until
              ((Duty.Step StepDuty.Events) ∷ Duty.End ∷ [])
          face = moved start plan k j s v t0 u0 going going_back a b books p f others k_is j_is h early

          lane : Going k s t0 h.stage h.out
          lane = now_out plan.delay t0 u0 k_is j_is going going_back h.faces

          lane_back : Going j v u0 h.stage_back h.back
          lane_back = now_back plan.delay t0 u0 k_is j_is going going_back h.faces

          none : h.back.control_came ≡ 0
          none = (subst (λ (y : Brings). CountsAs h.back.control_came h.back.keys_came x.control x.keys y) brings follow.counts).0

          state : (p.a.tcp.send.una ≡ 0) × (p.a.tcp.state ≡ SynSent)
          state = waits h.back.control_came p.a.tcp.send.una p.a.tcp.send.finished p.a.tcp.state h.own.subflow.phase none

          quiet : (h.back.received ≡ 0) × (h.out.ready ≡ 0) × (h.back.data_fin_came ≡ 0) × (h.back.keys_came ≡ 0)
          quiet = h.own.subflow.quiet (ap is_connected state.1)

          tells : TellsAs k.least B x.window x.telling OpensSubflow
          tells = subst (λ (y : Brings). TellsAs k.least B x.window x.telling y) brings follow.tells

          shape : x ≡ answer_at x.at h.back.received x.window x.edge k.least
          shape = answer_shape x h.back.control_came h.back.keys_came k.least h.back.received brings follow.low follow.counts follow.tells

          abbrev heard : HeardSegment
          heard = meant (said p.profile keys B (answer_at x.at h.back.received x.window x.edge k.least))

          acks_are : h.out.acks ≡ map copy_in (x ∷ (first start plan k j s v t0 u0 going going_back a b books p f others k_is j_is h early).xs)
          acks_are = h.way_back.acks_are ∙ (ap (λ (o : Option Hand). map copy_in (tells_in o ++ h.way_back.sent)) h.treats.0.0.none
              ∙ ap (λ (ys : List Sent). map copy_in ys) (first start plan k j s v t0 u0 going going_back a b books p f others k_is j_is h early).is)

          sent_some : 1 ≤ h.out.control_sent
          sent_some = up tells.2 (lane.under_way.acks_are (copy_in x) (subst (λ (cs : List Copy). In (copy_in x) cs) (sym acks_are) (inl refl))).2
              lane.numbers.control
            where
              up : {seen came sent : ℕ} → seen ≡ 1 → seen ≤ came → came ≤ sent → 1 ≤ sent
              up is a b = omega (arith, is, a, b)

          granted : h.out.granted ≡ 0
          granted = zero_is h.out.granted (λ one. not_both (h.own.sending.bytes (more h.waiting one)) quiet.1)
            where
              zero_is : (n : ℕ) → (1 ≤ n → ⊥) → n ≡ 0
              zero_is n low = omega (arith, low)

              more : {n : ℕ} (m : ℕ) → 1 ≤ n → 1 ≤ n + m
              more m one = omega (arith, one)

              not_both : {n : ℕ} → 1 ≤ n → n ≡ 0 → ⊥
              not_both one is = absurd (omega (arith, one, is))

          sent_one : h.out.control_sent ≡ 1
          sent_one = ⊎_elim (λ two. absurd (never two)) (λ few. same few sent_some) (cases_lt 1 h.out.control_sent)
            where
              same : {n : ℕ} → n ≤ 1 → 1 ≤ n → n ≡ 1
              same few some = omega (arith, few, some)

              zero_ready : {n m r : ℕ} → 1 ≤ n → n ≤ m → m ≤ r → r ≡ 0 → ⊥
              zero_ready one a b is = absurd (omega (arith, one, a, b, is))

              never : 1 < h.out.control_sent → ⊥
              never two = zero_ready (h.own.sending.acked_end (h.own.sending.finish (two_is two))) h.own.sending.end h.own.modes.cleared quiet.1
                where
                  two_is : {n : ℕ} → 1 < n → 2 ≤ n
                  two_is less = omega (arith, less)

          nxt : p.a.tcp.send.nxt ≡ 1
          nxt = one h.own.subflow.records.next granted h.treats.1 sent_one
            where
              one : {n g w c : ℕ} → n ≡ 1 + g + w + (c - 1) → g ≡ 0 → w ≡ 0 → c ≡ 1 → n ≡ 1
              one is a b c = omega (arith, is, a, b, c)

          own_edge : p.a.tcp.recv.edge ≡ 1
          own_edge = one h.own.subflow.come.edge quiet.0 none
            where
              one : {n r c : ℕ} → n ≡ 1 + r + (c - 1) → r ≡ 0 → c ≡ 0 → n ≡ 1
              one is a b = omega (arith, is, a, b)

          other_edge : p.b.tcp.recv.edge ≤ 1
          other_edge = most h.other.subflow.come.edge lane.numbers.received granted lane.numbers.control sent_one
            where
              most : {n r g c e : ℕ} → n ≡ 1 + r + (c - 1) → r ≤ g → g ≡ 0 → c ≤ e → e ≡ 1 → n ≤ 1
              most is a b c d = omega (arith, is, a, b, c, d)

          one_edge : x.edge ≤ 1
          one_edge = up (edge_first x.edge (first start plan k j s v t0 u0 going going_back a b books p f others k_is j_is h early).xs rise.1) passed other_edge
            where
              up : {n m r : ℕ} → n ≤ m → m ≤ r → r ≤ 1 → n ≤ 1
              up a b c = omega (arith, a, b, c)

              rise : Rise p.a.tcp.send.una (x ∷ (first start plan k j s v t0 u0 going going_back a b books p f others k_is j_is h early).xs)
              rise = subst (λ (ys : List Sent). Rise p.a.tcp.send.una ys) (first start plan k j s v t0 u0 going going_back a b books p f others k_is j_is h early).is h.way_back.rise

              passed : edge_after p.a.tcp.send.una (x ∷ (first start plan k j s v t0 u0 going going_back a b books p f others k_is j_is h early).xs) ≤ p.b.tcp.recv.edge
              passed = subst (λ (ys : List Sent). edge_after p.a.tcp.send.una ys ≤ p.b.tcp.recv.edge) (first start plan k j s v t0 u0 going going_back a b books p f others k_is j_is h early).is h.way_back.passed

          most_edge : x.edge ≤ p.a.tcp.send.nxt
          most_edge = subst (λ (n : ℕ). x.edge ≤ n) (sym nxt) one_edge

          meaning : meaning_of (copy_of (meant (said p.profile keys B x))) p.a.tcp ≡ Meaning.Accepts x.edge
          meaning = subst (λ (y : Sent). meaning_of (copy_of (meant (said p.profile keys B y))) p.a.tcp ≡ Meaning.Accepts x.edge) (sym shape)
              (accepts (copy_of heard) p.a.tcp x.edge state.1 (far nxt) (far own_edge) refl (lt-ltb 0 x.edge follow.acknowledges.some)
              (le-leb x.edge p.a.tcp.send.nxt most_edge) refl refl)
            where
              far : {n : ℕ} → n ≡ 1 → nat_le (2 ^ 61) n ≡ false
              far is = rw is refl

          none_keys : h.back.keys_came ≡ 0
          none_keys = zero lane_back.numbers.keys h.other.modes.shown
            where
              zero : {n m : ℕ} → n ≤ m → m ≤ 0 → n ≡ 0
              zero a b = omega (arith, a, b)

          abbrev end_of : EndState → PathEnd
          end_of = end_by face none state.0 sent_one h.treats.1 x.at h.back.received x.window x.edge refl follow.acknowledges.some one_edge most_edge
              (held_of p.profile A heard) (reset_for p.profile A heard)

          abbrev acked_tcp : EndState
          acked_tcp = acked face none state.0 sent_one h.treats.1 x.at h.back.received x.window x.edge refl follow.acknowledges.some one_edge most_edge
              (held_of p.profile A heard) (reset_for p.profile A heard)

          abbrev way : WayIs p.profile keys k j B face.back.sender face.back.receiver face.back.datas face.out.acks None p.a.tcp.send.una p.b.tcp.recv.edge
              (copy start plan k j s v t0 u0 going going_back a b books p f others k_is j_is ∷ going_to A others)
          way = way_none p.profile keys k j B face.back.sender face.back.receiver face.back.datas face.out.acks p.a.tcp.send.una p.b.tcp.recv.edge h.hand
              h.treats.0.0.none (copy start plan k j s v t0 u0 going going_back a b books p f others k_is j_is ∷ going_to A others) face.way_back

          taken : Relation (goes_on A (end_of acked_tcp) (syn_ack_came A) now)
          taken =
              let faces = answer_arrived face none none_keys state.0 sent_one h.treats.1 x.at x.window x.edge follow.acknowledges.some one_edge most_edge
              (copy start plan k j s v t0 u0 going going_back a b books p f others k_is j_is) (going_to A others) (first start plan k j s v t0 u0 going going_back a b books p f others k_is j_is h early).xs way
              ((first start plan k j s v t0 u0 going going_back a b books p f others k_is j_is h early).is ∙ ap (λ (y : Sent). y ∷ (first start plan k j s v t0 u0 going going_back a b books p f others k_is j_is h early).xs) shape)
              refl (held_of p.profile A heard) (reset_for p.profile A heard) in
              record {
                path = record {
                  profile = h.path.profile;
                  delay = h.path.delay;
                  number = h.path.number;
                  unspoken = h.path.unspoken;
                  lines = h.path.lines;
                  joined = h.path.joined;
                };
                link = link start plan k j s v t0 u0 going going_back a b books p f others k_is j_is h early;
                faces = faces;
                treats = (
                  record {
                    side = refl;
                    sent = answer_at x.at h.back.received x.window x.edge k.least;
                    hand = refl;
                    brings = refl;
                    edge = λ e. sym tells.4;
                    seen = refl;
                    idle = idle_on h.treats.0.0.idle none (came_one none) refl refl;
                    mapped = record { live = h.treats.0.0.mapped.live; tail = h.treats.0.0.mapped.tail; beyond = h.treats.0.0.mapped.beyond; no_fin = h.treats.0.0.mapped.no_fin; forgotten = h.treats.0.0.mapped.forgotten };
                    owes = refl;
                    came = came_one none;
                    sent_one = sent_one;
                    received = plus_zero quiet.0;
                    ready = quiet.1;
                    unclear = none_shown h.own.modes.cleared quiet.1;
                    data_fin = zero_max quiet.2;
                    unshown = none_shown h.own.modes.shown quiet.1;
                    key = λ e. refl;
                    opened = refl;
                    news = refl;
                    waiting = refl;
                  },
                  h.treats.0.1,
                  h.treats.2,
                  refl,
                );
              }
            where
              came_one : {n : ℕ} → n ≡ 0 → max n 1 ≡ 1
              came_one is = omega (arith, is)

              zero_max : {n : ℕ} → n ≡ 0 → max n 0 ≡ 0
              zero_max is = omega (arith, is)

              plus_zero : {n : ℕ} → n ≡ 0 → n + 0 ≡ 0
              plus_zero is = omega (arith, is)

              none_shown : {n r : ℕ} → n ≤ r → r ≡ 0 → n ≡ 0
              none_shown a is = omega (arith, a, is)

          pub answer_comes : Relation (copy_taken values (due_of (copy start plan k j s v t0 u0 going going_back a b books p f others k_is j_is)) (q start plan k j s v t0 u0 going going_back a b books p f others k_is j_is))
          answer_comes =
              subst Relation (sym (comes_as start plan k j s v t0 u0 going going_back a b books p f others k_is j_is h early (Meaning.Accepts x.edge) meaning))
              (subst (λ (y : Sent). Relation (heard_as A (meant (said p.profile keys B y)) (Meaning.Accepts x.edge) now)) (sym shape)
              (subst (λ (y : EndState). Relation (goes_on A (end_of y) (syn_ack_came A) now)) (sym (acked_is face none state.0 sent_one h.treats.1 x.at
              h.back.received x.window x.edge refl follow.acknowledges.some one_edge most_edge (held_of p.profile A heard) (reset_for p.profile A heard))) taken))
