-- The step in which A's SYN arrives at B.
use Rattle.clean_finish.proofs.Words.{◌≡◌, refl, sym, subst, ap, ◌∙◌, ℕ, ◌+◌, ◌<◌, ◌≤◌, min, max, nat_lt, Bool, true, false, if◌then◌else◌, Option, None, List}
use Rattle.clean_finish.proofs.Words.{[], ◌∷◌, arith, Some, both_ways, A, B, State, EndState, first_fin, Listen, Meaning, meaning_of, is_syn_alone, SubflowCopy}
use Rattle.clean_finish.proofs.Words.{Flight, going_to, due_of, meant, Duty, StepDuty, SixBooks, AppState, Profile, Carried, values, held_of, copy_of}
use Rattle.clean_finish.proofs.Words.{reset_for, copy_taken, PathState, Setting, Lane, all_left, Receiver, Going, PathPlan, Start, IsPhase, IsIdle, Sent, Keys}
use Rattle.clean_finish.proofs.Words.{Brings, CountsAs, TellsAs, said, OpensSubflow, IsSetting, Runs, keys_in, Facing, Half, half, Opening, Listening, HalfOpen}
use Rattle.clean_finish.proofs.Words.{Open}
use Rattle.clean_finish.proofs.ArrivesAtB.{copy, q, tick, moment, first, faced, link, Follows, follows, comes_as}
use Rattle.clean_finish.proofs.CopyTaken.{heard_as}
use Rattle.clean_finish.proofs.Hands.{way_none}
use Rattle.clean_finish.proofs.Quiet.{now_out}
use Rattle.clean_finish.proofs.SynArrived.{syn_arrived}
use Rattle.clean_finish.proofs.SynHeard.{syn_at}
use Rattle.clean_finish.proofs.Turned.{from_b}

-- before the SYN comes B listens
listens : (came una : ℕ) (finished : Bool) (state : State) → IsPhase B came una finished state → came ≡ 0 → (una ≡ 0) × (state ≡ Listen)
listens came una finished state (Opening side none low is) zero_came = absurd (not_a side)
  where
    not_a : B ≡ A → ⊥
    not_a e = cc
listens came una finished state (Listening side none low is) zero_came = (low, is)
listens came una finished state (HalfOpen side one low is) zero_came = absurd (omega (arith, one, zero_came))
listens came una finished state (Open some high is) zero_came = absurd (omega (arith, some, zero_came))

-- the SYN by what varies of it
syn_shape : (x : Sent) (came keys_came least received : ℕ) → x.brings ≡ OpensSubflow → x.low ≡ received
    → CountsAs came keys_came x.control x.keys x.brings → TellsAs least A x.window x.telling x.brings
    → x ≡ syn_at x.at received x.window x.edge least
syn_shape x came keys_came least received brings low counts tells =
    let c = subst (λ (y : Brings). CountsAs came keys_came x.control x.keys y) brings counts in
    let t = subst (λ (y : Brings). TellsAs least A x.window x.telling y) brings tells in
    by x.brings x.low x.control x.keys x.telling.next x.telling.edge x.telling.seen x.telling.dss brings low c.1 c.2 t.0 t.1 t.2 t.3
  where
    by : (y : Brings) (low' control keys next edge seen dss : ℕ) → y ≡ OpensSubflow → low' ≡ received → control ≡ 1 → keys ≡ 0 → next ≡ 0
        → edge ≡ least → seen ≡ 0 → dss ≡ 0
        → record x { brings = y; low = low'; control = control; keys = keys; telling = record { next = next; edge = edge; seen = seen; dss = dss } }
        ≡ syn_at x.at received x.window x.edge least
    by y low' control keys next edge seen dss a b e f g i l o = rw (a, b, e, f, g, i, l, o) refl

-- a listening end is opened by a SYN
listening_opens : (c : SubflowCopy) (s : EndState) → s.state ≡ Listen → is_syn_alone c ≡ true → meaning_of c s ≡ Meaning.Opens
listening_opens c s state alone = rw (state, alone) refl

-- nothing was heard at B that could repeat
module _ {keys : Keys} {k j : Setting} {c : Profile} {begun begun_back : Lane} {m n : Half} {clock until : ℕ} (ticks t u : ℕ)
    (k_is : IsSetting c ticks k) (j_is : IsSetting c ticks j)
    (going : Going k begun t all_left begun) (going_back : Going j begun_back u all_left begun_back)
    {ds : List Duty} (h : Facing B keys k j c begun begun_back m n clock until ds) (none : h.back.control_came ≡ 0)
  where
    pub unsent_is : h.out.control_sent ≡ 0
    unsent_is = low (h.own.subflow.begun refl) none
      where
        low : {x y : ℕ} → min 1 x ≤ y → y ≡ 0 → x ≡ 0
        low few is = omega (arith, few, is)

    pub unrowed : h.out.row ≡ 0
    unrowed =
        let now = now_out ticks t u k_is j_is going going_back h in
        none_said _ _ now.repeats.few
        (none_sent h.other.receiving.said h.other.sending.end h.other.modes.cleared h.other.modes.ready now.numbers.control unsent_is)
        (none_sent now.numbers.data_fin_came h.own.sending.end h.own.modes.cleared h.own.modes.ready (same h.back.control_came) none)
      where
        same : (x : ℕ) → x ≤ x
        same x = omega arith

        none_sent : {said sent clear ready came control : ℕ} → said ≤ sent → sent ≤ clear → clear ≤ ready → ready ≤ min 1 came → came ≤ control
            → control ≡ 0 → said ≡ 0
        none_sent a b d e f g = omega (arith, a, b, d, e, f, g)

        none_said : {row said came : ℕ} (more pays : ℕ) → row + more + pays ≤ said + came → said ≡ 0 → came ≡ 0 → row ≡ 0
        none_said more pays few a b = omega (arith, few, a, b)

-- the subflow between two arrivals: no FIN is known before a SYN, nor after it
pub idle_on : {back later : Receiver} {tcp tcp' : EndState} → IsIdle back tcp → back.control_came ≡ 0 → later.control_came ≡ 1
    → tcp'.recv ≡ tcp.recv → tcp'.fin_at ≡ first_fin tcp.fin_at false 1 → IsIdle later tcp'
idle_on {back} {later} {tcp} {tcp'} is none one same fin = record {
  places = ap (λ r. r.places) same ∙ is.places;
  incoming = ap (λ r. r.incoming) same ∙ is.incoming;
  fin = fin ∙ (ap (λ (o : Option ℕ). first_fin o false 1) (is.fin ∙ ap (λ (n : ℕ). if nat_lt 1 n then Some (back.received + 1) else None) none)
      ∙ sym (ap (λ (n : ℕ). if nat_lt 1 n then Some (later.received + 1) else None) one));
}

module _ (start : Start) (plan : PathPlan) (k j : Setting) (s v : Lane) (t0 u0 : ℕ)
    (going : Going k s t0 all_left s) (going_back : Going j v u0 all_left v)
  where
    abbrev keys : Keys
    keys = keys_in start

    module _ (a b : AppState) (books : SixBooks) (p : PathState Carried) (f : Flight Carried) (others : List (Flight Carried))
        (k_is : IsSetting p.profile plan.delay k) (j_is : IsSetting p.profile plan.delay j)
        (h : Runs start plan k j s v a b books (q start plan k j s v t0 u0 going going_back a b books p f others k_is j_is)) (early : f.tick < p.until)
      where
        abbrev x : Sent
        x = (first start plan k j s v t0 u0 going going_back a b books p f others k_is j_is h early).x

        abbrev now_before : PathState Carried
        now_before = q start plan k j s v t0 u0 going going_back a b books p f others k_is j_is

        abbrev now : PathState Carried
        now = moment start plan k j s v t0 u0 going going_back a b books p f others k_is j_is

        abbrev syn : Sent
        syn = syn_at x.at h.out.received x.window x.edge j.least

        abbrev Relation : PathState Carried → Type 0
        Relation r = Runs start plan k j s v a b books r

        abbrev face : Facing B keys j k p.profile v s (half B b books now_before) (half A a books now_before)
            (tick start plan k j s v t0 u0 going going_back a b books p f others k_is j_is) p.until ((Duty.Step StepDuty.Events) ∷ Duty.End ∷ [])
        face = faced start plan k j s v t0 u0 going going_back a b books p f others k_is j_is h early

        pub syn_comes : x.brings ≡ OpensSubflow
            → Relation (copy_taken values (due_of (copy start plan k j s v t0 u0 going going_back a b books p f others k_is j_is))
            (q start plan k j s v t0 u0 going going_back a b books p f others k_is j_is))
        syn_comes brings =
            subst Relation (sym (comes_as start plan k j s v t0 u0 going going_back a b books p f others k_is j_is h early Meaning.Opens meaning))
            (subst (λ (y : Sent). Relation (heard_as B (meant (said p.profile keys A y)) Meaning.Opens now)) (sym shape) taken)
          where
            follow : Follows start plan k j s v t0 u0 going going_back a b books p f others k_is j_is h early
            follow = follows start plan k j s v t0 u0 going going_back a b books p f others k_is j_is h early

            none : h.out.control_came ≡ 0
            none = (subst (λ (y : Brings). CountsAs h.out.control_came h.out.keys_came x.control x.keys y) brings follow.counts).0

            state : (p.b.tcp.send.una ≡ 0) × (p.b.tcp.state ≡ Listen)
            state = listens h.out.control_came p.b.tcp.send.una p.b.tcp.send.finished p.b.tcp.state h.other.subflow.phase none

            shape : x ≡ syn
            shape = syn_shape x h.out.control_came h.out.keys_came j.least h.out.received brings follow.low follow.counts follow.tells

            least : min 65535 x.window ≡ j.least
            least = (subst (λ (y : Brings). TellsAs j.least A x.window x.telling y) brings follow.tells).4

            full_told : min 65535 p.profile.buffer ≤ j.least
            full_told = at_most j_is.least j_is.buffer
              where
                at_most : {low own buffer : ℕ} → low ≡ min 65535 buffer → own ≡ buffer → min 65535 own ≤ low
                at_most is same = omega (arith, is, same)

            meaning : meaning_of (copy_of (meant (said p.profile keys A x))) p.b.tcp ≡ Meaning.Opens
            meaning = subst (λ (y : Sent). meaning_of (copy_of (meant (said p.profile keys A y))) p.b.tcp ≡ Meaning.Opens) (sym shape)
                (listening_opens _ p.b.tcp state.1 refl)

            taken : Relation (heard_as B (meant (said p.profile keys A syn)) Meaning.Opens now)
            taken =
                let heard = meant (said p.profile keys A syn) in
                let unsent = unsent_is plan.delay u0 t0 j_is k_is going_back going face none in
                let faces = from_b keys k j s v a b books (heard_as B heard Meaning.Opens now)
                (syn_arrived face h.treats.0.1.none none state.0 state.1 unsent (unrowed plan.delay u0 t0 j_is k_is going_back going face none)
                x.at x.window x.edge (copy start plan k j s v t0 u0 going going_back a b books p f others k_is j_is) (going_to B others)
                (first start plan k j s v t0 u0 going going_back a b books p f others k_is j_is h early).xs
                (way_none p.profile keys j k A face.back.sender face.back.receiver face.back.datas face.out.acks p.b.tcp.send.una p.a.tcp.recv.edge h.hand_back
                h.treats.0.1.none (copy start plan k j s v t0 u0 going going_back a b books p f others k_is j_is ∷ going_to B others) face.way_back)
                ((first start plan k j s v t0 u0 going going_back a b books p f others k_is j_is h early).is
                ∙ ap (λ (y : Sent). y ∷ (first start plan k j s v t0 u0 going going_back a b books p f others k_is j_is h early).xs) shape)
                refl (held_of p.profile B heard) (reset_for p.profile B heard)) in
                record {
                  path = record {
                    profile = h.path.profile;
                    delay = h.path.delay;
                    number = h.path.number;
                    unspoken = h.path.unspoken;
                    lines = h.path.lines;
                    joined = h.path.joined;
                  };
                  link = link start plan k j s v t0 u0 going going_back a b books p f others k_is j_is h early;
                  faces = faces;
                  treats = (
                    record {
                      side = refl;
                      sent = syn;
                      hand = refl;
                      brings = refl;
                      edge = sym least;
                      seen = refl;
                      idle = idle_on h.treats.0.1.idle none (came_one none) refl refl;
                      mapped = record { live = h.treats.0.1.mapped.live; tail = h.treats.0.1.mapped.tail; beyond = h.treats.0.1.mapped.beyond; no_fin = h.treats.0.1.mapped.no_fin; forgotten = h.treats.0.1.mapped.forgotten };
                      full = full_told;
                      least = λ e. absurd (both_ways true e refl);
                      owes = h.treats.0.1.owes;
                      came = came_one none;
                      unsent = unsent;
                      waiting = h.treats.2;
                    },
                    h.treats.0.0,
                    h.treats.1,
                    refl,
                  );
                }
              where
                came_one : {y : ℕ} → y ≡ 0 → max y 1 ≡ 1
                came_one is = omega (arith, is)
