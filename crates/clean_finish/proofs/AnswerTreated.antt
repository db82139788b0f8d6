-- The steps in which A treats the SYN/ACK, but for its answer: B's window is told, its key is kept, and the path lives.
use Rattle.clean_finish.proofs.Words.{◌≡◌, refl, sym, subst, ap, ◌∙◌, ℕ, ◌+◌, ◌≤◌, min, max, nat_lt, Bool, true, false, ◌||◌, inl, inr, Option, List, ◌∷◌}
use Rattle.clean_finish.proofs.Words.{arith, Some, both_ways, le-ltb, A, B, State, Duty, SendDuty, AskDuty, emission, key_heard, SixBooks, reply_of, after_ask}
use Rattle.clean_finish.proofs.Words.{AppState, Carried, is_connected, PathState, with_agenda, syn_window_ask, peer_key_ask, answered_peer_key, live_ask}
use Rattle.clean_finish.proofs.Words.{Setting, Telling, Lane, all_left, Going, PathPlan, Start, seen_timer, IsPhase, Keys, own_bench, other_bench, IsSetting}
use Rattle.clean_finish.proofs.Words.{Runs, keys_in, TreatsAnswered, Opening, Listening, HalfOpen, Open}
use Rattle.clean_finish.proofs.Acknowledged.{hears_on}
use Rattle.clean_finish.proofs.Enlivened.{enlivened}
use Rattle.clean_finish.proofs.Keyed.{keyed}
use Rattle.clean_finish.proofs.Raised.{Emits}
use Rattle.clean_finish.proofs.SynTold.{told_own}

emits_three : (d e f : Duty) → Emits A (d ∷ e ∷ f ∷ emission A)
emits_three d e f = record {
  bytes = inr (inr (inr (inr (inr (inr (inl refl))))));
  end = inr (inr (inr (inr (inr (inr (inr (inl refl)))))));
  timer = inr (inr (inr (inr (inr (inr (inr (inr (inr (inl refl)))))))));
  events = inr (inr (inr (inr (inr (inr (inr (inr (inr (inr (inl refl))))))))));
}

emits_two : (d e : Duty) → Emits A (d ∷ e ∷ emission A)
emits_two d e = record {
  bytes = inr (inr (inr (inr (inr (inl refl)))));
  end = inr (inr (inr (inr (inr (inr (inl refl))))));
  timer = inr (inr (inr (inr (inr (inr (inr (inr (inl refl))))))));
  events = inr (inr (inr (inr (inr (inr (inr (inr (inr (inl refl)))))))));
}

-- once the SYN/ACK came both SYNs are acknowledged
established : (came una : ℕ) (finished : Bool) (state : State) → IsPhase A came una finished state → came ≡ 1 → (1 ≤ una) × (is_connected state ≡ true)
established came una finished state (Opening side none low is) one = absurd (omega (arith, none, one))
established came una finished state (Listening side none low is) one = absurd (omega (arith, none, one))
established came una finished state (HalfOpen side one low is) zero_came = absurd (not_b side)
  where
    not_b : A ≡ B → ⊥
    not_b e = cc
established came una finished state (Open some high is) one = (high, is.connected)

module _ (start : Start) (plan : PathPlan) (k j : Setting) (s v : Lane) (t0 u0 : ℕ)
    (going : Going k s t0 all_left s) (going_back : Going j v u0 all_left v)
  where
    abbrev keys : Keys
    keys = keys_in start

    module _ (a b : AppState) (books : SixBooks) (p : PathState Carried) (ds : List Duty)
        (k_is : IsSetting p.profile plan.delay k) (j_is : IsSetting p.profile plan.delay j)
      where
        abbrev Relation : SixBooks → PathState Carried → Type 0
        Relation six q = Runs start plan k j s v a b six q

        -- ---- its window

        abbrev answer_told : SixBooks
        answer_told = after_ask (syn_window_ask A p.a) books

        hears_answer : Relation books (with_agenda (Duty.Ask (AskDuty.SynAnswered A) ∷ Duty.Ask (AskDuty.PeerKey A) ∷ Duty.Ask (AskDuty.Live A) ∷ Duty.Send (SendDuty.Acknowledge A) ∷ emission A) p)
            → Relation answer_told (with_agenda (Duty.Ask (AskDuty.PeerKey A) ∷ Duty.Ask (AskDuty.Live A) ∷ Duty.Send (SendDuty.Acknowledge A) ∷ emission A) p)
        hears_answer h =
            let t = h.treats in
            let x = t.0.sent in
            let next : x.telling.next ≡ 0 = ap (λ (y : Telling). y.next) t.0.seen in
            let seen : x.telling.seen ≡ 1 = ap (λ (y : Telling). y.seen) t.0.seen in
            let dss : x.telling.dss ≡ 0 = ap (λ (y : Telling). y.dss) t.0.seen in
            let there = emits_three (Duty.Ask (AskDuty.PeerKey A)) (Duty.Ask (AskDuty.Live A)) (Duty.Send (SendDuty.Acknowledge A)) in
            let up = established h.back.control_came p.a.tcp.send.una p.a.tcp.send.finished p.a.tcp.state h.own.subflow.phase t.0.came in
            let faces = hears_on h.faces refl there x false t.0.hand 0 p.a.tcp.congestion.told.window (none_future _) (omega arith) next (plus (t.0.edge refl))
            (λ less. h.own.timer ∙ ap (λ (b : Bool). seen_timer (b || p.a.sending.news) p.a.tcp.timing.timer) t.0.news)
            p.a.sending p.a.modes p.a.treated refl
            (told_own h.faces refl there x false t.0.hand next dss (few seen) (low seen up.0)) in
            record {
              path = record {
                profile = h.path.profile;
                delay = h.path.delay;
                number = h.path.number;
                unspoken = h.path.unspoken;
                lines = h.path.lines;
                joined = h.path.joined;
              };
              link = h.link;
              faces = faces;
              treats = (
                record {
                  side = refl;
                  sent = x;
                  hand = refl;
                  brings = t.0.brings;
                  edge = λ e. absurd (both_ways false refl e);
                  seen = t.0.seen;
                  idle = t.0.idle;
                  mapped = t.0.mapped;
                  owes = t.0.owes;
                  came = t.0.came;
                  sent_one = t.0.sent_one;
                  received = t.0.received;
                  ready = t.0.ready;
                  unclear = zero_max t.0.unclear dss;
                  unshown = t.0.unshown;
                  data_fin = t.0.data_fin;
                  key = t.0.key;
                  opened = t.0.opened;
                  news = t.0.news;
                  waiting = t.0.waiting;
                },
                t.1,
                t.2,
                refl,
              );
            }
          where
            none_future : (n : ℕ) → nat_lt n 0 ≡ false
            none_future n = le-ltb n 0 (omega arith)

            plus : {x y : ℕ} → x ≡ y → x ≡ 0 + y
            plus is = omega (arith, is)

            few : {x : ℕ} → x ≡ 1 → x ≤ 1
            few is = omega (arith, is)

            low : {x y : ℕ} → x ≡ 1 → 1 ≤ y → x ≤ y
            low is one = omega (arith, is, one)

            zero_max : {x y : ℕ} → x ≡ 0 → y ≡ 0 → max x y ≡ 0
            zero_max a b = omega (arith, a, b)

        pub answers_syn_answered : Relation books (with_agenda (Duty.Ask (AskDuty.SynAnswered A) ∷ ds) p) → Relation answer_told (with_agenda ds p)
        answers_syn_answered h =
            subst (λ (es : List Duty). Relation answer_told (with_agenda es p)) (sym h.treats.3)
            (hears_answer (subst (λ (es : List Duty). Relation books (with_agenda (Duty.Ask (AskDuty.SynAnswered A) ∷ es) p)) h.treats.3 h))

        -- ---- its key

        keeps_key : Relation books (with_agenda (Duty.Ask (AskDuty.PeerKey A) ∷ Duty.Ask (AskDuty.Live A) ∷ Duty.Send (SendDuty.Acknowledge A) ∷ emission A) p)
            → let q = with_agenda (Duty.Ask (AskDuty.PeerKey A) ∷ Duty.Ask (AskDuty.Live A) ∷ Duty.Send (SendDuty.Acknowledge A) ∷ emission A) p in
            (o : Option ℕ) → o ≡ Some keys.b
            → Relation (after_ask (peer_key_ask A o q) books) (answered_peer_key A o (reply_of books (peer_key_ask A o q)) q)
        keeps_key h o is =
            let q = with_agenda (Duty.Ask (AskDuty.PeerKey A) ∷ Duty.Ask (AskDuty.Live A) ∷ Duty.Send (SendDuty.Acknowledge A) ∷ emission A) p in
            let t = h.treats in
            let up = established h.back.control_came p.a.tcp.send.una p.a.tcp.send.finished p.a.tcp.state h.own.subflow.phase t.0.came in
            let faces = keyed plan.delay t0 u0 k_is j_is going going_back h.faces (emits_two (Duty.Ask (AskDuty.Live A)) (Duty.Send (SendDuty.Acknowledge A))) t.0.waiting
            (one t.0.sent_one) (one_came t.0.came) t.0.ready up.1 in
            subst (λ (w : Option ℕ). Relation (after_ask (peer_key_ask A w q) books) (answered_peer_key A w (reply_of books (peer_key_ask A w q)) q)) (sym is)
            (record {
              path = record {
                profile = h.path.profile;
                delay = h.path.delay;
                number = h.path.number;
                unspoken = h.path.unspoken;
                lines = h.path.lines;
                joined = h.path.joined;
              };
              link = h.link;
              faces = faces;
              treats = inl (
                record {
                  side = refl;
                  sent = t.0.sent;
                  hand = t.0.hand;
                  brings = t.0.brings;
                  edge = λ e. absurd (both_ways false refl e);
                  seen = t.0.seen;
                  idle = t.0.idle;
                  mapped = t.0.mapped;
                  owes = t.0.owes;
                  came = t.0.came;
                  sent_one = t.0.sent_one;
                  received = t.0.received;
                  ready = refl;
                  unclear = t.0.unclear;
                  unshown = t.0.unshown;
                  data_fin = t.0.data_fin;
                  key = λ e. absurd (omega (arith, e));
                  opened = t.0.opened;
                  news = t.0.news;
                  waiting = refl;
                },
                t.1,
                t.2,
                refl,
              );
            })
          where
            one : {x : ℕ} → x ≡ 1 → 1 ≤ x
            one is_one = omega (arith, is_one)

            one_came : {x : ℕ} → x ≡ 1 → 1 ≤ min 1 x
            one_came is_one = omega (arith, is_one)

        pub answers_peer_key : Relation books (with_agenda (Duty.Ask (AskDuty.PeerKey A) ∷ ds) p)
            → let q = with_agenda (Duty.Ask (AskDuty.PeerKey A) ∷ ds) p in let o = key_heard p.a.treated.items in
            Relation (after_ask (peer_key_ask A o q) books) (answered_peer_key A o (reply_of books (peer_key_ask A o q)) q)
        answers_peer_key h =
            let o = key_heard p.a.treated.items in
            subst (λ (es : List Duty). let q = with_agenda (Duty.Ask (AskDuty.PeerKey A) ∷ es) p in
            Relation (after_ask (peer_key_ask A o q) books) (answered_peer_key A o (reply_of books (peer_key_ask A o q)) q)) (sym h.treats.3)
            (keeps_key (subst (λ (es : List Duty). Relation books (with_agenda (Duty.Ask (AskDuty.PeerKey A) ∷ es) p)) h.treats.3 h) o (h.treats.0.key refl))

        -- ---- the path lives

        abbrev lives : SixBooks
        lives = after_ask (live_ask A p) books

        enlivens : (h : Relation books (with_agenda (Duty.Ask (AskDuty.Live A) ∷ Duty.Send (SendDuty.Acknowledge A) ∷ emission A) p))
            → TreatsAnswered A keys (own_bench h.faces) (other_bench h.faces) (Duty.Send (SendDuty.Acknowledge A) ∷ emission A)
            → Relation lives (with_agenda (Duty.Send (SendDuty.Acknowledge A) ∷ emission A) p)
        enlivens h t =
            let faces = enlivened (Duty.Ask (AskDuty.Live A)) (Duty.Send (SendDuty.Acknowledge A) ∷ emission A) refl p.link.path p.a.modes.backup_heard h.path.number h.faces in
            record {
              path = record {
                profile = h.path.profile;
                delay = h.path.delay;
                number = h.path.number;
                unspoken = h.path.unspoken;
                lines = h.path.lines;
                joined = h.path.joined;
              };
              link = h.link;
              faces = faces;
              treats = inl (
                record {
                  side = refl;
                  sent = t.0.sent;
                  hand = t.0.hand;
                  brings = t.0.brings;
                  edge = λ e. absurd (both_ways false refl e);
                  seen = t.0.seen;
                  idle = t.0.idle;
                  mapped = t.0.mapped;
                  owes = t.0.owes;
                  came = t.0.came;
                  sent_one = t.0.sent_one;
                  received = t.0.received;
                  ready = t.0.ready;
                  unclear = t.0.unclear;
                  unshown = t.0.unshown;
                  data_fin = t.0.data_fin;
                  key = λ e. absurd (omega (arith, e));
                  opened = t.0.opened;
                  news = t.0.news;
                  waiting = t.0.waiting;
                },
                t.1,
                t.2,
                refl,
              );
            }

        -- where the SYN/ACK is treated
        pub lives_on : (h : Relation books (with_agenda (Duty.Ask (AskDuty.Live A) ∷ ds) p)) → TreatsAnswered A keys (own_bench h.faces) (other_bench h.faces) ds
            → Relation lives (with_agenda ds p)
        lives_on h t =
            subst (λ (es : List Duty). (g : Relation books (with_agenda (Duty.Ask (AskDuty.Live A) ∷ es) p))
            → TreatsAnswered A keys (own_bench g.faces) (other_bench g.faces) es → Relation lives (with_agenda es p))
            (sym t.3) enlivens h t
