-- An end acknowledges a copy that it took, with the DSS.
use Rattle.clean_finish.proofs.Words.{◌≡◌, refl, sym, subst, ap, ℕ, ◌+◌, ◌-◌, ◌≤◌, min, max, Bool, true, false, inl, inr, ⊎_elim, Option, None, List, [], ◌∷◌}
use Rattle.clean_finish.proofs.Words.{◌++◌, arith, le_refl, both_ways, Side, A, peer, Flight, Duty, SendDuty, StepDuty, pick, Profile, Carried, Setting, Lane}
use Rattle.clean_finish.proofs.Words.{Stage, all_left, Going, MaySay, MaySend, sends_none, Hand, HeardIs, WayIs, last_told, row_seen, brings_still, Sent, Keys}
use Rattle.clean_finish.proofs.Words.{copy_in, FliesAs, Acknowledges, Same, IsSetting, Facing, Half, Has, StageIs}
use Rattle.clean_finish.proofs.Dropping.{differ, behind, behind_or, IsApart, stage_drops, settles_drop, begun_drops}
use Rattle.clean_finish.proofs.Hands.{in_hand, way_done}
use Rattle.clean_finish.proofs.Opened.{waiting_on}
use Rattle.clean_finish.proofs.Passing.{peer_is_other}
use Rattle.clean_finish.proofs.Saying.{end_after, own_said}
use Rattle.clean_finish.proofs.Sendings.{same_bytes, sent_off}
use Rattle.clean_finish.proofs.TellsAll.{lane, all_told, came, sent_some, so, acks, all, near, least_told}
use Rattle.clean_finish.proofs.ThirdSent.{paid_by}

-- the side of an acknowledgement
abbrev acks_for : Duty → Side
acks_for (Duty.Send (SendDuty.Acknowledge q)) = q
acks_for _ = A

pub same_acknowledge : {p q : Side} → Duty.Send (SendDuty.Acknowledge p) ≡ Duty.Send (SendDuty.Acknowledge q) → p ≡ q
same_acknowledge e = ap acks_for e

-- the answer isn't owed any more
pub acknowledged_drops : {ds : List Duty} {asked owes later : Bool} (s r : Side) {p : Stage} → StageIs s r (Duty.Send (SendDuty.Acknowledge r) ∷ ds) asked owes p
    → Has (Duty.Step StepDuty.Events) ds → StageIs s r ds asked later (record (waiting_on p) { tell = false; update = false })
acknowledged_drops {ds} s r is events = record {
  window = behind_or ds (differ refl) is.window;
  update = inl refl;
  emit = behind_or ds (differ refl) is.emit;
  finish = behind_or ds (differ refl) is.finish;
  wait = inr events;
  tell = inl refl;
  ask = ⊎_elim (λ e. inl e) (λ a. inr (⊎_elim (λ i. inl (behind ds (differ refl) i)) (λ i. inr (behind ds (differ refl) i.0, i.1)) a)) is.ask;
}

module _ {s : Side} {keys : Keys} {k j : Setting} {c : Profile} {begun begun_back : Lane} {m n : Half} {clock until : ℕ} (ticks t u : ℕ)
    (k_is : IsSetting c ticks k) (j_is : IsSetting c ticks j)
    (going : Going k begun t all_left begun) (going_back : Going j begun_back u all_left begun_back)
    {ds : List Duty} (h : Facing s keys k j c begun begun_back m n clock until (Duty.Send (SendDuty.Acknowledge s) ∷ ds))
  where
    abbrev pub ack : Sent
    ack = record {
      at = clock + ticks;
      brings = Acknowledges;
      low = h.out.granted;
      control = h.out.control_sent;
      keys = h.out.keys_sent;
      telling = all_told ticks t u k_is j_is going going_back h;
      window = m.end.receiving.window;
      edge = m.end.tcp.recv.edge;
    }

    module _ (x : Sent) (hand : h.hand ≡ in_hand x false false) (owes : h.owes ≡ true) (nothing_waits : h.waiting ≡ 0) (una : 1 ≤ m.end.tcp.send.una)
        (answered : min 1 h.back.control_came ≤ h.out.control_sent) (ready : s ≡ A → min 1 h.back.control_came ≤ h.out.ready)
        (shown : s ≡ A → h.out.ready ≤ h.out.keys_sent) (asked : h.stage_back.window ≡ false) (asks : h.stage_back.ask ≡ false) (clear : 1 ≤ h.out.clear)
      where
        pub still : brings_still h.hand ≡ false
        still = ap brings_still hand

        pub next_is : m.end.tcp.send.nxt ≡ h.out.granted + h.out.control_sent
        next_is = sum h.out.granted h.own.subflow.records.next nothing_waits (sent_some ticks t u k_is j_is going going_back h still una answered)
          where
            sum : {nxt w d : ℕ} (g : ℕ) → nxt ≡ 1 + g + w + (d - 1) → w ≡ 0 → 1 ≤ d → nxt ≡ g + d
            sum g is a b = omega (arith, is, a, b)

        pub may_send : MaySend k (waiting_on h.stage) (copy_in ack) h.out
        may_send = record {
          turn = refl;
          at = at_is h.now.0 k_is.delay;
          low = refl;
          high = plus h.out.granted;
          written = none_more (lane ticks t u k_is j_is going going_back h).numbers.granted;
          edge = none_more (lane ticks t u k_is j_is going going_back h).numbers.edge;
          data_fin = few (lane ticks t u k_is j_is going going_back h).numbers.data_fin_sent;
        }
          where
            at_is : {x y d e : ℕ} → x ≡ y → d ≡ e → y + d ≡ x + e
            at_is is ticks_are = omega (arith, is, ticks_are)

            plus : (x : ℕ) → x ≤ x + 0
            plus x = omega arith

            none_more : {x y : ℕ} → x ≤ y → x + 0 ≤ y
            none_more less = omega (arith, less)

            few : {x y : ℕ} → x ≤ y → 0 + x ≤ y
            few less = omega (arith, less)

        pub may_say : MaySay j begun_back (waiting_on h.stage_back) false false (copy_in ack) h.back
        may_say =
            let told = all ticks t u k_is j_is going going_back h still una answered asked asks in
            record {
              turn = refl;
              at = at_is h.now_back.0 j_is.delay;
              so = so ticks t u k_is j_is going going_back h still una answered;
              all = λ e. told;
              window = λ e one. near ticks t u k_is j_is going going_back h still una answered asked asks;
              paid = paid_by j (waiting_on h.stage_back) (copy_in ack) h.back (h.owed owes still) told.0 told.1 told.2;
            }
          where
            at_is : {x y d e : ℕ} → x ≡ y → d ≡ e → y + d ≡ x + e
            at_is is ticks_are = omega (arith, is, ticks_are)

        pub row : m.end.tcp.congestion.duplicates ≤ row_seen h.out.sender None
        row = subst (λ (o : Option Hand). m.end.tcp.congestion.duplicates ≤ row_seen h.out.sender o) hand h.own.subflow.congestion.row

        pub heard : HeardIs s k.total (last_told h.out.heard None) m.end.tcp
        heard = subst (λ (o : Option Hand). HeardIs s k.total (last_told h.out.heard o) m.end.tcp) hand h.own.subflow.heard

        pub done : WayIs c keys k j (peer s) h.back.sender h.back.receiver h.back.datas h.out.acks None m.end.tcp.send.una n.end.tcp.recv.edge n.flying
        done = way_done c keys k j (peer s) h.back.sender h.back.receiver h.back.datas h.out.acks m.end.tcp.send.una n.end.tcp.recv.edge n.flying x
            (subst (λ (o : Option Hand). WayIs c keys k j (peer s) h.back.sender h.back.receiver h.back.datas h.out.acks o m.end.tcp.send.una
            n.end.tcp.recv.edge n.flying) hand h.way_back)

        pub same : (x : ℕ) → max x x ≡ x
        same x = omega arith

        pub same_low : (x : ℕ) → x + 0 ≡ x
        same_low x = omega arith

        pub room : {g w : ℕ} → g ≤ w → g + 0 + 0 ≤ w
        room less = omega (arith, less)

        pub not_clear : {x : ℕ} → 1 ≤ x → x ≡ 0 → ⊥
        not_clear p q = absurd (omega (arith, p, q))

        pub shows_some : s ≡ A → 1 ≤ h.out.keys_sent
        shows_some is = up (came ticks t u k_is j_is going going_back h still una answered) (ready is) (shown is)
          where
            up : {a b d : ℕ} → 1 ≤ a → min 1 a ≤ b → b ≤ d → 1 ≤ d
            up p q r = omega (arith, p, q, r)

        pub others : IsApart s (peer s) (Duty.Send (SendDuty.Acknowledge s))
        others = record {
          window = differ refl;
          update = differ refl;
          emit = differ refl;
          finish = differ refl;
          wait = differ refl;
          syn_ack = differ refl;
          acknowledge = λ e. peer_is_other s (same_acknowledge e);
          ask = differ refl;
        }

        module _ (events : Has (Duty.Step StepDuty.Events) ds) (fs gs : List (Flight Carried)) (f : Flight Carried) (flies : FliesAs c keys s f ack)
            (more : fs ≡ m.flying ++ f ∷ []) (same_back : gs ≡ n.flying)
          where
            abbrev pub ack_sent : Facing s keys k j c begun begun_back (record m { end = end_after h ack h.out.shut; flying = fs })
                (record n { flying = gs }) clock until ds
            ack_sent = sent_off h ack h.out.shut ds (sends_none (copy_in ack) (same_low h.out.granted) may_send) false false may_say
                (end_after h ack h.out.shut) None false 0
                (own_said h ack h.out.shut None still nothing_waits (sent_some ticks t u k_is j_is going going_back h still una answered) refl refl refl refl (same h.out.control_sent)
                (subst (λ (x : ℕ). x ≤ pick s h.out.ready 0) (sym (same h.out.keys_sent)) h.own.modes.shown) (Same refl)
                (least_told ticks t u k_is j_is going going_back h still una answered asked asks)
                (λ is zero_is. absurd (not_clear clear zero_is)) row heard)
                fs gs f flies more same_back
                (acks ticks t u k_is j_is going going_back h still una answered ack refl refl, λ is e. shows_some is, tt)
                (refl, came ticks t u k_is j_is going going_back h still una answered, refl) refl
                (sent_some ticks t u k_is j_is going going_back h still una answered, refl, refl)
                (le_refl m.end.tcp.recv.edge) (le_refl m.end.tcp.recv.edge) (sym (same h.out.control_sent)) (sym (same h.out.keys_sent)) done
                (room (lane ticks t u k_is j_is going going_back h).numbers.granted) (same_bytes h.out.granted nothing_waits) events
                (stage_drops s (peer s) (Duty.Send (SendDuty.Acknowledge s)) ds n.end.treated.asked h.owes_back h.stage others h.stages)
                (acknowledged_drops (peer s) s h.stages_back events)
                (settles_drop s (Duty.Send (SendDuty.Acknowledge s)) ds (end_after h ack h.out.shut) (differ refl) h.settles)
                (settles_drop (peer s) (Duty.Send (SendDuty.Acknowledge s)) ds n.end (differ refl) h.settles_back)
                (subst (λ (x : ℕ). 1 ≤ x) (sym (same h.out.control_sent)) (sent_some ticks t u k_is j_is going going_back h still una answered))
                (begun_drops (peer s) k h.back.sender h.out.receiver n.end (Duty.Send (SendDuty.Acknowledge s)) ds (differ refl) (λ is. differ refl) h.begins_back)
                (λ e b. absurd (both_ways false refl e))
