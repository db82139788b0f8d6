-- An end sends its FIN, once its DATA_FIN is acknowledged and the peer's came.
use Rattle.clean_finish.proofs.Words.{◌≡◌, refl, sym, subst, ap, ◌∙◌, ℕ, ◌+◌, ◌-◌, ◌<◌, ◌≤◌, min, max, Bool, true, false, not, ◌&&◌, if◌then◌else◌, ⊎_elim}
use Rattle.clean_finish.proofs.Words.{Option, None, List, [], ◌∷◌, ◌++◌, arith, le_refl, both_ways, and_parts, ltb-false, ltb-true, Side, A, peer, may_finish}
use Rattle.clean_finish.proofs.Words.{Flight, Duty, SendDuty, StepDuty, pick, Profile, Carried, PathEnd, is_fin_due, is_all_granted, fin_said, sends_plainly}
use Rattle.clean_finish.proofs.Words.{Setting, Lane, all_left, Going, pending, MaySay, MaySend, sends_none, Hand, HeardIs, last_told, row_seen, brings_still}
use Rattle.clean_finish.proofs.Words.{IsOpen, IsMapping, Sent, Keys, copy_in, said, FliesAs, EndsSubflow, Same, IsSetting, Facing, Half, Has}
use Rattle.clean_finish.proofs.Dropping.{is_apart, stage_drops, settles_drop, begun_drops, apart}
use Rattle.clean_finish.proofs.EndSent.{finishes_open, ended_stays}
use Rattle.clean_finish.proofs.FinPushed.{open_finished}
use Rattle.clean_finish.proofs.Finishing.{end_after, own_finished}
use Rattle.clean_finish.proofs.Hands.{way_none}
use Rattle.clean_finish.proofs.Mapped.{sends_mappings}
use Rattle.clean_finish.proofs.Opened.{waiting_on}
use Rattle.clean_finish.proofs.Quiet.{phase_is}
use Rattle.clean_finish.proofs.Sendings.{same_bytes, sent_off}
use Rattle.clean_finish.proofs.TakenMeant.{acknowledges_some}
use Rattle.clean_finish.proofs.TellsAll.{lane, all_told, came, sent_some, so, acks, all, near, least_told}

-- the FIN at the next position
pub fin_is : (c : Profile) (keys : Keys) (s : Side) (x : Sent) (e : PathEnd) → x.brings ≡ EndsSubflow → IsMapping e.modes
    → e.tcp.send.finished ≡ false → e.tcp.send.nxt ≡ x.low + x.control - 1 → x.edge ≡ e.tcp.recv.edge → x.window ≡ e.receiving.window
    → x.telling.next ≡ e.receiving.next → fin_said c e ≡ said c keys s x
fin_is c keys s x e brings mptcp unended next edge window told =
    rw (brings, mptcp.0, mptcp.1, unended, next, acknowledges_some s EndsSubflow x.edge refl, edge, window, told) refl

is_not : (b : Bool) → not b ≡ true → b ≡ false
is_not false e = refl
is_not true e = absurd (both_ways _ refl e)

module _ {s : Side} {keys : Keys} {k j : Setting} {c : Profile} {begun begun_back : Lane} {m n : Half} {clock until : ℕ} (ticks t u : ℕ)
    (k_is : IsSetting c ticks k) (j_is : IsSetting c ticks j)
    (going : Going k begun t all_left begun) (going_back : Going j begun_back u all_left begun_back)
    {ds : List Duty} (h : Facing s keys k j c begun begun_back m n clock until (Duty.Send (SendDuty.Fin s) ∷ ds))
  where
    abbrev pub finishing : Sent
    finishing = record {
      at = clock + ticks;
      brings = EndsSubflow;
      low = h.out.granted;
      control = 2;
      keys = h.out.keys_sent;
      telling = all_told ticks t u k_is j_is going going_back h;
      window = m.end.receiving.window;
      edge = m.end.tcp.recv.edge;
    }

    module _ (due : is_fin_due m.end ≡ true) (none : h.hand ≡ None) (unowed : h.owes ≡ false) (nothing_waits : h.waiting ≡ 0)
        (answered : min 1 h.back.control_came ≤ h.out.control_sent) (ready : s ≡ A → min 1 h.back.control_came ≤ h.out.ready)
        (shown : s ≡ A → h.out.ready ≤ h.out.keys_sent) (asked : h.stage_back.window ≡ false) (asks : h.stage_back.ask ≡ false)
      where
        pub parts : (may_finish m.end.tcp.state ≡ true) × ((m.end.sending.close.own_acked ≡ true) × (m.end.sending.close.peer_came ≡ true))
        parts =
            let both = and_parts (may_finish m.end.tcp.state) (if sends_plainly m.end.modes then is_all_granted m.end.sending.known_end m.end.sending
            else m.end.sending.close.own_acked && m.end.sending.close.peer_came) due in (
              both.0,
              and_parts m.end.sending.close.own_acked m.end.sending.close.peer_came
                  (sym (ap (λ (b : Bool). if b then is_all_granted m.end.sending.known_end m.end.sending else m.end.sending.close.own_acked && m.end.sending.close.peer_came)
                  (sends_mappings m.end.modes h.own.modes.mapping)) ∙ both.1),
            )

        pub is_open : (1 ≤ m.end.tcp.send.una) × IsOpen m.end.tcp.send.finished m.end.tcp.state
        is_open = ⊎_elim (λ quiet. absurd (both_ways _ quiet (finishes_open m.end.tcp.state parts.0))) (λ is. is)
            (phase_is s h.back.control_came m.end.tcp.send.una m.end.tcp.send.finished m.end.tcp.state h.own.subflow.phase)

        pub still : brings_still h.hand ≡ false
        still = ap brings_still none

        pub unfinished : m.end.tcp.send.finished ≡ false
        unfinished = is_not m.end.tcp.send.finished (sym is_open.1.finish ∙ parts.0)

        pub one_sent : h.out.control_sent ≡ 1
        one_sent = one (ltb-false 1 h.out.control_sent (sym h.own.subflow.records.finished ∙ unfinished))
            (sent_some ticks t u k_is j_is going going_back h still is_open.0 answered)
          where
            one : {x : ℕ} → x ≤ 1 → 1 ≤ x → x ≡ 1
            one p q = omega (arith, p, q)

        pub acked : k.total < h.out.acked
        acked = ltb-true k.total h.out.acked (sym h.own.sending.acked ∙ parts.1.0)

        pub clear : 1 ≤ h.out.clear
        clear = up (h.own.sending.acked_end acked) h.own.sending.end
          where
            up : {a b : ℕ} → 1 ≤ a → a ≤ b → 1 ≤ b
            up p q = omega (arith, p, q)

        pub unacked : h.out.control_acked ≤ 1
        unacked = up (lane ticks t u k_is j_is going going_back h).numbers.control_acked (lane ticks t u k_is j_is going going_back h).numbers.control one_sent
          where
            up : {a b d : ℕ} → a ≤ b → b ≤ d → d ≡ 1 → a ≤ 1
            up p q r = omega (arith, p, q, r)

        pub next_is : m.end.tcp.send.nxt ≡ h.out.granted + 2 - 1
        next_is = sum h.out.granted h.own.subflow.records.next nothing_waits one_sent
          where
            sum : {nxt w d : ℕ} (g : ℕ) → nxt ≡ 1 + g + w + (d - 1) → w ≡ 0 → d ≡ 1 → nxt ≡ g + 2 - 1
            sum g is a b = omega (arith, is, a, b)

        pub may_send : MaySend k (waiting_on h.stage) (copy_in finishing) h.out
        may_send = record {
          turn = refl;
          at = at_is h.now.0 k_is.delay;
          low = refl;
          high = plus h.out.granted;
          written = none_more (lane ticks t u k_is j_is going going_back h).numbers.granted;
          edge = none_more (lane ticks t u k_is j_is going going_back h).numbers.edge;
          data_fin = few (lane ticks t u k_is j_is going going_back h).numbers.data_fin_sent;
        }
          where
            at_is : {x y d e : ℕ} → x ≡ y → d ≡ e → y + d ≡ x + e
            at_is is ticks_are = omega (arith, is, ticks_are)

            plus : (x : ℕ) → x ≤ x + 0
            plus x = omega arith

            none_more : {x y : ℕ} → x ≤ y → x + 0 ≤ y
            none_more less = omega (arith, less)

            few : {x y : ℕ} → x ≤ y → 0 + x ≤ y
            few less = omega (arith, less)

        pub may_say : MaySay j begun_back (waiting_on h.stage_back) false false (copy_in finishing) h.back
        may_say = record {
          turn = refl;
          at = at_is h.now_back.0 j_is.delay;
          so = so ticks t u k_is j_is going going_back h still is_open.0 answered;
          all = λ e. all ticks t u k_is j_is going going_back h still is_open.0 answered asked asks;
          window = λ e one. near ticks t u k_is j_is going going_back h still is_open.0 answered asked asks;
          paid = no_more h.back.said (pending j (waiting_on h.stage_back) h.back);
        }
          where
            at_is : {x y d e : ℕ} → x ≡ y → d ≡ e → y + d ≡ x + e
            at_is is ticks_are = omega (arith, is, ticks_are)

            no_more : (y z : ℕ) → 0 + y + 0 ≤ max y 0 + z
            no_more y z = omega arith

        pub row : m.end.tcp.congestion.duplicates ≤ row_seen h.out.sender None
        row = subst (λ (o : Option Hand). m.end.tcp.congestion.duplicates ≤ row_seen h.out.sender o) none h.own.subflow.congestion.row

        pub heard : HeardIs s k.total (last_told h.out.heard None) m.end.tcp
        heard = subst (λ (o : Option Hand). HeardIs s k.total (last_told h.out.heard o) m.end.tcp) none h.own.subflow.heard

        pub two_sent : 2 ≡ max h.out.control_sent 2
        two_sent = two one_sent
          where
            two : {x : ℕ} → x ≡ 1 → 2 ≡ max x 2
            two is = omega (arith, is)

        pub same_keys : max h.out.keys_sent h.out.keys_sent ≡ h.out.keys_sent
        same_keys = same h.out.keys_sent
          where
            same : (x : ℕ) → max x x ≡ x
            same x = omega arith

        pub same_low : (x : ℕ) → x + 0 ≡ x
        same_low x = omega arith

        pub room : {g w : ℕ} → g ≤ w → g + 0 + 0 ≤ w
        room less = omega (arith, less)

        pub some : (x : ℕ) → 1 ≤ max x 2
        some x = omega arith

        pub shows_some : s ≡ A → 1 ≤ h.out.keys_sent
        shows_some is = up (came ticks t u k_is j_is going going_back h still is_open.0 answered) (ready is) (shown is)
          where
            up : {a b d : ℕ} → 1 ≤ a → min 1 a ≤ b → b ≤ d → 1 ≤ d
            up p q r = omega (arith, p, q, r)

        module _ (events : Has (Duty.Step StepDuty.Events) ds) (fs gs : List (Flight Carried)) (f : Flight Carried) (flies : FliesAs c keys s f finishing)
            (more : fs ≡ m.flying ++ f ∷ []) (same : gs ≡ n.flying)
          where
            abbrev pub fin_goes : Facing s keys k j c begun begun_back (record m { end = end_after h finishing h.out.shut; flying = fs })
                (record n { flying = gs }) clock until ds
            fin_goes = sent_off h finishing h.out.shut ds (sends_none (copy_in finishing) (same_low h.out.granted) may_send) false false may_say
                (end_after h finishing h.out.shut) None false 0
                (own_finished h finishing h.out.shut still nothing_waits unowed refl refl refl refl one_sent refl unacked
                (came ticks t u k_is j_is going going_back h still is_open.0 answered) is_open.0 (open_finished m.end.tcp.state parts.0) acked
                (subst (λ (x : ℕ). x ≤ pick s h.out.ready 0) (sym same_keys) h.own.modes.shown) (Same refl)
                (least_told ticks t u k_is j_is going going_back h still is_open.0 answered asked asks) clear row heard)
                fs gs f flies more same
                (acks ticks t u k_is j_is going going_back h still is_open.0 answered finishing refl refl, λ is e. shows_some is, tt)
                (refl, came ticks t u k_is j_is going going_back h still is_open.0 answered, refl) refl (one_sent, refl, refl)
                (le_refl m.end.tcp.recv.edge) (le_refl m.end.tcp.recv.edge) two_sent (sym same_keys)
                (way_none c keys k j (peer s) h.back.sender h.back.receiver h.back.datas h.out.acks m.end.tcp.send.una n.end.tcp.recv.edge h.hand none n.flying h.way_back)
                (room (lane ticks t u k_is j_is going going_back h).numbers.granted) (same_bytes h.out.granted nothing_waits) events
                (stage_drops s (peer s) (Duty.Send (SendDuty.Fin s)) ds n.end.treated.asked h.owes_back h.stage (is_apart s (peer s) (Duty.Send (SendDuty.Fin s)) refl) h.stages)
                (ended_stays (peer s) s events
                (stage_drops (peer s) s (Duty.Send (SendDuty.Fin s)) ds m.end.treated.asked h.owes h.stage_back (is_apart (peer s) s (Duty.Send (SendDuty.Fin s)) refl) h.stages_back))
                (settles_drop s (Duty.Send (SendDuty.Fin s)) ds (end_after h finishing h.out.shut) (apart refl refl) h.settles)
                (settles_drop (peer s) (Duty.Send (SendDuty.Fin s)) ds n.end (apart refl refl) h.settles_back)
                (some h.out.control_sent)
                (begun_drops (peer s) k h.back.sender h.out.receiver n.end (Duty.Send (SendDuty.Fin s)) ds (apart refl refl) (λ is. apart refl refl) h.begins_back)
                (λ e b. absurd (both_ways false refl e))
