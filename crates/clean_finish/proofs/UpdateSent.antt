-- An end tells that its window has grown.
use Rattle.clean_finish.proofs.Words.{◌≡◌, refl, sym, subst, ap, ◌∙◌, ℕ, ◌+◌, ◌-◌, ◌<◌, ◌≤◌, min, max, Bool, true, false, inl, inr, ⊎_elim, Option, None, List}
use Rattle.clean_finish.proofs.Words.{[], ◌∷◌, ◌++◌, arith, le_refl, ◌*◌, both_ways, and_parts, leb-true, Side, A, B, peer, State, one_if, Flight, window_told}
use Rattle.clean_finish.proofs.Words.{Duty, SendDuty, StepDuty, pick, Profile, Carried, PathEnd, is_connected, is_update_due, has_grown, ack_said, Setting}
use Rattle.clean_finish.proofs.Words.{Lane, Stage, is_whole, all_left, Going, pending, MaySay, MaySend, sends_none, Hand, HeardIs, last_told, row_seen}
use Rattle.clean_finish.proofs.Words.{brings_still, IsPhase, IsToldEdge, IsMapping, Sent, Keys, copy_in, AcknowledgesAs, said, FliesAs, dss_from, Acknowledges}
use Rattle.clean_finish.proofs.Words.{Same, Before, IsSetting, Facing, Half, Has, StageIs, Opening, Listening, HalfOpen, Open}
use Rattle.clean_finish.proofs.Dropping.{differ, behind, behind_or, IsApart, stage_drops, settles_drop, begun_drops}
use Rattle.clean_finish.proofs.Hands.{way_none}
use Rattle.clean_finish.proofs.Mapped.{said_alone}
use Rattle.clean_finish.proofs.Opened.{no_repeat, waiting_on}
use Rattle.clean_finish.proofs.Passing.{peer_is_other, same_update}
use Rattle.clean_finish.proofs.Quiet.{now_out, now_back, phase_is}
use Rattle.clean_finish.proofs.Saying.{end_after, own_said}
use Rattle.clean_finish.proofs.Sendings.{same_bytes, sent_off}
use Rattle.clean_finish.proofs.TakenMeant.{acknowledges_some}

-- an acknowledgement of an end that may use the DSS
pub ack_is : (c : Profile) (keys : Keys) (s : Side) (x : Sent) (e : PathEnd) → x.brings ≡ Acknowledges → IsMapping e.modes → e.modes.clear ≡ true
    → e.tcp.send.nxt ≡ x.low + x.control → x.edge ≡ e.tcp.recv.edge → x.window ≡ e.receiving.window → x.telling.next ≡ e.receiving.next
    → ack_said c s e.tcp.send.nxt None e ≡ said c keys s x
ack_is c keys s x e brings mptcp clear next edge window told =
    said_alone c s e.tcp.send.nxt e mptcp ∙ rw (brings, mptcp.0, clear, next, acknowledges_some s Acknowledges x.edge refl, edge, window, told) refl

pub updated_drops : {ds : List Duty} {asked owes later : Bool} (s r : Side) {p : Stage} → StageIs s r (Duty.Send (SendDuty.Update r) ∷ ds) asked owes p
    → Has (Duty.Step StepDuty.Events) ds → StageIs s r ds asked later (record (waiting_on p) { tell = false; update = false })
updated_drops {ds} s r is events = record {
  window = behind_or ds (differ refl) is.window;
  update = inl refl;
  emit = behind_or ds (differ refl) is.emit;
  finish = behind_or ds (differ refl) is.finish;
  wait = inr events;
  tell = inl refl;
  ask = ⊎_elim (λ e. inl e) (λ a. inr (⊎_elim (λ i. inl (behind ds (differ refl) i)) (λ i. inr (behind ds (differ refl) i.0, i.1)) a)) is.ask;
}

module _ {s : Side} {keys : Keys} {k j : Setting} {c : Profile} {begun begun_back : Lane} {m n : Half} {clock until : ℕ} (ticks t u : ℕ)
    (k_is : IsSetting c ticks k) (j_is : IsSetting c ticks j)
    (going : Going k begun t all_left begun) (going_back : Going j begun_back u all_left begun_back)
    {ds : List Duty} (h : Facing s keys k j c begun begun_back m n clock until (Duty.Send (SendDuty.Update s) ∷ ds))
  where
    pub lane : Going k begun t h.stage h.out
    lane = now_out ticks t u k_is j_is going going_back h

    pub lane_back : Going j begun_back u h.stage_back h.back
    lane_back = now_back ticks t u k_is j_is going going_back h

    abbrev pub update : Sent
    update = record {
      at = clock + ticks;
      brings = Acknowledges;
      low = h.out.granted;
      control = h.out.control_sent;
      keys = h.out.keys_sent;
      telling = record {
        next = m.end.receiving.next;
        edge = m.end.receiving.next + window_told false m.end.receiving.window;
        seen = h.back.control_came;
        dss = dss_from s;
      };
      window = m.end.receiving.window;
      edge = m.end.tcp.recv.edge;
    }

    module _ (due : is_update_due c m.end ≡ true) (none : h.hand ≡ None) (unowed : h.owes ≡ false) (nothing_waits : h.waiting ≡ 0)
        (answered : min 1 h.back.control_came ≤ h.out.control_sent) (ready : s ≡ A → min 1 h.back.control_came ≤ h.out.ready)
        (shown : s ≡ A → h.out.ready ≤ h.out.keys_sent) (asked : h.stage_back.window ≡ false) (asks : h.stage_back.ask ≡ false)
      where
        pub parts : (is_connected m.end.tcp.state ≡ true) × (has_grown c m.end ≡ true)
        parts = and_parts (is_connected m.end.tcp.state) (has_grown c m.end) due

        pub grown : min c.buffer (4 * c.mss) ≤ 2 * (m.end.receiving.next + window_told false m.end.receiving.window - m.end.receiving.told_edge)
        grown = leb-true _ _ parts.1

        pub una : 1 ≤ m.end.tcp.send.una
        una = ⊎_elim (λ quiet. absurd (both_ways _ quiet parts.0)) (λ is. is.0)
            (phase_is s h.back.control_came m.end.tcp.send.una m.end.tcp.send.finished m.end.tcp.state h.own.subflow.phase)

        pub came : 1 ≤ h.back.control_came
        came = by h.back.control_came m.end.tcp.send.una m.end.tcp.send.finished m.end.tcp.state h.own.subflow.phase una
          where
            by : (came una : ℕ) (finished : Bool) (state : State) → IsPhase s came una finished state → 1 ≤ una → 1 ≤ came
            by came una finished state (Opening side none low is) one = absurd (omega (arith, low, one))
            by came una finished state (Listening side none low is) one = absurd (omega (arith, low, one))
            by came una finished state (HalfOpen side one_came low is) one = absurd (omega (arith, low, one))
            by came una finished state (Open some high is) one = some

        pub sent_some : 1 ≤ h.out.control_sent
        sent_some = up came answered
          where
            up : {a b : ℕ} → 1 ≤ a → min 1 a ≤ b → 1 ≤ b
            up p q = omega (arith, p, q)

        -- what was told last, at A before a DSS came, is so much that no update is due there
        pub far : {limit read whole received fin buffer : ℕ} (edge total : ℕ) → limit ≤ read + buffer + whole → read ≤ received → received ≡ 0
            → whole ≡ min fin ((received + 1) - total) → fin ≤ 1 → buffer ≤ edge + 31 → 2 * (limit - edge) ≤ 64
        far edge total p q is is_whole_of r z = omega (arith, p, q, is, is_whole_of, r, z)

        pub never : {a b : ℕ} → 128 ≤ a → a ≤ b → b ≤ 64 → ⊥
        never p q r = absurd (omega (arith, p, q, r))

        pub fin_once : {came a b d : ℕ} → came ≤ a → a ≤ b → b ≤ d → d ≤ 1 → came ≤ 1
        fin_once p q r z = omega (arith, p, q, r, z)

        pub one_fin : h.back.data_fin_came ≤ 1
        one_fin = fin_once lane_back.numbers.data_fin_came lane_back.numbers.data_fin_sent lane_back.numbers.known lane_back.numbers.closed

        pub not_far : h.back.received ≡ 0 → j.buffer ≤ m.end.receiving.told_edge + 31 → ⊥
        not_far received full = never k_is.update grown
            (far m.end.receiving.told_edge j.total (subst (λ (x : ℕ). x ≤ h.back.read + j.buffer + is_whole j h.back) h.own.receiving.limit lane_back.numbers.limit)
            lane_back.numbers.read received refl one_fin full)

        pub clear : m.end.modes.clear ≡ true
        clear = by m.end.modes.clear refl
          where
            no_clear : {x : ℕ} → x ≡ 0 → 1 ≤ x → ⊥
            no_clear is one = absurd (omega (arith, is, one))

            keyed : {keys_came r clears : ℕ} → 1 ≤ keys_came → r ≡ clears → keys_came ≤ r → 1 ≤ clears
            keyed p q r = omega (arith, p, q, r)

            shown_some : {a b d : ℕ} → 1 ≤ a → min 1 a ≤ b → b ≤ d → 1 ≤ d
            shown_some p q r = omega (arith, p, q, r)

            at_side : (q : Side) → s ≡ q → h.out.clear ≡ 0 → ⊥
            at_side B is none_clear = no_clear none_clear (keyed (h.own.subflow.keyed is una (ap brings_still none)) (h.own.modes.both is).0 (h.own.modes.both is).1)
            at_side A is none_clear =
                let unheard = h.own.receiving.unheard is none_clear in
                not_far unheard.0 (unheard.2 (shown_some came (ready is) (shown is)))

            by : (b : Bool) → m.end.modes.clear ≡ b → m.end.modes.clear ≡ true
            by true is = is
            by false is = absurd (at_side s refl (h.own.modes.clear ∙ ap one_if is))

        pub keys_told : h.back.keys_came ≤ dss_from s
        keys_told = by s refl
          where
            up : {a b : ℕ} → a ≤ b → b ≤ 0 → a ≤ 0
            up p q = omega (arith, p, q)

            one : {a b : ℕ} (d : ℕ) → a ≤ b → b ≤ min 1 d → a ≤ 1
            one d p q = omega (arith, p, q)

            by : (q : Side) → s ≡ q → h.back.keys_came ≤ dss_from q
            by A is = up lane_back.numbers.keys (subst (λ (z : Side). h.back.keys_sent ≤ pick (peer z) h.back.ready 0) is h.other.modes.shown)
            by B is = one h.back.control_came (h.own.modes.both is).1 h.own.modes.ready

        pub dss_told : dss_from s ≤ h.back.keys_came
        dss_told = by s refl
          where
            by : (q : Side) → s ≡ q → dss_from q ≤ h.back.keys_came
            by A is = omega arith
            by B is = h.own.subflow.keyed is una (ap brings_still none)

        pub may_send : MaySend k (waiting_on h.stage) (copy_in update) h.out
        may_send = record {
          turn = refl;
          at = at_is h.now.0 k_is.delay;
          low = refl;
          high = plus h.out.granted;
          written = none_more lane.numbers.granted;
          edge = none_more lane.numbers.edge;
          data_fin = few lane.numbers.data_fin_sent;
        }
          where
            at_is : {x y d e : ℕ} → x ≡ y → d ≡ e → y + d ≡ x + e
            at_is is ticks_are = omega (arith, is, ticks_are)

            plus : (x : ℕ) → x ≤ x + 0
            plus x = omega arith

            none_more : {x y : ℕ} → x ≤ y → x + 0 ≤ y
            none_more less = omega (arith, less)

            few : {x y : ℕ} → x ≤ y → 0 + x ≤ y
            few less = omega (arith, less)

        -- the update tells another edge than the segment before
        pub other_edge : h.back.told.edge ≡ m.end.receiving.next + window_told false m.end.receiving.window → ⊥
        other_edge same = by h.own.receiving.told
          where
            less : {a told edge g : ℕ} → 128 ≤ a → a ≤ 2 * (g - told) → edge ≡ told → edge ≡ g → ⊥
            less p q is is_told = absurd (omega (arith, p, q, is, is_told))

            by : IsToldEdge s j h.owes h.back.receiver m.end.receiving.told_edge → ⊥
            by (Same is) = less k_is.update grown is same
            by (Before side (inl received) least full) = not_far received full
            by (Before side (inr owed) least full) = both_ways _ unowed owed

        pub may_say : MaySay j begun_back (waiting_on h.stage_back) false false (copy_in update) h.back
        may_say = record {
          turn = refl;
          at = at_is h.now_back.0 j_is.delay;
          so = (
            next_low h.own.receiving.next lane_back.numbers.next,
            subst (λ (x : ℕ). x ≤ h.back.read + j.buffer + is_whole j h.back) h.own.receiving.limit lane_back.numbers.limit,
            le_refl h.back.control_came,
            dss_told,
          );
          all = λ e. (next_high h.own.receiving.next (lane_back.asked.next asks), le_refl h.back.control_came, keys_told);
          window = λ e one. near begun_back.read j_is.ranges.least j_is.some (lane_back.asked.limit asked) h.own.receiving.limit;
          paid = no_more h.back.said (pending j (waiting_on h.stage_back) h.back) (no_repeat h.back.told (copy_in update) other_edge);
        }
          where
            at_is : {x y d e : ℕ} → x ≡ y → d ≡ e → y + d ≡ x + e
            at_is is ticks_are = omega (arith, is, ticks_are)

            next_low : {x y z : ℕ} → x ≡ y → y ≤ z → x ≤ z
            next_low is less = omega (arith, is, less)

            next_high : {x y z : ℕ} → x ≡ y → z ≤ y → z ≤ x
            next_high is less = omega (arith, is, less)

            near : {least buffer limit edge threshold : ℕ} (r : ℕ) → least ≤ buffer → 1 ≤ threshold → r + buffer ≤ limit + 31 → limit ≡ edge
                → r + least < edge + 31 + threshold
            near r p q less is = omega (arith, p, q, less, is)

            no_more : {x : ℕ} (y z : ℕ) → x ≡ 0 → x + y + 0 ≤ max y 0 + z
            no_more y z is = omega (arith, is)

        pub next_is : m.end.tcp.send.nxt ≡ h.out.granted + h.out.control_sent
        next_is = sum h.out.granted h.own.subflow.records.next nothing_waits sent_some
          where
            sum : {nxt w d : ℕ} (g : ℕ) → nxt ≡ 1 + g + w + (d - 1) → w ≡ 0 → 1 ≤ d → nxt ≡ g + d
            sum g is a b = omega (arith, is, a, b)

        pub row : m.end.tcp.congestion.duplicates ≤ row_seen h.out.sender None
        row = subst (λ (o : Option Hand). m.end.tcp.congestion.duplicates ≤ row_seen h.out.sender o) none h.own.subflow.congestion.row

        pub heard : HeardIs s k.total (last_told h.out.heard None) m.end.tcp
        heard = subst (λ (o : Option Hand). HeardIs s k.total (last_told h.out.heard o) m.end.tcp) none h.own.subflow.heard

        pub same_control : max h.out.control_sent h.out.control_sent ≡ h.out.control_sent
        same_control = same h.out.control_sent
          where
            same : (x : ℕ) → max x x ≡ x
            same x = omega arith

        pub same_keys : max h.out.keys_sent h.out.keys_sent ≡ h.out.keys_sent
        same_keys = same h.out.keys_sent
          where
            same : (x : ℕ) → max x x ≡ x
            same x = omega arith

        pub least_told : j.least ≤ m.end.receiving.next + window_told false m.end.receiving.window + 31
        least_told = up begun_back.read j_is.ranges.least (lane_back.asked.limit asked) h.own.receiving.limit
          where
            up : {least buffer limit edge : ℕ} (r : ℕ) → least ≤ buffer → r + buffer ≤ limit + 31 → limit ≡ edge → least ≤ edge + 31
            up r p q is = omega (arith, p, q, is)

        -- what it acknowledges
        pub acks : AcknowledgesAs j.total update
        acks = record {
          some = one h.back.received h.back.control_came h.own.subflow.come.edge;
          bytes = bytes h.back.received j.total h.own.subflow.come.edge h.own.receiving.next lane_back.numbers.next one_fin came;
          most = most h.back.control_came h.own.subflow.come.edge lane_back.numbers.received lane_back.numbers.granted lane_back.numbers.written;
          end = λ two. end two h.own.subflow.come.edge (last two);
        }
          where
            one : {e : ℕ} (r d : ℕ) → e ≡ 1 + r + (d - 1) → 1 ≤ e
            one r d is = omega (arith, is)

            bytes : {e d next back fin : ℕ} (r total : ℕ) → e ≡ 1 + r + (d - 1) → next ≡ back → back ≤ r + min fin ((r + 1) - total) → fin ≤ 1 → 1 ≤ d
                → min next total ≤ e - 1
            bytes r total is a b f g = omega (arith, is, a, b, f, g)

            most : {e r g w total : ℕ} (d : ℕ) → e ≡ 1 + r + (d - 1) → r ≤ g → g ≤ w → w ≤ total → e ≤ 1 + total + (d - 1)
            most d is a b f = omega (arith, is, a, b, f)

            end : {e r d total : ℕ} → d ≡ 2 → e ≡ 1 + r + (d - 1) → total ≤ r → total + 2 ≤ e
            end two is all = omega (arith, two, is, all)

            last : h.back.control_came ≡ 2 → j.total ≤ h.back.received
            last two = all (h.other.sending.finish (sent two lane_back.numbers.control)) lane_back.numbers.acked
              where
                sent : {came_now sent_now : ℕ} → came_now ≡ 2 → came_now ≤ sent_now → 2 ≤ sent_now
                sent is less = omega (arith, is, less)

                all : {total acked received : ℕ} → total < acked → min acked total ≤ received → total ≤ received
                all less p = omega (arith, less, p)

        pub others : IsApart s (peer s) (Duty.Send (SendDuty.Update s))
        others = record {
          window = differ refl;
          update = λ e. peer_is_other s (same_update e);
          emit = differ refl;
          finish = differ refl;
          wait = differ refl;
          syn_ack = differ refl;
          acknowledge = differ refl;
          ask = differ refl;
        }

        pub room : {g w : ℕ} → g ≤ w → g + 0 + 0 ≤ w
        room less = omega (arith, less)

        pub same_low : (x : ℕ) → x + 0 ≡ x
        same_low x = omega arith

        pub shows_some : s ≡ A → 1 ≤ h.out.keys_sent
        shows_some is = up came (ready is) (shown is)
          where
            up : {a b d : ℕ} → 1 ≤ a → min 1 a ≤ b → b ≤ d → 1 ≤ d
            up p q r = omega (arith, p, q, r)

        pub clear_some : h.out.clear ≡ 0 → ⊥
        clear_some zero_is = no (h.own.modes.clear ∙ ap one_if clear) zero_is
          where
            no : {x : ℕ} → x ≡ 1 → x ≡ 0 → ⊥
            no p q = absurd (omega (arith, p, q))

        module _ (events : Has (Duty.Step StepDuty.Events) ds) (fs gs : List (Flight Carried)) (f : Flight Carried) (flies : FliesAs c keys s f update)
            (more : fs ≡ m.flying ++ f ∷ []) (same : gs ≡ n.flying)
          where
            abbrev pub update_sent : Facing s keys k j c begun begun_back (record m { end = end_after h update h.out.shut; flying = fs })
                (record n { flying = gs }) clock until ds
            update_sent = sent_off h update h.out.shut ds (sends_none (copy_in update) (same_low h.out.granted) may_send) false false may_say
                (end_after h update h.out.shut) None false 0
                (own_said h update h.out.shut None (ap brings_still none) nothing_waits sent_some refl refl refl refl same_control
                (subst (λ (x : ℕ). x ≤ pick s h.out.ready 0) (sym same_keys) h.own.modes.shown) (Same refl) least_told
                (λ is zero_is. absurd (clear_some zero_is)) row heard)
                fs gs f flies more same (acks, λ is e. shows_some is, tt)
                (refl, came, refl) refl (sent_some, refl, refl) (le_refl m.end.tcp.recv.edge) (le_refl m.end.tcp.recv.edge)
                (sym same_control) (sym same_keys)
                (way_none c keys k j (peer s) h.back.sender h.back.receiver h.back.datas h.out.acks m.end.tcp.send.una n.end.tcp.recv.edge h.hand none n.flying h.way_back)
                (room lane.numbers.granted) (same_bytes h.out.granted nothing_waits) events
                (stage_drops s (peer s) (Duty.Send (SendDuty.Update s)) ds n.end.treated.asked h.owes_back h.stage others h.stages)
                (updated_drops (peer s) s h.stages_back events)
                (settles_drop s (Duty.Send (SendDuty.Update s)) ds (end_after h update h.out.shut) (differ refl) h.settles)
                (settles_drop (peer s) (Duty.Send (SendDuty.Update s)) ds n.end (differ refl) h.settles_back)
                (subst (λ (x : ℕ). 1 ≤ x) (sym same_control) sent_some)
                (begun_drops (peer s) k h.back.sender h.out.receiver n.end (Duty.Send (SendDuty.Update s)) ds (differ refl) (λ is. differ refl) h.begins_back)
                (λ e b. absurd (both_ways false refl e))
