-- An end sends its DATA_FIN, on an acknowledgement.
use Rattle.clean_finish.proofs.Words.{◌≡◌, refl, sym, subst, ap, ◌∙◌, ℕ, ◌+◌, ◌-◌, ◌<◌, ◌≤◌, min, max, Bool, true, false, cond, not, ◌&&◌, inl, inr, ⊎_elim}
use Rattle.clean_finish.proofs.Words.{Option, None, List, [], ◌∷◌, ◌++◌, arith, Some, suc, le_refl, zero, is_some, both_ways, Side, A, B, peer, State}
use Rattle.clean_finish.proofs.Words.{may_finish, one_if, Flight, window_told, Duty, SendDuty, StepDuty, pick, Profile, Carried, PathEnd, is_data_fin_due}
use Rattle.clean_finish.proofs.Words.{is_connected, ack_said, sends_plainly, Setting, Telling, Copy, Lane, Stage, is_whole, all_left, Going, pending, MaySay}
use Rattle.clean_finish.proofs.Words.{MaySend, sends_none, repeats, is_same, Hand, HeardIs, last_told, row_seen, brings_still, IsPhase, Sent, Keys, copy_in}
use Rattle.clean_finish.proofs.Words.{AcknowledgesAs, said, FliesAs, dss_from, EndsStream, Same, IsSetting, Facing, Half, Has, StageIs, end_known, Opening}
use Rattle.clean_finish.proofs.Words.{Listening, HalfOpen, Open}
use Rattle.clean_finish.proofs.Hands.{way_none}
use Rattle.clean_finish.proofs.Opened.{waiting_on}
use Rattle.clean_finish.proofs.Passing.{end_passes}
use Rattle.clean_finish.proofs.Quiet.{now_out, now_back, phase_is}
use Rattle.clean_finish.proofs.Ending.{end_after, own_ended}
use Rattle.clean_finish.proofs.Sendings.{same_bytes, sent_off}
use Rattle.clean_finish.proofs.TakenMeant.{acknowledges_some}

-- an acknowledgement with the DATA_FIN
pub end_is : (c : Profile) (keys : Keys) (s : Side) (place : ℕ) (x : Sent) (e : PathEnd) → x.brings ≡ EndsStream place → e.modes.identity ≡ false
    → e.modes.clear ≡ true → e.sending.known_end ≡ Some place → e.tcp.send.nxt ≡ x.low + x.control → x.edge ≡ e.tcp.recv.edge
    → x.window ≡ e.receiving.window → x.telling.next ≡ e.receiving.next
    → ack_said c s e.tcp.send.nxt e.sending.known_end e ≡ said c keys s x
end_is c keys s place x e brings mptcp clear known next edge window told =
    rw (brings, mptcp, clear, known, next, acknowledges_some s (EndsStream place) x.edge refl, edge, window, told) refl

pub finishes_open : (state : State) → may_finish state ≡ true → is_connected state ≡ true
finishes_open State.Established e = refl
finishes_open State.CloseWait e = refl
finishes_open _ e = absurd (both_ways _ refl e)

-- why it is due
record Due (f c k s a : Bool) : Type 0 where
  pub finish : f ≡ true
  pub clear : c ≡ true
  pub known : k ≡ true
  pub unsent : s ≡ false
  pub unacked : a ≡ false

due_parts : (f i c k s a : Bool) → (f && (not i && (c && (k && (not s && not a))))) ≡ true → Due f c k s a
due_parts true false true true false false e = record { finish = refl; clear = refl; known = refl; unsent = refl; unacked = refl }
due_parts false i c k s a e = absurd (both_ways _ refl e)
due_parts true true c k s a e = absurd (both_ways _ refl e)
due_parts true false false k s a e = absurd (both_ways _ refl e)
due_parts true false true false s a e = absurd (both_ways _ refl e)
due_parts true false true true true a e = absurd (both_ways _ refl e)
due_parts true false true true false true e = absurd (both_ways _ refl e)

known_some : (n total : ℕ) → is_some (end_known n total) ≡ true → (1 ≤ n) × (end_known n total ≡ Some total)
known_some zero total e = absurd (both_ways _ refl e)
known_some (suc n) total e = (omega arith, refl)

pub ended_stays : {ds : List Duty} {asked owes later : Bool} (s r : Side) {p : Stage} → Has (Duty.Step StepDuty.Events) ds → StageIs s r ds asked owes p
    → StageIs s r ds asked later (record (waiting_on p) { tell = false; update = false })
ended_stays {ds} s r events is = record {
  window = is.window;
  update = inl refl;
  emit = is.emit;
  finish = is.finish;
  wait = inr events;
  tell = inl refl;
  ask = is.ask;
}

-- what repeats counts as one
pub few_repeats : (t : Telling) (x : Copy) → repeats t x ≤ 1
few_repeats t x = by x.solid (is_same t x.telling)
  where
    by : (solid same : Bool) → cond solid 0 (cond same 1 0) ≤ 1
    by true same = omega arith
    by false true = omega arith
    by false false = omega arith

module _ {s : Side} {keys : Keys} {k j : Setting} {c : Profile} {begun begun_back : Lane} {m n : Half} {clock until : ℕ} (ticks t u : ℕ)
    (k_is : IsSetting c ticks k) (j_is : IsSetting c ticks j)
    (going : Going k begun t all_left begun) (going_back : Going j begun_back u all_left begun_back)
    {ds : List Duty} (h : Facing s keys k j c begun begun_back m n clock until (Duty.Send (SendDuty.DataFin s) ∷ ds))
  where
    pub lane : Going k begun t h.stage h.out
    lane = now_out ticks t u k_is j_is going going_back h

    pub lane_back : Going j begun_back u h.stage_back h.back
    lane_back = now_back ticks t u k_is j_is going going_back h

    abbrev pub ending : Sent
    ending = record {
      at = clock + ticks;
      brings = EndsStream k.total;
      low = h.out.granted;
      control = h.out.control_sent;
      keys = h.out.keys_sent;
      telling = record {
        next = m.end.receiving.next;
        edge = m.end.receiving.next + window_told false m.end.receiving.window;
        seen = h.back.control_came;
        dss = dss_from s;
      };
      window = m.end.receiving.window;
      edge = m.end.tcp.recv.edge;
    }

    module _ (due : is_data_fin_due m.end ≡ true) (none : h.hand ≡ None) (unowed : h.owes ≡ false) (nothing_waits : h.waiting ≡ 0)
        (answered : min 1 h.back.control_came ≤ h.out.control_sent) (ready : s ≡ A → min 1 h.back.control_came ≤ h.out.ready)
        (shown : s ≡ A → h.out.ready ≤ h.out.keys_sent) (asked : h.stage_back.window ≡ false) (asks : h.stage_back.ask ≡ false)
      where
        parts : Due (may_finish m.end.tcp.state) m.end.modes.clear (is_some m.end.sending.known_end) m.end.sending.fin_sent m.end.sending.close.own_acked
        parts = due_parts (may_finish m.end.tcp.state) (sends_plainly m.end.modes) m.end.modes.clear (is_some m.end.sending.known_end) m.end.sending.fin_sent
            m.end.sending.close.own_acked due

        pub clear : m.end.modes.clear ≡ true
        clear = parts.clear

        pub known : (1 ≤ h.out.known) × (m.end.sending.known_end ≡ Some k.total)
        known = let is = known_some h.out.known k.total (sym (ap is_some h.own.sending.known) ∙ parts.known) in (is.0, h.own.sending.known ∙ is.1)

        pub unsent : h.out.data_fin_sent ≡ 0
        unsent = h.own.sending.data_fin ∙ ap one_if parts.unsent

        pub clear_one : 1 ≤ h.out.clear
        clear_one = one (h.own.modes.clear ∙ ap one_if clear)
          where
            one : {x : ℕ} → x ≡ 1 → 1 ≤ x
            one is = omega (arith, is)

        pub una : 1 ≤ m.end.tcp.send.una
        una = ⊎_elim (λ quiet. absurd (both_ways _ quiet (finishes_open m.end.tcp.state parts.finish))) (λ is. is.0)
            (phase_is s h.back.control_came m.end.tcp.send.una m.end.tcp.send.finished m.end.tcp.state h.own.subflow.phase)

        pub came : 1 ≤ h.back.control_came
        came = by h.back.control_came m.end.tcp.send.una m.end.tcp.send.finished m.end.tcp.state h.own.subflow.phase una
          where
            by : (came una : ℕ) (finished : Bool) (state : State) → IsPhase s came una finished state → 1 ≤ una → 1 ≤ came
            by came una finished state (Opening side none low is) one = absurd (omega (arith, low, one))
            by came una finished state (Listening side none low is) one = absurd (omega (arith, low, one))
            by came una finished state (HalfOpen side one_came low is) one = absurd (omega (arith, low, one))
            by came una finished state (Open some high is) one = some

        pub sent_some : 1 ≤ h.out.control_sent
        sent_some = up came answered
          where
            up : {a b : ℕ} → 1 ≤ a → min 1 a ≤ b → 1 ≤ b
            up p q = omega (arith, p, q)

        pub fin_once : {came a b d : ℕ} → came ≤ a → a ≤ b → b ≤ d → d ≤ 1 → came ≤ 1
        fin_once p q r z = omega (arith, p, q, r, z)

        pub one_fin : h.back.data_fin_came ≤ 1
        one_fin = fin_once lane_back.numbers.data_fin_came lane_back.numbers.data_fin_sent lane_back.numbers.known lane_back.numbers.closed

        pub keys_told : h.back.keys_came ≤ dss_from s
        keys_told = by s refl
          where
            up : {a b : ℕ} → a ≤ b → b ≤ 0 → a ≤ 0
            up p q = omega (arith, p, q)

            one : {a b : ℕ} (d : ℕ) → a ≤ b → b ≤ min 1 d → a ≤ 1
            one d p q = omega (arith, p, q)

            by : (q : Side) → s ≡ q → h.back.keys_came ≤ dss_from q
            by A is = up lane_back.numbers.keys (subst (λ (z : Side). h.back.keys_sent ≤ pick (peer z) h.back.ready 0) is h.other.modes.shown)
            by B is = one h.back.control_came (h.own.modes.both is).1 h.own.modes.ready

        pub dss_told : dss_from s ≤ h.back.keys_came
        dss_told = by s refl
          where
            by : (q : Side) → s ≡ q → dss_from q ≤ h.back.keys_came
            by A is = omega arith
            by B is = h.own.subflow.keyed is una (ap brings_still none)

        pub may_send : MaySend k (waiting_on h.stage) (copy_in ending) h.out
        may_send = record {
          turn = refl;
          at = at_is h.now.0 k_is.delay;
          low = refl;
          high = plus h.out.granted;
          written = none_more lane.numbers.granted;
          edge = none_more lane.numbers.edge;
          data_fin = few unsent known.0;
        }
          where
            at_is : {x y d e : ℕ} → x ≡ y → d ≡ e → y + d ≡ x + e
            at_is is ticks_are = omega (arith, is, ticks_are)

            plus : (x : ℕ) → x ≤ x + 0
            plus x = omega arith

            none_more : {x y : ℕ} → x ≤ y → x + 0 ≤ y
            none_more less = omega (arith, less)

            few : {x y : ℕ} → x ≡ 0 → 1 ≤ y → 1 + x ≤ y
            few is one = omega (arith, is, one)

        pub may_say : MaySay j begun_back (waiting_on h.stage_back) false false (copy_in ending) h.back
        may_say = record {
          turn = refl;
          at = at_is h.now_back.0 j_is.delay;
          so = (
            next_low h.own.receiving.next lane_back.numbers.next,
            subst (λ (x : ℕ). x ≤ h.back.read + j.buffer + is_whole j h.back) h.own.receiving.limit lane_back.numbers.limit,
            le_refl h.back.control_came,
            dss_told,
          );
          all = λ e. (next_high h.own.receiving.next (lane_back.asked.next asks), le_refl h.back.control_came, keys_told);
          window = λ e one. near begun_back.read j_is.ranges.least j_is.some (lane_back.asked.limit asked) h.own.receiving.limit;
          paid = once (pending j (waiting_on h.stage_back) h.back) (few_repeats h.back.told (copy_in ending)) h.own.receiving.said unsent;
        }
          where
            at_is : {x y d e : ℕ} → x ≡ y → d ≡ e → y + d ≡ x + e
            at_is is ticks_are = omega (arith, is, ticks_are)

            next_low : {x y z : ℕ} → x ≡ y → y ≤ z → x ≤ z
            next_low is less = omega (arith, is, less)

            next_high : {x y z : ℕ} → x ≡ y → z ≤ y → z ≤ x
            next_high is less = omega (arith, is, less)

            near : {least buffer limit edge threshold : ℕ} (r : ℕ) → least ≤ buffer → 1 ≤ threshold → r + buffer ≤ limit + 31 → limit ≡ edge
                → r + least < edge + 31 + threshold
            near r p q less is = omega (arith, p, q, less, is)

            once : {x y d : ℕ} (z : ℕ) → x ≤ 1 → y ≤ d → d ≡ 0 → x + y + 0 ≤ max y 1 + z
            once z few less is = omega (arith, few, less, is)

        pub next_is : m.end.tcp.send.nxt ≡ h.out.granted + h.out.control_sent
        next_is = sum h.out.granted h.own.subflow.records.next nothing_waits sent_some
          where
            sum : {nxt w d : ℕ} (g : ℕ) → nxt ≡ 1 + g + w + (d - 1) → w ≡ 0 → 1 ≤ d → nxt ≡ g + d
            sum g is a b = omega (arith, is, a, b)

        pub row : m.end.tcp.congestion.duplicates ≤ row_seen h.out.sender None
        row = subst (λ (o : Option Hand). m.end.tcp.congestion.duplicates ≤ row_seen h.out.sender o) none h.own.subflow.congestion.row

        pub heard : HeardIs s k.total (last_told h.out.heard None) m.end.tcp
        heard = subst (λ (o : Option Hand). HeardIs s k.total (last_told h.out.heard o) m.end.tcp) none h.own.subflow.heard

        pub same_control : max h.out.control_sent h.out.control_sent ≡ h.out.control_sent
        same_control = same h.out.control_sent
          where
            same : (x : ℕ) → max x x ≡ x
            same x = omega arith

        pub same_keys : max h.out.keys_sent h.out.keys_sent ≡ h.out.keys_sent
        same_keys = same h.out.keys_sent
          where
            same : (x : ℕ) → max x x ≡ x
            same x = omega arith

        pub least_told : j.least ≤ m.end.receiving.next + window_told false m.end.receiving.window + 31
        least_told = up begun_back.read j_is.ranges.least (lane_back.asked.limit asked) h.own.receiving.limit
          where
            up : {least buffer limit edge : ℕ} (r : ℕ) → least ≤ buffer → r + buffer ≤ limit + 31 → limit ≡ edge → least ≤ edge + 31
            up r p q is = omega (arith, p, q, is)

        -- what it acknowledges
        pub acks : AcknowledgesAs j.total ending
        acks = record {
          some = one h.back.received h.back.control_came h.own.subflow.come.edge;
          bytes = bytes h.back.received j.total h.own.subflow.come.edge h.own.receiving.next lane_back.numbers.next one_fin came;
          most = most h.back.control_came h.own.subflow.come.edge lane_back.numbers.received lane_back.numbers.granted lane_back.numbers.written;
          end = λ two. end two h.own.subflow.come.edge (last two);
        }
          where
            one : {e : ℕ} (r d : ℕ) → e ≡ 1 + r + (d - 1) → 1 ≤ e
            one r d is = omega (arith, is)

            bytes : {e d next back fin : ℕ} (r total : ℕ) → e ≡ 1 + r + (d - 1) → next ≡ back → back ≤ r + min fin ((r + 1) - total) → fin ≤ 1 → 1 ≤ d
                → min next total ≤ e - 1
            bytes r total is a b f g = omega (arith, is, a, b, f, g)

            most : {e r g w total : ℕ} (d : ℕ) → e ≡ 1 + r + (d - 1) → r ≤ g → g ≤ w → w ≤ total → e ≤ 1 + total + (d - 1)
            most d is a b f = omega (arith, is, a, b, f)

            end : {e r d total : ℕ} → d ≡ 2 → e ≡ 1 + r + (d - 1) → total ≤ r → total + 2 ≤ e
            end two is all = omega (arith, two, is, all)

            last : h.back.control_came ≡ 2 → j.total ≤ h.back.received
            last two = all (h.other.sending.finish (sent two lane_back.numbers.control)) lane_back.numbers.acked
              where
                sent : {came_now sent_now : ℕ} → came_now ≡ 2 → came_now ≤ sent_now → 2 ≤ sent_now
                sent is less = omega (arith, is, less)

                all : {total acked received : ℕ} → total < acked → min acked total ≤ received → total ≤ received
                all less p = omega (arith, less, p)

        pub room : {g w : ℕ} → g ≤ w → g + 0 + 0 ≤ w
        room less = omega (arith, less)

        pub same_low : (x : ℕ) → x + 0 ≡ x
        same_low x = omega arith

        pub shows_some : s ≡ A → 1 ≤ h.out.keys_sent
        shows_some is = up came (ready is) (shown is)
          where
            up : {a b d : ℕ} → 1 ≤ a → min 1 a ≤ b → b ≤ d → 1 ≤ d
            up p q r = omega (arith, p, q, r)

        pub clear_some : h.out.clear ≡ 0 → ⊥
        clear_some zero_is = no clear_one zero_is
          where
            no : {x : ℕ} → 1 ≤ x → x ≡ 0 → ⊥
            no p q = absurd (omega (arith, p, q))

        pub all_known : h.out.known ≤ max h.out.data_fin_sent 1
        all_known = up lane.numbers.known lane.numbers.closed
          where
            up : {a b : ℕ} → a ≤ b → b ≤ 1 → a ≤ max h.out.data_fin_sent 1
            up p q = omega (arith, p, q)

        module _ (events : Has (Duty.Step StepDuty.Events) ds) (fs gs : List (Flight Carried)) (f : Flight Carried) (flies : FliesAs c keys s f ending)
            (more : fs ≡ m.flying ++ f ∷ []) (same : gs ≡ n.flying)
          where
            abbrev pub end_goes : Facing s keys k j c begun begun_back (record m { end = end_after h ending h.out.shut; flying = fs })
                (record n { flying = gs }) clock until (Duty.Send (SendDuty.DataFin s) ∷ ds)
            end_goes = sent_off h ending h.out.shut (Duty.Send (SendDuty.DataFin s) ∷ ds) (sends_none (copy_in ending) (same_low h.out.granted) may_send) false false may_say
                (end_after h ending h.out.shut) None false 0
                (own_ended h ending h.out.shut None (ap brings_still none) nothing_waits sent_some refl refl refl refl unsent clear_one same_control
                (subst (λ (x : ℕ). x ≤ pick s h.out.ready 0) (sym same_keys) h.own.modes.shown) (Same refl) least_told
                (λ is zero_is. absurd (clear_some zero_is)) row heard)
                fs gs f flies more same (acks, λ is e. shows_some is, refl)
                (refl, came, refl) refl (sent_some, refl, refl) (le_refl m.end.tcp.recv.edge) (le_refl m.end.tcp.recv.edge)
                (sym same_control) (sym same_keys)
                (way_none c keys k j (peer s) h.back.sender h.back.receiver h.back.datas h.out.acks m.end.tcp.send.una n.end.tcp.recv.edge h.hand none n.flying h.way_back)
                (room lane.numbers.granted) (same_bytes h.out.granted nothing_waits) (inr events) h.stages (ended_stays (peer s) s (inr events) h.stages_back) h.settles h.settles_back
                (subst (λ (x : ℕ). 1 ≤ x) (sym same_control) sent_some) h.begins_back
                (λ e b. absurd (both_ways false refl e))

            -- and no DATA_FIN is due any more
            abbrev pub end_sent : Facing s keys k j c begun begun_back (record m { end = end_after h ending h.out.shut; flying = fs })
                (record n { flying = gs }) clock until ds
            end_sent = end_passes ds end_goes (λ one. all_known)
