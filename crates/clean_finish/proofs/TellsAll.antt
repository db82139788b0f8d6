-- What an end tells on each segment that has a DSS: all that came, and its window.
--
-- What several segments tell alike stands once: `proofs/TellsAll` has what an end tells with each DSS, what that
-- acknowledges, and why it may; FIN, bytes and the acknowledgement of a copy each add what they bring. A sending is
-- `sent_off` for every kind, with the end that it leaves as an argument; what a segment brings is taken by its lane in
-- one lemma for every kind (`brought`), with the parts of the end that change as arguments.
use Rattle.clean_finish.proofs.Words.{◌≡◌, refl, sym, subst, ap, ◌∙◌, ℕ, ◌+◌, ◌-◌, ◌<◌, ◌≤◌, min, Bool, false, List, arith, le_refl, Side, A, B, peer, State}
use Rattle.clean_finish.proofs.Words.{window_told, Duty, pick, Profile, Setting, Telling, Lane, is_whole, all_left, data_ack, Going, Covers, may_tell}
use Rattle.clean_finish.proofs.Words.{brings_still, IsPhase, Sent, Keys, AcknowledgesAs, dss_from, IsSetting, Facing, Half, Opening, Listening, HalfOpen, Open}
use Rattle.clean_finish.proofs.Quiet.{now_out, now_back}

module _ {s : Side} {keys : Keys} {k j : Setting} {c : Profile} {begun begun_back : Lane} {m n : Half} {clock until : ℕ} (ticks t u : ℕ)
    (k_is : IsSetting c ticks k) (j_is : IsSetting c ticks j)
    (going : Going k begun t all_left begun) (going_back : Going j begun_back u all_left begun_back)
    {es : List Duty} (h : Facing s keys k j c begun begun_back m n clock until es)
  where
    pub lane : Going k begun t h.stage h.out
    lane = now_out ticks t u k_is j_is going going_back h

    pub lane_back : Going j begun_back u h.stage_back h.back
    lane_back = now_back ticks t u k_is j_is going going_back h

    abbrev pub all_told : Telling
    all_told = record {
      next = m.end.receiving.next;
      edge = m.end.receiving.next + window_told false m.end.receiving.window;
      seen = h.back.control_came;
      dss = dss_from s;
    }

    -- once both SYNs are acknowledged, and what came is taken
    module _ (still : brings_still h.hand ≡ false) (una : 1 ≤ m.end.tcp.send.una) (answered : min 1 h.back.control_came ≤ h.out.control_sent) where
      pub came : 1 ≤ h.back.control_came
      came = by h.back.control_came m.end.tcp.send.una m.end.tcp.send.finished m.end.tcp.state h.own.subflow.phase una
        where
          by : (came una : ℕ) (finished : Bool) (state : State) → IsPhase s came una finished state → 1 ≤ una → 1 ≤ came
          by came una finished state (Opening side none low is) one = absurd (omega (arith, low, one))
          by came una finished state (Listening side none low is) one = absurd (omega (arith, low, one))
          by came una finished state (HalfOpen side one_came low is) one = absurd (omega (arith, low, one))
          by came una finished state (Open some high is) one = some

      pub sent_some : 1 ≤ h.out.control_sent
      sent_some = up came answered
        where
          up : {a b : ℕ} → 1 ≤ a → min 1 a ≤ b → 1 ≤ b
          up p q = omega (arith, p, q)

      pub one_fin : h.back.data_fin_came ≤ 1
      one_fin = once lane_back.numbers.data_fin_came lane_back.numbers.data_fin_sent lane_back.numbers.known lane_back.numbers.closed
        where
          once : {came a b d : ℕ} → came ≤ a → a ≤ b → b ≤ d → d ≤ 1 → came ≤ 1
          once p q r z = omega (arith, p, q, r, z)

      pub keys_told : h.back.keys_came ≤ dss_from s
      keys_told = by s refl
        where
          up : {a b : ℕ} → a ≤ b → b ≤ 0 → a ≤ 0
          up p q = omega (arith, p, q)

          one : {a b : ℕ} (d : ℕ) → a ≤ b → b ≤ min 1 d → a ≤ 1
          one d p q = omega (arith, p, q)

          by : (q : Side) → s ≡ q → h.back.keys_came ≤ dss_from q
          by A is = up lane_back.numbers.keys (subst (λ (z : Side). h.back.keys_sent ≤ pick (peer z) h.back.ready 0) is h.other.modes.shown)
          by B is = one h.back.control_came (h.own.modes.both is).1 h.own.modes.ready

      dss_told : dss_from s ≤ h.back.keys_came
      dss_told = by s refl
        where
          by : (q : Side) → s ≡ q → dss_from q ≤ h.back.keys_came
          by A is = omega arith
          by B is = h.own.subflow.keyed is una still

      pub so : Covers (may_tell j h.back) all_told
      so = (
        low h.own.receiving.next lane_back.numbers.next,
        subst (λ (x : ℕ). x ≤ h.back.read + j.buffer + is_whole j h.back) h.own.receiving.limit lane_back.numbers.limit,
        le_refl h.back.control_came,
        dss_told,
      )
        where
          low : {x y z : ℕ} → x ≡ y → y ≤ z → x ≤ z
          low is less = omega (arith, is, less)

      -- what is acknowledged by the position and by the Data ACK
      pub acks : (x : Sent) → x.telling ≡ all_told → x.edge ≡ m.end.tcp.recv.edge → AcknowledgesAs j.total x
      acks x told at = record {
        some = one h.back.received h.back.control_came (at ∙ h.own.subflow.come.edge);
        bytes = bytes h.back.received j.total (at ∙ h.own.subflow.come.edge) (ap (λ (y : Telling). y.next) told ∙ h.own.receiving.next) lane_back.numbers.next
            one_fin came;
        most = most h.back.control_came (at ∙ h.own.subflow.come.edge) (ap (λ (y : Telling). y.seen) told) lane_back.numbers.received
            lane_back.numbers.granted lane_back.numbers.written;
        end = λ two. end (sym (ap (λ (y : Telling). y.seen) told) ∙ two) (at ∙ h.own.subflow.come.edge) (last (sym (ap (λ (y : Telling). y.seen) told) ∙ two));
      }
        where
          one : {e : ℕ} (r d : ℕ) → e ≡ 1 + r + (d - 1) → 1 ≤ e
          one r d is = omega (arith, is)

          bytes : {e d next back fin : ℕ} (r total : ℕ) → e ≡ 1 + r + (d - 1) → next ≡ back → back ≤ r + min fin ((r + 1) - total) → fin ≤ 1 → 1 ≤ d
              → min next total ≤ e - 1
          bytes r total is a b f g = omega (arith, is, a, b, f, g)

          most : {e r g w total seen : ℕ} (d : ℕ) → e ≡ 1 + r + (d - 1) → seen ≡ d → r ≤ g → g ≤ w → w ≤ total → e ≤ 1 + total + (seen - 1)
          most d is same a b f = omega (arith, is, same, a, b, f)

          end : {e r d total : ℕ} → d ≡ 2 → e ≡ 1 + r + (d - 1) → total ≤ r → total + 2 ≤ e
          end two is all = omega (arith, two, is, all)

          last : h.back.control_came ≡ 2 → j.total ≤ h.back.received
          last two = all (h.other.sending.finish (sent two lane_back.numbers.control)) lane_back.numbers.acked
            where
              sent : {came_now sent_now : ℕ} → came_now ≡ 2 → came_now ≤ sent_now → 2 ≤ sent_now
              sent is less = omega (arith, is, less)

              all : {total acked received : ℕ} → total < acked → min acked total ≤ received → total ≤ received
              all less p = omega (arith, less, p)

      -- where the book was asked after all that came
      module _ (asked : h.stage_back.window ≡ false) (asks : h.stage_back.ask ≡ false) where
        pub all : (data_ack j h.back ≤ m.end.receiving.next) × (h.back.control_came ≤ h.back.control_came) × (h.back.keys_came ≤ dss_from s)
        all = (high h.own.receiving.next (lane_back.asked.next asks), le_refl h.back.control_came, keys_told)
          where
            high : {x y z : ℕ} → x ≡ y → z ≤ y → z ≤ x
            high is less = omega (arith, is, less)

        pub near : begun_back.read + j.least < m.end.receiving.next + window_told false m.end.receiving.window + 31 + j.threshold
        near = far begun_back.read j_is.ranges.least j_is.some (lane_back.asked.limit asked) h.own.receiving.limit
          where
            far : {least buffer limit edge threshold : ℕ} (r : ℕ) → least ≤ buffer → 1 ≤ threshold → r + buffer ≤ limit + 31 → limit ≡ edge
                → r + least < edge + 31 + threshold
            far r p q less is = omega (arith, p, q, less, is)

        pub least_told : j.least ≤ m.end.receiving.next + window_told false m.end.receiving.window + 31
        least_told = up begun_back.read j_is.ranges.least (lane_back.asked.limit asked) h.own.receiving.limit
          where
            up : {least buffer limit edge : ℕ} (r : ℕ) → least ≤ buffer → r + buffer ≤ limit + 31 → limit ≡ edge → least ≤ edge + 31
            up r p q is = omega (arith, p, q, is)
