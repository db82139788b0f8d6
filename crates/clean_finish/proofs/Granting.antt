-- An end asks for bytes: what it knows, and what the lane knows once they are refused.
use Rattle.clean_finish.proofs.Words.{◌≡◌, refl, sym, subst, ap, ◌∙◌, ℕ, ◌+◌, ◌-◌, ◌<◌, ◌≤◌, min, Bool, true, false, not, ◌&&◌, ◌||◌, ◌⊎◌, inr, ⊎_elim, List}
use Rattle.clean_finish.proofs.Words.{◌∷◌, length, arith, le_refl, nat_le, both_ways, and_parts, ltb-false, leb-true, Side, A, B, Why, is_at_limit, may_finish}
use Rattle.clean_finish.proofs.Words.{one_if, Duty, StepDuty, Profile, is_shut, payload_size, may_send_data, may_ask, Setting, Lane, all_left, Going, MayRefuse}
use Rattle.clean_finish.proofs.Words.{AreTaken, brings_still, IsOpen, Keys, IsSetting, Facing, Half}
use Rattle.subflow_tcp.specs.Sizes.{room}
use Rattle.clean_finish.proofs.EndSent.{finishes_open}
use Rattle.clean_finish.proofs.GrantDecided.{GrantIs, decided}
use Rattle.clean_finish.proofs.Quiet.{phase_is}
use Rattle.clean_finish.proofs.Refused.{finishing}
use Rattle.clean_finish.proofs.TellsAll.{lane, came, sent_some}

is_not : (b : Bool) → not b ≡ true → b ≡ false
is_not false e = refl
is_not true e = absurd (both_ways _ refl e)

module _ {s : Side} {keys : Keys} {k j : Setting} {c : Profile} {begun begun_back : Lane} {m n : Half} {clock until : ℕ} (ticks t u : ℕ)
    (k_is : IsSetting c ticks k) (j_is : IsSetting c ticks j)
    (going : Going k begun t all_left begun) (going_back : Going j begun_back u all_left begun_back)
    {ds : List Duty} (h : Facing s keys k j c begun begun_back m n clock until (Duty.Step (StepDuty.Data s) ∷ ds))
    (off : may_ask c s m.end ≡ true) (still : brings_still h.hand ≡ false) (nothing_waits : h.waiting ≡ 0)
    (answered : min 1 h.back.control_came ≤ h.out.control_sent) (ready_a : s ≡ A → min 1 h.back.control_came ≤ h.out.ready)
  where
    first : (may_finish m.end.tcp.state ≡ true)
        × ((nat_le (payload_size c) (room m.end.tcp) && (not (is_at_limit m.end.tcp) && may_send_data c s m.end)) ≡ true)
    first = and_parts (may_finish m.end.tcp.state) (nat_le (payload_size c) (room m.end.tcp) && (not (is_at_limit m.end.tcp) && may_send_data c s m.end)) off

    second : (nat_le (payload_size c) (room m.end.tcp) ≡ true) × ((not (is_at_limit m.end.tcp) && may_send_data c s m.end) ≡ true)
    second = and_parts (nat_le (payload_size c) (room m.end.tcp)) (not (is_at_limit m.end.tcp) && may_send_data c s m.end) first.1

    may_data : may_send_data c s m.end ≡ true
    may_data = (and_parts (not (is_at_limit m.end.tcp)) (may_send_data c s m.end) second.1).1

    is_open : (1 ≤ m.end.tcp.send.una) × IsOpen m.end.tcp.send.finished m.end.tcp.state
    is_open = ⊎_elim (λ quiet. absurd (both_ways _ quiet (finishes_open m.end.tcp.state first.0))) (λ is. is)
        (phase_is s h.back.control_came m.end.tcp.send.una m.end.tcp.send.finished m.end.tcp.state h.own.subflow.phase)

    pub some_sent : 1 ≤ h.out.control_sent
    some_sent = sent_some ticks t u k_is j_is going going_back h still is_open.0 answered

    pub one_sent : h.out.control_sent ≡ 1
    one_sent = one (ltb-false 1 h.out.control_sent (sym h.own.subflow.records.finished ∙ is_not m.end.tcp.send.finished (sym is_open.1.finish ∙ first.0)))
        some_sent
      where
        one : {x : ℕ} → x ≤ 1 → 1 ≤ x → x ≡ 1
        one p q = omega (arith, p, q)

    pub is_ready : 1 ≤ h.out.ready
    is_ready = by s refl
      where
        up : {a b : ℕ} → 1 ≤ a → min 1 a ≤ b → 1 ≤ b
        up p q = omega (arith, p, q)

        one_clear : {a b : ℕ} → a ≡ b → b ≡ 1 → 1 ≤ a
        one_clear p q = omega (arith, p, q)

        clear_b : (x y : Bool) → y ≡ false → (x || (y || false)) ≡ true → x ≡ true
        clear_b true y none e = refl
        clear_b false true none e = absurd (both_ways _ none refl)
        clear_b false false none e = absurd (both_ways _ refl e)

        by : (q : Side) → s ≡ q → 1 ≤ h.out.ready
        by A is = up (came ticks t u k_is j_is going going_back h still is_open.0 answered) (ready_a is)
        by B is = one_clear (h.own.modes.both is).0 (h.own.modes.clear ∙ ap one_if (clear_b m.end.modes.clear m.end.modes.identity h.own.modes.mapping.0
            (subst (λ (q : Side). may_send_data c q m.end ≡ true) is may_data)))

    pub unacked : h.out.control_acked ≤ 1
    unacked = up (lane ticks t u k_is j_is going going_back h).numbers.control_acked (lane ticks t u k_is j_is going going_back h).numbers.control one_sent
      where
        up : {a b d : ℕ} → a ≤ b → b ≤ d → d ≡ 1 → a ≤ 1
        up p q r = omega (arith, p, q, r)

    -- there is room for a full segment
    pub fits : {count : ℕ} → count ≤ payload_size c → count ≤ room m.end.tcp
    fits few = up few (leb-true (payload_size c) (room m.end.tcp) second.0)
      where
        up : {x y z : ℕ} → x ≤ y → y ≤ z → x ≤ z
        up p q = omega (arith, p, q)

    pub few_bytes : {count : ℕ} → count ≤ payload_size c → count ≤ k.payload
    few_bytes few = up few k_is.payload
      where
        up : {x y z : ℕ} → x ≤ y → y ≡ z → x ≤ z
        up p q = omega (arith, p, q)

    -- what is granted isn't acknowledged
    pub ahead : {count : ℕ} → 1 ≤ count → h.out.granted + count ≤ length m.send.marks → h.out.acked < h.out.granted + count
    ahead some inside = below some inside h.apps.book.marks h.apps.writes.numbers.bytes (lane ticks t u k_is j_is going going_back h).numbers.acked
        (lane ticks t u k_is j_is going going_back h).numbers.received (lane ticks t u k_is j_is going going_back h).numbers.written
      where
        below : {count marks l w acked total received granted : ℕ} → 1 ≤ count → granted + count ≤ marks → marks ≡ l → w ≡ l → min acked total ≤ received
            → received ≤ granted → w ≤ total → acked < granted + count
        below a b d e f g i = omega (arith, a, b, d, e, f, g, i)

    pub decides : 1 ≤ payload_size c → GrantIs h.out.granted (payload_size c) m.send
    decides some = decided h.out.granted (payload_size c) m.send h.apps.writes.numbers.unaborted h.apps.book.owner
        (subst (λ (x : ℕ). AreTaken x m.send.marks) (plus h.out.granted nothing_waits) h.apps.book.taken) some
      where
        plus : {w : ℕ} (x : ℕ) → w ≡ 0 → x + w ≡ x
        plus x is = omega (arith, is)

    pub size_some : 1 ≤ payload_size c
    size_some = up k_is.payload k_is.ranges.payload
      where
        up : {x y : ℕ} → x ≡ y → 1 ≤ y → 1 ≤ x
        up p q = omega (arith, p, q)

    -- the path is refused for want of bytes, or of room
    module _ (why : Why) (full : (h.out.written ≤ h.out.granted) ⊎ (h.out.edge ≤ h.out.granted)) (shut : is_shut why ≡ true → h.out.granted < h.out.written) where
      pub may_refuse : MayRefuse k begun (finishing h) (is_shut why) h.out.closed h.out
      may_refuse = record {
        more = (lane ticks t u k_is j_is going going_back h).numbers.known;
        closed = le_refl h.out.closed;
        finish = inr refl;
        waits = λ e. (shut e, is_ready);
        emitted = record {
          bytes = λ one. ⊎_elim
              (λ none. by_written begun.written h.out.edge ((h.out.acked + h.out.window + 1) - k.payload) (lane ticks t u k_is j_is going going_back h).since.written none)
              (λ none. by_edge begun.written ((h.out.acked + h.out.window + 1) - k.payload) none) full;
          end = λ one room. (lane ticks t u k_is j_is going going_back h).since.closed;
        };
      }
        where
          by_written : {written granted : ℕ} (x edge y : ℕ) → x ≤ written → written ≤ granted → min (min x edge) y ≤ granted
          by_written x edge y p q = omega (arith, p, q)

          by_edge : {edge granted : ℕ} (x y : ℕ) → edge ≤ granted → min (min x edge) y ≤ granted
          by_edge x y p = omega (arith, p)
