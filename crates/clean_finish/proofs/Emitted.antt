-- Where an end neither sends a record nor asks for bytes, what was written has no room in the windows, or its end is known.
use Rattle.clean_finish.proofs.Words.{◌≡◌, refl, sym, subst, ap, ◌∙◌, ℕ, ◌+◌, ◌-◌, ◌<◌, ◌≤◌, min, Bool, true, false, not, ◌&&◌, ◌||◌, if◌then◌else◌, ◌⊎◌, inl}
use Rattle.clean_finish.proofs.Words.{inr, ⊎_elim, Option, None, List, [], ◌∷◌, ◌++◌, All, arith, Some, nat_le, ◌^◌, find, both_ways, cases_lt, le-leb}
use Rattle.clean_finish.proofs.Words.{ltb-true, leb-true, leb-false, All-head, All-tail, Side, A, B, Record, is_unsent, flight, is_at_limit, may_finish, one_if}
use Rattle.clean_finish.proofs.Words.{Duty, Profile, first_unsent, payload_size, data_stands, may_send_data, Setting, Lane, all_left, Going, HasEmitted, IsOpen}
use Rattle.clean_finish.proofs.Words.{Waits, WaitsSyn, WaitsNone, WaitsBytes, Keys, IsSetting, Facing, Half}
use Rattle.subflow_tcp.specs.Sizes.{room}
use Rattle.clean_finish.proofs.Machine.{flights_are_small}
use Rattle.clean_finish.proofs.Quiet.{now_out, now_back, open_when_ready, not_false}

-- the first record that isn't sent is the first that waits
pub first_waits : (sent rest : List Record) → All (λ (r : Record). is_unsent r ≡ false) sent
    → find is_unsent (sent ++ rest) ≡ find is_unsent rest
first_waits [] rest gone = refl
first_waits (r ∷ sent) rest gone =
    rw (All-head (λ (x : Record). is_unsent x ≡ false) r sent gone)
    (first_waits sent rest (All-tail (λ (x : Record). is_unsent x ≡ false) r sent gone))

asks_not : (f r l m : Bool) → (f && (r && (not l && m))) ≡ false → (f ≡ false) ⊎ ((r ≡ false) ⊎ ((l ≡ true) ⊎ (m ≡ false)))
asks_not false r l m e = inl refl
asks_not true false l m e = inr (inl refl)
asks_not true true true m e = inr (inr (inl refl))
asks_not true true false m e = inr (inr (inr e))

either_true : (a b : Bool) → (a || b) ≡ true → (a ≡ true) ⊎ (b ≡ true)
either_true true b e = inl refl
either_true false b e = inr e

pub is_clear : (b : Bool) → 1 ≤ one_if b → b ≡ true
is_clear true one = refl
is_clear false one = absurd (omega (arith, one))

up : {a b d : ℕ} → a ≤ b → b ≤ d → a ≤ d
up low high = omega (arith, low, high)

le_not : {a b : ℕ} → a ≤ b → b < a → ⊥
le_not low high = absurd (omega (arith, low, high))

least_room : (a b c d : ℕ) → c ≤ d → min (min a b) c ≤ d
least_room a b c d low = omega (arith, low)

-- positions are far below their limit
far_sent : {nxt : ℕ} (granted waiting control total : ℕ) → 2 ^ 61 ≤ nxt → waiting ≡ 0 → nxt ≡ 1 + granted + waiting + (control - 1)
    → granted ≤ total → total ≤ 16777216 → control ≤ 2 → ⊥
far_sent granted waiting control total far none next few small two = absurd (omega (arith, far, none, next, few, small, two))

far_come : {edge : ℕ} (received control total : ℕ) → 2 ^ 61 ≤ edge → edge ≡ 1 + received + (control - 1)
    → received ≤ total → total ≤ 16777216 → control ≤ 2 → ⊥
far_come received control total far next few small two = absurd (omega (arith, far, next, few, small, two))

-- where there is no room for a full segment, the windows are full
room_is_small : (payload window granted acked total waiting control una nxt flight reno size : ℕ) → reno - flight < size
    → flight + una < nxt + payload + 1 → waiting ≡ 0 → acked ≤ total → nxt ≡ 1 + granted + waiting + (control - 1)
    → payload + window ≤ reno → min acked total ≤ una - 1 → size ≡ payload → 1 ≤ una → control ≤ 1
    → acked + window < granted + payload
room_is_small payload window granted acked total waiting control una nxt flight reno size low small none few next wide ahead same high one =
    omega (arith, low, small, none, few, next, wide, ahead, same, high, one)

module _ {s : Side} {keys : Keys} {k j : Setting} {c : Profile} {begun begun_back : Lane} {m n : Half} {clock until : ℕ} (ticks t u : ℕ)
    (k_is : IsSetting c ticks k) (j_is : IsSetting c ticks j)
    (going : Going k begun t all_left begun) (going_back : Going j begun_back u all_left begun_back)
  where
    module _ {ds : List Duty} (h : Facing s keys k j c begun begun_back m n clock until ds) where
      abbrev out : Lane
      out = h.out

      now : Going k begun t h.stage h.out
      now = now_out ticks t u k_is j_is going going_back h

      back_now : Going j begun_back u h.stage_back h.back
      back_now = now_back ticks t u k_is j_is going going_back h

      unready : (1 ≤ h.out.ready → ⊥) → HasEmitted k begun h.out.known h.out
      unready none = record { bytes = λ ready. absurd (none ready); end = λ ready. absurd (none ready) }

      -- the whole stream is acknowledged
      all_told : k.total < h.out.acked → HasEmitted k begun h.out.known h.out
      all_told more =
          let end = h.own.sending.acked_end more in
          record {
            bytes = λ ready. omega (arith, more, now.numbers);
            end = λ ready room. omega (arith, end, now.numbers, now.since.closed);
          }

      no_room : h.waiting ≡ 0 → nat_le (payload_size c) (room m.end.tcp) ≡ false → 1 ≤ h.out.ready → HasEmitted k begun h.out.known h.out
      no_room none full ready = ⊎_elim (λ more. all_told more)
          (λ few.
          let close = room_is_small k.payload h.out.window h.out.granted h.out.acked k.total h.waiting h.out.control_sent m.end.tcp.send.una
          m.end.tcp.send.nxt (flight m.end.tcp.send) m.end.tcp.congestion.reno.window (payload_size c)
          (leb-false (payload_size c) (room m.end.tcp) full)
          (flights_are_small k.payload m.end.tcp.send h.own.subflow.records.tile h.own.subflow.records.pieces) none few
          h.own.subflow.records.next h.own.subflow.congestion.window h.own.subflow.ahead.bytes k_is.payload
          (open_when_ready ticks t u k_is j_is going going_back h ready).0 (one_sent few) in
          record {
            bytes = λ is. least_room begun.written h.out.edge _ h.out.granted (omega (arith, close));
            end = λ is fits. absurd (omega (arith, close, fits));
          })
          (cases_lt k.total h.out.acked)
        where
          one_sent : h.out.acked ≤ k.total → h.out.control_sent ≤ 1
          one_sent few = ⊎_elim (λ two. absurd (le_not few (h.own.sending.finish two))) (λ one. one)
              (cases_lt 1 h.out.control_sent)

      nothing_waits : h.waiting ≡ 0 → data_stands c s m.end None ≡ false → 1 ≤ h.out.ready → HasEmitted k begun h.out.known h.out
      nothing_waits none off ready =
          by (asks_not (may_finish m.end.tcp.state) (nat_le (payload_size c) (room m.end.tcp)) (is_at_limit m.end.tcp)
          (may_send_data c s m.end) off)
        where
          is : IsOpen m.end.tcp.send.finished m.end.tcp.state
          is = (open_when_ready ticks t u k_is j_is going going_back h ready).1

          may : (q : Side) → q ≡ s → may_send_data c q m.end ≡ true
          may A e = rw (k_is.path) (all_of m.end.modes.clear m.end.modes.identity)
            where
              all_of : (x y : Bool) → (x || (y || true)) ≡ true
              all_of true y = refl
              all_of false true = refl
              all_of false false = refl
          may B e =
              let same = (h.own.modes.both (sym e)).0 in
              rw (is_clear m.end.modes.clear (omega (arith, same, h.own.modes.clear, ready))) refl

          by : (may_finish m.end.tcp.state ≡ false) ⊎ ((nat_le (payload_size c) (room m.end.tcp) ≡ false)
              ⊎ ((is_at_limit m.end.tcp ≡ true) ⊎ (may_send_data c s m.end ≡ false))) → HasEmitted k begun h.out.known h.out
          by (inl over) =
              let two = ltb-true 1 h.out.control_sent (sym h.own.subflow.records.finished ∙ not_false _ (sym is.finish ∙ over)) in
              all_told (h.own.sending.finish (omega (arith, two)))
          by (inr (inl full)) = no_room none full ready
          by (inr (inr (inl limit))) = absurd (⊎_elim
              (λ high. far_sent h.out.granted h.waiting h.out.control_sent k.total (leb-true (2 ^ 61) m.end.tcp.send.nxt high) none
              h.own.subflow.records.next (up now.numbers.granted now.numbers.written) k_is.small h.own.subflow.records.control)
              (λ high. far_come h.back.received h.back.control_came j.total (leb-true (2 ^ 61) m.end.tcp.recv.edge high)
              h.own.subflow.come.edge (up back_now.numbers.received (up back_now.numbers.granted back_now.numbers.written))
              j_is.small (up back_now.numbers.control h.other.subflow.records.control))
              (either_true (nat_le (2 ^ 61) m.end.tcp.send.nxt) (nat_le (2 ^ 61) m.end.tcp.recv.edge) limit))
          by (inr (inr (inr shut))) = absurd (both_ways _ shut (may s refl))

      not_begun : h.out.control_sent ≡ 0 → 1 ≤ h.out.ready → ⊥
      not_begun unsent ready = ⊎_elim (λ sent. le_not sent (below unsent)) (λ none. le_not ready (below none.ready)) h.begins
        where
          below : {x : ℕ} → x ≡ 0 → x < 1
          below zero_is = omega (arith, zero_is)

      -- with the records that wait
      data_is : (rest : List Record) (waits : ℕ) → Waits k h.out.sender rest waits → waits ≡ h.waiting → waits ≤ room m.end.tcp
          → data_stands c s m.end (find is_unsent rest) ≡ false → (h.waiting ≡ 0) × HasEmitted k begun h.out.known h.out
      data_is _ _ (WaitsSyn unsent) same fits off = (sym same, unready (not_begun unsent))
      data_is _ _ (WaitsNone sent) same fits off = (sym same, by (cases_lt 0 h.out.ready))
        where
          by : (0 < h.out.ready) ⊎ (h.out.ready ≤ 0) → HasEmitted k begun h.out.known h.out
          by (inl ready) = nothing_waits (sym same) off ready
          by (inr none) = unready (λ ready. le_not ready (below none))
            where
              below : {x : ℕ} → x ≤ 0 → x < 1
              below low = omega (arith, low)
      data_is _ _ (WaitsBytes sent r kind pos unsent some most edge) same fits off =
          let is = open_when_ready ticks t u k_is j_is going going_back h (h.own.sending.bytes (more h.out.granted same some)) in
          absurd (both_ways _ (subst (λ (b : Bool). data_stands c s m.end (if b then Some r else None) ≡ false) unsent off)
          (stands_so _ _ _ is.1.closed (le-leb _ _ is.0) (le-leb _ _ fits)))
        where
          more : {x y : ℕ} (z : ℕ) → x ≡ y → 1 ≤ x → 1 ≤ z + y
          more z same some = omega (arith, same, some)

          stands_so : (a b d : Bool) → a ≡ false → b ≡ true → d ≡ true → (not a && (b && d)) ≡ true
          stands_so a b d x y z = rw (x, y, z) refl

      pub has_emitted_all : data_stands c s m.end (first_unsent m.end) ≡ false → (h.waiting ≡ 0) × HasEmitted k begun h.out.known h.out
      has_emitted_all off =
          let r = h.own.subflow.records in
          data_is r.rest h.waiting r.waits refl r.fits
          (subst (λ (o : Option Record). data_stands c s m.end o ≡ false)
          (ap (λ (rs : List Record). find is_unsent rs) r.all ∙ first_waits r.sent r.rest r.gone) off)
