-- Why a duty comes to nothing: what the lane has to know of it.
use Rattle.clean_finish.proofs.Words.{◌≡◌, refl, sym, ap, ◌∙◌, ℕ, ◌+◌, ◌-◌, ◌<◌, ◌≤◌, min, Bool, true, false, not, ◌&&◌, ◌||◌, ◌⊎◌, inl, inr, ⊎_elim, List, []}
use Rattle.clean_finish.proofs.Words.{◌∷◌, arith, suc, zero, is_some, ◌*◌, both_ways, cases_lt, ltb-true, leb-false, Side, A, B, same_side, State, may_finish}
use Rattle.clean_finish.proofs.Words.{one_if, window_told, Duty, AskDuty, Profile, is_data_fin_due, is_connected, is_update_due, has_grown, sends_plainly}
use Rattle.clean_finish.proofs.Words.{Setting, Lane, all_left, Going, IsPhase, IsOpen, IsToldEdge, Keys, Same, Before, IsSetting, Facing, Half, Has, any_duty}
use Rattle.clean_finish.proofs.Words.{is_window, end_known, Opening, Listening, HalfOpen, Open}
use Rattle.clean_finish.proofs.Mapped.{sends_mappings}
use Rattle.clean_finish.proofs.Passing.{still_going}

-- ---- words

same_self : (s : Side) → same_side s s ≡ true
same_self A = refl
same_self B = refl

or_true : (b : Bool) → b || true ≡ true
or_true true = refl
or_true false = refl

-- a duty of this kind is among them
pub finds : (is : Duty → Bool) (d : Duty) → is d ≡ true → (ds : List Duty) → Has d ds → any_duty is ds ≡ true
finds is d has [] never = absurd never
finds is d has (x ∷ ds) there = ⊎_elim
    (λ here. ap (λ (b : Bool). b || any_duty is ds) (sym (ap is here) ∙ has))
    (λ later. ap (λ (b : Bool). is x || b) (finds is d has ds later) ∙ or_true (is x))
    there

pub none_found : (is : Duty → Bool) (d : Duty) → is d ≡ true → (ds : List Duty) → any_duty is ds ≡ false → Has d ds → ⊥
none_found is d has ds none there = both_ways _ none (finds is d has ds there)

pub no_window : (s : Side) (ds : List Duty) → any_duty (is_window s) ds ≡ false → Has (Duty.Ask (AskDuty.Window s)) ds → ⊥
no_window s ds none there = none_found (is_window s) (Duty.Ask (AskDuty.Window s)) (same_self s) ds none there

pub phase_is : (s : Side) (came una : ℕ) (finished : Bool) (state : State) → IsPhase s came una finished state
    → (is_connected state ≡ false) ⊎ ((1 ≤ una) × IsOpen finished state)
phase_is s came una finished state (Opening side none low is) = inl (ap is_connected is)
phase_is s came una finished state (Listening side none low is) = inl (ap is_connected is)
phase_is s came una finished state (HalfOpen side one low is) = inl (ap is_connected is)
phase_is s came una finished state (Open some high is) = inr (high, is)

end_not_due : (f i c k s a : Bool) → i ≡ false → (f && (not i && (c && (k && (not s && not a))))) ≡ false
    → (f ≡ false) ⊎ ((c ≡ false) ⊎ ((k ≡ false) ⊎ ((s ≡ true) ⊎ (a ≡ true))))
end_not_due false i c k s a none e = inl refl
end_not_due true true c k s a none e = absurd (both_ways _ none refl)
end_not_due true false false k s a none e = inr (inl refl)
end_not_due true false true false s a none e = inr (inr (inl refl))
end_not_due true false true true true a none e = inr (inr (inr (inl refl)))
end_not_due true false true true false true none e = inr (inr (inr (inr refl)))
end_not_due true false true true false false none e = absurd (both_ways _ e refl)

pub not_false : (b : Bool) → not b ≡ false → b ≡ true
not_false true e = refl
not_false false e = absurd (both_ways _ e refl)

unknown : (n total : ℕ) → is_some (end_known n total) ≡ false → n ≡ 0
unknown zero total e = refl
unknown (suc n) total e = absurd (both_ways _ e refl)

module _ {s : Side} {keys : Keys} {k j : Setting} {c : Profile} {begun begun_back : Lane} {m n : Half} {clock until : ℕ} (ticks t u : ℕ)
    (k_is : IsSetting c ticks k) (j_is : IsSetting c ticks j)
    (going : Going k begun t all_left begun) (going_back : Going j begun_back u all_left begun_back)
  where
    module _ {ds : List Duty} (h : Facing s keys k j c begun begun_back m n clock until ds) where
      pub now_out : Going k begun t h.stage h.out
      now_out = still_going k begun t h.stage h.out going h.going

      pub now_back : Going j begun_back u h.stage_back h.back
      now_back = still_going j begun_back u h.stage_back h.back going_back h.going_back

      -- where bytes may be sent both SYNs are acknowledged
      pub open_when_ready : 1 ≤ h.out.ready → (1 ≤ m.end.tcp.send.una) × IsOpen m.end.tcp.send.finished m.end.tcp.state
      open_when_ready ready = ⊎_elim
          (λ quiet. let none = (h.own.subflow.quiet quiet).1 in absurd (omega (arith, none, ready)))
          (λ is. is)
          (phase_is s h.back.control_came m.end.tcp.send.una m.end.tcp.send.finished m.end.tcp.state h.own.subflow.phase)

      -- ---- Update

      not_connected : is_connected m.end.tcp.state ≡ false → 1 ≤ h.back.ready
          → begun_back.read + j.least < h.back.told.edge + 31 + j.threshold
      not_connected quiet ready =
          let none = (h.own.subflow.quiet quiet).0 in
          ⊎_elim
          (λ sent. let least = h.own.receiving.least sent in
          omega (arith, none, least, now_back.since.read, now_back.numbers.read, j_is.some))
          (λ unsent. absurd (omega (arith, unsent, ready, h.other.modes.ready, now_out.numbers.control)))
          (cases_lt 0 h.out.control_sent)

      not_grown : has_grown c m.end ≡ false → h.stage_back.window ≡ false → h.owes ≡ false → 1 ≤ h.back.ready
          → begun_back.read + j.least < h.back.told.edge + 31 + j.threshold
      not_grown small asked paid ready =
          let low = leb-false _ _ small in
          let limit = now_back.asked.limit asked in
          by (h.own.receiving.told) low limit
        where
          by : IsToldEdge s j h.owes h.back.receiver m.end.receiving.told_edge
              → 2 * (m.end.receiving.next + window_told false m.end.receiving.window - m.end.receiving.told_edge) < min c.buffer (4 * c.mss)
              → begun_back.read + j.buffer ≤ h.back.limit + 31
              → begun_back.read + j.least < h.back.told.edge + 31 + j.threshold
          by (Same same) low limit =
              omega (arith, same, low, limit, h.own.receiving.limit, j_is.threshold, j_is.some, j_is.ranges.least)
          by (Before side none least full) low limit = ⊎_elim
              (λ fresh. omega (arith, fresh, least, now_back.since.read, now_back.numbers.read, j_is.some))
              (λ owed. absurd (both_ways _ paid owed))
              none

      pub is_quiet : is_update_due c m.end ≡ false → h.stage_back.window ≡ false → h.owes ≡ false → 1 ≤ h.back.ready
          → begun_back.read + j.least < h.back.told.edge + 31 + j.threshold
      is_quiet none asked paid = by (is_connected m.end.tcp.state) (has_grown c m.end) refl refl none
        where
          by : (connected grown : Bool) → is_connected m.end.tcp.state ≡ connected → has_grown c m.end ≡ grown
              → connected && grown ≡ false → 1 ≤ h.back.ready → begun_back.read + j.least < h.back.told.edge + 31 + j.threshold
          by false grown quiet is none = not_connected quiet
          by true true quiet is none = absurd (both_ways _ none refl)
          by true false quiet is none = not_grown is asked paid

      -- ---- DataFin

      pub is_finished : is_data_fin_due m.end ≡ false → 1 ≤ h.out.clear → h.out.known ≤ h.out.data_fin_sent
      is_finished none clear =
          by (end_not_due (may_finish m.end.tcp.state) (sends_plainly m.end.modes) m.end.modes.clear (is_some m.end.sending.known_end)
          m.end.sending.fin_sent m.end.sending.close.own_acked (sends_mappings m.end.modes h.own.modes.mapping) none)
        where
          told : k.total < h.out.acked → h.out.known ≤ h.out.data_fin_sent
          told more = let one = h.own.sending.acked_end more in omega (arith, one, now_out.numbers.known, now_out.numbers.closed)

          by : (may_finish m.end.tcp.state ≡ false) ⊎ ((m.end.modes.clear ≡ false) ⊎ ((is_some m.end.sending.known_end ≡ false)
              ⊎ ((m.end.sending.fin_sent ≡ true) ⊎ (m.end.sending.close.own_acked ≡ true)))) → h.out.known ≤ h.out.data_fin_sent
          by (inl over) =
              let is = (open_when_ready (omega (arith, clear, h.own.modes.cleared))).1 in
              let two = ltb-true 1 h.out.control_sent (sym h.own.subflow.records.finished ∙ not_false _ (sym is.finish ∙ over)) in
              told (h.own.sending.finish (omega (arith, two)))
          by (inr (inl unclear)) =
              let zero_is = h.own.modes.clear ∙ ap one_if unclear in absurd (omega (arith, clear, zero_is))
          by (inr (inr (inl none_known))) =
              let none = unknown h.out.known k.total (sym (ap is_some h.own.sending.known) ∙ none_known) in omega (arith, none)
          by (inr (inr (inr (inl sent)))) =
              let one = h.own.sending.data_fin ∙ ap one_if sent in omega (arith, one, now_out.numbers.known, now_out.numbers.closed)
          by (inr (inr (inr (inr acked)))) = told (ltb-true k.total h.out.acked (sym h.own.sending.acked ∙ acked))
