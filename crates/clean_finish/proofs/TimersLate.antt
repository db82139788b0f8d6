-- No timer runs out in the round: that of an end is the one of its lane, once it is settled.
use Rattle.clean_finish.proofs.Words.{◌≡◌, refl, subst, ap, ◌∙◌, ℕ, ◌≤◌, Bool, false, ◌||◌, inl, inr, Option, None, [], ◌∷◌, arith, Some, IfSome, Side, Duty}
use Rattle.clean_finish.proofs.Words.{StepDuty, Profile, Setting, Lane, all_left, Going, Reason, seen_timer, Keys, IsSetting, Facing, Half, IsSettledSoon}
use Rattle.clean_finish.proofs.Dropping.{differ}
use Rattle.clean_finish.proofs.Quiet.{now_out}

late_by : (R : Type 0) (t until : ℕ) (timer seen : Option ℕ) (news : Bool) → news ≡ false → seen ≡ seen_timer news timer
    → IfSome seen (λ x. R × (t ≤ x)) → until ≤ t → IfSome timer (λ x. until ≤ x)
late_by R t until timer seen news quiet is late low =
    by timer (subst (λ (o : Option ℕ). IfSome o (λ x. R × (t ≤ x))) (is ∙ ap (λ (b : Bool). seen_timer b timer) quiet) late)
  where
    up : {x y z : ℕ} → x ≤ y → y ≤ z → x ≤ z
    up a b = omega (arith, a, b)

    by : (o : Option ℕ) → IfSome o (λ x. R × (t ≤ x)) → IfSome o (λ x. until ≤ x)
    by None far = tt
    by (Some x) far = up low far.1

module _ {s : Side} {keys : Keys} {k j : Setting} {c : Profile} {begun begun_back : Lane} {m n : Half} {clock until : ℕ} (ticks t u : ℕ)
    (k_is : IsSetting c ticks k) (j_is : IsSetting c ticks j)
    (going : Going k begun t all_left begun) (going_back : Going j begun_back u all_left begun_back)
    (h : Facing s keys k j c begun begun_back m n clock until ((Duty.Step StepDuty.Events) ∷ Duty.End ∷ []))
  where
    now : Going k begun t h.stage h.out
    now = now_out ticks t u k_is j_is going going_back h

    settled : IsSettledSoon s ((Duty.Step StepDuty.Events) ∷ Duty.End ∷ []) m.end → (m.end.tcp.timing.news || m.end.sending.news) ≡ false
    settled (inl is) = is
    settled (inr (inl same)) = absurd (differ refl same)
    settled (inr (inr (inl same))) = absurd (differ refl same)
    settled (inr (inr (inr never))) = absurd never

    pub timer_late : IfSome m.end.tcp.timing.timer (λ x. until ≤ x)
    timer_late = late_by (Reason k h.out) t until m.end.tcp.timing.timer h.out.timer (m.end.tcp.timing.news || m.end.sending.news)
        (settled h.settles) h.own.timer now.timer.late (subst (λ (x : ℕ). x ≤ t) h.now.1 now.round.timers)
