-- A turn ends: each reply lowers the numbers, and settling lowers them too.
use Rattle.path_core.proofs.Words.{◌≡◌, ◌⊎◌, inl, inr, refl, sym, ap, subst, ◌<◌, true, false, if◌then◌else◌, List, [], ◌∷◌, arith, start_of_turn, Duty}
use Rattle.path_core.proofs.Words.{AskDuty, StepDuty, SendDuty, SilentDuty, weights, Reply, Ending, Then, less-ends, then-ends, IsOfKind, PathState}
use Rattle.path_core.proofs.Words.{with_agenda, Codec, stands, ask_for, passed, answered, settled, settles_down, asks_first, answers, begins_turn, Ends}
use Rattle.path_core.proofs.Words.{TakesTime, FirstStands, IsSettled, ticks_left, due_by_now, bytes_left, sendings_left}
use Rattle.path_core.proofs.Lowering.{answered_lowers}
use Rattle.path_core.proofs.Passed.{settled_lower}
use Rattle.path_core.proofs.Ranking.{Calm, Rest, Lower, Lowers}

module _ {C : Type 0} where
  -- ---- every chain ends

  lower-ends : (p : PathState C) → Ending Lower p
  lower-ends =
      then-ends ticks_left _ (then-ends due_by_now _ (then-ends (λ p. weights p.agenda) _ (then-ends bytes_left _ (less-ends sendings_left))))

  -- ---- settling

  rest_below : (m q p : PathState C) → weights q.agenda < weights m.agenda → Rest m p → Rest q p
  rest_below m q p less (Then.Falls lower) = Then.Falls (omega (arith, less, lower))
  rest_below m q p less (Then.Stays most lower) = Then.Falls (omega (arith, less, most))

  lower_below : (m q p : PathState C) → Calm m q → weights q.agenda < weights m.agenda → Lower m p → Lower q p
  lower_below m q p calm less (Then.Falls lower) = Then.Falls (omega (arith, calm.ticks, lower))
  lower_below m q p calm less (Then.Stays most (Then.Falls lower)) = Then.Stays (omega (arith, calm.ticks, most)) (Then.Falls (omega (arith, calm.due, lower)))
  lower_below m q p calm less (Then.Stays most (Then.Stays many rest)) =
      Then.Stays (omega (arith, calm.ticks, most)) (Then.Stays (omega (arith, calm.due, many)) (rest_below m q p less rest))

  settles_lower : (m p : PathState C) → Lowers p m → Lowers p (settles_down m)
  settles_lower m p lowers = elim (settled_lower m.agenda m lowers.time)
      [ inl less ↦ record { lower = lower_below m (settled m.agenda m) p less.1 less.0 lowers.lower; time = less.1.time } | inr same ↦ subst (Lowers p) (sym same) lowers ]

  -- ---- what stands first comes to something

  -- the agenda is of no account
  same_stands : (d : Duty) (ds : List Duty) (p : PathState C) → stands d p ≡ true → stands d (with_agenda (d ∷ ds) p) ≡ true
  same_stands (Duty.Ask AskDuty.JoinAgain) ds p is = is
  same_stands (Duty.Step (StepDuty.Look s)) ds p is = is
  same_stands (Duty.Send (SendDuty.ResetNoted s)) ds p is = is
  same_stands (Duty.Silent (SilentDuty.Timer s)) ds p is = is
  same_stands _ ds p is = is

  settled_settled : (ds : List Duty) (p : PathState C) → IsSettled (settled ds p)
  settled_settled [] p = tt
  settled_settled (d ∷ ds) p = (elim (stands d p) as (λ b. stands d p ≡ b → IsSettled (settled ds (passed d p)) → IsSettled (if b then with_agenda (d ∷ ds) p else settled ds (passed d p)))
      [ true ↦ λ is rest. same_stands d ds p is | false ↦ λ is rest. rest ]) refl (settled_settled ds (passed d p))

  -- ---- the turn

  by_reply : (k : Codec C) (p : PathState C) → ((q : PathState C) → Lower q p → TakesTime q → IsSettled q → Ends k q) → TakesTime p → (d : Duty) (ds : List Duty)
      → p.agenda ≡ d ∷ ds → stands d p ≡ true → (r : Reply) → IsOfKind (ask_for k d p) r → Ends k (settles_down (answered k d r p))
  by_reply k p next t d ds is first r kind =
      let after = settles_lower (answered k d r p) p (answered_lowers k d ds r p t is first kind) in
      next (settles_down (answered k d r p)) after.lower after.time (settled_settled (answered k d r p).agenda (answered k d r p))

  by_agenda : (k : Codec C) (p : PathState C) → ((q : PathState C) → Lower q p → TakesTime q → IsSettled q → Ends k q) → TakesTime p → (ds : List Duty)
      → p.agenda ≡ ds → FirstStands ds p → Ends k p
  by_agenda k p next t [] is first = Ends.Over p is
  by_agenda k p next t (d ∷ ds) is first =
      Ends.Asks p (ask_for k d p) (ap (λ xs. asks_first k xs p) is)
      (λ r kind. subst (λ xs. Ends k (settles_down (answers k xs r p))) (sym is) (by_reply k p next t d ds is first r kind))

  ends_below : (k : Codec C) (p : PathState C) → Ending Lower p → TakesTime p → IsSettled p → Ends k p
  ends_below k p (Ending.intro _ rest) t first = by_agenda k p (λ q lower t first. ends_below k q (rest q lower) t first) t p.agenda refl first

  -- a turn ends, whatever replies of the asked kind come
  pub turn_ends : (k : Codec C) (p : PathState C) → TakesTime p → IsSettled p → Ends k p
  turn_ends k p t first = ends_below k p (lower-ends p) t first

  -- a turn that a round begins ends too
  pub begun_ends : (k : Codec C) (p : PathState C) → TakesTime p → Ends k (begins_turn p)
  begun_ends k p t =
      let begun : PathState C = with_agenda start_of_turn p in
      turn_ends k (begins_turn p) (settled_time start_of_turn begun (record { delay = t.delay; timer_a = t.timer_a; timer_b = t.timer_b })) (settled_settled start_of_turn begun)
    where
      settled_time : (ds : List Duty) (q : PathState C) → TakesTime q → TakesTime (settled ds q)
      settled_time ds q t = elim (settled_lower ds q t)
          [ inl less ↦ less.1.time | inr same ↦ subst TakesTime (sym same) (record { delay = t.delay; timer_a = t.timer_a; timer_b = t.timer_b }) ]
