-- What holds between a path and what each of its duties makes of it holds between the path and what its steps make of it. And what a
-- part is that no duty of a step may write.
use Rattle.world_laws.proofs.Words.{◌≡◌, ap, Bool, true, false, List, [], ◌∷◌, same_Some, Side, A, B, start_of_turn, Duty, Reply, Codec, stands, passed}
use Rattle.world_laws.proofs.Words.{answered, PathEnd, PathState, with_agenda, settled, answers, takes, begins_turn, Only, Writes, OnlyAt, PathView, hide}
use Rattle.world_laws.proofs.Words.{if_so}

-- a part that may not be written is the same
pub unwritten : {X : Type 0} (b : Bool) (x y : X) → b ≡ false → hide b y ≡ hide b x → y ≡ x
unwritten false x y is same = same_Some y x same
unwritten true x y is same = cc

module _ {C : Type 0} where
  -- what holds between ends of which no part changes but these holds at both ends
  pub both_ends : (R : PathEnd → PathEnd → Type 0) (s : Side) (w : Writes) (p q : PathState C)
      → ((e f : PathEnd) → Only w.own e f → R e f) → ((e f : PathEnd) → Only w.other e f → R e f) → OnlyAt s w p q → R p.a q.a × R p.b q.b
  both_ends R A w p q own other x =
      (own p.a q.a (record { same = ap (λ (v : PathView C). v.own) x.same }), other p.b q.b (record { same = ap (λ (v : PathView C). v.other) x.same }))
  both_ends R B w p q own other x =
      (other p.a q.a (record { same = ap (λ (v : PathView C). v.other) x.same }), own p.b q.b (record { same = ap (λ (v : PathView C). v.own) x.same }))

  -- a relation holds whatever is to be done, of one step after the other, and of each duty that is passed
  pub record Lasts (R : PathState C → PathState C → Type 0) : Type 0 where
    pub agenda : (ds : List Duty) (p : PathState C) → R p (with_agenda ds p)
    pub chains : (p q r : PathState C) → R p q → R q r → R p r
    pub passes : (d : Duty) (p : PathState C) → R p (passed d p)

  -- then it holds of all that is passed
  pub settled_lasts : (R : PathState C → PathState C → Type 0) → Lasts R → (ds : List Duty) (p : PathState C) → R p (settled ds p)
  settled_lasts R lasts [] p = lasts.agenda [] p
  settled_lasts R lasts (d ∷ ds) p =
      if_so (R p) (stands d p) (with_agenda (d ∷ ds) p) (settled ds (passed d p)) (lasts.agenda (d ∷ ds) p)
      (lasts.chains p (passed d p) (settled ds (passed d p)) (lasts.passes d p) (settled_lasts R lasts ds (passed d p)))

  answers_lasts : (R : PathState C → PathState C → Type 0) → Lasts R → (k : Codec C) (r : Reply) (p : PathState C)
      → ((d : Duty) → R p (answered k d r p)) → (ds : List Duty) → R p (answers k ds r p)
  answers_lasts R lasts k r p each [] = lasts.agenda p.agenda p
  answers_lasts R lasts k r p each (d ∷ ds) = each d

  -- of a reply, where it holds of each duty that is answered
  pub takes_lasts : (R : PathState C → PathState C → Type 0) → Lasts R → (k : Codec C) (r : Reply) (p : PathState C)
      → ((d : Duty) → R p (answered k d r p)) → R p (takes k r p)
  takes_lasts R lasts k r p each =
      let q : PathState C = answers k p.agenda r p in
      lasts.chains p q (takes k r p) (answers_lasts R lasts k r p each p.agenda) (settled_lasts R lasts q.agenda q)

  -- and of the beginning of a turn
  pub begins_lasts : (R : PathState C → PathState C → Type 0) → Lasts R → (p : PathState C) → R p (begins_turn p)
  begins_lasts R lasts p =
      let q : PathState C = with_agenda start_of_turn p in
      lasts.chains p q (begins_turn p) (lasts.agenda start_of_turn p) (settled_lasts R lasts start_of_turn q)
