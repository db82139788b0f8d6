-- What a path keeps: no reply moves the end of its round or changes its profile or its number. A round's beginning moves the end by
-- 100 ticks.
use Rattle.world_laws.proofs.Words.{◌≡◌, refl, ◌∙◌, ap, true, false, if◌then◌else◌, Side, start_of_turn, Duty, AskDuty, Reply, tail_of, is_nil, Codec, stands}
use Rattle.world_laws.proofs.Words.{PathState, with_agenda, path_of, settled, takes, begins_turn, Writes, OnlyAt, PathView, writes, side_of}
use Rattle.world_laws.proofs.Writes.Paths.{writes_no_more, passes_no_more}
use Rattle.world_laws.proofs.Writes.Steps.{Lasts, takes_lasts, begins_lasts}

module _ {C : Type 0} where
  -- the round ends at the same tick, and profile and number are the same
  abbrev pub Keeps : PathState C → PathState C → Type 0
  Keeps p q = (q.until ≡ p.until) × (q.profile ≡ p.profile) × (path_of q ≡ path_of p)

  -- no duty may write them
  kept_by : (s : Side) (w : Writes) (p q : PathState C) → OnlyAt s w p q → Keeps p q
  kept_by s w p q x =
      (ap (λ (v : PathView C). v.until) x.same, ap (λ (v : PathView C). v.profile) x.same, ap (λ (v : PathView C). v.number) x.same)

  keeps_lasts : Lasts (λ (p q : PathState C). Keeps p q)
  keeps_lasts = record {
    agenda = λ ds p. (refl, refl, refl);
    chains = λ p q r x y. (y.0 ∙ x.0, y.1 ∙ x.1, y.2 ∙ x.2);
    passes = λ d p. kept_by (side_of d) (writes d) p _ (passes_no_more d p);
  }

  -- what a reply makes of a path keeps it
  pub takes_keeps : (k : Codec C) (r : Reply) (p : PathState C) → Keeps p (takes k r p)
  takes_keeps k r p = takes_lasts (λ p q. Keeps p q) keeps_lasts k r p (λ d. kept_by (side_of d) (writes d) p _ (writes_no_more k d r p))

  pub first_keeps : (p : PathState C) → Keeps p (begins_turn p)
  first_keeps p = begins_lasts (λ p q. Keeps p q) keeps_lasts p

  -- something is to be done when a round begins
  pub first_stands : (p : PathState C) → is_nil (begins_turn p).agenda ≡ false
  first_stands p = elim (stands (Duty.Ask AskDuty.JoinAgain) q) as (λ b. is_nil (if b then with_agenda start_of_turn q else settled (tail_of start_of_turn) q).agenda ≡ false)
      [ true ↦ refl | false ↦ refl ]
    where
      q : PathState C
      q = with_agenda start_of_turn p
