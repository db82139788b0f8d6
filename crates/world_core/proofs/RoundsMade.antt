-- Turns and rounds, one after the other.
--
-- Loops whose promise is an existential (turns, rounds, a run) have the invariant by continuation: what the rest comes
-- to, the whole does, `(v : _) → TurnTo now v → TurnTo start v`. Each goal is then one lemma (`proofs/RoundsMade`).
--
-- A turn's loop ends by the stamp, `2 ^ 62 - stamp`: a step tells that the actor's stamp rose and is below 2^62.
use Rattle.std.proofs.Common.{◌≡◌, refl, sym, ◌∙◌, ap, subst, ℕ, suc, true, false, [], ◌∷◌}
use Rattle.path_core.specs.Codec.{Codec}
use Rattle.world_laws.specs.Serial.{TurnTo, AreTurns, after_turns}
use Rattle.world_laws.specs.Worlds.{WorldState, is_going, world_step, end_round}
use Rattle.world_core.specs.Rounds.{TurnsFrom, TurnsTo, RoundTo}

module _ {C : Type 0} (k : Codec C) where
  -- ---- a turn

  -- a step more in front
  pub turn_more : (actor : ℕ) (w v : WorldState C) → is_going actor w ≡ true → TurnTo k actor (world_step k actor w) v → TurnTo k actor w v
  turn_more actor w v going h = (suc h.0, (going, h.1), h.2)

  pub turn_over : (actor : ℕ) (w : WorldState C) → is_going actor w ≡ false → TurnTo k actor w w
  turn_over actor w over = (0, over, refl)

  -- ---- the turns of a round

  pub turns_more : (more left actor next : ℕ) (w v x : WorldState C) → more ≡ suc left → next ≡ suc actor → TurnTo k actor w v → TurnsFrom k left next v x
      → TurnsFrom k more actor w x
  turns_more more left actor next w v x e f t h =
      subst (λ m. TurnsFrom k m actor w x) (sym e) (by (subst (λ n. TurnsFrom k left n v x) f h))
    where
      by : TurnsFrom k left (suc actor) v x → TurnsFrom k (suc left) actor w x
      by h = (
        t.0 ∷ h.0,
        (t.1, subst (λ z. AreTurns k left (suc actor) h.0 z) t.2 h.1),
        h.2 ∙ ap (after_turns k (suc actor) h.0) t.2,
      )

  pub turns_over : (more actor : ℕ) (w : WorldState C) → more ≡ 0 → TurnsFrom k more actor w w
  turns_over more actor w none = ([], subst (λ m. AreTurns k m actor [] w) (sym none) refl, refl)

  pub turns_round : (w v : WorldState C) → TurnsTo k w v → RoundTo k w (end_round v)
  turns_round w v h = (h.0, h.1, ap end_round h.2)
