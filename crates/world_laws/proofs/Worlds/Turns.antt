-- What holds after each ask of an actor, and as a round begins, holds after each turn, and after each run.
use Rattle.world_laws.proofs.Words.{◌≡◌, refl, ℕ, true, false, if◌then◌else◌, Option, Some, None, List, [], ◌∷◌, map, slice_get, Ask, Codec, ActorCrew}
use Rattle.world_laws.proofs.Words.{member_asks, WorldState, Turn, asked, stepped, all_over, greatest, begins, after_turn, world_run}

module _ {C : Type 0} (k : Codec C) (P : WorldState C → Type 0) where
  pub turn_so : (turn : Turn) (w : WorldState C) → P w
      → ((actor : ℕ) (c : ActorCrew C) (x : Ask) → slice_get w.crew actor ≡ Some c → member_asks k c.member ≡ Some x → P (asked k actor (Some x) c w))
      → (all_over w.crew ≡ true → P (record w { crew = map (begins (greatest 0 w.crew)) w.crew })) → P (after_turn k turn w)
  turn_so (Turn.Step actor) w same asks begin = (elim (slice_get w.crew actor) as (λ o. slice_get w.crew actor ≡ o → P (stepped k actor o w))
      [ None ↦ λ there. same | Some c ↦ λ there. asking c there (member_asks k c.member) refl ]) refl
    where
      asking : (c : ActorCrew C) → slice_get w.crew actor ≡ Some c → (o : Option Ask) → member_asks k c.member ≡ o → P (asked k actor o c w)
      asking c there None is = same
      asking c there (Some x) is = asks actor c x there is
  turn_so Turn.Round w same asks begin = (elim (all_over w.crew) as (λ b. all_over w.crew ≡ b → P (if b then record w { crew = map (begins (greatest 0 w.crew)) w.crew } else w))
      [ true ↦ λ over. begin over | false ↦ λ over. same ]) refl

  pub run_so : ((w : WorldState C) → P w → (actor : ℕ) (c : ActorCrew C) (x : Ask) → slice_get w.crew actor ≡ Some c → member_asks k c.member ≡ Some x → P (asked k actor (Some x) c w))
      → ((w : WorldState C) → P w → all_over w.crew ≡ true → P (record w { crew = map (begins (greatest 0 w.crew)) w.crew }))
      → (turns : List Turn) (w : WorldState C) → P w → P (world_run k turns w)
  run_so asks begin [] w h = h
  run_so asks begin (turn ∷ turns) w h = run_so asks begin turns (after_turn k turn w) (turn_so turn w h (asks w h) (begin w h))
