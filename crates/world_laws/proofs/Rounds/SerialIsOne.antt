-- The serial turns of a world are the only ones.
use Rattle.world_laws.proofs.Words.{◌≡◌, refl, sym, ◌∙◌, ap, subst, ℕ, zero, suc, Bool, true, false, List, [], ◌∷◌, length, both_ways, Codec, WorldState, Turn}
use Rattle.world_laws.proofs.Words.{world_step, outcome_of, OneOf, spelled, IsTurn, AreTurns, after_round, AreRounds, IsSerial}
use Rattle.world_laws.specs.Serial.{goes_on, after_steps}

module _ {C : Type 0} (k : Codec C) where
  pub one_turn : (actor n m : ℕ) (w : WorldState C) → IsTurn k actor n w → IsTurn k actor m w → n ≡ m
  one_turn actor zero zero w x y = refl
  one_turn actor zero (suc m) w x y = absurd (both_ways _ x y.0)
  one_turn actor (suc n) zero w x y = absurd (both_ways _ y x.0)
  one_turn actor (suc n) (suc m) w x y = ap suc (one_turn actor n m (world_step k actor w) x.1 y.1)

  pub one_list_of_turns : (more actor : ℕ) (ns ms : List ℕ) (w : WorldState C) → AreTurns k more actor ns w → AreTurns k more actor ms w → ns ≡ ms
  one_list_of_turns zero actor ns ms w x y = x ∙ sym y
  one_list_of_turns (suc more) actor [] ms w x y = absurd x
  one_list_of_turns (suc more) actor (n ∷ ns) [] w x y = absurd y
  one_list_of_turns (suc more) actor (n ∷ ns) (m ∷ ms) w x y =
      let same = one_turn actor n m w x.0 y.0 in
      ap (λ c. c ∷ ns) same ∙ ap (λ cs. m ∷ cs)
      (one_list_of_turns more (suc actor) ns ms (after_steps k actor n w) x.1 (subst (λ c. AreTurns k more (suc actor) ms (after_steps k actor c w)) (sym same) y.1))

  one_rest : (most : ℕ) (rs us : List (List ℕ)) (w : WorldState C) (b : Bool)
      → (AreRounds k most rs w → AreRounds k most us w → rs ≡ us)
      → OneOf b (AreRounds k most rs w) (rs ≡ []) → OneOf b (AreRounds k most us w) (us ≡ []) → rs ≡ us
  one_rest most rs us w true rest x y = rest x y
  one_rest most rs us w false rest x y = x ∙ sym y

  pub one_list_of_rounds : (most : ℕ) (rs us : List (List ℕ)) (w : WorldState C) → AreRounds k most rs w → AreRounds k most us w → rs ≡ us
  one_list_of_rounds zero rs us w x y = x ∙ sym y
  one_list_of_rounds (suc most) [] us w x y = absurd x
  one_list_of_rounds (suc most) (ns ∷ rs) [] w x y = absurd y
  one_list_of_rounds (suc most) (ns ∷ rs) (ms ∷ us) w x y =
      let same = one_list_of_turns (length w.crew) 0 ns ms w x.0 y.0 in
      let other = subst (λ cs. OneOf (goes_on (outcome_of (after_round k cs w).crew)) (AreRounds k most us (after_round k cs w)) (us ≡ [])) (sym same) y.1 in
      ap (λ c. c ∷ rs) same ∙ ap (λ cs. ms ∷ cs)
      (one_rest most rs us (after_round k ns w) (goes_on (outcome_of (after_round k ns w).crew)) (one_list_of_rounds most rs us (after_round k ns w)) x.1 other)

  pub serial_is_one : (most : ℕ) (ts us : List Turn) (w : WorldState C) → IsSerial k most ts w → IsSerial k most us w → ts ≡ us
  serial_is_one most ts us w x y = x.2 ∙ ap spelled (one_list_of_rounds most x.0 y.0 w x.1 y.1) ∙ sym y.2
