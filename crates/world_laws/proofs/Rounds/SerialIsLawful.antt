-- Serial turns are lawful: each step is one of an actor whose turn hasn't ended, and each round ends where all turns did.
--
-- Turns by numbers of steps: `IsTurn`, `AreTurns`, `AreRounds` are recursions on numbers and lists of numbers, and the
-- list of turns is spelled from them (`Serial`); that there is one at most is 30 lines.
use Rattle.world_laws.proofs.Words.{◌≡◌, refl, sym, ◌∙◌, ap, subst, ℕ, zero, suc, ◌+◌, ◌≤◌, ◌&&◌, not, inl, inr, ◌⊎◌, Bool, true, false, Option, Some, None}
use Rattle.world_laws.proofs.Words.{List, [], ◌∷◌, length, arith, ◌<◌, cases_eq, true≢false, cases_lt, length-set, slice_get_past, slice_get, Ask, Codec}
use Rattle.world_laws.proofs.Words.{set_other, ActorCrew, member_asks, is_over, WorldState, Turn, crew_after, asked, stepped, world_step, all_over, end_round}
use Rattle.world_laws.proofs.Words.{AreLawful, is_going, outcome_of, OneOf, steps_and, round_and, spelled, IsTurn, AreTurns, after_turns, after_round}
use Rattle.world_laws.proofs.Words.{AreRounds}
use Rattle.world_laws.specs.Serial.{goes_on, after_steps}
use Rattle.world_laws.specs.Worlds.{goes}

module _ {C : Type 0} where
  -- ---- a step leaves the other actors as they are

  pub other_stays : (k : Codec C) (actor i : ℕ) (w : WorldState C) → (i ≡ actor → ⊥) → slice_get (world_step k actor w).crew i ≡ slice_get w.crew i
  other_stays k actor i w apart = elim (slice_get w.crew actor) as (λ o. slice_get (stepped k actor o w).crew i ≡ slice_get w.crew i)
      [ None ↦ refl | Some c ↦ asks c (member_asks k c.member) ]
    where
      asks : (c : ActorCrew C) (o : Option Ask) → slice_get (asked k actor o c w).crew i ≡ slice_get w.crew i
      asks c None = refl
      asks c (Some x) = set_other w.crew actor (crew_after k x w.books c) i apart

  pub as_many : (k : Codec C) (actor : ℕ) (w : WorldState C) → length (world_step k actor w).crew ≡ length w.crew
  as_many k actor w = elim (slice_get w.crew actor) as (λ o. length (stepped k actor o w).crew ≡ length w.crew) [ None ↦ refl | Some c ↦ asks c (member_asks k c.member) ]
    where
      asks : (c : ActorCrew C) (o : Option Ask) → length (asked k actor o c w).crew ≡ length w.crew
      asks c None = refl
      asks c (Some x) = length-set w.crew actor (crew_after k x w.books c)

  others_stay : (k : Codec C) (actor n i : ℕ) (w : WorldState C) → (i ≡ actor → ⊥) → slice_get (after_steps k actor n w).crew i ≡ slice_get w.crew i
  others_stay k actor zero i w apart = refl
  others_stay k actor (suc n) i w apart = others_stay k actor n i (world_step k actor w) apart ∙ other_stays k actor i w apart

  as_many_after : (k : Codec C) (actor n : ℕ) (w : WorldState C) → length (after_steps k actor n w).crew ≡ length w.crew
  as_many_after k actor zero w = refl
  as_many_after k actor (suc n) w = as_many_after k actor n (world_step k actor w) ∙ as_many k actor w

  turn_over : (k : Codec C) (actor n : ℕ) (w : WorldState C) → IsTurn k actor n w → is_going actor (after_steps k actor n w) ≡ false
  turn_over k actor zero w h = h
  turn_over k actor (suc n) w h = turn_over k actor n (world_step k actor w) h.1

  -- ---- all turns of a round ended

  all_over_from : (crew : List (ActorCrew C)) → ((i : ℕ) → goes (slice_get crew i) ≡ false) → all_over crew ≡ true
  all_over_from [] over = refl
  all_over_from (c ∷ crew) over = (elim (is_over c.member) as (λ b. not b ≡ false → all_over crew ≡ true → (b && all_over crew) ≡ true)
      [ true ↦ λ first rest. rest | false ↦ λ first rest. absurd (true≢false first) ]) (over 0) (all_over_from crew (λ i. over (suc i)))

  -- with one actor more
  over_with : (k : Codec C) (actor n : ℕ) (w : WorldState C) → IsTurn k actor n w → ((i : ℕ) → i < actor → is_going i w ≡ false) → (j : ℕ) → j < suc actor
      → (j ≡ actor) ⊎ (j ≡ actor → ⊥) → is_going j (after_steps k actor n w) ≡ false
  over_with k actor n w h over j less (inl same) = ap (λ m. is_going m (after_steps k actor n w)) same ∙ turn_over k actor n w h
  over_with k actor n w h over j less (inr apart) = ap goes (others_stay k actor n j w apart) ∙ over j (omega (arith, less, apart))

  over_below : (k : Codec C) (more actor : ℕ) (counts : List ℕ) (w : WorldState C) → AreTurns k more actor counts w
      → ((i : ℕ) → i < actor → is_going i w ≡ false) → (i : ℕ) → i < actor + more → is_going i (after_turns k actor counts w) ≡ false
  over_below k zero actor [] w h over i below = over i (omega (arith, below))
  over_below k zero actor (n ∷ counts) w h over i below = cc
  over_below k (suc more) actor [] w h over i below = absurd h
  over_below k (suc more) actor (n ∷ counts) w h over i below =
      over_below k more (suc actor) counts (after_steps k actor n w) h.1 (λ j less. over_with k actor n w h.0 over j less (cases_eq j actor)) i (omega (arith, below))

  as_many_turns : (k : Codec C) (actor : ℕ) (counts : List ℕ) (w : WorldState C) → length (after_turns k actor counts w).crew ≡ length w.crew
  as_many_turns k actor [] w = refl
  as_many_turns k actor (n ∷ counts) w = as_many_turns k (suc actor) counts (after_steps k actor n w) ∙ as_many_after k actor n w

  pub all_turns_over : (k : Codec C) (counts : List ℕ) (w : WorldState C) → AreTurns k (length w.crew) 0 counts w → all_over (after_turns k 0 counts w).crew ≡ true
  all_turns_over k counts w h = all_over_from (after_turns k 0 counts w).crew at
    where
      by : (i : ℕ) → (i < length w.crew) ⊎ (length w.crew ≤ i) → is_going i (after_turns k 0 counts w) ≡ false
      by i (inl below) = over_below k (length w.crew) 0 counts w h (λ j none. absurd (omega (arith, none))) i (omega (arith, below))
      by i (inr past) = ap goes (slice_get_past (after_turns k 0 counts w).crew i (omega (arith, past, as_many_turns k 0 counts w)))

      at : (i : ℕ) → is_going i (after_turns k 0 counts w) ≡ false
      at i = by i (cases_lt i (length w.crew))

  -- ---- lawful turns

  steps_lawful : (k : Codec C) (actor n : ℕ) (rest : List Turn) (w : WorldState C) → IsTurn k actor n w → AreLawful k rest (after_steps k actor n w)
      → AreLawful k (steps_and actor n rest) w
  steps_lawful k actor zero rest w h lawful = lawful
  steps_lawful k actor (suc n) rest w h lawful = (h.0, steps_lawful k actor n rest (world_step k actor w) h.1 lawful)

  turns_lawful : (k : Codec C) (more actor : ℕ) (counts : List ℕ) (rest : List Turn) (w : WorldState C) → AreTurns k more actor counts w
      → all_over (after_turns k actor counts w).crew ≡ true → AreLawful k rest (end_round (after_turns k actor counts w)) → AreLawful k (round_and actor counts rest) w
  turns_lawful k zero actor [] rest w h over lawful = (over, lawful)
  turns_lawful k zero actor (n ∷ counts) rest w h over lawful = cc
  turns_lawful k (suc more) actor [] rest w h over lawful = absurd h
  turns_lawful k (suc more) actor (n ∷ counts) rest w h over lawful =
      steps_lawful k actor n (round_and (suc actor) counts rest) w h.0 (turns_lawful k more (suc actor) counts rest (after_steps k actor n w) h.1 over lawful)

  pub rounds_lawful : (k : Codec C) (most : ℕ) (rounds : List (List ℕ)) (w : WorldState C) → AreRounds k most rounds w → AreLawful k (spelled rounds) w
  rounds_lawful k zero [] w h = tt
  rounds_lawful k zero (counts ∷ rounds) w h = cc
  rounds_lawful k (suc most) [] w h = absurd h
  rounds_lawful k (suc most) (counts ∷ rounds) w h =
      turns_lawful k (length w.crew) 0 counts (spelled rounds) w h.0 (all_turns_over k counts w h.0)
      (by (goes_on (outcome_of (after_round k counts w).crew)) (rounds_lawful k most rounds (after_round k counts w)) h.1)
    where
      by : (b : Bool) → (AreRounds k most rounds (after_round k counts w) → AreLawful k (spelled rounds) (after_round k counts w))
          → OneOf b (AreRounds k most rounds (after_round k counts w)) (rounds ≡ []) → AreLawful k (spelled rounds) (after_round k counts w)
      by true more rest = more rest
      by false more none = subst (λ rs. AreLawful k (spelled rs) (after_round k counts w)) (sym none) tt
