-- What a link does commutes with showing what is carried as something else.
use Rattle.std.proofs.Common.{◌≡◌, ◌∙◌, refl, ap, ℕ, Bool, true, false, cond, List, [], ◌∷◌, map}
use Rattle.sides.specs.declared.side.Side.{Side}
use Rattle.sides.specs.declared.side.Side.TheVariants.{A, B}
use Rattle.link_model.specs.declared.flight.Flight.{Flight}
use Rattle.link_model.specs.State.{LinkState}
use Rattle.link_model.specs.Steps.{comes_before, with_flight, with_flights, changed, after_send}
use Rattle.link_model.specs.Laws.{shown_flight, with_copies_shown}

module _ {C D : Type 0} (show : C → D) where
  with_shown : (f : Flight C) (flights : List (Flight C)) → map (shown_flight show) (with_flight f flights) ≡ with_flight (shown_flight show f) (map (shown_flight show) flights)
  with_shown f [] = refl
  with_shown f (g ∷ flights) = by (comes_before f g) (with_shown f flights)
    where
      by : (b : Bool) → map (shown_flight show) (with_flight f flights) ≡ with_flight (shown_flight show f) (map (shown_flight show) flights)
          → map (shown_flight show) (cond b (f ∷ g ∷ flights) (g ∷ with_flight f flights))
          ≡ cond b (shown_flight show f ∷ shown_flight show g ∷ map (shown_flight show) flights) (shown_flight show g ∷ with_flight (shown_flight show f) (map (shown_flight show) flights))
      by true more = refl
      by false more = ap (λ rest. shown_flight show g ∷ rest) more

  all_shown : (to : Side) (number : ℕ) (carried : C) (ticks : List ℕ) (flights : List (Flight C))
      → map (shown_flight show) (with_flights to number carried ticks flights) ≡ with_flights to number (show carried) ticks (map (shown_flight show) flights)
  all_shown to number carried [] flights = refl
  all_shown to number carried (tick ∷ ticks) flights =
      all_shown to number carried ticks _ ∙ ap (λ fs. with_flights to number (show carried) ticks fs) (with_shown _ flights)

  changed_shown : (strip alter : C → C) (strip' alter' : D → D) → ((c : C) → show (strip c) ≡ strip' (show c)) → ((c : C) → show (alter c) ≡ alter' (show c))
      → (stripped altered : Bool) (c : C) → show (changed strip alter stripped altered c) ≡ changed strip' alter' stripped altered (show c)
  changed_shown strip alter strip' alter' s a true true c = a (strip c) ∙ ap alter' (s c)
  changed_shown strip alter strip' alter' s a true false c = s c
  changed_shown strip alter strip' alter' s a false true c = a c
  changed_shown strip alter strip' alter' s a false false c = refl

  pub sent_shown : (strip alter : Side → C → C) (strip' alter' : Side → D → D)
      → ((side : Side) (c : C) → show (strip side c) ≡ strip' side (show c)) → ((side : Side) (c : C) → show (alter side c) ≡ alter' side (show c))
      → (from : Side) (carried : C) (length now : ℕ) (link : LinkState C)
      → with_copies_shown show (after_send strip alter from carried length now link) ≡ after_send strip' alter' from (show carried) length now (with_copies_shown show link)
  sent_shown strip alter strip' alter' s a A carried length now link = rw (all_shown, changed_shown (strip A) (alter A) (strip' A) (alter' A) (s A) (a A)) refl
  sent_shown strip alter strip' alter' s a B carried length now link = rw (all_shown, changed_shown (strip B) (alter B) (strip' B) (alter' B) (s B) (a B)) refl
