-- A segment that the link takes is harmed, or a copy of it comes soon.
use Rattle.std.proofs.Common.{◌≡◌, refl, sym, ap, ◌∙◌, ◌⊎◌, inl, inr, suc, ◌+◌, ◌==◌, nat_lt, nat_le, Bool, true, false, true≢false, not, ◌&&◌, ◌||◌, List, [], ◌∷◌}
use Rattle.std.specs.List.{list_any}
use Rattle.std.proofs.lemmas.Bool.{eqb-true, leb-true, lt-ltb}
use Rattle.sides.specs.declared.side.Side.{Side}
use Rattle.sides.specs.Side.{peer}
use Rattle.link_script.specs.Places.{same_side}
use Rattle.link_model.specs.declared.flight.Flight.{Flight}
use Rattle.link_model.specs.Steps.{segments_sent}
use Rattle.stream_lanes.specs.Words.{Has}
use Rattle.path_core.specs.State.{PathState}
use Rattle.world_laws.proofs.Worlds.Finding.{one_side}
use Rattle.whole_paths.specs.Finish.{is_harmed}
use Rattle.whole_paths.specs.Unharmed.{ComesUnharmed, IsHarmedOrComes}

both : (a b : Bool) → (a && b) ≡ true → (a ≡ true) × (b ≡ true)
both true true is = (refl, refl)
both true false is = absurd (true≢false (sym is))
both false b is = absurd (true≢false (sym is))

one_of : {X : Type 0} (test : X → Bool) (xs : List X) → list_any test xs ≡ true → Has (λ x. test x ≡ true) xs
one_of test [] is = absurd (true≢false (sym is))
one_of {X} test (x ∷ xs) is = by (λ some. one_of test xs some) (test x) refl
  where
    by : (list_any test xs ≡ true → Has (λ x. test x ≡ true) xs) → (b : Bool) → test x ≡ b → Has (λ x. test x ≡ true) (x ∷ xs)
    by more true here = record { at = 0; item = x; there = refl; holds = here }
    by more false none = let rest = more (sym (ap (λ b. b || list_any test xs) none) ∙ is) in record { at = suc rest.at; item = rest.item; there = rest.there; holds = rest.holds }

module _ {C : Type 0} (s : Side) (p q : PathState C) where
  abbrev IsSoon : Flight C → Bool
  IsSoon f = same_side f.to (peer s) && (f.number == segments_sent s q.link && nat_le f.tick (p.clock + 400))

  comes : Has (λ f. IsSoon f ≡ true) q.link.under_way → Has (ComesUnharmed s p q) q.link.under_way
  comes h =
      let f : Flight C = h.item in
      let first = both (same_side f.to (peer s)) (f.number == segments_sent s q.link && nat_le f.tick (p.clock + 400)) h.holds in
      let second = both (f.number == segments_sent s q.link) (nat_le f.tick (p.clock + 400)) first.1 in
      record {
        at = h.at;
        item = f;
        there = h.there;
        holds = record { to = one_side f.to (peer s) first.0; number = eqb-true f.number (segments_sent s q.link) second.0; soon = leb-true f.tick (p.clock + 400) second.1 };
      }

  pub is_harmed_or_comes : IsHarmedOrComes s p q
  is_harmed_or_comes sent = by (list_any IsSoon q.link.under_way) refl
    where
      by : (b : Bool) → list_any IsSoon q.link.under_way ≡ b → (is_harmed s p q ≡ true) ⊎ Has (ComesUnharmed s p q) q.link.under_way
      by true some = inr (comes (one_of IsSoon q.link.under_way some))
      by false none = inl (ap (λ b. nat_lt (segments_sent s p.link) (segments_sent s q.link) && not b) none ∙ ap (λ b. b && true) (lt-ltb (segments_sent s p.link) (segments_sent s q.link) sent))
