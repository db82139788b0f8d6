-- Copies arrive later than they are sent.
use Rattle.std.proofs.Common.{ℕ, ◌<◌, ◌≤◌, true, false, cond, List, [], ◌∷◌, arith}
use Rattle.std.specs.List.{AllByRecursion}
use Rattle.sides.specs.declared.side.Side.{Side}
use Rattle.sides.specs.declared.side.Side.TheVariants.{A, B}
use Rattle.link_model.specs.declared.fate.Fate.{Fate}
use Rattle.link_model.specs.declared.fate.Fate.TheVariants.{OnTime, Lost, Full, Late, Twice}
use Rattle.link_model.specs.declared.flight.Flight.{Flight}
use Rattle.link_model.specs.State.{LinkState}
use Rattle.link_model.specs.Steps.{comes_before, with_flight, with_flights, arrivals, next_number, first_arrival, after_send}

pub all_with : {C : Type 0} (P : Flight C → Type 0) (f : Flight C) (flights : List (Flight C)) → P f → AllByRecursion P flights → AllByRecursion P (with_flight f flights)
all_with P f [] here all = (here, tt)
all_with P f (g ∷ flights) here all = (elim (comes_before f g) as (λ b. AllByRecursion P (with_flight f flights) → AllByRecursion P (cond b (f ∷ g ∷ flights) (g ∷ with_flight f flights)))
    [ true ↦ λ rest. (here, all) | false ↦ λ rest. (all.0, rest) ]) (all_with P f flights here all.1)

all_launched : {C : Type 0} (P : Flight C → Type 0) (now : ℕ) (to : Side) (number : ℕ) (carried : C) (ticks : List ℕ) (flights : List (Flight C))
    → ((f : Flight C) → now < f.tick → P f) → AllByRecursion (λ tick. now < tick) ticks → AllByRecursion P flights
    → AllByRecursion P (with_flights to number carried ticks flights)
all_launched P now to number carried [] flights later low all = all
all_launched P now to number carried (tick ∷ ticks) flights later low all =
    all_launched P now to number carried ticks _ later low.1 (all_with P _ flights (later _ low.0) all)

arrive_later : (fate : Fate) (now on_time : ℕ) → now < on_time → AllByRecursion (λ tick. now < tick) (arrivals fate on_time)
arrive_later OnTime now on_time later = (later, tt)
arrive_later Lost now on_time later = tt
arrive_later Full now on_time later = tt
arrive_later (Late ticks) now on_time later = (omega (arith, later), tt)
arrive_later (Twice ticks) now on_time later = (later, (omega (arith, later), tt))

pub sent_later : {C : Type 0} (P : Flight C → Type 0) (strip alter : Side → C → C) (from : Side) (carried : C) (length now : ℕ) (link : LinkState C) → 1 ≤ link.delay
    → AllByRecursion P link.under_way → ((f : Flight C) → now < f.tick → P f) → AllByRecursion P (after_send strip alter from carried length now link).under_way
sent_later P strip alter A carried length now link some all later = all_launched P now B _ _ (arrivals _ _) link.under_way later (arrive_later _ now (first_arrival A (next_number A link) length now link) (omega (arith, some))) all
sent_later P strip alter B carried length now link some all later = all_launched P now A _ _ (arrivals _ _) link.under_way later (arrive_later _ now (first_arrival B (next_number B link) length now link) (omega (arith, some))) all
