-- Copies are kept in the order of their arrival.
--
-- A Boolean order of three numbers: go by `⊎` of `<` and `≡` (`less_is`, `less_before` in `link_model/proofs/Order`);
-- `grind` alone splits too often.
use Rattle.std.proofs.Common.{◌≡◌, ◌∙◌, refl, sym, ℕ, zero, suc, ◌<◌, ◌≤◌, ◌⊎◌, inl, inr, Bool, true, false, cond, List, [], ◌∷◌, remove, Some, None, IfSome, subst, arith}
use Rattle.std.specs.Prelude.{nat_lt, ◌==◌, ◌&&◌, ◌||◌, position}
use Rattle.std.specs.List.{AllByRecursion}
use Rattle.std.proofs.lemmas.Bool.{cases_lt, true≢false}
use Rattle.sides.specs.declared.side.Side.{Side}
use Rattle.sides.specs.declared.side.Side.TheVariants.{A, B}
use Rattle.link_model.specs.declared.flight.Flight.{Flight}
use Rattle.link_model.specs.declared.flight.Due.{Due}
use Rattle.link_model.specs.State.{LinkState}
use Rattle.link_model.specs.Steps.{rank, comes_before, with_flight, with_flights, arrivals, after_send, after_delivery, without, is_due, next_due}
use Rattle.link_model.specs.Order.{IsFirst, AreInOrder}

-- ---- the order by three numbers

abbrev before : ℕ → ℕ → ℕ → ℕ → ℕ → ℕ → Bool
before a b c x y z = nat_lt a x || (a == x && (nat_lt b y || (b == y && nat_lt c z)))

abbrev Less : ℕ → ℕ → ℕ → ℕ → ℕ → ℕ → Type 0
Less a b c x y z = (a < x) ⊎ ((a ≡ x) × ((b < y) ⊎ ((b ≡ y) × (c < z))))

less_second : (b c y z : ℕ) → (nat_lt b y || (b == y && nat_lt c z)) ≡ true → (b < y) ⊎ (y ≤ b) → (b < y) ⊎ ((b ≡ y) × (c < z))
less_second b c y z h (inl low) = inl low
less_second b c y z h (inr high) = inr (grind (arith, h, high), grind (arith, h, high))

less_first : (a b c x y z : ℕ) → before a b c x y z ≡ true → (a < x) ⊎ (x ≤ a) → Less a b c x y z
less_first a b c x y z h (inl low) = inl low
less_first a b c x y z h (inr high) =
    let same : a ≡ x = grind (arith, h, high) in
    let rest : (nat_lt b y || (b == y && nat_lt c z)) ≡ true = grind (arith, h, high) in
    inr (same, less_second b c y z rest (cases_lt b y))

less_is : (a b c x y z : ℕ) → before a b c x y z ≡ true → Less a b c x y z
less_is a b c x y z h = less_first a b c x y z h (cases_lt a x)

-- two orders of three numbers that can't both be
crossed : (a b c x y z k l m : ℕ) → Less a b c x y z → Less k l m a b c → Less k l m x y z
crossed a b c x y z k l m (inl f) (inl g) = inl (omega (arith, f, g))
crossed a b c x y z k l m (inl f) (inr g) = inl (omega (arith, f, g.0))
crossed a b c x y z k l m (inr f) (inl g) = inl (omega (arith, f.0, g))
crossed a b c x y z k l m (inr f) (inr g) = inr (omega (arith, f.0, g.0), within f.1 g.1)
  where
    within : (b < y) ⊎ ((b ≡ y) × (c < z)) → (l < b) ⊎ ((l ≡ b) × (m < c)) → (l < y) ⊎ ((l ≡ y) × (m < z))
    within (inl p) (inl q) = inl (omega (arith, p, q))
    within (inl p) (inr q) = inl (omega (arith, p, q.0))
    within (inr p) (inl q) = inl (omega (arith, p.0, q))
    within (inr p) (inr q) = inr (omega (arith, p.0, q.0), omega (arith, p.1, q.1))

less_before : (a b c x y z : ℕ) → Less a b c x y z → before a b c x y z ≡ true
less_before a b c x y z (inl low) = grind (arith, low)
less_before a b c x y z (inr (same, inl low)) = grind (arith, same, low)
less_before a b c x y z (inr (same, inr (equal, low))) = grind (arith, same, equal, low)

-- what doesn't come before a later one doesn't come before an earlier one
before_later : (a b c x y z k l m : ℕ) → before a b c x y z ≡ true → before k l m x y z ≡ false → before k l m a b c ≡ false
before_later a b c x y z k l m first not = (elim (before k l m a b c) as (λ t. before k l m a b c ≡ t → t ≡ false)
    [ false ↦ λ e. refl | true ↦ λ e. let no : true ≡ false = sym (less_before k l m x y z (crossed a b c x y z k l m (less_is a b c x y z first) (less_is k l m a b c e))) ∙ not in no ]) refl

-- not after
abbrev AtMost : ℕ → ℕ → ℕ → ℕ → ℕ → ℕ → Type 0
AtMost a b c x y z = (a < x) ⊎ ((a ≡ x) × ((b < y) ⊎ ((b ≡ y) × (c ≤ z))))

at_most_second : (b c y z : ℕ) → (nat_lt y b || (y == b && nat_lt z c)) ≡ false → (b < y) ⊎ (y ≤ b) → (b < y) ⊎ ((b ≡ y) × (c ≤ z))
at_most_second b c y z h (inl low) = inl low
at_most_second b c y z h (inr high) = inr (grind (arith, h, high), grind (arith, h, high))

at_most_first : (a b c x y z : ℕ) → before x y z a b c ≡ false → (a < x) ⊎ (x ≤ a) → AtMost a b c x y z
at_most_first a b c x y z h (inl low) = inl low
at_most_first a b c x y z h (inr high) =
    let same : a ≡ x = grind (arith, h, high) in
    let rest : (nat_lt y b || (y == b && nat_lt z c)) ≡ false = grind (arith, h, high) in
    inr (same, at_most_second b c y z rest (cases_lt b y))

at_most_then : (a b c x y z k l m : ℕ) → AtMost k l m a b c → Less a b c x y z → Less k l m x y z
at_most_then a b c x y z k l m (inl g) (inl f) = inl (omega (arith, f, g))
at_most_then a b c x y z k l m (inr g) (inl f) = inl (omega (arith, f, g.0))
at_most_then a b c x y z k l m (inl g) (inr f) = inl (omega (arith, f.0, g))
at_most_then a b c x y z k l m (inr g) (inr f) = inr (omega (arith, f.0, g.0), within f.1 g.1)
  where
    within : (b < y) ⊎ ((b ≡ y) × (c < z)) → (l < b) ⊎ ((l ≡ b) × (m ≤ c)) → (l < y) ⊎ ((l ≡ y) × (m < z))
    within (inl p) (inl q) = inl (omega (arith, p, q))
    within (inl p) (inr q) = inl (omega (arith, p, q.0))
    within (inr p) (inl q) = inl (omega (arith, p.0, q))
    within (inr p) (inr q) = inr (omega (arith, p.0, q.0), omega (arith, p.1, q.1))

-- what comes before one comes before each that doesn't come before that
before_onward : (a b c x y z k l m : ℕ) → before a b c x y z ≡ true → before k l m x y z ≡ false → before a b c k l m ≡ true
before_onward a b c x y z k l m first not = (elim (before a b c k l m) as (λ t. before a b c k l m ≡ t → t ≡ true) [
  | true ↦ λ e. refl
  | false ↦ λ e. let no : true ≡ false = sym (less_before k l m x y z (at_most_then a b c x y z k l m (at_most_first k l m a b c e (cases_lt k a)) (less_is a b c x y z first))) ∙ not in sym no
]) refl

pub before_once : (a b c x y z : ℕ) → before a b c x y z ≡ true → before x y z a b c ≡ false
before_once a b c x y z first = before_later a b c x y z x y z first (itself x y z)
  where
    itself : (x y z : ℕ) → before x y z x y z ≡ false
    itself x y z = grind arith

not_earlier : (a b c x y z : ℕ) → before a b c x y z ≡ false → x ≤ a
not_earlier a b c x y z not = grind (arith, not)

to_both : (a c x z : ℕ) → before a 1 c x 0 z ≡ false → before x 0 z a 1 c ≡ false → ⊥
to_both a c x z first second =
    let same : x ≡ a = omega (arith, not_earlier a 1 c x 0 z first, not_earlier x 0 z a 1 c second) in
    true≢false (sym (less_before x 0 z a 1 c (inr (same, inl (omega arith)))) ∙ second)

-- ---- copies

-- of two copies to two sides one arrives before the other
pub one_is_first : {C : Type 0} (f g : Flight C) → f.to ≡ A → g.to ≡ B → comes_before f g ≡ false → comes_before g f ≡ false → ⊥
one_is_first f g a b first second =
    to_both f.tick f.number g.tick g.number
    (subst (λ (t : Side). before f.tick 1 f.number g.tick (rank t) g.number ≡ false) b (subst (λ (s : Side). before f.tick (rank s) f.number g.tick (rank g.to) g.number ≡ false) a first))
    (subst (λ (t : Side). before g.tick (rank t) g.number f.tick 1 f.number ≡ false) b (subst (λ (s : Side). before g.tick (rank g.to) g.number f.tick (rank s) f.number ≡ false) a second))

first_with : {C : Type 0} (h f : Flight C) (flights : List (Flight C)) → comes_before f h ≡ false → IsFirst h flights → IsFirst h (with_flight f flights)
first_with h f [] not first = (not, tt)
first_with h f (g ∷ flights) not first = (elim (comes_before f g) as (λ b. IsFirst h (with_flight f flights) → IsFirst h (cond b (f ∷ g ∷ flights) (g ∷ with_flight f flights)))
    [ true ↦ λ rest. (not, first) | false ↦ λ rest. (first.0, rest) ]) (first_with h f flights not first.1)

pub first_before : {C : Type 0} (f g : Flight C) (flights : List (Flight C)) → comes_before f g ≡ true → IsFirst g flights → IsFirst f flights
first_before f g [] low first = tt
first_before f g (h ∷ flights) low first =
    (before_later f.tick (rank f.to) f.number g.tick (rank g.to) g.number h.tick (rank h.to) h.number low first.0, first_before f g flights low first.1)

pub before_behind : {C : Type 0} (f g h : Flight C) → comes_before f g ≡ true → comes_before h g ≡ false → comes_before f h ≡ true
before_behind f g h first not = before_onward f.tick (rank f.to) f.number g.tick (rank g.to) g.number h.tick (rank h.to) h.number first not

pub in_order_with : {C : Type 0} (f : Flight C) (flights : List (Flight C)) → AreInOrder flights → AreInOrder (with_flight f flights)
in_order_with f [] order = (tt, tt)
in_order_with f (g ∷ flights) order = (elim (comes_before f g) as (λ b. comes_before f g ≡ b → AreInOrder (with_flight f flights) → AreInOrder (cond b (f ∷ g ∷ flights) (g ∷ with_flight f flights))) [
  | true ↦ λ e rest. ((before_once f.tick (rank f.to) f.number g.tick (rank g.to) g.number e, first_before f g flights e order.0), order)
  | false ↦ λ e rest. (first_with g f flights e order.0, rest)
]) refl (in_order_with f flights order.1)

pub in_order_all : {C : Type 0} (to : Side) (number : ℕ) (carried : C) (ticks : List ℕ) (flights : List (Flight C)) → AreInOrder flights
    → AreInOrder (with_flights to number carried ticks flights)
in_order_all to number carried [] flights order = order
in_order_all to number carried (tick ∷ ticks) flights order = in_order_all to number carried ticks _ (in_order_with _ flights order)

pub in_order_sent : {C : Type 0} (strip alter : Side → C → C) (from : Side) (carried : C) (length now : ℕ) (link : LinkState C) → AreInOrder link.under_way
    → AreInOrder (after_send strip alter from carried length now link).under_way
in_order_sent strip alter A carried length now link order = in_order_all B _ _ (arrivals _ _) link.under_way order
in_order_sent strip alter B carried length now link order = in_order_all A _ _ (arrivals _ _) link.under_way order

-- ---- the earliest

none_earlier : {C : Type 0} (f : Flight C) (flights : List (Flight C)) → IsFirst f flights → AllByRecursion (λ g. f.tick ≤ g.tick) flights
none_earlier f [] first = tt
none_earlier f (g ∷ flights) first = (not_earlier g.tick (rank g.to) g.number f.tick (rank f.to) f.number first.0, none_earlier f flights first.1)

-- the first of copies in order
pub earliest : {C : Type 0} (flights : List (Flight C)) → AreInOrder flights → IfSome (next_due flights) (λ due. AllByRecursion (λ g. due.tick ≤ g.tick) flights)
earliest [] order = tt
earliest (f ∷ flights) order = (omega arith, none_earlier f flights order.0)

first_removed : {C : Type 0} (h : Flight C) (flights : List (Flight C)) (i : ℕ) → IsFirst h flights → IsFirst h (remove flights i)
first_removed h [] zero first = tt
first_removed h [] (suc i) first = tt
first_removed h (f ∷ flights) zero first = first.1
first_removed h (f ∷ flights) (suc i) first = (first.0, first_removed h flights i first.1)

pub in_order_removed : {C : Type 0} (flights : List (Flight C)) (i : ℕ) → AreInOrder flights → AreInOrder (remove flights i)
in_order_removed [] zero order = tt
in_order_removed [] (suc i) order = tt
in_order_removed (f ∷ flights) zero order = order.1
in_order_removed (f ∷ flights) (suc i) order = (first_removed f flights i order.0, in_order_removed flights i order.1)

pub in_order_delivered : {C : Type 0} (due : Due) (link : LinkState C) → AreInOrder link.under_way → AreInOrder (after_delivery due link).under_way
in_order_delivered due link order = elim (position (is_due due) link.under_way) as (λ o. AreInOrder (without o link.under_way))
    [ None ↦ order | Some i ↦ in_order_removed link.under_way i order ]

pub behind_is : (a b c x y z : ℕ) → a ≤ x → b ≡ y → c ≤ z → before x y z a b c ≡ false
behind_is a b c x y z tick rank number = (elim (before x y z a b c) as (λ t. before x y z a b c ≡ t → t ≡ false) [ false ↦ λ e. refl | true ↦ λ e. never (less_is x y z a b c e) ]) refl
  where
    never : Less x y z a b c → true ≡ false
    never (inl low) = absurd (omega (arith, tick, low))
    never (inr (same, inl low)) = absurd (omega (arith, rank, low))
    never (inr (same, inr (equal, low))) = absurd (omega (arith, number, low))
