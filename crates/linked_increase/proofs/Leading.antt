-- The row that the fold arrives at is the leader.
use Rattle.std.proofs.Common.{◌≡◌, ℕ, ◌*◌, ◌<◌, ◌≤◌, Bool, true, false, nat_lt, ◌==◌, ◌||◌, ◌&&◌, cond, Some, fold, refl, List, [], ◌∷◌, ⊎_elim, arith}
use Rattle.std.proofs.lemmas.Bool.Decides.{nat_tests}
use Rattle.std.proofs.lemmas.List.Elements.{All-nil, All-cons, All-head, All-tail, All-contains, Contains-push, Contains-append_left, Contains-append_right, Contains-append_cases}
use Rattle.std.proofs.Math.Nat.{mul-pos}
use Rattle.std.specs.Prelude.{All, Contains}
use Rattle.linked_increase.specs.declared.rows.Row.{Row}
use Rattle.linked_increase.specs.Fraction.{IsAtMost}
use Rattle.linked_increase.specs.Paths.{IsInRange, weight, leads, leading, leader, IsLeader}
use Rattle.linked_increase.proofs.Fractions.{IsAtMost-trans}

-- m goes before the row, or is as good
record IsBefore (m row : Row) : Type 0 where
  greatest : IsAtMost (weight row) (weight m)
  lowest : IsAtMost (weight m) (weight row) → m.path ≤ row.path

test_holds : (own others p q : ℕ) → (nat_lt others own || (own == others && nat_lt p q)) ≡ true
    → (others ≤ own) × (own ≤ others → p ≤ q)
test_holds own others p q h = grind (arith, nat_tests)

test_fails : (own others p q : ℕ) → (nat_lt others own || (own == others && nat_lt p q)) ≡ false
    → (own ≤ others) × (others ≤ own → q ≤ p)
test_fails own others p q h = grind (arith, nat_tests)

itself : (m : Row) → IsBefore m m
itself m = record { greatest = omega arith; lowest = λ _. omega arith }

before-trans : (a b c : Row) → IsInRange a → IsInRange b → IsInRange c → IsBefore a b → IsBefore b c → IsBefore a c
before-trans a b c ra rb rc ab bc =
    let square : (row : Row) → IsInRange row → 0 < row.rtt * row.rtt = λ row r. mul-pos r.some_rtt r.some_rtt in
    record {
      greatest = IsAtMost-trans (weight c) (weight b) (weight a) (square b rb) bc.greatest ab.greatest;
      lowest = λ h.
          let first = ab.lowest (IsAtMost-trans (weight a) (weight c) (weight b) (square c rc) h bc.greatest) in
          let second = bc.lowest (IsAtMost-trans (weight b) (weight a) (weight c) (square a ra) ab.greatest h) in
          omega (arith, first, second);
    }

-- what one step of the fold arrives at
record IsFirstOfTwo (m a b : Row) : Type 0 where
  first : IsBefore m a
  second : IsBefore m b
  in_range : IsInRange m
  among : Contains (a ∷ b ∷ []) m

of_two : (a b : Row) → IsInRange a → IsInRange b → (t : Bool) → leads b a ≡ t
    → IsFirstOfTwo (cond t b a) a b
of_two a b ra rb true h =
    let facts = test_holds (b.window * (a.rtt * a.rtt)) (a.window * (b.rtt * b.rtt)) b.path a.path h in
    record {
      first = record { greatest = facts.0; lowest = facts.1 };
      second = itself b;
      in_range = rb;
      among = Contains-append_right (a ∷ []) (b ∷ []) b (Contains-push [] b);
    }
of_two a b ra rb false h =
    let facts = test_fails (b.window * (a.rtt * a.rtt)) (a.window * (b.rtt * b.rtt)) b.path a.path h in
    record {
      first = itself a;
      second = record { greatest = facts.0; lowest = facts.1 };
      in_range = ra;
      among = Contains-append_left (a ∷ []) (b ∷ []) a (Contains-push [] a);
    }

-- the leader with a row in front of it that it is before
leader-cons : (m row : Row) (rows : List Row) → IsBefore m row → Contains (row ∷ rows) m → All (IsBefore m) rows
    → IsLeader m (row ∷ rows)
leader-cons m row rows before among others = record {
  among = among;
  greatest = λ k d h. (All-cons (IsBefore m) row rows before others k d h).greatest;
  lowest = λ k d h. (All-cons (IsBefore m) row rows before others k d h).lowest;
}

among_two : (a b next m : Row) (rest : List Row) → Contains (a ∷ b ∷ []) next → Contains (next ∷ rest) m
    → Contains (a ∷ b ∷ rest) m
among_two a b next m rest first h =
    ⊎_elim
    (λ only. Contains-append_left (a ∷ b ∷ []) rest m
    (All-contains (Contains (a ∷ b ∷ [])) (next ∷ []) m
    (All-cons (Contains (a ∷ b ∷ [])) next [] first (All-nil (Contains (a ∷ b ∷ [])))) only))
    (λ later. Contains-append_right (a ∷ b ∷ []) rest m later)
    (Contains-append_cases (next ∷ []) rest m h)

-- the leader is before each of the rows
all_after : (m : Row) (rows : List Row) → IsLeader m rows → All (IsBefore m) rows
all_after m rows is k d h = record { greatest = is.greatest k d h; lowest = is.lowest k d h }

fold_leads : (first : Row) (rest : List Row) → IsInRange first → All IsInRange rest
    → IsLeader (fold leading first rest) (first ∷ rest)
fold_leads first [] own others =
    leader-cons first first [] (itself first) (Contains-push [] first) (All-nil (IsBefore first))
fold_leads first (row ∷ rest) own others =
    let row_range = All-head IsInRange row rest others in
    let two = of_two first row own row_range (leads row first) refl in
    let next : Row = leading first row in
    let later = fold_leads next rest two.in_range (All-tail IsInRange row rest others) in
    let m : Row = fold leading next rest in
    let next_range = All-cons IsInRange next rest two.in_range (All-tail IsInRange row rest others) in
    let m_range = All-contains IsInRange (next ∷ rest) m next_range later.among in
    let after = all_after m (next ∷ rest) later in
    let before_next = All-head (IsBefore m) next rest after in
    leader-cons m first (row ∷ rest)
    (before-trans m next first m_range two.in_range own before_next two.first)
    (among_two first row next m rest two.among later.among)
    (All-cons (IsBefore m) row rest
    (before-trans m next row m_range two.in_range row_range before_next two.second)
    (All-tail (IsBefore m) next rest after))

pub leader_leads : (rows : List Row) (m : Row) → All IsInRange rows → leader rows ≡ Some m → IsLeader m rows
leader_leads [] m ranges is = cc
leader_leads (first ∷ rest) m ranges is =
    let same : fold leading first rest ≡ m = cc in
    rw (← same) (fold_leads first rest (All-head IsInRange first rest ranges) (All-tail IsInRange first rest ranges))

pub leader_in_range : (rows : List Row) (m : Row) → All IsInRange rows → leader rows ≡ Some m → IsInRange m
leader_in_range rows m ranges is = All-contains IsInRange rows m ranges (leader_leads rows m ranges is).among
