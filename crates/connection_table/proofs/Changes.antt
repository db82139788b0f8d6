-- What is made of one connection of a table, and of each one after the other.
use Rattle.std.proofs.Common.{◌≡◌, refl, sym, ◌∙◌, ap, subst, ℕ, zero, suc, ◌+◌, ◌-◌, ◌^◌, ◌<◌, ◌≤◌, Bool, true, false, Option, Some, None, List, [], ◌∷◌, ◌++◌, length, if◌then◌else◌, arith}
use Rattle.std.specs.Prelude.{IsSomeAnd}
use Rattle.std.specs.List.{All, slice_get, slice_set}
use Rattle.std.proofs.lemmas.List.Elements.{All-nil, All-cons, All-head, All-tail}
use Rattle.std.proofs.lemmas.Option.{same_Some}
use Rattle.run_outside.specs.declared.input.Input.{Input}
use Rattle.world_core.specs.Steps.{StampRises, is_made, stamp_at}
use Rattle.world_core.specs.declared.stepped.Stepped.{Stepped}
use Rattle.world_core.specs.Kept.{standing}
use Rattle.run_log.specs.declared.turn.Turn.TheVariants.{Step}
use Rattle.path_core.specs.Octets.{octets}
use Rattle.world_laws.specs.Worlds.{is_going, world_step}
use Rattle.connection_table.specs.ManyRounds.{Changes, EachRound, Made, Runs, StepMade}
use Rattle.connection_table.specs.Routes.{home_of}
use Rattle.connection_table.specs.Steps.{after_step}
use Rattle.connection_table.specs.Tables.{Connection, Entry, IsShortEntry, Stands, entry_at, with_entry}
use Rattle.connection_table.proofs.Placed.{set_back, set_there}

-- ---- what holds of a connection that may be there

pub some_map : (o : Option Entry) (P Q : Entry → Type 0) → ((x : Entry) → P x → Q x) → IsSomeAnd o P → IsSomeAnd o Q
some_map None P Q more h = h
some_map (Some x) P Q more h = more x h

pub some_both : (o : Option Entry) (P Q R : Entry → Type 0) → ((x : Entry) → P x → Q x → R x) → IsSomeAnd o P → IsSomeAnd o Q → IsSomeAnd o R
some_both None P Q R both h k = h
some_both (Some x) P Q R both h k = both x h k

-- ---- a connection in the place of another one

set_twice : (xs : List Entry) (i : ℕ) (x y : Entry) → slice_set (slice_set xs i x) i y ≡ slice_set xs i y
set_twice [] i x y = refl
set_twice (z ∷ xs) zero x y = refl
set_twice (z ∷ xs) (suc i) x y = ap (λ (zs : List Entry). z ∷ zs) (set_twice xs i x y)

set_many : (xs : List Entry) (i : ℕ) (x : Entry) → length (slice_set xs i x) ≡ length xs
set_many [] i x = refl
set_many (z ∷ xs) zero x = refl
set_many (z ∷ xs) (suc i) x = ap suc (set_many xs i x)

module _ (P : Entry → Type 0) where
  all_set : (xs : List Entry) (i : ℕ) (x : Entry) → All P xs → P x → All P (slice_set xs i x)
  all_set [] i x all h = all
  all_set (z ∷ xs) zero x all h = All-cons P x xs h (All-tail P z xs all)
  all_set (z ∷ xs) (suc i) x all h = All-cons P z (slice_set xs i x) (All-head P z xs all) (all_set xs i x (All-tail P z xs all) h)

  all_at : (xs : List Entry) (i : ℕ) (x : Entry) → All P xs → slice_get xs i ≡ Some x → P x
  all_at [] i x all there = cc
  all_at (z ∷ xs) zero x all there = subst P (same_Some z x there) (All-head P z xs all)
  all_at (z ∷ xs) (suc i) x all there = all_at xs i x (All-tail P z xs all) there

  pub all_there : (table : List Entry) (number : ℕ) → All P table → number < length table → IsSomeAnd (entry_at number table) P
  all_there [] number all within = absurd (omega (arith, within))
  all_there (z ∷ table) zero all within = All-head P z table all
  all_there (z ∷ table) (suc number) all within = all_there table number (All-tail P z table all) (omega (arith, within))

-- ---- changes

-- one after the other
pub changes_then : (P Q R : Entry → Entry → Type 0) → ((x y z : Entry) → P x y → Q y z → R x z) → (number : ℕ) (old middle new : List Entry)
    → Changes P number old middle → Changes Q number middle new → Changes R number old new
changes_then P Q R both number old middle new first second = by (entry_at number old) refl first
  where
    Next : Entry → Type 0
    Next y = (z : Entry) × (Q y z × (new ≡ with_entry number z middle))

    by : (o : Option Entry) → entry_at number old ≡ o → IsSomeAnd o (λ x. (y : Entry) × (P x y × (middle ≡ with_entry number y old)))
        → IsSomeAnd o (λ x. (z : Entry) × (R x z × (new ≡ with_entry number z old)))
    by None there h = h
    by (Some x) there (y, h) =
        let at : entry_at number middle ≡ Some y = ap (entry_at number) h.1 ∙ set_there old number x y there in
        let next : Next y = subst (λ (o : Option Entry). IsSomeAnd o Next) at second in
        (next.0, (both x y next.0 h.0 next.1.0, next.1.1 ∙ (ap (with_entry number next.0) h.1 ∙ set_twice old number y next.0)))

-- what it became is known
pub changes_are : (f : Entry → Entry) (number : ℕ) (old new : List Entry) → IsSomeAnd (entry_at number old) (λ x. new ≡ with_entry number (f x) old)
    → Changes (λ x y. y ≡ f x) number old new
changes_are f number old new is =
    some_map (entry_at number old) (λ x. new ≡ with_entry number (f x) old) (λ x. (y : Entry) × ((y ≡ f x) × (new ≡ with_entry number y old)))
    (λ x e. (f x, (refl, e))) is

-- more is known of what it was
pub changes_know : (K : Entry → Type 0) (P R : Entry → Entry → Type 0) → ((x y : Entry) → K x → P x y → R x y) → (number : ℕ) (old new : List Entry)
    → IsSomeAnd (entry_at number old) K → Changes P number old new → Changes R number old new
changes_know K P R more number old new known change =
    some_both (entry_at number old) K (λ x. (y : Entry) × (P x y × (new ≡ with_entry number y old))) (λ x. (y : Entry) × (R x y × (new ≡ with_entry number y old)))
    (λ x k h. (h.0, (more x h.0 k h.1.0, h.1.1))) known change

-- nothing changed
pub changes_none : (P : Entry → Entry → Type 0) (number : ℕ) (table : List Entry) → IsSomeAnd (entry_at number table) (λ x. P x x) → Changes P number table table
changes_none P number table h = by (entry_at number table) refl h
  where
    by : (o : Option Entry) → entry_at number table ≡ o → IsSomeAnd o (λ x. P x x) → IsSomeAnd o (λ x. (y : Entry) × (P x y × (table ≡ with_entry number y table)))
    by None there h = h
    by (Some x) there h = (x, (h, sym (set_back table number x there)))

pub changed_many : (P : Entry → Entry → Type 0) (number : ℕ) (old new : List Entry) → Changes P number old new → length new ≡ length old
changed_many P number old new change = by (entry_at number old) change
  where
    by : (o : Option Entry) → IsSomeAnd o (λ x. (y : Entry) × (P x y × (new ≡ with_entry number y old))) → length new ≡ length old
    by None h = absurd h
    by (Some x) (y, h) = ap length h.1 ∙ set_many old number y

-- what each one keeps
pub all_changed : (K : Entry → Type 0) (P : Entry → Entry → Type 0) → ((x y : Entry) → P x y → K x → K y) → (number : ℕ) (old new : List Entry)
    → All K old → Changes P number old new → All K new
all_changed K P keeps number old new all change = by (entry_at number old) refl change
  where
    by : (o : Option Entry) → entry_at number old ≡ o → IsSomeAnd o (λ x. (y : Entry) × (P x y × (new ≡ with_entry number y old))) → All K new
    by None there h = absurd h
    by (Some x) there (y, h) = subst (All K) (sym h.1) (all_set K old number y all (keeps x y h.0 (all_at K old number x all there)))

-- ---- each that runs

pub same_short : (e x : Entry) → x.input ≡ e.input → IsShortEntry e → IsShortEntry x
same_short e x same short = subst (λ (input : Input). IsShortEntry (record x { input = input })) (sym same) short

pub made_runs : (P : Connection → Connection → Type 0) (x y : Entry) → Made P x y → Runs x → Runs y
made_runs P x y made runs = record { stands = made.stands; short = same_short x y made.input runs.short }

-- ---- a step

pub step_runs : (actor : ℕ) (went : Bool) (x y : Entry) → StepMade actor went x y → Runs x → Runs y
step_runs actor went x y step runs =
    subst Runs (sym step.is) (by (is_going actor x.world.state))
  where
    by : (b : Bool) → Runs (if b then record x { turns = x.turns ++ Step actor ∷ []; world = standing (world_step octets actor x.world.state) } else x)
    by true = record { stands = refl; short = runs.short }
    by false = runs

-- a step of a connection that runs is made at that connection
module _ (connection actor : ℕ) (old new : List Entry) (stepped : Stepped) (within : connection < length old) (run : All Runs old)
    (home : IsSomeAnd (entry_at connection old) (λ e. IsShortEntry e → home_of connection actor old ≡ connection)) where
  abbrev At : (Entry → Type 0) → Type 0
  At P = IsSomeAnd (entry_at (home_of connection actor old) old) P

  is_home : home_of connection actor old ≡ connection
  is_home = by (entry_at connection old) (all_there Runs old connection run within) home
    where
      by : (o : Option Entry) → IsSomeAnd o Runs → IsSomeAnd o (λ e. IsShortEntry e → home_of connection actor old ≡ connection) → home_of connection actor old ≡ connection
      by None runs h = absurd h
      by (Some e) runs h = h runs.short

  -- at that connection
  here : (number : ℕ) → number ≡ connection → IsSomeAnd (entry_at number old) (λ e. is_made stepped ≡ is_going actor e.world.state)
      → IsSomeAnd (entry_at number old) (λ e. new ≡ with_entry number (after_step actor e) old)
      → IsSomeAnd (entry_at number old) (λ e. StampRises actor e.world.state (after_step actor e).world.state) → IsSomeAnd (entry_at number old) Stands
      → Changes (StepMade actor (is_made stepped)) connection old new
  here number same going ok rises stood =
      subst (λ n. Changes (StepMade actor (is_made stepped)) n old new) same (by (entry_at number old) going ok rises stood)
    where
      by : (o : Option Entry) → IsSomeAnd o (λ e. is_made stepped ≡ is_going actor e.world.state) → IsSomeAnd o (λ e. new ≡ with_entry number (after_step actor e) old)
          → IsSomeAnd o (λ e. StampRises actor e.world.state (after_step actor e).world.state) → IsSomeAnd o Stands
          → IsSomeAnd o (λ x. (y : Entry) × (StepMade actor (is_made stepped) x y × (new ≡ with_entry number y old)))
      by None going ok rises stood = ok
      by (Some e) going ok rises stood = (after_step actor e, (record { stood = stood; going = going; is = refl; rises = rises }, ok))

  pub step_changes : At (λ e. is_made stepped ≡ is_going actor e.world.state)
      → At (λ e. new ≡ with_entry (home_of connection actor old) (after_step actor e) old)
      → At (λ e. StampRises actor e.world.state (after_step actor e).world.state) → At Stands
      → Changes (StepMade actor (is_made stepped)) connection old new
  step_changes going ok rises stood = here (home_of connection actor old) is_home going ok rises stood

-- the greatest stamp that an actor of a connection knows
abbrev pub stamp_in : ℕ → Option Entry → ℕ
stamp_in actor None = 0
stamp_in actor (Some e) = stamp_at actor e.world.state

pub goes_up : (actor number : ℕ) (old new : List Entry) → Changes (StepMade actor true) number old new
    → 2 ^ 62 - stamp_in actor (entry_at number new) < 2 ^ 62 - stamp_in actor (entry_at number old)
goes_up actor number old new change = by (entry_at number old) refl change
  where
    by : (o : Option Entry) → entry_at number old ≡ o → IsSomeAnd o (λ x. (y : Entry) × (StepMade actor true x y × (new ≡ with_entry number y old)))
        → 2 ^ 62 - stamp_in actor (entry_at number new) < 2 ^ 62 - stamp_in actor o
    by None there h = absurd h
    by (Some x) there (y, h) =
        let at : entry_at number new ≡ Some y = ap (entry_at number) h.1 ∙ set_there old number x y there in
        let up = h.0.rises (sym h.0.going) in
        let more = up.more in
        let small = up.small in
        subst (λ (o : Option Entry). 2 ^ 62 - stamp_in actor o < 2 ^ 62 - stamp_at actor x.world.state) (sym at) (omega (arith, more, small))

-- ---- each connection of a table, one after the other

module _ (P : Connection → Connection → Type 0) where
  -- the first ones made it, and the rest are as they were
  abbrev pub SoFar : ℕ → List Entry → List Entry → Type 0
  SoFar zero old new = new ≡ old
  SoFar (suc i) [] [] = Unit {0}
  SoFar (suc i) [] (y ∷ new) = ⊥
  SoFar (suc i) (x ∷ old) [] = ⊥
  SoFar (suc i) (x ∷ old) (y ∷ new) = Made P x y × SoFar i old new

  next_so_far : (i : ℕ) (old new : List Entry) (x y : Entry) → slice_get new i ≡ Some x → SoFar i old new → Made P x y → SoFar (suc i) old (slice_set new i y)
  next_so_far zero old [] x y there so made = cc
  next_so_far zero old (z ∷ new) x y there so made =
      subst (λ (o : List Entry). SoFar 1 o (y ∷ new)) so (subst (λ (e : Entry). Made P e y) (sym (same_Some z x there)) made, refl)
  next_so_far (suc i) old [] x y there so made = cc
  next_so_far (suc i) [] (z ∷ new) x y there so made = absurd so
  next_so_far (suc i) (o ∷ old) (z ∷ new) x y there so made = (so.0, next_so_far i old new x y there so.1 made)

  -- the next one makes it
  pub so_far_more : (i : ℕ) (old middle new : List Entry) → SoFar i old middle → Changes (Made P) i middle new → SoFar (i + 1) old new
  so_far_more i old middle new so change = by (entry_at i middle) refl change
    where
      by : (o : Option Entry) → entry_at i middle ≡ o → IsSomeAnd o (λ x. (y : Entry) × (Made P x y × (new ≡ with_entry i y middle))) → SoFar (i + 1) old new
      by None there h = absurd h
      by (Some x) there (y, h) =
          let e : suc i ≡ i + 1 = omega arith in
          subst (λ n. SoFar n old new) e (subst (SoFar (suc i) old) (sym h.1) (next_so_far i old middle x y there so h.0))

  -- all made it
  pub so_far_all : (i : ℕ) (old new : List Entry) → length new ≤ i → SoFar i old new → EachRound P old new
  so_far_all zero old [] past so = subst (λ o. EachRound P o []) so tt
  so_far_all zero old (y ∷ new) past so = absurd (omega (arith, past))
  so_far_all (suc i) [] [] past so = tt
  so_far_all (suc i) [] (y ∷ new) past so = absurd so
  so_far_all (suc i) (x ∷ old) [] past so = absurd so
  so_far_all (suc i) (x ∷ old) (y ∷ new) past so = (so.0, so_far_all i old new (omega (arith, past)) so.1)
