-- Harms that are to be mended, as debts: what is counted makes one at most each time, and a long wait brings the next one that is counted, or one
-- debt less.
use Rattle.std.specs.Prelude.{ℕ, suc, ◌+◌, ◌*◌, ◌<◌, ◌≤◌, ◌⊎◌, List}
use Rattle.path_core.specs.Values.{values}
use Rattle.world_laws.specs.Openings.{PathPlan, Start}
use Rattle.world_laws.specs.RoundDone.{reached}
use Rattle.world_laws.specs.Worlds.{Turn}
use Rattle.whole_paths.specs.Counts.{CountsAsMuch}
use Rattle.whole_paths.specs.Courses.{BeginsARound, TakesAStep, harmed_so_far, round_end}
use Rattle.whole_paths.specs.Delivery.{AllIsThere}
use Rattle.whole_paths.specs.Mild.{IsMildStart}
use Rattle.whole_paths.specs.OpenCourses.{IsOpenAfter}
use Rattle.whole_paths.specs.PaidRounds.{AWaitBegins}
use Rattle.whole_paths.specs.SharpCourses as sharp
use Rattle.whole_paths.specs.SharpCourses.{GoesOnAs, IsPaid, price, the_course, top, units}

module _ (start : Start) (plan : PathPlan) (most : ℕ) (Owes : ℕ → List Turn → Type 0) where
  abbrev pub Stepping : List Turn → List Turn → Type 0
  Stepping = TakesAStep values start (IsOpenAfter start) most

  abbrev pub Beginning : List Turn → List Turn → Type 0
  Beginning = BeginsARound values start (IsOpenAfter start) most

-- the ticks within which it comes to one debt less, or to another harm, where one timer mends it: a greatest timeout of 60,000 and twenty rounds
abbrev pub one_timeout : ℕ
one_timeout = 62000

-- and of any kind: of two timers, one after the other, and 62 rounds
abbrev pub long_wait : ℕ
long_wait = 126200

-- by such an event the wait for the next one is put off, from the end of its round on
abbrev pub put_off_by : ℕ
put_off_by = 126400

-- half of what a harm pays, for each debt
abbrev pub half_price : ℕ
half_price = 126500

-- `count turns`: how many harms were counted
module _ (start : Start) (plan : PathPlan) (most : ℕ) (count : List Turn → ℕ) (Owes : ℕ → List Turn → Type 0) where
  -- ---- what is mended

  -- of so many debts: none is made but by a harm, which makes one at most
  pub record OwesOnBy (debts : ℕ) (v u : List Turn) : Type 0 where
    pub now : ℕ
    pub owes : Owes now u
    pub few : now + count v ≤ debts + count u

  -- no more debts than harms
  pub record OwesAtMostBy (turns : List Turn) : Type 0 where
    pub debts : ℕ
    pub owes : Owes debts turns
    pub few : debts ≤ count turns

  -- at each open moment
  abbrev pub FewAreOwedBy : Type 0
  FewAreOwedBy = (turns : List Turn) → IsOpenAfter start turns → OwesAtMostBy turns

  -- so many harms are mended: all but the debts
  pub record AreMended (harms : ℕ) (turns : List Turn) : Type 0 where
    pub debts : ℕ
    pub owes : Owes debts turns
    pub few : harms + debts ≤ count turns

  -- ---- long waits

  -- `Mends debts tick turns`: of so many debts one is paid by this tick, unless there is another harm
  module _ (Mends : ℕ → ℕ → List Turn → Type 0) where
    -- a wait goes on to the same tick, or there is a debt less, or another harm
    pub data MendsOnBy (debts x : ℕ) (v u : List Turn) : Type 0 where
      quiet : Mends debts x u → MendsOnBy debts x v u
      fewer : (now : ℕ) → Owes now u → now + count v < debts + count u → MendsOnBy debts x v u
      harmed : OwesOnBy debts v u → count v < count u → MendsOnBy debts x v u

    -- What is left to be shown of debts: each turn makes none but by a harm, and lets a wait go on, which no round begins past; and as a round
    -- begins with debts a wait of so many ticks begins, or there is one less.
    pub record DebtsAreMendedBy (within : ℕ) : Type 0 where
      pub on : (debts : ℕ) (v u : List Turn) → Stepping start plan most Owes v u → Owes debts v → OwesOnBy debts v u
      pub next : (debts : ℕ) (v u : List Turn) → Beginning start plan most Owes v u → Owes debts v → OwesOnBy debts v u
      pub owing : (debts x : ℕ) (turns : List Turn) → Mends debts x turns → Owes debts turns
      pub mends_on : (debts x : ℕ) (v u : List Turn) → Stepping start plan most Owes v u → Mends debts x v → MendsOnBy debts x v u
      pub mends_next : (debts x : ℕ) (v u : List Turn) → Beginning start plan most Owes v u → Mends debts x v → MendsOnBy debts x v u
      pub in_time : (debts x : ℕ) (v u : List Turn) → Beginning start plan most Owes v u → Mends debts x v → round_end values start v ≤ x
      pub begins : (debts : ℕ) (v u : List Turn) → Beginning start plan most Owes v u → Owes (suc debts) u
          → Owes debts u ⊎ Mends (suc debts) (round_end values start v + within) u

    -- the next event is waited for by this tick, or will be as the next round begins
    pub data AwaitsEvent (debts x : ℕ) (turns : List Turn) : Type 0 where
      now : (by : ℕ) → by ≤ x → Mends debts by turns → AwaitsEvent debts x turns
      later : round_end values start turns + long_wait ≤ x → AwaitsEvent debts x turns

    -- ---- with short waits

    module _ (Short : ℕ → ℕ → List Turn → Type 0) where
      -- Debts are to be paid, and with the last one so many ticks. Half of what each pays is kept until it is; the other half is for the wait.
      pub record AwaitsPayment (n x : ℕ) (turns : List Turn) : Type 0 where
        pub harms : ℕ
        pub debts : ℕ
        pub owes : Owes debts turns
        pub some : 0 < debts
        pub few : harms + debts ≤ count turns
        pub event : AwaitsEvent debts x turns
        pub early : round_end values start turns ≤ x + 100
        pub enough : n + half_price * debts ≤ price (units start plan (reached values start turns)) (harms + debts) + half_price

      -- a wait is short or long
      pub data AwaitsEither (n x : ℕ) (turns : List Turn) : Type 0 where
        short : Short n x turns → AwaitsEither n x turns
        long : AwaitsPayment n x turns → AwaitsEither n x turns

      module _ (paid : List Turn → ℕ) where
        abbrev pub Goes : ℕ → ℕ → List Turn → Type 0
        Goes = GoesOnAs start plan paid most AreMended AwaitsEither

        abbrev pub Paid : ℕ → List Turn → Type 0
        Paid = IsPaid start plan paid most AreMended

        -- what is left to be shown of short waits: they begin where there is no debt
        pub record ShortWaits : Type 0 where
          pub on : (n x : ℕ) (v u : List Turn) → sharp.Stepping start plan paid most v u → Short n x v → Goes n x u
          pub next : (n x : ℕ) (v u : List Turn) → sharp.Beginning start plan paid most v u → Short n x v → Goes n x u
          pub due : (n x : ℕ) (v u : List Turn) → sharp.Beginning start plan paid most v u → Short n x v → x < round_end values start v → Paid n u
          pub begins : (n : ℕ) (v u : List Turn) → sharp.Beginning start plan paid most v u → Owes 0 u → Paid n u
              → AllIsThere (reached values start u)
              ⊎ AWaitBegins (the_course start plan paid most AreMended AwaitsEither) (top start plan paid most) n v u

-- ---- where each segment that is harmed is counted, and nothing else

module _ (start : Start) (plan : PathPlan) (most : ℕ) (Owes : ℕ → List Turn → Type 0) where
  abbrev pub OwesOn : ℕ → List Turn → List Turn → Type 0
  OwesOn = OwesOnBy start plan most (harmed_so_far values start) Owes

  abbrev pub OwesAtMost : List Turn → Type 0
  OwesAtMost = OwesAtMostBy start plan most (harmed_so_far values start) Owes

  abbrev pub FewAreOwed : Type 0
  FewAreOwed = FewAreOwedBy start plan most (harmed_so_far values start) Owes

  abbrev pub MendsOn : (ℕ → ℕ → List Turn → Type 0) → ℕ → ℕ → List Turn → List Turn → Type 0
  MendsOn = MendsOnBy start plan most (harmed_so_far values start) Owes

  abbrev pub DebtsAreMended : (ℕ → ℕ → List Turn → Type 0) → Type 0
  DebtsAreMended Mends = DebtsAreMendedBy start plan most (harmed_so_far values start) Owes Mends one_timeout

-- ---- by more

-- such a wait, by this tick or before
abbrev pub MendsSoon : (ℕ → ℕ → List Turn → Type 0) → ℕ → ℕ → List Turn → Type 0
MendsSoon Mends debts x turns = (by : ℕ) × (by ≤ x) × Mends debts by turns

-- Debts that are mended by one count are by another that counts as much, and in a longer time; and they are as few.
abbrev pub DebtsAreMendedByMore : Type 1
DebtsAreMendedByMore = (start : Start) (plan : PathPlan) (most within longer : ℕ) (count more : List Turn → ℕ) (Owes : ℕ → List Turn → Type 0)
    (Mends : ℕ → ℕ → List Turn → Type 0) → IsMildStart start → CountsAsMuch start count more → within ≤ longer
    → DebtsAreMendedBy start plan most count Owes Mends within → DebtsAreMendedBy start plan most more Owes (MendsSoon Mends) longer

abbrev pub DebtsAreFewByMore : Type 1
DebtsAreFewByMore = (start : Start) (plan : PathPlan) (most : ℕ) (count more : List Turn → ℕ) (Owes : ℕ → List Turn → Type 0)
    → CountsAsMuch start count more → FewAreOwedBy start plan most count Owes → FewAreOwedBy start plan most more Owes
