-- A berth: the word and the slot between one that gives jobs and a worker. The word is 4 until the worker has come, 0 at rest, 1
-- while there is work that nobody has begun, 5 while the worker does it, 2 once it is done, and 3 when no more work comes.
use Rattle.std.specs.Prelude.{◌≡◌, ◌≢◌, ℕ, ◌⊎◌, ◌==◌, Bool, true, false, List, [], ◌∷◌, Option, Some, None}
use mathlib.Core.Option as plain
use Rattle.atomic_table.specs.Table.{State, Me}
use Rattle.berth.specs.declared.rule.View.{View}
use Rattle.berth.specs.declared.rule.View.TheVariants.{Both, Rests, Opened, Awaits, Free, Works}

-- a seat's view, and the slot where it has it
abbrev pub Mine : Type 0 → Type 0
Mine W = Me (Option W) (View W)

-- the slot where it is at home
abbrev pub Home : Type 0 → Type 0
Home W = plain.Option (Option W)

module _ {W : Type 0} where
  -- the giver's seat between two calls: this job is out, or none
  abbrev pub giver : Option W → Mine W
  giver None = (Rests, [])
  giver (Some job) = (Awaits job, [])

  -- the worker's seat between two calls: it has this job and the empty slot, or none
  abbrev pub worker : Option W → Mine W
  worker None = (Free, [])
  worker (Some job) = (Works job, (0, None) ∷ [])

  -- the job that a seat knows of
  abbrev pub job_of : View W → Option W
  job_of (Awaits job) = Some job
  job_of (Works job) = Some job
  job_of view = None

  -- ---- what a step tells

  -- where the worker was at rest, the giver has the empty slot
  abbrev pub OpenedWhere : Bool → Mine W → Mine W → Type 0
  OpenedWhere true me after = after ≡ (Opened, (0, None) ∷ [])
  OpenedWhere false me after = after ≡ me

  abbrev pub IsOpened : Mine W → ℕ → Mine W → Type 0
  IsOpened me found after = OpenedWhere (found == 0) me after

  -- the view once the job in the slot is given
  abbrev pub given : List (ℕ × Option W) → View W
  given ((slot, Some job) ∷ []) = Awaits job
  given slots = Rests

  -- the job that lay in the giver's slot is out
  abbrev pub IsGiven : Mine W → ℕ → Mine W → Type 0
  IsGiven me found after = after ≡ (given me.1, [])

  -- the giver's slot has the job as it was given
  abbrev pub HasBack : View W → Mine W → Type 0
  HasBack (Awaits job) after = after ≡ (Opened, (0, Some job) ∷ [])
  HasBack view after = ⊥

  abbrev pub RecalledWhere : Bool → Mine W → Mine W → Type 0
  RecalledWhere true me after = HasBack me.0 after
  RecalledWhere false me after = after ≡ me

  -- where nobody has begun the job, the giver has it back
  abbrev pub IsRecalled : Mine W → ℕ → Mine W → Type 0
  IsRecalled me found after = RecalledWhere (found == 1) me after

  -- the giver's slot has what the worker made of the job
  abbrev pub HasDone : (W → W → Type 0) → View W → Mine W → Type 0
  HasDone does (Awaits job) after = (done : W) × does job done × (after ≡ (Opened, (0, Some done) ∷ []))
  HasDone does view after = ⊥

  abbrev pub FetchedWhere : (W → W → Type 0) → Bool → Mine W → Mine W → Type 0
  FetchedWhere does true me after = HasDone does me.0 after
  FetchedWhere does false me after = after ≡ me

  -- where the job is done, the giver has it
  abbrev pub IsFetched : (W → W → Type 0) → Mine W → ℕ → Mine W → Type 0
  IsFetched does me found after = FetchedWhere does (found == 2) me after

  abbrev pub AtRest : Mine W → Type 0
  AtRest after = after ≡ (Rests, [])

  abbrev pub IsSame : Mine W → Mine W → Type 0
  IsSame me after = after ≡ me

  -- the worker's slot has a job that may be given
  abbrev pub HasJob : (W → Type 0) → Mine W → Type 0
  HasJob may after = (job : W) × may job × (after ≡ (Works job, (0, Some job) ∷ []))

  abbrev pub TakenWhere : (W → Type 0) → Bool → Mine W → Mine W → Type 0
  TakenWhere may true me after = HasJob may after
  TakenWhere may false me after = after ≡ me

  -- where there is work, the worker has it
  abbrev pub IsTaken : (W → Type 0) → Mine W → ℕ → Mine W → Type 0
  IsTaken may me found after = TakenWhere may (found == 1) me after

  abbrev pub IsFree : Mine W → Type 0
  IsFree after = after ≡ (Free, [])

  -- ---- the rule

  -- a view of the giver's
  abbrev pub IsGivers : View W → Type 0
  IsGivers Rests = Unit {0}
  IsGivers Opened = Unit {0}
  IsGivers (Awaits job) = Unit {0}
  IsGivers view = ⊥

  -- a view of the worker's
  abbrev pub IsWorkers : View W → Type 0
  IsWorkers Free = Unit {0}
  IsWorkers (Works job) = Unit {0}
  IsWorkers view = ⊥

  module _ (may : W → Type 0) (does : W → W → Type 0) where
    -- there is work that nobody has begun: this job, which may be given
    pub record IsWork (word : ℕ) (home : Home W) (job : W) : Type 0 where
      pub one : word ≡ 1
      pub slot : home ≡ plain.some (Some job)
      pub can : may job

    -- the work is done
    pub record IsDone (word : ℕ) (home : Home W) (job : W) : Type 0 where
      pub done : W
      pub two : word ≡ 2
      pub slot : home ≡ plain.some (Some done)
      pub made : does job done

    -- the word, the slot where it is at home, what the giver knows, and what the worker knows
    abbrev pub Stands : ℕ → Home W → View W → View W → Type 0
    Stands word home Rests Free = (home ≡ plain.some None) × (word ≢ 1) × (word ≢ 2)
    Stands word home Opened Free = (home ≡ plain.none) × (word ≢ 1)
    Stands word home (Awaits job) Free = IsWork word home job ⊎ IsDone word home job
    Stands word home (Awaits job) (Works same) = (home ≡ plain.none) × (word ≡ 5) × (same ≡ job)
    Stands word home giver worker = ⊥

    -- one seat before the berth is used, then the giver's and the worker's
    abbrev pub AreSeated : ℕ → Home W → List (View W) → Type 0
    AreSeated word home (first ∷ []) = (first ≡ Both) × (home ≡ plain.some None) × (word ≢ 1) × (word ≢ 2)
    AreSeated word home (giver ∷ worker ∷ []) = IsGivers giver × IsWorkers worker × Stands word home giver worker
    AreSeated word home views = ⊥

    -- the rule
    pub record IsBerthed (s : State (Option W) (View W)) : Type 0 where
      pub word : ℕ
      pub home : Home W
      pub words : s.words ≡ word ∷ []
      pub homes : s.homes ≡ home ∷ []
      pub seats : AreSeated word home s.views
