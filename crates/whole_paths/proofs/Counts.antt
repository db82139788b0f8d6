-- A count that counts harms never falls; and events that last count as harms do.
use Rattle.std.proofs.Common.{◌≡◌, refl, sym, subst, ap, ⊎_elim, inl, inr, ℕ, ◌+◌, ◌≤◌, arith, Bool, true, false, List, [], ◌∷◌, ◌++◌}
use Rattle.path_core.specs.Values.{values}
use Rattle.world_laws.specs.Openings.{PathPlan, Start, opened_world}
use Rattle.world_laws.specs.Worlds.{Turn}
use Rattle.whole_paths.specs.Counts.{Counts, CountsAsMuch, Lasts, spare}
use Rattle.whole_paths.specs.Courses.{harmed_so_far, round_end}
use Rattle.whole_paths.specs.Debts.{Beginning, DebtsAreFewByMore, DebtsAreMendedBy, DebtsAreMendedByMore, MendsOnBy, MendsSoon, OwesOnBy, Stepping}
use Rattle.whole_paths.specs.Debts.MendsOnBy.{quiet, fewer, harmed}
use Rattle.whole_paths.specs.Mending.{IsBegunTurn}
use Rattle.whole_paths.specs.Mild.{IsMildStart}
use Rattle.whole_paths.specs.News.{one_if}
use Rattle.whole_paths.specs.OpenCourses.{IsOpenAfter}
use Rattle.whole_paths.specs.SharpCourses as sharp
use Rattle.whole_paths.specs.SharpCourses.{IsOpenWithin}
use Rattle.whole_paths.proofs.Courses.{harmed_append}
use Rattle.whole_paths.proofs.OpenTurns.{begun}

pub one_at_most : (b : Bool) → one_if b ≤ 1
one_at_most true = omega arith
one_at_most false = omega arith

module _ (start : Start) where
  pub harms_up : (turns : List Turn) (turn : Turn) → harmed_so_far values start turns ≤ harmed_so_far values start (turns ++ turn ∷ [])
  harms_up turns turn = harmed_append values 0 turns (turn ∷ []) (opened_world start)

  -- between open moments
  module _ (mild : IsMildStart start) (v u : List Turn) (turn : Turn) (is : u ≡ v ++ turn ∷ []) (before : IsOpenAfter start v) (after : IsOpenAfter start u) where
    this_turn : IsBegunTurn start v turn
    this_turn = begun start v turn (record { mild = mild; before = before; after = subst (IsOpenAfter start) is after })

    pub rises_so : (count more : List Turn → ℕ) → CountsAsMuch start count more → more v + count u ≤ more u + count v
    rises_so count more much = subst (λ t. more v + count t ≤ more t + count v) (sym is) (much.rises v turn this_turn)

    pub counted_up : (count : List Turn → ℕ) → CountsAsMuch start (harmed_so_far values start) count → count v ≤ count u
    counted_up count harms =
        let rises = rises_so (harmed_so_far values start) count harms in
        let up = subst (λ t. harmed_so_far values start v ≤ harmed_so_far values start t) (sym is) (harms_up v turn) in omega (arith, rises, up)

  -- ---- one count after another

  pub counts_itself : (count : List Turn → ℕ) → CountsAsMuch start count count
  counts_itself count = record { covers = λ turns. omega arith; rises = λ turns turn h. omega arith }

  pub counts_through : (count more most : List Turn → ℕ) → CountsAsMuch start count more → CountsAsMuch start more most → CountsAsMuch start count most
  counts_through count more most first second = record {
    covers = λ turns. (let low = first.covers turns in let high = second.covers turns in omega (arith, low, high));
    rises = λ turns turn h. (let low = first.rises turns turn h in let high = second.rises turns turn h in omega (arith, low, high));
  }

  -- ---- events

  pub event_up : (event : List Turn → Bool) → Lasts start event → (turns : List Turn) (turn : Turn) → IsBegunTurn start turns turn → one_if (event turns) ≤ one_if (event (turns ++ turn ∷ []))
  event_up event lasts turns turn h = by (event turns) refl
    where
      by : (b : Bool) → event turns ≡ b → one_if b ≤ one_if (event (turns ++ turn ∷ []))
      by true came = (let still = ap one_if (lasts turns turn h came) in omega (arith, still))
      by false none = omega arith

-- ---- a turn between open moments

pub record NextTurn (count : List Turn → ℕ) (most : ℕ) (v u : List Turn) : Type 0 where
  pub turn : Turn
  pub is : u ≡ v ++ turn ∷ []
  pub up : count v ≤ count u
  pub low : count u ≤ most + spare

module _ (start : Start) (plan : PathPlan) (mild : IsMildStart start) (paid count : List Turn → ℕ) (counts : Counts start paid count) (most : ℕ) (v u : List Turn) where
  next_so : (turn : Turn) → u ≡ v ++ turn ∷ [] → IsOpenWithin start paid most v → IsOpenWithin start paid most u → NextTurn count most v u
  next_so turn is before after = record {
    turn = turn;
    is = is;
    up = counted_up start mild v u turn is before.is_open after.is_open count counts.harms;
    low = (let few = counts.few u in let low = after.few in omega (arith, few, low));
  }

  pub by_step : sharp.Stepping start plan paid most v u → NextTurn count most v u
  by_step step = next_so (Turn.Step step.actor) step.is step.before step.after

  pub by_round : sharp.Beginning start plan paid most v u → NextTurn count most v u
  by_round step = next_so Turn.Round step.is step.before step.after

-- what is said of open moments
module _ (start : Start) (plan : PathPlan) (paid : List Turn → ℕ) (most : ℕ) (Owes : ℕ → List Turn → Type 0) (v u : List Turn) where
  pub plain_step : sharp.Stepping start plan paid most v u → Stepping start plan most Owes v u
  plain_step step = record { actor = step.actor; is = step.is; few = step.few; before = step.before.is_open; after = step.after.is_open }

  pub plain_round : sharp.Beginning start plan paid most v u → Beginning start plan most Owes v u
  plain_round step = record { over = step.over; is = step.is; few = step.few; before = step.before.is_open; after = step.after.is_open }

-- ---- debts by more

pub owes_so : (start : Start) (plan : PathPlan) (most : ℕ) (count more : List Turn → ℕ) (Owes : ℕ → List Turn → Type 0) (d : ℕ) (v u : List Turn) → more v + count u ≤ more u + count v
    → OwesOnBy start plan most count Owes d v u → OwesOnBy start plan most more Owes d v u
owes_so start plan most count more Owes d v u rises h = record { now = h.now; owes = h.owes; few = (let few = h.few in omega (arith, few, rises)) }

module _ (start : Start) (plan : PathPlan) (most within longer : ℕ) (count more : List Turn → ℕ) (Owes : ℕ → List Turn → Type 0) (Mends : ℕ → ℕ → List Turn → Type 0)
    (mild : IsMildStart start) (much : CountsAsMuch start count more) (low : within ≤ longer) (debts : DebtsAreMendedBy start plan most count Owes Mends within) where
  mends_so : (d by_then x : ℕ) (v u : List Turn) → by_then ≤ x → more v + count u ≤ more u + count v → MendsOnBy start plan most count Owes Mends d by_then v u
      → MendsOnBy start plan most more Owes (MendsSoon Mends) d x v u
  mends_so d by_then x v u early rises (quiet m) = quiet (by_then, early, m)
  mends_so d by_then x v u early rises (fewer now owes less) = fewer now owes (omega (arith, less, rises))
  mends_so d by_then x v u early rises (harmed owing up) = harmed (owes_so start plan most count more Owes d v u rises owing) (omega (arith, up, rises))

  rises_by : (v u : List Turn) (turn : Turn) → u ≡ v ++ turn ∷ [] → IsOpenAfter start v → IsOpenAfter start u → more v + count u ≤ more u + count v
  rises_by v u turn is before after = rises_so start mild v u turn is before after count more much

  by_more : DebtsAreMendedBy start plan most more Owes (MendsSoon Mends) longer
  by_more = record {
    on = λ d v u step h. owes_so start plan most count more Owes d v u (rises_by v u (Turn.Step step.actor) step.is step.before step.after) (debts.on d v u step h);
    next = λ d v u step h. owes_so start plan most count more Owes d v u (rises_by v u Turn.Round step.is step.before step.after) (debts.next d v u step h);
    owing = λ d x turns m. debts.owing d m.0 turns m.2;
    mends_on = λ d x v u step m. mends_so d m.0 x v u m.1 (rises_by v u (Turn.Step step.actor) step.is step.before step.after) (debts.mends_on d m.0 v u step m.2);
    mends_next = λ d x v u step m. mends_so d m.0 x v u m.1 (rises_by v u Turn.Round step.is step.before step.after) (debts.mends_next d m.0 v u step m.2);
    in_time = λ d x v u step m. (let on_time = debts.in_time d m.0 v u step m.2 in let soon = m.1 in omega (arith, on_time, soon));
    begins = λ d v u step h. ⊎_elim (λ less. inl less) (λ m. inr (round_end values start v + within, omega (arith, low), m)) (debts.begins d v u step h);
  }

pub debts_are_mended_by_more : DebtsAreMendedByMore
debts_are_mended_by_more start plan most within longer count more Owes Mends mild much low debts = by_more start plan most within longer count more Owes Mends mild much low debts

pub debts_are_few_by_more : DebtsAreFewByMore
debts_are_few_by_more start plan most count more Owes much few turns now =
    let k = few turns now in record { debts = k.debts; owes = k.owes; few = (let low = k.few in let covers = much.covers turns in omega (arith, low, covers)) }
