-- Short waits: as a round begins in which nothing is to be mended one begins; where debts come meanwhile the wait becomes a long one.
use Rattle.std.proofs.Common.{◌≡◌, refl, sym, subst, ap, ◌∙◌, ◌⊎◌, inl, inr, ⊎_elim, ℕ, zero, suc, ◌+◌, ◌-◌, ◌<◌, ◌≤◌, arith, List, [], ◌∷◌, ◌++◌, le_refl}
use Rattle.std.proofs.lemmas.Bool.{cases_lt}
use Rattle.path_core.specs.Values.{values}
use Rattle.world_laws.specs.Openings.{PathPlan, Start}
use Rattle.world_laws.specs.RoundDone.{reached}
use Rattle.world_laws.specs.Worlds.{Turn}
use Rattle.whole_paths.specs.Counts.{Counts, spare}
use Rattle.whole_paths.specs.Courses.{round_end}
use Rattle.whole_paths.specs.Debts.{AreMended, AwaitsEither, Beginning, DebtsAreMendedBy, Goes, OwesOnBy, Paid, ShortWaits, long_wait, put_off_by}
use Rattle.whole_paths.specs.Debts.AwaitsEither.{short, long}
use Rattle.whole_paths.specs.Debts.{AwaitsEvent as awaits}
use Rattle.whole_paths.specs.Delivery.{AllIsThere}
use Rattle.whole_paths.specs.GoingOn.{steps_of}
use Rattle.whole_paths.specs.OnePathScripts.{BeginsWithOnePath}
use Rattle.whole_paths.specs.OpenCourses.{IsOpenAfter}
use Rattle.whole_paths.specs.PaidRounds.{AWaitBegins}
use Rattle.whole_paths.specs.ShortWaits.{ExchangesGoOnSo, IsTimed, MakesUnits, UnitsAreAwaited, WaitsForAUnit, WhatIsNotOwedIsWell}
use Rattle.whole_paths.specs.ShortWaits.{IsTimed as times}
use Rattle.whole_paths.specs.SharpCourses as sharp
use Rattle.whole_paths.specs.SharpCourses.{most_units, price, the_course, top, units}
use Rattle.whole_paths.specs.UnitRounds.{WaitsGoOn, WaitsSince, WellRounds}
use Rattle.whole_paths.proofs.Counts.{NextTurn, by_round, by_step, plain_round, plain_step}
use Rattle.whole_paths.proofs.Courses.{round_next, round_step}
use Rattle.whole_paths.proofs.Debts.{sharp_by_debts}
use Rattle.whole_paths.proofs.SegmentsRead.{units_up}
use Rattle.whole_paths.proofs.Unmended.{none_owed}
use Rattle.whole_paths.proofs.UnitRounds.{all_units_are_there, goes_on, unit_so}

module _ (start : Start) (plan : PathPlan) (most : ℕ) (paid count : List Turn → ℕ) (Owes : ℕ → List Turn → Type 0) (Mends : ℕ → ℕ → List Turn → Type 0) (x : BeginsWithOnePath start plan)
    (counts : Counts start paid count) (debts : DebtsAreMendedBy start plan most count Owes Mends long_wait) (makes : MakesUnits start plan Owes) where
  abbrev read : List Turn → ℕ
  read turns = units start plan (reached values start turns)

  abbrev until : List Turn → ℕ
  until turns = round_end values start turns

  abbrev Short : ℕ → ℕ → List Turn → Type 0
  Short = WaitsForAUnit start plan count Owes

  abbrev IsPaidSo : ℕ → List Turn → Type 0
  IsPaidSo = Paid start plan most count Owes Mends Short paid

  abbrev GoesSo : ℕ → ℕ → List Turn → Type 0
  GoesSo = Goes start plan most count Owes Mends Short paid

  abbrev Timed : ℕ → ℕ → List Turn → Type 0
  Timed = IsTimed start plan Owes

  waits : WaitsGoOn start (Owes 0)
  waits = goes_on start (Owes 0)

  -- by one more turn
  module _ (v u : List Turn) (t : NextTurn count most v u) (n by_then : ℕ) (h : Short n by_then v) (owing : OwesOnBy start plan most count Owes h.debts v u) where
    harms_up : count v ≤ count u
    harms_up = t.up

    more_read : read v ≤ read u
    more_read = subst (λ ts. read v ≤ read ts) (sym t.is) (units_up start plan v (t.turn ∷ []))

    left : h.harms + owing.now ≤ count u
    left = let few = h.few in let fewer = owing.few in omega (arith, few, fewer, harms_up)

    -- the same wait goes on
    stays : ((x : ℕ) → by_then ≤ x → Timed h.read x u) → GoesSo n by_then u
    stays timed = inr (record {
      put_off = 0;
      payable = payable;
      waits = short (record {
        harms = h.harms;
        debts = owing.now;
        owes = owing.owes;
        few = left;
        read = h.read;
        so_far = (let so_far = h.so_far in omega (arith, so_far, more_read));
        more = h.more;
        enough = (let enough = h.enough in omega (arith, enough));
        timed = timed (by_then + 0) (omega arith);
      });
    })
      where
        payable : n + 0 ≤ price (most_units start plan) (most + spare)
        payable = let enough = h.enough in let low = t.low in let more = h.more in let few = left in omega (arith, enough, more, few, low)

    -- a unit more pays
    unit_pays : h.read < read u → IsPaidSo n u
    unit_pays more = record { harms = h.harms; mended = record { debts = owing.now; owes = owing.owes; few = left }; enough = (let enough = h.enough in omega (arith, enough, more)) }

  -- ---- steps

  steps : (n by_then : ℕ) (v u : List Turn) → sharp.Stepping start plan paid most v u → Short n by_then v → GoesSo n by_then u
  steps n by_then v u step h = stays v u (by_step start plan x.mild paid count counts most v u step) n by_then h (debts.on h.debts v u (plain_step start plan paid most Owes v u step) h.owes) (λ y later. timed y later h.timed)
    where
      same : until u ≡ until v
      same = ap until step.is ∙ round_step values start v step.actor

      timed : (x : ℕ) → by_then ≤ x → Timed h.read by_then v → Timed h.read x u
      timed x later (times.later soon) = times.later (omega (arith, soon, same, later))
      timed x later (times.since rounds w since few soon low more) =
          times.since rounds w (subst (WaitsSince start (Owes 0) rounds w) (sym step.is) (waits.on rounds w v step.actor since (subst (λ t. IsOpenAfter start t) step.is step.after.is_open))) few (omega (arith, soon, later)) low more

  -- ---- as a round begins

  module _ (v u : List Turn) (step : sharp.Beginning start plan paid most v u) where
    plain : Beginning start plan most Owes v u
    plain = plain_round start plan paid most Owes v u step

    turn : NextTurn count most v u
    turn = by_round start plan x.mild paid count counts most v u step

    next_until : until u ≡ until v + 100
    next_until = ap until step.is ∙ round_next values start v step.over

    module _ (n by_then : ℕ) (h : Short n by_then v) where
      in_time : until v ≤ by_then
      in_time = by h.timed
        where
          by : Timed h.read by_then v → until v ≤ by_then
          by (times.later soon) = omega (arith, soon)
          by (times.since rounds w since few soon low more) = let ends = waits.ends rounds w v since in omega (arith, soon, few, ends)

      owing : OwesOnBy start plan most count Owes h.debts v u
      owing = debts.next h.debts v u plain h.owes

      up : count v ≤ count u
      up = harms_up v u turn n by_then h owing

      read_up : read v ≤ read u
      read_up = more_read v u turn n by_then h owing

      open_after : IsOpenAfter start (v ++ Turn.Round ∷ [])
      open_after = subst (λ t. IsOpenAfter start t) step.is step.after.is_open

      paid_by_unit : h.read < read u → GoesSo n by_then u
      paid_by_unit more = inl (unit_pays v u turn n by_then h owing more)

      goes_still : ((x : ℕ) → by_then ≤ x → Timed h.read x u) → GoesSo n by_then u
      goes_still timed = stays v u turn n by_then h owing timed

      -- without debts the wait for twenty rounds begins, goes on, or ends
      without : Owes 0 v → Timed h.read by_then v → GoesSo n by_then u
      without nothing (times.later soon) = ⊎_elim
          (λ less. goes_still (λ x later. times.since 0 v (subst (λ t. WaitsSince start (Owes 0) 0 v t) (sym step.is) (waits.begins v step.over nothing step.before.is_open open_after)) (omega arith) (omega (arith, soon, later)) h.so_far less))
          (λ all. paid_by_unit (let more = h.more in omega (arith, all, more, read_up)))
          (cases_lt (read v) (most_units start plan))
      without nothing (times.since rounds w since few soon low more) = ⊎_elim
          (λ less. goes_still (λ x later. times.since (suc rounds) w next (omega (arith, less)) (omega (arith, soon, later)) low more))
          (λ all. paid_by_unit (made all))
          (cases_lt rounds 19)
        where
          next : WaitsSince start (Owes 0) (suc rounds) w u
          next = subst (λ t. WaitsSince start (Owes 0) (suc rounds) w t) (sym step.is) (waits.next rounds w v since step.over nothing open_after)

          last_up : read next.last ≤ read u
          last_up = subst (λ t. read next.last ≤ read t) (sym next.is) (units_up start plan next.last (Turn.Round ∷ steps_of next.order))

          made : 19 ≤ rounds → h.read < read u
          made all =
              let as_many : suc rounds ≡ 20 = omega (arith, all, few) in
              ⊎_elim (λ full. absurd (omega (arith, full, more))) (λ up. omega (arith, up, last_up, low)) (makes w next.last (subst (λ k. WellRounds start (Owes 0) k w next.last) as_many next.rounds))

      -- with debts the wait is a long one, or they are paid
      abbrev in_all : ℕ
      in_all = h.harms + h.debts + (count u - count v)

      most_harms : in_all ≤ count u
      most_harms = let few = h.few in omega (arith, few, up)

      settles : 0 < h.debts → (e m : ℕ) → Owes e u → m + e ≡ in_all → h.harms ≤ m → GoesSo n by_then u
      settles some zero m owes all low =
          inl (record { harms = m; mended = record { debts = 0; owes = owes; few = omega (arith, all, most_harms) }; enough = (let enough = h.enough in let so_far = h.so_far in omega (arith, enough, so_far, read_up, all, some)) })
      settles some (suc e) m owes all low = ⊎_elim
          (λ less. settles some e (suc m) less (omega (arith, all)) (omega (arith, low)))
          (λ mends. (let enough = h.enough in let so_far = h.so_far in let more = h.more in let few = turn.low in inr (record {
            put_off = put_off_by;
            payable = omega (arith, enough, more, few, most_harms, some);
            waits = long (record {
              harms = m;
              debts = suc e;
              owes = owes;
              some = omega arith;
              few = omega (arith, all, most_harms);
              event = awaits.now (until v + long_wait) (omega (arith, in_time)) mends;
              early = omega (arith, in_time, next_until);
              enough = omega (arith, enough, so_far, read_up, all, some, low);
            });
          })))
          (debts.begins e v u plain owes)

      opens : GoesSo n by_then u
      opens = by h.debts refl
        where
          by : (d : ℕ) → h.debts ≡ d → GoesSo n by_then u
          by zero nothing = without (subst (λ d. Owes d v) nothing h.owes) h.timed
          by (suc d) some = settles (omega (arith, some)) owing.now (in_all - owing.now) owing.owes (let few = owing.few in omega (arith, few, up)) (let few = owing.few in omega (arith, few, up))

    -- ---- how they begin

    begun : (n : ℕ) → Owes 0 u → IsPaidSo n u → AllIsThere (reached values start u) ⊎ AWaitBegins (the_course start plan paid most (AreMended start plan most count Owes) (AwaitsEither start plan most count Owes Mends Short)) (top start plan paid most) n v u
    begun n owes pays = ⊎_elim
        (λ less. (let few = pays.mended.few in let enough = pays.enough in let low = turn.low in inr (record {
          within = 2200;
          payable = omega (arith, few, enough, low, less);
          waits = short (record {
            harms = pays.harms;
            debts = 0;
            owes = owes;
            few = omega (arith, few);
            read = read u;
            so_far = le_refl (read u);
            more = less;
            enough = omega (arith, enough);
            timed = times.later (omega (arith, next_until));
          });
        })))
        (λ all. inl (all_units_are_there start plan u x.mild all))
        (cases_lt (read u) (most_units start plan))

  pub short_waits : ShortWaits start plan most count Owes Mends Short paid
  short_waits = record {
    on = λ n by_then v u step h. steps n by_then v u step h;
    next = λ n by_then v u step h. opens v u step n by_then h;
    due = λ n by_then v u step h late. absurd (let low = in_time v u step n by_then h in omega (arith, low, late));
    begins = λ n v u step owes pays. begun v u step n owes pays;
  }

pub units_are_awaited : UnitsAreAwaited
units_are_awaited start plan most paid count Owes Mends x counts debts makes = short_waits start plan most paid count Owes Mends x counts debts makes

pub exchanges_go_on_so : ExchangesGoOnSo
exchanges_go_on_so start plan most paid count Owes Mends x counts debts well hears = sharp_by_debts start plan most paid count Owes Mends (WaitsForAUnit start plan count Owes) x.mild counts debts
    (short_waits start plan most paid count Owes Mends x counts debts (λ v u rounds. unit_so start plan x (Owes 0) well hears v u rounds))

-- ---- where nothing is owed

pub what_is_not_owed_is_well : WhatIsNotOwedIsWell
what_is_not_owed_is_well start turns h s = record { path = h.path; here = h.here; records = (none_owed h.path h.owes).records s; told = inl ((none_owed h.path h.owes).told s) }
