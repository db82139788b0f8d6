-- Along a direction debts are mended: by each turn a wait goes on, there is one debt less, or a segment was harmed.
use Rattle.std.proofs.Common.{◌≡◌, refl, sym, subst, ap, ◌∙◌, ◌⊎◌, inl, inr, ⊎_elim, ℕ, suc, ◌+◌, ◌<◌, ◌≤◌, arith, le_refl, Bool, true, false, List, [], ◌∷◌, ◌++◌, length}
use Rattle.std.proofs.lemmas.Bool.{cases_lt}
use Rattle.sides.specs.declared.side.Side.{Side}
use Rattle.sides.specs.Side.{peer}
use Rattle.stream_lanes.specs.Words.{Has}
use Rattle.subflow_send.specs.Records.{Record}
use Rattle.subflow_tcp.specs.State.{is_fin_passed}
use Rattle.path_core.specs.State.{PathState, end_at}
use Rattle.path_core.specs.Values.{Carried, values}
use Rattle.world_laws.specs.Openings.{PathPlan, Start}
use Rattle.world_laws.specs.RoundDone.{reached}
use Rattle.world_laws.specs.Worlds.{Turn}
use Rattle.whole_paths.specs.Courses.{harmed_so_far, round_end}
use Rattle.whole_paths.specs.Debts.{Beginning, DebtsAreMended, MendsOn, OwesOn, Stepping, one_timeout}
use Rattle.whole_paths.specs.Debts.MendsOnBy.{quiet, fewer, harmed}
use Rattle.whole_paths.specs.Delivery.{IsAllThere}
use Rattle.whole_paths.specs.DirectionWaits.{ArePassedWhole, DebtsAreMendedUnlessMoreIsHeard, DirectionsAreMended, DirectionsAreMendedUnlessMoreIsHeard, HearsMore, HearsSoon, IsLevel, MendsAlong, MendsAlongBy, MendsInTurn, MendsThese, NumbersAgree}
use Rattle.whole_paths.specs.DirectionWaits.{HearsSoon as hears, MendsInTurn as in_turn, MendsThese as these_mend}
use Rattle.whole_paths.specs.Directions.{AreHeardBut, OwesAlong, OwesThese, Owing}
use Rattle.whole_paths.specs.Directions.{Owing as owing}
use Rattle.whole_paths.specs.Finish.{IsPathAt, is_harmed}
use Rattle.whole_paths.specs.Mending.{IsOpenTurn, IsToldSoon, IsWell}
use Rattle.whole_paths.specs.Mending.{IsToldSoon as told_soon}
use Rattle.whole_paths.specs.News.{one_if}
use Rattle.whole_paths.specs.OctetsPassed.{ComesUpTo, ComesUpToLost}
use Rattle.whole_paths.specs.OctetsPassed.{ComesUpToLost as up_to_lost}
use Rattle.whole_paths.specs.OnePathScripts.{BeginsWithOnePath}
use Rattle.whole_paths.specs.OpenCourses.{IsOpenAfter}
use Rattle.whole_paths.specs.RecordsPassed.{ComesInTime}
use Rattle.whole_paths.specs.RecordsPassed.{ComesInTime as in_time}
use Rattle.whole_paths.specs.Unmended.{AreWellBut}
use Rattle.whole_paths.proofs.Courses.{round_next, round_step}
use Rattle.whole_paths.proofs.Delivery.{what_is_there_stays}
use Rattle.whole_paths.proofs.DirectionRounds as rounds
use Rattle.whole_paths.proofs.DirectionRounds.{GoesOn as goes_on, MendsLater as later_on}
use Rattle.whole_paths.proofs.DirectionTurns as turned
use Rattle.whole_paths.proofs.DirectionTurns.{Goes as goes, MendsOnSo as mends_so}
use Rattle.whole_paths.proofs.DirectionTurns.{OwesFewer, heard_less, told_lower}
use Rattle.whole_paths.proofs.Directions.{directions_go_on, harms_so, past_is_there, these_stay}
use Rattle.whole_paths.proofs.Flying.{same_record}
use Rattle.whole_paths.proofs.Losing.{there_so}
use Rattle.whole_paths.proofs.NumbersAgree.{numbers_always_agree, records_are_passed_whole}
use Rattle.whole_paths.proofs.RecordWaits.{path_is}
use Rattle.whole_paths.proofs.RoundSteps.{early}
use Rattle.whole_paths.proofs.ToldStays.{told_later}
use Rattle.whole_paths.proofs.WellOctets.{all_comes_up_to_lost}
use Rattle.whole_paths.proofs.OpenTurns.{begun}
use Rattle.whole_paths.proofs.WindowRoom.{one_path_is_roomy}
use Rattle.whole_paths.specs.WindowRoom.{IsRoomy}

-- what comes up to a position by a tick does so by a later one
comes_up_later : (s : Side) (last before later : ℕ) (p : PathState Carried) → before ≤ later → ComesUpTo s last before p → ComesUpTo s last later p
comes_up_later s last before later p low comes pos few = ⊎_elim (λ below. inl below) (λ is. inr (record { one = is.one; data_is = is.data_is; begins = is.begins; ends = is.ends; comes = by is.comes })) (comes pos few)
  where
    by : {r : Record} → ComesInTime s r before p → ComesInTime s r later p
    by (in_time.acknowledged reaches) = in_time.acknowledged reaches
    by (in_time.comes t is_one same soon) = in_time.comes t is_one same (there_so s t t (same_record t) p before later low soon)

-- Heard: what may be heard meanwhile, by which the wait is put off
module _ (start : Start) (plan : PathPlan) (most : ℕ) (s : Side) (roomy : IsRoomy start) (Level : PathState Carried → Type 0) (Heard : List Turn → List Turn → Type 0) (whole_ones : ArePassedWhole start s)
    (level_on : (y z : PathState Carried) → Level y → (end_at s z).tcp.send.una ≤ (end_at s y).tcp.send.una → (end_at s y).sending.heard ≤ (end_at s z).sending.heard → Level z)
    (enters : (turns : List Turn) (h : IsOpenAfter start turns) → h.path.agenda ≡ [] → IsAllThere s (reached values start turns) ⊎ Level h.path)
    (hears_so : (turns : List Turn) (turn : Turn) (before : IsOpenAfter start turns) (after : IsOpenAfter start (turns ++ turn ∷ [])) → Level before.path
    → (end_at s after.path).tcp.send.una ≤ (end_at s before.path).tcp.send.una → (end_at s before.path).sending.heard < (end_at s after.path).sending.heard
    → IsAllThere s (reached values start (turns ++ turn ∷ [])) ⊎ Heard turns (turns ++ turn ∷ [])) where
  abbrev Along : ℕ → List Turn → Type 0
  Along = OwesAlong start s

  abbrev Waits : ℕ → ℕ → List Turn → Type 0
  Waits = MendsAlongBy Level start s

  abbrev On : ℕ → ℕ → List Turn → List Turn → Type 0
  On debts x v u = MendsOn start plan most Along Waits debts x v u ⊎ Heard v u

  abbrev harms : List Turn → ℕ
  harms turns = harmed_so_far values start turns

  abbrev until : List Turn → ℕ
  until turns = round_end values start turns

  owed : (debts x : ℕ) (turns : List Turn) → Waits debts x turns → Along debts turns
  owed debts x turns m = record { path = m.path; here = m.here; owing = by m.mends }
    where
      by : MendsThese Level s debts x (until turns) m.path → Owing s debts m.path (reached values start turns)
      by (these_mend.hears lost unheard these few stage) = owing.these lost unheard these few
      by (these_mend.mends lost these few stage) = owing.these lost [] these (omega (arith, few))

  of_fewer : (debts : ℕ) (turns : List Turn) (p : PathState Carried) → IsPathAt 0 (reached values start turns) p → (f : OwesFewer s debts p) → Along (length f.lost + length f.unheard) turns
  of_fewer debts turns p here f = record { path = p; here = here; owing = owing.these f.lost f.unheard f.these (le_refl (length f.lost + length f.unheard)) }

  of_all : (turns : List Turn) (p : PathState Carried) → IsPathAt 0 (reached values start turns) p → IsAllThere s (reached values start turns) → Along 0 turns
  of_all turns p here all = record { path = p; here = here; owing = owing.all_there all }

  -- ---- a turn

  module _ (turns : List Turn) (turn : Turn) (before : IsOpenAfter start turns) (after : IsOpenAfter start (turns ++ turn ∷ [])) (debts x : ℕ) (some : 0 < debts) where
    abbrev p : PathState Carried
    p = before.path

    abbrev q : PathState Carried
    q = after.path

    abbrev later : List Turn
    later = turns ++ turn ∷ []

    abbrev open_turn : IsOpenTurn start turns turn
    open_turn = record { mild = roomy.mild; before = before; after = after }

    in_round : q.clock ≤ until later
    in_round = let low = early start later q after.here in omega (arith, low)

    counted : harms later ≡ harms turns + (one_if (is_harmed s p q) + one_if (is_harmed (peer s) p q))
    counted = harms_so start roomy turns turn (begun start turns turn open_turn) s

    -- no segment is harmed, and the peer isn't past the FIN
    module _ (none : is_harmed s p q ≡ false) (none_back : is_harmed (peer s) p q ≡ false) (unpast : is_fin_passed (end_at (peer s) p).tcp ≡ false) where
      same_count : harms later ≡ harms turns
      same_count = let is = counted in let own = ap one_if none in let away = ap one_if none_back in omega (arith, is, own, away)

      all_then : IsAllThere s (reached values start later) → On debts x turns later
      all_then all = inl (fewer 0 (of_all later q after.here all) (let same = same_count in omega (arith, some, same)))

      fewer_then : (n : ℕ) → n ≤ debts → OwesFewer s n q → On debts x turns later
      fewer_then n low f = inl (fewer (length f.lost + length f.unheard) (of_fewer n later q after.here f) (let few = f.few in let same = same_count in omega (arith, few, low, same)))

      hears_then : (lost unheard : List ℕ) → OwesThese s lost unheard p → length lost + length unheard ≤ debts → HearsSoon Level s unheard x (until later) p → On debts x turns later
      hears_then lost unheard these few stage = by (turned.hears_on start roomy turns turn open_turn s Level whole_ones level_on unpast none none_back x (until later) in_round lost unheard still stage)
        where
          still : OwesThese s lost unheard q
          still = these_stay start roomy turns turn (begun start turns turn open_turn) s unpast none none_back lost unheard these

          by : turned.Goes start roomy turns turn open_turn s Level whole_ones level_on unpast none none_back x (until later) in_round lost unheard still → On debts x turns later
          by (goes.on more) = inl (quiet (record { path = q; here = after.here; some = some; mends = these_mend.hears lost unheard still few more }))
          by (goes.fewer f) = fewer_then (length lost + length unheard) few f
          by (goes.all_there all) = all_then all
          by (goes.hears_more level same more) = ⊎_elim all_then (λ heard. inr heard) (hears_so turns turn before after level same more)

      mends_then : (lost : List ℕ) → OwesThese s lost [] p → length lost ≤ debts → MendsInTurn Level s lost x (until later) p → On debts x turns later
      mends_then lost these few stage = by (turned.mends_on start roomy turns turn open_turn s Level whole_ones level_on unpast none none_back x (until later) in_round lost still stage)
        where
          still : OwesThese s lost [] q
          still = these_stay start roomy turns turn (begun start turns turn open_turn) s unpast none none_back lost [] these

          by : turned.MendsOnSo start roomy turns turn open_turn s Level whole_ones level_on unpast none none_back x (until later) in_round lost still → On debts x turns later
          by (mends_so.goes_on_so more) = inl (quiet (record { path = q; here = after.here; some = some; mends = these_mend.mends lost still few more }))
          by (mends_so.less f) = fewer_then (length lost + 0) (omega (arith, few)) f
          by (mends_so.whole all) = all_then all
          by (mends_so.heard_more level same more) = ⊎_elim all_then (λ heard. inr heard) (hears_so turns turn before after level same more)

      these_then : MendsThese Level s debts x (until later) p → On debts x turns later
      these_then (these_mend.hears lost unheard these few stage) = hears_then lost unheard these few stage
      these_then (these_mend.mends lost these few stage) = mends_then lost these few stage

    by_turn : OwesOn start plan most Along debts turns later → MendsThese Level s debts x (until later) p → On debts x turns later
    by_turn owes stage = by (is_harmed s p q) (is_harmed (peer s) p q) refl refl
      where
        is_past : is_fin_passed (end_at (peer s) p).tcp ≡ true → is_harmed s p q ≡ false → is_harmed (peer s) p q ≡ false → On debts x turns later
        is_past past none none_back = inl (fewer 0
            (record { path = q; here = after.here; owing = owing.all_there (what_is_there_stays start turns (turn ∷ []) roomy.mild s (past_is_there start roomy.mild turns p before.here s before.is_open past)) })
            (let is = counted in omega (arith, some, is)))

        unharmed : (b : Bool) → is_fin_passed (end_at (peer s) p).tcp ≡ b → is_harmed s p q ≡ false → is_harmed (peer s) p q ≡ false → On debts x turns later
        unharmed true past none none_back = is_past past none none_back
        unharmed false unpast none none_back = these_then none none_back unpast stage

        by : (b c : Bool) → is_harmed s p q ≡ b → is_harmed (peer s) p q ≡ c → On debts x turns later
        by true c own away = inl (harmed owes (let is = counted in let one_more = ap one_if own in omega (arith, is, one_more)))
        by false true own away = inl (harmed owes (let is = counted in let one_more = ap one_if away in omega (arith, is, one_more)))
        by false false own away = unharmed (is_fin_passed (end_at (peer s) p).tcp) refl own away

  -- ---- steps

  steps : (debts x : ℕ) (v u : List Turn) → Stepping start plan most Along v u → Waits debts x v → On debts x v u
  steps debts x v u step m = subst (λ t. On debts x v t) (sym step.is) (by_turn v (Turn.Step step.actor) step.before after debts x m.some owes
      (subst (λ n. MendsThese Level s debts x n step.before.path) (sym (round_step values start v step.actor)) (subst (MendsThese Level s debts x (until v)) (path_is (reached values start v) m.path step.before.path m.here step.before.here) m.mends)))
    where
      after : IsOpenAfter start (v ++ Turn.Step step.actor ∷ [])
      after = subst (IsOpenAfter start) step.is step.after

      owes : OwesOn start plan most Along debts v (v ++ Turn.Step step.actor ∷ [])
      owes = subst (λ t. OwesOn start plan most Along debts v t) step.is (directions_go_on start plan most s debts v u roomy (inl step) (owed debts x v m))

  -- ---- as a round begins

  module _ (v u : List Turn) (step : Beginning start plan most Along v u) where
    abbrev next : List Turn
    next = v ++ Turn.Round ∷ []

    after_next : IsOpenAfter start next
    after_next = subst (IsOpenAfter start) step.is step.after

    later_end : until next ≡ until v + 100
    later_end = round_next values start v step.over

    go_on : (debts : ℕ) → Along debts v → OwesOn start plan most Along debts v u
    go_on debts h = directions_go_on start plan most s debts v u roomy (inr step) h

    -- fewer before the round
    less : (debts x : ℕ) (now : ℕ) → now < debts → Along now v → On debts x v u
    less debts x now low h = let owes = go_on now h in inl (fewer owes.now owes.owes (let few = owes.few in omega (arith, few, low)))

    opens : (debts x : ℕ) → Waits debts x v → On debts x v u
    opens debts x m = by (subst (MendsThese Level s debts x (until v)) (path_is (reached values start v) m.path step.before.path m.here step.before.here) m.mends)
      where
        later_stage : MendsThese Level s debts x (until v + 100) step.before.path → On debts x v u
        later_stage stage = subst (λ t. On debts x v t) (sym step.is) (by_turn v Turn.Round step.before after_next debts x m.some
            (subst (λ t. OwesOn start plan most Along debts v t) step.is (go_on debts (owed debts x v m))) (subst (λ n. MendsThese Level s debts x n step.before.path) (sym later_end) stage))

        all_before : IsAllThere s (reached values start v) → On debts x v u
        all_before all = less debts x 0 m.some (of_all v step.before.path step.before.here all)

        fewer_before : (n : ℕ) → n ≤ debts → OwesFewer s n step.before.path → On debts x v u
        fewer_before n low f = less debts x (length f.lost + length f.unheard) (let few = f.few in omega (arith, few, low)) (of_fewer n v step.before.path step.before.here f)

        by : MendsThese Level s debts x (until v) step.before.path → On debts x v u
        by (these_mend.hears lost unheard these few stage) = of_hears (rounds.hears_later start roomy.mild v step.over step.before s Level (enters v step.before) x lost unheard these stage)
          where
            of_hears : rounds.GoesOn start roomy.mild v step.over step.before s Level (enters v step.before) x lost unheard these → On debts x v u
            of_hears (goes_on.on more) = later_stage (these_mend.hears lost unheard these few more)
            of_hears (goes_on.fewer f) = fewer_before (length lost + length unheard) few f
            of_hears (goes_on.all_there all) = all_before all
        by (these_mend.mends lost these few stage) = of_mends (rounds.mends_then start roomy.mild v step.over step.before s Level (enters v step.before) x lost these stage)
          where
            of_mends : rounds.MendsLater start roomy.mild v step.over step.before s Level (enters v step.before) x lost these → On debts x v u
            of_mends (later_on.mends_later more) = later_stage (these_mend.mends lost these few more)
            of_mends (later_on.less f) = fewer_before (length lost + 0) (omega (arith, few)) f
            of_mends (later_on.whole all) = all_before all

    on_time : (debts x : ℕ) → Waits debts x v → until v ≤ x
    on_time debts x m = by (subst (MendsThese Level s debts x (until v)) (path_is (reached values start v) m.path step.before.path m.here step.before.here) m.mends)
      where
        by : MendsThese Level s debts x (until v) step.before.path → until v ≤ x
        by (these_mend.hears lost unheard these few stage) = rounds.hears_in_time start roomy.mild v step.over step.before s Level (enters v step.before) x lost unheard these stage
        by (these_mend.mends lost these few stage) = rounds.mends_in_time start roomy.mild v step.over step.before s Level (enters v step.before) x lost these stage

    -- ---- how waits begin

    module _ (debts : ℕ) where
      abbrev by_tick : ℕ
      by_tick = until v + one_timeout

      abbrev Begins : Type 0
      Begins = Along debts u ⊎ Waits (suc debts) by_tick u

      abbrev r : PathState Carried
      r = step.after.path

      until_u : until u ≡ until v + 100
      until_u = ap until step.is ∙ later_end

      clock_low : r.clock < until v + 100
      clock_low = let low = early start u r step.after.here in let is = until_u in omega (arith, low, is)

      all_now : IsAllThere s (reached values start u) → Begins
      all_now all = inl (record { path = r; here = step.after.here; owing = owing.all_there all })

      fewer_now : (n : ℕ) → n ≤ suc debts → OwesFewer s n r → Begins
      fewer_now n low f = inl (record { path = r; here = step.after.here; owing = owing.these f.lost f.unheard f.these (let few = f.few in omega (arith, few, low)) })

      waits_now : MendsThese Level s (suc debts) by_tick (until u) r → Begins
      waits_now m = inr (record { path = r; here = step.after.here; some = omega arith; mends = m })

      module _ (lost unheard : List ℕ) (these : OwesThese s lost unheard r) (few : length lost + length unheard ≤ suc debts) where
        abbrev una : ℕ
        una = (end_at s r).tcp.send.una

        abbrev edge : ℕ
        edge = (end_at (peer s) r).tcp.recv.edge

        hears_now : HearsSoon Level s unheard by_tick (until u) r → Begins
        hears_now stage = waits_now (these_mend.hears lost unheard these few stage)

        unless_heard : (n : ℕ) → Has (λ m. m ≡ n) unheard → (una < n → Begins) → Begins
        unless_heard n among then_so = ⊎_elim then_so (λ reaches. fewer_now (length lost + length unheard) few (heard_less s lost unheard r these n among reaches)) (cases_lt una n)

        -- the end is told soon
        soon_told : (n : ℕ) → Has (λ m. m ≡ n) unheard → n ≤ edge → IsToldSoon s r → Begins
        soon_told n among low (told_soon.past_fin past) = all_now (past_is_there start roomy.mild u r step.after.here s step.after.is_open past)
        soon_told n among low (told_soon.owed due) = unless_heard n among (λ behind. hears_now (hears.owes n among behind low (let is = until_u in omega (arith, is)) due))
        soon_told n among low (told_soon.told told) = unless_heard n among (λ behind. hears_now (hears.comes n among behind (r.clock + 400) (let early_now = clock_low in omega (arith, early_now)) (told_lower s n edge (r.clock + 400) r low told)))

        -- or not
        not_told : Has (λ n. n ≡ edge) unheard → Begins
        not_told among = unless_heard edge among (λ behind. hears_now (hears.settles (record { behind = behind; among = among }) (until v + 500) (omega arith) (let is = until_u in omega (arith, is)) heard))
          where
            heard : AreHeardBut s unheard (until v + 500) r
            heard f n under to rst acks = ⊎_elim (λ told. inl (told_later s n (r.clock + 400) (until v + 500) r (let early_now = clock_low in omega (arith, early_now)) told)) (λ has. inr has) (these.told.heard f n under to rst acks)

      -- nothing is unheard
      module _ (lost : List ℕ) (these : OwesThese s lost [] r) (few : length lost ≤ suc debts) where
        mends_now : ComesUpToLost s lost r → Begins
        mends_now (up_to_lost.none well) = inl (record { path = r; here = step.after.here; owing = owing.these [] [] (record { well = all_well; told = these.told }) (omega arith) })
          where
            all_well : AreWellBut s [] r
            all_well t is_one = inl (subst (IsWell s r) is_one.holds (well.each is_one.at is_one.item is_one.there))
        mends_now (up_to_lost.up_to t is_one data_is sent among comes) = waits_now (these_mend.mends lost these few (in_turn.comes t.pos among (until v + 500) (omega arith) (let is = until_u in omega (arith, is))
            (comes_up_later s t.pos (r.clock + 400) (until v + 500) r (let early_now = clock_low in omega (arith, early_now)) comes)))

        lost_now : Begins
        lost_now = mends_now (all_comes_up_to_lost start u roomy.mild step.after s lost these.well)

      begins_with : Owing s (suc debts) r (reached values start u) → Begins
      begins_with (owing.all_there all) = all_now all
      begins_with (owing.these lost [] these few) = lost_now lost these (omega (arith, few))
      begins_with (owing.these lost (n ∷ ns) these few) = ⊎_elim
          (λ soon. soon_told lost (n ∷ ns) these few n (record { at = 0; item = n; there = refl; holds = refl }) (these.told.low.each 0 n refl) soon)
          (λ among. not_told lost (n ∷ ns) these few among)
          these.told.told

      begins_now : Along (suc debts) u → Begins
      begins_now h = begins_with (subst (λ z. Owing s (suc debts) z (reached values start u)) (path_is (reached values start u) h.path r h.here step.after.here) h.owing)

-- ---- over one path

module _ (start : Start) (plan : PathPlan) (most : ℕ) (s : Side) (one : BeginsWithOnePath start plan) (agree : NumbersAgree start s) where
  level_stays : (y z : PathState Carried) → IsLevel s y → (end_at s z).tcp.send.una ≤ (end_at s y).tcp.send.una → (end_at s y).sending.heard ≤ (end_at s z).sending.heard → IsLevel s z
  level_stays y z level same up = omega (arith, level, same, up)

  -- nothing more is heard
  never_hears : (turns : List Turn) (turn : Turn) (before : IsOpenAfter start turns) (after : IsOpenAfter start (turns ++ turn ∷ [])) → IsLevel s before.path
      → (end_at s after.path).tcp.send.una ≤ (end_at s before.path).tcp.send.una → (end_at s before.path).sending.heard < (end_at s after.path).sending.heard
      → IsAllThere s (reached values start (turns ++ turn ∷ [])) ⊎ ⊥
  never_hears turns turn before after level same more = ⊎_elim (λ all. inl all) (λ below. absurd (omega (arith, level, more, below, same))) (agree.below (turns ++ turn ∷ []) after)

  abbrev Nothing : List Turn → List Turn → Type 0
  Nothing v u = ⊥

  alone : (debts x : ℕ) (v u : List Turn) → MendsOn start plan most (OwesAlong start s) (MendsAlong start s) debts x v u ⊎ ⊥ → MendsOn start plan most (OwesAlong start s) (MendsAlong start s) debts x v u
  alone debts x v u h = ⊎_elim (λ on. on) (λ never. absurd never) h

  pub along_mended : DebtsAreMended start plan most (OwesAlong start s) (MendsAlong start s)
  along_mended =
      record {
        on = λ debts v u step h. directions_go_on start plan most s debts v u (one_path_is_roomy start plan one) (inl step) h;
        next = λ debts v u step h. directions_go_on start plan most s debts v u (one_path_is_roomy start plan one) (inr step) h;
        owing = owed start plan most s (one_path_is_roomy start plan one) (IsLevel s) Nothing agree.whole level_stays agree.level never_hears;
        mends_on = λ debts x v u step m. alone debts x v u (steps start plan most s (one_path_is_roomy start plan one) (IsLevel s) Nothing agree.whole level_stays agree.level never_hears debts x v u step m);
        mends_next = λ debts x v u step m. alone debts x v u (opens start plan most s (one_path_is_roomy start plan one) (IsLevel s) Nothing agree.whole level_stays agree.level never_hears v u step debts x m);
        in_time = λ debts x v u step m. on_time start plan most s (one_path_is_roomy start plan one) (IsLevel s) Nothing agree.whole level_stays agree.level never_hears v u step debts x m;
        begins = λ debts v u step h. begins_now start plan most s (one_path_is_roomy start plan one) (IsLevel s) Nothing agree.whole level_stays agree.level never_hears v u step debts h;
      }

pub directions_are_mended : DirectionsAreMended
directions_are_mended start plan most s one = along_mended start plan most s one (numbers_always_agree start plan s one)

-- ---- over any number of paths

module _ (start : Start) (plan : PathPlan) (most : ℕ) (s : Side) (roomy : IsRoomy start) where
  abbrev Any : PathState Carried → Type 0
  Any p = Unit {0}

  any_on : (y z : PathState Carried) → Any y → (end_at s z).tcp.send.una ≤ (end_at s y).tcp.send.una → (end_at s y).sending.heard ≤ (end_at s z).sending.heard → Any z
  any_on y z h same up = tt

  any_enters : (turns : List Turn) (h : IsOpenAfter start turns) → h.path.agenda ≡ [] → IsAllThere s (reached values start turns) ⊎ Any h.path
  any_enters turns h over = inr tt

  hears_more : (turns : List Turn) (turn : Turn) (before : IsOpenAfter start turns) (after : IsOpenAfter start (turns ++ turn ∷ [])) → Any before.path
      → (end_at s after.path).tcp.send.una ≤ (end_at s before.path).tcp.send.una → (end_at s before.path).sending.heard < (end_at s after.path).sending.heard
      → IsAllThere s (reached values start (turns ++ turn ∷ [])) ⊎ HearsMore start s turns (turns ++ turn ∷ [])
  hears_more turns turn before after h same more = inr (record { before = before; after = after; more = more })

  whole_here : ArePassedWhole start s
  whole_here = records_are_passed_whole start s roomy.mild

  pub mended_unless : DebtsAreMendedUnlessMoreIsHeard start plan most s
  mended_unless = record {
    mends_on = λ debts x v u step m. steps start plan most s roomy Any (HearsMore start s) whole_here any_on any_enters hears_more debts x v u step m;
    mends_next = λ debts x v u step m. opens start plan most s roomy Any (HearsMore start s) whole_here any_on any_enters hears_more v u step debts x m;
    in_time = λ debts x v u step m. on_time start plan most s roomy Any (HearsMore start s) whole_here any_on any_enters hears_more v u step debts x m;
    begins = λ debts v u step h. begins_now start plan most s roomy Any (HearsMore start s) whole_here any_on any_enters hears_more v u step debts h;
  }

pub directions_are_mended_unless_more_is_heard : DirectionsAreMendedUnlessMoreIsHeard
directions_are_mended_unless_more_is_heard start plan most s roomy = mended_unless start plan most s roomy
