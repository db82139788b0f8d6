-- A DATA_FIN is a debt of one that is mended within 60,000 ticks.
use Rattle.std.proofs.Common.{◌≡◌, refl, sym, subst, ap, ◌∙◌, ◌⊎◌, inl, inr, ⊎_elim, ℕ, ◌+◌, ◌<◌, ◌≤◌, arith, Bool, not, true, false, Some, List, [], ◌∷◌, ◌++◌}
use Rattle.std.specs.List.{slice_get}
use Rattle.std.proofs.lemmas.Bool.{and_parts, both_ways, cases_lt, le-ltb, lt-ltb, ltb-true}
use Rattle.std.proofs.lemmas.Option.{same_Some}
use Rattle.sides.specs.declared.side.Side.{Side}
use Rattle.sides.specs.declared.side.Side.TheVariants.{A, B}
use Rattle.sides.specs.Side.{peer}
use Rattle.subflow_tcp.specs.States.{may_finish}
use Rattle.path_agenda.specs.declared.duty.Duty.{Duty}
use Rattle.path_agenda.specs.declared.duty.Duty.TheVariants as duties
use Rattle.path_agenda.specs.declared.duty.SendDuty.TheVariants as send_duties
use Rattle.path_core.specs.DataFin.{is_data_fin_due}
use Rattle.path_core.specs.End.{PathEnd}
use Rattle.path_core.specs.Modes.{sends_plainly}
use Rattle.path_core.specs.State.{PathState, end_at}
use Rattle.path_core.specs.Turns.{FirstStands}
use Rattle.path_core.specs.Values.{Carried, values}
use Rattle.world_laws.specs.Actors.{ActorCrew}
use Rattle.world_laws.specs.declared.member.Member.TheVariants.{Path}
use Rattle.world_laws.specs.Members.{of_kind}
use Rattle.world_laws.specs.Openings.{PathPlan, Start, opened_world}
use Rattle.world_laws.specs.RoundDone.{reached}
use Rattle.world_laws.specs.Worlds.{Turn, WorldState, after_turn, all_over}
use Rattle.world_laws.proofs.Weaving.WholeRounds.{run_append}
use Rattle.world_laws.proofs.Whole.Falls.{MemberUpright, each_upright}
use Rattle.whole_paths.specs.Counts.{CountsAsMuch}
use Rattle.whole_paths.specs.Courses.{harmed_so_far, round_end}
use Rattle.whole_paths.specs.Debts.{Beginning}
use Rattle.whole_paths.specs.FinDebts.{FinGoesAfter, FinGoesBy, FinGoesOn, FinStands, FinStandsAfter, FinStandsOn, IsEndLeft, all_is_acked, file_size, is_all_acked, on_path}
use Rattle.whole_paths.specs.FinDebts.{FinGoesOn as goes_on, FinStands as stands, FinStandsOn as stands_on}
use Rattle.whole_paths.specs.Finish.{IsPathAt, is_harmed}
use Rattle.whole_paths.specs.FinsMended.{CountsFins, FewFinsAreOwed, FinIsMendedAfter, FinsAreMended, WhatIsAckedLasts, WhoOwesNoFinStands}
use Rattle.whole_paths.specs.Mending.{IsBegunTurn, IsOpenTurn}
use Rattle.whole_paths.specs.News.{one_if}
use Rattle.whole_paths.specs.OneDebt.{MendsNothing, OneIsMendedAfter, OwesNothing, OwesOneOf}
use Rattle.whole_paths.specs.OnePathScripts.{BeginsWithOnePath}
use Rattle.whole_paths.specs.OpenCourses.{IsOpenAfter}
use Rattle.whole_paths.specs.OpenFirst.{HasJustOpened, OpensByClearing}
use Rattle.whole_paths.proofs.ClearFirst.{b_is_clear_first}
use Rattle.whole_paths.proofs.DataFinsClear.{who_sent_its_end_is_clear}
use Rattle.whole_paths.proofs.DebtKinds.{kinds_are_few_together}
use Rattle.whole_paths.proofs.Delivery.{what_is_there_stays}
use Rattle.whole_paths.proofs.Directions.{harms_so, una_up}
use Rattle.whole_paths.proofs.FinDebts.{fins_stand_on}
use Rattle.whole_paths.proofs.FinWaits.{awaited, fins_go_again, goes_in_time, round_rests}
use Rattle.whole_paths.proofs.FinsSent.{FinGoesNext, FinsGoNext, fins_go_next}
use Rattle.whole_paths.proofs.News.{one_up}
use Rattle.whole_paths.proofs.OneDebtAfter.{nothing_is_mended, one_debt_is_few, one_debt_is_mended_after}
use Rattle.whole_paths.proofs.OpenClears.{paths_open_by_clearing}
use Rattle.whole_paths.proofs.OpenTurns.{begun}
use Rattle.whole_paths.proofs.RecordWaits.{path_is}
use Rattle.whole_paths.proofs.RoundBegins.{Rests, none_harmed}
use Rattle.whole_paths.proofs.WindowRoom.{one_path_is_roomy}

-- ---- all bytes are acknowledged

acked_is : (start : Start) (s : Side) (turns : List Turn) (p : PathState Carried) → IsPathAt 0 (reached values start turns) p → all_is_acked start s turns ≡ is_all_acked start s p
acked_is start s turns p here = ap (on_path (is_all_acked start s)) here.there ∙ ap (λ m. of_kind (λ app. false) (is_all_acked start s) m) here.is

pub what_is_acked_lasts : WhatIsAckedLasts
what_is_acked_lasts start plan s one turns turn h is =
    let before = ltb-true (file_size start s) (end_at s h.before.path).tcp.send.una (sym (acked_is start s turns h.before.path h.before.here) ∙ is) in
    let up = una_up start (one_path_is_roomy start plan one) turns turn h s s in
    acked_is start s (turns ++ turn ∷ []) h.after.path h.after.here ∙ lt-ltb (file_size start s) (end_at s h.after.path).tcp.send.una (omega (arith, before, up))

-- ---- as the path opens

module _ (start : Start) (plan : PathPlan) (one : BeginsWithOnePath start plan) (s : Side) (turns : List Turn) (just : HasJustOpened start turns) where
  opens_so : OpensByClearing start turns
  opens_so = paths_open_by_clearing start plan turns one just

  abbrev first : PathState Carried
  first = opens_so.path

  abbrev second : PathState Carried
  second = just.now.path

  abbrev w : WorldState Carried
  w = reached values start opens_so.before

  unclear : (t : Side) → (end_at t first).modes.clear ≡ true → ⊥
  unclear A clear = both_ways first.b.modes.clear opens_so.unclear (b_is_clear_first start opens_so.before one.mild first opens_so.here clear)
  unclear B clear = both_ways first.b.modes.clear opens_so.unclear clear

  unsent_before : (b : Bool) → (end_at s first).sending.fin_sent ≡ b → b ≡ false
  unsent_before true sent = absurd (unclear s (who_sent_its_end_is_clear start opens_so.before one.mild first opens_so.here s sent))
  unsent_before false sent = refl

  now_there : slice_get (after_turn values opens_so.turn w).crew 2 ≡ Some just.now.here.crew
  now_there = subst (λ (x : WorldState Carried). slice_get x.crew 2 ≡ Some just.now.here.crew) (ap (reached values start) opens_so.is ∙ run_append values opens_so.before (opens_so.turn ∷ []) (opened_world start)) just.now.here.there

  next_so : FinGoesNext s first second
  next_so = by (fins_go_next values w opens_so.turn 2 opens_so.here.crew opens_so.here.there)
    where
      by : (d : ActorCrew Carried) × (slice_get (after_turn values opens_so.turn w).crew 2 ≡ Some d) × FinsGoNext opens_so.here.crew.member d.member → FinGoesNext s first second
      by found = subst (λ m. FinsGoNext m (Path second)) opens_so.here.is
          (subst (λ m. FinsGoNext opens_so.here.crew.member m) (ap (λ (c : ActorCrew Carried). c.member) (same_Some found.0 just.now.here.crew (sym found.1 ∙ now_there)) ∙ just.now.here.is) found.2) s

  never_due : (others : List Duty) → first.agenda ≡ duties.Send (send_duties.DataFin s) ∷ others → ⊥
  never_due others is =
      let e : PathEnd = end_at s first in
      let stood : FirstStands first.agenda first = (subst MemberUpright opens_so.here.is ((each_upright start opens_so.before one.mild.plain one.mild.strips).each 2 opens_so.here.crew opens_so.here.there)).passes.settled in
      let due : is_data_fin_due e ≡ true = subst (λ (ds : List Duty). FirstStands ds first) is stood in
      unclear s (and_parts e.modes.clear _ (and_parts (not (sends_plainly e.modes)) _ (and_parts (may_finish e.tcp.state) _ due).1).1).0

  unsent_now : (end_at s second).sending.fin_sent ≡ false
  unsent_now = ⊎_elim (λ same. same ∙ unsent_before (end_at s first).sending.fin_sent refl) (λ next. absurd (never_due next.0 next.1)) next_so

-- ---- the debt

module _ (start : Start) (plan : PathPlan) (most : ℕ) (s : Side) (count : List Turn → ℕ) (one : BeginsWithOnePath start plan) (counts : CountsFins start s count) where
  abbrev acked : List Turn → Bool
  acked = all_is_acked start s

  abbrev Stands : List Turn → Type 0
  Stands = FinStandsAfter start s

  abbrev Goes : ℕ → List Turn → Type 0
  Goes = FinGoesAfter start s

  module _ (turns : List Turn) (turn : Turn) (h : IsBegunTurn start turns turn) where
    abbrev p : PathState Carried
    p = h.before.path

    abbrev q : PathState Carried
    q = h.after.path

    abbrev later : List Turn
    later = turns ++ turn ∷ []

    harms : harmed_so_far values start later ≡ harmed_so_far values start turns + (one_if (is_harmed s p q) + one_if (is_harmed (peer s) p q))
    harms = harms_so start (one_path_is_roomy start plan one) turns turn h s

    by_harm : is_harmed s p q ≡ true → count turns < count later
    by_harm harmed =
        let more = counts.rises turns turn h in let once = ap one_if harmed in let up = one_up (acked turns) (acked later) (what_is_acked_lasts start plan s one turns turn h) in
        omega (arith, more, harms, once, up)

    by_ack : (end_at s p).tcp.send.una ≤ file_size start s → file_size start s < (end_at s q).tcp.send.una → count turns < count later
    by_ack few all =
        let more = counts.rises turns turn h in
        let before = ap one_if (acked_is start s turns p h.before.here ∙ le-ltb (file_size start s) (end_at s p).tcp.send.una few) in
        let after = ap one_if (acked_is start s later q h.after.here ∙ lt-ltb (file_size start s) (end_at s q).tcp.send.una all) in
        omega (arith, more, harms, before, after)

    stays : Stands turns → (count turns < count later) ⊎ Stands later
    stays x = by (fins_stand_on start plan turns turn one h s (subst (λ z. FinStands start s z (reached values start turns)) (path_is (reached values start turns) x.path p x.here h.before.here) x.stands))
      where
        by : FinStandsOn start s turns turn p q → (count turns < count later) ⊎ Stands later
        by (stands_on.on is) = inr (record { path = q; here = h.after.here; stands = is })
        by (stands_on.acked few all) = inl (by_ack few all)
        by (stands_on.harmed harmed) = inl (by_harm harmed)

  module _ (turns : List Turn) (turn : Turn) (before : IsOpenAfter start turns) (after : IsOpenAfter start (turns ++ turn ∷ [])) where
    abbrev open_turn : IsOpenTurn start turns turn
    open_turn = record { mild = one.mild; before = before; after = after }

    waits_then : (x : ℕ) → Goes x turns → (count turns < count (turns ++ turn ∷ [])) ⊎ (Stands (turns ++ turn ∷ []) ⊎ Goes x (turns ++ turn ∷ []))
    waits_then x g = by (fins_go_again start plan turns turn one open_turn s x (subst (FinGoesBy start s x) (path_is (reached values start turns) g.path before.path g.here before.here) g.goes))
      where
        by : FinGoesOn start s turns turn before.path after.path x → (count turns < count (turns ++ turn ∷ [])) ⊎ (Stands (turns ++ turn ∷ []) ⊎ Goes x (turns ++ turn ∷ []))
        by (goes_on.waits_on more) = inr (inr (record { path = after.path; here = after.here; goes = more }))
        by (goes_on.stands is) = inr (inl (record { path = after.path; here = after.here; stands = is }))
        by (goes_on.harmed harmed) = inl (by_harm turns turn (begun start turns turn open_turn) harmed)

  module _ (v : List Turn) (over : all_over (reached values start v).crew ≡ true) (before : IsOpenAfter start v) (after : IsOpenAfter start (v ++ Turn.Round ∷ [])) where
    abbrev x : ℕ
    x = round_end values start v + 60000

    abbrev next : List Turn
    next = v ++ Turn.Round ∷ []

    abbrev y : PathState Carried
    y = after.path

    abbrev round_turn : IsOpenTurn start v Turn.Round
    round_turn = record { mild = one.mild; before = before; after = after }

    rests : Rests before.path y
    rests = round_rests start v over round_turn

    same_end : end_at s y ≡ end_at s before.path
    same_end = elim s as (λ t. end_at t y ≡ end_at t before.path) [ A ↦ rests.a | B ↦ rests.b ]

    stands_now : FinStands start s y (reached values start next) → Stands next ⊎ Goes x next
    stands_now is = inl (record { path = y; here = after.here; stands = is })

    left_now : IsEndLeft start s before.path → Stands next ⊎ Goes x next
    left_now left = ⊎_elim
        (λ all. stands_now (stands.all_there (what_is_there_stays start v (Turn.Round ∷ []) one.mild s all)))
        (λ goes. by (fins_go_again start plan v Turn.Round one round_turn s x goes))
        (awaited start plan one v over before s left)
      where
        by : FinGoesOn start s v Turn.Round before.path y x → Stands next ⊎ Goes x next
        by (goes_on.waits_on more) = inr (record { path = y; here = after.here; goes = more })
        by (goes_on.stands is) = stands_now is
        by (goes_on.harmed harmed) = absurd (both_ways (is_harmed s before.path y) (none_harmed s before.path y rests.link) harmed)

    begins_so : Stands next ⊎ Goes x next
    begins_so = ⊎_elim
        (λ all. by all (end_at s y).sending.fin_sent refl)
        (λ few. stands_now (stands.bytes few))
        (cases_lt (file_size start s) (end_at s y).tcp.send.una)
      where
        by : file_size start s < (end_at s y).tcp.send.una → (b : Bool) → (end_at s y).sending.fin_sent ≡ b → Stands next ⊎ Goes x next
        by all true sent = left_now (record { acked = subst (λ (e : PathEnd). file_size start s < e.tcp.send.una) same_end all; sent = subst (λ (e : PathEnd). e.sending.fin_sent ≡ true) same_end sent })
        by all false none = stands_now (stands.unsent none)

  module _ (First : ℕ → List Turn → Type 0) where
    abbrev On : ℕ → List Turn → List Turn → Type 0
    On n v u = (count v < count u) ⊎ (Stands u ⊎ Goes n u)

    in_round : (n : ℕ) (v u : List Turn) → Beginning start plan most First v u → Goes n v → round_end values start v ≤ n
    in_round n v u step g = goes_in_time start plan one v step.over step.before s n (subst (FinGoesBy start s n) (path_is (reached values start v) g.path step.before.path g.here step.before.here) g.goes)

    mended : OneIsMendedAfter start plan most count First Stands Goes 60000
    mended = record {
      opens = λ turns just. inl (record { path = just.now.path; here = just.now.here; stands = stands.unsent (unsent_now start plan one s turns just) });
      stays = stays;
      waits_on = λ n v u step first g. subst (On n v) (sym step.is) (waits_then v (Turn.Step step.actor) step.before (subst (IsOpenAfter start) step.is step.after) n g);
      waits_next = λ n v u step first g. subst (On n v) (sym step.is) (waits_then v Turn.Round step.before (subst (IsOpenAfter start) step.is step.after) n g);
      in_time = λ n v u step first g. in_round n v u step g;
      begins = λ v u step first. subst (λ t. Stands t ⊎ Goes (round_end values start v + 60000) t) (sym step.is) (begins_so v step.over step.before (subst (IsOpenAfter start) step.is step.after));
    }

pub fin_is_mended_after : FinIsMendedAfter
fin_is_mended_after start plan most s count First one counts = mended start plan most s count one counts First

-- ---- as a kind of debt

-- it counts the segments that are harmed
counts_harms : (start : Start) (plan : PathPlan) (s : Side) (count : List Turn → ℕ) → BeginsWithOnePath start plan → CountsFins start s count → CountsAsMuch start (harmed_so_far values start) count
counts_harms start plan s count one counts = record {
  covers = λ turns. (let covers = counts.covers turns in omega (arith, covers));
  rises = λ turns turn h.
      (let more = counts.rises turns turn h in
      let up = one_up (all_is_acked start s turns) (all_is_acked start s (turns ++ turn ∷ [])) (what_is_acked_lasts start plan s one turns turn h) in omega (arith, more, up));
}

pub fins_are_mended : FinsAreMended
fins_are_mended start plan most s count one counts =
    let harms = counts_harms start plan s count one counts in
    one_debt_is_mended_after start plan most 0 60000 count OwesNothing MendsNothing (FinStandsAfter start s) (FinGoesAfter start s) one harms (nothing_is_mended start plan most count one.mild harms)
    (fin_is_mended_after start plan most s count OwesNothing one counts)

pub few_fins_are_owed : FewFinsAreOwed
few_fins_are_owed start plan most s count one counts = kinds_are_few_together start plan most count OwesNothing (OwesOneOf (FinStandsAfter start s))
    (λ turns now. record { debts = 0; owes = tt; few = omega arith })
    (one_debt_is_few start plan most 60000 count OwesNothing (FinStandsAfter start s) (FinGoesAfter start s) one (counts_harms start plan s count one counts) (fin_is_mended_after start plan most s count OwesNothing one counts))

pub who_owes_no_fin_stands : WhoOwesNoFinStands
who_owes_no_fin_stands start s turns owes = ⊎_elim (λ stands. stands) (λ some. absurd (let few = owes.few_other in omega (arith, few, some))) owes.owes_other
