-- What becomes of a direction's wait where a round is over: what was to come by a tick of it came, and the wait goes on in the next round.
use Rattle.std.proofs.Common.{◌≡◌, refl, sym, subst, ap, ◌⊎◌, inl, inr, ⊎_elim, ℕ, ◌+◌, ◌<◌, ◌≤◌, arith, le_refl, true, false, true≢false, Option, Some, None, IfSome, IsSome, List, [], ◌∷◌, length}
use Rattle.std.specs.List.{slice_get}
use Rattle.std.proofs.lemmas.Bool.{both_ways, cases_lt}
use Rattle.sides.specs.declared.side.Side.{Side}
use Rattle.sides.specs.declared.side.Side.TheVariants.{A, B}
use Rattle.sides.specs.Side.{peer}
use Rattle.link_model.specs.declared.flight.Flight.{Flight}
use Rattle.stream_lanes.specs.Words.{Has}
use Rattle.subflow_send.specs.Records.{Record}
use Rattle.subflow_tcp.specs.States.{is_closed_to_segments}
use Rattle.path_agenda.specs.Agenda.{emission}
use Rattle.path_agenda.specs.declared.duty.Duty.{Duty}
use Rattle.path_agenda.specs.declared.duty.Duty.TheVariants as duties
use Rattle.path_agenda.specs.declared.duty.AskDuty.TheVariants as ask_duties
use Rattle.path_agenda.specs.declared.duty.SendDuty.TheVariants as send_duties
use Rattle.path_core.specs.State.{PathState, end_at}
use Rattle.path_core.specs.Values.{Carried, values}
use Rattle.world_laws.specs.Actors.{ActorCrew}
use Rattle.world_laws.specs.Members.{HoldsOfKind}
use Rattle.world_laws.specs.Openings.{Start}
use Rattle.world_laws.specs.RoundDone.{reached}
use Rattle.world_laws.specs.Worlds.{Turn, WorldState, all_over}
use Rattle.whole_paths.specs.Answered.{HasAnswered}
use Rattle.whole_paths.specs.Answered.{IsDone as done_by}
use Rattle.whole_paths.specs.ClearRounds.{IsFirstOrFewer}
use Rattle.whole_paths.specs.ClearRounds.{IsFirstOrFewer as reached_one}
use Rattle.whole_paths.specs.Copies.{IsUnderWay}
use Rattle.whole_paths.specs.Courses.{round_end}
use Rattle.whole_paths.specs.Delivery.{IsAllThere}
use Rattle.whole_paths.specs.DirectionWaits.{EdgeIsUnheard, HearsSoon, MendsInTurn, NothingElseComes}
use Rattle.whole_paths.specs.DirectionWaits.{HearsSoon as hears, MendsInTurn as in_turn}
use Rattle.whole_paths.specs.Directions.{AreHeardBut, OwesThese}
use Rattle.whole_paths.specs.Mending.{IsToldBy, IsToldSoon}
use Rattle.whole_paths.specs.Mending.{IsToldBy as told_by, IsToldSoon as told_soon}
use Rattle.whole_paths.specs.Mild.{IsMildStart}
use Rattle.whole_paths.specs.OpenCourses.{IsOpenAfter}
use Rattle.whole_paths.specs.Reasons.{IsOutstanding, IsTimedWhereItWaits}
use Rattle.whole_paths.specs.InTime.{ComesFrom}
use Rattle.whole_paths.specs.Sent.{WasSent}
use Rattle.whole_paths.specs.Timers.{TimersAreNear}
use Rattle.whole_paths.specs.Waits.{IsSettledAtTheEnd, RunsTo}
use Rattle.whole_paths.proofs.Arrivals.{sender_of}
use Rattle.whole_paths.proofs.DirectionTurns.{OwesFewer, lost_less, told_lower}
use Rattle.whole_paths.proofs.Directions.{past_is_there}
use Rattle.whole_paths.proofs.FirstAwaited.{lost_records_are_awaited}
use Rattle.whole_paths.proofs.FirstReached.{what_is_reached_is_first}
use Rattle.whole_paths.proofs.InTime.{nothing_is_overdue}
use Rattle.whole_paths.proofs.OctetsPassed.{octets_are_passed}
use Rattle.whole_paths.proofs.Owing.{copies_are_answered}
use Rattle.whole_paths.proofs.Reached.{EndsAreReached, each_is_reached, none_left}
use Rattle.whole_paths.proofs.Reasons.{who_waits_has_a_timer}
use Rattle.whole_paths.proofs.RecordWaits.{living_open}
use Rattle.whole_paths.proofs.RoundSteps.{early, none_comes, silent}
use Rattle.whole_paths.proofs.Sent.{what_came_was_sent}
use Rattle.whole_paths.proofs.Timing.{timers_run_out}
use Rattle.whole_paths.proofs.Waiting.{no_timer_is_put_off}
use Rattle.world_laws.proofs.Rounds.DoneByTheEnd.{rounds_end_on_time}
use Rattle.world_laws.specs.RoundDone.{EndsAt}

-- no end is to send again where the turn is over
pub not_again : (s : Side) (ds : List Duty) → ds ≡ [] → (ds ≡ duties.Ask (ask_duties.Return s) ∷ duties.Send (send_duties.Resend s) ∷ emission s) ⊎ (ds ≡ duties.Send (send_duties.Resend s) ∷ emission s) → ⊥
not_again s [] none (inl is) = cc
not_again s [] none (inr is) = cc
not_again s (d ∷ ds) none is = cc

module _ (start : Start) (mild : IsMildStart start) (turns : List Turn) (over : all_over (reached values start turns).crew ≡ true) (h : IsOpenAfter start turns) (s : Side)
    (Level : PathState Carried → Type 0) (enters : h.path.agenda ≡ [] → IsAllThere s (reached values start turns) ⊎ Level h.path) (x : ℕ) where
  abbrev p : PathState Carried
  p = h.path

  abbrev t : Side
  t = peer s

  abbrev w : WorldState Carried
  w = reached values start turns

  abbrev until : ℕ
  until = round_end values start turns

  abbrev una : ℕ
  una = (end_at s p).tcp.send.una

  abbrev edge : ℕ
  edge = (end_at t p).tcp.recv.edge

  abbrev crew : ActorCrew Carried
  crew = h.here.crew

  there : slice_get w.crew 2 ≡ Some crew
  there = h.here.there

  of_path : (P : PathState Carried → Type 0) → HoldsOfKind (λ app. Unit {0}) P crew.member → P p
  of_path P held = subst (HoldsOfKind (λ app. Unit {0}) P) h.here.is held

  nothing_to_do : p.agenda ≡ []
  nothing_to_do = silent start turns p over h.here

  clock_low : p.clock < until
  clock_low = early start turns p h.here

  until_is : p.until ≡ until
  until_is = subst (EndsAt (round_end values start turns)) h.here.is ((rounds_end_on_time values start turns).each 2 crew there)

  late_copy : (f : Flight Carried) → IsUnderWay f p → until ≤ f.tick
  late_copy f under = let low = none_comes start turns p over h.here under.at under.item under.there in let same = ap (λ (g : Flight Carried). g.tick) under.holds in omega (arith, low, same)

  -- what is told by a tick of the round is heard
  is_heard : (n by : ℕ) → by < until → IsToldBy s n by p → n ≤ una
  is_heard n by_then soon (told_by.heard reaches) = reaches
  is_heard n by_then soon (told_by.comes copy under answers tick) = absurd (let low = late_copy copy under in omega (arith, soon, tick, low))

  not_owing : (end_at t p).tcp.due.ack ≡ true → ⊥
  not_owing due = both_ways (end_at t p).tcp.due.ack (of_path HasAnswered ((copies_are_answered values start turns).each 2 crew there) (done_by.over nothing_to_do) t (h.is_open.living t)).ack due

  past : ComesFrom until p
  past = subst (λ n. ComesFrom n p) until_is (of_path (λ z. z.agenda ≡ [] → ComesFrom z.until z) ((nothing_is_overdue values start turns).over 2 crew there) nothing_to_do)

  -- a timer runs for a minute at most, and isn't out in this round
  is_near : (tick : ℕ) (u : Side) → (end_at u p).tcp.timing.timer ≡ Some tick → (tick ≤ p.clock + 60000) × (until ≤ tick)
  is_near tick A runs = (subst (λ o. IfSome o (λ n. n ≤ p.clock + 60000)) runs (of_path TimersAreNear ((timers_run_out values start turns).each 2 crew there)).a.timer, subst (λ o. IfSome o (λ n. until ≤ n)) runs past.timer_a)
  is_near tick B runs = (subst (λ o. IfSome o (λ n. n ≤ p.clock + 60000)) runs (of_path TimersAreNear ((timers_run_out values start turns).each 2 crew there)).b.timer, subst (λ o. IfSome o (λ n. until ≤ n)) runs past.timer_b)

  -- ---- what an end wasn't told

  module _ (lost unheard : List ℕ) (these : OwesThese s lost unheard p) where
    pub data GoesOn : Type 0 where
      on : HearsSoon Level s unheard x (until + 100) p → GoesOn
      fewer : OwesFewer s (length lost + length unheard) p → GoesOn
      all_there : IsAllThere s w → GoesOn

    sent_up : edge ≤ (end_at s p).tcp.send.nxt
    sent_up = subst (λ u. edge ≤ (end_at u p).tcp.send.nxt) (sender_of s) (of_path WasSent ((what_came_was_sent start turns mild.plain.size).each 2 crew there) t)

    -- the timer runs
    timed : EdgeIsUnheard s unheard p → (records : List Record) → (end_at s p).tcp.send.records ≡ records → (tick : ℕ) × ((tick ≤ p.clock + 60000) × RunsTo tick (end_at s p))
    timed is_unheard [] records = absurd (let all = none_left (end_at s p).tcp (of_path EndsAreReached ((each_is_reached values start turns).each 2 crew there) s) records in let behind = is_unheard.behind in let up = sent_up in omega (arith, all, behind, up))
    timed is_unheard (r ∷ others) records = by (end_at s p).tcp.timing.timer refl
        (of_path IsTimedWhereItWaits ((who_waits_has_a_timer values start turns).each 2 crew there) nothing_to_do s living (IsOutstanding.on_subflow r others records))
      where
        living : is_closed_to_segments (end_at s p).tcp.state ≡ false
        living = living_open (end_at s p).tcp.state (h.is_open.past s) (h.is_open.living s)

        by : (o : Option ℕ) → (end_at s p).tcp.timing.timer ≡ o → IsSome o → (tick : ℕ) × ((tick ≤ p.clock + 60000) × RunsTo tick (end_at s p))
        by None runs some = absurd (true≢false (sym some))
        by (Some tick) runs some = (
          tick,
          (
            (is_near tick s runs).0,
            record {
              timer = runs;
              settled = of_path IsSettledAtTheEnd (((no_timer_is_put_off values).settled start turns).each 2 crew there) nothing_to_do s (h.is_open.living s);
              first = r;
              others = others;
              records = records;
              living = living;
            },
          ),
        )

    settled_now : EdgeIsUnheard s unheard p → (by : ℕ) → by + 61200 ≤ x → until ≤ by + 100 → by < until → AreHeardBut s unheard by p → GoesOn
    settled_now is_unheard by_then late bound soon heard = ⊎_elim all_there
        (λ level. (let timer = timed is_unheard (end_at s p).tcp.send.records refl in let near = timer.1.0 in let low = clock_low in
        on (hears.waits is_unheard nothing timer.0 timer.1.1 level (omega (arith, near, low, bound, late)) (omega (arith, bound, late)))))
        (enters nothing_to_do)
      where
        nothing : NothingElseComes s unheard p
        nothing f n under to rst acks = ⊎_elim (λ told. inl (is_heard n by_then soon told)) (λ has. inr has) (heard f n under to rst acks)

    pub hears_later : HearsSoon Level s unheard x until p → GoesOn
    hears_later (hears.comes n among behind by_then low told) = ⊎_elim
        (λ soon. absurd (let reaches = is_heard n by_then soon told in omega (arith, reaches, behind)))
        (λ still. on (hears.comes n among behind by_then low told))
        (cases_lt by_then until)
    hears_later (hears.owes n among behind low bound due) = absurd (not_owing due)
    hears_later (hears.settles is_unheard by_then late bound heard) = ⊎_elim
        (λ soon. settled_now is_unheard by_then late bound soon heard)
        (λ still. on (hears.settles is_unheard by_then late (omega (arith, still)) heard))
        (cases_lt by_then until)
    hears_later (hears.waits is_unheard nothing tick runs level late bound) = let far = (is_near tick s runs.timer).1 in on (hears.waits is_unheard nothing tick runs level late (omega (arith, far, late)))
    hears_later (hears.resends is_unheard again bound) = absurd (not_again s p.agenda nothing_to_do again)
    hears_later (hears.flies is_unheard r kind passed by_then late bound comes) =
        let low = late_copy comes.copy comes.there in let soon = comes.soon in on (hears.flies is_unheard r kind passed by_then late (omega (arith, low, soon, late)) comes)

    pub hears_in_time : HearsSoon Level s unheard x until p → until ≤ x
    hears_in_time (hears.comes n among behind by_then low told) = ⊎_elim
        (λ soon. absurd (let reaches = is_heard n by_then soon told in omega (arith, reaches, behind)))
        (λ still. omega (arith, still, low))
        (cases_lt by_then until)
    hears_in_time (hears.owes n among behind low bound due) = omega (arith, bound)
    hears_in_time (hears.settles is_unheard by_then late bound heard) = omega (arith, late, bound)
    hears_in_time (hears.waits is_unheard nothing tick runs level late bound) = omega (arith, bound)
    hears_in_time (hears.resends is_unheard again bound) = omega (arith, bound)
    hears_in_time (hears.flies is_unheard r kind passed by_then late bound comes) = omega (arith, bound)

  -- ---- records that may be lost

  module _ (lost : List ℕ) (these : OwesThese s lost [] p) where
    pub data MendsLater : Type 0 where
      mends_later : MendsInTurn Level s lost x (until + 100) p → MendsLater
      less : OwesFewer s (length lost + 0) p → MendsLater
      whole : IsAllThere s w → MendsLater

    -- so much came: the end is told soon
    came : (position : ℕ) → Has (λ n. n ≡ position) lost → (by : ℕ) → by + 60700 ≤ x → until ≤ by + 100 → position ≤ edge → IsToldSoon s p ⊎ Has (λ n. n ≡ edge) [] → MendsLater
    came position among by_then late bound low (inr has) = absurd (let there = has.there in cc)
    came position among by_then late bound low (inl (told_soon.past_fin is_past)) = whole (past_is_there start mild turns p h.here s h.is_open is_past)
    came position among by_then late bound low (inl (told_soon.owed due)) = absurd (not_owing due)
    came position among by_then late bound low (inl (told_soon.told told)) = let early_now = clock_low in
        mends_later (in_turn.told position among (p.clock + 400) (omega (arith, early_now, late, bound)) (omega (arith, late, bound)) (told_lower s position edge (p.clock + 400) p low told))

    reached_now : (position : ℕ) → Has (λ n. n ≡ position) lost → until + 60000 ≤ x → position ≤ una → MendsLater
    reached_now position among bound reaches = by (what_is_reached_is_first start turns mild h s lost these.well position among reaches)
      where
        by : IsFirstOrFewer s lost p → MendsLater
        by (reached_one.fewer fewer_now few well) = less (lost_less s lost [] p these fewer_now few well)
        by (reached_one.first r rs is among_first) = ⊎_elim whole
            (λ level. (let waits = (lost_records_are_awaited start turns h nothing_to_do s (length lost)).begins r rs is lost (le_refl (length lost)) these.well among_first in let near = waits.1 in let low = clock_low in
            mends_later (in_turn.mends waits.0 (omega (arith, near, low, bound)) level waits.2)))
            (enters nothing_to_do)

    pub mends_then : MendsInTurn Level s lost x until p → MendsLater
    mends_then (in_turn.comes position among by_then late bound comes) = ⊎_elim
        (λ soon. came position among by_then late bound (octets_are_passed.due start turns mild h nothing_to_do s position by_then (omega (arith, soon, until_is)) comes) these.told.told)
        (λ still. mends_later (in_turn.comes position among by_then late (omega (arith, still)) comes))
        (cases_lt by_then until)
    mends_then (in_turn.told position among by_then late bound told) = ⊎_elim
        (λ soon. reached_now position among bound (is_heard position by_then soon told))
        (λ still. mends_later (in_turn.told position among by_then late (omega (arith, still, late)) told))
        (cases_lt by_then until)
    mends_then (in_turn.mends by_then low level m) = mends_later (in_turn.mends by_then low level m)

    pub mends_in_time : MendsInTurn Level s lost x until p → until ≤ x
    mends_in_time (in_turn.comes position among by_then late bound comes) = omega (arith, late, bound)
    mends_in_time (in_turn.told position among by_then late bound told) = omega (arith, bound)
    mends_in_time (in_turn.mends by_then low level m) = let in_time = (lost_records_are_awaited start turns h nothing_to_do s (length lost)).in_time by_then m in omega (arith, in_time, low, until_is)
