-- Where a turn is over the timer of a side runs whose first record may be lost.
use Rattle.std.proofs.Common.{◌≡◌, refl, sym, subst, inl, inr, ℕ, ◌+◌, ◌≤◌, true≢false, Option, Some, None, List, [], ◌∷◌, length}
use Rattle.std.specs.Prelude.{IfSome, IsSome}
use Rattle.std.specs.List.{slice_get}
use Rattle.sides.specs.declared.side.Side.{Side}
use Rattle.sides.specs.declared.side.Side.TheVariants.{A, B}
use Rattle.stream_lanes.specs.Words.{Has}
use Rattle.subflow_send.specs.Records.{Record}
use Rattle.path_agenda.specs.Agenda.{emission}
use Rattle.path_agenda.specs.declared.duty.Duty.{Duty}
use Rattle.path_agenda.specs.declared.duty.Duty.TheVariants as duties
use Rattle.path_agenda.specs.declared.duty.AskDuty.TheVariants as ask_duties
use Rattle.path_agenda.specs.declared.duty.SendDuty.TheVariants as send_duties
use Rattle.path_core.specs.State.{PathState, end_at}
use Rattle.path_core.specs.Values.{Carried, values}
use Rattle.world_laws.specs.Actors.{ActorCrew}
use Rattle.world_laws.specs.Members.{HoldsOfKind}
use Rattle.world_laws.specs.RoundDone.{reached}
use Rattle.whole_paths.specs.Expiries.{IsToSendAgain}
use Rattle.whole_paths.specs.FirstLost.{FirstIsAwaited, LostRecordsAreAwaited, MendsFirst}
use Rattle.whole_paths.specs.FirstLost.{MendsFirst as stage}
use Rattle.whole_paths.specs.InTime.{ComesFrom}
use Rattle.whole_paths.specs.Reasons.{IsOutstanding, IsTimedWhereItWaits}
use Rattle.whole_paths.specs.Straying.{IsOpen}
use Rattle.whole_paths.specs.Timers.{TimersAreNear}
use Rattle.whole_paths.specs.Unmended.{AreWellBut}
use Rattle.whole_paths.specs.Waits.{IsSettledAtTheEnd}
use Rattle.whole_paths.proofs.Flying.{same_record}
use Rattle.whole_paths.proofs.InTime.{nothing_is_overdue}
use Rattle.whole_paths.proofs.Reasons.{who_waits_has_a_timer}
use Rattle.whole_paths.proofs.RecordWaits.{living_open}
use Rattle.whole_paths.proofs.Timing.{timers_run_out}
use Rattle.whole_paths.proofs.Waiting.{no_timer_is_put_off}

module _ (p : PathState Carried) (over : p.agenda ≡ []) (is_open : IsOpen p) (timed : IsTimedWhereItWaits p) (settled : IsSettledAtTheEnd p) (near : TimersAreNear p) (past : ComesFrom p.until p) (s : Side) (debts : ℕ) where
  -- a timer runs for a minute at most, and isn't out in this round
  is_near : (tick : ℕ) (t : Side) → (end_at t p).tcp.timing.timer ≡ Some tick → (tick ≤ p.clock + 60000) × (p.until ≤ tick)
  is_near tick A runs = (subst (λ o. IfSome o (λ t. t ≤ p.clock + 60000)) runs near.a.timer, subst (λ o. IfSome o (λ t. p.until ≤ t)) runs past.timer_a)
  is_near tick B runs = (subst (λ o. IfSome o (λ t. t ≤ p.clock + 60000)) runs near.b.timer, subst (λ o. IfSome o (λ t. p.until ≤ t)) runs past.timer_b)

  begins : (first : Record) (others : List Record) → (end_at s p).tcp.send.records ≡ first ∷ others → (lost : List ℕ) → length lost ≤ debts → AreWellBut s lost p → Has (λ n. n ≡ first.pos) lost
      → (by : ℕ) × (by ≤ p.clock + 60000) × MendsFirst s debts by p
  begins first others is lost few well among = by (end_at s p).tcp.timing.timer refl (timed over s (living_open (end_at s p).tcp.state (is_open.past s) (is_open.living s)) (IsOutstanding.on_subflow first others is))
    where
      by : (o : Option ℕ) → (end_at s p).tcp.timing.timer ≡ o → IsSome o → (by : ℕ) × (by ≤ p.clock + 60000) × MendsFirst s debts by p
      by None runs some = absurd (true≢false (sym some))
      by (Some tick) runs some = (
        tick,
        (is_near tick s runs).0,
        stage.waits (record {
          first = first;
          is_first = record { first = first; others = others; records = is; same = same_record first };
          lost = lost;
          among = among;
          well = well;
          few = few;
          runs = record { timer = runs; settled = settled over s (is_open.living s); first = first; others = others; records = is; living = living_open (end_at s p).tcp.state (is_open.past s) (is_open.living s) };
        }),
      )

  -- none goes where the turn is over
  not_now : IsToSendAgain s p → ⊥
  not_now (inl is) = busy p.agenda (duties.Ask (ask_duties.Return s)) (duties.Send (send_duties.Resend s) ∷ emission s) over is
    where
      busy : (ds : List Duty) (d : Duty) (rest : List Duty) → ds ≡ [] → ds ≡ d ∷ rest → ⊥
      busy [] d rest none is = cc
      busy (x ∷ ds) d rest none is = cc
  not_now (inr is) = busy p.agenda (duties.Send (send_duties.Resend s)) (emission s) over is
    where
      busy : (ds : List Duty) (d : Duty) (rest : List Duty) → ds ≡ [] → ds ≡ d ∷ rest → ⊥
      busy [] d rest none is = cc
      busy (x ∷ ds) d rest none is = cc

  in_time : (by : ℕ) → MendsFirst s debts by p → p.until ≤ by
  in_time by (stage.waits h) = (is_near by s h.runs.timer).1
  in_time by (stage.goes h) = absurd (not_now h.mends.again)

  pub first_awaited : FirstIsAwaited s debts p
  first_awaited = record { begins = begins; in_time = in_time }

pub lost_records_are_awaited : LostRecordsAreAwaited
lost_records_are_awaited start turns h over s debts = first_awaited h.path over h.is_open (of_path IsTimedWhereItWaits ((who_waits_has_a_timer values start turns).each 2 crew there))
    (of_path IsSettledAtTheEnd (((no_timer_is_put_off values).settled start turns).each 2 crew there)) (of_path TimersAreNear ((timers_run_out values start turns).each 2 crew there))
    (of_path (λ p. p.agenda ≡ [] → ComesFrom p.until p) ((nothing_is_overdue values start turns).over 2 crew there) over) s debts
  where
    crew : ActorCrew Carried
    crew = h.here.crew

    there : slice_get (reached values start turns).crew 2 ≡ Some crew
    there = h.here.there

    of_path : (P : PathState Carried → Type 0) → HoldsOfKind (λ app. Unit {0}) P crew.member → P h.path
    of_path P held = subst (HoldsOfKind (λ app. Unit {0}) P) h.here.is held
