-- A timer that is set anew runs for a second at least.
use Rattle.std.proofs.Common.{◌≡◌, refl, sym, subst, ap, ◌∙◌, inl, inr, ◌⊎◌, ⊎_elim, ℕ, ◌+◌, ◌≤◌, arith, Bool, true, false, is_none, ◌||◌, if◌then◌else◌, Option, Some, None, IfSome, List, [], ◌∷◌}
use Rattle.sides.specs.declared.side.Side.{Side}
use Rattle.sides.specs.declared.side.Side.TheVariants.{A, B}
use Rattle.loss_recovery.specs.Timers.{measured, timer_settled}
use Rattle.loss_recovery.specs.declared.timers.Timing.{Timing}
use Rattle.subflow_send.specs.Rules.{ack_kind, after_acknowledge, sample_of}
use Rattle.subflow_send.specs.declared.record.AckKind.TheVariants.{Duplicate, Future, New, Old}
use Rattle.subflow_tcp.specs.Emitting.{after_sending}
use Rattle.subflow_tcp.specs.Expiring.{after_expiry, after_fire, is_sixth, is_timed}
use Rattle.subflow_tcp.specs.Segments.{Copy}
use Rattle.subflow_tcp.specs.State.{EndState}
use Rattle.subflow_tcp.specs.Taking.{after_ack_kind, after_acknowledgement, after_arrival, after_death, after_duplicate, after_established, after_heard_ack, after_hearing, after_interruption, after_payload, after_telling, is_duplicate, told_by}
use Rattle.subflow_tcp.specs.declared.handshake.State.TheVariants as phase
use Rattle.subflow_tcp.specs.declared.segments.Hint.{Hint}
use Rattle.subflow_tcp.specs.declared.segments.Occasion.{Occasion}
use Rattle.subflow_tcp.specs.declared.segments.Occasion.TheVariants as to_send
use Rattle.subflow_tcp.specs.declared.verdicts.Meaning.{Meaning}
use Rattle.subflow_tcp.specs.declared.verdicts.Meaning.TheVariants as means
use Rattle.actor_desk.specs.declared.ask.Reply.{Reply}
use Rattle.path_agenda.specs.declared.duty.Duty.{Duty}
use Rattle.path_core.specs.Codec.{Codec}
use Rattle.path_core.specs.Duties.{answered, passed}
use Rattle.path_core.specs.State.{PathState, end_at, with_agenda}
use Rattle.path_core.specs.Steps.{next_round, settled, takes}
use Rattle.world_laws.specs.declared.member.Member.TheVariants.{App, Path}
use Rattle.world_laws.specs.Actors.{Actor, member_next, member_takes}
use Rattle.world_laws.specs.Members.{HoldsOfKind}
use Rattle.world_laws.specs.RoundDone.{reached}
use Rattle.world_laws.specs.StampedBooks.{answer_to}
use Rattle.world_laws.proofs.Writes.Steps.{Lasts, begins_lasts, settled_lasts}
use Rattle.whole_paths.specs.EndSteps.{PathStep, SubflowStep, SubflowSteps}
use Rattle.whole_paths.specs.EndSteps.SubflowStep.{arrives, holds, owes, keeps, drops, advances, passes, forgets, pushes, finishes, sends, settles, fires, grows, begins, joins, dies}
use Rattle.whole_paths.specs.EndSteps.SubflowSteps.{none, more}
use Rattle.whole_paths.specs.SetTimers.{EachTimerRunsForASecond, RunsForASecond, TimersRunForASecond}
use Rattle.whole_paths.specs.Timers.{IsNear, TimersAreNear}
use Rattle.whole_paths.proofs.Duties.{answered_steps, passed_steps}
use Rattle.whole_paths.proofs.InTime.{passed_same}
use Rattle.whole_paths.proofs.Timing.{Ticks, answered_ticks, passed_ticks, later, steps_near, timers_run_out}
use Rattle.whole_paths.proofs.Turns.{turn_by}

-- ---- the timer of an end

-- whatever holds of the tick of a timer, of which a rule makes no other one but none
module _ (Q : ℕ → Type 0) where
  abbrev Runs : EndState → Type 0
  Runs s = IfSome s.timing.timer Q

  ack_runs : (pos at : ℕ) (s : EndState) → Runs s → Runs (after_acknowledgement pos at s)
  ack_runs pos at s h = elim (ack_kind pos s.send) as (λ kind. Runs (after_ack_kind kind (sample_of pos s.send) at (record s { send = after_acknowledge pos s.send })))
      [ New octets ↦ new (sample_of pos s.send) | Duplicate ↦ h | Old ↦ h | Future ↦ h ]
    where
      new : (since : Option ℕ) → IfSome (measured since at s.timing).timer Q
      new = elim [ None ↦ h | Some first ↦ h ]

  heard_ack_runs : (pos : ℕ) (hint : Hint) (at : ℕ) (c : Copy) (s : EndState) → Runs s → Runs (after_heard_ack pos hint at c s)
  heard_ack_runs pos hint at c s h = by (is_duplicate (ack_kind pos s.send) (told_by hint c) c acked)
    where
      acked : EndState
      acked = after_acknowledgement pos at s

      by : (b : Bool) → Runs (after_telling (told_by hint c) (if b then after_duplicate acked else after_interruption acked))
      by true = ack_runs pos at s h
      by false = ack_runs pos at s h

  arrival_runs : (m : Meaning) (hint : Hint) (now : ℕ) (c : Copy) (s : EndState) → Runs s → Runs (after_arrival m hint now c s)
  arrival_runs (means.Accepts acknowledged) hint now c s h = ack_runs acknowledged now (record (after_hearing (after_payload 1 hint c s)) { state = phase.Established }) h
  arrival_runs means.Kills hint now c s h = tt
  arrival_runs (means.Taken pos acknowledged) hint now c s h = heard_ack_runs acknowledged hint now c (after_established (after_hearing (after_payload pos hint c s))) h
  arrival_runs _ hint now c s h = h

  sending_runs : (occasion : Occasion) (now : ℕ) (s : EndState) → (after_sending occasion now s).timing ≡ s.timing
  sending_runs = elim [ to_send.Reset ↦ λ now s. refl | _ ↦ λ now s. refl ]

  -- it is set to a tick a second from now at least, where that holds of each such
  module _ (now : ℕ) (late : (tick : ℕ) → now + 1000 ≤ tick → Q tick) where
    settled_runs : (reason restart : Bool) (t : Timing) → IsNear now t → IfSome t.timer Q → IfSome (timer_settled reason restart now t) Q
    settled_runs false restart t near h = tt
    settled_runs true restart t near h = elim (is_none t.timer || (t.news || restart)) as (λ b. IfSome (if b then Some (now + t.rtt.rto) else t.timer) Q)
        [ true ↦ let least = near.timeout.least in late (now + t.rtt.rto) (omega (arith, least)) | false ↦ h ]

    fire_runs : (s : EndState) → IsNear now s.timing → Runs (after_fire now s)
    fire_runs s near = elim (is_sixth s) as (λ b. Runs (if b then after_death true s else after_expiry now s)) [ true ↦ tt | false ↦ let least = near.timeout.least in late _ (omega (arith, least)) ]

    step_runs : (s t : EndState) → SubflowStep now s t → IsNear now s.timing → Runs s → Runs t
    step_runs s t (arrives m hint c is) near h = arrival_runs m hint now c s h
    step_runs s t (sends occasion) near h = subst (λ (x : Timing). IfSome x.timer Q) (sym (sending_runs occasion now s)) h
    step_runs s t (settles on restart) near h = settled_runs (is_timed on s) restart s.timing near h
    step_runs s t fires near h = fire_runs s near
    step_runs s t dies near h = tt
    step_runs s t (holds pos octets) near h = h
    step_runs s t owes near h = h
    step_runs s t keeps near h = h
    step_runs s t drops near h = h
    step_runs s t (advances count) near h = h
    step_runs s t (passes next) near h = h
    step_runs s t (forgets pos) near h = h
    step_runs s t (pushes piece mapping) near h = h
    step_runs s t finishes near h = h
    step_runs s t (grows growth) near h = h
    step_runs s t (begins is) near h = h
    step_runs s t (joins window is) near h = h

    steps_run : (s t : EndState) → SubflowSteps now s t → IsNear now s.timing → Runs s → Runs t
    steps_run s t none near h = h
    steps_run s t (more u v steps step) near h = step_runs u t step (steps_near now s u steps near) (steps_run s u steps near h)

-- a timer that runs on does so
kept : (o : Option ℕ) (n : ℕ) → IfSome o (λ tick. (o ≡ Some tick) ⊎ (n ≤ tick))
kept None n = tt
kept (Some tick) n = inl refl

then_runs : (a b c : Option ℕ) (n m : ℕ) → m ≡ n → IfSome b (λ tick. (a ≡ Some tick) ⊎ (n ≤ tick)) → IfSome c (λ tick. (b ≡ Some tick) ⊎ (m ≤ tick)) → IfSome c (λ tick. (a ≡ Some tick) ⊎ (m ≤ tick))
then_runs a b None n m same first second = tt
then_runs a b (Some tick) n m same first second = ⊎_elim
    (λ is. ⊎_elim (λ was. inl was) (λ low. inr (omega (arith, low, same))) (subst (λ o. IfSome o (λ tick. (a ≡ Some tick) ⊎ (n ≤ tick))) is first))
    (λ low. inr low)
    second

-- ---- a path

module _ {C : Type 0} where
  abbrev Timer : Side → PathState C → Option ℕ
  Timer s p = (end_at s p).tcp.timing.timer

  -- from then on, as the clock stands
  record Since (p q : PathState C) : Type 0 where
    clock : q.clock ≡ p.clock
    near : TimersAreNear p → TimersAreNear q
    runs : TimersAreNear p → (s : Side) → RunsForASecond s p q

  near_at : (p q : PathState C) → PathStep p q → Ticks p q → TimersAreNear p → TimersAreNear q
  near_at p q x ticks h = record {
    clock = (let most = ticks.most h.clock in omega (arith, most, ticks.until));
    a = steps_near q.clock p.a.tcp q.a.tcp x.a.subflow (later p.clock q.clock p.a.tcp.timing ticks.clock h.a);
    b = steps_near q.clock p.b.tcp q.b.tcp x.b.subflow (later p.clock q.clock p.b.tcp.timing ticks.clock h.b);
  }

  runs_at : (p q : PathState C) → PathStep p q → p.clock ≤ q.clock → TimersAreNear p → (s : Side) → RunsForASecond s p q
  runs_at p q x up h A = steps_run (λ tick. (Timer A p ≡ Some tick) ⊎ (q.clock + 1000 ≤ tick)) q.clock (λ tick low. inr low) p.a.tcp q.a.tcp x.a.subflow (later p.clock q.clock p.a.tcp.timing up h.a) (kept (Timer A p) (q.clock + 1000))
  runs_at p q x up h B = steps_run (λ tick. (Timer B p ≡ Some tick) ⊎ (q.clock + 1000 ≤ tick)) q.clock (λ tick low. inr low) p.b.tcp q.b.tcp x.b.subflow (later p.clock q.clock p.b.tcp.timing up h.b) (kept (Timer B p) (q.clock + 1000))

  passed_since : (d : Duty) (p : PathState C) → Since p (passed d p)
  passed_since d p =
      let same = (passed_same d p).clock in
      record {
        clock = same;
        near = λ h. near_at p (passed d p) (passed_steps d p) (passed_ticks d p) h;
        runs = λ h. runs_at p (passed d p) (passed_steps d p) (omega (arith, same)) h;
      }

  since_lasts : Lasts (λ (p q : PathState C). Since p q)
  since_lasts = record {
    agenda = λ ds p. record { clock = refl; near = λ h. record { clock = h.clock; a = h.a; b = h.b }; runs = λ h s. kept (Timer s p) (p.clock + 1000) };
    chains = λ p q r x y. record {
      clock = y.clock ∙ x.clock;
      near = λ h. y.near (x.near h);
      runs = λ h s. then_runs (Timer s p) (Timer s q) (Timer s r) (q.clock + 1000) (r.clock + 1000) (ap (λ n. n + 1000) y.clock) (x.runs h s) (y.runs (x.near h) s);
    };
    passes = λ d p. passed_since d p;
  }

  takes_runs : (k : Codec C) (r : Reply) (p : PathState C) → TimersAreNear p → (s : Side) → RunsForASecond s p (takes k r p)
  takes_runs k r p h s = by p.agenda h
    where
      by : (ds : List Duty) → let x = with_agenda ds p in TimersAreNear x → RunsForASecond s x (takes k r x)
      by [] h = kept (Timer s p) (p.clock + 1000)
      by (d ∷ ds) h =
          let x : PathState C = with_agenda (d ∷ ds) p in
          let y : PathState C = answered k d r x in
          let q : PathState C = settled y.agenda y in
          let ticks = answered_ticks k d r x in
          let since : Since y q = settled_lasts (λ p q. Since p q) since_lasts y.agenda y in
          then_runs (Timer s x) (Timer s y) (Timer s q) (y.clock + 1000) (q.clock + 1000) (ap (λ n. n + 1000) since.clock)
          (runs_at x y (answered_steps k d r x) ticks.clock h s) (since.runs (near_at x y (answered_steps k d r x) ticks h) s)

  next_runs : (p : PathState C) → TimersAreNear p → (s : Side) → RunsForASecond s p (next_round p)
  next_runs p h s =
      let since : Since x (next_round p) = begins_lasts (λ p q. Since p q) since_lasts x in
      let up : p.clock ≤ p.until = (let early = h.clock in omega (arith, early)) in
      subst (λ o. IfSome (Timer s (next_round p)) (λ tick. (o ≡ Some tick) ⊎ ((next_round p).clock + 1000 ≤ tick))) (same s)
      (since.runs (record { clock = omega arith; a = later p.clock p.until p.a.tcp.timing up h.a; b = later p.clock p.until p.b.tcp.timing up h.b }) s)
    where
      x : PathState C
      x = record p { clock = p.until; until = p.until + 100 }

      same : (t : Side) → Timer t x ≡ Timer t p
      same A = refl
      same B = refl

  -- ---- the world

  abbrev Near : Actor C → Type 0
  Near = HoldsOfKind (λ app. Unit {0}) TimersAreNear

  abbrev Between : Actor C → Actor C → Type 0
  Between m n = Near m → TimersRunForASecond m n

  member_takes_runs : (k : Codec C) (r : Reply) (m : Actor C) → Between m (member_takes k r m)
  member_takes_runs k r (App a) h = tt
  member_takes_runs k r (Path p) h = takes_runs k r p h

  member_next_runs : (m : Actor C) → Between m (member_next m)
  member_next_runs (App a) h = tt
  member_next_runs (Path p) h = next_runs p h

  member_stays : (m : Actor C) → Between m m
  member_stays (App a) h = tt
  member_stays (Path p) h = λ s. kept (Timer s p) (p.clock + 1000)

  pub each_timer_runs_for_a_second : (k : Codec C) → EachTimerRunsForASecond k
  each_timer_runs_for_a_second k start turns turn actor c there =
      let next = turn_by k (λ books c d. Between c.member d.member) (λ books c. member_stays c.member) (λ books ask c is. member_takes_runs k (answer_to books ask) c.member)
      (λ books stamp c over. member_next_runs c.member) turn (reached k start turns) actor c there in
      (next.0, next.1, next.2 ((timers_run_out k start turns).each actor c there))
