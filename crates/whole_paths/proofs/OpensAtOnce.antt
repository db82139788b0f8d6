-- Path 0 opens the connection at once: it never waits for a tick, nor to join.
use Rattle.std.proofs.Common.{◌≡◌, refl, sym, ap, ◌∙◌, ℕ, zero, suc, ◌+◌, arith, nat_le, nat_lt, Bool, true, false, true≢false, if◌then◌else◌, Option, Some, None, List, [], ◌∷◌}
use Rattle.std.specs.Option.{option_and_then}
use Rattle.std.proofs.lemmas.Bool.{both_ways, lt-ltb}
use Rattle.sides.specs.declared.side.Side.{Side}
use Rattle.sides.specs.declared.side.Side.TheVariants.{A, B}
use Rattle.stream_lanes.specs.Words.{Every}
use Rattle.link_model.specs.declared.flight.Due.{Due}
use Rattle.link_model.specs.Steps.{after_delivery, arriving, next_due}
use Rattle.subflow_tcp.specs.States.{is_waiting}
use Rattle.actor_desk.specs.declared.ask.Reply.{Reply}
use Rattle.actor_desk.specs.Words.{tail_of}
use Rattle.path_agenda.specs.Agenda.{emission, leaves}
use Rattle.path_agenda.specs.declared.duty.Duty.{Duty}
use Rattle.path_agenda.specs.declared.duty.Duty.TheVariants as duties
use Rattle.path_agenda.specs.declared.duty.SendDuty.TheVariants as send_duties
use Rattle.path_agenda.specs.declared.duty.SilentDuty.TheVariants as silent_duties
use Rattle.path_agenda.specs.declared.duty.StepDuty.TheVariants as step_duties
use Rattle.path_store.specs.declared.lines.LineAction.{LineAction}
use Rattle.path_store.specs.declared.lines.LineAction.TheVariants as actions
use Rattle.path_store.specs.declared.lines.LineLeft.{LineLeft}
use Rattle.path_core.specs.Arrival.{copy_heard, heard_in}
use Rattle.path_core.specs.Codec.{Codec}
use Rattle.path_core.specs.Duties.{answered, passed}
use Rattle.path_core.specs.Events.{after_line, before, earlier, earliest, happens_if, next_copy, next_event, next_join, next_line, tick_of}
use Rattle.path_core.specs.MpJoin.{is_joined, is_never, keys_begun, never_joined, opened_by}
use Rattle.path_core.specs.Profile.{Profile}
use Rattle.path_core.specs.Start.{waiting_path}
use Rattle.path_core.specs.State.{PathState, at_tick, goes_on, path_of}
use Rattle.path_core.specs.Timer.{next_fire}
use Rattle.path_core.specs.declared.events.Event.{Event}
use Rattle.path_core.specs.declared.events.Event.TheVariants as happenings
use Rattle.world_laws.specs.declared.member.Member.TheVariants.{App, Path}
use Rattle.world_laws.specs.Actors.{Actor, ActorCrew, member_next, member_takes}
use Rattle.world_laws.specs.Members.{HoldsOfKind}
use Rattle.world_laws.specs.Openings.{PathPlan, Start, opened_world, path_begins}
use Rattle.world_laws.specs.StampedBooks.{answer_to}
use Rattle.world_laws.specs.Worlds.{Turn, world_run}
use Rattle.world_laws.specs.Writes.{PathView, writes}
use Rattle.world_laws.proofs.Rounds.Lifting.{opened_lifted, run_lifted}
use Rattle.world_laws.proofs.Writes.Paths.{passes_no_more, writes_no_more}
use Rattle.world_laws.proofs.Writes.Steps.{Lasts, begins_lasts, takes_lasts, unwritten}
use Rattle.whole_paths.specs.EndSteps.{PathStep}
use Rattle.whole_paths.proofs.Duties.{answered_steps, passed_steps}
use Rattle.whole_paths.proofs.Listening.{steps_stay}

-- ---- no join comes next where none is to come

abbrev is_join : Option Event → Bool
is_join (Some (happenings.Joins tick)) = true
is_join _ = false

earlier_joins : (x y : Option Event) → is_join x ≡ false → is_join y ≡ false → is_join (earlier x y) ≡ false
earlier_joins None y one other = other
earlier_joins (Some x) None one other = one
earlier_joins (Some x) (Some y) one other = elim (nat_le (tick_of x) (tick_of y)) as (λ b. is_join (if b then Some x else Some y) ≡ false) [ true ↦ one | false ↦ other ]

line_joins : (lines : List LineLeft) → is_join (next_line lines) ≡ false
line_joins [] = refl
line_joins (line ∷ lines) = refl

copy_joins : (o : Option Due) → is_join (next_copy o) ≡ false
copy_joins None = refl
copy_joins (Some due) = refl

fire_joins : (s : Side) (o : Option ℕ) → is_join (next_fire s o) ≡ false
fire_joins s None = refl
fire_joins s (Some tick) = refl

in_round : (until : ℕ) (o : Option Event) → is_join o ≡ false → is_join (option_and_then (before until) o) ≡ false
in_round until None none = refl
in_round until (Some event) none = elim (nat_lt (tick_of event) until) as (λ b. is_join (if b then Some event else None) ≡ false) [ true ↦ none | false ↦ refl ]

module _ {C : Type 0} where
  pub no_join_comes : (p : PathState C) → p.joined_at ≡ None → (tick : ℕ) → next_event p ≡ Some (happenings.Joins tick) → ⊥
  no_join_comes p none tick next =
      true≢false (sym (ap is_join next) ∙ in_round p.until (earliest p)
      (earlier_joins (next_join p.a.tcp.state p.joined_at) _ (ap (λ o. is_join (next_join p.a.tcp.state o)) none)
      (earlier_joins (next_line p.lines) _ (line_joins p.lines)
      (earlier_joins (next_copy (next_due p.link.under_way)) _ (copy_joins (next_due p.link.under_way))
      (earlier_joins (next_fire A p.a.tcp.timing.timer) (next_fire B p.b.tcp.timing.timer) (fire_joins A p.a.tcp.timing.timer) (fire_joins B p.b.tcp.timing.timer))))))

  -- ---- a path

  -- the path that opens the connection has no join before it, and its end doesn't wait; the link has the path's number
  pub record OpensAtOnce (p : PathState C) : Type 0 where
    pub number : path_of p ≡ p.profile.spelling.path
    pub joins : is_joined p.profile ≡ false → p.joined_at ≡ None
    pub opens : is_joined p.profile ≡ false → is_waiting p.a.tcp.state ≡ false

  abbrev GoOn : PathState C → PathState C → Type 0
  GoOn p q = OpensAtOnce p → OpensAtOnce q

  goes_so : (p q : PathState C) → path_of q ≡ path_of p → q.profile ≡ p.profile → (p.joined_at ≡ None → q.joined_at ≡ None) → PathStep p q → GoOn p q
  goes_so p q number profile joins x h = record {
    number = number ∙ h.number ∙ ap (λ (c : Profile). c.spelling.path) (sym profile);
    joins = λ first. joins (h.joins (ap is_joined (sym profile) ∙ first));
    opens = λ first. by (is_waiting q.a.tcp.state) refl (h.opens (ap is_joined (sym profile) ∙ first));
  }
    where
      by : (b : Bool) → is_waiting q.a.tcp.state ≡ b → is_waiting p.a.tcp.state ≡ false → is_waiting q.a.tcp.state ≡ false
      by false is never = is
      by true is never = absurd (both_ways _ never (steps_stay q.clock p.a.tcp q.a.tcp x.a.subflow is))

  line_same : (action : LineAction) (p : PathState C) → (after_line action p).joined_at ≡ p.joined_at
  line_same actions.Die p = refl
  line_same (actions.Prio s backup) p = refl
  line_same (actions.Announce s id) p = refl
  line_same (actions.Withdraw s id) p = refl

  event_joins : (k : Codec C) (o : Option Event) (r : Reply) (p : PathState C) → p.joined_at ≡ None → (happens_if k o r p).joined_at ≡ None
  event_joins k None r p none = none
  event_joins k (Some (happenings.Joins tick)) r p none =
      let q : PathState C = record (at_tick tick p) { joined_at = None } in
      elim (is_never r) as (λ b. (if b then goes_on A (never_joined r q.a) (leaves A) q else goes_on A (opened_by (keys_begun r) q.a) (emission A) q).joined_at ≡ None) [ true ↦ refl | false ↦ refl ]
  event_joins k (Some (happenings.Takes line)) r p none = line_same line.action (record (at_tick line.tick p) { lines = tail_of p.lines }) ∙ none
  event_joins k (Some (happenings.Arrives due)) r p none =
      elim (heard_in k due.to (arriving due p.link) p) as (λ o. (copy_heard due.to o (record (at_tick due.tick p) { link = after_delivery due p.link })).joined_at ≡ None)
      [ None ↦ none | Some heard ↦ none ]
  event_joins k (Some (happenings.Fires s tick)) r p none = none

  answered_joins : (k : Codec C) (d : Duty) (r : Reply) (p : PathState C) → p.joined_at ≡ None → (answered k d r p).joined_at ≡ None
  answered_joins k (duties.Step step_duties.Events) r p none = event_joins k (next_event p) r p none
  answered_joins k (duties.Send (send_duties.Update s)) r p none = none
  answered_joins k (duties.Silent d) r p none = none
  answered_joins k d r p none =
      unwritten (writes d).events p.joined_at (answered k d r p).joined_at refl (ap (λ (v : PathView C). v.joined_at) (writes_no_more k d r p).same) ∙ none

  passed_joins : (d : Duty) (p : PathState C) → p.joined_at ≡ None → (passed d p).joined_at ≡ None
  passed_joins (duties.Step step_duties.Events) p none = none
  passed_joins (duties.Send (send_duties.Update s)) p none = none
  passed_joins (duties.Silent (silent_duties.Timer s)) p none = none
  passed_joins d p none = unwritten (writes d).events p.joined_at (passed d p).joined_at refl (ap (λ (v : PathView C). v.joined_at) (passes_no_more d p).same) ∙ none

  answered_opens : (k : Codec C) (d : Duty) (r : Reply) (p : PathState C) → GoOn p (answered k d r p)
  answered_opens k d r p =
      let same = (writes_no_more k d r p).same in
      goes_so p (answered k d r p) (ap (λ (v : PathView C). v.number) same) (ap (λ (v : PathView C). v.profile) same) (answered_joins k d r p) (answered_steps k d r p)

  passed_opens : (d : Duty) (p : PathState C) → GoOn p (passed d p)
  passed_opens d p =
      let same = (passes_no_more d p).same in
      goes_so p (passed d p) (ap (λ (v : PathView C). v.number) same) (ap (λ (v : PathView C). v.profile) same) (passed_joins d p) (passed_steps d p)

  opens_last : Lasts (λ (p q : PathState C). GoOn p q)
  opens_last = record {
    agenda = λ ds p h. record { number = h.number; joins = h.joins; opens = h.opens };
    chains = λ p q r x y h. y (x h);
    passes = λ d p. passed_opens d p;
  }

  -- ---- the world

  abbrev OpeningMember : Actor C → Type 0
  OpeningMember = HoldsOfKind (λ app. Unit {0}) (λ (p : PathState C). OpensAtOnce p)

  member_takes_opens : (k : Codec C) (r : Reply) (m : Actor C) → OpeningMember m → OpeningMember (member_takes k r m)
  member_takes_opens k r (App a) h = tt
  member_takes_opens k r (Path p) h = takes_lasts (λ p q. GoOn p q) opens_last k r p (λ d. answered_opens k d r p) h

  member_next_opens : (m : Actor C) → OpeningMember m → OpeningMember (member_next m)
  member_next_opens (App a) h = tt
  member_next_opens (Path p) h =
      let q : PathState C = record p { clock = p.until; until = p.until + 100 } in
      begins_lasts (λ p q. GoOn p q) opens_last q (record { number = h.number; joins = h.joins; opens = h.opens })

  first_opens : (start : Start) (number : ℕ) (plan : PathPlan) → OpensAtOnce (waiting_path {C = C} (path_begins start number plan) start.lines)
  first_opens start zero plan = record { number = refl; joins = λ first. refl; opens = λ first. refl }
  first_opens start (suc number) plan = record { number = refl; joins = λ first. absurd (both_ways (nat_lt 0 (suc number)) first (lt-ltb 0 (suc number) (omega arith))); opens = λ first. absurd (both_ways (nat_lt 0 (suc number)) first (lt-ltb 0 (suc number) (omega arith))) }

  -- on each path, at every moment
  pub each_opens_at_once : (k : Codec C) (start : Start) (turns : List Turn) → Every (λ (c : ActorCrew C). OpeningMember c.member) (world_run k turns (opened_world start)).crew
  each_opens_at_once k start turns = run_lifted k (λ c. OpeningMember c.member)
      (λ books c x is h. member_takes_opens k (answer_to books x) c.member h) (λ stamp c over h. member_next_opens c.member h) turns (opened_world start)
      (opened_lifted (λ c. OpeningMember c.member) start tt tt (λ number plan there.
      (let p : PathState C = waiting_path (path_begins start number plan) start.lines in begins_lasts (λ p q. GoOn p q) opens_last p (first_opens start number plan))))
