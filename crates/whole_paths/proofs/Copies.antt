-- A copy leaves the link of a path by arriving, or with the path.
use Rattle.std.proofs.Common.{◌≡◌, refl, sym, subst, ap, ◌∙◌, ◌⊎◌, inl, inr, ⊎_elim, ℕ, zero, suc, ◌+◌, ◌<◌, ◌≤◌, ◌&&◌, ◌==◌, nat_lt, arith, Bool, true, false, true≢false, cond, not, if◌then◌else◌, Option, Some, None, List, [], ◌∷◌, length, position}
use Rattle.std.specs.List.{slice_get, position_or_len}
use Rattle.std.proofs.lemmas.Bool.{and_parts, eqb-true, lt-ltb, le-ltb, cases_lt}
use Rattle.std.proofs.lemmas.Option.{same_Some}
use Rattle.sides.specs.declared.side.Side.{Side}
use Rattle.sides.specs.declared.side.Side.TheVariants.{A, B}
use Rattle.link_script.specs.Places.{same_side}
use Rattle.link_model.specs.declared.flight.Flight.{Flight}
use Rattle.link_model.specs.declared.flight.Due.{Due}
use Rattle.link_model.specs.State.{LinkState}
use Rattle.link_model.specs.Steps.{next_number, arrivals, with_flights, fate_at, first_arrival, is_due, due_of, without, after_delivery, after_send, after_cut, arriving}
use Rattle.stream_lanes.specs.Words.{Has}
use Rattle.path_segments.specs.Heard.{HeardSegment}
use Rattle.subflow_send.specs.Records.{Record}
use Rattle.subflow_tcp.specs.States.{is_dead}
use Rattle.subflow_tcp.specs.declared.handshake.State.{State as EndPhase}
use Rattle.subflow_tcp.specs.declared.handshake.State.TheVariants as phase
use Rattle.actor_desk.specs.Words.{tail_of}
use Rattle.actor_desk.specs.declared.ask.Reply.{Reply}
use Rattle.path_agenda.specs.Agenda.{leaves, emission, resets}
use Rattle.path_agenda.specs.declared.duty.Duty.{Duty}
use Rattle.path_agenda.specs.declared.duty.Duty.TheVariants as duties
use Rattle.path_agenda.specs.declared.duty.AskDuty.TheVariants as ask_duties
use Rattle.path_agenda.specs.declared.duty.SendDuty.{SendDuty}
use Rattle.path_agenda.specs.declared.duty.SendDuty.TheVariants as send_duties
use Rattle.path_agenda.specs.declared.duty.SilentDuty.TheVariants as silent_duties
use Rattle.path_agenda.specs.declared.duty.StepDuty.TheVariants as step_duties
use Rattle.path_agenda.specs.declared.heard.Heard.{Heard}
use Rattle.path_agenda.specs.declared.heard.Heard.TheVariants as says
use Rattle.path_store.specs.declared.lines.LineAction.{LineAction}
use Rattle.path_store.specs.declared.lines.LineAction.TheVariants as actions
use Rattle.path_store.specs.declared.lines.LineLeft.{LineLeft}
use Rattle.path_core.specs.Arrival.{heard_in, copy_heard}
use Rattle.path_core.specs.Breaking.{answered_break, reset_on}
use Rattle.path_core.specs.Codec.{Codec}
use Rattle.path_core.specs.DssIn.{is_clash}
use Rattle.path_core.specs.Duties.{passed, sent_for, answered}
use Rattle.path_core.specs.Emission.{Grant, grant_in, answered_grant, answered_data, first_unsent}
use Rattle.path_core.specs.End.{died}
use Rattle.path_core.specs.Events.{next_event, after_line, happens_if}
use Rattle.path_core.specs.Fallback.{breaks_by_ack}
use Rattle.path_core.specs.MpJoin.{is_never, never_joined, keys_begun, opened_by}
use Rattle.path_core.specs.State.{PathState, at_tick, end_at, goes_on}
use Rattle.path_core.specs.Standing.{answered_ack_out}
use Rattle.path_core.specs.Steps.{takes, next_round}
use Rattle.path_core.specs.Treating.{answered_item, item_of}
use Rattle.path_core.specs.declared.events.Event.{Event}
use Rattle.path_core.specs.declared.events.Event.TheVariants as happenings
use Rattle.world_laws.specs.declared.member.Member.TheVariants.{App, Path}
use Rattle.world_laws.specs.Actors.{Actor, member_takes, member_next}
use Rattle.world_laws.specs.StampedBooks.{answer_to}
use Rattle.world_laws.specs.Writes.{OnlyAt, PathView, writes, side_of}
use Rattle.world_laws.proofs.Falls.FailedChecks.{fail_answered_so}
use Rattle.world_laws.proofs.Writes.Paths.{writes_no_more}
use Rattle.world_laws.proofs.Writes.Steps.{Lasts, unwritten, settled_lasts, begins_lasts}
use Rattle.whole_paths.specs.AsFar.{stage}
use Rattle.whole_paths.specs.EndSteps.{PathStep}
use Rattle.whole_paths.specs.Harms.{as_it_arrives}
use Rattle.whole_paths.specs.Copies.{IsUnderWay, GoesOnItsWay, CopiesGoOn, CopiesLeaveByArriving}
use Rattle.whole_paths.specs.Copies.GoesOnItsWay.{on, arrives, dies}
use Rattle.whole_paths.proofs.Duties.{passed_steps}
use Rattle.whole_paths.proofs.Links.{has_more}
use Rattle.whole_paths.proofs.Subflows.{steps_up}
use Rattle.whole_paths.proofs.Turns.{turn_each}

-- ---- an end that is dead

still_dead : (state next : EndPhase) → stage state ≤ stage next → is_dead state ≡ true → is_dead next ≡ true
still_dead phase.Dead next up dead = by next up
  where
    by : (next : EndPhase) → 7 ≤ stage next → is_dead next ≡ true
    by phase.Dead low = refl
    by _ low = absurd (omega (arith, low))
still_dead _ next up dead = absurd (true≢false (sym dead))

-- ---- a link

module _ {C : Type 0} where
  still_there : (P : Flight C → Type 0) (to : Side) (number : ℕ) (carried : C) (ticks : List ℕ) (flights : List (Flight C)) → Has P flights → Has P (with_flights to number carried ticks flights)
  still_there P to number carried [] flights h = h
  still_there P to number carried (tick ∷ ticks) flights h = still_there P to number carried ticks _ (has_more P _ flights h)

  sent_there : (P : Flight C → Type 0) (strip alter : Side → C → C) (s : Side) (carried : C) (size now : ℕ) (link : LinkState C) → Has P link.under_way
      → Has P (after_send strip alter s carried size now link).under_way
  sent_there P strip alter A carried size now link h =
      still_there P B (next_number A link) (as_it_arrives strip alter A carried now link) (arrivals (fate_at A (next_number A link) size now link) (first_arrival A (next_number A link) size now link)) link.under_way h
  sent_there P strip alter B carried size now link h =
      still_there P A (next_number B link) (as_it_arrives strip alter B carried now link) (arrivals (fate_at B (next_number B link) size now link) (first_arrival B (next_number B link) size now link)) link.under_way h

  pub without_first : (p : Flight C → Bool) (x : Flight C) (xs : List (Flight C)) → without (position p (x ∷ xs)) (x ∷ xs) ≡ (if p x then xs else x ∷ without (position p xs) xs)
  without_first p x xs = by (p x) (position_or_len p xs) (length xs)
    where
      place : Bool → ℕ → ℕ
      place b m = cond (not b) (1 + m) 0

      later : (b : Bool) (m : ℕ) → without (cond b (Some (suc m)) None) (x ∷ xs) ≡ x ∷ without (cond b (Some m) None) xs
      later true m = refl
      later false m = refl

      one : (m : ℕ) → 1 + m ≡ suc m
      one m = omega arith

      test : (m n : ℕ) → (m < n) ⊎ (n ≤ m) → nat_lt (1 + m) (suc n) ≡ nat_lt m n
      test m n (inl low) = lt-ltb (1 + m) (suc n) (omega (arith, low)) ∙ sym (lt-ltb m n low)
      test m n (inr high) = le-ltb (1 + m) (suc n) (omega (arith, high)) ∙ sym (le-ltb m n high)

      by : (b : Bool) (m n : ℕ) → without (cond (nat_lt (place b m) (suc n)) (Some (place b m)) None) (x ∷ xs) ≡ (if b then xs else x ∷ without (cond (nat_lt m n) (Some m) None) xs)
      by true m n = ap (λ (b : Bool). without (cond b (Some 0) None) (x ∷ xs)) (lt-ltb 0 (suc n) (omega arith))
      by false m n =
          ap (λ (k : ℕ). without (cond (nat_lt (1 + m) (suc n)) (Some k) None) (x ∷ xs)) (one m)
          ∙ ap (λ (b : Bool). without (cond b (Some (suc m)) None) (x ∷ xs)) (test m n (cases_lt m n)) ∙ later (nat_lt m n) m

  -- a copy stays, or it is the one that arrives
  delivered : (due : Due) (f : Flight C) (flights : List (Flight C)) → Has (λ g. g ≡ f) flights
      → Has (λ g. g ≡ f) (without (position (is_due due) flights) flights) ⊎ (is_due due f ≡ true)
  delivered due f flights h = at flights h.at h.item h.there h.holds
    where
      Left : List (Flight C) → Type 0
      Left xs = Has (λ g. g ≡ f) xs ⊎ (is_due due f ≡ true)

      behind : (x : Flight C) (xs : List (Flight C)) → Left xs → Left (x ∷ xs)
      behind x xs = ⊎_elim (λ h. inl (record { at = suc h.at; item = h.item; there = h.there; holds = h.holds })) (λ due. inr due)

      at : (xs : List (Flight C)) (i : ℕ) (g : Flight C) → slice_get xs i ≡ Some g → g ≡ f → Left (without (position (is_due due) xs) xs)
      at [] i g there holds = cc
      at (x ∷ xs) zero g there holds = subst Left (sym (without_first (is_due due) x xs)) (by (is_due due x) refl)
        where
          by : (b : Bool) → is_due due x ≡ b → Left (if b then xs else x ∷ without (position (is_due due) xs) xs)
          by true is = inr (subst (λ y. is_due due y ≡ true) (same_Some x g there ∙ holds) is)
          by false is = inl (record { at = 0; item = g; there = there; holds = holds })
      at (x ∷ xs) (suc i) g there holds = subst Left (sym (without_first (is_due due) x xs)) (by (is_due due x) (at xs i g there holds))
        where
          by : (b : Bool) → Left (without (position (is_due due) xs) xs) → Left (if b then xs else x ∷ without (position (is_due due) xs) xs)
          by true rest = inl (record { at = i; item = g; there = there; holds = holds })
          by false rest = behind x (without (position (is_due due) xs) xs) rest

  due_is : (due : Due) (f : Flight C) → is_due due f ≡ true → due ≡ due_of f
  due_is due f is =
      let parts = and_parts (f.tick == due.tick) (same_side f.to due.to && f.number == due.copy) is in
      let more = and_parts (same_side f.to due.to) (f.number == due.copy) parts.1 in
      same (eqb-true f.tick due.tick parts.0) (side f.to due.to more.0) (eqb-true f.number due.copy more.1)
    where
      side : (s t : Side) → same_side s t ≡ true → s ≡ t
      side A A is = refl
      side B B is = refl
      side A B is = cc
      side B A is = cc

      same : f.tick ≡ due.tick → f.to ≡ due.to → f.number ≡ due.copy → due ≡ due_of f
      same tick to number = rw (tick, to, number) refl

  -- ---- what each duty makes of it

  -- nothing; it takes a segment, at the same tick; it delivers the next copy; or it is cut
  pub data LinkStep (d : Duty) (k : Codec C) (p q : PathState C) : Type 0 where
    stays : q.link ≡ p.link → LinkStep d k p q
    hands : (s : Side) (carried : C) (size : ℕ) → q.clock ≡ p.clock → q.link ≡ after_send (k.strips p.profile.spelling) (k.alters p.profile.spelling) s carried size p.clock p.link → LinkStep d k p q
    delivers : d ≡ duties.Step step_duties.Events → (due : Due) → next_event p ≡ Some (happenings.Arrives due) → q.link ≡ after_delivery due p.link → LinkStep d k p q
    is_cut : (line : LineLeft) → next_event p ≡ Some (happenings.Takes line) → line.action ≡ actions.Die → q.link ≡ after_cut p.link → is_dead q.a.tcp.state ≡ true → LinkStep d k p q

  send_step : {any : Duty} (k : Codec C) (d : SendDuty) (p : PathState C) → LinkStep any k p (sent_for k d p)
  send_step k (send_duties.Update s) p = hands s _ _ refl refl
  send_step k d p = hands (side_of (duties.Send d)) _ _ refl refl

  break_step : {any : Duty} (k : Codec C) (s : Side) (reason : ℕ) (r : Reply) (p : PathState C) → LinkStep any k p (answered_break k s reason r p)
  break_step {any} k s reason r p = by (end_at s p).treated.asked
    where
      by : (b : Bool) → LinkStep any k p (if b then answered_ack_out s r (resets s reason) p else reset_on k s (Some reason) (leaves s) p)
      by true = stays refl
      by false = hands s _ _ refl refl

  data_step : {any : Duty} (k : Codec C) (s : Side) (o : Option Record) (r : Reply) (p : PathState C) → LinkStep any k p (answered_data k s o r p)
  data_step {any} k s (Some unsent) r p = hands s _ _ refl refl
  data_step {any} k s None r p = by (grant_in r)
    where
      by : (o : Option Grant) → LinkStep any k p (answered_grant s o r p)
      by (Some grant) = stays refl
      by None = stays refl

  either : {any : Duty} (k : Codec C) (p q r : PathState C) (b : Bool) → LinkStep any k p q → LinkStep any k p r → LinkStep any k p (if b then q else r)
  either k p q r true x y = x
  either k p q r false x y = y

  item_step : {any : Duty} (k : Codec C) (s : Side) (o : Option Heard) (r : Reply) (p : PathState C) → LinkStep any k p (answered_item k s o r p)
  item_step {any} k s (Some (says.Mapping fin)) r p = either k p _ _ (is_clash (end_at s p)) (break_step k s 1 r p) (stays refl)
  item_step {any} k s (Some says.Fail) r p = fail_answered_so (LinkStep any k p) s r p (stays refl) (stays refl)
  item_step {any} k s None r p = stays refl
  item_step {any} k s (Some _) r p = stays refl

  line_step : (k : Codec C) (line : LineLeft) (p : PathState C) → next_event p ≡ Some (happenings.Takes line)
      → LinkStep (duties.Step step_duties.Events) k p (after_line line.action (record (at_tick line.tick p) { lines = tail_of p.lines }))
  line_step k line p next = by line.action refl
    where
      by : (action : LineAction) → line.action ≡ action → LinkStep (duties.Step step_duties.Events) k p (after_line action (record (at_tick line.tick p) { lines = tail_of p.lines }))
      by actions.Die is = is_cut line next is refl ((elim (is_dead p.a.tcp.state) as (λ b. is_dead p.a.tcp.state ≡ b → is_dead (if b then p.a else died p.a).tcp.state ≡ true) [ true ↦ λ dead. dead | false ↦ λ living. refl ]) refl)
      by (actions.Prio s backup) is = stays refl
      by (actions.Announce s id) is = stays refl
      by (actions.Withdraw s id) is = stays refl

  event_step : (k : Codec C) (o : Option Event) (r : Reply) (p : PathState C) → next_event p ≡ o → LinkStep (duties.Step step_duties.Events) k p (happens_if k o r p)
  event_step k None r p next = stays refl
  event_step k (Some (happenings.Joins tick)) r p next = by (is_never r)
    where
      q : PathState C
      q = record (at_tick tick p) { joined_at = None }

      by : (b : Bool) → LinkStep (duties.Step step_duties.Events) k p (if b then goes_on A (never_joined r (end_at A q)) (leaves A) q else goes_on A (opened_by (keys_begun r) (end_at A q)) (emission A) q)
      by true = stays refl
      by false = stays refl
  event_step k (Some (happenings.Takes line)) r p next = line_step k line p next
  event_step k (Some (happenings.Arrives due)) r p next = by (heard_in k due.to (arriving due p.link) p)
    where
      by : (o : Option HeardSegment) → LinkStep (duties.Step step_duties.Events) k p (copy_heard due.to o (record (at_tick due.tick p) { link = after_delivery due p.link }))
      by None = delivers refl due next refl
      by (Some heard) = delivers refl due next refl
  event_step k (Some (happenings.Fires s tick)) r p next = stays refl

  -- what may not write the link leaves it
  unlinked : (k : Codec C) (d : Duty) (r : Reply) (p : PathState C) → (writes d).link ≡ false → LinkStep d k p (answered k d r p)
  unlinked k d r p none =
      let only : OnlyAt (side_of d) (writes d) p (answered k d r p) = writes_no_more k d r p in
      stays (unwritten (writes d).link p.link (answered k d r p).link none (ap (λ (v : PathView C). v.link) only.same))

  pub link_step : (k : Codec C) (d : Duty) (r : Reply) (p : PathState C) → LinkStep d k p (answered k d r p)
  link_step k (duties.Send d) r p = send_step k d p
  link_step k (duties.Step step_duties.Events) r p = event_step k (next_event p) r p refl
  link_step k (duties.Step (step_duties.Data s)) r p = data_step k s (first_unsent (end_at s p)) r p
  link_step k (duties.Step (step_duties.Heard s index)) r p = item_step k s (item_of index (end_at s p)) r p
  link_step k (duties.Step (step_duties.PlainAck s)) r p = either k p _ _ (breaks_by_ack p.profile (end_at s p)) (break_step k s 6 r p) (stays refl)
  link_step k (duties.Step (step_duties.Unmapped s)) r p = break_step k s 6 r p
  link_step k d r p = unlinked k d r p refl

  pub passed_link : (d : Duty) (p : PathState C) → (passed d p).link ≡ p.link
  passed_link (duties.Ask (ask_duties.CheckFailed s)) p = refl
  passed_link (duties.Step (step_duties.Heard s index)) p = refl
  passed_link (duties.Step (step_duties.PlainAck s)) p = refl
  passed_link (duties.Step (step_duties.Unmapped s)) p = refl
  passed_link (duties.Silent (silent_duties.Timer s)) p = refl
  passed_link (duties.Silent (silent_duties.Keep s)) p = refl
  passed_link (duties.Silent (silent_duties.PassFin s)) p = refl
  passed_link _ p = refl

  -- ---- a copy

  goes_by : (k : Codec C) (f : Flight C) (d : Duty) (ds : List Duty) (p q : PathState C) → p.agenda ≡ d ∷ ds → LinkStep d k p q → IsUnderWay f p → GoesOnItsWay f p q
  goes_by k f d ds p q agenda (stays is) h = on (subst (λ (l : LinkState C). Has (λ g. g ≡ f) l.under_way) (sym is) h)
  goes_by k f d ds p q agenda (hands s carried size still is) h = on (subst (λ (l : LinkState C). Has (λ g. g ≡ f) l.under_way) (sym is) (sent_there (λ g. g ≡ f) (k.strips p.profile.spelling) (k.alters p.profile.spelling) s carried size p.clock p.link h))
  goes_by k f d ds p q agenda (delivers event due next is) h = ⊎_elim
      (λ there. on (subst (λ (l : LinkState C). Has (λ g. g ≡ f) l.under_way) (sym is) there))
      (λ arrived. arrives ds (agenda ∙ ap (λ d. d ∷ ds) event) (next ∙ ap (λ x. Some (happenings.Arrives x)) (due_is due f arrived)))
      (delivered due f p.link.under_way h)
  goes_by k f d ds p q agenda (is_cut line next is cut dead) h = dies line next is dead

  abbrev pub LinkStays : PathState C → PathState C → Type 0
  LinkStays p q = q.link ≡ p.link

  -- an end that is dead stays so
  abbrev pub DeadStays : PathState C → PathState C → Type 0
  DeadStays p q = (s : Side) → is_dead (end_at s p).tcp.state ≡ true → is_dead (end_at s q).tcp.state ≡ true

  pub step_dead : (p q : PathState C) → PathStep p q → DeadStays p q
  step_dead p q x A = still_dead p.a.tcp.state q.a.tcp.state (steps_up q.clock p.a.tcp q.a.tcp x.a.subflow).state
  step_dead p q x B = still_dead p.b.tcp.state q.b.tcp.state (steps_up q.clock p.b.tcp q.b.tcp x.b.subflow).state

  pub dead_last : Lasts DeadStays
  dead_last = record { agenda = λ ds p s dead. dead; chains = λ p q r x y s dead. y s (x s dead); passes = λ d p. step_dead p (passed d p) (passed_steps d p) }

  pub links_last : Lasts LinkStays
  links_last = record { agenda = λ ds p. refl; chains = λ p q r x y. y ∙ x; passes = λ d p. passed_link d p }

  goes_further : (f : Flight C) (p q r : PathState C) → r.link ≡ q.link → DeadStays q r → GoesOnItsWay f p q → GoesOnItsWay f p r
  goes_further f p q r same still (on h) = on (subst (λ (l : LinkState C). Has (λ g. g ≡ f) l.under_way) (sym same) h)
  goes_further f p q r same still (arrives others first next) = arrives others first next
  goes_further f p q r same still (dies line next is dead) = dies line next is (still A dead)

  takes_on : (k : Codec C) (r : Reply) (p : PathState C) (f : Flight C) → IsUnderWay f p → GoesOnItsWay f p (takes k r p)
  takes_on k r p f h = by p.agenda h
    where
      by : (ds : List Duty) → IsUnderWay f p → let x = record p { agenda = ds } in GoesOnItsWay f x (takes k r x)
      by [] h = on h
      by (d ∷ ds) h =
          let x : PathState C = record p { agenda = d ∷ ds } in let q : PathState C = answered k d r x in
          goes_further f x q (takes k r x) (settled_lasts LinkStays links_last q.agenda q) (settled_lasts DeadStays dead_last q.agenda q) (goes_by k f d ds x q refl (link_step k d r x) h)

  next_on : (p : PathState C) (f : Flight C) → IsUnderWay f p → GoesOnItsWay f p (next_round p)
  next_on p f h =
      let q : PathState C = record p { clock = p.until; until = p.until + 100 } in
      goes_further f p q (next_round p) (begins_lasts LinkStays links_last q) (begins_lasts DeadStays dead_last q) (on h)

  -- ---- the world

  member_on : (k : Codec C) (r : Reply) (m : Actor C) → CopiesGoOn m (member_takes k r m)
  member_on k r (App a) = tt
  member_on k r (Path p) = λ f h. takes_on k r p f h

  member_next_on : (m : Actor C) → CopiesGoOn m (member_next m)
  member_next_on (App a) = tt
  member_next_on (Path p) = λ f h. next_on p f h

  member_stays : (m : Actor C) → CopiesGoOn m m
  member_stays (App a) = tt
  member_stays (Path p) = λ f h. on h

  pub copies_leave : (k : Codec C) → CopiesLeaveByArriving k
  copies_leave k w turn actor c there = turn_each k (λ c d. CopiesGoOn c.member d.member) (λ c. member_stays c.member)
      (λ ask books c. member_on k (answer_to books ask) c.member) (λ stamp c over. member_next_on c.member) turn w actor c there
