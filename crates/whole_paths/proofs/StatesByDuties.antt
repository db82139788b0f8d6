-- Each duty leaves the states of both ends of a path, or an end dies by it, but for those by which an end opens, or sends its FIN.
use Rattle.std.proofs.Common.{◌≡◌, refl, sym, subst, ap, ◌∙◌, ◌⊎◌, inl, inr, ℕ, Bool, true, false, true≢false, if◌then◌else◌, Option, Some, None, List, ◌∷◌}
use Rattle.std.specs.List.{position}
use Rattle.path_segments.specs.Heard.{HeardSegment}
use Rattle.sides.specs.declared.side.Side.{Side}
use Rattle.sides.specs.declared.side.Side.TheVariants.{A, B}
use Rattle.sides.specs.Side.{peer}
use Rattle.link_model.specs.Steps.{arriving, after_delivery}
use Rattle.link_model.specs.declared.flight.Due.{Due}
use Rattle.subflow_send.specs.Records.{Record}
use Rattle.subflow_tcp.specs.declared.segments.Occasion.{Occasion}
use Rattle.subflow_tcp.specs.declared.segments.Occasion.TheVariants as occasions
use Rattle.subflow_tcp.specs.Emitting.{after_sending}
use Rattle.subflow_tcp.specs.Expiring.{after_expiry, is_sixth}
use Rattle.subflow_tcp.specs.State.{EndState}
use Rattle.subflow_tcp.specs.Taking.{after_death}
use Rattle.actor_desk.specs.declared.ask.Reply.{Reply}
use Rattle.actor_desk.specs.Words.{tail_of, pick}
use Rattle.path_agenda.specs.Agenda.{leaves, resets}
use Rattle.path_agenda.specs.declared.duty.Duty.{Duty}
use Rattle.path_agenda.specs.declared.duty.Duty.TheVariants as duties
use Rattle.path_agenda.specs.declared.duty.AskDuty.TheVariants as ask_duties
use Rattle.path_agenda.specs.declared.duty.SendDuty.{SendDuty}
use Rattle.path_agenda.specs.declared.duty.SendDuty.TheVariants as send_duties
use Rattle.path_agenda.specs.declared.duty.SilentDuty.TheVariants as silent_duties
use Rattle.path_agenda.specs.declared.duty.StepDuty.TheVariants as step_duties
use Rattle.path_agenda.specs.declared.heard.Heard.{Heard}
use Rattle.path_agenda.specs.declared.heard.Heard.TheVariants as says
use Rattle.path_store.specs.declared.lines.LineAction.{LineAction}
use Rattle.path_store.specs.declared.lines.LineAction.TheVariants as actions
use Rattle.path_core.specs.Addresses.{with_priority}
use Rattle.path_core.specs.Arrival.{copy_heard, heard_in}
use Rattle.path_core.specs.Breaking.{answered_break, reset_on, died_unless_dead}
use Rattle.path_core.specs.Codec.{Codec}
use Rattle.path_core.specs.DssIn.{counts, is_clash, with_learned, with_skipped, with_data_fin}
use Rattle.path_core.specs.Duties.{passed, sent_for, answered}
use Rattle.path_core.specs.Emission.{answer_occasion, answered_data, answered_grant, first_unsent, Grant, grant_in, resend_occasion}
use Rattle.path_core.specs.End.{PathEnd, died}
use Rattle.path_core.specs.Events.{next_event, after_line, happens_if}
use Rattle.path_core.specs.Fallback.{breaks_by_ack}
use Rattle.path_core.specs.Standing.{answered_ack_out, after_ack_out}
use Rattle.path_core.specs.State.{PathState, at_tick, end_at}
use Rattle.path_core.specs.Timer.{after_firing, timer_fired}
use Rattle.path_core.specs.Treating.{item_passed, answered_heard, answered_item, item_of}
use Rattle.path_core.specs.declared.events.Event.{Event}
use Rattle.path_core.specs.declared.events.Event.TheVariants as happenings
use Rattle.world_laws.specs.Writes.{EndWrites, EndView, Writes, Only, OnlyAt, nothing, writes, side_of}
use Rattle.world_laws.proofs.Falls.FailedChecks.{infinite_came_so, fail_answered_so}
use Rattle.world_laws.proofs.Writes.Paths.{writes_no_more, passes_no_more}
use Rattle.world_laws.proofs.Writes.Steps.{Lasts, unwritten, both_ends}
use Rattle.subflow_tcp.specs.States.{is_dead}
use Rattle.subflow_tcp.specs.Closing.{is_fin_next, after_passing_fin}
use Rattle.path_core.specs.DataFin.{after_pass_fin}
use Rattle.whole_paths.specs.Rising.{is_joining}

sends_so : (occasion : Occasion) (now : ℕ) (s : EndState) → (after_sending occasion now s).state ≡ s.state
sends_so = elim [ occasions.Reset ↦ λ now s. refl | _ ↦ λ now s. refl ]

-- it sends a FIN
abbrev pub is_finishing : SendDuty → Bool
is_finishing (send_duties.Fin s) = true
is_finishing _ = false

abbrev pub by_event : Duty
by_event = duties.Step step_duties.Events

-- ---- what both ends keep

module _ (R : PathEnd → PathEnd → Type 0) {C : Type 0} where
  pub record AllKept (p q : PathState C) : Type 0 where
    pub a : R p.a q.a
    pub b : R p.b q.b

  pub at_end : {p q : PathState C} → AllKept p q → (t : Side) → R (end_at t p) (end_at t q)
  at_end x A = x.a
  at_end x B = x.b

  pub from_there : (p q r : PathState C) → q.a ≡ p.a → q.b ≡ p.b → AllKept q r → AllKept p r
  from_there p q r a b x = record { a = subst (λ e. R e r.a) a x.a; b = subst (λ e. R e r.b) b x.b }

  -- an end keeps it, or goes further by this
  abbrev pub Fate : (Side → PathState C → Type 0) → Side → PathState C → PathState C → Type 0
  Fate By t p q = R (end_at t p) (end_at t q) ⊎ By t p

  pub ends : (By : Side → PathState C → Type 0) (p q : PathState C) → AllKept p q → (t : Side) → Fate By t p q
  ends By p q x A = inl x.a
  ends By p q x B = inl x.b

module _ (R : PathEnd → PathEnd → Type 0) (same : (e f : PathEnd) → f.tcp.state ≡ e.tcp.state → R e f) (gone : (e f : PathEnd) → is_dead f.tcp.state ≡ true → R e f) where
  only_kept : (w : EndWrites) (e f : PathEnd) → w.phase ≡ false → Only w e f → R e f
  only_kept w e f phase x = same e f (unwritten w.phase e.tcp.state f.tcp.state phase (ap (λ (v : EndView). v.phase) x.same))

  item_kept : (s : Side) (o : Option Heard) (e : PathEnd) → R e (item_passed s o e)
  item_kept s None e = same e e refl
  item_kept s (Some (says.Mapping fin)) e = elim (counts e) as (λ b. R e (if b then with_learned e else with_skipped e)) [ true ↦ same e (with_learned e) refl | false ↦ same e (with_skipped e) refl ]
  item_kept s (Some (says.DataFin place)) e = elim (counts e) as (λ b. R e (if b then with_data_fin place e else e)) [ true ↦ same e (with_data_fin place e) refl | false ↦ same e e refl ]
  item_kept s (Some _) e = same e _ refl

  fired_kept : (now : ℕ) (e : PathEnd) → R e (after_firing now e)
  fired_kept now e = elim (is_sixth e.tcp) as (λ b. R e (record e { tcp = if b then after_death true e.tcp else after_expiry now e.tcp })) [ true ↦ gone e _ refl | false ↦ same e _ refl ]

  died_kept : (e : PathEnd) → R e (died_unless_dead e)
  died_kept e = (elim (is_dead e.tcp.state) as (λ b. is_dead e.tcp.state ≡ b → R e (if b then e else died e)) [ true ↦ λ dead. same e e refl | false ↦ λ living. gone e (died e) refl ]) refl

  module _ {C : Type 0} where
    -- the end of this side becomes that one
    pub side : (s : Side) (f : PathEnd) (p q : PathState C) → R (end_at s p) f → q.a ≡ pick s f p.a → q.b ≡ pick s p.b f → AllKept R p q
    side A f p q x a b = record { a = subst (λ g. R p.a g) (sym a) x; b = subst (λ g. R p.b g) (sym b) (same p.b p.b refl) }
    side B f p q x a b = record { a = subst (λ g. R p.a g) (sym a) (same p.a p.a refl); b = subst (λ g. R p.b g) (sym b) x }

    calm : (s : Side) (f : PathEnd) (p q : PathState C) → f.tcp.state ≡ (end_at s p).tcp.state → q.a ≡ pick s f p.a → q.b ≡ pick s p.b f → AllKept R p q
    calm s f p q state a b = side s f p q (same (end_at s p) f state) a b

    dying : (s : Side) (f : PathEnd) (p q : PathState C) → is_dead f.tcp.state ≡ true → q.a ≡ pick s f p.a → q.b ≡ pick s p.b f → AllKept R p q
    dying s f p q dead a b = side s f p q (gone (end_at s p) f dead) a b

    sent : (occasion : Occasion) (s : Side) (f : PathEnd) (p q : PathState C) → f.tcp ≡ after_sending occasion p.clock (end_at s p).tcp → q.a ≡ pick s f p.a → q.b ≡ pick s p.b f → AllKept R p q
    sent occasion s f p q tcp a b = calm s f p q (ap (λ (t : EndState). t.state) tcp ∙ sends_so occasion p.clock (end_at s p).tcp) a b

    either : (b : Bool) (p q r : PathState C) → AllKept R p q → AllKept R p r → AllKept R p (if b then q else r)
    either true p q r x y = x
    either false p q r x y = y

    pub stay : (p q : PathState C) → q.a ≡ p.a → q.b ≡ p.b → AllKept R p q
    stay p q a b = record { a = subst (λ g. R p.a g) (sym a) (same p.a p.a refl); b = subst (λ g. R p.b g) (sym b) (same p.b p.b refl) }

    plain : (s : Side) (w : Writes) (p q : PathState C) → w.own.phase ≡ false → w.other ≡ nothing → OnlyAt s w p q → AllKept R p q
    plain s w p q phase none x = record { a = h.0; b = h.1 }
      where
        h : R p.a q.a × R p.b q.b
        h = both_ends (λ e f. R e f) s w p q (λ e f only. only_kept w.own e f phase only) (λ e f only. only_kept nothing e f refl (subst (λ v. Only v e f) none only)) x

    -- ---- what a reply makes of the ends

    break_kept : (k : Codec C) (s : Side) (reason : ℕ) (r : Reply) (p : PathState C) → AllKept R p (answered_break k s reason r p)
    break_kept k s reason r p = either (end_at s p).treated.asked p (answered_ack_out s r (resets s reason) p) (reset_on k s (Some reason) (leaves s) p)
        (calm s (after_ack_out r (end_at s p)) p _ refl refl refl) (dying s (died (end_at s p)) p _ refl refl refl)

    thing_kept : (k : Codec C) (s : Side) (item : Heard) (r : Reply) (p : PathState C) → AllKept R p (answered_heard k s item r p)
    thing_kept k s (says.DataAck next window) r p = calm s _ p _ refl refl refl
    thing_kept k s (says.Mapping fin) r p = either (is_clash (end_at s p)) p _ _ (break_kept k s 1 r p) (calm s _ p _ refl refl refl)
    thing_kept k s (says.DataFin place) r p = calm s _ p _ refl refl refl
    thing_kept k s (says.InfiniteMapping place position) r p =
        let e = end_at s p in side s _ p _ (infinite_came_so (λ f. R e f) place position r e (λ other. same e _ refl)) refl refl
    thing_kept k s (says.Keys own peer) r p = calm s _ p _ refl refl refl
    thing_kept k s (says.Notice notice) r p = calm s _ p _ refl refl refl
    thing_kept k s says.Fail r p = fail_answered_so (AllKept R p) s r p (calm s _ p _ refl refl refl) (calm s _ p _ refl refl refl)
    thing_kept k s _ r p = stay p _ refl refl

    things_kept : (k : Codec C) (s : Side) (item : Option Heard) (r : Reply) (p : PathState C) → AllKept R p (answered_item k s item r p)
    things_kept k s None r p = stay p _ refl refl
    things_kept k s (Some item) r p = thing_kept k s item r p

    grant_kept : (s : Side) (o : Option Grant) (r : Reply) (p : PathState C) → AllKept R p (answered_grant s o r p)
    grant_kept s (Some grant) r p = calm s _ p _ refl refl refl
    grant_kept s None r p = calm s _ p _ refl refl refl

    data_kept : (k : Codec C) (s : Side) (o : Option Record) (r : Reply) (p : PathState C) → AllKept R p (answered_data k s o r p)
    data_kept k s (Some unsent) r p = sent occasions.Unsent s _ p _ refl refl refl
    data_kept k s None r p = grant_kept s (grant_in r) r p

    send_kept : (k : Codec C) (d : SendDuty) (p : PathState C) → is_finishing d ≡ false → AllKept R p (sent_for k d p)
    send_kept k (send_duties.Syn s) p other = sent occasions.Unsent s _ p _ refl refl refl
    send_kept k (send_duties.SynAck s) p other = sent occasions.SynAck s _ p _ refl refl refl
    send_kept k (send_duties.Again s) p other = sent occasions.First s _ p _ refl refl refl
    send_kept k (send_duties.Answer s) p other = sent (answer_occasion (end_at s p)) s _ p _ refl refl refl
    send_kept k (send_duties.Resend s) p other = sent (resend_occasion (end_at s p)) s _ p _ refl refl refl
    send_kept k (send_duties.Fin s) p other = absurd (true≢false other)
    send_kept k (send_duties.Refuse s) p other = calm s _ p _ refl refl refl
    send_kept k (send_duties.ResetAnswer s) p other = calm s _ p _ refl refl refl
    send_kept k (send_duties.BreakReset s reason) p other = dying s _ p _ refl refl refl
    send_kept k (send_duties.Reset s) p other = dying s _ p _ refl refl refl
    send_kept k (send_duties.ResetNoted s) p other = dying s _ p _ refl refl refl
    send_kept k (send_duties.Update s) p other = sent occasions.Ack s _ p _ refl refl refl
    send_kept k (send_duties.FastClose s) p other = sent occasions.Ack s _ p _ refl refl refl
    send_kept k (send_duties.Notice s) p other = sent occasions.Ack s _ p _ refl refl refl
    send_kept k (send_duties.Acknowledge s) p other = sent occasions.Ack s _ p _ refl refl refl
    send_kept k (send_duties.DataFin s) p other = sent occasions.Ack s _ p _ refl refl refl

    -- ---- events

    module _ (k : Codec C) (By : Side → PathState C → Type 0)
        (joins : (t : Side) (tick : ℕ) (p : PathState C) → next_event p ≡ Some (happenings.Joins tick) → By t p)
        (joining : (t : Side) (d : Duty) (others : List Duty) (p : PathState C) → p.agenda ≡ d ∷ others → is_joining d ≡ true → By t p)
        (finishes : (s : Side) (others : List Duty) (p : PathState C) → p.agenda ≡ duties.Send (send_duties.Fin s) ∷ others → (t : Side) → Fate R By t p (sent_for k (send_duties.Fin s) p))
        (heard_fate : (due : Due) (others : List Duty) (p : PathState C) → p.agenda ≡ by_event ∷ others → next_event p ≡ Some (happenings.Arrives due) → (o : Option HeardSegment)
        → heard_in k due.to (arriving due p.link) p ≡ o → (t : Side) → Fate R By t p (copy_heard due.to o (record (at_tick due.tick p) { link = after_delivery due p.link }))) where
      event_fate : (o : Option Event) (others : List Duty) (r : Reply) (p : PathState C) → p.agenda ≡ by_event ∷ others → next_event p ≡ o → (t : Side) → Fate R By t p (happens_if k o r p)
      event_fate None others r p first next t = ends R By p (happens_if k None r p) (stay p (happens_if k None r p) refl refl) t
      event_fate (Some (happenings.Joins tick)) others r p first next t = inr (joins t tick p next)
      event_fate (Some (happenings.Takes line)) others r p first next t = by line.action
        where
          x : PathState C
          x = record (at_tick line.tick p) { lines = tail_of p.lines }

          by : (action : LineAction) → Fate R By t p (after_line action x)
          by actions.Die = ends R By p (after_line actions.Die x) (record { a = died_kept p.a; b = died_kept p.b }) t
          by (actions.Prio s backup) = ends R By p (after_line (actions.Prio s backup) x) (from_there R p x _ refl refl (calm s (with_priority backup (end_at s x)) x _ refl refl refl)) t
          by (actions.Announce s id) = ends R By p (after_line (actions.Announce s id) x) (stay p _ refl refl) t
          by (actions.Withdraw s id) = ends R By p (after_line (actions.Withdraw s id) x) (stay p _ refl refl) t
      event_fate (Some (happenings.Arrives due)) others r p first next t = heard_fate due others p first next (heard_in k due.to (arriving due p.link) p) refl t
      event_fate (Some (happenings.Fires s tick)) others r p first next t =
          ends R By p (timer_fired s (at_tick tick p)) (side s (after_firing (at_tick tick p).clock (end_at s p)) p _ (fired_kept (at_tick tick p).clock (end_at s p)) refl refl) t

      -- ---- any duty

      pub answered_fate : (d : Duty) (others : List Duty) (r : Reply) (p : PathState C) → p.agenda ≡ d ∷ others → (t : Side) → Fate R By t p (answered k d r p)
      answered_fate (duties.Step step_duties.Events) others r p first = event_fate (next_event p) others r p first refl
      answered_fate (duties.Ask ask_duties.JoinAgain) others r p first = λ t. inr (joining t _ others p first refl)
      answered_fate (duties.Ask (ask_duties.JoinHeard s)) others r p first = λ t. inr (joining t _ others p first refl)
      answered_fate (duties.Ask (ask_duties.LeaveNoted s)) others r p first = ends R By p (answered k (duties.Ask (ask_duties.LeaveNoted s)) r p) (dying s (died (end_at s p)) p (answered k (duties.Ask (ask_duties.LeaveNoted s)) r p) refl refl refl)
      answered_fate (duties.Step (step_duties.Heard s index)) others r p first = ends R By p _ (things_kept k s (item_of index (end_at s p)) r p)
      answered_fate (duties.Step (step_duties.PlainAck s)) others r p first = ends R By p _ (either (breaks_by_ack p.profile (end_at s p)) p _ _ (break_kept k s 6 r p) (calm s _ p _ refl refl refl))
      answered_fate (duties.Step (step_duties.Unmapped s)) others r p first = ends R By p _ (break_kept k s 6 r p)
      answered_fate (duties.Step (step_duties.Data s)) others r p first = ends R By p _ (data_kept k s (first_unsent (end_at s p)) r p)
      answered_fate (duties.Send (send_duties.Fin s)) others r p first = finishes s others p first
      answered_fate (duties.Send d) others r p first = ends R By p (sent_for k d p) (send_kept k d p refl)
      answered_fate (duties.Silent d) others r p first = ends R By p (answered k (duties.Silent d) r p) (stay p (answered k (duties.Silent d) r p) refl refl)
      answered_fate d others r p first = ends R By p (answered k d r p) (plain (side_of d) (writes d) p (answered k d r p) refl refl (writes_no_more k d r p))

  -- ---- duties that are passed

  module _ (on : (e f g : PathEnd) → R e f → R f g → R e g) (passes_fin : (e : PathEnd) → R e (record e { tcp = after_passing_fin e.tcp })) where
    fin_kept : (e : PathEnd) → R e (after_pass_fin e)
    fin_kept e = elim (is_fin_next e.tcp) as (λ b. R e (record e { tcp = if b then after_passing_fin e.tcp else e.tcp })) [ true ↦ passes_fin e | false ↦ same e e refl ]

    module _ {C : Type 0} where
      passed_kept : (d : Duty) (p : PathState C) → AllKept R p (passed d p)
      passed_kept (duties.Silent (silent_duties.PassFin s)) p = side s _ p _ (fin_kept (end_at s p)) refl refl
      passed_kept (duties.Step (step_duties.Heard s index)) p = side s _ p _ (item_kept s (item_of index (end_at s p)) (end_at s p)) refl refl
      passed_kept (duties.Step (step_duties.PlainAck s)) p = calm s _ p _ refl refl refl
      passed_kept (duties.Step (step_duties.Unmapped s)) p = calm s _ p _ refl refl refl
      passed_kept (duties.Step (step_duties.Data s)) p = stay p p refl refl
      passed_kept (duties.Ask ask_duties.JoinAgain) p = stay p p refl refl
      passed_kept (duties.Ask (ask_duties.JoinHeard s)) p = stay p p refl refl
      passed_kept (duties.Ask (ask_duties.LeaveNoted s)) p = stay p p refl refl
      passed_kept (duties.Step step_duties.Events) p = stay p p refl refl
      passed_kept (duties.Send d) p = stay p p refl refl
      passed_kept d p = plain (side_of d) (writes d) p (passed d p) refl refl (passes_no_more d p)

      pub kept_lasts : Lasts {C = C} (AllKept R)
      kept_lasts = record {
        agenda = λ ds p. stay p (record p { agenda = ds }) refl refl;
        chains = λ p q r x y. record { a = on p.a q.a r.a x.a y.a; b = on p.b q.b r.b x.b y.b };
        passes = λ d p. passed_kept d p;
      }
