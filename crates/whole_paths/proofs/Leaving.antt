-- An end that dies gives back what its path holds, before anything else is done but the same at the other end.
use Rattle.std.proofs.Common.{◌≡◌, refl, sym, subst, ap, ◌⊎◌, inl, inr, ⊎_elim, ℕ, ◌≤◌, arith, Bool, true, false, true≢false, if◌then◌else◌, Option, Some, None, List, [], ◌∷◌, ◌++◌, length}
use Rattle.std.proofs.lemmas.Bool.{both_ways}
use Rattle.path_segments.specs.Heard.{HeardSegment}
use Rattle.sides.specs.declared.side.Side.{Side}
use Rattle.sides.specs.declared.side.Side.TheVariants.{A, B}
use Rattle.fallback_state.specs.declared.fall.Event.TheVariants as fall_events
use Rattle.link_model.specs.Steps.{arriving, after_delivery}
use Rattle.subflow_tcp.specs.Expiring.{after_expiry, is_sixth}
use Rattle.subflow_tcp.specs.Opening.{after_begin}
use Rattle.subflow_tcp.specs.States.{is_dead, is_waiting}
use Rattle.subflow_tcp.specs.Taking.{after_death}
use Rattle.subflow_tcp.specs.declared.verdicts.Meaning.{Meaning}
use Rattle.subflow_tcp.specs.declared.verdicts.Meaning.TheVariants as means
use Rattle.actor_desk.specs.Words.{tail_of}
use Rattle.actor_desk.specs.declared.ask.Reply.{Reply}
use Rattle.path_agenda.specs.Agenda.{emission, leaves, resets, rest_of_turn}
use Rattle.path_agenda.specs.declared.duty.Duty.{Duty}
use Rattle.path_agenda.specs.declared.duty.Duty.TheVariants as duties
use Rattle.path_agenda.specs.declared.duty.AskDuty.TheVariants as ask_duties
use Rattle.path_agenda.specs.declared.duty.SendDuty.TheVariants as send_duties
use Rattle.path_agenda.specs.declared.duty.StepDuty.TheVariants as step_duties
use Rattle.path_agenda.specs.declared.heard.Heard.{Heard}
use Rattle.path_agenda.specs.declared.heard.Heard.TheVariants as says
use Rattle.path_agenda.specs.declared.keys.KeyPair.{KeyPair}
use Rattle.path_store.specs.declared.lines.LineAction.{LineAction}
use Rattle.path_store.specs.declared.lines.LineAction.TheVariants as actions
use Rattle.path_core.specs.Arrival.{after_judged, copy_heard, heard_in, judged_in, template_judged}
use Rattle.path_core.specs.Breaking.{answered_break, reset_on}
use Rattle.path_core.specs.Codec.{Codec}
use Rattle.path_core.specs.DssIn.{is_clash, with_learned}
use Rattle.path_core.specs.Duties.{answered, ask_for}
use Rattle.path_core.specs.Breaking.{return_ask}
use Rattle.path_core.specs.End.{PathEnd, died}
use Rattle.path_core.specs.Events.{after_line, happens_if, next_event}
use Rattle.path_core.specs.Fallback.{after_fell, answered_plain_ack, breaks_by_ack, fell_duties, with_plain_ack}
use Rattle.path_core.specs.Judged.{taken_as}
use Rattle.path_core.specs.MpJoin.{asked_at, is_joined, is_never, join_begun, keys_begun, never_joined, opened_by}
use Rattle.path_core.specs.OptionsIn.{options_heard, items_of}
use Rattle.path_core.specs.Standing.{answered_ack_out}
use Rattle.path_core.specs.State.{PathState, at_tick, end_at, goes_on, with_agenda}
use Rattle.path_core.specs.Steps.{settled, takes}
use Rattle.path_core.specs.Timer.{template_fired}
use Rattle.path_core.specs.Treating.{answered_heard, answered_item, item_of}
use Rattle.path_core.specs.declared.events.Event.{Event}
use Rattle.path_core.specs.declared.events.Event.TheVariants as happenings
use Rattle.path_core.specs.declared.judged.Judged.{Judged}
use Rattle.path_core.specs.declared.judged.Judged.TheVariants as judged
use Rattle.world_laws.specs.Writes.{side_of, writes}
use Rattle.world_laws.proofs.Falls.FailedChecks.{fail_answered_so, infinite_came_so}
use Rattle.world_laws.proofs.Writes.Paths.{writes_no_more}
use Rattle.world_laws.proofs.Writes.Steps.{settled_lasts}
use Rattle.whole_paths.specs.AsFar.{IsPathAsFar, stage}
use Rattle.whole_paths.specs.Holders.{IsToLeave, MayHold}
use Rattle.whole_paths.specs.Holders.{IsToLeave as leaving}
use Rattle.whole_paths.proofs.Deaths.{BothSpared, Spared, at_side, both_rest, finished, from_there, is_kill, joins_spared, judged_spared, plain, rests, side, spared, spared_lasts, spared_then}
use Rattle.whole_paths.proofs.GoesOn.{takes_up}

kill_leaves : (joined : Bool) (s : Side) (count : ℕ) (verdict : Judged) → is_kill (taken_as verdict) ≡ true → IsToLeave s (template_judged joined s count verdict)
kill_leaves joined s count (judged.As means.Kills) is = leaving.leaves rest_of_turn
kill_leaves joined s count (judged.As means.Ignored) is = absurd (true≢false (sym is))
kill_leaves joined s count (judged.As _) is = absurd (true≢false (sym is))
kill_leaves joined s count _ is = absurd (true≢false (sym is))

pub stage_up : {C : Type 0} (s : Side) (p q : PathState C) → IsPathAsFar p q → stage (end_at s p).tcp.state ≤ stage (end_at s q).tcp.state
stage_up A p q far = far.a.subflow.state
stage_up B p q far = far.b.subflow.state

-- A's end gives back first
a_dies : (c d : Bool) (rest : List Duty) → c ≡ false → IsToLeave A ((if c then [] else duties.Ask (ask_duties.Leave A) ∷ []) ++ ((if d then [] else duties.Ask (ask_duties.Leave B) ∷ []) ++ rest))
a_dies false d rest living = leaving.leaves _
a_dies true d rest living = absurd (true≢false living)

b_dies : (c d : Bool) (rest : List Duty) → d ≡ false → IsToLeave B ((if c then [] else duties.Ask (ask_duties.Leave A) ∷ []) ++ ((if d then [] else duties.Ask (ask_duties.Leave B) ∷ []) ++ rest))
b_dies true false rest living = leaving.leaves rest
b_dies false false rest living = leaving.behind A (duties.Ask (ask_duties.Leave B) ∷ rest) (leaving.leaves rest)
b_dies c true rest living = absurd (true≢false living)

opened_spared : (keys : Option KeyPair) (e : PathEnd) → Spared e (opened_by keys e)
opened_spared None e = rests e
opened_spared (Some keys) e = record {
  living = λ alive. elim (is_waiting e.tcp.state) as (λ w. is_dead (if w then after_begin e.tcp else e.tcp).state ≡ false) [ true ↦ refl | false ↦ alive ];
}

module _ {C : Type 0} where
  -- an end that lives does so still, or it is to leave
  abbrev pub Goes : Side → PathState C → PathState C → Type 0
  Goes t p q = Spared (end_at t p) (end_at t q) ⊎ IsToLeave t q.agenda

  record AllGo (p q : PathState C) : Type 0 where
    each : (t : Side) → Goes t p q

module _ {C : Type 0} (k : Codec C) where
  ends_go : (p q : PathState C) → BothSpared k p q → (t : Side) → Goes t p q
  ends_go p q x A = inl x.a
  ends_go p q x B = inl x.b

  all_go : (p q : PathState C) → BothSpared k p q → AllGo p q
  all_go p q x = record { each = ends_go p q x }

  -- the end of one side is to leave, and the other one stays
  one_goes : (s : Side) (e : PathEnd) (p q : PathState C) → q.a ≡ (goes_on s e [] p).a → q.b ≡ (goes_on s e [] p).b → IsToLeave s q.agenda → (t : Side) → Goes t p q
  one_goes A e p q a b l A = inr l
  one_goes A e p q a b l B = inl (subst (λ f. Spared p.b f) (sym b) (rests p.b))
  one_goes B e p q a b l A = inl (subst (λ f. Spared p.a f) (sym a) (rests p.a))
  one_goes B e p q a b l B = inr l

  one_leaves : (s : Side) (e : PathEnd) (p q : PathState C) → q.a ≡ (goes_on s e [] p).a → q.b ≡ (goes_on s e [] p).b → IsToLeave s q.agenda → AllGo p q
  one_leaves s e p q a b l = record { each = one_goes s e p q a b l }

  from_middle : (p m q : PathState C) → m.a ≡ p.a → m.b ≡ p.b → AllGo m q → AllGo p q
  from_middle p m q a b x = record {
    each = elim [ A ↦ subst (λ (e : PathEnd). Spared e q.a ⊎ IsToLeave A q.agenda) a (x.each A) | B ↦ subst (λ (e : PathEnd). Spared e q.b ⊎ IsToLeave B q.agenda) b (x.each B) ];
  }

  -- ---- replies

  break_goes : (s : Side) (reason : ℕ) (r : Reply) (p : PathState C) → AllGo p (answered_break k s reason r p)
  break_goes s reason r p = by (end_at s p).treated.asked
    where
      by : (b : Bool) → AllGo p (if b then answered_ack_out s r (resets s reason) p else reset_on k s (Some reason) (leaves s) p)
      by true = all_go p _ (side k s _ p (answered_ack_out s r (resets s reason) p) (spared _ _ refl) refl refl)
      by false = one_leaves s (died (end_at s p)) p (reset_on k s (Some reason) (leaves s) p) refl refl (leaving.leaves rest_of_turn)

  thing_goes : (s : Side) (index : ℕ) (item : Heard) (r : Reply) (p : PathState C) → AllGo p (answered_heard k s item r p)
  thing_goes s index (says.DataAck next window) r p = all_go p _ (side k s _ p _ (spared _ _ refl) refl refl)
  thing_goes s index (says.Mapping fin) r p =
      elim (is_clash (end_at s p)) as (λ b. AllGo p (if b then answered_break k s 1 r p else goes_on s (with_learned (after_fell fall_events.MappingHeard r (end_at s p))) (fell_duties s r p) p))
      [ true ↦ break_goes s 1 r p | false ↦ all_go p _ (side k s _ p _ (spared _ _ refl) refl refl) ]
  thing_goes s index (says.DataFin place) r p = all_go p _ (side k s _ p _ (spared _ _ refl) refl refl)
  thing_goes s index (says.InfiniteMapping place position) r p =
      let e = end_at s p in all_go p _ (side k s _ p _ (infinite_came_so (λ f. Spared e f) place position r e (λ other. spared e _ refl)) refl refl)
  thing_goes s index (says.Keys own peer) r p = all_go p _ (side k s _ p _ (spared _ _ refl) refl refl)
  thing_goes s index (says.Notice notice) r p = all_go p _ (side k s _ p _ (spared _ _ refl) refl refl)
  thing_goes s index says.Fail r p = all_go p _ (fail_answered_so (BothSpared k p) s r p (side k s _ p _ (spared _ _ refl) refl refl) (side k s _ p _ (spared _ _ refl) refl refl))
  thing_goes s index _ r p = all_go p _ (both_rest k p _ refl refl)

  things_go : (s : Side) (index : ℕ) (item : Option Heard) (r : Reply) (p : PathState C) → AllGo p (answered_item k s item r p)
  things_go s index None r p = all_go p _ (both_rest k p _ refl refl)
  things_go s index (Some item) r p = thing_goes s index item r p

  plain_ack_goes : (s : Side) (r : Reply) (p : PathState C) → AllGo p (answered_plain_ack k s r p)
  plain_ack_goes s r p =
      elim (breaks_by_ack p.profile (end_at s p)) as (λ b. AllGo p (if b then answered_break k s 6 r p else goes_on s (with_plain_ack (after_fell fall_events.PlainAck r (end_at s p))) (fell_duties s r p) p))
      [ true ↦ break_goes s 6 r p | false ↦ all_go p _ (side k s _ p _ (spared _ _ refl) refl refl) ]

  join_goes : (r : Reply) (dead living : List Duty) (p : PathState C) → IsToLeave A dead → AllGo p (join_begun r dead living p)
  join_goes r dead living p l = elim (is_never r) as (λ b. AllGo p (if b then goes_on A (never_joined r (end_at A p)) dead p else goes_on A (opened_by (keys_begun r) (end_at A p)) living p)) [
    | true ↦ one_leaves A (never_joined r (end_at A p)) p (goes_on A (never_joined r (end_at A p)) dead p) refl refl l
    | false ↦ all_go p _ (side k A (opened_by (keys_begun r) (end_at A p)) p (goes_on A (opened_by (keys_begun r) (end_at A p)) living p) (opened_spared (keys_begun r) (end_at A p)) refl refl)
  ]

  -- ---- events

  heard_goes : (s : Side) (p q : PathState C) → q.a ≡ p.a → q.b ≡ p.b → (o : Option HeardSegment) → AllGo p (copy_heard s o q)
  heard_goes s p q a b None = all_go p (copy_heard s None q) (from_there k p q (copy_heard s None q) a b (both_rest k q (copy_heard s None q) refl refl))
  heard_goes s p q a b (Some heard) = by (is_kill m) refl
    where
      e : PathEnd
      e = end_at s q

      h : HeardSegment
      h = options_heard e heard

      verdict : Judged
      verdict = judged_in (is_joined q.profile) s h e

      m : Meaning
      m = taken_as verdict

      f : PathEnd
      f = after_judged q.profile s q.clock h verdict e

      by : (b : Bool) → is_kill m ≡ b → AllGo p (copy_heard s (Some heard) q)
      by false other =
          all_go p (copy_heard s (Some heard) q) (from_there k p q (copy_heard s (Some heard) q) a b (side k s f q (copy_heard s (Some heard) q) (judged_spared q.profile s q.clock h e m other) refl refl))
      by true kills = from_middle p q (copy_heard s (Some heard) q) a b (one_leaves s f q (copy_heard s (Some heard) q) refl refl (kill_leaves (is_joined q.profile) s (length (items_of (is_joined q.profile) s h)) verdict kills))

  died_goes : (p q : PathState C) → q.agenda ≡ (if is_dead p.a.tcp.state then [] else duties.Ask (ask_duties.Leave A) ∷ []) ++ ((if is_dead p.b.tcp.state then [] else duties.Ask (ask_duties.Leave B) ∷ []) ++ rest_of_turn) → AllGo p q
  died_goes p q is = record { each = elim [ A ↦ by_a (is_dead p.a.tcp.state) refl | B ↦ by_b (is_dead p.b.tcp.state) refl ] }
    where
      by_a : (c : Bool) → is_dead p.a.tcp.state ≡ c → Goes A p q
      by_a true dead = inl (record { living = λ alive. absurd (both_ways _ alive dead) })
      by_a false alive = inr (subst (IsToLeave A) (sym is) (a_dies (is_dead p.a.tcp.state) (is_dead p.b.tcp.state) rest_of_turn alive))

      by_b : (c : Bool) → is_dead p.b.tcp.state ≡ c → Goes B p q
      by_b true dead = inl (record { living = λ alive. absurd (both_ways _ alive dead) })
      by_b false alive = inr (subst (IsToLeave B) (sym is) (b_dies (is_dead p.a.tcp.state) (is_dead p.b.tcp.state) rest_of_turn alive))

  fires_go : (s : Side) (now : ℕ) (p q : PathState C) → let e = end_at s p in (sixth : Bool) → is_sixth e.tcp ≡ sixth → let f = record e { tcp = if sixth then after_death true e.tcp else after_expiry now e.tcp } in
      q.a ≡ (goes_on s f [] p).a → q.b ≡ (goes_on s f [] p).b → q.agenda ≡ template_fired sixth s → AllGo p q
  fires_go s now p q true is a b agenda = one_leaves s _ p q a b (subst (IsToLeave s) (sym agenda) (leaving.resets rest_of_turn))
  fires_go s now p q false is a b agenda = all_go p q (side k s (record (end_at s p) { tcp = after_expiry now (end_at s p).tcp }) p q (spared (end_at s p) _ refl) a b)

  event_goes : (o : Option Event) (r : Reply) (p : PathState C) → AllGo p (happens_if k o r p)
  event_goes None r p = all_go p (happens_if k None r p) (both_rest k p (happens_if k None r p) refl refl)
  event_goes (Some (happenings.Joins tick)) r p =
      let m : PathState C = record (at_tick tick p) { joined_at = None } in from_middle p m (happens_if k (Some (happenings.Joins tick)) r p) refl refl (join_goes r (leaves A) (emission A) m (leaving.leaves rest_of_turn))
  event_goes (Some (happenings.Takes line)) r p = by line.action
    where
      x : PathState C
      x = record (at_tick line.tick p) { lines = tail_of p.lines }

      by : (action : LineAction) → AllGo p (after_line action x)
      by actions.Die = died_goes p (after_line actions.Die x) refl
      by (actions.Prio s backup) = all_go p (after_line (actions.Prio s backup) x) (from_there k p x _ refl refl (side k s _ x (after_line (actions.Prio s backup) x) (spared _ _ refl) refl refl))
      by (actions.Announce s id) = all_go p (after_line (actions.Announce s id) x) (both_rest k p _ refl refl)
      by (actions.Withdraw s id) = all_go p (after_line (actions.Withdraw s id) x) (both_rest k p _ refl refl)
  event_goes (Some (happenings.Arrives due)) r p =
      heard_goes due.to p (record (at_tick due.tick p) { link = after_delivery due p.link }) refl refl (heard_in k due.to (arriving due p.link) p)
  event_goes (Some (happenings.Fires s tick)) r p = fires_go s (at_tick tick p).clock p (happens_if k (Some (happenings.Fires s tick)) r p) (is_sixth (end_at s p).tcp) refl refl refl refl

  -- ---- any duty

  -- an end that lives does so still, or is to leave; or its side noted that it leaves, so that it gives back now
  pub record GoesOrGives (d : Duty) (p q : PathState C) : Type 0 where
    pub each : (t : Side) → Goes t p q ⊎ (d ≡ duties.Ask (ask_duties.LeaveNoted t))

  all_or : (d : Duty) (p q : PathState C) → AllGo p q → GoesOrGives d p q
  all_or d p q x = record { each = λ t. inl (x.each t) }

  noted_go : (s : Side) (e : PathEnd) (p q : PathState C) → q.a ≡ (goes_on s e [] p).a → q.b ≡ (goes_on s e [] p).b → (t : Side) → Goes t p q ⊎ (duties.Ask (ask_duties.LeaveNoted s) ≡ duties.Ask (ask_duties.LeaveNoted t))
  noted_go A e p q a b A = inr refl
  noted_go A e p q a b B = inl (inl (subst (λ f. Spared p.b f) (sym b) (rests p.b)))
  noted_go B e p q a b A = inl (inl (subst (λ f. Spared p.a f) (sym a) (rests p.a)))
  noted_go B e p q a b B = inr refl

  noted_goes : (s : Side) (e : PathEnd) (p q : PathState C) → q.a ≡ (goes_on s e [] p).a → q.b ≡ (goes_on s e [] p).b → GoesOrGives (duties.Ask (ask_duties.LeaveNoted s)) p q
  noted_goes s e p q a b = record { each = noted_go s e p q a b }

  pub answered_goes : (d : Duty) (ds : List Duty) (r : Reply) (p : PathState C) → GoesOrGives d (with_agenda (d ∷ ds) p) (answered k d r (with_agenda (d ∷ ds) p))
  answered_goes (duties.Step step_duties.Events) ds r p = let x : PathState C = with_agenda (duties.Step step_duties.Events ∷ ds) p in all_or _ x _ (event_goes (next_event x) r x)
  answered_goes (duties.Ask ask_duties.JoinAgain) ds r p =
      let x : PathState C = with_agenda (duties.Ask ask_duties.JoinAgain ∷ ds) p in all_or _ x _ (join_goes r (duties.Ask (ask_duties.Leave A) ∷ ds) ds x (leaving.leaves ds))
  answered_goes (duties.Ask (ask_duties.LeaveNoted s)) ds r p = noted_goes s (died (end_at s p)) (with_agenda (duties.Ask (ask_duties.LeaveNoted s) ∷ ds) p) _ refl refl
  answered_goes (duties.Ask (ask_duties.JoinHeard s)) ds r p =
      let x : PathState C = with_agenda (duties.Ask (ask_duties.JoinHeard s) ∷ ds) p in all_or _ x _ (all_go x _ (joins_spared k s (keys_begun r) (asked_at s x) r x))
  answered_goes (duties.Step (step_duties.Heard s index)) ds r p =
      let x : PathState C = with_agenda (duties.Step (step_duties.Heard s index) ∷ ds) p in all_or _ x _ (things_go s index (item_of index (end_at s x)) r x)
  answered_goes (duties.Step (step_duties.PlainAck s)) ds r p = let x : PathState C = with_agenda (duties.Step (step_duties.PlainAck s) ∷ ds) p in all_or _ x _ (plain_ack_goes s r x)
  answered_goes (duties.Step (step_duties.Unmapped s)) ds r p = let x : PathState C = with_agenda (duties.Step (step_duties.Unmapped s) ∷ ds) p in all_or _ x _ (break_goes s 6 r x)
  answered_goes (duties.Send (send_duties.Fin s)) ds r p =
      let x : PathState C = with_agenda (duties.Send (send_duties.Fin s) ∷ ds) p in all_or _ x _ (all_go x _ (side k s _ x _ (spared _ _ (finished (end_at s p).tcp.state)) refl refl))
  answered_goes (duties.Send (send_duties.BreakReset s reason)) ds r p =
      let x : PathState C = with_agenda (duties.Send (send_duties.BreakReset s reason) ∷ ds) p in
      all_or _ x _ (one_leaves s (died (end_at s p)) x (answered k (duties.Send (send_duties.BreakReset s reason)) r x) refl refl (leaving.leaves rest_of_turn))
  answered_goes (duties.Send (send_duties.Reset s)) ds r p =
      let x : PathState C = with_agenda (duties.Send (send_duties.Reset s) ∷ ds) p in
      all_or _ x _ (one_leaves s (died (end_at s p)) x (answered k (duties.Send (send_duties.Reset s)) r x) refl refl (leaving.leaves ds))
  answered_goes (duties.Send (send_duties.ResetNoted s)) ds r p =
      let x : PathState C = with_agenda (duties.Send (send_duties.ResetNoted s) ∷ ds) p in
      all_or _ x _ (one_leaves s (died (end_at s p)) x (answered k (duties.Send (send_duties.ResetNoted s)) r x) refl refl (leaving.leaves ds))
  answered_goes (duties.Silent d) ds r p = let x : PathState C = with_agenda (duties.Silent d ∷ ds) p in all_or _ x _ (all_go x _ (both_rest k x _ refl refl))
  answered_goes d ds r p = let x : PathState C = with_agenda (d ∷ ds) p in all_or d x (answered k d r x) (all_go x _ (plain k (side_of d) (writes d) x _ refl refl (writes_no_more k d r x)))

  -- ---- an end that is to leave

  -- it is so still, or it gives back now
  leaves_next : (s : Side) (d : Duty) (ds : List Duty) (r : Reply) (p : PathState C) → IsToLeave s (d ∷ ds)
      → IsToLeave s (answered k d r (with_agenda (d ∷ ds) p)).agenda ⊎ (d ≡ duties.Ask (ask_duties.Leave s))
  leaves_next s d ds r p (leaving.leaves others) = inr refl
  leaves_next s d ds r p (leaving.resets others) = inl (leaving.leaves ds)
  leaves_next s d ds r p (leaving.behind t others l) = inl (leaving.behind_dead t ds l)
  leaves_next s d ds r p (leaving.behind_dead t others l) = inl l

  leaves_settled : (s : Side) (ds : List Duty) (p : PathState C) → IsToLeave s ds → IsToLeave s (settled ds p).agenda
  leaves_settled s ds p (leaving.leaves others) = leaving.leaves others
  leaves_settled s ds p (leaving.resets others) = leaving.resets others
  leaves_settled s ds p (leaving.behind t others l) = leaving.behind t others l
  leaves_settled s ds p (leaving.behind_dead t others l) = leaving.behind_dead t others l

  -- ---- a step of a path

  pub settled_goes : (t : Side) (p q : PathState C) → Goes t p q → Goes t p (settled q.agenda q)
  settled_goes t p q (inl x) = inl (spared_then (end_at t p) (end_at t q) (end_at t (settled q.agenda q)) x (at_side k t q (settled q.agenda q) (settled_lasts (BothSpared k) (spared_lasts k) q.agenda q)))
  settled_goes t p q (inr l) = inr (leaves_settled t q.agenda q l)

  lives_on : (s : Side) (p q : PathState C) → Goes s p q → is_dead (end_at s p).tcp.state ≡ false → (is_dead (end_at s q).tcp.state ≡ false) ⊎ IsToLeave s q.agenda
  lives_on s p q (inl x) alive = inl (x.living alive)
  lives_on s p q (inr l) alive = inr l

  -- who may hold bytes may do so after the step, or gives back all by it
  pub may_hold_on : (s : Side) (d : Duty) (ds : List Duty) (r : Reply) (p : PathState C) → p.agenda ≡ d ∷ ds → MayHold s p → MayHold s (takes k r p) ⊎ (ask_for k d p ≡ return_ask s p)
  may_hold_on s d ds r p first h = by (subst (λ (x : PathState C). MayHold s x) (sym same) h)
    where
      x : PathState C
      x = with_agenda (d ∷ ds) p

      same : x ≡ p
      same = ap (λ (agenda : List Duty). with_agenda agenda p) (sym first)

      further : IsPathAsFar x (takes k r x)
      further = takes_up k r x

      past_on : 3 ≤ stage (end_at s x).tcp.state → 3 ≤ stage (end_at s (takes k r x)).tcp.state
      past_on past = let up = stage_up s x (takes k r x) further in omega (arith, past, up)

      back : MayHold s (takes k r x) ⊎ (ask_for k d x ≡ return_ask s x) → MayHold s (takes k r p) ⊎ (ask_for k d p ≡ return_ask s p)
      back = subst (λ (y : PathState C). MayHold s (takes k r y) ⊎ (ask_for k d y ≡ return_ask s y)) same

      by_lives : 3 ≤ stage (end_at s x).tcp.state → (is_dead (end_at s x).tcp.state ≡ false) ⊎ IsToLeave s (d ∷ ds) → MayHold s (takes k r x) ⊎ (ask_for k d x ≡ return_ask s x)
      by_lives past (inl alive) = ⊎_elim
          (λ goes. inl (record { past = past_on past; lives = lives_on s x (takes k r x) (settled_goes s x (answered k d r x) goes) alive }))
          (λ noted. inr (ap (λ (e : Duty). ask_for k e x) noted))
          ((answered_goes d ds r p).each s)
      by_lives past (inr l) = ⊎_elim
          (λ still. inl (record { past = past_on past; lives = inr (leaves_settled s (answered k d r x).agenda (answered k d r x) still) }))
          (λ now. inr (ap (λ (e : Duty). ask_for k e x) now))
          (leaves_next s d ds r p l)

      by : MayHold s x → MayHold s (takes k r p) ⊎ (ask_for k d p ≡ return_ask s p)
      by g = back (by_lives g.past g.lives)
