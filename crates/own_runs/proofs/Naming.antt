-- The mapping that an MP_FAIL names (RFC 8684, section 3.7) is one that the end kept: its checksum was found to be wrong. It is named so till the end dies.
use Rattle.std.proofs.Common.{◌≡◌, refl, sym, ap, subst, ℕ, suc, ◌⊎◌, inl, inr, ⊎_elim, nat_lt, Bool, true, false, if◌then◌else◌, Option, Some, None, List, [], ◌∷◌, find}
use Rattle.std.specs.Option.{IfSome}
use Rattle.std.proofs.lemmas.Bool.{false≢true}
use Rattle.actor_desk.specs.Words.{pick, tail_of}
use Rattle.actor_desk.specs.declared.ask.Reply.{Reply}
use Rattle.control_book.specs.declared.call.ControlReply.{ControlReply}
use Rattle.dss_mapping.specs.Mappings.{Mappings, mapping_at, run_of}
use Rattle.dss_mapping.specs.Runs.{covers}
use Rattle.dss_mapping.specs.declared.kept.KeptMapping.{KeptMapping}
use Rattle.fallback_state.specs.declared.fall.Event.{Event as FallEvent}
use Rattle.fallback_state.specs.declared.fall.Verdict.{Verdict}
use Rattle.link_model.specs.Steps.{after_delivery, arriving}
use Rattle.path_agenda.specs.Agenda.{emission, leaves, resets}
use Rattle.path_agenda.specs.declared.duty.AskDuty.{AskDuty}
use Rattle.path_agenda.specs.declared.duty.Duty.{Duty}
use Rattle.path_agenda.specs.declared.duty.SendDuty.{SendDuty}
use Rattle.path_agenda.specs.declared.duty.StepDuty.{StepDuty}
use Rattle.path_agenda.specs.declared.heard.Heard.{Heard}
use Rattle.path_agenda.specs.declared.keys.KeyPair.{KeyPair}
use Rattle.path_core.specs.Arrival.{heard_at, heard_in}
use Rattle.path_core.specs.Breaking.{answered_break, died_unless_dead, reset_on}
use Rattle.path_core.specs.Deliver.{failing_by, forgotten_by, is_wrong, mapping_here}
use Rattle.path_core.specs.DssIn.{is_clash}
use Rattle.path_core.specs.Duties.{answered, passed}
use Rattle.path_core.specs.End.{PathEnd, died}
use Rattle.path_core.specs.Events.{after_line, happens_if, next_event}
use Rattle.path_core.specs.Fallback.{after_check_failed, after_fell, breaks_by_ack, fell_duties, with_failure}
use Rattle.path_core.specs.Modes.{receives_plainly}
use Rattle.path_core.specs.MpJoin.{is_never, join_begun, keys_begun, never_joined, opened_by}
use Rattle.path_core.specs.Standing.{answered_ack_out}
use Rattle.path_core.specs.State.{PathState, at_tick, end_at, goes_on, with_end}
use Rattle.path_core.specs.Timer.{after_firing, timer_fired}
use Rattle.path_core.specs.Treating.{answered_heard, answered_item, item_of, item_passed}
use Rattle.path_core.specs.Values.{Carried, values}
use Rattle.path_core.specs.declared.events.Event.{Event}
use Rattle.path_core.specs.declared.modes.Modes.{Modes}
use Rattle.path_segments.specs.Heard.{HeardSegment}
use Rattle.path_store.specs.declared.lines.LineAction.{LineAction}
use Rattle.sides.specs.declared.side.Side.TheVariants.{A, B}
use Rattle.sides.specs.declared.side.Side.{Side}
use Rattle.stream_lanes.specs.Words.{Every}
use Rattle.subflow_recv.specs.Receiving.{after_forget_from}
use Rattle.subflow_tcp.specs.State.{EndState}
use Rattle.subflow_tcp.specs.States.{is_dead}
use Rattle.world_laws.proofs.Falls.FailedChecks.{fail_answered_so, infinite_came_so}
use Rattle.world_laws.proofs.Writes.Ends.{fell_so, item_so}
use Rattle.world_laws.proofs.Writes.Paths.{writes_no_more}
use Rattle.world_laws.proofs.Writes.Steps.{Lasts, begins_lasts, both_ends, takes_lasts, unwritten}
use Rattle.world_laws.specs.Writes.{EndView, OnlyAt, Writes, side_of, writes}
use Rattle.path_core.specs.Steps.{begins_turn, takes}
use Rattle.path_agenda.specs.declared.duty.SilentDuty.{SilentDuty}
use Rattle.own_runs.proofs.KeptTold.{PathKnows}

-- ---- what an end keeps of it

-- it is named as before, or not any more
abbrev pub Fades : PathEnd → PathEnd → Type 0
Fades e f = (f.treated.failed_mapping ≡ None) ⊎ (f.treated.failed_mapping ≡ e.treated.failed_mapping)

fades_if : (b : Bool) (e f g : PathEnd) → Fades e f → Fades e g → Fades e (if b then f else g)
fades_if true e f g x y = x
fades_if false e f g x y = y

opened_fades : (o : Option KeyPair) (e : PathEnd) → Fades e (opened_by o e)
opened_fades None e = inr refl
opened_fades (Some keys) e = inr refl

module _ (R : KeptMapping → Type 0) where
  -- the place of such a mapping
  abbrev pub Begins : ℕ → Type 0
  Begins k = (kept : KeptMapping) × R kept × (kept.place ≡ k)

  -- what is named is such a mapping
  pub record Names (e : PathEnd) : Type 0 where
    pub failed : IfSome e.modes.failed_mapping Begins
    pub told : IfSome e.treated.failed_mapping Begins

  pub names_on : (e f : PathEnd) → f.modes.failed_mapping ≡ e.modes.failed_mapping → Fades e f → Names e → Names f
  names_on e f same fades h = record {
    failed = subst (λ (o : Option ℕ). IfSome o Begins) (sym same) h.failed;
    told = ⊎_elim (λ none. subst (λ (o : Option ℕ). IfSome o Begins) (sym none) tt) (λ still. subst (λ (o : Option ℕ). IfSome o Begins) (sym still) h.told) fades;
  }

  -- ---- a check that failed

  found : (f : KeptMapping → Bool) (xs : List KeptMapping) → Every R xs → IfSome (find f xs) R
  found f [] h = tt
  found f (x ∷ xs) h = by (f x) (found f xs (record { each = λ i y at. h.each (suc i) y at }))
    where
      by : (b : Bool) → IfSome (find f xs) R → IfSome (if b then Some x else find f xs) R
      by true rest = h.each 0 x refl
      by false rest = rest

  unless_so : (b : Bool) (o : Option KeptMapping) → IfSome o R → IfSome (if b then None else o) R
  unless_so true o h = tt
  unless_so false o h = h

  at_so : (v : Mappings) (p : ℕ) → Every R v.live → IfSome (mapping_at v p) R
  at_so v p h = unless_so (nat_lt p v.forgotten) (find (λ (kept : KeptMapping). covers p (run_of kept)) v.live) (found (λ (kept : KeptMapping). covers p (run_of kept)) v.live h)

  here_so : (e : PathEnd) → Every R e.receiving.mappings.live → IfSome (mapping_here e) R
  here_so e h = unless_so (receives_plainly e.modes e.tcp.recv.edge) (mapping_at e.receiving.mappings e.tcp.recv.edge) (at_so e.receiving.mappings e.tcp.recv.edge h)

  failing_so : (checksums : Bool) (o : Option KeptMapping) (s : EndState) → IfSome o R → IfSome (failing_by checksums o s) R
  failing_so checksums None s h = tt
  failing_so checksums (Some kept) s h = by (is_wrong checksums kept s)
    where
      by : (b : Bool) → IfSome (if b then Some kept else None) R
      by true = h
      by false = tt

  failure_names : (o : Option KeptMapping) (r : Reply) (e : PathEnd) → IfSome o R → Names e → Names (with_failure o r e)
  failure_names (Some kept) (Reply.Control (ControlReply.Verdict Verdict.SendFail)) e is h = record { failed = (kept, is, refl); told = h.told }
  failure_names (Some kept) (Reply.Control (ControlReply.Verdict (Verdict.BreakPath reason))) e is h = record { failed = h.failed; told = (kept, is, refl) }
  failure_names _ r e is h = h

  forgotten_names : (checksums : Bool) (o : Option KeptMapping) (e : PathEnd) → Names e → Names (forgotten_by checksums o e)
  forgotten_names checksums None e h = h
  forgotten_names checksums (Some kept) e h = by (is_wrong checksums kept e.tcp)
    where
      by : (b : Bool) → Names (if b then record e { tcp = record e.tcp { recv = after_forget_from kept.pos e.tcp.recv } } else e)
      by true = record { failed = h.failed; told = h.told }
      by false = h

  fell_names : (event : FallEvent) (r : Reply) (e : PathEnd) → Names e → Names (after_fell event r e)
  fell_names event r e h = names_on e (after_fell event r e) (fell_so (λ (n : Modes). n.failed_mapping ≡ e.modes.failed_mapping) event r e.modes (λ mode owes. refl)) (inr refl) h

  check_names : (checksums : Bool) (r : Reply) (e : PathEnd) → Every R e.receiving.mappings.live → Names e → Names (after_check_failed checksums r e)
  check_names checksums r e live h =
      let failing = failing_by checksums (mapping_here e) e.tcp in
      forgotten_names checksums (mapping_here e) (with_failure failing r (after_fell FallEvent.CheckFailed r e))
      (failure_names failing r (after_fell FallEvent.CheckFailed r e) (failing_so checksums (mapping_here e) e.tcp (here_so e live)) (fell_names FallEvent.CheckFailed r e h))

-- ---- a path

pub record PathFades (p q : PathState Carried) : Type 0 where
  pub a : Fades p.a q.a
  pub b : Fades p.b q.b

put : (s : Side) (f : PathEnd) (p q : PathState Carried) → q.a ≡ pick s f p.a → q.b ≡ pick s p.b f → Fades (end_at s p) f → PathFades p q
put A f p q a b fades = record { a = subst (Fades p.a) (sym a) fades; b = inr (ap (λ (e : PathEnd). e.treated.failed_mapping) b) }
put B f p q a b fades = record { a = inr (ap (λ (e : PathEnd). e.treated.failed_mapping) a); b = subst (Fades p.b) (sym b) fades }

both : (p q : PathState Carried) → q.a ≡ p.a → q.b ≡ p.b → PathFades p q
both p q a b = record { a = inr (ap (λ (e : PathEnd). e.treated.failed_mapping) a); b = inr (ap (λ (e : PathEnd). e.treated.failed_mapping) b) }

either : (b : Bool) (p q r : PathState Carried) → PathFades p q → PathFades p r → PathFades p (if b then q else r)
either true p q r x y = x
either false p q r x y = y

-- where it may be written at neither end
by_writes : (s : Side) (w : Writes) (p q : PathState Carried) → w.own.broken_mapping ≡ false → w.other.broken_mapping ≡ false → OnlyAt s w p q → PathFades p q
by_writes s w p q own other x =
    let at = both_ends Fades s w p q
    (λ e f y. inr (unwritten w.own.broken_mapping e.treated.failed_mapping f.treated.failed_mapping own (ap (λ (v : EndView). v.broken_mapping) y.same)))
    (λ e f y. inr (unwritten w.other.broken_mapping e.treated.failed_mapping f.treated.failed_mapping other (ap (λ (v : EndView). v.broken_mapping) y.same))) x in
    record { a = at.0; b = at.1 }

break_fades : (s : Side) (reason : ℕ) (r : Reply) (p : PathState Carried) → PathFades p (answered_break values s reason r p)
break_fades s reason r p =
    either (end_at s p).treated.asked p (answered_ack_out s r (resets s reason) p) (reset_on values s (Some reason) (leaves s) p) (put s _ p _ refl refl (inr refl)) (put s (died (end_at s p)) p _ refl refl (inl refl))

begun_fades : (r : Reply) (dead living : List Duty) (p : PathState Carried) → PathFades p (join_begun r dead living p)
begun_fades r dead living p = either (is_never r) p _ _ (put A (never_joined r p.a) p _ refl refl (inl refl)) (put A (opened_by (keys_begun r) p.a) p _ refl refl (opened_fades (keys_begun r) p.a))

thing_fades : (s : Side) (item : Heard) (r : Reply) (p : PathState Carried) → PathFades p (answered_heard values s item r p)
thing_fades s (Heard.DataAck next window) r p = put s _ p _ refl refl (inr refl)
thing_fades s (Heard.Mapping fin) r p = either (is_clash (end_at s p)) p _ _ (break_fades s 1 r p) (put s _ p _ refl refl (inr refl))
thing_fades s (Heard.DataFin place) r p = put s _ p _ refl refl (inr refl)
thing_fades s (Heard.InfiniteMapping place position) r p =
    infinite_came_so (λ (e : PathEnd). PathFades p (goes_on s e (fell_duties s r p) p)) place position r (end_at s p) (λ other. put s _ p _ refl refl (inr refl))
thing_fades s (Heard.Keys mine other) r p = put s _ p _ refl refl (inr refl)
thing_fades s (Heard.Notice notice) r p = put s _ p _ refl refl (inr refl)
thing_fades s Heard.Fail r p = fail_answered_so (PathFades p) s r p (put s _ p _ refl refl (inr refl)) (put s _ p _ refl refl (inr refl))
thing_fades s _ r p = both p _ refl refl

item_fades : (s : Side) (o : Option Heard) (r : Reply) (p : PathState Carried) → PathFades p (answered_item values s o r p)
item_fades s None r p = both p _ refl refl
item_fades s (Some item) r p = thing_fades s item r p

unless_fades : (e : PathEnd) → Fades e (died_unless_dead e)
unless_fades e = fades_if (is_dead e.tcp.state) e e (died e) (inr refl) (inl refl)

line_fades : (action : LineAction) (p : PathState Carried) → PathFades p (after_line action p)
line_fades LineAction.Die p = record { a = unless_fades p.a; b = unless_fades p.b }
line_fades (LineAction.Prio s backup) p = put s _ p _ refl refl (inr refl)
line_fades (LineAction.Announce s id) p = both p _ refl refl
line_fades (LineAction.Withdraw s id) p = both p _ refl refl

heard_fades : (now : ℕ) (s : Side) (o : Option HeardSegment) (p : PathState Carried) → PathFades p (heard_at now s o p)
heard_fades now s None p = both p _ refl refl
heard_fades now s (Some h) p = put s _ p _ refl refl (inl refl)

beside : (p q r : PathState Carried) → q.a ≡ p.a → q.b ≡ p.b → PathFades q r → PathFades p r
beside p q r a b x = record { a = subst (λ (e : PathEnd). Fades e r.a) a x.a; b = subst (λ (e : PathEnd). Fades e r.b) b x.b }

event_fades : (o : Option Event) (r : Reply) (p : PathState Carried) → PathFades p (happens_if values o r p)
event_fades None r p = both p _ refl refl
event_fades (Some (Event.Joins tick)) r p = beside p (record (at_tick tick p) { joined_at = None }) _ refl refl (begun_fades r (leaves A) (emission A) (record (at_tick tick p) { joined_at = None }))
event_fades (Some (Event.Takes l)) r p = beside p (record (at_tick l.tick p) { lines = tail_of p.lines }) _ refl refl (line_fades l.action (record (at_tick l.tick p) { lines = tail_of p.lines }))
event_fades (Some (Event.Arrives due)) r p =
    let q : PathState Carried = record (at_tick due.tick p) { link = after_delivery due p.link } in beside p q _ refl refl (heard_fades q.clock due.to (heard_in values due.to (arriving due p.link) p) q)
event_fades (Some (Event.Fires s tick)) r p = beside p (at_tick tick p) _ refl refl (put s (after_firing (at_tick tick p).clock (end_at s (at_tick tick p))) (at_tick tick p) (timer_fired s (at_tick tick p)) refl refl (inr refl))

abbrev is_check : Duty → Bool
is_check (Duty.Ask (AskDuty.CheckFailed s)) = true
is_check _ = false

answered_fades : (d : Duty) (r : Reply) (p : PathState Carried) → is_check d ≡ false → PathFades p (answered values d r p)
answered_fades (Duty.Ask (AskDuty.CheckFailed s)) r p none = absurd (false≢true (sym none))
answered_fades (Duty.Step StepDuty.Events) r p none = event_fades (next_event p) r p
answered_fades (Duty.Step (StepDuty.Heard s index)) r p none = item_fades s (item_of index (end_at s p)) r p
answered_fades (Duty.Step (StepDuty.PlainAck s)) r p none = either (breaks_by_ack p.profile (end_at s p)) p _ _ (break_fades s 6 r p) (put s _ p _ refl refl (inr refl))
answered_fades (Duty.Step (StepDuty.Unmapped s)) r p none = break_fades s 6 r p
answered_fades (Duty.Ask AskDuty.JoinAgain) r p none = begun_fades r _ _ p
answered_fades (Duty.Ask (AskDuty.LeaveNoted s)) r p none = put s (died (end_at s p)) p _ refl refl (inl refl)
answered_fades (Duty.Send (SendDuty.BreakReset s reason)) r p none = put s (died (end_at s p)) p _ refl refl (inl refl)
answered_fades (Duty.Send (SendDuty.Reset s)) r p none = put s (died (end_at s p)) p _ refl refl (inl refl)
answered_fades (Duty.Send (SendDuty.ResetNoted s)) r p none = put s (died (end_at s p)) p _ refl refl (inl refl)
answered_fades (Duty.Send (SendDuty.Update s)) r p none = put s _ p _ refl refl (inr refl)
answered_fades (Duty.Silent d) r p none = both p _ refl refl
answered_fades d r p none = by_writes (side_of d) (writes d) p _ refl refl (writes_no_more values d r p)

-- ---- on a path

module _ (R : Side → KeptMapping → Type 0) where
  -- at both ends
  pub record PathNames (p : PathState Carried) : Type 0 where
    pub a : Names (R A) p.a
    pub b : Names (R B) p.b

  same_failed : (s : Side) (w : Writes) (p q : PathState Carried) → w.own.failed_mapping ≡ false → w.other.failed_mapping ≡ false → OnlyAt s w p q
      → (q.a.modes.failed_mapping ≡ p.a.modes.failed_mapping) × (q.b.modes.failed_mapping ≡ p.b.modes.failed_mapping)
  same_failed s w p q own other x =
      both_ends (λ e f. f.modes.failed_mapping ≡ e.modes.failed_mapping) s w p q
      (λ e f y. unwritten w.own.failed_mapping e.modes.failed_mapping f.modes.failed_mapping own (ap (λ (v : EndView). v.failed_mapping) y.same))
      (λ e f y. unwritten w.other.failed_mapping e.modes.failed_mapping f.modes.failed_mapping other (ap (λ (v : EndView). v.failed_mapping) y.same)) x

  never_failed : (d : Duty) → is_check d ≡ false → ((writes d).own.failed_mapping ≡ false) × ((writes d).other.failed_mapping ≡ false)
  never_failed (Duty.Ask (AskDuty.CheckFailed s)) none = absurd (false≢true (sym none))
  never_failed (Duty.Step (StepDuty.Look s)) none = (refl, refl)
  never_failed (Duty.Send (SendDuty.Syn s)) none = (refl, refl)
  never_failed (Duty.Silent (SilentDuty.Timer s)) none = (refl, refl)
  never_failed _ none = (refl, refl)

  keep : (p q : PathState Carried) → (q.a.modes.failed_mapping ≡ p.a.modes.failed_mapping) × (q.b.modes.failed_mapping ≡ p.b.modes.failed_mapping) → PathFades p q → PathNames p → PathNames q
  keep p q same fades h = record { a = names_on (R A) p.a q.a same.0 fades.a h.a; b = names_on (R B) p.b q.b same.1 fades.b h.b }

  check_at : (s : Side) (r : Reply) (p : PathState Carried) → PathKnows R p → PathNames p → PathNames (answered values (Duty.Ask (AskDuty.CheckFailed s)) r p)
  check_at A r p knows h = record { a = check_names (R A) p.profile.spelling.checksums r p.a knows.a.live h.a; b = h.b }
  check_at B r p knows h = record { a = h.a; b = check_names (R B) p.profile.spelling.checksums r p.b knows.b.live h.b }

  answered_names : (d : Duty) (r : Reply) (p : PathState Carried) → PathKnows R p → PathNames p → PathNames (answered values d r p)
  answered_names (Duty.Ask (AskDuty.CheckFailed s)) r p knows h = check_at s r p knows h
  answered_names d r p knows h = by (is_check d) refl
    where
      by : (b : Bool) → is_check d ≡ b → PathNames (answered values d r p)
      by false none =
          let never = never_failed d none in
          keep p (answered values d r p) (same_failed (side_of d) (writes d) p (answered values d r p) never.0 never.1 (writes_no_more values d r p)) (answered_fades d r p none) h
      by true is = checks d is
        where
          checks : (e : Duty) → is_check e ≡ true → PathNames (answered values e r p)
          checks (Duty.Ask (AskDuty.CheckFailed s)) is = check_at s r p knows h
          checks (Duty.Step (StepDuty.Look s)) is = absurd (false≢true is)
          checks (Duty.Send (SendDuty.Syn s)) is = absurd (false≢true is)
          checks (Duty.Silent (SilentDuty.Timer s)) is = absurd (false≢true is)
          checks _ is = absurd (false≢true is)

  -- ---- what is passed

  with_names : (s : Side) (e : PathEnd) (p : PathState Carried) → Names (R s) e → PathNames p → PathNames (with_end s e p)
  with_names A e p own h = record { a = own; b = h.b }
  with_names B e p own h = record { a = h.a; b = own }

  names_at : (s : Side) (p : PathState Carried) → PathNames p → Names (R s) (end_at s p)
  names_at A p h = h.a
  names_at B p h = h.b

  again : (s : Side) (e f : PathEnd) → f.modes.failed_mapping ≡ e.modes.failed_mapping → f.treated.failed_mapping ≡ e.treated.failed_mapping → Names (R s) e → Names (R s) f
  again s e f failed told h = names_on (R s) e f failed (inr told) h

  item_names : (s : Side) (o : Option Heard) (e : PathEnd) → Names (R s) e → Names (R s) (item_passed s o e)
  item_names s o e h =
      item_so (λ (f : PathEnd). Names (R s) f) s o e h (again s e _ refl refl h) (λ next. again s e _ refl refl h) (again s e _ refl refl h) (again s e _ refl refl h) (λ place. again s e _ refl refl h)

  passed_names : (d : Duty) (p : PathState Carried) → PathNames p → PathNames (passed d p)
  passed_names (Duty.Ask (AskDuty.CheckFailed s)) p h = with_names s _ p (forgotten_names (R s) p.profile.spelling.checksums (mapping_here (end_at s p)) (end_at s p) (names_at s p h)) h
  passed_names (Duty.Step (StepDuty.Heard s index)) p h = with_names s _ p (item_names s (item_of index (end_at s p)) (end_at s p) (names_at s p h)) h
  passed_names (Duty.Step (StepDuty.PlainAck s)) p h = with_names s _ p (again s (end_at s p) _ refl refl (names_at s p h)) h
  passed_names (Duty.Step (StepDuty.Unmapped s)) p h = with_names s _ p (again s (end_at s p) _ refl refl (names_at s p h)) h
  passed_names (Duty.Silent (SilentDuty.Timer s)) p h = with_names s _ p (again s (end_at s p) _ refl refl (names_at s p h)) h
  passed_names (Duty.Silent (SilentDuty.Keep s)) p h = with_names s _ p (again s (end_at s p) _ refl refl (names_at s p h)) h
  passed_names (Duty.Silent (SilentDuty.PassFin s)) p h = with_names s _ p (again s (end_at s p) _ refl refl (names_at s p h)) h
  passed_names _ p h = h

  names_last : Lasts (λ (p q : PathState Carried). PathNames p → PathNames q)
  names_last = record { agenda = λ ds p h. record { a = h.a; b = h.b }; chains = λ p q r x y h. y (x h); passes = λ d p h. passed_names d p h }

  pub takes_names : (r : Reply) (p : PathState Carried) → PathKnows R p → PathNames p → PathNames (takes values r p)
  takes_names r p knows h = takes_lasts (λ p q. PathNames p → PathNames q) names_last values r p (λ d h. answered_names d r p knows h) h

  pub begins_names : (p : PathState Carried) → PathNames p → PathNames (begins_turn p)
  begins_names p h = begins_lasts (λ p q. PathNames p → PathNames q) names_last p h
