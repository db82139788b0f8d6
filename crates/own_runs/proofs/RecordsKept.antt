-- What holds of each record that an end may still send, whenever it was sent, holds at every moment, if it holds of each piece that is granted.
use Rattle.std.proofs.Common.{◌≡◌, refl, sym, ap, ◌∙◌, subst, ℕ, ◌⊎◌, inl, inr, ◌+◌, ◌&&◌, ◌==◌, nat_lt, nat_le, Bool, true, false, if◌then◌else◌, Option, Some, None, List, [], ◌∷◌}
use Rattle.actor_desk.specs.declared.ask.Reply.{Reply}
use Rattle.path_agenda.specs.declared.duty.AskDuty.{AskDuty}
use Rattle.path_agenda.specs.declared.duty.Duty.{Duty}
use Rattle.path_agenda.specs.declared.duty.SendDuty.{SendDuty}
use Rattle.path_agenda.specs.declared.duty.SilentDuty.{SilentDuty}
use Rattle.path_agenda.specs.declared.duty.StepDuty.{StepDuty}
use Rattle.path_agenda.specs.declared.heard.Heard.{Heard}
use Rattle.path_core.specs.Arrival.{with_payload, owing_if, told_at, copy_heard, judged_in}
use Rattle.path_core.specs.Breaking.{answered_break, died_unless_dead}
use Rattle.path_core.specs.DssOut.{mapping_of}
use Rattle.path_core.specs.DssIn.{counts, is_clash, with_data_fin, with_learned, with_skipped}
use Rattle.path_core.specs.Duties.{answered, passed}
use Rattle.path_core.specs.Emission.{Grant, answered_data, answered_grant, first_unsent, grant_in, answer_occasion, resend_occasion}
use Rattle.path_core.specs.End.{PathEnd, died}
use Rattle.path_core.specs.Events.{after_line, happens_if, next_event}
use Rattle.path_core.specs.Fallback.{breaks_by_ack}
use Rattle.path_core.specs.Handover.{sent_on}
use Rattle.path_core.specs.Judged.{taken_as}
use Rattle.path_core.specs.MpJoin.{join_begun, never_joined, opened_by, keys_begun, is_joined}
use Rattle.path_core.specs.State.{PathState, end_at, goes_on, with_end, at_tick}
use Rattle.path_core.specs.Steps.{answers, next_round, settled, takes}
use Rattle.path_core.specs.Treating.{answered_heard, answered_item, item_of, item_passed}
use Rattle.path_core.specs.Values.{Carried, values}
use Rattle.path_core.specs.declared.events.Event.{Event}
use Rattle.path_segments.specs.Spelled.{PlainSegment}
use Rattle.path_store.specs.declared.lines.LineAction.{LineAction}
use Rattle.sides.specs.Side.{peer}
use Rattle.sides.specs.declared.side.Side.TheVariants.{A, B}
use Rattle.sides.specs.declared.side.Side.{Side}
use Rattle.stream_lanes.proofs.Lists.{Every-push}
use Rattle.stream_lanes.specs.Words.{Every}
use Rattle.subflow_send.specs.Records.{Record, SendState}
use Rattle.subflow_send.specs.Sendings.{never_sent}
use Rattle.subflow_send.specs.Rules.{fin_record, ack_kind, after_acknowledge, after_fin_sent, after_finish, after_resent, sample_of, uncovered}
use Rattle.subflow_send.specs.declared.record.AckKind.{AckKind}
use Rattle.subflow_send.specs.declared.record.RecordKind.TheVariants.{Data}
use Rattle.subflow_send.specs.declared.record.Sending.{Sending}
use Rattle.subflow_tcp.specs.Emitting.{after_sending, syn_resent}
use Rattle.subflow_tcp.specs.Expiring.{after_expiry, after_fire, is_sixth}
use Rattle.subflow_tcp.specs.Segments.{Copy}
use Rattle.subflow_tcp.specs.State.{EndState}
use Rattle.subflow_tcp.specs.States.{is_waiting, is_dead}
use Rattle.subflow_tcp.specs.declared.segments.Hint.{Hint}
use Rattle.subflow_tcp.specs.declared.segments.Occasion.{Occasion}
use Rattle.subflow_tcp.specs.declared.verdicts.Meaning.{Meaning}
use Rattle.world_laws.proofs.Lanes.Records.{unsent_sent_kept, first_sent_kept, fin_sent_kept, expired_kept, uncovered_kept}
use Rattle.world_laws.proofs.Writes.Paths.{writes_no_more, passes_no_more}
use Rattle.world_laws.proofs.Writes.Steps.{Lasts, both_ends, settled_lasts, unwritten, takes_lasts, begins_lasts}
use Rattle.world_laws.specs.Writes.{writes, side_of, Only, OnlyAt, EndWrites, EndView}
use Rattle.subflow_tcp.specs.Opening.{after_begin}
use Rattle.path_agenda.specs.declared.keys.KeyPair.{KeyPair}
use Rattle.path_segments.specs.Heard.{HeardSegment}
use Rattle.path_core.specs.OptionsIn.{options_heard}
use Rattle.world_laws.proofs.Falls.FailedChecks.{infinite_came_so}
use Rattle.path_core.specs.Timer.{after_firing, template_fired, timer_fired}
use Rattle.subflow_tcp.specs.Taking as taking

module _ (P : Record → Type 0) (any : (r : Record) (x : Sending) → P r → P (record r { sending = x })) (fin : (n : ℕ) → P (fin_record n never_sent)) where
  abbrev pub RecordsAre : SendState → Type 0
  RecordsAre v = Every P v.records

  -- what one sending side keeps in another
  abbrev pub Keeps : SendState → SendState → Type 0
  Keeps v w = RecordsAre v → RecordsAre w

  resent_keeps : (now : ℕ) (v : SendState) → Keeps v (syn_resent now v)
  resent_keeps now v h = by (v.una == 0)
    where
      by : (b : Bool) → RecordsAre (if b then after_resent now v else v)
      by true = first_sent_kept P any now v.records h
      by false = h

  acknowledged_keeps : (pos : ℕ) (v : SendState) → Keeps v (after_acknowledge pos v)
  acknowledged_keeps pos v h = by (nat_lt v.una pos && nat_le pos v.nxt)
    where
      by : (b : Bool) → RecordsAre (if b then record v { una = pos; records = uncovered pos v.records } else v)
      by true = uncovered_kept pos v.records h
      by false = h

  sending_keeps : (occasion : Occasion) (now : ℕ) (s : EndState) → Keeps s.send (after_sending occasion now s).send
  sending_keeps Occasion.Reset now s h = h
  sending_keeps Occasion.Answer now s h = h
  sending_keeps Occasion.SynAck now s h = resent_keeps now s.send h
  sending_keeps Occasion.Ack now s h = h
  sending_keeps Occasion.Probe now s h = h
  sending_keeps Occasion.First now s h = first_sent_kept P any now s.send.records h
  sending_keeps Occasion.Unsent now s h = unsent_sent_kept P any now s.send.records h
  sending_keeps Occasion.Fin now s h = fin_sent_kept P any now s.send.records h

  finished_keeps : (now : ℕ) (s : EndState) → Keeps s.send (after_fin_sent now (after_finish s.send))
  finished_keeps now s h = fin_sent_kept P any now (after_finish s.send).records (Every-push _ h (fin s.send.nxt))

  fire_keeps : (now : ℕ) (s : EndState) → Keeps s.send (after_fire now s).send
  fire_keeps now s h = by (is_sixth s)
    where
      by : (b : Bool) → RecordsAre (if b then taking.after_death true s else after_expiry now s).send
      by true = acknowledged_keeps s.send.nxt s.send h
      by false = expired_kept P any s.send.records h

  -- ---- a copy

  payload_keeps : (m : Meaning) (octets : List ℕ) (s : EndState) → Keeps s.send (with_payload m octets s).send
  payload_keeps (Meaning.Taken position acknowledged) [] s h = h
  payload_keeps (Meaning.Taken position acknowledged) (x ∷ octets) s h = h
  payload_keeps _ octets s h = h

  one_of : (b : Bool) (x y : EndState) → RecordsAre x.send → RecordsAre y.send → RecordsAre (if b then x else y).send
  one_of true x y h g = h
  one_of false x y h g = g

  ack_keeps : (pos now : ℕ) (s : EndState) → Keeps s.send (taking.after_acknowledgement pos now s).send
  ack_keeps pos now s h = by (ack_kind pos s.send)
    where
      by : (kind : AckKind) → RecordsAre (taking.after_ack_kind kind (sample_of pos s.send) now (record s { send = after_acknowledge pos s.send })).send
      by (AckKind.New octets) = acknowledged_keeps pos s.send h
      by _ = acknowledged_keeps pos s.send h

  arrival_keeps : (m : Meaning) (hint : Hint) (now : ℕ) (copy : Copy) (s : EndState) → Keeps s.send (taking.after_arrival m hint now copy s).send
  arrival_keeps (Meaning.Taken pos acknowledged) hint now copy s h =
      let t : EndState = taking.after_established (taking.after_hearing (taking.after_payload pos hint copy s)) in
      let a : EndState = taking.after_acknowledgement acknowledged now t in
      let kept = ack_keeps acknowledged now t h in
      one_of (taking.is_duplicate (ack_kind acknowledged t.send) (taking.told_by hint copy) copy a) (taking.after_duplicate a) (taking.after_interruption a) kept kept
  arrival_keeps (Meaning.Accepts acknowledged) hint now copy s h = ack_keeps acknowledged now _ h
  arrival_keeps Meaning.Kills hint now copy s h = acknowledged_keeps s.send.nxt s.send h
  arrival_keeps _ hint now copy s h = h

  owing_keeps : (b : Bool) (s : EndState) → Keeps s.send (owing_if b s).send
  owing_keeps true s h = h
  owing_keeps false s h = h

  -- ---- ends

  abbrev pub EndKeeps : PathEnd → PathEnd → Type 0
  EndKeeps e f = Keeps e.tcp.send f.tcp.send

  same_keeps : (v w : SendState) → w ≡ v → Keeps v w
  same_keeps v w same h = subst RecordsAre (sym same) h

  died_keeps : (e : PathEnd) → EndKeeps e (died e)
  died_keeps e h = acknowledged_keeps e.tcp.send.nxt e.tcp.send h

  unless_keeps : (e : PathEnd) → EndKeeps e (died_unless_dead e)
  unless_keeps e h = by (is_dead e.tcp.state)
    where
      by : (b : Bool) → RecordsAre (if b then e else died e).tcp.send
      by true = h
      by false = died_keeps e h

  opened_keeps : (keys : Option KeyPair) (e : PathEnd) → EndKeeps e (opened_by keys e)
  opened_keeps None e h = h
  opened_keeps (Some keys) e h = one_of (is_waiting e.tcp.state) (after_begin e.tcp) e.tcp h h

  -- ---- paths

  pub record Kept (p q : PathState Carried) : Type 0 where
    pub a : EndKeeps p.a q.a
    pub b : EndKeeps p.b q.b

  on : (s : Side) (e : PathEnd) (ds : List Duty) (p : PathState Carried) → EndKeeps (end_at s p) e → Kept p (goes_on s e ds p)
  on A e ds p h = record { a = h; b = λ z. z }
  on B e ds p h = record { a = λ z. z; b = h }

  sent : (s : Side) (segment : PlainSegment) (e : PathEnd) (ds : List Duty) (p : PathState Carried) → EndKeeps (end_at s p) e → Kept p (sent_on values s segment e ds p)
  sent A segment e ds p h = record { a = h; b = λ z. z }
  sent B segment e ds p h = record { a = λ z. z; b = h }

  then_kept : (p q r : PathState Carried) → Kept p q → Kept q r → Kept p r
  then_kept p q r x y = record { a = λ z. y.a (x.a z); b = λ z. y.b (x.b z) }

  either : (b : Bool) (p q r : PathState Carried) → Kept p q → Kept p r → Kept p (if b then q else r)
  either true p q r x y = x
  either false p q r x y = y

  -- a duty that doesn't write them
  end_unwritten : (w : EndWrites) → w.send ≡ false → (e f : PathEnd) → Only w e f → EndKeeps e f
  end_unwritten w never e f x = same_keeps e.tcp.send f.tcp.send (unwritten w.send e.tcp.send f.tcp.send never (ap (λ (v : EndView). v.send) x.same))

  only : (d : Duty) (p q : PathState Carried) → (writes d).own.send ≡ false → (writes d).other.send ≡ false → OnlyAt (side_of d) (writes d) p q → Kept p q
  only d p q own other x =
      let both = both_ends EndKeeps (side_of d) (writes d) p q (end_unwritten (writes d).own own) (end_unwritten (writes d).other other) x in
      record { a = both.0; b = both.1 }

  break_kept : (s : Side) (reason : ℕ) (r : Reply) (p : PathState Carried) → Kept p (answered_break values s reason r p)
  break_kept s reason r p = either (end_at s p).treated.asked p _ _ (on s _ _ p (λ z. z)) (sent s _ _ _ p (died_keeps (end_at s p)))

  join_kept : (r : Reply) (dead living : List Duty) (p : PathState Carried) → Kept p (join_begun r dead living p)
  join_kept r dead living p = either _ p _ _ (on A (never_joined r p.a) dead p (died_keeps p.a)) (on A (opened_by (keys_begun r) p.a) living p (opened_keeps (keys_begun r) p.a))

  -- ---- what happens by itself

  line_kept : (action : LineAction) (p : PathState Carried) → Kept p (after_line action p)
  line_kept LineAction.Die p = record { a = unless_keeps p.a; b = unless_keeps p.b }
  line_kept (LineAction.Prio s backup) p = on s _ _ p (λ z. z)
  line_kept (LineAction.Announce s id) p = record { a = λ z. z; b = λ z. z }
  line_kept (LineAction.Withdraw s id) p = record { a = λ z. z; b = λ z. z }

  heard_kept : (now : ℕ) (s : Side) (x : HeardSegment) (p : PathState Carried) → Kept p (told_at now s x p)
  heard_kept now s x p =
      let e : PathEnd = end_at s p in
      let m : Meaning = taken_as (judged_in (is_joined p.profile) s x e) in
      on s _ _ p (λ z. owing_keeps _ _ (arrival_keeps m _ now _ (with_payload m x.payload e.tcp) (payload_keeps m x.payload e.tcp z)))

  copy_kept : (s : Side) (o : Option HeardSegment) (p : PathState Carried) → Kept p (copy_heard s o p)
  copy_kept s None p = record { a = λ z. z; b = λ z. z }
  copy_kept s (Some x) p = heard_kept p.clock s (options_heard (end_at s p) x) p

  fired_kept : (s : Side) (p : PathState Carried) → Kept p (timer_fired s p)
  fired_kept s p = on s (after_firing p.clock (end_at s p)) (template_fired (is_sixth (end_at s p).tcp) s) p (fire_keeps p.clock (end_at s p).tcp)

  pub event_kept : (o : Option Event) (r : Reply) (p : PathState Carried) → Kept p (happens_if values o r p)
  event_kept None r p = record { a = λ z. z; b = λ z. z }
  event_kept (Some (Event.Joins tick)) r p =
      let k = join_kept r _ _ (record (at_tick tick p) { joined_at = None }) in record { a = k.a; b = k.b }
  event_kept (Some (Event.Takes line)) r p =
      let k = line_kept line.action (record (at_tick line.tick p) { lines = _ }) in record { a = k.a; b = k.b }
  event_kept (Some (Event.Arrives due)) r p =
      let k = copy_kept due.to _ (record (at_tick due.tick p) { link = _ }) in record { a = k.a; b = k.b }
  event_kept (Some (Event.Fires s tick)) r p =
      let k = fired_kept s (at_tick tick p) in record { a = k.a; b = k.b }

  -- ---- replies

  -- the record of a piece that was granted
  abbrev pub pushed : Side → Grant → PathState Carried → Record
  pushed s grant p = record {
    pos = (end_at s p).tcp.send.nxt;
    kind = Data;
    piece = grant.piece;
    mapping = mapping_of p.profile s grant.span.from (end_at s p).tcp.send.nxt grant.piece;
    sending = never_sent;
  }

  -- what a reply grants is so
  abbrev pub GrantFits : Reply → PathState Carried → Type 0
  GrantFits r p = (s : Side) (grant : Grant) → grant_in r ≡ Some grant → P (pushed s grant p)

  granted_kept : (s : Side) (o : Option Grant) (r : Reply) (p : PathState Carried) → ((grant : Grant) → o ≡ Some grant → P (pushed s grant p)) → Kept p (answered_grant s o r p)
  granted_kept s None r p fits = on s _ _ p (λ z. z)
  granted_kept s (Some grant) r p fits = on s _ _ p (λ z. Every-push _ z (fits grant refl))

  -- what the duty may be granted is so
  abbrev pub DutyFits : Duty → Reply → PathState Carried → Type 0
  DutyFits (Duty.Step (StepDuty.Data s)) r p = first_unsent (end_at s p) ≡ None → (grant : Grant) → grant_in r ≡ Some grant → P (pushed s grant p)
  DutyFits _ r p = Unit {0}

  data_kept : (s : Side) (o : Option Record) (r : Reply) (p : PathState Carried) → first_unsent (end_at s p) ≡ o → DutyFits (Duty.Step (StepDuty.Data s)) r p → Kept p (answered_data values s o r p)
  data_kept s (Some next) r p is fits = sent s _ _ _ p (sending_keeps Occasion.Unsent p.clock (end_at s p).tcp)
  data_kept s None r p is fits = granted_kept s (grant_in r) r p (fits is)

  thing_kept : (s : Side) (item : Heard) (r : Reply) (p : PathState Carried) → Kept p (answered_heard values s item r p)
  thing_kept s (Heard.DataAck next window) r p = on s _ _ p (λ z. z)
  thing_kept s (Heard.Mapping fin) r p = either (is_clash (end_at s p)) p _ _ (break_kept s 1 r p) (on s _ _ p (λ z. z))
  thing_kept s (Heard.DataFin place) r p = on s _ _ p (λ z. z)
  thing_kept s (Heard.InfiniteMapping place position) r p =
      on s _ _ p (infinite_came_so (EndKeeps (end_at s p)) place position r (end_at s p) (λ other z. z))
  thing_kept s (Heard.Keys own peer) r p = on s _ _ p (λ z. z)
  thing_kept s (Heard.Notice notice) r p = on s _ _ p (λ z. z)
  thing_kept s Heard.Fail r p = either _ p _ _ (on s _ _ p (λ z. z)) (on s _ _ p (λ z. z))
  thing_kept s (Heard.FastClose key) r p = record { a = λ z. z; b = λ z. z }
  thing_kept s _ r p = record { a = λ z. z; b = λ z. z }

  item_kept : (s : Side) (o : Option Heard) (r : Reply) (p : PathState Carried) → Kept p (answered_item values s o r p)
  item_kept s None r p = record { a = λ z. z; b = λ z. z }
  item_kept s (Some item) r p = thing_kept s item r p

  ask_kept : (d : AskDuty) (r : Reply) (p : PathState Carried) → Kept p (answered values (Duty.Ask d) r p)
  ask_kept AskDuty.JoinAgain r p = join_kept r _ _ p
  ask_kept (AskDuty.LeaveNoted s) r p = on s _ _ p (died_keeps (end_at s p))
  ask_kept d r p = only (Duty.Ask d) p _ refl refl (writes_no_more values (Duty.Ask d) r p)

  step_kept : (d : StepDuty) (r : Reply) (p : PathState Carried) → DutyFits (Duty.Step d) r p → Kept p (answered values (Duty.Step d) r p)
  step_kept (StepDuty.Look s) r p fits = only (Duty.Step (StepDuty.Look s)) p _ refl refl (writes_no_more values (Duty.Step (StepDuty.Look s)) r p)
  step_kept (StepDuty.Data s) r p fits = data_kept s (first_unsent (end_at s p)) r p refl fits
  step_kept StepDuty.Events r p fits = event_kept (next_event p) r p
  step_kept (StepDuty.Heard s index) r p fits = item_kept s (item_of index (end_at s p)) r p
  step_kept (StepDuty.PlainAck s) r p fits = either (breaks_by_ack p.profile (end_at s p)) p _ _ (break_kept s 6 r p) (on s _ _ p (λ z. z))
  step_kept (StepDuty.Unmapped s) r p fits = break_kept s 6 r p

  send_kept : (d : SendDuty) (r : Reply) (p : PathState Carried) → Kept p (answered values (Duty.Send d) r p)
  send_kept (SendDuty.Syn s) r p = sent s _ _ _ p (sending_keeps Occasion.Unsent p.clock (end_at s p).tcp)
  send_kept (SendDuty.Fin s) r p = sent s _ _ _ p (finished_keeps p.clock (end_at s p).tcp)
  send_kept (SendDuty.SynAck s) r p = sent s _ _ _ p (sending_keeps Occasion.SynAck p.clock (end_at s p).tcp)
  send_kept (SendDuty.Again s) r p = sent s _ _ _ p (sending_keeps Occasion.First p.clock (end_at s p).tcp)
  send_kept (SendDuty.Answer s) r p = sent s _ _ _ p (sending_keeps (answer_occasion (end_at s p)) p.clock (end_at s p).tcp)
  send_kept (SendDuty.Resend s) r p = sent s _ _ _ p (sending_keeps (resend_occasion (end_at s p)) p.clock (end_at s p).tcp)
  send_kept (SendDuty.BreakReset s reason) r p = sent s _ _ _ p (died_keeps (end_at s p))
  send_kept (SendDuty.Reset s) r p = sent s _ _ _ p (died_keeps (end_at s p))
  send_kept (SendDuty.ResetNoted s) r p = sent s _ _ _ p (died_keeps (end_at s p))
  send_kept d r p = only (Duty.Send d) p _ refl refl (writes_no_more values (Duty.Send d) r p)

  answered_kept : (d : Duty) (r : Reply) (p : PathState Carried) → DutyFits d r p → Kept p (answered values d r p)
  answered_kept (Duty.Ask d) r p fits = ask_kept d r p
  answered_kept (Duty.Step d) r p fits = step_kept d r p fits
  answered_kept (Duty.Send d) r p fits = send_kept d r p
  answered_kept (Duty.Silent d) r p fits = record { a = λ z. z; b = λ z. z }
  answered_kept Duty.End r p fits = record { a = λ z. z; b = λ z. z }

  -- ---- what is passed

  end_of_two : (b : Bool) (e f : PathEnd) → RecordsAre e.tcp.send → RecordsAre f.tcp.send → RecordsAre (if b then e else f).tcp.send
  end_of_two true e f h g = h
  end_of_two false e f h g = g

  pass_kept : (s : Side) (o : Option Heard) (p : PathState Carried) → EndKeeps (end_at s p) (item_passed s o (end_at s p))
  pass_kept s None p h = h
  pass_kept s (Some (Heard.Mapping fin)) p h = end_of_two (counts (end_at s p)) (with_learned (end_at s p)) (with_skipped (end_at s p)) h h
  pass_kept s (Some (Heard.DataFin place)) p h = end_of_two (counts (end_at s p)) (with_data_fin place (end_at s p)) (end_at s p) h h
  pass_kept s (Some _) p h = h

  ends : (s : Side) (e : PathEnd) (p : PathState Carried) → EndKeeps (end_at s p) e → Kept p (with_end s e p)
  ends A e p h = record { a = h; b = λ z. z }
  ends B e p h = record { a = λ z. z; b = h }

  passed_step : (d : StepDuty) (p : PathState Carried) → Kept p (passed (Duty.Step d) p)
  passed_step (StepDuty.Heard s index) p = ends s _ p (pass_kept s (item_of index (end_at s p)) p)
  passed_step (StepDuty.PlainAck s) p = ends s _ p (λ z. z)
  passed_step (StepDuty.Unmapped s) p = ends s _ p (λ z. z)
  passed_step _ p = record { a = λ z. z; b = λ z. z }

  passed_ask : (d : AskDuty) (p : PathState Carried) → Kept p (passed (Duty.Ask d) p)
  passed_ask (AskDuty.CheckFailed s) p = only (Duty.Ask (AskDuty.CheckFailed s)) p _ refl refl (passes_no_more (Duty.Ask (AskDuty.CheckFailed s)) p)
  passed_ask _ p = record { a = λ z. z; b = λ z. z }

  passed_silent : (d : SilentDuty) (p : PathState Carried) → Kept p (passed (Duty.Silent d) p)
  passed_silent d p = only (Duty.Silent d) p _ (none d) refl (passes_no_more (Duty.Silent d) p)
    where
      none : (d : SilentDuty) → (writes (Duty.Silent d)).own.send ≡ false
      none (SilentDuty.Timer s) = refl
      none _ = refl

  passed_kept : (d : Duty) (p : PathState Carried) → Kept p (passed d p)
  passed_kept (Duty.Ask d) p = passed_ask d p
  passed_kept (Duty.Step d) p = passed_step d p
  passed_kept (Duty.Send d) p = record { a = λ z. z; b = λ z. z }
  passed_kept (Duty.Silent d) p = passed_silent d p
  passed_kept Duty.End p = record { a = λ z. z; b = λ z. z }

  pub lasts : Lasts Kept
  lasts = record {
    agenda = λ ds p. record { a = λ z. z; b = λ z. z };
    chains = λ p q r x y. then_kept p q r x y;
    passes = λ d p. passed_kept d p;
  }

  pub takes_kept : (r : Reply) (p : PathState Carried) → GrantFits r p → Kept p (takes values r p)
  takes_kept r p fits = takes_lasts Kept lasts values r p (λ d. answered_kept d r p (all d))
    where
      all : (d : Duty) → DutyFits d r p
      all (Duty.Step (StepDuty.Data s)) = λ none. fits s
      all (Duty.Step StepDuty.Events) = tt
      all (Duty.Step (StepDuty.Look s)) = tt
      all _ = tt

  pub kept_at : (s : Side) (p q : PathState Carried) → Kept p q → EndKeeps (end_at s p) (end_at s q)
  kept_at A p q k = k.a
  kept_at B p q k = k.b

  -- the records of a side, where what it is granted is so
  pub takes_at : (s : Side) (r : Reply) (p : PathState Carried) → ((ds : List Duty) → p.agenda ≡ Duty.Step (StepDuty.Data s) ∷ ds → DutyFits (Duty.Step (StepDuty.Data s)) r p)
      → EndKeeps (end_at s p) (end_at s (takes values r p))
  takes_at s r p fits = by p.agenda refl
    where
      rest : (q : PathState Carried) → EndKeeps (end_at s p) (end_at s q) → EndKeeps (end_at s p) (end_at s (settled q.agenda q))
      rest q k h = kept_at s q (settled q.agenda q) (settled_lasts Kept lasts q.agenda q) (k h)

      other : (d : Duty) → DutyFits d r p → EndKeeps (end_at s p) (end_at s (settled (answered values d r p).agenda (answered values d r p)))
      other d fit = rest (answered values d r p) (kept_at s p (answered values d r p) (answered_kept d r p fit))

      granted : (t : Side) (o : Option Grant) → EndKeeps (end_at (peer t) p) (end_at (peer t) (answered_grant t o r p))
      granted A None h = h
      granted A (Some grant) h = h
      granted B None h = h
      granted B (Some grant) h = h

      passed_by : (t : Side) (o : Option Record) → EndKeeps (end_at (peer t) p) (end_at (peer t) (answered_data values t o r p))
      passed_by t None h = granted t (grant_in r) h
      passed_by A (Some unsent) h = h
      passed_by B (Some unsent) h = h

      -- the other side's octets
      by_data : (t : Side) (ds : List Duty) → p.agenda ≡ Duty.Step (StepDuty.Data t) ∷ ds → (s ≡ t) ⊎ (s ≡ peer t)
          → EndKeeps (end_at s p) (end_at s (settled (answered values (Duty.Step (StepDuty.Data t)) r p).agenda (answered values (Duty.Step (StepDuty.Data t)) r p)))
      by_data t ds same (inl own) =
          other (Duty.Step (StepDuty.Data t)) (subst (λ (u : Side). DutyFits (Duty.Step (StepDuty.Data u)) r p) own (fits ds (same ∙ ap (λ (u : Side). Duty.Step (StepDuty.Data u) ∷ ds) (sym own))))
      by_data t ds same (inr peers) =
          rest (answered values (Duty.Step (StepDuty.Data t)) r p)
          (subst (λ (u : Side). EndKeeps (end_at u p) (end_at u (answered values (Duty.Step (StepDuty.Data t)) r p))) (sym peers) (passed_by t (first_unsent (end_at t p))))

      either_side : (u t : Side) → (u ≡ t) ⊎ (u ≡ peer t)
      either_side A A = inl refl
      either_side B B = inl refl
      either_side A B = inr refl
      either_side B A = inr refl

      by : (ds : List Duty) → p.agenda ≡ ds → EndKeeps (end_at s p) (end_at s (settled (answers values ds r p).agenda (answers values ds r p)))
      by [] same = rest p (λ h. h)
      by (Duty.Step (StepDuty.Data t) ∷ ds) same = by_data t ds same (either_side s t)
      by (Duty.Step StepDuty.Events ∷ ds) same = other (Duty.Step StepDuty.Events) tt
      by (Duty.Step (StepDuty.Look t) ∷ ds) same = other (Duty.Step (StepDuty.Look t)) tt
      by (Duty.Step (StepDuty.Heard t index) ∷ ds) same = other (Duty.Step (StepDuty.Heard t index)) tt
      by (Duty.Step (StepDuty.PlainAck t) ∷ ds) same = other (Duty.Step (StepDuty.PlainAck t)) tt
      by (Duty.Step (StepDuty.Unmapped t) ∷ ds) same = other (Duty.Step (StepDuty.Unmapped t)) tt
      by (Duty.Ask d ∷ ds) same = other (Duty.Ask d) tt
      by (Duty.Send d ∷ ds) same = other (Duty.Send d) tt
      by (Duty.Silent d ∷ ds) same = other (Duty.Silent d) tt
      by (Duty.End ∷ ds) same = other Duty.End tt

  pub next_kept : (p : PathState Carried) → Kept p (next_round p)
  next_kept p = let k = begins_lasts Kept lasts (record p { clock = p.until; until = p.until + 100 }) in record { a = k.a; b = k.b }
