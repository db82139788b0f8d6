-- The expiries of an end in a row are more by an expiry alone: each other duty leaves them, or ends the row.
use Rattle.std.proofs.Common.{◌≡◌, refl, sym, subst, ap, ◌∙◌, ⊎_elim, ℕ, suc, ◌+◌, ◌<◌, ◌≤◌, nat_le, arith, Bool, true, false, true≢false, if◌then◌else◌, Option, Some, None, List, [], ◌∷◌, le_refl}
use Rattle.std.proofs.lemmas.Bool.{le-leb, cases_lt}
use Rattle.path_segments.specs.Heard.{HeardSegment}
use Rattle.sides.specs.declared.side.Side.{Side}
use Rattle.sides.specs.declared.side.Side.TheVariants.{A, B}
use Rattle.link_model.specs.Steps.{arriving, after_delivery}
use Rattle.loss_recovery.specs.declared.timers.Timing.{Timing}
use Rattle.subflow_send.specs.declared.record.AckKind.TheVariants.{New, Duplicate, Old, Future}
use Rattle.subflow_send.specs.Rules.{ack_kind, sample_of, after_acknowledge}
use Rattle.subflow_tcp.specs.declared.handshake.State.TheVariants as phase
use Rattle.subflow_tcp.specs.declared.segments.Hint.{Hint}
use Rattle.subflow_tcp.specs.declared.verdicts.Meaning.{Meaning}
use Rattle.subflow_tcp.specs.declared.verdicts.Meaning.TheVariants as means
use Rattle.subflow_tcp.specs.Expiring.{after_expiry, after_fire, is_sixth}
use Rattle.subflow_tcp.specs.Opening.{after_begin}
use Rattle.subflow_tcp.specs.Segments.{Copy}
use Rattle.subflow_tcp.specs.State.{EndState}
use Rattle.subflow_tcp.specs.States.{is_dead, is_waiting}
use Rattle.subflow_tcp.specs.Taking.{after_payload, after_ack_kind, after_acknowledgement, is_duplicate, after_duplicate, after_interruption, told_by, after_telling, after_heard_ack, after_established, after_hearing, after_arrival, after_death, after_holding}
use Rattle.actor_desk.specs.declared.ask.Reply.{Reply}
use Rattle.actor_desk.specs.Words.{tail_of, is_nil}
use Rattle.path_agenda.specs.Agenda.{leaves, emission}
use Rattle.path_agenda.specs.declared.duty.Duty.{Duty}
use Rattle.path_agenda.specs.declared.duty.Duty.TheVariants as duties
use Rattle.path_agenda.specs.declared.duty.AskDuty.TheVariants as ask_duties
use Rattle.path_agenda.specs.declared.duty.SendDuty.TheVariants as send_duties
use Rattle.path_agenda.specs.declared.duty.SilentDuty.TheVariants as silent_duties
use Rattle.path_agenda.specs.declared.duty.StepDuty.TheVariants as step_duties
use Rattle.path_agenda.specs.declared.heard.Heard.{Heard}
use Rattle.path_agenda.specs.declared.heard.Heard.TheVariants as says
use Rattle.path_agenda.specs.declared.keys.KeyPair.{KeyPair}
use Rattle.path_store.specs.declared.lines.LineAction.{LineAction}
use Rattle.path_store.specs.declared.lines.LineAction.TheVariants as actions
use Rattle.path_core.specs.Arrival.{judged_in, after_judged, copy_heard, heard_in, copy_of, copy_judged, reset_for, owing_if, with_payload}
use Rattle.path_core.specs.OptionsIn.{items_of, options_heard, hint_of, owes_by}
use Rattle.path_core.specs.Judged.{taken_as}
use Rattle.path_core.specs.Breaking.{answered_break, died_unless_dead}
use Rattle.path_core.specs.Codec.{Codec}
use Rattle.path_core.specs.Deliver.{after_pieces}
use Rattle.path_core.specs.DssIn.{counts, is_clash, held_of, with_learned, with_skipped, with_data_fin}
use Rattle.path_core.specs.Duties.{passed, answered}
use Rattle.path_core.specs.End.{PathEnd, died}
use Rattle.path_core.specs.Events.{next_event, after_line, happens_if}
use Rattle.path_core.specs.Fallback.{breaks_by_ack, with_plain_ack}
use Rattle.path_core.specs.MpJoin.{join_begun, is_joined, is_never, never_joined, keys_begun, opened_by, with_keys}
use Rattle.path_core.specs.Profile.{Profile}
use Rattle.path_core.specs.State.{PathState, at_tick, end_at, goes_on, with_end}
use Rattle.path_core.specs.Steps.{takes, next_round}
use Rattle.path_core.specs.Timer.{with_timer_settled}
use Rattle.path_core.specs.Treating.{item_passed, answered_heard, answered_item, item_of}
use Rattle.path_core.specs.declared.events.Event.{Event}
use Rattle.path_core.specs.declared.events.Event.TheVariants as happenings
use Rattle.world_laws.specs.declared.member.Member.TheVariants.{App, Path}
use Rattle.world_laws.specs.Actors.{Actor, member_takes, member_next}
use Rattle.world_laws.specs.StampedBooks.{answer_to}
use Rattle.world_laws.specs.Writes.{EndWrites, EndView, Writes, Only, OnlyAt, nothing, writes, side_of}
use Rattle.world_laws.proofs.Falls.FailedChecks.{infinite_came_so, fail_answered_so}
use Rattle.world_laws.proofs.Writes.Paths.{writes_no_more, passes_no_more}
use Rattle.world_laws.proofs.Writes.Steps.{Lasts, unwritten, both_ends, settled_lasts, begins_lasts}
use Rattle.whole_paths.specs.ExpiriesInARow.{in_a_row, ExpiriesAloneCount, RowGoesOn, RowsGoOn}
use Rattle.whole_paths.specs.ExpiriesInARow.{RowGoesOn as row}
use Rattle.whole_paths.proofs.Turns.{turn_each}

-- ---- the subflow

abbrev Fewer : EndState → EndState → Type 0
Fewer s t = t.timing.expiries ≤ s.timing.expiries

ack_fewer : (pos now : ℕ) (s : EndState) → Fewer s (after_acknowledgement pos now s)
ack_fewer pos now s = elim (ack_kind pos s.send) as (λ kind. Fewer s (after_ack_kind kind (sample_of pos s.send) now (record s { send = after_acknowledge pos s.send })))
    [ New octets ↦ le_refl s.timing.expiries | Duplicate ↦ le_refl s.timing.expiries | Old ↦ le_refl s.timing.expiries | Future ↦ le_refl s.timing.expiries ]

heard_ack_fewer : (pos : ℕ) (hint : Hint) (now : ℕ) (c : Copy) (s : EndState) → Fewer s (after_heard_ack pos hint now c s)
heard_ack_fewer pos hint now c s = elim (is_duplicate (ack_kind pos s.send) (told_by hint c) c acked) as (λ b. Fewer s (after_telling (told_by hint c) (if b then after_duplicate acked else after_interruption acked)))
    [ true ↦ ack_fewer pos now s | false ↦ ack_fewer pos now s ]
  where
    acked : EndState
    acked = after_acknowledgement pos now s

-- an acceptable segment ends the row
arrived_fewer : (m : Meaning) (hint : Hint) (now : ℕ) (c : Copy) (s : EndState) → Fewer s (after_arrival m hint now c s)
arrived_fewer means.Challenged hint now c s = omega arith
arrived_fewer means.Unacknowledging hint now c s = omega arith
arrived_fewer means.Ahead hint now c s = omega arith
arrived_fewer (means.Accepts acknowledged) hint now c s =
    let h = ack_fewer acknowledged now (record (after_hearing (after_payload 1 hint c s)) { state = phase.Established }) in omega (arith, h)
arrived_fewer (means.Taken pos acknowledged) hint now c s =
    let h = heard_ack_fewer acknowledged hint now c (after_established (after_hearing (after_payload pos hint c s))) in omega (arith, h)
arrived_fewer _ hint now c s = le_refl s.timing.expiries

-- an acknowledgement may be owed besides, and the payload is held before
held_fewer : (m n : Meaning) (octets : List ℕ) (hint : Hint) (now : ℕ) (c : Copy) (s : EndState) → Fewer s (after_arrival n hint now c (with_payload m octets s))
held_fewer (means.Taken pos acknowledged) n octets hint now c s = by (is_nil octets)
  where
    by : (b : Bool) → Fewer s (after_arrival n hint now c (if b then s else after_holding pos octets s))
    by true = arrived_fewer n hint now c s
    by false = arrived_fewer n hint now c (after_holding pos octets s)
held_fewer _ n octets hint now c s = arrived_fewer n hint now c s

owing_fewer : (b : Bool) (s t : EndState) → Fewer s t → Fewer s (owing_if b t)
owing_fewer false s t h = h
owing_fewer true s t h = h

-- ---- an end

record Lower (e f : PathEnd) : Type 0 where
  fewer : in_a_row f ≤ in_a_row e

low : (e f : PathEnd) → in_a_row f ≡ in_a_row e → Lower e f
low e f same = record { fewer = omega (arith, same) }

rests : (e : PathEnd) → Lower e e
rests e = record { fewer = le_refl (in_a_row e) }

-- where the timing may not be written
no_more_written : (w : EndWrites) (e f : PathEnd) → w.timing ≡ false → Only w e f → in_a_row f ≡ in_a_row e
no_more_written w e f timing x = ap (λ (t : Timing). t.expiries) (unwritten w.timing e.tcp.timing f.tcp.timing timing (ap (λ (v : EndView). v.timing) x.same))

only_low : (w : EndWrites) (e f : PathEnd) → w.timing ≡ false → Only w e f → Lower e f
only_low w e f timing x = low e f (no_more_written w e f timing x)

either_low : (b : Bool) (e f g : PathEnd) → Lower e f → Lower e g → Lower e (if b then f else g)
either_low true e f g x y = x
either_low false e f g x y = y

judged_low : (c : Profile) (s : Side) (now : ℕ) (h : HeardSegment) (e : PathEnd) (m : Meaning) → Lower e (copy_judged (is_joined c) (held_of c s h) (reset_for c s h) s now h m e)
judged_low c s now h e m =
    let items : List Heard = items_of (is_joined c) s h in
    record {
      fewer = owing_fewer (owes_by m items) e.tcp (after_arrival m (hint_of items) now (copy_of h) (with_payload m h.payload e.tcp))
          (held_fewer m m h.payload (hint_of items) now (copy_of h) e.tcp);
    }

-- an expiry: one more, or the sixth
data Fired (e f : PathEnd) : Type 0 where
  is_last : in_a_row f ≤ in_a_row e → Fired e f
  counts_one : in_a_row e < 5 → in_a_row f ≡ suc (in_a_row e) → Fired e f

fires_so : (now : ℕ) (e : PathEnd) → Fired e (record e { tcp = after_fire now e.tcp })
fires_so now e = by (is_sixth e.tcp) refl
  where
    by : (b : Bool) → nat_le 5 e.tcp.timing.expiries ≡ b → Fired e (record e { tcp = if b then after_death true e.tcp else after_expiry now e.tcp })
    by true is = is_last (le_refl e.tcp.timing.expiries)
    by false is = ⊎_elim (λ few. counts_one few (omega arith)) (λ many. absurd (true≢false (sym (le-leb 5 e.tcp.timing.expiries many) ∙ is))) (cases_lt e.tcp.timing.expiries 5)

died_low : (e : PathEnd) → Lower e (died_unless_dead e)
died_low e = either_low (is_dead e.tcp.state) e e (died e) (rests e) (low e (died e) refl)

-- a thing that was heard, and passed
item_same : (s : Side) (o : Option Heard) (e : PathEnd) → in_a_row (item_passed s o e) ≡ in_a_row e
item_same s None e = refl
item_same s (Some says.Dss) e = refl
item_same s (Some (says.Mapping fin)) e = elim (counts e) as (λ b. in_a_row (if b then with_learned e else with_skipped e) ≡ in_a_row e) [ true ↦ refl | false ↦ refl ]
item_same s (Some (says.DataFin place)) e = elim (counts e) as (λ b. in_a_row (if b then with_data_fin place e else e) ≡ in_a_row e) [ true ↦ refl | false ↦ refl ]
item_same s (Some _) e = refl

-- an event
abbrev by_event : Duty
by_event = duties.Step step_duties.Events

-- ---- a path

module _ {C : Type 0} where
  record BothLower (p q : PathState C) : Type 0 where
    a : Lower p.a q.a
    b : Lower p.b q.b

  -- the end of this side becomes that one
  side : (s : Side) (e : PathEnd) (p q : PathState C) → Lower (end_at s p) e → q.a ≡ (goes_on s e [] p).a → q.b ≡ (goes_on s e [] p).b → BothLower p q
  side A e p q x same_a same_b = record { a = subst (Lower p.a) (sym same_a) x; b = subst (Lower p.b) (sym same_b) (rests p.b) }
  side B e p q x same_a same_b = record { a = subst (Lower p.a) (sym same_a) (rests p.a); b = subst (Lower p.b) (sym same_b) x }

  both_rest : (p q : PathState C) → q.a ≡ p.a → q.b ≡ p.b → BothLower p q
  both_rest p q same_a same_b = record { a = subst (Lower p.a) (sym same_a) (rests p.a); b = subst (Lower p.b) (sym same_b) (rests p.b) }

  either : (b : Bool) (q r p : PathState C) → BothLower p q → BothLower p r → BothLower p (if b then q else r)
  either true q r p x y = x
  either false q r p x y = y

  from_there : (p q r : PathState C) → q.a ≡ p.a → q.b ≡ p.b → BothLower q r → BothLower p r
  from_there p q r a b x = record { a = subst (λ e. Lower e r.a) a x.a; b = subst (λ e. Lower e r.b) b x.b }

  plain : (s : Side) (w : Writes) (p q : PathState C) → w.own.timing ≡ false → w.other ≡ nothing → OnlyAt s w p q → BothLower p q
  plain s w p q timing none x = record { a = h.0; b = h.1 }
    where
      h : Lower p.a q.a × Lower p.b q.b
      h = both_ends (λ e f. Lower e f) s w p q (λ e f only. only_low w.own e f timing only)
          (λ e f only. only_low nothing e f refl (subst (λ v. Only v e f) none only)) x

  -- ---- replies

  break_low : (k : Codec C) (s : Side) (reason : ℕ) (r : Reply) (p : PathState C) → BothLower p (answered_break k s reason r p)
  break_low k s reason r p = either (end_at s p).treated.asked _ _ p (side s _ p _ (low _ _ refl) refl refl) (side s _ p _ (low _ _ refl) refl refl)

  thing_low : (k : Codec C) (s : Side) (item : Heard) (r : Reply) (p : PathState C) → BothLower p (answered_heard k s item r p)
  thing_low k s (says.DataAck next window) r p = side s _ p _ (low _ _ refl) refl refl
  thing_low k s (says.Mapping fin) r p = either (is_clash (end_at s p)) _ _ p (break_low k s 1 r p) (side s _ p _ (low _ _ refl) refl refl)
  thing_low k s (says.DataFin place) r p = side s _ p _ (low _ _ refl) refl refl
  thing_low k s (says.InfiniteMapping place position) r p =
      let e = end_at s p in side s _ p _ (infinite_came_so (λ f. Lower e f) place position r e (λ other. low e _ refl)) refl refl
  thing_low k s (says.Keys own peer) r p = side s _ p _ (low _ _ refl) refl refl
  thing_low k s (says.Notice notice) r p = side s _ p _ (low _ _ refl) refl refl
  thing_low k s says.Fail r p = fail_answered_so (BothLower p) s r p (side s _ p _ (low _ _ refl) refl refl) (side s _ p _ (low _ _ refl) refl refl)
  thing_low k s _ r p = both_rest p _ refl refl

  things_low : (k : Codec C) (s : Side) (item : Option Heard) (r : Reply) (p : PathState C) → BothLower p (answered_item k s item r p)
  things_low k s None r p = both_rest p _ refl refl
  things_low k s (Some item) r p = thing_low k s item r p

  -- ---- events

  begun_low : (r : Reply) (dead living : List Duty) (p : PathState C) → BothLower p (join_begun r dead living p)
  begun_low r dead living p =
      either (is_never r) (goes_on A (never_joined r (end_at A p)) dead p) (goes_on A (opened_by (keys_begun r) (end_at A p)) living p) p
      (side A _ p _ (low _ _ refl) refl refl) (side A _ p _ (opens_low (keys_begun r)) refl refl)
    where
      opens_low : (keys : Option KeyPair) → Lower p.a (opened_by keys p.a)
      opens_low None = rests p.a
      opens_low (Some keys) = elim (is_waiting p.a.tcp.state) as (λ b. Lower p.a (record p.a { tcp = if b then after_begin p.a.tcp else p.a.tcp; modes = with_keys keys p.a.modes }))
          [ true ↦ low _ _ refl | false ↦ low _ _ refl ]

  line_low : (action : LineAction) (p : PathState C) → BothLower p (after_line action p)
  line_low actions.Die p = record { a = died_low p.a; b = died_low p.b }
  line_low (actions.Prio s backup) p = side s _ p _ (low _ _ refl) refl refl
  line_low (actions.Announce s id) p = both_rest p _ refl refl
  line_low (actions.Withdraw s id) p = both_rest p _ refl refl

  heard_low : (s : Side) (o : Option HeardSegment) (p : PathState C) → BothLower p (copy_heard s o p)
  heard_low s None p = both_rest p _ refl refl
  heard_low s (Some heard) p =
      let e : PathEnd = end_at s p in
      let h : HeardSegment = options_heard e heard in
      let x : Lower e (after_judged p.profile s p.clock h (judged_in (is_joined p.profile) s h e) e) = judged_low p.profile s p.clock h e (taken_as (judged_in (is_joined p.profile) s h e)) in
      side s _ p (copy_heard s (Some heard) p) x refl refl

  -- an end whose timer runs out by an event, or what becomes of it by the duty
  data RowAt (d : Duty) (s : Side) (p q : PathState C) : Type 0 where
    at_end : Lower (end_at s p) (end_at s q) → RowAt d s p q
    out : (at : ℕ) → d ≡ duties.Step step_duties.Events → next_event p ≡ Some (happenings.Fires s at) → Fired (end_at s p) (end_at s q) → RowAt d s p q

  abbrev AllRows : Duty → PathState C → PathState C → Type 0
  AllRows d p q = (t : Side) → RowAt d t p q

  ends : (d : Duty) (p q : PathState C) → BothLower p q → AllRows d p q
  ends d p q x A = at_end x.a
  ends d p q x B = at_end x.b

  fires_row : (k : Codec C) (s : Side) (tick : ℕ) (r : Reply) (p : PathState C) → next_event p ≡ Some (happenings.Fires s tick) → AllRows by_event p (happens_if k (Some (happenings.Fires s tick)) r p)
  fires_row k A tick r p next A = out tick refl next (fires_so (at_tick tick p).clock p.a)
  fires_row k A tick r p next B = at_end (rests p.b)
  fires_row k B tick r p next A = at_end (rests p.a)
  fires_row k B tick r p next B = out tick refl next (fires_so (at_tick tick p).clock p.b)

  event_row : (k : Codec C) (o : Option Event) (r : Reply) (p : PathState C) → next_event p ≡ o → AllRows by_event p (happens_if k o r p)
  event_row k None r p next = ends by_event p _ (both_rest p _ refl refl)
  event_row k (Some (happenings.Joins tick)) r p next =
      let q : PathState C = record (at_tick tick p) { joined_at = None } in ends by_event p _ (from_there p q _ refl refl (begun_low r (leaves A) (emission A) q))
  event_row k (Some (happenings.Takes line)) r p next =
      let q : PathState C = record (at_tick line.tick p) { lines = tail_of p.lines } in ends by_event p _ (from_there p q _ refl refl (line_low line.action q))
  event_row k (Some (happenings.Arrives due)) r p next =
      let q : PathState C = record (at_tick due.tick p) { link = after_delivery due p.link } in
      ends by_event p _ (from_there p q _ refl refl (heard_low due.to (heard_in k due.to (arriving due p.link) p) q))
  event_row k (Some (happenings.Fires s tick)) r p next = fires_row k s tick r p next

  -- ---- any duty

  answered_row : (k : Codec C) (d : Duty) (r : Reply) (p : PathState C) → AllRows d p (answered k d r p)
  answered_row k (duties.Step step_duties.Events) r p = event_row k (next_event p) r p refl
  answered_row k (duties.Ask ask_duties.JoinAgain) r p = ends _ p _ (begun_low r _ _ p)
  answered_row k (duties.Ask (ask_duties.LeaveNoted s)) r p = ends _ p _ (side s _ p _ (low _ _ refl) refl refl)
  answered_row k (duties.Step (step_duties.Heard s index)) r p = ends _ p _ (things_low k s (item_of index (end_at s p)) r p)
  answered_row k (duties.Step (step_duties.PlainAck s)) r p =
      ends _ p _ (either (breaks_by_ack p.profile (end_at s p)) _ _ p (break_low k s 6 r p) (side s _ p _ (low _ _ refl) refl refl))
  answered_row k (duties.Step (step_duties.Unmapped s)) r p = ends _ p _ (break_low k s 6 r p)
  answered_row k (duties.Send (send_duties.Update s)) r p = ends _ p _ (side s _ p _ (low _ _ refl) refl refl)
  answered_row k (duties.Send (send_duties.BreakReset s reason)) r p = ends _ p _ (side s _ p _ (low _ _ refl) refl refl)
  answered_row k (duties.Send (send_duties.Reset s)) r p = ends _ p _ (side s _ p _ (low _ _ refl) refl refl)
  answered_row k (duties.Send (send_duties.ResetNoted s)) r p = ends _ p _ (side s _ p _ (low _ _ refl) refl refl)
  answered_row k (duties.Silent d) r p = ends _ p _ (both_rest p _ refl refl)
  answered_row k d r p =
      let q : PathState C = answered k d r p in ends d p q (plain (side_of d) (writes d) p q refl refl (writes_no_more k d r p))

  -- ---- duties that are passed

  abbrev pub BothSame : PathState C → PathState C → Type 0
  BothSame p q = (s : Side) → in_a_row (end_at s q) ≡ in_a_row (end_at s p)

  -- the end of this side passes a duty
  own : (s : Side) (e : PathEnd) (p : PathState C) → in_a_row e ≡ in_a_row (end_at s p) → BothSame p (with_end s e p)
  own A e p x A = x
  own A e p x B = refl
  own B e p x A = refl
  own B e p x B = x

  plain_same : (s : Side) (w : Writes) (p q : PathState C) → w.own.timing ≡ false → w.other ≡ nothing → OnlyAt s w p q → BothSame p q
  plain_same s w p q timing none x = by
    where
      h : (in_a_row p.a ≡ in_a_row q.a) × (in_a_row p.b ≡ in_a_row q.b)
      h = both_ends (λ e f. in_a_row e ≡ in_a_row f) s w p q (λ e f only. sym (no_more_written w.own e f timing only))
          (λ e f only. sym (no_more_written nothing e f refl (subst (λ v. Only v e f) none only))) x

      by : BothSame p q
      by A = sym h.0
      by B = sym h.1

  passed_same : (d : Duty) (p : PathState C) → BothSame p (passed d p)
  passed_same (duties.Silent (silent_duties.Timer s)) p = own s (with_timer_settled p.clock (end_at s p)) p refl
  passed_same (duties.Step (step_duties.Heard s index)) p = let e : PathEnd = end_at s p in own s (item_passed s (item_of index e) e) p (item_same s (item_of index e) e)
  passed_same (duties.Step (step_duties.PlainAck s)) p = own s (with_plain_ack (end_at s p)) p refl
  passed_same (duties.Step (step_duties.Unmapped s)) p = own s (after_pieces (end_at s p)) p refl
  passed_same (duties.Ask ask_duties.JoinAgain) p = λ t. refl
  passed_same (duties.Ask (ask_duties.SubflowAck s)) p = λ t. refl
  passed_same (duties.Ask (ask_duties.LeaveNoted s)) p = λ t. refl
  passed_same (duties.Step step_duties.Events) p = λ t. refl
  passed_same (duties.Send (send_duties.Update s)) p = λ t. refl
  passed_same (duties.Send (send_duties.BreakReset s reason)) p = λ t. refl
  passed_same (duties.Send (send_duties.Reset s)) p = λ t. refl
  passed_same (duties.Send (send_duties.ResetNoted s)) p = λ t. refl
  passed_same d p = plain_same (side_of d) (writes d) p (passed d p) refl refl (passes_no_more d p)

  pub same_lasts : Lasts BothSame
  same_lasts = record {
    agenda = λ ds p t. by t ds p;
    chains = λ p q r x y t. y t ∙ x t;
    passes = λ d p. passed_same d p;
  }
    where
      by : (t : Side) (ds : List Duty) (p : PathState C) → in_a_row (end_at t (record p { agenda = ds })) ≡ in_a_row (end_at t p)
      by A ds p = refl
      by B ds p = refl

  -- ---- a turn

  answer_row : (d : Duty) (ds : List Duty) (s : Side) (p q r : PathState C) → p.agenda ≡ d ∷ ds → RowAt d s p q → in_a_row (end_at s r) ≡ in_a_row (end_at s q) → RowGoesOn s p r
  answer_row d ds s p q r first (at_end x) same = let fewer = x.fewer in row.no_more (omega (arith, fewer, same))
  answer_row d ds s p q r first (out at is next (is_last few)) same = row.no_more (omega (arith, few, same))
  answer_row d ds s p q r first (out at is next (counts_one few one)) same =
      row.one_more at (record { next = next; others = ds; first = first ∙ ap (λ x. x ∷ ds) is }) few (same ∙ one)

  pub takes_row : (k : Codec C) (r : Reply) (p : PathState C) (s : Side) → RowGoesOn s p (takes k r p)
  takes_row k r p s = by p.agenda
    where
      by : (ds : List Duty) → let x = record p { agenda = ds } in RowGoesOn s x (takes k r x)
      by [] = row.no_more (le_refl (in_a_row (end_at s (record p { agenda = [] }))))
      by (d ∷ ds) =
          let x : PathState C = record p { agenda = d ∷ ds } in
          let q : PathState C = answered k d r x in
          answer_row d ds s x q (takes k r x) refl (answered_row k d r x s) (settled_lasts BothSame same_lasts q.agenda q s)

  next_row : (p : PathState C) (s : Side) → RowGoesOn s p (next_round p)
  next_row p s =
      let q : PathState C = record p { clock = p.until; until = p.until + 100 } in
      let same = begins_lasts BothSame same_lasts q s in row.no_more (omega (arith, same, still s))
    where
      still : (t : Side) → in_a_row (end_at t (record p { clock = p.until; until = p.until + 100 })) ≡ in_a_row (end_at t p)
      still A = refl
      still B = refl

  -- ---- the world

  member_takes_row : (k : Codec C) (r : Reply) (m : Actor C) → RowsGoOn m (member_takes k r m)
  member_takes_row k r (App a) = tt
  member_takes_row k r (Path p) = takes_row k r p

  member_begins : (m : Actor C) → RowsGoOn m (member_next m)
  member_begins (App a) = tt
  member_begins (Path p) = next_row p

  member_stays : (m : Actor C) → RowsGoOn m m
  member_stays (App a) = tt
  member_stays (Path p) = λ s. row.no_more (le_refl (in_a_row (end_at s p)))

  pub expiries_alone_count : (k : Codec C) → ExpiriesAloneCount k
  expiries_alone_count k w turn actor c there = turn_each k (λ c d. RowsGoOn c.member d.member) (λ c. member_stays c.member)
      (λ ask books c. member_takes_row k (answer_to books ask) c.member) (λ stamp c over. member_begins c.member) turn w actor c there
