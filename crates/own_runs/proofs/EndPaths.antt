-- What each duty of a path keeps of what its ends know of the ends of both streams, and its copies say.
use Rattle.std.proofs.Common.{◌≡◌, refl, sym, ap, subst, ℕ, ◌+◌, ◌==◌, Bool, true, false, if◌then◌else◌, Option, Some, None, is_some, List, [], ◌∷◌}
use Rattle.std.specs.List.{list_any}
use Rattle.std.specs.Option.{IfSome}
use Rattle.std.proofs.lemmas.Bool.{and_parts, both_ways}
use Rattle.actor_desk.specs.declared.ask.Reply.{Reply}
use Rattle.link_model.specs.Fate.{is_altered, is_stripped}
use Rattle.link_model.specs.State.{LinkState}
use Rattle.link_model.specs.Steps.{after_delivery, arriving, changed, is_due, next_number, without}
use Rattle.link_model.specs.declared.flight.Due.{Due}
use Rattle.link_model.specs.declared.flight.Flight.{Flight}
use Rattle.fallback_state.specs.declared.fall.Event.{Event as FallEvent}
use Rattle.join_handshake.specs.declared.hearing.JoinSyn.{JoinSyn}
use Rattle.path_agenda.specs.Items.{key_heard, keys_heard}
use Rattle.path_agenda.specs.declared.keys.KeyPair.{KeyPair}
use Rattle.path_agenda.specs.Agenda.{announces, emission, leaves, resets, rest_of_turn, start_of_turn, withdraws}
use Rattle.path_agenda.specs.declared.duty.AskDuty.{AskDuty}
use Rattle.path_agenda.specs.declared.duty.Duty.{Duty}
use Rattle.path_agenda.specs.declared.duty.SendDuty.{SendDuty}
use Rattle.path_agenda.specs.declared.duty.SilentDuty.{SilentDuty}
use Rattle.path_agenda.specs.declared.duty.StepDuty.{StepDuty}
use Rattle.path_agenda.specs.declared.heard.Heard.{Heard}
use Rattle.path_core.specs.Arrival.{copy_heard, heard_in, told_at}
use Rattle.path_core.specs.Breaking.{answered_break, reset_of, reset_on}
use Rattle.path_core.specs.Deliver.{answered_piece, is_placed, piece_of}
use Rattle.path_core.specs.DssIn.{is_clash, with_data_fin, with_learned}
use Rattle.path_core.specs.Duties.{answered, passed}
use Rattle.path_core.specs.Emission.{Grant, answered_data, answered_grant, first_unsent, grant_in, having_sent_unsent, unsent_segment}
use Rattle.path_core.specs.End.{PathEnd, died}
use Rattle.path_core.specs.Events.{after_line, happens_if, next_event}
use Rattle.path_core.specs.Fallback.{after_fell, breaks_by_ack, fell_duties, with_plain_ack}
use Rattle.path_core.specs.Handover.{handed, sent_on}
use Rattle.path_core.specs.Looking.{duty_sends, first_sends, segment_sent, send_of, unsent_sends}
use Rattle.path_core.specs.MpCapable.{after_keys, answered_opened, answered_peer_key, with_peer_key}
use Rattle.path_core.specs.MpJoin.{asked_at, is_never, join_begun, join_taken, joined_by, keys_begun, never_joined, opened_by}
use Rattle.path_core.specs.OptionsIn.{options_heard}
use Rattle.path_core.specs.Standing.{after_ack_out}
use Rattle.path_core.specs.State.{PathState, at_tick, end_at, goes_on, left, with_agenda, with_end}
use Rattle.path_core.specs.Steps.{answers, next_round, settled, takes}
use Rattle.path_core.specs.Timer.{after_firing, template_fired, timer_fired}
use Rattle.path_core.specs.Treating.{answered_heard, answered_item, item_of}
use Rattle.path_core.specs.Values.{Carried, altered, as_arrived, carried_by, stripped, values}
use Rattle.path_core.specs.declared.events.Event.{Event}
use Rattle.path_segments.specs.Laws.{meant}
use Rattle.path_segments.specs.Spelled.{PlainSegment}
use Rattle.path_store.specs.Passing.{Piece}
use Rattle.path_store.specs.declared.lines.LineAction.{LineAction}
use Rattle.sides.specs.Side.{peer}
use Rattle.sides.specs.declared.side.Side.TheVariants.{A, B}
use Rattle.sides.specs.declared.side.Side.{Side}
use Rattle.stream_lanes.proofs.Lists.{Every-nil}
use Rattle.stream_lanes.specs.Words.{Every}
use Rattle.subflow_send.specs.Records.{Record}
use Rattle.world_laws.proofs.Falls.FailedChecks.{fail_answered_so}
use Rattle.world_laws.proofs.Keys.Held.{in_removed}
use Rattle.world_laws.proofs.Lanes.Saying.{handed_kept}
use Rattle.world_laws.proofs.Worlds.Finding.{find_every, one_side}
use Rattle.world_laws.proofs.Writes.Paths.{passes_no_more, writes_no_more}
use Rattle.world_laws.proofs.Writes.Steps.{Lasts, both_ends, settled_lasts, unwritten}
use Rattle.world_laws.specs.Writes.{OnlyAt, PathView, Writes, side_of, writes}
use Rattle.own_runs.proofs.EndMarks.{EndKeeps, EndTells, ItemTells, ack_out_tells, begun_tells, copy_tells, died_tells, ends_stream, fell_tells, fin_tells, infinite_tells, item_tells, joined_tells, keys_tell, learned_tells, marks_of, opened_tells, passed_tells, peer_key_tells, pieces_tell, reset_none, same_tells, spared_marks, spares, unless_tells}
use Rattle.own_runs.proofs.Speaking.{ToSend}

module _ (W K : Side → Type 0) where
  -- what follows of a segment of a side
  abbrev pub SegmentTells : Side → PlainSegment → Type 0
  SegmentTells s sg = list_any ends_stream sg.options ≡ true → W s

  abbrev pub FlightTells : Flight Carried → Type 0
  FlightTells f = SegmentTells (peer f.to) f.carried.segment

  pub record PathTells (p : PathState Carried) : Type 0 where
    pub copies : Every FlightTells p.link.under_way
    pub a : EndTells (W B) (K A) p.a
    pub b : EndTells (W A) (K B) p.b

  abbrev Keeps : Side → PathState Carried → PathEnd → Type 0
  Keeps s p e = EndKeeps (W (peer s)) (K s) (end_at s p) e

  pub end_tells : (s : Side) (p : PathState Carried) → PathTells p → EndTells (W (peer s)) (K s) (end_at s p)
  end_tells A p h = h.a
  end_tells B p h = h.b

  put : (s : Side) (e : PathEnd) (p : PathState Carried) → Keeps s p e → PathTells p → PathTells (with_end s e p)
  put A e p k h = record { copies = h.copies; a = k h.a; b = h.b }
  put B e p k h = record { copies = h.copies; a = h.a; b = k h.b }

  any : (es : List Duty) (p : PathState Carried) → PathTells p → PathTells (with_agenda es p)
  any es p h = record { copies = h.copies; a = h.a; b = h.b }

  goes : (s : Side) (e : PathEnd) (es : List Duty) (p : PathState Carried) → Keeps s p e → PathTells p → PathTells (goes_on s e es p)
  goes s e es p k h = any es (with_end s e p) (put s e p k h)

  either : (b : Bool) (p q : PathState Carried) → PathTells p → PathTells q → PathTells (if b then p else q)
  either true p q x y = x
  either false p q x y = y

  -- ---- a segment is handed over

  changed_tells : (s : Side) (strips alters : Bool) (carried : Carried) → SegmentTells s carried.segment → SegmentTells s (changed stripped altered strips alters carried).segment
  changed_tells s true true carried tells = tells
  changed_tells s false true carried tells = tells
  changed_tells s true false carried tells = tells
  changed_tells s false false carried tells = tells

  twice_tells : (s : Side) (sg : PlainSegment) → SegmentTells s sg → SegmentTells (peer (peer s)) sg
  twice_tells A sg tells = tells
  twice_tells B sg tells = tells

  sent_copies : (s : Side) (sg : PlainSegment) (p : PathState Carried) → SegmentTells s sg → Every FlightTells p.link.under_way → Every FlightTells (handed values s sg p).under_way
  sent_copies s sg p tells copies =
      let number = next_number s p.link in
      let made = carried_by p.profile.spelling s sg in
      let strips = is_stripped s number p.clock p.link.lines in
      let alters = is_altered s number p.link.lines in
      handed_kept FlightTells s sg p (λ tick. twice_tells s (changed stripped altered strips alters made).segment (changed_tells s strips alters made tells)) copies

  sent : (s : Side) (sg : PlainSegment) (e : PathEnd) (es : List Duty) (p : PathState Carried) → SegmentTells s sg → Keeps s p e → PathTells p → PathTells (sent_on values s sg e es p)
  sent A sg e es p tells k h = record { copies = sent_copies A sg p tells h.copies; a = k h.a; b = h.b }
  sent B sg e es p tells k h = record { copies = sent_copies B sg p tells h.copies; a = h.a; b = k h.b }

  -- ---- where little is written

  only : (s : Side) (w : Writes) (p q : PathState Carried) → spares w.own ≡ true → spares w.other ≡ true → w.link ≡ false → OnlyAt s w p q → PathTells p → PathTells q
  only s w p q own other link x h =
      let linked : q.link ≡ p.link = unwritten w.link p.link q.link link (ap (λ (v : PathView Carried). v.link) x.same) in
      let both = both_ends (λ e f. marks_of f ≡ marks_of e) s w p q (spared_marks w.own own) (spared_marks w.other other) x in
      record {
        copies = subst (λ (l : LinkState Carried). Every FlightTells l.under_way) (sym linked) h.copies;
        a = same_tells (W B) (K A) p.a q.a both.0 h.a;
        b = same_tells (W A) (K B) p.b q.b both.1 h.b;
      }

  -- ---- replies

  -- the segment that is sent, if one is
  abbrev pub SendsSo : PathState Carried → Option ToSend → Type 0
  SendsSo p o = IfSome o (λ t. SegmentTells t.from (segment_sent p t))

  module _ (r : Reply) (p : PathState Carried) (h : PathTells p) where
    same : (s : Side) (e : PathEnd) (es : List Duty) → marks_of e ≡ marks_of (end_at s p) → PathTells (goes_on s e es p)
    same s e es is = goes s e es p (same_tells (W (peer s)) (K s) (end_at s p) e is) h

    fell : (s : Side) (e : PathEnd) → Keeps s p e → PathTells (goes_on s e (fell_duties s r p) p)
    fell s e k = goes s e (fell_duties s r p) p k h

    reset_so : (s : Side) (reason : Option ℕ) (es : List Duty) → PathTells (reset_on values s reason es p)
    reset_so s reason es =
        sent s (reset_of s reason p) (died (end_at s p)) es p (λ is. absurd (both_ways _ (reset_none p.profile reason (end_at s p)) is)) (died_tells (W (peer s)) (K s) (end_at s p)) h

    break_so : (s : Side) (reason : ℕ) → PathTells (answered_break values s reason r p)
    break_so s reason =
        either (end_at s p).treated.asked _ _ (goes s (after_ack_out r (end_at s p)) (resets s reason) p (ack_out_tells (W (peer s)) (K s) r (end_at s p)) h) (reset_so s (Some reason) (leaves s))

    told_so : (s : Side) (event : FallEvent) → PathTells (goes_on s (after_fell event r (end_at s p)) (fell_duties s r p) p)
    told_so s event = fell s (after_fell event r (end_at s p)) (fell_tells (W (peer s)) (K s) event r (end_at s p))

    thing_so : (s : Side) (index : ℕ) (item : Heard) → item_of index (end_at s p) ≡ Some item → PathTells (answered_heard values s item r p)
    thing_so s index (Heard.DataAck next window) is = same s _ _ refl
    thing_so s index (Heard.Mapping fin) is =
        either (is_clash (end_at s p)) _ _ (break_so s 1)
        (fell s (with_learned (after_fell FallEvent.MappingHeard r (end_at s p)))
        (λ was. learned_tells (W (peer s)) (K s) (after_fell FallEvent.MappingHeard r (end_at s p)) (fell_tells (W (peer s)) (K s) FallEvent.MappingHeard r (end_at s p) was)))
    thing_so s index (Heard.DataFin place) is =
        fell s (with_data_fin place (after_fell FallEvent.MappingHeard r (end_at s p)))
        (λ was. fin_tells (W (peer s)) (K s) place (after_fell FallEvent.MappingHeard r (end_at s p)) (item_tells (W (peer s)) (K s) index (end_at s p) (Heard.DataFin place) was is) (fell_tells (W (peer s)) (K s) FallEvent.MappingHeard r (end_at s p) was))
    thing_so s index (Heard.InfiniteMapping place position) is =
        fell s _ (λ was. infinite_tells (W (peer s)) (K s) place position r (end_at s p) (item_tells (W (peer s)) (K s) index (end_at s p) (Heard.InfiniteMapping place position) was is) was)
    thing_so s index (Heard.Keys own other) is =
        goes s (after_keys r (Some (record { own = own; peer = other })) (end_at s p)) (left p) p (keys_tell (W (peer s)) (K s) r (record { own = own; peer = other }) (end_at s p)) h
    thing_so s index (Heard.Notice notice) is = same s _ (left p) refl
    thing_so s index Heard.Fail is = fail_answered_so PathTells s r p (same s _ _ refl) (told_so s (FallEvent.FailHeard false))
    thing_so s index (Heard.FastClose key) is = any _ p h
    thing_so s index _ is = any (left p) p h

    item_so : (s : Side) (index : ℕ) (o : Option Heard) → item_of index (end_at s p) ≡ o → PathTells (answered_item values s o r p)
    item_so s index None is = any (left p) p h
    item_so s index (Some item) is = thing_so s index item is

    granted_so : (s : Side) (o : Option Grant) → PathTells (answered_grant s o r p)
    granted_so s None = same s _ (left p) refl
    granted_so s (Some grant) = same s _ p.agenda refl

    data_so : (s : Side) (o : Option Record) → SendsSo p (unsent_sends s o) → PathTells (answered_data values s o r p)
    data_so s (Some unsent) says = sent s (unsent_segment s p) (having_sent_unsent s p) p.agenda p says (same_tells (W (peer s)) (K s) (end_at s p) (having_sent_unsent s p) refl) h
    data_so s None says = granted_so s (grant_in r)

    piece_so : (s : Side) (o : Option Piece) (taken : Bool) → PathTells (answered_piece s o taken p)
    piece_so s None taken = same s _ _ refl
    piece_so s (Some piece) true = same s _ p.agenda refl
    piece_so s (Some piece) false = same s _ _ refl

    join_so : (dead living : List Duty) → PathTells (join_begun r dead living p)
    join_so dead living =
        either (is_never r) _ _ (goes A (never_joined r p.a) dead p (begun_tells (W B) (K A) r p.a) h) (goes A (opened_by (keys_begun r) p.a) living p (opened_tells (W B) (K A) (keys_begun r) p.a) h)

    key_so : (s : Side) (o : Option ℕ) → PathTells (answered_peer_key s o r p)
    key_so s None = told_so s FallEvent.PlainHandshake
    key_so s (Some key) = goes s (with_peer_key (Some key) (end_at s p)) (left p) p (peer_key_tells (W (peer s)) (K s) key (end_at s p)) h

    opened_so : (s : Side) (o : Option KeyPair) → PathTells (answered_opened s o r p)
    opened_so s None = told_so s FallEvent.PlainHandshake
    opened_so s (Some keys) = goes s (after_keys r (Some keys) (end_at s p)) (left p) p (keys_tell (W (peer s)) (K s) r keys (end_at s p)) h

    joined_so : (s : Side) (o : Option KeyPair) (asked : Option JoinSyn) → PathTells (join_taken s o asked r p)
    joined_so s (Some keys) (Some asked) = goes s (joined_by keys asked (end_at s p)) _ p (joined_tells (W (peer s)) (K s) keys asked (end_at s p)) h
    joined_so s None (Some asked) = same s _ _ refl
    joined_so s (Some keys) None = any _ p h
    joined_so s None None = any _ p h

    ask_so : (d : AskDuty) → PathTells (answered values (Duty.Ask d) r p)
    ask_so AskDuty.JoinAgain = join_so _ (left p)
    ask_so (AskDuty.LeaveNoted s) = goes s (died (end_at s p)) _ p (died_tells (W (peer s)) (K s) (end_at s p)) h
    ask_so (AskDuty.PeerKey s) = key_so s (key_heard (end_at s p).treated.items)
    ask_so (AskDuty.Opened s) = opened_so s (keys_heard (end_at s p).treated.items)
    ask_so (AskDuty.JoinHeard s) = joined_so s (keys_begun r) (asked_at s p)
    ask_so (AskDuty.Edge s) = piece_so s (piece_of s p) (is_placed r)
    ask_so d = only (side_of (Duty.Ask d)) (writes (Duty.Ask d)) p _ refl refl refl (writes_no_more values (Duty.Ask d) r p) h

    -- it goes out, and nothing else changes
    out : (s : Side) (sg : PlainSegment) (e : PathEnd) (es : List Duty) → SegmentTells s sg → marks_of e ≡ marks_of (end_at s p) → PathTells (sent_on values s sg e es p)
    out s sg e es says is = sent s sg e es p says (same_tells (W (peer s)) (K s) (end_at s p) e is) h

    send_so : (d : SendDuty) → SendsSo p (send_of d) → PathTells (answered values (Duty.Send d) r p)
    send_so (SendDuty.Syn s) says = out s _ _ (left p) says refl
    send_so (SendDuty.SynAck s) says = out s _ _ (left p) says refl
    send_so (SendDuty.Again s) says = out s _ _ (left p) says refl
    send_so (SendDuty.Answer s) says = out s _ _ (left p) says refl
    send_so (SendDuty.Resend s) says = out s _ _ (left p) says refl
    send_so (SendDuty.Fin s) says = out s _ _ (left p) says refl
    send_so (SendDuty.BreakReset s reason) says = reset_so s (Some reason) (leaves s)
    send_so (SendDuty.Reset s) says = reset_so s None _
    send_so (SendDuty.ResetNoted s) says = reset_so s None _
    send_so (SendDuty.Notice s) says = out s _ _ p.agenda says refl
    send_so (SendDuty.Update s) says = out s _ _ (left p) says refl
    send_so (SendDuty.FastClose s) says = out s _ _ (left p) says refl
    send_so (SendDuty.DataFin s) says = out s _ _ (left p) says refl
    send_so (SendDuty.Refuse s) says = out s _ _ (left p) says refl
    send_so (SendDuty.Acknowledge s) says = out s _ _ (left p) says refl
    send_so (SendDuty.ResetAnswer s) says = out s _ _ (left p) says refl

    -- ---- events

    line_so : (action : LineAction) → PathTells (after_line action p)
    line_so LineAction.Die = record { copies = Every-nil FlightTells; a = unless_tells (W B) (K A) p.a h.a; b = unless_tells (W A) (K B) p.b h.b }
    line_so (LineAction.Prio s backup) = same s _ (emission s) refl
    line_so (LineAction.Announce s id) = any (announces s id) p h
    line_so (LineAction.Withdraw s id) = any (withdraws s id) p h

    fired_so : (s : Side) → PathTells (timer_fired s p)
    fired_so s = same s (after_firing p.clock (end_at s p)) (template_fired _ s) refl

  arrives_so : (s : Side) (carried : Carried) (p : PathState Carried) → SegmentTells (peer s) carried.segment → PathTells p
      → PathTells (told_at p.clock s (options_heard (end_at s p) (meant (as_arrived carried))) p)
  arrives_so s carried p tells h = goes s _ _ p (copy_tells (W (peer s)) (K s) p.profile s p.clock carried (end_at s p) tells) h

  found_so : (due : Due) (p : PathState Carried) (f : Flight Carried) → Every FlightTells p.link.under_way → arriving due p.link ≡ Some f → SegmentTells (peer due.to) f.carried.segment
  found_so due p f copies is =
      let found = find_every FlightTells (is_due due) p.link.under_way f copies is in
      let side = one_side f.to due.to (and_parts _ (f.number == due.copy) (and_parts (f.tick == due.tick) _ found.1).1).0 in
      subst (λ (s : Side). SegmentTells (peer s) f.carried.segment) side found.0

  left_copies : (o : Option ℕ) (fs : List (Flight Carried)) → Every FlightTells fs → Every FlightTells (without o fs)
  left_copies None fs h = h
  left_copies (Some place) fs h = record { each = λ k f at. let was = in_removed fs place k f at in h.each was.0 f was.1 }

  event_so : (o : Option Event) (r : Reply) (p : PathState Carried) → PathTells p → PathTells (happens_if values o r p)
  event_so None r p h = any rest_of_turn p h
  event_so (Some (Event.Joins tick)) r p h =
      join_so r (record (at_tick tick p) { joined_at = None }) (record { copies = h.copies; a = h.a; b = h.b }) (leaves A) (emission A)
  event_so (Some (Event.Takes line)) r p h = line_so r (record (at_tick line.tick p) { lines = _ }) (record { copies = h.copies; a = h.a; b = h.b }) line.action
  event_so (Some (Event.Arrives due)) r p h = by (arriving due p.link) refl
    where
      q : PathState Carried
      q = record (at_tick due.tick p) { link = after_delivery due p.link }

      tells : PathTells q
      tells = record { copies = left_copies _ p.link.under_way h.copies; a = h.a; b = h.b }

      by : (o : Option (Flight Carried)) → arriving due p.link ≡ o → PathTells (copy_heard due.to (heard_in values due.to o p) q)
      by None is = any (emission due.to) q tells
      by (Some f) is = arrives_so due.to f.carried q (found_so due p f h.copies is) tells
  event_so (Some (Event.Fires s tick)) r p h = fired_so r (at_tick tick p) (record { copies = h.copies; a = h.a; b = h.b }) s

  -- ---- a step

  step_so : (d : StepDuty) (r : Reply) (p : PathState Carried) → SendsSo p (duty_sends (Duty.Step d) p) → PathTells p → PathTells (answered values (Duty.Step d) r p)
  step_so (StepDuty.Look s) r p says h =
      only s (writes (Duty.Step (StepDuty.Look s))) p _ refl refl refl (writes_no_more values (Duty.Step (StepDuty.Look s)) r p) h
  step_so (StepDuty.Data s) r p says h = data_so r p h s (first_unsent (end_at s p)) says
  step_so StepDuty.Events r p says h = event_so (next_event p) r p h
  step_so (StepDuty.Heard s index) r p says h = item_so r p h s index (item_of index (end_at s p)) refl
  step_so (StepDuty.PlainAck s) r p says h =
      either (breaks_by_ack p.profile (end_at s p)) _ _ (break_so r p h s 6)
      (fell r p h s (with_plain_ack (after_fell FallEvent.PlainAck r (end_at s p)))
      (λ was. same_tells (W (peer s)) (K s) (after_fell FallEvent.PlainAck r (end_at s p)) (with_plain_ack (after_fell FallEvent.PlainAck r (end_at s p))) refl
      (fell_tells (W (peer s)) (K s) FallEvent.PlainAck r (end_at s p) was)))
  step_so (StepDuty.Unmapped s) r p says h = break_so r p h s 6

  answered_so : (d : Duty) (r : Reply) (p : PathState Carried) → SendsSo p (duty_sends d p) → PathTells p → PathTells (answered values d r p)
  answered_so (Duty.Ask d) r p says h = ask_so r p h d
  answered_so (Duty.Send d) r p says h = send_so r p h d says
  answered_so (Duty.Step d) r p says h = step_so d r p says h
  answered_so (Duty.Silent d) r p says h = any (left p) p h
  answered_so Duty.End r p says h = any [] p h

  passed_so : (d : Duty) (p : PathState Carried) → PathTells p → PathTells (passed d p)
  passed_so (Duty.Step (StepDuty.Heard s index)) p h = put s _ p (passed_tells (W (peer s)) (K s) s index (item_of index (end_at s p)) (end_at s p) refl) h
  passed_so (Duty.Step (StepDuty.PlainAck s)) p h = put s (with_plain_ack (end_at s p)) p (same_tells (W (peer s)) (K s) (end_at s p) (with_plain_ack (end_at s p)) refl) h
  passed_so (Duty.Step (StepDuty.Unmapped s)) p h = put s _ p (pieces_tell (W (peer s)) (K s) (end_at s p)) h
  passed_so (Duty.Step _) p h = h
  passed_so (Duty.Ask (AskDuty.CheckFailed s)) p h =
      only s (writes (Duty.Ask (AskDuty.CheckFailed s))) p _ refl refl refl (passes_no_more (Duty.Ask (AskDuty.CheckFailed s)) p) h
  passed_so (Duty.Ask _) p h = h
  passed_so (Duty.Send d) p h = h
  passed_so (Duty.Silent (SilentDuty.PassFin s)) p h = only s (writes (Duty.Silent (SilentDuty.PassFin s))) p _ refl refl refl (passes_no_more (Duty.Silent (SilentDuty.PassFin s)) p) h
  passed_so (Duty.Silent (SilentDuty.Timer s)) p h = only s (writes (Duty.Silent (SilentDuty.Timer s))) p _ refl refl refl (passes_no_more (Duty.Silent (SilentDuty.Timer s)) p) h
  passed_so (Duty.Silent (SilentDuty.Keep s)) p h = only s (writes (Duty.Silent (SilentDuty.Keep s))) p _ refl refl refl (passes_no_more (Duty.Silent (SilentDuty.Keep s)) p) h
  passed_so Duty.End p h = h

  lasts : Lasts {C = Carried} (λ p q. PathTells p → PathTells q)
  lasts = record {
    agenda = λ ds p. any ds p;
    chains = λ p q r x y h. y (x h);
    passes = λ d p. passed_so d p;
  }

  settles : (ds : List Duty) (p : PathState Carried) → PathTells p → PathTells (settled ds p)
  settles ds p = settled_lasts (λ p q. PathTells p → PathTells q) lasts ds p

  pub takes_tell : (r : Reply) (p : PathState Carried) → SendsSo p (first_sends p.agenda p) → PathTells p → PathTells (takes values r p)
  takes_tell r p says h = by p.agenda says
    where
      by : (ds : List Duty) → SendsSo p (first_sends ds p) → PathTells (settled (answers values ds r p).agenda (answers values ds r p))
      by [] says = settles p.agenda p h
      by (d ∷ ds) says = settles (answered values d r p).agenda (answered values d r p) (answered_so d r p says h)

  pub turn_tells : (p : PathState Carried) → PathTells p → PathTells (settled start_of_turn (with_agenda start_of_turn p))
  turn_tells p h = settles start_of_turn (with_agenda start_of_turn p) (any start_of_turn p h)

  pub next_tell : (p : PathState Carried) → PathTells p → PathTells (next_round p)
  next_tell p h = turn_tells (record p { clock = p.until; until = p.until + 100 }) (record { copies = h.copies; a = h.a; b = h.b })

-- ---- more follows

more_end : (V W K : Type 0) → (V → W) → (e : PathEnd) → EndTells V K e → EndTells W K e
more_end V W K more e h = record {
  items = record { each = λ i x at. item x (h.items.each i x at) };
  fins = record { each = λ i x at. more (h.fins.each i x at) };
  waits = some e.receiving.mapped_data_fin h.waits;
  held = record { each = λ i x at is. more (h.held.each i x at is) };
  infinite = some e.modes.peer_infinite h.infinite;
  key = h.key;
}
  where
    some : {X : Type 0} (o : Option X) → IfSome o (λ x. V) → IfSome o (λ x. W)
    some None h = tt
    some (Some x) h = more h

    item : (x : Heard) → ItemTells V K x → ItemTells W K x
    item (Heard.DataFin place) h = more h
    item (Heard.InfiniteMapping place position) h = more h
    item (Heard.DataAck next window) h = tt
    item _ h = tt

pub more_path : (V W K : Side → Type 0) → ((s : Side) → V s → W s) → (p : PathState Carried) → PathTells V K p → PathTells W K p
more_path V W K more p h = record {
  copies = record { each = λ i f at is. more (peer f.to) (h.copies.each i f at is) };
  a = more_end (V B) (W B) (K A) (more B) p.a h.a;
  b = more_end (V A) (W A) (K B) (more A) p.b h.b;
}

-- ---- an end keeps the peer's key

abbrev HasKey : PathState Carried → Side → Type 0
HasKey p s = is_some (end_at s p).modes.peer_key ≡ true

any_end : (K : Type 0) (e : PathEnd) → (K → is_some e.modes.peer_key ≡ true) → EndTells (Unit {0}) K e
any_end K e has = record {
  items = record { each = λ i x at. item x };
  fins = record { each = λ i x at. tt };
  waits = some e.receiving.mapped_data_fin;
  held = record { each = λ i x at is. tt };
  infinite = some e.modes.peer_infinite;
  key = has;
}
  where
    some : {X : Type 0} (o : Option X) → IfSome o (λ x. Unit {0})
    some None = tt
    some (Some x) = tt

    item : (x : Heard) → ItemTells (Unit {0}) K x
    item (Heard.DataFin place) = tt
    item _ = tt

any_path : (p : PathState Carried) → PathTells (λ s. Unit {0}) (HasKey p) p
any_path p = record { copies = record { each = λ i f at is. tt }; a = any_end (HasKey p A) p.a (λ has. has); b = any_end (HasKey p B) p.b (λ has. has) }

any_sends : (p : PathState Carried) (o : Option ToSend) → SendsSo (λ s. Unit {0}) (HasKey p) p o
any_sends p None = tt
any_sends p (Some t) = λ is. tt

pub settled_key : (ds : List Duty) (p : PathState Carried) → is_some p.a.modes.peer_key ≡ true → is_some (settled ds p).a.modes.peer_key ≡ true
settled_key ds p has = (settles (λ s. Unit {0}) (HasKey p) ds p (any_path p)).a.key has

pub takes_key : (r : Reply) (p : PathState Carried) → is_some p.a.modes.peer_key ≡ true → is_some (takes values r p).a.modes.peer_key ≡ true
takes_key r p has = (takes_tell (λ s. Unit {0}) (HasKey p) r p (any_sends p (first_sends p.agenda p)) (any_path p)).a.key has

pub next_key : (p : PathState Carried) → is_some p.a.modes.peer_key ≡ true → is_some (next_round p).a.modes.peer_key ≡ true
next_key p has = (next_tell (λ s. Unit {0}) (HasKey p) p (any_path p)).a.key has
