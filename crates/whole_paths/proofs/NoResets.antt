-- As long as both ends of path 0 of a mild connection live, nothing resets one: no segment under way does, and no duty, unless a side took the
-- path's address back. So it stays by each step.
use Rattle.std.proofs.Common.{◌≡◌, refl, sym, subst, ap, ◌∙◌, inl, inr, ◌⊎◌, ⊎_elim, ℕ, zero, suc, ◌+◌, ◌-◌, ◌==◌, nat_lt, nat_le, ◌&&◌, Bool, true, false, true≢false, if◌then◌else◌, IfSome, Option, Some, None, List, [], ◌∷◌, length}
use Rattle.std.proofs.lemmas.Bool.{both_ways, or_from, or_parts}
use Rattle.subflow_tcp.specs.States.{is_dead, is_half_open}
use Rattle.whole_paths.specs.Mild.{is_harsh}
use Rattle.std.specs.List.{list_any, position}
use Rattle.path_segments.specs.Heard.{HeardSegment}
use Rattle.path_segments.specs.Spelled.{PlainSegment}
use Rattle.sides.specs.declared.side.Side.{Side}
use Rattle.sides.specs.declared.side.Side.TheVariants.{A, B}
use Rattle.control_book.specs.Registry.{state_of}
use Rattle.control_book.specs.Replies.{is_aborted}
use Rattle.control_book.proofs.Kept.{removed_once}
use Rattle.link_model.specs.Fate.{is_altered, is_stripped}
use Rattle.link_model.specs.State.{LinkState}
use Rattle.link_model.specs.Steps.{after_delivery, arriving, changed, is_due, next_number, without}
use Rattle.link_model.specs.declared.flight.Flight.{Flight}
use Rattle.stream_lanes.specs.Words.{Every}
use Rattle.subflow_send.specs.Records.{Record}
use Rattle.subflow_tcp.specs.Expiring.{after_expiry, is_sixth}
use Rattle.subflow_tcp.specs.Judging.{is_acceptable, is_repeated_syn, is_syn_alone, meaning_acknowledging, meaning_answer, meaning_answering, meaning_at, meaning_connected, meaning_of, meaning_outside, meaning_placed, meaning_within}
use Rattle.subflow_tcp.specs.Segments.{Copy}
use Rattle.subflow_tcp.specs.State.{EndState, has_records, is_at_limit}
use Rattle.subflow_tcp.specs.Taking.{after_death}
use Rattle.subflow_tcp.specs.declared.handshake.State.TheVariants as phase
use Rattle.subflow_tcp.specs.declared.verdicts.Meaning.{Meaning}
use Rattle.subflow_tcp.specs.declared.verdicts.Meaning.TheVariants as means
use Rattle.actor_desk.specs.Desk.{SixBooks, after_ask, control_of, reply_of}
use Rattle.actor_desk.specs.Words.{tail_of}
use Rattle.actor_desk.specs.declared.ask.Ask.{Ask}
use Rattle.actor_desk.specs.declared.ask.Ask.TheVariants as asks
use Rattle.actor_desk.specs.declared.ask.Reply.{Reply}
use Rattle.path_agenda.specs.Agenda.{emission, heard_and, leaves, payload_came, start_of_turn, stops}
use Rattle.path_agenda.specs.Words.{first_of}
use Rattle.path_agenda.specs.declared.duty.Duty.{Duty}
use Rattle.path_agenda.specs.declared.duty.Duty.TheVariants as duties
use Rattle.path_agenda.specs.declared.duty.AskDuty.TheVariants as ask_duties
use Rattle.path_agenda.specs.declared.duty.SendDuty.TheVariants as send_duties
use Rattle.path_agenda.specs.declared.duty.StepDuty.TheVariants as step_duties
use Rattle.path_agenda.specs.declared.heard.Heard.{Heard}
use Rattle.path_agenda.specs.declared.heard.Heard.TheVariants as says
use Rattle.path_agenda.specs.declared.notice.OwnNotice.{OwnNotice}
use Rattle.path_store.specs.declared.lines.LineAction.{LineAction}
use Rattle.path_store.specs.declared.lines.LineAction.TheVariants as actions
use Rattle.path_core.specs.Arrival.{copy_heard, copy_of, heard_in, judged_in, template_by, template_of}
use Rattle.path_core.specs.DataFin.{is_data_fin_owed}
use Rattle.path_core.specs.DssIn.{is_clash}
use Rattle.path_core.specs.Duties.{answered, ask_for, passed, stands}
use Rattle.path_core.specs.Emission.{first_record, first_unsent}
use Rattle.path_core.specs.End.{PathEnd, died}
use Rattle.path_core.specs.Events.{after_line, happens_if, next_event}
use Rattle.path_core.specs.Looking.{Hands, HandsOrTellsNone, broken_by, duty_sends, heard_sends, segment_sent, unsent_sends}
use Rattle.path_core.specs.Handover.{handed}
use Rattle.path_core.specs.MpJoin.{is_joined, is_never, keys_begun, never_joined, opened_by}
use Rattle.path_core.specs.OptionsIn.{items_of, options_heard}
use Rattle.path_core.specs.OptionsOut.{ack_said, carried_said, noted_said, record_or_ack, syn_ack_said}
use Rattle.path_core.specs.Profile.{Profile}
use Rattle.path_core.specs.State.{PathState, at_tick, end_at, goes_on, path_of, with_agenda}
use Rattle.path_core.specs.Steps.{next_round, settled, takes}
use Rattle.path_core.specs.Timer.{template_fired}
use Rattle.path_core.specs.Treating.{item_of}
use Rattle.path_core.specs.Values.{Carried, altered, as_arrived, carried_by, stripped, values}
use Rattle.path_core.specs.declared.events.Event.{Event}
use Rattle.path_core.specs.declared.events.Event.TheVariants as happenings
use Rattle.path_core.proofs.SegmentsTold.{each_segment_is_told}
use Rattle.world_laws.specs.Writes.{side_of}
use Rattle.world_laws.proofs.Keys.Held.{in_removed}
use Rattle.world_laws.proofs.Lanes.Saying.{handed_kept}
use Rattle.world_laws.proofs.Writes.Steps.{settled_lasts, takes_lasts, begins_lasts}
use Rattle.whole_paths.specs.AgendaSteps.{Follows, is_told}
use Rattle.whole_paths.specs.AgendaSteps.{Follows as follows}
use Rattle.whole_paths.proofs.Agendas.{answered_follows, died_gone, gone_end}
use Rattle.whole_paths.proofs.Came.{quiet_link}
use Rattle.whole_paths.proofs.Copies.{DeadStays, LinkStays, dead_last, links_last, step_dead}
use Rattle.whole_paths.proofs.Duties.{answered_steps}
use Rattle.whole_paths.proofs.Pieces.{is_event}
use Rattle.whole_paths.proofs.Saying.{ToSend}
use Rattle.whole_paths.proofs.ToldResets.{BothQuiet, answered_quiet, look_told, looks, quiet_lasts}
use Rattle.whole_paths.proofs.Unbroken.{FirstKnown, FirstReply, Known, no_plain_ack}

-- ---- what a copy means

module _ (c : Copy) (s : EndState) where
  -- a reset alone kills, and a dead end alone wants nothing
  abbrev Fits : Meaning → Type 0
  Fits means.Kills = c.rst ≡ true
  Fits means.Unwanted = is_dead s.state ≡ true
  Fits _ = Unit {0}

  choice : (b : Bool) (x y : Meaning) → (b ≡ true → Fits x) → (b ≡ false → Fits y) → Fits (if b then x else y)
  choice true x y first second = first refl
  choice false x y first second = second refl

  acknowledging_fits : (o : Option ℕ) (pos : ℕ) → Fits (meaning_acknowledging o pos s)
  acknowledging_fits None pos = tt
  acknowledging_fits (Some n) pos = choice (nat_lt s.send.nxt n) means.Ahead (if is_half_open s.state && n == 0 then means.Unacknowledging else means.Taken pos n) (λ ahead. tt)
      (λ sent. choice (is_half_open s.state && n == 0) means.Unacknowledging (means.Taken pos n) (λ none. tt) (λ some. tt))

  outside_fits : Fits (meaning_outside c)
  outside_fits = choice c.rst means.Ignored means.Outside (λ rst. tt) (λ rst. tt)

  within_fits : (pos : ℕ) → Fits (meaning_within pos c s)
  within_fits pos = choice c.rst (if pos == s.recv.edge then means.Kills else means.Challenged) (if c.syn then means.Challenged else meaning_acknowledging c.acknowledged pos s)
      (λ rst. choice (pos == s.recv.edge) means.Kills means.Challenged (λ here. rst) (λ apart. tt))
      (λ rst. choice c.syn means.Challenged (meaning_acknowledging c.acknowledged pos s) (λ syn. tt) (λ syn. acknowledging_fits c.acknowledged pos))

  placed_fits : (o : Option ℕ) → Fits (meaning_placed o c s)
  placed_fits None = outside_fits
  placed_fits (Some pos) = choice (is_acceptable s.recv.edge pos c) (meaning_within pos c s) (meaning_outside c) (λ within. within_fits pos) (λ apart. outside_fits)

  connected_fits : Fits (meaning_connected c s)
  connected_fits = choice (is_at_limit s) means.Ignored (if is_repeated_syn c s then means.RepeatedSyn else meaning_placed c.position c s) (λ limit. tt)
      (λ low. choice (is_repeated_syn c s) means.RepeatedSyn (meaning_placed c.position c s) (λ again. tt) (λ other. placed_fits c.position))

  answering_fits : (o : Option ℕ) → Fits (meaning_answering o c s)
  answering_fits None = tt
  answering_fits (Some n) = choice (nat_lt 0 n && nat_le n s.send.nxt) (meaning_answer c n) means.Ignored
      (λ sent. choice c.rst means.Kills (if c.syn then means.Accepts n else means.Ignored) (λ rst. rst) (λ rst. choice c.syn (means.Accepts n) means.Ignored (λ syn. tt) (λ syn. tt)))
      (λ ahead. tt)

  meaning_fits : Fits (meaning_of c s)
  meaning_fits = (elim s.state as (λ state. s.state ≡ state → Fits (meaning_at state c s)) [
    | phase.Dead ↦ λ is. choice c.rst means.Ignored means.Unwanted (λ rst. tt) (λ rst. ap is_dead is)
    | phase.Waiting ↦ λ is. tt
    | phase.Listen ↦ λ is. choice (is_syn_alone c) means.Opens means.Ignored (λ syn. tt) (λ other. tt)
    | phase.SynSent ↦ λ is. choice (is_at_limit s) means.Ignored (meaning_answering c.acknowledged c s) (λ limit. tt) (λ low. answering_fits c.acknowledged)
    | _ ↦ λ is. connected_fits
  ]) refl

  pub never_kills : c.rst ≡ false → meaning_of c s ≡ means.Kills → ⊥
  never_kills none is = both_ways c.rst none (subst Fits is meaning_fits)

-- ---- what is said

module _ (c : Profile) (s : Side) (e : PathEnd) where
  or_ack : (o : Option Record) → (record_or_ack c s o e).rst ≡ false
  or_ack None = refl
  or_ack (Some r) = refl

  carried_plain : (o : Option ℕ) → (carried_said c s o e).rst ≡ false
  carried_plain None = refl
  carried_plain (Some key) = refl

  noted_plain : (o : Option OwnNotice) → (noted_said c s o e).rst ≡ false
  noted_plain None = refl
  noted_plain (Some notice) = refl

  answer_plain : (b : Bool) → (if b then syn_ack_said c s e else ack_said c s e.tcp.send.nxt None e).rst ≡ false
  answer_plain true = refl
  answer_plain false = refl

  resent_plain : (records third close fin : Bool)
      → (if records then record_or_ack c s (first_record e) e
      else (if third then ack_said c s e.tcp.send.nxt None e
      else (if close then carried_said c s e.notices.carrier e
      else (if fin then ack_said c s e.tcp.send.nxt e.sending.known_end e
      else ack_said c s (e.tcp.send.una - 1) None e)))).rst ≡ false
  resent_plain true third close fin = or_ack (first_record e)
  resent_plain false true close fin = refl
  resent_plain false false true fin = carried_plain e.notices.carrier
  resent_plain false false false true = refl
  resent_plain false false false false = refl

-- ---- duties

-- a duty of an end that is dead, or is to be stopped by its peer
abbrev pub is_of_the_dead : Duty → Bool
is_of_the_dead (duties.Send (send_duties.Reset s)) = true
is_of_the_dead (duties.Send (send_duties.ResetAnswer s)) = true
is_of_the_dead _ = false

-- none of them is to be done
abbrev pub AreLiving : List Duty → Type 0
AreLiving ds = list_any is_of_the_dead ds ≡ false

-- an end is to be reset as its side told it
abbrev is_noted : Duty → Bool
is_noted (duties.Ask (ask_duties.LeaveNoted s)) = true
is_noted (duties.Send (send_duties.ResetNoted s)) = true
is_noted _ = false

abbrev IsPlain : Option ToSend → PathState Carried → Type 0
IsPlain o p = IfSome o (λ (t : ToSend). (segment_sent p t).rst ≡ false)

heard_plain : (s : Side) (o : Option Heard) (p : PathState Carried) → is_clash (end_at s p) ≡ false → IsPlain (heard_sends s o p) p
heard_plain s (Some (says.Mapping fin)) p agrees = subst (λ b. IsPlain (if b then broken_by s 1 p else None) p) (sym agrees) tt
heard_plain s _ p agrees = tt

unsent_plain : (s : Side) (o : Option Record) (p : PathState Carried) → IsPlain (unsent_sends s o) p
unsent_plain s None p = tt
unsent_plain s (Some r) p = or_ack p.profile s (end_at s p) (first_unsent (end_at s p))

-- a duty that comes first sends no reset but where it is one of these
duty_plain : (d : Duty) (p : PathState Carried) → Known d p → is_harsh d ≡ false → is_of_the_dead d ≡ false → is_noted d ≡ false → IsPlain (duty_sends d p) p
duty_plain (duties.Step (step_duties.Heard s index)) p known harsh dead noted = heard_plain s (item_of index (end_at s p)) p (known.agrees s)
duty_plain (duties.Step (step_duties.PlainAck s)) p known harsh dead noted =
    absurd (both_ways _ (no_plain_ack p.profile (end_at s p) (known.acked refl s)) known.stood)
duty_plain (duties.Step (step_duties.Unmapped s)) p known harsh dead noted = absurd (known.mapped s refl)
duty_plain (duties.Step (step_duties.Data s)) p known harsh dead noted = unsent_plain s (first_unsent (end_at s p)) p
duty_plain (duties.Send (send_duties.BreakReset s reason)) p known harsh dead noted = absurd (true≢false harsh)
duty_plain (duties.Send (send_duties.Refuse s)) p known harsh dead noted = absurd (true≢false harsh)
duty_plain (duties.Send (send_duties.Reset s)) p known harsh dead noted = absurd (true≢false dead)
duty_plain (duties.Send (send_duties.ResetAnswer s)) p known harsh dead noted = absurd (true≢false dead)
duty_plain (duties.Send (send_duties.ResetNoted s)) p known harsh dead noted = absurd (true≢false noted)
duty_plain (duties.Send (send_duties.Update s)) p known harsh dead noted = refl
duty_plain (duties.Send (send_duties.Syn s)) p known harsh dead noted = or_ack p.profile s (end_at s p) (first_unsent (end_at s p))
duty_plain (duties.Send (send_duties.FastClose s)) p known harsh dead noted = carried_plain p.profile s (end_at s p) (end_at s p).notices.carrier
duty_plain (duties.Send (send_duties.Notice s)) p known harsh dead noted = noted_plain p.profile s (end_at s p) (first_of (end_at s p).notices.queue)
duty_plain (duties.Send (send_duties.DataFin s)) p known harsh dead noted = refl
duty_plain (duties.Send (send_duties.Fin s)) p known harsh dead noted = refl
duty_plain (duties.Send (send_duties.SynAck s)) p known harsh dead noted = refl
duty_plain (duties.Send (send_duties.Acknowledge s)) p known harsh dead noted = refl
duty_plain (duties.Send (send_duties.Again s)) p known harsh dead noted = or_ack p.profile s (end_at s p) (first_record (end_at s p))
duty_plain (duties.Send (send_duties.Answer s)) p known harsh dead noted = answer_plain p.profile s (end_at s p) (end_at s p).tcp.due.syn_ack
duty_plain (duties.Send (send_duties.Resend s)) p known harsh dead noted =
    let e : PathEnd = end_at s p in resent_plain p.profile s e (has_records e.tcp) e.modes.owes_third e.notices.fast_closed (is_data_fin_owed e)
duty_plain _ p known harsh dead noted = tt

-- ---- a link

abbrev pub IsNoReset : Flight Carried → Type 0
IsNoReset f = (as_arrived f.carried).rst ≡ false

changed_plain : (strips alters : Bool) (x : Carried) → (changed stripped altered strips alters x).segment.rst ≡ x.segment.rst
changed_plain true true x = refl
changed_plain true false x = refl
changed_plain false true x = refl
changed_plain false false x = refl

handed_plain : (from : Side) (x : PlainSegment) (p : PathState Carried) → x.rst ≡ false → Every IsNoReset p.link.under_way → Every IsNoReset (handed values from x p).under_way
handed_plain from x p none h = handed_kept IsNoReset from x p (λ tick. changed_plain (is_stripped from (next_number from p.link) p.clock p.link.lines) (is_altered from (next_number from p.link) p.link.lines) (carried_by p.profile.spelling from x) ∙ none) h

same_copies : (p q : PathState Carried) → q.link ≡ p.link → Every IsNoReset p.link.under_way → Every IsNoReset q.link.under_way
same_copies p q is h = subst (λ (l : LinkState Carried). Every IsNoReset l.under_way) (sym is) h

-- a duty that isn't of events
sent_plain : (d : Duty) (ds : List Duty) (r : Reply) (p : PathState Carried) → let x = with_agenda (d ∷ ds) p in is_event d ≡ false → IsPlain (duty_sends d x) x → Every IsNoReset p.link.under_way
    → Every IsNoReset (answered values d r x).link.under_way
sent_plain d ds r p other = by (duty_sends d x) refl
  where
    x : PathState Carried
    x = with_agenda (d ∷ ds) p

    q : PathState Carried
    q = answered values d r x

    by : (o : Option ToSend) → duty_sends d x ≡ o → IsPlain o x → Every IsNoReset p.link.under_way → Every IsNoReset q.link.under_way
    by None is plain h = same_copies x q (quiet_link values d r x other is) h
    by (Some t) is plain h =
        let hands : Hands values x t = subst (HandsOrTellsNone values x) is (each_segment_is_told values x) in
        let link : q.link ≡ handed values t.from (segment_sent x t) x = sym (settled_lasts LinkStays links_last q.agenda q) ∙ hands.taken r in
        subst (λ (l : LinkState Carried). Every IsNoReset l.under_way) (sym link) (handed_plain t.from (segment_sent x t) x plain h)

-- ---- the agenda

told_living : (e : Duty) → is_told e ≡ true → is_of_the_dead e ≡ false
told_living (duties.Send (send_duties.Reset s)) is = absurd (true≢false (sym is))
told_living (duties.Send (send_duties.ResetAnswer s)) is = absurd (true≢false (sym is))
told_living _ is = refl

-- they are living, or the end is stopped by its peer
pub data AreSpared (ds : List Duty) : Type 0 where
  living : AreLiving ds → AreSpared ds
  stopped : (s : Side) → ds ≡ stops s → AreSpared ds

follow_living : (s : Side) (gone : Bool) (d : Duty) (ds es : List Duty) → AreLiving (d ∷ ds) → Follows s gone d ds es → AreSpared es
follow_living s gone d ds es h follows.goes_on = living (or_parts (is_of_the_dead d) (list_any is_of_the_dead ds) h).1
follow_living s gone d ds es h follows.again = living h
follow_living s gone d ds es h (follows.told is e own other named silent) =
    living (or_from (is_of_the_dead e) (list_any is_of_the_dead ds) (told_living e named) (or_parts (is_of_the_dead d) (list_any is_of_the_dead ds) h).1)
follow_living s gone d ds es h (follows.left dead) = living (or_parts (is_of_the_dead d) (list_any is_of_the_dead ds) h).1
follow_living s gone d ds es h follows.noted = living (or_parts (is_of_the_dead d) (list_any is_of_the_dead ds) h).1
follow_living s gone d ds es h (follows.broken is reason) = living refl
follow_living s gone d ds es h (follows.is_reset is reason) = living refl
follow_living s gone d ds es h (follows.dead is dead) = living refl
follow_living s gone d ds es h (follows.stopped is) = stopped s refl
follow_living s gone d ds es h (follows.over both) = living refl

duty_living : (d : Duty) (ds : List Duty) (r : Reply) (p : PathState Carried) → is_event d ≡ false → AreLiving (d ∷ ds) → AreSpared (answered values d r (with_agenda (d ∷ ds) p)).agenda
duty_living (duties.Step step_duties.Events) ds r p other h = absurd (true≢false other)
duty_living (duties.Step (step_duties.Look s)) ds r p other h = let d = duties.Step (step_duties.Look s) in follow_living s _ d ds _ h (answered_follows values d ds r p)
duty_living (duties.Ask a) ds r p other h = let d = duties.Ask a in follow_living (side_of d) _ d ds _ h (answered_follows values d ds r p)
duty_living (duties.Send a) ds r p other h = let d = duties.Send a in follow_living (side_of d) _ d ds _ h (answered_follows values d ds r p)
duty_living (duties.Silent a) ds r p other h = let d = duties.Silent a in follow_living (side_of d) _ d ds _ h (answered_follows values d ds r p)
duty_living d ds r p other h = follow_living (side_of d) _ d ds _ h (answered_follows values d ds r p)

settled_living : (ds : List Duty) (p : PathState Carried) → AreLiving ds → AreLiving (settled ds p).agenda
settled_living [] p h = refl
settled_living (d ∷ ds) p h = elim (stands d p) as (λ b. AreLiving (if b then with_agenda (d ∷ ds) p else settled ds (passed d p)).agenda)
    [ true ↦ h | false ↦ settled_living ds (passed d p) (or_parts (is_of_the_dead d) (list_any is_of_the_dead ds) h).1 ]

settled_spared : (ds : List Duty) (p : PathState Carried) → AreSpared ds → AreSpared (settled ds p).agenda
settled_spared ds p (living h) = living (settled_living ds p h)
settled_spared ds p (stopped s is) = subst (λ ds. AreSpared (settled ds p).agenda) (sym is) (stopped s refl)

-- ---- an event

-- an end of the path is dead
pub record IsGone (p : PathState Carried) : Type 0 where
  pub side : Side
  pub dead : is_dead (end_at side p).tcp.state ≡ true

-- what comes to a path both of whose ends live
record Fine (q : PathState Carried) : Type 0 where
  agenda : AreLiving q.agenda
  copies : Every IsNoReset q.link.under_way

line_fine : (action : LineAction) (p : PathState Carried) → Every IsNoReset p.link.under_way → IsGone (after_line action p) ⊎ Fine (after_line action p)
line_fine actions.Die p h = inl (record { side = A; dead = died_gone p.a })
line_fine (actions.Prio s backup) p h = inr (record { agenda = refl; copies = h })
line_fine (actions.Announce s id) p h = inr (record { agenda = refl; copies = h })
line_fine (actions.Withdraw s id) p h = inr (record { agenda = refl; copies = h })

heard_living : (s : Side) (from count : ℕ) (ds : List Duty) → AreLiving ds → AreLiving (heard_and s from count ds)
heard_living s from zero ds h = h
heard_living s from (suc count) ds h = heard_living s (from + 1) count ds h

template_living : (s : Side) (count : ℕ) (c : Copy) (t : EndState) (m : Meaning) → is_dead t.state ≡ false → Fits c t m → AreLiving (template_by false s count m)
template_living s count c t means.Unwanted lives fits = absurd (both_ways (is_dead t.state) lives fits)
template_living s count c t (means.Taken pos n) lives fits = heard_living s 0 count (payload_came s) refl
template_living s count c t (means.Accepts n) lives fits = refl
template_living s count c t _ lives fits = refl

copy_living : (s : Side) (o : Option HeardSegment) (p : PathState Carried) → is_joined p.profile ≡ false → is_dead (end_at s p).tcp.state ≡ false → AreLiving (copy_heard s o p).agenda
copy_living s None p first lives = refl
copy_living s (Some x) p first lives = by (is_joined p.profile) first
  where
    h : HeardSegment
    h = options_heard (end_at s p) x

    by : (joined : Bool) → joined ≡ false → AreLiving (template_of joined s (items_of joined s h) (judged_in joined s h (end_at s p)))
    by true is = absurd (true≢false is)
    by false is = template_living s (length (items_of false s h)) (copy_of h) (end_at s p).tcp (meaning_of (copy_of h) (end_at s p).tcp) lives (meaning_fits (copy_of h) (end_at s p).tcp)

left_plain : (due_at : Option ℕ) (fs : List (Flight Carried)) → Every IsNoReset fs → Every IsNoReset (without due_at fs)
left_plain None fs h = h
left_plain (Some place) fs h = record { each = λ i f at. let there = in_removed fs place i f at in h.each there.0 f there.1 }

copy_link : (s : Side) (o : Option HeardSegment) (p : PathState Carried) → (copy_heard s o p).link ≡ p.link
copy_link s None p = refl
copy_link s (Some x) p = refl

ends_live : (p q : PathState Carried) → q.a ≡ p.a → q.b ≡ p.b → (s : Side) → is_dead (end_at s p).tcp.state ≡ false → is_dead (end_at s q).tcp.state ≡ false
ends_live p q a b A lives = ap (λ (e : PathEnd). is_dead e.tcp.state) a ∙ lives
ends_live p q a b B lives = ap (λ (e : PathEnd). is_dead e.tcp.state) b ∙ lives

event_fine : (o : Option Event) (r : Reply) (p : PathState Carried) → is_joined p.profile ≡ false → ((s : Side) → is_dead (end_at s p).tcp.state ≡ false) → Every IsNoReset p.link.under_way
    → IsGone (happens_if values o r p) ⊎ Fine (happens_if values o r p)
event_fine None r p first lives h = inr (record { agenda = refl; copies = h })
event_fine (Some (happenings.Joins tick)) r p first lives h =
    let x : PathState Carried = record (at_tick tick p) { joined_at = None } in
    elim (is_never r) as (λ b. let q = (if b then goes_on A (never_joined r x.a) (leaves A) x else goes_on A (opened_by (keys_begun r) x.a) (emission A) x) in IsGone q ⊎ Fine q)
    [ true ↦ inl (record { side = A; dead = refl }) | false ↦ inr (record { agenda = refl; copies = h }) ]
event_fine (Some (happenings.Takes line)) r p first lives h = line_fine line.action (record (at_tick line.tick p) { lines = tail_of p.lines }) h
event_fine (Some (happenings.Arrives due)) r p first lives h =
    let x : PathState Carried = record (at_tick due.tick p) { link = after_delivery due p.link } in
    let o : Option HeardSegment = heard_in values due.to (arriving due p.link) p in
    inr (record {
      agenda = copy_living due.to o x first (ends_live p x refl refl due.to (lives due.to));
      copies = same_copies x (copy_heard due.to o x) (copy_link due.to o x) (left_plain (position (is_due due) p.link.under_way) p.link.under_way h);
    })
event_fine (Some (happenings.Fires s tick)) r p first lives h = by (is_sixth (end_at s p).tcp)
  where
    by : (b : Bool) → let x : PathState Carried = at_tick tick p in let e : PathEnd = end_at s p in
        let q : PathState Carried = goes_on s (record e { tcp = if b then after_death true e.tcp else after_expiry x.clock e.tcp }) (template_fired b s) x in IsGone q ⊎ Fine q
    by true = let e : PathEnd = end_at s p in inl (record { side = s; dead = gone_end s (record e { tcp = after_death true e.tcp }) p.a p.b refl })
    by false = inr (record { agenda = refl; copies = h })

-- ---- a step

-- the side counts the address of path 0 as removed
abbrev pub Removed : Side → SixBooks → Type 0
Removed s six = (state_of (control_of s six).paths 0).removed ≡ true

pub record Clean (six : SixBooks) (p : PathState Carried) : Type 0 where
  pub notices : (s : Side) → (end_at s p).notices.reset ≡ true → Removed s six
  pub agenda : AreLiving p.agenda
  pub copies : Every IsNoReset p.link.under_way

abbrev pub Held : SixBooks → PathState Carried → Type 0
Held six p = IsGone p ⊎ Clean six p

-- what is known of the path as it goes on
pub record Ready (six : SixBooks) (p : PathState Carried) : Type 0 where
  pub known : FirstKnown p.agenda p
  pub first : is_joined p.profile ≡ false
  pub calm : list_any is_harsh p.agenda ≡ false
  pub sober : (s : Side) → is_aborted (control_of s six).fall.mode ≡ false
  pub number : path_of p ≡ 0

abbrev pub IsUnstopped : PathState Carried → Type 0
IsUnstopped p = (s : Side) → p.agenda ≡ stops s → ⊥

pub living_or : (p : PathState Carried) → IsGone p ⊎ ((s : Side) → is_dead (end_at s p).tcp.state ≡ false)
living_or p = by (is_dead p.a.tcp.state) (is_dead p.b.tcp.state) refl refl
  where
    by : (a b : Bool) → is_dead p.a.tcp.state ≡ a → is_dead p.b.tcp.state ≡ b → IsGone p ⊎ ((s : Side) → is_dead (end_at s p).tcp.state ≡ false)
    by true b dead other = inl (record { side = A; dead = dead })
    by false true lives dead = inl (record { side = B; dead = dead })
    by false false one other = inr (elim [ A ↦ one | B ↦ other ])

pub removed_stays : (ask : Ask) (six : SixBooks) (s : Side) → Removed s six → Removed s (after_ask ask six)
removed_stays (asks.Control A call) six A is = removed_once six.control_a call 0 is
removed_stays (asks.Control B call) six B is = removed_once six.control_b call 0 is
removed_stays (asks.Control A call) six B is = is
removed_stays (asks.Control B call) six A is = is
removed_stays (asks.Send A call) six A is = is
removed_stays (asks.Send B call) six A is = is
removed_stays (asks.Reassembly A call) six A is = is
removed_stays (asks.Reassembly B call) six A is = is
removed_stays (asks.Send A call) six B is = is
removed_stays (asks.Send B call) six B is = is
removed_stays (asks.Reassembly A call) six B is = is
removed_stays (asks.Reassembly B call) six B is = is
removed_stays (asks.Local step) six s is = is

abbrev pub Notices : SixBooks → PathState Carried → Type 0
Notices six p = (s : Side) → (end_at s p).notices.reset ≡ true → Removed s six

quiet_notices : (six : SixBooks) (p q : PathState Carried) → BothQuiet p q → Notices six p → Notices six q
quiet_notices six p q x h A is = h A (x.a.resets is)
quiet_notices six p q x h B is = h B (x.b.resets is)

other_notices : (six : SixBooks) (d : Duty) (ds : List Duty) (p : PathState Carried) → let x = with_agenda (d ∷ ds) p in looks d ≡ false → Notices six p
    → Notices six (answered values d (reply_of six (ask_for values d x)) x)
other_notices six d ds p other h =
    let x : PathState Carried = with_agenda (d ∷ ds) p in
    quiet_notices six x (answered values d (reply_of six (ask_for values d x)) x) (answered_quiet values d (reply_of six (ask_for values d x)) x other) (elim [ A ↦ h A | B ↦ h B ])

duty_notices : (six : SixBooks) (d : Duty) (ds : List Duty) (p : PathState Carried) → let x = with_agenda (d ∷ ds) p in path_of p ≡ 0 → ((s : Side) → is_aborted (control_of s six).fall.mode ≡ false)
    → Notices six p → Notices six (answered values d (reply_of six (ask_for values d x)) x)
duty_notices six (duties.Step (step_duties.Look s)) ds p zeroth sober h = λ t is. ⊎_elim (λ was. at t was)
    (λ removed. subst (λ n. (state_of (control_of t six).paths n).removed ≡ true) zeroth removed)
    (look_told s t six (with_agenda (duties.Step (step_duties.Look s) ∷ ds) p) (sober s) is)
  where
    at : (t : Side) → (end_at t (with_agenda (duties.Step (step_duties.Look s) ∷ ds) p)).notices.reset ≡ true → Removed t six
    at A was = h A was
    at B was = h B was
duty_notices six (duties.Step step_duties.Events) ds p zeroth sober h = other_notices six (duties.Step step_duties.Events) ds p refl h
duty_notices six (duties.Step (step_duties.Data s)) ds p zeroth sober h = other_notices six (duties.Step (step_duties.Data s)) ds p refl h
duty_notices six (duties.Step (step_duties.Heard s index)) ds p zeroth sober h = other_notices six (duties.Step (step_duties.Heard s index)) ds p refl h
duty_notices six (duties.Step (step_duties.PlainAck s)) ds p zeroth sober h = other_notices six (duties.Step (step_duties.PlainAck s)) ds p refl h
duty_notices six (duties.Step (step_duties.Unmapped s)) ds p zeroth sober h = other_notices six (duties.Step (step_duties.Unmapped s)) ds p refl h
duty_notices six d ds p zeroth sober h = other_notices six d ds p refl h

-- what a duty makes of the path that comes first and is answered
duty_held : (six : SixBooks) (d : Duty) (ds : List Duty) (p : PathState Carried) → let x = with_agenda (d ∷ ds) p in let q = answered values d (reply_of six (ask_for values d x)) x in Ready six x
    → ((s : Side) → is_dead (end_at s x).tcp.state ≡ false) → Clean six x → IsGone q ⊎ (Notices six q × (AreSpared q.agenda × Every IsNoReset q.link.under_way))
duty_held six d ds p ready lives h = by (is_event d) refl (is_noted d) refl
  where
    x : PathState Carried
    x = with_agenda (d ∷ ds) p

    r : Reply
    r = reply_of six (ask_for values d x)

    q : PathState Carried
    q = answered values d r x

    notices : Notices six q
    notices = duty_notices six d ds p ready.number ready.sober (elim [ A ↦ h.notices A | B ↦ h.notices B ])

    -- where it is reset as its side told it the end is dead
    noted : (d : Duty) → is_noted d ≡ true → IsGone (answered values d r x)
    noted (duties.Ask (ask_duties.LeaveNoted s)) is = record { side = s; dead = gone_end s (died (end_at s x)) x.a x.b refl }
    noted (duties.Send (send_duties.ResetNoted s)) is = record { side = s; dead = gone_end s (died (end_at s x)) x.a x.b refl }
    noted _ is = absurd (true≢false (sym is))

    event : (d : Duty) → is_event d ≡ true → IsGone (answered values d r x) ⊎ Fine (answered values d r x)
    event (duties.Step step_duties.Events) is = event_fine (next_event x) r x ready.first lives h.copies
    event _ is = absurd (true≢false (sym is))

    by : (e : Bool) → is_event d ≡ e → (n : Bool) → is_noted d ≡ n → IsGone q ⊎ (Notices six q × (AreSpared q.agenda × Every IsNoReset q.link.under_way))
    by true is n any = ⊎_elim (λ gone. inl gone) (λ (fine : Fine q). inr (notices, (living fine.agenda, fine.copies))) (event d is)
    by false other true is = inl (noted d is)
    by false other false none = inr (
      notices,
      (
        duty_living d ds r p other h.agenda,
        sent_plain d ds r p other (duty_plain d x ready.known (or_parts (is_harsh d) (list_any is_harsh ds) ready.calm).0 (or_parts (is_of_the_dead d) (list_any is_of_the_dead ds) h.agenda).0 none) h.copies,
      ),
    )

-- of all that is passed then
pub settled_held : (six : SixBooks) (q : PathState Carried) → IsUnstopped (settled q.agenda q) → Notices six q → AreSpared q.agenda → Every IsNoReset q.link.under_way → Clean six (settled q.agenda q)
settled_held six q unstopped notices agenda copies = record {
  notices = quiet_notices six q (settled q.agenda q) (settled_lasts BothQuiet quiet_lasts q.agenda q) notices;
  agenda = by (settled_spared q.agenda q agenda);
  copies = same_copies q (settled q.agenda q) (settled_lasts LinkStays links_last q.agenda q) copies;
}
  where
    by : AreSpared (settled q.agenda q).agenda → AreLiving (settled q.agenda q).agenda
    by (living h) = h
    by (stopped s is) = absurd (unstopped s is)

gone_then : (p q : PathState Carried) → DeadStays p q → IsGone p → IsGone q
gone_then p q stays h = record { side = h.side; dead = stays h.side h.dead }

pub clean_then : (six seven : SixBooks) (p : PathState Carried) → ((s : Side) → Removed s six → Removed s seven) → Clean six p → Clean seven p
clean_then six seven p stays h = record { notices = λ s is. stays s (h.notices s is); agenda = h.agenda; copies = h.copies }

gone_takes : (r : Reply) (p : PathState Carried) → IsGone p → IsGone (takes values r p)
gone_takes r p gone = gone_then p (takes values r p) (takes_lasts DeadStays dead_last values r p (λ d. step_dead p (answered values d r p) (answered_steps values d r p))) gone

pub takes_held : (six : SixBooks) (r : Reply) (p : PathState Carried) → Ready six p → FirstReply six p.agenda p r → IsUnstopped (takes values r p) → Held six p → Held six (takes values r p)
takes_held six r p ready is unstopped (inl gone) = inl (gone_takes r p gone)
takes_held six r p ready is unstopped (inr clean) = ⊎_elim (λ gone. inl (gone_takes r p gone)) (λ lives. by p.agenda ready is unstopped lives clean) (living_or p)
  where
    by : (ds : List Duty) → let x = with_agenda ds p in Ready six x → FirstReply six ds x r → IsUnstopped (takes values r x) → ((s : Side) → is_dead (end_at s x).tcp.state ≡ false) → Clean six x → Held six (takes values r x)
    by [] ready is unstopped lives clean = inr clean
    by (d ∷ ds) ready is unstopped lives clean =
        let x : PathState Carried = with_agenda (d ∷ ds) p in
        subst (λ (r : Reply). IsUnstopped (takes values r x) → Held six (takes values r x)) (sym is)
        (λ unstopped. let q : PathState Carried = answered values d (reply_of six (ask_for values d x)) x in ⊎_elim
        (λ gone. inl (gone_then q (settled q.agenda q) (settled_lasts DeadStays dead_last q.agenda q) gone))
        (λ (h : Notices six q × (AreSpared q.agenda × Every IsNoReset q.link.under_way)). inr (settled_held six q unstopped h.0 h.1.0 h.1.1))
        (duty_held six d ds p ready lives clean)) unstopped

pub next_held : (six : SixBooks) (p : PathState Carried) → IsUnstopped (next_round p) → Held six p → Held six (next_round p)
next_held six p unstopped = ⊎_elim
    (λ gone. inl (gone_then q (next_round p) (begins_lasts DeadStays dead_last q) (same gone)))
    (λ (clean : Clean six p). inr (settled_held six (with_agenda start_of_turn q) unstopped (elim [ A ↦ clean.notices A | B ↦ clean.notices B ]) (living refl) clean.copies))
  where
    q : PathState Carried
    q = record p { clock = p.until; until = p.until + 100 }

    same : IsGone p → IsGone q
    same h = record { side = h.side; dead = by h.side h.dead }
      where
        by : (s : Side) → is_dead (end_at s p).tcp.state ≡ true → is_dead (end_at s q).tcp.state ≡ true
        by A dead = dead
        by B dead = dead
