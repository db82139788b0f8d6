-- What holds of each copy under way by a turn of a path: of those that were under way before, and of the segment that is sent.
use Rattle.std.proofs.Common.{◌≡◌, refl, sym, subst, ◌∙◌, ℕ, ◌+◌, true, false, if◌then◌else◌, Option, Some, None, IfSome, List, [], ◌∷◌}
use Rattle.std.specs.List.{position}
use Rattle.path_segments.specs.Heard.{HeardSegment}
use Rattle.path_segments.specs.Spelled.{PlainSegment}
use Rattle.sides.specs.declared.side.Side.{Side}
use Rattle.sides.specs.declared.side.Side.TheVariants.{A}
use Rattle.sides.specs.Side.{peer}
use Rattle.link_script.specs.declared.script.ScriptLine.{ScriptLine}
use Rattle.link_model.specs.Fate.{is_stripped, is_altered}
use Rattle.link_model.specs.State.{LinkState}
use Rattle.link_model.specs.Steps.{arriving, changed, is_due, next_number, without}
use Rattle.link_model.specs.declared.flight.Flight.{Flight}
use Rattle.stream_lanes.specs.Words.{Every}
use Rattle.actor_desk.specs.declared.ask.Reply.{Reply}
use Rattle.path_agenda.specs.Agenda.{emission, leaves, start_of_turn}
use Rattle.path_agenda.specs.declared.duty.Duty.{Duty}
use Rattle.path_agenda.specs.declared.duty.Duty.TheVariants as duties
use Rattle.path_agenda.specs.declared.duty.StepDuty.TheVariants as step_duties
use Rattle.path_store.specs.declared.lines.LineAction.{LineAction}
use Rattle.path_store.specs.declared.lines.LineAction.TheVariants as actions
use Rattle.path_core.specs.Arrival.{copy_heard, heard_in}
use Rattle.path_core.specs.Duties.{answered}
use Rattle.path_core.specs.Events.{after_line, happens_if, next_event}
use Rattle.path_core.specs.Handover.{handed}
use Rattle.path_core.specs.Looking.{duty_sends, first_sends, segment_sent, Hands, HandsOrTellsNone}
use Rattle.path_core.specs.MpJoin.{is_never, keys_begun, never_joined, opened_by}
use Rattle.path_core.specs.Shown.{AltersNothing}
use Rattle.path_core.specs.State.{PathState, at_tick, goes_on, with_agenda}
use Rattle.path_core.specs.Start.{waiting_path}
use Rattle.path_core.specs.Steps.{begins_turn, next_round, settled, takes}
use Rattle.path_core.specs.Values.{Carried, altered, carried_by, stripped, values}
use Rattle.path_core.specs.declared.events.Event.{Event}
use Rattle.path_core.specs.declared.events.Event.TheVariants as happenings
use Rattle.path_core.proofs.SegmentsTold.{each_segment_is_told}
use Rattle.world_laws.specs.NeverFalls.{StripsNothing}
use Rattle.world_laws.specs.Openings.{PathPlan, Start, path_begins}
use Rattle.world_laws.proofs.Keys.Held.{in_removed}
use Rattle.world_laws.proofs.Lanes.Saying.{handed_kept}
use Rattle.world_laws.proofs.Writes.Steps.{begins_lasts, settled_lasts}
use Rattle.whole_paths.proofs.Came.{quiet_link}
use Rattle.whole_paths.proofs.Copies.{LinkStays, links_last}
use Rattle.whole_paths.proofs.Pieces.{is_event}
use Rattle.whole_paths.proofs.Saying.{ToSend}

-- nothing is done to a segment on its way
unchanged : (from : Side) (number now : ℕ) (lines : List ScriptLine) → StripsNothing lines → AltersNothing lines → (carried : Carried)
    → changed stripped altered (is_stripped from number now lines) (is_altered from number lines) carried ≡ carried
unchanged from number now lines strips alters carried = rw (strips.strips from number now, alters.alters from number) refl

module _ (P : Flight Carried → Type 0) where
  -- of each copy of the segment that is sent
  abbrev pub OfSent : Option ToSend → PathState Carried → Type 0
  OfSent o p = IfSome o (λ (t : ToSend). (f : Flight Carried) → f.to ≡ peer t.from → f.carried ≡ carried_by p.profile.spelling t.from (segment_sent p t) → P f)

  abbrev pub AllUnderWay : PathState Carried → Type 0
  AllUnderWay p = Every P p.link.under_way

  handed_all : (t : ToSend) (p : PathState Carried) → StripsNothing p.link.lines → AltersNothing p.link.lines → OfSent (Some t) p → AllUnderWay p
      → Every P (handed values t.from (segment_sent p t) p).under_way
  handed_all t p strips alters sent h = by t.from sent
    where
      x : PlainSegment
      x = segment_sent p t

      by : (from : Side) → ((f : Flight Carried) → f.to ≡ peer from → f.carried ≡ carried_by p.profile.spelling from x → P f) → Every P (handed values from x p).under_way
      by from sent = handed_kept P from x p
          (λ tick. sent _ refl (unchanged from (next_number from p.link) p.clock p.link.lines strips alters (carried_by p.profile.spelling from x))) h

  line_all : (action : LineAction) (p : PathState Carried) → AllUnderWay p → AllUnderWay (after_line action p)
  line_all actions.Die p h = record { each = λ i f there. cc }
  line_all (actions.Prio s backup) p h = h
  line_all (actions.Announce s id) p h = h
  line_all (actions.Withdraw s id) p h = h

  event_all : (o : Option Event) (r : Reply) (p : PathState Carried) → AllUnderWay p → AllUnderWay (happens_if values o r p)
  event_all None r p h = h
  event_all (Some (happenings.Joins tick)) r p h =
      let x = record (at_tick tick p) { joined_at = None } in
      elim (is_never r) as (λ b. Every P (if b then goes_on A (never_joined r x.a) (leaves A) x else goes_on A (opened_by (keys_begun r) x.a) (emission A) x).link.under_way) [ true ↦ h | false ↦ h ]
  event_all (Some (happenings.Takes line)) r p h = line_all line.action _ h
  event_all (Some (happenings.Arrives due)) r p h = by (heard_in values due.to (arriving due p.link) p)
    where
      rest : (o : Option ℕ) → Every P (without o p.link.under_way)
      rest None = h
      rest (Some place) = record { each = λ i f at. let there = in_removed p.link.under_way place i f at in h.each there.0 f there.1 }

      by : (o : Option HeardSegment) → Every P (copy_heard due.to o (record (at_tick due.tick p) { link = record p.link { under_way = without (position (is_due due) p.link.under_way) p.link.under_way } })).link.under_way
      by None = rest (position (is_due due) p.link.under_way)
      by (Some x) = rest (position (is_due due) p.link.under_way)
  event_all (Some (happenings.Fires s tick)) r p h = h

  same_all : (p q : PathState Carried) → q.link ≡ p.link → AllUnderWay p → AllUnderWay q
  same_all p q is h = subst (λ (l : LinkState Carried). Every P l.under_way) (sym is) h

  settled_all : (ds : List Duty) (p : PathState Carried) → AllUnderWay p → AllUnderWay (settled ds p)
  settled_all ds p h = same_all p (settled ds p) (settled_lasts LinkStays links_last ds p) h

  module _ (d : Duty) (ds : List Duty) (r : Reply) (p : PathState Carried) where
    abbrev x : PathState Carried
    x = with_agenda (d ∷ ds) p

    abbrev q : PathState Carried
    q = answered values d r x

    sent_all : is_event d ≡ false → StripsNothing p.link.lines → AltersNothing p.link.lines → AllUnderWay p → (o : Option ToSend) → duty_sends d x ≡ o → OfSent o x → AllUnderWay q
    sent_all other strips alters h None is sent = same_all x q (quiet_link values d r x other is) h
    sent_all other strips alters h (Some t) is sent =
        let hands : Hands values x t = subst (HandsOrTellsNone values x) is (each_segment_is_told values x) in
        let link : q.link ≡ handed values t.from (segment_sent x t) x = sym (settled_lasts LinkStays links_last q.agenda q) ∙ hands.taken r in
        subst (λ (l : LinkState Carried). Every P l.under_way) (sym link) (handed_all t x strips alters sent h)

  answered_all : (d : Duty) (ds : List Duty) (r : Reply) (p : PathState Carried) → StripsNothing p.link.lines → AltersNothing p.link.lines → AllUnderWay p → OfSent (duty_sends d (with_agenda (d ∷ ds) p)) (with_agenda (d ∷ ds) p)
      → AllUnderWay (answered values d r (with_agenda (d ∷ ds) p))
  answered_all (duties.Step step_duties.Events) ds r p strips alters h sent = let x : PathState Carried = with_agenda (duties.Step step_duties.Events ∷ ds) p in event_all (next_event x) r x h
  answered_all d ds r p strips alters h sent = sent_all d ds r p refl strips alters h (duty_sends d (with_agenda (d ∷ ds) p)) refl sent

  -- as an ask of the path is answered
  pub takes_all : (r : Reply) (p : PathState Carried) → StripsNothing p.link.lines → AltersNothing p.link.lines → OfSent (first_sends p.agenda p) p → AllUnderWay p → AllUnderWay (takes values r p)
  takes_all r p strips alters = by p.agenda
    where
      by : (ds : List Duty) → OfSent (first_sends ds (with_agenda ds p)) (with_agenda ds p) → AllUnderWay p → AllUnderWay (takes values r (with_agenda ds p))
      by [] sent h = h
      by (d ∷ ds) sent h = let q : PathState Carried = answered values d r (with_agenda (d ∷ ds) p) in settled_all q.agenda q (answered_all d ds r p strips alters h sent)

  -- and as the next round begins
  pub next_all : (p : PathState Carried) → AllUnderWay p → AllUnderWay (next_round p)
  next_all p h = let q : PathState Carried = record p { clock = p.until; until = p.until + 100 } in settled_all start_of_turn (with_agenda start_of_turn q) h

-- none is as a path begins
pub none_begins : (P : Flight Carried → Type 0) (start : Start) (number : ℕ) (plan : PathPlan) → Every P (begins_turn (waiting_path (path_begins start number plan) start.lines)).link.under_way
none_begins P start number plan =
    let p : PathState Carried = waiting_path (path_begins start number plan) start.lines in
    subst (λ (l : LinkState Carried). Every P l.under_way) (sym (begins_lasts LinkStays links_last p)) (record { each = λ i f there. cc })
