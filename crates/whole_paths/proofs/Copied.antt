-- Each copy that is under way after a turn was under way before it, or is one of the segment that the path sent in the turn.
use Rattle.std.proofs.Common.{◌≡◌, refl, sym, subst, ◌∙◌, ℕ, ◌+◌, true, false, if◌then◌else◌, Option, Some, None, List, [], ◌∷◌, length, position}
use Rattle.std.specs.List.{slice_get}
use Rattle.path_segments.specs.Heard.{HeardSegment}
use Rattle.sides.specs.declared.side.Side.TheVariants.{A}
use Rattle.sides.specs.Side.{peer}
use Rattle.link_model.specs.declared.flight.Flight.{Flight}
use Rattle.link_model.specs.State.{LinkState}
use Rattle.link_model.specs.Steps.{after_delivery, arrivals, arriving, fate_at, first_arrival, is_due, next_number, without}
use Rattle.stream_lanes.specs.Words.{Every}
use Rattle.actor_desk.specs.declared.ask.Reply.{Reply}
use Rattle.actor_desk.specs.Words.{tail_of}
use Rattle.path_agenda.specs.Agenda.{emission, leaves}
use Rattle.path_agenda.specs.declared.duty.Duty.{Duty}
use Rattle.path_agenda.specs.declared.duty.Duty.TheVariants as duties
use Rattle.path_agenda.specs.declared.duty.StepDuty.TheVariants as step_duties
use Rattle.path_store.specs.declared.lines.LineAction.{LineAction}
use Rattle.path_store.specs.declared.lines.LineAction.TheVariants as actions
use Rattle.path_core.specs.Arrival.{copy_heard, heard_in}
use Rattle.path_core.specs.Codec.{Codec}
use Rattle.path_core.specs.Duties.{answered}
use Rattle.path_core.specs.Events.{after_line, happens_if, next_event}
use Rattle.path_core.specs.Handover.{handed}
use Rattle.path_core.specs.Looking.{Hands, HandsOrTellsNone, duty_sends, first_sends, segment_sent}
use Rattle.path_core.specs.MpJoin.{is_never, keys_begun, never_joined, opened_by}
use Rattle.path_core.specs.Octets.{made}
use Rattle.path_core.specs.State.{PathState, at_tick, goes_on, with_agenda}
use Rattle.path_core.specs.Steps.{next_round, takes}
use Rattle.path_core.specs.declared.events.Event.{Event}
use Rattle.path_core.specs.declared.events.Event.TheVariants as happenings
use Rattle.path_core.proofs.SegmentsTold.{each_segment_is_told}
use Rattle.world_laws.specs.declared.member.Member.TheVariants.{App, Path}
use Rattle.world_laws.specs.Actors.{Actor, ActorCrew, member_next, member_takes}
use Rattle.world_laws.specs.StampedBooks.{answer_to}
use Rattle.world_laws.specs.Worlds.{WorldState, Turn, after_turn}
use Rattle.world_laws.proofs.Keys.Held.{in_removed}
use Rattle.world_laws.proofs.Writes.Steps.{begins_lasts, settled_lasts}
use Rattle.whole_paths.specs.Copies.{IsUnderWay}
use Rattle.whole_paths.specs.Harms.{as_it_arrives}
use Rattle.whole_paths.proofs.Came.{quiet_link}
use Rattle.whole_paths.proofs.Copies.{LinkStays, links_last}
use Rattle.whole_paths.proofs.Due.{with_all}
use Rattle.whole_paths.proofs.Pieces.{is_event}
use Rattle.whole_paths.proofs.Saying.{ToSend}
use Rattle.whole_paths.proofs.SentSoon.{with_copies}
use Rattle.whole_paths.proofs.Turns.{turn_each}

module _ {C : Type 0} (k : Codec C) where
  -- the copy was under way, or is one of what the path sends next
  pub data WasThere (p : PathState C) (f : Flight C) : Type 0 where
    before : IsUnderWay f p → WasThere p f
    sent : (t : ToSend) → first_sends p.agenda p ≡ Some t → f.to ≡ peer t.from
        → f.carried ≡ as_it_arrives (k.strips p.profile.spelling) (k.alters p.profile.spelling) t.from (k.makes p.profile.spelling t.from (segment_sent p t)) p.clock p.link → WasThere p f

  abbrev AllWere : PathState C → LinkState C → Type 0
  AllWere p link = Every (WasThere p) link.under_way

  all_before : (p : PathState C) → AllWere p p.link
  all_before p = record { each = λ i f at. before (record { at = i; item = f; there = at; holds = refl }) }

  same_link : (p : PathState C) (link : LinkState C) → link ≡ p.link → AllWere p link
  same_link p link is = subst (AllWere p) (sym is) (all_before p)

  handed_were : (t : ToSend) (p : PathState C) → first_sends p.agenda p ≡ Some t → AllWere p (handed k t.from (segment_sent p t) p)
  handed_were t p is =
      let strips = k.strips p.profile.spelling in let alters = k.alters p.profile.spelling in
      let x : C = k.makes p.profile.spelling t.from (segment_sent p t) in let size = length (made p.profile.spelling t.from (segment_sent p t)) in
      subst (Every (WasThere p)) (sym (with_copies strips alters t.from x size p.clock p.link))
      (with_all (WasThere p) (peer t.from) (next_number t.from p.link) (as_it_arrives strips alters t.from x p.clock p.link) (λ tick. sent t is refl refl)
      (arrivals (fate_at t.from (next_number t.from p.link) size p.clock p.link) (first_arrival t.from (next_number t.from p.link) size p.clock p.link)) p.link.under_way (all_before p))

  line_were : (action : LineAction) (p q : PathState C) → q.link ≡ p.link → AllWere p (after_line action q).link
  line_were actions.Die p q is = record { each = λ i f at. cc }
  line_were (actions.Prio s backup) p q is = same_link p q.link is
  line_were (actions.Announce s id) p q is = same_link p q.link is
  line_were (actions.Withdraw s id) p q is = same_link p q.link is

  event_were : (o : Option Event) (r : Reply) (p : PathState C) → AllWere p (happens_if k o r p).link
  event_were None r p = all_before p
  event_were (Some (happenings.Joins tick)) r p =
      let x = record (at_tick tick p) { joined_at = None } in
      elim (is_never r) as (λ b. AllWere p (if b then goes_on A (never_joined r x.a) (leaves A) x else goes_on A (opened_by (keys_begun r) x.a) (emission A) x).link) [ true ↦ all_before p | false ↦ all_before p ]
  event_were (Some (happenings.Takes line)) r p = line_were line.action p (record (at_tick line.tick p) { lines = tail_of p.lines }) refl
  event_were (Some (happenings.Arrives due)) r p = by (heard_in k due.to (arriving due p.link) p)
    where
      rest : (o : Option ℕ) → Every (WasThere p) (without o p.link.under_way)
      rest None = all_before p
      rest (Some place) = record { each = λ i f at. let there = in_removed p.link.under_way place i f at in before (record { at = there.0; item = f; there = there.1; holds = refl }) }

      by : (o : Option HeardSegment) → AllWere p (copy_heard due.to o (record (at_tick due.tick p) { link = after_delivery due p.link })).link
      by None = rest (position (is_due due) p.link.under_way)
      by (Some x) = rest (position (is_due due) p.link.under_way)
  event_were (Some (happenings.Fires s tick)) r p = all_before p

  -- ---- a step

  module _ (d : Duty) (ds : List Duty) (r : Reply) (p : PathState C) where
    abbrev x : PathState C
    x = with_agenda (d ∷ ds) p

    abbrev q : PathState C
    q = answered k d r x

    sent_were : is_event d ≡ false → (o : Option ToSend) → duty_sends d x ≡ o → AllWere x q.link
    sent_were other None is = same_link x q.link (quiet_link k d r x other is)
    sent_were other (Some t) is =
        let hands : Hands k x t = subst (HandsOrTellsNone k x) is (each_segment_is_told k x) in
        let link : q.link ≡ handed k t.from (segment_sent x t) x = sym (settled_lasts LinkStays links_last q.agenda q) ∙ hands.taken r in
        subst (AllWere x) (sym link) (handed_were t x is)

  duty_were : (d : Duty) (ds : List Duty) (r : Reply) (p : PathState C) → AllWere (with_agenda (d ∷ ds) p) (answered k d r (with_agenda (d ∷ ds) p)).link
  duty_were (duties.Step step_duties.Events) ds r p = let x : PathState C = with_agenda (duties.Step step_duties.Events ∷ ds) p in event_were (next_event x) r x
  duty_were d ds r p = sent_were d ds r p refl (duty_sends d (with_agenda (d ∷ ds) p)) refl

  takes_were : (r : Reply) (p : PathState C) → AllWere p (takes k r p).link
  takes_were r p = by p.agenda
    where
      by : (ds : List Duty) → AllWere (with_agenda ds p) (takes k r (with_agenda ds p)).link
      by [] = all_before (with_agenda [] p)
      by (d ∷ ds) =
          let x : PathState C = with_agenda (d ∷ ds) p in let q : PathState C = answered k d r x in
          subst (AllWere x) (sym (settled_lasts LinkStays links_last q.agenda q)) (duty_were d ds r p)

  next_were : (p : PathState C) → AllWere p (next_round p).link
  next_were p = same_link p (next_round p).link (begins_lasts LinkStays links_last (record p { clock = p.until; until = p.until + 100 }))

  -- ---- the world

  abbrev pub CopiesWere : Actor C → Actor C → Type 0
  CopiesWere (Path p) (Path q) = Every (WasThere p) q.link.under_way
  CopiesWere (App a) (App b) = Unit {0}
  CopiesWere _ _ = ⊥

  member_were : (r : Reply) (m : Actor C) → CopiesWere m (member_takes k r m)
  member_were r (App a) = tt
  member_were r (Path p) = takes_were r p

  member_begins : (m : Actor C) → CopiesWere m (member_next m)
  member_begins (App a) = tt
  member_begins (Path p) = next_were p

  member_stays : (m : Actor C) → CopiesWere m m
  member_stays (App a) = tt
  member_stays (Path p) = all_before p

  pub each_copy_was_there : (w : WorldState C) (turn : Turn) (actor : ℕ) (c : ActorCrew C) → slice_get w.crew actor ≡ Some c
      → (d : ActorCrew C) × (slice_get (after_turn k turn w).crew actor ≡ Some d) × CopiesWere c.member d.member
  each_copy_was_there w turn = turn_each k (λ c d. CopiesWere c.member d.member) (λ c. member_stays c.member) (λ ask books c. member_were (answer_to books ask) c.member)
      (λ stamp c over. member_begins c.member) turn w
