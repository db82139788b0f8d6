-- What is noted at neither end of a path, and in no segment that is under way, no end hears: by each duty it stays so, if no end notes it.
use Rattle.link_script.specs.declared.script.ScriptLine.{ScriptLine}
use Rattle.path_core.specs.Start.{PathStart, waiting_path}
use Rattle.whole_paths.proofs.HeardItems as hears
use Rattle.whole_paths.proofs.QueuedWords as queues
use Rattle.whole_paths.proofs.NoticeWords.{AreUnheard, Word, is_heard, is_noted, is_said_in}
use Rattle.whole_paths.proofs.HeardWords.{options_say}
use Rattle.whole_paths.proofs.SaidWords.{Fits, first_noted}
use Rattle.std.proofs.Common.{◌≡◌, refl, sym, subst, ℕ, ◌+◌, Bool, true, false, true≢false, if◌then◌else◌, Option, Some, None, List, ◌∷◌, ◌∙◌, []}
use Rattle.std.specs.List.{position, flat_map}
use Rattle.std.proofs.lemmas.Bool.{both_ways}
use Rattle.path_segments.specs.Heard.{HeardSegment}
use Rattle.path_segments.specs.Laws.{meant}
use Rattle.path_segments.specs.Spelled.{PlainSegment}
use Rattle.sides.specs.declared.side.Side.{Side}
use Rattle.sides.specs.declared.side.Side.TheVariants.{A, B}
use Rattle.link_model.specs.Steps.{after_delivery, arriving, is_due, without, changed, next_number}
use Rattle.link_model.specs.declared.flight.Due.{Due}
use Rattle.link_model.specs.declared.flight.Flight.{Flight}
use Rattle.stream_lanes.specs.Words.{Every}
use Rattle.actor_desk.specs.Words.{tail_of}
use Rattle.actor_desk.specs.declared.ask.Reply.{Reply}
use Rattle.path_agenda.specs.Agenda.{emission, leaves, start_of_turn}
use Rattle.path_agenda.specs.declared.duty.Duty.{Duty}
use Rattle.path_agenda.specs.declared.duty.Duty.TheVariants as duties
use Rattle.path_agenda.specs.declared.duty.StepDuty.TheVariants as step_duties
use Rattle.path_store.specs.declared.lines.LineAction.{LineAction}
use Rattle.path_store.specs.declared.lines.LineAction.TheVariants as actions
use Rattle.path_core.specs.Arrival.{copy_heard, heard_in}
use Rattle.path_core.specs.Duties.{answered}
use Rattle.path_core.specs.End.{PathEnd}
use Rattle.path_core.specs.Events.{after_line, happens_if, next_event}
use Rattle.path_core.specs.MpJoin.{is_joined, is_never, keys_begun, never_joined, opened_by}
use Rattle.path_core.specs.State.{PathState, at_tick, end_at, goes_on, with_agenda}
use Rattle.path_core.specs.Steps.{next_round, settled}
use Rattle.path_core.specs.Values.{Carried, as_arrived, values, altered, carried_by, stripped}
use Rattle.path_core.specs.declared.events.Event.{Event}
use Rattle.path_core.specs.declared.events.Event.TheVariants as happenings
use Rattle.world_laws.proofs.Keys.Held.{in_removed}
use Rattle.world_laws.proofs.Writes.Steps.{settled_lasts}
use Rattle.whole_paths.proofs.Copies.{LinkStays, links_last}
use Rattle.whole_paths.proofs.Pieces.{is_event}
use Rattle.path_core.specs.OptionsIn.{items_in}
use Rattle.world_laws.proofs.Worlds.Finding.{find_every}
use Rattle.std.specs.Option.{IfSome}
use Rattle.link_model.specs.Fate.{is_altered, is_stripped}
use Rattle.link_model.specs.State.{LinkState}
use Rattle.path_core.specs.Handover.{handed}
use Rattle.path_core.specs.Looking.{Hands, HandsOrTellsNone, duty_sends, segment_sent}
use Rattle.path_core.proofs.SegmentsTold.{each_segment_is_told}
use Rattle.world_laws.proofs.Lanes.Saying.{handed_kept}
use Rattle.whole_paths.proofs.Came.{quiet_link}
use Rattle.whole_paths.proofs.Saying.{ToSend}

module _ (word : Word) where
  abbrev pub IsSaidNone : Flight Carried → Type 0
  IsSaidNone f = is_said_in word (as_arrived f.carried) ≡ false

  changed_none : (strips alters : Bool) (x : Carried) → is_said_in word (as_arrived x) ≡ false → is_said_in word (as_arrived (changed stripped altered strips alters x)) ≡ false
  changed_none true true x h = refl
  changed_none true false x h = refl
  changed_none false true x h = h
  changed_none false false x h = h

  handed_none : (from : Side) (x : PlainSegment) (p : PathState Carried) → is_said_in word x ≡ false → Every IsSaidNone p.link.under_way → Every IsSaidNone (handed values from x p).under_way
  handed_none from x p none h =
      handed_kept IsSaidNone from x p (λ tick. changed_none (is_stripped from (next_number from p.link) p.clock p.link.lines) (is_altered from (next_number from p.link) p.link.lines) (carried_by p.profile.spelling from x) none) h

  pub same_copies : (p q : PathState Carried) → q.link ≡ p.link → Every IsSaidNone p.link.under_way → Every IsSaidNone q.link.under_way
  same_copies p q is h = subst (λ (l : LinkState Carried). Every IsSaidNone l.under_way) (sym is) h

  -- what is noted at neither end is said in no segment
  abbrev pub NotesNone : PathState Carried → Type 0
  NotesNone p = (s : Side) → is_noted word (end_at s p) ≡ false

  -- a segment says it only where it is noted
  abbrev IsSaidAsNoted : PathState Carried → Option ToSend → Type 0
  IsSaidAsNoted x o = IfSome o (λ t. is_said_in word (segment_sent x t) ≡ true → is_noted word (end_at t.from x) ≡ true)

  pub sent_none : (d : Duty) (ds : List Duty) (r : Reply) (p : PathState Carried) → Fits word p.profile → let x = with_agenda (d ∷ ds) p in is_event d ≡ false → NotesNone x → Every IsSaidNone p.link.under_way
      → Every IsSaidNone (answered values d r x).link.under_way
  sent_none d ds r p fits other none = by (duty_sends d x) refl (first_noted word x fits (d ∷ ds))
    where
      x : PathState Carried
      x = with_agenda (d ∷ ds) p

      q : PathState Carried
      q = answered values d r x

      never : (t : ToSend) (b : Bool) → is_said_in word (segment_sent x t) ≡ b → IsSaidAsNoted x (Some t) → b ≡ false
      never t false is noted = refl
      never t true is noted = absurd (both_ways _ (none t.from) (noted is))

      by : (o : Option ToSend) → duty_sends d x ≡ o → IsSaidAsNoted x o → Every IsSaidNone p.link.under_way → Every IsSaidNone q.link.under_way
      by None is noted h = same_copies x q (quiet_link values d r x other is) h
      by (Some t) is noted h =
          let hands : Hands values x t = subst (HandsOrTellsNone values x) is (each_segment_is_told values x) in
          let link : q.link ≡ handed values t.from (segment_sent x t) x = sym (settled_lasts LinkStays links_last q.agenda q) ∙ hands.taken r in
          subst (λ (l : LinkState Carried). Every IsSaidNone l.under_way) (sym link)
          (handed_none t.from (segment_sent x t) x (let none : is_said_in word (segment_sent x t) ≡ false = never t (is_said_in word (segment_sent x t)) refl noted in none) h)

  -- what the ends have to treat isn't that
  abbrev pub HearNone : PathState Carried → Type 0
  HearNone p = (s : Side) → AreUnheard word (end_at s p).treated.items

  pub not_so : (b : Bool) → (b ≡ true → ⊥) → b ≡ false
  not_so false out = refl
  not_so true out = absurd (out refl)

  pub notes_then : (p q : PathState Carried) → queues.Sheds word p q → NotesNone p → NotesNone q
  notes_then p q x none s = not_so _ (λ is. both_ways _ (none s) (queues.sheds_at word s p q x is))

  items_then : (p q : PathState Carried) → hears.Sheds p q → HearNone p → HearNone q
  items_then p q x none s = not_so _ (λ is. both_ways _ (none s) (hears.sheds_at s p q x (is_heard word) is))

  -- ---- an event

  copy_items : (s : Side) (x : PlainSegment) (p : PathState Carried) → is_said_in word x ≡ false → HearNone p → HearNone (copy_heard s (Some (meant x)) p)
  copy_items A x p none h A = elim p.a.modes.identity as (λ b. AreUnheard word (flat_map (items_in (is_joined p.profile) A (meant x).window) (if b then [] else (meant x).options)))
      [ true ↦ refl | false ↦ options_say word (is_joined p.profile) A (meant x).window x.options none ]
  copy_items A x p none h B = h B
  copy_items B x p none h A = h A
  copy_items B x p none h B = elim p.b.modes.identity as (λ b. AreUnheard word (flat_map (items_in (is_joined p.profile) B (meant x).window) (if b then [] else (meant x).options)))
      [ true ↦ refl | false ↦ options_say word (is_joined p.profile) B (meant x).window x.options none ]

  same_items : (p q : PathState Carried) → q.a ≡ p.a → q.b ≡ p.b → HearNone p → HearNone q
  same_items p q a b h A = subst (λ (e : PathEnd). AreUnheard word e.treated.items) (sym a) (h A)
  same_items p q a b h B = subst (λ (e : PathEnd). AreUnheard word e.treated.items) (sym b) (h B)

  arrival_items : (due : Due) (p q : PathState Carried) → q.a ≡ p.a → q.b ≡ p.b → Every IsSaidNone p.link.under_way → HearNone p → HearNone (copy_heard due.to (heard_in values due.to (arriving due p.link) p) q)
  arrival_items due p q a b copies h = by (arriving due p.link) refl
    where
      by : (o : Option (Flight Carried)) → arriving due p.link ≡ o → HearNone (copy_heard due.to (heard_in values due.to o p) q)
      by None is = same_items p (copy_heard due.to None q) a b h
      by (Some f) is = let found = find_every IsSaidNone (is_due due) p.link.under_way f copies is in copy_items due.to (as_arrived f.carried) q found.0 (same_items p q a b h)

  event_items : (o : Option Event) (r : Reply) (p : PathState Carried) → Every IsSaidNone p.link.under_way → HearNone p → HearNone (happens_if values o r p)
  event_items None r p copies h = items_then p _ (hears.comes_sheds values None r p refl) h
  event_items (Some (happenings.Joins tick)) r p copies h = items_then p _ (hears.comes_sheds values (Some (happenings.Joins tick)) r p refl) h
  event_items (Some (happenings.Takes line)) r p copies h = items_then p _ (hears.comes_sheds values (Some (happenings.Takes line)) r p refl) h
  event_items (Some (happenings.Arrives due)) r p copies h = arrival_items due p (record (at_tick due.tick p) { link = after_delivery due p.link }) refl refl copies h
  event_items (Some (happenings.Fires s tick)) r p copies h = items_then p _ (hears.comes_sheds values (Some (happenings.Fires s tick)) r p refl) h

  left_none : (due_at : Option ℕ) (fs : List (Flight Carried)) → Every IsSaidNone fs → Every IsSaidNone (without due_at fs)
  left_none None fs h = h
  left_none (Some place) fs h = record { each = λ i f at. let there = in_removed fs place i f at in h.each there.0 f there.1 }

  copy_link : (s : Side) (o : Option HeardSegment) (p : PathState Carried) → (copy_heard s o p).link ≡ p.link
  copy_link s None p = refl
  copy_link s (Some x) p = refl

  line_copies : (action : LineAction) (p : PathState Carried) → Every IsSaidNone p.link.under_way → Every IsSaidNone (after_line action p).link.under_way
  line_copies actions.Die p h = record { each = λ i f at. cc }
  line_copies (actions.Prio s backup) p h = h
  line_copies (actions.Announce s id) p h = h
  line_copies (actions.Withdraw s id) p h = h

  event_copies : (o : Option Event) (r : Reply) (p : PathState Carried) → Every IsSaidNone p.link.under_way → Every IsSaidNone (happens_if values o r p).link.under_way
  event_copies None r p h = h
  event_copies (Some (happenings.Joins tick)) r p h =
      let x : PathState Carried = record (at_tick tick p) { joined_at = None } in
      elim (is_never r) as (λ b. Every IsSaidNone (if b then goes_on A (never_joined r x.a) (leaves A) x else goes_on A (opened_by (keys_begun r) x.a) (emission A) x).link.under_way) [ true ↦ h | false ↦ h ]
  event_copies (Some (happenings.Takes line)) r p h = line_copies line.action (record (at_tick line.tick p) { lines = tail_of p.lines }) h
  event_copies (Some (happenings.Arrives due)) r p h =
      let x : PathState Carried = record (at_tick due.tick p) { link = after_delivery due p.link } in
      let o : Option HeardSegment = heard_in values due.to (arriving due p.link) p in
      same_copies x (copy_heard due.to o x) (copy_link due.to o x) (left_none (position (is_due due) p.link.under_way) p.link.under_way h)
  event_copies (Some (happenings.Fires s tick)) r p h = h

  -- ---- a step

  -- it is noted at neither end, of nothing that an end has to treat, and of no copy under way
  pub record Unsaid (p : PathState Carried) : Type 0 where
    pub notes : NotesNone p
    pub items : HearNone p
    pub copies : Every IsSaidNone p.link.under_way

  pub duty_unsaid : (d : Duty) (ds : List Duty) (r : Reply) (p : PathState Carried) → Fits word p.profile → let x = with_agenda (d ∷ ds) p in NotesNone (answered values d r x) → Unsaid x → Unsaid (answered values d r x)
  duty_unsaid d ds r p fits notes h = by (is_event d) refl
    where
      x : PathState Carried
      x = with_agenda (d ∷ ds) p

      q : PathState Carried
      q = answered values d r x

      event : (e : Duty) → is_event e ≡ true → (e ≡ duties.Step step_duties.Events)
      event (duties.Step step_duties.Events) is = refl
      event _ is = absurd (true≢false (sym is))

      happens : HearNone (happens_if values (next_event x) r x) × Every IsSaidNone (happens_if values (next_event x) r x).link.under_way
      happens = (event_items (next_event x) r x h.copies h.items, event_copies (next_event x) r x h.copies)

      by : (e : Bool) → is_event d ≡ e → Unsaid q
      by true is =
          let all = subst (λ e. HearNone (answered values e r x) × Every IsSaidNone (answered values e r x).link.under_way) (sym (event d is)) happens in
          record { notes = notes; items = all.0; copies = all.1 }
      by false other = record { notes = notes; items = items_then x q (hears.answered_sheds values d other r x) h.items; copies = sent_none d ds r p fits other h.notes h.copies }

  pub settled_unsaid : (q : PathState Carried) → Unsaid q → Unsaid (settled q.agenda q)
  settled_unsaid q h = record {
    notes = notes_then q (settled q.agenda q) (settled_lasts (queues.Sheds word) (queues.sheds_last word) q.agenda q) h.notes;
    items = items_then q (settled q.agenda q) (settled_lasts hears.Sheds hears.sheds_last q.agenda q) h.items;
    copies = same_copies q (settled q.agenda q) (settled_lasts LinkStays links_last q.agenda q) h.copies;
  }

  -- as a path begins, and in each turn
  pub turn_unsaid : (p : PathState Carried) → Unsaid p → Unsaid (settled start_of_turn (with_agenda start_of_turn p))
  turn_unsaid p h = settled_unsaid (with_agenda start_of_turn p) (record { notes = elim [ A ↦ h.notes A | B ↦ h.notes B ]; items = elim [ A ↦ h.items A | B ↦ h.items B ]; copies = h.copies })

  pub next_unsaid : (p : PathState Carried) → Unsaid p → Unsaid (next_round p)
  next_unsaid p h = turn_unsaid (record p { clock = p.until; until = p.until + 100 }) (record { notes = elim [ A ↦ h.notes A | B ↦ h.notes B ]; items = elim [ A ↦ h.items A | B ↦ h.items B ]; copies = h.copies })

  pub begins_unsaid : (c : PathStart) (lines : List ScriptLine) → Unsaid (settled start_of_turn (with_agenda start_of_turn (waiting_path c lines)))
  begins_unsaid c lines = turn_unsaid (waiting_path c lines) (record { notes = elim [ A ↦ refl | B ↦ refl ]; items = elim [ A ↦ refl | B ↦ refl ]; copies = record { each = λ i f at. cc } })
