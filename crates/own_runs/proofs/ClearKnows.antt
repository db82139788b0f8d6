-- On path 0 of a run that never falls back A may send a DSS only where its end has B's key.
use Rattle.std.proofs.Common.{◌≡◌, refl, sym, ap, ◌∙◌, inl, inr, ◌⊎◌, ⊎_elim, not, Bool, true, false, if◌then◌else◌, Option, Some, None, List, [], ◌∷◌}
use Rattle.std.proofs.lemmas.Bool.{and_parts, false≢true, not-true}
use Rattle.actor_desk.specs.Words.{tail_of}
use Rattle.actor_desk.specs.declared.ask.Reply.{Reply}
use Rattle.control_book.specs.declared.call.ControlReply.{ControlReply}
use Rattle.link_model.specs.Steps.{after_delivery, arriving}
use Rattle.path_agenda.specs.Agenda.{emission, leaves, start_of_turn}
use Rattle.path_agenda.specs.Items.{keys_heard}
use Rattle.path_agenda.specs.declared.duty.AskDuty.{AskDuty}
use Rattle.path_agenda.specs.declared.duty.Duty.{Duty}
use Rattle.path_agenda.specs.declared.duty.SendDuty.{SendDuty}
use Rattle.path_agenda.specs.declared.duty.SilentDuty.{SilentDuty}
use Rattle.path_agenda.specs.declared.duty.StepDuty.{StepDuty}
use Rattle.path_agenda.specs.declared.keys.KeyPair.{KeyPair}
use Rattle.path_core.specs.Arrival.{asked_in, copy_heard, heard_in, judged_in}
use Rattle.path_core.specs.Duties.{answered, passed, stands}
use Rattle.path_core.specs.End.{PathEnd, died}
use Rattle.path_core.specs.Events.{after_line, happens_if, next_event}
use Rattle.path_core.specs.Judged.{taken_as}
use Rattle.path_core.specs.MpCapable.{answered_opened}
use Rattle.path_core.specs.MpJoin.{is_joined, is_never, join_begun, keys_begun, never_joined, opened_by}
use Rattle.path_core.specs.OptionsIn.{options_heard}
use Rattle.path_core.specs.State.{PathState, at_tick, end_at, goes_on, with_agenda}
use Rattle.path_core.specs.Steps.{answers, begins_turn, settled, takes}
use Rattle.path_core.specs.Values.{Carried, values}
use Rattle.path_core.specs.declared.events.Event.{Event}
use Rattle.path_core.specs.declared.modes.Modes.{Modes}
use Rattle.path_segments.specs.Heard.{HeardSegment}
use Rattle.path_store.specs.declared.lines.LineAction.{LineAction}
use Rattle.sides.specs.declared.side.Side.TheVariants.{A, B}
use Rattle.sides.specs.declared.side.Side.{Side}
use Rattle.subflow_tcp.specs.States.{is_dead}
use Rattle.subflow_tcp.specs.declared.verdicts.Meaning.{Meaning}
use Rattle.world_laws.proofs.Whole.Happening.{Holds}
use Rattle.world_laws.proofs.Writes.Paths.{passes_no_more, writes_no_more}
use Rattle.world_laws.proofs.Writes.Steps.{both_ends, unwritten}
use Rattle.world_laws.specs.Writes.{EndView, EndWrites, Only, OnlyAt, PathView, Writes, side_of, writes}
use Rattle.own_runs.proofs.AnswersAsked.{now_is}
use Rattle.own_runs.proofs.DutiesFew.{IsNoEvent, duty_free, joins_none}
use Rattle.own_runs.proofs.EndPaths.{settled_key, takes_key}
use Rattle.own_runs.proofs.HeardKnows.{HeardKnows, happens_so, none_heard, rare, treats}
use Rattle.own_runs.proofs.KeyedPieces.{HasKey}

abbrev pub ClearKnows : PathState Carried → Type 0
ClearKnows p = p.a.modes.clear ≡ true → HasKey p.a

-- A's end was clear before
abbrev WasClear : PathEnd → PathEnd → Type 0
WasClear e f = f.modes.clear ≡ true → e.modes.clear ≡ true

abbrev Back : PathState Carried → PathState Carried → Type 0
Back p q = WasClear p.a q.a

unwritten_back : (w : EndWrites) → w.clear ≡ false → (e f : PathEnd) → Only w e f → WasClear e f
unwritten_back w never e f x clear = sym (unwritten w.clear e.modes.clear f.modes.clear never (ap (λ (v : EndView). v.clear) x.same)) ∙ clear

only_back : (d : Duty) (p q : PathState Carried) → (writes d).own.clear ≡ false → (writes d).other.clear ≡ false → OnlyAt (side_of d) (writes d) p q → Back p q
only_back d p q own other x = (both_ends WasClear (side_of d) (writes d) p q (unwritten_back (writes d).own own) (unwritten_back (writes d).other other) x).0

-- what B's end does leaves A's
b_back : (w : Writes) (p q : PathState Carried) → w.other.clear ≡ false → OnlyAt B w p q → Back p q
b_back w p q other x = unwritten_back w.other other p.a q.a (record { same = ap (λ (v : PathView Carried). v.other) x.same })

-- ---- in silence

passed_back : (d : Duty) (p : PathState Carried) → treats d ≡ false → Back p (passed d p)
passed_back (Duty.Step (StepDuty.Heard A index)) p none = absurd (false≢true (sym none))
passed_back (Duty.Step (StepDuty.Heard B index)) p none = λ c. c
passed_back (Duty.Step StepDuty.Events) p none = λ c. c
passed_back (Duty.Ask (AskDuty.Opened s)) p none = λ c. c
passed_back (Duty.Send (SendDuty.Update s)) p none = λ c. c
passed_back (Duty.Silent (SilentDuty.Timer s)) p none = only_back (Duty.Silent (SilentDuty.Timer s)) p _ refl refl (passes_no_more (Duty.Silent (SilentDuty.Timer s)) p)
passed_back d p none = only_back d p _ refl refl (passes_no_more d p)

settled_back : (ds : List Duty) (p : PathState Carried) → none_heard ds → Back p (settled ds p)
settled_back [] p none = λ c. c
settled_back (d ∷ ds) p none =
    let both = and_parts (not (treats d)) _ none in
    by (stands d p) (λ c. passed_back d p (not-true (treats d) both.0) (settled_back ds (passed d p) both.1 c))
  where
    by : (b : Bool) → Back p (settled ds (passed d p)) → Back p (if b then with_agenda (d ∷ ds) p else settled ds (passed d p))
    by true rest = λ c. c
    by false rest = rest

-- ---- what happens

begun_back : (r : Reply) (p : PathState Carried) → Back p (join_begun r (leaves A) (emission A) p)
begun_back r p = by (is_never r) (keys_begun r)
  where
    by : (b : Bool) (o : Option KeyPair) → WasClear p.a (if b then goes_on A (never_joined r p.a) (leaves A) p else goes_on A (opened_by o p.a) (emission A) p).a
    by true o = λ c. c
    by false None = λ c. c
    by false (Some keys) = λ c. c

line_back : (action : LineAction) (p : PathState Carried) → Back p (after_line action p)
line_back LineAction.Die p = by (is_dead p.a.tcp.state)
  where
    by : (b : Bool) → WasClear p.a (if b then p.a else died p.a)
    by true = λ c. c
    by false = λ c. c
line_back (LineAction.Prio A backup) p = λ c. c
line_back (LineAction.Prio B backup) p = λ c. c
line_back (LineAction.Announce s id) p = λ c. c
line_back (LineAction.Withdraw s id) p = λ c. c

copy_back : (s : Side) (o : Option HeardSegment) (p : PathState Carried) → is_joined p.profile ≡ false → Back p (copy_heard s o p)
copy_back s None p first = λ c. c
copy_back B (Some heard) p first = λ c. c
copy_back A (Some heard) p first =
    let told : HeardSegment = options_heard p.a heard in
    by (is_joined p.profile) first (taken_as (judged_in (is_joined p.profile) A told p.a)) told _
  where
    by : (b : Bool) → b ≡ false → (m : Meaning) (told : HeardSegment) (joined : Modes) → (asked_in m told.options (if b then joined else p.a.modes)).clear ≡ true → p.a.modes.clear ≡ true
    by true first m told joined = absurd (false≢true (sym first))
    by false first Meaning.Opens told joined = λ c. c
    by false first m told joined = λ c. c

happens_back : (o : Option Event) (r : Reply) (p : PathState Carried) → is_joined p.profile ≡ false → Back p (happens_if values o r p)
happens_back None r p first = λ c. c
happens_back (Some (Event.Joins tick)) r p first = begun_back r (record (at_tick tick p) { joined_at = None })
happens_back (Some (Event.Takes line)) r p first = line_back line.action (record (at_tick line.tick p) { lines = tail_of p.lines })
happens_back (Some (Event.Arrives due)) r p first =
    copy_back due.to (heard_in values due.to (arriving due p.link) p) (record (at_tick due.tick p) { link = after_delivery due p.link }) first
happens_back (Some (Event.Fires A tick)) r p first = λ c. c
happens_back (Some (Event.Fires B tick)) r p first = λ c. c

-- ---- replies

abbrev BackOr : PathState Carried → PathState Carried → Type 0
BackOr p q = q.a.modes.clear ≡ true → (p.a.modes.clear ≡ true) ⊎ HasKey q.a

opened_back : (s : Side) (o : Option KeyPair) (r : Reply) (p : PathState Carried) → BackOr p (answered_opened s o r p)
opened_back s None r p = λ c. inl (only_back (Duty.Ask (AskDuty.PlainHandshake s)) p _ refl refl (writes_no_more values (Duty.Ask (AskDuty.PlainHandshake s)) r p) c)
opened_back B (Some keys) r p = λ c. inl c
opened_back A (Some keys) (Reply.Control ControlReply.Noted) p = λ c. inr refl
opened_back A (Some keys) r p = λ c. inl c

answered_back : (d : Duty) (r : Reply) (p : PathState Carried) → IsNoEvent d → treats d ≡ false → BackOr p (answered values d r p)
answered_back (Duty.Step StepDuty.Events) r p none free = absurd (false≢true (sym none))
answered_back (Duty.Step (StepDuty.Heard A index)) r p none free = absurd (false≢true (sym free))
answered_back (Duty.Step (StepDuty.Heard B index)) r p none free =
    λ c. inl (b_back (writes (Duty.Step (StepDuty.Heard B index))) p _ refl (writes_no_more values (Duty.Step (StepDuty.Heard B index)) r p) c)
answered_back (Duty.Ask (AskDuty.Opened s)) r p none free = opened_back s (keys_heard (end_at s p).treated.items) r p
answered_back (Duty.Send (SendDuty.Update s)) r p none free =
    λ c. inl (only_back (Duty.Send (SendDuty.Update s)) p _ refl refl (writes_no_more values (Duty.Send (SendDuty.Update s)) r p) c)
answered_back (Duty.Silent d) r p none free = λ c. inl c
answered_back d r p none free = λ c. inl (only_back d p _ refl refl (writes_no_more values d r p) c)

-- ---- a path

takes_back : (r : Reply) (p : PathState Carried) → Holds p → is_joined p.profile ≡ false → none_heard p.agenda → (takes values r p).a.modes.clear ≡ true
    → (p.a.modes.clear ≡ true) ⊎ (HasKey p.a ⊎ HasKey (takes values r p).a)
takes_back r p holds first free = by p.agenda refl free
  where
    settles : (q : PathState Carried) → none_heard q.agenda → BackOr p q → (settled q.agenda q).a.modes.clear ≡ true → (p.a.modes.clear ≡ true) ⊎ (HasKey p.a ⊎ HasKey (settled q.agenda q).a)
    settles q none back c = ⊎_elim (λ was. inl was) (λ key. inr (inr (settled_key q.agenda q key))) (back (settled_back q.agenda q none c))

    other : (d : Duty) → IsNoEvent d → treats d ≡ false → (settled (answered values d r p).agenda (answered values d r p)).a.modes.clear ≡ true
        → (p.a.modes.clear ≡ true) ⊎ (HasKey p.a ⊎ HasKey (settled (answered values d r p).agenda (answered values d r p)).a)
    other d none free_d = settles (answered values d r p) (duty_free treats rare p free d r none (joins_none treats rare (λ s. (refl, refl)) d)) (answered_back d r p none free_d)

    first_free : (d : Duty) (ds : List Duty) → none_heard (d ∷ ds) → treats d ≡ false
    first_free d ds none = not-true (treats d) (and_parts (not (treats d)) _ none).0

    by : (ds : List Duty) → p.agenda ≡ ds → none_heard ds → (settled (answers values ds r p).agenda (answers values ds r p)).a.modes.clear ≡ true
        → (p.a.modes.clear ≡ true) ⊎ (HasKey p.a ⊎ HasKey (settled (answers values ds r p).agenda (answers values ds r p)).a)
    by [] same none = settles p free (λ c. inl c)
    by (Duty.Step StepDuty.Events ∷ ds) same none =
        ⊎_elim (λ quiet. settles (happens_if values (next_event p) r p) quiet (λ c. inl (happens_back (next_event p) r p first c))) (λ key c. inr (inl key))
        (happens_so p p.agenda (now_is (Duty.Step StepDuty.Events) ds p refl holds same) (next_event p) r)
    by (Duty.Step (StepDuty.Look s) ∷ ds) same none = other (Duty.Step (StepDuty.Look s)) refl refl
    by (Duty.Step (StepDuty.Data s) ∷ ds) same none = other (Duty.Step (StepDuty.Data s)) refl refl
    by (Duty.Step (StepDuty.Heard s index) ∷ ds) same none = other (Duty.Step (StepDuty.Heard s index)) refl (first_free (Duty.Step (StepDuty.Heard s index)) ds none)
    by (Duty.Step (StepDuty.PlainAck s) ∷ ds) same none = other (Duty.Step (StepDuty.PlainAck s)) refl refl
    by (Duty.Step (StepDuty.Unmapped s) ∷ ds) same none = other (Duty.Step (StepDuty.Unmapped s)) refl refl
    by (Duty.Ask d ∷ ds) same none = other (Duty.Ask d) tt refl
    by (Duty.Send d ∷ ds) same none = other (Duty.Send d) tt refl
    by (Duty.Silent d ∷ ds) same none = other (Duty.Silent d) tt refl
    by (Duty.End ∷ ds) same none = other Duty.End tt refl

pub takes_known : (r : Reply) (p : PathState Carried) → Holds p → is_joined p.profile ≡ false → HeardKnows p → ClearKnows p → ClearKnows (takes values r p)
takes_known r p holds first (inr key) h c = takes_key r p key
takes_known r p holds first (inl free) h c =
    ⊎_elim (λ was. takes_key r p (h was)) (λ some. ⊎_elim (λ key. takes_key r p key) (λ key. key) some) (takes_back r p holds first free c)

pub begins_known : (p : PathState Carried) → ClearKnows p → ClearKnows (begins_turn p)
begins_known p h c = settled_key start_of_turn (with_agenda start_of_turn p) (h (settled_back start_of_turn (with_agenda start_of_turn p) refl c))
