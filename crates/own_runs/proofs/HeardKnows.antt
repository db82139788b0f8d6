-- On path 0 of a run that never falls back A's end has B's key where A is to treat what a copy said.
use Rattle.std.proofs.Common.{◌≡◌, refl, sym, ap, ◌∙◌, subst, ℕ, suc, zero, ◌+◌, inl, inr, ◌⊎◌, ⊎_elim, Bool, true, false, if◌then◌else◌, Option, Some, None, List, [], ◌∷◌, ◌++◌, length}
use Rattle.std.proofs.lemmas.Bool.{both_ways, false≢true}
use Rattle.actor_desk.specs.declared.ask.Reply.{Reply}
use Rattle.link_model.specs.Steps.{after_delivery, arriving}
use Rattle.path_agenda.specs.Agenda.{emission, heard_and, leaves, payload_came, rest_of_turn, start_of_turn}
use Rattle.path_agenda.specs.declared.duty.AskDuty.{AskDuty}
use Rattle.path_agenda.specs.declared.duty.Duty.{Duty}
use Rattle.path_agenda.specs.declared.duty.StepDuty.{StepDuty}
use Rattle.path_core.specs.Arrival.{copy_heard, copy_of, heard_in, judged_in, template_by, template_judged}
use Rattle.path_core.specs.Duties.{answered}
use Rattle.path_core.specs.End.{PathEnd}
use Rattle.path_core.specs.Events.{after_line, happens_if, next_event}
use Rattle.path_core.specs.MpJoin.{is_joined, is_never, join_begun}
use Rattle.path_core.specs.OptionsIn.{items_of, options_heard}
use Rattle.path_core.specs.State.{PathState, at_tick, end_at, with_agenda}
use Rattle.path_core.specs.Steps.{answers, begins_turn, settled, takes}
use Rattle.path_core.specs.Timer.{template_fired}
use Rattle.path_core.specs.Values.{Carried, values}
use Rattle.path_core.specs.declared.events.Event.{Event}
use Rattle.path_core.specs.declared.judged.Judged.{Judged}
use Rattle.path_segments.specs.Heard.{HeardSegment}
use Rattle.path_store.specs.declared.lines.LineAction.{LineAction}
use Rattle.sides.specs.declared.side.Side.TheVariants.{A, B}
use Rattle.sides.specs.declared.side.Side.{Side}
use Rattle.subflow_tcp.specs.Expiring.{is_sixth}
use Rattle.subflow_tcp.specs.Judging.{meaning_of}
use Rattle.subflow_tcp.specs.States.{is_dead}
use Rattle.subflow_tcp.specs.declared.handshake.State.{State as EndPhase}
use Rattle.subflow_tcp.specs.declared.verdicts.Meaning.{Meaning}
use Rattle.world_laws.proofs.Keys.AnswerHeardFirst.{Fits, fits, is_apart, is_met}
use Rattle.world_laws.proofs.Keys.AreDrawn.{is_past}
use Rattle.world_laws.proofs.Whole.Ends.{Unmet, parts_of}
use Rattle.world_laws.proofs.Whole.Happening.{Holds}
use Rattle.world_laws.proofs.Whole.Paths.{PathIs}
use Rattle.own_runs.proofs.AnswersAsked.{now_is}
use Rattle.own_runs.proofs.DutiesFew.{IsNoEvent, duty_free, is_free, is_rare, joins_none, settled_free}
use Rattle.own_runs.proofs.EndPaths.{takes_key}
use Rattle.own_runs.proofs.KeyedPieces.{HasKey}

-- A treats what a copy said
abbrev pub treats : Duty → Bool
treats (Duty.Step (StepDuty.Heard A index)) = true
treats _ = false

pub rare : (x : Duty) → is_rare x ≡ false → treats x ≡ false
rare (Duty.Step (StepDuty.Heard s index)) is = absurd (false≢true (sym is))
rare _ is = refl

abbrev pub none_heard : List Duty → Type 0
none_heard ds = is_free treats rare ds ≡ true

abbrev pub HeardKnows : PathState Carried → Type 0
HeardKnows p = none_heard p.agenda ⊎ HasKey p.a

-- ---- what happens

came_none : (from count : ℕ) (ds : List Duty) → none_heard ds → none_heard (heard_and B from count ds)
came_none from zero ds h = h
came_none from (suc count) ds h = came_none (from + 1) count ds h

template_b : (joined : Bool) (count : ℕ) (v : Judged) → none_heard (template_judged joined B count v)
template_b true count (Judged.As (Meaning.Accepts acknowledged)) = refl
template_b false count (Judged.As (Meaning.Accepts acknowledged)) = refl
template_b joined count (Judged.As (Meaning.Taken pos acknowledged)) = came_none 0 count (payload_came B) refl
template_b joined count _ = refl

emission_none : (s : Side) → none_heard (emission s)
emission_none A = refl
emission_none B = refl

line_none : (action : LineAction) (p : PathState Carried) → none_heard (after_line action p).agenda
line_none LineAction.Die p = by (is_dead p.a.tcp.state) (is_dead p.b.tcp.state)
  where
    by : (x y : Bool) → none_heard ((if x then [] else Duty.Ask (AskDuty.Leave A) ∷ []) ++ ((if y then [] else Duty.Ask (AskDuty.Leave B) ∷ []) ++ rest_of_turn))
    by true true = refl
    by true false = refl
    by false true = refl
    by false false = refl
line_none (LineAction.Prio s backup) p = emission_none s
line_none (LineAction.Announce A id) p = refl
line_none (LineAction.Announce B id) p = refl
line_none (LineAction.Withdraw A id) p = refl
line_none (LineAction.Withdraw B id) p = refl

either_none : (b : Bool) (q r : PathState Carried) → none_heard q.agenda → none_heard r.agenda → none_heard (if b then q else r).agenda
either_none true q r x y = x
either_none false q r x y = y

begun_none : (r : Reply) (p : PathState Carried) → none_heard (join_begun r (leaves A) (emission A) p).agenda
begun_none r p = either_none (is_never r) _ _ refl refl

fired_none : (s : Side) (b : Bool) → none_heard (template_fired b s)
fired_none A true = refl
fired_none A false = refl
fired_none B true = refl
fired_none B false = refl

-- an end of A's that was answered knows
met_key : (p : PathState Carried) (ds : List Duty) → PathIs ds p → is_met p.a.tcp.state ≡ true → HasKey p.a
met_key p ds h met = ⊎_elim (λ knows. knows) (λ (unmet : Unmet (parts_of p.a)). absurd (never p.a.tcp.state met unmet.past h.a.base.apart)) h.a.says
  where
    never : (state : EndPhase) → is_met state ≡ true → is_past state ≡ false → is_apart A state ≡ false → ⊥
    never EndPhase.Waiting met past apart = false≢true met
    never EndPhase.SynSent met past apart = false≢true met
    never EndPhase.Dead met past apart = false≢true met
    never EndPhase.Listen met past apart = false≢true (sym apart)
    never _ met past apart = false≢true (sym past)

template_a : (p : PathState Carried) (ds : List Duty) → PathIs ds p → (count : ℕ) (m : Meaning) → (is_met p.a.tcp.state ≡ false → (pos n : ℕ) → m ≡ Meaning.Taken pos n → ⊥)
    → none_heard (template_by false A count m) ⊎ HasKey p.a
template_a p ds h count (Meaning.Taken pos acknowledged) fit = by (is_met p.a.tcp.state) refl
  where
    by : (b : Bool) → is_met p.a.tcp.state ≡ b → none_heard (template_by false A count (Meaning.Taken pos acknowledged)) ⊎ HasKey p.a
    by true met = inr (met_key p ds h met)
    by false none = absurd (fit none pos acknowledged refl)
template_a p ds h count (Meaning.Accepts acknowledged) fit = inl refl
template_a p ds h count _ fit = inl refl

heard_a : (p : PathState Carried) (ds : List Duty) → PathIs ds p → (joined : Bool) → joined ≡ false → (count : ℕ) (told : HeardSegment)
    → none_heard (template_judged joined A count (judged_in joined A told p.a)) ⊎ HasKey p.a
heard_a p ds h true first count told = absurd (false≢true (sym first))
heard_a p ds h false first count told = template_a p ds h count (meaning_of (copy_of told) p.a.tcp) (never (meaning_of (copy_of told) p.a.tcp) (fits (copy_of told) p.a.tcp))
  where
    never : (m : Meaning) → Fits p.a.tcp.state (copy_of told) m → is_met p.a.tcp.state ≡ false → (pos n : ℕ) → m ≡ Meaning.Taken pos n → ⊥
    never (Meaning.Taken at acknowledged) fit none pos n is = both_ways _ none (fit.0 refl)
    never m fit none pos n is = cc

copy_so : (s : Side) (o : Option HeardSegment) (p q : PathState Carried) (ds : List Duty) → PathIs ds p → q.a ≡ p.a → q.profile ≡ p.profile → none_heard (copy_heard s o q).agenda ⊎ HasKey p.a
copy_so s None p q ds h same profile = inl (emission_none s)
copy_so A (Some heard) p q ds h same profile =
    subst (λ (e : PathEnd). none_heard (template_judged (is_joined q.profile) A (length (items_of (is_joined q.profile) A (options_heard e heard))) (judged_in (is_joined q.profile) A (options_heard e heard) e)) ⊎ HasKey p.a)
    (sym same) (heard_a p ds h (is_joined q.profile) (ap is_joined profile ∙ h.first) (length (items_of (is_joined q.profile) A (options_heard p.a heard))) (options_heard p.a heard))
copy_so B (Some heard) p q ds h same profile =
    let told : HeardSegment = options_heard q.b heard in
    inl (template_b (is_joined q.profile) (length (items_of (is_joined q.profile) B told)) (judged_in (is_joined q.profile) B told q.b))

pub happens_so : (p : PathState Carried) (ds : List Duty) → PathIs ds p → (o : Option Event) (r : Reply) → none_heard (happens_if values o r p).agenda ⊎ HasKey p.a
happens_so p ds h None r = inl refl
happens_so p ds h (Some (Event.Joins tick)) r = inl (begun_none r (record (at_tick tick p) { joined_at = None }))
happens_so p ds h (Some (Event.Takes line)) r = inl (line_none line.action _)
happens_so p ds h (Some (Event.Arrives due)) r =
    copy_so due.to (heard_in values due.to (arriving due p.link) p) p (record (at_tick due.tick p) { link = after_delivery due p.link }) ds h refl refl
happens_so p ds h (Some (Event.Fires s tick)) r = inl (fired_none s (is_sixth (end_at s p).tcp))

-- ---- a path

-- after a step the agenda has none, or the key was there before
pub takes_none : (r : Reply) (p : PathState Carried) → Holds p → none_heard p.agenda → none_heard (takes values r p).agenda ⊎ HasKey p.a
takes_none r p holds free = by p.agenda refl
  where
    settles : (q : PathState Carried) → none_heard q.agenda → none_heard (settled q.agenda q).agenda
    settles q none = settled_free treats rare q none q.agenda q none

    other : (d : Duty) → IsNoEvent d → none_heard (settled (answered values d r p).agenda (answered values d r p)).agenda ⊎ HasKey p.a
    other d none = inl (settles (answered values d r p) (duty_free treats rare p free d r none (joins_none treats rare (λ s. (refl, refl)) d)))

    by : (ds : List Duty) → p.agenda ≡ ds → none_heard (settled (answers values ds r p).agenda (answers values ds r p)).agenda ⊎ HasKey p.a
    by [] same = inl (settles p free)
    by (Duty.Step StepDuty.Events ∷ ds) same =
        ⊎_elim (λ none. inl (settles (happens_if values (next_event p) r p) none)) (λ key. inr key)
        (happens_so p p.agenda (now_is (Duty.Step StepDuty.Events) ds p refl holds same) (next_event p) r)
    by (Duty.Step (StepDuty.Look s) ∷ ds) same = other (Duty.Step (StepDuty.Look s)) refl
    by (Duty.Step (StepDuty.Data s) ∷ ds) same = other (Duty.Step (StepDuty.Data s)) refl
    by (Duty.Step (StepDuty.Heard s index) ∷ ds) same = other (Duty.Step (StepDuty.Heard s index)) refl
    by (Duty.Step (StepDuty.PlainAck s) ∷ ds) same = other (Duty.Step (StepDuty.PlainAck s)) refl
    by (Duty.Step (StepDuty.Unmapped s) ∷ ds) same = other (Duty.Step (StepDuty.Unmapped s)) refl
    by (Duty.Ask d ∷ ds) same = other (Duty.Ask d) tt
    by (Duty.Send d ∷ ds) same = other (Duty.Send d) tt
    by (Duty.Silent d ∷ ds) same = other (Duty.Silent d) tt
    by (Duty.End ∷ ds) same = other Duty.End tt

pub takes_heard : (r : Reply) (p : PathState Carried) → Holds p → HeardKnows p → HeardKnows (takes values r p)
takes_heard r p holds (inl free) = ⊎_elim (λ none. inl none) (λ key. inr (takes_key r p key)) (takes_none r p holds free)
takes_heard r p holds (inr key) = inr (takes_key r p key)

pub begins_heard : (p : PathState Carried) → HeardKnows (begins_turn p)
begins_heard p = inl (settled_free treats rare (with_agenda start_of_turn p) refl start_of_turn (with_agenda start_of_turn p) refl)
