-- A learns B's key by the SYN/ACK of path 0 alone, and acknowledges that next: where an agenda asks for the key, it asks for the acknowledgement behind it.
use Rattle.std.proofs.Common.{◌≡◌, refl, sym, ap, subst, ℕ, ◌+◌, inl, inr, ◌⊎◌, nat_lt, arith, Bool, true, false, if◌then◌else◌, Option, Some, None, List, [], ◌∷◌, ◌++◌, length}
use Rattle.std.proofs.lemmas.Bool.{false≢true, lt-ltb}
use Rattle.actor_desk.specs.Words.{tail_of}
use Rattle.actor_desk.specs.declared.ask.Reply.{Reply}
use Rattle.link_model.specs.Steps.{after_delivery, arriving}
use Rattle.path_agenda.specs.Agenda.{emission, rest_of_turn, start_of_turn}
use Rattle.path_agenda.specs.Items.{key_heard}
use Rattle.path_agenda.specs.Words.{replaced}
use Rattle.path_agenda.specs.declared.duty.AskDuty.{AskDuty}
use Rattle.path_agenda.specs.declared.duty.Duty.{Duty}
use Rattle.path_agenda.specs.declared.duty.SendDuty.{SendDuty}
use Rattle.path_agenda.specs.declared.duty.StepDuty.{StepDuty}
use Rattle.path_core.specs.Arrival.{copy_heard, copy_judged, copy_of, heard_in, judged_in, reset_for, template_of}
use Rattle.path_core.specs.DssIn.{held_of}
use Rattle.path_core.specs.Duties.{answered, stands}
use Rattle.path_core.specs.Events.{after_line, happens_if, next_event}
use Rattle.path_core.specs.Judged.{taken_as}
use Rattle.path_core.specs.MpCapable.{answered_peer_key}
use Rattle.path_core.specs.MpJoin.{is_joined, is_never}
use Rattle.path_core.specs.OptionsIn.{items_of, options_heard}
use Rattle.path_core.specs.State.{PathState, at_tick, end_at, goes_on, with_agenda}
use Rattle.path_core.specs.Steps.{answers, begins_turn, settled, takes}
use Rattle.path_core.specs.Timer.{template_fired}
use Rattle.path_core.specs.Values.{Carried, values}
use Rattle.path_core.specs.declared.events.Event.{Event}
use Rattle.path_core.specs.declared.judged.Judged.{Judged}
use Rattle.path_segments.specs.Heard.{HeardSegment}
use Rattle.path_store.specs.declared.lines.LineAction.{LineAction}
use Rattle.sides.specs.declared.side.Side.TheVariants.{A, B}
use Rattle.sides.specs.declared.side.Side.{Side}
use Rattle.subflow_tcp.specs.Expiring.{is_sixth}
use Rattle.subflow_tcp.specs.Dues.{owing_ack}
use Rattle.subflow_tcp.specs.Judging.{meaning_of}
use Rattle.subflow_tcp.specs.Segments.{Copy, occupied, one_if}
use Rattle.subflow_tcp.specs.States.{is_dead}
use Rattle.subflow_tcp.specs.declared.dues.Due.{Due}
use Rattle.subflow_tcp.specs.declared.verdicts.Meaning.{Meaning}
use Rattle.world_laws.proofs.Falls.Verdicts.{fell_cases}
use Rattle.world_laws.proofs.Keys.AnswerHeardFirst.{Fits, a_template, b_template, fits, is_accepts, is_calm, is_key_duty}
use Rattle.own_runs.proofs.DutiesFew.{IsNoEvent, duty_free, joins_none, settled_free}
use Rattle.own_runs.proofs.KeyDuties.{rare}

-- what follows
abbrev pub acking : List Duty
acking = Duty.Send (SendDuty.Acknowledge A) ∷ emission A

abbrev pub living : List Duty
living = Duty.Ask (AskDuty.Live A) ∷ acking

-- an acknowledgement is due, and the agenda asks for the key first
abbrev pub AsksKey : PathState Carried → Type 0
AsksKey p =
    (p.a.tcp.due.ack ≡ true)
    × ((p.agenda ≡ Duty.Ask (AskDuty.SynAnswered A) ∷ Duty.Ask (AskDuty.PeerKey A) ∷ living) ⊎ (p.agenda ≡ Duty.Ask (AskDuty.PeerKey A) ∷ living))

abbrev pub KeyNext : PathState Carried → Type 0
KeyNext p = (is_calm p.agenda ≡ true) ⊎ ((is_joined p.profile ≡ false) × AsksKey p)

calm_settles : (ds : List Duty) (q : PathState Carried) → is_calm ds ≡ true → is_calm (settled ds q).agenda ≡ true
calm_settles ds q calm = settled_free is_key_duty rare (with_agenda ds q) calm ds q calm

settles : (q : PathState Carried) → KeyNext q → KeyNext (settled q.agenda q)
settles q (inl calm) = inl (calm_settles q.agenda q calm)
settles q (inr (first, (ack, inl same))) = subst (λ (ds : List Duty). KeyNext (settled ds q)) (sym same) (inr (first, (ack, inl refl)))
settles q (inr (first, (ack, inr same))) = subst (λ (ds : List Duty). KeyNext (settled ds q)) (sym same) (by (stands (Duty.Ask (AskDuty.PeerKey A)) q))
  where
    by : (b : Bool) → KeyNext (if b then with_agenda (Duty.Ask (AskDuty.PeerKey A) ∷ living) q else settled living q)
    by true = inr (first, (ack, inr refl))
    by false = inl (calm_settles living q refl)

-- ---- what happens

line_calm : (action : LineAction) (p : PathState Carried) → is_calm (after_line action p).agenda ≡ true
line_calm LineAction.Die p = by (is_dead p.a.tcp.state) (is_dead p.b.tcp.state)
  where
    by : (x y : Bool) → is_calm ((if x then [] else Duty.Ask (AskDuty.Leave A) ∷ []) ++ ((if y then [] else Duty.Ask (AskDuty.Leave B) ∷ []) ++ rest_of_turn)) ≡ true
    by true true = refl
    by true false = refl
    by false true = refl
    by false false = refl
line_calm (LineAction.Prio A backup) p = refl
line_calm (LineAction.Prio B backup) p = refl
line_calm (LineAction.Announce A id) p = refl
line_calm (LineAction.Announce B id) p = refl
line_calm (LineAction.Withdraw A id) p = refl
line_calm (LineAction.Withdraw B id) p = refl

either_calm : (b : Bool) (q r : PathState Carried) → is_calm q.agenda ≡ true → is_calm r.agenda ≡ true → is_calm (if b then q else r).agenda ≡ true
either_calm true q r x y = x
either_calm false q r x y = y

fired_calm : (s : Side) (b : Bool) → is_calm (template_fired b s) ≡ true
fired_calm A true = refl
fired_calm A false = refl
fired_calm B true = refl
fired_calm B false = refl

occupies : (c : Copy) → c.syn ≡ true → nat_lt 0 (occupied c) ≡ true
occupies c syn = let one : one_if c.syn ≡ 1 = ap one_if syn in lt-ltb 0 (length c.payload + (one_if c.syn + one_if c.fin)) (omega (arith, one))

owes : (b : Bool) (d : Due) → b ≡ true → (if b then owing_ack d else d).ack ≡ true
owes true d is = refl
owes false d is = absurd (false≢true is)

copy_next : (s : Side) (o : Option HeardSegment) (p : PathState Carried) → KeyNext (copy_heard s o p)
copy_next A None p = inl refl
copy_next B None p = inl refl
copy_next B (Some heard) p =
    let told : HeardSegment = options_heard p.b heard in
    inl (b_template (is_joined p.profile) (length (items_of (is_joined p.profile) B told)) (judged_in (is_joined p.profile) B told p.b)).0
copy_next A (Some heard) p = by (is_joined p.profile) refl
  where
    told : HeardSegment
    told = options_heard p.a heard

    after : Bool → PathState Carried
    after b = goes_on A (copy_judged b (held_of p.profile A told) (reset_for p.profile A told) A p.clock told (taken_as (judged_in b A told p.a)) p.a) (template_of b A (items_of b A told) (judged_in b A told p.a)) p

    meant : (m : Meaning) → Fits p.a.tcp.state (copy_of told) m → is_joined p.profile ≡ false
        → KeyNext (goes_on A (copy_judged false (held_of p.profile A told) (reset_for p.profile A told) A p.clock told m p.a) (template_of false A (items_of false A told) (Judged.As m)) p)
    meant (Meaning.Accepts acknowledged) fit first = inr (first, (owes (nat_lt 0 (occupied (copy_of told))) _ (occupies (copy_of told) (fit.1 refl)), inl refl))
    meant m fit first = inl (a_template false (length (items_of false A told)) (Judged.As m) (λ is. no m refl))
      where
        no : (n : Meaning) → m ≡ n → is_accepts n ≡ false
        no n same = cc

    by : (b : Bool) → is_joined p.profile ≡ b → KeyNext (after b)
    by true joins = inl (a_template true (length (items_of true A told)) (judged_in true A told p.a) (λ is. absurd (false≢true (sym is))))
    by false first = meant (meaning_of (copy_of told) p.a.tcp) (fits (copy_of told) p.a.tcp) first

happens_next : (o : Option Event) (r : Reply) (p : PathState Carried) → KeyNext (happens_if values o r p)
happens_next None r p = inl refl
happens_next (Some (Event.Joins tick)) r p = inl (either_calm (is_never r) _ _ refl refl)
happens_next (Some (Event.Takes line)) r p = inl (line_calm line.action _)
happens_next (Some (Event.Arrives due)) r p = copy_next due.to (heard_in values due.to (arriving due p.link) p) (record (at_tick due.tick p) { link = after_delivery due p.link })
happens_next (Some (Event.Fires s tick)) r p = inl (fired_calm s (is_sixth (end_at s p).tcp))

-- ---- a path

learnt_calm : (o : Option ℕ) (r : Reply) (p : PathState Carried) → p.agenda ≡ Duty.Ask (AskDuty.PeerKey A) ∷ living → is_calm (answered_peer_key A o r p).agenda ≡ true
learnt_calm (Some key) r p same = ap (λ (ds : List Duty). is_calm (tail_of ds)) same
learnt_calm None r p same =
    fell_cases (λ ds. is_calm ds ≡ true) A p r (λ fell. ap (λ (ds : List Duty). is_calm (replaced (Duty.Ask (AskDuty.GoIdentity A)) ds)) same) (λ reason. refl) (λ reason. refl)
    (ap (λ (ds : List Duty). is_calm (tail_of ds)) same)

pub takes_next : (r : Reply) (p : PathState Carried) → KeyNext p → KeyNext (takes values r p)
takes_next r p (inl calm) = by p.agenda refl
  where
    other : (d : Duty) → IsNoEvent d → KeyNext (settled (answered values d r p).agenda (answered values d r p))
    other d none = settles (answered values d r p) (inl (duty_free is_key_duty rare p calm d r none (joins_none is_key_duty rare (λ s. (refl, refl)) d)))

    by : (ds : List Duty) → p.agenda ≡ ds → KeyNext (settled (answers values ds r p).agenda (answers values ds r p))
    by [] same = settles p (inl calm)
    by (Duty.Step StepDuty.Events ∷ ds) same = settles (happens_if values (next_event p) r p) (happens_next (next_event p) r p)
    by (Duty.Step (StepDuty.Look s) ∷ ds) same = other (Duty.Step (StepDuty.Look s)) refl
    by (Duty.Step (StepDuty.Data s) ∷ ds) same = other (Duty.Step (StepDuty.Data s)) refl
    by (Duty.Step (StepDuty.Heard s index) ∷ ds) same = other (Duty.Step (StepDuty.Heard s index)) refl
    by (Duty.Step (StepDuty.PlainAck s) ∷ ds) same = other (Duty.Step (StepDuty.PlainAck s)) refl
    by (Duty.Step (StepDuty.Unmapped s) ∷ ds) same = other (Duty.Step (StepDuty.Unmapped s)) refl
    by (Duty.Ask d ∷ ds) same = other (Duty.Ask d) tt
    by (Duty.Send d ∷ ds) same = other (Duty.Send d) tt
    by (Duty.Silent d ∷ ds) same = other (Duty.Silent d) tt
    by (Duty.End ∷ ds) same = other Duty.End tt
takes_next r p (inr (first, (ack, inl same))) =
    subst (λ (ds : List Duty). KeyNext (settled (answers values ds r p).agenda (answers values ds r p))) (sym same)
    (settles (with_agenda (tail_of p.agenda) p) (inr (first, (ack, inr (ap tail_of same)))))
takes_next r p (inr (first, (ack, inr same))) =
    subst (λ (ds : List Duty). KeyNext (settled (answers values ds r p).agenda (answers values ds r p))) (sym same)
    (settles (answered_peer_key A (key_heard p.a.treated.items) r p) (inl (learnt_calm (key_heard p.a.treated.items) r p same)))

pub begins_next : (p : PathState Carried) → KeyNext (begins_turn p)
begins_next p = settles (with_agenda start_of_turn p) (inl refl)
