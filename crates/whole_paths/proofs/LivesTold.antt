-- A side is told that a path lives only while the path's end of that side is past the handshake and lives.
use Rattle.std.proofs.Common.{◌≡◌, refl, sym, subst, ap, ◌∙◌, ◌⊎◌, inl, inr, ℕ, zero, suc, ◌+◌, ◌≤◌, Bool, true, false, true≢false, if◌then◌else◌, Option, Some, None, List, [], ◌∷◌, ◌++◌, length}
use Rattle.std.specs.List.{list_any}
use Rattle.std.proofs.lemmas.Bool.{or_parts}
use Rattle.path_segments.specs.Heard.{HeardSegment}
use Rattle.sides.specs.declared.side.Side.{Side}
use Rattle.sides.specs.declared.side.Side.TheVariants.{A, B}
use Rattle.fallback_state.specs.declared.fall.Mode.TheVariants.{Identity}
use Rattle.fallback_state.specs.declared.fall.Verdict.TheVariants as verdicts
use Rattle.control_book.specs.declared.call.ControlReply.TheVariants as control_replies
use Rattle.link_model.specs.Steps.{arriving, after_delivery}
use Rattle.subflow_tcp.specs.declared.handshake.State.{State}
use Rattle.subflow_tcp.specs.declared.handshake.State.TheVariants as phase
use Rattle.subflow_tcp.specs.declared.verdicts.Meaning.{Meaning}
use Rattle.subflow_tcp.specs.declared.verdicts.Meaning.TheVariants as means
use Rattle.subflow_tcp.specs.Expiring.{is_sixth}
use Rattle.subflow_tcp.specs.Judging.{meaning_of}
use Rattle.subflow_tcp.specs.States.{is_dead}
use Rattle.actor_desk.specs.Words.{tail_of}
use Rattle.actor_desk.specs.declared.ask.Reply.{Reply}
use Rattle.actor_desk.specs.declared.ask.Reply.TheVariants as replies
use Rattle.path_agenda.specs.Agenda.{breaks, copy_came, emission, heard_and, leaves, payload_came, resets, rest_of_turn, start_of_turn}
use Rattle.path_agenda.specs.Items.{key_heard, keys_heard}
use Rattle.path_agenda.specs.declared.duty.Duty.{Duty}
use Rattle.path_agenda.specs.declared.duty.Duty.TheVariants as duties
use Rattle.path_agenda.specs.declared.duty.AskDuty.TheVariants as ask_duties
use Rattle.path_agenda.specs.declared.duty.SendDuty.TheVariants as send_duties
use Rattle.path_agenda.specs.declared.duty.StepDuty.TheVariants as step_duties
use Rattle.path_agenda.specs.declared.keys.KeyPair.{KeyPair}
use Rattle.path_store.specs.declared.lines.LineAction.{LineAction}
use Rattle.path_store.specs.declared.lines.LineAction.TheVariants as actions
use Rattle.path_core.specs.Arrival.{copy_heard, copy_judged, copy_of, heard_in, judged_in, reset_for, template_by, template_judged}
use Rattle.path_core.specs.Codec.{Codec}
use Rattle.path_core.specs.DssIn.{held_of}
use Rattle.path_core.specs.Duties.{answered, passed, stands}
use Rattle.path_core.specs.End.{PathEnd}
use Rattle.path_core.specs.Events.{after_line, happens_if, next_event}
use Rattle.path_core.specs.Fallback.{fell_duties}
use Rattle.path_core.specs.Judged.{taken_as}
use Rattle.path_core.specs.MpCapable.{answered_opened, answered_peer_key}
use Rattle.path_core.specs.MpJoin.{is_joined, is_never, keys_begun, never_joined, opened_by}
use Rattle.path_core.specs.OptionsIn.{items_of, options_heard}
use Rattle.path_core.specs.Profile.{Profile}
use Rattle.path_core.specs.State.{PathState, at_tick, end_at, goes_on, with_agenda}
use Rattle.path_core.specs.Steps.{settled}
use Rattle.path_core.specs.Timer.{template_fired}
use Rattle.path_core.specs.declared.events.Event.{Event}
use Rattle.path_core.specs.declared.events.Event.TheVariants as happenings
use Rattle.path_core.specs.declared.judged.Judged.{Judged}
use Rattle.path_core.specs.declared.judged.Judged.TheVariants as judged
use Rattle.path_core.proofs.Judgements.{judged_taken}
use Rattle.world_laws.specs.Writes.{side_of}
use Rattle.world_laws.proofs.Keys.AreDrawn.{is_past}
use Rattle.world_laws.proofs.Whole.Ends.{MeansIs, means_so}
use Rattle.whole_paths.specs.AgendaSteps.{is_told}
use Rattle.whole_paths.specs.AsFar.{stage}
use Rattle.whole_paths.proofs.Agendas.{answered_follows, own_end}
use Rattle.whole_paths.proofs.Deaths.{judged_spared}
use Rattle.whole_paths.proofs.OnlyEvents.{follow_none}
use Rattle.whole_paths.proofs.Opening.{HasSyn, means_up, meaning_has}

-- ---- agendas

-- a side is told that its end lives
abbrev pub tells_living : Duty → Bool
tells_living (duties.Ask (ask_duties.Live s)) = true
tells_living _ = false

abbrev pub NoneLives : List Duty → Type 0
NoneLives ds = list_any tells_living ds ≡ false

-- This side is told so next, once it was told of the handshake.
pub data LivesNext (s : Side) : List Duty → Type 0 where
  at_once : (ds : List Duty) → NoneLives ds → LivesNext s (duties.Ask (ask_duties.Live s) ∷ ds)
  after_answer : (t : Side) (ds : List Duty) → LivesNext s ds → LivesNext s (duties.Ask (ask_duties.SynAnswered t) ∷ ds)
  after_key : (t : Side) (ds : List Duty) → LivesNext s ds → LivesNext s (duties.Ask (ask_duties.PeerKey t) ∷ ds)
  after_opening : (t : Side) (ds : List Duty) → LivesNext s ds → LivesNext s (duties.Ask (ask_duties.Opened t) ∷ ds)
  after_fall : (t : Side) (ds : List Duty) → LivesNext s ds → LivesNext s (duties.Ask (ask_duties.GoIdentity t) ∷ ds)

-- the end is past the handshake and lives
pub record Stands (e : PathEnd) : Type 0 where
  pub past : 3 ≤ stage e.tcp.state
  pub living : is_dead e.tcp.state ≡ false

-- None is told, or one that stands if it was opened.
pub data TellsOf {C : Type 0} (ds : List Duty) (p : PathState C) : Type 0 where
  tells_none : NoneLives ds → TellsOf ds p
  tells_next : (s : Side) → LivesNext s ds → ((end_at s p).treated.opened ≡ true → Stands (end_at s p)) → TellsOf ds p

told_none : (e : Duty) → is_told e ≡ true → tells_living e ≡ false
told_none (duties.Ask (ask_duties.GoIdentity s)) told = refl
told_none (duties.Ask (ask_duties.AckHeard s)) told = refl
told_none (duties.Ask (ask_duties.FailHeard s)) told = refl
told_none (duties.Send (send_duties.SynAck s)) told = refl
told_none (duties.Send (send_duties.Refuse s)) told = refl
told_none _ told = absurd (true≢false (sym told))

heard_none : (s : Side) (from count : ℕ) (ds : List Duty) → NoneLives ds → NoneLives (heard_and s from count ds)
heard_none s from zero ds none = none
heard_none s from (suc count) ds none = heard_none s (from + 1) count ds none

died_none : (a b : Bool) → NoneLives ((if a then [] else duties.Ask (ask_duties.Leave A) ∷ []) ++ ((if b then [] else duties.Ask (ask_duties.Leave B) ∷ []) ++ rest_of_turn))
died_none true true = refl
died_none true false = refl
died_none false true = refl
died_none false false = refl

copy_next : (s : Side) (count : ℕ) → LivesNext s (copy_came s count)
copy_next s count = after_opening s _ (at_once (heard_and s 0 count (payload_came s)) (heard_none s 0 count (payload_came s) refl))

-- the duty is followed by the others, where a verdict doesn't break the path
fell_next : {C : Type 0} (s t : Side) (r : Reply) (d : Duty) (ds : List Duty) (p : PathState C) → LivesNext s ds → LivesNext s (fell_duties t r (with_agenda (d ∷ ds) p)) ⊎ NoneLives (fell_duties t r (with_agenda (d ∷ ds) p))
fell_next s t (replies.Control (control_replies.Verdict (verdicts.Went Identity))) d ds p next = inl (after_fall t ds next)
fell_next s t (replies.Control (control_replies.Verdict (verdicts.BreakPath reason))) d ds p next =
    elim (end_at t p).treated.asked as (λ b. LivesNext s (if b then breaks t reason else resets t reason) ⊎ NoneLives (if b then breaks t reason else resets t reason)) [ true ↦ inr refl | false ↦ inr refl ]
fell_next s t _ d ds p next = inl next

module _ {C : Type 0} where
  -- the state of each end stays, and whether a copy opened it
  record AreSame (p q : PathState C) : Type 0 where
    each : (s : Side) → ((end_at s q).tcp.state ≡ (end_at s p).tcp.state) × ((end_at s q).treated.opened ≡ (end_at s p).treated.opened)

  same_ends : (p q : PathState C) → q.a ≡ p.a → q.b ≡ p.b → AreSame p q
  same_ends p q a b = record { each = elim [ A ↦ (ap (λ (e : PathEnd). e.tcp.state) a, ap (λ (e : PathEnd). e.treated.opened) a) | B ↦ (ap (λ (e : PathEnd). e.tcp.state) b, ap (λ (e : PathEnd). e.treated.opened) b) ] }

  side_same : (t : Side) (f : PathEnd) (ds : List Duty) (p : PathState C) → f.tcp.state ≡ (end_at t p).tcp.state → f.treated.opened ≡ (end_at t p).treated.opened → AreSame p (goes_on t f ds p)
  side_same A f ds p state opened = record { each = elim [ A ↦ (state, opened) | B ↦ (refl, refl) ] }
  side_same B f ds p state opened = record { each = elim [ A ↦ (refl, refl) | B ↦ (state, opened) ] }

  stands_on : (p q : PathState C) (s : Side) → AreSame p q → ((end_at s p).treated.opened ≡ true → Stands (end_at s p)) → (end_at s q).treated.opened ≡ true → Stands (end_at s q)
  stands_on p q s same h is =
      let kept = same.each s in let was = h (sym kept.1 ∙ is) in
      record { past = subst (λ state. 3 ≤ stage state) (sym kept.0) was.past; living = ap is_dead kept.0 ∙ was.living }

  next_on : (s : Side) (es : List Duty) (p q : PathState C) → LivesNext s es ⊎ NoneLives es → AreSame p q → ((end_at s p).treated.opened ≡ true → Stands (end_at s p)) → TellsOf es q
  next_on s es p q (inl next) same h = tells_next s next (stands_on p q s same h)
  next_on s es p q (inr none) same h = tells_none none

at_agenda : {C : Type 0} (s : Side) (ds : List Duty) (p : PathState C) → ((end_at s p).treated.opened ≡ true → Stands (end_at s p)) → (end_at s (with_agenda ds p)).treated.opened ≡ true → Stands (end_at s (with_agenda ds p))
at_agenda A ds p h = h
at_agenda B ds p h = h

agenda_tells : {C : Type 0} (ds es : List Duty) (p : PathState C) → TellsOf ds p → TellsOf ds (with_agenda es p)
agenda_tells ds es p (tells_none none) = tells_none none
agenda_tells ds es p (tells_next s next h) = tells_next s next (at_agenda s es p h)

-- ---- a copy that comes

past_living : (state : State) → is_past state ≡ true → is_dead state ≡ false
past_living phase.Dead is = absurd (true≢false (sym is))
past_living _ is = refl

module _ {C : Type 0} (s : Side) (h : HeardSegment) (p : PathState C) where
  abbrev e : PathEnd
  e = end_at s p

  abbrev c : Profile
  c = p.profile

  abbrev heard : Meaning → PathEnd
  heard m = copy_judged (is_joined p.profile) (held_of p.profile s h) (reset_for p.profile s h) s p.clock h m (end_at s p)

  -- what it takes that the copy means this
  abbrev Fits : Meaning → Type 0
  Fits m = MeansIs (copy_of h) (end_at s p).tcp m × HasSyn (end_at s p).tcp.state m

  opened_stands : (m : Meaning) → Fits m → (heard m).treated.opened ≡ true → Stands (heard m)
  opened_stands (means.Accepts n) fits is = record {
    past = means_up p.profile s p.clock h (end_at s p) (means.Accepts n) fits.1;
    living = (judged_spared p.profile s p.clock h (end_at s p) (means.Accepts n) refl).living (ap is_dead fits.0.0);
  }
  opened_stands (means.Taken pos n) fits is = record {
    past = means_up p.profile s p.clock h (end_at s p) (means.Taken pos n) fits.1;
    living = (judged_spared p.profile s p.clock h (end_at s p) (means.Taken pos n) refl).living (past_living (end_at s p).tcp.state fits.0.0);
  }
  opened_stands _ fits is = absurd (true≢false (sym is))

  abbrev count : ℕ
  count = length (items_of (is_joined p.profile) s h)

  abbrev after_heard : Judged → PathState C
  after_heard v = goes_on s (heard (taken_as v)) (template_judged (is_joined p.profile) s count v) p

  next_tells : (v : Judged) → Fits (taken_as v) → LivesNext s (template_judged (is_joined p.profile) s count v) → TellsOf (template_judged (is_joined p.profile) s count v) (after_heard v)
  next_tells v fits next = tells_next s next (subst (λ (f : PathEnd). f.treated.opened ≡ true → Stands f) (sym (own_end s (heard (taken_as v)) p.a p.b)) (opened_stands (taken_as v) fits))

  accepts_next : (joined : Bool) (n : ℕ) → LivesNext s (template_by joined s count (means.Accepts n))
  accepts_next true n = at_once _ refl
  accepts_next false n = after_answer s _ (after_key s _ (at_once _ refl))

  judged_tells : (v : Judged) → Fits (taken_as v) → TellsOf (template_judged (is_joined p.profile) s count v) (after_heard v)
  judged_tells (judged.As (means.Accepts n)) fits = next_tells (judged.As (means.Accepts n)) fits (accepts_next (is_joined p.profile) n)
  judged_tells (judged.As (means.Taken pos n)) fits = next_tells (judged.As (means.Taken pos n)) fits (copy_next s count)
  judged_tells (judged.As m) fits = tells_none refl
  judged_tells v fits = tells_none refl

  copy_fits : Fits (taken_as (judged_in (is_joined p.profile) s h (end_at s p)))
  copy_fits = judged_taken h.rst (items_of (is_joined p.profile) s h) (end_at s p) Fits (tt, tt) (is_joined p.profile) (meaning_of (copy_of h) (end_at s p).tcp)
      (means_so (copy_of h) (end_at s p).tcp, meaning_has (end_at s p).tcp.state (copy_of h) (end_at s p).tcp)

heard_tells : {C : Type 0} (s : Side) (o : Option HeardSegment) (p : PathState C) → let q = copy_heard s o p in TellsOf q.agenda q
heard_tells s None p = tells_none refl
heard_tells s (Some segment) p =
    let h : HeardSegment = options_heard (end_at s p) segment in judged_tells s h p (judged_in (is_joined p.profile) s h (end_at s p)) (copy_fits s h p)

line_tells : {C : Type 0} (action : LineAction) (p : PathState C) → NoneLives (after_line action p).agenda
line_tells actions.Die p = died_none (is_dead p.a.tcp.state) (is_dead p.b.tcp.state)
line_tells (actions.Prio s backup) p = refl
line_tells (actions.Announce s id) p = refl
line_tells (actions.Withdraw s id) p = refl

module _ {C : Type 0} (k : Codec C) where
  event_tells : (o : Option Event) (r : Reply) (p : PathState C) → let q = happens_if k o r p in TellsOf q.agenda q
  event_tells None r p = tells_none refl
  event_tells (Some (happenings.Joins tick)) r p =
      let x : PathState C = record (at_tick tick p) { joined_at = None } in
      tells_none (elim (is_never r) as (λ b. NoneLives (if b then goes_on A (never_joined r x.a) (leaves A) x else goes_on A (opened_by (keys_begun r) x.a) (emission A) x).agenda) [ true ↦ refl | false ↦ refl ])
  event_tells (Some (happenings.Takes line)) r p = let x : PathState C = record (at_tick line.tick p) { lines = tail_of p.lines } in tells_none (line_tells line.action x)
  event_tells (Some (happenings.Arrives due)) r p = heard_tells due.to (heard_in k due.to (arriving due p.link) p) (record (at_tick due.tick p) { link = after_delivery due p.link })
  event_tells (Some (happenings.Fires s tick)) r p = tells_none (elim (is_sixth (end_at s p).tcp) as (λ b. NoneLives (template_fired b s)) [ true ↦ refl | false ↦ refl ])

  -- ---- any duty

  none_tells : (d : Duty) (ds : List Duty) (r : Reply) (p : PathState C) → NoneLives (d ∷ ds) → let q = answered k d r (with_agenda (d ∷ ds) p) in TellsOf q.agenda q
  none_tells (duties.Step step_duties.Events) ds r p none = let x : PathState C = with_agenda (duties.Step step_duties.Events ∷ ds) p in event_tells (next_event x) r x
  none_tells d ds r p none = tells_none
      (follow_none tells_living told_none (λ s. refl) (λ s. refl) (λ s reason. refl) (λ s reason. refl) (λ s. refl) (λ s. refl) (side_of d) _ d ds (answered k d r (with_agenda (d ∷ ds) p)).agenda (answered_follows k d ds r p) none)

  keys_tell : (s t : Side) (o : Option ℕ) (d : Duty) (ds : List Duty) (r : Reply) (p : PathState C) → LivesNext s ds → ((end_at s p).treated.opened ≡ true → Stands (end_at s p))
      → let q = answered_peer_key t o r (with_agenda (d ∷ ds) p) in TellsOf q.agenda q
  keys_tell s t None d ds r p next h = let x : PathState C = with_agenda (d ∷ ds) p in
      next_on s (fell_duties t r x) x _ (fell_next s t r d ds p next) (side_same t _ (fell_duties t r x) x refl refl) (at_agenda s (d ∷ ds) p h)
  keys_tell s t (Some key) d ds r p next h = let x : PathState C = with_agenda (d ∷ ds) p in next_on s ds x _ (inl next) (side_same t _ ds x refl refl) (at_agenda s (d ∷ ds) p h)

  opened_tell : (s t : Side) (o : Option KeyPair) (d : Duty) (ds : List Duty) (r : Reply) (p : PathState C) → LivesNext s ds → ((end_at s p).treated.opened ≡ true → Stands (end_at s p))
      → let q = answered_opened t o r (with_agenda (d ∷ ds) p) in TellsOf q.agenda q
  opened_tell s t None d ds r p next h = let x : PathState C = with_agenda (d ∷ ds) p in
      next_on s (fell_duties t r x) x _ (fell_next s t r d ds p next) (side_same t _ (fell_duties t r x) x refl refl) (at_agenda s (d ∷ ds) p h)
  opened_tell s t (Some keys) d ds r p next h = let x : PathState C = with_agenda (d ∷ ds) p in next_on s ds x _ (inl next) (side_same t _ ds x refl refl) (at_agenda s (d ∷ ds) p h)

  pub answered_tells : (d : Duty) (ds : List Duty) (r : Reply) (p : PathState C) → TellsOf (d ∷ ds) p → let q = answered k d r (with_agenda (d ∷ ds) p) in TellsOf q.agenda q
  answered_tells d ds r p (tells_none none) = none_tells d ds r p none
  answered_tells d ds r p (tells_next s next h) = by d ds next
    where
      by : (d : Duty) (ds : List Duty) → LivesNext s (d ∷ ds) → let q = answered k d r (with_agenda (d ∷ ds) p) in TellsOf q.agenda q
      by d ds (at_once others none) = tells_none none
      by d ds (after_answer t others on) = next_on s ds p _ (inl on) (same_ends p _ refl refl) h
      by d ds (after_key t others on) = keys_tell s t (key_heard (end_at t p).treated.items) d ds r p on h
      by d ds (after_opening t others on) = opened_tell s t (keys_heard (end_at t p).treated.items) d ds r p on h
      by d ds (after_fall t others on) = let x : PathState C = with_agenda (d ∷ ds) p in next_on s ds x _ (inl on) (side_same t _ ds x refl refl) (at_agenda s (d ∷ ds) p h)

  -- ---- duties that come to nothing

  passed_tells : (d : Duty) (ds : List Duty) (p : PathState C) → TellsOf (d ∷ ds) p → TellsOf ds (passed d p)
  passed_tells d ds p (tells_none none) = tells_none (or_parts (tells_living d) (list_any tells_living ds) none).1
  passed_tells d ds p (tells_next s next h) = by d ds next
    where
      by : (d : Duty) (ds : List Duty) → LivesNext s (d ∷ ds) → TellsOf ds (passed d p)
      by d ds (at_once others none) = tells_none none
      by d ds (after_answer t others on) = tells_next s on h
      by d ds (after_key t others on) = tells_next s on h
      by d ds (after_opening t others on) = tells_next s on h
      by d ds (after_fall t others on) = tells_next s on h

  pub settled_tells : (ds : List Duty) (p : PathState C) → TellsOf ds p → let q = settled ds p in TellsOf q.agenda q
  settled_tells [] p h = tells_none refl
  settled_tells (d ∷ ds) p h = elim (stands d p) as (λ b. let q = if b then with_agenda (d ∷ ds) p else settled ds (passed d p) in TellsOf q.agenda q)
      [ true ↦ agenda_tells (d ∷ ds) (d ∷ ds) p h | false ↦ settled_tells ds (passed d p) (passed_tells d ds p h) ]

  own_side : (s t : Side) (es ds : List Duty) → LivesNext t es → es ≡ duties.Ask (ask_duties.Live s) ∷ ds → t ≡ s
  own_side s t es ds (at_once others none) same = (let is = same in cc)
  own_side s t es ds (after_answer u others on) same = absurd (let never = same in cc)
  own_side s t es ds (after_key u others on) same = absurd (let never = same in cc)
  own_side s t es ds (after_opening u others on) same = absurd (let never = same in cc)
  own_side s t es ds (after_fall u others on) same = absurd (let never = same in cc)

  -- as its side is told that the end lives, it does so
  pub living_stands : (s : Side) (ds : List Duty) (p : PathState C) → TellsOf (duties.Ask (ask_duties.Live s) ∷ ds) p → (end_at s p).treated.opened ≡ true → Stands (end_at s p)
  living_stands s ds p (tells_none none) opened = absurd (true≢false none)
  living_stands s ds p (tells_next t next h) opened =
      subst (λ u. (end_at u p).treated.opened ≡ true → Stands (end_at u p)) (own_side s t (duties.Ask (ask_duties.Live s) ∷ ds) ds next refl) h opened

  pub begins_tells : (p : PathState C) → TellsOf start_of_turn p
  begins_tells p = tells_none refl
