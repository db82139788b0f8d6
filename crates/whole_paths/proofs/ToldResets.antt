-- An end is to be reset for its side where a look told it so alone: of each other duty, that it is to be reset was so before.
use Rattle.std.proofs.Common.{◌≡◌, refl, sym, subst, ap, ◌∙◌, inl, inr, ◌⊎◌, ℕ, ◌&&◌, ◌||◌, not, Bool, true, false, true≢false, if◌then◌else◌, Option, Some, None, List, []}
use Rattle.std.proofs.lemmas.Bool.{and_parts, both_ways}
use Rattle.path_segments.specs.Heard.{HeardSegment}
use Rattle.sides.specs.declared.side.Side.{Side}
use Rattle.sides.specs.declared.side.Side.TheVariants.{A, B}
use Rattle.link_model.specs.Steps.{arriving, after_delivery}
use Rattle.control_book.specs.Control.{Control}
use Rattle.control_book.specs.Registry.{state_of}
use Rattle.control_book.specs.Replies.{address_notice, carries, is_aborted, notice_on, resets}
use Rattle.control_book.specs.declared.call.Notice.TheVariants as told
use Rattle.subflow_tcp.specs.Expiring.{after_fire}
use Rattle.subflow_tcp.specs.Opening.{after_begin}
use Rattle.subflow_tcp.specs.States.{is_dead, is_waiting}
use Rattle.actor_desk.specs.Desk.{SixBooks, control_of, reply_of}
use Rattle.actor_desk.specs.Words.{tail_of}
use Rattle.actor_desk.specs.declared.ask.Reply.{Reply}
use Rattle.path_agenda.specs.Agenda.{emission, leaves}
use Rattle.path_agenda.specs.declared.duty.Duty.{Duty}
use Rattle.path_agenda.specs.declared.duty.Duty.TheVariants as duties
use Rattle.path_agenda.specs.declared.duty.AskDuty.TheVariants as ask_duties
use Rattle.path_agenda.specs.declared.duty.SendDuty.TheVariants as send_duties
use Rattle.path_agenda.specs.declared.duty.SilentDuty.TheVariants as silent_duties
use Rattle.path_agenda.specs.declared.duty.StepDuty.TheVariants as step_duties
use Rattle.path_agenda.specs.declared.heard.Heard.{Heard}
use Rattle.path_agenda.specs.declared.heard.Heard.TheVariants as says
use Rattle.path_agenda.specs.declared.keys.KeyPair.{KeyPair}
use Rattle.path_store.specs.declared.lines.LineAction.{LineAction}
use Rattle.path_store.specs.declared.lines.LineAction.TheVariants as actions
use Rattle.path_core.specs.Arrival.{after_judged, copy_heard, heard_in, judged_in}
use Rattle.path_core.specs.Breaking.{answered_break, died_unless_dead}
use Rattle.path_core.specs.Codec.{Codec}
use Rattle.path_core.specs.Deliver.{after_pieces}
use Rattle.path_core.specs.DssIn.{counts, is_clash, with_data_fin, with_learned, with_skipped}
use Rattle.path_core.specs.Duties.{answered, passed}
use Rattle.path_core.specs.End.{PathEnd, died}
use Rattle.path_core.specs.Events.{after_line, happens_if, next_event}
use Rattle.path_core.specs.Fallback.{breaks_by_ack, with_plain_ack}
use Rattle.path_core.specs.MpJoin.{is_joined, is_never, join_begun, keys_begun, never_joined, opened_by, with_keys}
use Rattle.path_core.specs.Notices.{Notices, after_notice}
use Rattle.path_core.specs.OptionsIn.{options_heard}
use Rattle.path_core.specs.Standing.{answered_look, look_ask, may_note}
use Rattle.path_core.specs.State.{PathState, at_tick, end_at, goes_on, path_of, with_end}
use Rattle.path_core.specs.Timer.{with_timer_settled}
use Rattle.path_core.specs.Treating.{answered_heard, answered_item, item_of, item_passed}
use Rattle.path_core.specs.declared.events.Event.{Event}
use Rattle.path_core.specs.declared.events.Event.TheVariants as happenings
use Rattle.world_laws.specs.Writes.{EndView, EndWrites, Only, OnlyAt, Writes, nothing, side_of, writes}
use Rattle.world_laws.proofs.Falls.FailedChecks.{fail_answered_so, infinite_came_so}
use Rattle.world_laws.proofs.Writes.Paths.{passes_no_more, writes_no_more}
use Rattle.world_laws.proofs.Writes.Steps.{Lasts, both_ends, unwritten}

-- ---- an end

-- that it is to be reset was so before
pub record Quiet (e f : PathEnd) : Type 0 where
  pub resets : f.notices.reset ≡ true → e.notices.reset ≡ true

quiet : (e f : PathEnd) → f.notices.reset ≡ e.notices.reset → Quiet e f
quiet e f same = record { resets = λ is. sym same ∙ is }

-- an end that died isn't
gone : (e f : PathEnd) → f.notices.reset ≡ false → Quiet e f
gone e f none = record { resets = λ is. absurd (true≢false (sym is ∙ none)) }

rests : (e : PathEnd) → Quiet e e
rests e = record { resets = λ is. is }

only_quiet : (w : EndWrites) (e f : PathEnd) → w.reset ≡ false → Only w e f → Quiet e f
only_quiet w e f none x = quiet e f (unwritten w.reset e.notices.reset f.notices.reset none (ap (λ (v : EndView). v.reset) x.same))

died_quiet : (e : PathEnd) → Quiet e (died_unless_dead e)
died_quiet e = elim (is_dead e.tcp.state) as (λ b. Quiet e (if b then e else died e)) [ true ↦ rests e | false ↦ gone e (died e) refl ]

item_quiet : (s : Side) (o : Option Heard) (e : PathEnd) → Quiet e (item_passed s o e)
item_quiet s None e = quiet _ _ refl
item_quiet s (Some says.Dss) e = quiet _ _ refl
item_quiet s (Some (says.Mapping fin)) e = elim (counts e) as (λ b. Quiet e (if b then with_learned e else with_skipped e)) [ true ↦ quiet _ _ refl | false ↦ quiet _ _ refl ]
item_quiet s (Some (says.DataFin place)) e = elim (counts e) as (λ b. Quiet e (if b then with_data_fin place e else e)) [ true ↦ quiet _ _ refl | false ↦ quiet _ _ refl ]
item_quiet s (Some _) e = quiet _ _ refl

-- the duty is to look how the side stands
abbrev pub looks : Duty → Bool
looks (duties.Step (step_duties.Look s)) = true
looks _ = false

-- ---- a path

module _ {C : Type 0} where
  pub record BothQuiet (p q : PathState C) : Type 0 where
    pub a : Quiet p.a q.a
    pub b : Quiet p.b q.b

  side : (s : Side) (e : PathEnd) (p q : PathState C) → Quiet (end_at s p) e → q.a ≡ (goes_on s e [] p).a → q.b ≡ (goes_on s e [] p).b → BothQuiet p q
  side A e p q x same_a same_b = record { a = subst (Quiet p.a) (sym same_a) x; b = subst (Quiet p.b) (sym same_b) (rests p.b) }
  side B e p q x same_a same_b = record { a = subst (Quiet p.a) (sym same_a) (rests p.a); b = subst (Quiet p.b) (sym same_b) x }

  both_rest : (p q : PathState C) → q.a ≡ p.a → q.b ≡ p.b → BothQuiet p q
  both_rest p q same_a same_b = record { a = subst (Quiet p.a) (sym same_a) (rests p.a); b = subst (Quiet p.b) (sym same_b) (rests p.b) }

  either : (b : Bool) (q r p : PathState C) → BothQuiet p q → BothQuiet p r → BothQuiet p (if b then q else r)
  either true q r p x y = x
  either false q r p x y = y

  from_there : (p q r : PathState C) → q.a ≡ p.a → q.b ≡ p.b → BothQuiet q r → BothQuiet p r
  from_there p q r a b x = record { a = subst (λ e. Quiet e r.a) a x.a; b = subst (λ e. Quiet e r.b) b x.b }

  plain : (s : Side) (w : Writes) (p q : PathState C) → w.own.reset ≡ false → w.other ≡ nothing → OnlyAt s w p q → BothQuiet p q
  plain s w p q own none x = record { a = h.0; b = h.1 }
    where
      h : Quiet p.a q.a × Quiet p.b q.b
      h = both_ends (λ e f. Quiet e f) s w p q (λ e f only. only_quiet w.own e f own only)
          (λ e f only. only_quiet nothing e f refl (subst (λ v. Only v e f) none only)) x

  -- ---- replies

  break_quiet : (k : Codec C) (s : Side) (reason : ℕ) (r : Reply) (p : PathState C) → BothQuiet p (answered_break k s reason r p)
  break_quiet k s reason r p = either (end_at s p).treated.asked _ _ p (side s _ p _ (quiet _ _ refl) refl refl) (side s _ p _ (gone _ _ refl) refl refl)

  thing_quiet : (k : Codec C) (s : Side) (item : Heard) (r : Reply) (p : PathState C) → BothQuiet p (answered_heard k s item r p)
  thing_quiet k s (says.DataAck next window) r p = side s _ p _ (quiet _ _ refl) refl refl
  thing_quiet k s (says.Mapping fin) r p = either (is_clash (end_at s p)) _ _ p (break_quiet k s 1 r p) (side s _ p _ (quiet _ _ refl) refl refl)
  thing_quiet k s (says.DataFin place) r p = side s _ p _ (quiet _ _ refl) refl refl
  thing_quiet k s (says.InfiniteMapping place position) r p =
      let e = end_at s p in side s _ p _ (infinite_came_so (λ f. Quiet e f) place position r e (λ other. quiet e _ refl)) refl refl
  thing_quiet k s (says.Keys own peer) r p = side s _ p _ (quiet _ _ refl) refl refl
  thing_quiet k s (says.Notice notice) r p = side s _ p _ (quiet _ _ refl) refl refl
  thing_quiet k s says.Fail r p = fail_answered_so (BothQuiet p) s r p (side s _ p _ (quiet _ _ refl) refl refl) (side s _ p _ (quiet _ _ refl) refl refl)
  thing_quiet k s _ r p = both_rest p _ refl refl

  things_quiet : (k : Codec C) (s : Side) (item : Option Heard) (r : Reply) (p : PathState C) → BothQuiet p (answered_item k s item r p)
  things_quiet k s None r p = both_rest p _ refl refl
  things_quiet k s (Some item) r p = thing_quiet k s item r p

  begun_quiet : (r : Reply) (dead living : List Duty) (p : PathState C) → BothQuiet p (join_begun r dead living p)
  begun_quiet r dead living p =
      either (is_never r) (goes_on A (never_joined r (end_at A p)) dead p) (goes_on A (opened_by (keys_begun r) (end_at A p)) living p) p
      (side A _ p _ (gone _ _ refl) refl refl) (side A _ p _ (opens_quiet (keys_begun r)) refl refl)
    where
      opens_quiet : (keys : Option KeyPair) → Quiet p.a (opened_by keys p.a)
      opens_quiet None = rests p.a
      opens_quiet (Some keys) = elim (is_waiting p.a.tcp.state) as (λ b. Quiet p.a (record p.a { tcp = if b then after_begin p.a.tcp else p.a.tcp; modes = with_keys keys p.a.modes }))
          [ true ↦ quiet _ _ refl | false ↦ quiet _ _ refl ]

  -- ---- events

  line_quiet : (action : LineAction) (p : PathState C) → BothQuiet p (after_line action p)
  line_quiet actions.Die p = record { a = died_quiet p.a; b = died_quiet p.b }
  line_quiet (actions.Prio s backup) p = side s _ p _ (quiet _ _ refl) refl refl
  line_quiet (actions.Announce s id) p = both_rest p _ refl refl
  line_quiet (actions.Withdraw s id) p = both_rest p _ refl refl

  heard_quiet : (s : Side) (o : Option HeardSegment) (p : PathState C) → BothQuiet p (copy_heard s o p)
  heard_quiet s None p = both_rest p _ refl refl
  heard_quiet s (Some heard) p =
      let e : PathEnd = end_at s p in let h : HeardSegment = options_heard e heard in
      side s (after_judged p.profile s p.clock h (judged_in (is_joined p.profile) s h e) e) p (copy_heard s (Some heard) p) (quiet _ _ refl) refl refl

  event_quiet : (k : Codec C) (o : Option Event) (r : Reply) (p : PathState C) → BothQuiet p (happens_if k o r p)
  event_quiet k None r p = both_rest p _ refl refl
  event_quiet k (Some (happenings.Joins tick)) r p =
      let q : PathState C = record (at_tick tick p) { joined_at = None } in from_there p q _ refl refl (begun_quiet r (leaves A) (emission A) q)
  event_quiet k (Some (happenings.Takes line)) r p =
      let q : PathState C = record (at_tick line.tick p) { lines = tail_of p.lines } in from_there p q _ refl refl (line_quiet line.action q)
  event_quiet k (Some (happenings.Arrives due)) r p =
      let q : PathState C = record (at_tick due.tick p) { link = after_delivery due p.link } in
      from_there p q _ refl refl (heard_quiet due.to (heard_in k due.to (arriving due p.link) p) q)
  event_quiet k (Some (happenings.Fires A tick)) r p = side A (record p.a { tcp = after_fire (at_tick tick p).clock p.a.tcp }) p _ (quiet _ _ refl) refl refl
  event_quiet k (Some (happenings.Fires B tick)) r p = side B (record p.b { tcp = after_fire (at_tick tick p).clock p.b.tcp }) p _ (quiet _ _ refl) refl refl

  -- ---- any duty

  pub answered_quiet : (k : Codec C) (d : Duty) (r : Reply) (p : PathState C) → looks d ≡ false → BothQuiet p (answered k d r p)
  answered_quiet k (duties.Step step_duties.Events) r p other = event_quiet k (next_event p) r p
  answered_quiet k (duties.Step (step_duties.Look s)) r p other = absurd (true≢false other)
  answered_quiet k (duties.Ask ask_duties.JoinAgain) r p other = begun_quiet r _ _ p
  answered_quiet k (duties.Ask (ask_duties.LeaveNoted s)) r p other = side s _ p _ (gone _ _ refl) refl refl
  answered_quiet k (duties.Step (step_duties.Heard s index)) r p other = things_quiet k s (item_of index (end_at s p)) r p
  answered_quiet k (duties.Step (step_duties.PlainAck s)) r p other =
      either (breaks_by_ack p.profile (end_at s p)) _ _ p (break_quiet k s 6 r p) (side s _ p _ (quiet _ _ refl) refl refl)
  answered_quiet k (duties.Step (step_duties.Unmapped s)) r p other = break_quiet k s 6 r p
  answered_quiet k (duties.Send (send_duties.Update s)) r p other = side s _ p _ (quiet _ _ refl) refl refl
  answered_quiet k (duties.Send (send_duties.BreakReset s reason)) r p other = side s _ p _ (gone _ _ refl) refl refl
  answered_quiet k (duties.Send (send_duties.Reset s)) r p other = side s _ p _ (gone _ _ refl) refl refl
  answered_quiet k (duties.Send (send_duties.ResetNoted s)) r p other = side s _ p _ (gone _ _ refl) refl refl
  answered_quiet k (duties.Silent d) r p other = both_rest p _ refl refl
  answered_quiet k d r p other = let q : PathState C = answered k d r p in plain (side_of d) (writes d) p q refl refl (writes_no_more k d r p)

  -- ---- duties that are passed

  own : (s : Side) (e : PathEnd) (p : PathState C) → Quiet (end_at s p) e → BothQuiet p (with_end s e p)
  own A e p x = record { a = x; b = rests p.b }
  own B e p x = record { a = rests p.a; b = x }

  passed_quiet : (d : Duty) (p : PathState C) → BothQuiet p (passed d p)
  passed_quiet (duties.Step (step_duties.Heard s index)) p = own s (item_passed s (item_of index (end_at s p)) (end_at s p)) p (item_quiet s (item_of index (end_at s p)) (end_at s p))
  passed_quiet (duties.Step (step_duties.PlainAck s)) p = own s (with_plain_ack (end_at s p)) p (quiet _ _ refl)
  passed_quiet (duties.Step (step_duties.Unmapped s)) p = own s (after_pieces (end_at s p)) p (quiet _ _ refl)
  passed_quiet (duties.Step (step_duties.Look s)) p = both_rest p p refl refl
  passed_quiet (duties.Ask ask_duties.JoinAgain) p = both_rest p p refl refl
  passed_quiet (duties.Ask (ask_duties.LeaveNoted s)) p = both_rest p p refl refl
  passed_quiet (duties.Step step_duties.Events) p = both_rest p p refl refl
  passed_quiet (duties.Send (send_duties.Update s)) p = both_rest p p refl refl
  passed_quiet (duties.Silent (silent_duties.Timer s)) p = own s (with_timer_settled p.clock (end_at s p)) p (quiet _ _ refl)
  passed_quiet (duties.Send (send_duties.BreakReset s reason)) p = both_rest p p refl refl
  passed_quiet (duties.Send (send_duties.Reset s)) p = both_rest p p refl refl
  passed_quiet (duties.Send (send_duties.ResetNoted s)) p = both_rest p p refl refl
  passed_quiet d p = plain (side_of d) (writes d) p (passed d p) refl refl (passes_no_more d p)

  pub quiet_lasts : Lasts BothQuiet
  quiet_lasts = record {
    agenda = λ ds p. both_rest p (record p { agenda = ds }) refl refl;
    chains = λ p q r x y. record { a = record { resets = λ is. x.a.resets (y.a.resets is) }; b = record { resets = λ is. x.b.resets (y.b.resets is) } };
    passes = λ d p. passed_quiet d p;
  }

-- ---- a look

-- the control book tells an end to be reset where its side stopped, or took the path's address back (RFC 8684, sections 3.4.2 and 3.5)
notice_resets : (c : Control) (path : ℕ) (may : Bool) (n : Notices) → (after_notice (notice_on c path) may n).reset ≡ true → (n.reset ≡ true) ⊎ (resets c path ≡ true)
notice_resets c path may n = by (resets c path) (carries c path) _ _ _
  where
    addressed : (o e : Option ℕ) → (after_notice (address_notice o e) may n).reset ≡ n.reset
    addressed (Some id) e = elim may as (λ b. (after_notice (told.Announce id) b n).reset ≡ n.reset) [ true ↦ refl | false ↦ refl ]
    addressed None (Some id) = refl
    addressed None None = refl

    by : (b d : Bool) (key : ℕ) (o e : Option ℕ) → (after_notice (if b then told.Reset else (if d then told.Carrier key else address_notice o e)) may n).reset ≡ true → (n.reset ≡ true) ⊎ (b ≡ true)
    by true d key o e is = inr refl
    by false true key o e is = inl is
    by false false key o e is = inl (sym (addressed o e) ∙ is)

look_resets : (c : Control) (path : ℕ) (e : PathEnd) → is_aborted c.fall.mode ≡ false → (if is_dead e.tcp.state then e.notices else after_notice (notice_on c path) (may_note e) e.notices).reset ≡ true
    → (e.notices.reset ≡ true) ⊎ ((state_of c.paths path).removed ≡ true)
look_resets c path e sober = by (is_dead e.tcp.state)
  where
    removed : (b : Bool) → (is_aborted c.fall.mode && not (carries c path) || b) ≡ true → b ≡ true
    removed true is = refl
    removed false is = absurd (both_ways (is_aborted c.fall.mode) sober (and_parts (is_aborted c.fall.mode) (not (carries c path)) (aborts (is_aborted c.fall.mode && not (carries c path)) is)).0)
      where
        aborts : (b : Bool) → (b || false) ≡ true → b ≡ true
        aborts true is = refl
        aborts false is = absurd (true≢false (sym is))

    told_so : (e.notices.reset ≡ true) ⊎ (resets c path ≡ true) → (e.notices.reset ≡ true) ⊎ ((state_of c.paths path).removed ≡ true)
    told_so (inl was) = inl was
    told_so (inr is) = inr (removed (state_of c.paths path).removed is)

    by : (b : Bool) → (if b then e.notices else after_notice (notice_on c path) (may_note e) e.notices).reset ≡ true → (e.notices.reset ≡ true) ⊎ ((state_of c.paths path).removed ≡ true)
    by true is = inl is
    by false is = told_so (notice_resets c path (may_note e) e.notices is)

-- by the reply to a look of this side, at either end
pub look_told : {C : Type 0} (s t : Side) (six : SixBooks) (p : PathState C) → is_aborted (control_of s six).fall.mode ≡ false
    → (end_at t (answered_look s (reply_of six (look_ask s p)) p)).notices.reset ≡ true → ((end_at t p).notices.reset ≡ true) ⊎ ((state_of (control_of t six).paths (path_of p)).removed ≡ true)
look_told A A six p sober is = look_resets six.control_a (path_of p) p.a sober is
look_told A B six p sober is = inl is
look_told B A six p sober is = inl is
look_told B B six p sober is = look_resets six.control_b (path_of p) p.b sober is
