-- An end owes no third MP_JOIN anew but as a SYN/ACK opens it. And no segment that is sent leaves more lines by which one is lost or late.
use Rattle.std.proofs.Common.{◌≡◌, refl, sym, subst, ap, ◌∙◌, ◌⊎◌, inl, inr, ⊎_elim, ℕ, suc, ◌-◌, ◌^◌, ◌≤◌, arith, Bool, true, false, if◌then◌else◌, Option, Some, None, List, [], le_refl}
use Rattle.std.proofs.lemmas.Bool.{cases_lt}
use Rattle.path_segments.specs.Heard.{HeardSegment}
use Rattle.sides.specs.declared.side.Side.{Side}
use Rattle.sides.specs.declared.side.Side.TheVariants.{A, B}
use Rattle.fallback_state.specs.declared.fall.Event.TheVariants as falls
use Rattle.link_script.specs.declared.script.ScriptLine.{ScriptLine}
use Rattle.link_model.specs.State.{LinkState}
use Rattle.link_model.specs.Steps.{arriving, after_delivery, counted}
use Rattle.subflow_tcp.specs.declared.handshake.State.TheVariants as phase
use Rattle.subflow_tcp.specs.declared.verdicts.Meaning.{Meaning}
use Rattle.subflow_tcp.specs.declared.verdicts.Meaning.TheVariants as means
use Rattle.subflow_tcp.specs.Judging.{meaning_of}
use Rattle.subflow_tcp.specs.State.{EndState}
use Rattle.subflow_tcp.specs.States.{is_dead}
use Rattle.subflow_tcp.specs.Taking.{after_payload, after_hearing}
use Rattle.actor_desk.specs.declared.ask.Reply.{Reply}
use Rattle.actor_desk.specs.Words.{tail_of}
use Rattle.path_agenda.specs.Agenda.{leaves, emission}
use Rattle.path_agenda.specs.declared.duty.Duty.{Duty}
use Rattle.path_agenda.specs.declared.duty.Duty.TheVariants as duties
use Rattle.path_agenda.specs.declared.duty.AskDuty.TheVariants as ask_duties
use Rattle.path_agenda.specs.declared.duty.SendDuty.TheVariants as send_duties
use Rattle.path_agenda.specs.declared.duty.SilentDuty.TheVariants as silent_duties
use Rattle.path_agenda.specs.declared.duty.StepDuty.TheVariants as step_duties
use Rattle.path_agenda.specs.declared.heard.Heard.{Heard}
use Rattle.path_agenda.specs.declared.heard.Heard.TheVariants as says
use Rattle.path_agenda.specs.declared.keys.KeyPair.{KeyPair}
use Rattle.path_store.specs.declared.lines.LineAction.{LineAction}
use Rattle.path_store.specs.declared.lines.LineAction.TheVariants as actions
use Rattle.path_core.specs.Arrival.{IsTakenAs, after_judged, judged_in, copy_heard, heard_in, copy_of, copy_judged, reset_for, with_payload}
use Rattle.path_core.specs.OptionsIn.{items_of, options_heard, hint_of}
use Rattle.path_core.specs.Judged.{taken_as}
use Rattle.path_core.specs.Breaking.{answered_break}
use Rattle.path_core.specs.Codec.{Codec}
use Rattle.path_core.specs.DssIn.{is_clash, held_of}
use Rattle.path_core.specs.Duties.{passed, answered}
use Rattle.path_core.specs.End.{PathEnd, died}
use Rattle.path_core.specs.Events.{next_event, after_line, happens_if}
use Rattle.path_core.specs.MpJoin.{join_begun, is_joined, is_never, never_joined, keys_begun, opened_by}
use Rattle.path_core.specs.Profile.{Profile}
use Rattle.path_core.specs.State.{PathState, at_tick, end_at, goes_on}
use Rattle.path_core.specs.Treating.{answered_heard, answered_item, item_of, item_passed}
use Rattle.path_core.specs.declared.events.Event.{Event}
use Rattle.path_core.specs.declared.events.Event.TheVariants as happenings
use Rattle.path_core.proofs.Judgements.{judged_taken}
use Rattle.world_laws.specs.Writes.{EndWrites, EndView, Writes, Only, OnlyAt, writes, side_of}
use Rattle.world_laws.proofs.Falls.FailedChecks.{infinite_came_so, fail_answered_so}
use Rattle.world_laws.proofs.Writes.Paths.{writes_no_more, passes_no_more}
use Rattle.world_laws.proofs.Writes.Steps.{both_ends, unwritten}
use Rattle.whole_paths.specs.AsFar.{stage}
use Rattle.whole_paths.specs.Harms.{harms_left, unused}
use Rattle.whole_paths.proofs.Copies.{LinkStep}
use Rattle.whole_paths.proofs.Copies.LinkStep.{stays, hands, delivers, is_cut}
use Rattle.whole_paths.proofs.Links.{fewer}
use Rattle.whole_paths.proofs.Subflows.{ack_up}
use Rattle.whole_paths.proofs.Waiting.{fell_third, item_timed, keys_third, mode_third, owes_same, syn_so}

-- ---- an end

pub record Third (e f : PathEnd) : Type 0 where
  pub owed : f.modes.owes_third ≡ true → (e.modes.owes_third ≡ true) ⊎ ((stage e.tcp.state ≤ 1) × (3 ≤ stage f.tcp.state))

same_third : (e f : PathEnd) → f.modes.owes_third ≡ e.modes.owes_third → Third e f
same_third e f same = record { owed = λ is. inl (sym same ∙ is) }

-- a copy that arrives
module _ (c : Profile) (s : Side) (now : ℕ) (h : HeardSegment) (e : PathEnd) where
  abbrev heard_as : Meaning → PathEnd
  heard_as m = copy_judged (is_joined c) (held_of c s h) (reset_for c s h) s now h m e

  copy_third : (m : Meaning) → ((pos : ℕ) → m ≡ means.Accepts pos → e.tcp.state ≡ phase.SynSent) → Third e (heard_as m)
  copy_third (means.Accepts pos) syn =
      let ready : EndState = record (after_hearing (after_payload 1 (hint_of (items_of (is_joined c) s h)) (copy_of h) e.tcp)) { state = phase.Established } in
      let up = ack_up pos now ready in record { owed = λ is. inr (subst (λ x. stage x ≤ 1) (sym (syn pos refl)) (le_refl 1), up.state) }
  copy_third m syn = same_third e (heard_as m) (owes_same (is_joined c) (items_of (is_joined c) s h) m h.options (with_payload m h.payload e.tcp).state e.modes refl)

opens_third : (keys : Option KeyPair) (e : PathEnd) → Third e (opened_by keys e)
opens_third None e = same_third e e refl
opens_third (Some keys) e = same_third e (opened_by (Some keys) e) refl

only_third : (w : EndWrites) (e f : PathEnd) → w.owes_third ≡ false → Only w e f → Third e f
only_third w e f owes x = same_third e f (unwritten w.owes_third e.modes.owes_third f.modes.owes_third owes (ap (λ (v : EndView). v.owes_third) x.same))

died_third : (e : PathEnd) (dead : Bool) → Third e (if dead then e else died e)
died_third e true = same_third e e refl
died_third e false = same_third e (died e) refl

-- ---- a count of segments goes up by one, or stands still at the greatest one

unused_less : (from : Side) (count : ℕ) (lines : List ScriptLine) → count ≤ 2 ^ 64 - 1 → unused from (counted count) lines ≤ unused from count lines
unused_less from count lines most = ⊎_elim
    (λ few. (let next : counted count ≡ suc count = omega (arith, few) in subst (λ n. unused from n lines ≤ unused from count lines) (sym next) (fewer from count lines)))
    (λ all. (let same : counted count ≡ count = omega (arith, all, most) in subst (λ n. unused from n lines ≤ unused from count lines) (sym same) (le_refl (unused from count lines))))
    (cases_lt count (2 ^ 64 - 1))

-- ---- a path

module _ {C : Type 0} where
  pub record Thirds (p q : PathState C) : Type 0 where
    pub a : Third p.a q.a
    pub b : Third p.b q.b

  -- the end of this side becomes that one
  side : (s : Side) (e : PathEnd) (p q : PathState C) → Third (end_at s p) e → q.a ≡ (goes_on s e [] p).a → q.b ≡ (goes_on s e [] p).b → Thirds p q
  side A e p q x same_a same_b = record { a = subst (Third p.a) (sym same_a) x; b = subst (Third p.b) (sym same_b) (same_third p.b p.b refl) }
  side B e p q x same_a same_b = record { a = subst (Third p.a) (sym same_a) (same_third p.a p.a refl); b = subst (Third p.b) (sym same_b) x }

  -- where it doesn't change at that end
  same_at : (s : Side) (e : PathEnd) (p q : PathState C) → q.a ≡ (goes_on s e [] p).a → q.b ≡ (goes_on s e [] p).b → e.modes.owes_third ≡ (end_at s p).modes.owes_third → Thirds p q
  same_at s e p q same_a same_b same = side s e p q (same_third (end_at s p) e same) same_a same_b

  rest : (p q : PathState C) → q.a ≡ p.a → q.b ≡ p.b → Thirds p q
  rest p q same_a same_b = same_at A p.a p q same_a same_b refl

  either : (b : Bool) (q r p : PathState C) → Thirds p q → Thirds p r → Thirds p (if b then q else r)
  either true q r p x y = x
  either false q r p x y = y

  from_there : (p q r : PathState C) → q.a ≡ p.a → q.b ≡ p.b → Thirds q r → Thirds p r
  from_there p q r a b x = record { a = subst (λ e. Third e r.a) a x.a; b = subst (λ e. Third e r.b) b x.b }

  plain : (s : Side) (w : Writes) (p q : PathState C) → w.own.owes_third ≡ false → w.other.owes_third ≡ false → OnlyAt s w p q → Thirds p q
  plain s w p q own other x =
      let both = both_ends (λ e f. Third e f) s w p q (λ e f only. only_third w.own e f own only) (λ e f only. only_third w.other e f other only) x in record { a = both.0; b = both.1 }

  -- ---- replies

  break_third : (k : Codec C) (s : Side) (reason : ℕ) (r : Reply) (p : PathState C) → Thirds p (answered_break k s reason r p)
  break_third k s reason r p = either (end_at s p).treated.asked _ _ p (same_at s _ p _ refl refl refl) (same_at s _ p _ refl refl refl)

  thing_third : (k : Codec C) (s : Side) (item : Heard) (r : Reply) (p : PathState C) → Thirds p (answered_heard k s item r p)
  thing_third k s (says.DataAck next window) r p = same_at s _ p _ refl refl refl
  thing_third k s (says.Mapping fin) r p =
      either (is_clash (end_at s p)) _ _ p (break_third k s 1 r p) (same_at s _ p _ refl refl (fell_third falls.MappingHeard r (end_at s p).modes))
  thing_third k s (says.DataFin place) r p = same_at s _ p _ refl refl (fell_third falls.MappingHeard r (end_at s p).modes)
  thing_third k s (says.InfiniteMapping place position) r p =
      let e = end_at s p in side s _ p _ (infinite_came_so (λ f. Third e f) place position r e (λ other. same_third e _ (mode_third r e.modes))) refl refl
  thing_third k s (says.Keys own peer) r p = same_at s _ p _ refl refl (keys_third r _ (end_at s p).modes)
  thing_third k s (says.Notice notice) r p = same_at s _ p _ refl refl refl
  thing_third k s says.Fail r p =
      fail_answered_so (Thirds p) s r p (same_at s _ p _ refl refl refl) (same_at s _ p _ refl refl (fell_third (falls.FailHeard false) r (end_at s p).modes))
  thing_third k s _ r p = rest p _ refl refl

  things_third : (k : Codec C) (s : Side) (item : Option Heard) (r : Reply) (p : PathState C) → Thirds p (answered_item k s item r p)
  things_third k s None r p = rest p _ refl refl
  things_third k s (Some item) r p = thing_third k s item r p

  -- ---- events

  begun_third : (r : Reply) (dead living : List Duty) (p : PathState C) → Thirds p (join_begun r dead living p)
  begun_third r dead living p =
      either (is_never r) (goes_on A (never_joined r (end_at A p)) dead p) (goes_on A (opened_by (keys_begun r) (end_at A p)) living p) p
      (same_at A _ p _ refl refl refl) (side A (opened_by (keys_begun r) p.a) p _ (opens_third (keys_begun r) p.a) refl refl)

  line_third : (action : LineAction) (p : PathState C) → Thirds p (after_line action p)
  line_third actions.Die p = record { a = died_third p.a (is_dead p.a.tcp.state); b = died_third p.b (is_dead p.b.tcp.state) }
  line_third (actions.Prio s backup) p = same_at s _ p _ refl refl refl
  line_third (actions.Announce s id) p = rest p _ refl refl
  line_third (actions.Withdraw s id) p = rest p _ refl refl

  heard_third : (s : Side) (o : Option HeardSegment) (p : PathState C) → Thirds p (copy_heard s o p)
  heard_third s None p = rest p _ refl refl
  heard_third s (Some heard) p =
      let e : PathEnd = end_at s p in
      let h : HeardSegment = options_heard e heard in
      let joined : Bool = is_joined p.profile in
      let m : Meaning = taken_as (judged_in joined s h e) in
      let taken : IsTakenAs m (copy_of h) e.tcp = judged_taken h.rst (items_of joined s h) e (λ n. IsTakenAs n (copy_of h) e.tcp) (inl refl) joined (meaning_of (copy_of h) e.tcp) (inr refl) in
      let f : PathEnd = after_judged p.profile s p.clock h (judged_in joined s h e) e in
      let x : Third e f = copy_third p.profile s p.clock h e m (λ pos is. syn_so (copy_of h) e.tcp m pos taken is) in
      side s f p (copy_heard s (Some heard) p) x refl refl

  happens_third : (k : Codec C) (o : Option Event) (r : Reply) (p : PathState C) → Thirds p (happens_if k o r p)
  happens_third k None r p = rest p _ refl refl
  happens_third k (Some (happenings.Joins tick)) r p =
      let q : PathState C = record (at_tick tick p) { joined_at = None } in from_there p q _ refl refl (begun_third r (leaves A) (emission A) q)
  happens_third k (Some (happenings.Takes line)) r p =
      let q : PathState C = record (at_tick line.tick p) { lines = tail_of p.lines } in from_there p q _ refl refl (line_third line.action q)
  happens_third k (Some (happenings.Arrives due)) r p =
      let q : PathState C = record (at_tick due.tick p) { link = after_delivery due p.link } in
      from_there p q _ refl refl (heard_third due.to (heard_in k due.to (arriving due p.link) p) q)
  happens_third k (Some (happenings.Fires s tick)) r p = same_at s _ p _ refl refl refl

  -- ---- any duty

  pub answered_third : (k : Codec C) (d : Duty) (r : Reply) (p : PathState C) → Thirds p (answered k d r p)
  answered_third k (duties.Step step_duties.Events) r p = happens_third k (next_event p) r p
  answered_third k (duties.Step (step_duties.Heard s index)) r p = things_third k s (item_of index (end_at s p)) r p
  answered_third k (duties.Ask ask_duties.JoinAgain) r p = begun_third r _ _ p
  answered_third k (duties.Send (send_duties.Update s)) r p = same_at s _ p _ refl refl refl
  answered_third k (duties.Silent d) r p = rest p _ refl refl
  answered_third k d r p = plain (side_of d) (writes d) p (answered k d r p) refl refl (writes_no_more k d r p)

  pub passed_third : (d : Duty) (p : PathState C) → Thirds p (passed d p)
  passed_third (duties.Step step_duties.Events) p = rest p _ refl refl
  passed_third (duties.Step (step_duties.Heard s index)) p =
      let e : PathEnd = end_at s p in let f : PathEnd = item_passed s (item_of index e) e in
      let x = item_timed s (item_of index e) e in side s f p (passed (duties.Step (step_duties.Heard s index)) p) (record { owed = λ is. inl (x.third is) }) refl refl
  passed_third (duties.Ask ask_duties.JoinAgain) p = rest p _ refl refl
  passed_third (duties.Send (send_duties.Update s)) p = rest p _ refl refl
  passed_third (duties.Silent (silent_duties.Timer s)) p =
      plain s (writes (duties.Silent (silent_duties.Timer s))) p _ refl refl (passes_no_more (duties.Silent (silent_duties.Timer s)) p)
  passed_third d p = plain (side_of d) (writes d) p (passed d p) refl refl (passes_no_more d p)

  -- ---- lines by which segments are lost or late

  -- counts that a link can come to
  pub record IsCounted (l : LinkState C) : Type 0 where
    pub a : l.from_a ≤ 2 ^ 64 - 1
    pub b : l.from_b ≤ 2 ^ 64 - 1

  pub record HarmsFall (l m : LinkState C) : Type 0 where
    pub counted : IsCounted m
    pub fewer : harms_left m ≤ harms_left l

  pub link_harms : (k : Codec C) (d : Duty) (p q : PathState C) → LinkStep d k p q → IsCounted p.link → HarmsFall p.link q.link
  link_harms k d p q (stays is) h = subst (HarmsFall p.link) (sym is) (record { counted = h; fewer = le_refl (harms_left p.link) })
  link_harms k d p q (hands A carried size clock is) h = subst (HarmsFall p.link) (sym is) (record {
    counted = record { a = omega arith; b = h.b };
    fewer = (let less = unused_less A p.link.from_a p.link.lines h.a in omega (arith, less));
  })
  link_harms k d p q (hands B carried size clock is) h = subst (HarmsFall p.link) (sym is) (record {
    counted = record { a = h.a; b = omega arith };
    fewer = (let less = unused_less B p.link.from_b p.link.lines h.b in omega (arith, less));
  })
  link_harms k d p q (delivers event due next is) h = subst (HarmsFall p.link) (sym is) (record { counted = record { a = h.a; b = h.b }; fewer = le_refl (harms_left p.link) })
  link_harms k d p q (is_cut line next is cut dead) h = subst (HarmsFall p.link) (sym cut) (record { counted = record { a = h.a; b = h.b }; fewer = le_refl (harms_left p.link) })
