-- By what an end dies: each duty leaves an end alive but those that are named, and an event does but for an expiry, a line and a reset.
use Rattle.std.proofs.Common.{inl, inr, ◌⊎◌, ◌≡◌, refl, sym, subst, ap, ◌∙◌, ℕ, ◌+◌, nat_le, Bool, true, false, true≢false, if◌then◌else◌, Option, Some, None, List, [], ◌∷◌}
use Rattle.std.proofs.lemmas.Bool.{leb-true, both_ways}
use Rattle.path_segments.specs.Heard.{HeardSegment}
use Rattle.sides.specs.declared.side.Side.{Side}
use Rattle.sides.specs.declared.side.Side.TheVariants.{A, B}
use Rattle.link_model.specs.Steps.{arriving, after_delivery}
use Rattle.subflow_send.specs.declared.record.AckKind.TheVariants.{New, Duplicate, Old, Future}
use Rattle.subflow_send.specs.Rules.{ack_kind, sample_of, after_acknowledge}
use Rattle.subflow_tcp.specs.declared.handshake.State.TheVariants as phase
use Rattle.subflow_tcp.specs.declared.segments.Hint.{Hint}
use Rattle.subflow_tcp.specs.declared.verdicts.Meaning.{Meaning}
use Rattle.subflow_tcp.specs.declared.verdicts.Meaning.TheVariants as means
use Rattle.subflow_tcp.specs.Expiring.{after_expiry, after_fire, is_sixth}
use Rattle.subflow_tcp.specs.Judging.{meaning_of}
use Rattle.subflow_tcp.specs.Segments.{Copy}
use Rattle.subflow_tcp.specs.State.{EndState}
use Rattle.subflow_tcp.specs.States.{is_dead}
use Rattle.subflow_tcp.specs.Taking.{after_payload, after_ack_kind, after_acknowledgement, is_duplicate, after_duplicate, after_interruption, told_by, after_telling, after_heard_ack, after_established, after_hearing, after_arrival, after_death, after_holding}
use Rattle.actor_desk.specs.declared.ask.Reply.{Reply}
use Rattle.actor_desk.specs.Words.{tail_of, is_nil}
use Rattle.path_agenda.specs.declared.duty.Duty.{Duty}
use Rattle.path_agenda.specs.declared.duty.Duty.TheVariants as duties
use Rattle.path_agenda.specs.declared.duty.AskDuty.TheVariants as ask_duties
use Rattle.path_agenda.specs.declared.duty.SendDuty.TheVariants as send_duties
use Rattle.path_agenda.specs.declared.duty.SilentDuty.TheVariants as silent_duties
use Rattle.path_agenda.specs.declared.duty.StepDuty.TheVariants as step_duties
use Rattle.path_agenda.specs.declared.heard.Heard.{Heard}
use Rattle.path_agenda.specs.declared.heard.Heard.TheVariants as says
use Rattle.path_agenda.specs.declared.keys.KeyPair.{KeyPair}
use Rattle.path_store.specs.declared.lines.LineAction.{LineAction}
use Rattle.path_store.specs.declared.lines.LineAction.TheVariants as actions
use Rattle.path_core.specs.Arrival.{judged_in, after_judged, copy_heard, heard_in, copy_of, copy_judged, reset_for, owing_if, with_payload}
use Rattle.path_core.specs.OptionsIn.{items_of, options_heard, hint_of, owes_by}
use Rattle.path_core.specs.Judged.{taken_as}
use Rattle.path_core.specs.Codec.{Codec}
use Rattle.path_core.specs.Deliver.{after_pieces}
use Rattle.path_core.specs.DssIn.{counts, is_clash, held_of, with_learned, with_skipped, with_data_fin}
use Rattle.path_core.specs.Duties.{passed, answered}
use Rattle.path_core.specs.End.{PathEnd}
use Rattle.path_core.specs.Events.{next_event, after_line, happens_if}
use Rattle.path_core.specs.Fallback.{breaks_by_ack, with_plain_ack}
use Rattle.path_core.specs.MpJoin.{is_joined, keys_begun}
use Rattle.path_core.specs.Profile.{Profile}
use Rattle.path_core.specs.State.{PathState, at_tick, end_at, goes_on, with_end}
use Rattle.path_core.specs.Steps.{begins_turn, next_round, takes}
use Rattle.path_core.specs.Treating.{item_passed, answered_heard, answered_item, item_of}
use Rattle.path_core.specs.declared.events.Event.{Event}
use Rattle.path_core.specs.declared.events.Event.TheVariants as happenings
use Rattle.world_laws.specs.declared.member.Member.TheVariants.{App, Path}
use Rattle.world_laws.specs.Actors.{Actor, member_takes, member_next}
use Rattle.world_laws.specs.StampedBooks.{answer_to}
use Rattle.world_laws.specs.Writes.{EndWrites, EndView, Writes, Only, OnlyAt, nothing, writes, side_of}
use Rattle.world_laws.proofs.Falls.FailedChecks.{infinite_came_so, fail_answered_so}
use Rattle.world_laws.proofs.Writes.Paths.{writes_no_more, passes_no_more}
use Rattle.world_laws.proofs.Writes.Steps.{Lasts, unwritten, both_ends, settled_lasts, begins_lasts}
use Rattle.link_model.specs.declared.flight.Due.{Due}
use Rattle.subflow_tcp.specs.declared.handshake.State.{State}
use Rattle.subflow_tcp.specs.Closing.{is_fin_next, after_passing_fin}
use Rattle.path_core.specs.DataFin.{after_pass_fin}
use Rattle.path_core.specs.MpJoin.{asked_at, is_listening, join_taken, syn_of_window}
use Rattle.subflow_tcp.specs.Taking.{after_syn, unkept}
use Rattle.join_handshake.specs.declared.hearing.JoinSyn.{JoinSyn}
use Rattle.subflow_tcp.specs.States.{after_finish, after_fin_acked, after_fin_passed, after_handshake}
use Rattle.subflow_tcp.specs.Taking.{is_fin_acked}
use Rattle.path_core.specs.Arrival.{IsTakenAs}
use Rattle.path_core.proofs.Judgements.{judged_taken}
use Rattle.whole_paths.specs.Deaths.{is_fatal, DiesBy, EndsDie, EndsDieOfTheirCauses}
use Rattle.whole_paths.specs.Deaths.{DiesBy as dies}
use Rattle.whole_paths.proofs.Turns.{turn_each}

-- ---- the state

fin_acked : (state : State) → is_dead (after_fin_acked state) ≡ is_dead state
fin_acked phase.FinWait1 = refl
fin_acked phase.Closing = refl
fin_acked _ = refl

fin_passed : (state : State) → is_dead (after_fin_passed state) ≡ is_dead state
fin_passed phase.Established = refl
fin_passed phase.FinWait1 = refl
fin_passed phase.FinWait2 = refl
fin_passed _ = refl

pub finished : (state : State) → is_dead (after_finish state) ≡ is_dead state
finished phase.Established = refl
finished phase.CloseWait = refl
finished _ = refl

opened : (state : State) → is_dead (after_handshake state) ≡ is_dead state
opened phase.SynReceived = refl
opened _ = refl

-- an end that isn't dead before isn't either
abbrev Lives : EndState → EndState → Type 0
Lives s t = is_dead s.state ≡ false → is_dead t.state ≡ false

ack_lives : (pos now : ℕ) (s : EndState) → is_dead (after_acknowledgement pos now s).state ≡ is_dead s.state
ack_lives pos now s = elim (ack_kind pos s.send) as (λ kind. is_dead (after_ack_kind kind (sample_of pos s.send) now (record s { send = after_acknowledge pos s.send })).state ≡ is_dead s.state) [
  | New octets ↦ (elim (is_fin_acked (after_acknowledge pos s.send)) as (λ b. is_dead (if b then after_fin_acked s.state else s.state) ≡ is_dead s.state) [ true ↦ fin_acked s.state | false ↦ refl ])
  | Duplicate ↦ refl
  | Old ↦ refl
  | Future ↦ refl
]

heard_ack_lives : (pos : ℕ) (hint : Hint) (now : ℕ) (c : Copy) (s : EndState) → is_dead (after_heard_ack pos hint now c s).state ≡ is_dead s.state
heard_ack_lives pos hint now c s = elim (is_duplicate (ack_kind pos s.send) (told_by hint c) c acked) as (λ b. is_dead (after_telling (told_by hint c) (if b then after_duplicate acked else after_interruption acked)).state ≡ is_dead s.state)
    [ true ↦ ack_lives pos now s | false ↦ ack_lives pos now s ]
  where
    acked : EndState
    acked = after_acknowledgement pos now s

abbrev pub is_kill : Meaning → Bool
is_kill means.Kills = true
is_kill _ = false

arrived_lives : (m : Meaning) (hint : Hint) (now : ℕ) (c : Copy) (s : EndState) → is_kill m ≡ false → Lives s (after_arrival m hint now c s)
arrived_lives means.Kills hint now c s other = absurd (true≢false other)
arrived_lives means.Opens hint now c s other = λ living. refl
arrived_lives (means.Accepts acknowledged) hint now c s other = λ living. ack_lives acknowledged now (record (after_hearing (after_payload 1 hint c s)) { state = phase.Established })
arrived_lives (means.Taken pos acknowledged) hint now c s other = λ living.
    heard_ack_lives acknowledged hint now c (after_established (after_hearing (after_payload pos hint c s))) ∙ opened s.state ∙ living
arrived_lives _ hint now c s other = λ living. living

held_lives : (m n : Meaning) (octets : List ℕ) (hint : Hint) (now : ℕ) (c : Copy) (s : EndState) → is_kill n ≡ false → Lives s (after_arrival n hint now c (with_payload m octets s))
held_lives (means.Taken pos acknowledged) n octets hint now c s other = by (is_nil octets)
  where
    by : (b : Bool) → Lives s (after_arrival n hint now c (if b then s else after_holding pos octets s))
    by true = arrived_lives n hint now c s other
    by false = arrived_lives n hint now c (after_holding pos octets s) other
held_lives _ n octets hint now c s other = arrived_lives n hint now c s other

owing_lives : (b : Bool) (s t : EndState) → Lives s t → Lives s (owing_if b t)
owing_lives false s t h = h
owing_lives true s t h = h

-- ---- an end

pub record Spared (e f : PathEnd) : Type 0 where
  pub living : is_dead e.tcp.state ≡ false → is_dead f.tcp.state ≡ false

pub spared : (e f : PathEnd) → is_dead f.tcp.state ≡ is_dead e.tcp.state → Spared e f
spared e f same = record { living = λ living. same ∙ living }

pub rests : (e : PathEnd) → Spared e e
rests e = spared e e refl

pub spared_then : (e f g : PathEnd) → Spared e f → Spared f g → Spared e g
spared_then e f g x y = record { living = λ living. y.living (x.living living) }

only_spared : (w : EndWrites) (e f : PathEnd) → w.phase ≡ false → Only w e f → Spared e f
only_spared w e f same x = spared e f (ap is_dead (unwritten w.phase e.tcp.state f.tcp.state same (ap (λ (v : EndView). v.phase) x.same)))

pub judged_spared : (c : Profile) (s : Side) (now : ℕ) (h : HeardSegment) (e : PathEnd) (m : Meaning) → is_kill m ≡ false → Spared e (copy_judged (is_joined c) (held_of c s h) (reset_for c s h) s now h m e)
judged_spared c s now h e m other =
    let items : List Heard = items_of (is_joined c) s h in
    record {
      living = owing_lives (owes_by m items) e.tcp (after_arrival m (hint_of items) now (copy_of h) (with_payload m h.payload e.tcp))
          (held_lives m m h.payload (hint_of items) now (copy_of h) e.tcp other);
    }

abbrev by_event : Duty
by_event = duties.Step step_duties.Events

-- ---- a path

module _ {C : Type 0} (k : Codec C) where
  -- an end is spared, or it dies so
  abbrev Fate : Side → PathState C → PathState C → Type 0
  Fate t p q = Spared (end_at t p) (end_at t q) ⊎ DiesBy k t p

  pub record BothSpared (p q : PathState C) : Type 0 where
    pub a : Spared p.a q.a
    pub b : Spared p.b q.b

  pub side : (s : Side) (e : PathEnd) (p q : PathState C) → Spared (end_at s p) e → q.a ≡ (goes_on s e [] p).a → q.b ≡ (goes_on s e [] p).b → BothSpared p q
  side A e p q x same_a same_b = record { a = subst (Spared p.a) (sym same_a) x; b = subst (Spared p.b) (sym same_b) (rests p.b) }
  side B e p q x same_a same_b = record { a = subst (Spared p.a) (sym same_a) (rests p.a); b = subst (Spared p.b) (sym same_b) x }

  pub both_rest : (p q : PathState C) → q.a ≡ p.a → q.b ≡ p.b → BothSpared p q
  both_rest p q same_a same_b = record { a = subst (Spared p.a) (sym same_a) (rests p.a); b = subst (Spared p.b) (sym same_b) (rests p.b) }

  pub plain : (s : Side) (w : Writes) (p q : PathState C) → w.own.phase ≡ false → w.other ≡ nothing → OnlyAt s w p q → BothSpared p q
  plain s w p q same none x = record { a = h.0; b = h.1 }
    where
      h : Spared p.a q.a × Spared p.b q.b
      h = both_ends (λ e f. Spared e f) s w p q (λ e f only. only_spared w.own e f same only)
          (λ e f only. only_spared nothing e f refl (subst (λ v. Only v e f) none only)) x

  ends : (p q : PathState C) → BothSpared p q → (t : Side) → Fate t p q
  ends p q x A = inl x.a
  ends p q x B = inl x.b

  pub from_there : (p q r : PathState C) → q.a ≡ p.a → q.b ≡ p.b → BothSpared q r → BothSpared p r
  from_there p q r a b x = record { a = subst (λ e. Spared e r.a) a x.a; b = subst (λ e. Spared e r.b) b x.b }

  -- ---- replies

  -- a break is fatal where it is one
  abbrev Fatal : Duty → PathState C → PathState C → Type 0
  Fatal d p q = BothSpared p q ⊎ (is_fatal p d ≡ true)

  either_fatal : (b c : Bool) → c ≡ b → (q r p : PathState C) → BothSpared p r → BothSpared p (if b then q else r) ⊎ (c ≡ true)
  either_fatal true c is q r p x = inr is
  either_fatal false c is q r p x = inl x

  thing_spared : (s : Side) (index : ℕ) (item : Heard) (r : Reply) (p : PathState C) → Fatal (duties.Step (step_duties.Heard s index)) p (answered_heard k s item r p)
  thing_spared s index (says.DataAck next window) r p = inl (side s _ p _ (spared _ _ refl) refl refl)
  thing_spared s index (says.Mapping fin) r p =
      either_fatal (is_clash (end_at s p)) (is_clash (end_at s p)) refl _ _ p (side s _ p _ (spared _ _ refl) refl refl)
  thing_spared s index (says.DataFin place) r p = inl (side s _ p _ (spared _ _ refl) refl refl)
  thing_spared s index (says.InfiniteMapping place position) r p =
      let e = end_at s p in inl (side s _ p _ (infinite_came_so (λ f. Spared e f) place position r e (λ other. spared e _ refl)) refl refl)
  thing_spared s index (says.Keys own peer) r p = inl (side s _ p _ (spared _ _ refl) refl refl)
  thing_spared s index (says.Notice notice) r p = inl (side s _ p _ (spared _ _ refl) refl refl)
  thing_spared s index says.Fail r p = inl (fail_answered_so (BothSpared p) s r p (side s _ p _ (spared _ _ refl) refl refl) (side s _ p _ (spared _ _ refl) refl refl))
  thing_spared s index _ r p = inl (both_rest p _ refl refl)

  things_spared : (s : Side) (index : ℕ) (item : Option Heard) (r : Reply) (p : PathState C) → Fatal (duties.Step (step_duties.Heard s index)) p (answered_item k s item r p)
  things_spared s index None r p = inl (both_rest p _ refl refl)
  things_spared s index (Some item) r p = thing_spared s index item r p

  plain_ack_spared : (s : Side) (r : Reply) (p : PathState C) → Fatal (duties.Step (step_duties.PlainAck s)) p (answered k (duties.Step (step_duties.PlainAck s)) r p)
  plain_ack_spared s r p =
      either_fatal (breaks_by_ack p.profile (end_at s p)) (breaks_by_ack p.profile (end_at s p)) refl _ _ p (side s _ p _ (spared _ _ refl) refl refl)

  syn_spared : (window : ℕ) (e : PathEnd) (f : PathEnd) → f.tcp ≡ (if is_listening e.tcp.state then after_syn (unkept None) (syn_of_window window) e.tcp else e.tcp) → Spared e f
  syn_spared window e f same = by (is_listening e.tcp.state) same
    where
      by : (b : Bool) → f.tcp ≡ (if b then after_syn (unkept None) (syn_of_window window) e.tcp else e.tcp) → Spared e f
      by true same = record { living = λ living. ap (λ (s : EndState). is_dead s.state) same }
      by false same = spared e f (ap (λ (s : EndState). is_dead s.state) same)

  pub joins_spared : (s : Side) (keys : Option KeyPair) (asked : Option JoinSyn) (r : Reply) (p : PathState C) → BothSpared p (join_taken s keys asked r p)
  joins_spared s (Some keys) (Some asked) r p = side s _ p _ (syn_spared (end_at s p).treated.window (end_at s p) _ refl) refl refl
  joins_spared s None (Some asked) r p = side s _ p _ (spared _ _ refl) refl refl
  joins_spared s (Some keys) None r p = both_rest p _ refl refl
  joins_spared s None None r p = both_rest p _ refl refl

  -- ---- events

  fires_fate : (s : Side) (tick : ℕ) (others : List Duty) (p : PathState C) → p.agenda ≡ by_event ∷ others → next_event p ≡ Some (happenings.Fires s tick) → (now : ℕ) (f : PathEnd)
      → f ≡ record (end_at s p) { tcp = after_fire now (end_at s p).tcp } → Spared (end_at s p) f ⊎ DiesBy k s p
  fires_fate s tick others p first next now f same = by (is_sixth (end_at s p).tcp) refl same
    where
      by : (b : Bool) → nat_le 5 (end_at s p).tcp.timing.expiries ≡ b → f ≡ record (end_at s p) { tcp = if b then after_death true (end_at s p).tcp else after_expiry now (end_at s p).tcp }
          → Spared (end_at s p) f ⊎ DiesBy k s p
      by true is same = inr (dies.sixth tick (record { next = next; others = others; first = first }) (leb-true 5 (end_at s p).tcp.timing.expiries is))
      by false is same = inl (spared _ f (ap (λ (e : PathEnd). is_dead e.tcp.state) same))

  same_end : (s : Side) (p q : PathState C) → q.a ≡ p.a → q.b ≡ p.b → end_at s q ≡ end_at s p
  same_end A p q a b = a
  same_end B p q a b = b

  -- the end at which no copy arrives
  other_end : (s t : Side) (p q : PathState C) (e : PathEnd) → q.a ≡ p.a → q.b ≡ p.b → (s ≡ t → DiesBy k t p) → Fate t p (goes_on s e [] q)
  other_end A A p q e a b own = inr (own refl)
  other_end A B p q e a b own = inl (subst (λ f. Spared f q.b) b (rests q.b))
  other_end B A p q e a b own = inl (subst (λ f. Spared f q.a) a (rests q.a))
  other_end B B p q e a b own = inr (own refl)

  kill_is : (m n : Meaning) → is_kill m ≡ true → (m ≡ means.Ignored) ⊎ (m ≡ n) → n ≡ means.Kills
  kill_is means.Kills n kills (inl is) = absurd (true≢false (ap is_kill is))
  kill_is means.Kills n kills (inr is) = sym is
  kill_is _ n kills is = absurd (true≢false (sym kills))

  heard_fate : (s : Side) (due : Due) (p q : PathState C) → next_event p ≡ Some (happenings.Arrives due) → due.to ≡ s → q.a ≡ p.a → q.b ≡ p.b → (o : Option HeardSegment)
      → heard_in k s (arriving due p.link) p ≡ o → (t : Side) → Fate t p (copy_heard s o q)
  heard_fate s due p q next to a b None is t = ends p (copy_heard s None q) (from_there p q (copy_heard s None q) a b (both_rest q (copy_heard s None q) refl refl)) t
  heard_fate s due p q next to a b (Some heard) is t = by (is_kill m) refl
    where
      e : PathEnd
      e = end_at s q

      h : HeardSegment
      h = options_heard e heard

      m : Meaning
      m = taken_as (judged_in (is_joined q.profile) s h e)

      taken : IsTakenAs m (copy_of h) e.tcp
      taken = judged_taken h.rst (items_of (is_joined q.profile) s h) e (λ n. IsTakenAs n (copy_of h) e.tcp) (inl refl) (is_joined q.profile) (meaning_of (copy_of h) e.tcp) (inr refl)

      by : (b : Bool) → is_kill m ≡ b → Fate t p (copy_heard s (Some heard) q)
      by false other = ends p (copy_heard s (Some heard) q) (from_there p q (copy_heard s (Some heard) q) a b
          (side s (after_judged q.profile s q.clock h (judged_in (is_joined q.profile) s h e) e) q (copy_heard s (Some heard) q) (judged_spared q.profile s q.clock h e m other) refl refl)) t
      by true kills = other_end s t p q (after_judged q.profile s q.clock h (judged_in (is_joined q.profile) s h e) e) a b
          (λ same. subst (λ x. DiesBy k x p) same
          (dies.reset due next to heard is (subst (λ (f : PathEnd). meaning_of (copy_of (options_heard f heard)) f.tcp ≡ means.Kills) (same_end s p q a b) (kill_is m (meaning_of (copy_of h) e.tcp) kills taken))))

  event_fate : (o : Option Event) (others : List Duty) (r : Reply) (p : PathState C) → p.agenda ≡ by_event ∷ others → next_event p ≡ o → (t : Side) → Fate t p (happens_if k o r p)
  event_fate None others r p first next t = ends p (happens_if k None r p) (both_rest p (happens_if k None r p) refl refl) t
  event_fate (Some (happenings.Joins tick)) others r p first next t = inr (dies.joins tick next)
  event_fate (Some (happenings.Takes line)) others r p first next t = by line.action refl
    where
      x : PathState C
      x = record (at_tick line.tick p) { lines = tail_of p.lines }

      by : (action : LineAction) → line.action ≡ action → Fate t p (after_line action x)
      by actions.Die is = inr (dies.line line next is)
      by (actions.Prio s backup) is = ends p (after_line (actions.Prio s backup) x) (from_there p x _ refl refl (side s _ x (after_line (actions.Prio s backup) x) (spared _ _ refl) refl refl)) t
      by (actions.Announce s id) is = ends p (after_line (actions.Announce s id) x) (both_rest p _ refl refl) t
      by (actions.Withdraw s id) is = ends p (after_line (actions.Withdraw s id) x) (both_rest p _ refl refl) t
  event_fate (Some (happenings.Arrives due)) others r p first next t =
      heard_fate due.to due p (record (at_tick due.tick p) { link = after_delivery due p.link }) next refl refl refl (heard_in k due.to (arriving due p.link) p) refl t
  event_fate (Some (happenings.Fires A tick)) others r p first next A = fires_fate A tick others p first next (at_tick tick p).clock _ refl
  event_fate (Some (happenings.Fires A tick)) others r p first next B = inl (rests p.b)
  event_fate (Some (happenings.Fires B tick)) others r p first next A = inl (rests p.a)
  event_fate (Some (happenings.Fires B tick)) others r p first next B = fires_fate B tick others p first next (at_tick tick p).clock _ refl

  -- ---- any duty

  fatal : (d : Duty) (others : List Duty) (p q : PathState C) → p.agenda ≡ d ∷ others → Fatal d p q → (t : Side) → Fate t p q
  fatal d others p q first (inl x) = ends p q x
  fatal d others p q first (inr is) = λ t. inr (dies.duty d others first is)

  answered_fate : (d : Duty) (others : List Duty) (r : Reply) (p : PathState C) → p.agenda ≡ d ∷ others → (t : Side) → Fate t p (answered k d r p)
  answered_fate (duties.Step step_duties.Events) others r p first = event_fate (next_event p) others r p first refl
  answered_fate (duties.Ask ask_duties.JoinAgain) others r p first = λ t. inr (dies.duty _ others first refl)
  answered_fate (duties.Ask (ask_duties.LeaveNoted s)) others r p first = λ t. inr (dies.duty _ others first refl)
  answered_fate (duties.Ask (ask_duties.JoinHeard s)) others r p first = ends p (answered k (duties.Ask (ask_duties.JoinHeard s)) r p) (joins_spared s (keys_begun r) (asked_at s p) r p)
  answered_fate (duties.Step (step_duties.Heard s index)) others r p first = fatal (duties.Step (step_duties.Heard s index)) others p _ first (things_spared s index (item_of index (end_at s p)) r p)
  answered_fate (duties.Step (step_duties.PlainAck s)) others r p first = fatal (duties.Step (step_duties.PlainAck s)) others p _ first (plain_ack_spared s r p)
  answered_fate (duties.Step (step_duties.Unmapped s)) others r p first = λ t. inr (dies.duty _ others first refl)
  answered_fate (duties.Send (send_duties.Fin s)) others r p first =
      let q : PathState C = answered k (duties.Send (send_duties.Fin s)) r p in ends p q (side s _ p q (spared _ _ (finished (end_at s p).tcp.state)) refl refl)
  answered_fate (duties.Send (send_duties.BreakReset s reason)) others r p first = λ t. inr (dies.duty _ others first refl)
  answered_fate (duties.Send (send_duties.Reset s)) others r p first = λ t. inr (dies.duty _ others first refl)
  answered_fate (duties.Send (send_duties.ResetNoted s)) others r p first = λ t. inr (dies.duty _ others first refl)
  answered_fate (duties.Silent d) others r p first = let q : PathState C = answered k (duties.Silent d) r p in ends p q (both_rest p q refl refl)
  answered_fate d others r p first =
      let q : PathState C = answered k d r p in ends p q (plain (side_of d) (writes d) p q refl refl (writes_no_more k d r p))

  -- ---- duties that are passed

  own : (s : Side) (e : PathEnd) (p : PathState C) → Spared (end_at s p) e → BothSpared p (with_end s e p)
  own A e p x = record { a = x; b = rests p.b }
  own B e p x = record { a = rests p.a; b = x }

  item_spared : (s : Side) (o : Option Heard) (e : PathEnd) → Spared e (item_passed s o e)
  item_spared s None e = spared _ _ refl
  item_spared s (Some says.Dss) e = spared _ _ refl
  item_spared s (Some (says.Mapping fin)) e = elim (counts e) as (λ b. Spared e (if b then with_learned e else with_skipped e)) [ true ↦ spared _ _ refl | false ↦ spared _ _ refl ]
  item_spared s (Some (says.DataFin place)) e = elim (counts e) as (λ b. Spared e (if b then with_data_fin place e else e)) [ true ↦ spared _ _ refl | false ↦ spared _ _ refl ]
  item_spared s (Some _) e = spared _ _ refl

  fin_spared : (e : PathEnd) → Spared e (after_pass_fin e)
  fin_spared e = elim (is_fin_next e.tcp) as (λ b. Spared e (record e { tcp = if b then after_passing_fin e.tcp else e.tcp })) [ true ↦ spared e _ (fin_passed e.tcp.state) | false ↦ rests e ]

  passed_spared : (d : Duty) (p : PathState C) → BothSpared p (passed d p)
  passed_spared (duties.Silent (silent_duties.PassFin s)) p = own s (after_pass_fin (end_at s p)) p (fin_spared (end_at s p))
  passed_spared (duties.Step (step_duties.Heard s index)) p = own s (item_passed s (item_of index (end_at s p)) (end_at s p)) p (item_spared s (item_of index (end_at s p)) (end_at s p))
  passed_spared (duties.Step (step_duties.PlainAck s)) p = own s (with_plain_ack (end_at s p)) p (spared _ _ refl)
  passed_spared (duties.Step (step_duties.Unmapped s)) p = own s (after_pieces (end_at s p)) p (spared _ _ refl)
  passed_spared (duties.Ask ask_duties.JoinAgain) p = both_rest p p refl refl
  passed_spared (duties.Ask (ask_duties.JoinHeard s)) p = both_rest p p refl refl
  passed_spared (duties.Ask (ask_duties.LeaveNoted s)) p = both_rest p p refl refl
  passed_spared (duties.Step step_duties.Events) p = both_rest p p refl refl
  passed_spared (duties.Send (send_duties.Fin s)) p = both_rest p p refl refl
  passed_spared (duties.Send (send_duties.BreakReset s reason)) p = both_rest p p refl refl
  passed_spared (duties.Send (send_duties.Reset s)) p = both_rest p p refl refl
  passed_spared (duties.Send (send_duties.ResetNoted s)) p = both_rest p p refl refl
  passed_spared d p = plain (side_of d) (writes d) p (passed d p) refl refl (passes_no_more d p)

  pub spared_lasts : Lasts BothSpared
  spared_lasts = record {
    agenda = λ ds p. both_rest p (record p { agenda = ds }) refl refl;
    chains = λ p q r x y. record { a = spared_then p.a q.a r.a x.a y.a; b = spared_then p.b q.b r.b x.b y.b };
    passes = λ d p. passed_spared d p;
  }

  pub at_side : (s : Side) (p q : PathState C) → BothSpared p q → Spared (end_at s p) (end_at s q)
  at_side A p q x = x.a
  at_side B p q x = x.b

  -- ---- a turn

  dies_then : (s : Side) (p q r : PathState C) → Fate s p q → BothSpared q r → is_dead (end_at s p).tcp.state ≡ false → is_dead (end_at s r).tcp.state ≡ true → DiesBy k s p
  dies_then s p q r (inl x) y living dead = absurd (both_ways _ ((at_side s q r y).living (x.living living)) dead)
  dies_then s p q r (inr x) y living dead = x

  takes_die : (r : Reply) (p : PathState C) → EndsDie k (Path p) (Path (takes k r p))
  takes_die r p s = by p.agenda
    where
      by : (ds : List Duty) → let x = record p { agenda = ds } in is_dead (end_at s x).tcp.state ≡ false → is_dead (end_at s (takes k r x)).tcp.state ≡ true → DiesBy k s x
      by [] living dead = absurd (both_ways _ living dead)
      by (d ∷ ds) living dead =
          let x : PathState C = record p { agenda = d ∷ ds } in
          let q : PathState C = answered k d r x in
          dies_then s x q (takes k r x) (answered_fate d ds r x refl s) (settled_lasts BothSpared spared_lasts q.agenda q) living dead

  next_die : (p : PathState C) → EndsDie k (Path p) (Path (next_round p))
  next_die p s living dead =
      let q : PathState C = record p { clock = p.until; until = p.until + 100 } in
      absurd (both_ways _ ((at_side s q (next_round p) (begins_lasts BothSpared spared_lasts q)).living (ap (λ (e : PathEnd). is_dead e.tcp.state) (same_end s p q refl refl) ∙ living)) dead)

  -- an end that lives does so as a turn begins
  pub begins_living : (p : PathState C) (s : Side) → is_dead (end_at s p).tcp.state ≡ false → is_dead (end_at s (begins_turn p)).tcp.state ≡ false
  begins_living p s living = (at_side s p (begins_turn p) (begins_lasts BothSpared spared_lasts p)).living living

  -- ---- the world

  member_takes_die : (r : Reply) (m : Actor C) → EndsDie k m (member_takes k r m)
  member_takes_die r (App a) = tt
  member_takes_die r (Path p) = takes_die r p

  member_begins : (m : Actor C) → EndsDie k m (member_next m)
  member_begins (App a) = tt
  member_begins (Path p) = next_die p

  member_stays : (m : Actor C) → EndsDie k m m
  member_stays (App a) = tt
  member_stays (Path p) = λ s living dead. absurd (both_ways _ living dead)

  pub ends_die_of_their_causes : EndsDieOfTheirCauses k
  ends_die_of_their_causes w turn actor c there = turn_each k (λ c d. EndsDie k c.member d.member) (λ c. member_stays c.member)
      (λ ask books c. member_takes_die (answer_to books ask) c.member) (λ stamp c over. member_begins c.member) turn w actor c there
