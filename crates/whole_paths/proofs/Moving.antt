-- What each duty makes of the octets that an end keeps.
use Rattle.std.proofs.Common.{◌≡◌, refl, sym, subst, ap, ◌∙◌, ⊎_elim, ℕ, ◌+◌, ◌^◌, ◌≤◌, nat_lt, Bool, true, false, true≢false, if◌then◌else◌, Option, Some, None, List, [], ◌∷◌, length, arith}
use Rattle.std.proofs.lemmas.Bool.{and_parts, eqb-true, lt-ltb}
use Rattle.path_segments.specs.Heard.{HeardSegment}
use Rattle.sides.specs.declared.side.Side.{Side}
use Rattle.sides.specs.declared.side.Side.TheVariants.{A, B}
use Rattle.sides.specs.Side.{peer}
use Rattle.join_handshake.specs.declared.hearing.JoinSyn.{JoinSyn}
use Rattle.link_model.specs.Steps.{arriving, after_delivery}
use Rattle.subflow_recv.specs.Receiving.{after_advance, after_hold}
use Rattle.subflow_send.specs.Rules.{ack_kind, after_acknowledge, sample_of}
use Rattle.subflow_send.specs.declared.record.AckKind.TheVariants.{New, Duplicate, Old, Future}
use Rattle.subflow_tcp.specs.declared.handshake.State.TheVariants as phase
use Rattle.subflow_tcp.specs.declared.segments.Hint.{Hint}
use Rattle.subflow_tcp.specs.declared.verdicts.Meaning.{Meaning}
use Rattle.subflow_tcp.specs.declared.verdicts.Meaning.TheVariants as means
use Rattle.subflow_tcp.specs.Closing.{is_fin_next, after_passing_fin}
use Rattle.subflow_tcp.specs.Expiring.{after_expiry, is_sixth}
use Rattle.subflow_tcp.specs.Judging.{is_at}
use Rattle.subflow_tcp.specs.Opening.{after_begin}
use Rattle.subflow_tcp.specs.Segments.{Copy}
use Rattle.subflow_tcp.specs.State.{EndState, is_behind, is_fin_passed}
use Rattle.subflow_tcp.specs.States.{is_waiting}
use Rattle.subflow_tcp.specs.Taking.{after_death, after_syn, unkept, after_ack_kind, after_acknowledgement, is_duplicate, after_duplicate, after_interruption, told_by, after_telling, after_heard_ack, after_hearing, after_payload, after_established, after_taken}
use Rattle.actor_desk.specs.declared.ask.Reply.{Reply}
use Rattle.actor_desk.specs.Words.{tail_of, pick}
use Rattle.path_agenda.specs.Agenda.{emission, leaves, resets}
use Rattle.path_agenda.specs.Words.{replaced}
use Rattle.path_agenda.specs.declared.duty.Duty.{Duty}
use Rattle.path_agenda.specs.declared.duty.Duty.TheVariants as duties
use Rattle.path_agenda.specs.declared.duty.AskDuty.TheVariants as ask_duties
use Rattle.path_agenda.specs.declared.duty.SendDuty.TheVariants as send_duties
use Rattle.path_agenda.specs.declared.duty.SilentDuty.TheVariants as silent_duties
use Rattle.path_agenda.specs.declared.duty.StepDuty.TheVariants as step_duties
use Rattle.path_agenda.specs.declared.heard.Heard.{Heard}
use Rattle.path_agenda.specs.declared.heard.Heard.TheVariants as says
use Rattle.path_agenda.specs.declared.keys.KeyPair.{KeyPair}
use Rattle.path_store.specs.Passing.{Piece}
use Rattle.path_store.specs.declared.lines.LineAction.{LineAction}
use Rattle.path_store.specs.declared.lines.LineAction.TheVariants as actions
use Rattle.fallback_state.specs.declared.fall.Event.TheVariants as events
use Rattle.path_core.specs.Addresses.{with_priority}
use Rattle.path_core.specs.Arrival.{judged_in, after_judged, copy_heard, heard_in, copy_of, copy_judged, reset_for, with_payload, owing_if}
use Rattle.path_core.specs.Breaking.{reset_on, answered_break}
use Rattle.path_core.specs.Codec.{Codec}
use Rattle.path_core.specs.DataFin.{after_pass_fin}
use Rattle.path_core.specs.Deliver.{piece_of, answered_piece, is_placed, after_piece, having_asked, after_pieces}
use Rattle.path_core.specs.DssIn.{counts, held_of, is_clash, with_learned, with_skipped, with_data_fin}
use Rattle.path_core.specs.Duties.{passed, answered}
use Rattle.path_core.specs.End.{PathEnd, died}
use Rattle.path_core.specs.Events.{after_line, happens_if}
use Rattle.path_core.specs.Fallback.{breaks_by_ack, after_fell, fell_duties, with_plain_ack, after_infinite}
use Rattle.path_core.specs.Judged.{taken_as}
use Rattle.path_core.specs.MpJoin.{is_joined, is_never, never_joined, keys_begun, opened_by, with_keys, with_mode_refused, asked_at, join_taken, joined_by, is_listening, syn_of_window}
use Rattle.path_core.specs.OptionsIn.{items_of, options_heard, hint_of, owes_by}
use Rattle.path_core.specs.Profile.{Profile}
use Rattle.path_core.specs.Standing.{answered_ack_out, after_ack_out}
use Rattle.path_core.specs.State.{PathState, at_tick, end_at, goes_on}
use Rattle.path_core.specs.Timer.{after_firing, with_timer_settled, timer_fired}
use Rattle.path_core.specs.Treating.{item_of, item_passed, answered_item, answered_heard}
use Rattle.path_core.specs.declared.events.Event.{Event}
use Rattle.path_core.specs.declared.events.Event.TheVariants as happenings
use Rattle.world_laws.specs.Writes.{EndWrites, EndView, Writes, PathView, Only, OnlyAt, nothing, writes, side_of}
use Rattle.world_laws.proofs.Falls.FailedChecks.{infinite_came_so, fail_answered_so}
use Rattle.world_laws.proofs.Writes.Paths.{writes_no_more, passes_no_more}
use Rattle.world_laws.proofs.Writes.Steps.{unwritten}
use Rattle.whole_paths.specs.AgendaSteps.{is_gone}
use Rattle.whole_paths.proofs.Agendas.{own_end, died_gone}
use Rattle.whole_paths.proofs.Pieces.{is_event, own_only}
use Rattle.whole_paths.proofs.Settling.{sides}

-- ---- an end

-- what it keeps stays, or RCV.NXT moves over a part of it, or a payload is held besides; or its edge is past the peer's FIN, or it is dead
pub data Moves (e f : PathEnd) : Type 0 where
  same : f.tcp.recv ≡ e.tcp.recv → Moves e f
  moved : (to : ℕ) → e.tcp.recv.edge ≤ to → f.tcp.recv ≡ after_advance to e.tcp.recv → Moves e f
  holds : (at : ℕ) (payload : List ℕ) → f.tcp.recv ≡ after_hold at payload e.tcp.recv → Moves e f
  over : is_fin_passed f.tcp ≡ true → Moves e f
  dead : is_gone f ≡ true → Moves e f

-- the check of a mapping, and the payload that is held and then kept, are told of apart
abbrev pub is_check : Duty → Bool
is_check (duties.Ask (ask_duties.CheckFailed s)) = true
is_check _ = false

abbrev pub is_keep : Duty → Bool
is_keep (duties.Silent (silent_duties.Keep s)) = true
is_keep _ = false

only_moves : (w : EndWrites) (e f : PathEnd) → w.recv ≡ false → Only w e f → Moves e f
only_moves w e f recv x = same (unwritten w.recv e.tcp.recv f.tcp.recv recv (ap (λ (v : EndView). v.recv) x.same))

here : (t : Side) (e f a b : PathEnd) → Moves e f → Moves e (pick t (pick t f a) (pick t b f))
here t e f a b x = subst (λ g. Moves e g) (sym (own_end t f a b)) x

-- ---- the peer's FIN

behind_next : (o : Option ℕ) (edge : ℕ) → is_at edge o ≡ true → is_behind o (edge + 1) ≡ true
behind_next None edge is = absurd (true≢false (sym is))
behind_next (Some pos) edge is = (let equal = eqb-true pos edge is in lt-ltb pos (edge + 1) (omega (arith, equal)))

pub fin_over : (t : EndState) → is_fin_next t ≡ true → is_fin_passed (after_passing_fin t) ≡ true
fin_over t is = behind_next t.fin_at t.recv.edge (and_parts (is_at t.recv.edge t.fin_at) (nat_lt t.recv.edge (2 ^ 62)) is).0

pass_fin_moves : (e : PathEnd) → Moves e (after_pass_fin e)
pass_fin_moves e = (elim (is_fin_next e.tcp) as (λ b. is_fin_next e.tcp ≡ b → Moves e (record e { tcp = if b then after_passing_fin e.tcp else e.tcp }))
    [ true ↦ λ is. over (fin_over e.tcp is) | false ↦ λ is. same refl ]) refl

-- ---- a copy

ack_recv : (pos now : ℕ) (s : EndState) → (after_acknowledgement pos now s).recv ≡ s.recv
ack_recv pos now s = elim (ack_kind pos s.send) as (λ kind. (after_ack_kind kind (sample_of pos s.send) now (record s { send = after_acknowledge pos s.send })).recv ≡ s.recv)
    [ New octets ↦ refl | Duplicate ↦ refl | Old ↦ refl | Future ↦ refl ]

heard_recv : (pos : ℕ) (hint : Hint) (now : ℕ) (c : Copy) (s : EndState) → (after_heard_ack pos hint now c s).recv ≡ s.recv
heard_recv pos hint now c s = elim (is_duplicate (ack_kind pos s.send) (told_by hint c) c (after_acknowledgement pos now s)) as
    (λ b. (after_telling (told_by hint c) (if b then after_duplicate (after_acknowledgement pos now s) else after_interruption (after_acknowledgement pos now s))).recv ≡ s.recv)
    [ true ↦ ack_recv pos now s | false ↦ ack_recv pos now s ]

owing_recv : (b : Bool) (s : EndState) → (owing_if b s).recv ≡ s.recv
owing_recv true s = refl
owing_recv false s = refl

held_moves : (e f : PathEnd) (pos n : ℕ) (payload : List ℕ) → f.tcp.recv ≡ (with_payload (means.Taken pos n) payload e.tcp).recv → Moves e f
held_moves e f pos n [] is = same is
held_moves e f pos n (octet ∷ octets) is = holds pos (octet ∷ octets) is

module _ (c : Profile) (s : Side) (now : ℕ) (x : HeardSegment) (e : PathEnd) where
  abbrev heard_as : Meaning → PathEnd
  heard_as m = copy_judged (is_joined c) (held_of c s x) (reset_for c s x) s now x m e

  -- the payload of one that is taken is held
  pub taken_recv : (pos n : ℕ) → (heard_as (means.Taken pos n)).tcp.recv ≡ (with_payload (means.Taken pos n) x.payload e.tcp).recv
  taken_recv pos n =
      let items = items_of (is_joined c) s x in
      let held = with_payload (means.Taken pos n) x.payload e.tcp in
      owing_recv (owes_by (means.Taken pos n) items) (after_taken pos n (hint_of items) now (copy_of x) held)
      ∙ heard_recv n (hint_of items) now (copy_of x) (after_established (after_hearing (after_payload pos (hint_of items) (copy_of x) held)))

  copy_moves : (m : Meaning) → Moves e (heard_as m)
  copy_moves (means.Taken pos n) = held_moves e (heard_as (means.Taken pos n)) pos n x.payload (taken_recv pos n)
  copy_moves (means.Accepts n) = same (ack_recv n now (record (after_hearing (after_payload 1 (hint_of (items_of (is_joined c) s x)) (copy_of x) e.tcp)) { state = phase.Established }))
  copy_moves means.Kills = dead refl
  copy_moves _ = same refl

-- ---- what is heard

opened_moves : (keys : Option KeyPair) (e : PathEnd) → Moves e (opened_by keys e)
opened_moves None e = same refl
opened_moves (Some keys) e = elim (is_waiting e.tcp.state) as (λ b. Moves e (record e { tcp = if b then after_begin e.tcp else e.tcp; modes = with_keys keys e.modes }))
    [ true ↦ same refl | false ↦ same refl ]

joined_moves : (keys : KeyPair) (asked : JoinSyn) (e : PathEnd) → Moves e (joined_by keys asked e)
joined_moves keys asked e = elim (is_listening e.tcp.state) as
    (λ b. Moves e (record (joined_by keys asked e) { tcp = if b then after_syn (unkept None) (syn_of_window e.treated.window) e.tcp else e.tcp }))
    [ true ↦ same refl | false ↦ same refl ]

pub item_tcp : (s : Side) (o : Option Heard) (e : PathEnd) → (item_passed s o e).tcp ≡ e.tcp
item_tcp s None e = refl
item_tcp s (Some (says.Mapping fin)) e = elim (counts e) as (λ b. (if b then with_learned e else with_skipped e).tcp ≡ e.tcp) [ true ↦ refl | false ↦ refl ]
item_tcp s (Some (says.DataFin place)) e = elim (counts e) as (λ b. (if b then with_data_fin place e else e).tcp ≡ e.tcp) [ true ↦ refl | false ↦ refl ]
item_tcp s (Some _) e = refl

pub item_recv : (s : Side) (o : Option Heard) (e : PathEnd) → (item_passed s o e).tcp.recv ≡ e.tcp.recv
item_recv s o e = ap (λ (t : EndState). t.recv) (item_tcp s o e)

fired_moves : (now : ℕ) (e : PathEnd) → Moves e (after_firing now e)
fired_moves now e = elim (is_sixth e.tcp) as (λ b. Moves e (record e { tcp = if b then after_death true e.tcp else after_expiry now e.tcp }))
    [ true ↦ dead refl | false ↦ same refl ]

module _ {C : Type 0} where
  -- ---- an event, at either end

  -- where the end of one side becomes this, the other one stays
  side_moves : (s t : Side) (f : PathEnd) (p q : PathState C) → q.a ≡ pick s f p.a → q.b ≡ pick s p.b f → Moves (end_at s p) f → Moves (end_at t p) (end_at t q)
  side_moves A A f p q a b x = subst (λ g. Moves p.a g) (sym a) x
  side_moves A B f p q a b x = same (ap (λ (g : PathEnd). g.tcp.recv) b)
  side_moves B A f p q a b x = same (ap (λ (g : PathEnd). g.tcp.recv) a)
  side_moves B B f p q a b x = subst (λ g. Moves p.b g) (sym b) x

  line_moves : (t : Side) (action : LineAction) (p : PathState C) → Moves (end_at t p) (end_at t (after_line action p))
  line_moves A actions.Die p = dead (died_gone p.a)
  line_moves B actions.Die p = dead (died_gone p.b)
  line_moves t (actions.Prio s backup) p = side_moves s t (with_priority backup (end_at s p)) p (after_line (actions.Prio s backup) p) refl refl (same refl)
  line_moves t (actions.Announce s id) p = same refl
  line_moves t (actions.Withdraw s id) p = same refl

  copy_heard_moves : (s t : Side) (o : Option HeardSegment) (p : PathState C) → Moves (end_at t p) (end_at t (copy_heard s o p))
  copy_heard_moves s t None p = same refl
  copy_heard_moves s t (Some segment) p =
      let x = options_heard (end_at s p) segment in
      let verdict = judged_in (is_joined p.profile) s x (end_at s p) in
      side_moves s t (after_judged p.profile s p.clock x verdict (end_at s p)) p (copy_heard s (Some segment) p) refl refl (copy_moves p.profile s p.clock x (end_at s p) (taken_as verdict))

  pub event_moves : (k : Codec C) (o : Option Event) (r : Reply) (p : PathState C) (t : Side) → Moves (end_at t p) (end_at t (happens_if k o r p))
  event_moves k None r p t = same refl
  event_moves k (Some (happenings.Joins tick)) r p t = by (is_never r)
    where
      q : PathState C
      q = record (at_tick tick p) { joined_at = None }

      by : (b : Bool) → Moves (end_at t p) (end_at t (if b then goes_on A (never_joined r q.a) (leaves A) q else goes_on A (opened_by (keys_begun r) q.a) (emission A) q))
      by true = side_moves A t (never_joined r q.a) p (goes_on A (never_joined r q.a) (leaves A) q) refl refl (dead refl)
      by false = side_moves A t (opened_by (keys_begun r) q.a) p (goes_on A (opened_by (keys_begun r) q.a) (emission A) q) refl refl (opened_moves (keys_begun r) q.a)
  event_moves k (Some (happenings.Takes line)) r p t = line_moves t line.action (record (at_tick line.tick p) { lines = tail_of p.lines })
  event_moves k (Some (happenings.Arrives due)) r p t =
      copy_heard_moves due.to t (heard_in k due.to (arriving due p.link) p) (record (at_tick due.tick p) { link = after_delivery due p.link })
  event_moves k (Some (happenings.Fires s tick)) r p t =
      let q : PathState C = at_tick tick p in side_moves s t (after_firing q.clock (end_at s q)) q (timer_fired s q) refl refl (fired_moves q.clock (end_at s q))

  -- ---- a duty, at its own end

  piece_moves : (s : Side) (o : Option Piece) (taken : Bool) (p : PathState C) → Moves (end_at s p) (end_at s (answered_piece s o taken p))
  piece_moves s (Some piece) true p =
      let e = end_at s p in
      here s e (having_asked (after_piece piece e)) p.a p.b (moved (e.tcp.recv.edge + length piece.octets) (omega arith) refl)
  piece_moves s (Some piece) false p = here s (end_at s p) (having_asked (end_at s p)) p.a p.b (same refl)
  piece_moves s None taken p = here s (end_at s p) (having_asked (end_at s p)) p.a p.b (same refl)

  joins_move : (s : Side) (keys : Option KeyPair) (asked : Option JoinSyn) (r : Reply) (p : PathState C) → Moves (end_at s p) (end_at s (join_taken s keys asked r p))
  joins_move s (Some keys) (Some asked) r p = here s (end_at s p) (joined_by keys asked (end_at s p)) p.a p.b (joined_moves keys asked (end_at s p))
  joins_move s None (Some asked) r p = here s (end_at s p) (with_mode_refused r (end_at s p)) p.a p.b (same refl)
  joins_move s (Some keys) None r p = same refl
  joins_move s None None r p = same refl

  break_moves : (k : Codec C) (s : Side) (reason : ℕ) (r : Reply) (p : PathState C) → Moves (end_at s p) (end_at s (answered_break k s reason r p))
  break_moves k s reason r p = elim (end_at s p).treated.asked as
      (λ b. Moves (end_at s p) (end_at s (if b then answered_ack_out s r (resets s reason) p else reset_on k s (Some reason) (leaves s) p)))
      [ true ↦ here s (end_at s p) (after_ack_out r (end_at s p)) p.a p.b (same refl) | false ↦ here s (end_at s p) (died (end_at s p)) p.a p.b (dead refl) ]

  thing_moves : (k : Codec C) (s : Side) (item : Heard) (r : Reply) (p : PathState C) → Moves (end_at s p) (end_at s (answered_heard k s item r p))
  thing_moves k s (says.DataAck next window) r p = here s (end_at s p) _ p.a p.b (same refl)
  thing_moves k s (says.Mapping fin) r p = elim (is_clash (end_at s p)) as
      (λ b. Moves (end_at s p) (end_at s (if b then answered_break k s 1 r p else goes_on s (with_learned (after_fell events.MappingHeard r (end_at s p))) (fell_duties s r p) p)))
      [ true ↦ break_moves k s 1 r p | false ↦ here s (end_at s p) (with_learned (after_fell events.MappingHeard r (end_at s p))) p.a p.b (same refl) ]
  thing_moves k s (says.DataFin place) r p = here s (end_at s p) _ p.a p.b (same refl)
  thing_moves k s (says.InfiniteMapping place position) r p =
      let e = end_at s p in here s e (after_infinite place position r e) p.a p.b (infinite_came_so (λ f. Moves e f) place position r e (λ other. same refl))
  thing_moves k s (says.Keys own peer) r p = here s (end_at s p) _ p.a p.b (same refl)
  thing_moves k s (says.Notice notice) r p = here s (end_at s p) _ p.a p.b (same refl)
  thing_moves k s says.Fail r p = fail_answered_so (λ q. Moves (end_at s p) (end_at s q)) s r p (here s (end_at s p) _ p.a p.b (same refl)) (here s (end_at s p) _ p.a p.b (same refl))
  thing_moves k s _ r p = same refl

  things_move : (k : Codec C) (s : Side) (item : Option Heard) (r : Reply) (p : PathState C) → Moves (end_at s p) (end_at s (answered_item k s item r p))
  things_move k s None r p = same refl
  things_move k s (Some item) r p = thing_moves k s item r p

  own_moves : (k : Codec C) (d : Duty) (r : Reply) (p : PathState C) → is_event d ≡ false → is_check d ≡ false → Moves (end_at (side_of d) p) (end_at (side_of d) (answered k d r p))
  own_moves k (duties.Step step_duties.Events) r p other check = absurd (true≢false other)
  own_moves k (duties.Ask (ask_duties.CheckFailed s)) r p other check = absurd (true≢false check)
  own_moves k (duties.Ask ask_duties.JoinAgain) r p other check = elim (is_never r) as
      (λ b. Moves p.a (if b then goes_on A (never_joined r p.a) (replaced (duties.Ask (ask_duties.Leave A)) p.agenda) p else goes_on A (opened_by (keys_begun r) p.a) (tail_of p.agenda) p).a)
      [ true ↦ dead refl | false ↦ opened_moves (keys_begun r) p.a ]
  own_moves k (duties.Ask (ask_duties.JoinHeard s)) r p other check = joins_move s (keys_begun r) (asked_at s p) r p
  own_moves k (duties.Ask (ask_duties.Edge s)) r p other check = piece_moves s (piece_of s p) (is_placed r) p
  own_moves k (duties.Ask (ask_duties.LeaveNoted s)) r p other check = here s (end_at s p) (died (end_at s p)) p.a p.b (dead refl)
  own_moves k (duties.Step (step_duties.Heard s index)) r p other check = things_move k s (item_of index (end_at s p)) r p
  own_moves k (duties.Step (step_duties.PlainAck s)) r p other check = elim (breaks_by_ack p.profile (end_at s p)) as
      (λ b. Moves (end_at s p) (end_at s (if b then answered_break k s 6 r p else goes_on s (with_plain_ack (after_fell events.PlainAck r (end_at s p))) (fell_duties s r p) p)))
      [ true ↦ break_moves k s 6 r p | false ↦ here s (end_at s p) (with_plain_ack (after_fell events.PlainAck r (end_at s p))) p.a p.b (same refl) ]
  own_moves k (duties.Step (step_duties.Unmapped s)) r p other check = break_moves k s 6 r p
  own_moves k (duties.Send (send_duties.BreakReset s reason)) r p other check = here s (end_at s p) (died (end_at s p)) p.a p.b (dead refl)
  own_moves k (duties.Send (send_duties.Reset s)) r p other check = here s (end_at s p) (died (end_at s p)) p.a p.b (dead refl)
  own_moves k (duties.Send (send_duties.ResetNoted s)) r p other check = here s (end_at s p) (died (end_at s p)) p.a p.b (dead refl)
  own_moves k (duties.Silent d) r p other check = same refl
  own_moves k d r p other check = only_moves (writes d).own _ _ refl (own_only (side_of d) (writes d) p _ (writes_no_more k d r p))

  passed_own : (d : Duty) (p : PathState C) → is_check d ≡ false → is_keep d ≡ false → Moves (end_at (side_of d) p) (end_at (side_of d) (passed d p))
  passed_own (duties.Ask (ask_duties.CheckFailed s)) p check keep = absurd (true≢false check)
  passed_own (duties.Silent (silent_duties.Keep s)) p check keep = absurd (true≢false keep)
  passed_own (duties.Step (step_duties.Heard s index)) p check keep =
      let e = end_at s p in here s e (item_passed s (item_of index e) e) p.a p.b (same (item_recv s (item_of index e) e))
  passed_own (duties.Step (step_duties.PlainAck s)) p check keep = here s (end_at s p) (with_plain_ack (end_at s p)) p.a p.b (same refl)
  passed_own (duties.Step (step_duties.Unmapped s)) p check keep = here s (end_at s p) (after_pieces (end_at s p)) p.a p.b (same refl)
  passed_own (duties.Silent (silent_duties.Timer s)) p check keep = here s (end_at s p) (with_timer_settled p.clock (end_at s p)) p.a p.b (same refl)
  passed_own (duties.Silent (silent_duties.PassFin s)) p check keep = here s (end_at s p) (after_pass_fin (end_at s p)) p.a p.b (pass_fin_moves (end_at s p))
  passed_own _ p check keep = same refl

  -- ---- at either end

  other_recv : (s : Side) (w : Writes) (p q : PathState C) → w.other ≡ nothing → OnlyAt s w p q → (end_at (peer s) q).tcp.recv ≡ (end_at (peer s) p).tcp.recv
  other_recv s w p q none x =
      let only : Only nothing (end_at (peer s) p) (end_at (peer s) q) = subst (λ v. Only v (end_at (peer s) p) (end_at (peer s) q)) none (record { same = ap (λ (v : PathView C). v.other) x.same }) in
      unwritten false (end_at (peer s) p).tcp.recv (end_at (peer s) q).tcp.recv refl (ap (λ (v : EndView). v.recv) only.same)

  pub answered_other_recv : (k : Codec C) (d : Duty) (r : Reply) (p : PathState C) → is_event d ≡ false → (end_at (peer (side_of d)) (answered k d r p)).tcp.recv ≡ (end_at (peer (side_of d)) p).tcp.recv
  answered_other_recv k (duties.Step step_duties.Events) r p other = absurd (true≢false other)
  answered_other_recv k d r p other = other_recv (side_of d) (writes d) p _ refl (writes_no_more k d r p)

  pub passed_other_recv : (d : Duty) (p : PathState C) → (end_at (peer (side_of d)) (passed d p)).tcp.recv ≡ (end_at (peer (side_of d)) p).tcp.recv
  passed_other_recv (duties.Step step_duties.Events) p = refl
  passed_other_recv d p = other_recv (side_of d) (writes d) p _ refl (passes_no_more d p)

  pub answered_moves : (k : Codec C) (t : Side) (d : Duty) (r : Reply) (p : PathState C) → is_event d ≡ false → is_check d ≡ false → Moves (end_at t p) (end_at t (answered k d r p))
  answered_moves k t d r p other check =
      let q = answered k d r p in
      ⊎_elim
      (λ own. subst (λ u. Moves (end_at u p) (end_at u q)) own (own_moves k d r p other check))
      (λ away. subst (λ u. Moves (end_at u p) (end_at u q)) away (same (answered_other_recv k d r p other)))
      (sides t (side_of d))

  pub passed_moves : (t : Side) (d : Duty) (p : PathState C) → is_check d ≡ false → is_keep d ≡ false → Moves (end_at t p) (end_at t (passed d p))
  passed_moves t d p check keep =
      ⊎_elim
      (λ own. subst (λ u. Moves (end_at u p) (end_at u (passed d p))) own (passed_own d p check keep))
      (λ away. subst (λ u. Moves (end_at u p) (end_at u (passed d p))) away (same (passed_other_recv d p)))
      (sides t (side_of d))
