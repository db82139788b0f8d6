-- What holds of an end's subflow and changes by three things alone: by a copy that the end takes, as RCV.NXT passes a piece, and where octets are let go.
use Rattle.std.proofs.Common.{◌≡◌, refl, sym, subst, ap, ◌∙◌, ◌⊎◌, inl, inr, ⊎_elim, ℕ, ◌+◌, Bool, true, false, true≢false, if◌then◌else◌, Option, Some, None, List, [], ◌∷◌, length}
use Rattle.path_segments.specs.Heard.{HeardSegment}
use Rattle.sides.specs.declared.side.Side.{Side}
use Rattle.sides.specs.declared.side.Side.TheVariants.{A, B}
use Rattle.sides.specs.Side.{peer}
use Rattle.join_handshake.specs.declared.hearing.JoinSyn.{JoinSyn}
use Rattle.fallback_state.specs.declared.fall.Event.TheVariants as events
use Rattle.link_model.specs.declared.flight.Due.{Due}
use Rattle.link_model.specs.Steps.{after_delivery, arriving}
use Rattle.subflow_recv.specs.Receiving.{after_advance}
use Rattle.subflow_send.specs.Rules.{ack_kind, after_acknowledge, sample_of}
use Rattle.subflow_send.specs.declared.record.AckKind.TheVariants.{New, Duplicate, Old, Future}
use Rattle.subflow_tcp.specs.declared.segments.Hint.{Hint}
use Rattle.subflow_tcp.specs.declared.verdicts.Meaning.{Meaning}
use Rattle.subflow_tcp.specs.declared.verdicts.Meaning.TheVariants as means
use Rattle.subflow_tcp.specs.Expiring.{after_expiry, is_sixth}
use Rattle.subflow_tcp.specs.Judging.{meaning_of}
use Rattle.subflow_tcp.specs.Opening.{after_begin}
use Rattle.subflow_tcp.specs.Segments.{Copy}
use Rattle.subflow_tcp.specs.State.{EndState}
use Rattle.subflow_tcp.specs.States.{is_dead, is_waiting}
use Rattle.subflow_tcp.specs.declared.handshake.State.TheVariants as phase
use Rattle.subflow_tcp.specs.Taking.{after_ack_kind, after_acknowledgement, after_death, after_duplicate, after_established, after_hearing, after_heard_ack, after_interruption, after_payload, after_syn, after_taken, after_telling, first_fin, is_duplicate, told_by, unkept}
use Rattle.actor_desk.specs.declared.ask.Reply.{Reply}
use Rattle.actor_desk.specs.Words.{pick, tail_of}
use Rattle.path_agenda.specs.Agenda.{emission, leaves, resets}
use Rattle.path_agenda.specs.Words.{replaced}
use Rattle.path_agenda.specs.declared.duty.Duty.{Duty}
use Rattle.path_agenda.specs.declared.duty.Duty.TheVariants as duties
use Rattle.path_agenda.specs.declared.duty.AskDuty.TheVariants as ask_duties
use Rattle.path_agenda.specs.declared.duty.SendDuty.TheVariants as send_duties
use Rattle.path_agenda.specs.declared.duty.SilentDuty.TheVariants as silent_duties
use Rattle.path_agenda.specs.declared.duty.StepDuty.TheVariants as step_duties
use Rattle.path_agenda.specs.declared.heard.Heard.{Heard}
use Rattle.path_agenda.specs.declared.heard.Heard.TheVariants as says
use Rattle.path_agenda.specs.declared.keys.KeyPair.{KeyPair}
use Rattle.path_store.specs.Passing.{Piece}
use Rattle.path_store.specs.declared.lines.LineAction.{LineAction}
use Rattle.path_store.specs.declared.lines.LineAction.TheVariants as actions
use Rattle.path_core.specs.Addresses.{with_priority}
use Rattle.path_core.specs.Arrival.{after_judged, copy_heard, copy_judged, copy_of, heard_in, judged_in, owing_if, reset_for, with_payload}
use Rattle.path_core.specs.Breaking.{answered_break, died_unless_dead, reset_on}
use Rattle.path_core.specs.Codec.{Codec}
use Rattle.path_core.specs.DataFin.{after_pass_fin}
use Rattle.path_core.specs.Deliver.{after_check, after_keep, after_piece, after_pieces, answered_piece, having_asked, is_placed, next_piece, piece_of}
use Rattle.path_core.specs.DssIn.{held_of, is_clash, with_learned}
use Rattle.path_core.specs.Duties.{answered, passed}
use Rattle.path_core.specs.End.{PathEnd, died}
use Rattle.path_core.specs.Events.{after_line, happens_if, next_event}
use Rattle.path_core.specs.Fallback.{after_check_failed, after_fell, after_infinite, breaks_by_ack, fell_duties, with_plain_ack}
use Rattle.path_core.specs.Judged.{taken_as}
use Rattle.path_core.specs.MpJoin.{asked_at, is_joined, is_listening, is_never, join_taken, joined_by, keys_begun, never_joined, opened_by, syn_of_window, with_mode_refused}
use Rattle.path_core.specs.OptionsIn.{hint_of, items_of, options_heard, owes_by}
use Rattle.path_core.specs.Profile.{Profile}
use Rattle.path_core.specs.Standing.{after_ack_out, answered_ack_out}
use Rattle.path_core.specs.State.{PathState, at_tick, end_at, goes_on, with_agenda}
use Rattle.path_core.specs.Steps.{begins_turn, next_round, takes}
use Rattle.path_core.specs.Timer.{after_firing, timer_fired, with_timer_settled}
use Rattle.path_core.specs.Treating.{answered_heard, answered_item, item_of, item_passed}
use Rattle.path_core.specs.declared.events.Event.{Event}
use Rattle.path_core.specs.declared.events.Event.TheVariants as happenings
use Rattle.path_core.specs.declared.judged.Judged.{Judged}
use Rattle.path_core.specs.declared.judged.Judged.TheVariants as judged
use Rattle.path_core.proofs.Judgements.{judged_taken}
use Rattle.world_laws.specs.Writes.{EndView, Only, OnlyAt, PathView, Writes, nothing, side_of, writes}
use Rattle.world_laws.proofs.Falls.FailedChecks.{fail_answered_so, infinite_came_so}
use Rattle.world_laws.proofs.Whole.Ends.{MeansIs, means_so}
use Rattle.world_laws.proofs.Writes.Paths.{passes_no_more, writes_no_more}
use Rattle.world_laws.proofs.Writes.Steps.{Lasts, begins_lasts, settled_lasts, unwritten}
use Rattle.whole_paths.specs.Brought.{Brings, Comes}
use Rattle.whole_paths.proofs.Agendas.{own_end}
use Rattle.whole_paths.proofs.Moving.{item_tcp, taken_recv}
use Rattle.whole_paths.proofs.Reached.{ack_recv}
use Rattle.whole_paths.proofs.Pieces.{is_event, own_only}
use Rattle.whole_paths.proofs.Settling.{sides}

-- ---- a copy

pub ack_fin : (pos now : ℕ) (s : EndState) → (after_acknowledgement pos now s).fin_at ≡ s.fin_at
ack_fin pos now s = elim (ack_kind pos s.send) as (λ kind. (after_ack_kind kind (sample_of pos s.send) now (record s { send = after_acknowledge pos s.send })).fin_at ≡ s.fin_at)
    [ New octets ↦ refl | Duplicate ↦ refl | Old ↦ refl | Future ↦ refl ]

heard_fin : (pos : ℕ) (hint : Hint) (now : ℕ) (c : Copy) (s : EndState) → (after_heard_ack pos hint now c s).fin_at ≡ s.fin_at
heard_fin pos hint now c s = elim (is_duplicate (ack_kind pos s.send) (told_by hint c) c acked) as (λ b. (after_telling (told_by hint c) (if b then after_duplicate acked else after_interruption acked)).fin_at ≡ s.fin_at)
    [ true ↦ ack_fin pos now s | false ↦ ack_fin pos now s ]
  where
    acked : EndState
    acked = after_acknowledgement pos now s

owing_fin : (b : Bool) (s : EndState) → (owing_if b s).fin_at ≡ s.fin_at
owing_fin true s = refl
owing_fin false s = refl

payload_fin : (pos acknowledged : ℕ) (octets : List ℕ) (s : EndState) → (with_payload (means.Taken pos acknowledged) octets s).fin_at ≡ s.fin_at
payload_fin pos acknowledged [] s = refl
payload_fin pos acknowledged (octet ∷ octets) s = refl

-- where no FIN comes
no_fin : (o : Option ℕ) (fin : Bool) (pos : ℕ) → fin ≡ false → first_fin o fin pos ≡ o
no_fin (Some p) fin pos none = refl
no_fin None true pos none = absurd (true≢false none)
no_fin None false pos none = refl

module _ (c : Profile) (s : Side) (now : ℕ) (x : HeardSegment) (e : PathEnd) where
  abbrev heard_as : Meaning → PathEnd
  heard_as m = copy_judged (is_joined c) (held_of c s x) (reset_for c s x) s now x m e

  taken_fin : (pos a : ℕ) → (heard_as (means.Taken pos a)).tcp.fin_at ≡ first_fin e.tcp.fin_at x.fin (pos + length x.payload)
  taken_fin pos a =
      let items = items_of (is_joined c) s x in
      let held = with_payload (means.Taken pos a) x.payload e.tcp in
      owing_fin (owes_by (means.Taken pos a) items) (after_taken pos a (hint_of items) now (copy_of x) held)
      ∙ heard_fin a (hint_of items) now (copy_of x) (after_established (after_hearing (after_payload pos (hint_of items) (copy_of x) held)))
      ∙ ap (λ o. first_fin o x.fin (pos + length x.payload)) (payload_fin pos a x.payload e.tcp)

  accepted_recv : (a : ℕ) → (heard_as (means.Accepts a)).tcp.recv ≡ e.tcp.recv
  accepted_recv a = ack_recv a now (record (after_hearing (after_payload 1 (hint_of (items_of (is_joined c) s x)) (copy_of x) e.tcp)) { state = phase.Established })

  accepted_fin : (a : ℕ) → x.fin ≡ false → (heard_as (means.Accepts a)).tcp.fin_at ≡ e.tcp.fin_at
  accepted_fin a none = ack_fin a now (record (after_hearing (after_payload 1 (hint_of (items_of (is_joined c) s x)) (copy_of x) e.tcp)) { state = phase.Established })
      ∙ no_fin e.tcp.fin_at x.fin (1 + length x.payload) none

-- ---- what becomes of it

module _ (Holds : EndState → Type 0) (May : Profile → Type 0) where
  -- it lasts where nothing comes, and nothing is passed
  pub record IsKeptSo : Type 0 where
    pub same : (s t : EndState) → t.recv ≡ s.recv → t.fin_at ≡ s.fin_at → Holds s → Holds t
    pub dies : (b : Bool) (t : EndState) → Holds t → Holds (after_death b t)
    pub keeps : (s : Side) (e : PathEnd) → Holds e.tcp → Holds (after_keep s e).tcp
    pub fin : (e : PathEnd) → Holds e.tcp → Holds (after_pass_fin e).tcp
    -- where a check fails
    pub checks : (c : Profile) → May c → (e : PathEnd) → Holds e.tcp → Holds (after_check c e).tcp
    pub fails : (c : Profile) → May c → (r : Reply) (e : PathEnd) → Holds e.tcp → Holds (after_check_failed c.spelling.checksums r e).tcp

  module _ {C : Type 0} (k : Codec C) (Over : Side → PathState C → Type 0) where
    -- what is known of an end before a turn: what it passes, and what it takes
    pub record IsFit (s : Side) (p : PathState C) : Type 0 where
      pub may : May p.profile
      pub passes : (piece : Piece) → next_piece p.profile (end_at s p) ≡ Some piece → let t : EndState = (end_at s p).tcp in
          Holds t → Holds (record t { recv = after_advance (t.recv.edge + length piece.octets) t.recv })
      pub takes : (b : Brings k p) → b.copy.due.to ≡ s → let e : EndState = (end_at b.copy.due.to p).tcp in (t : EndState)
          → t.recv ≡ (with_payload (means.Taken b.position b.acknowledged) b.copy.segment.payload e).recv
          → t.fin_at ≡ first_fin e.fin_at b.copy.segment.fin (b.position + length b.copy.segment.payload) → Holds e → Holds t ⊎ Over s p
      pub opens : (x : Comes k p) → x.due.to ≡ s → (a : ℕ) → let e : PathEnd = end_at x.due.to p in
          MeansIs (copy_of (options_heard e x.segment)) e.tcp (means.Accepts a) → x.segment.fin ≡ false

    module _ (kept : IsKeptSo) where
      abbrev At : Side → PathState C → Type 0
      At s p = Holds (end_at s p).tcp

      -- ---- at its own end

      here : (s : Side) (p : PathState C) (f : PathEnd) → Holds f.tcp → Holds (pick s (pick s f p.a) (pick s p.b f)).tcp
      here s p f h = subst (λ (g : PathEnd). Holds g.tcp) (sym (own_end s f p.a p.b)) h

      rests : (s : Side) (p : PathState C) (f : PathEnd) → f.tcp.recv ≡ (end_at s p).tcp.recv → f.tcp.fin_at ≡ (end_at s p).tcp.fin_at → At s p → Holds (pick s (pick s f p.a) (pick s p.b f)).tcp
      rests s p f recv fin h = here s p f (kept.same (end_at s p).tcp f.tcp recv fin h)

      dies : (s : Side) (p : PathState C) → At s p → Holds (pick s (pick s (died (end_at s p)) p.a) (pick s p.b (died (end_at s p)))).tcp
      dies s p h = here s p (died (end_at s p)) (kept.dies false (end_at s p).tcp h)

      break_goes : (s : Side) (reason : ℕ) (r : Reply) (p : PathState C) → At s p → At s (answered_break k s reason r p)
      break_goes s reason r p h = elim (end_at s p).treated.asked as
          (λ b. At s (if b then answered_ack_out s r (resets s reason) p else reset_on k s (Some reason) (leaves s) p))
          [ true ↦ rests s p (after_ack_out r (end_at s p)) refl refl h | false ↦ dies s p h ]

      thing_goes : (s : Side) (item : Heard) (r : Reply) (p : PathState C) → At s p → At s (answered_heard k s item r p)
      thing_goes s (says.DataAck next window) r p h = rests s p _ refl refl h
      thing_goes s (says.Mapping fin) r p h = elim (is_clash (end_at s p)) as
          (λ b. At s (if b then answered_break k s 1 r p else goes_on s (with_learned (after_fell events.MappingHeard r (end_at s p))) (fell_duties s r p) p))
          [ true ↦ break_goes s 1 r p h | false ↦ rests s p (with_learned (after_fell events.MappingHeard r (end_at s p))) refl refl h ]
      thing_goes s (says.DataFin place) r p h = rests s p _ refl refl h
      thing_goes s (says.InfiniteMapping place position) r p h =
          let e = end_at s p in rests s p (after_infinite place position r e) (infinite_came_so (λ f. f.tcp.recv ≡ e.tcp.recv) place position r e (λ other. refl)) (infinite_came_so (λ f. f.tcp.fin_at ≡ e.tcp.fin_at) place position r e (λ other. refl)) h
      thing_goes s (says.Keys own other) r p h = rests s p _ refl refl h
      thing_goes s (says.Notice notice) r p h = rests s p _ refl refl h
      thing_goes s says.Fail r p h = fail_answered_so (λ q. At s q) s r p (rests s p _ refl refl h) (rests s p _ refl refl h)
      thing_goes s _ r p h = h

      things_go : (s : Side) (item : Option Heard) (r : Reply) (p : PathState C) → At s p → At s (answered_item k s item r p)
      things_go s None r p h = h
      things_go s (Some item) r p h = thing_goes s item r p h

      piece_goes : (s : Side) (o : Option Piece) (taken : Bool) (p : PathState C) → piece_of s p ≡ o → IsFit s p → At s p → At s (answered_piece s o taken p)
      piece_goes s (Some piece) true p is fit h = here s p (having_asked (after_piece piece (end_at s p))) (kept.same _ (having_asked (after_piece piece (end_at s p))).tcp refl refl (fit.passes piece is h))
      piece_goes s (Some piece) false p is fit h = rests s p (having_asked (end_at s p)) refl refl h
      piece_goes s None taken p is fit h = rests s p (having_asked (end_at s p)) refl refl h

      joined_goes : (s : Side) (keys : Option KeyPair) (asked : Option JoinSyn) (r : Reply) (p : PathState C) → At s p → At s (join_taken s keys asked r p)
      joined_goes s (Some keys) (Some asked) r p h = let e = end_at s p in here s p (joined_by keys asked e) (elim (is_listening e.tcp.state) as
          (λ b. Holds (if b then after_syn (unkept None) (syn_of_window e.treated.window) e.tcp else e.tcp))
          [ true ↦ kept.same e.tcp (after_syn (unkept None) (syn_of_window e.treated.window) e.tcp) refl (no_fin e.tcp.fin_at false 1 refl) h | false ↦ h ])
      joined_goes s None (Some asked) r p h = rests s p (with_mode_refused r (end_at s p)) refl refl h
      joined_goes s (Some keys) None r p h = h
      joined_goes s None None r p h = h

      opened_goes : (keys : Option KeyPair) (e : PathEnd) → Holds e.tcp → Holds (opened_by keys e).tcp
      opened_goes None e h = h
      opened_goes (Some keys) e h = elim (is_waiting e.tcp.state) as (λ b. Holds (if b then after_begin e.tcp else e.tcp)) [ true ↦ kept.same e.tcp (after_begin e.tcp) refl refl h | false ↦ h ]

      unwritten_goes : (d : Duty) (r : Reply) (p : PathState C) → (writes d).own.recv ≡ false → (writes d).own.fin_at ≡ false → At (side_of d) p → At (side_of d) (answered k d r p)
      unwritten_goes d r p recv fin h =
          let s = side_of d in let q = answered k d r p in let only = own_only s (writes d) p q (writes_no_more k d r p) in
          kept.same (end_at s p).tcp (end_at s q).tcp (unwritten (writes d).own.recv (end_at s p).tcp.recv (end_at s q).tcp.recv recv (ap (λ (v : EndView). v.recv) only.same))
          (unwritten (writes d).own.fin_at (end_at s p).tcp.fin_at (end_at s q).tcp.fin_at fin (ap (λ (v : EndView). v.fin_at) only.same)) h

      own_goes : (d : Duty) (r : Reply) (p : PathState C) → is_event d ≡ false → IsFit (side_of d) p → At (side_of d) p → At (side_of d) (answered k d r p)
      own_goes (duties.Step step_duties.Events) r p other fit h = absurd (true≢false other)
      own_goes (duties.Ask ask_duties.JoinAgain) r p other fit h = elim (is_never r) as
          (λ b. At A (if b then goes_on A (never_joined r p.a) (replaced (duties.Ask (ask_duties.Leave A)) p.agenda) p else goes_on A (opened_by (keys_begun r) p.a) (tail_of p.agenda) p))
          [ true ↦ kept.dies false p.a.tcp h | false ↦ opened_goes (keys_begun r) p.a h ]
      own_goes (duties.Ask (ask_duties.JoinHeard s)) r p other fit h = joined_goes s (keys_begun r) (asked_at s p) r p h
      own_goes (duties.Ask (ask_duties.Edge s)) r p other fit h = piece_goes s (piece_of s p) (is_placed r) p refl fit h
      own_goes (duties.Ask (ask_duties.CheckFailed s)) r p other fit h =
          let e = end_at s p in here s p (after_check_failed p.profile.spelling.checksums r e) (kept.fails p.profile fit.may r e h)
      own_goes (duties.Ask (ask_duties.LeaveNoted s)) r p other fit h = dies s p h
      own_goes (duties.Step (step_duties.Heard s index)) r p other fit h = things_go s (item_of index (end_at s p)) r p h
      own_goes (duties.Step (step_duties.PlainAck s)) r p other fit h = elim (breaks_by_ack p.profile (end_at s p)) as
          (λ b. At s (if b then answered_break k s 6 r p else goes_on s (with_plain_ack (after_fell events.PlainAck r (end_at s p))) (fell_duties s r p) p))
          [ true ↦ break_goes s 6 r p h | false ↦ rests s p (with_plain_ack (after_fell events.PlainAck r (end_at s p))) refl refl h ]
      own_goes (duties.Step (step_duties.Unmapped s)) r p other fit h = break_goes s 6 r p h
      own_goes (duties.Send (send_duties.BreakReset s reason)) r p other fit h = dies s p h
      own_goes (duties.Send (send_duties.Reset s)) r p other fit h = dies s p h
      own_goes (duties.Send (send_duties.ResetNoted s)) r p other fit h = dies s p h
      own_goes (duties.Silent d) r p other fit h = h
      own_goes d r p other fit h = unwritten_goes d r p refl refl h

      -- ---- at either end

      other_goes : (s : Side) (w : Writes) (p q : PathState C) → w.other ≡ nothing → OnlyAt s w p q → At (peer s) p → At (peer s) q
      other_goes s w p q none x h =
          let only : Only nothing (end_at (peer s) p) (end_at (peer s) q) = subst (λ v. Only v (end_at (peer s) p) (end_at (peer s) q)) none (record { same = ap (λ (v : PathView C). v.other) x.same }) in
          kept.same (end_at (peer s) p).tcp (end_at (peer s) q).tcp (unwritten false (end_at (peer s) p).tcp.recv (end_at (peer s) q).tcp.recv refl (ap (λ (v : EndView). v.recv) only.same))
          (unwritten false (end_at (peer s) p).tcp.fin_at (end_at (peer s) q).tcp.fin_at refl (ap (λ (v : EndView). v.fin_at) only.same)) h

      answered_other : (d : Duty) (r : Reply) (p : PathState C) → is_event d ≡ false → At (peer (side_of d)) p → At (peer (side_of d)) (answered k d r p)
      answered_other (duties.Step step_duties.Events) r p other h = absurd (true≢false other)
      answered_other d r p other h = other_goes (side_of d) (writes d) p _ refl (writes_no_more k d r p) h

      each_goes : (s : Side) (d : Duty) (r : Reply) (p : PathState C) → is_event d ≡ false → IsFit s p → At s p → At s (answered k d r p)
      each_goes s d r p other fit h =
          let q = answered k d r p in
          ⊎_elim
          (λ own. subst (λ t. IsFit t p → At t p → At t q) own (own_goes d r p other) fit h)
          (λ away. subst (λ t. At t p → At t q) away (answered_other d r p other) h)
          (sides s (side_of d))

      -- ---- an event

      side_goes : (s t : Side) (f : PathEnd) (p q : PathState C) → q.a ≡ pick s f p.a → q.b ≡ pick s p.b f → (At s p → Holds f.tcp) → At t p → At t q
      side_goes A A f p q a b x h = subst (λ (g : PathEnd). Holds g.tcp) (sym a) (x h)
      side_goes A B f p q a b x h = subst (λ (g : PathEnd). Holds g.tcp) (sym b) h
      side_goes B A f p q a b x h = subst (λ (g : PathEnd). Holds g.tcp) (sym a) h
      side_goes B B f p q a b x h = subst (λ (g : PathEnd). Holds g.tcp) (sym b) (x h)

      died_or : (e : PathEnd) → Holds e.tcp → Holds (died_unless_dead e).tcp
      died_or e h = elim (is_dead e.tcp.state) as (λ b. Holds (if b then e else died e).tcp) [ true ↦ h | false ↦ kept.dies false e.tcp h ]

      line_goes : (t : Side) (action : LineAction) (p : PathState C) → At t p → At t (after_line action p)
      line_goes A actions.Die p h = died_or p.a h
      line_goes B actions.Die p h = died_or p.b h
      line_goes t (actions.Prio s backup) p h = side_goes s t (with_priority backup (end_at s p)) p (after_line (actions.Prio s backup) p) refl refl (λ x. kept.same (end_at s p).tcp (with_priority backup (end_at s p)).tcp refl refl x) h
      line_goes t (actions.Announce s id) p h = h
      line_goes t (actions.Withdraw s id) p h = h

      fired_goes : (now : ℕ) (e : PathEnd) → Holds e.tcp → Holds (after_firing now e).tcp
      fired_goes now e h = elim (is_sixth e.tcp) as (λ b. Holds (if b then after_death true e.tcp else after_expiry now e.tcp))
          [ true ↦ kept.dies true e.tcp h | false ↦ kept.same e.tcp (after_expiry now e.tcp) refl refl h ]

      -- a copy comes to its end
      module _ (p : PathState C) (others : List Duty) (first : p.agenda ≡ duties.Step step_duties.Events ∷ others) (due : Due) (next : next_event p ≡ Some (happenings.Arrives due))
          (now : ℕ) (fit : IsFit due.to p) (h : At due.to p) where
        abbrev s : Side
        s = due.to

        abbrev e : PathEnd
        e = end_at s p

        abbrev Stays : PathEnd → Type 0
        Stays f = Holds f.tcp ⊎ Over s p

        abbrev copy : (segment : HeardSegment) → heard_in k s (arriving due p.link) p ≡ Some segment → Comes k p
        copy segment heard = record { others = others; first = first; due = due; next = next; segment = segment; heard = heard }

        meant : (segment : HeardSegment) (heard : heard_in k s (arriving due p.link) p ≡ Some segment) (m : Meaning) → judged_in (is_joined p.profile) s (options_heard e segment) e ≡ judged.As m
            → MeansIs (copy_of (options_heard e segment)) e.tcp m → Stays (after_judged p.profile s now (options_heard e segment) (judged.As m) e)
        meant segment heard (means.Taken pos a) is fits = let x = options_heard e segment in
            fit.takes (record { copy = copy segment heard; position = pos; acknowledged = a; taken = is }) refl (after_judged p.profile s now x (judged.As (means.Taken pos a)) e).tcp
            (taken_recv p.profile s now x e pos a) (taken_fin p.profile s now x e pos a) h
        meant segment heard (means.Accepts a) is fits = let x = options_heard e segment in
            inl (kept.same e.tcp (after_judged p.profile s now x (judged.As (means.Accepts a)) e).tcp (accepted_recv p.profile s now x e a) (accepted_fin p.profile s now x e a (fit.opens (copy segment heard) refl a fits)) h)
        meant segment heard means.Opens is fits = let x = options_heard e segment in
            inl (kept.same e.tcp (after_judged p.profile s now x (judged.As means.Opens) e).tcp refl (no_fin e.tcp.fin_at x.fin (1 + length x.payload) fits.1.1.1) h)
        meant segment heard means.Kills is fits = inl (kept.dies false e.tcp h)
        meant segment heard m is fits = inl (kept.same e.tcp (after_judged p.profile s now (options_heard e segment) (judged.As m) e).tcp refl refl h)

        judged_stays : (segment : HeardSegment) → heard_in k s (arriving due p.link) p ≡ Some segment → (verdict : Judged) → judged_in (is_joined p.profile) s (options_heard e segment) e ≡ verdict
            → MeansIs (copy_of (options_heard e segment)) e.tcp (taken_as verdict) → Stays (after_judged p.profile s now (options_heard e segment) verdict e)
        judged_stays segment heard (judged.As m) is fits = meant segment heard m is fits
        judged_stays segment heard verdict is fits = inl (kept.same e.tcp (after_judged p.profile s now (options_heard e segment) verdict e).tcp refl refl h)

        heard_stays : (segment : HeardSegment) → heard_in k s (arriving due p.link) p ≡ Some segment
            → let x = options_heard e segment in Stays (after_judged p.profile s now x (judged_in (is_joined p.profile) s x e) e)
        heard_stays segment heard =
            let x = options_heard e segment in
            judged_stays segment heard (judged_in (is_joined p.profile) s x e) refl
            (judged_taken x.rst (items_of (is_joined p.profile) s x) e (λ m. MeansIs (copy_of x) e.tcp m) tt (is_joined p.profile) (meaning_of (copy_of x) e.tcp) (means_so (copy_of x) e.tcp))

      abbrev StaysOr : Side → PathState C → PathState C → Type 0
      StaysOr t p q = At t q ⊎ Over t p

      copy_goes : (t : Side) (p : PathState C) (others : List Duty) → p.agenda ≡ duties.Step step_duties.Events ∷ others → (due : Due) → next_event p ≡ Some (happenings.Arrives due) → IsFit t p → At t p
          → StaysOr t p (copy_heard due.to (heard_in k due.to (arriving due p.link) p) (record (at_tick due.tick p) { link = after_delivery due p.link }))
      copy_goes t p others first due next fit h = by (heard_in k due.to (arriving due p.link) p) refl
        where
          at_other : (segment : HeardSegment) → t ≡ peer due.to → At t (copy_heard due.to (Some segment) (record (at_tick due.tick p) { link = after_delivery due p.link }))
          at_other segment away = side_other due.to t away _ (record (at_tick due.tick p) { link = after_delivery due p.link }) (copy_heard due.to (Some segment) (record (at_tick due.tick p) { link = after_delivery due p.link })) refl refl h
            where
              side_other : (s t : Side) → t ≡ peer s → (f : PathEnd) (p q : PathState C) → q.a ≡ pick s f p.a → q.b ≡ pick s p.b f → At t p → At t q
              side_other A A away f p q a b h = absurd cc
              side_other A B away f p q a b h = subst (λ (g : PathEnd). Holds g.tcp) (sym b) h
              side_other B A away f p q a b h = subst (λ (g : PathEnd). Holds g.tcp) (sym a) h
              side_other B B away f p q a b h = absurd cc

          own : (segment : HeardSegment) → heard_in k due.to (arriving due p.link) p ≡ Some segment → t ≡ due.to → StaysOr t p (copy_heard due.to (Some segment) (record (at_tick due.tick p) { link = after_delivery due p.link }))
          own segment heard same = subst (λ u. StaysOr u p (copy_heard due.to (Some segment) (record (at_tick due.tick p) { link = after_delivery due p.link }))) (sym same)
              (⊎_elim (λ held. inl (here due.to (record (at_tick due.tick p) { link = after_delivery due p.link }) _ held)) (λ over. inr over)
              (heard_stays p others first due next (at_tick due.tick p).clock (subst (λ u. IsFit u p) same fit) (subst (λ u. At u p) same h) segment heard))

          by : (o : Option HeardSegment) → heard_in k due.to (arriving due p.link) p ≡ o → StaysOr t p (copy_heard due.to o (record (at_tick due.tick p) { link = after_delivery due p.link }))
          by None is = inl h
          by (Some segment) is = ⊎_elim (λ same. own segment is (sym same)) (λ away. inl (at_other segment (sym away))) (sides t due.to)

      event_goes : (o : Option Event) (r : Reply) (t : Side) (p : PathState C) (others : List Duty) → p.agenda ≡ duties.Step step_duties.Events ∷ others → next_event p ≡ o → IsFit t p → At t p
          → StaysOr t p (happens_if k o r p)
      event_goes None r t p others first is fit h = inl h
      event_goes (Some (happenings.Joins tick)) r t p others first is fit h = inl (by (is_never r))
        where
          by : (b : Bool) → let x : PathState C = record (at_tick tick p) { joined_at = None } in At t (if b then goes_on A (never_joined r x.a) (leaves A) x else goes_on A (opened_by (keys_begun r) x.a) (emission A) x)
          by true = let x : PathState C = record (at_tick tick p) { joined_at = None } in side_goes A t (never_joined r x.a) p (goes_on A (never_joined r x.a) (leaves A) x) refl refl (λ own. kept.dies false p.a.tcp own) h
          by false = let x : PathState C = record (at_tick tick p) { joined_at = None } in side_goes A t (opened_by (keys_begun r) x.a) p (goes_on A (opened_by (keys_begun r) x.a) (emission A) x) refl refl (λ own. opened_goes (keys_begun r) p.a own) h
      event_goes (Some (happenings.Takes line)) r t p others first is fit h = inl (line_goes t line.action (record (at_tick line.tick p) { lines = tail_of p.lines }) h)
      event_goes (Some (happenings.Arrives due)) r t p others first is fit h = copy_goes t p others first due is fit h
      event_goes (Some (happenings.Fires s tick)) r t p others first is fit h =
          let q : PathState C = at_tick tick p in inl (side_goes s t (after_firing q.clock (end_at s q)) q (timer_fired s q) refl refl (λ own. fired_goes q.clock (end_at s q) own) h)

      -- ---- a duty that is passed

      passed_own : (d : Duty) (p : PathState C) → May p.profile → At (side_of d) p → At (side_of d) (passed d p)
      passed_own (duties.Ask (ask_duties.CheckFailed s)) p may h = here s p (after_check p.profile (end_at s p)) (kept.checks p.profile may (end_at s p) h)
      passed_own (duties.Step (step_duties.Heard s index)) p may h =
          let e = end_at s p in let f = item_passed s (item_of index e) e in
          rests s p f (ap (λ (t : EndState). t.recv) (item_tcp s (item_of index e) e)) (ap (λ (t : EndState). t.fin_at) (item_tcp s (item_of index e) e)) h
      passed_own (duties.Step (step_duties.PlainAck s)) p may h = rests s p (with_plain_ack (end_at s p)) refl refl h
      passed_own (duties.Step (step_duties.Unmapped s)) p may h = rests s p (after_pieces (end_at s p)) refl refl h
      passed_own (duties.Silent (silent_duties.Timer s)) p may h = rests s p (with_timer_settled p.clock (end_at s p)) refl refl h
      passed_own (duties.Silent (silent_duties.Keep s)) p may h = here s p (after_keep s (end_at s p)) (kept.keeps s (end_at s p) h)
      passed_own (duties.Silent (silent_duties.PassFin s)) p may h = here s p (after_pass_fin (end_at s p)) (kept.fin (end_at s p) h)
      passed_own d p may h = h

      passed_other : (d : Duty) (p : PathState C) → At (peer (side_of d)) p → At (peer (side_of d)) (passed d p)
      passed_other (duties.Step step_duties.Events) p h = h
      passed_other d p h = other_goes (side_of d) (writes d) p _ refl (passes_no_more d p) h

      passed_goes : (s : Side) (d : Duty) (p : PathState C) → May p.profile → At s p → At s (passed d p)
      passed_goes s d p may h = ⊎_elim
          (λ own. subst (λ t. At t p → At t (passed d p)) own (passed_own d p may) h)
          (λ away. subst (λ t. At t p → At t (passed d p)) away (passed_other d p) h)
          (sides s (side_of d))

      abbrev Lasting : PathState C → PathState C → Type 0
      Lasting p q = (q.profile ≡ p.profile) × (May p.profile → (s : Side) → At s p → At s q)

      goes_lasts : Lasts Lasting
      goes_lasts = record {
        agenda = λ ds p. (refl, λ may s h. h);
        chains = λ p q r x y. (y.0 ∙ x.0, λ may s h. y.1 (subst May (sym x.0) may) s (x.1 may s h));
        passes = λ d p. (ap (λ (v : PathView C). v.profile) (passes_no_more d p).same, λ may s h. passed_goes s d p may h);
      }

      -- ---- a turn

      duty_goes : (s : Side) (d : Duty) (ds : List Duty) (r : Reply) (p : PathState C) → let x : PathState C = with_agenda (d ∷ ds) p in IsFit s x → At s x → StaysOr s x (answered k d r x)
      duty_goes s (duties.Step step_duties.Events) ds r p fit h = let x : PathState C = with_agenda (duties.Step step_duties.Events ∷ ds) p in event_goes (next_event x) r s x ds refl refl fit h
      duty_goes s d ds r p fit h = inl (each_goes s d r (with_agenda (d ∷ ds) p) refl fit h)

      pub takes_goes : (r : Reply) (p : PathState C) (s : Side) → IsFit s p → At s p → StaysOr s p (takes k r p)
      takes_goes r p s fit h = by p.agenda fit h
        where
          by : (ds : List Duty) → let x : PathState C = with_agenda ds p in IsFit s x → At s x → StaysOr s x (takes k r x)
          by [] fit h = inl h
          by (d ∷ ds) fit h =
              let x : PathState C = with_agenda (d ∷ ds) p in let q : PathState C = answered k d r x in
              let same : q.profile ≡ p.profile = ap (λ (v : PathView C). v.profile) (writes_no_more k d r x).same in
              ⊎_elim (λ held. inl ((settled_lasts Lasting goes_lasts q.agenda q).1 (subst May (sym same) fit.may) s held)) (λ over. inr over) (duty_goes s d ds r p fit h)

      pub begins_goes : (p : PathState C) (s : Side) → May p.profile → At s p → At s (begins_turn p)
      begins_goes p s may h = (begins_lasts Lasting goes_lasts p).1 may s h

      pub next_goes : (p : PathState C) (s : Side) → May p.profile → At s p → At s (next_round p)
      next_goes p s may h = (begins_lasts Lasting goes_lasts (record p { clock = p.until; until = p.until + 100 })).1 may s h
