-- An end whose FIN may be sent has its SYN acknowledged, whatever its path is answered.
use Rattle.own_runs.proofs.Words.{◌≡◌, refl, sym, ◌∙◌, ap, subst, ℕ, zero, suc, ◌≤◌, ◌⊎◌, inl, inr, ⊎_elim, Bool, true, false, if◌then◌else◌, nat_le, nat_lt}
use Rattle.own_runs.proofs.Words.{Option, Some, None, List, [], ◌∷◌, arith, ◌==◌, ◌&&◌, is_some, and_parts, both_ways, false≢true, eqb-false, le-leb}
use Rattle.own_runs.proofs.Words.{leb-true, ltb-false, ltb-true, Side, A, B, Record, SendState, ack_kind, after_acknowledge, after_resent, sample_of}
use Rattle.own_runs.proofs.Words.{uncovered, EndState, is_at_limit, is_dead, is_half_open, is_waiting, PlainSegment, Duty, StepDuty, Reply, is_nil, tail_of}
use Rattle.own_runs.proofs.Words.{stands, passed, answered, Grant, grant_in, answered_grant, answered_data, first_unsent, answer_occasion, answer_of}
use Rattle.own_runs.proofs.Words.{resend_occasion, dead_answer, resend_of, PathEnd, died, at_tick, PathState, end_at, goes_on, left, with_agenda, with_end}
use Rattle.own_runs.proofs.Words.{syn_ack_said, settled, answers, takes, begins_turn, answered_heard, answered_item, item_of, item_passed}
use Rattle.dss_mapping.specs.declared.kept.KeptMapping.{KeptMapping}
use Rattle.link_model.specs.Steps.{arriving, after_delivery}
use Rattle.path_segments.specs.Heard.{HeardSegment}
use Rattle.join_handshake.specs.declared.hearing.JoinSyn.{JoinSyn}
use Rattle.subflow_recv.specs.Receiving.{after_forget_from}
use Rattle.subflow_send.specs.declared.record.AckKind.{AckKind}
use Rattle.subflow_tcp.specs.declared.handshake.State.{State as EndPhase}
use Rattle.loss_recovery.specs.declared.windows.Told.{Told}
use Rattle.subflow_tcp.specs.Segments.{Copy}
use Rattle.subflow_tcp.specs.declared.segments.Hint.{Hint}
use Rattle.subflow_tcp.specs.declared.verdicts.Meaning.{Meaning}
use Rattle.subflow_tcp.specs.declared.segments.Occasion.{Occasion}
use Rattle.subflow_tcp.specs.Emitting.{after_sending}
use Rattle.subflow_tcp.specs.Expiring.{is_sixth, after_expiry}
use Rattle.subflow_tcp.specs.Opening.{after_begin}
use Rattle.subflow_tcp.specs.States as states
use Rattle.subflow_tcp.specs.Judging.{is_acceptable, is_repeated_syn, is_syn_alone, meaning_acknowledging, meaning_answer, meaning_answering, meaning_at, meaning_connected, meaning_of, meaning_outside, meaning_placed, meaning_within}
use Rattle.subflow_tcp.specs.Taking.{after_ack_kind, after_acknowledgement, after_arrival, after_death, after_dropping_held, after_duplicate, after_established, after_hearing, after_holding, after_interruption, after_keeping_held, after_payload, after_row, after_syn, is_duplicate, is_fin_acked, unkept}
use Rattle.subflow_tcp.specs.Closing.{is_fin_next, after_passing_fin}
use Rattle.fallback_state.specs.declared.fall.Event.{Event as FallEvent}
use Rattle.path_agenda.specs.Agenda.{breaks, emission, leaves, resets, rest_of_turn, start_of_turn, stops, announces, withdraws}
use Rattle.path_agenda.specs.Items.{key_heard, keys_heard}
use Rattle.path_agenda.specs.Words.{replaced}
use Rattle.path_agenda.specs.declared.duty.AskDuty.{AskDuty}
use Rattle.path_agenda.specs.declared.duty.SendDuty.{SendDuty}
use Rattle.path_agenda.specs.declared.duty.SilentDuty.{SilentDuty}
use Rattle.path_agenda.specs.declared.heard.Heard.{Heard}
use Rattle.path_agenda.specs.declared.keys.KeyPair.{KeyPair}
use Rattle.path_core.specs.FastClose.{is_stopped_by}
use Rattle.path_core.specs.declared.events.Event.{Event}
use Rattle.path_core.specs.declared.judged.Judged.{Judged}
use Rattle.path_core.specs.Arrival.{after_judged, copy_judged, copy_of, judged_in, owing_if, reset_for, template_of, with_payload, heard_in, copy_heard}
use Rattle.path_core.specs.DssIn.{held_of, with_learned, with_skipped, counts, is_clash, with_acked, with_data_fin}
use Rattle.path_core.specs.OptionsIn.{hint_of, items_of, options_heard, owes_by}
use Rattle.path_core.specs.Judged.{is_forged, is_passed_over, judged_of, taken_as}
use Rattle.path_core.specs.Breaking.{reset_of, reset_on, answered_break, died_unless_dead, refusal_of}
use Rattle.path_core.specs.Codec.{Codec}
use Rattle.path_core.specs.Timer.{with_timer_settled, timer_fired, template_fired}
use Rattle.path_core.specs.DataFin.{fin_segment_of, having_sent_fin, after_pass_fin, answered_fin_heard, answered_plain_fin, is_fin_set}
use Rattle.path_core.specs.Events.{next_event, after_line, happens_if}
use Rattle.path_core.specs.MpJoin.{join_begun, never_joined, asked_at, is_listening, is_never, join_taken, joined_by, keys_begun, opened_by, syn_of_window, with_mode_refused, is_joined, join_answer, join_asked}
use Rattle.path_core.specs.Addresses.{with_priority, after_peer_notice}
use Rattle.path_store.specs.declared.lines.LineAction.{LineAction}
use Rattle.path_core.specs.Fallback.{after_fell, fell_duties, answered_fell, with_infinite, answered_plain_ack, breaks_by_ack, with_plain_ack}
use Rattle.path_core.specs.MpCapable.{after_keys, answered_opened, answered_peer_key, with_peer_key}
use Rattle.path_core.specs.Deliver.{answered_piece, is_placed, piece_of, after_check, after_pieces, mapping_here, is_wrong, forgotten_by, after_keep, is_dropped}
use Rattle.path_store.specs.Passing.{Piece}
use Rattle.path_core.specs.Handover.{having_sent, sent_on}
use Rattle.path_core.specs.Standing.{after_ack_out, answered_ack_out}
use Rattle.world_laws.proofs.Falls.FailedChecks.{check_failed_so, checked_so, fail_answered_so, fail_heard_so, failed_so, infinite_came_so, infinite_so}

-- ---- an end of a subflow

-- where its FIN may be sent its SYN is acknowledged
abbrev pub Acks : EndState → Type 0
Acks t = states.may_finish t.state ≡ true → 1 ≤ t.send.una

same_acks : (t u : EndState) → u.state ≡ t.state → u.send.una ≡ t.send.una → Acks t → Acks u
same_acks t u state una h may = let was = h (ap states.may_finish (sym state) ∙ may) in omega (arith, una, was)

finish_never : (x : EndPhase) → states.may_finish (states.after_finish x) ≡ false
finish_never EndPhase.Established = refl
finish_never EndPhase.CloseWait = refl
finish_never EndPhase.Waiting = refl
finish_never _ = refl

passed_may : (x : EndPhase) → states.may_finish (states.after_fin_passed x) ≡ true → states.may_finish x ≡ true
passed_may EndPhase.Established is = refl
passed_may EndPhase.FinWait1 is = is
passed_may EndPhase.FinWait2 is = is
passed_may EndPhase.Waiting is = is
passed_may _ is = is

acked_may : (x : EndPhase) → states.may_finish (states.after_fin_acked x) ≡ true → states.may_finish x ≡ true
acked_may EndPhase.FinWait1 is = is
acked_may EndPhase.Closing is = is
acked_may EndPhase.Waiting is = is
acked_may _ is = is

handshake_may : (x : EndPhase) → states.may_finish (states.after_handshake x) ≡ true → (states.may_finish x ≡ true) ⊎ (is_half_open x ≡ true)
handshake_may = elim [ EndPhase.SynReceived ↦ λ is. inr refl | EndPhase.Waiting ↦ λ is. inl is | _ ↦ λ is. inl is ]

-- ---- an acknowledgement

una_more : (pos : ℕ) (v : SendState) → v.una ≤ (after_acknowledge pos v).una
una_more pos v =
    (elim (nat_lt v.una pos && nat_le pos v.nxt) as (λ b. (nat_lt v.una pos && nat_le pos v.nxt) ≡ b → v.una ≤ (if b then record v { una = pos; records = uncovered pos v.records } else v).una)
    [ true ↦ λ is. let l = ltb-true v.una pos (and_parts (nat_lt v.una pos) (nat_le pos v.nxt) is).0 in omega (arith, l) | false ↦ λ is. omega arith ]) refl

una_some : (pos : ℕ) (v : SendState) → 1 ≤ pos → pos ≤ v.nxt → 1 ≤ (after_acknowledge pos v).una
una_some pos v some within = (elim (nat_lt v.una pos) as (λ x. nat_lt v.una pos ≡ x → 1 ≤ (if x && nat_le pos v.nxt then record v { una = pos; records = uncovered pos v.records } else v).una) [
  | true ↦ λ is. subst (λ (b : Bool). 1 ≤ (if b then record v { una = pos; records = uncovered pos v.records } else v).una) (sym (le-leb pos v.nxt within)) some
  | false ↦ λ is. let l = ltb-false v.una pos is in omega (arith, some, l)
]) refl

ack_send : (pos now : ℕ) (t : EndState) → (after_acknowledgement pos now t).send ≡ after_acknowledge pos t.send
ack_send pos now t = elim (ack_kind pos t.send) as (λ kind. (after_ack_kind kind (sample_of pos t.send) now (record t { send = after_acknowledge pos t.send })).send ≡ after_acknowledge pos t.send)
    [ AckKind.New octets ↦ refl | _ ↦ refl ]

ack_may : (pos now : ℕ) (t : EndState) → states.may_finish (after_acknowledgement pos now t).state ≡ true → states.may_finish t.state ≡ true
ack_may pos now t = elim (ack_kind pos t.send) as (λ kind. states.may_finish (after_ack_kind kind (sample_of pos t.send) now u).state ≡ true → states.may_finish t.state ≡ true)
    [ AckKind.New octets ↦ λ is. fin (is_fin_acked u.send) is | _ ↦ λ is. is ]
  where
    u : EndState
    u = record t { send = after_acknowledge pos t.send }

    fin : (b : Bool) → states.may_finish (if b then states.after_fin_acked t.state else t.state) ≡ true → states.may_finish t.state ≡ true
    fin = elim [ true ↦ λ is. acked_may t.state is | false ↦ λ is. is ]

-- an acknowledgement is one of the SYN, or the SYN was acknowledged before
acknowledgement_acks : (pos now : ℕ) (t : EndState) → (states.may_finish t.state ≡ true → (1 ≤ t.send.una) ⊎ ((1 ≤ pos) × (pos ≤ t.send.nxt))) → Acks (after_acknowledgement pos now t)
acknowledgement_acks pos now t h may =
    let same = ap (λ (v : SendState). v.una) (ack_send pos now t) in
    ⊎_elim (λ was. let more = una_more pos t.send in omega (arith, same, more, was))
    (λ new. let some = una_some pos t.send new.0 new.1 in omega (arith, same, some)) (h (ack_may pos now t may))

-- ---- a segment

-- a segment that completes the handshake acknowledges the SYN
abbrev Fits : Meaning → EndState → Type 0
Fits (Meaning.Accepts acknowledged) t = (1 ≤ acknowledged) × (acknowledged ≤ t.send.nxt)
Fits (Meaning.Taken pos acknowledged) t = is_half_open t.state ≡ true → (1 ≤ acknowledged) × (acknowledged ≤ t.send.nxt)
Fits _ t = Unit {0}

not_zero : (n : ℕ) → (n ≡ 0 → ⊥) → 1 ≤ n
not_zero = elim [ zero ↦ λ apart. absurd (apart refl) | suc n ↦ λ apart. omega arith ]

module _ (c : Copy) (t : EndState) where
  outside_fits : Fits (meaning_outside c) t
  outside_fits = elim c.rst as (λ b. Fits (if b then Meaning.Ignored else Meaning.Outside) t) [ true ↦ tt | false ↦ tt ]

  answer_fits : (acknowledged : ℕ) → 1 ≤ acknowledged → acknowledged ≤ t.send.nxt → Fits (meaning_answer c acknowledged) t
  answer_fits acknowledged some within = by c.rst c.syn
    where
      by : (r s : Bool) → Fits (if r then Meaning.Kills else (if s then Meaning.Accepts acknowledged else Meaning.Ignored)) t
      by true s = tt
      by false true = (some, within)
      by false false = tt

  answering_fits : (o : Option ℕ) → Fits (meaning_answering o c t) t
  answering_fits None = tt
  answering_fits (Some acknowledged) = by (nat_lt 0 acknowledged && nat_le acknowledged t.send.nxt) refl
    where
      by : (b : Bool) → (nat_lt 0 acknowledged && nat_le acknowledged t.send.nxt) ≡ b → Fits (if b then meaning_answer c acknowledged else Meaning.Ignored) t
      by true is = let parts = and_parts (nat_lt 0 acknowledged) (nat_le acknowledged t.send.nxt) is in
          let some = ltb-true 0 acknowledged parts.0 in answer_fits acknowledged (omega (arith, some)) (leb-true acknowledged t.send.nxt parts.1)
      by false is = tt

  acknowledging_fits : (o : Option ℕ) (pos : ℕ) → Fits (meaning_acknowledging o pos t) t
  acknowledging_fits None pos = tt
  acknowledging_fits (Some acknowledged) pos = by (nat_lt t.send.nxt acknowledged) refl
    where
      zero_not : (half b : Bool) → half ≡ true → (acknowledged == 0) ≡ b → (half && b) ≡ false → 1 ≤ acknowledged
      zero_not true true half is none = absurd (false≢true (sym none))
      zero_not true false half is none = not_zero acknowledged (eqb-false acknowledged 0 is)
      zero_not false b half is none = absurd (false≢true half)

      half : (b : Bool) → (is_half_open t.state && (acknowledged == 0)) ≡ b → acknowledged ≤ t.send.nxt → Fits (if b then Meaning.Unacknowledging else Meaning.Taken pos acknowledged) t
      half true is within = tt
      half false is within = λ halved. (zero_not (is_half_open t.state) (acknowledged == 0) halved refl is, within)

      by : (b : Bool) → nat_lt t.send.nxt acknowledged ≡ b
          → Fits (if b then Meaning.Ahead else (if is_half_open t.state && (acknowledged == 0) then Meaning.Unacknowledging else Meaning.Taken pos acknowledged)) t
      by true is = tt
      by false is = half (is_half_open t.state && (acknowledged == 0)) refl (ltb-false t.send.nxt acknowledged is)

  within_fits : (pos : ℕ) → Fits (meaning_within pos c t) t
  within_fits pos = by c.rst (pos == t.recv.edge) c.syn
    where
      by : (r e s : Bool) → Fits (if r then (if e then Meaning.Kills else Meaning.Challenged) else (if s then Meaning.Challenged else meaning_acknowledging c.acknowledged pos t)) t
      by true true s = tt
      by true false s = tt
      by false e true = tt
      by false e false = acknowledging_fits c.acknowledged pos

  placed_fits : (o : Option ℕ) → Fits (meaning_placed o c t) t
  placed_fits None = outside_fits
  placed_fits (Some pos) = elim (is_acceptable t.recv.edge pos c) as (λ b. Fits (if b then meaning_within pos c t else meaning_outside c) t)
      [ true ↦ within_fits pos | false ↦ outside_fits ]

  connected_fits : Fits (meaning_connected c t) t
  connected_fits = by (is_at_limit t) (is_repeated_syn c t)
    where
      by : (l r : Bool) → Fits (if l then Meaning.Ignored else (if r then Meaning.RepeatedSyn else meaning_placed c.position c t)) t
      by true r = tt
      by false true = tt
      by false false = placed_fits c.position

  meaning_fits : Fits (meaning_of c t) t
  meaning_fits = elim t.state as (λ x. Fits (meaning_at x c t) t)
      [ EndPhase.Dead ↦ dead c.rst | EndPhase.Waiting ↦ tt | EndPhase.Listen ↦ listens (is_syn_alone c) | EndPhase.SynSent ↦ opens (is_at_limit t) | _ ↦ connected_fits ]
    where
      dead : (b : Bool) → Fits (if b then Meaning.Ignored else Meaning.Unwanted) t
      dead = elim [ true ↦ tt | false ↦ tt ]

      listens : (b : Bool) → Fits (if b then Meaning.Opens else Meaning.Ignored) t
      listens = elim [ true ↦ tt | false ↦ tt ]

      opens : (b : Bool) → Fits (if b then Meaning.Ignored else meaning_answering c.acknowledged c t) t
      opens = elim [ true ↦ tt | false ↦ answering_fits c.acknowledged ]

over_fits : (m : Meaning) (over : Bool) (t : EndState) → Fits m t → Fits (taken_as (if over then Judged.As Meaning.Ignored else Judged.As m)) t
over_fits m true t h = tt
over_fits m false t h = h

-- a path that joins takes it as what it means, or not at all
judged_fits : (joined rst : Bool) (items : List Heard) (m : Meaning) (e : PathEnd) (t : EndState) → Fits m t → Fits (taken_as (judged_of joined rst items m e)) t
judged_fits false rst items m e t h = h
judged_fits true rst items Meaning.Opens e t h = elim (is_some (join_asked items)) as (λ b. Fits (taken_as (if b then Judged.Asks else Judged.Lacks)) t)
    [ true ↦ tt | false ↦ tt ]
judged_fits true rst items (Meaning.Accepts acknowledged) e t h =
    elim (is_some (join_answer items e.modes)) as (λ b. Fits (taken_as (if b then Judged.As (Meaning.Accepts acknowledged) else Judged.Forged)) t)
    [ true ↦ h | false ↦ tt ]
judged_fits true rst items Meaning.RepeatedSyn e t h = tt
judged_fits true rst items (Meaning.Taken pos acknowledged) e t h = by (is_passed_over rst items e) (is_forged items e)
  where
    by : (o f : Bool) → Fits (taken_as (if o then Judged.As Meaning.Ignored else (if f then Judged.Forged else Judged.As (Meaning.Taken pos acknowledged)))) t
    by true f = tt
    by false true = tt
    by false false = h
judged_fits true rst items Meaning.Ignored e t h = over_fits Meaning.Ignored (is_passed_over rst items e) t h
judged_fits true rst items m e t h = over_fits m (is_passed_over rst items e) t h

row_acks : (kind : AckKind) (told : Told) (c : Copy) (t : EndState) → Acks t → Acks (after_row kind told c t)
row_acks kind told c t h = elim (is_duplicate kind told c t) as (λ b. Acks (if b then after_duplicate t else after_interruption t)) [ true ↦ h | false ↦ h ]

arrival_acks : (m : Meaning) (hint : Hint) (now : ℕ) (c : Copy) (t : EndState) → Fits m t → Acks t → Acks (after_arrival m hint now c t)
arrival_acks Meaning.Opens hint now c t fits h = λ may. absurd (false≢true may)
arrival_acks (Meaning.Accepts acknowledged) hint now c t fits h =
    acknowledgement_acks acknowledged now (record (after_hearing (after_payload 1 hint c t)) { state = EndPhase.Established }) (λ may. inr fits)
arrival_acks Meaning.Kills hint now c t fits h = λ may. absurd (false≢true may)
arrival_acks (Meaning.Taken pos acknowledged) hint now c t fits h =
    let u : EndState = after_established (after_hearing (after_payload pos hint c t)) in
    row_acks _ _ c (after_acknowledgement acknowledged now u)
    (acknowledgement_acks acknowledged now u (λ may. ⊎_elim (λ was. inl (h was)) (λ half. inr (fits half)) (handshake_may t.state may)))
arrival_acks _ hint now c t fits h = h

payload_acks : (m : Meaning) (octets : List ℕ) (t : EndState) → Acks t → Acks (with_payload m octets t)
payload_acks (Meaning.Taken pos acknowledged) octets t h = elim (is_nil octets) as (λ b. Acks (if b then t else after_holding pos octets t)) [ true ↦ h | false ↦ h ]
payload_acks Meaning.Ignored octets t h = h
payload_acks _ octets t h = h

payload_fits : (m : Meaning) (octets : List ℕ) (t : EndState) → Fits m t → Fits m (with_payload m octets t)
payload_fits (Meaning.Taken pos acknowledged) octets t h = elim (is_nil octets) as (λ b. Fits (Meaning.Taken pos acknowledged) (if b then t else after_holding pos octets t))
    [ true ↦ h | false ↦ h ]
payload_fits (Meaning.Accepts acknowledged) octets t h = h
payload_fits _ octets t h = tt

owing_acks : (b : Bool) (t : EndState) → Acks t → Acks (owing_if b t)
owing_acks = elim [ true ↦ λ t h. h | false ↦ λ t h. h ]

heard_acks : (joined : Bool) (told : List KeptMapping) (answer : _) (s : Side) (now : ℕ) (heard : HeardSegment) (e : PathEnd) → Acks e.tcp
    → Acks (copy_judged joined told answer s now heard (taken_as (judged_in joined s heard e)) e).tcp
heard_acks joined told answer s now heard e h =
    let items = items_of joined s heard in
    let m : Meaning = taken_as (judged_in joined s heard e) in
    let fits : Fits m e.tcp = judged_fits joined heard.rst items (meaning_of (copy_of heard) e.tcp) e e.tcp (meaning_fits (copy_of heard) e.tcp) in
    owing_acks (owes_by m items) _
    (arrival_acks m (hint_of items) now (copy_of heard) (with_payload m heard.payload e.tcp) (payload_fits m heard.payload e.tcp fits) (payload_acks m heard.payload e.tcp h))

-- ---- a death

dead_acks : (e : PathEnd) → Acks (died e).tcp
dead_acks e may = absurd (false≢true may)

unless_dead : (e : PathEnd) → Acks e.tcp → Acks (died_unless_dead e).tcp
unless_dead e h = elim (is_dead e.tcp.state) as (λ b. Acks (if b then e else died e).tcp) [ true ↦ h | false ↦ dead_acks e ]

-- ---- a path

module _ {C : Type 0} where
  pub record BothAck (p : PathState C) : Type 0 where
    pub a : Acks p.a.tcp
    pub b : Acks p.b.tcp

  pub ack_at : (s : Side) (p : PathState C) → BothAck p → Acks (end_at s p).tcp
  ack_at = elim [ A ↦ λ p h. h.a | B ↦ λ p h. h.b ]

  goes_acks : (s : Side) (e : PathEnd) (ds : List Duty) (p : PathState C) → Acks e.tcp → BothAck p → BothAck (goes_on s e ds p)
  goes_acks = elim [ A ↦ λ e ds p g h. record { a = g; b = h.b } | B ↦ λ e ds p g h. record { a = h.a; b = g } ]

  with_acks : (s : Side) (e : PathEnd) (p : PathState C) → Acks e.tcp → BothAck p → BothAck (with_end s e p)
  with_acks = elim [ A ↦ λ e p g h. record { a = g; b = h.b } | B ↦ λ e p g h. record { a = h.a; b = g } ]

  agenda_acks : (ds : List Duty) (p : PathState C) → BothAck p → BothAck (with_agenda ds p)
  agenda_acks ds p h = record { a = h.a; b = h.b }

  -- an end whose subflow is where it was
  same_goes : (s : Side) (e : PathEnd) (p : PathState C) → e.tcp.state ≡ (end_at s p).tcp.state → e.tcp.send.una ≡ (end_at s p).tcp.send.una → BothAck p → Acks e.tcp
  same_goes s e p state una h = same_acks (end_at s p).tcp e.tcp state una (ack_at s p h)

  same_on : (s : Side) (e : PathEnd) (ds : List Duty) (p : PathState C) → e.tcp.state ≡ (end_at s p).tcp.state → e.tcp.send.una ≡ (end_at s p).tcp.send.una → BothAck p → BothAck (goes_on s e ds p)
  same_on s e ds p state una h = goes_acks s e ds p (same_goes s e p state una h) h

  -- ---- in silence

  item_goes : (s : Side) (o : Option Heard) (p : PathState C) → BothAck p → Acks (item_passed s o (end_at s p)).tcp
  item_goes s None p h = ack_at s p h
  item_goes s (Some Heard.Dss) p h = same_goes s (item_passed s (Some Heard.Dss) (end_at s p)) p refl refl h
  item_goes s (Some (Heard.DataAck next window)) p h = ack_at s p h
  item_goes s (Some (Heard.Mapping fin)) p h = elim (counts (end_at s p)) as (λ b. Acks (if b then with_learned (end_at s p) else with_skipped (end_at s p)).tcp)
      [ true ↦ same_goes s (with_learned (end_at s p)) p refl refl h | false ↦ same_goes s (with_skipped (end_at s p)) p refl refl h ]
  item_goes s (Some (Heard.DataFin place)) p h = elim (counts (end_at s p)) as (λ b. Acks (if b then with_data_fin place (end_at s p) else end_at s p).tcp)
      [ true ↦ same_goes s (with_data_fin place (end_at s p)) p refl refl h | false ↦ ack_at s p h ]
  item_goes s (Some Heard.Fail) p h = ack_at s p h
  item_goes s _ p h = ack_at s p h

  edge_goes : (s : Side) (checksums : Bool) (o : Option KeptMapping) (p : PathState C) → BothAck p → Acks (forgotten_by checksums o (end_at s p)).tcp
  edge_goes s checksums None p h = ack_at s p h
  edge_goes s checksums (Some kept) p h =
      elim (is_wrong checksums kept (end_at s p).tcp) as (λ b. Acks (if b then record e { tcp = record e.tcp { recv = after_forget_from kept.pos e.tcp.recv } } else e).tcp)
      [ true ↦ same_goes s (record e { tcp = record e.tcp { recv = after_forget_from kept.pos e.tcp.recv } }) p refl refl h | false ↦ ack_at s p h ]
    where
      e : PathEnd
      e = end_at s p

  keep_goes : (s : Side) (b : Bool) (p : PathState C) → BothAck p → Acks (if b then after_dropping_held (end_at s p).tcp else after_keeping_held (end_at s p).tcp)
  keep_goes s true p h = same_acks (end_at s p).tcp (after_dropping_held (end_at s p).tcp) refl refl (ack_at s p h)
  keep_goes s false p h = same_acks (end_at s p).tcp (after_keeping_held (end_at s p).tcp) refl refl (ack_at s p h)

  fin_goes : (s : Side) (b : Bool) (p : PathState C) → BothAck p → Acks (if b then after_passing_fin (end_at s p).tcp else (end_at s p).tcp)
  fin_goes s true p h = λ may. ack_at s p h (passed_may (end_at s p).tcp.state may)
  fin_goes s false p h = ack_at s p h

  passed_acks : (d : Duty) (p : PathState C) → BothAck p → BothAck (passed d p)
  passed_acks (Duty.Silent (SilentDuty.Timer s)) p h = with_acks s (with_timer_settled p.clock (end_at s p)) p (same_goes s (with_timer_settled p.clock (end_at s p)) p refl refl h) h
  passed_acks (Duty.Step (StepDuty.Heard s index)) p h = with_acks s (item_passed s (item_of index (end_at s p)) (end_at s p)) p (item_goes s (item_of index (end_at s p)) p h) h
  passed_acks (Duty.Silent (SilentDuty.Keep s)) p h = with_acks s (after_keep s (end_at s p)) p (keep_goes s (is_dropped s (end_at s p)) p h) h
  passed_acks (Duty.Step (StepDuty.PlainAck s)) p h = with_acks s (with_plain_ack (end_at s p)) p (same_goes s (with_plain_ack (end_at s p)) p refl refl h) h
  passed_acks (Duty.Step (StepDuty.Unmapped s)) p h = with_acks s (after_pieces (end_at s p)) p (same_goes s (after_pieces (end_at s p)) p refl refl h) h
  passed_acks (Duty.Ask (AskDuty.CheckFailed s)) p h = with_acks s (after_check p.profile (end_at s p)) p (edge_goes s p.profile.spelling.checksums (mapping_here (end_at s p)) p h) h
  passed_acks (Duty.Silent (SilentDuty.PassFin s)) p h = with_acks s (after_pass_fin (end_at s p)) p (fin_goes s (is_fin_next (end_at s p).tcp) p h) h
  passed_acks (Duty.Ask AskDuty.JoinAgain) p h = h
  passed_acks _ p h = h

  pub settled_acks : (ds : List Duty) (p : PathState C) → BothAck p → BothAck (settled ds p)
  settled_acks [] p h = agenda_acks [] p h
  settled_acks (d ∷ ds) p h = (elim (stands d p) as (λ b. BothAck (settled ds (passed d p)) → BothAck (if b then with_agenda (d ∷ ds) p else settled ds (passed d p)))
      [ true ↦ λ rest. agenda_acks (d ∷ ds) p h | false ↦ λ rest. rest ]) (settled_acks ds (passed d p) (passed_acks d p h))

  -- ---- events

  line_acks : (action : LineAction) (p : PathState C) → BothAck p → BothAck (after_line action p)
  line_acks (LineAction.Prio s backup) p h = same_on s (with_priority backup (end_at s p)) (emission s) p refl refl h
  line_acks (LineAction.Announce s id) p h = agenda_acks (announces s id) p h
  line_acks (LineAction.Withdraw s id) p h = agenda_acks (withdraws s id) p h
  line_acks LineAction.Die p h = record { a = unless_dead p.a h.a; b = unless_dead p.b h.b }

  begun_acks : (r : Reply) (dead living : List Duty) (p : PathState C) → BothAck p → BothAck (join_begun r dead living p)
  begun_acks r dead living p h = elim (is_never r) as (λ b. BothAck (if b then goes_on A (never_joined r p.a) dead p else goes_on A (opened_by (keys_begun r) p.a) living p))
      [ true ↦ goes_acks A (never_joined r p.a) dead p (λ may. absurd (false≢true may)) h | false ↦ opens (keys_begun r) ]
    where
      begun : (b : Bool) → Acks (if b then after_begin p.a.tcp else p.a.tcp)
      begun = elim [ true ↦ λ may. absurd (false≢true may) | false ↦ h.a ]

      opens : (o : Option KeyPair) → BothAck (goes_on A (opened_by o p.a) living p)
      opens None = same_on A p.a living p refl refl h
      opens (Some keys) = goes_acks A (opened_by (Some keys) p.a) living p (begun (is_waiting p.a.tcp.state)) h

  fired_acks : (s : Side) (p : PathState C) → BothAck p → BothAck (timer_fired s p)
  fired_acks s p h = elim (is_sixth (end_at s p).tcp) as (λ b. BothAck (goes_on s (record e { tcp = (if b then after_death true e.tcp else after_expiry p.clock e.tcp) }) (template_fired b s) p)) [
    | true ↦ goes_acks s (record e { tcp = after_death true e.tcp }) (template_fired true s) p (λ may. absurd (false≢true may)) h
    | false ↦ same_on s (record e { tcp = after_expiry p.clock e.tcp }) (template_fired false s) p refl refl h
  ]
    where
      e : PathEnd
      e = end_at s p

  copy_acks : (s : Side) (o : Option HeardSegment) (p : PathState C) → BothAck p → BothAck (copy_heard s o p)
  copy_acks s None p h = agenda_acks (emission s) p h
  copy_acks s (Some heard_first) p h =
      let heard : HeardSegment = options_heard (end_at s p) heard_first in
      let joined : Bool = is_joined p.profile in
      let v : Judged = judged_in joined s heard (end_at s p) in
      goes_acks s (after_judged p.profile s p.clock heard v (end_at s p)) (template_of joined s (items_of joined s heard) v) p
      (heard_acks joined (held_of p.profile s heard) (reset_for p.profile s heard) s p.clock heard (end_at s p) (ack_at s p h)) h

  module _ (k : Codec C) where
    -- a segment is handed over
    sent_acks : (s : Side) (sg : PlainSegment) (e : PathEnd) (ds : List Duty) (p : PathState C) → Acks e.tcp → BothAck p → BothAck (sent_on k s sg e ds p)
    sent_acks = elim [ A ↦ λ sg e ds p g h. record { a = g; b = h.b } | B ↦ λ sg e ds p g h. record { a = h.a; b = g } ]

    same_sent : (s : Side) (sg : PlainSegment) (e : PathEnd) (ds : List Duty) (p : PathState C) → e.tcp.state ≡ (end_at s p).tcp.state → e.tcp.send.una ≡ (end_at s p).tcp.send.una
        → BothAck p → BothAck (sent_on k s sg e ds p)
    same_sent s sg e ds p state una h = sent_acks s sg e ds p (same_goes s e p state una h) h

    event_acks : (o : Option Event) (r : Reply) (p : PathState C) → BothAck p → BothAck (happens_if k o r p)
    event_acks None r p h = agenda_acks rest_of_turn p h
    event_acks (Some (Event.Joins tick)) r p h =
        begun_acks r (leaves A) (emission A) (record (at_tick tick p) { joined_at = None }) (record { a = h.a; b = h.b })
    event_acks (Some (Event.Takes line)) r p h =
        line_acks line.action (record (at_tick line.tick p) { lines = tail_of p.lines }) (record { a = h.a; b = h.b })
    event_acks (Some (Event.Arrives due)) r p h =
        copy_acks due.to (heard_in k due.to (arriving due p.link) p) (record (at_tick due.tick p) { link = after_delivery due p.link }) (record { a = h.a; b = h.b })
    event_acks (Some (Event.Fires s tick)) r p h = fired_acks s (at_tick tick p) (record { a = h.a; b = h.b })

    -- ---- replies

    reset_acks : (s : Side) (reason : Option ℕ) (ds : List Duty) (p : PathState C) → BothAck p → BothAck (reset_on k s reason ds p)
    reset_acks s reason ds p h = sent_acks s (reset_of s reason p) (died (end_at s p)) ds p (dead_acks (end_at s p)) h

    break_acks : (s : Side) (reason : ℕ) (r : Reply) (p : PathState C) → BothAck p → BothAck (answered_break k s reason r p)
    break_acks s reason r p h = elim (end_at s p).treated.asked as (λ b. BothAck (if b then answered_ack_out s r (resets s reason) p else reset_on k s (Some reason) (leaves s) p))
        [ true ↦ same_on s (after_ack_out r (end_at s p)) (resets s reason) p refl refl h | false ↦ reset_acks s (Some reason) (leaves s) p h ]

    told_acks : (s : Side) (event : FallEvent) (r : Reply) (p : PathState C) → BothAck p → BothAck (answered_fell s event r p)
    told_acks s event r p h = same_on s (after_fell event r (end_at s p)) (fell_duties s r p) p refl refl h

    grant_acks : (s : Side) (o : Option Grant) (r : Reply) (p : PathState C) → BothAck p → BothAck (answered_grant s o r p)
    grant_acks s None r p h = same_on s _ (left p) p refl refl h
    grant_acks s (Some grant) r p h = same_on s _ p.agenda p refl refl h

    data_acks : (s : Side) (o : Option Record) (r : Reply) (p : PathState C) → BothAck p → BothAck (answered_data k s o r p)
    data_acks s (Some unsent) r p h = same_sent s _ _ p.agenda p refl refl h
    data_acks s None r p h = grant_acks s (grant_in r) r p h

    keys_acks : (s : Side) (r : Reply) (o : Option KeyPair) (p : PathState C) → BothAck p → BothAck (goes_on s (after_keys r o (end_at s p)) (left p) p)
    keys_acks s r o p h = same_on s (after_keys r o (end_at s p)) (left p) p refl refl h

    heard_answered : (s : Side) (item : Heard) (r : Reply) (p : PathState C) → BothAck p → BothAck (answered_heard k s item r p)
    heard_answered s (Heard.DataAck next window) r p h = same_on s (with_acked next r (end_at s p)) _ p refl refl h
    heard_answered s (Heard.Mapping fin) r p h =
        elim (is_clash (end_at s p)) as (λ b. BothAck (if b then answered_break k s 1 r p else goes_on s (with_learned (after_fell FallEvent.MappingHeard r (end_at s p))) (fell_duties s r p) p))
        [ true ↦ break_acks s 1 r p h | false ↦ same_on s (with_learned (after_fell FallEvent.MappingHeard r (end_at s p))) (fell_duties s r p) p refl refl h ]
    heard_answered s (Heard.DataFin place) r p h = same_on s (with_data_fin place (after_fell FallEvent.MappingHeard r (end_at s p))) (fell_duties s r p) p refl refl h
    heard_answered s (Heard.InfiniteMapping place position) r p h =
        infinite_came_so (λ e. BothAck (goes_on s e (fell_duties s r p) p)) place position r (end_at s p) (λ other. same_on s (infinite_so r other (end_at s p)) (fell_duties s r p) p refl refl h)
    heard_answered s (Heard.Keys mine other) r p h = keys_acks s r (Some (record { own = mine; peer = other })) p h
    heard_answered s (Heard.Notice notice) r p h = same_on s (after_peer_notice notice r (end_at s p)) (left p) p refl refl h
    heard_answered s Heard.Fail r p h = fail_answered_so BothAck s r p (same_on s (with_infinite r (end_at s p)) _ p refl refl h) (told_acks s (FallEvent.FailHeard false) r p h)
    heard_answered s (Heard.FastClose key) r p h = agenda_acks (if is_stopped_by r then stops s else left p) p h
    heard_answered s _ r p h = agenda_acks (left p) p h

    item_answered : (s : Side) (o : Option Heard) (r : Reply) (p : PathState C) → BothAck p → BothAck (answered_item k s o r p)
    item_answered s None r p h = agenda_acks (left p) p h
    item_answered s (Some item) r p h = heard_answered s item r p h

    plain_ack_acks : (s : Side) (r : Reply) (p : PathState C) → BothAck p → BothAck (answered_plain_ack k s r p)
    plain_ack_acks s r p h =
        elim (breaks_by_ack p.profile (end_at s p)) as (λ b. BothAck (if b then answered_break k s 6 r p else goes_on s (with_plain_ack (after_fell FallEvent.PlainAck r (end_at s p))) (fell_duties s r p) p)) [
          | true ↦ break_acks s 6 r p h
          | false ↦ same_on s (with_plain_ack (after_fell FallEvent.PlainAck r (end_at s p))) (fell_duties s r p) p refl refl h
        ]

    key_acks : (s : Side) (o : Option ℕ) (r : Reply) (p : PathState C) → BothAck p → BothAck (answered_peer_key s o r p)
    key_acks s None r p h = told_acks s FallEvent.PlainHandshake r p h
    key_acks s (Some key) r p h = same_on s (with_peer_key (Some key) (end_at s p)) (left p) p refl refl h

    opened_acks : (s : Side) (o : Option KeyPair) (r : Reply) (p : PathState C) → BothAck p → BothAck (answered_opened s o r p)
    opened_acks s None r p h = told_acks s FallEvent.PlainHandshake r p h
    opened_acks s (Some keys) r p h = keys_acks s r (Some keys) p h

    piece_acks : (s : Side) (o : Option Piece) (taken : Bool) (p : PathState C) → BothAck p → BothAck (answered_piece s o taken p)
    piece_acks s None taken p h = same_on s _ (breaks s 1) p refl refl h
    piece_acks s (Some piece) true p h = same_on s _ p.agenda p refl refl h
    piece_acks s (Some piece) false p h = same_on s _ (breaks s 1) p refl refl h

    fin_set_acks : (s : Side) (set : Bool) (p : PathState C) → BothAck p → BothAck (answered_fin_heard s set p)
    fin_set_acks s true p h = same_on s _ (left p) p refl refl h
    fin_set_acks s false p h = same_on s _ (breaks s 1) p refl refl h

    plain_fin_acks : (s : Side) (set : Bool) (p : PathState C) → BothAck p → BothAck (answered_plain_fin s set p)
    plain_fin_acks s true p h = same_on s _ (left p) p refl refl h
    plain_fin_acks s false p h = same_on s _ (breaks s 1) p refl refl h

    joined_acks : (s : Side) (o : Option KeyPair) (asked : Option JoinSyn) (r : Reply) (p : PathState C) → BothAck p → BothAck (join_taken s o asked r p)
    joined_acks s None None r p h = agenda_acks _ p h
    joined_acks s None (Some asked) r p h = same_on s (with_mode_refused r (end_at s p)) (replaced (Duty.Send (SendDuty.Refuse s)) p.agenda) p refl refl h
    joined_acks s (Some keys) None r p h = agenda_acks _ p h
    joined_acks s (Some keys) (Some asked) r p h = goes_acks s (joined_by keys asked (end_at s p)) _ p (by (is_listening (end_at s p).tcp.state)) h
      where
        by : (b : Bool) → Acks (if b then after_syn (unkept None) (syn_of_window (end_at s p).treated.window) (end_at s p).tcp else (end_at s p).tcp)
        by = elim [ true ↦ λ may. absurd (false≢true may) | false ↦ ack_at s p h ]

    occasion_acks : (s : Side) (o : Occasion) (sg : PlainSegment) (p : PathState C) → BothAck p → Acks (having_sent o p.clock sg (end_at s p)).tcp
    occasion_acks s o sg p h = elim o as (λ o. Acks (after_sending o p.clock tcp)) [ Occasion.SynAck ↦ resent (tcp.send.una == 0) | _ ↦ ack_at s p h ]
      where
        tcp : EndState
        tcp = (end_at s p).tcp

        resent : (b : Bool) → Acks (record tcp { due = record tcp.due { syn_ack = false }; send = (if b then after_resent p.clock tcp.send else tcp.send) })
        resent = elim [ true ↦ ack_at s p h | false ↦ ack_at s p h ]

    answered_acks : (d : Duty) (r : Reply) (p : PathState C) → BothAck p → BothAck (answered k d r p)
    answered_acks (Duty.Ask AskDuty.JoinAgain) r p h = begun_acks r (replaced (Duty.Ask (AskDuty.Leave A)) p.agenda) (left p) p h
    answered_acks (Duty.Step (StepDuty.Look s)) r p h = same_on s _ (left p) p refl refl h
    answered_acks (Duty.Ask (AskDuty.Window s)) r p h = same_on s (after_ack_out r (end_at s p)) (left p) p refl refl h
    answered_acks (Duty.Send (SendDuty.Update s)) r p h = same_sent s _ _ (left p) p refl refl h
    answered_acks (Duty.Send (SendDuty.FastClose s)) r p h = same_sent s _ _ (left p) p refl refl h
    answered_acks (Duty.Send (SendDuty.Notice s)) r p h = same_sent s _ _ p.agenda p refl refl h
    answered_acks (Duty.Send (SendDuty.Syn s)) r p h = same_sent s _ _ (left p) p refl refl h
    answered_acks (Duty.Step (StepDuty.Data s)) r p h = data_acks s (first_unsent (end_at s p)) r p h
    answered_acks (Duty.Send (SendDuty.DataFin s)) r p h = same_sent s _ _ (left p) p refl refl h
    answered_acks (Duty.Send (SendDuty.Fin s)) r p h =
        sent_acks s (fin_segment_of s p) (having_sent_fin s p) (left p) p (λ may. absurd (both_ways _ (finish_never (end_at s p).tcp.state) may)) h
    answered_acks (Duty.Step StepDuty.Events) r p h = event_acks (next_event p) r p h
    answered_acks (Duty.Ask (AskDuty.PlainHandshake s)) r p h = told_acks s FallEvent.PlainHandshake r p h
    answered_acks (Duty.Ask (AskDuty.PeerKey s)) r p h = key_acks s (key_heard (end_at s p).treated.items) r p h
    answered_acks (Duty.Send (SendDuty.SynAck s)) r p h = sent_acks s _ _ (left p) p (occasion_acks s Occasion.SynAck (syn_ack_said p.profile s (end_at s p)) p h) h
    answered_acks (Duty.Ask (AskDuty.JoinHeard s)) r p h = joined_acks s (keys_begun r) (asked_at s p) r p h
    answered_acks (Duty.Send (SendDuty.Refuse s)) r p h = same_sent s (refusal_of s p) (end_at s p) (left p) p refl refl h
    answered_acks (Duty.Ask (AskDuty.Opened s)) r p h = opened_acks s (keys_heard (end_at s p).treated.items) r p h
    answered_acks (Duty.Step (StepDuty.Heard s index)) r p h = item_answered s (item_of index (end_at s p)) r p h
    answered_acks (Duty.Ask (AskDuty.AckHeard s)) r p h = told_acks s FallEvent.AckHeard r p h
    answered_acks (Duty.Ask (AskDuty.FailHeard s)) r p h =
        fail_heard_so (λ e. BothAck (goes_on s e (fell_duties s r p) p)) r (end_at s p) (λ own owes. same_on s (failed_so r own owes (end_at s p)) (fell_duties s r p) p refl refl h)
    answered_acks (Duty.Step (StepDuty.PlainAck s)) r p h = plain_ack_acks s r p h
    answered_acks (Duty.Ask (AskDuty.SubflowAck s)) r p h = same_on s _ (left p) p refl refl h
    answered_acks (Duty.Ask (AskDuty.PlainData s)) r p h = told_acks s FallEvent.PlainData r p h
    answered_acks (Duty.Ask (AskDuty.GoIdentity s)) r p h = same_on s _ (left p) p refl refl h
    answered_acks (Duty.Step (StepDuty.Unmapped s)) r p h = break_acks s 6 r p h
    answered_acks (Duty.Ask (AskDuty.SubflowFin s)) r p h = plain_fin_acks s (is_fin_set r) p h
    answered_acks (Duty.Ask (AskDuty.Edge s)) r p h = piece_acks s (piece_of s p) (is_placed r) p h
    answered_acks (Duty.Ask (AskDuty.CheckFailed s)) r p h =
        check_failed_so (λ e. BothAck (goes_on s e (fell_duties s r p) p)) p.profile.spelling.checksums r (end_at s p)
        (λ told broken recv forgets. same_on s (checked_so r told broken recv (end_at s p)) (fell_duties s r p) p refl refl h)
    answered_acks (Duty.Ask (AskDuty.HeardFin s index)) r p h = fin_set_acks s (is_fin_set r) p h
    answered_acks (Duty.Ask (AskDuty.AckOut s)) r p h = same_on s (after_ack_out r (end_at s p)) (left p) p refl refl h
    answered_acks (Duty.Ask (AskDuty.Rate s)) r p h = same_on s _ (left p) p refl refl h
    answered_acks (Duty.Send (SendDuty.Acknowledge s)) r p h = same_sent s _ _ (left p) p refl refl h
    answered_acks (Duty.Send (SendDuty.Again s)) r p h = same_sent s _ _ (left p) p refl refl h
    answered_acks (Duty.Send (SendDuty.Answer s)) r p h = sent_acks s (answer_of s p) _ (left p) p (occasion_acks s (answer_occasion (end_at s p)) (answer_of s p) p h) h
    answered_acks (Duty.Send (SendDuty.ResetAnswer s)) r p h = same_sent s (dead_answer s p) (end_at s p) (left p) p refl refl h
    answered_acks (Duty.Send (SendDuty.Resend s)) r p h = sent_acks s (resend_of s p) _ (left p) p (occasion_acks s (resend_occasion (end_at s p)) (resend_of s p) p h) h
    answered_acks (Duty.Ask (AskDuty.BreakAck s reason)) r p h = same_on s (after_ack_out r (end_at s p)) (resets s reason) p refl refl h
    answered_acks (Duty.Send (SendDuty.BreakReset s reason)) r p h = reset_acks s (Some reason) (leaves s) p h
    answered_acks (Duty.Send (SendDuty.Reset s)) r p h = reset_acks s None (replaced (Duty.Ask (AskDuty.Leave s)) p.agenda) p h
    answered_acks (Duty.Send (SendDuty.ResetNoted s)) r p h = reset_acks s None (replaced (Duty.Ask (AskDuty.Leave s)) p.agenda) p h
    answered_acks (Duty.Ask (AskDuty.Leave s)) r p h = agenda_acks _ p h
    answered_acks (Duty.Ask (AskDuty.LeaveNoted s)) r p h = goes_acks s (died (end_at s p)) _ p (dead_acks (end_at s p)) h
    answered_acks Duty.End r p h = agenda_acks [] p h
    answered_acks _ r p h = agenda_acks (left p) p h

    pub takes_acks : (r : Reply) (p : PathState C) → BothAck p → BothAck (takes k r p)
    takes_acks r p h = elim p.agenda as (λ ds. BothAck (settled (answers k ds r p).agenda (answers k ds r p)))
        [ [] ↦ settled_acks p.agenda p h | d ∷ ds ↦ settled_acks (answered k d r p).agenda (answered k d r p) (answered_acks d r p h) ]

  pub begins_acks : (p : PathState C) → BothAck p → BothAck (begins_turn p)
  begins_acks p h = settled_acks start_of_turn (with_agenda start_of_turn p) (agenda_acks start_of_turn p h)
