-- An end that may ask for bytes, with room for a full segment, has room for each record that is to be sent: no piece is longer than the
-- payload of a full segment, and its SYN is acknowledged.
use Rattle.world_laws.proofs.Words.{◌≡◌, refl, sym, ap, subst, ℕ, ◌+◌, ◌-◌, ◌≤◌, ◌&&◌, ◌==◌, not, min, nat_lt, nat_le, Bool, true, false, if◌then◌else◌, Option}
use Rattle.world_laws.proofs.Words.{Some, None, Result, Ok, Err, List, [], ◌∷◌, length, drop, arith, ltb-true, and_parts, and_from, both_ways, false≢true}
use Rattle.world_laws.proofs.Words.{ltb-false, leb-true, le-leb, length-take, length-drop, same_Some, Side, A, B, ScriptLine, JoinSyn, Span, Why, SendBook}
use Rattle.world_laws.proofs.Words.{decision-MayTake, KeptMapping, Record, SendState, is_unsent, uncovered, after_acknowledge, after_resent, ack_kind}
use Rattle.world_laws.proofs.Words.{sample_of, Meaning, is_sixth, after_expiry, after_fire, after_sending, EndState, is_at_limit, EndPhase, Occasion}
use Rattle.world_laws.proofs.Words.{after_death, after_dropping_held, after_keeping_held, after_holding, is_fin_acked, after_ack_kind, after_acknowledgement}
use Rattle.world_laws.proofs.Words.{is_duplicate, after_duplicate, after_interruption, told_by, after_payload, after_hearing, after_established, after_taken}
use Rattle.world_laws.proofs.Words.{after_syn_ack, after_syn, after_arrival, unkept, after_begin, is_fin_next, after_passing_fin, after_finishing, meaning_of}
use Rattle.world_laws.proofs.Words.{Copy, Hint, arriving, after_delivery, HeardSegment, LineAction, emission, leaves, start_of_turn, Duty, SendDuty, StepDuty}
use Rattle.world_laws.proofs.Words.{AskDuty, SilentDuty, Heard, KeyPair, replaced, Ask, Reply, StampedBooks, books_in, tail_of, is_nil, Codec, stands, ask_for}
use Rattle.world_laws.proofs.Words.{passed, answered, PathEnd, died, PathStart, first_state, waiting_path, at_tick, PathState, end_at, goes_on, with_agenda}
use Rattle.world_laws.proofs.Words.{left, path_of, settled, answers, asks_first, takes, begins_turn, hint_of, items_of, owes_by, options_heard, after_judged}
use Rattle.world_laws.proofs.Words.{copy_of, judged_in, heard_in, copy_heard, told_at, owing_if, with_payload, answered_break, died_unless_dead, answered_data}
use Rattle.world_laws.proofs.Words.{answered_grant, first_unsent, grant_in, answer_occasion, resend_occasion, data_ask, payload_size, may_ask, fits, grant_ask}
use Rattle.world_laws.proofs.Words.{may_send_data, next_event, after_line, happens_if, join_begun, never_joined, asked_at, is_listening, is_never, join_taken}
use Rattle.world_laws.proofs.Words.{keys_begun, opened_by, syn_of_window, is_joined, after_joining_syn, is_wrong, mapping_here, forgotten_by, is_dropped, is_clash}
use Rattle.world_laws.proofs.Words.{with_learned, with_data_fin, with_skipped, counts, answered_heard, answered_item, item_of, item_passed, heard_passed}
use Rattle.world_laws.proofs.Words.{breaks_by_ack, Profile, taken_as, Every-push, Every, App, Path, Actor, ActorCrew, member_asks, member_takes, member_next}
use Rattle.world_laws.proofs.Words.{is_over, Start, path_begins, opened_world, WorldState, Turn, crew_after, world_step, begins, world_run, if_so, EndWrites}
use Rattle.world_laws.proofs.Words.{Only, Writes, OnlyAt, EndView, PathView, writes, side_of, answer_to, BeginsRound}
use Rattle.send_book.specs.Steps as booking
use Rattle.subflow_send.specs.declared.record.AckKind.TheVariants.{New}
use Rattle.subflow_tcp.specs.Sizes.{room}
use Rattle.subflow_tcp.specs.States as states
use Rattle.path_core.specs.declared.events.Event.{Event}
use Rattle.path_core.specs.Emission.{Grant}
use Rattle.path_core.proofs.Judgements.{judged_taken}
use Rattle.world_laws.specs.RoundNumbers.{after_steps}
use Rattle.world_laws.proofs.Falls.FailedChecks.{infinite_came_so, fail_answered_so}
use Rattle.world_laws.proofs.Lanes.Records.{unsent_sent_kept, first_sent_kept, fin_sent_kept, expired_kept, uncovered_kept}
use Rattle.world_laws.proofs.Lanes.Saying.{every_one}
use Rattle.world_laws.proofs.Keys.Meanings.{Means, means}
use Rattle.world_laws.proofs.Rounds.EndsRefused.{IsPaid}
use Rattle.world_laws.proofs.Rounds.Lifting.{step_lifted, round_lifted, run_lifted, opened_lifted}
use Rattle.world_laws.proofs.Worlds.Finding.{find_every}
use Rattle.world_laws.proofs.Writes.Paths.{writes_no_more}
use Rattle.world_laws.proofs.Writes.Steps.{both_ends, unwritten}

-- ---- a sending side

abbrev pub IsSmall : ℕ → Record → Type 0
IsSmall limit r = length r.piece ≤ limit

-- no octets are
none_small : (limit : ℕ) → 0 ≤ limit
none_small limit = omega arith

-- no piece is longer than so many octets; and where the state lets a FIN be sent the SYN is acknowledged
pub record SendFits (limit : ℕ) (state : EndPhase) (v : SendState) : Type 0 where
  pub sizes : Every (IsSmall limit) v.records
  pub begun : states.may_finish state ≡ true → 1 ≤ v.una

abbrev pub TcpFits : ℕ → EndState → Type 0
TcpFits limit s = SendFits limit s.state s.send

abbrev pub EndFits : ℕ → PathEnd → Type 0
EndFits limit e = TcpFits limit e.tcp

-- ---- states

finish_never : (state : EndPhase) → states.may_finish (states.after_finish state) ≡ false
finish_never = elim [ EndPhase.Waiting ↦ refl | _ ↦ refl ]

passed_may : (state : EndPhase) → states.may_finish (states.after_fin_passed state) ≡ true → states.may_finish state ≡ true
passed_may = elim [ EndPhase.Established ↦ λ is. refl | _ ↦ λ is. is ]

acked_may : (state : EndPhase) → states.may_finish (states.after_fin_acked state) ≡ true → states.may_finish state ≡ true
acked_may = elim [ EndPhase.Waiting ↦ λ is. is | _ ↦ λ is. is ]

-- ---- acknowledgements

sizes_acked : (limit pos : ℕ) (v : SendState) → Every (IsSmall limit) v.records → Every (IsSmall limit) (after_acknowledge pos v).records
sizes_acked limit pos v h = elim (nat_lt v.una pos && nat_le pos v.nxt) as (λ b. Every (IsSmall limit) (if b then record v { una = pos; records = uncovered pos v.records } else v).records)
    [ true ↦ uncovered_kept pos v.records h | false ↦ h ]

una_stays : (pos : ℕ) (v : SendState) → 1 ≤ v.una → 1 ≤ (after_acknowledge pos v).una
una_stays pos v some =
    (elim (nat_lt v.una pos && nat_le pos v.nxt) as (λ b. (nat_lt v.una pos && nat_le pos v.nxt) ≡ b → 1 ≤ (if b then record v { una = pos; records = uncovered pos v.records } else v).una)
    [ true ↦ λ is. let more = ltb-true v.una pos (and_parts (nat_lt v.una pos) (nat_le pos v.nxt) is).0 in let low : 1 ≤ pos = omega (arith, more) in low | false ↦ λ is. some ]) refl

not_less : (x y : Bool) → (x && y) ≡ false → y ≡ true → x ≡ false
not_less = elim [ true ↦ λ y none is. absurd (both_ways y none is) | false ↦ λ y none is. refl ]

-- the SYN is acknowledged by a position that was sent
una_grows : (pos : ℕ) (v : SendState) → 1 ≤ pos → pos ≤ v.nxt → 1 ≤ (after_acknowledge pos v).una
una_grows pos v some sent =
    (elim (nat_lt v.una pos && nat_le pos v.nxt) as (λ b. (nat_lt v.una pos && nat_le pos v.nxt) ≡ b → 1 ≤ (if b then record v { una = pos; records = uncovered pos v.records } else v).una) [
      | true ↦ λ is. some
      | false ↦ λ is. let least = ltb-false v.una pos (not_less (nat_lt v.una pos) (nat_le pos v.nxt) is (le-leb pos v.nxt sent)) in let low : 1 ≤ v.una = omega (arith, least, some) in low
    ]) refl

acknowledged_fits : (limit pos now : ℕ) (s : EndState) → Every (IsSmall limit) s.send.records → (states.may_finish s.state ≡ true → 1 ≤ (after_acknowledge pos s.send).una)
    → TcpFits limit (after_acknowledgement pos now s)
acknowledged_fits limit pos now s sizes begun = elim (ack_kind pos s.send) as (λ kind. TcpFits limit (after_ack_kind kind (sample_of pos s.send) now t))
    [ New octets ↦ record { sizes = fits_then.sizes; begun = λ is. begun (back (is_fin_acked t.send) is) } | _ ↦ fits_then ]
  where
    t : EndState
    t = record s { send = after_acknowledge pos s.send }

    fits_then : TcpFits limit t
    fits_then = record { sizes = sizes_acked limit pos s.send sizes; begun = begun }

    back : (b : Bool) → states.may_finish (if b then states.after_fin_acked s.state else s.state) ≡ true → states.may_finish s.state ≡ true
    back = elim [ true ↦ λ is. acked_may s.state is | false ↦ λ is. is ]

row_fits : (limit : ℕ) (b : Bool) (s : EndState) → TcpFits limit s → TcpFits limit (if b then after_duplicate s else after_interruption s)
row_fits limit true s h = h
row_fits limit false s h = h

-- ---- what a copy means: it acknowledges a position that was sent, behind the SYN where the end isn't open yet

abbrev MeansSo : EndPhase → ℕ → Meaning → Type 0
MeansSo state nxt (Meaning.Accepts acknowledged) = (1 ≤ acknowledged) × (acknowledged ≤ nxt)
MeansSo state nxt (Meaning.Taken pos acknowledged) = states.is_half_open state ≡ true → (1 ≤ acknowledged) × (acknowledged ≤ nxt)
MeansSo state nxt _ = Unit {0}

meant_so : (c : Copy) (s : EndState) → MeansSo s.state s.send.nxt (meaning_of c s)
meant_so c s = (elim (meaning_of c s) as (λ m. Means c s m → MeansSo s.state s.send.nxt m)
    [ Meaning.Accepts acknowledged ↦ λ is. is.1.1.1 | Meaning.Taken pos acknowledged ↦ λ is. is.1.1.1.1.1 | _ ↦ λ is. tt ]) (means c s)

-- ---- an end of a subflow

opens_acked : (state : EndPhase) (v : SendState) (acknowledged : ℕ) → (states.is_half_open state ≡ true → (1 ≤ acknowledged) × (acknowledged ≤ v.nxt)) → (states.may_finish state ≡ true → 1 ≤ v.una)
    → states.may_finish (states.after_handshake state) ≡ true → 1 ≤ (after_acknowledge acknowledged v).una
opens_acked EndPhase.SynReceived v acknowledged half begun is = let sent = half refl in una_grows acknowledged v sent.0 sent.1
opens_acked EndPhase.Established v acknowledged half begun is = una_stays acknowledged v (begun refl)
opens_acked EndPhase.CloseWait v acknowledged half begun is = una_stays acknowledged v (begun refl)
opens_acked _ v acknowledged half begun is = absurd (false≢true is)

taken_fits : (limit pos acknowledged : ℕ) (hint : Hint) (now : ℕ) (c : Copy) (s : EndState) → (states.is_half_open s.state ≡ true → (1 ≤ acknowledged) × (acknowledged ≤ s.send.nxt)) → TcpFits limit s
    → TcpFits limit (after_taken pos acknowledged hint now c s)
taken_fits limit pos acknowledged hint now c s half h =
    let t : EndState = after_established (after_hearing (after_payload pos hint c s)) in
    row_fits limit (is_duplicate (ack_kind acknowledged t.send) (told_by hint c) c (after_acknowledgement acknowledged now t)) (after_acknowledgement acknowledged now t)
    (acknowledged_fits limit acknowledged now t h.sizes (opens_acked s.state s.send acknowledged half h.begun))

syn_ack_fits : (limit acknowledged : ℕ) (hint : Hint) (now : ℕ) (c : Copy) (s : EndState) → (1 ≤ acknowledged) × (acknowledged ≤ s.send.nxt) → TcpFits limit s
    → TcpFits limit (after_syn_ack acknowledged hint now c s)
syn_ack_fits limit acknowledged hint now c s sent h =
    let t : EndState = record (after_hearing (after_payload 1 hint c s)) { state = EndPhase.Established } in
    acknowledged_fits limit acknowledged now t h.sizes (λ is. una_grows acknowledged s.send sent.0 sent.1)

dead_fits : (limit : ℕ) (reset : Bool) (s : EndState) → TcpFits limit s → TcpFits limit (after_death reset s)
dead_fits limit reset s h = record { sizes = sizes_acked limit s.send.nxt s.send h.sizes; begun = λ is. absurd (false≢true is) }

syn_fits : (limit : ℕ) (hint : Hint) (c : Copy) (s : EndState) → TcpFits limit s → TcpFits limit (after_syn hint c s)
syn_fits limit hint c s h = record { sizes = h.sizes; begun = λ is. absurd (false≢true is) }

arrived_fits : (limit : ℕ) (m : Meaning) (hint : Hint) (now : ℕ) (c : Copy) (s : EndState) → MeansSo s.state s.send.nxt m → TcpFits limit s → TcpFits limit (after_arrival m hint now c s)
arrived_fits limit Meaning.Opens hint now c s so h = syn_fits limit hint c s h
arrived_fits limit (Meaning.Accepts acknowledged) hint now c s so h = syn_ack_fits limit acknowledged hint now c s so h
arrived_fits limit Meaning.Kills hint now c s so h = dead_fits limit false s h
arrived_fits limit (Meaning.Taken pos acknowledged) hint now c s so h = taken_fits limit pos acknowledged hint now c s so h
arrived_fits limit _ hint now c s so h = h

sent_fits : (limit : ℕ) (o : Occasion) (now : ℕ) (s : EndState) → TcpFits limit s → TcpFits limit (after_sending o now s)
sent_fits limit Occasion.Reset now s h = h
sent_fits limit Occasion.Answer now s h = h
sent_fits limit Occasion.SynAck now s h =
    if_so (SendFits limit s.state) (s.send.una == 0) (after_resent now s.send) s.send
    (record { sizes = first_sent_kept (IsSmall limit) (λ r x small. small) now s.send.records h.sizes; begun = h.begun }) h
sent_fits limit Occasion.Ack now s h = h
sent_fits limit Occasion.Probe now s h = h
sent_fits limit Occasion.First now s h = record { sizes = first_sent_kept (IsSmall limit) (λ r x small. small) now s.send.records h.sizes; begun = h.begun }
sent_fits limit Occasion.Unsent now s h = record { sizes = unsent_sent_kept (IsSmall limit) (λ r x small. small) now s.send.records h.sizes; begun = h.begun }
sent_fits limit Occasion.Fin now s h = record { sizes = fin_sent_kept (IsSmall limit) (λ r x small. small) now s.send.records h.sizes; begun = h.begun }

fin_fits : (limit now : ℕ) (s : EndState) → TcpFits limit s → TcpFits limit (after_sending Occasion.Fin now (after_finishing s))
fin_fits limit now s h = sent_fits limit Occasion.Fin now (after_finishing s) (record {
  sizes = Every-push _ h.sizes (none_small limit);
  begun = λ is. absurd (both_ways _ (finish_never s.state) is);
})

fired_fits : (limit now : ℕ) (s : EndState) → TcpFits limit s → TcpFits limit (after_fire now s)
fired_fits limit now s h =
    if_so (TcpFits limit) (is_sixth s) (after_death true s) (after_expiry now s)
    (dead_fits limit true s h) (record { sizes = expired_kept (IsSmall limit) (λ r x small. small) s.send.records h.sizes; begun = h.begun })

passed_fits : (limit : ℕ) (s : EndState) → TcpFits limit s → TcpFits limit (if is_fin_next s then after_passing_fin s else s)
passed_fits limit s h = if_so (TcpFits limit) (is_fin_next s) (after_passing_fin s) s (record { sizes = h.sizes; begun = λ is. h.begun (passed_may s.state is) }) h

joining_fits : (limit window : ℕ) (s : EndState) → TcpFits limit s → TcpFits limit (after_joining_syn window s)
joining_fits limit window s h =
    if_so (TcpFits limit) (is_listening s.state) (after_syn (unkept None) (syn_of_window window) s) s
    (record { sizes = h.sizes; begun = λ is. absurd (false≢true is) }) h

-- ---- an end of a path

either_end : (limit : ℕ) (b : Bool) (e f : PathEnd) → EndFits limit e → EndFits limit f → EndFits limit (if b then e else f)
either_end limit true e f x y = x
either_end limit false e f x y = y

died_fits : (limit : ℕ) (e : PathEnd) → EndFits limit e → EndFits limit (died_unless_dead e)
died_fits limit e h = either_end limit (states.is_dead e.tcp.state) e (died e) h (dead_fits limit false e.tcp h)

opened_fits : (limit : ℕ) (keys : Option KeyPair) (e : PathEnd) → EndFits limit e → EndFits limit (opened_by keys e)
opened_fits limit None e h = h
opened_fits limit (Some keys) e h =
    if_so (TcpFits limit) (states.is_waiting e.tcp.state) (after_begin e.tcp) e.tcp
    (record { sizes = h.sizes; begun = λ is. absurd (false≢true is) }) h

kept_fits : (limit : ℕ) (s : Side) (e : PathEnd) → EndFits limit e → TcpFits limit (if is_dropped s e then after_dropping_held e.tcp else after_keeping_held e.tcp)
kept_fits limit s e h = if_so (TcpFits limit) (is_dropped s e) (after_dropping_held e.tcp) (after_keeping_held e.tcp) h h

item_fits : (limit : ℕ) (s : Side) (item : Heard) (e : PathEnd) → EndFits limit e → EndFits limit (heard_passed s item e)
item_fits limit s Heard.Dss e h = h
item_fits limit s (Heard.Mapping fin) e h = either_end limit (counts e) (with_learned e) (with_skipped e) h h
item_fits limit s (Heard.DataFin place) e h = either_end limit (counts e) (with_data_fin place e) e h h
item_fits limit s _ e h = h

maybe_fits : (limit : ℕ) (s : Side) (o : Option Heard) (e : PathEnd) → EndFits limit e → EndFits limit (item_passed s o e)
maybe_fits limit s None e h = h
maybe_fits limit s (Some item) e h = item_fits limit s item e h

checked_fits : (limit : ℕ) (checksums : Bool) (o : Option KeptMapping) (e : PathEnd) → EndFits limit e → EndFits limit (forgotten_by checksums o e)
checked_fits limit checksums None e h = h
checked_fits limit checksums (Some kept) e h = either_end limit (is_wrong checksums kept e.tcp) _ e h h

payload_fits : (limit : ℕ) (m : Meaning) (octets : List ℕ) (s : EndState) → MeansSo s.state s.send.nxt m → TcpFits limit s
    → MeansSo (with_payload m octets s).state (with_payload m octets s).send.nxt m × TcpFits limit (with_payload m octets s)
payload_fits limit (Meaning.Taken pos acknowledged) octets s so h = by (is_nil octets)
  where
    by : (b : Bool) → MeansSo (if b then s else after_holding pos octets s).state (if b then s else after_holding pos octets s).send.nxt (Meaning.Taken pos acknowledged)
        × TcpFits limit (if b then s else after_holding pos octets s)
    by = elim [ true ↦ (so, h) | false ↦ (so, h) ]
payload_fits limit _ octets s so h = (so, h)

owing_fits : (limit : ℕ) (b : Bool) (s : EndState) → TcpFits limit s → TcpFits limit (owing_if b s)
owing_fits limit true s h = h
owing_fits limit false s h = h

judged_fits : (limit : ℕ) (c : Profile) (s : Side) (now : ℕ) (x : HeardSegment) (e : PathEnd) → EndFits limit e → EndFits limit (after_judged c s now x (judged_in (is_joined c) s x e) e)
judged_fits limit c s now x e h =
    let items = items_of (is_joined c) s x in
    let m : Meaning = taken_as (judged_in (is_joined c) s x e) in
    let so : MeansSo e.tcp.state e.tcp.send.nxt m = judged_taken x.rst items e (MeansSo e.tcp.state e.tcp.send.nxt) tt (is_joined c) (meaning_of (copy_of x) e.tcp) (meant_so (copy_of x) e.tcp) in
    let held = payload_fits limit m x.payload e.tcp so h in
    owing_fits limit (owes_by m items) (after_arrival m (hint_of items) now (copy_of x) (with_payload m x.payload e.tcp))
    (arrived_fits limit m (hint_of items) now (copy_of x) (with_payload m x.payload e.tcp) held.0 held.1)

-- ---- a path

-- the grants that answer this ask are of a full segment's payload at most
abbrev GrantsSmall : {C : Type 0} → Ask → Reply → PathState C → Type 0
GrantsSmall x r p = (s : Side) → x ≡ grant_ask s p → (grant : Grant) → grant_in r ≡ Some grant → length grant.piece ≤ payload_size p.profile

sized : (path max : ℕ) (standby : Bool) (b : SendBook) (o : Result Span Why) → booking.decision path max standby b ≡ o → (grant : Grant) → grant_in (Reply.Send (booking.reply_by o b)) ≡ Some grant → length grant.piece ≤ max
sized path max standby b (Err why) is grant found = cc
sized path max standby b (Ok span) is grant found =
    let may = decision-MayTake path max standby b span is in
    let len : length (booking.part_of span b.written) ≡ min (span.to - span.from) (length b.written - span.from)
    = rw (length-take (span.to - span.from) (drop span.from b.written), length-drop span.from b.written) refl in
    let small : length (booking.part_of span b.written) ≤ max = omega (arith, len, may.whole, may.most) in
    subst (λ (g : Grant). length g.piece ≤ max) (same_Some _ grant found) small

end_kept : (w : EndWrites) (e f : PathEnd) → w.phase ≡ false → w.send ≡ false → Only w e f → (f.tcp.state ≡ e.tcp.state) × (f.tcp.send ≡ e.tcp.send)
end_kept w e f phase send x =
    (unwritten w.phase e.tcp.state f.tcp.state phase (ap (λ (v : EndView). v.phase) x.same), unwritten w.send e.tcp.send f.tcp.send send (ap (λ (v : EndView). v.send) x.same))

end_fits : (c d : Profile) (e f : PathEnd) → d ≡ c → (f.tcp.state ≡ e.tcp.state) × (f.tcp.send ≡ e.tcp.send) → EndFits (payload_size c) e → EndFits (payload_size d) f
end_fits c d e f profile same h =
    subst (λ x. SendFits (payload_size x) f.tcp.state f.tcp.send) (sym profile)
    (subst (λ x. SendFits (payload_size c) x f.tcp.send) (sym same.0) (subst (λ x. SendFits (payload_size c) e.tcp.state x) (sym same.1) h))

module _ {C : Type 0} where
  pub record PathFits (p : PathState C) : Type 0 where
    pub a : EndFits (payload_size p.profile) p.a
    pub b : EndFits (payload_size p.profile) p.b

  pub fits_at : (s : Side) (p : PathState C) → PathFits p → EndFits (payload_size p.profile) (end_at s p)
  fits_at = elim [ A ↦ λ p h. h.a | B ↦ λ p h. h.b ]

  either_fits : (c : Bool) (q r : PathState C) → PathFits q → PathFits r → PathFits (if c then q else r)
  either_fits = elim [ true ↦ λ q r x y. x | false ↦ λ q r x y. y ]

  -- the end of a side becomes this, whatever else is on the path
  side_fits : (s : Side) (p q : PathState C) (e : PathEnd) → q.a ≡ (goes_on s e [] p).a → q.b ≡ (goes_on s e [] p).b → q.profile ≡ p.profile → PathFits p → EndFits (payload_size p.profile) e → PathFits q
  side_fits A p q e same_a same_b same h x = record { a = rw (same, same_a) x; b = rw (same, same_b) h.b }
  side_fits B p q e same_a same_b same h x = record { a = rw (same, same_a) h.a; b = rw (same, same_b) x }

  -- the ends stay as they are
  keeps : (p : PathState C) (ds : List Duty) → PathFits p → PathFits (with_agenda ds p)
  keeps p ds h = record { a = h.a; b = h.b }

  passed_duty : (d : Duty) (p : PathState C) → PathFits p → PathFits (passed d p)
  passed_duty (Duty.Silent (SilentDuty.Timer s)) p h = side_fits s p _ _ refl refl refl h (fits_at s p h)
  passed_duty (Duty.Step (StepDuty.Heard s index)) p h = side_fits s p _ _ refl refl refl h (maybe_fits (payload_size p.profile) s (item_of index (end_at s p)) (end_at s p) (fits_at s p h))
  passed_duty (Duty.Silent (SilentDuty.Keep s)) p h = side_fits s p _ _ refl refl refl h (kept_fits (payload_size p.profile) s (end_at s p) (fits_at s p h))
  passed_duty (Duty.Ask (AskDuty.CheckFailed s)) p h =
      side_fits s p _ _ refl refl refl h (checked_fits (payload_size p.profile) p.profile.spelling.checksums (mapping_here (end_at s p)) (end_at s p) (fits_at s p h))
  passed_duty (Duty.Step (StepDuty.PlainAck s)) p h = side_fits s p _ _ refl refl refl h (fits_at s p h)
  passed_duty (Duty.Step (StepDuty.Unmapped s)) p h = side_fits s p _ _ refl refl refl h (fits_at s p h)
  passed_duty (Duty.Silent (SilentDuty.PassFin s)) p h = side_fits s p _ _ refl refl refl h (passed_fits (payload_size p.profile) (end_at s p).tcp (fits_at s p h))
  passed_duty _ p h = h

  settled_fits : (ds : List Duty) (p : PathState C) → PathFits p → PathFits (settled ds p)
  settled_fits [] p h = keeps p [] h
  settled_fits (d ∷ ds) p h = either_fits (stands d p) (with_agenda (d ∷ ds) p) (settled ds (passed d p)) (keeps p (d ∷ ds) h) (settled_fits ds (passed d p) (passed_duty d p h))

  -- ---- what happens by itself

  begun_fits : (r : Reply) (dead living : List Duty) (p : PathState C) → PathFits p → PathFits (join_begun r dead living p)
  begun_fits r dead living p h =
      either_fits (is_never r) (goes_on A (never_joined r (end_at A p)) dead p) (goes_on A (opened_by (keys_begun r) (end_at A p)) living p)
      (record { a = dead_fits (payload_size p.profile) false p.a.tcp h.a; b = h.b }) (record { a = opened_fits (payload_size p.profile) (keys_begun r) p.a h.a; b = h.b })

  line_fits : (action : LineAction) (p : PathState C) → PathFits p → PathFits (after_line action p)
  line_fits LineAction.Die p h = record { a = died_fits (payload_size p.profile) p.a h.a; b = died_fits (payload_size p.profile) p.b h.b }
  line_fits (LineAction.Prio s backup) p h = side_fits s p _ _ refl refl refl h (fits_at s p h)
  line_fits (LineAction.Announce s id) p h = record { a = h.a; b = h.b }
  line_fits (LineAction.Withdraw s id) p h = record { a = h.a; b = h.b }

  told_fits : (now : ℕ) (s : Side) (x : HeardSegment) (p : PathState C) → PathFits p → PathFits (told_at now s x p)
  told_fits now s x p h =
      side_fits s p (told_at now s x p) (after_judged p.profile s now x (judged_in (is_joined p.profile) s x (end_at s p)) (end_at s p)) refl refl refl h
      (judged_fits (payload_size p.profile) p.profile s now x (end_at s p) (fits_at s p h))

  copy_fits : (s : Side) (heard : Option HeardSegment) (p : PathState C) → PathFits p → PathFits (copy_heard s heard p)
  copy_fits s None p h = record { a = h.a; b = h.b }
  copy_fits s (Some heard) p h = told_fits p.clock s (options_heard (end_at s p) heard) p h

  happens_fits : (k : Codec C) (event : Option Event) (r : Reply) (p : PathState C) → PathFits p → PathFits (happens_if k event r p)
  happens_fits k None r p h = record { a = h.a; b = h.b }
  happens_fits k (Some (Event.Joins tick)) r p h =
      begun_fits r (leaves A) (emission A) (record (at_tick tick p) { joined_at = None }) (record { a = h.a; b = h.b })
  happens_fits k (Some (Event.Takes line)) r p h =
      line_fits line.action (record (at_tick line.tick p) { lines = tail_of p.lines }) (record { a = h.a; b = h.b })
  happens_fits k (Some (Event.Arrives due)) r p h =
      copy_fits due.to (heard_in k due.to (arriving due p.link) p) (record (at_tick due.tick p) { link = after_delivery due p.link }) (record { a = h.a; b = h.b })
  happens_fits k (Some (Event.Fires s tick)) r p h =
      side_fits s p _ _ refl refl refl h (fired_fits (payload_size p.profile) (at_tick tick p).clock (end_at s p).tcp (fits_at s p h))

  -- ---- replies

  grant_fits : (s : Side) (o : Option Grant) (r : Reply) (p : PathState C) → ((grant : Grant) → o ≡ Some grant → length grant.piece ≤ payload_size p.profile) → PathFits p → PathFits (answered_grant s o r p)
  grant_fits s None r p small h = side_fits s p _ _ refl refl refl h (fits_at s p h)
  grant_fits s (Some grant) r p small h =
      let x = fits_at s p h in side_fits s p _ _ refl refl refl h (record { sizes = Every-push _ x.sizes (small grant refl); begun = x.begun })

  data_fits : (k : Codec C) (s : Side) (o : Option Record) (r : Reply) (p : PathState C) (x : Ask) → x ≡ data_ask k s o p → GrantsSmall x r p → PathFits p → PathFits (answered_data k s o r p)
  data_fits k s (Some first) r p x asks small h = side_fits s p _ _ refl refl refl h (sent_fits (payload_size p.profile) Occasion.Unsent p.clock (end_at s p).tcp (fits_at s p h))
  data_fits k s None r p x asks small h = grant_fits s (grant_in r) r p (small s asks) h

  break_fits : (k : Codec C) (s : Side) (reason : ℕ) (r : Reply) (p : PathState C) → PathFits p → PathFits (answered_break k s reason r p)
  break_fits k s reason r p h =
      either_fits (end_at s p).treated.asked _ _ (side_fits s p _ _ refl refl refl h (fits_at s p h))
      (side_fits s p _ _ refl refl refl h (dead_fits (payload_size p.profile) false (end_at s p).tcp (fits_at s p h)))

  -- where neither the phase nor what was sent may be written
  kept_by : (s : Side) (w : Writes) (p q : PathState C) → w.own.phase ≡ false → w.own.send ≡ false → w.other.phase ≡ false → w.other.send ≡ false
      → OnlyAt s w p q → PathFits p → PathFits q
  kept_by s w p q own_phase own_send other_phase other_send x h =
      let profile : q.profile ≡ p.profile = ap (λ (v : PathView C). v.profile) x.same in
      let both = both_ends (λ e f. (f.tcp.state ≡ e.tcp.state) × (f.tcp.send ≡ e.tcp.send)) s w p q
      (λ e f y. end_kept w.own e f own_phase own_send y) (λ e f y. end_kept w.other e f other_phase other_send y) x in
      record { a = end_fits p.profile q.profile p.a q.a profile both.0 h.a; b = end_fits p.profile q.profile p.b q.b profile both.1 h.b }

  heard_fits : (k : Codec C) (s : Side) (item : Heard) (r : Reply) (p : PathState C) → PathFits p → PathFits (answered_heard k s item r p)
  heard_fits k s (Heard.DataAck next window) r p h = side_fits s p _ _ refl refl refl h (fits_at s p h)
  heard_fits k s (Heard.Mapping fin) r p h = either_fits (is_clash (end_at s p)) _ _ (break_fits k s 1 r p h) (side_fits s p _ _ refl refl refl h (fits_at s p h))
  heard_fits k s (Heard.DataFin place) r p h = side_fits s p _ _ refl refl refl h (fits_at s p h)
  heard_fits k s (Heard.InfiniteMapping place position) r p h =
      side_fits s p _ _ refl refl refl h (infinite_came_so (EndFits (payload_size p.profile)) place position r (end_at s p) (λ other. fits_at s p h))
  heard_fits k s (Heard.Keys own peer) r p h = side_fits s p _ _ refl refl refl h (fits_at s p h)
  heard_fits k s (Heard.Notice notice) r p h = side_fits s p _ _ refl refl refl h (fits_at s p h)
  heard_fits k s Heard.Fail r p h = fail_answered_so PathFits s r p (side_fits s p _ _ refl refl refl h (fits_at s p h)) (side_fits s p _ _ refl refl refl h (fits_at s p h))
  heard_fits k s _ r p h = record { a = h.a; b = h.b }

  items_fit : (k : Codec C) (s : Side) (item : Option Heard) (r : Reply) (p : PathState C) → PathFits p → PathFits (answered_item k s item r p)
  items_fit k s None r p h = record { a = h.a; b = h.b }
  items_fit k s (Some item) r p h = heard_fits k s item r p h

  joined_fits : (s : Side) (keys : Option KeyPair) (asked : Option JoinSyn) (r : Reply) (p : PathState C) → PathFits p → PathFits (join_taken s keys asked r p)
  joined_fits s (Some keys) (Some asked) r p h =
      side_fits s p _ _ refl refl refl h (joining_fits (payload_size p.profile) (end_at s p).treated.window (end_at s p).tcp (fits_at s p h))
  joined_fits s (Some keys) None r p h = record { a = h.a; b = h.b }
  joined_fits s None (Some asked) r p h = side_fits s p _ _ refl refl refl h (fits_at s p h)
  joined_fits s None None r p h = record { a = h.a; b = h.b }

  answered_fits : (k : Codec C) (d : Duty) (r : Reply) (p : PathState C) (x : Ask) → x ≡ ask_for k d p → GrantsSmall x r p → PathFits p → PathFits (answered k d r p)
  answered_fits k (Duty.Ask AskDuty.JoinAgain) r p x asks small h = begun_fits r (replaced (Duty.Ask (AskDuty.Leave A)) p.agenda) (left p) p h
  answered_fits k (Duty.Step (StepDuty.Data s)) r p x asks small h = data_fits k s (first_unsent (end_at s p)) r p x asks small h
  answered_fits k (Duty.Send (SendDuty.Syn s)) r p x asks small h = side_fits s p _ _ refl refl refl h (sent_fits (payload_size p.profile) Occasion.Unsent p.clock (end_at s p).tcp (fits_at s p h))
  answered_fits k (Duty.Send (SendDuty.Fin s)) r p x asks small h = side_fits s p _ _ refl refl refl h (fin_fits (payload_size p.profile) p.clock (end_at s p).tcp (fits_at s p h))
  answered_fits k (Duty.Step StepDuty.Events) r p x asks small h = happens_fits k (next_event p) r p h
  answered_fits k (Duty.Send (SendDuty.SynAck s)) r p x asks small h = side_fits s p _ _ refl refl refl h (sent_fits (payload_size p.profile) Occasion.SynAck p.clock (end_at s p).tcp (fits_at s p h))
  answered_fits k (Duty.Ask (AskDuty.JoinHeard s)) r p x asks small h = joined_fits s (keys_begun r) (asked_at s p) r p h
  answered_fits k (Duty.Step (StepDuty.Heard s index)) r p x asks small h = items_fit k s (item_of index (end_at s p)) r p h
  answered_fits k (Duty.Step (StepDuty.PlainAck s)) r p x asks small h =
      either_fits (breaks_by_ack p.profile (end_at s p)) _ _ (break_fits k s 6 r p h) (side_fits s p _ _ refl refl refl h (fits_at s p h))
  answered_fits k (Duty.Step (StepDuty.Unmapped s)) r p x asks small h = break_fits k s 6 r p h
  answered_fits k (Duty.Send (SendDuty.Again s)) r p x asks small h = side_fits s p _ _ refl refl refl h (sent_fits (payload_size p.profile) Occasion.First p.clock (end_at s p).tcp (fits_at s p h))
  answered_fits k (Duty.Send (SendDuty.Answer s)) r p x asks small h =
      side_fits s p _ _ refl refl refl h (sent_fits (payload_size p.profile) (answer_occasion (end_at s p)) p.clock (end_at s p).tcp (fits_at s p h))
  answered_fits k (Duty.Send (SendDuty.Resend s)) r p x asks small h =
      side_fits s p _ _ refl refl refl h (sent_fits (payload_size p.profile) (resend_occasion (end_at s p)) p.clock (end_at s p).tcp (fits_at s p h))
  answered_fits k (Duty.Send (SendDuty.BreakReset s reason)) r p x asks small h = side_fits s p _ _ refl refl refl h (dead_fits (payload_size p.profile) false (end_at s p).tcp (fits_at s p h))
  answered_fits k (Duty.Send (SendDuty.Reset s)) r p x asks small h = side_fits s p _ _ refl refl refl h (dead_fits (payload_size p.profile) false (end_at s p).tcp (fits_at s p h))
  answered_fits k (Duty.Send (SendDuty.ResetNoted s)) r p x asks small h = side_fits s p _ _ refl refl refl h (dead_fits (payload_size p.profile) false (end_at s p).tcp (fits_at s p h))
  answered_fits k (Duty.Ask (AskDuty.LeaveNoted s)) r p x asks small h = side_fits s p _ _ refl refl refl h (dead_fits (payload_size p.profile) false (end_at s p).tcp (fits_at s p h))
  answered_fits k (Duty.Silent d) r p x asks small h = record { a = h.a; b = h.b }
  answered_fits k d r p x asks small h = kept_by (side_of d) (writes d) p _ refl refl refl refl (writes_no_more k d r p) h

  answers_fit : (k : Codec C) (ds : List Duty) (r : Reply) (p : PathState C) (x : Ask) → asks_first k ds p ≡ Some x → GrantsSmall x r p → PathFits p → PathFits (answers k ds r p)
  answers_fit k [] r p x asks small h = h
  answers_fit k (d ∷ ds) r p x asks small h = answered_fits k d r p x (sym (same_Some (ask_for k d p) x asks)) small h

  takes_fit : (k : Codec C) (r : Reply) (p : PathState C) (x : Ask) → asks_first k p.agenda p ≡ Some x → GrantsSmall x r p → PathFits p → PathFits (takes k r p)
  takes_fit k r p x asks small h =
      let q : PathState C = answers k p.agenda r p in settled_fits q.agenda q (answers_fit k p.agenda r p x asks small h)

  begins_fit : (p : PathState C) → PathFits p → PathFits (begins_turn p)
  begins_fit p h = settled_fits start_of_turn (with_agenda start_of_turn p) (keeps p start_of_turn h)

  first_fits : (start : PathStart) (lines : List ScriptLine) → PathFits (waiting_path {C = C} start lines)
  first_fits start lines = record {
    a = record { sizes = every_one _ (none_small (payload_size start.profile)); begun = by start.joined_at };
    b = record { sizes = every_one _ (none_small (payload_size start.profile)); begun = λ is. absurd (false≢true is) };
  }
    where
      by : (o : Option ℕ) → states.may_finish (first_state o) ≡ true → 1 ≤ 0
      by = elim [ None ↦ λ is. absurd (false≢true is) | Some tick ↦ λ is. absurd (false≢true is) ]

  -- ---- an actor

  abbrev pub MemberFits : Actor C → Type 0
  MemberFits (App a) = Unit {0}
  MemberFits (Path p) = PathFits p

  granted_small : (books : StampedBooks) (p : PathState C) (x : Ask) → GrantsSmall x (answer_to books x) p
  granted_small books p x s is grant found = by s (subst (λ y. grant_in (answer_to books y) ≡ Some grant) is found)
    where
      by : (t : Side) → grant_in (answer_to books (grant_ask t p)) ≡ Some grant → length grant.piece ≤ payload_size p.profile
      by A at =
          sized (path_of p) (payload_size p.profile) p.a.modes.standby (books_in books).send_a
          (booking.decision (path_of p) (payload_size p.profile) p.a.modes.standby (books_in books).send_a) refl grant at
      by B at =
          sized (path_of p) (payload_size p.profile) p.b.modes.standby (books_in books).send_b
          (booking.decision (path_of p) (payload_size p.profile) p.b.modes.standby (books_in books).send_b) refl grant at

  member_step : (k : Codec C) (books : StampedBooks) (m : Actor C) (x : Ask) → member_asks k m ≡ Some x → MemberFits m → MemberFits (member_takes k (answer_to books x) m)
  member_step k books (App a) x is h = tt
  member_step k books (Path p) x is h = takes_fit k (answer_to books x) p x is (granted_small books p x) h

  member_begins : (m : Actor C) → MemberFits m → MemberFits (member_next m)
  member_begins (App a) h = tt
  member_begins (Path p) h = begins_fit (record p { clock = p.until; until = p.until + 100 }) (record { a = h.a; b = h.b })

  -- ---- the actors of a world

  abbrev pub CrewFits : ActorCrew C → Type 0
  CrewFits c = MemberFits c.member

  pub opened_world_fits : (start : Start) → Every CrewFits (opened_world {C = C} start).crew
  opened_world_fits start = opened_lifted CrewFits start tt tt (λ number plan there. begins_fit (waiting_path (path_begins start number plan) start.lines) (first_fits (path_begins start number plan) start.lines))

  module _ (k : Codec C) where
    crew_step : (books : StampedBooks) (c : ActorCrew C) (x : Ask) → member_asks k c.member ≡ Some x → CrewFits c → CrewFits (crew_after k x books c)
    crew_step books c x is h = member_step k books c.member x is h

    crew_begins : (stamp : ℕ) (c : ActorCrew C) → is_over c.member ≡ true → CrewFits c → CrewFits (begins stamp c)
    crew_begins stamp c over h = member_begins c.member h

    run_fits : (turns : List Turn) (w : WorldState C) → Every CrewFits w.crew → Every CrewFits (world_run k turns w).crew
    run_fits turns w h = run_lifted k CrewFits crew_step crew_begins turns w h

    steps_fit : (order : List ℕ) (w : WorldState C) → Every CrewFits w.crew → Every CrewFits (after_steps k order w).crew
    steps_fit [] w h = h
    steps_fit (actor ∷ order) w h = steps_fit order (world_step k actor w) (step_lifted k CrewFits crew_step crew_begins actor w h)

    begun_world_fits : (start : Start) (u : WorldState C) → BeginsRound k start u → Every CrewFits u.crew
    begun_world_fits start u (BeginsRound.First is) = subst (λ (v : WorldState C). Every CrewFits v.crew) (sym is) (opened_world_fits start)
    begun_world_fits start u (BeginsRound.Next turns over is) =
        subst (λ (v : WorldState C). Every CrewFits v.crew) (sym is) (round_lifted k CrewFits crew_step crew_begins (world_run k turns (opened_world start)) (run_fits turns (opened_world start) (opened_world_fits start)))

    -- the pieces of each crew fit in each round
    pub round_fits : (start : Start) (begun : WorldState C) (order : List ℕ) → BeginsRound k start begun → Every CrewFits (after_steps k order begun).crew
    round_fits start begun order begins = steps_fit order begun (begun_world_fits start begun begins)

-- ---- room

-- an end that may ask was refused: each record that is to be sent has room
pub paid_or_refused : (c : Profile) (s : Side) (e : PathEnd) (refused : Bool) → EndFits (payload_size c) e → IsPaid c s e refused → may_ask c s e ≡ true → refused ≡ true
paid_or_refused c s e refused h paid may = by (first_unsent e) refl
  where
    asks : (states.may_finish e.tcp.state ≡ true) × (payload_size c ≤ room e.tcp)
    asks =
        let first = and_parts (states.may_finish e.tcp.state) (nat_le (payload_size c) (room e.tcp) && (not (is_at_limit e.tcp) && may_send_data c s e)) may in
        (first.0, leb-true (payload_size c) (room e.tcp) (and_parts (nat_le (payload_size c) (room e.tcp)) (not (is_at_limit e.tcp) && may_send_data c s e) first.1).0)

    by : (o : Option Record) → first_unsent e ≡ o → refused ≡ true
    by None is = paid.paid is may
    by (Some r) is =
        let small : length r.piece ≤ payload_size c = (find_every (IsSmall (payload_size c)) is_unsent e.tcp.send.records r h.sizes is).0 in
        let roomy : payload_size c ≤ room e.tcp = asks.1 in
        absurd (both_ways (fits e.tcp r) (paid.waits r is asks.0)
        (and_from (nat_le 1 e.tcp.send.una) (nat_le (length r.piece) (room e.tcp)) (le-leb 1 e.tcp.send.una (h.begun asks.0)) (le-leb (length r.piece) (room e.tcp) (omega (arith, small, roomy)))))
