-- An end sends the record alone whose segment goes: each other duty leaves what was sent, lets records go, or puts more behind them.
use Rattle.std.proofs.Common.{◌≡◌, refl, sym, subst, ap, ◌∙◌, ◌⊎◌, inl, inr, ⊎_elim, ℕ, zero, suc, ◌+◌, ◌<◌, ◌==◌, ◌&&◌, nat_lt, nat_le, arith, Bool, true, false, true≢false, ◌||◌, if◌then◌else◌, Option, Some, None, List, [], ◌∷◌, ◌++◌, map, find}
use Rattle.std.specs.List.{slice_get}
use Rattle.std.proofs.lemmas.Bool.{eqb-true}
use Rattle.std.proofs.lemmas.Option.{same_Some}
use Rattle.path_segments.specs.Heard.{HeardSegment}
use Rattle.sides.specs.declared.side.Side.{Side}
use Rattle.sides.specs.declared.side.Side.TheVariants.{A, B}
use Rattle.link_model.specs.Steps.{arriving, after_delivery}
use Rattle.subflow_send.specs.declared.record.AckKind.TheVariants.{New, Duplicate, Old, Future}
use Rattle.subflow_send.specs.declared.record.RecordKind.{RecordKind}
use Rattle.subflow_send.specs.declared.record.RecordKind.TheVariants as kinds
use Rattle.subflow_send.specs.Records.{Record, SendState, end_of}
use Rattle.subflow_send.specs.Rules.{ack_kind, sample_of, uncovered, after_acknowledge, is_unsent, is_fin, first_sent, first_unsent_sent, fin_sent, fin_record, unsent_again, expired_records, after_finish, after_resent}
use Rattle.subflow_send.specs.Sendings.{never_sent, sent_again}
use Rattle.subflow_tcp.specs.declared.handshake.State.TheVariants as phase
use Rattle.subflow_tcp.specs.declared.segments.Hint.{Hint}
use Rattle.subflow_tcp.specs.declared.segments.Occasion.{Occasion}
use Rattle.subflow_tcp.specs.declared.segments.Occasion.TheVariants as to_send
use Rattle.subflow_tcp.specs.declared.verdicts.Meaning.{Meaning}
use Rattle.subflow_tcp.specs.declared.verdicts.Meaning.TheVariants as means
use Rattle.subflow_tcp.specs.Emitting.{after_sending, syn_resent}
use Rattle.subflow_tcp.specs.Expiring.{after_expiry, after_fire, is_sixth}
use Rattle.subflow_tcp.specs.Opening.{after_begin}
use Rattle.subflow_tcp.specs.Segments.{Copy}
use Rattle.subflow_tcp.specs.State.{EndState, has_records}
use Rattle.subflow_tcp.specs.States.{is_dead, is_waiting}
use Rattle.subflow_tcp.specs.Taking.{after_payload, after_ack_kind, after_acknowledgement, is_duplicate, after_duplicate, after_interruption, told_by, after_telling, after_heard_ack, after_established, after_hearing, after_arrival, after_death, after_holding}
use Rattle.actor_desk.specs.declared.ask.Reply.{Reply}
use Rattle.actor_desk.specs.Words.{tail_of, is_nil}
use Rattle.path_agenda.specs.Agenda.{leaves, emission}
use Rattle.path_agenda.specs.declared.duty.Duty.{Duty}
use Rattle.path_agenda.specs.declared.duty.Duty.TheVariants as duties
use Rattle.path_agenda.specs.declared.duty.AskDuty.TheVariants as ask_duties
use Rattle.path_agenda.specs.declared.duty.SendDuty.TheVariants as send_duties
use Rattle.path_agenda.specs.declared.duty.SilentDuty.TheVariants as silent_duties
use Rattle.path_agenda.specs.declared.duty.StepDuty.TheVariants as step_duties
use Rattle.path_agenda.specs.declared.heard.Heard.{Heard}
use Rattle.path_agenda.specs.declared.heard.Heard.TheVariants as says
use Rattle.path_agenda.specs.declared.keys.KeyPair.{KeyPair}
use Rattle.path_store.specs.declared.lines.LineAction.{LineAction}
use Rattle.path_store.specs.declared.lines.LineAction.TheVariants as actions
use Rattle.path_core.specs.Arrival.{judged_in, copy_heard, heard_in, copy_of, copy_judged, reset_for, owing_if, with_payload}
use Rattle.path_core.specs.Breaking.{answered_break, died_unless_dead}
use Rattle.path_core.specs.Codec.{Codec}
use Rattle.path_core.specs.Deliver.{after_pieces}
use Rattle.path_core.specs.DssIn.{counts, is_clash, held_of, with_learned, with_skipped, with_data_fin}
use Rattle.path_core.specs.Duties.{passed, answered}
use Rattle.path_core.specs.DataFin.{answered_fin, having_sent_fin, is_data_fin_owed}
use Rattle.path_core.specs.Emission.{Grant, ack_resent, answer_occasion, answer_of, answered_answer, answered_data, answered_grant, answered_resend, first_record, first_unsent, grant_in, having_sent_unsent, resend_occasion, resend_of}
use Rattle.path_core.specs.Handover.{having_sent}
use Rattle.path_core.specs.End.{PathEnd, died}
use Rattle.path_core.specs.Events.{next_event, after_line, happens_if}
use Rattle.path_core.specs.Fallback.{breaks_by_ack, with_plain_ack}
use Rattle.path_core.specs.Judged.{taken_as}
use Rattle.path_core.specs.Looking.{duty_sends, segment_sent, unsent_sends}
use Rattle.path_core.specs.MpJoin.{join_begun, is_joined, is_never, never_joined, keys_begun, opened_by, with_keys}
use Rattle.path_core.specs.OptionsIn.{items_of, options_heard, hint_of, owes_by}
use Rattle.path_core.specs.OptionsOut.{record_or_ack}
use Rattle.path_core.specs.Profile.{Profile}
use Rattle.path_core.specs.State.{PathState, at_tick, end_at, goes_on, with_end}
use Rattle.path_core.specs.Steps.{takes, next_round}
use Rattle.path_core.specs.Timer.{with_timer_settled}
use Rattle.path_core.specs.Treating.{item_passed, answered_heard, answered_item, item_of}
use Rattle.path_core.specs.declared.events.Event.{Event}
use Rattle.path_core.specs.declared.events.Event.TheVariants as happenings
use Rattle.world_laws.specs.declared.member.Member.TheVariants.{App, Path}
use Rattle.world_laws.specs.Actors.{Actor, member_takes, member_next}
use Rattle.world_laws.specs.StampedBooks.{answer_to}
use Rattle.world_laws.specs.Writes.{EndWrites, EndView, Writes, Only, OnlyAt, nothing, writes, side_of}
use Rattle.world_laws.proofs.Falls.FailedChecks.{infinite_came_so, fail_answered_so}
use Rattle.world_laws.proofs.Writes.Paths.{writes_no_more, passes_no_more}
use Rattle.world_laws.proofs.Writes.Steps.{Lasts, unwritten, both_ends, settled_lasts, begins_lasts}
use Rattle.whole_paths.specs.Expiries.{IsSaidAt, IsSegmentOf}
use Rattle.whole_paths.specs.Kept.{IsSameRecord}
use Rattle.whole_paths.specs.Mending.{IsRecordOf, WasSent}
use Rattle.whole_paths.specs.RecordsGo.{EachRecordGoesAlone, GoesNext, IsOneSo, PathsGoAlone, RecordsGoAlone}
use Rattle.whole_paths.proofs.Flying.{same_record, same_said, same_segment}
use Rattle.whole_paths.proofs.Turns.{turn_each}

-- ---- lists of records

-- a record of data among these that was sent
record Went (t : Record) (rs : List Record) : Type 0 where
  at : ℕ
  there : slice_get rs at ≡ Some t
  data_is : t.kind ≡ kinds.Data
  sent : t.sending.unsent ≡ false

-- it went before, but for how often
record Before (t : Record) (rs : List Record) : Type 0 where
  record_before : Record
  at : ℕ
  there : slice_get rs at ≡ Some record_before
  same : IsSameRecord record_before t
  sent : record_before.sending.unsent ≡ false

-- each of the second ones that went is one of the first ones
record Stay (rs ts : List Record) : Type 0 where
  each : (t : Record) → Went t ts → Before t rs

-- or is this one
record StayBut (o : Option Record) (rs ts : List Record) : Type 0 where
  each : (t : Record) → Went t ts → Before t rs ⊎ ((r : Record) × (o ≡ Some r) × IsSameRecord r t)

further : (t r : Record) (rs : List Record) → Before t rs → Before t (r ∷ rs)
further t r rs h = record { record_before = h.record_before; at = suc h.at; there = h.there; same = h.same; sent = h.sent }

-- the first one, or one behind it
split : (t r : Record) (rs : List Record) → Went t (r ∷ rs) → (r ≡ t) ⊎ Went t rs
split t r rs h = by h.at h.there
  where
    by : (i : ℕ) → slice_get (r ∷ rs) i ≡ Some t → (r ≡ t) ⊎ Went t rs
    by zero there = inl (same_Some r t there)
    by (suc i) there = inr (record { at = i; there = there; data_is = h.data_is; sent = h.sent })

pub none_at : {X : Type 0} (rs : List Record) (i : ℕ) (t : Record) → rs ≡ [] → slice_get rs i ≡ Some t → X
none_at [] i t is there = cc
none_at (r ∷ rs) i t is there = cc

no_more : {X : Type 0} (t : Record) → Went t [] → X
no_more t h = none_at [] h.at t refl h.there

was_there : (t : Record) (rs : List Record) → Went t rs → Before t rs
was_there t rs h = record { record_before = t; at = h.at; there = h.there; same = same_record t; sent = h.sent }

stay : (rs : List Record) → Stay rs rs
stay rs = record { each = λ t h. was_there t rs h }

longer : (r : Record) (rs ts : List Record) → Stay rs ts → Stay (r ∷ rs) ts
longer r rs ts x = record { each = λ t h. further t r rs (x.each t h) }

-- one behind another
both_longer : (r s : Record) (rs ts : List Record) → ((t : Record) → s ≡ t → t.kind ≡ kinds.Data → t.sending.unsent ≡ false → Before t (r ∷ rs)) → Stay rs ts → Stay (r ∷ rs) (s ∷ ts)
both_longer r s rs ts first x = record { each = λ t h. ⊎_elim (λ is. first t is h.data_is h.sent) (λ behind. further t r rs (x.each t behind)) (split t s ts h) }

same_first : (r : Record) (rs : List Record) (t : Record) → r ≡ t → t.sending.unsent ≡ false → Before t (r ∷ rs)
same_first r rs t is sent = record { record_before = r; at = 0; there = refl; same = subst (IsSameRecord r) is (same_record r); sent = ap (λ (x : Record). x.sending.unsent) is ∙ sent }

uncovered_stay : (pos : ℕ) (rs : List Record) → Stay rs (uncovered pos rs)
uncovered_stay pos [] = stay []
uncovered_stay pos (r ∷ rs) = by (nat_le (end_of r) pos) (uncovered_stay pos rs)
  where
    by : (b : Bool) → Stay rs (uncovered pos rs) → Stay (r ∷ rs) (if b then uncovered pos rs else r ∷ rs)
    by true rest = longer r rs (uncovered pos rs) rest
    by false rest = stay (r ∷ rs)

acknowledged_stay : (pos : ℕ) (v : SendState) → Stay v.records (after_acknowledge pos v).records
acknowledged_stay pos v = by (nat_lt v.una pos && nat_le pos v.nxt)
  where
    by : (b : Bool) → Stay v.records (if b then record v { una = pos; records = uncovered pos v.records } else v).records
    by true = uncovered_stay pos v.records
    by false = stay v.records

-- one more that wasn't sent, or is no data
pushed_stay : (r : Record) → (r.kind ≡ kinds.Data → r.sending.unsent ≡ true) → (rs : List Record) → Stay rs (rs ++ r ∷ [])
pushed_stay r un [] = record { each = λ t h. ⊎_elim (λ is. absurd (true≢false (sym (un (ap (λ (x : Record). x.kind) is ∙ h.data_is)) ∙ ap (λ (x : Record). x.sending.unsent) is ∙ h.sent))) (λ none. no_more t none) (split t r [] h) }
pushed_stay r un (s ∷ rs) = both_longer s s rs (rs ++ r ∷ []) (λ t is data_is sent. same_first s rs t is sent) (pushed_stay r un rs)

unsent_stay : (rs others : List Record) → Stay others (map unsent_again rs)
unsent_stay [] others = record { each = λ t h. no_more t h }
unsent_stay (r ∷ rs) others = record { each = λ t h. ⊎_elim (λ is. absurd (true≢false (ap (λ (x : Record). x.sending.unsent) is ∙ h.sent))) (λ behind. (unsent_stay rs others).each t behind) (split t (unsent_again r) (map unsent_again rs) h) }

expired_stay : (rs : List Record) → Stay rs (expired_records rs)
expired_stay [] = stay []
expired_stay (r ∷ rs) = both_longer r _ rs (map unsent_again rs)
    (λ t is data_is sent. record { record_before = r; at = 0; there = refl; same = subst (IsSameRecord r) is (record { pos = refl; kind = refl; piece = refl; mapping = refl }); sent = ap (λ (x : Record). x.sending.unsent) is ∙ sent })
    (unsent_stay rs rs)

fin_stay : (now : ℕ) (rs : List Record) → Stay rs (map (fin_sent now) rs)
fin_stay now [] = stay []
fin_stay now (r ∷ rs) = both_longer r (fin_sent now r) rs (map (fin_sent now) rs) (by r.kind refl) (fin_stay now rs)
  where
    by : (k : RecordKind) → r.kind ≡ k → (t : Record) → fin_sent now r ≡ t → t.kind ≡ kinds.Data → t.sending.unsent ≡ false → Before t (r ∷ rs)
    by kinds.Fin is t same data_is sent = absurd (let made : (fin_sent now r).kind ≡ kinds.Fin = ap (λ k. (if is_fin k then record r { sending = sent_again now r.sending } else r).kind) is ∙ is in let fin : kinds.Fin ≡ kinds.Data = sym made ∙ ap (λ (x : Record). x.kind) same ∙ data_is in cc)
    by kinds.Syn is t same data_is sent = same_first r rs t (sym (ap (λ k. if is_fin k then record r { sending = sent_again now r.sending } else r) is) ∙ same) sent
    by kinds.Data is t same data_is sent = same_first r rs t (sym (ap (λ k. if is_fin k then record r { sending = sent_again now r.sending } else r) is) ∙ same) sent

-- the first one is sent
marked_same : (now : ℕ) (r t : Record) → record r { sending = sent_again now r.sending } ≡ t → IsSameRecord r t
marked_same now r t is = subst (IsSameRecord r) is (record { pos = refl; kind = refl; piece = refl; mapping = refl })

first_but : (now : ℕ) (rs : List Record) → StayBut (slice_get rs 0) rs (first_sent now rs)
first_but now [] = record { each = λ t h. no_more t h }
first_but now (r ∷ rs) = record { each = λ t h. ⊎_elim (λ is. inr (r, refl, marked_same now r t is)) (λ behind. inl (further t r rs (was_there t rs behind))) (split t _ rs h) }

-- the first one that is to be sent
unsent_but : (now : ℕ) (rs : List Record) → StayBut (find is_unsent rs) rs (first_unsent_sent now rs)
unsent_but now [] = record { each = λ t h. no_more t h }
unsent_but now (r ∷ rs) = by (is_unsent r) (unsent_but now rs)
  where
    by : (b : Bool) → StayBut (find is_unsent rs) rs (first_unsent_sent now rs)
        → StayBut (if b then Some r else find is_unsent rs) (r ∷ rs) (if b then record r { sending = sent_again now r.sending } ∷ rs else r ∷ first_unsent_sent now rs)
    by true rest = record { each = λ t h. ⊎_elim (λ is. inr (r, refl, marked_same now r t is)) (λ behind. inl (further t r rs (was_there t rs behind))) (split t _ rs h) }
    by false rest = record {
      each = λ t h. ⊎_elim
          (λ is. inl (same_first r rs t is h.sent))
          (λ behind. ⊎_elim (λ before. inl (further t r rs before)) (λ one. inr one) (rest.each t behind))
          (split t r (first_unsent_sent now rs) h);
    }

-- one after the other
stay_then : (rs ts us : List Record) → Stay rs ts → Stay ts us → Stay rs us
stay_then rs ts us x y = record { each = λ u h. on u h (y.each u h) }
  where
    on : (u : Record) → Went u us → Before u ts → Before u rs
    on u h b =
        let first : Before b.record_before rs = x.each b.record_before (record { at = b.at; there = b.there; data_is = sym b.same.kind ∙ h.data_is; sent = b.sent }) in
        record {
          record_before = first.record_before;
          at = first.at;
          there = first.there;
          same = record { pos = b.same.pos ∙ first.same.pos; kind = b.same.kind ∙ first.same.kind; piece = b.same.piece ∙ first.same.piece; mapping = b.same.mapping ∙ first.same.mapping };
          sent = first.sent;
        }

-- ---- the subflow

abbrev StateStays : EndState → EndState → Type 0
StateStays s t = Stay s.send.records t.send.records

ack_stays : (pos now : ℕ) (s : EndState) → StateStays s (after_acknowledgement pos now s)
ack_stays pos now s = elim (ack_kind pos s.send) as (λ kind. StateStays s (after_ack_kind kind (sample_of pos s.send) now (record s { send = after_acknowledge pos s.send })))
    [ New octets ↦ acknowledged_stay pos s.send | Duplicate ↦ acknowledged_stay pos s.send | Old ↦ acknowledged_stay pos s.send | Future ↦ acknowledged_stay pos s.send ]

heard_ack_stays : (pos : ℕ) (hint : Hint) (now : ℕ) (c : Copy) (s : EndState) → StateStays s (after_heard_ack pos hint now c s)
heard_ack_stays pos hint now c s = elim (is_duplicate (ack_kind pos s.send) (told_by hint c) c acked) as (λ b. StateStays s (after_telling (told_by hint c) (if b then after_duplicate acked else after_interruption acked)))
    [ true ↦ ack_stays pos now s | false ↦ ack_stays pos now s ]
  where
    acked : EndState
    acked = after_acknowledgement pos now s

arrived_stays : (m : Meaning) (hint : Hint) (now : ℕ) (c : Copy) (s : EndState) → StateStays s (after_arrival m hint now c s)
arrived_stays (means.Accepts pos) hint now c s = ack_stays pos now (record (after_hearing (after_payload 1 hint c s)) { state = phase.Established })
arrived_stays means.Kills hint now c s = acknowledged_stay s.send.nxt s.send
arrived_stays (means.Taken pos acknowledged) hint now c s = heard_ack_stays acknowledged hint now c (after_established (after_hearing (after_payload pos hint c s)))
arrived_stays _ hint now c s = stay s.send.records

held_stays : (m n : Meaning) (octets : List ℕ) (hint : Hint) (now : ℕ) (c : Copy) (s : EndState) → StateStays s (after_arrival n hint now c (with_payload m octets s))
held_stays (means.Taken pos acknowledged) n octets hint now c s = by (is_nil octets)
  where
    by : (b : Bool) → StateStays s (after_arrival n hint now c (if b then s else after_holding pos octets s))
    by true = arrived_stays n hint now c s
    by false = arrived_stays n hint now c (after_holding pos octets s)
held_stays _ n octets hint now c s = arrived_stays n hint now c s

owing_stays : (b : Bool) (s t : EndState) → StateStays s t → StateStays s (owing_if b t)
owing_stays false s t h = h
owing_stays true s t h = h

-- ---- an end

record Still (e f : PathEnd) : Type 0 where
  stays : Stay e.tcp.send.records f.tcp.send.records

rests : (e : PathEnd) → Still e e
rests e = record { stays = stay e.tcp.send.records }

-- with the same records
same : (e f : PathEnd) → f.tcp.send.records ≡ e.tcp.send.records → Still e f
same e f is = record { stays = subst (Stay e.tcp.send.records) (sym is) (stay e.tcp.send.records) }

-- where the subflow's sending side may not be written
no_more_written : (w : EndWrites) (e f : PathEnd) → w.send ≡ false → Only w e f → f.tcp.send.records ≡ e.tcp.send.records
no_more_written w e f send x = ap (λ (v : SendState). v.records) (unwritten w.send e.tcp.send f.tcp.send send (ap (λ (v : EndView). v.send) x.same))

only_still : (w : EndWrites) (e f : PathEnd) → w.send ≡ false → Only w e f → Still e f
only_still w e f send x = same e f (no_more_written w e f send x)

either_still : (b : Bool) (e f g : PathEnd) → Still e f → Still e g → Still e (if b then f else g)
either_still true e f g x y = x
either_still false e f g x y = y

-- the end dies
gone : (e f : PathEnd) → f.tcp.send.records ≡ (after_acknowledge e.tcp.send.nxt e.tcp.send).records → Still e f
gone e f is = record { stays = subst (Stay e.tcp.send.records) (sym is) (acknowledged_stay e.tcp.send.nxt e.tcp.send) }

judged_still : (c : Profile) (s : Side) (now : ℕ) (h : HeardSegment) (e : PathEnd) (m : Meaning) → Still e (copy_judged (is_joined c) (held_of c s h) (reset_for c s h) s now h m e)
judged_still c s now h e m =
    let items : List Heard = items_of (is_joined c) s h in
    record {
      stays = owing_stays (owes_by m items) e.tcp (after_arrival m (hint_of items) now (copy_of h) (with_payload m h.payload e.tcp))
          (held_stays m m h.payload (hint_of items) now (copy_of h) e.tcp);
    }

fires_still : (now : ℕ) (e : PathEnd) → Still e (record e { tcp = after_fire now e.tcp })
fires_still now e = by (is_sixth e.tcp)
  where
    by : (b : Bool) → Still e (record e { tcp = if b then after_death true e.tcp else after_expiry now e.tcp })
    by true = gone e _ refl
    by false = record { stays = expired_stay e.tcp.send.records }

died_still : (e : PathEnd) → Still e (died_unless_dead e)
died_still e = either_still (is_dead e.tcp.state) e e (died e) (rests e) (gone e (died e) refl)

-- a thing that was heard, and passed
item_same : (s : Side) (o : Option Heard) (e : PathEnd) → (item_passed s o e).tcp.send.records ≡ e.tcp.send.records
item_same s None e = refl
item_same s (Some says.Dss) e = refl
item_same s (Some (says.Mapping fin)) e = elim (counts e) as (λ b. (if b then with_learned e else with_skipped e).tcp.send.records ≡ e.tcp.send.records) [ true ↦ refl | false ↦ refl ]
item_same s (Some (says.DataFin place)) e = elim (counts e) as (λ b. (if b then with_data_fin place e else e).tcp.send.records ≡ e.tcp.send.records) [ true ↦ refl | false ↦ refl ]
item_same s (Some _) e = refl

-- ---- a record and its end

-- the segment of a record
of_record : (c : Profile) (s : Side) (o : Option Record) (r t : Record) (e : PathEnd) → o ≡ Some r → IsSameRecord r t → IsSegmentOf t (record_or_ack c s o e) × IsSaidAt c s t e (record_or_ack c s o e)
of_record c s o r t e is x = subst (λ o. IsSegmentOf t (record_or_ack c s o e) × IsSaidAt c s t e (record_or_ack c s o e)) (sym is) (
  same_segment t r _ back (record { position = refl; syn = refl; fin = refl; rst = refl; payload = refl }),
  same_said c s e t r _ back (record { options = refl; acknowledged = refl }),
)
  where
    back : IsSameRecord t r
    back = record { pos = sym x.pos; kind = sym x.kind; piece = sym x.piece; mapping = sym x.mapping }

-- the SYN/ACK goes again only before the SYN is acknowledged
syn_ack_still : (now : ℕ) (v : SendState) → 0 < v.una → Stay v.records (syn_resent now v).records
syn_ack_still now v some = by (v.una == 0) refl
  where
    by : (b : Bool) → (v.una == 0) ≡ b → Stay v.records (if b then after_resent now v else v).records
    by true is = absurd (let none = eqb-true v.una 0 is in omega (arith, none, some))
    by false is = stay v.records

went_of : (t : Record) (e : PathEnd) → IsRecordOf e t → t.kind ≡ kinds.Data → t.sending.unsent ≡ false → Went t e.tcp.send.records
went_of t e h data_is sent = record { at = h.at; there = subst (λ x. slice_get e.tcp.send.records h.at ≡ Some x) h.holds h.there; data_is = data_is; sent = sent }

was_sent : (t : Record) (e : PathEnd) → Before t e.tcp.send.records → WasSent e t
was_sent t e h = record { record_before = h.record_before; there = record { at = h.at; item = h.record_before; there = h.there; holds = refl }; same = h.same; sent = h.sent }

-- ---- a path

module _ {C : Type 0} where
  record BothStill (p q : PathState C) : Type 0 where
    a : Still p.a q.a
    b : Still p.b q.b

  -- the end of this side becomes that one
  side : (s : Side) (e : PathEnd) (p q : PathState C) → Still (end_at s p) e → q.a ≡ (goes_on s e [] p).a → q.b ≡ (goes_on s e [] p).b → BothStill p q
  side A e p q x same_a same_b = record { a = subst (Still p.a) (sym same_a) x; b = subst (Still p.b) (sym same_b) (rests p.b) }
  side B e p q x same_a same_b = record { a = subst (Still p.a) (sym same_a) (rests p.a); b = subst (Still p.b) (sym same_b) x }

  both_rest : (p q : PathState C) → q.a ≡ p.a → q.b ≡ p.b → BothStill p q
  both_rest p q same_a same_b = record { a = subst (Still p.a) (sym same_a) (rests p.a); b = subst (Still p.b) (sym same_b) (rests p.b) }

  either : (b : Bool) (q r p : PathState C) → BothStill p q → BothStill p r → BothStill p (if b then q else r)
  either true q r p x y = x
  either false q r p x y = y

  from_there : (p q r : PathState C) → q.a ≡ p.a → q.b ≡ p.b → BothStill q r → BothStill p r
  from_there p q r a b x = record { a = subst (λ e. Still e r.a) a x.a; b = subst (λ e. Still e r.b) b x.b }

  plain : (s : Side) (w : Writes) (p q : PathState C) → w.own.send ≡ false → w.other ≡ nothing → OnlyAt s w p q → BothStill p q
  plain s w p q send none x = record { a = h.0; b = h.1 }
    where
      h : Still p.a q.a × Still p.b q.b
      h = both_ends (λ e f. Still e f) s w p q (λ e f only. only_still w.own e f send only)
          (λ e f only. only_still nothing e f refl (subst (λ v. Only v e f) none only)) x

  -- ---- replies

  break_still : (k : Codec C) (s : Side) (reason : ℕ) (r : Reply) (p : PathState C) → BothStill p (answered_break k s reason r p)
  break_still k s reason r p = either (end_at s p).treated.asked _ _ p (side s _ p _ (same _ _ refl) refl refl) (side s _ p _ (gone _ _ refl) refl refl)

  thing_still : (k : Codec C) (s : Side) (item : Heard) (r : Reply) (p : PathState C) → BothStill p (answered_heard k s item r p)
  thing_still k s (says.DataAck next window) r p = side s _ p _ (same _ _ refl) refl refl
  thing_still k s (says.Mapping fin) r p = either (is_clash (end_at s p)) _ _ p (break_still k s 1 r p) (side s _ p _ (same _ _ refl) refl refl)
  thing_still k s (says.DataFin place) r p = side s _ p _ (same _ _ refl) refl refl
  thing_still k s (says.InfiniteMapping place position) r p =
      let e = end_at s p in side s _ p _ (infinite_came_so (λ f. Still e f) place position r e (λ other. same e _ refl)) refl refl
  thing_still k s (says.Keys own peer) r p = side s _ p _ (same _ _ refl) refl refl
  thing_still k s (says.Notice notice) r p = side s _ p _ (same _ _ refl) refl refl
  thing_still k s says.Fail r p = fail_answered_so (BothStill p) s r p (side s _ p _ (same _ _ refl) refl refl) (side s _ p _ (same _ _ refl) refl refl)
  thing_still k s _ r p = both_rest p _ refl refl

  things_still : (k : Codec C) (s : Side) (item : Option Heard) (r : Reply) (p : PathState C) → BothStill p (answered_item k s item r p)
  things_still k s None r p = both_rest p _ refl refl
  things_still k s (Some item) r p = thing_still k s item r p

  -- ---- events

  begun_still : (r : Reply) (dead living : List Duty) (p : PathState C) → BothStill p (join_begun r dead living p)
  begun_still r dead living p =
      either (is_never r) (goes_on A (never_joined r (end_at A p)) dead p) (goes_on A (opened_by (keys_begun r) (end_at A p)) living p) p
      (side A _ p _ (gone _ _ refl) refl refl) (side A _ p _ (opens_still (keys_begun r)) refl refl)
    where
      opens_still : (keys : Option KeyPair) → Still p.a (opened_by keys p.a)
      opens_still None = rests p.a
      opens_still (Some keys) = elim (is_waiting p.a.tcp.state) as (λ b. Still p.a (record p.a { tcp = if b then after_begin p.a.tcp else p.a.tcp; modes = with_keys keys p.a.modes }))
          [ true ↦ same _ _ refl | false ↦ same _ _ refl ]

  line_still : (action : LineAction) (p : PathState C) → BothStill p (after_line action p)
  line_still actions.Die p = record { a = died_still p.a; b = died_still p.b }
  line_still (actions.Prio s backup) p = side s _ p _ (same _ _ refl) refl refl
  line_still (actions.Announce s id) p = both_rest p _ refl refl
  line_still (actions.Withdraw s id) p = both_rest p _ refl refl

  heard_still : (s : Side) (o : Option HeardSegment) (p : PathState C) → BothStill p (copy_heard s o p)
  heard_still s None p = both_rest p _ refl refl
  heard_still s (Some heard) p =
      let e : PathEnd = end_at s p in
      let h : HeardSegment = options_heard e heard in
      side s _ p (copy_heard s (Some heard) p) (judged_still p.profile s p.clock h e (taken_as (judged_in (is_joined p.profile) s h e))) refl refl

  event_still : (k : Codec C) (o : Option Event) (r : Reply) (p : PathState C) → BothStill p (happens_if k o r p)
  event_still k None r p = both_rest p _ refl refl
  event_still k (Some (happenings.Joins tick)) r p =
      let q : PathState C = record (at_tick tick p) { joined_at = None } in from_there p q _ refl refl (begun_still r (leaves A) (emission A) q)
  event_still k (Some (happenings.Takes line)) r p =
      let q : PathState C = record (at_tick line.tick p) { lines = tail_of p.lines } in from_there p q _ refl refl (line_still line.action q)
  event_still k (Some (happenings.Arrives due)) r p =
      let q : PathState C = record (at_tick due.tick p) { link = after_delivery due p.link } in
      from_there p q _ refl refl (heard_still due.to (heard_in k due.to (arriving due p.link) p) q)
  event_still k (Some (happenings.Fires A tick)) r p = record { a = fires_still (at_tick tick p).clock p.a; b = rests p.b }
  event_still k (Some (happenings.Fires B tick)) r p = record { a = rests p.a; b = fires_still (at_tick tick p).clock p.b }

  -- ---- what goes

  -- what was sent stays so, or it is of the segment that the duty sends
  abbrev DutySends : Duty → PathState C → PathState C → Type 0
  DutySends d p q = (s : Side) → 0 < (end_at s p).tcp.send.una → (t : Record) → Went t (end_at s q).tcp.send.records
      → Before t (end_at s p).tcp.send.records ⊎ IsOneSo (duty_sends d p) (λ x. (x.from ≡ s) × IsSegmentOf t (segment_sent p x) × IsSaidAt p.profile s t (end_at s p) (segment_sent p x))

  rest : (d : Duty) (p q : PathState C) → BothStill p q → DutySends d p q
  rest d p q x A some t h = inl (x.a.stays.each t h)
  rest d p q x B some t h = inl (x.b.stays.each t h)

  -- an end that sends one record of its own
  sends_one : (d : Duty) (s : Side) (o : Option Record) (f : PathEnd) (p q : PathState C)
      → ((r t : Record) → o ≡ Some r → IsSameRecord r t → IsOneSo (duty_sends d p) (λ x. (x.from ≡ s) × IsSegmentOf t (segment_sent p x) × IsSaidAt p.profile s t (end_at s p) (segment_sent p x)))
      → (0 < (end_at s p).tcp.send.una → StayBut o (end_at s p).tcp.send.records f.tcp.send.records)
      → q.a ≡ (goes_on s f [] p).a → q.b ≡ (goes_on s f [] p).b → DutySends d p q
  sends_one d A o f p q goes but same_a same_b A some t h = ⊎_elim
      (λ before. inl before)
      (λ one. inr (goes one.0 t one.1 one.2))
      ((but some).each t (subst (λ (e : PathEnd). Went t e.tcp.send.records) same_a h))
  sends_one d A o f p q goes but same_a same_b B some t h = inl ((rests p.b).stays.each t (subst (λ (e : PathEnd). Went t e.tcp.send.records) same_b h))
  sends_one d B o f p q goes but same_a same_b A some t h = inl ((rests p.a).stays.each t (subst (λ (e : PathEnd). Went t e.tcp.send.records) same_a h))
  sends_one d B o f p q goes but same_a same_b B some t h = ⊎_elim
      (λ before. inl before)
      (λ one. inr (goes one.0 t one.1 one.2))
      ((but some).each t (subst (λ (e : PathEnd). Went t e.tcp.send.records) same_b h))

  -- and one that sends none
  sends_none : (d : Duty) (s : Side) (f : PathEnd) (p q : PathState C) → (0 < (end_at s p).tcp.send.una → Still (end_at s p) f)
      → q.a ≡ (goes_on s f [] p).a → q.b ≡ (goes_on s f [] p).b → DutySends d p q
  sends_none d A f p q still same_a same_b A some t h = inl ((still some).stays.each t (subst (λ (e : PathEnd). Went t e.tcp.send.records) same_a h))
  sends_none d A f p q still same_a same_b B some t h = inl ((rests p.b).stays.each t (subst (λ (e : PathEnd). Went t e.tcp.send.records) same_b h))
  sends_none d B f p q still same_a same_b A some t h = inl ((rests p.a).stays.each t (subst (λ (e : PathEnd). Went t e.tcp.send.records) same_a h))
  sends_none d B f p q still same_a same_b B some t h = inl ((still some).stays.each t (subst (λ (e : PathEnd). Went t e.tcp.send.records) same_b h))

  data_row : (k : Codec C) (s : Side) (o : Option Record) (r : Reply) (p : PathState C) → first_unsent (end_at s p) ≡ o → DutySends (duties.Step (step_duties.Data s)) p (answered_data k s o r p)
  data_row k s (Some unsent) r p is = sends_one (duties.Step (step_duties.Data s)) s (first_unsent (end_at s p)) (having_sent_unsent s p) p (answered_data k s (Some unsent) r p)
      (λ u t one same.
      let one_is = of_record p.profile s (first_unsent (end_at s p)) u t (end_at s p) one same in
      subst (λ o. IsOneSo (unsent_sends s o) (λ x. (x.from ≡ s) × IsSegmentOf t (segment_sent p x) × IsSaidAt p.profile s t (end_at s p) (segment_sent p x))) (sym is) (refl, one_is.0, one_is.1))
      (λ some. unsent_but p.clock (end_at s p).tcp.send.records) refl refl
  data_row k s None r p is = rest (duties.Step (step_duties.Data s)) p (answered_data k s None r p) (by (grant_in r))
    where
      by : (o : Option Grant) → BothStill p (answered_grant s o r p)
      by (Some grant) = side s _ p _ (record { stays = pushed_stay _ (λ data_is. refl) (end_at s p).tcp.send.records }) refl refl
      by None = side s _ p _ (same _ _ refl) refl refl

  resend_row : (k : Codec C) (s : Side) (p : PathState C) → DutySends (duties.Send (send_duties.Resend s)) p (answered_resend k s p)
  resend_row k s p = by (has_records e.tcp) refl
    where
      e : PathEnd
      e = end_at s p

      sent : PathEnd
      sent = having_sent (resend_occasion e) p.clock (resend_of s p) e

      other : Occasion
      other = if e.modes.owes_third || (e.notices.fast_closed || is_data_fin_owed e) then to_send.Ack else to_send.Probe

      none : (b : Bool) → Stay e.tcp.send.records (after_sending (if b then to_send.Ack else to_send.Probe) p.clock e.tcp).send.records
      none true = stay e.tcp.send.records
      none false = stay e.tcp.send.records

      by : (b : Bool) → has_records e.tcp ≡ b → DutySends (duties.Send (send_duties.Resend s)) p (answered_resend k s p)
      by true is = sends_one (duties.Send (send_duties.Resend s)) s (first_record e) sent p (answered_resend k s p)
          (λ u t one same.
          let one_is = subst (λ b. let x = if b then record_or_ack p.profile s (first_record e) e else ack_resent p.profile s e in IsSegmentOf t x × IsSaidAt p.profile s t e x) (sym is) (of_record p.profile s (first_record e) u t e one same) in
          (refl, one_is.0, one_is.1))
          (λ some. subst (λ b. StayBut (first_record e) e.tcp.send.records (after_sending (if b then to_send.First else other) p.clock e.tcp).send.records) (sym is) (first_but p.clock e.tcp.send.records)) refl refl
      by false is = sends_none (duties.Send (send_duties.Resend s)) s sent p (answered_resend k s p) (λ some. record {
        stays = subst (λ b. Stay e.tcp.send.records (after_sending (if b then to_send.First else other) p.clock e.tcp).send.records) (sym is) (none (e.modes.owes_third || (e.notices.fast_closed || is_data_fin_owed e)));
      }) refl refl

  answer_row : (k : Codec C) (s : Side) (p : PathState C) → DutySends (duties.Send (send_duties.Answer s)) p (answered_answer k s p)
  answer_row k s p = sends_none (duties.Send (send_duties.Answer s)) s (having_sent (answer_occasion (end_at s p)) p.clock (answer_of s p) (end_at s p)) p (answered_answer k s p) (λ some. record { stays = by some (end_at s p).tcp.due.syn_ack }) refl refl
    where
      by : 0 < (end_at s p).tcp.send.una → (b : Bool) → Stay (end_at s p).tcp.send.records (after_sending (if b then to_send.SynAck else to_send.Ack) p.clock (end_at s p).tcp).send.records
      by some true = syn_ack_still p.clock (end_at s p).tcp.send some
      by some false = stay (end_at s p).tcp.send.records

  fin_row : (k : Codec C) (s : Side) (p : PathState C) → DutySends (duties.Send (send_duties.Fin s)) p (answered_fin k s p)
  fin_row k s p =
      let v : SendState = (end_at s p).tcp.send in
      rest (duties.Send (send_duties.Fin s)) p (answered_fin k s p) (side s (having_sent_fin s p) p (answered_fin k s p) (record {
        stays = stay_then v.records (after_finish v).records (map (fin_sent p.clock) (after_finish v).records)
            (pushed_stay (fin_record v.nxt never_sent) (λ data_is. refl) v.records) (fin_stay p.clock (after_finish v).records);
      }) refl refl)

  -- ---- any duty

  answered_row : (k : Codec C) (d : Duty) (r : Reply) (p : PathState C) → DutySends d p (answered k d r p)
  answered_row k (duties.Step step_duties.Events) r p = rest (duties.Step step_duties.Events) p (answered k (duties.Step step_duties.Events) r p) (event_still k (next_event p) r p)
  answered_row k (duties.Ask ask_duties.JoinAgain) r p = rest (duties.Ask ask_duties.JoinAgain) p (answered k (duties.Ask ask_duties.JoinAgain) r p) (begun_still r _ _ p)
  answered_row k (duties.Ask (ask_duties.LeaveNoted s)) r p = rest (duties.Ask (ask_duties.LeaveNoted s)) p (answered k (duties.Ask (ask_duties.LeaveNoted s)) r p) (side s _ p (answered k (duties.Ask (ask_duties.LeaveNoted s)) r p) (gone _ _ refl) refl refl)
  answered_row k (duties.Step (step_duties.Heard s index)) r p = rest (duties.Step (step_duties.Heard s index)) p (answered k (duties.Step (step_duties.Heard s index)) r p) (things_still k s (item_of index (end_at s p)) r p)
  answered_row k (duties.Step (step_duties.PlainAck s)) r p =
      rest (duties.Step (step_duties.PlainAck s)) p (answered k (duties.Step (step_duties.PlainAck s)) r p) (either (breaks_by_ack p.profile (end_at s p)) _ _ p (break_still k s 6 r p) (side s _ p _ (same _ _ refl) refl refl))
  answered_row k (duties.Step (step_duties.Unmapped s)) r p = rest (duties.Step (step_duties.Unmapped s)) p (answered k (duties.Step (step_duties.Unmapped s)) r p) (break_still k s 6 r p)
  answered_row k (duties.Step (step_duties.Data s)) r p = data_row k s (first_unsent (end_at s p)) r p refl
  answered_row k (duties.Send (send_duties.Update s)) r p = rest (duties.Send (send_duties.Update s)) p (answered k (duties.Send (send_duties.Update s)) r p) (side s _ p (answered k (duties.Send (send_duties.Update s)) r p) (same _ _ refl) refl refl)
  answered_row k (duties.Send (send_duties.Syn s)) r p = sends_one (duties.Send (send_duties.Syn s)) s (first_unsent (end_at s p)) (having_sent_unsent s p) p (answered k (duties.Send (send_duties.Syn s)) r p)
      (λ u t one same. let one_is = of_record p.profile s (first_unsent (end_at s p)) u t (end_at s p) one same in (refl, one_is.0, one_is.1)) (λ some. unsent_but p.clock (end_at s p).tcp.send.records) refl refl
  answered_row k (duties.Send (send_duties.Fin s)) r p = fin_row k s p
  answered_row k (duties.Send (send_duties.SynAck s)) r p = sends_none (duties.Send (send_duties.SynAck s)) s _ p (answered k (duties.Send (send_duties.SynAck s)) r p) (λ some. record { stays = syn_ack_still p.clock (end_at s p).tcp.send some }) refl refl
  answered_row k (duties.Send (send_duties.Again s)) r p = sends_one (duties.Send (send_duties.Again s)) s (first_record (end_at s p)) _ p (answered k (duties.Send (send_duties.Again s)) r p)
      (λ u t one same. let one_is = of_record p.profile s (first_record (end_at s p)) u t (end_at s p) one same in (refl, one_is.0, one_is.1)) (λ some. first_but p.clock (end_at s p).tcp.send.records) refl refl
  answered_row k (duties.Send (send_duties.Answer s)) r p = answer_row k s p
  answered_row k (duties.Send (send_duties.Resend s)) r p = resend_row k s p
  answered_row k (duties.Send (send_duties.BreakReset s reason)) r p = rest (duties.Send (send_duties.BreakReset s reason)) p (answered k (duties.Send (send_duties.BreakReset s reason)) r p) (side s _ p (answered k (duties.Send (send_duties.BreakReset s reason)) r p) (gone _ _ refl) refl refl)
  answered_row k (duties.Send (send_duties.Reset s)) r p = rest (duties.Send (send_duties.Reset s)) p (answered k (duties.Send (send_duties.Reset s)) r p) (side s _ p (answered k (duties.Send (send_duties.Reset s)) r p) (gone _ _ refl) refl refl)
  answered_row k (duties.Send (send_duties.ResetNoted s)) r p = rest (duties.Send (send_duties.ResetNoted s)) p (answered k (duties.Send (send_duties.ResetNoted s)) r p) (side s _ p (answered k (duties.Send (send_duties.ResetNoted s)) r p) (gone _ _ refl) refl refl)
  answered_row k (duties.Silent d) r p = rest (duties.Silent d) p (answered k (duties.Silent d) r p) (both_rest p _ refl refl)
  answered_row k d r p =
      let q : PathState C = answered k d r p in rest d p q (plain (side_of d) (writes d) p q refl refl (writes_no_more k d r p))

  -- ---- duties that are passed

  abbrev pub SameRecords : PathState C → PathState C → Type 0
  SameRecords p q = (s : Side) → (end_at s q).tcp.send.records ≡ (end_at s p).tcp.send.records

  -- the end of this side passes a duty
  own : (s : Side) (e : PathEnd) (p : PathState C) → e.tcp.send.records ≡ (end_at s p).tcp.send.records → SameRecords p (with_end s e p)
  own A e p x A = x
  own A e p x B = refl
  own B e p x A = refl
  own B e p x B = x

  plain_same : (s : Side) (w : Writes) (p q : PathState C) → w.own.send ≡ false → w.other ≡ nothing → OnlyAt s w p q → SameRecords p q
  plain_same s w p q send none x = by
    where
      h : (p.a.tcp.send.records ≡ q.a.tcp.send.records) × (p.b.tcp.send.records ≡ q.b.tcp.send.records)
      h = both_ends (λ e f. e.tcp.send.records ≡ f.tcp.send.records) s w p q (λ e f only. sym (no_more_written w.own e f send only))
          (λ e f only. sym (no_more_written nothing e f refl (subst (λ v. Only v e f) none only))) x

      by : SameRecords p q
      by A = sym h.0
      by B = sym h.1

  passed_same : (d : Duty) (p : PathState C) → SameRecords p (passed d p)
  passed_same (duties.Silent (silent_duties.Timer s)) p = own s (with_timer_settled p.clock (end_at s p)) p refl
  passed_same (duties.Step (step_duties.Heard s index)) p = let e : PathEnd = end_at s p in own s (item_passed s (item_of index e) e) p (item_same s (item_of index e) e)
  passed_same (duties.Step (step_duties.PlainAck s)) p = own s (with_plain_ack (end_at s p)) p refl
  passed_same (duties.Step (step_duties.Unmapped s)) p = own s (after_pieces (end_at s p)) p refl
  passed_same (duties.Step (step_duties.Data s)) p = λ t. refl
  passed_same (duties.Ask ask_duties.JoinAgain) p = λ t. refl
  passed_same (duties.Ask (ask_duties.SubflowAck s)) p = λ t. refl
  passed_same (duties.Ask (ask_duties.LeaveNoted s)) p = λ t. refl
  passed_same (duties.Step step_duties.Events) p = λ t. refl
  passed_same (duties.Send d) p = λ t. refl
  passed_same d p = plain_same (side_of d) (writes d) p (passed d p) refl refl (passes_no_more d p)

  pub same_lasts : Lasts SameRecords
  same_lasts = record {
    agenda = λ ds p t. by t ds p;
    chains = λ p q r x y t. y t ∙ x t;
    passes = λ d p. passed_same d p;
  }
    where
      by : (t : Side) (ds : List Duty) (p : PathState C) → (end_at t (record p { agenda = ds })).tcp.send.records ≡ (end_at t p).tcp.send.records
      by A ds p = refl
      by B ds p = refl

  -- ---- a turn

  pub takes_row : (k : Codec C) (r : Reply) (p : PathState C) → RecordsGoAlone p (takes k r p)
  takes_row k r p s = by p.agenda
    where
      by : (ds : List Duty) → let x = record p { agenda = ds } in 0 < (end_at s x).tcp.send.una → (t : Record) → IsRecordOf (end_at s (takes k r x)) t → t.kind ≡ kinds.Data → t.sending.unsent ≡ false
          → WasSent (end_at s x) t ⊎ GoesNext s t x
      by [] some t h data_is sent = inl (was_sent t (end_at s (record p { agenda = [] })) (was_there t _ (went_of t (end_at s (record p { agenda = [] })) h data_is sent)))
      by (d ∷ ds) some t h data_is sent =
          let x : PathState C = record p { agenda = d ∷ ds } in
          let q : PathState C = answered k d r x in
          let went : Went t (end_at s q).tcp.send.records = subst (λ rs. Went t rs) (settled_lasts SameRecords same_lasts q.agenda q s) (went_of t (end_at s (takes k r x)) h data_is sent) in
          ⊎_elim
          (λ before. inl (was_sent t (end_at s x) before))
          (λ goes. inr goes)
          (answered_row k d r x s some t went)

  -- what was sent at the end of a round, or while another actor goes on
  pub next_was : (p : PathState C) (s : Side) (t : Record) → IsRecordOf (end_at s (next_round p)) t → t.kind ≡ kinds.Data → t.sending.unsent ≡ false → WasSent (end_at s p) t
  next_was p s t h data_is sent =
      let q : PathState C = record p { clock = p.until; until = p.until + 100 } in
      was_sent t (end_at s p) (was_there t (end_at s p).tcp.send.records (subst (λ rs. Went t rs) (begins_lasts SameRecords same_lasts q s ∙ still s) (went_of t (end_at s (next_round p)) h data_is sent)))
    where
      still : (t : Side) → (end_at t (record p { clock = p.until; until = p.until + 100 })).tcp.send.records ≡ (end_at t p).tcp.send.records
      still A = refl
      still B = refl

  pub still_was : (p : PathState C) (s : Side) (t : Record) → IsRecordOf (end_at s p) t → t.kind ≡ kinds.Data → t.sending.unsent ≡ false → WasSent (end_at s p) t
  still_was p s t h data_is sent = was_sent t (end_at s p) (was_there t (end_at s p).tcp.send.records (went_of t (end_at s p) h data_is sent))

  -- ---- the world

  member_takes_row : (k : Codec C) (r : Reply) (m : Actor C) → PathsGoAlone m (member_takes k r m)
  member_takes_row k r (App a) = tt
  member_takes_row k r (Path p) = takes_row k r p

  member_begins : (m : Actor C) → PathsGoAlone m (member_next m)
  member_begins (App a) = tt
  member_begins (Path p) = λ s some t h data_is sent. inl (next_was p s t h data_is sent)

  member_stays : (m : Actor C) → PathsGoAlone m m
  member_stays (App a) = tt
  member_stays (Path p) = λ s some t h data_is sent. inl (still_was p s t h data_is sent)

  pub each_record_goes_alone : (k : Codec C) → EachRecordGoesAlone k
  each_record_goes_alone k w turn actor c there = turn_each k (λ c d. PathsGoAlone c.member d.member) (λ c. member_stays c.member)
      (λ ask books c. member_takes_row k (answer_to books ask) c.member) (λ stamp c over. member_begins c.member) turn w actor c there
