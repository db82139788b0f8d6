-- Records are sent in order: an expiry marks all behind the first one as to be sent, what is to be sent goes in order, and what is pushed comes last.
use Rattle.std.proofs.Common.{◌≡◌, refl, sym, subst, ap, ◌∙◌, inl, inr, ℕ, zero, suc, ◌+◌, ◌-◌, ◌<◌, ◌≤◌, ◌&&◌, ◌==◌, nat_lt, nat_le, arith, Bool, true, false, true≢false, if◌then◌else◌, Some, List, [], ◌∷◌, ◌++◌, length, map, sum_by}
use Rattle.std.specs.List.{slice_get}
use Rattle.std.proofs.lemmas.Bool.{lt-ltb}
use Rattle.std.proofs.lemmas.Option.{same_Some}
use Rattle.std.proofs.lemmas.List.Sums.{sum_by-cons}
use Rattle.sides.specs.declared.side.Side.{Side}
use Rattle.sides.specs.declared.side.Side.TheVariants.{A, B}
use Rattle.stream_lanes.specs.Words.{Every}
use Rattle.stream_lanes.proofs.Lists.{Every-nil, Every-push, in_map}
use Rattle.subflow_send.specs.declared.record.AckKind.TheVariants.{New, Duplicate, Old, Future}
use Rattle.subflow_send.specs.declared.record.RecordKind.{RecordKind}
use Rattle.subflow_send.specs.declared.record.RecordKind.TheVariants.{Syn, Data, Fin}
use Rattle.subflow_send.specs.Records.{Record, SendState, end_of, occupied, span_of}
use Rattle.subflow_send.specs.Sendings.{never_sent, sent_again}
use Rattle.subflow_send.specs.Rules.{ack_kind, acknowledged_in, after_acknowledge, after_resent, expired_records, fin_sent, first_sent, first_unsent_sent, flight, is_fin, is_unsent, octets_under_way, sample_of, syn_record, uncovered, unsent_again}
use Rattle.subflow_tcp.specs.declared.handshake.State.TheVariants as phase
use Rattle.subflow_tcp.specs.declared.segments.Hint.{Hint}
use Rattle.subflow_tcp.specs.declared.segments.Occasion.{Occasion}
use Rattle.subflow_tcp.specs.declared.segments.Occasion.TheVariants as to_send
use Rattle.subflow_tcp.specs.declared.verdicts.Meaning.{Meaning}
use Rattle.subflow_tcp.specs.declared.verdicts.Meaning.TheVariants as means
use Rattle.subflow_tcp.specs.Emitting.{after_sending}
use Rattle.subflow_tcp.specs.Expiring.{after_expiry, after_fire, is_sixth}
use Rattle.subflow_tcp.specs.Segments.{Copy}
use Rattle.subflow_tcp.specs.State.{EndState}
use Rattle.subflow_tcp.specs.Taking.{after_ack_kind, after_acknowledgement, after_arrival, after_death, after_established, after_hearing, after_payload}
use Rattle.actor_desk.specs.declared.ask.Reply.{Reply}
use Rattle.path_core.specs.Codec.{Codec}
use Rattle.path_core.specs.Duties.{answered, passed}
use Rattle.path_core.specs.Start.{waiting_path}
use Rattle.path_core.specs.State.{PathState, end_at}
use Rattle.world_laws.specs.declared.member.Member.TheVariants.{App, Path}
use Rattle.world_laws.specs.Actors.{Actor, member_next, member_takes}
use Rattle.world_laws.specs.Members.{HoldsOfKind}
use Rattle.world_laws.specs.Openings.{Start, opened_world, path_begins}
use Rattle.world_laws.specs.StampedBooks.{answer_to}
use Rattle.world_laws.specs.Worlds.{Turn, world_run}
use Rattle.world_laws.proofs.Lanes.Records.{expired_kept, fin_sent_kept, first_sent_kept, uncovered_kept, unsent_sent_kept}
use Rattle.world_laws.proofs.Rounds.Lifting.{opened_lifted, run_lifted}
use Rattle.world_laws.proofs.Writes.Steps.{Lasts, begins_lasts, takes_lasts}
use Rattle.whole_paths.specs.EndSteps.{PathStep, SubflowStep, SubflowSteps}
use Rattle.whole_paths.specs.EndSteps.SubflowStep.{arrives, holds, owes, keeps, drops, advances, passes, forgets, pushes, finishes, sends, settles, fires, grows, begins, joins, dies}
use Rattle.whole_paths.specs.EndSteps.SubflowSteps.{none, more}
use Rattle.whole_paths.specs.SentInOrder.{AreSentInOrder, EachIsSentInOrder, SendsInOrder, WaitsToBeSent, sent_before}
use Rattle.whole_paths.proofs.Came.{heard_send}
use Rattle.whole_paths.proofs.Duties.{answered_steps, passed_steps}
use Rattle.whole_paths.proofs.Reached.{EndsAreReached, Joined, Line, each_is_reached}

-- ---- lists of records

-- none but data has octets
abbrev IsPieceOf : RecordKind → List ℕ → Type 0
IsPieceOf Data piece = Unit {0}
IsPieceOf _ piece = piece ≡ []

abbrev IsSized : Record → Type 0
IsSized r = IsPieceOf r.kind r.piece

first_order : (now : ℕ) (rs : List Record) → AreSentInOrder rs → AreSentInOrder (first_sent now rs)
first_order now [] h = tt
first_order now (r ∷ rs) h = (λ unsent. absurd (true≢false (sym unsent)), h.1)

unsent_order : (now : ℕ) (rs : List Record) → AreSentInOrder rs → AreSentInOrder (first_unsent_sent now rs)
unsent_order now [] h = tt
unsent_order now (r ∷ rs) h = by (is_unsent r) refl (unsent_order now rs h.1)
  where
    by : (b : Bool) → is_unsent r ≡ b → AreSentInOrder (first_unsent_sent now rs) → AreSentInOrder (if b then record r { sending = sent_again now r.sending } ∷ rs else r ∷ first_unsent_sent now rs)
    by true is rest = (λ unsent. absurd (true≢false (sym unsent)), h.1)
    by false is rest = (λ unsent. absurd (true≢false (sym unsent ∙ is)), rest)

uncovered_order : (pos : ℕ) (rs : List Record) → AreSentInOrder rs → AreSentInOrder (uncovered pos rs)
uncovered_order pos [] h = tt
uncovered_order pos (r ∷ rs) h = by (nat_le (end_of r) pos) (uncovered_order pos rs h.1)
  where
    by : (b : Bool) → AreSentInOrder (uncovered pos rs) → AreSentInOrder (if b then uncovered pos rs else r ∷ rs)
    by true rest = rest
    by false rest = h

marked_order : (rs : List Record) → AreSentInOrder (map unsent_again rs)
marked_order [] = tt
marked_order (r ∷ rs) = (λ unsent. all_marked rs, marked_order rs)
  where
    all_marked : (rs : List Record) → Every WaitsToBeSent (map unsent_again rs)
    all_marked rs = record { each = λ i t there. let found = in_map unsent_again rs i t there in subst WaitsToBeSent found.2 (inl refl) }

expired_order : (rs : List Record) → AreSentInOrder (expired_records rs)
expired_order [] = tt
expired_order (r ∷ rs) = (λ unsent. record { each = λ i t there. let found = in_map unsent_again rs i t there in subst WaitsToBeSent found.2 (inl refl) }, marked_order rs)

pushed_order : (rs : List Record) (x : Record) → WaitsToBeSent x → AreSentInOrder rs → AreSentInOrder (rs ++ x ∷ [])
pushed_order [] x waits h = (λ unsent. Every-nil WaitsToBeSent, tt)
pushed_order (r ∷ rs) x waits h = (λ unsent. Every-push x (h.0 unsent) waits, pushed_order rs x waits h.1)

fin_waits : (now : ℕ) (t : Record) → IsSized t → WaitsToBeSent t → WaitsToBeSent (fin_sent now t)
fin_waits now t sized h = by t.kind refl
  where
    by : (kind : RecordKind) → t.kind ≡ kind → WaitsToBeSent (fin_sent now t)
    by Fin is = subst WaitsToBeSent (ap (λ k. if is_fin k then record t { sending = sent_again now t.sending } else t) (sym is)) (inr (subst (λ k. IsPieceOf k t.piece) is sized))
    by Syn is = subst WaitsToBeSent (ap (λ k. if is_fin k then record t { sending = sent_again now t.sending } else t) (sym is)) h
    by Data is = subst WaitsToBeSent (ap (λ k. if is_fin k then record t { sending = sent_again now t.sending } else t) (sym is)) h

fin_order : (now : ℕ) (rs : List Record) → Every IsSized rs → AreSentInOrder rs → AreSentInOrder (map (fin_sent now) rs)
fin_order now [] sized h = tt
fin_order now (r ∷ rs) sized h = (λ unsent. by (is_fin r.kind) unsent, fin_order now rs rest h.1)
  where
    rest : Every IsSized rs
    rest = record { each = λ i t there. sized.each (suc i) t there }

    all_wait : Every WaitsToBeSent rs → Every WaitsToBeSent (map (fin_sent now) rs)
    all_wait all = record { each = λ i t there. let found = in_map (fin_sent now) rs i t there in subst WaitsToBeSent found.2 (fin_waits now found.0 (rest.each i found.0 found.1) (all.each i found.0 found.1)) }

    by : (b : Bool) → is_unsent (if b then record r { sending = sent_again now r.sending } else r) ≡ true → Every WaitsToBeSent (map (fin_sent now) rs)
    by true unsent = absurd (true≢false (sym unsent))
    by false unsent = all_wait (h.0 unsent)

-- ---- a subflow

record InOrder (v : SendState) : Type 0 where
  order : AreSentInOrder v.records
  sized : Every IsSized v.records

acked_order : (pos : ℕ) (v : SendState) → InOrder v → InOrder (after_acknowledge pos v)
acked_order pos v h = elim (nat_lt v.una pos && nat_le pos v.nxt) as (λ b. InOrder (if b then record v { una = pos; records = uncovered pos v.records } else v))
    [ true ↦ record { order = uncovered_order pos v.records h.order; sized = uncovered_kept pos v.records h.sized } | false ↦ h ]

ack_order : (pos now : ℕ) (s : EndState) → InOrder s.send → InOrder (after_acknowledgement pos now s).send
ack_order pos now s h = elim (ack_kind pos s.send) as (λ kind. InOrder (after_ack_kind kind (sample_of pos s.send) now (record s { send = after_acknowledge pos s.send })).send)
    [ New octets ↦ acked_order pos s.send h | Duplicate ↦ acked_order pos s.send h | Old ↦ acked_order pos s.send h | Future ↦ acked_order pos s.send h ]

arrival_order : (m : Meaning) (hint : Hint) (now : ℕ) (c : Copy) (s : EndState) → InOrder s.send → InOrder (after_arrival m hint now c s).send
arrival_order (means.Accepts n) hint now c s h = ack_order n now (record (after_hearing (after_payload 1 hint c s)) { state = phase.Established }) h
arrival_order means.Kills hint now c s h = acked_order s.send.nxt s.send h
arrival_order (means.Taken pos n) hint now c s h =
    let ready : EndState = after_established (after_hearing (after_payload pos hint c s)) in
    subst InOrder (sym (heard_send n hint now c ready)) (ack_order n now ready h)
arrival_order _ hint now c s h = h

resent_order : (now : ℕ) (v : SendState) → InOrder v → InOrder (after_resent now v)
resent_order now v h = record { order = first_order now v.records h.order; sized = first_sent_kept IsSized (λ r x small. small) now v.records h.sized }

sending_order : (occasion : Occasion) (now : ℕ) (s : EndState) → InOrder s.send → InOrder (after_sending occasion now s).send
sending_order to_send.SynAck now s h = elim (s.send.una == 0) as (λ b. InOrder (if b then after_resent now s.send else s.send)) [ true ↦ resent_order now s.send h | false ↦ h ]
sending_order to_send.First now s h = resent_order now s.send h
sending_order to_send.Unsent now s h = record { order = unsent_order now s.send.records h.order; sized = unsent_sent_kept IsSized (λ r x small. small) now s.send.records h.sized }
sending_order to_send.Fin now s h = record { order = fin_order now s.send.records h.sized h.order; sized = fin_sent_kept IsSized (λ r x small. small) now s.send.records h.sized }
sending_order _ now s h = h

fire_order : (now : ℕ) (s : EndState) → InOrder s.send → InOrder (after_fire now s).send
fire_order now s h = elim (is_sixth s) as (λ b. InOrder (if b then after_death true s else after_expiry now s).send)
    [ true ↦ acked_order s.send.nxt s.send h | false ↦ record { order = expired_order s.send.records; sized = expired_kept IsSized (λ r x small. small) s.send.records h.sized } ]

step_order : (now : ℕ) (s t : EndState) → SubflowStep now s t → InOrder s.send → InOrder t.send
step_order now s t (arrives m hint c is) h = arrival_order m hint now c s h
step_order now s t (sends occasion) h = sending_order occasion now s h
step_order now s t fires h = fire_order now s h
step_order now s t dies h = acked_order s.send.nxt s.send h
step_order now s t (pushes piece mapping) h = record { order = pushed_order s.send.records _ (inl refl) h.order; sized = Every-push _ h.sized tt }
step_order now s t finishes h = record { order = pushed_order s.send.records _ (inl refl) h.order; sized = Every-push _ h.sized refl }
step_order now s t (holds pos octets) h = h
step_order now s t owes h = h
step_order now s t keeps h = h
step_order now s t drops h = h
step_order now s t (advances count) h = h
step_order now s t (passes next) h = h
step_order now s t (forgets pos) h = h
step_order now s t (settles on restart) h = h
step_order now s t (grows growth) h = h
step_order now s t (begins is) h = h
step_order now s t (joins window is) h = h

steps_order : (now : ℕ) (s t : EndState) → SubflowSteps now s t → InOrder s.send → InOrder t.send
steps_order now s t none h = h
steps_order now s t (more u v steps step) h = step_order now u t step (steps_order now s u steps h)

-- an end that opens or listens has its SYN to send
first_ordered : (v : SendState) → v.records ≡ syn_record never_sent ∷ [] → InOrder v
first_ordered v is = record { order = subst AreSentInOrder (sym is) (λ unsent. Every-nil WaitsToBeSent, tt); sized = subst (Every IsSized) (sym is) (record { each = one }) }
  where
    one : (i : ℕ) (r : Record) → slice_get (syn_record never_sent ∷ []) i ≡ Some r → IsSized r
    one zero r there = subst IsSized (same_Some (syn_record never_sent) r there) refl
    one (suc i) r there = cc

-- ---- a path, and the world

module _ {C : Type 0} where
  abbrev OrderedEnds : PathState C → Type 0
  OrderedEnds p = (s : Side) → InOrder (end_at s p).tcp.send

  abbrev Carries : PathState C → PathState C → Type 0
  Carries p q = (s : Side) → InOrder (end_at s p).tcp.send → InOrder (end_at s q).tcp.send

  step_carries : (p q : PathState C) → PathStep p q → Carries p q
  step_carries p q x A = steps_order q.clock p.a.tcp q.a.tcp x.a.subflow
  step_carries p q x B = steps_order q.clock p.b.tcp q.b.tcp x.b.subflow

  carries_last : Lasts Carries
  carries_last = record { agenda = λ ds p s h. h; chains = λ p q r x y s h. y s (x s h); passes = λ d p. step_carries p (passed d p) (passed_steps d p) }

  abbrev OrderedMember : Actor C → Type 0
  OrderedMember = HoldsOfKind (λ app. Unit {0}) OrderedEnds

  member_takes_ordered : (k : Codec C) (r : Reply) (m : Actor C) → OrderedMember m → OrderedMember (member_takes k r m)
  member_takes_ordered k r (App a) h = tt
  member_takes_ordered k r (Path p) h = λ s. takes_lasts Carries carries_last k r p (λ d. step_carries p (answered k d r p) (answered_steps k d r p)) s (h s)

  member_begins : (m : Actor C) → OrderedMember m → OrderedMember (member_next m)
  member_begins (App a) h = tt
  member_begins (Path p) h = λ s. begins_lasts Carries carries_last (record p { clock = p.until; until = p.until + 100 }) s (h s)

  opens : (s : Side) (p : PathState C) → p.a.tcp.send.records ≡ syn_record never_sent ∷ [] → p.b.tcp.send.records ≡ syn_record never_sent ∷ [] → (end_at s p).tcp.send.records ≡ syn_record never_sent ∷ []
  opens A p a b = a
  opens B p a b = b

  each_is_ordered : (k : Codec C) (start : Start) (turns : List Turn) → Every (λ c. OrderedMember c.member) (world_run k turns (opened_world start)).crew
  each_is_ordered k start turns = run_lifted k (λ c. OrderedMember c.member) (λ books c x asks h. member_takes_ordered k (answer_to books x) c.member h) (λ stamp c over h. member_begins c.member h) turns (opened_world start)
      (opened_lifted (λ c. OrderedMember c.member) start tt tt (λ number plan there s. begins_lasts Carries carries_last (waiting_path (path_begins start number plan) start.lines) s (first_ordered (end_at s (waiting_path {C = C} (path_begins start number plan) start.lines)).tcp.send (opens s (waiting_path {C = C} (path_begins start number plan) start.lines) refl refl))))

-- ---- what is under way

sized_length : (r : Record) → IsSized r → length r.piece ≤ occupied r.kind r.piece
sized_length r sized = by r.kind refl
  where
    by : (kind : RecordKind) → r.kind ≡ kind → length r.piece ≤ occupied r.kind r.piece
    by Data is = subst (λ k. length r.piece ≤ occupied k r.piece) (sym is) (omega arith)
    by Syn is = (let empty : r.piece ≡ [] = subst (λ k. IsPieceOf k r.piece) is sized in let few : length r.piece ≡ 0 = ap (λ (xs : List ℕ). length xs) empty in omega (arith, few))
    by Fin is = (let empty : r.piece ≡ [] = subst (λ k. IsPieceOf k r.piece) is sized in let few : length r.piece ≡ 0 = ap (λ (xs : List ℕ). length xs) empty in omega (arith, few))

module _ (una : ℕ) where
  none_under_way : (r : Record) → WaitsToBeSent r → octets_under_way una r ≡ 0
  none_under_way r (inl unsent) = ap (λ b. if b then 0 else length r.piece - acknowledged_in una r) unsent
  none_under_way r (inr empty) = elim (is_unsent r) as (λ b. (if b then 0 else length r.piece - acknowledged_in una r) ≡ 0)
      [ true ↦ refl | false ↦ (let few : length r.piece ≡ 0 = ap (λ (xs : List ℕ). length xs) empty in omega (arith, few)) ]

  none_of : (rs : List Record) → Every WaitsToBeSent rs → sum_by (octets_under_way una) rs ≡ 0
  none_of [] h = refl
  none_of (r ∷ rs) h =
      let first = none_under_way r (h.each 0 r refl) in let rest = none_of rs (record { each = λ i t there. h.each (suc i) t there }) in
      omega (arith, first, rest, sum_by-cons (octets_under_way una) r rs)

  -- from a position on
  under_way_from : (nxt from : ℕ) (rs : List Record) → Joined from nxt (map span_of rs) → Every IsSized rs → AreSentInOrder rs → from + sum_by (octets_under_way una) rs ≤ sent_before nxt rs
  under_way_from nxt from [] joined sized order = omega (arith, joined)
  under_way_from nxt from (r ∷ rs) joined sized order = by (is_unsent r) refl (under_way_from nxt (end_of r) rs joined.1 (record { each = λ i t there. sized.each (suc i) t there }) order.1)
    where
      by : (b : Bool) → is_unsent r ≡ b → end_of r + sum_by (octets_under_way una) rs ≤ sent_before nxt rs → from + sum_by (octets_under_way una) (r ∷ rs) ≤ (if b then r.pos else sent_before nxt rs)
      by true is later =
          let at = joined.0 in let first = none_under_way r (inl is) in let rest = none_of rs (order.0 is) in
          omega (arith, at, first, rest, sum_by-cons (octets_under_way una) r rs)
      by false is rest =
          let at = joined.0 in
          let first : octets_under_way una r ≡ length r.piece - acknowledged_in una r = ap (λ b. if b then 0 else length r.piece - acknowledged_in una r) is in
          let fits = sized_length r (sized.each 0 r refl) in
          omega (arith, at, rest, first, fits, sum_by-cons (octets_under_way una) r rs)

-- from SND.UNA on
under_way : (v : SendState) → Line v.una v.nxt (map span_of v.records) → InOrder v → (r : Record) (others : List Record) → v.records ≡ r ∷ others → v.una < end_of r → flight v ≤ sent_before v.nxt v.records - v.una
under_way v line h r others is left = subst (λ rs. sum_by (octets_under_way v.una) rs ≤ sent_before v.nxt rs - v.una) (sym is)
    (by (is_unsent r) refl (subst (λ rs. Line v.una v.nxt (map span_of rs)) is line) (subst AreSentInOrder is h.order) (subst (Every IsSized) is h.sized))
  where
    by : (b : Bool) → is_unsent r ≡ b → Line v.una v.nxt (map span_of (r ∷ others)) → AreSentInOrder (r ∷ others) → Every IsSized (r ∷ others)
        → sum_by (octets_under_way v.una) (r ∷ others) ≤ (if b then r.pos else sent_before v.nxt others) - v.una
    by true unsent line order sized = (let first = none_under_way v.una r (inl unsent) in let rest = none_of v.una others (order.0 unsent) in omega (arith, first, rest, sum_by-cons (octets_under_way v.una) r others))
    by false sent line order sized =
        let low = line.0 in
        let rest = under_way_from v.una v.nxt (end_of r) others line.2 (record { each = λ i t there. sized.each (suc i) t there }) order.1 in
        let first : octets_under_way v.una r ≡ length r.piece - acknowledged_in v.una r = ap (λ b. if b then 0 else length r.piece - acknowledged_in v.una r) sent in
        let acked : acknowledged_in v.una r ≡ v.una - r.pos = ap (λ b. if b then v.una - r.pos else 0) (lt-ltb v.una (end_of r) left) in
        let fits = sized_length r (sized.each 0 r refl) in
        omega (arith, low, left, rest, first, acked, fits, sum_by-cons (octets_under_way v.una) r others)

-- ---- the law

member_sends : {C : Type 0} (m : Actor C) → HoldsOfKind (λ app. Unit {0}) EndsAreReached m → OrderedMember m → HoldsOfKind (λ app. Unit {0}) (λ (p : PathState C). (s : Side) → SendsInOrder (end_at s p).tcp.send) m
member_sends (App a) reached h = tt
member_sends (Path p) reached h = λ s. record { in_order = (h s).order; under_way = under_way (end_at s p).tcp.send (reached s).lined.line (h s) }

pub records_are_sent_in_order : {C : Type 0} (k : Codec C) → EachIsSentInOrder k
records_are_sent_in_order k start turns = record {
  each = λ actor c there. member_sends c.member ((each_is_reached k start turns).each actor c there) ((each_is_ordered k start turns).each actor c there);
}
