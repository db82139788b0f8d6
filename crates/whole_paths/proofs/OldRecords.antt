-- Each record that an end has after a turn it had before, but for how often it was sent, or it begins at SND.NXT of before or past it.
use Rattle.std.proofs.Common.{◌≡◌, refl, subst, ◌∙◌, ◌⊎◌, inl, inr, ⊎_elim, ℕ, zero, suc, ◌+◌, ◌≤◌, ◌==◌, nat_lt, nat_le, ◌&&◌, arith, le_refl, Bool, true, false, if◌then◌else◌, Some, List, [], ◌∷◌, ◌++◌, map}
use Rattle.std.specs.List.{slice_get}
use Rattle.std.proofs.lemmas.Option.{same_Some}
use Rattle.sides.specs.declared.side.Side.{Side}
use Rattle.sides.specs.declared.side.Side.TheVariants.{A, B}
use Rattle.stream_lanes.specs.Words.{Has}
use Rattle.stream_lanes.proofs.Lists.{in_append, in_map, in_one}
use Rattle.subflow_send.specs.declared.record.AckKind.TheVariants.{New, Duplicate, Old, Future}
use Rattle.subflow_send.specs.Records.{Record, SendState, end_of}
use Rattle.subflow_send.specs.Rules.{ack_kind, after_acknowledge, after_resent, expired_records, fin_sent, first_sent, first_unsent_sent, is_fin, is_unsent, sample_of, uncovered, unsent_again}
use Rattle.subflow_send.specs.Sendings.{sent_again}
use Rattle.subflow_tcp.specs.declared.handshake.State.TheVariants.{Established}
use Rattle.subflow_tcp.specs.declared.segments.Hint.{Hint}
use Rattle.subflow_tcp.specs.declared.segments.Occasion.{Occasion}
use Rattle.subflow_tcp.specs.declared.segments.Occasion.TheVariants as to_send
use Rattle.subflow_tcp.specs.declared.verdicts.Meaning.{Meaning}
use Rattle.subflow_tcp.specs.declared.verdicts.Meaning.TheVariants as means
use Rattle.subflow_tcp.specs.Emitting.{after_sending}
use Rattle.subflow_tcp.specs.Expiring.{after_expiry, after_fire, is_sixth}
use Rattle.subflow_tcp.specs.Segments.{Copy}
use Rattle.subflow_tcp.specs.State.{EndState}
use Rattle.subflow_tcp.specs.Taking.{after_ack_kind, after_acknowledgement, after_arrival, after_death, after_duplicate, after_established, after_heard_ack, after_hearing, after_interruption, after_payload, after_telling, is_duplicate, told_by}
use Rattle.actor_desk.specs.declared.ask.Reply.{Reply}
use Rattle.path_core.specs.Codec.{Codec}
use Rattle.path_core.specs.Duties.{answered, passed}
use Rattle.path_core.specs.State.{PathState, end_at}
use Rattle.path_core.specs.Steps.{next_round, takes}
use Rattle.world_laws.proofs.Writes.Steps.{Lasts, begins_lasts, takes_lasts}
use Rattle.whole_paths.specs.EndSteps.{PathStep, SubflowStep, SubflowSteps}
use Rattle.whole_paths.specs.EndSteps.SubflowStep.{advances, arrives, begins, dies, drops, finishes, fires, forgets, grows, holds, joins, keeps, owes, passes, pushes, sends, settles}
use Rattle.whole_paths.specs.EndSteps.SubflowSteps.{none, more}
use Rattle.whole_paths.specs.Kept.{IsSameRecord}
use Rattle.whole_paths.proofs.ByTurns.{Becomes}
use Rattle.whole_paths.proofs.Duties.{answered_steps, passed_steps}
use Rattle.whole_paths.proofs.Flying.{same_record}

-- ---- lists

-- it is one of these, or begins there or later
abbrev IsOld : ℕ → List Record → Record → Type 0
IsOld nxt rs t = Has (λ x. IsSameRecord x t) rs ⊎ (nxt ≤ t.pos)

abbrev AllOld : ℕ → List Record → List Record → Type 0
AllOld nxt rs ts = (i : ℕ) (t : Record) → slice_get ts i ≡ Some t → IsOld nxt rs t

same_old : (nxt : ℕ) (rs : List Record) → AllOld nxt rs rs
same_old nxt rs i t at = inl (record { at = i; item = t; there = at; holds = same_record t })

behind : (nxt : ℕ) (r t : Record) (rs : List Record) → IsOld nxt rs t → IsOld nxt (r ∷ rs) t
behind nxt r t rs (inl h) = inl (record { at = suc h.at; item = h.item; there = h.there; holds = h.holds })
behind nxt r t rs (inr late) = inr late

-- the first one changes, and the others
front : (nxt : ℕ) (r s : Record) (rs ts : List Record) → IsSameRecord r s → AllOld nxt rs ts → AllOld nxt (r ∷ rs) (s ∷ ts)
front nxt r s rs ts same rest zero t at = inl (record { at = 0; item = r; there = refl; holds = changed at })
  where
    changed : Some s ≡ Some t → IsSameRecord r t
    changed is = subst (IsSameRecord r) (same_Some s t is) same
front nxt r s rs ts same rest (suc i) t at = behind nxt r t rs (rest i t at)

mapped : (nxt : ℕ) (f : Record → Record) → ((x : Record) → IsSameRecord x (f x)) → (rs : List Record) → AllOld nxt rs (map f rs)
mapped nxt f same rs i t at = let found = in_map f rs i t at in inl (record { at = i; item = found.0; there = found.1; holds = subst (IsSameRecord found.0) found.2 (same found.0) })

uncovered_old : (nxt pos : ℕ) (rs : List Record) → AllOld nxt rs (uncovered pos rs)
uncovered_old nxt pos [] = same_old nxt []
uncovered_old nxt pos (r ∷ rs) = by (nat_le (end_of r) pos) (uncovered_old nxt pos rs)
  where
    by : (b : Bool) → AllOld nxt rs (uncovered pos rs) → AllOld nxt (r ∷ rs) (if b then uncovered pos rs else r ∷ rs)
    by true rest = λ i t at. behind nxt r t rs (rest i t at)
    by false rest = same_old nxt (r ∷ rs)

first_old : (nxt now : ℕ) (rs : List Record) → AllOld nxt rs (first_sent now rs)
first_old nxt now [] = same_old nxt []
first_old nxt now (r ∷ rs) = front nxt r _ rs rs (record { pos = refl; kind = refl; piece = refl; mapping = refl }) (same_old nxt rs)

unsent_old : (nxt now : ℕ) (rs : List Record) → AllOld nxt rs (first_unsent_sent now rs)
unsent_old nxt now [] = same_old nxt []
unsent_old nxt now (r ∷ rs) = by (is_unsent r) (unsent_old nxt now rs)
  where
    by : (b : Bool) → AllOld nxt rs (first_unsent_sent now rs) → AllOld nxt (r ∷ rs) (if b then record r { sending = sent_again now r.sending } ∷ rs else r ∷ first_unsent_sent now rs)
    by true rest = first_old nxt now (r ∷ rs)
    by false rest = front nxt r r rs (first_unsent_sent now rs) (same_record r) rest

fin_same : (now : ℕ) (r : Record) → IsSameRecord r (fin_sent now r)
fin_same now r = by (is_fin r.kind)
  where
    by : (b : Bool) → IsSameRecord r (if b then record r { sending = sent_again now r.sending } else r)
    by = elim [ true ↦ record { pos = refl; kind = refl; piece = refl; mapping = refl } | false ↦ same_record r ]

expired_old : (nxt : ℕ) (rs : List Record) → AllOld nxt rs (expired_records rs)
expired_old nxt [] = same_old nxt []
expired_old nxt (r ∷ rs) = front nxt r _ rs (map unsent_again rs) (record { pos = refl; kind = refl; piece = refl; mapping = refl })
    (mapped nxt unsent_again (λ x. record { pos = refl; kind = refl; piece = refl; mapping = refl }) rs)

pushed_old : (nxt : ℕ) (r : Record) → nxt ≤ r.pos → (rs : List Record) → AllOld nxt rs (rs ++ r ∷ [])
pushed_old nxt r late rs i t at = ⊎_elim
    (λ old. same_old nxt rs i t old)
    (λ last. inr (subst (λ (x : Record). nxt ≤ x.pos) (in_one r t _ last.1).1 late))
    (in_append rs (r ∷ []) i t at)

-- ---- the subflow

pub record RecordsAreOld (v w : SendState) : Type 0 where
  pub nxt : v.nxt ≤ w.nxt
  pub each : AllOld v.nxt v.records w.records

send_stays : (v : SendState) → RecordsAreOld v v
send_stays v = record { nxt = le_refl v.nxt; each = same_old v.nxt v.records }

send_then : (v w x : SendState) → RecordsAreOld v w → RecordsAreOld w x → RecordsAreOld v x
send_then v w x first second = record { nxt = (let low = first.nxt in let high = second.nxt in omega (arith, low, high)); each = λ i t at. by t (second.each i t at) }
  where
    earlier : (t u : Record) → IsSameRecord u t → IsOld v.nxt v.records u → IsOld v.nxt v.records t
    earlier t u same (inl h) = let is = h.holds in inl (record {
      at = h.at;
      item = h.item;
      there = h.there;
      holds = record { pos = same.pos ∙ is.pos; kind = same.kind ∙ is.kind; piece = same.piece ∙ is.piece; mapping = same.mapping ∙ is.mapping };
    })
    earlier t u same (inr late) = inr (let pos = same.pos in omega (arith, late, pos))

    by : (t : Record) → IsOld w.nxt w.records t → IsOld v.nxt v.records t
    by t (inl h) = earlier t h.item h.holds (first.each h.at h.item h.there)
    by t (inr late) = inr (let low = first.nxt in omega (arith, late, low))

acknowledged : (pos : ℕ) (v : SendState) → RecordsAreOld v (after_acknowledge pos v)
acknowledged pos v = elim (nat_lt v.una pos && nat_le pos v.nxt) as (λ b. RecordsAreOld v (if b then record v { una = pos; records = uncovered pos v.records } else v))
    [ true ↦ record { nxt = le_refl v.nxt; each = uncovered_old v.nxt pos v.records } | false ↦ send_stays v ]

sending_old : (occasion : Occasion) (now : ℕ) (s : EndState) → RecordsAreOld s.send (after_sending occasion now s).send
sending_old to_send.SynAck now s = elim (s.send.una == 0) as (λ b. RecordsAreOld s.send (if b then after_resent now s.send else s.send))
    [ true ↦ record { nxt = le_refl s.send.nxt; each = first_old s.send.nxt now s.send.records } | false ↦ send_stays s.send ]
sending_old to_send.First now s = record { nxt = le_refl s.send.nxt; each = first_old s.send.nxt now s.send.records }
sending_old to_send.Unsent now s = record { nxt = le_refl s.send.nxt; each = unsent_old s.send.nxt now s.send.records }
sending_old to_send.Fin now s = record { nxt = le_refl s.send.nxt; each = mapped s.send.nxt (fin_sent now) (fin_same now) s.send.records }
sending_old _ now s = send_stays s.send

fire_old : (now : ℕ) (s : EndState) → RecordsAreOld s.send (after_fire now s).send
fire_old now s = elim (is_sixth s) as (λ b. RecordsAreOld s.send (if b then after_death true s else after_expiry now s).send)
    [ true ↦ acknowledged s.send.nxt s.send | false ↦ record { nxt = le_refl s.send.nxt; each = expired_old s.send.nxt s.send.records } ]

ack_old : (pos now : ℕ) (s : EndState) → RecordsAreOld s.send (after_acknowledgement pos now s).send
ack_old pos now s = elim (ack_kind pos s.send) as (λ kind. RecordsAreOld s.send (after_ack_kind kind (sample_of pos s.send) now (record s { send = after_acknowledge pos s.send })).send)
    [ New octets ↦ acknowledged pos s.send | Duplicate ↦ acknowledged pos s.send | Old ↦ acknowledged pos s.send | Future ↦ acknowledged pos s.send ]

heard_ack_old : (pos : ℕ) (hint : Hint) (now : ℕ) (c : Copy) (s : EndState) → RecordsAreOld s.send (after_heard_ack pos hint now c s).send
heard_ack_old pos hint now c s =
    elim (is_duplicate (ack_kind pos s.send) (told_by hint c) c acked) as (λ b. RecordsAreOld s.send (after_telling (told_by hint c) (if b then after_duplicate acked else after_interruption acked)).send)
    [ true ↦ ack_old pos now s | false ↦ ack_old pos now s ]
  where
    acked : EndState
    acked = after_acknowledgement pos now s

arrival_old : (m : Meaning) (hint : Hint) (now : ℕ) (c : Copy) (s : EndState) → RecordsAreOld s.send (after_arrival m hint now c s).send
arrival_old (means.Accepts pos) hint now c s = ack_old pos now (record (after_hearing (after_payload 1 hint c s)) { state = Established })
arrival_old means.Kills hint now c s = acknowledged s.send.nxt s.send
arrival_old (means.Taken pos acknowledged) hint now c s = heard_ack_old acknowledged hint now c (after_established (after_hearing (after_payload pos hint c s)))
arrival_old _ hint now c s = send_stays s.send

step_old : (now : ℕ) (s t : EndState) → SubflowStep now s t → RecordsAreOld s.send t.send
step_old now s t (arrives m hint c is) = arrival_old m hint now c s
step_old now s t (sends occasion) = sending_old occasion now s
step_old now s t fires = fire_old now s
step_old now s t dies = acknowledged s.send.nxt s.send
step_old now s t (pushes piece mapping) = record { nxt = omega arith; each = pushed_old s.send.nxt _ (le_refl s.send.nxt) s.send.records }
step_old now s t finishes = record { nxt = omega arith; each = pushed_old s.send.nxt _ (le_refl s.send.nxt) s.send.records }
step_old now s t (holds pos octets) = send_stays s.send
step_old now s t owes = send_stays s.send
step_old now s t keeps = send_stays s.send
step_old now s t drops = send_stays s.send
step_old now s t (advances count) = send_stays s.send
step_old now s t (passes next) = send_stays s.send
step_old now s t (forgets pos) = send_stays s.send
step_old now s t (settles on restart) = send_stays s.send
step_old now s t (grows growth) = send_stays s.send
step_old now s t (begins is) = send_stays s.send
step_old now s t (joins window is) = send_stays s.send

steps_old : (now : ℕ) (s t : EndState) → SubflowSteps now s t → RecordsAreOld s.send t.send
steps_old now s t none = send_stays s.send
steps_old now s t (more u v steps step) = send_then s.send u.send t.send (steps_old now s u steps) (step_old now u t step)

-- ---- a path

module _ {C : Type 0} where
  abbrev pub BothOld : PathState C → PathState C → Type 0
  BothOld p q = (s : Side) → RecordsAreOld (end_at s p).tcp.send (end_at s q).tcp.send

  step_both : (p q : PathState C) → PathStep p q → BothOld p q
  step_both p q x A = steps_old q.clock p.a.tcp q.a.tcp x.a.subflow
  step_both p q x B = steps_old q.clock p.b.tcp q.b.tcp x.b.subflow

  both_same : (p : PathState C) → BothOld p p
  both_same p s = send_stays (end_at s p).tcp.send

  both_last : Lasts BothOld
  both_last = record {
    agenda = λ ds p. both_same p;
    chains = λ p q r x y s. send_then (end_at s p).tcp.send (end_at s q).tcp.send (end_at s r).tcp.send (x s) (y s);
    passes = λ d p. step_both p (passed d p) (passed_steps d p);
  }

  takes_old : (k : Codec C) (r : Reply) (p : PathState C) → BothOld p (takes k r p)
  takes_old k r p = takes_lasts BothOld both_last k r p (λ d. step_both p (answered k d r p) (answered_steps k d r p))

  next_old : (p : PathState C) → BothOld p (next_round p)
  next_old p = begins_lasts BothOld both_last (record p { clock = p.until; until = p.until + 100 })

  pub becomes_old : (k : Codec C) (p q : PathState C) → Becomes k p q → BothOld p q
  becomes_old k p q Becomes.stays = both_same p
  becomes_old k p q (Becomes.takes_a_reply r) = takes_old k r p
  becomes_old k p q Becomes.begins_anew = next_old p
