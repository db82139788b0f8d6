-- The first record that isn't acknowledged begins at SND.UNA or before it and ends behind it, unless it is empty, and records follow one
-- another; before both SYNs came SND.UNA is 0.
use Rattle.std.proofs.Common.{◌≡◌, refl, sym, subst, ap, ◌∙◌, ◌⊎◌, inl, inr, ⊎_elim, ℕ, ◌+◌, ◌<◌, ◌≤◌, ◌&&◌, ◌==◌, nat_lt, nat_le, arith, Bool, true, false, if◌then◌else◌, None, List, [], ◌∷◌, ◌++◌, map}
use Rattle.std.proofs.lemmas.Bool.{and_parts, cases_lt, leb-false, leb-true, ltb-true}
use Rattle.sides.specs.declared.side.Side.{Side}
use Rattle.sides.specs.declared.side.Side.TheVariants.{A, B}
use Rattle.subflow_send.specs.declared.record.AckKind.TheVariants.{New, Duplicate, Old, Future}
use Rattle.subflow_send.specs.Records.{Record, SendState, end_of, span_of}
use Rattle.subflow_send.specs.Sendings.{sent_again}
use Rattle.subflow_send.specs.Rules.{ack_kind, sample_of, uncovered, after_acknowledge, is_unsent, is_fin, first_sent, first_unsent_sent, fin_sent, after_resent}
use Rattle.subflow_send.proofs.Whole.{spans-expired}
use Rattle.subflow_tcp.specs.declared.segments.Hint.{Hint}
use Rattle.subflow_tcp.specs.declared.segments.Occasion.{Occasion}
use Rattle.subflow_tcp.specs.declared.segments.Occasion.TheVariants as to_send
use Rattle.subflow_tcp.specs.declared.verdicts.Meaning.{Meaning}
use Rattle.subflow_tcp.specs.declared.verdicts.Meaning.TheVariants as means
use Rattle.subflow_tcp.specs.declared.handshake.State.TheVariants as phase
use Rattle.subflow_tcp.specs.Emitting.{after_sending}
use Rattle.subflow_tcp.specs.Expiring.{after_fire, after_expiry, is_sixth}
use Rattle.subflow_tcp.specs.Segments.{Copy}
use Rattle.subflow_recv.specs.Receiving.{Receiving, after_accept, after_keep_held, without_held}
use Rattle.subflow_tcp.specs.State.{EndState, is_fin_passed}
use Rattle.subflow_tcp.specs.Taking.{after_death, unkept, is_kept, after_payload, after_ack_kind, after_acknowledgement, is_duplicate, after_duplicate, after_interruption, told_by, after_telling, after_heard_ack, after_established, after_hearing, after_arrival}
use Rattle.actor_desk.specs.declared.ask.Reply.{Reply}
use Rattle.path_core.specs.Codec.{Codec}
use Rattle.path_core.specs.Duties.{passed, answered}
use Rattle.path_core.specs.MpJoin.{syn_of_window}
use Rattle.path_core.specs.Start.{waiting_path}
use Rattle.path_core.specs.State.{PathState, end_at}
use Rattle.world_laws.specs.declared.member.Member.TheVariants.{App, Path}
use Rattle.world_laws.specs.Actors.{Actor, member_takes, member_next}
use Rattle.world_laws.specs.Members.{HoldsOfKind}
use Rattle.world_laws.specs.Openings.{PathPlan, Start, path_begins, opened_world}
use Rattle.world_laws.specs.StampedBooks.{answer_to}
use Rattle.world_laws.specs.Worlds.{Turn, world_run}
use Rattle.world_laws.proofs.Rounds.Lifting.{run_lifted, opened_lifted}
use Rattle.world_laws.proofs.Whole.Ends.{MeansIs, means_so}
use Rattle.world_laws.proofs.Writes.Steps.{Lasts, takes_lasts, begins_lasts}
use Rattle.stream_lanes.specs.Words.{Every}
use Rattle.whole_paths.specs.AsFar.{stage}
use Rattle.whole_paths.specs.EndSteps.{SubflowStep, SubflowSteps, PathStep}
use Rattle.whole_paths.specs.EndSteps.SubflowStep.{arrives, holds, owes, keeps, drops, advances, passes, forgets, pushes, finishes, sends, settles, fires, grows, begins, joins, dies}
use Rattle.whole_paths.specs.EndSteps.SubflowSteps.{none, more}
use Rattle.whole_paths.proofs.Duties.{passed_steps, answered_steps}
use Rattle.whole_paths.proofs.Passing.{past_stage}
use Rattle.whole_paths.proofs.Opening.{established_up, heard_state}
use Rattle.whole_paths.proofs.Subflows.{steps_up, ack_up}

-- ---- records

-- one after another, from one position to another
abbrev pub Joined : ℕ → ℕ → List (ℕ × ℕ) → Type 0
Joined from to [] = from ≡ to
Joined from to (s ∷ ss) = (s.0 ≡ from) × Joined s.1 to ss

-- from SND.UNA to SND.NXT; a first record without a position may be behind it
abbrev pub Line : ℕ → ℕ → List (ℕ × ℕ) → Type 0
Line una nxt [] = una ≡ nxt
Line una nxt (s ∷ ss) = (s.0 ≤ una) × ((una < s.1) ⊎ (s.1 ≤ s.0)) × Joined s.1 nxt ss

pub record IsLined (v : SendState) : Type 0 where
  pub within : v.una ≤ v.nxt
  pub line : Line v.una v.nxt (map span_of v.records)

-- only sendings change
same_line : (v w : SendState) → w.una ≡ v.una → w.nxt ≡ v.nxt → map span_of w.records ≡ map span_of v.records → IsLined v → IsLined w
same_line v w una nxt spans h = record {
  within = let low = h.within in omega (arith, una, nxt, low);
  line = subst (λ n. Line n w.nxt (map span_of w.records)) (sym una) (subst (λ n. Line v.una n (map span_of w.records)) (sym nxt) (subst (λ ss. Line v.una v.nxt ss) (sym spans) h.line));
}

joined_uncovered : (rs : List Record) (from nxt pos : ℕ) → Joined from nxt (map span_of rs) → from ≤ pos → pos ≤ nxt → Line pos nxt (map span_of (uncovered pos rs))
joined_uncovered [] from nxt pos h low high = omega (arith, h, low, high)
joined_uncovered (r ∷ rs) from nxt pos h low high = by (nat_le (end_of r) pos) refl (λ within. joined_uncovered rs (end_of r) nxt pos h.1 within high)
  where
    by : (b : Bool) → nat_le (end_of r) pos ≡ b → (end_of r ≤ pos → Line pos nxt (map span_of (uncovered pos rs))) → Line pos nxt (map span_of (if b then uncovered pos rs else r ∷ rs))
    by true is rest = rest (leb-true (end_of r) pos is)
    by false is rest = (let at = h.0 in omega (arith, at, low), inl (leb-false (end_of r) pos is), h.1)

line_uncovered : (rs : List Record) (una nxt pos : ℕ) → Line una nxt (map span_of rs) → una < pos → pos ≤ nxt → Line pos nxt (map span_of (uncovered pos rs))
line_uncovered [] una nxt pos h above high = absurd (omega (arith, h, above, high))
line_uncovered (r ∷ rs) una nxt pos h above high = by (nat_le (end_of r) pos) refl
  where
    by : (b : Bool) → nat_le (end_of r) pos ≡ b → Line pos nxt (map span_of (if b then uncovered pos rs else r ∷ rs))
    by true is = joined_uncovered rs (end_of r) nxt pos h.2 (leb-true (end_of r) pos is) high
    by false is = (let at = h.0 in omega (arith, at, above), inl (leb-false (end_of r) pos is), h.2)

acknowledged_line : (pos : ℕ) (v : SendState) → IsLined v → IsLined (after_acknowledge pos v)
acknowledged_line pos v h = by (nat_lt v.una pos && nat_le pos v.nxt) refl
  where
    by : (b : Bool) → (nat_lt v.una pos && nat_le pos v.nxt) ≡ b → IsLined (if b then record v { una = pos; records = uncovered pos v.records } else v)
    by true is =
        let parts = and_parts (nat_lt v.una pos) (nat_le pos v.nxt) is in
        record { within = leb-true pos v.nxt parts.1; line = line_uncovered v.records v.una v.nxt pos h.line (ltb-true v.una pos parts.0) (leb-true pos v.nxt parts.1) }
    by false is = h

joined_pushed : (rs : List Record) (x : Record) (from : ℕ) → Joined from x.pos (map span_of rs) → Joined from (end_of x) (map span_of (rs ++ x ∷ []))
joined_pushed [] x from h = (sym h, refl)
joined_pushed (r ∷ rs) x from h = (h.0, joined_pushed rs x (end_of r) h.1)

line_pushed : (rs : List Record) (x : Record) (una : ℕ) → Line una x.pos (map span_of rs) → Line una (end_of x) (map span_of (rs ++ x ∷ []))
line_pushed [] x una h = (omega (arith, h), ⊎_elim (λ more. inl more) (λ none. inr (omega (arith, h, none))) (cases_lt una (end_of x)), refl)
line_pushed (r ∷ rs) x una h = (h.0, h.1, joined_pushed rs x (end_of r) h.2)

spans_first : (now : ℕ) (rs : List Record) → map span_of (first_sent now rs) ≡ map span_of rs
spans_first now [] = refl
spans_first now (r ∷ rs) = refl

spans_unsent : (now : ℕ) (rs : List Record) → map span_of (first_unsent_sent now rs) ≡ map span_of rs
spans_unsent now [] = refl
spans_unsent now (r ∷ rs) = (elim (is_unsent r) as (λ b. map span_of (if b then record r { sending = sent_again now r.sending } ∷ rs else r ∷ first_unsent_sent now rs) ≡ span_of r ∷ map span_of rs)
    [ true ↦ refl | false ↦ ap (λ (ss : List (ℕ × ℕ)). span_of r ∷ ss) (spans_unsent now rs) ])

spans_fin : (now : ℕ) (rs : List Record) → map span_of (map (fin_sent now) rs) ≡ map span_of rs
spans_fin now [] = refl
spans_fin now (r ∷ rs) = (elim (is_fin r.kind) as (λ b. span_of (if b then record r { sending = sent_again now r.sending } else r) ∷ map span_of (map (fin_sent now) rs) ≡ span_of r ∷ map span_of rs)
    [ true ↦ ap (λ (ss : List (ℕ × ℕ)). span_of r ∷ ss) (spans_fin now rs) | false ↦ ap (λ (ss : List (ℕ × ℕ)). span_of r ∷ ss) (spans_fin now rs) ])

-- ---- what a step makes of them

-- SND.UNA stays, or the handshake is done
abbrev Calm : EndState → EndState → Type 0
Calm s t = (3 ≤ stage t.state) ⊎ (t.send.una ≡ s.send.una)

record IsStep (s t : EndState) : Type 0 where
  lined : IsLined s.send → IsLined t.send
  calm : Calm s t
  window : t.recv.window ≡ s.recv.window

still : (s t : EndState) → t.send ≡ s.send → t.recv.window ≡ s.recv.window → IsStep s t
still s t same window = record { lined = subst IsLined (sym same); calm = inr (ap (λ (v : SendState). v.una) same); window = window }

marked : (s t : EndState) → t.send.una ≡ s.send.una → t.send.nxt ≡ s.send.nxt → map span_of t.send.records ≡ map span_of s.send.records → t.recv.window ≡ s.recv.window → IsStep s t
marked s t una nxt spans window = record { lined = same_line s.send t.send una nxt spans; calm = inr una; window = window }

dead_step : (reset : Bool) (s : EndState) → IsStep s (after_death reset s)
dead_step reset s = record { lined = acknowledged_line s.send.nxt s.send; calm = inl (omega arith); window = refl }

sending_step : (occasion : Occasion) (now : ℕ) (s : EndState) → IsStep s (after_sending occasion now s)
sending_step to_send.SynAck now s = elim (s.send.una == 0) as
    (λ b. IsStep s (record (after_sending to_send.SynAck now s) { send = if b then after_resent now s.send else s.send }))
    [ true ↦ marked s _ refl refl (spans_first now s.send.records) refl | false ↦ still s _ refl refl ]
sending_step to_send.First now s = marked s _ refl refl (spans_first now s.send.records) refl
sending_step to_send.Unsent now s = marked s _ refl refl (spans_unsent now s.send.records) refl
sending_step to_send.Fin now s = marked s _ refl refl (spans_fin now s.send.records) refl
sending_step _ now s = still s _ refl refl

fire_step : (now : ℕ) (s : EndState) → IsStep s (after_fire now s)
fire_step now s = elim (is_sixth s) as (λ b. IsStep s (if b then after_death true s else after_expiry now s))
    [ true ↦ dead_step true s | false ↦ marked s _ refl refl (spans-expired s.send.records) refl ]

ack_lined : (pos now : ℕ) (s : EndState) → IsLined s.send → IsLined (after_acknowledgement pos now s).send
ack_lined pos now s h =
    elim (ack_kind pos s.send) as (λ kind. IsLined (after_ack_kind kind (sample_of pos s.send) now (record s { send = after_acknowledge pos s.send })).send)
    [ New octets ↦ acknowledged_line pos s.send h | Duplicate ↦ acknowledged_line pos s.send h | Old ↦ acknowledged_line pos s.send h | Future ↦ acknowledged_line pos s.send h ]

heard_lined : (pos : ℕ) (hint : Hint) (now : ℕ) (c : Copy) (s : EndState) → IsLined s.send → IsLined (after_heard_ack pos hint now c s).send
heard_lined pos hint now c s h =
    elim (is_duplicate (ack_kind pos s.send) (told_by hint c) c acked) as (λ b. IsLined (after_telling (told_by hint c) (if b then after_duplicate acked else after_interruption acked)).send)
    [ true ↦ ack_lined pos now s h | false ↦ ack_lined pos now s h ]
  where
    acked : EndState
    acked = after_acknowledgement pos now s

-- a segment that means this to the end
arrival_lined : (m : Meaning) (hint : Hint) (now : ℕ) (c : Copy) (s : EndState) → IsLined s.send → IsLined (after_arrival m hint now c s).send
arrival_lined (means.Accepts pos) hint now c s h = ack_lined pos now (record (after_hearing (after_payload 1 hint c s)) { state = phase.Established }) h
arrival_lined means.Kills hint now c s h = acknowledged_line s.send.nxt s.send h
arrival_lined (means.Taken pos acknowledged) hint now c s h = heard_lined acknowledged hint now c (after_established (after_hearing (after_payload pos hint c s))) h
arrival_lined _ hint now c s h = h

arrival_calm : (m : Meaning) (hint : Hint) (now : ℕ) (c : Copy) (s : EndState) → MeansIs c s m → stage s.state ≤ stage (after_arrival m hint now c s).state → Calm s (after_arrival m hint now c s)
arrival_calm (means.Accepts pos) hint now c s fits up = inl (let far = (ack_up pos now (record (after_hearing (after_payload 1 hint c s)) { state = phase.Established })).state in omega (arith, far))
arrival_calm means.Kills hint now c s fits up = inl (omega arith)
arrival_calm (means.Taken pos n) hint now c s fits up =
    let ready : EndState = after_established (after_hearing (after_payload pos hint c s)) in
    let high : 3 ≤ stage ready.state = established_up s.state (past_stage s.state fits.0) in
    let far = (ack_up n now ready).state in
    inl (subst (λ state. 3 ≤ stage state) (sym (heard_state n hint now c ready)) (omega (arith, high, far)))
arrival_calm _ hint now c s fits up = inr refl

payload_window : (pos : ℕ) (hint : Hint) (c : Copy) (s : EndState) → (after_payload pos hint c s).recv.window ≡ s.recv.window
payload_window pos hint c s = elim (is_kept hint.keep s) as (λ b. (if b then after_accept pos c.payload s.recv else s.recv).window ≡ s.recv.window) [ true ↦ refl | false ↦ refl ]

pub ack_recv : (pos now : ℕ) (s : EndState) → (after_acknowledgement pos now s).recv ≡ s.recv
ack_recv pos now s = elim (ack_kind pos s.send) as (λ kind. (after_ack_kind kind (sample_of pos s.send) now (record s { send = after_acknowledge pos s.send })).recv ≡ s.recv)
    [ New octets ↦ refl | Duplicate ↦ refl | Old ↦ refl | Future ↦ refl ]

pub heard_recv : (pos : ℕ) (hint : Hint) (now : ℕ) (c : Copy) (s : EndState) → (after_heard_ack pos hint now c s).recv ≡ s.recv
heard_recv pos hint now c s =
    elim (is_duplicate (ack_kind pos s.send) (told_by hint c) c acked) as (λ b. (after_telling (told_by hint c) (if b then after_duplicate acked else after_interruption acked)).recv ≡ s.recv)
    [ true ↦ ack_recv pos now s | false ↦ ack_recv pos now s ]
  where
    acked : EndState
    acked = after_acknowledgement pos now s

arrival_window : (m : Meaning) (hint : Hint) (now : ℕ) (c : Copy) (s : EndState) → (after_arrival m hint now c s).recv.window ≡ s.recv.window
arrival_window (means.Accepts pos) hint now c s =
    ap (λ (v : Receiving). v.window) (ack_recv pos now (record (after_hearing (after_payload 1 hint c s)) { state = phase.Established })) ∙ payload_window 1 hint c s
arrival_window means.Opens hint now c s = payload_window 1 hint c s
arrival_window (means.Taken pos acknowledged) hint now c s =
    ap (λ (v : Receiving). v.window) (heard_recv acknowledged hint now c (after_established (after_hearing (after_payload pos hint c s)))) ∙ payload_window pos hint c s
arrival_window _ hint now c s = refl

pub stage_up : (now : ℕ) (s t : EndState) → SubflowStep now s t → stage s.state ≤ stage t.state
stage_up now s t step = (steps_up now s t (more s t none step)).state

step_so : (now : ℕ) (s t : EndState) → SubflowStep now s t → IsStep s t
step_so now s t (arrives m hint c is) = record {
  lined = arrival_lined m hint now c s;
  calm = arrival_calm m hint now c s (subst (λ x. MeansIs c s x) (sym is) (means_so c s)) (stage_up now s (after_arrival m hint now c s) (arrives m hint c is));
  window = arrival_window m hint now c s;
}
step_so now s t (sends occasion) = sending_step occasion now s
step_so now s t fires = fire_step now s
step_so now s t dies = dead_step false s
step_so now s t (pushes piece mapping) = record { lined = λ h. record { within = let low = h.within in omega (arith, low); line = line_pushed s.send.records _ s.send.una h.line }; calm = inr refl; window = refl }
step_so now s t finishes = record { lined = λ h. record { within = let low = h.within in omega (arith, low); line = line_pushed s.send.records _ s.send.una h.line }; calm = inr refl; window = refl }
step_so now s t (holds pos octets) = still s t refl refl
step_so now s t owes = still s t refl refl
step_so now s t keeps = still s t refl (elim (is_fin_passed s) as (λ b. (if b then without_held s.recv else after_keep_held s.recv).window ≡ s.recv.window) [ true ↦ refl | false ↦ refl ])
step_so now s t drops = still s t refl refl
step_so now s t (advances count) = still s t refl refl
step_so now s t (passes next) = still s t refl refl
step_so now s t (forgets pos) = still s t refl refl
step_so now s t (settles on restart) = still s t refl refl
step_so now s t (grows growth) = still s t refl refl
step_so now s t (begins is) = still s t refl refl
step_so now s t (joins window is) = still s t refl (payload_window 1 (unkept None) (syn_of_window window) s)

-- ---- an end

pub record IsReached (s : EndState) : Type 0 where
  pub lined : IsLined s.send
  -- before the handshake is done nothing is acknowledged
  pub opening : stage s.state ≤ 2 → s.send.una ≡ 0
  -- the window has 2^20 positions
  pub window : s.recv.window ≡ 1048576

step_reached : (now : ℕ) (s t : EndState) → SubflowStep now s t → IsReached s → IsReached t
step_reached now s t step h = record { lined = (step_so now s t step).lined h.lined; opening = λ low. by low (step_so now s t step).calm; window = (step_so now s t step).window ∙ h.window }
  where
    by : stage t.state ≤ 2 → Calm s t → t.send.una ≡ 0
    by low (inl past) = absurd (omega (arith, low, past))
    by low (inr same) = same ∙ h.opening (let up = stage_up now s t step in omega (arith, up, low))

steps_reached : (now : ℕ) (s t : EndState) → SubflowSteps now s t → IsReached s → IsReached t
steps_reached now s t none h = h
steps_reached now s t (more u v steps step) h = step_reached now u t step (steps_reached now s u steps h)

-- the first record begins at SND.UNA or before it
pub first_reached : (s : EndState) (r : Record) (others : List Record) → IsReached s → s.send.records ≡ r ∷ others → r.pos ≤ s.send.una
first_reached s r others h is = (subst (λ rs. Line s.send.una s.send.nxt (map span_of rs)) is h.lined.line).0

-- and ends behind SND.UNA, unless it is empty
pub first_left : (s : EndState) (r : Record) (others : List Record) → IsReached s → s.send.records ≡ r ∷ others → (s.send.una < end_of r) ⊎ (end_of r ≤ r.pos)
first_left s r others h is = (subst (λ rs. Line s.send.una s.send.nxt (map span_of rs)) is h.lined.line).1

pub joined_up : (rs : List Record) (from to : ℕ) → Joined from to (map span_of rs) → from ≤ to
joined_up [] from to h = omega (arith, h)
joined_up (r ∷ rs) from to h = let at = h.0 in let rest = joined_up rs (end_of r) to h.1 in omega (arith, at, rest)

-- and at SND.NXT or before it, if it has a position
pub first_waits : (s : EndState) (r : Record) (others : List Record) → IsReached s → s.send.records ≡ r ∷ others → r.pos < end_of r → (s.send.una < end_of r) × (end_of r ≤ s.send.nxt)
first_waits s r others h is some =
    let line = subst (λ rs. Line s.send.una s.send.nxt (map span_of rs)) is h.lined.line in
    (⊎_elim (λ less. less) (λ none. absurd (omega (arith, none, some))) (first_left s r others h is), joined_up others (end_of r) s.send.nxt line.2)

-- and where it isn't the SYN both SYNs came
pub past_opening : (s : EndState) (r : Record) (others : List Record) → IsReached s → s.send.records ≡ r ∷ others → 0 < r.pos → 2 ≤ stage s.state
past_opening s r others h is behind = ⊎_elim
    (λ low. absurd (let none = h.opening (let few = low in omega (arith, few)) in let first = first_reached s r others h is in omega (arith, none, first, behind)))
    (λ high. high)
    (cases_lt (stage s.state) 2)

-- where none is left SND.UNA is SND.NXT
pub none_left : (s : EndState) → IsReached s → s.send.records ≡ [] → s.send.una ≡ s.send.nxt
none_left s h is = subst (λ rs. Line s.send.una s.send.nxt (map span_of rs)) is h.lined.line

first_reach : (C : Type 0) (number : ℕ) (start : Start) (plan : PathPlan) (s : Side) → IsReached (end_at s (waiting_path {C = C} (path_begins start number plan) start.lines)).tcp
first_reach C number start plan A = record { lined = record { within = omega arith; line = (omega arith, inl (omega arith), refl) }; opening = λ low. refl; window = refl }
first_reach C number start plan B = record { lined = record { within = omega arith; line = (omega arith, inl (omega arith), refl) }; opening = λ low. refl; window = refl }

-- ---- a path, and the world

module _ {C : Type 0} where
  abbrev pub EndsAreReached : PathState C → Type 0
  EndsAreReached p = (s : Side) → IsReached (end_at s p).tcp

  abbrev Carries : PathState C → PathState C → Type 0
  Carries p q = (s : Side) → IsReached (end_at s p).tcp → IsReached (end_at s q).tcp

  step_carries : (p q : PathState C) → PathStep p q → Carries p q
  step_carries p q x A = steps_reached q.clock p.a.tcp q.a.tcp x.a.subflow
  step_carries p q x B = steps_reached q.clock p.b.tcp q.b.tcp x.b.subflow

  carries_last : Lasts Carries
  carries_last = record { agenda = λ ds p s h. h; chains = λ p q r x y s h. y s (x s h); passes = λ d p. step_carries p (passed d p) (passed_steps d p) }

  abbrev ReachedMember : Actor C → Type 0
  ReachedMember = HoldsOfKind (λ app. Unit {0}) EndsAreReached

  member_takes_reached : (k : Codec C) (r : Reply) (m : Actor C) → ReachedMember m → ReachedMember (member_takes k r m)
  member_takes_reached k r (App a) h = tt
  member_takes_reached k r (Path p) h = λ s. takes_lasts Carries carries_last k r p (λ d. step_carries p (answered k d r p) (answered_steps k d r p)) s (h s)

  member_begins : (m : Actor C) → ReachedMember m → ReachedMember (member_next m)
  member_begins (App a) h = tt
  member_begins (Path p) h = λ s. begins_lasts Carries carries_last (record p { clock = p.until; until = p.until + 100 }) s (h s)

  -- of each path at every moment
  pub each_is_reached : (k : Codec C) (start : Start) (turns : List Turn) → Every (λ c. ReachedMember c.member) (world_run k turns (opened_world start)).crew
  each_is_reached k start turns = run_lifted k (λ c. ReachedMember c.member) (λ books c x asks h. member_takes_reached k (answer_to books x) c.member h) (λ stamp c over h. member_begins c.member h) turns (opened_world start)
      (opened_lifted (λ c. ReachedMember c.member) start tt tt (λ number plan there s. begins_lasts Carries carries_last (waiting_path (path_begins start number plan) start.lines) s (first_reach C number start plan s)))
