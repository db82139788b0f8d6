-- Once both SYNs came SND.UNA is past the SYN, which stands at position 0; so what an end waits for that sent no FIN is data.
use Rattle.std.proofs.Common.{◌≡◌, refl, sym, subst, ap, ◌∙◌, ⊎_elim, ℕ, ◌+◌, ◌≤◌, ◌&&◌, ◌==◌, nat_lt, nat_le, arith, true, false, true≢false, if◌then◌else◌, Option, Some, None, List, length, suc, map, ◌∷◌, []}
use Rattle.std.specs.List.{slice_get}
use Rattle.std.proofs.lemmas.Bool.{cases_lt, le-leb, lt-ltb}
use Rattle.sides.specs.declared.side.Side.{Side}
use Rattle.sides.specs.declared.side.Side.TheVariants.{A, B}
use Rattle.stream_lanes.specs.Words.{Every}
use Rattle.stream_lanes.proofs.Lists.{Every-push}
use Rattle.subflow_send.specs.declared.record.AckKind.TheVariants.{New, Duplicate, Old, Future}
use Rattle.subflow_send.specs.declared.record.RecordKind.{RecordKind}
use Rattle.subflow_send.specs.declared.record.RecordKind.TheVariants.{Syn, Data, Fin}
use Rattle.subflow_send.specs.Records.{Record, SendState, end_of, occupied, span_of}
use Rattle.subflow_send.specs.Rules.{ack_kind, after_acknowledge, after_resent, sample_of, uncovered}
use Rattle.subflow_tcp.specs.declared.handshake.State.{State as EndPhase}
use Rattle.subflow_tcp.specs.declared.handshake.State.TheVariants as phase
use Rattle.subflow_tcp.specs.declared.segments.Hint.{Hint}
use Rattle.subflow_tcp.specs.declared.segments.Occasion.{Occasion}
use Rattle.subflow_tcp.specs.declared.segments.Occasion.TheVariants as to_send
use Rattle.subflow_tcp.specs.declared.verdicts.Meaning.{Meaning}
use Rattle.subflow_tcp.specs.declared.verdicts.Meaning.TheVariants as means
use Rattle.subflow_tcp.specs.Emitting.{after_sending}
use Rattle.subflow_tcp.specs.Expiring.{after_expiry, after_fire, is_sixth}
use Rattle.subflow_tcp.specs.Segments.{Copy}
use Rattle.subflow_tcp.specs.State.{EndState}
use Rattle.subflow_tcp.specs.States.{after_fin_passed, after_finish, is_dead, is_half_open}
use Rattle.subflow_tcp.specs.Taking.{after_ack_kind, after_acknowledgement, after_arrival, after_death, after_established, after_hearing, after_payload}
use Rattle.actor_desk.specs.declared.ask.Reply.{Reply}
use Rattle.path_core.specs.Codec.{Codec}
use Rattle.path_core.specs.Duties.{answered, passed}
use Rattle.path_core.specs.Start.{first_state, waiting_path}
use Rattle.path_core.specs.State.{PathState, end_at}
use Rattle.path_core.specs.Values.{Carried, values}
use Rattle.world_laws.specs.declared.member.Member.TheVariants.{App, Path}
use Rattle.world_laws.specs.Actors.{Actor, member_next, member_takes, ActorCrew}
use Rattle.world_laws.specs.Members.{HoldsOfKind}
use Rattle.world_laws.specs.Openings.{PathPlan, Start, opened_world, path_begins}
use Rattle.world_laws.specs.RoundDone.{reached}
use Rattle.world_laws.specs.StampedBooks.{answer_to}
use Rattle.world_laws.specs.Worlds.{Turn, world_run}
use Rattle.world_laws.proofs.Keys.AreDrawn.{is_past}
use Rattle.world_laws.proofs.Keys.Meanings.{Means}
use Rattle.world_laws.proofs.Keys.Meanings.{means as means_of}
use Rattle.world_laws.proofs.Lanes.Records.{expired_kept, fin_sent_kept, first_sent_kept, uncovered_kept, unsent_sent_kept}
use Rattle.world_laws.proofs.Lanes.Saying.{every_one}
use Rattle.world_laws.proofs.Numbers.TellSmall.{RecordKindTells}
use Rattle.world_laws.proofs.Rounds.Lifting.{opened_lifted, run_lifted}
use Rattle.world_laws.proofs.Writes.Steps.{Lasts, begins_lasts, takes_lasts}
use Rattle.whole_paths.specs.AsFar.{stage}
use Rattle.whole_paths.specs.DataLeft.{HasDataLeft, WhatIsLeftIsData, IsData}
use Rattle.whole_paths.specs.EndSteps.{PathStep, SubflowStep, SubflowSteps}
use Rattle.whole_paths.specs.EndSteps.SubflowStep.{arrives, holds, owes, keeps, drops, advances, passes, forgets, pushes, finishes, sends, settles, fires, grows, begins, joins, dies}
use Rattle.whole_paths.specs.EndSteps.SubflowSteps.{none, more}
use Rattle.whole_paths.proofs.Came.{heard_send}
use Rattle.whole_paths.proofs.Duties.{answered_steps, passed_steps}
use Rattle.whole_paths.proofs.Exchanges.{Shown, each_shown}
use Rattle.whole_paths.proofs.OpenCourses.{IsOfLanes, each_of_lanes}
use Rattle.whole_paths.proofs.Reached.{EndsAreReached, each_is_reached, first_left, first_reached, Joined, Line}
use Rattle.whole_paths.proofs.Subflows.{steps_up}
use Rattle.whole_paths.specs.LastFin.{FinIsLast}
use Rattle.whole_paths.proofs.LastFin.{fins_are_last}
use Rattle.world_laws.specs.Promises.{HasRoom, NumbersFit}

-- ---- the SYN stands at position 0

abbrev AtZero : Record → Type 0
AtZero r = r.kind ≡ Syn → r.pos ≡ 0

acked_syns : (pos : ℕ) (v : SendState) → Every AtZero v.records → Every AtZero (after_acknowledge pos v).records
acked_syns pos v h = elim (nat_lt v.una pos && nat_le pos v.nxt) as (λ b. Every AtZero (if b then record v { una = pos; records = uncovered pos v.records } else v).records) [ true ↦ uncovered_kept pos v.records h | false ↦ h ]

ack_syns : (pos now : ℕ) (s : EndState) → Every AtZero s.send.records → Every AtZero (after_acknowledgement pos now s).send.records
ack_syns pos now s h = elim (ack_kind pos s.send) as (λ kind. Every AtZero (after_ack_kind kind (sample_of pos s.send) now (record s { send = after_acknowledge pos s.send })).send.records)
    [ New octets ↦ acked_syns pos s.send h | Duplicate ↦ acked_syns pos s.send h | Old ↦ acked_syns pos s.send h | Future ↦ acked_syns pos s.send h ]

arrival_syns : (m : Meaning) (hint : Hint) (now : ℕ) (c : Copy) (s : EndState) → Every AtZero s.send.records → Every AtZero (after_arrival m hint now c s).send.records
arrival_syns (means.Accepts n) hint now c s h = ack_syns n now (record (after_hearing (after_payload 1 hint c s)) { state = phase.Established }) h
arrival_syns means.Kills hint now c s h = acked_syns s.send.nxt s.send h
arrival_syns (means.Taken pos n) hint now c s h =
    let ready : EndState = after_established (after_hearing (after_payload pos hint c s)) in
    subst (λ (v : SendState). Every AtZero v.records) (sym (heard_send n hint now c ready)) (ack_syns n now ready h)
arrival_syns _ hint now c s h = h

sending_syns : (occasion : Occasion) (now : ℕ) (s : EndState) → Every AtZero s.send.records → Every AtZero (after_sending occasion now s).send.records
sending_syns to_send.SynAck now s h = elim (s.send.una == 0) as (λ b. Every AtZero (if b then after_resent now s.send else s.send).records)
    [ true ↦ first_sent_kept AtZero (λ r x low. low) now s.send.records h | false ↦ h ]
sending_syns to_send.First now s h = first_sent_kept AtZero (λ r x low. low) now s.send.records h
sending_syns to_send.Unsent now s h = unsent_sent_kept AtZero (λ r x low. low) now s.send.records h
sending_syns to_send.Fin now s h = fin_sent_kept AtZero (λ r x low. low) now s.send.records h
sending_syns _ now s h = h

fire_syns : (now : ℕ) (s : EndState) → Every AtZero s.send.records → Every AtZero (after_fire now s).send.records
fire_syns now s h = elim (is_sixth s) as (λ b. Every AtZero (if b then after_death true s else after_expiry now s).send.records)
    [ true ↦ acked_syns s.send.nxt s.send h | false ↦ expired_kept AtZero (λ r x low. low) s.send.records h ]

step_syns : (now : ℕ) (s t : EndState) → SubflowStep now s t → Every AtZero s.send.records → Every AtZero t.send.records
step_syns now s t (arrives m hint c is) h = arrival_syns m hint now c s h
step_syns now s t (sends occasion) h = sending_syns occasion now s h
step_syns now s t fires h = fire_syns now s h
step_syns now s t dies h = acked_syns s.send.nxt s.send h
step_syns now s t (pushes piece mapping) h = Every-push _ h (λ is. absurd (let same : Data ≡ Syn = is in cc))
step_syns now s t finishes h = Every-push _ h (λ is. absurd (let same : Fin ≡ Syn = is in cc))
step_syns now s t (holds pos octets) h = h
step_syns now s t owes h = h
step_syns now s t keeps h = h
step_syns now s t drops h = h
step_syns now s t (advances count) h = h
step_syns now s t (passes next) h = h
step_syns now s t (forgets pos) h = h
step_syns now s t (settles on restart) h = h
step_syns now s t (grows growth) h = h
step_syns now s t (begins is) h = h
step_syns now s t (joins window is) h = h

-- ---- the SYN is acknowledged as the handshake ends

una_grows : (pos : ℕ) (v : SendState) → 1 ≤ pos → pos ≤ v.nxt → 1 ≤ (after_acknowledge pos v).una
una_grows pos v some sent = ⊎_elim
    (λ new. subst (λ b. 1 ≤ (if b then record v { una = pos; records = uncovered pos v.records } else v).una) (sym (ap (λ b. b && nat_le pos v.nxt) (lt-ltb v.una pos new) ∙ le-leb pos v.nxt sent)) some)
    (λ old. (elim (nat_lt v.una pos && nat_le pos v.nxt) as (λ b. 1 ≤ (if b then record v { una = pos; records = uncovered pos v.records } else v).una) [ true ↦ some | false ↦ omega (arith, old, some) ]))
    (cases_lt v.una pos)

ack_una_is : (pos now : ℕ) (s : EndState) → (after_acknowledgement pos now s).send.una ≡ (after_acknowledge pos s.send).una
ack_una_is pos now s = elim (ack_kind pos s.send) as (λ kind. (after_ack_kind kind (sample_of pos s.send) now (record s { send = after_acknowledge pos s.send })).send.una ≡ (after_acknowledge pos s.send).una)
    [ New octets ↦ refl | Duplicate ↦ refl | Old ↦ refl | Future ↦ refl ]

-- the handshake was done before, or the SYN is acknowledged, or the handshake isn't done, or the end is dead
data Opens (s t : EndState) : Type 0 where
  before : 3 ≤ stage s.state → Opens s t
  acked : 1 ≤ t.send.una → Opens s t
  half : stage t.state ≤ 2 → Opens s t
  dead : 7 ≤ stage t.state → Opens s t

same_opens : (s t : EndState) → t.state ≡ s.state → Opens s t
same_opens s t same = ⊎_elim (λ low. half (let is = ap stage same in omega (arith, low, is))) (λ high. before high) (cases_lt (stage s.state) 3)

passed_opens : (s t : EndState) (state : EndPhase) → s.state ≡ state → t.state ≡ after_fin_passed state → Opens s t
passed_opens s t phase.Established is to = before (subst (λ (x : EndPhase). 3 ≤ stage x) (sym is) (omega arith))
passed_opens s t phase.FinWait1 is to = before (subst (λ (x : EndPhase). 3 ≤ stage x) (sym is) (omega arith))
passed_opens s t phase.FinWait2 is to = before (subst (λ (x : EndPhase). 3 ≤ stage x) (sym is) (omega arith))
passed_opens s t _ is to = same_opens s t (to ∙ sym is)

finished_opens : (s t : EndState) (state : EndPhase) → s.state ≡ state → t.state ≡ after_finish state → Opens s t
finished_opens s t phase.Established is to = before (subst (λ (x : EndPhase). 3 ≤ stage x) (sym is) (omega arith))
finished_opens s t phase.CloseWait is to = before (subst (λ (x : EndPhase). 3 ≤ stage x) (sym is) (omega arith))
finished_opens s t _ is to = same_opens s t (to ∙ sym is)

taken_opens : (pos n : ℕ) (hint : Hint) (now : ℕ) (c : Copy) (s : EndState) → Means c s (means.Taken pos n) → (state : EndPhase) → s.state ≡ state → Opens s (after_arrival (means.Taken pos n) hint now c s)
taken_opens pos n hint now c s is phase.SynReceived at =
    let ready : EndState = after_established (after_hearing (after_payload pos hint c s)) in
    let sent = is.1.1.1.1.1 (ap (λ x. is_half_open x) at) in
    acked (subst (λ (v : SendState). 1 ≤ v.una) (sym (heard_send n hint now c ready)) (subst (λ una. 1 ≤ una) (sym (ack_una_is n now ready)) (una_grows n s.send sent.0 sent.1)))
taken_opens pos n hint now c s is phase.Waiting at = absurd (true≢false (sym is.0 ∙ ap is_past at))
taken_opens pos n hint now c s is phase.Listen at = absurd (true≢false (sym is.0 ∙ ap is_past at))
taken_opens pos n hint now c s is phase.SynSent at = absurd (true≢false (sym is.0 ∙ ap is_past at))
taken_opens pos n hint now c s is _ at = before (subst (λ (x : EndPhase). 3 ≤ stage x) (sym at) (omega arith))

arrival_opens : (m : Meaning) (hint : Hint) (now : ℕ) (c : Copy) (s : EndState) → Means c s m → Opens s (after_arrival m hint now c s)
arrival_opens (means.Accepts n) hint now c s is =
    let ready : EndState = record (after_hearing (after_payload 1 hint c s)) { state = phase.Established } in
    acked (subst (λ una. 1 ≤ una) (sym (ack_una_is n now ready)) (una_grows n s.send is.1.1.1.0 is.1.1.1.1))
arrival_opens (means.Taken pos n) hint now c s is = taken_opens pos n hint now c s is s.state refl
arrival_opens means.Opens hint now c s is = half (omega arith)
arrival_opens means.Kills hint now c s is = dead (omega arith)
arrival_opens _ hint now c s is = same_opens s _ refl

fire_opens : (now : ℕ) (s : EndState) → Opens s (after_fire now s)
fire_opens now s = elim (is_sixth s) as (λ b. Opens s (if b then after_death true s else after_expiry now s)) [ true ↦ dead (omega arith) | false ↦ same_opens s (after_expiry now s) refl ]

sending_state : (occasion : Occasion) (now : ℕ) (s : EndState) → (after_sending occasion now s).state ≡ s.state
sending_state = elim [ to_send.Reset ↦ λ now s. refl | _ ↦ λ now s. refl ]

step_opens : (now : ℕ) (s t : EndState) → SubflowStep now s t → Opens s t
step_opens now s t (arrives m hint c is) = arrival_opens m hint now c s (subst (λ x. Means c s x) (sym is) (means_of c s))
step_opens now s t (sends occasion) = same_opens s t (sending_state occasion now s)
step_opens now s t fires = fire_opens now s
step_opens now s t dies = dead (omega arith)
step_opens now s t (passes next) = passed_opens s t s.state refl refl
step_opens now s t finishes = finished_opens s t s.state refl refl
step_opens now s t (begins is) = half (omega arith)
step_opens now s t (joins window is) = half (omega arith)
step_opens now s t (pushes piece mapping) = same_opens s t refl
step_opens now s t (holds pos octets) = same_opens s t refl
step_opens now s t owes = same_opens s t refl
step_opens now s t keeps = same_opens s t refl
step_opens now s t drops = same_opens s t refl
step_opens now s t (advances count) = same_opens s t refl
step_opens now s t (forgets pos) = same_opens s t refl
step_opens now s t (settles on restart) = same_opens s t refl
step_opens now s t (grows growth) = same_opens s t refl

-- ---- an end

pub record IsBegun (s : EndState) : Type 0 where
  pub syns : Every AtZero s.send.records
  -- as the handshake is done SND.UNA is past the SYN
  pub past : 3 ≤ stage s.state → stage s.state ≤ 6 → 1 ≤ s.send.una

step_begun : (now : ℕ) (s t : EndState) → SubflowStep now s t → IsBegun s → IsBegun t
step_begun now s t step h = record { syns = step_syns now s t step h.syns; past = λ low high. by low high (step_opens now s t step) }
  where
    up : (stage s.state ≤ stage t.state) × (s.send.una ≤ t.send.una)
    up = let far = steps_up now s t (more s t none step) in (far.state, far.acknowledged)

    by : 3 ≤ stage t.state → stage t.state ≤ 6 → Opens s t → 1 ≤ t.send.una
    by low high (before was) = let some = h.past was (let state = up.0 in omega (arith, state, high)) in let una = up.1 in omega (arith, some, una)
    by low high (acked some) = some
    by low high (half few) = absurd (omega (arith, low, few))
    by low high (dead most) = absurd (omega (arith, high, most))

steps_begun : (now : ℕ) (s t : EndState) → SubflowSteps now s t → IsBegun s → IsBegun t
steps_begun now s t none h = h
steps_begun now s t (more u v steps step) h = step_begun now u t step (steps_begun now s u steps h)

first_begun : (C : Type 0) (number : ℕ) (start : Start) (plan : PathPlan) (s : Side) → IsBegun (end_at s (waiting_path {C = C} (path_begins start number plan) start.lines)).tcp
first_begun C number start plan A = record { syns = every_one _ (λ is. refl); past = λ low high. absurd (by (path_begins start number plan).joined_at low) }
  where
    by : (o : Option ℕ) → 3 ≤ stage (first_state o) → ⊥
    by None low = omega (arith, low)
    by (Some tick) low = omega (arith, low)
first_begun C number start plan B = record { syns = every_one _ (λ is. refl); past = λ low high. absurd (omega (arith, low)) }

-- ---- a path, and the world

module _ {C : Type 0} where
  abbrev pub EndsAreBegun : PathState C → Type 0
  EndsAreBegun p = (s : Side) → IsBegun (end_at s p).tcp

  abbrev Carries : PathState C → PathState C → Type 0
  Carries p q = (s : Side) → IsBegun (end_at s p).tcp → IsBegun (end_at s q).tcp

  step_carries : (p q : PathState C) → PathStep p q → Carries p q
  step_carries p q x A = steps_begun q.clock p.a.tcp q.a.tcp x.a.subflow
  step_carries p q x B = steps_begun q.clock p.b.tcp q.b.tcp x.b.subflow

  carries_last : Lasts Carries
  carries_last = record { agenda = λ ds p s h. h; chains = λ p q r x y s h. y s (x s h); passes = λ d p. step_carries p (passed d p) (passed_steps d p) }

  abbrev BegunMember : Actor C → Type 0
  BegunMember = HoldsOfKind (λ app. Unit {0}) EndsAreBegun

  member_takes_begun : (k : Codec C) (r : Reply) (m : Actor C) → BegunMember m → BegunMember (member_takes k r m)
  member_takes_begun k r (App a) h = tt
  member_takes_begun k r (Path p) h = λ s. takes_lasts Carries carries_last k r p (λ d. step_carries p (answered k d r p) (answered_steps k d r p)) s (h s)

  member_begins : (m : Actor C) → BegunMember m → BegunMember (member_next m)
  member_begins (App a) h = tt
  member_begins (Path p) h = λ s. begins_lasts Carries carries_last (record p { clock = p.until; until = p.until + 100 }) s (h s)

  pub each_is_begun : (k : Codec C) (start : Start) (turns : List Turn) → Every (λ c. BegunMember c.member) (world_run k turns (opened_world start)).crew
  each_is_begun k start turns = run_lifted k (λ c. BegunMember c.member) (λ books c x asks h. member_takes_begun k (answer_to books x) c.member h) (λ stamp c over h. member_begins c.member h) turns (opened_world start)
      (opened_lifted (λ c. BegunMember c.member) start tt tt (λ number plan there s. begins_lasts Carries carries_last (waiting_path (path_begins start number plan) start.lines) s (first_begun C number start plan s)))

-- ---- the law

pub living_low : (state : EndPhase) → is_dead state ≡ false → stage state ≤ 6
living_low phase.Dead living = absurd (true≢false living)
living_low _ living = omega arith

-- SND.NXT is behind each record
pub joined_up : (rs : List Record) (from nxt : ℕ) → Joined from nxt (map span_of rs) → from ≤ nxt
joined_up [] from nxt h = omega (arith, h)
joined_up (r ∷ rs) from nxt h = let at = h.0 in let rest = joined_up rs (end_of r) nxt h.1 in omega (arith, at, rest)

data_left : (start : Start) (p : PathState Carried) → Shown p → EndsAreReached p → EndsAreBegun p → IsOfLanes start p → FinIsLast p → HasDataLeft p
data_left start p shown reached begun first last s past living behind r others is = by r.kind refl
  where
    there : slice_get (end_at s p).tcp.send.records 0 ≡ Some r
    there = ap (λ (rs : List Record). slice_get rs 0) is

    low : r.pos ≤ (end_at s p).tcp.send.una
    low = first_reached (end_at s p).tcp r others (reached s) is

    some : 1 ≤ (end_at s p).tcp.send.una
    some = (begun s).past past (living_low (end_at s p).tcp.state living)

    within : end_of r ≤ (end_at s p).tcp.send.nxt
    within = joined_up others (end_of r) (end_at s p).tcp.send.nxt (subst (λ rs. Line (end_at s p).tcp.send.una (end_at s p).tcp.send.nxt (map span_of rs)) is (reached s).lined.line).2

    by : (kind : RecordKind) → r.kind ≡ kind → IsData r (end_at s p)
    by Data same =
        let mapped : RecordKindTells p.profile s Data r = subst (λ k. RecordKindTells p.profile s k r) same ((shown.tells s).sender.records.each 0 r there).mapped in
        let octets = mapped.0 in let whole = mapped.4 in
        let end : end_of r ≡ r.pos + length r.piece = ap (λ k. r.pos + occupied k r.piece) same in
        record { kind = same; within = within; left = ⊎_elim (λ ahead. ahead) (λ empty. absurd (omega (arith, empty, octets, whole, end))) (first_left (end_at s p).tcp r others (reached s) is) }
    by Syn same = absurd (
        let zeroth : r.pos ≡ 0 = ((begun s).syns.each 0 r there) same in
        let end : end_of r ≡ r.pos + 1 = ap (λ k. r.pos + occupied k r.piece) same in
        ⊎_elim (λ ahead. omega (arith, ahead, end, zeroth, some)) (λ empty. omega (arith, empty, end)) (first_left (end_at s p).tcp r others (reached s) is))
    by Fin same = absurd (⊎_elim
        (λ unfinished. (first.kinds s unfinished).each 0 r there same)
        (λ two. (let at : suc r.pos ≡ (end_at s p).tcp.send.nxt = ((last.sent s).each 0 r there) same in omega (arith, two, at, low)))
        behind)

member_left : (start : Start) (m : Actor Carried) → HoldsOfKind (λ app. Unit {0}) Shown m → HoldsOfKind (λ app. Unit {0}) EndsAreReached m → HoldsOfKind (λ app. Unit {0}) EndsAreBegun m
    → HoldsOfKind (λ app. Unit {0}) (IsOfLanes start) m → HoldsOfKind (λ app. Unit {0}) FinIsLast m → HoldsOfKind (λ app. Unit {0}) HasDataLeft m
member_left start (App a) shown reached begun first last = tt
member_left start (Path p) shown reached begun first last = data_left start p shown reached begun first last

pub each_path_has_data_left : WhatIsLeftIsData
each_path_has_data_left start turns size fit actor c there =
    member_left start c.member (each_shown start turns size fit actor c there) ((each_is_reached values start turns).each actor c there) ((each_is_begun values start turns).each actor c there)
    (each_of_lanes start turns size actor c there) ((fins_are_last start turns size).each actor c there)

-- of path 0
pub what_is_left_is_data : (start : Start) (turns : List Turn) → HasRoom start → NumbersFit start → (c : ActorCrew Carried) → slice_get (reached values start turns).crew 2 ≡ Some c → HoldsOfKind (λ app. Unit {0}) HasDataLeft c.member
what_is_left_is_data start turns size fit c there = each_path_has_data_left start turns size fit 2 c there
