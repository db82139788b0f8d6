-- Where the peer's FIN stands an end knows from its first copy on, and RCV.NXT stays past it.
use Rattle.std.proofs.Common.{◌≡◌, refl, sym, subst, ap, ◌∙◌, ℕ, ◌+◌, ◌≤◌, arith, Bool, true, false, true≢false, if◌then◌else◌, Option, Some, None}
use Rattle.std.specs.List.{slice_get}
use Rattle.std.proofs.lemmas.Bool.{lt-ltb, ltb-true}
use Rattle.sides.specs.declared.side.Side.{Side}
use Rattle.sides.specs.declared.side.Side.TheVariants.{A, B}
use Rattle.subflow_send.specs.declared.record.AckKind.TheVariants.{New, Duplicate, Old, Future}
use Rattle.subflow_send.specs.Rules.{ack_kind, sample_of, after_acknowledge}
use Rattle.subflow_tcp.specs.declared.handshake.State.TheVariants.{Established}
use Rattle.subflow_tcp.specs.declared.segments.Hint.{Hint}
use Rattle.subflow_tcp.specs.declared.segments.Occasion.{Occasion}
use Rattle.subflow_tcp.specs.declared.segments.Occasion.TheVariants as to_send
use Rattle.subflow_tcp.specs.declared.verdicts.Meaning.{Meaning}
use Rattle.subflow_tcp.specs.declared.verdicts.Meaning.TheVariants as means
use Rattle.subflow_tcp.specs.Emitting.{after_sending}
use Rattle.subflow_tcp.specs.Expiring.{after_fire, after_expiry, is_sixth}
use Rattle.subflow_tcp.specs.Segments.{Copy}
use Rattle.subflow_tcp.specs.State.{EndState, is_behind, is_fin_passed}
use Rattle.subflow_tcp.specs.Taking.{after_death, after_payload, first_fin, after_ack_kind, after_acknowledgement, is_duplicate, after_duplicate, after_interruption, told_by, after_telling, after_heard_ack, after_established, after_hearing, after_arrival}
use Rattle.actor_desk.specs.declared.ask.Reply.{Reply}
use Rattle.path_core.specs.Codec.{Codec}
use Rattle.path_core.specs.Duties.{passed, answered}
use Rattle.path_core.specs.State.{PathState, end_at}
use Rattle.world_laws.specs.declared.member.Member.TheVariants.{App, Path}
use Rattle.world_laws.specs.Actors.{Actor, ActorCrew, member_takes, member_next}
use Rattle.world_laws.specs.StampedBooks.{answer_to}
use Rattle.world_laws.specs.Worlds.{WorldState, Turn, after_turn}
use Rattle.world_laws.proofs.Writes.Steps.{Lasts, takes_lasts, begins_lasts}
use Rattle.whole_paths.specs.EndSteps.{SubflowStep, SubflowSteps, PathStep}
use Rattle.whole_paths.specs.EndSteps.SubflowStep.{arrives, holds, owes, keeps, drops, advances, passes, forgets, pushes, finishes, sends, settles, fires, grows, begins, joins, dies}
use Rattle.whole_paths.specs.EndSteps.SubflowSteps.{none, more}
use Rattle.whole_paths.proofs.Duties.{passed_steps, answered_steps}
use Rattle.whole_paths.proofs.Turns.{turn_each}

-- ---- the subflow

abbrev pub Stays : EndState → EndState → Type 0
Stays s t = (pos : ℕ) → s.fin_at ≡ Some pos → t.fin_at ≡ Some pos

first_stays : (fin : Bool) (n : ℕ) (o : Option ℕ) (pos : ℕ) → o ≡ Some pos → first_fin o fin n ≡ Some pos
first_stays fin n o pos is = subst (λ o. first_fin o fin n ≡ Some pos) (sym is) refl

ack_fin : (n now : ℕ) (s : EndState) → (after_acknowledgement n now s).fin_at ≡ s.fin_at
ack_fin n now s = elim (ack_kind n s.send) as (λ kind. (after_ack_kind kind (sample_of n s.send) now (record s { send = after_acknowledge n s.send })).fin_at ≡ s.fin_at)
    [ New octets ↦ refl | Duplicate ↦ refl | Old ↦ refl | Future ↦ refl ]

heard_fin : (n : ℕ) (hint : Hint) (now : ℕ) (c : Copy) (s : EndState) → (after_heard_ack n hint now c s).fin_at ≡ s.fin_at
heard_fin n hint now c s = elim (is_duplicate (ack_kind n s.send) (told_by hint c) c (after_acknowledgement n now s)) as
    (λ b. (after_telling (told_by hint c) (if b then after_duplicate (after_acknowledgement n now s) else after_interruption (after_acknowledgement n now s))).fin_at ≡ s.fin_at)
    [ true ↦ ack_fin n now s | false ↦ ack_fin n now s ]

arrival_fin : (m : Meaning) (hint : Hint) (now : ℕ) (c : Copy) (s : EndState) → Stays s (after_arrival m hint now c s)
arrival_fin means.Opens hint now c s pos h = first_stays c.fin _ s.fin_at pos h
arrival_fin (means.Accepts n) hint now c s pos h = ack_fin n now (record (after_hearing (after_payload 1 hint c s)) { state = Established }) ∙ first_stays c.fin _ s.fin_at pos h
arrival_fin (means.Taken at n) hint now c s pos h = heard_fin n hint now c (after_established (after_hearing (after_payload at hint c s))) ∙ first_stays c.fin _ s.fin_at pos h
arrival_fin _ hint now c s pos h = h

sending_fin : (occasion : Occasion) (now : ℕ) (s : EndState) → Stays s (after_sending occasion now s)
sending_fin to_send.Reset now s pos h = h
sending_fin _ now s pos h = h

fire_fin : (now : ℕ) (s : EndState) → Stays s (after_fire now s)
fire_fin now s pos h = elim (is_sixth s) as (λ b. (if b then after_death true s else after_expiry now s).fin_at ≡ Some pos) [ true ↦ h | false ↦ h ]

step_fin : (now : ℕ) (s t : EndState) → SubflowStep now s t → Stays s t
step_fin now s t (arrives m hint c is) = arrival_fin m hint now c s
step_fin now s t (sends occasion) = sending_fin occasion now s
step_fin now s t fires = fire_fin now s
step_fin now s t (joins window is) = λ pos h. first_stays false _ s.fin_at pos h
step_fin now s t dies = λ pos h. h
step_fin now s t (pushes piece mapping) = λ pos h. h
step_fin now s t finishes = λ pos h. h
step_fin now s t (holds pos octets) = λ pos h. h
step_fin now s t owes = λ pos h. h
step_fin now s t keeps = λ pos h. h
step_fin now s t drops = λ pos h. h
step_fin now s t (advances count) = λ pos h. h
step_fin now s t (passes next) = λ pos h. h
step_fin now s t (forgets pos) = λ pos h. h
step_fin now s t (settles on restart) = λ pos h. h
step_fin now s t (grows growth) = λ pos h. h
step_fin now s t (begins is) = λ pos h. h

steps_fin : (now : ℕ) (s t : EndState) → SubflowSteps now s t → Stays s t
steps_fin now s t none = λ pos h. h
steps_fin now s t (more u v steps step) = λ pos h. step_fin now u t step pos (steps_fin now s u steps pos h)

-- ---- a path, and the world

module _ {C : Type 0} where
  abbrev pub FinsStay : PathState C → PathState C → Type 0
  FinsStay p q = (s : Side) → Stays (end_at s p).tcp (end_at s q).tcp

  pub step_stay : (p q : PathState C) → PathStep p q → FinsStay p q
  step_stay p q x A = steps_fin q.clock p.a.tcp q.a.tcp x.a.subflow
  step_stay p q x B = steps_fin q.clock p.b.tcp q.b.tcp x.b.subflow

  pub stay_last : Lasts FinsStay
  stay_last = record { agenda = λ ds p s pos h. h; chains = λ p q r x y s pos h. y s pos (x s pos h); passes = λ d p. step_stay p (passed d p) (passed_steps d p) }

  abbrev pub FinsStayMember : Actor C → Actor C → Type 0
  FinsStayMember (Path p) (Path q) = FinsStay p q
  FinsStayMember (App a) (App b) = Unit {0}
  FinsStayMember _ _ = ⊥

  member_takes_so : (k : Codec C) (r : Reply) (m : Actor C) → FinsStayMember m (member_takes k r m)
  member_takes_so k r (App a) = tt
  member_takes_so k r (Path p) = takes_lasts FinsStay stay_last k r p (λ d. step_stay p (answered k d r p) (answered_steps k d r p))

  member_begins : (m : Actor C) → FinsStayMember m (member_next m)
  member_begins (App a) = tt
  member_begins (Path p) = begins_lasts FinsStay stay_last (record p { clock = p.until; until = p.until + 100 })

  member_stays : (m : Actor C) → FinsStayMember m m
  member_stays (App a) = tt
  member_stays (Path p) = λ s pos h. h

  pub fins_stay : (k : Codec C) (w : WorldState C) (turn : Turn) (actor : ℕ) (c : ActorCrew C) → slice_get w.crew actor ≡ Some c
      → (d : ActorCrew C) × (slice_get (after_turn k turn w).crew actor ≡ Some d) × FinsStayMember c.member d.member
  fins_stay k w turn actor c there = turn_each k (λ c d. FinsStayMember c.member d.member) (λ c. member_stays c.member)
      (λ ask books c. member_takes_so k (answer_to books ask) c.member) (λ stamp c over. member_begins c.member) turn w actor c there

  -- RCV.NXT stays past the FIN
  pub still_past : (p q : PathState C) → FinsStay p q → (s : Side) → (end_at s p).tcp.recv.edge ≤ (end_at s q).tcp.recv.edge → is_fin_passed (end_at s p).tcp ≡ true → is_fin_passed (end_at s q).tcp ≡ true
  still_past p q stay s up is = by (end_at s p).tcp.fin_at refl
    where
      by : (o : Option ℕ) → (end_at s p).tcp.fin_at ≡ o → is_fin_passed (end_at s q).tcp ≡ true
      by None at = absurd (true≢false (sym is ∙ ap (λ o. is_behind o (end_at s p).tcp.recv.edge) at))
      by (Some pos) at = ap (λ o. is_behind o (end_at s q).tcp.recv.edge) (stay s pos at)
          ∙ lt-ltb pos (end_at s q).tcp.recv.edge (let low = ltb-true pos (end_at s p).tcp.recv.edge (sym (ap (λ o. is_behind o (end_at s p).tcp.recv.edge) at) ∙ is) in omega (arith, low, up))
