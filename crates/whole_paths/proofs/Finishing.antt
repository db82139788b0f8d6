-- An end that finishes pushes its FIN: whether it did so stays, or SND.NXT rises.
use Rattle.std.proofs.Common.{◌≡◌, refl, ap, ◌∙◌, ⊎_elim, inl, inr, ◌⊎◌, ℕ, ◌+◌, ◌<◌, ◌≤◌, arith, nat_le, nat_lt, ◌&&◌, ◌==◌, true, false, if◌then◌else◌, le_refl, Some}
use Rattle.std.specs.List.{slice_get}
use Rattle.sides.specs.declared.side.Side.{Side}
use Rattle.sides.specs.declared.side.Side.TheVariants.{A, B}
use Rattle.subflow_send.specs.declared.record.AckKind.TheVariants.{New, Duplicate, Old, Future}
use Rattle.subflow_send.specs.Records.{SendState}
use Rattle.subflow_send.specs.Rules.{ack_kind, after_acknowledge, after_resent, sample_of, uncovered}
use Rattle.subflow_tcp.specs.declared.segments.Hint.{Hint}
use Rattle.subflow_tcp.specs.declared.segments.Occasion.{Occasion}
use Rattle.subflow_tcp.specs.declared.segments.Occasion.TheVariants as to_send
use Rattle.subflow_tcp.specs.declared.verdicts.Meaning.{Meaning}
use Rattle.subflow_tcp.specs.declared.verdicts.Meaning.TheVariants as means
use Rattle.subflow_tcp.specs.declared.handshake.State.TheVariants as phase
use Rattle.subflow_tcp.specs.Emitting.{after_sending}
use Rattle.subflow_tcp.specs.Expiring.{after_expiry, after_fire, is_sixth}
use Rattle.subflow_tcp.specs.Segments.{Copy}
use Rattle.subflow_tcp.specs.State.{EndState}
use Rattle.subflow_tcp.specs.Taking.{after_ack_kind, after_acknowledgement, after_arrival, after_death, after_established, after_hearing, after_payload}
use Rattle.actor_desk.specs.declared.ask.Reply.{Reply}
use Rattle.path_core.specs.Codec.{Codec}
use Rattle.path_core.specs.Duties.{answered, passed}
use Rattle.path_core.specs.State.{PathState, end_at}
use Rattle.world_laws.specs.declared.member.Member.TheVariants.{App, Path}
use Rattle.world_laws.specs.Actors.{Actor, ActorCrew, member_next, member_takes}
use Rattle.world_laws.specs.StampedBooks.{answer_to}
use Rattle.world_laws.specs.Worlds.{WorldState, Turn, after_turn}
use Rattle.world_laws.proofs.Writes.Steps.{Lasts, begins_lasts, takes_lasts}
use Rattle.whole_paths.specs.EndSteps.{PathStep, SubflowStep, SubflowSteps}
use Rattle.whole_paths.specs.EndSteps.SubflowStep.{arrives, holds, owes, keeps, drops, advances, passes, forgets, pushes, finishes, sends, settles, fires, grows, begins, joins, dies}
use Rattle.whole_paths.specs.EndSteps.SubflowSteps.{none, more}
use Rattle.whole_paths.proofs.Came.{heard_send}
use Rattle.whole_paths.proofs.Duties.{answered_steps, passed_steps}
use Rattle.whole_paths.proofs.Subflows.{steps_up}
use Rattle.whole_paths.proofs.Turns.{turn_each}

-- ---- acknowledgements

acknowledged_same : (pos : ℕ) (v : SendState) → (after_acknowledge pos v).finished ≡ v.finished
acknowledged_same pos v = elim (nat_lt v.una pos && nat_le pos v.nxt) as (λ b. (if b then record v { una = pos; records = uncovered pos v.records } else v).finished ≡ v.finished) [ true ↦ refl | false ↦ refl ]

ack_same : (pos now : ℕ) (s : EndState) → (after_acknowledgement pos now s).send.finished ≡ s.send.finished
ack_same pos now s = elim (ack_kind pos s.send) as (λ kind. (after_ack_kind kind (sample_of pos s.send) now (record s { send = after_acknowledge pos s.send })).send.finished ≡ s.send.finished)
    [ New octets ↦ acknowledged_same pos s.send | Duplicate ↦ acknowledged_same pos s.send | Old ↦ acknowledged_same pos s.send | Future ↦ acknowledged_same pos s.send ]

arrival_same : (m : Meaning) (hint : Hint) (now : ℕ) (c : Copy) (s : EndState) → (after_arrival m hint now c s).send.finished ≡ s.send.finished
arrival_same (means.Accepts pos) hint now c s = ack_same pos now (record (after_hearing (after_payload 1 hint c s)) { state = phase.Established })
arrival_same means.Kills hint now c s = acknowledged_same s.send.nxt s.send
arrival_same (means.Taken pos acknowledged) hint now c s =
    let ready : EndState = after_established (after_hearing (after_payload pos hint c s)) in
    ap (λ (v : SendState). v.finished) (heard_send acknowledged hint now c ready) ∙ ack_same acknowledged now ready
arrival_same _ hint now c s = refl

sending_same : (occasion : Occasion) (now : ℕ) (s : EndState) → (after_sending occasion now s).send.finished ≡ s.send.finished
sending_same to_send.SynAck now s = elim (s.send.una == 0) as (λ b. (if b then after_resent now s.send else s.send).finished ≡ s.send.finished) [ true ↦ refl | false ↦ refl ]
sending_same _ now s = refl

fire_same : (now : ℕ) (s : EndState) → (after_fire now s).send.finished ≡ s.send.finished
fire_same now s = elim (is_sixth s) as (λ b. (if b then after_death true s else after_expiry now s).send.finished ≡ s.send.finished) [ true ↦ acknowledged_same s.send.nxt s.send | false ↦ refl ]

-- ---- a subflow

abbrev pub Finishes : EndState → EndState → Type 0
Finishes s t = (t.send.finished ≡ s.send.finished) ⊎ (s.send.nxt < t.send.nxt)

-- whether the FIN was pushed stays, or it is pushed now
abbrev Ends : EndState → EndState → Type 0
Ends s t = (t.send.finished ≡ s.send.finished) ⊎ ((s.send.nxt < t.send.nxt) × (t.send.finished ≡ true))

step_ends : (now : ℕ) (s t : EndState) → SubflowStep now s t → Ends s t
step_ends now s t (arrives m hint c is) = inl (arrival_same m hint now c s)
step_ends now s t (sends occasion) = inl (sending_same occasion now s)
step_ends now s t fires = inl (fire_same now s)
step_ends now s t dies = inl (acknowledged_same s.send.nxt s.send)
step_ends now s t finishes = inr (omega arith, refl)
step_ends now s t (pushes piece mapping) = inl refl
step_ends now s t (holds pos octets) = inl refl
step_ends now s t owes = inl refl
step_ends now s t keeps = inl refl
step_ends now s t drops = inl refl
step_ends now s t (advances count) = inl refl
step_ends now s t (passes next) = inl refl
step_ends now s t (forgets pos) = inl refl
step_ends now s t (settles on restart) = inl refl
step_ends now s t (grows growth) = inl refl
step_ends now s t (begins is) = inl refl
step_ends now s t (joins window is) = inl refl

-- SND.NXT never falls
pub record Pushes (s t : EndState) : Type 0 where
  pub nxt : s.send.nxt ≤ t.send.nxt
  pub goes : Finishes s t
  -- nor is the FIN taken back
  pub kept : s.send.finished ≡ true → t.send.finished ≡ true

pushes_then : (s t u : EndState) → Pushes s t → Pushes t u → Pushes s u
pushes_then s t u x y = record {
  nxt = (let low = x.nxt in let high = y.nxt in omega (arith, low, high));
  goes = ⊎_elim
      (λ same. ⊎_elim (λ again. inl (again ∙ same)) (λ rises. inr (let low = x.nxt in omega (arith, low, rises))) y.goes)
      (λ rises. inr (let high = y.nxt in omega (arith, rises, high)))
      x.goes;
  kept = λ was. y.kept (x.kept was);
}

ends_push : (s t : EndState) → s.send.nxt ≤ t.send.nxt → Ends s t → Pushes s t
ends_push s t low ends = record {
  nxt = low;
  goes = ⊎_elim (λ same. inl same) (λ now. inr now.0) ends;
  kept = λ was. ⊎_elim (λ same. same ∙ was) (λ now. now.1) ends;
}

pub steps_push : (now : ℕ) (s t : EndState) → SubflowSteps now s t → Pushes s t
steps_push now s t none = ends_push s s (le_refl s.send.nxt) (inl refl)
steps_push now s t (more u v steps step) = pushes_then s u t (steps_push now s u steps) (ends_push u t (steps_up now u t (more u t none step)).pushed (step_ends now u t step))

-- ---- a path, and the world

module _ {C : Type 0} where
  abbrev PathPushes : PathState C → PathState C → Type 0
  PathPushes p q = (s : Side) → Pushes (end_at s p).tcp (end_at s q).tcp

  path_pushes : (p q : PathState C) → PathStep p q → PathPushes p q
  path_pushes p q x A = steps_push q.clock p.a.tcp q.a.tcp x.a.subflow
  path_pushes p q x B = steps_push q.clock p.b.tcp q.b.tcp x.b.subflow

  pushes_last : Lasts PathPushes
  pushes_last = record {
    agenda = λ ds p s. ends_push (end_at s p).tcp (end_at s p).tcp (le_refl (end_at s p).tcp.send.nxt) (inl refl);
    chains = λ p q r x y s. pushes_then (end_at s p).tcp (end_at s q).tcp (end_at s r).tcp (x s) (y s);
    passes = λ d p. path_pushes p (passed d p) (passed_steps d p);
  }

  abbrev pub MemberFinishes : Actor C → Actor C → Type 0
  MemberFinishes (Path p) (Path q) = (s : Side) → Pushes (end_at s p).tcp (end_at s q).tcp
  MemberFinishes (App a) (App b) = Unit {0}
  MemberFinishes _ _ = ⊥

  stays_so : (m : Actor C) → MemberFinishes m m
  stays_so (App a) = tt
  stays_so (Path p) = λ s. ends_push (end_at s p).tcp (end_at s p).tcp (le_refl (end_at s p).tcp.send.nxt) (inl refl)

  takes_so : (k : Codec C) (r : Reply) (m : Actor C) → MemberFinishes m (member_takes k r m)
  takes_so k r (App a) = tt
  takes_so k r (Path p) = takes_lasts PathPushes pushes_last k r p (λ d. path_pushes p (answered k d r p) (answered_steps k d r p))

  next_so : (m : Actor C) → MemberFinishes m (member_next m)
  next_so (App a) = tt
  next_so (Path p) = begins_lasts PathPushes pushes_last (record p { clock = p.until; until = p.until + 100 })

  pub turn_finishes : (k : Codec C) (w : WorldState C) (turn : Turn) (actor : ℕ) (c : ActorCrew C) → slice_get w.crew actor ≡ Some c
      → (d : ActorCrew C) × (slice_get (after_turn k turn w).crew actor ≡ Some d) × MemberFinishes c.member d.member
  turn_finishes k w turn actor c there = turn_each k (λ c d. MemberFinishes c.member d.member) (λ c. stays_so c.member) (λ ask books c. takes_so k (answer_to books ask) c.member) (λ stamp c over. next_so c.member) turn w actor c there
