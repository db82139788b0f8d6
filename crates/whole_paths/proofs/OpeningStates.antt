-- An end of a path is in the states of its side until the handshake is done.
use Rattle.std.proofs.Common.{◌≡◌, refl, sym, subst, ap, ◌∙◌, ⊎_elim, ℕ, ◌+◌, ◌<◌, ◌≤◌, arith, true, false, if◌then◌else◌, Option, Some, None}
use Rattle.std.proofs.lemmas.Bool.{cases_lt}
use Rattle.subflow_tcp.specs.declared.handshake.State.TheVariants as phase
use Rattle.subflow_tcp.specs.States.{after_fin_passed, after_finish}
use Rattle.subflow_tcp.specs.Taking.{after_arrival, after_death, after_established, after_hearing, after_payload}
use Rattle.path_core.specs.Start.{first_state}
use Rattle.world_laws.proofs.Whole.Ends.{MeansIs, means_so}
use Rattle.whole_paths.specs.AsFar.{stage}
use Rattle.whole_paths.specs.OpeningStates.{EndsGoByTheHandshake, GoByTheHandshake, IsOfA, IsOfB}
use Rattle.whole_paths.specs.OpeningStates.{IsOfA as of_a}
use Rattle.whole_paths.specs.OpeningStates.{IsOfB as of_b}
use Rattle.whole_paths.proofs.Opening.{established_up, heard_state}
use Rattle.whole_paths.proofs.Subflows.{steps_up, ack_up}
use Rattle.whole_paths.proofs.Passing.{past_stage}
use Rattle.whole_paths.proofs.Reached.{stage_up}
use Rattle.subflow_tcp.specs.declared.handshake.State.{State}
use Rattle.subflow_tcp.specs.declared.segments.Hint.{Hint}
use Rattle.subflow_tcp.specs.declared.segments.Occasion.{Occasion}
use Rattle.subflow_tcp.specs.declared.segments.Occasion.TheVariants as to_send
use Rattle.subflow_tcp.specs.declared.verdicts.Meaning.{Meaning}
use Rattle.subflow_tcp.specs.declared.verdicts.Meaning.TheVariants as means
use Rattle.subflow_tcp.specs.Emitting.{after_sending}
use Rattle.subflow_tcp.specs.Expiring.{after_expiry, is_sixth}
use Rattle.subflow_tcp.specs.Segments.{Copy}
use Rattle.subflow_tcp.specs.State.{EndState}
use Rattle.path_core.specs.Codec.{Codec}
use Rattle.path_core.specs.Duties.{answered, passed}
use Rattle.path_core.specs.Start.{waiting_path}
use Rattle.path_core.specs.State.{PathState}
use Rattle.actor_desk.specs.declared.ask.Reply.{Reply}
use Rattle.world_laws.specs.declared.member.Member.TheVariants.{App, Path}
use Rattle.world_laws.specs.Actors.{Actor, member_next, member_takes}
use Rattle.world_laws.specs.Members.{HoldsOfKind}
use Rattle.world_laws.specs.Openings.{opened_world, path_begins}
use Rattle.world_laws.specs.StampedBooks.{answer_to}
use Rattle.world_laws.proofs.Rounds.Lifting.{opened_lifted, run_lifted}
use Rattle.world_laws.proofs.Writes.Steps.{Lasts, begins_lasts, takes_lasts}
use Rattle.whole_paths.specs.EndSteps.{PathStep, SubflowStep, SubflowSteps}
use Rattle.whole_paths.specs.EndSteps.SubflowStep.{arrives, holds, owes, keeps, drops, advances, passes, forgets, pushes, finishes, sends, settles, fires, grows, begins, joins, dies}
use Rattle.whole_paths.specs.EndSteps.SubflowSteps.{none, more}
use Rattle.whole_paths.proofs.Duties.{answered_steps, passed_steps}

-- ---- a subflow

-- a step keeps the state, or the handshake is done; a listening end takes the SYN, and a waiting one opens
data Moves (s t : EndState) : Type 0 where
  same : t.state ≡ s.state → Moves s t
  done : 3 ≤ stage t.state → Moves s t
  takes_syn : s.state ≡ phase.Listen → t.state ≡ phase.SynReceived → Moves s t
  begun : s.state ≡ phase.Waiting → t.state ≡ phase.SynSent → Moves s t

if_low : (now : ℕ) (s t : EndState) → SubflowStep now s t → (stage s.state < 3 → Moves s t) → Moves s t
if_low now s t step low = ⊎_elim low (λ high. done (let up = (steps_up now s t (more s t none step)).state in omega (arith, high, up))) (cases_lt (stage s.state) 3)

passes_so : (x : State) → stage x < 3 → after_fin_passed x ≡ x
passes_so phase.Waiting low = refl
passes_so phase.Listen low = refl
passes_so phase.SynSent low = refl
passes_so phase.SynReceived low = refl
passes_so _ low = absurd (omega (arith, low))

finishes_so : (x : State) → stage x < 3 → after_finish x ≡ x
finishes_so phase.Waiting low = refl
finishes_so phase.Listen low = refl
finishes_so phase.SynSent low = refl
finishes_so phase.SynReceived low = refl
finishes_so _ low = absurd (omega (arith, low))

arrives_so : (m : Meaning) (hint : Hint) (now : ℕ) (c : Copy) (s : EndState) → MeansIs c s m → stage s.state ≤ stage (after_arrival m hint now c s).state → Moves s (after_arrival m hint now c s)
arrives_so means.Opens hint now c s fits up = takes_syn fits.0 refl
arrives_so (means.Accepts pos) hint now c s fits up = done (let far = (ack_up pos now (record (after_hearing (after_payload 1 hint c s)) { state = phase.Established })).state in omega (arith, far))
arrives_so means.Kills hint now c s fits up = done (omega arith)
arrives_so (means.Taken pos n) hint now c s fits up =
    let ready : EndState = after_established (after_hearing (after_payload pos hint c s)) in
    let high : 3 ≤ stage ready.state = established_up s.state (past_stage s.state fits.0) in
    let far = (ack_up n now ready).state in
    done (subst (λ state. 3 ≤ stage state) (sym (heard_state n hint now c ready)) (omega (arith, high, far)))
arrives_so _ hint now c s fits up = same refl

sends_so : (occasion : Occasion) (now : ℕ) (s : EndState) → (after_sending occasion now s).state ≡ s.state
sends_so = elim [ to_send.Reset ↦ λ now s. refl | _ ↦ λ now s. refl ]

step_moves : (now : ℕ) (s t : EndState) → SubflowStep now s t → Moves s t
step_moves now s t (arrives m hint c is) = arrives_so m hint now c s (subst (λ x. MeansIs c s x) (sym is) (means_so c s)) (stage_up now s (after_arrival m hint now c s) (arrives m hint c is))
step_moves now s t (sends occasion) = same (sends_so occasion now s)
step_moves now s t fires = elim (is_sixth s) as (λ b. Moves s (if b then after_death true s else after_expiry now s)) [ true ↦ done (omega arith) | false ↦ same refl ]
step_moves now s t dies = done (omega arith)
step_moves now s t (passes next) = if_low now s t (passes next) (λ low. same (passes_so s.state low))
step_moves now s t finishes = if_low now s t finishes (λ low. same (finishes_so s.state low))
step_moves now s t (begins is) = begun is refl
step_moves now s t (joins window is) = takes_syn is refl
step_moves now s t (pushes piece mapping) = same refl
step_moves now s t (holds pos octets) = same refl
step_moves now s t owes = same refl
step_moves now s t keeps = same refl
step_moves now s t drops = same refl
step_moves now s t (advances count) = same refl
step_moves now s t (forgets pos) = same refl
step_moves now s t (settles on restart) = same refl
step_moves now s t (grows growth) = same refl

-- ---- an end

a_moves : (s t : EndState) → IsOfA s.state → Moves s t → IsOfA t.state
a_moves s t h (same is) = subst IsOfA (sym is) h
a_moves s t h (done high) = of_a.past high
a_moves s t h (begun was is) = of_a.sent is
a_moves s t (of_a.waiting is) (takes_syn was now) = absurd (let both : phase.Waiting ≡ phase.Listen = sym is ∙ was in cc)
a_moves s t (of_a.sent is) (takes_syn was now) = absurd (let both : phase.SynSent ≡ phase.Listen = sym is ∙ was in cc)
a_moves s t (of_a.past high) (takes_syn was now) = absurd (let low = ap stage was in omega (arith, low, high))

b_moves : (s t : EndState) → IsOfB s.state → Moves s t → IsOfB t.state
b_moves s t h (same is) = subst IsOfB (sym is) h
b_moves s t h (done high) = of_b.past high
b_moves s t h (takes_syn was is) = of_b.half_open is
b_moves s t (of_b.listening is) (begun was now) = absurd (let both : phase.Listen ≡ phase.Waiting = sym is ∙ was in cc)
b_moves s t (of_b.half_open is) (begun was now) = absurd (let both : phase.SynReceived ≡ phase.Waiting = sym is ∙ was in cc)
b_moves s t (of_b.past high) (begun was now) = absurd (let low = ap stage was in omega (arith, low, high))

a_steps : (now : ℕ) (s t : EndState) → SubflowSteps now s t → IsOfA s.state → IsOfA t.state
a_steps now s t none h = h
a_steps now s t (more u v steps step) h = a_moves u t (a_steps now s u steps h) (step_moves now u t step)

b_steps : (now : ℕ) (s t : EndState) → SubflowSteps now s t → IsOfB s.state → IsOfB t.state
b_steps now s t none h = h
b_steps now s t (more u v steps step) h = b_moves u t (b_steps now s u steps h) (step_moves now u t step)

first_of_a : (o : Option ℕ) → IsOfA (first_state o)
first_of_a None = of_a.sent refl
first_of_a (Some tick) = of_a.waiting refl

-- ---- a path

module _ {C : Type 0} where
  abbrev GoOn : PathState C → PathState C → Type 0
  GoOn p q = GoByTheHandshake p → GoByTheHandshake q

  path_goes : (p q : PathState C) → PathStep p q → GoOn p q
  path_goes p q x h = record { a = a_steps q.clock p.a.tcp q.a.tcp x.a.subflow h.a; b = b_steps q.clock p.b.tcp q.b.tcp x.b.subflow h.b }

  goes_lasts : Lasts (λ (p q : PathState C). GoOn p q)
  goes_lasts = record {
    agenda = λ ds p h. record { a = h.a; b = h.b };
    chains = λ p q r x y h. y (x h);
    passes = λ d p. path_goes p (passed d p) (passed_steps d p);
  }

  abbrev GoingMember : Actor C → Type 0
  GoingMember = HoldsOfKind (λ app. Unit {0}) (λ (p : PathState C). GoByTheHandshake p)

  member_takes_goes : (k : Codec C) (r : Reply) (m : Actor C) → GoingMember m → GoingMember (member_takes k r m)
  member_takes_goes k r (App a) h = tt
  member_takes_goes k r (Path p) h = takes_lasts (λ p q. GoOn p q) goes_lasts k r p (λ d. path_goes p (answered k d r p) (answered_steps k d r p)) h

  member_next_goes : (m : Actor C) → GoingMember m → GoingMember (member_next m)
  member_next_goes (App a) h = tt
  member_next_goes (Path p) h = begins_lasts (λ p q. GoOn p q) goes_lasts (record p { clock = p.until; until = p.until + 100 }) (record { a = h.a; b = h.b })

  -- on each path, at every moment
  pub ends_go_by_the_handshake : (k : Codec C) → EndsGoByTheHandshake k
  ends_go_by_the_handshake k start turns = run_lifted k (λ c. GoingMember c.member)
      (λ books c x is h. member_takes_goes k (answer_to books x) c.member h) (λ stamp c over h. member_next_goes c.member h) turns (opened_world start)
      (opened_lifted (λ c. GoingMember c.member) start tt tt (λ number plan there.
      (let p : PathState C = waiting_path (path_begins start number plan) start.lines in begins_lasts (λ p q. GoOn p q) goes_lasts p (record { a = first_of_a (path_begins start number plan).joined_at; b = of_b.listening refl }))))
