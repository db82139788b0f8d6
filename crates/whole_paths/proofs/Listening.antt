-- No end waits for its tick that didn't from the beginning: B's ends listen until a SYN comes.
use Rattle.std.proofs.Common.{◌≡◌, refl, sym, ap, ◌∙◌, ℕ, ◌+◌, ◌==◌, Bool, true, false, true≢false, if◌then◌else◌, None, List}
use Rattle.stream_lanes.specs.Words.{Every}
use Rattle.subflow_send.specs.declared.record.AckKind.{AckKind}
use Rattle.subflow_send.specs.declared.record.AckKind.TheVariants.{New, Duplicate, Old, Future}
use Rattle.subflow_send.specs.Records.{SendState}
use Rattle.subflow_send.specs.Rules.{ack_kind, after_acknowledge, after_resent, sample_of}
use Rattle.subflow_tcp.specs.declared.handshake.State.{State}
use Rattle.subflow_tcp.specs.declared.handshake.State.TheVariants.{CloseWait, Closing, Established, FinWait1, FinWait2, LastAck, SynReceived}
use Rattle.subflow_tcp.specs.declared.segments.Hint.{Hint}
use Rattle.subflow_tcp.specs.declared.segments.Occasion.{Occasion}
use Rattle.subflow_tcp.specs.declared.segments.Occasion.TheVariants as to_send
use Rattle.subflow_tcp.specs.declared.verdicts.Meaning.{Meaning}
use Rattle.subflow_tcp.specs.declared.verdicts.Meaning.TheVariants as means
use Rattle.subflow_tcp.specs.Emitting.{after_sending}
use Rattle.subflow_tcp.specs.Expiring.{after_expiry, is_sixth}
use Rattle.subflow_tcp.specs.Segments.{Copy}
use Rattle.subflow_tcp.specs.State.{EndState}
use Rattle.subflow_tcp.specs.States.{after_fin_acked, after_fin_passed, after_finish, after_handshake, is_waiting}
use Rattle.subflow_tcp.specs.Taking.{after_ack_kind, after_acknowledgement, after_arrival, after_death, after_duplicate, after_established, after_heard_ack, after_hearing, after_interruption, after_occupying, after_payload, after_syn, after_syn_ack, after_taken, after_telling, is_duplicate, is_fin_acked, told_by, unkept}
use Rattle.path_core.specs.Codec.{Codec}
use Rattle.path_core.specs.Duties.{answered, passed}
use Rattle.path_core.specs.MpJoin.{syn_of_window}
use Rattle.path_core.specs.Start.{waiting_path}
use Rattle.path_core.specs.State.{PathState}
use Rattle.actor_desk.specs.declared.ask.Reply.{Reply}
use Rattle.world_laws.specs.declared.member.Member.TheVariants.{App, Path}
use Rattle.world_laws.specs.Actors.{Actor, ActorCrew, member_next, member_takes}
use Rattle.world_laws.specs.Members.{HoldsOfKind}
use Rattle.world_laws.specs.Openings.{Start, opened_world, path_begins}
use Rattle.world_laws.specs.StampedBooks.{answer_to}
use Rattle.world_laws.specs.Worlds.{Turn, world_run}
use Rattle.world_laws.proofs.Rounds.Lifting.{opened_lifted, run_lifted}
use Rattle.world_laws.proofs.Writes.Steps.{Lasts, begins_lasts, takes_lasts}
use Rattle.whole_paths.specs.EndSteps.{PathStep, SubflowStep, SubflowSteps}
use Rattle.whole_paths.specs.EndSteps.SubflowStep.{arrives, holds, owes, keeps, drops, advances, passes, forgets, pushes, finishes, sends, settles, fires, grows, begins, joins, dies}
use Rattle.whole_paths.specs.EndSteps.SubflowSteps.{none, more}
use Rattle.whole_paths.proofs.Duties.{answered_steps, passed_steps}

-- ---- a subflow

-- no step takes an end back to where it waits for its tick
record Stays (s t : EndState) : Type 0 where
  state : is_waiting t.state ≡ true → is_waiting s.state ≡ true

same : (s t : EndState) → t.state ≡ s.state → Stays s t
same s t state = record { state = λ is. ap is_waiting (sym state) ∙ is }

on : (s t u : EndState) → Stays s t → Stays t u → Stays s u
on s t u x y = record { state = λ is. x.state (y.state is) }

-- an end that is past that state
before : (s t : EndState) → is_waiting t.state ≡ false → Stays s t
before s t outside = record { state = λ is. absurd (true≢false (sym is ∙ outside)) }

either : (c : Bool) (s t u : EndState) → Stays s t → Stays s u → Stays s (if c then t else u)
either true s t u x y = x
either false s t u x y = y

fin_acked_back : (x : State) → is_waiting (after_fin_acked x) ≡ true → is_waiting x ≡ true
fin_acked_back FinWait1 is = absurd (true≢false (sym is))
fin_acked_back Closing is = absurd (true≢false (sym is))
fin_acked_back LastAck is = absurd (true≢false (sym is))
fin_acked_back _ is = is

fin_passed_back : (x : State) → is_waiting (after_fin_passed x) ≡ true → is_waiting x ≡ true
fin_passed_back Established is = absurd (true≢false (sym is))
fin_passed_back FinWait1 is = absurd (true≢false (sym is))
fin_passed_back FinWait2 is = absurd (true≢false (sym is))
fin_passed_back _ is = is

handshake_back : (x : State) → is_waiting (after_handshake x) ≡ true → is_waiting x ≡ true
handshake_back SynReceived is = absurd (true≢false (sym is))
handshake_back _ is = is

finishing_back : (x : State) → is_waiting (after_finish x) ≡ true → is_waiting x ≡ true
finishing_back Established is = absurd (true≢false (sym is))
finishing_back CloseWait is = absurd (true≢false (sym is))
finishing_back _ is = is

ack_stays : (pos now : ℕ) (s : EndState) → Stays s (after_acknowledgement pos now s)
ack_stays pos now s = on s acked (after_acknowledgement pos now s) (same s acked refl) (by (ack_kind pos s.send))
  where
    acked : EndState
    acked = record s { send = after_acknowledge pos s.send }

    new : (b : Bool) → is_waiting (if b then after_fin_acked s.state else s.state) ≡ true → is_waiting s.state ≡ true
    new true is = fin_acked_back s.state is
    new false is = is

    by : (kind : AckKind) → Stays acked (after_ack_kind kind (sample_of pos s.send) now acked)
    by (New octets) = record { state = new (is_fin_acked acked.send) }
    by Duplicate = same acked acked refl
    by Old = same acked acked refl
    by Future = same acked acked refl

heard_ack_stays : (pos : ℕ) (hint : Hint) (now : ℕ) (c : Copy) (s : EndState) → Stays s (after_heard_ack pos hint now c s)
heard_ack_stays pos hint now c s = on s acked (after_heard_ack pos hint now c s) (ack_stays pos now s) (by (is_duplicate (ack_kind pos s.send) (told_by hint c) c acked))
  where
    acked : EndState
    acked = after_acknowledgement pos now s

    by : (b : Bool) → Stays acked (after_telling (told_by hint c) (if b then after_duplicate acked else after_interruption acked))
    by true = same acked _ refl
    by false = same acked _ refl

taken_stays : (pos acknowledged : ℕ) (hint : Hint) (now : ℕ) (c : Copy) (s : EndState) → Stays s (after_taken pos acknowledged hint now c s)
taken_stays pos acknowledged hint now c s =
    let kept : EndState = after_payload pos hint c s in
    let ready : EndState = after_established (after_hearing kept) in
    let heard : EndState = after_heard_ack acknowledged hint now c ready in
    on s ready (after_occupying c heard) (record { state = handshake_back s.state })
    (on ready heard (after_occupying c heard) (heard_ack_stays acknowledged hint now c ready) (same heard _ refl))

syn_ack_stays : (acknowledged : ℕ) (hint : Hint) (now : ℕ) (c : Copy) (s : EndState) → Stays s (after_syn_ack acknowledged hint now c s)
syn_ack_stays acknowledged hint now c s =
    let ready : EndState = record (after_hearing (after_payload 1 hint c s)) { state = Established } in
    let heard : EndState = after_acknowledgement acknowledged now ready in
    on s ready (after_syn_ack acknowledged hint now c s) (before s ready refl)
    (on ready heard (after_syn_ack acknowledged hint now c s) (ack_stays acknowledged now ready) (same heard _ refl))

death_stays : (reset : Bool) (s : EndState) → Stays s (after_death reset s)
death_stays reset s = before s (after_death reset s) refl

arrival_stays : (m : Meaning) (hint : Hint) (now : ℕ) (c : Copy) (s : EndState) → Stays s (after_arrival m hint now c s)
arrival_stays means.Opens hint now c s = before s (after_syn hint c s) refl
arrival_stays (means.Accepts acknowledged) hint now c s = syn_ack_stays acknowledged hint now c s
arrival_stays means.Kills hint now c s = death_stays false s
arrival_stays (means.Taken pos acknowledged) hint now c s = taken_stays pos acknowledged hint now c s
arrival_stays _ hint now c s = same s _ refl

sending_stays : (occasion : Occasion) (now : ℕ) (s : EndState) → Stays s (after_sending occasion now s)
sending_stays to_send.SynAck now s =
    elim (s.send.una == 0) as (λ b. let send : SendState = if b then after_resent now s.send else s.send in Stays s (record (after_sending to_send.SynAck now s) { send = send }))
    [ true ↦ same s _ refl | false ↦ same s _ refl ]
sending_stays _ now s = same s _ refl

-- ---- each step, and many

step_stays : (now : ℕ) (s t : EndState) → SubflowStep now s t → Stays s t
step_stays now s t (arrives m hint c is) = arrival_stays m hint now c s
step_stays now s t (holds pos octets) = same s _ refl
step_stays now s t owes = same s _ refl
step_stays now s t keeps = same s _ refl
step_stays now s t drops = same s _ refl
step_stays now s t (advances count) = same s _ refl
step_stays now s t (passes next) = record { state = fin_passed_back s.state }
step_stays now s t (forgets pos) = same s _ refl
step_stays now s t (pushes piece mapping) = same s _ refl
step_stays now s t finishes = record { state = finishing_back s.state }
step_stays now s t (sends occasion) = sending_stays occasion now s
step_stays now s t (settles on restart) = same s _ refl
step_stays now s t fires = either (is_sixth s) s (after_death true s) (after_expiry now s) (death_stays true s) (same s _ refl)
step_stays now s t (grows growth) = same s _ refl
step_stays now s t (begins is) = before s _ refl
step_stays now s t (joins window is) = before s (after_syn (unkept None) (syn_of_window window) s) refl
step_stays now s t dies = death_stays false s

pub steps_stay : (now : ℕ) (s t : EndState) → SubflowSteps now s t → is_waiting t.state ≡ true → is_waiting s.state ≡ true
steps_stay now s t none is = is
steps_stay now s t (more u v steps step) is = steps_stay now s u steps ((step_stays now u t step).state is)

-- ---- a path

module _ {C : Type 0} where
  -- B's end doesn't wait for its tick
  abbrev pub Listens : PathState C → Type 0
  Listens p = is_waiting p.b.tcp.state ≡ false

  abbrev GoOn : PathState C → PathState C → Type 0
  GoOn p q = Listens p → Listens q

  path_listens : (p q : PathState C) → PathStep p q → GoOn p q
  path_listens p q x h = by (is_waiting q.b.tcp.state) refl
    where
      by : (b : Bool) → is_waiting q.b.tcp.state ≡ b → is_waiting q.b.tcp.state ≡ false
      by false is = is
      by true is = absurd (true≢false (sym (steps_stay q.clock p.b.tcp q.b.tcp x.b.subflow is) ∙ h))

  listens_lasts : Lasts (λ (p q : PathState C). GoOn p q)
  listens_lasts = record {
    agenda = λ ds p h. h;
    chains = λ p q r x y h. y (x h);
    passes = λ d p. path_listens p (passed d p) (passed_steps d p);
  }

  abbrev ListeningMember : Actor C → Type 0
  ListeningMember = HoldsOfKind (λ app. Unit {0}) (λ (p : PathState C). Listens p)

  member_takes_listens : (k : Codec C) (r : Reply) (m : Actor C) → ListeningMember m → ListeningMember (member_takes k r m)
  member_takes_listens k r (App a) h = tt
  member_takes_listens k r (Path p) h = takes_lasts (λ p q. GoOn p q) listens_lasts k r p (λ d. path_listens p (answered k d r p) (answered_steps k d r p)) h

  member_next_listens : (m : Actor C) → ListeningMember m → ListeningMember (member_next m)
  member_next_listens (App a) h = tt
  member_next_listens (Path p) h = begins_lasts (λ p q. GoOn p q) listens_lasts (record p { clock = p.until; until = p.until + 100 }) h

  -- on each path, at every moment
  pub each_listens : (k : Codec C) (start : Start) (turns : List Turn) → Every (λ (c : ActorCrew C). ListeningMember c.member) (world_run k turns (opened_world start)).crew
  each_listens k start turns = run_lifted k (λ c. ListeningMember c.member)
      (λ books c x is h. member_takes_listens k (answer_to books x) c.member h) (λ stamp c over h. member_next_listens c.member h) turns (opened_world start)
      (opened_lifted (λ c. ListeningMember c.member) start tt tt (λ number plan there.
      (let p : PathState C = waiting_path (path_begins start number plan) start.lines in begins_lasts (λ p q. GoOn p q) listens_lasts p refl)))
