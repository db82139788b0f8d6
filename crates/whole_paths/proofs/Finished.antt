-- An end past its FIN has pushed it: no rule but the sending of the FIN moves an end behind it, and none takes it back.
use Rattle.std.proofs.Common.{◌≡◌, refl, sym, ap, ◌∙◌, ℕ, ◌+◌, ◌==◌, ◌&&◌, nat_lt, nat_le, Bool, true, false, true≢false, if◌then◌else◌, None, Option, Some, List}
use Rattle.stream_lanes.specs.Words.{Every}
use Rattle.subflow_send.specs.declared.record.AckKind.{AckKind}
use Rattle.subflow_send.specs.declared.record.AckKind.TheVariants.{New, Duplicate, Old, Future}
use Rattle.subflow_send.specs.Records.{SendState}
use Rattle.subflow_send.specs.Rules.{ack_kind, after_acknowledge, after_resent, sample_of, uncovered}
use Rattle.subflow_tcp.specs.declared.handshake.State.{State}
use Rattle.subflow_tcp.specs.declared.handshake.State.TheVariants.{Dead, Established, FinWait1, FinWait2, Closing, LastAck, SynReceived, TimeWait}
use Rattle.subflow_tcp.specs.declared.segments.Hint.{Hint}
use Rattle.subflow_tcp.specs.declared.segments.Occasion.{Occasion}
use Rattle.subflow_tcp.specs.declared.segments.Occasion.TheVariants as to_send
use Rattle.subflow_tcp.specs.declared.verdicts.Meaning.{Meaning}
use Rattle.subflow_tcp.specs.declared.verdicts.Meaning.TheVariants as means
use Rattle.subflow_tcp.specs.Emitting.{after_sending}
use Rattle.subflow_tcp.specs.Expiring.{after_expiry, is_sixth}
use Rattle.subflow_tcp.specs.Segments.{Copy}
use Rattle.subflow_tcp.specs.State.{EndState}
use Rattle.subflow_tcp.specs.States.{after_fin_acked, after_fin_passed, after_handshake, is_behind_fin, is_dead}
use Rattle.subflow_tcp.specs.Taking.{after_ack_kind, after_acknowledgement, after_arrival, after_death, after_duplicate, after_established, after_heard_ack, after_hearing, after_interruption, after_occupying, after_payload, after_syn, after_syn_ack, after_taken, after_telling, is_duplicate, is_fin_acked, told_by, unkept}
use Rattle.path_core.specs.Codec.{Codec}
use Rattle.path_core.specs.Duties.{answered, passed}
use Rattle.path_core.specs.MpJoin.{syn_of_window}
use Rattle.path_core.specs.Start.{first_state, waiting_path}
use Rattle.path_core.specs.State.{PathState}
use Rattle.actor_desk.specs.declared.ask.Reply.{Reply}
use Rattle.world_laws.specs.declared.member.Member.TheVariants.{App, Path}
use Rattle.world_laws.specs.Actors.{Actor, ActorCrew, member_next, member_takes}
use Rattle.world_laws.specs.Members.{HoldsOfKind}
use Rattle.world_laws.specs.Openings.{PathPlan, Start, opened_world, path_begins}
use Rattle.world_laws.specs.StampedBooks.{answer_to}
use Rattle.world_laws.specs.Worlds.{Turn, world_run}
use Rattle.world_laws.proofs.Rounds.Lifting.{opened_lifted, run_lifted}
use Rattle.world_laws.proofs.Writes.Steps.{Lasts, begins_lasts, takes_lasts}
use Rattle.whole_paths.specs.EndSteps.{PathStep, SubflowStep, SubflowSteps}
use Rattle.whole_paths.specs.EndSteps.SubflowStep.{arrives, holds, owes, keeps, drops, advances, passes, forgets, pushes, finishes, sends, settles, fires, grows, begins, joins, dies}
use Rattle.whole_paths.specs.EndSteps.SubflowSteps.{none, more}
use Rattle.whole_paths.proofs.Duties.{answered_steps, passed_steps}

-- ---- a subflow

-- the FIN was sent, and the end isn't dead
abbrev pub is_ending : State → Bool
is_ending FinWait1 = true
is_ending FinWait2 = true
is_ending Closing = true
is_ending LastAck = true
is_ending TimeWait = true
is_ending _ = false

-- no step moves an end behind its FIN, and none takes that back
pub record Stays (s t : EndState) : Type 0 where
  pub state : is_ending t.state ≡ true → is_ending s.state ≡ true
  finished : s.send.finished ≡ true → t.send.finished ≡ true

same : (s t : EndState) → t.state ≡ s.state → t.send.finished ≡ s.send.finished → Stays s t
same s t state finished = record { state = λ is. ap is_ending (sym state) ∙ is; finished = λ is. finished ∙ is }

on : (s t u : EndState) → Stays s t → Stays t u → Stays s u
on s t u x y = record { state = λ is. x.state (y.state is); finished = λ is. y.finished (x.finished is) }

-- an end that isn't behind the FIN yet
before : (s t : EndState) → is_ending t.state ≡ false → (s.send.finished ≡ true → t.send.finished ≡ true) → Stays s t
before s t outside finished = record { state = λ is. absurd (true≢false (sym is ∙ outside)); finished = finished }

either : (c : Bool) (s t u : EndState) → Stays s t → Stays s u → Stays s (if c then t else u)
either true s t u x y = x
either false s t u x y = y

acknowledge_finished : (pos : ℕ) (v : SendState) → (after_acknowledge pos v).finished ≡ v.finished
acknowledge_finished pos v = elim (nat_lt v.una pos && nat_le pos v.nxt) as (λ b. (if b then record v { una = pos; records = uncovered pos v.records } else v).finished ≡ v.finished) [ true ↦ refl | false ↦ refl ]

fin_acked_back : (x : State) → is_ending (after_fin_acked x) ≡ true → is_ending x ≡ true
fin_acked_back FinWait1 is = refl
fin_acked_back Closing is = refl
fin_acked_back _ is = is

pub fin_passed_back : (x : State) → is_ending (after_fin_passed x) ≡ true → is_ending x ≡ true
fin_passed_back Established is = absurd (true≢false (sym is))
fin_passed_back FinWait1 is = refl
fin_passed_back FinWait2 is = refl
fin_passed_back _ is = is

handshake_back : (x : State) → is_ending (after_handshake x) ≡ true → is_ending x ≡ true
handshake_back SynReceived is = absurd (true≢false (sym is))
handshake_back _ is = is

ack_stays : (pos now : ℕ) (s : EndState) → Stays s (after_acknowledgement pos now s)
ack_stays pos now s = on s acked (after_acknowledgement pos now s) (same s acked refl (acknowledge_finished pos s.send)) (by (ack_kind pos s.send))
  where
    acked : EndState
    acked = record s { send = after_acknowledge pos s.send }

    new : (b : Bool) → is_ending (if b then after_fin_acked s.state else s.state) ≡ true → is_ending s.state ≡ true
    new true is = fin_acked_back s.state is
    new false is = is

    by : (kind : AckKind) → Stays acked (after_ack_kind kind (sample_of pos s.send) now acked)
    by (New octets) = record { state = new (is_fin_acked acked.send); finished = λ is. is }
    by Duplicate = same acked acked refl refl
    by Old = same acked acked refl refl
    by Future = same acked acked refl refl

heard_ack_stays : (pos : ℕ) (hint : Hint) (now : ℕ) (c : Copy) (s : EndState) → Stays s (after_heard_ack pos hint now c s)
heard_ack_stays pos hint now c s = on s acked (after_heard_ack pos hint now c s) (ack_stays pos now s) (by (is_duplicate (ack_kind pos s.send) (told_by hint c) c acked))
  where
    acked : EndState
    acked = after_acknowledgement pos now s

    by : (b : Bool) → Stays acked (after_telling (told_by hint c) (if b then after_duplicate acked else after_interruption acked))
    by true = same acked _ refl refl
    by false = same acked _ refl refl

taken_stays : (pos acknowledged : ℕ) (hint : Hint) (now : ℕ) (c : Copy) (s : EndState) → Stays s (after_taken pos acknowledged hint now c s)
taken_stays pos acknowledged hint now c s =
    let kept : EndState = after_payload pos hint c s in
    let ready : EndState = after_established (after_hearing kept) in
    let heard : EndState = after_heard_ack acknowledged hint now c ready in
    on s ready (after_occupying c heard) (record { state = handshake_back s.state; finished = λ is. is })
    (on ready heard (after_occupying c heard) (heard_ack_stays acknowledged hint now c ready) (same heard _ refl refl))

syn_ack_stays : (acknowledged : ℕ) (hint : Hint) (now : ℕ) (c : Copy) (s : EndState) → Stays s (after_syn_ack acknowledged hint now c s)
syn_ack_stays acknowledged hint now c s =
    let ready : EndState = record (after_hearing (after_payload 1 hint c s)) { state = Established } in
    let heard : EndState = after_acknowledgement acknowledged now ready in
    on s ready (after_syn_ack acknowledged hint now c s) (before s ready refl (λ is. is))
    (on ready heard (after_syn_ack acknowledged hint now c s) (ack_stays acknowledged now ready) (same heard _ refl refl))

death_stays : (reset : Bool) (s : EndState) → Stays s (after_death reset s)
death_stays reset s = before s (after_death reset s) refl (λ is. acknowledge_finished s.send.nxt s.send ∙ is)

pub arrival_stays : (m : Meaning) (hint : Hint) (now : ℕ) (c : Copy) (s : EndState) → Stays s (after_arrival m hint now c s)
arrival_stays means.Opens hint now c s = before s (after_syn hint c s) refl (λ is. is)
arrival_stays (means.Accepts acknowledged) hint now c s = syn_ack_stays acknowledged hint now c s
arrival_stays means.Kills hint now c s = death_stays false s
arrival_stays (means.Taken pos acknowledged) hint now c s = taken_stays pos acknowledged hint now c s
arrival_stays _ hint now c s = same s _ refl refl

sending_stays : (occasion : Occasion) (now : ℕ) (s : EndState) → Stays s (after_sending occasion now s)
sending_stays to_send.SynAck now s =
    elim (s.send.una == 0) as (λ b. let send : SendState = if b then after_resent now s.send else s.send in Stays s (record (after_sending to_send.SynAck now s) { send = send }))
    [ true ↦ same s _ refl refl | false ↦ same s _ refl refl ]
sending_stays _ now s = same s _ refl refl

-- ---- each step, and many

abbrev IsPushed : EndState → Type 0
IsPushed s = is_ending s.state ≡ true → s.send.finished ≡ true

pushed_on : (s t : EndState) → Stays s t → IsPushed s → IsPushed t
pushed_on s t x h is = x.finished (h (x.state is))

step_pushed : (now : ℕ) (s t : EndState) → SubflowStep now s t → IsPushed s → IsPushed t
step_pushed now s t (arrives m hint c is) = pushed_on s t (arrival_stays m hint now c s)
step_pushed now s t (holds pos octets) = pushed_on s t (same s _ refl refl)
step_pushed now s t owes = pushed_on s t (same s _ refl refl)
step_pushed now s t keeps = pushed_on s t (same s _ refl refl)
step_pushed now s t drops = pushed_on s t (same s _ refl refl)
step_pushed now s t (advances count) = pushed_on s t (same s _ refl refl)
step_pushed now s t (passes next) = pushed_on s t (record { state = fin_passed_back s.state; finished = λ is. is })
step_pushed now s t (forgets pos) = pushed_on s t (same s _ refl refl)
step_pushed now s t (pushes piece mapping) = pushed_on s t (same s _ refl refl)
step_pushed now s t finishes = λ h is. refl
step_pushed now s t (sends occasion) = pushed_on s t (sending_stays occasion now s)
step_pushed now s t (settles on restart) = pushed_on s t (same s _ refl refl)
step_pushed now s t fires = pushed_on s t (either (is_sixth s) s (after_death true s) (after_expiry now s) (death_stays true s) (same s _ refl refl))
step_pushed now s t (grows growth) = pushed_on s t (same s _ refl refl)
step_pushed now s t (begins is) = pushed_on s t (before s _ refl (λ is. is))
step_pushed now s t (joins window is) = pushed_on s t (before s (after_syn (unkept None) (syn_of_window window) s) refl (λ is. is))
step_pushed now s t dies = pushed_on s t (death_stays false s)

steps_pushed : (now : ℕ) (s t : EndState) → SubflowSteps now s t → IsPushed s → IsPushed t
steps_pushed now s t none h = h
steps_pushed now s t (more u v steps step) h = step_pushed now u t step (steps_pushed now s u steps h)

-- ---- a path

pub record ArePushed {C : Type 0} (p : PathState C) : Type 0 where
  pub a : IsPushed p.a.tcp
  pub b : IsPushed p.b.tcp

module _ {C : Type 0} where
  abbrev GoOn : PathState C → PathState C → Type 0
  GoOn p q = ArePushed p → ArePushed q

  path_pushed : (p q : PathState C) → PathStep p q → GoOn p q
  path_pushed p q x h = record { a = steps_pushed q.clock p.a.tcp q.a.tcp x.a.subflow h.a; b = steps_pushed q.clock p.b.tcp q.b.tcp x.b.subflow h.b }

  pushed_lasts : Lasts (λ (p q : PathState C). GoOn p q)
  pushed_lasts = record {
    agenda = λ ds p h. record { a = h.a; b = h.b };
    chains = λ p q r x y h. y (x h);
    passes = λ d p. path_pushed p (passed d p) (passed_steps d p);
  }

  abbrev PushedMember : Actor C → Type 0
  PushedMember = HoldsOfKind (λ app. Unit {0}) (λ (p : PathState C). ArePushed p)

  member_takes_pushed : (k : Codec C) (r : Reply) (m : Actor C) → PushedMember m → PushedMember (member_takes k r m)
  member_takes_pushed k r (App a) h = tt
  member_takes_pushed k r (Path p) h = takes_lasts (λ p q. GoOn p q) pushed_lasts k r p (λ d. path_pushed p (answered k d r p) (answered_steps k d r p)) h

  member_next_pushed : (m : Actor C) → PushedMember m → PushedMember (member_next m)
  member_next_pushed (App a) h = tt
  member_next_pushed (Path p) h = begins_lasts (λ p q. GoOn p q) pushed_lasts (record p { clock = p.until; until = p.until + 100 }) (record { a = h.a; b = h.b })

  -- on each path, at every moment
  pub each_pushed : (k : Codec C) (start : Start) (turns : List Turn) → Every (λ (c : ActorCrew C). PushedMember c.member) (world_run k turns (opened_world start)).crew
  each_pushed k start turns = run_lifted k (λ c. PushedMember c.member)
      (λ books c x is h. member_takes_pushed k (answer_to books x) c.member h) (λ stamp c over h. member_next_pushed c.member h) turns (opened_world start)
      (opened_lifted (λ c. PushedMember c.member) start tt tt (λ number plan there.
      (let p : PathState C = waiting_path (path_begins start number plan) start.lines in begins_lasts (λ p q. GoOn p q) pushed_lasts p (first number plan))))
    where
      unsent : (o : Option ℕ) → is_ending (first_state o) ≡ false
      unsent None = refl
      unsent (Some tick) = refl

      first : (number : ℕ) (plan : PathPlan) → ArePushed (waiting_path {C = C} (path_begins start number plan) start.lines)
      first number plan = record { a = λ is. absurd (true≢false (sym is ∙ unsent (path_begins start number plan).joined_at)); b = λ is. absurd (true≢false (sym is)) }

pub behind_ending : (x : State) → is_behind_fin x ≡ true → is_dead x ≡ false → is_ending x ≡ true
behind_ending FinWait1 behind living = refl
behind_ending FinWait2 behind living = refl
behind_ending Closing behind living = refl
behind_ending LastAck behind living = refl
behind_ending TimeWait behind living = refl
behind_ending Dead behind living = absurd (true≢false living)
behind_ending _ behind living = absurd (true≢false (sym behind))
