-- An acknowledgement that an end owes comes to the peer, whatever is lost.
use Rattle.std.proofs.Common.{◌≡◌, refl, sym, subst, ap, ◌∙◌, ◌⊎◌, ⊎_elim, ℕ, ◌+◌, ◌-◌, ◌^◌, ◌<◌, ◌≤◌, arith, Bool, true, false, true≢false, if◌then◌else◌, Option, Some, None, IfSome, List, [], ◌∷◌}
use Rattle.std.specs.List.{slice_get}
use Rattle.std.proofs.lemmas.Option.{same_Some}
use Rattle.path_segments.specs.Spelled.{PlainSegment}
use Rattle.sides.specs.declared.side.Side.{Side}
use Rattle.sides.specs.declared.side.Side.TheVariants.{A}
use Rattle.sides.specs.Side.{peer}
use Rattle.fallback_state.specs.declared.fall.Event.TheVariants as events
use Rattle.link_model.specs.Steps.{segments_sent, changed}
use Rattle.link_model.specs.declared.flight.Flight.{Flight}
use Rattle.subflow_send.specs.Records.{Record}
use Rattle.subflow_tcp.specs.Opening.{after_begin}
use Rattle.subflow_tcp.specs.State.{EndState}
use Rattle.subflow_tcp.specs.States.{is_waiting, is_opening, is_dead}
use Rattle.subflow_tcp.specs.declared.dues.Due.{Due}
use Rattle.subflow_tcp.specs.declared.handshake.State.{State}
use Rattle.subflow_tcp.specs.declared.handshake.State.TheVariants as phase
use Rattle.actor_desk.specs.declared.ask.Reply.{Reply}
use Rattle.actor_desk.specs.Words.{tail_of, is_nil, pick}
use Rattle.path_agenda.specs.Agenda.{leaves, resets}
use Rattle.path_agenda.specs.Words.{replaced}
use Rattle.path_agenda.specs.declared.duty.Duty.{Duty}
use Rattle.path_agenda.specs.declared.duty.Duty.TheVariants as duties
use Rattle.path_agenda.specs.declared.duty.AskDuty.TheVariants as ask_duties
use Rattle.path_agenda.specs.declared.duty.SendDuty.{SendDuty}
use Rattle.path_agenda.specs.declared.duty.SendDuty.TheVariants as send_duties
use Rattle.path_agenda.specs.declared.duty.SilentDuty.TheVariants as silent_duties
use Rattle.path_agenda.specs.declared.duty.StepDuty.TheVariants as step_duties
use Rattle.path_agenda.specs.declared.heard.Heard.{Heard}
use Rattle.path_agenda.specs.declared.heard.Heard.TheVariants as says
use Rattle.path_agenda.specs.declared.keys.KeyPair.{KeyPair}
use Rattle.path_core.specs.Breaking.{reset_on, answered_break}
use Rattle.path_core.specs.Codec.{Codec}
use Rattle.path_core.specs.Deliver.{after_pieces}
use Rattle.path_core.specs.DssIn.{is_clash, with_learned}
use Rattle.path_core.specs.Duties.{passed, answered}
use Rattle.path_core.specs.Emission.{grant_in, first_unsent, answered_data, answered_grant}
use Rattle.path_core.specs.End.{PathEnd, died}
use Rattle.path_core.specs.Fallback.{breaks_by_ack, after_fell, fell_duties, with_plain_ack, after_infinite}
use Rattle.path_core.specs.Handover.{handed}
use Rattle.path_core.specs.Looking.{first_sends, duty_sends, segment_sent, send_of, unsent_sends}
use Rattle.path_core.specs.MpJoin.{is_never, never_joined, keys_begun, opened_by, with_keys}
use Rattle.path_core.specs.Profile.{Profile}
use Rattle.path_core.specs.Standing.{answered_ack_out, after_ack_out}
use Rattle.path_core.specs.Shown.{AltersNothing}
use Rattle.path_core.specs.State.{PathState, end_at, goes_on, with_agenda}
use Rattle.path_core.specs.Steps.{settled, takes, next_round}
use Rattle.path_core.specs.Treating.{item_of, item_passed, answered_item, answered_heard}
use Rattle.world_laws.specs.declared.member.Member.TheVariants.{App, Path}
use Rattle.world_laws.specs.Actors.{Actor, ActorCrew, member_takes, member_next, is_over}
use Rattle.world_laws.specs.Members.{HoldsOfKind}
use Rattle.world_laws.specs.NeverFalls.{StripsNothing}
use Rattle.world_laws.specs.StampedBooks.{answer_to}
use Rattle.world_laws.specs.Worlds.{WorldState, Turn, after_turn}
use Rattle.world_laws.specs.Writes.{EndWrites, EndView, Writes, PathView, Only, OnlyAt, nothing, writes, side_of}
use Rattle.world_laws.proofs.Falls.FailedChecks.{infinite_came_so, fail_answered_so}
use Rattle.world_laws.proofs.Writes.Paths.{writes_no_more, passes_no_more}
use Rattle.world_laws.proofs.Writes.Steps.{Lasts, settled_lasts, begins_lasts, unwritten}
use Rattle.whole_paths.specs.AgendaSteps.{is_gone}
use Rattle.whole_paths.specs.Answered.{CopiesAreAnswered, HasAnswered, IsDone}
use Rattle.whole_paths.specs.Answered.{IsDone as idle_by}
use Rattle.whole_paths.specs.AsFar.{stage}
use Rattle.whole_paths.specs.Copies.{IsUnderWay, GoesOnItsWay, CopiesGoOn, CopiesAreNumbered, LinksAreNumbered}
use Rattle.whole_paths.specs.Copies.{GoesOnItsWay as copy}
use Rattle.whole_paths.specs.Mending.{IsSentSoon}
use Rattle.whole_paths.specs.Owed.{Covers, IsAnswer, IsAnswered, IsAnsweredSo, AnswerComesSo, AnswerGoesOn, AnswersGoOn, IsToRefuse, WhatIsOwedComes}
use Rattle.whole_paths.specs.Owed.IsAnswered.{owes, flies}
use Rattle.whole_paths.specs.Owed.{AnswerGoesOn as goes}
use Rattle.whole_paths.specs.Owed.{IsToRefuse as refuse}
use Rattle.whole_paths.specs.Saying.{SaysWhatCame, HandsOver, PathsHandOver}
use Rattle.whole_paths.proofs.Agendas.{own_end}
use Rattle.whole_paths.proofs.Copies.{copies_leave}
use Rattle.whole_paths.proofs.Duties.{passed_steps, answered_steps}
use Rattle.whole_paths.proofs.Flying.{Frames, FramesStay, frames_stay}
use Rattle.whole_paths.proofs.Moving.{item_tcp}
use Rattle.whole_paths.proofs.InTime.{is_event}
use Rattle.whole_paths.proofs.Pieces.{own_only}
use Rattle.whole_paths.proofs.Saying.{AllSpeak, Speaks, ToSend, duty_speaks, each_segment_says_what_came, resets_by}
use Rattle.whole_paths.proofs.Saying.{Speaks as spoken}
use Rattle.whole_paths.proofs.SentSoon.{segments_come_soon}
use Rattle.whole_paths.proofs.Settling.{sides}
use Rattle.whole_paths.proofs.Turns.{turn_each}
use Rattle.whole_paths.proofs.Waiting.{Far, same_far, far_then, gone_stays, path_far}

-- ---- what a duty makes of what an end owes

-- an acknowledgement that is owed still is, or the end is dead
pub data Owed (e f : PathEnd) : Type 0 where
  still : (e.tcp.due.ack ≡ true → f.tcp.due.ack ≡ true) → Owed e f
  dies_now : is_gone f ≡ true → Owed e f

same_due : (e f : PathEnd) → f.tcp.due ≡ e.tcp.due → Owed e f
same_due e f is = still (λ h. ap (λ (d : Due). d.ack) is ∙ h)

only_owed : (w : EndWrites) (e f : PathEnd) → w.due ≡ false → Only w e f → Owed e f
only_owed w e f due x = same_due e f (unwritten w.due e.tcp.due f.tcp.due due (ap (λ (v : EndView). v.due) x.same))

here : (s : Side) (e f a b : PathEnd) → Owed e f → Owed e (pick s (pick s f a) (pick s b f))
here s e f a b x = subst (λ g. Owed e g) (sym (own_end s f a b)) x

calm : (s : Side) (e f a b : PathEnd) → f.tcp.due ≡ e.tcp.due → Owed e (pick s (pick s f a) (pick s b f))
calm s e f a b is = here s e f a b (same_due e f is)

-- what a duty is to send is its side's
pub sends_own : (d : SendDuty) → (t : ToSend) × ((send_of d ≡ Some t) × (t.from ≡ side_of (duties.Send d)))
sends_own (send_duties.Update s) = (_, (refl, refl))
sends_own d = (_, (refl, refl))

opened_owed : (keys : Option KeyPair) (e : PathEnd) → Owed e (opened_by keys e)
opened_owed None e = same_due e e refl
opened_owed (Some keys) e = elim (is_waiting e.tcp.state) as (λ b. Owed e (record e { tcp = if b then after_begin e.tcp else e.tcp; modes = with_keys keys e.modes }))
    [ true ↦ same_due e _ refl | false ↦ same_due e _ refl ]

-- a segment goes by the duty, and its end goes on
abbrev pub sends_on : Duty → Bool
sends_on (duties.Step (step_duties.Data s)) = true
sends_on (duties.Send (send_duties.BreakReset s reason)) = false
sends_on (duties.Send (send_duties.Reset s)) = false
sends_on (duties.Send (send_duties.ResetNoted s)) = false
sends_on (duties.Send d) = true
sends_on _ = false

-- such a duty by which a reset may go
pub refusing : (d : Duty) (s : Side) (others ds : List Duty) → sends_on d ≡ true → resets_by d ≡ true → side_of d ≡ s → ds ≡ d ∷ others → IsToRefuse s ds
refusing (duties.Send (send_duties.Refuse t)) s others ds sends may own is = refuse.refuses others (subst (λ u. ds ≡ duties.Send (send_duties.Refuse u) ∷ others) own is)
refusing (duties.Send (send_duties.ResetAnswer t)) s others ds sends may own is = refuse.answers others (subst (λ u. ds ≡ duties.Send (send_duties.ResetAnswer u) ∷ others) own is)
refusing (duties.Send (send_duties.BreakReset t reason)) s others ds sends may own is = absurd (true≢false (sym sends))
refusing (duties.Send (send_duties.Reset t)) s others ds sends may own is = absurd (true≢false (sym sends))
refusing (duties.Send (send_duties.ResetNoted t)) s others ds sends may own is = absurd (true≢false (sym sends))
refusing (duties.Step (step_duties.Heard t index)) s others ds sends may own is = absurd (true≢false (sym sends))
refusing (duties.Step (step_duties.PlainAck t)) s others ds sends may own is = absurd (true≢false (sym sends))
refusing (duties.Step (step_duties.Unmapped t)) s others ds sends may own is = absurd (true≢false (sym sends))
refusing _ s others ds sends may own is = absurd (true≢false (sym may))

-- unless the duty is to send a segment of this side
pub data Pays (d : Duty) (o : Option ToSend) (s : Side) (e f : PathEnd) : Type 0 where
  owed : Owed e f → Pays d o s e f
  paid : (t : ToSend) → o ≡ Some t → t.from ≡ s → sends_on d ≡ true → side_of d ≡ s → Pays d o s e f

-- both SYNs came
pub past_opening : (state : State) → 2 ≤ stage state → is_opening state ≡ true → ⊥
past_opening phase.SynSent high is = absurd (omega (arith, high))
past_opening _ high is = true≢false (sym is)

module _ {C : Type 0} where
  break_owed : (k : Codec C) (s : Side) (reason : ℕ) (r : Reply) (p : PathState C) → Owed (end_at s p) (end_at s (answered_break k s reason r p))
  break_owed k s reason r p = elim (end_at s p).treated.asked as
      (λ b. Owed (end_at s p) (end_at s (if b then answered_ack_out s r (resets s reason) p else reset_on k s (Some reason) (leaves s) p)))
      [ true ↦ calm s (end_at s p) (after_ack_out r (end_at s p)) p.a p.b refl | false ↦ here s (end_at s p) (died (end_at s p)) p.a p.b (dies_now refl) ]

  thing_owed : (k : Codec C) (s : Side) (item : Heard) (r : Reply) (p : PathState C) → Owed (end_at s p) (end_at s (answered_heard k s item r p))
  thing_owed k s (says.DataAck next window) r p = calm s (end_at s p) _ p.a p.b refl
  thing_owed k s (says.Mapping fin) r p = elim (is_clash (end_at s p)) as
      (λ b. Owed (end_at s p) (end_at s (if b then answered_break k s 1 r p else goes_on s (with_learned (after_fell events.MappingHeard r (end_at s p))) (fell_duties s r p) p)))
      [ true ↦ break_owed k s 1 r p | false ↦ calm s (end_at s p) (with_learned (after_fell events.MappingHeard r (end_at s p))) p.a p.b refl ]
  thing_owed k s (says.DataFin place) r p = calm s (end_at s p) _ p.a p.b refl
  thing_owed k s (says.InfiniteMapping place position) r p =
      let e = end_at s p in here s e (after_infinite place position r e) p.a p.b (infinite_came_so (λ f. Owed e f) place position r e (λ other. same_due e _ refl))
  thing_owed k s (says.Keys own other) r p = calm s (end_at s p) _ p.a p.b refl
  thing_owed k s (says.Notice notice) r p = calm s (end_at s p) _ p.a p.b refl
  thing_owed k s says.Fail r p = fail_answered_so (λ q. Owed (end_at s p) (end_at s q)) s r p (calm s (end_at s p) _ p.a p.b refl) (calm s (end_at s p) _ p.a p.b refl)
  thing_owed k s _ r p = same_due (end_at s p) (end_at s p) refl

  things_owed : (k : Codec C) (s : Side) (item : Option Heard) (r : Reply) (p : PathState C) → Owed (end_at s p) (end_at s (answered_item k s item r p))
  things_owed k s None r p = same_due (end_at s p) (end_at s p) refl
  things_owed k s (Some item) r p = thing_owed k s item r p

  data_pays : (k : Codec C) (s : Side) (o : Option Record) (r : Reply) (p : PathState C) → Pays (duties.Step (step_duties.Data s)) (unsent_sends s o) s (end_at s p) (end_at s (answered_data k s o r p))
  data_pays k s (Some unsent) r p = paid _ refl refl refl refl
  data_pays k s None r p = elim (grant_in r) as (λ o. Pays (duties.Step (step_duties.Data s)) None s (end_at s p) (end_at s (answered_grant s o r p)))
      [ Some grant ↦ owed (calm s (end_at s p) _ p.a p.b refl) | None ↦ owed (calm s (end_at s p) _ p.a p.b refl) ]

  own_pays : (k : Codec C) (d : Duty) (r : Reply) (p : PathState C) → is_event d ≡ false → Pays d (duty_sends d p) (side_of d) (end_at (side_of d) p) (end_at (side_of d) (answered k d r p))
  own_pays k (duties.Step step_duties.Events) r p other = absurd (true≢false other)
  own_pays k (duties.Ask ask_duties.JoinAgain) r p other = owed (elim (is_never r) as
      (λ b. Owed p.a (if b then goes_on A (never_joined r p.a) (replaced (duties.Ask (ask_duties.Leave A)) p.agenda) p else goes_on A (opened_by (keys_begun r) p.a) (tail_of p.agenda) p).a)
      [ true ↦ dies_now refl | false ↦ opened_owed (keys_begun r) p.a ])
  own_pays k (duties.Ask (ask_duties.LeaveNoted s)) r p other = owed (here s (end_at s p) (died (end_at s p)) p.a p.b (dies_now refl))
  own_pays k (duties.Step (step_duties.Data s)) r p other = data_pays k s (first_unsent (end_at s p)) r p
  own_pays k (duties.Step (step_duties.Heard s index)) r p other = owed (things_owed k s (item_of index (end_at s p)) r p)
  own_pays k (duties.Step (step_duties.PlainAck s)) r p other = owed (elim (breaks_by_ack p.profile (end_at s p)) as
      (λ b. Owed (end_at s p) (end_at s (if b then answered_break k s 6 r p else goes_on s (with_plain_ack (after_fell events.PlainAck r (end_at s p))) (fell_duties s r p) p)))
      [ true ↦ break_owed k s 6 r p | false ↦ calm s (end_at s p) (with_plain_ack (after_fell events.PlainAck r (end_at s p))) p.a p.b refl ])
  own_pays k (duties.Step (step_duties.Unmapped s)) r p other = owed (break_owed k s 6 r p)
  own_pays k (duties.Send (send_duties.BreakReset s reason)) r p other = owed (here s (end_at s p) (died (end_at s p)) p.a p.b (dies_now refl))
  own_pays k (duties.Send (send_duties.Reset s)) r p other = owed (here s (end_at s p) (died (end_at s p)) p.a p.b (dies_now refl))
  own_pays k (duties.Send (send_duties.ResetNoted s)) r p other = owed (here s (end_at s p) (died (end_at s p)) p.a p.b (dies_now refl))
  own_pays k (duties.Send d) r p other = let x = sends_own d in paid x.0 x.1.0 x.1.1 refl refl
  own_pays k (duties.Silent d) r p other = owed (same_due (end_at (side_of (duties.Silent d)) p) (end_at (side_of (duties.Silent d)) p) refl)
  own_pays k d r p other = owed (only_owed (writes d).own _ _ refl (own_only (side_of d) (writes d) p _ (writes_no_more k d r p)))

  other_due : (s : Side) (w : Writes) (p q : PathState C) → w.other ≡ nothing → OnlyAt s w p q → (end_at (peer s) q).tcp.due ≡ (end_at (peer s) p).tcp.due
  other_due s w p q none x =
      let only : Only nothing (end_at (peer s) p) (end_at (peer s) q) = subst (λ v. Only v (end_at (peer s) p) (end_at (peer s) q)) none (record { same = ap (λ (v : PathView C). v.other) x.same }) in
      unwritten false (end_at (peer s) p).tcp.due (end_at (peer s) q).tcp.due refl (ap (λ (v : EndView). v.due) only.same)

  answered_other_due : (k : Codec C) (d : Duty) (r : Reply) (p : PathState C) → is_event d ≡ false → (end_at (peer (side_of d)) (answered k d r p)).tcp.due ≡ (end_at (peer (side_of d)) p).tcp.due
  answered_other_due k (duties.Step step_duties.Events) r p other = absurd (true≢false other)
  answered_other_due k d r p other = other_due (side_of d) (writes d) p _ refl (writes_no_more k d r p)

  pub answered_pays : (k : Codec C) (s : Side) (d : Duty) (r : Reply) (p : PathState C) → is_event d ≡ false → Pays d (duty_sends d p) s (end_at s p) (end_at s (answered k d r p))
  answered_pays k s d r p other =
      let q = answered k d r p in
      ⊎_elim
      (λ own. subst (λ t. Pays d (duty_sends d p) t (end_at t p) (end_at t q)) own (own_pays k d r p other))
      (λ away. subst (λ t. Pays d (duty_sends d p) t (end_at t p) (end_at t q)) away (owed (same_due (end_at (peer (side_of d)) p) (end_at (peer (side_of d)) q) (answered_other_due k d r p other))))
      (sides s (side_of d))

  -- a duty that is passed leaves it
  unwritten_due : (d : Duty) (p : PathState C) → (writes d).own.due ≡ false → (end_at (side_of d) (passed d p)).tcp.due ≡ (end_at (side_of d) p).tcp.due
  unwritten_due d p is = unwritten (writes d).own.due (end_at (side_of d) p).tcp.due (end_at (side_of d) (passed d p)).tcp.due is
      (ap (λ (v : EndView). v.due) (own_only (side_of d) (writes d) p (passed d p) (passes_no_more d p)).same)

  own_due : (d : Duty) (p : PathState C) → (end_at (side_of d) (passed d p)).tcp.due ≡ (end_at (side_of d) p).tcp.due
  own_due (duties.Ask ask_duties.JoinAgain) p = refl
  own_due (duties.Ask (ask_duties.LeaveNoted s)) p = refl
  own_due (duties.Step (step_duties.Heard s index)) p =
      let e = end_at s p in ap (λ (f : PathEnd). f.tcp.due) (own_end s (item_passed s (item_of index e) e) p.a p.b) ∙ ap (λ (t : EndState). t.due) (item_tcp s (item_of index e) e)
  own_due (duties.Step (step_duties.PlainAck s)) p = ap (λ (f : PathEnd). f.tcp.due) (own_end s (with_plain_ack (end_at s p)) p.a p.b)
  own_due (duties.Step (step_duties.Unmapped s)) p = ap (λ (f : PathEnd). f.tcp.due) (own_end s (after_pieces (end_at s p)) p.a p.b)
  own_due (duties.Step d) p = refl
  own_due (duties.Send d) p = refl
  own_due (duties.Silent (silent_duties.Timer s)) p = unwritten_due (duties.Silent (silent_duties.Timer s)) p refl
  own_due (duties.Silent (silent_duties.Keep s)) p = unwritten_due (duties.Silent (silent_duties.Keep s)) p refl
  own_due (duties.Silent (silent_duties.PassFin s)) p = unwritten_due (duties.Silent (silent_duties.PassFin s)) p refl
  own_due d p = unwritten_due d p refl

  passed_other_due : (d : Duty) (p : PathState C) → (end_at (peer (side_of d)) (passed d p)).tcp.due ≡ (end_at (peer (side_of d)) p).tcp.due
  passed_other_due (duties.Step step_duties.Events) p = refl
  passed_other_due d p = other_due (side_of d) (writes d) p _ refl (passes_no_more d p)

  pub passed_due : (s : Side) (d : Duty) (p : PathState C) → (end_at s (passed d p)).tcp.due ≡ (end_at s p).tcp.due
  passed_due s d p = ⊎_elim
      (λ own. subst (λ t. (end_at t (passed d p)).tcp.due ≡ (end_at t p).tcp.due) own (own_due d p))
      (λ away. subst (λ t. (end_at t (passed d p)).tcp.due ≡ (end_at t p).tcp.due) away (passed_other_due d p))
      (sides s (side_of d))

  -- ---- a path

  abbrev SameDue : PathState C → PathState C → Type 0
  SameDue p q = (s : Side) → (end_at s q).tcp.due ≡ (end_at s p).tcp.due

  due_lasts : Lasts SameDue
  due_lasts = record { agenda = λ ds p s. refl; chains = λ p q r x y s. y s ∙ x s; passes = λ d p s. passed_due s d p }

  pub settled_due : (ds : List Duty) (p : PathState C) → SameDue p (settled ds p)
  settled_due ds p = settled_lasts SameDue due_lasts ds p

  abbrev AllFar : PathState C → PathState C → Type 0
  AllFar p q = (s : Side) → Far (end_at s p) (end_at s q)

  far_lasts : Lasts AllFar
  far_lasts = record {
    agenda = λ ds p s. same_far (end_at s p);
    chains = λ p q r x y s. far_then (end_at s p) (end_at s q) (end_at s r) (x s) (y s);
    passes = λ d p s. path_far p (passed d p) (passed_steps d p) s;
  }

  -- what becomes of what an end owes by its duties, unless it sends, or nothing is owed
  pub data StillOwed (s : Side) (p q : PathState C) : Type 0 where
    keeps : (d : Duty) (others : List Duty) → p.agenda ≡ d ∷ others → is_event d ≡ false → ((end_at s p).tcp.due.ack ≡ true → (end_at s q).tcp.due.ack ≡ true) → StillOwed s p q
    has_died : is_gone (end_at s q) ≡ true → StillOwed s p q
    is_sent : (d : Duty) (others : List Duty) → p.agenda ≡ d ∷ others → sends_on d ≡ true → side_of d ≡ s → (t : ToSend) → first_sends p.agenda p ≡ Some t → t.from ≡ s → StillOwed s p q
    is_done : IsDone p → StillOwed s p q
    rests : q ≡ p → StillOwed s p q

  -- with how far its ends are
  pub record Turned (p q : PathState C) : Type 0 where
    pub far : AllFar p q
    pub owing : (s : Side) → StillOwed s p q

  pub settled_far : (k : Codec C) (d : Duty) (ds : List Duty) (r : Reply) (p : PathState C) (s : Side) → let q : PathState C = answered k d r (with_agenda (d ∷ ds) p) in
      Far (end_at s q) (end_at s (takes k r (with_agenda (d ∷ ds) p)))
  settled_far k d ds r p s = let q : PathState C = answered k d r (with_agenda (d ∷ ds) p) in settled_lasts AllFar far_lasts q.agenda q s

  pays_so : (k : Codec C) (s : Side) (d : Duty) (ds : List Duty) (r : Reply) (p : PathState C) → is_event d ≡ false → let x : PathState C = with_agenda (d ∷ ds) p in
      Pays d (duty_sends d x) s (end_at s x) (end_at s (answered k d r x)) → StillOwed s x (takes k r x)
  pays_so k s d ds r p other (owed (still h)) =
      let q : PathState C = answered k d r (with_agenda (d ∷ ds) p) in keeps d ds refl other (λ due. ap (λ (d : Due). d.ack) (settled_lasts SameDue due_lasts q.agenda q s) ∙ h due)
  pays_so k s d ds r p other (owed (dies_now gone)) =
      has_died (gone_stays (end_at s (answered k d r (with_agenda (d ∷ ds) p))) (end_at s (takes k r (with_agenda (d ∷ ds) p))) (settled_far k d ds r p s) gone)
  pays_so k s d ds r p other (paid t sends own on side) = is_sent d ds refl on side t sends own

  duty_owing : (k : Codec C) (s : Side) (d : Duty) (ds : List Duty) (r : Reply) (p : PathState C) → let x : PathState C = with_agenda (d ∷ ds) p in StillOwed s x (takes k r x)
  duty_owing k s (duties.Step step_duties.Events) ds r p = is_done (idle_by.next ds refl)
  duty_owing k s d ds r p = pays_so k s d ds r p refl (answered_pays k s d r (with_agenda (d ∷ ds) p) refl)

  pub takes_turned : (k : Codec C) (r : Reply) (p : PathState C) → Turned p (takes k r p)
  takes_turned k r p = by p.agenda
    where
      by : (ds : List Duty) → let x : PathState C = with_agenda ds p in Turned x (takes k r x)
      by [] = record { far = λ s. same_far (end_at s p); owing = λ s. is_done (idle_by.over refl) }
      by (d ∷ ds) =
          let x : PathState C = with_agenda (d ∷ ds) p in let q : PathState C = answered k d r x in record {
            far = λ s. far_then (end_at s x) (end_at s q) (end_at s (takes k r x)) (path_far x q (answered_steps k d r x) s) (settled_far k d ds r p s);
            owing = λ s. duty_owing k s d ds r p;
          }

  next_turned : (p : PathState C) → is_nil p.agenda ≡ true → Turned p (next_round p)
  next_turned p over = record { far = begins_lasts AllFar far_lasts (record p { clock = p.until; until = p.until + 100 }); owing = λ s. is_done (idle_by.over (nil_so p.agenda over)) }
    where
      nil_so : (ds : List Duty) → is_nil ds ≡ true → ds ≡ []
      nil_so [] is = refl
      nil_so (d ∷ ds) is = absurd (true≢false (sym is))

  -- ---- one turn of a path

  module _ (k : Codec C) (s : Side) (position by_then : ℕ) (p q : PathState C) (turned : Turned p q) (frames : Frames p q) (numbered : CopiesAreNumbered p) (Was : PlainSegment → Type 0)
      (was : (t : ToSend) → first_sends p.agenda p ≡ Some t → t.from ≡ s → (end_at s p).tcp.due.ack ≡ true → (segment_sent p t).rst ≡ false → Was (segment_sent p t)) where
    abbrev Next : Type 0
    Next = (go : AnswerGoesOn k s position by_then p q) × AnswerComesSo Was go

    same_on : q ≡ p → (h : IsAnswered k s position by_then p) → IsAnsweredSo Was h → Next
    same_on same h so = let there = subst (λ v. (w : IsAnswered k s position by_then v) × IsAnsweredSo Was w) (sym same) (h, so) in (goes.on there.0, there.1)

    flown : (x : PlainSegment) → Covers position x → Was x → q.link ≡ handed k s x p → p.clock + 400 ≤ by_then → segments_sent s p.link < 2 ^ 64 - 1 → Next
    flown x covers so taken low few = ⊎_elim (λ harmed. (goes.harmed harmed, tt)) by (segments_come_soon k p q numbered s x few taken)
      where
        by : IsSentSoon k s x p q → Next
        by c = (
          goes.on (flies c.copy (let soon = c.soon in omega (arith, soon, low)) c.there (record {
            to = c.to;
            segment = x;
            covers = covers;
            stripped = c.stripped;
            altered = c.altered;
            whole = λ strips. c.whole (subst StripsNothing frames.lines strips);
            plain = λ alters. c.plain (subst AltersNothing frames.lines alters);
            carried = subst (λ (y : Profile). c.copy.carried ≡ changed (k.strips y.spelling s) (k.alters y.spelling s) c.stripped c.altered (k.makes y.spelling s x)) (sym frames.profile) c.carried;
          })),
          so,
        )

    -- the segment that it sends says what came
    says_so : (x : PlainSegment) → Speaks (end_at s p) x → (x.rst ≡ false → Was x) → q.link ≡ handed k s x p → p.clock + 400 ≤ by_then → 2 ≤ stage (end_at s p).tcp.state
        → position ≤ (end_at s p).tcp.recv.edge → segments_sent s p.link < 2 ^ 64 - 1 → Next
    says_so x (spoken.acks is rst) so taken low high came few = flown x (record { up_to = (end_at s p).tcp.recv.edge; acknowledged = is; enough = came; rst = rst }) (so rst) taken low few
    says_so x (spoken.syns state none) so taken low high came few = absurd (past_opening (end_at s p).tcp.state high state)

    -- unless it is a reset
    speaks_so : (d : Duty) (others : List Duty) → p.agenda ≡ d ∷ others → sends_on d ≡ true → side_of d ≡ s → (t : ToSend) → first_sends p.agenda p ≡ Some t → t.from ≡ s
        → (Speaks (end_at s p) (segment_sent p t) → Next) → Next
    speaks_so d others first on side t sends own then_goes = by (resets_by d) refl
      where
        by : (b : Bool) → resets_by d ≡ b → Next
        by true may = (goes.resets (refusing d s others p.agenda on may side first), tt)
        by false none = then_goes (subst (λ u. Speaks (end_at u p) (segment_sent p t)) own (subst (λ (o : Option ToSend). AllSpeak o p) (sym (ap (λ ds. first_sends ds p) first) ∙ sends) (duty_speaks d p none)))

    owes_goes : StillOwed s p q → HandsOver k p q → HasAnswered p → p.clock + 400 ≤ by_then → 2 ≤ stage (end_at s p).tcp.state → position ≤ (end_at s p).tcp.recv.edge
        → (end_at s p).tcp.due.ack ≡ true → segments_sent s p.link < 2 ^ 64 - 1 → Next
    owes_goes (keeps d others first other h) hands answered low high came due few =
        let clock = frames.stands d others first other in
        let up = (turned.far s).subflow.state in let edge = (turned.far s).subflow.received in
        (goes.on (owes (omega (arith, clock, low)) (omega (arith, high, up)) (omega (arith, came, edge)) (h due)), tt)
    owes_goes (has_died gone) hands answered low high came due few = (goes.gone gone, tt)
    owes_goes (is_sent d others first on side t sends own) hands answered low high came due few = ⊎_elim
        (λ same. same_on same (owes low high came due) tt)
        (λ taken. speaks_so d others first on side t sends own (λ speaks. says_so (segment_sent p t) speaks (λ unreset. was t sends own due unreset)
        (subst (λ u. q.link ≡ handed k u (segment_sent p t) p) own taken.0) low high came few))
        (subst (λ (o : Option ToSend). IfSome o (λ t. (q ≡ p) ⊎ ((q.link ≡ handed k t.from (segment_sent p t) p) × SaysWhatCame (end_at t.from p) (segment_sent p t)))) sends hands.sends)
    owes_goes (rests same) hands answered low high came due few = same_on same (owes low high came due) tt
    owes_goes (is_done is) hands answered low high came due few = by (is_dead (end_at s p).tcp.state) refl
      where
        by : (b : Bool) → is_dead (end_at s p).tcp.state ≡ b → Next
        by true dead = (goes.gone (gone_stays (end_at s p) (end_at s q) (turned.far s) dead), tt)
        by false living = absurd (true≢false (sym due ∙ (answered is s living).ack))

    flies_goes : (f : Flight C) → f.tick ≤ by_then → IsUnderWay f p → (h : IsAnswer k s position p f) → Was h.segment → GoesOnItsWay f p q → Next
    flies_goes f low before h so (copy.on there) = (
      goes.on (flies f low there (record {
        to = h.to;
        segment = h.segment;
        covers = h.covers;
        stripped = h.stripped;
        altered = h.altered;
        whole = λ strips. h.whole (subst StripsNothing frames.lines strips);
        plain = λ alters. h.plain (subst AltersNothing frames.lines alters);
        carried = subst (λ (c : Profile). f.carried ≡ changed (k.strips c.spelling s) (k.alters c.spelling s) h.stripped h.altered (k.makes c.spelling s h.segment)) (sym frames.profile) h.carried;
      })),
      so,
    )
    flies_goes f low before h so (copy.arrives others first next) = (goes.arrives f low before h others first next, so)
    flies_goes f low before h so (copy.dies line next is dead) = (goes.dies line next is dead, tt)

    goes_by : HandsOver k p q → CopiesGoOn (Path p) (Path q) → HasAnswered p → segments_sent s p.link < 2 ^ 64 - 1 → (h : IsAnswered k s position by_then p) → IsAnsweredSo Was h → Next
    goes_by hands copies answered few (owes low high came due) so = owes_goes (turned.owing s) hands answered low high came due few
    goes_by hands copies answered few (flies f low there h) so = flies_goes f low there h so (copies f there)

  -- ---- the world

  abbrev pub TurnedTo : Actor C → Actor C → Type 0
  TurnedTo (Path p) (Path q) = Turned p q
  TurnedTo (App a) (App b) = Unit {0}
  TurnedTo _ _ = ⊥

  member_turned : (k : Codec C) (r : Reply) (m : Actor C) → TurnedTo m (member_takes k r m)
  member_turned k r (App a) = tt
  member_turned k r (Path p) = takes_turned k r p

  member_begins : (m : Actor C) → is_over m ≡ true → TurnedTo m (member_next m)
  member_begins (App a) over = tt
  member_begins (Path p) over = next_turned p over

  member_stays : (m : Actor C) → TurnedTo m m
  member_stays (App a) = tt
  member_stays (Path p) = record { far = λ s. same_far (end_at s p); owing = λ s. rests refl }

  -- what becomes of an answer, with what holds of the segments that go while one is owed
  abbrev pub GoesSo : (PlainSegment → Type 0) → Side → PathState C → Type 0
  GoesSo Was s p = (t : ToSend) → first_sends p.agenda p ≡ Some t → t.from ≡ s → (end_at s p).tcp.due.ack ≡ true → (segment_sent p t).rst ≡ false → Was (segment_sent p t)

  abbrev pub AnswersComeSo : (PlainSegment → Type 0) → Codec C → Actor C → Actor C → Type 0
  AnswersComeSo Was k (Path p) (Path q) = (s : Side) (position by_then : ℕ) → segments_sent s p.link < 2 ^ 64 - 1
      → GoesSo Was s p → (h : IsAnswered k s position by_then p) → IsAnsweredSo Was h → (go : AnswerGoesOn k s position by_then p q) × AnswerComesSo Was go
  AnswersComeSo Was k (App a) (App b) = Unit {0}
  AnswersComeSo Was k _ _ = ⊥

  answers_come : (Was : PlainSegment → Type 0) (k : Codec C) (m n : Actor C) → TurnedTo m n → FramesStay m n → PathsHandOver k m n → CopiesGoOn m n → HoldsOfKind (λ app. Unit {0}) HasAnswered m
      → HoldsOfKind (λ app. Unit {0}) (λ (p : PathState C). CopiesAreNumbered p) m → AnswersComeSo Was k m n
  answers_come Was k (App a) (App b) turned frames hands copies answered numbered = tt
  answers_come Was k (Path p) (Path q) turned frames hands copies answered numbered = λ s position by_then few was h so. goes_by k s position by_then p q turned frames numbered Was was hands copies answered few h so
  answers_come Was k (App a) (Path q) turned frames hands copies answered numbered = absurd turned
  answers_come Was k (Path p) (App b) turned frames hands copies answered numbered = absurd turned

  -- whatever the segments are
  any_answer : {s : Side} {position n : ℕ} {p : PathState C} (k : Codec C) (h : IsAnswered k s position n p) → IsAnsweredSo (λ x. Unit {0}) h
  any_answer k (owes low high came due) = tt
  any_answer k (flies f low there h) = tt

  whatever_goes : (k : Codec C) (m n : Actor C) → AnswersComeSo (λ x. Unit {0}) k m n → AnswersGoOn k m n
  whatever_goes k (App a) (App b) h = tt
  whatever_goes k (Path p) (Path q) h = λ s position by_then few way. (h s position by_then few (λ t sends own due unreset. tt) way (any_answer k way)).0
  whatever_goes k (App a) (Path q) h = absurd h
  whatever_goes k (Path p) (App b) h = absurd h

  pub turned_to : (k : Codec C) (w : WorldState C) (turn : Turn) (actor : ℕ) (c : ActorCrew C) → slice_get w.crew actor ≡ Some c
      → (d : ActorCrew C) × (slice_get (after_turn k turn w).crew actor ≡ Some d) × TurnedTo c.member d.member
  turned_to k w turn = turn_each k (λ x y. TurnedTo x.member y.member) (λ x. member_stays x.member) (λ ask books x. member_turned k (answer_to books ask) x.member)
      (λ stamp x over. member_begins x.member over) turn w

  pub answers_come_so : (Was : PlainSegment → Type 0) (k : Codec C) (w : WorldState C) → CopiesAreAnswered w → LinksAreNumbered w → (turn : Turn) (actor : ℕ) (c : ActorCrew C) → slice_get w.crew actor ≡ Some c
      → (d : ActorCrew C) × (slice_get (after_turn k turn w).crew actor ≡ Some d) × AnswersComeSo Was k c.member d.member
  answers_come_so Was k w answered numbered turn actor c there =
      let turned = turned_to k w turn actor c there in
      let d : ActorCrew C = turned.0 in
      let frames = frames_stay k w turn actor c there in
      let hands = each_segment_says_what_came k w turn actor c there in
      let copies = copies_leave k w turn actor c there in (
        d,
        turned.1,
        answers_come Was k c.member d.member turned.2
            (subst (λ (x : ActorCrew C). FramesStay c.member x.member) (same_Some frames.0 d (sym frames.1 ∙ turned.1)) frames.2)
            (subst (λ (x : ActorCrew C). PathsHandOver k c.member x.member) (same_Some hands.0 d (sym hands.1 ∙ turned.1)) hands.2)
            (subst (λ (x : ActorCrew C). CopiesGoOn c.member x.member) (same_Some copies.0 d (sym copies.1 ∙ turned.1)) copies.2)
            (answered.each actor c there)
            (numbered.each actor c there),
      )

  pub what_is_owed_comes : (k : Codec C) → WhatIsOwedComes k
  what_is_owed_comes k w answered numbered turn actor c there = let go = answers_come_so (λ x. Unit {0}) k w answered numbered turn actor c there in (go.0, go.1, whatever_goes k c.member go.0.member go.2)
