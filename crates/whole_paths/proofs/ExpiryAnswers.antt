-- Each expiry of an end is answered in time over the only path of a mild connection, but for segments that are harmed.
use Rattle.std.proofs.Common.{◌≡◌, refl, sym, subst, ap, ◌∙◌, ◌⊎◌, inl, inr, ⊎_elim, ◌+◌, ◌<◌, ◌≤◌, arith, Bool, true, false, true≢false, None, List, [], ◌∷◌, ◌++◌}
use Rattle.std.proofs.lemmas.Bool.{both_ways, cases_lt}
use Rattle.sides.specs.declared.side.Side.{Side}
use Rattle.sides.specs.declared.side.Side.TheVariants.{A, B}
use Rattle.sides.specs.Side.{peer}
use Rattle.path_segments.specs.Laws.{meant}
use Rattle.path_segments.specs.Spelled.{PlainSegment}
use Rattle.link_model.specs.declared.flight.Flight.{Flight}
use Rattle.subflow_tcp.specs.Segments.{occupied, one_if}
use Rattle.subflow_tcp.specs.States.{is_dead}
use Rattle.subflow_tcp.specs.declared.dues.Due.{Due as Dues}
use Rattle.subflow_tcp.specs.declared.handshake.State.TheVariants as phase
use Rattle.path_agenda.specs.Agenda.{syn_again, syn_came}
use Rattle.path_agenda.specs.declared.duty.Duty.{Duty}
use Rattle.path_agenda.specs.declared.duty.Duty.TheVariants as duties
use Rattle.path_agenda.specs.declared.duty.AskDuty.TheVariants as ask_duties
use Rattle.path_agenda.specs.declared.duty.SendDuty.TheVariants as send_duties
use Rattle.path_agenda.specs.declared.duty.StepDuty.TheVariants as step_duties
use Rattle.path_core.specs.Arrival.{copy_of}
use Rattle.path_core.specs.Handover.{handed}
use Rattle.path_core.specs.OptionsOut.{ack_said, syn_ack_said}
use Rattle.path_core.specs.State.{PathState, end_at}
use Rattle.path_core.specs.Values.{Carried, as_arrived, values}
use Rattle.world_laws.specs.Members.{HoldsOfKind}
use Rattle.world_laws.specs.Openings.{Start}
use Rattle.world_laws.specs.RoundDone.{reached}
use Rattle.world_laws.specs.Worlds.{Turn, WorldState}
use Rattle.whole_paths.specs.Answered.{HasAnswered, IsDone}
use Rattle.whole_paths.specs.Answered.IsDone.{next, over}
use Rattle.whole_paths.specs.AnsweredExpiries.{ComesNext, IsLivingTurn, IsOwed, OpensOn, SegmentsMeanSo}
use Rattle.whole_paths.specs.AnsweredExpiries.{OpensOn as opening}
use Rattle.whole_paths.specs.AsFar.{stage}
use Rattle.whole_paths.specs.Copies.{IsUnderWay}
use Rattle.whole_paths.specs.ExpiriesInARow.{in_a_row}
use Rattle.whole_paths.specs.ExpiryMeanings.{EndsTheRow, IsOpenedFor, IsOpeningNext, IsWanted}
use Rattle.whole_paths.specs.ExpiryMeanings.{EndsTheRow as ends_by}
use Rattle.whole_paths.specs.ExpiryMeanings.{IsOpeningNext as opens}
use Rattle.whole_paths.specs.ExpiryMeanings.{IsWanted as wanted}
use Rattle.whole_paths.specs.ExpirySegments.{AcksSomething}
use Rattle.whole_paths.specs.ExpirySegments.{AsksForAnAck as asks}
use Rattle.whole_paths.specs.Finish.{IsPathAt}
use Rattle.whole_paths.specs.Mild.{IsMildStart}
use Rattle.whole_paths.specs.Opening.{IsSyn}
use Rattle.whole_paths.specs.OpeningStates.{IsOfA, IsOfB}
use Rattle.whole_paths.specs.OpeningStates.{IsOfA as of_a}
use Rattle.whole_paths.specs.OpeningStates.{IsOfB as of_b}
use Rattle.whole_paths.specs.OwedGoes.{IsReply, OwedGoes}
use Rattle.whole_paths.specs.OwedGoes.{IsReply as reply}
use Rattle.whole_paths.specs.OwedGoes.{OwedGoes as owed}
use Rattle.whole_paths.specs.Sent.{WasSent}
use Rattle.whole_paths.specs.WindowRoom.{IsRoomy}
use Rattle.whole_paths.proofs.EdgeRises.{edges_wait_for_the_handshake}
use Rattle.whole_paths.proofs.Exchanges.{Shown, each_shown}
use Rattle.whole_paths.proofs.ExpiryMeanings.{Unless, a_opens_still, between, ends_on, far, known, met, then_there, wants_on}
use Rattle.whole_paths.proofs.ExpiryResends.{what_goes_again_is_wanted}
use Rattle.whole_paths.proofs.ExpirySegments.{comes, first_is_taken, half_is_asked, opening_ends_row, opening_is_asked, opens as syn_opens, past_is_asked, window_ends_row}
use Rattle.whole_paths.proofs.Flying.{Frames, FramesStay, frames_stay}
use Rattle.whole_paths.proofs.MildDeaths.{living_path}
use Rattle.whole_paths.proofs.OwedGoes.{what_is_owed_goes}
use Rattle.whole_paths.proofs.Owing.{copies_are_answered}
use Rattle.whole_paths.proofs.Pieces.{is_event}
use Rattle.whole_paths.proofs.Sent.{what_came_was_sent}
use Rattle.whole_paths.proofs.SynReplies.{PathsAnswer, SynIsAnswered, each_syn_is_answered, syn_heard}
use Rattle.whole_paths.proofs.Unbroken.{FirstKnown}

abbrev comes_first : List Duty → Bool
comes_first [] = false
comes_first (d ∷ ds) = is_event d

not_first : (ds : List Duty) (others : List Duty) → comes_first ds ≡ false → ds ≡ duties.Step step_duties.Events ∷ others → ⊥
not_first ds others none is = true≢false (sym (ap comes_first is) ∙ none)

-- ---- a turn between living ends

module _ (start : Start) (roomy : IsRoomy start) (turns : List Turn) (turn : Turn) (p q : PathState Carried) (t : IsLivingTurn start turns turn p q) (mild : IsMildStart start) where
  abbrev w : WorldState Carried
  w = reached values start turns

  of_path : (P : PathState Carried → Type 0) → HoldsOfKind (λ app. Unit {0}) P t.before.crew.member → P p
  of_path P h = subst (HoldsOfKind (λ app. Unit {0}) P) t.before.is h

  abbrev Later : Side → Type 0 → Type 0
  Later s X = Unless start turns turn p q t mild s X

  frames : Frames p q
  frames = between start turns turn p q t mild FramesStay (frames_stay values w turn 2 t.before.crew t.before.there)

  shown : Shown p
  shown = of_path Shown (each_shown start turns mild.plain.size mild.fit 2 t.before.crew t.before.there)

  was_sent : WasSent p
  was_sent = of_path WasSent ((what_came_was_sent start turns mild.plain.size).each 2 t.before.crew t.before.there)

  up : (s : Side) → stage (end_at s p).tcp.state ≤ stage (end_at s q).tcp.state
  up s = (far start turns turn p q t mild s).subflow.state

  -- ---- what is answered comes into the window

  replies : (s : Side) (x : PlainSegment) → IsOwed s p → x ≡ ack_said p.profile (peer s) (end_at (peer s) p).tcp.send.nxt None (end_at (peer s) p) → Later s (EndsTheRow s x q)
  replies s x owes is = ends_on start turns turn p q t mild s x (subst (λ x. EndsTheRow s x p) (sym is) (ends_by.heard (record {
    opened = owes.opened;
    acks = record { rst = refl; up_to = (end_at (peer s) p).tcp.recv.edge; acknowledged = refl; some = shown.edge (peer s) };
    from = was_sent s;
    within = ⊎_elim
        (λ inside. inl inside)
        (λ past. inr (let room = roomy.room turns p t.before t.lived s in omega (arith, past, room), refl))
        (cases_lt (end_at (peer s) p).tcp.send.nxt ((end_at s p).tcp.recv.edge + 1048576));
  })))

  -- ---- what comes

  syn_one : (x : PlainSegment) → IsSyn x → 0 < occupied (copy_of (meant x))
  syn_one x syn = let is_one : one_if x.syn ≡ 1 = ap one_if syn.syn in omega (arith, is_one)

  synced : SynIsAnswered p q
  synced = between start turns turn p q t mild PathsAnswer (each_syn_is_answered w turn 2 t.before.crew t.before.there)

  module _ (f : Flight Carried) (there : IsUnderWay f p) (n : ComesNext f p) where
    abbrev x : PlainSegment
    x = as_arrived f.carried

    abbrev Goal : Side → Type 0
    Goal s = (q ≡ p) ⊎ Later s (IsOwed s q ⊎ IsOpenedFor s q)

    owed_so : (s : Side) → 2 ≤ stage (end_at s p).tcp.state → (q ≡ p) ⊎ ((end_at (peer s) q).tcp.due.ack ≡ true) → Goal s
    owed_so s high = ⊎_elim (λ same. inl same) (λ ack. inr (inl (inl (record { opened = (let more = up s in omega (arith, high, more)); ack = ack }))))

    -- A's SYN
    opened_so : p.a.tcp.state ≡ phase.SynSent → (q ≡ p) ⊎ IsOpeningNext q → Goal A
    opened_so was = ⊎_elim
        (λ same. inl same)
        (λ to_come. inr (⊎_elim (λ still. inl (inr (record { side = refl; state = still; next = to_come }))) (λ over_now. inr over_now) (a_opens_still start turns turn p q t mild was)))

    asked : f.to ≡ B → p.a.tcp.state ≡ phase.SynSent → IsSyn x → x.acknowledged ≡ None → Goal A
    asked to was syn none = by (known start turns turn p q t mild).states.b
      where
        by : IsOfB p.b.tcp.state → Goal A
        by (of_b.listening is) = opened_so was (⊎_elim
            (λ same. inl same)
            (λ agenda. inr (opens.came (subst (λ u. q.agenda ≡ syn_came u) to agenda)))
            (synced.opens (comes start turns turn p q t mild f there n) (syn_opens start turns turn p q t mild f there n syn (subst (λ u. (end_at u p).tcp.state ≡ phase.Listen) (sym to) is) none)))
        by (of_b.half_open is) = opened_so was (⊎_elim (λ same. inl same) (λ owes. inr (opens.owes owes)) (half_is_asked start turns turn p q t mild B f there to n syn is (shown.edge B)))
        by (of_b.past high) = absurd (let two = (met start turns turn p q t mild).b high (t.lived B) in let is_one = ap stage was in omega (arith, two, is_one))

    -- B's SYN/ACK
    answered : f.to ≡ A → p.b.tcp.state ≡ phase.SynReceived → IsSyn x → (acks : AcksSomething x) → acks.up_to ≤ p.a.tcp.send.nxt → Goal B
    answered to was syn acks sent = owed_so B (let is_two = ap stage was in omega (arith, is_two)) (by (known start turns turn p q t mild).states.a)
      where
        by : IsOfA p.a.tcp.state → (q ≡ p) ⊎ (q.a.tcp.due.ack ≡ true)
        by (of_a.waiting is) = absurd (let awake = (met start turns turn p q t mild).awake in let none = ap stage is in omega (arith, awake, none))
        by (of_a.sent is) = opening_is_asked start turns turn p q t mild A f there to n syn acks.up_to is acks.acknowledged acks.some sent
        by (of_a.past high) = past_is_asked start turns turn p q t mild A f there to n high acks (asks.occupies (syn_one x syn))

    wants_come : (s : Side) → f.to ≡ peer s → IsWanted s x p → Goal s
    wants_come s to (wanted.asks is was syn none) = subst Goal (sym is) (asked (to ∙ ap peer is) was syn none)
    wants_come s to (wanted.answers is was syn acks sent) = subst Goal (sym is) (answered (to ∙ ap peer is) was syn acks sent)
    wants_come s to (wanted.first is high half h) = subst Goal (sym is) (owed_so A (omega (arith, high))
        (let is_two = ap stage half in
        let edge = edges_wait_for_the_handshake start turns p t.before B (omega (arith, is_two)) in let at = h.position in
        first_is_taken start turns turn p q t mild B f there (to ∙ ap peer is) n (omega (arith, is_two)) h.acks h.syn h.sent (omega (arith, edge, at)) h.occupies))
    wants_come s to (wanted.past past acks asks_so) =
        owed_so s (let high = past s in omega (arith, high)) (past_is_asked start turns turn p q t mild (peer s) f there to n (past (peer s)) acks asks_so)

    ends_come : (s : Side) → f.to ≡ s → EndsTheRow s x p → (q ≡ p) ⊎ (in_a_row (end_at s q) ≡ 0)
    ends_come s to (ends_by.accepted is was syn acks sent) = subst (λ u. (q ≡ p) ⊎ (in_a_row (end_at u q) ≡ 0)) (sym is)
        (opening_ends_row start turns turn p q t mild A f there (to ∙ is) n syn acks.up_to was acks.acknowledged acks.some sent)
    ends_come s to (ends_by.heard h) = window_ends_row start turns turn p q t mild s f there to n h

  -- ---- B opens

  module _ (was : p.a.tcp.state ≡ phase.SynSent) where
    abbrev Goes : Type 0
    Goes = OpensOn IsWanted EndsTheRow IsOpenedFor A p q

    -- by A's state
    unless_over : (q.a.tcp.state ≡ phase.SynSent → Goes) → Goes
    unless_over goes = ⊎_elim goes (λ none. opening.over none) (a_opens_still start turns turn p q t mild was)

    still : q.clock ≡ p.clock → IsOpeningNext q → Goes
    still clock to_come = unless_over (λ state. opening.opens clock (record { side = refl; state = state; next = to_come }))

    same_still : IsOpeningNext p → q ≡ p → Goes
    same_still to_come same = still (ap (λ (x : PathState Carried). x.clock) same) (subst IsOpeningNext (sym same) to_come)

    -- the SYN/ACK goes
    sends : (x : PlainSegment) → x ≡ syn_ack_said p.profile B p.b → q.link ≡ handed values B x p → q.clock ≡ p.clock → Goes
    sends x is taken clock = unless_over (λ state. opening.goes x taken clock (subst (λ x. EndsTheRow A x q) (sym is)
        (ends_by.accepted refl state (record { syn = refl; fin = refl; rst = refl; first = refl; empty = refl })
        (record { rst = refl; up_to = p.b.tcp.recv.edge; acknowledged = refl; some = shown.edge B })
        (let sent = was_sent B in let pushed = (far start turns turn p q t mild A).subflow.pushed in omega (arith, sent, pushed)))))

    came_on : p.agenda ≡ syn_came B → Goes
    came_on is = ⊎_elim
        (same_still (opens.came is))
        (λ agenda. ⊎_elim
        (λ asks_plainly. absurd (plain asks_plainly))
        (λ sends_next. still (frames.stands (duties.Ask (ask_duties.SynHeard B)) (syn_heard B) is refl) (opens.next sends_next))
        agenda)
        (synced.asks B is)
      where
        plain : q.agenda ≡ syn_heard B → ⊥
        plain heard = (subst (λ ds. FirstKnown ds q) heard (living_path start (turns ++ turn ∷ []) mild q (then_there start turns turn p q t mild) t.lives).known).asks

    next_on : p.agenda ≡ syn_again B → Goes
    next_on is = ⊎_elim
        (same_still (opens.next is))
        (λ taken. sends (syn_ack_said p.profile B p.b) refl taken (frames.stands (duties.Send (send_duties.SynAck B)) _ is refl))
        (synced.answers B is)

    owes_on : p.b.tcp.due.syn_ack ≡ true → Goes
    owes_on is = by (what_is_owed_goes start turns turn mild p q t.before t.after t.lived B (inr is))
      where
        unanswered : IsDone p → ⊥
        unanswered done = let none = of_path HasAnswered ((copies_are_answered values start turns).each 2 t.before.crew t.before.there) done B (t.lived B) in both_ways p.b.tcp.due.syn_ack none.syn_ack is

        stands_still : (ds : List Duty) → p.agenda ≡ ds → q.clock ≡ p.clock
        stands_still [] first = absurd (unanswered (over first))
        stands_still (d ∷ ds) first = by_event (is_event d) refl
          where
            event : (d : Duty) → is_event d ≡ true → d ≡ duties.Step step_duties.Events
            event (duties.Step step_duties.Events) it_is = refl
            event _ it_is = absurd (true≢false (sym it_is))

            by_event : (b : Bool) → is_event d ≡ b → q.clock ≡ p.clock
            by_event true e = absurd (unanswered (next ds (first ∙ ap (λ d. d ∷ ds) (event d e))))
            by_event false e = frames.stands d ds first e

        by_reply : (x : PlainSegment) → IsReply p.profile B p.b x → q.link ≡ handed values B x p → q.clock ≡ p.clock → Goes
        by_reply x (reply.acks none said) taken clock = absurd (both_ways p.b.tcp.due.syn_ack none is)
        by_reply x (reply.opens none said) taken clock = sends x said taken clock

        by : OwedGoes B p q → Goes
        by (owed.owes same) = still (stands_still p.agenda refl) (opens.owes (ap (λ (d : Dues). d.syn_ack) same ∙ is))
        by (owed.gone u dead) = absurd (both_ways _ (t.lives u) dead)
        by (owed.goes x said taken clock) = by_reply x said taken clock

    opens_goes_on : IsOpeningNext p → Goes
    opens_goes_on (opens.came is) = came_on is
    opens_goes_on (opens.next is) = next_on is
    opens_goes_on (opens.owes is) = owes_on is

  opens_on : (s : Side) → IsOpenedFor s p → OpensOn IsWanted EndsTheRow IsOpenedFor s p q
  opens_on s h = subst (λ u. OpensOn IsWanted EndsTheRow IsOpenedFor u p q) (sym h.side) (opens_goes_on h.state h.next)

-- B answers before anything else happens
opens_first : (start : Start) (turns : List Turn) (p : PathState Carried) → IsPathAt 0 (reached values start turns) p → ((u : Side) → is_dead (end_at u p).tcp.state ≡ false) → (s : Side) → IsOpenedFor s p → (others : List Duty)
    → p.agenda ≡ duties.Step step_duties.Events ∷ others → ⊥
opens_first start turns p here lives s h others first = by h.next
  where
    by : IsOpeningNext p → ⊥
    by (opens.came is) = not_first (syn_came B) others refl (sym is ∙ first)
    by (opens.next is) = not_first (syn_again B) others refl (sym is ∙ first)
    by (opens.owes is) =
        let none = subst (HoldsOfKind (λ app. Unit {0}) HasAnswered) here.is ((copies_are_answered values start turns).each 2 here.crew here.there) (next others first) B (lives B) in
        both_ways p.b.tcp.due.syn_ack none.syn_ack is

-- ---- all of them

module _ (start : Start) (mild : IsMildStart start) (room : 2 ≤ start.buffer) (roomy : IsRoomy start) where
  pub segments_mean_so : SegmentsMeanSo IsWanted EndsTheRow IsOpenedFor start
  segments_mean_so = record {
    goes_again = λ turns turn p q t s is out h. wants_on start turns turn p q t mild s h.segment
        (what_goes_again_is_wanted start turns mild p t.before t.lived room s is out q h);
    replies = λ turns turn p q t s x owes is. replies start roomy turns turn p q t mild s x owes is;
    wants_on = λ turns turn p q t s x h. wants_on start turns turn p q t mild s x h;
    ends_on = λ turns turn p q t s x h. ends_on start turns turn p q t mild s x h;
    wants_come = λ turns turn p q t s f there to h n. wants_come start roomy turns turn p q t mild f there n s to h;
    ends_come = λ turns turn p q t s f there to h n. ends_come start roomy turns turn p q t mild f there n s to h;
    opens_on = λ turns turn p q t s h. opens_on start roomy turns turn p q t mild s h;
    opens_first = λ turns p here lives s h others first. opens_first start turns p here lives s h others first;
  }
