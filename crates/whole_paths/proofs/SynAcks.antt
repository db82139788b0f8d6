-- B's SYN/ACK comes again to an end past the handshake, which acknowledges it, and that comes back.
use Rattle.std.proofs.Common.{◌⊎◌, true≢false, ◌≡◌, refl, sym, subst, ap, ◌∙◌, inl, inr, ⊎_elim, ℕ, ◌+◌, ◌-◌, ◌^◌, ◌<◌, ◌≤◌, arith, le_refl, max, Bool, true, false, if◌then◌else◌, Some, None, List, [], ◌∷◌}
use Rattle.std.specs.List.{list_any, slice_get}
use Rattle.std.proofs.lemmas.Bool.{cases_lt}
use Rattle.path_segments.specs.Spelled.{PlainSegment}
use Rattle.sides.specs.declared.side.Side.{Side}
use Rattle.sides.specs.declared.side.Side.TheVariants.{A, B}
use Rattle.link_model.specs.declared.flight.Flight.{Flight}
use Rattle.link_model.specs.Fate.{is_stripped, is_altered}
use Rattle.link_model.specs.Steps.{due_of, next_number, segments_sent}
use Rattle.subflow_send.specs.Records.{Record}
use Rattle.subflow_send.specs.declared.record.RecordKind.{RecordKind}
use Rattle.subflow_send.specs.declared.record.RecordKind.TheVariants.{Data, Fin, Syn}
use Rattle.subflow_send.specs.Rules.{is_fin}
use Rattle.subflow_tcp.specs.Emitting.{is_syn}
use Rattle.subflow_tcp.specs.States.{is_behind_fin, is_closed_to_segments, is_dead, is_opening}
use Rattle.subflow_tcp.specs.declared.handshake.State.{State as EndPhase}
use Rattle.subflow_tcp.specs.declared.handshake.State.TheVariants as phase
use Rattle.subflow_tcp.specs.declared.verdicts.Meaning.TheVariants as means
use Rattle.path_agenda.specs.declared.duty.Duty.{Duty}
use Rattle.path_agenda.specs.declared.duty.Duty.TheVariants as duties
use Rattle.path_agenda.specs.declared.duty.StepDuty.TheVariants as step_duties
use Rattle.path_core.specs.Events.{next_event}
use Rattle.path_core.specs.State.{PathState, end_at}
use Rattle.path_core.specs.Values.{Carried, values}
use Rattle.path_core.specs.declared.events.Event.TheVariants as happenings
use Rattle.world_laws.specs.declared.member.Member.TheVariants.{App, Path}
use Rattle.world_laws.specs.Actors.{Actor, ActorCrew}
use Rattle.world_laws.specs.Openings.{Start}
use Rattle.world_laws.specs.RoundDone.{reached}
use Rattle.world_laws.specs.Worlds.{Turn, after_turn}
use Rattle.world_laws.proofs.Lanes.Showing.{is_unfinished}
use Rattle.whole_paths.specs.AgendaSteps.{event_side}
use Rattle.whole_paths.specs.Answered.{AcksGoFirst}
use Rattle.whole_paths.specs.Arrivals.{Arrival}
use Rattle.whole_paths.specs.AsFar.{stage}
use Rattle.whole_paths.specs.Copies.{IsUnderWay}
use Rattle.whole_paths.specs.Delivery.{HasFinished}
use Rattle.whole_paths.specs.Delivery.HasFinished.{sent_fin}
use Rattle.whole_paths.specs.Exchanges.{IsBareWithin, IsFaithful}
use Rattle.whole_paths.specs.Exchanges.{IsHeldUp as held}
use Rattle.whole_paths.specs.Flights.{ComesSo, GoesOnTo, IsCopyOf}
use Rattle.whole_paths.specs.Flights.{GoesOnTo as way}
use Rattle.whole_paths.specs.Hearing.{PathsCount}
use Rattle.whole_paths.specs.InTime.{ComesFrom}
use Rattle.whole_paths.specs.Kept.{EndsKeepWhatWaits}
use Rattle.whole_paths.specs.Mild.{IsMildStart, IsNeverBroken, is_harsh}
use Rattle.whole_paths.specs.News.{one_if}
use Rattle.whole_paths.specs.Overruns.{StaysWithin}
use Rattle.whole_paths.specs.Opening.{ComesAs, IsSyn, SynCounts}
use Rattle.whole_paths.specs.Owed.{AnswerComesSo, AnswerGoesOn, IsAnswered, IsAnsweredSo, IsToRefuse}
use Rattle.whole_paths.specs.Owed.{IsToRefuse as refuse}
use Rattle.whole_paths.specs.Owed.{AnswerGoesOn as answer}
use Rattle.whole_paths.specs.SynAcks.{EachSynAckIsAnswered, IsSynAnswered, IsToBeAnswered, SynAckGoesOn, SynAcksBegin, SynAcksEnd, SynAcksGoOn}
use Rattle.whole_paths.specs.SynAcks.IsSynAnswered.{answered, comes}
use Rattle.whole_paths.specs.SynAcks.{SynAckGoesOn as goes}
use Rattle.whole_paths.specs.Syns.{IsSynSent}
use Rattle.whole_paths.specs.Waits.{IsNews}
use Rattle.whole_paths.proofs.Acking.{HandsComeSo, hands_come_so, same_actor}
use Rattle.whole_paths.proofs.Arrivals.{each_copy_arrives}
use Rattle.whole_paths.proofs.Breaking.{never_breaks}
use Rattle.whole_paths.proofs.Clearing.{Clears, MemberClears, each_clears, never_refuses}
use Rattle.whole_paths.proofs.Exchanges.{IsTurn, Known, OfPaths, acks_bare, answer_comes, answer_from, answer_later, bare_later, below_limit, lets_through, numbered, tick_from, way_from}
use Rattle.whole_paths.proofs.Flying.{FramesStay, SentAtTheEnd, SentGoOn, frames_stay, sent_at_the_end, sent_go_on}
use Rattle.whole_paths.proofs.Hearing.{each_acknowledgement_counts}
use Rattle.whole_paths.proofs.InTime.{nothing_is_overdue}
use Rattle.whole_paths.proofs.Keeping.{what_waits_is_kept}
use Rattle.whole_paths.proofs.Knowing.{what_is_told_is_known}
use Rattle.whole_paths.proofs.OpenCourses.{IsFirstPath, each_first}
use Rattle.whole_paths.proofs.OpeningSyns.{each_syn_counts}
use Rattle.whole_paths.proofs.Overruns.{no_end_overruns}
use Rattle.whole_paths.proofs.Owing.{copies_are_answered}
use Rattle.whole_paths.proofs.Passing.{what_is_in_order_is_passed}
use Rattle.whole_paths.proofs.Paying.{AnswersComeSo, TurnedTo, answers_come_so, turned_to}
use Rattle.whole_paths.proofs.Reached.{first_reached, none_left}
use Rattle.whole_paths.proofs.Syns.{each_known, still_received}
use Rattle.whole_paths.proofs.SentSoon.{what_is_sent_comes_soon}

-- what a state is, as to the FIN
behind_or : (state : EndPhase) → (is_behind_fin state ≡ true) ⊎ (is_unfinished state ≡ true)
behind_or phase.FinWait1 = inl refl
behind_or phase.FinWait2 = inl refl
behind_or phase.Closing = inl refl
behind_or phase.LastAck = inl refl
behind_or phase.TimeWait = inl refl
behind_or phase.Dead = inl refl
behind_or _ = inr refl

-- ---- one turn of a path

module _ (p q : PathState Carried) (known : Known p) (faithful : IsFaithful p) (few : (t : Side) → segments_sent t p.link < 2 ^ 64 - 1) (turn : IsTurn p q) (acks_first : AcksGoFirst p)
    (hands : HandsComeSo (IsBareWithin p.b.tcp.recv.edge p.a.tcp.send.nxt) values (Path p) (Path q)) (answers : AnswersComeSo (IsBareWithin p.b.tcp.recv.edge p.a.tcp.send.nxt) values (Path p) (Path q))
    (unbroken : list_any is_harsh p.agenda ≡ false) (clears : (t : Side) → Clears t p.agenda (end_at t p)) (within : StaysWithin p) (first_path : is_unfinished p.a.tcp.state ≡ true → p.a.tcp.send.finished ≡ false) where
  abbrev Bare : PlainSegment → Type 0
  Bare = IsBareWithin p.b.tcp.recv.edge p.a.tcp.send.nxt

  -- as the end sends it
  sent_so : p.b.tcp.state ≡ phase.SynReceived → IsSynSent B p.b (is_stripped B (next_number B p.link) p.clock p.link.lines) (is_altered B (next_number B p.link) p.link.lines)
  sent_so half_open = record {
    asks = λ is. cc;
    answers = λ is. ap (λ state. if is_opening state then None else Some p.b.tcp.recv.edge) half_open;
    edge = known.edge B;
    unstripped = faithful.whole.strips B (next_number B p.link) p.clock;
    unaltered = faithful.plain.alters B (next_number B p.link);
  }

  -- A sends more than B's window has room for with its FIN alone
  past_so : is_dead p.a.tcp.state ≡ false → p.b.tcp.recv.edge + 1048576 < p.a.tcp.send.nxt → HasFinished p.a
  past_so living far = by p.a.tcp.send.finished refl
    where
      by : (b : Bool) → p.a.tcp.send.finished ≡ b → HasFinished p.a
      by false is = absurd (let una = known.came.una A living in let most = within A in let none = ap one_if is in omega (arith, far, una, most, none))
      by true is = ⊎_elim (λ behind. sent_fin behind living) (λ before. absurd (true≢false (sym is ∙ first_path before))) (behind_or (p.a.tcp.state))

  module _ (x : ℕ) (h : IsToBeAnswered x p) where
    abbrev Goes : Type 0
    Goes = SynAckGoesOn x p q

    same_goes : q ≡ p → Goes
    same_goes same = goes.on (subst (IsToBeAnswered x) (sym same) h)

    -- A is past the handshake still, and B half-open, or an end went further, or B heard
    stays : (IsSynAnswered x q) → Goes
    stays next = ⊎_elim (λ up. goes.further up)
        (λ none. ⊎_elim (λ heard. goes.held_up (held.news (IsNews.on_subflow heard)))
        (λ low. goes.on (record {
          past = (let was = h.past in let up = turn.later A in omega (arith, was, up));
          half_open = still_received q.b.tcp.state (let was = ap stage h.half_open in let up = turn.later B in omega (arith, was, up, none));
          unheard = (let was = h.unheard in omega (arith, was, low));
          exchange = next;
        }))
        (cases_lt p.b.tcp.send.una q.b.tcp.send.una))
        (cases_lt (stage p.b.tcp.state) (stage q.b.tcp.state))

    -- RCV.NXT of B stays, or more came
    if_still : (q.b.tcp.recv.edge ≡ p.b.tcp.recv.edge → Goes) → Goes
    if_still still = ⊎_elim (λ more. goes.held_up (held.more_came more)) (λ low. still (let up = turn.far B in omega (arith, low, up))) (cases_lt p.b.tcp.recv.edge q.b.tcp.recv.edge)

    answered_still : (position before : ℕ) → 1 ≤ position → before ≤ x → (g : IsAnswered values A position before q) → IsAnsweredSo Bare g → Goes
    answered_still position before enough low g so = if_still (λ same. let later = answer_later Bare A position 1 before x q enough low g so in
        stays (answered later.0 (subst (λ n. IsAnsweredSo (IsBareWithin n q.a.tcp.send.nxt) later.0) (sym same)
        (bare_later A 1 x p.b.tcp.recv.edge p.a.tcp.send.nxt q.a.tcp.send.nxt q (turn.pushed A) later.0 later.1))))

    -- unless A is dead
    if_living : (is_dead p.a.tcp.state ≡ false → Goes) → Goes
    if_living then_so = by (is_dead p.a.tcp.state) refl
      where
        by : (b : Bool) → is_dead p.a.tcp.state ≡ b → Goes
        by true is = goes.held_up (held.gone A (inl is))
        by false is = then_so is

    never_refused : IsToRefuse A p.agenda → Goes
    never_refused (refuse.refuses others is) = absurd (true≢false (sym (ap (λ ds. list_any is_harsh ds) is) ∙ unbroken))
    never_refused (refuse.answers others is) = if_living (λ living. absurd (never_refuses p A clears living others is))

    answer_goes : (position before : ℕ) → 1 ≤ position → before ≤ x → (go : AnswerGoesOn values A position before p q) → AnswerComesSo Bare go → Goes
    answer_goes position before enough low (answer.on g) so = answered_still position before enough low g so
    answer_goes position before enough low (answer.arrives f in_time there g others first next) so = ⊎_elim
        (λ same. same_goes same)
        (λ y. ⊎_elim
        (λ heard. goes.held_up (held.news (IsNews.on_subflow (let none = h.unheard in omega (arith, enough, heard, none)))))
        (λ hindered. ⊎_elim (λ z. goes.held_up z) (λ far. if_living (λ living. goes.finished (past_so living far))) hindered)
        y)
        (answer_comes p q known (lets_through p faithful) few turn B acks_first hands answers position f there g so (let was = ap stage h.half_open in omega (arith, was)) others first next (omega (arith, enough)))
    answer_goes position before enough low (answer.harmed is) so = goes.held_up (held.harmed A is)
    answer_goes position before enough low (answer.resets is) so = never_refused is
    answer_goes position before enough low (answer.gone dead) so = goes.held_up (held.gone A (inr dead))
    answer_goes position before enough low (answer.dies line next is dead) so = goes.held_up (held.dies line next is dead)

    module _ (syn : Record) (kind : syn.kind ≡ Syn) (at_first : syn.pos ≡ 0) (empty : syn.piece ≡ []) (arrival : ℕ) (soon : arrival + 400 ≤ x) where
      -- a copy comes
      module _ (f : Flight Carried) (in_time : f.tick ≤ arrival) (there : IsUnderWay f p) (copy : IsCopyOf values B syn p f) (sent : IsSynSent B copy.sender copy.stripped copy.altered)
          (others : List Duty) (first : p.agenda ≡ duties.Step step_duties.Events ∷ others) (next : next_event p ≡ Some (happenings.Arrives (due_of f))) where
        comes_now : Arrival copy.segment p
        comes_now = each_copy_arrives B syn p f copy sent.unstripped sent.unaltered there (numbered p q known (lets_through p faithful) few turn B acks_first hands answers f there) known.alike others first next

        is_syn_ack : IsSyn copy.segment
        is_syn_ack = record {
          syn = copy.of_it.syn ∙ ap is_syn kind;
          fin = copy.of_it.fin ∙ ap is_fin kind;
          rst = copy.of_it.rst;
          first = copy.of_it.position ∙ at_first;
          empty = copy.of_it.payload ∙ empty;
        }

        due_to : comes_now.due.to ≡ A
        due_to = sym (ap event_side comes_now.next) ∙ ap event_side next ∙ copy.to

        counts : SynCounts copy.segment p p.a.tcp
        counts = subst (λ t. SynCounts copy.segment p (end_at t p).tcp) due_to (each_syn_counts copy.segment p comes_now faithful.joined is_syn_ack)

        clock_is : q.clock ≡ max p.clock f.tick → q.clock + 400 ≤ x
        clock_is is = (let from = tick_from p q known (lets_through p faithful) few turn B acks_first hands answers f there in omega (arith, is, from, in_time, soon))

        again : ComesAs p means.Outside → Goes
        again c =
            let to : c.copy.due.to ≡ A = sym (ap event_side c.copy.next) ∙ ap event_side next ∙ copy.to in
            ⊎_elim (λ same. same_goes same)
            (λ go. ⊎_elim (λ same. same_goes same)
            (λ is. (let here = subst (λ t. (go : AnswerGoesOn values t (end_at t p).tcp.recv.edge (q.clock + 400) p q) × AnswerComesSo Bare go) to go in
            answer_goes p.a.tcp.recv.edge (q.clock + 400) (let some = known.edge A in omega (arith, some)) (clock_is is) here.0 here.1))
            (turn.frames.moves (happenings.Arrives (due_of f)) others first next))
            (hands.1.0 c.copy c.is (subst (λ t. 3 ≤ stage (end_at t p).tcp.state) (sym to) h.past))

        syn_ack_comes : Goes
        syn_ack_comes = if_living (λ living. again (counts.once_more copy.sender.tcp.recv.edge (copy.says.acknowledged ∙ sent.answers refl)
            (let past = h.past in omega (arith, past)) living (below_limit p known A) (known.edge A)))

      goes_by : (go : GoesOnTo values B syn arrival p q) → ComesSo (IsSynSent B) go → Goes
      goes_by (way.on next) so = stays (comes syn kind at_first empty arrival (omega (arith, soon)) next so)
      goes_by (way.arrives f low there copy others first next) so = syn_ack_comes f low there copy so others first next
      goes_by (way.news news) so = goes.held_up (held.news news)
      goes_by (way.harmed is) so = goes.held_up (held.harmed B is)
      goes_by (way.gone dead) so = goes.held_up (held.gone B (inr dead))
      goes_by (way.dies line next is dead) so = goes.held_up (held.dies line next is dead)

    syn_ack_goes : SentGoOn (IsSynSent B) values (Path p) (Path q) → Goes
    syn_ack_goes sent = by h.exchange
      where
        by : IsSynAnswered x p → Goes
        by (comes syn kind at_first empty arrival soon next so) =
            let go = sent B syn arrival (few B) (λ is_first. sent_so h.half_open) next so in goes_by syn kind at_first empty arrival soon go.0 go.1
        by (answered g so) = if_living (λ living.
            let go = answers A 1 x (few A) (acks_bare p q known (lets_through p faithful) few turn B acks_first hands answers living) g so in answer_goes 1 x (le_refl 1) (le_refl x) go.0 go.1)

-- ---- how it begins

module _ (start : Start) (p : PathState Carried) (known : Known p) (first : IsFirstPath start p) (sent : SentAtTheEnd (IsSynSent B) values p) where
  syn_acks_begin : SynAcksBegin p
  syn_acks_begin over past half_open none = by p.b.tcp.send.records refl
    where
      unfinished : p.b.tcp.send.finished ≡ false
      unfinished = first.unfinished B (rw half_open refl)

      begun : 1 ≤ p.b.tcp.send.nxt
      begun = first.begun B (rw half_open refl)

      by : (rs : List Record) → p.b.tcp.send.records ≡ rs → IsToBeAnswered (p.clock + 60000 + 400 + 400) p
      by [] is = absurd (let all = none_left p.b.tcp (known.reached B) is in omega (arith, all, none, begun))
      by (r ∷ others) is = by_kind r.kind refl
        where
          there : slice_get p.b.tcp.send.records 0 ≡ Some r
          there = ap (λ (rs : List Record). slice_get rs 0) is

          low : r.pos ≤ p.b.tcp.send.una
          low = first_reached p.b.tcp r others (known.reached B) is

          by_kind : (k : RecordKind) → r.kind ≡ k → IsToBeAnswered (p.clock + 60000 + 400 + 400) p
          by_kind Data kind = absurd (let behind = known.behind B r others is kind in omega (arith, behind, low, none))
          by_kind Fin kind = absurd ((first.kinds B unfinished).each 0 r there kind)
          by_kind Syn kind = (let at_end = sent over B (ap is_closed_to_segments half_open) r others is in record {
            past = past;
            half_open = half_open;
            unheard = none;
            exchange = comes r kind (omega (arith, low, none)) ((first.syns B).each 0 r there kind) (p.clock + 60000 + 400) (le_refl _) at_end.0 at_end.1;
          })

-- ---- the world

syn_acks_go : (start : Start) (m n : Actor Carried) → OfPaths Known m → OfPaths AcksGoFirst m → EndsKeepWhatWaits m n → FramesStay m n → TurnedTo m n → SentGoOn (IsSynSent B) values m n
    → ((Was : PlainSegment → Type 0) → HandsComeSo Was values m n) → ((Was : PlainSegment → Type 0) → AnswersComeSo Was values m n) → PathsCount values m n
    → OfPaths IsNeverBroken m → MemberClears m → OfPaths StaysWithin m → OfPaths (IsFirstPath start) m → SynAcksGoOn m n
syn_acks_go start (App a) (App b) known acks_first kept frames turned sent hands answers pays unbroken clears within first = tt
syn_acks_go start (Path p) (Path q) known acks_first kept frames turned sent hands answers pays unbroken clears within first = λ faithful few x h. syn_ack_goes p q known faithful few
    (record { kept = kept; frames = frames; far = λ s. (turned.far s).subflow.received; pushed = λ s. (turned.far s).subflow.pushed; later = λ s. (turned.far s).subflow.state; counts = pays })
    acks_first (hands (IsBareWithin p.b.tcp.recv.edge p.a.tcp.send.nxt)) (answers (IsBareWithin p.b.tcp.recv.edge p.a.tcp.send.nxt))
    (unbroken first.first).duties (clears first.first) within (first.unfinished A) x h sent
syn_acks_go start (App a) (Path q) known acks_first kept frames turned sent hands answers pays unbroken clears within first = absurd turned
syn_acks_go start (Path p) (App b) known acks_first kept frames turned sent hands answers pays unbroken clears within first = absurd turned

syn_acks_by_turns : (start : Start) (turns : List Turn) → IsMildStart start → let w = reached values start turns in (turn : Turn) (c : ActorCrew Carried) → slice_get w.crew 2 ≡ Some c
    → (d : ActorCrew Carried) × (slice_get (after_turn values turn w).crew 2 ≡ Some d) × SynAcksGoOn c.member d.member
syn_acks_by_turns start turns mild turn c at =
    let w = reached values start turns in
    let v = after_turn values turn w in
    let all_answered = copies_are_answered values start turns in
    let kept = what_waits_is_kept values w (turn ∷ []) 2 c at in
    let d : ActorCrew Carried = kept.0 in (
      d,
      kept.1,
      syn_acks_go start c.member d.member (each_known start turns mild.plain.size mild.fit 2 c at) (all_answered.first 2 c at) kept.2
          (same_actor (λ x. FramesStay c.member x.member) v 2 d kept.1 (frames_stay values w turn 2 c at))
          (same_actor (λ x. TurnedTo c.member x.member) v 2 d kept.1 (turned_to values w turn 2 c at))
          (same_actor (λ x. SentGoOn (IsSynSent B) values c.member x.member) v 2 d kept.1 (sent_go_on (IsSynSent B) values w (nothing_is_overdue values start turns) ((what_is_sent_comes_soon values).numbered start turns) turn 2 c at))
          (λ Was. same_actor (λ x. HandsComeSo Was values c.member x.member) v 2 d kept.1
          (hands_come_so Was values w all_answered ((what_is_sent_comes_soon values).numbered start turns) (what_is_in_order_is_passed values start turns) ((what_is_told_is_known values).live start turns) turn 2 c at))
          (λ Was. same_actor (λ x. AnswersComeSo Was values c.member x.member) v 2 d kept.1 (answers_come_so Was values w all_answered ((what_is_sent_comes_soon values).numbered start turns) turn 2 c at))
          (same_actor (λ x. PathsCount values c.member x.member) v 2 d kept.1 (each_acknowledgement_counts values w turn 2 c at))
          ((never_breaks start turns mild).each 2 c at) ((each_clears values start turns).each 2 c at) (no_end_overruns start turns mild c at) (each_first start turns mild.plain.size c at),
    )

member_begins : (start : Start) (m : Actor Carried) → OfPaths Known m → OfPaths (IsFirstPath start) m → OfPaths (SentAtTheEnd (IsSynSent B) values) m → OfPaths SynAcksBegin m
member_begins start (App a) known first sent = tt
member_begins start (Path p) known first sent = syn_acks_begin start p known first sent

member_ends : (m : Actor Carried) → OfPaths (λ p. ComesFrom p.clock p) m → OfPaths SynAcksEnd m
member_ends (App a) past = tt
member_ends (Path p) past = λ x h. ends x h.exchange
  where
    ends : (x : ℕ) → IsSynAnswered x p → p.clock ≤ x
    ends x (comes syn kind at_first empty arrival soon next so) = (let from = way_from p past B syn arrival next in omega (arith, from, soon))
    ends x (answered g so) = answer_from p past A 1 x g

pub each_syn_ack_is_answered : EachSynAckIsAnswered
each_syn_ack_is_answered = record {
  begin = λ start turns size fit c at. member_begins start c.member (each_known start turns size fit 2 c at) (each_first start turns size c at) (sent_at_the_end (IsSynSent B) values start turns 2 c at);
  end = λ start turns actor c at. member_ends c.member ((nothing_is_overdue values start turns).each actor c at);
  goes_on = syn_acks_by_turns;
}
