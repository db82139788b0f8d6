-- A copy of a SYN comes to the other end, which goes further then.
use Rattle.std.proofs.Common.{◌++◌, ◌≡◌, refl, sym, subst, ap, ◌∙◌, ◌⊎◌, inl, inr, ⊎_elim, ℕ, ◌+◌, ◌-◌, ◌^◌, ◌<◌, ◌≤◌, arith, false, true≢false, if◌then◌else◌, Some, None, IfSome, List, [], ◌∷◌}
use Rattle.std.specs.List.{slice_get}
use Rattle.std.proofs.lemmas.Bool.{cases_lt}
use Rattle.sides.specs.declared.side.Side.{Side}
use Rattle.sides.specs.declared.side.Side.TheVariants.{A, B}
use Rattle.sides.specs.Side.{peer}
use Rattle.link_model.specs.declared.flight.Flight.{Flight}
use Rattle.link_model.specs.Fate.{is_stripped, is_altered}
use Rattle.link_model.specs.Steps.{due_of, next_number, segments_sent}
use Rattle.subflow_send.specs.Records.{Record}
use Rattle.subflow_send.specs.declared.record.RecordKind.{RecordKind}
use Rattle.subflow_send.specs.declared.record.RecordKind.TheVariants.{Data, Fin, Syn}
use Rattle.subflow_send.specs.Rules.{is_fin}
use Rattle.subflow_tcp.specs.Emitting.{acknowledged_in, is_syn}
use Rattle.subflow_tcp.specs.States.{is_closed_to_segments, is_opening, is_waiting}
use Rattle.subflow_tcp.specs.declared.handshake.State.{State as EndPhase}
use Rattle.subflow_tcp.specs.declared.handshake.State.TheVariants as phase
use Rattle.subflow_tcp.specs.declared.verdicts.Meaning.{Meaning}
use Rattle.subflow_tcp.specs.declared.verdicts.Meaning.TheVariants as means
use Rattle.path_agenda.specs.declared.duty.Duty.{Duty}
use Rattle.path_agenda.specs.declared.duty.Duty.TheVariants as duties
use Rattle.path_agenda.specs.declared.duty.StepDuty.TheVariants as step_duties
use Rattle.path_core.specs.Events.{next_event}
use Rattle.path_core.specs.State.{PathState, end_at}
use Rattle.path_core.specs.Values.{Carried, values}
use Rattle.path_core.specs.declared.events.Event.TheVariants as happenings
use Rattle.world_laws.specs.declared.member.Member.TheVariants.{App, Path}
use Rattle.world_laws.specs.Actors.{Actor, ActorCrew}
use Rattle.world_laws.specs.Openings.{Start, opened_world}
use Rattle.world_laws.specs.Promises.{HasRoom, NumbersFit}
use Rattle.world_laws.specs.RoundDone.{reached}
use Rattle.world_laws.specs.Worlds.{Turn, WorldState, after_turn}
use Rattle.world_laws.proofs.Weaving.WholeRounds.{run_append}
use Rattle.stream_lanes.specs.Words.{Every}
use Rattle.whole_paths.specs.AgendaSteps.{event_side}
use Rattle.whole_paths.specs.Arrivals.{Arrival}
use Rattle.whole_paths.specs.AsFar.{IsActorAsFar, stage}
use Rattle.whole_paths.specs.Came.{AcksWhatCame, HasCome}
use Rattle.whole_paths.specs.Copies.{IsUnderWay}
use Rattle.whole_paths.specs.Due.{CopiesArriveSo}
use Rattle.whole_paths.specs.InTime.{ComesFrom}
use Rattle.whole_paths.specs.Sent.{WasSent}
use Rattle.whole_paths.specs.Exchanges.{IsFaithful}
use Rattle.whole_paths.specs.Exchanges.{IsHeldUp as held}
use Rattle.whole_paths.specs.Flights.{ComesSo, GoesOnTo, IsCopyOf}
use Rattle.whole_paths.specs.Flights.{GoesOnTo as way}
use Rattle.whole_paths.specs.Opening.{ComesAs, IsSyn, OpensSoFar, PathsOpen, SynCounts, opens_to}
use Rattle.whole_paths.specs.Syns.{EachSynComes, IsSynAwaited, IsSynSent, IsToOpen, SynGoesOn, SynsBegin, SynsEnd, SynsGoOn}
use Rattle.whole_paths.specs.Syns.IsToOpen.{asks, answers}
use Rattle.whole_paths.specs.Syns.{SynGoesOn as goes}
use Rattle.whole_paths.proofs.Acking.{same_actor}
use Rattle.whole_paths.proofs.Arrivals.{each_copy_arrives, sender_of}
use Rattle.whole_paths.proofs.Came.{what_is_acknowledged_came}
use Rattle.whole_paths.proofs.Due.{LinkMember, copies_arrive_as_sent, each_link}
use Rattle.whole_paths.proofs.Exchanges.{Known, OfPaths, SameHeader, Shown, below_limit, changed_said, each_shown, under_way, way_from}
use Rattle.whole_paths.proofs.Flying.{Frames, FramesStay, SentAtTheEnd, SentGoOn, frames_stay, sent_at_the_end, sent_go_on}
use Rattle.whole_paths.proofs.GoesOn.{goes_on_so}
use Rattle.whole_paths.proofs.InTime.{nothing_is_overdue}
use Rattle.whole_paths.proofs.Listening.{Listens, each_listens}
use Rattle.whole_paths.proofs.OpenCourses.{IsFirstPath, each_first}
use Rattle.whole_paths.proofs.Opening.{each_handshake_counts}
use Rattle.whole_paths.proofs.OpeningSyns.{each_syn_counts}
use Rattle.whole_paths.proofs.Reached.{EndsAreReached, each_is_reached, first_reached, none_left}
use Rattle.whole_paths.proofs.Sent.{what_came_was_sent}
use Rattle.whole_paths.proofs.SentSoon.{what_is_sent_comes_soon}

-- ---- states

still_sent : (x : EndPhase) → stage x ≡ 1 → x ≡ phase.SynSent
still_sent phase.SynSent is = refl
still_sent phase.Waiting is = absurd (omega (arith, is))
still_sent phase.Listen is = absurd (omega (arith, is))
still_sent phase.SynReceived is = absurd (omega (arith, is))
still_sent phase.Established is = absurd (omega (arith, is))
still_sent phase.FinWait1 is = absurd (omega (arith, is))
still_sent phase.CloseWait is = absurd (omega (arith, is))
still_sent phase.FinWait2 is = absurd (omega (arith, is))
still_sent phase.Closing is = absurd (omega (arith, is))
still_sent phase.LastAck is = absurd (omega (arith, is))
still_sent phase.TimeWait is = absurd (omega (arith, is))
still_sent phase.Dead is = absurd (omega (arith, is))

pub still_received : (x : EndPhase) → stage x ≡ 2 → x ≡ phase.SynReceived
still_received phase.SynReceived is = refl
still_received phase.Waiting is = absurd (omega (arith, is))
still_received phase.Listen is = absurd (omega (arith, is))
still_received phase.SynSent is = absurd (omega (arith, is))
still_received phase.Established is = absurd (omega (arith, is))
still_received phase.FinWait1 is = absurd (omega (arith, is))
still_received phase.CloseWait is = absurd (omega (arith, is))
still_received phase.FinWait2 is = absurd (omega (arith, is))
still_received phase.Closing is = absurd (omega (arith, is))
still_received phase.LastAck is = absurd (omega (arith, is))
still_received phase.TimeWait is = absurd (omega (arith, is))
still_received phase.Dead is = absurd (omega (arith, is))

still_listens : (x : EndPhase) → stage x ≡ 0 → is_waiting x ≡ false → x ≡ phase.Listen
still_listens phase.Listen is none = refl
still_listens phase.Waiting is none = absurd (true≢false none)
still_listens phase.SynSent is none = absurd (omega (arith, is))
still_listens phase.SynReceived is none = absurd (omega (arith, is))
still_listens phase.Established is none = absurd (omega (arith, is))
still_listens phase.FinWait1 is none = absurd (omega (arith, is))
still_listens phase.CloseWait is none = absurd (omega (arith, is))
still_listens phase.FinWait2 is none = absurd (omega (arith, is))
still_listens phase.Closing is none = absurd (omega (arith, is))
still_listens phase.LastAck is none = absurd (omega (arith, is))
still_listens phase.TimeWait is none = absurd (omega (arith, is))
still_listens phase.Dead is none = absurd (omega (arith, is))

pub apart : {X : Type 0} → A ≡ B → X
apart is = cc

-- ---- one turn of a path

module _ (p q : PathState Carried) (known : Known p) (faithful : IsFaithful p) (few : (t : Side) → segments_sent t p.link < 2 ^ 64 - 1)
    (later : (s : Side) → stage (end_at s p).tcp.state ≤ stage (end_at s q).tcp.state) (frames : Frames p q) (listens : Listens q) (opening : OpensSoFar values p q) where
  numbered : (f : Flight Carried) → IsUnderWay f p → f.number < 2 ^ 64 - 1
  numbered f there = let low = under_way (λ g. g.number ≤ segments_sent (peer g.to) p.link) f p there known.link.low in let most = few (peer f.to) in omega (arith, low, most)

  -- what a copy acknowledges that is no reset was sent
  acked_sent : (f : Flight Carried) (n : ℕ) → IsUnderWay f p → f.carried.segment.rst ≡ false → f.carried.segment.acknowledged ≡ Some n → n ≤ (end_at f.to p).tcp.send.nxt
  acked_sent f n there rst acks =
      let low = ⊎_elim
      (λ is. absurd (true≢false (sym is ∙ rst)))
      (λ low. subst (λ o. IfSome o (λ n. n ≤ (end_at (peer f.to) p).tcp.recv.edge)) acks low)
      (under_way (AcksWhatCame p) f p there known.came.copies) in
      let sent = subst (λ t. (end_at (peer f.to) p).tcp.recv.edge ≤ (end_at t p).tcp.send.nxt) (sender_of f.to) (known.was_sent (peer f.to)) in
      omega (arith, low, sent)

  -- as the end sends it
  sent_so : (s : Side) → IsToOpen s p → IsSynSent s (end_at s p) (is_stripped s (next_number s p.link) p.clock p.link.lines) (is_altered s (next_number s p.link) p.link.lines)
  sent_so s opens = record {
    asks = by_a opens;
    answers = by_b opens;
    edge = known.edge s;
    unstripped = faithful.whole.strips s (next_number s p.link) p.clock;
    unaltered = faithful.plain.alters s (next_number s p.link);
  }
    where
      by_a : IsToOpen s p → s ≡ A → acknowledged_in (end_at s p).tcp ≡ None
      by_a (asks own a b) is = ap (λ t. acknowledged_in (end_at t p).tcp) is ∙ ap (λ state. if is_opening state then None else Some p.a.tcp.recv.edge) a
      by_a (answers own a b) is = apart (sym is ∙ own)

      by_b : IsToOpen s p → s ≡ B → acknowledged_in (end_at s p).tcp ≡ Some (end_at s p).tcp.recv.edge
      by_b (asks own a b) is = apart (sym own ∙ is)
      by_b (answers own a b) is =
          ap (λ t. acknowledged_in (end_at t p).tcp) is ∙ ap (λ state. if is_opening state then None else Some p.b.tcp.recv.edge) b ∙ ap (λ t. Some (end_at t p).tcp.recv.edge) (sym is)

  module _ (s : Side) (x : ℕ) (h : IsSynAwaited s x p) where
    abbrev Goes : Type 0
    Goes = SynGoesOn s x p q

    -- an end is to take the copy still, or went further
    if_to_open : (IsToOpen s q → Goes) → Goes
    if_to_open still = by h.opens
      where
        by : IsToOpen s p → Goes
        by (asks own a b) = ⊎_elim (λ more. goes.further A more)
            (λ none_a. ⊎_elim (λ more. goes.further B more)
            (λ none_b. still (asks own
            (still_sent q.a.tcp.state (let up = later A in let was = ap stage a in omega (arith, none_a, up, was)))
            (still_listens q.b.tcp.state (let up = later B in let was = ap stage b in omega (arith, none_b, up, was)) listens)))
            (cases_lt (stage p.b.tcp.state) (stage q.b.tcp.state)))
            (cases_lt (stage p.a.tcp.state) (stage q.a.tcp.state))
        by (answers own a b) = ⊎_elim (λ more. goes.further A more)
            (λ none_a. ⊎_elim (λ more. goes.further B more)
            (λ none_b. still (answers own
            (still_sent q.a.tcp.state (let up = later A in let was = ap stage a in omega (arith, none_a, up, was)))
            (still_received q.b.tcp.state (let up = later B in let was = ap stage b in omega (arith, none_b, up, was)))))
            (cases_lt (stage p.b.tcp.state) (stage q.b.tcp.state)))
            (cases_lt (stage p.a.tcp.state) (stage q.a.tcp.state))

    same_goes : q ≡ p → Goes
    same_goes same = goes.on (subst (IsSynAwaited s x) (sym same) h)

    -- a copy comes
    module _ (f : Flight Carried) (there : IsUnderWay f p) (copy : IsCopyOf values s h.syn p f) (sent : IsSynSent s copy.sender copy.stripped copy.altered)
        (others : List Duty) (first : p.agenda ≡ duties.Step step_duties.Events ∷ others) (next : next_event p ≡ Some (happenings.Arrives (due_of f))) where
      comes_now : Arrival copy.segment p
      comes_now = each_copy_arrives s h.syn p f copy sent.unstripped sent.unaltered there (numbered f there) known.alike others first next

      syn : IsSyn copy.segment
      syn = record {
        syn = copy.of_it.syn ∙ ap is_syn h.kind;
        fin = copy.of_it.fin ∙ ap is_fin h.kind;
        rst = copy.of_it.rst;
        first = copy.of_it.position ∙ h.first;
        empty = copy.of_it.payload ∙ h.empty;
      }

      due_to : comes_now.due.to ≡ peer s
      due_to = sym (ap event_side comes_now.next) ∙ ap event_side next ∙ copy.to

      counts : SynCounts copy.segment p (end_at (peer s) p).tcp
      counts = subst (λ t. SynCounts copy.segment p (end_at t p).tcp) due_to (each_syn_counts copy.segment p comes_now faithful.joined syn)

      header : SameHeader copy.segment f.carried.segment
      header = changed_said p.profile.spelling s copy.segment copy.stripped copy.altered f.carried copy.carried

      side_is : (c : ComesAs p means.Opens) → c.copy.due.to ≡ peer s
      side_is c = sym (ap event_side c.copy.next) ∙ ap event_side next ∙ copy.to

      -- what it means takes the end further
      takes_further : (m : Meaning) → ComesAs p m → stage (end_at (peer s) p).tcp.state < opens_to m → Goes
      takes_further m c less = ⊎_elim
          (λ same. same_goes same)
          (λ up. goes.further (peer s) (let high = subst (λ t. opens_to m ≤ stage (end_at t q).tcp.state) (sym (ap event_side c.copy.next) ∙ ap event_side next ∙ copy.to) up in omega (arith, less, high)))
          (opening.opens c.copy m c.is)

      syn_comes : Goes
      syn_comes = by h.opens
        where
          acks : (n : ℕ) → copy.sender.tcp.recv.edge ≡ n → s ≡ B → copy.segment.acknowledged ≡ Some n
          acks n same is = copy.says.acknowledged ∙ sent.answers is ∙ ap (λ n. Some n) same

          by : IsToOpen s p → Goes
          by (asks own a b) =
              let b_there : (end_at (peer s) p).tcp.state ≡ phase.Listen = ap (λ t. (end_at (peer t) p).tcp.state) own ∙ b in
              takes_further means.Opens (counts.asks b_there (copy.says.acknowledged ∙ sent.asks own)) (let low = ap stage b_there in omega (arith, low))
          by (answers own a b) =
              let a_there : (end_at (peer s) p).tcp.state ≡ phase.SynSent = ap (λ t. (end_at (peer t) p).tcp.state) own ∙ a in
              let n : ℕ = copy.sender.tcp.recv.edge in
              let says : copy.segment.acknowledged ≡ Some n = acks n refl own in
              takes_further (means.Accepts n)
              (counts.answers n a_there (below_limit p known (peer s)) says sent.edge
              (subst (λ t. n ≤ (end_at t p).tcp.send.nxt) copy.to (acked_sent f n there (header.rst ∙ copy.of_it.rst) (header.acknowledged ∙ says))))
              (let low = ap stage a_there in omega (arith, low))

    goes_by : (go : GoesOnTo values s h.syn x p q) → ComesSo (IsSynSent s) go → Goes
    goes_by (way.on next) so = if_to_open (λ opens. goes.on (record { opens = opens; syn = h.syn; kind = h.kind; first = h.first; empty = h.empty; way = next; sent = so }))
    goes_by (way.arrives f low there copy others first next) so = syn_comes f there copy so others first next
    goes_by (way.news news) so = goes.held_up (held.news news)
    goes_by (way.harmed is) so = goes.held_up (held.harmed s is)
    goes_by (way.gone dead) so = goes.held_up (held.gone s (inr dead))
    goes_by (way.dies line next is dead) so = goes.held_up (held.dies line next is dead)

    syn_goes : SentGoOn (IsSynSent s) values (Path p) (Path q) → Goes
    syn_goes sent = let go = sent s h.syn x (few s) (λ is_first. sent_so s h.opens) h.way h.sent in goes_by go.0 go.1

-- ---- how it begins

module _ (start : Start) (p : PathState Carried) (known : (s : Side) (r : Record) (others : List Record) → (end_at s p).tcp.send.records ≡ r ∷ others → r.kind ≡ Data → 0 < r.pos) (reached_p : EndsAreReached p)
    (first : IsFirstPath start p) (sent : (s : Side) → SentAtTheEnd (IsSynSent s) values p) where
  syns_begin : SynsBegin p
  syns_begin over s opens none = by (end_at s p).tcp.send.records refl
    where
      early : IsToOpen s p → (x : EndPhase) → (end_at s p).tcp.state ≡ x → (x ≡ phase.SynSent) ⊎ (x ≡ phase.SynReceived)
      early (asks own a b) x is = inl (sym is ∙ ap (λ t. (end_at t p).tcp.state) own ∙ a)
      early (answers own a b) x is = inr (sym is ∙ ap (λ t. (end_at t p).tcp.state) own ∙ b)

      state : ((end_at s p).tcp.state ≡ phase.SynSent) ⊎ ((end_at s p).tcp.state ≡ phase.SynReceived)
      state = early opens (end_at s p).tcp.state refl

      unfinished : (end_at s p).tcp.send.finished ≡ false
      unfinished = ⊎_elim (λ is. first.unfinished s (rw is refl)) (λ is. first.unfinished s (rw is refl)) state

      begun : 1 ≤ (end_at s p).tcp.send.nxt
      begun = ⊎_elim (λ is. first.begun s (rw is refl)) (λ is. first.begun s (rw is refl)) state

      living : is_closed_to_segments (end_at s p).tcp.state ≡ false
      living = ⊎_elim (λ is. ap is_closed_to_segments is) (λ is. ap is_closed_to_segments is) state

      by : (rs : List Record) → (end_at s p).tcp.send.records ≡ rs → IsSynAwaited s (p.clock + 60000 + 400) p
      by [] is = absurd (let all = none_left (end_at s p).tcp (reached_p s) is in omega (arith, all, none, begun))
      by (r ∷ others) is = by_kind r.kind refl
        where
          there : slice_get (end_at s p).tcp.send.records 0 ≡ Some r
          there = ap (λ (rs : List Record). slice_get rs 0) is

          low : r.pos ≤ (end_at s p).tcp.send.una
          low = first_reached (end_at s p).tcp r others (reached_p s) is

          by_kind : (k : RecordKind) → r.kind ≡ k → IsSynAwaited s (p.clock + 60000 + 400) p
          by_kind Data kind = absurd (let behind = known s r others is kind in omega (arith, behind, low, none))
          by_kind Fin kind = absurd ((first.kinds s unfinished).each 0 r there kind)
          by_kind Syn kind =
              let start_way = sent s over s living r others is in
              record { opens = opens; syn = r; kind = kind; first = omega (arith, low, none); empty = (first.syns s).each 0 r there kind; way = start_way.0; sent = start_way.1 }

-- ---- the world

-- how far a path is, as an actor is that far
pub member_later : (p q : PathState Carried) → IsActorAsFar (Path p) (Path q) → (s : Side) → stage (end_at s p).tcp.state ≤ stage (end_at s q).tcp.state
member_later p q far A = far.a.subflow.state
member_later p q far B = far.b.subflow.state

turn_goes : (m n : Actor Carried) → OfPaths Known m → ((s : Side) → SentGoOn (IsSynSent s) values m n) → FramesStay m n → OfPaths (λ q. Listens q) n → PathsOpen values m n → IsActorAsFar m n → SynsGoOn m n
turn_goes (App a) (App b) known sent frames listens opens far = tt
turn_goes (Path p) (Path q) known sent frames listens opens far = λ faithful few s x h. syn_goes p q known faithful few (member_later p q far) frames listens opens s x h (sent s)
turn_goes (App a) (Path q) known sent frames listens opens far = absurd opens
turn_goes (Path p) (App b) known sent frames listens opens far = absurd opens

member_known : (m : Actor Carried) → OfPaths Shown m → OfPaths EndsAreReached m → OfPaths HasCome m → OfPaths WasSent m → LinkMember m → OfPaths CopiesArriveSo m → OfPaths (λ p. ComesFrom p.clock p) m → OfPaths Known m
member_known (App a) shown reached_p came was_sent link alike past = tt
member_known (Path p) shown reached_p came was_sent link alike past =
    record { tells = shown.tells; behind = shown.behind; edge = shown.edge; reached = reached_p; came = came; was_sent = was_sent; link = link; alike = alike; past = past }

pub each_known : (start : Start) (turns : List Turn) → HasRoom start → NumbersFit start → (actor : ℕ) (c : ActorCrew Carried) → slice_get (reached values start turns).crew actor ≡ Some c → OfPaths Known c.member
each_known start turns size fit actor c at =
    member_known c.member (each_shown start turns size fit actor c at) ((each_is_reached values start turns).each actor c at) ((what_is_acknowledged_came start turns).each actor c at) ((what_came_was_sent start turns size).each actor c at)
    ((each_link values start turns).each actor c at) ((copies_arrive_as_sent values start turns).each actor c at) ((nothing_is_overdue values start turns).each actor c at)

syns_by_turns : (start : Start) (turns : List Turn) → HasRoom start → NumbersFit start → let w = reached values start turns in (turn : Turn) (actor : ℕ) (c : ActorCrew Carried) → slice_get w.crew actor ≡ Some c
    → (d : ActorCrew Carried) × (slice_get (after_turn values turn w).crew actor ≡ Some d) × SynsGoOn c.member d.member
syns_by_turns start turns size fit turn actor c at =
    let w = reached values start turns in
    let v = after_turn values turn w in
    let opens = each_handshake_counts values w turn actor c at in
    let d : ActorCrew Carried = opens.0 in
    let later : (λ (u : WorldState Carried). Every (λ (x : ActorCrew Carried). OfPaths (λ q. Listens q) x.member) u.crew) v =
    subst (λ (u : WorldState Carried). Every (λ (x : ActorCrew Carried). OfPaths (λ q. Listens q) x.member) u.crew) (run_append values turns (turn ∷ []) (opened_world start)) (each_listens values start (turns ++ turn ∷ [])) in (
      d,
      opens.1,
      turn_goes c.member d.member (each_known start turns size fit actor c at)
          (λ s. same_actor (λ x. SentGoOn (IsSynSent s) values c.member x.member) v actor d opens.1 (sent_go_on (IsSynSent s) values w (nothing_is_overdue values start turns) ((what_is_sent_comes_soon values).numbered start turns) turn actor c at))
          (same_actor (λ x. FramesStay c.member x.member) v actor d opens.1 (frames_stay values w turn actor c at))
          (later.each actor d opens.1)
          opens.2
          (same_actor (λ x. IsActorAsFar c.member x.member) v actor d opens.1 (let found = (goes_on_so values w (turn ∷ [])).crew actor c at in (found.0, found.1, found.2.member))),
    )

member_begins : (start : Start) (m : Actor Carried) → OfPaths Known m → OfPaths (IsFirstPath start) m → ((s : Side) → OfPaths (SentAtTheEnd (IsSynSent s) values) m) → OfPaths SynsBegin m
member_begins start (App a) known first sent = tt
member_begins start (Path p) known first sent = syns_begin start p known.behind known.reached first sent

member_ends : (m : Actor Carried) → OfPaths (λ p. ComesFrom p.clock p) m → OfPaths SynsEnd m
member_ends (App a) past = tt
member_ends (Path p) past = λ s x h. way_from p past s h.syn x h.way

pub each_syn_comes : EachSynComes
each_syn_comes = record {
  begin = λ start turns size fit c at. member_begins start c.member (each_known start turns size fit 2 c at) (each_first start turns size c at) (λ s. sent_at_the_end (IsSynSent s) values start turns 2 c at);
  end = λ start turns actor c at. member_ends c.member ((nothing_is_overdue values start turns).each actor c at);
  goes_on = syns_by_turns;
}
