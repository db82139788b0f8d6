-- A copy of B's first piece comes to A's end, which takes it and hears its first DSS.
use Rattle.std.proofs.Common.{◌≡◌, refl, sym, subst, ap, ◌∙◌, inl, inr, ⊎_elim, ℕ, ◌-◌, ◌^◌, ◌<◌, ◌≤◌, arith, Bool, true, false, true≢false, if◌then◌else◌, Option, Some, None, IfSome, List, [], ◌∷◌, ◌++◌}
use Rattle.std.specs.List.{slice_get}
use Rattle.std.proofs.lemmas.Bool.{both_ways, cases_lt}
use Rattle.sides.specs.declared.side.Side.{Side}
use Rattle.sides.specs.declared.side.Side.TheVariants.{A, B}
use Rattle.sides.specs.Side.{peer}
use Rattle.link_model.specs.declared.flight.Flight.{Flight}
use Rattle.link_model.specs.Steps.{due_of, next_number, segments_sent}
use Rattle.subflow_send.specs.Records.{Record}
use Rattle.subflow_send.specs.declared.record.RecordKind.TheVariants.{Data}
use Rattle.subflow_tcp.specs.Emitting.{is_syn}
use Rattle.subflow_tcp.specs.States.{is_closed_to_segments, is_opening}
use Rattle.subflow_tcp.specs.declared.handshake.State.{State as EndPhase}
use Rattle.subflow_tcp.specs.declared.handshake.State.TheVariants as phase
use Rattle.path_agenda.specs.declared.duty.Duty.{Duty}
use Rattle.path_agenda.specs.declared.duty.Duty.TheVariants as duties
use Rattle.path_agenda.specs.declared.duty.StepDuty.TheVariants as step_duties
use Rattle.path_core.specs.Events.{next_event}
use Rattle.path_core.specs.End.{PathEnd}
use Rattle.path_core.specs.State.{PathState, end_at}
use Rattle.path_core.specs.Values.{Carried, values}
use Rattle.path_core.specs.declared.events.Event.TheVariants as happenings
use Rattle.world_laws.specs.declared.member.Member.TheVariants.{App, Path}
use Rattle.world_laws.specs.Actors.{Actor, ActorCrew}
use Rattle.world_laws.specs.Openings.{Start, opened_world}
use Rattle.world_laws.specs.RoundDone.{reached}
use Rattle.world_laws.specs.Worlds.{Turn, WorldState, after_turn}
use Rattle.world_laws.proofs.Weaving.WholeRounds.{run_append}
use Rattle.whole_paths.specs.AgendaSteps.{event_side}
use Rattle.whole_paths.specs.Arrivals.{Arrival}
use Rattle.whole_paths.specs.AsFar.{IsActorAsFar, stage}
use Rattle.whole_paths.specs.Came.{AcksWhatCame}
use Rattle.whole_paths.specs.Copies.{IsUnderWay}
use Rattle.whole_paths.specs.Exchanges.{IsFaithful}
use Rattle.whole_paths.specs.Flights.{ComesSo, GoesOnTo, IsCopyOf}
use Rattle.whole_paths.specs.Flights.{GoesOnTo as way}
use Rattle.whole_paths.proofs.Acking.{same_actor}
use Rattle.whole_paths.proofs.Arrivals.{each_copy_arrives, sender_of}
use Rattle.whole_paths.proofs.Exchanges.{Known, OfPaths, SameHeader, below_limit, changed_said, under_way}
use Rattle.whole_paths.proofs.Flying.{Frames, FramesStay, SentAtTheEnd, SentGoOn, frames_stay, sent_at_the_end, sent_go_on}
use Rattle.whole_paths.proofs.GoesOn.{goes_on_so}
use Rattle.whole_paths.proofs.InTime.{nothing_is_overdue}
use Rattle.std.specs.Prelude.{option_map}
use Rattle.path_segments.specs.Heard.{HeardSegment}
use Rattle.path_segments.specs.Laws.{meant}
use Rattle.path_segments.specs.Spelled.{PlainSegment}
use Rattle.path_segments.specs.declared.position.HeardPosition.TheVariants.{At}
use Rattle.path_agenda.specs.declared.heard.Heard.TheVariants as says
use Rattle.subflow_tcp.specs.Judging.{is_acceptable, meaning_of}
use Rattle.subflow_tcp.specs.States.{is_dead}
use Rattle.actor_desk.specs.declared.ask.Note.{Note}
use Rattle.path_core.specs.Arrival.{copy_of, heard_in, acknowledged_in as heard_position}
use Rattle.path_core.specs.Choices.{item_at}
use Rattle.path_core.specs.Judged.{judged_of}
use Rattle.path_core.specs.MpJoin.{is_joined}
use Rattle.path_core.specs.OptionsIn.{items_of, options_heard}
use Rattle.path_core.specs.Profile.{Profile}
use Rattle.path_core.specs.declared.judged.Judged.TheVariants as judged
use Rattle.path_core.specs.Values.{as_arrived}
use Rattle.whole_paths.specs.Brought.{Brings, Comes, IsToReset}
use Rattle.whole_paths.specs.SignPieces.{EachSignPieceComes, IsSignPieceAwaited, ShowsADss, SignPieceGoesOn, SignPiecesBegin, SignPiecesGoOn, WantsASign}
use Rattle.whole_paths.specs.SignPieces.IsSignPieceAwaited.{comes, hears}
use Rattle.whole_paths.specs.SignPieces.{SignPieceGoesOn as goes}
use Rattle.whole_paths.specs.Flights.{IsOnItsWay, IsSentSo}
use Rattle.whole_paths.specs.Mild.{EndsGoByMappings, IsMildStart, IsNeverBroken, IsUnbroken}
use Rattle.whole_paths.specs.Opened.{OpensOn as opened}
use Rattle.whole_paths.specs.OpeningConfirmed.{Confirming, ConfirmedOn, PathsConfirm}
use Rattle.whole_paths.specs.OpeningConfirmed.{ConfirmedOn as confirmed}
use Rattle.whole_paths.specs.OpeningConfirmed.Confirms.{dss}
use Rattle.whole_paths.proofs.Arrivals.{taken_so}
use Rattle.whole_paths.proofs.Breaking.{never_breaks}
use Rattle.world_laws.proofs.Keys.ToldAreOwn.{keys_never_differ}
use Rattle.world_laws.specs.Outcomes.{notes_or, was_told}
use Rattle.world_laws.specs.Promises.{tells_other_key}
use Rattle.whole_paths.proofs.Mild.{mapping_is_kept}
use Rattle.whole_paths.proofs.OpeningConfirmed.{each_confirmation_counts, signs_are_said}
use Rattle.path_core.specs.DssOut.{piece_mapping}
use Rattle.whole_paths.proofs.Syns.{each_known}
use Rattle.whole_paths.proofs.SentSoon.{what_is_sent_comes_soon}

-- ---- a state

unopening : (state : EndPhase) → 2 ≤ stage state → is_opening state ≡ false
unopening phase.SynSent high = absurd (omega (arith, high))
unopening _ high = refl

unclosed : (state : EndPhase) → 2 ≤ stage state → is_dead state ≡ false → is_closed_to_segments state ≡ false
unclosed phase.Waiting high living = absurd (omega (arith, high))
unclosed phase.Listen high living = absurd (omega (arith, high))
unclosed phase.Dead high living = absurd (true≢false living)
unclosed _ high living = refl

-- ---- what B's end sends

by_dss : (c : Profile) (r : Record) (e : PathEnd) → r.kind ≡ Data → e.modes.identity ≡ false → e.modes.own_infinite ≡ None → 2 ≤ stage e.tcp.state → 0 < e.tcp.recv.edge → (strips alters : Bool) → strips ≡ false → alters ≡ false
    → ShowsADss c r e strips alters
by_dss c r e kind mapped finite high some strips alters whole plain = record {
  mapping = Some (piece_mapping c B r);
  options = rw (kind, mapped, finite) refl;
  acknowledges = ap (λ b. if b then None else Some e.tcp.recv.edge) (unopening e.tcp.state high);
  edge = some;
  unstripped = whole;
  unaltered = plain;
}

-- ---- one turn of a path

module _ (p q : PathState Carried) (known : Known p) (faithful : IsFaithful p) (few : (t : Side) → segments_sent t p.link < 2 ^ 64 - 1) (far : IsActorAsFar (Path p) (Path q)) (frames : Frames p q)
    (maps : EndsGoByMappings p) (steps : List Note) (turn : Confirming values steps p q)
    (unbroken : IsUnbroken q) (later_maps : EndsGoByMappings q) (own_key : was_told tells_other_key steps ≡ false) where
  numbered : (f : Flight Carried) → IsUnderWay f p → f.number < 2 ^ 64 - 1
  numbered f there = let low = under_way (λ g. g.number ≤ segments_sent (peer g.to) p.link) f p there known.link.low in let most = few (peer f.to) in omega (arith, low, most)

  acked_sent : (f : Flight Carried) (n : ℕ) → IsUnderWay f p → f.carried.segment.rst ≡ false → f.carried.segment.acknowledged ≡ Some n → n ≤ (end_at f.to p).tcp.send.nxt
  acked_sent f n there rst acks =
      let low = ⊎_elim
      (λ is. absurd (true≢false (sym is ∙ rst)))
      (λ low. subst (λ o. IfSome o (λ n. n ≤ (end_at (peer f.to) p).tcp.recv.edge)) acks low)
      (under_way (AcksWhatCame p) f p there known.came.copies) in
      let sent = subst (λ t. (end_at (peer f.to) p).tcp.recv.edge ≤ (end_at t p).tcp.send.nxt) (sender_of f.to) (known.was_sent (peer f.to)) in
      omega (arith, low, sent)

  module _ (x : ℕ) where
    abbrev Goes : Type 0
    Goes = SignPieceGoesOn x p q

    if_unclear : p.a.modes.clear ≡ false → (q.a.modes.clear ≡ false → Goes) → Goes
    if_unclear unclear still = by q.a.modes.clear refl
      where
        by : (b : Bool) → q.a.modes.clear ≡ b → Goes
        by true is = goes.opens (opened.clears A unclear is)
        by false is = still is

    never_reset : IsToReset A q.agenda → ⊥
    never_reset (IsToReset.broken reason is) = unbroken.broken A reason is
    never_reset (IsToReset.is_reset reason is) = unbroken.is_reset A reason is
    never_reset (IsToReset.stopped is) = unbroken.stopped A is

    confirmed_goes : p.a.modes.clear ≡ false → ConfirmedOn A steps q → Goes
    confirmed_goes unclear (confirmed.on h) = if_unclear unclear (λ still. goes.on (hears still h))
    confirmed_goes unclear (confirmed.gone dead) = goes.opens (opened.gone A (inr dead))
    confirmed_goes unclear (confirmed.reset is) = absurd (never_reset is)
    confirmed_goes unclear (confirmed.plain is) = absurd (both_ways q.a.modes.identity (later_maps A).identity is)
    confirmed_goes unclear (confirmed.refused is) = absurd (both_ways (was_told tells_other_key steps) own_key is)

    module _ (wants : WantsASign p) (r : Record) (kind : r.kind ≡ Data) (at : r.pos ≡ 1) (next : IsOnItsWay values B r x p) (so : IsSentSo (ShowsADss p.profile r) next) where
      same_goes : q ≡ p → Goes
      same_goes same = goes.on (subst (IsSignPieceAwaited x) (sym same) (comes wants r kind at next so))

      on_goes : (w : IsOnItsWay values B r x q) → IsSentSo (ShowsADss p.profile r) w → Goes
      on_goes w w_so = if_unclear wants.unclear (λ still. ⊎_elim
          (λ more. goes.opens (opened.comes A wants.unclear more))
          (λ same. goes.on (comes (record {
            unclear = still;
            high = let was = wants.high in let up = far.a.subflow.state in omega (arith, was, up);
            clear = far.b.clear wants.clear;
            met = let was = wants.met in let up = far.b.subflow.state in omega (arith, was, up);
            edge = let was = wants.edge in let up = far.a.subflow.received in omega (arith, same, up, was);
          }) r kind at w (subst (λ c. IsSentSo (ShowsADss c r) w) (sym frames.profile) w_so)))
          (cases_lt p.a.tcp.recv.edge q.a.tcp.recv.edge))

      -- a copy comes
      module _ (f : Flight Carried) (there : IsUnderWay f p) (copy : IsCopyOf values B r p f) (sent : ShowsADss p.profile r copy.sender copy.stripped copy.altered)
          (others : List Duty) (first : p.agenda ≡ duties.Step step_duties.Events ∷ others) (then_event : next_event p ≡ Some (happenings.Arrives (due_of f))) where
        abbrev copied : PlainSegment
        copied = copy.segment

        comes_now : Arrival copied p
        comes_now = each_copy_arrives B r p f copy sent.unstripped sent.unaltered there (numbered f there) known.alike others first then_event

        abbrev to : Side
        to = comes_now.due.to

        to_a : to ≡ A
        to_a = sym (ap event_side comes_now.next) ∙ ap event_side then_event ∙ copy.to

        abbrev e : PathEnd
        e = end_at to p

        abbrev said : HeardSegment
        said = options_heard e (meant copied)

        abbrev is_heard : Comes values p
        is_heard = record {
          others = comes_now.others;
          first = comes_now.first;
          due = comes_now.due;
          next = comes_now.next;
          segment = meant copied;
          heard = ap (λ (o : Option (Flight Carried)). heard_in values to o p) comes_now.there ∙ ap (λ (c : Carried). Some (meant (as_arrived c))) comes_now.carried;
        }

        acks : copied.acknowledged ≡ Some copy.sender.tcp.recv.edge
        acks = copy.says.acknowledged ∙ sent.acknowledges

        header : SameHeader copied f.carried.segment
        header = changed_said p.profile.spelling B copied copy.stripped copy.altered f.carried copy.carried

        was_sent : copy.sender.tcp.recv.edge ≤ e.tcp.send.nxt
        was_sent = subst (λ t. copy.sender.tcp.recv.edge ≤ (end_at t p).tcp.send.nxt) (copy.to ∙ sym to_a) (acked_sent f copy.sender.tcp.recv.edge there (header.rst ∙ copy.of_it.rst) (header.acknowledged ∙ acks))

        edge_there : e.tcp.recv.edge ≡ 1
        edge_there = subst (λ t. (end_at t p).tcp.recv.edge ≡ 1) (sym to_a) wants.edge

        accepted : is_acceptable e.tcp.recv.edge copied.position (copy_of said) ≡ true
        accepted = ap (λ n. is_acceptable n copied.position (copy_of said)) edge_there ∙ ap (λ n. is_acceptable 1 n (copy_of said)) (copy.of_it.position ∙ at)

        abbrev brings : is_dead e.tcp.state ≡ false → Brings values p
        brings living = record {
          copy = is_heard;
          position = copied.position;
          acknowledged = copy.sender.tcp.recv.edge;
          taken = ap (λ j. judged_of j said.rst (items_of j to said) (meaning_of (copy_of said) e.tcp) e) faithful.joined
              ∙ ap (λ m. judged.As m) (taken_so (copy_of said) e.tcp copied.position copy.sender.tcp.recv.edge (subst (λ t. 2 ≤ stage (end_at t p).tcp.state) (sym to_a) wants.high) living (below_limit p known to)
              (copy.of_it.syn ∙ ap is_syn kind) copy.of_it.rst refl (ap (λ (o : Option ℕ). heard_position (option_map (λ n. At n) o)) acks) accepted sent.edge was_sent);
        }

        item : item_at 0 (items_of (is_joined p.profile) to (options_heard e (meant copied))) ≡ Some says.Dss
        item = signs_are_said.dss copied e (is_joined p.profile) to (Some copy.sender.receiving.next) sent.mapping [] (copy.says.options ∙ sent.options) (maps to).identity

        piece_comes : Goes
        piece_comes = by (is_dead e.tcp.state) refl
          where
            by : (b : Bool) → is_dead e.tcp.state ≡ b → Goes
            by true is = goes.opens (opened.gone A (inl (subst (λ t. is_dead (end_at t p).tcp.state ≡ true) to_a is)))
            by false is = ⊎_elim
                (λ same. same_goes same)
                (λ told. confirmed_goes wants.unclear (subst (λ t. ConfirmedOn t steps q) to_a told))
                (turn.tells (brings is) 0 says.Dss (dss to_a) item)

      goes_by : (go : GoesOnTo values B r x p q) → ComesSo (ShowsADss p.profile r) go → Goes
      goes_by (way.on w) w_so = on_goes w w_so
      goes_by (way.arrives f low there copy others first then_event) w_so = piece_comes f there copy w_so others first then_event
      goes_by (way.news news) w_so = goes.opens (opened.news B wants.unclear news)
      goes_by (way.harmed is) w_so = goes.opens (opened.harmed B is)
      goes_by (way.gone dead) w_so = goes.opens (opened.gone B (inr dead))
      goes_by (way.dies line event is dead) w_so = goes.opens (opened.gone A (inr dead))

      record_goes : SentGoOn (ShowsADss p.profile r) values (Path p) (Path q) → Goes
      record_goes sent =
          let go = sent B r x (few B)
          (λ is_first. by_dss p.profile r p.b kind (maps B).identity (maps B).own wants.met (known.edge B) _ _ (faithful.whole.strips B (next_number B p.link) p.clock) (faithful.plain.alters B (next_number B p.link)))
          next so in
          goes_by go.0 go.1

    piece_goes : ((r : Record) → SentGoOn (ShowsADss p.profile r) values (Path p) (Path q)) → IsSignPieceAwaited x p → Goes
    piece_goes sent (comes wants r kind at next so) = record_goes wants r kind at next so (sent r)
    piece_goes sent (hears unclear h) = confirmed_goes unclear (turn.stays A h)

-- ---- the world

turn_goes : (m n : Actor Carried) → (steps : List Note) → OfPaths Known m → ((Was : PathEnd → Bool → Bool → Type 0) → SentGoOn Was values m n) → FramesStay m n → OfPaths EndsGoByMappings m → PathsConfirm values steps m n → IsActorAsFar m n
    → OfPaths IsNeverBroken n → OfPaths EndsGoByMappings n → was_told tells_other_key steps ≡ false → SignPiecesGoOn m n
turn_goes (App a) (App b) steps known sent frames maps confirms far breaks later_maps own_key = tt
turn_goes (Path p) (Path q) steps known sent frames maps confirms far breaks later_maps own_key = λ faithful few x h.
    let first : is_joined q.profile ≡ false = ap is_joined frames.profile ∙ faithful.joined in
    piece_goes p q known faithful few far frames maps steps confirms (breaks first) later_maps own_key x (λ r. sent (ShowsADss p.profile r)) h
turn_goes (App a) (Path q) steps known sent frames maps confirms far breaks later_maps own_key = absurd confirms
turn_goes (Path p) (App b) steps known sent frames maps confirms far breaks later_maps own_key = absurd confirms

pieces_by_turns : (start : Start) (turns : List Turn) → IsMildStart start → let w = reached values start turns in (turn : Turn) (actor : ℕ) (c : ActorCrew Carried) → slice_get w.crew actor ≡ Some c
    → (d : ActorCrew Carried) × (slice_get (after_turn values turn w).crew actor ≡ Some d) × SignPiecesGoOn c.member d.member
pieces_by_turns start turns mild turn actor c at =
    let w = reached values start turns in
    let v = after_turn values turn w in
    let more : List Turn = turns ++ turn ∷ [] in
    let told = each_confirmation_counts values w turn actor c at in
    let d : ActorCrew Carried = told.0 in
    let there : slice_get (reached values start more).crew actor ≡ Some d = subst (λ (u : WorldState Carried). slice_get u.crew actor ≡ Some d) (sym (run_append values turns (turn ∷ []) (opened_world start))) told.1 in (
      d,
      told.1,
      turn_goes c.member d.member d.list (each_known start turns mild.plain.size mild.fit actor c at)
          (λ Was. same_actor (λ x. SentGoOn Was values c.member x.member) v actor d told.1 (sent_go_on Was values w (nothing_is_overdue values start turns) ((what_is_sent_comes_soon values).numbered start turns) turn actor c at))
          (same_actor (λ x. FramesStay c.member x.member) v actor d told.1 (frames_stay values w turn actor c at))
          ((mapping_is_kept start turns mild).each actor c at)
          told.2
          (same_actor (λ x. IsActorAsFar c.member x.member) v actor d told.1 (let found = (goes_on_so values w (turn ∷ [])).crew actor c at in (found.0, found.1, found.2.member)))
          ((never_breaks start more mild).each actor d there)
          ((mapping_is_kept start more mild).each actor d there)
          (ap (λ o. was_told tells_other_key (notes_or o)) (sym there) ∙ keys_never_differ start more actor),
    )

piece_begins : (p : PathState Carried) → ((r : Record) → SentAtTheEnd (ShowsADss p.profile r) values p) → SignPiecesBegin p
piece_begins p sent over living wants r others is kind at =
    let begun = sent r over B (unclosed p.b.tcp.state wants.met living) r others is in comes wants r kind at begun.0 begun.1

member_begins : (m : Actor Carried) → ((Was : PathEnd → Bool → Bool → Type 0) → OfPaths (SentAtTheEnd Was values) m) → OfPaths SignPiecesBegin m
member_begins (App a) sent = tt
member_begins (Path p) sent = piece_begins p (λ r. sent (ShowsADss p.profile r))

pub each_sign_piece_comes : EachSignPieceComes
each_sign_piece_comes = record {
  begin = λ start turns mild actor c at. member_begins c.member (λ Was. sent_at_the_end Was values start turns actor c at);
  goes_on = pieces_by_turns;
}
