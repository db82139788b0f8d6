-- B asks for the Data ACK of its DATA_FIN, and A's end, which takes that at RCV.NXT, hears its first DSS.
use Rattle.std.proofs.Common.{◌≡◌, refl, sym, subst, ap, ◌∙◌, inl, inr, ⊎_elim, ℕ, ◌-◌, ◌^◌, ◌<◌, ◌≤◌, arith, Bool, true, false, true≢false, if◌then◌else◌, Some, None, IfSome, List, [], ◌∷◌, ◌++◌}
use Rattle.std.specs.List.{slice_get}
use Rattle.std.proofs.lemmas.Bool.{both_ways, cases_lt}
use Rattle.sides.specs.declared.side.Side.{Side}
use Rattle.sides.specs.declared.side.Side.TheVariants.{A, B}
use Rattle.sides.specs.Side.{peer}
use Rattle.link_model.specs.declared.flight.Flight.{Flight}
use Rattle.link_model.specs.Steps.{due_of, next_number, segments_sent}
use Rattle.path_agenda.specs.declared.duty.Duty.{Duty}
use Rattle.path_agenda.specs.declared.duty.Duty.TheVariants as duties
use Rattle.path_agenda.specs.declared.duty.StepDuty.TheVariants as step_duties
use Rattle.path_core.specs.Events.{next_event}
use Rattle.path_core.specs.End.{PathEnd}
use Rattle.path_core.specs.State.{PathState, end_at}
use Rattle.path_core.specs.Values.{Carried, values}
use Rattle.path_core.specs.declared.events.Event.TheVariants as happenings
use Rattle.world_laws.specs.declared.member.Member.TheVariants.{App, Path}
use Rattle.world_laws.specs.Actors.{Actor, ActorCrew}
use Rattle.world_laws.specs.Openings.{Start, opened_world}
use Rattle.world_laws.specs.RoundDone.{reached}
use Rattle.world_laws.specs.Worlds.{Turn, WorldState, after_turn}
use Rattle.world_laws.proofs.Weaving.WholeRounds.{run_append}
use Rattle.whole_paths.specs.AgendaSteps.{event_side}
use Rattle.whole_paths.specs.AsFar.{IsActorAsFar, stage}
use Rattle.whole_paths.specs.Came.{AcksWhatCame}
use Rattle.whole_paths.specs.Copies.{IsUnderWay}
use Rattle.whole_paths.specs.InTime.{ComesFrom}
use Rattle.whole_paths.specs.Exchanges.{IsFaithful}
use Rattle.whole_paths.proofs.Acking.{same_actor}
use Rattle.whole_paths.proofs.Exchanges.{Known, OfPaths, SameHeader, below_limit, changed_said, under_way}
use Rattle.whole_paths.proofs.Flying.{Frames, FramesStay, frames_stay}
use Rattle.whole_paths.proofs.GoesOn.{goes_on_so}
use Rattle.whole_paths.proofs.InTime.{nothing_is_overdue}
use Rattle.path_segments.specs.Heard.{HeardSegment}
use Rattle.path_segments.specs.Laws.{meant}
use Rattle.path_segments.specs.Spelled.{PlainSegment}
use Rattle.path_agenda.specs.declared.heard.Heard.TheVariants as says
use Rattle.subflow_tcp.specs.States.{is_dead}
use Rattle.actor_desk.specs.declared.ask.Note.{Note}
use Rattle.path_core.specs.Choices.{item_at}
use Rattle.path_core.specs.MpJoin.{is_joined}
use Rattle.path_core.specs.OptionsIn.{items_of, options_heard}
use Rattle.path_core.specs.Profile.{Profile}
use Rattle.whole_paths.specs.Brought.{Brings, IsToReset}
use Rattle.whole_paths.specs.Mild.{EndsGoByMappings, IsMildStart, IsNeverBroken, IsUnbroken}
use Rattle.whole_paths.specs.Opened.{OpensOn as opens_on}
use Rattle.whole_paths.specs.OpeningConfirmed.{Confirming, ConfirmedOn, PathsConfirm}
use Rattle.whole_paths.specs.OpeningConfirmed.{ConfirmedOn as confirmed}
use Rattle.whole_paths.specs.OpeningConfirmed.{IsConfirmed as sure}
use Rattle.whole_paths.proofs.Breaking.{never_breaks}
use Rattle.world_laws.proofs.Keys.ToldAreOwn.{keys_never_differ}
use Rattle.world_laws.specs.Outcomes.{notes_or, was_told}
use Rattle.world_laws.specs.Promises.{tells_other_key}
use Rattle.whole_paths.proofs.Mild.{mapping_is_kept}
use Rattle.whole_paths.proofs.OpeningConfirmed.{each_confirmation_counts, signs_are_said}
use Rattle.whole_paths.specs.DataAcksHeard.{IsToHear}
use Rattle.whole_paths.proofs.Syns.{each_known}
use Rattle.path_segments.specs.declared.segment.PathOption.TheVariants.{Dss}
use Rattle.path_core.specs.DataFin.{is_data_fin_owed}
use Rattle.path_core.specs.DssOut.{data_fin_mapping, fail_beside}
use Rattle.path_core.specs.Emission.{ack_resent}
use Rattle.path_core.specs.OptionsOut.{ack_said}
use Rattle.whole_paths.specs.DataAcksAsked.{AskComesSo, AskingGoesOn, IsAskedAgain, IsAskedSo, IsAsking}
use Rattle.whole_paths.specs.DataAcksAsked.{AskingGoesOn as asking}
use Rattle.whole_paths.specs.DataAcksAsked.{IsAskedAgain as asked}
use Rattle.whole_paths.specs.DataAcksCome.{AskArrives, ComesTaken, IsInWindow}
use Rattle.whole_paths.specs.DataAcksCome.{IsOpen as IsOpenEnd}
use Rattle.whole_paths.specs.Expiries.{IsToSendAgain}
use Rattle.whole_paths.specs.FirstSigns.{AsksByItsEnd, EachFirstSignComes, IsSignAwaited, SignGoesOn, SignsAreDue, SignsBegin, SignsGoOn, WaitsAtItsEnd}
use Rattle.whole_paths.specs.FirstSigns.IsSignAwaited.{comes, hears}
use Rattle.whole_paths.specs.FirstSigns.{SignGoesOn as goes}
use Rattle.whole_paths.specs.Reasons.{IsOutstanding as outstanding}
use Rattle.whole_paths.specs.Waits.{IsNews as news}
use Rattle.whole_paths.specs.OpeningConfirmed.Confirms.{dss}
use Rattle.whole_paths.proofs.Arrivals.{sender_of, first_joins}
use Rattle.whole_paths.proofs.DataAcksAsked.{AskedAtTheEnd, AsksComeSo, asked_at_the_end, asks_come_so}
use Rattle.whole_paths.proofs.DataAcksCome.{each_ack_comes, each_ask_arrives}
use Rattle.whole_paths.proofs.Exchanges.{all_at}
use Rattle.path_agenda.specs.Agenda.{emission, expired}
use Rattle.path_agenda.specs.declared.duty.SendDuty.TheVariants as send_duties
use Rattle.path_core.specs.OptionsOut.{opening_options}
use Rattle.link_model.specs.Fate.{is_altered, is_stripped}
use Rattle.link_model.specs.declared.flight.Due.{Due}
use Rattle.whole_paths.specs.OpeningConfirmed.{IsBehind}
use Rattle.whole_paths.proofs.Endings.{BothKnowTheirEnd}
use Rattle.whole_paths.specs.Finish.{IsPathAt}
use Rattle.whole_paths.proofs.OpenPieces.{each_knows}
use Rattle.whole_paths.proofs.OpenAsks.{EndsAskForThemselves, ends_ask_for_themselves}
use Rattle.whole_paths.proofs.Reached.{none_left}
use Rattle.whole_paths.proofs.SentSoon.{what_is_sent_comes_soon}

-- ---- what B asks

-- its DATA_FIN, at SND.NXT
module _ (c : Profile) (e : PathEnd) (third : e.modes.owes_third ≡ false) (close : e.notices.fast_closed ≡ false) (owed : is_data_fin_owed e ≡ true) where
  asks_end : ack_resent c B e ≡ ack_said c B e.tcp.send.nxt e.sending.known_end e
  asks_end = rw (third, close, owed) refl

  -- with a DSS, as the end may send one
  says_dss : e.modes.clear ≡ true → e.modes.identity ≡ false → (ack_resent c B e).options ≡ Dss (Some e.receiving.next) (data_fin_mapping c B e.sending.known_end) ∷ fail_beside e.sending.known_end e.modes
  says_dss clear mapped = ap (λ (x : PlainSegment). x.options) asks_end
      ∙ ap (λ b. if b then [] else (if e.modes.clear then Dss (Some e.receiving.next) (data_fin_mapping c B e.sending.known_end) ∷ fail_beside e.sending.known_end e.modes else opening_options c B e)) mapped
      ∙ ap (λ b. if b then Dss (Some e.receiving.next) (data_fin_mapping c B e.sending.known_end) ∷ fail_beside e.sending.known_end e.modes else opening_options c B e) clear

owed_so : (e : PathEnd) → e.modes.identity ≡ false → e.modes.own_infinite ≡ None → e.sending.fin_sent ≡ true → e.sending.close.own_acked ≡ false → is_data_fin_owed e ≡ true
owed_so e mapped finite sent unacked = rw (mapped, finite, sent, unacked) refl

-- ---- one turn of a path

module _ (p q : PathState Carried) (known : Known p) (faithful : IsFaithful p) (few : (t : Side) → segments_sent t p.link < 2 ^ 64 - 1) (far : IsActorAsFar (Path p) (Path q)) (frames : Frames p q)
    (maps : EndsGoByMappings p) (steps : List Note) (turn : Confirming values steps p q)
    (unbroken : IsUnbroken q) (later_maps : EndsGoByMappings q) (own_key : was_told tells_other_key steps ≡ false)
    (third : p.b.modes.owes_third ≡ false) (close : p.b.notices.fast_closed ≡ false) where
  numbered : (f : Flight Carried) → IsUnderWay f p → f.number < 2 ^ 64 - 1
  numbered f there = let low = under_way (λ g. g.number ≤ segments_sent (peer g.to) p.link) f p there known.link.low in let most = few (peer f.to) in omega (arith, low, most)

  acked_sent : (f : Flight Carried) (n : ℕ) → IsUnderWay f p → f.carried.segment.rst ≡ false → f.carried.segment.acknowledged ≡ Some n → n ≤ (end_at f.to p).tcp.send.nxt
  acked_sent f n there rst acks =
      let low = ⊎_elim
      (λ is. absurd (true≢false (sym is ∙ rst)))
      (λ low. subst (λ o. IfSome o (λ n. n ≤ (end_at (peer f.to) p).tcp.recv.edge)) acks low)
      (under_way (AcksWhatCame p) f p there known.came.copies) in
      let sent = subst (λ t. (end_at (peer f.to) p).tcp.recv.edge ≤ (end_at t p).tcp.send.nxt) (sender_of f.to) (known.was_sent (peer f.to)) in
      omega (arith, low, sent)

  module _ (x : ℕ) where
    abbrev Goes : Type 0
    Goes = SignGoesOn x p q

    if_unclear : p.a.modes.clear ≡ false → (q.a.modes.clear ≡ false → Goes) → Goes
    if_unclear unclear still = by q.a.modes.clear refl
      where
        by : (b : Bool) → q.a.modes.clear ≡ b → Goes
        by true is = goes.opens (opens_on.clears A unclear is)
        by false is = still is

    never_reset : IsToReset A q.agenda → ⊥
    never_reset (IsToReset.broken reason is) = unbroken.broken A reason is
    never_reset (IsToReset.is_reset reason is) = unbroken.is_reset A reason is
    never_reset (IsToReset.stopped is) = unbroken.stopped A is

    confirmed_goes : p.a.modes.clear ≡ false → ConfirmedOn A steps q → Goes
    confirmed_goes unclear (confirmed.on h) = if_unclear unclear (λ still. goes.on (hears still h))
    confirmed_goes unclear (confirmed.gone dead) = goes.opens (opens_on.gone A (inr dead))
    confirmed_goes unclear (confirmed.reset is) = absurd (never_reset is)
    confirmed_goes unclear (confirmed.plain is) = absurd (both_ways q.a.modes.identity (later_maps A).identity is)
    confirmed_goes unclear (confirmed.refused is) = absurd (both_ways (was_told tells_other_key steps) own_key is)

    module _ (unclear : p.a.modes.clear ≡ false) (high : 2 ≤ stage p.a.tcp.state) (waits : WaitsAtItsEnd p.b) (next : IsAskedAgain values B x p) (so : IsAskedSo (AsksByItsEnd p.a.tcp.recv.edge) next) where
      same_goes : q ≡ p → Goes
      same_goes same = goes.on (subst (IsSignAwaited x) (sym same) (comes unclear high waits next so))

      -- B's DATA_FIN isn't acknowledged still, or there is news
      if_unacked : (q.b.sending.close.own_acked ≡ false → Goes) → Goes
      if_unacked still = by q.b.sending.close.own_acked refl
        where
          by : (b : Bool) → q.b.sending.close.own_acked ≡ b → Goes
          by true is = goes.opens (opens_on.news B unclear (news.data_fin waits.unacked is))
          by false is = still is

      on_goes : (w : IsAskedAgain values B x q) → IsAskedSo (AsksByItsEnd p.a.tcp.recv.edge) w → Goes
      on_goes w w_so = if_unclear unclear (λ still. ⊎_elim
          (λ more. goes.opens (opens_on.comes A unclear more))
          (λ same. if_unacked (λ unacked. goes.on (comes still (let up = far.a.subflow.state in omega (arith, high, up))
          (record { clear = far.b.clear waits.clear; sent = far.b.stream.fin_sent waits.sent; unacked = unacked }) w (subst (λ n. IsAskedSo (AsksByItsEnd n) w) (let up = far.a.subflow.received in omega (arith, same, up)) w_so))))
          (cases_lt p.a.tcp.recv.edge q.a.tcp.recv.edge))

      -- a copy comes
      module _ (f : Flight Carried) (there : IsUnderWay f p) (h : IsAsking values B p f) (sent : AsksByItsEnd p.a.tcp.recv.edge h.sender h.stripped h.altered)
          (others : List Duty) (first : p.agenda ≡ duties.Step step_duties.Events ∷ others) (then_event : next_event p ≡ Some (happenings.Arrives (due_of f))) where
        abbrev copied : PlainSegment
        copied = ack_resent p.profile B h.sender

        said_is : copied ≡ ack_said p.profile B h.sender.tcp.send.nxt h.sender.sending.known_end h.sender
        said_is = asks_end p.profile h.sender sent.third sent.close sent.owed

        ask_arrives : AskArrives B p f h.sender
        ask_arrives = each_ask_arrives B p f h sent.unstripped sent.unaltered there (numbered f there) known.alike others first then_event

        abbrev to : Side
        to = ask_arrives.arrival.due.to

        to_a : to ≡ A
        to_a = ap (λ (due : Due). due.to) ask_arrives.due_is ∙ h.to

        acks : copied.acknowledged ≡ Some h.sender.tcp.recv.edge
        acks = ap (λ (x : PlainSegment). x.acknowledged) said_is

        header : SameHeader copied f.carried.segment
        header = changed_said p.profile.spelling B copied h.stripped h.altered f.carried h.carried

        window : IsInWindow copied p.a.tcp
        window = record {
          from = let at = ap (λ (x : PlainSegment). x.position) said_is in let equal = sent.nxt in omega (arith, at, equal);
          within = let at = ap (λ (x : PlainSegment). x.position) said_is in let equal = sent.nxt in omega (arith, at, equal);
          acknowledged = h.sender.tcp.recv.edge;
          acknowledges = acks;
          answered = sent.edge;
          sent = subst (λ t. h.sender.tcp.recv.edge ≤ (end_at t p).tcp.send.nxt) h.to (acked_sent f h.sender.tcp.recv.edge there (header.rst ∙ ap (λ (x : PlainSegment). x.rst) said_is) (header.acknowledged ∙ acks));
        }

        opened : is_dead p.a.tcp.state ≡ false → IsOpenEnd (end_at to p).tcp
        opened living = subst (λ t. IsOpenEnd (end_at t p).tcp) (sym to_a) (record { opened = high; living = living; below_limit = below_limit p known A })

        taken : is_dead p.a.tcp.state ≡ false → ComesTaken copied p
        taken living = (each_ack_comes copied p ask_arrives.arrival (first_joins ask_arrives.arrival.due.to p faithful.joined) ask_arrives.bare (opened living)).taken (subst (λ t. IsInWindow copied (end_at t p).tcp) (sym to_a) window)

        side_is : (b : Brings values p) → b.copy.due.to ≡ A
        side_is b = sym (ap event_side b.copy.next) ∙ ap event_side then_event ∙ h.to

        item : (t : Side) (c : HeardSegment) → c ≡ meant copied → item_at 0 (items_of (is_joined p.profile) t (options_heard (end_at t p) c)) ≡ Some says.Dss
        item t c is = ap (λ (y : HeardSegment). item_at 0 (items_of (is_joined p.profile) t (options_heard (end_at t p) y))) is
            ∙ signs_are_said.dss copied (end_at t p) (is_joined p.profile) t (Some h.sender.receiving.next) (data_fin_mapping p.profile B h.sender.sending.known_end) (fail_beside h.sender.sending.known_end h.sender.modes)
            (says_dss p.profile h.sender sent.third sent.close sent.owed sent.clear sent.mapped) (maps t).identity

        sign_comes : Goes
        sign_comes = by (is_dead p.a.tcp.state) refl
          where
            by : (b : Bool) → is_dead p.a.tcp.state ≡ b → Goes
            by true is = goes.opens (opens_on.gone A (inl is))
            by false is =
                let t = taken is in ⊎_elim
                (λ same. same_goes same)
                (λ told. confirmed_goes unclear (subst (λ t. ConfirmedOn t steps q) (side_is t.brings) told))
                (turn.tells t.brings 0 says.Dss (dss (side_is t.brings)) (item t.brings.copy.due.to t.brings.copy.segment t.segment))

      goes_by : (go : AskingGoesOn values B x p q) → AskComesSo (AsksByItsEnd p.a.tcp.recv.edge) go → Goes
      goes_by (asking.on w) w_so = on_goes w w_so
      goes_by (asking.arrives f low there h others first then_event) w_so = sign_comes f there h w_so others first then_event
      goes_by (asking.record_waits r none is_first way ungone) w_so = goes.record_waits (far.b.clear waits.clear) (let up = far.a.subflow.state in omega (arith, high, up)) r is_first way ungone
      goes_by (asking.news news) w_so = goes.opens (opens_on.news B unclear news)
      goes_by (asking.done none) w_so = if_unacked (λ unacked. absurd (none (outstanding.data_fin (later_maps B).identity (later_maps B).own (far.b.stream.fin_sent waits.sent) unacked)))
      goes_by (asking.harmed is) w_so = goes.opens (opens_on.harmed B is)
      goes_by (asking.gone dead) w_so = goes.opens (opens_on.gone B (inr dead))
      goes_by (asking.dies line event is dead) w_so = goes.opens (opens_on.gone A (inr dead))

      -- what the end sends now
      asks_so : is_dead p.b.tcp.state ≡ false → p.b.tcp.send.records ≡ [] → AsksByItsEnd p.a.tcp.recv.edge p.b (is_stripped B (next_number B p.link) p.clock p.link.lines) (is_altered B (next_number B p.link) p.link.lines)
      asks_so living none = record {
        nxt = let all = none_left p.b.tcp (known.reached B) none in let low = known.came.una B living in let sent = known.was_sent A in omega (arith, all, low, sent);
        third = third;
        close = close;
        owed = owed_so p.b (maps B).identity (maps B).own waits.sent waits.unacked;
        clear = waits.clear;
        mapped = (maps B).identity;
        edge = known.edge B;
        unstripped = faithful.whole.strips B (next_number B p.link) p.clock;
        unaltered = faithful.plain.alters B (next_number B p.link);
      }

      sign_goes : AsksComeSo (AsksByItsEnd p.a.tcp.recv.edge) values (Path p) (Path q) → Goes
      sign_goes asks = by (is_dead p.b.tcp.state) refl
        where
          by : (b : Bool) → is_dead p.b.tcp.state ≡ b → Goes
          by true is = goes.opens (opens_on.gone B (inl is))
          by false living = let go = asks B x (few B) (asks_so living) next so in goes_by go.0 go.1

    goes_so : ((Was : PathEnd → Bool → Bool → Type 0) → AsksComeSo Was values (Path p) (Path q)) → IsSignAwaited x p → Goes
    goes_so asks (comes unclear high waits next so) = sign_goes unclear high waits next so (asks (AsksByItsEnd p.a.tcp.recv.edge))
    goes_so asks (hears unclear h) = confirmed_goes unclear (turn.stays A h)

-- ---- the world

-- the end of this side owes no third MP_JOIN, and carries no fast close
record AsksForItsEnd (s : Side) (p : PathState Carried) : Type 0 where
  third : is_joined p.profile ≡ false → (end_at s p).modes.owes_third ≡ false
  close : (end_at s p).notices.fast_closed ≡ false

alone_so : (s : Side) (p : PathState Carried) → EndsAskForThemselves p → BothKnowTheirEnd p → AsksForItsEnd s p
alone_so s p alone ends = record {
  third = λ first. never (end_at s p).modes.owes_third (λ is. both_ways (is_joined p.profile) first ((alone s).third is));
  close = never (end_at s p).notices.fast_closed (λ is. (alone s).carries ((ends.knows s).closed is));
}
  where
    never : (b : Bool) → (b ≡ true → ⊥) → b ≡ false
    never true unlike = absurd (unlike refl)
    never false unlike = refl

turn_goes : (m n : Actor Carried) → (steps : List Note) → OfPaths Known m → ((Was : PathEnd → Bool → Bool → Type 0) → AsksComeSo Was values m n) → FramesStay m n → OfPaths EndsGoByMappings m → PathsConfirm values steps m n → IsActorAsFar m n
    → OfPaths IsNeverBroken n → OfPaths EndsGoByMappings n → was_told tells_other_key steps ≡ false → OfPaths EndsAskForThemselves m → OfPaths BothKnowTheirEnd m → SignsGoOn m n
turn_goes (App a) (App b) steps known asks frames maps confirms far breaks later_maps own_key alone ends = tt
turn_goes (Path p) (Path q) steps known asks frames maps confirms far breaks later_maps own_key alone ends = λ faithful few x h.
    let first : is_joined q.profile ≡ false = ap is_joined frames.profile ∙ faithful.joined in
    let for_end = alone_so B p alone ends in
    goes_so p q known faithful few far frames maps steps confirms (breaks first) later_maps own_key (for_end.third faithful.joined) for_end.close x asks h
turn_goes (App a) (Path q) steps known asks frames maps confirms far breaks later_maps own_key alone ends = absurd confirms
turn_goes (Path p) (App b) steps known asks frames maps confirms far breaks later_maps own_key alone ends = absurd confirms

signs_by_turns : (start : Start) (turns : List Turn) → IsMildStart start → let w = reached values start turns in (turn : Turn) (actor : ℕ) (c : ActorCrew Carried) → slice_get w.crew actor ≡ Some c
    → (d : ActorCrew Carried) × (slice_get (after_turn values turn w).crew actor ≡ Some d) × SignsGoOn c.member d.member
signs_by_turns start turns mild turn actor c at =
    let w = reached values start turns in
    let v = after_turn values turn w in
    let more : List Turn = turns ++ turn ∷ [] in
    let told = each_confirmation_counts values w turn actor c at in
    let d : ActorCrew Carried = told.0 in
    let there : slice_get (reached values start more).crew actor ≡ Some d = subst (λ (u : WorldState Carried). slice_get u.crew actor ≡ Some d) (sym (run_append values turns (turn ∷ []) (opened_world start))) told.1 in (
      d,
      told.1,
      turn_goes c.member d.member d.list (each_known start turns mild.plain.size mild.fit actor c at)
          (λ Was. same_actor (λ x. AsksComeSo Was values c.member x.member) v actor d told.1 (asks_come_so Was values w (nothing_is_overdue values start turns) ((what_is_sent_comes_soon values).numbered start turns) turn actor c at))
          (same_actor (λ x. FramesStay c.member x.member) v actor d told.1 (frames_stay values w turn actor c at))
          ((mapping_is_kept start turns mild).each actor c at)
          told.2
          (same_actor (λ x. IsActorAsFar c.member x.member) v actor d told.1 (let found = (goes_on_so values w (turn ∷ [])).crew actor c at in (found.0, found.1, found.2.member)))
          ((never_breaks start more mild).each actor d there)
          ((mapping_is_kept start more mild).each actor d there)
          (ap (λ o. was_told tells_other_key (notes_or o)) (sym there) ∙ keys_never_differ start more actor)
          (ends_ask_for_themselves start turns mild actor c at)
          (each_knows start turns mild.plain.size actor c at),
    )

-- of path 0
pub asks_for_itself : (s : Side) (start : Start) (turns : List Turn) → IsMildStart start → (p : PathState Carried) → IsPathAt 0 (reached values start turns) p
    → (is_joined p.profile ≡ false → (end_at s p).modes.owes_third ≡ false) × ((end_at s p).notices.fast_closed ≡ false)
asks_for_itself s start turns mild p here =
    let alone = alone_so s p (subst (OfPaths EndsAskForThemselves) here.is (ends_ask_for_themselves start turns mild 2 here.crew here.there)) (subst (OfPaths BothKnowTheirEnd) here.is (each_knows start turns mild.plain.size 2 here.crew here.there)) in
    (alone.third, alone.close)

pub asks_for_its_end : (start : Start) (turns : List Turn) → IsMildStart start → (p : PathState Carried) → IsPathAt 0 (reached values start turns) p
    → (is_joined p.profile ≡ false → p.b.modes.owes_third ≡ false) × (p.b.notices.fast_closed ≡ false)
asks_for_its_end start turns mild p here = asks_for_itself B start turns mild p here

-- ---- how it begins, and that it is in time

sign_begins : (p : PathState Carried) → AskedAtTheEnd (AsksByItsEnd p.a.tcp.recv.edge) values p → EndsGoByMappings p → SignsBegin p
sign_begins p asks maps over opened none unclear high waits =
    let begun = asks over B opened none (outstanding.data_fin (maps B).identity (maps B).own waits.sent waits.unacked) in
    comes unclear high waits begun.0 begun.1

on_its_way : (p : PathState Carried) (x : ℕ) → p.agenda ≡ [] → ComesFrom p.until p → IsAskedAgain values B x p → p.until ≤ x
on_its_way p x over past (asked.waits tick low runs none) = let from = subst (λ o. IfSome o (λ t. p.until ≤ t)) runs.timer past.timer_b in omega (arith, from, low)
on_its_way p x over past (asked.resends low is none) = absurd (never is)
  where
    never : IsToSendAgain B p → ⊥
    never (inl is) = let made : [] ≡ expired B = sym over ∙ is in cc
    never (inr is) = let made : [] ≡ duties.Send (send_duties.Resend B) ∷ emission B = sym over ∙ is in cc
on_its_way p x over past (asked.flies f low there h) =
    let from = subst (λ (g : Flight Carried). p.until ≤ g.tick) there.holds (all_at (λ (g : Flight Carried). p.until ≤ g.tick) p.link.under_way there.at there.item there.there past.copies) in omega (arith, from, low)

sign_due : (p : PathState Carried) → (p.agenda ≡ [] → ComesFrom p.until p) → SignsAreDue p
sign_due p past over x late (comes unclear high waits next so) = let low = on_its_way p x over (past over) next in omega (arith, low, late)
sign_due p past over x late (hears unclear (sure.clear is)) = true≢false (sym is ∙ unclear)
sign_due p past over x late (hears unclear (sure.by_dss own h)) = subst (λ ds. IsBehind A says.Dss p.a.treated.items ds) over h
sign_due p past over x late (hears unclear (sure.by_keys own other none h)) = subst (λ ds. IsToHear A (says.Keys own other) p.a.treated.items ds) over h

member_begins : (m : Actor Carried) → ((Was : PathEnd → Bool → Bool → Type 0) → OfPaths (AskedAtTheEnd Was values) m) → OfPaths EndsGoByMappings m → OfPaths SignsBegin m
member_begins (App a) asks maps = tt
member_begins (Path p) asks maps = sign_begins p (asks (AsksByItsEnd p.a.tcp.recv.edge)) maps

member_due : (m : Actor Carried) → OfPaths (λ (p : PathState Carried). p.agenda ≡ [] → ComesFrom p.until p) m → OfPaths SignsAreDue m
member_due (App a) past = tt
member_due (Path p) past = sign_due p past

pub each_first_sign_comes : EachFirstSignComes
each_first_sign_comes = record {
  begin = λ start turns mild actor c at. member_begins c.member (λ Was. asked_at_the_end Was values start turns actor c at) ((mapping_is_kept start turns mild).each actor c at);
  due = λ start turns actor c at. member_due c.member ((nothing_is_overdue values start turns).over actor c at);
  goes_on = signs_by_turns;
}
