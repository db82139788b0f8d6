-- Where no line moves a segment of A's the first one that acknowledges B's SYN comes to B before any with octets, and shows it both keys.
use Rattle.std.proofs.Common.{◌≡◌, refl, sym, subst, ap, ◌∙◌, inl, inr, ⊎_elim, ℕ, ◌+◌, ◌-◌, ◌^◌, ◌<◌, ◌≤◌, le_refl, arith, min, nat_lt, ◌&&◌, Bool, true, false, true≢false, cond, if◌then◌else◌, Option, Some, None, IfSome, List, [], ◌∷◌, ◌++◌, length}
use Rattle.std.specs.Prelude.{is_some, not, option_map}
use Rattle.std.specs.List.{list_all, list_any, slice_get}
use Rattle.std.proofs.lemmas.Bool.{and_parts, both_ways, cases_lt, not-true}
use Rattle.std.proofs.lemmas.List.{append_assoc, length-append}
use Rattle.std.proofs.lemmas.Option.{same_Some}
use Rattle.path_segments.specs.Heard.{HeardSegment}
use Rattle.path_segments.specs.Laws.{meant}
use Rattle.path_segments.specs.Spelled.{PlainSegment}
use Rattle.path_segments.specs.declared.position.HeardPosition.TheVariants.{At}
use Rattle.sides.specs.declared.side.Side.{Side}
use Rattle.sides.specs.declared.side.Side.TheVariants.{A, B}
use Rattle.sides.specs.Side.{peer}
use Rattle.link_script.specs.Places.{path_named, same_side}
use Rattle.link_script.specs.declared.script.ScriptLine.{ScriptLine}
use Rattle.link_model.specs.declared.flight.Due.{Due}
use Rattle.link_model.specs.declared.flight.Flight.{Flight}
use Rattle.link_model.specs.Laws.{WereSentBefore, going_to, moves}
use Rattle.link_model.specs.State.{LinkState}
use Rattle.link_model.specs.Steps.{arriving, changed, due_of, is_path, lines_of, next_number, segments_sent}
use Rattle.stream_lanes.specs.Words.{Every}
use Rattle.subflow_tcp.specs.Judging.{is_acceptable, meaning_of}
use Rattle.subflow_tcp.specs.States.{is_dead, is_half_open}
use Rattle.subflow_tcp.specs.declared.handshake.State.{State as EndPhase}
use Rattle.subflow_tcp.specs.declared.verdicts.Meaning.{Meaning}
use Rattle.subflow_tcp.specs.declared.verdicts.Meaning.TheVariants as means
use Rattle.path_agenda.specs.declared.duty.Duty.{Duty}
use Rattle.path_agenda.specs.declared.duty.Duty.TheVariants as duties
use Rattle.path_agenda.specs.declared.duty.StepDuty.TheVariants as step_duties
use Rattle.path_agenda.specs.declared.heard.Heard.{Heard}
use Rattle.path_agenda.specs.declared.heard.Heard.TheVariants as says
use Rattle.path_core.specs.Arrival.{acknowledged_in, copy_of, heard_in}
use Rattle.path_core.specs.Choices.{item_at}
use Rattle.path_core.specs.End.{PathEnd}
use Rattle.path_core.specs.Events.{next_event}
use Rattle.path_core.specs.Judged.{judged_of}
use Rattle.path_core.specs.Handover.{handed}
use Rattle.path_core.specs.Looking.{first_sends, segment_sent}
use Rattle.path_core.specs.Profile.{Profile}
use Rattle.path_core.specs.MpJoin.{is_joined}
use Rattle.path_core.specs.OptionsIn.{items_of, options_heard}
use Rattle.path_core.specs.Shown.{AltersNothing}
use Rattle.path_core.specs.Start.{waiting_path}
use Rattle.path_core.specs.State.{PathState, end_at}
use Rattle.path_core.specs.Steps.{begins_turn}
use Rattle.path_core.specs.Values.{Carried, as_arrived, values}
use Rattle.path_core.specs.declared.events.Event.{Event}
use Rattle.path_core.specs.declared.events.Event.TheVariants as happenings
use Rattle.path_core.specs.declared.judged.Judged.TheVariants as judged
use Rattle.world_laws.specs.declared.member.Member.TheVariants.{App, Path}
use Rattle.world_laws.specs.Actors.{Actor, ActorCrew}
use Rattle.world_laws.specs.Members.{of_kind}
use Rattle.world_laws.specs.NeverFalls.{StripsNothing}
use Rattle.world_laws.specs.Openings.{PathPlan, Start, opened_world, path_begins}
use Rattle.world_laws.specs.RoundDone.{reached}
use Rattle.world_laws.specs.Worlds.{Turn, WorldState, after_turn}
use Rattle.world_laws.proofs.Keys.WhatWakes.{next_happens}
use Rattle.world_laws.proofs.Weaving.WholeRounds.{run_append}
use Rattle.world_laws.proofs.Keys.AreDrawn.{is_past}
use Rattle.world_laws.proofs.Whole.Ends.{MeansIs, means_so}
use Rattle.world_laws.proofs.Worlds.Finding.{one_side}
use Rattle.world_laws.proofs.Writes.Steps.{begins_lasts}
use Rattle.whole_paths.specs.Came.{AcksWhatCame}
use Rattle.whole_paths.specs.Answered.{AcksGoFirst, HasAnswered, IsBareAck}
use Rattle.whole_paths.specs.Answered.{IsBareAck as bare_by}
use Rattle.whole_paths.specs.Answered.{IsDone as done}
use Rattle.whole_paths.specs.AsFar.{stage}
use Rattle.whole_paths.specs.Brought.{Brings, Comes, IsTo}
use Rattle.whole_paths.specs.ComingCopies.{CopiesCount, PathsHear}
use Rattle.whole_paths.specs.Copies.{CopiesAreNumbered, IsUnderWay}
use Rattle.whole_paths.specs.DataAcksHeard.{IsToHear}
use Rattle.whole_paths.specs.Finish.{AnEndDied, IsPathAt, is_harmed}
use Rattle.whole_paths.specs.Mending.{IsSentSoon}
use Rattle.whole_paths.specs.Mild.{EndsGoByMappings, EndsHaveKeys, HasKeys, IsMildStart, IsNeverBroken, LinkIsMild, is_harsh}
use Rattle.whole_paths.specs.News.{one_if}
use Rattle.whole_paths.specs.OnePathScripts.{BeginsWithOnePath}
use Rattle.whole_paths.specs.Opening.{opens_to}
use Rattle.whole_paths.specs.OpeningConfirmed.{ConfirmedOn, IsConfirmed}
use Rattle.whole_paths.specs.OpeningConfirmed.{IsConfirmed as sure}
use Rattle.whole_paths.specs.OpeningConfirmed.Confirms.{keys}
use Rattle.whole_paths.specs.OpeningStates.{GoByTheHandshake, IsOfA}
use Rattle.whole_paths.specs.OpeningStates.{IsOfA as of_a}
use Rattle.whole_paths.specs.OpeningWaits.{IsAlive}
use Rattle.whole_paths.specs.Owed.{AnswerComesSo, AnswerGoesOn, Covers, IsAnswered, IsAnsweredSo, IsToRefuse}
use Rattle.whole_paths.specs.Owed.{AnswerGoesOn as answer}
use Rattle.whole_paths.specs.Owed.{IsToRefuse as refuse}
use Rattle.whole_paths.specs.Owed.IsAnswered.{owes, flies}
use Rattle.whole_paths.specs.EarlyCopies.{brings_octets, came_from, comes_early, counted_by, early_at, expiries_at, has_octets, may_send_at, octets_next}
use Rattle.whole_paths.specs.QuietTexts.{MovesNoneOfA, MovesNoneOfFirst, NothingComesEarlyByText, is_first}
use Rattle.whole_paths.specs.Rising.{OpensBy}
use Rattle.whole_paths.specs.Rising.{OpensBy as opens_by}
use Rattle.whole_paths.specs.SentByTurns.{SentAtMost}
use Rattle.whole_paths.specs.Timers.{TimersAreNear}
use Rattle.whole_paths.proofs.AckedData.{opened_here}
use Rattle.whole_paths.proofs.Arrivals.{sender_of, taken_so}
use Rattle.whole_paths.proofs.Breaking.{never_breaks}
use Rattle.whole_paths.proofs.ByTurns.{Becomes, Of, OfFirst, each_step}
use Rattle.whole_paths.proofs.Clearing.{AllClear, each_clears, never_refuses}
use Rattle.whole_paths.proofs.ClearFirst.{b_is_clear_first}
use Rattle.whole_paths.proofs.ComingCopies.{each_copy_that_comes_counts}
use Rattle.whole_paths.proofs.Copies.{LinkStays, links_last}
use Rattle.whole_paths.proofs.DataPast.{Pushes, Same, past_so, same_last}
use Rattle.whole_paths.proofs.EdgesStay.{alive_before, nothing_comes_before}
use Rattle.whole_paths.proofs.Exchanges.{Known, below_limit, under_way}
use Rattle.whole_paths.proofs.FirstSigns.{asks_for_itself}
use Rattle.whole_paths.proofs.Flying.{SameClock, clock_lasts}
use Rattle.whole_paths.proofs.Handshaking.{AllFar, Given, PathMet, each_met, given, never_joins, never_waits}
use Rattle.whole_paths.proofs.KeysCome.{becomes_far, confirmed_then, turned}
use Rattle.whole_paths.proofs.Keyed.{keys_are_known}
use Rattle.whole_paths.proofs.Mild.{links_are_mild, mapping_is_kept}
use Rattle.whole_paths.proofs.MildDeaths.{living_path}
use Rattle.whole_paths.proofs.OpenClears.{becomes_fewer}
use Rattle.whole_paths.proofs.OpenCourses.{IsFirstPath, each_first}
use Rattle.whole_paths.proofs.OpeningConfirmed.{signs_are_said}
use Rattle.whole_paths.proofs.OpeningEnds.{died_stays}
use Rattle.whole_paths.proofs.OpeningKeys.{ack_options_are}
use Rattle.whole_paths.proofs.OpeningStates.{ends_go_by_the_handshake}
use Rattle.whole_paths.proofs.FewSyns.{syns_are_few}
use Rattle.whole_paths.proofs.Owing.{Stands, StandingMember, copies_are_answered, each_stands}
use Rattle.whole_paths.proofs.Paying.{AnswersComeSo, GoesSo, answers_come_so}
use Rattle.whole_paths.proofs.PlainQueues.{FirstStay, IsFirstOf, IsQueued, StandsAhead, comes_first, first_found}
use Rattle.whole_paths.proofs.Rising.{begins_dead}
use Rattle.whole_paths.proofs.Saying.{ToSend}
use Rattle.whole_paths.proofs.SentByTurns.{each_turn_sends_one_at_most}
use Rattle.whole_paths.proofs.SentSoon.{what_is_sent_comes_soon}
use Rattle.whole_paths.proofs.SentWithin.{SentWithin, all_sent_within}
use Rattle.whole_paths.proofs.Syns.{apart, each_known}
use Rattle.whole_paths.proofs.Timing.{timers_run_out}
use Rattle.whole_paths.proofs.QuietOpenings.{none_lost_early}
use Rattle.whole_paths.proofs.KeysAhead.{AheadStep, IsBare, IsThird, IsThirdCopy, KeysAt, OwedLink, becomes_ahead, becomes_counted, becomes_owed, becomes_past, becomes_pushes, becomes_queued, becomes_same, keys_of_all, located, treats_none, unharmed}
use Rattle.whole_paths.proofs.KeysAhead.AheadStep.{on, comes, dies}

-- ---- what is known of path 0

-- how far the keys are
data KeysFirst (p : PathState Carried) : Type 0 where
  confirmed : IsConfirmed B p → KeysFirst p
  opening : p.a.tcp.send.nxt ≤ 1 → stage p.a.tcp.state < 3 → KeysFirst p
  owed : p.a.tcp.send.nxt ≤ 1 → 3 ≤ stage p.a.tcp.state → p.a.tcp.due.ack ≡ true → segments_sent A p.link ≤ 7 → KeysFirst p
  ahead : 3 ≤ stage p.a.tcp.state → KeysAt p.clock p.link → KeysFirst p

abbrev IsFew : PathState Carried → Type 0
IsFew p = (s : Side) → segments_sent s p.link < 2 ^ 64 - 1

record GoKeysFirst (p : PathState Carried) : Type 0 where
  queued : IsQueued p.clock p.link
  keys_first : IsAlive p → IsFew p → KeysFirst p

module _ (start : Start) (plan : PathPlan) (one : BeginsWithOnePath start plan)
    (syns : (turns : List Turn) (p : PathState Carried) → IsPathAt 0 (reached values start turns) p → IsAlive p → stage p.a.tcp.state ≤ 1 → segments_sent A p.link ≤ 6) where
  abbrev mild : IsMildStart start
  mild = one.mild

  module _ (turns : List Turn) (p : PathState Carried) (here : IsPathAt 0 (reached values start turns) p) where
    of_p : (P : PathState Carried → Type 0) → ((actor : ℕ) (c : ActorCrew Carried) → slice_get (reached values start turns).crew actor ≡ Some c → Of P c.member) → P p
    of_p P each = subst (Of P) here.is (each 2 here.crew here.there)

    first_path : IsFirstPath start p
    first_path = subst (Of (IsFirstPath start)) here.is (each_first start turns mild.plain.size here.crew here.there)

    is_given : Given start p
    is_given = subst (Of (Given start)) here.is ((given start mild turns).each here.crew here.there)

    is_met : PathMet p
    is_met = subst (Of PathMet) here.is ((each_met start mild turns).each here.crew here.there)

    known : Known p
    known = of_p Known (each_known start turns mild.plain.size mild.fit)

    maps : EndsGoByMappings p
    maps = of_p EndsGoByMappings (mapping_is_kept start turns mild).each

    link : LinkIsMild start.lines p
    link = of_p (LinkIsMild start.lines) (links_are_mild values start turns mild).each

    keyed : EndsHaveKeys p
    keyed = of_p HasKeys (keys_are_known start turns mild).each first_path.first

    near : TimersAreNear p
    near = of_p TimersAreNear (timers_run_out values start turns).each

    -- as long as SND.NXT of A is no further
    bare : p.a.tcp.send.nxt ≤ 1 → Every (λ (f : Flight Carried). f.to ≡ B → IsBare f) p.link.under_way
    bare few = record {
      each = λ i f there to. (of_p SentWithin (all_sent_within start turns mild.plain.size).each).bare.each i f there
          (subst (λ s. (end_at (peer s) p).tcp.send.nxt ≤ 1) (sym to) few);
    }

    module _ (alive : IsAlive p) (unsure : p.b.modes.clear ≡ false) where
      unclear : p.a.modes.clear ≡ false
      unclear = by p.a.modes.clear refl
        where
          by : (b : Bool) → p.a.modes.clear ≡ b → b ≡ false
          by false is = refl
          by true is = absurd (both_ways p.b.modes.clear unsure (b_is_clear_first start turns mild p here is))

      edge : p.b.tcp.recv.edge ≡ 1
      edge = nothing_comes_before start turns mild p here alive B unsure

      -- what goes next from A, where an acknowledgement is owed
      goes_third : p.a.tcp.send.nxt ≤ 1 → 3 ≤ stage p.a.tcp.state → GoesSo IsThird A p
      goes_third few past t sends own due unreset = ⊎_elim
          (λ some. by_key p.a.modes.peer_key refl some)
          (λ treats. absurd (treats_none p.agenda p t treats sends))
          (keyed.a (omega (arith, past)) (alive.living A))
        where
          x : PlainSegment
          x = segment_sent p t

          third_none : p.a.modes.owes_third ≡ false
          third_none = (asks_for_itself A start turns mild p here).0 first_path.first

          so : IsBareAck p.profile A p.a x
          so = subst (λ (o : Option ToSend). IfSome o (λ (u : ToSend). u.from ≡ A → IsBareAck p.profile A p.a (segment_sent p u))) sends
              (of_p AcksGoFirst (copies_are_answered values start turns).first A (alive.living A) due) own

          by_bare : (key : ℕ) → p.a.modes.peer_key ≡ Some key → IsBareAck p.profile A p.a x → IsThird x
          by_bare key has (bare_by.acks is) = record {
            flag_a = _;
            flag_c = _;
            own = p.a.modes.own_key;
            other = key;
            others = _;
            options = ap (λ (y : PlainSegment). y.options) is ∙ ack_options_are p.profile A p.a key refl has unclear (maps A).identity third_none None;
            syn = ap (λ (y : PlainSegment). y.syn) is;
            position = (let at = ap (λ (y : PlainSegment). y.position) is in let sent = known.was_sent B in let came = edge in omega (arith, at, sent, came, few));
            bare = ap (λ (y : PlainSegment). length y.payload + one_if y.fin) is;
          }
          by_bare key has (bare_by.resets is) = absurd (both_ways x.rst unreset is)

          by_key : (o : Option ℕ) → p.a.modes.peer_key ≡ o → is_some o ≡ true → IsThird x
          by_key None has some = absurd (true≢false (sym some))
          by_key (Some key) has some = by_bare key has so

      covers_third : (t : ToSend) → first_sends p.agenda p ≡ Some t → t.from ≡ A → p.a.tcp.due.ack ≡ true → (segment_sent p t).rst ≡ false → Covers 1 (segment_sent p t)
      covers_third t sends own due unreset = by (subst (λ (o : Option ToSend). IfSome o (λ (u : ToSend). u.from ≡ A → IsBareAck p.profile A p.a (segment_sent p u))) sends
          (of_p AcksGoFirst (copies_are_answered values start turns).first A (alive.living A) due) own)
        where
          by : IsBareAck p.profile A p.a (segment_sent p t) → Covers 1 (segment_sent p t)
          by (bare_by.acks is) = record { up_to = p.a.tcp.recv.edge; acknowledged = ap (λ (y : PlainSegment). y.acknowledged) is; enough = known.edge A; rst = unreset }
          by (bare_by.resets is) = absurd (both_ways (segment_sent p t).rst unreset is)

  -- ---- a turn

  module _ (turns : List Turn) (turn : Turn) (p q : PathState Carried) (here : IsPathAt 0 (reached values start turns) p) (there : IsPathAt 0 (reached values start (turns ++ turn ∷ [])) q) (becomes : Becomes values p q)
      (queued : IsQueued p.clock p.link) where
    abbrev w : WorldState Carried
    w = reached values start turns

    far : AllFar p q × (p.b.modes.clear ≡ true → q.b.modes.clear ≡ true)
    far = becomes_far p q becomes

    -- what a law says of the turn
    by_turn : (R : Actor Carried → Actor Carried → Type 0) → ((d : ActorCrew Carried) × (slice_get (after_turn values turn w).crew 2 ≡ Some d) × R here.crew.member d.member) → R (Path p) (Path q)
    by_turn R told =
        let at : slice_get (reached values start (turns ++ turn ∷ [])).crew 2 ≡ Some told.0 = subst (λ (u : WorldState Carried). slice_get u.crew 2 ≡ Some told.0) (sym (run_append values turns (turn ∷ []) (opened_world start))) told.1 in
        let same : told.0 ≡ there.crew = same_Some told.0 there.crew (sym at ∙ there.there) in
        subst (λ m. R (Path p) m) (ap (λ (c : ActorCrew Carried). c.member) same ∙ there.is) (subst (λ m. R m told.0.member) here.is told.2)

    module _ (alive : IsAlive q) (few : IsFew p) where
      was : IsAlive p
      was = alive_before p q far.0 alive

      confirmed_on : ConfirmedOn B (turned start mild turns turn p q here there becomes alive).steps q → KeysFirst q
      confirmed_on told = confirmed (confirmed_then start mild turns turn p q here there becomes alive told)

      -- B's end may send a DSS, or mightn't before
      if_unsure : (p.b.modes.clear ≡ false → KeysFirst q) → KeysFirst q
      if_unsure unsure = by p.b.modes.clear refl
        where
          by : (b : Bool) → p.b.modes.clear ≡ b → KeysFirst q
          by true is = confirmed (sure.clear (far.1 is))
          by false is = unsure is

      up : stage p.a.tcp.state ≤ stage q.a.tcp.state
      up = (far.0.at A).subflow.state

      -- ---- A's end opens

      past_opens : stage p.a.tcp.state < 3 → 3 ≤ stage q.a.tcp.state → q.a.tcp.send.nxt ≤ 1 → OpensBy values 3 A p → KeysFirst q
      past_opens low high nxt (opens_by.copy c to_a m is high_m) = by_meaning m is high_m
        where
          s : Side
          s = c.due.to

          h : HeardSegment
          h = options_heard (end_at s p) c.segment

          same_as : (x y : Meaning) → judged.As x ≡ judged.As y → x ≡ y
          same_as x y equal = cc

          fits : (m : Meaning) → IsTo values p c (judged.As m) → MeansIs (copy_of h) (end_at s p).tcp m
          fits m is = subst (MeansIs (copy_of h) (end_at s p).tcp)
              (same_as (meaning_of (copy_of h) (end_at s p).tcp) m (sym (ap (λ j. judged_of j h.rst (items_of j s h) (meaning_of (copy_of h) (end_at s p).tcp) (end_at s p)) (first_path turns p here).first) ∙ is))
              (means_so (copy_of h) (end_at s p).tcp)

          counts : CopiesCount p q
          counts = by_turn PathsHear (each_copy_that_comes_counts w turn 2 here.crew here.there)

          early : (x : EndPhase) → IsOfA x → stage x < 3 → stage x ≤ 1
          early x (of_a.waiting is) under = let at = ap stage is in omega (arith, at)
          early x (of_a.sent is) under = let at = ap stage is in omega (arith, at)
          early x (of_a.past over) under = absurd (omega (arith, under, over))

          few_yet : segments_sent A q.link ≤ 7
          few_yet =
              let before = syns turns p here was (early p.a.tcp.state (of_p turns p here (λ (x : PathState Carried). GoByTheHandshake x) (ends_go_by_the_handshake values start turns).each).a low) in
              let more = becomes_counted p q becomes in omega (arith, before, more)

          accepted : (acked : ℕ) → IsTo values p c (judged.As (means.Accepts acked)) → KeysFirst q
          accepted acked is = ⊎_elim
              (λ same. absurd (let state = ap (λ (y : PathState Carried). stage y.a.tcp.state) same in omega (arith, low, high, state)))
              (λ due. owed nxt high (subst (λ t. (end_at t q).tcp.due.ack ≡ true) to_a due) few_yet)
              (counts.acks c (means.Accepts acked) is refl (λ repeated. cc) (ap is_half_open (fits (means.Accepts acked) is).0))

          never_past : (x : EndPhase) → IsOfA x → stage x < 3 → is_past x ≡ true → ⊥
          never_past x (of_a.waiting is) under past = true≢false (sym past ∙ ap is_past is)
          never_past x (of_a.sent is) under past = true≢false (sym past ∙ ap is_past is)
          never_past x (of_a.past over) under past = omega (arith, under, over)

          by_meaning : (m : Meaning) → IsTo values p c (judged.As m) → 3 ≤ opens_to m → KeysFirst q
          by_meaning (means.Accepts acked) is high_m = accepted acked is
          by_meaning (means.Taken pos acked) is high_m = absurd (never_past p.a.tcp.state (of_p turns p here (λ (x : PathState Carried). GoByTheHandshake x) (ends_go_by_the_handshake values start turns).each).a low
              (subst (λ t. is_past (end_at t p).tcp.state ≡ true) to_a (fits (means.Taken pos acked) is).0))
          by_meaning means.Opens is high_m = absurd (omega (arith, high_m))
          by_meaning _ is high_m = absurd (omega (arith, high_m))
      past_opens low high nxt (opens_by.joins tick next) = absurd (never_waits start p (is_given turns p here) (is_met turns p here) (next_happens p (happenings.Joins tick) next))
      past_opens low high nxt (opens_by.duty d others is joins) = absurd (never_joins start p (is_given turns p here) (is_met turns p here) d others is joins)

      opening_goes : p.a.tcp.send.nxt ≤ 1 → stage p.a.tcp.state < 3 → KeysFirst q
      opening_goes nxt low = by (becomes_pushes p q becomes (is_given turns p here).upright.passes.settled)
        where
          still : q.a.tcp.send.nxt ≤ 1 → KeysFirst q
          still less = ⊎_elim
              (λ under. opening less under)
              (λ high. ⊎_elim (λ dead. absurd (both_ways (is_dead q.a.tcp.state) (alive.living A) dead)) (past_opens low high less) (becomes_past p q becomes low high))
              (cases_lt (stage q.a.tcp.state) 3)

          by : Pushes A p q → KeysFirst q
          by (inl same) = still (omega (arith, same, nxt))
          by (inr may) = absurd (let past = past_so p.a.tcp.state may in omega (arith, past, low))

      -- ---- A owes an acknowledgement

      owed_goes : p.b.modes.clear ≡ false → p.a.tcp.send.nxt ≤ 1 → 3 ≤ stage p.a.tcp.state → p.a.tcp.due.ack ≡ true → segments_sent A p.link ≤ 7 → KeysFirst q
      owed_goes unsure nxt past due sent_few = by_link (becomes_owed p q becomes stood (was.living A) due)
        where
          stood : Stands A p
          stood = (subst StandingMember here.is ((each_stands values start turns).each 2 here.crew here.there)) A

          less : q.a.tcp.send.nxt ≤ 1
          less = let same = becomes_same p q becomes stood (was.living A) due in omega (arith, same, nxt)

          high : 3 ≤ stage q.a.tcp.state
          high = let more = up in omega (arith, more, past)

          not_harmed : is_harmed A p q ≡ false
          not_harmed = unharmed p q becomes queued (omega (arith, sent_few))

          sent_so : WereSentBefore (next_number A q.link) (q.clock + q.link.delay) (going_to B q.link.under_way)
          sent_so = (becomes_queued p q becomes (let soon = (near turns p here).clock in omega (arith, soon)) queued).sent (let more = becomes_counted p q becomes in omega (arith, more, sent_few))

          third_ahead : (f : Flight Carried) → IsUnderWay f q → f.to ≡ B → IsThirdCopy f → KeysFirst q
          third_ahead f way to third = ahead high (keys_of_all q.clock q.link sent_so (located q.link.under_way (bare (turns ++ turn ∷ []) q there less) way.at f (way.there ∙ ap Some way.holds) to third))

          -- what the link makes of such a segment
          third_copy : (f : Flight Carried) (x : PlainSegment) (stripped altered : Bool) → (StripsNothing q.link.lines → stripped ≡ false) → (AltersNothing q.link.lines → altered ≡ false) → (c : Profile)
              → f.carried ≡ changed (values.strips c.spelling A) (values.alters c.spelling A) stripped altered (values.makes c.spelling A x) → f.carried ≡ values.makes c.spelling A x
          third_copy f x stripped altered whole plain c carried =
              let mild_link = link (turns ++ turn ∷ []) q there in
              carried
              ∙ ap (λ b. changed (values.strips c.spelling A) (values.alters c.spelling A) b altered (values.makes c.spelling A x)) (whole mild_link.strips)
              ∙ ap (λ b. changed (values.strips c.spelling A) (values.alters c.spelling A) false b (values.makes c.spelling A x)) (plain mild_link.alters)

          third_of : (f : Flight Carried) (x : PlainSegment) (c : Profile) → f.carried ≡ values.makes c.spelling A x → IsThird x → Covers 1 x → IsThirdCopy f
          third_of f x c carried third covers = record {
            unstripped = ap (λ (y : Carried). y.stripped) carried;
            third = subst IsThird (sym (ap (λ (y : Carried). y.segment) carried)) third;
            covers = subst (Covers 1) (sym (ap (λ (y : Carried). y.segment) carried)) covers;
          }

          -- ---- it goes

          sent_now : (t : ToSend) → first_sends p.agenda p ≡ Some t → t.from ≡ A → q.link ≡ handed values A (segment_sent p t) p → KeysFirst q
          sent_now t is own taken = ⊎_elim
              (λ harmed. absurd (both_ways (is_harmed A p q) not_harmed harmed))
              flying_now
              ((what_is_sent_comes_soon values).comes p q (of_p turns p here CopiesAreNumbered ((what_is_sent_comes_soon values).numbered start turns).each) A (segment_sent p t) (few A) taken)
            where
              lines_same : q.link.lines ≡ p.link.lines
              lines_same = ap (λ (l : LinkState Carried). l.lines) taken

              flying_now : IsSentSoon values A (segment_sent p t) p q → KeysFirst q
              flying_now h = by (segment_sent p t).rst refl
                where
                  carried : h.copy.carried ≡ values.makes p.profile.spelling A (segment_sent p t)
                  carried = third_copy h.copy (segment_sent p t) h.stripped h.altered (λ strips. h.whole (subst StripsNothing lines_same strips)) (λ alters. h.plain (subst AltersNothing lines_same alters)) p.profile h.carried

                  by : (b : Bool) → (segment_sent p t).rst ≡ b → KeysFirst q
                  by true rst = absurd (both_ways h.copy.carried.segment.rst
                      (subst (λ (f : Flight Carried). f.carried.segment.rst ≡ false) h.there.holds ((living_path start (turns ++ turn ∷ []) mild q there alive.living).copies.each h.there.at h.there.item h.there.there))
                      (ap (λ (y : Carried). y.segment.rst) carried ∙ rst))
                  by false unreset = third_ahead h.copy h.there h.to (third_of h.copy (segment_sent p t) p.profile carried (goes_third turns p here was unsure nxt past t is own due unreset) (covers_third turns p here was unsure t is own due unreset))

          -- ---- it is owed still

          answers : AnswersComeSo IsThird values (Path p) (Path q)
          answers = by_turn (AnswersComeSo IsThird values)
              (answers_come_so IsThird values w (copies_are_answered values start turns) ((what_is_sent_comes_soon values).numbered start turns) turn 2 here.crew here.there)

          owed_now : IsAnswered values A 1 (p.clock + 400) p
          owed_now = owes (le_refl (p.clock + 400)) (omega (arith, past)) ((known turns p here).edge A) due

          go : (go : AnswerGoesOn values A 1 (p.clock + 400) p q) × AnswerComesSo IsThird go
          go = answers A 1 (p.clock + 400) (few A) (goes_third turns p here was unsure nxt past) owed_now tt

          answered_still : segments_sent A q.link ≤ 7 → (h : IsAnswered values A 1 (p.clock + 400) q) → IsAnsweredSo IsThird h → KeysFirst q
          answered_still few_still (owes low begun came due_still) so = owed less high due_still few_still
          answered_still few_still (flies f low way h) so =
              third_ahead f way h.to (third_of f h.segment q.profile (third_copy f h.segment h.stripped h.altered h.whole h.plain q.profile h.carried) so h.covers)

          never_refused : IsToRefuse A p.agenda → ⊥
          never_refused (refuse.refuses others is) = true≢false (sym (ap (λ ds. list_any is_harsh ds) is)
              ∙ ((of_p turns p here IsNeverBroken (never_breaks start turns mild).each) (first_path turns p here).first).duties)
          never_refused (refuse.answers others is) = never_refuses p A ((of_p turns p here (λ (x : PathState Carried). is_joined x.profile ≡ false → AllClear x.agenda x) (each_clears values start turns).each) (first_path turns p here).first)
              (was.living A) others is

          by : segments_sent A q.link ≤ 7 → (go : AnswerGoesOn values A 1 (p.clock + 400) p q) → AnswerComesSo IsThird go → KeysFirst q
          by few_still (answer.on h) so = answered_still few_still h so
          by few_still (answer.arrives f low way h others first next) so = absurd (both_ways p.a.tcp.due.ack
              ((of_p turns p here HasAnswered (copies_are_answered values start turns).each) (done.next others first) A (was.living A)).ack due)
          by few_still (answer.harmed is) so = absurd (both_ways (is_harmed A p q) not_harmed is)
          by few_still (answer.resets is) so = absurd (never_refused is)
          by few_still (answer.gone dead) so = absurd (both_ways (is_dead q.a.tcp.state) (alive.living A) dead)
          by few_still (answer.dies line next is dead) so = absurd (both_ways (is_dead q.a.tcp.state) (alive.living A) dead)

          by_link : OwedLink p q → KeysFirst q
          by_link (OwedLink.none_goes count) = by (omega (arith, count, sent_few)) go.0 go.1
          by_link (OwedLink.one_goes t is own taken) = sent_now t is own taken

      -- ---- the copy comes that shows both keys

      module _ (unsure : p.b.modes.clear ≡ false) (past : 3 ≤ stage p.a.tcp.state) (others : List Duty) (first : p.agenda ≡ duties.Step step_duties.Events ∷ others) (f : Flight Carried) (fs : List (Flight Carried))
          (flights : p.link.under_way ≡ f ∷ fs) (to : f.to ≡ B) (third : IsThirdCopy f) (next : next_event p ≡ Some (happenings.Arrives (due_of f))) where
        abbrev x : PlainSegment
        x = f.carried.segment

        abbrev e : PathEnd
        e = end_at f.to p

        abbrev said : HeardSegment
        said = options_heard e (meant (as_arrived f.carried))

        abbrev is_heard : Comes values p
        is_heard = record {
          others = others;
          first = first;
          due = due_of f;
          next = next;
          segment = meant (as_arrived f.carried);
          heard = ap (λ (o : Option (Flight Carried)). heard_in values f.to o p) (first_found f fs p.link flights);
        }

        under : IsUnderWay f p
        under = record { at = 0; item = f; there = ap (λ gs. slice_get gs 0) flights; holds = refl }

        of_b : (P : Side → Type 0) → P B → P f.to
        of_b P h = subst P (sym to) h

        acked_sent : third.covers.up_to ≤ e.tcp.send.nxt
        acked_sent =
            let facts = known turns p here in
            let low = ⊎_elim
            (λ is. absurd (true≢false (sym is ∙ third.covers.rst)))
            (λ low. subst (λ o. IfSome o (λ n. n ≤ (end_at (peer f.to) p).tcp.recv.edge)) third.covers.acknowledged low)
            (under_way (AcksWhatCame p) f p under facts.came.copies) in
            let sent = subst (λ t. (end_at (peer f.to) p).tcp.recv.edge ≤ (end_at t p).tcp.send.nxt) (sender_of f.to) (facts.was_sent (peer f.to)) in
            omega (arith, low, sent)

        accepted : is_acceptable e.tcp.recv.edge x.position (copy_of said) ≡ true
        accepted = ap (λ n. is_acceptable n x.position (copy_of said)) (of_b (λ t. (end_at t p).tcp.recv.edge ≡ 1) (edge turns p here was unsure)) ∙ ap (λ n. is_acceptable 1 n (copy_of said)) third.third.position

        brings : Brings values p
        brings = record {
          copy = is_heard;
          position = x.position;
          acknowledged = third.covers.up_to;
          taken = ap (λ j. judged_of j said.rst (items_of j f.to said) (meaning_of (copy_of said) e.tcp) e) (first_path turns p here).first
              ∙ ap (λ m. judged.As m) (taken_so (copy_of said) e.tcp x.position third.covers.up_to
              (of_b (λ t. 2 ≤ stage (end_at t p).tcp.state) ((is_met turns p here).a (omega (arith, past)) (was.living A))) (was.living f.to)
              (below_limit p (known turns p here) f.to) third.third.syn third.covers.rst refl (ap (λ (o : Option ℕ). acknowledged_in (option_map (λ n. At n) o)) third.covers.acknowledged) accepted
              (let enough = third.covers.enough in omega (arith, enough)) acked_sent);
        }

        item : item_at 0 (items_of (is_joined p.profile) f.to said) ≡ Some (says.Keys third.third.other third.third.own)
        item = ap (λ j. item_at 0 (items_of j f.to said)) (first_path turns p here).first
            ∙ of_b (λ t. item_at 0 (items_of false t (options_heard (end_at t p) (meant (as_arrived f.carried)))) ≡ Some (says.Keys third.third.other third.third.own))
            (signs_are_said.keys (as_arrived f.carried) p.b third.third.own third.third.other third.third.flag_a third.third.flag_c third.third.others
            (ap (λ b. if b then [] else x.options) third.unstripped ∙ third.third.options) (maps turns p here B).identity)

        keys_come : KeysFirst p → KeysFirst q
        unfolding brings
        keys_come h = ⊎_elim
            (λ same. subst KeysFirst (sym same) h)
            (λ told. confirmed_on (subst (λ t. ConfirmedOn t (turned start mild turns turn p q here there becomes alive).steps q) to told))
            ((turned start mild turns turn p q here there becomes alive).confirming.tells brings 0 (says.Keys third.third.other third.third.own) (keys third.third.other third.third.own) item)

      ahead_goes : p.b.modes.clear ≡ false → 3 ≤ stage p.a.tcp.state → KeysAt p.clock p.link → KeysFirst q
      ahead_goes unsure past h = by (becomes_ahead p q becomes (let soon = (near turns p here).clock in omega (arith, soon)) queued h)
        where
          by : AheadStep p q → KeysFirst q
          by (on more) = ahead (let more_up = up in omega (arith, more_up, past)) more
          by (comes others first f fs flights to third next) = keys_come unsure past others first f fs flights to third next (ahead past h)
          by (dies dead) = absurd (both_ways (is_dead q.a.tcp.state) (alive.living A) dead)

      goes : KeysFirst p → KeysFirst q
      goes (confirmed h) = confirmed_on ((turned start mild turns turn p q here there becomes alive).confirming.stays B h)
      goes (opening nxt low) = opening_goes nxt low
      goes (owed nxt past due sent_few) = if_unsure (λ unsure. owed_goes unsure nxt past due sent_few)
      goes (ahead past h) = if_unsure (λ unsure. ahead_goes unsure past h)

  -- ---- always

  module _ (short : plan.delay ≤ 400) (none : MovesNoneOfFirst 8 start.lines) where
    unmoved : (lines : List ScriptLine) → list_all (λ line. not (moves A line && is_first 8 line)) lines ≡ true → FirstStay (lines_of 0 lines)
    unmoved [] all = tt
    unmoved (line ∷ lines) all = by (is_path 0 (path_named line)) (unmoved lines parts.1)
      where
        parts : (not (moves A line && is_first 8 line) ≡ true) × (list_all (λ other. not (moves A other && is_first 8 other)) lines ≡ true)
        parts = and_parts (not (moves A line && is_first 8 line)) (list_all (λ other. not (moves A other && is_first 8 other)) lines) all

        by : (b : Bool) → FirstStay (lines_of 0 lines) → FirstStay (if b then line ∷ lines_of 0 lines else lines_of 0 lines)
        by true rest = (not-true (moves A line && is_first 8 line) parts.0, rest)
        by false rest = rest

    first_moment : GoKeysFirst (begins_turn (waiting_path {C = Carried} (path_begins start 0 plan) start.lines))
    first_moment = record {
      queued = subst (λ n. IsQueued n (begins_turn p).link) (sym (begins_lasts SameClock clock_lasts p)) (subst (IsQueued 0) (sym (begins_lasts LinkStays links_last p))
          (record { lines = unmoved start.lines none; order = tt; sent = λ few. tt; delay = short }));
      keys_first = λ alive few. opening (let same = begins_lasts Same same_last p A in omega (arith, same)) (⊎_elim (λ low. low)
          (λ high. absurd (both_ways (is_dead (begins_turn p).a.tcp.state) (alive.living A) (begins_dead 3 (omega arith) (omega arith) values A p (omega arith) high))) (cases_lt (stage (begins_turn p).a.tcp.state) 3));
    }
      where
        p : PathState Carried
        p = waiting_path {C = Carried} (path_begins start 0 plan) start.lines

    first_opened : OfFirst GoKeysFirst (opened_world start)
    first_opened = record {
      each = λ c there. subst (λ (d : ActorCrew Carried). Of GoKeysFirst d.member) (same_Some (opened_here start plan one).crew c (sym (opened_here start plan one).there ∙ there))
          (subst (Of GoKeysFirst) (sym (opened_here start plan one).is) first_moment);
    }

    keys_at : (turns : List Turn) (p : PathState Carried) → IsPathAt 0 (reached values start turns) p → GoKeysFirst p
    keys_at turns p here = subst (Of GoKeysFirst) here.is ((each_step values start GoKeysFirst first_opened
        (λ turns turn p q here there becomes h. record {
          queued = becomes_queued p q becomes (let soon = (near turns p here).clock in omega (arith, soon)) h.queued;
          keys_first = λ alive few. (let before = λ (s : Side). becomes_fewer p q becomes s (few s) in
              goes turns turn p q here there becomes h.queued alive before (h.keys_first (alive_before p q (becomes_far p q becomes).0 alive) before));
        }) turns).each here.crew here.there)

    -- ---- so nothing comes early

    none_next : (ds : List Duty) (items : List Heard) (p : PathState Carried) (own other : ℕ) → IsToHear B (says.Keys own other) items ds → octets_next ds p ≡ false
    none_next [] items p own other h = refl
    none_next (duties.Step step_duties.Events ∷ ds) items p own other h = absurd (true≢false (sym h.1.0))
    none_next (d ∷ ds) items p own other h = refl

    module _ (turns : List Turn) (p : PathState Carried) (here : IsPathAt 0 (reached values start turns) p) where
      -- the first copy
      none_brought : ((f : Flight Carried) (fs : List (Flight Carried)) → p.link.under_way ≡ f ∷ fs → f.to ≡ B → IsBare f) → octets_next p.agenda p ≡ false
      none_brought all = by_agenda p.agenda
        where
          by_event : (o : Option Event) → next_event p ≡ o → brings_octets o p ≡ false
          by_event (Some (happenings.Arrives due)) is = by_side (same_side due.to B) refl
            where
              x : IsFirstOf due p.link.under_way
              x = comes_first p due is

              bare_then : due.to ≡ B → has_octets (heard_in values due.to (arriving due p.link) p) ≡ false
              bare_then to =
                  ap (λ o. has_octets (heard_in values due.to o p)) (ap (λ d. arriving d p.link) x.due_is ∙ first_found x.first x.others p.link x.flights_are)
                  ∙ ap (λ n. nat_lt 0 n) (all x.first x.others x.flights_are (sym (ap (λ (d : Due). d.to) x.due_is) ∙ to))

              by_side : (b : Bool) → same_side due.to B ≡ b → b && has_octets (heard_in values due.to (arriving due p.link) p) ≡ false
              by_side true to = bare_then (one_side due.to B to)
              by_side false to = refl
          by_event None is = refl
          by_event (Some _) is = refl

          by_agenda : (ds : List Duty) → octets_next ds p ≡ false
          by_agenda [] = refl
          by_agenda (duties.Step step_duties.Events ∷ ds) = by_event (next_event p) refl
          by_agenda (d ∷ ds) = refl

      quiet : IsAlive p → IsFew p → p.b.modes.clear ≡ false → comes_early p ≡ false
      quiet alive few unsure = by_keys unsure ((keys_at turns p here).keys_first alive few)
        where
          by_keys : p.b.modes.clear ≡ false → KeysFirst p → octets_next p.agenda p ≡ false
          by_keys unsure (confirmed (sure.clear is)) = absurd (both_ways p.b.modes.clear unsure is)
          by_keys unsure (confirmed (sure.by_dss own h)) = absurd (apart (sym own))
          by_keys unsure (confirmed (sure.by_keys own other told h)) = none_next p.agenda p.b.treated.items p own other h
          by_keys unsure (opening nxt low) = none_brought (λ f fs is to. (bare turns p here nxt).each 0 f (ap (λ gs. slice_get gs 0) is) to)
          by_keys unsure (owed nxt past due sent_few) = none_brought (λ f fs is to. (bare turns p here nxt).each 0 f (ap (λ gs. slice_get gs 0) is) to)
          by_keys unsure (ahead past h) = none_brought (λ f fs is to. first_bare f (going_to B fs)
              (subst (λ s. StandsAhead IsThirdCopy IsBare (next_number A p.link) (p.clock + p.link.delay) (cond (same_side s B) (f ∷ going_to B fs) (going_to B fs))) to
              (subst (λ gs. StandsAhead IsThirdCopy IsBare (next_number A p.link) (p.clock + p.link.delay) (going_to B gs)) is h)))
            where
              first_bare : (f : Flight Carried) (fs : List (Flight Carried)) → StandsAhead IsThirdCopy IsBare (next_number A p.link) (p.clock + p.link.delay) (f ∷ fs) → IsBare f
              first_bare f fs held = ⊎_elim (λ third. third.third.bare) (λ more. more.0) held.1

    early_none : (turns : List Turn) → length turns < 2 ^ 64 - 1 → ((p : PathState Carried) → IsPathAt 0 (reached values start turns) p → IsAlive p)
        → may_send_at (slice_get (reached values start turns).crew 2) ≡ false → early_at (slice_get (reached values start turns).crew 2) ≡ false
    early_none turns few alive unsure = by_crew (slice_get (reached values start turns).crew 2) refl unsure
      where
        by_member : (c : ActorCrew Carried) → slice_get (reached values start turns).crew 2 ≡ Some c → (m : Actor Carried) → c.member ≡ m → of_kind (λ app. false) (λ p. p.b.modes.clear) m ≡ false
            → of_kind (λ app. false) comes_early m ≡ false
        by_member c there (App a) is none = refl
        by_member c there (Path p) is none =
            let here : IsPathAt 0 (reached values start turns) p = record { crew = c; there = there; is = is } in
            quiet turns p here (alive p here)
            (λ s. let sent = subst (SentAtMost (length turns)) is (each_turn_sends_one_at_most values start turns 2 c there) s in omega (arith, sent, few)) none

        by_crew : (o : Option (ActorCrew Carried)) → slice_get (reached values start turns).crew 2 ≡ o → may_send_at o ≡ false → early_at o ≡ false
        by_crew None there none = refl
        by_crew (Some c) there none = by_member c there c.member refl none

    none_counted : (u v : WorldState Carried) → early_at (slice_get u.crew 2) ≡ false → counted_by 0 u v ≡ 0
    none_counted u v none = elim (nat_lt (expiries_at (slice_get u.crew 2)) (expiries_at (slice_get v.crew 2))) as (λ b. (if b then min (0 + one_if (early_at (slice_get u.crew 2))) 1 else 0 + one_if (early_at (slice_get u.crew 2))) ≡ 0) [
      | true ↦ let is = ap one_if none in omega (arith, is)
      | false ↦ let is = ap one_if none in omega (arith, is)
    ]

    some_none : (before more : List Turn) → length (before ++ more) < 2 ^ 64 - 1 → (AnEndDied 0 (reached values start (before ++ more)) → ⊥) → came_from 0 more (reached values start before) ≡ 0
    some_none before [] few living = zero_so (may_send_at (slice_get (reached values start before).crew 2))
      where
        zero_so : (b : Bool) → ◌≡◌ {A = ℕ} (if b then 0 else 0) 0
        zero_so true = refl
        zero_so false = refl
    some_none before (turn ∷ more) few living = by (may_send_at (slice_get w.crew 2)) refl
        (some_none (before ++ turn ∷ []) more (subst (λ ts. length ts < 2 ^ 64 - 1) (sym (append_assoc before (turn ∷ []) more)) few)
        (subst (λ ts. AnEndDied 0 (reached values start ts) → ⊥) (sym (append_assoc before (turn ∷ []) more)) living))
      where
        w : WorldState Carried
        w = reached values start before

        alive : (p : PathState Carried) → IsPathAt 0 (reached values start before) p → IsAlive p
        alive p here = record { living = λ s. by s (is_dead (end_at s p).tcp.state) refl }
          where
            by : (s : Side) (b : Bool) → is_dead (end_at s p).tcp.state ≡ b → is_dead (end_at s p).tcp.state ≡ false
            by s false is = is
            by s true is = absurd (living (subst (λ (u : WorldState Carried). AnEndDied 0 u) (sym (run_append values before (turn ∷ more) (opened_world start)))
                (died_stays (reached values start before) (turn ∷ more) (record { path = p; here = here; side = s; dead = is }))))

        by : (b : Bool) → may_send_at (slice_get w.crew 2) ≡ b → came_from 0 more (reached values start (before ++ turn ∷ [])) ≡ 0
            → (if b then 0 else came_from (counted_by 0 w (after_turn values turn w)) more (after_turn values turn w)) ≡ 0
        by true may rest = refl
        by false unsure rest =
            ap (λ n. came_from n more (after_turn values turn w)) (none_counted w (after_turn values turn w) (early_none before (let sum = length-append before (turn ∷ more) in omega (arith, sum, few)) alive unsure))
            ∙ subst (λ (u : WorldState Carried). came_from 0 more u ≡ 0) (run_append values before (turn ∷ []) (opened_world start)) rest

-- where none of A's first segments but so few are SYNs
pub nothing_comes_early_so : ((start : Start) (plan : PathPlan) (turns : List Turn) → BeginsWithOnePath start plan → (p : PathState Carried) → IsPathAt 0 (reached values start turns) p → IsAlive p
    → stage p.a.tcp.state ≤ 1 → segments_sent A p.link ≤ 6) → NothingComesEarlyByText
nothing_comes_early_so syns start plan turns one short none few living =
    none_lost_early start turns (some_none start plan one (λ turns p here alive low. syns start plan turns one p here alive low) short none [] turns few living)

pub nothing_comes_early_by_text : NothingComesEarlyByText
nothing_comes_early_by_text = nothing_comes_early_so syns_are_few

-- where no line moves a segment of A's none moves one of its first
pub none_of_first : (lines : List ScriptLine) → MovesNoneOfA lines → MovesNoneOfFirst 8 lines
none_of_first [] none = refl
none_of_first (line ∷ lines) none =
    let parts = and_parts (not (moves A line)) (list_all (λ other. not (moves A other)) lines) none in
    ap (λ b. not (b && is_first 8 line) && list_all (λ other. not (moves A other && is_first 8 other)) lines) (not-true (moves A line) parts.0) ∙ none_of_first lines parts.1
