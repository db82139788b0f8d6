-- Where an end's window is shut its timer runs out, and what it asks so comes to the peer, which owes an answer then; or it is harmed, or the end goes on.
use Rattle.std.proofs.Common.{◌≡◌, refl, sym, subst, ap, ◌∙◌, ◌⊎◌, inl, inr, ⊎_elim, ℕ, zero, suc, ◌+◌, ◌-◌, ◌<◌, ◌≤◌, arith, Bool, true, false, true≢false, ◌&&◌, not, if◌then◌else◌, Option, Some, None, IfSome, IsSome, List, [], ◌∷◌, ◌++◌}
use Rattle.std.specs.List.{list_any, slice_get}
use Rattle.std.proofs.lemmas.Bool.{and_parts, both_ways, cases_lt, or_parts}
use Rattle.std.proofs.lemmas.Option.{same_Some}
use Rattle.sides.specs.declared.side.Side.{Side}
use Rattle.sides.specs.declared.side.Side.TheVariants.{A, B}
use Rattle.sides.specs.Side.{peer}
use Rattle.link_model.specs.Steps.{changed, due_of}
use Rattle.link_model.specs.declared.flight.Due.{Due}
use Rattle.link_model.specs.declared.flight.Flight.{Flight}
use Rattle.path_segments.specs.Heard.{HeardSegment}
use Rattle.path_segments.specs.Spelled.{PlainSegment}
use Rattle.subflow_send.specs.Records.{Record}
use Rattle.subflow_tcp.specs.declared.verdicts.Meaning.TheVariants as means
use Rattle.subflow_tcp.specs.States.{is_closed_to_segments, is_dead, is_half_open, may_finish}
use Rattle.path_agenda.specs.Agenda.{emission}
use Rattle.path_agenda.specs.Items.{wants_ack}
use Rattle.path_agenda.specs.declared.duty.Duty.{Duty}
use Rattle.path_agenda.specs.declared.duty.Duty.TheVariants as duties
use Rattle.path_agenda.specs.declared.duty.StepDuty.TheVariants as step_duties
use Rattle.path_agenda.specs.declared.heard.Heard.TheVariants as says
use Rattle.path_core.specs.Choices.{item_at}
use Rattle.path_core.specs.DataFin.{is_data_fin_owed}
use Rattle.path_core.specs.Emission.{ack_resent}
use Rattle.path_core.specs.End.{PathEnd}
use Rattle.path_core.specs.Events.{next_event}
use Rattle.path_core.specs.MpJoin.{is_joined}
use Rattle.path_core.specs.Modes.{sends_plainly}
use Rattle.path_core.specs.OptionsIn.{items_of, options_heard}
use Rattle.path_core.specs.OptionsOut.{ack_said, carried_said}
use Rattle.path_core.specs.Profile.{Profile}
use Rattle.path_core.specs.State.{PathState, end_at}
use Rattle.path_core.specs.Values.{Carried, as_arrived, carried_by, values}
use Rattle.path_core.specs.declared.events.Event.TheVariants as happenings
use Rattle.world_laws.specs.Actors.{ActorCrew}
use Rattle.world_laws.specs.Members.{HoldsOfKind}
use Rattle.world_laws.specs.Openings.{PathPlan, Start}
use Rattle.world_laws.specs.RoundDone.{EndsAt, reached}
use Rattle.world_laws.specs.Worlds.{Turn, WorldState, after_turn, all_over}
use Rattle.world_laws.proofs.Rounds.DoneByTheEnd.{rounds_end_on_time}
use Rattle.whole_paths.specs.AgendaSteps.{event_side}
use Rattle.whole_paths.specs.Arrivals.{Arrival, ComesAgain}
use Rattle.whole_paths.specs.AsFar.{stage as phase_of}
use Rattle.whole_paths.specs.BareSegments.{BareGoesOn, BareSegmentsGoOn}
use Rattle.whole_paths.specs.BareSegments.{BareGoesOn as bare}
use Rattle.whole_paths.specs.ClosingOwed.{OwesAnAnswer, PathsOwe}
use Rattle.whole_paths.specs.ComingCopies.{CopiesCount, PathsHear}
use Rattle.whole_paths.specs.Copies.{CopiesAreNumbered, CopiesGoOn, GoesOnItsWay, IsUnderWay}
use Rattle.whole_paths.specs.Copies.{GoesOnItsWay as copy}
use Rattle.whole_paths.specs.Courses.{round_end}
use Rattle.whole_paths.specs.DataLeft.{HasDataLeft}
use Rattle.whole_paths.specs.Delivery.{FinishedIsThere, HasFinished, IsAllThere}
use Rattle.whole_paths.specs.Expiries.{IsToSend, PathsGoAgain, RunsOut, SendsAgain}
use Rattle.whole_paths.specs.FinsComing.{FinComesBy}
use Rattle.whole_paths.specs.InTime.{ComesFrom}
use Rattle.whole_paths.specs.Kept.{EndsKeepWhatWaits}
use Rattle.whole_paths.specs.Mending.{IsBegunTurn, IsOpenTurn, IsSentSoon}
use Rattle.whole_paths.specs.Mild.{EndsGoByMappings}
use Rattle.whole_paths.specs.OnePathScripts.{BeginsWithOnePath}
use Rattle.whole_paths.specs.OpenCourses.{IsOpenAfter, IsOpenNow}
use Rattle.whole_paths.specs.ProbeWaits.{IsShutAt, ProbeComesBy, ProbeGoesBy, ProbeGoesOn, ProbesAreAwaitedAlways, ProbesGoAgain}
use Rattle.whole_paths.specs.ProbeWaits.{ProbeGoesBy as stage, ProbeGoesOn as on}
use Rattle.whole_paths.specs.Reasons.{IsOutstanding, IsTimedWhereItWaits}
use Rattle.whole_paths.specs.Running.{EndsRunOn, IsRunning, RunsOn}
use Rattle.whole_paths.specs.Running.{RunsOn as timer}
use Rattle.whole_paths.specs.Timers.{TimersAreNear}
use Rattle.whole_paths.specs.Waits.{IsNews, IsSettledAtTheEnd}
use Rattle.whole_paths.specs.Waits.{IsNews as news_by}
use Rattle.whole_paths.proofs.AckedData.{positions_are_acked_as_bytes}
use Rattle.whole_paths.proofs.Arrivals.{sender_of, first_joins}
use Rattle.whole_paths.proofs.BareSegments.{bare_segments_are_taken}
use Rattle.whole_paths.proofs.Closing.{each_data_fin_is_said}
use Rattle.whole_paths.proofs.ClosingOwed.{what_wants_an_answer_is_owed_one}
use Rattle.whole_paths.proofs.ComingCopies.{each_copy_that_comes_counts}
use Rattle.whole_paths.proofs.ComesAgain.{whole_open}
use Rattle.whole_paths.proofs.Copies.{copies_leave}
use Rattle.whole_paths.proofs.DataAcksCome.{each_ack_comes}
use Rattle.whole_paths.proofs.DataLeft.{what_is_left_is_data}
use Rattle.whole_paths.proofs.Delivery.{what_is_there_stays}
use Rattle.whole_paths.proofs.DirectionRounds.{not_again}
use Rattle.whole_paths.proofs.Directions.{clock, edge_up, una_up}
use Rattle.whole_paths.proofs.Endings.{BothKnowTheirEnd}
use Rattle.whole_paths.proofs.Exchanges.{Known, below_limit}
use Rattle.whole_paths.proofs.FinishedThere.{what_is_finished_is_there}
use Rattle.whole_paths.proofs.FinsComing.{fin_goes_again}
use Rattle.whole_paths.proofs.Flying.{Frames, FramesStay, frames_stay}
use Rattle.whole_paths.proofs.HeardBelow.{heard_lies_below}
use Rattle.whole_paths.proofs.InTime.{nothing_is_overdue}
use Rattle.whole_paths.proofs.Keeping.{what_waits_is_kept}
use Rattle.whole_paths.proofs.Mild.{mapping_is_kept}
use Rattle.whole_paths.proofs.OpenAsks.{EndsAskForThemselves, ends_ask_for_themselves}
use Rattle.whole_paths.proofs.OpenPieces.{each_knows}
use Rattle.whole_paths.proofs.OpenTurns.{begun, of_after, of_before, with_both}
use Rattle.whole_paths.proofs.Reached.{EndsAreReached, each_is_reached, none_left}
use Rattle.whole_paths.proofs.Reasons.{who_waits_has_a_timer}
use Rattle.whole_paths.proofs.RecordWaits.{last, living_open}
use Rattle.whole_paths.proofs.RecordsWell.{known, numbered}
use Rattle.whole_paths.proofs.Resending.{what_runs_out_goes_again}
use Rattle.whole_paths.proofs.RoundSteps.{early, none_comes, silent}
use Rattle.whole_paths.proofs.Running.{timers_run_on}
use Rattle.whole_paths.proofs.SegmentRounds.{if_may, unfinished}
use Rattle.whole_paths.proofs.SentSoon.{what_is_sent_comes_soon}
use Rattle.whole_paths.proofs.ShutEnds.{shut_until_granted}
use Rattle.whole_paths.proofs.Timing.{timers_run_out}
use Rattle.whole_paths.proofs.Waiting.{no_timer_is_put_off}
use Rattle.whole_paths.proofs.WindowRoom.{each_window_has_room, one_path_is_roomy}

-- ---- what is known of an end

-- a list of which this holds at a place
any_at : {X : Type 0} (f : X → Bool) (n : ℕ) (xs : List X) (x : X) → item_at n xs ≡ Some x → f x ≡ true → list_any f xs ≡ true
any_at {X} f n xs x is holds = by (list_any f xs) refl
  where
    quiet : (n : ℕ) (ys : List X) → item_at n ys ≡ Some x → list_any f ys ≡ false → f x ≡ false
    quiet n [] at none = cc
    quiet zero (y ∷ ys) at none = subst (λ z. f z ≡ false) (same_Some y x at) (or_parts (f y) (list_any f ys) none).0
    quiet (suc n) (y ∷ ys) at none = quiet n ys at (or_parts (f y) (list_any f ys) none).1

    by : (b : Bool) → list_any f xs ≡ b → b ≡ true
    by true any = refl
    by false none = absurd (both_ways (f x) (quiet n xs is none) holds)

-- a DATA_FIN that was sent and isn't acknowledged is owed, where bytes are mapped
owed_so : (e : PathEnd) → e.modes.identity ≡ false → e.modes.own_infinite ≡ None → e.sending.fin_sent ≡ true → e.sending.close.own_acked ≡ false → is_data_fin_owed e ≡ true
owed_so e mapped finite sent unacked = rw (mapped, finite, sent, unacked) refl

never : (b : Bool) → (b ≡ true → ⊥) → b ≡ false
never true unlike = absurd (unlike refl)
never false unlike = refl

-- ---- a turn between open ends

module _ (start : Start) (plan : PathPlan) (one : BeginsWithOnePath start plan) (turns : List Turn) (turn : Turn) (h : IsOpenTurn start turns turn) (s : Side) (x until : ℕ) (in_round : h.after.path.clock ≤ until) where
  abbrev p : PathState Carried
  p = h.before.path

  abbrev q : PathState Carried
  q = h.after.path

  abbrev t : Side
  t = peer s

  abbrev w : WorldState Carried
  w = reached values start turns

  abbrev later : List Turn
  later = turns ++ turn ∷ []

  abbrev e : PathEnd
  e = end_at s p

  abbrev Goes : Type 0
  Goes = ProbeGoesOn s start turns turn p q x until

  abbrev crew : ActorCrew Carried
  crew = h.before.here.crew

  there : slice_get w.crew 2 ≡ Some crew
  there = h.before.here.there

  abbrev begun_turn : IsBegunTurn start turns turn
  begun_turn = begun start turns turn h

  after : IsOpenNow (after_turn values turn w)
  after = subst (λ (u : WorldState Carried). IsOpenNow u) (last start h.mild turns turn) h.after

  facts : Known p
  facts = known start h.mild turns turn h.before after

  frames : Frames p q
  frames = with_both start turns turn h FramesStay (frames_stay values w turn 2 crew there)

  clock_up : p.clock ≤ q.clock
  clock_up = clock start (one_path_is_roomy start plan one) turns turn begun_turn s

  una_later : e.tcp.send.una ≤ (end_at s q).tcp.send.una
  una_later = una_up start (one_path_is_roomy start plan one) turns turn begun_turn s s

  edge_later : (end_at t p).tcp.recv.edge ≤ (end_at t q).tcp.recv.edge
  edge_later = edge_up start (one_path_is_roomy start plan one) turns turn begun_turn s t

  heard_later : e.sending.heard ≤ (end_at s q).sending.heard
  heard_later = (with_both start turns turn h EndsKeepWhatWaits (what_waits_is_kept values w (turn ∷ []) 2 crew there) s).heard

  lined : EndsAreReached p
  lined = of_before start turns turn h EndsAreReached ((each_is_reached values start turns).each 2 crew there)

  lined_later : EndsAreReached q
  lined_later = of_after start turns turn h EndsAreReached ((each_is_reached values start later).each 2 h.after.here.crew h.after.here.there)

  there_then : IsAllThere s w → Goes
  there_then all = on.all_there (what_is_there_stays start turns (turn ∷ []) h.mild s all)

  finished : HasFinished (end_at s q) → Goes
  finished has = on.all_there (of_after start turns turn h (FinishedIsThere (reached values start later)) (what_is_finished_is_there start plan later one.one h.mild 2 h.after.here.crew h.after.here.there) s has)

  same_stage : q ≡ p → ProbeGoesBy s x until p → Goes
  same_stage same is = on.goes (subst (ProbeGoesBy s x until) (sym same) is)

  -- SND.NXT rises, or not
  unless_sends : ((end_at s q).tcp.send.nxt ≤ e.tcp.send.nxt → Goes) → Goes
  unless_sends then_so = ⊎_elim (λ more. on.sends more) then_so (cases_lt e.tcp.send.nxt (end_at s q).tcp.send.nxt)

  -- ---- the window is shut

  module _ (is : IsShutAt s p) (same : (end_at s q).tcp.send.nxt ≤ e.tcp.send.nxt) where
    -- SND.UNA stays at SND.NXT
    una_stays : (end_at s q).tcp.send.una ≤ e.tcp.send.una
    una_stays = let all = none_left e.tcp (lined s) is.none in let low = (lined_later s).lined.within in omega (arith, all, low, same)

    -- so the end has no record still
    still_none : (IsShutAt s q → Goes) → Goes
    still_none then_so = if_may start one.mild Goes later q h.after.here h.after.is_open s (λ all. on.all_there all) (λ may. by (end_at s q).tcp.send.records refl may)
      where
        of_shut : (end_at s q).tcp.send.records ≡ [] → may_finish (end_at s q).tcp.state ≡ true → Goes
        of_shut none may = ⊎_elim
            (λ shut. then_so (record { none = none; shut = shut }))
            (λ more. absurd (omega (arith, more, same)))
            (shut_until_granted start plan turns turn one.one one.mild p q h.before.here h.after.here s is.shut (unfinished start one.mild later q h.after.here s may))

        by : (records : List Record) → (end_at s q).tcp.send.records ≡ records → may_finish (end_at s q).tcp.state ≡ true → Goes
        by [] none may = of_shut none may
        by (r ∷ others) records may =
            let data_left = of_after start turns turn h HasDataLeft (what_is_left_is_data start later h.mild.plain.size h.mild.fit h.after.here.crew h.after.here.there) s (h.after.is_open.past s) (h.after.is_open.living s)
            (inl (unfinished start one.mild later q h.after.here s may)) r others records in
            let all = none_left e.tcp (lined s) is.none in let below = data_left.left in let within = data_left.within in let up = una_later in
            absurd (omega (arith, all, below, within, up, same))

    -- ---- the timer

    module _ (level : e.tcp.send.una ≤ suc e.sending.heard) (tick : ℕ) (runs : IsRunning tick e) (late : tick + 1100 ≤ x) (bound : until + 1000 ≤ x) where
      of_news : IsNews e (end_at s q) → Goes
      of_news (news_by.on_subflow more) = absurd (let low = una_stays in omega (arith, more, low))
      of_news (news_by.on_stream more) = ⊎_elim (λ all. on.all_there all)
          (λ below. ⊎_elim
          (λ some. absurd (let low = una_stays in omega (arith, level, more, below, low, some)))
          (λ zero_una. absurd (omega (arith, more, below, zero_una)))
          (cases_lt 0 (end_at s q).tcp.send.una))
          (heard_lies_below start plan later one q h.after.here h.after.is_open.living s)
      of_news (news_by.data_fin none acked) = finished (HasFinished.acknowledged acked)
      of_news (news_by.opened low high) = absurd (let past = h.before.is_open.past s in omega (arith, low, past))
      of_news (news_by.third owes none) =
          absurd (both_ways (is_joined p.profile) h.before.is_open.first ((of_before start turns turn h EndsAskForThemselves (ends_ask_for_themselves start turns h.mild 2 crew there) s).third owes))

      ran_out : IsShutAt s q → (at : ℕ) → RunsOut s at p → Goes
      ran_out still at out = ⊎_elim
          (λ stays. same_stage stays (stage.waits is level tick runs late bound))
          (λ expires. ⊎_elim
          (λ few. on.goes (stage.resends still (expires.again few).next bound))
          (λ many. absurd (both_ways (is_dead (end_at s q).tcp.state) (h.after.is_open.living s) (expires.sixth many)))
          (cases_lt e.tcp.timing.expiries 5))
          ((with_both start turns turn h (PathsGoAgain values) (what_runs_out_goes_again values w turn 2 crew there)).fires s at out)

      waits_on : IsShutAt s q → Goes
      waits_on still = by (with_both start turns turn h EndsRunOn (timers_run_on values w turn 2 crew there) s tick runs)
        where
          by : RunsOn s tick p q → Goes
          by (timer.on more) = on.goes (stage.waits still (let low = una_stays in let up = heard_later in omega (arith, level, low, up)) tick more late bound)
          by (timer.runs_out at out) = ran_out still at out
          by (timer.news news) = of_news news
          by (timer.gone dead) = absurd (both_ways (is_dead (end_at s q).tcp.state) (h.after.is_open.living s) dead)
          by (timer.done none) = absurd (none (IsOutstanding.shut still.shut))

  -- ---- it asks

  module _ (is : IsShutAt s p) (sends : IsToSend s p) (same : (end_at s q).tcp.send.nxt ≤ e.tcp.send.nxt) (bound : until + 1000 ≤ x) where
    maps_p : EndsGoByMappings p
    maps_p = of_before start turns turn h EndsGoByMappings ((mapping_is_kept start turns h.mild).each 2 crew there)

    alone : EndsAskForThemselves p
    alone = of_before start turns turn h EndsAskForThemselves (ends_ask_for_themselves start turns h.mild 2 crew there)

    knows : BothKnowTheirEnd p
    knows = of_before start turns turn h BothKnowTheirEnd (each_knows start turns h.mild.plain.size 2 crew there)

    third : e.modes.owes_third ≡ false
    third = never e.modes.owes_third (λ owes. both_ways (is_joined p.profile) h.before.is_open.first ((alone s).third owes))

    close : e.notices.fast_closed ≡ false
    close = never e.notices.fast_closed (λ closed. (alone s).carries ((knows.knows s).closed closed))

    -- with the DATA_FIN
    with_end : e.sending.fin_sent ≡ true → is_data_fin_owed e ≡ true → Goes
    with_end fin_sent owed = ⊎_elim
        (λ stays. same_stage stays (stage.resends is (inr sends) bound))
        (λ goes. ⊎_elim
        (λ harmed. on.harmed harmed)
        (λ c. on.goes (stage.fins e.tcp.send.nxt (p.clock + 400) (let up = clock_up in omega (arith, up, in_round, bound)) (omega (arith, bound)) same c))
        goes)
        (fin_goes_again start turns turn begun_turn s (each_window_has_room start plan turns one p begun_turn.before.here begun_turn.before.is_open t) (h.before.is_open.clear s) ((knows.knows s).ended fin_sent) (emission s) sends is.none third close owed)

    -- by a probe
    abbrev probe : PlainSegment
    probe = ack_said p.profile s (e.tcp.send.una - 1) None e

    module _ (unowed : is_data_fin_owed e ≡ false) where
      said : ack_resent p.profile s e ≡ probe
      said =
          ap (λ b. if b then ack_said p.profile s e.tcp.send.nxt None e
          else (if e.notices.fast_closed then carried_said p.profile s e.notices.carrier e
          else (if is_data_fin_owed e then ack_said p.profile s e.tcp.send.nxt e.sending.known_end e
          else probe))) third
          ∙ ap (λ b. if b then carried_said p.profile s e.notices.carrier e
          else (if is_data_fin_owed e then ack_said p.profile s e.tcp.send.nxt e.sending.known_end e
          else probe)) close
          ∙ ap (λ b. if b then ack_said p.profile s e.tcp.send.nxt e.sending.known_end e else probe) unowed

      comes : (sent : SendsAgain values s p q) → IsSentSoon values s sent.segment p q → ProbeComesBy s (p.clock + 400) q
      comes sent c = record {
        copy = c.copy;
        there = c.there;
        to = c.to;
        segment = probe;
        carried = whole ∙ ap (λ (z : Profile). carried_by z.spelling s probe) (sym frames.profile);
        bare = record { syn = refl; fin = refl; rst = refl; empty = refl };
        behind = (let low = facts.came.una s (h.before.is_open.living s) in let some = facts.edge t in let up = edge_later in omega (arith, low, some, up));
        soon = c.soon;
      }
        where
          whole : c.copy.carried ≡ carried_by p.profile.spelling s probe
          whole =
              c.carried
              ∙ ap (λ b. changed (values.strips p.profile.spelling s) (values.alters p.profile.spelling s) b c.altered (values.makes p.profile.spelling s sent.segment)) (c.whole h.before.faithful.whole)
              ∙ ap (λ b. changed (values.strips p.profile.spelling s) (values.alters p.profile.spelling s) false b (values.makes p.profile.spelling s sent.segment)) (c.plain h.before.faithful.plain)
              ∙ ap (λ (y : PlainSegment). carried_by p.profile.spelling s y) (sent.without is.none ∙ said)

      by_probe : Goes
      by_probe = ⊎_elim
          (λ stays. same_stage stays (stage.resends is (inr sends) bound))
          (λ sent. ⊎_elim
          (λ harmed. on.harmed harmed)
          (λ c. on.goes (stage.probes (p.clock + 400) (let up = clock_up in omega (arith, up, in_round, bound)) (omega (arith, bound)) (comes sent c)))
          ((what_is_sent_comes_soon values).comes p q copies_numbered s sent.segment (h.before.few s) sent.taken))
          ((with_both start turns turn h (PathsGoAgain values) (what_runs_out_goes_again values w turn 2 crew there)).sends s sends)
        where
          copies_numbered : CopiesAreNumbered p
          copies_numbered = of_before start turns turn h CopiesAreNumbered (((what_is_sent_comes_soon values).numbered start turns).each 2 crew there)

    asks : Goes
    asks = by e.sending.fin_sent refl e.sending.close.own_acked refl
      where
        -- the DATA_FIN isn't owed
        unowed_so : (e.sending.fin_sent && not e.sending.close.own_acked) ≡ false → is_data_fin_owed e ≡ false
        unowed_so none = never (is_data_fin_owed e) (λ owed. both_ways (e.sending.fin_sent && not e.sending.close.own_acked) none (and_parts (not (sends_plainly e.modes)) (e.sending.fin_sent && not e.sending.close.own_acked) owed).1)

        by : (b : Bool) → e.sending.fin_sent ≡ b → (c : Bool) → e.sending.close.own_acked ≡ c → Goes
        by true fin_sent true acked = there_then (of_before start turns turn h (FinishedIsThere w) (what_is_finished_is_there start plan turns one.one h.mild 2 crew there) s (HasFinished.acknowledged acked))
        by true fin_sent false unacked = with_end fin_sent (owed_so e (maps_p s).identity (maps_p s).own fin_sent unacked)
        by false unsent c acked = by_probe (unowed_so (ap (λ b. b && not e.sending.close.own_acked) unsent))

  -- ---- what is asked comes

  -- a probe lies outside the peer's window
  module _ (by_then : ℕ) (c : ProbeComesBy s by_then p) where
    still_comes : IsUnderWay c.copy q → ProbeComesBy s by_then q
    still_comes under = record {
      copy = c.copy;
      there = under;
      to = c.to;
      segment = c.segment;
      carried = c.carried ∙ ap (λ (z : Profile). carried_by z.spelling s c.segment) (sym frames.profile);
      bare = c.bare;
      behind = (let low = c.behind in let up = edge_later in omega (arith, low, up));
      soon = c.soon;
    }

    module _ (others : List Duty) (first : p.agenda ≡ duties.Step step_duties.Events ∷ others) (next : next_event p ≡ Some (happenings.Arrives (due_of c.copy))) where
      comes_now : Arrival c.segment p
      comes_now = let comes = facts.alike c.copy c.there (numbered start h.mild turns turn h.before after c.copy c.there) in record {
        others = others;
        first = first;
        due = due_of c.copy;
        next = next;
        flight = comes.first;
        there = comes.there;
        carried = comes.same ∙ c.carried ∙ ap (λ u. carried_by p.profile.spelling u c.segment) (sym (ap peer c.to ∙ sender_of s));
      }

      due_to : comes_now.due.to ≡ t
      due_to = sym (ap event_side comes_now.next) ∙ ap event_side next ∙ c.to

      again : ComesAgain p
      again = (each_ack_comes c.segment p comes_now (first_joins comes_now.due.to p h.before.is_open.first) c.bare (record {
        opened = subst (λ u. 2 ≤ phase_of (end_at u p).tcp.state) (sym due_to) (let past = h.before.is_open.past t in omega (arith, past));
        living = subst (λ u. is_dead (end_at u p).tcp.state ≡ false) (sym due_to) (h.before.is_open.living t);
        below_limit = below_limit p facts comes_now.due.to;
      })).again (subst (λ u. c.segment.position < (end_at u p).tcp.recv.edge) (sym due_to) c.behind)

      again_to : again.copy.due.to ≡ t
      again_to = sym (ap event_side again.copy.next) ∙ ap event_side next ∙ c.to

      counts : CopiesCount p q
      counts = with_both start turns turn h PathsHear (each_copy_that_comes_counts w turn 2 crew there)

      arrives : ProbeComesBy s by_then q ⊎ ((end_at t q).tcp.due.ack ≡ true)
      arrives = ⊎_elim
          (λ same. inl (still_comes (subst (IsUnderWay c.copy) (sym same) c.there)))
          (λ due. inr (subst (λ u. (end_at u q).tcp.due.ack ≡ true) again_to due))
          (counts.acks again.copy means.Outside again.outside refl (λ same. let other : means.Outside ≡ means.RepeatedSyn = same in cc)
          (subst (λ u. is_half_open (end_at u p).tcp.state ≡ false) (sym again_to) (whole_open (end_at t p).tcp.state (h.before.is_open.past t))))

    probe_comes : ProbeComesBy s by_then q ⊎ ((end_at t q).tcp.due.ack ≡ true)
    probe_comes = by (with_both start turns turn h CopiesGoOn (copies_leave values w turn 2 crew there) c.copy c.there)
      where
        by : GoesOnItsWay c.copy p q → ProbeComesBy s by_then q ⊎ ((end_at t q).tcp.due.ack ≡ true)
        by (copy.on under) = inl (still_comes under)
        by (copy.arrives others first next) = arrives others first next
        by (copy.dies line next is dead) = absurd (both_ways (is_dead q.a.tcp.state) (h.after.is_open.living A) dead)

  -- a DATA_FIN behind which nothing is sent is taken, and answered
  module _ (position by_then : ℕ) (alone : e.tcp.send.nxt ≤ position) (c : FinComesBy s position by_then p) where
    bares : BareSegmentsGoOn t p q
    bares = bare_segments_are_taken start turns turn begun_turn t

    owes : OwesAnAnswer values p q
    owes = with_both start turns turn h (PathsOwe values) (what_wants_an_answer_is_owed_one values w turn 2 crew there)

    fin_comes : FinComesBy s position by_then q ⊎ ((end_at t q).tcp.due.ack ≡ true)
    fin_comes = by (bares.goes c.copy c.there c.bare)
      where
        maps_t : EndsGoByMappings p
        maps_t = of_before start turns turn h EndsGoByMappings ((mapping_is_kept start turns h.mild).each 2 crew there)

        by : BareGoesOn t c.copy p q → FinComesBy s position by_then q ⊎ ((end_at t q).tcp.due.ack ≡ true)
        by (bare.on under still) = inl (record {
          copy = c.copy;
          there = under;
          at = c.at;
          bare = still;
          next = c.next;
          place = c.place;
          checksum = c.checksum;
          maps = c.maps;
          low = c.low;
          fair = c.fair;
          soon = c.soon;
        })
        by (bare.is_taken b due segment) = ⊎_elim (λ same. inl (subst (FinComesBy s position by_then) (sym same) c)) (λ due_now. inr (subst (λ u. (end_at u q).tcp.due.ack ≡ true) to due_now)) (owes.owes b (inr (any_at wants_ack 2 _ (says.DataFin c.place) said refl)))
          where
            to : b.copy.due.to ≡ t
            to = ap (λ (d : Due). d.to) due ∙ c.bare.to

            said : item_at 2 (items_of (is_joined p.profile) b.copy.due.to (options_heard (end_at b.copy.due.to p) b.copy.segment)) ≡ Some (says.DataFin c.place)
            said = subst (λ (g : HeardSegment). item_at 2 (items_of (is_joined p.profile) b.copy.due.to (options_heard (end_at b.copy.due.to p) g)) ≡ Some (says.DataFin c.place)) (sym segment)
                (each_data_fin_is_said (as_arrived c.copy.carried) (end_at b.copy.due.to p) (is_joined p.profile) b.copy.due.to c.next c.place c.checksum [] c.maps c.low c.fair
                (subst (λ u. (end_at u p).modes.identity ≡ false) (sym to) (maps_t t).identity))
        by (bare.overtaken over) =
            let past = bares.behind c.copy.carried.segment.position over in
            let nxt = ap (λ u. (end_at u p).tcp.send.nxt) (sender_of s) in
            let same = c.at in absurd (omega (arith, past, nxt, same, alone))

  -- ---- all stages

  goes_again : ProbeGoesBy s x until p → Goes
  goes_again (stage.waits is level tick runs late bound) = unless_sends (λ same. still_none is same (λ still. waits_on is same level tick runs late bound still))
  goes_again (stage.resends is (inl gives) bound) = unless_sends (λ same. still_none is same (λ still. ⊎_elim
      (λ stays. same_stage stays (stage.resends is (inl gives) bound))
      (λ given. on.goes (stage.resends still (inr given.0) bound))
      ((with_both start turns turn h (PathsGoAgain values) (what_runs_out_goes_again values w turn 2 crew there)).gives_back s gives)))
  goes_again (stage.resends is (inr sends) bound) = unless_sends (λ same. asks is sends same bound)
  goes_again (stage.probes by_then late bound c) = ⊎_elim (λ more. on.goes (stage.probes by_then late bound more)) (λ due. on.owed due) (probe_comes by_then c)
  goes_again (stage.fins position by_then late bound alone c) = unless_sends (λ same. ⊎_elim
      (λ more. on.goes (stage.fins position by_then late bound (omega (arith, same, alone)) more))
      (λ due. on.owed due)
      (fin_comes position by_then alone c))

pub probes_go_again : ProbesGoAgain
probes_go_again start plan turns turn one h s x until in_round is = goes_again start plan one turns turn h s x until in_round is

-- ---- where a round is over

module _ (start : Start) (plan : PathPlan) (one : BeginsWithOnePath start plan) (turns : List Turn) (over : all_over (reached values start turns).crew ≡ true) (h : IsOpenAfter start turns) (s : Side) where
  abbrev z : PathState Carried
  z = h.path

  abbrev ends : ℕ
  ends = round_end values start turns

  abbrev own : PathEnd
  own = end_at s z

  of_path : (P : PathState Carried → Type 0) → HoldsOfKind (λ app. Unit {0}) P h.here.crew.member → P z
  of_path P held = subst (HoldsOfKind (λ app. Unit {0}) P) h.here.is held

  nothing_to_do : z.agenda ≡ []
  nothing_to_do = silent start turns z over h.here

  until_is : z.until ≡ ends
  until_is = subst (EndsAt (round_end values start turns)) h.here.is ((rounds_end_on_time values start turns).each 2 h.here.crew h.here.there)

  past : ComesFrom ends z
  past = subst (λ n. ComesFrom n z) until_is (of_path (λ y. y.agenda ≡ [] → ComesFrom y.until y) ((nothing_is_overdue values start turns).over 2 h.here.crew h.here.there) nothing_to_do)

  -- a timer runs for a minute at most, and isn't out in this round
  is_near : (tick : ℕ) (u : Side) → (end_at u z).tcp.timing.timer ≡ Some tick → (tick ≤ z.clock + 60000) × (ends ≤ tick)
  is_near tick A runs = (subst (λ o. IfSome o (λ n. n ≤ z.clock + 60000)) runs (of_path TimersAreNear ((timers_run_out values start turns).each 2 h.here.crew h.here.there)).a.timer, subst (λ o. IfSome o (λ n. ends ≤ n)) runs past.timer_a)
  is_near tick B runs = (subst (λ o. IfSome o (λ n. n ≤ z.clock + 60000)) runs (of_path TimersAreNear ((timers_run_out values start turns).each 2 h.here.crew h.here.there)).b.timer, subst (λ o. IfSome o (λ n. ends ≤ n)) runs past.timer_b)

  late_copy : (f : Flight Carried) → IsUnderWay f z → ends ≤ f.tick
  late_copy f under = let low = none_comes start turns z over h.here under.at under.item under.there in let same = ap (λ (g : Flight Carried). g.tick) under.holds in omega (arith, low, same)

  in_time : (x : ℕ) → ProbeGoesBy s x ends z → ends ≤ x
  in_time x (stage.waits is level tick runs late bound) = omega (arith, bound)
  in_time x (stage.resends is again bound) = omega (arith, bound)
  in_time x (stage.probes by_then late bound c) = omega (arith, bound)
  in_time x (stage.fins position by_then late bound alone c) = omega (arith, bound)

  later_on : (x : ℕ) → ProbeGoesBy s x ends z → ProbeGoesBy s x (ends + 100) z
  later_on x (stage.waits is level tick runs late bound) = let far = (is_near tick s runs.timer).1 in stage.waits is level tick runs late (omega (arith, far, late))
  later_on x (stage.resends is again bound) = absurd (not_again s z.agenda nothing_to_do again)
  later_on x (stage.probes by_then late bound c) = let low = late_copy c.copy c.there in let soon = c.soon in stage.probes by_then late (omega (arith, low, soon, late)) c
  later_on x (stage.fins position by_then late bound alone c) = let low = late_copy c.copy c.there in let soon = c.soon in stage.fins position by_then late (omega (arith, low, soon, late)) alone c

  begins_so : IsShutAt s z → IsAllThere s (reached values start turns) ⊎ ProbeGoesBy s (ends + 61200) ends z
  begins_so is = if_may start one.mild (IsAllThere s (reached values start turns) ⊎ ProbeGoesBy s (ends + 61200) ends z) turns z h.here h.is_open s (λ all. inl all) (λ may. inr (by may own.tcp.timing.timer refl
      (of_path IsTimedWhereItWaits ((who_waits_has_a_timer values start turns).each 2 h.here.crew h.here.there) nothing_to_do s living (IsOutstanding.shut is.shut))))
    where
      living : is_closed_to_segments own.tcp.state ≡ false
      living = living_open own.tcp.state (h.is_open.past s) (h.is_open.living s)

      by : may_finish own.tcp.state ≡ true → (o : Option ℕ) → own.tcp.timing.timer ≡ o → IsSome o → ProbeGoesBy s (ends + 61200) ends z
      by may None runs some = absurd (true≢false (sym some))
      by may (Some tick) runs some = stage.waits is
          (positions_are_acked_as_bytes start plan turns one z h.here nothing_to_do h.is_open.living s (unfinished start one.mild turns z h.here s may)).heard
          tick
          (record { timer = runs; settled = of_path IsSettledAtTheEnd (((no_timer_is_put_off values).settled start turns).each 2 h.here.crew h.here.there) nothing_to_do s (h.is_open.living s); living = living })
          (let near = (is_near tick s runs).0 in let low = early start turns z h.here in omega (arith, near, low))
          (omega arith)

pub probes_are_awaited : ProbesAreAwaitedAlways
probes_are_awaited start plan turns one over h s = record {
  begins = begins_so start plan one turns over h s;
  in_time = in_time start plan one turns over h s;
  later = later_on start plan one turns over h s;
}
