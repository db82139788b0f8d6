-- A DATA_FIN that is owed goes again: its end's timer runs for it alone, and as it runs out the DATA_FIN goes, and comes, or is harmed.
use Rattle.std.proofs.Common.{◌≡◌, refl, sym, subst, ap, ◌∙◌, ◌⊎◌, inl, inr, ⊎_elim, ℕ, suc, ◌+◌, ◌<◌, ◌≤◌, arith, Bool, true, false, true≢false, if◌then◌else◌, Option, Some, None, IfSome, IsSome, List, [], ◌∷◌, ◌++◌, map}
use Rattle.std.specs.List.{slice_get}
use Rattle.std.proofs.lemmas.Bool.{both_ways, cases_lt}
use Rattle.std.proofs.lemmas.Option.{same_Some}
use Rattle.sides.specs.declared.side.Side.{Side}
use Rattle.sides.specs.declared.side.Side.TheVariants.{A, B}
use Rattle.sides.specs.Side.{peer}
use Rattle.stream_lanes.proofs.Lists.{in_map}
use Rattle.subflow_send.specs.Records.{Record}
use Rattle.subflow_tcp.specs.States.{is_closed_to_segments, is_dead, may_finish}
use Rattle.path_agenda.specs.Agenda.{emission}
use Rattle.path_core.specs.DataFin.{is_data_fin_owed}
use Rattle.path_core.specs.End.{PathEnd}
use Rattle.path_core.specs.MpJoin.{is_joined}
use Rattle.path_core.specs.State.{PathState, end_at}
use Rattle.path_core.specs.Steps.{next_round}
use Rattle.path_core.specs.Values.{Carried, values}
use Rattle.world_laws.specs.Actors.{ActorCrew, member_next}
use Rattle.world_laws.specs.declared.member.Member.TheVariants.{Path}
use Rattle.world_laws.specs.Members.{HoldsOfKind}
use Rattle.world_laws.specs.Openings.{PathPlan, Start}
use Rattle.world_laws.specs.RoundDone.{EndsAt, reached}
use Rattle.world_laws.specs.Worlds.{Turn, WorldState, after_turn, all_over, begins, greatest}
use Rattle.world_laws.proofs.Rounds.DoneByTheEnd.{rounds_end_on_time}
use Rattle.whole_paths.specs.AsFar.{IsActorAsFar, IsPathAsFar}
use Rattle.whole_paths.specs.Came.{HasCome}
use Rattle.whole_paths.specs.Courses.{round_end}
use Rattle.whole_paths.specs.DataLeft.{HasDataLeft}
use Rattle.whole_paths.specs.Delivery.{FinishedIsThere, HasFinished, IsAllThere}
use Rattle.whole_paths.specs.Expiries.{IsToSend, PathsGoAgain, RunsOut}
use Rattle.whole_paths.specs.FinDebts.{FinGoesBy, FinGoesOn, FinsGoAgain, IsEndLeft, file_size}
use Rattle.whole_paths.specs.FinDebts.{FinGoesBy as goes_by, FinGoesOn as on, FinStands as stands}
use Rattle.whole_paths.specs.InTime.{ComesFrom}
use Rattle.whole_paths.specs.Mending.{IsBegunTurn, IsOpenTurn}
use Rattle.whole_paths.specs.Mild.{EndsGoByMappings}
use Rattle.whole_paths.specs.OnePathScripts.{BeginsWithOnePath}
use Rattle.whole_paths.specs.OpenCourses.{IsOpenAfter}
use Rattle.whole_paths.specs.Reasons.{IsOutstanding, IsTimedWhereItWaits}
use Rattle.whole_paths.specs.Running.{EndsRunOn, IsRunning, RunsOn}
use Rattle.whole_paths.specs.Running.{RunsOn as timer}
use Rattle.whole_paths.specs.Sent.{WasSent}
use Rattle.whole_paths.specs.Timers.{TimersAreNear}
use Rattle.whole_paths.specs.Waits.{IsNews, IsSettledAtTheEnd}
use Rattle.whole_paths.specs.Waits.{IsNews as news_by}
use Rattle.whole_paths.proofs.AckedData.{positions_are_acked_as_bytes}
use Rattle.whole_paths.proofs.Arrivals.{sender_of}
use Rattle.whole_paths.proofs.Came.{what_is_acknowledged_came}
use Rattle.whole_paths.proofs.DataLeft.{what_is_left_is_data}
use Rattle.whole_paths.proofs.Delivery.{what_is_there_stays}
use Rattle.whole_paths.proofs.DirectionRounds.{not_again}
use Rattle.whole_paths.proofs.Directions.{clock, una_up}
use Rattle.whole_paths.proofs.Endings.{BothKnowTheirEnd}
use Rattle.whole_paths.proofs.FinDebts.{sent_past}
use Rattle.whole_paths.proofs.FinishedThere.{what_is_finished_is_there}
use Rattle.whole_paths.proofs.FinsComing.{comes_later, fin_goes_again}
use Rattle.whole_paths.proofs.GoesOn.{goes_on_so}
use Rattle.whole_paths.proofs.HeardBelow.{heard_lies_below}
use Rattle.whole_paths.proofs.InTime.{nothing_is_overdue}
use Rattle.whole_paths.proofs.Keeping.{what_waits_is_kept}
use Rattle.whole_paths.specs.Kept.{EndsKeepWhatWaits}
use Rattle.whole_paths.proofs.Mild.{mapping_is_kept}
use Rattle.whole_paths.proofs.OpenAsks.{EndsAskForThemselves, ends_ask_for_themselves}
use Rattle.whole_paths.proofs.OpenPieces.{each_knows}
use Rattle.whole_paths.proofs.OpenTurns.{begun, now, of_after, of_before, with_both}
use Rattle.whole_paths.proofs.Reasons.{who_waits_has_a_timer}
use Rattle.whole_paths.proofs.RecordWaits.{living_open, same_path}
use Rattle.whole_paths.proofs.Resending.{what_runs_out_goes_again}
use Rattle.whole_paths.proofs.RoundBegins.{Rests, next_rests}
use Rattle.whole_paths.proofs.RoundSteps.{early, silent}
use Rattle.whole_paths.proofs.Running.{timers_run_on}
use Rattle.whole_paths.proofs.SegmentRounds.{if_may, unfinished}
use Rattle.whole_paths.proofs.Sent.{what_came_was_sent}
use Rattle.whole_paths.proofs.Timing.{timers_run_out}
use Rattle.whole_paths.proofs.Waiting.{no_timer_is_put_off}
use Rattle.whole_paths.proofs.WindowRoom.{each_window_has_room, one_path_is_roomy}

-- a DATA_FIN that was sent and isn't acknowledged is owed, where bytes are mapped
owed_so : (e : PathEnd) → e.modes.identity ≡ false → e.modes.own_infinite ≡ None → e.sending.fin_sent ≡ true → e.sending.close.own_acked ≡ false → is_data_fin_owed e ≡ true
owed_so e mapped finite sent unacked = rw (mapped, finite, sent, unacked) refl

never : (b : Bool) → (b ≡ true → ⊥) → b ≡ false
never true unlike = absurd (unlike refl)
never false unlike = refl

-- what sent its DATA_FIN did so still
sent_still : (s : Side) (p q : PathState Carried) → IsPathAsFar p q → (end_at s p).sending.fin_sent ≡ true → (end_at s q).sending.fin_sent ≡ true
sent_still A p q far = far.a.stream.fin_sent
sent_still B p q far = far.b.stream.fin_sent

-- ---- a turn between open ends

module _ (start : Start) (plan : PathPlan) (one : BeginsWithOnePath start plan) (turns : List Turn) (turn : Turn) (h : IsOpenTurn start turns turn) (s : Side) (x : ℕ) where
  abbrev p : PathState Carried
  p = h.before.path

  abbrev q : PathState Carried
  q = h.after.path

  abbrev t : Side
  t = peer s

  abbrev w : WorldState Carried
  w = reached values start turns

  abbrev later : List Turn
  later = turns ++ turn ∷ []

  abbrev size : ℕ
  size = file_size start s

  abbrev Goes : Type 0
  Goes = FinGoesOn start s turns turn p q x

  abbrev crew : ActorCrew Carried
  crew = h.before.here.crew

  there : slice_get w.crew 2 ≡ Some crew
  there = h.before.here.there

  abbrev begun_turn : IsBegunTurn start turns turn
  begun_turn = begun start turns turn h

  una_later : (end_at s p).tcp.send.una ≤ (end_at s q).tcp.send.una
  una_later = una_up start (one_path_is_roomy start plan one) turns turn begun_turn s s

  heard_later : (end_at s p).sending.heard ≤ (end_at s q).sending.heard
  heard_later = (with_both start turns turn h EndsKeepWhatWaits (what_waits_is_kept values w (turn ∷ []) 2 crew there) s).heard

  far : IsPathAsFar p q
  far = with_both start turns turn h IsActorAsFar (let found = (goes_on_so values w (turn ∷ [])).crew 2 crew there in (found.0, found.1, found.2.member))

  all_then : IsAllThere s (reached values start later) → Goes
  all_then all = on.stands (stands.all_there all)

  there_then : IsAllThere s w → Goes
  there_then all = all_then (what_is_there_stays start turns (turn ∷ []) h.mild s all)

  finished : HasFinished (end_at s q) → Goes
  finished has = all_then (of_after start turns turn h (FinishedIsThere (reached values start later)) (what_is_finished_is_there start plan later one.one h.mild 2 h.after.here.crew h.after.here.there) s has)

  left_later : IsEndLeft start s p → IsEndLeft start s q
  left_later left = record { acked = (let acked = left.acked in let up = una_later in omega (arith, acked, up)); sent = sent_still s p q far left.sent }

  same_stage : q ≡ p → FinGoesBy start s x p → Goes
  same_stage same stage = on.waits_on (subst (FinGoesBy start s x) (sym same) stage)

  -- SND.NXT has reached SND.UNA
  low_una : (end_at s q).tcp.send.una ≤ (end_at s q).tcp.send.nxt
  low_una =
      let came = (of_after start turns turn h HasCome ((what_is_acknowledged_came start later).each 2 h.after.here.crew h.after.here.there)).una s (h.after.is_open.living s) in
      let sent = subst (λ u. (end_at t q).tcp.recv.edge ≤ (end_at u q).tcp.send.nxt) (sender_of s) (of_after start turns turn h WasSent ((what_came_was_sent start later h.mild.plain.size).each 2 h.after.here.crew h.after.here.there) t) in
      omega (arith, came, sent)

  -- SND.UNA rises no more, unless all of the stream is there
  una_rises : IsEndLeft start s p → (end_at s p).tcp.send.una < (end_at s q).tcp.send.una → Goes
  una_rises left more = all_then (sent_past start plan one s later q h.after.here (h.after.is_open.past s) (h.after.is_open.living s) (let acked = left.acked in let low = low_una in omega (arith, acked, more, low)))

  -- ---- the timer runs

  module _ (left : IsEndLeft start s p) (level : (end_at s p).tcp.send.una ≤ suc (end_at s p).sending.heard) where
    of_news : (end_at s q).tcp.send.una ≤ (end_at s p).tcp.send.una → IsNews (end_at s p) (end_at s q) → Goes
    of_news same (news_by.on_subflow more) = absurd (omega (arith, same, more))
    of_news same (news_by.on_stream more) = ⊎_elim all_then
        (λ below. absurd (let acked = left.acked in let up = una_later in omega (arith, level, more, below, same, acked, up)))
        (heard_lies_below start plan later one q h.after.here h.after.is_open.living s)
    of_news same (news_by.data_fin none acked) = finished (HasFinished.acknowledged acked)
    of_news same (news_by.opened low high) = absurd (let past = h.before.is_open.past s in omega (arith, low, past))
    of_news same (news_by.third owes none) =
        absurd (both_ways (is_joined p.profile) h.before.is_open.first ((of_before start turns turn h EndsAskForThemselves (ends_ask_for_themselves start turns h.mild 2 crew there) s).third owes))

    -- nothing of it is outstanding any longer
    is_done : (IsOutstanding (end_at s q) → ⊥) → Goes
    is_done none = by (end_at s q).sending.close.own_acked refl
      where
        maps : EndsGoByMappings q
        maps = of_after start turns turn h EndsGoByMappings ((mapping_is_kept start later h.mild).each 2 h.after.here.crew h.after.here.there)

        by : (b : Bool) → (end_at s q).sending.close.own_acked ≡ b → Goes
        by true acked = finished (HasFinished.acknowledged acked)
        by false unacked = absurd (none (IsOutstanding.data_fin (maps s).identity (maps s).own (left_later left).sent unacked))

    ran_out : FinGoesBy start s x p → (at : ℕ) → RunsOut s at p → Goes
    ran_out stage at out = ⊎_elim
        (λ same. same_stage same stage)
        (λ expires. ⊎_elim
        (λ few. on.waits_on (goes_by.resends (left_later left) (expires.again few).next))
        (λ many. absurd (both_ways (is_dead (end_at s q).tcp.state) (h.after.is_open.living s) (expires.sixth many)))
        (cases_lt (end_at s p).tcp.timing.expiries 5))
        ((with_both start turns turn h (PathsGoAgain values) (what_runs_out_goes_again values w turn 2 crew there)).fires s at out)

    waits_so : (tick : ℕ) → IsRunning tick (end_at s p) → tick ≤ x → Goes
    waits_so tick runs near = ⊎_elim
        (λ more. una_rises left more)
        (λ same. by same (with_both start turns turn h EndsRunOn (timers_run_on values w turn 2 crew there) s tick runs))
        (cases_lt (end_at s p).tcp.send.una (end_at s q).tcp.send.una)
      where
        by : (end_at s q).tcp.send.una ≤ (end_at s p).tcp.send.una → RunsOn s tick p q → Goes
        by same (timer.on more) = on.waits_on (goes_by.waits (left_later left) (let up = heard_later in omega (arith, level, same, up)) tick more near)
        by same (timer.runs_out at out) = ran_out (goes_by.waits left level tick runs near) at out
        by same (timer.news news) = of_news same news
        by same (timer.gone dead) = absurd (both_ways (is_dead (end_at s q).tcp.state) (h.after.is_open.living s) dead)
        by same (timer.done none) = is_done none

  -- ---- it goes again

  module _ (left : IsEndLeft start s p) (is : IsToSend s p) where
    abbrev e : PathEnd
    e = end_at s p

    maps_p : EndsGoByMappings p
    maps_p = of_before start turns turn h EndsGoByMappings ((mapping_is_kept start turns h.mild).each 2 crew there)

    alone : EndsAskForThemselves p
    alone = of_before start turns turn h EndsAskForThemselves (ends_ask_for_themselves start turns h.mild 2 crew there)

    knows : BothKnowTheirEnd p
    knows = of_before start turns turn h BothKnowTheirEnd (each_knows start turns h.mild.plain.size 2 crew there)

    goes_out : e.tcp.send.records ≡ [] → e.sending.close.own_acked ≡ false → Goes
    goes_out none unacked = ⊎_elim
        (λ same. same_stage same (goes_by.resends left (inr is)))
        (λ goes. ⊎_elim (λ harmed. on.harmed harmed)
        (λ c. on.stands (stands.comes e.tcp.send.nxt (comes_later s e.tcp.send.nxt (p.clock + 400) (q.clock + 400) q (let up = clock start (one_path_is_roomy start plan one) turns turn begun_turn s in omega (arith, up)) c)))
        goes)
        (fin_goes_again start turns turn begun_turn s (each_window_has_room start plan turns one p begun_turn.before.here begun_turn.before.is_open t) (h.before.is_open.clear s) ((knows.knows s).ended left.sent) (emission s) is none
        (never e.modes.owes_third (λ owes. both_ways (is_joined p.profile) h.before.is_open.first ((alone s).third owes)))
        (never e.notices.fast_closed (λ closed. (alone s).carries ((knows.knows s).closed closed)))
        (owed_so e (maps_p s).identity (maps_p s).own left.sent unacked))

    unacked_goes : e.tcp.send.records ≡ [] → Goes
    unacked_goes none = by e.sending.close.own_acked refl
      where
        by : (b : Bool) → e.sending.close.own_acked ≡ b → Goes
        by true acked = there_then (of_before start turns turn h (FinishedIsThere w) (what_is_finished_is_there start plan turns one.one h.mild 2 crew there) s (HasFinished.acknowledged acked))
        by false unacked = goes_out none unacked

    -- it has no record: all bytes are acknowledged
    goes_so : may_finish e.tcp.state ≡ true → (records : List Record) → e.tcp.send.records ≡ records → Goes
    goes_so may [] none = unacked_goes none
    goes_so may (r ∷ others) records =
        let data_left = of_before start turns turn h HasDataLeft (what_is_left_is_data start turns h.mild.plain.size h.mild.fit crew there) s (h.before.is_open.past s) (h.before.is_open.living s) (inl (unfinished start one.mild turns p h.before.here s may)) r others records in
        let below = data_left.left in let within = data_left.within in let acked = left.acked in
        there_then (sent_past start plan one s turns p h.before.here (h.before.is_open.past s) (h.before.is_open.living s) (omega (arith, below, within, acked)))

    sends : Goes
    sends = if_may start one.mild Goes turns p h.before.here h.before.is_open s there_then (λ may. goes_so may e.tcp.send.records refl)

  goes_again : FinGoesBy start s x p → Goes
  goes_again (goes_by.waits left level tick runs near) = waits_so left level tick runs near
  goes_again (goes_by.resends left (inl is)) = ⊎_elim
      (λ same. same_stage same (goes_by.resends left (inl is)))
      (λ given. on.waits_on (goes_by.resends (left_later left) (inr given.0)))
      ((with_both start turns turn h (PathsGoAgain values) (what_runs_out_goes_again values w turn 2 crew there)).gives_back s is)
  goes_again (goes_by.resends left (inr is)) = sends left is

pub fins_go_again : FinsGoAgain
fins_go_again start plan turns turn one h s x stage = goes_again start plan one turns turn h s x stage

-- ---- where a round is over

module _ (start : Start) (plan : PathPlan) (one : BeginsWithOnePath start plan) (turns : List Turn) (over : all_over (reached values start turns).crew ≡ true) (h : IsOpenAfter start turns) (s : Side) where
  abbrev z : PathState Carried
  z = h.path

  abbrev until : ℕ
  until = round_end values start turns

  abbrev at_end : PathEnd
  at_end = end_at s z

  of_path : (P : PathState Carried → Type 0) → HoldsOfKind (λ app. Unit {0}) P h.here.crew.member → P z
  of_path P held = subst (HoldsOfKind (λ app. Unit {0}) P) h.here.is held

  nothing_to_do : z.agenda ≡ []
  nothing_to_do = silent start turns z over h.here

  until_is : z.until ≡ until
  until_is = subst (EndsAt (round_end values start turns)) h.here.is ((rounds_end_on_time values start turns).each 2 h.here.crew h.here.there)

  past : ComesFrom until z
  past = subst (λ n. ComesFrom n z) until_is (of_path (λ y. y.agenda ≡ [] → ComesFrom y.until y) ((nothing_is_overdue values start turns).over 2 h.here.crew h.here.there) nothing_to_do)

  -- a timer runs for a minute at most, and isn't out in this round
  is_near : (tick : ℕ) (u : Side) → (end_at u z).tcp.timing.timer ≡ Some tick → (tick ≤ z.clock + 60000) × (until ≤ tick)
  is_near tick A runs = (subst (λ o. IfSome o (λ n. n ≤ z.clock + 60000)) runs (of_path TimersAreNear ((timers_run_out values start turns).each 2 h.here.crew h.here.there)).a.timer, subst (λ o. IfSome o (λ n. until ≤ n)) runs past.timer_a)
  is_near tick B runs = (subst (λ o. IfSome o (λ n. n ≤ z.clock + 60000)) runs (of_path TimersAreNear ((timers_run_out values start turns).each 2 h.here.crew h.here.there)).b.timer, subst (λ o. IfSome o (λ n. until ≤ n)) runs past.timer_b)

  pub goes_in_time : (x : ℕ) → FinGoesBy start s x z → until ≤ x
  goes_in_time x (goes_by.waits left level tick runs near) = let far = (is_near tick s runs.timer).1 in omega (arith, far, near)
  goes_in_time x (goes_by.resends left again) = absurd (not_again s z.agenda nothing_to_do again)

  -- where it is left the timer runs, unless all of the stream is there
  pub awaited : IsEndLeft start s z → IsAllThere s (reached values start turns) ⊎ FinGoesBy start s (until + 60000) z
  awaited left = if_may start one.mild (IsAllThere s (reached values start turns) ⊎ FinGoesBy start s (until + 60000) z) turns z h.here h.is_open s (λ all. inl all) (λ may. by at_end.sending.close.own_acked refl may)
    where
      maps : EndsGoByMappings z
      maps = of_path EndsGoByMappings ((mapping_is_kept start turns one.mild).each 2 h.here.crew h.here.there)

      living : is_closed_to_segments at_end.tcp.state ≡ false
      living = living_open at_end.tcp.state (h.is_open.past s) (h.is_open.living s)

      runs_to : may_finish at_end.tcp.state ≡ true → (o : Option ℕ) → at_end.tcp.timing.timer ≡ o → IsSome o → FinGoesBy start s (until + 60000) z
      runs_to may None runs some = absurd (true≢false (sym some))
      runs_to may (Some tick) runs some = goes_by.waits left
          (positions_are_acked_as_bytes start plan turns one z h.here nothing_to_do h.is_open.living s (unfinished start one.mild turns z h.here s may)).heard
          tick
          (record { timer = runs; settled = of_path IsSettledAtTheEnd (((no_timer_is_put_off values).settled start turns).each 2 h.here.crew h.here.there) nothing_to_do s (h.is_open.living s); living = living })
          (let near = (is_near tick s runs).0 in let low = early start turns z h.here in omega (arith, near, low))

      by : (b : Bool) → at_end.sending.close.own_acked ≡ b → may_finish at_end.tcp.state ≡ true → IsAllThere s (reached values start turns) ⊎ FinGoesBy start s (until + 60000) z
      by true acked may = inl (of_path (FinishedIsThere (reached values start turns)) (what_is_finished_is_there start plan turns one.one one.mild 2 h.here.crew h.here.there) s (HasFinished.acknowledged acked))
      by false unacked may = inr (runs_to may at_end.tcp.timing.timer refl
          (of_path IsTimedWhereItWaits ((who_waits_has_a_timer values start turns).each 2 h.here.crew h.here.there) nothing_to_do s living (IsOutstanding.data_fin (maps s).identity (maps s).own left.sent unacked)))

-- ---- as a round begins

-- path 0 stays as it is, but for its clock and what is to be done
pub round_rests : (start : Start) (turns : List Turn) → all_over (reached values start turns).crew ≡ true → (h : IsOpenTurn start turns Turn.Round) → Rests h.before.path h.after.path
round_rests start turns over h =
    let begins_so : member_next found.0.member ≡ Path h.after.path = ap (λ (c : ActorCrew Carried). c.member) found.2 ∙ h.after.here.is in
    subst (Rests h.before.path) (same_path (member_next found.0.member) (next_round h.before.path) h.after.path begins_there begins_so) (next_rests h.before.path)
  where
    w : WorldState Carried
    w = reached values start turns

    goes_over : after_turn values Turn.Round w ≡ record w { crew = map (begins (greatest 0 w.crew)) w.crew }
    goes_over = ap (λ (b : Bool). if b then record w { crew = map (begins (greatest 0 w.crew)) w.crew } else w) over

    found : (c : ActorCrew Carried) × (slice_get w.crew 2 ≡ Some c) × (begins (greatest 0 w.crew) c ≡ h.after.here.crew)
    found = in_map (begins (greatest 0 w.crew)) w.crew 2 h.after.here.crew (subst (λ (y : WorldState Carried). slice_get y.crew 2 ≡ Some h.after.here.crew) goes_over (now start turns Turn.Round h))

    begins_there : member_next found.0.member ≡ Path (next_round h.before.path)
    begins_there = ap (λ (c : ActorCrew Carried). member_next c.member) (same_Some found.0 h.before.here.crew (sym found.1 ∙ h.before.here.there)) ∙ ap member_next h.before.here.is
