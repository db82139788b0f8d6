-- A side stalls for six rounds until its end knows that the window is shut, or RCV.NXT of the peer rises; then for a timer, and what is asked so comes.
use Rattle.std.proofs.Common.{◌≡◌, refl, sym, subst, ap, ◌∙◌, ◌⊎◌, inl, inr, ⊎_elim, ℕ, suc, ◌+◌, ◌*◌, ◌<◌, ◌≤◌, arith, true, List, [], ◌∷◌, ◌++◌, length}
use Rattle.std.proofs.lemmas.Bool.{cases_lt}
use Rattle.sides.specs.declared.side.Side.{Side}
use Rattle.sides.specs.declared.side.Side.TheVariants.{A, B}
use Rattle.sides.specs.Side.{peer}
use Rattle.actor_desk.specs.Words.{pick}
use Rattle.stream_lanes.specs.Words.{Every}
use Rattle.path_core.specs.State.{PathState, end_at}
use Rattle.path_core.specs.Values.{Carried, values}
use Rattle.world_laws.specs.Openings.{PathPlan, Start, opened_world}
use Rattle.world_laws.specs.Promises.{written_by}
use Rattle.world_laws.specs.RoundDone.{reached}
use Rattle.world_laws.specs.Worlds.{Turn, WorldState, all_over}
use Rattle.world_laws.proofs.Weaving.WholeRounds.{run_append}
use Rattle.whole_paths.specs.AsFar.{IsActorAsFar, IsPathAsFar}
use Rattle.whole_paths.specs.Came.{HasCome}
use Rattle.whole_paths.specs.Counts.{CountsAsMuch}
use Rattle.whole_paths.specs.Courses.{harmed_so_far, round_end}
use Rattle.whole_paths.specs.Delivery.{IsAllThere}
use Rattle.whole_paths.specs.Directions.{DirectionIsWell}
use Rattle.whole_paths.specs.Finish.{IsPathAt, is_harmed}
use Rattle.whole_paths.specs.Mending.{IsOpenTurn, IsWell}
use Rattle.whole_paths.specs.News.{one_if}
use Rattle.whole_paths.specs.OnePathScripts.{BeginsWithOnePath}
use Rattle.whole_paths.specs.OpenCourses.{IsOpenAfter}
use Rattle.whole_paths.specs.ProbeWaits.{IsShutAt, ProbeGoesBy, ProbeGoesOn}
use Rattle.whole_paths.specs.ProbeWaits.{ProbeGoesBy as probe, ProbeGoesOn as probing}
use Rattle.whole_paths.specs.Sent.{WasSent}
use Rattle.whole_paths.specs.SentInOrder.{sent_up_to}
use Rattle.whole_paths.specs.Stalls.{GoesOnOrStalls}
use Rattle.whole_paths.specs.Stalls.{GoesOnOrStalls as stalls_by}
use Rattle.whole_paths.specs.UnitRounds.{WaitsSince, WellRounds}
use Rattle.whole_paths.specs.WindowStalls.{IsReached, IsSentPast, MeetsStalls, StallGoes, Stalls, StallsAreMended, StallsAreWaitedFor}
use Rattle.whole_paths.specs.WindowStalls.{StallGoes as stall}
use Rattle.whole_paths.proofs.Arrivals.{sender_of}
use Rattle.whole_paths.proofs.Came.{what_is_acknowledged_came}
use Rattle.whole_paths.proofs.Courses.{round_next, round_step}
use Rattle.whole_paths.proofs.Delivery.{what_is_there_stays}
use Rattle.whole_paths.proofs.Directions.{harms_so, past_is_there, stays}
use Rattle.whole_paths.proofs.GoesOn.{goes_on_so}
use Rattle.whole_paths.proofs.OpenTurns.{begun, of_before, with_both}
use Rattle.whole_paths.proofs.ProbeWaits.{probes_are_awaited, probes_go_again}
use Rattle.whole_paths.proofs.Reached.{EndsAreReached, each_is_reached, none_left}
use Rattle.whole_paths.proofs.RecordWaits.{path_is}
use Rattle.whole_paths.proofs.RoundSteps.{between, early}
use Rattle.whole_paths.proofs.SegmentRounds.{four_rounds_bring, of_path, path_far, stays_there}
use Rattle.whole_paths.proofs.Sent.{what_came_was_sent}
use Rattle.whole_paths.proofs.Stalls.{who_stalls_is_shut}
use Rattle.whole_paths.proofs.UnitRounds.{goes_on, rounds_of, well_before}
use Rattle.whole_paths.proofs.WindowRoom.{one_path_is_roomy}

-- an ask comes by its tick after the round's end
probe_low : (s : Side) (by until : ℕ) (p : PathState Carried) → ProbeGoesBy s by until p → until + 400 ≤ by
probe_low s by until p (probe.waits is level tick runs late bound) = omega (arith, bound)
probe_low s by until p (probe.resends is again bound) = omega (arith, bound)
probe_low s by until p (probe.probes by_then late bound c) = omega (arith, bound)
probe_low s by until p (probe.fins position by_then late bound alone c) = omega (arith, bound)

-- SND.NXT never goes back
nxt_far : (s : Side) (p q : PathState Carried) → IsPathAsFar p q → (end_at s p).tcp.send.nxt ≤ (end_at s q).tcp.send.nxt
nxt_far A p q far = far.a.subflow.pushed
nxt_far B p q far = far.b.subflow.pushed

module _ (start : Start) (plan : PathPlan) (most : ℕ) (s : Side) (count : List Turn → ℕ) (First : ℕ → List Turn → Type 0) (Holds : List Turn → Type 0) (one : BeginsWithOnePath start plan)
    (harms : CountsAsMuch start (harmed_so_far values start) count) (well : (turns : List Turn) → First 0 turns → (t : Side) → DirectionIsWell t (reached values start turns)) (meets : MeetsStalls start s Holds) where
  abbrev Well : List Turn → Type 0
  Well = First 0

  abbrev t : Side
  t = peer s

  abbrev Stalled : ℕ → List Turn → Type 0
  Stalled = Stalls start s Well

  abbrev Edge : ℕ → List Turn → Type 0
  Edge = IsReached start s

  abbrev until : List Turn → ℕ
  until = round_end values start

  -- ---- a turn

  module _ (turns : List Turn) (turn : Turn) (before : IsOpenAfter start turns) (after : IsOpenAfter start (turns ++ turn ∷ [])) where
    abbrev p : PathState Carried
    p = before.path

    abbrev q : PathState Carried
    q = after.path

    abbrev later : List Turn
    later = turns ++ turn ∷ []

    abbrev open_turn : IsOpenTurn start turns turn
    open_turn = record { mild = one.mild; before = before; after = after }

    abbrev Goes : ℕ → Type 0
    Goes x = (count turns < count later) ⊎ (Holds later ⊎ Stalled x later)

    far_on : IsPathAsFar p q
    far_on = with_both start turns turn open_turn IsActorAsFar (let found = (goes_on_so values (reached values start turns) (turn ∷ [])).crew 2 before.here.crew before.here.there in (found.0, found.1, found.2.member))

    nxt_up : (end_at s p).tcp.send.nxt ≤ (end_at s q).tcp.send.nxt
    nxt_up = nxt_far s p q far_on

    edge_up : (end_at t p).tcp.recv.edge ≤ (end_at t q).tcp.recv.edge
    edge_up = (elim t as (λ u. (end_at u p).tcp.recv.edge ≤ (end_at u q).tcp.recv.edge) [ A ↦ far_on.a.subflow.received | B ↦ far_on.b.subflow.received ])

    by_harm : is_harmed s p q ≡ true → count turns < count later
    by_harm harmed =
        let more = harms.rises turns turn (begun start turns turn open_turn) in let is = harms_so start (one_path_is_roomy start plan one) turns turn (begun start turns turn open_turn) s in let once = ap one_if harmed in omega (arith, more, is, once)

    at_p : (edge : ℕ) → Edge edge turns → (end_at t p).tcp.recv.edge ≡ edge
    at_p edge r = subst (λ (z : PathState Carried). (end_at t z).tcp.recv.edge ≡ edge) (path_is (reached values start turns) r.path p r.here before.here) r.is

    -- as RCV.NXT of the peer rises it owes an acknowledgement
    edge_on : (edge : ℕ) → Edge edge turns → Holds later ⊎ Edge edge later
    edge_on edge r = ⊎_elim
        (λ more. inl (⊎_elim (λ due. meets.owed later after due) (λ past. meets.there later after (past_is_there start one.mild later q after.here s after.is_open past)) ((stays start (one_path_is_roomy start plan one) turns turn (begun start turns turn open_turn) s).more more)))
        (λ few. inr (record { path = q; here = after.here; is = (let up = edge_up in let is = at_p edge r in omega (arith, few, up, is)) }))
        (cases_lt (end_at t p).tcp.recv.edge (end_at t q).tcp.recv.edge)

    then_stalls : (edge x : ℕ) → Edge edge turns → (Edge edge later → StallGoes start s Well edge x later) → Goes x
    then_stalls edge x r go = inr (⊎_elim (λ holds. inl holds) (λ still. inr (record { edge = edge; goes = go still })) (edge_on edge r))

    sent_on : (edge : ℕ) → IsSentPast start s edge turns → IsSentPast start s edge later
    sent_on edge x = record {
      path = q;
      here = after.here;
      more = (let up = nxt_up in let is = ap (λ (z : PathState Carried). (end_at s z).tcp.send.nxt) (path_is (reached values start turns) x.path p x.here before.here) in let more = x.more in omega (arith, up, is, more));
    }

    -- what is asked comes
    probing_on : (edge x by : ℕ) → by + 1500 ≤ x → Edge edge turns → ProbeGoesBy s by (until later) p → Goes x
    probing_on edge x by late r stage = of_probe (probes_go_again start plan turns turn one open_turn s by (until later) (let low = early start later q after.here in omega (arith, low)) stage)
      where
        low : until later + 400 ≤ by
        low = probe_low s by (until later) p stage

        was_sent : (end_at t p).tcp.recv.edge ≤ (end_at s p).tcp.send.nxt
        was_sent = subst (λ u. (end_at t p).tcp.recv.edge ≤ (end_at u p).tcp.send.nxt) (sender_of s) (of_before start turns turn open_turn WasSent ((what_came_was_sent start turns one.mild.plain.size).each 2 before.here.crew before.here.there) t)

        of_probe : ProbeGoesOn s start turns turn p q by (until later) → Goes x
        of_probe (probing.goes more) = then_stalls edge x r (λ still. stall.probes by late q after.here more still)
        of_probe (probing.owed due) = inr (inl (meets.owed later after due))
        of_probe (probing.sends more) = then_stalls edge x r (λ still. stall.fresh still
            (inl (record { path = q; here = after.here; more = (let sent = was_sent in let is = at_p edge r in omega (arith, more, sent, is)) })) (let bound = low in omega (arith, bound, late)))
        of_probe (probing.harmed harmed) = inl (by_harm harmed)
        of_probe (probing.all_there all) = inr (inl (meets.there later after all))

  -- ---- a step

  module _ (turns : List Turn) (actor : ℕ) (before : IsOpenAfter start turns) (after : IsOpenAfter start (turns ++ Turn.Step actor ∷ [])) where
    abbrev next : List Turn
    next = turns ++ Turn.Step actor ∷ []

    same_end : until next ≡ until turns
    same_end = round_step values start turns actor

    steps : (edge x : ℕ) → StallGoes start s Well edge x turns → (count turns < count next) ⊎ (Holds next ⊎ Stalled x next)
    steps edge x (stall.fresh r sent bound) = then_stalls turns (Turn.Step actor) before after edge x r (λ still. stall.fresh still
        (⊎_elim (λ past. inl (sent_on turns (Turn.Step actor) before after edge past)) (λ far_bound. inr (let same = same_end in omega (arith, same, far_bound))) sent) (let same = same_end in omega (arith, same, bound)))
    steps edge x (stall.since n v w few first r sent bound) = then_stalls turns (Turn.Step actor) before after edge x r (λ still. stall.since n v ((goes_on start Well).on n v turns actor w after) few first still sent bound)
    steps edge x (stall.flies n v w few z here more r bound) = then_stalls turns (Turn.Step actor) before after edge x r (λ still. stall.flies n v ((goes_on start Well).on n v turns actor w after) few z here more still bound)
    steps edge x (stall.probes by late z here stage r) = probing_on turns (Turn.Step actor) before after edge x by late r
        (subst (λ n. ProbeGoesBy s by n before.path) (sym same_end) (subst (ProbeGoesBy s by (until turns)) (path_is (reached values start turns) z before.path here before.here) stage))

  -- ---- as a round begins

  module _ (turns : List Turn) (over : all_over (reached values start turns).crew ≡ true) (now_well : Well turns) (before : IsOpenAfter start turns) (after : IsOpenAfter start (turns ++ Turn.Round ∷ [])) where
    abbrev following : List Turn
    following = turns ++ Turn.Round ∷ []

    abbrev here_now : PathState Carried
    here_now = before.path

    abbrev Then : ℕ → Type 0
    Then x = (count turns < count following) ⊎ (Holds following ⊎ Stalled x following)

    later_end : until following ≡ until turns + 100
    later_end = round_next values start turns over

    there_then : (x : ℕ) → IsAllThere s (reached values start turns) → Then x
    there_then x all = inr (inl (meets.there following after (what_is_there_stays start turns (Turn.Round ∷ []) one.mild s all)))

    begin : WaitsSince start Well 0 turns following
    begin = (goes_on start Well).begins turns over now_well before after

    on_time : (n : ℕ) (v : List Turn) → WaitsSince start Well n v turns → until turns ≡ until v + 100 * suc n
    on_time n v w = (goes_on start Well).ends n v turns w

    -- so many rounds are over
    ended : (n : ℕ) (v : List Turn) → WaitsSince start Well n v turns → WellRounds start Well (suc n) v turns
    ended n v w = (w.last, (w.rounds, (record { order = w.order; is = w.is; before = w.over; over = over; stays_open = w.stays_open }, now_well)))

    -- ---- the window is shut

    shut_now : (edge x : ℕ) → Edge edge turns → until turns + 62700 ≤ x → IsShutAt s here_now → Then x
    shut_now edge x r bound is = ⊎_elim
        (λ all. there_then x all)
        (λ stage. probing_on turns Turn.Round before after edge x (until turns + 61200) (omega (arith, bound)) r
        (subst (λ n. ProbeGoesBy s (until turns + 61200) n here_now) (sym later_end) ((probes_are_awaited start plan turns one over before s).later (until turns + 61200) stage)))
        ((probes_are_awaited start plan turns one over before s).begins is)

    -- ---- six rounds

    -- before them, as the path was
    module _ (edge x : ℕ) (v : List Turn) (rounds : WellRounds start Well 6 v turns) (first_edge : Edge edge v) (r : Edge edge turns) (sent : IsSentPast start s edge v ⊎ (until v + 63400 ≤ x)) (bound : until v + 1100 ≤ x)
        (tick : until turns ≡ until v + 600) where
      abbrev b : List Turn
      b = rounds.0

      abbrev a : List Turn
      a = rounds.1.0.0

      well_v : DirectionIsWell s (reached values start v)
      well_v = well v (well_before start Well 6 v turns rounds) s

      reached_now : (end_at t here_now).tcp.recv.edge ≡ edge
      reached_now = at_p turns Turn.Round before after edge r

      reached_v : (end_at t well_v.path).tcp.recv.edge ≡ edge
      reached_v = subst (λ (z : PathState Carried). (end_at t z).tcp.recv.edge ≡ edge) (path_is (reached values start v) first_edge.path well_v.path first_edge.here well_v.here) first_edge.is

      was_none : IsSentPast start s edge v → (end_at s here_now).tcp.send.records ≡ [] → ⊥
      was_none past none =
          let all = none_left (end_at s here_now).tcp (of_path start one.mild turns here_now EndsAreReached before.here ((each_is_reached values start turns).each 2 before.here.crew before.here.there) s) none in
          let came = (of_path start one.mild turns here_now HasCome before.here ((what_is_acknowledged_came start turns).each 2 before.here.crew before.here.there)).una s (before.is_open.living s) in
          let far_path = path_far start one.mild v turns past.path here_now (between start 5 v turns (rounds_of start Well 6 v turns rounds)) past.here before.here in
          let up = nxt_far s past.path here_now far_path in let more = past.more in let is = reached_now in omega (arith, all, came, up, more, is)

      of_stall : GoesOnOrStalls start s well_v.path here_now turns → Then x
      of_stall (stalls_by.comes more) = absurd (let is = reached_now in let was = reached_v in omega (arith, more, is, was))
      of_stall (stalls_by.flies more) = then_stalls turns Turn.Round before after edge x r (λ still. stall.flies 0 turns begin (omega arith) here_now before.here (let is = reached_now in omega (arith, more, is)) still (omega (arith, tick, bound)))
      of_stall (stalls_by.fits enough) = inr (inl (meets.fits following after (let up = ((goes_on_so values (reached values start turns) (Turn.Round ∷ [])).sides s).send.edge in
          subst (λ (w : WorldState Carried). length (pick s start.file_a start.file_b) ≤ (written_by s w).edge) (sym (run_append values turns (Turn.Round ∷ []) (opened_world start))) (omega (arith, enough, up)))))
      of_stall (stalls_by.there all) = there_then x all
      of_stall (stalls_by.shut none shut) = ⊎_elim
          (λ past. absurd (was_none past none))
          (λ far_bound. shut_now edge x r (omega (arith, tick, far_bound)) (record { none = none; shut = shut }))
          sent

      six_on : Then x
      six_on = ⊎_elim
          (λ soon. of_stall (who_stalls_is_shut start plan one s v a b turns (rounds_of start Well 4 v a rounds.1.0.1.0) rounds.1.0.1.1.0 rounds.1.1.0 well_v.path here_now well_v.here before.here soon))
          (λ all. there_then x (stays_there start one.mild v turns s (between start 5 v turns (rounds_of start Well 6 v turns rounds)) all))
          well_v.told

    since_on : (edge x n : ℕ) (v : List Turn) → WaitsSince start Well n v turns → n ≤ 5 → Edge edge v → Edge edge turns → IsSentPast start s edge v ⊎ (until v + 63400 ≤ x) → until v + 1100 ≤ x → Then x
    since_on edge x n v w few first r sent bound = ⊎_elim
        (λ more. then_stalls turns Turn.Round before after edge x r (λ still. stall.since (suc n) v ((goes_on start Well).next n v turns w over now_well after) (omega (arith, more)) first still sent bound))
        (λ enough. by (omega (arith, few, enough)))
        (cases_lt n 5)
      where
        by : n ≡ 5 → Then x
        by is = six_on edge x v (subst (λ k. WellRounds start Well (suc k) v turns) is (ended n v w)) first r sent bound (let tick = on_time n v w in omega (arith, tick, is))

    flies_on : (edge x n : ℕ) (v : List Turn) → WaitsSince start Well n v turns → n ≤ 3 → (z : PathState Carried) → IsPathAt 0 (reached values start v) z → edge < sent_up_to (end_at s z).tcp.send → Edge edge turns → until v + 500 ≤ x
        → Then x
    flies_on edge x n v w few z here more r bound = ⊎_elim
        (λ left. then_stalls turns Turn.Round before after edge x r (λ still. stall.flies (suc n) v ((goes_on start Well).next n v turns w over now_well after) (omega (arith, left)) z here more still bound))
        (λ enough. by (omega (arith, few, enough)))
        (cases_lt n 3)
      where
        by : n ≡ 3 → Then x
        by is = ⊎_elim
            (λ all. there_then x all)
            (λ came. absurd (let at = at_p turns Turn.Round before after edge r in omega (arith, came, more, at)))
            (four_rounds_bring start v turns one.mild (rounds_of start Well 4 v turns rounds) s z here_now here before.here
            (subst (λ (y : PathState Carried). Every (IsWell s y) (end_at s y).tcp.send.records) (path_is (reached values start v) well_v.path z well_v.here here) well_v.records))
          where
            rounds : WellRounds start Well 4 v turns
            rounds = subst (λ k. WellRounds start Well (suc k) v turns) is (ended n v w)

            well_v : DirectionIsWell s (reached values start v)
            well_v = well v (well_before start Well 4 v turns rounds) s

    rounds_on : (edge x : ℕ) → StallGoes start s Well edge x turns → Then x
    rounds_on edge x (stall.fresh r sent bound) = then_stalls turns Turn.Round before after edge x r (λ still. stall.since 0 turns begin (omega arith) r still (⊎_elim (λ past. inl past) (λ far_bound. inr (omega (arith, far_bound))) sent) (omega (arith, bound)))
    rounds_on edge x (stall.since n v w few first r sent bound) = since_on edge x n v w few first r sent bound
    rounds_on edge x (stall.flies n v w few z here more r bound) = flies_on edge x n v w few z here more r bound
    rounds_on edge x (stall.probes by late z here stage r) = probing_on turns Turn.Round before after edge x by late r
        (subst (λ n. ProbeGoesBy s by n here_now) (sym later_end)
        ((probes_are_awaited start plan turns one over before s).later by (subst (ProbeGoesBy s by (until turns)) (path_is (reached values start turns) z here_now here before.here) stage)))

    in_time : (edge x : ℕ) → StallGoes start s Well edge x turns → until turns ≤ x
    in_time edge x (stall.fresh r sent bound) = omega (arith, bound)
    in_time edge x (stall.since n v w few first r sent bound) = let tick = on_time n v w in omega (arith, tick, few, bound)
    in_time edge x (stall.flies n v w few z here more r bound) = let tick = on_time n v w in omega (arith, tick, few, bound)
    in_time edge x (stall.probes by late z here stage r) = let low = probe_low s by (until turns) z stage in omega (arith, low, late)

  abbrev On : ℕ → List Turn → List Turn → Type 0
  On x v u = (count v < count u) ⊎ (Holds u ⊎ Stalled x u)

  waited_for : StallsAreWaitedFor start plan most s count First Holds
  waited_for = record {
    waits_on = λ x v u step is_well h. subst (On x v) (sym step.is) (steps v step.actor step.before (subst (IsOpenAfter start) step.is step.after) h.edge x h.goes);
    waits_next = λ x v u step is_well h. subst (On x v) (sym step.is) (rounds_on v step.over is_well step.before (subst (IsOpenAfter start) step.is step.after) h.edge x h.goes);
    in_time = λ x v u step is_well h. in_time v step.over is_well step.before (subst (IsOpenAfter start) step.is step.after) h.edge x h.goes;
    begins = λ v u step is_well. inr (record {
      edge = (end_at t step.after.path).tcp.recv.edge;
      goes = (let tick = ap until step.is ∙ round_next values start v step.over in
          stall.fresh (record { path = step.after.path; here = step.after.here; is = refl }) (inr (omega (arith, tick))) (omega (arith, tick)));
    });
  }

pub stalls_are_mended : StallsAreMended
stalls_are_mended start plan most s count First Holds one harms well meets = waited_for start plan most s count First Holds one harms well meets
