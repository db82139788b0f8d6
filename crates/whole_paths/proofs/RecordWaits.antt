-- A wait for a record goes on by each turn between open ends, or something is counted.
use Rattle.std.proofs.Common.{◌≡◌, refl, sym, subst, ap, ◌∙◌, ◌⊎◌, ⊎_elim, inl, inr, ℕ, ◌+◌, ◌<◌, ◌≤◌, arith, Bool, true, false, true≢false, if◌then◌else◌, le_refl, map, Some, None, Option, List, [], ◌∷◌, ◌++◌, suc, zero, IfSome}
use Rattle.std.specs.List.{slice_get}
use Rattle.std.proofs.lemmas.Bool.{both_ways, cases_lt, ltb-true}
use Rattle.std.proofs.lemmas.Option.{same_Some}
use Rattle.sides.specs.declared.side.Side.{Side}
use Rattle.sides.specs.declared.side.Side.TheVariants.{A, B}
use Rattle.sides.specs.Side.{peer}
use Rattle.fallback_state.specs.Modes.{reads_mappings}
use Rattle.subflow_send.specs.Records.{Record, end_of}
use Rattle.stream_lanes.proofs.Lists.{in_map}
use Rattle.subflow_tcp.specs.State.{is_behind, is_fin_passed}
use Rattle.subflow_tcp.specs.States.{is_closed_to_segments, is_dead}
use Rattle.subflow_tcp.specs.declared.handshake.State.{State as EndPhase}
use Rattle.subflow_tcp.specs.declared.handshake.State.TheVariants as phase
use Rattle.path_core.specs.State.{PathState, end_at}
use Rattle.path_core.specs.Steps.{next_round}
use Rattle.path_core.specs.Values.{Carried, values}
use Rattle.world_laws.specs.declared.member.Member.TheVariants.{App, Path}
use Rattle.world_laws.specs.Actors.{Actor, ActorCrew, is_over, member_next}
use Rattle.world_laws.specs.Members.{HoldsOfKind}
use Rattle.world_laws.specs.Openings.{Start, opened_world}
use Rattle.world_laws.specs.RoundDone.{EndsAt, reached}
use Rattle.world_laws.specs.Worlds.{WorldState, Turn, after_turn, begins, greatest}
use Rattle.world_laws.proofs.Rounds.DoneByTheEnd.{rounds_end_on_time}
use Rattle.world_laws.proofs.Rounds.Lifting.{all_over_each}
use Rattle.world_laws.proofs.Weaving.WholeRounds.{run_append}
use Rattle.whole_paths.specs.AsFar.{IsActorAsFar, IsPathAsFar, stage}
use Rattle.whole_paths.specs.Courses.{BeginsARoundAt, TakesAStepAt, counted_at, round_end}
use Rattle.whole_paths.specs.DataLeft.{HasDataLeft, IsData}
use Rattle.whole_paths.specs.Exchanges.{ExchangeGoesOn, ExchangesBegin, ExchangesEnd, ExchangesGoOn, IsBareWithin, IsExchanged, LetsThrough}
use Rattle.whole_paths.specs.Exchanges.{ExchangeGoesOn as goes}
use Rattle.whole_paths.specs.Exchanges.IsExchanged.{comes, in_hand, answered, acknowledged}
use Rattle.whole_paths.specs.Finish.{IsPathAt}
use Rattle.whole_paths.specs.Flights.{IsFirst}
use Rattle.whole_paths.specs.Kept.{EndsKeepWhatWaits}
use Rattle.whole_paths.specs.Mild.{EndsGoByMappings, IsMildStart}
use Rattle.whole_paths.specs.News.{ActorCounts, one_if}
use Rattle.whole_paths.specs.News.{Counts as counts}
use Rattle.whole_paths.specs.OpenCourses.{HoldUpsCount, IsFaithfulAt, IsNowAt}
use Rattle.whole_paths.specs.ReadModes.{ReadsMappings}
use Rattle.whole_paths.specs.RecordWaits.{AwaitsARecordAt, HasARecordAt, IsRecordAwaited, RecordsAreAwaitedAlways, RecordsAreAwaitedAt}
use Rattle.whole_paths.specs.Straying.{IsHardlyAstray, IsOpen, IsSound, IsSoundFrom}
use Rattle.whole_paths.specs.Straying.{IsHardlyAstray as hardly}
use Rattle.whole_paths.specs.Timers.{TimersAreNear}
use Rattle.whole_paths.specs.Waits.{IsNews}
use Rattle.whole_paths.specs.WholeMappings.{NoneIsPartial}
use Rattle.whole_paths.proofs.Counted.{by_counts, what_holds_up_counts}
use Rattle.whole_paths.proofs.DataLeft.{each_path_has_data_left}
use Rattle.whole_paths.proofs.Exchanges.{answer_later, each_record_is_acknowledged, hand_later, lets_through}
use Rattle.whole_paths.proofs.Finishing.{MemberFinishes, turn_finishes}
use Rattle.whole_paths.proofs.Flying.{first_stays, same_record}
use Rattle.whole_paths.proofs.GoesOn.{goes_on_so}
use Rattle.whole_paths.proofs.Keeping.{what_waits_is_kept}
use Rattle.whole_paths.proofs.Mild.{mapping_is_kept}
use Rattle.whole_paths.proofs.InTime.{nil_so}
use Rattle.whole_paths.proofs.OpenCourses.{IsOfLanes, each_of_lanes}
use Rattle.whole_paths.proofs.ReadModes.{ends_read_mappings}
use Rattle.whole_paths.proofs.RoundBegins.{next_rests, no_round_counts}
use Rattle.whole_paths.proofs.OpenAsks.{open_sound}
use Rattle.whole_paths.proofs.Straying.{sound_ends_hardly_stray, sound_from}
use Rattle.whole_paths.proofs.Timing.{timers_run_out}
use Rattle.whole_paths.proofs.WholeMappings.{each_mapping_is_whole, first_has}
use Rattle.whole_paths.specs.Came.{HasCome}
use Rattle.whole_paths.specs.LastFin.{FinIsLast}
use Rattle.whole_paths.specs.Overruns.{StaysWithin}
use Rattle.whole_paths.proofs.Arrivals.{sender_of}
use Rattle.whole_paths.proofs.Came.{what_is_acknowledged_came}
use Rattle.whole_paths.proofs.LastFin.{fins_are_last}
use Rattle.whole_paths.proofs.News.{one_most}
use Rattle.whole_paths.proofs.Overruns.{each_end_stays_within}
use Rattle.whole_paths.proofs.Reached.{EndsAreReached, each_is_reached, none_left}

-- ---- later

pub exchange_later : (s : Side) (r : Record) (before later : ℕ) (p : PathState Carried) → before ≤ later → IsExchanged s r before p → IsExchanged s r later p
exchange_later s r before later p low (comes arrival soon first way so) = comes arrival (omega (arith, soon, low)) first way so
exchange_later s r before later p low (in_hand opened h) = in_hand opened (hand_later (peer s) (end_of r) before later p low h)
exchange_later s r before later p low (answered opened h so) =
    let next = answer_later (IsBareWithin (end_at s p).tcp.recv.edge (end_at (peer s) p).tcp.send.nxt) (peer s) (end_of r) (end_of r) before later p (le_refl (end_of r)) low h so in answered opened next.0 next.1
exchange_later s r before later p low (acknowledged reached) = acknowledged reached

-- where RCV.NXT of the peer isn't past a FIN that wasn't sent
pub unpassed : (at : Option ℕ) (edge : ℕ) → at ≡ None → is_behind at edge ≡ true → ⊥
unpassed at edge none behind = true≢false (sym behind ∙ ap (λ o. is_behind o edge) none)

-- and where it is past one that stands right before SND.NXT all came
pub passed_all : (at : Option ℕ) (edge nxt : ℕ) → IfSome at (λ position. suc position ≡ nxt) → is_behind at edge ≡ true → nxt ≤ edge
passed_all None edge nxt is behind = absurd (true≢false (sym behind))
passed_all (Some position) edge nxt is behind = let more = ltb-true position edge behind in omega (arith, more, is)

-- an end that is past the handshake and lives
pub living_open : (state : EndPhase) → 3 ≤ stage state → is_dead state ≡ false → is_closed_to_segments state ≡ false
living_open phase.Waiting past living = absurd (omega (arith, past))
living_open phase.Listen past living = absurd (omega (arith, past))
living_open phase.Dead past living = absurd (true≢false living)
living_open _ past living = refl

-- no line takes anything away on the path
pub lets_at : (number : ℕ) (p : PathState Carried) → IsFaithfulAt number p → LetsThrough p
lets_at zero p h = lets_through p h
lets_at (suc number) p h = h

-- ---- a turn

module _ (start : Start) (mild : IsMildStart start) (turns : List Turn) (turn : Turn) where
  abbrev w : WorldState Carried
  w = reached values start turns

  abbrev v : WorldState Carried
  v = after_turn values turn w

  pub last : reached values start (turns ++ turn ∷ []) ≡ v
  last = run_append values turns (turn ∷ []) (opened_world start)

  -- what the laws of one turn say of a path, between two moments
  module _ {number : ℕ} {Holds : PathState Carried → Type 0} (before : IsNowAt number Holds w) (after : IsNowAt number Holds v) where
    abbrev Rises : Type 0
    Rises = counted_at values start number turns < counted_at values start number (turns ++ turn ∷ [])

    abbrev p : PathState Carried
    p = before.path

    abbrev q : PathState Carried
    q = after.path

    member_p : before.here.crew.member ≡ Path p
    member_p = before.here.is

    -- what holds of both actors
    pub with_both : (R : Actor Carried → Actor Carried → Type 0)
        → ((d : ActorCrew Carried) × (slice_get v.crew (2 + number) ≡ Some d) × R before.here.crew.member d.member) → R (Path p) (Path q)
    with_both R found =
        subst (λ m. R m (Path q)) before.here.is
        (subst (λ m. R before.here.crew.member m) (ap (λ (c : ActorCrew Carried). c.member) (same_Some found.0 after.here.crew (sym found.1 ∙ after.here.there)) ∙ after.here.is) found.2)

    pub here : (R : Actor Carried → Actor Carried → Type 0) → R before.here.crew.member after.here.crew.member → R (Path p) (Path q)
    here R h = subst (λ m. R m (Path q)) before.here.is (subst (λ m. R before.here.crew.member m) after.here.is h)

    pub counts_so : counts p q → Rises
    counts_so is = by_counts start number turns turn before.here.crew after.here.crew before.here.there after.here.there
        (subst (λ m. ActorCounts m after.here.crew.member) (sym before.here.is) (subst (λ n. ActorCounts (Path p) n) (sym after.here.is) is))

    far : IsPathAsFar p q
    far = with_both IsActorAsFar (let found = (goes_on_so values w (turn ∷ [])).crew (2 + number) before.here.crew before.here.there in (found.0, found.1, found.2.member))

    finishing : MemberFinishes (Path p) (Path q)
    finishing = with_both MemberFinishes (turn_finishes values w turn (2 + number) before.here.crew before.here.there)

    of_lanes : IsOfLanes start q
    of_lanes = subst (HoldsOfKind (λ app. Unit {0}) (IsOfLanes start)) after.here.is
        (each_of_lanes start (turns ++ turn ∷ []) mild.plain.size (2 + number) after.here.crew (subst (λ (x : WorldState Carried). slice_get x.crew (2 + number) ≡ Some after.here.crew) (sym last) after.here.there))

    last_now : FinIsLast q
    last_now = subst (HoldsOfKind (λ app. Unit {0}) FinIsLast) after.here.is
        ((fins_are_last start (turns ++ turn ∷ []) mild.plain.size).each (2 + number) after.here.crew (subst (λ (x : WorldState Carried). slice_get x.crew (2 + number) ≡ Some after.here.crew) (sym last) after.here.there))

    pub edge_up : (s : Side) → (end_at s p).tcp.recv.edge ≤ (end_at s q).tcp.recv.edge
    edge_up = elim [ A ↦ far.a.subflow.received | B ↦ far.b.subflow.received ]

    pub una_up : (s : Side) → (end_at s p).tcp.send.una ≤ (end_at s q).tcp.send.una
    una_up = elim [ A ↦ far.a.subflow.acknowledged | B ↦ far.b.subflow.acknowledged ]

    pub nxt_up : (s : Side) → (end_at s p).tcp.send.nxt ≤ (end_at s q).tcp.send.nxt
    nxt_up = elim [ A ↦ far.a.subflow.pushed | B ↦ far.b.subflow.pushed ]

    -- where it is sound from the side that sends
    module _ (x : ℕ) (h : IsRecordAwaited x p) (from_p : IsSoundFrom h.side p) (from_q : IsSoundFrom h.side q) where
      abbrev s : Side
      s = h.side

      abbrev r : Record
      r = h.awaited

      abbrev Next : Type 0
      Next = Rises ⊎ ((z : IsRecordAwaited x q) × (z.side ≡ s))

      abbrev Ahead : PathState Carried → Type 0
      Ahead z = ((end_at s z).tcp.send.finished ≡ false) ⊎ ((end_at (peer s) z).tcp.recv.edge < end_of r)

      -- no FIN is sent, and no more comes, or that counts
      if_ahead : (Ahead q → Next) → Next
      if_ahead still = ⊎_elim
          (λ unfinished. ⊎_elim (λ same. still (inl (same ∙ unfinished))) (λ more. inl (counts_so (counts.sent_more s more))) (finishing s).goes)
          (λ few. ⊎_elim (λ more. inl (counts_so (counts.in_order (peer s) more))) (λ same. still (inr (omega (arith, few, same))))
          (cases_lt (end_at (peer s) p).tcp.recv.edge (end_at (peer s) q).tcp.recv.edge))
          h.ahead

      within : end_of r ≤ (end_at s q).tcp.send.nxt
      within = let low = h.within in let up = nxt_up s in omega (arith, low, up)

      -- the peer isn't past a FIN
      not_behind : Ahead q → is_fin_passed (end_at (peer s) q).tcp ≡ true → ⊥
      not_behind (inl unfinished) behind = unpassed (end_at (peer s) q).tcp.fin_at (end_at (peer s) q).tcp.recv.edge (of_lanes.fins s unfinished) behind
      not_behind (inr few) behind =
          let past = passed_all (end_at (peer s) q).tcp.fin_at (end_at (peer s) q).tcp.recv.edge (end_at s q).tcp.send.nxt (last_now.heard s) behind in omega (arith, past, few, within)

      -- it stays the first one, or that counts
      if_first : (IsFirst r (end_at s q) → Next) → Next
      if_first still = ⊎_elim still (λ is. inl (counts_so (counts.at_end s is)))
          (first_stays r (end_at s p) (end_at s q) (with_both EndsKeepWhatWaits (what_waits_is_kept values w (turn ∷ []) (2 + number) before.here.crew before.here.there) s) h.first)

      -- its end isn't acknowledged, or that counts
      if_left : ((end_at s q).tcp.send.una < end_of r → Next) → Next
      if_left still = ⊎_elim (λ more. inl (counts_so (counts.at_end s (IsNews.on_subflow more)))) (λ few. still (let left = h.left in omega (arith, few, left))) (cases_lt (end_at s p).tcp.send.una (end_at s q).tcp.send.una)

      -- the peer sends no more, or that counts
      if_room : ((end_at (peer s) q).tcp.send.nxt ≤ (end_at s q).tcp.recv.edge + 1048576 → Next) → Next
      if_room still = ⊎_elim (λ more. inl (counts_so (counts.sent_more (peer s) more)))
          (λ few. still (let room = h.room in let up = edge_up s in omega (arith, few, room, up)))
          (cases_lt (end_at (peer s) p).tcp.send.nxt (end_at (peer s) q).tcp.send.nxt)

      goes_by : IsExchanged s r x q → Next
      goes_by exchange = if_ahead (λ ahead. if_first (λ first. if_left (λ left. if_room (λ room.
          inr (record { side = s; awaited = r; is_data = h.is_data; first = first; left = left; within = within; ahead = ahead; room = room; exchange = exchange }, refl)))))

      -- each mapping at RCV.NXT is whole with the record
      whole : NoneIsPartial p
      whole = subst (HoldsOfKind (λ app. Unit {0}) NoneIsPartial) before.here.is (each_mapping_is_whole start turns mild (2 + number) before.here.crew before.here.there)

      -- and checks are told of
      is_read : ReadsMappings q
      is_read = subst (HoldsOfKind (λ app. Unit {0}) ReadsMappings) after.here.is
          (ends_read_mappings start (turns ++ turn ∷ []) mild (2 + number) after.here.crew (subst (λ (x : WorldState Carried). slice_get x.crew (2 + number) ≡ Some after.here.crew) (sym last) after.here.there))

      mapped_p : EndsGoByMappings p
      mapped_p = subst (HoldsOfKind (λ app. Unit {0}) EndsGoByMappings) before.here.is ((mapping_is_kept start turns mild).each (2 + number) before.here.crew before.here.there)

      mapped_q : EndsGoByMappings q
      mapped_q = subst (HoldsOfKind (λ app. Unit {0}) EndsGoByMappings) after.here.is
          ((mapping_is_kept start (turns ++ turn ∷ []) mild).each (2 + number) after.here.crew (subst (λ (x : WorldState Carried). slice_get x.crew (2 + number) ≡ Some after.here.crew) (sym last) after.here.there))

      strays : IsHardlyAstray s r p q → Next
      strays (hardly.behind_fin behind) = if_ahead (λ ahead. absurd (not_behind ahead behind))
      strays (hardly.untold sums reads) = absurd (both_ways (reads_mappings (end_at (peer s) q).modes.mode) reads (is_read (peer s)))
      strays (hardly.partial is) = absurd (whole s r (first_has r (end_at s p) h.first) h.is_data is)
      strays (hardly.past_window past) = absurd (let room = h.room in omega (arith, past, room))

      by_exchange : ExchangeGoesOn s r x p q → Next
      by_exchange (goes.on exchange) = goes_by exchange
      by_exchange (goes.held_up held) = inl (here (λ m n. HoldUps m n)
          (what_holds_up_counts start number turns turn before.here.crew after.here.crew before.here.there after.here.there) from_p.living from_q.living before.few s held)
        where
          HoldUps : Actor Carried → Actor Carried → Type 0
          HoldUps m n = HoldUpsCount Rises m n
      by_exchange (goes.astray astray) = strays (sound_ends_hardly_stray p q s from_p from_q mapped_p mapped_q r astray)

      pub goes_on : Next
      goes_on = by_exchange ((with_both ExchangesGoOn (each_record_is_acknowledged.goes_on start turns mild.plain.size mild.fit turn (2 + number) before.here.crew before.here.there))
          (lets_at number before.path before.faithful) s r x h.is_data before.few h.exchange)

-- ---- waits

pub same_path : (m : Actor Carried) (p q : PathState Carried) → m ≡ Path p → m ≡ Path q → p ≡ q
same_path m p q a b = cc

pub path_is : {number : ℕ} (w : WorldState Carried) (p q : PathState Carried) → IsPathAt number w p → IsPathAt number w q → p ≡ q
path_is w p q here there = same_path there.crew.member p q (ap (λ (c : ActorCrew Carried). c.member) (same_Some there.crew here.crew (sym there.there ∙ here.there)) ∙ here.is) there.is

-- what holds of the path of a number at each moment, by which it is sound from these sides
module _ (number : ℕ) (start : Start) (most : ℕ) (mild : IsMildStart start) (Holds : PathState Carried → Type 0) (Of : Side → Type 0)
    (from : (v : List Turn) (p : PathState Carried) → IsPathAt number (reached values start v) p → Holds p → (s : Side) → Of s → IsSoundFrom s p) where
  abbrev Now : List Turn → Type 0
  Now turns = IsNowAt number Holds (reached values start turns)

  abbrev Rising : List Turn → List Turn → Type 0
  Rising v u = counted_at values start number v < counted_at values start number u

  -- a record of such a side
  pub record Awaits (x : ℕ) (turns : List Turn) : Type 0 where
    pub path : PathState Carried
    pub here : IsPathAt number (reached values start turns) path
    pub waits : IsRecordAwaited x path
    pub of : Of waits.side

  -- at the same path
  awaited_at : (x : ℕ) (u : WorldState Carried) (a b : PathState Carried) → IsPathAt number u a → IsPathAt number u b → (h : IsRecordAwaited x a) → Of h.side → (z : IsRecordAwaited x b) × Of z.side
  awaited_at x u a b at there h of = subst (λ c. (z : IsRecordAwaited x c) × Of z.side) (path_is u a b at there) (h, of)

  turn_on : (x : ℕ) (v : List Turn) (turn : Turn) → Now v → Now (v ++ turn ∷ []) → Awaits x v
      → Rising v (v ++ turn ∷ []) ⊎ Awaits x (v ++ turn ∷ [])
  turn_on x v turn before after h =
      let same = run_append values v (turn ∷ []) (opened_world start) in
      let then_open : IsNowAt number Holds (after_turn values turn (reached values start v)) = subst (λ (y : WorldState Carried). IsNowAt number Holds y) same after in
      let there : IsPathAt number (reached values start (v ++ turn ∷ [])) then_open.path = subst (λ (y : WorldState Carried). IsPathAt number y then_open.path) (sym same) then_open.here in
      ⊎_elim (λ rises. inl rises)
      (λ waits. inr (record { path = then_open.path; here = there; waits = waits.0; of = subst Of (sym waits.1) waiting.1 }))
      (goes_on start mild v turn before then_open x waiting.0 (from v before.path before.here before.is_open waiting.0.side waiting.1)
      (from (v ++ turn ∷ []) then_open.path there then_open.is_open waiting.0.side waiting.1))
    where
      waiting : (z : IsRecordAwaited x before.path) × Of z.side
      waiting = awaited_at x (reached values start v) h.path before.path h.here before.here h.waits h.of

  pub steps_on : (x : ℕ) (v u : List Turn) → TakesAStepAt values start number Now most v u → Awaits x v → Rising v u ⊎ Awaits x u
  steps_on x v u step h = subst (λ t. Rising v t ⊎ Awaits x t) (sym step.is)
      (turn_on x v (Turn.Step step.actor) step.before (subst Now step.is step.after) h)

  pub opens_on : (x : ℕ) (v u : List Turn) → BeginsARoundAt values start number Now most v u → Awaits x v → Rising v u ⊎ Awaits x u
  opens_on x v u step h = subst (λ t. Rising v t ⊎ Awaits x t) (sym step.is)
      (turn_on x v Turn.Round step.before (subst Now step.is step.after) h)

  -- ---- as a round begins

  module _ (v u : List Turn) (step : BeginsARoundAt values start number Now most v u) where
    abbrev ended : WorldState Carried
    ended = reached values start v

    goes_over : after_turn values Turn.Round ended ≡ record ended { crew = map (begins (greatest 0 ended.crew)) ended.crew }
    goes_over = ap (λ (b : Bool). if b then record ended { crew = map (begins (greatest 0 ended.crew)) ended.crew } else ended) step.over

    -- the clock of the path is at the end of the round before
    pub clock_is : (p : PathState Carried) → IsPathAt number (reached values start u) p → p.clock ≡ round_end values start v
    clock_is p here =
        let found = in_map (begins (greatest 0 ended.crew)) ended.crew (2 + number) here.crew (subst (λ (y : WorldState Carried). slice_get y.crew (2 + number) ≡ Some here.crew) (there_is ∙ goes_over) here.there) in
        by found.0.member found.0 found.1 refl (ap (λ (c : ActorCrew Carried). c.member) found.2 ∙ here.is)
      where
        there_is : reached values start u ≡ after_turn values Turn.Round ended
        there_is = ap (reached values start) step.is ∙ run_append values v (Turn.Round ∷ []) (opened_world start)

        by : (m : Actor Carried) (c : ActorCrew Carried) → slice_get ended.crew (2 + number) ≡ Some c → c.member ≡ m → member_next c.member ≡ Path p → p.clock ≡ round_end values start v
        by (Path before) c at is next =
            let same : next_round before ≡ p = same_path (member_next c.member) (next_round before) p (ap member_next is) next in
            ap (λ (x : PathState Carried). x.clock) (sym same) ∙ (next_rests before).clock ∙ subst (EndsAt (round_end values start v)) is ((rounds_end_on_time values start v).each (2 + number) c at)
        by (App a) c at is next = absurd (let made = subst (λ (m : Actor Carried). member_next m ≡ Path p) is next in cc)

    pub none_late : (x : ℕ) → Awaits x v → x < round_end values start v → Rising v u
    none_late x h late = ⊎_elim (λ rises. rises) (λ waits. absurd (past waits)) (opens_on x v u step h)
      where
        past : Awaits x u → ⊥
        past waits =
            let ends : ExchangesEnd waits.path = subst (HoldsOfKind (λ app. Unit {0}) ExchangesEnd) waits.here.is ((each_record_is_acknowledged.in_time start u).end (2 + number) waits.here.crew waits.here.there) in
            let clock = clock_is waits.path waits.here in
            let reached_end = ends waits.waits.side waits.waits.awaited x waits.waits.exchange (omega (arith, late, clock)) in
            let left = waits.waits.left in omega (arith, reached_end, left)

    -- where an end of the path sent no FIN
    module _ (path : PathState Carried) (here : IsPathAt number ended path) (side : Side) (unsent : (end_at side path).tcp.send.finished ≡ false) (of : Of side) where
      near : TimersAreNear path
      near = subst (HoldsOfKind (λ app. Unit {0}) TimersAreNear) here.is ((timers_run_out values start v).each (2 + number) here.crew here.there)

      until : path.until ≡ round_end values start v
      until = subst (EndsAt (round_end values start v)) here.is ((rounds_end_on_time values start v).each (2 + number) here.crew here.there)

      silent : path.agenda ≡ []
      silent = nil_so path.agenda (subst (λ m. is_over m ≡ true) here.is (all_over_each ended.crew (2 + number) here.crew step.over here.there))

      begun : ExchangesBegin path
      begun = subst (HoldsOfKind (λ app. Unit {0}) ExchangesBegin) here.is ((each_record_is_acknowledged.in_time start v).begin (2 + number) here.crew here.there)

      opened : IsSoundFrom side path
      opened = from v path here (subst Holds (path_is ended step.before.path path step.before.here here) step.before.is_open) side of

      is_left : HasDataLeft path
      is_left = subst (HoldsOfKind (λ app. Unit {0}) HasDataLeft) here.is (each_path_has_data_left start v mild.plain.size mild.fit (2 + number) here.crew here.there)

      few : StaysWithin path
      few = subst (HoldsOfKind (λ app. Unit {0}) StaysWithin) here.is (each_end_stays_within start v mild (2 + number) here.crew here.there)

      came : HasCome path
      came = subst (HoldsOfKind (λ app. Unit {0}) HasCome) here.is ((what_is_acknowledged_came start v).each (2 + number) here.crew here.there)

      ends : EndsAreReached path
      ends = subst (HoldsOfKind (λ app. Unit {0}) EndsAreReached) here.is ((each_is_reached values start v).each (2 + number) here.crew here.there)

      -- with the first record of a side
      side_begins : (t : Side) (r : Record) (others : List Record) → (end_at t path).tcp.send.records ≡ r ∷ others → IsData r (end_at t path)
          → ((end_at t path).tcp.send.finished ≡ false) ⊎ ((end_at (peer t) path).tcp.recv.edge < end_of r)
          → (end_at (peer t) path).tcp.send.nxt ≤ (end_at t path).tcp.recv.edge + 1048576 → Of t
          → Awaits (round_end values start v + 60800) u
      side_begins t r others is data_is ahead room of_t = ⊎_elim
          (λ rises. absurd (let same = ap (counted_at values start number) step.is ∙ no_round_counts start number v step.over in omega (arith, rises, same)))
          (λ waits. waits)
          (opens_on (round_end values start v + 60800) v u step (record { path = path; here = here; waits = awaited; of = of_t }))
        where
          awaited : IsRecordAwaited (round_end values start v + 60800) path
          awaited = record {
            side = t;
            awaited = r;
            is_data = data_is.kind;
            first = record { first = r; others = others; records = is; same = same_record r };
            left = data_is.left;
            within = data_is.within;
            ahead = ahead;
            room = room;
            exchange = exchange_later t r (path.clock + 60000 + 400 + 400) (round_end values start v + 60800) path
                (let clock = near.clock in omega (arith, clock, until)) (begun silent t (living_open (end_at t path).tcp.state (opened.past t) (opened.living t)) r others is);
          }

      abbrev other : Side
      other = peer side

      edge_same : (end_at (peer other) path).tcp.recv.edge ≡ (end_at side path).tcp.recv.edge
      edge_same = ap (λ x. (end_at x path).tcp.recv.edge) (sender_of side)

      nxt_same : (end_at (peer other) path).tcp.send.nxt ≡ (end_at side path).tcp.send.nxt
      nxt_same = ap (λ x. (end_at x path).tcp.send.nxt) (sender_of side)

      -- the peer filled the window, and its FIN stands behind: its own first record is waited for
      other_begins : (end_at side path).tcp.recv.edge + 1048576 < (end_at other path).tcp.send.nxt → Of other → (rs : List Record) → (end_at other path).tcp.send.records ≡ rs
          → Awaits (round_end values start v + 60800) u
      other_begins past of_other [] is = absurd (let none = none_left (end_at other path).tcp (ends other) is in let low = came.una other (opened.living other) in omega (arith, past, none, low, edge_same))
      other_begins past of_other (r ∷ others) is =
          let low = came.una other (opened.living other) in
          let data_is = is_left other (opened.past other) (opened.living other) (inr (omega (arith, past, low, edge_same))) r others is in
          let most_sent = few other in let one = one_most (end_at other path).tcp.send.finished in
          let left = data_is.left in
          let own = few side in let none = ap one_if unsent in let came_here = came.una side (opened.living side) in
          side_begins other r others is data_is (inr (omega (arith, past, most_sent, one, left, edge_same))) (omega (arith, own, none, came_here, nxt_same)) of_other

      pub room_or : Of other → Awaits (round_end values start v + 60800) u ⊎ ((end_at other path).tcp.send.nxt ≤ (end_at side path).tcp.recv.edge + 1048576)
      room_or of_other = ⊎_elim (λ past. inl (other_begins past of_other (end_at other path).tcp.send.records refl)) (λ room. inr room) (cases_lt ((end_at side path).tcp.recv.edge + 1048576) (end_at other path).tcp.send.nxt)

    -- where the end's own window has room for what the peer sent
    pub begins_with_room : (h : HasARecordAt number start v) → Of h.side → (end_at (peer h.side) h.path).tcp.send.nxt ≤ (end_at h.side h.path).tcp.recv.edge + 1048576 → Awaits (round_end values start v + 60800) u
    begins_with_room h of room =
        let open_h : IsSoundFrom h.side h.path = opened h.path h.here h.side h.unfinished of in
        side_begins h.path h.here h.side h.unfinished of h.side h.first h.others h.records
        (is_left h.path h.here h.side h.unfinished of h.side (open_h.past h.side) (open_h.living h.side) (inl h.unfinished) h.first h.others h.records) (inl h.unfinished) room of

    pub wait_begins : (h : HasARecordAt number start v) → Of h.side → Of (peer h.side) → Awaits (round_end values start v + 60800) u
    wait_begins h of of_other = ⊎_elim
        (λ waits. waits)
        (λ room. begins_with_room h of room)
        (room_or h.path h.here h.side h.unfinished of of_other)

-- ---- a path that is sound

module _ (number : ℕ) (start : Start) (most : ℕ) (mild : IsMildStart start) (Holds : PathState Carried → Type 0)
    (sound : (v : List Turn) (p : PathState Carried) → IsPathAt number (reached values start v) p → Holds p → IsSound p) where
  abbrev Each : Side → Type 0
  Each s = Unit {0}

  from_both : (v : List Turn) (p : PathState Carried) → IsPathAt number (reached values start v) p → Holds p → (s : Side) → Each s → IsSoundFrom s p
  from_both v p here holds s of = sound_from p (sound v p here holds) s

  abbrev AwaitsOne : ℕ → List Turn → Type 0
  AwaitsOne x turns = Awaits number start most mild Holds Each from_both x turns

  plainly : (x : ℕ) (turns : List Turn) → AwaitsOne x turns → AwaitsARecordAt number start x turns
  plainly x turns h = record { path = h.path; here = h.here; waits = h.waits }

  as_one : (x : ℕ) (turns : List Turn) → AwaitsARecordAt number start x turns → AwaitsOne x turns
  as_one x turns h = record { path = h.path; here = h.here; waits = h.waits; of = tt }

  pub records_are_awaited : RecordsAreAwaitedAt number Holds start most
  records_are_awaited = record {
    begins = λ v u step h. plainly (round_end values start v + 60800) u (wait_begins number start most mild Holds Each from_both v u step h tt tt);
    room = λ v u step h. ⊎_elim (λ waits. inl (plainly (round_end values start v + 60800) u waits)) (λ room. inr room)
        (room_or number start most mild Holds Each from_both v u step h.path h.here h.side h.unfinished tt tt);
    on = λ x v u step h. ⊎_elim (λ rises. inl rises) (λ waits. inr (plainly x u waits)) (steps_on number start most mild Holds Each from_both x v u step (as_one x v h));
    next = λ x v u step h. ⊎_elim (λ rises. inl rises) (λ waits. inr (plainly x u waits)) (opens_on number start most mild Holds Each from_both x v u step (as_one x v h));
    due = λ x v u step h late. none_late number start most mild Holds Each from_both v u step x (as_one x v h) late;
  }

pub records_are_awaited_always : RecordsAreAwaitedAlways
records_are_awaited_always start most mild = records_are_awaited 0 start most mild IsOpen (open_sound start mild)
