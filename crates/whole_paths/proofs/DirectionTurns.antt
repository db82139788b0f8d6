-- What becomes of a direction's wait by a turn without a harm: the next stage, or fewer debts.
use Rattle.std.proofs.Common.{◌≡◌, refl, sym, subst, ap, ◌∙◌, ◌⊎◌, inl, inr, ⊎_elim, ℕ, zero, suc, ◌+◌, ◌==◌, ◌<◌, ◌≤◌, arith, le_refl, Bool, true, false, true≢false, if◌then◌else◌, Some, List, [], ◌∷◌, ◌++◌, length}
use Rattle.std.specs.List.{slice_get}
use Rattle.std.proofs.lemmas.Bool.{both_ways, cases_lt}
use Rattle.std.proofs.lemmas.Option.{same_Some}
use Rattle.sides.specs.declared.side.Side.{Side}
use Rattle.sides.specs.Side.{peer}
use Rattle.stream_lanes.specs.Words.{Every, Has}
use Rattle.subflow_send.specs.Records.{Record, end_of}
use Rattle.subflow_send.specs.declared.record.RecordKind.{RecordKind}
use Rattle.subflow_send.specs.declared.record.RecordKind.TheVariants as kinds
use Rattle.subflow_tcp.specs.State.{is_fin_passed}
use Rattle.subflow_tcp.specs.States.{is_dead, may_finish}
use Rattle.path_core.specs.MpJoin.{is_joined}
use Rattle.path_core.specs.State.{PathState, end_at}
use Rattle.path_core.specs.Values.{Carried, values}
use Rattle.world_laws.specs.Actors.{ActorCrew}
use Rattle.world_laws.specs.Members.{HoldsOfKind}
use Rattle.world_laws.specs.Openings.{Start}
use Rattle.world_laws.specs.RoundDone.{reached}
use Rattle.world_laws.specs.Worlds.{Turn, WorldState}
use Rattle.whole_paths.specs.Came.{HasCome}
use Rattle.whole_paths.specs.DataLeft.{HasDataLeft, IsData}
use Rattle.whole_paths.specs.Delivery.{FinishedIsThere, HasFinished, IsAllThere}
use Rattle.whole_paths.specs.DirectionWaits.{ArePassedWhole, EdgeIsUnheard, HearsSoon, MendsInTurn, NothingElseComes}
use Rattle.whole_paths.specs.DirectionWaits.{HearsSoon as hears, MendsInTurn as in_turn}
use Rattle.whole_paths.specs.Directions.{OwesThese}
use Rattle.whole_paths.specs.Expiries.{IsToSend, IsToSendAgain, PathsGoAgain, RunsOut}
use Rattle.whole_paths.specs.Finish.{is_harmed}
use Rattle.whole_paths.specs.FirstLost.{MendsFirst, MendsFirstOn}
use Rattle.whole_paths.specs.FirstLost.{MendsFirst as first_stage, MendsFirstOn as mending}
use Rattle.whole_paths.specs.Kept.{EndsKeepWhatWaits}
use Rattle.whole_paths.specs.Mending.{ComesBy, IsOpenTurn, IsToldBy, IsWell}
use Rattle.whole_paths.specs.Mending.{IsToldBy as told_by, IsToldSoon as told_soon, IsWell as well_by}
use Rattle.whole_paths.specs.WindowRoom.{IsRoomy}
use Rattle.whole_paths.specs.ToldStays.{ToldStays}
use Rattle.whole_paths.specs.UnaSaid.{UnaFrom, UnasAreSaid}
use Rattle.whole_paths.specs.UnaSaid.{UnaFrom as una_from}
use Rattle.whole_paths.specs.Unmended.{AreWellBut}
use Rattle.whole_paths.specs.Waits.{IsNews, RunsTo, TimersWaitOn, WaitsOn}
use Rattle.whole_paths.specs.Waits.{IsNews as news_by, WaitsOn as wait}
use Rattle.whole_paths.proofs.Arrivals.{sender_of}
use Rattle.whole_paths.proofs.Came.{what_is_acknowledged_came}
use Rattle.whole_paths.proofs.ComesAgain.{comes_again}
use Rattle.whole_paths.proofs.Delivery.{what_is_there_stays}
use Rattle.whole_paths.proofs.Directions.{clock, edge_up, passed_there, past_is_there, says_only_on, stays, una_up}
use Rattle.whole_paths.proofs.DataLeft.{what_is_left_is_data}
use Rattle.whole_paths.proofs.FinishedThere.{each_finished_is_there}
use Rattle.whole_paths.proofs.FirstLost.{lost_records_are_mended, shorter, stays_among, without}
use Rattle.whole_paths.proofs.Keeping.{what_waits_is_kept}
use Rattle.whole_paths.proofs.Losing.{harms_alone_lose_records}
use Rattle.whole_paths.proofs.Mends.{first_goes_again}
use Rattle.whole_paths.proofs.OctetsPassed.{octets_are_passed}
use Rattle.whole_paths.proofs.OpenAsks.{EndsAskForThemselves, ends_ask_for_themselves}
use Rattle.whole_paths.proofs.OpenTurns.{of_before, with_both, begun}
use Rattle.whole_paths.proofs.Reached.{EndsAreReached, each_is_reached, first_reached, none_left}
use Rattle.whole_paths.proofs.Resending.{what_runs_out_goes_again}
use Rattle.whole_paths.proofs.Sent.{what_came_was_sent}
use Rattle.whole_paths.proofs.SegmentRounds.{if_may, unfinished}
use Rattle.whole_paths.proofs.Settling.{sides}
use Rattle.whole_paths.proofs.UnaSaid.{each_una_is_said}
use Rattle.whole_paths.proofs.Waiting.{no_timer_is_put_off}
use Rattle.whole_paths.specs.Sent.{WasSent}

-- ---- lists

-- what isn't taken out was there before
every_without : (P : ℕ → Type 0) (n : ℕ) (ns : List ℕ) → Every P ns → Every P (without n ns)
every_without P n [] h = h
every_without P n (m ∷ ns) h = by (m == n) (every_without P n ns (record { each = λ i x there. h.each (suc i) x there }))
  where
    by : (b : Bool) → Every P (without n ns) → Every P (if b then without n ns else m ∷ without n ns)
    by true rest = rest
    by false rest = record { each = each }
      where
        each : (i x : ℕ) → slice_get (m ∷ without n ns) i ≡ Some x → P x
        each zero x there = subst P (same_Some m x there) (h.each 0 m refl)
        each (suc i) x there = rest.each i x there

pub empty_has : (ns : List ℕ) (n : ℕ) → length ns ≤ 0 → Has (λ m. m ≡ n) ns → ⊥
empty_has [] n few h = (let there = h.there in cc)
empty_has (m ∷ ns) n few h = omega (arith, few)

-- two positions are one, or not
one_or_apart : {X : Type 0} (m n : ℕ) → (m ≡ n → X) → ((m ≡ n → ⊥) → X) → X
one_or_apart m n one apart = ⊎_elim
    (λ less. apart (λ is. omega (arith, is, less)))
    (λ low. ⊎_elim (λ more. apart (λ is. omega (arith, is, more))) (λ few. one (omega (arith, low, few))) (cases_lt n m))
    (cases_lt m n)

-- who is told of more is told of less
pub told_lower : (s : Side) (less position by : ℕ) (p : PathState Carried) → less ≤ position → IsToldBy s position by p → IsToldBy s less by p
told_lower s less position by_then p low (told_by.heard reaches) = told_by.heard (omega (arith, low, reaches))
told_lower s less position by_then p low (told_by.comes copy there a soon) = told_by.comes copy there (record {
  to = a.to;
  up_to = a.up_to;
  acknowledged = a.acknowledged;
  enough = (let enough = a.enough in omega (arith, low, enough));
  rst = a.rst;
  syn = a.syn;
  fin = a.fin;
  payload = a.payload;
  from = a.from;
  up_to_next = a.up_to_next;
  room = a.room;
  kept = a.kept;
  held = a.held;
  heard = a.heard;
  overtaken = λ g here to rst some past. (let found = a.overtaken g here to rst some past in (found.0, found.1, (let enough = found.2 in omega (arith, low, enough))));
}) soon

-- ---- where fewer are owed

pub record OwesFewer (s : Side) (most : ℕ) (q : PathState Carried) : Type 0 where
  pub lost : List ℕ
  pub unheard : List ℕ
  pub these : OwesThese s lost unheard q
  pub few : length lost + length unheard < most

module _ (s : Side) (lost unheard : List ℕ) (q : PathState Carried) (these : OwesThese s lost unheard q) where
  -- what SND.UNA has reached is heard
  module _ (n : ℕ) (among : Has (λ m. m ≡ n) unheard) (reached_it : n ≤ (end_at s q).tcp.send.una) where
    abbrev rest : List ℕ
    rest = without n unheard

    still_among : (m : ℕ) → Has (λ k. k ≡ m) unheard → (m ≡ n) ⊎ Has (λ k. k ≡ m) rest
    still_among m has = one_or_apart m n (λ is. inl is) (λ apart. inr (stays_among n m apart unheard has.at has.item has.there has.holds))

    pub heard_less : OwesFewer s (length lost + length unheard) q
    heard_less = record {
      lost = lost;
      unheard = rest;
      these = record {
        well = these.well;
        told = record {
          told = ⊎_elim
              (λ soon. inl soon)
              (λ has. ⊎_elim (λ is. inl (told_soon.told (told_by.heard (omega (arith, is, reached_it))))) (λ more. inr more) (still_among (end_at (peer s) q).tcp.recv.edge has))
              these.told.told;
          heard = λ f m there to rst acks. ⊎_elim
              (λ told. inl told)
              (λ has. ⊎_elim (λ is. inl (told_by.heard (omega (arith, is, reached_it)))) (λ more. inr more) (still_among m has))
              (these.told.heard f m there to rst acks);
          low = every_without (λ m. m ≤ (end_at (peer s) q).tcp.recv.edge) n unheard these.told.low;
        };
      };
      few = (let less = shorter n unheard among.at among.item among.there among.holds in omega (arith, less));
    }

  -- fewer records may be lost
  pub lost_less : (fewer : List ℕ) → length fewer < length lost → AreWellBut s fewer q → OwesFewer s (length lost + length unheard) q
  lost_less fewer less well = record { lost = fewer; unheard = unheard; these = record { well = well; told = these.told }; few = omega (arith, less) }

-- ---- a turn without a harm

module _ (start : Start) (roomy : IsRoomy start) (turns : List Turn) (turn : Turn) (h : IsOpenTurn start turns turn) (s : Side) (Level : PathState Carried → Type 0) (whole_ones : ArePassedWhole start s)
    (level_on : (y z : PathState Carried) → Level y → (end_at s z).tcp.send.una ≤ (end_at s y).tcp.send.una → (end_at s y).sending.heard ≤ (end_at s z).sending.heard → Level z)
    (unpast : is_fin_passed (end_at (peer s) h.before.path).tcp ≡ false) (none : is_harmed s h.before.path h.after.path ≡ false) (none_back : is_harmed (peer s) h.before.path h.after.path ≡ false) (x until : ℕ)
    (in_round : h.after.path.clock ≤ until) where
  abbrev p : PathState Carried
  p = h.before.path

  abbrev q : PathState Carried
  q = h.after.path

  abbrev t : Side
  t = peer s

  abbrev w : WorldState Carried
  w = reached values start turns

  abbrev later : List Turn
  later = turns ++ turn ∷ []

  abbrev una : PathState Carried → ℕ
  una z = (end_at s z).tcp.send.una

  abbrev edge : PathState Carried → ℕ
  edge z = (end_at t z).tcp.recv.edge

  told_stays : ToldStays s p q
  told_stays = stays start roomy turns turn (begun start turns turn h) s

  clock_up : p.clock ≤ q.clock
  clock_up = clock start roomy turns turn (begun start turns turn h) s

  abbrev crew : ActorCrew Carried
  crew = h.before.here.crew

  there : slice_get w.crew 2 ≡ Some crew
  there = h.before.here.there

  una_later : una p ≤ una q
  una_later = una_up start roomy turns turn (begun start turns turn h) s s

  edge_later : edge p ≤ edge q
  edge_later = edge_up start roomy turns turn (begun start turns turn h) s t

  heard_later : (end_at s p).sending.heard ≤ (end_at s q).sending.heard
  heard_later = (with_both start turns turn h EndsKeepWhatWaits (what_waits_is_kept values w (turn ∷ []) 2 crew there) s).heard

  -- no segment is harmed, of either side
  unharmed : (u : Side) → is_harmed u p q ≡ true → ⊥
  unharmed u = ⊎_elim (λ own is. true≢false (sym is ∙ subst (λ v. is_harmed v p q ≡ false) own none)) (λ away is. true≢false (sym is ∙ subst (λ v. is_harmed v p q ≡ false) away none_back)) (sides u s)

  -- RCV.NXT of the peer is past SND.UNA
  came : una q ≤ edge q
  came = (subst (HoldsOfKind (λ app. Unit {0}) HasCome) h.after.here.is ((what_is_acknowledged_came start later).each 2 h.after.here.crew h.after.here.there)).una s (h.after.is_open.living s)

  -- ---- what an end wasn't told

  module _ (lost unheard : List ℕ) (these : OwesThese s lost unheard q) where
    -- the wait goes on, or fewer are owed, or all is there
    pub data Goes : Type 0 where
      on : HearsSoon Level s unheard x until q → Goes
      fewer : OwesFewer s (length lost + length unheard) q → Goes
      all_there : IsAllThere s (reached values start later) → Goes
      -- or the end hears more acknowledged, though SND.UNA stays
      hears_more : Level p → una q ≤ una p → (end_at s p).sending.heard < (end_at s q).sending.heard → Goes

    same_path : q ≡ p → HearsSoon Level s unheard x until p → Goes
    same_path same stands = on (subst (HearsSoon Level s unheard x until) (sym same) stands)

    there_then : IsAllThere s w → Goes
    there_then all = all_there (what_is_there_stays start turns (turn ∷ []) h.mild s all)

    past_then : is_fin_passed (end_at t q).tcp ≡ true → Goes
    past_then past = all_there (past_is_there start roomy.mild later q h.after.here s h.after.is_open past)

    -- SND.UNA has reached one of them, or it goes on
    unless_heard : (n : ℕ) → Has (λ m. m ≡ n) unheard → (una q < n → Goes) → Goes
    unless_heard n among then_so = ⊎_elim then_so (λ reaches. fewer (heard_less s lost unheard q these n among reaches)) (cases_lt (una q) n)

    is_owed : (n : ℕ) → Has (λ m. m ≡ n) unheard → una q < n → n ≤ edge q → until + 400 ≤ x → (end_at t p).tcp.due.ack ≡ true → Goes
    is_owed n among behind low bound due = by (told_stays.owed due)
      where
        harmless : is_harmed t p q ≡ true → Goes
        harmless harmed = absurd (true≢false (sym harmed ∙ none_back))

        by : ((end_at t q).tcp.due.ack ≡ true) ⊎ ((is_fin_passed (end_at t q).tcp ≡ true) ⊎ ((is_harmed t p q ≡ true) ⊎ IsToldBy s (edge q) (p.clock + 400) q)) → Goes
        by (inl still) = on (hears.owes n among behind low bound still)
        by (inr (inl past)) = past_then past
        by (inr (inr (inl harmed))) = harmless harmed
        by (inr (inr (inr told))) = on (hears.comes n among behind (p.clock + 400) (let up = clock_up in omega (arith, bound, up, in_round)) (told_lower s n (edge q) (p.clock + 400) q low told))

    -- RCV.NXT of the peer rises: the peer owes an acknowledgement
    rises : (n : ℕ) → Has (λ m. m ≡ n) unheard → una q < n → n ≤ edge q → until + 400 ≤ x → edge p < edge q → Goes
    rises n among behind low bound more = ⊎_elim (λ due. on (hears.owes n among behind low bound due)) past_then (told_stays.more more)

    -- by the number that is unheard
    module _ (is_unheard : EdgeIsUnheard s unheard p) (bound : until + 400 ≤ x) where
      -- SND.UNA reaches it, or RCV.NXT rises; or it stays so
      unless_moved : (EdgeIsUnheard s unheard q → Goes) → Goes
      unless_moved then_so = unless_heard (edge p) is_unheard.among (λ behind. ⊎_elim
          (rises (edge p) is_unheard.among behind edge_later bound)
          (λ few. (let same : edge q ≡ edge p = omega (arith, few, edge_up start roomy turns turn (begun start turns turn h) s t) in
          then_so (record { behind = omega (arith, behind, same); among = subst (λ n. Has (λ m. m ≡ n) unheard) (sym same) is_unheard.among })))
          (cases_lt (edge p) (edge q)))

      -- what rises is in the list, or comes no more
      una_rises : NothingElseComes s unheard p → una p < una q → Goes
      una_rises nothing more = by (with_both start turns turn h UnasAreSaid (each_una_is_said w turn 2 crew there) s)
        where
          by : UnaFrom s p q → Goes
          by (una_from.stays is) = absurd (omega (arith, is, more))
          by (una_from.comes copy under to rst acks taken) = ⊎_elim
              (λ low. absurd (omega (arith, low, more)))
              (λ among. fewer (heard_less s lost unheard q these (una q) among (le_refl (una q))))
              (nothing copy (una q) under to rst acks)
          by (una_from.gone dead) = absurd (both_ways (is_dead (end_at s q).tcp.state) (h.after.is_open.living s) dead)

    -- ---- the timer

    finished : HasFinished (end_at s q) → Goes
    finished has = all_there (subst (HoldsOfKind (λ app. Unit {0}) (FinishedIsThere (reached values start later))) h.after.here.is
        (each_finished_is_there start later h.mild 2 h.after.here.crew h.after.here.there) s has)

    no_third : (end_at s p).modes.owes_third ≡ true → ⊥
    no_third owes = both_ways (is_joined p.profile) h.before.is_open.first ((of_before start turns turn h EndsAskForThemselves (ends_ask_for_themselves start turns h.mild 2 crew there) s).third owes)

    -- no news but of SND.UNA, where the Data ACKs are level with it
    unless_news : Level p → (una p < una q → Goes) → IsNews (end_at s p) (end_at s q) → Goes
    unless_news level una_up_so (news_by.on_subflow more) = una_up_so more
    unless_news level una_up_so (news_by.on_stream more) = ⊎_elim una_up_so (λ few. hears_more level few more) (cases_lt (una p) (una q))
    unless_news level una_up_so (news_by.data_fin none_acked acked) = finished (HasFinished.acknowledged acked)
    unless_news level una_up_so (news_by.opened early late) = absurd (let past = h.before.is_open.past s in omega (arith, early, past))
    unless_news level una_up_so (news_by.third owes none_owed) = absurd (no_third owes)

    waits_on : EdgeIsUnheard s unheard p → NothingElseComes s unheard p → (tick : ℕ) → RunsTo tick (end_at s p) → Level p → tick + 1100 ≤ x → until + 1000 ≤ x → Goes
    waits_on is_unheard nothing tick runs level late bound = unless_moved is_unheard (omega (arith, bound)) (λ still. ⊎_elim
        (una_rises is_unheard (omega (arith, bound)) nothing)
        (λ same. by still same (with_both start turns turn h TimersWaitOn ((no_timer_is_put_off values).waits w turn 2 crew there) s tick runs))
        (cases_lt (una p) (una q)))
      where
        stands : HearsSoon Level s unheard x until p
        stands = hears.waits is_unheard nothing tick runs level late bound

        nothing_later : NothingElseComes s unheard q
        nothing_later = says_only_on start roomy turns turn (begun start turns turn h) s (λ n. (n ≤ una p) ⊎ Has (λ m. m ≡ n) unheard) (λ n. (n ≤ una q) ⊎ Has (λ m. m ≡ n) unheard)
            (λ n so. ⊎_elim (λ low. inl (let up = una_later in omega (arith, low, up))) (λ has. inr has) so) nothing (λ y is from rst. inr (inr is_unheard.among))

        ran_out : EdgeIsUnheard s unheard q → (at : ℕ) → RunsOut s at p → Goes
        ran_out still at out = ⊎_elim
            (λ same. same_path same stands)
            (λ expires. ⊎_elim
            (λ few. on (hears.resends still (expires.again few).next bound))
            (λ many. absurd (both_ways (is_dead (end_at s q).tcp.state) (h.after.is_open.living s) (expires.sixth many)))
            (cases_lt (end_at s p).tcp.timing.expiries 5))
            ((with_both start turns turn h (PathsGoAgain values) (what_runs_out_goes_again values w turn 2 crew there)).fires s at out)

        by : EdgeIsUnheard s unheard q → una q ≤ una p → WaitsOn s tick p q → Goes
        by still same (wait.runs more) = on (hears.waits still nothing_later tick more (level_on p q level same heard_later) late bound)
        by still same (wait.runs_out at out) = ran_out still at out
        by still same (wait.news news) = unless_news level (una_rises is_unheard (omega (arith, bound)) nothing) news
        by still same (wait.gone dead) = absurd (both_ways (is_dead (end_at s q).tcp.state) (h.after.is_open.living s) dead)

    -- ---- the first record goes again

    sent_up : edge p ≤ (end_at s p).tcp.send.nxt
    sent_up = subst (λ u. edge p ≤ (end_at u p).tcp.send.nxt) (sender_of s) (of_before start turns turn h WasSent ((what_came_was_sent start turns h.mild.plain.size).each 2 crew there) t)

    is_lined : EndsAreReached p
    is_lined = of_before start turns turn h EndsAreReached ((each_is_reached values start turns).each 2 crew there)

    goes_on : EdgeIsUnheard s unheard p → until + 1000 ≤ x → (is : IsToSend s p) → (records : List Record) → (end_at s p).tcp.send.records ≡ records → may_finish (end_at s p).tcp.state ≡ true
        → EdgeIsUnheard s unheard q → Goes
    goes_on is_unheard bound is [] records may still = absurd (let all = none_left (end_at s p).tcp (is_lined s) records in let behind = is_unheard.behind in let up = sent_up in omega (arith, all, behind, up))
    goes_on is_unheard bound is (r ∷ others) records may still = ⊎_elim
        (λ ahead. absurd (let low = first_reached (end_at s p).tcp r others (is_lined s) records in let behind = is_unheard.behind in omega (arith, ahead, low, behind)))
        (λ passed. ⊎_elim
        (λ same. same_path same (hears.resends is_unheard (inr is) bound))
        (λ goes. ⊎_elim
        (λ harmed. absurd (true≢false (sym harmed ∙ none)))
        (λ comes. on (hears.flies still r is_data.kind (let up = edge_later in omega (arith, passed, up)) (q.clock + 400) (omega (arith, in_round, bound)) (omega (arith, bound)) comes))
        goes)
        (first_goes_again start turns turn h s is r others records is_data.kind))
        (whole_ones turns h.before r (record { at = 0; item = r; there = ap (λ (rs : List Record). slice_get rs 0) records; holds = refl }) is_data.kind)
      where
        data_left : HasDataLeft p
        data_left = subst (HoldsOfKind (λ app. Unit {0}) HasDataLeft) h.before.here.is (what_is_left_is_data start turns h.mild.plain.size h.mild.fit crew there)

        is_data : IsData r (end_at s p)
        is_data = data_left s (h.before.is_open.past s) (h.before.is_open.living s) (inl (unfinished start roomy.mild turns p h.before.here s may)) r others records

    resends_on : EdgeIsUnheard s unheard p → IsToSendAgain s p → until + 1000 ≤ x → Goes
    resends_on is_unheard again bound = unless_moved is_unheard (omega (arith, bound)) (λ still. by still again)
      where
        by : EdgeIsUnheard s unheard q → IsToSendAgain s p → Goes
        by still (inl is) = ⊎_elim
            (λ same. same_path same (hears.resends is_unheard (inl is) bound))
            (λ given. on (hears.resends still (inr given.0) bound))
            ((with_both start turns turn h (PathsGoAgain values) (what_runs_out_goes_again values w turn 2 crew there)).gives_back s is)
        by still (inr is) = if_may start roomy.mild Goes turns p h.before.here h.before.is_open s there_then (λ may. goes_on is_unheard bound is (end_at s p).tcp.send.records refl may still)

    flies_on : EdgeIsUnheard s unheard p → (r : Record) → r.kind ≡ kinds.Data → end_of r ≤ edge p → (by : ℕ) → by + 500 ≤ x → until + 400 ≤ x → ComesBy s r by p → Goes
    flies_on is_unheard r kind passed by_then late bound comes = unless_moved is_unheard bound (λ still. ⊎_elim
        (λ more. on (hears.flies still r kind (let up = edge_later in omega (arith, passed, up)) by_then late bound more))
        (λ due. on (hears.owes (edge q) still.among still.behind (le_refl (edge q)) bound due))
        (comes_again start turns turn h s r kind by_then comes passed))

    pub hears_on : HearsSoon Level s unheard x until p → Goes
    hears_on (hears.comes n among behind by_then low told) = unless_heard n among (λ still. on (hears.comes n among still by_then low (told_stays.comes n by_then told)))
    hears_on (hears.owes n among behind low bound due) = unless_heard n among (λ still. is_owed n among still (let up = edge_later in omega (arith, low, up)) bound due)
    hears_on (hears.settles is_unheard by_then late bound heard) = unless_moved is_unheard (omega (arith, late, bound)) (λ still. on (hears.settles still by_then late bound
        (says_only_on start roomy turns turn (begun start turns turn h) s (λ n. IsToldBy s n by_then p ⊎ Has (λ m. m ≡ n) unheard) (λ n. IsToldBy s n by_then q ⊎ Has (λ m. m ≡ n) unheard)
        (λ n so. ⊎_elim (λ told. inl (told_stays.comes n by_then told)) (λ has. inr has) so) heard (λ y is from rst. inr (inr is_unheard.among)))))
    hears_on (hears.waits is_unheard nothing tick runs level late bound) = waits_on is_unheard nothing tick runs level late bound
    hears_on (hears.resends is_unheard again bound) = resends_on is_unheard again bound
    hears_on (hears.flies is_unheard r kind passed by_then late bound comes) = flies_on is_unheard r kind passed by_then late bound comes

  -- ---- records that may be lost

  module _ (lost : List ℕ) (these : OwesThese s lost [] q) where
    pub data MendsOnSo : Type 0 where
      goes_on_so : MendsInTurn Level s lost x until q → MendsOnSo
      less : OwesFewer s (length lost + 0) q → MendsOnSo
      whole : IsAllThere s (reached values start later) → MendsOnSo
      heard_more : Level p → una q ≤ una p → (end_at s p).sending.heard < (end_at s q).sending.heard → MendsOnSo

    -- Where RCV.NXT of the peer is past the beginning of a record, that is there: so it isn't lost.
    past_it : (some_lost : List ℕ) (position : ℕ) → AreWellBut s some_lost q → position < edge q → AreWellBut s (without position some_lost) q
    past_it some_lost position well past r is_one = ⊎_elim (λ is. inl is) among (well r is_one)
      where
        there_now : r.pos ≡ position → IsWell s q r
        there_now same = by r.kind refl
          where
            by : (k : RecordKind) → r.kind ≡ k → IsWell s q r
            by kinds.Syn is = well_by.other (λ data_is. (let apart : kinds.Syn ≡ kinds.Data = sym is ∙ data_is in cc))
            by kinds.Fin is = well_by.other (λ data_is. (let apart : kinds.Fin ≡ kinds.Data = sym is ∙ data_is in cc))
            by kinds.Data is = ⊎_elim
                (λ before. absurd (omega (arith, before, same, past)))
                (λ passed. well_by.sent (passed_there start roomy.mild later q h.after.here s r passed (q.clock + 400)))
                (whole_ones later h.after r is_one is)

        among : Has (λ n. n ≡ r.pos) some_lost → IsWell s q r ⊎ Has (λ n. n ≡ r.pos) (without position some_lost)
        among has = one_or_apart r.pos position (λ same. inl (there_now same)) (λ apart. inr (stays_among position r.pos apart some_lost has.at has.item has.there has.holds))

    fewer_lost : (fewer_now : List ℕ) → length fewer_now < length lost → AreWellBut s fewer_now q → MendsOnSo
    fewer_lost fewer_now few well = less (lost_less s lost [] q these fewer_now few well)

    -- as SND.UNA rises
    first_rises : (by_then : ℕ) → MendsFirst s (length lost) by_then p → una p < una q → MendsOnSo
    first_rises by_then (first_stage.waits f) up =
        let low = first_reached (end_at s p).tcp f.is_first.first f.is_first.others (is_lined_p s) f.is_first.records in let at = f.is_first.same.pos in let more = came in
        fewer_lost (without f.first.pos f.lost) (let few = f.few in let shorter_by = shorter f.first.pos f.lost f.among.at f.among.item f.among.there f.among.holds in omega (arith, few, shorter_by))
        (past_it f.lost f.first.pos ((harms_alone_lose_records start turns turn (begun start turns turn h) s).unharmed none f.lost f.well) (omega (arith, low, at, up, more)))
      where
        is_lined_p : EndsAreReached p
        is_lined_p = of_before start turns turn h EndsAreReached ((each_is_reached values start turns).each 2 crew there)
    first_rises by_then (first_stage.goes g) up = by (end_at s p).tcp.send.records refl
      where
        is_lined_p : EndsAreReached p
        is_lined_p = of_before start turns turn h EndsAreReached ((each_is_reached values start turns).each 2 crew there)

        none_there : (rs : List Record) (i : ℕ) (r : Record) → rs ≡ [] → slice_get rs i ≡ Some r → ⊥
        none_there [] i r is at = cc
        none_there (y ∷ rs) i r is at = cc

        by : (rs : List Record) → (end_at s p).tcp.send.records ≡ rs → MendsOnSo
        by [] is = fewer_lost [] g.some ((harms_alone_lose_records start turns turn (begun start turns turn h) s).unharmed none [] (λ r is_one. absurd (none_there (end_at s p).tcp.send.records is_one.at is_one.item is is_one.there)))
        by (r ∷ rs) is =
            let low = first_reached (end_at s p).tcp r rs (is_lined_p s) is in let more = came in
            fewer_lost [] g.some (one_less (past_it (r.pos ∷ []) r.pos ((harms_alone_lose_records start turns turn (begun start turns turn h) s).unharmed none (r.pos ∷ []) (g.mends.well r rs is)) (omega (arith, low, up, more))))
          where
            one_less : AreWellBut s (without r.pos (r.pos ∷ [])) q → AreWellBut s [] q
            one_less well t is_one = ⊎_elim (λ so. inl so) (λ has. absurd (none_left_in has)) (well t is_one)
              where
                none_left_in : Has (λ n. n ≡ t.pos) (without r.pos (r.pos ∷ [])) → ⊥
                none_left_in has = (let few = shorter r.pos (r.pos ∷ []) 0 r.pos refl refl in empty_has (without r.pos (r.pos ∷ [])) t.pos (omega (arith, few)) has)

    mends_first : (by_then : ℕ) → by_then ≤ x → Level p → MendsFirst s (length lost) by_then p → MendsOnSo
    mends_first by_then low level m = ⊎_elim
        (first_rises by_then m)
        (λ same. by same (lost_records_are_mended start turns turn h s (length lost) by_then m))
        (cases_lt (una p) (una q))
      where
        refuted : una q ≤ una p → IsNews (end_at s p) (end_at s q) → MendsOnSo
        refuted same (news_by.on_subflow more) = absurd (omega (arith, more, same))
        refuted same (news_by.on_stream more) = heard_more level same more
        refuted same (news_by.data_fin none_acked acked) = whole (subst (HoldsOfKind (λ app. Unit {0}) (FinishedIsThere (reached values start later))) h.after.here.is
            (each_finished_is_there start later h.mild 2 h.after.here.crew h.after.here.there) s (HasFinished.acknowledged acked))
        refuted same (news_by.opened early late) = absurd (let past = h.before.is_open.past s in omega (arith, early, past))
        refuted same (news_by.third owes none_owed) =
            absurd (both_ways (is_joined p.profile) h.before.is_open.first ((of_before start turns turn h EndsAskForThemselves (ends_ask_for_themselves start turns h.mild 2 crew there) s).third owes))

        by : una q ≤ una p → MendsFirstOn s (length lost) by_then p q → MendsOnSo
        by same (mending.on more) = goes_on_so (in_turn.mends by_then low (level_on p q level same heard_later) more)
        by same (mending.fewer fewer_now few well) = fewer_lost fewer_now few well
        by same (mending.harmed u harmed) = absurd (unharmed u harmed)
        by same (mending.news first before after news) = refuted same news

    pub mends_on : MendsInTurn Level s lost x until p → MendsOnSo
    mends_on (in_turn.comes position among by_then late bound comes) = goes_on_so (in_turn.comes position among by_then late bound (octets_are_passed.on start turns turn h s position by_then comes))
    mends_on (in_turn.told position among by_then late bound told) = goes_on_so (in_turn.told position among by_then late bound (told_stays.comes position by_then told))
    mends_on (in_turn.mends by_then low level m) = mends_first by_then low level m
