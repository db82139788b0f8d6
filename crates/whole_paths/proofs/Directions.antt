-- In a direction no more is to be mended than before, but one for each segment that is harmed.
use Rattle.std.proofs.Common.{◌≡◌, refl, sym, subst, ap, ◌∙◌, ◌⊎◌, inl, inr, ⊎_elim, ℕ, zero, suc, ◌+◌, ◌<◌, ◌≤◌, arith, Bool, true, false, true≢false, if◌then◌else◌, Some, List, [], ◌∷◌, ◌++◌, length}
use Rattle.std.specs.List.{slice_get}
use Rattle.std.proofs.lemmas.Bool.{cases_lt}
use Rattle.std.proofs.lemmas.Option.{same_Some}
use Rattle.sides.specs.declared.side.Side.{Side}
use Rattle.sides.specs.declared.side.Side.TheVariants.{A, B}
use Rattle.sides.specs.Side.{peer}
use Rattle.link_model.specs.declared.flight.Flight.{Flight}
use Rattle.link_model.specs.Fate.{is_altered, is_stripped}
use Rattle.link_model.specs.Steps.{next_number}
use Rattle.stream_lanes.specs.Words.{Every, Has}
use Rattle.subflow_send.specs.Records.{Record, end_of}
use Rattle.subflow_send.specs.declared.record.RecordKind.{RecordKind}
use Rattle.subflow_send.specs.declared.record.RecordKind.TheVariants as kinds
use Rattle.subflow_tcp.specs.State.{is_fin_passed}
use Rattle.subflow_tcp.specs.States.{is_dead}
use Rattle.path_core.specs.Looking.{first_sends, segment_sent}
use Rattle.path_core.specs.State.{PathState, end_at}
use Rattle.path_core.specs.Values.{Carried, values}
use Rattle.world_laws.specs.declared.member.Member.TheVariants.{Path}
use Rattle.world_laws.specs.Openings.{PathPlan, Start, opened_world}
use Rattle.world_laws.specs.RoundDone.{reached}
use Rattle.world_laws.specs.Worlds.{Turn, WorldState, after_turn}
use Rattle.whole_paths.specs.AsFar.{IsActorAsFar, IsPathAsFar, stage}
use Rattle.whole_paths.specs.Brought.{IsThere}
use Rattle.whole_paths.specs.Copies.{IsUnderWay}
use Rattle.whole_paths.specs.Courses.{harmed_so_far}
use Rattle.whole_paths.specs.Debts.{OwesOn}
use Rattle.whole_paths.specs.Delivery.{IsAllThere}
use Rattle.whole_paths.specs.Directions.{DirectionsGoOn, IsToldBut, OwesAlong, OwesThese, Owing, WhatOwesNoneIsWell, WhoIsToldButStaysSo}
use Rattle.whole_paths.specs.Directions.{Owing as owing}
use Rattle.whole_paths.specs.Finish.{IsPathAt, harms_between, harms_of, is_harmed}
use Rattle.whole_paths.specs.Kept.{IsSameRecord}
use Rattle.whole_paths.specs.Mapped.{IsMapped}
use Rattle.whole_paths.specs.Mending.{IsRecordOf, IsThereBy, IsToldBy, IsToldSoon, IsWell, LeavesRoomFor, IsBegunTurn}
use Rattle.whole_paths.specs.Mending.{IsThereBy as there_by, IsToldSoon as told_soon, IsWell as well_by}
use Rattle.whole_paths.specs.Mild.{IsMildStart}
use Rattle.whole_paths.specs.News.{one_if}
use Rattle.whole_paths.specs.OnePathScripts.{BeginsWithOnePath}
use Rattle.whole_paths.specs.OpenCourses.{IsOpenAfter, IsNow}
use Rattle.whole_paths.specs.PositionCounts.{CountsBytes}
use Rattle.whole_paths.specs.Straying.{IsOpen, IsOpenFrom}
use Rattle.whole_paths.specs.ToldStays.{ToldStays}
use Rattle.whole_paths.specs.Unmended.{AreWellBut}
use Rattle.whole_paths.specs.WholeMappings.{HasRecord}
use Rattle.whole_paths.specs.WindowRoom.{IsRoomy}
use Rattle.whole_paths.proofs.Arrivals.{sender_of}
use Rattle.whole_paths.proofs.Copied.{CopiesWere, WasThere, each_copy_was_there}
use Rattle.whole_paths.proofs.Copied.{WasThere as was}
use Rattle.whole_paths.proofs.Counted.{harmed_snoc}
use Rattle.whole_paths.proofs.DataLast.{DataStands, StandsWithin, data_always_stands}
use Rattle.whole_paths.proofs.Delivery.{what_is_there_stays}
use Rattle.whole_paths.proofs.Exchanges.{SameHeader, Shown, changed_said, each_shown}
use Rattle.whole_paths.proofs.Flying.{same_record}
use Rattle.whole_paths.proofs.GoesOn.{goes_on_so}
use Rattle.whole_paths.proofs.Losing.{harms_alone_lose_records}
use Rattle.whole_paths.proofs.OpenCourses.{IsFirstPath, each_first}
use Rattle.whole_paths.proofs.OpenTurns.{now, with_both, begun}
use Rattle.whole_paths.proofs.RecordWaits.{path_is, unpassed}
use Rattle.whole_paths.proofs.RecordsWell.{each_record_stays_well}
use Rattle.whole_paths.proofs.Saying.{ToSend}
use Rattle.whole_paths.proofs.SegmentRounds.{counts, of_path, unfinished, if_may_so}
use Rattle.whole_paths.proofs.ToldSoon.{SaysSoon, each_end_says_soon}
use Rattle.whole_paths.proofs.ToldStays.{told_later, who_is_told_stays_told}
use Rattle.whole_paths.proofs.WholeMappings.{long}

-- ---- a list that may have one more

abbrev more : Bool → ℕ → List ℕ → List ℕ
more b n ns = if b then n ∷ ns else ns

among_more : (b : Bool) (n m : ℕ) (ns : List ℕ) → Has (λ x. x ≡ m) ns → Has (λ x. x ≡ m) (more b n ns)
among_more true n m ns h = record { at = suc h.at; item = h.item; there = h.there; holds = h.holds }
among_more false n m ns h = h

first_more : (b : Bool) (n : ℕ) (ns : List ℕ) → b ≡ true → Has (λ x. x ≡ n) (more b n ns)
first_more true n ns is = record { at = 0; item = n; there = refl; holds = refl }
first_more false n ns is = absurd (true≢false (sym is))

low_more : (b : Bool) (n top : ℕ) (ns : List ℕ) → n ≤ top → Every (λ x. x ≤ top) ns → Every (λ x. x ≤ top) (more b n ns)
low_more false n top ns low h = h
low_more true n top ns low h = record { each = each }
  where
    each : (i x : ℕ) → slice_get (n ∷ ns) i ≡ Some x → x ≤ top
    each zero x there = subst (λ y. y ≤ top) (same_Some n x there) low
    each (suc i) x there = h.each i x there

long_more : (b : Bool) (n : ℕ) (ns : List ℕ) → length (more b n ns) ≡ length ns + one_if b
long_more true n ns = omega arith
long_more false n ns = omega arith

-- each segment under way to the side, no reset, acknowledges a position of which this holds
abbrev pub SaysOnly : Side → (ℕ → Type 0) → PathState Carried → Type 0
SaysOnly s Told p = (f : Flight Carried) (n : ℕ) → IsUnderWay f p → f.to ≡ s → f.carried.segment.rst ≡ false → f.carried.segment.acknowledged ≡ Some n → Told n

-- ---- a turn

module _ (start : Start) (roomy : IsRoomy start) (turns : List Turn) (turn : Turn) (h : IsBegunTurn start turns turn) (s : Side) where
  abbrev p : PathState Carried
  p = h.before.path

  abbrev q : PathState Carried
  q = h.after.path

  abbrev t : Side
  t = peer s

  abbrev edge : ℕ
  edge = (end_at t p).tcp.recv.edge

  abbrev w : WorldState Carried
  w = reached values start turns

  pub stays : ToldStays s p q
  stays = who_is_told_stays_told start turns turn roomy h s

  says : SaysSoon s p q
  says = each_end_says_soon start turns turn h s

  were : Every (WasThere values p) q.link.under_way
  were = with_both start turns turn h (CopiesWere values) (each_copy_was_there values w turn 2 h.before.here.crew h.before.here.there)

  pub clock : p.clock ≤ q.clock
  clock = (each_record_stays_well start turns turn h s).clock

  far : IsPathAsFar p q
  far = with_both start turns turn h IsActorAsFar (let found = (goes_on_so values w (turn ∷ [])).crew 2 h.before.here.crew h.before.here.there in (found.0, found.1, found.2.member))

  pub edge_up : (u : Side) → (end_at u p).tcp.recv.edge ≤ (end_at u q).tcp.recv.edge
  edge_up = elim [ A ↦ far.a.subflow.received | B ↦ far.b.subflow.received ]

  pub una_up : (u : Side) → (end_at u p).tcp.send.una ≤ (end_at u q).tcp.send.una
  una_up = elim [ A ↦ far.a.subflow.acknowledged | B ↦ far.b.subflow.acknowledged ]

  -- ---- copies

  -- what held of what they acknowledge, and holds of what is said now
  module _ (Told Later : ℕ → Type 0) (sub : (n : ℕ) → Told n → Later n) (before : SaysOnly s Told p)
      (said_now : (x : ToSend) → first_sends p.agenda p ≡ Some x → x.from ≡ t → (segment_sent p x).rst ≡ false → (q ≡ p) ⊎ Later edge) where
    pub says_only_on : SaysOnly s Later q
    says_only_on f n there to rst acks = by_was (subst (WasThere values p) there.holds (were.each there.at there.item there.there))
      where
        old_one : IsUnderWay f p → Later n
        old_one old = sub n (before f n old to rst acks)

        by_was : WasThere values p f → Later n
        by_was (was.before old) = old_one old
        by_was (was.sent x is to_x carried) =
            let from : x.from ≡ t = sym (sender_of x.from) ∙ ap peer (sym to_x ∙ to) in
            let header : SameHeader (segment_sent p x) f.carried.segment = changed_said p.profile.spelling x.from (segment_sent p x) (is_stripped x.from (next_number x.from p.link) p.clock p.link.lines) (is_altered x.from (next_number x.from p.link) p.link.lines) f.carried carried in
            let rst_x : (segment_sent p x).rst ≡ false = sym header.rst ∙ rst in
            ⊎_elim
            (λ same. old_one (subst (IsUnderWay f) same there))
            (λ says_edge. ⊎_elim
            (λ same. old_one (subst (IsUnderWay f) same there))
            (λ so. subst Later (sym (same_Some n edge (sym acks ∙ header.acknowledged ∙ says_edge rst_x))) so)
            (said_now x is from rst_x))
            (says.acks x is from)

  room : LeavesRoomFor s p
  room = roomy.room turns p h.before.here h.before.is_open.living s

  -- ---- what the end is told

  module _ (unpast : is_fin_passed (end_at t p).tcp ≡ false) (unheard : List ℕ) (was_told : IsToldBut s unheard p) where
    abbrev harms : Bool
    harms = is_harmed t p q

    abbrev later : List ℕ
    later = more harms edge unheard

    abbrev Told : Type 0
    Told = IsToldSoon s q ⊎ Has (λ n. n ≡ (end_at t q).tcp.recv.edge) later

    -- RCV.NXT was in the list
    at_edge : Has (λ n. n ≡ edge) later → Told
    at_edge has = ⊎_elim
        (λ rises. ⊎_elim (λ due. inl (told_soon.owed due)) (λ past. inl (told_soon.past_fin past)) (stays.more rises))
        (λ few. inr (subst (λ n. Has (λ m. m ≡ n) later) (let up = edge_up t in omega (arith, few, up)) has))
        (cases_lt edge (end_at t q).tcp.recv.edge)

    told_now : IsToldSoon s p ⊎ Has (λ n. n ≡ edge) unheard → Told
    told_now (inl soon) = ⊎_elim (λ harmed. at_edge (first_more harms edge unheard harmed)) (λ still. inl still) (stays.soon soon)
    told_now (inr has) = at_edge (among_more harms edge edge unheard has)

    said_now : IsToldSoon s p ⊎ Has (λ n. n ≡ edge) unheard → (x : ToSend) → first_sends p.agenda p ≡ Some x → x.from ≡ t → (segment_sent p x).rst ≡ false
        → (q ≡ p) ⊎ (IsToldBy s edge (q.clock + 400) q ⊎ Has (λ m. m ≡ edge) later)
    said_now (inl (told_soon.past_fin past)) x is from rst = absurd (true≢false (sym past ∙ unpast))
    said_now (inl (told_soon.owed due)) x is from rst = ⊎_elim
        (λ same. inl same)
        (λ goes. inr (⊎_elim (λ harmed. inr (first_more harms edge unheard harmed)) (λ told. inl (told_later s edge (p.clock + 400) (q.clock + 400) q (let up = clock in omega (arith, up)) told)) goes))
        (says.owed room due x is from rst)
    said_now (inl (told_soon.told told)) x is from rst = inr (inl (told_later s edge (p.clock + 400) (q.clock + 400) q (let up = clock in omega (arith, up)) (stays.comes edge (p.clock + 400) told)))
    said_now (inr has) x is from rst = inr (inr (among_more harms edge edge unheard has))

    pub told_but_later : IsToldBut s later q
    told_but_later = record {
      told = told_now was_told.told;
      heard = says_only_on (λ n. IsToldBy s n (p.clock + 400) p ⊎ Has (λ m. m ≡ n) unheard) (λ n. IsToldBy s n (q.clock + 400) q ⊎ Has (λ m. m ≡ n) later)
          (λ n so. ⊎_elim (λ told. inl (told_later s n (p.clock + 400) (q.clock + 400) q (let up = clock in omega (arith, up)) (stays.comes n (p.clock + 400) told))) (λ has. inr (among_more harms edge n unheard has)) so)
          was_told.heard (said_now was_told.told);
      low = low_more harms edge (end_at t q).tcp.recv.edge unheard (edge_up t) (record { each = λ i n there. (let low = was_told.low.each i n there in let up = edge_up t in omega (arith, low, up)) });
    }

  -- ---- debts

  -- without a harm the same ones
  pub these_stay : is_fin_passed (end_at t p).tcp ≡ false → is_harmed s p q ≡ false → is_harmed t p q ≡ false → (lost unheard : List ℕ) → OwesThese s lost unheard p → OwesThese s lost unheard q
  these_stay unpast none none_back lost unheard x = record {
    well = (harms_alone_lose_records start turns turn h s).unharmed none lost x.well;
    told = subst (λ b. IsToldBut s (more b edge unheard) q) none_back (told_but_later unpast unheard x.told);
  }

  pub record OwesMore (now : ℕ) : Type 0 where
    pub lost : List ℕ
    pub unheard : List ℕ
    pub these : OwesThese s lost unheard q
    pub few : length lost + length unheard ≤ now + (one_if (is_harmed s p q) + one_if (is_harmed t p q))

  pub these_more : is_fin_passed (end_at t p).tcp ≡ false → (lost unheard : List ℕ) → OwesThese s lost unheard p → OwesMore (length lost + length unheard)
  these_more unpast lost unheard x =
      let one_more = (harms_alone_lose_records start turns turn h s).one_more lost x.well in record {
        lost = one_more.0;
        unheard = more (is_harmed t p q) edge unheard;
        these = record { well = one_more.2; told = told_but_later unpast unheard x.told };
        few = (let few = one_more.1 in let long = long_more (is_harmed t p q) edge unheard in omega (arith, few, long));
      }

  -- both sides' harms are counted
  harms_are : harmed_so_far values start (turns ++ turn ∷ []) ≡ harmed_so_far values start turns + (one_if (is_harmed A p q) + one_if (is_harmed B p q))
  harms_are = let is = harmed_snoc turns turn (opened_world start) in omega (arith, is, between)
    where
      between : harms_of (slice_get w.crew 2) (slice_get (after_turn values turn w).crew 2) ≡ one_if (is_harmed A p q) + one_if (is_harmed B p q)
      between = ap (λ o. harms_of o (slice_get (after_turn values turn w).crew 2)) h.before.here.there ∙ ap (λ o. harms_of (Some h.before.here.crew) o) (now start turns turn h)
          ∙ ap (λ m. harms_between m h.after.here.crew.member) h.before.here.is ∙ ap (λ m. harms_between (Path p) m) h.after.here.is

  pub harms_so : harmed_so_far values start (turns ++ turn ∷ []) ≡ harmed_so_far values start turns + (one_if (is_harmed s p q) + one_if (is_harmed t p q))
  harms_so = (elim s as (λ u. harmed_so_far values start (turns ++ turn ∷ []) ≡ harmed_so_far values start turns + (one_if (is_harmed u p q) + one_if (is_harmed (peer u) p q)))
      [ A ↦ harms_are | B ↦ (let both = harms_are in omega (arith, both)) ])

-- ---- where all is there

module _ (start : Start) (mild : IsMildStart start) (turns : List Turn) (p : PathState Carried) (here : IsPathAt 0 (reached values start turns) p) (s : Side) where
  -- past its FIN
  pub past_is_there_so : 3 ≤ stage (end_at s p).tcp.state → is_dead (end_at s p).tcp.state ≡ false → is_fin_passed (end_at (peer s) p).tcp ≡ true → IsAllThere s (reached values start turns)
  past_is_there_so high living past = if_may_so start mild (IsAllThere s (reached values start turns)) turns p here s high living (λ all. all) (λ may. absurd
      (unpassed (end_at (peer s) p).tcp.fin_at (end_at (peer s) p).tcp.recv.edge
      ((of_path start mild turns p (IsFirstPath start) here (each_first start turns mild.plain.size here.crew here.there)).fins s (unfinished start mild turns p here s may)) past))

  pub past_is_there : IsOpen p → is_fin_passed (end_at (peer s) p).tcp ≡ true → IsAllThere s (reached values start turns)
  past_is_there is_open past = past_is_there_so (is_open.past s) (is_open.living s) past

  -- what RCV.NXT is past came
  pub passed_there : (r : Record) → end_of r ≤ (end_at (peer s) p).tcp.recv.edge → (by_then : ℕ) → IsThereBy s r by_then p
  passed_there r low by_then = there_by.there (λ pos from below. (let under : pos < (end_at (peer s) p).tcp.recv.edge = omega (arith, below, low) in ((0, IsThere.passed under), IsMapped.passed under)))

-- over one path
module _ (start : Start) (plan : PathPlan) (one : BeginsWithOnePath start plan) (turns : List Turn) (p : PathState Carried) (here : IsPathAt 0 (reached values start turns) p) (s : Side) where
  -- each record is well
  pub all_are_well : IsAllThere s (reached values start turns) → AreWellBut s [] p
  all_are_well all r is_one = by r.kind refl
    where
      by : (k : RecordKind) → r.kind ≡ k → IsWell s p r ⊎ Has (λ n. n ≡ r.pos) []
      by kinds.Syn is = inl (well_by.other (λ data_is. (let apart : kinds.Syn ≡ kinds.Data = sym is ∙ data_is in cc)))
      by kinds.Fin is = inl (well_by.other (λ data_is. (let apart : kinds.Fin ≡ kinds.Data = sym is ∙ data_is in cc)))
      by kinds.Data is = inl (well_by.sent (passed_there start one.mild turns p here s r low (p.clock + 400)))
        where
          has : HasRecord r (end_at s p)
          has = record { at = is_one.at; item = is_one.item; there = is_one.there; holds = subst (λ (x : Record). IsSameRecord r x) (sym is_one.holds) (same_record r) }

          stands : StandsWithin (end_at s p).tcp.send.nxt (end_at s p).tcp.send.finished is_one.item
          stands = (of_path start one.mild turns p DataStands here ((data_always_stands start turns one.mild.plain.size).each 2 here.crew here.there) s).each is_one.at is_one.item is_one.there
              (ap (λ (x : Record). x.kind) is_one.holds ∙ is)

          low : end_of r ≤ (end_at (peer s) p).tcp.recv.edge
          low = by_fin (end_at s p).tcp.send.finished refl
            where
              size : is_one.item.pos + is_one.item.mapping.length ≡ end_of r
              size = long p (of_path start one.mild turns p Shown here (each_shown start turns one.mild.plain.size one.mild.fit 2 here.crew here.there)) s r has is

              bytes : CountsBytes (reached values start turns) p s
              bytes = counts start plan one turns p here s

              by_fin : (b : Bool) → (end_at s p).tcp.send.finished ≡ b → end_of r ≤ (end_at (peer s) p).tcp.recv.edge
              by_fin false none = (let came = bytes.came in let whole = all.received in let within = bytes.within none in let before = stands.before in omega (arith, came, whole, within, before, size))
              by_fin true is = (let came = bytes.came in let whole = all.received in let most = bytes.most in let before = stands.before in let one_is = ap one_if is in omega (arith, came, whole, most, before, size, one_is))

-- ---- debts

module _ (start : Start) (plan : PathPlan) (most : ℕ) (s : Side) (roomy : IsRoomy start) where
  abbrev On : ℕ → List Turn → List Turn → Type 0
  On = OwesOn start plan most (OwesAlong start s)

  pub owes_next : (turns : List Turn) (turn : Turn) (debts : ℕ) → IsBegunTurn start turns turn → OwesAlong start s debts turns → On debts turns (turns ++ turn ∷ [])
  owes_next turns turn debts b h = by (subst (λ y. Owing s debts y (reached values start turns)) (path_is (reached values start turns) h.path before.path h.here before.here) h.owing)
    where
      before : IsNow (IsOpenFrom B) (reached values start turns)
      before = b.before

      after : IsNow (IsOpenFrom B) (reached values start (turns ++ turn ∷ []))
      after = b.after

      harms_are_so : harmed_so_far values start (turns ++ turn ∷ []) ≡ harmed_so_far values start turns + (one_if (is_harmed s before.path after.path) + one_if (is_harmed (peer s) before.path after.path))
      harms_are_so = harms_so start roomy turns turn b s

      now_there : IsAllThere s (reached values start turns) → On debts turns (turns ++ turn ∷ [])
      now_there all = record {
        now = 0;
        owes = record { path = after.path; here = after.here; owing = owing.all_there (what_is_there_stays start turns (turn ∷ []) roomy.mild s all) };
        few = omega (arith, harms_are_so);
      }

      by : Owing s debts before.path (reached values start turns) → On debts turns (turns ++ turn ∷ [])
      by (owing.all_there all) = now_there all
      by (owing.these lost unheard x few) = by_fin (is_fin_passed (end_at (peer s) before.path).tcp) refl
        where
          by_fin : (b : Bool) → is_fin_passed (end_at (peer s) before.path).tcp ≡ b → On debts turns (turns ++ turn ∷ [])
          by_fin true past = now_there (past_is_there_so start roomy.mild turns before.path before.here s (before.is_open.past s) (before.is_open.living s) past)
          by_fin false unpast =
              let m = these_more start roomy turns turn b s unpast lost unheard x in record {
                now = debts + (one_if (is_harmed s before.path after.path) + one_if (is_harmed (peer s) before.path after.path));
                owes = record { path = after.path; here = after.here; owing = owing.these m.lost m.unheard m.these (let less = m.few in omega (arith, less, few)) };
                few = omega (arith, harms_are_so);
              }

  pub owes_then : (turns : List Turn) (turn : Turn) (debts : ℕ) → IsOpenAfter start turns → IsOpenAfter start (turns ++ turn ∷ []) → OwesAlong start s debts turns → On debts turns (turns ++ turn ∷ [])
  owes_then turns turn debts before after h = owes_next turns turn debts (begun start turns turn (record { mild = roomy.mild; before = before; after = after })) h

pub who_is_told_but_stays_so : WhoIsToldButStaysSo
who_is_told_but_stays_so start turns turn roomy h s unpast unheard told = told_but_later start roomy turns turn h s unpast unheard told

pub directions_go_on : DirectionsGoOn
directions_go_on start plan most s debts turns then_turns roomy (inl step) h = subst (λ t. OwesOn start plan most (OwesAlong start s) debts turns t) (sym step.is)
    (owes_then start plan most s roomy turns (Turn.Step step.actor) debts step.before (subst (IsOpenAfter start) step.is step.after) h)
directions_go_on start plan most s debts turns then_turns roomy (inr step) h = subst (λ t. OwesOn start plan most (OwesAlong start s) debts turns t) (sym step.is)
    (owes_then start plan most s roomy turns Turn.Round debts step.before (subst (IsOpenAfter start) step.is step.after) h)

-- ---- nothing is owed

none_in : (ns : List ℕ) (n : ℕ) → length ns ≤ 0 → Has (λ m. m ≡ n) ns → ⊥
none_in [] n few h = (let there = h.there in cc)
none_in (m ∷ ns) n few h = omega (arith, few)

-- all is there, or each record is well, and the end is told soon
pub none_is_owed : (start : Start) (turns : List Turn) (s : Side) (p : PathState Carried) → IsPathAt 0 (reached values start turns) p → OwesAlong start s 0 turns
    → IsAllThere s (reached values start turns) ⊎ (Every (IsWell s p) (end_at s p).tcp.send.records × IsToldSoon s p)
none_is_owed start turns s p here h = subst (λ (z : PathState Carried). IsAllThere s (reached values start turns) ⊎ (Every (IsWell s z) (end_at s z).tcp.send.records × IsToldSoon s z))
    (path_is (reached values start turns) h.path p h.here here) (by h.owing)
  where
    by : Owing s 0 h.path (reached values start turns) → IsAllThere s (reached values start turns) ⊎ (Every (IsWell s h.path) (end_at s h.path).tcp.send.records × IsToldSoon s h.path)
    by (owing.all_there all) = inl all
    by (owing.these lost unheard x few) = inr (
      record { each = λ i r there. ⊎_elim (λ y. y) (λ has. absurd (none_in lost r.pos (omega (arith, few)) has)) (x.well r (record { at = i; item = r; there = there; holds = refl })) },
      ⊎_elim (λ soon. soon) (λ has. absurd (none_in unheard (end_at (peer s) h.path).tcp.recv.edge (omega (arith, few)) has)) x.told.told,
    )

pub what_owes_none_is_well : WhatOwesNoneIsWell
what_owes_none_is_well start plan turns s one h = record { path = h.path; here = h.here; records = record { each = λ i r there. well h.owing r (record { at = i; item = r; there = there; holds = refl }) }; told = told h.owing }
  where
    well : Owing s 0 h.path (reached values start turns) → (r : Record) → IsRecordOf (end_at s h.path) r → IsWell s h.path r
    well (owing.all_there all) r is = ⊎_elim (λ x. x) (λ has. absurd (none_in [] r.pos (omega arith) has)) (all_are_well start plan one turns h.path h.here s all r is)
    well (owing.these lost unheard x few) r is = ⊎_elim (λ y. y) (λ has. absurd (none_in lost r.pos (omega (arith, few)) has)) (x.well r is)

    told : Owing s 0 h.path (reached values start turns) → IsToldSoon s h.path ⊎ IsAllThere s (reached values start turns)
    told (owing.all_there all) = inr all
    told (owing.these lost unheard x few) = ⊎_elim (λ soon. inl soon) (λ has. absurd (none_in unheard (end_at (peer s) h.path).tcp.recv.edge (omega (arith, few)) has)) x.told.told
