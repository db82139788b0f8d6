-- A segment is read: what was sent comes in four rounds, and what came is told; so the end may send a full segment more, which comes in four more.
use Rattle.std.proofs.Common.{◌≡◌, refl, sym, subst, ap, ◌∙◌, ◌⊎◌, inl, inr, ⊎_elim, ℕ, zero, suc, ◌+◌, ◌^◌, ◌<◌, ◌≤◌, arith, Bool, true, false, true≢false, if◌then◌else◌, is_some, IsSome, Option, Some, None, List, [], ◌∷◌, ◌++◌, length, map}
use Rattle.std.specs.List.{slice_get}
use Rattle.std.proofs.lemmas.Bool.{both_ways, cases_lt}
use Rattle.std.proofs.lemmas.Option.{same_Some}
use Rattle.sides.specs.declared.side.Side.{Side}
use Rattle.sides.specs.declared.side.Side.TheVariants.{A, B}
use Rattle.sides.specs.Side.{peer}
use Rattle.stream_lanes.specs.Words.{Every, Has}
use Rattle.dss_mapping.specs.Mappings.{mapping_at}
use Rattle.subflow_recv.specs.Receiving.{octet_at}
use Rattle.subflow_send.specs.Records.{Record, end_of, occupied, span_of}
use Rattle.subflow_send.specs.declared.record.RecordKind.{RecordKind}
use Rattle.subflow_send.specs.declared.record.RecordKind.TheVariants.{Syn, Data, Fin}
use Rattle.subflow_send.specs.Rules.{is_unsent}
use Rattle.subflow_tcp.specs.declared.handshake.State.{State as EndPhase}
use Rattle.subflow_tcp.specs.declared.handshake.State.TheVariants as phase
use Rattle.subflow_tcp.specs.State.{is_behind, is_fin_passed}
use Rattle.subflow_tcp.specs.States.{is_dead, may_finish}
use Rattle.path_agenda.specs.declared.duty.Duty.{Duty}
use Rattle.path_core.specs.DssOut.{is_first_piece, place_numbered}
use Rattle.path_core.specs.End.{PathEnd}
use Rattle.path_core.specs.Profile.{Profile}
use Rattle.path_core.specs.State.{PathState, end_at}
use Rattle.path_core.specs.Values.{Carried, values}
use Rattle.world_laws.specs.declared.member.Member.TheVariants.{Path}
use Rattle.world_laws.specs.Actors.{ActorCrew}
use Rattle.world_laws.specs.Members.{HoldsOfKind}
use Rattle.world_laws.specs.Openings.{PathPlan, Start, opened_world}
use Rattle.world_laws.specs.RoundDone.{reached}
use Rattle.world_laws.specs.Worlds.{Turn, WorldState}
use Rattle.world_laws.proofs.Weaving.WholeRounds.{run_append}
use Rattle.whole_paths.specs.Answered.{HasAnswered}
use Rattle.whole_paths.specs.Answered.{IsDone as done_by}
use Rattle.whole_paths.specs.Arrivals.{HasItsMapping}
use Rattle.whole_paths.specs.AsFar.{IsActorAsFar, IsPathAsFar, stage}
use Rattle.whole_paths.specs.Brought.{IsThere, IsToKeep}
use Rattle.whole_paths.specs.Came.{HasCome}
use Rattle.whole_paths.specs.Courses.{round_end}
use Rattle.whole_paths.specs.Delivery.{FinishedIsThere, HasFinished, IsAllThere}
use Rattle.whole_paths.specs.Finish.{IsPathAt}
use Rattle.whole_paths.specs.Kept.{AreKept, EndsKeepWhatWaits, IsSameRecord, KeepsWhatWaits}
use Rattle.whole_paths.specs.Mapped.{EndsAreLive, IsMapped, IsToLearn}
use Rattle.whole_paths.specs.Mending.{IsAllThereOf, IsThereBy, IsToldBy, IsToldSoon, IsWell}
use Rattle.whole_paths.specs.Mending.{IsThereBy as there_by, IsToldBy as told_by, IsToldSoon as told_soon, IsWell as well_by}
use Rattle.whole_paths.specs.Mild.{EndsGoByMappings, IsMildStart}
use Rattle.whole_paths.specs.OnePathScripts.{BeginsWithOnePath}
use Rattle.whole_paths.specs.OpenCourses.{IsOpenAfter}
use Rattle.whole_paths.specs.Passed.{HasPassed}
use Rattle.whole_paths.specs.PositionCounts.{CountsBytes}
use Rattle.whole_paths.specs.SegmentRounds.{FourRoundsBring, FourRoundsTell, Rounds}
use Rattle.whole_paths.specs.SentInOrder.{sent_before, sent_up_to}
use Rattle.whole_paths.specs.Straying.{IsOpen}
use Rattle.whole_paths.specs.WholeMappings.{HasRecord, NoneIsPartial}
use Rattle.whole_paths.proofs.Acking.{piece_some}
use Rattle.whole_paths.proofs.Came.{what_is_acknowledged_came}
use Rattle.whole_paths.proofs.DataLeft.{IsBegun, each_is_begun}
use Rattle.whole_paths.proofs.Delivery.{what_is_there_stays}
use Rattle.whole_paths.proofs.FinishedThere.{each_finished_is_there}
use Rattle.whole_paths.proofs.Flying.{same_record, same_said, same_segment}
use Rattle.whole_paths.proofs.GoingOn.{open_behind}
use Rattle.whole_paths.proofs.Keeping.{what_waits_is_kept}
use Rattle.whole_paths.proofs.Knowing.{what_is_told_is_known}
use Rattle.whole_paths.proofs.Mild.{mapping_is_kept}
use Rattle.whole_paths.proofs.OpenCourses.{IsFirstPath, each_first}
use Rattle.whole_paths.proofs.Owing.{copies_are_answered}
use Rattle.whole_paths.proofs.Passing.{what_is_in_order_is_passed}
use Rattle.whole_paths.proofs.PositionCounts.{positions_count_bytes}
use Rattle.whole_paths.proofs.Reached.{EndsAreReached, Joined, Line, each_is_reached}
use Rattle.whole_paths.proofs.RecordWaits.{path_is}
use Rattle.whole_paths.proofs.RecordsWell.{each_record_stays_well}
use Rattle.whole_paths.proofs.ToldSoon.{each_answer_comes_soon}
use Rattle.whole_paths.proofs.RoundSteps.{Between, between, carried, early, far, none_comes, open_first, open_last, over_after, over_before, rounds_later, silent}
use Rattle.whole_paths.proofs.WholeMappings.{mappings_are_whole}
use Rattle.whole_paths.proofs.OpenTurns.{begun}

-- ---- a record and the one that it became

pub same_end : (r x : Record) → IsSameRecord r x → end_of x ≡ end_of r
same_end r x same = ap (λ n. n + occupied x.kind x.piece) same.pos ∙ ap (λ k. r.pos + occupied k x.piece) same.kind ∙ ap (λ (o : List ℕ). r.pos + occupied r.kind o) same.piece

same_mapped : (c : Profile) (s : Side) (e : PathEnd) (r x : Record) → IsSameRecord r x → HasItsMapping c s x e → HasItsMapping c s r e
same_mapped c s e r x same h =
    let size : length x.piece ≡ length r.piece = ap (λ (o : List ℕ). length o) same.piece in
    let at = same.pos in let some = h.some in let behind = h.behind_syn in let short = h.short in
    record {
      kind = sym same.kind ∙ h.kind;
      some = omega (arith, some, size);
      behind_syn = omega (arith, behind, at);
      short = omega (arith, short, at, size);
      whole = sym (ap (λ m. m.length) same.mapping) ∙ h.whole ∙ size;
      low = subst (λ n. n ≤ 2 ^ 62) (ap (λ m. place_numbered c s m.number + length x.piece) same.mapping ∙ ap (λ n. place_numbered c s r.mapping.number + n) size) h.low;
      mapped = h.mapped;
      finite = h.finite;
      few = subst (λ (o : List ℕ). length o ≤ 65475) same.piece h.few;
      told = ⊎_elim (λ later. inl (sym (ap (λ n. is_first_piece s (record x { pos = n }) e) same.pos) ∙ later)) (λ keyed. inr keyed) h.told;
    }

there_so : (s : Side) (r x : Record) (by : ℕ) (p : PathState Carried) → IsSameRecord r x → IsThereBy s x by p → IsThereBy s r by p
there_so s r x by p same (there_by.there all) = there_by.there (λ pos low high. (let at = same.pos in let end = same_end r x same in all pos (omega (arith, low, at)) (omega (arith, high, end))))
there_so s r x by p same (there_by.comes h) =
    let c = h.of_it in
    there_by.comes (record {
      copy = h.copy;
      there = h.there;
      of_it = record {
        to = c.to;
        segment = c.segment;
        of_it = same_segment r x c.segment same c.of_it;
        sender = c.sender;
        says = same_said p.profile s c.sender r x c.segment same c.says;
        stripped = c.stripped;
        altered = c.altered;
        whole = c.whole;
        plain = c.plain;
        carried = c.carried;
      };
      whole = record { mapped = same_mapped p.profile s c.sender r x same h.whole.mapped; acknowledges = h.whole.acknowledges; edge = h.whole.edge; unstripped = h.whole.unstripped; unaltered = h.whole.unaltered };
      soon = h.soon;
    })

turned : (r x : Record) → IsSameRecord r x → IsSameRecord x r
turned r x same = record { pos = sym same.pos; kind = sym same.kind; piece = sym same.piece; mapping = sym same.mapping }

-- one that is kept is let go, or there still
pub kept_one : (Gone : Record → Type 0) (xs ys : List Record) → AreKept Gone IsSameRecord xs ys → (i : ℕ) (x : Record) → slice_get xs i ≡ Some x → Gone x ⊎ Has (IsSameRecord x) ys
kept_one Gone [] ys kept i x there = cc
kept_one Gone (r ∷ xs) [] kept zero x there = inl (subst Gone (same_Some r x there) kept.0)
kept_one Gone (r ∷ xs) [] kept (suc i) x there = kept_one Gone xs [] kept.1 i x there
kept_one Gone (r ∷ xs) (y ∷ ys) (inl kept) zero x there = inl (subst Gone (same_Some r x there) kept.0)
kept_one Gone (r ∷ xs) (y ∷ ys) (inl kept) (suc i) x there = kept_one Gone xs (y ∷ ys) kept.1 i x there
kept_one Gone (r ∷ xs) (y ∷ ys) (inr kept) zero x there = inr (record { at = 0; item = y; there = refl; holds = subst (λ z. IsSameRecord z y) (same_Some r x there) kept.0 })
kept_one Gone (r ∷ xs) (y ∷ ys) (inr kept) (suc i) x there = ⊎_elim (λ gone. inl gone) (λ has. inr (record { at = suc has.at; item = has.item; there = has.there; holds = has.holds })) (kept_one Gone xs ys kept.1 i x there)

same_then : (r x y : Record) → IsSameRecord r x → IsSameRecord x y → IsSameRecord r y
same_then r x y a b = record { pos = b.pos ∙ a.pos; kind = b.kind ∙ a.kind; piece = b.piece ∙ a.piece; mapping = b.mapping ∙ a.mapping }

-- ---- the record at a position that was sent

record SentAt (pos : ℕ) (rs : List Record) : Type 0 where
  at : ℕ
  item : Record
  there : slice_get rs at ≡ Some item
  low : item.pos ≤ pos
  high : pos < end_of item
  sent : is_unsent item ≡ false

later_sent : (pos : ℕ) (r : Record) (rs : List Record) → SentAt pos rs → SentAt pos (r ∷ rs)
later_sent pos r rs h = record { at = suc h.at; item = h.item; there = h.there; low = h.low; high = h.high; sent = h.sent }

sent_from : (nxt from pos : ℕ) (rs : List Record) → Joined from nxt (map span_of rs) → from ≤ pos → pos < sent_before nxt rs → SentAt pos rs
sent_from nxt from pos [] joined low high = absurd (omega (arith, joined, low, high))
sent_from nxt from pos (r ∷ rs) joined low high = by (is_unsent r) refl high (λ past more. sent_from nxt (end_of r) pos rs joined.1 past more)
  where
    by : (b : Bool) → is_unsent r ≡ b → pos < (if b then r.pos else sent_before nxt rs) → (end_of r ≤ pos → pos < sent_before nxt rs → SentAt pos rs) → SentAt pos (r ∷ rs)
    by true is high rest = absurd (let at = joined.0 in omega (arith, at, low, high))
    by false is high rest = ⊎_elim
        (λ within. record { at = 0; item = r; there = refl; low = (let at = joined.0 in omega (arith, at, low)); high = within; sent = is })
        (λ past. later_sent pos r rs (rest past high))
        (cases_lt pos (end_of r))

sent_at : (una nxt pos : ℕ) (rs : List Record) → Line una nxt (map span_of rs) → una ≤ pos → pos < sent_before nxt rs → SentAt pos rs
sent_at una nxt pos [] line low high = absurd (omega (arith, line, low, high))
sent_at una nxt pos (r ∷ rs) line low high = by (is_unsent r) refl high
  where
    by : (b : Bool) → is_unsent r ≡ b → pos < (if b then r.pos else sent_before nxt rs) → SentAt pos (r ∷ rs)
    by true is high = absurd (let at = line.0 in omega (arith, at, low, high))
    by false is high = ⊎_elim
        (λ within. record { at = 0; item = r; there = refl; low = (let at = line.0 in omega (arith, at, low)); high = within; sent = is })
        (λ past. later_sent pos r rs (sent_from nxt (end_of r) pos rs line.2 past high))
        (cases_lt pos (end_of r))

-- ---- an end

still_living : (state : EndPhase) → is_dead state ≡ false → stage state ≤ 6
still_living phase.Dead living = absurd (true≢false living)
still_living _ living = omega arith

-- where RCV.NXT of the peer isn't past a FIN that wasn't sent
none_passed : (fin_at : Option ℕ) (edge : ℕ) → fin_at ≡ None → is_behind fin_at edge ≡ true → ⊥
none_passed fin_at edge none behind = true≢false (sym behind ∙ ap (λ o. is_behind o edge) none)

-- ---- path 0 of a mild connection

module _ (start : Start) (mild : IsMildStart start) where
  abbrev at : List Turn → WorldState Carried
  at turns = reached values start turns

  pub of_path : (turns : List Turn) (p : PathState Carried) (P : PathState Carried → Type 0) (here : IsPathAt 0 (at turns) p) → HoldsOfKind (λ app. Unit {0}) P here.crew.member → P p
  of_path turns p P here h = subst (HoldsOfKind (λ app. Unit {0}) P) here.is h

  -- an end that sent its FIN has its stream with the peer
  pub if_may_so : (G : Type 0) (turns : List Turn) (p : PathState Carried) → IsPathAt 0 (at turns) p → (s : Side) → 3 ≤ stage (end_at s p).tcp.state → is_dead (end_at s p).tcp.state ≡ false → (IsAllThere s (at turns) → G)
      → (may_finish (end_at s p).tcp.state ≡ true → G) → G
  if_may_so G turns p here s past living over goes = by (may_finish (end_at s p).tcp.state) refl
    where
      by : (b : Bool) → may_finish (end_at s p).tcp.state ≡ b → G
      by true may = goes may
      by false behind = over (of_path turns p (FinishedIsThere (at turns)) here (each_finished_is_there start turns mild 2 here.crew here.there) s
          (HasFinished.sent_fin (open_behind (end_at s p).tcp.state past living behind) living))

  -- where both ends are open
  pub if_may : (G : Type 0) (turns : List Turn) (p : PathState Carried) → IsPathAt 0 (at turns) p → IsOpen p → (s : Side) → (IsAllThere s (at turns) → G) → (may_finish (end_at s p).tcp.state ≡ true → G) → G
  if_may G turns p here opened s over goes = if_may_so G turns p here s (opened.past s) (opened.living s) over goes

  pub unfinished : (turns : List Turn) (p : PathState Carried) → IsPathAt 0 (at turns) p → (s : Side) → may_finish (end_at s p).tcp.state ≡ true → (end_at s p).tcp.send.finished ≡ false
  unfinished turns p here s may = (of_path turns p (IsFirstPath start) here (each_first start turns mild.plain.size here.crew here.there)).may s may

  pub stays_there : (v u : List Turn) (s : Side) → Between start v u → IsAllThere s (at v) → IsAllThere s (at u)
  stays_there v u s b h = subst (λ t. IsAllThere s (at t)) (sym b.is) (what_is_there_stays start v b.more mild s h)

  pub path_far : (v u : List Turn) (p q : PathState Carried) → Between start v u → IsPathAt 0 (at v) p → IsPathAt 0 (at u) q → IsPathAsFar p q
  path_far v u p q b here there =
      let found = (far start v u b).crew 2 here.crew here.there in
      subst (λ m. IsActorAsFar m (Path q)) here.is (subst (λ m. IsActorAsFar here.crew.member m) (ap (λ (c : ActorCrew Carried). c.member) (same_Some found.0 there.crew (sym found.1 ∙ there.there)) ∙ there.is) found.2.member)

  edge_up : (s : Side) (p q : PathState Carried) → IsPathAsFar p q → (end_at s p).tcp.recv.edge ≤ (end_at s q).tcp.recv.edge
  edge_up = elim [ A ↦ λ p q h. h.a.subflow.received | B ↦ λ p q h. h.b.subflow.received ]

  pub una_up : (s : Side) (p q : PathState Carried) → IsPathAsFar p q → (end_at s p).tcp.send.una ≤ (end_at s q).tcp.send.una
  una_up = elim [ A ↦ λ p q h. h.a.subflow.acknowledged | B ↦ λ p q h. h.b.subflow.acknowledged ]

  pub came : (turns : List Turn) (p : PathState Carried) → IsPathAt 0 (at turns) p → (s : Side) → is_dead (end_at s p).tcp.state ≡ false → (end_at s p).tcp.send.una ≤ (end_at (peer s) p).tcp.recv.edge
  came turns p here s living = (of_path turns p HasCome here ((what_is_acknowledged_came start turns).each 2 here.crew here.there)).una s living

  -- what an end waits for it waits for still as a turn is over, or it is acknowledged
  pub kept : (turns : List Turn) (turn : Turn) (before : IsOpenAfter start turns) (after : IsOpenAfter start (turns ++ turn ∷ [])) (s : Side) → KeepsWhatWaits (end_at s before.path) (end_at s after.path)
  kept turns turn before after s =
      let found = what_waits_is_kept values (at turns) (turn ∷ []) 2 before.here.crew before.here.there in
      let there = subst (λ (w : WorldState Carried). slice_get w.crew 2 ≡ Some after.here.crew) (run_append values turns (turn ∷ []) (opened_world start)) after.here.there in
      (subst (λ m. EndsKeepWhatWaits m (Path after.path)) before.here.is
      (subst (λ m. EndsKeepWhatWaits before.here.crew.member m) (ap (λ (c : ActorCrew Carried). c.member) (same_Some found.0 after.here.crew (sym found.1 ∙ there)) ∙ after.here.is) found.2)) s

  -- ---- what comes in four rounds

  module _ (s : Side) (r : Record) (kind : r.kind ≡ Data) (by : ℕ) where
    -- the record waits still, and is there by the tick; or it is acknowledged
    abbrev StillComes : PathState Carried → Type 0
    StillComes p = (HasRecord r (end_at s p) × IsThereBy s r by p) ⊎ (end_of r ≤ (end_at s p).tcp.send.una)

    goes : (turns : List Turn) (turn : Turn) (before : IsOpenAfter start turns) (after : IsOpenAfter start (turns ++ turn ∷ [])) → StillComes before.path → StillComes after.path
    goes turns turn before after = by_state
      where
        p : PathState Carried
        p = before.path

        q : PathState Carried
        q = after.path

        by_state : StillComes p → StillComes q
        by_state (inr acked) = inr (let up = (kept turns turn before after s).una in omega (arith, acked, up))
        by_state (inl h) =
            let has = h.0 in
            let item = has.item in
            let of_data : item.kind ≡ Data = has.holds.kind ∙ kind in
            let there = there_so s r item by q has.holds ((each_record_stays_well start turns turn (begun start turns turn (record { mild = mild; before = before; after = after })) s).comes item by (record { at = has.at; item = item; there = has.there; holds = refl }) of_data (there_so s item r by p (turned r item has.holds) h.1)) in
            ⊎_elim
            (λ gone. inr (let low = gone.1 in let end = same_end r item has.holds in omega (arith, low, end)))
            (λ on. inl (record { at = on.at; item = on.item; there = on.there; holds = same_then r item on.item has.holds on.holds }, there))
            (kept_one _ (end_at s p).tcp.send.records (end_at s q).tcp.send.records (kept turns turn before after s).records has.at item has.there)

  module _ (v u : List Turn) (rounds : Rounds start 4 v u) (s : Side) (p q : PathState Carried) (here : IsPathAt 0 (at v) p) (there : IsPathAt 0 (at u) q) (mended : Every (IsWell s p) (end_at s p).tcp.send.records) where
    abbrev r : Side
    r = peer s

    path_between : Between start v u
    path_between = between start 3 v u rounds

    opened : IsOpen p
    opened = let o = open_first start v path_between.more path_between.stays_open in subst IsOpen (path_is (at v) o.path p o.here here) o.is_open

    opened_last : IsOpen q
    opened_last =
        let o = open_last start v path_between.more path_between.stays_open in
        subst IsOpen (path_is (at u) o.path q (subst (λ t. IsPathAt 0 (at t) o.path) (sym path_between.is) o.here) there) o.is_open

    still : q.agenda ≡ []
    still = silent start u q (over_after start 3 v u rounds) there

    late : round_end values start u ≡ round_end values start v + 400
    late = let all = rounds_later start 4 v u rounds in omega (arith, all)

    module _ (may : may_finish (end_at s p).tcp.state ≡ true) (e : ℕ) (is : e ≡ (end_at r q).tcp.recv.edge) (short : e < sent_up_to (end_at s p).tcp.send) where
      abbrev sender : PathEnd
      sender = end_at s p

      reached_p : EndsAreReached p
      reached_p = of_path v p EndsAreReached here ((each_is_reached values start v).each 2 here.crew here.there)

      low : sender.tcp.send.una ≤ e
      low = let first = came v p here s (opened.living s) in let up = edge_up r p q (path_far v u p q path_between here there) in omega (arith, first, up, is)

      abbrev found : SentAt e sender.tcp.send.records
      found = sent_at sender.tcp.send.una sender.tcp.send.nxt e sender.tcp.send.records (reached_p s).lined.line low short

      abbrev item : Record
      item = found.item

      first : IsFirstPath start p
      first = of_path v p (IsFirstPath start) here (each_first start v mild.plain.size here.crew here.there)

      of_data : item.kind ≡ Data
      of_data = by item.kind refl
        where
          by : (k : RecordKind) → item.kind ≡ k → item.kind ≡ Data
          by Data same = same
          by Fin same = absurd ((first.kinds s (first.may s may)).each found.at item found.there same)
          by Syn same = absurd (
              let begun = of_path v p (λ z. (t : Side) → IsBegun (end_at t z).tcp) here ((each_is_begun values start v).each 2 here.crew here.there) s in
              let zeroth : item.pos ≡ 0 = begun.syns.each found.at item found.there same in
              let some = begun.past (opened.past s) (still_living (end_at s p).tcp.state (opened.living s)) in
              let end : end_of item ≡ item.pos + 1 = ap (λ k. item.pos + occupied k item.piece) same in
              let high = found.high in omega (arith, zeroth, some, end, high, low))

      comes : IsThereBy s item (p.clock + 400) p
      comes = of_well (mended.each found.at item found.there)
        where
          of_well : IsWell s p item → IsThereBy s item (p.clock + 400) p
          of_well (well_by.other none) = absurd (none of_data)
          of_well (well_by.unsent unsent) = absurd (true≢false (sym unsent ∙ found.sent))
          of_well (well_by.sent soon) = soon

      later : StillComes s item of_data (p.clock + 400) q
      later = carried start (StillComes s item of_data (p.clock + 400)) (goes s item of_data (p.clock + 400)) v path_between.more path_between.stays_open p q here (subst (λ t. IsPathAt 0 (at t) q) path_between.is there)
          (inl (record { at = found.at; item = item; there = found.there; holds = same_record item }, comes))

      abbrev taker : PathEnd
      taker = end_at r q

      -- each of its octets is kept
      kept_octet : (pos octet : ℕ) → taker.tcp.recv.edge ≤ pos → IsThere r pos octet q → octet_at pos taker.tcp.recv ≡ Some octet
      kept_octet pos octet above (IsThere.passed past) = absurd (omega (arith, above, past))
      kept_octet pos octet above (IsThere.kept now) = now.now
      kept_octet pos octet above (IsThere.held octet_is keeps) = absurd (subst (λ (ds : List Duty). IsToKeep r ds) still keeps)

      known_at : (pos : ℕ) → taker.tcp.recv.edge ≤ pos → IsMapped r pos q → IsSome (mapping_at taker.receiving.mappings pos)
      known_at pos above (IsMapped.passed past) = absurd (omega (arith, above, past))
      known_at pos above (IsMapped.known some) = some
      known_at pos above (IsMapped.told mapping held covers learns) = absurd (subst (λ (ds : List Duty). IsToLearn r taker.treated.items ds) still learns)

      none : HasRecord item (end_at s q) → IsAllThereOf s item q → ⊥
      none has all =
          let edge = is in
          let within = found.high in
          let start_at = found.low in
          let own = all e start_at within in
          let octets : (pos : ℕ) → taker.tcp.recv.edge ≤ pos → pos < end_of item → IsSome (octet_at pos taker.tcp.recv) =
          λ pos above below. (let o = (all pos (omega (arith, above, start_at, edge)) below).0 in ap is_some (kept_octet pos o.0 above o.1)) in
          let go_by = of_path u q EndsGoByMappings there ((mapping_is_kept start u mild).each 2 there.crew there.there) r in
          let first_q = of_path u q (IsFirstPath start) there (each_first start u mild.plain.size there.crew there.there) in
          let live = of_path u q EndsAreLive there (((what_is_told_is_known values).live start u).each 2 there.crew there.there) r in
          let passed = (of_path u q HasPassed there ((what_is_in_order_is_passed values start u).each 2 there.crew there.there) r (opened_last.living r)).over still in
          ⊎_elim
          (λ failing. fails go_by.right failing)
          (λ partial. of_path u q NoneIsPartial there (mappings_are_whole start u mild there.crew there.there) s item has of_data partial)
          (piece_some r own.0.0 (end_of item) q (omega (arith, within, edge)) octets live
          (subst (λ n. octet_at n taker.tcp.recv ≡ Some own.0.0) edge (kept_octet e own.0.0 (omega (arith, edge)) own.0.1))
          (subst (λ n. IsSome (mapping_at taker.receiving.mappings n)) edge (known_at e (omega (arith, edge)) own.1))
          (go_by.peer first_q.first) passed)
        where
          fails : {X : Type 0} {o : Option X} → o ≡ None → IsSome o → ⊥
          fails none some = true≢false (sym some ∙ ap is_some none)

      never : ⊥
      never = by later
        where
          by : StillComes s item of_data (p.clock + 400) q → ⊥
          by (inr acked) = let up = came u q there s (opened_last.living s) in let high = found.high in omega (arith, acked, up, high, is)
          by (inl h) = by_tick h.0 h.1
            where
              by_tick : HasRecord item (end_at s q) → IsThereBy s item (p.clock + 400) q → ⊥
              by_tick has (there_by.there all) = none has all
              by_tick has (there_by.comes c) =
                  let tick = c.soon in
                  let clock = early start v p here in
                  let under_way = c.there in
                  let first_tick = none_comes start u q (over_after start 3 v u rounds) there under_way.at under_way.item under_way.there in
                  let same = ap (λ f. f.tick) under_way.holds in omega (arith, tick, clock, first_tick, same, late)

    pub bring : IsAllThere s (at u) ⊎ (sent_up_to (end_at s p).tcp.send ≤ (end_at r q).tcp.recv.edge)
    bring = if_may (IsAllThere s (at u) ⊎ (sent_up_to (end_at s p).tcp.send ≤ (end_at r q).tcp.recv.edge)) v p here opened s (λ all. inl (stays_there v u s path_between all))
        (λ may. ⊎_elim (λ short. absurd (never may (end_at r q).tcp.recv.edge refl short)) (λ enough. inr enough) (cases_lt (end_at r q).tcp.recv.edge (sent_up_to (end_at s p).tcp.send)))

  -- ---- what is told in four rounds

  module _ (v u : List Turn) (rounds : Rounds start 4 v u) (s : Side) (p q : PathState Carried) (here : IsPathAt 0 (at v) p) (there : IsPathAt 0 (at u) q) (is_told : IsToldSoon s p) where
    told_between : Between start v u
    told_between = between start 3 v u rounds

    told_open : IsOpen p
    told_open = let o = open_first start v told_between.more told_between.stays_open in subst IsOpen (path_is (at v) o.path p o.here here) o.is_open

    abbrev edge : ℕ
    edge = (end_at (peer s) p).tcp.recv.edge

    follows : IsToldBy s edge (p.clock + 400) p → edge ≤ (end_at s q).tcp.send.una
    follows h = by (carried start (IsToldBy s edge (p.clock + 400)) (λ turns turn before after. (each_answer_comes_soon start turns turn (begun start turns turn (record { mild = mild; before = before; after = after })) s).comes edge (p.clock + 400))
        v told_between.more told_between.stays_open p q here (subst (λ t. IsPathAt 0 (at t) q) told_between.is there) h)
      where
        by : IsToldBy s edge (p.clock + 400) q → edge ≤ (end_at s q).tcp.send.una
        by (told_by.heard is) = is
        by (told_by.comes copy under_way answers soon) =
            let clock = early start v p here in
            let first_tick = none_comes start u q (over_after start 3 v u rounds) there under_way.at under_way.item under_way.there in
            let same = ap (λ f. f.tick) under_way.holds in
            let all = rounds_later start 4 v u rounds in absurd (omega (arith, soon, clock, first_tick, same, all))

    quiet : (end_at (peer s) p).tcp.due.ack ≡ false
    quiet = (of_path v p HasAnswered here ((copies_are_answered values start v).each 2 here.crew here.there) (done_by.over (silent start v p (over_before start 3 v u rounds) here)) (peer s) (told_open.living (peer s))).ack

    unpassed : may_finish (end_at s p).tcp.state ≡ true → is_fin_passed (end_at (peer s) p).tcp ≡ true → ⊥
    unpassed may behind = none_passed (end_at (peer s) p).tcp.fin_at (end_at (peer s) p).tcp.recv.edge ((of_path v p (IsFirstPath start) here (each_first start v mild.plain.size here.crew here.there)).fins s (unfinished v p here s may)) behind

    pub tell : IsAllThere s (at u) ⊎ (edge ≤ (end_at s q).tcp.send.una)
    tell = if_may (IsAllThere s (at u) ⊎ (edge ≤ (end_at s q).tcp.send.una)) v p here told_open s (λ all. inl (stays_there v u s told_between all)) (λ may. by may is_told)
      where
        by : may_finish (end_at s p).tcp.state ≡ true → IsToldSoon s p → IsAllThere s (at u) ⊎ (edge ≤ (end_at s q).tcp.send.una)
        by may (told_soon.past_fin behind) = absurd (unpassed may behind)
        by may (told_soon.owed due) = absurd (both_ways _ quiet due)
        by may (told_soon.told h) = inr (follows h)

-- over one path
module _ (start : Start) (plan : PathPlan) (x : BeginsWithOnePath start plan) where
  pub counts : (turns : List Turn) (p : PathState Carried) → IsPathAt 0 (reached values start turns) p → (s : Side) → CountsBytes (reached values start turns) p s
  counts turns p here = of_path start x.mild turns p (λ q. (s : Side) → CountsBytes (reached values start turns) q s) here ((positions_count_bytes start turns plan x.one x.mild).each 2 here.crew here.there)

pub four_rounds_bring : FourRoundsBring
four_rounds_bring start v u mild rounds s p q here there mended = bring start mild v u rounds s p q here there mended

pub four_rounds_tell : FourRoundsTell
four_rounds_tell start v u mild rounds s p q here there soon = tell start mild v u rounds s p q here there soon
