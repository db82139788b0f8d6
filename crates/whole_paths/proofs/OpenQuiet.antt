-- As B's end may send a DSS first it sent nothing behind its SYN: so nothing of it may be lost, or is to be told; and nothing came to it behind A's.
use Rattle.std.proofs.Common.{◌≡◌, sym, subst, ◌∙◌, inl, ⊎_elim, ℕ, ◌+◌, ◌≤◌, arith, false, true≢false, Option, None, IfSome, List, [], ◌∷◌, ◌++◌, length}
use Rattle.sides.specs.declared.side.Side.{Side}
use Rattle.sides.specs.declared.side.Side.TheVariants.{A, B}
use Rattle.sides.specs.Side.{peer}
use Rattle.stream_lanes.specs.Words.{Every}
use Rattle.subflow_send.specs.declared.record.RecordKind.TheVariants as kinds
use Rattle.subflow_tcp.specs.States.{is_dead}
use Rattle.subflow_tcp.specs.declared.handshake.State.{State as EndPhase}
use Rattle.subflow_tcp.specs.declared.handshake.State.TheVariants as phase
use Rattle.path_core.specs.State.{PathState, end_at}
use Rattle.path_core.specs.Values.{Carried, values}
use Rattle.world_laws.specs.Openings.{PathPlan, Start}
use Rattle.world_laws.specs.RoundDone.{reached}
use Rattle.world_laws.specs.Worlds.{Turn}
use Rattle.whole_paths.specs.AsFar.{stage}
use Rattle.whole_paths.specs.Came.{AcksWhatCame, HasCome}
use Rattle.whole_paths.specs.Debts.{OwesAtMost}
use Rattle.whole_paths.specs.Directions.{AreHeardBut, IsToldBut, OwesAlong, Owing}
use Rattle.whole_paths.specs.Directions.{Owing as owing}
use Rattle.whole_paths.specs.Finish.{IsPathAt}
use Rattle.whole_paths.specs.Mending.{IsToldBy as told_by, IsToldSoon as told_soon, IsWell as well_by}
use Rattle.whole_paths.specs.OnePathScripts.{BeginsWithOnePath}
use Rattle.whole_paths.specs.OpenFirst.{AOwesRecordsFirst, BOwesNoneFirst, HasJustOpened, OpensByClearing, OpensWithFewLost, OpensWithFewSo}
use Rattle.whole_paths.specs.Sent.{WasSent}
use Rattle.whole_paths.specs.Straying.{IsOpenFrom}
use Rattle.whole_paths.specs.Unmended.{AreWellBut}
use Rattle.whole_paths.proofs.Came.{what_is_acknowledged_came}
use Rattle.whole_paths.proofs.ClearFirst.{Quiet, quiet_then, syns_alone}
use Rattle.whole_paths.proofs.DataLeft.{EndsAreBegun, each_is_begun}
use Rattle.whole_paths.proofs.EdgesStay.{edge_then}
use Rattle.whole_paths.proofs.Exchanges.{Shown, each_shown, under_way}
use Rattle.whole_paths.proofs.MappedCopies.{EndBehind, each_behind}
use Rattle.whole_paths.proofs.OpenClears.{paths_open_by_clearing}
use Rattle.whole_paths.proofs.OpenCourses.{IsFirstPath, each_first}
use Rattle.whole_paths.proofs.Reached.{EndsAreReached, each_is_reached}
use Rattle.whole_paths.proofs.SegmentRounds.{if_may_so, of_path, unfinished}
use Rattle.whole_paths.proofs.Sent.{what_came_was_sent}
use Rattle.whole_paths.proofs.Signless.{IsSyn}

living_low : (state : EndPhase) → is_dead state ≡ false → stage state ≤ 6
living_low phase.Dead living = absurd (true≢false living)
living_low _ living = omega arith

module _ (start : Start) (plan : PathPlan) (turns : List Turn) (one : BeginsWithOnePath start plan) (q : PathState Carried) (here : IsPathAt 0 (reached values start turns) q)
    (opened : IsOpenFrom B q) where
  acked : (s : Side) → 1 ≤ (end_at s q).tcp.send.una
  acked s = (of_path start one.mild turns q EndsAreBegun here ((each_is_begun values start turns).each 2 here.crew here.there) s).past (opened.past s) (living_low (end_at s q).tcp.state (opened.living s))

  came : HasCome q
  came = of_path start one.mild turns q HasCome here ((what_is_acknowledged_came start turns).each 2 here.crew here.there)

  first : IsFirstPath start q
  first = of_path start one.mild turns q (IsFirstPath start) here (each_first start turns one.mild.plain.size here.crew here.there)

  -- where nothing came to the peer behind the side's SYN
  told : (s : Side) → (end_at (peer s) q).tcp.recv.edge ≤ 1 → IsToldBut s [] q
  told s low = record { told = inl (told_soon.told (told_by.heard edge_low)); heard = heard; low = record { each = λ i n there. cc } }
    where
      edge_low : (end_at (peer s) q).tcp.recv.edge ≤ (end_at s q).tcp.send.una
      edge_low = let some = acked s in omega (arith, low, some)

      heard : AreHeardBut s [] (q.clock + 400) q
      heard f n there to rst acks = inl (told_by.heard (let few = acked_low in let most = edge_low in omega (arith, few, most)))
        where
          acked_low : n ≤ (end_at (peer s) q).tcp.recv.edge
          acked_low = subst (λ y. n ≤ (end_at (peer y) q).tcp.recv.edge) to (⊎_elim (λ is. absurd (true≢false (sym is ∙ rst))) (λ some. subst (λ (o : Option ℕ). IfSome o (λ m. m ≤ (end_at (peer f.to) q).tcp.recv.edge)) acks some)
              (under_way (AcksWhatCame q) f q there came.copies))

  -- ---- along B's direction

  module _ (quiet : Quiet q.b) where
    syns : Every IsSyn q.b.tcp.send.records
    syns = syns_alone B q (of_path start one.mild turns q Shown here (each_shown start turns one.mild.plain.size one.mild.fit 2 here.crew here.there))
        (of_path start one.mild turns q EndBehind here (each_behind start turns one.mild.plain.size 2 here.crew here.there))
        (of_path start one.mild turns q EndsAreReached here ((each_is_reached values start turns).each 2 here.crew here.there)) (first.kinds B) quiet

    well : AreWellBut B [] q
    well r is_one = inl (well_by.other (λ data_is. (let is : r.kind ≡ kinds.Syn = subst IsSyn is_one.holds (syns.each is_one.at is_one.item is_one.there) in let apart : kinds.Syn ≡ kinds.Data = sym is ∙ data_is in cc)))

    -- nothing came to A behind B's SYN
    edge_low : q.a.tcp.recv.edge ≤ 1
    edge_low = let sent = of_path start one.mild turns q WasSent here ((what_came_was_sent start turns one.mild.plain.size).each 2 here.crew here.there) A in let few = quiet.0 in omega (arith, sent, few)

    pub owes_none : Owing B 0 q (reached values start turns)
    owes_none = owing.these [] [] (record { well = well; told = told B edge_low }) (omega arith)

  -- ---- along A's

  module _ (low : q.b.tcp.fin_at ≡ None → q.b.tcp.recv.edge ≤ 1) (lost : List ℕ) (well : AreWellBut A lost q) where
    pub owes_records : Owing A (length lost) q (reached values start turns)
    owes_records = if_may_so start one.mild (Owing A (length lost) q (reached values start turns)) turns q here A (opened.past A) (opened.living A) (λ all. owing.all_there all)
        (λ may. owing.these lost [] (record { well = well; told = told A (low (first.fins A (unfinished start one.mild turns q here A may))) }) (omega arith))

pub b_owes_none_first : BOwesNoneFirst
b_owes_none_first start plan turns turn one p here unclear now = record {
  path = now.path;
  here = now.here;
  owing = owes_none start plan (turns ++ turn ∷ []) one now.path now.here now.is_open (quiet_then start one.mild turns turn p now.path here now.here unclear);
}

pub a_owes_records_first : AOwesRecordsFirst
a_owes_records_first start plan turns turn one p here unclear now lost well = record {
  path = now.path;
  here = now.here;
  owing = owes_records start plan (turns ++ turn ∷ []) one now.path now.here now.is_open
      (λ none. edge_then start one.mild turns turn p now.path here now.here (record { living = now.is_open.living }) B unclear none) lost well;
}

module _ (start : Start) (plan : PathPlan) (most : ℕ) (one : BeginsWithOnePath start plan) (turns : List Turn) (turn : Turn) (p : PathState Carried) (here : IsPathAt 0 (reached values start turns) p)
    (unclear : p.b.modes.clear ≡ false) (h : HasJustOpened start (turns ++ turn ∷ [])) (few : OpensWithFewLost start (turns ++ turn ∷ []) h) where
  at_side : (s : Side) → OwesAtMost start plan most (OwesAlong start s) (turns ++ turn ∷ [])
  at_side A = record { debts = length few.lost; owes = a_owes_records_first start plan turns turn one p here unclear h.now few.lost few.well; few = few.few }
  at_side B = record { debts = 0; owes = b_owes_none_first start plan turns turn one p here unclear h.now; few = omega arith }

pub opens_with_few_so : OpensWithFewSo
opens_with_few_so start plan most one records s turns h = by (paths_open_by_clearing start plan turns one h)
  where
    by : OpensByClearing start turns → OwesAtMost start plan most (OwesAlong start s) turns
    by c = subst (λ ts. (now : HasJustOpened start ts) → OpensWithFewLost start ts now → OwesAtMost start plan most (OwesAlong start s) ts) (sym c.is)
        (λ now few. at_side start plan most one c.before c.turn c.path c.here c.unclear now few s) h (records turns h)
