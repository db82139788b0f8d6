-- An open end of the only path, of which something is outstanding as a round is over, waits for a record, an answer or a window.
use Rattle.std.proofs.Common.{◌≡◌, refl, sym, subst, ap, ◌∙◌, inl, inr, ◌⊎◌, ⊎_elim, ℕ, ◌+◌, ◌<◌, ◌≤◌, arith, Bool, true, false, true≢false, is_some, IfSome, Option, Some, None, List, [], ◌∷◌, ◌++◌, length}
use Rattle.std.specs.List.{AllByRecursion, slice_get}
use Rattle.std.proofs.lemmas.Bool.{both_ways, cases_lt}
use Rattle.sides.specs.declared.side.Side.{Side}
use Rattle.sides.specs.declared.side.Side.TheVariants.{A, B}
use Rattle.sides.specs.Side.{peer}
use Rattle.send_book.specs.State.{acked_len}
use Rattle.reassembly_book.specs.State.{received}
use Rattle.subflow_send.specs.Records.{Record}
use Rattle.subflow_tcp.specs.States.{may_finish}
use Rattle.actor_desk.specs.Books.{books_in}
use Rattle.actor_desk.specs.Desk.{SixBooks}
use Rattle.path_store.specs.declared.granted_piece.GrantedPiece.{GrantedPiece}
use Rattle.path_core.specs.End.{PathEnd}
use Rattle.path_core.specs.MpJoin.{is_joined}
use Rattle.path_core.specs.State.{PathState, end_at}
use Rattle.path_core.specs.Values.{Carried, values}
use Rattle.world_laws.specs.Actors.{is_over}
use Rattle.world_laws.specs.Members.{HoldsOfKind}
use Rattle.world_laws.specs.Openings.{PathPlan, Start, opened_world}
use Rattle.world_laws.specs.Promises.{arrived_at, written_by}
use Rattle.world_laws.specs.RoundDone.{reached}
use Rattle.world_laws.specs.RoundNumbers.{BeginsRound, after_steps, last_on_standby, steps_since}
use Rattle.world_laws.specs.Worlds.{Turn, WorldState, all_over}
use Rattle.world_laws.proofs.Promises.Made.{keep_their_word}
use Rattle.world_laws.proofs.Rounds.Lifting.{all_over_each}
use Rattle.world_laws.proofs.Weaving.WholeRounds.{run_append}
use Rattle.whole_paths.specs.Acknowledged.{IdleIsAcknowledged, IsAllAcknowledged}
use Rattle.whole_paths.specs.Courses.{counted}
use Rattle.whole_paths.specs.Delivery.{FinishedIsThere, HasFinished, IsAllThere}
use Rattle.whole_paths.specs.GoingOn.{steps_of}
use Rattle.whole_paths.specs.Mild.{IsMildStart}
use Rattle.whole_paths.specs.News.{Gains, one_if}
use Rattle.whole_paths.specs.OpenAsks.{IsUnansweredAt}
use Rattle.whole_paths.specs.OpenAsks.IsUnanswered.{data_fin, bytes}
use Rattle.whole_paths.specs.Outstanding.{HasOutstanding, WaitsForOne, WhatIsOutstandingIsAwaited}
use Rattle.whole_paths.specs.Outstanding.{WaitsForOne as waits}
use Rattle.whole_paths.specs.Reasons.{IsOutstanding}
use Rattle.whole_paths.specs.Reasons.{IsOutstanding as outstanding}
use Rattle.whole_paths.specs.Received.{GrantedIsReceived}
use Rattle.whole_paths.proofs.Endings.{BothKnowTheirEnd, KnowsItsEnd}
use Rattle.whole_paths.proofs.FinishedThere.{what_is_finished_is_there}
use Rattle.whole_paths.proofs.GoingOn.{gains_count, open_behind}
use Rattle.whole_paths.proofs.InTime.{nil_so}
use Rattle.whole_paths.proofs.OnePath.{what_idle_ends_wrote_is_acknowledged}
use Rattle.whole_paths.proofs.OpenAsks.{AsksForItself, EndsAskForThemselves, ends_ask_for_themselves}
use Rattle.whole_paths.proofs.OpenPieces.{AgreesWith, EndsAgreeWith, each_knows, ends_agree}
use Rattle.whole_paths.proofs.Received.{granted_is_received}
use Rattle.whole_paths.proofs.Standing.{never_on_standby}
use Rattle.whole_paths.proofs.Unstopped.{mild_paths_are_never_stopped}

-- nothing but the DATA_FIN
only_end : (joined : Bool) (e : PathEnd) → KnowsItsEnd e → AsksForItself joined e.modes.owes_third e.notices.carrier → joined ≡ false → e.tcp.send.records ≡ [] → e.sending.granted ≡ [] → e.sending.shut ≡ false → IsOutstanding e
    → (e.sending.fin_sent ≡ true) × (e.sending.close.own_acked ≡ false)
only_end joined e knows alone first none empty unshut (outstanding.on_subflow r others is) = let never : [] ≡ r ∷ others = sym none ∙ is in cc
only_end joined e knows alone first none empty unshut (outstanding.on_stream g others is) = let never : [] ≡ g ∷ others = sym empty ∙ is in cc
only_end joined e knows alone first none empty unshut (outstanding.data_fin identity infinite sent unacked) = (sent, unacked)
only_end joined e knows alone first none empty unshut (outstanding.shut is) = absurd (both_ways e.sending.shut unshut is)
only_end joined e knows alone first none empty unshut (outstanding.third is) = absurd (both_ways joined first (alone.third is))
only_end joined e knows alone first none empty unshut (outstanding.fast_close is) = absurd (alone.carries (knows.closed is))

module _ (start : Start) (plan : PathPlan) (since : List Turn) (order : List ℕ) (one : start.paths ≡ plan ∷ []) (mild : IsMildStart start) (begin : BeginsRound values start (reached values start since))
    (over : all_over (reached values start (since ++ steps_of order)).crew ≡ true) (h : HasOutstanding start (since ++ steps_of order)) where
  abbrev turns : List Turn
  turns = since ++ steps_of order

  abbrev begun : WorldState Carried
  begun = reached values start since

  abbrev w : WorldState Carried
  w = reached values start turns

  abbrev six : SixBooks
  six = books_in w.books

  abbrev p : PathState Carried
  p = h.path

  abbrev s : Side
  s = h.side

  abbrev e : PathEnd
  e = end_at s p

  abbrev Goal : Type 0
  Goal = (counted values start since < counted values start turns) ⊎ WaitsForOne start turns h

  ended : w ≡ after_steps values order begun
  ended = run_append values since (steps_of order) (opened_world start)

  then_there : slice_get (after_steps values order begun).crew 2 ≡ Some h.here.crew
  then_there = ap (λ (v : WorldState Carried). slice_get v.crew 2) (sym ended) ∙ h.here.there

  of_path : (P : PathState Carried → Type 0) → HoldsOfKind (λ app. Unit {0}) P h.here.crew.member → P p
  of_path P holds = subst (HoldsOfKind (λ app. Unit {0}) P) h.here.is holds

  agenda : p.agenda ≡ []
  agenda = nil_so p.agenda (subst (λ m. is_over m ≡ true) h.here.is (all_over_each w.crew 2 h.here.crew over h.here.there))

  knows : (t : Side) → KnowsItsEnd (end_at t p)
  knows = (subst (HoldsOfKind (λ app. Unit {0}) BothKnowTheirEnd) h.here.is (each_knows start turns mild.plain.size 2 h.here.crew h.here.there)).knows

  agrees : AgreesWith (written_by s w) e.sending
  agrees = (of_path (EndsAgreeWith w) (ends_agree start turns mild.plain.size 2 h.here.crew h.here.there)).ends s

  alone : EndsAskForThemselves p
  alone = of_path EndsAskForThemselves (ends_ask_for_themselves start turns mild 2 h.here.crew h.here.there)

  answers : (place : ℕ) (fin : Bool) → e.tcp.send.records ≡ [] → IsUnansweredAt six s place fin p → place ≤ received (arrived_at (peer s) w) + one_if fin → Goal
  answers place fin none still has = inr (waits.answer (record { path = p; here = h.here; side = s; place = place; fin = fin; none = none; unanswered = still; has = has; room = h.room }))

  -- ---- bytes

  by_piece : e.tcp.send.records ≡ [] → (g : GrantedPiece) (others : List GrantedPiece) → e.sending.granted ≡ g ∷ others → Goal
  by_piece none g others is = answers g.to false none
      (bytes refl (record { at = 0; item = g; there = there; holds = omega arith }) (subst (λ gs. AllByRecursion (λ (piece : GrantedPiece). e.sending.heard < piece.to) gs) is (knows s).open_pieces).0)
      (let has = (whole s (h.is_open.living s) none).each 0 g there in omega (arith, has))
    where
      there : slice_get e.sending.granted 0 ≡ Some g
      there = ap (λ gs. slice_get gs 0) is

      whole : GrantedIsReceived w p
      whole = of_path (GrantedIsReceived w) ((granted_is_received start turns plan one mild).each 2 h.here.crew h.here.there)

  -- ---- the DATA_FIN

  module _ (none : e.tcp.send.records ≡ []) (empty : e.sending.granted ≡ []) (unshut : e.sending.shut ≡ false) (sent : e.sending.fin_sent ≡ true) (unacked : e.sending.close.own_acked ≡ false)
      (n : ℕ) (ends : (written_by s w).closed ≡ true) (same : n ≡ length (written_by s w).written) where
    by_received : length (written_by s w).written ≤ received (arrived_at (peer s) w) → Goal
    by_received all = answers (n + 1) true none (data_fin refl (omega (arith, same)) sent unacked) (omega (arith, same, all))

    acked_received : (t : Side) → acked_len (written_by t w).marks ≤ received (arrived_at (peer t) w)
    acked_received A = (keep_their_word start turns mild.plain).ab.acked
    acked_received B = (keep_their_word start turns mild.plain).ba.acked

    finished : may_finish e.tcp.state ≡ false → Goal
    finished behind =
        let all : IsAllThere s w = of_path (FinishedIsThere w) (what_is_finished_is_there start plan turns one mild 2 h.here.crew h.here.there) s
        (HasFinished.sent_fin (open_behind e.tcp.state (h.is_open.past s) (h.is_open.living s) behind) (h.is_open.living s)) in
        by_received (let came = all.received in omega (arith, came))

    -- what was written as the round began is acknowledged
    by_acked : length (written_by s begun).written ≤ acked_len (written_by s w).marks → Goal
    by_acked low = ⊎_elim
        (λ more. inl (gains_count start since (steps_of order) s (Gains.writes more)))
        (λ few. by_received (let came = acked_received s in omega (arith, low, few, came)))
        (cases_lt (length (written_by s begun).written) (length (written_by s w).written))

    idle : may_finish e.tcp.state ≡ true → Goal
    idle may = by (of_path (IdleIsAcknowledged begun (after_steps values order begun)) (what_idle_ends_wrote_is_acknowledged start plan begun order one mild.plain.size mild.fit begin h.here.crew then_there)
        agenda s may (h.is_open.clear s) (record { records = none; pieces = empty; open_window = unshut }))
      where
        by : IsAllAcknowledged s (steps_since 2 begun (after_steps values order begun)) (length (written_by s begun).written) (written_by s (after_steps values order begun)) → Goal
        by (IsAllAcknowledged.acknowledged low) = by_acked (subst (λ (v : WorldState Carried). length (written_by s begun).written ≤ acked_len (written_by s v).marks) (sym ended) low)
        by (IsAllAcknowledged.standby stands) =
            absurd (both_ways _ (subst (λ (v : WorldState Carried). last_on_standby s false (steps_since 2 begun v) ≡ false) ended (never_on_standby values start plan turns one 2 s begun)) stands)
        by (IsAllAcknowledged.stopped stop) =
            absurd (both_ways _ (subst (λ (v : WorldState Carried). (written_by s v).aborted ≡ false) ended ((mild_paths_are_never_stopped start plan turns one mild).send s)) stop)

    end_waits : Goal
    end_waits = by (may_finish e.tcp.state) refl
      where
        by : (m : Bool) → may_finish e.tcp.state ≡ m → Goal
        by false behind = finished behind
        by true may = idle may

  by_end : e.tcp.send.records ≡ [] → e.sending.granted ≡ [] → e.sending.shut ≡ false → Goal
  by_end none empty unshut = by e.sending.known_end ((knows s).ended only.0) agrees.ends
    where
      only : (e.sending.fin_sent ≡ true) × (e.sending.close.own_acked ≡ false)
      only = only_end (is_joined p.profile) e (knows s) (alone s) h.is_open.first none empty unshut h.outstanding

      by : (o : Option ℕ) → is_some o ≡ true → IfSome o (λ n. ((written_by s w).closed ≡ true) × (n ≡ length (written_by s w).written)) → Goal
      by None some ends = absurd (true≢false (sym some))
      by (Some n) some ends = end_waits none empty unshut only.0 only.1 n ends.0 ends.1

  by_shut : e.tcp.send.records ≡ [] → e.sending.granted ≡ [] → (b : Bool) → e.sending.shut ≡ b → Goal
  by_shut none empty true is = inr (waits.window none empty is)
  by_shut none empty false is = by_end none empty is

  by_granted : e.tcp.send.records ≡ [] → (gs : List GrantedPiece) → e.sending.granted ≡ gs → Goal
  by_granted none [] is = by_shut none is e.sending.shut refl
  by_granted none (g ∷ others) is = by_piece none g others is

  by_records : (rs : List Record) → e.tcp.send.records ≡ rs → Goal
  by_records [] is = by_granted is e.sending.granted refl
  by_records (r ∷ others) is = inr (waits.piece r others is)

pub what_is_outstanding_is_awaited : WhatIsOutstandingIsAwaited
what_is_outstanding_is_awaited start plan since order one mild begin over h =
    by_records start plan since order one mild begin over h (end_at h.side h.path).tcp.send.records refl
