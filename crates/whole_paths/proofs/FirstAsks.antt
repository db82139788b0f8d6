-- As long as A's end of path 0 may send no DSS, something of B's is outstanding there as a round is over, once B's application wrote or closed its
-- stream: no other path takes bytes.
use Rattle.std.proofs.Common.{◌≡◌, refl, sym, subst, ap, ◌∙◌, ⊎_elim, ℕ, zero, suc, ◌≤◌, arith, cond, Bool, true, false, Some, List, [], ◌∷◌, ◌++◌, count_by, length}
use Rattle.std.specs.List.{slice_get}
use Rattle.std.proofs.lemmas.Bool.{both_ways}
use Rattle.std.proofs.lemmas.List.Sums.{sum_by-cons}
use Rattle.sides.specs.declared.side.Side.TheVariants.{B}
use Rattle.send_book.specs.declared.mark.ByteMark.{ByteMark}
use Rattle.send_book.specs.declared.mark.ByteMark.TheVariants.{Acked, Free, Held}
use Rattle.send_book.specs.Marks.{is_acked, is_held_by, is_untouched}
use Rattle.send_book.specs.State.{acked_len}
use Rattle.send_book.proofs.Grants.{spent}
use Rattle.stream_lanes.proofs.MarkLists.{untouched_unspent}
use Rattle.subflow_tcp.specs.States.{may_finish}
use Rattle.path_store.specs.declared.granted_piece.GrantedPiece.{GrantedPiece}
use Rattle.path_core.specs.Emission.{may_ask}
use Rattle.path_core.specs.Modes.{sends_plainly}
use Rattle.path_core.specs.State.{PathState}
use Rattle.path_core.specs.Values.{Carried, values}
use Rattle.world_laws.specs.Members.{HoldsOfKind}
use Rattle.world_laws.specs.Openings.{Start, opened_world}
use Rattle.world_laws.specs.Promises.{written_by}
use Rattle.world_laws.specs.RoundDone.{reached}
use Rattle.world_laws.specs.RoundNumbers.{BeginsRound, after_steps}
use Rattle.world_laws.specs.Worlds.{Turn, WorldState, all_over}
use Rattle.world_laws.proofs.Weaving.WholeRounds.{run_append}
use Rattle.whole_paths.specs.AsFar.{stage}
use Rattle.whole_paths.specs.BookNews.{byte_news}
use Rattle.whole_paths.specs.Delivery.{FinishedIsThere, HasFinished}
use Rattle.whole_paths.specs.Finish.{IsPathAt}
use Rattle.whole_paths.specs.GoingOn.{steps_of}
use Rattle.whole_paths.specs.Holders.{holds, let_go}
use Rattle.whole_paths.specs.KnownEnds.{ClosedIsAcknowledged}
use Rattle.whole_paths.specs.Mild.{EndsGoByMappings, IsMildStart}
use Rattle.whole_paths.specs.MissingBytes.{IsMissing}
use Rattle.whole_paths.specs.MissingBytes.{IsMissing as missing}
use Rattle.whole_paths.specs.OpeningCourses.{HasBegun}
use Rattle.whole_paths.specs.OpeningWaits.{IsAlive}
use Rattle.whole_paths.specs.Reasons.{IsOutstanding}
use Rattle.whole_paths.specs.Room.{HasWindows}
use Rattle.whole_paths.specs.Serving.{ServesAt}
use Rattle.whole_paths.proofs.FinishedThere.{each_finished_is_there}
use Rattle.whole_paths.proofs.FirstWindows.{b_is_idle_before, few}
use Rattle.whole_paths.proofs.GoingOn.{NothingLeft, left_or, open_behind, plain_none, prefix_up, sides_far}
use Rattle.whole_paths.proofs.KnownEnds.{what_is_closed_is_acknowledged}
use Rattle.whole_paths.proofs.LoneFirst.{unjoined_so}
use Rattle.whole_paths.proofs.Mild.{mapping_is_kept}
use Rattle.whole_paths.proofs.MissingBytes.{what_is_missing_is_awaited}
use Rattle.whole_paths.proofs.Opened.{b_missing}
use Rattle.whole_paths.proofs.PositionCounts.{first_counts_bytes, first_is_untouched}
use Rattle.whole_paths.proofs.Room.{who_is_done_may_ask}
use Rattle.whole_paths.proofs.Serving.{who_serves_asks_so}
use Rattle.whole_paths.proofs.Unstopped.{sides_are_never_stopped}

-- ---- bytes that no path tried

abbrev AreUntouched : List ByteMark → Type 0
AreUntouched marks = (place : ℕ) (mark : ByteMark) → slice_get marks place ≡ Some mark → is_untouched mark ≡ true

none_counts : (t : ByteMark → Bool) → ((mark : ByteMark) → is_untouched mark ≡ true → t mark ≡ false) → (marks : List ByteMark) → AreUntouched marks → count_by t marks ≡ 0
none_counts t none [] all = refl
none_counts t none (m ∷ marks) all =
    let first = ap (λ b. cond {A = ℕ} b 1 0) (none m (all 0 m refl)) in let rest = none_counts t none marks (λ place mark there. all (suc place) mark there) in
    omega (arith, first, rest, sum_by-cons (λ (y : ByteMark). cond (t y) 1 0) m marks)

untouched_unacked : (mark : ByteMark) → is_untouched mark ≡ true → is_acked mark ≡ false
untouched_unacked Acked new = cc
untouched_unacked (Held holder among) new = refl
untouched_unacked (Free among) new = refl

untouched_unheld : (path : ℕ) (mark : ByteMark) → is_untouched mark ≡ true → is_held_by path mark ≡ false
untouched_unheld path Acked new = cc
untouched_unheld path (Held holder among) new = cc
untouched_unheld path (Free among) new = refl

untouched_ungone : (path : ℕ) (mark : ByteMark) → is_untouched mark ≡ true → let_go path (Some mark) ≡ false
untouched_ungone path Acked new = cc
untouched_ungone path (Held holder among) new = cc
untouched_ungone path (Free among) new = untouched_unspent path (Free among) new

-- nothing became of them
no_news : (paths : ℕ) (marks : List ByteMark) → AreUntouched marks → byte_news paths marks ≡ 0
no_news zero marks all = none_counts is_acked untouched_unacked marks all
no_news (suc path) marks all =
    let rest = no_news path marks all in
    let taken = none_counts (λ m. spent path (Some m)) (untouched_unspent path) marks all in
    let back = none_counts (λ m. let_go path (Some m)) (untouched_ungone path) marks all in
    omega (arith, rest, taken, back)

item_within : (marks : List ByteMark) → 1 ≤ length marks → (mark : ByteMark) × (slice_get marks 0 ≡ Some mark)
item_within [] some = absurd (omega (arith, some))
item_within (m ∷ marks) some = (m, refl)

-- ---- as a round is over

module _ (start : Start) (mild : IsMildStart start) (some : 1 ≤ start.buffer) (serves : (turns : List Turn) → ServesAt 0 (reached values start turns))
    (since : List Turn) (order : List ℕ) (begin : BeginsRound values start (reached values start since)) (over : all_over (reached values start (since ++ steps_of order)).crew ≡ true)
    (p : PathState Carried) (here : IsPathAt 0 (reached values start (since ++ steps_of order)) p) (alive : IsAlive p) (silent : p.agenda ≡ [])
    (past : 3 ≤ stage p.b.tcp.state) (unclear : p.a.modes.clear ≡ false) (clear : p.b.modes.clear ≡ true) (none : p.b.tcp.send.records ≡ []) where
  abbrev turns : List Turn
  turns = since ++ steps_of order

  abbrev begun : WorldState Carried
  begun = reached values start since

  abbrev w : WorldState Carried
  w = reached values start turns

  ended : w ≡ after_steps values order begun
  ended = run_append values since (steps_of order) (opened_world start)

  never_finished : HasFinished p.b → ⊥
  never_finished done =
      b_missing start mild turns p here alive unclear ((subst (HoldsOfKind (λ app. Unit {0}) (FinishedIsThere w)) here.is (each_finished_is_there start turns mild 2 here.crew here.there)) B done)

  may : may_finish p.b.tcp.state ≡ true
  may = by (may_finish p.b.tcp.state) refl
    where
      by : (b : Bool) → may_finish p.b.tcp.state ≡ b → b ≡ true
      by true is = refl
      by false behind = absurd (never_finished (HasFinished.sent_fin (open_behind p.b.tcp.state past (alive.living B) behind) (alive.living B)))

  kept : EndsGoByMappings p
  kept = subst (HoldsOfKind (λ app. Unit {0}) EndsGoByMappings) here.is ((mapping_is_kept start turns mild).each 2 here.crew here.there)

  maps : sends_plainly p.b.modes ≡ false
  maps = plain_none p.b (kept B).identity (kept B).own

  unstopped : (written_by B w).aborted ≡ false
  unstopped = (sides_are_never_stopped start turns mild).send B

  -- none of its bytes was tried
  untouched : AreUntouched (written_by B w).marks
  untouched place mark there =
      let alone = unjoined_so start turns p here unclear in
      let taken = (first_counts_bytes start turns mild alone p here B).taken in let low = few start mild some turns p here alive unclear none in
      first_is_untouched start turns mild alone p here B place mark (omega (arith, taken, low)) there

  module _ (left : NothingLeft p.b (acked_len (written_by B w).marks) (length (written_by B w).written)) where
    -- where its stream was closed the DATA_FIN is acknowledged
    not_closed : (written_by B begun).closed ≡ true → ⊥
    not_closed closed = ⊎_elim
        (λ acked. never_finished (HasFinished.acknowledged acked))
        (λ stop. both_ways _ (subst (λ (v : WorldState Carried). (written_by B v).aborted ≡ false) ended unstopped) stop)
        (ends silent B closed may clear maps left.records left.end)
      where
        ends : ClosedIsAcknowledged begun (after_steps values order begun) p
        ends = subst (HoldsOfKind (λ app. Unit {0}) (ClosedIsAcknowledged begun (after_steps values order begun))) here.is
            (what_is_closed_is_acknowledged start begun order mild.plain.size mild.fit begin 2 here.crew (ap (λ (v : WorldState Carried). slice_get v.crew 2) (sym ended) ∙ here.there))

    -- where it had bytes the first one is missing
    not_written : 1 ≤ length (written_by B begun).written → ⊥
    not_written had = by (subst (λ (v : WorldState Carried). all_over v.crew ≡ true → IsPathAt 0 v p → slice_get (written_by B v).marks 0 ≡ Some first.0 → IsMissing start B 0 0 begun v p) (sym ended)
        (λ over here there. what_is_missing_is_awaited start since order mild begin over 0 p here B asks 0 (omega (arith, had)) first.0 there unacked) over here first.1)
      where
        more : length (written_by B begun).written ≤ length (written_by B w).written
        more = prefix_up (written_by B begun).written (written_by B w).written (sides_far start since (steps_of order) B).send.written

        first : (mark : ByteMark) × (slice_get (written_by B w).marks 0 ≡ Some mark)
        first = let marked = (first_counts_bytes start turns mild (unjoined_so start turns p here unclear) p here B).marked in let up = more in item_within (written_by B w).marks (omega (arith, had, up, marked))

        new : is_untouched first.0 ≡ true
        new = untouched 0 first.0 first.1

        unacked : is_acked first.0 ≡ false
        unacked = untouched_unacked first.0 new

        asks : may_ask p.profile B p.b ≡ true
        asks =
            let windows : HasWindows p = subst (HoldsOfKind (λ app. Unit {0}) HasWindows) here.is (who_is_done_may_ask start turns mild.plain.size mild.fit 2 here.crew here.there) in
            windows.unsent B may clear none

        idle : (p.b.sending.granted ≡ []) × (p.b.sending.shut ≡ false)
        idle = b_is_idle_before start turns mild some p here alive silent unclear clear none

        served : (ts us : List Turn) → ts ++ us ≡ turns → ServesAt 0 (reached values start ts)
        served ts us is = serves ts

        by : IsMissing start B 0 0 begun w p → ⊥
        by (missing.counts up) = let news = no_news (length start.paths) (written_by B w).marks untouched in omega (arith, news, up)
        by (missing.own h) = let found = ap (λ (gs : List GrantedPiece). slice_get gs h.piece.at) (sym idle.0) ∙ h.piece.there in cc
        by (missing.lent other q apart at lent) = both_ways (is_held_by other first.0) (untouched_unheld other first.0 new) (ap (holds other) (sym first.1) ∙ lent.held)
        by (missing.shut is low) = both_ways p.b.sending.shut idle.1 is
        by (missing.standby is) = both_ways _ (who_serves_asks_so start 0 turns served begun B) is

  pub b_has_something : HasBegun begun → IsOutstanding p.b
  b_has_something had = ⊎_elim
      (λ some. some.outstanding)
      (λ left. absurd (⊎_elim (λ closed. not_closed left closed) (λ bytes. not_written left bytes) had))
      (left_or p.b (acked_len (written_by B w).marks) (length (written_by B w).written) (kept B).identity (kept B).own)
