-- Once all of a stream is read its writer closes it, and its end, of which nothing waits to be acknowledged, sends the DATA_FIN.
use Rattle.std.proofs.Common.{◌≡◌, ◌⊎◌, refl, sym, subst, ap, ◌∙◌, inl, ⊎_elim, ℕ, ◌<◌, ◌≤◌, arith, Bool, true, false, true≢false, is_some, Option, Some, List, [], ◌∷◌, length, length-append}
use Rattle.std.specs.List.{slice_get}
use Rattle.std.proofs.lemmas.Bool.{both_ways}
use Rattle.sides.specs.declared.side.Side.{Side}
use Rattle.sides.specs.declared.side.Side.TheVariants.{A, B}
use Rattle.sides.specs.Side.{peer}
use Rattle.octet_text.specs.Prefix.{IsPrefix}
use Rattle.send_book.specs.State.{acked_len}
use Rattle.subflow_send.specs.Records.{Record}
use Rattle.subflow_tcp.specs.States.{may_finish}
use Rattle.actor_desk.specs.Words.{pick}
use Rattle.path_core.specs.Modes.{sends_plainly}
use Rattle.path_core.specs.State.{PathState, end_at}
use Rattle.path_core.specs.Values.{Carried, values}
use Rattle.world_laws.specs.Members.{HoldsOfKind}
use Rattle.world_laws.specs.Openings.{PathPlan, Start}
use Rattle.world_laws.specs.Promises.{written_by}
use Rattle.world_laws.specs.RoundDone.{reached}
use Rattle.world_laws.specs.RoundNumbers.{after_steps}
use Rattle.world_laws.specs.Worlds.{Turn, WorldState}
use Rattle.world_laws.proofs.Worlds.CastLifting.{writes_the_files}
use Rattle.whole_paths.specs.DataLeft.{HasDataLeft}
use Rattle.whole_paths.specs.Delivery.{FinishedIsThere, HasFinished, IsAllThere}
use Rattle.whole_paths.specs.EndRounds.{AnEndIsTold, EndIsKnown, FinIsSent, IsClosed}
use Rattle.whole_paths.specs.Finish.{IsPathAt}
use Rattle.whole_paths.specs.KnownEnds.{ClosedIsAcknowledged, EndIsAcknowledged, WaitsForNoEnd}
use Rattle.whole_paths.specs.Mild.{EndsGoByMappings, GoesByMappings}
use Rattle.whole_paths.specs.Mending.{IsToldSoon}
use Rattle.whole_paths.specs.OnePathScripts.{BeginsWithOnePath}
use Rattle.whole_paths.specs.SegmentRounds.{IsRound, Rounds, read_after}
use Rattle.whole_paths.specs.Writers.{GoesOnWriting}
use Rattle.whole_paths.proofs.DataLeft.{what_is_left_is_data}
use Rattle.whole_paths.proofs.FinishedThere.{what_is_finished_is_there}
use Rattle.whole_paths.proofs.KnownEnds.{what_is_closed_is_acknowledged}
use Rattle.whole_paths.proofs.Mild.{mapping_is_kept}
use Rattle.whole_paths.proofs.RecordWaits.{path_is}
use Rattle.whole_paths.proofs.RoundSteps.{Between, IsPathThere, begins_so, begun, between, ended, far, goes_on_writing, one_between, path_there, same_books, silent, then_between}
use Rattle.whole_paths.proofs.SegmentRounds.{counts, if_may, of_path, path_far, stays_there, tell, una_up, unfinished}
use Rattle.whole_paths.proofs.Unstopped.{mild_paths_are_never_stopped}

known_so : (o : Option ℕ) (n : ℕ) → o ≡ Some n → is_some o ≡ true
known_so o n is = ap (λ x. is_some x) is

module _ (start : Start) (plan : PathPlan) (x : BeginsWithOnePath start plan) (s : Side) (v a b u : List Turn)
    (first : Rounds start 5 v a) (second : Rounds start 2 a b) (third : Rounds start 4 b u) (p : PathState Carried) (here : IsPathAt 0 (reached values start v) p) (mended : IsToldSoon s p ⊎ IsAllThere s (reached values start v))
    (all_read : length (pick s start.file_a start.file_b) ≤ read_after start s v) (all_acked : length (pick s start.file_a start.file_b) ≤ acked_len (written_by s (reached values start a)).marks)
    (comes : FinIsSent start s b → EndIsKnown start s u) where
  abbrev total : ℕ
  total = length (pick s start.file_a start.file_b)

  abbrev written_at : List Turn
  written_at = second.0

  writes : IsRound start a written_at
  writes = subst (λ t. IsRound start t written_at) (sym second.1.0.1.0) second.1.0.1.1

  sends : IsRound start written_at b
  sends = second.1.1

  -- the file is written, so the stream is closed
  few_written : (turns : List Turn) → length (written_by s (reached values start turns)).written ≤ total
  few_written turns = by s
    where
      prefix_len : (xs ys : List ℕ) → IsPrefix xs ys → length xs ≤ length ys
      prefix_len xs ys h = (let whole = ap (λ (zs : List ℕ). length zs) h.whole_is in omega (arith, whole, length-append xs h.rest))

      by : (t : Side) → length (written_by t (reached values start turns)).written ≤ length (pick t start.file_a start.file_b)
      by A = prefix_len _ _ (writes_the_files values start turns).a.prefix
      by B = prefix_len _ _ (writes_the_files values start turns).b.prefix

  closed_then : IsClosed start s written_at
  closed_then = by (goes_on_writing start x.mild a written_at writes s)
    where
      by : GoesOnWriting (pick s start.file_a start.file_b) start.buffer (acked_len (written_by s (reached values start a)).marks) (written_by s (reached values start written_at)) → IsClosed start s written_at
      by (GoesOnWriting.whole is closed) = closed
      by (GoesOnWriting.more low) = absurd (let few = few_written written_at in let buffer = x.buffer in omega (arith, low, few, all_acked, buffer))
      by (GoesOnWriting.stopped is) = absurd (both_ways _ ((mild_paths_are_never_stopped start plan written_at x.one x.mild).send s) is)

  closed_last : IsClosed start s b
  closed_last = ((far start written_at b (one_between start written_at b sends)).sides s).send.closed closed_then

  abbrev heard_at : List Turn
  heard_at = first.0

  to_heard : Between start v heard_at
  to_heard = between start 3 v heard_at first.1.0

  to_sent : Between start heard_at b
  to_sent = then_between start heard_at a b (one_between start heard_at a first.1.1) (between start 1 a b second)

  to_known : Between start b u
  to_known = between start 3 b u third

  told_path : IsPathThere start heard_at
  told_path = path_there start v heard_at to_heard

  sent_path : IsPathThere start b
  sent_path = path_there start heard_at b to_sent

  abbrev q : PathState Carried
  q = sent_path.path

  abbrev Goal : Type 0
  Goal = EndIsKnown start s u

  -- where all is there the end is known
  there_known : IsAllThere s (reached values start b) → Goal
  there_known all = known_so _ _ (stays_there start x.mild b u s to_known all).known

  module _ (una : (end_at (peer s) p).tcp.recv.edge ≤ (end_at s told_path.path).tcp.send.una) (may : may_finish (end_at s q).tcp.state ≡ true) where
    none_left : (end_at s q).tcp.send.records ≡ []
    none_left = by (end_at s q).tcp.send.records refl
      where
        by : (rs : List Record) → (end_at s q).tcp.send.records ≡ rs → (end_at s q).tcp.send.records ≡ []
        by [] is = is
        by (r ∷ others) is = absurd (
            let none = unfinished start x.mild b q sent_path.here s may in
            let left_data = of_path start x.mild b q HasDataLeft sent_path.here (what_is_left_is_data start b x.mild.plain.size x.mild.fit sent_path.here.crew sent_path.here.there) s (sent_path.is_open.past s) (sent_path.is_open.living s) (inl none) r others is in
            let left = left_data.left in
            let within = left_data.within in
            let came = (counts start plan x v p here s).came in
            let later = una_up start x.mild s told_path.path q (path_far start x.mild heard_at b told_path.path q to_sent told_path.here sent_path.here) in
            let few = few_written b in
            let most = (counts start plan x b q sent_path.here s).within none in omega (arith, left, within, came, una, later, few, most, all_read))

    sent_or_known : ((end_at s q).sending.fin_sent ≡ true → Goal) → Goal
    sent_or_known goes = by (end_at s q).sending.fin_sent refl
      where
        by_mappings : GoesByMappings q.profile (end_at s q)
        by_mappings = of_path start x.mild b q EndsGoByMappings sent_path.here ((mapping_is_kept start b x.mild).each 2 sent_path.here.crew sent_path.here.there) s

        maps : sends_plainly (end_at s q).modes ≡ false
        maps = rw (by_mappings.identity, by_mappings.own) refl

        acked : WaitsForNoEnd (end_at s q) → EndIsAcknowledged (written_by s (after_steps values sends.order (begun start written_at b sends))) (end_at s q)
        acked none =
            let there = subst (λ (w : WorldState Carried). slice_get w.crew 2 ≡ Some sent_path.here.crew) (ended start written_at b sends) sent_path.here.there in
            let closed = same_books start written_at b sends (λ w. (written_by s w).closed ≡ true) (λ w is. is) closed_then in
            subst (HoldsOfKind (λ app. Unit {0}) (ClosedIsAcknowledged (begun start written_at b sends) (after_steps values sends.order (begun start written_at b sends)))) sent_path.here.is
            (what_is_closed_is_acknowledged start (begun start written_at b sends) sends.order x.mild.plain.size x.mild.fit (begins_so start written_at b sends) 2 sent_path.here.crew there)
            (silent start b q sends.over sent_path.here) s closed may (sent_path.is_open.clear s) maps none_left none

        by : (c : Bool) → (end_at s q).sending.fin_sent ≡ c → Goal
        by true is = goes is
        by false is = ⊎_elim
            (λ own. there_known (of_path start x.mild b q (FinishedIsThere (reached values start b)) sent_path.here (what_is_finished_is_there start plan b x.one x.mild 2 sent_path.here.crew sent_path.here.there) s (HasFinished.acknowledged own)))
            (λ stop. absurd (both_ways _ (subst (λ (w : WorldState Carried). (written_by s w).aborted ≡ false) (ended start written_at b sends) ((mild_paths_are_never_stopped start plan b x.one x.mild).send s)) stop))
            (acked (λ sent unacked. true≢false (sym sent ∙ is)))

  -- behind bytes that are all acknowledged
  sent_behind : (end_at (peer s) p).tcp.recv.edge ≤ (end_at s told_path.path).tcp.send.una → (end_at s q).sending.fin_sent ≡ true → FinIsSent start s b
  sent_behind una sent z there = subst (λ (y : PathState Carried). ((end_at s y).sending.fin_sent ≡ true) × (total < (end_at s y).tcp.send.una)) (path_is (reached values start b) q z sent_path.here there) (sent, acked)
    where
      acked : total < (end_at s q).tcp.send.una
      acked =
          let came = (counts start plan x v p here s).came in
          let later = una_up start x.mild s told_path.path q (path_far start x.mild heard_at b told_path.path q to_sent told_path.here sent_path.here) in omega (arith, came, una, later, all_read)

  known_last : Goal
  known_last = ⊎_elim
      (λ all. there_known (stays_there start x.mild heard_at b s to_sent all))
      (λ una. if_may start x.mild Goal b q sent_path.here sent_path.is_open s there_known (λ may. sent_or_known una may (λ sent. comes (sent_behind una sent))))
      (⊎_elim (λ told. tell start x.mild v heard_at first.1.0 s p told_path.path here told_path.here told) (λ all. inl (stays_there start x.mild v heard_at s to_heard all)) mended)

pub an_end_is_told : AnEndIsTold
an_end_is_told start plan x s v a b u first second third p here mended all_read all_acked comes = record {
  closed = closed_last start plan x s v a b u first second third p here mended all_read all_acked comes;
  known = known_last start plan x s v a b u first second third p here mended all_read all_acked comes;
}
