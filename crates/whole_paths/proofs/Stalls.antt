-- A stream stalls at a window that is shut alone: in four rounds all is acknowledged that came, in the next one the application writes more, and as the
-- one after that is over all is sent that may be.
use Rattle.std.proofs.Common.{◌≡◌, refl, sym, subst, ap, ⊎_elim, ◌<◌, ◌≤◌, arith, true, Some, List, [], ◌∷◌, length}
use Rattle.std.specs.List.{slice_get}
use Rattle.std.proofs.lemmas.Bool.{cases_lt}
use Rattle.sides.specs.declared.side.Side.{Side}
use Rattle.sides.specs.Side.{peer}
use Rattle.send_book.specs.State.{acked_len}
use Rattle.reassembly_book.specs.State.{received}
use Rattle.subflow_send.specs.Records.{Record}
use Rattle.subflow_tcp.specs.States.{may_finish}
use Rattle.path_core.specs.State.{PathState, end_at}
use Rattle.path_core.specs.Values.{Carried, values}
use Rattle.world_laws.specs.Members.{HoldsOfKind}
use Rattle.world_laws.specs.Openings.{PathPlan, Start}
use Rattle.world_laws.specs.Promises.{arrived_at, written_by}
use Rattle.world_laws.specs.RoundDone.{reached}
use Rattle.world_laws.specs.RoundNumbers.{taken_len}
use Rattle.world_laws.specs.Worlds.{Turn, WorldState}
use Rattle.world_laws.proofs.Worlds.CastLifting.{Has}
use Rattle.whole_paths.specs.Delivery.{IsAllThere}
use Rattle.whole_paths.specs.Finish.{IsPathAt}
use Rattle.whole_paths.specs.Mending.{IsToldSoon}
use Rattle.whole_paths.specs.OnePathScripts.{BeginsWithOnePath}
use Rattle.whole_paths.specs.Pushed.{IsPushed}
use Rattle.whole_paths.specs.SegmentRounds.{IsRound, Rounds, written_after}
use Rattle.whole_paths.specs.SentInOrder.{sent_up_to}
use Rattle.whole_paths.specs.Stalls.{GoesOnOrStalls, WhoStallsIsShut}
use Rattle.whole_paths.specs.Straying.{IsOpen}
use Rattle.whole_paths.proofs.AckedData.{four_rounds_acknowledge}
use Rattle.whole_paths.proofs.FlightsGo.{begun_goes}
use Rattle.whole_paths.proofs.OnePath.{Alone, always_alone, nothing_written}
use Rattle.whole_paths.proofs.Pushed.{Known, what_has_room_is_sent}
use Rattle.whole_paths.proofs.Reached.{EndsAreReached, first_reached}
use Rattle.whole_paths.proofs.ReadSegments.{is_known, is_reached, open_at}
use Rattle.whole_paths.proofs.RecordWaits.{path_is}
use Rattle.whole_paths.proofs.RoundSteps.{Between, IsPathThere, begins_so, begun, between, ended, far, one_between, open_first, path_there, same_books, silent, then_between, wrote}
use Rattle.whole_paths.proofs.SegmentRounds.{counts, if_may, path_far, stays_there, tell, una_up, unfinished}

-- no byte past the edge of the peer's window is acknowledged
acked_low : (start : Start) (plan : PathPlan) (turns : List Turn) → BeginsWithOnePath start plan → (s : Side) → acked_len (written_by s (reached values start turns)).marks ≤ (written_by s (reached values start turns)).edge
acked_low start plan turns x s =
    let alone : Has start (Alone (nothing_written values start)) (reached values start turns) = always_alone values start plan x.one turns in
    subst (λ (w : WorldState Carried). acked_len (written_by s w).marks ≤ (written_by s w).edge) (sym alone.is) (alone.holds.books s).in_turn.fits

module _ (start : Start) (plan : PathPlan) (x : BeginsWithOnePath start plan) (s : Side) (v a b u : List Turn) (first : Rounds start 4 v a) (second : IsRound start a b) (third : IsRound start b u)
    (p q : PathState Carried) (here : IsPathAt 0 (reached values start v) p) (there : IsPathAt 0 (reached values start u) q) (told : IsToldSoon s p) where
  abbrev at : List Turn → WorldState Carried
  at turns = reached values start turns

  abbrev Goal : Type 0
  Goal = GoesOnOrStalls start s p q u

  to_a : Between start v a
  to_a = between start 3 v a first

  a_to_b : Between start a b
  a_to_b = one_between start a b second

  b_to_u : Between start b u
  b_to_u = one_between start b u third

  a_to_u : Between start a u
  a_to_u = then_between start a b u a_to_b b_to_u

  told_path : IsPathThere start a
  told_path = path_there start v a to_a

  opened : IsOpen q
  opened = open_at start plan x s b u b_to_u q there

  opened_first : IsOpen p
  opened_first = let o = open_first start v to_a.more to_a.stays_open in subst IsOpen (path_is (at v) o.path p o.here here) o.is_open

  stays : (t : List Turn) → Between start t u → IsAllThere s (at t) → Goal
  stays t more all = GoesOnOrStalls.there (stays_there start x.mild t u s more all)

  module _ (heard : (end_at (peer s) p).tcp.recv.edge ≤ (end_at s told_path.path).tcp.send.una) (acked : received (arrived_at (peer s) (at v)) ≤ acked_len (written_by s (at a)).marks)
      (may_first : may_finish (end_at s p).tcp.state ≡ true) (may : may_finish (end_at s q).tcp.state ≡ true)
      (none_came : (end_at (peer s) q).tcp.recv.edge ≤ (end_at (peer s) p).tcp.recv.edge) (all_came : sent_up_to (end_at s q).tcp.send ≤ (end_at (peer s) q).tcp.recv.edge) where
    now : Known q.profile s (end_at s q) (taken_len 0 (written_by s (at u)).marks)
    now = is_known start plan x s u q there opened third.over may

    lined : EndsAreReached q
    lined = is_reached start plan x s u q there opened third.over may

    una : (end_at (peer s) p).tcp.recv.edge ≤ (end_at s q).tcp.send.una
    una = let up = una_up start x.mild s told_path.path q (path_far start x.mild a u told_path.path q a_to_u told_path.here there) in omega (arith, heard, up)

    no_records : (end_at s q).tcp.send.records ≡ []
    no_records = by (end_at s q).tcp.send.records refl
      where
        by : (rs : List Record) → (end_at s q).tcp.send.records ≡ rs → (end_at s q).tcp.send.records ≡ []
        by [] is = is
        by (r ∷ others) is =
            let left = now.first r others is in
            let low = first_reached (end_at s q).tcp r others (lined s) is in
            let goes = begun_goes q.profile s (end_at s q) _ now (lined s) 0 r (ap (λ rs. slice_get rs 0) is) low in
            let high = una in absurd (omega (arith, left, goes, high, none_came, all_came))

    pushed : IsPushed q.profile (end_at s q) (written_by s (begun start b u third))
    pushed =
        let at_end = subst (λ (w : WorldState Carried). slice_get w.crew 2 ≡ Some there.crew) (ended start b u third) there.there in
        subst (HoldsOfKind (λ app. Unit {0}) (λ (z : PathState Carried). IsOpen z → z.agenda ≡ [] → (t : Side) → may_finish (end_at t z).tcp.state ≡ true → IsPushed z.profile (end_at t z) (written_by t (begun start b u third)))) there.is
        (what_has_room_is_sent start plan (begun start b u third) third.order x.one x.mild (begins_so start b u third) there.crew at_end)
        opened (silent start u q third.over there) s may

    same_written : length (written_by s (begun start b u third)).written ≡ written_after start s b
    same_written = same_books start b u third (λ w. length (written_by s w).written ≡ written_after start s b) (λ w is. is) refl

    -- all that is written is acknowledged: so it is the whole file
    whole : length (written_by s (begun start b u third)).written < sent_up_to (end_at s q).tcp.send → Goal
    whole more =
        let wrote_so = wrote start x.mild a b second s in
        let exact = (counts start plan x v p here s).exact (unfinished start x.mild v p here s may_first) in
        let same = same_written in
        let buffer = x.buffer in
        let low = acked_low start plan a x s in
        let edge = ((far start a u a_to_u).sides s).send.edge in GoesOnOrStalls.fits (omega (arith, more, wrote_so, exact, same, buffer, low, edge, acked, none_came, all_came))

    stalls : IsPushed q.profile (end_at s q) (written_by s (begun start b u third)) → Goal
    stalls (IsPushed.full more) = let window = now.window in let small = now.small in let high = una in absurd (omega (arith, more, window, small, high, none_came, all_came))
    stalls (IsPushed.all more) = whole more
    stalls (IsPushed.shut is more) = GoesOnOrStalls.shut no_records is

  goes_or_stalls : Goal
  goes_or_stalls = if_may start x.mild Goal v p here opened_first s (stays v (then_between start v a u to_a a_to_u)) (λ may_first. ⊎_elim (stays a a_to_u)
      (λ heard. ⊎_elim (stays a a_to_u) (λ acked. if_may start x.mild Goal u q there opened s (λ all. GoesOnOrStalls.there all) (λ may. ⊎_elim (λ more. GoesOnOrStalls.comes more)
      (λ none. ⊎_elim (λ more. GoesOnOrStalls.flies more) (λ all. stalls heard acked may_first may none all (pushed heard acked may_first may none all)) (cases_lt (end_at (peer s) q).tcp.recv.edge (sent_up_to (end_at s q).tcp.send)))
      (cases_lt (end_at (peer s) p).tcp.recv.edge (end_at (peer s) q).tcp.recv.edge)))
      (four_rounds_acknowledge start plan v a x first s p here told))
      (tell start x.mild v a first s p told_path.path here told_path.here told))

pub who_stalls_is_shut : WhoStallsIsShut
who_stalls_is_shut start plan x s v a b u first second third p q here there told = goes_or_stalls start plan x s v a b u first second third p q here there told
