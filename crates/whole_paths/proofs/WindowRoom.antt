-- An unfinished peer has no more outstanding than the window; what a finished one sent came, all but its FIN.
use Rattle.std.proofs.Common.{ℕ, suc, ◌≡◌, refl, sym, subst, ap, ◌∙◌, ◌+◌, ◌≤◌, arith, Bool, true, false, true≢false, List, [], ◌∷◌, length, length-append}
use Rattle.octet_text.specs.Prefix.{IsPrefix}
use Rattle.sides.specs.declared.side.Side.{Side}
use Rattle.sides.specs.declared.side.Side.TheVariants.{A, B}
use Rattle.sides.specs.Side.{peer}
use Rattle.subflow_tcp.specs.States.{is_dead}
use Rattle.stream_lanes.proofs.MarkLists.{count_within}
use Rattle.actor_desk.specs.Words.{pick}
use Rattle.path_core.specs.State.{PathState, end_at, path_of}
use Rattle.path_core.specs.Values.{Carried, values}
use Rattle.world_laws.specs.Members.{HoldsOfKind}
use Rattle.world_laws.specs.Openings.{PathPlan, Start}
use Rattle.world_laws.specs.Promises.{written_by}
use Rattle.world_laws.specs.RoundDone.{reached}
use Rattle.world_laws.specs.Worlds.{Turn, WorldState}
use Rattle.world_laws.proofs.Lanes.Showing.{is_unfinished}
use Rattle.world_laws.proofs.Worlds.CastLifting.{writes_the_files}
use Rattle.whole_paths.specs.Came.{HasCome}
use Rattle.whole_paths.specs.Delivery.{FinishedIsThere, HasFinished, IsAllThere}
use Rattle.whole_paths.specs.Finish.{IsPathAt}
use Rattle.whole_paths.specs.GrantedPositions.{SendsWhatIsGranted}
use Rattle.whole_paths.specs.Mild.{IsMildStart}
use Rattle.whole_paths.specs.News.{one_if}
use Rattle.whole_paths.specs.Overruns.{StaysWithin}
use Rattle.whole_paths.specs.PositionCounts.{CountsBytes}
use Rattle.whole_paths.specs.WindowRoom.{EachWindowHasRoom, LivingWindowsHaveRoom, OnePathIsRoomy, ShortFilesAreRoomy, UnfinishedWindowsHaveRoom}
use Rattle.whole_paths.proofs.EdgesStay.{sent_fin}
use Rattle.whole_paths.proofs.Arrivals.{sender_of}
use Rattle.whole_paths.proofs.Came.{what_is_acknowledged_came}
use Rattle.whole_paths.proofs.Exchanges.{Shown, each_shown}
use Rattle.whole_paths.proofs.FinishedThere.{what_is_finished_is_there}
use Rattle.whole_paths.proofs.GrantedPositions.{paths_send_what_is_granted}
use Rattle.whole_paths.proofs.OpenCourses.{IsFirstPath, each_first}
use Rattle.whole_paths.proofs.Overruns.{each_end_stays_within}
use Rattle.whole_paths.proofs.PositionCounts.{positions_count_bytes}
use Rattle.whole_paths.proofs.TriedBytes.{marks_are_whole}

-- no more is written than the file has
pub written_fits : (start : Start) (turns : List Turn) (s : Side) → length (written_by s (reached values start turns)).written ≤ length (pick s start.file_a start.file_b)
written_fits start turns = elim [ A ↦ prefix_long _ _ (writes_the_files values start turns).a.prefix | B ↦ prefix_long _ _ (writes_the_files values start turns).b.prefix ]
  where
    prefix_long : (xs ys : List ℕ) → IsPrefix xs ys → length xs ≤ length ys
    prefix_long xs ys h = (let whole = ap (λ (zs : List ℕ). length zs) h.whole_is in omega (arith, whole, length-append xs h.rest))

-- a living end that sent its FIN has finished
pub sent_its_fin : (start : Start) (p : PathState Carried) → IsFirstPath start p → (s : Side) → is_dead (end_at s p).tcp.state ≡ false → (end_at s p).tcp.send.finished ≡ true → HasFinished (end_at s p)
sent_its_fin start p first s living sent = HasFinished.sent_fin (sent_fin (end_at s p).tcp.state (by (is_unfinished (end_at s p).tcp.state) refl) living) living
  where
    by : (b : Bool) → is_unfinished (end_at s p).tcp.state ≡ b → b ≡ false
    by false is = refl
    by true is = absurd (true≢false (sym sent ∙ first.unfinished s is))

-- what an unfinished end of any path sent
unfinished_from : (start : Start) (turns : List Turn) → IsMildStart start → (number : ℕ) (p : PathState Carried) → IsPathAt number (reached values start turns) p
    → ((s : Side) → is_dead (end_at s p).tcp.state ≡ false) → (u : Side) → (end_at u p).tcp.send.finished ≡ false → (end_at u p).tcp.send.nxt ≤ (end_at (peer u) p).tcp.recv.edge + 1048576
unfinished_from start turns mild number p here lives u unsent =
    let within = subst (HoldsOfKind (λ app. Unit {0}) StaysWithin) here.is (each_end_stays_within start turns mild (2 + number) here.crew here.there) u in
    let none : one_if (end_at u p).tcp.send.finished ≡ 0 = ap one_if unsent in
    let came = (subst (HoldsOfKind (λ app. Unit {0}) HasCome) here.is ((what_is_acknowledged_came start turns).each (2 + number) here.crew here.there)).una u (lives u) in
    omega (arith, within, none, came)

module _ (start : Start) (plan : PathPlan) (turns : List Turn) (one : start.paths ≡ plan ∷ []) (mild : IsMildStart start) (p : PathState Carried) (here : IsPathAt 0 (reached values start turns) p)
    (lives : (s : Side) → is_dead (end_at s p).tcp.state ≡ false) where
  abbrev w : WorldState Carried
  w = reached values start turns

  of_path : (P : PathState Carried → Type 0) → HoldsOfKind (λ app. Unit {0}) P here.crew.member → P p
  of_path P h = subst (HoldsOfKind (λ app. Unit {0}) P) here.is h

  first : IsFirstPath start p
  first = of_path (IsFirstPath start) (each_first start turns mild.plain.size here.crew here.there)

  counts : (s : Side) → CountsBytes w p s
  counts = of_path (λ (p : PathState Carried). (s : Side) → CountsBytes w p s) ((positions_count_bytes start turns plan one mild).each 2 here.crew here.there)

  from_end : (u : Side) → (end_at u p).tcp.send.nxt ≤ (end_at (peer u) p).tcp.recv.edge + 1048576
  from_end u = by (end_at u p).tcp.send.finished refl
    where
      by : (b : Bool) → (end_at u p).tcp.send.finished ≡ b → (end_at u p).tcp.send.nxt ≤ (end_at (peer u) p).tcp.recv.edge + 1048576
      by false unsent = unfinished_from start turns mild 0 p here lives u unsent
      by true sent =
          let all : IsAllThere u w = of_path (FinishedIsThere w) (what_is_finished_is_there start plan turns one mild 2 here.crew here.there) u (sent_its_fin start p first u (lives u) sent) in
          let there = all.received in let most = (counts u).most in let came = (counts u).came in omega (arith, there, most, came)

  leaves : (s : Side) → (end_at (peer s) p).tcp.send.nxt ≤ (end_at s p).tcp.recv.edge + 1048576
  leaves s = subst (λ u. (end_at (peer s) p).tcp.send.nxt ≤ (end_at u p).tcp.recv.edge + 1048576) (sender_of s) (from_end (peer s))

pub living_windows_have_room : LivingWindowsHaveRoom
living_windows_have_room start plan turns one mild p here lives s = leaves start plan turns one mild p here lives s

pub each_window_has_room : EachWindowHasRoom
each_window_has_room start plan turns x p here opened s = leaves start plan turns x.one x.mild p here opened.living s

pub unfinished_windows_have_room : UnfinishedWindowsHaveRoom
unfinished_windows_have_room start turns mild number p here lives s unsent =
    subst (λ u. (end_at (peer s) p).tcp.send.nxt ≤ (end_at u p).tcp.recv.edge + 1048576) (sender_of s) (unfinished_from start turns mild number p here lives (peer s) unsent)

pub one_path_is_roomy : OnePathIsRoomy
one_path_is_roomy start plan x = record { mild = x.mild; room = λ turns p here lives. living_windows_have_room start plan turns x.one x.mild p here lives }

-- no more bytes are granted to a path than the side's file has
module _ (start : Start) (mild : IsMildStart start) (turns : List Turn) (p : PathState Carried) (here : IsPathAt 0 (reached values start turns) p) where
  granted_of : (u : Side) → (end_at u p).tcp.send.nxt ≤ suc (suc (length (pick u start.file_a start.file_b)))
  granted_of u =
      let few = (subst (HoldsOfKind (λ app. Unit {0}) (SendsWhatIsGranted (reached values start turns))) here.is ((paths_send_what_is_granted start turns mild.plain.size).each 2 here.crew here.there)) u in
      let most = count_within (path_of p) (written_by u (reached values start turns)).marks in
      let whole = marks_are_whole start turns mild.plain.size u in let fits = written_fits start turns u in omega (arith, few, most, whole, fits)

pub short_files_are_roomy : ShortFilesAreRoomy
short_files_are_roomy start mild short = record {
  mild = mild;
  room = λ turns p here lives s. (
      let few = granted_of start mild turns p here (peer s) in let small = short (peer s) in
      let some = (subst (HoldsOfKind (λ app. Unit {0}) Shown) here.is (each_shown start turns mild.plain.size mild.fit 2 here.crew here.there)).edge s in omega (arith, few, small, some));
}
