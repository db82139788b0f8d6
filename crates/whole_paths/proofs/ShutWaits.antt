-- A window that is shut as a round is over opens in time, or something is counted.
use Rattle.std.proofs.Common.{◌≡◌, sym, subst, ap, ◌⊎◌, ⊎_elim, inl, inr, ℕ, ◌+◌, ◌<◌, ◌≤◌, arith, List, [], ◌∷◌, ◌++◌}
use Rattle.sides.specs.declared.side.Side.{Side}
use Rattle.actor_desk.specs.Books.{books_in}
use Rattle.path_core.specs.State.{PathState}
use Rattle.path_core.specs.Values.{Carried, values}
use Rattle.world_laws.specs.Members.{HoldsOfKind}
use Rattle.world_laws.specs.Openings.{PathPlan, Start, opened_world}
use Rattle.world_laws.specs.Promises.{written_by}
use Rattle.world_laws.specs.RoundDone.{reached}
use Rattle.world_laws.specs.RoundNumbers.{BeginsRound}
use Rattle.world_laws.specs.Worlds.{Turn, WorldState}
use Rattle.whole_paths.specs.Acknowledged.{AllIsAcknowledged, GrantedIsAcknowledged}
use Rattle.whole_paths.specs.Courses.{counted, round_end}
use Rattle.whole_paths.specs.GoingOn.{steps_of}
use Rattle.whole_paths.specs.Halted.{IsHalted}
use Rattle.whole_paths.specs.Mild.{IsMildStart}
use Rattle.whole_paths.specs.RecordWaits.{Opens}
use Rattle.whole_paths.specs.ShutWaits.{ShutWindowsOpenInTime}
use Rattle.whole_paths.specs.ShutWindows.{HasRoomForMore, IsShutOut}
use Rattle.whole_paths.specs.Straying.{IsOpen}
use Rattle.whole_paths.specs.WholeCourses.{HasAShutEnd}
use Rattle.whole_paths.specs.WindowWaits.{AwaitsAWindow, WindowsAreAwaited}
use Rattle.whole_paths.proofs.Acknowledged.{what_was_granted_is_acknowledged}
use Rattle.whole_paths.proofs.RecordWaits.{path_is}
use Rattle.whole_paths.proofs.RoundBegins.{no_round_counts}
use Rattle.whole_paths.proofs.ShutWindows.{shut_windows_have_room}
use Rattle.whole_paths.proofs.Standing.{MemberServes, Serves, opened_serves, run_serves}
use Rattle.whole_paths.proofs.WindowWaits.{windows_are_awaited_always}

module _ (start : Start) (plan : PathPlan) (most : ℕ) (one : start.paths ≡ plan ∷ []) (mild : IsMildStart start) (size : 32 ≤ start.buffer) where
  windows : WindowsAreAwaited IsHalted start (λ turns. Unit {0}) most
  windows = windows_are_awaited_always start plan most one mild

  module _ (since : List Turn) (order : List ℕ) (u : List Turn) (begin : BeginsRound values start (reached values start since)) (step : Opens start most (since ++ steps_of order) u)
      (h : HasAShutEnd start (since ++ steps_of order)) where
    abbrev v : List Turn
    v = since ++ steps_of order

    abbrev w : WorldState Carried
    w = reached values start v

    abbrev p : PathState Carried
    p = h.sender.path

    abbrev s : Side
    s = h.sender.side

    is_open : IsOpen p
    is_open = subst IsOpen (path_is w step.before.path p step.before.here h.sender.here) step.before.is_open

    abbrev out : IsShutOut start v
    out = record { path = p; here = h.sender.here; is_open = is_open; side = s; may = h.may; none = h.none; granted = h.empty; shut = h.shut }

    serves : Serves values p
    serves = subst (λ m. MemberServes values m) h.sender.here.is ((run_serves values v (opened_world start) (opened_serves values start plan one)).each 2 h.sender.here.crew h.sender.here.there)

    untried : AllIsAcknowledged 0 (written_by s w)
    untried = subst (λ n. AllIsAcknowledged n (written_by s w)) serves.number
        (subst (HoldsOfKind (λ app. Unit {0}) (GrantedIsAcknowledged w)) h.sender.here.is ((what_was_granted_is_acknowledged start v mild.plain.size).each 2 h.sender.here.crew h.sender.here.there) s h.empty)

    halted : HasRoomForMore out → IsHalted (books_in w.books) s p
    halted room = record { shut = h.shut; left = room.left; untried = untried }

    waits : (counted values start since < counted values start u) ⊎ AwaitsAWindow IsHalted start (round_end values start v + 60800) u
    waits = ⊎_elim
        (λ rises. inl (let same = ap (counted values start) step.is in let still = no_round_counts start 0 v step.over in omega (arith, rises, same, still)))
        (λ room. inr (windows.begins v u step tt (record {
          path = p;
          here = h.sender.here;
          side = s;
          no_record = h.none;
          halted = halted room;
          takes = room.takes;
          room = h.room;
        })))
        (shut_windows_have_room start plan since order one mild size begin step.over out)

pub shut_windows_open_in_time : ShutWindowsOpenInTime
shut_windows_open_in_time start plan most one mild size = record {
  begins = λ since order v u is begin. subst (λ v. Opens start most v u → HasAShutEnd start v → (counted values start since < counted values start u) ⊎ AwaitsAWindow IsHalted start (round_end values start v + 60800) u)
      (sym is) (λ step h. waits start plan most one mild size since order u begin step h);
  on = λ n x v u step low h. ⊎_elim (λ rises. inl (omega (arith, low, rises))) (λ still. inr still) ((windows start plan most one mild size).on x v u step tt h);
  next = λ n x v u step low h. ⊎_elim (λ rises. inl (omega (arith, low, rises))) (λ still. inr still) ((windows start plan most one mild size).next x v u step tt h);
  due = λ n x v u step low h late. absurd ((windows start plan most one mild size).due x v u step h late);
}
