-- Where a window is shut as a round is over, all before its edge was acknowledged, and so received and read.
use Rattle.std.proofs.Common.{◌≡◌, refl, sym, subst, ◌⊎◌, inl, inr, ⊎_elim, ℕ, ◌<◌, ◌≤◌, arith, true, false, Option, Some, None, List, [], ◌∷◌, ◌++◌, length}
use Rattle.std.specs.List.{slice_get}
use Rattle.std.proofs.lemmas.Bool.{both_ways, cases_lt}
use Rattle.sides.specs.declared.side.Side.{Side}
use Rattle.sides.specs.declared.side.Side.TheVariants.{A, B}
use Rattle.sides.specs.Side.{peer}
use Rattle.send_book.specs.State.{acked_len}
use Rattle.reassembly_book.specs.State.{received}
use Rattle.actor_desk.specs.Books.{books_in}
use Rattle.actor_desk.specs.Words.{pick}
use Rattle.path_core.specs.Emission.{may_ask}
use Rattle.path_core.specs.State.{end_at}
use Rattle.path_core.specs.Values.{Carried, values}
use Rattle.world_laws.specs.Actors.{ActorCrew, is_over}
use Rattle.world_laws.specs.Members.{HoldsOfKind}
use Rattle.world_laws.specs.Openings.{PathPlan, Start, opened_world}
use Rattle.world_laws.specs.Outcomes.{notes_of, output_of, tells_stop, was_told}
use Rattle.world_laws.specs.Promises.{arrived_at, written_by}
use Rattle.world_laws.specs.RoundDone.{reached}
use Rattle.world_laws.specs.RoundNumbers.{BeginsRound, after_steps, steps_since}
use Rattle.world_laws.specs.Worlds.{Turn, WorldState, all_over, goes, is_going}
use Rattle.world_laws.proofs.Promises.Made.{keep_their_word}
use Rattle.world_laws.proofs.Rounds.Lifting.{all_over_each}
use Rattle.world_laws.proofs.Rounds.ReadAll.{readers_caught_up}
use Rattle.world_laws.proofs.Weaving.WholeRounds.{run_append}
use Rattle.whole_paths.specs.Courses.{counted}
use Rattle.whole_paths.specs.GoingOn.{steps_of}
use Rattle.whole_paths.specs.Mild.{IsMildStart}
use Rattle.whole_paths.specs.News.{Gains}
use Rattle.whole_paths.specs.Room.{HasWindows}
use Rattle.whole_paths.specs.Shut.{IsSentToTheEdge, LeavesNothingBeforeTheEdge}
use Rattle.whole_paths.specs.Shut.{IsSentToTheEdge as edges}
use Rattle.whole_paths.specs.ShutWindows.{HasRoomForMore, IsShutOut, ShutWindowsHaveRoom}
use Rattle.whole_paths.proofs.Delivery.{bounds_at}
use Rattle.whole_paths.proofs.GoingOn.{gains_count}
use Rattle.whole_paths.proofs.InTime.{nil_so}
use Rattle.whole_paths.proofs.Offered.{what_is_taken_is_offered}
use Rattle.whole_paths.proofs.OnePath.{what_is_left_is_past_the_edge}
use Rattle.whole_paths.proofs.Room.{who_is_done_may_ask}
use Rattle.whole_paths.proofs.Standing.{never_on_standby}
use Rattle.whole_paths.proofs.Unstopped.{mild_paths_are_never_stopped}

-- an actor whose turn is over doesn't go
pub not_going : (actor : ℕ) (w : WorldState Carried) → all_over w.crew ≡ true → is_going actor w ≡ false
not_going actor w over = by (slice_get w.crew actor) refl
  where
    by : (o : Option (ActorCrew Carried)) → slice_get w.crew actor ≡ o → goes o ≡ false
    by None there = refl
    by (Some c) there = rw (all_over_each w.crew actor c over there) refl

module _ (start : Start) (plan : PathPlan) (since : List Turn) (order : List ℕ) (one : start.paths ≡ plan ∷ []) (mild : IsMildStart start) (buffer : 32 ≤ start.buffer) (begin : BeginsRound values start (reached values start since))
    (over : all_over (reached values start (since ++ steps_of order)).crew ≡ true) (h : IsShutOut start (since ++ steps_of order)) where
  abbrev turns : List Turn
  turns = since ++ steps_of order

  abbrev was : WorldState Carried
  was = reached values start since

  abbrev w : WorldState Carried
  w = reached values start turns

  abbrev s : Side
  s = h.side

  abbrev Counted : Type 0
  Counted = counted values start since < counted values start turns

  ended : w ≡ after_steps values order was
  ended = run_append values since (steps_of order) (opened_world start)

  gains : (t : Side) → Gains t (books_in was.books) (books_in w.books) → Counted
  gains t gain = gains_count start since (steps_of order) t gain

  silent : h.path.agenda ≡ []
  silent = nil_so h.path.agenda (subst (λ m. is_over m ≡ true) h.here.is (all_over_each w.crew 2 h.here.crew over h.here.there))

  asks : may_ask h.path.profile s (end_at s h.path) ≡ true
  asks =
      let windows : HasWindows h.path = subst (HoldsOfKind (λ app. Unit {0}) HasWindows) h.here.is (who_is_done_may_ask start turns mild.plain.size mild.fit 2 h.here.crew h.here.there) in
      windows.unsent s h.may (h.is_open.clear s) h.none

  -- all is acknowledged up to the edge that the window had as the round began, or all that was written then
  sent : IsSentToTheEdge s (steps_since 2 was w) (written_by s was) (end_at s h.path) (written_by s w)
  sent = subst (λ (v : WorldState Carried). LeavesNothingBeforeTheEdge was v h.path) (sym ended)
      (subst (HoldsOfKind (λ app. Unit {0}) (LeavesNothingBeforeTheEdge was (after_steps values order was))) h.here.is
      (what_is_left_is_past_the_edge start plan was order one mild.plain.size mild.fit begin h.here.crew (subst (λ (v : WorldState Carried). slice_get v.crew 2 ≡ Some h.here.crew) ended h.here.there)))
      silent s asks h.granted

  -- the reader of the peer's side has read all that had arrived as the round began
  caught_up : received (arrived_at (peer s) was) ≤ (arrived_at (peer s) w).read
  caught_up = ⊎_elim
      (λ read. (let output = (bounds_at start turns mild s).output in
      let same : received (arrived_at (peer s) was) ≤ length (output_of (peer s) w) = subst (λ (v : WorldState Carried). received (arrived_at (peer s) was) ≤ length (output_of (peer s) v)) (sym ended) read in omega (arith, same, output)))
      (λ stopped. absurd (both_ways _ (subst (λ (v : WorldState Carried). was_told tells_stop (notes_of (peer s) v.crew) ≡ false) ended ((mild_paths_are_never_stopped start plan turns one mild).told (peer s))) stopped))
      (readers_caught_up values start was order begin (peer s) (not_going (pick (peer s) 0 1) (after_steps values order was) (subst (λ (v : WorldState Carried). all_over v.crew ≡ true) ended over)))

  acked_received : (t : Side) → acked_len (written_by t w).marks ≤ received (arrived_at (peer t) w)
  acked_received A = (keep_their_word start turns mild.plain).ab.acked
  acked_received B = (keep_their_word start turns mild.plain).ba.acked

  size : (arrived_at (peer s) w).capacity ≡ start.buffer
  size = (what_is_taken_is_offered values).sizes start turns (peer s)

  abbrev Room : Type 0
  Room = Counted ⊎ HasRoomForMore h

  room_by : IsSentToTheEdge s (steps_since 2 was w) (written_by s was) (end_at s h.path) (written_by s w) → Room
  room_by (edges.acknowledged is_open low) = absurd (both_ways (end_at s h.path).sending.shut is_open h.shut)
  room_by (edges.shut is low more fits) = ⊎_elim (λ rose. inl (gains s (Gains.opens rose)))
      (λ still. ⊎_elim (λ came. inl (gains (peer s) (Gains.receives came)))
      (λ none. inr (record {
        left = omega (arith, fits, still, more);
        takes = (let got = acked_received s in omega (arith, low, still, got, none, caught_up, size, buffer));
      }))
      (cases_lt (received (arrived_at (peer s) was)) (received (arrived_at (peer s) w))))
      (cases_lt (written_by s was).edge (written_by s w).edge)
  room_by (edges.standby stands) = absurd (both_ways _ (never_on_standby values start plan turns one 2 s was) stands)
  room_by (edges.stopped stop) = absurd (both_ways _ ((mild_paths_are_never_stopped start plan turns one mild).send s) stop)

  have_room : Room
  have_room = room_by sent

pub shut_windows_have_room : ShutWindowsHaveRoom
shut_windows_have_room start plan since order one mild buffer begin over h = have_room start plan since order one mild buffer begin over h
