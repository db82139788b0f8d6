-- What an open end without a record waits for is received by then, or the peer's window is shut.
use Rattle.std.proofs.Common.{◌≡◌, refl, sym, subst, ap, ◌∙◌, ℕ, ◌+◌, ◌<◌, ◌≤◌, arith, Bool, true, false, true≢false, Option, Some, None, is_some, IfSome, List, [], ◌∷◌, length}
use Rattle.std.specs.List.{AllByRecursion, slice_get}
use Rattle.std.proofs.lemmas.Bool.{both_ways}
use Rattle.sides.specs.declared.side.Side.{Side}
use Rattle.sides.specs.declared.side.Side.TheVariants.{A, B}
use Rattle.sides.specs.Side.{peer}
use Rattle.send_book.specs.State.{acked_len}
use Rattle.reassembly_book.specs.State.{received}
use Rattle.subflow_tcp.specs.States.{may_finish}
use Rattle.actor_desk.specs.Books.{books_in}
use Rattle.path_store.specs.declared.granted_piece.GrantedPiece.{GrantedPiece}
use Rattle.path_core.specs.End.{PathEnd}
use Rattle.path_core.specs.MpJoin.{is_joined}
use Rattle.path_core.specs.State.{PathState, end_at}
use Rattle.path_core.specs.Values.{Carried, values}
use Rattle.world_laws.specs.declared.member.Member.TheVariants.{App, Path}
use Rattle.world_laws.specs.Actors.{Actor, ActorCrew}
use Rattle.world_laws.specs.Members.{HoldsOfKind}
use Rattle.world_laws.specs.Openings.{PathPlan, Start, opened_world}
use Rattle.world_laws.specs.Outcomes.{notes_at}
use Rattle.world_laws.specs.Promises.{arrived_at, written_by}
use Rattle.world_laws.specs.RoundNumbers.{last_on_standby}
use Rattle.world_laws.specs.Worlds.{WorldState, Turn, world_run}
use Rattle.world_laws.proofs.Promises.Made.{keep_their_word}
use Rattle.whole_paths.specs.Acknowledged.{IsAllAcknowledged}
use Rattle.whole_paths.specs.AwaitedThere.{AwaitedIsThere, WaitsForWhatIsThere, WhatIsAwaitedIsThere}
use Rattle.whole_paths.specs.AwaitedThere.{WaitsForWhatIsThere as waits}
use Rattle.whole_paths.specs.Delivery.{FinishedIsThere, HasFinished}
use Rattle.whole_paths.specs.EndedStreams.{EndedIsAcknowledged}
use Rattle.whole_paths.specs.OpenAsks.IsUnanswered.{data_fin, bytes}
use Rattle.whole_paths.specs.Reasons.{IsOutstanding}
use Rattle.whole_paths.specs.Reasons.{IsOutstanding as outstanding}
use Rattle.whole_paths.specs.Received.{GrantedIsReceived}
use Rattle.whole_paths.specs.Room.{HasWindows}
use Rattle.whole_paths.specs.Mild.{IsMildStart}
use Rattle.whole_paths.specs.Straying.{IsOpen}
use Rattle.whole_paths.specs.Unstopped.{NothingIsStopped}
use Rattle.whole_paths.proofs.EndedStreams.{what_ended_is_acknowledged}
use Rattle.whole_paths.proofs.Endings.{BothKnowTheirEnd}
use Rattle.whole_paths.proofs.FinishedThere.{what_is_finished_is_there}
use Rattle.whole_paths.proofs.GoingOn.{open_behind}
use Rattle.whole_paths.proofs.OpenAsks.{EndsAskForThemselves, ends_ask_for_themselves}
use Rattle.whole_paths.proofs.OpenPieces.{EndsAgreeWith, each_knows, ends_agree}
use Rattle.whole_paths.proofs.Received.{granted_is_received}
use Rattle.whole_paths.proofs.Room.{who_is_done_may_ask}
use Rattle.whole_paths.proofs.Standing.{never_on_standby}
use Rattle.whole_paths.proofs.Unstopped.{mild_paths_are_never_stopped}

abbrev OfPaths : (PathState Carried → Type 0) → Actor Carried → Type 0
OfPaths P = HoldsOfKind (λ app. Unit {0}) P

-- what is known of a path whose turn is over, and of the world
record IsKnown (w : WorldState Carried) (p : PathState Carried) : Type 0 where
  opened : IsOpen p
  over : p.agenda ≡ []
  granted : GrantedIsReceived w p
  knows : BothKnowTheirEnd p
  agrees : EndsAgreeWith w p
  alone : EndsAskForThemselves p
  windows : HasWindows p
  ended : EndedIsAcknowledged w p
  finished : FinishedIsThere w p
  stands : (s : Side) → last_on_standby s false (notes_at 2 w.crew) ≡ false
  stopped : NothingIsStopped w
  acked : (s : Side) → acked_len (written_by s w).marks ≤ received (arrived_at (peer s) w)

module _ (w : WorldState Carried) (p : PathState Carried) (k : IsKnown w p) (s : Side) (none : (end_at s p).tcp.send.records ≡ []) where
  abbrev e : PathEnd
  e = end_at s p

  abbrev Waits : Type 0
  Waits = WaitsForWhatIsThere (books_in w.books) s p

  -- for a piece
  for_bytes : (g : GrantedPiece) (gs : List GrantedPiece) → e.sending.granted ≡ g ∷ gs → Waits
  for_bytes g gs is =
      let first : slice_get e.sending.granted 0 ≡ Some g = ap (λ (xs : List GrantedPiece). slice_get xs 0) is in
      let there = (k.granted s (k.opened.living s) none).each 0 g first in
      waits.asks g.to false (bytes refl (record { at = 0; item = g; there = first; holds = omega arith })
      (subst (λ xs. AllByRecursion (λ (piece : GrantedPiece). e.sending.heard < piece.to) xs) is (k.knows.knows s).open_pieces).0) (omega (arith, there))

  -- all of the stream is received
  all_there : (n : ℕ) → e.sending.known_end ≡ Some n → n ≡ length (written_by s w).written → e.sending.granted ≡ [] → e.sending.shut ≡ false → n ≤ received (arrived_at (peer s) w)
  all_there n known whole no_piece unshut = by (may_finish e.tcp.state) refl
    where
      acknowledged : IsAllAcknowledged s (notes_at 2 w.crew) n (written_by s w) → n ≤ received (arrived_at (peer s) w)
      acknowledged (IsAllAcknowledged.acknowledged low) = let more = k.acked s in omega (arith, low, more)
      acknowledged (IsAllAcknowledged.standby is) = absurd (both_ways _ (k.stands s) is)
      acknowledged (IsAllAcknowledged.stopped is) = absurd (both_ways _ (k.stopped.send s) is)

      by : (b : Bool) → may_finish e.tcp.state ≡ b → n ≤ received (arrived_at (peer s) w)
      by true may = acknowledged (k.ended k.over s (k.windows.unsent s may (k.opened.clear s) none) no_piece unshut n known)
      by false behind = let there = (k.finished s (HasFinished.sent_fin (open_behind e.tcp.state (k.opened.past s) (k.opened.living s) behind) (k.opened.living s))).received in omega (arith, there, whole)

  -- for its DATA_FIN
  for_end : e.sending.fin_sent ≡ true → e.sending.close.own_acked ≡ false → e.sending.granted ≡ [] → e.sending.shut ≡ false → Waits
  for_end sent unacked no_piece unshut = by e.sending.known_end refl ((k.knows.knows s).ended sent) (k.agrees.ends s).ends
    where
      by : (o : Option ℕ) → e.sending.known_end ≡ o → is_some o ≡ true → IfSome o (λ n. ((written_by s w).closed ≡ true) × (n ≡ length (written_by s w).written)) → Waits
      by None known some ends = absurd (true≢false (sym some))
      by (Some n) known some ends =
          let whole = ends.1 in
          let there = all_there n known whole no_piece unshut in
          waits.asks (n + 1) true (data_fin refl (omega (arith, whole)) sent unacked) (let all : n + 1 ≤ received (arrived_at (peer s) w) + 1 = omega (arith, there) in all)

  waits_so : IsOutstanding e → Waits
  waits_so out = by_pieces e.sending.granted refl
    where
      by_reason : e.sending.granted ≡ [] → e.sending.shut ≡ false → IsOutstanding e → Waits
      by_reason no_piece unshut (outstanding.on_subflow r others is) = let never : [] ≡ r ∷ others = sym none ∙ is in cc
      by_reason no_piece unshut (outstanding.on_stream g others is) = let never : [] ≡ g ∷ others = sym no_piece ∙ is in cc
      by_reason no_piece unshut (outstanding.data_fin identity infinite sent unacked) = for_end sent unacked no_piece unshut
      by_reason no_piece unshut (outstanding.shut is) = waits.shut is
      by_reason no_piece unshut (outstanding.third is) = absurd (both_ways (is_joined p.profile) k.opened.first ((k.alone s).third is))
      by_reason no_piece unshut (outstanding.fast_close is) = absurd ((k.alone s).carries ((k.knows.knows s).closed is))

      by_window : e.sending.granted ≡ [] → (b : Bool) → e.sending.shut ≡ b → Waits
      by_window no_piece true is = waits.shut is
      by_window no_piece false is = by_reason no_piece is out

      by_pieces : (gs : List GrantedPiece) → e.sending.granted ≡ gs → Waits
      by_pieces [] is = by_window is e.sending.shut refl
      by_pieces (g ∷ gs) is = for_bytes g gs is

-- ---- the world

-- what is known of the path, as an actor
record IsKnownOf (w : WorldState Carried) (m : Actor Carried) : Type 0 where
  granted : OfPaths (GrantedIsReceived w) m
  knows : OfPaths BothKnowTheirEnd m
  agrees : OfPaths (EndsAgreeWith w) m
  alone : OfPaths EndsAskForThemselves m
  windows : OfPaths HasWindows m
  ended : OfPaths (EndedIsAcknowledged w) m
  finished : OfPaths (FinishedIsThere w) m
  stands : (s : Side) → last_on_standby s false (notes_at 2 w.crew) ≡ false
  stopped : NothingIsStopped w
  acked : (s : Side) → acked_len (written_by s w).marks ≤ received (arrived_at (peer s) w)

member_waits : (w : WorldState Carried) (m : Actor Carried) → IsKnownOf w m → OfPaths (AwaitedIsThere (books_in w.books)) m
member_waits w (App a) k = tt
member_waits w (Path p) k = λ opened over s none out. waits_so w p (record {
  opened = opened;
  over = over;
  granted = k.granted;
  knows = k.knows;
  agrees = k.agrees;
  alone = k.alone;
  windows = k.windows;
  ended = k.ended;
  finished = k.finished;
  stands = k.stands;
  stopped = k.stopped;
  acked = k.acked;
}) s none out

module _ (start : Start) (plan : PathPlan) (turns : List Turn) (one : start.paths ≡ plan ∷ []) (mild : IsMildStart start) where
  abbrev w : WorldState Carried
  w = world_run values turns (opened_world start)

  acked_there : (s : Side) → acked_len (written_by s w).marks ≤ received (arrived_at (peer s) w)
  acked_there = elim [ A ↦ (keep_their_word start turns mild.plain).ab.acked | B ↦ (keep_their_word start turns mild.plain).ba.acked ]

  path_waits : ((c : ActorCrew Carried) → slice_get w.crew 2 ≡ Some c → OfPaths (EndedIsAcknowledged w) c.member) → (c : ActorCrew Carried) → slice_get w.crew 2 ≡ Some c → OfPaths (AwaitedIsThere (books_in w.books)) c.member
  path_waits ended c there = member_waits w c.member (record {
    granted = (granted_is_received start turns plan one mild).each 2 c there;
    knows = each_knows start turns mild.plain.size 2 c there;
    agrees = ends_agree start turns mild.plain.size 2 c there;
    alone = ends_ask_for_themselves start turns mild 2 c there;
    windows = who_is_done_may_ask start turns mild.plain.size mild.fit 2 c there;
    ended = ended c there;
    finished = what_is_finished_is_there start plan turns one mild 2 c there;
    stands = λ s. never_on_standby values start plan turns one 2 s (record w { crew = [] });
    stopped = mild_paths_are_never_stopped start plan turns one mild;
    acked = acked_there;
  })

pub what_is_awaited_is_there : WhatIsAwaitedIsThere
what_is_awaited_is_there start plan turns one mild = path_waits start plan turns one mild (what_ended_is_acknowledged start plan turns one mild.plain.size mild.fit)
