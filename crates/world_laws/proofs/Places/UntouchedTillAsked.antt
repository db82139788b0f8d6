-- What a lane from A to B was granted stays as it is, unless A asks for bytes.
use Rattle.world_laws.proofs.Words.{◌≡◌, refl, sym, ◌∙◌, ap, subst, ℕ, ⊎_elim, Bool, true, false, if◌then◌else◌, Option, Some, None, List, [], ◌∷◌, set}
use Rattle.world_laws.proofs.Words.{cases_eq, and_parts, false≢true, same_Some, slice_get, list_all, A, B, ReassemblyCall, arrival_reply, SendCall, acked_len}
use Rattle.world_laws.proofs.Words.{after_send, send_reply, Ask, set_same, set_other, Duo, after_events, after_event, flags_ab, Cell, Lane, LaneAsk, Direction}
use Rattle.world_laws.proofs.Words.{StreamEvent, reads, asks, asks_at, is_done, with_send, goes_infinite, may_go, ToB, ToA, FallA, FallB, LoosenA, LoosenB}
use Rattle.world_laws.proofs.Words.{BeginJoin, SendJoin, HearJoin, Flags, Move, AskAckIn, AskPlace, AskFin, AskAckOut, Return, GoIdentity, AbortRead, Moves}
use Rattle.world_laws.proofs.Words.{asks_grant}
use Rattle.stream_lanes.specs.Streams.{moves, after}
use Rattle.stream_lanes.specs.Streams.StreamEvent.{Write, Close, AbortSend, Read, GoInfinite}
use Rattle.stream_lanes.specs.Duo.{Event}
use Rattle.stream_lanes.proofs.Directions.{moved_sent, acked_sent, placed_sent, fin_sent}
use Rattle.world_laws.proofs.Lanes.OfAWorld.{LaneAsks, SendCallIs, ReassemblyCallIs, CallIs, is_silent, AreSilent, call_events, TurnShows}
use Rattle.world_laws.proofs.Places.Sent.{ack_out_sent}

-- ---- one direction

-- the lane at this place was granted these bytes
pub record Granted (number : ℕ) (sent : List Cell) (d : Direction) : Type 0 where
  pub lane : Lane
  pub there : slice_get d.lanes number ≡ Some lane
  pub same : lane.sent ≡ sent

module _ (f : Flags) (number : ℕ) (sent : List Cell) (d : Direction) (h : Granted number sent d) where
  stays_so : (e : Direction) → e.lanes ≡ d.lanes → Granted number sent e
  stays_so e same = record { lane = h.lane; there = ap (λ lanes. slice_get lanes number) same ∙ h.there; same = h.same }

  -- a lane that was granted the same is put to its place
  put_so : (path : ℕ) (q r : Lane) (e : Direction) → e.lanes ≡ set d.lanes path r → slice_get d.lanes path ≡ Some q → r.sent ≡ q.sent → Granted number sent e
  put_so path q r e is there same = ⊎_elim
      (λ here. let at : Some q ≡ Some h.lane = sym there ∙ ap (slice_get d.lanes) (sym here) ∙ h.there in
      record {
        lane = r;
        there = ap (λ lanes. slice_get lanes number) is ∙ ap (λ n. slice_get (set d.lanes path r) n) here ∙ set_same d.lanes path r q there;
        same = same ∙ ap (λ (p : Lane). p.sent) (same_Some q h.lane at) ∙ h.same;
      })
      (λ apart. record { lane = h.lane; there = ap (λ lanes. slice_get lanes number) is ∙ set_other d.lanes path r number apart ∙ h.there; same = h.same })
      (cases_eq number path)

  moves_so : (path : ℕ) (m : Move) (o : Option Lane) → slice_get d.lanes path ≡ o → Granted number sent (moves f path m o d)
  moves_so path m None there = h
  moves_so path m (Some q) there = put_so path q _ _ refl there (moved_sent f path m q)

  reads_so : (max : ℕ) (done : Bool) → Granted number sent (if done then d else reads max d)
  reads_so max true = h
  reads_so max false = stays_so (reads max d) refl

  ack_so : (path next window : ℕ) (q : Lane) → slice_get d.lanes path ≡ Some q → Granted number sent (asks path (AskAckIn next window) q d)
  ack_so path next window q there = put_so path q _ _ refl there (acked_sent next (send_reply d.send (SendCall.AckIn next window)) q)

  place_so : (path at : ℕ) (bytes : List ℕ) (q : Lane) → slice_get d.lanes path ≡ Some q → Granted number sent (asks path (AskPlace at bytes) q d)
  place_so path at bytes q there = put_so path q _ _ refl there (placed_sent _ (arrival_reply d.arrived (ReassemblyCall.Place at bytes)) q)

  fin_so : (path at : ℕ) (q : Lane) → slice_get d.lanes path ≡ Some q → Granted number sent (asks path (AskFin at) q d)
  fin_so path at q there = put_so path q _ _ refl there (fin_sent (arrival_reply d.arrived (ReassemblyCall.Fin at)) q)

  ack_out_so : (path : ℕ) (q : Lane) → slice_get d.lanes path ≡ Some q → Granted number sent (asks path AskAckOut q d)
  ack_out_so path q there = put_so path q _ _ refl there (ack_out_sent (arrival_reply d.arrived ReassemblyCall.AckOut) q)

  -- an ask that a lane is about to make
  asked_so : (x : LaneAsk) → ((path : ℕ) (q : Lane) → slice_get d.lanes path ≡ Some q → Granted number sent (asks path x q d)) → (event : StreamEvent) → LaneAsks x d event
      → Granted number sent (after f event d)
  asked_so x so event a =
      subst (λ e. Granted number sent (after f e d)) (sym a.event_is)
      (subst (λ o. Granted number sent (asks_at a.path o d)) (sym a.asking.there)
      (subst (λ y. Granted number sent (asks a.path y a.asking.lane d)) (sym a.asking.asks) (so a.path a.asking.lane a.asking.there)))

  event_is : (x y : StreamEvent) → x ≡ y → Granted number sent (after f y d) → Granted number sent (after f x d)
  event_is x y same so = subst (λ e. Granted number sent (after f e d)) (sym same) so

  identity_so : (fell : Bool) → Granted number sent (if fell then with_send SendCall.GoIdentity d else d)
  identity_so = elim [ true ↦ stays_so _ refl | false ↦ h ]

  infinite_so : (path pos : ℕ) (o : Option Lane) → slice_get d.lanes path ≡ o → Granted number sent (goes_infinite path pos o d)
  infinite_so path pos None there = h
  infinite_so path pos (Some q) there =
      elim (may_go path pos d.send q) as (λ may. Granted number sent (if may then record d { send = after_send d.send (SendCall.GoInfinite path); lanes = set d.lanes path r } else d))
      [ true ↦ put_so path q r _ refl there refl | false ↦ h ]
    where
      r : Lane
      r = record q { pair = Some (record { pos = pos; place = acked_len d.send.marks }) }

  send_so : (c : SendCall) (event : StreamEvent) → asks_grant A (Ask.Send A c) ≡ false → SendCallIs c d event → Granted number sent (after f event d)
  send_so (SendCall.Write bytes) event none is = event_is event (Write bytes) is (stays_so _ refl)
  send_so SendCall.Close event none is = event_is event Close is (stays_so _ refl)
  send_so (SendCall.Grant path most standby) event none is = absurd (false≢true (sym none))
  send_so (SendCall.AckIn next window) event none is = asked_so (AskAckIn next window) (λ path q there. ack_so path next window q there) event is
  send_so (SendCall.Return path) event none is = event_is event (Return path) is (stays_so _ refl)
  send_so SendCall.GoIdentity event none is = event_is event GoIdentity is (identity_so f.sender)
  send_so (SendCall.GoInfinite path) event none is = event_is event (GoInfinite path is.0) is.1 (infinite_so path is.0 (slice_get d.lanes path) refl)
  send_so SendCall.Abort event none is = event_is event AbortSend is (stays_so _ refl)

  reassembly_so : (c : ReassemblyCall) (event : StreamEvent) → ReassemblyCallIs c d event → Granted number sent (after f event d)
  reassembly_so (ReassemblyCall.Place at bytes) event is = asked_so (AskPlace at bytes) (λ path q there. place_so path at bytes q there) event is
  reassembly_so (ReassemblyCall.Fin at) event is = asked_so (AskFin at) (λ path q there. fin_so path at q there) event is
  reassembly_so (ReassemblyCall.Read most) event is = event_is event (Read most) is.0 (reads_so most (is_done d.reader))
  reassembly_so ReassemblyCall.AckOut event is = asked_so AskAckOut ack_out_so event is
  reassembly_so (ReassemblyCall.Abort by_peer) event is = event_is event (AbortRead by_peer) is (stays_so _ refl)

-- ---- both directions

module _ (number : ℕ) (sent : List Cell) where
  abbrev So : Duo → Type 0
  So d = Granted number sent d.ab

  -- moves grant nothing
  silent_one : (event : Event) → is_silent event ≡ true → (d : Duo) → So d → So (after_event event d)
  silent_one (ToB (Moves path m)) is d h = moves_so (flags_ab d.modes) number sent d.ab h path m (slice_get d.ab.lanes path) refl
  silent_one (ToA (Moves path m)) is d h = h
  silent_one FallA is d h = h
  silent_one FallB is d h = h
  silent_one LoosenA is d h = h
  silent_one LoosenB is d h = h
  silent_one BeginJoin is d h = h
  silent_one SendJoin is d h = h
  silent_one HearJoin is d h = h
  silent_one _ is d h = absurd (false≢true is)

  pub silent_so : (events : List Event) → AreSilent events → (d : Duo) → So d → So (after_events events d)
  silent_so [] is d h = h
  silent_so (event ∷ events) is d h =
      let parts = and_parts (is_silent event) (list_all is_silent events) is in silent_so events parts.1 (after_event event d) (silent_one event parts.0 d h)

  -- nor does a call by which A asks for no bytes
  call_so : (ask : Ask) (call : Option Event) (d : Duo) → asks_grant A ask ≡ false → CallIs (Some ask) d call → So d → So (after_events (call_events call) d)
  call_so (Ask.Send A c) call d none is h = subst (λ x. So (after_events (call_events x) d)) (sym is.1) (send_so (flags_ab d.modes) number sent d.ab h c is.0 none is.2)
  call_so (Ask.Send B c) call d none is h = subst (λ x. So (after_events (call_events x) d)) (sym is.1) h
  call_so (Ask.Reassembly A c) call d none is h = subst (λ x. So (after_events (call_events x) d)) (sym is.1) h
  call_so (Ask.Reassembly B c) call d none is h = subst (λ x. So (after_events (call_events x) d)) (sym is.1) (reassembly_so (flags_ab d.modes) number sent d.ab h c is.0 is.2)
  call_so (Ask.Control s c) call d none is h = subst (λ x. So (after_events (call_events x) d)) (sym is) h
  call_so (Ask.Local step) call d none is h = subst (λ x. So (after_events (call_events x) d)) (sym is) h

  pub turn_so : (ask : Ask) (d e : Duo) → asks_grant A ask ≡ false → TurnShows (Some ask) d e → So d → So e
  turn_so ask d e none t h =
      let before = silent_so t.before t.before_silent d h in
      let called = call_so ask t.call (after_events t.before d) none t.calls before in
      subst So (sym t.to) (silent_so t.after t.after_silent (after_events (call_events t.call) (after_events t.before d)) called)
