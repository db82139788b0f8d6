-- What each step of a lane keeps, each event of a direction keeps of all its lanes.
use Rattle.std.proofs.Common.{set, ◌≡◌, refl, ℕ, Bool, true, false, if◌then◌else◌, Option, Some, None, List, length, arith}
use Rattle.std.specs.List.{slice_get}
use Rattle.send_book.specs.declared.call.SendCall.TheVariants as send_calls
use Rattle.send_book.specs.declared.call.SendReply.{SendReply}
use Rattle.send_book.specs.State.{acked_len}
use Rattle.send_book.specs.Steps.{after_call}
use Rattle.reassembly_book.specs.declared.call.ReassemblyReply.{ReassemblyReply}
use Rattle.reassembly_book.specs.declared.call.ReassemblyReply.TheVariants as reassembly_replies
use Rattle.stream_lanes.specs.Holding.{BytesHold, DirectionHolds}
use Rattle.stream_lanes.specs.Lane.{Ask, Lane, Pair}
use Rattle.stream_lanes.specs.Lane.Ask.{Nothing, AskGrant, AskAckIn, AskPlace, AskFin, AskAckOut}
use Rattle.stream_lanes.specs.Moves.{Flags, Move, moved, takes_ack, takes_ack_out, takes_fin, takes_grant, takes_placed}
use Rattle.stream_lanes.specs.Streams.{Direction, StreamEvent, after, asks, asks_at, goes_infinite, is_done, may_go, moves, reads}
use Rattle.stream_lanes.specs.Streams.{StreamEvent as event}
use Rattle.stream_lanes.specs.Words.{Every}
use Rattle.whole_paths.proofs.Unended.{every_set}

-- what is known of the bytes of a lane
abbrev pub Bytes : Lane → Type 0
Bytes p = BytesHold p.alters p.sent p.pieces p.datas p.edge p.kept p.maps p.acks

module _ (P : Lane → Type 0) where
  -- the steps keep it, where the sides know so much of each other
  pub record Steps (f : Flags) : Type 0 where
    pub moves : (path : ℕ) (m : Move) (p : Lane) → Bytes p → P p → P (moved f path m p)
    pub pairs : (x : Pair) (p : Lane) → P p → P (record p { pair = Some x })
    -- what its ends make of replies
    pub grants : (r : SendReply) (p : Lane) → Bytes p → P p → P (takes_grant r p)
    pub acks : (next : ℕ) (r : SendReply) (p : Lane) → Bytes p → P p → P (takes_ack next r p)
    pub places : (at : ℕ) (bytes : List ℕ) (r : ReassemblyReply) (p : Lane) → Bytes p → P p → p.asking ≡ AskPlace at bytes → P (takes_placed (length bytes) r p)
    pub ends : (r : ReassemblyReply) (p : Lane) → Bytes p → P p → P (takes_fin r p)
    pub tells : (next window : ℕ) (p : Lane) → Bytes p → P p → P (takes_ack_out (reassembly_replies.Ack next window) p)

  abbrev pub OfLanes : Direction → Type 0
  OfLanes d = Every P d.lanes

  module _ (f : Flags) (d : Direction) (holds : DirectionHolds f d) (steps : Steps f) (h : OfLanes d) where
    lane_goes : (path : ℕ) (p q : Lane) → slice_get d.lanes path ≡ Some p → (Bytes p → P p → P q) → Every P (set d.lanes path q)
    lane_goes path p q there go = every_set d.lanes path q h (go (holds.lanes.each path path p (omega arith) there).bytes (h.each path p there))

    asks_goes : (path : ℕ) (p : Lane) → slice_get d.lanes path ≡ Some p → (x : Ask) → p.asking ≡ x → OfLanes (asks path x p d)
    asks_goes path p there Nothing is = h
    asks_goes path p there (AskGrant max standby) is = lane_goes path p _ there (λ b c. steps.grants _ p b c)
    asks_goes path p there (AskAckIn next window) is = lane_goes path p _ there (λ b c. steps.acks next _ p b c)
    asks_goes path p there (AskPlace at bytes) is = lane_goes path p _ there (λ b c. steps.places at bytes _ p b c is)
    asks_goes path p there (AskFin at) is = lane_goes path p _ there (λ b c. steps.ends _ p b c)
    asks_goes path p there AskAckOut is = lane_goes path p _ there (λ b c. steps.tells _ _ p b c)

    asked_goes : (path : ℕ) (o : Option Lane) → slice_get d.lanes path ≡ o → OfLanes (asks_at path o d)
    asked_goes path None there = h
    asked_goes path (Some p) there = asks_goes path p there p.asking refl

    moves_goes : (path : ℕ) (m : Move) (o : Option Lane) → slice_get d.lanes path ≡ o → OfLanes (moves f path m o d)
    moves_goes path m None there = h
    moves_goes path m (Some p) there = lane_goes path p _ there (λ b c. steps.moves path m p b c)

    infinite_goes : (path pos : ℕ) (o : Option Lane) → slice_get d.lanes path ≡ o → OfLanes (goes_infinite path pos o d)
    infinite_goes path pos None there = h
    infinite_goes path pos (Some p) there = by (may_go path pos d.send p)
      where
        paired : Lane
        paired = record p { pair = Some (record { pos = pos; place = acked_len d.send.marks }) }

        by : (c : Bool) → OfLanes (if c then record d { send = after_call d.send (send_calls.GoInfinite path); lanes = set d.lanes path paired } else d)
        by true = lane_goes path p paired there (λ b c. steps.pairs (record { pos = pos; place = acked_len d.send.marks }) p c)
        by false = h

    identity_goes : (c : Bool) → OfLanes (if c then record d { send = after_call d.send send_calls.GoIdentity } else d)
    identity_goes true = h
    identity_goes false = h

    read_goes : (max : ℕ) (c : Bool) → OfLanes (if c then d else reads max d)
    read_goes max true = h
    read_goes max false = h

    pub after_goes : (e : StreamEvent) → OfLanes (after f e d)
    after_goes (event.Write bytes) = h
    after_goes event.Close = h
    after_goes (event.Return path) = h
    after_goes event.GoIdentity = identity_goes f.sender
    after_goes (event.GoInfinite path pos) = infinite_goes path pos (slice_get d.lanes path) refl
    after_goes event.AbortSend = h
    after_goes (event.Read max) = read_goes max (is_done d.reader)
    after_goes (event.AbortRead by_peer) = h
    after_goes (event.Moves path m) = moves_goes path m (slice_get d.lanes path) refl
    after_goes (event.Asks path) = asked_goes path (slice_get d.lanes path) refl
