-- As long as the receiver's side doesn't know where a stream ends, nothing acknowledges that end: no acknowledgement that was sent, none that
-- is asked of a book, and so no DATA_FIN; and no FIN is sent before the DATA_FIN is acknowledged. This is said of lanes, whose ends go by
-- mappings of pieces.
use Rattle.std.proofs.Common.{◌≡◌, refl, sym, subst, ap, ◌∙◌, inl, inr, ◌⊎◌, ⊎_elim, ℕ, ◌+◌, ◌-◌, ◌≤◌, ◌&&◌, ◌||◌, ◌==◌, min, max, arith, Bool, true, false, true≢false, if◌then◌else◌, is_some, Option, Some, None, Ok, Err, List, [], ◌∷◌, ◌++◌, drop, length, length-append, replicate, set}
use Rattle.std.specs.List.{slice_get}
use Rattle.std.proofs.lemmas.Bool.{and_parts, le-ltb}
use Rattle.send_book.specs.declared.call.SendCall.{SendCall}
use Rattle.send_book.specs.declared.call.SendCall.TheVariants as send_calls
use Rattle.send_book.specs.declared.call.SendReply.{SendReply}
use Rattle.send_book.specs.declared.call.SendReply.TheVariants as send_replies
use Rattle.send_book.specs.declared.mark.ByteMark.TheVariants.{Acked}
use Rattle.send_book.specs.State.{Sending, acked_len}
use Rattle.send_book.specs.Steps.{after_call, decision, fin_after, given_by, is_future, is_gathered, reply_to}
use Rattle.reassembly_book.specs.declared.call.ReassemblyReply.{ReassemblyReply}
use Rattle.reassembly_book.specs.declared.call.ReassemblyReply.TheVariants as reassembly_replies
use Rattle.reassembly_book.specs.State.{Arriving, received}
use Rattle.reassembly_book.specs.Steps as arriving
use Rattle.reassembly_book.proofs.Merging.{filled-le}
use Rattle.stream_lanes.specs.Duo.{Duo, Event, Modes, after_event, after_events, begins_join, falls_a, falls_b, flags_ab, flags_ba, hears_join, opening_over, sends_join}
use Rattle.stream_lanes.specs.Duo.Event.{ToB, ToA, FallA, FallB, LoosenA, LoosenB, BeginJoin, SendJoin, HearJoin}
use Rattle.stream_lanes.specs.Holding.{DirectionHolds, Holds}
use Rattle.stream_lanes.specs.Lane.{AckCopy, Ask, Lane, Mapping, DataCopy, Pair, lane_over}
use Rattle.stream_lanes.specs.Lane.Ask.{Nothing, AskGrant, AskAckIn, AskPlace, AskFin, AskAckOut}
use Rattle.stream_lanes.specs.Moves.{Flags, Move, ack_copy, clashes, ends_pair, hears, hears_data_fin, hears_fin, hears_sub, in_order, is_whole, keeps, learns, learns_mapping, lies_in, may_finish, moved, passes, places, places_pair, sends_altered, sends_fin_pair, sends_pair, sends_piece, takes_ack, takes_ack_out, takes_fin, takes_grant, takes_pair, takes_placed}
use Rattle.stream_lanes.specs.Moves.{Move as move}
use Rattle.stream_lanes.specs.Streams.{Direction, StreamEvent, after, asks, asks_at, goes_infinite, is_done, may_go, moves, reads}
use Rattle.stream_lanes.specs.Streams.{StreamEvent as event}
use Rattle.stream_lanes.specs.Words.{Every}
use Rattle.stream_lanes.proofs.Lists.{Every-nil, in_append, in_one, in_replicate, in_set}
use Rattle.whole_paths.proofs.Books.{send_up}

-- ---- a lane

abbrev AskBelow : ℕ → Ask → Type 0
AskBelow n (AskAckIn next window) = next ≤ n
AskBelow n _ = Unit {0}

-- where so many bytes are written, as long as the end isn't known; and a FIN goes out behind the acknowledgement of the DATA_FIN alone
pub record IsUnended (end : Option ℕ) (n : ℕ) (p : Lane) : Type 0 where
  latest : end ≡ None → p.latest.next ≤ n
  acks : end ≡ None → Every (λ a. a.next ≤ n) p.acks
  asks : end ≡ None → AskBelow n p.asking
  pub acked : end ≡ None → p.fin_acked ≡ false
  alters : p.alters ≡ false
  plain : p.sender_plain ≡ false
  pair : p.pair ≡ None
  pub fins : (p.fins ≡ []) ⊎ (p.fin_acked ≡ true)

more_below : (n m : ℕ) → n ≤ m → (x : Ask) → AskBelow n x → AskBelow m x
more_below n m more (AskAckIn next window) low = omega (arith, more, low)
more_below n m more _ low = tt

-- more is written, or the end is known
more_written : (e f : Option ℕ) (n m : ℕ) (p : Lane) → (f ≡ None → e ≡ None) → n ≤ m → IsUnended e n p → IsUnended f m p
more_written e f n m p back more h = record {
  latest = λ none. (let low = h.latest (back none) in omega (arith, low, more));
  acks = λ none. record { each = λ i a there. let low = (h.acks (back none)).each i a there in omega (arith, low, more) };
  asks = λ none. more_below n m more p.asking (h.asks (back none));
  acked = λ none. h.acked (back none);
  alters = h.alters;
  plain = h.plain;
  pair = h.pair;
  fins = h.fins;
}

-- nothing of it changes, but what it asks
same_unended : (e : Option ℕ) (n : ℕ) (p q : Lane) → q.latest ≡ p.latest → q.acks ≡ p.acks → (e ≡ None → AskBelow n q.asking) → q.fin_acked ≡ p.fin_acked → q.alters ≡ p.alters → q.sender_plain ≡ p.sender_plain → q.pair ≡ p.pair → q.fins ≡ p.fins
    → IsUnended e n p → IsUnended e n q
same_unended e n p q latest acks asks acked alters plain pair fins h = record {
  latest = λ none. subst (λ t. t.next ≤ n) (sym latest) (h.latest none);
  acks = λ none. subst (Every (λ a. a.next ≤ n)) (sym acks) (h.acks none);
  asks = asks;
  acked = λ none. acked ∙ h.acked none;
  alters = alters ∙ h.alters;
  plain = plain ∙ h.plain;
  pair = pair ∙ h.pair;
  fins = ⊎_elim (λ is. inl (fins ∙ is)) (λ is. inr (acked ∙ is)) h.fins;
}

either_unended : (e : Option ℕ) (n : ℕ) (c : Bool) (p q : Lane) → IsUnended e n p → IsUnended e n q → IsUnended e n (if c then p else q)
either_unended e n true p q x y = x
either_unended e n false p q x y = y

module _ (e : Option ℕ) (n : ℕ) (p : Lane) (h : IsUnended e n p) where
  hears_unended : (o : Option AckCopy) → (e ≡ None → (a : AckCopy) → o ≡ Some a → a.next ≤ n) → IsUnended e n (hears o p)
  hears_unended None low = h
  hears_unended (Some a) low = same_unended e n p (hears (Some a) p) refl refl (λ none. by p.sender_plain h.plain none) refl refl refl refl refl h
    where
      by : (b : Bool) → b ≡ false → e ≡ None → (if b then a.sub else a.next) ≤ n
      by true is none = absurd (true≢false is)
      by false is none = low none a refl

  sub_unended : (upto : ℕ) (o : Option AckCopy) (m : Option Pair) → m ≡ None → IsUnended e n (hears_sub upto o m p)
  sub_unended upto o (Some m) none = cc
  sub_unended upto (Some a) None none = h
  sub_unended upto None None none = h

  piece_unended : (mapped : Bool) (o : Option Mapping) → IsUnended e n (sends_piece mapped o p)
  piece_unended mapped None = h
  piece_unended mapped (Some m) = same_unended e n p _ refl refl h.asks refl refl refl refl refl h

  altered_unended : (mapped : Bool) (o : Option Mapping) → IsUnended e n (sends_altered mapped o p)
  altered_unended mapped None = h
  altered_unended mapped (Some m) = either_unended e n p.alters _ p (same_unended e n p _ refl refl h.asks refl refl refl refl refl h) h

  kept_unended : (count : ℕ) (o : Option DataCopy) → IsUnended e n (keeps count o p)
  kept_unended count None = h
  kept_unended count (Some d) = same_unended e n p _ refl refl h.asks refl refl refl refl refl h

  mapping_unended : (o : Option Mapping) → IsUnended e n (learns_mapping o p)
  mapping_unended None = h
  mapping_unended (Some m) = either_unended e n (clashes m p.maps) p _ h (same_unended e n p _ refl refl h.asks refl refl refl refl refl h)

  learned_unended : (o : Option DataCopy) → IsUnended e n (learns o p)
  learned_unended None = h
  learned_unended (Some d) = mapping_unended d.mapping

  end_unended : (o : Option ℕ) → IsUnended e n (hears_data_fin o p)
  end_unended None = h
  end_unended (Some at) = same_unended e n p _ refl refl (λ none. tt) refl refl refl refl refl h

  fin_unended : (o : Option ℕ) → IsUnended e n (hears_fin o p)
  fin_unended None = h
  fin_unended (Some pos) = either_unended e n (pos == p.edge) _ p (same_unended e n p _ refl refl h.asks refl refl refl refl refl h) h

  places_unended : (count : ℕ) (o : Option Mapping) → IsUnended e n (places count o p)
  places_unended count None = h
  places_unended count (Some m) = either_unended e n (lies_in m (in_order count p) p && passes m (in_order count p) p) _ p (same_unended e n p _ refl refl (λ none. tt) refl refl refl refl refl h) h

  pair_unended : (shift : ℕ) (o : Option Pair) → IsUnended e n (sends_pair shift o p)
  pair_unended shift None = h
  pair_unended shift (Some m) = either_unended e n _ _ p (same_unended e n p _ refl refl h.asks refl refl refl refl refl h) h

  fin_pair_unended : (o : Option Pair) → o ≡ None → IsUnended e n (sends_fin_pair o p)
  fin_pair_unended None none = h
  fin_pair_unended (Some m) none = cc

  taken_unended : (o : Option Pair) → IsUnended e n (takes_pair o p)
  taken_unended None = h
  taken_unended (Some m) = same_unended e n p _ refl refl h.asks refl refl refl refl refl h

  placed_unended : (count : ℕ) (o : Option Pair) → IsUnended e n (places_pair count o p)
  placed_unended count None = h
  placed_unended count (Some m) = either_unended e n _ _ p (same_unended e n p _ refl refl (λ none. tt) refl refl refl refl refl h) h

  ended_unended : (o : Option Pair) → IsUnended e n (ends_pair o p)
  ended_unended None = h
  ended_unended (Some m) = either_unended e n _ _ p (same_unended e n p _ refl refl (λ none. tt) refl refl refl refl refl h) h

  sent_unended : (next window sub : ℕ) → IsUnended e n (record p { acks = p.acks ++ ack_copy next window sub p ∷ [] })
  sent_unended next window sub = record {
    latest = h.latest;
    acks = λ none. record {
      each = λ i a there. ⊎_elim
          (λ old. (h.acks none).each i a old)
          (λ new. (let one = in_one (ack_copy next window sub p) a _ new.1 in let low = h.latest none in subst (λ (b : AckCopy). b.next ≤ n) one.1 (omega (arith, low))))
          (in_append p.acks (ack_copy next window sub p ∷ []) i a there);
    };
    asks = h.asks;
    acked = h.acked;
    alters = h.alters;
    plain = h.plain;
    pair = h.pair;
    fins = h.fins;
  }

  -- a FIN goes out where the DATA_FIN is acknowledged
  finish_unended : IsUnended e n (if may_finish p then record p { fins = p.fins ++ length p.sent ∷ [] } else p)
  finish_unended = by p.opened p.sender_plain h.plain p.fin_acked refl
    where
      by : (a b : Bool) → b ≡ false → (c : Bool) → p.fin_acked ≡ c → IsUnended e n (if (a && (if b then is_whole p.known_end p else c)) then record p { fins = p.fins ++ length p.sent ∷ [] } else p)
      by a true is c acked = absurd (true≢false is)
      by true false is true acked = record { latest = h.latest; acks = h.acks; asks = h.asks; acked = h.acked; alters = h.alters; plain = h.plain; pair = h.pair; fins = inr acked }
      by true false is false acked = h
      by false false is c acked = h

  moved_unended : (f : Flags) (path : ℕ) → f.sender ≡ false → (m : Move) → IsUnended e n (moved f path m p)
  moved_unended f path plain move.Open = either_unended e n _ _ p (same_unended e n p _ refl refl h.asks refl refl refl refl refl h) h
  moved_unended f path plain move.LookAtSender = record { latest = h.latest; acks = h.acks; asks = h.asks; acked = h.acked; alters = h.alters; plain = plain; pair = h.pair; fins = h.fins }
  moved_unended f path plain move.LookAtReceiver = same_unended e n p _ refl refl h.asks refl refl refl refl refl h
  moved_unended f path plain (move.WantGrant max standby) = either_unended e n _ _ p (same_unended e n p _ refl refl (λ none. tt) refl refl refl refl refl h) h
  moved_unended f path plain (move.HearAck copy) = hears_unended (slice_get p.acks copy) (λ none a there. (h.acks none).each copy a there)
  moved_unended f path plain (move.HearSubAck copy upto) = sub_unended upto (slice_get p.acks copy) p.pair h.pair
  moved_unended f path plain (move.SendPiece piece mapped) = piece_unended mapped (slice_get p.pieces piece)
  moved_unended f path plain (move.SendAltered piece mapped) = altered_unended mapped (slice_get p.pieces piece)
  moved_unended f path plain move.SendDataFin = same_unended e n p _ refl refl h.asks refl refl refl refl refl h
  moved_unended f path plain move.SendFin = finish_unended
  moved_unended f path plain (move.SendPair shift) = pair_unended shift p.pair
  moved_unended f path plain (move.SendPlainPair pos) = either_unended e n _ _ p (same_unended e n p _ refl refl h.asks refl refl refl refl refl h) h
  moved_unended f path plain move.SendFinPair = fin_pair_unended p.pair h.pair
  moved_unended f path plain (move.Hear copy count) = kept_unended count (slice_get p.datas copy)
  moved_unended f path plain (move.Learn copy) = learned_unended (slice_get p.datas copy)
  moved_unended f path plain (move.HearDataFin copy) = end_unended (slice_get p.data_fins copy)
  moved_unended f path plain (move.HearFin copy) = fin_unended (slice_get p.fins copy)
  moved_unended f path plain (move.Forget from) = same_unended e n p _ refl refl h.asks refl refl refl refl refl h
  moved_unended f path plain (move.WantPlace mapping count) = places_unended count (slice_get p.maps mapping)
  moved_unended f path plain (move.WantPlacePlain count) = either_unended e n _ _ p (same_unended e n p _ refl refl (λ none. tt) refl refl refl refl refl h) h
  moved_unended f path plain move.WantFin = either_unended e n _ _ p (same_unended e n p _ refl refl (λ none. tt) refl refl refl refl refl h) h
  moved_unended f path plain (move.TakePair copy) = taken_unended (slice_get p.pairs copy)
  moved_unended f path plain (move.WantPlacePair count) = placed_unended count p.taken
  moved_unended f path plain move.WantFinPair = ended_unended p.taken
  moved_unended f path plain move.WantAckOut = same_unended e n p _ refl refl (λ none. tt) refl refl refl refl refl h
  moved_unended f path plain (move.SendAck next window sub) = either_unended e n p.due p _ h (sent_unended next window sub)

  -- ---- what its ends make of replies

  grant_unended : (r : SendReply) → IsUnended e n (takes_grant r p)
  grant_unended (send_replies.Granted span piece) = same_unended e n p _ refl refl (λ none. tt) refl refl refl refl refl h
  grant_unended (send_replies.NoGrant why end) = same_unended e n p _ refl refl (λ none. tt) refl refl refl refl refl h
  grant_unended _ = same_unended e n p _ refl refl (λ none. tt) refl refl refl refl refl h

  ack_unended : (next : ℕ) (r : SendReply) → (e ≡ None → (bytes : ℕ) (fin : Bool) → r ≡ send_replies.Acked bytes fin → fin ≡ false) → IsUnended e n (takes_ack next r p)
  ack_unended next (send_replies.Acked bytes fin) quiet = record {
    latest = h.latest;
    acks = h.acks;
    asks = λ none. tt;
    acked = λ none. rw (h.acked none, quiet none bytes fin refl) refl;
    alters = h.alters;
    plain = h.plain;
    pair = h.pair;
    fins = ⊎_elim (λ is. inl is) (λ is. inr (rw is refl)) h.fins;
  }
  ack_unended next _ quiet = same_unended e n p _ refl refl (λ none. tt) refl refl refl refl refl h

  arrived_unended : (count : ℕ) (r : ReassemblyReply) → IsUnended e n (takes_placed count r p)
  arrived_unended count (reassembly_replies.Placed new) = same_unended e n p _ refl refl (λ none. tt) refl refl refl refl refl h
  arrived_unended count _ = same_unended e n p _ refl refl (λ none. tt) refl refl refl refl refl h

  set_unended : (r : ReassemblyReply) → IsUnended e n (takes_fin r p)
  set_unended reassembly_replies.FinSet = same_unended e n p _ refl refl (λ none. tt) refl refl refl refl refl h
  set_unended _ = same_unended e n p _ refl refl (λ none. tt) refl refl refl refl refl h

  told_unended : (next window : ℕ) → (e ≡ None → next ≤ n) → IsUnended e n (takes_ack_out (reassembly_replies.Ack next window) p)
  told_unended next window low = record { latest = low; acks = h.acks; asks = λ none. tt; acked = h.acked; alters = h.alters; plain = h.plain; pair = h.pair; fins = h.fins }

-- ---- a direction

-- as long as the receiver's side doesn't know the end
pub record AreUnended (d : Direction) : Type 0 where
  pub fin : d.arrived.known_end ≡ None → d.send.fin ≡ false
  pub lanes : Every (IsUnended d.arrived.known_end (length d.send.written)) d.lanes

-- where the send book was given to no path alone
abbrev pub GoesUnended : Direction → Type 0
GoesUnended d = d.send.owner ≡ None → AreUnended d

pub every_set : {X : Type 0} {P : X → Type 0} (xs : List X) (i : ℕ) (y : X) → Every P xs → P y → Every P (set xs i y)
every_set {X} {P} xs i y h here = record { each = λ k x there. ⊎_elim (λ same. subst P same.1 here) (λ other. h.each k x other.1) (in_set xs i y k x there) }

-- a call that neither acknowledges nor gives the book to a path changes neither, and takes no byte away
record Keeps (b c : Sending) : Type 0 where
  fin : c.fin ≡ b.fin
  owner : c.owner ≡ b.owner

either_keeps : (x : Bool) (b c d : Sending) → Keeps b c → Keeps b d → Keeps b (if x then c else d)
either_keeps true b c d one other = one
either_keeps false b c d one other = other

abbrev IsPlainCall : SendCall → Type 0
IsPlainCall (send_calls.AckIn next window) = ⊥
IsPlainCall send_calls.GoIdentity = ⊥
IsPlainCall (send_calls.GoInfinite path) = ⊥
IsPlainCall _ = Unit {0}

call_keeps : (b : Sending) (call : SendCall) → IsPlainCall call → Keeps b (after_call b call)
call_keeps b (send_calls.Write bytes) plain = either_keeps (b.closed || b.aborted) b b _ (record { fin = refl; owner = refl }) (record { fin = refl; owner = refl })
call_keeps b send_calls.Close plain = either_keeps b.aborted b b _ (record { fin = refl; owner = refl }) (record { fin = refl; owner = refl })
call_keeps b (send_calls.Grant path max standby) plain = elim (decision path max standby b) as (λ r. Keeps b (given_by path r b)) [ Err why ↦ record { fin = refl; owner = refl } | Ok span ↦ record { fin = refl; owner = refl } ]
call_keeps b (send_calls.AckIn next window) plain = absurd plain
call_keeps b (send_calls.Return path) plain = record { fin = refl; owner = refl }
call_keeps b send_calls.GoIdentity plain = absurd plain
call_keeps b (send_calls.GoInfinite path) plain = absurd plain
call_keeps b send_calls.Abort plain = record { fin = refl; owner = refl }

longer : (b : Sending) (call : SendCall) → length b.written ≤ length (after_call b call).written
longer b call =
    let up = (send_up b call).written in
    let is : length (after_call b call).written ≡ length (b.written ++ up.rest) = ap (λ (xs : List ℕ). length xs) up.whole_is in
    omega (arith, is, length-append b.written up.rest)

module _ (f : Flags) (d : Direction) (plain : f.sender ≡ false) (short : received d.arrived ≤ length d.send.written) (h : GoesUnended d) where
  -- a call of the send book by which these lanes go on
  called : (call : SendCall) (lanes : List Lane) → IsPlainCall call → ((n : ℕ) → Every (IsUnended d.arrived.known_end n) d.lanes → Every (IsUnended d.arrived.known_end n) lanes)
      → GoesUnended (record d { send = after_call d.send call; lanes = lanes })
  called call lanes quiet go owner =
      let keeps = call_keeps d.send call quiet in
      let was = h (sym keeps.owner ∙ owner) in
      record {
        fin = λ none. keeps.fin ∙ was.fin none;
        lanes = go (length (after_call d.send call).written)
            (record { each = λ i p there. more_written d.arrived.known_end d.arrived.known_end _ _ p (λ none. none) (longer d.send call) (was.lanes.each i p there) });
      }

  one_goes : (path : ℕ) (p q : Lane) (e : Option ℕ) → slice_get d.lanes path ≡ Some p → ((n : ℕ) → IsUnended e n p → IsUnended e n q) → (n : ℕ) → Every (IsUnended e n) d.lanes → Every (IsUnended e n) (set d.lanes path q)
  one_goes path p q e there go n all = every_set d.lanes path q all (go n (all.each path p there))

  -- a lane goes on, and the reassembly book, which may learn the end
  lane_goes : (path : ℕ) (p q : Lane) (b : Arriving) → slice_get d.lanes path ≡ Some p → (b.known_end ≡ None → d.arrived.known_end ≡ None) → ((n : ℕ) → IsUnended b.known_end n p → IsUnended b.known_end n q)
      → GoesUnended (record d { arrived = b; lanes = set d.lanes path q })
  lane_goes path p q b there back go owner =
      let was = h owner in
      record {
        fin = λ none. was.fin (back none);
        lanes = one_goes path p q b.known_end there go (length d.send.written)
            (record { each = λ i l at. more_written d.arrived.known_end b.known_end _ _ l back (omega arith) (was.lanes.each i l at) });
      }

  arrived_goes : (b : Arriving) → (b.known_end ≡ None → d.arrived.known_end ≡ None) → GoesUnended (record d { arrived = b })
  arrived_goes b back owner =
      let was = h owner in
      record { fin = λ none. was.fin (back none); lanes = record { each = λ i l at. more_written d.arrived.known_end b.known_end _ _ l back (omega arith) (was.lanes.each i l at) } }

  -- an acknowledgement of written bytes acknowledges no end
  ack_goes : (path next window : ℕ) (p : Lane) → slice_get d.lanes path ≡ Some p → p.asking ≡ AskAckIn next window → GoesUnended (asks path (AskAckIn next window) p d)
  ack_goes path next window p there is = by (is_future next d.send) refl
    where
      n : ℕ
      n = length d.send.written

      none : AreUnended d → d.arrived.known_end ≡ None → fin_after next d.send ≡ false
      none was unknown =
          let below : next ≤ length d.send.written = subst (AskBelow (length d.send.written)) is ((was.lanes.each path p there).asks unknown) in
          rw (was.fin unknown) (le-ltb (length d.send.written) next below)

      refused : is_future next d.send ≡ true → (bytes : ℕ) (fin : Bool) → reply_to d.send (send_calls.AckIn next window) ≡ send_replies.Acked bytes fin → ⊥
      refused future bytes fin same = never (sym (ap (λ c. if c then send_replies.AckFuture (length d.send.written) else send_replies.Acked (min next (length d.send.written) - acked_len d.send.marks) (fin_after next d.send)) future) ∙ same)
        where
          never : send_replies.AckFuture (length d.send.written) ≡ send_replies.Acked bytes fin → ⊥
          never is = cc

      told : is_future next d.send ≡ false → AreUnended d → d.arrived.known_end ≡ None → (bytes : ℕ) (fin : Bool) → reply_to d.send (send_calls.AckIn next window) ≡ send_replies.Acked bytes fin → fin ≡ false
      told past was unknown bytes fin same =
          fin_is (sym (ap (λ c. if c then send_replies.AckFuture (length d.send.written) else send_replies.Acked (min next (length d.send.written) - acked_len d.send.marks) (fin_after next d.send)) past) ∙ same) ∙ none was unknown
        where
          fin_is : send_replies.Acked (min next (length d.send.written) - acked_len d.send.marks) (fin_after next d.send) ≡ send_replies.Acked bytes fin → fin ≡ fin_after next d.send
          fin_is is = cc

      by : (c : Bool) → is_future next d.send ≡ c
          → GoesUnended (record d {
            send = (if c then d.send else record d.send { marks = replicate (min next (length d.send.marks)) Acked ++ drop next d.send.marks; edge = max d.send.edge (next + window); fin = fin_after next d.send });
            lanes = set d.lanes path (takes_ack next (reply_to d.send (send_calls.AckIn next window)) p);
          })
      by true future owner =
          let was = h owner in
          record {
            fin = was.fin;
            lanes = every_set d.lanes path _ was.lanes (ack_unended d.arrived.known_end (length d.send.written) p (was.lanes.each path p there) next _ (λ unknown bytes fin same. absurd (refused future bytes fin same)));
          }
      by false past owner =
          let was = h owner in
          record {
            fin = none was;
            lanes = every_set d.lanes path _ was.lanes (ack_unended d.arrived.known_end (length d.send.written) p (was.lanes.each path p there) next _ (told past was));
          }

  received_short : d.arrived.known_end ≡ None → arriving.next_wanted d.arrived ≤ length d.send.written
  received_short none = let same : arriving.next_wanted d.arrived ≡ received d.arrived + 0 = ap (λ o. received d.arrived + (if arriving.is_end o (received d.arrived) then 1 else 0)) none in omega (arith, same, short)

  set_known : (at : ℕ) → (arriving.after_fin at d.arrived).known_end ≡ None → d.arrived.known_end ≡ None
  set_known at = by (is_some (arriving.fin_clash d.arrived.known_end at d.arrived))
    where
      by : (c : Bool) → (if c then d.arrived else record d.arrived { known_end = Some at }).known_end ≡ None → d.arrived.known_end ≡ None
      by true is = is
      by false is = cc

  place_known : (at : ℕ) (bytes : List ℕ) → (arriving.after_place at bytes d.arrived).known_end ≡ None → d.arrived.known_end ≡ None
  place_known at bytes = by (arriving.is_taken at bytes d.arrived)
    where
      by : (c : Bool) → (if c then record d.arrived { places = arriving.places_after at bytes d.arrived } else d.arrived).known_end ≡ None → d.arrived.known_end ≡ None
      by true is = is
      by false is = is

  read_known : (max : ℕ) → (arriving.after_read max d.arrived).known_end ≡ None → d.arrived.known_end ≡ None
  read_known max = by (is_some d.arrived.aborted)
    where
      by : (c : Bool) → (if c then d.arrived else arriving.after_reading max d.arrived).known_end ≡ None → d.arrived.known_end ≡ None
      by true is = is
      by false is = is

  asks_goes : (path : ℕ) (p : Lane) → slice_get d.lanes path ≡ Some p → (x : Ask) → p.asking ≡ x → GoesUnended (asks path x p d)
  asks_goes path p there Nothing is owner = h owner
  asks_goes path p there (AskGrant max standby) is owner = called (send_calls.Grant path max standby) _ tt (one_goes path p _ d.arrived.known_end there (λ n x. grant_unended d.arrived.known_end n p x _)) owner
  asks_goes path p there (AskAckIn next window) is owner = ack_goes path next window p there is owner
  asks_goes path p there (AskPlace at bytes) is owner = lane_goes path p _ _ there (place_known at bytes) (λ n x. arrived_unended _ n p x _ _) owner
  asks_goes path p there (AskFin at) is owner = lane_goes path p _ _ there (set_known at) (λ n x. set_unended _ n p x _) owner
  asks_goes path p there AskAckOut is owner =
      let was = h owner in record { fin = was.fin; lanes = every_set d.lanes path _ was.lanes (told_unended d.arrived.known_end _ p (was.lanes.each path p there) _ _ received_short) }

  asked_goes : (path : ℕ) (o : Option Lane) → slice_get d.lanes path ≡ o → GoesUnended (asks_at path o d)
  asked_goes path None there owner = h owner
  asked_goes path (Some p) there owner = asks_goes path p there p.asking refl owner

  moves_goes : (path : ℕ) (m : Move) (o : Option Lane) → slice_get d.lanes path ≡ o → GoesUnended (moves f path m o d)
  moves_goes path m None there owner = h owner
  moves_goes path m (Some p) there owner = lane_goes path p _ d.arrived there (λ is. is) (λ n x. moved_unended d.arrived.known_end n p x f path plain m) owner

  infinite_goes : (path pos : ℕ) (o : Option Lane) → GoesUnended (goes_infinite path pos o d)
  infinite_goes path pos None owner = h owner
  infinite_goes path pos (Some p) owner = by (may_go path pos d.send p) refl owner
    where
      given : may_go path pos d.send p ≡ true → (after_call d.send (send_calls.GoInfinite path)).owner ≡ None → ⊥
      given may none =
          let opened = and_parts p.opened (is_gathered path d.send && _) may in
          let gathered = (and_parts (is_gathered path d.send) _ opened.1).0 in
          owned (sym (ap (λ c. (if c then record d.send { owner = Some path } else d.send).owner) gathered) ∙ none)
        where
          owned : Some path ≡ None → ⊥
          owned is = cc

      by : (c : Bool) → may_go path pos d.send p ≡ c
          → GoesUnended (if c then record d { send = after_call d.send (send_calls.GoInfinite path); lanes = set d.lanes path (record p { pair = Some (record { pos = pos; place = acked_len d.send.marks }) }) } else d)
      by true may owner = absurd (given may owner)
      by false may owner = h owner

  identity_goes : (c : Bool) → c ≡ false → GoesUnended (if c then record d { send = after_call d.send send_calls.GoIdentity } else d)
  identity_goes true is owner = absurd (true≢false is)
  identity_goes false is owner = h owner

  read_goes : (max : ℕ) (c : Bool) → GoesUnended (if c then d else reads max d)
  read_goes max true owner = h owner
  read_goes max false owner =
      let was = h owner in
      record { fin = λ none. was.fin (read_known max none); lanes = record { each = λ i l at. more_written d.arrived.known_end _ _ _ l (read_known max) (omega arith) (was.lanes.each i l at) } }

  after_goes : (e : StreamEvent) → GoesUnended (after f e d)
  after_goes (event.Write bytes) owner = called (send_calls.Write bytes) d.lanes tt (λ n all. all) owner
  after_goes event.Close owner = called send_calls.Close d.lanes tt (λ n all. all) owner
  after_goes (event.Return path) owner = called (send_calls.Return path) d.lanes tt (λ n all. all) owner
  after_goes event.GoIdentity owner = identity_goes f.sender plain owner
  after_goes (event.GoInfinite path pos) owner = infinite_goes path pos (slice_get d.lanes path) owner
  after_goes event.AbortSend owner = called send_calls.Abort d.lanes tt (λ n all. all) owner
  after_goes (event.Read max) owner = read_goes max (is_done d.reader) owner
  after_goes (event.AbortRead by_peer) owner = arrived_goes _ (λ is. is) owner
  after_goes (event.Moves path m) owner = moves_goes path m (slice_get d.lanes path) refl owner
  after_goes (event.Asks path) owner = asked_goes path (slice_get d.lanes path) refl owner

-- ---- both directions

-- neither side fell back to plain TCP
pub record IsMapped (m : Modes) : Type 0 where
  pub a : m.plain_a ≡ false
  pub b : m.plain_b ≡ false

pub record BothUnended (w : Duo) : Type 0 where
  pub ab : IsMapped w.modes → GoesUnended w.ab
  pub ba : IsMapped w.modes → GoesUnended w.ba

short_of : (f : Flags) (d : Direction) → DirectionHolds f d → received d.arrived ≤ length d.send.written
short_of f d h = let within = h.arrived.top in omega (arith, within, filled-le d.arrived.places)

-- where the modes go on
modes_go : (m : Modes) (w : Duo) → (IsMapped m → IsMapped w.modes) → BothUnended w → BothUnended (record w { modes = m })
modes_go m w before h = record { ab = λ mapped owner. h.ab (before mapped) owner; ba = λ mapped owner. h.ba (before mapped) owner }

falls_a_back : (c : Bool) (m : Modes) → IsMapped (if c then m else record m { plain_a = true }) → IsMapped m
falls_a_back true m h = h
falls_a_back false m h = absurd (true≢false h.a)

falls_b_back : (c : Bool) (m : Modes) → IsMapped (if c then m else record m { plain_b = true }) → IsMapped m
falls_b_back true m h = h
falls_b_back false m h = absurd (true≢false h.b)

begins_back : (c : Bool) (m : Modes) → IsMapped (if c then m else record m { begun = true }) → IsMapped m
begins_back true m h = h
begins_back false m h = record { a = h.a; b = h.b }

sends_back : (c : Bool) (m : Modes) → IsMapped (if c then record m { join_sent = true } else m) → IsMapped m
sends_back true m h = record { a = h.a; b = h.b }
sends_back false m h = h

hears_back : (c : Bool) (m : Modes) → IsMapped (if c then record m { answered = true } else m) → IsMapped m
hears_back true m h = record { a = h.a; b = h.b }
hears_back false m h = h

event_goes : (e : Event) (w : Duo) → Holds w → BothUnended w → BothUnended (after_event e w)
event_goes (ToB e) w held h = record { ab = λ mapped owner. after_goes (flags_ab w.modes) w.ab mapped.a (short_of (flags_ab w.modes) w.ab held.ab) (h.ab mapped) e owner; ba = h.ba }
event_goes (ToA e) w held h = record { ab = h.ab; ba = λ mapped owner. after_goes (flags_ba w.modes) w.ba mapped.b (short_of (flags_ba w.modes) w.ba held.ba) (h.ba mapped) e owner }
event_goes FallA w held h = modes_go (falls_a w.modes) w (falls_a_back w.modes.begun w.modes) h
event_goes FallB w held h = modes_go (falls_b w.modes) w (falls_b_back w.modes.answered w.modes) h
event_goes LoosenA w held h = modes_go _ w (λ x. record { a = x.a; b = x.b }) h
event_goes LoosenB w held h = modes_go _ w (λ x. record { a = x.a; b = x.b }) h
event_goes BeginJoin w held h = modes_go (begins_join w.modes) w (begins_back w.modes.plain_a w.modes) h
event_goes SendJoin w held h = modes_go (sends_join w.modes) w (sends_back w.modes.begun w.modes) h
event_goes HearJoin w held h = modes_go (hears_join w.modes) w (hears_back _ w.modes) h

events_go : (events : List Event) (w : Duo) → ((more : List Event) → Holds (after_events more w)) → BothUnended w → BothUnended (after_events events w)
events_go [] w ever h = h
events_go (e ∷ events) w ever h = events_go events (after_event e w) (λ more. ever (e ∷ more)) (event_goes e w (ever []) h)

opening_unended : (checked : Bool) (paths buffer capacity : ℕ) → BothUnended (opening_over false checked paths buffer capacity)
opening_unended checked paths buffer capacity = record { ab = λ mapped owner. none; ba = λ mapped owner. none }
  where
    first : (n : ℕ) (p : Lane) → lane_over false checked ≡ p → IsUnended None n p
    first n p is = subst (IsUnended None n) is (record { latest = λ none. omega arith; acks = λ none. Every-nil _; asks = λ none. tt; acked = λ none. refl; alters = refl; plain = refl; pair = refl; fins = inl refl })

    none : AreUnended (opening_over false checked paths buffer capacity).ab
    none = record { fin = λ none. refl; lanes = record { each = λ i p there. first 0 p (in_replicate paths (lane_over false checked) i p there) } }

-- both streams after all events over links that alter nothing
pub both_unended : (checked : Bool) (paths buffer capacity : ℕ) (events : List Event) → ((more : List Event) → Holds (after_events more (opening_over false checked paths buffer capacity)))
    → BothUnended (after_events events (opening_over false checked paths buffer capacity))
both_unended checked paths buffer capacity events ever = events_go events (opening_over false checked paths buffer capacity) ever (opening_unended checked paths buffer capacity)
