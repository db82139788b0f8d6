-- Every event of a direction keeps what holds of it.
use Rattle.stream_lanes.proofs.Words.{◌≡◌, refl, sym, ◌∙◌, ap, subst, ℕ, zero, suc, ◌+◌, ◌-◌, ◌<◌, ◌≤◌, min, Bool, true, false, nat_lt, ◌==◌, ⊎_elim, [], ◌∷◌}
use Rattle.stream_lanes.proofs.Words.{◌++◌, length, take, Option, Some, None, Result, Ok, Err, if◌then◌else◌, arith, ◌&&◌, ◌||◌, set, nat_le, cases_lt}
use Rattle.stream_lanes.proofs.Words.{slice_get, take-append-le, Place, Fin, AckOut, ReadBytes, AbortReading, Arriving, filled, received, after_arrival}
use Rattle.stream_lanes.proofs.Words.{arrival_reply, edge, Placed, FinSet, Span, Why, WriteBytes, CloseBook, Grant, AckIn, ReturnBytes, GoIdentityBook}
use Rattle.stream_lanes.proofs.Words.{GoInfiniteBook, AbortBook, Sending, acked_len, after_send, decision, send_reply, reply_by, AckedBytes, AckCopy, Mapping}
use Rattle.stream_lanes.proofs.Words.{Pair, Ask, Lane, Nothing, AskGrant, AskAckIn, AskPlace, AskFin, AskAckOut, Flags, Move, moved, place_by, shifted}
use Rattle.stream_lanes.proofs.Words.{hears_sub, sends_pair, sends_fin_pair, takes_pair, places_pair, ends_pair, is_whole, takes_grant, takes_ack, takes_placed}
use Rattle.stream_lanes.proofs.Words.{takes_fin, takes_ack_out, hears, sends_piece, sends_altered, altered_piece_of, keeps, learns_mapping, learns}
use Rattle.stream_lanes.proofs.Words.{hears_data_fin, hears_fin, places, passes, clashes, lies_in, in_order, may_finish, ack_copy, Reader, Direction}
use Rattle.stream_lanes.proofs.Words.{StreamEvent, after, asks, asks_at, moves, reads, is_done, takes_read, with_send, goes_infinite, may_go, Write, Close}
use Rattle.stream_lanes.proofs.Words.{Return, GoIdentity, GoInfinite, AbortSend, Read, AbortRead, Moves, Asks, From, view_of, View, IsSent, AskHolds, LaneHolds}
use Rattle.stream_lanes.proofs.Words.{DirectionHolds, HasPlace, ReaderHolds, IsGranted, Open, LookAtSender, LookAtReceiver, WantGrant, HearAck, HearSubAck}
use Rattle.stream_lanes.proofs.Words.{SendPiece, SendAltered, SendDataFin, SendFin, SendPair, SendPlainPair, SendFinPair, Hear, Learn, HearDataFin, HearFin}
use Rattle.stream_lanes.proofs.Words.{Forget, WantPlace, WantPlacePlain, WantFin, TakePair, WantPlacePair, WantFinPair, WantAckOut, SendAck, AreNew}
use Rattle.send_book.specs.declared.call.SendReply.{SendReply}
use Rattle.reassembly_book.specs.declared.call.ReassemblyReply.{ReassemblyReply}
use Rattle.stream_lanes.proofs.Lists.{Cells-map, From-map, From-put, Has-more, Has-put, item_at}
use Rattle.stream_lanes.proofs.Bytes.{From-filled}
use Rattle.stream_lanes.proofs.Later.{Later, Anyone, arrived_later, lane_later}
use Rattle.stream_lanes.proofs.Moving.{moved_held}
use Rattle.stream_lanes.proofs.Views.{view_fits, flags_fit, received_written, received_room}
use Rattle.stream_lanes.proofs.Sends.{SendStep, unseen, write_step, close_step, return_step, go_identity_step, ack_step, grant_step}
use Rattle.stream_lanes.proofs.Going.{gathered, goes_step, goes_held}
use Rattle.stream_lanes.proofs.MarkLists.{spent_below}
use Rattle.stream_lanes.proofs.Arrivals.{ReceiveStep, place_step, fin_step, abort_step, ack_out_step}
use Rattle.stream_lanes.proofs.Reading.{read_step}
use Rattle.stream_lanes.proofs.Granting.{grant_held}
use Rattle.stream_lanes.proofs.Replies.{ack_held, place_held, fin_held, ack_out_held}

-- a move leaves the record as it is
sent_if : (c : Bool) (p q : Lane) → q.sent ≡ p.sent → (if c then q else p).sent ≡ p.sent
sent_if = elim [ true ↦ λ p q same. same | false ↦ λ p q same. refl ]

pub moved_sent : (f : Flags) (path : ℕ) (move : Move) (p : Lane) → (moved f path move p).sent ≡ p.sent
moved_sent f path Open p = sent_if (f.answered || path == 0) p (record p { opened = true }) refl
moved_sent f path LookAtSender p = refl
moved_sent f path LookAtReceiver p = refl
moved_sent f path (WantGrant max standby) p = sent_if (p.opened && nat_lt 0 max) p (record p { asking = AskGrant max standby }) refl
moved_sent f path (HearAck copy) p = elim (slice_get p.acks copy) as (λ o. (hears o p).sent ≡ p.sent) [ None ↦ refl | Some a ↦ refl ]
moved_sent f path (HearSubAck copy upto) p = at (slice_get p.acks copy) p.pair
  where
    at : (o : Option AckCopy) (q : Option Pair) → (hears_sub upto o q p).sent ≡ p.sent
    at None q = refl
    at (Some a) None = refl
    at (Some a) (Some m) = sent_if p.alters p (record p { asking = AskAckIn (place_by m (min upto a.sub)) a.window }) refl
moved_sent f path (SendPiece piece mapped) p = elim (slice_get p.pieces piece) as (λ o. (sends_piece mapped o p).sent ≡ p.sent) [ None ↦ refl | Some m ↦ refl ]
moved_sent f path (SendAltered piece mapped) p = elim (slice_get p.pieces piece) as (λ o. (sends_altered mapped o p).sent ≡ p.sent)
    [ None ↦ refl | Some m ↦ sent_if p.alters p (record p { datas = p.datas ++ altered_piece_of mapped p m ∷ [] }) refl ]
moved_sent f path SendDataFin p = refl
moved_sent f path SendFin p = sent_if (may_finish p) p (record p { fins = p.fins ++ length p.sent ∷ [] }) refl
moved_sent f path (SendPair shift) p = elim p.pair as (λ o. (sends_pair shift o p).sent ≡ p.sent)
    [ None ↦ refl | Some m ↦ sent_if (nat_le (m.pos + shift) (length p.sent)) p (record p { pairs = p.pairs ++ shifted shift m ∷ [] }) refl ]
moved_sent f path (SendPlainPair pos) p =
    sent_if (p.sender_plain && (p.opened && nat_le pos (length p.sent))) p (record p { pairs = p.pairs ++ record { pos = pos; place = pos } ∷ [] }) refl
moved_sent f path SendFinPair p = elim p.pair as (λ o. (sends_fin_pair o p).sent ≡ p.sent)
    [ None ↦ refl | Some m ↦ sent_if (p.opened && is_whole p.known_end p) p (record p { fins = p.fins ++ length p.sent ∷ [] }) refl ]
moved_sent f path (Hear copy count) p = elim (slice_get p.datas copy) as (λ o. (keeps count o p).sent ≡ p.sent) [ None ↦ refl | Some d ↦ refl ]
moved_sent f path (Learn copy) p = elim (slice_get p.datas copy) as (λ o. (learns o p).sent ≡ p.sent) [ None ↦ refl | Some d ↦ by_mapping d.mapping ]
  where
    by_clash : (c : Bool) (m : Mapping) → (if c then p else record p { maps = p.maps ++ m ∷ [] }).sent ≡ p.sent
    by_clash = elim [ true ↦ λ m. refl | false ↦ λ m. refl ]

    by_mapping : (o : Option Mapping) → (learns_mapping o p).sent ≡ p.sent
    by_mapping = elim [ None ↦ refl | Some m ↦ by_clash (clashes m p.maps) m ]
moved_sent f path (HearDataFin copy) p = elim (slice_get p.data_fins copy) as (λ o. (hears_data_fin o p).sent ≡ p.sent) [ None ↦ refl | Some e ↦ refl ]
moved_sent f path (HearFin copy) p = elim (slice_get p.fins copy) as (λ o. (hears_fin o p).sent ≡ p.sent)
    [ None ↦ refl | Some pos ↦ sent_if (pos == p.edge) p (record p { fin_in = true }) refl ]
moved_sent f path (Forget from) p = refl
moved_sent f path (WantPlace mapping count) p = elim (slice_get p.maps mapping) as (λ o. (places count o p).sent ≡ p.sent)
    [ None ↦ refl | Some m ↦ sent_if (lies_in m (in_order count p) p && passes m (in_order count p) p) p (record p { asking = AskPlace _ (in_order count p) }) refl ]
moved_sent f path (WantPlacePlain count) p = sent_if p.receiver_plain p (record p { asking = AskPlace p.edge (in_order count p) }) refl
moved_sent f path WantFin p = sent_if (p.receiver_plain && p.fin_in) p (record p { asking = AskFin p.edge }) refl
moved_sent f path (TakePair copy) p = elim (slice_get p.pairs copy) as (λ o. (takes_pair o p).sent ≡ p.sent) [ None ↦ refl | Some m ↦ refl ]
moved_sent f path (WantPlacePair count) p = elim p.taken as (λ o. (places_pair count o p).sent ≡ p.sent)
    [ None ↦ refl | Some m ↦ sent_if (p.receiver_loose && nat_le m.pos p.edge) p (record p { asking = AskPlace (place_by m p.edge) (in_order count p) }) refl ]
moved_sent f path WantFinPair p = elim p.taken as (λ o. (ends_pair o p).sent ≡ p.sent)
    [ None ↦ refl | Some m ↦ sent_if (p.receiver_loose && (p.fin_in && nat_le m.pos p.edge)) p (record p { asking = AskFin (place_by m p.edge) }) refl ]
moved_sent f path WantAckOut p = refl
moved_sent f path (SendAck next window sub) p = elim p.due as (λ c. (if c then p else record p { acks = p.acks ++ ack_copy next window sub p ∷ [] }).sent ≡ p.sent)
    [ true ↦ refl | false ↦ refl ]

-- a reply leaves the record as it is, or makes it longer
granted_more : (r : Result Span Why) (s : Sending) (p : Lane) (place : ℕ) → HasPlace p.sent place → HasPlace (takes_grant (reply_by r s) p).sent place
granted_more = elim [ Ok span ↦ λ s p place has. Has-more _ has | Err why ↦ λ s p place has. has ]

pub acked_sent : (next : ℕ) (r : SendReply) (p : Lane) → (takes_ack next r p).sent ≡ p.sent
acked_sent next (AckedBytes bytes fin) p = refl
acked_sent next _ p = refl

pub placed_sent : (count : ℕ) (r : ReassemblyReply) (p : Lane) → (takes_placed count r p).sent ≡ p.sent
placed_sent count (Placed new) p = refl
placed_sent count _ p = refl

pub fin_sent : (r : ReassemblyReply) (p : Lane) → (takes_fin r p).sent ≡ p.sent
fin_sent = elim [ FinSet ↦ λ p. refl | _ ↦ λ p. refl ]

same_places : (p q : Lane) → q.sent ≡ p.sent → (place : ℕ) → HasPlace p.sent place → HasPlace q.sent place
same_places p q same place has = subst (λ sent. HasPlace sent place) (sym same) has

module _ (f : Flags) (d : Direction) (h : DirectionHolds f d) (fallen : (view_of f d.send d.arrived).fallen ≡ true → (view_of f d.send d.arrived).alone ≡ true) where
  within : received d.arrived ≤ length d.send.written
  within = received_written (view_of f d.send d.arrived) d.arrived h.arrived

  room : f.alters ≡ false → received d.arrived ≤ edge d.arrived
  room = received_room (view_of f d.send d.arrived) d.arrived refl h.arrived

  lane_at : (path : ℕ) (p : Lane) → slice_get d.lanes path ≡ Some p → LaneHolds (view_of f d.send d.arrived) path p
  lane_at path p there = h.lanes.each path path p (omega arith) there

  -- what arrived was granted to a path
  arrived_granted : (place : ℕ) → place < received d.arrived → IsGranted d.lanes place
  arrived_granted place below = ⊎_elim
      (λ old. h.arrived.before place old)
      (λ new.
      let there = item_at (filled d.arrived.places) (place - d.arrived.read) (omega (arith, new, below)) in
      ((From-filled h.arrived.cells).each (place - d.arrived.read) place there.0 (omega (arith, new)) there.1).recorded)
      (cases_lt place d.arrived.read)

  -- what was received was granted, so new bytes stand behind it
  far : (n : ℕ) → AreNew n d.send.marks → received d.arrived ≤ n
  far n new = at (received d.arrived) refl
    where
      at : (m : ℕ) → received d.arrived ≡ m → received d.arrived ≤ n
      at zero is = omega (arith, is)
      at (suc m) is =
          let g = arrived_granted m (omega (arith, is)) in
          let lane : LaneHolds (view_of f d.send d.arrived) g.at g.item = lane_at g.at g.item g.there in
          let c = g.holds in
          let below = spent_below g.at n c.item.place d.send.marks new (lane.record_of.cells.each c.at c.item c.there).spent in
          let same = c.holds in
          omega (arith, is, below, same)

  pub lanes_later : {u : View} → Later Anyone (view_of f d.send d.arrived) u → From (LaneHolds u) 0 d.lanes
  lanes_later l = From-map (λ path p lane. lane_later l path p tt far lane) h.lanes

  lanes_put : {Q : ℕ → Type 0} {u : View} (path : ℕ) (q : Lane) → Later Q (view_of f d.send d.arrived) u → ((n : ℕ) → (n ≡ path → ⊥) → Q n) → LaneHolds u path q
      → From (LaneHolds u) 0 (set d.lanes path q)
  lanes_put path q l others here = From-put path q (λ n p apart lane. lane_later l n p (others n apart) far lane) here h.lanes

  reader_later : {Q : ℕ → Type 0} (t : Sending) → Later Q (view_of f d.send d.arrived) (view_of f t d.arrived) → ReaderHolds (view_of f t d.arrived) d.arrived d.reader
  reader_later t l = record {
    size = h.reader.size;
    out = λ exact. h.reader.out (l.exact exact) ∙ sym (ap (take d.arrived.read) l.written ∙ take-append-le d.arrived.read d.send.written l.more (omega (arith, h.arrived.top)));
    told = λ is. l.end d.arrived.read (h.reader.told is);
    once = h.reader.once;
  }

  -- a call of the send book by an application or by the modes
  app_sends : (t : Sending) → SendStep Anyone f d.send t d.arrived → DirectionHolds f (record d { send = t })
  app_sends t step = record {
    owner = step.owned h.owner;
    send = step.holds;
    arrived = arrived_later step.later d.arrived (λ place is. is) h.arrived;
    reader = reader_later t step.later;
    lanes = lanes_later step.later;
  }

  -- a call of the reassembly book by an application
  app_reads : (c : Arriving) (r : Reader) → ReceiveStep (IsGranted d.lanes) f d.send d.arrived c r → DirectionHolds f (record d { arrived = c; reader = r })
  app_reads c r step = record { owner = h.owner; send = step.send; arrived = step.arrived; reader = step.reader; lanes = lanes_later step.later }

  -- a path's call of the send book
  lane_sends : {Q : ℕ → Type 0} (path : ℕ) (p q : Lane) (t : Sending) → slice_get d.lanes path ≡ Some p → ((n : ℕ) → (n ≡ path → ⊥) → Q n)
      → SendStep Q f d.send t d.arrived → ((place : ℕ) → HasPlace p.sent place → HasPlace q.sent place) → LaneHolds (view_of f t d.arrived) path q
      → DirectionHolds f (record d { send = t; lanes = set d.lanes path q })
  lane_sends path p q t there others step more here = record {
    owner = step.owned h.owner;
    send = step.holds;
    arrived = arrived_later step.later d.arrived (λ place is. Has-put path p q there (more place) is) h.arrived;
    reader = reader_later t step.later;
    lanes = lanes_put path q step.later others here;
  }

  -- a path's call of the reassembly book
  lane_receives : (path : ℕ) (p q : Lane) (c : Arriving) → slice_get d.lanes path ≡ Some p → ReceiveStep (IsGranted d.lanes) f d.send d.arrived c d.reader
      → ((place : ℕ) → HasPlace p.sent place → HasPlace q.sent place) → LaneHolds (view_of f d.send c) path q
      → DirectionHolds f (record d { arrived = c; lanes = set d.lanes path q })
  lane_receives path p q c there step more here = record {
    owner = h.owner;
    send = step.send;
    arrived = record {
      top = step.arrived.top;
      cells = Cells-map (λ place byte sent. record { within = sent.within; written = sent.written; room = sent.room; recorded = Has-put path p q there (more place) sent.recorded }) step.arrived.cells;
      end = step.arrived.end;
      before = λ place below. Has-put path p q there (more place) (step.arrived.before place below);
    };
    reader = step.reader;
    lanes = lanes_put path q step.later (λ n apart. tt) here;
  }

  -- a lane moves by itself
  lane_moves : (path : ℕ) (move : Move) (o : Option Lane) → slice_get d.lanes path ≡ o → DirectionHolds f (moves f path move o d)
  lane_moves path move None there = h
  lane_moves path move (Some p) there = record {
    owner = h.owner;
    send = h.send;
    arrived = record {
      top = h.arrived.top;
      cells = Cells-map (λ place byte sent. record { within = sent.within; written = sent.written; room = sent.room; recorded = Has-put path p q there (more place) sent.recorded }) h.arrived.cells;
      end = h.arrived.end;
      before = λ place below. Has-put path p q there (more place) (h.arrived.before place below);
    };
    reader = h.reader;
    lanes = From-put path q (λ n x apart old. old)
        (moved_held f (view_of f d.send d.arrived) path move p (view_fits f d.send d.arrived fallen within h.send) (flags_fit f d.send d.arrived) (lane_at path p there)) h.lanes;
  }
    where
      q : Lane
      q = moved f path move p

      more : (place : ℕ) → HasPlace p.sent place → HasPlace q.sent place
      more = same_places p q (moved_sent f path move p)

  -- a lane makes its ask
  lane_asks : (path : ℕ) (p : Lane) → slice_get d.lanes path ≡ Some p → (a : Ask) → AskHolds (view_of f d.send d.arrived) p.sent p.opened p.edge a → DirectionHolds f (asks path a p d)
  lane_asks path p there Nothing ask = h
  lane_asks path p there (AskGrant max standby) ask =
      let lane : LaneHolds (view_of f d.send d.arrived) path p = lane_at path p there in
      let step = grant_step f d.send d.arrived h.send path max standby (λ alone. lane.modes.joined ask.0 alone) in
      lane_sends path p (takes_grant (send_reply d.send (Grant path max standby)) p) (after_send d.send (Grant path max standby)) there (λ n apart. apart) step
      (granted_more (decision path max standby d.send) d.send p)
      (grant_held f d.send d.arrived path p h.send room lane max standby ask.0 ask.1 step)
  lane_asks path p there (AskAckIn next window) ask =
      let step = ack_step f d.send d.arrived h.send next window within ask in
      lane_sends path p (takes_ack next (send_reply d.send (AckIn next window)) p) (after_send d.send (AckIn next window)) there (λ n apart. tt) step
      (same_places p (takes_ack next (send_reply d.send (AckIn next window)) p) (acked_sent next (send_reply d.send (AckIn next window)) p))
      (ack_held f d.send d.arrived h.send next window path p step far (lane_at path p there))
  lane_asks path p there (AskPlace at bytes) ask =
      let row : From (IsSent (IsGranted d.lanes) (view_of f d.send d.arrived)) at bytes = From-map (λ place byte sent. record {
        within = sent.within;
        written = sent.written;
        room = sent.room;
        recorded = record { at = path; item = p; there = there; holds = sent.recorded };
      }) ask.each in
      let step = place_step (IsGranted d.lanes) f d.send d.arrived h.send h.arrived at bytes d.reader row h.reader in
      lane_receives path p (takes_placed (length bytes) (arrival_reply d.arrived (Place at bytes)) p) (after_arrival d.arrived (Place at bytes)) there step
      (same_places p (takes_placed (length bytes) (arrival_reply d.arrived (Place at bytes)) p) (placed_sent (length bytes) (arrival_reply d.arrived (Place at bytes)) p))
      (place_held (IsGranted d.lanes) f d.send d.arrived h.send h.arrived path p far (lane_at path p there) at bytes d.reader row ask step)
  lane_asks path p there (AskFin at) ask =
      let step = fin_step (IsGranted d.lanes) f d.send d.arrived h.send h.arrived at d.reader ask h.reader in
      lane_receives path p (takes_fin (arrival_reply d.arrived (Fin at)) p) (after_arrival d.arrived (Fin at)) there step
      (same_places p (takes_fin (arrival_reply d.arrived (Fin at)) p) (fin_sent (arrival_reply d.arrived (Fin at)) p))
      (fin_held (IsGranted d.lanes) f d.send d.arrived h.send h.arrived path p far (lane_at path p there) at d.reader step)
  lane_asks path p there AskAckOut ask =
      lane_receives path p (takes_ack_out (arrival_reply d.arrived AckOut) p) (after_arrival d.arrived AckOut) there
      (ack_out_step (IsGranted d.lanes) f d.send d.arrived h.send h.arrived d.reader h.reader) (λ place has. has)
      (ack_out_held (IsGranted d.lanes) f d.send d.arrived h.send h.arrived path p far (lane_at path p there) room)

  lane_asks_at : (path : ℕ) (o : Option Lane) → slice_get d.lanes path ≡ o → DirectionHolds f (asks_at path o d)
  lane_asks_at path None there = h
  lane_asks_at path (Some p) there = lane_asks path p there p.asking (lane_at path p there).ask

  read_at : (max : ℕ) (done : Bool) → is_done d.reader ≡ done → DirectionHolds f (if done then d else reads max d)
  read_at max true is = h
  read_at max false is =
      app_reads (after_arrival d.arrived (ReadBytes max)) (takes_read (arrival_reply d.arrived (ReadBytes max)) d.reader)
      (read_step (IsGranted d.lanes) f d.send d.arrived h.send h.arrived max d.reader is h.reader)

  -- the book is given to one path alone
  identity_held : (fell : Bool) → f.sender ≡ fell → DirectionHolds f (if fell then with_send GoIdentityBook d else d)
  identity_held false is = h
  identity_held true is = app_sends (after_send d.send GoIdentityBook) (go_identity_step f d.send d.arrived h.send h.owner (fallen (ap (λ x. x || f.receiver) is)))

  infinite_held : (path pos : ℕ) (o : Option Lane) → slice_get d.lanes path ≡ o → DirectionHolds f (goes_infinite path pos o d)
  infinite_held path pos None there = h
  infinite_held path pos (Some p) there = by_may (may_go path pos d.send p) refl
    where
      q : Lane
      q = record p { pair = Some (record { pos = pos; place = acked_len d.send.marks }) }

      by_may : (c : Bool) → may_go path pos d.send p ≡ c → DirectionHolds f (if c then record d { send = after_send d.send (GoInfiniteBook path); lanes = set d.lanes path q } else d)
      by_may false is = h
      by_may true is =
          let gives : after_send d.send (GoInfiniteBook path) ≡ record d.send { owner = Some path } =
          ap (λ (c : Bool). if c then record d.send { owner = Some path } else d.send) (gathered f d.send d.arrived h.send path pos p (lane_at path p there) is) in
          subst (λ t. DirectionHolds f (record d { send = t; lanes = set d.lanes path q })) (sym gives)
          (lane_sends path p q (record d.send { owner = Some path }) there (λ n apart. tt) (goes_step f d.send d.arrived h.send path pos p (lane_at path p there) is) (λ place has. has)
          (goes_held f d.send d.arrived h.send path pos p (lane_at path p there) is far))

  pub after_held : (event : StreamEvent) → DirectionHolds f (after f event d)
  after_held (Write bytes) = app_sends (after_send d.send (WriteBytes bytes)) (write_step f d.send d.arrived h.send bytes)
  after_held Close = app_sends (after_send d.send CloseBook) (close_step f d.send d.arrived h.send)
  after_held (Return path) = app_sends (after_send d.send (ReturnBytes path)) (return_step f d.send d.arrived h.send path)
  after_held GoIdentity = identity_held f.sender refl
  after_held (GoInfinite path pos) = infinite_held path pos (slice_get d.lanes path) refl
  after_held AbortSend = app_sends (after_send d.send AbortBook) (unseen f d.send d.arrived h.send true d.send.owner (λ path is. is) (λ owned. owned))
  after_held (Read max) = read_at max (is_done d.reader) refl
  after_held (AbortRead by_peer) =
      app_reads (after_arrival d.arrived (AbortReading by_peer)) d.reader (abort_step (IsGranted d.lanes) f d.send d.arrived h.send h.arrived by_peer d.reader h.reader)
  after_held (Moves path move) = lane_moves path move (slice_get d.lanes path) refl
  after_held (Asks path) = lane_asks_at path (slice_get d.lanes path) refl
