-- The record of what a lane was granted only gets longer, and the mappings of what was sent on it tell its places.
use Rattle.world_laws.proofs.Words.{◌≡◌, refl, sym, ◌∙◌, ap, subst, ℕ, suc, ◌+◌, ◌-◌, ◌&&◌, ◌||◌, ◌==◌, min, nat_lt, nat_le, ⊎_elim, Bool, true, false}
use Rattle.world_laws.proofs.Words.{if◌then◌else◌, Option, Some, None, Result, Ok, Err, List, [], ◌∷◌, ◌++◌, length, arith, set, cases_eq, append-nil}
use Rattle.world_laws.proofs.Words.{append_assoc, map-append, same_Some, slice_get, IfSome, Side, A, B, ReassemblyReply, arrival_reply, Place, AckOut, Span}
use Rattle.world_laws.proofs.Words.{Why, Sending, acked_len, decision, reply_by, after_send, send_reply, AckIn, GoInfiniteBook, GoIdentityBook, SendReply}
use Rattle.world_laws.proofs.Words.{KeptMapping, run_of, PathState, Carried, Profile, in_more, set_same, set_other, Duo, after_events, after_event, flags_ab}
use Rattle.world_laws.proofs.Words.{flags_ba, IsRight, LaneHolds, Cell, Mapping, Pair, DataCopy, AckCopy, Lane, View, Direction, StreamEvent, reads, asks}
use Rattle.world_laws.proofs.Words.{asks_at, is_done, with_send, goes_infinite, may_go, ToB, ToA, Flags, Move, moved, place_by, shifted, is_whole, sends_pair}
use Rattle.world_laws.proofs.Words.{sends_fin_pair, takes_pair, places_pair, ends_pair, hears, sends_piece, sends_altered, altered_piece_of, keeps, learns}
use Rattle.world_laws.proofs.Words.{learns_mapping, hears_data_fin, hears_fin, places, passes, lies_in, ack_copy, places_of, takes_grant, takes_ack}
use Rattle.world_laws.proofs.Words.{takes_placed, takes_fin, takes_ack_out, Nothing, AskGrant, AskAckIn, AskPlace, AskFin, AskAckOut, GoIdentity, Moves, Asks}
use Rattle.world_laws.proofs.Words.{Open, LookAtSender, LookAtReceiver, WantGrant, HearAck, HearSubAck, SendPiece, SendAltered, SendDataFin, SendFin, SendPair}
use Rattle.world_laws.proofs.Words.{SendPlainPair, SendFinPair, Hear, HearDataFin, HearFin, Forget, WantPlace, WantPlacePlain, WantFin, TakePair, WantPlacePair}
use Rattle.world_laws.proofs.Words.{WantFinPair, WantAckOut, SendAck}
use Rattle.dss_mapping.specs.Mappings.{octets_of}
use Rattle.reassembly_book.specs.declared.call.ReassemblyCall.TheVariants.{Fin}
use Rattle.reassembly_book.specs.declared.call.ReassemblyReply.TheVariants.{Placed, FinSet, Ack}
use Rattle.send_book.specs.declared.call.SendReply.TheVariants.{Acked}
use Rattle.stream_lanes.specs.Lane.{Ask}
use Rattle.stream_lanes.specs.Moves.{hears_sub, clashes, in_order, may_finish}
use Rattle.stream_lanes.specs.Moves.Move.{Learn}
use Rattle.stream_lanes.specs.Streams.{moves, after}
use Rattle.stream_lanes.specs.Streams.StreamEvent.{GoInfinite, Read}
use Rattle.stream_lanes.specs.Duo.{Event}
use Rattle.stream_lanes.proofs.Directions.{moved_sent, acked_sent, placed_sent, fin_sent}
use Rattle.world_laws.proofs.Places.StepsKeep.{Tells, PathKnows}
use Rattle.world_laws.proofs.Lanes.Showing.{HeldShows}

-- ---- a lane

-- a lane was granted what the other was, and maybe more; and it is open where the other is
pub record IsLonger (p q : Lane) : Type 0 where
  pub more : List Cell
  pub is : q.sent ≡ p.sent ++ more
  pub opened : p.opened ≡ true → q.opened ≡ true

same_longer : (p q : Lane) → q.sent ≡ p.sent → (p.opened ≡ true → q.opened ≡ true) → IsLonger p q
same_longer p q same opened = record { more = []; is = same ∙ sym (append-nil p.sent); opened = opened }

then_longer : (p q r : Lane) → IsLonger p q → IsLonger q r → IsLonger p r
then_longer p q r x y = record {
  more = x.more ++ y.more;
  is = y.is ∙ ap (λ sent. sent ++ y.more) x.is ∙ append_assoc p.sent x.more y.more;
  opened = λ is. y.opened (x.opened is);
}

granted_longer : (o : Result Span Why) (b : Sending) (p : Lane) → IsLonger p (takes_grant (reply_by o b) p)
granted_longer (Ok span) b p = record { more = _; is = refl; opened = λ is. is }
granted_longer (Err why) b p = same_longer p _ refl (λ is. is)

pub ack_out_sent : (r : ReassemblyReply) (p : Lane) → (takes_ack_out r p).sent ≡ p.sent
ack_out_sent = elim [ Ack next window ↦ λ p. refl | _ ↦ λ p. refl ]

-- replies leave a lane open
acked_opened : (next : ℕ) (r : SendReply) (p : Lane) → (takes_ack next r p).opened ≡ p.opened
acked_opened next (Acked bytes fin) p = refl
acked_opened next _ p = refl

placed_opened : (count : ℕ) (r : ReassemblyReply) (p : Lane) → (takes_placed count r p).opened ≡ p.opened
placed_opened count (Placed new) p = refl
placed_opened count _ p = refl

fin_opened : (r : ReassemblyReply) (p : Lane) → (takes_fin r p).opened ≡ p.opened
fin_opened = elim [ FinSet ↦ λ p. refl | _ ↦ λ p. refl ]

ack_out_opened : (r : ReassemblyReply) (p : Lane) → (takes_ack_out r p).opened ≡ p.opened
ack_out_opened = elim [ Ack next window ↦ λ p. refl | _ ↦ λ p. refl ]

-- and so do its moves
opened_if : (c : Bool) (p q : Lane) → (p.opened ≡ true → q.opened ≡ true) → p.opened ≡ true → (if c then q else p).opened ≡ true
opened_if = elim [ true ↦ λ p q more is. more is | false ↦ λ p q more is. is ]

module _ (p : Lane) (is : p.opened ≡ true) where
  opened_ack : (o : Option AckCopy) → (hears o p).opened ≡ true
  opened_ack = elim [ None ↦ is | Some a ↦ is ]

  opened_piece : (mapped : Bool) (o : Option Mapping) → (sends_piece mapped o p).opened ≡ true
  opened_piece mapped None = is
  opened_piece mapped (Some m) = is

  opened_altered : (mapped : Bool) (o : Option Mapping) → (sends_altered mapped o p).opened ≡ true
  opened_altered mapped None = is
  opened_altered mapped (Some m) = opened_if p.alters p (record p { datas = p.datas ++ altered_piece_of mapped p m ∷ [] }) (λ x. x) is

  opened_copy : (count : ℕ) (o : Option DataCopy) → (keeps count o p).opened ≡ true
  opened_copy count None = is
  opened_copy count (Some d) = is

  opened_mapping : (o : Option Mapping) → (learns_mapping o p).opened ≡ true
  opened_mapping None = is
  opened_mapping (Some m) = elim (clashes m p.maps) as (λ c. (if c then p else record p { maps = p.maps ++ m ∷ [] }).opened ≡ true) [ true ↦ is | false ↦ is ]

  opened_learned : (o : Option DataCopy) → (learns o p).opened ≡ true
  opened_learned = elim [ None ↦ is | Some d ↦ opened_mapping d.mapping ]

  opened_end : (o : Option ℕ) → (hears_data_fin o p).opened ≡ true
  opened_end = elim [ None ↦ is | Some e ↦ is ]

  opened_fin : (o : Option ℕ) → (hears_fin o p).opened ≡ true
  opened_fin None = is
  opened_fin (Some pos) = opened_if (pos == p.edge) p (record p { fin_in = true }) (λ x. x) is

  opened_place : (count : ℕ) (o : Option Mapping) → (places count o p).opened ≡ true
  opened_place count None = is
  opened_place count (Some m) = opened_if (lies_in m (in_order count p) p && passes m (in_order count p) p) p (record p { asking = AskPlace _ (in_order count p) }) (λ x. x) is

  opened_sub : (upto : ℕ) (o : Option AckCopy) (q : Option Pair) → (hears_sub upto o q p).opened ≡ true
  opened_sub upto None q = is
  opened_sub upto (Some a) None = is
  opened_sub upto (Some a) (Some m) = opened_if p.alters p (record p { asking = AskAckIn (place_by m (min upto a.sub)) a.window }) (λ x. x) is

  opened_pair : (shift : ℕ) (o : Option Pair) → (sends_pair shift o p).opened ≡ true
  opened_pair shift None = is
  opened_pair shift (Some m) = opened_if (nat_le (m.pos + shift) (length p.sent)) p (record p { pairs = p.pairs ++ shifted shift m ∷ [] }) (λ x. x) is

  opened_fin_pair : (o : Option Pair) → (sends_fin_pair o p).opened ≡ true
  opened_fin_pair None = is
  opened_fin_pair (Some m) = opened_if (p.opened && is_whole p.known_end p) p (record p { fins = p.fins ++ length p.sent ∷ [] }) (λ x. x) is

  opened_taken : (o : Option Pair) → (takes_pair o p).opened ≡ true
  opened_taken = elim [ None ↦ is | Some m ↦ is ]

  opened_place_pair : (count : ℕ) (o : Option Pair) → (places_pair count o p).opened ≡ true
  opened_place_pair count None = is
  opened_place_pair count (Some m) =
      opened_if (p.receiver_loose && nat_le m.pos p.edge) p (record p { asking = AskPlace (place_by m p.edge) (in_order count p) }) (λ x. x) is

  opened_end_pair : (o : Option Pair) → (ends_pair o p).opened ≡ true
  opened_end_pair None = is
  opened_end_pair (Some m) = opened_if (p.receiver_loose && (p.fin_in && nat_le m.pos p.edge)) p (record p { asking = AskFin (place_by m p.edge) }) (λ x. x) is

  moved_opened : (f : Flags) (path : ℕ) (move : Move) → (moved f path move p).opened ≡ true
  moved_opened f path Open = opened_if (f.answered || path == 0) p (record p { opened = true }) (λ x. refl) is
  moved_opened f path LookAtSender = is
  moved_opened f path LookAtReceiver = is
  moved_opened f path (WantGrant max standby) = opened_if (p.opened && nat_lt 0 max) p (record p { asking = AskGrant max standby }) (λ x. x) is
  moved_opened f path (HearAck copy) = opened_ack (slice_get p.acks copy)
  moved_opened f path (HearSubAck copy upto) = opened_sub upto (slice_get p.acks copy) p.pair
  moved_opened f path (SendPiece piece mapped) = opened_piece mapped (slice_get p.pieces piece)
  moved_opened f path (SendAltered piece mapped) = opened_altered mapped (slice_get p.pieces piece)
  moved_opened f path SendDataFin = is
  moved_opened f path SendFin = opened_if (may_finish p) p (record p { fins = p.fins ++ length p.sent ∷ [] }) (λ x. x) is
  moved_opened f path (SendPair shift) = opened_pair shift p.pair
  moved_opened f path (SendPlainPair pos) =
      opened_if (p.sender_plain && (p.opened && nat_le pos (length p.sent))) p (record p { pairs = p.pairs ++ record { pos = pos; place = pos } ∷ [] }) (λ x. x) is
  moved_opened f path SendFinPair = opened_fin_pair p.pair
  moved_opened f path (Hear copy count) = opened_copy count (slice_get p.datas copy)
  moved_opened f path (Learn copy) = opened_learned (slice_get p.datas copy)
  moved_opened f path (HearDataFin copy) = opened_end (slice_get p.data_fins copy)
  moved_opened f path (HearFin copy) = opened_fin (slice_get p.fins copy)
  moved_opened f path (Forget from) = is
  moved_opened f path (WantPlace mapping count) = opened_place count (slice_get p.maps mapping)
  moved_opened f path (WantPlacePlain count) = opened_if p.receiver_plain p (record p { asking = AskPlace p.edge (in_order count p) }) (λ x. x) is
  moved_opened f path WantFin = opened_if (p.receiver_plain && p.fin_in) p (record p { asking = AskFin p.edge }) (λ x. x) is
  moved_opened f path (TakePair copy) = opened_taken (slice_get p.pairs copy)
  moved_opened f path (WantPlacePair count) = opened_place_pair count p.taken
  moved_opened f path WantFinPair = opened_end_pair p.taken
  moved_opened f path WantAckOut = is
  moved_opened f path (SendAck next window sub) = elim p.due as (λ c. (if c then p else record p { acks = p.acks ++ ack_copy next window sub p ∷ [] }).opened ≡ true)
      [ true ↦ is | false ↦ is ]

-- ---- a direction that has a longer lane at this place

pub record Lasts (number : ℕ) (p : Lane) (d : Direction) : Type 0 where
  pub lane : Lane
  pub there : slice_get d.lanes number ≡ Some lane
  pub longer : IsLonger p lane

module _ (f : Flags) (number : ℕ) (p : Lane) (d : Direction) (h : Lasts number p d) where
  stays : (e : Direction) → e.lanes ≡ d.lanes → Lasts number p e
  stays e same = record { lane = h.lane; there = ap (λ lanes. slice_get lanes number) same ∙ h.there; longer = h.longer }

  -- a longer lane is put to some place
  put_lasts : (path : ℕ) (q r : Lane) (e : Direction) → e.lanes ≡ set d.lanes path r → slice_get d.lanes path ≡ Some q → IsLonger q r → Lasts number p e
  put_lasts path q r e is there longer = ⊎_elim
      (λ same. let at : Some q ≡ Some h.lane = sym there ∙ ap (slice_get d.lanes) (sym same) ∙ h.there in
      record {
        lane = r;
        there = ap (λ lanes. slice_get lanes number) is ∙ ap (λ n. slice_get (set d.lanes path r) n) same ∙ set_same d.lanes path r q there;
        longer = then_longer p h.lane r h.longer (subst (λ x. IsLonger x r) (same_Some q h.lane at) longer);
      })
      (λ apart. record { lane = h.lane; there = ap (λ lanes. slice_get lanes number) is ∙ set_other d.lanes path r number apart ∙ h.there; longer = h.longer })
      (cases_eq number path)

  lane_asks : (path : ℕ) (a : Ask) (q : Lane) → slice_get d.lanes path ≡ Some q → Lasts number p (asks path a q d)
  lane_asks path Nothing q there = h
  lane_asks path (AskGrant max standby) q there = put_lasts path q _ _ refl there (granted_longer (decision path max standby d.send) d.send q)
  lane_asks path (AskAckIn next window) q there =
      let r = send_reply d.send (AckIn next window) in put_lasts path q _ _ refl there (same_longer q _ (acked_sent next r q) (λ is. acked_opened next r q ∙ is))
  lane_asks path (AskPlace at bytes) q there =
      let r = arrival_reply d.arrived (Place at bytes) in put_lasts path q _ _ refl there (same_longer q _ (placed_sent _ r q) (λ is. placed_opened _ r q ∙ is))
  lane_asks path (AskFin at) q there = let r = arrival_reply d.arrived (Fin at) in put_lasts path q _ _ refl there (same_longer q _ (fin_sent r q) (λ is. fin_opened r q ∙ is))
  lane_asks path AskAckOut q there = let r = arrival_reply d.arrived AckOut in put_lasts path q _ _ refl there (same_longer q _ (ack_out_sent r q) (λ is. ack_out_opened r q ∙ is))

  asks_last : (path : ℕ) (o : Option Lane) → slice_get d.lanes path ≡ o → Lasts number p (asks_at path o d)
  asks_last path None there = h
  asks_last path (Some q) there = lane_asks path q.asking q there

  moves_last : (path : ℕ) (m : Move) (o : Option Lane) → slice_get d.lanes path ≡ o → Lasts number p (moves f path m o d)
  moves_last path m None there = h
  moves_last path m (Some q) there = put_lasts path q _ _ refl there (same_longer q _ (moved_sent f path m q) (λ is. moved_opened q is f path m))

  reads_on : (max : ℕ) (done : Bool) → Lasts number p (if done then d else reads max d)
  reads_on max true = h
  reads_on max false = stays (reads max d) refl

  identity_lasts : (fell : Bool) → Lasts number p (if fell then with_send GoIdentityBook d else d)
  identity_lasts = elim [ true ↦ stays _ refl | false ↦ h ]

  infinite_lasts : (path pos : ℕ) (o : Option Lane) → slice_get d.lanes path ≡ o → Lasts number p (goes_infinite path pos o d)
  infinite_lasts path pos None there = h
  infinite_lasts path pos (Some q) there =
      elim (may_go path pos d.send q) as (λ may. Lasts number p (if may then record d { send = after_send d.send (GoInfiniteBook path); lanes = set d.lanes path r } else d))
      [ true ↦ put_lasts path q r _ refl there (same_longer q r refl (λ is. is)) | false ↦ h ]
    where
      r : Lane
      r = record q { pair = Some (record { pos = pos; place = acked_len d.send.marks }) }

  after_lasts : (event : StreamEvent) → Lasts number p (after f event d)
  after_lasts GoIdentity = identity_lasts f.sender
  after_lasts (GoInfinite path pos) = infinite_lasts path pos (slice_get d.lanes path) refl
  after_lasts (Read max) = reads_on max (is_done d.reader)
  after_lasts (Moves path move) = moves_last path move (slice_get d.lanes path) refl
  after_lasts (Asks path) = asks_last path (slice_get d.lanes path) refl
  after_lasts _ = stays _ refl

-- ---- both directions

pub record BothLast (number : ℕ) (p q : Lane) (d : Duo) : Type 0 where
  pub ab : Lasts number p d.ab
  pub ba : Lasts number q d.ba

duo_lasts : (event : Event) (number : ℕ) (p q : Lane) (d : Duo) → BothLast number p q d → BothLast number p q (after_event event d)
duo_lasts (ToB event) number p q d h = record { ab = after_lasts (flags_ab d.modes) number p d.ab h.ab event; ba = h.ba }
duo_lasts (ToA event) number p q d h = record { ab = h.ab; ba = after_lasts (flags_ba d.modes) number q d.ba h.ba event }
duo_lasts _ number p q d h = record { ab = h.ab; ba = h.ba }

pub all_last : (events : List Event) (number : ℕ) (p q : Lane) (d : Duo) → BothLast number p q d → BothLast number p q (after_events events d)
all_last [] number p q d h = h
all_last (event ∷ events) number p q d h = all_last events number p q (after_event event d) (duo_lasts event number p q d h)

-- the lane that is there lasts
pub there_lasts : (number : ℕ) (p : Lane) (d : Direction) → slice_get d.lanes number ≡ Some p → Lasts number p d
there_lasts number p d there = record { lane = p; there = there; longer = same_longer p p refl (λ is. is) }

-- and the one that is there at last is longer
pub last_longer : (number : ℕ) (p q : Lane) (d : Direction) → slice_get d.lanes number ≡ Some q → Lasts number p d → IsLonger p q
last_longer number p q d there h = subst (IsLonger p) (same_Some h.lane q (sym h.there ∙ there)) h.longer

-- ---- what a record says of positions, which count the SYN

pub record IsPlaceOf (sent : List Cell) (p place : ℕ) : Type 0 where
  pub pos : ℕ
  pub position_is : suc pos ≡ p
  pub there : slice_get (places_of sent) pos ≡ Some place

pub one_place : (sent : List Cell) (p place other : ℕ) → IsPlaceOf sent p place → IsPlaceOf sent p other → place ≡ other
one_place sent p place other x y =
    let same : x.pos ≡ y.pos = omega (arith, x.position_is, y.position_is) in
    same_Some place other (sym x.there ∙ ap (slice_get (places_of sent)) same ∙ y.there)

pub longer_places : (p q : Lane) → IsLonger p q → (at place : ℕ) → IsPlaceOf p.sent at place → IsPlaceOf q.sent at place
longer_places p q longer at place h = record {
  pos = h.pos;
  position_is = h.position_is;
  there = ap (λ places. slice_get places h.pos) (ap places_of longer.is ∙ map-append (λ (c : Cell). c.place) p.sent longer.more)
      ∙ in_more (places_of p.sent) (places_of longer.more) h.pos place h.there;
}

right_tells : (sent : List Cell) (m : Mapping) (kept : KeptMapping) → IsRight sent m → m.place ≡ kept.place → suc m.pos ≡ kept.pos → m.len ≡ octets_of kept
    → Tells (IsPlaceOf sent) (run_of kept)
right_tells sent m kept right place position len = record {
  each = λ p from to. record {
    pos = m.pos + (p - kept.pos);
    position_is = omega (arith, position, from);
    there = right.places (p - kept.pos) (omega (arith, len, from, to)) ∙ ap (λ n. Some n) (ap (λ n. n + (p - kept.pos)) place);
  };
}

-- a mapping that was sent tells the places of its lane
pub held_tells : (c : Profile) (v : View) (path : ℕ) (p : Lane) → LaneHolds v path p → (kept : KeptMapping) → HeldShows c p.sent p.datas kept → Tells (IsPlaceOf p.sent) (run_of kept)
held_tells c v path p h kept has =
    let mapped = has.0 in
    let right : IfSome (Some mapped.holds.mapping) (IsRight p.sent) = subst (λ o. IfSome o (IsRight p.sent)) mapped.holds.there (h.bytes.honest.each mapped.at mapped.item mapped.there).mapping in
    right_tells p.sent mapped.holds.mapping kept right mapped.holds.is.place_is mapped.holds.is.position_is mapped.holds.is.len_is

-- ---- the records of both lanes: A hears what B sent, and B what A sent

abbrev pub record_of : Lane → Lane → Side → ℕ → ℕ → Type 0
record_of ab ba A = IsPlaceOf ba.sent
record_of ab ba B = IsPlaceOf ab.sent

-- the ends of a path know these places alone
abbrev pub KnowsThose : Lane → Lane → PathState Carried → Type 0
KnowsThose ab ba p = PathKnows (record_of ab ba) p
