-- What a lane's record has stays in it, whatever happens, and so do the infinite mappings and the FINs that were sent on it; what its receiver passed stays
-- passed. And a side that fell back to plain TCP fell for good.
use Rattle.std.proofs.Common.{◌≡◌, refl, sym, ap, ◌∙◌, subst, ℕ, ◌+◌, ◌-◌, ◌==◌, ◌≤◌, ◌&&◌, ◌||◌, min, nat_le, nat_lt, not, ⊎_elim, Bool, true, false, if◌then◌else◌, Option, Some, None, List, [], ◌∷◌, ◌++◌, length, append_assoc, append-nil, arith}
use Rattle.std.specs.List.{slice_get}
use Rattle.std.proofs.Math.ListN.{set}
use Rattle.judge_laws.proofs.Books.{set_either}
use Rattle.judge_laws.proofs.Standing.{some_same}
use Rattle.send_book.specs.declared.call.SendReply.TheVariants.{Acked, Granted}
use Rattle.reassembly_book.specs.Steps.{reply_to}
use Rattle.reassembly_book.specs.declared.call.ReassemblyCall.TheVariants.{AckOut}
use Rattle.reassembly_book.specs.declared.call.ReassemblyReply.{ReassemblyReply}
use Rattle.reassembly_book.specs.declared.call.ReassemblyReply.TheVariants.{Ack, FinSet, Placed}
use Rattle.send_book.specs.declared.call.SendReply.{SendReply}
use Rattle.stream_lanes.proofs.Lists.{in_more}
use Rattle.stream_lanes.specs.Duo.{Duo, Event, Modes, after_event, after_events, flags_ab, flags_ba}
use Rattle.stream_lanes.specs.Lane.{Lane, Cell, DataCopy, Mapping, Pair, Ask}
use Rattle.stream_lanes.specs.Moves.{Flags, Move, ack_copy, altered_piece_of, clashes, moved, takes_grant, takes_ack, takes_placed, takes_fin, takes_ack_out, hears, hears_sub, sends_piece, sends_altered, sends_pair, sends_fin_pair, keeps, learns, learns_mapping, hears_data_fin, hears_fin, is_whole, in_order, lies_in, may_finish, passes, place_by, places, shifted, takes_pair, places_pair, ends_pair}
use Rattle.stream_lanes.specs.Streams.{Direction, StreamEvent, after, asks, asks_at, moves, goes_infinite}

-- the infinite mappings that were sent, and the FINs
pub record SaysMore (l m : Lane) : Type 0 where
  pub pairs : (i : ℕ) (x : Pair) → slice_get l.pairs i ≡ Some x → slice_get m.pairs i ≡ Some x
  pub fins : (i n : ℕ) → slice_get l.fins i ≡ Some n → slice_get m.fins i ≡ Some n

-- a record goes on, and so does what the receiver passed
pub record Longer (l m : Lane) : Type 0 where
  pub more : List Cell
  pub is : m.sent ≡ l.sent ++ more
  pub edge : l.edge ≤ m.edge
  pub says : SaysMore l m

pub no_more : (l m : Lane) → m.pairs ≡ l.pairs → m.fins ≡ l.fins → SaysMore l m
no_more l m pairs fins = record { pairs = λ i x at. ap (λ (ps : List Pair). slice_get ps i) pairs ∙ at; fins = λ i n at. ap (λ (ns : List ℕ). slice_get ns i) fins ∙ at }

one_pair : (l m : Lane) (x : Pair) → m.pairs ≡ l.pairs ++ x ∷ [] → m.fins ≡ l.fins → SaysMore l m
one_pair l m x pairs fins = record {
  pairs = λ i y at. ap (λ (ps : List Pair). slice_get ps i) pairs ∙ in_more l.pairs (x ∷ []) i y at;
  fins = λ i n at. ap (λ (ns : List ℕ). slice_get ns i) fins ∙ at;
}

one_fin : (l m : Lane) (k : ℕ) → m.pairs ≡ l.pairs → m.fins ≡ l.fins ++ k ∷ [] → SaysMore l m
one_fin l m k pairs fins = record {
  pairs = λ i x at. ap (λ (ps : List Pair). slice_get ps i) pairs ∙ at;
  fins = λ i n at. ap (λ (ns : List ℕ). slice_get ns i) fins ∙ in_more l.fins (k ∷ []) i n at;
}

-- neither changes
abbrev pub Same : Lane → Lane → Type 0
Same q p = (q.sent ≡ p.sent) × (q.edge ≡ p.edge)

same_longer : (l m : Lane) → Same m l → SaysMore l m → Longer l m
same_longer l m same says = record { more = []; is = same.0 ∙ sym (append-nil l.sent); edge = let at = same.1 in omega (arith, at); says = says }

then_longer : (l m n : Lane) → Longer l m → Longer m n → Longer l n
then_longer l m n x y = record {
  more = x.more ++ y.more;
  is = y.is ∙ ap (λ (s : List Cell). s ++ y.more) x.is ∙ append_assoc l.sent x.more y.more;
  edge = let one = x.edge in let other = y.edge in omega (arith, one, other);
  says = record { pairs = λ i p at. y.says.pairs i p (x.says.pairs i p at); fins = λ i k at. y.says.fins i k (x.says.fins i k at) };
}

either_same : (b : Bool) (q r p : Lane) → Same q p → Same r p → Same (if b then q else r) p
either_same true q r p x y = x
either_same false q r p x y = y

pub moved_same : (f : Flags) (path : ℕ) (move : Move) (p : Lane) → Same (moved f path move p) p
moved_same f path Move.Open p = either_same _ _ p p (refl, refl) (refl, refl)
moved_same f path Move.LookAtSender p = (refl, refl)
moved_same f path Move.LookAtReceiver p = (refl, refl)
moved_same f path (Move.WantGrant max standby) p = either_same _ _ p p (refl, refl) (refl, refl)
moved_same f path (Move.HearAck copy) p = by (slice_get p.acks copy)
  where
    by : (o : Option _) → Same (hears o p) p
    by None = (refl, refl)
    by (Some a) = (refl, refl)
moved_same f path (Move.HearSubAck copy upto) p = by (slice_get p.acks copy) p.pair
  where
    by : (o : Option _) (q : Option _) → Same (hears_sub upto o q p) p
    by (Some a) (Some m) = either_same p.alters _ p p (refl, refl) (refl, refl)
    by None q = (refl, refl)
    by (Some a) None = (refl, refl)
moved_same f path (Move.SendPiece piece mapped) p = by (slice_get p.pieces piece)
  where
    by : (o : Option _) → Same (sends_piece mapped o p) p
    by None = (refl, refl)
    by (Some m) = (refl, refl)
moved_same f path (Move.SendAltered piece mapped) p = by (slice_get p.pieces piece)
  where
    by : (o : Option _) → Same (sends_altered mapped o p) p
    by None = (refl, refl)
    by (Some m) = either_same p.alters _ p p (refl, refl) (refl, refl)
moved_same f path Move.SendDataFin p = (refl, refl)
moved_same f path Move.SendFin p = either_same _ _ p p (refl, refl) (refl, refl)
moved_same f path (Move.SendPair shift) p = by p.pair
  where
    by : (o : Option _) → Same (sends_pair shift o p) p
    by None = (refl, refl)
    by (Some m) = either_same _ _ p p (refl, refl) (refl, refl)
moved_same f path (Move.SendPlainPair pos) p = either_same _ _ p p (refl, refl) (refl, refl)
moved_same f path Move.SendFinPair p = by p.pair
  where
    by : (o : Option _) → Same (sends_fin_pair o p) p
    by None = (refl, refl)
    by (Some m) = either_same _ _ p p (refl, refl) (refl, refl)
moved_same f path (Move.Hear copy count) p = by (slice_get p.datas copy)
  where
    by : (o : Option _) → Same (keeps count o p) p
    by None = (refl, refl)
    by (Some d) = (refl, refl)
moved_same f path (Move.Learn copy) p = by (slice_get p.datas copy)
  where
    mapping : (o : Option _) → Same (learns_mapping o p) p
    mapping None = (refl, refl)
    mapping (Some m) = either_same _ p _ p (refl, refl) (refl, refl)

    by : (o : Option _) → Same (learns o p) p
    by None = (refl, refl)
    by (Some d) = mapping d.mapping
moved_same f path (Move.HearDataFin copy) p = by (slice_get p.data_fins copy)
  where
    by : (o : Option ℕ) → Same (hears_data_fin o p) p
    by None = (refl, refl)
    by (Some e) = (refl, refl)
moved_same f path (Move.HearFin copy) p = by (slice_get p.fins copy)
  where
    by : (o : Option ℕ) → Same (hears_fin o p) p
    by None = (refl, refl)
    by (Some e) = either_same _ _ p p (refl, refl) (refl, refl)
moved_same f path (Move.Forget from) p = (refl, refl)
moved_same f path (Move.WantPlace mapping count) p = by (slice_get p.maps mapping)
  where
    by : (o : Option _) → Same (places count o p) p
    by None = (refl, refl)
    by (Some m) = either_same _ _ p p (refl, refl) (refl, refl)
moved_same f path (Move.WantPlacePlain count) p = either_same _ _ p p (refl, refl) (refl, refl)
moved_same f path Move.WantFin p = either_same _ _ p p (refl, refl) (refl, refl)
moved_same f path (Move.TakePair copy) p = by (slice_get p.pairs copy)
  where
    by : (o : Option _) → Same (takes_pair o p) p
    by None = (refl, refl)
    by (Some m) = (refl, refl)
moved_same f path (Move.WantPlacePair count) p = by p.taken
  where
    by : (o : Option _) → Same (places_pair count o p) p
    by None = (refl, refl)
    by (Some m) = either_same _ _ p p (refl, refl) (refl, refl)
moved_same f path Move.WantFinPair p = by p.taken
  where
    by : (o : Option _) → Same (ends_pair o p) p
    by None = (refl, refl)
    by (Some m) = either_same _ _ p p (refl, refl) (refl, refl)
moved_same f path Move.WantAckOut p = (refl, refl)
moved_same f path (Move.SendAck next window sub) p = either_same p.due p _ p (refl, refl) (refl, refl)

-- ---- what a move says

says_same : (p : Lane) → SaysMore p p
says_same p = no_more p p refl refl

either_says : (b : Bool) (q r p : Lane) → SaysMore p q → SaysMore p r → SaysMore p (if b then q else r)
either_says true q r p x y = x
either_says false q r p x y = y

moved_says : (f : Flags) (path : ℕ) (move : Move) (p : Lane) → SaysMore p (moved f path move p)
moved_says f path Move.Open p = either_says (f.answered || path == 0) (record p { opened = true }) p p (no_more p (record p { opened = true }) refl refl) (says_same p)
moved_says f path Move.LookAtSender p = no_more p _ refl refl
moved_says f path Move.LookAtReceiver p = no_more p _ refl refl
moved_says f path (Move.WantGrant max standby) p =
    let asks : Lane = record p { asking = Ask.AskGrant max standby } in either_says (p.opened && nat_lt 0 max) asks p p (no_more p asks refl refl) (says_same p)
moved_says f path (Move.HearAck copy) p = by (slice_get p.acks copy)
  where
    by : (o : Option _) → SaysMore p (hears o p)
    by None = says_same p
    by (Some a) = no_more p _ refl refl
moved_says f path (Move.HearSubAck copy upto) p = by (slice_get p.acks copy) p.pair
  where
    by : (o : Option _) (q : Option _) → SaysMore p (hears_sub upto o q p)
    by (Some a) (Some m) =
        let asks : Lane = record p { asking = Ask.AskAckIn (place_by m (min upto a.sub)) a.window } in either_says p.alters asks p p (no_more p asks refl refl) (says_same p)
    by None q = says_same p
    by (Some a) None = says_same p
moved_says f path (Move.SendPiece piece mapped) p = by (slice_get p.pieces piece)
  where
    by : (o : Option _) → SaysMore p (sends_piece mapped o p)
    by None = says_same p
    by (Some m) = no_more p _ refl refl
moved_says f path (Move.SendAltered piece mapped) p = by (slice_get p.pieces piece)
  where
    by : (o : Option _) → SaysMore p (sends_altered mapped o p)
    by None = says_same p
    by (Some m) =
        let sends : Lane = record p { datas = p.datas ++ altered_piece_of mapped p m ∷ [] } in either_says p.alters sends p p (no_more p sends refl refl) (says_same p)
moved_says f path Move.SendDataFin p = no_more p _ refl refl
moved_says f path Move.SendFin p =
    let sends : Lane = record p { fins = p.fins ++ length p.sent ∷ [] } in either_says (may_finish p) sends p p (one_fin p sends (length p.sent) refl refl) (says_same p)
moved_says f path (Move.SendPair shift) p = by p.pair
  where
    by : (o : Option Pair) → SaysMore p (sends_pair shift o p)
    by None = says_same p
    by (Some m) =
        either_says (nat_le (m.pos + shift) (length p.sent)) (record p { pairs = p.pairs ++ shifted shift m ∷ [] }) p p
        (one_pair p (record p { pairs = p.pairs ++ shifted shift m ∷ [] }) (shifted shift m) refl refl) (says_same p)
moved_says f path (Move.SendPlainPair pos) p =
    let sends : Lane = record p { pairs = p.pairs ++ record { pos = pos; place = pos } ∷ [] } in
    either_says (p.sender_plain && (p.opened && nat_le pos (length p.sent))) sends p p (one_pair p sends (record { pos = pos; place = pos }) refl refl) (says_same p)
moved_says f path Move.SendFinPair p = by p.pair
  where
    by : (o : Option Pair) → SaysMore p (sends_fin_pair o p)
    by None = says_same p
    by (Some m) =
        either_says (p.opened && is_whole p.known_end p) (record p { fins = p.fins ++ length p.sent ∷ [] }) p p
        (one_fin p (record p { fins = p.fins ++ length p.sent ∷ [] }) (length p.sent) refl refl) (says_same p)
moved_says f path (Move.Hear copy count) p = by (slice_get p.datas copy)
  where
    by : (o : Option _) → SaysMore p (keeps count o p)
    by None = says_same p
    by (Some d) = no_more p _ refl refl
moved_says f path (Move.Learn copy) p = by (slice_get p.datas copy)
  where
    mapping : (o : Option Mapping) → SaysMore p (learns_mapping o p)
    mapping None = says_same p
    mapping (Some m) = either_says (clashes m p.maps) p (record p { maps = p.maps ++ m ∷ [] }) p (says_same p) (no_more p (record p { maps = p.maps ++ m ∷ [] }) refl refl)

    by : (o : Option DataCopy) → SaysMore p (learns o p)
    by None = says_same p
    by (Some d) = mapping d.mapping
moved_says f path (Move.HearDataFin copy) p = by (slice_get p.data_fins copy)
  where
    by : (o : Option ℕ) → SaysMore p (hears_data_fin o p)
    by None = says_same p
    by (Some e) = no_more p _ refl refl
moved_says f path (Move.HearFin copy) p = by (slice_get p.fins copy)
  where
    by : (o : Option ℕ) → SaysMore p (hears_fin o p)
    by None = says_same p
    by (Some e) = either_says (e == p.edge) (record p { fin_in = true }) p p (no_more p (record p { fin_in = true }) refl refl) (says_same p)
moved_says f path (Move.Forget from) p = no_more p _ refl refl
moved_says f path (Move.WantPlace mapping count) p = by (slice_get p.maps mapping)
  where
    by : (o : Option _) → SaysMore p (places count o p)
    by None = says_same p
    by (Some m) =
        let asks : Lane = record p { asking = Ask.AskPlace (m.place + (p.edge - m.pos)) (in_order count p) } in
        either_says (lies_in m (in_order count p) p && passes m (in_order count p) p) asks p p (no_more p asks refl refl) (says_same p)
moved_says f path (Move.WantPlacePlain count) p =
    let asks : Lane = record p { asking = Ask.AskPlace p.edge (in_order count p) } in either_says p.receiver_plain asks p p (no_more p asks refl refl) (says_same p)
moved_says f path Move.WantFin p =
    let asks : Lane = record p { asking = Ask.AskFin p.edge } in either_says (p.receiver_plain && p.fin_in) asks p p (no_more p asks refl refl) (says_same p)
moved_says f path (Move.TakePair copy) p = by (slice_get p.pairs copy)
  where
    by : (o : Option _) → SaysMore p (takes_pair o p)
    by None = says_same p
    by (Some m) = no_more p _ refl refl
moved_says f path (Move.WantPlacePair count) p = by p.taken
  where
    by : (o : Option _) → SaysMore p (places_pair count o p)
    by None = says_same p
    by (Some m) =
        let asks : Lane = record p { asking = Ask.AskPlace (place_by m p.edge) (in_order count p) } in
        either_says (p.receiver_loose && nat_le m.pos p.edge) asks p p (no_more p asks refl refl) (says_same p)
moved_says f path Move.WantFinPair p = by p.taken
  where
    by : (o : Option _) → SaysMore p (ends_pair o p)
    by None = says_same p
    by (Some m) =
        let asks : Lane = record p { asking = Ask.AskFin (place_by m p.edge) } in
        either_says (p.receiver_loose && (p.fin_in && nat_le m.pos p.edge)) asks p p (no_more p asks refl refl) (says_same p)
moved_says f path Move.WantAckOut p = no_more p _ refl refl
moved_says f path (Move.SendAck next window sub) p =
    let sends : Lane = record p { acks = p.acks ++ ack_copy next window sub p ∷ [] } in either_says p.due p sends p (says_same p) (no_more p sends refl refl)

-- ---- a direction

abbrev pub LanesGrow : List Lane → List Lane → Type 0
LanesGrow old new = (n : ℕ) (l : Lane) → slice_get old n ≡ Some l → (m : Lane) × (slice_get new n ≡ Some m) × Longer l m

pub same_lanes : (lanes : List Lane) → LanesGrow lanes lanes
same_lanes lanes n l at = (l, at, same_longer l l (refl, refl) (says_same l))

pub set_lanes : (lanes : List Lane) (path : ℕ) (p q : Lane) → slice_get lanes path ≡ Some p → Longer p q → LanesGrow lanes (set lanes path q)
set_lanes lanes path p q there longer n l at = ⊎_elim
    (λ both. let same : p ≡ l = some_same p l (sym there ∙ ap (slice_get lanes) both.0 ∙ at) in (q, both.1, subst (λ (x : Lane). Longer x q) same longer))
    (λ other. (l, other, same_longer l l (refl, refl) (says_same l)))
    (set_either lanes path n q l at)

grant_longer : (reply : SendReply) (p : Lane) → Longer p (takes_grant reply p)
grant_longer (Granted span piece) p = record { more = _; is = refl; edge = omega arith; says = no_more p _ refl refl }
grant_longer _ p = same_longer p _ (refl, refl) (no_more p _ refl refl)

pub ack_same : (next : ℕ) (reply : SendReply) (p : Lane) → Same (takes_ack next reply p) p
ack_same next (Acked bytes fin) p = (refl, refl)
ack_same next _ p = (refl, refl)

placed_longer : (count : ℕ) (reply : ReassemblyReply) (p : Lane) → Longer p (takes_placed count reply p)
placed_longer count (Placed new) p = record { more = []; is = sym (append-nil p.sent); edge = omega arith; says = no_more p _ refl refl }
placed_longer count _ p = same_longer p _ (refl, refl) (no_more p _ refl refl)

ack_says : (next : ℕ) (reply : SendReply) (p : Lane) → SaysMore p (takes_ack next reply p)
ack_says next (Acked bytes fin) p = no_more p _ refl refl
ack_says next _ p = no_more p _ refl refl

fin_says : (reply : ReassemblyReply) (p : Lane) → SaysMore p (takes_fin reply p)
fin_says FinSet p = no_more p _ refl refl
fin_says _ p = no_more p _ refl refl

out_says : (reply : ReassemblyReply) (p : Lane) → SaysMore p (takes_ack_out reply p)
out_says (Ack next window) p = no_more p _ refl refl
out_says _ p = no_more p _ refl refl

pub fin_same : (reply : ReassemblyReply) (p : Lane) → Same (takes_fin reply p) p
fin_same FinSet p = (refl, refl)
fin_same _ p = (refl, refl)

pub out_same : (reply : ReassemblyReply) (p : Lane) → Same (takes_ack_out reply p) p
out_same (Ack next window) p = (refl, refl)
out_same _ p = (refl, refl)

pub asks_grow : (path : ℕ) (ask : Ask) (p : Lane) (d : Direction) → slice_get d.lanes path ≡ Some p → LanesGrow d.lanes (asks path ask p d).lanes
asks_grow path Ask.Nothing p d there = same_lanes d.lanes
asks_grow path (Ask.AskGrant max standby) p d there = set_lanes d.lanes path p _ there (grant_longer _ p)
asks_grow path (Ask.AskAckIn next window) p d there = set_lanes d.lanes path p _ there (same_longer p _ (ack_same next _ p) (ack_says next _ p))
asks_grow path (Ask.AskPlace at bytes) p d there = set_lanes d.lanes path p _ there (placed_longer _ _ p)
asks_grow path (Ask.AskFin at) p d there = set_lanes d.lanes path p _ there (same_longer p _ (fin_same _ p) (fin_says _ p))
asks_grow path Ask.AskAckOut p d there =
    set_lanes d.lanes path p (takes_ack_out (reply_to d.arrived AckOut) p) there (same_longer p (takes_ack_out (reply_to d.arrived AckOut) p) (out_same (reply_to d.arrived AckOut) p) (out_says (reply_to d.arrived AckOut) p))

either_lanes : (old : List Lane) (b : Bool) (d e : Direction) → LanesGrow old d.lanes → LanesGrow old e.lanes → LanesGrow old (if b then d else e).lanes
either_lanes old true d e x y = x
either_lanes old false d e x y = y

pub event_lanes : (f : Flags) (event : StreamEvent) (d : Direction) → LanesGrow d.lanes (after f event d).lanes
event_lanes f (StreamEvent.Write bytes) d = same_lanes d.lanes
event_lanes f StreamEvent.Close d = same_lanes d.lanes
event_lanes f (StreamEvent.Return path) d = same_lanes d.lanes
event_lanes f StreamEvent.GoIdentity d = either_lanes d.lanes f.sender _ d (same_lanes d.lanes) (same_lanes d.lanes)
event_lanes f (StreamEvent.GoInfinite path pos) d = by (slice_get d.lanes path) refl
  where
    by : (o : Option Lane) → slice_get d.lanes path ≡ o → LanesGrow d.lanes (goes_infinite path pos o d).lanes
    by None at = same_lanes d.lanes
    by (Some p) at = either_lanes d.lanes _ _ d (set_lanes d.lanes path p _ at (same_longer p _ (refl, refl) (no_more p _ refl refl))) (same_lanes d.lanes)
event_lanes f StreamEvent.AbortSend d = same_lanes d.lanes
event_lanes f (StreamEvent.Read max) d = either_lanes d.lanes _ d _ (same_lanes d.lanes) (same_lanes d.lanes)
event_lanes f (StreamEvent.AbortRead by_peer) d = same_lanes d.lanes
event_lanes f (StreamEvent.Moves path move) d = by (slice_get d.lanes path) refl
  where
    by : (o : Option Lane) → slice_get d.lanes path ≡ o → LanesGrow d.lanes (moves f path move o d).lanes
    by None at = same_lanes d.lanes
    by (Some p) at = set_lanes d.lanes path p (moved f path move p) at (same_longer p _ (moved_same f path move p) (moved_says f path move p))
event_lanes f (StreamEvent.Asks path) d = by (slice_get d.lanes path) refl
  where
    by : (o : Option Lane) → slice_get d.lanes path ≡ o → LanesGrow d.lanes (asks_at path o d).lanes
    by None at = same_lanes d.lanes
    by (Some p) at = asks_grow path p.asking p d at

-- ---- a connection

-- a side that is in plain TCP, or was
pub record StaysPlain (m n : Modes) : Type 0 where
  pub a : m.plain_a ≡ true → n.plain_a ≡ true
  pub b : m.plain_b ≡ true → n.plain_b ≡ true

pub record Grows (d e : Duo) : Type 0 where
  pub ab : LanesGrow d.ab.lanes e.ab.lanes
  pub ba : LanesGrow d.ba.lanes e.ba.lanes
  pub plain : StaysPlain d.modes e.modes

same_plain : (m : Modes) → StaysPlain m m
same_plain m = record { a = λ is. is; b = λ is. is }

either_plain : (b : Bool) (k n m : Modes) → StaysPlain m k → StaysPlain m n → StaysPlain m (if b then k else n)
either_plain true k n m x y = x
either_plain false k n m x y = y

event_plain : (event : Event) (d : Duo) → StaysPlain d.modes (after_event event d).modes
event_plain (Event.ToB event) d = same_plain d.modes
event_plain (Event.ToA event) d = same_plain d.modes
event_plain Event.FallA d = either_plain d.modes.begun d.modes _ d.modes (same_plain d.modes) (record { a = λ is. refl; b = λ is. is })
event_plain Event.FallB d = either_plain d.modes.answered d.modes _ d.modes (same_plain d.modes) (record { a = λ is. is; b = λ is. refl })
event_plain Event.LoosenA d = record { a = λ is. is; b = λ is. is }
event_plain Event.LoosenB d = record { a = λ is. is; b = λ is. is }
event_plain Event.BeginJoin d = either_plain d.modes.plain_a d.modes _ d.modes (same_plain d.modes) (record { a = λ is. is; b = λ is. is })
event_plain Event.SendJoin d = either_plain d.modes.begun _ d.modes d.modes (record { a = λ is. is; b = λ is. is }) (same_plain d.modes)
event_plain Event.HearJoin d = either_plain (d.modes.join_sent && not d.modes.plain_b) _ d.modes d.modes (record { a = λ is. is; b = λ is. is }) (same_plain d.modes)

pub same_grows : (d : Duo) → Grows d d
same_grows d = record { ab = same_lanes d.ab.lanes; ba = same_lanes d.ba.lanes; plain = same_plain d.modes }

pub then_grows : (d e f : Duo) → Grows d e → Grows e f → Grows d f
then_grows d e f x y = record {
  ab = λ n l at. let m = x.ab n l at in let k = y.ab n m.0 m.1 in (k.0, k.1, then_longer l m.0 k.0 m.2 k.2);
  ba = λ n l at. let m = x.ba n l at in let k = y.ba n m.0 m.1 in (k.0, k.1, then_longer l m.0 k.0 m.2 k.2);
  plain = record { a = λ is. y.plain.a (x.plain.a is); b = λ is. y.plain.b (x.plain.b is) };
}

event_grows : (event : Event) (d : Duo) → Grows d (after_event event d)
event_grows event d = lanes event (event_plain event d)
  where
    lanes : (event : Event) → StaysPlain d.modes (after_event event d).modes → Grows d (after_event event d)
    lanes (Event.ToB event) plain = record { ab = event_lanes (flags_ab d.modes) event d.ab; ba = same_lanes d.ba.lanes; plain = plain }
    lanes (Event.ToA event) plain = record { ab = same_lanes d.ab.lanes; ba = event_lanes (flags_ba d.modes) event d.ba; plain = plain }
    lanes _ plain = record { ab = same_lanes d.ab.lanes; ba = same_lanes d.ba.lanes; plain = plain }

pub events_grow : (events : List Event) (d : Duo) → Grows d (after_events events d)
events_grow [] d = same_grows d
events_grow (event ∷ events) d = then_grows d (after_event event d) (after_events events (after_event event d)) (event_grows event d) (events_grow events (after_event event d))
