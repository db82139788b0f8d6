-- Where mappings are checked, the receiver's end of a lane passes each piece whole or not at all, as long as its side goes by mappings: no piece
-- lies on both sides of its edge (RFC 8684, section 3.3.1). And two pieces that begin at one position are the same.
use Rattle.std.proofs.Common.{replicate, ◌≡◌, refl, sym, subst, ap, ◌∙◌, ◌⊎◌, ⊎_elim, inl, inr, ℕ, zero, suc, ◌+◌, ◌-◌, ◌<◌, ◌≤◌, nat_le, nat_lt, ◌==◌, ◌&&◌, ◌||◌, not, arith, Bool, true, false, true≢false, if◌then◌else◌, Option, Some, None, List, [], ◌∷◌, ◌++◌, length, map, drop}
use Rattle.std.specs.List.{slice_get}
use Rattle.std.proofs.lemmas.Bool.{and_parts, cases_eq, cases_lt, eqb-true, or_cases}
use Rattle.std.proofs.lemmas.List.{length-drop, length-map, length-take}
use Rattle.std.proofs.lemmas.Option.{same_Some}
use Rattle.send_book.specs.declared.call.SendReply.{SendReply}
use Rattle.send_book.specs.declared.call.SendReply.TheVariants as send_replies
use Rattle.reassembly_book.specs.declared.call.ReassemblyReply.{ReassemblyReply}
use Rattle.reassembly_book.specs.declared.call.ReassemblyReply.TheVariants as reassembly_replies
use Rattle.stream_lanes.specs.Duo.{Duo, Event, Modes, after_event, after_events, begins_join, falls_a, falls_b, flags_ab, flags_ba, hears_join, opening_over, sends_join}
use Rattle.stream_lanes.specs.Duo.Event.{ToB, ToA, FallA, FallB, LoosenA, LoosenB, BeginJoin, SendJoin, HearJoin}
use Rattle.stream_lanes.specs.Holding.{BytesHold, Holds, IsPiece, IsRight}
use Rattle.stream_lanes.specs.Lane.{AckCopy, Ask, DataCopy, Lane, Mapping, Pair, lane_over}
use Rattle.stream_lanes.specs.Lane.Ask.{AskGrant, AskPlace, AskFin}
use Rattle.stream_lanes.specs.Moves.{Flags, Move, are_same, clashes, ends_pair, hears, hears_data_fin, hears_fin, hears_sub, in_order, is_whole, keeps, learns, learns_mapping, lies_in, may_finish, moved, part_of, passes, place_by, places, places_pair, sends_altered, sends_fin_pair, sends_pair, sends_piece, shifted, takes_ack, takes_ack_out, takes_fin, takes_grant, takes_pair, takes_placed}
use Rattle.stream_lanes.specs.Moves.{Move as move}
use Rattle.stream_lanes.specs.Streams.{Direction, asks}
use Rattle.stream_lanes.specs.Words.{Every, Has}
use Rattle.stream_lanes.proofs.Duos.{any_held}
use Rattle.stream_lanes.proofs.Lists.{Every-nil, in_append, in_one, in_replicate}
use Rattle.path_core.specs.Values.{Carried, values}
use Rattle.world_laws.specs.Openings.{Start, opened_world}
use Rattle.world_laws.specs.Promises.{IsPlain}
use Rattle.world_laws.specs.Worlds.{WorldState, Turn, world_run}
use Rattle.world_laws.proofs.Falls.FirmRuns.{firm_run}
use Rattle.world_laws.proofs.Lanes.Beginning.{each_run_shows}
use Rattle.world_laws.proofs.Lanes.OfAWorld.{Carries, WorldShows, first_duo}
use Rattle.whole_paths.specs.Mild.{IsMildStart}
use Rattle.whole_paths.proofs.EachLane.{Steps, after_goes}
use Rattle.whole_paths.proofs.FinishedThere.{never_fallen}

-- ---- a lane

-- each piece ends where a later one begins, or before
abbrev AreInOrder : List Mapping → Type 0
AreInOrder pieces = (i j : ℕ) (m n : Mapping) → slice_get pieces i ≡ Some m → slice_get pieces j ≡ Some n → i < j → m.pos + m.len ≤ n.pos

-- the bytes that are to be placed are those of a piece
abbrev AskCut : List Mapping → ℕ → Ask → Type 0
AskCut pieces edge (AskPlace at bytes) = Has (λ m. (m.pos ≡ edge) × (m.len ≡ length bytes)) pieces
AskCut pieces edge _ = Unit {0}

-- A lane whose mappings are checked, and whose receiver's end goes by them: each piece that begins before its edge ends there or before.
pub record IsCut (p : Lane) : Type 0 where
  checked : p.checked ≡ true
  mapped : p.receiver_plain ≡ false
  firm : p.receiver_loose ≡ false
  pub whole : Every (λ m. m.pos < p.edge → m.pos + m.len ≤ p.edge) p.pieces
  pub order : AreInOrder p.pieces
  asks : AskCut p.pieces p.edge p.asking

-- nothing of it changes, but what it asks
same_cut : (p q : Lane) → q.checked ≡ p.checked → q.receiver_plain ≡ p.receiver_plain → q.receiver_loose ≡ p.receiver_loose → q.pieces ≡ p.pieces → q.edge ≡ p.edge → AskCut q.pieces q.edge q.asking → IsCut p → IsCut q
same_cut p q checked mapped firm pieces edge asks h = record {
  checked = checked ∙ h.checked;
  mapped = mapped ∙ h.mapped;
  firm = firm ∙ h.firm;
  whole = subst (λ (ms : List Mapping). Every (λ m. m.pos < q.edge → m.pos + m.len ≤ q.edge) ms) (sym pieces) (subst (λ n. Every (λ (m : Mapping). m.pos < n → m.pos + m.len ≤ n) p.pieces) (sym edge) h.whole);
  order = subst AreInOrder (sym pieces) h.order;
  asks = asks;
}

either_cut : (c : Bool) (p q : Lane) → IsCut p → IsCut q → IsCut (if c then p else q)
either_cut true p q x y = x
either_cut false p q x y = y

same_size : (xs ys : List ℕ) → are_same xs ys ≡ true → length xs ≡ length ys
same_size [] [] is = refl
same_size [] (y ∷ ys) is = absurd (true≢false (sym is))
same_size (x ∷ xs) [] is = absurd (true≢false (sym is))
same_size (x ∷ xs) (y ∷ ys) is = ap suc (same_size xs ys (and_parts (x == y) (are_same xs ys) is).1)

pub part_size : (p : Lane) (m : Mapping) → IsRight p.sent m → length (part_of p.sent m) ≡ m.len
part_size p m right =
    let bytes : List ℕ = map (λ c. c.byte) p.sent in
    let within = right.within in
    omega (arith, within, length-take m.len (drop m.pos bytes), length-drop m.pos bytes, length-map p.sent (λ c. c.byte))

module _ (p : Lane) (b : BytesHold p.alters p.sent p.pieces p.datas p.edge p.kept p.maps p.acks) (h : IsCut p) where
  hears_cut : (o : Option AckCopy) → IsCut (hears o p)
  hears_cut None = h
  hears_cut (Some a) = same_cut p _ refl refl refl refl refl tt h

  sub_cut : (upto : ℕ) (o : Option AckCopy) (m : Option Pair) → IsCut (hears_sub upto o m p)
  sub_cut upto (Some a) (Some m) = either_cut p.alters _ p (same_cut p _ refl refl refl refl refl tt h) h
  sub_cut upto (Some a) None = h
  sub_cut upto None (Some m) = h
  sub_cut upto None None = h

  piece_cut : (mapped : Bool) (o : Option Mapping) → IsCut (sends_piece mapped o p)
  piece_cut mapped None = h
  piece_cut mapped (Some m) = same_cut p _ refl refl refl refl refl h.asks h

  altered_cut : (mapped : Bool) (o : Option Mapping) → IsCut (sends_altered mapped o p)
  altered_cut mapped None = h
  altered_cut mapped (Some m) = either_cut p.alters _ p (same_cut p _ refl refl refl refl refl h.asks h) h

  kept_cut : (count : ℕ) (o : Option DataCopy) → IsCut (keeps count o p)
  kept_cut count None = h
  kept_cut count (Some d) = same_cut p _ refl refl refl refl refl h.asks h

  mapping_cut : (o : Option Mapping) → IsCut (learns_mapping o p)
  mapping_cut None = h
  mapping_cut (Some m) = either_cut (clashes m p.maps) p _ h (same_cut p _ refl refl refl refl refl h.asks h)

  learned_cut : (o : Option DataCopy) → IsCut (learns o p)
  learned_cut None = h
  learned_cut (Some d) = mapping_cut d.mapping

  end_cut : (o : Option ℕ) → IsCut (hears_data_fin o p)
  end_cut None = h
  end_cut (Some at) = same_cut p _ refl refl refl refl refl tt h

  fin_cut : (o : Option ℕ) → IsCut (hears_fin o p)
  fin_cut None = h
  fin_cut (Some pos) = either_cut (pos == p.edge) _ p (same_cut p _ refl refl refl refl refl h.asks h) h

  -- the bytes pass the check of a mapping that begins at the edge: they are as many as its piece has
  places_cut : (count index : ℕ) (o : Option Mapping) → slice_get p.maps index ≡ o → IsCut (places count o p)
  places_cut count index None there = h
  places_cut count index (Some m) there = by (lies_in m (in_order count p) p && passes m (in_order count p) p) refl
    where
      bytes : List ℕ
      bytes = in_order count p

      asked : ℕ → Lane
      asked at = record p { asking = AskPlace at bytes }

      learned : IsPiece p.pieces m
      learned = b.learned.each index m there

      right : IsRight p.sent m
      right = b.right.each index m there

      next : (m.pos ≡ p.edge) × (m.len ≡ length bytes) → Has (λ (n : Mapping). (n.pos ≡ p.edge) × (n.len ≡ length bytes)) p.pieces
      next is = record { at = learned.at; item = learned.item; there = learned.there; holds = (ap (λ (n : Mapping). n.pos) learned.holds ∙ is.0, ap (λ (n : Mapping). n.len) learned.holds ∙ is.1) }

      passed : ((m.pos == p.edge) && are_same bytes (part_of p.sent m)) ≡ true → (m.pos ≡ p.edge) × (m.len ≡ length bytes)
      passed is =
          let parts = and_parts (m.pos == p.edge) (are_same bytes (part_of p.sent m)) is in
          (eqb-true m.pos p.edge parts.0, sym (part_size p m right) ∙ sym (same_size bytes (part_of p.sent m) parts.1))

      by : (c : Bool) → (lies_in m bytes p && passes m bytes p) ≡ c → IsCut (if c then record p { asking = AskPlace (m.place + (p.edge - m.pos)) bytes } else p)
      by false is = h
      by true is = same_cut p (asked (m.place + (p.edge - m.pos))) refl refl refl refl refl (next (⊎_elim
          (λ unchecked. absurd (true≢false (sym unchecked ∙ ap not h.checked)))
          passed
          (or_cases (not p.checked) ((m.pos == p.edge) && are_same bytes (part_of p.sent m)) (and_parts (lies_in m bytes p) (passes m bytes p) is).1))) h

  pair_cut : (shift : ℕ) (o : Option Pair) → IsCut (sends_pair shift o p)
  pair_cut shift None = h
  pair_cut shift (Some m) = either_cut (nat_le (m.pos + shift) (length p.sent)) (record p { pairs = p.pairs ++ shifted shift m ∷ [] }) p (same_cut p _ refl refl refl refl refl h.asks h) h

  fin_pair_cut : (o : Option Pair) → IsCut (sends_fin_pair o p)
  fin_pair_cut None = h
  fin_pair_cut (Some m) = either_cut (p.opened && is_whole p.known_end p) (record p { fins = p.fins ++ length p.sent ∷ [] }) p (same_cut p _ refl refl refl refl refl h.asks h) h

  taken_cut : (o : Option Pair) → IsCut (takes_pair o p)
  taken_cut None = h
  taken_cut (Some m) = same_cut p _ refl refl refl refl refl h.asks h

  -- by an infinite mapping, or in plain TCP, nothing is placed
  only_if : (c d : Bool) (q : Lane) → c ≡ false → IsCut (if c && d then q else p)
  only_if true d q is = absurd (true≢false is)
  only_if false d q is = h

  placed_cut : (count : ℕ) (o : Option Pair) → IsCut (places_pair count o p)
  placed_cut count None = h
  placed_cut count (Some m) = only_if p.receiver_loose _ _ h.firm

  plain_cut : (c : Bool) (q : Lane) → c ≡ false → IsCut (if c then q else p)
  plain_cut true q is = absurd (true≢false is)
  plain_cut false q is = h

  ended_cut : (o : Option Pair) → IsCut (ends_pair o p)
  ended_cut None = h
  ended_cut (Some m) = either_cut (p.receiver_loose && (p.fin_in && nat_le m.pos p.edge)) (record p { asking = AskFin (place_by m p.edge) }) p (same_cut p _ refl refl refl refl refl tt h) h

  moved_cut : (f : Flags) (path : ℕ) → f.receiver ≡ false → f.loose ≡ false → (m : Move) → IsCut (moved f path m p)
  moved_cut f path plain loose move.Open = either_cut (f.answered || path == 0) (record p { opened = true }) p (same_cut p _ refl refl refl refl refl h.asks h) h
  moved_cut f path plain loose move.LookAtSender = same_cut p _ refl refl refl refl refl h.asks h
  moved_cut f path plain loose move.LookAtReceiver = record { checked = h.checked; mapped = plain; firm = loose; whole = h.whole; order = h.order; asks = h.asks }
  moved_cut f path plain loose (move.WantGrant max standby) = either_cut (p.opened && nat_lt 0 max) (record p { asking = AskGrant max standby }) p (same_cut p _ refl refl refl refl refl tt h) h
  moved_cut f path plain loose (move.HearAck copy) = hears_cut (slice_get p.acks copy)
  moved_cut f path plain loose (move.HearSubAck copy upto) = sub_cut upto (slice_get p.acks copy) p.pair
  moved_cut f path plain loose (move.SendPiece piece mapped) = piece_cut mapped (slice_get p.pieces piece)
  moved_cut f path plain loose (move.SendAltered piece mapped) = altered_cut mapped (slice_get p.pieces piece)
  moved_cut f path plain loose move.SendDataFin = same_cut p _ refl refl refl refl refl h.asks h
  moved_cut f path plain loose move.SendFin = either_cut (may_finish p) (record p { fins = p.fins ++ length p.sent ∷ [] }) p (same_cut p _ refl refl refl refl refl h.asks h) h
  moved_cut f path plain loose (move.SendPair shift) = pair_cut shift p.pair
  moved_cut f path plain loose (move.SendPlainPair pos) = either_cut (p.sender_plain && (p.opened && nat_le pos (length p.sent))) (record p { pairs = p.pairs ++ record { pos = pos; place = pos } ∷ [] }) p (same_cut p _ refl refl refl refl refl h.asks h) h
  moved_cut f path plain loose move.SendFinPair = fin_pair_cut p.pair
  moved_cut f path plain loose (move.Hear copy count) = kept_cut count (slice_get p.datas copy)
  moved_cut f path plain loose (move.Learn copy) = learned_cut (slice_get p.datas copy)
  moved_cut f path plain loose (move.HearDataFin copy) = end_cut (slice_get p.data_fins copy)
  moved_cut f path plain loose (move.HearFin copy) = fin_cut (slice_get p.fins copy)
  moved_cut f path plain loose (move.Forget from) = same_cut p _ refl refl refl refl refl h.asks h
  moved_cut f path plain loose (move.WantPlace mapping count) = places_cut count mapping (slice_get p.maps mapping) refl
  moved_cut f path plain loose (move.WantPlacePlain count) = plain_cut p.receiver_plain _ h.mapped
  moved_cut f path plain loose move.WantFin = either_cut (p.receiver_plain && p.fin_in) (record p { asking = AskFin p.edge }) p (same_cut p _ refl refl refl refl refl tt h) h
  moved_cut f path plain loose (move.TakePair copy) = taken_cut (slice_get p.pairs copy)
  moved_cut f path plain loose (move.WantPlacePair count) = placed_cut count p.taken
  moved_cut f path plain loose move.WantFinPair = ended_cut p.taken
  moved_cut f path plain loose move.WantAckOut = same_cut p _ refl refl refl refl refl tt h
  moved_cut f path plain loose (move.SendAck next window sub) = either_cut p.due p _ h (same_cut p _ refl refl refl refl refl h.asks h)

  -- ---- what its ends make of replies

  -- a new piece begins behind all others, and at the edge or past it
  grant_cut : (r : SendReply) → IsCut (takes_grant r p)
  grant_cut (send_replies.Granted span piece) = record {
    checked = h.checked;
    mapped = h.mapped;
    firm = h.firm;
    whole = record {
      each = λ i m there. ⊎_elim
          (λ old. h.whole.each i m old)
          (λ last. (let is : last_one ≡ m = (in_one last_one m _ last.1).1 in let at : length p.sent ≡ m.pos = ap (λ (n : Mapping). n.pos) is in let within = b.within in (λ less. absurd (omega (arith, at, within, less)))))
          (in_append p.pieces (last_one ∷ []) i m there);
    };
    order = λ i j m n at there less. ⊎_elim
        (λ second. ⊎_elim
        (λ first. h.order i j m n first second less)
        (λ first. absurd (let low = first.0 in let high = index_below p.pieces j n second in omega (arith, low, high, less)))
        (in_append p.pieces (last_one ∷ []) i m at))
        (λ second. ⊎_elim
        (λ first. (let is : last_one ≡ n = (in_one last_one n _ second.1).1 in let start : length p.sent ≡ n.pos = ap (λ (k : Mapping). k.pos) is in let within = (b.granted.each i m first).within in omega (arith, start, within)))
        (λ first. absurd (let one = (in_one last_one m _ first.1).0 in let two = (in_one last_one n _ second.1).0 in let low = first.0 in let high = second.0 in omega (arith, one, two, low, high, less)))
        (in_append p.pieces (last_one ∷ []) i m at))
        (in_append p.pieces (last_one ∷ []) j n there);
    asks = tt;
  }
    where
      last_one : Mapping
      last_one = record { pos = length p.sent; place = span.from; len = length piece }

      index_below : (ms : List Mapping) (i : ℕ) (m : Mapping) → slice_get ms i ≡ Some m → i < length ms
      index_below [] i m there = cc
      index_below (x ∷ ms) zero m there = omega arith
      index_below (x ∷ ms) (suc i) m there = let rest = index_below ms i m there in omega (arith, rest)
  grant_cut (send_replies.NoGrant why end) = same_cut p _ refl refl refl refl refl tt h
  grant_cut _ = same_cut p _ refl refl refl refl refl tt h

  ack_cut : (next : ℕ) (r : SendReply) → IsCut (takes_ack next r p)
  ack_cut next (send_replies.Acked bytes fin) = same_cut p _ refl refl refl refl refl tt h
  ack_cut next _ = same_cut p _ refl refl refl refl refl tt h

  -- what is placed is a whole piece
  arrived_cut : (at : ℕ) (bytes : List ℕ) (r : ReassemblyReply) → AskCut p.pieces p.edge (AskPlace at bytes) → IsCut (takes_placed (length bytes) r p)
  arrived_cut at bytes (reassembly_replies.Placed new) here = record {
    checked = h.checked;
    mapped = h.mapped;
    firm = h.firm;
    whole = record { each = λ i m there less. upto i m there less (cases_lt i here.at) };
    order = h.order;
    asks = tt;
  }
    where
      strictly : (a b : ℕ) → a ≤ b → (a ≡ b → ⊥) → a < b
      strictly a b low apart = ⊎_elim (λ less. less) (λ most. absurd (apart (omega (arith, low, most)))) (cases_lt a b)

      upto : (i : ℕ) (m : Mapping) → slice_get p.pieces i ≡ Some m → m.pos < p.edge + length bytes → (i < here.at) ⊎ (here.at ≤ i) → m.pos + m.len ≤ p.edge + length bytes
      upto i m there less (inl before) = (let ends = h.order i here.at m here.item there here.there before in let start = here.holds.0 in omega (arith, ends, start))
      upto i m there less (inr behind) = ⊎_elim
          (λ same. (let is : m ≡ here.item = same_Some m here.item (sym there ∙ ap (slice_get p.pieces) same ∙ here.there) in
          let pos = ap (λ (n : Mapping). n.pos) is in let len = ap (λ (n : Mapping). n.len) is in let start = here.holds.0 in let size = here.holds.1 in omega (arith, pos, len, start, size)))
          (λ apart. absurd (let later : here.at < i = strictly here.at i behind (λ is. apart (sym is)) in let ends = h.order here.at i here.item m here.there there later in let start = here.holds.0 in let size = here.holds.1 in omega (arith, ends, start, size, less)))
          (cases_eq i here.at)
  arrived_cut at bytes _ here = same_cut p _ refl refl refl refl refl tt h

  set_cut : (r : ReassemblyReply) → IsCut (takes_fin r p)
  set_cut reassembly_replies.FinSet = same_cut p _ refl refl refl refl refl tt h
  set_cut _ = same_cut p _ refl refl refl refl refl tt h

  told_cut : (next window : ℕ) → IsCut (takes_ack_out (reassembly_replies.Ack next window) p)
  told_cut next window = same_cut p _ refl refl refl refl refl tt h

-- two pieces that begin at one position are the same
pub one_piece : (p : Lane) → BytesHold p.alters p.sent p.pieces p.datas p.edge p.kept p.maps p.acks → IsCut p → (i j : ℕ) (m n : Mapping) → slice_get p.pieces i ≡ Some m → slice_get p.pieces j ≡ Some n → m.pos ≡ n.pos → m ≡ n
one_piece p b h i j m n at there same = ⊎_elim
    (λ before. absurd (let ends = h.order i j m n at there before in let some = (b.granted.each i m at).some in omega (arith, ends, some, same)))
    (λ rest. ⊎_elim
    (λ after_it. absurd (let ends = h.order j i n m there at after_it in let some = (b.granted.each j n there).some in omega (arith, ends, some, same)))
    (λ most. (let is : i ≡ j = omega (arith, rest, most) in same_Some m n (sym at ∙ ap (slice_get p.pieces) is ∙ there)))
    (cases_lt j i))
    (cases_lt i j)

-- ---- a direction

abbrev pub AreCut : Direction → Type 0
AreCut d = Every IsCut d.lanes

cut_steps : (f : Flags) → f.receiver ≡ false → f.loose ≡ false → Steps IsCut f
cut_steps f mapped firm = record {
  moves = λ path m p b c. moved_cut p b c f path mapped firm m;
  pairs = λ x p c. same_cut p (record p { pair = Some x }) refl refl refl refl refl c.asks c;
  grants = λ r p b c. grant_cut p b c r;
  acks = λ next r p b c. ack_cut p b c next r;
  places = λ at bytes r p b c is. arrived_cut p b c at bytes r (subst (AskCut p.pieces p.edge) is c.asks);
  ends = λ r p b c. set_cut p b c r;
  tells = λ next window p b c. told_cut p b c next window;
}

-- ---- both directions

-- neither side fell back
pub record IsFirm (m : Modes) : Type 0 where
  pub plain_a : m.plain_a ≡ false
  pub plain_b : m.plain_b ≡ false
  pub loose_a : m.loose_a ≡ false
  pub loose_b : m.loose_b ≡ false

pub record BothCut (w : Duo) : Type 0 where
  pub ab : IsFirm w.modes → AreCut w.ab
  pub ba : IsFirm w.modes → AreCut w.ba

-- where the modes go on
modes_go : (m : Modes) (w : Duo) → (IsFirm m → IsFirm w.modes) → BothCut w → BothCut (record w { modes = m })
modes_go m w before h = record { ab = λ firm. h.ab (before firm); ba = λ firm. h.ba (before firm) }

-- a field that is none of these changes, or one of them is so
either_back : (c : Bool) (m x y : Modes) → (IsFirm x → IsFirm m) → (IsFirm y → IsFirm m) → IsFirm (if c then x else y) → IsFirm m
either_back true m x y first second = first
either_back false m x y first second = second

event_goes : (e : Event) (w : Duo) → Holds w → BothCut w → BothCut (after_event e w)
event_goes (ToB e) w held h = record { ab = λ firm. after_goes IsCut (flags_ab w.modes) w.ab held.ab (cut_steps (flags_ab w.modes) firm.plain_b firm.loose_b) (h.ab firm) e; ba = h.ba }
event_goes (ToA e) w held h = record { ab = h.ab; ba = λ firm. after_goes IsCut (flags_ba w.modes) w.ba held.ba (cut_steps (flags_ba w.modes) firm.plain_a firm.loose_a) (h.ba firm) e }
event_goes FallA w held h = modes_go (falls_a w.modes) w (either_back w.modes.begun w.modes w.modes _ (λ x. x) (λ x. absurd (true≢false x.plain_a))) h
event_goes FallB w held h = modes_go (falls_b w.modes) w (either_back w.modes.answered w.modes w.modes _ (λ x. x) (λ x. absurd (true≢false x.plain_b))) h
event_goes LoosenA w held h = modes_go _ w (λ x. absurd (true≢false x.loose_a)) h
event_goes LoosenB w held h = modes_go _ w (λ x. absurd (true≢false x.loose_b)) h
event_goes BeginJoin w held h = modes_go (begins_join w.modes) w (either_back w.modes.plain_a w.modes w.modes _ (λ x. x) (λ x. record { plain_a = x.plain_a; plain_b = x.plain_b; loose_a = x.loose_a; loose_b = x.loose_b })) h
event_goes SendJoin w held h = modes_go (sends_join w.modes) w (either_back w.modes.begun w.modes _ w.modes (λ x. record { plain_a = x.plain_a; plain_b = x.plain_b; loose_a = x.loose_a; loose_b = x.loose_b }) (λ x. x)) h
event_goes HearJoin w held h = modes_go (hears_join w.modes) w (either_back _ w.modes _ w.modes (λ x. record { plain_a = x.plain_a; plain_b = x.plain_b; loose_a = x.loose_a; loose_b = x.loose_b }) (λ x. x)) h

events_go : (events : List Event) (w : Duo) → ((more : List Event) → Holds (after_events more w)) → BothCut w → BothCut (after_events events w)
events_go [] w ever h = h
events_go (e ∷ events) w ever h = events_go events (after_event e w) (λ more. ever (e ∷ more)) (event_goes e w (ever []) h)

-- both directions after all events, where mappings are checked
pub both_cut : (alters : Bool) (paths buffer capacity : ℕ) (events : List Event) → BothCut (after_events events (opening_over alters true paths buffer capacity))
both_cut alters paths buffer capacity events =
    events_go events (opening_over alters true paths buffer capacity) (any_held alters true paths buffer capacity) (record { ab = λ firm. opened; ba = λ firm. opened })
  where
    first : (p : Lane) → lane_over alters true ≡ p → IsCut p
    first p is = subst IsCut is (record { checked = refl; mapped = refl; firm = refl; whole = Every-nil _; order = λ i j m n at there less. cc; asks = tt })

    opened : Every IsCut (replicate paths (lane_over alters true))
    opened = record { each = λ i p there. first p (in_replicate paths (lane_over alters true) i p there) }

-- ---- the lanes of a mild connection with checksums

-- links that alter nothing, between sides that don't fall back, where mappings are checked
abbrev pub checked_firmly : (start : Start) → IsPlain start → start.checksums ≡ true → Carries start
checked_firmly start plain uses = record { links = record { alters = false; checked = true; firm_a = true; firm_b = true }; may = λ none. plain.unaltered; checks = λ is. uses; size = plain.size }

-- a connection of lanes that shows at a moment, with what holds of it
pub record ShowsChecked (start : Start) (plain : IsPlain start) (uses : start.checksums ≡ true) (w : WorldState Carried) : Type 0 where
  pub duo : Duo
  pub shows : WorldShows (checked_firmly start plain uses).links start duo w
  pub holds : Holds duo
  pub cut : BothCut duo

pub shown_checked : (start : Start) (turns : List Turn) (mild : IsMildStart start) (uses : start.checksums ≡ true) → ShowsChecked start mild.plain uses (world_run values turns (opened_world start))
shown_checked start turns mild uses =
    let can = checked_firmly start mild.plain uses in
    let r = each_run_shows start can turns (firm_run can.links start turns (λ s firm. never_fallen start turns mild s)) in
    record {
      duo = after_events r.events (first_duo can.links start);
      shows = r.shows;
      holds = any_held false true (length start.paths) start.buffer start.buffer r.events;
      cut = both_cut false (length start.paths) start.buffer start.buffer r.events;
    }
