-- What an end does: the lanes go on by what its sender's half and its receiver's half do, and show the end as it is then.
use Rattle.world_laws.proofs.Words.{◌≡◌, refl, sym, ◌∙◌, ap, subst, ℕ, suc, ◌+◌, ◌-◌, ◌≤◌, ◌&&◌, min, nat_lt, nat_le, Bool, true, false, if◌then◌else◌, Option}
use Rattle.world_laws.proofs.Words.{Some, List, [], ◌∷◌, ◌++◌, length, take, drop, arith, ◌<◌, ◌^◌, ◌*◌, ◌/◌, ◌%◌, lt-ltb, and_from, le-leb, append-nil}
use Rattle.world_laws.proofs.Words.{append_assoc, slice_get, Side, dss_checksum, with_turned_bit, ReassemblyReply, Span, Why, SendReply, numbers_of}
use Rattle.world_laws.proofs.Words.{bare_mapping, place_numbered, mapping_of, Profile, Has-more, Cell, Mapping, Pair, DataCopy, AckCopy, Lane, Move, place_by}
use Rattle.world_laws.proofs.Words.{shifted, is_whole, sends_fin_pair, hears, sends_piece, sends_altered, hears_data_fin, ack_copy, takes_grant, takes_ack_out}
use Rattle.world_laws.proofs.Words.{bytes_of, sub_next, cells_from, known, later_end, hears_by_sub, Nothing, AskGrant, AskAckIn, AskFin, AskAckOut, WantGrant}
use Rattle.world_laws.proofs.Words.{HearAck, HearSubAck, SendPiece, SendAltered, SendDataFin, SendFin, SendPair, SendPlainPair, SendFinPair, HearDataFin}
use Rattle.world_laws.proofs.Words.{WantFin, WantAckOut, SendAck}
use Rattle.stream_lanes.specs.Words.{Has}
use Rattle.ones_sum.specs.Words.{with_bit_turned}
use Rattle.world_laws.proofs.Lanes.Growing.{SenderGoes, ReceiverGoes}
use Rattle.world_laws.proofs.Lanes.Roads.{moves, Strolls, one_move, then_strolls}
use Rattle.world_laws.proofs.Lanes.Showing.{HasPair, HasAck, HasData, HasNumber, WindowShows, HasNone, HasSub, IsSummed}

-- the last one of a list
last_there : {X : Type 0} (xs : List X) (x : X) → slice_get (xs ++ x ∷ []) (length xs) ≡ Some x
last_there [] x = refl
last_there (y ∷ xs) x = last_there xs x

pub has_last : {X : Type 0} {P : X → Type 0} (xs : List X) (x : X) → P x → Has P (xs ++ x ∷ [])
has_last xs x h = record { at = length xs; item = x; there = last_there xs x; holds = h }

-- ---- bytes of a grant

bytes_from : (place : ℕ) (bytes : List ℕ) → bytes_of (cells_from place bytes) ≡ bytes
bytes_from place [] = refl
bytes_from place (byte ∷ bytes) = ap (λ xs. byte ∷ xs) (bytes_from (suc place) bytes)

bytes_more : (sent : List Cell) (place : ℕ) (bytes : List ℕ) → drop (length sent) (bytes_of (sent ++ cells_from place bytes)) ≡ bytes
bytes_more [] place bytes = bytes_from place bytes
bytes_more (c ∷ sent) place bytes = bytes_more sent place bytes

pub take_whole : (xs : List ℕ) → take (length xs) xs ≡ xs
take_whole [] = refl
take_whole (x ∷ xs) = ap (λ ys. x ∷ ys) (take_whole xs)

pub length-granted : (sent : List Cell) (place : ℕ) (bytes : List ℕ) → length (sent ++ cells_from place bytes) ≡ length sent + length bytes
length-granted [] place bytes = by place bytes
  where
    by : (place : ℕ) (bytes : List ℕ) → length (cells_from place bytes) ≡ 0 + length bytes
    by place [] = refl
    by place (byte ∷ bytes) = let rest = by (suc place) bytes in omega (arith, rest)
length-granted (c ∷ sent) place bytes = let rest = length-granted sent place bytes in omega (arith, rest)

-- ---- the reply to AckOut, and the acknowledgements that may be sent by it

-- what a segment tells is the place, the position behind what has come, and a window that is rounded down
abbrev pub ack_moves : ℕ → ℕ → ℕ → List Move
ack_moves next window sub = SendAck next (32 * (window / 32)) sub ∷ SendAck 0 (32 * (window / 32)) 0 ∷ SendAck 0 (min 65535 window) 0 ∷ []

pub least : (a b : ℕ) → a ≤ b → min a b ≡ a
least a b most = omega (arith, most)

-- the windows of the reply show on the lane after these moves
module _ (next window sub : ℕ) (p : Lane) where
  abbrev pub told_lane : Lane
  told_lane = takes_ack_out (ReassemblyReply.Ack next window) p

  abbrev pub told_acks : List AckCopy
  told_acks = ack_copy next (32 * (window / 32)) sub told_lane ∷ ack_copy 0 (32 * (window / 32)) 0 told_lane ∷ ack_copy 0 (min 65535 window) 0 told_lane ∷ []

  pub told_goes : ReceiverGoes p (moves (ack_moves next window sub) told_lane)
  told_goes = record {
    edge = p.edge;
    kept = p.kept;
    maps = p.maps;
    taken = p.taken;
    loose = p.receiver_loose;
    fin_in = p.fin_in;
    due = false;
    latest = record { next = next; window = window };
    asking = Nothing;
    acks = told_acks;
    is = rw (append_assoc p.acks, append_assoc p.acks) refl;
  }

  pub told_windows : WindowShows next window (moves (ack_moves next window sub) told_lane).acks
  told_windows =
      let down : 32 * (window / 32) ≤ window = omega arith in
      record {
        ack = Has-more _ (Has-more _ (has_last p.acks _ (record { next_is = least next next (omega arith); window_is = least _ window down })));
        alone = Has-more _ (has_last (p.acks ++ _ ∷ []) _ (record { next_is = least 0 next (omega arith); sub_is = least 0 (sub_next p) (omega arith); window_is = least _ window down }));
        syn = has_last ((p.acks ++ _ ∷ []) ++ _ ∷ []) _ (record { next_is = least 0 next (omega arith); sub_is = least 0 (sub_next p) (omega arith); window_is = least _ window (omega arith) });
      }

  pub told_sub : sub ≤ sub_next p → HasSub (moves (ack_moves next window sub) told_lane).acks sub (32 * (window / 32))
  told_sub most =
      let down : 32 * (window / 32) ≤ window = omega arith in
      Has-more _ (Has-more _ (has_last p.acks _ (record { sub_is = least sub (sub_next p) most; window_is = least _ window down })))

-- ---- moves before a call

module _ (p : Lane) where
  pub wants_grant : (most : ℕ) (standby : Bool) → p.opened ≡ true → 1 ≤ most → Strolls p (record p { asking = AskGrant most standby })
  wants_grant most standby opened some = one_move (WantGrant most standby) p _ refl (sym (ap (λ (b : Bool). if b && nat_lt 0 most then record p { asking = AskGrant most standby } else p) opened
      ∙ ap (λ (b : Bool). if b then record p { asking = AskGrant most standby } else p) (lt-ltb 0 most some)))

  pub hears_ack : (next window : ℕ) → p.sender_plain ≡ false → HasAck p.acks next window → Strolls p (record p { asking = AskAckIn next window })
  hears_ack next window plain h = one_move (HearAck h.at) p _ refl (sym (ap (λ o. hears o p) h.there
      ∙ ap (λ (b : Bool). record p { asking = AskAckIn (if b then h.item.sub else h.item.next) h.item.window }) plain
      ∙ ap (λ n. record p { asking = AskAckIn n h.item.window }) h.holds.next_is ∙ ap (λ w. record p { asking = AskAckIn next w }) h.holds.window_is))

  -- one of nothing says so in plain TCP too
  pub hears_none : (window : ℕ) → HasNone p.acks window → Strolls p (record p { asking = AskAckIn 0 window })
  hears_none window h = one_move (HearAck h.at) p _ refl (sym (ap (λ o. hears o p) h.there
      ∙ nothing p.sender_plain
      ∙ ap (λ w. record p { asking = AskAckIn 0 w }) h.holds.window_is))
    where
      nothing : (b : Bool) → record p { asking = AskAckIn (if b then h.item.sub else h.item.next) h.item.window } ≡ record p { asking = AskAckIn 0 h.item.window }
      nothing true = ap (λ n. record p { asking = AskAckIn n h.item.window }) h.holds.sub_is
      nothing false = ap (λ n. record p { asking = AskAckIn n h.item.window }) h.holds.next_is

  -- in plain TCP what the subflow acknowledges stands for what the stream does
  pub hears_sub : (sub window : ℕ) → p.sender_plain ≡ true → HasSub p.acks sub window → Strolls p (record p { asking = AskAckIn sub window })
  hears_sub sub window plain h = one_move (HearAck h.at) p _ refl (sym (ap (λ o. hears o p) h.there
      ∙ ap (λ (b : Bool). record p { asking = AskAckIn (if b then h.item.sub else h.item.next) h.item.window }) plain
      ∙ ap (λ n. record p { asking = AskAckIn n h.item.window }) h.holds.sub_is ∙ ap (λ w. record p { asking = AskAckIn sub w }) h.holds.window_is))

  pub wants_fin : (place : ℕ) → HasNumber p.data_fins place → Strolls p (record p { asking = AskFin place })
  wants_fin place h = one_move (HearDataFin h.at) p _ refl (sym (ap (λ o. hears_data_fin o p) h.there ∙ ap (λ n. record p { asking = AskFin n }) h.holds))

  -- in plain TCP the FIN that has come is the end of the stream
  pub wants_plain_fin : p.receiver_plain ≡ true → p.fin_in ≡ true → Strolls p (record p { asking = AskFin p.edge })
  wants_plain_fin plain came = one_move WantFin p _ refl (sym (
      ap (λ (b : Bool). if b && p.fin_in then record p { asking = AskFin p.edge } else p) plain
      ∙ ap (λ (b : Bool). if b then record p { asking = AskFin p.edge } else p) came))

  pub wants_ack_out : Strolls p (record p { asking = AskAckOut })
  wants_ack_out = one_move WantAckOut p _ refl refl

-- ---- a grant

-- the number that stands for a place means that place
place_back : (idsn place : ℕ) → place < 2 ^ 64 → ((idsn + (place + 1)) % 2 ^ 64 + (2 ^ 64 - (idsn + (0 + 1)) % 2 ^ 64)) % 2 ^ 64 ≡ place
place_back idsn place small = omega (arith, small)

pub place_is : (c : Profile) (s : Side) (place position len : ℕ) → place < 2 ^ 64 → place_numbered c s (bare_mapping c s place position len).number ≡ place
place_is c s place position len small = place_back (numbers_of c.spelling s).idsn.0 place small

-- the piece is granted, and its segment may be sent from now on
module _ (span : Span) (piece : List ℕ) (p : Lane) where
  abbrev pub granted_lane : Lane
  granted_lane = takes_grant (SendReply.Granted span piece) p

  abbrev pub mapping_granted : Mapping
  mapping_granted = record { pos = length p.sent; place = span.from; len = length piece }

  abbrev pub copy_granted : DataCopy
  copy_granted = record { pos = length p.sent; bytes = piece; mapping = Some mapping_granted }

  -- a copy of the granted piece with a bit turned, where links alter payload
  abbrev pub altered_copy : DataCopy
  altered_copy = record { pos = length p.sent; bytes = with_bit_turned piece 0 0; mapping = Some mapping_granted }

  abbrev pub altered_granted : List DataCopy
  altered_granted = if p.alters then altered_copy ∷ [] else []

  abbrev pub once_sent : Lane
  once_sent = record granted_lane { datas = p.datas ++ copy_granted ∷ [] }

  abbrev pub with_piece : Lane
  with_piece = record granted_lane { datas = (p.datas ++ copy_granted ∷ []) ++ altered_granted }

  part_is : take (length piece) (drop (length p.sent) (bytes_of (p.sent ++ cells_from span.from piece))) ≡ piece
  part_is = ap (take (length piece)) (bytes_more p.sent span.from piece) ∙ take_whole piece

  sends_once : Strolls granted_lane once_sent
  sends_once = one_move (SendPiece (length p.pieces) true) granted_lane once_sent refl (sym (
      ap (λ o. sends_piece true o granted_lane) (last_there p.pieces mapping_granted)
      ∙ ap (λ bytes. record granted_lane { datas = p.datas ++ record { pos = length p.sent; bytes = bytes; mapping = Some mapping_granted } ∷ [] }) part_is))

  sends_turned : Strolls once_sent with_piece
  sends_turned = one_move (SendAltered (length p.pieces) true) once_sent with_piece refl (sym (
      ap (λ o. sends_altered true o once_sent) (last_there p.pieces mapping_granted)
      ∙ ap (λ bytes. if p.alters then record granted_lane { datas = (p.datas ++ copy_granted ∷ []) ++ record { pos = length p.sent; bytes = with_bit_turned bytes 0 0; mapping = Some mapping_granted } ∷ [] } else once_sent) part_is
      ∙ by p.alters))
    where
      by : (b : Bool) → (if b then record granted_lane { datas = (p.datas ++ copy_granted ∷ []) ++ altered_copy ∷ [] } else once_sent)
          ≡ record granted_lane { datas = (p.datas ++ copy_granted ∷ []) ++ (if b then altered_copy ∷ [] else []) }
      by true = refl
      by false = ap (λ xs. record granted_lane { datas = xs }) (sym (append-nil (p.datas ++ copy_granted ∷ [])))

  pub sends_the_piece : Strolls granted_lane with_piece
  sends_the_piece = then_strolls granted_lane once_sent with_piece sends_once sends_turned

  abbrev pub piece_goes : SenderGoes p with_piece
  piece_goes = record {
    cells = cells_from span.from piece;
    pieces = p.pieces ++ mapping_granted ∷ [];
    known_end = p.known_end;
    heard = p.heard;
    fin_acked = p.fin_acked;
    asking = Nothing;
    datas = copy_granted ∷ altered_granted;
    data_fins = [];
    fins = [];
    pair = p.pair;
    pairs = [];
    is = rw (append_assoc p.datas, append-nil p.data_fins, append-nil p.fins, append-nil p.pairs) refl;
  }

  -- the checksum that the piece was granted with is that of the record's bytes
  pub granted_summed : (c : Profile) (s : Side) (position : ℕ) → suc (length p.sent) ≡ position → span.from < 2 ^ 64
      → IsSummed c s with_piece.sent (place_numbered c s (mapping_of c s span.from position piece).number) position (length piece) (mapping_of c s span.from position piece).checksum
  granted_summed c s position at small = record {
    within = let l = length-granted p.sent span.from piece in omega (arith, l, at);
    right = λ uses.
        ap (λ (b : Bool). if b then dss_checksum (bare_mapping c s span.from position (length piece)) piece else 0) uses
        ∙ ap (dss_checksum (bare_mapping c s span.from position (length piece))) (sym here)
        ∙ ap (λ place. dss_checksum (bare_mapping c s place position (length piece)) (take (length piece) (drop (position - 1) (bytes_of with_piece.sent)))) (sym (place_is c s span.from position (length piece) small));
  }
    where
      here : take (length piece) (drop (position - 1) (bytes_of with_piece.sent)) ≡ piece
      here = let first : position - 1 ≡ length p.sent = omega (arith, at) in
          ap (λ n. take (length piece) (drop n (bytes_of with_piece.sent))) first ∙ part_is

  -- that copy is there, with the link's own word for it
  same_turned : (octets : List ℕ) → with_bit_turned octets 0 0 ≡ with_turned_bit octets
  same_turned = elim [ [] ↦ refl | first ∷ rest ↦ refl ]

  pub turned_granted : (position : ℕ) → suc (length p.sent) ≡ position → p.alters ≡ true → HasData with_piece.datas position (with_turned_bit piece)
  turned_granted position at may =
      subst (λ b. HasData ((p.datas ++ copy_granted ∷ []) ++ (if b then altered_copy ∷ [] else [])) position (with_turned_bit piece)) (sym may)
      (has_last (p.datas ++ copy_granted ∷ []) altered_copy (record { position_is = at; octets_are = same_turned piece }))

-- ---- a refused grant

-- the end that it told is sent from now on
module _ (why : Why) (told : Option ℕ) (p : Lane) where
  abbrev pub refused_lane : Lane
  refused_lane = takes_grant (SendReply.NoGrant why told) p

  abbrev pub with_end : Lane
  with_end = record refused_lane { data_fins = p.data_fins ++ known (later_end told p.known_end) }

  pub sends_the_end : Strolls refused_lane with_end
  sends_the_end = one_move SendDataFin refused_lane with_end refl refl

  abbrev pub end_goes : SenderGoes p with_end
  end_goes = record {
    cells = [];
    pieces = p.pieces;
    known_end = later_end told p.known_end;
    heard = p.heard;
    fin_acked = p.fin_acked;
    asking = Nothing;
    datas = [];
    data_fins = known (later_end told p.known_end);
    fins = [];
    pair = p.pair;
    pairs = [];
    is = rw (append-nil p.sent, append-nil p.datas, append-nil p.fins, append-nil p.pairs) refl;
  }

-- ---- the FIN

module _ (p : Lane) where
  abbrev pub with_fin_sent : Lane
  with_fin_sent = record p { fins = p.fins ++ length p.sent ∷ [] }

  -- once the DATA_FIN is acknowledged; in plain TCP once all bytes were granted to the path, or all are acknowledged
  pub sends_the_fin : p.opened ≡ true → (if p.sender_plain then is_whole p.known_end p else p.fin_acked) ≡ true → Strolls p with_fin_sent
  sends_the_fin opened may = one_move SendFin p with_fin_sent refl (sym (
      ap (λ (b : Bool). if b && (if p.sender_plain then is_whole p.known_end p else p.fin_acked) then with_fin_sent else p) opened
      ∙ ap (λ (b : Bool). if b then with_fin_sent else p) may))

  abbrev pub fin_goes : SenderGoes p with_fin_sent
  fin_goes = record {
    cells = [];
    pieces = p.pieces;
    known_end = p.known_end;
    heard = p.heard;
    fin_acked = p.fin_acked;
    asking = p.asking;
    datas = [];
    data_fins = [];
    fins = length p.sent ∷ [];
    pair = p.pair;
    pairs = [];
    is = rw (append-nil p.sent, append-nil p.datas, append-nil p.data_fins, append-nil p.pairs) refl;
  }

-- ---- infinite mappings

module _ (p : Lane) where
  -- by its own one the FIN stands for the end of the stream
  pub sends_own_fin : (m : Pair) → p.pair ≡ Some m → p.opened ≡ true → is_whole p.known_end p ≡ true → Strolls p (with_fin_sent p)
  sends_own_fin m there opened whole = one_move SendFinPair p (with_fin_sent p) refl (sym (
      ap (λ o. sends_fin_pair o p) there
      ∙ ap (λ (b : Bool). if b then with_fin_sent p else p) (and_from p.opened (is_whole p.known_end p) opened whole)))

  -- in plain TCP that of a position
  module _ (pos : ℕ) where
    abbrev pub with_plain_pair : Lane
    with_plain_pair = record p { pairs = p.pairs ++ record { pos = pos; place = pos } ∷ [] }

    pub sends_plain_pair : p.sender_plain ≡ true → p.opened ≡ true → pos ≤ length p.sent → Strolls p with_plain_pair
    sends_plain_pair plain opened within = one_move (SendPlainPair pos) p with_plain_pair refl (sym (
        ap (λ (b : Bool). if b then with_plain_pair else p)
        (and_from p.sender_plain (p.opened && nat_le pos (length p.sent)) plain (and_from p.opened (nat_le pos (length p.sent)) opened (le-leb pos (length p.sent) within)))))

    abbrev pub plain_pair_goes : SenderGoes p with_plain_pair
    plain_pair_goes = record {
      cells = [];
      pieces = p.pieces;
      known_end = p.known_end;
      heard = p.heard;
      fin_acked = p.fin_acked;
      asking = p.asking;
      datas = [];
      data_fins = [];
      fins = [];
      pair = p.pair;
      pairs = record { pos = pos; place = pos } ∷ [];
      is = rw (append-nil p.sent, append-nil p.datas, append-nil p.data_fins, append-nil p.fins) refl;
    }

    pub plain_pair_told : (position : ℕ) → suc pos ≡ position → HasPair with_plain_pair.pairs (position - 1) position
    plain_pair_told position at = has_last p.pairs (record { pos = pos; place = pos }) (record { place_is = omega (arith, at); position_is = at })

  -- what the subflow acknowledges up to a position, by its own one
  pub hears_by_pair : (m : Pair) (upto sub window : ℕ) → p.alters ≡ true → p.pair ≡ Some m → HasSub p.acks sub window → Strolls p (record p { asking = AskAckIn (place_by m (min upto sub)) window })
  hears_by_pair m upto sub window alters there h = one_move (HearSubAck h.at upto) p _ refl (sym (
      ap (λ o. hears_by_sub upto o p.pair p) h.there
      ∙ ap (λ o. hears_by_sub upto (Some h.item) o p) there
      ∙ ap (λ (b : Bool). if b then record p { asking = AskAckIn (place_by m (min upto h.item.sub)) h.item.window } else p) alters
      ∙ ap (λ n. record p { asking = AskAckIn (place_by m (min upto n)) h.item.window }) h.holds.sub_is
      ∙ ap (λ w. record p { asking = AskAckIn (place_by m (min upto sub)) w }) h.holds.window_is))

-- the book was given to the lane, which tells by which mapping it goes
module _ (m : Pair) (p : Lane) where
  abbrev pub with_pair : Lane
  with_pair = record p { pair = Some m }

  abbrev pub with_pair_told : Lane
  with_pair_told = record p { pair = Some m; pairs = p.pairs ++ shifted 0 m ∷ [] }

  pub sends_own_pair : m.pos ≤ length p.sent → Strolls with_pair with_pair_told
  sends_own_pair within = one_move (SendPair 0) with_pair with_pair_told refl (sym (
      ap (λ (b : Bool). if b then with_pair_told else with_pair) (le-leb (m.pos + 0) (length p.sent) (omega (arith, within)))))

  pub own_pair_goes : SenderGoes p with_pair_told
  own_pair_goes = record {
    cells = [];
    pieces = p.pieces;
    known_end = p.known_end;
    heard = p.heard;
    fin_acked = p.fin_acked;
    asking = p.asking;
    datas = [];
    data_fins = [];
    fins = [];
    pair = Some m;
    pairs = shifted 0 m ∷ [];
    is = rw (append-nil p.sent, append-nil p.datas, append-nil p.data_fins, append-nil p.fins) refl;
  }

  pub own_pair_told : HasPair with_pair_told.pairs m.place (suc m.pos)
  own_pair_told = has_last p.pairs (shifted 0 m) (record { place_is = omega arith; position_is = omega arith })
