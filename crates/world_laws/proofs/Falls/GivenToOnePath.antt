-- The send book gives itself to a path whose end heard MP_FAIL: an infinite mapping of the path is right then, and its lane goes by it.
use Rattle.world_laws.proofs.Words.{◌≡◌, refl, sym, ◌∙◌, ap, subst, ℕ, zero, suc, ◌+◌, ◌-◌, ◌≤◌, ◌&&◌, ◌==◌, min, nat_lt, nat_le, inl, inr, ◌⊎◌, ⊎_elim, Bool}
use Rattle.world_laws.proofs.Words.{true, false, if◌then◌else◌, Option, Some, None, List, [], ◌∷◌, length, take, drop, arith, is_none, ◌<◌, ◌^◌, set, eqb-true}
use Rattle.world_laws.proofs.Words.{and_parts, and_from, both_ways, false≢true, le-leb, set-set, same_Some, slice_get_within, slice_get, list_all, IfSome}
use Rattle.world_laws.proofs.Words.{count_by-le-length, Side, A, B, peer, Arriving, Sending, acked_len, is_gathered, tried_first, after_send, GoInfiniteBook}
use Rattle.world_laws.proofs.Words.{Acked, Held, Free, has_tried, is_untouched, SendReply, InfiniteMapping, GrantedPiece, is_tail, position_of, Duty, AskDuty}
use Rattle.world_laws.proofs.Words.{replaced, Ask, Reply, SixBooks, send_of, reassembly_of, reply_of, pick, PathEnd, PathState, end_at, goes_on, path_of}
use Rattle.world_laws.proofs.Words.{Carried, may_go_infinite, book_answered, with_infinite, sending_infinite, infinite_from, Profile, Holds, IsEndless}
use Rattle.world_laws.proofs.Words.{LaneHolds, HasPlace, SendHolds, Cell, Pair, Lane, View, view_of, goes_infinite, may_go, Reader, rises, ToB, ToA, Flags}
use Rattle.world_laws.proofs.Words.{place_by, AskAckIn}
use Rattle.send_book.specs.declared.mark.ByteMark.{ByteMark}
use Rattle.send_book.specs.Marks.{is_acked}
use Rattle.send_book.proofs.Lists.{slice_get-drop}
use Rattle.stream_lanes.specs.Marks.{spent, AreAcked, tried}
use Rattle.stream_lanes.specs.Streams.{after}
use Rattle.stream_lanes.specs.Streams.StreamEvent.{GoInfinite}
use Rattle.stream_lanes.proofs.MarkLists.{untouched_unspent}
use Rattle.path_store.specs.InfiniteMappings.{place_under}
use Rattle.world_laws.proofs.Lanes.Answering.{IsReady, Steps, shows_at}
use Rattle.world_laws.proofs.Lanes.Doing.{with_pair, with_pair_told, sends_own_pair, own_pair_goes, own_pair_told, hears_by_pair}
use Rattle.world_laws.proofs.Lanes.Ending.{Did, did_nothing}
use Rattle.world_laws.proofs.Lanes.Growing.{receiver_stays}
use Rattle.world_laws.proofs.Lanes.OfAWorld.{flags_of, Others, duo_at}
use Rattle.world_laws.proofs.Lanes.Roads.{Strolls, stays, direction, put_there}
use Rattle.world_laws.proofs.Lanes.SentRecords.{SentShows, RisesTo, Gone, gone}
use Rattle.world_laws.proofs.Lanes.Showing.{HasPair, HasFin, HasSub, PairTold, OwnIs, EndShows, PathShows}
use Rattle.world_laws.proofs.Lanes.Sides.{SideDid, Answered, side_answered, side_kept}
use Rattle.world_laws.proofs.Lanes.Strolling.{out_holds}
use Rattle.world_laws.proofs.Lanes.EndParts.{new_sender, new_receiver, new_treated, new_pairs}

-- ---- marks

-- a byte behind those that are acknowledged isn't
open_mark : (n place : ℕ) (ms : List ByteMark) (m : ByteMark) → AreAcked n ms → n ≤ place → slice_get ms place ≡ Some m → is_acked m ≡ false
open_mark n place [] m are above e = cc
open_mark zero zero (x ∷ ms) m are above e = let same : x ≡ m = cc in ap is_acked (sym same) ∙ are.0
open_mark zero (suc place) (x ∷ ms) m are above e = open_mark zero place ms m are.1 (omega arith) e
open_mark (suc n) zero (x ∷ ms) m are above e = absurd (omega (arith, above))
open_mark (suc n) (suc place) (x ∷ ms) m are above e = open_mark n place ms m are.1 (omega (arith, above)) e

spent_open : (path : ℕ) (m : ByteMark) → is_acked m ≡ false → spent path (Some m) ≡ true → has_tried path m ≡ true
spent_open path Acked none is = absurd (false≢true (sym none))
spent_open path (Held holder tried) none is = is
spent_open path (Free tried) none is = is

tried_spent : (path : ℕ) (m : ByteMark) → has_tried path m ≡ true → spent path (Some m) ≡ true
tried_spent path Acked is = absurd (false≢true is)
tried_spent path (Held holder tried) is = is
tried_spent path (Free tried) is = is

-- of gathered bytes the path tried the first one, where it tried any
first_tried : (path : ℕ) (x : ByteMark) (ms : List ByteMark) (i : ℕ) (m : ByteMark) → tried_first path (x ∷ ms) ≡ true → slice_get (x ∷ ms) i ≡ Some m → has_tried path m ≡ true → has_tried path x ≡ true
first_tried path x ms zero m first e is = let same : x ≡ m = cc in ap (has_tried path) same ∙ is
first_tried path x ms (suc i) m first e is =
    (elim (is_untouched x) as (λ b. (if b then list_all is_untouched ms else (if has_tried path x then tried_first path ms else false)) ≡ true → has_tried path x ≡ true)
    [ true ↦ λ all. absurd (both_ways (spent path (Some m)) (untouched_unspent path m (each_new ms i all e)) (tried_spent path m is)) | false ↦ λ first. own (has_tried path x) refl first ]) first
  where
    each_new : (ms : List ByteMark) (i : ℕ) → list_all is_untouched ms ≡ true → slice_get ms i ≡ Some m → is_untouched m ≡ true
    each_new [] i all e = cc
    each_new (y ∷ ms) zero all e = let same : y ≡ m = cc in ap is_untouched (sym same) ∙ (and_parts (is_untouched y) (list_all is_untouched ms) all).0
    each_new (y ∷ ms) (suc i) all e = each_new ms i (and_parts (is_untouched y) (list_all is_untouched ms) all).1 e

    own : (b : Bool) → has_tried path x ≡ b → (if b then tried_first path ms else false) ≡ true → has_tried path x ≡ true
    own = elim [ true ↦ λ has first. has | false ↦ λ has first. absurd (false≢true first) ]

-- ---- the mapping

module _ (f : Flags) (send : Sending) (arrived : Arriving) (path : ℕ) (p : Lane) (book : SendHolds send (view_of f send arrived)) (lane : LaneHolds (view_of f send arrived) path p)
    (gathers : is_gathered path send ≡ true) where
  abbrev first : ℕ
  first = acked_len send.marks

  -- a byte of the record above the first open one shows that the record has that too
  first_there : (n : ℕ) (c : Cell) → slice_get p.sent n ≡ Some c → first < c.place → HasPlace p.sent first
  first_there n c e above = by (slice_get send.marks c.place) refl ((lane.record_of.cells.each n c e).spent)
    where
      at_first : (m : ByteMark) → slice_get send.marks c.place ≡ Some m → has_tried path m ≡ true → (ms : List ByteMark) → drop first send.marks ≡ ms → HasPlace p.sent first
      at_first m there has [] is =
          let got = slice_get-drop first send.marks (c.place - first) c.place (omega (arith, above)) ∙ there in
          let none : slice_get [] (c.place - first) ≡ Some m = ap (λ xs. slice_get xs (c.place - first)) (sym is) ∙ got in cc
      at_first m there has (x ∷ ms) is =
          let got = slice_get-drop first send.marks (c.place - first) c.place (omega (arith, above)) ∙ there in
          let own = slice_get-drop first send.marks 0 first (omega arith) in
          let tries : tried_first path (x ∷ ms) ≡ true = ap (tried_first path) (sym is) ∙ (and_parts (is_none send.owner) (tried_first path (drop first send.marks)) gathers).1 in
          let here : slice_get send.marks first ≡ Some x = sym own ∙ ap (λ xs. slice_get xs 0) is in
          lane.record_of.tried first (ap (tried path) here ∙ first_tried path x ms (c.place - first) m tries (ap (λ xs. slice_get xs (c.place - first)) (sym is) ∙ got) has)

      by : (o : Option ByteMark) → slice_get send.marks c.place ≡ o → spent path o ≡ true → HasPlace p.sent first
      by None there is = absurd (false≢true is)
      by (Some m) there is = at_first m there (spent_open path m (open_mark first c.place send.marks m book.first (omega (arith, above)) there) is) (drop first send.marks) refl

  -- what the end heard acknowledged is acknowledged
  heard_low : (n : ℕ) (c : Cell) → slice_get p.sent n ≡ Some c → c.place < p.heard → c.place < first
  heard_low n c e less = by (send.closed && (length send.written == first)) refl lane.heard.below
    where
      by : (b : Bool) → send.closed && (length send.written == first) ≡ b → p.heard ≤ first + (if b then 1 else 0) → c.place < first
      by false is below = omega (arith, less, below)
      by true all below =
          let whole : length send.written ≡ first = eqb-true (length send.written) first (and_parts send.closed (length send.written == first) all).1 in
          let inside = slice_get_within send.written c.place c.byte (lane.record_of.cells.each n c e).byte in
          omega (arith, whole, inside)

  -- where the pieces that an end was granted stand together at the end of the record
  module _ (finished : Bool) (nxt : ℕ) (granted : List GrantedPiece) (shows : SentShows finished nxt p.heard granted p.sent p.fins p.pair) (short : length send.marks < 2 ^ 63) (tail : is_tail granted nxt ≡ true) where
    behind_fin : finished ≡ true → nxt ≡ suc (suc (length p.sent))
    behind_fin done =
        let has = shows.fin done in
        let at = has.holds in let last = (lane.fins.each has.at has.item has.there).last in
        omega (arith, at, last)

    small : length p.sent < 2 ^ 63
    small = let once = lane.record_of.once in let most = count_by-le-length (λ m. spent path (Some m)) send.marks in omega (arith, once, most, short)

    pub gone_so : Gone nxt first granted p.sent p.fins
    gone_so = gone finished nxt p.heard granted p.sent p.fins p.pair shows behind_fin small first heard_low first_there tail

    pub may_be_given : p.opened ≡ true → may_go path gone_so.pos send p ≡ true
    may_be_given opened =
        let line = gone_so.line in let below = gone_so.below in
        and_from p.opened _ opened
        (and_from (is_gathered path send) _ gathers
        (and_from (nat_le gone_so.pos (length p.sent)) _ (le-leb gone_so.pos (length p.sent) gone_so.within)
        (and_from (list_all (λ c. nat_lt c.place first) (take gone_so.pos p.sent)) (rises first (drop gone_so.pos p.sent)) below line)))

-- ---- in the duo

module _ (f : Flags) (lanes : List Lane) (number : ℕ) (send : Sending) (arrived : Arriving) (reader : Reader) (within : number < length lanes) (p : Lane) (pos : ℕ) where
  abbrev pub given_pair : Pair
  given_pair = record { pos = pos; place = acked_len send.marks }

  -- the lane where the book gives itself or doesn't
  abbrev pub given_if : Bool → Lane
  given_if b = if b then with_pair given_pair p else p

  given_there : (b : Bool) → is_gathered number send ≡ b → (b ≡ true → may_go number pos send p ≡ true)
      → after f (GoInfinite number pos) (direction send arrived (set lanes number p) reader) ≡ direction (after_send send (GoInfiniteBook number)) arrived (set lanes number (given_if b)) reader
  given_there true is may =
      ap (λ o. goes_infinite number pos o (direction send arrived (set lanes number p) reader)) (put_there lanes number p within)
      ∙ ap (λ (b : Bool). if b then direction (after_send send (GoInfiniteBook number)) arrived (set (set lanes number p) number (with_pair given_pair p)) reader
      else direction send arrived (set lanes number p) reader) (may refl)
      ∙ ap (λ xs. direction (after_send send (GoInfiniteBook number)) arrived xs reader) (set-set lanes number p (with_pair given_pair p))
  given_there false is may =
      ap (λ o. goes_infinite number pos o (direction send arrived (set lanes number p) reader)) (put_there lanes number p within)
      ∙ ap (λ (b : Bool). if b then direction (after_send send (GoInfiniteBook number)) arrived (set (set lanes number p) number (with_pair given_pair p)) reader
      else direction send arrived (set lanes number p) reader) not_may
      ∙ sym (ap (λ (b : Bool). direction (if b then record send { owner = Some number } else send) arrived (set lanes number p) reader) is)
    where
      rest : Bool
      rest = nat_le pos (length p.sent) && (list_all (λ c. nat_lt c.place (acked_len send.marks)) (take pos p.sent) && rises (acked_len send.marks) (drop pos p.sent))

      never : (b : Bool) → b && false ≡ false
      never = elim [ true ↦ refl | false ↦ refl ]

      not_may : may_go number pos send p ≡ false
      not_may = ap (λ (b : Bool). p.opened && (b && rest)) is ∙ never p.opened

module _ (c : Profile) (six : SixBooks) (others : Others) where
  -- the pair of a side's lane
  abbrev pub pair_of : Side → ℕ → Pair
  pair_of s pos = record { pos = pos; place = acked_len (send_of s six).marks }

  pub infinite_side : (s : Side) (p q : PathState Carried) (ab ba : Lane) (pos : ℕ) (b : Bool) → PathShows c p ab ba → is_gathered others.number (send_of s six) ≡ b
      → (b ≡ true → may_go others.number pos (send_of s six) (pick s ab ba) ≡ true)
      → SideDid c s p q ab ba (if b then with_pair (pair_of s pos) (pick s ab ba) else pick s ab ba) (pick s ba ab) → Answered c six others (Ask.Send s (GoInfiniteBook others.number)) q ab ba
  infinite_side A p q ab ba pos b h is may d =
      side_answered c six others A p q ab ba ab ba (if b then with_pair (pair_of A pos) ab else ab) ba (Ask.Send A (GoInfiniteBook others.number)) (Some (ToB (GoInfinite others.number pos))) h
      (record { by = []; calm = refl; to = refl }) (record { by = []; calm = refl; to = refl })
      (GoInfinite others.number pos, refl, (pos, refl))
      (ap (λ d. record (duo_at six ab ba others) { ab = d }) (given_there (flags_of others.links A six) others.lanes_ab others.number six.send_a six.reassembly_b others.reader_b others.within_ab ab pos b is may)) d
  infinite_side B p q ab ba pos b h is may d =
      side_answered c six others B p q ab ba ba ab (if b then with_pair (pair_of B pos) ba else ba) ab (Ask.Send B (GoInfiniteBook others.number)) (Some (ToA (GoInfinite others.number pos))) h
      (record { by = []; calm = refl; to = refl }) (record { by = []; calm = refl; to = refl })
      (GoInfinite others.number pos, refl, (pos, refl))
      (ap (λ d. record (duo_at six ab ba others) { ba = d }) (given_there (flags_of others.links B six) others.lanes_ba others.number six.send_b six.reassembly_a others.reader_a others.within_ba ba pos b is may)) d

-- ---- the end

module _ (c : Profile) (s : Side) (out back : Lane) where
  -- the end goes on by what the book answered
  pub with_mapping : (e : PathEnd) (own : Option InfiniteMapping) → IfSome own (OwnIs out.pair out.pairs out.fins out.alters) → EndShows c s e out back
      → EndShows c s (record e { treated = record e.treated { infinite_mapping = own } }) out back
  with_mapping e own is h = new_treated h.treated
      (new_pairs ((h.pairs.0, h.pairs.1, h.pairs.2, is, h.pairs.4, h.pairs.5)) h)

  -- the lane that the book was given to
  pub given_shows : (m : Pair) (e : PathEnd) → (IfSome e.modes.own_infinite (OwnIs out.pair out.pairs out.fins out.alters) → e.modes.own_infinite ≡ None) → out.alters ≡ true
      → (g : Gone e.tcp.send.nxt m.place e.sending.granted out.sent out.fins) → m.pos ≡ g.pos → EndShows c s e out back
      → EndShows c s (record e { treated = record e.treated { infinite_mapping = Some (infinite_from m.place e) } }) (with_pair_told m out) back
  given_shows m e none alters g at h = new_sender (record {
    plain = h.sender.plain;
    next = h.sender.next;
    unfinished = h.sender.unfinished;
    pieces = h.sender.pieces;
    known_end = h.sender.known_end;
    same_end = h.sender.same_end;
    heard = h.sender.heard;
    granted = h.sender.granted;
    fin_acked = h.sender.fin_acked;
    sent = record {
      next = h.sender.sent.next;
      none = h.sender.sent.none;
      fin = h.sender.sent.fin;
      pieces = h.sender.sent.pieces;
      covered = h.sender.sent.covered;
      rising = subst (λ pos. RisesAt (record { pos = pos; place = m.place })) (sym at) g.rising;
    };
  })
      (new_treated h.treated
      (new_pairs ((
        subst (λ o. IfSome o (OwnIs (Some m) (with_pair_told m out).pairs out.fins out.alters)) (sym (none h.pairs.0)) tt,
        h.pairs.1,
        h.pairs.2,
        record { item = m; there = refl; place_is = refl; position_is = stands; told = said stands; may = alters },
        h.pairs.4,
        h.pairs.5,
      )) h))
    where
      RisesAt : Pair → Type 0
      RisesAt = RisesTo out.sent e.sending.granted

      position : ℕ
      position = position_of e.tcp.send.nxt m.place e.sending.granted

      stands : (suc m.pos ≡ position) ⊎ HasFin out.fins (position - 1)
      stands = ⊎_elim (λ is. inl (ap suc at ∙ is)) (λ fin. inr fin) g.at

      said : (suc m.pos ≡ position) ⊎ HasFin out.fins (position - 1) → PairTold (with_pair_told m out).pairs out.fins m.place position
      said (inl is) = inl (subst (HasPair (with_pair_told m out).pairs m.place) is (own_pair_told m out))
      said (inr fin) = inr fin

  -- the side sends by it
  pub sends_by : (o : Option InfiniteMapping) (b : Bool) (e : PathEnd) → e.treated.infinite_mapping ≡ o → EndShows c s e out back → EndShows c s (sending_infinite o b e) out back
  sends_by None b e is h = h
  sends_by (Some mapping) false e is h = h
  sends_by (Some mapping) true e is h = new_sender (record {
    plain = h.sender.plain;
    next = h.sender.next;
    unfinished = h.sender.unfinished;
    pieces = h.sender.pieces;
    known_end = h.sender.known_end;
    same_end = h.sender.same_end;
    heard = h.sender.heard;
    granted = h.sender.granted;
    fin_acked = h.sender.fin_acked;
    sent = h.sender.sent;
  })
      (new_receiver (record { same_mode = h.receiver.same_mode; edge = h.receiver.edge; fin = h.receiver.fin; mapped = h.receiver.mapped })
      (new_pairs ((subst (λ o. IfSome o (OwnIs out.pair out.pairs out.fins out.alters)) is h.pairs.3, h.pairs.1, h.pairs.2, h.pairs.3, h.pairs.4, h.pairs.5)) h))

-- ---- what the subflow acknowledges

-- by the own infinite mapping
pub hears_own : (v : View) (path : ℕ) (p : Lane) (mapping : InfiniteMapping) (position window next : ℕ) → LaneHolds v path p → OwnIs p.pair p.pairs p.fins p.alters mapping → HasSub p.acks (position - 1) window
    → place_under mapping position ≡ Some next → Strolls p (record p { asking = AskAckIn next window })
hears_own v path p mapping position window next lane own has is = ⊎_elim at_pair past_fin own.position_is
  where
    asking : ℕ → Lane
    asking n = record p { asking = AskAckIn n window }

    limited : (b : Bool) → (if b then Some (mapping.place + (position - mapping.position)) else None) ≡ Some next → mapping.place + (position - mapping.position) ≡ next
    limited = elim [ true ↦ λ e. same_Some _ next e | false ↦ λ e. cc ]

    next_is : mapping.place + (position - mapping.position) ≡ next
    next_is = limited (nat_lt (mapping.place + (position - mapping.position)) (2 ^ 62)) is

    at_pair : suc own.item.pos ≡ mapping.position → Strolls p (asking next)
    at_pair at =
        let place = own.place_is in
        let same : place_by own.item (min (position - 1) (position - 1)) ≡ next = omega (arith, at, place, next_is) in
        subst (λ n. Strolls p (asking n)) same (hears_by_pair p own.item (position - 1) (position - 1) window own.may own.there has)

    past_fin : HasFin p.fins (mapping.position - 1) → Strolls p (asking next)
    past_fin fin =
        let place = own.place_is in
        let behind = fin.holds in let last = (lane.fins.each fin.at fin.item fin.there).last in
        let most = lane.bytes.acked.each has.at has.item has.there in let sub = has.holds.sub_is in
        let same : place_by own.item (min 0 (position - 1)) ≡ next = omega (arith, place, next_is, behind, last, most, sub) in
        subst (λ n. Strolls p (asking n)) same (hears_by_pair p own.item 0 (position - 1) window own.may own.there has)

-- ---- the steps

own_book : (six : SixBooks) (others : Others) (s : Side) (ab ba : Lane) → Holds (duo_at six ab ba others) → SendHolds (send_of s six) (view_of (flags_of others.links s six) (send_of s six) (reassembly_of (peer s) six))
own_book six others A ab ba holds = holds.ab.send
own_book six others B ab ba holds = holds.ba.send

module _ (six : SixBooks) (others : Others) (p : PathState Carried) (ab ba : Lane) (h : PathShows p.profile p ab ba) (holds : Holds (duo_at six ab ba others)) (ready : IsReady p ab ba) (s : Side) where
  abbrev Makes : Ask → PathState Carried → Type 0
  Makes ask q = Steps six others p ab ba h ready ask q

  abbrev out : Lane
  out = pick s ab ba

  abbrev back : Lane
  back = pick s ba ab

  abbrev e : PathEnd
  e = end_at s p

  abbrev book : Sending
  book = send_of s six

  abbrev shows : EndShows p.profile s e out back
  shows = shows_at six others p ab ba h ready s

  abbrev lane : LaneHolds (view_of (flags_of others.links s six) (send_of s six) (reassembly_of (peer s) six)) others.number out
  lane = out_holds six others s ab ba holds

  -- the book isn't given a second time
  own_none : is_gathered others.number book ≡ true → (o : Option InfiniteMapping) → IfSome o (OwnIs out.pair out.pairs out.fins out.alters) → o ≡ None
  own_none gathers None own = refl
  own_none gathers (Some mapping) own =
      let given = subst (λ o. IfSome o (λ m. IsEndless others.number (view_of (flags_of others.links s six) (send_of s six) (reassembly_of (peer s) six)) out.sent m × (m.place ≤ acked_len book.marks) × (book.owner ≡ Some others.number))) own.there lane.pairs.own in
      absurd (both_ways (is_none book.owner) (ap is_none given.2) (and_parts (is_none book.owner) _ gathers).0)

  abbrev Answers : ℕ → Type 0
  Answers path = Makes (Ask.Send s (GoInfiniteBook path)) (book_answered s (reply_of six (Ask.Send s (GoInfiniteBook path))) p)

  module _ (opened : out.opened ≡ true) (alters : out.alters ≡ true) (short : length book.marks < 2 ^ 63) (goes : may_go_infinite e ≡ true) where
    tail : is_tail e.sending.granted e.tcp.send.nxt ≡ true
    tail = (and_parts e.modes.sole _ goes).1

    at_path : Answers others.number
    at_path = by (is_gathered others.number book) refl
      where
        ds : List Duty
        ds = replaced (Duty.Ask (AskDuty.FailHeard s)) p.agenda

        by : (b : Bool) → is_gathered others.number book ≡ b
            → Makes (Ask.Send s (GoInfiniteBook others.number)) (goes_on s (with_infinite (Reply.Send (if b then SendReply.Infinite (acked_len book.marks) else SendReply.Scattered)) e) ds p)
        by false scattered =
            infinite_side p.profile six others s p _ ab ba 0 false h scattered (λ yes. absurd (false≢true yes))
            (side_kept p.profile p ab ba h s out back (record e { treated = record e.treated { infinite_mapping = None } }) ds
            (did_nothing p.profile s out back (record e { treated = record e.treated { infinite_mapping = None } }) (with_mapping p.profile s out back e None tt shows)))
        by true gathers = infinite_side p.profile six others s p _ ab ba m.pos true h gathers (λ _. may_so)
            (side_kept p.profile p ab ba h s (with_pair m out) back f ds did)
          where
            sent : SentShows e.tcp.send.finished e.tcp.send.nxt out.heard e.sending.granted out.sent out.fins out.pair
            sent = subst (λ n. SentShows e.tcp.send.finished e.tcp.send.nxt n e.sending.granted out.sent out.fins out.pair) (sym shows.sender.heard) shows.sender.sent

            g : Gone e.tcp.send.nxt (acked_len book.marks) e.sending.granted out.sent out.fins
            g = gone_so (flags_of others.links s six) book (reassembly_of (peer s) six) others.number out (own_book six others s ab ba holds) lane gathers e.tcp.send.finished e.tcp.send.nxt e.sending.granted sent short tail

            may_so : may_go others.number g.pos book out ≡ true
            may_so = may_be_given (flags_of others.links s six) book (reassembly_of (peer s) six) others.number out (own_book six others s ab ba holds) lane gathers e.tcp.send.finished e.tcp.send.nxt e.sending.granted sent short tail opened

            m : Pair
            m = record { pos = g.pos; place = acked_len book.marks }

            f : PathEnd
            f = record e { treated = record e.treated { infinite_mapping = Some (infinite_from m.place e) } }

            did : Did p.profile s f out (with_pair m out) back back
            did = record {
              out_after = with_pair_told m out;
              back_after = back;
              out_moves = sends_own_pair m out g.within;
              back_moves = stays back;
              sender = own_pair_goes m out;
              receiver = receiver_stays back;
              shows = given_shows p.profile s out back m e (own_none gathers e.modes.own_infinite) alters g refl shows;
            }

    pub book_step : path_of p ≡ others.number → Answers (path_of p)
    book_step numbered = subst Answers (sym numbered) at_path
