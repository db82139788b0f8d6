-- What the record of an end has to do with the pieces that were granted to it: each stands at its position, they have all bytes that
-- aren't acknowledged, and where they stand together at the end of the record an infinite mapping is right.
--
-- An own infinite mapping is the lane's from the send book's answer on, and is kept with the copy until the verdict, so
-- no fact on the agenda between the two is needed. What is known of the record (`SentShows`) is that each piece that
-- isn't acknowledged stands at its position, and that these have all bytes the end didn't hear acknowledged; with a
-- book that gathers, that is each condition of the lane's guard (`proofs/Lanes/SentRecords`,
-- `proofs/Falls/GivenToOnePath`). Where MP_FAIL comes behind the own FIN the mapping begins behind that, where no
-- lane's does: an alternative (`PairTold`) says so, and an acknowledgement is taken up to a position (`HearSubAck`). It
-- is told on the lane once; in plain TCP that of each position just before its segment goes out (`paired_step` of
-- `proofs/Lanes/Answering`).
use Rattle.world_laws.proofs.Words.{◌≡◌, refl, sym, ◌∙◌, ap, subst, ℕ, zero, suc, ◌+◌, ◌-◌, ◌≤◌, ◌&&◌, ◌==◌, max, nat_lt, nat_le, inl, inr, ◌⊎◌, ⊎_elim, Bool}
use Rattle.world_laws.proofs.Words.{true, false, if◌then◌else◌, Option, Some, None, List, [], ◌∷◌, ◌++◌, length, take, drop, arith, ◌<◌, ◌^◌, lt-ltb, le-ltb}
use Rattle.world_laws.proofs.Words.{eqb-true, eq-eqb, and_parts, and_from, both_ways, false≢true, cases_lt, le-leb, length-append, same_Some, slice_get_within}
use Rattle.world_laws.proofs.Words.{slice_get, list_all, IfSome, GrantedPiece, is_open, behind, follows, rises_from, is_tail, has_place, position_of, Every-map}
use Rattle.world_laws.proofs.Words.{Every-push, IfSome-map, Has-more, in_append, in_more, in_take, in_drop, Every, HasPlace, Cell, Pair, rises, cells_from}
use Rattle.std.specs.Prelude.{filter, find}
use Rattle.stream_lanes.specs.Words.{Has}
use Rattle.path_store.specs.Granted.{position_in}

-- the record has the piece at its position, which counts the SYN
pub record IsPieceOf (sent : List Cell) (piece : GrantedPiece) : Type 0 where
  pub stands : 1 ≤ piece.position
  pub some : piece.from < piece.to
  pub cell : (j : ℕ) → j < piece.to - piece.from → (c : Cell) × (slice_get sent ((piece.position - 1) + j) ≡ Some c) × (c.place ≡ piece.from + j)

-- the byte at this position of the record is one of the piece's
pub record Covers (n : ℕ) (piece : GrantedPiece) : Type 0 where
  pub above : piece.position ≤ suc n
  pub below : suc n < piece.position + (piece.to - piece.from)

-- The bytes before the position of an infinite mapping have places below its own; those that were granted last before it have places
-- that rise by one, and so does every piece that isn't acknowledged stand behind their first one.
pub record RisesTo (sent : List Cell) (granted : List GrantedPiece) (m : Pair) : Type 0 where
  pub within : m.pos ≤ length sent
  pub below : (n : ℕ) (c : Cell) → n < m.pos → slice_get sent n ≡ Some c → c.place < m.place
  pub first : ℕ
  pub base : ℕ
  pub low : first ≤ m.pos
  pub line : (n : ℕ) (c : Cell) → first ≤ n → n < m.pos → slice_get sent n ≡ Some c → c.place + first ≡ base + n
  pub pieces : Every (λ piece. first < piece.position) granted

-- The next position is that behind the record, and behind the FIN once it was sent; none was sent before that. The pieces that are granted
-- stand in the record, and have all bytes that the end didn't hear acknowledged.
pub record SentShows (finished : Bool) (nxt heard : ℕ) (granted : List GrantedPiece) (sent : List Cell) (fins : List ℕ) (pair : Option Pair) : Type 0 where
  pub next : finished ≡ false → nxt ≡ suc (length sent)
  pub none : finished ≡ false → fins ≡ []
  pub fin : finished ≡ true → Has (λ n. suc n ≡ nxt - 1) fins
  pub pieces : Every (IsPieceOf sent) granted
  pub covered : (n : ℕ) (c : Cell) → slice_get sent n ≡ Some c → heard ≤ c.place → Has (Covers n) granted
  pub rising : IfSome pair (RisesTo sent granted)

-- ---- what stays

same_cell : {X : Type 0} (xs ys : List X) (n : ℕ) (x : X) → n < length xs → slice_get (xs ++ ys) n ≡ Some x → slice_get xs n ≡ Some x
same_cell xs ys n x within e = ⊎_elim (λ left. left) (λ right. let above = right.0 in absurd (omega (arith, above, within))) (in_append xs ys n x e)

piece_more : (sent cells : List Cell) (piece : GrantedPiece) → IsPieceOf sent piece → IsPieceOf (sent ++ cells) piece
piece_more sent cells piece h = record {
  stands = h.stands;
  some = h.some;
  cell = λ j within. let at = h.cell j within in (at.0, in_more sent cells ((piece.position - 1) + j) at.0 at.1, at.2);
}

rises_more : (sent cells : List Cell) (granted : List GrantedPiece) (m : Pair) → RisesTo sent granted m → RisesTo (sent ++ cells) granted m
rises_more sent cells granted m h = let within = h.within in record {
  within = omega (arith, within, length-append sent cells);
  below = λ n c less e. h.below n c less (same_cell sent cells n c (omega (arith, less, within)) e);
  first = h.first;
  base = h.base;
  low = h.low;
  line = λ n c from less e. h.line n c from less (same_cell sent cells n c (omega (arith, less, within)) e);
  pieces = h.pieces;
}

-- the FIN goes out
pub finished_sent : (finished : Bool) (nxt heard : ℕ) (granted : List GrantedPiece) (sent : List Cell) (fins after : List ℕ) (pair : Option Pair) → SentShows finished nxt heard granted sent fins pair
    → Has (λ n. suc n ≡ nxt) after → SentShows true (nxt + 1) heard granted sent after pair
finished_sent finished nxt heard granted sent fins after pair h has = record {
  next = λ unsent. absurd (false≢true (sym unsent));
  none = λ unsent. absurd (false≢true (sym unsent));
  fin = λ is. record { at = has.at; item = has.item; there = has.there; holds = has.holds ∙ omega arith };
  pieces = h.pieces;
  covered = h.covered;
  rising = h.rising;
}

-- ---- a grant

cells_size : (place : ℕ) (bytes : List ℕ) → length (cells_from place bytes) ≡ length bytes
cells_size place [] = refl
cells_size place (byte ∷ bytes) = ap suc (cells_size (suc place) bytes)

cell_from : (place : ℕ) (bytes : List ℕ) (j : ℕ) → j < length bytes → (c : Cell) × (slice_get (cells_from place bytes) j ≡ Some c) × (c.place ≡ place + j)
cell_from place [] j within = absurd (omega (arith, within))
cell_from place (byte ∷ bytes) zero within = (record { place = place; byte = byte }, refl, omega arith)
cell_from place (byte ∷ bytes) (suc j) within = let rest = cell_from (suc place) bytes j (omega (arith, within)) in let at = rest.2 in (rest.0, rest.1, omega (arith, at))

-- what stands behind a list
behind_all : {X : Type 0} (xs ys : List X) (j k : ℕ) (y : X) → k ≡ length xs + j → slice_get ys j ≡ Some y → slice_get (xs ++ ys) k ≡ Some y
behind_all [] ys j k y is e = let same : k ≡ j = omega (arith, is) in ap (slice_get ys) same ∙ e
behind_all (x ∷ xs) ys j zero y is e = absurd (omega (arith, is))
behind_all (x ∷ xs) ys j (suc k) y is e = behind_all xs ys j k y (omega (arith, is)) e

has_pushed : {X : Type 0} {P : X → Type 0} (xs : List X) (x : X) → P x → Has P (xs ++ x ∷ [])
has_pushed xs x h = record { at = length xs; item = x; there = pushed xs x; holds = h }
  where
    pushed : {X : Type 0} (xs : List X) (x : X) → slice_get (xs ++ x ∷ []) (length xs) ≡ Some x
    pushed [] x = refl
    pushed (y ∷ xs) x = pushed xs x

pub granted_sent : (nxt heard from to : ℕ) (bytes : List ℕ) (granted : List GrantedPiece) (sent : List Cell) (fins : List ℕ) (pair : Option Pair) → nxt ≡ suc (length sent) → to ≡ from + length bytes → 1 ≤ length bytes
    → (finished : Bool) → SentShows finished nxt heard granted sent fins pair → finished ≡ false
    → SentShows finished (nxt + length bytes) heard (granted ++ record { position = nxt; from = from; to = to } ∷ []) (sent ++ cells_from from bytes) fins pair
granted_sent nxt heard from to bytes granted sent fins pair at whole some finished h none = record {
  next = λ no. omega (arith, at, length-append sent cells, cells_size from bytes);
  none = h.none;
  fin = λ is. absurd (both_ways finished none is);
  pieces = Every-push piece (Every-map (λ old shows. piece_more sent cells old shows) h.pieces) own;
  covered = λ n c e above. ⊎_elim
      (λ left. Has-more (piece ∷ []) (h.covered n c left above))
      (λ right.
      let over = right.0 in let inside = slice_get_within cells (n - length sent) c right.1 in
      has_pushed granted piece (record { above = omega (arith, over, at); below = omega (arith, over, at, inside, cells_size from bytes, whole) }))
      (in_append sent cells n c e);
  rising = IfSome-map pair longer h.rising;
}
  where
    cells : List Cell
    cells = cells_from from bytes

    piece : GrantedPiece
    piece = record { position = nxt; from = from; to = to }

    own : IsPieceOf (sent ++ cells) piece
    own = record {
      stands = omega (arith, at);
      some = omega (arith, whole, some);
      cell = λ j within.
          let there = cell_from from bytes j (omega (arith, within, whole)) in
          (there.0, behind_all sent cells j ((nxt - 1) + j) there.0 (omega (arith, at)) there.1, there.2);
    }

    longer : (m : Pair) → RisesTo sent granted m → RisesTo (sent ++ cells) (granted ++ piece ∷ []) m
    longer m old =
        let r : RisesTo (sent ++ cells) granted m = rises_more sent cells granted m old in
        let low = old.low in let within = old.within in
        record {
          within = r.within;
          below = r.below;
          first = r.first;
          base = r.base;
          low = r.low;
          line = r.line;
          pieces = Every-push piece r.pieces (omega (arith, at, low, within));
        }

-- ---- an acknowledgement

-- what passes a test is among those that pass
has_tested : {X : Type 0} {P : X → Type 0} (test : X → Bool) (xs : List X) (at : ℕ) (x : X) → slice_get xs at ≡ Some x → test x ≡ true → P x → Has P (filter test xs)
has_tested test [] at x there passes h = cc
has_tested {X} {P} test (y ∷ xs) zero x there passes h =
    let same : y ≡ x = cc in
    subst (Has P) (sym (ap (λ (b : Bool). if b then y ∷ filter test xs else filter test xs) (ap test same ∙ passes)))
    (record { at = 0; item = y; there = refl; holds = subst P (sym same) h })
has_tested {X} {P} test (y ∷ xs) (suc at) x there passes h = (elim (test y) as (λ b. Has P (filter test xs) → Has P (if b then y ∷ filter test xs else filter test xs))
    [ true ↦ λ rest. record { at = suc rest.at; item = rest.item; there = rest.there; holds = rest.holds } | false ↦ λ rest. rest ]) (has_tested test xs at x there passes h)

all_tested : {X : Type 0} {P : X → Type 0} (test : X → Bool) (xs : List X) → Every P xs → Every P (filter test xs)
all_tested test [] h = h
all_tested {X} {P} test (x ∷ xs) h = (elim (test x) as (λ b. Every P (filter test xs) → Every P (if b then x ∷ filter test xs else filter test xs))
    [ true ↦ λ rest. record { each = put rest } | false ↦ λ rest. rest ]) (all_tested test xs (record { each = λ i y e. h.each (suc i) y e }))
  where
    put : Every P (filter test xs) → (i : ℕ) (y : X) → slice_get (x ∷ filter test xs) i ≡ Some y → P y
    put rest zero y e = let same : x ≡ y = cc in subst P same (h.each 0 x refl)
    put rest (suc i) y e = rest.each i y e

-- a lane shows what was sent still as more is acknowledged
pub heard_sent : (finished : Bool) (nxt heard next : ℕ) (granted : List GrantedPiece) (sent : List Cell) (fins : List ℕ) (pair : Option Pair) → SentShows finished nxt heard granted sent fins pair
    → SentShows finished nxt (max heard next) (filter (is_open (max heard next)) granted) sent fins pair
heard_sent finished nxt heard next granted sent fins pair h = record {
  next = h.next;
  none = h.none;
  fin = h.fin;
  pieces = all_tested (is_open (max heard next)) granted h.pieces;
  covered = λ n c e above.
      let covers = h.covered n c e (omega (arith, above)) in
      let piece : GrantedPiece = covers.item in
      let shows : IsPieceOf sent piece = h.pieces.each covers.at piece covers.there in
      let over = covers.holds.above in let under = covers.holds.below in let stands = shows.stands in
      let at = shows.cell (suc n - piece.position) (omega (arith, over, under)) in
      let place : (piece.position - 1) + (suc n - piece.position) ≡ n = omega (arith, over, stands) in
      let same : at.0 ≡ c = same_Some at.0 c (sym at.1 ∙ ap (slice_get sent) place ∙ e) in
      let is : c.place ≡ piece.from + (suc n - piece.position) = ap (λ (x : Cell). x.place) (sym same) ∙ at.2 in
      has_tested (is_open (max heard next)) granted covers.at piece covers.there (lt-ltb (max heard next) piece.to (omega (arith, above, is, over, under))) covers.holds;
  rising = IfSome-map pair (λ m r. record {
    within = r.within;
    below = r.below;
    first = r.first;
    base = r.base;
    low = r.low;
    line = r.line;
    pieces = all_tested (is_open (max heard next)) granted r.pieces;
  }) h.rising;
}

-- ---- pieces that stand together

module _ (sent : List Cell) where
  each_first : {P : GrantedPiece → Type 0} (g : GrantedPiece) (gs : List GrantedPiece) → Every P (g ∷ gs) → P g
  each_first g gs h = h.each 0 g refl

  each_rest : {P : GrantedPiece → Type 0} (g : GrantedPiece) (gs : List GrantedPiece) → Every P (g ∷ gs) → Every P gs
  each_rest g gs h = record { each = λ i x e. h.each (suc i) x e }

  -- each follows the one before it
  follows_is : (g h : GrantedPiece) → follows g h ≡ true → (h.position ≡ behind g) × (h.from ≡ g.to)
  follows_is g h is = let both = and_parts (h.position == behind g) (h.from == g.to) is in (eqb-true h.position (behind g) both.0, eqb-true h.from g.to both.1)

  -- they end in the record
  chain_end : (g : GrantedPiece) (gs : List GrantedPiece) (end : ℕ) → rises_from g gs end ≡ true → Every (IsPieceOf sent) (g ∷ gs) → (behind g ≤ end) × (end ≤ suc (length sent))
  chain_end g [] end is h =
      let at : behind g ≡ end = eqb-true (behind g) end is in
      let shows : IsPieceOf sent g = each_first g [] h in
      let some = shows.some in
      let last = shows.cell (g.to - g.from - 1) (omega (arith, some)) in
      let inside = slice_get_within sent ((g.position - 1) + (g.to - g.from - 1)) last.0 last.1 in
      (omega (arith, at), omega (arith, at, inside, some))
  chain_end g (next ∷ gs) end is h =
      let parts = and_parts (follows g next) (rises_from next gs end) is in
      let same = follows_is g next parts.0 in
      let at = same.0 in
      let rest = chain_end next gs end parts.1 (each_rest g (next ∷ gs) h) in
      let over = rest.0 in
      (omega (arith, at, over), rest.1)

  cell_of : (g : GrantedPiece) (n : ℕ) (c : Cell) → IsPieceOf sent g → g.position ≤ suc n → suc n < g.position + (g.to - g.from) → slice_get sent n ≡ Some c → c.place + g.position ≡ g.from + suc n
  cell_of g n c shows over under e =
      let stands = shows.stands in
      let at = shows.cell (suc n - g.position) (omega (arith, over, under)) in
      let place : (g.position - 1) + (suc n - g.position) ≡ n = omega (arith, over, stands) in
      let same : at.0 ≡ c = same_Some at.0 c (sym at.1 ∙ ap (slice_get sent) place ∙ e) in
      let is : c.place ≡ g.from + (suc n - g.position) = ap (λ (x : Cell). x.place) (sym same) ∙ at.2 in
      omega (arith, is, over)

  -- places rise along them
  chain_at : (g : GrantedPiece) (gs : List GrantedPiece) (end : ℕ) → rises_from g gs end ≡ true → Every (IsPieceOf sent) (g ∷ gs)
      → (n : ℕ) (c : Cell) → g.position ≤ suc n → suc n < end → slice_get sent n ≡ Some c → c.place + g.position ≡ g.from + suc n
  chain_at g [] end is h n c over under e =
      let at : behind g ≡ end = eqb-true (behind g) end is in
      cell_of g n c (each_first g [] h) over (omega (arith, at, under)) e
  chain_at g (next ∷ gs) end is h n c over under e =
      let parts = and_parts (follows g next) (rises_from next gs end) is in
      let same = follows_is g next parts.0 in
      let at = same.0 in let from = same.1 in
      let some = (each_first g (next ∷ gs) h).some in
      ⊎_elim
      (λ inside. cell_of g n c (each_first g (next ∷ gs) h) over inside e)
      (λ beyond. let rest = chain_at next gs end parts.1 (each_rest g (next ∷ gs) h) n c (omega (arith, at, beyond)) under e in omega (arith, rest, at, from, some, over, beyond))
      (cases_lt (suc n) (g.position + (g.to - g.from)))

  -- none stands before the first
  chain_first : (g : GrantedPiece) (gs : List GrantedPiece) (end : ℕ) → rises_from g gs end ≡ true → (i : ℕ) (x : GrantedPiece) → slice_get (g ∷ gs) i ≡ Some x → g.position ≤ x.position
  chain_first g gs end is zero x e = let same : g ≡ x = cc in let at : g.position ≡ x.position = ap (λ (y : GrantedPiece). y.position) same in omega (arith, at)
  chain_first g [] end is (suc i) x e = cc
  chain_first g (next ∷ gs) end is (suc i) x e =
      let parts = and_parts (follows g next) (rises_from next gs end) is in
      let same = follows_is g next parts.0 in
      let at = same.0 in
      let rest = chain_first next gs end parts.1 i x e in
      omega (arith, at, rest)

  -- the piece that has a place, and where the place stands
  pub record Found (place : ℕ) (g : GrantedPiece) (gs : List GrantedPiece) : Type 0 where
    pub piece : GrantedPiece
    pub is : find (has_place place) (g ∷ gs) ≡ Some piece
    pub at : (piece.position + (place - piece.from)) + g.from ≡ g.position + place

  has_first : (place : ℕ) (g : GrantedPiece) → g.from ≤ place → place < g.to → has_place place g ≡ true
  has_first place g over under = and_from (nat_le g.from place) (nat_lt place g.to) (le-leb g.from place over) (lt-ltb place g.to under)

  past_first : (place : ℕ) (g : GrantedPiece) → g.to ≤ place → has_place place g ≡ false
  past_first place g past = elim (nat_le g.from place) as (λ b. b && nat_lt place g.to ≡ false) [ true ↦ le-ltb place g.to past | false ↦ refl ]

  found_here : (place : ℕ) (g : GrantedPiece) (gs : List GrantedPiece) → g.from ≤ place → place < g.to → Found place g gs
  found_here place g gs over inside = record {
    piece = g;
    is = ap (λ (b : Bool). if b then Some g else find (has_place place) gs) (has_first place g over inside);
    at = omega (arith, over);
  }

  found_further : (place : ℕ) (g next : GrantedPiece) (gs : List GrantedPiece) → next.position ≡ behind g → next.from ≡ g.to → g.from < g.to → g.to ≤ place → Found place next gs → Found place g (next ∷ gs)
  found_further place g next gs at from some past rest = let there = rest.at in record {
    piece = rest.piece;
    is = ap (λ (b : Bool). if b then Some g else find (has_place place) (next ∷ gs)) (past_first place g past) ∙ rest.is;
    at = omega (arith, there, at, from, some);
  }

  found : (place : ℕ) (g : GrantedPiece) (gs : List GrantedPiece) (end : ℕ) → rises_from g gs end ≡ true → Every (IsPieceOf sent) (g ∷ gs) → g.from ≤ place → place + g.position < g.from + end → Found place g gs
  found place g [] end is h over under =
      let at : behind g ≡ end = eqb-true (behind g) end is in
      let some = (each_first g [] h).some in
      found_here place g [] over (omega (arith, at, under, some))
  found place g (next ∷ gs) end is h over under =
      let parts = and_parts (follows g next) (rises_from next gs end) is in
      let same = follows_is g next parts.0 in
      let at = same.0 in let from = same.1 in
      let some = (each_first g (next ∷ gs) h).some in
      ⊎_elim
      (λ inside. found_here place g (next ∷ gs) over inside)
      (λ past. found_further place g next gs at from some past
      (found place next gs end parts.1 (each_rest g (next ∷ gs) h) (omega (arith, from, past)) (omega (arith, at, from, under, some))))
      (cases_lt place g.to)

  -- a place behind them is in none
  not_found : (place : ℕ) (g : GrantedPiece) (gs : List GrantedPiece) (end : ℕ) → rises_from g gs end ≡ true → Every (IsPieceOf sent) (g ∷ gs) → g.from + end ≤ place + g.position
      → find (has_place place) (g ∷ gs) ≡ None
  not_found place g [] end is h past =
      let at : behind g ≡ end = eqb-true (behind g) end is in
      let some = (each_first g [] h).some in
      ap (λ (b : Bool). if b then Some g else None) (past_first place g (omega (arith, at, past, some)))
  not_found place g (next ∷ gs) end is h past =
      let parts = and_parts (follows g next) (rises_from next gs end) is in
      let same = follows_is g next parts.0 in
      let at = same.0 in let from = same.1 in
      let some = (each_first g (next ∷ gs) h).some in
      let over = (chain_end next gs end parts.1 (each_rest g (next ∷ gs) h)).0 in
      ap (λ (b : Bool). if b then Some g else find (has_place place) (next ∷ gs)) (past_first place g (omega (arith, at, past, some, over)))
      ∙ not_found place next gs end parts.1 (each_rest g (next ∷ gs) h) (omega (arith, at, from, past, some))

-- ---- the infinite mapping

-- a segment begins at this place, and at this position of the record
pub record Gone (nxt : ℕ) (place : ℕ) (granted : List GrantedPiece) (sent : List Cell) (fins : List ℕ) : Type 0 where
  pub pos : ℕ
  pub within : pos ≤ length sent
  pub below : list_all (λ c. nat_lt c.place place) (take pos sent) ≡ true
  pub line : rises place (drop pos sent) ≡ true
  pub at : (suc pos ≡ position_of nxt place granted) ⊎ Has (λ n. suc n ≡ position_of nxt place granted - 1) fins
  pub rising : RisesTo sent granted (record { pos = pos; place = place })

all_below : (place : ℕ) (cells : List Cell) → ((n : ℕ) (c : Cell) → slice_get cells n ≡ Some c → c.place < place) → list_all (λ c. nat_lt c.place place) cells ≡ true
all_below place [] h = refl
all_below place (c ∷ cells) h = and_from (nat_lt c.place place) (list_all (λ c. nat_lt c.place place) cells) (lt-ltb c.place place (h 0 c refl)) (all_below place cells (λ n d e. h (suc n) d e))

all_rise : (place : ℕ) (cells : List Cell) → ((n : ℕ) (c : Cell) → slice_get cells n ≡ Some c → c.place ≡ place + n) → rises place cells ≡ true
all_rise place [] h = refl
all_rise place (c ∷ cells) h =
    and_from (c.place == place) (rises (suc place) cells) (eq-eqb c.place place (h 0 c refl ∙ omega arith)) (all_rise (suc place) cells (λ n d e. h (suc n) d e ∙ omega arith))

module _ (finished : Bool) (nxt heard : ℕ) (granted : List GrantedPiece) (sent : List Cell) (fins : List ℕ) (pair : Option Pair) (shows : SentShows finished nxt heard granted sent fins pair)
    (behind_fin : finished ≡ true → nxt ≡ suc (suc (length sent))) (short : length sent < 2 ^ 63) (place : ℕ)
    (low : (n : ℕ) (c : Cell) → slice_get sent n ≡ Some c → c.place < heard → c.place < place)
    (gathered : (n : ℕ) (c : Cell) → slice_get sent n ≡ Some c → place < c.place → HasPlace sent place) where
  -- where the pieces don't have a byte it lies below the place
  below_open : (n : ℕ) (c : Cell) → slice_get sent n ≡ Some c → (Has (Covers n) granted → ⊥) → c.place < place
  below_open n c e none = ⊎_elim (λ less. low n c e less) (λ above. absurd (none (shows.covered n c e above))) (cases_lt c.place heard)

  -- all bytes lie below it, and the next position is its own
  whole : (position_of nxt place granted ≡ nxt) → (first base : ℕ) → first ≤ length sent → ((n : ℕ) (c : Cell) → slice_get sent n ≡ Some c → c.place < place)
      → ((n : ℕ) (c : Cell) → first ≤ n → slice_get sent n ≡ Some c → c.place + first ≡ base + n) → Every (λ piece. first < piece.position) granted → Gone nxt place granted sent fins
  whole is first base within_first all line pieces = record {
    pos = length sent;
    within = omega arith;
    below = all_below place (take (length sent) sent) (λ n c e. all n c (in_take (length sent) sent n c e).0);
    line = all_rise place (drop (length sent) sent) (λ n c e.
        let inside = slice_get_within sent (length sent + n) c (in_drop (length sent) sent n (length sent + n) c refl e) in absurd (omega (arith, inside)));
    at = by finished refl;
    rising = record {
      within = omega arith;
      below = λ n c less e. all n c e;
      first = first;
      base = base;
      low = within_first;
      line = λ n c from less e. line n c from e;
      pieces = pieces;
    };
  }
    where
      by : (b : Bool) → finished ≡ b → (suc (length sent) ≡ position_of nxt place granted) ⊎ Has (λ n. suc n ≡ position_of nxt place granted - 1) fins
      by false none = inl (sym (is ∙ shows.next none))
      by true done = inr (subst (λ m. Has (λ n. suc n ≡ m - 1) fins) (sym is) (shows.fin done))

  -- no piece is open
  gone_none : granted ≡ [] → Gone nxt place granted sent fins
  gone_none none = whole (ap (position_of nxt place) none) (length sent) 0 (omega arith)
      (λ n c e. below_open n c e (λ covers. let there = covers.there in cc))
      (λ n c from e. let inside = slice_get_within sent n c e in absurd (omega (arith, from, inside)))
      (record { each = λ i x e. cc })

  module _ (g : GrantedPiece) (gs : List GrantedPiece) (are : granted ≡ g ∷ gs) (tail : rises_from g gs nxt ≡ true) where
    pieces : Every (IsPieceOf sent) (g ∷ gs)
    pieces = subst (Every (IsPieceOf sent)) are shows.pieces

    ends : (behind g ≤ nxt) × (nxt ≤ suc (length sent))
    ends = chain_end sent g gs nxt tail pieces

    own : IsPieceOf sent g
    own = each_first sent g gs pieces

    unfinished : (b : Bool) → finished ≡ b → nxt ≡ suc (length sent)
    unfinished false none = shows.next none
    unfinished true done = let at = behind_fin done in let inside = ends.1 in absurd (omega (arith, at, inside))

    at_end : nxt ≡ suc (length sent)
    at_end = unfinished finished refl

    -- along the pieces places rise, and those before them lie below
    on_line : (n : ℕ) (c : Cell) → g.position - 1 ≤ n → slice_get sent n ≡ Some c → c.place + g.position ≡ g.from + suc n
    on_line n c from e =
        let inside = slice_get_within sent n c e in
        chain_at sent g gs nxt tail pieces n c (let stands = own.stands in omega (arith, from)) (omega (arith, inside, at_end)) e

    before : (n : ℕ) (c : Cell) → n < g.position - 1 → slice_get sent n ≡ Some c → c.place < place
    before n c less e = below_open n c e (λ covers.
        let first = chain_first sent g gs nxt tail covers.at covers.item (ap (λ xs. slice_get xs covers.at) (sym are) ∙ covers.there) in
        let above = covers.holds.above in
        omega (arith, first, above, less))

    behind_first : Every (λ piece. g.position - 1 < piece.position) granted
    behind_first = record {
      each = λ i x e.
          let first = chain_first sent g gs nxt tail i x (ap (λ xs. slice_get xs i) (sym are) ∙ e) in let stands = own.stands in omega (arith, first, stands);
    }

    -- the first open byte is the place's, or lies below
    starts : g.from ≤ place
    starts = ⊎_elim (λ less. absurd (no less)) (λ from. from) (cases_lt place g.from)
      where
        no : place < g.from → ⊥
        no less =
            let some = own.some in
            let at = own.cell 0 (omega (arith, some)) in
            let first = at.2 in
            let has = gathered ((g.position - 1) + 0) at.0 at.1 (omega (arith, first, less)) in
            let is = has.holds in
            ⊎_elim
            (λ old. let lies = before has.at has.item old has.there in omega (arith, lies, is))
            (λ new. let lies = on_line has.at has.item new has.there in let stands = own.stands in omega (arith, lies, is, new, less, stands))
            (cases_lt has.at (g.position - 1))

    -- and it is one of theirs, or all are below it
    inside_them : place + g.position < g.from + nxt → Gone nxt place granted sent fins
    inside_them under =
        let f : Found sent place g gs = found sent place g gs nxt tail pieces starts under in
        let at = f.at in let stands = own.stands in
        let pos : ℕ = (g.position - 1) + (place - g.from) in
        let small : pos < length sent = omega (arith, under, at_end, stands, starts) in
        record {
          pos = pos;
          within = omega (arith, small);
          below = all_below place (take pos sent) (λ n c e. let both = in_take pos sent n c e in under_pos n c both.1 both.0);
          line = all_rise place (drop pos sent) (λ n c e.
              let there = in_drop pos sent n (pos + n) c refl e in
              let lies = on_line (pos + n) c (omega arith) there in
              omega (arith, lies, stands, starts));
          at = inl (sym (ap (position_in nxt place) (ap (find (has_place place)) are ∙ f.is) ∙ omega (arith, at, short, small, stands, starts)));
          rising = record {
            within = omega (arith, small);
            below = λ n c less e. under_pos n c less e;
            first = g.position - 1;
            base = g.from;
            low = omega arith;
            line = λ n c from less e. let lies = on_line n c from e in omega (arith, lies, stands);
            pieces = behind_first;
          };
        }
      where
        under_pos : (n : ℕ) (c : Cell) → n < (g.position - 1) + (place - g.from) → slice_get sent n ≡ Some c → c.place < place
        under_pos n c less e = ⊎_elim
            (λ old. before n c old e)
            (λ new. let lies = on_line n c new e in let stands = own.stands in omega (arith, lies, less, stands, starts))
            (cases_lt n (g.position - 1))

    past_them : g.from + nxt ≤ place + g.position → Gone nxt place granted sent fins
    past_them past = whole (ap (position_in nxt place) (ap (find (has_place place)) are ∙ not_found sent place g gs nxt tail pieces past)) (g.position - 1) g.from
        (let stands = own.stands in let over = ends.0 in omega (arith, stands, over, at_end))
        (λ n c e. ⊎_elim
        (λ old. before n c old e)
        (λ new. let lies = on_line n c new e in let inside = slice_get_within sent n c e in omega (arith, lies, inside, past, at_end))
        (cases_lt n (g.position - 1)))
        (λ n c from e. let lies = on_line n c from e in let stands = own.stands in omega (arith, lies, stands))
        behind_first

    gone_some : Gone nxt place granted sent fins
    gone_some = ⊎_elim inside_them past_them (cases_lt (place + g.position) (g.from + nxt))

  -- where the pieces stand together at the end of the record, the book may go
  pub gone : is_tail granted nxt ≡ true → Gone nxt place granted sent fins
  gone tail = (elim granted as (λ pieces. granted ≡ pieces → is_tail pieces nxt ≡ true → Gone nxt place granted sent fins)
      [ [] ↦ λ none tail. gone_none none | g ∷ gs ↦ λ are tail. gone_some g gs are tail ]) refl tail
