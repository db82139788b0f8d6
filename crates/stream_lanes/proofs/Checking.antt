-- Bytes that came: each is the record's, or the first of a piece, with its lowest bit turned.
--
-- Altered payload is one bit of the view that falls, `exact`: no link alters anything, or every mapping is checked and
-- the receiver did not fall. Only two facts are guarded by it, that a byte in the book is the written one and that the
-- reader's are; lengths, places, acknowledgements and ends need no guard. What is on the way is `Came`: the record's
-- byte, or the first of a piece with its lowest bit turned. Pieces are apart and copies have the bounds of a piece, so
-- parts of different copies of a mapping are those of one of two texts (`came_cases`), and a second alteration needs no
-- case of its own. What links do and whether mappings are checked are constants of a lane (`alters`, `checked`), so
-- that no new move looks at a mode. What is said of windows is guarded by `alters ≡ false`: an old acknowledgement of
-- the subflow may tell one that is too large.
use Rattle.stream_lanes.proofs.Words.{◌≡◌, refl, sym, ◌∙◌, ap, subst, ℕ, zero, suc, ◌+◌, ◌<◌, ◌≤◌, Bool, true, false, ◌==◌, List, [], ◌∷◌, length, Some, arith}
use Rattle.stream_lanes.proofs.Words.{◌⊎◌, inl, inr, ◌^◌, bit_xor, and_parts, both_ways, eqb-true, slice_get, slice_get_within, same_Some, Mapping, Cell}
use Rattle.stream_lanes.proofs.Words.{are_same, From, Came, IsByteOf, IsPiece, AreApart, Starts, as_sent, turned}
use Rattle.ones_sum.specs.Words.{with_bit_turned}
use Rattle.seq_units.specs.declared.mapping.Mapping.{Mapping as Summed}
use Rattle.dss_checksum.specs.Checksum.{pseudo_header, dss_checksum}
use Rattle.dss_checksum.proofs.Joining.{turned-back}
use Rattle.stream_lanes.proofs.Bytes.{byte_within}

pub length-turned : (bytes : List ℕ) → length (with_bit_turned bytes 0 0) ≡ length bytes
length-turned = elim [ [] ↦ refl | byte ∷ bytes ↦ refl ]

-- a part of the record with its first byte turned
pub turned_came : (alters : Bool) (pieces : List Mapping) (sent : List Cell) (m : Mapping) → alters ≡ true → Starts pieces m.pos
    → (bytes : List ℕ) → From (IsByteOf sent) m.pos bytes → From (Came alters pieces sent) m.pos (with_bit_turned bytes 0 0)
turned_came alters pieces sent m may starts [] row = record { each = λ i n x n_is e. cc }
turned_came alters pieces sent m may starts (byte ∷ bytes) row = record { each = each }
  where
    each : (i n x : ℕ) → n ≡ m.pos + i → slice_get (bit_xor byte (2 ^ 0) ∷ bytes) i ≡ Some x → Came alters pieces sent n x
    each zero n x n_is e =
        let at : n ≡ m.pos = omega (arith, n_is) in
        let same : bit_xor byte (2 ^ 0) ≡ x = cc in
        turned may (subst (Starts pieces) (omega (arith, at)) starts) byte (row.each zero n byte n_is refl) (omega (arith, same))
    each (suc i) n x n_is e = as_sent (row.each (suc i) n x n_is e)

-- a byte that came lies within the record, and over links that alter nothing it is the record's
pub came_within : (alters : Bool) (pieces : List Mapping) (sent : List Cell) (pos byte : ℕ) → Came alters pieces sent pos byte → pos < length sent
came_within alters pieces sent pos byte (as_sent is) = byte_within sent pos byte is
came_within alters pieces sent pos byte (turned may starts old is bit) = byte_within sent pos old is

pub came_unaltered : (alters : Bool) (pieces : List Mapping) (sent : List Cell) (pos byte : ℕ) → alters ≡ false → Came alters pieces sent pos byte → IsByteOf sent pos byte
came_unaltered alters pieces sent pos byte none (as_sent is) = is
came_unaltered alters pieces sent pos byte none (turned may starts old is bit) = absurd (both_ways _ none may)

-- two rows of bytes of a record, as long as each other
rows_same : (sent : List Cell) (first : ℕ) (xs ys : List ℕ) → length xs ≡ length ys → From (IsByteOf sent) first xs → From (IsByteOf sent) first ys → xs ≡ ys
rows_same sent first [] [] size left right = refl
rows_same sent first [] (y ∷ ys) size left right = absurd (omega (arith, size))
rows_same sent first (x ∷ xs) [] size left right = absurd (omega (arith, size))
rows_same sent first (x ∷ xs) (y ∷ ys) size left right =
    let head : x ≡ y = same_Some x y (sym (left.each 0 first x (omega arith) refl) ∙ right.each 0 first y (omega arith) refl) in
    let rest : xs ≡ ys = rows_same sent (suc first) xs ys (omega (arith, size))
    (record { each = λ i n b n_is e. left.each (suc i) n b (omega (arith, n_is)) e }) (record { each = λ i n b n_is e. right.each (suc i) n b (omega (arith, n_is)) e }) in
    ap (λ z. z ∷ xs) head ∙ ap (λ zs. y ∷ zs) rest

-- all bytes of a mapping that came are those of the record, or those with the first one's lowest bit turned
pub came_cases : (alters : Bool) (pieces : List Mapping) (sent : List Cell) (m : Mapping) → IsPiece pieces m → AreApart pieces
    → (bytes part : List ℕ) → length bytes ≡ m.len → length part ≡ m.len → From (Came alters pieces sent) m.pos bytes → From (IsByteOf sent) m.pos part
    → (bytes ≡ part) ⊎ (bytes ≡ with_bit_turned part 0 0)
came_cases alters pieces sent m has apart [] [] size part_size row right = inl refl
came_cases alters pieces sent m has apart [] (y ∷ ys) size part_size row right = absurd (omega (arith, size, part_size))
came_cases alters pieces sent m has apart (x ∷ xs) [] size part_size row right = absurd (omega (arith, size, part_size))
came_cases alters pieces sent m has apart (x ∷ xs) (y ∷ ys) size part_size row right = at (row.each 0 m.pos x (omega arith) refl)
  where
    -- no piece begins within another one
    inside : (i n b : ℕ) → n ≡ suc m.pos + i → i < length xs → Came alters pieces sent n b → IsByteOf sent n b
    inside i n b n_is below (as_sent is) = is
    inside i n b n_is below (turned may starts old is bit) =
        let first : has.item.pos ≡ m.pos = ap (λ (k : Mapping). k.pos) has.holds in
        let len : has.item.len ≡ m.len = ap (λ (k : Mapping). k.len) has.holds in
        let next : starts.item.pos ≡ n = starts.holds in
        let after : has.item.pos + has.item.len ≤ starts.item.pos =
        apart has.at starts.at has.item starts.item has.there starts.there (omega (arith, first, next, n_is)) in
        absurd (omega (arith, after, first, len, next, n_is, below, size))

    rest : xs ≡ ys
    rest = rows_same sent (suc m.pos) xs ys (omega (arith, size, part_size))
        (record { each = λ i n b n_is e. inside i n b n_is (slice_get_within xs i b e) (row.each (suc i) n b (omega (arith, n_is)) e) })
        (record { each = λ i n b n_is e. right.each (suc i) n b (omega (arith, n_is)) e })

    head_is : IsByteOf sent m.pos y
    head_is = right.each 0 m.pos y (omega arith) refl

    at : Came alters pieces sent m.pos x → (x ∷ xs ≡ y ∷ ys) ⊎ (x ∷ xs ≡ bit_xor y (2 ^ 0) ∷ ys)
    at (as_sent is) = inl (ap (λ z. z ∷ xs) (same_Some x y (sym is ∙ head_is)) ∙ ap (λ zs. y ∷ zs) rest)
    at (turned may starts old is bit) =
        let same : old ≡ y = same_Some old y (sym is ∙ head_is) in
        inr (ap (λ z. z ∷ xs) (bit ∙ ap (λ z. bit_xor z (2 ^ 0)) same) ∙ ap (λ zs. bit_xor y (2 ^ 0) ∷ zs) rest)

-- a right checksum shows which of the two they are
pub checksum_shows : (k : Summed) (bytes part : List ℕ) → 1 ≤ length part → (bytes ≡ part) ⊎ (bytes ≡ with_bit_turned part 0 0)
    → dss_checksum k bytes ≡ dss_checksum k part → bytes ≡ part
checksum_shows k bytes part some (inl same) right = same
checksum_shows k bytes part some (inr other) right =
    absurd (turned-back (pseudo_header k) part 0 0 (omega (arith, some)) (omega arith) (ap (dss_checksum k) (sym other) ∙ right))

pub same_bytes : (xs ys : List ℕ) → are_same xs ys ≡ true → xs ≡ ys
same_bytes [] [] is = refl
same_bytes [] (y ∷ ys) is = cc
same_bytes (x ∷ xs) [] is = cc
same_bytes (x ∷ xs) (y ∷ ys) is =
    let parts = and_parts (x == y) (are_same xs ys) is in
    ap (λ z. z ∷ xs) (eqb-true x y parts.0) ∙ ap (λ zs. y ∷ zs) (same_bytes xs ys parts.1)
