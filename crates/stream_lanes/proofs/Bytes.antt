-- Bytes by position and by place: what came, what is filled, what a record has.
use Rattle.stream_lanes.proofs.Words.{◌≡◌, refl, ◌∙◌, ap, subst, ℕ, zero, suc, ◌+◌, ◌-◌, ◌<◌, ◌≤◌, Bool, ⊎_elim, List, [], ◌∷◌, ◌++◌, length, take, drop, map}
use Rattle.stream_lanes.proofs.Words.{replicate, Option, Some, None, arith, ◌⊎◌, inl, inr, slice_get, length-take, map-append, length-map, slice_get_within}
use Rattle.stream_lanes.proofs.Words.{filled, by_place, merged, DataCopy, Mapping, Cell, places_of, bytes_of, place_after, cells_from, From, Cells, IsRight}
use Rattle.stream_lanes.proofs.Words.{HasPlace, Came, IsByteOf, IsHonest, as_sent, turned}
use Rattle.std.proofs.lemmas.Grind.{common_steps}
use Rattle.stream_lanes.proofs.Lists.{in_more, in_drop, in_take, in_map, From-map, Has-more, IfSome-map}

-- what is at a place after a merge was there before, or came
in_merged : (xs ys : List (Option ℕ)) (i x : ℕ) → slice_get (merged xs ys) i ≡ Some (Some x)
    → (slice_get xs i ≡ Some (Some x)) ⊎ (slice_get ys i ≡ Some (Some x))
in_merged [] ys i x e = inr e
in_merged (place ∷ xs) [] i x e = inl e
in_merged (Some byte ∷ xs) (other ∷ ys) zero x e = inl e
in_merged (None ∷ xs) (other ∷ ys) zero x e = inr e
in_merged (Some byte ∷ xs) (other ∷ ys) (suc i) x e = in_merged xs ys i x e
in_merged (None ∷ xs) (other ∷ ys) (suc i) x e = in_merged xs ys i x e

pub Cells-merged : {P : ℕ → ℕ → Type 0} {first : ℕ} {xs ys : List (Option ℕ)} → Cells P first xs → Cells P first ys → Cells P first (merged xs ys)
Cells-merged {P} {first} {xs} {ys} h k = record {
  each = λ i n x n_is e. ⊎_elim (λ left. h.each i n x n_is left) (λ right. k.each i n x n_is right) (in_merged xs ys i x e);
}

some_bytes : (bytes : List ℕ) (i x : ℕ) → slice_get (map Some bytes) i ≡ Some (Some x) → slice_get bytes i ≡ Some x
some_bytes [] i x e = cc
some_bytes (b ∷ bytes) zero x e = cc
some_bytes (b ∷ bytes) (suc i) x e = some_bytes bytes i x e

after_none : (at : ℕ) (rest : List (Option ℕ)) (i x : ℕ) → slice_get (replicate at None ++ rest) i ≡ Some (Some x)
    → (at ≤ i) × (slice_get rest (i - at) ≡ Some (Some x))
after_none zero rest i x e = (omega arith, ap (slice_get rest) (omega arith) ∙ e)
after_none (suc at) rest zero x e = cc
after_none (suc at) rest (suc i) x e =
    let later = after_none at rest i x e in (omega (arith, later.0), ap (slice_get rest) (omega arith) ∙ later.1)

in_by_place : (at : ℕ) (bytes : List ℕ) (i x : ℕ) → slice_get (by_place at bytes) i ≡ Some (Some x) → (at ≤ i) × (slice_get bytes (i - at) ≡ Some x)
in_by_place at [] i x e = cc
in_by_place at (b ∷ bytes) i x e =
    let later = after_none at (map Some (b ∷ bytes)) i x e in (later.0, some_bytes (b ∷ bytes) (i - at) x later.1)

-- bytes by place, from a place on
pub Cells-by_place : {P : ℕ → ℕ → Type 0} {at : ℕ} {bytes : List ℕ} (first : ℕ) → From P at bytes → Cells P first (drop first (by_place at bytes))
Cells-by_place {P} {at} {bytes} first h = record {
  each = λ i n x n_is e.
      let there = in_by_place at bytes n x (in_drop first (by_place at bytes) i n (Some x) n_is e) in
      h.each (n - at) n x (omega (arith, there.0)) there.1;
}

pub in_filled : (places : List (Option ℕ)) (i x : ℕ) → slice_get (filled places) i ≡ Some x → slice_get places i ≡ Some (Some x)
in_filled [] i x e = cc
in_filled (None ∷ places) i x e = cc
in_filled (Some b ∷ places) zero x e = let same : b ≡ x = cc in rw same refl
in_filled (Some b ∷ places) (suc i) x e = in_filled places i x e

-- as many places as are filled from the first one on
pub filled_upto : (places : List (Option ℕ)) (n : ℕ) → ((i : ℕ) → i < n → (x : ℕ) × (slice_get places i ≡ Some (Some x))) → n ≤ length (filled places)
filled_upto places zero full = omega arith
filled_upto [] (suc n) full = let first = full 0 (omega arith) in absurd (none_there first.0 first.1)
  where
    none_there : (x : ℕ) → None ≡ Some (Some x) → ⊥
    none_there x e = cc
filled_upto (None ∷ places) (suc n) full = let first = full 0 (omega arith) in absurd (none_there first.0 first.1)
  where
    none_there : (x : ℕ) → ◌≡◌ {A = Option (Option ℕ)} (Some None) (Some (Some x)) → ⊥
    none_there x e = cc
filled_upto (Some y ∷ places) (suc n) full = omega (arith, filled_upto places n (λ i below. full (suc i) (omega (arith, below))))

-- one of them
pub filled_item : (places : List (Option ℕ)) (i : ℕ) → i < length (filled places) → (x : ℕ) × (slice_get places i ≡ Some (Some x))
filled_item [] i below = absurd (omega (arith, below))
filled_item (None ∷ places) i below = absurd (omega (arith, below))
filled_item (Some y ∷ places) zero below = (y, refl)
filled_item (Some y ∷ places) (suc i) below = filled_item places i (omega (arith, below))

-- a merge keeps what is there
pub merged_left : (xs ys : List (Option ℕ)) (i x : ℕ) → slice_get xs i ≡ Some (Some x) → slice_get (merged xs ys) i ≡ Some (Some x)
merged_left [] ys i x e = cc
merged_left (y ∷ xs) [] i x e = e
merged_left (Some y ∷ xs) (z ∷ ys) zero x e = e
merged_left (None ∷ xs) (z ∷ ys) zero x e = cc
merged_left (Some y ∷ xs) (z ∷ ys) (suc i) x e = merged_left xs ys i x e
merged_left (None ∷ xs) (z ∷ ys) (suc i) x e = merged_left xs ys i x e

pub From-filled : {P : ℕ → ℕ → Type 0} {first : ℕ} {places : List (Option ℕ)} → Cells P first places → From P first (filled places)
From-filled {P} {first} {places} h = record { each = λ i n x n_is e. h.each i n x n_is (in_filled places i x e) }

pub From-take : {X : Type 0} {P : ℕ → X → Type 0} {first : ℕ} {xs : List X} (count : ℕ) → From P first xs → From P first (take count xs)
From-take {X} {P} {first} {xs} count h = record { each = λ i n x n_is e. h.each i n x n_is (in_take count xs i x e).0 }

pub Cells-take : {X : Type 0} {P : ℕ → X → Type 0} {first : ℕ} {xs : List (Option X)} (count : ℕ) → Cells P first xs → Cells P first (take count xs)
Cells-take {X} {P} {first} {xs} count h = record { each = λ i n x n_is e. h.each i n x n_is (in_take count xs i (Some x) e).0 }

-- a record that grew
pub byte_more : (sent more : List Cell) (pos byte : ℕ) → IsByteOf sent pos byte → IsByteOf (sent ++ more) pos byte
byte_more sent more pos byte e =
    ap (λ bs. slice_get bs pos) (map-append (λ (c : Cell). c.byte) sent more) ∙ in_more (bytes_of sent) (bytes_of more) pos byte e

pub place_more : (sent more : List Cell) (pos place : ℕ) → slice_get (places_of sent) pos ≡ Some place → slice_get (places_of (sent ++ more)) pos ≡ Some place
place_more sent more pos place e =
    ap (λ qs. slice_get qs pos) (map-append (λ (c : Cell). c.place) sent more) ∙ in_more (places_of sent) (places_of more) pos place e

pub byte_within : (sent : List Cell) (pos byte : ℕ) → IsByteOf sent pos byte → pos < length sent
byte_within sent pos byte e = subst (λ n. pos < n) (length-map sent (λ (c : Cell). c.byte)) (slice_get_within (bytes_of sent) pos byte e)

length_more : {X : Type 0} (xs ys : List X) → length xs ≤ length (xs ++ ys)
length_more xs ys = grind (arith, common_steps)

pub right_more : (sent more : List Cell) (m : Mapping) → IsRight sent m → IsRight (sent ++ more) m
right_more sent more m h = record {
  some = h.some;
  within = omega (arith, h.within, length_more sent more);
  places = λ j below. place_more sent more (m.pos + j) (m.place + j) (h.places j below);
}

pub came_more : (alters : Bool) (pieces others : List Mapping) (sent more : List Cell) (pos byte : ℕ) → Came alters pieces sent pos byte
    → Came alters (pieces ++ others) (sent ++ more) pos byte
came_more alters pieces others sent more pos byte (as_sent is) = as_sent (byte_more sent more pos byte is)
came_more alters pieces others sent more pos byte (turned may starts old is bit) = turned may (Has-more others starts) old (byte_more sent more pos old is) bit

pub honest_more : (alters : Bool) (pieces others : List Mapping) (sent more : List Cell) (d : DataCopy) → IsHonest alters pieces sent d
    → IsHonest alters (pieces ++ others) (sent ++ more) d
honest_more alters pieces others sent more d h = record {
  within = omega (arith, h.within, length_more sent more);
  bytes = From-map (λ pos byte e. came_more alters pieces others sent more pos byte e) h.bytes;
  mapping = IfSome-map d.mapping (right_more sent more) h.mapping;
  piece = IfSome-map d.mapping (λ m has. Has-more others has) h.piece;
}

-- the part of a record that a mapping names
pub part_is_honest : (sent : List Cell) (m : Mapping) → IsRight sent m → From (IsByteOf sent) m.pos (take m.len (drop m.pos (bytes_of sent)))
part_is_honest sent m h = record { each = λ i n x n_is e. in_drop m.pos (bytes_of sent) i n x n_is (in_take m.len (drop m.pos (bytes_of sent)) i x e).0 }

pub part_within : (sent : List Cell) (m : Mapping) → IsRight sent m → m.pos + length (take m.len (drop m.pos (bytes_of sent))) ≤ length sent
part_within sent m h = omega (arith, h.within, length-take m.len (drop m.pos (bytes_of sent)))

-- the cells of a grant
pub length-cells_from : (place : ℕ) (bytes : List ℕ) → length (cells_from place bytes) ≡ length bytes
length-cells_from place [] = refl
length-cells_from place (b ∷ bytes) = ap suc (length-cells_from (suc place) bytes)

pub in_cells_from : (place : ℕ) (bytes : List ℕ) (i : ℕ) (c : Cell) → slice_get (cells_from place bytes) i ≡ Some c
    → (c.place ≡ place + i) × (slice_get bytes i ≡ Some c.byte)
in_cells_from place [] i c e = cc
in_cells_from place (b ∷ bytes) zero c e =
    let same : record { place = place; byte = b } ≡ c = cc in
    (omega (arith, ap (λ (d : Cell). d.place) same), ap (λ (d : Cell). Some d.byte) same)
in_cells_from place (b ∷ bytes) (suc i) c e =
    let rest = in_cells_from (suc place) bytes i c e in (omega (arith, rest.0), rest.1)

pub places-cells_from : (place : ℕ) (bytes : List ℕ) (i q : ℕ) → i < length bytes → q ≡ place + i → slice_get (places_of (cells_from place bytes)) i ≡ Some q
places-cells_from place [] i q below e = absurd (omega (arith, below))
places-cells_from place (b ∷ bytes) zero q below e = ap Some (omega (arith, e))
places-cells_from place (b ∷ bytes) (suc i) q below e = places-cells_from (suc place) bytes i q (omega (arith, below)) (omega (arith, e))

-- the place after the last byte of a record whose bytes have their positions as places
pub place_after-identity : (before : ℕ) (sent : List Cell) → From (λ pos c. c.place ≡ pos) before sent → place_after before sent ≡ before + length sent
place_after-identity before [] h = omega arith
place_after-identity before (c ∷ cells) h =
    let here : c.place ≡ before = h.each 0 before c (omega arith) refl in
    let next : suc c.place ≡ suc before = ap suc here in
    let rest : From (λ pos c. c.place ≡ pos) (suc before) cells = record { each = λ i n x n_is e. h.each (suc i) n x (omega (arith, n_is)) e } in
    rw next (omega (arith, place_after-identity (suc before) cells rest))

-- a place of a record, by its position
pub has_place : (sent : List Cell) (pos place : ℕ) → slice_get (places_of sent) pos ≡ Some place → HasPlace sent place
has_place sent pos place e =
    let found = in_map (λ (c : Cell). c.place) sent pos place e in
    record { at = pos; item = found.0; there = found.1; holds = found.2 }
