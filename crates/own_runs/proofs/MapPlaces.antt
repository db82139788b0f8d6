-- The place and the octet of each position of a lane, by what was granted to it: each mapping that was sent on it gives its positions these
-- places, each piece has these octets, and a checksum is that of these octets.
use Rattle.std.proofs.Common.{◌≡◌, refl, sym, ap, ◌∙◌, subst, ℕ, zero, suc, ◌+◌, ◌-◌, ◌<◌, ◌≤◌, not, Bool, true, false, Option, Some, None, List, [], ◌∷◌, length, take, drop, arith}
use Rattle.std.specs.Prelude.{get_or}
use Rattle.std.specs.List.{slice_get}
use Rattle.std.specs.Option.{IfSome}
use Rattle.std.proofs.Math.Seq.{drop-cons}
use Rattle.std.proofs.lemmas.Bool.{both_ways}
use Rattle.std.proofs.lemmas.List.{length-map}
use Rattle.std.proofs.lemmas.Option.{get_or_from_slice_get, slice_get-get_or, slice_get_within}
use Rattle.octet_text.specs.Prefix.{IsPrefix}
use Rattle.path_core.specs.State.{PathState}
use Rattle.path_core.specs.Values.{Carried}
use Rattle.stream_lanes.proofs.Lists.{in_map, in_more}
use Rattle.stream_lanes.specs.Holding.{Came, IsByteOf, IsHonest, IsRight, LaneHolds}
use Rattle.stream_lanes.specs.Holding.Came.{as_sent, turned}
use Rattle.stream_lanes.specs.Lane.{Cell, Lane, Mapping}
use Rattle.stream_lanes.specs.Moves.{bytes_of}
use Rattle.stream_lanes.specs.View.{View}
use Rattle.world_laws.proofs.Lanes.OfAWorld.{StandsSo}
use Rattle.world_laws.proofs.Lanes.Showing.{HasData, HasMapping}
use Rattle.own_runs.proofs.MapPositions.{Bears, Sit, contents}
use Rattle.own_runs.proofs.SentGrows.{Longer}

abbrev pub place_in : Option Cell → ℕ
place_in None = 0
place_in (Some cell) = cell.place

-- position 1 is that of the first octet
abbrev pub place_on : Lane → ℕ → ℕ
place_on l position = place_in (slice_get l.sent (position - 1))

-- the octet of a place of a file
abbrev pub octet_in : List ℕ → ℕ → ℕ
octet_in file place = get_or file place 0

-- ---- a mapping on a lane

module _ (v : View) (n place position len : ℕ) (out : Lane) (holds : LaneHolds v n out) (has : HasMapping out.datas place position len) where
  abbrev m : Mapping
  m = has.holds.mapping

  pub right : IsRight out.sent m
  right =
      let honest : IsHonest out.alters out.pieces out.sent has.item = holds.bytes.honest.each has.at has.item has.there in
      subst (λ o. IfSome o (IsRight out.sent)) has.holds.there honest.mapping

  -- the cell of one of its places
  pub cell_at : (j : ℕ) → j < m.len → (x : Cell) × ((slice_get out.sent (m.pos + j) ≡ Some x) × (x.place ≡ m.place + j))
  cell_at j below = let found = in_map (λ (x : Cell). x.place) out.sent (m.pos + j) (m.place + j) (right.places j below) in (found.0, (found.1, found.2))

  pub written_within : 1 ≤ len → place + len ≤ length v.written
  written_within some =
      let l = has.holds.is.len_is in let p = has.holds.is.place_is in
      let last = cell_at (len - 1) (omega (arith, l, some)) in
      let fits = holds.record_of.cells.each (m.pos + (len - 1)) last.0 last.1.0 in
      let below = slice_get_within v.written last.0.place last.0.byte fits.byte in
      let at = last.1.1 in omega (arith, below, at, p, some)

-- ---- on a lane whose record goes on

module _ (v : View) (n : ℕ) (out last : Lane) (holds : LaneHolds v n out) (longer : Longer out last) where
  -- the place of a position is that of its cell
  cell_place : (i p : ℕ) (cell : Cell) → slice_get out.sent i ≡ Some cell → p - 1 ≡ i → place_on last p ≡ cell.place
  cell_place i p cell there same =
      ap (λ (k : ℕ). place_in (slice_get last.sent k)) same
      ∙ ap place_in (ap (λ (s : List Cell). slice_get s i) longer.is ∙ in_more out.sent longer.more i cell there)

  pub sits : (place position len : ℕ) → HasMapping out.datas place position len → Sit (place_on last) position place len
  sits place position len has j below =
      let is = has.holds.is in
      let m = has.holds.mapping in
      let of_len = is.len_is in
      let of_position = is.position_is in
      let of_place = is.place_is in
      let found = cell_at v n place position len out holds has j (omega (arith, of_len, below)) in
      cell_place (m.pos + j) (position + j) found.0 found.1.0 (omega (arith, of_position)) ∙ found.1.1 ∙ ap (λ (p : ℕ). p + j) of_place

  module _ (file : List ℕ) (begins : IsPrefix v.written file) where
    -- the octet of a position
    abbrev at : ℕ → ℕ
    at p = octet_in file (place_on last p)

    cell_octet : (i p : ℕ) (cell : Cell) → slice_get out.sent i ≡ Some cell → p - 1 ≡ i → at p ≡ cell.byte
    cell_octet i p cell there same =
        let fits = holds.record_of.cells.each i cell there in
        ap (octet_in file) (cell_place i p cell there same)
        ∙ get_or_from_slice_get file cell.place cell.byte 0
        (ap (λ (f : List ℕ). slice_get f cell.place) begins.whole_is ∙ in_more v.written begins.rest cell.place cell.byte fits.byte)

    byte_at : (i p byte : ℕ) → IsByteOf out.sent i byte → p - 1 ≡ i → byte ≡ at p
    byte_at i p byte is same =
        let found = in_map (λ (c : Cell). c.byte) out.sent i byte is in
        sym (cell_octet i p found.0 found.1 same ∙ found.2)

    -- what was sent has these octets, where links alter nothing
    pub bears : out.alters ≡ false → (position : ℕ) (octets : List ℕ) → HasData out.datas position octets → Bears at position octets
    bears unaltered position octets has j below =
        let d = has.item in
        let from = has.holds.position_is in
        let honest = holds.bytes.honest.each has.at d has.there in
        let there : slice_get d.bytes j ≡ Some (get_or octets j 0) =
        ap (λ (xs : List ℕ). slice_get xs j) has.holds.octets_are ∙ slice_get-get_or octets j 0 below in
        byte_at (d.pos + j) (position + j) (get_or octets j 0) (sent (honest.bytes.each j (d.pos + j) (get_or octets j 0) refl there)) (omega (arith, from))
      where
        sent : {i byte : ℕ} → Came out.alters out.pieces out.sent i byte → IsByteOf out.sent i byte
        sent (as_sent is) = is
        sent (turned may starts old is same) = absurd (both_ways out.alters unaltered may)

    -- a stretch of the record has these octets
    pub stretch : (count i p : ℕ) → p ≡ suc i → i + count ≤ length out.sent → take count (drop i (bytes_of out.sent)) ≡ contents at p count
    stretch zero i p same within = refl
    stretch (suc count) i p same within =
        let bytes = bytes_of out.sent in
        let lengths = length-map out.sent (λ (c : Cell). c.byte) in
        let below : i < length bytes = omega (arith, within, lengths) in
        ap (take (suc count)) (drop-cons bytes i 0 below)
        ∙ ap (λ (x : ℕ). x ∷ take count (drop (suc i) bytes)) (byte_at i p (get_or bytes i 0) (slice_get-get_or bytes i 0 below) (omega (arith, same)))
        ∙ ap (λ (xs : List ℕ). at p ∷ xs) (stretch count (suc i) (p + 1) (omega (arith, same)) (omega (arith, within)))

-- ---- what A sent first, as long as it may send no DSS

-- as long as no join was answered, a mapping from the first position begins at the first place
first_mapping : (v : View) (path : ℕ) (p : Lane) → v.alone ≡ true → LaneHolds v path p → (place len : ℕ) → HasMapping p.datas place 1 len → place ≡ 0
first_mapping v path p alone h place len has =
    let is = right v path place 1 len p h has in
    let some = is.some in
    let cell = cell_at v path place 1 len p h has 0 (omega (arith, some)) in
    let position_is = has.holds.is.position_is in
    let at = (h.alone alone).identity.each (has.holds.mapping.pos + 0) (has.holds.mapping.pos + 0) cell.0 (omega arith) cell.1.0 in
    let place_is = cell.1.1 in
    let same = has.holds.is.place_is in
    omega (arith, place_is, at, position_is, same)

-- nothing is mapped where nothing was granted
nothing_mapped : (v : View) (path : ℕ) (p : Lane) → p.sent ≡ [] → LaneHolds v path p → (place len : ℕ) → HasMapping p.datas place 1 len → ⊥
nothing_mapped v path p none h place len has =
    let is = right v path place 1 len p h has in
    let some = is.some in let within = is.within in
    let empty : length p.sent ≡ 0 = ap (λ (xs : List Cell). length xs) none in
    omega (arith, some, within, empty)

pub first_at : (v : View) (number : ℕ) (joined : Bool) (p : PathState Carried) (ab ba : Lane) → v.alone ≡ not joined → LaneHolds v number ab
    → (number ≡ 0 → joined ≡ true → p.a.modes.clear ≡ true) → StandsSo number p ab ba → p.a.modes.clear ≡ false
    → (place len : ℕ) → HasMapping ab.datas place 1 len → place ≡ 0
first_at v zero true p ab ba alone holds clear stands unclear = absurd (both_ways p.a.modes.clear unclear (clear refl refl))
first_at v zero false p ab ba alone holds clear stands unclear = first_mapping v 0 ab alone holds
first_at v (suc number) joined p ab ba alone holds clear stands unclear = λ place len has. absurd (nothing_mapped v (suc number) ab (stands unclear) holds place len has)
