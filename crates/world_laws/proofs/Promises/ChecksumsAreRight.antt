-- Checksums that are told are those of written octets: so they are of the octets of lanes, which have their places.
use Rattle.world_laws.proofs.Words.{◌≡◌, refl, sym, ◌∙◌, ap, subst, ℕ, zero, suc, ◌+◌, ◌-◌, ◌≤◌, true, false, Option, Some, None, List, [], ◌∷◌, length, take}
use Rattle.world_laws.proofs.Words.{drop, arith, ◌<◌, option_map, same_Some, slice_get_within, slice_get, IfSome, Side, A, B, peer, dss_checksum, CapableKeys}
use Rattle.world_laws.proofs.Words.{WithData, PlainOption, PlainSegment, Capable, Dss, PathMapping, Bytes, books_in, PathState, Carried, values, checksum_heard}
use Rattle.world_laws.proofs.Words.{bare_mapping, Profile, Every-map, in_map, Every, Duo, after_events, Holds, IsHonest, IsRight, LaneHolds, CellFits, Cell}
use Rattle.world_laws.proofs.Words.{AckCopy, Lane, View, any_held, bytes_of, Start, opened_world, WorldState, world_run, HoldsAnyway, written_by}
use Rattle.world_laws.specs.ChecksPass.{IsSummedUp, MappingIsSummed, KeysAreSummed, OptionIsSummed, FlightIsSummed, PathIsSummed, ChecksumsAreRight}
use Rattle.world_laws.proofs.Lanes.Beginning.{each_run_shows}
use Rattle.world_laws.proofs.Worlds.CastLifting.{each_actor}
use Rattle.world_laws.proofs.Worlds.Casts.{map_there, world_of}
use Rattle.world_laws.proofs.Lanes.OfAWorld.{anyhow_free, free_run, Links, WorldShows, PathThere, anyhow, duo_of, first_duo}
use Rattle.world_laws.proofs.Lanes.Showing.{HasMapping, IsSummed, MappingShows, KeysShow, OptionShows, SegmentShows, FlightShows, PathShows}

-- ---- parts of lists

get_drop : (a j : ℕ) (xs : List ℕ) → slice_get (drop a xs) j ≡ slice_get xs (a + j)
get_drop zero j xs = let same : j ≡ zero + j = omega arith in ap (slice_get xs) same
get_drop (suc a) j [] = refl
get_drop (suc a) j (x ∷ xs) = let same : suc (a + j) ≡ suc a + j = omega arith in get_drop a j xs ∙ ap (slice_get (x ∷ xs)) same

take_same : (n : ℕ) (xs ys : List ℕ) → ((j : ℕ) → j < n → slice_get xs j ≡ slice_get ys j) → take n xs ≡ take n ys
take_same zero xs ys h = refl
take_same (suc n) [] [] h = refl
take_same (suc n) [] (y ∷ ys) h = let never : None ≡ Some y = h 0 (omega arith) in cc
take_same (suc n) (x ∷ xs) [] h = let never : Some x ≡ None = h 0 (omega arith) in cc
take_same (suc n) (x ∷ xs) (y ∷ ys) h =
    let first : x ≡ y = same_Some x y (h 0 (omega arith)) in
    ap (λ z. z ∷ take n xs) first ∙ ap (λ zs. y ∷ zs) (take_same n xs ys (λ j less. h (suc j) (omega (arith, less))))

part_same : (n a b : ℕ) (xs ys : List ℕ) → ((j : ℕ) → j < n → slice_get xs (a + j) ≡ slice_get ys (b + j)) → take n (drop a xs) ≡ take n (drop b ys)
part_same n a b xs ys h = take_same n (drop a xs) (drop b ys) (λ j less. get_drop a j xs ∙ h j less ∙ sym (get_drop b j ys))

-- ---- a lane

module _ (v : View) (path : ℕ) (p : Lane) (holds : LaneHolds v path p) (c : Profile) (s : Side) where
  summed : (place position len : ℕ) (sum : Option ℕ) → HasMapping p.datas place position len → IsSummed c s p.sent place position len (checksum_heard sum)
      → IsSummedUp c.spelling s v.written place position len sum
  summed place position len sum has h = record {
    within =
        let few = some in let last = both_at (len - 1) (omega (arith, few)) in
        let below = slice_get_within v.written (place + (len - 1)) last.0 last.1 in omega (arith, below, few);
    right = λ uses. h.right uses ∙ ap (λ octets. dss_checksum (bare_mapping c s place position len) octets)
        (part_same len (position - 1) place (bytes_of p.sent) v.written (λ j less. (both_at j less).2 ∙ sym (both_at j less).1));
  }
    where
      honest : IsHonest p.alters p.pieces p.sent has.item
      honest = holds.bytes.honest.each has.at has.item has.there

      right : IsRight p.sent has.holds.mapping
      right = subst (λ o. IfSome o (IsRight p.sent)) has.holds.there honest.mapping

      some : 1 ≤ len
      some = let one = right.some in let same = has.holds.is.len_is in omega (arith, one, same)

      cell_at : (j : ℕ) → j < len → (cell : Cell) × (slice_get p.sent (has.holds.mapping.pos + j) ≡ Some cell) × (cell.place ≡ has.holds.mapping.place + j)
      cell_at j less =
          let same = has.holds.is.len_is in
          in_map (λ (x : Cell). x.place) p.sent (has.holds.mapping.pos + j) (has.holds.mapping.place + j) (right.places j (omega (arith, less, same)))

      both_at : (j : ℕ) → j < len → (octet : ℕ) × (slice_get v.written (place + j) ≡ Some octet) × (slice_get (bytes_of p.sent) ((position - 1) + j) ≡ Some octet)
      both_at j less =
          let cell = cell_at j less in
          let fits : CellFits path v cell.0 = holds.record_of.cells.each (has.holds.mapping.pos + j) cell.0 cell.1 in
          let begins = has.holds.is.place_is in let at = cell.2 in let first = has.holds.is.position_is in
          let same : cell.0.place ≡ place + j = omega (arith, begins, at) in
          let behind : (position - 1) + j ≡ has.holds.mapping.pos + j = omega (arith, first) in (
            cell.0.byte,
            sym (ap (slice_get v.written) same) ∙ fits.byte,
            ap (slice_get (bytes_of p.sent)) behind ∙ map_there (λ (x : Cell). x.byte) p.sent (has.holds.mapping.pos + j) ∙ ap (option_map (λ (x : Cell). x.byte)) cell.1,
          )

  mapping_summed : (o : Option (PathMapping ℕ)) → MappingShows c s o p → MappingIsSummed c.spelling s v.written o
  mapping_summed (Some (Bytes place position len true checksum)) shows = absurd shows
  mapping_summed (Some (Bytes place position len false checksum)) shows = summed place position len checksum shows.0 shows.1
  mapping_summed _ shows = tt

  keys_summed : (keys : CapableKeys) → KeysShow c s keys p → KeysAreSummed c.spelling s v.written keys
  keys_summed (WithData sender receiver len checksum) shows = summed 0 1 len checksum shows.0 shows.1
  keys_summed _ shows = tt

  option_summed : (window : ℕ) (acks : List AckCopy) (o : PlainOption) → OptionShows c s window acks p o → OptionIsSummed c.spelling s v.written o
  option_summed window acks (Dss next mapping) shows = mapping_summed mapping shows.1
  option_summed window acks (Capable flag_a flag_c keys) shows = keys_summed keys shows
  option_summed window acks _ shows = tt

  options_summed : (acks : List AckCopy) (sg : PlainSegment) → SegmentShows c s acks p sg → Every (OptionIsSummed c.spelling s v.written) sg.options
  options_summed acks sg shows = Every-map (λ o told. option_summed _ acks o told) shows.options

-- ---- worlds

path_summed : (v u : View) (number : ℕ) (p : PathState Carried) (ab ba : Lane) (w : WorldState Carried) → LaneHolds v number ab → LaneHolds u number ba
    → v.written ≡ (written_by A w).written → u.written ≡ (written_by B w).written → PathShows p.profile p ab ba → Every (FlightIsSummed p.profile.spelling w) p.link.under_way
path_summed v u number p ab ba w out back from_a from_b h = Every-map (λ f shows. by f.to f.carried.segment shows) h.copies
  where
    by : (to : Side) (sg : PlainSegment) → FlightShows p.profile ab ba to sg → Every (OptionIsSummed p.profile.spelling (peer to) (written_by (peer to) w).written) sg.options
    by B sg shows = subst (λ written. Every (OptionIsSummed p.profile.spelling A written) sg.options) from_a (options_summed v number ab out p.profile A ba.acks sg shows)
    by A sg shows = subst (λ written. Every (OptionIsSummed p.profile.spelling B written) sg.options) from_b (options_summed u number ba back p.profile B ab.acks sg shows)

shown_summed : (links : Links) (start : Start) (d : Duo) (w : WorldState Carried) → Holds d → WorldShows links start d w → ChecksumsAreRight w
shown_summed links start d w held h = subst ChecksumsAreRight (sym h.is) (record {
  each = each_actor (λ actor c. PathIsSummed (world_of h.cast) c.member) h.cast tt tt (λ number x there. at number x.path (h.paths.each number number x (omega arith) there));
})
  where
    holds : Holds (duo_of links (books_in h.cast.books) h.lanes_ab h.lanes_ba h.reader_a h.reader_b)
    holds = subst Holds h.duo_is held

    at : (number : ℕ) (p : PathState Carried) → PathThere start h.lanes_ab h.lanes_ba number p → Every (FlightIsSummed p.profile.spelling (world_of h.cast)) p.link.under_way
    at number p there =
        path_summed _ _ number p there.ab there.ba (world_of h.cast) (holds.ab.lanes.each number number there.ab (omega arith) there.ab_there) (holds.ba.lanes.each number number there.ba (omega arith) there.ba_there)
        refl refl (subst (λ c. PathShows c p there.ab there.ba) (sym there.shows.profile) there.shows)

pub checksums_are_right : HoldsAnyway ChecksumsAreRight
checksums_are_right start turns size =
    let can = anyhow start size in
    let r = each_run_shows start can turns (free_run can.links (anyhow_free start size) turns (opened_world start)) in
    shown_summed can.links start (after_events r.events (first_duo can.links start)) (world_run values turns (opened_world start))
    (any_held can.links.alters can.links.checked (length start.paths) start.buffer start.buffer r.events) r.shows
