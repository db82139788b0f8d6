-- Infinite mappings that are told are right: so they are on the lanes.
use Rattle.world_laws.proofs.Words.{◌≡◌, sym, subst, ℕ, suc, ◌+◌, ◌-◌, ◌≤◌, inl, inr, Option, Some, List, length, arith, ◌<◌, slice_get, IfSome, Side, A, B}
use Rattle.world_laws.proofs.Words.{peer, Record, RecordKind, Syn, Data, Fin, PlainOption, PlainSegment, Dss, PathMapping, Infinite, books_in, PathEnd}
use Rattle.world_laws.proofs.Words.{PathState, end_at, Carried, values, Profile, Every-map, in_map, Every, Duo, after_events, Holds, IsFin, IsHonest, IsRight}
use Rattle.world_laws.proofs.Words.{IsEndless, LaneHolds, Cell, AckCopy, Lane, View, any_held, Start, opened_world, WorldState, world_run, HoldsAnyway}
use Rattle.world_laws.specs.InfiniteMappings.{IsUnder, MappingIsRight, OptionIsRight, FlightIsRight, PathIsRight, InfiniteMappingsAreRight}
use Rattle.world_laws.proofs.Lanes.Beginning.{each_run_shows}
use Rattle.world_laws.proofs.Worlds.CastLifting.{each_actor}
use Rattle.world_laws.proofs.Lanes.OfAWorld.{anyhow_free, free_run, Links, WorldShows, PathThere, anyhow, duo_of, first_duo}
use Rattle.world_laws.proofs.Lanes.Showing.{HasMapping, PairTold, KindShows, RecordShows, MappingShows, OptionShows, SegmentShows, FlightShows, PathShows}

module _ (v : View) (path : ℕ) (p : Lane) (holds : LaneHolds v path p) where
  -- an octet of a piece that stands at the mapping's position or behind it
  data_under : (place position : ℕ) → PairTold p.pairs p.fins place position → (from at len : ℕ) → HasMapping p.datas from at len → (i : ℕ) → i < len → position ≤ at + i
      → from + i ≡ place + (at + i - position)
  data_under place position told from at len has i less above =
      let honest : IsHonest p.alters p.pieces p.sent has.item = holds.bytes.honest.each has.at has.item has.there in
      let right : IsRight p.sent has.holds.mapping = subst (λ o. IfSome o (IsRight p.sent)) has.holds.there honest.mapping in
      let within = right.within in
      let place_is = has.holds.is.place_is in let position_is = has.holds.is.position_is in let len_is = has.holds.is.len_is in
      let cell = in_map (λ (c : Cell). c.place) p.sent (has.holds.mapping.pos + i) (has.holds.mapping.place + i) (right.places i (omega (arith, less, len_is))) in
      by told cell.0 cell.1 cell.2 (omega (arith, less, len_is, within)) place_is position_is
    where
      by : PairTold p.pairs p.fins place position → (cell : Cell) → slice_get p.sent (has.holds.mapping.pos + i) ≡ Some cell → cell.place ≡ has.holds.mapping.place + i
          → has.holds.mapping.pos + i < length p.sent → has.holds.mapping.place ≡ from → suc has.holds.mapping.pos ≡ at → from + i ≡ place + (at + i - position)
      by (inl pair) cell there cell_is below place_is position_is =
          let endless : IsEndless path v p.sent pair.item = holds.pairs.told.each pair.at pair.item pair.there in
          let first = pair.holds.position_is in let begins = pair.holds.place_is in
          let rises = endless.places (has.holds.mapping.pos + i) cell (omega (arith, first, position_is, above)) there in
          omega (arith, rises, cell_is, first, begins, place_is, position_is, above)
      by (inr fin) cell there cell_is below place_is position_is =
          let ends : IsFin path v p.sent fin.item = holds.fins.each fin.at fin.item fin.there in
          let last = ends.last in let behind = fin.holds in
          absurd (omega (arith, last, behind, below, above))

  record_under : (place position : ℕ) → PairTold p.pairs p.fins place position → (c : Profile) (s : Side) (kind : RecordKind) (r : Record) → KindShows c s p.alters p.sent p.datas p.fins kind r → IsUnder place position kind c s r
  record_under place position told c s Syn r shows = tt
  record_under place position told c s Fin r shows = tt
  record_under place position told c s Data r shows = λ i less above. data_under place position told _ r.pos r.mapping.length shows.mapping i less above

  module _ (c : Profile) (s : Side) (e : PathEnd) (records : Every (RecordShows c s p.alters p.sent p.datas p.fins) e.tcp.send.records) where
    mapping_right : (o : Option (PathMapping ℕ)) → MappingShows c s o p → MappingIsRight c s e o
    mapping_right (Some (Infinite place position)) shows = Every-map (λ r kind. record_under place position shows c s r.kind r kind) records
    mapping_right _ shows = tt

    option_right : (window : ℕ) (acks : List AckCopy) (o : PlainOption) → OptionShows c s window acks p o → OptionIsRight c s e o
    option_right window acks (Dss next mapping) shows = mapping_right mapping shows.1
    option_right window acks _ shows = tt

    pub options_right : (acks : List AckCopy) (sg : PlainSegment) → SegmentShows c s acks p sg → Every (OptionIsRight c s e) sg.options
    options_right acks sg shows = Every-map (λ o told. option_right _ acks o told) shows.options

path_right : (v u : View) (number : ℕ) (p : PathState Carried) (ab ba : Lane) → LaneHolds v number ab → LaneHolds u number ba → PathShows p.profile p ab ba → Every (FlightIsRight p) p.link.under_way
path_right v u number p ab ba out back h = Every-map (λ f shows. by f.to f.carried.segment shows) h.copies
  where
    by : (to : Side) (sg : PlainSegment) → FlightShows p.profile ab ba to sg → Every (OptionIsRight p.profile (peer to) (end_at (peer to) p)) sg.options
    by B sg shows = options_right v number ab out p.profile A p.a h.a.sender.pieces ba.acks sg shows
    by A sg shows = options_right u number ba back p.profile B p.b h.b.sender.pieces ab.acks sg shows

shown_right : (links : Links) (start : Start) (d : Duo) (w : WorldState Carried) → Holds d → WorldShows links start d w → InfiniteMappingsAreRight w
shown_right links start d w held h = subst InfiniteMappingsAreRight (sym h.is) (record {
  each = each_actor (λ actor c. PathIsRight c.member) h.cast tt tt (λ number x there. at number x.path (h.paths.each number number x (omega arith) there));
})
  where
    holds : Holds (duo_of links (books_in h.cast.books) h.lanes_ab h.lanes_ba h.reader_a h.reader_b)
    holds = subst Holds h.duo_is held

    at : (number : ℕ) (p : PathState Carried) → PathThere start h.lanes_ab h.lanes_ba number p → Every (FlightIsRight p) p.link.under_way
    at number p there =
        path_right _ _ number p there.ab there.ba (holds.ab.lanes.each number number there.ab (omega arith) there.ab_there) (holds.ba.lanes.each number number there.ba (omega arith) there.ba_there)
        (subst (λ c. PathShows c p there.ab there.ba) (sym there.shows.profile) there.shows)

pub infinite_mappings_are_right : HoldsAnyway InfiniteMappingsAreRight
infinite_mappings_are_right start turns size =
    let can = anyhow start size in
    let r = each_run_shows start can turns (free_run can.links (anyhow_free start size) turns (opened_world start)) in
    shown_right can.links start (after_events r.events (first_duo can.links start)) (world_run values turns (opened_world start))
    (any_held can.links.alters can.links.checked (length start.paths) start.buffer start.buffer r.events) r.shows
