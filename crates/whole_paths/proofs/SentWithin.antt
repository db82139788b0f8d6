-- What an end has, and what is under way to it, stands before the peer's SND.NXT.
use Rattle.std.proofs.Common.{◌≡◌, refl, sym, subst, ap, ◌∙◌, ◌⊎◌, inl, inr, ⊎_elim, ℕ, zero, suc, ◌+◌, ◌-◌, ◌<◌, ◌≤◌, arith, nat_lt, nat_le, ◌&&◌, Bool, true, false, true≢false, if◌then◌else◌, Option, Some, None, IfSome, unwrap_or, List, [], ◌∷◌, length, take, drop}
use Rattle.std.specs.List.{slice_get}
use Rattle.std.proofs.lemmas.Bool.{cases_lt, lt-ltb}
use Rattle.std.proofs.lemmas.List.{length-take, take_all}
use Rattle.std.proofs.lemmas.Option.{slice_get_within}
use Rattle.path_segments.specs.Spelled.{PlainSegment}
use Rattle.sides.specs.declared.side.Side.{Side}
use Rattle.sides.specs.declared.side.Side.TheVariants.{A, B}
use Rattle.sides.specs.Side.{peer}
use Rattle.link_model.specs.declared.flight.Flight.{Flight}
use Rattle.stream_lanes.specs.Duo.{Duo, after_events}
use Rattle.stream_lanes.specs.Holding.{Came, Holds, IsByteOf, LaneHolds}
use Rattle.stream_lanes.specs.Holding.{Came as byte}
use Rattle.stream_lanes.specs.Lane.{AckCopy, Cell, Lane}
use Rattle.stream_lanes.specs.View.{View}
use Rattle.stream_lanes.specs.Words.{Every}
use Rattle.stream_lanes.proofs.Duos.{any_held}
use Rattle.stream_lanes.proofs.Lists.{in_map}
use Rattle.subflow_recv.specs.Laws.{first_of, payload_octet}
use Rattle.subflow_recv.specs.Receiving.{Receiving, after_keep_held, by_place, merged, octet_at, place_at, window_end}
use Rattle.subflow_recv.proofs.ByPosition.{what_comes_first_is_kept_lem}
use Rattle.subflow_tcp.specs.State.{is_behind, is_fin_passed}
use Rattle.path_store.specs.declared.granted_piece.GrantedPiece.{GrantedPiece}
use Rattle.actor_desk.specs.Books.{books_in}
use Rattle.path_core.specs.Profile.{Profile}
use Rattle.path_core.specs.State.{PathState, end_at}
use Rattle.path_core.specs.Values.{Carried, values}
use Rattle.world_laws.specs.Members.{HoldsOfKind}
use Rattle.world_laws.specs.Actors.{ActorCrew}
use Rattle.world_laws.specs.Openings.{Start, opened_world}
use Rattle.world_laws.specs.Promises.{HasRoom}
use Rattle.world_laws.specs.Worlds.{Turn, WorldState, world_run}
use Rattle.world_laws.proofs.Lanes.Beginning.{each_run_shows}
use Rattle.world_laws.proofs.Lanes.OfAWorld.{Links, WorldShows, anyhow, anyhow_free, duo_of, first_duo, free_run}
use Rattle.world_laws.proofs.Lanes.SentRecords.{SentShows}
use Rattle.world_laws.proofs.Lanes.Showing.{FlightShows, HasData, IsAtEdge, IsHeld, IsPastFin, PathShows, SegmentShows}
use Rattle.world_laws.proofs.Worlds.CastLifting.{each_actor}
use Rattle.whole_paths.specs.News.{one_if}
use Rattle.whole_paths.proofs.LastFin.{fin_last}
use Rattle.whole_paths.proofs.Reaching.{payload_within}
use Rattle.whole_paths.proofs.Staying.{inside}

-- the positions of a segment end here at most
abbrev pub EndsWithin : ℕ → PlainSegment → Type 0
EndsWithin nxt x = 0 < length x.payload + one_if x.fin → x.position + length x.payload + one_if x.fin ≤ nxt

-- the segment has no octet and no FIN, where SND.NXT is at most just behind the SYN
abbrev pub IsBareBefore : ℕ → PlainSegment → Type 0
IsBareBefore nxt x = nxt ≤ 1 → length x.payload + one_if x.fin ≡ 0

pub record SentWithin (p : PathState Carried) : Type 0 where
  pub kept : (s : Side) (pos octet : ℕ) → octet_at pos (end_at s p).tcp.recv ≡ Some octet → pos < (end_at (peer s) p).tcp.send.nxt
  pub held : (s : Side) (pos octet : ℕ) → octet_at pos (after_keep_held (end_at s p).tcp.recv) ≡ Some octet → (pos < (end_at (peer s) p).tcp.send.nxt) ⊎ (is_fin_passed (end_at s p).tcp ≡ true)
  pub copies : Every (λ (f : Flight Carried). EndsWithin (end_at (peer f.to) p).tcp.send.nxt f.carried.segment) p.link.under_way
  pub bare : Every (λ (f : Flight Carried). IsBareBefore (end_at (peer f.to) p).tcp.send.nxt f.carried.segment) p.link.under_way

-- ---- octets by position

at_place : (xs : List (Option ℕ)) (k octet : ℕ) → place_at k xs ≡ Some octet → slice_get xs k ≡ Some (Some octet)
at_place [] k octet is = cc
at_place (x ∷ xs) zero octet is = ap Some is
at_place (x ∷ xs) (suc k) octet is = at_place xs k octet is

-- an octet stands at RCV.NXT or past it
kept_place : (pos octet : ℕ) (v : Receiving) → octet_at pos v ≡ Some octet → (v.edge ≤ pos) × (place_at (pos - v.edge) v.places ≡ Some octet)
kept_place pos octet v is = ⊎_elim
    (λ low. absurd (none (nat_lt pos v.edge) (place_at (pos - v.edge) v.places) (lt-ltb pos v.edge low) is))
    (λ high. (high, sym (inside pos v high) ∙ is))
    (cases_lt pos v.edge)
  where
    none : (b : Bool) (o : Option ℕ) → b ≡ true → (if b then None else o) ≡ Some octet → ⊥
    none true o is at = cc
    none false o is at = true≢false (sym is)

-- with a payload there is none but those and the payload's
payload_or : (pos octet at : ℕ) (payload : List ℕ) (v : Receiving) → octet_at pos (record v { places = merged v.places (drop v.edge (by_place at payload)); incoming = None }) ≡ Some octet
    → ((x : ℕ) × (octet_at pos v ≡ Some x)) ⊎ (pos < at + length payload)
payload_or pos octet at payload v is = by (nat_le v.edge pos && nat_lt pos (window_end (record v { window = at + length payload }))) (sym (what_comes_first_is_kept_lem (record v { window = at + length payload }) at payload pos)
    ∙ ap (λ (xs : List ℕ). octet_at pos (record v { places = merged v.places (drop v.edge (by_place at xs)); incoming = None })) (take_all (v.edge + (at + length payload) - at) payload (omega arith)) ∙ is)
  where
    first : (o : Option ℕ) → octet_at pos v ≡ o → first_of o (payload_octet pos at payload) ≡ Some octet → ((x : ℕ) × (octet_at pos v ≡ Some x)) ⊎ (pos < at + length payload)
    first (Some x) was is = inl (x, was)
    first None was is = inr (payload_within pos at octet payload is)

    by : (b : Bool) → (if b then first_of (octet_at pos v) (payload_octet pos at payload) else octet_at pos v) ≡ Some octet → ((x : ℕ) × (octet_at pos v ≡ Some x)) ⊎ (pos < at + length payload)
    by true is = first (octet_at pos v) refl is
    by false is = inl (octet, is)

-- ---- a lane

byte_within : (sent : List Cell) (pos octet : ℕ) → IsByteOf sent pos octet → pos < length sent
byte_within sent pos octet is = let cell = in_map (λ (c : Cell). c.byte) sent pos octet is in slice_get_within sent pos cell.0 cell.1

module _ (path : ℕ) (v : View) (out : Lane) (holds : LaneHolds v path out) (finished : Bool) (nxt heard : ℕ) (granted : List GrantedPiece) (sent : SentShows finished nxt heard granted out.sent out.fins out.pair) where
  -- SND.NXT is past all bytes
  bytes_low : suc (length out.sent) ≤ nxt
  bytes_low = by finished sent
    where
      by : (b : Bool) → SentShows b nxt heard granted out.sent out.fins out.pair → suc (length out.sent) ≤ nxt
      by false h = let next = h.next refl in omega (arith, next)
      by true h = let fin = h.fin refl in let is = fin.holds in let last = (holds.fins.each fin.at fin.item fin.there).last in omega (arith, is, last)

  data_low : (position : ℕ) (octets : List ℕ) → HasData out.datas position octets → position + length octets ≤ nxt
  data_low position octets has =
      let within = (holds.bytes.honest.each has.at has.item has.there).within in let at = has.holds.position_is in
      let size = ap (λ (xs : List ℕ). length xs) has.holds.octets_are in let low = bytes_low in omega (arith, within, at, size, low)

  byte_low : (pos octet : ℕ) → Came out.alters out.pieces out.sent pos octet → pos < length out.sent
  byte_low pos octet (byte.as_sent is) = byte_within out.sent pos octet is
  byte_low pos octet (byte.turned may starts old is bit) = byte_within out.sent pos old is

  segment_low : (c : Profile) (s : Side) (acks : List AckCopy) (x : PlainSegment) → SegmentShows c s acks out x → EndsWithin nxt x
  segment_low c s acks x shows some = by x.fin refl
    where
      no_fin : x.fin ≡ false → x.position + length x.payload + one_if x.fin ≤ nxt
      no_fin is = ⊎_elim
          (λ none. absurd (let len = ap (λ (xs : List ℕ). length xs) none in let zeroth = ap one_if is in omega (arith, some, len, zeroth)))
          (λ has. (let low = data_low x.position x.payload has in let zeroth = ap one_if is in omega (arith, low, zeroth)))
          shows.payload

      by : (b : Bool) → x.fin ≡ b → x.position + length x.payload + one_if x.fin ≤ nxt
      by false is = no_fin is
      by true is =
          let fin = shows.fin is in let len = ap (λ (xs : List ℕ). length xs) fin.0 in let one = ap one_if is in
          let last = fin_last path v finished nxt heard granted out.sent out.fins out.pair sent holds.fins x.position fin.1 in omega (arith, len, one, last)

  segment_bare : (c : Profile) (s : Side) (acks : List AckCopy) (x : PlainSegment) → SegmentShows c s acks out x → IsBareBefore nxt x
  segment_bare c s acks x shows few = by x.fin refl
    where
      no_fin : x.fin ≡ false → length x.payload + one_if x.fin ≡ 0
      no_fin is = ⊎_elim
          (λ none. (let len = ap (λ (xs : List ℕ). length xs) none in let zeroth = ap one_if is in omega (arith, len, zeroth)))
          (λ has. (let within = (holds.bytes.honest.each has.at has.item has.there).within in let size = ap (λ (xs : List ℕ). length xs) has.holds.octets_are in
          let most = bytes_low in let zeroth = ap one_if is in omega (arith, within, size, most, few, zeroth)))
          shows.payload

      by : (b : Bool) → x.fin ≡ b → length x.payload + one_if x.fin ≡ 0
      by false is = no_fin is
      by true is =
          let fin = (shows.fin is).1 in let place = fin.holds in let behind = fin_last path v finished nxt heard granted out.sent out.fins out.pair sent holds.fins x.position fin in
          absurd (omega (arith, place, behind, few))

  module _ (recv : Receiving) (fin_at : Option ℕ) where
    kept_low : IsAtEdge recv out ⊎ IsPastFin fin_at recv out → (pos octet : ℕ) → octet_at pos recv ≡ Some octet → pos < nxt
    kept_low (inl at) pos octet is =
        let here = kept_place pos octet recv is in let from = here.0 in
        let low = byte_low (out.edge + (pos - recv.edge)) octet (holds.bytes.came.each (pos - recv.edge) (out.edge + (pos - recv.edge)) octet refl (at.under.each (pos - recv.edge) octet (at_place recv.places (pos - recv.edge) octet here.1))) in
        let edge = at.edge_is in let most = bytes_low in omega (arith, low, edge, most, from)
    kept_low (inr past) pos octet is = let here = kept_place pos octet recv is in absurd (past.none (pos - recv.edge) octet (at_place recv.places (pos - recv.edge) octet here.1))

    held_low : IsAtEdge recv out ⊎ IsPastFin fin_at recv out → (pos octet : ℕ) → octet_at pos (after_keep_held recv) ≡ Some octet → (pos < nxt) ⊎ (is_behind fin_at recv.edge ≡ true)
    held_low (inr past) pos octet is = inr (ap (λ o. is_behind o recv.edge) past.at_is ∙ (let edge = past.edge_is in lt-ltb (suc out.edge) recv.edge (omega (arith, edge))))
    held_low (inl at) pos octet is = inl (by recv.incoming at.held is)
      where
        held_so : (held : List (Option ℕ)) → IsHeld out.datas recv.edge recv.places held → octet_at pos (record recv { places = held; incoming = None }) ≡ Some octet → pos < nxt
        held_so held h is = ⊎_elim
            (λ here. kept_low (inl at) pos here.0 here.1)
            (λ low. (let most = data_low h.position h.octets h.has in let few = length-take h.count h.octets in omega (arith, low, most, few)))
            (payload_or pos octet h.position (take h.count h.octets) recv (sym (ap (λ (xs : List (Option ℕ)). octet_at pos (record recv { places = xs; incoming = None })) h.is) ∙ is))

        by : (o : Option (List (Option ℕ))) → IfSome o (IsHeld out.datas recv.edge recv.places) → octet_at pos (record recv { places = unwrap_or o recv.places; incoming = None }) ≡ Some octet → pos < nxt
        by None h is = kept_low (inl at) pos octet is
        by (Some held) h is = held_so held h is

path_within : (path : ℕ) (v u : View) (c : Profile) (p : PathState Carried) (ab ba : Lane) → PathShows c p ab ba → LaneHolds v path ab → LaneHolds u path ba → SentWithin p
path_within path v u c p ab ba shows ab_holds ba_holds = record { kept = kept; held = held; copies = record { each = λ i f at. copy f.to f.carried.segment (shows.copies.each i f at) }; bare = record { each = λ i f at. empty f.to f.carried.segment (shows.copies.each i f at) } }
  where
    kept : (s : Side) (pos octet : ℕ) → octet_at pos (end_at s p).tcp.recv ≡ Some octet → pos < (end_at (peer s) p).tcp.send.nxt
    kept A = kept_low path u ba ba_holds p.b.tcp.send.finished p.b.tcp.send.nxt p.b.sending.heard p.b.sending.granted shows.b.sender.sent p.a.tcp.recv p.a.tcp.fin_at shows.a.receiver.edge
    kept B = kept_low path v ab ab_holds p.a.tcp.send.finished p.a.tcp.send.nxt p.a.sending.heard p.a.sending.granted shows.a.sender.sent p.b.tcp.recv p.b.tcp.fin_at shows.b.receiver.edge

    held : (s : Side) (pos octet : ℕ) → octet_at pos (after_keep_held (end_at s p).tcp.recv) ≡ Some octet → (pos < (end_at (peer s) p).tcp.send.nxt) ⊎ (is_fin_passed (end_at s p).tcp ≡ true)
    held A = held_low path u ba ba_holds p.b.tcp.send.finished p.b.tcp.send.nxt p.b.sending.heard p.b.sending.granted shows.b.sender.sent p.a.tcp.recv p.a.tcp.fin_at shows.a.receiver.edge
    held B = held_low path v ab ab_holds p.a.tcp.send.finished p.a.tcp.send.nxt p.a.sending.heard p.a.sending.granted shows.a.sender.sent p.b.tcp.recv p.b.tcp.fin_at shows.b.receiver.edge

    copy : (to : Side) (x : PlainSegment) → FlightShows c ab ba to x → EndsWithin (end_at (peer to) p).tcp.send.nxt x
    copy A x h = segment_low path u ba ba_holds p.b.tcp.send.finished p.b.tcp.send.nxt p.b.sending.heard p.b.sending.granted shows.b.sender.sent c B ab.acks x h
    copy B x h = segment_low path v ab ab_holds p.a.tcp.send.finished p.a.tcp.send.nxt p.a.sending.heard p.a.sending.granted shows.a.sender.sent c A ba.acks x h

    empty : (to : Side) (x : PlainSegment) → FlightShows c ab ba to x → IsBareBefore (end_at (peer to) p).tcp.send.nxt x
    empty A x h = segment_bare path u ba ba_holds p.b.tcp.send.finished p.b.tcp.send.nxt p.b.sending.heard p.b.sending.granted shows.b.sender.sent c B ab.acks x h
    empty B x h = segment_bare path v ab ab_holds p.a.tcp.send.finished p.a.tcp.send.nxt p.a.sending.heard p.a.sending.granted shows.a.sender.sent c A ba.acks x h

-- on each path
pub record AllSentWithin (w : WorldState Carried) : Type 0 where
  pub each : (actor : ℕ) (c : ActorCrew Carried) → slice_get w.crew actor ≡ Some c → HoldsOfKind (λ app. Unit {0}) SentWithin c.member

shows_within : (links : Links) (start : Start) (d : Duo) (w : WorldState Carried) → Holds d → WorldShows links start d w → AllSentWithin w
shows_within links start d w held h = subst AllSentWithin (sym h.is) (record {
  each = each_actor (λ actor c. HoldsOfKind (λ app. Unit {0}) SentWithin c.member) h.cast tt tt (λ number x there.
      (let path = h.paths.each number number x (omega arith) there in
      path_within number _ _ _ x.path path.ab path.ba path.shows (holds.ab.lanes.each number number path.ab (omega arith) path.ab_there) (holds.ba.lanes.each number number path.ba (omega arith) path.ba_there)));
})
  where
    holds : Holds (duo_of links (books_in h.cast.books) h.lanes_ab h.lanes_ba h.reader_a h.reader_b)
    holds = subst Holds h.duo_is held

pub all_sent_within : (start : Start) (turns : List Turn) → HasRoom start → AllSentWithin (world_run values turns (opened_world start))
all_sent_within start turns size =
    let can = anyhow start size in
    let r = each_run_shows start can turns (free_run can.links (anyhow_free start size) turns (opened_world start)) in
    shows_within can.links start (after_events r.events (first_duo can.links start)) (world_run values turns (opened_world start))
    (any_held can.links.alters can.links.checked (length start.paths) start.buffer start.buffer r.events) r.shows
