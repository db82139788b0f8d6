-- Where mappings are checked, the mapping at RCV.NXT begins there, and the record whose octets are there is whole.
use Rattle.std.proofs.Common.{◌≡◌, refl, sym, subst, ap, ◌∙◌, ⊎_elim, ℕ, suc, ◌+◌, ◌-◌, ◌^◌, ◌<◌, ◌≤◌, ◌==◌, arith, nat_lt, nat_le, Bool, true, false, true≢false, if◌then◌else◌, Option, Some, None, List, [], ◌∷◌, length}
use Rattle.std.specs.Prelude.{IfSome, find}
use Rattle.std.specs.List.{All, slice_get}
use Rattle.std.proofs.lemmas.Bool.{and_from, and_parts, both_ways, cases_lt, eq-eqb, le-leb, leb-true, lt-ltb, ltb-true}
use Rattle.std.proofs.lemmas.List.Elements.{All-head, All-tail}
use Rattle.std.proofs.lemmas.Option.{same_Some}
use Rattle.sides.specs.declared.side.Side.{Side}
use Rattle.sides.specs.declared.side.Side.TheVariants.{A, B}
use Rattle.sides.specs.Side.{peer}
use Rattle.dss_mapping.specs.Learning.{IsWithin}
use Rattle.dss_mapping.specs.Mappings.{Mappings, mapping_at, octets_of, run_of}
use Rattle.dss_mapping.specs.Runs.{covers}
use Rattle.dss_mapping.specs.declared.kept.KeptMapping.{KeptMapping}
use Rattle.stream_lanes.specs.Duo.{Duo, flags_ab, flags_ba}
use Rattle.stream_lanes.specs.Holding.{BytesHold, DirectionHolds, Holds, IsFin, IsPiece}
use Rattle.stream_lanes.specs.Lane.{Lane, Mapping}
use Rattle.stream_lanes.specs.Moves.{Flags}
use Rattle.stream_lanes.specs.Streams.{Direction}
use Rattle.stream_lanes.specs.View.{View}
use Rattle.stream_lanes.specs.Words.{Every, Has}
use Rattle.subflow_recv.specs.Receiving.{Receiving}
use Rattle.subflow_send.specs.Records.{Record, end_of, occupied}
use Rattle.subflow_send.specs.declared.record.RecordKind.TheVariants.{Data}
use Rattle.actor_desk.specs.Books.{books_in}
use Rattle.path_store.specs.Passing.{is_there}
use Rattle.path_core.specs.End.{PathEnd}
use Rattle.path_core.specs.Profile.{Profile}
use Rattle.path_core.specs.State.{PathState, end_at}
use Rattle.path_core.specs.Values.{Carried, values}
use Rattle.world_laws.specs.declared.member.Member.TheVariants.{App, Path}
use Rattle.world_laws.specs.Actors.{Actor, ActorCrew}
use Rattle.world_laws.specs.Members.{HoldsOfKind}
use Rattle.world_laws.specs.Openings.{Start, opened_world}
use Rattle.world_laws.specs.Worlds.{WorldState, Turn, world_run}
use Rattle.world_laws.proofs.Lanes.OfAWorld.{PathThere, duo_of}
use Rattle.world_laws.proofs.Lanes.Showing.{HasMapping, IsPastFin, KindShows, ReceiverShows, RecordShows}
use Rattle.world_laws.proofs.Numbers.TellSmall.{RecordKindTells}
use Rattle.world_laws.proofs.Worlds.CastLifting.{each_actor}
use Rattle.world_laws.proofs.Worlds.Casts.{Cast, Walker, world_of}
use Rattle.whole_paths.specs.Flights.{IsFirst}
use Rattle.whole_paths.specs.InHand.{IsPartial}
use Rattle.whole_paths.specs.Mapped.{AreLive, EndsAreLive}
use Rattle.whole_paths.specs.Mild.{IsMildStart}
use Rattle.whole_paths.specs.WholeMappings.{HasRecord, MappingsAreWhole, NoneIsPartial}
use Rattle.whole_paths.proofs.Boundaries.{AreCut, BothCut, IsCut, IsFirm, ShowsChecked, checked_firmly, shown_checked}
use Rattle.whole_paths.proofs.Exchanges.{Shown, each_shown}
use Rattle.whole_paths.proofs.Knowing.{what_is_told_is_known}
use Rattle.whole_paths.proofs.OpenCourses.{IsOfLanes, each_of_lanes}
use Rattle.world_laws.specs.RoundDone.{reached}

-- ---- a mapping that is found

pub record IsFound (P : KeptMapping → Bool) (xs : List KeptMapping) (m : KeptMapping) : Type 0 where
  pub at : ℕ
  pub there : slice_get xs at ≡ Some m
  pub fits : P m ≡ true
  pub within : IsWithin m

found_at : (P : KeptMapping → Bool) (xs : List KeptMapping) (m : KeptMapping) → All IsWithin xs → find P xs ≡ Some m → IsFound P xs m
found_at P [] m all is = cc
found_at P (x ∷ xs) m all is = by (P x) refl is (found_at P xs m (All-tail IsWithin x xs all))
  where
    by : (b : Bool) → P x ≡ b → (if b then Some x else find P xs) ≡ Some m → (find P xs ≡ Some m → IsFound P xs m) → IsFound P (x ∷ xs) m
    by true fits is rest = let same = same_Some x m is in record { at = 0; there = is; fits = subst (λ y. P y ≡ true) same fits; within = subst IsWithin same (All-head IsWithin x xs all) }
    by false other is rest = let more = rest is in record { at = suc more.at; there = more.there; fits = more.fits; within = more.within }

pub mapping_found : (v : Mappings) (edge pos : ℕ) (m : KeptMapping) → AreLive v edge → mapping_at v pos ≡ Some m → IsFound (λ kept. covers pos (run_of kept)) v.live m
mapping_found v edge pos m h = by (nat_lt pos v.forgotten)
  where
    by : (b : Bool) → (if b then None else find (λ kept. covers pos (run_of kept)) v.live) ≡ Some m → IsFound (λ kept. covers pos (run_of kept)) v.live m
    by true is = cc
    by false is = found_at (λ kept. covers pos (run_of kept)) v.live m h.within is

-- ---- a lane

module _ (path : ℕ) (w : View) (p : Lane) (bytes : BytesHold p.alters p.sent p.pieces p.datas p.edge p.kept p.maps p.acks) (fins : Every (IsFin path w p.sent) p.fins) (cut : IsCut p)
    (recv : Receiving) (fin_at : Option ℕ) (v : Mappings) (plain : Bool) (shows : ReceiverShows recv fin_at v.live plain p) (live : AreLive v recv.edge) (m : KeptMapping) (here : mapping_at v recv.edge ≡ Some m)
    (place position len : ℕ) (said : HasMapping p.datas place position len) (behind : recv.edge < position + len) where
  found : IsFound (λ kept. covers recv.edge (run_of kept)) v.live m
  found = mapping_found v recv.edge recv.edge m live here

  -- the lane's mapping
  known : Has (λ (n : Mapping). (suc n.pos ≡ m.pos) × (n.len ≡ octets_of m)) p.pieces
  known =
      let kept = shows.mapped.each found.at m found.there in
      let piece = bytes.learned.each kept.at kept.item kept.there in record {
        at = piece.at;
        item = piece.item;
        there = piece.there;
        holds = (ap (λ (n : Mapping). suc n.pos) piece.holds ∙ kept.holds.position_is, ap (λ (n : Mapping). n.len) piece.holds ∙ kept.holds.len_is);
      }

  -- the record's
  told : Has (λ (n : Mapping). (suc n.pos ≡ position) × (n.len ≡ len)) p.pieces
  told =
      let honest = bytes.honest.each said.at said.item said.there in
      let piece : IsPiece p.pieces said.holds.mapping = subst (λ o. IfSome o (IsPiece p.pieces)) said.holds.there honest.piece in record {
        at = piece.at;
        item = piece.item;
        there = piece.there;
        holds = (ap (λ (n : Mapping). suc n.pos) piece.holds ∙ said.holds.is.position_is, ap (λ (n : Mapping). n.len) piece.holds ∙ said.holds.is.len_is);
      }

  within : position + len ≤ suc (length p.sent)
  within = let right = (bytes.granted.each told.at told.item told.there).within in let at = told.holds.0 in let size = told.holds.1 in omega (arith, right, at, size)

  at_edge : recv.edge ≡ suc p.edge
  at_edge = ⊎_elim (λ at. at.edge_is) (λ past. absurd (past_fin past)) shows.edge
    where
      past_fin : IsPastFin fin_at recv p → ⊥
      past_fin past =
          let fin = subst (λ o. IfSome o (λ position. Has (λ (n : ℕ). suc n ≡ position) p.fins)) past.at_is shows.fin in
          let last = (fins.each fin.at fin.item fin.there).last in let is = fin.holds in let edge = past.edge_is in omega (arith, last, is, edge, behind, within)

  covered : (m.pos ≤ recv.edge) × (recv.edge < m.pos + octets_of m)
  covered =
      let parts = and_parts (nat_le m.pos recv.edge) (nat_lt recv.edge (run_of m).to) found.fits in
      let high = ltb-true recv.edge (run_of m).to parts.1 in (leb-true m.pos recv.edge parts.0, omega (arith, high))

  starts : m.pos ≡ recv.edge
  starts =
      let n = known in let at = n.holds.0 in let size = n.holds.1 in let low = covered.0 in let high = covered.1 in
      ⊎_elim
      (λ less. absurd (let ends = cut.whole.each n.at n.item n.there less in omega (arith, ends, at, size, high, at_edge)))
      (λ most. omega (arith, most, at, low, at_edge))
      (cases_lt n.item.pos p.edge)

  ends : m.pos + octets_of m ≤ position + len
  ends =
      let n = known in let k = told in
      let at = n.holds.0 in let size = n.holds.1 in let from = k.holds.0 in let long = k.holds.1 in
      ⊎_elim
      (λ before. (let apart = cut.order n.at k.at n.item k.item n.there k.there before in omega (arith, apart, at, size, from, long)))
      (λ rest. ⊎_elim
      (λ after_it. absurd (let apart = cut.order k.at n.at k.item n.item k.there n.there after_it in omega (arith, apart, at, from, long, starts, behind)))
      (λ most. (let is : n.at ≡ k.at = omega (arith, rest, most) in let same : n.item ≡ k.item = same_Some n.item k.item (sym n.there ∙ ap (slice_get p.pieces) is ∙ k.there) in
      let one = ap (λ (x : Mapping). x.pos) same in let other = ap (λ (x : Mapping). x.len) same in omega (arith, one, other, at, size, from, long)))
      (cases_lt k.at n.at))
      (cases_lt n.at k.at)

  whole : is_there m recv.edge (position + len - recv.edge) ≡ true
  whole =
      let high = covered.1 in let limit : m.place + octets_of m ≤ 2 ^ 62 = found.within in
      and_from (m.pos == recv.edge) _ (eq-eqb m.pos recv.edge starts)
      (and_from (nat_lt 0 (octets_of m)) _ (lt-ltb 0 (octets_of m) (omega (arith, high, starts)))
      (and_from (nat_le (octets_of m) (position + len - recv.edge)) _ (le-leb (octets_of m) (position + len - recv.edge) (omega (arith, ends, starts))) (le-leb (m.place + octets_of m) (2 ^ 62) limit)))

-- ---- an end

-- the first one is one
pub first_has : (r : Record) (e : PathEnd) → IsFirst r e → HasRecord r e
first_has r e h = record { at = 0; item = h.first; there = ap (λ (rs : List Record). slice_get rs 0) h.records; holds = h.same }

module _ (p : PathState Carried) (tells : Shown p) (s : Side) (r : Record) (h : HasRecord r (end_at s p)) (kind : r.kind ≡ Data) where
  abbrev taker : PathEnd
  taker = end_at (peer s) p

  -- the record's mapping is as long as the record
  pub long : h.item.pos + h.item.mapping.length ≡ end_of r
  long =
      let told = (tells.tells s).sender.records.each h.at h.item h.there in
      let mapped : RecordKindTells p.profile s Data h.item = subst (λ k. RecordKindTells p.profile s k h.item) (h.holds.kind ∙ kind) told.mapped in
      let size : h.item.mapping.length ≡ length h.item.piece = mapped.4 in
      let octets : length h.item.piece ≡ length r.piece = ap (λ (o : List ℕ). length o) h.holds.piece in
      let end : end_of r ≡ r.pos + length r.piece = ap (λ k. r.pos + occupied k r.piece) kind in
      let at = h.holds.pos in omega (arith, size, octets, end, at)

  none_partial : (f : Flags) (d : Direction) → DirectionHolds f d → AreCut d → (number : ℕ) (lane : Lane) → slice_get d.lanes number ≡ Some lane
      → (c : Profile) → Every (RecordShows c s lane.alters lane.sent lane.datas lane.fins) (end_at s p).tcp.send.records
      → (plain : Bool) → ReceiverShows taker.tcp.recv taker.tcp.fin_at taker.receiving.mappings.live plain lane → AreLive taker.receiving.mappings taker.tcp.recv.edge → IsPartial (peer s) (end_of r) p → ⊥
  none_partial f d holds cuts number lane there c records plain receiver live partial =
      let of_lane = holds.lanes.each number number lane (omega arith) there in
      let piece = subst (λ k. KindShows c s lane.alters lane.sent lane.datas lane.fins k h.item) (h.holds.kind ∙ kind) (records.each h.at h.item h.there) in
      let same = long in
      both_ways _ partial.short
      (subst (λ n. is_there partial.mapping taker.tcp.recv.edge (n - taker.tcp.recv.edge) ≡ true) same
      (whole number _ lane of_lane.bytes of_lane.fins (cuts.each number lane there) taker.tcp.recv taker.tcp.fin_at taker.receiving.mappings plain receiver live partial.mapping partial.here
      _ h.item.pos h.item.mapping.length piece.mapping (let behind = partial.behind in omega (arith, behind, same))))

-- ---- a path

module _ (start : Start) (turns : List Turn) (mild : IsMildStart start) (uses : start.checksums ≡ true) where
  abbrev w : WorldState Carried
  w = world_run values turns (opened_world start)

  shown : ShowsChecked start mild.plain uses w
  shown = shown_checked start turns mild uses

  abbrev cast : Cast Carried
  cast = shown.shows.cast

  abbrev now : WorldState Carried
  now = world_of cast

  abbrev duo : Duo
  duo = duo_of (checked_firmly start mild.plain uses).links (books_in cast.books) shown.shows.lanes_ab shown.shows.lanes_ba shown.shows.reader_a shown.shows.reader_b

  holds : Holds duo
  holds = subst Holds shown.shows.duo_is shown.holds

  cut : BothCut duo
  cut = subst BothCut shown.shows.duo_is shown.cut

  firm : IsFirm duo.modes
  firm = record { plain_a = refl; plain_b = refl; loose_a = refl; loose_b = refl }

  path_whole : (number : ℕ) (x : Walker Carried) → slice_get cast.paths number ≡ Some x → Shown x.path → EndsAreLive x.path → NoneIsPartial x.path
  path_whole number x at tells live = none
    where
      path : PathThere start shown.shows.lanes_ab shown.shows.lanes_ba number x.path
      path = shown.shows.paths.each number number x (omega arith) at

      none : NoneIsPartial x.path
      none A r h kind partial = none_partial x.path tells A r h kind (flags_ab duo.modes) duo.ab holds.ab (cut.ab firm) number path.ab path.ab_there _ path.shows.a.sender.pieces _ path.shows.b.receiver (live B) partial
      none B r h kind partial = none_partial x.path tells B r h kind (flags_ba duo.modes) duo.ba holds.ba (cut.ba firm) number path.ba path.ba_there _ path.shows.b.sender.pieces _ path.shows.a.receiver (live A) partial

  abbrev MemberWhole : Actor Carried → Type 0
  MemberWhole m = HoldsOfKind (λ app. Unit {0}) Shown m → HoldsOfKind (λ app. Unit {0}) EndsAreLive m → HoldsOfKind (λ app. Unit {0}) NoneIsPartial m

  each_whole : (actor : ℕ) (c : ActorCrew Carried) → slice_get w.crew actor ≡ Some c → MemberWhole c.member
  each_whole = subst (λ (v : WorldState Carried). (actor : ℕ) (c : ActorCrew Carried) → slice_get v.crew actor ≡ Some c → MemberWhole c.member) (sym shown.shows.is)
      (each_actor (λ actor c. MemberWhole c.member) cast (λ x y. tt) (λ x y. tt) (λ number x at. path_whole number x at))

pub each_mapping_is_whole : MappingsAreWhole
each_mapping_is_whole start turns mild actor c there = by start.checksums refl
  where
    unchecked : start.checksums ≡ false → (m : Actor Carried) → HoldsOfKind (λ app. Unit {0}) (IsOfLanes start) m → HoldsOfKind (λ app. Unit {0}) NoneIsPartial m
    unchecked none (App a) lanes = tt
    unchecked none (Path p) lanes = λ s r h kind partial. true≢false (sym partial.checksums ∙ lanes.checksums ∙ none)

    by : (b : Bool) → start.checksums ≡ b → HoldsOfKind (λ app. Unit {0}) NoneIsPartial c.member
    by false none = unchecked none c.member (each_of_lanes start turns mild.plain.size actor c there)
    by true uses = each_whole start turns mild uses actor c there (each_shown start turns mild.plain.size mild.fit actor c there) (((what_is_told_is_known values).live start turns).each actor c there)

-- of path 0
pub mappings_are_whole : (start : Start) (turns : List Turn) → IsMildStart start → (c : ActorCrew Carried) → slice_get (reached values start turns).crew 2 ≡ Some c → HoldsOfKind (λ app. Unit {0}) NoneIsPartial c.member
mappings_are_whole start turns mild c there = each_mapping_is_whole start turns mild 2 c there
