-- With checksums a record is passed whole, or not at all: no piece of a lane lies on both sides of its edge.
use Rattle.std.proofs.Common.{◌≡◌, refl, sym, subst, ap, ◌∙◌, ◌⊎◌, inl, inr, ⊎_elim, ℕ, suc, ◌+◌, ◌≤◌, arith, Bool, true, Option, Some, List, length}
use Rattle.std.specs.Prelude.{IfSome}
use Rattle.std.specs.List.{slice_get}
use Rattle.std.proofs.lemmas.Bool.{cases_lt}
use Rattle.sides.specs.declared.side.Side.{Side}
use Rattle.sides.specs.declared.side.Side.TheVariants.{A, B}
use Rattle.sides.specs.Side.{peer}
use Rattle.dss_mapping.specs.declared.kept.KeptMapping.{KeptMapping}
use Rattle.stream_lanes.specs.Duo.{Duo, flags_ab, flags_ba}
use Rattle.stream_lanes.specs.Holding.{BytesHold, DirectionHolds, Holds, IsFin, IsPiece}
use Rattle.stream_lanes.specs.Lane.{Lane, Mapping}
use Rattle.stream_lanes.specs.Moves.{Flags}
use Rattle.stream_lanes.specs.Streams.{Direction}
use Rattle.stream_lanes.specs.View.{View}
use Rattle.stream_lanes.specs.Words.{Every, Has}
use Rattle.subflow_recv.specs.Receiving.{Receiving}
use Rattle.subflow_send.specs.Records.{Record, end_of}
use Rattle.subflow_send.specs.declared.record.RecordKind.TheVariants.{Data}
use Rattle.actor_desk.specs.Books.{books_in}
use Rattle.path_core.specs.End.{PathEnd}
use Rattle.path_core.specs.Profile.{Profile}
use Rattle.path_core.specs.State.{PathState, end_at}
use Rattle.path_core.specs.Values.{Carried, values}
use Rattle.world_laws.specs.Actors.{Actor, ActorCrew}
use Rattle.world_laws.specs.Members.{HoldsOfKind}
use Rattle.world_laws.specs.Openings.{Start, opened_world}
use Rattle.world_laws.specs.Worlds.{WorldState, Turn, world_run}
use Rattle.world_laws.proofs.Lanes.OfAWorld.{PathThere, duo_of}
use Rattle.world_laws.proofs.Lanes.Showing.{HasMapping, IsPastFin, KindShows, ReceiverShows, RecordShows}
use Rattle.world_laws.proofs.Worlds.CastLifting.{each_actor}
use Rattle.world_laws.proofs.Worlds.Casts.{Cast, Walker}
use Rattle.whole_paths.specs.CutRecords.{CheckedRecordsArePassedWhole, NoneIsCut}
use Rattle.whole_paths.specs.Mild.{IsMildStart}
use Rattle.whole_paths.specs.WholeMappings.{HasRecord}
use Rattle.whole_paths.proofs.Boundaries.{AreCut, BothCut, IsCut, IsFirm, ShowsChecked, checked_firmly, shown_checked}
use Rattle.whole_paths.proofs.Exchanges.{Shown, each_shown}
use Rattle.whole_paths.proofs.WholeMappings.{long}

-- ---- a lane

module _ (path : ℕ) (w : View) (p : Lane) (bytes : BytesHold p.alters p.sent p.pieces p.datas p.edge p.kept p.maps p.acks) (fins : Every (IsFin path w p.sent) p.fins) (cut : IsCut p)
    (recv : Receiving) (fin_at : Option ℕ) (live : List KeptMapping) (plain : Bool) (shows : ReceiverShows recv fin_at live plain p) (place position len : ℕ) (said : HasMapping p.datas place position len) where
  -- the record's mapping is that of a piece
  told : Has (λ (n : Mapping). (suc n.pos ≡ position) × (n.len ≡ len)) p.pieces
  told =
      let honest = bytes.honest.each said.at said.item said.there in
      let piece : IsPiece p.pieces said.holds.mapping = subst (λ o. IfSome o (IsPiece p.pieces)) said.holds.there honest.piece in record {
        at = piece.at;
        item = piece.item;
        there = piece.there;
        holds = (ap (λ (n : Mapping). suc n.pos) piece.holds ∙ said.holds.is.position_is, ap (λ (n : Mapping). n.len) piece.holds ∙ said.holds.is.len_is);
      }

  within : position + len ≤ suc (length p.sent)
  within = let right = (bytes.granted.each told.at told.item told.there).within in let at = told.holds.0 in let size = told.holds.1 in omega (arith, right, at, size)

  uncut : (recv.edge ≤ position) ⊎ (position + len ≤ recv.edge)
  uncut = ⊎_elim
      (λ at. (let edge = at.edge_is in let starts = told.holds.0 in let size = told.holds.1 in ⊎_elim
      (λ less. inr (let ends = cut.whole.each told.at told.item told.there less in omega (arith, ends, edge, starts, size)))
      (λ most. inl (omega (arith, most, edge, starts)))
      (cases_lt told.item.pos p.edge)))
      (λ past. inr (past_fin past))
      shows.edge
    where
      past_fin : IsPastFin fin_at recv p → position + len ≤ recv.edge
      past_fin past =
          let fin = subst (λ o. IfSome o (λ position. Has (λ (n : ℕ). suc n ≡ position) p.fins)) past.at_is shows.fin in
          let last = (fins.each fin.at fin.item fin.there).last in let is = fin.holds in let edge = past.edge_is in let most = within in omega (arith, last, is, edge, most)

-- ---- an end

module _ (p : PathState Carried) (tells : Shown p) (s : Side) (r : Record) (h : HasRecord r (end_at s p)) (kind : r.kind ≡ Data) where
  abbrev taker : PathEnd
  taker = end_at (peer s) p

  none_cut : (f : Flags) (d : Direction) → DirectionHolds f d → AreCut d → (number : ℕ) (lane : Lane) → slice_get d.lanes number ≡ Some lane
      → (c : Profile) → Every (RecordShows c s lane.alters lane.sent lane.datas lane.fins) (end_at s p).tcp.send.records
      → (plain : Bool) → ReceiverShows taker.tcp.recv taker.tcp.fin_at taker.receiving.mappings.live plain lane → (taker.tcp.recv.edge ≤ r.pos) ⊎ (end_of r ≤ taker.tcp.recv.edge)
  none_cut f d holds cuts number lane there c records plain receiver =
      let of_lane = holds.lanes.each number number lane (omega arith) there in
      let piece = subst (λ k. KindShows c s lane.alters lane.sent lane.datas lane.fins k h.item) (h.holds.kind ∙ kind) (records.each h.at h.item h.there) in
      let same = long p tells s r h kind in let at = h.holds.pos in
      ⊎_elim
      (λ low. inl (omega (arith, low, at)))
      (λ past. inr (omega (arith, past, same)))
      (uncut number _ lane of_lane.bytes of_lane.fins (cuts.each number lane there) taker.tcp.recv taker.tcp.fin_at taker.receiving.mappings.live plain receiver _ h.item.pos h.item.mapping.length piece.mapping)

-- ---- a path

module _ (start : Start) (turns : List Turn) (mild : IsMildStart start) (uses : start.checksums ≡ true) where
  abbrev w : WorldState Carried
  w = world_run values turns (opened_world start)

  shown : ShowsChecked start mild.plain uses w
  shown = shown_checked start turns mild uses

  abbrev cast : Cast Carried
  cast = shown.shows.cast

  abbrev duo : Duo
  duo = duo_of (checked_firmly start mild.plain uses).links (books_in cast.books) shown.shows.lanes_ab shown.shows.lanes_ba shown.shows.reader_a shown.shows.reader_b

  holds : Holds duo
  holds = subst Holds shown.shows.duo_is shown.holds

  cut : BothCut duo
  cut = subst BothCut shown.shows.duo_is shown.cut

  firm : IsFirm duo.modes
  firm = record { plain_a = refl; plain_b = refl; loose_a = refl; loose_b = refl }

  path_cut : (number : ℕ) (x : Walker Carried) → slice_get cast.paths number ≡ Some x → Shown x.path → NoneIsCut x.path
  path_cut number x at tells = none
    where
      path : PathThere start shown.shows.lanes_ab shown.shows.lanes_ba number x.path
      path = shown.shows.paths.each number number x (omega arith) at

      none : NoneIsCut x.path
      none A r h kind = none_cut x.path tells A r h kind (flags_ab duo.modes) duo.ab holds.ab (cut.ab firm) number path.ab path.ab_there _ path.shows.a.sender.pieces _ path.shows.b.receiver
      none B r h kind = none_cut x.path tells B r h kind (flags_ba duo.modes) duo.ba holds.ba (cut.ba firm) number path.ba path.ba_there _ path.shows.b.sender.pieces _ path.shows.a.receiver

  abbrev MemberCut : Actor Carried → Type 0
  MemberCut m = HoldsOfKind (λ app. Unit {0}) Shown m → HoldsOfKind (λ app. Unit {0}) NoneIsCut m

  pub each_cut : (actor : ℕ) (c : ActorCrew Carried) → slice_get w.crew actor ≡ Some c → MemberCut c.member
  each_cut = subst (λ (v : WorldState Carried). (actor : ℕ) (c : ActorCrew Carried) → slice_get v.crew actor ≡ Some c → MemberCut c.member) (sym shown.shows.is)
      (each_actor (λ actor c. MemberCut c.member) cast (λ x. tt) (λ x. tt) (λ number x at. path_cut number x at))

pub checked_records_are_passed_whole : CheckedRecordsArePassedWhole
checked_records_are_passed_whole start turns mild uses c there = each_cut start turns mild uses 2 c there (each_shown start turns mild.plain.size mild.fit 2 c there)
