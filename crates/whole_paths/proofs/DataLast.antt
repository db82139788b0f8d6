-- A record of data stands behind the SYN, and ends at SND.NXT or before, and before the FIN once that was sent.
use Rattle.std.proofs.Common.{◌≡◌, refl, sym, subst, ℕ, ◌+◌, ◌<◌, ◌≤◌, arith, Bool, true, false, Option, Some, List, length}
use Rattle.std.specs.List.{slice_get}
use Rattle.sides.specs.declared.side.Side.{Side}
use Rattle.sides.specs.declared.side.Side.TheVariants.{A, B}
use Rattle.stream_lanes.specs.Duo.{Duo, after_events}
use Rattle.stream_lanes.specs.Holding.{Holds, IsFin, LaneHolds}
use Rattle.stream_lanes.specs.Lane.{Cell, DataCopy, Lane, Pair}
use Rattle.stream_lanes.specs.View.{View}
use Rattle.stream_lanes.specs.Words.{Every}
use Rattle.stream_lanes.proofs.Duos.{any_held}
use Rattle.subflow_send.specs.Records.{Record}
use Rattle.subflow_send.specs.declared.record.RecordKind.TheVariants.{Data}
use Rattle.path_store.specs.declared.granted_piece.GrantedPiece.{GrantedPiece}
use Rattle.actor_desk.specs.Books.{books_in}
use Rattle.path_core.specs.Profile.{Profile}
use Rattle.path_core.specs.State.{PathState, end_at}
use Rattle.path_core.specs.Values.{Carried, values}
use Rattle.world_laws.specs.Members.{HoldsOfKind}
use Rattle.world_laws.specs.Actors.{ActorCrew}
use Rattle.world_laws.specs.Openings.{Start, opened_world}
use Rattle.world_laws.specs.Promises.{HasRoom}
use Rattle.world_laws.specs.Worlds.{Turn, WorldState, world_run}
use Rattle.world_laws.proofs.Lanes.Beginning.{each_run_shows}
use Rattle.world_laws.proofs.Lanes.OfAWorld.{Links, WorldShows, anyhow, anyhow_free, duo_of, first_duo, free_run}
use Rattle.world_laws.proofs.Lanes.SentRecords.{SentShows}
use Rattle.world_laws.proofs.Lanes.Showing.{IsPiece, KindShows, PathShows, RecordShows}
use Rattle.world_laws.proofs.Worlds.CastLifting.{each_actor}
use Rattle.whole_paths.specs.News.{one_if}

pub record StandsWithin (nxt : ℕ) (finished : Bool) (r : Record) : Type 0 where
  pub behind : 0 < r.pos
  pub before : r.pos + r.mapping.length + one_if finished ≤ nxt

-- of each record of data, at both ends
abbrev pub DataStands : PathState Carried → Type 0
DataStands p = (s : Side) → Every (λ (r : Record). r.kind ≡ Data → StandsWithin (end_at s p).tcp.send.nxt (end_at s p).tcp.send.finished r) (end_at s p).tcp.send.records

piece_within : (path : ℕ) (v : View) (finished : Bool) (nxt heard : ℕ) (granted : List GrantedPiece) (sent : List Cell) (fins : List ℕ) (pair : Option Pair) → SentShows finished nxt heard granted sent fins pair
    → Every (IsFin path v sent) fins → (c : Profile) (s : Side) (alters : Bool) (datas : List DataCopy) (r : Record) → IsPiece c s alters sent datas r → StandsWithin nxt finished r
piece_within path v false nxt heard granted sent fins pair h all c s alters datas r piece =
    let at = piece.octets.holds.position_is in let within = piece.summed.within in let next = h.next refl in record { behind = omega (arith, at); before = omega (arith, at, within, next) }
piece_within path v true nxt heard granted sent fins pair h all c s alters datas r piece =
    let at = piece.octets.holds.position_is in let within = piece.summed.within in let fin = h.fin refl in let is = fin.holds in let last = (all.each fin.at fin.item fin.there).last in
    record { behind = omega (arith, at); before = omega (arith, at, within, is, last) }

module _ (path : ℕ) (v : View) (out : Lane) (holds : LaneHolds v path out) (finished : Bool) (nxt heard : ℕ) (granted : List GrantedPiece) (sent : SentShows finished nxt heard granted out.sent out.fins out.pair) where
  records_within : (c : Profile) (s : Side) (rs : List Record) → Every (RecordShows c s out.alters out.sent out.datas out.fins) rs → Every (λ (r : Record). r.kind ≡ Data → StandsWithin nxt finished r) rs
  records_within c s rs h = record {
    each = λ i r there is. piece_within path v finished nxt heard granted out.sent out.fins out.pair sent holds.fins c s out.alters out.datas r
        (subst (λ k. KindShows c s out.alters out.sent out.datas out.fins k r) is (h.each i r there));
  }

path_within : (path : ℕ) (v u : View) (c : Profile) (p : PathState Carried) (ab ba : Lane) → PathShows c p ab ba → LaneHolds v path ab → LaneHolds u path ba → DataStands p
path_within path v u c p ab ba shows ab_holds ba_holds A =
    records_within path v ab ab_holds p.a.tcp.send.finished p.a.tcp.send.nxt p.a.sending.heard p.a.sending.granted shows.a.sender.sent c A p.a.tcp.send.records shows.a.sender.pieces
path_within path v u c p ab ba shows ab_holds ba_holds B =
    records_within path u ba ba_holds p.b.tcp.send.finished p.b.tcp.send.nxt p.b.sending.heard p.b.sending.granted shows.b.sender.sent c B p.b.tcp.send.records shows.b.sender.pieces

-- on each path
pub record DataAlwaysStands (w : WorldState Carried) : Type 0 where
  pub each : (actor : ℕ) (c : ActorCrew Carried) → slice_get w.crew actor ≡ Some c → HoldsOfKind (λ app. Unit {0}) DataStands c.member

shows_within : (links : Links) (start : Start) (d : Duo) (w : WorldState Carried) → Holds d → WorldShows links start d w → DataAlwaysStands w
shows_within links start d w held h = subst DataAlwaysStands (sym h.is) (record {
  each = each_actor (λ actor c. HoldsOfKind (λ app. Unit {0}) DataStands c.member) h.cast tt tt (λ number x there.
      (let path = h.paths.each number number x (omega arith) there in
      path_within number _ _ _ x.path path.ab path.ba path.shows (holds.ab.lanes.each number number path.ab (omega arith) path.ab_there) (holds.ba.lanes.each number number path.ba (omega arith) path.ba_there)));
})
  where
    holds : Holds (duo_of links (books_in h.cast.books) h.lanes_ab h.lanes_ba h.reader_a h.reader_b)
    holds = subst Holds h.duo_is held

pub data_always_stands : (start : Start) (turns : List Turn) → HasRoom start → DataAlwaysStands (world_run values turns (opened_world start))
data_always_stands start turns size =
    let can = anyhow start size in
    let r = each_run_shows start can turns (free_run can.links (anyhow_free start size) turns (opened_world start)) in
    shows_within can.links start (after_events r.events (first_duo can.links start)) (world_run values turns (opened_world start))
    (any_held can.links.alters can.links.checked (length start.paths) start.buffer start.buffer r.events) r.shows
