-- The FIN of a lane stands behind all of its bytes, and SND.NXT behind the FIN.
use Rattle.std.proofs.Common.{◌≡◌, refl, sym, subst, ℕ, suc, ◌+◌, ◌≤◌, arith, Bool, true, false, Option, Some, None, List, length}
use Rattle.std.specs.Prelude.{IfSome}
use Rattle.sides.specs.declared.side.Side.{Side}
use Rattle.sides.specs.declared.side.Side.TheVariants.{A, B}
use Rattle.sides.specs.Side.{peer}
use Rattle.stream_lanes.specs.Duo.{Duo, after_events}
use Rattle.stream_lanes.specs.Holding.{Holds, IsFin, LaneHolds}
use Rattle.stream_lanes.specs.Lane.{Cell, Lane, Pair}
use Rattle.stream_lanes.specs.View.{View}
use Rattle.stream_lanes.specs.Words.{Every}
use Rattle.stream_lanes.proofs.Duos.{any_held}
use Rattle.subflow_send.specs.Records.{Record}
use Rattle.subflow_send.specs.declared.record.RecordKind.TheVariants.{Data, Fin}
use Rattle.path_store.specs.declared.granted_piece.GrantedPiece.{GrantedPiece}
use Rattle.actor_desk.specs.Books.{books_in}
use Rattle.path_core.specs.Profile.{Profile}
use Rattle.path_core.specs.State.{PathState, end_at}
use Rattle.path_core.specs.Values.{Carried, values}
use Rattle.world_laws.specs.Members.{HoldsOfKind}
use Rattle.world_laws.specs.Openings.{Start, opened_world}
use Rattle.world_laws.specs.Promises.{HoldsAnyway}
use Rattle.world_laws.specs.Worlds.{WorldState, world_run}
use Rattle.world_laws.proofs.Lanes.Beginning.{each_run_shows}
use Rattle.world_laws.proofs.Lanes.OfAWorld.{Links, WorldShows, anyhow, anyhow_free, duo_of, first_duo, free_run}
use Rattle.world_laws.proofs.Lanes.SentRecords.{SentShows}
use Rattle.world_laws.proofs.Lanes.Showing.{HasFin, KindShows, PathShows, RecordShows}
use Rattle.world_laws.proofs.Worlds.CastLifting.{each_actor}
use Rattle.whole_paths.specs.LastFin.{FinIsLast, FinsAreLast}

-- a FIN that was sent stands right before SND.NXT
pub fin_last : (path : ℕ) (v : View) (finished : Bool) (nxt heard : ℕ) (granted : List GrantedPiece) (sent : List Cell) (fins : List ℕ) (pair : Option Pair) → SentShows finished nxt heard granted sent fins pair
    → Every (IsFin path v sent) fins → (position : ℕ) → HasFin fins position → suc position ≡ nxt
fin_last path v false nxt heard granted sent fins pair h all position has = let unsent = h.none refl in let there = has.there in cc
fin_last path v true nxt heard granted sent fins pair h all position has =
    let fin = h.fin refl in
    let at = fin.holds in let last = (all.each fin.at fin.item fin.there).last in
    let is = has.holds in let there = (all.each has.at has.item has.there).last in
    omega (arith, at, last, is, there)

module _ (path : ℕ) (v : View) (out : Lane) (holds : LaneHolds v path out) (finished : Bool) (nxt heard : ℕ) (granted : List GrantedPiece) (sent : SentShows finished nxt heard granted out.sent out.fins out.pair) where
  records_last : (c : Profile) (s : Side) (rs : List Record) → Every (RecordShows c s out.alters out.sent out.datas out.fins) rs → Every (λ (r : Record). r.kind ≡ Fin → suc r.pos ≡ nxt) rs
  records_last c s rs h = record {
    each = λ i r there is.
        fin_last path v finished nxt heard granted out.sent out.fins out.pair sent holds.fins r.pos (subst (λ k. KindShows c s out.alters out.sent out.datas out.fins k r) is (h.each i r there)).1;
  }

  heard_last : (at : Option ℕ) → IfSome at (HasFin out.fins) → IfSome at (λ position. suc position ≡ nxt)
  heard_last None h = tt
  heard_last (Some position) h = fin_last path v finished nxt heard granted out.sent out.fins out.pair sent holds.fins position h

-- the bytes of a lane stand before its FIN
data_before : (path : ℕ) (v : View) (c : Profile) (s : Side) (out : Lane) (rs : List Record) → LaneHolds v path out → (at : Option ℕ) → IfSome at (HasFin out.fins) → Every (RecordShows c s out.alters out.sent out.datas out.fins) rs
    → IfSome at (λ position. Every (λ (r : Record). r.kind ≡ Data → r.pos + r.mapping.length ≤ position) rs)
data_before path v c s out rs holds None has h = tt
data_before path v c s out rs holds (Some position) has h = record {
  each = λ i r there is.
      let piece = subst (λ k. KindShows c s out.alters out.sent out.datas out.fins k r) is (h.each i r there) in
      let within = piece.summed.within in let fin = has.holds in let last = (holds.fins.each has.at has.item has.there).last in omega (arith, within, fin, last);
}

path_last : (path : ℕ) (v u : View) (c : Profile) (p : PathState Carried) (ab ba : Lane) → PathShows c p ab ba → LaneHolds v path ab → LaneHolds u path ba → FinIsLast p
path_last path v u c p ab ba shows ab_holds ba_holds = record { sent = sent; heard = heard; behind = behind }
  where
    sent : (s : Side) → Every (λ (r : Record). r.kind ≡ Fin → suc r.pos ≡ (end_at s p).tcp.send.nxt) (end_at s p).tcp.send.records
    sent A = records_last path v ab ab_holds p.a.tcp.send.finished p.a.tcp.send.nxt p.a.sending.heard p.a.sending.granted shows.a.sender.sent c A p.a.tcp.send.records shows.a.sender.pieces
    sent B = records_last path u ba ba_holds p.b.tcp.send.finished p.b.tcp.send.nxt p.b.sending.heard p.b.sending.granted shows.b.sender.sent c B p.b.tcp.send.records shows.b.sender.pieces

    heard : (s : Side) → IfSome (end_at (peer s) p).tcp.fin_at (λ position. suc position ≡ (end_at s p).tcp.send.nxt)
    heard A = heard_last path v ab ab_holds p.a.tcp.send.finished p.a.tcp.send.nxt p.a.sending.heard p.a.sending.granted shows.a.sender.sent p.b.tcp.fin_at shows.b.receiver.fin
    heard B = heard_last path u ba ba_holds p.b.tcp.send.finished p.b.tcp.send.nxt p.b.sending.heard p.b.sending.granted shows.b.sender.sent p.a.tcp.fin_at shows.a.receiver.fin

    behind : (s : Side) → IfSome (end_at (peer s) p).tcp.fin_at (λ position. Every (λ (r : Record). r.kind ≡ Data → r.pos + r.mapping.length ≤ position) (end_at s p).tcp.send.records)
    behind A = data_before path v c A ab p.a.tcp.send.records ab_holds p.b.tcp.fin_at shows.b.receiver.fin shows.a.sender.pieces
    behind B = data_before path u c B ba p.b.tcp.send.records ba_holds p.a.tcp.fin_at shows.a.receiver.fin shows.b.sender.pieces

-- ---- the world

shows_last : (links : Links) (start : Start) (d : Duo) (w : WorldState Carried) → Holds d → WorldShows links start d w → FinsAreLast w
shows_last links start d w held h = subst FinsAreLast (sym h.is) (record {
  each = each_actor (λ actor c. HoldsOfKind (λ app. Unit {0}) FinIsLast c.member) h.cast tt tt (λ number x there.
      (let path = h.paths.each number number x (omega arith) there in
      path_last number _ _ _ x.path path.ab path.ba path.shows (holds.ab.lanes.each number number path.ab (omega arith) path.ab_there) (holds.ba.lanes.each number number path.ba (omega arith) path.ba_there)));
})
  where
    holds : Holds (duo_of links (books_in h.cast.books) h.lanes_ab h.lanes_ba h.reader_a h.reader_b)
    holds = subst Holds h.duo_is held

pub fins_are_last : HoldsAnyway FinsAreLast
fins_are_last start turns size =
    let can = anyhow start size in
    let r = each_run_shows start can turns (free_run can.links (anyhow_free start size) turns (opened_world start)) in
    shows_last can.links start (after_events r.events (first_duo can.links start)) (world_run values turns (opened_world start))
    (any_held can.links.alters can.links.checked (length start.paths) start.buffer start.buffer r.events) r.shows
