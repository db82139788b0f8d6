-- Nothing came that wasn't sent: each end's RCV.NXT is that of its lane, which passes no byte that the lane wasn't granted.
use Rattle.std.proofs.Common.{◌≡◌, refl, sym, subst, ◌⊎◌, inl, inr, ℕ, suc, ◌≤◌, arith, Bool, true, false, Option, List, length}
use Rattle.std.specs.Prelude.{IfSome}
use Rattle.sides.specs.declared.side.Side.TheVariants.{A, B}
use Rattle.subflow_recv.specs.Receiving.{Receiving}
use Rattle.stream_lanes.specs.Duo.{Duo, after_events}
use Rattle.stream_lanes.specs.Holding.{LaneHolds, Holds, IsFin}
use Rattle.stream_lanes.specs.Lane.{Lane, Cell, Pair}
use Rattle.stream_lanes.specs.View.{View}
use Rattle.stream_lanes.specs.Words.{Every}
use Rattle.stream_lanes.proofs.Duos.{any_held}
use Rattle.stream_lanes.proofs.Lists.{in_map}
use Rattle.actor_desk.specs.Books.{books_in}
use Rattle.path_store.specs.declared.granted_piece.GrantedPiece.{GrantedPiece}
use Rattle.path_core.specs.Profile.{Profile}
use Rattle.path_core.specs.State.{PathState}
use Rattle.path_core.specs.Values.{Carried, values}
use Rattle.world_laws.specs.declared.member.Member.TheVariants.{App, Path}
use Rattle.world_laws.specs.Actors.{Actor, ActorCrew}
use Rattle.world_laws.specs.Fresh.{shown_crew, shown_member, shown_world}
use Rattle.world_laws.specs.Members.{HoldsOfKind}
use Rattle.world_laws.specs.Openings.{Start, opened_world}
use Rattle.world_laws.specs.Promises.{HoldsAnyway, HoldsAnywayOfOctets}
use Rattle.world_laws.specs.Worlds.{WorldState, world_run}
use Rattle.world_laws.proofs.Lanes.Beginning.{each_run_shows}
use Rattle.world_laws.proofs.Lanes.OfAWorld.{Links, WorldShows, anyhow, anyhow_free, duo_of, first_duo, free_run}
use Rattle.world_laws.proofs.Lanes.SentRecords.{SentShows}
use Rattle.world_laws.proofs.Lanes.Showing.{HasFin, IsAtEdge, IsPastFin, PathShows}
use Rattle.world_laws.proofs.Promises.Made.{run_fresh}
use Rattle.world_laws.proofs.Worlds.CastLifting.{each_actor}
use Rattle.whole_paths.specs.Sent.{WasSent, WhatCameWasSent}

-- SND.NXT is behind all bytes that the lane was granted
pub next_after : (path : ℕ) (v : View) (finished : Bool) (nxt heard : ℕ) (granted : List GrantedPiece) (sent : List Cell) (fins : List ℕ) (pair : Option Pair) → SentShows finished nxt heard granted sent fins pair
    → Every (IsFin path v sent) fins → suc (length sent) ≤ nxt
next_after path v false nxt heard granted sent fins pair h all = let is = h.next refl in omega (arith, is)
next_after path v true nxt heard granted sent fins pair h all =
    let fin = h.fin refl in let at = fin.holds in let last = (all.each fin.at fin.item fin.there).last in omega (arith, at, last)

-- and behind the FIN, once one was sent
next_after_fin : (path : ℕ) (v : View) (finished : Bool) (nxt heard : ℕ) (granted : List GrantedPiece) (sent : List Cell) (fins : List ℕ) (pair : Option Pair) → SentShows finished nxt heard granted sent fins pair
    → Every (IsFin path v sent) fins → (position : ℕ) → HasFin fins position → (position ≡ suc (length sent)) × (suc (suc (length sent)) ≤ nxt)
next_after_fin path v false nxt heard granted sent fins pair h all position has = let unsent = h.none refl in let there = has.there in cc
next_after_fin path v true nxt heard granted sent fins pair h all position has =
    let fin = h.fin refl in
    let at = fin.holds in let last = (all.each fin.at fin.item fin.there).last in
    let is = has.holds in let there = (all.each has.at has.item has.there).last in
    (omega (arith, is, there), omega (arith, at, last))

-- RCV.NXT is behind some of those bytes, or at the FIN behind them
module _ (path : ℕ) (v : View) (back : Lane) (holds : LaneHolds v path back) (finished : Bool) (nxt heard : ℕ) (granted : List GrantedPiece)
    (sent : SentShows finished nxt heard granted back.sent back.fins back.pair) where
  edge_before : (recv : Receiving) (fin_at : Option ℕ) → IfSome fin_at (HasFin back.fins) → IsAtEdge recv back ⊎ IsPastFin fin_at recv back → recv.edge ≤ nxt
  edge_before recv fin_at fin (inl at) =
      let is = at.edge_is in let within = holds.bytes.within in let next = next_after path v finished nxt heard granted back.sent back.fins back.pair sent holds.fins in
      omega (arith, is, within, next)
  edge_before recv fin_at fin (inr past) =
      let has : HasFin back.fins (suc back.edge) = subst (λ o. IfSome o (HasFin back.fins)) past.at_is fin in
      let next = next_after_fin path v finished nxt heard granted back.sent back.fins back.pair sent holds.fins (suc back.edge) has in
      let is = past.edge_is in let at = next.0 in let behind = next.1 in
      omega (arith, is, at, behind)

path_sent : (path : ℕ) (v u : View) (c : Profile) (p : PathState Carried) (ab ba : Lane) → PathShows c p ab ba → LaneHolds v path ab → LaneHolds u path ba → WasSent p
path_sent path v u c p ab ba shows ab_holds ba_holds A =
    edge_before path u ba ba_holds p.b.tcp.send.finished p.b.tcp.send.nxt p.b.sending.heard p.b.sending.granted shows.b.sender.sent p.a.tcp.recv p.a.tcp.fin_at shows.a.receiver.fin shows.a.receiver.edge
path_sent path v u c p ab ba shows ab_holds ba_holds B =
    edge_before path v ab ab_holds p.a.tcp.send.finished p.a.tcp.send.nxt p.a.sending.heard p.a.sending.granted shows.a.sender.sent p.b.tcp.recv p.b.tcp.fin_at shows.b.receiver.fin shows.b.receiver.edge

-- ---- the world

abbrev SentMember : {C : Type 0} → Actor C → Type 0
SentMember = HoldsOfKind (λ app. Unit {0}) WasSent

shows_sent : (links : Links) (start : Start) (d : Duo) (w : WorldState Carried) → Holds d → WorldShows links start d w → WhatCameWasSent w
shows_sent links start d w held h = subst WhatCameWasSent (sym h.is) (record {
  each = each_actor (λ actor c. SentMember c.member) h.cast tt tt (λ number x there.
      (let path = h.paths.each number number x (omega arith) there in
      path_sent number _ _ _ x.path path.ab path.ba path.shows (holds.ab.lanes.each number number path.ab (omega arith) path.ab_there) (holds.ba.lanes.each number number path.ba (omega arith) path.ba_there)));
})
  where
    holds : Holds (duo_of links (books_in h.cast.books) h.lanes_ab h.lanes_ba h.reader_a h.reader_b)
    holds = subst Holds h.duo_is held

pub what_came_was_sent : HoldsAnyway WhatCameWasSent
what_came_was_sent start turns size =
    let can = anyhow start size in
    let r = each_run_shows start can turns (free_run can.links (anyhow_free start size) turns (opened_world start)) in
    shows_sent can.links start (after_events r.events (first_duo can.links start)) (world_run values turns (opened_world start))
    (any_held can.links.alters can.links.checked (length start.paths) start.buffer start.buffer r.events) r.shows

shown_sent : (m : Actor Carried) → SentMember m → SentMember (shown_member m)
shown_sent (App a) h = tt
shown_sent (Path p) h = λ s. h s

world_sent : (w : WorldState Carried) → WhatCameWasSent w → WhatCameWasSent (shown_world w)
world_sent w h = record {
  each = λ i c there. let found = in_map shown_crew w.crew i c there in subst (λ (y : ActorCrew (List ℕ)). SentMember y.member) found.2 (shown_sent found.0.member (h.each i found.0 found.1));
}

pub what_came_was_sent_in_octets : HoldsAnywayOfOctets WhatCameWasSent
what_came_was_sent_in_octets start turns size fit =
    subst WhatCameWasSent (sym (run_fresh start turns size fit)) (world_sent (world_run values turns (opened_world start)) (what_came_was_sent start turns size))
