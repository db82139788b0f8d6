-- What each path sent it was granted once, by the lanes.
use Rattle.std.proofs.Common.{◌≡◌, refl, sym, subst, ℕ, suc, ◌≤◌, arith, Bool, true, false, List}
use Rattle.sides.specs.declared.side.Side.TheVariants.{A, B}
use Rattle.stream_lanes.specs.Duo.{Duo}
use Rattle.stream_lanes.specs.Holding.{Holds, LaneHolds}
use Rattle.stream_lanes.specs.Lane.{Lane}
use Rattle.stream_lanes.specs.Marks.{spent_count}
use Rattle.stream_lanes.specs.View.{View}
use Rattle.actor_desk.specs.Books.{books_in}
use Rattle.path_store.specs.declared.granted_piece.GrantedPiece.{GrantedPiece}
use Rattle.path_core.specs.State.{PathState}
use Rattle.path_core.specs.Values.{Carried, values}
use Rattle.world_laws.specs.Members.{HoldsOfKind}
use Rattle.world_laws.specs.Openings.{Start, opened_world}
use Rattle.world_laws.specs.Promises.{HoldsAnyway}
use Rattle.world_laws.specs.Worlds.{WorldState, world_run}
use Rattle.world_laws.proofs.Lanes.OfAWorld.{Links, PathThere, WorldShows, anyhow, duo_of}
use Rattle.world_laws.proofs.Lanes.SentRecords.{SentShows}
use Rattle.world_laws.proofs.Worlds.CastLifting.{each_actor}
use Rattle.world_laws.proofs.Worlds.Casts.{world_of}
use Rattle.whole_paths.specs.GrantedPositions.{PathsSendWhatIsGranted, SendsWhatIsGranted}
use Rattle.whole_paths.proofs.Acknowledged.{always_shown}

-- of a lane
sends_few : (v : View) (path : ℕ) (lane : Lane) → LaneHolds v path lane → (finished : Bool) (nxt heard : ℕ) (granted : List GrantedPiece)
    → SentShows finished nxt heard granted lane.sent lane.fins lane.pair → nxt ≤ suc (suc (spent_count path v.marks))
sends_few v path lane holds finished nxt heard granted shows = by finished refl
  where
    by : (b : Bool) → finished ≡ b → nxt ≤ suc (suc (spent_count path v.marks))
    by false none = let next = shows.next none in let once = holds.record_of.once in omega (arith, next, once)
    by true is = let fin = shows.fin is in let at = fin.holds in let last = (holds.fins.each fin.at fin.item fin.there).last in let once = holds.record_of.once in omega (arith, at, last, once)

module _ (start : Start) (links : Links) (d : Duo) (w : WorldState Carried) (held : Holds d) (h : WorldShows links start d w) where
  holds : Holds (duo_of links (books_in h.cast.books) h.lanes_ab h.lanes_ba h.reader_a h.reader_b)
  holds = subst Holds h.duo_is held

  path_sends : (number : ℕ) (p : PathState Carried) → PathThere start h.lanes_ab h.lanes_ba number p → SendsWhatIsGranted (world_of h.cast) p
  path_sends number p x A = subst (λ n. p.a.tcp.send.nxt ≤ suc (suc (spent_count n (books_in h.cast.books).send_a.marks))) (sym x.numbered)
      (sends_few _ number x.ab (holds.ab.lanes.each number number x.ab (omega arith) x.ab_there) _ _ _ _ x.shows.a.sender.sent)
  path_sends number p x B = subst (λ n. p.b.tcp.send.nxt ≤ suc (suc (spent_count n (books_in h.cast.books).send_b.marks))) (sym x.numbered)
      (sends_few _ number x.ba (holds.ba.lanes.each number number x.ba (omega arith) x.ba_there) _ _ _ _ x.shows.b.sender.sent)

  each_sends : PathsSendWhatIsGranted w
  each_sends = subst PathsSendWhatIsGranted (sym h.is) (record {
    each = each_actor (λ actor c. HoldsOfKind (λ app. Unit {0}) (SendsWhatIsGranted (world_of h.cast)) c.member) h.cast tt tt
        (λ number x there. path_sends number x.path (h.paths.each number number x (omega arith) there));
  })

pub paths_send_what_is_granted : HoldsAnyway PathsSendWhatIsGranted
paths_send_what_is_granted start turns size =
    let shown = always_shown start turns size in each_sends start (anyhow start size).links shown.0 (world_run values turns (opened_world start)) shown.1.1 shown.1.0
