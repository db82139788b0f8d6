-- B's end idles until A's may send a DSS: it was granted no byte, and knows the window that A's SYN told, which isn't shut.
use Rattle.std.proofs.Common.{◌≡◌, refl, sym, subst, ap, ◌∙◌, ℕ, ◌+◌, ◌<◌, ◌≤◌, arith, Bool, true, false, if◌then◌else◌, Option, Some, List, [], ◌∷◌, length}
use Rattle.std.specs.List.{slice_get}
use Rattle.sides.specs.declared.side.Side.TheVariants.{A, B}
use Rattle.stream_lanes.specs.Duo.{Duo, after_events}
use Rattle.stream_lanes.specs.Lane.{Cell, Lane}
use Rattle.stream_lanes.specs.Words.{Every}
use Rattle.reassembly_book.specs.State.{received}
use Rattle.reassembly_book.specs.Steps.{is_end, next_wanted}
use Rattle.path_store.specs.declared.granted_piece.GrantedPiece.{GrantedPiece}
use Rattle.path_core.specs.MpJoin.{is_joined}
use Rattle.path_core.specs.Profile.{Profile}
use Rattle.path_core.specs.State.{PathState}
use Rattle.path_core.specs.Values.{Carried, values}
use Rattle.world_laws.specs.Actors.{ActorCrew}
use Rattle.world_laws.specs.Openings.{Start, opened_world, path_begins}
use Rattle.world_laws.specs.Promises.{HasRoom, arrived_at}
use Rattle.world_laws.specs.RoundDone.{reached}
use Rattle.world_laws.specs.Worlds.{Turn, WorldState}
use Rattle.world_laws.proofs.Lanes.Beginning.{each_run_shows}
use Rattle.world_laws.proofs.Lanes.OfAWorld.{Links, WorldShows, anyhow, anyhow_free, first_duo, free_run}
use Rattle.world_laws.proofs.Lanes.Showing.{IsGrantedTo, PathShows, is_unfinished}
use Rattle.world_laws.proofs.Worlds.CastLifting.{each_actor}
use Rattle.whole_paths.specs.AsFar.{stage}
use Rattle.whole_paths.specs.Clear.{BIsIdleBefore, IsPastIfClear}
use Rattle.whole_paths.specs.Came.{HasCome}
use Rattle.whole_paths.specs.Delivery.{FinishedIsThere, HasFinished}
use Rattle.whole_paths.specs.Finish.{IsPathAt}
use Rattle.whole_paths.specs.Mild.{IsMildStart}
use Rattle.whole_paths.specs.OpeningWaits.{IsAlive}
use Rattle.whole_paths.specs.PositionCounts.{CountsBytes}
use Rattle.whole_paths.proofs.ByTurns.{Of, OfFirst}
use Rattle.whole_paths.proofs.Came.{what_is_acknowledged_came}
use Rattle.whole_paths.proofs.Clearing.{clear_ends_are_past}
use Rattle.whole_paths.proofs.EdgesStay.{nothing_comes_before, sent_fin}
use Rattle.whole_paths.proofs.EndsUntold.{a_is_told_no_end_before}
use Rattle.whole_paths.proofs.FinishedThere.{each_finished_is_there}
use Rattle.whole_paths.proofs.Handshaking.{PathMet, each_met}
use Rattle.whole_paths.proofs.OpenCourses.{IsFirstPath, each_first}
use Rattle.whole_paths.proofs.PositionCounts.{first_counts_bytes}
use Rattle.whole_paths.proofs.Reached.{EndsAreReached, each_is_reached, none_left}
use Rattle.whole_paths.proofs.KnownWindows.{unshut_at}
use Rattle.whole_paths.proofs.LoneFirst.{IsUnjoined, unjoined_so}

-- ---- by the lanes

-- as long as B's end sent no byte and no FIN it was granted nothing
record HasNothing (p : PathState Carried) : Type 0 where
  nothing : is_unfinished p.b.tcp.state ≡ true → p.b.tcp.send.nxt ≤ 1 → p.b.sending.granted ≡ []

none_granted : (sent : List Cell) (gs : List GrantedPiece) → length sent ≡ 0 → Every (IsGrantedTo sent) gs → gs ≡ []
none_granted [] [] empty h = refl
none_granted [] (g ∷ gs) empty h = let there = (h.each 0 g refl).has.there in cc
none_granted (c ∷ cs) gs empty h = absurd (omega (arith, empty))

shown_nothing : (c : Profile) (p : PathState Carried) (ab ba : Lane) → PathShows c p ab ba → HasNothing p
shown_nothing c p ab ba shows = record {
  nothing = λ unfinished few. none_granted ba.sent p.b.sending.granted (let next = shows.b.sender.next unfinished in omega (arith, next, few)) shows.b.sender.granted;
}

each_nothing : (start : Start) (turns : List Turn) → HasRoom start → OfFirst HasNothing (reached values start turns)
each_nothing start turns size =
    let can = anyhow start size in
    let r = each_run_shows start can turns (free_run can.links (anyhow_free start size) turns (opened_world start)) in
    record { each = λ c there. shown_so can.links (after_events r.events (first_duo can.links start)) r.shows 2 c there refl }
  where
    shown_so : (links : Links) (d : Duo) → WorldShows links start d (reached values start turns)
        → (actor : ℕ) (c : ActorCrew Carried) → slice_get (reached values start turns).crew actor ≡ Some c → actor ≡ 2 → Of HasNothing c.member
    shown_so links d h = subst (λ (w : WorldState Carried). (actor : ℕ) (c : ActorCrew Carried) → slice_get w.crew actor ≡ Some c → actor ≡ 2 → Of HasNothing c.member) (sym h.is)
        (each_actor (λ actor c. actor ≡ 2 → Of HasNothing c.member) h.cast (λ is. tt) (λ is. tt) (λ number x there is.
        (let path = h.paths.each number number x (omega arith) there in
        shown_nothing (path_begins start number path.plan).profile x.path path.ab path.ba path.shows)))

-- ---- the world

module _ (start : Start) (mild : IsMildStart start) where
  -- A's side received nothing before B has its SYN
  pub fewer : (turns : List Turn) → IsUnjoined (reached values start turns) → (p : PathState Carried) → IsPathAt 0 (reached values start turns) p → IsAlive p → stage p.b.tcp.state ≤ 1 → next_wanted (arrived_at A (reached values start turns)) < 1
  fewer turns alone p here alive low =
      let none = a_is_told_no_end_before start turns mild p here unclear in
      let edge = nothing_comes_before start turns mild p here alive A unclear in
      let few = counts.came in
      let is : next_wanted (arrived_at A w) ≡ 0 = ap (λ (o : Option ℕ). received (arrived_at A w) + (if is_end o (received (arrived_at A w)) then 1 else 0)) none ∙ omega (arith, few, edge) in
      omega (arith, is)
    where
      w : WorldState Carried
      w = reached values start turns

      met : PathMet p
      met = subst (Of PathMet) here.is ((each_met start mild turns).each here.crew here.there)

      counts : CountsBytes w p B
      counts = first_counts_bytes start turns mild alone p here B

      first : is_joined p.profile ≡ false
      first = (subst (Of (IsFirstPath start)) here.is (each_first start turns mild.plain.size here.crew here.there)).first

      unclear : p.a.modes.clear ≡ false
      unclear = by p.a.modes.clear refl
        where
          by : (b : Bool) → p.a.modes.clear ≡ b → b ≡ false
          by false is = refl
          by true is = absurd (let high = subst (Of IsPastIfClear) here.is (clear_ends_are_past values start turns 2 here.crew here.there) first A is in let far = met.a (omega (arith, high)) (alive.living A) in omega (arith, far, low))

  nothing_at : (turns : List Turn) (p : PathState Carried) → IsPathAt 0 (reached values start turns) p → HasNothing p
  nothing_at turns p here = subst (Of HasNothing) here.is ((each_nothing start turns mild.plain.size).each here.crew here.there)

  module _ (room : 1 ≤ start.buffer) (turns : List Turn) (p : PathState Carried) (here : IsPathAt 0 (reached values start turns) p) (alive : IsAlive p) (unclear : p.a.modes.clear ≡ false) (none : p.b.tcp.send.records ≡ []) where
    pub few : p.b.tcp.send.nxt ≤ 1
    few =
        let reached_so = subst (Of EndsAreReached) here.is ((each_is_reached values start turns).each 2 here.crew here.there) in
        let came = subst (Of HasCome) here.is ((what_is_acknowledged_came start turns).each 2 here.crew here.there) in
        let all = none_left p.b.tcp (reached_so B) none in let high = came.una B (alive.living B) in let edge = nothing_comes_before start turns mild p here alive A unclear in
        omega (arith, all, high, edge)

    unfinished : is_unfinished p.b.tcp.state ≡ true
    unfinished = by (is_unfinished p.b.tcp.state) refl
      where
        by : (b : Bool) → is_unfinished p.b.tcp.state ≡ b → b ≡ true
        by true is = refl
        by false behind = absurd
            (let all = subst (Of (FinishedIsThere (reached values start turns))) here.is (each_finished_is_there start turns mild 2 here.crew here.there) B (HasFinished.sent_fin (sent_fin p.b.tcp.state behind (alive.living B)) (alive.living B)) in
            let untold = a_is_told_no_end_before start turns mild p here unclear in let some = all.known in cc)

    idle : (p.b.sending.granted ≡ []) × (p.b.sending.shut ≡ false)
    idle = ((nothing_at turns p here).nothing unfinished few, unshut_at start mild B 1 1 (omega arith) (omega arith) room (λ turns alone p here alive low. (let none = fewer turns alone p here alive low in omega (arith, none))) turns (unjoined_so start turns p here unclear) p here alive few)

pub b_is_idle_before : BIsIdleBefore
b_is_idle_before start turns mild room p here alive over unclear clear none = idle start mild room turns p here alive unclear none
