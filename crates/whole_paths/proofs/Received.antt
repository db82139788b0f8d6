-- What an end passed stands in its side's book, by the lanes; and since nobody joins the only path of a connection, no byte before it is
-- missing.
use Rattle.std.proofs.Common.{◌≡◌, refl, sym, subst, ap, ◌∙◌, ◌⊎◌, inl, inr, ℕ, zero, suc, ◌+◌, ◌-◌, ◌<◌, ◌≤◌, arith, Bool, true, false, true≢false, not, Option, Some, None, IfSome, List, [], ◌∷◌, ◌++◌, length}
use Rattle.std.specs.List.{list_any, slice_get}
use Rattle.std.proofs.lemmas.Bool.{le-ltb, or_parts}
use Rattle.std.proofs.lemmas.Option.{same_Some, slice_get_within}
use Rattle.sides.specs.declared.side.Side.{Side}
use Rattle.sides.specs.declared.side.Side.TheVariants.{A, B}
use Rattle.control_book.specs.declared.call.ControlCall.{ControlCall}
use Rattle.control_book.specs.declared.call.ControlCall.TheVariants as control_calls
use Rattle.subflow_recv.specs.Receiving.{Receiving}
use Rattle.stream_apps.specs.Apps.{AppState}
use Rattle.stream_apps.specs.AppSteps.{app_ask, app_asks_first}
use Rattle.stream_apps.specs.declared.duty.AppDuty.{AppDuty}
use Rattle.stream_apps.specs.declared.duty.AppDuty.TheVariants as app_duties
use Rattle.stream_lanes.specs.Duo.{Duo}
use Rattle.stream_lanes.specs.Holding.{Holds, LaneHolds}
use Rattle.stream_lanes.specs.Lane.{Lane}
use Rattle.stream_lanes.specs.View.{IsIn, View}
use Rattle.actor_desk.specs.Books.{books_in}
use Rattle.actor_desk.specs.Desk.{SixBooks, after_ask}
use Rattle.actor_desk.specs.declared.ask.Ask.{Ask}
use Rattle.actor_desk.specs.declared.ask.Ask.TheVariants as asks
use Rattle.path_agenda.specs.declared.duty.Duty.{Duty}
use Rattle.path_agenda.specs.declared.duty.Duty.TheVariants as duties
use Rattle.path_agenda.specs.declared.duty.AskDuty.TheVariants as ask_duties
use Rattle.path_agenda.specs.declared.duty.StepDuty.TheVariants as step_duties
use Rattle.path_store.specs.declared.granted_piece.GrantedPiece.{GrantedPiece}
use Rattle.path_core.specs.Duties.{ask_for}
use Rattle.path_core.specs.Steps.{asks_first}
use Rattle.path_core.specs.Events.{next_event, step_for}
use Rattle.path_core.specs.MpJoin.{is_joined}
use Rattle.path_core.specs.State.{PathState, end_at}
use Rattle.path_core.specs.Values.{Carried, values}
use Rattle.path_core.specs.declared.events.Event.{Event}
use Rattle.path_core.specs.declared.events.Event.TheVariants as happenings
use Rattle.world_laws.specs.declared.member.Member.TheVariants.{App, Path}
use Rattle.world_laws.specs.Actors.{Actor, ActorCrew, member_asks}
use Rattle.world_laws.specs.Asking.{May, asking, may}
use Rattle.world_laws.specs.Members.{HoldsOfKind}
use Rattle.world_laws.specs.Openings.{PathPlan, Start, opened_world, path_begins}
use Rattle.world_laws.specs.Promises.{HoldsAnyway}
use Rattle.world_laws.specs.Worlds.{WorldState, Turn, after_turn, world_run}
use Rattle.world_laws.proofs.Falls.WhereASideStands.{IsNoJoin, same_joined}
use Rattle.world_laws.proofs.Lanes.OfAWorld.{Links, PathThere, WorldShows, anyhow, duo_of}
use Rattle.world_laws.proofs.Lanes.SentRecords.{SentShows}
use Rattle.world_laws.proofs.Lanes.Showing.{HasFin, IsAtEdge, IsPastFin}
use Rattle.world_laws.proofs.Weaving.Journals.{books_after}
use Rattle.world_laws.proofs.Weaving.WholeRounds.{run_append}
use Rattle.world_laws.proofs.Worlds.CastLifting.{each_actor, path_actor}
use Rattle.world_laws.proofs.Worlds.Casts.{Walker, walking, world_of}
use Rattle.world_laws.proofs.Worlds.Turns.{turn_so}
use Rattle.world_laws.proofs.Writes.Asks.{asks_no_more}
use Rattle.whole_paths.specs.Mild.{IsNeverBroken, IsMildStart, is_harsh}
use Rattle.whole_paths.specs.Came.{HasCome}
use Rattle.whole_paths.specs.Received.{GrantedIsReceived, HoldsOfOnlyPaths, PassedIsPlaced, PassedIsReceived, WhatIsGrantedIsReceived, WhatIsPassedIsPlaced, WhatIsPassedIsReceived, GrantedIsPlaced, WhatIsGrantedIsPlaced}
use Rattle.whole_paths.proofs.Acknowledged.{always_shown}
use Rattle.whole_paths.proofs.Breaking.{never_breaks}
use Rattle.whole_paths.proofs.Came.{what_is_acknowledged_came}
use Rattle.whole_paths.proofs.Reached.{EndsAreReached, each_is_reached, none_left}
use Rattle.whole_paths.proofs.Sent.{next_after}

-- ---- a lane

module _ (path : ℕ) (v : View) (lane : Lane) (holds : LaneHolds v path lane) (finished : Bool) (nxt heard : ℕ) (granted : List GrantedPiece)
    (shows : SentShows finished nxt heard granted lane.sent lane.fins lane.pair) (recv : Receiving) (fin_at : Option ℕ) (fin : IfSome fin_at (HasFin lane.fins))
    (edge : IsAtEdge recv lane ⊎ IsPastFin fin_at recv lane) where
  -- a byte that was granted and that RCV.NXT is past lies before the lane's edge: the FIN stands behind all
  before_edge : (n : ℕ) → n < length lane.sent → suc n < recv.edge → n < lane.edge
  before_edge n within low = by edge
    where
      by : IsAtEdge recv lane ⊎ IsPastFin fin_at recv lane → n < lane.edge
      by (inl at) = let is = at.edge_is in omega (arith, is, low)
      by (inr past) =
          let has : HasFin lane.fins (suc lane.edge) = subst (λ o. IfSome o (HasFin lane.fins)) past.at_is fin in
          let at = has.holds in let last = (holds.fins.each has.at has.item has.there).last in omega (arith, at, last, within)

  module _ (piece : GrantedPiece) (i : ℕ) (there : slice_get granted i ≡ Some piece) (passed : piece.position + (piece.to - piece.from) ≤ recv.edge) where
    placed : (place : ℕ) → piece.from ≤ place → place < piece.to → IsIn v place
    placed place over under =
        let is = shows.pieces.each i piece there in
        let stands = is.stands in
        let n : ℕ = (piece.position - 1) + (place - piece.from) in
        let at = is.cell (place - piece.from) (omega (arith, over, under)) in
        let place_is = at.2 in
        let same : at.0.place ≡ place = omega (arith, place_is, over) in
        subst (IsIn v) same (holds.passed.bytes.bytes n at.0 (before_edge n (slice_get_within lane.sent n at.0 at.1) (omega (arith, passed, stands, over, under))) at.1)

    -- where nobody joined each byte stands at its own position
    received_to : v.alone ≡ true → piece.to ≤ v.received
    received_to alone =
        let is = shows.pieces.each i piece there in
        let stands = is.stands in let some = is.some in
        let j : ℕ = (piece.to - piece.from) - 1 in
        let n : ℕ = (piece.position - 1) + j in
        let at = is.cell j (omega (arith, some)) in
        let place_is = at.2 in
        let identity : at.0.place ≡ n = (holds.alone alone).identity.each n n at.0 (omega arith) at.1 in
        let before = before_edge n (slice_get_within lane.sent n at.0 at.1) (omega (arith, passed, stands, some)) in
        let upto = holds.receiver.passed alone in
        omega (arith, place_is, identity, before, upto, some)

-- a piece that is granted ends at SND.NXT or before it
within_sent : (path : ℕ) (v : View) (lane : Lane) → LaneHolds v path lane → (finished : Bool) (nxt heard : ℕ) (granted : List GrantedPiece) → SentShows finished nxt heard granted lane.sent lane.fins lane.pair
    → (i : ℕ) (piece : GrantedPiece) → slice_get granted i ≡ Some piece → piece.position + (piece.to - piece.from) ≤ nxt
within_sent path v lane holds finished nxt heard granted shows i piece there =
    let is = shows.pieces.each i piece there in
    let stands = is.stands in let some = is.some in
    let at = is.cell ((piece.to - piece.from) - 1) (omega (arith, some)) in
    let inside = slice_get_within lane.sent ((piece.position - 1) + ((piece.to - piece.from) - 1)) at.0 at.1 in
    let next = next_after path v finished nxt heard granted lane.sent lane.fins lane.pair shows holds.fins in
    omega (arith, inside, next, stands, some)

-- ---- nobody joins

-- B neither begins nor answers a join by this
abbrev IsNoJoinOfB : Ask → Type 0
IsNoJoinOfB (asks.Control B (control_calls.JoinBegin path)) = ⊥
IsNoJoinOfB (asks.Control B (control_calls.JoinHeard path token)) = ⊥
IsNoJoinOfB _ = Unit {0}

no_join : (call : ControlCall) → IsNoJoinOfB (asks.Control B call) → IsNoJoin call
no_join (control_calls.JoinBegin path) none = none
no_join (control_calls.JoinHeard path token) none = none
no_join _ none = tt

unasked : (x : Ask) (six : SixBooks) → IsNoJoinOfB x → (after_ask x six).control_b.fall.joined ≡ six.control_b.fall.joined
unasked (asks.Control A call) six none = refl
unasked (asks.Control B call) six none = same_joined six.control_b call (no_join call none)
unasked (asks.Send A call) six none = refl
unasked (asks.Send B call) six none = refl
unasked (asks.Reassembly A call) six none = refl
unasked (asks.Reassembly B call) six none = refl
unasked (asks.Local step) six none = refl

app_none : (d : AppDuty) (a : AppState) → IsNoJoinOfB (app_ask d a)
app_none app_duties.FastClose a = elim a.side as (λ s. IsNoJoinOfB (asks.Control s control_calls.FastClose)) [ A ↦ tt | B ↦ tt ]
app_none d a = tt

kind_none : (m : May) (x : Ask) → m.joins ≡ false → may m x ≡ true → IsNoJoinOfB x
kind_none m (asks.Control B (control_calls.JoinBegin path)) none is = true≢false (sym is ∙ none)
kind_none m (asks.Control B (control_calls.JoinHeard path token)) none is = true≢false (sym is ∙ none)
kind_none m (asks.Control B call) none is = tt
kind_none m (asks.Control A call) none is = tt
kind_none m _ none is = tt

event_none : (path : ℕ) (o : Option Event) → IsNoJoinOfB (step_for path o)
event_none path None = tt
event_none path (Some (happenings.Joins tick)) = tt
event_none path (Some _) = tt

-- by no duty of path 0, which isn't asked for by a join
duty_none : (d : Duty) (p : PathState Carried) → is_harsh d ≡ false → IsNoJoinOfB (ask_for values d p)
duty_none (duties.Ask ask_duties.JoinAgain) p calm = tt
duty_none (duties.Ask (ask_duties.JoinHeard s)) p calm = absurd (true≢false calm)
duty_none (duties.Step step_duties.Events) p calm = event_none p.link.path (next_event p)
duty_none (duties.Send d) p calm = kind_none (asking (duties.Send d)) (ask_for values (duties.Send d) p) refl (asks_no_more values p (duties.Send d)).kind
duty_none (duties.Silent d) p calm = kind_none (asking (duties.Silent d)) (ask_for values (duties.Silent d) p) refl (asks_no_more values p (duties.Silent d)).kind
duty_none d p calm = kind_none (asking d) (ask_for values d p) refl (asks_no_more values p d).kind

app_asks_none : (ds : List AppDuty) (a : AppState) (x : Ask) → app_asks_first ds a ≡ Some x → IsNoJoinOfB x
app_asks_none [] a x is = cc
app_asks_none (d ∷ ds) a x is = subst IsNoJoinOfB (same_Some (app_ask d a) x is) (app_none d a)

path_asks_none : (ds : List Duty) (p : PathState Carried) (x : Ask) → list_any is_harsh ds ≡ false → asks_first values ds p ≡ Some x → IsNoJoinOfB x
path_asks_none [] p x calm is = cc
path_asks_none (d ∷ ds) p x calm is = subst IsNoJoinOfB (same_Some (ask_for values d p) x is) (duty_none d p (or_parts (is_harsh d) (list_any is_harsh ds) calm).0)

abbrev OfPaths : (PathState Carried → Type 0) → Actor Carried → Type 0
OfPaths P = HoldsOfKind (λ app. Unit {0}) P

member_none : (m : Actor Carried) (x : Ask) → OfPaths (λ p. is_joined p.profile ≡ false) m → OfPaths IsNeverBroken m → member_asks values m ≡ Some x → IsNoJoinOfB x
member_none (App a) x first breaks is = app_asks_none a.agenda a x is
member_none (Path p) x first breaks is = path_asks_none p.agenda p x (breaks first).duties is

-- ---- a connection of one path

pub only_plan : (plan : PathPlan) (number : ℕ) (x : PathPlan) → slice_get (plan ∷ []) number ≡ Some x → number ≡ 0
only_plan plan zero x there = refl
only_plan plan (suc n) x there = cc

module _ (start : Start) (plan : PathPlan) (one : start.paths ≡ plan ∷ []) (mild : IsMildStart start) where
  abbrev at : List Turn → WorldState Carried
  at turns = world_run values turns (opened_world start)

  abbrev IsUnjoined : WorldState Carried → Type 0
  IsUnjoined w = (books_in w.books).control_b.fall.joined ≡ false

  -- each path is path 0
  each_first : (turns : List Turn) (actor : ℕ) (c : ActorCrew Carried) → slice_get (at turns).crew actor ≡ Some c → OfPaths (λ p. is_joined p.profile ≡ false) c.member
  each_first turns = subst (λ (w : WorldState Carried). (actor : ℕ) (c : ActorCrew Carried) → slice_get w.crew actor ≡ Some c → OfPaths (λ p. is_joined p.profile ≡ false) c.member) (sym h.is)
      (each_actor (λ actor c. OfPaths (λ p. is_joined p.profile ≡ false) c.member) h.cast tt tt (λ number x there. by number x (h.paths.each number number x (omega arith) there)))
    where
      h : WorldShows (anyhow start mild.plain.size).links start (always_shown start turns mild.plain.size).0 (at turns)
      h = (always_shown start turns mild.plain.size).1.0

      by : (number : ℕ) (x : Walker Carried) → PathThere start h.lanes_ab h.lanes_ba number x.path → is_joined x.path.profile ≡ false
      by number x path =
          let first : number ≡ 0 = only_plan plan number path.plan (ap (λ ps. slice_get ps number) (sym one) ∙ path.plan_there) in
          ap is_joined path.shows.profile ∙ ap (λ n. is_joined (path_begins start n path.plan).profile) first ∙ le-ltb 0 0 (omega arith)

  unjoined_turn : (turns : List Turn) (turn : Turn) → IsUnjoined (at turns) → IsUnjoined (after_turn values turn (at turns))
  unjoined_turn turns turn none = turn_so values IsUnjoined turn (at turns) none
      (λ actor c x there asks. subst (λ (six : SixBooks). six.control_b.fall.joined ≡ false) (sym (books_after x c.pass (at turns).books))
      (unasked x (books_in (at turns).books) (member_none c.member x (each_first turns actor c there) ((never_breaks start turns mild).each actor c there) asks) ∙ none))
      (λ over. none)

  unjoined_then : (before more : List Turn) → IsUnjoined (at before) → IsUnjoined (world_run values more (at before))
  unjoined_then before [] none = none
  unjoined_then before (turn ∷ more) none =
      let same : at (before ++ turn ∷ []) ≡ after_turn values turn (at before) = run_append values before (turn ∷ []) (opened_world start) in
      subst (λ (w : WorldState Carried). IsUnjoined (world_run values more w)) same (unjoined_then (before ++ turn ∷ []) more (subst IsUnjoined (sym same) (unjoined_turn before turn none)))

  pub nobody_joins : (turns : List Turn) → IsUnjoined (at turns)
  nobody_joins turns = unjoined_then [] turns refl

-- ---- the world

module _ (links : Links) (start : Start) (d : Duo) (w : WorldState Carried) (held : Holds d) (h : WorldShows links start d w) where
  holds : Holds (duo_of links (books_in h.cast.books) h.lanes_ab h.lanes_ba h.reader_a h.reader_b)
  holds = subst Holds h.duo_is held

  path_placed : (number : ℕ) (p : PathState Carried) → PathThere start h.lanes_ab h.lanes_ba number p → PassedIsPlaced (world_of h.cast) p
  path_placed number p path A piece x = placed number _ path.ab (holds.ab.lanes.each number number path.ab (omega arith) path.ab_there) _ _ _ _ path.shows.a.sender.sent
      p.b.tcp.recv p.b.tcp.fin_at path.shows.b.receiver.fin path.shows.b.receiver.edge piece x.number x.there x.passed
  path_placed number p path B piece x = placed number _ path.ba (holds.ba.lanes.each number number path.ba (omega arith) path.ba_there) _ _ _ _ path.shows.b.sender.sent
      p.a.tcp.recv p.a.tcp.fin_at path.shows.a.receiver.fin path.shows.a.receiver.edge piece x.number x.there x.passed

  pub shows_placed : WhatIsPassedIsPlaced w
  shows_placed = subst WhatIsPassedIsPlaced (sym h.is) (record {
    each = each_actor (λ actor c. OfPaths (PassedIsPlaced (world_of h.cast)) c.member) h.cast tt tt (λ number x there. path_placed number x.path (h.paths.each number number x (omega arith) there));
  })

  left_placed : (p : PathState Carried) → PassedIsPlaced (world_of h.cast) p → EndsAreReached p → HasCome p
      → ((s : Side) (i : ℕ) (piece : GrantedPiece) → slice_get (end_at s p).sending.granted i ≡ Some piece → piece.position + (piece.to - piece.from) ≤ (end_at s p).tcp.send.nxt)
      → GrantedIsPlaced (world_of h.cast) p
  left_placed p passed reached came sent s living none = record {
    each = λ i piece there. passed s piece (record {
      number = i;
      there = there;
      passed = (let within = sent s i piece there in let una = none_left (end_at s p).tcp (reached s) none in let low = came.una s living in omega (arith, within, una, low));
    });
  }

  sent_so : (number : ℕ) (p : PathState Carried) → PathThere start h.lanes_ab h.lanes_ba number p
      → (s : Side) (i : ℕ) (piece : GrantedPiece) → slice_get (end_at s p).sending.granted i ≡ Some piece → piece.position + (piece.to - piece.from) ≤ (end_at s p).tcp.send.nxt
  sent_so number p path A i piece there = within_sent number _ path.ab (holds.ab.lanes.each number number path.ab (omega arith) path.ab_there) _ _ _ _ path.shows.a.sender.sent i piece there
  sent_so number p path B i piece there = within_sent number _ path.ba (holds.ba.lanes.each number number path.ba (omega arith) path.ba_there) _ _ _ _ path.shows.b.sender.sent i piece there

  pub shows_granted : ((actor : ℕ) (c : ActorCrew Carried) → slice_get w.crew actor ≡ Some c → OfPaths EndsAreReached c.member)
      → ((actor : ℕ) (c : ActorCrew Carried) → slice_get w.crew actor ≡ Some c → OfPaths HasCome c.member) → WhatIsGrantedIsPlaced w
  shows_granted reached came = subst WhatIsGrantedIsPlaced (sym h.is) (record {
    each = each_actor (λ actor c. OfPaths (GrantedIsPlaced (world_of h.cast)) c.member) h.cast tt tt (λ number x there.
        (let here = ap (λ (v : WorldState Carried). slice_get v.crew (suc (suc number))) h.is ∙ path_actor h.cast number x there in
        let path = h.paths.each number number x (omega arith) there in
        left_placed x.path (path_placed number x.path path) (reached (suc (suc number)) (walking x) here) (came (suc (suc number)) (walking x) here) (sent_so number x.path path)));
  })

  module _ (none : (books_in w.books).control_b.fall.joined ≡ false) where
    alone : not (books_in h.cast.books).control_b.fall.joined ≡ true
    alone = ap not (subst (λ (v : WorldState Carried). (books_in v.books).control_b.fall.joined ≡ false) h.is none)

    path_received : (number : ℕ) (p : PathState Carried) → PathThere start h.lanes_ab h.lanes_ba number p → PassedIsReceived (world_of h.cast) p
    path_received number p path A piece x = received_to number _ path.ab (holds.ab.lanes.each number number path.ab (omega arith) path.ab_there) _ _ _ _ path.shows.a.sender.sent
        p.b.tcp.recv p.b.tcp.fin_at path.shows.b.receiver.fin path.shows.b.receiver.edge piece x.number x.there x.passed alone
    path_received number p path B piece x = received_to number _ path.ba (holds.ba.lanes.each number number path.ba (omega arith) path.ba_there) _ _ _ _ path.shows.b.sender.sent
        p.a.tcp.recv p.a.tcp.fin_at path.shows.a.receiver.fin path.shows.a.receiver.edge piece x.number x.there x.passed alone

    pub shows_received : WhatIsPassedIsReceived w
    shows_received = subst WhatIsPassedIsReceived (sym h.is) (record {
      each = each_actor (λ actor c. OfPaths (PassedIsReceived (world_of h.cast)) c.member) h.cast tt tt (λ number x there. path_received number x.path (h.paths.each number number x (omega arith) there));
    })

    left_received : (p : PathState Carried) → PassedIsReceived (world_of h.cast) p → EndsAreReached p → HasCome p
        → ((s : Side) (i : ℕ) (piece : GrantedPiece) → slice_get (end_at s p).sending.granted i ≡ Some piece → piece.position + (piece.to - piece.from) ≤ (end_at s p).tcp.send.nxt)
        → GrantedIsReceived (world_of h.cast) p
    left_received p passed reached came sent s living none = record {
      each = λ i piece there. passed s piece (record {
        number = i;
        there = there;
        passed = (let within = sent s i piece there in let una = none_left (end_at s p).tcp (reached s) none in let low = came.una s living in omega (arith, within, una, low));
      });
    }

    path_left : (number : ℕ) (p : PathState Carried) → PathThere start h.lanes_ab h.lanes_ba number p → EndsAreReached p → HasCome p → GrantedIsReceived (world_of h.cast) p
    path_left number p path reached came = left_received p (path_received number p path) reached came (sent_so number p path)

    pub shows_left : ((actor : ℕ) (c : ActorCrew Carried) → slice_get w.crew actor ≡ Some c → OfPaths EndsAreReached c.member)
        → ((actor : ℕ) (c : ActorCrew Carried) → slice_get w.crew actor ≡ Some c → OfPaths HasCome c.member) → WhatIsGrantedIsReceived w
    shows_left reached came = subst WhatIsGrantedIsReceived (sym h.is) (record {
      each = each_actor (λ actor c. OfPaths (GrantedIsReceived (world_of h.cast)) c.member) h.cast tt tt (λ number x there.
          (let here = ap (λ (v : WorldState Carried). slice_get v.crew (suc (suc number))) h.is ∙ path_actor h.cast number x there in
          path_left number x.path (h.paths.each number number x (omega arith) there) (reached (suc (suc number)) (walking x) here) (came (suc (suc number)) (walking x) here)));
    })

pub what_is_passed_is_placed : HoldsAnyway WhatIsPassedIsPlaced
what_is_passed_is_placed start turns size =
    let shown = always_shown start turns size in shows_placed (anyhow start size).links start shown.0 (world_run values turns (opened_world start)) shown.1.1 shown.1.0

-- over any number of paths
pub what_is_granted_is_placed : HoldsAnyway WhatIsGrantedIsPlaced
what_is_granted_is_placed start turns size =
    let shown = always_shown start turns size in
    shows_granted (anyhow start size).links start shown.0 (world_run values turns (opened_world start)) shown.1.1 shown.1.0 (each_is_reached values start turns).each (what_is_acknowledged_came start turns).each

pub only_paths_receive : HoldsOfOnlyPaths values WhatIsPassedIsReceived
only_paths_receive start turns plan one mild =
    let size = mild.plain.size in
    let shown = always_shown start turns size in
    shows_received (anyhow start size).links start shown.0 (world_run values turns (opened_world start)) shown.1.1 shown.1.0 (nobody_joins start plan one mild turns)

-- as long as B's side joined no path
pub lone_granted_is_received : (start : Start) (turns : List Turn) → IsMildStart start → (books_in (world_run values turns (opened_world start)).books).control_b.fall.joined ≡ false
    → WhatIsGrantedIsReceived (world_run values turns (opened_world start))
lone_granted_is_received start turns mild alone =
    let size = mild.plain.size in
    let shown = always_shown start turns size in
    shows_left (anyhow start size).links start shown.0 (world_run values turns (opened_world start)) shown.1.1 shown.1.0 alone
    (each_is_reached values start turns).each (what_is_acknowledged_came start turns).each

pub granted_is_received : HoldsOfOnlyPaths values WhatIsGrantedIsReceived
granted_is_received start turns plan one mild = lone_granted_is_received start turns mild (nobody_joins start plan one mild turns)
