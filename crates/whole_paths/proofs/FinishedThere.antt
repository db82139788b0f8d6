-- A stream whose DATA_FIN is acknowledged, or whose end sent its FIN, is with the peer's side, which knows where it ends.
use Rattle.std.proofs.Common.{◌≡◌, refl, sym, subst, ap, ◌∙◌, ⊎_elim, ℕ, suc, ◌≤◌, arith, Bool, true, false, true≢false, if◌then◌else◌, Option, Some, None, List, [], ◌∷◌, length}
use Rattle.std.specs.Prelude.{IfSome}
use Rattle.std.specs.List.{slice_get}
use Rattle.std.proofs.lemmas.Bool.{both_ways}
use Rattle.std.proofs.lemmas.Option.{same_Some}
use Rattle.sides.specs.declared.side.Side.{Side}
use Rattle.sides.specs.declared.side.Side.TheVariants.{A, B}
use Rattle.fallback_state.specs.declared.fall.Mode.{Mode}
use Rattle.fallback_state.specs.declared.fall.Mode.TheVariants.{Identity, InfiniteBoth, InfiniteReceive}
use Rattle.send_book.specs.State.{Sending, acked_len}
use Rattle.reassembly_book.specs.State.{Arriving, received}
use Rattle.reassembly_book.proofs.Merging.{filled-le}
use Rattle.stream_lanes.specs.Duo.{Duo, after_events, flags_ab, flags_ba}
use Rattle.stream_lanes.specs.Holding.{DirectionHolds, Holds}
use Rattle.stream_lanes.specs.Lane.{Lane}
use Rattle.stream_lanes.specs.Moves.{Flags}
use Rattle.stream_lanes.specs.Streams.{Direction}
use Rattle.stream_lanes.specs.View.{IsEnd, end_of}
use Rattle.stream_lanes.specs.Words.{Every}
use Rattle.stream_lanes.proofs.Duos.{any_held}
use Rattle.actor_desk.specs.Books.{books_in}
use Rattle.path_core.specs.State.{PathState}
use Rattle.path_core.specs.Values.{Carried, values}
use Rattle.world_laws.specs.Actors.{Actor, ActorCrew}
use Rattle.world_laws.specs.Altered.{fell_back, is_fallback}
use Rattle.world_laws.specs.Members.{HoldsOfKind}
use Rattle.world_laws.specs.NeverFalls.{is_fallen_back}
use Rattle.world_laws.specs.Openings.{PathPlan, Start, opened_world}
use Rattle.world_laws.specs.Promises.{IsPlain}
use Rattle.world_laws.specs.Worlds.{WorldState, Turn, world_run}
use Rattle.world_laws.proofs.Falls.ByTheJournal.{was_wider}
use Rattle.world_laws.proofs.Falls.FirmRuns.{firm_run}
use Rattle.world_laws.proofs.Lanes.Beginning.{each_run_shows}
use Rattle.world_laws.proofs.Lanes.OfAWorld.{Carries, PathThere, WorldShows, duo_of, first_duo}
use Rattle.world_laws.proofs.Whole.Falls.{sides_never_fall}
use Rattle.world_laws.proofs.Worlds.CastLifting.{each_actor, path_actor}
use Rattle.world_laws.proofs.Worlds.Casts.{Cast, Walker, walking, world_of}
use Rattle.whole_paths.specs.Delivery.{FinishedIsThere, HasFinished, IsAllThere, WhatIsFinishedIsThere}
use Rattle.whole_paths.specs.Mild.{IsMildStart}
use Rattle.whole_paths.specs.Unstopped.{NothingIsStopped}
use Rattle.whole_paths.proofs.Finished.{ArePushed, behind_ending, each_pushed}
use Rattle.whole_paths.proofs.Unended.{AreUnended, BothUnended, IsUnended, both_unended}
use Rattle.whole_paths.proofs.Unstopped.{sides_are_never_stopped}

-- ---- books

-- who names the end names the length of a closed stream
ended : (b : Sending) (e : ℕ) → end_of b ≡ Some e → (b.closed ≡ true) × (e ≡ length b.written)
ended b e = by b.closed
  where
    by : (c : Bool) → (if c then Some (length b.written) else None) ≡ Some e → (c ≡ true) × (e ≡ length b.written)
    by true is = (refl, sym (same_Some (length b.written) e is))
    by false is = cc

-- ---- a direction

-- all of the stream is there
pub record There (b : Sending) (r : Arriving) : Type 0 where
  pub closed : b.closed ≡ true
  pub received : received r ≡ length b.written
  pub known : r.known_end ≡ Some (length b.written)

-- its DATA_FIN is acknowledged, or a FIN was sent
pub data Finishes (p : Lane) : Type 0 where
  acked : p.fin_acked ≡ true → Finishes p
  fin : (at pos : ℕ) → slice_get p.fins at ≡ Some pos → Finishes p

module _ (f : Flags) (d : Direction) (holds : DirectionHolds f d) where
  pub within : received d.arrived ≤ length d.send.written
  within = let high = holds.arrived.top in omega (arith, high, filled-le d.arrived.places)

  pub known_end : (e : ℕ) → d.arrived.known_end ≡ Some e → (d.send.closed ≡ true) × (e ≡ length d.send.written)
  known_end e is = ended d.send e (subst (λ o. IfSome o (IsEnd (end_of d.send))) is holds.arrived.end)

  -- where as much is acknowledged as the stream has
  all_there : (e n : ℕ) → d.arrived.known_end ≡ Some e → IsEnd (end_of d.send) n → n ≤ acked_len d.send.marks → There d.send d.arrived
  all_there e n known is low =
      let end = known_end e known in
      let size = (ended d.send n is).1 in
      let most = within in
      let acked = holds.send.acked in
      record {
        closed = end.0;
        received = omega (arith, size, low, acked, most);
        known = known ∙ ap (λ n. Some n) end.1;
      }

  pub there_at : (path : ℕ) (p : Lane) → slice_get d.lanes path ≡ Some p → AreUnended d → Finishes p → There d.send d.arrived
  there_at path p at unended done = by d.arrived.known_end refl
    where
      lane : IsUnended d.arrived.known_end (length d.send.written) p
      lane = unended.lanes.each path p at

      finished : Finishes p → p.fin_acked ≡ true
      finished (acked is) = is
      finished (fin i pos there) = ⊎_elim (λ none. absurd (empty (sym (ap (λ xs. slice_get xs i) none) ∙ there))) (λ is. is) lane.fins
        where
          empty : slice_get [] i ≡ Some pos → ⊥
          empty is = cc

      by : (o : Option ℕ) → d.arrived.known_end ≡ o → There d.send d.arrived
      by None is = absurd (both_ways p.fin_acked (lane.acked is) (finished done))
      by (Some e) is = let whole = (holds.lanes.each path path p (omega arith) at).heard.fin (finished done) in all_there e whole.0 is whole.1 whole.2

-- ---- the lanes of a mild connection

-- links that alter nothing, between sides that don't fall back
abbrev pub firmly : (start : Start) → IsPlain start → Carries start
firmly start plain = record { links = record { alters = false; checked = false; firm_a = true; firm_b = true }; may = λ none. plain.unaltered; checks = λ is. absurd (true≢false (sym is)); size = plain.size }

widens : (m : Mode) → is_fallback m ≡ true → is_fallen_back m ≡ true
widens Identity is = refl
widens InfiniteReceive is = refl
widens InfiniteBoth is = refl
widens _ is = absurd (true≢false (sym is))

-- a connection of lanes that shows at a moment, with what holds of it
pub record ShowsFirmly (start : Start) (plain : IsPlain start) (w : WorldState Carried) : Type 0 where
  pub duo : Duo
  pub shows : WorldShows (firmly start plain).links start duo w
  pub holds : Holds duo
  pub unended : BothUnended duo

-- no side ever fell back
pub never_fallen : (start : Start) (turns : List Turn) (mild : IsMildStart start) (s : Side) → fell_back s (world_run values turns (opened_world start)) ≡ false
never_fallen start turns mild s = by (fell_back s w) refl
  where
    w : WorldState Carried
    w = world_run values turns (opened_world start)

    by : (b : Bool) → fell_back s w ≡ b → fell_back s w ≡ false
    by false is = is
    by true is = absurd (both_ways _ (sides_never_fall start turns mild.plain mild.strips s) (was_wider is_fallback is_fallen_back widens w.books s is))

pub shown_firmly : (start : Start) (turns : List Turn) (mild : IsMildStart start) → ShowsFirmly start mild.plain (world_run values turns (opened_world start))
shown_firmly start turns mild =
    let can = firmly start mild.plain in
    let r = each_run_shows start can turns (firm_run can.links start turns (λ s firm. never_fallen start turns mild s)) in
    record {
      duo = after_events r.events (first_duo can.links start);
      shows = r.shows;
      holds = any_held false false (length start.paths) start.buffer start.buffer r.events;
      unended = both_unended false (length start.paths) start.buffer start.buffer r.events (any_held false false (length start.paths) start.buffer start.buffer);
    }

-- ---- the world

module _ (start : Start) (turns : List Turn) (mild : IsMildStart start) where
  abbrev w : WorldState Carried
  w = world_run values turns (opened_world start)

  shown : ShowsFirmly start mild.plain w
  shown = shown_firmly start turns mild

  abbrev cast : Cast Carried
  cast = shown.shows.cast

  abbrev now : WorldState Carried
  now = world_of cast

  abbrev duo : Duo
  duo = duo_of (firmly start mild.plain).links (books_in cast.books) shown.shows.lanes_ab shown.shows.lanes_ba shown.shows.reader_a shown.shows.reader_b

  holds : Holds duo
  holds = subst Holds shown.shows.duo_is shown.holds

  unended : BothUnended duo
  unended = subst BothUnended shown.shows.duo_is shown.unended

  stopped : NothingIsStopped now
  stopped = subst NothingIsStopped shown.shows.is (sides_are_never_stopped start turns mild)

  pushed : Every (λ (c : ActorCrew Carried). HoldsOfKind (λ app. Unit {0}) (λ (p : PathState Carried). ArePushed p) c.member) now.crew
  pushed = subst (λ (v : WorldState Carried). Every (λ (c : ActorCrew Carried). HoldsOfKind (λ app. Unit {0}) (λ (p : PathState Carried). ArePushed p) c.member) v.crew) shown.shows.is (each_pushed values start turns)

  path_there : (number : ℕ) (x : Walker Carried) → slice_get cast.paths number ≡ Some x → FinishedIsThere now x.path
  path_there number x at A done = all (there_at (flags_ab duo.modes) duo.ab holds.ab number path.ab path.ab_there (unended.ab (record { a = refl; b = refl }) (stopped.owner A)) (by done))
    where
      path : PathThere start shown.shows.lanes_ab shown.shows.lanes_ba number x.path
      path = shown.shows.paths.each number number x (omega arith) at

      all : There (books_in cast.books).send_a (books_in cast.books).reassembly_b → IsAllThere A now
      all h = record { closed = h.closed; received = h.received; known = h.known }

      by : HasFinished x.path.a → Finishes path.ab
      by (HasFinished.acknowledged is) = acked (path.shows.a.sender.fin_acked is)
      by (HasFinished.sent_fin behind living) =
          let has = path.shows.a.sender.sent.fin ((pushed.each (suc (suc number)) (walking x) (path_actor cast number x at)).a (behind_ending x.path.a.tcp.state behind living)) in
          fin has.at has.item has.there
  path_there number x at B done = all (there_at (flags_ba duo.modes) duo.ba holds.ba number path.ba path.ba_there (unended.ba (record { a = refl; b = refl }) (stopped.owner B)) (by done))
    where
      path : PathThere start shown.shows.lanes_ab shown.shows.lanes_ba number x.path
      path = shown.shows.paths.each number number x (omega arith) at

      all : There (books_in cast.books).send_b (books_in cast.books).reassembly_a → IsAllThere B now
      all h = record { closed = h.closed; received = h.received; known = h.known }

      by : HasFinished x.path.b → Finishes path.ba
      by (HasFinished.acknowledged is) = acked (path.shows.b.sender.fin_acked is)
      by (HasFinished.sent_fin behind living) =
          let has = path.shows.b.sender.sent.fin ((pushed.each (suc (suc number)) (walking x) (path_actor cast number x at)).b (behind_ending x.path.b.tcp.state behind living)) in
          fin has.at has.item has.there

  abbrev FinishedMember : WorldState Carried → Actor Carried → Type 0
  FinishedMember v = HoldsOfKind (λ app. Unit {0}) (FinishedIsThere v)

  pub each_finished : (actor : ℕ) (c : ActorCrew Carried) → slice_get w.crew actor ≡ Some c → FinishedMember w c.member
  each_finished = subst (λ (v : WorldState Carried). (actor : ℕ) (c : ActorCrew Carried) → slice_get v.crew actor ≡ Some c → FinishedMember v c.member) (sym shown.shows.is)
      (each_actor (λ actor c. FinishedMember now c.member) cast tt tt (λ number x at. path_there number x at))

pub each_finished_is_there : WhatIsFinishedIsThere
each_finished_is_there start turns mild = each_finished start turns mild

-- over one path
pub what_is_finished_is_there : (start : Start) (plan : PathPlan) (turns : List Turn) → start.paths ≡ plan ∷ [] → IsMildStart start → let w = world_run values turns (opened_world start) in
    (actor : ℕ) (c : ActorCrew Carried) → slice_get w.crew actor ≡ Some c → HoldsOfKind (λ app. Unit {0}) (FinishedIsThere w) c.member
what_is_finished_is_there start plan turns one mild = each_finished start turns mild
