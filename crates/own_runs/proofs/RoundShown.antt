-- As a round ends each octet that a path has tried was in a segment.
use Rattle.std.proofs.Common.{◌≡◌, refl, sym, ap, ◌∙◌, subst, ℕ, suc, ◌<◌, ◌&&◌, ⊎_elim, true, Some, List, [], ◌∷◌, length, map, arith}
use Rattle.std.specs.List.{slice_get}
use Rattle.std.proofs.lemmas.Option.{slice_get_within}
use Rattle.actor_desk.specs.Desk.{send_of}
use Rattle.path_core.specs.Octets.{octets}
use Rattle.path_core.specs.Values.{Carried, values}
use Rattle.run_trace.specs.Trace.{trace_of}
use Rattle.send_book.specs.State.{Sending}
use Rattle.sides.specs.declared.side.Side.TheVariants.{A, B}
use Rattle.sides.specs.declared.side.Side.{Side}
use Rattle.stream_lanes.proofs.Duos.{any_held}
use Rattle.stream_lanes.proofs.Lists.{item_at}
use Rattle.stream_lanes.specs.Duo.{Duo}
use Rattle.stream_lanes.specs.Holding.{HasPlace, Holds}
use Rattle.stream_lanes.specs.Lane.{Lane}
use Rattle.stream_lanes.specs.Marks.{tried}
use Rattle.stream_lanes.specs.Words.{Has}
use Rattle.world_laws.proofs.Promises.Made.{run_fresh}
use Rattle.world_laws.specs.Actors.{Actor, ActorCrew, is_over}
use Rattle.world_laws.specs.Fresh.{shown_crew, shown_member, shown_world}
use Rattle.world_laws.specs.NeverFalls.{IsWhole}
use Rattle.world_laws.specs.Openings.{Start, opened_world}
use Rattle.world_laws.specs.Promises.{IsPlain, NumbersFit}
use Rattle.actor_desk.specs.Books.{books_in}
use Rattle.world_laws.specs.Worlds.{Turn, WorldState, all_over, world_run}
use Rattle.world_laws.specs.declared.member.Member.TheVariants.{App, Path}
use Rattle.own_runs.proofs.CameSent.{IsOnLane, cell_sent, d, lanes_many, links, path_at, w}
use Rattle.own_runs.proofs.Granted.{way}
use Rattle.own_runs.proofs.ShownAcks.{IsShown, shown_by, whole_acks}
use Rattle.own_runs.proofs.WasSent.{Known, over_at, waits_none}

over_same : (m : Actor Carried) → is_over (shown_member m) ≡ is_over m
over_same (App a) = refl
over_same (Path p) = refl

over_crew : (crew : List (ActorCrew Carried)) → all_over (map shown_crew crew) ≡ all_over crew
over_crew [] = refl
over_crew (c ∷ crew) = ap (λ b. b && all_over (map shown_crew crew)) (over_same c.member) ∙ ap (λ b. is_over c.member && b) (over_crew crew)

module _ (start : Start) (turns : List Turn) (plain : IsPlain start) (fit : NumbersFit start) where
  module _ (k : Known start plain fit turns) (over : all_over (w start plain fit turns k).crew ≡ true) where
    abbrev now : Duo
    now = d start plain fit turns k

    holds : Holds now
    holds = any_held (links start plain fit turns k).alters (links start plain fit turns k).checked (length start.paths) start.buffer start.buffer k.events

    has_place : (s : Side) (n : ℕ) (lane : Lane) → slice_get (way s now).lanes n ≡ Some lane → (place : ℕ) → tried n (slice_get (way s now).send.marks place) ≡ true → HasPlace lane.sent place
    has_place A n lane there place is = (holds.ab.lanes.each n n lane (omega arith) there).record_of.tried place is
    has_place B n lane there place is = (holds.ba.lanes.each n n lane (omega arith) there).record_of.tried place is

    tried_sent : (s : Side) (n place : ℕ) → n < length start.paths → tried n (slice_get (way s now).send.marks place) ≡ true → Has (IsOnLane start now s place) (trace_of turns (opened_world start))
    tried_sent s n place below is =
        let many = lanes_many start plain fit turns k s in
        let lane = item_at (way s now).lanes n (omega (arith, below, many)) in
        let cell = has_place s n lane.0 lane.1 place is in
        let actor = path_at start plain fit turns k n below in
        let side = k.sent n actor.0 actor.1 actor.2 actor.3 s lane.0 lane.1 in
        let done = subst (λ (m : Actor Carried). is_over m ≡ true) actor.3 (over_at (w start plain fit turns k).crew (suc (suc n)) actor.0 over actor.1) in
        let all : side.upto ≡ length lane.0.sent = ⊎_elim (λ all. all) (λ waits. absurd (waits_none start s actor.2 lane.0 side.upto done waits)) side.rest in
        let inside = slice_get_within lane.0.sent cell.at cell.item cell.there in
        cell_sent start plain fit turns k s place n lane.0 lane.1 cell.at cell.item cell.there cell.holds (side.told cell.at cell.item (omega (arith, inside, all)) cell.there)

  sent_by : (k : Known start plain fit turns) (s : Side) → send_of s (books_in (w start plain fit turns k).books) ≡ (way s (d start plain fit turns k)).send
  sent_by k A = ap (λ (v : WorldState Carried). (books_in v.books).send_a) k.shows.is ∙ sym (ap (λ (e : Duo). e.ab.send) k.shows.duo_is)
  sent_by k B = ap (λ (v : WorldState Carried). (books_in v.books).send_b) k.shows.is ∙ sym (ap (λ (e : Duo). e.ba.send) k.shows.duo_is)

  abbrev run : WorldState (List ℕ)
  run = world_run octets turns (opened_world start)

  pub tried_shown : (whole : IsWhole start) → all_over run.crew ≡ true → (s : Side) (path place : ℕ) → path < length start.paths
      → tried path (slice_get (send_of s (books_in run.books)).marks place) ≡ true → Has (IsShown start (whole_acks start turns plain whole fit).0 s place) (trace_of turns (opened_world start))
  tried_shown whole over s path place below is = shown_by start turns plain fit whole s place by
    where
      fresh : run ≡ shown_world (world_run values turns (opened_world start))
      fresh = run_fresh start turns plain.size fit

      over_now : all_over (world_run values turns (opened_world start)).crew ≡ true
      over_now = sym (over_crew (world_run values turns (opened_world start)).crew) ∙ ap (λ (v : WorldState (List ℕ)). all_over v.crew) (sym fresh) ∙ over

      by : (k : Known start plain fit turns) → Has (IsOnLane start (d start plain fit turns k) s place) (trace_of turns (opened_world start))
      by k =
          let book : send_of s (books_in run.books) ≡ (way s (d start plain fit turns k)).send =
          ap (λ (v : WorldState (List ℕ)). send_of s (books_in v.books)) fresh
          ∙ sent_by k s in
          tried_sent k over_now s path place below (ap (λ (b : Sending). tried path (slice_get b.marks place)) (sym book) ∙ is)
