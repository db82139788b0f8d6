-- The window comes that an end waits for, by the exchange of its probe.
use Rattle.std.proofs.Common.{◌≡◌, sym, subst, ◌⊎◌, inl, inr, ⊎_elim, ℕ, ◌+◌, ◌-◌, ◌^◌, ◌<◌, arith, Some, List}
use Rattle.std.specs.List.{slice_get}
use Rattle.std.proofs.lemmas.Bool.{cases_lt}
use Rattle.sides.specs.declared.side.Side.{Side}
use Rattle.sides.specs.Side.{peer}
use Rattle.link_model.specs.Steps.{segments_sent}
use Rattle.actor_desk.specs.Books.{StampedBooks, books_in}
use Rattle.actor_desk.specs.Desk.{SixBooks, send_of}
use Rattle.actor_desk.specs.declared.ask.Note.{Note}
use Rattle.path_core.specs.State.{PathState}
use Rattle.path_core.specs.Values.{Carried, values}
use Rattle.world_laws.specs.declared.member.Member.TheVariants.{App, Path}
use Rattle.world_laws.specs.Actors.{Actor, ActorCrew}
use Rattle.world_laws.specs.Openings.{Start, opened_world}
use Rattle.world_laws.specs.Promises.{HasRoom, NumbersFit}
use Rattle.world_laws.specs.Worlds.{Turn, after_turn, world_run}
use Rattle.whole_paths.specs.Awaited.{AwaitedGoesOn, AwaitingBegins, AwaitingIsDue, EachWindowComes, IsAwaited}
use Rattle.whole_paths.specs.Between.{PathsBetween}
use Rattle.whole_paths.specs.Exchanges.{LetsThrough}
use Rattle.whole_paths.specs.Offered.{AsksFirst, OffersOn}
use Rattle.whole_paths.specs.Probes.{AskTurns, IsProbed, ProbesAreDue, ProbesBegin, ProbesGoOn}
use Rattle.whole_paths.specs.Probes.{AskTurns as goes}
use Rattle.whole_paths.proofs.Acking.{same_actor}
use Rattle.whole_paths.proofs.Exchanges.{OfPaths}
use Rattle.whole_paths.proofs.Offered.{sends_offers, what_is_taken_is_offered}
use Rattle.whole_paths.proofs.Probes.{each_probe_is_answered}

-- ---- a turn

module _ (six after : SixBooks) (steps : List Note) (p q : PathState Carried) (probes : ProbesGoOn six after steps p q) (offers : OffersOn six after steps p q) (s : Side) (at until : ℕ) where
  abbrev Still : Type 0
  Still = IsAwaited after s at until q ⊎ ((send_of s six).edge < (send_of s after).edge)

  awaited_on : IsAwaited six s at until p → AskTurns (IsProbed after s at until q) s until steps p q → AskTurns Still s until steps p q
  awaited_on h (goes.on on) = goes.on (⊎_elim
      (λ rose. inr rose)
      (λ low. inl (record { below = (let less = h.below in omega (arith, less, low)); probed = on; offered = offers (peer s) (at + 31) h.offered }))
      (cases_lt (send_of s six).edge (send_of s after).edge))
  awaited_on h (goes.record_waits r arrival low none first way) = goes.record_waits r arrival low none first way
  awaited_on h (goes.done none) = goes.done none
  awaited_on h (goes.held_up is) = goes.held_up is
  awaited_on h (goes.awry is) = goes.awry is

  awaited_goes : LetsThrough p → ((t : Side) → segments_sent t p.link < 2 ^ 64 - 1) → IsAwaited six s at until p → AskTurns Still s until steps p q
  awaited_goes faithful few h = awaited_on h (probes faithful s at until few (sends_offers six (peer s) (at + 31) p h.offered) h.probed)

-- ---- the world

awaited_by : (books after : StampedBooks) (steps : List Note) (m n : Actor Carried) → PathsBetween ProbesGoOn books after steps m n → PathsBetween OffersOn books after steps m n → PathsBetween AwaitedGoesOn books after steps m n
awaited_by books after steps (App a) (App b) probes offers = tt
awaited_by books after steps (Path p) (Path q) probes offers = λ faithful s at until few h. awaited_goes (books_in books) (books_in after) steps p q probes offers s at until faithful few h
awaited_by books after steps (App a) (Path q) probes offers = absurd probes
awaited_by books after steps (Path p) (App b) probes offers = absurd probes

awaited_by_turns : (start : Start) (turns : List Turn) → HasRoom start → NumbersFit start → let w = world_run values turns (opened_world start) in
    (turn : Turn) (actor : ℕ) (c : ActorCrew Carried) → slice_get w.crew actor ≡ Some c → let v = after_turn values turn w in
    (d : ActorCrew Carried) × (slice_get v.crew actor ≡ Some d) × PathsBetween AwaitedGoesOn w.books v.books d.list c.member d.member
awaited_by_turns start turns size fit turn actor c at =
    let w = world_run values turns (opened_world start) in
    let v = after_turn values turn w in
    let probes = each_probe_is_answered.goes_on start turns size fit turn actor c at in
    let d : ActorCrew Carried = probes.0 in (
      d,
      probes.1,
      awaited_by w.books v.books d.list c.member d.member probes.2
          (same_actor (λ x. PathsBetween OffersOn w.books v.books x.list c.member x.member) v actor d probes.1 ((what_is_taken_is_offered values).goes_on w turn actor c at)),
    )

awaiting_begins : (six : SixBooks) (m : Actor Carried) → OfPaths (ProbesBegin six) m → OfPaths (AwaitingBegins six) m
awaiting_begins six (App a) begins = tt
awaiting_begins six (Path p) begins = λ over s living no_record out at below takes.
    record { below = below; probed = begins over s living no_record out at; offered = record { taken = takes; offered = inr (subst (λ ds. AsksFirst (peer s) ds) (sym over) tt) } }

awaiting_due : (six : SixBooks) (m : Actor Carried) → OfPaths (ProbesAreDue six) m → OfPaths (AwaitingIsDue six) m
awaiting_due six (App a) due = tt
awaiting_due six (Path p) due = λ over s living at until late h. (let reached = due over s living at until h.probed late in let less = h.below in omega (arith, reached, less))

pub each_window_comes : EachWindowComes
each_window_comes = record {
  in_time = λ start turns. let w = world_run values turns (opened_world start) in let probes = each_probe_is_answered.in_time start turns in record {
    begin = λ actor c at. awaiting_begins (books_in w.books) c.member (probes.begin actor c at);
    due = λ actor c at. awaiting_due (books_in w.books) c.member (probes.due actor c at);
  };
  goes_on = awaited_by_turns;
}
