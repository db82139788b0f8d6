-- What a turn of a log makes of a run under way.
use Rattle.std.proofs.Common.{◌≡◌, refl, sym, ◌∙◌, ap, subst, ℕ, Bool, true, false, not, ◌&&◌, inr, List, [], ◌∷◌, map, length, Result, Ok, Err, IfErr, OnErr, Option}
use Rattle.std.proofs.lemmas.List.{length-map}
use Rattle.outside_kit.specs.Outside.{Told}
use Rattle.path_core.specs.Octets.{octets}
use Rattle.world_core.specs.Kept.{Kept, standing}
use Rattle.world_laws.specs.Actors.{ActorCrew}
use Rattle.world_laws.specs.Fine.{lists_of}
use Rattle.world_laws.specs.Worlds.{world_step, all_over, end_round, greatest}
use Rattle.mptcp_run.specs.declared.rounds.Run.{Run}
use Rattle.run_outside.specs.declared.status.Status.{Status}
use Rattle.run_outside.specs.declared.status.Status.TheVariants.{Put, Memory}
use Rattle.run_outside.specs.Plan.{AddsCut}
use Rattle.mptcp_run.specs.Plan.{round_puts}
use Rattle.run_outside.specs.Ports.{IsPortsFault}
use Rattle.mptcp_run.specs.Replaying.{GoesOn, UnderWay, TurnStops, round_turn}
use Rattle.mptcp_run.specs.Rounds.{AtRound, HoldsPart}
use Rattle.mptcp_run.specs.Task.{Connection}
use Rattle.world_core.specs.Weaving.{AllGrewAbove, IsSince}
use Rattle.mptcp_run.proofs.UnderWay.{step_goes, begins_going, lists_at_end, next_begins}
use Rattle.mptcp_run.proofs.AllTurns.{since_length}

pub under_since : (last : Connection) (run : Run) → UnderWay last run → IsSince last run.made.items run.world.state
under_since last run h = record { made_is = h.made_is; grew = h.goes_on.grew }

pub under_length : (last : Connection) (run : Run) → UnderWay last run → length run.made.items ≡ length run.world.state.crew
under_length last run h = since_length run.made.items last run.world.state (under_since last run h)

pub end_since : (last : Connection) (run : Run) → UnderWay last run → IsSince last run.made.items (end_round run.world.state)
end_since last run h = record {
  made_is = h.made_is;
  grew = subst (λ lists. AllGrewAbove (greatest 0 last.crew) (lists_of last.crew) lists) (sym (lists_at_end run.world.state)) h.goes_on.grew;
}

pub end_length : (w : Connection) → length (end_round w).crew ≡ length w.crew
end_length w =
    sym (length-map (end_round w).crew (λ (c : ActorCrew (List ℕ)). c.list)) ∙ ap (λ lists. length lists) (lists_at_end w)
    ∙ length-map w.crew (λ (c : ActorCrew (List ℕ)). c.list)

-- a round begins
pub under_begins : (run : Run) → AtRound run → UnderWay run.world.state run
under_begins run h = record { stands = h.stands; begins = h.begins; made_is = h.made_is; goes_on = begins_going run.world.state h.begins }

-- a step
pub under_step : (last : Connection) (run new : Run) (actor : ℕ) → UnderWay last run → new.world ≡ standing (world_step octets actor run.world.state)
    → new.made.items ≡ run.made.items → UnderWay last new
under_step last run new actor h world made = record {
  stands = ap (λ (k : Kept). k.failed) world;
  begins = h.begins;
  made_is = made ∙ h.made_is;
  goes_on = subst (λ (k : Kept). GoesOn last k.state) (sym world) (step_goes last run.world.state actor h.goes_on);
}

-- the end of a round
pub under_end : (last : Connection) (run new : Run) → UnderWay last run → all_over run.world.state.crew ≡ true → new.world ≡ standing (end_round run.world.state)
    → new.made.items ≡ map length (lists_of (end_round run.world.state).crew) → UnderWay (end_round run.world.state) new
under_end last run new h over world made =
    let begins = next_begins (greatest 0 last.crew) run.world.state h.goes_on.fine over in
    record {
      stands = ap (λ (k : Kept). k.failed) world;
      begins = begins;
      made_is = made;
      goes_on = subst (λ (k : Kept). GoesOn (end_round run.world.state) k.state) (sym world) (begins_going (end_round run.world.state) begins);
    }

-- a round that wasn't put whole
pub round_stops : (opening : Option (List ℕ)) (number : ℕ) (last w : Connection) (line : ℕ) (a b : Told)
    (r : Result (Unit {0}) Status) → all_over w.crew ≡ true → IfErr r (IsPortsFault a.port_faults b.port_faults) → OnErr r (HoldsPart opening number last [] (end_round w ∷ []) a.holds b.holds)
    → IfErr r (λ status. AddsCut (round_puts opening number last (end_round w)) status a.calls b.calls) → IfErr r (TurnStops opening number round_turn last w line a b)
round_stops opening number last w line a b (Ok x) over cause part cut = tt
round_stops opening number last w line a b (Err status) over cause part cut = by status cause cut
  where
    by : (status : Status) → IsPortsFault a.port_faults b.port_faults status → AddsCut (round_puts opening number last (end_round w)) status a.calls b.calls
        → TurnStops opening number round_turn last w line a b status
    by (Put p) cause cut = inr (over, (part, cut))
    by Memory cause cut = inr (over, (part, cut))
    by _ cause cut = absurd cause

-- a round didn't end, though the world stands: some turn isn't over
pub not_over : (failed over result : Bool) → result ≡ (not failed && over) → failed ≡ false → result ≡ false → over ≡ true → ⊥
not_over failed over result is stands none whole = cc (is, stands, none, whole)

-- a round ended: the world hadn't failed, and each turn was over
pub ended_parts : (failed over result : Bool) → result ≡ (not failed && over) → result ≡ true → (failed ≡ false) × (over ≡ true)
ended_parts false true result is told = (refl, refl)
ended_parts false false result is told = cc (is, told)
ended_parts true over result is told = cc (is, told)
