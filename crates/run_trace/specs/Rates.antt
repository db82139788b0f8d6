-- What the ends of the paths measure, how much they may have under way, and what waits before their links.
use Rattle.std.specs.Prelude.{◌≡◌, ℕ, option_map, List, [], ◌∷◌, ◌++◌, length}
use Rattle.std.specs.List.{flat_map}
use Rattle.std.specs.Option.{option_to_list}
use Rattle.sides.specs.declared.side.Side.{Side}
use Rattle.sides.specs.declared.side.Side.TheVariants.{A, B}
use Rattle.link_trace.specs.declared.rows.Rate.{Rate}
use Rattle.link_trace.specs.declared.rows.Rates.{Rates}
use Rattle.path_core.specs.Looking.{congestion_window, octets_waiting, retransmission_timeout, slow_start_threshold, smoothed_rtt}
use Rattle.path_core.specs.Octets.{octets}
use Rattle.path_core.specs.State.{PathState}
use Rattle.world_core.specs.Looking.{member_path}
use Rattle.world_laws.specs.Actors.{ActorCrew}
use Rattle.world_laws.specs.Openings.{Start, opened_world}
use Rattle.world_laws.specs.Worlds.{Turn, WorldState, after_turn, world_run}

module _ {C : Type 0} where
  -- of a side's end
  abbrev pub rate_at : Side → PathState C → Rate
  rate_at side p = record {
    window = congestion_window side p;
    threshold = slow_start_threshold side p;
    rtt = smoothed_rtt side p;
    timeout = retransmission_timeout side p;
    waiting = octets_waiting side p;
  }

  abbrev pub rates_in : PathState C → Rates
  rates_in p = record { a = rate_at A p; b = rate_at B p }

  -- the rates of each path among these actors, in their order: path 0 first
  abbrev pub rates_of : List (ActorCrew C) → List Rates
  rates_of crew = flat_map (λ c. option_to_list (option_map rates_in (member_path c.member))) crew

-- all paths as the turn ends a round
abbrev pub measured_at : Turn → WorldState (List ℕ) → List Rates
measured_at (Turn.Step actor) w = []
measured_at Turn.Round w = rates_of w.crew

-- as each round of these turns ends, one after the other
abbrev pub measured_in : List Turn → WorldState (List ℕ) → List Rates
measured_in [] w = []
measured_in (turn ∷ turns) w = measured_at turn w ++ measured_in turns (after_turn octets turn w)

-- After any turns each path of a connection has them, and nobody else.
abbrev pub EachPathHasItsRates : Type 0
EachPathHasItsRates =
    (start : Start) (turns : List Turn) → length (rates_of (world_run octets turns (opened_world start)).crew) ≡ length start.paths
