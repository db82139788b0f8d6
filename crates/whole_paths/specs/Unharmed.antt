-- A segment that isn't harmed: a copy of it comes soon.
use Rattle.std.specs.Prelude.{◌+◌, ◌≡◌, ◌<◌, ◌≤◌, ◌⊎◌, true}
use Rattle.sides.specs.declared.side.Side.{Side}
use Rattle.sides.specs.Side.{peer}
use Rattle.link_model.specs.declared.flight.Flight.{Flight}
use Rattle.link_model.specs.Steps.{segments_sent}
use Rattle.stream_lanes.specs.Words.{Has}
use Rattle.path_core.specs.State.{PathState}
use Rattle.whole_paths.specs.Finish.{is_harmed}

module _ {C : Type 0} where
  -- the copy is one of the last segment from this side, and comes within 400 ticks of its sending, twice the longest delay
  pub record ComesUnharmed (s : Side) (p q : PathState C) (f : Flight C) : Type 0 where
    pub to : f.to ≡ peer s
    pub number : f.number ≡ segments_sent s q.link
    pub soon : f.tick ≤ p.clock + 400

  -- As the path becomes another one, and its link took a segment from the side: that is harmed, or a copy comes soon.
  abbrev pub IsHarmedOrComes : Side → PathState C → PathState C → Type 0
  IsHarmedOrComes s p q = segments_sent s p.link < segments_sent s q.link → (is_harmed s p q ≡ true) ⊎ Has (ComesUnharmed s p q) q.link.under_way
