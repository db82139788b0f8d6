-- A path whose ends stand by at no moment never asks for bytes on standby (RFC 8684, section 3.3.8).
use Rattle.std.specs.Prelude.{ℕ, ◌+◌, ◌≡◌, false, List, ◌++◌}
use Rattle.sides.specs.declared.side.Side.{Side}
use Rattle.path_core.specs.Codec.{Codec}
use Rattle.path_core.specs.State.{PathState, end_at}
use Rattle.world_laws.specs.Openings.{Start}
use Rattle.world_laws.specs.RoundDone.{reached}
use Rattle.world_laws.specs.RoundNumbers.{last_on_standby, steps_since}
use Rattle.world_laws.specs.Worlds.{Turn, WorldState}
use Rattle.whole_paths.specs.Finish.{IsPathAt}

module _ {C : Type 0} where
  -- no end of the path of this number stands by
  abbrev pub ServesAt : ℕ → WorldState C → Type 0
  ServesAt number w = (p : PathState C) → IsPathAt number w p → (s : Side) → (end_at s p).modes.standby ≡ false

  -- Where none does after any of the first of these turns, the path didn't stand by when it asked last, however many of its steps are left out.
  abbrev pub WhoServesAsksSo : Codec C → Type 0
  WhoServesAsksSo k = (start : Start) (number : ℕ) (turns : List Turn) → ((ts us : List Turn) → ts ++ us ≡ turns → ServesAt number (reached k start ts))
      → (begun : WorldState C) (s : Side) → last_on_standby s false (steps_since (2 + number) begun (reached k start turns)) ≡ false

  -- Where none does after these turns, nor after any of the first of more, the path didn't stand by when it asked last in those, if it did.
  abbrev pub WhoServesSinceAsksSo : Codec C → Type 0
  WhoServesSinceAsksSo k = (start : Start) (number : ℕ) (since more : List Turn) → ((ts us : List Turn) → ts ++ us ≡ more → ServesAt number (reached k start (since ++ ts)))
      → (s : Side) → last_on_standby s false (steps_since (2 + number) (reached k start since) (reached k start (since ++ more))) ≡ false
