-- Turns of a connection.
use Rattle.std.specs.Prelude.{ℕ, ◌≡◌, ◌&&◌, Bool, true, not, if◌then◌else◌, [], ◌∷◌, ◌++◌}
use Rattle.run_log.specs.declared.turn.Turn.TheVariants.{Step, Round}
use Rattle.path_core.specs.Octets.{octets}
use Rattle.world_core.specs.Cuts.{ShowsAs}
use Rattle.world_core.specs.Kept.{standing}
use Rattle.world_laws.specs.Worlds.{world_step, is_going, all_over, end_round}
use Rattle.connection_table.specs.Tables.{Entry}

-- after a step of an actor: where its turn had ended nothing changed
abbrev pub after_step : ℕ → Entry → Entry
after_step actor e =
    if is_going actor e.world.state
    then record e { turns = e.turns ++ Step actor ∷ []; world = standing (world_step octets actor e.world.state) }
    else e

-- the round may end
abbrev pub ends : Entry → Bool
ends e = not e.world.failed && all_over e.world.state.crew

-- after the end of a round, where it may end
abbrev pub after_end : Entry → Entry
after_end e = if ends e then record e { turns = e.turns ++ Round ∷ []; world = standing (end_round e.world.state) } else e

-- a connection failed for want of memory by a step: its outcome and lists show as they did
pub record IsStopped (before after : Entry) : Type 0 where
  pub input : after.input ≡ before.input
  pub turns : after.turns ≡ before.turns
  pub failed : after.world.failed ≡ true
  pub shows : ShowsAs before.world.state after.world.state
